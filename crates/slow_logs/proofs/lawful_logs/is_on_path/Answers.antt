use Rattle.std.proofs.Common.{◌≡◌, ℕ, zero, suc, lit<, ap, arith, sym, ◌∙◌}
use Rattle.std.specs.Prelude.{Contains}
use Rattle.std.proofs.lemmas.Bool.Decides.{Decides-eqb}
use Rattle.shore_types.specs.declared.ids.Rid.{Rid}
use Rattle.shore_types.specs.declared.locking.Granule.TheVariants.{Store, Record}
use Rattle.shore_model.specs.Locks.{path}
use Rattle.slow_logs.proofs.lawful_logs.is_on_path.Goals as goal

-- a record's path has one store, the record's
store_on_path : (id : Rid) (s : ℕ) → s ≡ id.page.store → Contains (path (Record id)) (Store s)
store_on_path id s e = (2, lit< tt, ap Store (sym e))

store_of_path : (id : Rid) (s : ℕ) → Contains (path (Record id)) (Store s) → s ≡ id.page.store
store_of_path id s (zero, within, e) = cc
store_of_path id s (suc zero, within, e) = cc
store_of_path id s (suc (suc zero), within, e) = cc
store_of_path id s (suc (suc (suc zero)), within, e) = cc
store_of_path id s (suc (suc (suc (suc k))), within, e) = absurd (omega arith)

pub returns-in-Store : goal.returns-in-Store
returns-in-Store c =
    let s = c.in-Store.store in
    let id = c.args.id in
    let same = Decides-eqb s id.page.store in
    rw c.in-Store.is (λ yes. store_on_path id s (same.0 (sym c.eq.ensures ∙ yes)), λ on. c.eq.ensures ∙ same.1 (store_of_path id s on))
