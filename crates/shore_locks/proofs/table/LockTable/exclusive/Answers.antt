use Rattle.std.proofs.Common.{◌≡◌, ◌++◌, ℕ, List, ap, map, subst, sym, ◌∙◌, length, arith}
use Rattle.std.specs.Prelude.{Contains, Some, ◌↔◌}
use Rattle.std.specs.List.Sorted.{IsStrictlySortedBy}
use Rattle.shore_types.specs.Locking.{granule_cmp}
use Rattle.shore_types.specs.declared.locking.Granule.{Granule}
use Rattle.shore_types.specs.declared.locking.Mode.TheVariants.{EX}
use Rattle.shore_model.specs.declared.requests.Request.{Request}
use Rattle.shore_model.specs.Requests.{requests_by}
use Rattle.shore_nodes.specs.Tables.{Table, mode_held}
use Rattle.shore_locks.specs.Listing.{granules_in_ex}
use Rattle.shore_locks.proofs.Exclusives.{listed_few, listed_held, listed_rising}
use Rattle.shore_locks.proofs.table.LockTable.exclusive.Goals as goal

pub returns-clause-held : goal.returns-clause-held
returns-clause-held c g =
    subst (λ (t : Table). Contains c.from_vec.result g ↔ (mode_held c.args.txn g t.requests ≡ Some EX)) c.self.view_is
    (subst (λ (gs : List Granule). Contains gs g ↔ (mode_held c.args.txn g c.self.inside.nodes.requests ≡ Some EX)) (sym c.from_vec.ensures)
    (listed_held c.args.txn (map (λ (p : ℕ × Request). p.1) c.list.result) c.self.inside.nodes.requests c.self.invariant.kept.orderly.one_each
    (c.list.ensures ∙ ap (requests_by c.args.txn) c.nodes.ensures.requests)
    c.append_exclusive.new.granules.items c.sort_unstable.new.self.items
    (c.in_ok-append_exclusive.ensures ∙ ap (λ gs. gs ++ granules_in_ex c.args.txn (map (λ (p : ℕ × Request). p.1) c.list.result)) c.new-granules.ensures.items) c.sort_unstable.ensures.permutation g))

pub returns-clause-order : goal.returns-clause-order
returns-clause-order c =
    subst (IsStrictlySortedBy granule_cmp) (sym c.from_vec.ensures)
    (listed_rising c.args.txn (map (λ (p : ℕ × Request). p.1) c.list.result) c.self.inside.nodes.requests c.self.invariant.kept.orderly.one_each
    (c.list.ensures ∙ ap (requests_by c.args.txn) c.nodes.ensures.requests)
    c.append_exclusive.new.granules.items c.sort_unstable.new.self.items
    (c.in_ok-append_exclusive.ensures ∙ ap (λ gs. gs ++ granules_in_ex c.args.txn (map (λ (p : ℕ × Request). p.1) c.list.result)) c.new-granules.ensures.items) c.sort_unstable.ensures.permutation
    c.sort_unstable.ensures.sorted)

pub returns-clause-few : goal.returns-clause-few
returns-clause-few c =
    let few = listed_few c.args.txn (map (λ (p : ℕ × Request). p.1) c.list.result) c.self.inside.nodes.requests c.self.invariant.kept.orderly.one_each
    (c.list.ensures ∙ ap (requests_by c.args.txn) c.nodes.ensures.requests)
    c.append_exclusive.new.granules.items c.sort_unstable.new.self.items
    (c.in_ok-append_exclusive.ensures ∙ ap (λ gs. gs ++ granules_in_ex c.args.txn (map (λ (p : ℕ × Request). p.1) c.list.result)) c.new-granules.ensures.items) c.sort_unstable.ensures.permutation
    in
    let listed : length c.from_vec.result ≡ length c.sort_unstable.new.self.items = ap length c.from_vec.ensures in
    let table : length c.self.inside.nodes.requests ≡ length c.args.self.now.requests = ap (λ (t : Table). length t.requests) c.self.view_is in
    let limit : c.self.inside.nodes.limit ≡ c.args.self.now.limit = ap (λ (t : Table). t.limit) c.self.view_is in
    omega (arith, few, listed, table, limit, c.self.invariant.kept.within)
