-- What a transaction sees behind one image more.
use Rattle.std.proofs.Common.{◌≡◌, ◌≢◌, ℕ, List, Bool, true, false, cond, Option, Some, None, refl, sym, subst, ap, ◌∙◌}
use Rattle.std.specs.Prelude.{unwrap_or}
use Rattle.std.specs.Ordering.{eq_by_cmp}
use Rattle.std.specs.Cmp.{eq_by_cmp_equiv}
use Rattle.std.specs.FinMap.{get, get-insert, insert}
use Rattle.std.proofs.lemmas.Map.Views.{tells_apart}
use Rattle.shore_types.specs.Ids.{rid_cmp, rids_total, exact_rids}
use Rattle.shore_types.specs.Images.{Image}
use Rattle.shore_types.specs.declared.ids.Rid.{Rid}
use Rattle.shore_model.specs.declared.progress.Progress.{Progress}
use Rattle.shore_model.specs.Records.{Records, overlay}
use Rattle.shore_model.proofs.Overlays.{get-overlay}
use Rattle.shore_keys.specs.Calls.{removed, wrote}
use Rattle.shore_keys.specs.Exchanges.{seen}

told_apart : (q id : Rid) → q ≢ id → eq_by_cmp rid_cmp q id ≡ false
told_apart q id apart =
    elim (eq_by_cmp rid_cmp q id) as (λ b. eq_by_cmp rid_cmp q id ≡ b → eq_by_cmp rid_cmp q id ≡ false) [
      | true ↦ λ e. absurd (apart (tells_apart exact_rids q id e))
      | false ↦ λ e. e
    ] refl

pub seen_here : (R : Records) (p : Progress) (id : Rid) (bytes : List ℕ) → get (seen R (wrote p id bytes)) id ≡ Some bytes
seen_here R p id bytes =
    get-overlay R (wrote p id bytes).writes id
    ∙ ap (λ o. unwrap_or o (get R id)) (get-insert rids_total p.writes id (Some bytes) id ∙ ap (λ b. cond b (Some (Some bytes)) (get p.writes id)) ((eq_by_cmp_equiv rids_total).refl id))

pub seen_there : (R : Records) (p : Progress) (id : Rid) (bytes : List ℕ) (q : Rid) → q ≢ id → get (seen R (wrote p id bytes)) q ≡ get (seen R p) q
seen_there R p id bytes q apart =
    get-overlay R (wrote p id bytes).writes q
    ∙ ap (λ o. unwrap_or o (get R q)) (get-insert rids_total p.writes id (Some bytes) q ∙ ap (λ b. cond b (Some (Some bytes)) (get p.writes q)) (told_apart q id apart))
    ∙ sym (get-overlay R p.writes q)

pub seen_without : (R : Records) (p : Progress) (id : Rid) (q : Rid) → q ≢ id → get (seen R (removed p id)) q ≡ get (seen R p) q
seen_without R p id q apart =
    get-overlay R (removed p id).writes q
    ∙ ap (λ o. unwrap_or o (get R q)) (get-insert rids_total p.writes id None q ∙ ap (λ b. cond b (Some None) (get p.writes q)) (told_apart q id apart))
    ∙ sym (get-overlay R p.writes q)

pub absent_apart : (R : Records) (id q : Rid) (b : List ℕ) → get R id ≡ None → get R q ≡ Some b → q ≢ id
absent_apart R id q b none there same = clash (sym there ∙ ap (λ q. get R q) same ∙ none)
  where
    clash : Some b ≡ None → ⊥
    clash e = cc
