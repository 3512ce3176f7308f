-- Maps from record ids, looked at one id at a time.
use Rattle.std.proofs.Common.{◌≡◌, ◌⊎◌, inl, inr, ℕ, Bool, true, false, cond, Some, None, refl, sym, ap, ◌∙◌}
use Rattle.std.specs.Prelude.{◌==◌, unwrap_or}
use Rattle.std.specs.Ordering.{eq_by_cmp}
use Rattle.std.specs.Cmp.{eq_by_cmp_equiv}
use Rattle.std.specs.FinMap.{empty, entries, entries_sorted, find, get, get-entries, get-insert, insert, len-empty, len-entries}
use Rattle.std.proofs.lemmas.List.{nil_from_length}
use Rattle.std.specs.declared.cmp.Ordering.TheVariants.{Equal}
use Rattle.std.proofs.lemmas.Bool.{eqb-true}
use Rattle.std.specs.FinMap.Entries.{is_sorted-where_key, find-where_key, same_entries}
use Rattle.std.proofs.lemmas.Map.Views.{tells_apart}
use Rattle.shore_types.specs.Ids.{rid_cmp, rids_total, exact_rids}
use Rattle.shore_types.specs.declared.ids.Rid.{Rid}
use Rattle.shore_model.specs.Records.{Records, WriteSet, laid_over, overlay, put_image, scan_of}
use Rattle.shore_model.proofs.Overlays.{get-overlay, get-put_image}
use Rattle.shore_types.specs.Images.{Image}

-- two ids are the same, or a map tells them apart
pub told_apart : (q id : Rid) → (q ≡ id) ⊎ (eq_by_cmp rid_cmp q id ≡ false)
told_apart q id =
    elim (eq_by_cmp rid_cmp q id) as (λ b. eq_by_cmp rid_cmp q id ≡ b → (q ≡ id) ⊎ (eq_by_cmp rid_cmp q id ≡ false)) [
      | true ↦ λ e. inl (tells_apart exact_rids q id e)
      | false ↦ λ e. inr e
    ] refl

same_told : (id : Rid) → eq_by_cmp rid_cmp id id ≡ true
same_told id = (eq_by_cmp_equiv rids_total).refl id

-- an image put in place is found at its id, and changes no other
pub put_here : (R : Records) (id : Rid) (image : Image) → get (put_image R id image) id ≡ image
put_here R id image = get-put_image R id image id ∙ ap (λ b. cond b image (get R id)) (same_told id)

pub put_there : (R : Records) (id : Rid) (image : Image) (q : Rid) → eq_by_cmp rid_cmp q id ≡ false → get (put_image R id image) q ≡ get R q
put_there R id image q e = get-put_image R id image q ∙ ap (λ b. cond b image (get R q)) e

-- so is one that is written
pub wrote_here : (W : WriteSet) (id : Rid) (image : Image) → get (insert W id image) id ≡ Some image
wrote_here W id image = get-insert rids_total W id image id ∙ ap (λ b. cond b (Some image) (get W id)) (same_told id)

pub wrote_there : (W : WriteSet) (id : Rid) (image : Image) (q : Rid) → eq_by_cmp rid_cmp q id ≡ false → get (insert W id image) q ≡ get W q
wrote_there W id image q e = get-insert rids_total W id image q ∙ ap (λ b. cond b (Some image) (get W q)) e

-- one write set, over maps that agree at the id
pub overlays_agree : (R S : Records) (W : WriteSet) (id : Rid) → get S id ≡ get R id → get (overlay S W) id ≡ get (overlay R W) id
overlays_agree R S W id e = get-overlay S W id ∙ ap (unwrap_or (get W id)) e ∙ sym (get-overlay R W id)

-- A scan is what the map has at the ids of its store, of those too that have nothing.
pub scans_agree : (s : ℕ) (R S : Records) → ((id : Rid) → id.page.store ≡ s → get S id ≡ get R id) → scan_of s S ≡ scan_of s R
scans_agree s R S agree =
    let p : Rid → Bool = λ id. id.page.store == s in
    let alike : (q x : Rid) → rid_cmp q x ≡ Equal → p x ≡ p q = λ q x e. ap p (sym (exact_rids q x e)) in
    let found : (q : Rid) → cond (p q) (find rid_cmp q (entries S)) None ≡ cond (p q) (find rid_cmp q (entries R)) None =
    λ q. elim (p q) as (λ b. p q ≡ b → cond b (find rid_cmp q (entries S)) None ≡ cond b (find rid_cmp q (entries R)) None) [
      | true ↦ λ e. sym (get-entries S q) ∙ agree q (eqb-true q.page.store s e) ∙ get-entries R q
      | false ↦ λ e. refl
    ] refl in
    same_entries rid_cmp rids_total exact_rids (scan_of s S) (scan_of s R)
    (is_sorted-where_key rid_cmp p (entries S) (entries_sorted S)) (is_sorted-where_key rid_cmp p (entries R) (entries_sorted R))
    (λ q. find-where_key rid_cmp p q (alike q) (entries S) ∙ found q ∙ sym (find-where_key rid_cmp p q (alike q) (entries R)))

-- nothing written, nothing changed
pub overlay_empty : (R : Records) → overlay R empty ≡ R
overlay_empty R = ap (laid_over R) (nil_from_length _ (sym (len-entries (empty {X = Image} {R = rid_cmp})) ∙ len-empty rid_cmp Image))
