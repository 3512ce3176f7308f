-- Harmony makes the write sets of transactions under way disjoint, so that their overlay is the same in any order.
use Rattle.std.proofs.Common.{◌≡◌, ◌⊎◌, inl, inr, ⊎_elim, ℕ, List, [], ◌∷◌, true, false, Option, Some, None, refl, sym, ap, subst, ◌∙◌, map}
use Rattle.std.specs.Prelude.{◌==◌, IsSome, unwrap_or}
use Rattle.std.specs.FinMap.{get, same_map}
use Rattle.std.proofs.lemmas.Bool.{eqb-true, eqb-false}
use Rattle.shore_types.specs.Ids.{rids_total, exact_rids}
use Rattle.shore_types.specs.declared.ids.Rid.{Rid}
use Rattle.shore_model.specs.declared.holds.Hold.{Hold}
use Rattle.shore_model.specs.Records.{Records, WriteSet, overlay, overlays}
use Rattle.shore_model.proofs.Overlays.{get-overlay}
use Rattle.shore_types.specs.Images.{Image}
use Rattle.laws_lives.proofs.Views.{read_of_write, some_or_none, writer_excludes, written_or_not}
use Rattle.laws_lives.specs.Views.{IsAmong, Stand}

module _ (w : ℕ → WriteSet) (id : Rid) where
  -- an id that none of them has written
  pub unwritten : (R : Records) (ts : List ℕ) → ((t : ℕ) → IsAmong t ts → get (w t) id ≡ None) → get (overlays R (map w ts)) id ≡ get R id
  unwritten R [] none = refl
  unwritten R (t ∷ ts) none =
      unwritten (overlay R (w t)) ts (λ u a. none u (inr a)) ∙ get-overlay R (w t) id ∙ ap (λ o. unwrap_or o (get R id)) (none t (inl refl))

  -- those that have written the id have written this image
  abbrev pub OneImage : Image → List ℕ → Type 0
  OneImage image ts = (t : ℕ) → IsAmong t ts → (get (w t) id ≡ None) ⊎ (get (w t) id ≡ Some image)

  -- from the records that have it already
  settled : (image : Image) (R : Records) (ts : List ℕ) → OneImage image ts → get R id ≡ image → get (overlays R (map w ts)) id ≡ image
  settled image R [] one at = at
  settled image R (t ∷ ts) one at =
      settled image (overlay R (w t)) ts (λ u a. one u (inr a))
      (get-overlay R (w t) id ∙ ⊎_elim (λ none. ap (λ o. unwrap_or o (get R id)) none ∙ at) (λ some. ap (λ o. unwrap_or o (get R id)) some) (one t (inl refl)))

  -- an id that one of them has written
  pub found : (image : Image) (R : Records) (ts : List ℕ) (t : ℕ) → OneImage image ts → IsAmong t ts → get (w t) id ≡ Some image
      → get (overlays R (map w ts)) id ≡ image
  found image R [] t one a some = absurd a
  found image R (u ∷ ts) t one a some =
      ⊎_elim
      (λ same. settled image (overlay R (w u)) ts (λ v b. one v (inr b))
      (get-overlay R (w u) id ∙ ap (λ o. unwrap_or o (get R id)) (subst (λ v. get (w v) id ≡ Some image) (sym same) some)))
      (λ later. found image (overlay R (w u)) ts t (λ v b. one v (inr b)) later some)
      a

pub has_image : (o : Option Image) → IsSome o → (image : Image) × (o ≡ Some image)
has_image None h = cc
has_image (Some image) h = (image, refl)

module _ {held : List Hold} {now R : Records} {ts : List ℕ} {w : ℕ → WriteSet} (k : Stand held now R ts w) where
  -- by harmony nobody else has written what one has
  pub one_image : (id : Rid) (t : ℕ) (image : Image) → IsAmong t ts → get (w t) id ≡ Some image → OneImage w id image ts
  one_image id t image a some u b =
      ⊎_elim
      (λ one_written. inr (elim (t == u) as (λ x. (t == u) ≡ x → get (w u) id ≡ Some image) [
        | true ↦ λ e. subst (λ v. get (w v) id ≡ Some image) (eqb-true t u e) some
        | false ↦ λ e. absurd (writer_excludes k t u id (eqb-false t u e) ((k.each t a).locked id (subst IsSome (sym some) refl)) (read_of_write held u id ((k.each u b).locked id one_written)))
      ] refl))
      (λ none. inl none)
      (some_or_none (get (w u) id))

  pub is_overlaid : R ≡ overlays now (map w ts)
  is_overlaid = same_map rids_total exact_rids _ _ (λ id.
      ⊎_elim
      (λ writer.
      let t = writer.0 in
      let image = has_image (get (w t) id) writer.2 in
      (k.each t writer.1).view id (read_of_write held t id ((k.each t writer.1).locked id writer.2))
      ∙ get-overlay now (w t) id ∙ ap (λ o. unwrap_or o (get now id)) image.1
      ∙ sym (found w id image.0 now ts t (one_image id t image.0 writer.1 image.1) writer.1 image.1))
      (λ nobody. k.others id nobody ∙ sym (unwritten w id now ts nobody))
      (written_or_not w id ts))
