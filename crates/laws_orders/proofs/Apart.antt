-- Write sets that lie apart may be laid over in any order.
use Rattle.std.proofs.Common.{◌≡◌, ◌≢◌, ◌⊎◌, inl, inr, ⊎_elim, ℕ, List, true, false, Some, None, refl, sym, subst, ◌∙◌, map}
use Rattle.std.specs.Prelude.{◌==◌, IsSome}
use Rattle.std.specs.FinMap.{get, same_map}
use Rattle.std.proofs.lemmas.Bool.{eqb-true, eqb-false}
use Rattle.shore_types.specs.Ids.{rids_total, exact_rids}
use Rattle.shore_types.specs.declared.ids.Rid.{Rid}
use Rattle.shore_types.specs.Images.{Image}
use Rattle.shore_model.specs.Records.{Records, WriteSet, overlays}
use Rattle.laws_lives.proofs.InPlace.{OneImage, found, has_image, unwritten}
use Rattle.laws_lives.proofs.Views.{written_or_not}
use Rattle.laws_lives.specs.Views.{IsAmong}

module _ (w : ℕ → WriteSet) where
  -- no two of them have written one id
  abbrev pub AreApart : List ℕ → Type 0
  AreApart ts = (t u : ℕ) → IsAmong t ts → IsAmong u ts → t ≢ u → (id : Rid) → IsSome (get (w t) id) → get (w u) id ≡ None

  one_image : (ts : List ℕ) → AreApart ts → (id : Rid) (t : ℕ) (image : Image) → IsAmong t ts → get (w t) id ≡ Some image → OneImage w id image ts
  one_image ts apart id t image a is u b =
      elim (t == u) as (λ x. (t == u) ≡ x → (get (w u) id ≡ None) ⊎ (get (w u) id ≡ Some image)) [
        | true ↦ λ e. inr (subst (λ v. get (w v) id ≡ Some image) (eqb-true t u e) is)
        | false ↦ λ e. inl (apart t u a b (eqb-false t u e) id (subst IsSome (sym is) refl))
      ] refl

  -- two lists of the same ones
  pub same_laid : (R : Records) (xs ys : List ℕ) → AreApart xs → ((t : ℕ) → IsAmong t xs → IsAmong t ys) → ((t : ℕ) → IsAmong t ys → IsAmong t xs)
      → overlays R (map w xs) ≡ overlays R (map w ys)
  same_laid R xs ys apart to back = same_map rids_total exact_rids _ _ (λ id.
      ⊎_elim
      (λ writer.
      let t = writer.0 in
      let image = has_image (get (w t) id) writer.2 in
      let one = one_image xs apart id t image.0 writer.1 image.1 in
      found w id image.0 R xs t one writer.1 image.1
      ∙ sym (found w id image.0 R ys t (λ u b. one u (back u b)) (to t writer.1) image.1))
      (λ nobody. unwritten w id R xs nobody ∙ sym (unwritten w id R ys (λ u b. nobody u (back u b))))
      (written_or_not w id xs))
