-- Histories that no manager makes.
use Rattle.std.proofs.Common.{◌≡◌, ◌≢◌, ℕ, zero, suc, Bool, List, [], ◌∷◌, true, false, cond, Some, None, refl, sym, ap, subst, ◌∙◌, Option, map}
use Rattle.std.specs.Prelude.{IsSome, IsSomeAnd, slice_get, take, unwrap_or}
use Rattle.std.specs.FinMap.{empty, get, get-empty, insert}
use Rattle.shore_types.specs.Ids.{rid_cmp}
use Rattle.shore_types.specs.declared.ids.Rid.{Rid}
use Rattle.shore_model.specs.declared.calls.Answer.TheVariants.{Got}
use Rattle.shore_model.specs.declared.histories.Decision.{Decision}
use Rattle.shore_model.specs.declared.histories.Decision.TheVariants.{Commit, Prepare}
use Rattle.shore_model.specs.Histories.{Sound, TakesTurn, writes_in}
use Rattle.shore_model.specs.Records.{Records, WriteSet, overlay, overlays}
use Rattle.shore_model.proofs.Overlays.{get-overlay}
use Rattle.laws_lives.proofs.Ids.{wrote_here}
use Rattle.laws_lives.proofs.Views.{overlay_none}
use Rattle.laws_lives.specs.Soundness.{history_from, opening_with}
use Rattle.laws_orders.specs.InTurns.{LeavesTheSame, SoundInOrder, TakesTurnInOrder}
use Rattle.laws_orders.specs.WorkedTurns.{lost_update, read_though_undone, read_too_late, read_too_soon, written_over}

-- ---- what stands there

one_write : Rid → List ℕ → WriteSet
one_write a z = insert empty a (Some z)

untouched : (R : Records) (a : Rid) → get (overlay R empty) a ≡ get R a
untouched R a = overlay_none R empty a (get-empty rid_cmp a)

written : (R : Records) (a : Rid) (z : List ℕ) → get (overlay R (insert empty a (Some z))) a ≡ Some z
written R a z = get-overlay R (insert empty a (Some z)) a ∙ ap (λ image. unwrap_or image (get R a)) (wrote_here empty a (Some z))

may_get : (R : Records) (a : Rid) (x : List ℕ) → get R a ≡ Some x → IsSomeAnd (get (overlay R empty) a) (λ bytes. Got x ≡ Got bytes)
may_get R a x at_a = subst (λ image. IsSomeAnd image (λ bytes. Got x ≡ Got bytes)) (sym (untouched R a ∙ at_a)) refl

may_write : (R : Records) (a : Rid) (x : List ℕ) → get R a ≡ Some x → IsSome (get (overlay R empty) a)
may_write R a x at_a = subst IsSome (sym (untouched R a ∙ at_a)) refl

-- who got these bytes got what stands there
was_there : (R : Records) (a : Rid) (x z : List ℕ) → get R a ≡ Some x → IsSomeAnd (get (overlay R empty) a) (λ bytes. Got z ≡ Got bytes) → z ≡ x
was_there R a x z at_a got = same (subst (λ image. IsSomeAnd image (λ bytes. Got z ≡ Got bytes)) (untouched R a ∙ at_a) got)
  where
    same : Got z ≡ Got x → z ≡ x
    same e = cc

-- ---- three decisions

same_one : (d e : Decision) → Some d ≡ Some e → d ≡ e
same_one d e is = cc

no_fourth : (n : ℕ) (d : Decision) → None ≡ Some d → ⊥
no_fourth n d is = cc

-- what holds at each of the three holds at all places
each_of_three : (P : List Decision → Decision → Type 0) (d e f : Decision) → P [] d → P (d ∷ []) e → P (d ∷ e ∷ []) f
    → (n : ℕ) (c : Decision) → slice_get (d ∷ e ∷ f ∷ []) n ≡ Some c → P (take n (d ∷ e ∷ f ∷ [])) c
each_of_three P d e f p q r zero c at = subst (P []) (same_one d c at) p
each_of_three P d e f p q r (suc zero) c at = subst (P (d ∷ [])) (same_one e c at) q
each_of_three P d e f p q r (suc (suc zero)) c at = subst (P (d ∷ e ∷ [])) (same_one f c at) r
each_of_three P d e f p q r (suc (suc (suc n))) c at = absurd (no_fourth n c at)

-- ---- a lost update

pub lost_is_sound : (o : Records) (a : Rid) (x z v : List ℕ) → get o a ≡ Some x → Sound (history_from (opening_with 2042 o) (lost_update a x z v))
lost_is_sound o a x z v at_a =
    each_of_three (TakesTurn (history_from (opening_with 2042 o) (lost_update a x z v))) (Prepare 1 []) (Commit 2) (Commit 1)
    (((1, refl), (may_get o a x at_a, ((may_write o a x at_a, refl), tt))), refl)
    (((2, refl), (may_get o a x at_a, ((may_write o a x at_a, refl), ((1, refl), tt)))), refl)
    tt

pub lost_is_out_of_order : (o : Records) (a : Rid) (x z v : List ℕ) → get o a ≡ Some x → x ≢ z → SoundInOrder (history_from (opening_with 2042 o) (lost_update a x z v)) → ⊥
lost_is_out_of_order o a x z v at_a other sound =
    other (was_there (overlay o (insert empty a (Some z))) a z x (written o a z) (sound 1 (Commit 2) refl (λ t. true)).0.1.0)

-- ---- wrong reads

pub soon_is_out_of_order : (o : Records) (a : Rid) (x z : List ℕ) → get o a ≡ Some x → x ≢ z → SoundInOrder (history_from (opening_with 2042 o) (read_too_soon a z)) → ⊥
soon_is_out_of_order o a x z at_a other sound = other (sym (was_there o a x z at_a (sound 1 (Commit 2) refl (λ t. false)).0.1.0))

pub late_is_out_of_order : (o : Records) (a : Rid) (x z : List ℕ) → get o a ≡ Some x → x ≢ z → SoundInOrder (history_from (opening_with 2042 o) (read_too_late a x z)) → ⊥
late_is_out_of_order o a x z at_a other sound =
    other (was_there (overlay o (insert empty a (Some z))) a z x (written o a z) (sound 1 (Commit 2) refl (λ t. false)).0.1.0)

pub undone_is_out_of_order : (o : Records) (a : Rid) (x z : List ℕ) → get o a ≡ Some x → x ≢ z → SoundInOrder (history_from (opening_with 2042 o) (read_though_undone a z)) → ⊥
undone_is_out_of_order o a x z at_a other sound = other (sym (was_there o a x z at_a (sound 2 (Commit 2) refl (λ t. true)).0.1.0))

-- ---- write sets that lie over each other

module _ (o : Records) (a : Rid) (x z v : List ℕ) (at_a : get o a ≡ Some x) where
  -- whether transaction 1 counts or not, there is a record
  some_there : (b : Bool) → IsSome (get (overlay (overlays o (map (writes_in (history_from (opening_with 2042 o) (written_over a z v))) (cond b (1 ∷ []) []))) empty) a)
  some_there true = may_write (overlay o (insert empty a (Some z))) a z (written o a z)
  some_there false = may_write o a x at_a

  over_is_sound : SoundInOrder (history_from (opening_with 2042 o) (written_over a z v))
  over_is_sound =
      each_of_three (TakesTurnInOrder (history_from (opening_with 2042 o) (written_over a z v))) (Prepare 1 []) (Commit 2) (Commit 1)
      (λ chosen. (((1, refl), ((may_write o a x at_a, refl), tt)), refl))
      (λ chosen. (((2, refl), ((some_there (chosen 1), refl), ((1, refl), tt))), refl))
      tt

pub over_leaves_other : (o : Records) (a : Rid) (x z v : List ℕ) → get o a ≡ Some x → z ≢ v
    → SoundInOrder (history_from (opening_with 2042 o) (written_over a z v)) × (LeavesTheSame (history_from (opening_with 2042 o) (written_over a z v)) → ⊥)
over_leaves_other o a x z v at_a other = (
  over_is_sound o a x z v at_a,
  λ leaves. other (same (sym (written (overlay o (insert empty a (Some v))) a z) ∙ sym (ap (λ R. get R a) (leaves 3 (λ t. true))) ∙ written (overlay o (insert empty a (Some z))) a v)),
)
  where
    same : ◌≡◌ {A = Option (List ℕ)} (Some z) (Some v) → z ≡ v
    same e = cc
