-- An id for which a transaction has logged an image is in the volume, and its page has its slot.
use Rattle.std.proofs.Common.{◌≡◌, ◌⊎◌, inl, inr, ⊎_elim, ◌++◌, ◌+◌, ◌<◌, ◌≤◌, ℕ, max, List, [], ◌∷◌, Bool, true, false, cond, Option, Some, None, refl, sym, ap, subst, ◌∙◌, arith}
use Rattle.std.specs.Prelude.{◌==◌, IsSome}
use Rattle.std.specs.FinMap.{get, get-empty}
use Rattle.std.specs.List.{AllByRecursion}
use Rattle.std.specs.Ordering.{eq_by_cmp}
use Rattle.std.proofs.lemmas.Bool.{eqb-false, eqb-true}
use Rattle.shore_types.specs.Ids.{page_cmp, rid_cmp}
use Rattle.shore_types.specs.Images.{Image}
use Rattle.shore_types.specs.Layout.{HasSlot}
use Rattle.shore_types.specs.declared.ids.PageId.{PageId}
use Rattle.shore_types.specs.declared.ids.Rid.{Rid}
use Rattle.shore_types.specs.declared.layout.Geometry.{Geometry}
use Rattle.shore_model.specs.declared.log_records.LogRecord.{LogRecord}
use Rattle.shore_model.specs.declared.log_records.Payload.{Payload}
use Rattle.shore_model.specs.declared.log_records.Payload.TheVariants.{Change, Compensation}
use Rattle.shore_model.specs.Logs.{id_in, image_in, logged_writes, with_image}
use Rattle.shore_model.specs.Records.{WriteSet}
use Rattle.shore_analysis.specs.Meant.{IsInBounds}
use Rattle.laws_lives.proofs.OneMore.{by_push}
use Rattle.laws_lives.proofs.Ids.{told_apart, wrote_there}
use Rattle.laws_lives.proofs.Lists.{recursion-last, recursion-unpush}
use Rattle.laws_lives.proofs.LogTells.{logged_other, logged_own}
use Rattle.laws_lives.proofs.Views.{not_some}
use Rattle.laws_runs.proofs.SlotCounts.{behind_here, slot_count-push}
use Rattle.laws_runs.specs.SlotCounts.{slot_count, slots_behind}

-- ---- one record

-- a record that leaves an image at the id
record LeavesAt (p : Payload) (id : Rid) : Type 0 where
  image : Image
  named : id_in p ≡ Some id
  left : image_in p ≡ Some (id, image)

left_or_before : (p : Payload) (W : WriteSet) (id : Rid) → IsSome (get (with_image W (image_in p)) id) → LeavesAt p id ⊎ IsSome (get W id)
left_or_before (Change i was now) W id h =
    ⊎_elim
    (λ same. inl (subst (LeavesAt (Change i was now)) (sym same) (record { image = now; named = refl; left = refl })))
    (λ other. inr (subst IsSome (wrote_there W i now id other) h))
    (told_apart id i)
left_or_before (Compensation i now undo_next) W id h =
    ⊎_elim
    (λ same. inl (subst (LeavesAt (Compensation i now undo_next)) (sym same) (record { image = now; named = refl; left = refl })))
    (λ other. inr (subst IsSome (wrote_there W i now id other) h))
    (told_apart id i)
left_or_before _ W id h = inr h

-- no slot goes away
behind_more : (p : PageId) (o : Option (Rid × Image)) (n : ℕ) → n ≤ slots_behind p o n
behind_more p None n = omega arith
behind_more p (Some e) n = by (eq_by_cmp page_cmp p e.0.page)
  where
    by : (b : Bool) → n ≤ cond b (max n (e.0.slot + 1)) n
    by true = omega arith
    by false = omega arith

-- ---- the log

module _ (g : Geometry) (t : ℕ) where
  record IsKnown (log : List LogRecord) (id : Rid) : Type 0 where
    slot : id.slot < slot_count log id.page
    inside : AllByRecursion (IsInBounds g) log → HasSlot g id

  abbrev KnowsAll : List LogRecord → Type 0
  KnowsAll log = (id : Rid) → IsSome (get (logged_writes log t) id) → IsKnown log id

  module _ (log : List LogRecord) (r : LogRecord) (id : Rid) where
    grown : slot_count (log ++ r ∷ []) id.page ≡ slots_behind id.page (image_in r.payload) (slot_count log id.page)
    grown = slot_count-push log r id.page

    still_known : IsKnown log id → IsKnown (log ++ r ∷ []) id
    still_known k = record {
      slot = let less = k.slot in let more = behind_more id.page (image_in r.payload) (slot_count log id.page) in let is = grown in omega (arith, less, more, is);
      inside = λ all. k.inside (recursion-unpush (IsInBounds g) log r all);
    }

    known_here : LeavesAt r.payload id → IsKnown (log ++ r ∷ []) id
    known_here h = record {
      slot =
          let is = grown ∙ ap (λ o. slots_behind id.page o (slot_count log id.page)) h.left ∙ behind_here (id, h.image) (slot_count log id.page) in
          omega (arith, is);
      inside = λ all. (recursion-last (IsInBounds g) log r all).id id h.named;
    }

  push_knows : (log : List LogRecord) (r : LogRecord) → KnowsAll log → KnowsAll (log ++ r ∷ [])
  push_knows log r k id h =
      elim (r.txn == t) as (λ b. (r.txn == t) ≡ b → IsKnown (log ++ r ∷ []) id) [
        | true ↦ λ e. ⊎_elim (known_here log r id) (λ before. still_known log r id (k id before))
            (left_or_before r.payload (logged_writes log t) id (subst (λ W. IsSome (get W id)) (logged_own log r t (eqb-true r.txn t e)) h))
        | false ↦ λ e. still_known log r id (k id (subst (λ W. IsSome (get W id)) (logged_other log r t (eqb-false r.txn t e)) h))
      ] refl

  knows_all : (log : List LogRecord) → KnowsAll log
  knows_all = by_push KnowsAll (λ id h. absurd (not_some (get-empty rid_cmp id) h)) push_knows

  pub logged_slot : (log : List LogRecord) (id : Rid) → IsSome (get (logged_writes log t) id) → id.slot < slot_count log id.page
  logged_slot log id h = (knows_all log id h).slot

  pub logged_inside : (log : List LogRecord) (id : Rid) → IsSome (get (logged_writes log t) id) → AllByRecursion (IsInBounds g) log → HasSlot g id
  logged_inside log id h all = (knows_all log id h).inside all
