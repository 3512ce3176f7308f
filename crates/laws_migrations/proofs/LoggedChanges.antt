-- What the changes of a log leave of pages: how many slots these have, how long the images are that stand there, and those that could come back.
use Rattle.std.proofs.Common.{◌≡◌, ◌⊎◌, inl, inr, ⊎_elim, ◌+◌, ◌<◌, ◌≤◌, ◌++◌, ℕ, max, List, [], ◌∷◌, Bool, true, false, cond, Some, None, refl, sym, ap, subst, ◌∙◌, length, arith}
use Rattle.std.specs.Prelude.{◌==◌, ◌&&◌, Option}
use Rattle.std.specs.List.{AllByRecursion}
use Rattle.std.specs.Ordering.{eq_by_cmp}
use Rattle.std.proofs.lemmas.Bool.{cases_Bool}
use Rattle.std.proofs.lemmas.Map.Views.{tells_apart}
use Rattle.shore_types.specs.Ids.{exact_pages, page_cmp, rid_cmp}
use Rattle.shore_types.specs.Images.{Image, image_len}
use Rattle.shore_types.specs.Layout.{HasSlot}
use Rattle.shore_types.specs.declared.ids.PageId.{PageId}
use Rattle.shore_types.specs.declared.ids.Rid.{Rid}
use Rattle.shore_types.specs.declared.layout.Geometry.{Geometry}
use Rattle.shore_model.specs.declared.log_records.LogRecord.{LogRecord}
use Rattle.shore_model.specs.declared.log_records.Payload.{Payload}
use Rattle.shore_model.specs.declared.log_records.Payload.TheVariants.{Anchor, Change, CheckpointBegin, CheckpointEnd, Commit, Compensation, End, Prepare, RollbackDecided}
use Rattle.shore_model.specs.declared.unanswered_changes.UnansweredChange.{UnansweredChange}
use Rattle.shore_model.specs.Logs.{answered_by, has, id_in, image_in, image_of_record, unanswered}
use Rattle.shore_analysis.specs.Meant.{IsInBounds}
use Rattle.laws_lives.specs.Writers.{changes_id}
use Rattle.laws_lives.proofs.Booleans.{and_true, or_true}
use Rattle.laws_lives.proofs.Lists.{recursion-drop, recursion-last, recursion-unpush, recursion-weaker}
use Rattle.laws_lives.proofs.OneMore.{by_push, has-more, has-this, id_itself, same_id}
use Rattle.laws_lives.proofs.Redo.{image_of_record-push, or_image}
use Rattle.laws_lives.proofs.UnansweredChanges.{unanswered_other, unanswered_own}
use Rattle.laws_lives.proofs.Writers.{same_or_not}
use Rattle.laws_room.specs.Claims.{SlotCounts}
use Rattle.laws_runs.proofs.Opens.{leaves_none}
use Rattle.laws_runs.proofs.SlotCounts.{behind_here, slot_count-push}
use Rattle.laws_runs.specs.SlotCounts.{slot_count, slots_behind}

-- ---- slots

-- no slot goes away
more_behind : (p : PageId) (o : Option (Rid × Image)) (n : ℕ) → n ≤ slots_behind p o n
more_behind p None n = omega arith
more_behind p (Some e) n = by (eq_by_cmp page_cmp p e.0.page)
  where
    by : (b : Bool) → n ≤ cond b (max n (e.0.slot + 1)) n
    by true = omega arith
    by false = omega arith

slot_here : (id i : Rid) (now : Image) (n : ℕ) → eq_by_cmp rid_cmp id i ≡ true → id.slot < slots_behind id.page (Some (i, now)) n
slot_here id i now n is =
    subst (λ q. id.slot < slots_behind id.page (Some (q, now)) n) (same_id id i is)
    (subst (λ k. id.slot < k) (sym (behind_here (id, now) n)) (omega arith))

slot_of : (id : Rid) (p : Payload) (n : ℕ) → changes_id id p ≡ true → id.slot < slots_behind id.page (image_in p) n
slot_of id (Change i was now) n h = slot_here id i now n h
slot_of id (Compensation i now undo_next) n h = slot_here id i now n h
slot_of id Commit n h = cc
slot_of id End n h = cc
slot_of id (Prepare global granules) n h = cc
slot_of id RollbackDecided n h = cc
slot_of id CheckpointBegin n h = cc
slot_of id (CheckpointEnd begin next txns dirty) n h = cc
slot_of id (Anchor checkpoint tail) n h = cc

-- who has changed an id has left its page with its slot
pub slot_there : (id : Rid) (u : ℕ) (log : List LogRecord) → has (changes_id id) u log ≡ true → id.slot < slot_count log id.page
slot_there id u [] h = cc
slot_there id u (r ∷ log) h =
    ⊎_elim
    (λ here. slot_of id r.payload (slot_count log id.page) (and_true (r.txn == u) (changes_id id r.payload) here).1)
    (λ later. let less = slot_there id u log later in let more = more_behind id.page (image_in r.payload) (slot_count log id.page) in omega (arith, less, more))
    (or_true ((r.txn == u) && changes_id id r.payload) (has (changes_id id) u log) h)

named_by : (id : Rid) (p : Payload) → changes_id id p ≡ true → id_in p ≡ Some id
named_by id (Change i was now) h = ap Some (sym (same_id id i h))
named_by id (Compensation i now undo_next) h = ap Some (sym (same_id id i h))
named_by id Commit h = cc
named_by id End h = cc
named_by id (Prepare global granules) h = cc
named_by id RollbackDecided h = cc
named_by id CheckpointBegin h = cc
named_by id (CheckpointEnd begin next txns dirty) h = cc
named_by id (Anchor checkpoint tail) h = cc

-- .. and the id lies in the geometry
pub changed_inside : (g : Geometry) (id : Rid) (u : ℕ) (log : List LogRecord) → AllByRecursion (IsInBounds g) log → has (changes_id id) u log ≡ true → HasSlot g id
changed_inside g id u [] all h = cc
changed_inside g id u (r ∷ log) all h =
    ⊎_elim
    (λ here. all.0.id id (named_by id r.payload (and_true (r.txn == u) (changes_id id r.payload) here).1))
    (λ later. changed_inside g id u log all.1 later)
    (or_true ((r.txn == u) && changes_id id r.payload) (has (changes_id id) u log) h)

-- behind the last slot nothing stands
pub none_or_slot : (id : Rid) (log : List LogRecord) → (image_of_record log id ≡ None) ⊎ (id.slot < slot_count log id.page)
none_or_slot id = by_push (λ log. (image_of_record log id ≡ None) ⊎ (id.slot < slot_count log id.page)) (inl (leaves_none id)) one_more
  where
    put : (i : Rid) (now image : Image) (n : ℕ) → (image ≡ None) ⊎ (id.slot < n) → (cond (eq_by_cmp rid_cmp id i) now image ≡ None) ⊎ (id.slot < slots_behind id.page (Some (i, now)) n)
    put i now image n before = ⊎_elim
        (λ is. inr (slot_here id i now n is))
        (λ off. ⊎_elim
        (λ none. inl (ap (λ b. cond b now image) off ∙ none))
        (λ less. inr (let more = more_behind id.page (Some (i, now)) n in omega (arith, less, more)))
        before)
        (cases_Bool (eq_by_cmp rid_cmp id i))

    by : (p : Payload) (image : Image) (n : ℕ) → (image ≡ None) ⊎ (id.slot < n) → (or_image (image_in p) id image ≡ None) ⊎ (id.slot < slots_behind id.page (image_in p) n)
    by (Change i was now) image n before = put i now image n before
    by (Compensation i now undo_next) image n before = put i now image n before
    by _ image n before = before

    one_more : (log : List LogRecord) (r : LogRecord) → (image_of_record log id ≡ None) ⊎ (id.slot < slot_count log id.page)
        → (image_of_record (log ++ r ∷ []) id ≡ None) ⊎ (id.slot < slot_count (log ++ r ∷ []) id.page)
    one_more log r before = ⊎_elim
        (λ none. inl (image_of_record-push log r id ∙ none))
        (λ less. inr (subst (λ n. id.slot < n) (sym (slot_count-push log r id.page)) less))
        (by r.payload (image_of_record log id) (slot_count log id.page) before)

-- ---- changes that take no more than they may

-- No image of a change is longer than its id may have, and its page may have the slot.
abbrev pub TakesNoMore : (Rid → ℕ) → SlotCounts → Payload → Type 0
TakesNoMore most counts (Change id before after) = (image_len before ≤ most id) × (image_len after ≤ most id) × (id.slot < counts id.page)
TakesNoMore most counts (Compensation id after undo_next) = (image_len after ≤ most id) × (id.slot < counts id.page)
TakesNoMore most counts Commit = Unit {0}
TakesNoMore most counts End = Unit {0}
TakesNoMore most counts (Prepare global granules) = Unit {0}
TakesNoMore most counts RollbackDecided = Unit {0}
TakesNoMore most counts CheckpointBegin = Unit {0}
TakesNoMore most counts (CheckpointEnd begin next txns dirty) = Unit {0}
TakesNoMore most counts (Anchor checkpoint tail) = Unit {0}

module _ (most : Rid → ℕ) (counts : SlotCounts) where
  abbrev pub AllTakeNoMore : List LogRecord → Type 0
  AllTakeNoMore log = AllByRecursion (λ r. TakesNoMore most counts r.payload) log

  -- what stands at an id
  module _ (id : Rid) where
    put : (i : Rid) (now image : Image) → image_len now ≤ most i → image_len image ≤ most id → image_len (cond (eq_by_cmp rid_cmp id i) now image) ≤ most id
    put i now image here before = ⊎_elim
        (λ is. subst (λ b. image_len (cond b now image) ≤ most id) (sym is) (subst (λ q. image_len now ≤ most q) (sym (same_id id i is)) here))
        (λ off. subst (λ b. image_len (cond b now image) ≤ most id) (sym off) before)
        (cases_Bool (eq_by_cmp rid_cmp id i))

    put_by : (p : Payload) (image : Image) → TakesNoMore most counts p → image_len image ≤ most id → image_len (or_image (image_in p) id image) ≤ most id
    put_by (Change i was now) image h before = put i now image h.1 before
    put_by (Compensation i now undo_next) image h before = put i now image h.0 before
    put_by _ image h before = before

    pub stands_within : (log : List LogRecord) → AllTakeNoMore log → image_len (image_of_record log id) ≤ most id
    stands_within = by_push (λ log. AllTakeNoMore log → image_len (image_of_record log id) ≤ most id)
        (λ h. subst (λ image. image_len image ≤ most id) (sym (leaves_none id)) (omega arith))
        (λ log r known h. subst (λ image. image_len image ≤ most id) (sym (image_of_record-push log r id))
        (put_by r.payload (image_of_record log id) (recursion-last (λ r. TakesNoMore most counts r.payload) log r h) (known (recursion-unpush (λ r. TakesNoMore most counts r.payload) log r h))))

  -- how many slots a page has
  raised_within : (p : PageId) (i : Rid) (now : Image) (n : ℕ) → i.slot < counts i.page → n ≤ counts p → slots_behind p (Some (i, now)) n ≤ counts p
  raised_within p i now n here le =
      elim (eq_by_cmp page_cmp p i.page) as (λ b. eq_by_cmp page_cmp p i.page ≡ b → cond b (max n (i.slot + 1)) n ≤ counts p) [
        | true ↦ λ same. let less : i.slot < counts p = subst (λ q. i.slot < counts q) (sym (tells_apart exact_pages p i.page same)) here in omega (arith, less, le)
        | false ↦ λ off. le
      ] refl

  slots_by : (q : PageId) (p : Payload) (n : ℕ) → TakesNoMore most counts p → n ≤ counts q → slots_behind q (image_in p) n ≤ counts q
  slots_by q (Change i was now) n h le = raised_within q i now n h.2 le
  slots_by q (Compensation i now undo_next) n h le = raised_within q i now n h.1 le
  slots_by q _ n h le = le

  pub slots_within : (p : PageId) (log : List LogRecord) → AllTakeNoMore log → slot_count log p ≤ counts p
  slots_within p [] h = omega arith
  slots_within p (r ∷ log) h = slots_by p r.payload (slot_count log p) h.0 (slots_within p log h.1)

  -- what could come back
  abbrev pub IsReserved : ℕ → List LogRecord → UnansweredChange → Type 0
  IsReserved t log c = (image_len c.before ≤ most c.id) × (has (changes_id c.id) t log ≡ true)

  own_reserved : (t n : ℕ) (log : List LogRecord) (p : Payload) (cs : List UnansweredChange) → TakesNoMore most counts p → ((id : Rid) → changes_id id p ≡ true → has (changes_id id) t log ≡ true)
      → AllByRecursion (IsReserved t log) cs → AllByRecursion (IsReserved t log) (answered_by n p cs)
  own_reserved t n log (Change i was now) cs h has_it all = ((h.0, has_it i (id_itself i)), all)
  own_reserved t n log (Compensation i now undo_next) cs h has_it all = recursion-drop (IsReserved t log) 1 cs all
  own_reserved t n log _ cs h has_it all = all

  pub each_reserved : (t : ℕ) (log : List LogRecord) → AllTakeNoMore log → AllByRecursion (IsReserved t log) (unanswered t log)
  each_reserved t = by_push (λ log. AllTakeNoMore log → AllByRecursion (IsReserved t log) (unanswered t log)) (λ h. tt) one_more
    where
      one_more : (log : List LogRecord) (r : LogRecord) → (AllTakeNoMore log → AllByRecursion (IsReserved t log) (unanswered t log))
          → AllTakeNoMore (log ++ r ∷ []) → AllByRecursion (IsReserved t (log ++ r ∷ [])) (unanswered t (log ++ r ∷ []))
      one_more log r known h =
          let before : AllByRecursion (IsReserved t (log ++ r ∷ [])) (unanswered t log) =
          recursion-weaker (IsReserved t log) (IsReserved t (log ++ r ∷ [])) (λ c k. (k.0, has-more log r (changes_id c.id) t k.1)) (unanswered t log)
          (known (recursion-unpush (λ r. TakesNoMore most counts r.payload) log r h)) in
          ⊎_elim
          (λ own. subst (AllByRecursion (IsReserved t (log ++ r ∷ []))) (sym (unanswered_own t log r own))
          (own_reserved t (1 + length log) (log ++ r ∷ []) r.payload (unanswered t log) (recursion-last (λ r. TakesNoMore most counts r.payload) log r h)
          (λ id names. subst (λ u. has (changes_id id) u (log ++ r ∷ []) ≡ true) own (has-this log r (changes_id id) names)) before))
          (λ other. subst (AllByRecursion (IsReserved t (log ++ r ∷ []))) (sym (unanswered_other t log r other)) before)
          (same_or_not r.txn t)
