-- What is put back next, and what putting it back leaves of a state and of its pages.
use Rattle.std.proofs.Common.{◌≡◌, inl, inr, ◌+◌, ◌<◌, ◌≤◌, ◌^◌, ◌++◌, ◌∷◌, [], ℕ, List, Bool, false, true, Option, None, Some, IsSomeAnd, IsTrue, is_some, get_or, length, length-append, option_map, refl, sym, ap, subst, ◌∙◌, arith}
use Rattle.std.specs.Prelude.{reverse}
use Rattle.std.proofs.lemmas.List.{length-map, reverse-append}
use Rattle.shore_disk.specs.declared.device.Disk as disk
use Rattle.shore_types.specs.declared.ids.PageId.{PageId}
use Rattle.shore_model.specs.declared.log_records.LogRecord.{LogRecord}
use Rattle.shore_model.specs.declared.log_records.Payload.TheVariants.{Compensation}
use Rattle.shore_model.specs.Logs.{previous_of}
use Rattle.shore_page.specs.Room.{lowered}
use Rattle.shore_page.specs.Slots.{Slot, with_change, with_image}
use Rattle.shore_pool.specs.Changes as pool
use Rattle.shore_pool.specs.declared.frame.Frame.{Frame}
use Rattle.shore_heap.specs.declared.heap.Heap.{Heap}
use Rattle.shore_heap.specs.Contents.{ClaimsOfPages, with_slots}
use Rattle.shore_heap.specs.Heaps.{Shows}
use Rattle.shore_heap.proofs.Bounds.{cases_page, slots_here, slots_other}
use Rattle.shore_heap.proofs.Showing.{shows_same}
use Rattle.laws_room.specs.Claims.{Claimed}
use Rattle.laws_room.specs.Entries.{claim_before}
use Rattle.laws_room.specs.LogRooms.{compensation_cost}
use Rattle.laws_room.proofs.Entries.{unreserved}
use Rattle.laws_room.proofs.Rooms.{undo_others}
use Rattle.laws_lives.specs.Logged.{next_to_undo}
use Rattle.laws_lives.specs.UndoLists.{marks_kept}
use Rattle.shore_model.specs.declared.rollbacks.Rollback.{Rollback}
use Rattle.laws_calls.specs.Rollbacks.{put_back}
use Rattle.laws_calls.specs.States.{State, page_slots}
use Rattle.shore_sessions.proofs.RollbackSteps.{undo_next_logged}
use Rattle.shore_sessions.specs.Standing.{IsLogged}
use Rattle.shore_txn.specs.ActiveTxns.{OneBecomes}
use Rattle.shore_txn.specs.Txns.{IsAfterUndo, last_of, number_of}
use Rattle.shore_txn.proofs.ActiveOthers.{each_becomes}
use Rattle.shore_txn.proofs.OneOfMany.{among_map, among_middle}
use Rattle.laws_heaps.proofs.SlotImages.{count-with_image}
use Rattle.shore_logrec.specs.Text as text
use Rattle.shore_logrec.specs.Text.{RidFits}
use Rattle.shore_core.specs.Undoing.{IsNext}
use Rattle.shore_core.proofs.Changed.{image_short}
use Rattle.shore_types.specs.Images.{Image, image_len}
use Rattle.shore_types.specs.declared.ids.Rid.{Rid}
use Rattle.shore_types.specs.declared.layout.TheConstants.{MAX_RECORD_BYTES}
use Rattle.shore_types.specs.declared.versions.Version.{Version}
use Rattle.laws_lives.specs.Sessions.{SessionTxn}
use Rattle.laws_lives.specs.Views.{IsAmong}
use Rattle.shore_txn.specs.Transactions.{txns_in, undos_in}
use Rattle.shore_txn.specs.Txns.{as_session_txn, entries_of}
use Rattle.shore_txn.specs.UndoEntries.{AreShort, image_of, images_of, number_behind}
use Rattle.shore_txn.specs.declared.transactions.Transactions.{Transactions}
use Rattle.shore_txn.specs.declared.txn.Txn.{Txn}
use Rattle.shore_txn.specs.declared.undo.UndoEntry.{UndoEntry}
use Rattle.shore_txn.proofs.OneOfMany.{map_join, once_same}

false_true : ◌≡◌ {A = Bool} false true → ⊥
false_true e = cc

-- ---- the newest change

-- a number is that of one transaction
pub own_is : (table : Transactions) (t : Txn) → IsAmong (as_session_txn t) (undos_in table) → (a : SessionTxn) → IsAmong a (undos_in table) → a.txn ≡ number_of t → a ≡ as_session_txn t
own_is table t there a among is = once_same (λ (b : SessionTxn). b.txn) _ table.numbers a (as_session_txn t) among there is

pub none_of : (table : Transactions) (t : Txn) → IsAmong (as_session_txn t) (undos_in table) → (a : SessionTxn) → IsAmong a (undos_in table) → a.txn ≡ number_of t → entries_of t ≡ [] → a.undo.images ≡ []
none_of table t there a among is none = ap (λ (b : SessionTxn). b.undo.images) (own_is table t there a among is) ∙ ap images_of none

get_last : {A : Type 0} (xs : List A) (x d : A) → get_or (xs ++ x ∷ []) (length xs) d ≡ x
get_last [] x d = refl
get_last (y ∷ xs) x d = get_last xs x d

pub short_last : (t : Txn) (kept : List UndoEntry) (e : UndoEntry) → entries_of t ≡ kept ++ e ∷ [] → image_len e.before ≤ MAX_RECORD_BYTES
short_last t kept e is =
    let long : length (kept ++ e ∷ []) ≡ length kept + 1 = length-append kept (e ∷ []) in
    subst (λ (e : UndoEntry). image_len e.before ≤ MAX_RECORD_BYTES) (get_last kept e e) (subst AreShort is t.short (length kept) e (omega (arith, long)))

pub some_short : (image : Image) → image_len image ≤ MAX_RECORD_BYTES → (o : Option ℕ) → o ≡ option_map length image → (n : ℕ) → o ≡ Some n → n ≤ MAX_RECORD_BYTES
some_short None short o is n some = absurd (clash (sym is ∙ some))
  where
    clash : ◌≡◌ {A = Option ℕ} None (Some n) → ⊥
    clash e = cc
some_short (Some bytes) short o is n some = let same : n ≡ length bytes = one (sym some ∙ is) in omega (arith, same, short)
  where
    one : ◌≡◌ {A = Option ℕ} (Some n) (Some (length bytes)) → n ≡ length bytes
    one e = cc

-- ---- it is the last of the images

abbrev first_or : {A : Type 0} → A → List A → A
first_or d [] = d
first_or d (x ∷ xs) = x

pub last_same : {A : Type 0} (xs ys : List A) (x y : A) → xs ++ x ∷ [] ≡ ys ++ y ∷ [] → x ≡ y
last_same xs ys x y same = ap (first_or x) (sym (reverse-append xs (x ∷ [])) ∙ ap reverse same ∙ reverse-append ys (y ∷ []))

module _ (table : Transactions) (who : ℕ) (id : Rid) (bytes cost : ℕ) (r : LogRecord) (next : IsNext table who id bytes cost r) where
  own_images : images_of (entries_of next.own) ≡ images_of next.kept ++ image_of next.entry ∷ []
  own_images = ap images_of next.entries ∙ map_join image_of next.kept (next.entry ∷ [])

  -- it is the transaction's of each state
  pub next_own : (a : SessionTxn) → IsAmong a (undos_in table) → a.txn ≡ who → a ≡ as_session_txn next.own
  next_own a among is = own_is table next.own next.there a among (is ∙ sym next.number)

  pub next_some : (a : SessionTxn) → IsAmong a (undos_in table) → a.txn ≡ who → a.undo.images ≡ [] → ⊥
  next_some a among is none = never (images_of next.kept) (sym own_images ∙ ap (λ (b : SessionTxn). b.undo.images) (sym (next_own a among is)) ∙ none)
    where
      never : (xs : List (Rid × Image)) → xs ++ image_of next.entry ∷ [] ≡ [] → ⊥
      never [] e = cc
      never (x ∷ xs) e = cc

  pub next_image : (a : SessionTxn) (kept : List (Rid × Image)) (e : Rid × Image) → IsAmong a (undos_in table) → a.txn ≡ who → a.undo.images ≡ kept ++ e ∷ [] → image_of next.entry ≡ e
  next_image a kept e among is images =
      last_same (images_of next.kept) kept (image_of next.entry) e (sym own_images ∙ ap (λ (b : SessionTxn). b.undo.images) (sym (next_own a among is)) ∙ images)

  pub next_cost : (a : SessionTxn) (kept : List (Rid × Image)) (e : Rid × Image) → IsAmong a (undos_in table) → a.txn ≡ who → a.undo.images ≡ kept ++ e ∷ [] → cost ≡ compensation_cost e.1
  next_cost a kept e among is images = next.cost_is ∙ ap (λ (x : Rid × Image). compensation_cost x.1) (next_image a kept e among is images)

  -- the entry that is taken out
  pub next_undone : (later : Transactions) (lsn : ℕ) (rollback : Rollback) (e : UndoEntry) → OneBecomes who (IsAfterUndo lsn rollback e) (txns_in table) (txns_in later) → image_of next.entry ≡ image_of e
  next_undone later lsn rollback e one =
      next_image (as_session_txn one.before) (images_of (entries_of one.after)) (image_of e)
      (among_map as_session_txn one.before (txns_in table) (subst (IsAmong one.before) (sym one.was) (among_middle one.newer one.older one.before)))
      one.txn
      (ap images_of one.becomes.entries ∙ map_join image_of (entries_of one.after) (e ∷ []))

  pub next_earlier : (number : ℕ) → ((t : Txn) → IsAmong t (txns_in table) → last_of t < number) → r.previous < number
  next_earlier number earlier = subst (λ n. n < number) (sym (ap (λ (x : LogRecord). x.previous) next.record_is)) (earlier next.own next.among)

  -- its record is that of the state
  pub next_record : (log : List LogRecord) (a : SessionTxn) (kept : List (Rid × Image)) (e : Rid × Image) → IsLogged log next.own → IsAmong a (undos_in table) → a.txn ≡ who → a.undo.images ≡ kept ++ e ∷ []
      → r ≡ record { txn = a.txn; previous = previous_of a.txn log; payload = Compensation e.0 e.1 (next_to_undo a.txn log) }
  next_record log a kept e logged among is images =
      next.record_is
      ∙ ap (λ n. record { txn = number_of next.own; previous = n; payload = Compensation next.entry.id next.entry.before (number_behind (entries_of next.own)) }) logged.last
      ∙ ap (λ n. record { txn = number_of next.own; previous = previous_of (number_of next.own) log; payload = Compensation next.entry.id next.entry.before n }) (undo_next_logged log next.own logged)
      ∙ ap (λ (x : Rid × Image). record { txn = number_of next.own; previous = previous_of (number_of next.own) log; payload = Compensation x.0 x.1 (next_to_undo (number_of next.own) log) }) (next_image a kept e among is images)
      ∙ ap (λ (b : SessionTxn). record { txn = b.txn; previous = previous_of b.txn log; payload = Compensation e.0 e.1 (next_to_undo b.txn log) }) (sym (next_own a among is))

pub earlier_undone : (table new : Transactions) (number : ℕ) → ((t : Txn) → IsAmong t (txns_in table) → last_of t < number) → {who lsn : ℕ} {rollback : Rollback} {e : UndoEntry}
    → OneBecomes who (IsAfterUndo lsn rollback e) (txns_in table) (txns_in new) → lsn ≡ number → (t : Txn) → IsAmong t (txns_in new) → last_of t < number + 1
earlier_undone table new number earlier one same =
    each_becomes (λ t. last_of t < number) (λ t. last_of t < number + 1) table.numbers earlier one (λ t other less. omega (arith, less))
    (λ less. omega (arith, one.becomes.last, same))

-- ---- its page

pub slot_there : (lsn i : ℕ) (image : Image) (o new : Option Frame) → new ≡ option_map (pool.changed lsn i image) o → IsTrue (is_some o) → IsSomeAnd new (λ f. i < length f.page.slots)
slot_there lsn i image (Some f) new is some =
    subst (λ (n : Option Frame). IsSomeAnd n (λ f. i < length f.page.slots)) (sym is)
    (let long = count-with_image f.page.slots i image in let same = length-map (with_image f.page.slots i image) (λ s. s.image) in omega (arith, long, same))
slot_there lsn i image None new is some = absurd (false_true some)

module _ (v : Version) {V : Type 0} {H : disk.Ghosts V} where
  -- the image is put back, and the claim falls
  pub pages_undone : (new : Heap V H) (K : ClaimsOfPages) (front : List ℕ) (disk : ℕ → List ℕ) (s : State) (a : SessionTxn) (kept : List (Rid × Image)) (e : Rid × Image) (rollback : Rollback)
      → Claimed v s.sessions.records s.sessions.active s.counts → IsAmong a s.sessions.active → a.undo.images ≡ kept ++ e ∷ []
      → Shows K new front disk (with_slots (with_slots (page_slots s) e.0.page (λ slots. with_image slots e.0.slot e.1)) e.0.page (λ slots. with_change (lowered (claim_before kept e)) slots e.0.slot))
      → Shows K new front disk (page_slots (put_back s a kept (e ∷ []) rollback))
  pages_undone new K front disk s a kept e rollback k among is shows =
      shows_same new K front disk both (page_slots (put_back s a kept (e ∷ []) rollback)) (λ p there. each p) shows
    where
      image : List Slot → List Slot
      image slots = with_image slots e.0.slot e.1

      claim : List Slot → List Slot
      claim slots = with_change (lowered (claim_before kept e)) slots e.0.slot

      once : PageId → List Slot
      once = with_slots (page_slots s) e.0.page image

      both : PageId → List Slot
      both = with_slots once e.0.page claim

      each : (p : PageId) → page_slots (put_back s a kept (e ∷ []) rollback) p ≡ both p
      each p = elim (cases_page p e.0.page) [
        | inl same ↦
            ap (page_slots (put_back s a kept (e ∷ []) rollback)) same
            ∙ unreserved _ s.sessions.records s.sessions.active s.counts k a among kept e (marks_kept rollback a.undo.marks) (Some rollback) is
            ∙ ap claim (sym (slots_here (page_slots s) e.0.page image))
            ∙ sym (slots_here once e.0.page claim)
            ∙ ap both (sym same)
        | inr other ↦
            undo_others _ s.sessions.records s.sessions.active s.counts k a among kept e (marks_kept rollback a.undo.marks) (Some rollback) is p other
            ∙ sym (slots_other (page_slots s) e.0.page image p other)
            ∙ sym (slots_other once e.0.page claim p other)
      ]

-- ---- its record has a text

module _ (table : Transactions) (who : ℕ) (id : Rid) (bytes cost : ℕ) (r : LogRecord) (next : IsNext table who id bytes cost r) where
  pub next_text : RidFits id → last_of next.own < 2 ^ 64 → text.Fits r
  next_text rid last = subst text.Fits (sym next.record_is) (record {
    owner = next.some;
    txn_fits = next.below;
    previous_fits = last;
    payload_fits = record { rid = subst RidFits next.id_is rid; image = image_short next.entry.before (short_last next.own next.kept next.entry next.entries); next = next.behind };
  })
