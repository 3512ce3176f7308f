-- What undo asks of a roomy log, what an open makes of one, and that analysis takes it.
use Rattle.std.proofs.Common.{◌≡◌, inl, inr, ⊎_elim, ◌++◌, ◌+◌, ◌<◌, ◌≤◌, ℕ, nat_lt, List, [], ◌∷◌, true, false, cond, Option, Some, None, refl, sym, ap, subst, ◌∙◌, length, take, take_all, arith}
use Rattle.shore_types.specs.Versions.{slot_limit}
use Rattle.std.specs.Prelude.{All, map, unwrap_or}
use Rattle.std.specs.FinMap.{empty, get, get-empty, same_map}
use Rattle.std.specs.List.{AllByRecursion, filter_map}
use Rattle.std.specs.Ordering.{eq_by_cmp}
use Rattle.std.proofs.lemmas.Bool.{cases_Bool, ltb-true, ltb-false}
use Rattle.std.proofs.lemmas.List.{length-map, reverse-reverse}
use Rattle.std.proofs.lemmas.List.Elements.{All-nil, recursion_from_All}
use Rattle.shore_types.specs.Ids.{exact_rids, rid_cmp, rids_total}
use Rattle.shore_types.specs.Images.{Image, image_len}
use Rattle.shore_types.specs.Layout.{HasSlot}
use Rattle.shore_types.specs.declared.ids.Rid.{Rid}
use Rattle.shore_types.specs.declared.layout.Geometry.{Geometry}
use Rattle.shore_types.specs.declared.layout.TheConstants.{LAST_OPENED, LAST_TXN, LONGEST_FRAME, MAX_LOG_BYTES, MAX_TRANSACTIONS}
use Rattle.shore_model.proofs.Maps.{get_id}
use Rattle.shore_types.specs.declared.ids.PageId.{PageId}
use Rattle.shore_model.specs.declared.log_records.LogRecord.{LogRecord}
use Rattle.shore_model.specs.declared.log_records.LogTxn.{LogTxn}
use Rattle.shore_model.specs.declared.log_records.Payload.{Payload}
use Rattle.shore_model.specs.declared.log_records.Payload.TheVariants.{Change, Compensation}
use Rattle.shore_model.specs.Logs.{IsEntry, IsTable, Lawful, has, id_in, image_in, image_of_record, is_commit, is_in_doubt, is_over, is_prepare, is_rollback, unanswered}
use Rattle.shore_model.specs.Records.{AreRecords, Records}
use Rattle.shore_logrec.specs.Text.{cost_of}
use Rattle.shore_analysis.proofs.InOrder.{among_map, map_among}
use Rattle.shore_analysis.specs.Meant.{IsCrowded, IsInBounds}
use Rattle.laws_calls.specs.CallHistories.{IsRoomyState}
use Rattle.laws_calls.specs.States.{State, cost_of_log}
use Rattle.shore_types.specs.declared.locking.Granule.{Granule}
use Rattle.laws_lives.proofs.DoubtRecords.{among_filter}
use Rattle.laws_lives.proofs.DoubtsShown.{doubts_once}
use Rattle.laws_lives.proofs.Members.{txn_among}
use Rattle.laws_lives.specs.Doubts.{LoggedDoubt, NeedMore, doubt_of, doubts_in, pair_logged, undo_in}
use Rattle.laws_lives.proofs.LawfulPrepares.{prepared_is_one}
use Rattle.laws_lives.proofs.WritersTold.{doubt_not_over, in_doubt_parts}
use Rattle.laws_lives.specs.LogTells.{MatchesUndo}
use Rattle.laws_lives.specs.UndoLists.{UndoList}
use Rattle.shore_model.specs.declared.unanswered_changes.UnansweredChange.{UnansweredChange}
use Rattle.laws_lives.specs.WholeLogs.{IsWholeLog}
use Rattle.shore_page.specs.Room.{HasRoom, HoldsItsImage}
use Rattle.shore_page.specs.Slots.{settled}
use Rattle.laws_lives.proofs.OneMore.{by_push, same_id}
use Rattle.laws_lives.proofs.UndoEnds.{writers_in_doubt}
use Rattle.laws_lives.proofs.Redo.{image_of_record-push, or_image}
use Rattle.laws_lives.specs.Undo.{HasNoLosers, IsLoser, undo_record}
use Rattle.laws_room.proofs.Lists.{each_at}
use Rattle.laws_room.proofs.RolledBack.{rolled_room}
use Rattle.laws_room.specs.Claims.{Claimed, rid_on}
use Rattle.laws_room.specs.Settling.{settled_slots}
use Rattle.laws_lives.proofs.Lists.{length-push, recursion-weaker}
use Rattle.laws_lives.specs.Sessions.{EachOnce, SessionTxn, pair_of, pairs_of, txns_of}
use Rattle.laws_lives.specs.Views.{IsAmong}
use Rattle.laws_runs.proofs.DoubtsThere.{doubt_there}
use Rattle.laws_runs.proofs.Prefixes.{whole_placed}
use Rattle.laws_runs.proofs.Redoing.{all_at, record_fits}
use Rattle.laws_runs.proofs.SlotCounts.{same_claimed}
use Rattle.laws_runs.proofs.Undecided.{some_claimed, some_owe_no_more}
use Rattle.laws_runs.proofs.Undoing.{cost_pushed, undone_roomy}
use Rattle.laws_runs.specs.RoomyLogs.{AreRoomy, IsPlacedLog, IsRoomyLog, IsUndecided}
use Rattle.laws_runs.specs.RoomyStates.{HasLocksInBounds, IsOpenedFrom, LeavesRoomyLogsFrom}
use Rattle.laws_runs.specs.SlotCounts.{FitsBehind, slot_count}

-- ---- the empty log

pub leaves_none : (id : Rid) → image_of_record [] id ≡ None
leaves_none id = ap (λ o. unwrap_or o None) (get_id [] id)

empty_is_placed : (g : Geometry) → IsPlacedLog g []
empty_is_placed g = record {
  records = empty;
  shown = λ id. get-empty rid_cmp id ∙ sym (leaves_none id);
  undos = [];
  undecided = record { each = λ a m. absurd m; every = λ t h. absurd (none_undecided t h) };
  pages = record {
    room = λ p. record { room = omega arith; each = All-nil (HoldsItsImage g.version) };
    behind = λ id le. get-empty rid_cmp id;
    within = λ a m. absurd m;
    owned = λ a m. absurd m;
    once = tt;
  };
  inside = All-nil (IsInBounds g);
  few = none_crowded;
}
  where
    none_undecided : (t : ℕ) → IsUndecided [] t → ⊥
    none_undecided t (inl loser) = let known = loser.known in omega arith
    none_undecided t (inr doubt) = cc

    no_entry : (txns : List LogTxn) → IsTable [] txns → MAX_TRANSACTIONS < length txns → ⊥
    no_entry [] table many = omega arith
    no_entry (e ∷ es) table many = let known = (recursion_from_All (IsEntry []) (e ∷ es) table.each).0.0.known in omega arith

    none_crowded : IsCrowded [] → ⊥
    none_crowded crowded = no_entry crowded.0 crowded.1 crowded.2

empty_is_roomy : (g : Geometry) (stream_bytes : ℕ) → LONGEST_FRAME ≤ stream_bytes → stream_bytes ≤ MAX_LOG_BYTES → IsRoomyLog g stream_bytes []
unfolding empty_is_placed
empty_is_roomy g stream_bytes least most = record { placed = empty_is_placed g; room = record { sum = omega arith; fits = omega arith; lsns = omega arith; short = omega (arith, most) }; locks = none_more }
  where
    none_more : NeedMore g.max_locks [] → ⊥
    none_more more = no_node more.0 more.2 more.3
      where
        no_node : (nodes : List (ℕ × Granule)) → ((x : ℕ × Granule) → IsAmong x nodes → ⊥) → g.max_locks < length nodes → ⊥
        no_node [] none less = omega arith
        no_node (x ∷ nodes) none less = none x (inl refl)

pub format_is_roomy : (g : Geometry) (stream_bytes : ℕ) → LONGEST_FRAME ≤ stream_bytes → stream_bytes ≤ MAX_LOG_BYTES → AreRoomy g stream_bytes 0 []
format_is_roomy g stream_bytes least most = record {
  placed = λ n. subst (IsPlacedLog g) (sym (whole n [] (omega arith))) (empty_is_placed g);
  roomy = λ n from. subst (IsRoomyLog g stream_bytes) (sym (whole n [] (omega arith))) (empty_is_roomy g stream_bytes least most);
}
  where
    whole : (n : ℕ) (log : List LogRecord) → length log ≤ n → take n log ≡ log
    whole n log le = take_all n log le

-- ---- the stream

module _ (g : Geometry) (stream_bytes : ℕ) (log : List LogRecord) (k : IsRoomyLog g stream_bytes log) where
  pub fits_stream : cost_of_log log + LONGEST_FRAME ≤ stream_bytes
  fits_stream = let fits = k.room.fits in omega arith

  pub has_numbers : length log < LAST_OPENED
  has_numbers = let lsns = k.room.lsns in omega arith

-- ---- what undo asks

module _ (g : Geometry) (stream_bytes : ℕ) (log : List LogRecord) (t : ℕ) (k : IsRoomyLog g stream_bytes log) (loser : IsLoser log t) where
  pub undo_fits : FitsBehind g.version log (undo_record log t).payload
  undo_fits = record_fits g log (undo_record log t) k.placed (undone_roomy g stream_bytes log k t loser).placed

  pub undo_has_log_room : (cost_of_log log + cost_of (undo_record log t).payload + LONGEST_FRAME ≤ stream_bytes) × (length log + 1 < LAST_OPENED)
  undo_has_log_room =
      let new = undone_roomy g stream_bytes log k t loser in
      let fits = new.room.fits in
      let lsns = new.room.lsns in
      let cost = cost_pushed log (undo_record log t) in
      let longer = length-push log (undo_record log t) in
      (omega arith, omega arith)

-- ---- what an open makes of it

-- a record that the log leaves lies in the geometry
module _ (g : Geometry) where
  changed_or_left : (i id : Rid) (now image : Image) (bytes : List ℕ) → HasSlot g i → (image ≡ Some bytes → HasSlot g id)
      → cond (eq_by_cmp rid_cmp id i) now image ≡ Some bytes → HasSlot g id
  changed_or_left i id now image bytes here before at =
      ⊎_elim
      (λ same. subst (HasSlot g) (sym (same_id id i same)) here)
      (λ off. before (sym (ap (λ b. cond b now image) off) ∙ at))
      (cases_Bool (eq_by_cmp rid_cmp id i))

  left_here : (p : Payload) (id : Rid) (image : Image) (bytes : List ℕ) → ((q : Rid) → id_in p ≡ Some q → HasSlot g q)
      → (image ≡ Some bytes → HasSlot g id) → or_image (image_in p) id image ≡ Some bytes → HasSlot g id
  left_here (Change i was now) id image bytes inside before at = changed_or_left i id now image bytes (inside i refl) before at
  left_here (Compensation i now undo_next) id image bytes inside before at = changed_or_left i id now image bytes (inside i refl) before at
  left_here _ id image bytes inside before at = before at

  left_inside : (log : List LogRecord) → AllByRecursion (IsInBounds g) log → (id : Rid) (bytes : List ℕ) → image_of_record log id ≡ Some bytes → HasSlot g id
  left_inside = by_push (λ log. AllByRecursion (IsInBounds g) log → (id : Rid) (bytes : List ℕ) → image_of_record log id ≡ Some bytes → HasSlot g id)
      (λ inside id bytes at. absurd (none_some (sym (leaves_none id) ∙ at)))
      (λ log r known inside id bytes at.
      let parts = both log r inside in
      left_here r.payload id (image_of_record log id) bytes parts.1.id (known parts.0 id bytes) (sym (image_of_record-push log r id) ∙ at))
    where
      none_some : {bytes : List ℕ} → ◌≡◌ {A = Option (List ℕ)} None (Some bytes) → ⊥
      none_some e = cc

      both : (log : List LogRecord) (r : LogRecord) → AllByRecursion (IsInBounds g) (log ++ r ∷ []) → AllByRecursion (IsInBounds g) log × IsInBounds g r
      both [] r h = (tt, h.0)
      both (x ∷ log) r h = let rest = both log r h.1 in ((h.0, rest.0), rest.1)

  -- records that a roomy log leaves
  pub records_inside : (log : List LogRecord) (R : Records) → IsPlacedLog g log → ((id : Rid) → get R id ≡ image_of_record log id) → AreRecords g R
  records_inside log R k shown id bytes at =
      let left : image_of_record log id ≡ Some bytes = sym (shown id) ∙ at in
      let slot = left_inside log (recursion_from_All (IsInBounds g) log k.inside) id bytes left in
      let n = slot_count log id.page in
      let room : HasRoom g.version (settled_slots k.records id.page n) = rolled_room g.version k.records k.undos [] (slot_count log) k.pages (λ a m. absurd m) id.page n (omega arith) in
      let it : get k.records id ≡ Some bytes = k.shown id ∙ left in
      let within : id.slot < n =
      elim (nat_lt id.slot n) as (λ b. nat_lt id.slot n ≡ b → id.slot < n) [
        | true ↦ λ e. ltb-true id.slot n e
        | false ↦ λ e. absurd (none_some (sym (k.pages.behind id (ltb-false id.slot n e)) ∙ it))
      ] refl in
      let holds = all_at (HoldsItsImage g.version) (settled_slots k.records id.page n) id.slot (settled (get k.records id)) room.each
      (each_at (λ i. settled (get k.records (rid_on id.page i))) n id.slot within) in
      let most = holds.1 in
      let long = ap image_len it in
      (slot, omega arith)
    where
      none_some : {bytes : List ℕ} → ◌≡◌ {A = Option (List ℕ)} None (Some bytes) → ⊥
      none_some e = cc

-- ---- analysis

-- who is in doubt is a transaction
doubt_is_one : (log : List LogRecord) → Lawful log → (t : ℕ) → is_in_doubt t log ≡ true → 0 < t
doubt_is_one log lawful t doubt = prepared_is_one log lawful t (in_doubt_parts (has is_prepare t log) (has is_commit t log) (has is_rollback t log) doubt).0

-- ---- the state that an open makes

-- what an open makes of a log, whatever its next number is
pub record IsOpenedAs (g : Geometry) (stream_bytes : ℕ) (found : List LogRecord) (s : State) : Type 0 where
  pub slots : s.sessions.slots ≡ slot_limit g.version
  pub log : s.log ≡ found
  pub as_long : s.stream_bytes ≡ stream_bytes
  pub records : (id : Rid) → get s.sessions.records id ≡ image_of_record found id
  pub prepared : pairs_of s.sessions.prepared ≡ map pair_logged (doubts_in found)
  pub active : txns_of s.sessions.active ≡ map (λ d. d.txn) (doubts_in found)
  pub undo_lists : (a : SessionTxn) → IsAmong a s.sessions.active → a.undo ≡ undo_in found a.txn
  pub counts : (p : PageId) → s.counts p ≡ slot_count found p
  pub some : 0 < s.sessions.next_txn
  pub locks : HasLocksInBounds g s

pub from_as : (g : Geometry) (stream_bytes : ℕ) (found : List LogRecord) (s : State) → IsOpenedFrom g stream_bytes found s → IsOpenedAs g stream_bytes found s
from_as g stream_bytes found s h = record {
  slots = h.slots;
  log = h.log;
  as_long = h.as_long;
  records = h.records;
  prepared = h.prepared;
  active = h.active;
  undo_lists = h.undo_lists;
  counts = h.counts;
  some = h.some;
  locks = h.locks;
}

module _ (g : Geometry) (stream_bytes : ℕ) (log : List LogRecord) (s : State) (opened : IsOpenedAs g stream_bytes log s) where
  -- who is under way is in doubt in the log, and the other way round
  in_doubt : (t : ℕ) → IsAmong t (txns_of s.sessions.active) → is_in_doubt t log ≡ true
  in_doubt t m =
      let d = map_among (λ (d : LoggedDoubt). d.txn) t (doubts_in log) (subst (IsAmong t) opened.active m) in
      ap (λ u. is_in_doubt u log) (sym d.2) ∙ (among_filter (λ (d : LoggedDoubt). is_in_doubt d.txn log) d.0 (filter_map doubt_of log) d.1).1

  is_under_way : (t : ℕ) → is_in_doubt t log ≡ true → IsAmong t (txns_of s.sessions.active)
  is_under_way t doubt =
      let d = doubt_there t log doubt in
      subst (IsAmong t) (sym opened.active) (subst (λ u. IsAmong u (map (λ (d : LoggedDoubt). d.txn) (doubts_in log))) d.2 (among_map (λ (d : LoggedDoubt). d.txn) d.0 (doubts_in log) d.1))

  matches : (a : SessionTxn) → IsAmong a s.sessions.active → MatchesUndo log a.txn a.undo.images
  matches a m = subst (λ (undo : UndoList). MatchesUndo log a.txn undo.images) (sym (opened.undo_lists a m)) (sym (reverse-reverse (map (λ (c : UnansweredChange). (c.id, c.before)) (unanswered a.txn log))))

  each_undecided : (a : SessionTxn) → IsAmong a s.sessions.active → IsUndecided log a.txn × MatchesUndo log a.txn a.undo.images
  each_undecided a m = (inr (in_doubt a.txn (txn_among a s.sessions.active m)), matches a m)

  -- those in doubt come once each
  once : Lawful log → EachOnce (txns_of s.sessions.active)
  once lawful = subst EachOnce (sym opened.active) (doubts_once log lawful)

  pub as_roomy : IsRoomyLog g stream_bytes log → Lawful log → IsRoomyState g.version s
  as_roomy k lawful =
      let same : k.placed.records ≡ s.sessions.records = same_map rids_total exact_rids k.placed.records s.sessions.records (λ id. k.placed.shown id ∙ sym (opened.records id)) in
      let claimed : Claimed g.version k.placed.records s.sessions.active (slot_count log) = some_claimed g log k.placed s.sessions.active (once lawful) each_undecided in
      let placed : Claimed g.version s.sessions.records s.sessions.active s.counts =
      subst (λ R. Claimed g.version R s.sessions.active s.counts) same (same_claimed g.version k.placed.records s.sessions.active (slot_count log) s.counts opened.counts claimed) in
      let less = some_owe_no_more log k.placed.undos k.placed.undecided s.sessions.active (once lawful) each_undecided in
      let many : length s.sessions.prepared ≡ length (doubts_in log) =
      sym (length-map s.sessions.prepared pair_of) ∙ ap length opened.prepared ∙ length-map (doubts_in log) pair_logged in
      let fits = k.room.fits in
      let lsns = k.room.lsns in
      let short = k.room.short in
      let kept : cost_of_log s.log ≡ cost_of_log log = ap cost_of_log opened.log in
      let last : length s.log ≡ length log = ap length opened.log in
      let long = opened.as_long in
      record {
        slots = opened.slots;
        pages = placed;
        log = record { sum = refl; fits = omega (arith, fits, less, many, kept, long); lsns = omega (arith, lsns, less, many, last); short = omega (arith, short, long, kept) };
      }

  pub as_leaving : (least : ℕ) → AreRoomy g stream_bytes least log → Lawful log → HasNoLosers log → s.sessions.next_txn ≤ LAST_TXN → LeavesRoomyLogsFrom g stream_bytes least s
  as_leaving least k lawful ended numbers =
      let runs : (t : ℕ) → IsAmong t (txns_of s.sessions.active) → (0 < t) × (is_over t log ≡ false) =
      λ t m. (doubt_is_one log lawful t (in_doubt t m), doubt_not_over log lawful t (in_doubt t m)) in
      let is_whole : IsWholeLog log s.sessions =
      record {
        lawful = lawful;
        writers = λ t id changed not_over. is_under_way t (writers_in_doubt log lawful ended t id changed not_over);
        unended = λ t m. (runs t m).1;
        above = λ t m. (runs t m).0;
        undo_lists = matches;
        some = opened.some;
      } in
      record {
        as_long = opened.as_long;
        prefixes = subst (AreRoomy g stream_bytes least) (sym opened.log) k;
        counts = λ p. opened.counts p ∙ ap (λ l. slot_count l p) (sym opened.log);
        whole = subst (λ l. IsWholeLog l s.sessions) (sym opened.log) is_whole;
        losers = λ t loser. absurd (ended t (subst (λ l. IsLoser l t) opened.log loser));
        txns = numbers;
        locks = opened.locks;
      }

pub numbers_below : (g : Geometry) (stream_bytes least : ℕ) (log : List LogRecord) → AreRoomy g stream_bytes least log → AllByRecursion (λ r. r.txn < LAST_TXN) log
numbers_below g stream_bytes least log k =
    recursion-weaker (IsInBounds g) (λ r. r.txn < LAST_TXN) (λ r h. h.number) log (recursion_from_All (IsInBounds g) log (whole_placed g stream_bytes least log k).inside)

module _ (g : Geometry) (stream_bytes : ℕ) (log : List LogRecord) (s : State) (opened : IsOpenedFrom g stream_bytes log s) where
  pub opens_roomy : IsRoomyLog g stream_bytes log → Lawful log → IsRoomyState g.version s
  opens_roomy k lawful = as_roomy g stream_bytes log s (from_as g stream_bytes log s opened) k lawful

  pub opens_leaving : (least : ℕ) → AreRoomy g stream_bytes least log → Lawful log → HasNoLosers log → LeavesRoomyLogsFrom g stream_bytes least s
  opens_leaving least k lawful ended =
      as_leaving g stream_bytes log s (from_as g stream_bytes log s opened) least k lawful ended
      (opened.least LAST_TXN (omega arith) (numbers_below g stream_bytes least log k))
