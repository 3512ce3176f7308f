-- The checkpoint at the end of a migrated log: the store that is made of the log and its pages is in order behind the anchor.
use Rattle.std.proofs.Common.{◌≡◌, ◌≢◌, inl, ◌<◌, ◌≤◌, ◌+◌, ◌++◌, ℕ, List, [], ◌∷◌, false, refl, sym, ap, subst, ◌∙◌, length, take, arith, append-nil, append_assoc, take_all}
use Rattle.std.specs.Prelude.{◌||◌}
use Rattle.std.specs.FinMap.{entries, get}
use Rattle.std.specs.List.{AllByRecursion}
use Rattle.std.proofs.Math.Seq.{take-length}
use Rattle.std.proofs.lemmas.Bool.{ne_eqb, true≢false}
use Rattle.std.proofs.lemmas.List.{length-append, take-append-le}
use Rattle.std.proofs.lemmas.List.Elements.{All-from_recursion, recursion_from_All}
use Rattle.shore_types.specs.declared.ids.PageId.{PageId}
use Rattle.shore_model.specs.declared.log_records.LogRecord.{LogRecord}
use Rattle.shore_model.specs.declared.log_records.LogTxn.{LogTxn}
use Rattle.shore_model.specs.declared.log_records.Payload.{Payload}
use Rattle.shore_model.specs.declared.log_records.Payload.TheVariants.{CheckpointBegin, Prepare}
use Rattle.shore_model.specs.Logs.{IsEntry, IsTable, is_of_checkpoint, is_over, previous_of}
use Rattle.shore_model.specs.Records.{Records}
use Rattle.laws_lives.specs.DirtyPages.{HasAllUpTo}
use Rattle.laws_lives.specs.Pages.{AreAsOfOwnNumbers, LoggedPages}
use Rattle.laws_lives.specs.Recovery.{ForceLog, after_append, after_force}
use Rattle.laws_lives.proofs.DirtyPages.{lacks_none_one_by_one}
use Rattle.laws_lives.proofs.Lists.{length-push, recursion-at, recursion-push}
use Rattle.laws_checkpoints.specs.Checkpoints.{Checkpoint, cut_point, end_among, end_payload, least_first, not_anchored, of_checkpoint, redo_behind}
use Rattle.laws_checkpoints.specs.CheckpointedStores.{AreTablesNow, BeginCheckpoint, BeginLogged, CheckpointedStore, CrashStore, EndCheckpoint, EndLogged, NoCheckpoint, StoreEvent}
use Rattle.laws_checkpoints.specs.KeptLogs.{has_record}
use Rattle.laws_checkpoints.specs.RecoveryNumbers.{EndsListChanges}
use Rattle.laws_checkpoints.specs.StoresInOrder.{IsInOrder}
use Rattle.laws_checkpoints.proofs.CheckpointSteps.{order_moved}
use Rattle.laws_checkpoints.proofs.Cuts.{first_behind}
use Rattle.laws_checkpoints.proofs.Orders.{order_kept}
use Rattle.laws_migrations.specs.MigratedLogs.{EachApart, IsMigratable, MigratedDoubt, Written, and_doubt, and_doubts, and_writes, last_checkpoint, migrated_anchor, migrated_log, migrated_work, with_records}
use Rattle.laws_migrations.proofs.Inserting.{HasInserted, all_inserted, has_inserted}
use Rattle.laws_migrations.proofs.Migrating.{HasDoubts, migrated}

-- ---- each record

-- P holds of whatever the transaction may log before its checkpoint
abbrev pub HoldsOf : (LogRecord → Type 0) → ℕ → Type 0
HoldsOf P t = (previous : ℕ) (p : Payload) → is_of_checkpoint p ≡ false → P (record { txn = t; previous = previous; payload = p })

writes_all : (P : LogRecord → Type 0) (t : ℕ) → HoldsOf P t → (ws : List Written) (log : List LogRecord) → AllByRecursion P log → AllByRecursion P (and_writes t log ws)
writes_all P t of_it [] log h = h
writes_all P t of_it (w ∷ ws) log h = writes_all P t of_it ws (log ++ _ ∷ []) (recursion-push P log _ h (of_it _ _ refl))

pub doubts_all : (P : LogRecord → Type 0) (ds : List MigratedDoubt) → AllByRecursion (λ d. HoldsOf P d.txn) ds → (log : List LogRecord) → AllByRecursion P log → AllByRecursion P (and_doubts log ds)
doubts_all P [] of_them log h = h
doubts_all P (d ∷ ds) of_them log h =
    doubts_all P ds of_them.1 (and_doubt log d) (recursion-push P (and_writes d.txn log d.writes) _ (writes_all P d.txn of_them.0 d.writes log h) (of_them.0 _ _ refl))

-- ---- what stands in front

writes_behind : (t : ℕ) (ws : List Written) (log : List LogRecord) → (more : List LogRecord) × (and_writes t log ws ≡ log ++ more)
writes_behind t [] log = ([], sym (append-nil log))
writes_behind t (w ∷ ws) log = let rest = writes_behind t ws (log ++ _ ∷ []) in (_ ∷ rest.0, rest.1 ∙ append_assoc log (_ ∷ []) rest.0)

-- one's Prepare
abbrev prepare_of : MigratedDoubt → List LogRecord → LogRecord
prepare_of d log = record { txn = d.txn; previous = previous_of d.txn (and_writes d.txn log d.writes); payload = Prepare d.global d.granules }

pub doubts_behind : (ds : List MigratedDoubt) (log : List LogRecord) → (more : List LogRecord) × (and_doubts log ds ≡ log ++ more)
doubts_behind [] log = ([], sym (append-nil log))
doubts_behind (d ∷ ds) log =
    let own = writes_behind d.txn d.writes log in
    let rest = doubts_behind ds (and_doubt log d) in
    (own.0 ++ prepare_of d log ∷ rest.0, rest.1 ∙ append_assoc (and_writes d.txn log d.writes) (prepare_of d log ∷ []) rest.0 ∙ ap (λ xs. xs ++ prepare_of d log ∷ rest.0) own.1 ∙ append_assoc log own.0 (prepare_of d log ∷ rest.0))

pub no_record : (u : ℕ) (rs : List LogRecord) → AllByRecursion (λ r. r.txn ≢ u) rs → has_record u rs ≡ false
no_record u [] h = refl
no_record u (r ∷ rs) h = ap (λ b. b || has_record u rs) (ne_eqb r.txn u h.0) ∙ no_record u rs h.1

-- ---- the store

module _ (t : ℕ) (records : Records) (some : 0 < t) (doubts : List MigratedDoubt) (may : AllByRecursion (IsMigratable (λ id. get records id) t) doubts) (apart : EachApart doubts)
    (txns : List LogTxn) (table : IsTable (migrated_work t records doubts) txns)
    (pages : LoggedPages) (as_of : AreAsOfOwnNumbers (migrated_work t records doubts) pages)
    (all_done : (p : PageId) → HasAllUpTo (migrated_work t records doubts) p (pages p) (length (migrated_work t records doubts))) where
  abbrev work : List LogRecord
  work = migrated_work t records doubts

  abbrev front : List LogRecord
  front = with_records t records

  base : HasInserted front t records
  base = has_inserted t records some

  k : HasDoubts front work doubts
  k = migrated t records some doubts may apart

  -- ---- its records

  abbrev IsWork : LogRecord → Type 0
  IsWork r = (r.txn < t + 1) × (is_of_checkpoint r.payload ≡ false)

  of_doubts : (ds : List MigratedDoubt) → AllByRecursion (IsMigratable (λ id. get records id) t) ds → AllByRecursion (λ d. HoldsOf IsWork d.txn) ds
  of_doubts [] h = tt
  of_doubts (d ∷ ds) h = ((λ previous p plain. let low = h.0.below in (omega arith, plain)), of_doubts ds h.1)

  are_work : AllByRecursion IsWork work
  are_work = doubts_all IsWork doubts (of_doubts doubts may) front
      (recursion-push IsWork (and_writes t [] (all_inserted (entries records))) _ (writes_all IsWork t (λ previous p plain. (omega arith, plain)) (all_inserted (entries records)) [] tt) (omega arith, refl))

  below : (rs : List LogRecord) → AllByRecursion IsWork rs → AllByRecursion (λ r. r.txn < t + 1) rs
  below [] h = tt
  below (r ∷ rs) h = (h.0.0, below rs h.1)

  no_ends : EndsListChanges work
  no_ends n r begin next ts dirty at says = absurd (true≢false (sym (ap is_of_checkpoint says) ∙ (recursion-at IsWork work n r are_work at).1))

  -- ---- one step after another

  abbrev start : CheckpointedStore
  start = record {
    store = record { log = work; durable = length work; redone = length work; volume = pages; in_place = pages };
    recovery = λ p. 0;
    stage = NoCheckpoint;
    anchored = not_anchored;
  }

  in_order : IsInOrder start
  in_order = record {
    recoverable = record {
      durable = omega arith;
      redone = omega arith;
      volume = as_of;
      ahead = λ p. (as_of p).within;
      in_place = λ p. lacks_none_one_by_one work p (pages p) (length work) (omega arith) (as_of p) (all_done p);
    };
    lawful = k.lawful;
    has_redone = all_done;
    recoveries = record { clean = λ p none. refl; dirty = λ p some. absurd (omega arith); changed = λ p some. absurd (omega arith); kept = λ p some. absurd (omega arith) };
    ends = no_ends;
    anchor = inl refl;
    stage_right = tt;
    redone = omega arith;
  }

  abbrev c : Checkpoint
  c = last_checkpoint work (t + 1) txns

  tables : AreTablesNow start (t + 1) txns []
  tables = record {
    txns_now = table;
    above = All-from_recursion (λ r. r.txn < t + 1) work (below work are_work);
    dirty_now = record { each = tt; every = λ p some. absurd (omega arith) };
  }

  abbrev begun : CheckpointedStore
  begun = record start { store = after_append start.store (of_checkpoint CheckpointBegin); stage = BeginLogged c }

  begun_in_order : IsInOrder begun
  begun_in_order = order_kept start (BeginCheckpoint (t + 1) txns []) begun in_order (refl, refl, tables, refl)

  abbrev ended : CheckpointedStore
  ended = record begun { store = after_append begun.store (of_checkpoint (end_payload c)); stage = EndLogged c (length begun.store.log + 1) }

  ended_in_order : IsInOrder ended
  ended_in_order = order_kept begun EndCheckpoint ended begun_in_order (c, refl, sym (length-push work (of_checkpoint CheckpointBegin)), refl)

  abbrev whole : List LogRecord
  whole = migrated_log t records doubts txns

  longer : length whole ≡ length work + 2
  longer =
      let one = length-push work (of_checkpoint CheckpointBegin) in
      let two = length-push (work ++ of_checkpoint CheckpointBegin ∷ []) (of_checkpoint (end_payload c)) in
      omega arith

  abbrev forced : CheckpointedStore
  forced = record ended { store = after_force ended.store (length whole) }

  forced_in_order : IsInOrder forced
  forced_in_order = let long = longer in order_kept ended (StoreEvent (ForceLog (length whole))) forced ended_in_order (tt, forced.store, (omega arith, omega arith, refl), refl)

  -- ---- the anchor

  abbrev tail : ℕ
  tail = length front + 1

  front_is : take (length front) work ≡ front
  front_is = let rest = doubts_behind doubts front in
      ap (take (length front)) rest.1 ∙ take-append-le (length front) front rest.0 (omega arith) ∙ take_all (length front) front (omega arith)

  front_within : length front ≤ length work
  front_within = let rest = doubts_behind doubts front in let e = ap length rest.1 in let long = length-append front rest.0 in omega arith

  first_kept : (e : LogTxn) → IsEntry work e → tail ≤ e.first
  first_kept e h =
      let other : t ≢ e.txn = λ same. true≢false (sym (k.over t ∙ base.over) ∙ ap (λ u. is_over u work) same ∙ h.0.not_over) in
      let none : has_record e.txn (take (length front) work) ≡ false = ap (has_record e.txn) front_is ∙ no_record e.txn front (base.own e.txn other) in
      let behind = first_behind e.txn work (length front) front_within none h.0.known in
      let first = h.1.first in
      omega arith

  all_kept : (n : ℕ) (es : List LogTxn) → tail ≤ n → AllByRecursion (IsEntry work) es → tail ≤ least_first n es
  all_kept n [] le each = le
  all_kept n (e ∷ es) le each = let rest = all_kept n es le each.1 in let first = first_kept e each.0 in omega arith

  point : tail ≤ cut_point c
  point = let within = front_within in all_kept (length work + 1) txns (omega arith) (recursion_from_All (IsEntry work) txns table.each)

  abbrev moved : CheckpointedStore
  moved = record forced { stage = NoCheckpoint; anchored = migrated_anchor t records doubts }

  moved_in_order : IsInOrder moved
  moved_in_order =
      let one = length-push work (of_checkpoint CheckpointBegin) in
      let long = longer in
      order_moved forced forced_in_order c (length begun.store.log + 1) tail forced_in_order.stage_right (omega arith) (omega arith) point

  -- ---- as an open finds it

  abbrev found : List LogRecord → CheckpointedStore
  found rs = record {
    store = record { log = rs; durable = length whole; redone = redo_behind (end_among (migrated_anchor t records doubts).checkpoint rs); volume = pages; in_place = pages };
    recovery = λ p. 0;
    stage = NoCheckpoint;
    anchored = migrated_anchor t records doubts;
  }

  pub found_in_order : IsInOrder (found whole)
  found_in_order = subst (λ rs. IsInOrder (found rs)) (take-length whole)
      (order_kept moved (CrashStore (length whole) pages) (found (take (length whole) whole)) moved_in_order (omega arith, omega arith, (λ p. inl refl), refl))
