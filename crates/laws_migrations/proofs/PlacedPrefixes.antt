-- Each prefix of a migrated log has its place in the new geometry: pages have room for it, and no more transactions have not ended than there may be.
use Rattle.std.proofs.Common.{◌≡◌, ◌≢◌, ◌⊎◌, inl, inr, ⊎_elim, ◌<◌, ◌≤◌, ◌+◌, ◌++◌, ℕ, zero, suc, List, [], ◌∷◌, Bool, true, false, Some, refl, sym, ap, subst, ◌∙◌, length, map, take, arith, append_assoc}
use Rattle.std.specs.Prelude.{◌==◌, ◌&&◌, ◌||◌, IsTrue, nat_lt, reverse, slice_get}
use Rattle.std.specs.List.{AllByRecursion}
use Rattle.std.proofs.lemmas.Bool.{cases_Bool, ltb-true, true≢false}
use Rattle.std.proofs.lemmas.List.{take-append-le}
use Rattle.std.proofs.lemmas.List.Elements.{recursion_from_All}
use Rattle.std.proofs.lemmas.List.Folds.{list_any-append}
use Rattle.shore_types.specs.declared.layout.Geometry.{Geometry}
use Rattle.shore_types.specs.declared.layout.TheConstants.{LAST_TXN, MAX_TRANSACTIONS}
use Rattle.shore_model.specs.declared.log_records.LogRecord.{LogRecord}
use Rattle.shore_model.specs.declared.log_records.LogTxn.{LogTxn}
use Rattle.shore_model.specs.declared.log_records.Payload.{Payload}
use Rattle.shore_model.specs.declared.log_records.Payload.TheVariants.{CheckpointBegin}
use Rattle.shore_model.specs.Logs.{IsEntry, IsListed, IsTable, Lawful, first_number, has, is_commit, is_end, is_in_doubt, is_over, is_prepare, last_of, rise_above}
use Rattle.shore_analysis.specs.Meant.{IsCrowded, IsInBounds}
use Rattle.shore_analysis.proofs.SomeTable.{some_table}
use Rattle.laws_lives.specs.LogTells.{records_committed}
use Rattle.laws_lives.specs.Sessions.{EachOnce}
use Rattle.laws_lives.specs.Undo.{HasNoLosers}
use Rattle.laws_lives.specs.Views.{IsAmong}
use Rattle.laws_lives.proofs.Booleans.{and_true}
use Rattle.laws_lives.proofs.LawfulPrepares.{one_passing, prepared_is_one}
use Rattle.laws_lives.proofs.Lists.{mapped_one, recursion-at, recursion-push, recursion-take, recursion-weaker, within_or_beyond}
use Rattle.laws_lives.proofs.UndoRecords.{lawful_front}
use Rattle.laws_lives.proofs.Writers.{same_or_not}
use Rattle.laws_lives.proofs.WritersTold.{doubt_not_over, in_doubt_parts}
use Rattle.laws_checkpoints.specs.Checkpoints.{end_payload, of_checkpoint}
use Rattle.laws_checkpoints.proofs.Kept.{none_filtered}
use Rattle.laws_checkpoints.proofs.Rising.{Among, among_above, fewer, listed_among}
use Rattle.shore_model.specs.Logs.{is_rollback}
use Rattle.laws_runs.specs.RoomyLogs.{IsPlacedLog, IsUndecided}
use Rattle.laws_runs.specs.SlotCounts.{slot_count}
use Rattle.laws_migrations.specs.Geometries.{MayMoveInto}
use Rattle.laws_migrations.specs.MigratedLogs.{IsRead, MigratedDoubt, last_checkpoint, migrated_log, migrated_work, with_records}
use Rattle.laws_migrations.proofs.Checkpointing.{HoldsOf, doubts_all, doubts_behind, no_record}
use Rattle.laws_migrations.proofs.Inserting.{HasInserted, has_inserted}
use Rattle.laws_migrations.proofs.MigratedRecords.{IsMovable, all_movable}
use Rattle.laws_migrations.proofs.Reading.{in_doubt}
use Rattle.laws_migrations.proofs.UndoneClaims.{AreUndecidedTxns, is_placed}

-- ---- tables

is_among : (u : ℕ) (es : List LogTxn) → IsAmong u (map (λ (e : LogTxn). e.txn) es) → Among u es
is_among u [] m = absurd m
is_among u (e ∷ es) (inl same) = inl same
is_among u (e ∷ es) (inr later) = inr (is_among u es later)

among_txns : (u : ℕ) (es : List LogTxn) → Among u es → IsAmong u (map (λ (e : LogTxn). e.txn) es)
among_txns u [] m = absurd m
among_txns u (e ∷ es) (inl same) = inl same
among_txns u (e ∷ es) (inr later) = inr (among_txns u es later)

rises_first : (t : ℕ) (e : LogTxn) (es : List LogTxn) → IsTrue (rise_above t (e ∷ es)) → (t < e.txn) × IsTrue (rise_above e.txn es)
rises_first t e es h = let both = and_true (nat_lt t e.txn) (rise_above e.txn es) h in (ltb-true t e.txn both.0, both.1)

each_txn_once : (t : ℕ) (es : List LogTxn) → IsTrue (rise_above t es) → EachOnce (map (λ (e : LogTxn). e.txn) es)
each_txn_once t [] rising = tt
each_txn_once t (e ∷ es) rising =
    let rest = (rises_first t e es rising).1 in
    ((λ m. let above = among_above e.txn e.txn es rest (is_among e.txn es m) in omega (arith, above)), each_txn_once e.txn es rest)

one_at_most : (t u : ℕ) (es : List LogTxn) → IsTrue (rise_above t es) → AllByRecursion (λ (e : LogTxn). u ≡ e.txn) es → length es ≤ 1
one_at_most t u [] rising own = omega arith
one_at_most t u (e ∷ []) rising own = omega arith
one_at_most t u (e ∷ f ∷ es) rising own =
    let less = (rises_first e.txn f es (rises_first t e (f ∷ es) rising).1).0 in let a = own.0 in let b = own.1.0 in absurd (omega (arith, less, a, b))

-- ---- records of a transaction

-- a record of the transaction, or none is there
own_or_none : (u : ℕ) (rs : List LogRecord) → ((n : ℕ) × (r : LogRecord) × (slice_get rs n ≡ Some r) × (r.txn ≡ u)) ⊎ AllByRecursion (λ r. r.txn ≢ u) rs
own_or_none u [] = inr tt
own_or_none u (r ∷ rs) = ⊎_elim
    (λ own. inl (0, r, refl, own))
    (λ other. ⊎_elim (λ later. inl (suc later.0, later.1, later.2, later.3)) (λ none. inr (other, none)) (own_or_none u rs))
    (same_or_not r.txn u)

unknown : (u : ℕ) (rs : List LogRecord) → AllByRecursion (λ r. r.txn ≢ u) rs → 0 < last_of u rs → ⊥
unknown u rs none known =
    let nothing : last_of u rs ≡ 0 = ap (λ xs. first_number (reverse xs)) (none_filtered u 1 rs (no_record u rs none)) in omega (arith, nothing, known)

over_longer : (t : ℕ) (front more : List LogRecord) → is_over t front ≡ true → is_over t (front ++ more) ≡ true
over_longer t front more h =
    either (has is_commit t front) (has is_end t front) (has is_commit t more) (has is_end t more) (has is_commit t (front ++ more)) (has is_end t (front ++ more)) (longer is_commit) (longer is_end) h
  where
    longer : (p : Payload → Bool) → has p t (front ++ more) ≡ (has p t front || has p t more)
    longer p = list_any-append (λ r. (r.txn == t) && p r.payload) front more

    either : (a b c d x y : Bool) → x ≡ (a || c) → y ≡ (b || d) → (a || b) ≡ true → (x || y) ≡ true
    either true b c d x y e f h = ap (λ z. z || y) e
    either false true c d true y e f h = refl
    either false true c d false y e f h = f
    either false false c d x y e f h = absurd (true≢false (sym h))

take_past : (front more : List LogRecord) (n : ℕ) → length front ≤ n → (rest : List LogRecord) × (take n (front ++ more) ≡ front ++ rest)
take_past [] more n le = (take n more, refl)
take_past (r ∷ front) more zero le = absurd (omega (arith, le))
take_past (r ∷ front) more (suc n) le = let later = take_past front more n (omega (arith, le)) in (later.0, ap (λ rs. r ∷ rs) later.1)

-- ---- who is undecided

-- a record of a transaction that is undecided
its_record : (log : List LogRecord) (u : ℕ) → IsUndecided log u → (n : ℕ) × (r : LogRecord) × (slice_get log n ≡ Some r) × (r.txn ≡ u)
its_record log u (inl loser) = ⊎_elim (λ own. own) (λ none. absurd (unknown u log none loser.known)) (own_or_none u log)
its_record log u (inr doubt) =
    let one = one_passing is_prepare u log (in_doubt_parts (has is_prepare u log) (has is_commit u log) (has is_rollback u log) doubt).0 in
    (one.at, one.found, one.here, one.own)

is_one : (log : List LogRecord) → Lawful log → (u : ℕ) → IsUndecided log u → 0 < u
is_one log lawful u (inl loser) = loser.is_one
is_one log lawful u (inr doubt) = prepared_is_one log lawful u (in_doubt_parts (has is_prepare u log) (has is_commit u log) (has is_rollback u log) doubt).0

not_over : (log : List LogRecord) → Lawful log → (u : ℕ) → IsUndecided log u → is_over u log ≡ false
not_over log lawful u (inl loser) = loser.not_over
not_over log lawful u (inr doubt) = doubt_not_over log lawful u doubt

listed : (log : List LogRecord) → Lawful log → (txns : List LogTxn) → IsTable log txns → (u : ℕ) → IsUndecided log u → Among u txns
listed log lawful txns table u undecided =
    let r = its_record log u undecided in
    let its = recursion-at (IsListed log txns) log r.0 r.1 (recursion_from_All (IsListed log txns) log table.every) r.2 in
    subst (λ v. Among v txns) r.3 (listed_among r.1.txn txns
    (its (subst (λ v. 0 < v) (sym r.3) (is_one log lawful u undecided)) (ap (λ v. is_over v log) r.3 ∙ not_over log lawful u undecided)))

-- the table of a log names those that it has not decided
pub named_by_table : (log : List LogRecord) → Lawful log → (txns : List LogTxn) → IsTable log txns → AreUndecidedTxns log (map (λ (e : LogTxn). e.txn) txns)
named_by_table log lawful txns table = record {
  each = λ u m.
      let one = mapped_one (λ (e : LogTxn). e.txn) u txns m in
      subst (IsUndecided log) one.2 (by one.0 (each_entry txns (recursion_from_All (IsEntry log) txns table.each) one.0 one.1));
  every = λ u undecided. among_txns u txns (listed log lawful txns table u undecided);
  once = each_txn_once 0 txns table.rising;
}
  where
    each_entry : (es : List LogTxn) → AllByRecursion (IsEntry log) es → (e : LogTxn) → IsAmong e es → IsEntry log e
    each_entry [] all e m = absurd m
    each_entry (x ∷ es) all e (inl same) = subst (IsEntry log) same all.0
    each_entry (x ∷ es) all e (inr later) = each_entry es all.1 e later

    by : (e : LogTxn) → IsEntry log e → IsUndecided log e.txn
    by e entry = ⊎_elim
        (λ doubt. inr doubt)
        (λ none. inl (record { is_one = entry.0.is_one; known = entry.0.known; not_over = entry.0.not_over; not_in_doubt = none }))
        (cases_Bool (is_in_doubt e.txn log))

-- ---- the migrated log

module _ (g h : Geometry) (into : MayMoveInto g h) (old : List LogRecord) (lawful : Lawful old) (no_losers : HasNoLosers old) (k : IsPlacedLog g old)
    (t : ℕ) (doubts : List MigratedDoubt) (read : IsRead old t doubts) (low : t < LAST_TXN) (txns : List LogTxn)
    (now : Lawful (migrated_log t (records_committed old) doubts txns)) where
  abbrev whole : List LogRecord
  whole = migrated_log t (records_committed old) doubts txns

  abbrev front : List LogRecord
  front = with_records t (records_committed old)

  base : HasInserted front t (records_committed old)
  base = has_inserted t (records_committed old) read.some

  -- what stands behind the inserts
  behind : (more : List LogRecord) × (whole ≡ front ++ more)
  behind =
      let work = doubts_behind doubts front in
      let begin = of_checkpoint CheckpointBegin in
      let end = of_checkpoint (end_payload (last_checkpoint (migrated_work t (records_committed old) doubts) (t + 1) txns)) in (
        (work.0 ++ begin ∷ []) ++ end ∷ [],
        ap (λ rs. (rs ++ begin ∷ []) ++ end ∷ []) work.1 ∙ ap (λ rs. rs ++ end ∷ []) (append_assoc front work.0 (begin ∷ [])) ∙ append_assoc front (work.0 ++ begin ∷ []) (end ∷ []),
      )

  -- nobody else has a record
  none_of : (u : ℕ) → 0 < u → t ≢ u → AllByRecursion (λ d. d.txn ≢ u) doubts → AllByRecursion (λ r. r.txn ≢ u) whole
  none_of u some other none =
      let nobody : 0 ≢ u = λ e. omega (arith, some, e) in
      recursion-push (λ r. r.txn ≢ u) (migrated_work t (records_committed old) doubts ++ of_checkpoint CheckpointBegin ∷ []) _
      (recursion-push (λ r. r.txn ≢ u) (migrated_work t (records_committed old) doubts) (of_checkpoint CheckpointBegin)
      (doubts_all (λ r. r.txn ≢ u) doubts (of_others_of u doubts none) front (base.own u other)) nobody) nobody
    where
      of_others_of : (u : ℕ) (ds : List MigratedDoubt) → AllByRecursion (λ d. d.txn ≢ u) ds → AllByRecursion (λ d. HoldsOf (λ r. r.txn ≢ u) d.txn) ds
      of_others_of u [] none = tt
      of_others_of u (d ∷ ds) none = ((λ previous p plain. none.0), of_others_of u ds none.1)

  -- ---- how many have not ended

  abbrev Many : List LogTxn → Type 0
  Many es = MAX_TRANSACTIONS < length es

  old_table : (es : List LogTxn) × IsTable old es
  old_table = some_table old

  few_while_inserting : (n : ℕ) → n ≤ length front → (es : List LogTxn) → IsTable (take n whole) es → Many es → ⊥
  few_while_inserting n le es table many =
      let one = one_at_most 0 t es table.rising (each es (recursion_from_All (IsEntry (take n whole)) es table.each)) in omega (arith, one, many)
    where
      is : take n whole ≡ take n front
      is = ap (take n) behind.1 ∙ take-append-le n front behind.0 le

      each : (es : List LogTxn) → AllByRecursion (IsEntry (take n whole)) es → AllByRecursion (λ (e : LogTxn). t ≡ e.txn) es
      each [] all = tt
      each (e ∷ es) all = (
        ⊎_elim (λ own. own) (λ other. absurd (unknown e.txn (take n whole) (subst (AllByRecursion (λ r. r.txn ≢ e.txn)) (sym is) (recursion-take (λ r. r.txn ≢ e.txn) n front (base.own e.txn other))) all.0.0.known))
            (same_or_not t e.txn),
        each es all.1,
      )

  few_behind : (n : ℕ) → length front < n → (es : List LogTxn) → IsTable (take n whole) es → Many es → ⊥
  few_behind n less es table many =
      let most = fewer old_table.0 es 0 0 table.rising old_table.1.rising (each es (recursion_from_All (IsEntry (take n whole)) es table.each)) in
      k.few (old_table.0, old_table.1, omega (arith, most, many))
    where
      inserted_over : is_over t (take n whole) ≡ true
      inserted_over =
          let rest = take_past front behind.0 n (omega (arith, less)) in
          ap (is_over t) (ap (take n) behind.1 ∙ rest.1) ∙ over_longer t front rest.0 base.over

      in_old : (d : MigratedDoubt) → IsAmong d doubts → Among d.txn old_table.0
      in_old d m = listed old lawful old_table.0 old_table.1 d.txn (inr (in_doubt_in d m))
        where
          in_doubt_in : (d : MigratedDoubt) → IsAmong d doubts → is_in_doubt d.txn old ≡ true
          in_doubt_in d m = in_doubt old lawful t doubts read d m

      each : (es : List LogTxn) → AllByRecursion (IsEntry (take n whole)) es → AllByRecursion (λ (e : LogTxn). Among e.txn old_table.0) es
      each [] all = tt
      each (e ∷ es) all =
          let entry = all.0.0 in
          let other : t ≢ e.txn = λ same. true≢false (sym inserted_over ∙ ap (λ u. is_over u (take n whole)) same ∙ entry.not_over) in (
            ⊎_elim
                (λ one. subst (λ u. Among u old_table.0) one.2 (in_old one.0 one.1))
                (λ none. absurd (unknown e.txn (take n whole) (recursion-take (λ r. r.txn ≢ e.txn) n whole (none_of e.txn entry.is_one other none)) entry.known))
                (one_of e.txn doubts),
            each es all.1,
          )
        where
          one_of : (u : ℕ) (ds : List MigratedDoubt) → ((d : MigratedDoubt) × IsAmong d ds × (d.txn ≡ u)) ⊎ AllByRecursion (λ d. d.txn ≢ u) ds
          one_of u [] = inr tt
          one_of u (d ∷ ds) = ⊎_elim
              (λ same. inl (d, inl refl, same))
              (λ other. ⊎_elim (λ later. inl (later.0, inr later.1, later.2)) (λ none. inr (other, none)) (one_of u ds))
              (same_or_not d.txn u)

  few : (n : ℕ) → IsCrowded (take n whole) → ⊥
  few n crowded = ⊎_elim
      (λ within. few_while_inserting n within crowded.0 crowded.1 crowded.2)
      (λ beyond. few_behind n beyond crowded.0 crowded.1 crowded.2)
      (within_or_beyond n (length front))

  -- ---- each prefix

  movable : AllByRecursion (IsMovable g h into old lawful no_losers k t doubts read low) whole
  movable = all_movable g h into old lawful no_losers k t doubts read low txns

  pub prefix_placed : (n : ℕ) (ts : List ℕ) → AreUndecidedTxns (take n whole) ts → IsPlacedLog h (take n whole)
  prefix_placed n ts are =
      let all = recursion-take (IsMovable g h into old lawful no_losers k t doubts read low) n whole movable in
      is_placed k.records k.undos (slot_count old) (take n whole) (lawful_front whole n now)
      (recursion-weaker (IsMovable g h into old lawful no_losers k t doubts read low) _ (λ r m. m.0) (take n whole) all) ts are g.version h into.version k.pages.room
      (recursion-weaker (IsMovable g h into old lawful no_losers k t doubts read low) (IsInBounds h) (λ r m. m.1) (take n whole) all) (few n)

  pub each_placed : (n : ℕ) → IsPlacedLog h (take n whole)
  each_placed n =
      let table = some_table (take n whole) in
      prefix_placed n (map (λ (e : LogTxn). e.txn) table.0) (named_by_table (take n whole) (lawful_front whole n now) table.0 table.1)
