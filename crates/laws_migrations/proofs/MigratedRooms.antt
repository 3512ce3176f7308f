-- A migrated log has room in the new pair, where its sum fits the ring.
use Rattle.std.proofs.Common.{◌≡◌, ◌≢◌, inl, inr, ⊎_elim, ◌<◌, ◌+◌, ◌*◌, ◌++◌, ℕ, List, [], ◌∷◌, true, refl, sym, ap, subst, ◌∙◌, length, map, arith, append-nil, append_assoc, take_all}
use Rattle.std.specs.Prelude.{reverse}
use Rattle.std.specs.List.{AllByRecursion}
use Rattle.std.proofs.Math.Seq.{take-length}
use Rattle.std.proofs.lemmas.List.{length-map, reverse-reverse}
use Rattle.shore_types.specs.Images.{Image}
use Rattle.shore_types.specs.declared.ids.PageId.{PageId}
use Rattle.shore_types.specs.declared.ids.Rid.{Rid}
use Rattle.shore_types.specs.declared.layout.Geometry.{Geometry}
use Rattle.shore_types.specs.declared.layout.TheConstants.{ENDING_COST, LAST_TXN}
use Rattle.shore_model.specs.declared.log_records.LogRecord.{LogRecord}
use Rattle.shore_model.specs.declared.log_records.LogTxn.{LogTxn}
use Rattle.shore_model.specs.declared.log_records.Payload.TheVariants.{Change, CheckpointBegin, Prepare}
use Rattle.shore_model.specs.declared.unanswered_changes.UnansweredChange.{UnansweredChange}
use Rattle.shore_model.specs.Logs.{IsTable, Lawful, is_in_doubt, previous_of, unanswered, unanswered_in}
use Rattle.laws_lives.specs.DirtyPages.{HasAllUpTo}
use Rattle.laws_lives.specs.Doubts.{LoggedDoubt, NeedMore, doubts_in, undo_in}
use Rattle.laws_lives.specs.Logged.{and_record}
use Rattle.laws_lives.specs.LogTells.{MatchesUndo, records_committed}
use Rattle.laws_lives.specs.Pages.{AreAsOfOwnNumbers, LoggedPages}
use Rattle.laws_lives.specs.Sessions.{EachOnce}
use Rattle.laws_lives.specs.Undo.{HasNoLosers}
use Rattle.laws_lives.specs.Views.{IsAmong}
use Rattle.laws_lives.proofs.DoubtsShown.{doubts_once}
use Rattle.laws_lives.proofs.Lists.{among_map, mapped_one}
use Rattle.laws_lives.proofs.UnansweredChanges.{change_matches, unanswered_other, unanswered_own}
use Rattle.laws_checkpoints.specs.Checkpoints.{cut_of, end_payload, of_checkpoint}
use Rattle.laws_checkpoints.proofs.Kept.{none_filtered}
use Rattle.laws_room.specs.LogRooms.{compensation_costs, owed_by_all}
use Rattle.laws_runs.proofs.MovedAnchors.{cost_in_parts}
use Rattle.laws_runs.proofs.Undecided.{some_owe_no_more}
use Rattle.laws_runs.specs.CheckpointSteps.{log_limit}
use Rattle.laws_runs.specs.RoomyLogs.{AreRoomy, IsPlacedLog, IsRoomyLog}
use Rattle.laws_migrations.specs.Geometries.{MayMoveInto}
use Rattle.laws_migrations.specs.MigratedLogs.{AreApart, EachApart, IsRead, MigratedDoubt, Written, and_doubt, and_doubts, and_writes, as_logged, last_checkpoint, migrated_anchor, migrated_log, migrated_work, with_records}
use Rattle.laws_migrations.specs.Rooms.{FitsRing, overwritten, owed_for}
use Rattle.laws_migrations.proofs.Checkpointing.{doubts_all, no_record}
use Rattle.laws_migrations.proofs.DoubtsThere.{doubt_there}
use Rattle.laws_migrations.proofs.Inserting.{HasInserted, has_inserted}
use Rattle.laws_migrations.proofs.PlacedPrefixes.{each_placed}
use Rattle.laws_migrations.proofs.Reading.{each_apart, migratable}
use Rattle.laws_migrations.proofs.Telling.{in_doubt_now, in_order, listed_now, none_left}
use Rattle.laws_migrations.proofs.UndoneClaims.{AreUndecidedTxns, lists_undecided, undo_of}

-- ---- what those in doubt have to undo

none_unanswered : (t : ℕ) (log : List LogRecord) → AllByRecursion (λ r. r.txn ≢ t) log → unanswered t log ≡ []
none_unanswered t log none = ap (λ rs. unanswered_in (reverse rs)) (none_filtered t 1 log (no_record t log none))

writes_match : (t : ℕ) (ws : List Written) (log : List LogRecord) (images : List (Rid × Image)) → MatchesUndo log t images → MatchesUndo (and_writes t log ws) t (images ++ map overwritten ws)
writes_match t [] log images h = subst (MatchesUndo log t) (sym (append-nil images)) h
writes_match t (w ∷ ws) log images h =
    let next = and_record t log (Change w.id w.before w.after) in
    subst (MatchesUndo (and_writes t next ws) t) (append_assoc images ((w.id, w.before) ∷ []) (map overwritten ws))
    (writes_match t ws next (images ++ (w.id, w.before) ∷ []) (change_matches t log images w.id w.before w.after h))

writes_keep : (t u : ℕ) → t ≢ u → (ws : List Written) (log : List LogRecord) → unanswered u (and_writes t log ws) ≡ unanswered u log
writes_keep t u other [] log = refl
writes_keep t u other (w ∷ ws) log =
    writes_keep t u other ws (and_record t log (Change w.id w.before w.after))
    ∙ unanswered_other u log (record { txn = t; previous = previous_of t log; payload = Change w.id w.before w.after }) other

doubt_keeps : (d : MigratedDoubt) (u : ℕ) → d.txn ≢ u → (log : List LogRecord) → unanswered u (and_doubt log d) ≡ unanswered u log
doubt_keeps d u other log =
    let mid = and_writes d.txn log d.writes in
    unanswered_other u mid (record { txn = d.txn; previous = previous_of d.txn mid; payload = Prepare d.global d.granules }) other ∙ writes_keep d.txn u other d.writes log

doubts_keep : (u : ℕ) (ds : List MigratedDoubt) → AllByRecursion (λ d. d.txn ≢ u) ds → (log : List LogRecord) → unanswered u (and_doubts log ds) ≡ unanswered u log
doubts_keep u [] others log = refl
doubts_keep u (d ∷ ds) others log = doubts_keep u ds others.1 (and_doubt log d) ∙ doubt_keeps d u others.0 log

matches_same : (a b : List LogRecord) (t : ℕ) (images : List (Rid × Image)) → unanswered t b ≡ unanswered t a → MatchesUndo a t images → MatchesUndo b t images
matches_same a b t images same h = ap (map (λ (c : UnansweredChange). (c.id, c.before))) same ∙ h

doubt_matches : (d : MigratedDoubt) (log : List LogRecord) → AllByRecursion (λ r. r.txn ≢ d.txn) log → MatchesUndo (and_doubt log d) d.txn (map overwritten d.writes)
doubt_matches d log none =
    let mid = and_writes d.txn log d.writes in
    let r : LogRecord = record { txn = d.txn; previous = previous_of d.txn mid; payload = Prepare d.global d.granules } in
    matches_same mid (and_doubt log d) d.txn (map overwritten d.writes) (unanswered_own d.txn mid r refl)
    (writes_match d.txn d.writes log [] (ap (map (λ (c : UnansweredChange). (c.id, c.before))) (none_unanswered d.txn log none)))

doubts_match : (ds : List MigratedDoubt) (log : List LogRecord) → EachApart ds → ((d : MigratedDoubt) → IsAmong d ds → AllByRecursion (λ r. r.txn ≢ d.txn) log)
    → (d : MigratedDoubt) → IsAmong d ds → MatchesUndo (and_doubts log ds) d.txn (map overwritten d.writes)
doubts_match [] log apart none d m = absurd m
doubts_match (e ∷ ds) log apart none d (inl same) =
    subst (λ (d : MigratedDoubt). MatchesUndo (and_doubts (and_doubt log e) ds) d.txn (map overwritten d.writes)) same
    (matches_same (and_doubt log e) (and_doubts (and_doubt log e) ds) e.txn (map overwritten e.writes) (doubts_keep e.txn ds (others ds apart.0) (and_doubt log e)) (doubt_matches e log (none e (inl refl))))
  where
    others : (fs : List MigratedDoubt) → AllByRecursion (AreApart e) fs → AllByRecursion (λ f. f.txn ≢ e.txn) fs
    others [] h = tt
    others (f ∷ fs) h = ((λ same. h.0.txns (sym same)), others fs h.1)
doubts_match (e ∷ ds) log apart none d (inr later) =
    doubts_match ds (and_doubt log e) apart.1
    (λ f m. doubts_all (λ r. r.txn ≢ f.txn) (e ∷ []) ((λ previous p plain. other ds apart.0 f m), tt) log (none f (inr m))) d later
  where
    other : (fs : List MigratedDoubt) → AllByRecursion (AreApart e) fs → (f : MigratedDoubt) → IsAmong f fs → e.txn ≢ f.txn
    other [] h f m = absurd m
    other (x ∷ fs) h f (inl same) = subst (λ (y : MigratedDoubt). e.txn ≢ y.txn) same h.0.txns
    other (x ∷ fs) h f (inr m) = other fs h.1 f m

-- ---- what they are owed

abbrev txn_of : MigratedDoubt → ℕ
txn_of d = d.txn

owed_is : (log : List LogRecord) (ds : List MigratedDoubt) → ((d : MigratedDoubt) → IsAmong d ds → MatchesUndo log d.txn (map overwritten d.writes))
    → owed_by_all (map (undo_of log) (map txn_of ds)) + ENDING_COST * length ds ≡ owed_for ds
owed_is log [] matched = refl
owed_is log (d ∷ ds) matched =
    let rest = owed_is log ds (λ e later. matched e (inr later)) in
    let same : compensation_costs (undo_in log d.txn).images ≡ compensation_costs (map overwritten d.writes) =
    ap (λ es. compensation_costs (reverse es)) (matched d (inl refl)) ∙ ap compensation_costs (reverse-reverse (map overwritten d.writes)) in
    omega (arith, rest, same)

same_txns : (ds : List MigratedDoubt) → map (λ (e : LoggedDoubt). e.txn) (map as_logged ds) ≡ map txn_of ds
same_txns [] = refl
same_txns (d ∷ ds) = ap (λ ts. d.txn ∷ ts) (same_txns ds)

module _ (g h : Geometry) (into : MayMoveInto g h) (old : List LogRecord) (lawful : Lawful old) (no_losers : HasNoLosers old) (k : IsPlacedLog g old)
    (t : ℕ) (doubts : List MigratedDoubt) (read : IsRead old t doubts) (low : t < LAST_TXN) (txns : List LogTxn)
    (table : IsTable (migrated_work t (records_committed old) doubts) txns)
    (pages : LoggedPages) (as_of : AreAsOfOwnNumbers (migrated_work t (records_committed old) doubts) pages)
    (all_done : (p : PageId) → HasAllUpTo (migrated_work t (records_committed old) doubts) p (pages p) (length (migrated_work t (records_committed old) doubts))) where
  abbrev whole : List LogRecord
  whole = migrated_log t (records_committed old) doubts txns

  abbrev work : List LogRecord
  work = migrated_work t (records_committed old) doubts

  now : Lawful whole
  now = (in_order old lawful no_losers t doubts read txns table pages as_of all_done).lawful

  listed : doubts_in whole ≡ map as_logged doubts
  listed = listed_now old lawful no_losers t doubts read txns table pages as_of all_done

  none_losing : HasNoLosers whole
  none_losing = none_left old lawful no_losers t doubts read txns table pages as_of all_done

  -- those that the new log has not decided are those in doubt
  are : AreUndecidedTxns whole (map txn_of doubts)
  are = record {
    each = λ u m.
        let one = mapped_one txn_of u doubts m in
        inr (subst (λ v. is_in_doubt v whole ≡ true) one.2 (in_doubt_now old lawful no_losers t doubts read txns table pages as_of all_done one.0 one.1));
    every = λ u undecided. ⊎_elim (λ loser. absurd (none_losing u loser)) (λ doubt. among u (doubt_there u whole doubt)) undecided;
    once = subst EachOnce (same_txns doubts) (subst (λ (ds : List LoggedDoubt). EachOnce (map (λ e. e.txn) ds)) listed (doubts_once whole now));
  }
    where
      among : (u : ℕ) → ((d : LoggedDoubt) × IsAmong d (doubts_in whole) × (d.txn ≡ u)) → IsAmong u (map txn_of doubts)
      among u d =
          let one = mapped_one as_logged d.0 doubts (subst (IsAmong d.0) listed d.1) in
          subst (λ v. IsAmong v (map txn_of doubts)) (ap (λ (e : LoggedDoubt). e.txn) one.2 ∙ d.2) (among_map txn_of one.0 doubts one.1)

  base : HasInserted (with_records t (records_committed old)) t (records_committed old)
  base = has_inserted t (records_committed old) read.some

  matched : (d : MigratedDoubt) → IsAmong d doubts → MatchesUndo whole d.txn (map overwritten d.writes)
  matched d m =
      let may = migratable old lawful t doubts read d m in
      let nobody : 0 ≢ d.txn = λ e. let some = may.some in omega (arith, some, e) in
      let begin = of_checkpoint CheckpointBegin in
      let end = of_checkpoint (end_payload (last_checkpoint work (t + 1) txns)) in
      matches_same work whole d.txn (map overwritten d.writes)
      (unanswered_other d.txn (work ++ begin ∷ []) end nobody ∙ unanswered_other d.txn work begin nobody)
      (doubts_match doubts (with_records t (records_committed old)) (each_apart old lawful t doubts read)
      (λ e there. base.own e.txn (λ same. let below = (migratable old lawful t doubts read e there).below in omega (arith, below, same))) d m)

  -- ---- the room

  module _ (ring_bytes : ℕ) (fits : FitsRing ring_bytes t (records_committed old) doubts txns) (locks : NeedMore h.max_locks (doubts_in old) → ⊥) where
    abbrev limit : ℕ
    limit = log_limit ring_bytes (cut_of (migrated_anchor t (records_committed old) doubts)) whole

    whole_placed : IsPlacedLog h whole
    whole_placed = subst (IsPlacedLog h) (take-length whole) (each_placed g h into old lawful no_losers k t doubts read low txns now (length whole))

    whole_roomy : IsRoomyLog h limit whole
    whole_roomy =
        let p = whole_placed in
        let less = some_owe_no_more whole (map (undo_of whole) (map txn_of doubts)) (lists_undecided whole (map txn_of doubts) are) p.undos p.pages.once p.undecided.each in
        let sum = owed_is whole doubts matched in
        let many : length (doubts_in whole) ≡ length doubts = ap length listed ∙ length-map doubts as_logged in
        let parts = cost_in_parts whole (cut_of (migrated_anchor t (records_committed old) doubts)) in
        let room = fits.fits in
        let numbers = fits.numbers in
        let short = fits.short in
        record {
          placed = p;
          room = record {
            sum = refl;
            fits = omega (arith, less, sum, many, parts, room);
            lsns = omega (arith, less, sum, many, numbers);
            short = omega (arith, parts, short);
          };
          locks = λ more. locks (subst (NeedMore h.max_locks) (listed ∙ read.listed) more);
        }

    pub roomy : AreRoomy h limit (length whole) whole
    roomy = record {
      placed = each_placed g h into old lawful no_losers k t doubts read low txns now;
      roomy = λ n from. subst (IsRoomyLog h limit) (sym (take_all n whole from)) whole_roomy;
    }
