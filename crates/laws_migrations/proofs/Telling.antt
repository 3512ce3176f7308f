-- The whole log of a migration, with its checkpoint, tells what the old one does, and may be opened.
use Rattle.std.proofs.Common.{◌≡◌, ◌≢◌, ◌⊎◌, inl, inr, ⊎_elim, ◌<◌, ◌≤◌, ◌+◌, ◌++◌, ℕ, List, [], ◌∷◌, true, refl, sym, ap, subst, ◌∙◌, length, map, arith}
use Rattle.std.specs.Prelude.{reverse}
use Rattle.std.specs.FinMap.{same_map}
use Rattle.std.specs.List.{AllByRecursion, filter_map}
use Rattle.std.proofs.lemmas.Bool.{true≢false}
use Rattle.shore_types.specs.Ids.{exact_rids, rids_total}
use Rattle.shore_types.specs.declared.ids.PageId.{PageId}
use Rattle.shore_types.specs.declared.ids.Rid.{Rid}
use Rattle.shore_types.specs.declared.layout.Geometry.{Geometry}
use Rattle.shore_types.specs.declared.layout.TheConstants.{MAX_LOG_BYTES}
use Rattle.shore_model.specs.declared.log_records.LogRecord.{LogRecord}
use Rattle.shore_model.specs.declared.log_records.LogTxn.{LogTxn}
use Rattle.shore_model.specs.declared.log_records.Payload.TheVariants.{CheckpointBegin}
use Rattle.shore_model.specs.Logs.{IsTable, Lawful, first_number, image_of_record, is_in_doubt, is_over, last_of, records_told}
use Rattle.laws_lives.specs.DirtyPages.{HasAllUpTo}
use Rattle.laws_lives.specs.Doubts.{DoubtsStand, LoggedDoubt, doubt_of, doubts_in}
use Rattle.laws_lives.specs.LogTells.{records_committed}
use Rattle.laws_lives.specs.Pages.{AreAsOfOwnNumbers, LoggedPages}
use Rattle.laws_lives.specs.Undo.{HasNoLosers}
use Rattle.laws_lives.specs.Views.{IsAmong}
use Rattle.laws_lives.specs.Writers.{image_committed}
use Rattle.shore_model.specs.Records.{Records}
use Rattle.laws_lives.proofs.CheckpointRecords.{committed_are, doubts_are, image_is, over_is}
use Rattle.laws_lives.proofs.DoubtRecords.{among_filter}
use Rattle.laws_lives.proofs.LawfulPrepares.{doubts_stand}
use Rattle.laws_lives.proofs.Lists.{among_map, recursion-push}
use Rattle.laws_lives.proofs.Writers.{same_or_not}
use Rattle.laws_lives.proofs.WritersTold.{leaves_told}
use Rattle.laws_checkpoints.specs.Checkpoints.{cut_of, end_payload, of_checkpoint}
use Rattle.laws_checkpoints.specs.StoresInOrder.{IsInOrder}
use Rattle.laws_checkpoints.proofs.Kept.{none_filtered}
use Rattle.laws_runs.specs.CheckpointSteps.{log_limit}
use Rattle.laws_runs.specs.CheckpointedStates.{MayBeOpenedBehind, found_behind}
use Rattle.laws_runs.specs.RoomyLogs.{AreRoomy}
use Rattle.laws_migrations.specs.MigratedLogs.{EachApart, IsMigratable, IsRead, MigratedDoubt, TellsTheSame, as_logged, last_checkpoint, migrated_anchor, migrated_log, migrated_work, with_records}
use Rattle.laws_migrations.proofs.Checkpointing.{HoldsOf, doubts_all, found_in_order, no_record}
use Rattle.laws_migrations.proofs.Inserting.{HasInserted, has_inserted}
use Rattle.laws_migrations.proofs.Migrating.{HasDoubts, migrated, tells_doubts, tells_records}
use Rattle.laws_migrations.proofs.Reading.{all_migratable, each_apart, image_stays}

module _ (old : List LogRecord) (lawful : Lawful old) (no_losers : HasNoLosers old) (t : ℕ) (doubts : List MigratedDoubt) (read : IsRead old t doubts)
    (txns : List LogTxn) (table : IsTable (migrated_work t (records_committed old) doubts) txns)
    (pages : LoggedPages) (as_of : AreAsOfOwnNumbers (migrated_work t (records_committed old) doubts) pages)
    (all_done : (p : PageId) → HasAllUpTo (migrated_work t (records_committed old) doubts) p (pages p) (length (migrated_work t (records_committed old) doubts))) where
  abbrev records : Records
  records = records_committed old

  may : AllByRecursion (IsMigratable (image_committed old) t) doubts
  may = all_migratable old lawful t doubts read doubts (λ d a. a)

  apart : EachApart doubts
  apart = each_apart old lawful t doubts read

  abbrev work : List LogRecord
  work = migrated_work t records doubts

  abbrev front : List LogRecord
  front = with_records t records

  abbrev begin_record : LogRecord
  begin_record = of_checkpoint CheckpointBegin

  abbrev mid : List LogRecord
  mid = work ++ begin_record ∷ []

  abbrev end_record : LogRecord
  end_record = of_checkpoint (end_payload (last_checkpoint work (t + 1) txns))

  abbrev whole : List LogRecord
  whole = migrated_log t records doubts txns

  base : HasInserted front t records
  base = has_inserted t records read.some

  k : HasDoubts front work doubts
  k = migrated t records read.some doubts may apart

  pub in_order : IsInOrder (found_behind (migrated_anchor t records doubts) whole pages)
  in_order = found_in_order t records read.some doubts may apart txns table pages as_of all_done

  committed_now : records_committed whole ≡ records
  committed_now = committed_are mid end_record refl ∙ committed_are work begin_record refl ∙ tells_records t records read.some doubts may apart

  pub listed_now : doubts_in whole ≡ map as_logged doubts
  listed_now = doubts_are mid end_record refl ∙ doubts_are work begin_record refl ∙ tells_doubts t records read.some doubts may apart

  image_now : (id : Rid) → image_of_record whole id ≡ image_of_record old id
  image_now id = image_is mid end_record refl id ∙ image_is work begin_record refl id ∙ image_stays old lawful t doubts read no_losers id

  over_now : (u : ℕ) → is_over u whole ≡ is_over u front
  over_now u = over_is mid end_record refl u ∙ over_is work begin_record refl u ∙ k.over u

  -- ---- nobody is left to be rolled back

  pub among_or_not : (u : ℕ) (ds : List MigratedDoubt) → ((d : MigratedDoubt) × IsAmong d ds × (d.txn ≡ u)) ⊎ AllByRecursion (λ d. d.txn ≢ u) ds
  among_or_not u [] = inr tt
  among_or_not u (d ∷ ds) = ⊎_elim
      (λ same. inl (d, inl refl, same))
      (λ other. ⊎_elim (λ later. inl (later.0, inr later.1, later.2)) (λ none. inr (other, none)) (among_or_not u ds))
      (same_or_not d.txn u)

  pub of_others : (u : ℕ) (ds : List MigratedDoubt) → AllByRecursion (λ d. d.txn ≢ u) ds → AllByRecursion (λ d. HoldsOf (λ r. r.txn ≢ u) d.txn) ds
  of_others u [] h = tt
  of_others u (d ∷ ds) h = ((λ previous p plain. h.0), of_others u ds h.1)

  none_of : (u : ℕ) → 0 < u → t ≢ u → AllByRecursion (λ d. d.txn ≢ u) doubts → last_of u whole ≡ 0
  none_of u one other none =
      let zero : 0 ≢ u = λ e. omega arith in
      let all : AllByRecursion (λ r. r.txn ≢ u) whole =
      recursion-push (λ r. r.txn ≢ u) mid end_record (recursion-push (λ r. r.txn ≢ u) work begin_record (doubts_all (λ r. r.txn ≢ u) doubts (of_others u doubts none) front (base.own u other)) zero) zero in
      ap (λ rs. first_number (reverse rs)) (none_filtered u 1 whole (no_record u whole all))

  pub in_doubt_now : (d : MigratedDoubt) → IsAmong d doubts → is_in_doubt d.txn whole ≡ true
  in_doubt_now d a =
      (among_filter (λ (e : LoggedDoubt). is_in_doubt e.txn whole) (as_logged d) (filter_map doubt_of whole) (subst (IsAmong (as_logged d)) (sym listed_now) (among_map as_logged d doubts a))).1

  pub none_left : HasNoLosers whole
  none_left u loser = ⊎_elim
      (λ same. true≢false (sym (over_now t ∙ base.over) ∙ ap (λ v. is_over v whole) same ∙ loser.not_over))
      (λ other. ⊎_elim
      (λ one. true≢false (sym (in_doubt_now one.0 one.1) ∙ ap (λ v. is_in_doubt v whole) one.2 ∙ loser.not_in_doubt))
      (λ none. let nothing = none_of u loser.is_one other none in let known = loser.known in omega arith)
      (among_or_not u doubts))
      (same_or_not t u)

  pub tells_the_same : TellsTheSame old whole
  tells_the_same = record {
    committed = committed_now;
    doubts = listed_now ∙ read.listed;
    told = same_map rids_total exact_rids (records_told whole) (records_told old)
        (λ id. sym (leaves_told whole in_order.lawful none_left id) ∙ image_now id ∙ leaves_told old lawful no_losers id);
    stands = doubts_stand old whole (sym (listed_now ∙ read.listed));
  }

  pub may_be_opened : (g : Geometry) (ring_bytes : ℕ) → DoubtsStand old → AreRoomy g (log_limit ring_bytes (cut_of (migrated_anchor t records doubts)) whole) (length whole) whole → ring_bytes ≤ MAX_LOG_BYTES
      → MayBeOpenedBehind g ring_bytes (migrated_anchor t records doubts) whole pages
  may_be_opened g ring_bytes stand roomy short = record {
    opened = record { lawful = in_order.lawful; doubts = tells_the_same.stands stand; roomy = roomy; as_of = in_order.recoverable.volume };
    in_order = in_order;
    short = short;
  }
