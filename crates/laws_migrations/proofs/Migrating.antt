-- Those in doubt behind the records, one after another, and what the log tells with them.
use Rattle.std.proofs.Common.{◌≡◌, ◌≢◌, ⊎_elim, ◌<◌, ◌++◌, ℕ, List, [], ◌∷◌, true, false, refl, sym, ap, subst, ◌∙◌, map, arith, append-nil, append_assoc}
use Rattle.std.specs.Prelude.{◌||◌, not}
use Rattle.std.specs.FinMap.{get}
use Rattle.std.specs.List.{AllByRecursion}
use Rattle.std.proofs.lemmas.Bool.{ne_eqb, true≢false}
use Rattle.std.proofs.lemmas.List.Elements.{All-from_recursion}
use Rattle.shore_types.specs.Images.{Image}
use Rattle.shore_types.specs.declared.ids.Rid.{Rid}
use Rattle.shore_model.specs.declared.log_records.LogRecord.{LogRecord}
use Rattle.shore_model.specs.declared.log_records.Payload.TheVariants.{Prepare}
use Rattle.shore_model.specs.Logs.{KeepsUnder, Lawful, LieUnder, has, image_of_record, is_commit, is_end, is_over, is_prepare, is_rollback, previous_of}
use Rattle.shore_model.specs.Records.{Records}
use Rattle.laws_lives.specs.Doubts.{doubts_in}
use Rattle.laws_lives.specs.LogTells.{records_committed}
use Rattle.laws_lives.specs.Writers.{changes_id}
use Rattle.laws_lives.proofs.Booleans.{or_none}
use Rattle.laws_lives.proofs.CommittedRecords.{committed-same}
use Rattle.laws_lives.proofs.DoubtRecords.{none_of_it, prepare_adds}
use Rattle.laws_lives.proofs.EndedTxns.{over_same}
use Rattle.laws_lives.proofs.Lists.{recursion-push, recursion-weaker}
use Rattle.laws_lives.proofs.OneMore.{has-not_this}
use Rattle.laws_lives.proofs.Redo.{image_of_record-push}
use Rattle.laws_lives.proofs.UndoRecords.{lawful_next}
use Rattle.laws_lives.proofs.Writers.{same_or_not}
use Rattle.laws_migrations.specs.MigratedLogs.{AreApart, EachApart, IsElsewhere, IsMigratable, MigratedDoubt, Written, and_doubt, and_doubts, and_writes, as_logged, migrated_work, with_records}
use Rattle.laws_migrations.proofs.Writing.{HasWrittenAll, IsFreeFor, elsewhere_same, image_over, write_all}
use Rattle.laws_migrations.proofs.Inserting.{HasInserted, has_inserted}

-- ---- before its turn

-- One in doubt of whom nothing is in the log: at its ids stands what is committed there, and nobody changes them.
pub record IsAwaited (committed : Rid → Image) (t : ℕ) (log : List LogRecord) (d : MigratedDoubt) : Type 0 where
  pub may : IsMigratable committed t d
  pub new : AllByRecursion (λ r. r.txn ≢ d.txn) log
  pub before : AllByRecursion (λ w. w.before ≡ image_of_record log w.id) d.writes
  pub free : AllByRecursion (λ w. IsFreeFor log d.txn w.id) d.writes

-- ---- its turn

module _ (committed : Rid → Image) (t : ℕ) (log : List LogRecord) (d : MigratedDoubt) (lawful : Lawful log) (h : IsAwaited committed t log d) where
  abbrev mid : List LogRecord
  mid = and_writes d.txn log d.writes

  abbrev last : LogRecord
  last = record { txn = d.txn; previous = previous_of d.txn mid; payload = Prepare d.global d.granules }

  none_yet : is_over d.txn log ≡ false
  none_yet = ap (λ b. b || has is_end d.txn log) (none_of_it is_commit d.txn log h.new) ∙ none_of_it is_end d.txn log h.new

  k : HasWrittenAll log mid d.txn d.writes
  k = write_all d.txn d.writes log record {
    lawful = lawful;
    some = h.may.some;
    not_over = none_yet;
    unprepared = none_of_it is_prepare d.txn log h.new;
    once = h.may.once;
    before = h.before;
    free = h.free;
  }

  none_lies : LieUnder log d.txn d.granules
  none_lies = All-from_recursion (KeepsUnder d.txn d.granules) log (recursion-weaker (λ r. r.txn ≢ d.txn) (KeepsUnder d.txn d.granules) (λ r ne own. absurd (ne own)) log h.new)

  not_over : is_over d.txn mid ≡ false
  not_over = k.over d.txn ∙ none_yet

  uncommitted : has is_commit d.txn mid ≡ false
  uncommitted = (or_none (has is_commit d.txn mid) (has is_end d.txn mid) not_over).0

  pub doubt_lawful : Lawful (and_doubt log d)
  doubt_lawful =
      let some = h.may.some in
      lawful_next mid last k.lawful record {
        of = sym (ne_eqb d.txn 0 (λ e. omega arith));
        previous = refl;
        not_over = not_over;
        says = (ap not (k.decides.prepares d.txn ∙ none_of_it is_prepare d.txn log h.new), k.under d.granules h.may.under none_lies);
      }

  pub doubt_committed : records_committed (and_doubt log d) ≡ records_committed log
  doubt_committed = committed-same mid last refl uncommitted ∙ k.committed

  pub doubt_added : doubts_in (and_doubt log d) ≡ doubts_in log ++ as_logged d ∷ []
  doubt_added =
      prepare_adds mid d.txn (previous_of d.txn mid) d.global d.granules uncommitted (k.decides.rollbacks d.txn ∙ none_of_it is_rollback d.txn log h.new)
      ∙ ap (λ ds. ds ++ as_logged d ∷ []) k.decides.doubts

  pub doubt_images : (id : Rid) → image_of_record (and_doubt log d) id ≡ image_over d.writes id (image_of_record log id)
  doubt_images id = image_of_record-push mid last id ∙ k.images id

  over_is : (u : ℕ) → is_over u (and_doubt log d) ≡ is_over u log
  over_is u = over_same mid last refl refl u ∙ k.over u

  elsewhere : (id : Rid) → IsElsewhere id d.writes → (u : ℕ) → has (changes_id id) u (and_doubt log d) ≡ has (changes_id id) u log
  elsewhere id apart u = has-not_this mid last (changes_id id) u refl ∙ k.elsewhere id apart u

  -- another one in doubt awaits its turn still
  module _ (e : MigratedDoubt) (apart : AreApart d e) (waits : IsAwaited committed t log e) where
    still_before : (ws : List Written) → AllByRecursion (λ w. IsElsewhere w.id d.writes) ws → AllByRecursion (λ w. w.before ≡ image_of_record log w.id) ws
        → AllByRecursion (λ w. w.before ≡ image_of_record (and_doubt log d) w.id) ws
    still_before [] ids before = tt
    still_before (w ∷ ws) ids before = (before.0 ∙ sym (doubt_images w.id ∙ elsewhere_same w.id d.writes ids.0 (image_of_record log w.id)), still_before ws ids.1 before.1)

    still_free : (ws : List Written) → AllByRecursion (λ w. IsElsewhere w.id d.writes) ws → AllByRecursion (λ w. IsFreeFor log e.txn w.id) ws
        → AllByRecursion (λ w. IsFreeFor (and_doubt log d) e.txn w.id) ws
    still_free [] ids free = tt
    still_free (w ∷ ws) ids free = ((λ u other has_it. over_is u ∙ free.0 u other (sym (elsewhere w.id ids.0 u) ∙ has_it)), still_free ws ids.1 free.1)

    pub waits_on : IsAwaited committed t (and_doubt log d) e
    waits_on = record {
      may = waits.may;
      new = recursion-push (λ r. r.txn ≢ e.txn) mid last (k.others e.txn apart.txns waits.new) apart.txns;
      before = still_before e.writes apart.ids waits.before;
      free = still_free e.writes apart.ids waits.free;
    }

-- ---- all of them

abbrev pub images_over : List MigratedDoubt → Rid → Image → Image
images_over [] id image = image
images_over (d ∷ ds) id image = images_over ds id (image_over d.writes id image)

pub record HasDoubts (log more : List LogRecord) (ds : List MigratedDoubt) : Type 0 where
  pub lawful : Lawful more
  pub committed : records_committed more ≡ records_committed log
  pub doubts : doubts_in more ≡ doubts_in log ++ map as_logged ds
  pub images : (id : Rid) → image_of_record more id ≡ images_over ds id (image_of_record log id)
  pub over : (u : ℕ) → is_over u more ≡ is_over u log

all_wait : (committed : Rid → Image) (t : ℕ) (log : List LogRecord) (d : MigratedDoubt) (lawful : Lawful log) (h : IsAwaited committed t log d) (es : List MigratedDoubt)
    → AllByRecursion (AreApart d) es → AllByRecursion (IsAwaited committed t log) es → AllByRecursion (IsAwaited committed t (and_doubt log d)) es
all_wait committed t log d lawful h [] apart wait = tt
all_wait committed t log d lawful h (e ∷ es) apart wait = (waits_on committed t log d lawful h e apart.0 wait.0, all_wait committed t log d lawful h es apart.1 wait.1)

pub each_in_turn : (committed : Rid → Image) (t : ℕ) (ds : List MigratedDoubt) (log : List LogRecord) → Lawful log → EachApart ds → AllByRecursion (IsAwaited committed t log) ds
    → HasDoubts log (and_doubts log ds) ds
each_in_turn committed t [] log lawful apart wait = record { lawful = lawful; committed = refl; doubts = sym (append-nil (doubts_in log)); images = λ id. refl; over = λ u. refl }
each_in_turn committed t (d ∷ ds) log lawful apart wait =
    let now = and_doubt log d in
    let k = each_in_turn committed t ds now (doubt_lawful committed t log d lawful wait.0) apart.1 (all_wait committed t log d lawful wait.0 ds apart.0 wait.1) in
    record {
      lawful = k.lawful;
      committed = k.committed ∙ doubt_committed committed t log d lawful wait.0;
      doubts = k.doubts ∙ ap (λ es. es ++ map as_logged ds) (doubt_added committed t log d lawful wait.0) ∙ append_assoc (doubts_in log) (as_logged d ∷ []) (map as_logged ds);
      images = λ id. k.images id ∙ ap (images_over ds id) (doubt_images committed t log d lawful wait.0 id);
      over = λ u. k.over u ∙ over_is committed t log d lawful wait.0 u;
    }

-- ---- behind the records

module _ (t : ℕ) (records : Records) (some : 0 < t) where
  abbrev inserts : List LogRecord
  inserts = with_records t records

  base : HasInserted inserts t records
  base = has_inserted t records some

  awaits : (d : MigratedDoubt) → IsMigratable (λ id. get records id) t d → IsAwaited (λ id. get records id) t inserts d
  awaits d may =
      let other : t ≢ d.txn = λ e. let low = may.below in omega arith in
      record {
        may = may;
        new = base.own d.txn other;
        before = recursion-weaker (λ w. w.before ≡ get records w.id) (λ w. w.before ≡ image_of_record inserts w.id) (λ w e. e ∙ sym (base.images w.id)) d.writes may.before;
        free = recursion-weaker (λ w. w.before ≡ get records w.id) (λ w. IsFreeFor inserts d.txn w.id) (λ w e u ne has_it. ended u w.id has_it) d.writes may.before;
      }
    where
      ended : (u : ℕ) (id : Rid) → has (changes_id id) u inserts ≡ true → is_over u inserts ≡ true
      ended u id has_it = ⊎_elim
          (λ same. subst (λ v. is_over v inserts ≡ true) same base.over)
          (λ other. absurd (true≢false (sym has_it ∙ none_of_it (changes_id id) u inserts (base.own u other))))
          (same_or_not t u)

  pub migrated : (doubts : List MigratedDoubt) → AllByRecursion (IsMigratable (λ id. get records id) t) doubts → EachApart doubts → HasDoubts inserts (migrated_work t records doubts) doubts
  migrated doubts may apart = each_in_turn (λ id. get records id) t doubts inserts base.lawful apart (recursion-weaker (IsMigratable (λ id. get records id) t) (IsAwaited (λ id. get records id) t inserts) awaits doubts may)

  pub tells_records : (doubts : List MigratedDoubt) → AllByRecursion (IsMigratable (λ id. get records id) t) doubts → EachApart doubts → records_committed (migrated_work t records doubts) ≡ records
  tells_records doubts may apart = (migrated doubts may apart).committed ∙ base.committed

  pub tells_doubts : (doubts : List MigratedDoubt) → AllByRecursion (IsMigratable (λ id. get records id) t) doubts → EachApart doubts → doubts_in (migrated_work t records doubts) ≡ map as_logged doubts
  tells_doubts doubts may apart = (migrated doubts may apart).doubts ∙ ap (λ ds. ds ++ map as_logged doubts) base.none_doubted
