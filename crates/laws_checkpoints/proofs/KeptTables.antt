-- The table of transactions by the kept records alone is that of the whole log.
use Rattle.std.proofs.Common.{◌≡◌, ⊎_elim, ◌<◌, ◌≤◌, ◌+◌, ◌-◌, ℕ, List, [], ◌∷◌, Bool, true, false, All, Option, Some, sym, ap, subst, ◌∙◌, length, length-take, take, drop, arith}
use Rattle.std.specs.Prelude.{◌==◌, ◌&&◌, not, reverse, IsSomeAnd, slice_get, slice_index_or}
use Rattle.std.specs.List.{AllByRecursion}
use Rattle.std.proofs.lemmas.Bool.{eqb-true, true≢false}
use Rattle.std.proofs.lemmas.List.Elements.{All-weaker, recursion_from_All}
use Rattle.std.proofs.lemmas.Option.{get_or_from_slice_get, slice_get-get_or, slice_get_within}
use Rattle.shore_types.specs.Images.{Image}
use Rattle.shore_types.specs.declared.ids.Rid.{Rid}
use Rattle.shore_model.specs.declared.log_records.LogRecord.{LogRecord}
use Rattle.shore_model.specs.declared.log_records.LogTxn.{LogTxn}
use Rattle.shore_model.specs.declared.log_records.Payload.TheVariants.{Change}
use Rattle.shore_model.specs.Logs.{IsEntry, IsListed, IsTable, Lawful, Lists, first_number, has, is_commit, is_in_doubt, is_over, is_prepare, is_rollback, unanswered_in, undo_next_of}
use Rattle.laws_lives.specs.Pages.{LoggedPages}
use Rattle.laws_lives.proofs.Booleans.{and_true}
use Rattle.laws_lives.proofs.Lists.{slice_get-take, within_or_beyond}
use Rattle.laws_lives.proofs.UndoRecords.{lawful_front}
use Rattle.laws_lives.proofs.WritersTold.{in_doubt_parts}
use Rattle.laws_checkpoints.specs.KeptLogs.{IsKeptUnended, MayBeCut, has_record, kept_first_of, kept_last_of, kept_prepare_number, kept_records_of}
use Rattle.laws_checkpoints.specs.KeptTables.{IsKeptEntry, IsKeptTable, NamesItsRecords, NamesKept}
use Rattle.laws_checkpoints.proofs.Kept.{has_at, has_kept, its, kept_unended, known_one, none_cut_off, not_over_before, over_back, over_none_back, records_kept}
use Rattle.laws_checkpoints.proofs.KeptDoubts.{number_above, passing, prepare_number_kept}
use Rattle.laws_checkpoints.proofs.Lists.{get-drop, take-drop}
use Rattle.laws_checkpoints.proofs.Numbers.{IsNumberOf, first_is, first_low, last_is, undo_next_is}
use Rattle.laws_checkpoints.proofs.Rising.{Among, fewer, listed_among}

-- ---- what holds of each record

module _ {A : Type 0} (P : A → Type 0) where
  pub all_get : (xs : List A) → All P xs → (n : ℕ) (x : A) → slice_get xs n ≡ Some x → P x
  all_get xs h n x at = subst P (get_or_from_slice_get xs n x x at) (h n x (slice_get_within xs n x at))

  pub get_all : (xs : List A) → ((n : ℕ) (x : A) → slice_get xs n ≡ Some x → P x) → All P xs
  get_all xs h k d lt = h k (slice_index_or xs k d) (slice_get-get_or xs k d lt)

-- ---- an entry whose transaction has no record among the first ones

three : {a b c d e f : Bool} → a ≡ b → c ≡ d → e ≡ f → (a && not c && not e) ≡ (b && not d && not f)
three p q r = cc

module _ (log : List LogRecord) (cut : ℕ) (within : cut ≤ length log) (e : LogTxn) (none : has_record e.txn (take cut log) ≡ false) where
  in_doubt_kept : is_in_doubt e.txn log ≡ is_in_doubt e.txn (drop cut log)
  in_doubt_kept = three (has_kept e.txn log cut within is_prepare none) (has_kept e.txn log cut within is_commit none) (has_kept e.txn log cut within is_rollback none)

  pub entry_kept : IsEntry log e → IsKeptEntry cut (drop cut log) e
  entry_kept h =
      let same = records_kept e.txn log cut within none in
      record {
        unended = record {
          is_one = h.0.is_one;
          known = subst (λ es. 0 < first_number (reverse es)) same h.0.known;
          not_over = over_none_back e.txn log cut within h.0.not_over;
        };
        in_doubt = h.0.in_doubt ∙ in_doubt_kept;
        first = h.1.first ∙ ap first_number same;
        last = h.1.last ∙ ap (λ es. first_number (reverse es)) same;
        undo_next = h.1.undo_next ∙ ap (λ es. undo_next_of (unanswered_in (reverse es))) same;
        prepare = h.1.prepare ∙ prepare_number_kept log cut within e.txn none;
      }

  pub kept_entry : is_over e.txn log ≡ false → IsKeptEntry cut (drop cut log) e → IsEntry log e
  kept_entry runs k =
      let same = sym (records_kept e.txn log cut within none) in (
        record {
          is_one = k.unended.is_one;
          known = subst (λ es. 0 < first_number (reverse es)) same k.unended.known;
          not_over = runs;
          in_doubt = k.in_doubt ∙ sym in_doubt_kept;
        },
        record {
          first = k.first ∙ ap first_number same;
          last = k.last ∙ ap (λ es. first_number (reverse es)) same;
          undo_next = k.undo_next ∙ ap (λ es. undo_next_of (unanswered_in (reverse es))) same;
          prepare = k.prepare ∙ sym (prepare_number_kept log cut within e.txn none);
        },
      )

-- ---- whose records are listed

-- a record behind the cut, whose transaction has not ended behind it, is of one that has not ended
pub runs_behind : (log : List LogRecord) → Lawful log → (cut : ℕ) → cut ≤ length log → (n : ℕ) (r : LogRecord) → slice_get (drop cut log) n ≡ Some r
    → is_over r.txn (drop cut log) ≡ false → is_over r.txn log ≡ false
runs_behind log lawful cut within n r at runs = over_back r.txn log cut within (not_over_before log lawful cut n r at) ∙ runs

pub listed_behind : (log : List LogRecord) → Lawful log → (cut : ℕ) → cut ≤ length log → (txns : List LogTxn) → All (IsListed log txns) log
    → All (IsListed (drop cut log) txns) (drop cut log)
listed_behind log lawful cut within txns every = get_all (IsListed (drop cut log) txns) (drop cut log) (λ n r at one runs.
    all_get (IsListed log txns) log every (cut + n) r (sym (get-drop log cut n) ∙ at) one (runs_behind log lawful cut within n r at runs))

-- ---- the table

module _ (log : List LogRecord) (lawful : Lawful log) (volume : LoggedPages) (cut : ℕ) (may : MayBeCut log volume cut) (txns : List LogTxn) where
  pub table_kept : IsTable log txns → IsKeptTable cut (drop cut log) txns
  table_kept h = record {
    rising = h.rising;
    each = All-weaker (IsEntry log) (IsKeptEntry cut (drop cut log))
        (λ e entry. entry_kept log cut may.within e (none_cut_off log volume cut may e.txn entry.0.is_one entry.0.not_over) entry) txns h.each;
    every = listed_behind log lawful cut may.within txns h.every;
  }

  pub kept_table : IsKeptTable cut (drop cut log) txns → IsTable log txns
  kept_table k = record {
    rising = k.rising;
    each = All-weaker (IsKeptEntry cut (drop cut log)) (IsEntry log)
        (λ e entry.
        let runs = (kept_unended log lawful volume cut may e.txn entry.unended).1 in
        kept_entry log cut may.within e (none_cut_off log volume cut may e.txn entry.unended.is_one runs) runs entry) txns k.each;
    every = get_all (IsListed log txns) log (λ n r at one runs. ⊎_elim
        (λ behind.
        let same : cut + (n - cut) ≡ n = omega arith in
        let here : slice_get (drop cut log) (n - cut) ≡ Some r = get-drop log cut (n - cut) ∙ ap (slice_get log) same ∙ at in
        all_get (IsListed (drop cut log) txns) (drop cut log) k.every (n - cut) r here one (over_none_back r.txn log cut may.within runs))
        (λ before. absurd (true≢false (sym (record_in_front n r at before) ∙ none_cut_off log volume cut may r.txn one runs)))
        (within_or_beyond cut n));
  }
    where
      record_in_front : (n : ℕ) (r : LogRecord) → slice_get log n ≡ Some r → n < cut → has_record r.txn (take cut log) ≡ true
      record_in_front n r at lt = has_at (take cut log) n r (slice_get-take n cut log lt ∙ at)

-- ---- how long it is

module _ (log : List LogRecord) (lawful : Lawful log) (cut n : ℕ) (within : cut ≤ length log) (few all : List LogTxn) where
  abbrev front : List LogRecord
  front = take (cut + n) log

  module _ (h : IsTable front all) where
    listed : (e : LogTxn) → IsKeptUnended cut (drop cut front) e.txn → Among e.txn all
    listed e u =
        let one = known_one e.txn cut (drop cut front) u.known in
        let long = length-take (cut + n) log in
        let inside : cut ≤ length front = omega arith in
        let runs = runs_behind front (lawful_front log (cut + n) lawful) cut inside one.at one.found one.here (ap (λ t. is_over t (drop cut front)) one.own ∙ u.not_over) in
        let there : Lists all one.found.txn =
        all_get (IsListed front all) front h.every (cut + one.at) one.found (sym (get-drop front cut one.at) ∙ one.here) (subst (λ t. 0 < t) (sym one.own) u.is_one) runs in
        listed_among e.txn all (subst (Lists all) one.own there)

    all_among : (es : List LogTxn) → AllByRecursion (IsKeptEntry cut (take n (drop cut log))) es → AllByRecursion (λ e. Among e.txn all) es
    all_among [] k = tt
    all_among (e ∷ es) k = (listed e (subst (λ rs. IsKeptUnended cut rs e.txn) (take-drop log cut n) k.0.unended), all_among es k.1)

  -- By what is kept of a prefix no more transactions have not ended than by all of it.
  pub no_longer : IsKeptTable cut (take n (drop cut log)) few → IsTable front all → length few ≤ length all
  no_longer k h = fewer all few 0 0 k.rising h.rising (all_among h few (recursion_from_All (IsKeptEntry cut (take n (drop cut log))) few k.each))

-- ---- what the numbers of an entry name

some_and : {A : Type 0} (o : Option A) (x : A) (P : A → Type 0) → o ≡ Some x → P x → IsSomeAnd o P
some_and o x P is h = subst (λ o. IsSomeAnd o P) (sym is) h

module _ (cut : ℕ) (kept : List LogRecord) (e : LogTxn) (k : IsKeptEntry cut kept e) where
  abbrev own : ℕ → Type 0
  own n = NamesKept cut kept n (λ r. r.txn ≡ e.txn)

  names_own : (n : ℕ) → IsNumberOf (its e.txn) (cut + 1) kept n → own n
  names_own n h = let low = h.low in (omega arith, some_and (slice_get kept (n - (cut + 1))) h.found (λ r. r.txn ≡ e.txn) h.here (eqb-true h.found.txn e.txn h.passes))

  abbrev its_records : List (ℕ × LogRecord)
  its_records = kept_records_of cut e.txn kept

  some_kept : its_records ≡ [] → ⊥
  some_kept none = let known = k.unended.known in let z : 0 < 0 = subst (λ es. 0 < first_number (reverse es)) none known in omega arith

  undo_named : 0 < undo_next_of (unanswered_in (reverse its_records))
      → NamesKept cut kept (undo_next_of (unanswered_in (reverse its_records))) (λ r. (r.txn ≡ e.txn) × ((id : Rid) × (was : Image) × (image : Image) × (r.payload ≡ Change id was image)))
  undo_named some =
      let h = undo_next_is (its e.txn) (cut + 1) kept some in
      let low = h.low in (
        omega arith,
        some_and (slice_get kept (undo_next_of (unanswered_in (reverse its_records)) - (cut + 1))) h.found
            (λ r. (r.txn ≡ e.txn) × ((id : Rid) × (was : Image) × (image : Image) × (r.payload ≡ Change id was image)))
            h.here (eqb-true h.found.txn e.txn h.passes, (h.id, h.was, h.image, h.says)),
      )

  prepare_named : has is_prepare e.txn kept ≡ true → NamesKept cut kept (kept_prepare_number cut e.txn kept) (λ r. (r.txn ≡ e.txn) × (is_prepare r.payload ≡ true))
  prepare_named has_one =
      let above = number_above is_prepare e.txn (cut + 1) kept has_one in
      let h = first_is (passing is_prepare e.txn) (cut + 1) kept (omega arith) in
      let both = and_true (h.found.txn == e.txn) (is_prepare h.found.payload) h.passes in (
        omega arith,
        some_and (slice_get kept (kept_prepare_number cut e.txn kept - (cut + 1))) h.found (λ r. (r.txn ≡ e.txn) × (is_prepare r.payload ≡ true)) h.here (eqb-true h.found.txn e.txn both.0, both.1),
      )

  pub names_its_records : NamesItsRecords cut kept e
  names_its_records =
      let first = first_low (its e.txn) (cut + 1) kept some_kept in
      record {
        first = subst own (sym k.first) (names_own (kept_first_of cut e.txn kept) (first_is (its e.txn) (cut + 1) kept (omega arith)));
        last = subst own (sym k.last) (names_own (kept_last_of cut e.txn kept) (last_is (its e.txn) (cut + 1) kept k.unended.known));
        undo_next = λ some. subst (λ n. NamesKept cut kept n (λ r. (r.txn ≡ e.txn) × ((id : Rid) × (was : Image) × (image : Image) × (r.payload ≡ Change id was image)))) (sym k.undo_next)
            (undo_named (subst (λ n. 0 < n) k.undo_next some));
        prepare = λ prepared.
            let doubt = in_doubt_parts (has is_prepare e.txn kept) (has is_commit e.txn kept) (has is_rollback e.txn kept) (sym k.in_doubt ∙ prepared) in
            subst (λ n. NamesKept cut kept n (λ r. (r.txn ≡ e.txn) × (is_prepare r.payload ≡ true))) (sym k.prepare) (prepare_named doubt.0);
      }
