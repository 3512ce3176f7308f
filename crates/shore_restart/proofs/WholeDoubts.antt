-- Those in doubt by what is kept, in the whole log once turns of undo stand behind it: their records are those that are kept, and nobody else is in doubt.
use Rattle.std.proofs.Common.{◌≡◌, ◌<◌, ◌≤◌, ◌-◌, ℕ, List, [], ◌∷◌, Bool, true, false, cond, Option, None, Some, refl, sym, ap, subst, ◌∙◌, drop, take, map, reverse, arith}
use Rattle.std.specs.Prelude.{◌==◌, ◌&&◌, IfSome, filter}
use Rattle.std.specs.List.{AllByRecursion}
use Rattle.std.proofs.lemmas.List.{reverse-reverse}
use Rattle.std.proofs.lemmas.List.Elements.{recursion_from_All}
use Rattle.shore_types.specs.declared.layout.Geometry.{Geometry}
use Rattle.shore_model.specs.declared.holds.Hold.{Hold}
use Rattle.shore_model.specs.declared.log_records.DirtyPage.{DirtyPage}
use Rattle.shore_model.specs.declared.log_records.LogRecord.{LogRecord}
use Rattle.shore_model.specs.declared.unanswered_changes.UnansweredChange.{UnansweredChange}
use Rattle.shore_model.specs.Logs.{Lawful, before_begin, first_number, is_in_doubt, is_prepare, numbered, prepare_number, records_of, unanswered, unanswered_in}
use Rattle.laws_lives.specs.DirtyPages.{redo_begins_behind}
use Rattle.laws_lives.specs.Doubts.{AreRestored, LoggedDoubt, doubts_in, undo_in}
use Rattle.laws_lives.specs.Undo.{IsUndoneTo}
use Rattle.laws_lives.specs.UndoLists.{UndoList}
use Rattle.laws_lives.specs.Views.{IsAmong}
use Rattle.laws_lives.proofs.Lists.{recursion-weaker, take-take}
use Rattle.laws_lives.proofs.UndoRecords.{undone_lawful}
use Rattle.laws_lives.proofs.Writers.{never_true}
use Rattle.laws_checkpoints.specs.Checkpoints.{Checkpoint, end_among, redo_behind}
use Rattle.laws_checkpoints.specs.KeptLogs.{IsKeptUnended, has_record}
use Rattle.laws_checkpoints.proofs.Ends.{end_stands}
use Rattle.laws_checkpoints.proofs.Lists.{each_in_parts, each_take_less}
use Rattle.shore_analysis.specs.Doubts.{doubts_left}
use Rattle.shore_analysis.specs.KeptMeant.{AreMeantKept}
use Rattle.shore_analysis.specs.KeptTables.{IsNextKept}
use Rattle.shore_analysis.specs.Padded.{padded}
use Rattle.shore_analysis.proofs.DoubtsLeft.{is_left_by, left_unended}
use Rattle.shore_restart.specs.Anchors.{EndsBehind}
use Rattle.shore_restart.specs.Doubts.{AreLocksOf, changes_of}
use Rattle.shore_restart.proofs.DoubtsAll.{left_of_lawful, left_of_whole}
use Rattle.shore_restart.proofs.DoubtsKept.{same_doubts, same_lists, stays_in_doubt}
use Rattle.shore_restart.proofs.DoubtsNamed.{left_here}
use Rattle.shore_restart.proofs.Unkept.{IsTold}
use Rattle.shore_restart.proofs.WholeLogs.{doubt_same, records_same}
use Rattle.shore_txn.specs.declared.transactions.Transactions.{Transactions}

-- ---- a transaction's numbers, by its records

twice : {A : Type 0} (p q : A → Bool) (xs : List A) → filter q (filter p xs) ≡ filter (λ x. p x && q x) xs
twice p q [] = refl
twice p q (x ∷ xs) = by (p x) (twice p q xs)
  where
    by : (a : Bool) → filter q (filter p xs) ≡ filter (λ x. p x && q x) xs → filter q (cond a (x ∷ filter p xs) (filter p xs)) ≡ cond (a && q x) (x ∷ filter (λ x. p x && q x) xs) (filter (λ x. p x && q x) xs)
    by true rest = ap (λ ys. cond (q x) (x ∷ ys) ys) rest
    by false rest = rest

abbrev prepare_among : List (ℕ × LogRecord) → ℕ
prepare_among es = first_number (filter (λ e. is_prepare e.1.payload) es)

prepare_by : (t : ℕ) (log : List LogRecord) → prepare_number t log ≡ prepare_among (records_of t log)
prepare_by t log = ap first_number (sym (twice (λ e. e.1.txn == t) (λ e. is_prepare e.1.payload) (numbered log)))

abbrev undo_by : List (ℕ × LogRecord) → UndoList
undo_by es = record { images = reverse (map (λ (c : UnansweredChange). (c.id, c.before)) (unanswered_in (reverse es))); marks = []; rolling = None }

-- ---- those in doubt

module _ (g : Geometry) (cut : ℕ) (kept found : List LogRecord) (ends : EndsBehind cut found) (same : drop cut found ≡ kept) (meant : AreMeantKept g cut kept) (turns : List ℕ) (last : List LogRecord)
    (undone : IsUndoneTo found turns last) where
  abbrev seen : List LogRecord
  seen = padded cut kept

  module _ (d : LoggedDoubt) (among : IsAmong d (doubts_left seen)) where
    runs : IsKeptUnended cut kept d.txn
    runs = let left = left_here seen d among in left_unended g cut kept meant d.txn (is_left_by seen d.txn left.0 left.1)

    pub doubt_some : 0 < d.txn
    doubt_some = runs.is_one

    none_front : has_record d.txn (take cut found) ≡ false
    none_front = never_true (has_record d.txn (take cut found)) (λ some. ends.none_runs d.txn runs.is_one some (subst (λ (rs : List LogRecord). IsKeptUnended cut rs d.txn) (sym same) runs))

    doubt_found : is_in_doubt d.txn found ≡ true
    doubt_found = doubt_same cut kept found ends same d.txn runs.is_one none_front ∙ (left_here seen d among).0

    -- it is in doubt still, and its records are those that are kept
    pub doubt_still : is_in_doubt d.txn last ≡ true
    doubt_still = (stays_in_doubt found turns last undone d.txn doubt_found).doubt

    pub records_still : records_of d.txn last ≡ records_of d.txn seen
    records_still =
        sym (reverse-reverse (records_of d.txn last)) ∙ ap reverse (stays_in_doubt found turns last undone d.txn doubt_found).newest ∙ reverse-reverse (records_of d.txn found)
        ∙ records_same cut kept found ends same d.txn runs.is_one none_front

    pub prepare_still : prepare_number d.txn last ≡ prepare_number d.txn seen
    prepare_still = prepare_by d.txn last ∙ ap prepare_among records_still ∙ sym (prepare_by d.txn seen)

    pub unanswered_still : unanswered d.txn last ≡ unanswered d.txn seen
    unanswered_still = ap (λ (es : List (ℕ × LogRecord)). unanswered_in (reverse es)) records_still

    pub undo_still : undo_in last d.txn ≡ undo_in seen d.txn
    undo_still = ap undo_by records_still

  -- if the log is lawful they are all of them

  module _ (lawful : Lawful found) where
    pub doubts_found : doubts_left seen ≡ doubts_in found
    doubts_found = ap (λ (rs : List LogRecord). doubts_left (padded cut rs)) (sym same) ∙ left_of_whole g cut found ends (subst (AreMeantKept g cut) (sym same) meant) lawful

    left_still : doubts_left last ≡ doubts_left seen
    left_still = same_doubts found turns last undone ∙ left_of_lawful found lawful ∙ sym doubts_found

    pub doubts_still : doubts_in last ≡ doubts_left seen
    doubts_still = sym (left_of_lawful last (undone_lawful found turns last undone lawful)) ∙ left_still

    pub told_still : (txns : Transactions) → IsTold seen txns → IsTold last txns
    told_still txns told = ap (changes_of last) left_still ∙ same_lists seen last (doubts_left seen) unanswered_still ∙ told

    pub locks_still : (held : List Hold) → AreLocksOf (doubts_left seen) held → AreRestored last held
    locks_still held are =
        let all = subst (λ (ds : List LoggedDoubt). AreLocksOf ds held) (sym doubts_still) are in
        record { each = all.each; all = all.all; above = all.above }

-- ---- numbers of transactions

begins_low : (begin : ℕ) (dirty : List DirtyPage) → redo_begins_behind begin dirty ≤ begin - 1
begins_low begin [] = omega arith
begins_low begin (d ∷ dirty) = let rest = begins_low begin dirty in omega (arith, rest)

-- what is cut off stands before the anchored checkpoint's begin, and its End says a number above those of the transactions before that
module _ (cut checkpoint n : ℕ) (found : List LogRecord) (lawful : Lawful found) where
  below_front : (o : Option Checkpoint) → end_among checkpoint found ≡ o → cut ≤ redo_behind o → IfSome o (λ c. c.next ≤ n) → AllByRecursion (λ r. r.txn < n) (take cut found)
  below_front None is behind low = let none : cut ≡ 0 = omega (arith, behind) in subst (λ k. AllByRecursion (λ r. r.txn < n) (take k found)) (sym none) tt
  below_front (Some c) is behind low =
      let stands = end_stands found lawful checkpoint c is in
      let above = recursion_from_All (λ (r : LogRecord). r.txn < c.next) (before_begin (take stands.at found) c.begin) stands.tables.above in
      let b = stands.behind in
      let least = begins_low c.begin c.dirty in
      let front : before_begin (take stands.at found) c.begin ≡ take (c.begin - 1) found = take-take (c.begin - 1) stands.at found (omega (arith, b)) in
      each_take_less (λ (r : LogRecord). r.txn < n) found cut (c.begin - 1) (omega (arith, behind, least))
      (recursion-weaker (λ (r : LogRecord). r.txn < c.next) (λ (r : LogRecord). r.txn < n) (λ r lt. omega (arith, lt, low)) (take (c.begin - 1) found) (subst (AllByRecursion (λ (r : LogRecord). r.txn < c.next)) front above))

  pub found_below : (kept : List LogRecord) → drop cut found ≡ kept → end_among checkpoint found ≡ end_among checkpoint kept → cut ≤ redo_behind (end_among checkpoint found) → IsNextKept kept (end_among checkpoint kept) n
      → AllByRecursion (λ r. r.txn < n) found
  found_below kept same is behind next =
      each_in_parts (λ (r : LogRecord). r.txn < n) found cut
      (below_front (end_among checkpoint found) refl behind (subst (λ (o : Option Checkpoint). IfSome o (λ c. c.next ≤ n)) (sym is) next.not_below))
      (subst (AllByRecursion (λ (r : LogRecord). r.txn < n)) (sym same) (recursion_from_All (λ (r : LogRecord). r.txn < n) kept next.above))
