-- Those in doubt in a log whose front is cut off.
use Rattle.std.proofs.Common.{◌≡◌, inl, inr, ⊎_elim, ◌<◌, ◌≤◌, ◌+◌, ℕ, zero, suc, List, [], ◌∷◌, ◌++◌, Bool, true, false, cond, None, Some, refl, sym, ap, subst, ◌∙◌, length, map, take, drop, arith, take-append-drop}
use Rattle.std.specs.Prelude.{◌==◌, ◌&&◌, ◌||◌, not, filter, reverse, slice_get}
use Rattle.std.specs.List.{enumerate_from, filter_map}
use Rattle.std.proofs.lemmas.Bool.{eq-eqb, eqb-true, cases_Bool, true≢false}
use Rattle.std.proofs.lemmas.List.{reverse-append}
use Rattle.std.proofs.lemmas.List.Elements.{filter-append, filter_map-append}
use Rattle.std.proofs.lemmas.List.Folds.{list_any-append}
use Rattle.shore_types.specs.Images.{Image}
use Rattle.shore_types.specs.declared.ids.Rid.{Rid}
use Rattle.shore_model.specs.declared.holds.Hold.{Hold}
use Rattle.shore_model.specs.declared.log_records.LogRecord.{LogRecord}
use Rattle.shore_model.specs.declared.log_records.Payload.{Payload}
use Rattle.shore_model.specs.declared.log_records.Payload.TheVariants.{Change, Compensation, Prepare, RollbackDecided}
use Rattle.shore_model.specs.declared.unanswered_changes.UnansweredChange.{UnansweredChange}
use Rattle.shore_model.specs.Logs.{Lawful, MaySay, answered_by, first_number, has, in_doubt_in, is_commit, is_end, is_in_doubt, is_of_checkpoint, is_over, is_prepare, is_rollback, last_images, logged_writes, prepare_number, records_of, unanswered, unanswered_in}
use Rattle.laws_lives.specs.Doubts.{AreRestored, DoubtsStand, LoggedDoubt, doubt_of, doubts_in, undo_in}
use Rattle.laws_lives.specs.Pages.{LoggedPages}
use Rattle.laws_lives.specs.Views.{IsAmong}
use Rattle.laws_lives.proofs.Booleans.{and_true, or_none, or_true}
use Rattle.laws_lives.proofs.DoubtRecords.{doubt_has_prepare, doubt_txns, filter_same}
use Rattle.laws_lives.proofs.LawfulPrepares.{HasPassing, doubts_stand, not_of_checkpoint, one_passing, prepared_is_one}
use Rattle.laws_lives.proofs.Lists.{map-push}
use Rattle.laws_lives.proofs.UndoRecords.{lawful_front}
use Rattle.laws_lives.proofs.Writers.{never_true}
use Rattle.laws_lives.proofs.WritersTold.{doubt_not_over, in_doubt_parts}
use Rattle.laws_checkpoints.specs.KeptLogs.{MayBeCut, has_record, kept_prepare_number, kept_records_of, kept_unanswered, numbered_behind}
use Rattle.laws_checkpoints.proofs.Kept.{all_kept, doubt_same, filter_split, has_split, its, none_cut_off, none_filtered, none_has, not_over_before}
use Rattle.laws_checkpoints.proofs.Lists.{front_of, get-drop}

-- ---- a record of a kind

module _ (p : Payload → Bool) (t : ℕ) where
  has_front : (log : List LogRecord) (n : ℕ) → has p t log ≡ false → has p t (take n log) ≡ false
  has_front log n h = (or_none (has p t (take n log)) (has p t (drop n log)) (sym (list_any-append (λ r. (r.txn == t) && p r.payload) (take n log) (drop n log)) ∙ ap (has p t) (take-append-drop n log) ∙ h)).0

-- ---- in a lawful log

prepared_unprepared : (log : List LogRecord) (t : ℕ) (p : Payload) → is_prepare p ≡ true → MaySay log t p → has is_prepare t log ≡ false
prepared_unprepared log t (Prepare global granules) h says = turn (has is_prepare t log) says.0
  where
    turn : (b : Bool) → not b ≡ true → b ≡ false
    turn true h = cc
    turn false h = refl
prepared_unprepared log t _ h says = cc

rolled_in_doubt : (log : List LogRecord) (t : ℕ) (p : Payload) → is_rollback p ≡ true → MaySay log t p → is_in_doubt t log ≡ true
rolled_in_doubt log t RollbackDecided h says = says
rolled_in_doubt log t _ h says = cc

module _ (log : List LogRecord) (lawful : Lawful log) (t : ℕ) where
  -- who is rolled back as decided had prepared
  rolled_prepared : has is_rollback t log ≡ true → has is_prepare t log ≡ true
  rolled_prepared h =
      let one = one_passing is_rollback t log h in
      let doubt : is_in_doubt t (take one.at log) ≡ true =
      ap (λ u. is_in_doubt u (take one.at log)) (sym one.own) ∙ rolled_in_doubt (take one.at log) one.found.txn one.found.payload one.passes (lawful one.at one.found one.here).says in
      let prepared = (in_doubt_parts (has is_prepare t (take one.at log)) (has is_commit t (take one.at log)) (has is_rollback t (take one.at log)) doubt).0 in
      turn (has is_prepare t log) (λ no. true≢false (sym prepared ∙ has_front is_prepare t log one.at no))
    where
      turn : (b : Bool) → (b ≡ false → ⊥) → b ≡ true
      turn true h = refl
      turn false h = absurd (h refl)

behind : {a b c : Bool} → a ≡ (b || c) → b ≡ false → a ≡ c
behind p q = cc

three : {a b c d e f : Bool} → a ≡ b → c ≡ d → e ≡ f → (a && not c && not e) ≡ (b && not d && not f)
three p q r = cc

module _ (log : List LogRecord) (lawful : Lawful log) (cut : ℕ) (within : cut ≤ length log) (t : ℕ) (prepared : has is_prepare t (drop cut log) ≡ true) where
  abbrev one : HasPassing is_prepare (drop cut log) t
  one = one_passing is_prepare t (drop cut log) prepared

  here : slice_get log (cut + one.at) ≡ Some one.found
  here = sym (get-drop log cut one.at) ∙ one.here

  -- before it there is no other one
  none_prepared : has is_prepare t (take cut log) ≡ false
  none_prepared =
      let before : has is_prepare t (take (cut + one.at) log) ≡ false =
      ap (λ u. has is_prepare u (take (cut + one.at) log)) (sym one.own) ∙ prepared_unprepared (take (cut + one.at) log) one.found.txn one.found.payload one.passes (lawful (cut + one.at) one.found here).says in
      (or_none (has is_prepare t (take cut log)) (has is_prepare t (drop cut (take (cut + one.at) log)))
      (sym (list_any-append (λ r. (r.txn == t) && is_prepare r.payload) (take cut log) (drop cut (take (cut + one.at) log))) ∙ ap (has is_prepare t) (front_of log cut (cut + one.at) (omega arith)) ∙ before)).0

  none_committed : has is_commit t (take cut log) ≡ false
  none_committed =
      (or_none (has is_commit t (take cut log)) (has is_end t (take cut log)) (subst (λ u. is_over u (take cut log) ≡ false) one.own (not_over_before log lawful cut one.at one.found one.here))).0

  none_rolled : has is_rollback t (take cut log) ≡ false
  none_rolled = never_true (has is_rollback t (take cut log)) (λ rolled. true≢false (sym (rolled_prepared (take cut log) (lawful_front log cut lawful) t rolled) ∙ none_prepared))

  doubt_of_prepared : is_in_doubt t (drop cut log) ≡ is_in_doubt t log
  doubt_of_prepared = sym (three
      (behind (has_split t log cut within is_prepare) none_prepared)
      (behind (has_split t log cut within is_commit) none_committed)
      (behind (has_split t log cut within is_rollback) none_rolled))

-- ---- where the front may be cut off

module _ (log : List LogRecord) (lawful : Lawful log) (volume : LoggedPages) (cut : ℕ) (may : MayBeCut log volume cut) where
  -- one in doubt is a transaction that has not ended
  pub doubt_runs : (t : ℕ) → is_in_doubt t log ≡ true → (0 < t) × (is_over t log ≡ false)
  doubt_runs t doubt =
      let prepared = (in_doubt_parts (has is_prepare t log) (has is_commit t log) (has is_rollback t log) doubt).0 in
      (prepared_is_one log lawful t prepared, doubt_not_over log lawful t doubt)

  pub doubt_all_kept : (t : ℕ) → is_in_doubt t log ≡ true → (has_record t (take cut log) ≡ false) × (records_of t log ≡ kept_records_of cut t (drop cut log))
  doubt_all_kept t doubt =
      let runs = doubt_runs t doubt in
      (none_cut_off log volume cut may t runs.0 runs.1, (all_kept log volume cut may t runs.0 runs.1).0)

  pub doubt_kept : (t : ℕ) → is_in_doubt t (drop cut log) ≡ is_in_doubt t log
  doubt_kept t = ⊎_elim
      (λ prepared. doubt_of_prepared log lawful cut may.within t prepared)
      (λ none.
      let not_there : is_in_doubt t (drop cut log) ≡ false = ap (λ b. b && not (has is_commit t (drop cut log)) && not (has is_rollback t (drop cut log))) none in
      let not_here : is_in_doubt t log ≡ false = never_true (is_in_doubt t log) (λ doubt.
      let runs = doubt_runs t doubt in
      true≢false (sym doubt ∙ doubt_same log lawful volume cut may t runs.0 runs.1 ∙ not_there)) in
      not_there ∙ sym not_here)
      (cases_Bool (has is_prepare t (drop cut log)))

  abbrev doubtful : LoggedDoubt → Bool
  doubtful d = is_in_doubt d.txn log

  -- no Prepare of one in doubt is cut off
  none_in_front : filter doubtful (filter_map doubt_of (take cut log)) ≡ []
  none_in_front = filter_none (filter_map doubt_of (take cut log)) (λ d among. never_true (doubtful d) (λ doubt.
      true≢false (sym (doubt_has_prepare d (take cut log) among) ∙ none_has d.txn is_prepare (take cut log) (doubt_all_kept d.txn doubt).0)))
    where
      filter_none : (ds : List LoggedDoubt) → ((d : LoggedDoubt) → IsAmong d ds → doubtful d ≡ false) → filter doubtful ds ≡ []
      filter_none [] h = refl
      filter_none (d ∷ ds) h = ap (λ b. cond b (d ∷ filter doubtful ds) (filter doubtful ds)) (h d (inl refl)) ∙ filter_none ds (λ e later. h e (inr later))

  pub doubts_kept : doubts_in (drop cut log) ≡ doubts_in log
  doubts_kept =
      filter_same (λ d. is_in_doubt d.txn (drop cut log)) doubtful (filter_map doubt_of (drop cut log)) (λ d among. doubt_kept d.txn)
      ∙ sym (ap (λ rs. filter doubtful (filter_map doubt_of rs)) (sym (take-append-drop cut log))
      ∙ ap (filter doubtful) (filter_map-append doubt_of (take cut log) (drop cut log))
      ∙ filter-append doubtful (filter_map doubt_of (take cut log)) (filter_map doubt_of (drop cut log))
      ∙ ap (λ ds. ds ++ filter doubtful (filter_map doubt_of (drop cut log))) none_in_front)

  pub numbers_kept : in_doubt_in (drop cut log) ≡ in_doubt_in log
  numbers_kept = doubt_txns (drop cut log) ∙ ap (map (λ d. d.txn)) doubts_kept ∙ sym (doubt_txns log)

-- ---- the number of the Prepare

module _ (p : Payload → Bool) (t : ℕ) where
  abbrev pub passing : ℕ × LogRecord → Bool
  passing r = (r.1.txn == t) && p r.1.payload

  none_passing : (n : ℕ) (xs : List LogRecord) → has p t xs ≡ false → filter passing (enumerate_from n xs) ≡ []
  none_passing n [] h = refl
  none_passing n (x ∷ xs) h =
      let both = or_none ((x.txn == t) && p x.payload) (has p t xs) h in
      ap (λ b. cond b ((n, x) ∷ filter passing (enumerate_from (n + 1) xs)) (filter passing (enumerate_from (n + 1) xs))) both.0 ∙ none_passing (n + 1) xs both.1

  pub number_above : (n : ℕ) (xs : List LogRecord) → has p t xs ≡ true → n ≤ first_number (filter passing (enumerate_from n xs))
  number_above n [] h = cc
  number_above n (x ∷ xs) h =
      elim ((x.txn == t) && p x.payload) as (λ b. (b || has p t xs) ≡ true → n ≤ first_number (cond b ((n, x) ∷ filter passing (enumerate_from (n + 1) xs)) (filter passing (enumerate_from (n + 1) xs)))) [
        | true ↦ λ this. omega arith
        | false ↦ λ later. let rest = number_above (n + 1) xs later in omega arith
      ] h

-- whose records are all kept has its Prepare there
pub prepare_number_kept : (log : List LogRecord) (cut : ℕ) → cut ≤ length log → (t : ℕ) → has_record t (take cut log) ≡ false → prepare_number t log ≡ kept_prepare_number cut t (drop cut log)
prepare_number_kept log cut within t none =
    ap first_number (filter_split t log cut within (passing is_prepare t)
    ∙ ap (λ es. es ++ filter (passing is_prepare t) (numbered_behind cut (drop cut log))) (none_passing is_prepare t 1 (take cut log) (none_has t is_prepare (take cut log) none)))

module _ (log : List LogRecord) (lawful : Lawful log) (volume : LoggedPages) (cut : ℕ) (may : MayBeCut log volume cut) (t : ℕ) where
  pub prepare_kept : is_in_doubt t log ≡ true → (prepare_number t log ≡ kept_prepare_number cut t (drop cut log)) × (cut < prepare_number t log)
  prepare_kept doubt =
      let same = prepare_number_kept log cut may.within t (doubt_all_kept log lawful volume cut may t doubt).0 in
      let there = doubt_kept log lawful volume cut may t ∙ doubt in
      let prepared = (in_doubt_parts (has is_prepare t (drop cut log)) (has is_commit t (drop cut log)) (has is_rollback t (drop cut log)) there).0 in
      let above = number_above is_prepare t (cut + 1) (drop cut log) prepared in
      (same, omega arith)

-- ---- what it has written, and what can be undone

-- the before images of the unanswered Changes do not depend on the records' numbers
abbrev pub image_pair : UnansweredChange → Rid × Image
image_pair c = (c.id, c.before)

abbrev after_one : Payload → List (Rid × Image) → List (Rid × Image)
after_one (Change id before image) es = (id, before) ∷ es
after_one (Compensation id image undo_next) es = drop 1 es
after_one _ es = es

pairs_one : (n : ℕ) (p : Payload) (us : List UnansweredChange) → map image_pair (answered_by n p us) ≡ after_one p (map image_pair us)
pairs_one n (Change id before image) us = refl
pairs_one n (Compensation id image undo_next) [] = refl
pairs_one n (Compensation id image undo_next) (u ∷ us) = refl
pairs_one n _ us = refl

same_pairs : (es fs : List (ℕ × LogRecord)) → map (λ r. r.1) es ≡ map (λ r. r.1) fs → map image_pair (unanswered_in es) ≡ map image_pair (unanswered_in fs)
same_pairs [] [] h = refl
same_pairs [] (f ∷ fs) h = cc
same_pairs (e ∷ es) [] h = cc
same_pairs (e ∷ es) (f ∷ fs) h =
    let first : e.1 ≡ f.1 = cc in
    let rest : map (λ r. r.1) es ≡ map (λ r. r.1) fs = cc in
    pairs_one e.0 e.1.payload (unanswered_in es)
    ∙ ap (λ (r : LogRecord). after_one r.payload (map image_pair (unanswered_in es))) first
    ∙ ap (after_one f.1.payload) (same_pairs es fs rest)
    ∙ sym (pairs_one f.0 f.1.payload (unanswered_in fs))

map-reverse : {A B : Type 0} (f : A → B) (xs : List A) → map f (reverse xs) ≡ reverse (map f xs)
map-reverse f [] = refl
map-reverse f (x ∷ xs) =
    ap (map f) (reverse-append (x ∷ []) xs) ∙ map-push f (reverse xs) x ∙ ap (λ ys. ys ++ f x ∷ []) (map-reverse f xs)
    ∙ sym (reverse-append (f x ∷ []) (map f xs))

records_alone : (t n : ℕ) (xs : List LogRecord) → map (λ r. r.1) (filter (its t) (enumerate_from n xs)) ≡ filter (λ r. r.txn == t) xs
records_alone t n [] = refl
records_alone t n (x ∷ xs) =
    let rest = records_alone t (n + 1) xs in
    elim (x.txn == t) as (λ b. map (λ r. r.1) (cond b ((n, x) ∷ filter (its t) (enumerate_from (n + 1) xs)) (filter (its t) (enumerate_from (n + 1) xs)))
    ≡ cond b (x ∷ filter (λ r. r.txn == t) xs) (filter (λ r. r.txn == t) xs)) [
      | true ↦ ap (λ ys. x ∷ ys) rest
      | false ↦ rest
    ]

undo_alone : (t n m : ℕ) (xs : List LogRecord) → map image_pair (unanswered_in (reverse (filter (its t) (enumerate_from n xs)))) ≡ map image_pair (unanswered_in (reverse (filter (its t) (enumerate_from m xs))))
undo_alone t n m xs =
    let ns = filter (its t) (enumerate_from n xs) in
    let ms = filter (its t) (enumerate_from m xs) in
    same_pairs (reverse ns) (reverse ms)
    (map-reverse (λ r. r.1) ns ∙ ap reverse (records_alone t n xs ∙ sym (records_alone t m xs)) ∙ sym (map-reverse (λ r. r.1) ms))

none_own : (t : ℕ) (xs : List LogRecord) → has_record t xs ≡ false → filter (λ r. r.txn == t) xs ≡ []
none_own t xs none = sym (records_alone t 1 xs) ∙ ap (map (λ r. r.1)) (none_filtered t 1 xs none)

module _ (log : List LogRecord) (cut t : ℕ) (none : has_record t (take cut log) ≡ false) where
  pub writes_kept : logged_writes (drop cut log) t ≡ logged_writes log t
  writes_kept =
      ap last_images (sym (ap (filter (λ r. r.txn == t)) (sym (take-append-drop cut log)) ∙ filter-append (λ r. r.txn == t) (take cut log) (drop cut log)
      ∙ ap (λ rs. rs ++ filter (λ r. r.txn == t) (drop cut log)) (none_own t (take cut log) none)))

  pub undo_list_kept : records_of t log ≡ kept_records_of cut t (drop cut log) → undo_in (drop cut log) t ≡ undo_in log t
  undo_list_kept same =
      ap (λ es. record { images = reverse es; marks = []; rolling = None })
      (undo_alone t 1 (cut + 1) (drop cut log) ∙ ap (λ es. map image_pair (unanswered_in (reverse es))) (sym same))

module _ (log : List LogRecord) (lawful : Lawful log) (volume : LoggedPages) (cut : ℕ) (may : MayBeCut log volume cut) where
  pub undo_of_doubt : (t : ℕ) → is_in_doubt t log ≡ true
      → (unanswered t log ≡ kept_unanswered cut t (drop cut log)) × (logged_writes (drop cut log) t ≡ logged_writes log t) × (undo_in (drop cut log) t ≡ undo_in log t)
  undo_of_doubt t doubt =
      let kept = doubt_all_kept log lawful volume cut may t doubt in
      (ap (λ es. unanswered_in (reverse es)) kept.1, writes_kept log cut t kept.0, undo_list_kept log cut t kept.0 kept.1)

-- ---- what holds of those in doubt depends on their list alone

are_restored : (log more : List LogRecord) (held : List Hold) → doubts_in log ≡ doubts_in more → AreRestored log held → AreRestored more held
are_restored log more held same h = record {
  each = λ lock has. let r = h.each lock has in (r.0, r.1, subst (IsAmong r.0) same r.2, r.3, r.4, r.5);
  all = λ d g d_is. h.all d g (subst (IsAmong d) (sym same) d_is);
  above = λ d g a d_is. h.above d g a (subst (IsAmong d) (sym same) d_is);
}

module _ (log : List LogRecord) (lawful : Lawful log) (volume : LoggedPages) (cut : ℕ) (may : MayBeCut log volume cut) where
  pub stand_both : (DoubtsStand (drop cut log) → DoubtsStand log) × (DoubtsStand log → DoubtsStand (drop cut log))
  stand_both =
      let same = doubts_kept log lawful volume cut may in
      (doubts_stand (drop cut log) log same, doubts_stand log (drop cut log) (sym same))

  pub restored_both : (held : List Hold) → (AreRestored (drop cut log) held → AreRestored log held) × (AreRestored log held → AreRestored (drop cut log) held)
  restored_both held =
      let same = doubts_kept log lawful volume cut may in
      (are_restored (drop cut log) log held same, are_restored log (drop cut log) held (sym same))
