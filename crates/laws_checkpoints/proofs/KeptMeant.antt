-- What is left of a lawful log that may be cut means what it has to.
use Rattle.std.proofs.Common.{◌≡◌, inl, inr, ⊎_elim, ◌<◌, ◌≤◌, ◌+◌, ◌-◌, ℕ, zero, suc, List, [], ◌∷◌, ◌++◌, Bool, true, false, cond, Some, refl, sym, ap, subst, ◌∙◌, length, take, drop, arith, append-nil}
use Rattle.std.specs.Prelude.{◌==◌, ◌&&◌, ◌||◌, not, filter, reverse, slice_get, IsTrue}
use Rattle.std.specs.List.{enumerate_from}
use Rattle.std.proofs.lemmas.Bool.{cases_Bool, eq-eqb, eqb-true, ne_eqb, true≢false}
use Rattle.std.proofs.lemmas.List.Elements.{All-drop}
use Rattle.std.proofs.lemmas.Option.{slice_get_within}
use Rattle.shore_model.specs.declared.log_records.LogRecord.{LogRecord}
use Rattle.shore_model.specs.declared.log_records.Payload.{Payload}
use Rattle.shore_model.specs.declared.log_records.Payload.TheVariants.{Change, Compensation, Commit, End, Prepare, RollbackDecided, CheckpointBegin, CheckpointEnd, Anchor}
use Rattle.shore_model.specs.Logs.{Answers, KeepsUnder, Lawful, MayFollow, MaySay, first_number, has, is_commit, is_in_doubt, is_of_checkpoint, is_over, is_prepare, is_rollback, is_undoable, is_unprepared, last_of, numbered, records_of, unanswered_in}
use Rattle.laws_lives.specs.Pages.{LoggedPages}
use Rattle.laws_lives.proofs.Booleans.{or_none}
use Rattle.laws_lives.proofs.Lists.{length-take_within, take-take}
use Rattle.laws_checkpoints.specs.KeptLogs.{MayBeCut, has_record, kept_records_of, kept_unanswered}
use Rattle.laws_checkpoints.specs.MeantBehind.{IsCutOff, IsMeantBehind, IsMeantCutOff, IsMeantOfCheckpoint, IsMeantWhole, MeansBehind, MeansOfCheckpoint, first_previous}
use Rattle.laws_checkpoints.proofs.Kept.{HasOne, has_at, has_kept, its, none_filtered, not_over_before, one_of, over_back, over_none_back, records_kept, records_split}
use Rattle.laws_checkpoints.proofs.KeptEnds.{end_meant}
use Rattle.laws_checkpoints.proofs.Lists.{get-drop, take-drop}
use Rattle.laws_checkpoints.proofs.Numbers.{last_in, last_is, last_low, some_filtered}

-- ---- the first kept record

pub first_names : (t k : ℕ) (xs : List LogRecord) (at : ℕ) (f : LogRecord) → slice_get xs at ≡ Some f → f.txn ≡ t → has_record t (take at xs) ≡ false
    → first_previous (filter (its t) (enumerate_from k xs)) ≡ f.previous
first_names t k [] at f here own none = cc
first_names t k (x ∷ xs) zero f here own none =
    let same : x ≡ f = cc in
    let yes : (x.txn == t) ≡ true = eq-eqb x.txn t (ap (λ (y : LogRecord). y.txn) same ∙ own) in
    ap (λ b. first_previous (cond b ((k, x) ∷ filter (its t) (enumerate_from (k + 1) xs)) (filter (its t) (enumerate_from (k + 1) xs)))) yes ∙ ap (λ (y : LogRecord). y.previous) same
first_names t k (x ∷ xs) (suc at) f here own none =
    let parts = or_none (x.txn == t) (has_record t (take at xs)) none in
    ap (λ b. first_previous (cond b ((k, x) ∷ filter (its t) (enumerate_from (k + 1) xs)) (filter (its t) (enumerate_from (k + 1) xs)))) parts.0 ∙ first_names t (k + 1) xs at f here own parts.1

pub chained : (log : List LogRecord) → Lawful log → (n : ℕ) (r : LogRecord) → slice_get log n ≡ Some r → 0 < r.txn → r.previous ≡ last_of r.txn (take n log)
chained log lawful n r at one = (lawful n r at).previous ∙ ap (λ b. cond b 0 (last_of r.txn (take n log))) (ne_eqb r.txn 0 (λ e. omega arith))

-- of one with a record that is cut off, the first kept record names the last of those
module _ (log : List LogRecord) (lawful : Lawful log) (cut : ℕ) (within : cut ≤ length log) (t : ℕ) (one : 0 < t) (some : has_record t (take cut log) ≡ true) (first : HasOne (drop cut log) t) where
  here : slice_get log (cut + first.at) ≡ Some first.found
  here = sym (get-drop log cut first.at) ∙ first.here

  abbrev F : List LogRecord
  F = take (cut + first.at) log

  names_last : first.found.previous ≡ last_of t (take cut log)
  names_last =
      let lt = slice_get_within log (cut + first.at) first.found here in
      let long = length-take_within (cut + first.at) log (omega arith) in
      let front : take cut F ≡ take cut log = take-take cut (cut + first.at) log (omega arith) in
      let none : has_record t (drop cut F) ≡ false = ap (has_record t) (sym (take-drop log cut first.at)) ∙ first.none_before in
      chained log lawful (cut + first.at) first.found here (subst (λ u. 0 < u) (sym first.own) one)
      ∙ ap (λ u. last_of u F) first.own
      ∙ ap (λ es. first_number (reverse es)) (records_split t F cut (omega arith) ∙ ap (λ es. filter (its t) (numbered (take cut F)) ++ es) (none_filtered t (cut + 1) (drop cut F) none)
      ∙ append-nil (filter (its t) (numbered (take cut F))) ∙ ap (records_of t) front)

  pub cut_off : IsCutOff cut (drop cut log) t
  cut_off =
      let names = first_names t (cut + 1) (drop cut log) first.at first.found first.here first.own first.none_before in
      let is = names_last in
      let low = last_low (its t) 1 (take cut log) (some_filtered t 1 (take cut log) some) in
      let last = last_is (its t) 1 (take cut log) (omega arith) in
      let lt = slice_get_within (take cut log) (last_of t (take cut log) - 1) last.found last.here in
      let long = length-take_within cut log within in
      record { some = omega arith; below = omega arith }

-- ---- what is said of one whose records are all kept

module _ (t : ℕ) (L : List LogRecord) (cut : ℕ) (within : cut ≤ length L) (none : has_record t (take cut L) ≡ false) where
  prepared_kept : has is_prepare t L ≡ has is_prepare t (drop cut L)
  prepared_kept = has_kept t L cut within is_prepare none

  rolled_kept : has is_rollback t L ≡ has is_rollback t (drop cut L)
  rolled_kept = has_kept t L cut within is_rollback none

  unprepared_kept : is_unprepared t L ≡ is_unprepared t (drop cut L)
  unprepared_kept = ap not prepared_kept

  undoable_kept : is_undoable t L ≡ is_undoable t (drop cut L)
  undoable_kept = two prepared_kept rolled_kept
    where
      two : {a b c d : Bool} → a ≡ b → c ≡ d → (not a || c) ≡ (not b || d)
      two p q = cc

  in_doubt_kept : is_in_doubt t L ≡ is_in_doubt t (drop cut L)
  in_doubt_kept = three prepared_kept (has_kept t L cut within is_commit none) rolled_kept
    where
      three : {a b c d e f : Bool} → a ≡ b → c ≡ d → e ≡ f → (a && not c && not e) ≡ (b && not d && not f)
      three p q r = cc

  unanswered_kept : unanswered_in (reverse (records_of t L)) ≡ kept_unanswered cut t (drop cut L)
  unanswered_kept = ap (λ es. unanswered_in (reverse es)) (records_kept t L cut within none)

  means_whole : (p : Payload) → is_of_checkpoint p ≡ false → MaySay L t p → MeansBehind cut (drop cut L) t p
  means_whole (Change id was image) plain says = subst IsTrue unprepared_kept says.0
  means_whole (Compensation id image undo_next) plain says = (subst IsTrue undoable_kept says.0, subst (λ cs. Answers cs id image undo_next) unanswered_kept says.1)
  means_whole Commit plain says = may_commit unprepared_kept in_doubt_kept says
    where
      may_commit : {a b c d : Bool} → a ≡ b → c ≡ d → (a || c) ≡ true → (b || d) ≡ true
      may_commit p q h = cc
  means_whole End plain says = (subst IsTrue undoable_kept says.0, sym unanswered_kept ∙ says.1)
  means_whole (Prepare global granules) plain says = (subst IsTrue unprepared_kept says.0, All-drop (KeepsUnder t granules) cut L says.1)
  means_whole RollbackDecided plain says = subst IsTrue in_doubt_kept says
  means_whole CheckpointBegin plain says = absurd (true≢false plain)
  means_whole (CheckpointEnd begin next txns dirty) plain says = absurd (true≢false plain)
  means_whole (Anchor checkpoint tail) plain says = absurd (true≢false plain)

-- ---- one record

module _ (log : List LogRecord) (lawful : Lawful log) (volume : LoggedPages) (cut : ℕ) (may : MayBeCut log volume cut) (n : ℕ) (r : LogRecord) (at : slice_get (drop cut log) n ≡ Some r) where
  there : slice_get log (cut + n) ≡ Some r
  there = sym (get-drop log cut n) ∙ at

  abbrev L : List LogRecord
  L = take (cut + n) log

  follows : MayFollow L r
  follows = lawful (cut + n) r there

  within : cut + n ≤ length log
  within = let lt = slice_get_within log (cut + n) r there in omega arith

  long : length L ≡ cut + n
  long = length-take_within (cut + n) log within

  front_is : take cut L ≡ take cut log
  front_is = take-take cut (cut + n) log (omega arith)

  not_over : is_over r.txn (drop cut L) ≡ false
  not_over = over_none_back r.txn L cut (let l = long in omega arith) follows.not_over

  -- of a transaction
  module _ (one : 0 < r.txn) where
    meant_whole : has_record r.txn (take cut log) ≡ false → IsMeantWhole cut (drop cut L) r
    meant_whole none =
        let l = long in
        let none_there : has_record r.txn (take cut L) ≡ false = ap (has_record r.txn) front_is ∙ none in
        record {
          is_one = one;
          previous = chained log lawful (cut + n) r there one ∙ ap (λ es. first_number (reverse es)) (records_kept r.txn L cut (omega arith) none_there);
          says = means_whole r.txn L cut (omega arith) none_there r.payload (follows.of ∙ ne_eqb r.txn 0 (λ e. omega arith)) follows.says;
        }

    meant_cut_off : has_record r.txn (take cut log) ≡ true → IsMeantCutOff cut (drop cut log) (drop cut L) r
    meant_cut_off some =
        let l = long in
        let before = not_over_before log lawful cut n r at in
        record {
          is_one = one;
          cut_off = cut_off log lawful cut may.within r.txn one some (one_of r.txn (drop cut log) (has_at (drop cut log) n r at));
          previous = λ known. ⊎_elim
              (λ last. chained log lawful (cut + n) r there one ∙ ap (λ es. first_number (reverse es)) (records_split r.txn L cut (omega arith)) ∙ last)
              (λ none. let z : 0 < 0 = subst (λ es. 0 < first_number (reverse es)) none known in absurd (omega arith))
              (last_in (filter (its r.txn) (numbered (take cut L))) (kept_records_of cut r.txn (drop cut L)));
          ended = sym (over_back r.txn log cut may.within before) ∙ may.ended r.txn one some;
        }

  -- of a checkpoint
  means_of_checkpoint : (p : Payload) → is_of_checkpoint p ≡ true → MaySay L r.txn p → MeansOfCheckpoint cut (drop cut log) (drop cut L) p
  means_of_checkpoint CheckpointBegin its says = tt
  means_of_checkpoint (CheckpointEnd begin next txns dirty) its says = end_meant log lawful volume cut may n within begin next txns says
  means_of_checkpoint (Anchor checkpoint tail) its says = tt
  means_of_checkpoint _ its says = cc

  meant_of_checkpoint : r.txn ≡ 0 → IsMeantOfCheckpoint cut (drop cut log) (drop cut L) r
  meant_of_checkpoint no_one = record {
    is_none = no_one;
    previous = follows.previous ∙ ap (λ b. cond b 0 (last_of r.txn L)) (eq-eqb r.txn 0 no_one);
    says = means_of_checkpoint r.payload (follows.of ∙ eq-eqb r.txn 0 no_one) follows.says;
  }

  pub meant_behind : IsMeantBehind cut (drop cut log) (take n (drop cut log)) r
  meant_behind = subst (λ b. IsMeantBehind cut (drop cut log) b r) (sym (take-drop log cut n)) (record {
    of = follows.of;
    not_over = not_over;
    means = ⊎_elim
        (λ no_one. inr (inr (meant_of_checkpoint (eqb-true r.txn 0 no_one))))
        (λ other.
        let one : 0 < r.txn = above r.txn (λ e. true≢false (sym (eq-eqb r.txn 0 e) ∙ other)) in
        ⊎_elim
        (λ some. inr (inl (meant_cut_off one some)))
        (λ none. inl (meant_whole one none))
        (cases_Bool (has_record r.txn (take cut log))))
        (cases_Bool (r.txn == 0));
  })
    where
      above : (t : ℕ) → (t ≡ 0 → ⊥) → 0 < t
      above zero h = absurd (h refl)
      above (suc t) h = omega arith

-- where nothing is cut off, all are whole
pub nothing_cut : (kept before : List LogRecord) (r : LogRecord) → IsMeantBehind 0 kept before r → 0 < r.txn → IsMeantWhole 0 before r
nothing_cut kept before r h one = ⊎_elim
    (λ whole. whole)
    (λ rest. ⊎_elim
    (λ off. let some = off.cut_off.some in let below = off.cut_off.below in absurd (omega arith))
    (λ no_one. let none = no_one.is_none in absurd (omega arith))
    rest)
    h.means
