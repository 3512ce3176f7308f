-- The Ends of checkpoints in what is kept: their tables are as the kept records before their begins tell.
use Rattle.std.proofs.Common.{◌≡◌, inl, inr, ⊎_elim, ◌<◌, ◌≤◌, ◌+◌, ◌-◌, ℕ, List, [], Bool, true, All, Option, None, Some, refl, sym, ap, subst, ◌∙◌, length, length-take, take, drop, arith}
use Rattle.std.specs.Prelude.{◌==◌, ◌&&◌, filter, reverse, slice_get, IsSomeAnd}
use Rattle.std.specs.List.{enumerate_from}
use Rattle.std.proofs.lemmas.Bool.{cases_Bool, eqb-true, true≢false}
use Rattle.std.proofs.lemmas.List.Elements.{All-drop, All-nil, All-weaker}
use Rattle.std.proofs.lemmas.Option.{slice_get_within}
use Rattle.shore_model.specs.declared.log_records.LogRecord.{LogRecord}
use Rattle.shore_model.specs.declared.log_records.LogTxn.{LogTxn}
use Rattle.shore_model.specs.declared.log_records.Payload.TheVariants.{CheckpointBegin}
use Rattle.shore_model.specs.Logs.{IsAsAtBegin, IsEntry, IsListed, Lawful, before_begin, first_number, first_of, is_prepare, last_of, prepare_number, unanswered, undo_next_of}
use Rattle.laws_lives.specs.Pages.{LoggedPages}
use Rattle.laws_lives.proofs.Lists.{slice_get-take, take-take, within_or_beyond}
use Rattle.laws_lives.proofs.UndoRecords.{lawful_front}
use Rattle.laws_checkpoints.specs.KeptLogs.{MayBeCut, has_record}
use Rattle.laws_checkpoints.specs.KeptTables.{IsEndBehind, IsEntryBehind, IsEntryCutOff, IsKeptEntry, kept_before}
use Rattle.laws_checkpoints.proofs.Kept.{has_at, its, kept_unended, one_of}
use Rattle.laws_checkpoints.proofs.KeptTables.{entry_kept, listed_behind}
use Rattle.laws_checkpoints.proofs.Lists.{get-drop, length_take_le, take-drop}
use Rattle.laws_checkpoints.proofs.Numbers.{IsNumberOf, first_at_most, first_is, first_low, last_is, undo_next_is}

-- a number of some records is at most their count
number_within : (f : ℕ × LogRecord → Bool) (xs : List LogRecord) (m : ℕ) → (0 < m → IsNumberOf f 1 xs m) → m ≤ length xs
number_within f xs m is = ⊎_elim
    (λ none. omega arith)
    (λ some. let h = is some in let low = h.low in let lt = slice_get_within xs (m - 1) h.found h.here in omega arith)
    (within_or_beyond m 0)

-- who has a last record has a first one, and that is no later than any of its
module _ (t : ℕ) (xs : List LogRecord) (known : 0 < last_of t xs) where
  some_records : filter (its t) (enumerate_from 1 xs) ≡ [] → ⊥
  some_records none = let z : 0 < 0 = subst (λ es. 0 < first_number (reverse es)) none known in omega arith

  first_some : 0 < first_of t xs
  first_some = let low = first_low (its t) 1 xs some_records in omega arith

  first_within : first_of t xs ≤ length xs
  first_within =
      let last = last_is (its t) 1 xs known in
      let low = last.low in
      let lt = slice_get_within xs (last_of t xs - 1) last.found last.here in
      let most = first_at_most t 1 xs (last_of t xs - 1) last.found last.here (eqb-true last.found.txn t last.passes) in
      omega arith

module _ (log : List LogRecord) (lawful : Lawful log) (volume : LoggedPages) (cut : ℕ) (may : MayBeCut log volume cut) (n : ℕ) (within : cut + n ≤ length log)
    (begin next : ℕ) (txns : List LogTxn) (as_at : IsAsAtBegin (take (cut + n) log) begin next txns) where
  -- the records before the End, and those before its begin
  abbrev L : List LogRecord
  L = take (cut + n) log

  abbrev B : List LogRecord
  B = before_begin L begin

  inside : begin - 1 < length L
  inside = by_one (slice_get L (begin - 1)) refl as_at.begins.1
    where
      by_one : (o : Option LogRecord) → slice_get L (begin - 1) ≡ o → IsSomeAnd o (λ r. r.payload ≡ CheckpointBegin) → begin - 1 < length L
      by_one None e is = absurd is
      by_one (Some r) e is = slice_get_within L (begin - 1) r e

  lawful_before : Lawful B
  lawful_before = lawful_front L (begin - 1) (lawful_front log (cut + n) lawful)

  before_is : take (begin - 1) log ≡ B
  before_is = let lt = inside in let long = length-take (cut + n) log in sym (take-take (begin - 1) (cut + n) log (omega arith))

  -- of a transaction with a record that is cut off
  entry_cut_off : (e : LogTxn) → IsEntry B e → has_record e.txn (take cut log) ≡ true → first_of e.txn B ≤ cut → IsEntryCutOff cut (drop cut log) begin e
  entry_cut_off e entry some low =
      let numbers = entry.1 in
      let most = length_take_le (begin - 1) L in
      let is_some = as_at.begins.0 in
      let first = numbers.first in
      let last = numbers.last in
      let undo = numbers.undo_next in
      let prepare = numbers.prepare in
      let above = first_some e.txn B entry.0.known in
      let last_in = number_within (its e.txn) B (last_of e.txn B) (last_is (its e.txn) 1 B) in
      let undo_in = number_within (its e.txn) B (undo_next_of (unanswered e.txn B)) (λ named. let h = undo_next_is (its e.txn) 1 B named in record { found = h.found; low = h.low; here = h.here; passes = h.passes }) in
      let prepare_in = number_within (λ r. (r.1.txn == e.txn) && is_prepare r.1.payload) B (prepare_number e.txn B) (first_is (λ r. (r.1.txn == e.txn) && is_prepare r.1.payload) 1 B) in
      record {
        some = omega arith;
        first = omega arith;
        ended = λ u. true≢false (sym (may.ended e.txn entry.0.is_one some) ∙ (kept_unended log lawful volume cut may e.txn u).1);
        last = omega arith;
        undo_next = omega arith;
        prepare = omega arith;
      }

  -- the begin is kept
  module _ (le : cut ≤ begin - 1) where
    long : cut ≤ length B
    long = let lt = inside in let e = length-take (begin - 1) L in omega arith

    front_is : take cut B ≡ take cut log
    front_is = let lt = inside in let l = length-take (cut + n) log in ap (take cut) (sym before_is) ∙ take-take cut (begin - 1) log le

    behind_is : kept_before cut begin (drop cut L) ≡ drop cut B
    behind_is = let e : cut + (begin - 1 - cut) ≡ begin - 1 = omega arith in take-drop L cut (begin - 1 - cut) ∙ ap (λ k. drop cut (take k L)) e

    entry_behind : (e : LogTxn) → IsEntry B e → IsEntryBehind cut (drop cut log) (drop cut L) begin e
    entry_behind e entry = ⊎_elim
        (λ some.
        let one = one_of e.txn (take cut B) (ap (has_record e.txn) front_is ∙ some) in
        let lt = slice_get_within (take cut B) one.at one.found one.here in
        let most = length_take_le cut B in
        let here : slice_get B one.at ≡ Some one.found = sym (slice_get-take one.at cut B (omega arith)) ∙ one.here in
        let low = first_at_most e.txn 1 B one.at one.found here one.own in
        inr (entry_cut_off e entry some (omega arith)))
        (λ none. inl (subst (λ rs. IsKeptEntry cut rs e) (sym behind_is) (entry_kept B cut long e (ap (has_record e.txn) front_is ∙ none) entry)))
        (cases_Bool (has_record e.txn (take cut log)))

    end_behind : IsEndBehind cut (drop cut log) (drop cut L) begin next txns
    end_behind =
        let at : cut + (begin - 1 - cut) ≡ begin - 1 = omega arith in
        record {
          some = as_at.begins.0;
          begins = λ lt. subst (λ o. IsSomeAnd o (λ r. r.payload ≡ CheckpointBegin)) (sym (get-drop L cut (begin - 1 - cut) ∙ ap (slice_get L) at)) as_at.begins.1;
          rising = as_at.table.rising;
          each = All-weaker (IsEntry B) (IsEntryBehind cut (drop cut log) (drop cut L) begin) entry_behind txns as_at.table.each;
          every = subst (λ rs. All (IsListed rs txns) rs) (sym behind_is) (listed_behind B lawful_before cut long txns as_at.table.every);
          above = subst (All (λ r. r.txn < next)) (sym behind_is) (All-drop (λ r. r.txn < next) cut B as_at.above);
        }

  -- the begin is cut off, and with it a record of each transaction that is listed
  module _ (lt : begin - 1 < cut) where
    nothing_behind : kept_before cut begin (drop cut L) ≡ []
    nothing_behind = let e : begin - 1 - cut ≡ 0 = omega arith in ap (λ k. take k (drop cut L)) e

    entry_in_front : (e : LogTxn) → IsEntry B e → IsEntryBehind cut (drop cut log) (drop cut L) begin e
    entry_in_front e entry =
        let last = last_is (its e.txn) 1 B entry.0.known in
        let at = slice_get_within B (last_of e.txn B - 1) last.found last.here in
        let most = length_take_le (begin - 1) L in
        let low = first_within e.txn B entry.0.known in
        let here : slice_get (take cut log) (last_of e.txn B - 1) ≡ Some last.found =
        slice_get-take (last_of e.txn B - 1) cut log (omega arith) ∙ sym (slice_get-take (last_of e.txn B - 1) (begin - 1) log (omega arith)) ∙ ap (λ rs. slice_get rs (last_of e.txn B - 1)) before_is ∙ last.here in
        let some : has_record e.txn (take cut log) ≡ true =
        ap (λ t. has_record t (take cut log)) (sym (eqb-true last.found.txn e.txn last.passes)) ∙ has_at (take cut log) (last_of e.txn B - 1) last.found here in
        inr (entry_cut_off e entry some (omega arith))

    end_in_front : IsEndBehind cut (drop cut log) (drop cut L) begin next txns
    end_in_front = record {
      some = as_at.begins.0;
      begins = λ there. absurd (omega arith);
      rising = as_at.table.rising;
      each = All-weaker (IsEntry B) (IsEntryBehind cut (drop cut log) (drop cut L) begin) entry_in_front txns as_at.table.each;
      every = subst (λ rs. All (IsListed rs txns) rs) (sym nothing_behind) (All-nil (IsListed [] txns));
      above = subst (All (λ r. r.txn < next)) (sym nothing_behind) (All-nil (λ r. r.txn < next));
    }

  pub end_meant : IsEndBehind cut (drop cut log) (drop cut L) begin next txns
  end_meant = ⊎_elim end_behind end_in_front (within_or_beyond cut (begin - 1))
