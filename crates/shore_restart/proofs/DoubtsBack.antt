-- Those in doubt as they come back to a table, one before another.
use Rattle.std.proofs.Common.{◌≡◌, ◌≢◌, ◌<◌, ◌≤◌, ◌+◌, ◌++◌, ◌∷◌, [], ℕ, List, Some, inl, inr, refl, sym, ap, subst, ◌∙◌, length, map, take, drop, arith}
use Rattle.std.specs.Prelude.{slice_get}
use Rattle.std.specs.List.{sum_by}
use Rattle.std.proofs.lemmas.List.{at_drop_all, drop_more}
use Rattle.std.proofs.lemmas.List.Sums.{sum_by-cons, sum_by-take-drop}
use Rattle.std.proofs.lemmas.Option.{get_or_from_slice_get, slice_get_within}
use Rattle.shore_model.specs.declared.log_records.LogRecord.{LogRecord}
use Rattle.shore_model.specs.Logs as logs
use Rattle.shore_model.specs.Logs.{prepare_number}
use Rattle.laws_lives.specs.Doubts.{LoggedDoubt}
use Rattle.shore_analysis.specs.Doubts.{doubts_left}
use Rattle.laws_lives.specs.Sessions.{EachOnce}
use Rattle.laws_lives.specs.Views.{IsAmong}
use Rattle.laws_lives.proofs.Lists.{among_right}
use Rattle.laws_checkpoints.proofs.Cuts.{first_behind}
use Rattle.shore_txn.specs.ActiveTxns.{IsFound, OneBecomes}
use Rattle.shore_txn.specs.Numbers.{first_with}
use Rattle.shore_txn.specs.Txns.{IsFoundPrepared, entries_of, number_of}
use Rattle.shore_txn.specs.declared.txn.Txn.{Txn}
use Rattle.shore_txn.proofs.OneOfMany.{map_parts, once_apart, once_same}
use Rattle.shore_restart.specs.Doubts.{owed_in, reserved_told}
use Rattle.shore_restart.specs.GivenBack.{AreEntriesOf, AreGivenBack, HasChangesBack, IsGivenBack}
use Rattle.shore_restart.proofs.ChangesBack.{first_stays}
use Rattle.shore_restart.proofs.DoubtsNamed.{head_or, split_here, tail_of}

-- ---- one of them

-- the newest of a table becomes another, and the others stay, if none of them has its number
pub record HeadBecomes (Q : Txn → Txn → Type 0) (t : Txn) (ts new : List Txn) : Type 0 where
  pub after : Txn
  pub is : new ≡ after ∷ ts
  pub becomes : Q t after

pub head_becomes : (n : ℕ) (Q : Txn → Txn → Type 0) (t : Txn) (ts new : List Txn) → ((x : Txn) → IsAmong x ts → number_of x ≢ n) → OneBecomes n Q (t ∷ ts) new → HeadBecomes Q t ts new
head_becomes n Q t ts new none one = by one.newer one.was one.is
  where
    by : (newer : List Txn) → t ∷ ts ≡ newer ++ one.before ∷ one.older → new ≡ newer ++ one.after ∷ one.older → HeadBecomes Q t ts new
    by [] was is = record {
      after = one.after;
      is = is ∙ ap (λ older. one.after ∷ older) (sym (ap tail_of was));
      becomes = subst (λ (x : Txn). Q x one.after) (sym (ap (head_or t) was)) one.becomes;
    }
    by (x ∷ newer) was is =
        absurd (none one.before (subst (IsAmong one.before) (sym (ap tail_of was)) (among_right one.before newer (one.before ∷ one.older) (inl refl))) one.txn)

-- who has a record has a first one
pub first_some : (t : ℕ) (log : List LogRecord) → 0 < logs.last_of t log → 0 < logs.first_of t log
first_some t log known = first_behind t log 0 (omega arith) refl known

pub given_back : (log : List LogRecord) (d : LoggedDoubt) (n first : ℕ) (name : List ℕ) (lsn : ℕ) (t mid new : Txn) → d.txn ≡ n → IsFound n first t → HasChangesBack log t mid → IsFoundPrepared name lsn mid new → name ≡ d.global
    → lsn ≡ prepare_number d.txn log → 0 < first → first ≡ logs.first_of d.txn log → IsGivenBack log d new
given_back log d n first name lsn t mid new same found back prepared named number some since = record {
  txn = prepared.txn ∙ back.txn ∙ found.txn ∙ sym same;
  session = prepared.session ∙ back.session ∙ found.session;
  unseated = prepared.seated ∙ back.name.seated ∙ found.seated;
  first =
      let known = found.first in
      let kept = back.first (omega (arith, known, some)) ∙ known in
      prepared.first ∙ ap (λ (k : ℕ). first_with k lsn) kept ∙ first_stays first lsn some ∙ since;
  last = prepared.last ∙ number;
  prepare = prepared.prepare ∙ number;
  entries = subst (λ (u : ℕ). AreEntriesOf log u (entries_of new)) (found.txn ∙ sym same) (subst (AreEntriesOf log (number_of t)) (sym prepared.entries) back.entries);
  marks = prepared.marks ∙ back.marks ∙ found.marks;
  waits = prepared.state;
  global = prepared.global ∙ ap (λ (g : List ℕ). Some g) named;
  decided = prepared.decided ∙ back.name.decided ∙ found.decided;
}

-- ---- one more of them

pub number_in : (log : List LogRecord) (ds : List LoggedDoubt) (ts : List Txn) → AreGivenBack log ds ts → (t : Txn) → IsAmong t ts → IsAmong (number_of t) (map (λ d. d.txn) ds)
number_in log [] [] back t none = absurd none
number_in log [] (x ∷ ts) back t among = absurd back
number_in log (d ∷ ds) [] back t among = absurd back
number_in log (d ∷ ds) (x ∷ ts) back t (inl same) = inl (sym back.0.txn ∙ ap number_of same)
number_in log (d ∷ ds) (x ∷ ts) back t (inr later) = inr (number_in log ds ts back.1 t later)

-- those that come later are other transactions
pub later_apart : (ds : List LoggedDoubt) (i : ℕ) (d : LoggedDoubt) → EachOnce (map (λ x. x.txn) ds) → slice_get ds i ≡ Some d → IsAmong d.txn (map (λ x. x.txn) (drop (i + 1) ds)) → ⊥
later_apart ds i d once at there =
    once_apart (map (λ (x : LoggedDoubt). x.txn) (take i ds)) (map (λ (x : LoggedDoubt). x.txn) (drop (i + 1) ds)) d.txn
    (subst EachOnce (ap (map (λ (x : LoggedDoubt). x.txn)) (split_here ds i d at) ∙ map_parts (λ (x : LoggedDoubt). x.txn) (take i ds) (drop (i + 1) ds) d) once)
    (among_right d.txn (map (λ (x : LoggedDoubt). x.txn) (take i ds)) (map (λ (x : LoggedDoubt). x.txn) (drop (i + 1) ds)) there)

pub from_here : {A : Type 0} (ds : List A) (i : ℕ) (d : A) → slice_get ds i ≡ Some d → drop i ds ≡ d ∷ drop (i + 1) ds
from_here ds i d at = drop_more ds i d (slice_get_within ds i d at) ∙ ap (λ x. x ∷ drop (i + 1) ds) (get_or_from_slice_get ds i d d at)

pub back_more : (log : List LogRecord) (ds : List LoggedDoubt) (i : ℕ) (d e : LoggedDoubt) (t : Txn) (ts new : List Txn) → EachOnce (map (λ x. x.txn) ds) → slice_get ds i ≡ Some d → IsAmong d ds → IsAmong e ds → e.txn ≡ d.txn
    → IsGivenBack log e t → new ≡ t ∷ ts → AreGivenBack log (drop (i + 1) ds) ts → AreGivenBack log (drop i ds) new
back_more log ds i d e t ts new once at d_in e_in same back is rest =
    let one : e ≡ d = once_same (λ (x : LoggedDoubt). x.txn) ds once e d e_in d_in same in
    subst (λ (xs : List LoggedDoubt). AreGivenBack log xs new) (sym (from_here ds i d at))
    (subst (AreGivenBack log (d ∷ drop (i + 1) ds)) (sym is) (subst (λ (x : LoggedDoubt). IsGivenBack log x t) one back, rest))

-- behind the last nobody is given back, and nothing is owed
pub starts_empty : (log : List LogRecord) (n : ℕ) (ts : List Txn) → length (doubts_left log) ≤ n → ts ≡ [] → AreGivenBack log (drop n (doubts_left log)) ts
starts_empty log n ts end none = subst (λ (ds : List LoggedDoubt). AreGivenBack log ds ts) (sym (at_drop_all (λ (ds : List LoggedDoubt). ds) (doubts_left log) n end)) (subst (AreGivenBack log []) (sym none) tt)

-- ---- what is reserved

abbrev pub owed_from : List LogRecord → ℕ → ℕ
owed_from log i = sum_by (λ d. owed_in log d.txn) (drop i (doubts_left log))

pub owed_more : (log : List LogRecord) (i : ℕ) (d : LoggedDoubt) → slice_get (doubts_left log) i ≡ Some d → owed_from log i ≡ owed_in log d.txn + owed_from log (i + 1)
owed_more log i d at = ap (sum_by (λ x. owed_in log x.txn)) (from_here (doubts_left log) i d at) ∙ sum_by-cons (λ x. owed_in log x.txn) d (drop (i + 1) (doubts_left log))

pub owed_most : (log : List LogRecord) (i : ℕ) → owed_from log i ≤ reserved_told log
owed_most log i = let sum = sum_by-take-drop (λ x. owed_in log x.txn) (doubts_left log) i in omega (arith, sum)

pub nothing_owed : (log : List LogRecord) (n : ℕ) → length (doubts_left log) ≤ n → owed_from log n ≡ 0
nothing_owed log n end = ap (sum_by (λ d. owed_in log d.txn)) (at_drop_all (λ (ds : List LoggedDoubt). ds) (doubts_left log) n end)
