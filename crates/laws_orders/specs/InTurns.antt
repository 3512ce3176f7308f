-- One serial order of the transactions of a history: that of their turns. This project's own.
use Rattle.std.specs.Prelude.{◌≡◌, ◌==◌, ℕ, List, [], ◌∷◌, ◌++◌, Bool, true, false, if◌then◌else◌, Some, IfSome, filter, map, slice_get, take}
use Rattle.std.specs.List.{cons_option}
use Rattle.shore_model.specs.declared.histories.Decision.{Decision}
use Rattle.shore_model.specs.declared.histories.Decision.TheVariants.{Commit, Prepare, RollBack}
use Rattle.shore_model.specs.declared.histories.InDoubt.{InDoubt}
use Rattle.shore_model.specs.Alone.{Alone}
use Rattle.shore_model.specs.Histories.{History, calls_of, decisions, in_doubt, serial, turn_of, writes_in}
use Rattle.shore_model.specs.Records.{Records, overlay, overlays}
use Rattle.laws_lives.specs.Sessions.{EachOnce}

-- ---- turns

-- the transactions whose turns these decisions are, in their order, behind those before them
abbrev pub turns_behind : List InDoubt → List Decision → List Decision → List ℕ
turns_behind doubts before [] = []
turns_behind doubts before (d ∷ ds) = cons_option (turn_of doubts before d) (turns_behind doubts (before ++ d ∷ []) ds)

-- the transactions of an opening that were in doubt there, whose turns lie before it
abbrev pub turns_before : List InDoubt → List ℕ
turns_before doubts = map (λ d. d.txn) doubts

-- all transactions that have had their turn, in the order of the turns
abbrev pub turns : List InDoubt → List Decision → List ℕ
turns doubts ds = turns_before doubts ++ turns_behind doubts [] ds

-- Whether what a transaction has written counts: it does if it is committed, and does not if it is rolled back. Of one that is in doubt still
-- both may come, and it counts if it is chosen.
abbrev pub counts : (ℕ → Bool) → List Decision → ℕ → Bool
counts chosen [] t = chosen t
counts chosen (Commit u ∷ ds) t = if u == t then true else counts chosen ds t
counts chosen (RollBack u ∷ ds) t = if u == t then false else counts chosen ds t
counts chosen (Prepare u global ∷ ds) t = counts chosen ds t

-- the records that the turns so far leave: the opening's, with the write set of each transaction that counts laid over them at its turn
abbrev pub records_in_turns : History → (ℕ → Bool) → List Decision → Records
records_in_turns h chosen ds = overlays h.opening.records (map (writes_in h) (filter (counts chosen ds) (turns h.opening.in_doubt ds)))

-- ---- answers

-- A transaction, with its own answers and its write set, runs alone on the records that the turns before these decisions leave: whichever of
-- those that are in doubt then may count.
abbrev pub RunsAloneInTurn : History → List Decision → ℕ → Type 0
RunsAloneInTurn h before t = (chosen : ℕ → Bool) → Alone h.opening.slots (records_in_turns h chosen before) (calls_of t h.entries) (writes_in h t)

-- if the decision is a turn, its transaction runs alone on the records of the turns before it
abbrev pub TakesTurnInOrder : History → List Decision → Decision → Type 0
TakesTurnInOrder h before d = IfSome (turn_of h.opening.in_doubt before d) (RunsAloneInTurn h before)

abbrev pub TakeTurnsInOrder : History → List Decision → Type 0
TakeTurnsInOrder h ds = (n : ℕ) (d : Decision) → slice_get ds n ≡ Some d → TakesTurnInOrder h (take n ds) d

-- Each transaction that has a turn runs alone on the records of those before its turn, each laid over at its own turn: those that were committed
-- before it, and any of those that were prepared before it and are not decided yet.
abbrev pub SoundInOrder : History → Type 0
SoundInOrder h = TakeTurnsInOrder h (decisions h.entries)

-- ---- what is left

-- the serial records, overlaid with the write sets of those in doubt that are chosen: with all of them it is what is shown
abbrev pub shown_with : History → (ℕ → Bool) → List Decision → Records
shown_with h chosen ds =
    overlays (serial (writes_in h) h.opening.records ds)
    (map (writes_in h) (filter chosen (map (λ p. p.0) (in_doubt h.opening.in_doubt ds))))

-- the order of turns leaves the same records as that of the commits, after any first decisions
abbrev pub LeavesTheSame : History → Type 0
LeavesTheSame h = (n : ℕ) (chosen : ℕ → Bool) →
    records_in_turns h chosen (take n (decisions h.entries)) ≡ shown_with h chosen (take n (decisions h.entries))

-- The order of turns is a serial order of the history: each transaction comes once in it, it explains what was answered, and leaves what is shown.
pub record IsInOrder (h : History) : Type 0 where
  pub once : EachOnce (turns h.opening.in_doubt (decisions h.entries))
  pub sound : SoundInOrder h
  pub leaves : LeavesTheSame h

-- ---- serial execution

-- the transactions run alone one after another, each with its own answers and its write set, from these records to those
abbrev pub RunOneByOne : History → Records → List ℕ → Records → Type 0
RunOneByOne h R [] last = last ≡ R
RunOneByOne h R (t ∷ ts) last = Alone h.opening.slots R (calls_of t h.entries) (writes_in h t) × RunOneByOne h (overlay R (writes_in h t)) ts last

-- what the opening's transactions in doubt leave that count: they ran before the opening
abbrev pub opened_in_turns : History → (ℕ → Bool) → List Decision → Records
opened_in_turns h chosen ds = overlays h.opening.records (map (writes_in h) (filter (counts chosen ds) (turns_before h.opening.in_doubt)))

-- Those of the decisions that count run alone one after another, in the order of their turns, and leave these records.
abbrev pub RunInTurns : History → (ℕ → Bool) → List Decision → Records → Type 0
RunInTurns h chosen ds last =
    RunOneByOne h (opened_in_turns h chosen ds) (filter (counts chosen ds) (turns_behind h.opening.in_doubt [] ds)) last
