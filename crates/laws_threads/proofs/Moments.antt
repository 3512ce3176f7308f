-- A loss of power at a moment of a manager in threads is one behind moves of the manager over plain data.
use Rattle.std.proofs.Common.{◌≡◌, inl, inr, ⊎_elim, ◌≤◌, ◌++◌, ℕ, List, ◌∷◌, sym, ap, ◌∙◌, length, arith}
use Rattle.shore_types.specs.declared.layout.Geometry.{Geometry}
use Rattle.shore_gate.specs.declared.anchors.Anchor.{Anchor}
use Rattle.shore_model.specs.declared.histories.Entry.{Entry}
use Rattle.shore_model.specs.declared.histories.Opening.{Opening}
use Rattle.shore_model.specs.declared.log_records.LogRecord.{LogRecord}
use Rattle.laws_lives.specs.Pages.{LoggedPages}
use Rattle.laws_checkpoints.specs.Checkpoints.{Anchored}
use Rattle.laws_images.specs.StandsBehind.{anchored_by}
use Rattle.laws_runs.proofs.Checkpointing.{moves_go, step_goes}
use Rattle.laws_runs.specs.CheckpointSteps.{CheckpointedMove, CheckpointedMoves, CheckpointedState, entries_of_move}
use Rattle.laws_runs.specs.CheckpointedStates.{IsAtCheckpoints, MayBeAnchored}
use Rattle.laws_runs.specs.SoundStores.{IsLost}
use Rattle.laws_threads.proofs.Asks.{told_asked, told_lost, told_to}
use Rattle.laws_threads.proofs.Told.{IsBehind, behind_step}
use Rattle.laws_threads.specs.Amid.{IsAlike, IsLostAmid, IsMoment, entries_of_asks, told_and_asked}

module _ (g : Geometry) (ring_bytes : ℕ) (o : Opening) (found : List LogRecord) (es : List Entry) (m : CheckpointedState) (k : IsAtCheckpoints g ring_bytes o found es m)
    (e : CheckpointedMove) (new : CheckpointedState) (anchor : Anchor) (stable : ℕ) (seen : List ℕ) (is : IsMoment g m e new anchor stable seen) where
  -- so many records and these pages are left, all that is durable then among them
  module _ (n : ℕ) (left : LoggedPages) (least : stable ≤ n) (lost : IsLostAmid m new n left) where
    abbrev pub behind : IsBehind g m e new n left
    behind = behind_step g m new n left lost e is.step

    abbrev pub last : CheckpointedState
    last = told_to stable behind.last

    stands : IsAtCheckpoints g ring_bytes o found (es ++ entries_of_move m behind.other behind.last) behind.last
    stands = step_goes g ring_bytes o found es m k behind.other behind.last behind.made.step

    more : behind.last.store.store.durable ≤ stable
    more = let told = is.told in omega (arith, told, behind.made.durable)

    most : stable ≤ length behind.last.store.store.log
    most = let sent = is.sent in omega (arith, sent, ap length behind.made.log)

    abbrev pub moves : List CheckpointedMove
    moves = behind.other ∷ told_and_asked stable seen

    abbrev pub made : List Entry
    made = entries_of_move m e new ++ entries_of_asks seen

    pub alike : IsAlike e behind.other
    alike = behind.made.alike

    pub leads : CheckpointedMoves g m moves last made
    leads = (
      behind.last,
      entries_of_asks seen,
      behind.made.step,
      told_asked g behind.last stands.under_way.stored stable more most seen is.seen_stable,
      ap (λ l. l ++ entries_of_asks seen) (sym behind.made.entries),
    )

    pub is_lost : IsLost last.store.store n left
    is_lost = told_lost g behind.last stands.under_way.stored stable more most n left least behind.lost

    pub goes : IsAtCheckpoints g ring_bytes o found (es ++ made) last
    goes = moves_go g ring_bytes o found es m k moves last made leads

    pub same_log : last.store.store.log ≡ new.store.store.log
    same_log = behind.made.log

    -- the anchor may be the one that is left
    pub may : MayBeAnchored last.store (anchored_by anchor)
    may = ⊎_elim
        (λ same. inl (same ∙ sym behind.made.anchored))
        (λ next. let low = next.3 in let tail = next.5 in inr (
          next.0,
          next.1,
          behind.made.stage ∙ next.2,
          (let told = is.told in omega (arith, low, told)),
          next.4,
          omega (arith, tail, ap (λ (a : Anchored). a.tail) behind.made.anchored),
          next.6,
        ))
        is.anchored
