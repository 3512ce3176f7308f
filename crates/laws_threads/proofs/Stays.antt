-- A stay that ends in threads is one over plain data.
use Rattle.std.proofs.Common.{◌≡◌, ◌++◌, ℕ, List, [], ◌∷◌, sym, ap, subst, ◌∙◌, append_assoc, take}
use Rattle.shore_types.specs.declared.layout.Geometry.{Geometry}
use Rattle.shore_model.specs.declared.histories.Entry.{Entry}
use Rattle.shore_model.specs.declared.histories.Opening.{Opening}
use Rattle.shore_model.specs.declared.log_records.LogRecord.{LogRecord}
use Rattle.laws_checkpoints.specs.Checkpoints.{Anchored}
use Rattle.laws_images.specs.StandsBehind.{anchored_by}
use Rattle.laws_lives.specs.Doubts.{IsOpeningOf}
use Rattle.laws_lives.specs.Pages.{LoggedPages}
use Rattle.laws_runs.proofs.Checkpointing.{moves_go}
use Rattle.laws_runs.proofs.OpenedBehind.{open_goes}
use Rattle.laws_runs.specs.CheckpointSteps.{CheckpointedMove, CheckpointedMoves, CheckpointedState, entries_of_move}
use Rattle.laws_runs.specs.CheckpointedStates.{IsAtCheckpoints, MayBeOpenedBehind}
use Rattle.laws_runs.specs.CheckpointedStays.{CheckpointedRun, IsCheckpointedUp, left_by_up}
use Rattle.laws_threads.proofs.Moments as moments
use Rattle.laws_threads.specs.Amid.{IsUpInThreads, ThreadedRun, entries_of_threads}

all_join : (g : Geometry) (m : CheckpointedState) (moves : List CheckpointedMove) (mid : CheckpointedState) (made : List Entry) (later : List CheckpointedMove) (last : CheckpointedState) (more : List Entry)
    → CheckpointedMoves g m moves mid made → CheckpointedMoves g mid later last more → CheckpointedMoves g m (moves ++ later) last (made ++ more)
all_join g m [] mid made later last more h k =
    subst (λ x. CheckpointedMoves g x later last (made ++ more)) h.0 (subst (λ es. CheckpointedMoves g mid later last (es ++ more)) (sym h.1) k)
all_join g m (e ∷ moves) mid made later last more h k = (
  h.0,
  h.1 ++ more,
  h.2,
  all_join g h.0 moves mid h.1 later last more h.3 k,
  ap (λ es. es ++ more) h.4 ∙ append_assoc (entries_of_move m e h.0) h.1 more,
)

module _ (g : Geometry) (ring_bytes : ℕ) (o : Opening) (a : Anchored) (rs : List LogRecord) (pages : LoggedPages) (may : MayBeOpenedBehind g ring_bytes a rs pages) (opening : IsOpeningOf rs o)
    (r : ThreadedRun) (h : IsUpInThreads g ring_bytes o a rs pages r) where
  abbrev first : CheckpointedState
  first = record { state = r.first; store = r.ready }

  pub begun : IsAtCheckpoints g ring_bytes o rs r.made r.begun
  begun = moves_go g ring_bytes o rs [] first (open_goes g ring_bytes a rs pages may r.restart r.ready h.restarts o opening r.first h.redone h.no_losers h.opens h.from) r.events r.begun r.made h.moves

  abbrev pub run : CheckpointedRun
  run = record {
    restart = r.restart;
    ready = r.ready;
    first = r.first;
    events = r.events ++ moments.moves g ring_bytes o rs r.made r.begun begun r.step r.new r.anchor r.stable r.seen h.moment r.survive r.pages h.least h.lost;
    last = moments.last g ring_bytes o rs r.made r.begun begun r.step r.new r.anchor r.stable r.seen h.moment r.survive r.pages h.least h.lost;
    made = entries_of_threads r;
    survive = r.survive;
    pages = r.pages;
    anchor = anchored_by r.anchor;
  }

  pub is_up : IsCheckpointedUp g ring_bytes o a rs pages run
  is_up = record {
    restarts = h.restarts;
    redone = h.redone;
    no_losers = h.no_losers;
    opens = h.opens;
    from = h.from;
    moves = all_join g first r.events r.begun r.made
        (moments.moves g ring_bytes o rs r.made r.begun begun r.step r.new r.anchor r.stable r.seen h.moment r.survive r.pages h.least h.lost) run.last
        (moments.made g ring_bytes o rs r.made r.begun begun r.step r.new r.anchor r.stable r.seen h.moment r.survive r.pages h.least h.lost) h.moves
        (moments.leads g ring_bytes o rs r.made r.begun begun r.step r.new r.anchor r.stable r.seen h.moment r.survive r.pages h.least h.lost);
    lost = moments.is_lost g ring_bytes o rs r.made r.begun begun r.step r.new r.anchor r.stable r.seen h.moment r.survive r.pages h.least h.lost;
    anchored = moments.may g ring_bytes o rs r.made r.begun begun r.step r.new r.anchor r.stable r.seen h.moment r.survive r.pages h.least h.lost;
  }

  pub same_left : left_by_up run ≡ take r.survive r.new.store.store.log
  same_left = ap (take r.survive) (moments.same_log g ring_bytes o rs r.made r.begun begun r.step r.new r.anchor r.stable r.seen h.moment r.survive r.pages h.least h.lost)
