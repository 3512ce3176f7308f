-- What threads leave is led to by moves over plain data from the state at which their world was handed over.
use Rattle.std.proofs.Common.{◌≡◌, ◌-◌, ◌∷◌, ◌++◌, ℕ, List, refl, sym, ◌∙◌, ap, subst, take}
use Rattle.shore_types.specs.declared.faults.Device.TheVariants.{Log}
use Rattle.shore_types.specs.declared.layout.Geometry.{Geometry}
use Rattle.shore_types.specs.declared.layout.TheConstants.{LOG_FRONT_BYTES}
use Rattle.shore_disk.specs.Device.{size}
use Rattle.shore_disk.specs.declared.device.Disk.{Ghosts}
use Rattle.shore_fronts.specs.Fronts.{log_label}
use Rattle.shore_gate.specs.Label.{label_bytes}
use Rattle.shore_gate.specs.declared.gates.TheConstants.{OPEN}
use Rattle.shore_model.specs.declared.calls.Call.{Call}
use Rattle.shore_model.specs.declared.histories.Entry.{Entry}
use Rattle.shore_model.specs.declared.histories.Opening.{Opening}
use Rattle.shore_model.specs.declared.log_records.LogRecord.{LogRecord}
use Rattle.shore_model.specs.declared.step.Step.{Step}
use Rattle.laws_runs.proofs.Checkpointing.{moves_go}
use Rattle.laws_runs.specs.CheckpointSteps.{CheckpointedMoves}
use Rattle.shore_world.specs.declared.world.World.{World}
use Rattle.shore_world.specs.Exchanges.{tellings_in, told_in, waited_in}
use Rattle.shore_world.specs.Legs.{IsLedTo, IsUpIn}
use Rattle.shore_world.specs.Promises.{IsManagerOf, as_up}
use Rattle.shore_world.specs.Worlds.{IsAt, geometry_in, history_in, stream_bytes_in}
use Rattle.shore_world.proofs.PromiseLemmas.{ran_manager, ran_told}
use Rattle.shore_world.proofs.StoredLemmas.{HasRun}
use Rattle.shore_held.specs.Trails.{moves_of}
use Rattle.shore_held.specs.Worlds.{begins_with}
use Rattle.shore_held.specs.declared.asked.Asked.{Asked}
use Rattle.shore_shared.specs.Lives.{HasEnded}

module _ {L V : Type 0} {G : Ghosts L} {H : Ghosts V} (old w : World L V G H) (cut : ℕ) (kept : List LogRecord) (asked : List (Asked × ℕ)) (stepped : List (Step × ℕ)) (geometry : geometry_in w ≡ geometry_in old)
    (long : size (history_in w) ≡ size (history_in old)) where
  -- the label of the log has stayed
  label_stays : {opening : Opening} {found : List LogRecord} {entries : List Entry} (up : IsUpIn old opening found entries) → (ended : HasEnded (begins_with up) cut kept asked stepped w)
      → take 512 ended.log_front ≡ take 512 up.log_front
  label_stays up ended =
      ended.log_labelled.label.text ∙ ap (λ (x : Geometry × ℕ). OPEN ∷ label_bytes Log (log_label x.0 x.1)) (λ i. (geometry i, long i)) ∙ sym up.log_labelled.label.text

  pub led : {opening : Opening} {found : List LogRecord} {entries : List Entry} (up : IsUpIn old opening found entries) → HasEnded (begins_with up) cut kept asked stepped w → IsLedTo up (moves_of asked stepped) w
  led up ended =
      let h = ended.come_by in
      record {
        geometry = geometry;
        long = long;
        plain = h.plain;
        last = h.last;
        made = h.made;
        moves = subst (λ (x : Geometry). CheckpointedMoves x up.last h.plain h.last h.made) (sym h.is ∙ geometry) h.moves;
        are = h.are;
        last_front = ended.log_front;
        disk = h.disk;
        at = subst (λ (l : List ℕ). IsAt w ended.log_front l h.disk h.last.state h.last.store) h.is_front ended.at;
        label = label_stays up ended;
      }

  module _ (o : Opening) (es : List Entry) (ws : List (ℕ × Call)) (k : IsManagerOf old o es ws) (ended : HasEnded (begins_with (as_up k)) cut kept asked stepped w) where
    abbrev ran : HasRun (geometry_in old) (stream_bytes_in old) o k.found (take 512 k.log_front) k.front es k.now (moves_of asked stepped) w
    ran =
        record {
          plain = ended.come_by.plain;
          last = ended.come_by.last;
          made = ended.come_by.made;
          stored = subst (λ (x : Geometry). CheckpointedMoves x k.now ended.come_by.plain ended.come_by.last ended.come_by.made) (sym ended.come_by.is ∙ geometry) ended.come_by.moves;
          same = ended.come_by.are;
          up = record {
            log_front = ended.log_front;
            labelled = label_stays (as_up k) ended;
            disk = ended.come_by.disk;
            at = subst (λ (l : List ℕ). IsAt w ended.log_front l ended.come_by.disk ended.come_by.last.state ended.come_by.last.store) ended.come_by.is_front ended.at;
            geometry = geometry;
            long = ap (λ n. n - LOG_FRONT_BYTES) long;
            under_way = moves_go (geometry_in old) (stream_bytes_in old) o k.found es k.now k.under_way ended.come_by.plain ended.come_by.last ended.come_by.made
                (subst (λ (x : Geometry). CheckpointedMoves x k.now ended.come_by.plain ended.come_by.last ended.come_by.made) (sym ended.come_by.is ∙ geometry) ended.come_by.moves);
          };
        }

    pub behind : IsManagerOf w o (es ++ ended.come_by.made) (waited_in ws (moves_of asked stepped))
    behind = ran_manager old o es ws k (moves_of asked stepped) w ran (waited_in ws (moves_of asked stepped)) refl

    pub behind_told : tellings_in ended.come_by.made ≡ told_in ws (moves_of asked stepped)
    behind_told = ran_told old o es ws k (moves_of asked stepped) w ran
