-- What is left then of both devices stands for what the manager over plain data has.
use Rattle.std.proofs.Common.{◌≡◌, inl, inr, ◌≤◌, ◌++◌, ◌-◌, ℕ, List, [], ◌∷◌, refl, sym, ap, subst, ◌∙◌, append-nil, append_assoc, length, take, arith}
use Rattle.std.specs.List.{AllByRecursion}
use Rattle.shore_types.specs.declared.faults.Device.TheVariants.{Volume}
use Rattle.shore_types.specs.declared.layout.Geometry.{Geometry}
use Rattle.shore_types.specs.declared.layout.TheConstants.{LOG_FRONT_BYTES}
use Rattle.shore_dwrite.specs.declared.places.TheConstants.{GATE_AT}
use Rattle.shore_fronts.specs.Volumes.{volume_label}
use Rattle.shore_gate.specs.Label.{HoldsLabel}
use Rattle.shore_gate.specs.declared.anchors.Anchor.{Anchor}
use Rattle.shore_model.specs.declared.calls.Answer.{Answer}
use Rattle.shore_model.specs.declared.calls.Answer.TheVariants.{Anchored, Begun, Ended, Moved}
use Rattle.shore_model.specs.declared.histories.Entry.{Entry}
use Rattle.shore_model.specs.declared.histories.Opening.{Opening}
use Rattle.shore_model.specs.declared.log_records.LogRecord.{LogRecord}
use Rattle.shore_model.specs.declared.log_records.Payload.TheVariants as payload
use Rattle.shore_model.specs.declared.step.Step.TheVariants.{Done, Nothing, Refused, Waits}
use Rattle.laws_lives.specs.ManagerSteps.{IsWork}
use Rattle.laws_lives.specs.Pages.{AreAsOfOwnNumbers, LoggedPages}
use Rattle.laws_lives.specs.Recovery.{AppendRecord, FlushPage, ForceLog, LosePower, RecoveryEvent, RecoveryState, RedoRecord}
use Rattle.laws_checkpoints.specs.CheckpointedStores.{CheckpointedStore}
use Rattle.laws_checkpoints.specs.Checkpoints.{end_payload, of_checkpoint}
use Rattle.laws_checkpoints.specs.RecoveryNumbers.{recovery_after}
use Rattle.laws_heaps.specs.LoggedHeaps.{LeavesStore}
use Rattle.laws_images.proofs.LeftBehind.{StandBehind, stand_behind}
use Rattle.laws_images.proofs.Longer.{leaves_longer}
use Rattle.laws_images.specs.Moments.{ShowsLeft}
use Rattle.laws_images.specs.StandsBehind.{GivesKept, StandsForBehind, anchored_by, kept_behind}
use Rattle.laws_runs.specs.SoundStores.{IsLost}
use Rattle.laws_lives.proofs.Invariant.{crash_stands}
use Rattle.laws_runs.proofs.PlainWorks.{works_are_work}
use Rattle.laws_runs.specs.CheckpointSteps.{CheckpointAnswers, CheckpointedMove, CheckpointedState, CheckpointedSteps, Checkpoints, Goes, StoreWorks, entries_of_move}
use Rattle.laws_runs.specs.CheckpointedStates.{IsAtCheckpoints, MayBeAnchored}
use Rattle.laws_runs.specs.StoredRuns.{Manage, Tend}
use Rattle.laws_threads.specs.Amid.{IsLeftThen, IsLostAmid, IsMoment, RunsOn, entries_of_asks}
use Rattle.laws_threads.proofs.Moments as moments
use Rattle.std.proofs.Math.Seq.{take-length}
use Rattle.shore_frames.specs.Frames.{GivesFrom}

-- ---- a step takes no record away

abbrev Grows : RecoveryState → RecoveryState → Type 0
Grows old new = (more : List LogRecord) × (new.log ≡ old.log ++ more)

works_grow : (s : CheckpointedStore) (works : List RecoveryEvent) (last : CheckpointedStore) → AllByRecursion IsWork works → StoreWorks s works last → Grows s.store last.store
works_grow s [] last are h = ([], ap (λ (x : CheckpointedStore). x.store.log) h ∙ sym (append-nil s.store.log))
works_grow s (AppendRecord r ∷ works) last are h =
    let rest = works_grow (record s { store = h.0; recovery = recovery_after s.store (AppendRecord r) s.recovery }) works last are.1 h.2 in
    (r ∷ rest.0, rest.1 ∙ ap (λ (x : RecoveryState). x.log ++ rest.0) h.1.1 ∙ append_assoc s.store.log (r ∷ []) rest.0)
works_grow s (ForceLog n ∷ works) last are h =
    let rest = works_grow (record s { store = h.0; recovery = recovery_after s.store (ForceLog n) s.recovery }) works last are.1 h.2 in
    (rest.0, rest.1 ∙ ap (λ (x : RecoveryState). x.log ++ rest.0) h.1.2)
works_grow s (FlushPage p ∷ works) last are h =
    let rest = works_grow (record s { store = h.0; recovery = recovery_after s.store (FlushPage p) s.recovery }) works last are.1 h.2 in
    (rest.0, rest.1 ∙ ap (λ (x : RecoveryState). x.log ++ rest.0) h.1.1)
works_grow s (RedoRecord ∷ works) last are h = absurd are.0
works_grow s (LosePower n left begin ∷ works) last are h = absurd are.0

module _ (g : Geometry) (m new : CheckpointedState) where
  logged : (r : LogRecord) → new.store.store.log ≡ m.store.store.log ++ r ∷ [] → Grows m.store.store new.store.store
  logged r is = (r ∷ [], is)

  same : new.store.store.log ≡ m.store.store.log → Grows m.store.store new.store.store
  same is = ([], is ∙ sym (append-nil m.store.store.log))

  answer_grows : (answer : Answer) → CheckpointAnswers m answer new → Grows m.store.store new.store.store
  answer_grows (Begun n) h = logged (of_checkpoint payload.CheckpointBegin) (ap (λ (x : CheckpointedState). x.store.store.log) h.6)
  answer_grows (Ended n) h = logged (of_checkpoint (end_payload h.0)) (ap (λ (x : CheckpointedState). x.store.store.log) h.3)
  answer_grows (Anchored checkpoint tail) h = logged (of_checkpoint (payload.Anchor checkpoint tail)) (ap (λ (x : CheckpointedState). x.store.store.log) h.6)
  answer_grows Moved h = same (ap (λ (x : CheckpointedState). x.store.store.log) h.2)
  answer_grows _ h = absurd h

  step_grows : (e : CheckpointedMove) → CheckpointedSteps g m e new → Grows m.store.store new.store.store
  step_grows (Goes (Manage e works)) h = works_grow m.store works new.store (works_are_work m.store.store works new.store.store h.0.1) h.1
  step_grows (Goes (Tend works)) h = works_grow m.store works new.store (works_are_work m.store.store works new.store.store h.0.1) h.1
  step_grows (Checkpoints (Done answer)) h = answer_grows answer h.1
  step_grows (Checkpoints Nothing) h = same (ap (λ (x : CheckpointedState). x.store.store.log) h.2)
  step_grows (Checkpoints (Refused f)) (inl failed) = same (ap (λ (x : CheckpointedState). x.store.store.log) failed.2)
  step_grows (Checkpoints (Refused f)) (inr (running, inl short)) = same (ap (λ (x : CheckpointedState). x.store.store.log) short.2)
  step_grows (Checkpoints (Refused f)) (inr (running, (inr (inl full)))) = same (ap (λ (x : CheckpointedState). x.store.store.log) full.3)
  step_grows (Checkpoints (Refused f)) (inr (running, (inr (inr device)))) = same (ap (λ (x : CheckpointedState). x.store.store.log) device.2)
  step_grows (Checkpoints (Waits wait)) h = absurd h

-- ---- the pair

module _ (g : Geometry) (log_bytes volume_bytes : ℕ) (o : Opening) (found : List LogRecord) (es : List Entry) (m : CheckpointedState) (k : IsAtCheckpoints g (log_bytes - LOG_FRONT_BYTES) o found es m)
    (e : CheckpointedMove) (new : CheckpointedState) (anchor : Anchor) (stable : ℕ) (seen : List ℕ) (is : IsMoment g m e new anchor stable seen) (volume_image : List ℕ)
    (label : HoldsLabel Volume volume_bytes (take 512 volume_image) (volume_label g)) (log_left volume_left : List ℕ)
    (left : IsLeftThen g log_bytes (take GATE_AT volume_image) m new anchor stable log_left volume_left) where
  abbrev pub n : ℕ
  n = left.gives.0

  abbrev pub pages : LoggedPages
  pages = left.shows.0

  abbrev pub least : stable ≤ n
  least = left.gives.1

  pub lost : IsLostAmid m new n pages
  lost = record { least = let told = is.told in let low = least in omega (arith, told, low); most = left.gives.2; shows = left.shows.1 }

  abbrev pub last : CheckpointedState
  last = moments.last g (log_bytes - LOG_FRONT_BYTES) o found es m k e new anchor stable seen is n pages least lost

  pub same_log : last.store.store.log ≡ new.store.store.log
  same_log = moments.same_log g (log_bytes - LOG_FRONT_BYTES) o found es m k e new anchor stable seen is n pages least lost

  as_of : AreAsOfOwnNumbers m.store.store.log pages
  as_of = subst (λ rs. AreAsOfOwnNumbers rs pages) (take-length m.store.store.log)
      (crash_stands m.store.store k.in_order.recoverable (length m.store.store.log) pages k.in_order.recoverable.durable (omega arith) left.shows.1)

  gives : GivesKept anchor last.store.store.durable last.store.store.log log_left
  gives = (
    n,
    least,
    (let most = left.gives.2 in omega (arith, most, ap length same_log)),
    subst (λ rs. GivesFrom anchor.tail anchor.tail_place (kept_behind anchor (take n rs)) log_left) (sym same_log) left.gives.3,
  )

  shows : ShowsLeft g (take GATE_AT volume_image) last.store.store volume_left
  shows =
      let grown = step_grows g m new e is.step in (
        pages,
        (moments.is_lost g (log_bytes - LOG_FRONT_BYTES) o found es m k e new anchor stable seen is n pages least lost).shows,
        subst (λ rs. LeavesStore rs g (take GATE_AT volume_image) pages volume_left) (sym (same_log ∙ grown.1))
            (leaves_longer m.store.store.log grown.0 pages as_of g (take GATE_AT volume_image) volume_left left.shows.2),
      )

  pub stand : StandBehind g log_bytes volume_bytes o found (es ++ moments.made g (log_bytes - LOG_FRONT_BYTES) o found es m k e new anchor stable seen is n pages least lost) last
      (moments.goes g (log_bytes - LOG_FRONT_BYTES) o found es m k e new anchor stable seen is n pages least lost) volume_image label anchor log_left volume_left
  stand =
      stand_behind g log_bytes volume_bytes o found (es ++ moments.made g (log_bytes - LOG_FRONT_BYTES) o found es m k e new anchor stable seen is n pages least lost) last
      (moments.goes g (log_bytes - LOG_FRONT_BYTES) o found es m k e new anchor stable seen is n pages least lost) volume_image label anchor
      (moments.may g (log_bytes - LOG_FRONT_BYTES) o found es m k e new anchor stable seen is n pages least lost) log_left volume_left left.has gives shows

  -- .. by moves of the manager, and the anchor that is left is one that it may leave then
  pub whole_pair : (run : List CheckpointedMove) × (end : CheckpointedState) × RunsOn g m e stable seen run end (entries_of_move m e new ++ entries_of_asks seen) × MayBeAnchored end.store (anchored_by anchor)
      × ((count : ℕ) × (left_pages : LoggedPages) × (stable ≤ count) × IsLost end.store.store count left_pages
      × StandsForBehind g log_bytes volume_bytes anchor (take count end.store.store.log) left_pages log_left volume_left)
  whole_pair = (
    moments.moves g (log_bytes - LOG_FRONT_BYTES) o found es m k e new anchor stable seen is n pages least lost,
    last,
    record {
      other = (moments.behind g (log_bytes - LOG_FRONT_BYTES) o found es m k e new anchor stable seen is n pages least lost).other;
      alike = moments.alike g (log_bytes - LOG_FRONT_BYTES) o found es m k e new anchor stable seen is n pages least lost;
      are = refl;
      lead = moments.leads g (log_bytes - LOG_FRONT_BYTES) o found es m k e new anchor stable seen is n pages least lost;
    },
    moments.may g (log_bytes - LOG_FRONT_BYTES) o found es m k e new anchor stable seen is n pages least lost,
    (stand.survive, stand.pages, stand.lost.least, stand.lost, stand.stands),
  )
