-- The log that a restart has found is a prefix of what every later one finds, checkpoints or not.
use Rattle.std.proofs.Common.{◌≡◌, inl, inr, ◌++◌, ℕ, List, [], ◌∷◌, refl, sym, ap, subst, arith}
use Rattle.std.specs.List.{AllByRecursion}
use Rattle.shore_types.specs.declared.faults.Fault.{Fault}
use Rattle.shore_types.specs.declared.layout.Geometry.{Geometry}
use Rattle.shore_model.specs.declared.calls.Answer.{Answer}
use Rattle.shore_model.specs.declared.calls.Answer.TheVariants.{Anchored, Begun, Ended, Moved}
use Rattle.shore_model.specs.declared.histories.Entry.{Entry}
use Rattle.shore_model.specs.declared.histories.Opening.{Opening}
use Rattle.shore_model.specs.declared.log_records.LogRecord.{LogRecord}
use Rattle.shore_model.specs.declared.log_records.Payload.TheVariants as payload
use Rattle.shore_model.specs.declared.step.Step.{Step}
use Rattle.shore_model.specs.declared.step.Step.TheVariants.{Done, Nothing, Refused, Waits}
use Rattle.shore_model.specs.Lives.{next_opening}
use Rattle.laws_lives.specs.Doubts.{IsOpeningOf}
use Rattle.laws_lives.specs.Pages.{LoggedPages}
use Rattle.laws_calls.proofs.Prefixes.{prefix_left, prefix_on, whole_prefix}
use Rattle.laws_calls.specs.CallHistories.{IsPrefix}
use Rattle.laws_calls.specs.StateChanges.{with_failure}
use Rattle.laws_checkpoints.specs.Checkpoints as checkpoints
use Rattle.laws_checkpoints.specs.Checkpoints.{end_payload, of_checkpoint}
use Rattle.laws_runs.proofs.CheckpointedRuns.{last_goes, up_leaves}
use Rattle.laws_runs.proofs.CheckpointedStays.{cut_grows, cut_leaves, cut_opens, up_opens}
use Rattle.laws_runs.proofs.OpenedBehind.{grown}
use Rattle.laws_runs.proofs.SplitWorks.{works_on}
use Rattle.laws_runs.specs.CheckpointSteps.{CheckpointAnswers, CheckpointMoves, CheckpointRefused, CheckpointedMove, CheckpointedMoves, CheckpointedState, CheckpointedSteps, Checkpoints, Goes, moved_to, stored_in}
use Rattle.laws_runs.specs.CheckpointedStates.{MayBeOpenedBehind}
use Rattle.laws_runs.specs.CheckpointedStays.{AreCheckpointedStays, CheckpointedRun, CheckpointedStay, CutOff, IsCheckpointedUp, WasUp, left_by_cut, left_by_up, logs_found, span_of_up}
use Rattle.laws_runs.specs.StoredRuns.{AreFixed, Manage, StoredEvent, StoredSteps, Tend}

-- ---- the log grows

abbrev GrowsTo : CheckpointedState → CheckpointedState → Type 0
GrowsTo m new = IsPrefix m.store.store.log new.store.store.log

module _ (m : CheckpointedState) where
  as_it_was : (new left : CheckpointedState) → new ≡ left → left.store.store.log ≡ m.store.store.log → GrowsTo m new
  as_it_was new left is same =
      subst (IsPrefix m.store.store.log) (sym (ap (λ (x : CheckpointedState). x.store.store.log) is)) (subst (IsPrefix m.store.store.log) (sym same) (whole_prefix m.store.store.log))

  with_one : (new : CheckpointedState) (r : LogRecord) → new.store.store.log ≡ m.store.store.log ++ r ∷ [] → GrowsTo m new
  with_one new r is = (r ∷ [], is)

  answer_grows : (answer : Answer) (new : CheckpointedState) → CheckpointAnswers m answer new → GrowsTo m new
  answer_grows (Begun n) new h = with_one new (of_checkpoint payload.CheckpointBegin) (ap (λ (x : CheckpointedState). x.store.store.log) h.6)
  answer_grows (Ended n) new h = with_one new (of_checkpoint (end_payload h.0)) (ap (λ (x : CheckpointedState). x.store.store.log) h.3)
  answer_grows (Anchored checkpoint tail) new h = with_one new (of_checkpoint (payload.Anchor checkpoint tail)) (ap (λ (x : CheckpointedState). x.store.store.log) h.6)
  answer_grows Moved new h = as_it_was new (moved_to m h.0) h.2 refl
  answer_grows _ new h = absurd h

  refusal_grows : (f : Fault) (new : CheckpointedState) → CheckpointRefused m f new → GrowsTo m new
  refusal_grows f new (inl short) = as_it_was new m short.2 refl
  refusal_grows f new (inr (inl full)) = as_it_was new m full.3 refl
  refusal_grows f new (inr (inr device)) = as_it_was new (record m { state = with_failure m.state }) device.2 refl

  step_grows : (step : Step) (new : CheckpointedState) → CheckpointMoves m step new → GrowsTo m new
  step_grows (Done answer) new h = answer_grows answer new h.1
  step_grows Nothing new h = as_it_was new m h.2 refl
  step_grows (Refused f) new (inl failed) = as_it_was new m failed.2 refl
  step_grows (Refused f) new (inr here) = refusal_grows f new here.1
  step_grows (Waits wait) new h = absurd h

  goes_grow : (g : Geometry) (new : CheckpointedState) (e : StoredEvent) → StoredSteps g (stored_in m) e (stored_in new) → GrowsTo m new
  goes_grow g new (Manage e works) h = (works_on m.store.store works new.store.store h.1).on
  goes_grow g new (Tend works) h = (works_on m.store.store works new.store.store h.1).on

  move_grows : (g : Geometry) (e : CheckpointedMove) (new : CheckpointedState) → CheckpointedSteps g m e new → GrowsTo m new
  move_grows g (Goes e) new h = goes_grow g new e h.0
  move_grows g (Checkpoints step) new h = step_grows step new h

moves_grow : (g : Geometry) (m : CheckpointedState) (events : List CheckpointedMove) (last : CheckpointedState) (made : List Entry) → CheckpointedMoves g m events last made → GrowsTo m last
moves_grow g m [] last made h = as_it_was m last m h.0 refl
moves_grow g m (e ∷ events) last made h =
    prefix_on m.store.store.log h.0.store.store.log last.store.store.log (move_grows m g e h.0 h.2) (moves_grow g h.0 events last h.1 h.3)

module _ (g : Geometry) (ring_bytes : ℕ) (o : Opening) (a : checkpoints.Anchored) (rs : List LogRecord) (pages : LoggedPages) (may : MayBeOpenedBehind g ring_bytes a rs pages)
    (opening : IsOpeningOf rs o) (r : CheckpointedRun) (h : IsCheckpointedUp g ring_bytes o a rs pages r) where
  up_grows : IsPrefix rs (left_by_up r)
  up_grows =
      let way = (last_goes g ring_bytes o a rs pages may opening r h).under_way in
      let found = way.state.forced.least in
      let told = way.stored.durable in
      let least = h.lost.least in
      prefix_left r.survive rs r.last.store.store.log
      (prefix_on rs r.ready.store.log r.last.store.store.log (grown g ring_bytes a rs pages may r.restart r.ready h.restarts)
      (moves_grow g (record { state = r.first; store = r.ready }) r.events r.last r.made h.moves))
      (omega (arith, found, told, least))

-- ---- any number of stays

module _ (g : Geometry) (ring_bytes : ℕ) where
  is_prefix : (q : List LogRecord) (o : Opening) (a : checkpoints.Anchored) (rs : List LogRecord) (pages : LoggedPages) → MayBeOpenedBehind g ring_bytes a rs pages → IsOpeningOf rs o
      → IsPrefix q rs → (stays : List CheckpointedStay) (b : checkpoints.Anchored) (last : List LogRecord) (last_pages : LoggedPages)
      → AreCheckpointedStays g ring_bytes o a rs pages stays b last last_pages → AllByRecursion (IsPrefix q) (logs_found rs stays) × IsPrefix q last
  is_prefix q o a rs pages may opening on [] b last last_pages h = (tt, subst (IsPrefix q) (sym h.1) on)
  is_prefix q o a rs pages may opening on (CutOff c ∷ stays) b last last_pages h =
      let rest =
      is_prefix q o a (left_by_cut c) c.pages (cut_leaves g ring_bytes a rs pages may c h.0) (cut_opens g ring_bytes a rs pages may c h.0 o opening)
      (prefix_on q rs (left_by_cut c) on (cut_grows g ring_bytes a rs pages may c h.0)) stays b last last_pages h.1 in
      ((on, rest.0), rest.1)
  is_prefix q o a rs pages may opening on (WasUp r ∷ stays) b last last_pages h =
      let rest =
      is_prefix q (next_opening o (span_of_up rs r)) r.anchor (left_by_up r) r.pages (up_leaves g ring_bytes o a rs pages may opening r h.0)
      (up_opens g ring_bytes o a rs pages may opening r h.0) (prefix_on q rs (left_by_up r) on (up_grows g ring_bytes o a rs pages may opening r h.0)) stays b last last_pages h.1 in
      ((on, rest.0), rest.1)

  pub stays_fixed : (o : Opening) (a : checkpoints.Anchored) (rs : List LogRecord) (pages : LoggedPages) → MayBeOpenedBehind g ring_bytes a rs pages → IsOpeningOf rs o
      → (stays : List CheckpointedStay) (b : checkpoints.Anchored) (last : List LogRecord) (last_pages : LoggedPages)
      → AreCheckpointedStays g ring_bytes o a rs pages stays b last last_pages → AreFixed (logs_found rs stays) last
  stays_fixed o a rs pages may opening [] b last last_pages h = tt
  stays_fixed o a rs pages may opening (CutOff c ∷ stays) b last last_pages h =
      let left = cut_leaves g ring_bytes a rs pages may c h.0 in
      let opens = cut_opens g ring_bytes a rs pages may c h.0 o opening in
      let later = is_prefix rs o a (left_by_cut c) c.pages left opens (cut_grows g ring_bytes a rs pages may c h.0) stays b last last_pages h.1 in
      (later.0, later.1, stays_fixed o a (left_by_cut c) c.pages left opens stays b last last_pages h.1)
  stays_fixed o a rs pages may opening (WasUp r ∷ stays) b last last_pages h =
      let left = up_leaves g ring_bytes o a rs pages may opening r h.0 in
      let opens = up_opens g ring_bytes o a rs pages may opening r h.0 in
      let next = next_opening o (span_of_up rs r) in
      let later = is_prefix rs next r.anchor (left_by_up r) r.pages left opens (up_grows g ring_bytes o a rs pages may opening r h.0) stays b last last_pages h.1 in
      (later.0, later.1, stays_fixed next r.anchor (left_by_up r) r.pages left opens stays b last last_pages h.1)
