-- A manager under way with its checkpoints stays so with each event and each step of a checkpoint.
use Rattle.std.proofs.Common.{◌≡◌, inl, inr, ⊎_elim, ◌++◌, ◌+◌, ◌≤◌, ℕ, List, [], ◌∷◌, refl, sym, ap, subst, ◌∙◌, length, map, take, arith, append-nil, append_assoc}
use Rattle.std.proofs.Math.Seq.{take-length}
use Rattle.std.proofs.lemmas.List.{take-append-le}
use Rattle.shore_types.specs.declared.faults.Fault.{Fault}
use Rattle.shore_types.specs.declared.layout.Geometry.{Geometry}
use Rattle.shore_types.specs.declared.layout.TheConstants.{MAX_LOG_BYTES}
use Rattle.shore_model.specs.declared.calls.Answer.{Answer}
use Rattle.shore_model.specs.declared.calls.Answer.TheVariants.{Anchored, Begun, Ended, Moved}
use Rattle.shore_model.specs.declared.histories.Entry.{Entry}
use Rattle.shore_model.specs.declared.histories.Opening.{Opening}
use Rattle.shore_model.specs.declared.log_records.LogRecord.{LogRecord}
use Rattle.shore_model.specs.declared.log_records.Payload.TheVariants as payload
use Rattle.shore_model.specs.declared.step.Step.{Step}
use Rattle.shore_model.specs.declared.step.Step.TheVariants.{Done, Nothing, Refused, Waits}
use Rattle.shore_model.specs.Logs.{Lawful}
use Rattle.laws_lives.specs.ManagerSteps.{WorksTo}
use Rattle.laws_lives.specs.Recovery.{RecoveryEvent}
use Rattle.laws_calls.specs.Events.{HasFailed}
use Rattle.laws_calls.specs.StateChanges.{with_failure}
use Rattle.laws_calls.specs.States.{State, cost_of_log, next_number}
use Rattle.laws_checkpoints.proofs.Cuts.{point_at_begin}
use Rattle.laws_checkpoints.proofs.Lists.{length_take_le}
use Rattle.laws_checkpoints.proofs.Orders.{order_kept, orders_kept}
use Rattle.laws_checkpoints.proofs.StoreEvents.{anchored_durable}
use Rattle.laws_checkpoints.specs.Checkpoints as checkpoints
use Rattle.laws_checkpoints.specs.Checkpoints.{Checkpoint, cut_of, cut_point, end_payload, of_checkpoint}
use Rattle.laws_checkpoints.specs.CheckpointedStores.{AnchorLogged, CheckpointedStore, EndLogged, MoveAnchor, NoCheckpoint, StoreEvent}
use Rattle.laws_checkpoints.specs.RecoveryNumbers.{recovery_after}
use Rattle.laws_checkpoints.specs.RingRooms.{HasRingRoom}
use Rattle.laws_checkpoints.specs.StoresInOrder.{IsInOrder}
use Rattle.laws_runs.proofs.CheckpointLogging.{begun, cut_within, ended, named}
use Rattle.laws_runs.proofs.MovedAnchors.{cost_between, cost_of_more, streamed_under_way}
use Rattle.laws_runs.proofs.OwedRooms.{event_owing, owing}
use Rattle.laws_runs.proofs.PlainWorks.{GoesPlainly, event_plainly, none_more, works_are_work, works_lead}
use Rattle.laws_runs.proofs.UnderWay.{step_under_way}
use Rattle.laws_runs.specs.CheckpointSteps.{CheckpointAnswers, CheckpointMoves, CheckpointRefused, CheckpointedMove, CheckpointedMoves, CheckpointedState, CheckpointedSteps, Checkpoints, Goes, IsNextAnchor, StoreWorks, entries_of_move, freed_to, log_limit, moved_to, noted, owed_to, ring_room, stored_in, works_of}
use Rattle.laws_runs.specs.CheckpointedStates.{BeganBehind, IsAtCheckpoints, NamesNextInBounds}
use Rattle.laws_runs.specs.SoundStores.{IsUnderWay}
use Rattle.laws_runs.specs.StoredRuns.{Manage, StoredEvent, StoredSteps, Tend, entries_made}

-- ---- an event of the manager

-- work leaves the stage of a checkpoint and the anchor
record KeepsCheckpoint (s last : CheckpointedStore) : Type 0 where
  stage : last.stage ≡ s.stage
  anchored : last.anchored ≡ s.anchored

works_keep : (s : CheckpointedStore) (works : List RecoveryEvent) (last : CheckpointedStore) → StoreWorks s works last → KeepsCheckpoint s last
works_keep s [] last h = record { stage = ap (λ (x : CheckpointedStore). x.stage) h; anchored = ap (λ (x : CheckpointedStore). x.anchored) h }
works_keep s (e ∷ works) last h =
    let rest = works_keep (record s { store = h.0; recovery = recovery_after s.store e s.recovery }) works last h.2 in
    record { stage = rest.stage; anchored = rest.anchored }

-- nothing is cut off that is not durable
pub cut_durable : (s : CheckpointedStore) → IsInOrder s → cut_of s.anchored ≤ s.store.durable
cut_durable s order = ⊎_elim
    (λ none. let cut : cut_of s.anchored ≡ 0 = ap cut_of none in omega (arith, cut))
    (λ at.
    let h = at.1 in
    let begun = anchored_durable s.store.log order.lawful s.store.durable s.store.volume s.store.in_place s.anchored at.0 h in
    let short = length_take_le s.store.durable s.store.log in
    let point = point_at_begin at.0 in
    let tail = h.tail in
    omega (arith, begun, short, point, tail))
    order.anchor

module _ (g : Geometry) (ring_bytes : ℕ) (o : Opening) (found : List LogRecord) (es : List Entry) (m : CheckpointedState) (k : IsAtCheckpoints g ring_bytes o found es m) where
  module _ (new : CheckpointedState) where
    goes_plainly : (e : StoredEvent) → StoredSteps g (stored_in m) e (stored_in new) → GoesPlainly m.state.log new.state.log
    goes_plainly (Manage e works) h = event_plainly g o found es m.state new.state e k.under_way.state h.0
    goes_plainly (Tend works) h = none_more m.state.log new.state.log (ap (λ (x : State). x.log) h.0)

    goes_work : (e : StoredEvent) → StoredSteps g (stored_in m) e (stored_in new) → WorksTo m.store.store (works_of e) new.store.store
    goes_work (Manage e works) h = h.1
    goes_work (Tend works) h = h.1

    goes_owing : (e : StoredEvent) → StoredSteps g (stored_in m) e (stored_in new) → HasRingRoom (owing (owed_to m.store.stage) new.state)
    goes_owing (Manage e works) h = event_owing (owed_to m.store.stage) g o found es m.state k.under_way.state k.under_way.roomy k.room new.state e h.0
    goes_owing (Tend works) h = subst (λ s. HasRingRoom (owing (owed_to m.store.stage) s)) (sym h.0) k.room

    module _ (e : StoredEvent) (h : StoredSteps g (stored_in m) e (stored_in new)) (works : StoreWorks m.store (works_of e) new.store) where
      kept : KeepsCheckpoint m.store new.store
      kept = works_keep m.store (works_of e) new.store works

      on_its_way : IsUnderWay g m.state.stream_bytes o found (es ++ entries_made (stored_in m) e (stored_in new)) (stored_in new)
      on_its_way = step_under_way g m.state.stream_bytes o found es (stored_in m) e (stored_in new) k.under_way h

      plain : GoesPlainly m.store.store.log new.store.store.log
      plain =
          subst (λ rs. GoesPlainly rs new.store.store.log) (sym k.under_way.stored.log)
          (subst (GoesPlainly m.state.log) (sym on_its_way.stored.log) (goes_plainly e h))

      order : IsInOrder new.store
      order =
          orders_kept m.store (map StoreEvent (works_of e)) new.store k.in_order
          (works_lead m.store (works_of e) new.store (works_are_work m.store.store (works_of e) new.store.store (goes_work e h)) works
          (subst Lawful (sym on_its_way.stored.log) on_its_way.leaves.whole.lawful) plain)

      -- what is cut off stays so
      same_front : take (cut_of m.store.anchored) new.state.log ≡ take (cut_of m.store.anchored) m.state.log
      same_front =
          let on = goes_plainly e h in
          ap (take (cut_of m.store.anchored)) on.is ∙ take-append-le (cut_of m.store.anchored) m.state.log on.more (cut_within g ring_bytes o found es m k)

      pub goes_on : IsAtCheckpoints g ring_bytes o found (es ++ entries_made (stored_in m) e (stored_in new)) new
      goes_on =
          let long = on_its_way.leaves.as_long in
          record {
            under_way = subst (λ n. IsUnderWay g n o found (es ++ entries_made (stored_in m) e (stored_in new)) (stored_in new)) (sym long) on_its_way;
            in_order = order;
            room = subst (λ st. HasRingRoom (owing (owed_to st) new.state)) (sym kept.stage) (goes_owing e h);
            limit = long ∙ k.limit ∙ ap (λ rs. ring_bytes + cost_of_log rs) (sym same_front) ∙ ap (λ a. log_limit ring_bytes (cut_of a) new.state.log) (sym kept.anchored);
            short = k.short;
            next = subst NamesNextInBounds (sym kept.stage) k.next;
            later = subst (BeganBehind new.store.anchored.checkpoint) (sym kept.stage) (subst (λ (a : checkpoints.Anchored). BeganBehind a.checkpoint m.store.stage) (sym kept.anchored) k.later);
          }

  -- ---- the move of the anchor

  module _ (a : checkpoints.Anchored) (h : IsNextAnchor m.store a) where
    abbrev pub moved : CheckpointedState
    moved = moved_to m a

    its_anchor : record { checkpoint = h.0.begin; tail = a.tail } ≡ a
    its_anchor = ap (λ b. record { checkpoint = b; tail = a.tail }) (sym h.4)

    moved_order : IsInOrder moved.store
    moved_order =
        let forced = h.3 in
        let low = h.5 in
        let high = h.6 in
        order_kept m.store (MoveAnchor a.tail) moved.store k.in_order
        (h.0, h.1, h.2, omega (arith, forced), omega (arith, low), omega (arith, high), ap (λ x. record m.store { stage = NoCheckpoint; anchored = x }) (sym its_anchor))

    cut_forced : cut_of a ≤ m.state.durable
    cut_forced = let all = cut_durable moved.store moved_order in let told = k.under_way.stored.durable in omega (arith, all, told)

    its_limit : m.state.stream_bytes + freed_to m a.tail ≡ log_limit ring_bytes (cut_of a) m.state.log
    its_limit =
        let limit = k.limit in
        let tail = h.5 in
        let parts = cost_between m.state.log (cut_of m.store.anchored) (cut_of a) (omega (arith, tail)) in
        omega (arith, limit, parts)

    fits_each : (i : ℕ) → m.state.durable ≤ i → m.state.stream_bytes + freed_to m a.tail ≤ cost_of_log (take i m.state.log) + MAX_LOG_BYTES
    fits_each i least =
        let limit = its_limit in
        let short = k.short in
        let forced = cut_forced in
        let more = cost_of_more m.state.log (cut_of a) i (omega (arith, forced, least)) in
        omega (arith, limit, short, more)

    moved_room : HasRingRoom (ring_room moved)
    moved_room =
        let fits = k.room.fits in
        let numbers = k.room.numbers in
        let all = fits_each (length m.state.log) k.under_way.state.forced.most in
        let whole : cost_of_log (take (length m.state.log) m.state.log) ≡ cost_of_log m.state.log = ap cost_of_log (take-length m.state.log) in
        record { fits = omega (arith, fits); numbers = omega (arith, numbers); short = omega (arith, all, whole); most = omega arith }

    pub anchor_moved : IsAtCheckpoints g ring_bytes o found es moved
    anchor_moved = record {
      under_way = streamed_under_way g o found es (stored_in m) k.under_way (m.state.stream_bytes + freed_to m a.tail) (omega arith) fits_each;
      in_order = moved_order;
      room = moved_room;
      limit = its_limit;
      short = k.short;
      next = tt;
      later = tt;
    }

  -- ---- any step

  device_failed : (new : CheckpointedState) → new ≡ record m { state = with_failure m.state } → IsAtCheckpoints g ring_bytes o found es new
  device_failed new is =
      let failed : StoredSteps g (stored_in m) (Manage HasFailed []) (record { state = with_failure m.state; store = m.store.store }) =
      (refl, refl, record { log = k.under_way.stored.log; durable = k.under_way.stored.durable }) in
      let way = step_under_way g m.state.stream_bytes o found es (stored_in m) (Manage HasFailed []) (record { state = with_failure m.state; store = m.store.store }) k.under_way failed in
      subst (IsAtCheckpoints g ring_bytes o found es) (sym is) (record {
        under_way = subst (λ made. IsUnderWay g m.state.stream_bytes o found made (record { state = with_failure m.state; store = m.store.store })) (append-nil es) way;
        in_order = k.in_order;
        room = record { fits = k.room.fits; numbers = k.room.numbers; short = k.room.short; most = k.room.most };
        limit = k.limit;
        short = k.short;
        next = k.next;
        later = k.later;
      })

  same : (new : CheckpointedState) → new ≡ m → IsAtCheckpoints g ring_bytes o found es new
  same new is = subst (IsAtCheckpoints g ring_bytes o found es) (sym is) k

  answered : (answer : Answer) (new : CheckpointedState) → CheckpointAnswers m answer new → IsAtCheckpoints g ring_bytes o found es new
  answered (Begun n) new h = subst (IsAtCheckpoints g ring_bytes o found es) (sym h.6) (begun g ring_bytes o found es m k h.0 h.1 h.2 h.3 h.4)
  answered (Ended n) new h =
      subst (IsAtCheckpoints g ring_bytes o found es) (sym (h.3 ∙ ap (λ i. noted m (of_checkpoint (end_payload h.0)) (EndLogged h.0 i)) h.2)) (ended g ring_bytes o found es m k h.0 h.1)
  answered (Anchored checkpoint tail) new h =
      let forced = h.3 in
      subst (IsAtCheckpoints g ring_bytes o found es)
      (sym (h.6 ∙ ap (λ b. noted m (of_checkpoint (payload.Anchor b tail)) (AnchorLogged h.0 (next_number m.state))) h.4
      ∙ ap (λ t. noted m (of_checkpoint (payload.Anchor h.0.begin t)) (AnchorLogged h.0 (next_number m.state))) h.5))
      (named g ring_bytes o found es m k h.0 h.1 h.2 (omega (arith, forced)))
  answered Moved new h = subst (IsAtCheckpoints g ring_bytes o found es) (sym h.2) (anchor_moved h.0 h.1)
  answered _ new h = absurd h

  refused : (f : Fault) (new : CheckpointedState) → CheckpointRefused m f new → IsAtCheckpoints g ring_bytes o found es new
  refused f new (inl short) = same new short.2
  refused f new (inr (inl full)) = same new full.3
  refused f new (inr (inr device)) = device_failed new device.2

  pub checkpoint_goes : (step : Step) (new : CheckpointedState) → CheckpointMoves m step new → IsAtCheckpoints g ring_bytes o found es new
  checkpoint_goes (Done answer) new h = answered answer new h.1
  checkpoint_goes Nothing new h = same new h.2
  checkpoint_goes (Refused f) new (inl failed) = same new failed.2
  checkpoint_goes (Refused f) new (inr here) = refused f new here.1
  checkpoint_goes (Waits wait) new h = absurd h

  pub step_goes : (e : CheckpointedMove) (new : CheckpointedState) → CheckpointedSteps g m e new → IsAtCheckpoints g ring_bytes o found (es ++ entries_of_move m e new) new
  step_goes (Goes e) new h = goes_on new e h.0 h.1
  step_goes (Checkpoints step) new h = subst (λ made. IsAtCheckpoints g ring_bytes o found made new) (sym (append-nil es)) (checkpoint_goes step new h)

pub moves_go : (g : Geometry) (ring_bytes : ℕ) (o : Opening) (found : List LogRecord) (es : List Entry) (m : CheckpointedState) → IsAtCheckpoints g ring_bytes o found es m
    → (events : List CheckpointedMove) (last : CheckpointedState) (made : List Entry) → CheckpointedMoves g m events last made → IsAtCheckpoints g ring_bytes o found (es ++ made) last
moves_go g ring_bytes o found es m k [] last made h =
    subst (λ made. IsAtCheckpoints g ring_bytes o found made last) (sym (append-nil es) ∙ ap (λ made. es ++ made) (sym h.1))
    (subst (IsAtCheckpoints g ring_bytes o found es) (sym h.0) k)
moves_go g ring_bytes o found es m k (e ∷ events) last made h =
    subst (λ made. IsAtCheckpoints g ring_bytes o found made last) (append_assoc es (entries_of_move m e h.0) h.1 ∙ ap (λ made. es ++ made) (sym h.4))
    (moves_go g ring_bytes o found (es ++ entries_of_move m e h.0) h.0 (step_goes g ring_bytes o found es m k e h.0 h.2) events last h.1 h.3)
