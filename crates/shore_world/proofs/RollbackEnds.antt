-- A rollback of a world that is a manager ends as one that was not interrupted.
use Rattle.std.proofs.Common.{◌≡◌, ◌≢◌, ◌⊎◌, ⊎_elim, inl, inr, ℕ, List, ◌++◌, ◌<◌, ◌≤◌, ◌+◌, [], length, take, refl, sym, ap, subst, ◌∙◌, arith}
use Rattle.std.proofs.lemmas.List.{length-take-le}
use Rattle.shore_types.specs.Images.{Image}
use Rattle.shore_types.specs.declared.faults.Device.{Device}
use Rattle.shore_types.specs.declared.faults.Fault.{Fault}
use Rattle.shore_types.specs.declared.faults.Fault.TheVariants as fault
use Rattle.shore_types.specs.declared.ids.Rid.{Rid}
use Rattle.shore_disk.specs.declared.device.Disk.{Ghosts}
use Rattle.shore_model.specs.Calls.{IsServed}
use Rattle.shore_model.specs.declared.calls.Answer.{Answer}
use Rattle.shore_model.specs.declared.calls.Answer.TheVariants.{WentBack}
use Rattle.shore_model.specs.declared.calls.Call.{Call}
use Rattle.shore_model.specs.declared.calls.Call.TheVariants as call
use Rattle.shore_model.specs.declared.calls.Outcome.{Outcome}
use Rattle.shore_model.specs.declared.calls.Outcome.TheVariants as outcome
use Rattle.shore_model.specs.declared.histories.Entry.{Entry}
use Rattle.shore_model.specs.declared.histories.Opening.{Opening}
use Rattle.shore_model.specs.declared.rollbacks.Rollback.{Rollback}
use Rattle.shore_model.specs.declared.rollbacks.Rollback.TheVariants.{To, Whole}
use Rattle.shore_model.specs.declared.step.Step.TheVariants.{Done, Refused}
use Rattle.laws_lives.specs.Sessions.{ResolvedTxn, SessionTxn}
use Rattle.laws_lives.specs.UndoLists.{least_kept, undo_rolled}
use Rattle.laws_lives.specs.Views.{IsAmong}
use Rattle.laws_calls.proofs.AlikeEnds.{abort_alike, back_alike, resolve_alike}
use Rattle.laws_calls.proofs.SessionInversions.{aborted_in, went_back_in}
use Rattle.laws_calls.proofs.Sessions.{above_none, one_member, one_txn}
use Rattle.laws_calls.proofs.Unwinding.{its_list}
use Rattle.laws_calls.specs.CallSteps.{aborted}
use Rattle.laws_calls.specs.Resolves.{DecidesRollback, IsRollingBack, rollback_decided, rollback_done}
use Rattle.laws_calls.specs.Rollbacks.{Interrupts, IsInterrupted, IsUnwound, put_back, rolled}
use Rattle.laws_calls.specs.StateChanges.{after_refusal, answered}
use Rattle.laws_calls.specs.States.{IsOfSession, State}
use Rattle.shore_world.specs.declared.event.Event.TheVariants as event
use Rattle.shore_world.specs.declared.world.World.{World}
use Rattle.shore_world.specs.Promises.{GoesOnAs, IsManagerOf}
use Rattle.shore_world.specs.Worlds.{Steps, geometry_in}
use Rattle.shore_world.proofs.PromiseLemmas.{stepped}
use Rattle.shore_world.proofs.RollbackLemmas.{refused_resolve, refused_rollback, rollback_at_once}

-- no device has failed, and no page was damaged
abbrev pub RunsOn : Fault → Type 0
RunsOn f = (f ≢ fault.Device) × ((device : Device) (offset : ℕ) → f ≢ fault.Damaged device offset)

still : (f : Fault) (s : State) → RunsOn f → after_refusal f s ≡ s
still fault.Device s runs = absurd (runs.0 refl)
still (fault.Damaged device offset) s runs = absurd (runs.1 device offset refl)
still _ s runs = refl

-- a rollback may be put off in the midst: what it comes to from there on it would have come to before
goes_on : (s later : State) (session : ℕ) (a : SessionTxn) (r : Rollback) (Holds : SessionTxn → Type 0) (left : State → SessionTxn → State) → IsOfSession s session a → Holds a
    → ((kept : List (Rid × Image)) → Holds (rolled a kept r))
    → ((kept undone : List (Rid × Image)) → undone ≢ [] → a.undo.images ≡ kept ++ undone → least_kept a.undo r ≤ length kept → left (put_back s a kept undone r) (rolled a kept r) ≡ left s a)
    → IsUnwound s a r later → (b : SessionTxn) × IsOfSession later session b × Holds b × (left later b ≡ left s a)
goes_on s later session a r Holds left its holds stays alike (inl same) = (a, subst (λ (x : State). IsOfSession x session a) (sym same) its, holds, ap (λ (x : State). left x a) same)
goes_on s later session a r Holds left its holds stays alike (inr h) =
    let b = rolled a h.0 r in (
      b,
      subst (λ (x : State). IsOfSession x session b) (sym h.5) ((its_list a (undo_rolled a.undo h.0 r) s.sessions.active its.0.0, its.0.1, its.0.2), its.1),
      stays h.0,
      ap (λ (x : State). left x b) h.5 ∙ alike h.0 h.1 h.2 h.3 h.4,
    )

-- what a resolve has decided to roll back is rolled back from then on
decided_rolls : (s : State) (global : List ℕ) (b : SessionTxn) (decided : State) → DecidesRollback s global b decided → IsRollingBack decided b global
decided_rolls s global b decided (inl h) =
    let a = h.0 in
    subst (λ (x : SessionTxn × State). IsRollingBack x.1 x.0 global) (λ i. (sym h.2 i, sym h.3 i)) (its_list a (undo_rolled a.undo a.undo.images Whole) s.sessions.active h.1.0, inl refl)
decided_rolls s global b decided (inr h) = subst (λ (x : State). IsRollingBack x b global) (sym h.1) h.0

module _ {L V : Type 0} {G : Ghosts L} {H : Ghosts V} (w : World L V G H) (o : Opening) (es : List Entry) (ws : List (ℕ × Call)) (k : IsManagerOf w o es ws) (new : World L V G H) (session : ℕ) where
  abbrev s : State
  s = k.now.state

  -- a session is in one transaction
  one_of : (a b : SessionTxn) → IsOfSession s session a → IsOfSession s session b → a ≡ b
  one_of a b x y = one_member k.under_way.under_way.state.sessions a b x.0.0 y.0.0 (one_txn s.sessions a b x.0.1 y.0.1 (x.1 ∙ sym y.1))

  module _ (a : SessionTxn) (its : IsOfSession s session a) where
    module _ (f : Fault) (runs : RunsOn f) where
      -- it was not begun, or what was put back stays
      unwound : (r : Rollback) (later : State) → (later ≡ s)
          ⊎ ((b : SessionTxn) × IsOfSession s session b × ((mid : State) × IsUnwound s b r mid × Interrupts mid f × (later ≡ after_refusal f mid))) → IsUnwound s a r later
      unwound r later (inl same) = inl same
      unwound r later (inr h) =
          subst (λ (x : SessionTxn × State). IsUnwound s x.0 r x.1) (λ i. (one_of h.0 a h.1 its i, sym (h.2.3 ∙ still f h.2.0 runs) i)) h.2.1

      pub abort_goes_on : Steps w (event.Call session call.Abort) (Refused f) new → (on : GoesOnAs new o es ws (event.Call session call.Abort) (Refused f))
          × ((b : SessionTxn) × IsOfSession on.manager.now.state session b × (aborted on.manager.now.state b ≡ aborted s a))
      abort_goes_on one =
          let went = refused_rollback w o es ws k new session f call.Abort Whole tt tt refl one in
          let later = went.0.manager.now.state in
          let on = k.under_way.under_way.state.sessions in
          let t =
          goes_on s later session a Whole (λ x. Unit {0}) aborted its tt (λ kept. tt) (λ kept undone some is least. abort_alike s a kept undone is (above_none on a its.0.0) (on.log.undo_logged a its.0.0) some)
          (unwound Whole later went.1) in
          (went.0, (t.0, t.1, t.3))

      pub back_goes_on : (n : ℕ) → n < length a.undo.marks → Steps w (event.Call session (call.BackTo n)) (Refused f) new → (on : GoesOnAs new o es ws (event.Call session (call.BackTo n)) (Refused f))
          × ((b : SessionTxn) × IsOfSession on.manager.now.state session b × (n < length b.undo.marks)
          × (answered on.manager.now.state b (call.BackTo n) WentBack on.manager.now.state.counts ≡ answered s a (call.BackTo n) WentBack s.counts))
      back_goes_on n less one =
          let went = refused_rollback w o es ws k new session f (call.BackTo n) (To n) tt tt refl one in
          let later = went.0.manager.now.state in
          let many : length (take (n + 1) a.undo.marks) ≡ n + 1 = length-take-le (n + 1) a.undo.marks (omega (arith, less)) in
          let t =
          goes_on s later session a (To n) (λ b. n < length b.undo.marks) (λ x b. answered x b (call.BackTo n) WentBack x.counts) its less (λ kept. omega (arith, many))
          (λ kept undone some is least. back_alike s a kept undone is n less least) (unwound (To n) later went.1) in
          (went.0, (t.0, t.1, t.2, t.3))

    pub abort_ends : (answer : Answer) → Steps w (event.Call session call.Abort) (Done answer) new
        → (on : GoesOnAs new o es ws (event.Call session call.Abort) (Done answer)) × (on.manager.now.state ≡ aborted s a)
    abort_ends answer one =
        let went = stepped w o es ws k (event.Call session call.Abort) (Done answer) new tt one in
        let later = went.on.manager.now.state in
        let t = aborted_in (geometry_in w) s later session answer (rollback_at_once (geometry_in w) s later session (Done answer) call.Abort Whole refl went.moves) in
        (went.on, t.2.1 ∙ ap (aborted s) (one_of t.0 a t.1 its))

    pub back_ends : (n : ℕ) (answer : Answer) → Steps w (event.Call session (call.BackTo n)) (Done answer) new
        → (on : GoesOnAs new o es ws (event.Call session (call.BackTo n)) (Done answer)) × (n < length a.undo.marks) × (answer ≡ WentBack)
        × (on.manager.now.state ≡ answered s a (call.BackTo n) WentBack s.counts)
    back_ends n answer one =
        let went = stepped w o es ws k (event.Call session (call.BackTo n)) (Done answer) new tt one in
        let later = went.on.manager.now.state in
        let t = went_back_in (geometry_in w) s later session n answer (rollback_at_once (geometry_in w) s later session (Done answer) (call.BackTo n) (To n) refl went.moves) in
        let same : t.0 ≡ a = one_of t.0 a t.1 its in (
          went.on,
          subst (λ (x : SessionTxn). n < length x.undo.marks) same t.3.0,
          t.3.1,
          t.3.2 ∙ (λ i. answered s (same i) (call.BackTo n) (t.3.1 i) s.counts),
        )

  pub resolve_goes_on : (f : Fault) (runs : RunsOn f) (global : List ℕ) (asked : Outcome) → IsServed (call.Resolve global asked) → Steps w (event.Call session (call.Resolve global asked)) (Refused f) new
      → (on : GoesOnAs new o es ws (event.Call session (call.Resolve global asked)) (Refused f)) × ((on.manager.now.state ≡ s)
      ⊎ ((b : SessionTxn) × (decided : State) × DecidesRollback s global b decided
      × ((later : SessionTxn) × IsRollingBack on.manager.now.state later global × (rollback_done on.manager.now.state later ≡ rollback_done decided b))))
  resolve_goes_on f runs global asked served one =
      let went = refused_resolve w o es ws k new session f global asked served one in (
        went.0,
        ⊎_elim (λ same. inl same) (λ h. inr (
          h.0,
          h.1,
          h.2,
          rolls_on h.1 went.0.manager.now.state h.0 (decided_rolls s global h.0 h.1 h.2)
              (subst (IsUnwound h.1 h.0 Whole) (sym (h.3.3 ∙ still f h.3.0 runs)) h.3.1),
        )) went.1,
      )
    where
      rolls_on : (decided later : State) (b : SessionTxn) → IsRollingBack decided b global → IsUnwound decided b Whole later
          → (c : SessionTxn) × IsRollingBack later c global × (rollback_done later c ≡ rollback_done decided b)
      rolls_on decided later b rolls (inl same) = (b, subst (λ (x : State). IsRollingBack x b global) (sym same) rolls, ap (λ (x : State). rollback_done x b) same)
      rolls_on decided later b rolls (inr h) =
          let c = rolled b h.0 Whole in (
            c,
            subst (λ (x : State). IsRollingBack x c global) (sym h.5) (its_list b (undo_rolled b.undo h.0 Whole) decided.sessions.active rolls.0, rolls.1),
            ap (λ (x : State). rollback_done x c) h.5 ∙ resolve_alike decided b h.0 h.1 h.3,
          )
