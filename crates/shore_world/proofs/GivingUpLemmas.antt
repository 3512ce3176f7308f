-- A wait that is taken back, of the world.
use Rattle.std.proofs.Common.{◌≡◌, ◌⊎◌, ◌++◌, inl, inr, ℕ, List, [], true, false, Some, IsTrue, sym, ap, subst, ◌∙◌}
use Rattle.std.specs.Prelude.{◌↔◌}
use Rattle.std.proofs.lemmas.Bool.{cases_Bool}
use Rattle.shore_disk.specs.declared.device.Disk.{Ghosts}
use Rattle.shore_types.specs.declared.faults.Fault.{Fault}
use Rattle.shore_types.specs.declared.faults.Fault.TheVariants as fault
use Rattle.shore_types.specs.declared.locking.Granule.{Granule}
use Rattle.shore_model.specs.declared.calls.Call.{Call}
use Rattle.shore_model.specs.declared.histories.Entry.{Entry}
use Rattle.shore_model.specs.declared.histories.Opening.{Opening}
use Rattle.shore_model.specs.declared.requests.Request.{Request}
use Rattle.shore_model.specs.declared.step.Step.{Step}
use Rattle.shore_model.specs.declared.step.Step.TheVariants.{Nothing, Refused}
use Rattle.shore_model.specs.Requests.{WaitsFor, placed_last}
use Rattle.shore_locks.specs.Grants.{cancelled}
use Rattle.shore_locks.specs.Tables.{is_waiting, waiting_request}
use Rattle.laws_lives.specs.Sessions.{SessionTxn}
use Rattle.laws_calls.proofs.GivingUp.{given_up_alone, given_up_idle, given_up_keeps_txn, given_up_names, given_up_quiet, nothing_waits}
use Rattle.laws_calls.proofs.SessionInversions.{same_fault}
use Rattle.laws_calls.specs.GivingUp.{GivesUp, GiveUpStep}
use Rattle.laws_calls.specs.Midway.{HasItsWait, but_doomed}
use Rattle.laws_calls.specs.States.{DoesNotWait, IsOfSession, State}
use Rattle.shore_world.specs.declared.event.Event.TheVariants as event
use Rattle.shore_world.specs.declared.world.World.{World}
use Rattle.shore_world.specs.Exchanges.{waited_behind}
use Rattle.shore_world.specs.Promises.{GoesOnAs, IsManagerOf}
use Rattle.shore_world.specs.Worlds.{Steps, failed_in, requests_in}
use Rattle.shore_world.proofs.PromiseLemmas.{after, seen, stepped}

-- if it is refused, a wait was taken back
refused_gives : (s : State) (session : ℕ) (f : Fault) (new : State) → GiveUpStep s session (Refused f) new → GivesUp s session (Refused f) new
refused_gives s session f new (inl h) = h
refused_gives s session f new (inr h) = let clash : Refused f ≡ Nothing = h.told in absurd cc

module _ {L V : Type 0} {G : Ghosts L} {H : Ghosts V} (w : World L V G H) (o : Opening) (es : List Entry) (ws : List (ℕ × Call)) (k : IsManagerOf w o es ws) (session : ℕ) where
  abbrev s : State
  s = k.now.state

  module _ (f : Fault) (new : World L V G H) (one : Steps w (event.GiveUp session) (Refused f) new) where
    pub given_up_earned : (a : SessionTxn) × IsOfSession s session a
        × ((r : Request) × (waiting_request a.txn (requests_in w) ≡ Some r) × ((holder : ℕ) × (f ≡ fault.WouldBlock holder) × WaitsFor (placed_last r (requests_in w)) a.txn holder))
    given_up_earned =
        let went = stepped w o es ws k (event.GiveUp session) (Refused f) new tt one in
        let later = went.on.manager.now.state in
        let h = refused_gives s session f later went.moves in
        let table = (seen w o es ws k).requests in (
          h.txn,
          h.its,
          (
            h.request,
            subst (λ (rs : List Request). waiting_request h.txn.txn rs ≡ Some h.request) table h.asks,
            (
              h.holder,
              same_fault f (fault.WouldBlock h.holder) h.told,
              subst (λ (rs : List Request). WaitsFor (placed_last h.request rs) h.txn.txn h.holder) table (given_up_names s later session (Refused f) h),
            ),
          ),
        )

    pub given_up_leaves : (on : GoesOnAs new o es ws (event.GiveUp session) (Refused f)) × (on.manager.now.state ≡ but_doomed s [] on.manager.now.state)
    given_up_leaves =
        let went = stepped w o es ws k (event.GiveUp session) (Refused f) new tt one in
        (went.on, given_up_alone s went.on.manager.now.state session (Refused f) went.moves)

    pub given_up_waits : ((at : Granule) × HasItsWait s session at) × ((on : GoesOnAs new o es ws (event.GiveUp session) (Refused f)) × DoesNotWait on.manager.now.state session
        × ((a : SessionTxn) × IsOfSession on.manager.now.state session a × (is_waiting a.txn (requests_in new) ≡ false)))
    given_up_waits =
        let went = stepped w o es ws k (event.GiveUp session) (Refused f) new tt one in
        let later = went.on.manager.now.state in
        let h = refused_gives s session f later went.moves in
        let its = k.there session h.waited h.there h.of h.at h.waits h.txn h.its h.request h.asks in
        let table = (seen new o (es ++ went.on.made) (waited_behind ws (event.GiveUp session) (Refused f)) went.on.manager).requests in (
          (h.at, record { txn = h.txn; of = h.its; request = h.request; waits = h.asks; there = its.there }),
          (
            went.on,
            given_up_idle s later session (Refused f) h,
            (
              h.txn,
              given_up_keeps_txn s later session (Refused f) h,
              subst (λ (rs : List Request). is_waiting h.txn.txn rs ≡ false) table (given_up_quiet o k.found es s (after w o es ws k) session (Refused f) later h),
            ),
          ),
        )

  module _ (step : Step) (new : World L V G H) (one : Steps w (event.GiveUp session) step new) where
    pub given_up_runs_on : failed_in new ≡ failed_in w
    given_up_runs_on =
        let went = stepped w o es ws k (event.GiveUp session) step new tt one in
        let later = seen new o (es ++ went.on.made) (waited_behind ws (event.GiveUp session) step) went.on.manager in
        sym later.failed ∙ by went.on.manager.now.state went.moves ∙ (seen w o es ws k).failed
      where
        by : (later : State) → GiveUpStep s session step later → later.failed ≡ s.failed
        by later (inl h) = ap (λ (x : State). x.failed) h.is
        by later (inr h) = ap (λ (x : State). x.failed) h.is

    pub given_up_locks : ((step ≡ Nothing) × (requests_in new ≡ requests_in w)) ⊎ ((f : Fault) × (step ≡ Refused f) × ((a : SessionTxn) × IsOfSession s session a × (requests_in new ≡ cancelled a.txn (requests_in w))))
    given_up_locks =
        let went = stepped w o es ws k (event.GiveUp session) step new tt one in
        let later = seen new o (es ++ went.on.made) (waited_behind ws (event.GiveUp session) step) went.on.manager in
        by went.on.manager.now.state went.moves later.requests
      where
        by : (later : State) → GiveUpStep s session step later → later.locks.requests ≡ requests_in new
            → ((step ≡ Nothing) × (requests_in new ≡ requests_in w)) ⊎ ((f : Fault) × (step ≡ Refused f) × ((a : SessionTxn) × IsOfSession s session a × (requests_in new ≡ cancelled a.txn (requests_in w))))
        by later (inl h) table =
            inr (fault.WouldBlock h.holder, h.told, (h.txn, h.its, sym table ∙ ap (λ (x : State). x.locks.requests) h.is ∙ ap (cancelled h.txn.txn) (seen w o es ws k).requests))
        by later (inr h) table = inl (h.told, sym table ∙ ap (λ (x : State). x.locks.requests) h.is ∙ (seen w o es ws k).requests)

    -- nothing just where nothing waits
    pub given_up_nothing : (step ≡ Nothing) ↔ (IsTrue (failed_in w) ⊎ ((a : SessionTxn) → IsOfSession s session a → is_waiting a.txn (requests_in w) ≡ false))
    given_up_nothing =
        let went = stepped w o es ws k (event.GiveUp session) step new tt one in
        (none went.on.manager.now.state went.moves, told went.on.manager.now.state went.moves)
      where
        table : k.now.state.locks.requests ≡ requests_in w
        table = (seen w o es ws k).requests

        fails : k.now.state.failed ≡ failed_in w
        fails = (seen w o es ws k).failed

        none : (later : State) → GiveUpStep s session step later → step ≡ Nothing → IsTrue (failed_in w) ⊎ ((a : SessionTxn) → IsOfSession s session a → is_waiting a.txn (requests_in w) ≡ false)
        none later moves is = by (cases_Bool s.failed)
          where
            by : (s.failed ≡ true) ⊎ (s.failed ≡ false) → IsTrue (failed_in w) ⊎ ((a : SessionTxn) → IsOfSession s session a → is_waiting a.txn (requests_in w) ≡ false)
            by (inl failed) = inl (sym fails ∙ failed)
            by (inr runs) = inr (λ a its. subst (λ (rs : List Request). is_waiting a.txn rs ≡ false) table
                (nothing_waits o k.found es s (after w o es ws k) session later a runs its (subst (λ (x : Step). GiveUpStep s session x later) is moves)))

        told : (later : State) → GiveUpStep s session step later → IsTrue (failed_in w) ⊎ ((a : SessionTxn) → IsOfSession s session a → is_waiting a.txn (requests_in w) ≡ false) → step ≡ Nothing
        told later (inr h) idle = h.told
        told later (inl h) (inl failed) = let clash : true ≡ false = sym (fails ∙ failed) ∙ h.running in cc
        told later (inl h) (inr idle) =
            let quiet : is_waiting h.txn.txn s.locks.requests ≡ false = subst (λ (rs : List Request). is_waiting h.txn.txn rs ≡ false) (sym table) (idle h.txn h.its) in
            let asks = h.asks in cc
