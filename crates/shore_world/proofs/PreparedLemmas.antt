-- What a prepare lists, and whom a session is told that asks who is in doubt, of a world that is a manager.
use Rattle.std.proofs.Common.{◌≡◌, inl, inr, ℕ, List, [], ◌∷◌, IsTrue, sym, ap, subst, ◌∙◌}
use Rattle.std.specs.Cmp.Lexicographic.{slice_cmp}
use Rattle.std.specs.FinMap.{is_sorted}
use Rattle.std.specs.List.Sorted.{IsStrictlySortedBy}
use Rattle.std.specs.Ordering.{nat_cmp}
use Rattle.shore_types.specs.Locking.{granule_cmp}
use Rattle.shore_types.specs.declared.layout.Geometry.{Geometry}
use Rattle.shore_types.specs.declared.locking.Granule.{Granule}
use Rattle.shore_disk.specs.declared.device.Disk.{Ghosts}
use Rattle.shore_model.specs.declared.calls.Answer.TheVariants.{AreInDoubt}
use Rattle.shore_model.specs.declared.calls.Call.{Call}
use Rattle.shore_model.specs.declared.calls.Call.TheVariants as call
use Rattle.shore_model.specs.declared.histories.Entry.{Entry}
use Rattle.shore_model.specs.declared.histories.Opening.{Opening}
use Rattle.shore_model.specs.declared.holds.Hold.{Hold}
use Rattle.shore_model.specs.declared.log_records.Payload.TheVariants as payload
use Rattle.shore_model.specs.declared.step.Step.{Step}
use Rattle.shore_model.specs.declared.step.Step.TheVariants.{Done, Waits}
use Rattle.shore_model.specs.declared.step.Wait.TheVariants.{Durable}
use Rattle.shore_model.specs.Histories.{decisions, in_doubt}
use Rattle.shore_model.specs.Requests.{held_by_all}
use Rattle.shore_cycles.specs.declared.victims.Victim.{Victim}
use Rattle.laws_lives.specs.Logged.{and_record}
use Rattle.laws_lives.specs.SessionSteps.{AreExclusive}
use Rattle.laws_lives.specs.Sessions.{SessionTxn}
use Rattle.laws_lives.specs.Views.{IsAmong}
use Rattle.laws_calls.proofs.Listings.{listed_are_those, listed_rises}
use Rattle.laws_calls.proofs.Outside.{same_list}
use Rattle.laws_calls.proofs.PreparedGranules.{granules_rise, prepared_granules}
use Rattle.laws_calls.proofs.SettledThere.{settled_record_waits}
use Rattle.laws_calls.proofs.SettledWaits.{call_has_asked}
use Rattle.laws_calls.specs.CallSteps.{CallStep, listed_in_doubt}
use Rattle.laws_calls.specs.Prepares.{granules_in_ex}
use Rattle.laws_calls.specs.Settling.{SettledCall, Settles}
use Rattle.laws_calls.specs.Shapes.{WaitsForItsRecord}
use Rattle.laws_calls.specs.States.{IsOfSession, State}
use Rattle.shore_world.specs.declared.event.Event.TheVariants as event
use Rattle.shore_world.specs.declared.world.World.{World}
use Rattle.shore_world.specs.Promises.{GoesOnAs, IsManagerOf}
use Rattle.shore_world.specs.Worlds.{Steps, geometry_in, requests_in}
use Rattle.shore_world.proofs.PromiseLemmas.{after, held_now, in_doubt_now, stepped}

-- ---- prepares

same_global : (x y : List ℕ) → call.Prepare x ≡ call.Prepare y → y ≡ x
same_global x y is = cc

-- a prepare that waits has appended its record, with the granules that its transaction holds in EX
pub record HasPrepare (s : State) (session : ℕ) (global : List ℕ) (new : State) : Type 0 where
  pub txn : SessionTxn
  pub of : IsOfSession s session txn
  pub logged : new.log ≡ and_record txn.txn s.log (payload.Prepare global (granules_in_ex s txn))

prepare_waits : (s : State) (session n : ℕ) (global : List ℕ) (new : State) → WaitsForItsRecord s session (call.Prepare global) n new → HasPrepare s session global new
prepare_waits s session n global new (inl (name, is, number, (a, of, left))) = record {
  txn = a;
  of = of;
  logged = ap (λ (x : State). x.log) left ∙ ap (λ (g : List ℕ). and_record a.txn s.log (payload.Prepare g (granules_in_ex s a))) (same_global global name is);
}
prepare_waits s session n global new (inr (inl h)) = let clash = h.1 in absurd cc
prepare_waits s session n global new (inr (inr h)) = let clash = h.1 in absurd cc

-- ---- who is in doubt

-- asking for that comes to something at once
listed_at_once : (g : Geometry) (s : State) (session : ℕ) (step : Step) (new : State) → SettledCall g s session call.InDoubt step new → CallStep g s session call.InDoubt step new
listed_at_once g s session step new h = by h.rounds h.settles
  where
    by : (rounds : List (List Victim)) → Settles g h.mid session h.first rounds step new → CallStep g s session call.InDoubt step new
    by [] settled = subst (CallStep g s session call.InDoubt step) (sym settled.2) (subst (λ (x : Step). CallStep g s session call.InDoubt x h.mid) (sym settled.1) h.calls)
    by (vs ∷ rounds) settled = let asked = (call_has_asked g s session call.InDoubt settled.1 h.first h.mid settled.4 h.calls).asked in absurd cc

module _ {L V : Type 0} {G : Ghosts L} {H : Ghosts V} (w : World L V G H) (o : Opening) (es : List Entry) (ws : List (ℕ × Call)) (k : IsManagerOf w o es ws) where
  pub lists_what_is_held : (session n : ℕ) (global : List ℕ) (new : World L V G H) → Steps w (event.Call session (call.Prepare global)) (Waits (Durable n)) new
      → (on : GoesOnAs new o es ws (event.Call session (call.Prepare global)) (Waits (Durable n)))
      × ((a : SessionTxn) × IsOfSession k.now.state session a × ((granules : List Granule) × (on.manager.now.state.log ≡ and_record a.txn k.now.state.log (payload.Prepare global granules))
      × AreExclusive (held_by_all (requests_in w)) a.txn granules × IsStrictlySortedBy granule_cmp granules))
  lists_what_is_held session n global new one =
      let s = k.now.state in
      let went = stepped w o es ws k (event.Call session (call.Prepare global)) (Waits (Durable n)) new tt one in
      let truly = settled_record_waits (geometry_in w) o k.found es s (after w o es ws k) session n went.on.manager.now.state (call.Prepare global) went.moves in
      let its = prepare_waits s session n global went.on.manager.now.state truly.0 in
      let granules = granules_in_ex s its.txn in (
        went.on,
        (
          its.txn,
          its.of,
          (
            granules,
            its.logged,
            subst (λ (held : List Hold). AreExclusive held its.txn.txn granules) (held_now w o es ws k) (prepared_granules s its.txn),
            granules_rise s its.txn,
          ),
        ),
      )

  told_pairs : (session : ℕ) (pairs : List (List ℕ × ℕ)) (new : World L V G H) → Steps w (event.Call session call.InDoubt) (Done (AreInDoubt pairs)) new
      → pairs ≡ listed_in_doubt k.now.state.sessions
  told_pairs session pairs new one =
      let went = stepped w o es ws k (event.Call session call.InDoubt) (Done (AreInDoubt pairs)) new tt one in
      same_list (geometry_in w) k.now.state went.on.manager.now.state session pairs
      (listed_at_once (geometry_in w) k.now.state session (Done (AreInDoubt pairs)) went.on.manager.now.state went.moves)

  pub each_listed : (session t : ℕ) (global : List ℕ) (pairs : List (List ℕ × ℕ)) (new : World L V G H) → Steps w (event.Call session call.InDoubt) (Done (AreInDoubt pairs)) new
      → IsAmong (global, t) pairs → IsAmong (t, global) (in_doubt o.in_doubt (decisions es))
  each_listed session t global pairs new one there =
      subst (IsAmong (t, global)) (in_doubt_now w o es ws k)
      ((listed_are_those k.under_way.under_way.state.sessions).each t global (subst (IsAmong (global, t)) (told_pairs session pairs new one) there))

  pub all_listed : (session t : ℕ) (global : List ℕ) (pairs : List (List ℕ × ℕ)) (new : World L V G H) → Steps w (event.Call session call.InDoubt) (Done (AreInDoubt pairs)) new
      → IsAmong (t, global) (in_doubt o.in_doubt (decisions es)) → IsAmong (global, t) pairs
  all_listed session t global pairs new one there =
      subst (IsAmong (global, t)) (sym (told_pairs session pairs new one))
      ((listed_are_those k.under_way.under_way.state.sessions).all t global (subst (IsAmong (t, global)) (sym (in_doubt_now w o es ws k)) there))

  pub listed_rising : (session : ℕ) (pairs : List (List ℕ × ℕ)) (new : World L V G H) → Steps w (event.Call session call.InDoubt) (Done (AreInDoubt pairs)) new
      → IsTrue (is_sorted (slice_cmp nat_cmp) pairs)
  listed_rising session pairs new one =
      subst (λ (ps : List (List ℕ × ℕ)). IsTrue (is_sorted (slice_cmp nat_cmp) ps)) (sym (told_pairs session pairs new one)) (listed_rises k.now.state.sessions)
