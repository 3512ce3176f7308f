-- What the answer of a prepare makes of a table, and of the calls that wait.
use Rattle.std.proofs.Common.{◌≡◌, ◌≢◌, ◌⊎◌, inl, inr, ⊎_elim, ◌<◌, ◌∷◌, ◌==◌, [], ℕ, List, true, false, cond, None, Some, refl, sym, ap, subst, ◌∙◌, arith, map}
use Rattle.std.specs.Prelude.{All, filter}
use Rattle.std.specs.List.Sorted.{IsPermutation}
use Rattle.std.proofs.lemmas.Bool.{cases_Bool, eqb-false, eqb-true, ne_eqb}
use Rattle.std.proofs.lemmas.List.Elements.{All-cons, All-nil}
use Rattle.std.proofs.lemmas.List.Sorted.{IsPermutation-map}
use Rattle.shore_model.specs.declared.calls.Call.TheVariants as call
use Rattle.shore_model.specs.declared.sessions.SessionState.{SessionState}
use Rattle.laws_lives.specs.OwnSeats.{HasOwnSeats}
use Rattle.laws_lives.specs.Sessions.{PreparedTxn, ResolvedTxn, with_answered}
use Rattle.laws_lives.specs.Views.{IsAmong}
use Rattle.laws_calls.specs.CallSteps.{IsPreparing, prepare_ended}
use Rattle.laws_calls.specs.States.{State}
use Rattle.shore_txn.specs.ActiveTxns.{OneBecomes}
use Rattle.shore_txn.specs.Transactions.{HasNoTxnOf, next_in, prepared_in, room_in, undos_in}
use Rattle.shore_txn.specs.Transactions as table
use Rattle.shore_txn.specs.TxnStates.{is_in_doubt}
use Rattle.shore_txn.specs.Txns.{IsAfterAnswer, IsOf, last_of, number_of, state_of}
use Rattle.shore_txn.specs.declared.log_room.LogRoom.{LogRoom}
use Rattle.shore_txn.specs.declared.transactions.Transactions.{Transactions}
use Rattle.shore_txn.specs.declared.txn.Txn.{Txn}
use Rattle.shore_txn.specs.declared.txn_state.TxnState.TheVariants.{Preparing}
use Rattle.shore_txn.proofs.ActiveOthers.{each_becomes}
use Rattle.shore_txn.proofs.ActiveSteps.{one_at_number}
use Rattle.shore_txn.proofs.OneOfMany.{among_map, map_with}
use Rattle.shore_sessions.specs.Calls.{as_resolved, resolved_by}
use Rattle.shore_sessions.specs.Controls.{locks_in, txns_in, waits_in}
use Rattle.shore_sessions.specs.Seated.{IsNamed, IsSeated, rolled_in}
use Rattle.shore_sessions.specs.Standing.{HasControl, HasTxns, HasWaits, IsLogged}
use Rattle.shore_sessions.specs.declared.control.Control.{Control}
use Rattle.shore_sessions.specs.declared.waits.WaitingCall.{WaitingCall}
use Rattle.shore_sessions.proofs.ControlSteps.{resolving_kept}
use Rattle.shore_sessions.proofs.Lists.{all_by_members}
use Rattle.shore_sessions.proofs.LogSteps.{room_still}
use Rattle.shore_sessions.proofs.ResolveWaits.{same_either}
use Rattle.shore_sessions.proofs.RollbackSteps.{becomes_of}
use Rattle.shore_sessions.proofs.SeatSteps.{StaysSeated, its_seats, named_still, rolled_kept, seated_still, seats_same}
use Rattle.shore_sessions.proofs.Seats.{doubt_there}
use Rattle.shore_sessions.proofs.Taking.{AreApart, is_other, none_removed}
use Rattle.shore_sessions.proofs.TxnSteps.{StaysLogged, above_still, each_was, logged_still, names_were}
use Rattle.shore_sessions.proofs.WaitSteps.{others_wait, resolved_but}

clash : true ≡ false → ⊥
clash e = cc

-- ---- whose prepare is answered

module _ (txns : Transactions) (s : State) (was : HasTxns txns s) (session t : ℕ) (global : List ℕ) (is : IsPreparing s.sessions session t global) where
  -- .. is a transaction of the table, which that session is in
  pub preparing_there : (u : Txn) × IsAmong u (table.txns_in txns) × (number_of u ≡ t) × IsOf session u × (state_of u ≡ Preparing)
  preparing_there =
      let u = doubt_there txns s was (record { txn = t; global = global; answered = false }) is.0 in (
        u.0,
        u.1,
        u.2.txn,
        (its_seats txns s.sessions was.seats u.0 u.1).alone session (ap (λ (p : SessionState). p.txn) is.1 ∙ sym u.2.txn),
        ⊎_elim (λ answered. absurd (clash (sym answered.1))) (λ waits. waits.0) u.2.answered,
      )

  pub none_prepares : HasNoTxnOf session txns → ⊥
  none_prepares none = let u = preparing_there in none u.0 u.1 u.3

  -- the one that the session is in
  pub own_prepares : (v : Txn) → IsAmong v (table.txns_in txns) → IsOf session v → (number_of v ≡ t) × (state_of v ≡ Preparing)
  own_prepares v m of =
      let u = preparing_there in
      let same : u.0 ≡ v = one_at_number (table.txns_in txns) txns.numbers u.0 v u.1 m (txns.sessions session u.0 v u.1 m u.3 of) in
      (ap number_of (sym same) ∙ u.2, ap state_of (sym same) ∙ u.4)

-- ---- the table

module _ (old new : Transactions) {number : ℕ} (one : OneBecomes number IsAfterAnswer (table.txns_in old) (table.txns_in new)) (waits : state_of one.before ≡ Preparing) where
  seated : StaysSeated one.before one.after
  seated = record {
    txn = one.becomes.txn;
    session = one.becomes.session;
    seated = one.becomes.name.seated;
    doubt = ap is_in_doubt one.becomes.state ∙ sym (ap is_in_doubt waits);
    global = one.becomes.name.global;
    decided = one.becomes.name.decided;
  }

  logged : StaysLogged one.before one.after
  logged = record {
    txn = one.becomes.txn;
    first = one.becomes.first;
    last = one.becomes.last;
    entries = one.becomes.entries;
    global = one.becomes.name.global;
    prepare = one.becomes.name.prepare;
    decided = one.becomes.name.decided;
  }

  pub rolled_answered : rolled_in new ≡ rolled_in old
  rolled_answered = rolled_kept (becomes_of one seated)

  pub txns_answered : undos_in new ≡ undos_in old → prepared_in new ≡ with_answered number (prepared_in old) → next_in new ≡ next_in old → room_in new ≡ room_in old
      → (s : State) → HasTxns old s → (session t : ℕ) (global : List ℕ) → t ≡ number → HasTxns new (prepare_ended s session t global)
  txns_answered undos doubts next room s was session t global at = record {
    active = was.active ∙ sym undos;
    prepared = subst (IsPermutation (with_answered t s.sessions.prepared)) (ap (λ n. with_answered n (prepared_in old)) at ∙ sym doubts)
        (IsPermutation-map answered s.sessions.prepared (prepared_in old) was.prepared);
    seats = all_by_members (IsSeated ended.sessions) (table.txns_in new)
        (each_becomes (IsSeated s.sessions) (IsSeated ended.sessions) old.numbers (its_seats old s.sessions was.seats) one
        (λ u other is. seats_same s.sessions ended.sessions seats u is)
        (λ is. seats_same s.sessions ended.sessions seats one.after (seated_still s.sessions one.before one.after seated is)));
    entered = λ n. subst (λ k. (ended.sessions.seats n).txn < k) (sym next) (subst (λ (p : SessionState). p.txn < next_in old) (sym (seats n)) (was.entered n));
    names = all_by_members IsNamed (table.txns_in new)
        (each_becomes IsNamed IsNamed old.numbers (names_were old new s was) one (λ u other is. is) (named_still one.before one.after seated));
    next = was.next ∙ sym next;
    room = room_still refl (ap (λ (r : LogRoom). r.kept) room) refl (ap (λ (r : LogRoom). r.stream_bytes) room) was.room;
    each = all_by_members (IsLogged s.log) (table.txns_in new)
        (each_becomes (IsLogged s.log) (IsLogged s.log) old.numbers (each_was old new s was) one (λ u other is. is) (logged_still s.log one.before one.after logged));
    above = above_still old new s was next;
  }
    where
      ended : State
      ended = prepare_ended s session t global

      answered : PreparedTxn → PreparedTxn
      answered p = cond (p.txn == t) (record { txn = p.txn; global = p.global; answered = true }) p

      seats : (n : ℕ) → ended.sessions.seats n ≡ s.sessions.seats n
      seats n = same_either (session == n) (s.sessions.seats n)

pub lasts_answered : (old new : Transactions) {number : ℕ} → OneBecomes number IsAfterAnswer (table.txns_in old) (table.txns_in new)
    → map last_of (table.txns_in new) ≡ map last_of (table.txns_in old)
lasts_answered old new one = ap (map last_of) one.is ∙ map_with last_of one.newer one.older one.after one.before one.becomes.last ∙ ap (map last_of) (sym one.was)

-- ---- the calls

-- a session has a call that waits, or none
its_call : (session : ℕ) (calls : List WaitingCall) → ((w : WaitingCall) × IsAmong w calls × (w.session ≡ session)) ⊎ All (λ w. w.session ≢ session) calls
its_call session [] = inr (All-nil (λ (w : WaitingCall). w.session ≢ session))
its_call session (x ∷ xs) = ⊎_elim
    (λ own. inl (x, inl refl, eqb-true x.session session own))
    (λ other. ⊎_elim
    (λ later. inl (later.0, inr later.1, later.2))
    (λ none. inr (All-cons (λ (w : WaitingCall). w.session ≢ session) x xs (eqb-false x.session session other) none))
    (its_call session xs))
    (cases_Bool (x.session == session))

module _ (calls : List WaitingCall) (s : State) (was : HasWaits calls s) (own : HasOwnSeats s.sessions) (apart : AreApart calls) (session t : ℕ) (global : List ℕ)
    (is : IsPreparing s.sessions session t global) (some : 0 < t) where
  -- its call is no resolve
  no_other : (w : WaitingCall) → IsAmong w calls → w.session ≡ session → as_resolved w ≡ None
  no_other w m same = (elim (as_resolved w) as (λ o. as_resolved w ≡ o → o ≡ None) [ None ↦ λ none. refl | Some r ↦ λ some. absurd (its_resolve r some) ]) refl
    where
      its_resolve : (r : ResolvedTxn) → as_resolved w ≡ Some r → ⊥
      its_resolve r some = clash (ap (λ (p : SessionState). p.prepared) (sym is.1 ∙ ap s.sessions.seats (sym same) ∙ (was.ended w r m some).2))

  pub resolved_answered : resolved_by (filter (is_other session) calls) ≡ resolved_by calls
  resolved_answered = ⊎_elim
      (λ w. resolved_but calls apart session w.0 w.1 w.2 (no_other w.0 w.1 w.2))
      (λ none. ap resolved_by (sym (none_removed session calls none)))
      (its_call session calls)

  pub waits_answered : HasWaits (filter (is_other session) calls) (prepare_ended s session t global)
  waits_answered = others_wait calls s was session (prepare_ended s session t global) refl refl refl (λ n other. seats n) others
    where
      seats : (n : ℕ) → (prepare_ended s session t global).sessions.seats n ≡ s.sessions.seats n
      seats n = same_either (session == n) (s.sessions.seats n)

      others : (w : WaitingCall) (name : List ℕ) → IsAmong w calls → w.session ≢ session → w.call ≡ call.Prepare name
          → IsAmong (record { txn = w.txn; global = name; answered = false }) (with_answered t s.sessions.prepared)
      others w name m other prepares =
          let its = was.preparing w name m prepares in
          let p : PreparedTxn = record { txn = w.txn; global = name; answered = false } in
          let number : (s.sessions.seats w.session).txn ≡ w.txn = ap (λ (x : SessionState). x.txn) its.1 in
          let apart_txns : w.txn ≢ t = λ same. other
          (own.one w.session session (subst (λ k. 0 < k) (sym (number ∙ same)) some) (number ∙ same ∙ sym (ap (λ (x : SessionState). x.txn) is.1))) in
          subst (λ b. IsAmong (cond b (record { txn = w.txn; global = name; answered = true }) p) (with_answered t s.sessions.prepared)) (ne_eqb w.txn t apart_txns)
          (among_map (λ (q : PreparedTxn). cond (q.txn == t) (record { txn = q.txn; global = q.global; answered = true }) q) p s.sessions.prepared its.0)

-- ---- both

pub control_answered : (old new : Control) (s : State) → HasControl old s → HasOwnSeats s.sessions → AreApart (waits_in old) → (session t : ℕ) (global : List ℕ)
    → IsPreparing s.sessions session t global → HasTxns (txns_in new) (prepare_ended s session t global) → rolled_in (txns_in new) ≡ rolled_in (txns_in old) → locks_in new ≡ locks_in old
    → waits_in new ≡ filter (is_other session) (waits_in old) → HasControl new (prepare_ended s session t global)
control_answered old new s was own apart session t global is txns rolled locks taken = record {
  txns = txns;
  waits = subst (λ cs. HasWaits cs (prepare_ended s session t global)) (sym taken) (waits_answered (waits_in old) s was.waits own apart session t global is some);
  resolving = resolving_kept (txns_in old) (txns_in new) (waits_in old) (waits_in new) s (prepare_ended s session t global) rolled
      (ap resolved_by taken ∙ resolved_answered (waits_in old) s was.waits own apart session t global is some) refl (λ f. f) was.resolving;
  locks = was.locks ∙ sym locks;
}
  where
    some : 0 < t
    some = let u = preparing_there (txns_in old) s was.txns session t global is in let above = u.0.some in let number = u.2 in omega (arith, above, number)
