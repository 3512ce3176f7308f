-- What a prepare and its answer make of a table, of the sessions and of the calls that wait.
use Rattle.std.proofs.Common.{◌≡◌, ◌≢◌, ◌⊎◌, inl, inr, ⊎_elim, ◌+◌, ◌++◌, ◌∷◌, ◌==◌, [], ℕ, List, Bool, Option, true, false, cond, None, Some, is_some, refl, sym, ap, subst, ◌∙◌, arith, length, map}
use Rattle.std.specs.Prelude.{◌||◌, All, not, reverse}
use Rattle.std.specs.List.{filter_map}
use Rattle.std.specs.List.Sorted.{IsPermutation}
use Rattle.std.proofs.lemmas.Bool.{eqb-false, eqb-true}
use Rattle.std.proofs.lemmas.List.Sorted.{IsPermutation-cons, IsPermutation-to_front, IsPermutation-trans}
use Rattle.shore_types.specs.declared.locking.Granule.{Granule}
use Rattle.shore_model.specs.declared.calls.Call.TheVariants as call
use Rattle.shore_model.specs.declared.log_records.LogRecord.{LogRecord}
use Rattle.shore_model.specs.declared.log_records.Payload.TheVariants as payload
use Rattle.shore_model.specs.declared.sessions.SessionState.{SessionState}
use Rattle.shore_model.specs.declared.step.Wait.TheVariants.{Durable}
use Rattle.shore_model.specs.Histories.{free, once_prepared}
use Rattle.shore_model.specs.Logs as logs
use Rattle.shore_model.specs.Logs.{prepare_number, previous_of, unanswered}
use Rattle.shore_logrec.specs.Text.{cost_of}
use Rattle.laws_lives.specs.Sessions.{EachOnce, PreparedTxn, ResolvedTxn, SessionTxn, in_prepared, txns_of}
use Rattle.laws_lives.specs.Views.{IsAmong}
use Rattle.laws_lives.proofs.UnansweredChanges.{unanswered_own}
use Rattle.laws_calls.specs.CallSteps.{IsPreparing}
use Rattle.laws_calls.specs.Prepares.{prepared}
use Rattle.laws_calls.specs.Resolves.{rollback_number}
use Rattle.laws_calls.specs.StateChanges.{decision_waiting}
use Rattle.laws_calls.specs.States.{HasSeat, State, cost_of_log, next_number}
use Rattle.shore_txn.specs.ActiveTxns.{OneBecomes}
use Rattle.shore_txn.specs.Numbers.{first_with}
use Rattle.shore_txn.specs.Transactions.{next_in, prepared_in, room_in, undos_in}
use Rattle.shore_txn.specs.Transactions as table
use Rattle.shore_txn.specs.TxnStates.{is_in_doubt}
use Rattle.shore_txn.specs.Txns.{IsAfterPrepare, IsOf, first_of, global_of, number_of, state_of}
use Rattle.shore_txn.specs.UndoEntries.{HaveClaims}
use Rattle.shore_txn.specs.declared.transactions.Transactions.{Transactions}
use Rattle.shore_txn.specs.declared.txn.Txn.{Txn}
use Rattle.shore_txn.specs.declared.txn_state.TxnState.{TxnState}
use Rattle.shore_txn.specs.declared.undo.UndoEntry.{UndoEntry}
use Rattle.shore_txn.proofs.ActiveOthers.{each_becomes}
use Rattle.shore_txn.proofs.ActiveSteps.{one_at_number}
use Rattle.shore_txn.proofs.OneOfMany.{among_middle}
use Rattle.shore_sessions.specs.Calls.{as_resolved, awaits_record, logs_decision}
use Rattle.shore_sessions.specs.Seated.{IsNamed, IsSeated, as_rolled, is_rolled, rolled_in}
use Rattle.shore_sessions.specs.Standing.{HasTxns, HasWaits, IsLogged, as_change}
use Rattle.shore_sessions.specs.declared.waits.WaitingCall.{WaitingCall}
use Rattle.shore_sessions.proofs.FirstNumbers.{first_own, prepare_own}
use Rattle.shore_sessions.proofs.Lists.{all_by_members, among_either, among_left, among_right}
use Rattle.shore_sessions.proofs.LogSteps.{cost_push, previous_own, rollback_not, room_on}
use Rattle.shore_sessions.proofs.Permuted.{made_without}
use Rattle.shore_sessions.proofs.SeatSteps.{its_seats}
use Rattle.shore_sessions.proofs.Seats.{doubt_there, seat_there}
use Rattle.shore_sessions.proofs.TxnSteps.{above_pushed, each_was, logged_beside, names_were, unrolled}
use Rattle.shore_sessions.proofs.WaitSteps.{other_asks, resolved_still, waitings-push}

clash : true ≡ false → ⊥
clash e = cc

no_name : {name : List ℕ} → None ≡ Some name → ⊥
no_name e = cc

-- ---- a session whose transaction is prepared

pub prepared_at : (p : SessionState) (t : ℕ) → ((p.txn ≡ t) × (once_prepared p t ≡ in_prepared t)) ⊎ ((p.txn ≢ t) × (once_prepared p t ≡ p))
prepared_at p t = (elim (p.txn == t) as (λ b. (p.txn == t) ≡ b → ((p.txn ≡ t) × (cond b (in_prepared t) p ≡ in_prepared t)) ⊎ ((p.txn ≢ t) × (cond b (in_prepared t) p ≡ p))) [
  | true ↦ λ is. inl (eqb-true p.txn t is, refl)
  | false ↦ λ is. inr (eqb-false p.txn t is, refl)
]) refl

pub unlike_still : (p : SessionState) (t : ℕ) → p.txn ≢ t → once_prepared p t ≡ p
unlike_still p t other = ⊎_elim (λ own. absurd (other own.0)) (λ still. still.1) (prepared_at p t)

pub number_still : (p : SessionState) (t : ℕ) → (once_prepared p t).txn ≡ p.txn
number_still p t = ⊎_elim (λ own. ap (λ (x : SessionState). x.txn) own.1 ∙ sym own.0) (λ still. ap (λ (x : SessionState). x.txn) still.1) (prepared_at p t)

-- ---- the table

module _ (old new : Transactions) (s : State) (was : HasTxns old s) (a : SessionTxn) (seat : HasSeat s.sessions a) (global : List ℕ) (granules : List Granule) {number : ℕ} (lsn : ℕ)
    (one : OneBecomes number (IsAfterPrepare global lsn) (table.txns_in old) (table.txns_in new)) (at : a.txn ≡ number) (next_lsn : lsn ≡ 1 + length s.log) where
  abbrev r : LogRecord
  r = record { txn = a.txn; previous = previous_of a.txn s.log; payload = payload.Prepare global granules }

  before_there : IsAmong one.before (table.txns_in old)
  before_there = subst (IsAmong one.before) (sym one.was) (among_middle one.newer one.older one.before)

  -- its session is in it by the table, and it is not in doubt
  own_free : IsOf a.session one.before × (is_in_doubt (state_of one.before) ≡ false)
  own_free =
      let t = seat_there old s was a seat in
      let same : t.0 ≡ one.before = one_at_number (table.txns_in old) old.numbers t.0 one.before t.1 before_there (ap (λ (b : SessionTxn). b.txn) t.2 ∙ at ∙ sym one.txn) in
      subst (λ (t : Txn). IsOf a.session t × (is_in_doubt (state_of t) ≡ false)) same (t.3, t.4)

  its_own : IsOf a.session one.before
  its_own = own_free.0

  -- so it has no name
  unnamed : global_of one.before ≡ None
  unnamed = by (is_rolled one.before) refl
    where
      named : IsNamed one.before
      named = names_were old new s was one.before before_there

      none : (o : Option (List ℕ)) → is_some o ≡ false → o ≡ None
      none None is = refl
      none (Some name) is = absurd (clash is)

      by : (b : Bool) → is_rolled one.before ≡ b → global_of one.before ≡ None
      by true rolled = absurd (clash (sym its_own.0 ∙ (named.left rolled).0))
      by false not_rolled = none (global_of one.before) (named.named ∙ ap (λ b. b || is_rolled one.before) own_free.1 ∙ not_rolled)

  after_number : number_of one.after ≡ a.txn
  after_number = one.becomes.txn ∙ one.txn ∙ sym at

  others_seated : (u : Txn) → number_of u ≢ number → IsSeated s.sessions u → IsSeated (prepared s a global granules).sessions u
  others_seated u other is = record {
    own = λ seated.
        let p = is.own seated in
        unlike_still (s.sessions.seats u.session) a.txn (λ same. other (sym (ap (λ (x : SessionState). x.txn) p) ∙ same ∙ at)) ∙ p;
    alone = λ n now. is.alone n (sym (number_still (s.sessions.seats n) a.txn) ∙ now);
  }

  one_seated : IsSeated s.sessions one.before → IsSeated (prepared s a global granules).sessions one.after
  one_seated is = record {
    own = λ seated.
        let p = is.own (sym one.becomes.seated ∙ seated) in
        let was_number : (s.sessions.seats one.before.session).txn ≡ a.txn = ap (λ (x : SessionState). x.txn) p ∙ one.txn ∙ sym at in
        ap (prepared s a global granules).sessions.seats one.becomes.session ∙ ⊎_elim
        (λ own. own.1)
        (λ other. absurd (other.0 was_number))
        (prepared_at (s.sessions.seats one.before.session) a.txn)
        ∙ ap (λ n. record { txn = n; prepared = true }) (sym after_number)
        ∙ ap (λ (x : TxnState). record { txn = number_of one.after; prepared = is_in_doubt x }) (sym one.becomes.state);
    alone = λ n now.
        let its = is.alone n (sym (number_still (s.sessions.seats n) a.txn) ∙ now ∙ one.becomes.txn) in
        (one.becomes.seated ∙ its.0, one.becomes.session ∙ its.1);
  }

  one_named : IsNamed one.before → IsNamed one.after
  one_named is = record {
    named = ap is_some one.becomes.global ∙ ap (λ (x : TxnState). is_in_doubt x || is_rolled one.after) (sym one.becomes.state);
    left = λ rolled. absurd (clash (sym its_own.0 ∙ (is.left (ap (λ n. not (n == 0)) (sym one.becomes.decided) ∙ rolled)).0));
  }

  one_logged : IsLogged s.log one.before → IsLogged (s.log ++ r ∷ []) one.after
  one_logged before =
      let some = one.after.some in
      let number_is = after_number in record {
        first =
            one.becomes.first ∙ ap (first_with (first_of one.before)) next_lsn ∙ ap (λ n. first_with n (1 + length s.log)) (before.first ∙ ap (λ n. logs.first_of n s.log) (sym one.becomes.txn ∙ after_number))
            ∙ sym (first_own s.log r) ∙ ap (λ n. logs.first_of n (s.log ++ r ∷ [])) (sym after_number);
        last = one.becomes.last ∙ next_lsn ∙ sym (previous_own s.log r (omega (arith, number_is, some))) ∙ ap (λ n. previous_of n (s.log ++ r ∷ [])) (sym after_number);
        changes =
            unanswered_own (number_of one.after) s.log r (sym after_number)
            ∙ ap (λ n. unanswered n s.log) one.becomes.txn ∙ before.changes ∙ ap (λ (es : List UndoEntry). reverse (map as_change es)) (sym one.becomes.entries);
        claims = subst HaveClaims (sym one.becomes.entries) before.claims;
        prepare =
            one.becomes.prepare ∙ next_lsn
            ∙ sym (prepare_own s.log r refl (ap (λ n. prepare_number n s.log) (sym after_number ∙ one.becomes.txn) ∙ sym before.prepare ∙ before.unprepared unnamed))
            ∙ ap (λ n. prepare_number n (s.log ++ r ∷ [])) (sym after_number);
        unprepared = λ none. absurd (no_name (sym none ∙ one.becomes.global));
        decided =
            one.becomes.decided ∙ before.decided ∙ ap (λ n. rollback_number n s.log) (sym one.becomes.txn) ∙ sym (rollback_not (number_of one.after) s.log r refl);
      }

  pub txns_prepared : undos_in new ≡ undos_in old → IsPermutation (record { txn = number; global = global; answered = false } ∷ prepared_in old) (prepared_in new) → next_in new ≡ next_in old
      → (cost : ℕ) → cost ≡ cost_of (payload.Prepare global granules) → (room_in new).kept ≡ (room_in old).kept + cost → (room_in new).stream_bytes ≡ (room_in old).stream_bytes
      → HasTxns new (prepared s a global granules)
  txns_prepared undos doubts next cost costs kept stream = record {
    active = was.active ∙ sym undos;
    prepared = IsPermutation-trans (s.sessions.prepared ++ p a.txn ∷ []) (p a.txn ∷ s.sessions.prepared) (prepared_in new) (IsPermutation-to_front s.sessions.prepared (p a.txn))
        (IsPermutation-trans (p a.txn ∷ s.sessions.prepared) (p a.txn ∷ prepared_in old) (prepared_in new) (IsPermutation-cons (p a.txn) s.sessions.prepared (prepared_in old) was.prepared)
        (subst (λ n. IsPermutation (p n ∷ prepared_in old) (prepared_in new)) (sym at) doubts));
    seats = all_by_members (IsSeated (prepared s a global granules).sessions) (table.txns_in new)
        (each_becomes (IsSeated s.sessions) (IsSeated (prepared s a global granules).sessions) old.numbers (its_seats old s.sessions was.seats) one others_seated one_seated);
    entered = λ n. let same = number_still (s.sessions.seats n) a.txn in let below = was.entered n in omega (arith, same, below, next);
    names = all_by_members IsNamed (table.txns_in new) (each_becomes IsNamed IsNamed old.numbers (names_were old new s was) one (λ u other is. is) one_named);
    next = was.next ∙ sym next;
    room = room_on (room_in old).kept (cost_of_log s.log) (cost_of r.payload) refl (kept ∙ ap (λ n. (room_in old).kept + n) costs) (cost_push s.log r) stream was.room;
    each = all_by_members (IsLogged (s.log ++ r ∷ [])) (table.txns_in new)
        (each_becomes (IsLogged s.log) (IsLogged (s.log ++ r ∷ [])) old.numbers (each_was old new s was) one (λ u apart is. logged_beside s.log r u (λ same. apart (sym same ∙ at)) is) one_logged);
    above = above_pushed old new s was a (payload.Prepare global granules) seat.0 next;
  }
    where
      p : ℕ → PreparedTxn
      p n = record { txn = n; global = global; answered = false }

  -- nothing is decided of it, so what is decided of others stays
  pub rolled_prepared : rolled_in new ≡ rolled_in old
  rolled_prepared =
      let named = names_were old new s was one.before before_there in
      let seated = its_own.0 in
      ap (filter_map as_rolled) one.is ∙ made_without as_rolled one.newer one.older one.after (unrolled one.after (one_named named) (one.becomes.seated ∙ seated))
      ∙ sym (made_without as_rolled one.newer one.older one.before (unrolled one.before named seated)) ∙ ap (filter_map as_rolled) (sym one.was)

  -- who waits for its prepare has another
  pub other_prepares : (t : ℕ) (name : List ℕ) → IsAmong (record { txn = t; global = name; answered = false }) s.sessions.prepared → t ≢ a.txn
  other_prepares t name m same =
      let u = doubt_there old s was (record { txn = t; global = name; answered = false }) m in
      let v = seat_there old s was a seat in
      let one_is : u.0 ≡ v.0 = one_at_number (table.txns_in old) old.numbers u.0 v.0 u.1 v.1 (u.2.txn ∙ same ∙ sym (ap (λ (b : SessionTxn). b.txn) v.2)) in
      clash (sym u.2.doubt ∙ ap (λ (x : Txn). is_in_doubt (state_of x)) one_is ∙ v.4)

-- ---- the calls

module _ (calls : List WaitingCall) (s : State) (was : HasWaits calls s) (a : SessionTxn) (seat : HasSeat s.sessions a) (global : List ℕ) (granules : List Granule) where
  abbrev it : WaitingCall
  it = record { session = a.session; txn = a.txn; call = call.Prepare global; wait = Durable (next_number s); cycle = None }

  pub waits_prepared : EachOnce (txns_of s.sessions.active) → All (λ w. w.session ≢ a.session) calls
      → ((t : ℕ) (name : List ℕ) → IsAmong (record { txn = t; global = name; answered = false }) s.sessions.prepared → t ≢ a.txn) → HasWaits (calls ++ it ∷ []) (prepared s a global granules)
  waits_prepared once free_calls others = record {
    waiting = ap (λ ws. decision_waiting a.session (call.Prepare global) (next_number s) ∷ ws) was.waiting ∙ sym (waitings-push calls it);
    kinds = λ w n. ⊎_elim (λ old. was.kinds w old)
        (λ new. ⊎_elim (λ same. subst (λ (v : WaitingCall). awaits_record v ≡ logs_decision v.call) same refl) (λ none. absurd none) new)
        (among_either w calls (it ∷ []) n);
    asking = λ w n is. ⊎_elim
        (λ old. let its = was.asking w old is in
        (its.0, unlike_still (s.sessions.seats w.session) a.txn (λ same. other_asks calls s was a seat.0 once free_calls w old is (sym (ap (λ (x : SessionState). x.txn) its.1) ∙ same)) ∙ its.1))
        (λ new. ⊎_elim (λ same. absurd (clash (ap awaits_record same ∙ is))) (λ none. absurd none) new)
        (among_either w calls (it ∷ []) n);
    preparing = λ w name n is. ⊎_elim
        (λ old. let its = was.preparing w name old is in (
          among_left (record { txn = w.txn; global = name; answered = false }) s.sessions.prepared (record { txn = a.txn; global = global; answered = false } ∷ []) its.0,
          unlike_still (s.sessions.seats w.session) a.txn (λ same. others w.txn name its.0 (sym (ap (λ (x : SessionState). x.txn) its.1) ∙ same)) ∙ its.1,
        ))
        (λ new. ⊎_elim
        (λ same.
        subst (λ (v : WaitingCall). IsPreparing (prepared s a global granules).sessions v.session v.txn name) same
        (subst (IsPreparing (prepared s a global granules).sessions a.session a.txn) (its_name name (ap (λ (v : WaitingCall). v.call) same ∙ is)) its_prepare))
        (λ none. absurd none) new)
        (among_either w calls (it ∷ []) n);
    ended = λ w q n is. ⊎_elim
        (λ old. let its = was.ended w q old is in (its.0, its.1, unlike_still (s.sessions.seats w.session) a.txn (outside w.session its.2) ∙ its.2))
        (λ new. ⊎_elim (λ same. absurd (never q (ap as_resolved same ∙ is))) (λ none. absurd none) new)
        (among_either w calls (it ∷ []) n);
    once = subst (λ (rs : List ResolvedTxn). EachOnce (map (λ x. x.txn) rs)) (sym (resolved_still calls it refl)) was.once;
  }
    where
      never : (q : ResolvedTxn) → None ≡ Some q → ⊥
      never q e = cc

      its_name : (name : List ℕ) → call.Prepare global ≡ call.Prepare name → global ≡ name
      its_name name e = cc

      outside : (n : ℕ) → s.sessions.seats n ≡ free → (s.sessions.seats n).txn ≢ a.txn
      outside n is same =
          let some = seat.2 in
          let none = sym (ap (λ (x : SessionState). x.txn) is) ∙ same in
          omega (arith, some, none)

      its_prepare : IsPreparing (prepared s a global granules).sessions a.session a.txn global
      its_prepare = (
        among_right (record { txn = a.txn; global = global; answered = false }) s.sessions.prepared (record { txn = a.txn; global = global; answered = false } ∷ []) (inl refl),
        ⊎_elim (λ own. own.1) (λ other. absurd (other.0 (ap (λ (x : SessionState). x.txn) seat.1))) (prepared_at (s.sessions.seats a.session) a.txn),
      )
