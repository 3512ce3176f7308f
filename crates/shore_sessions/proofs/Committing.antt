-- A resolve that commits: the transaction leaves the table, and its session is freed.
use Rattle.std.proofs.Common.{◌≡◌, inl, inr, ⊎_elim, ◌+◌, ◌<◌, ◌++◌, ℕ, List, true, false, refl, sym, ap, subst, ◌∙◌, map}
use Rattle.std.specs.Prelude.{not, ◌==◌}
use Rattle.std.specs.List.{filter_map}
use Rattle.std.specs.List.Sorted.{IsPermutation}
use Rattle.std.proofs.lemmas.List.Sorted.{IsPermutation-cons}
use Rattle.shore_types.specs.declared.layout.TheConstants.{ENDING_COST}
use Rattle.shore_model.specs.declared.calls.Outcome.TheVariants.{Commit}
use Rattle.shore_model.specs.declared.log_records.Payload.TheVariants as payload
use Rattle.shore_model.specs.Histories.{free, once_decided}
use Rattle.shore_model.specs.Logs.{previous_of}
use Rattle.shore_logrec.specs.Text.{cost_of}
use Rattle.shore_locks.specs.Grants.{released}
use Rattle.shore_locks.specs.Tables.{Table}
use Rattle.laws_lives.specs.Logged.{and_record, log_after}
use Rattle.laws_lives.specs.SessionSteps.{AppendResolve, entries_by}
use Rattle.laws_lives.specs.Sessions.{PreparedTxn, ResolvedTxn, SessionTxn, in_prepared, pairs_of, resolve_appended, seated, txns_of, without_prepared, without_txn}
use Rattle.laws_lives.specs.Views.{IsAmong}
use Rattle.laws_lives.proofs.Members.{txn_without}
use Rattle.laws_calls.specs.Resolves.{IsResolvable, MayResolve}
use Rattle.laws_calls.specs.StateChanges.{with_requests}
use Rattle.laws_calls.specs.States.{State, cost_of_log}
use Rattle.shore_txn.specs.ActiveTxns.{OneLeaves}
use Rattle.shore_txn.specs.Transactions.{next_in, prepared_in, room_in, undos_in}
use Rattle.shore_txn.specs.Transactions as table
use Rattle.shore_txn.specs.declared.transactions.Transactions.{Transactions}
use Rattle.shore_txn.specs.declared.undo.UndoEntry.{UndoEntry}
use Rattle.shore_txn.proofs.ActiveOthers.{each_left}
use Rattle.shore_txn.proofs.OneOfMany.{all_among, among_map, map_among}
use Rattle.shore_sessions.specs.Calls.{as_resolved, resolved_by}
use Rattle.shore_sessions.specs.Controls.{locks_in, txns_in, waits_in}
use Rattle.shore_sessions.specs.Seated.{NamesDiffer, as_rolled, rolled_in}
use Rattle.shore_sessions.specs.Standing.{HasControl, HasControlBut, HasTxns, HasWaits, IsLogged}
use Rattle.shore_sessions.specs.declared.control.Control.{Control}
use Rattle.shore_sessions.proofs.Lists.{all_by_members, among_left}
use Rattle.shore_sessions.proofs.LogSteps.{cost_push, room_on}
use Rattle.shore_sessions.proofs.Permuted.{among_made, filtered, made_without}
use Rattle.shore_sessions.proofs.ResolveSteps.{decided_at, decided_below, decided_others, free_still, not_asking, not_preparing, resolvable_there, waits_decided}
use Rattle.shore_sessions.proofs.Rolled.{resolve_is, undecided}
use Rattle.shore_sessions.proofs.TxnSteps.{above_pushed, each_was, leaver_there, names_left, names_were, others_logged, seats_left}
use Rattle.shore_sessions.proofs.WaitSteps.{fewer_active, still_asks}

clash : true ≡ false → ⊥
clash e = cc

-- the decision is logged and the locks are gone, and the call does not wait yet
abbrev pub resolved_state : State → SessionTxn → List ℕ → State
resolved_state s a global = with_requests (record s {
  sessions = seated s.sessions (entries_by s.sessions (AppendResolve a global)) (resolve_appended s.sessions a global);
  log = log_after s.log s.sessions (AppendResolve a global);
}) (released a.txn s.locks.requests)

-- the session that resolves is in no transaction then
pub resolver_free : (s : State) (session : ℕ) (a : SessionTxn) (global : List ℕ) → IsResolvable s a global → MayResolve s session global → NamesDiffer s.sessions → (resolved_state s a global).sessions.seats session ≡ free
resolver_free s session a global can (inl out) differ = ap (λ p. once_decided p a.txn) out ∙ free_still a.txn
resolver_free s session a global can (inr its) differ =
    let pairs : List (ℕ × List ℕ) = pairs_of s.sessions.prepared in
    let own = among_map (λ (p : PreparedTxn). (p.txn, p.global)) (record { txn = a.txn; global = global; answered = true }) s.sessions.prepared can.1 in
    let others = map (λ (r : ResolvedTxn). (r.txn, r.global)) s.sessions.resolving in
    let same : its.0 ≡ a.txn = differ (its.0, global) (a.txn, global) (among_left (its.0, global) pairs others its.2) (among_left (a.txn, global) pairs others own) refl in
    ap (λ p. once_decided p a.txn) (its.1 ∙ ap in_prepared same)
    ∙ ⊎_elim (λ freed. freed.2) (λ still. absurd (clash (still.1 refl))) (decided_at (in_prepared a.txn) a.txn)

module _ (old new : Transactions) (s : State) (was : HasTxns old s) (a : SessionTxn) (global : List ℕ) (can : IsResolvable s a global) (number : ℕ) (changes : List UndoEntry)
    (one : OneLeaves number changes (table.txns_in old) (table.txns_in new)) (at : a.txn ≡ number) where
  there : IsAmong one.one (table.txns_in old)
  there = leaver_there old new s was number changes a one can.0 at

  -- nothing else was decided of it
  pub rolled_stay : rolled_in new ≡ rolled_in old
  rolled_stay =
      ap (filter_map as_rolled) one.is
      ∙ sym (made_without as_rolled one.newer one.older one.one
      (undecided one.one (λ rolled. clash (sym (resolvable_there old s was a global can one.one there (one.txn ∙ sym at)).0 ∙ ((names_were old new s was one.one there).left rolled).1))))
      ∙ ap (filter_map as_rolled) (sym one.was)

  pub txns_resolved : undos_in new ≡ without_txn a.txn (undos_in old) → prepared_in new ≡ without_prepared number (prepared_in old) → next_in new ≡ next_in old
      → (room_in new).kept ≡ (room_in old).kept + ENDING_COST → (room_in new).stream_bytes ≡ (room_in old).stream_bytes → HasTxns new (resolved_state s a global)
  txns_resolved undos doubts next kept stream = record {
    active = ap (without_txn a.txn) was.active ∙ sym undos;
    prepared = subst (λ ps. IsPermutation (without_prepared a.txn s.sessions.prepared) ps) (ap (λ n. without_prepared n (prepared_in old)) at ∙ sym doubts)
        (filtered (λ (p : PreparedTxn). not (a.txn == p.txn)) s.sessions.prepared (prepared_in old) was.prepared);
    seats = seats_left old new s was number changes a one can.0 at (resolved_state s a global).sessions
        (λ u n other is. decided_others s.sessions (resolved_state s a global).sessions a.txn (λ k. refl) u (λ same. other (same ∙ at)) is);
    entered = λ n. subst (λ k. ((resolved_state s a global).sessions.seats n).txn < k) (sym next) (decided_below s.sessions a.txn (next_in old) old.some was.entered n);
    names = names_left old new s was number changes a one can.0 at;
    next = was.next ∙ sym next;
    room = room_on (room_in old).kept (cost_of_log s.log) (cost_of payload.Commit) refl kept (cost_push s.log (record { txn = a.txn; previous = previous_of a.txn s.log; payload = payload.Commit })) stream was.room;
    each = all_by_members (IsLogged (and_record a.txn s.log payload.Commit)) (table.txns_in new)
        (each_left (IsLogged s.log) (IsLogged (and_record a.txn s.log payload.Commit)) old.numbers (each_was old new s was) one (others_logged old new s was number changes a one can.0 at payload.Commit));
    above = above_pushed old new s was a payload.Commit can.0 next;
  }

-- the control stands for the state but for the resolve
pub control_resolving : (old new : Control) (s : State) (was : HasControl old s) (a : SessionTxn) (global : List ℕ) (can : IsResolvable s a global) → HasTxns (txns_in new) (resolved_state s a global)
    → rolled_in (txns_in new) ≡ rolled_in (txns_in old) → waits_in new ≡ waits_in old → locks_in new ≡ record { limit = (locks_in old).limit; requests = released a.txn (locks_in old).requests }
    → HasControlBut (record { txn = a.txn; global = global; outcome = Commit }) new (resolved_state s a global)
control_resolving old new s was a global can txns rolled waits locks = record {
  txns = txns;
  waits = subst (λ cs. HasWaits cs (resolved_state s a global)) (sym waits)
      (waits_decided (waits_in old) s was.waits a (resolved_state s a global) refl refl refl (λ n. refl) (not_preparing (txns_in old) s was.txns a global can)
      (λ w m is. still_asks (waits_in old) s was.waits a w m is (not_asking (txns_in old) s was.txns a global can w.session w.txn (was.waits.asking w m is).1))
      (λ k m. fewer_active (waits_in old) s was.waits a k m));
  resolving = λ f. IsPermutation-cons r s.sessions.resolving (rolled_in (txns_in new) ++ resolved_by (waits_in new))
      (subst (IsPermutation s.sessions.resolving) (sym (ap (λ rs. rs ++ resolved_by (waits_in new)) rolled ∙ ap (λ cs. rolled_in (txns_in old) ++ resolved_by cs) waits)) (was.resolving f));
  ended = (
    λ m. (txn_without a.txn a.txn s.sessions.active m).1 refl,
    subst (λ n. a.txn < n) (sym was.txns.next) (all_among (λ (b : SessionTxn). b.txn < next_in (txns_in old)) (undos_in (txns_in old)) a (txns_in old).below (subst (IsAmong a) was.txns.active can.0)),
  );
  once = λ m.
      let q = map_among (λ (x : ResolvedTxn). x.txn) a.txn (resolved_by (waits_in new)) m in
      let w = among_made as_resolved q.0 (waits_in old) (subst (λ cs. IsAmong q.0 (resolved_by cs)) waits q.1) in
      (was.waits.ended w.0 q.0 w.1 w.2).0 (subst (λ t. IsAmong t (txns_of s.sessions.active)) (sym ((resolve_is w.0.txn w.0.call q.0 w.2).0 ∙ q.2)) (among_map (λ (b : SessionTxn). b.txn) a s.sessions.active can.0));
  locks = ap (left a.txn) was.locks ∙ sym locks;
}
  where
    r : ResolvedTxn
    r = record { txn = a.txn; global = global; outcome = Commit }

    left : ℕ → Table → Table
    left txn t = record { limit = t.limit; requests = released txn t.requests }
