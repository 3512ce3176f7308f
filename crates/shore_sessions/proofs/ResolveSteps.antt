-- What a decision of a resolve makes of the sessions, and of a table: it frees the session that is in the transaction.
use Rattle.std.proofs.Common.{◌≡◌, ◌≢◌, ◌⊎◌, inl, inr, ⊎_elim, ◌+◌, ◌<◌, ◌≤◌, ◌++◌, ◌∷◌, ◌==◌, [], ℕ, List, Bool, true, false, cond, None, Some, is_some, unwrap_or, refl, sym, ap, subst, ◌∙◌, arith, length, map}
use Rattle.std.specs.Prelude.{◌&&◌, ◌||◌, not, reverse}
use Rattle.std.specs.List.{cons_option, filter_map}
use Rattle.std.specs.List.Sorted.{IsPermutation}
use Rattle.std.proofs.lemmas.Bool.{eqb-false, eqb-true, ne_eqb}
use Rattle.std.proofs.lemmas.List.Elements.{filter_map-append}
use Rattle.std.proofs.lemmas.List.Sorted.{IsPermutation-append_left, IsPermutation-middle, IsPermutation-sym, IsPermutation-trans}
use Rattle.shore_types.specs.declared.layout.TheConstants.{ENDING_COST}
use Rattle.shore_model.specs.declared.calls.Outcome.TheVariants as outcome
use Rattle.shore_model.specs.declared.log_records.LogRecord.{LogRecord}
use Rattle.shore_model.specs.declared.log_records.Payload.TheVariants as payload
use Rattle.shore_model.specs.declared.rollbacks.Rollback.TheVariants.{Whole}
use Rattle.shore_model.specs.declared.sessions.SessionState.{SessionState}
use Rattle.shore_model.specs.Histories.{free, once_decided}
use Rattle.shore_model.specs.Logs as logs
use Rattle.shore_model.specs.Logs.{prepare_number, previous_of, unanswered}
use Rattle.shore_logrec.specs.Text.{cost_of}
use Rattle.laws_lives.specs.Sessions.{PreparedTxn, ResolvedTxn, SessionTxn, Sessions, in_txn, txns_of, with_undo, without_prepared}
use Rattle.laws_lives.specs.UndoLists.{undo_rolled}
use Rattle.laws_lives.specs.Views.{IsAmong}
use Rattle.laws_lives.proofs.UnansweredChanges.{unanswered_own}
use Rattle.laws_calls.specs.Resolves.{IsResolvable, rollback_decided, rollback_done, rollback_number}
use Rattle.laws_calls.specs.States.{State, cost_of_log}
use Rattle.shore_txn.specs.ActiveTxns.{OneBecomes, OneLeaves}
use Rattle.shore_txn.specs.Numbers.{first_with}
use Rattle.shore_txn.specs.Transactions.{next_in, prepared_in, room_in, undos_in}
use Rattle.shore_txn.specs.Transactions as table
use Rattle.shore_txn.specs.TxnStates.{is_in_doubt}
use Rattle.shore_txn.specs.Txns.{IsAfterDecision, first_of, global_of, number_of, state_of}
use Rattle.shore_txn.specs.UndoEntries.{HaveClaims}
use Rattle.shore_txn.specs.declared.transactions.Transactions.{Transactions}
use Rattle.shore_txn.specs.declared.txn.Txn.{Txn}
use Rattle.shore_txn.specs.declared.txn_state.TxnState.TheVariants as state
use Rattle.shore_txn.specs.declared.undo.UndoEntry.{UndoEntry}
use Rattle.shore_txn.proofs.ActiveOthers.{each_becomes}
use Rattle.shore_txn.proofs.ActiveSteps.{one_at_number}
use Rattle.shore_txn.proofs.OneOfMany.{among_map, among_middle}
use Rattle.shore_sessions.specs.Calls.{as_resolved, awaits_record, caller_of, names_of, resolved_by}
use Rattle.shore_sessions.specs.Controls.{txns_in, waits_in}
use Rattle.shore_sessions.specs.Seated.{IsNamed, IsSeated, as_rolled, is_rolled, rolled_in}
use Rattle.shore_sessions.specs.Standing.{HasControl, HasTxns, HasWaits, IsLogged, as_change}
use Rattle.shore_sessions.specs.declared.control.Control.{Control}
use Rattle.shore_sessions.specs.declared.waits.WaitingCall.{WaitingCall}
use Rattle.shore_sessions.proofs.FirstNumbers.{first_own, prepare_not}
use Rattle.shore_sessions.proofs.Lists.{all_by_members, among_either, among_passing}
use Rattle.shore_sessions.proofs.LogSteps.{cost_push, previous_own, rollback_own, room_on}
use Rattle.shore_sessions.proofs.Permuted.{among_made, filtered, made_without, permuted_among}
use Rattle.shore_sessions.proofs.Rolled.{is_rolled_so, resolve_is, rolled_is, undecided}
use Rattle.shore_sessions.proofs.SeatSteps.{its_seats}
use Rattle.shore_sessions.proofs.Seats.{doubt_there}
use Rattle.shore_sessions.proofs.TxnSteps.{above_pushed, each_was, logged_beside, names_were}
use Rattle.shore_sessions.proofs.WaitSteps.{fewer_active, still_asks}

clash : true ≡ false → ⊥
clash e = cc

-- ---- a decision on a transaction

-- It frees the session that is in the transaction, prepared; any other is in what it was in.
pub decided_at : (p : SessionState) (t : ℕ)
    → ((p.txn ≡ t) × (p.prepared ≡ true) × (once_decided p t ≡ free)) ⊎ ((once_decided p t ≡ p) × (p.txn ≡ t → p.prepared ≡ false))
decided_at p t =
    (elim (p.txn == t) as (λ b. (p.txn == t) ≡ b → ((p.txn ≡ t) × (p.prepared ≡ true) × (cond (b && p.prepared) free p ≡ free)) ⊎ ((cond (b && p.prepared) free p ≡ p) × (p.txn ≡ t → p.prepared ≡ false))) [
      | true ↦ λ is. (elim p.prepared as (λ c. p.prepared ≡ c → ((p.txn ≡ t) × (p.prepared ≡ true) × (cond c free p ≡ free)) ⊎ ((cond c free p ≡ p) × (p.txn ≡ t → p.prepared ≡ false))) [
        | true ↦ λ on. inl (eqb-true p.txn t is, on, refl)
        | false ↦ λ off. inr (refl, λ same. off)
      ]) refl
      | false ↦ λ is. inr (refl, λ same. absurd (eqb-false p.txn t is same))
    ]) refl

-- a session in no transaction, or in one that is not prepared, or in another, is where it was
pub free_still : (t : ℕ) → once_decided free t ≡ free
free_still t = ⊎_elim (λ freed. freed.2) (λ still. still.0) (decided_at free t)

pub txn_still : (p : SessionState) (t u : ℕ) → p ≡ in_txn u → once_decided p t ≡ p
txn_still p t u is = ⊎_elim (λ freed. absurd (clash (sym freed.1 ∙ ap (λ (x : SessionState). x.prepared) is))) (λ still. still.0) (decided_at p t)

pub other_still : (p : SessionState) (t : ℕ) → p.txn ≢ t → once_decided p t ≡ p
other_still p t other = ⊎_elim (λ freed. absurd (other freed.0)) (λ still. still.0) (decided_at p t)

-- .. so whose transaction is another is in it still
pub decided_others : (s t : Sessions) (number : ℕ) → ((n : ℕ) → t.seats n ≡ once_decided (s.seats n) number) → (u : Txn) → number_of u ≢ number → IsSeated s u → IsSeated t u
decided_others s t number seats u other is = record {
  own = λ seated.
      let at = is.own seated in
      seats u.session ∙ other_still (s.seats u.session) number (λ same. other (sym (ap (λ (p : SessionState). p.txn) at) ∙ same)) ∙ at;
  alone = λ n at. ⊎_elim
      (λ freed. let some = u.some in let none = sym (ap (λ (p : SessionState). p.txn) (seats n ∙ freed.2)) ∙ at in absurd (omega (arith, some, none)))
      (λ still. is.alone n (sym (ap (λ (p : SessionState). p.txn) (seats n ∙ still.0)) ∙ at))
      (decided_at (s.seats n) number);
}

pub decided_below : (s : Sessions) (number next : ℕ) → 1 ≤ next → ((n : ℕ) → (s.seats n).txn < next) → (n : ℕ) → (once_decided (s.seats n) number).txn < next
decided_below s number next some below n = ⊎_elim
    (λ freed. subst (λ (p : SessionState). p.txn < next) (sym freed.2) (omega (arith, some)))
    (λ still. subst (λ (p : SessionState). p.txn < next) (sym still.0) (below n))
    (decided_at (s.seats n) number)

-- ---- the one that a resolve decides

module _ (txns : Transactions) (s : State) (was : HasTxns txns s) (a : SessionTxn) (global : List ℕ) (can : IsResolvable s a global) where
  -- it is in doubt in the table, and its prepare is answered there
  pub resolvable_there : (t : Txn) → IsAmong t (table.txns_in txns) → number_of t ≡ a.txn → (is_in_doubt (state_of t) ≡ true) × (unwrap_or (global_of t) [] ≡ global)
  resolvable_there t m at =
      let u = doubt_there txns s was (record { txn = a.txn; global = global; answered = true }) can.1 in
      let same : u.0 ≡ t = one_at_number (table.txns_in txns) txns.numbers u.0 t u.1 m (u.2.txn ∙ sym at) in (
        subst (λ (x : Txn). is_in_doubt (state_of x) ≡ true) same u.2.doubt,
        ap (λ (x : Txn). unwrap_or (global_of x) []) (sym same) ∙ u.2.global,
      )

  -- so none waits for its prepare, nor asks for a lock with it
  pub not_preparing : (t : ℕ) (name : List ℕ) → IsAmong (record { txn = t; global = name; answered = false }) s.sessions.prepared → t ≢ a.txn
  not_preparing t name m same =
      let u = doubt_there txns s was (record { txn = a.txn; global = global; answered = true }) can.1 in
      let v = doubt_there txns s was (record { txn = t; global = name; answered = false }) m in
      let one : u.0 ≡ v.0 = one_at_number (table.txns_in txns) txns.numbers u.0 v.0 u.1 v.1 (u.2.txn ∙ sym same ∙ sym v.2.txn) in
      ⊎_elim (λ waits. clash (sym waits.1)) (λ preparing. ⊎_elim
      (λ waits. apart (sym waits.0 ∙ ap state_of one ∙ preparing.0))
      (λ never. clash never.1) u.2.answered) v.2.answered
    where
      apart : state.Prepared ≡ state.Preparing → ⊥
      apart e = cc

  pub not_asking : (n t : ℕ) → s.sessions.seats n ≡ in_txn t → t ≢ a.txn
  not_asking n t in_it same =
      let u = doubt_there txns s was (record { txn = a.txn; global = global; answered = true }) can.1 in
      let of = (its_seats txns s.sessions was.seats u.0 u.1).alone n (ap (λ (p : SessionState). p.txn) in_it ∙ same ∙ sym u.2.txn) in
      clash (sym u.2.doubt ∙ ap (λ (p : SessionState). p.prepared) (sym ((its_seats txns s.sessions was.seats u.0 u.1).own of.0) ∙ ap s.sessions.seats of.1 ∙ in_it))

-- ---- a rollback that a resolve decided has ended

module _ (old new : Control) (s : State) (was : HasControl old s) (works : s.failed ≡ false) (a : SessionTxn) (r : ResolvedTxn) (m : IsAmong a s.sessions.active) (there : IsAmong r s.sessions.resolving) (own : r.txn ≡ a.txn)
    {number : ℕ} {changes : List UndoEntry} (one : OneLeaves number changes (table.txns_in (txns_in old)) (table.txns_in (txns_in new))) (at : a.txn ≡ number) where
  one_among : IsAmong one.one (table.txns_in (txns_in old))
  one_among = subst (IsAmong one.one) (sym one.was) (among_middle one.newer one.older one.one)

  -- the table has it as decided
  pub rolled_one : as_rolled one.one ≡ Some r
  rolled_one = ⊎_elim
      (λ rolled.
      let t = among_made as_rolled r (table.txns_in (txns_in old)) rolled in
      let same : t.0 ≡ one.one = one_at_number (table.txns_in (txns_in old)) (txns_in old).numbers t.0 one.one t.1 one_among ((rolled_is t.0 r t.2).txn ∙ own ∙ at ∙ sym one.txn) in
      ap as_rolled (sym same) ∙ t.2)
      (λ resolved.
      let w = among_made as_resolved r (waits_in old) resolved in
      absurd ((was.waits.ended w.0 r w.1 w.2).0 (subst (λ t. IsAmong t (txns_of s.sessions.active)) (sym ((resolve_is w.0.txn w.0.call r w.2).0 ∙ own)) (among_map (λ (b : SessionTxn). b.txn) a s.sessions.active m))))
      (among_either r (rolled_in (txns_in old)) (resolved_by (waits_in old)) (permuted_among s.sessions.resolving (rolled_in (txns_in old) ++ resolved_by (waits_in old)) (was.resolving works) r there))

  -- so no session is in it
  pub nobody_in : (n t : ℕ) → s.sessions.seats n ≡ in_txn t → t ≢ a.txn
  nobody_in n t in_it same =
      let of = (its_seats (txns_in old) s.sessions was.txns.seats one.one one_among).alone n (ap (λ (p : SessionState). p.txn) in_it ∙ same ∙ at ∙ sym one.txn) in
      let left = (names_were (txns_in old) (txns_in old) s was.txns one.one one_among).left (rolled_is one.one r rolled_one).rolled in
      clash (sym of.0 ∙ left.0)

  parts : rolled_in (txns_in old) ≡ filter_map as_rolled one.newer ++ r ∷ filter_map as_rolled one.older
  parts =
      ap (filter_map as_rolled) one.was ∙ filter_map-append as_rolled one.newer (one.one ∷ one.older)
      ∙ ap (λ o. filter_map as_rolled one.newer ++ cons_option o (filter_map as_rolled one.older)) rolled_one

  rest : rolled_in (txns_in new) ≡ filter_map as_rolled one.newer ++ filter_map as_rolled one.older
  rest = ap (filter_map as_rolled) one.is ∙ filter_map-append as_rolled one.newer one.older

  pub resolving_but : waits_in new ≡ waits_in old → IsPermutation s.sessions.resolving (r ∷ (rolled_in (txns_in new) ++ resolved_by (waits_in new)))
  resolving_but waits =
      subst (λ rs. IsPermutation s.sessions.resolving (r ∷ rs)) (ap (λ rs. rs ++ resolved_by (waits_in old)) (sym rest) ∙ ap (λ cs. rolled_in (txns_in new) ++ resolved_by cs) (sym waits))
      (IsPermutation-trans s.sessions.resolving (rolled_in (txns_in old) ++ resolved_by (waits_in old)) (r ∷ ((filter_map as_rolled one.newer ++ filter_map as_rolled one.older) ++ resolved_by (waits_in old)))
      (was.resolving works)
      (subst (λ rs. IsPermutation (rs ++ resolved_by (waits_in old)) (r ∷ ((filter_map as_rolled one.newer ++ filter_map as_rolled one.older) ++ resolved_by (waits_in old)))) (sym parts)
      (IsPermutation-append_left (resolved_by (waits_in old)) (filter_map as_rolled one.newer ++ r ∷ filter_map as_rolled one.older) (r ∷ (filter_map as_rolled one.newer ++ filter_map as_rolled one.older))
      (IsPermutation-middle (filter_map as_rolled one.newer) r (filter_map as_rolled one.older)))))

  pub waits_rolled : HasWaits (waits_in old) (rollback_done s a)
  waits_rolled = record {
    waiting = was.waits.waiting;
    kinds = was.waits.kinds;
    asking = λ w n is. let its = was.waits.asking w n is in (still_asks (waits_in old) s was.waits a w n is (nobody_in w.session w.txn its.1), its.1);
    preparing = was.waits.preparing;
    ended = λ w q n is. let its = was.waits.ended w q n is in ((λ k. its.0 (fewer_active (waits_in old) s was.waits a w.txn k)), its.1, its.2);
    once = was.waits.once;
  }

-- ---- a rollback is decided

module _ (old new : Transactions) (s : State) (was : HasTxns old s) (a : SessionTxn) (global : List ℕ) (can : IsResolvable s a global) {number : ℕ} (lsn : ℕ)
    (one : OneBecomes number (IsAfterDecision lsn) (table.txns_in old) (table.txns_in new)) (at : a.txn ≡ number) (next_lsn : lsn ≡ 1 + length s.log) where
  abbrev decision : LogRecord
  decision = record { txn = a.txn; previous = previous_of a.txn s.log; payload = payload.RollbackDecided }

  abbrev pub decided_state : State
  decided_state = rollback_decided s a global

  before_there : IsAmong one.before (table.txns_in old)
  before_there = subst (IsAmong one.before) (sym one.was) (among_middle one.newer one.older one.before)

  before_doubt : (is_in_doubt (state_of one.before) ≡ true) × (unwrap_or (global_of one.before) [] ≡ global)
  before_doubt = resolvable_there old s was a global can one.before before_there (one.txn ∙ sym at)

  after_is : number_of one.after ≡ a.txn
  after_is = one.becomes.txn ∙ one.txn ∙ sym at

  others_in : (u : Txn) → number_of u ≢ number → IsSeated s.sessions u → IsSeated decided_state.sessions u
  others_in u other is = decided_others s.sessions decided_state.sessions a.txn (λ n. refl) u (λ same. other (same ∙ at)) is

  nobody : IsSeated s.sessions one.before → IsSeated decided_state.sessions one.after
  nobody is = record {
    own = λ seated. absurd (clash (sym seated ∙ one.becomes.seated));
    alone = λ n now. ⊎_elim
        (λ freed. let some = one.after.some in let none = sym (ap (λ (p : SessionState). p.txn) freed.2) ∙ now in absurd (omega (arith, some, none)))
        (λ still.
        let there = sym (ap (λ (p : SessionState). p.txn) still.0) ∙ now in
        let of = is.alone n (there ∙ one.becomes.txn) in
        let p = ap s.sessions.seats (sym of.1) ∙ is.own of.0 in
        absurd (clash (sym before_doubt.0 ∙ ap (λ (x : SessionState). x.prepared) (sym p) ∙ still.1 (there ∙ after_is))))
        (decided_at (s.sessions.seats n) a.txn);
  }

  is_now_rolled : is_rolled one.after ≡ true
  is_now_rolled = ap (λ n. not (n == 0)) (one.becomes.decided ∙ next_lsn) ∙ ap not (ne_eqb (1 + length s.log) 0 (λ zero_is. omega (arith, zero_is)))

  or_true : (b : Bool) → (b || true) ≡ true
  or_true true = refl
  or_true false = refl

  after_named : IsNamed one.before → IsNamed one.after
  after_named is = record {
    named =
        ap is_some one.becomes.global ∙ is.named ∙ ap (λ b. b || is_rolled one.before) before_doubt.0
        ∙ sym (ap (λ b. is_in_doubt (state_of one.after) || b) is_now_rolled ∙ or_true (is_in_doubt (state_of one.after)));
    left = λ rolled. (one.becomes.seated, ap is_in_doubt one.becomes.state);
  }

  after_logged : IsLogged s.log one.before → IsLogged (s.log ++ decision ∷ []) one.after
  after_logged before =
      let some = one.after.some in
      let number_is = after_is in record {
        first =
            one.becomes.first ∙ ap (first_with (first_of one.before)) next_lsn ∙ ap (λ n. first_with n (1 + length s.log)) (before.first ∙ ap (λ n. logs.first_of n s.log) (sym one.becomes.txn ∙ after_is))
            ∙ sym (first_own s.log decision) ∙ ap (λ n. logs.first_of n (s.log ++ decision ∷ [])) (sym after_is);
        last = one.becomes.last ∙ next_lsn ∙ sym (previous_own s.log decision (omega (arith, number_is, some))) ∙ ap (λ n. previous_of n (s.log ++ decision ∷ [])) (sym after_is);
        changes =
            unanswered_own (number_of one.after) s.log decision (sym after_is)
            ∙ ap (λ n. unanswered n s.log) one.becomes.txn ∙ before.changes ∙ ap (λ (es : List UndoEntry). reverse (map as_change es)) (sym one.becomes.entries);
        claims = subst HaveClaims (sym one.becomes.entries) before.claims;
        prepare = one.becomes.prepare ∙ before.prepare ∙ ap (λ n. prepare_number n s.log) (sym one.becomes.txn) ∙ sym (prepare_not (number_of one.after) s.log decision refl);
        unprepared = λ none. one.becomes.prepare ∙ before.unprepared (sym one.becomes.global ∙ none);
        decided = one.becomes.decided ∙ next_lsn ∙ sym (rollback_own s.log decision refl) ∙ ap (λ n. rollback_number n (s.log ++ decision ∷ [])) (sym after_is);
      }

  pub txns_decided : undos_in new ≡ with_undo a.txn (undo_rolled a.undo a.undo.images Whole) (undos_in old) → prepared_in new ≡ without_prepared number (prepared_in old) → next_in new ≡ next_in old
      → (room_in new).kept ≡ (room_in old).kept + ENDING_COST → (room_in new).stream_bytes ≡ (room_in old).stream_bytes → HasTxns new decided_state
  txns_decided undos doubts next kept stream = record {
    active = ap (with_undo a.txn (undo_rolled a.undo a.undo.images Whole)) was.active ∙ sym undos;
    prepared = subst (λ ps. IsPermutation (without_prepared a.txn s.sessions.prepared) ps) (ap (λ n. without_prepared n (prepared_in old)) at ∙ sym doubts)
        (filtered (λ (p : PreparedTxn). not (a.txn == p.txn)) s.sessions.prepared (prepared_in old) was.prepared);
    seats = all_by_members (IsSeated decided_state.sessions) (table.txns_in new)
        (each_becomes (IsSeated s.sessions) (IsSeated decided_state.sessions) old.numbers (its_seats old s.sessions was.seats) one others_in nobody);
    entered = λ n. subst (λ k. (decided_state.sessions.seats n).txn < k) (sym next) (decided_below s.sessions a.txn (next_in old) old.some was.entered n);
    names = all_by_members IsNamed (table.txns_in new) (each_becomes IsNamed IsNamed old.numbers (names_were old new s was) one (λ u other is. is) after_named);
    next = was.next ∙ sym next;
    room = room_on (room_in old).kept (cost_of_log s.log) (cost_of decision.payload) refl kept (cost_push s.log decision) stream was.room;
    each = all_by_members (IsLogged (s.log ++ decision ∷ [])) (table.txns_in new)
        (each_becomes (IsLogged s.log) (IsLogged (s.log ++ decision ∷ [])) old.numbers (each_was old new s was) one (λ u apart is. logged_beside s.log decision u (λ same. apart (sym same ∙ at)) is) after_logged);
    above = above_pushed old new s was a payload.RollbackDecided can.0 next;
  }

  -- the table has it as decided, and had it not
  pub rolled_now : IsPermutation (record { txn = a.txn; global = global; outcome = outcome.Abort } ∷ rolled_in old) (rolled_in new)
  rolled_now =
      let r : ResolvedTxn = record { txn = a.txn; global = global; outcome = outcome.Abort } in
      subst (λ rs. IsPermutation (r ∷ rs) (rolled_in new)) (sym was_rolled)
      (subst (IsPermutation (r ∷ (filter_map as_rolled one.newer ++ filter_map as_rolled one.older))) (sym is_rolled_now)
      (IsPermutation-sym (filter_map as_rolled one.newer ++ r ∷ filter_map as_rolled one.older) (r ∷ (filter_map as_rolled one.newer ++ filter_map as_rolled one.older))
      (IsPermutation-middle (filter_map as_rolled one.newer) r (filter_map as_rolled one.older))))
    where
      not_rolled : as_rolled one.before ≡ None
      not_rolled = undecided one.before (λ rolled. clash (sym before_doubt.0 ∙ ((names_were old new s was one.before before_there).left rolled).1))

      was_rolled : rolled_in old ≡ filter_map as_rolled one.newer ++ filter_map as_rolled one.older
      was_rolled =
          ap (filter_map as_rolled) one.was ∙ made_without as_rolled one.newer one.older one.before not_rolled ∙ filter_map-append as_rolled one.newer one.older

      after_rolled : as_rolled one.after ≡ Some record { txn = a.txn; global = global; outcome = outcome.Abort }
      after_rolled =
          is_rolled_so one.after is_now_rolled
          ∙ ap (λ n. Some record { txn = n; global = unwrap_or (global_of one.after) []; outcome = outcome.Abort }) after_is
          ∙ ap (λ g. Some record { txn = a.txn; global = g; outcome = outcome.Abort }) (ap (λ g. unwrap_or g []) one.becomes.global ∙ before_doubt.1)

      is_rolled_now : rolled_in new ≡ filter_map as_rolled one.newer ++ record { txn = a.txn; global = global; outcome = outcome.Abort } ∷ filter_map as_rolled one.older
      is_rolled_now =
          ap (filter_map as_rolled) one.is ∙ filter_map-append as_rolled one.newer (one.after ∷ one.older)
          ∙ ap (λ o. filter_map as_rolled one.newer ++ cons_option o (filter_map as_rolled one.older)) after_rolled

-- ---- the calls, as the transaction is decided

module _ (calls : List WaitingCall) (s : State) (was : HasWaits calls s) (a : SessionTxn) (t : State) (waiting : t.waiting ≡ s.waiting) (prepared : t.sessions.prepared ≡ without_prepared a.txn s.sessions.prepared) (next : t.sessions.next_txn ≡ s.sessions.next_txn)
    (seats : (n : ℕ) → t.sessions.seats n ≡ once_decided (s.sessions.seats n) a.txn)
    (others : (k : ℕ) (name : List ℕ) → IsAmong (record { txn = k; global = name; answered = false }) s.sessions.prepared → k ≢ a.txn) where
  pub waits_decided : ((w : WaitingCall) → IsAmong w calls → awaits_record w ≡ false → IsAmong (caller_of w) (names_of t.sessions.active))
      → ((k : ℕ) → IsAmong k (txns_of t.sessions.active) → IsAmong k (txns_of s.sessions.active)) → HasWaits calls t
  waits_decided asks fewer = record {
    waiting = waiting ∙ was.waiting;
    kinds = was.kinds;
    asking = λ w m is. (asks w m is, seats w.session ∙ txn_still (s.sessions.seats w.session) a.txn w.txn (was.asking w m is).1 ∙ (was.asking w m is).1);
    preparing = λ w name m is.
        let its = was.preparing w name m is in
        let other = others w.txn name its.0 in (
          subst (IsAmong (record { txn = w.txn; global = name; answered = false })) (sym prepared)
              (among_passing (λ (p : PreparedTxn). not (a.txn == p.txn)) (record { txn = w.txn; global = name; answered = false }) s.sessions.prepared its.0
              (ap not (ne_eqb a.txn w.txn (λ same. other (sym same))))),
          seats w.session ∙ other_still (s.sessions.seats w.session) a.txn (λ same. other (sym (ap (λ (p : SessionState). p.txn) its.1) ∙ same)) ∙ its.1,
        );
    ended = λ w q m is.
        let its = was.ended w q m is in
        ((λ k. its.0 (fewer w.txn k)), subst (λ k. w.txn < k) (sym next) its.1, seats w.session ∙ ap (λ p. once_decided p a.txn) its.2 ∙ free_still a.txn);
    once = was.once;
  }
