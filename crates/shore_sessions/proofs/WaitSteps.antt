-- What the calls that wait tell of a state, and what each step makes of them.
use Rattle.std.proofs.Common.{◌≡◌, ◌≢◌, ◌<◌, inr, ⊎_elim, ◌++◌, ◌∷◌, [], ℕ, List, None, Some, Bool, true, false, cond, refl, sym, ap, subst, ◌∙◌, append-nil, arith, map}
use Rattle.std.specs.Prelude.{◌==◌, All, filter, not, reverse}
use Rattle.std.specs.List.{cons_option}
use Rattle.std.proofs.lemmas.Bool.{ne_eqb}
use Rattle.std.proofs.lemmas.List.Elements.{filter_map-append}
use Rattle.std.proofs.lemmas.List.{map-append, reverse-append}
use Rattle.shore_types.specs.declared.locking.Granule.{Granule}
use Rattle.shore_model.specs.declared.calls.Call.{Call}
use Rattle.shore_model.specs.declared.calls.Call.TheVariants as call
use Rattle.shore_model.specs.declared.calls.Outcome.{Outcome}
use Rattle.shore_model.specs.Histories.{free}
use Rattle.laws_lives.specs.Sessions.{EachOnce, ResolvedTxn, SessionTxn, in_txn, txns_of, with_undo, without_txn}
use Rattle.laws_lives.specs.UndoLists.{UndoList}
use Rattle.laws_lives.specs.Views.{IsAmong}
use Rattle.laws_lives.proofs.Members.{member_stays}
use Rattle.laws_calls.specs.StateChanges.{begun, wait_refused}
use Rattle.laws_calls.specs.CallSteps.{lock_waiting}
use Rattle.laws_calls.specs.States.{DoesNotWait, HasSeat, IsOfSession, State, Waiting, without_waiting}
use Rattle.shore_model.specs.declared.step.Wait.TheVariants.{Lock}
use Rattle.shore_txn.proofs.OneOfMany.{among_map, map_among, once_same}
use Rattle.shore_sessions.specs.Calls.{as_resolved, as_waiting, as_waitings, awaits_record, caller_of, logs_decision, name_of, names_of, resolved_as, resolved_by}
use Rattle.shore_sessions.specs.Standing.{HasWaits}
use Rattle.shore_sessions.specs.declared.waits.WaitingCall.{WaitingCall}
use Rattle.shore_sessions.proofs.Lists.{among_either, among_filtered, among_turned, filter-map, filter-reverse, filter_all, turned_among}
use Rattle.shore_sessions.proofs.Permuted.{among_made, made_among, made_passing}
use Rattle.shore_sessions.proofs.Taking.{AreApart, among_all, is_other, one_of_session, own_is_not_other}

-- ---- lists

pub waitings-push : (calls : List WaitingCall) (w : WaitingCall) → as_waitings (calls ++ w ∷ []) ≡ as_waiting w ∷ as_waitings calls
waitings-push calls w = ap reverse (map-append as_waiting calls (w ∷ [])) ∙ reverse-append (map as_waiting calls) (as_waiting w ∷ [])

waitings-taken : (session : ℕ) (calls : List WaitingCall) → without_waiting session (as_waitings calls) ≡ as_waitings (filter (is_other session) calls)
waitings-taken session calls =
    filter-reverse (λ w. not (w.session == session)) (map as_waiting calls) ∙ ap reverse (filter-map as_waiting (λ w. not (w.session == session)) calls)

-- another undo list leaves the names
pub names-with_undo : (t : ℕ) (undo : UndoList) (xs : List SessionTxn) → names_of (with_undo t undo xs) ≡ names_of xs
names-with_undo t undo [] = refl
names-with_undo t undo (x ∷ xs) =
    elim (x.txn == t) as (λ b. name_of (cond b (record { session = x.session; txn = x.txn; undo = undo }) x) ∷ names_of (with_undo t undo xs) ≡ name_of x ∷ names_of xs) [
      | true ↦ ap (λ ns. name_of x ∷ ns) (names-with_undo t undo xs)
      | false ↦ ap (λ ns. name_of x ∷ ns) (names-with_undo t undo xs)
    ]

-- the numbers are those of the names
pub numbers_named : (xs : List SessionTxn) → txns_of xs ≡ map (λ n. n.1) (names_of xs)
numbers_named [] = refl
numbers_named (x ∷ xs) = ap (λ ns. x.txn ∷ ns) (numbers_named xs)

pub resolved_pushed : (calls : List WaitingCall) (w : WaitingCall) → resolved_by (calls ++ w ∷ []) ≡ resolved_by calls ++ resolved_by (w ∷ [])
resolved_pushed calls w = filter_map-append as_resolved calls (w ∷ [])

-- one that resolves nothing
pub resolved_still : (calls : List WaitingCall) (w : WaitingCall) → as_resolved w ≡ None → resolved_by (calls ++ w ∷ []) ≡ resolved_by calls
resolved_still calls w none = resolved_pushed calls w ∙ ap (λ o. resolved_by calls ++ cons_option o []) none ∙ append-nil (resolved_by calls)

-- in a list of which some are taken no element comes twice
once_taken : (p : WaitingCall → Bool) (calls : List WaitingCall) → EachOnce (map (λ (r : ResolvedTxn). r.txn) (resolved_by calls)) → EachOnce (map (λ (r : ResolvedTxn). r.txn) (resolved_by (filter p calls)))
once_taken p [] once = once
once_taken p (w ∷ ws) once =
    (elim (as_resolved w) as (λ o. as_resolved w ≡ o → EachOnce (map (λ (r : ResolvedTxn). r.txn) (cons_option o (resolved_by ws))) → EachOnce (map (λ (r : ResolvedTxn). r.txn) (resolved_by (filter p (w ∷ ws))))) [
      | None ↦ λ is all. elim (p w) as (λ b. EachOnce (map (λ (r : ResolvedTxn). r.txn) (resolved_by (cond b (w ∷ filter p ws) (filter p ws))))) [
        | true ↦ subst (λ o. EachOnce (map (λ (r : ResolvedTxn). r.txn) (cons_option o (resolved_by (filter p ws))))) (sym is) (once_taken p ws all)
        | false ↦ once_taken p ws all
      ]
      | Some r ↦ λ is all. elim (p w) as (λ b. EachOnce (map (λ (r : ResolvedTxn). r.txn) (resolved_by (cond b (w ∷ filter p ws) (filter p ws))))) [
        | true ↦ subst (λ o. EachOnce (map (λ (r : ResolvedTxn). r.txn) (cons_option o (resolved_by (filter p ws))))) (sym is) ((λ m. all.0 (still_among r.txn m)), once_taken p ws all.1)
        | false ↦ once_taken p ws all.1
      ]
    ]) refl once
  where
    still_among : (t : ℕ) → IsAmong t (map (λ (r : ResolvedTxn). r.txn) (resolved_by (filter p ws))) → IsAmong t (map (λ (r : ResolvedTxn). r.txn) (resolved_by ws))
    still_among t m =
        let r = map_among (λ (r : ResolvedTxn). r.txn) t (resolved_by (filter p ws)) m in
        let w = among_made as_resolved r.0 (filter p ws) r.1 in
        subst (λ n. IsAmong n (map (λ (r : ResolvedTxn). r.txn) (resolved_by ws))) r.2
        (among_map (λ (r : ResolvedTxn). r.txn) r.0 (resolved_by ws) (made_among as_resolved w.0 r.0 ws (among_filtered p w.0 ws w.1).0 w.2))

-- ---- which calls wait for a record

clash : true ≡ false → ⊥
clash e = cc

clash_some : (r : ResolvedTxn) → None ≡ Some r → ⊥
clash_some r e = cc

-- a call that logs no decision is no prepare and no resolve
pub never_prepares : (c : Call) → logs_decision c ≡ false → (global : List ℕ) → c ≡ call.Prepare global → ⊥
never_prepares c plain global is = clash (sym (ap logs_decision is) ∙ plain)

pub never_resolves : (t : ℕ) (c : Call) → logs_decision c ≡ false → resolved_as t c ≡ None
never_resolves t call.Begin plain = refl
never_resolves t (call.Get id) plain = refl
never_resolves t (call.GetForUpdate id) plain = refl
never_resolves t (call.Insert store bytes) plain = refl
never_resolves t (call.Update id bytes) plain = refl
never_resolves t (call.Delete id) plain = refl
never_resolves t (call.Scan store) plain = refl
never_resolves t (call.Lock at mode) plain = refl
never_resolves t (call.TryLock at mode) plain = refl
never_resolves t call.Savepoint plain = refl
never_resolves t (call.BackTo index) plain = refl
never_resolves t call.Commit plain = refl
never_resolves t call.Abort plain = refl
never_resolves t (call.Prepare global) plain = refl
never_resolves t (call.Resolve global asked) plain = absurd (clash plain)
never_resolves t call.InDoubt plain = refl

-- a call that logs a decision is a prepare or a resolve
pub one_of_two : {P : Type 0} (c : Call) → logs_decision c ≡ true → ((global : List ℕ) → c ≡ call.Prepare global → P)
    → ((global : List ℕ) (asked : Outcome) → c ≡ call.Resolve global asked → P) → P
one_of_two (call.Prepare global) logs prepare resolve = prepare global refl
one_of_two (call.Resolve global asked) logs prepare resolve = resolve global asked refl
one_of_two call.Begin logs prepare resolve = absurd (clash (sym logs))
one_of_two (call.Get id) logs prepare resolve = absurd (clash (sym logs))
one_of_two (call.GetForUpdate id) logs prepare resolve = absurd (clash (sym logs))
one_of_two (call.Insert store bytes) logs prepare resolve = absurd (clash (sym logs))
one_of_two (call.Update id bytes) logs prepare resolve = absurd (clash (sym logs))
one_of_two (call.Delete id) logs prepare resolve = absurd (clash (sym logs))
one_of_two (call.Scan store) logs prepare resolve = absurd (clash (sym logs))
one_of_two (call.Lock at mode) logs prepare resolve = absurd (clash (sym logs))
one_of_two (call.TryLock at mode) logs prepare resolve = absurd (clash (sym logs))
one_of_two call.Savepoint logs prepare resolve = absurd (clash (sym logs))
one_of_two (call.BackTo index) logs prepare resolve = absurd (clash (sym logs))
one_of_two call.Commit logs prepare resolve = absurd (clash (sym logs))
one_of_two call.Abort logs prepare resolve = absurd (clash (sym logs))
one_of_two call.InDoubt logs prepare resolve = absurd (clash (sym logs))

-- without the call of a session, which resolves nothing, the same is resolved
pub resolved_but : (calls : List WaitingCall) → AreApart calls → (session : ℕ) (w : WaitingCall) → IsAmong w calls → w.session ≡ session → as_resolved w ≡ None
    → resolved_by (filter (is_other session) calls) ≡ resolved_by calls
resolved_but calls apart session w m own none =
    sym (made_passing as_resolved (λ r. true) (is_other session) calls
    (λ v r n is. sym (ap not (ne_eqb v.session session (λ same. clash_some r (sym none ∙ ap as_resolved (sym (one_of_session calls apart v w n m (same ∙ sym own))) ∙ is))))))
    ∙ filter_all (λ (r : ResolvedTxn). true) (resolved_by calls) (λ r n. refl)

-- ---- what they tell

module _ (calls : List WaitingCall) (s : State) (was : HasWaits calls s) where
  pub call_waits : (w : WaitingCall) → IsAmong w calls → IsAmong (as_waiting w) s.waiting
  call_waits w m = subst (IsAmong (as_waiting w)) (sym was.waiting) (among_turned (as_waiting w) (map as_waiting calls) (among_map as_waiting w calls m))

  pub waiting_call : (v : Waiting) → IsAmong v s.waiting → (w : WaitingCall) × IsAmong w calls × (as_waiting w ≡ v)
  waiting_call v m = map_among as_waiting v calls (turned_among v (map as_waiting calls) (subst (IsAmong v) was.waiting m))

  pub free_waits_not : (session : ℕ) → All (λ w. w.session ≢ session) calls → DoesNotWait s session
  free_waits_not session free v m =
      let its = waiting_call v m in
      λ same. among_all (λ (w : WaitingCall). w.session ≢ session) calls free its.0 its.1 (ap (λ (x : Waiting). x.session) its.2 ∙ same)

  -- who waits for a lock is under way, and its session is in it
  pub asker_of : (w : WaitingCall) → IsAmong w calls → awaits_record w ≡ false → (a : SessionTxn) × IsAmong a s.sessions.active × (a.session ≡ w.session) × (a.txn ≡ w.txn)
  asker_of w m is =
      let its = map_among name_of (caller_of w) s.sessions.active (was.asking w m is).0 in
      (its.0, its.1, ap (λ (n : ℕ × ℕ). n.0) its.2, ap (λ (n : ℕ × ℕ). n.1) its.2)

  pub asks : ((a : SessionTxn) → IsAmong a s.sessions.active → 0 < a.txn) → (w : WaitingCall) → IsAmong w calls → awaits_record w ≡ false → (a : SessionTxn) × IsOfSession s w.session a × (a.txn ≡ w.txn)
  asks some w m is =
      let its = asker_of w m is in (
        its.0,
        ((its.1, ap s.sessions.seats its.2 ∙ (was.asking w m is).1 ∙ ap in_txn (sym its.3), some its.0 its.1), its.2),
        its.3,
      )

  -- ---- steps

  -- the names, the seats and who is in doubt stay
  pub waits_kept : (t : State) → t.waiting ≡ s.waiting → names_of t.sessions.active ≡ names_of s.sessions.active → ((n : ℕ) → t.sessions.seats n ≡ s.sessions.seats n) → t.sessions.prepared ≡ s.sessions.prepared
      → t.sessions.next_txn ≡ s.sessions.next_txn → HasWaits calls t
  waits_kept t waiting names seats prepared next = record {
    waiting = waiting ∙ was.waiting;
    kinds = was.kinds;
    asking = λ w m is. let its = was.asking w m is in (subst (IsAmong (caller_of w)) (sym names) its.0, seats w.session ∙ its.1);
    preparing = λ w global m is.
        let its = was.preparing w global m is in
        (subst (IsAmong (record { txn = w.txn; global = global; answered = false })) (sym prepared) its.0, seats w.session ∙ its.1);
    ended = λ w r m is.
        let its = was.ended w r m is in
        ((λ n. its.0 (subst (IsAmong w.txn) numbers n)), subst (λ k. w.txn < k) (sym next) its.1, seats w.session ∙ its.2);
    once = was.once;
  }
    where
      numbers : txns_of t.sessions.active ≡ txns_of s.sessions.active
      numbers = numbers_named t.sessions.active ∙ ap (map (λ (n : ℕ × ℕ). n.1)) names ∙ sym (numbers_named s.sessions.active)

  -- a call waits for a lock
  pub waits_asked : (a : SessionTxn) (c : Call) (at : Granule) → HasSeat s.sessions a → logs_decision c ≡ false
      → HasWaits (calls ++ record { session = a.session; txn = a.txn; call = c; wait = Lock at; cycle = None } ∷ []) (record s { waiting = lock_waiting a c at ∷ s.waiting })
  waits_asked a c at seat plain = let it : WaitingCall = record { session = a.session; txn = a.txn; call = c; wait = Lock at; cycle = None } in record {
    waiting = ap (λ ws. lock_waiting a c at ∷ ws) was.waiting ∙ sym (waitings-push calls it);
    kinds = λ w n. ⊎_elim (λ old. was.kinds w old) (λ new. ⊎_elim (λ same. subst (λ (v : WaitingCall). awaits_record v ≡ logs_decision v.call) same (sym plain)) (λ none. absurd none) new) (among_either w calls (it ∷ []) n);
    asking = λ w n is. ⊎_elim (λ old. was.asking w old is)
        (λ new. ⊎_elim
        (λ same. (subst (λ v. IsAmong (caller_of v) (names_of s.sessions.active)) same (among_map name_of a s.sessions.active seat.0), subst (λ (v : WaitingCall). s.sessions.seats v.session ≡ in_txn v.txn) same seat.1))
        (λ none. absurd none) new)
        (among_either w calls (it ∷ []) n);
    preparing = λ w global n is. ⊎_elim (λ old. was.preparing w global old is)
        (λ new. ⊎_elim (λ same. absurd (never_prepares c plain global (ap (λ (v : WaitingCall). v.call) same ∙ is))) (λ none. absurd none) new)
        (among_either w calls (it ∷ []) n);
    ended = λ w r n is. ⊎_elim (λ old. was.ended w r old is)
        (λ new. ⊎_elim (λ same. absurd (clash_some r (sym (never_resolves a.txn c plain) ∙ ap as_resolved same ∙ is))) (λ none. absurd none) new)
        (among_either w calls (it ∷ []) n);
    once = subst (λ (rs : List ResolvedTxn). EachOnce (map (λ r. r.txn) rs)) (sym (resolved_still calls it (never_resolves a.txn c plain))) was.once;
  }

  -- a transaction begins, of a session with no call that waits
  pub waits_begun : (session : ℕ) → DoesNotWait s session → HasWaits calls (begun s session)
  waits_begun session idle = record {
    waiting = was.waiting;
    kinds = was.kinds;
    asking = λ w m is. let its = was.asking w m is in (inr its.0, still w m ∙ its.1);
    preparing = λ w global m is. let its = was.preparing w global m is in (its.0, still w m ∙ its.1);
    ended = λ w r m is.
        let its = was.ended w r m is in
        let below = its.1 in (
          (λ n. ⊎_elim (λ same. absurd (omega (arith, below, same))) (λ later. its.0 later) n),
          omega (arith, below),
          still w m ∙ its.2,
        );
    once = was.once;
  }
    where
      still : (w : WaitingCall) → IsAmong w calls → (begun s session).sessions.seats w.session ≡ s.sessions.seats w.session
      still w m =
          ap (λ b. cond b (in_txn s.sessions.next_txn) (s.sessions.seats w.session))
          (ne_eqb session w.session (λ same. idle (as_waiting w) (call_waits w m) (sym same)))

  -- who waits for a lock is under way still if another leaves
  pub still_asks : (a : SessionTxn) (w : WaitingCall) → IsAmong w calls → awaits_record w ≡ false → w.txn ≢ a.txn → IsAmong (caller_of w) (names_of (without_txn a.txn s.sessions.active))
  still_asks a w n is other =
      let its = map_among name_of (caller_of w) s.sessions.active (was.asking w n is).0 in
      subst (λ v. IsAmong v (names_of (without_txn a.txn s.sessions.active))) its.2
      (among_map name_of its.0 (without_txn a.txn s.sessions.active) (member_stays a.txn its.0 s.sessions.active its.1 (λ same. other (sym (ap (λ (x : ℕ × ℕ). x.1) its.2) ∙ same))))

  -- .. as one of whose session no call waits
  pub other_asks : (a : SessionTxn) → IsAmong a s.sessions.active → EachOnce (txns_of s.sessions.active) → All (λ w. w.session ≢ a.session) calls
      → (w : WaitingCall) → IsAmong w calls → awaits_record w ≡ false → w.txn ≢ a.txn
  other_asks a m once free w n is same =
      let its = asker_of w n is in
      among_all (λ (v : WaitingCall). v.session ≢ a.session) calls free w n
      (sym its.2 ∙ ap (λ (b : SessionTxn). b.session) (once_same (λ (b : SessionTxn). b.txn) s.sessions.active once its.0 a its.1 m (its.3 ∙ same)))

  pub fewer_active : (a : SessionTxn) (t : ℕ) → IsAmong t (txns_of (without_txn a.txn s.sessions.active)) → IsAmong t (txns_of s.sessions.active)
  fewer_active a t m =
      let b = map_among (λ (x : SessionTxn). x.txn) t (without_txn a.txn s.sessions.active) m in
      subst (λ n. IsAmong n (txns_of s.sessions.active)) b.2
      (among_map (λ (x : SessionTxn). x.txn) b.0 s.sessions.active (among_filtered (λ (x : SessionTxn). not (x.txn == a.txn)) b.0 s.sessions.active b.1).0)

  -- ---- a call waits no more

  -- the calls of others, of a state with the same names, of whose seats those of others stay
  pub others_wait : (session : ℕ) (t : State) → t.waiting ≡ without_waiting session s.waiting
      → names_of t.sessions.active ≡ names_of s.sessions.active → t.sessions.next_txn ≡ s.sessions.next_txn → ((n : ℕ) → n ≢ session → t.sessions.seats n ≡ s.sessions.seats n)
      → ((w : WaitingCall) (global : List ℕ) → IsAmong w calls → w.session ≢ session → w.call ≡ call.Prepare global → IsAmong (record { txn = w.txn; global = global; answered = false }) t.sessions.prepared)
      → HasWaits (filter (is_other session) calls) t
  others_wait session t waiting names next seats prepared = record {
    waiting = waiting ∙ ap (without_waiting session) was.waiting ∙ waitings-taken session calls;
    kinds = λ w m. was.kinds w (old w m);
    asking = λ w m is. let its = was.asking w (old w m) is in (subst (IsAmong (caller_of w)) (sym names) its.0, seats w.session (other w m) ∙ its.1);
    preparing = λ w global m is. (prepared w global (old w m) (other w m) is, seats w.session (other w m) ∙ (was.preparing w global (old w m) is).1);
    ended = λ w r m is. let its = was.ended w r (old w m) is in ((λ n. its.0 (subst (IsAmong w.txn) numbers n)), subst (λ k. w.txn < k) (sym next) its.1, seats w.session (other w m) ∙ its.2);
    once = once_taken (is_other session) calls was.once;
  }
    where
      old : (w : WaitingCall) → IsAmong w (filter (is_other session) calls) → IsAmong w calls
      old w m = (among_filtered (is_other session) w calls m).0

      other : (w : WaitingCall) → IsAmong w (filter (is_other session) calls) → w.session ≢ session
      other w m same = clash (sym (among_filtered (is_other session) w calls m).1 ∙ own_is_not_other session w same)

      numbers : txns_of t.sessions.active ≡ txns_of s.sessions.active
      numbers = numbers_named t.sessions.active ∙ ap (map (λ (n : ℕ × ℕ). n.1)) names ∙ sym (numbers_named s.sessions.active)

  -- a call that waited is refused, or goes on
  pub waits_refused : (session : ℕ) → HasWaits (filter (is_other session) calls) (wait_refused s session)
  waits_refused session = others_wait session (wait_refused s session) refl refl refl (λ n other. refl) (λ v global n other is. (was.preparing v global n is).0)

  -- a commit or an abort is answered, of whose session no call waits
  pub waits_freed : (a : SessionTxn) → IsAmong a s.sessions.active → EachOnce (txns_of s.sessions.active) → All (λ w. w.session ≢ a.session) calls → (t : State) → t.waiting ≡ s.waiting
      → t.sessions.active ≡ without_txn a.txn s.sessions.active → t.sessions.prepared ≡ s.sessions.prepared → t.sessions.next_txn ≡ s.sessions.next_txn
      → ((n : ℕ) → t.sessions.seats n ≡ cond (a.session == n) free (s.sessions.seats n)) → HasWaits calls t
  waits_freed a m once none t waiting active prepared next seats = record {
    waiting = waiting ∙ was.waiting;
    kinds = was.kinds;
    asking = λ w n is.
        (subst (λ (bs : List SessionTxn). IsAmong (caller_of w) (names_of bs)) (sym active) (still_asks a w n is (other_asks a m once none w n is)), still w n ∙ (was.asking w n is).1);
    preparing = λ w global n is.
        let its = was.preparing w global n is in
        (subst (IsAmong (record { txn = w.txn; global = global; answered = false })) (sym prepared) its.0, still w n ∙ its.1);
    ended = λ w r n is.
        let its = was.ended w r n is in
        ((λ k. its.0 (fewer_active a w.txn (subst (λ bs. IsAmong w.txn (txns_of bs)) active k))), subst (λ k. w.txn < k) (sym next) its.1, still w n ∙ its.2);
    once = was.once;
  }
    where
      still : (w : WaitingCall) → IsAmong w calls → t.sessions.seats w.session ≡ s.sessions.seats w.session
      still w n =
          seats w.session ∙ ap (λ b. cond b free (s.sessions.seats w.session))
          (ne_eqb a.session w.session (λ same. among_all (λ (v : WaitingCall). v.session ≢ a.session) calls none w n (sym same)))
