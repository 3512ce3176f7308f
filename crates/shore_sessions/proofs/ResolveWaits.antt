-- Calls that resolve transactions, as they begin to wait and are answered.
use Rattle.std.proofs.Common.{◌≡◌, inl, inr, ⊎_elim, ◌<◌, ◌++◌, ◌∷◌, ◌==◌, [], ℕ, List, Bool, None, Some, true, false, cond, refl, sym, ap, subst, ◌∙◌, append_assoc, map}
use Rattle.std.specs.Prelude.{filter, not}
use Rattle.std.specs.List.{cons_option}
use Rattle.std.specs.List.Sorted.{IsPermutation}
use Rattle.std.proofs.lemmas.Bool.{cases_Bool, eq-eqb, eqb-false, eqb-true, ne_eqb}
use Rattle.std.proofs.lemmas.List.{map-append}
use Rattle.std.proofs.lemmas.List.Elements.{filter-append}
use Rattle.std.proofs.lemmas.List.Sorted.{IsPermutation-sym, IsPermutation-to_front, IsPermutation-trans}
use Rattle.std.proofs.lemmas.Option.{same_Some}
use Rattle.shore_model.specs.declared.calls.Call.TheVariants as call
use Rattle.shore_model.specs.declared.calls.Outcome.{Outcome}
use Rattle.shore_model.specs.declared.step.Wait.TheVariants.{Durable}
use Rattle.shore_model.specs.Histories.{free}
use Rattle.laws_lives.specs.Sessions.{EachOnce, ResolvedTxn, SessionTxn, txns_of, without_resolved}
use Rattle.laws_lives.specs.Views.{IsAmong}
use Rattle.laws_calls.specs.Resolves.{resolve_ended, resolve_told}
use Rattle.laws_calls.specs.StateChanges.{decision_waiting}
use Rattle.laws_calls.specs.States.{State}
use Rattle.shore_txn.specs.Transactions.{undos_in}
use Rattle.shore_txn.specs.Transactions as table
use Rattle.shore_txn.specs.Txns.{as_session_txn, number_of}
use Rattle.shore_txn.proofs.OneOfMany.{among_map}
use Rattle.shore_sessions.specs.Calls.{as_resolved, awaits_record, logs_decision, resolved_by}
use Rattle.shore_sessions.specs.Controls.{locks_in, txns_in, waits_in}
use Rattle.shore_sessions.specs.Seated.{as_rolled, rolled_in}
use Rattle.shore_sessions.specs.Standing.{HasControl, HasControlBut, HasWaits}
use Rattle.shore_sessions.specs.declared.control.Control.{Control}
use Rattle.shore_sessions.specs.declared.waits.WaitingCall.{WaitingCall}
use Rattle.shore_sessions.proofs.ControlSteps.{txns_kept}
use Rattle.shore_sessions.proofs.EndedWaits.{has_ended}
use Rattle.shore_sessions.proofs.Lists.{among_either, filter_all}
use Rattle.shore_sessions.proofs.Permuted.{among_made, filtered, made_among, made_passing}
use Rattle.shore_sessions.proofs.Rolled.{rolled_is}
use Rattle.shore_sessions.proofs.Taking.{AreApart, is_other, one_of_session}
use Rattle.shore_sessions.proofs.WaitSteps.{others_wait, resolved_pushed, waitings-push}

clash : true ≡ false → ⊥
clash e = cc

pub same_either : {A : Type 0} (b : Bool) (x : A) → cond b x x ≡ x
same_either true x = refl
same_either false x = refl

once_push : {A : Type 0} (xs : List A) (x : A) → EachOnce xs → (IsAmong x xs → ⊥) → EachOnce (xs ++ x ∷ [])
once_push [] x once none = ((λ m. m), tt)
once_push (y ∷ xs) x once none = (
  λ m. ⊎_elim once.0 (λ last. ⊎_elim (λ same. none (inl (sym same))) (λ never. never) last) (among_either y xs (x ∷ []) m),
  once_push xs x once.1 (λ m. none (inr m)),
)

abbrev txn_of : ResolvedTxn → ℕ
txn_of r = r.txn

-- of two calls that resolve one transaction there is one
once_made : (calls : List WaitingCall) → EachOnce (map txn_of (resolved_by calls)) → (v w : WaitingCall) (q r : ResolvedTxn) → IsAmong v calls → IsAmong w calls
    → as_resolved v ≡ Some q → as_resolved w ≡ Some r → q.txn ≡ r.txn → v ≡ w
once_made [] once v w q r m n vs ws same = absurd m
once_made (x ∷ xs) once v w q r (inl a) (inl b) vs ws same = sym a ∙ b
once_made (x ∷ xs) once v w q r (inl a) (inr n) vs ws same =
    let first = subst (λ o. EachOnce (map txn_of (cons_option o (resolved_by xs)))) (ap as_resolved a ∙ vs) once in
    absurd (first.0 (subst (λ t. IsAmong t (map txn_of (resolved_by xs))) (sym same) (among_map txn_of r (resolved_by xs) (made_among as_resolved w r xs n ws))))
once_made (x ∷ xs) once v w q r (inr m) (inl b) vs ws same =
    let first = subst (λ o. EachOnce (map txn_of (cons_option o (resolved_by xs)))) (ap as_resolved b ∙ ws) once in
    absurd (first.0 (subst (λ t. IsAmong t (map txn_of (resolved_by xs))) same (among_map txn_of q (resolved_by xs) (made_among as_resolved v q xs m vs))))
once_made (x ∷ xs) once v w q r (inr m) (inr n) vs ws same =
    once_made xs ((elim (as_resolved x) as (λ o. EachOnce (map txn_of (cons_option o (resolved_by xs))) → EachOnce (map txn_of (resolved_by xs))) [
      | None ↦ λ all. all
      | Some p ↦ λ all. all.1
    ]) once) v w q r m n vs ws same

-- ---- a resolve begins to wait

module _ (calls : List WaitingCall) (s : State) (was : HasWaits calls s) (session txn number : ℕ) (global : List ℕ) (asked : Outcome) where
  abbrev it : WaitingCall
  it = record { session = session; txn = txn; call = call.Resolve global asked; wait = Durable number; cycle = None }

  pub waits_resolving : (IsAmong txn (txns_of s.sessions.active) → ⊥) → txn < s.sessions.next_txn → (IsAmong txn (map txn_of (resolved_by calls)) → ⊥) → s.sessions.seats session ≡ free
      → HasWaits (calls ++ it ∷ []) (record s { waiting = decision_waiting session (call.Resolve global asked) number ∷ s.waiting })
  waits_resolving gone below apart outside = record {
    waiting = ap (λ ws. decision_waiting session (call.Resolve global asked) number ∷ ws) was.waiting ∙ sym (waitings-push calls it);
    kinds = λ w n. ⊎_elim (λ old. was.kinds w old)
        (λ new. ⊎_elim (λ same. subst (λ (v : WaitingCall). awaits_record v ≡ logs_decision v.call) same refl) (λ none. absurd none) new)
        (among_either w calls (it ∷ []) n);
    asking = λ w n is. ⊎_elim (λ old. was.asking w old is)
        (λ new. ⊎_elim (λ same. absurd (clash (ap awaits_record same ∙ is))) (λ none. absurd none) new)
        (among_either w calls (it ∷ []) n);
    preparing = λ w name n is. ⊎_elim (λ old. was.preparing w name old is)
        (λ new. ⊎_elim (λ same. absurd (unlike name (ap (λ (v : WaitingCall). v.call) same ∙ is))) (λ none. absurd none) new)
        (among_either w calls (it ∷ []) n);
    ended = λ w r n is. ⊎_elim (λ old. was.ended w r old is)
        (λ new. ⊎_elim
        (λ same. subst (λ (v : WaitingCall). (IsAmong v.txn (txns_of s.sessions.active) → ⊥) × (v.txn < s.sessions.next_txn) × (s.sessions.seats v.session ≡ free)) same (gone, below, outside))
        (λ none. absurd none) new)
        (among_either w calls (it ∷ []) n);
    once = subst (λ (rs : List ResolvedTxn). EachOnce (map txn_of rs)) (sym (resolved_pushed calls it))
        (subst EachOnce (sym (map-append txn_of (resolved_by calls) (resolved_by (it ∷ [])))) (once_push (map txn_of (resolved_by calls)) txn was.once apart));
  }
    where
      unlike : (name : List ℕ) → call.Resolve global asked ≡ call.Prepare name → ⊥
      unlike name e = cc

-- .. which has ended its transaction
pub control_awaited : (old new : Control) (s : State) (session txn number : ℕ) (global : List ℕ) (asked : Outcome) → HasControlBut (record { txn = txn; global = global; outcome = asked }) old s
    → s.sessions.seats session ≡ free → txns_in new ≡ txns_in old → locks_in new ≡ locks_in old
    → waits_in new ≡ waits_in old ++ record { session = session; txn = txn; call = call.Resolve global asked; wait = Durable number; cycle = None } ∷ []
    → HasControl new (record s { waiting = decision_waiting session (call.Resolve global asked) number ∷ s.waiting })
control_awaited old new s session txn number global asked was outside same locks pushed = record {
  txns = txns_kept (txns_in old) (txns_in new) s after same refl refl (λ n. refl) refl refl refl was.txns;
  waits = subst (λ cs. HasWaits cs after) (sym pushed) (waits_resolving (waits_in old) s was.waits session txn number global asked was.ended.0 was.ended.1 was.once outside);
  resolving = λ f. subst (λ rs. IsPermutation s.sessions.resolving rs)
      (append_assoc (rolled_in (txns_in old)) (resolved_by (waits_in old)) (r ∷ []) ∙ ap (λ rs. rolled_in (txns_in old) ++ rs) (sym (ap resolved_by pushed ∙ resolved_pushed (waits_in old) it_is))
      ∙ ap (λ t. rolled_in t ++ resolved_by (waits_in new)) (sym same))
      (IsPermutation-trans s.sessions.resolving (r ∷ all) (all ++ r ∷ []) (was.resolving f) (IsPermutation-sym (all ++ r ∷ []) (r ∷ all) (IsPermutation-to_front all r)));
  locks = was.locks ∙ sym locks;
}
  where
    after : State
    after = record s { waiting = decision_waiting session (call.Resolve global asked) number ∷ s.waiting }

    r : ResolvedTxn
    r = record { txn = txn; global = global; outcome = asked }

    it_is : WaitingCall
    it_is = record { session = session; txn = txn; call = call.Resolve global asked; wait = Durable number; cycle = None }

    all : List ResolvedTxn
    all = rolled_in (txns_in old) ++ resolved_by (waits_in old)

-- ---- a resolve is answered

-- without one that no transaction of the table is, those that are rolled back stay
rolled_but : (control : Control) (s : State) (t : ℕ) → s.sessions.active ≡ undos_in (txns_in control) → (IsAmong t (txns_of s.sessions.active) → ⊥) → without_resolved t (rolled_in (txns_in control)) ≡ rolled_in (txns_in control)
rolled_but control s t active gone = filter_all (λ (r : ResolvedTxn). not (t == r.txn)) (rolled_in (txns_in control)) (λ r m.
    let u = among_made as_rolled r (table.txns_in (txns_in control)) m in
    let there = among_map (λ (a : SessionTxn). a.txn) (as_session_txn u.0) (undos_in (txns_in control)) (among_map as_session_txn u.0 (table.txns_in (txns_in control)) u.1) in
    let number : number_of u.0 ≡ r.txn = (rolled_is u.0 r u.2).txn in
    ap not (ne_eqb t r.txn (λ same. gone (subst (λ (ts : List SessionTxn). IsAmong t (txns_of ts)) (sym active) (subst (λ n. IsAmong n (txns_of (undos_in (txns_in control)))) (number ∙ sym same) there)))))

-- nor does one that neither waits nor is answered
pub control_told : (control : Control) (s : State) (session : ℕ) (r : ResolvedTxn) → HasControlBut r control s → HasControl control (resolve_told s session r)
control_told control s session r was = record {
  txns = txns_kept (txns_in control) (txns_in control) s (resolve_told s session r) refl refl refl seats refl refl refl was.txns;
  waits = record {
    waiting = was.waits.waiting;
    kinds = was.waits.kinds;
    asking = λ w m is. let its = was.waits.asking w m is in (its.0, seats w.session ∙ its.1);
    preparing = λ w global m is. let its = was.waits.preparing w global m is in (its.0, seats w.session ∙ its.1);
    ended = λ w q m is. let its = was.waits.ended w q m is in (its.0, its.1, seats w.session ∙ its.2);
    once = was.waits.once;
  };
  resolving = λ f. subst (IsPermutation (without_resolved r.txn s.sessions.resolving)) left
      (filtered (λ (q : ResolvedTxn). not (r.txn == q.txn)) s.sessions.resolving (r ∷ (rolled_in (txns_in control) ++ resolved_by (waits_in control))) (was.resolving f));
  locks = was.locks;
}
  where
    seats : (n : ℕ) → (resolve_told s session r).sessions.seats n ≡ s.sessions.seats n
    seats n = same_either (session == n) (s.sessions.seats n)

    others : without_resolved r.txn (resolved_by (waits_in control)) ≡ resolved_by (waits_in control)
    others = filter_all (λ (q : ResolvedTxn). not (r.txn == q.txn)) (resolved_by (waits_in control))
        (λ q m. ap not (ne_eqb r.txn q.txn (λ same. was.once (subst (λ t. IsAmong t (map txn_of (resolved_by (waits_in control)))) (sym same) (among_map txn_of q (resolved_by (waits_in control)) m)))))

    left : without_resolved r.txn (r ∷ (rolled_in (txns_in control) ++ resolved_by (waits_in control))) ≡ rolled_in (txns_in control) ++ resolved_by (waits_in control)
    left =
        ap (λ b. cond (not b) (r ∷ rest) rest) (eq-eqb r.txn r.txn refl)
        ∙ filter-append (λ (q : ResolvedTxn). not (r.txn == q.txn)) (rolled_in (txns_in control)) (resolved_by (waits_in control))
        ∙ ap (λ rs. rs ++ without_resolved r.txn (resolved_by (waits_in control))) (rolled_but control s r.txn was.txns.active was.ended.0)
        ∙ ap (λ rs. rolled_in (txns_in control) ++ rs) others
      where
        rest : List ResolvedTxn
        rest = without_resolved r.txn (rolled_in (txns_in control) ++ resolved_by (waits_in control))

-- one that waited
pub control_resolved : (old new : Control) (s : State) (session : ℕ) (w : WaitingCall) (r : ResolvedTxn) → HasControl old s → s.failed ≡ false → AreApart (waits_in old) → IsAmong w (waits_in old)
    → w.session ≡ session → as_resolved w ≡ Some r → txns_in new ≡ txns_in old → locks_in new ≡ locks_in old → waits_in new ≡ filter (is_other session) (waits_in old) → HasControl new (resolve_ended s session r)
control_resolved old new s session w r was works apart m own is same locks taken = record {
  txns = txns_kept (txns_in old) (txns_in new) s (resolve_ended s session r) same refl refl seats refl refl refl was.txns;
  waits = subst (λ cs. HasWaits cs (resolve_ended s session r)) (sym taken)
      (others_wait (waits_in old) s was.waits session (resolve_ended s session r) refl refl refl (λ n other. seats n)
      (λ v global n other prepares. (was.waits.preparing v global n prepares).0));
  resolving = λ f. subst (IsPermutation (without_resolved r.txn s.sessions.resolving)) left
      (filtered (λ (q : ResolvedTxn). not (r.txn == q.txn)) s.sessions.resolving (rolled_in (txns_in old) ++ resolved_by (waits_in old)) (was.resolving f));
  locks = was.locks ∙ sym locks;
}
  where
    seats : (n : ℕ) → (resolve_ended s session r).sessions.seats n ≡ s.sessions.seats n
    seats n = same_either (session == n) (s.sessions.seats n)

    alike : (v : WaitingCall) (q : ResolvedTxn) → IsAmong v (waits_in old) → as_resolved v ≡ Some q → not (r.txn == q.txn) ≡ is_other session v
    alike v q n vs = ⊎_elim
        (λ here.
        let one = one_of_session (waits_in old) apart v w n m (eqb-true v.session session here ∙ sym own) in
        let same_txn : q ≡ r = same_Some q r (sym vs ∙ ap as_resolved one ∙ is) in
        ap not (eq-eqb r.txn q.txn (ap txn_of (sym same_txn))) ∙ sym (ap not here))
        (λ there. ap not (ne_eqb r.txn q.txn (λ same_txn. eqb-false v.session session there
        (ap (λ (x : WaitingCall). x.session) (once_made (waits_in old) was.waits.once v w q r n m vs is (sym same_txn)) ∙ own))) ∙ sym (ap not there))
        (cases_Bool (v.session == session))

    left : without_resolved r.txn (rolled_in (txns_in old) ++ resolved_by (waits_in old)) ≡ rolled_in (txns_in new) ++ resolved_by (waits_in new)
    left =
        filter-append (λ (q : ResolvedTxn). not (r.txn == q.txn)) (rolled_in (txns_in old)) (resolved_by (waits_in old))
        ∙ ap (λ rs. rs ++ without_resolved r.txn (resolved_by (waits_in old))) (rolled_but old s r.txn was.txns.active (has_ended old s was works w r m is).1)
        ∙ ap (λ rs. rolled_in (txns_in old) ++ rs) (made_passing as_resolved (λ (q : ResolvedTxn). not (r.txn == q.txn)) (is_other session) (waits_in old) alike ∙ ap resolved_by (sym taken))
        ∙ ap (λ t. rolled_in t ++ resolved_by (waits_in new)) (sym same)
