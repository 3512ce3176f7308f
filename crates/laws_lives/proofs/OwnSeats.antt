-- Each event keeps the sessions and their transactions together.
use Rattle.std.proofs.Common.{◌≡◌, ◌≢◌, ◌⊎◌, inl, inr, ⊎_elim, ◌++◌, ◌<◌, ℕ, List, [], ◌∷◌, true, false, cond, refl, sym, ap, subst, ◌∙◌, map, arith}
use Rattle.std.specs.Prelude.{◌==◌, ◌&&◌, not}
use Rattle.std.proofs.lemmas.Bool.{eqb-false, eqb-true}
use Rattle.shore_model.specs.declared.histories.Entry.{Entry}
use Rattle.shore_model.specs.declared.histories.Opening.{Opening}
use Rattle.shore_model.specs.declared.sessions.SessionState.{SessionState}
use Rattle.shore_model.specs.Histories.{free, once_decided, once_prepared}
use Rattle.laws_lives.proofs.Lists.{among_append, among_left, among_map, among_right, map-push, mapped_one}
use Rattle.laws_lives.proofs.SessionsAgree.{refusal_leaves, reply_leaves}
use Rattle.laws_lives.proofs.Steps.{answered_txns, found_txns}
use Rattle.shore_model.specs.declared.rollbacks.Rollback.TheVariants.{Whole}
use Rattle.laws_lives.specs.OwnSeats.{HasOwnSeats, IsIn, SeatsMatch, seat_of}
use Rattle.laws_lives.specs.SessionSteps.{AnswerAbort, AnswerInDoubt, AnswerPrepare, AnswerResolve, AppendCommit, AppendPrepare, AppendResolve, AppendRollback, Ask, BeginTxn, Doom, EndRollback, GiveReply, MoveLocks, PutBack, RefuseCall, SessionEvent, StepsTo}
use Rattle.laws_lives.specs.Sessions.{PreparedTxn, ResolvedTxn, SessionTxn, Sessions, in_doubt_of, in_prepared, in_txn, pair_of, pair_resolved, pairs_of, resolved_of, txns_of, with_undo, without_prepared, without_resolved, without_txn}
use Rattle.laws_lives.specs.Soundness.{IsJustOpened, SessionsAgree, found_in_doubt}
use Rattle.laws_lives.specs.UndoLists.{UndoList, undo_rolled}
use Rattle.laws_lives.specs.Views.{IsAmong}

-- ---- lists

seats_with : (t : ℕ) (undo : UndoList) (xs : List SessionTxn) → map seat_of (with_undo t undo xs) ≡ map seat_of xs
seats_with t undo [] = refl
seats_with t undo (x ∷ xs) =
    elim (x.txn == t) as (λ b. seat_of (cond b (record { session = x.session; txn = x.txn; undo = undo }) x) ∷ map seat_of (with_undo t undo xs) ≡ seat_of x ∷ map seat_of xs) [
      | true ↦ ap (λ ps. seat_of x ∷ ps) (seats_with t undo xs)
      | false ↦ ap (λ ps. seat_of x ∷ ps) (seats_with t undo xs)
    ]

seat_kept : (t : ℕ) (p : ℕ × ℕ) (xs : List SessionTxn) → IsAmong p (map seat_of (without_txn t xs)) → IsAmong p (map seat_of xs) × (p.1 ≢ t)
seat_kept t p [] m = absurd m
seat_kept t p (x ∷ xs) m =
    (elim (x.txn == t) as (λ b. (x.txn == t) ≡ b → IsAmong p (map seat_of (cond (not b) (x ∷ without_txn t xs) (without_txn t xs))) → IsAmong p (map seat_of (x ∷ xs)) × (p.1 ≢ t)) [
      | true ↦ λ e m. let r = seat_kept t p xs m in (inr r.0, r.1)
      | false ↦ λ e m. ⊎_elim
          (λ here. (inl here, λ same. eqb-false x.txn t e (ap (λ (p : ℕ × ℕ). p.1) here ∙ same)))
          (λ later. let r = seat_kept t p xs later in (inr r.0, r.1)) m
    ]) refl m

seat_left : (t : ℕ) (p : ℕ × ℕ) (xs : List SessionTxn) → IsAmong p (map seat_of xs) → (p.1 ≢ t) → IsAmong p (map seat_of (without_txn t xs))
seat_left t p [] m other = absurd m
seat_left t p (x ∷ xs) m other =
    elim (x.txn == t) as (λ b. (x.txn == t) ≡ b → IsAmong p (map seat_of (cond (not b) (x ∷ without_txn t xs) (without_txn t xs)))) [
      | true ↦ λ e. ⊎_elim (λ here. absurd (other (sym (ap (λ (p : ℕ × ℕ). p.1) here) ∙ eqb-true x.txn t e))) (λ later. seat_left t p xs later other) m
      | false ↦ λ e. ⊎_elim (λ here. inl here) (λ later. inr (seat_left t p xs later other)) m
    ] refl

doubt_kept : (t u : ℕ) (ps : List PreparedTxn) → IsAmong u (map (λ (p : PreparedTxn). p.txn) (without_prepared t ps)) → IsAmong u (map (λ (p : PreparedTxn). p.txn) ps)
doubt_kept t u [] m = m
doubt_kept t u (p ∷ ps) m =
    (elim (not (t == p.txn)) as (λ b. IsAmong u (map (λ (p : PreparedTxn). p.txn) (cond b (p ∷ without_prepared t ps) (without_prepared t ps))) → IsAmong u (map (λ (p : PreparedTxn). p.txn) (p ∷ ps))) [
      | true ↦ λ m. ⊎_elim (λ e. inl e) (λ later. inr (doubt_kept t u ps later)) m
      | false ↦ λ m. inr (doubt_kept t u ps m)
    ]) m

doubt_left : (t u : ℕ) (ps : List PreparedTxn) → IsAmong u (map (λ (p : PreparedTxn). p.txn) ps) → (u ≢ t) → IsAmong u (map (λ (p : PreparedTxn). p.txn) (without_prepared t ps))
doubt_left t u [] m other = m
doubt_left t u (p ∷ ps) m other =
    elim (t == p.txn) as (λ b. (t == p.txn) ≡ b → IsAmong u (map (λ (p : PreparedTxn). p.txn) (cond (not b) (p ∷ without_prepared t ps) (without_prepared t ps)))) [
      | true ↦ λ e. ⊎_elim (λ here. absurd (other (sym here ∙ sym (eqb-true t p.txn e)))) (λ later. doubt_left t u ps later other) m
      | false ↦ λ e. ⊎_elim (λ here. inl here) (λ later. inr (doubt_left t u ps later other)) m
    ] refl

resolved_left : (t u : ℕ) (rs : List ResolvedTxn) → IsAmong u (map (λ (r : ResolvedTxn). r.txn) rs) → (u ≢ t) → IsAmong u (map (λ (r : ResolvedTxn). r.txn) (without_resolved t rs))
resolved_left t u [] m other = m
resolved_left t u (r ∷ rs) m other =
    elim (t == r.txn) as (λ b. (t == r.txn) ≡ b → IsAmong u (map (λ (r : ResolvedTxn). r.txn) (cond (not b) (r ∷ without_resolved t rs) (without_resolved t rs)))) [
      | true ↦ λ e. ⊎_elim (λ here. absurd (other (sym here ∙ sym (eqb-true t r.txn e)))) (λ later. resolved_left t u rs later other) m
      | false ↦ λ e. ⊎_elim (λ here. inl here) (λ later. inr (resolved_left t u rs later other)) m
    ] refl

resolved_kept : (t u : ℕ) (rs : List ResolvedTxn) → IsAmong u (map (λ (r : ResolvedTxn). r.txn) (without_resolved t rs)) → IsAmong u (map (λ (r : ResolvedTxn). r.txn) rs)
resolved_kept t u [] m = m
resolved_kept t u (r ∷ rs) m =
    (elim (not (t == r.txn)) as (λ b. IsAmong u (map (λ (r : ResolvedTxn). r.txn) (cond b (r ∷ without_resolved t rs) (without_resolved t rs))) → IsAmong u (map (λ (r : ResolvedTxn). r.txn) (r ∷ rs))) [
      | true ↦ λ m. ⊎_elim (λ e. inl e) (λ later. inr (resolved_kept t u rs later)) m
      | false ↦ λ m. inr (resolved_kept t u rs m)
    ]) m

-- ---- seats

same_or_other : (t u : ℕ) → (t ≡ u) ⊎ (t ≢ u)
same_or_other t u = elim (t == u) as (λ b. (t == u) ≡ b → (t ≡ u) ⊎ (t ≢ u)) [ true ↦ λ e. inl (eqb-true t u e) | false ↦ λ e. inr (eqb-false t u e) ] refl

at_seat : (session n : ℕ) (P : SessionState → Type 0) (p q : SessionState) → (session ≡ n → P p) → (session ≢ n → P q) → P (cond (session == n) p q)
at_seat session n P p q here other = elim (session == n) as (λ b. (session == n) ≡ b → P (cond b p q)) [ true ↦ λ e. here (eqb-true session n e) | false ↦ λ e. other (eqb-false session n e) ] refl

prepared_seat : (p : SessionState) (t : ℕ) (P : SessionState → Type 0) → (p.txn ≡ t → P (in_prepared t)) → (p.txn ≢ t → P p) → P (once_prepared p t)
prepared_seat p t P here other = elim (p.txn == t) as (λ b. (p.txn == t) ≡ b → P (cond b (in_prepared t) p)) [ true ↦ λ e. here (eqb-true p.txn t e) | false ↦ λ e. other (eqb-false p.txn t e) ] refl

decided_seat : (p : SessionState) (t : ℕ) (P : SessionState → Type 0) → (p.txn ≡ t → p.prepared ≡ true → P free) → ((p.txn ≡ t → p.prepared ≡ true → ⊥) → P p) → P (once_decided p t)
decided_seat p t P here other =
    elim (p.txn == t) as (λ b. (p.txn == t) ≡ b → P (cond (b && p.prepared) free p)) [
      | true ↦ λ e. elim p.prepared as (λ c. p.prepared ≡ c → P (cond c free p)) [ true ↦ λ f. here (eqb-true p.txn t e) f | false ↦ λ f. other (λ same yes. false_not_true (sym f ∙ yes)) ] refl
      | false ↦ λ e. other (λ same yes. eqb-false p.txn t e same)
    ] refl
  where
    false_not_true : false ≡ true → ⊥
    false_not_true e = cc

not_prepared : (t u : ℕ) → (in_txn t).prepared ≡ true → ⊥
not_prepared t u e = false_not_true e
  where
    false_not_true : false ≡ true → ⊥
    false_not_true e = cc

same_txn : (p : SessionState) (t u : ℕ) → p ≡ in_txn t → p ≡ in_txn u → t ≡ u
same_txn p t u a b = ap (λ (p : SessionState). p.txn) (sym a ∙ b)

module _ {seats : ℕ → SessionState} {active : List (ℕ × ℕ)} {doubts resolved : List ℕ} (k : SeatsMatch seats active doubts resolved) where
  -- the same seats
  reseated : (new : ℕ → SessionState) → ((n : ℕ) → new n ≡ seats n) → SeatsMatch new active doubts resolved
  reseated new same = subst (λ f. SeatsMatch f active doubts resolved) (λ i n. sym (same n) i) k

  not_none : (n t : ℕ) → IsIn active doubts resolved n t → seats n ≡ free → ⊥
  not_none n t i e = let some = k.above n t i in let none : t ≡ 0 = ap (λ (p : SessionState). p.txn) (sym (k.own n t i) ∙ e) in omega arith

  -- a session is freed, and with it a transaction goes
  freed : (session u : ℕ) (less : List (ℕ × ℕ)) (new : ℕ → SessionState) → ((n : ℕ) → new n ≡ cond (session == n) free (seats n)) → IsIn active doubts resolved session u
      → ((p : ℕ × ℕ) → IsAmong p less → IsAmong p active × (p.1 ≢ u))
      → ((p : ℕ × ℕ) → IsAmong p active → p.1 ≢ u → IsAmong p less)
      → SeatsMatch new less doubts resolved
  freed session u less new is its in_less less_in =
      let was : (n t : ℕ) → IsIn less doubts resolved n t → IsIn active doubts resolved n t × (t ≢ u) =
      λ n t a. let r = in_less (n, t) a.0 in ((r.0, a.1, a.2), r.1) in
      let still : (n t : ℕ) → IsIn active doubts resolved n t → t ≢ u → IsIn less doubts resolved n t =
      λ n t a other. (less_in (n, t) a.0 other, a.1, a.2) in
      record {
        own = λ n t i. let w = was n t i in
            is n ∙ at_seat session n (λ p. p ≡ in_txn t) free (seats n)
            (λ e. absurd (w.1 (same_txn (seats n) t u (k.own n t w.0) (subst (λ n. seats n ≡ in_txn u) e (k.own session u its)))))
            (λ other. k.own n t w.0);
        above = λ n t i. k.above n t (was n t i).0;
        there = λ n. subst (λ p. (p ≡ free) ⊎ (((t : ℕ) × IsIn less doubts resolved n t) ⊎ ((t : ℕ) × IsAmong t doubts × (p ≡ in_prepared t)))) (sym (is n))
            (at_seat session n (λ p. (p ≡ free) ⊎ (((t : ℕ) × IsIn less doubts resolved n t) ⊎ ((t : ℕ) × IsAmong t doubts × (p ≡ in_prepared t)))) free (seats n)
            (λ e. inl refl)
            (λ other. ⊎_elim (λ f. inl f) (λ more. ⊎_elim
            (λ i. inr (inl (
              i.0,
              still n i.0 i.1 (λ same. other (k.one session n
                  (subst (λ (p : SessionState). 0 < p.txn) (sym (k.own session u its)) (k.above session u its))
                  (ap (λ (p : SessionState). p.txn) (k.own session u its) ∙ sym same ∙ sym (ap (λ (p : SessionState). p.txn) (k.own n i.0 i.1))))),
            )))
            (λ d. inr (inr d)) more) (k.there n)));
        one = λ m n.
            subst (λ p. 0 < p.txn → p.txn ≡ (new n).txn → m ≡ n) (sym (is m)) (subst (λ (q : SessionState). 0 < (cond (session == m) free (seats m)).txn → (cond (session == m) free (seats m)).txn ≡ q.txn → m ≡ n) (sym (is n))
            (at_seat session m (λ p. 0 < p.txn → p.txn ≡ (cond (session == n) free (seats n)).txn → m ≡ n) free (seats m)
            (λ e some. absurd (none_below some))
            (λ other. at_seat session n (λ q. 0 < (seats m).txn → (seats m).txn ≡ q.txn → m ≡ n) free (seats n)
            (λ e some same. let none : (seats m).txn ≡ 0 = same in absurd (omega (arith, some)))
            (λ b some same. k.one m n some same))));
      }
    where
      none_below : 0 < 0 → ⊥
      none_below h = omega (arith, h)

  -- one goes from those under way that is in no session, or is in doubt or decided
  left : (less : List (ℕ × ℕ)) → ((p : ℕ × ℕ) → IsAmong p less → IsAmong p active)
      → ((p : ℕ × ℕ) → IsAmong p active → (IsAmong p.1 doubts → ⊥) → (IsAmong p.1 resolved → ⊥) → IsAmong p less) → SeatsMatch seats less doubts resolved
  left less was still = record {
    own = λ n t i. k.own n t (was (n, t) i.0, i.1, i.2);
    above = λ n t i. k.above n t (was (n, t) i.0, i.1, i.2);
    there = λ n. ⊎_elim (λ f. inl f) (λ more. ⊎_elim (λ i. inr (inl (i.0, (still (n, i.0) i.1.0 i.1.1 i.1.2, i.1.1, i.1.2)))) (λ d. inr (inr d)) more) (k.there n);
    one = k.one;
  }

  -- one in doubt is decided
  decided : (u : ℕ) (less : List (ℕ × ℕ)) (fewer : List ℕ) → IsAmong u doubts
      → ((p : ℕ × ℕ) → IsAmong p less → IsAmong p active) → ((p : ℕ × ℕ) → IsAmong p active → p.1 ≢ u → IsAmong p less)
      → ((t : ℕ) → IsAmong t fewer → IsAmong t doubts) → ((t : ℕ) → IsAmong t doubts → t ≢ u → IsAmong t fewer)
      → SeatsMatch (λ n. once_decided (seats n) u) less fewer (u ∷ resolved)
  decided u less fewer doubt was still kept stays =
      let before : (n t : ℕ) → IsIn less fewer (u ∷ resolved) n t → IsIn active doubts resolved n t =
      λ n t a. let other : t ≢ u = (λ same. a.2 (inl (sym same))) in (was (n, t) a.0, (λ d. a.1 (stays t d other)), (λ r. a.2 (inr r))) in
      let after : (n t : ℕ) → IsIn active doubts resolved n t → IsIn less fewer (u ∷ resolved) n t =
      λ n t a. let other : t ≢ u = (λ same. a.1 (subst (λ t. IsAmong t doubts) (sym same) doubt)) in
      (still (n, t) a.0 other, (λ d. a.1 (kept t d)), (λ r. ⊎_elim (λ e. other (sym e)) (λ later. a.2 later) r)) in
      record {
        own = λ n t i. decided_seat (seats n) u (λ p. p ≡ in_txn t)
            (λ same yes. absurd (not_prepared t u (ap (λ (p : SessionState). p.prepared) (sym (k.own n t (before n t i))) ∙ yes))) (λ other. k.own n t (before n t i));
        above = λ n t i. k.above n t (before n t i);
        there = λ n. decided_seat (seats n) u (λ p. (p ≡ free) ⊎ (((t : ℕ) × IsIn less fewer (u ∷ resolved) n t) ⊎ ((t : ℕ) × IsAmong t fewer × (p ≡ in_prepared t))))
            (λ same yes. inl refl)
            (λ other. ⊎_elim (λ f. inl f) (λ more. ⊎_elim
            (λ i. inr (inl (i.0, after n i.0 i.1)))
            (λ d. inr (inr (d.0, stays d.0 d.1 (λ same. other (ap (λ (p : SessionState). p.txn) d.2 ∙ same) (ap (λ (p : SessionState). p.prepared) d.2)), d.2))) more) (k.there n));
        one = λ m n. decided_seat (seats m) u (λ p. 0 < p.txn → p.txn ≡ (once_decided (seats n) u).txn → m ≡ n)
            (λ same yes some. absurd (none_below some))
            (λ a. decided_seat (seats n) u (λ q. 0 < (seats m).txn → (seats m).txn ≡ q.txn → m ≡ n)
            (λ b yes some same. let none : (seats m).txn ≡ 0 = same in absurd (omega (arith, some)))
            (λ b some same. k.one m n some same));
      }
    where
      none_below : 0 < 0 → ⊥
      none_below h = omega (arith, h)

  -- one of a session is prepared
  prepared : (session u : ℕ) → IsAmong (session, u) active → SeatsMatch (λ n. once_prepared (seats n) u) active (doubts ++ u ∷ []) resolved
  prepared session u its =
      let other_in : (n t : ℕ) → IsIn active (doubts ++ u ∷ []) resolved n t → IsIn active doubts resolved n t × (t ≢ u) =
      λ n t a. ((a.0, (λ d. a.1 (among_left t doubts (u ∷ []) d)), a.2), λ same. a.1 (among_right t doubts (u ∷ []) (inl (sym same)))) in
      record {
        own = λ n t i. let w = other_in n t i in
            prepared_seat (seats n) u (λ p. p ≡ in_txn t) (λ same. absurd (w.1 (sym (ap (λ (p : SessionState). p.txn) (k.own n t w.0)) ∙ same))) (λ other. k.own n t w.0);
        above = λ n t i. k.above n t (other_in n t i).0;
        there = λ n. prepared_seat (seats n) u (λ p. (p ≡ free) ⊎ (((t : ℕ) × IsIn active (doubts ++ u ∷ []) resolved n t) ⊎ ((t : ℕ) × IsAmong t (doubts ++ u ∷ []) × (p ≡ in_prepared t))))
            (λ same. inr (inr (u, among_right u doubts (u ∷ []) (inl refl), refl)))
            (λ other. ⊎_elim (λ f. inl f) (λ more. ⊎_elim
            (λ i. let differs : i.0 ≢ u = (λ same. other (ap (λ (p : SessionState). p.txn) (k.own n i.0 i.1) ∙ same)) in
            inr (inl (i.0, (i.1.0, (λ d. ⊎_elim (λ old. i.1.1 old) (λ new_one. ⊎_elim (λ e. differs (sym e)) (λ none. none) new_one) (among_append i.0 doubts (u ∷ []) d)), i.1.2))))
            (λ d. inr (inr (d.0, among_left d.0 doubts (u ∷ []) d.1, d.2))) more) (k.there n));
        one = λ m n some same. k.one m n (subst (λ t. 0 < t) (same_number (seats m)) some) (sym (same_number (seats m)) ∙ same ∙ same_number (seats n));
      }
    where
      same_number : (p : SessionState) → (once_prepared p u).txn ≡ p.txn
      same_number p = prepared_seat p u (λ q. q.txn ≡ p.txn) (λ same. sym same) (λ other. refl)

  -- a session that is in none begins one
  begun : (session u : ℕ) → seats session ≡ free → 0 < u → ((n : ℕ) → (seats n).txn < u) → (IsAmong u doubts → ⊥) → (IsAmong u resolved → ⊥)
      → SeatsMatch (λ n. cond (session == n) (in_txn u) (seats n)) ((session, u) ∷ active) doubts resolved
  begun session u idle some below no_doubt unresolved =
      let old : (n t : ℕ) → IsIn active doubts resolved n t → IsIn ((session, u) ∷ active) doubts resolved n t =
      λ n t a. (inr a.0, a.1, a.2) in
      let stays : (n t : ℕ) → IsIn active doubts resolved n t → cond (session == n) (in_txn u) (seats n) ≡ in_txn t =
      λ n t i. at_seat session n (λ p. p ≡ in_txn t) (in_txn u) (seats n) (λ e. absurd (not_none n t i (subst (λ n. seats n ≡ free) e idle))) (λ other. k.own n t i) in
      record {
        own = λ n t a. ⊎_elim
            (λ e. subst (λ (p : ℕ × ℕ). cond (session == p.0) (in_txn u) (seats p.0) ≡ in_txn p.1) e (at_seat session session (λ p. p ≡ in_txn u) (in_txn u) (seats session) (λ e. refl) (λ other. absurd (other refl))))
            (λ later. stays n t (later, a.1, a.2)) a.0;
        above = λ n t a. ⊎_elim (λ e. subst (λ (p : ℕ × ℕ). 0 < p.1) e some) (λ later. k.above n t (later, a.1, a.2)) a.0;
        there = λ n. at_seat session n (λ p. (p ≡ free) ⊎ (((t : ℕ) × IsIn ((session, u) ∷ active) doubts resolved n t) ⊎ ((t : ℕ) × IsAmong t doubts × (p ≡ in_prepared t)))) (in_txn u) (seats n)
            (λ e. inr (inl (u, (inl (ap (λ n. (n, u)) e), no_doubt, unresolved))))
            (λ other. ⊎_elim (λ f. inl f) (λ more. ⊎_elim (λ i. inr (inl (i.0, old n i.0 i.1))) (λ d. inr (inr d)) more) (k.there n));
        one = λ m n. at_seat session m (λ p. 0 < p.txn → p.txn ≡ (cond (session == n) (in_txn u) (seats n)).txn → m ≡ n) (in_txn u) (seats m)
            (λ e. at_seat session n (λ q. 0 < u → u ≡ q.txn → m ≡ n) (in_txn u) (seats n) (λ f some same. sym e ∙ f) (λ other some same. let low : (seats n).txn < u = below n in absurd (omega arith)))
            (λ a. at_seat session n (λ q. 0 < (seats m).txn → (seats m).txn ≡ q.txn → m ≡ n) (in_txn u) (seats n)
            (λ e some same. let low : (seats m).txn < u = below m in absurd (omega arith))
            (λ b some same. k.one m n some same));
      }

-- a seat that is changed to itself stays
pub seat_stays : (s : Sessions) (session : ℕ) (f : SessionState → SessionState) → ((p : SessionState) → f p ≡ p) → (n : ℕ) → cond (session == n) (f (s.seats n)) (s.seats n) ≡ s.seats n
seat_stays s session f same n = at_seat session n (λ p. p ≡ s.seats n) (f (s.seats n)) (s.seats n) (λ e. same (s.seats n)) (λ other. refl)

-- ---- events

module _ (o : Opening) (es : List Entry) (s : Sessions) (agree : SessionsAgree o es s) (k : HasOwnSeats s) where
  by : {new left : Sessions} → new ≡ left → HasOwnSeats left → HasOwnSeats new
  by is h = subst HasOwnSeats (sym is) h

  new_doubt : IsAmong s.next_txn (in_doubt_of s) → ⊥
  new_doubt m =
      let p = mapped_one (λ (p : PreparedTxn). p.txn) s.next_txn s.prepared m in
      let low : p.0.txn < s.next_txn = agree.used_below (pair_of p.0) (among_left (pair_of p.0) (pairs_of s.prepared) (map pair_resolved s.resolving) (among_map pair_of p.0 s.prepared p.1)) in
      let is : p.0.txn ≡ s.next_txn = p.2 in
      omega arith

  new_resolved : IsAmong s.next_txn (resolved_of s) → ⊥
  new_resolved m =
      let r = mapped_one (λ (r : ResolvedTxn). r.txn) s.next_txn s.resolving m in
      let low : r.0.txn < s.next_txn = agree.used_below (pair_resolved r.0) (among_right (pair_resolved r.0) (pairs_of s.prepared) (map pair_resolved s.resolving) (among_map pair_resolved r.0 s.resolving r.1)) in
      let is : r.0.txn ≡ s.next_txn = r.2 in
      omega arith

  with_pairs : (seats : ℕ → SessionState) (t : ℕ) (undo : UndoList) → SeatsMatch seats (map seat_of s.active) (in_doubt_of s) (resolved_of s)
      → SeatsMatch seats (map seat_of (with_undo t undo s.active)) (in_doubt_of s) (resolved_of s)
  with_pairs seats t undo h = subst (λ l. SeatsMatch seats l (in_doubt_of s) (resolved_of s)) (sym (seats_with t undo s.active)) h

  -- no seat is changed by the commit of one that is not in doubt
  pub unprepared : (u : ℕ) → (IsAmong u (in_doubt_of s) → ⊥) → (n : ℕ) → once_decided (s.seats n) u ≡ s.seats n
  unprepared u no_doubt n = decided_seat (s.seats n) u (λ p. p ≡ s.seats n)
      (λ same yes. ⊎_elim
      (λ f. sym f)
      (λ more. ⊎_elim
      (λ i. absurd (not_prepared i.0 u (ap (λ (p : SessionState). p.prepared) (sym (k.own n i.0 i.1)) ∙ yes)))
      (λ d. absurd (no_doubt (subst (λ t. IsAmong t (in_doubt_of s)) (sym (ap (λ (p : SessionState). p.txn) d.2) ∙ same) d.1))) more) (k.there n))
      (λ other. refl)

  its_in : (a : SessionTxn) → IsAmong a s.active → (IsAmong a.txn (in_doubt_of s) → ⊥) × (IsAmong a.txn (resolved_of s) → ⊥)
      → IsIn (map seat_of s.active) (in_doubt_of s) (resolved_of s) a.session a.txn
  its_in a m f = (among_map seat_of a s.active m, f.0, f.1)

  -- a transaction ends with an answer that frees its session
  ends : (a : SessionTxn) → IsAmong a s.active → (IsAmong a.txn (in_doubt_of s) → ⊥) × (IsAmong a.txn (resolved_of s) → ⊥) → (new : ℕ → SessionState)
      → ((n : ℕ) → new n ≡ cond (a.session == n) free (s.seats n)) → SeatsMatch new (map seat_of (without_txn a.txn s.active)) (in_doubt_of s) (resolved_of s)
  ends a m f new is =
      freed k a.session a.txn (map seat_of (without_txn a.txn s.active)) new is (its_in a m f)
      (λ p m. seat_kept a.txn p s.active m) (λ p m other. seat_left a.txn p s.active m other)

  pub event_seats : (e : SessionEvent) (new : Sessions) → StepsTo s e new → HasOwnSeats new
  event_seats (MoveLocks held) new h = by h.3 k
  event_seats (BeginTxn session) new h = by h.1 (begun k session s.next_txn h.0 agree.some agree.below new_doubt new_resolved)
  event_seats (GiveReply a c reply) new h =
      by h.4 (with_pairs _ a.txn _ (reseated k _ (seat_stays s a.session _ (reply_leaves s.slots s.held a.txn s.records _ c reply h.1 h.2).stays)))
  event_seats (AppendCommit a ticket) new h =
      by h.2 (ends a h.0.0 h.0.2 _ (λ n. ap (λ p. cond (a.session == n) free p) (unprepared a.txn h.0.2.0 n)))
  event_seats (PutBack a kept e r) new h = by h.4 (with_pairs s.seats a.txn _ k)
  event_seats (Doom a) new h = by h.1 (with_pairs s.seats a.txn _ k)
  event_seats (AnswerAbort a) new h = by h.1 (ends a h.0.0 h.0.2 _ (λ n. refl))
  event_seats (Ask ticket durable) new h = by h k
  event_seats (RefuseCall session t c fault) new h = by h.2 (reseated k _ (seat_stays s session _ (refusal_leaves fault).stays))
  event_seats (AppendPrepare a global granules) new h =
      by h.4 (subst (λ l. SeatsMatch (λ n. once_prepared (s.seats n) a.txn) (map seat_of s.active) l (resolved_of s))
      (sym (map-push (λ (p : PreparedTxn). p.txn) s.prepared record { txn = a.txn; global = global; answered = false })) (prepared k a.session a.txn (among_map seat_of a s.active h.0.0)))
  event_seats (AnswerPrepare session t global) new h =
      by h.2 (subst (λ l. SeatsMatch (λ n. cond (session == n) (s.seats n) (s.seats n)) (map seat_of s.active) l (resolved_of s)) (sym (answered_txns t s.prepared)) (reseated k _ (seat_stays s session (λ p. p) (λ p. refl))))
  event_seats (AppendResolve a global) new h =
      by h.3 (decided k a.txn (map seat_of (without_txn a.txn s.active)) _ (among_map (λ (p : PreparedTxn). p.txn) record { txn = a.txn; global = global; answered = true } s.prepared h.2)
      (λ p m. (seat_kept a.txn p s.active m).0) (λ p m other. seat_left a.txn p s.active m other)
      (λ t m. doubt_kept a.txn t s.prepared m) (λ t m other. doubt_left a.txn t s.prepared m other))
  event_seats (AppendRollback a global) new h =
      by h.2 (subst (λ l. SeatsMatch (λ n. once_decided (s.seats n) a.txn) l (map (λ (p : PreparedTxn). p.txn) (without_prepared a.txn s.prepared)) (a.txn ∷ resolved_of s)) (sym (seats_with a.txn (undo_rolled a.undo a.undo.images Whole) s.active))
      (decided k a.txn (map seat_of s.active) _ (among_map (λ (p : PreparedTxn). p.txn) record { txn = a.txn; global = global; answered = true } s.prepared h.1)
      (λ p m. m) (λ p m other. m) (λ t m. doubt_kept a.txn t s.prepared m) (λ t m other. doubt_left a.txn t s.prepared m other)))
  event_seats (EndRollback a) new h =
      by h.2 (left k (map seat_of (without_txn a.txn s.active)) (λ p m. (seat_kept a.txn p s.active m).0)
      (λ p m no_doubt unresolved. seat_left a.txn p s.active m (λ same. unresolved (subst (λ t. IsAmong t (resolved_of s)) (sym same) h.1))))
  event_seats (AnswerResolve session r) new h = by h.2 (reseated (answered r h.1) _ (seat_stays s session (λ p. p) (λ p. refl)))
    where
      answered : (r : ResolvedTxn) → (IsAmong r.txn (map (λ (a : SessionTxn). a.txn) s.active) → ⊥) → SeatsMatch s.seats (map seat_of s.active) (in_doubt_of s) (map (λ (r : ResolvedTxn). r.txn) (without_resolved r.txn s.resolving))
      answered r ended =
          let before : (n t : ℕ) → IsIn (map seat_of s.active) (in_doubt_of s) (map (λ (r : ResolvedTxn). r.txn) (without_resolved r.txn s.resolving)) n t → IsIn (map seat_of s.active) (in_doubt_of s) (resolved_of s) n t =
          λ n t a. (
            a.0,
            a.1,
            λ m. a.2 (resolved_left r.txn t s.resolving m (λ same.
                let x = mapped_one seat_of (n, t) s.active a.0 in
                ended (subst (λ t. IsAmong t (map (λ (a : SessionTxn). a.txn) s.active)) (ap (λ (p : ℕ × ℕ). p.1) x.2 ∙ same) (among_map (λ (a : SessionTxn). a.txn) x.0 s.active x.1)))),
          ) in
          record {
            own = λ n t i. k.own n t (before n t i);
            above = λ n t i. k.above n t (before n t i);
            there = λ n. ⊎_elim (λ f. inl f) (λ more. ⊎_elim (λ i. inr (inl (i.0, (i.1.0, i.1.1, λ m. i.1.2 (resolved_kept r.txn i.0 s.resolving m))))) (λ d. inr (inr d)) more) (k.there n);
            one = k.one;
          }
  event_seats (AnswerInDoubt session t pairs) new h = by h.2 (reseated k _ (seat_stays s session (λ p. p) (λ p. refl)))

-- no session is in a transaction, and those under way are in doubt
pub opened_seats : (o : Opening) (s : Sessions) → ((n : ℕ) → s.seats n ≡ free) → s.prepared ≡ map found_in_doubt o.in_doubt → txns_of s.active ≡ map (λ d. d.txn) o.in_doubt
    → HasOwnSeats s
opened_seats o s seats prepared active =
    let doubts : in_doubt_of s ≡ map (λ (a : SessionTxn). a.txn) s.active = ap (map (λ (p : PreparedTxn). p.txn)) prepared ∙ found_txns o.in_doubt ∙ sym active in
    let nobody : (n t : ℕ) → IsIn (map seat_of s.active) (in_doubt_of s) (resolved_of s) n t → ⊥ =
    λ n t a. let x = mapped_one seat_of (n, t) s.active a.0 in
    a.1 (subst (IsAmong t) (sym doubts) (subst (λ t. IsAmong t (map (λ (a : SessionTxn). a.txn) s.active)) (ap (λ (p : ℕ × ℕ). p.1) x.2) (among_map (λ (a : SessionTxn). a.txn) x.0 s.active x.1))) in
    record {
      own = λ n t i. absurd (nobody n t i);
      above = λ n t i. absurd (nobody n t i);
      there = λ n. inl (seats n);
      one = λ m n some. absurd (none_below (subst (λ (p : SessionState). 0 < p.txn) (seats m) some));
    }
  where
    none_below : 0 < 0 → ⊥
    none_below h = omega (arith, h)

pub open_seats : (o : Opening) (s : Sessions) → IsJustOpened o s → HasOwnSeats s
open_seats o s h = opened_seats o s h.seats h.prepared h.active
