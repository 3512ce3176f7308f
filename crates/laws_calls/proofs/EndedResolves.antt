-- What a resolve that is not refused leaves: its transaction is under way no more, its session is in none, and its global id is in use until it is answered.
use Rattle.std.proofs.Common.{◌≡◌, ◌≢◌, ◌⊎◌, inl, inr, ⊎_elim, ◌∷◌, ℕ, List, [], Bool, true, false, cond, refl, sym, ap, subst, ◌∙◌, map}
use Rattle.std.specs.Prelude.{◌==◌, ◌&&◌, nat_eq}
use Rattle.std.specs.Cmp.Lexicographic.{pointwise}
use Rattle.std.specs.List.{AllByRecursion}
use Rattle.std.proofs.lemmas.Bool.{cases_Bool, eq-eqb}
use Rattle.shore_types.specs.declared.layout.Geometry.{Geometry}
use Rattle.shore_model.specs.declared.calls.Answer.{Answer}
use Rattle.shore_model.specs.declared.calls.Answer.TheVariants.{Resolved}
use Rattle.shore_model.specs.declared.calls.Call.{Call}
use Rattle.shore_model.specs.declared.calls.Call.TheVariants as call
use Rattle.shore_model.specs.declared.calls.Outcome.{Outcome}
use Rattle.shore_model.specs.declared.calls.Outcome.TheVariants as outcome
use Rattle.shore_model.specs.declared.histories.Entry.{Entry}
use Rattle.shore_model.specs.declared.histories.Opening.{Opening}
use Rattle.shore_model.specs.declared.log_records.LogRecord.{LogRecord}
use Rattle.shore_model.specs.declared.sessions.SessionState.{SessionState}
use Rattle.shore_model.specs.declared.step.Step.{Step}
use Rattle.shore_model.specs.declared.step.Step.TheVariants.{Done, Nothing, Refused, Waits}
use Rattle.shore_model.specs.declared.step.Wait.{Wait}
use Rattle.shore_model.specs.declared.step.Wait.TheVariants.{Durable, Lock}
use Rattle.shore_model.specs.Histories.{free, once_decided}
use Rattle.laws_lives.proofs.DoubtDecisions.{same_text}
use Rattle.laws_lives.proofs.Lists.{among_append, among_map, mapped_one, among_left}
use Rattle.laws_lives.proofs.Members.{txn_without}
use Rattle.laws_lives.specs.Sessions.{IsUnused, PreparedTxn, ResolvedTxn, SessionTxn, Sessions, in_doubt_of, in_prepared, in_use, pair_of, pair_resolved, pairs_of, txns_of, without_resolved}
use Rattle.laws_lives.specs.Views.{IsAmong}
use Rattle.laws_calls.proofs.Outside.{resolve_in}
use Rattle.laws_calls.proofs.ResolveLists.{kept_but}
use Rattle.laws_calls.proofs.ResolveEnds.{rolled_logged}
use Rattle.laws_calls.proofs.ResolveStays.{answered_left, made_before}
use Rattle.laws_calls.proofs.UnderGlobal.{one_global, same_texts, under_one, used_in_doubt, used_resolved}
use Rattle.laws_calls.specs.CallHistories.{txn_under}
use Rattle.laws_calls.specs.CallSteps.{AnswersBehind, CallStep, ResumeStep, ResumesWait}
use Rattle.laws_calls.specs.Events.{IsStateAfter}
use Rattle.laws_calls.specs.Resolves.{DecidesRollback, IsResolvable, IsRollingBack, MayResolve, ResolvesTo, resolved_by_rollback, rollback_done}
use Rattle.laws_calls.specs.Shapes.{IsNoRefusal}
use Rattle.laws_calls.specs.States.{HasNoTxn, State, DoesNotWait, Waiting}
use Rattle.laws_calls.proofs.WrongResolves.{goes_on}
use Rattle.laws_calls.proofs.ResolveLeaves.{decided_txn}

-- ---- global ids in use

in_use_not : (global : List ℕ) (t : ℕ) (ps : List (ℕ × List ℕ)) → IsAmong (t, global) ps → AllByRecursion (λ p. pointwise nat_eq global p.1 ≡ false) ps → ⊥
in_use_not global t [] m h = m
in_use_not global t (p ∷ ps) (inl same) h =
    let clash : true ≡ false = sym (same_text global) ∙ ap (λ (q : ℕ × List ℕ). pointwise nat_eq global q.1) (sym same) ∙ h.0 in cc
in_use_not global t (p ∷ ps) (inr later) h = in_use_not global t ps later h.1

unused_by : (global : List ℕ) (ps : List (ℕ × List ℕ)) → ((p : ℕ × List ℕ) → IsAmong p ps → p.1 ≢ global) → AllByRecursion (λ p. pointwise nat_eq global p.1 ≡ false) ps
unused_by global [] other = tt
unused_by global (p ∷ ps) other = (
  ⊎_elim (λ same. absurd (other p (inl refl) (sym (same_texts global p.1 same)))) (λ no. no) (cases_Bool (pointwise nat_eq global p.1)),
  unused_by global ps (λ q m. other q (inr m)),
)

-- ---- under way no more

module _ (s : State) (session : ℕ) (global : List ℕ) where
  -- of those under way, the one that it is about is none
  abbrev Ends : State → Type 0
  Ends new = (a : SessionTxn) × (IsResolvable s a global ⊎ IsRollingBack s a global) × (IsAmong a.txn (txns_of new.sessions.active) → ⊥)

  back_ends : (b : SessionTxn) (d new : State) → DecidesRollback s global b d → new.sessions.active ≡ (rollback_done d b).sessions.active → Ends new
  back_ends b d new by active =
      let its = decided_txn s global b d by in
      (its.0, its.1, λ among. (txn_without b.txn its.0.txn d.sessions.active (subst (λ xs. IsAmong its.0.txn (txns_of xs)) active among)).1 its.2)

  ends_one : (asked : Outcome) (step : Step) (new : State) → IsNoRefusal step → ResolvesTo s session global asked step new → Ends new
  ends_one outcome.Commit (Waits wait) new some h =
      (h.0, inl h.1, λ among. (txn_without h.0.txn h.0.txn s.sessions.active (subst (λ (x : State). IsAmong h.0.txn (txns_of x.sessions.active)) h.3 among)).1 refl)
  ends_one outcome.Commit (Done answer) new some h = absurd h
  ends_one outcome.Commit (Refused f) new some h = absurd some
  ends_one outcome.Commit Nothing new some h = absurd h
  ends_one outcome.Abort (Waits wait) new some h = back_ends h.0 h.1 new h.2 (ap (λ (x : State). x.sessions.active) h.3.2)
  ends_one outcome.Abort (Done answer) new some h = back_ends h.0 h.1 new h.2 (ap (λ (x : State). x.sessions.active) h.3.2)
  ends_one outcome.Abort (Refused f) new some h = absurd some
  ends_one outcome.Abort Nothing new some h = absurd h.3

module _ (g : Geometry) (o : Opening) (found : List LogRecord) (es : List Entry) (s : State) (k : IsStateAfter o found es s) (session : ℕ) (global : List ℕ) (asked : Outcome) where
  under_its : (a : SessionTxn) → IsResolvable s a global ⊎ IsRollingBack s a global → txn_under s.sessions global ≡ a.txn
  under_its a its = ⊎_elim
      (λ can. under_one o es s.sessions k.sessions.agree a.txn global (used_in_doubt s.sessions (record { txn = a.txn; global = global; answered = true }) can.1))
      (λ rolls. under_one o es s.sessions k.sessions.agree a.txn global (used_resolved s.sessions (resolved_by_rollback a global) rolls.1)) its

  pub under_way_no_more : (step : Step) (new : State) → IsNoRefusal step → CallStep g s session (call.Resolve global asked) step new → IsAmong (txn_under s.sessions global) (txns_of new.sessions.active) → ⊥
  under_way_no_more step new some h among =
      let e = ends_one s session global asked step new some (goes_on g s new session global asked step some h).1 in
      e.2 (subst (λ t. IsAmong t (txns_of new.sessions.active)) (under_its e.0 e.1) among)

  -- ---- its session

  -- a session that was in the transaction, or in none, is in none then
  decided_seat : (a : SessionTxn) → IsAmong (a.txn, global) (in_use s.sessions) → MayResolve s session global → once_decided (s.sessions.seats session) a.txn ≡ free
  decided_seat a used (inl none) = ap (λ (p : SessionState). once_decided p a.txn) none ∙ by (0 == a.txn)
    where
      by : (b : Bool) → cond (b && false) free free ≡ free
      by true = refl
      by false = refl
  decided_seat a used (inr doubt) =
      let same = one_global o es s.sessions k.sessions.agree doubt.0 a.txn global (among_left (doubt.0, global) (pairs_of s.sessions.prepared) (map pair_resolved s.sessions.resolving) doubt.2) used in
      ap (λ (p : SessionState). once_decided p a.txn) doubt.1 ∙ ap (λ b. cond (b && true) free (in_prepared doubt.0)) (eq-eqb doubt.0 a.txn same)

  -- it is in none, if one is being rolled back
  rolling_seat : (b : SessionTxn) → IsRollingBack s b global → MayResolve s session global → s.sessions.seats session ≡ free
  rolling_seat b rolls (inl none) = none
  rolling_seat b rolls (inr doubt) =
      let same = one_global o es s.sessions k.sessions.agree doubt.0 b.txn global (among_left (doubt.0, global) (pairs_of s.sessions.prepared) (map pair_resolved s.sessions.resolving) doubt.2)
      (used_resolved s.sessions (resolved_by_rollback b global) rolls.1) in
      let p = mapped_one (λ (x : PreparedTxn). pair_of x) (doubt.0, global) s.sessions.prepared doubt.2 in
      absurd ((rolled_logged o found es s k b global rolls).1
      (subst (λ t. IsAmong t (in_doubt_of s.sessions)) (ap (λ (q : ℕ × List ℕ). q.0) p.2 ∙ same) (among_map (λ (x : PreparedTxn). x.txn) p.0 s.sessions.prepared p.1)))

  back_seat : (b : SessionTxn) (d : State) → DecidesRollback s global b d → MayResolve s session global → d.sessions.seats session ≡ free
  back_seat b d (inl h) may =
      ap (λ (x : State). x.sessions.seats session) h.3
      ∙ decided_seat h.0 (used_in_doubt s.sessions (record { txn = h.0.txn; global = global; answered = true }) h.1.1) may
  back_seat b d (inr h) may = ap (λ (x : State). x.sessions.seats session) h.1 ∙ rolling_seat b h.0 may

  same_seat : (b : Bool) (p : SessionState) → cond b p p ≡ p
  same_seat true p = refl
  same_seat false p = refl

  free_behind : (asked : Outcome) (step : Step) (new : State) → IsNoRefusal step → MayResolve s session global → ResolvesTo s session global asked step new → HasNoTxn new session
  free_behind outcome.Commit (Waits wait) new some may h =
      ap (λ (x : State). x.sessions.seats session) h.3 ∙ decided_seat h.0 (used_in_doubt s.sessions (record { txn = h.0.txn; global = global; answered = true }) h.1.1) may
  free_behind outcome.Commit (Done answer) new some may h = absurd h
  free_behind outcome.Commit (Refused f) new some may h = absurd some
  free_behind outcome.Commit Nothing new some may h = absurd h
  free_behind outcome.Abort (Waits wait) new some may h = ap (λ (x : State). x.sessions.seats session) h.3.2 ∙ back_seat h.0 h.1 h.2 may
  free_behind outcome.Abort (Done answer) new some may h =
      ap (λ (x : State). x.sessions.seats session) h.3.2 ∙ same_seat (session == session) (h.1.sessions.seats session) ∙ back_seat h.0 h.1 h.2 may
  free_behind outcome.Abort (Refused f) new some may h = absurd some
  free_behind outcome.Abort Nothing new some may h = absurd h.3

  pub session_free : (step : Step) (new : State) → IsNoRefusal step → CallStep g s session (call.Resolve global asked) step new → HasNoTxn new session
  session_free step new some h = let on = goes_on g s new session global asked step some h in free_behind asked step new some on.0 on.1

  -- ---- its global id

  -- once it is answered no other has it
  pub unused_without : (r : ResolvedTxn) (n : Sessions) → IsAmong r s.sessions.resolving → r.global ≡ global → (IsAmong r.txn (in_doubt_of s.sessions) → ⊥) → n.prepared ≡ s.sessions.prepared
      → n.resolving ≡ without_resolved r.txn s.sessions.resolving → IsUnused n global
  unused_without r n m named no_doubt prepared resolving = unused_by global (in_use n) other
    where
      of_one : (t : ℕ) → IsAmong (t, global) (in_use s.sessions) → t ≡ r.txn
      of_one t used = one_global o es s.sessions k.sessions.agree t r.txn global used (subst (λ (name : List ℕ). IsAmong (r.txn, name) (in_use s.sessions)) named (used_resolved s.sessions r m))

      in_doubt : (p : ℕ × List ℕ) → IsAmong p (pairs_of s.sessions.prepared) → p.1 ≢ global
      in_doubt p there same =
          let q = mapped_one (λ (x : PreparedTxn). pair_of x) p s.sessions.prepared there in
          let used = used_in_doubt s.sessions q.0 q.1 in
          let name : q.0.global ≡ global = ap (λ (x : ℕ × List ℕ). x.1) q.2 ∙ same in
          let number = of_one q.0.txn (subst (λ (x : List ℕ). IsAmong (q.0.txn, x) (in_use s.sessions)) name used) in
          no_doubt (subst (λ t. IsAmong t (in_doubt_of s.sessions)) number (among_map (λ (x : PreparedTxn). x.txn) q.0 s.sessions.prepared q.1))

      resolved : (p : ℕ × List ℕ) → IsAmong p (map pair_resolved (without_resolved r.txn s.sessions.resolving)) → p.1 ≢ global
      resolved p there same =
          let q = mapped_one (λ (x : ResolvedTxn). pair_resolved x) p (without_resolved r.txn s.sessions.resolving) there in
          let was = kept_but (λ (x : ResolvedTxn). x.txn) r.txn q.0 s.sessions.resolving q.1 in
          let name : q.0.global ≡ global = ap (λ (x : ℕ × List ℕ). x.1) q.2 ∙ same in
          was.1 (of_one q.0.txn (subst (λ (x : List ℕ). IsAmong (q.0.txn, x) (in_use s.sessions)) name (used_resolved s.sessions q.0 was.0)))

      other : (p : ℕ × List ℕ) → IsAmong p (in_use n) → p.1 ≢ global
      other p there = ⊎_elim
          (λ left. in_doubt p (subst (λ (ps : List PreparedTxn). IsAmong p (pairs_of ps)) prepared left))
          (λ right. resolved p (subst (λ (rs : List ResolvedTxn). IsAmong p (map pair_resolved rs)) resolving right))
          (among_append p (pairs_of n.prepared) (map pair_resolved n.resolving) there)

  pub unused_answered : (new : State) (answer : Answer) → CallStep g s session (call.Resolve global asked) (Done answer) new → IsUnused new.sessions global
  unused_answered new answer h = ⊎_elim
      (λ general. let clash = general.2 in absurd cc)
      (λ goes. ⊎_elim (λ early. let clash = early.2 in absurd cc) (λ on. by asked on.0 goes.1 on.1) goes.2)
      (resolve_in g s new session global asked (Done answer) h)
    where
      by : (asked : Outcome) → MayResolve s session global → DoesNotWait s session → ResolvesTo s session global asked (Done answer) new → IsUnused new.sessions global
      by outcome.Commit may idle to = absurd to
      by outcome.Abort may idle to =
          let rolls = (made_before g o found es s k session global may idle answer new to).0 in
          let left = answered_left g o found es s k session global may idle answer new to in
          unused_without (resolved_by_rollback to.0 global) new.sessions rolls.1 refl (rolled_logged o found es s k to.0 global rolls).1 (ap (λ (x : State). x.sessions.prepared) left)
          (ap (λ (x : State). x.sessions.resolving) left)

-- ---- answered as it is resumed

module _ (g : Geometry) (o : Opening) (found : List LogRecord) (es : List Entry) (s : State) (k : IsStateAfter o found es s) (session : ℕ) where
  -- a waiting call of the session is a resolve under the global id, which nobody has then
  abbrev pub Frees : State → Type 0
  Frees new = (w : Waiting) × IsAmong w s.waiting × (w.session ≡ session) × ((global : List ℕ) × (asked : Outcome) × (w.call ≡ call.Resolve global asked) × IsUnused new.sessions global)

  -- behind its locks no call is answered so
  no_resolve : (x : State) (a : SessionTxn) (c : Call) (new : State) → AnswersBehind g x a c Resolved new → ⊥
  no_resolve x a (call.Get id) new h = let clash = h.0.2 in absurd cc
  no_resolve x a (call.GetForUpdate id) new h = let clash = h.0.2 in absurd cc
  no_resolve x a (call.Insert store bytes) new h = let clash = h.2 in absurd cc
  no_resolve x a (call.Update id bytes) new h = let clash = h.1 in absurd cc
  no_resolve x a (call.Delete id) new h = let clash = h.1 in absurd cc
  no_resolve x a (call.Scan store) new h = let clash = h.0 in absurd cc
  no_resolve x a (call.Lock asked mode) new h = let clash = h.0 in absurd cc
  no_resolve x a (call.TryLock asked mode) new h = let clash = h.0 in absurd cc
  no_resolve x a call.Begin new h = absurd h
  no_resolve x a call.Savepoint new h = absurd h
  no_resolve x a (call.BackTo index) new h = absurd h
  no_resolve x a call.Commit new h = absurd h
  no_resolve x a call.Abort new h = absurd h
  no_resolve x a (call.Prepare global) new h = absurd h
  no_resolve x a (call.Resolve global outcome) new h = absurd h
  no_resolve x a call.InDoubt new h = absurd h

  freed : (w : Waiting) (wait : Wait) (new : State) → IsAmong w s.waiting → w.session ≡ session → ResumesWait g s w wait (Done Resolved) new → Frees new
  freed w (Durable n) new m its (inl h) = let clash = h.1 in absurd cc
  freed w (Durable n) new m its (inr (inl h)) = let clash = h.1 in absurd cc
  freed w (Durable n) new m its (inr (inr (le, same, (r, ended, asked, is)))) =
      let gone = unused_without g o found es s k session r.global r.outcome r new.sessions ended.0 refl (λ doubt. ended.1 (k.sessions.agree.under_way r.txn doubt))
      (ap (λ (x : State). x.sessions.prepared) is) (ap (λ (x : State). x.sessions.resolving) is) in (
        w,
        m,
        its,
        (r.global, r.outcome, asked, gone),
      )
  freed w (Lock at) new m its (a, own, inl h) = let clash = h.1 in absurd cc
  freed w (Lock at) new m its (a, own, inr h) = absurd (no_resolve h.1.0 a w.call new h.1.2)

  pub unused_resumed : (new : State) → ResumeStep g s session (Done Resolved) new → Frees new
  unused_resumed new (inl h) = let clash = h.1 in absurd cc
  unused_resumed new (inr (w, m, its, inl h)) = let clash = h.1 in absurd cc
  unused_resumed new (inr (w, m, its, inr h)) = freed w w.wait new m its h.1

-- while it waits it is in use
pub used_while_waiting : (g : Geometry) (s new : State) (session : ℕ) (global : List ℕ) (asked : Outcome) (wait : Wait) → CallStep g s session (call.Resolve global asked) (Waits wait) new
    → IsUnused new.sessions global → ⊥
used_while_waiting g s new session global asked wait h unused = by asked (goes_on g s new session global asked (Waits wait) tt h).1
  where
    in_it : (r : ResolvedTxn) → IsAmong r new.sessions.resolving → r.global ≡ global → ⊥
    in_it r m named = in_use_not global r.txn (in_use new.sessions) (subst (λ (name : List ℕ). IsAmong (r.txn, name) (in_use new.sessions)) named (used_resolved new.sessions r m)) unused

    back_in : (b : SessionTxn) (d : State) → DecidesRollback s global b d → new.sessions.resolving ≡ d.sessions.resolving → ⊥
    back_in b d (inl x) same = in_it (resolved_by_rollback x.0 global) (subst (IsAmong (resolved_by_rollback x.0 global)) (sym (same ∙ ap (λ (y : State). y.sessions.resolving) x.3)) (inl refl)) refl
    back_in b d (inr x) same = in_it (resolved_by_rollback b global) (subst (IsAmong (resolved_by_rollback b global)) (sym (same ∙ ap (λ (y : State). y.sessions.resolving) x.1)) x.0.1) refl

    by : (asked : Outcome) → ResolvesTo s session global asked (Waits wait) new → ⊥
    by outcome.Commit to =
        let r : ResolvedTxn = record { txn = to.0.txn; global = global; outcome = outcome.Commit } in
        in_it r (subst (IsAmong r) (sym (ap (λ (y : State). y.sessions.resolving) to.3)) (inl refl)) refl
    by outcome.Abort to = back_in to.0 to.1 to.2 (ap (λ (y : State). y.sessions.resolving) to.3.2)
