-- Each event, and an open, leave the history sound.
use Rattle.std.proofs.Common.{◌≡◌, ◌≢◌, inl, inr, ⊎_elim, ◌++◌, ◌<◌, ◌≤◌, ℕ, List, [], ◌∷◌, true, false, cond, Some, None, Ok, Err, refl, sym, ap, subst, ◌∙◌, map, length, arith, append-nil, append_assoc}
use Rattle.std.specs.Prelude.{◌==◌, All, not, slice_get}
use Rattle.std.specs.List.{AllByRecursion}
use Rattle.std.proofs.lemmas.Bool.{eqb-true, eqb-false, ne_eqb}
use Rattle.std.proofs.lemmas.List.Elements.{recursion_from_All}
use Rattle.shore_types.specs.declared.locking.Granule.{Granule}
use Rattle.shore_model.specs.declared.calls.Answer.TheVariants.{Aborted, AreInDoubt, Committed, Prepared, Resolved}
use Rattle.shore_model.specs.declared.calls.Call.TheVariants as call
use Rattle.shore_model.specs.declared.histories.Decision.{Decision}
use Rattle.shore_model.specs.declared.histories.Decision.TheVariants as decision
use Rattle.shore_model.specs.declared.calls.Exchange.{Exchange}
use Rattle.shore_model.specs.declared.histories.Entry.{Entry}
use Rattle.shore_model.specs.declared.histories.Entry.TheVariants.{Decided, Exchanged}
use Rattle.shore_model.specs.declared.histories.InDoubt.{InDoubt}
use Rattle.shore_model.specs.declared.histories.Opening.{Opening}
use Rattle.shore_model.specs.declared.sessions.SessionState.{SessionState}
use Rattle.shore_model.specs.Histories.{decisions, writes_given}
use Rattle.laws_lives.proofs.Exchanges.{abort_is_quiet, commit_is_quiet, in_doubt_is_quiet, prepare_is_quiet, refusal_is_quiet, resolve_is_quiet}
use Rattle.laws_lives.proofs.Lists.{among_map, among_right, map-push}
use Rattle.laws_lives.proofs.Members.{txn_among, txn_without}
use Rattle.laws_lives.proofs.Soundness.{sound_prepare, sound_resolve, sound_rollback}
use Rattle.laws_lives.proofs.Standing.{stands_whole}
use Rattle.laws_lives.specs.RepliesInPlace.{MayReplyInPlace}
use Rattle.laws_lives.specs.SessionSteps.{AnswerAbort, AnswerInDoubt, AnswerPrepare, AnswerResolve, AppendCommit, AppendPrepare, AppendResolve, AppendRollback, Ask, BeginTxn, Doom, EndRollback, GiveReply, MoveLocks, PutBack, RefuseCall, SessionEvent, StepsTo, entries_by, exchange}
use Rattle.laws_lives.specs.Sessions.{IsFree, IsTxnOf, PreparedTxn, ResolvedTxn, SessionTxn, Sessions, abort_answered, commit_appended, doomed, image_put_back, in_doubt_of, locks_moved, pair_of, pair_resolved, pairs_of, prepare_appended, resolve_appended, rollback_appended, rollback_ended, seated, txns_of, with_answered, without_prepared, without_resolved}
use Rattle.laws_lives.specs.Soundness.{IsJustOpened, IsSoundAfter, SessionsAgree, found_in_doubt, serial_after, written_by}
use Rattle.laws_lives.specs.Views.{IsAmong}
use Rattle.laws_lives.proofs.BeginSteps.{begin_stays_sound}
use Rattle.laws_lives.proofs.EndSteps.{commit_stays_sound, commit_turn, rollback_stays_sound}
use Rattle.laws_lives.proofs.PutBacks.{doom_stays_sound, put_back_stays_sound}
use Rattle.laws_lives.proofs.EndedLocks.{without_its_locks}
use Rattle.laws_lives.proofs.QuietSteps.{asked_stays_sound, decision_stays_sound, locks_stay_sound, quiet_stays_sound, sound_beside}
use Rattle.laws_lives.proofs.ReplySteps.{reply_stays_sound}

none_at : (n : ℕ) (d : Decision) → slice_get (decisions []) n ≡ Some d → ⊥
none_at n d e = cc

module _ {o : Opening} {es : List Entry} {s : Sessions} (k : IsSoundAfter o es s) where
  -- a state that has the same records, locks and transactions under way, and nobody free who was not
  beside : (new : Sessions) → new.records ≡ s.records → new.active ≡ s.active → new.held ≡ s.held → new.next_txn ≡ s.next_txn → new.prepared ≡ s.prepared
      → new.resolving ≡ s.resolving → IsSoundAfter o es new
  beside new records active held next prepared resolving =
      sound_beside k new records active held next
      (λ t b is_free. (subst (λ ps. IsAmong t (map (λ p. p.txn) ps) → ⊥) prepared is_free.0, subst (λ rs. IsAmong t (map (λ r. r.txn) rs) → ⊥) resolving is_free.1))

-- other seats
pub sound_seated : {o : Opening} {es : List Entry} {left : Sessions} (s : Sessions) (more : List Entry) → IsSoundAfter o es left → IsSoundAfter o es (seated s more left)
sound_seated s more k = beside k _ refl refl refl refl refl refl

-- ---- who is free once lists have changed

pub among_push : {A : Type 0} (x y : A) (xs : List A) → IsAmong x xs → IsAmong x (xs ++ y ∷ [])
among_push x y [] h = absurd h
among_push x y (z ∷ xs) (inl e) = inl e
among_push x y (z ∷ xs) (inr later) = inr (among_push x y xs later)

pub last_among : {A : Type 0} (x : A) (xs : List A) → IsAmong x (xs ++ x ∷ [])
last_among x [] = inl refl
last_among x (z ∷ xs) = inr (last_among x xs)

-- who was in doubt is still, or is the one that is taken out
pub still_prepared : (t u : ℕ) (ps : List PreparedTxn) → IsAmong u (map (λ p. p.txn) ps) → u ≢ t → IsAmong u (map (λ p. p.txn) (without_prepared t ps))
still_prepared t u [] h other = absurd h
still_prepared t u (p ∷ ps) h other =
    elim (t == p.txn) as (λ b. (t == p.txn) ≡ b → IsAmong u (map (λ p. p.txn) (cond (not b) (p ∷ without_prepared t ps) (without_prepared t ps)))) [
      | true ↦ λ e. ⊎_elim (λ same. absurd (other (sym same ∙ sym (eqb-true t p.txn e)))) (λ later. still_prepared t u ps later other) h
      | false ↦ λ e. ⊎_elim (λ same. inl same) (λ later. inr (still_prepared t u ps later other)) h
    ] refl

pub was_prepared : (t u : ℕ) (ps : List PreparedTxn) → IsAmong u (map (λ p. p.txn) (without_prepared t ps)) → IsAmong u (map (λ p. p.txn) ps) × (u ≢ t)
was_prepared t u [] = λ h. absurd h
was_prepared t u (p ∷ ps) =
    elim (t == p.txn) as (λ b. (t == p.txn) ≡ b → IsAmong u (map (λ p. p.txn) (cond (not b) (p ∷ without_prepared t ps) (without_prepared t ps))) → IsAmong u (map (λ p. p.txn) (p ∷ ps)) × (u ≢ t)) [
      | true ↦ λ e h. let rest = was_prepared t u ps h in (inr rest.0, rest.1)
      | false ↦ λ e h. ⊎_elim (λ same. (inl same, λ is. eqb-false t p.txn e (sym is ∙ sym same))) (λ later. let rest = was_prepared t u ps later in (inr rest.0, rest.1)) h
    ] refl

pub answered_txns : (t : ℕ) (ps : List PreparedTxn) → map (λ p. p.txn) (with_answered t ps) ≡ map (λ p. p.txn) ps
answered_txns t [] = refl
answered_txns t (p ∷ ps) =
    elim (p.txn == t) as (λ b. (cond b (record { txn = p.txn; global = p.global; answered = true }) p).txn ∷ map (λ p. p.txn) (with_answered t ps) ≡ p.txn ∷ map (λ p. p.txn) ps) [
      | true ↦ ap (λ us. p.txn ∷ us) (answered_txns t ps)
      | false ↦ ap (λ us. p.txn ∷ us) (answered_txns t ps)
    ]

pub answered_pairs : (t : ℕ) (ps : List PreparedTxn) → pairs_of (with_answered t ps) ≡ pairs_of ps
answered_pairs t [] = refl
answered_pairs t (p ∷ ps) =
    elim (p.txn == t) as (λ b. pair_of (cond b (record { txn = p.txn; global = p.global; answered = true }) p) ∷ pairs_of (with_answered t ps) ≡ pair_of p ∷ pairs_of ps) [
      | true ↦ ap (λ us. pair_of p ∷ us) (answered_pairs t ps)
      | false ↦ ap (λ us. pair_of p ∷ us) (answered_pairs t ps)
    ]

pub prepared_among : (p : PreparedTxn) (ps : List PreparedTxn) → IsAmong p ps → IsAmong p.txn (map (λ p. p.txn) ps)
prepared_among p [] h = absurd h
prepared_among p (q ∷ ps) (inl e) = inl (ap (λ (p : PreparedTxn). p.txn) e)
prepared_among p (q ∷ ps) (inr later) = inr (prepared_among p ps later)

pub txns_push : (p : PreparedTxn) (ps : List PreparedTxn) → map (λ p. p.txn) (ps ++ p ∷ []) ≡ map (λ p. p.txn) ps ++ p.txn ∷ []
txns_push p ps = map-push (λ p. p.txn) ps p

pub still_resolved : (t u : ℕ) (rs : List ResolvedTxn) → IsAmong u (map (λ r. r.txn) rs) → u ≢ t → IsAmong u (map (λ r. r.txn) (without_resolved t rs))
still_resolved t u [] h other = absurd h
still_resolved t u (r ∷ rs) h other =
    elim (t == r.txn) as (λ b. (t == r.txn) ≡ b → IsAmong u (map (λ r. r.txn) (cond (not b) (r ∷ without_resolved t rs) (without_resolved t rs)))) [
      | true ↦ λ e. ⊎_elim (λ same. absurd (other (sym same ∙ sym (eqb-true t r.txn e)))) (λ later. still_resolved t u rs later other) h
      | false ↦ λ e. ⊎_elim (λ same. inl same) (λ later. inr (still_resolved t u rs later other)) h
    ] refl

-- ---- those that an open found in doubt

pub found_txns : (ds : List InDoubt) → map (λ p. p.txn) (map found_in_doubt ds) ≡ map (λ d. d.txn) ds
found_txns [] = refl
found_txns (d ∷ ds) = ap (λ ts. d.txn ∷ ts) (found_txns ds)

pub found_under : (n : ℕ) (ds : List InDoubt) → All (λ (d : InDoubt). d.txn < n) ds → (t : ℕ) → IsAmong t (map (λ d. d.txn) ds) → t < n
found_under n ds h = by_recursion ds (recursion_from_All (λ (d : InDoubt). d.txn < n) ds h)
  where
    by_recursion : (ds : List InDoubt) → AllByRecursion (λ (d : InDoubt). d.txn < n) ds → (t : ℕ) → IsAmong t (map (λ d. d.txn) ds) → t < n
    by_recursion [] r t b = absurd b
    by_recursion (d ∷ ds) r t b = ⊎_elim (λ same. subst (λ t. t < n) same r.0) (λ later. by_recursion ds r.1 t later) b

pub given_below : (n : ℕ) (ds : List InDoubt) → All (λ (d : InDoubt). d.txn < n) ds → (t : ℕ) → n ≤ t → writes_given ds t ≡ None
given_below n ds h = by_recursion ds (recursion_from_All (λ (d : InDoubt). d.txn < n) ds h)
  where
    by_recursion : (ds : List InDoubt) → AllByRecursion (λ (d : InDoubt). d.txn < n) ds → (t : ℕ) → n ≤ t → writes_given ds t ≡ None
    by_recursion [] r t le = refl
    by_recursion (d ∷ ds) r t le =
        let less = r.0 in
        ap (λ b. cond b (Some d.writes) (writes_given ds t)) (ne_eqb d.txn t (λ same. omega arith)) ∙ by_recursion ds r.1 t le

-- ---- each event

pub txn_below : {o : Opening} {es : List Entry} {s : Sessions} (session t : ℕ) → SessionsAgree o es s → IsTxnOf s session t → t < s.next_txn
txn_below {s = s} session t k of = subst (λ t. t < s.next_txn) of (k.below session)

resolved_below : {o : Opening} {es : List Entry} {s : Sessions} (r : ResolvedTxn) (k : SessionsAgree o es s) → IsAmong r s.resolving → r.txn < s.next_txn
resolved_below {s = s} r k mem = k.used_below (pair_resolved r) (among_right (pair_resolved r) (pairs_of s.prepared) (map pair_resolved s.resolving) (among_map pair_resolved r s.resolving mem))

module _ {o : Opening} {es : List Entry} {s : Sessions} (k : IsSoundAfter o es s) (agree : SessionsAgree o es s) where
  end_stays_sound : (a : SessionTxn) → IsAmong a s.active → IsSoundAfter o es (rollback_ended s a)
  end_stays_sound a mem = without_its_locks a.txn (rollback_stays_sound k a mem) (λ u b. (txn_without a.txn u s.active b).1)

  -- a commit: its record, then its locks go, then it is answered
  own_commit_stays_sound : (a : SessionTxn) → IsAmong a s.active → a.undo.rolling ≡ None → IsFree s a.txn → (ticket : ℕ)
      → IsSoundAfter o (es ++ entries_by s (AppendCommit a ticket)) (commit_appended s a)
  own_commit_stays_sound a mem none is_free ticket =
      let x : Exchange = exchange call.Commit (Ok (Committed ticket)) in
      subst (λ es. IsSoundAfter o es (commit_appended s a)) (append_assoc es (Decided (decision.Commit a.txn) ∷ []) (Exchanged a.session a.txn x ∷ []))
      (quiet_stays_sound (without_its_locks a.txn (commit_stays_sound k a mem none (commit_turn k a mem none is_free)) (λ u b. (txn_without a.txn u s.active b).1))
      a.session a.txn x (commit_is_quiet o.slots ticket) (k.below a.txn (txn_among a s.active mem)))

  abort_stays_sound : (a : SessionTxn) → IsAmong a s.active → IsSoundAfter o (es ++ entries_by s (AnswerAbort a)) (abort_answered s a)
  abort_stays_sound a mem =
      quiet_stays_sound (end_stays_sound a mem) a.session a.txn (exchange call.Abort (Ok Aborted)) (abort_is_quiet o.slots) (k.below a.txn (txn_among a s.active mem))

  prepare_stays_sound : (a : SessionTxn) → IsAmong a s.active → IsFree s a.txn → (global : List ℕ) (granules : List Granule)
      → IsSoundAfter o (es ++ entries_by s (AppendPrepare a global granules)) (prepare_appended s a global)
  prepare_stays_sound a mem is_free global granules =
      let t_in = txn_among a s.active mem in
      let next : Sessions = prepare_appended s a global in
      let still : (u : ℕ) → IsFree next u → IsFree s u =
      λ u is. (λ h. is.0 (subst (IsAmong u) (sym (txns_push _ s.prepared)) (among_push u a.txn (in_doubt_of s) h)), is.1) in
      decision_stays_sound (sound_beside k next refl refl refl refl (λ u b is. still u is)) (decision.Prepare a.txn global)
      (sound_prepare o es a.txn global k.sound (k.own a.txn t_in is_free) (k.replies a.txn t_in (serial_after o es) (λ id r. refl)))
      (λ R. refl) (k.below a.txn t_in)
      (λ u b is same. is.0 (subst (IsAmong u) (sym (txns_push _ s.prepared)) (subst (λ v. IsAmong v (in_doubt_of s ++ a.txn ∷ [])) same (last_among a.txn (in_doubt_of s)))))

  resolve_stays_sound : (a : SessionTxn) → IsAmong a s.active → a.undo.rolling ≡ None → (global : List ℕ) → IsAmong a.txn (in_doubt_of s)
      → IsSoundAfter o (es ++ entries_by s (AppendResolve a global)) (resolve_appended s a global)
  resolve_stays_sound a mem none global doubt =
      sound_beside (without_its_locks a.txn (commit_stays_sound k a mem none (sound_resolve o es a.txn k.sound (agree.turned a.txn doubt))) (λ u b. (txn_without a.txn u s.active b).1)) (resolve_appended s a global) refl refl refl refl
      (λ u b is. (λ h. is.0 (still_prepared a.txn u s.prepared h (txn_without a.txn u s.active b).1), λ h. is.1 (inr h)))

  rollback_begins_sound : (a : SessionTxn) → IsAmong a s.active → (global : List ℕ) → IsAmong a.txn (in_doubt_of s)
      → IsSoundAfter o (es ++ entries_by s (AppendRollback a global)) (rollback_appended s a global)
  rollback_begins_sound a mem global doubt =
      let next : Sessions = rollback_appended s a global in
      decision_stays_sound
      (sound_beside (doom_stays_sound k a mem) next refl refl refl refl
      (λ u b is. (λ h. is.0 (still_prepared a.txn u s.prepared h (λ same. is.1 (inl (sym same)))), λ h. is.1 (inr h))))
      (decision.RollBack a.txn) (sound_rollback o es a.txn k.sound) (λ R. refl) (k.below a.txn (txn_among a s.active mem))
      (λ u b is same. is.1 (inl same))

pub event_stays_sound : (o : Opening) (es : List Entry) (old new : Sessions) (e : SessionEvent) → IsSoundAfter o es old → SessionsAgree o es old
    → StepsTo old e new → IsSoundAfter o (es ++ entries_by old e) new
event_stays_sound o es old new (MoveLocks held) k agree moves =
    subst (IsSoundAfter o (es ++ [])) (sym moves.3)
    (subst (λ es. IsSoundAfter o es (locks_moved old held)) (sym (append-nil es)) (locks_stay_sound k held moves.0 moves.1 moves.2))
event_stays_sound o es old new (BeginTxn session) k agree moves =
    subst (IsSoundAfter o _) (sym moves.1) (sound_seated old (entries_by old (BeginTxn session)) (begin_stays_sound k session))
event_stays_sound o es old new (GiveReply a c reply) k agree moves =
    subst (IsSoundAfter o _) (sym moves.4) (sound_seated old (entries_by old (GiveReply a c reply)) (reply_stays_sound k a moves.0.0 moves.0.2 c reply
    (subst (λ most. MayReplyInPlace most old.held a.txn old.records (length a.undo.marks) c reply) agree.slots moves.2) moves.3))
event_stays_sound o es old new (AppendCommit a ticket) k agree moves =
    subst (IsSoundAfter o _) (sym moves.2) (sound_seated old (entries_by old (AppendCommit a ticket)) (own_commit_stays_sound k agree a moves.0.0 moves.1 moves.0.2 ticket))
event_stays_sound o es old new (PutBack a kept e r) k agree moves =
    subst (IsSoundAfter o (es ++ [])) (sym moves.4)
    (subst (λ es. IsSoundAfter o es (image_put_back old a kept e r)) (sym (append-nil es)) (put_back_stays_sound k a moves.0.0 kept e moves.1 r moves.2 moves.3))
event_stays_sound o es old new (Doom a) k agree moves =
    subst (IsSoundAfter o (es ++ [])) (sym moves.1) (subst (λ es. IsSoundAfter o es (doomed old a)) (sym (append-nil es)) (doom_stays_sound k a moves.0.0))
event_stays_sound o es old new (AnswerAbort a) k agree moves =
    subst (IsSoundAfter o _) (sym moves.1) (sound_seated old (entries_by old (AnswerAbort a)) (abort_stays_sound k agree a moves.0.0))
event_stays_sound o es old new (Ask ticket durable) k agree moves = subst (IsSoundAfter o _) (sym moves) (asked_stays_sound k ticket durable)
event_stays_sound o es old new (RefuseCall session t c fault) k agree moves =
    subst (IsSoundAfter o _) (sym moves.2)
    (sound_seated old (entries_by old (RefuseCall session t c fault)) (quiet_stays_sound k session t (exchange c (Err fault)) (refusal_is_quiet o.slots c fault moves.1) (txn_below session t agree moves.0)))
event_stays_sound o es old new (AppendPrepare a global granules) k agree moves =
    subst (IsSoundAfter o _) (sym moves.4)
    (sound_seated old (entries_by old (AppendPrepare a global granules)) (prepare_stays_sound k agree a moves.0.0 moves.0.2 global granules))
event_stays_sound o es old new (AnswerPrepare session t global) k agree moves =
    subst (IsSoundAfter o _) (sym moves.2)
    (sound_beside (quiet_stays_sound k session t (exchange (call.Prepare global) (Ok Prepared)) (prepare_is_quiet o.slots global)
    (txn_below session t agree (ap (λ (p : SessionState). p.txn) moves.1))) _ refl refl refl refl
    (λ u b is. (λ h. is.0 (subst (IsAmong u) (sym (answered_txns t old.prepared)) h), is.1)))
event_stays_sound o es old new (AppendResolve a global) k agree moves =
    subst (IsSoundAfter o _) (sym moves.3)
    (sound_seated old (entries_by old (AppendResolve a global))
    (resolve_stays_sound k agree a moves.0 moves.1 global (prepared_among _ old.prepared moves.2)))
event_stays_sound o es old new (AppendRollback a global) k agree moves =
    subst (IsSoundAfter o _) (sym moves.2)
    (sound_seated old (entries_by old (AppendRollback a global)) (rollback_begins_sound k agree a moves.0 global (prepared_among _ old.prepared moves.1)))
event_stays_sound o es old new (EndRollback a) k agree moves =
    subst (IsSoundAfter o (es ++ [])) (sym moves.2) (subst (λ es. IsSoundAfter o es (rollback_ended old a)) (sym (append-nil es)) (end_stays_sound k agree a moves.0.0))
event_stays_sound o es old new (AnswerResolve session r) k agree moves =
    subst (IsSoundAfter o _) (sym moves.2)
    (sound_beside (quiet_stays_sound k session r.txn (exchange (call.Resolve r.global r.outcome) (Ok Resolved)) (resolve_is_quiet o.slots r.global r.outcome) (resolved_below r agree moves.0))
    _ refl refl refl refl
    (λ u b is. (is.0, λ h. is.1 (still_resolved r.txn u old.resolving h (λ same. moves.1 (subst (λ v. IsAmong v (txns_of old.active)) same b))))))
event_stays_sound o es old new (AnswerInDoubt session t pairs) k agree moves =
    subst (IsSoundAfter o _) (sym moves.2)
    (sound_seated old (entries_by old (AnswerInDoubt session t pairs)) (quiet_stays_sound k session t (exchange call.InDoubt (Ok (AreInDoubt pairs))) (in_doubt_is_quiet o.slots pairs) (txn_below session t agree moves.0)))

-- nothing has happened yet
pub open_is_sound : (o : Opening) (s : Sessions) → IsJustOpened o s → IsSoundAfter o [] s
open_is_sound o s h =
    let all_in_doubt : in_doubt_of s ≡ txns_of s.active = ap (map (λ p. p.txn)) h.prepared ∙ found_txns o.in_doubt ∙ sym h.active in
    let never_free : (t : ℕ) → IsAmong t (txns_of s.active) → IsFree s t → ⊥ = λ t b is. is.0 (subst (IsAmong t) (sym all_in_doubt) b) in
    record {
      sound = λ n d at. absurd (none_at n d at);
      standing = written_by o [];
      stands_for = λ a m. stands_whole o [] a (written_by o [] a.txn) (h.unrolled a m) refl;
      stand = h.stand;
      replies = λ t b S agree. tt;
      undoes = h.undoes;
      undecided = λ t b is. absurd (never_free t b is);
      below = λ t b. found_under s.next_txn o.in_doubt h.found t (subst (IsAmong t) h.active b);
      decided = tt;
      uncalled = λ t le. refl;
      unheld = h.unheld;
      own = λ t b is. absurd (never_free t b is);
      found_below = λ t le. given_below s.next_txn o.in_doubt h.found t le;
    }
