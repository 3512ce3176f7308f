-- Each event leaves those in doubt in the log as the state has them, holding their granules.
use Rattle.std.proofs.Common.{◌≡◌, ◌≢◌, ◌⊎◌, ◌<◌, inl, inr, ⊎_elim, ◌++◌, ℕ, List, [], ◌∷◌, true, false, cond, refl, sym, ap, subst, ◌∙◌, map, arith}
use Rattle.std.specs.Prelude.{◌==◌, Contains, nat_eq, not}
use Rattle.std.specs.Cmp.Lexicographic.{pointwise}
use Rattle.std.proofs.lemmas.Bool.{eq-eqb, true≢false}
use Rattle.std.proofs.lemmas.List.Elements.{All-contains}
use Rattle.shore_types.specs.declared.locking.Granule.{Granule}
use Rattle.shore_types.specs.declared.locking.Mode.TheVariants.{EX}
use Rattle.shore_model.specs.declared.histories.Entry.{Entry}
use Rattle.shore_model.specs.declared.histories.Opening.{Opening}
use Rattle.shore_model.specs.declared.log_records.LogRecord.{LogRecord}
use Rattle.shore_model.specs.declared.log_records.Payload.TheVariants.{Commit, Prepare, RollbackDecided}
use Rattle.shore_model.specs.Locks.{HoldsAtLeast}
use Rattle.shore_model.specs.Logs.{has, is_prepare, is_rollback, previous_of}
use Rattle.laws_lives.proofs.EndedLocks.{others_keep}
use Rattle.laws_lives.proofs.DoubtDecisions.{but, pairs_without, same_text}
use Rattle.laws_lives.proofs.DoubtRecords.{DecidesNone, abort_decides_none, among_filter, but_doubt, commit_takes, decides_none, end_decides_none, none_committed, none_of_it, one_decides_none, prepare_adds, reply_decides_none, rollback_takes}
use Rattle.laws_lives.proofs.GranulePaths.{none_on_one_path}
use Rattle.laws_lives.proofs.Lists.{among_append, among_left, among_map, among_right, map-push, mapped_one, recursion-weaker}
use Rattle.laws_lives.proofs.Members.{txn_among, txn_without, txns_with}
use Rattle.laws_lives.proofs.OneMore.{has-not_its, has-not_this, has-this}
use Rattle.laws_lives.proofs.SessionsAgree.{but_none, each_at, pair_txn}
use Rattle.laws_lives.proofs.Steps.{among_push, answered_pairs, answered_txns, last_among, still_prepared, still_resolved, txns_push, was_prepared}
use Rattle.laws_lives.proofs.Writers.{same_or_not}
use Rattle.laws_lives.specs.Doubts.{DoubtsStand, LoggedDoubt, TracksDoubts, doubts_in, pair_logged}
use Rattle.laws_lives.specs.LogTells.{IsLogAfter}
use Rattle.laws_lives.specs.Logged.{and_record, log_after}
use Rattle.laws_lives.specs.SessionSteps.{AnswerAbort, AnswerInDoubt, AnswerPrepare, AnswerResolve, AppendCommit, AppendPrepare, AppendResolve, AppendRollback, AreExclusive, Ask, BeginTxn, Doom, EndRollback, GiveReply, KeepsLocks, MoveLocks, PutBack, RefuseCall, SessionEvent, StepsTo}
use Rattle.laws_lives.specs.Sessions.{IsFree, IsUnused, PreparedTxn, ResolvedTxn, SessionTxn, Sessions, in_doubt_of, pair_of, pair_resolved, pairs_of, resolved_of, txns_of, without_prepared, without_resolved}
use Rattle.laws_lives.specs.Soundness.{IsSoundAfter, SessionsAgree}
use Rattle.laws_lives.specs.Views.{IsAmong}

-- fewer of them stand as they did
pub fewer_stand : (log more : List LogRecord) → ((d : LoggedDoubt) → IsAmong d (doubts_in more) → IsAmong d (doubts_in log)) → DoubtsStand log → DoubtsStand more
fewer_stand log more fewer h = record {
  apart = λ d e g i a b. h.apart d e g i (fewer d a) (fewer e b);
  differ = λ d e a b. h.differ d e (fewer d a) (fewer e b);
}

pub same_stand : (log more : List LogRecord) → doubts_in more ≡ doubts_in log → DoubtsStand log → DoubtsStand more
same_stand log more same = fewer_stand log more (λ d a. subst (IsAmong d) same a)

pub still_without : (t u : ℕ) (rs : List ResolvedTxn) → IsAmong u (map (λ r. r.txn) (without_resolved t rs)) → IsAmong u (map (λ r. r.txn) rs)
still_without t u [] = λ h. h
still_without t u (r ∷ rs) =
    elim (not (t == r.txn)) as (λ b. IsAmong u (map (λ r. r.txn) (cond b (r ∷ without_resolved t rs) (without_resolved t rs))) → IsAmong u (map (λ r. r.txn) (r ∷ rs))) [
      | true ↦ λ h. ⊎_elim (λ same. inl same) (λ later. inr (still_without t u rs later)) h
      | false ↦ λ h. inr (still_without t u rs h)
    ]

map_but : (t : ℕ) (ds : List LoggedDoubt) → map pair_logged (but_doubt t ds) ≡ but t (map pair_logged ds)
map_but t [] = refl
map_but t (d ∷ ds) =
    elim (not (t == d.txn)) as (λ b. map pair_logged (cond b (d ∷ but_doubt t ds) (but_doubt t ds)) ≡ cond b (pair_logged d ∷ but t (map pair_logged ds)) (but t (map pair_logged ds))) [
      | true ↦ ap (λ ps. pair_logged d ∷ ps) (map_but t ds)
      | false ↦ map_but t ds
    ]

module _ {o : Opening} {es : List Entry} {s : Sessions} {log : List LogRecord} (k : IsSoundAfter o es s) (l : IsLogAfter o es s log) (d : TracksDoubts log s) where
  pub doubt_is_prepared : (e : LoggedDoubt) → IsAmong e (doubts_in log) → IsAmong e.txn (in_doubt_of s)
  doubt_is_prepared e a = pair_txn (pair_logged e) s.prepared (subst (IsAmong (pair_logged e)) d.in_doubt (among_map pair_logged e (doubts_in log) a))

  -- nothing is decided: those in doubt, the free and the resolved among those under way are of the old ones
  pub undecided_tracks : (more : List LogRecord) (new : Sessions) → DecidesNone log more → pairs_of new.prepared ≡ pairs_of s.prepared → in_doubt_of new ≡ in_doubt_of s
      → ((t : ℕ) → IsAmong t (in_doubt_of s) → KeepsLocks s.held new.held t)
      → ((t : ℕ) → IsAmong t (txns_of new.active) → IsFree new t → (has is_prepare t log ≡ false) × (has is_rollback t log ≡ false))
      → ((t : ℕ) → IsAmong t (txns_of new.active) → IsAmong t (resolved_of new) → IsAmong t (txns_of s.active) × IsAmong t (resolved_of s))
      → TracksDoubts more new
  undecided_tracks more new none pairs doubts keeps free rolled = record {
    in_doubt = ap (map pair_logged) none.doubts ∙ d.in_doubt ∙ sym pairs;
    hold = λ e g a c. let was = subst (IsAmong e) none.doubts a in
        keeps e.txn (doubt_is_prepared e was) EX g (d.hold e g was c);
    free = λ t b is. let was = free t b is in (none.prepares t ∙ was.0, none.rollbacks t ∙ was.1);
    rolled = λ t b r. let was = rolled t b r in let old = d.rolled t was.0 was.1 in (none.rollbacks t ∙ old.0, λ h. old.1 (subst (IsAmong t) doubts h));
    stand = same_stand log more none.doubts d.stand;
  }

  -- the same transactions under way, prepared and resolved
  pub still_tracks : (more : List LogRecord) (new : Sessions) → DecidesNone log more → new.prepared ≡ s.prepared → new.resolving ≡ s.resolving
      → ((t : ℕ) → IsAmong t (in_doubt_of s) → KeepsLocks s.held new.held t)
      → ((t : ℕ) → IsAmong t (txns_of new.active) → IsAmong t (txns_of s.active)) → TracksDoubts more new
  still_tracks more new none prepared resolving keeps fewer =
      undecided_tracks more new none (ap pairs_of prepared) (ap (map (λ p. p.txn)) prepared)
      keeps
      (λ t b is. d.free t (fewer t b) (λ h. is.0 (subst (λ ps. IsAmong t (map (λ p. p.txn) ps)) (sym prepared) h), λ h. is.1 (subst (λ rs. IsAmong t (map (λ r. r.txn) rs)) (sym resolving) h)))
      (λ t b r. (fewer t b, subst (λ rs. IsAmong t (map (λ r. r.txn) rs)) resolving r))

  -- ---- a Prepare

  prepare_tracks : (a : SessionTxn) → IsAmong a s.active → IsFree s a.txn → (global : List ℕ) (granules : List Granule) → IsUnused s global → AreExclusive s.held a.txn granules
      → (new : Sessions) → new.prepared ≡ s.prepared ++ record { txn = a.txn; global = global; answered = false } ∷ [] → new.resolving ≡ s.resolving → new.held ≡ s.held
      → new.active ≡ s.active → TracksDoubts (and_record a.txn log (Prepare global granules)) new
  prepare_tracks a mem is_free global granules unused exclusive new prepared resolving held active =
      let t_in = txn_among a s.active mem in
      let was = d.free a.txn t_in is_free in
      let r : LogRecord = record { txn = a.txn; previous = previous_of a.txn log; payload = Prepare global granules } in
      let more : List LogRecord = log ++ r ∷ [] in
      let own : LoggedDoubt = record { txn = a.txn; global = global; granules = granules } in
      let added : doubts_in more ≡ doubts_in log ++ own ∷ [] = prepare_adds log a.txn (previous_of a.txn log) global granules (none_committed a.txn log (l.tells_serial.uncommitted a.txn t_in)) was.1 in
      let one : (e : LoggedDoubt) → IsAmong e (doubts_in more) → IsAmong e (doubts_in log) ⊎ (own ≡ e) =
      λ e b. ⊎_elim (λ old. inl old) (λ new. ⊎_elim (λ is. inr is) (λ no. absurd no) new) (among_append e (doubts_in log) (own ∷ []) (subst (IsAmong e) added b)) in
      let holds_own : (g : Granule) → Contains granules g → HoldsAtLeast s.held a.txn EX g = λ g c. All-contains (HoldsAtLeast s.held a.txn EX) granules g exclusive.each c in
      let holds : (e : LoggedDoubt) (g : Granule) → IsAmong e (doubts_in more) → Contains e.granules g → HoldsAtLeast s.held e.txn EX g =
      λ e g b. ⊎_elim (λ old c. d.hold e g old c) (λ same. subst (λ (e : LoggedDoubt). Contains e.granules g → HoldsAtLeast s.held e.txn EX g) same (holds_own g)) (one e b) in
      let new_doubt : PreparedTxn = record { txn = a.txn; global = global; answered = false } in
      let doubts : in_doubt_of new ≡ in_doubt_of s ++ a.txn ∷ [] = ap (map (λ p. p.txn)) prepared ∙ txns_push new_doubt s.prepared in
      let apart_of : (e : LoggedDoubt) → IsAmong e (doubts_in log) → global ≡ e.global → ⊥ =
      λ e old same. true≢false (sym (same_text global) ∙ ap (pointwise nat_eq global) same ∙ each_at (λ p. pointwise nat_eq global p.1 ≡ false) _ (pair_logged e) unused
      (among_left (pair_logged e) (pairs_of s.prepared) (map pair_resolved s.resolving) (subst (IsAmong (pair_logged e)) d.in_doubt (among_map pair_logged e (doubts_in log) old)))) in
      record {
        in_doubt = ap (map pair_logged) added ∙ map-push pair_logged (doubts_in log) own ∙ ap (λ ps. ps ++ (a.txn, global) ∷ []) d.in_doubt ∙ sym (map-push pair_of s.prepared new_doubt) ∙ ap pairs_of (sym prepared);
        hold = λ e g b c. subst (λ held. HoldsAtLeast held e.txn EX g) (sym held) (holds e g b c);
        free = λ t b is.
            let other : a.txn ≢ t = λ same. is.0 (subst (IsAmong t) (sym doubts) (subst (λ v. IsAmong v (in_doubt_of s ++ a.txn ∷ [])) same (last_among a.txn (in_doubt_of s)))) in
            let old = d.free t (subst (λ xs. IsAmong t (txns_of xs)) active b)
            (λ h. is.0 (subst (IsAmong t) (sym doubts) (among_push t a.txn (in_doubt_of s) h)), λ h. is.1 (subst (λ rs. IsAmong t (map (λ r. r.txn) rs)) (sym resolving) h)) in
            (has-not_its log r is_prepare t other ∙ old.0, has-not_its log r is_rollback t other ∙ old.1);
        rolled = λ t b resolved.
            let was_resolved = subst (λ rs. IsAmong t (map (λ r. r.txn) rs)) resolving resolved in
            let old = d.rolled t (subst (λ xs. IsAmong t (txns_of xs)) active b) was_resolved in (
              has-not_this log r is_rollback t refl ∙ old.0,
              λ h. ⊎_elim (λ before. old.1 before) (λ now. ⊎_elim (λ same. is_free.1 (subst (λ v. IsAmong v (resolved_of s)) (sym same) was_resolved)) (λ no. no) now)
                  (among_append t (in_doubt_of s) (a.txn ∷ []) (subst (IsAmong t) doubts h)),
            );
        stand = record {
          apart = λ e f g h x y differ in_e in_f on. none_on_one_path s.held k.stand.harmony e.txn f.txn g h differ (holds e g x in_e) (holds f h y in_f) on;
          differ = λ e f x y same. ⊎_elim
              (λ old. ⊎_elim (λ also. d.stand.differ e f old also same) (λ is. absurd (apart_of e old (ap (λ (e : LoggedDoubt). e.global) is ∙ sym same))) (one f y))
              (λ is. ⊎_elim (λ also. absurd (apart_of f also (ap (λ (e : LoggedDoubt). e.global) is ∙ same))) (λ also. ap (λ (e : LoggedDoubt). e.txn) (sym is) ∙ ap (λ (e : LoggedDoubt). e.txn) also) (one f y))
              (one e x);
        };
      }

  -- ---- a commit of one that is free

  pub own_commit_tracks : (a : SessionTxn) → IsFree s a.txn → (new : Sessions) → new.prepared ≡ s.prepared → new.resolving ≡ s.resolving
      → ((t : ℕ) → IsAmong t (in_doubt_of s) → KeepsLocks s.held new.held t)
      → ((u : ℕ) → IsAmong u (txns_of new.active) → IsAmong u (txns_of s.active) × (u ≢ a.txn)) → TracksDoubts (and_record a.txn log Commit) new
  own_commit_tracks a is_free new prepared resolving keeps fewer =
      let r : LogRecord = record { txn = a.txn; previous = previous_of a.txn log; payload = Commit } in
      let takes = commit_takes log a.txn (previous_of a.txn log) in
      let kept : (e : LoggedDoubt) → IsAmong e (doubts_in (log ++ r ∷ [])) → IsAmong e (doubts_in log) =
      λ e a'. (among_filter (λ d. not (a.txn == d.txn)) e (doubts_in log) (subst (IsAmong e) takes a')).0 in
      record {
        in_doubt = ap (map pair_logged) takes ∙ map_but a.txn (doubts_in log) ∙ ap (but a.txn) d.in_doubt ∙ but_none a.txn s.prepared is_free.0 ∙ ap pairs_of (sym prepared);
        hold = λ e g x c. keeps e.txn (doubt_is_prepared e (kept e x)) EX g (d.hold e g (kept e x) c);
        free = λ u b is.
            let old = d.free u (fewer u b).0
            (λ h. is.0 (subst (λ ps. IsAmong u (map (λ p. p.txn) ps)) (sym prepared) h), λ h. is.1 (subst (λ rs. IsAmong u (map (λ r. r.txn) rs)) (sym resolving) h)) in
            (has-not_this log r is_prepare u refl ∙ old.0, has-not_this log r is_rollback u refl ∙ old.1);
        rolled = λ u b resolved.
            let old = d.rolled u (fewer u b).0 (subst (λ rs. IsAmong u (map (λ r. r.txn) rs)) resolving resolved) in
            (has-not_this log r is_rollback u refl ∙ old.0, λ h. old.1 (subst (λ ps. IsAmong u (map (λ p. p.txn) ps)) prepared h));
        stand = fewer_stand log (log ++ r ∷ []) kept d.stand;
      }

  -- ---- what a resolve decides

  module _ (t : ℕ) (more : List LogRecord) (new : Sessions) (takes : doubts_in more ≡ but_doubt t (doubts_in log)) (prepared : new.prepared ≡ without_prepared t s.prepared) (keeps : (u : ℕ) → u ≢ t → KeepsLocks s.held new.held u)
      (resolved : resolved_of new ≡ t ∷ resolved_of s) (active : (u : ℕ) → IsAmong u (txns_of new.active) → IsAmong u (txns_of s.active)) where
    kept_doubt : (e : LoggedDoubt) → IsAmong e (doubts_in more) → IsAmong e (doubts_in log)
    kept_doubt e a = (among_filter (λ d. not (t == d.txn)) e (doubts_in log) (subst (IsAmong e) takes a)).0

    doubt_is_other : (e : LoggedDoubt) → IsAmong e (doubts_in more) → e.txn ≢ t
    doubt_is_other e a same =
        true≢false (sym ((among_filter (λ d. not (t == d.txn)) e (doubts_in log) (subst (IsAmong e) takes a)).1) ∙ ap not (eq-eqb t e.txn (sym same)))

    pub resolve_tracks : ((u : ℕ) → u ≢ t → (has is_prepare u more ≡ has is_prepare u log) × (has is_rollback u more ≡ has is_rollback u log))
        → (IsAmong t (txns_of new.active) → has is_rollback t more ≡ true) → TracksDoubts more new
    resolve_tracks others own = record {
      in_doubt = ap (map pair_logged) takes ∙ map_but t (doubts_in log) ∙ ap (but t) d.in_doubt ∙ sym (pairs_without t s.prepared) ∙ ap pairs_of (sym prepared);
      hold = λ e g a c. keeps e.txn (doubt_is_other e a) EX g (d.hold e g (kept_doubt e a) c);
      free = λ u b is.
          let other : u ≢ t = λ same. is.1 (subst (IsAmong u) (sym resolved) (inl (sym same))) in
          let old = d.free u (active u b)
          (λ h. is.0 (subst (λ ps. IsAmong u (map (λ p. p.txn) ps)) (sym prepared) (still_prepared t u s.prepared h other)), λ h. is.1 (subst (IsAmong u) (sym resolved) (inr h))) in
          let same = others u other in
          (same.0 ∙ old.0, same.1 ∙ old.1);
      rolled = λ u b r. ⊎_elim
          (λ same. subst (λ v. (has is_rollback v more ≡ true) × (IsAmong v (in_doubt_of new) → ⊥)) same (
            own (subst (λ v. IsAmong v (txns_of new.active)) (sym same) b),
            λ h. (was_prepared t t s.prepared (subst (λ ps. IsAmong t (map (λ p. p.txn) ps)) prepared h)).1 refl,
          ))
          (λ later. ⊎_elim
          (λ same. subst (λ v. (has is_rollback v more ≡ true) × (IsAmong v (in_doubt_of new) → ⊥)) (sym same) (
            own (subst (λ v. IsAmong v (txns_of new.active)) same b),
            λ h. (was_prepared t t s.prepared (subst (λ ps. IsAmong t (map (λ p. p.txn) ps)) prepared h)).1 refl,
          ))
          (λ other. let old = d.rolled u (active u b) later in
          ((others u other).1 ∙ old.0, λ h. old.1 (was_prepared t u s.prepared (subst (λ ps. IsAmong u (map (λ p. p.txn) ps)) prepared h)).0))
          (same_or_not u t))
          (subst (IsAmong u) resolved r);
      stand = fewer_stand log more kept_doubt d.stand;
    }

-- the numbers of those resolved are given
resolved_low : {o : Opening} {es : List Entry} {s : Sessions} → SessionsAgree o es s → (t : ℕ) → IsAmong t (resolved_of s) → t < s.next_txn
resolved_low {s = s} agree t r =
    let one = mapped_one (λ (r : ResolvedTxn). r.txn) t s.resolving r in
    subst (λ t. t < s.next_txn) one.2
    (agree.used_below (pair_resolved one.0) (among_right (pair_resolved one.0) (pairs_of s.prepared) (map pair_resolved s.resolving) (among_map pair_resolved one.0 s.resolving one.1)))

pub event_tracks_doubts : (o : Opening) (es : List Entry) (old new : Sessions) (e : SessionEvent) (log : List LogRecord) → IsSoundAfter o es old → SessionsAgree o es old
    → IsLogAfter o es old log → TracksDoubts log old → StepsTo old e new → TracksDoubts (log_after log old e) new
event_tracks_doubts o es old new (MoveLocks held) log k agree l d moves =
    subst (TracksDoubts log) (sym moves.3)
    (undecided_tracks k l d log _ (decides_none log) refl refl (λ t b. moves.1 t (agree.under_way t b)) d.free (λ t b r. (b, r)))
event_tracks_doubts o es old new (BeginTxn session) log k agree l d moves =
    let unseen = recursion-weaker (λ r. r.txn < old.next_txn) (λ r. r.txn ≢ old.next_txn) (λ r less same. omega arith) log l.below in
    subst (TracksDoubts log) (sym moves.1)
    (undecided_tracks k l d log _ (decides_none log) refl refl (λ t b m g h. h)
    (λ t b is. ⊎_elim
    (λ same. subst (λ t. (has is_prepare t log ≡ false) × (has is_rollback t log ≡ false)) same (none_of_it is_prepare old.next_txn log unseen, none_of_it is_rollback old.next_txn log unseen))
    (λ later. d.free t later is) b)
    (λ t b r. (⊎_elim (λ same. let less : t < old.next_txn = resolved_low agree t r in absurd (omega arith)) (λ later. later) b, r)))
event_tracks_doubts o es old new (GiveReply a c reply) log k agree l d moves =
    subst (TracksDoubts (log_after log old (GiveReply a c reply))) (sym moves.4)
    (still_tracks k l d _ _ (reply_decides_none log old.records a c reply) refl refl (λ t b m g h. h) (λ t b. subst (IsAmong t) (txns_with a.txn _ old.active) b))
event_tracks_doubts o es old new (AppendCommit a ticket) log k agree l d moves =
    subst (TracksDoubts (and_record a.txn log Commit)) (sym moves.2)
    (own_commit_tracks k l d a moves.0.2 _ refl refl (λ t b. others_keep a.txn old.held t (λ same. moves.0.2.0 (subst (λ v. IsAmong v (in_doubt_of old)) same b))) (λ u b. txn_without a.txn u old.active b))
event_tracks_doubts o es old new (PutBack a kept e r) log k agree l d moves =
    subst (TracksDoubts (log_after log old (PutBack a kept e r))) (sym moves.4)
    (still_tracks k l d _ _ (one_decides_none a.txn log log _ refl (decides_none log)) refl refl (λ t b m g h. h) (λ t b. subst (IsAmong t) (txns_with a.txn _ old.active) b))
event_tracks_doubts o es old new (Doom a) log k agree l d moves =
    subst (TracksDoubts log) (sym moves.1)
    (still_tracks k l d log _ (decides_none log) refl refl (λ t b m g h. h) (λ t b. subst (IsAmong t) (txns_with a.txn _ old.active) b))
event_tracks_doubts o es old new (AnswerAbort a) log k agree l d moves =
    subst (TracksDoubts (log_after log old (AnswerAbort a))) (sym moves.1)
    (still_tracks k l d _ _ (abort_decides_none a.txn log a.undo.images) refl refl (λ t b. others_keep a.txn old.held t (λ same. moves.0.2.0 (subst (λ v. IsAmong v (in_doubt_of old)) same b))) (λ t b. (txn_without a.txn t old.active b).0))
event_tracks_doubts o es old new (Ask ticket durable) log k agree l d moves = subst (TracksDoubts log) (sym moves) d
event_tracks_doubts o es old new (RefuseCall session t c fault) log k agree l d moves =
    subst (TracksDoubts log) (sym moves.2) (still_tracks k l d log _ (decides_none log) refl refl (λ t b m g h. h) (λ t b. b))
event_tracks_doubts o es old new (AppendPrepare a global granules) log k agree l d moves =
    subst (TracksDoubts (and_record a.txn log (Prepare global granules))) (sym moves.4)
    (prepare_tracks k l d a moves.0.0 moves.0.2 global granules moves.2 moves.3 _ refl refl refl refl)
event_tracks_doubts o es old new (AnswerPrepare session t global) log k agree l d moves =
    subst (TracksDoubts log) (sym moves.2)
    (undecided_tracks k l d log _ (decides_none log) (answered_pairs t old.prepared) (answered_txns t old.prepared) (λ t b m g h. h)
    (λ u b is. d.free u b (λ h. is.0 (subst (IsAmong u) (sym (answered_txns t old.prepared)) h), is.1)) (λ t b r. (b, r)))
event_tracks_doubts o es old new (AppendResolve a global) log k agree l d moves =
    let r : LogRecord = record { txn = a.txn; previous = previous_of a.txn log; payload = Commit } in
    subst (TracksDoubts (and_record a.txn log Commit)) (sym moves.3)
    (resolve_tracks k l d a.txn (log ++ r ∷ []) _ (commit_takes log a.txn (previous_of a.txn log)) refl (others_keep a.txn old.held) refl (λ u b. (txn_without a.txn u old.active b).0)
    (λ u other. (has-not_this log r is_prepare u refl, has-not_this log r is_rollback u refl))
    (λ among. absurd ((txn_without a.txn a.txn old.active among).1 refl)))
event_tracks_doubts o es old new (AppendRollback a global) log k agree l d moves =
    let r : LogRecord = record { txn = a.txn; previous = previous_of a.txn log; payload = RollbackDecided } in
    subst (TracksDoubts (and_record a.txn log RollbackDecided)) (sym moves.2)
    (resolve_tracks k l d a.txn (log ++ r ∷ []) _ (rollback_takes log a.txn (previous_of a.txn log)) refl (λ u other m g h. h) refl (λ u b. subst (IsAmong u) (txns_with a.txn _ old.active) b)
    (λ u other. (has-not_this log r is_prepare u refl, has-not_its log r is_rollback u (λ same. other (sym same))))
    (λ among. has-this log r is_rollback refl))
event_tracks_doubts o es old new (EndRollback a) log k agree l d moves =
    subst (TracksDoubts (log_after log old (EndRollback a))) (sym moves.2)
    (still_tracks k l d _ _ (end_decides_none a.txn log a.undo.images) refl refl (λ t b. others_keep a.txn old.held t (λ same. moves.0.1 (subst (λ v. IsAmong v (in_doubt_of old)) same b))) (λ t b. (txn_without a.txn t old.active b).0))
event_tracks_doubts o es old new (AnswerResolve session r) log k agree l d moves =
    subst (TracksDoubts log) (sym moves.2)
    (undecided_tracks k l d log _ (decides_none log) refl refl (λ t b m g h. h)
    (λ u b is. d.free u b (is.0, λ h. is.1 (still_resolved r.txn u old.resolving h (λ same. moves.1 (subst (λ v. IsAmong v (txns_of old.active)) same b)))))
    (λ t b resolved. (b, still_without r.txn t old.resolving resolved)))
event_tracks_doubts o es old new (AnswerInDoubt session t pairs) log k agree l d moves =
    subst (TracksDoubts log) (sym moves.2) (still_tracks k l d log _ (decides_none log) refl refl (λ t b m g h. h) (λ t b. b))
