-- Which decisions are acknowledged, and why each of them is in what is durable.
use Rattle.std.proofs.Common.{◌≡◌, ◌≢◌, ◌⊎◌, inl, inr, ⊎_elim, ◌≤◌, ◌<◌, ℕ, zero, suc, List, [], ◌∷◌, ◌++◌, Bool, true, false, cond, map, Some, None, refl, sym, ap, subst, ◌∙◌, drop, take, length, arith, append-nil, append_assoc, take-append-drop}
use Rattle.std.specs.Prelude.{◌==◌, ◌&&◌, ◌||◌, is_ok, not}
use Rattle.std.specs.List.{AllByRecursion, cons_option, filter_map}
use Rattle.std.proofs.lemmas.Bool.{eq-eqb, true≢false}
use Rattle.std.proofs.lemmas.List.{take-append-le, take-take}
use Rattle.std.proofs.lemmas.List.Elements.{filter_map-append}
use Rattle.shore_model.specs.declared.calls.Call.{Call}
use Rattle.shore_model.specs.declared.calls.Call.TheVariants as call
use Rattle.shore_model.specs.declared.calls.Outcome.{Outcome}
use Rattle.shore_model.specs.declared.calls.Outcome.TheVariants as outcome
use Rattle.shore_model.specs.declared.histories.Decision.{Decision}
use Rattle.shore_model.specs.declared.histories.Decision.TheVariants as decision
use Rattle.shore_model.specs.declared.histories.Entry.{Entry}
use Rattle.shore_model.specs.declared.log_records.LogRecord.{LogRecord}
use Rattle.shore_model.specs.declared.log_records.Payload.{Payload}
use Rattle.shore_model.specs.declared.log_records.Payload.TheVariants.{Commit, Prepare, RollbackDecided}
use Rattle.shore_model.specs.declared.histories.Entry.TheVariants.{Decided}
use Rattle.shore_model.specs.Histories.{acknowledged, acknowledged_after, acknowledged_by, decision_asked_by, commits_with, tickets}
use Rattle.shore_model.specs.Logs.{has, is_commit, is_prepare, is_rollback}
use Rattle.laws_lives.proofs.Booleans.{or_right}
use Rattle.laws_lives.proofs.DoubtRecords.{among_filter, none_of_it}
use Rattle.laws_lives.proofs.DoubtSteps.{still_without}
use Rattle.laws_lives.proofs.Lists.{among_append, recursion-weaker}
use Rattle.laws_lives.proofs.LogPrefixes.{decisions_in-take}
use Rattle.laws_lives.proofs.Members.{txn_among, txn_without, txns_with}
use Rattle.laws_lives.proofs.Steps.{among_push, answered_txns, prepared_among, still_prepared, still_resolved, txns_push, was_prepared}
use Rattle.laws_lives.specs.LogPrefixes.{IsDecidedIn, decision_asked, decision_by, decision_in, decisions_in}
use Rattle.laws_lives.specs.ManagerSteps.{decision_resolved}
use Rattle.laws_lives.specs.SessionSteps.{AnswerAbort, AnswerInDoubt, AnswerPrepare, AnswerResolve, AppendCommit, AppendPrepare, AppendResolve, AppendRollback, Ask, BeginTxn, Doom, EndRollback, GiveReply, IsInnerCall, MoveLocks, PutBack, RefuseCall, SessionEvent, StepsTo, entries_by}
use Rattle.laws_lives.specs.Sessions.{IsFree, PreparedTxn, Sessions, in_doubt_of, resolved_of, txns_of, with_answered, without_prepared}
use Rattle.laws_lives.specs.Soundness.{decided_txn}
use Rattle.laws_lives.specs.Views.{IsAmong}

-- ---- elements of lists

among_take : {A : Type 0} (x : A) (n : ℕ) (xs : List A) → IsAmong x (take n xs) → IsAmong x xs
among_take x zero xs h = absurd h
among_take x (suc n) [] h = absurd h
among_take x (suc n) (y ∷ xs) (inl e) = inl e
among_take x (suc n) (y ∷ xs) (inr later) = inr (among_take x n xs later)

-- a decision in a prefix is in every longer prefix, also if the log goes on
pub still_decided : (base n m : ℕ) (log more : List LogRecord) (d : Decision) → n ≤ m → n ≤ length log → IsAmong d (decisions_in base (take n log))
    → IsAmong d (decisions_in base (take m (log ++ more)))
still_decided base n m log more d le within h =
    let all = take m (log ++ more) in
    let same : take n log ≡ take n all = sym (take-append-le n log more within) ∙ sym (take-take n m (log ++ more) le) in
    let front = decisions_in-take base n all in
    among_take d front.0 (decisions_in base all) (subst (IsAmong d) front.1 (subst (λ rs. IsAmong d (decisions_in base rs)) same h))

-- ---- the numbers that this manager gives

-- The transaction has no decision among the records that the first restart found, but a Prepare.
pub record IsUnresolved (base : ℕ) (log : List LogRecord) (t : ℕ) : Type 0 where
  pub uncommitted : has is_commit t (take base log) ≡ false
  pub not_rolled : has is_rollback t (take base log) ≡ false

-- what the first restart found has numbers below `floor`, and what is current now has others, but for those that were found in doubt
pub record NumbersAreNew (base floor : ℕ) (s : Sessions) (log : List LogRecord) : Type 0 where
  pub old : AllByRecursion (λ r. r.txn < floor) (take base log)
  pub next : floor ≤ s.next_txn
  pub each : (t : ℕ) → IsAmong t (txns_of s.active) → IsFree s t → floor ≤ t
  pub preparing : (p : PreparedTxn) → IsAmong p s.prepared → p.answered ≡ false → floor ≤ p.txn
  pub prepared : (t : ℕ) → IsAmong t (in_doubt_of s) → IsUnresolved base log t
  pub resolved : (t : ℕ) → IsAmong t (resolved_of s) → IsUnresolved base log t

pub still_preparing : (t : ℕ) (p : PreparedTxn) (ps : List PreparedTxn) → IsAmong p (with_answered t ps) → p.answered ≡ false → IsAmong p ps
still_preparing t p [] h e = h
still_preparing t p (q ∷ ps) h e = (elim (q.txn == t) as (λ b. IsAmong p (cond b (record { txn = q.txn; global = q.global; answered = true }) q ∷ with_answered t ps) → IsAmong p (q ∷ ps)) [
  | true ↦ λ h. ⊎_elim (λ same. absurd (true≢false (ap (λ (p : PreparedTxn). p.answered) same ∙ e))) (λ later. inr (still_preparing t p ps later e)) h
  | false ↦ λ h. ⊎_elim (λ same. inl same) (λ later. inr (still_preparing t p ps later e)) h
]) h

pub among_kept : (t : ℕ) (p : PreparedTxn) (ps : List PreparedTxn) → IsAmong p (without_prepared t ps) → IsAmong p ps
among_kept t p ps h = (among_filter (λ p. not (t == p.txn)) p ps h).0

module _ (base floor : ℕ) (old : Sessions) (log : List LogRecord) (k : NumbersAreNew base floor old log) where
  -- a number of this manager's is in no record that was found
  pub new_unresolved : (t : ℕ) → floor ≤ t → IsUnresolved base log t
  new_unresolved t le =
      let none = recursion-weaker (λ r. r.txn < floor) (λ r. r.txn ≢ t) (λ r less same. omega arith) (take base log) k.old in
      record { uncommitted = none_of_it is_commit t (take base log) none; not_rolled = none_of_it is_rollback t (take base log) none }

  -- the same but for transactions under way
  listed_anew : (new : Sessions) → new.next_txn ≡ old.next_txn → new.prepared ≡ old.prepared → new.resolving ≡ old.resolving
      → ((t : ℕ) → IsAmong t (txns_of new.active) → IsAmong t (txns_of old.active)) → NumbersAreNew base floor new log
  listed_anew new next prepared resolving fewer = record {
    old = k.old;
    next = subst (λ n. floor ≤ n) (sym next) k.next;
    each = λ t b is. k.each t (fewer t b)
        (λ h. is.0 (subst (λ ps. IsAmong t (map (λ p. p.txn) ps)) (sym prepared) h), λ h. is.1 (subst (λ rs. IsAmong t (map (λ r. r.txn) rs)) (sym resolving) h));
    preparing = λ p m e. k.preparing p (subst (IsAmong p) prepared m) e;
    prepared = λ t b. k.prepared t (subst (λ ps. IsAmong t (map (λ p. p.txn) ps)) prepared b);
    resolved = λ t b. k.resolved t (subst (λ rs. IsAmong t (map (λ r. r.txn) rs)) resolving b);
  }

  pub numbers_stay_new : (new : Sessions) (e : SessionEvent) → StepsTo old e new → NumbersAreNew base floor new log
  numbers_stay_new new (MoveLocks held) steps = subst (λ s. NumbersAreNew base floor s log) (sym steps.3) (listed_anew _ refl refl refl (λ t b. b))
  numbers_stay_new new (BeginTxn session) steps =
      let next = k.next in
      subst (λ s. NumbersAreNew base floor s log) (sym steps.1) (record {
        old = k.old;
        next = omega arith;
        each = λ t b is. ⊎_elim (λ e. subst (λ t. floor ≤ t) e k.next) (λ later. k.each t later is) b;
        preparing = k.preparing;
        prepared = k.prepared;
        resolved = k.resolved;
      })
  numbers_stay_new new (GiveReply a c reply) steps =
      subst (λ s. NumbersAreNew base floor s log) (sym steps.4) (listed_anew _ refl refl refl (λ t b. subst (IsAmong t) (txns_with a.txn _ old.active) b))
  numbers_stay_new new (AppendCommit a ticket) steps =
      subst (λ s. NumbersAreNew base floor s log) (sym steps.2) (listed_anew _ refl refl refl (λ t b. (txn_without a.txn t old.active b).0))
  numbers_stay_new new (PutBack a kept e r) steps =
      subst (λ s. NumbersAreNew base floor s log) (sym steps.4) (listed_anew _ refl refl refl (λ t b. subst (IsAmong t) (txns_with a.txn _ old.active) b))
  numbers_stay_new new (Doom a) steps =
      subst (λ s. NumbersAreNew base floor s log) (sym steps.1) (listed_anew _ refl refl refl (λ t b. subst (IsAmong t) (txns_with a.txn _ old.active) b))
  numbers_stay_new new (AnswerAbort a) steps =
      subst (λ s. NumbersAreNew base floor s log) (sym steps.1) (listed_anew _ refl refl refl (λ t b. (txn_without a.txn t old.active b).0))
  numbers_stay_new new (Ask ticket durable) steps = subst (λ s. NumbersAreNew base floor s log) (sym steps) k
  numbers_stay_new new (RefuseCall session t c fault) steps = subst (λ s. NumbersAreNew base floor s log) (sym steps.2) (listed_anew _ refl refl refl (λ t b. b))
  numbers_stay_new new (AppendPrepare a global granules) steps =
      let one : PreparedTxn = record { txn = a.txn; global = global; answered = false } in
      let own = k.each a.txn (txn_among a old.active steps.0.0) steps.0.2 in
      let was : (t : ℕ) → IsAmong t (map (λ p. p.txn) (old.prepared ++ one ∷ [])) → IsAmong t (in_doubt_of old) ⊎ (a.txn ≡ t) =
      λ t b. ⊎_elim (λ before. inl before) (λ now. ⊎_elim (λ e. inr e) (λ no. absurd no) now) (among_append t (in_doubt_of old) (a.txn ∷ []) (subst (IsAmong t) (txns_push one old.prepared) b)) in
      subst (λ s. NumbersAreNew base floor s log) (sym steps.4) (record {
        old = k.old;
        next = k.next;
        each = λ t b is. k.each t b (λ h. is.0 (subst (IsAmong t) (sym (txns_push one old.prepared)) (among_push t a.txn (in_doubt_of old) h)), is.1);
        preparing = λ p m e. ⊎_elim (λ before. k.preparing p before e) (λ now. ⊎_elim (λ same. subst (λ (p : PreparedTxn). floor ≤ p.txn) same own) (λ no. absurd no) now) (among_append p old.prepared (one ∷ []) m);
        prepared = λ t b. ⊎_elim (λ before. k.prepared t before) (λ e. subst (IsUnresolved base log) e (new_unresolved a.txn own)) (was t b);
        resolved = k.resolved;
      })
  numbers_stay_new new (AnswerPrepare session t global) steps =
      let same = answered_txns t old.prepared in
      subst (λ s. NumbersAreNew base floor s log) (sym steps.2) (record {
        old = k.old;
        next = k.next;
        each = λ u b is. k.each u b (λ h. is.0 (subst (IsAmong u) (sym same) h), is.1);
        preparing = λ p m e. k.preparing p (still_preparing t p old.prepared m e) e;
        prepared = λ u b. k.prepared u (subst (IsAmong u) same b);
        resolved = k.resolved;
      })
  numbers_stay_new new (AppendResolve a global) steps =
      subst (λ s. NumbersAreNew base floor s log) (sym steps.3) (record {
        old = k.old;
        next = k.next;
        each = λ t b is.
            let was = txn_without a.txn t old.active b in
            k.each t was.0 (λ h. is.0 (still_prepared a.txn t old.prepared h was.1), λ h. is.1 (inr h));
        preparing = λ p m e. k.preparing p (among_kept a.txn p old.prepared m) e;
        prepared = λ t b. k.prepared t (was_prepared a.txn t old.prepared b).0;
        resolved = λ t b. ⊎_elim (λ e. subst (IsUnresolved base log) e (k.prepared a.txn (prepared_among _ old.prepared steps.2))) (λ later. k.resolved t later) b;
      })
  numbers_stay_new new (AppendRollback a global) steps =
      subst (λ s. NumbersAreNew base floor s log) (sym steps.2) (record {
        old = k.old;
        next = k.next;
        each = λ t b is.
            k.each t (subst (IsAmong t) (txns_with a.txn _ old.active) b)
            (λ h. is.0 (still_prepared a.txn t old.prepared h (λ same. is.1 (inl (sym same)))), λ h. is.1 (inr h));
        preparing = λ p m e. k.preparing p (among_kept a.txn p old.prepared m) e;
        prepared = λ t b. k.prepared t (was_prepared a.txn t old.prepared b).0;
        resolved = λ t b. ⊎_elim (λ e. subst (IsUnresolved base log) e (k.prepared a.txn (prepared_among _ old.prepared steps.1))) (λ later. k.resolved t later) b;
      })
  numbers_stay_new new (EndRollback a) steps =
      subst (λ s. NumbersAreNew base floor s log) (sym steps.2) (listed_anew _ refl refl refl (λ t b. (txn_without a.txn t old.active b).0))
  numbers_stay_new new (AnswerResolve session r) steps =
      subst (λ s. NumbersAreNew base floor s log) (sym steps.2) (record {
        old = k.old;
        next = k.next;
        each = λ t b is. k.each t b (is.0, λ h. is.1 (still_resolved r.txn t old.resolving h (λ same. steps.1 (subst (λ v. IsAmong v (txns_of old.active)) same b))));
        preparing = k.preparing;
        prepared = k.prepared;
        resolved = λ t b. k.resolved t (still_without r.txn t old.resolving b);
      })
  numbers_stay_new new (AnswerInDoubt session t pairs) steps = subst (λ s. NumbersAreNew base floor s log) (sym steps.2) (listed_anew _ refl refl refl (λ t b. b))

  pub new_in_longer : (more : List LogRecord) → base ≤ length log → NumbersAreNew base floor old (log ++ more)
  new_in_longer more long =
      let same : take base (log ++ more) ≡ take base log = take-append-le base log more long in
      let still : (t : ℕ) → IsUnresolved base log t → IsUnresolved base (log ++ more) t =
      λ t h. record { uncommitted = ap (has is_commit t) same ∙ h.uncommitted; not_rolled = ap (has is_rollback t) same ∙ h.not_rolled } in
      record {
        old = subst (AllByRecursion (λ r. r.txn < floor)) (sym same) k.old;
        next = k.next;
        each = k.each;
        preparing = k.preparing;
        prepared = λ t b. still t (k.prepared t b);
        resolved = λ t b. still t (k.resolved t b);
      }

-- ---- decisions of this manager

-- the kind of record that a decision has
abbrev kind : Decision → Payload → Bool
kind (decision.Commit t) p = is_commit p
kind (decision.Prepare t global) p = is_prepare p
kind (decision.RollBack t) p = is_rollback p

is_kind : (t : ℕ) (p : Payload) (d : Decision) → decision_by t p ≡ Some d → (kind d p ≡ true) × (decided_txn d ≡ t)
is_kind t Commit d e = subst (λ d. (kind d Commit ≡ true) × (decided_txn d ≡ t)) (some_same e) (refl, refl)
  where
    some_same : {c d : Decision} → Some c ≡ Some d → c ≡ d
    some_same e = cc
is_kind t (Prepare global gs) d e = subst (λ d. (kind d (Prepare global gs) ≡ true) × (decided_txn d ≡ t)) (some_same e) (refl, refl)
  where
    some_same : {c d : Decision} → Some c ≡ Some d → c ≡ d
    some_same e = cc
is_kind t RollbackDecided d e = subst (λ d. (kind d RollbackDecided ≡ true) × (decided_txn d ≡ t)) (some_same e) (refl, refl)
  where
    some_same : {c d : Decision} → Some c ≡ Some d → c ≡ d
    some_same e = cc
is_kind t _ d e = cc

decided_has : (d : Decision) (rs : List LogRecord) → IsAmong d (filter_map decision_in rs) → has (kind d) (decided_txn d) rs ≡ true
decided_has d [] h = absurd h
decided_has d (r ∷ rs) h = (elim (decision_in r) as (λ o. decision_in r ≡ o → IsAmong d (cons_option o (filter_map decision_in rs)) → (((r.txn == decided_txn d) && kind d r.payload) || has (kind d) (decided_txn d) rs) ≡ true) [
  | None ↦ λ e h. or_right ((r.txn == decided_txn d) && kind d r.payload) (has (kind d) (decided_txn d) rs) (decided_has d rs h)
  | Some c ↦ λ e h. ⊎_elim
      (λ same.
      let is = is_kind r.txn r.payload d (e ∙ ap Some same) in
      ap (λ b. b || has (kind d) (decided_txn d) rs) (ap (λ b. b && kind d r.payload) (eq-eqb r.txn (decided_txn d) (sym is.1)) ∙ is.0))
      (λ later. or_right ((r.txn == decided_txn d) && kind d r.payload) (has (kind d) (decided_txn d) rs) (decided_has d rs later)) h
] refl) h

-- a durable decision that was not among the records that the first restart found is one of this manager
pub decision_is_own : (base n : ℕ) (log : List LogRecord) (d : Decision) → base ≤ n → has (kind d) (decided_txn d) (take base log) ≡ false
    → IsDecidedIn (take n log) d → IsAmong d (decisions_in base (take n log))
decision_is_own base n log d le none h =
    let front = take n log in
    let split : filter_map decision_in front ≡ filter_map decision_in (take base front) ++ decisions_in base front =
    ap (filter_map decision_in) (sym (take-append-drop base front)) ∙ filter_map-append decision_in (take base front) (drop base front) in
    ⊎_elim
    (λ found. absurd (true≢false (sym (decided_has d (take base front) found) ∙ ap (has (kind d) (decided_txn d)) (take-take base n log le) ∙ none)))
    (λ gained. gained)
    (among_append d (filter_map decision_in (take base front)) (decisions_in base front) (subst (IsAmong d) split h))

-- ---- entries that acknowledge

-- the decisions that an event acknowledges, after these entries
abbrev pub acknowledged_in : List Entry → SessionEvent → List Decision
acknowledged_in es (Ask ticket durable) = cond durable (commits_with ticket (tickets es)) []
acknowledged_in es (AnswerPrepare session t global) = decision.Prepare t global ∷ []
acknowledged_in es (AnswerResolve session r) = decision_resolved r ∷ []
acknowledged_in es (MoveLocks held) = []
acknowledged_in es (BeginTxn session) = []
acknowledged_in es (GiveReply a c reply) = []
acknowledged_in es (AppendCommit a ticket) = []
acknowledged_in es (PutBack a kept e r) = []
acknowledged_in es (Doom a) = []
acknowledged_in es (AnswerAbort a) = []
acknowledged_in es (RefuseCall session t c fault) = []
acknowledged_in es (AppendPrepare a global granules) = []
acknowledged_in es (AppendResolve a global) = []
acknowledged_in es (AppendRollback a global) = []
acknowledged_in es (EndRollback a) = []
acknowledged_in es (AnswerInDoubt session t pairs) = []

inner_asks_none : (t : ℕ) (c : Call) → IsInnerCall c → decision_asked_by t c ≡ None
inner_asks_none t call.Begin inner = absurd inner
inner_asks_none t call.Commit inner = absurd inner
inner_asks_none t call.Abort inner = absurd inner
inner_asks_none t (call.Prepare global) inner = absurd inner
inner_asks_none t (call.Resolve global outcome) inner = absurd inner
inner_asks_none t call.InDoubt inner = absurd inner
inner_asks_none t _ inner = refl

abbrev no_decision : List Decision
no_decision = []

none_either_way : (b : Bool) → cond b no_decision no_decision ≡ []
none_either_way true = refl
none_either_way false = refl

pub acknowledged-push : (before es : List Entry) (e : Entry) → acknowledged_after before (es ++ e ∷ []) ≡ acknowledged_after before es ++ acknowledged_by (before ++ es) e
acknowledged-push before [] e = append-nil (acknowledged_by before e) ∙ ap (λ es. acknowledged_by es e) (sym (append-nil before))
acknowledged-push before (x ∷ es) e =
    ap (λ ds. acknowledged_by before x ++ ds) (acknowledged-push (before ++ x ∷ []) es e)
    ∙ sym (append_assoc (acknowledged_by before x) (acknowledged_after (before ++ x ∷ []) es) (acknowledged_by ((before ++ x ∷ []) ++ es) e))
    ∙ ap (λ more. (acknowledged_by before x ++ acknowledged_after (before ++ x ∷ []) es) ++ acknowledged_by more e) (append_assoc before (x ∷ []) es)

recursion-append : {A : Type 0} (P : A → Type 0) (xs ys : List A) → AllByRecursion P xs → AllByRecursion P ys → AllByRecursion P (xs ++ ys)
recursion-append P [] ys h k = k
recursion-append P (x ∷ xs) ys h k = (h.0, recursion-append P xs ys h.1 k)

and_no_more : (P : Decision → Type 0) (es : List Entry) → AllByRecursion P (acknowledged es) → (e : Entry) → acknowledged_by es e ≡ [] → AllByRecursion P (acknowledged (es ++ e ∷ []))
and_no_more P es h e none = subst (AllByRecursion P) (sym (acknowledged-push [] es e ∙ ap (λ ds. acknowledged es ++ ds) none ∙ append-nil (acknowledged es))) h

module _ (P : Decision → Type 0) (es : List Entry) (h : AllByRecursion P (acknowledged es)) where
  pub acknowledges : (e : Entry) (ds : List Decision) → acknowledged_by es e ≡ ds → AllByRecursion P ds → AllByRecursion P (acknowledged (es ++ e ∷ []))
  acknowledges e ds is own =
      subst (AllByRecursion P) (sym (acknowledged-push [] es e ∙ ap (λ ds. acknowledged es ++ ds) is)) (recursion-append P (acknowledged es) ds h own)

  acknowledges_none : (e : Entry) → acknowledged_by es e ≡ [] → AllByRecursion P (acknowledged (es ++ e ∷ []))
  acknowledges_none e none = acknowledges e [] none tt

  -- only the answers on a ticket, of a prepare and of a resolve acknowledge
  pub event_acknowledges : (old new : Sessions) (e : SessionEvent) → StepsTo old e new → AllByRecursion P (acknowledged_in es e)
      → AllByRecursion P (acknowledged (es ++ entries_by old e))
  event_acknowledges old new (MoveLocks held) steps own = subst (λ es. AllByRecursion P (acknowledged es)) (sym (append-nil es)) h
  event_acknowledges old new (BeginTxn session) steps own = acknowledges_none _ refl
  event_acknowledges old new (GiveReply a c reply) steps own =
      acknowledges_none _ (ap (λ o. cond (is_ok reply) (cons_option o []) []) (inner_asks_none a.txn c steps.1) ∙ none_either_way (is_ok reply))
  event_acknowledges old new (AppendCommit a ticket) steps own =
      let d : Entry = Decided (decision.Commit a.txn) in
      subst (λ es. AllByRecursion P (acknowledged es)) (append_assoc es (d ∷ []) _)
      (and_no_more P (es ++ d ∷ []) (acknowledges_none d refl) _ refl)
  event_acknowledges old new (PutBack a kept e r) steps own = subst (λ es. AllByRecursion P (acknowledged es)) (sym (append-nil es)) h
  event_acknowledges old new (Doom a) steps own = subst (λ es. AllByRecursion P (acknowledged es)) (sym (append-nil es)) h
  event_acknowledges old new (AnswerAbort a) steps own = acknowledges_none _ refl
  event_acknowledges old new (Ask ticket durable) steps own = acknowledges _ (acknowledged_in es (Ask ticket durable)) refl own
  event_acknowledges old new (RefuseCall session t c fault) steps own = acknowledges_none _ refl
  event_acknowledges old new (AppendPrepare a global granules) steps own = acknowledges_none _ refl
  event_acknowledges old new (AnswerPrepare session t global) steps own = acknowledges _ (decision.Prepare t global ∷ []) refl own
  event_acknowledges old new (AppendResolve a global) steps own = acknowledges_none _ refl
  event_acknowledges old new (AppendRollback a global) steps own = acknowledges_none _ refl
  event_acknowledges old new (EndRollback a) steps own = subst (λ es. AllByRecursion P (acknowledged es)) (sym (append-nil es)) h
  event_acknowledges old new (AnswerResolve session r) steps own = acknowledges _ (decision_resolved r ∷ []) (ap (λ o. cons_option o []) (resolve_asks r.txn r.global r.outcome)) own
    where
      resolve_asks : (t : ℕ) (global : List ℕ) (o : Outcome) → decision_asked_by t (call.Resolve global o) ≡ Some (decision_asked t o)
      resolve_asks t global outcome.Commit = refl
      resolve_asks t global outcome.Abort = refl
  event_acknowledges old new (AnswerInDoubt session t pairs) steps own = acknowledges_none _ refl
