-- Each event leaves each session in the transaction that the history gives it, adds entries that may stand there, and leaves those in doubt whom
-- the history has so.
use Rattle.std.proofs.Common.{◌≡◌, ◌⊎◌, inl, inr, ⊎_elim, ◌++◌, ◌<◌, ◌≤◌, ◌+◌, ℕ, List, [], ◌∷◌, Bool, true, false, cond, Option, Some, None, Result, Ok, Err, refl, sym, ap, subst, ◌∙◌, length, map, arith, append-nil, append_assoc}
use Rattle.std.specs.Prelude.{◌==◌, ◌&&◌, ◌||◌, All, IfSome, IsSomeAnd, filter, nat_eq, not, slice_get}
use Rattle.std.specs.FinMap.{get}
use Rattle.std.specs.List.{AllByRecursion, list_any}
use Rattle.std.specs.Cmp.Lexicographic.{pointwise}
use Rattle.std.proofs.lemmas.Bool.{eq-eqb, ne_eqb}
use Rattle.std.proofs.lemmas.List.Elements.{All-nil, All-push, All-weaker}
use Rattle.shore_types.specs.declared.faults.Fault.{Fault}
use Rattle.shore_types.specs.declared.locking.Granule.{Granule}
use Rattle.shore_model.specs.declared.calls.Answer.{Answer}
use Rattle.shore_model.specs.declared.calls.Answer.TheVariants.{Began, Got, Inserted, Updated, Deleted, Scanned, Locked, Saved, WentBack, Aborted, AreInDoubt, Committed, Prepared, Resolved}
use Rattle.shore_model.specs.declared.calls.Call.{Call}
use Rattle.shore_model.specs.declared.calls.Call.TheVariants as call
use Rattle.shore_model.specs.declared.calls.Exchange.{Exchange}
use Rattle.shore_model.specs.declared.histories.Decision.{Decision}
use Rattle.shore_model.specs.declared.histories.Decision.TheVariants.{Commit, Prepare, RollBack}
use Rattle.shore_model.specs.declared.histories.Entry.{Entry}
use Rattle.shore_model.specs.declared.histories.Entry.TheVariants.{Asked, Exchanged, Decided}
use Rattle.shore_model.specs.declared.histories.InDoubt.{InDoubt}
use Rattle.shore_model.specs.declared.histories.Opening.{Opening}
use Rattle.shore_model.specs.declared.holds.Hold.{Hold}
use Rattle.shore_model.specs.declared.sessions.SessionState.{SessionState}
use Rattle.shore_model.specs.Alone.{IsRight}
use Rattle.shore_model.specs.Histories.{IsHistory, IsNewNumber, IsOfTxn, MayStand, after_decision, after_entry, after_own_reply, all_prepared, began, begun_by, decisions, free, has_prepared, in_doubt, is_undecided, last_under, once_decided, once_prepared, session_state}
use Rattle.shore_model.specs.Records.{Records, scan_of}
use Rattle.laws_lives.proofs.DoubtDecisions.{but, doubt_commit, doubt_prepare, doubt_rollback, none_ended, pairs_without, prepared_now, prepared_push, under_commit, under_now, under_rollback, under_still}
use Rattle.laws_lives.proofs.Entries.{decisions-asked, decisions-decided, decisions-exchanged, history-push, session_state-push}
use Rattle.laws_lives.proofs.Lists.{among_append, among_left, among_map, among_right, map-push}
use Rattle.laws_lives.proofs.Members.{among_with, among_without, once_without, same_member, txn_among, txn_stays, txns_with}
use Rattle.laws_lives.proofs.Steps.{answered_pairs, answered_txns, found_txns, found_under, prepared_among, txns_push, was_prepared}
use Rattle.laws_lives.specs.RepliesInPlace.{MayReplyInPlace}
use Rattle.shore_model.specs.declared.rollbacks.Rollback.TheVariants.{Whole}
use Rattle.laws_lives.specs.SessionSteps.{AnswerAbort, AnswerInDoubt, AnswerPrepare, AnswerResolve, AppendCommit, AppendPrepare, AppendResolve, AppendRollback, Ask, BeginTxn, Doom, EndRollback, GiveReply, IsInnerCall, IsOwn, MoveLocks, PutBack, RefuseCall, SessionEvent, StepsTo, entries_by, exchange}
use Rattle.laws_lives.specs.Sessions.{EachOnce, IsTxnOf, IsUnused, PreparedTxn, ResolvedTxn, SessionTxn, Sessions, abort_answered, commit_appended, doomed, image_put_back, in_doubt_of, in_prepared, in_txn, in_use, locks_moved, pair_of, pair_resolved, pairs_of, prepare_answered, prepare_appended, reply_given, resolve_answered, resolve_appended, rollback_appended, rollback_ended, seated, txn_begun, txns_of, with_undo, without_prepared, without_resolved, without_txn}
use Rattle.laws_lives.specs.Soundness.{IsJustOpened, IsSoundAfter, SessionsAgree, decided_txn, found_in_doubt, history_from}
use Rattle.laws_lives.specs.UndoLists.{UndoList, undo_after, undo_rolled}
use Rattle.laws_lives.specs.Views.{IsAmong}

-- ---- replies that leave their sessions as they are

some_and : {A : Type 0} (o : Option A) (P : A → Type 0) → IsSomeAnd o P → (x : A) × (o ≡ Some x) × P x
some_and None P h = absurd h
some_and (Some x) P h = (x, refl, h)

pub record LeavesSession (reply : Result Answer Fault) : Type 0 where
  pub stays : (p : SessionState) → after_own_reply p reply ≡ p
  pub begins_none : begun_by reply ≡ None

leaves : (answer answer' : Answer) → answer ≡ answer' → LeavesSession (Ok answer') → LeavesSession (Ok answer)
leaves answer answer' e h = subst (λ a. LeavesSession (Ok a)) (sym e) h

pub answer_leaves : (R : Records) (n : ℕ) (c : Call) (answer : Answer) → IsInnerCall c → IsRight R n c answer → LeavesSession (Ok answer)
answer_leaves R n (call.Get id) answer own h = let x = some_and (get R id) (λ bytes. answer ≡ Got bytes) h in leaves answer (Got x.0) x.2 record { stays = λ p. refl; begins_none = refl }
answer_leaves R n (call.GetForUpdate id) answer own h = let x = some_and (get R id) (λ bytes. answer ≡ Got bytes) h in leaves answer (Got x.0) x.2 record { stays = λ p. refl; begins_none = refl }
answer_leaves R n (call.Insert s bytes) answer own h = leaves answer (Inserted h.0) h.1 record { stays = λ p. refl; begins_none = refl }
answer_leaves R n (call.Update id bytes) answer own h = leaves answer Updated h.1 record { stays = λ p. refl; begins_none = refl }
answer_leaves R n (call.Delete id) answer own h = leaves answer Deleted h.1 record { stays = λ p. refl; begins_none = refl }
answer_leaves R n (call.Scan s) answer own h = leaves answer (Scanned (scan_of s R)) h record { stays = λ p. refl; begins_none = refl }
answer_leaves R n (call.Lock g mode) answer own h = leaves answer Locked h record { stays = λ p. refl; begins_none = refl }
answer_leaves R n (call.TryLock g mode) answer own h = leaves answer Locked h record { stays = λ p. refl; begins_none = refl }
answer_leaves R n call.Savepoint answer own h = leaves answer (Saved n) h record { stays = λ p. refl; begins_none = refl }
answer_leaves R n (call.BackTo k) answer own h = leaves answer WentBack h.1 record { stays = λ p. refl; begins_none = refl }
answer_leaves R n _ answer own h = absurd own

pub refusal_leaves : (fault : Fault) → LeavesSession (Err fault)
refusal_leaves fault = record { stays = λ p. refl; begins_none = refl }

pub reply_leaves : (most : ℕ) (held : List Hold) (t : ℕ) (R : Records) (n : ℕ) (c : Call) (reply : Result Answer Fault) → IsInnerCall c
    → MayReplyInPlace most held t R n c reply → LeavesSession reply
reply_leaves most held t R n c (Ok answer) own h = answer_leaves R n c answer own h.1
reply_leaves most held t R n c (Err fault) own h = refusal_leaves fault

if_begun : (o : Option ℕ) (P : ℕ → Type 0) → o ≡ None → IfSome o P
if_begun o P e = subst (λ o. IfSome o P) (sym e) tt

-- ---- the transaction of a call

pub own_of_txn : (p : SessionState) (pairs : List (ℕ × List ℕ)) (t : ℕ) (c : Call) (reply : Result Answer Fault) → IsInnerCall c → t ≡ p.txn
    → IsOfTxn p pairs t c reply
own_of_txn p pairs t call.Begin reply own e = absurd own
own_of_txn p pairs t (call.Resolve global outcome) reply own e = absurd own
own_of_txn p pairs t _ reply own e = e

pub refused_of_txn : (p : SessionState) (pairs : List (ℕ × List ℕ)) (t : ℕ) (c : Call) (fault : Fault) → t ≡ p.txn → IsOfTxn p pairs t c (Err fault)
refused_of_txn p pairs t (call.Resolve global outcome) fault e = tt
refused_of_txn p pairs t call.Begin fault e = e
refused_of_txn p pairs t _ fault e = e

abbrev nothing : List Entry
nothing = []

weaker : (next : ℕ) (o : Option ℕ) → IfSome o (λ u. u < next) → IfSome o (λ u. u < next + 1)
weaker next None h = tt
weaker next (Some u) h = omega arith

no_entry : (n : ℕ) (e : Entry) → slice_get nothing n ≡ Some e → ⊥
no_entry n e at = cc

-- ---- numbers of seats

low_reply : (n : ℕ) (p : SessionState) (reply : Result Answer Fault) → 0 < n → p.txn < n → IfSome (begun_by reply) (λ u. u < n) → (after_own_reply p reply).txn < n
low_reply n p (Ok (Began t)) some low begins = begins
low_reply n p (Ok (Committed ticket)) some low begins = some
low_reply n p (Ok Aborted) some low begins = some
low_reply n p _ some low begins = low

low_prepared : (n : ℕ) (p : SessionState) (t : ℕ) → p.txn < n → t < n → (once_prepared p t).txn < n
low_prepared n p t low own = elim (p.txn == t) as (λ b. (cond b (record { txn = t; prepared = true }) p).txn < n) [ true ↦ own | false ↦ low ]

low_decided : (n : ℕ) (p : SessionState) (t : ℕ) → 0 < n → p.txn < n → (once_decided p t).txn < n
low_decided n p t some low = elim ((p.txn == t) && p.prepared) as (λ b. (cond b free p).txn < n) [ true ↦ some | false ↦ low ]

low_decision : (n : ℕ) (p : SessionState) (d : Decision) → 0 < n → p.txn < n → decided_txn d < n → (after_decision p d).txn < n
low_decision n p (Prepare t g) some low own = low_prepared n p t low own
low_decision n p (Commit t) some low own = low_decided n p t some low
low_decision n p (RollBack t) some low own = low_decided n p t some low

begun_up : (m n : ℕ) (o : Option ℕ) → m ≤ n → IfSome o (λ u. u < m) → IfSome o (λ u. u < n)
begun_up m n None le h = tt
begun_up m n (Some u) le h = omega arith

-- ---- those in doubt

pub but_none : (t : ℕ) (ps : List PreparedTxn) → (IsAmong t (map (λ p. p.txn) ps) → ⊥) → but t (pairs_of ps) ≡ pairs_of ps
but_none t [] none = refl
but_none t (p ∷ ps) none =
    ap (λ b. cond b (pair_of p ∷ but t (pairs_of ps)) (but t (pairs_of ps))) (ap not (ne_eqb t p.txn (λ same. none (inl (sym same)))))
    ∙ ap (λ qs. pair_of p ∷ qs) (but_none t ps (λ later. none (inr later)))

pub pair_txn : (p : ℕ × List ℕ) (ps : List PreparedTxn) → IsAmong p (pairs_of ps) → IsAmong p.0 (map (λ p. p.txn) ps)
pair_txn p [] h = absurd h
pair_txn p (q ∷ ps) (inl e) = inl (ap (λ (p : ℕ × List ℕ). p.0) e)
pair_txn p (q ∷ ps) (inr later) = inr (pair_txn p ps later)

pair_without : (t : ℕ) (p : ℕ × List ℕ) (ps : List PreparedTxn) → IsAmong p (pairs_of (without_prepared t ps)) → IsAmong p (pairs_of ps)
pair_without t p [] = λ h. h
pair_without t p (q ∷ ps) =
    elim (not (t == q.txn)) as (λ b. IsAmong p (pairs_of (cond b (q ∷ without_prepared t ps) (without_prepared t ps))) → IsAmong p (pairs_of (q ∷ ps))) [
      | true ↦ λ h. ⊎_elim (λ same. inl same) (λ later. inr (pair_without t p ps later)) h
      | false ↦ λ h. inr (pair_without t p ps h)
    ]

resolved_without : (t : ℕ) (p : ℕ × List ℕ) (rs : List ResolvedTxn) → IsAmong p (map pair_resolved (without_resolved t rs)) → IsAmong p (map pair_resolved rs)
resolved_without t p [] = λ h. h
resolved_without t p (q ∷ rs) =
    elim (not (t == q.txn)) as (λ b. IsAmong p (map pair_resolved (cond b (q ∷ without_resolved t rs) (without_resolved t rs))) → IsAmong p (map pair_resolved (q ∷ rs))) [
      | true ↦ λ h. ⊎_elim (λ same. inl same) (λ later. inr (resolved_without t p rs later)) h
      | false ↦ λ h. inr (resolved_without t p rs h)
    ]

pub each_at : {A : Type 0} (P : A → Type 0) (xs : List A) (x : A) → AllByRecursion P xs → IsAmong x xs → P x
each_at P [] x h m = absurd m
each_at P (y ∷ xs) x h (inl e) = subst P e h.0
each_at P (y ∷ xs) x h (inr later) = each_at P xs x h.1 later

module _ {o : Opening} {es : List Entry} {s : Sessions} (k : SessionsAgree o es s) where
  abbrev pairs : List (ℕ × List ℕ)
  pairs = all_prepared o.in_doubt (decisions es)

  -- ---- one entry more, or none

  -- the transactions under way, and those in doubt among them
  pub record Lists (new : Sessions) : Type 0 where
    pub slots : new.slots ≡ s.slots
    pub once : EachOnce (txns_of new.active)
    pub under_way : (t : ℕ) → IsAmong t (in_doubt_of new) → IsAmong t (txns_of new.active)
    pub unrolled : (a : SessionTxn) → IsAmong a new.active → IsAmong a.txn (in_doubt_of new) → a.undo.rolling ≡ None

  pub record Exchanges (session t : ℕ) (x : Exchange) (new : Sessions) : Type 0 where
    pub may : MayStand o es (Exchanged session t x)
    pub seats : (n : ℕ) → session_state n (s.seats n) (Exchanged session t x ∷ []) ≡ new.seats n
    pub begins : IfSome (begun_by x.reply) (λ u. u < new.next_txn)
    pub next : s.next_txn ≤ new.next_txn
    pub prepared : pairs_of s.prepared ≡ pairs_of new.prepared
    pub doubts : (t : ℕ) → IsAmong t (in_doubt_of new) → IsAmong t (in_doubt_of s)
    pub used : (p : ℕ × List ℕ) → IsAmong p (in_use new) → IsAmong p (in_use s)
    pub lists : Lists new

  pub exchanged_agrees : (session t : ℕ) (x : Exchange) (new : Sessions) → Exchanges session t x new → SessionsAgree o (es ++ Exchanged session t x ∷ []) new
  exchanged_agrees session t x new h =
      let same : decisions (es ++ Exchanged session t x ∷ []) ≡ decisions es = decisions-exchanged es t session x in
      let le : s.next_txn ≤ new.next_txn = h.next in
      let some : 0 < new.next_txn = let old : 0 < s.next_txn = k.some in omega arith in
      record {
        slots = h.lists.slots ∙ k.slots;
        history = history-push es o (Exchanged session t x) k.history h.may;
        seats = λ n. session_state-push n free es (Exchanged session t x) ∙ ap (λ p. after_entry n p (Exchanged session t x)) (k.seats n) ∙ h.seats n;
        once = h.lists.once;
        below = λ n. subst (λ (p : SessionState). p.txn < new.next_txn) (h.seats n)
            (let low : (s.seats n).txn < new.next_txn = (let old : (s.seats n).txn < s.next_txn = k.below n in omega arith) in
            elim (session == n) as (λ b. (cond b (after_own_reply (s.seats n) x.reply) (s.seats n)).txn < new.next_txn) [
              | true ↦ low_reply new.next_txn (s.seats n) x.reply some low h.begins
              | false ↦ low
            ]);
        found = All-weaker (λ (d : InDoubt). d.txn < s.next_txn) (λ (d : InDoubt). d.txn < new.next_txn) (λ d old. omega arith) o.in_doubt k.found;
        begun = All-push (λ e. IfSome (began e) (λ u. u < new.next_txn)) es (Exchanged session t x)
            (All-weaker (λ e. IfSome (began e) (λ u. u < s.next_txn)) (λ e. IfSome (began e) (λ u. u < new.next_txn)) (λ e old. begun_up s.next_txn new.next_txn (began e) le old) es k.begun) h.begins;
        some = some;
        in_doubt = ap (in_doubt o.in_doubt) same ∙ k.in_doubt ∙ h.prepared;
        turned = λ u b. ap (λ ds. has_prepared o.in_doubt ds u) same ∙ k.turned u (h.doubts u b);
        under_way = h.lists.under_way;
        unrolled = h.lists.unrolled;
        under = λ p a. ap (λ ds. last_under p.1 None (all_prepared o.in_doubt ds)) same ∙ k.under p (h.used p a);
        used_below = λ p a. let old : p.0 < s.next_txn = k.used_below p (h.used p a) in omega arith;
      }

  pub record Decides (d : Decision) (new : Sessions) : Type 0 where
    pub may : MayStand o es (Decided d)
    pub seats : (n : ℕ) → after_decision (s.seats n) d ≡ new.seats n
    pub own : decided_txn d < s.next_txn
    pub next : new.next_txn ≡ s.next_txn
    pub in_doubt : in_doubt o.in_doubt (decisions es ++ d ∷ []) ≡ pairs_of new.prepared
    pub turned : (t : ℕ) → IsAmong t (in_doubt_of new) → has_prepared o.in_doubt (decisions es ++ d ∷ []) t ≡ true
    pub under : (p : ℕ × List ℕ) → IsAmong p (in_use new) → last_under p.1 None (all_prepared o.in_doubt (decisions es ++ d ∷ [])) ≡ Some p.0
    pub used_below : (p : ℕ × List ℕ) → IsAmong p (in_use new) → p.0 < s.next_txn
    pub lists : Lists new

  pub decided_agrees : (d : Decision) (new : Sessions) → Decides d new → SessionsAgree o (es ++ Decided d ∷ []) new
  decided_agrees d new h =
      let same : decisions (es ++ Decided d ∷ []) ≡ decisions es ++ d ∷ [] = decisions-decided es d in
      record {
        slots = h.lists.slots ∙ k.slots;
        history = history-push es o (Decided d) k.history h.may;
        seats = λ n. session_state-push n free es (Decided d) ∙ ap (λ p. after_decision p d) (k.seats n) ∙ h.seats n;
        once = h.lists.once;
        below = λ n. subst (λ next. (new.seats n).txn < next) (sym h.next) (subst (λ (p : SessionState). p.txn < s.next_txn) (h.seats n) (low_decision s.next_txn (s.seats n) d k.some (k.below n) h.own));
        found = subst (λ n. All (λ (d : InDoubt). d.txn < n) o.in_doubt) (sym h.next) k.found;
        begun = subst (λ n. All (λ e. IfSome (began e) (λ u. u < n)) (es ++ Decided d ∷ [])) (sym h.next) (All-push (λ e. IfSome (began e) (λ u. u < s.next_txn)) es (Decided d) k.begun tt);
        some = subst (λ n. 0 < n) (sym h.next) k.some;
        in_doubt = ap (in_doubt o.in_doubt) same ∙ h.in_doubt;
        turned = λ t b. ap (λ ds. has_prepared o.in_doubt ds t) same ∙ h.turned t b;
        under_way = h.lists.under_way;
        unrolled = h.lists.unrolled;
        under = λ p a. ap (λ ds. last_under p.1 None (all_prepared o.in_doubt ds)) same ∙ h.under p a;
        used_below = λ p a. subst (λ n. p.0 < n) (sym h.next) (h.used_below p a);
      }

  -- no entry: the same seats and those in doubt
  pub still_agrees : (new : Sessions) → new.seats ≡ s.seats → new.next_txn ≡ s.next_txn → new.prepared ≡ s.prepared → new.resolving ≡ s.resolving → Lists new → SessionsAgree o es new
  still_agrees new seats next prepared resolving lists =
      let used : (p : ℕ × List ℕ) → IsAmong p (in_use new) → IsAmong p (in_use s) =
      λ p. subst (λ ps. IsAmong p (pairs_of ps ++ map pair_resolved new.resolving) → IsAmong p (in_use s)) (sym prepared)
      (subst (λ rs. IsAmong p (pairs_of s.prepared ++ map pair_resolved rs) → IsAmong p (in_use s)) (sym resolving) (λ h. h)) in
      record {
        slots = lists.slots ∙ k.slots;
        history = k.history;
        seats = λ n. k.seats n ∙ ap (λ f. f n) (sym seats);
        once = lists.once;
        below = λ n. subst (λ next. (new.seats n).txn < next) (sym next) (subst (λ (p : SessionState). p.txn < s.next_txn) (ap (λ f. f n) (sym seats)) (k.below n));
        found = subst (λ n. All (λ (d : InDoubt). d.txn < n) o.in_doubt) (sym next) k.found;
        begun = subst (λ n. All (λ e. IfSome (began e) (λ u. u < n)) es) (sym next) k.begun;
        some = subst (λ n. 0 < n) (sym next) k.some;
        in_doubt = k.in_doubt ∙ ap pairs_of (sym prepared);
        turned = λ t b. k.turned t (subst (λ ps. IsAmong t (map (λ p. p.txn) ps)) prepared b);
        under_way = lists.under_way;
        unrolled = lists.unrolled;
        under = λ p a. k.under p (used p a);
        used_below = λ p a. subst (λ n. p.0 < n) (sym next) (k.used_below p (used p a));
      }

  -- ---- lists of transactions

  unchanged : Lists s
  unchanged = record { slots = refl; once = k.once; under_way = k.under_way; unrolled = k.unrolled }

  -- one that is not in doubt is taken out, or has another undo list, or is new
  without_one : (t : ℕ) → (IsAmong t (in_doubt_of s) → ⊥) → (new : Sessions) → new.active ≡ without_txn t s.active → in_doubt_of new ≡ in_doubt_of s → new.slots ≡ s.slots → Lists new
  without_one t none new active doubts slots = record {
    slots = slots;
    once = subst (λ xs. EachOnce (txns_of xs)) (sym active) (once_without t s.active k.once);
    under_way = λ u b. let was = subst (IsAmong u) doubts b in
        subst (λ xs. IsAmong u (txns_of xs)) (sym active) (txn_stays t u s.active (k.under_way u was) (λ same. none (subst (λ v. IsAmong v (in_doubt_of s)) same was)));
    unrolled = λ a m b. k.unrolled a (among_without t a s.active (subst (IsAmong a) active m)).0 (subst (IsAmong a.txn) doubts b);
  }

  undo_of_one : (t : ℕ) (undo : UndoList) → (IsAmong t (in_doubt_of s) → ⊥) → (new : Sessions) → new.active ≡ with_undo t undo s.active → in_doubt_of new ≡ in_doubt_of s → new.slots ≡ s.slots → Lists new
  undo_of_one t undo none new active doubts slots = record {
    slots = slots;
    once = subst (λ xs. EachOnce (txns_of xs)) (sym active) (subst EachOnce (sym (txns_with t undo s.active)) k.once);
    under_way = λ u b. subst (λ xs. IsAmong u (txns_of xs)) (sym active) (subst (IsAmong u) (sym (txns_with t undo s.active)) (k.under_way u (subst (IsAmong u) doubts b)));
    unrolled = λ a m b.
        let one = among_with t undo a s.active (subst (IsAmong a) active m) in
        let was = subst (IsAmong a.txn) doubts b in
        ⊎_elim (λ it. absurd (none (subst (λ v. IsAmong v (in_doubt_of s)) it.0 was)))
        (λ other. k.unrolled a (subst (λ y. IsAmong y s.active) (sym other.1) one.there) was) one.one;
  }

  -- ---- events

  -- a reply that leaves its session as it is
  left_alone : (session t : ℕ) (x : Exchange) → LeavesSession x.reply → IsOfTxn (s.seats session) pairs t x.call x.reply → (new : Sessions)
      → new ≡ record new { seats = λ n. session_state n (s.seats n) (Exchanged session t x ∷ []) } → new.next_txn ≡ s.next_txn
      → pairs_of s.prepared ≡ pairs_of new.prepared → in_doubt_of new ≡ in_doubt_of s
      → ((p : ℕ × List ℕ) → IsAmong p (in_use new) → IsAmong p (in_use s)) → Lists new → SessionsAgree o (es ++ Exchanged session t x ∷ []) new
  left_alone session t x leaves of new is next prepared doubts used lists =
      let le : s.next_txn ≤ new.next_txn = omega arith in
      exchanged_agrees session t x new (record {
        may = (if_begun (begun_by x.reply) (IsNewNumber o es) leaves.begins_none, subst (λ p. IsOfTxn p pairs t x.call x.reply) (sym (k.seats session)) of);
        seats = λ n. ap (λ (s : Sessions). s.seats n) (sym is);
        begins = if_begun (begun_by x.reply) (λ u. u < new.next_txn) leaves.begins_none;
        next = le;
        prepared = prepared;
        doubts = λ u b. subst (IsAmong u) doubts b;
        used = used;
        lists = lists;
      })

  own_txn : (a : SessionTxn) → s.seats a.session ≡ in_txn a.txn → a.txn ≡ (s.seats a.session).txn
  own_txn a seat = ap (λ (p : SessionState). p.txn) (sym seat)

  -- a reply that frees its session
  freed : (a : SessionTxn) → s.seats a.session ≡ in_txn a.txn → (x : Exchange) → begun_by x.reply ≡ None → IsOfTxn (s.seats a.session) pairs a.txn x.call x.reply → (new : Sessions)
      → new ≡ record new { seats = λ n. session_state n (s.seats n) (Exchanged a.session a.txn x ∷ []) } → new.next_txn ≡ s.next_txn
      → pairs_of s.prepared ≡ pairs_of new.prepared → in_doubt_of new ≡ in_doubt_of s → ((p : ℕ × List ℕ) → IsAmong p (in_use new) → IsAmong p (in_use s)) → Lists new
      → SessionsAgree o (es ++ Exchanged a.session a.txn x ∷ []) new
  freed a seat x none of new is next prepared doubts used lists =
      let le : s.next_txn ≤ new.next_txn = omega arith in
      exchanged_agrees a.session a.txn x new (record {
        may = (if_begun (begun_by x.reply) (IsNewNumber o es) none, subst (λ p. IsOfTxn p pairs a.txn x.call x.reply) (sym (k.seats a.session)) of);
        seats = λ n. ap (λ (s : Sessions). s.seats n) (sym is);
        begins = if_begun (begun_by x.reply) (λ u. u < new.next_txn) none;
        next = le;
        prepared = prepared;
        doubts = λ u b. subst (IsAmong u) doubts b;
        used = used;
        lists = lists;
      })

  -- an answer on a ticket: nothing is as it was not
  pub asked_agrees : (ticket : ℕ) (durable : Bool) → SessionsAgree o (es ++ Asked ticket durable ∷ []) s
  asked_agrees ticket durable =
      let e : Entry = Asked ticket durable in
      let same : decisions (es ++ e ∷ []) ≡ decisions es = decisions-asked es ticket durable in
      record {
        slots = k.slots;
        history = history-push es o e k.history tt;
        seats = λ n. session_state-push n free es e ∙ k.seats n;
        once = k.once;
        below = k.below;
        found = k.found;
        begun = All-push (λ e. IfSome (began e) (λ u. u < s.next_txn)) es e k.begun tt;
        some = k.some;
        in_doubt = ap (in_doubt o.in_doubt) same ∙ k.in_doubt;
        turned = λ u b. ap (λ ds. has_prepared o.in_doubt ds u) same ∙ k.turned u b;
        under_way = k.under_way;
        unrolled = k.unrolled;
        under = λ p a. ap (λ ds. last_under p.1 None (all_prepared o.in_doubt ds)) same ∙ k.under p a;
        used_below = k.used_below;
      }

  module _ (sound : IsSoundAfter o es s) where
    begin_agrees : (session : ℕ) → s.seats session ≡ free → SessionsAgree o (es ++ entries_by s (BeginTxn session)) (seated s (entries_by s (BeginTxn session)) (txn_begun s session))
    begin_agrees session idle =
        let x : Exchange = exchange call.Begin (Ok (Began s.next_txn)) in
        exchanged_agrees session s.next_txn x _ (record {
          may = (record { above_none = k.some; above_doubts = k.found; above_begun = k.begun }, refl);
          seats = λ n. refl;
          begins = omega arith;
          next = omega arith;
          prepared = refl;
          doubts = λ u b. b;
          used = λ p a. a;
          lists = record {
            slots = refl;
            once = (λ among. let less : s.next_txn < s.next_txn = sound.below s.next_txn among in omega arith, k.once);
            under_way = λ u b. inr (k.under_way u b);
            unrolled = λ a m b. ⊎_elim (λ same. ap (λ (a : SessionTxn). a.undo.rolling) (sym same)) (λ later. k.unrolled a later b) m;
          };
        })

    reply_agrees : (a : SessionTxn) (c : Call) (reply : Result Answer Fault) → IsOwn s a → IsInnerCall c → MayReplyInPlace s.slots s.held a.txn s.records (length a.undo.marks) c reply
        → SessionsAgree o (es ++ entries_by s (GiveReply a c reply)) (seated s (entries_by s (GiveReply a c reply)) (reply_given s a c reply))
    reply_agrees a c reply own inner served =
        left_alone a.session a.txn (exchange c reply) (reply_leaves s.slots s.held a.txn s.records (length a.undo.marks) c reply inner served)
        (own_of_txn (s.seats a.session) pairs a.txn c reply inner (own_txn a own.1)) _ refl refl refl refl (λ p b. b)
        (undo_of_one a.txn (undo_after s.records a.undo c reply) own.2.0 _ refl refl refl)

    refusal_agrees : (session t : ℕ) (c : Call) (fault : Fault) → IsTxnOf s session t
        → SessionsAgree o (es ++ entries_by s (RefuseCall session t c fault)) (seated s (entries_by s (RefuseCall session t c fault)) s)
    refusal_agrees session t c fault of =
        left_alone session t (exchange c (Err fault)) (refusal_leaves fault) (refused_of_txn (s.seats session) pairs t c fault (sym of)) _ refl refl refl refl (λ p b. b)
        (record { slots = refl; once = k.once; under_way = k.under_way; unrolled = k.unrolled })

    in_doubt_agrees : (session t : ℕ) (qs : List (List ℕ × ℕ)) → IsTxnOf s session t
        → SessionsAgree o (es ++ entries_by s (AnswerInDoubt session t qs)) (seated s (entries_by s (AnswerInDoubt session t qs)) s)
    in_doubt_agrees session t qs of =
        left_alone session t (exchange call.InDoubt (Ok (AreInDoubt qs))) (record { stays = λ p. refl; begins_none = refl }) (sym of) _ refl refl refl refl (λ p b. b)
        (record { slots = refl; once = k.once; under_way = k.under_way; unrolled = k.unrolled })

    abort_agrees : (a : SessionTxn) → IsOwn s a → SessionsAgree o (es ++ entries_by s (AnswerAbort a)) (seated s (entries_by s (AnswerAbort a)) (abort_answered s a))
    abort_agrees a own =
        freed a own.1 (exchange call.Abort (Ok Aborted)) refl (own_txn a own.1) _ refl refl refl refl (λ p b. b) (without_one a.txn own.2.0 _ refl refl refl)

    pub decision_agrees : (a : SessionTxn) → IsOwn s a → SessionsAgree o (es ++ Decided (Commit a.txn) ∷ []) (seated s (Decided (Commit a.txn) ∷ []) (commit_appended s a))
    decision_agrees a own = decided_agrees (Commit a.txn) _ (record {
      may = tt;
      seats = λ n. refl;
      own = sound.below a.txn (txn_among a s.active own.0);
      next = refl;
      in_doubt = doubt_commit o.in_doubt (decisions es) a.txn ∙ ap (but a.txn) k.in_doubt ∙ but_none a.txn s.prepared own.2.0;
      turned = λ t b. prepared_push o.in_doubt (decisions es) (Commit a.txn) t (k.turned t b);
      under = λ p b. under_commit o.in_doubt (decisions es) a.txn p.1 ∙ k.under p b;
      used_below = k.used_below;
      lists = without_one a.txn own.2.0 _ refl refl refl;
    })

    prepare_agrees : (a : SessionTxn) (global : List ℕ) (granules : List Granule) → IsOwn s a → a.undo.rolling ≡ None → IsUnused s global
        → SessionsAgree o (es ++ entries_by s (AppendPrepare a global granules)) (seated s (entries_by s (AppendPrepare a global granules)) (prepare_appended s a global))
    prepare_agrees a global granules own none unused =
        let t_in = txn_among a s.active own.0 in
        let new_one : PreparedTxn = record { txn = a.txn; global = global; answered = false } in
        let doubts : in_doubt_of (prepare_appended s a global) ≡ in_doubt_of s ++ a.txn ∷ [] = txns_push new_one s.prepared in
        let prepared : pairs_of (s.prepared ++ new_one ∷ []) ≡ pairs_of s.prepared ++ (a.txn, global) ∷ [] = map-push pair_of s.prepared new_one in
        let was : (t : ℕ) → IsAmong t (in_doubt_of (prepare_appended s a global)) → IsAmong t (in_doubt_of s) ⊎ (a.txn ≡ t) =
        λ t b. ⊎_elim (λ old. inl old) (λ new. ⊎_elim (λ e. inr e) (λ no. absurd no) new) (among_append t (in_doubt_of s) (a.txn ∷ []) (subst (IsAmong t) doubts b)) in
        let used : (p : ℕ × List ℕ) → IsAmong p (in_use (prepare_appended s a global)) → IsAmong p (in_use s) ⊎ ((a.txn, global) ≡ p) =
        λ p b. ⊎_elim
        (λ of. ⊎_elim (λ old. inl (among_left p (pairs_of s.prepared) (map pair_resolved s.resolving) old)) (λ new. ⊎_elim (λ e. inr e) (λ no. absurd no) new)
        (among_append p (pairs_of s.prepared) ((a.txn, global) ∷ []) (subst (IsAmong p) prepared of)))
        (λ of. inl (among_right p (pairs_of s.prepared) (map pair_resolved s.resolving) of))
        (among_append p (pairs_of (s.prepared ++ new_one ∷ [])) (map pair_resolved s.resolving) b) in
        decided_agrees (Prepare a.txn global) _ (record {
          may = tt;
          seats = λ n. refl;
          own = sound.below a.txn t_in;
          next = refl;
          in_doubt = doubt_prepare o.in_doubt (decisions es) a.txn global (none_ended o.in_doubt a.txn (decisions es) (sound.undecided a.txn t_in own.2))
              ∙ ap (λ ps. ps ++ (a.txn, global) ∷ []) k.in_doubt ∙ sym prepared;
          turned = λ t b. ⊎_elim (λ old. prepared_push o.in_doubt (decisions es) (Prepare a.txn global) t (k.turned t old))
              (λ same. subst (λ t. has_prepared o.in_doubt (decisions es ++ Prepare a.txn global ∷ []) t ≡ true) same (prepared_now o.in_doubt (decisions es) a.txn global)) (was t b);
          under = λ p b. ⊎_elim
              (λ old. under_still o.in_doubt (decisions es) a.txn global p.1 (each_at (λ p. pointwise nat_eq global p.1 ≡ false) (in_use s) p unused old) ∙ k.under p old)
              (λ same. subst (λ (p : ℕ × List ℕ). last_under p.1 None (all_prepared o.in_doubt (decisions es ++ Prepare a.txn global ∷ [])) ≡ Some p.0) same (under_now o.in_doubt (decisions es) a.txn global))
              (used p b);
          used_below = λ p b. ⊎_elim (λ old. k.used_below p old) (λ same. subst (λ (p : ℕ × List ℕ). p.0 < s.next_txn) same (sound.below a.txn t_in)) (used p b);
          lists = record {
            slots = refl;
            once = k.once;
            under_way = λ t b. ⊎_elim (λ old. k.under_way t old) (λ same. subst (λ t. IsAmong t (txns_of s.active)) same t_in) (was t b);
            unrolled = λ c m b. ⊎_elim (λ old. k.unrolled c m old) (λ same. subst (λ (c : SessionTxn). c.undo.rolling ≡ None) (same_member a c s.active k.once own.0 m same) none) (was c.txn b);
          };
        })

    answered_agrees : (session t : ℕ) (global : List ℕ) → s.seats session ≡ in_prepared t
        → SessionsAgree o (es ++ entries_by s (AnswerPrepare session t global)) (seated s (entries_by s (AnswerPrepare session t global)) (prepare_answered s t))
    answered_agrees session t global seat =
        let same = answered_txns t s.prepared in
        left_alone session t (exchange (call.Prepare global) (Ok Prepared)) (record { stays = λ p. refl; begins_none = refl }) (ap (λ (p : SessionState). p.txn) (sym seat)) _ refl refl
        (sym (answered_pairs t s.prepared)) same
        (λ p b. subst (λ ps. IsAmong p (ps ++ map pair_resolved s.resolving)) (answered_pairs t s.prepared) b)
        (record { slots = refl; once = k.once; under_way = λ u b. k.under_way u (subst (IsAmong u) same b); unrolled = λ a m b. k.unrolled a m (subst (IsAmong a.txn) same b) })

    -- what a resolve decides
    module _ (a : SessionTxn) (mem : IsAmong a s.active) (global : List ℕ) (of : IsAmong (record { txn = a.txn; global = global; answered = true }) s.prepared) where
      t_in : IsAmong a.txn (txns_of s.active)
      t_in = txn_among a s.active mem

      t_in_doubt : IsAmong a.txn (in_doubt_of s)
      t_in_doubt = prepared_among _ s.prepared of

      its_pair : IsAmong (a.txn, global) (pairs_of s.prepared)
      its_pair = among_map pair_of _ s.prepared of

      left_used : (p : ℕ × List ℕ) → IsAmong p (pairs_of (without_prepared a.txn s.prepared) ++ (a.txn, global) ∷ map pair_resolved s.resolving) → IsAmong p (in_use s)
      left_used p b = ⊎_elim
          (λ doubt. among_left p (pairs_of s.prepared) (map pair_resolved s.resolving) (pair_without a.txn p s.prepared doubt))
          (λ resolved. ⊎_elim
          (λ same. subst (λ p. IsAmong p (in_use s)) same (among_left (a.txn, global) (pairs_of s.prepared) (map pair_resolved s.resolving) its_pair))
          (λ later. among_right p (pairs_of s.prepared) (map pair_resolved s.resolving) later) resolved)
          (among_append p (pairs_of (without_prepared a.txn s.prepared)) ((a.txn, global) ∷ map pair_resolved s.resolving) b)

      resolve_agrees : SessionsAgree o (es ++ entries_by s (AppendResolve a global)) (seated s (entries_by s (AppendResolve a global)) (resolve_appended s a global))
      resolve_agrees = decided_agrees (Commit a.txn) _ (record {
        may = tt;
        seats = λ n. refl;
        own = sound.below a.txn t_in;
        next = refl;
        in_doubt = doubt_commit o.in_doubt (decisions es) a.txn ∙ ap (but a.txn) k.in_doubt ∙ sym (pairs_without a.txn s.prepared);
        turned = λ t b. prepared_push o.in_doubt (decisions es) (Commit a.txn) t (k.turned t (was_prepared a.txn t s.prepared b).0);
        under = λ p b. under_commit o.in_doubt (decisions es) a.txn p.1 ∙ k.under p (left_used p b);
        used_below = λ p b. k.used_below p (left_used p b);
        lists = record {
          slots = refl;
          once = once_without a.txn s.active k.once;
          under_way = λ t b. let was = was_prepared a.txn t s.prepared b in txn_stays a.txn t s.active (k.under_way t was.0) was.1;
          unrolled = λ c m b. k.unrolled c (among_without a.txn c s.active m).0 (was_prepared a.txn c.txn s.prepared b).0;
        };
      })

      rollback_agrees : SessionsAgree o (es ++ entries_by s (AppendRollback a global)) (seated s (entries_by s (AppendRollback a global)) (rollback_appended s a global))
      rollback_agrees =
          let undo = undo_rolled a.undo a.undo.images Whole in
          decided_agrees (RollBack a.txn) _ (record {
            may = k.turned a.txn t_in_doubt;
            seats = λ n. refl;
            own = sound.below a.txn t_in;
            next = refl;
            in_doubt = doubt_rollback o.in_doubt (decisions es) a.txn ∙ ap (but a.txn) k.in_doubt ∙ sym (pairs_without a.txn s.prepared);
            turned = λ t b. prepared_push o.in_doubt (decisions es) (RollBack a.txn) t (k.turned t (was_prepared a.txn t s.prepared b).0);
            under = λ p b. under_rollback o.in_doubt (decisions es) a.txn p.1 ∙ k.under p (left_used p b);
            used_below = λ p b. k.used_below p (left_used p b);
            lists = record {
              slots = refl;
              once = subst EachOnce (sym (txns_with a.txn undo s.active)) k.once;
              under_way = λ t b. subst (IsAmong t) (sym (txns_with a.txn undo s.active)) (k.under_way t (was_prepared a.txn t s.prepared b).0);
              unrolled = λ c m b.
                  let one = among_with a.txn undo c s.active m in
                  let was = was_prepared a.txn c.txn s.prepared b in
                  ⊎_elim (λ it. absurd (was.1 it.0)) (λ other. k.unrolled c (subst (λ y. IsAmong y s.active) (sym other.1) one.there) was.0) one.one;
            };
          })

    resolved_agrees : (session : ℕ) (r : ResolvedTxn) → IsAmong r s.resolving
        → SessionsAgree o (es ++ entries_by s (AnswerResolve session r)) (seated s (entries_by s (AnswerResolve session r)) (resolve_answered s r.txn))
    resolved_agrees session r mem =
        left_alone session r.txn (exchange (call.Resolve r.global r.outcome) (Ok Resolved)) (record { stays = λ p. refl; begins_none = refl })
        (k.under (pair_resolved r) (among_right (pair_resolved r) (pairs_of s.prepared) (map pair_resolved s.resolving) (among_map pair_resolved r s.resolving mem))) _ refl refl refl refl
        (λ p b. ⊎_elim (λ doubt. among_left p (pairs_of s.prepared) (map pair_resolved s.resolving) doubt)
        (λ later. among_right p (pairs_of s.prepared) (map pair_resolved s.resolving) (resolved_without r.txn p s.resolving later))
        (among_append p (pairs_of s.prepared) (map pair_resolved (without_resolved r.txn s.resolving)) b))
        (record { slots = refl; once = k.once; under_way = k.under_way; unrolled = k.unrolled })

-- ---- a commit, and its answer

own_seat : (t : ℕ) → once_decided (in_txn t) t ≡ in_txn t
own_seat t = elim (t == t) as (λ b. cond (b && false) free (in_txn t) ≡ in_txn t) [ true ↦ refl | false ↦ refl ]

commit_agrees : {o : Opening} {es : List Entry} {s : Sessions} → SessionsAgree o es s → IsSoundAfter o es s → (a : SessionTxn) → IsOwn s a → (ticket : ℕ)
    → SessionsAgree o (es ++ entries_by s (AppendCommit a ticket)) (seated s (entries_by s (AppendCommit a ticket)) (commit_appended s a))
commit_agrees {o} {es} {s} k sound a own ticket =
    let x : Exchange = exchange call.Commit (Ok (Committed ticket)) in
    let mid = decision_agrees k sound a own in
    let seat : once_decided (s.seats a.session) a.txn ≡ in_txn a.txn = ap (λ p. once_decided p a.txn) own.1 ∙ own_seat a.txn in
    subst (λ es. SessionsAgree o es (seated s (entries_by s (AppendCommit a ticket)) (commit_appended s a))) (append_assoc es (Decided (Commit a.txn) ∷ []) (Exchanged a.session a.txn x ∷ []))
    (freed mid a seat x refl (own_txn mid a seat) _ refl refl refl refl (λ p b. b) (record { slots = refl; once = mid.once; under_way = mid.under_way; unrolled = mid.unrolled }))

-- ---- all of them

pub event_agrees : (o : Opening) (es : List Entry) (old new : Sessions) (e : SessionEvent) → IsSoundAfter o es old → SessionsAgree o es old → StepsTo old e new
    → SessionsAgree o (es ++ entries_by old e) new
event_agrees o es old new (MoveLocks held) sound k moves =
    subst (SessionsAgree o (es ++ [])) (sym moves.3) (subst (λ es. SessionsAgree o es (locks_moved old held)) (sym (append-nil es))
    (still_agrees k _ refl refl refl refl (record { slots = refl; once = k.once; under_way = k.under_way; unrolled = k.unrolled })))
event_agrees o es old new (BeginTxn session) sound k moves = subst (SessionsAgree o _) (sym moves.1) (begin_agrees k sound session moves.0)
event_agrees o es old new (GiveReply a c reply) sound k moves = subst (SessionsAgree o _) (sym moves.4) (reply_agrees k sound a c reply moves.0 moves.1 moves.2)
event_agrees o es old new (AppendCommit a ticket) sound k moves = subst (SessionsAgree o _) (sym moves.2) (commit_agrees k sound a moves.0 ticket)
event_agrees o es old new (PutBack a kept e r) sound k moves =
    subst (SessionsAgree o (es ++ [])) (sym moves.4)
    (subst (λ es. SessionsAgree o es (image_put_back old a kept e r)) (sym (append-nil es))
    (still_agrees k _ refl refl refl refl (undo_of_one k a.txn (undo_rolled a.undo kept r) moves.0.1 _ refl refl refl)))
event_agrees o es old new (Doom a) sound k moves =
    subst (SessionsAgree o (es ++ [])) (sym moves.1)
    (subst (λ es. SessionsAgree o es (doomed old a)) (sym (append-nil es))
    (still_agrees k _ refl refl refl refl (undo_of_one k a.txn (undo_rolled a.undo a.undo.images Whole) moves.0.1 _ refl refl refl)))
event_agrees o es old new (AnswerAbort a) sound k moves = subst (SessionsAgree o _) (sym moves.1) (abort_agrees k sound a moves.0)
event_agrees o es old new (Ask ticket durable) sound k moves = subst (SessionsAgree o _) (sym moves) (asked_agrees k ticket durable)
event_agrees o es old new (RefuseCall session t c fault) sound k moves = subst (SessionsAgree o _) (sym moves.2) (refusal_agrees k sound session t c fault moves.0)
event_agrees o es old new (AppendPrepare a global granules) sound k moves =
    subst (SessionsAgree o _) (sym moves.4) (prepare_agrees k sound a global granules moves.0 moves.1 moves.2)
event_agrees o es old new (AnswerPrepare session t global) sound k moves = subst (SessionsAgree o _) (sym moves.2) (answered_agrees k sound session t global moves.1)
event_agrees o es old new (AppendResolve a global) sound k moves = subst (SessionsAgree o _) (sym moves.3) (resolve_agrees k sound a moves.0 global moves.2)
event_agrees o es old new (AppendRollback a global) sound k moves = subst (SessionsAgree o _) (sym moves.2) (rollback_agrees k sound a moves.0 global moves.1)
event_agrees o es old new (EndRollback a) sound k moves =
    subst (SessionsAgree o (es ++ [])) (sym moves.2)
    (subst (λ es. SessionsAgree o es (rollback_ended old a)) (sym (append-nil es)) (still_agrees k _ refl refl refl refl (without_one k a.txn moves.0.1 _ refl refl refl)))
event_agrees o es old new (AnswerResolve session r) sound k moves = subst (SessionsAgree o _) (sym moves.2) (resolved_agrees k sound session r moves.0)
event_agrees o es old new (AnswerInDoubt session t qs) sound k moves = subst (SessionsAgree o _) (sym moves.2) (in_doubt_agrees k sound session t qs moves.0)

no_history : (o : Opening) → IsHistory (history_from o [])
no_history o n e at = absurd (no_entry n e at)

pub open_agrees : (o : Opening) (s : Sessions) → IsJustOpened o s → SessionsAgree o [] s
open_agrees o s h =
    let doubts : in_doubt_of s ≡ txns_of s.active = ap (map (λ p. p.txn)) h.prepared ∙ found_txns o.in_doubt ∙ sym h.active in
    let pairs_same : pairs_of s.prepared ≡ map (λ d. (d.txn, d.global)) o.in_doubt = ap pairs_of h.prepared ∙ found_pairs o.in_doubt in
    let all : all_prepared o.in_doubt [] ≡ pairs_of s.prepared = append-nil (map (λ d. (d.txn, d.global)) o.in_doubt) ∙ sym pairs_same in
    let used : (p : ℕ × List ℕ) → IsAmong p (in_use s) → IsAmong p (pairs_of s.prepared) =
    λ p b. subst (IsAmong p) (append-nil (pairs_of s.prepared)) (subst (λ rs. IsAmong p (pairs_of s.prepared ++ map pair_resolved rs)) h.resolving b) in
    record {
      slots = h.slots;
      history = no_history o;
      seats = λ n. sym (h.seats n);
      once = h.once;
      below = λ n. subst (λ (p : SessionState). p.txn < s.next_txn) (sym (h.seats n)) h.some;
      found = h.found;
      begun = All-nil _;
      some = h.some;
      in_doubt = filter_all (all_prepared o.in_doubt []) ∙ all;
      turned = λ t b. found_turned t o.in_doubt (subst (IsAmong t) (doubts ∙ h.active) b);
      under_way = λ t b. subst (IsAmong t) doubts b;
      unrolled = λ a m b. h.unrolled a m;
      under = λ p b. ap (last_under p.1 None) all ∙ h.under p (used p b);
      used_below = λ p b. found_under s.next_txn o.in_doubt h.found p.0 (subst (IsAmong p.0) (doubts ∙ h.active) (pair_txn p s.prepared (used p b)));
    }
  where
    found_pairs : (ds : List InDoubt) → pairs_of (map found_in_doubt ds) ≡ map (λ d. (d.txn, d.global)) ds
    found_pairs [] = refl
    found_pairs (d ∷ ds) = ap (λ ps. (d.txn, d.global) ∷ ps) (found_pairs ds)

    filter_all : (ps : List (ℕ × List ℕ)) → filter (λ p. is_undecided [] p.0) ps ≡ ps
    filter_all [] = refl
    filter_all (p ∷ ps) = ap (λ qs. p ∷ qs) (filter_all ps)

    or_true_left : (a b c : Bool) → a ≡ true → ((a || b) || c) ≡ true
    or_true_left true b c e = refl
    or_true_left false b c e = cc

    or_more : (a b c : Bool) → (b || c) ≡ true → ((a || b) || c) ≡ true
    or_more true b c e = refl
    or_more false b c e = e

    found_turned : (t : ℕ) (ds : List InDoubt) → IsAmong t (map (λ d. d.txn) ds) → has_prepared ds [] t ≡ true
    found_turned t [] h = absurd h
    found_turned t (d ∷ ds) (inl e) = or_true_left (d.txn == t) (list_any (λ d. d.txn == t) ds) false (eq-eqb d.txn t e)
    found_turned t (d ∷ ds) (inr later) = or_more (d.txn == t) (list_any (λ d. d.txn == t) ds) false (found_turned t ds later)
