-- What the calls that wait stand on stays with events that decide nothing.
use Rattle.std.proofs.Common.{◌≡◌, ◌≢◌, ◌⊎◌, inl, inr, ⊎_elim, ◌∷◌, ℕ, List, [], false, None, Ok, Err, refl, sym, ap, subst, ◌∙◌, append-nil, arith, true, ◌<◌, ◌≤◌, ◌+◌}
use Rattle.std.specs.Prelude.{◌==◌, Result}
use Rattle.std.proofs.lemmas.Bool.{cases_Bool, eqb-false, eqb-true}
use Rattle.std.specs.List.{AllByRecursion}
use Rattle.shore_types.specs.declared.layout.Geometry.{Geometry}
use Rattle.shore_types.specs.declared.faults.Fault.{Fault}
use Rattle.shore_model.specs.declared.calls.Answer.{Answer}
use Rattle.shore_model.specs.declared.calls.Answer.TheVariants.{Inserted}
use Rattle.shore_model.specs.declared.calls.Call.{Call}
use Rattle.shore_model.specs.declared.calls.Call.TheVariants as call
use Rattle.shore_model.specs.declared.histories.Entry.{Entry}
use Rattle.shore_model.specs.Records.{Records}
use Rattle.laws_lives.proofs.Members.{txns_with}
use Rattle.laws_lives.specs.SessionSteps.{AnswerAbort, Ask, AppendCommit, BeginTxn, Doom, GiveReply, MoveLocks, PutBack, RefuseCall, SessionEvent, AnswerInDoubt, AnswerPrepare, AnswerResolve, AppendPrepare, AppendResolve, AppendRollback, EndRollback, entries_by}
use Rattle.laws_lives.specs.Sessions.{SessionTxn, Sessions, with_undo, IsInNoTxn, in_txn, reply_given, seated, txn_begun, in_prepared, ResolvedTxn, txns_of}
use Rattle.laws_lives.specs.UndoLists.{MayGiveReply, UndoList, undo_after, undo_rolled}
use Rattle.laws_lives.specs.Views.{IsAmong}
use Rattle.laws_calls.proofs.Growing.{still_there}
use Rattle.laws_calls.proofs.Links.{Goes, GoesBy, IsQuiet, Writes}
use Rattle.laws_calls.proofs.Prefixes.{prefix_on, whole_prefix}
use Rattle.laws_calls.proofs.Sessions.{refused_seats, reply_seats, listing_seats}
use Rattle.laws_calls.proofs.Unwinding.{its_list, other_list, with_list}
use Rattle.laws_calls.specs.CallHistories.{IsPrefix}
use Rattle.laws_calls.specs.StateChanges.{decision_waiting}
use Rattle.laws_calls.specs.CallSteps.{IsPreparing, HasEnded}
use Rattle.laws_calls.specs.SessionWaits.{IsDecisionWait, IsLockWait, WaitsOfSessions, IsUnanswered, IsNotUnderWay}
use Rattle.laws_calls.specs.States.{State, Waiting, HasSeat}
use Rattle.laws_calls.proofs.Waiters.{other_seat}
use Rattle.shore_model.specs.declared.sessions.SessionState.{SessionState}
use Rattle.shore_model.specs.declared.histories.Decision.{Decision}

-- The same calls wait, the same transactions are committed, each transaction under way still is, and of none whose call waits a rollback has begun; the log
-- goes on, and a failed state stays so.
-- a call of the transaction's session waits
abbrev CallWaits : State → SessionTxn → Type 0
CallWaits s a = (w : Waiting) × IsAmong w s.waiting × (a.session ≡ w.session)

-- the transaction is under way, and if its call waits, no rollback of it has begun unless one had
abbrev StaysIn : State → SessionTxn → Sessions → Type 0
StaysIn s a n = (b : SessionTxn) × HasSeat n b × (b.session ≡ a.session) × (b.txn ≡ a.txn) × (CallWaits s a → a.undo.rolling ≡ None → b.undo.rolling ≡ None)

pub record LeavesWaits (s new : State) : Type 0 where
  pub waiting : new.waiting ≡ s.waiting
  pub prepared : new.sessions.prepared ≡ s.sessions.prepared
  pub seats : (n t : ℕ) → s.sessions.seats n ≡ in_prepared t → new.sessions.seats n ≡ in_prepared t
  pub active : (a : SessionTxn) → HasSeat s.sessions a → StaysIn s a new.sessions
  pub resolving : new.sessions.resolving ≡ s.sessions.resolving
  pub txns : (t : ℕ) → IsAmong t (txns_of s.sessions.active) → IsAmong t (txns_of new.sessions.active)
  pub older : (t : ℕ) → t < s.sessions.next_txn → IsAmong t (txns_of new.sessions.active) → IsAmong t (txns_of s.sessions.active)
  pub next : s.sessions.next_txn ≤ new.sessions.next_txn
  pub outside : (w : Waiting) → IsAmong w s.waiting → (t : ℕ) → new.sessions.seats w.session ≡ in_txn t → s.sessions.seats w.session ≡ in_txn t
  pub on : IsPrefix s.log new.log
  pub running : new.failed ≡ false → s.failed ≡ false

-- what is not answered stays so
pub unanswered_on : (s new : Sessions) (session : ℕ) (c : Call) (d : Decision)
    → ((t : ℕ) (global : List ℕ) → IsPreparing s session t global → IsPreparing new session t global)
    → ((r : ResolvedTxn) → HasEnded s r → c ≡ call.Resolve r.global r.outcome → IsNotUnderWay s session → HasEnded new r × IsNotUnderWay new session)
    → IsUnanswered s session c d → IsUnanswered new session c d
unanswered_on s new session c d prepares resolves (inl h) = inl (h.0, h.1, prepares h.0 h.1 h.2, h.3, h.4)
unanswered_on s new session c d prepares resolves (inr h) = let on = resolves h.0 h.1 h.2 h.4 in inr (h.0, on.0, h.2, h.3, on.1)

pub decision_wait_on : (base : ℕ) (s new : State) (w : Waiting)
    → ((t : ℕ) (global : List ℕ) → IsPreparing s.sessions w.session t global → IsPreparing new.sessions w.session t global)
    → ((r : ResolvedTxn) → HasEnded s.sessions r → w.call ≡ call.Resolve r.global r.outcome → IsNotUnderWay s.sessions w.session → HasEnded new.sessions r × IsNotUnderWay new.sessions w.session)
    → IsPrefix s.log new.log → IsDecisionWait base s w → IsDecisionWait base new w
decision_wait_on base s new w prepares resolves on h =
    let still = still_there base h.number s.log new.log h.decision on h.there h.decided in
    record {
      number = h.number;
      decision = h.decision;
      is = h.is;
      unanswered = unanswered_on s.sessions new.sessions w.session w.call h.decision prepares resolves h.unanswered;
      some = h.some;
      there = still.0;
      decided = still.1;
    }

lock_wait_on : (s new : State) (w : Waiting) → IsAmong w s.waiting → ((a : SessionTxn) → HasSeat s.sessions a → StaysIn s a new.sessions) → IsLockWait s w → IsLockWait new w
lock_wait_on s new w there goes h =
    let b = goes h.txn h.active in
    record { txn = b.0; active = b.1; of = b.2 ∙ h.of; whole = λ spared. b.4 (w, there, h.of) (h.whole spared); at = h.at; is = h.is; lock = h.lock; asked = h.asked }

-- a resolved transaction is older than the next
abbrev pub AreOlder : State → Type 0
AreOlder s = (r : ResolvedTxn) → IsAmong r s.sessions.resolving → r.txn < s.sessions.next_txn

-- nothing but a begin brings a session into a transaction
pub still_outside : (s new : State) (session : ℕ) → ((t : ℕ) → new.sessions.seats session ≡ in_txn t → s.sessions.seats session ≡ in_txn t) → IsNotUnderWay s.sessions session
    → IsNotUnderWay new.sessions session
still_outside s new session back out t above is = out t above (back t is)

pub waits_left : (base : ℕ) (s new : State) → AreOlder s → LeavesWaits s new → WaitsOfSessions base s → WaitsOfSessions base new
waits_left base s new older h k = record {
  each = λ w m.
      let was = subst (IsAmong w) h.waiting m in
      ⊎_elim
      (λ c. inl (decision_wait_on base s new w
      (λ t global p. (subst (IsAmong (record { txn = t; global = global; answered = false })) (sym h.prepared) p.0, h.seats w.session t p.1))
      (λ r ended is out. ((subst (IsAmong r) (sym h.resolving) ended.0, λ active. ended.1 (h.older r.txn (older r ended.0) active)), still_outside s new w.session (h.outside w was) out))
      h.on c))
      (λ l. inr (lock_wait_on s new w was h.active l)) (k.each w was);
  resolves = λ running r ended.
      let were = k.resolves (h.running running) r (subst (IsAmong r) h.resolving ended.0, λ active. ended.1 (h.txns r.txn active)) in
      (were.0, were.1, subst (IsAmong (decision_waiting were.0 (call.Resolve r.global r.outcome) were.1)) (sym h.waiting) were.2);
  resolve_once = λ v w global x y m n first second. k.resolve_once v w global x y (subst (IsAmong v) h.waiting m) (subst (IsAmong w) h.waiting n) first second;
  once = λ v w m n same. k.once v w (subst (IsAmong v) h.waiting m) (subst (IsAmong w) h.waiting n) same;
  prepares = λ running p m e.
      let was = k.prepares (h.running running) p (subst (IsAmong p) h.prepared m) e in
      (was.0, was.1, subst (IsAmong (decision_waiting was.0 (call.Prepare p.global) was.1)) (sym h.waiting) was.2, h.seats was.0 p.txn was.3);
}

-- ---- events behind which each call that waited waits on

writes_on : (g : Geometry) (s new : State) → Writes g s new → IsPrefix s.log new.log
writes_on g s new (inl same) = ([], same.0 ∙ sym (append-nil s.log))
writes_on g s new (inr (inl one)) = (_ ∷ [], one.log)
writes_on g s new (inr (inr (inl one))) = (_ ∷ [], one.log)
writes_on g s new (inr (inr (inr (inl one)))) = (_ ∷ [], one.log)
writes_on g s new (inr (inr (inr (inr (inl one))))) = (_ ∷ [], one.log)
writes_on g s new (inr (inr (inr (inr (inr one))))) = (_ ∷ [], one.log)

module _ (g : Geometry) (s new : State) where
  pub goes_on_log : (e : SessionEvent) → Goes g s e new → IsPrefix s.log new.log
  goes_on_log e h = writes_on g s new h.writes

  same_resolving : (e : SessionEvent) → (start : State) → IsQuiet start e → Goes g s e new → new.sessions.resolving ≡ s.sessions.resolving
  same_resolving (MoveLocks held) start quiet h = ap (λ (n : Sessions). n.resolving) h.moves.3
  same_resolving (BeginTxn session) start quiet h = ap (λ (n : Sessions). n.resolving) h.moves.1
  same_resolving (GiveReply a c reply) start quiet h = ap (λ (n : Sessions). n.resolving) h.moves.4
  same_resolving (PutBack a kept e r) start quiet h = ap (λ (n : Sessions). n.resolving) h.moves.4
  same_resolving (RefuseCall session t c f) start quiet h = ap (λ (n : Sessions). n.resolving) h.moves.2
  same_resolving (AnswerInDoubt session t pairs) start quiet h = ap (λ (n : Sessions). n.resolving) h.moves.2
  same_resolving (Doom a) start quiet h = absurd quiet
  same_resolving (AppendCommit a ticket) start quiet h = absurd quiet
  same_resolving (AnswerAbort a) start quiet h = absurd quiet
  same_resolving (Ask ticket answer) start quiet h = absurd quiet
  same_resolving (AppendPrepare a global granules) start quiet h = absurd quiet
  same_resolving (AnswerPrepare session t global) start quiet h = absurd quiet
  same_resolving (AppendResolve a global) start quiet h = absurd quiet
  same_resolving (AppendRollback a global) start quiet h = absurd quiet
  same_resolving (EndRollback a) start quiet h = absurd quiet
  same_resolving (AnswerResolve session r) start quiet h = absurd quiet

  -- the same transactions are under way, or the next one with them
  abbrev SameTxns : Type 0
  SameTxns = (txns_of new.sessions.active ≡ txns_of s.sessions.active) × (new.sessions.next_txn ≡ s.sessions.next_txn)

  abbrev OneMoreTxn : Type 0
  OneMoreTxn = (txns_of new.sessions.active ≡ s.sessions.next_txn ∷ txns_of s.sessions.active) × (new.sessions.next_txn ≡ s.sessions.next_txn + 1)

  all_same : (n : Sessions) → new.sessions ≡ n → txns_of n.active ≡ txns_of s.sessions.active → n.next_txn ≡ s.sessions.next_txn → SameTxns ⊎ OneMoreTxn
  all_same n is txns next = inl (ap (λ (x : Sessions). txns_of x.active) is ∙ txns, ap (λ (x : Sessions). x.next_txn) is ∙ next)

  quiet_txns : (e : SessionEvent) → (start : State) → IsQuiet start e → Goes g s e new → SameTxns ⊎ OneMoreTxn
  quiet_txns (MoveLocks held) start quiet h = all_same _ h.moves.3 refl refl
  quiet_txns (BeginTxn session) start quiet h = inr (ap (λ (n : Sessions). txns_of n.active) h.moves.1, ap (λ (n : Sessions). n.next_txn) h.moves.1)
  quiet_txns (GiveReply a c reply) start quiet h = all_same _ h.moves.4 (txns_with a.txn (undo_after s.sessions.records a.undo c reply) s.sessions.active) refl
  quiet_txns (PutBack a kept e r) start quiet h = all_same _ h.moves.4 (txns_with a.txn (undo_rolled a.undo kept r) s.sessions.active) refl
  quiet_txns (RefuseCall session t c f) start quiet h = all_same _ h.moves.2 refl refl
  quiet_txns (AnswerInDoubt session t pairs) start quiet h = all_same _ h.moves.2 refl refl
  quiet_txns (Doom a) start quiet h = absurd quiet
  quiet_txns (AppendCommit a ticket) start quiet h = absurd quiet
  quiet_txns (AnswerAbort a) start quiet h = absurd quiet
  quiet_txns (Ask ticket answer) start quiet h = absurd quiet
  quiet_txns (AppendPrepare a global granules) start quiet h = absurd quiet
  quiet_txns (AnswerPrepare session t global) start quiet h = absurd quiet
  quiet_txns (AppendResolve a global) start quiet h = absurd quiet
  quiet_txns (AppendRollback a global) start quiet h = absurd quiet
  quiet_txns (EndRollback a) start quiet h = absurd quiet
  quiet_txns (AnswerResolve session r) start quiet h = absurd quiet

  -- a session whose call waits begins no transaction
  outside_seats : (e : SessionEvent) → (start : State) → IsQuiet start e → Goes g s e new → (w : Waiting) → IsAmong w start.waiting → (t : ℕ) → new.sessions.seats w.session ≡ in_txn t
      → s.sessions.seats w.session ≡ in_txn t
  outside_seats (MoveLocks held) start quiet h w m t is = sym (ap (λ (x : Sessions). x.seats w.session) h.moves.3) ∙ is
  outside_seats (BeginTxn session) start quiet h w m t is =
      sym (ap (λ (x : Sessions). x.seats w.session) h.moves.1 ∙ other_seat s.sessions.seats session w.session (in_txn s.sessions.next_txn) (λ same. quiet w m (sym same))) ∙ is
  outside_seats (GiveReply a c reply) start quiet h w m t is =
      sym (ap (λ (x : Sessions). x.seats w.session) (h.moves.4 ∙ sym (reply_seats s.sessions a c reply h.moves.1 h.moves.2 (reply_given s.sessions a c reply) refl))) ∙ is
  outside_seats (PutBack a kept e r) start quiet h w m t is = sym (ap (λ (x : Sessions). x.seats w.session) h.moves.4) ∙ is
  outside_seats (RefuseCall session u c f) start quiet h w m t is = sym (ap (λ (x : Sessions). x.seats w.session) (h.moves.2 ∙ sym (refused_seats s.sessions session u c f))) ∙ is
  outside_seats (AnswerInDoubt session u pairs) start quiet h w m t is = sym (ap (λ (x : Sessions). x.seats w.session) (h.moves.2 ∙ sym (listing_seats s.sessions session u pairs))) ∙ is
  outside_seats (Doom a) start quiet h w m t is = absurd quiet
  outside_seats (AppendCommit a ticket) start quiet h w m t is = absurd quiet
  outside_seats (AnswerAbort a) start quiet h w m t is = absurd quiet
  outside_seats (Ask ticket answer) start quiet h w m t is = absurd quiet
  outside_seats (AppendPrepare a global granules) start quiet h w m t is = absurd quiet
  outside_seats (AnswerPrepare session u global) start quiet h w m t is = absurd quiet
  outside_seats (AppendResolve a global) start quiet h w m t is = absurd quiet
  outside_seats (AppendRollback a global) start quiet h w m t is = absurd quiet
  outside_seats (EndRollback a) start quiet h w m t is = absurd quiet
  outside_seats (AnswerResolve session r) start quiet h w m t is = absurd quiet

  same_prepared : (e : SessionEvent) → (start : State) → IsQuiet start e → Goes g s e new → new.sessions.prepared ≡ s.sessions.prepared
  same_prepared (MoveLocks held) start quiet h = ap (λ (n : Sessions). n.prepared) h.moves.3
  same_prepared (BeginTxn session) start quiet h = ap (λ (n : Sessions). n.prepared) h.moves.1
  same_prepared (GiveReply a c reply) start quiet h = ap (λ (n : Sessions). n.prepared) h.moves.4
  same_prepared (PutBack a kept e r) start quiet h = ap (λ (n : Sessions). n.prepared) h.moves.4
  same_prepared (RefuseCall session t c f) start quiet h = ap (λ (n : Sessions). n.prepared) h.moves.2
  same_prepared (Doom a) start quiet h = absurd quiet
  same_prepared (AppendCommit a ticket) start quiet h = absurd quiet
  same_prepared (AnswerAbort a) start quiet h = absurd quiet
  same_prepared (Ask ticket answer) start quiet h = absurd quiet
  same_prepared (AppendPrepare a global granules) start quiet h = absurd quiet
  same_prepared (AnswerPrepare session t global) start quiet h = absurd quiet
  same_prepared (AppendResolve a global) start quiet h = absurd quiet
  same_prepared (AppendRollback a global) start quiet h = absurd quiet
  same_prepared (EndRollback a) start quiet h = absurd quiet
  same_prepared (AnswerResolve session r) start quiet h = absurd quiet
  same_prepared (AnswerInDoubt session t pairs) start quiet h = ap (λ (n : Sessions). n.prepared) h.moves.2

  -- a session whose transaction is prepared stays in it
  prepared_seats : (e : SessionEvent) → (start : State) → IsQuiet start e → Goes g s e new → (n t : ℕ) → s.sessions.seats n ≡ in_prepared t → new.sessions.seats n ≡ in_prepared t
  prepared_seats (MoveLocks held) start quiet h n t is = ap (λ (x : Sessions). x.seats n) h.moves.3 ∙ is
  prepared_seats (BeginTxn session) start quiet h n t is =
      ap (λ (x : Sessions). x.seats n) h.moves.1 ∙ other_seat s.sessions.seats session n (in_txn s.sessions.next_txn) apart ∙ is
    where
      apart : session ≢ n
      apart same = let clash : false ≡ true = ap (λ (p : SessionState). p.prepared) (sym h.moves.0 ∙ ap s.sessions.seats same ∙ is) in cc
  prepared_seats (GiveReply a c reply) start quiet h n t is =
      ap (λ (x : Sessions). x.seats n) (h.moves.4 ∙ sym (reply_seats s.sessions a c reply h.moves.1 h.moves.2 (reply_given s.sessions a c reply) refl)) ∙ is
  prepared_seats (PutBack a kept e r) start quiet h n t is = ap (λ (x : Sessions). x.seats n) h.moves.4 ∙ is
  prepared_seats (RefuseCall session u c f) start quiet h n t is = ap (λ (x : Sessions). x.seats n) (h.moves.2 ∙ sym (refused_seats s.sessions session u c f)) ∙ is
  prepared_seats (Doom a) start quiet h n t is = absurd quiet
  prepared_seats (AppendCommit a ticket) start quiet h n t is = absurd quiet
  prepared_seats (AnswerAbort a) start quiet h n t is = absurd quiet
  prepared_seats (Ask ticket answer) start quiet h n t is = absurd quiet
  prepared_seats (AppendPrepare a global granules) start quiet h n t is = absurd quiet
  prepared_seats (AnswerPrepare session u global) start quiet h n t is = absurd quiet
  prepared_seats (AppendResolve a global) start quiet h n t is = absurd quiet
  prepared_seats (AppendRollback a global) start quiet h n t is = absurd quiet
  prepared_seats (EndRollback a) start quiet h n t is = absurd quiet
  prepared_seats (AnswerResolve session r) start quiet h n t is = absurd quiet
  prepared_seats (AnswerInDoubt session u pairs) start quiet h n t is = ap (λ (x : Sessions). x.seats n) (h.moves.2 ∙ sym (listing_seats s.sessions session u pairs)) ∙ is

-- ---- transactions under way

module _ (start : State) (a : SessionTxn) where
  -- another undo list is put in the place of a transaction's
  relisted_in : (t : ℕ) (undo : UndoList) (n : Sessions) → StaysIn start a n → (a.txn ≡ t → CallWaits start a → undo.rolling ≡ None) → StaysIn start a (record n { active = with_undo t undo n.active })
  relisted_in t undo n (b, m, session, txn, whole) own =
      ⊎_elim
      (λ its.
      let same = eqb-true b.txn t its in (
        with_list b undo,
        (subst (λ u. IsAmong (with_list b undo) (with_undo u undo n.active)) same (its_list b undo n.active m.0), m.1, m.2),
        session,
        txn,
        λ waits none. own (sym txn ∙ same) waits,
      ))
      (λ other. (b, (other_list t undo b n.active m.0 (eqb-false b.txn t other), m.1, m.2), session, txn, whole))
      (cases_Bool (b.txn == t))

  -- another session begins a transaction
  begun_in : (session : ℕ) (n : Sessions) → IsInNoTxn n session → StaysIn start a n → StaysIn start a (seated n (entries_by n (BeginTxn session)) (txn_begun n session))
  begun_in session n idle (b, m, own, txn, whole) =
      let apart : session ≢ b.session = λ same.
      let above = m.2 in
      let none : b.txn ≡ 0 = ap (λ (p : SessionState). p.txn) (sym m.1 ∙ ap n.seats (sym same) ∙ idle) in omega arith in
      (b, (inr m.0, other_seat n.seats session b.session (in_txn n.next_txn) apart ∙ m.1, m.2), own, txn, whole)

-- no rollback is under way behind a reply
whole_behind : (R : Records) (undo : UndoList) (c : Call) (reply : Result Answer Fault) → MayGiveReply undo c reply → (undo_after R undo c reply).rolling ≡ None
whole_behind R undo c reply (inr h) =
    subst (λ (r : Result Answer Fault). (undo_after R undo c r).rolling ≡ None) (sym h.4) (subst (λ (x : Call). (undo_after R undo x (Ok h.1)).rolling ≡ None) (sym h.3) refl)
whole_behind R undo c (Err f) (inl whole) = whole
whole_behind R undo (call.Insert store bytes) (Ok answer) (inl whole) = insert_whole answer
  where
    insert_whole : (answer : Answer) → (undo_after R undo (call.Insert store bytes) (Ok answer)).rolling ≡ None
    insert_whole (Inserted id) = whole
    insert_whole _ = whole
whole_behind R undo (call.BackTo n) (Ok answer) (inl whole) = refl
whole_behind R undo _ (Ok answer) (inl whole) = whole

module _ (g : Geometry) (start s new : State) where
  still_under_way : (e : SessionEvent) → IsQuiet start e → Goes g s e new → (a : SessionTxn) → HasSeat start.sessions a → StaysIn start a s.sessions → StaysIn start a new.sessions
  still_under_way (MoveLocks held) quiet h a m k = subst (StaysIn start a) (sym h.moves.3) k
  still_under_way (BeginTxn session) quiet h a m k = subst (StaysIn start a) (sym h.moves.1) (begun_in start a session s.sessions h.moves.0 k)
  still_under_way (GiveReply b c reply) quiet h a m k =
      let left = reply_given s.sessions b c reply in
      subst (StaysIn start a) (reply_seats s.sessions b c reply h.moves.1 h.moves.2 left refl ∙ sym h.moves.4)
      (relisted_in start a b.txn (undo_after s.sessions.records b.undo c reply) s.sessions k (λ its waits. whole_behind s.sessions.records b.undo c reply h.moves.3))
  still_under_way (PutBack b kept e r) quiet h a m k =
      subst (StaysIn start a) (sym h.moves.4)
      (relisted_in start a b.txn (undo_rolled b.undo kept r) s.sessions k (λ its waits. absurd (quiet a waits.0 m waits.1 waits.2 its)))
  still_under_way (RefuseCall session t c f) quiet h a m k = subst (StaysIn start a) (refused_seats s.sessions session t c f ∙ sym h.moves.2) k
  still_under_way (Doom a) quiet h b m k = absurd quiet
  still_under_way (AppendCommit a ticket) quiet h b m k = absurd quiet
  still_under_way (AnswerAbort a) quiet h b m k = absurd quiet
  still_under_way (Ask ticket answer) quiet h b m k = absurd quiet
  still_under_way (AppendPrepare a global granules) quiet h b m k = absurd quiet
  still_under_way (AnswerPrepare session t global) quiet h b m k = absurd quiet
  still_under_way (AppendResolve a global) quiet h b m k = absurd quiet
  still_under_way (AppendRollback a global) quiet h b m k = absurd quiet
  still_under_way (EndRollback a) quiet h b m k = absurd quiet
  still_under_way (AnswerResolve session r) quiet h b m k = absurd quiet
  still_under_way (AnswerInDoubt session t pairs) quiet h b m k = subst (StaysIn start b) (listing_seats s.sessions session t pairs ∙ sym h.moves.2) k

  goes_leaves : (e : SessionEvent) → IsQuiet start e → Goes g s e new → LeavesWaits start s → LeavesWaits start new
  goes_leaves e quiet h k = record {
    waiting = h.waiting ∙ k.waiting;
    prepared = same_prepared g s new e start quiet h ∙ k.prepared;
    seats = λ n t is. prepared_seats g s new e start quiet h n t (k.seats n t is);
    active = λ a m. still_under_way e quiet h a m (k.active a m);
    resolving = same_resolving g s new e start quiet h ∙ k.resolving;
    txns = λ t m. ⊎_elim (λ same. subst (IsAmong t) (sym same.0) (k.txns t m)) (λ more. subst (IsAmong t) (sym more.0) (inr (k.txns t m))) (quiet_txns g s new e start quiet h);
    older = λ t less m.
        ⊎_elim (λ same. k.older t less (subst (IsAmong t) same.0 m))
        (λ more. ⊎_elim (λ now. let le = k.next in let is : s.sessions.next_txn ≡ t = now in absurd (omega (arith, is, le, less))) (λ before. k.older t less before) (subst (IsAmong t) more.0 m))
        (quiet_txns g s new e start quiet h);
    next =
        let le = k.next in
        ⊎_elim (λ same. let is = same.1 in omega (arith, is, le)) (λ more. let is = more.1 in omega (arith, is, le)) (quiet_txns g s new e start quiet h);
    outside = λ w m t is. k.outside w m t (outside_seats g s new e start quiet h w m t is);
    on = prefix_on start.log s.log new.log k.on (goes_on_log g s new e h);
    running = λ running. k.running (sym h.failed ∙ running);
  }

pub leaves_all : (s : State) → LeavesWaits s s
leaves_all s = record { waiting = refl; prepared = refl; seats = λ n t is. is; active = λ a m. (a, m, refl, refl, λ waits whole. whole); resolving = refl; txns = λ t m. m; older = λ t less m. m; next = omega arith; outside = λ w m t is. is; on = whole_prefix s.log; running = λ running. running }

pub by_leaves : (g : Geometry) (start s : State) (events : List SessionEvent) (new : State) (made : List Entry) → AllByRecursion (IsQuiet start) events → GoesBy g s events new made
    → LeavesWaits start s → LeavesWaits start new
by_leaves g start s [] new made quiet h k = subst (LeavesWaits start) (sym h.0) k
by_leaves g start s (e ∷ events) new made quiet h k = by_leaves g start h.0 events new h.1 quiet.1 h.3 (goes_leaves g start s h.0 e quiet.0 h.2 k)
