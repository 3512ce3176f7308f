-- Which transaction a session is in, and what each event of the sessions keeps.
use Rattle.std.proofs.Common.{◌≡◌, ⊎_elim, ◌++◌, ◌<◌, ℕ, List, [], true, false, Result, map, length, refl, sym, ap, subst, ◌∙◌, append-nil, arith, cond, ◌∷◌, Ok, ◌==◌}
use Rattle.shore_types.specs.declared.faults.Fault.{Fault}
use Rattle.shore_model.specs.declared.calls.Answer.{Answer}
use Rattle.shore_model.specs.declared.calls.Call.{Call}
use Rattle.shore_model.specs.declared.histories.Entry.{Entry}
use Rattle.shore_model.specs.declared.histories.Opening.{Opening}
use Rattle.shore_model.specs.declared.log_records.LogRecord.{LogRecord}
use Rattle.shore_model.specs.declared.sessions.SessionState.{SessionState}
use Rattle.shore_model.specs.Histories.{after_own_reply, free, session_state}
use Rattle.laws_lives.proofs.DoubtSteps.{event_tracks_doubts}
use Rattle.laws_lives.proofs.LogDecisions.{event_decides}
use Rattle.laws_lives.proofs.LogSteps.{event_keeps_log}
use Rattle.laws_lives.proofs.Lists.{among_map, among_right}
use Rattle.laws_lives.proofs.Members.{same_member, txn_among}
use Rattle.laws_lives.proofs.OwnSeats.{event_seats, seat_stays, unprepared}
use Rattle.laws_lives.proofs.SessionsAgree.{event_agrees, reply_leaves}
use Rattle.laws_lives.proofs.Steps.{event_stays_sound}
use Rattle.laws_lives.proofs.WholeSteps.{event_stays_whole}
use Rattle.laws_lives.specs.Doubts.{TracksDoubts}
use Rattle.laws_lives.specs.LogPrefixes.{LogDecides}
use Rattle.laws_lives.specs.LogTells.{IsLogAfter}
use Rattle.laws_lives.specs.Logged.{log_after}
use Rattle.laws_lives.specs.OwnSeats.{HasOwnSeats}
use Rattle.laws_lives.specs.RepliesInPlace.{MayReplyInPlace}
use Rattle.laws_lives.specs.SessionSteps.{AppendCommit, GiveReply, IsInnerCall, IsOwn, RefuseCall, SessionEvent, StepsTo, entries_by, AnswerInDoubt, AnswerPrepare, exchange}
use Rattle.laws_lives.specs.Sessions.{SessionTxn, Sessions, commit_appended, in_doubt_of, in_prepared, in_txn, resolved_of, seated, prepare_answered, EachOnce, ResolvedTxn, pairs_of, pair_resolved}
use Rattle.laws_lives.specs.Soundness.{IsSoundAfter, SessionsAgree}
use Rattle.laws_lives.specs.Views.{IsAmong}
use Rattle.laws_lives.specs.WholeLogs.{IsWholeLog}
use Rattle.laws_calls.specs.CallHistories.{txn_of}
use Rattle.laws_calls.specs.LockedStates.{IsSessionsState}
use Rattle.laws_calls.specs.States.{HasSeat, State, HasPrepared, IsOfSession, IsInTxn}
use Rattle.laws_calls.proofs.ResolvedOnce.{event_once}
use Rattle.shore_model.specs.declared.calls.Answer.TheVariants.{Committed}
use Rattle.shore_model.specs.declared.histories.Entry.TheVariants.{Exchanged}
use Rattle.shore_model.specs.declared.calls.Call.TheVariants as call

-- ---- the transaction of a session

pub its_txn : (s : Sessions) (a : SessionTxn) (session : ℕ) → s.seats a.session ≡ in_txn a.txn → a.session ≡ session → txn_of s session ≡ a.txn
its_txn s a session seat same = ap (λ n. (s.seats n).txn) (sym same) ∙ ap (λ (p : SessionState). p.txn) seat

-- a session is in one transaction
pub one_txn : (s : Sessions) (a b : SessionTxn) → s.seats a.session ≡ in_txn a.txn → s.seats b.session ≡ in_txn b.txn → a.session ≡ b.session → a.txn ≡ b.txn
one_txn s a b x y same = ap (λ (p : SessionState). p.txn) (sym x ∙ ap s.seats same ∙ y)

-- a session that is in one is not in none
pub in_one : (s : State) (session : ℕ) (a : SessionTxn) → IsOfSession s session a → IsInTxn s session
in_one s session a of none =
    let above = of.0.2 in
    let number : a.txn ≡ 0 = ap (λ (p : SessionState). p.txn) (sym of.0.1 ∙ ap s.sessions.seats of.1 ∙ none) in
    omega arith

-- and it is not prepared
pub not_prepared : (s : State) (session : ℕ) (a : SessionTxn) → IsOfSession s session a → HasPrepared s session → ⊥
not_prepared s session a of prepared =
    let clash : false ≡ true = ap (λ (p : SessionState). p.prepared) (sym of.0.1 ∙ ap s.sessions.seats of.1) ∙ prepared in cc

module _ {o : Opening} {found : List LogRecord} {es : List Entry} {s : State} (k : IsSessionsState o found es s) where
  -- of two under way with one number there is one
  pub one_member : (a b : SessionTxn) → IsAmong a s.sessions.active → IsAmong b s.sessions.active → a.txn ≡ b.txn → a ≡ b
  one_member a b x y same = same_member a b s.sessions.active k.agree.once x y same

  pub above_none : (a : SessionTxn) → IsAmong a s.sessions.active → 0 < a.txn
  above_none a mem = k.whole.above a.txn (txn_among a s.sessions.active mem)

  -- a transaction that is under way, and its session's, is neither in doubt nor decided
  pub own_of : (a : SessionTxn) → HasSeat s.sessions a → IsOwn s.sessions a
  own_of a mine = (mine.0, mine.1, its_free)
    where
      mem : IsAmong a s.sessions.active
      mem = mine.0

      seat : s.sessions.seats a.session ≡ in_txn a.txn
      seat = mine.1

      number : (p : SessionState) → s.sessions.seats a.session ≡ p → a.txn ≡ p.txn
      number p is = ap (λ (p : SessionState). p.txn) (sym seat ∙ is)

      of_none : s.sessions.seats a.session ≡ free → ⊥
      of_none is = let above = mine.2 in let none : a.txn ≡ 0 = number free is in omega arith

      of_prepared : (t : ℕ) → s.sessions.seats a.session ≡ in_prepared t → ⊥
      of_prepared t is = let clash : false ≡ true = ap (λ (p : SessionState). p.prepared) (sym seat ∙ is) in cc

      its_free : (IsAmong a.txn (in_doubt_of s.sessions) → ⊥) × (IsAmong a.txn (resolved_of s.sessions) → ⊥)
      its_free = ⊎_elim
          (λ none. absurd (of_none none))
          (λ more. ⊎_elim
          (λ i.
          let same = number (in_txn i.0) (k.seats.own a.session i.0 i.1) in
          (λ doubt. i.1.1 (subst (λ t. IsAmong t (in_doubt_of s.sessions)) same doubt), λ resolved. i.1.2 (subst (λ t. IsAmong t (resolved_of s.sessions)) same resolved)))
          (λ d. absurd (of_prepared d.0 d.2)) more)
          (k.seats.there a.session)

-- ---- events

-- sessions and log are what a manager has come to, after these entries
pub record AreSessionsAfter (base : ℕ) (o : Opening) (es : List Entry) (s : Sessions) (log : List LogRecord) : Type 0 where
  pub sound : IsSoundAfter o es s
  pub agree : SessionsAgree o es s
  pub seats : HasOwnSeats s
  pub logged : IsLogAfter o es s log
  pub whole : IsWholeLog log s
  pub doubts : TracksDoubts log s
  pub decides : LogDecides base o es log
  pub single : EachOnce (resolved_of s)

pub event_keeps : (base : ℕ) (o : Opening) (es : List Entry) (old new : Sessions) (e : SessionEvent) (log : List LogRecord)
    → AreSessionsAfter base o es old log → StepsTo old e new → AreSessionsAfter base o (es ++ entries_by old e) new (log_after log old e)
event_keeps base o es old new e log k moves = record {
  sound = event_stays_sound o es old new e k.sound k.agree moves;
  agree = event_agrees o es old new e k.sound k.agree moves;
  seats = event_seats o es old k.agree k.seats e new moves;
  logged = event_keeps_log o es old new e log k.sound k.logged moves;
  whole = event_stays_whole o es old new e log k.sound k.logged k.doubts k.whole moves;
  doubts = event_tracks_doubts o es old new e log k.sound k.agree k.logged k.doubts moves;
  decides = event_decides base o es old new e log k.sound k.agree k.logged k.doubts k.decides moves;
  single = event_once old new (λ t active doubt resolved. (k.doubts.rolled t active resolved).1 doubt) k.single e moves;
}

-- two of them, of which the second makes no entry
pub then_quiet : (base : ℕ) (o : Opening) (es made : List Entry) (s : Sessions) (log : List LogRecord)
    → AreSessionsAfter base o ((es ++ made) ++ []) s log → AreSessionsAfter base o (es ++ made) s log
then_quiet base o es made s log k = subst (λ es. AreSessionsAfter base o es s log) (append-nil (es ++ made)) k

-- ---- seats that stay

-- entries that leave each seat as it is
pub seats_stay : (s left : Sessions) (es : List Entry) → left.seats ≡ s.seats → ((n : ℕ) → session_state n (s.seats n) es ≡ s.seats n) → left ≡ seated s es left
seats_stay s left es same stays =
    let after : s.seats ≡ (λ n. session_state n (s.seats n) es) = (λ i n. sym (stays n) i) in
    ap (λ (seats : ℕ → SessionState). record left { seats = seats }) (same ∙ after)

-- a reply leaves them
pub reply_seats : (s : Sessions) (a : SessionTxn) (c : Call) (reply : Result Answer Fault) → IsInnerCall c → MayReplyInPlace s.slots s.held a.txn s.records (length a.undo.marks) c reply
    → (left : Sessions) → left.seats ≡ s.seats → left ≡ seated s (entries_by s (GiveReply a c reply)) left
reply_seats s a c reply inner may left same =
    seats_stay s left (entries_by s (GiveReply a c reply)) same
    (seat_stays s a.session (λ p. after_own_reply p reply) (reply_leaves s.slots s.held a.txn s.records (length a.undo.marks) c reply inner may).stays)

pub refused_seats : (s : Sessions) (session t : ℕ) (c : Call) (f : Fault) → s ≡ seated s (entries_by s (RefuseCall session t c f)) s
refused_seats s session t c f = seats_stay s s (entries_by s (RefuseCall session t c f)) refl (seat_stays s session (λ p. p) (λ p. refl))

-- so does the list of those in doubt
pub listing_seats : (s : Sessions) (session t : ℕ) (pairs : List (List ℕ × ℕ)) → s ≡ seated s (entries_by s (AnswerInDoubt session t pairs)) s
listing_seats s session t pairs = seats_stay s s (entries_by s (AnswerInDoubt session t pairs)) refl (seat_stays s session (λ p. p) (λ p. refl))

-- and the answer of a prepare
pub prepare_seats : (s : Sessions) (session t : ℕ) (global : List ℕ) → prepare_answered s t ≡ seated s (entries_by s (AnswerPrepare session t global)) (prepare_answered s t)
prepare_seats s session t global = seats_stay s (prepare_answered s t) (entries_by s (AnswerPrepare session t global)) refl (seat_stays s session (λ p. p) (λ p. refl))

-- a resolved transaction is older than the next
pub older_resolved : (o : Opening) (found : List LogRecord) (es : List Entry) (s : State) → IsSessionsState o found es s → (r : ResolvedTxn) → IsAmong r s.sessions.resolving
    → r.txn < s.sessions.next_txn
older_resolved o found es s k r m =
    k.agree.used_below (r.txn, r.global)
    (among_right (r.txn, r.global) (pairs_of s.sessions.prepared) (map pair_resolved s.sessions.resolving) (among_map (λ (x : ResolvedTxn). pair_resolved x) r s.sessions.resolving m))

-- a session is in a transaction that is prepared, or in one that is not
pub seat_apart : {p : SessionState} {t u : ℕ} → p ≡ in_txn t → p ≡ in_prepared u → ⊥
seat_apart x y = let clash : false ≡ true = ap (λ (p : SessionState). p.prepared) (sym x ∙ y) in cc

-- the decision of one that is not in doubt leaves each seat, and its answer frees its own
pub commit_seats : {o : Opening} {es : List Entry} {s : Sessions} → SessionsAgree o es s → HasOwnSeats s → (a : SessionTxn) (ticket : ℕ) → (IsAmong a.txn (in_doubt_of s) → ⊥)
    → seated s (Exchanged a.session a.txn (exchange call.Commit (Ok (Committed ticket))) ∷ []) (commit_appended s a) ≡ seated s (entries_by s (AppendCommit a ticket)) (commit_appended s a)
commit_seats {o} {es} {s} agree k a ticket no_doubt =
    ap (λ (seats : ℕ → SessionState). record (commit_appended s a) { seats = seats }) (λ i n. ap (λ p. cond (a.session == n) free p) (sym (unprepared o es s agree k a.txn no_doubt n)) i)
