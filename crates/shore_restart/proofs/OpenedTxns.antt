-- The state that a core over a restart opens in: those in doubt are under way, as the table has them, and nobody else. What the table, the calls that wait and
-- the lock table stand for there.
use Rattle.std.proofs.Common.{◌≡◌, inl, inr, ◌+◌, ◌<◌, ◌≤◌, ℕ, List, [], ◌∷◌, ◌++◌, Bool, true, false, cond, Option, None, Some, refl, sym, ap, subst, ◌∙◌, drop, length, arith}
use Rattle.std.specs.Prelude.{◌==◌, ◌&&◌, ◌||◌, All, Contains, is_some, not, reverse}
use Rattle.std.specs.List.{AllByRecursion, cons_option}
use Rattle.std.specs.List.Sorted.{IsPermutation}
use Rattle.std.proofs.lemmas.Bool.{true≢false}
use Rattle.std.proofs.lemmas.List.Sorted.{IsPermutation-refl}
use Rattle.shore_types.specs.declared.locking.Mode.{Mode}
use Rattle.shore_types.specs.declared.layout.Geometry.{Geometry}
use Rattle.shore_model.specs.declared.holds.Hold.{Hold}
use Rattle.shore_model.specs.declared.log_records.LogRecord.{LogRecord}
use Rattle.shore_model.specs.declared.requests.Request.{Request}
use Rattle.shore_model.specs.Histories.{free}
use Rattle.shore_model.specs.Logs as logs
use Rattle.shore_model.specs.Logs.{first_number, has, is_commit, is_prepare, is_rollback, prepare_number, previous_of, records_told, unanswered}
use Rattle.shore_model.specs.Requests.{held_by_all, hold_in, hold_of}
use Rattle.laws_lives.specs.Doubts.{LoggedDoubt}
use Rattle.laws_lives.specs.Recovery.{RecoveryState}
use Rattle.laws_lives.specs.Sessions.{Sessions}
use Rattle.laws_lives.specs.Undo.{IsUndoneTo, undo_record}
use Rattle.laws_lives.specs.Views.{IsAmong}
use Rattle.laws_lives.proofs.Booleans.{or_none}
use Rattle.laws_lives.proofs.Lists.{recursion-at, recursion-push}
use Rattle.laws_lives.proofs.OneMore.{by_push, has-push}
use Rattle.laws_lives.proofs.WritersTold.{in_doubt_parts}
use Rattle.laws_calls.proofs.RollbackNumbers.{number_push}
use Rattle.laws_calls.specs.CallHistories.{HasGrantedLocks}
use Rattle.laws_calls.specs.Resolves.{rollback_number}
use Rattle.laws_calls.specs.States.{State}
use Rattle.laws_runs.specs.CheckpointSteps.{log_limit}
use Rattle.laws_runs.specs.SlotCounts.{slot_count}
use Rattle.shore_analysis.specs.KeptMeant.{AreMeantKept}
use Rattle.shore_analysis.specs.Doubts.{doubts_left}
use Rattle.shore_analysis.specs.Padded.{padded}
use Rattle.shore_analysis.proofs.Answered.{last_named}
use Rattle.shore_analysis.proofs.Counted.{last_is_one}
use Rattle.shore_locks.specs.Orderly.{IsOfUse}
use Rattle.shore_locks.proofs.Members.{All-In, In, In-All, In-Contains}
use Rattle.shore_path.specs.Restoring.{NobodyWaits}
use Rattle.shore_path.proofs.Restored.{wants_none}
use Rattle.shore_txn.specs.Transactions.{next_in, prepared_in, room_in, undos_in}
use Rattle.shore_txn.specs.TxnStates.{is_in_doubt}
use Rattle.shore_txn.specs.Txns.{last_of}
use Rattle.shore_txn.specs.declared.txn.Txn.{Txn}
use Rattle.shore_sessions.specs.declared.control.Control.{Control}
use Rattle.shore_sessions.specs.declared.waits.WaitingCall.{WaitingCall}
use Rattle.shore_sessions.specs.Calls.{resolved_by}
use Rattle.shore_sessions.specs.Controls.{locks_in, txns_in, waits_in}
use Rattle.shore_sessions.specs.Seated.{IsNamed, IsSeated, is_rolled}
use Rattle.shore_sessions.specs.Standing.{HasControl, HasTxns, HasWaits, IsLogged}
use Rattle.shore_restart.specs.Anchors.{EndsBehind}
use Rattle.shore_restart.specs.GivenBack.{HasDoubtsBack, IsGivenBack}
use Rattle.shore_restart.specs.Room.{IsRoomBehind}
use Rattle.shore_restart.proofs.DoubtsKept.{last_is_prepare}
use Rattle.shore_restart.proofs.DoubtsNamed.{left_here, number_of_one}
use Rattle.shore_restart.proofs.DoubtsTold.{each_given, nobody_rolled}
use Rattle.shore_restart.proofs.Rooms.{cost_parts}
use Rattle.shore_restart.proofs.UndoTexts.{last_low}
use Rattle.shore_restart.proofs.WholeDoubts.{doubt_some, doubt_still, prepare_still, records_still, unanswered_still}

-- ---- numbers of transactions

-- records of undo are of transactions that the log had
pub below_undone : (n : ℕ) (log : List LogRecord) (turns : List ℕ) (last : List LogRecord) → IsUndoneTo log turns last → AllByRecursion (λ r. r.txn < n) log
    → AllByRecursion (λ r. r.txn < n) last
below_undone n log [] last undone all = subst (AllByRecursion (λ r. r.txn < n)) (sym undone) all
below_undone n log (t ∷ turns) last undone all =
    let one = last_is_one log t undone.0.known in
    let here = recursion-at (λ (r : LogRecord). r.txn < n) log one.at one.found all one.here in
    below_undone n (log ++ undo_record log t ∷ []) turns last undone.1
    (recursion-push (λ (r : LogRecord). r.txn < n) log (undo_record log t) all (subst (λ k. k < n) one.own here))

-- those in doubt are of such numbers
pub doubt_below : (g : Geometry) (cut : ℕ) (kept : List LogRecord) (n : ℕ) → AreMeantKept g cut kept → All (λ r. r.txn < n) kept → (d : LoggedDoubt) → IsAmong d (doubts_left (padded cut kept)) → d.txn < n
doubt_below g cut kept n meant all d among =
    let left = left_here (padded cut kept) d among in
    (number_of_one g cut kept meant d.txn left.0 left.1).below n all

-- who has no Rollback decided has no number of one
no_rollback : (t : ℕ) (log : List LogRecord) → has is_rollback t log ≡ false → rollback_number t log ≡ 0
no_rollback t = by_push (λ log. has is_rollback t log ≡ false → rollback_number t log ≡ 0) (λ none. refl) one_more
  where
    one_more : (log : List LogRecord) (r : LogRecord) → (has is_rollback t log ≡ false → rollback_number t log ≡ 0) → has is_rollback t (log ++ r ∷ []) ≡ false → rollback_number t (log ++ r ∷ []) ≡ 0
    one_more log r known none =
        let parts = or_none (has is_rollback t log) ((r.txn == t) && is_rollback r.payload) (sym (has-push log r is_rollback t) ∙ none) in
        number_push t log r ∙ ap (λ (b : Bool). cond b (1 + length log) (rollback_number t log)) parts.1 ∙ known parts.0

-- ---- one in doubt, over the log that undo leaves

module _ (g : Geometry) (cut : ℕ) (kept found : List LogRecord) (ends : EndsBehind cut found) (same : drop cut found ≡ kept) (meant : AreMeantKept g cut kept) (turns : List ℕ) (last : List LogRecord)
    (undone : IsUndoneTo found turns last) (d : LoggedDoubt) (t : Txn) (among : IsAmong d (doubts_left (padded cut kept))) (of : IsGivenBack (padded cut kept) d t) where
  some : 0 < d.txn
  some = doubt_some g cut kept found ends same meant turns last undone d among

  -- its records are those that are kept, of which its Prepare is the last, and it has no decision
  given_logged : IsLogged last t
  given_logged =
      let doubt = doubt_still g cut kept found ends same meant turns last undone d among in
      let parts = in_doubt_parts (has is_prepare d.txn last) (has is_commit d.txn last) (has is_rollback d.txn last) doubt in
      let records = records_still g cut kept found ends same meant turns last undone d among in
      record {
        first = of.first ∙ ap first_number (sym records) ∙ ap (λ (n : ℕ). logs.first_of n last) (sym of.txn);
        last = of.last ∙ sym (last_is_prepare g cut kept meant d among) ∙ ap (λ (es : List (ℕ × LogRecord)). first_number (reverse es)) (sym records) ∙ sym (last_named last d.txn some)
            ∙ ap (λ (n : ℕ). previous_of n last) (sym of.txn);
        changes = ap (λ (n : ℕ). unanswered n last) of.txn ∙ unanswered_still g cut kept found ends same meant turns last undone d among ∙ of.entries.changes;
        claims = of.entries.claims;
        prepare = of.prepare ∙ sym (prepare_still g cut kept found ends same meant turns last undone d among) ∙ ap (λ (n : ℕ). prepare_number n last) (sym of.txn);
        unprepared = λ none. let clash : ◌≡◌ {A = Option (List ℕ)} None (Some d.global) = sym none ∙ of.global in cc;
        decided = of.decided ∙ sym (no_rollback d.txn last parts.2) ∙ ap (λ (n : ℕ). rollback_number n last) (sym of.txn);
      }

  not_rolled : is_rolled t ≡ false
  not_rolled = ap (λ (n : ℕ). not (n == 0)) of.decided

  given_named : IsNamed t
  given_named = record {
    named = ap is_some of.global ∙ sym (ap (λ (b : Bool). b || is_rolled t) (ap is_in_doubt of.waits));
    left = λ rolled. absurd (true≢false (sym rolled ∙ not_rolled));
  }

  given_seated : (s : Sessions) → ((n : ℕ) → s.seats n ≡ free) → IsSeated s t
  given_seated s seats = record {
    own = λ seated. absurd (true≢false (sym seated ∙ of.unseated));
    alone = λ n is. let none : (s.seats n).txn ≡ 0 = ap (λ x. x.txn) (seats n) in let own = of.txn in let one = some in absurd (omega (arith, none, is, own, one));
  }

-- the number of its last record is one of the log's
pub given_earlier : (g : Geometry) (cut : ℕ) (kept : List LogRecord) → AreMeantKept g cut kept → (d : LoggedDoubt) (t : Txn) → IsAmong d (doubts_left (padded cut kept)) → IsGivenBack (padded cut kept) d t
    → last_of t ≤ length (padded cut kept)
given_earlier g cut kept meant d t among of = let low = last_low (padded cut kept) d.txn in let same = of.last ∙ sym (last_is_prepare g cut kept meant d among) in omega (arith, low, same)

-- ---- their locks

kept_among : (h : Hold) (q : Request) (rs : List Request) → In q rs → hold_of q ≡ Some h → In h (held_by_all rs)
kept_among h q [] there is = absurd there
kept_among h q (r ∷ rs) (inl same) is = subst (λ (o : Option Hold). In h (cons_option o (held_by_all rs))) (sym (ap hold_of same ∙ is)) (inl refl)
kept_among h q (r ∷ rs) (inr later) is = behind (hold_of r) (kept_among h q rs later is)
  where
    behind : (o : Option Hold) → In h (held_by_all rs) → In h (cons_option o (held_by_all rs))
    behind None there = there
    behind (Some k) there = inr there

-- where nobody waits a request is of who holds something
requests_below : (rs : List Request) (n : ℕ) → NobodyWaits rs → All IsOfUse rs → ((h : Hold) → Contains (held_by_all rs) h → h.txn < n) → All (λ r. r.txn < n) rs
requests_below rs n nobody of_use below = All-In (λ (r : Request). r.txn < n) rs (λ q there. at q there q.held refl)
  where
    at : (q : Request) → In q rs → (o : Option Mode) → q.held ≡ o → q.txn < n
    at q there None none =
        let of : (is_some q.held || is_some q.wanted) ≡ true = In-All IsOfUse rs q of_use there in
        absurd (true≢false (sym of ∙ ap (λ (o : Option Mode). is_some o || is_some q.wanted) none ∙ wants_none rs nobody q there))
    at q there (Some mode) is =
        below (record { txn = q.txn; granule = q.granule; mode = mode }) (In-Contains (held_by_all rs) (record { txn = q.txn; granule = q.granule; mode = mode }) (kept_among _ q rs there (ap (hold_in q) is)))

-- ---- the state

module _ (cut : ℕ) (ready : RecoveryState) (control : Control) (ring_bytes slots : ℕ) where
  -- what is cut off takes no room of the log stream
  abbrev pub opened_state : State
  opened_state = record {
    sessions = record {
      slots = slots;
      records = records_told ready.log;
      active = undos_in (txns_in control);
      held = held_by_all (locks_in control).requests;
      next_txn = next_in (txns_in control);
      seats = λ n. free;
      prepared = prepared_in (txns_in control);
      resolving = [];
    };
    locks = locks_in control;
    counts = slot_count ready.log;
    log = ready.log;
    durable = ready.durable;
    stream_bytes = log_limit ring_bytes cut ready.log;
    waiting = [];
    failed = false;
  }

  abbrev next : ℕ
  next = next_in (txns_in control)

  -- the control stands for it
  module _ (g : Geometry) (kept found : List LogRecord) (ends : EndsBehind cut found) (same : drop cut found ≡ kept) (meant : AreMeantKept g cut kept) (turns : List ℕ) (undone : IsUndoneTo found turns ready.log)
      (limit : ℕ) (back : HasDoubtsBack limit (padded cut kept) control) (some : 1 ≤ next) (above : All (λ r. r.txn < next) kept) (below : AllByRecursion (λ r. r.txn < next) found) where
    abbrev seen : List LogRecord
    seen = padded cut kept

    pub opened_locks : HasGrantedLocks opened_state
    opened_locks = record {
      held = refl;
      orderly = back.locks.orderly;
      rooted = back.locks.rooted;
      below = requests_below (locks_in control).requests next back.locks.nobody_waits back.locks.orderly.of_use (λ h held.
          let of = back.locks.restored.each h held in
          subst (λ (n : ℕ). n < next) (sym of.3) (doubt_below g cut kept next meant above of.0 of.2));
      nobody_waits = back.locks.nobody_waits;
    }

    pub opened_above : AllByRecursion (λ r. r.txn < next) ready.log
    opened_above = below_undone next found turns ready.log undone below

    pub opened_txns : IsRoomBehind cut (drop cut ready.log) ring_bytes (room_in (txns_in control)) → HasTxns (txns_in control) opened_state
    opened_txns room = record {
      active = refl;
      prepared = IsPermutation-refl (prepared_in (txns_in control));
      seats = each_given seen (txns_in control) back.txns (IsSeated opened_state.sessions)
          (λ d t among of. given_seated g cut kept found ends same meant turns ready.log undone d t among of opened_state.sessions (λ n. refl));
      entered = λ n. some;
      names = each_given seen (txns_in control) back.txns IsNamed (λ d t among of. given_named g cut kept found ends same meant turns ready.log undone d t among of);
      next = refl;
      room = let parts = cost_parts cut ready.log in let stream = room.stream in let cost = room.kept_is in omega (arith, parts, stream, cost);
      each = each_given seen (txns_in control) back.txns (IsLogged ready.log) (λ d t among of. given_logged g cut kept found ends same meant turns ready.log undone d t among of);
      above = opened_above;
    }

    opened_waits : HasWaits (waits_in control) opened_state
    opened_waits = subst (λ (calls : List WaitingCall). HasWaits calls opened_state) (sym back.waits) (record {
      waiting = refl;
      kinds = λ w none. absurd none;
      asking = λ w none waits. absurd none;
      preparing = λ w global none is. absurd none;
      ended = λ w r none is. absurd none;
      once = tt;
    })

    pub opened_control : IsRoomBehind cut (drop cut ready.log) ring_bytes (room_in (txns_in control)) → HasControl control opened_state
    opened_control room = record {
      txns = opened_txns room;
      waits = opened_waits;
      resolving = λ running. subst (IsPermutation []) (λ i. sym (nobody_rolled seen (txns_in control) back.txns) i ++ resolved_by (sym back.waits i)) (IsPermutation-refl []);
      locks = refl;
    }
