-- What each step of a transaction makes of the transactions under way.
use Rattle.std.proofs.Common.{◌≡◌, ◌≢◌, ◌⊎◌, inl, inr, ⊎_elim, ◌+◌, ◌<◌, ◌++◌, ◌∷◌, ◌==◌, [], ℕ, List, None, true, false, cond, is_some, refl, sym, ap, subst, ◌∙◌, arith, length, map}
use Rattle.std.specs.Prelude.{◌||◌, not, reverse}
use Rattle.std.specs.List.{AllByRecursion, filter_map}
use Rattle.std.specs.List.Sorted.{IsPermutation}
use Rattle.std.proofs.lemmas.Bool.{cases_Bool, eq-eqb, eqb-false, eqb-true, ne_eqb}
use Rattle.std.specs.FinMap.{get}
use Rattle.std.proofs.lemmas.List.{map-append, reverse-append}
use Rattle.shore_types.specs.Images.{Image}
use Rattle.shore_types.specs.declared.versions.Version.{Version}
use Rattle.shore_types.specs.declared.layout.TheConstants.{ENDING_COST}
use Rattle.shore_model.specs.declared.log_records.LogRecord.{LogRecord}
use Rattle.shore_model.specs.declared.log_records.Payload.{Payload}
use Rattle.shore_model.specs.declared.log_records.Payload.TheVariants.{Change, Commit}
use Rattle.shore_model.specs.declared.sessions.SessionState.{SessionState}
use Rattle.shore_model.specs.declared.unanswered_changes.UnansweredChange.{UnansweredChange}
use Rattle.shore_model.specs.Histories.{free}
use Rattle.shore_model.specs.Logs as logs
use Rattle.shore_model.specs.Logs.{prepare_number, previous_of, unanswered}
use Rattle.shore_logrec.specs.Text.{cost_of}
use Rattle.shore_page.specs.Room.{claim_at}
use Rattle.laws_room.specs.Claims.{Claimed, NoOthers, SlotCounts}
use Rattle.laws_room.specs.Entries.{claims_before}
use Rattle.laws_room.proofs.Entries as entries
use Rattle.laws_lives.specs.Logged.{and_record}
use Rattle.laws_lives.specs.Sessions.{SessionTxn, Sessions, in_txn, with_undo, without_txn}
use Rattle.laws_lives.specs.UndoLists.{nothing_to_undo, with_before_image}
use Rattle.laws_lives.specs.Views.{IsAmong}
use Rattle.laws_lives.proofs.Lists.{recursion-push}
use Rattle.laws_lives.proofs.UnansweredChanges.{unanswered_other, unanswered_own}
use Rattle.laws_calls.specs.Resolves.{rollback_number}
use Rattle.laws_calls.specs.StateChanges.{begun, committed}
use Rattle.laws_calls.specs.States.{State, cost_of_log, page_slots}
use Rattle.shore_txn.specs.ActiveTxns.{IsBegun, OneBecomes, OneLeaves, session_txns, with_entry}
use Rattle.shore_txn.specs.Numbers.{first_with}
use Rattle.shore_txn.specs.Transactions.{HasNoTxnOf, IsUnchanged, next_in, prepared_in, room_in, undos_in}
use Rattle.shore_txn.specs.Transactions as table
use Rattle.shore_txn.specs.TxnStates.{is_in_doubt}
use Rattle.shore_txn.specs.Txns.{IsAfterChange, IsOf, SameTxn, as_session_txn, decided_of, entries_of, first_of, global_of, last_of, number_of, prepare_of, prepared_of, state_of}
use Rattle.shore_txn.specs.UndoEntries.{HaveClaims, image_of, images_of}
use Rattle.shore_txn.specs.declared.log_room.LogRoom.{LogRoom}
use Rattle.shore_txn.specs.declared.transactions.Transactions.{Transactions}
use Rattle.shore_txn.specs.declared.txn.Txn.{Txn}
use Rattle.shore_txn.specs.declared.txn_state.TxnState.{TxnState}
use Rattle.shore_txn.specs.declared.undo.UndoEntry.{UndoEntry}
use Rattle.shore_txn.proofs.ActiveSteps.{becomes_so, one_of}
use Rattle.shore_txn.proofs.ActiveOthers.{each_becomes, each_left}
use Rattle.shore_txn.proofs.OneOfMany.{all_among, among_map, among_middle, once_same}
use Rattle.shore_sessions.specs.Seated.{IsNamed, IsSeated, as_rolled, rolled_in}
use Rattle.shore_sessions.specs.Standing.{HasTxns, IsLogged, as_change, changed}
use Rattle.shore_sessions.proofs.Lists.{all_by_members}
use Rattle.shore_sessions.proofs.FirstNumbers.{first_none, first_other, first_own, prepare_none, prepare_not, prepare_other}
use Rattle.shore_sessions.proofs.LogSteps.{all_higher, cost_push, previous_none, previous_other, previous_own, rollback_none, rollback_not, rollback_other, room_on, room_still, unanswered_none}
use Rattle.shore_sessions.proofs.Permuted.{made_without}
use Rattle.shore_sessions.proofs.Rolled.{undecided}
use Rattle.shore_sessions.proofs.SeatSteps.{StaysSeated, change_seated, its_seats, named_still, same_seated, seat_told, seated_still, seats_same}

-- a record of another transaction leaves its own as they are
pub logged_beside : (log : List LogRecord) (r : LogRecord) (u : Txn) → r.txn ≢ number_of u → IsLogged log u → IsLogged (log ++ r ∷ []) u
logged_beside log r u other is = record {
  first = is.first ∙ sym (first_other (number_of u) log r other);
  last = is.last ∙ sym (previous_other (number_of u) log r other);
  changes = unanswered_other (number_of u) log r other ∙ is.changes;
  claims = is.claims;
  prepare = is.prepare ∙ sym (prepare_other (number_of u) log r other);
  unprepared = is.unprepared;
  decided = is.decided ∙ sym (rollback_other (number_of u) log r other);
}

-- its entries, the newest first, with one more
pub changes_push : (es : List UndoEntry) (e : UndoEntry) → reverse (map as_change (es ++ e ∷ [])) ≡ as_change e ∷ reverse (map as_change es)
changes_push es e = ap reverse (map-append as_change es (e ∷ [])) ∙ reverse-append (map as_change es) (as_change e ∷ [])

-- what a log has of a transaction stays if its number, its entries, its name and the numbers of its records do
pub record StaysLogged (t u : Txn) : Type 0 where
  pub txn : number_of u ≡ number_of t
  pub first : first_of u ≡ first_of t
  pub last : last_of u ≡ last_of t
  pub entries : entries_of u ≡ entries_of t
  pub global : global_of u ≡ global_of t
  pub prepare : prepare_of u ≡ prepare_of t
  pub decided : decided_of u ≡ decided_of t

pub logged_still : (log : List LogRecord) (t u : Txn) → StaysLogged t u → IsLogged log t → IsLogged log u
logged_still log t u same is = record {
  first = same.first ∙ is.first ∙ ap (λ n. logs.first_of n log) (sym same.txn);
  last = same.last ∙ is.last ∙ ap (λ n. previous_of n log) (sym same.txn);
  changes = ap (λ n. unanswered n log) same.txn ∙ is.changes ∙ ap (λ (es : List UndoEntry). reverse (map as_change es)) (sym same.entries);
  claims = subst HaveClaims (sym same.entries) is.claims;
  prepare = same.prepare ∙ is.prepare ∙ ap (λ n. prepare_number n log) (sym same.txn);
  unprepared = λ none. same.prepare ∙ is.unprepared (sym same.global ∙ none);
  decided = same.decided ∙ is.decided ∙ ap (λ n. rollback_number n log) (sym same.txn);
}

pub same_logged : (t u : Txn) → SameTxn t u → StaysLogged t u
same_logged t u same = record { txn = same.txn; first = same.first; last = same.last; entries = same.entries; global = same.name.global; prepare = same.name.prepare; decided = same.name.decided }

-- no rollback of one is decided in which a session is
pub unrolled : (t : Txn) → IsNamed t → t.is_seated ≡ true → as_rolled t ≡ None
unrolled t is seated = undecided t (λ rolled. clash (sym seated ∙ (is.left rolled).0))
  where
    clash : true ≡ false → ⊥
    clash e = cc

-- ---- steps

module _ (old new : Transactions) (s : State) (was : HasTxns old s) where
  pub each_was : (t : Txn) → IsAmong t (table.txns_in old) → IsLogged s.log t
  each_was t m = all_among (IsLogged s.log) (table.txns_in old) t was.each m

  pub names_were : (t : Txn) → IsAmong t (table.txns_in old) → IsNamed t
  names_were t m = all_among IsNamed (table.txns_in old) t was.names m

  -- no record is of a transaction to come
  pub above_pushed : (a : SessionTxn) (p : Payload) → IsAmong a s.sessions.active → next_in new ≡ next_in old → AllByRecursion (λ r. r.txn < next_in new) (and_record a.txn s.log p)
  above_pushed a p m next =
      let r : LogRecord = record { txn = a.txn; previous = previous_of a.txn s.log; payload = p } in
      subst (λ n. AllByRecursion (λ (x : LogRecord). x.txn < n) (and_record a.txn s.log p)) (sym next)
      (recursion-push (λ (x : LogRecord). x.txn < next_in old) s.log r was.above (all_among (λ (b : SessionTxn). b.txn < next_in old) (undos_in old) a old.below (subst (IsAmong a) was.active m)))

  pub above_still : next_in new ≡ next_in old → AllByRecursion (λ r. r.txn < next_in new) s.log
  above_still next = subst (λ n. AllByRecursion (λ (r : LogRecord). r.txn < n) s.log) (sym next) was.above

  -- ---- one goes on, and is as it was to its session and by its name

  module _ (t : State) (seats : (n : ℕ) → t.sessions.seats n ≡ s.sessions.seats n) (prepared : t.sessions.prepared ≡ s.sessions.prepared) (doubts : prepared_in new ≡ prepared_in old)
      (number : t.sessions.next_txn ≡ s.sessions.next_txn) (next : next_in new ≡ next_in old) where
    pub txns_on : {one_number : ℕ} → OneBecomes one_number StaysSeated (table.txns_in old) (table.txns_in new) → t.sessions.active ≡ undos_in new
        → t.stream_bytes + (room_in new).kept ≡ cost_of_log t.log + (room_in new).stream_bytes → AllByRecursion (IsLogged t.log) (table.txns_in new)
        → AllByRecursion (λ r. r.txn < next_in new) t.log → HasTxns new t
    txns_on one undos room each above = record {
      active = undos;
      prepared = subst (λ ps. IsPermutation ps (prepared_in new)) (sym prepared) (subst (IsPermutation s.sessions.prepared) (sym doubts) was.prepared);
      seats = all_by_members (IsSeated t.sessions) (table.txns_in new)
          (each_becomes (IsSeated s.sessions) (IsSeated t.sessions) old.numbers (its_seats old s.sessions was.seats) one
          (λ u other is. seats_same s.sessions t.sessions seats u is)
          (λ is. seats_same s.sessions t.sessions seats one.after (seated_still s.sessions one.before one.after one.becomes is)));
      entered = entered_still;
      names = all_by_members IsNamed (table.txns_in new) (each_becomes IsNamed IsNamed old.numbers names_were one (λ u other is. is) (named_still one.before one.after one.becomes));
      next = number ∙ was.next ∙ sym next;
      room = room;
      each = each;
      above = above;
    }
      where
        entered_still : (n : ℕ) → (t.sessions.seats n).txn < next_in new
        entered_still n = subst (λ k. (t.sessions.seats n).txn < k) (sym next) (subst (λ (p : SessionState). p.txn < next_in old) (sym (seats n)) (was.entered n))

  -- .. and what a log has of each stays
  pub txns_still : (t : State) {one_number : ℕ} → OneBecomes one_number StaysLogged (table.txns_in old) (table.txns_in new) → OneBecomes one_number StaysSeated (table.txns_in old) (table.txns_in new)
      → t.sessions.active ≡ undos_in new → ((n : ℕ) → t.sessions.seats n ≡ s.sessions.seats n) → t.sessions.prepared ≡ s.sessions.prepared → prepared_in new ≡ prepared_in old
      → t.sessions.next_txn ≡ s.sessions.next_txn → t.stream_bytes ≡ s.stream_bytes → t.log ≡ s.log → next_in new ≡ next_in old → room_in new ≡ room_in old → HasTxns new t
  txns_still t logged one undos seats prepared doubts number bytes log next room =
      txns_on t seats prepared doubts number next one undos
      (room_still bytes (ap (λ (r : LogRoom). r.kept) room) (ap cost_of_log log) (ap (λ (r : LogRoom). r.stream_bytes) room) was.room)
      (subst (λ l. AllByRecursion (IsLogged l) (table.txns_in new)) (sym log)
      (all_by_members (IsLogged s.log) (table.txns_in new)
      (each_becomes (IsLogged s.log) (IsLogged s.log) old.numbers each_was logged (λ u other is. is) (logged_still s.log logged.before logged.after logged.becomes))))
      (subst (λ (l : List LogRecord). AllByRecursion (λ r. r.txn < next_in new) l) (sym log) (above_still next))

  -- nothing but memory has changed
  pub txns_same : {one_number : ℕ} → OneBecomes one_number SameTxn (table.txns_in old) (table.txns_in new) → undos_in new ≡ undos_in old → prepared_in new ≡ prepared_in old → next_in new ≡ next_in old
      → room_in new ≡ room_in old → HasTxns new s
  txns_same one undos doubts next room =
      txns_still s (becomes_so same_logged one) (becomes_so same_seated one) (was.active ∙ sym undos) (λ n. refl) refl doubts refl refl refl next room

  -- nothing has changed
  pub txns_unchanged : IsUnchanged old new → HasTxns new s
  txns_unchanged same = record {
    active = was.active ∙ ap session_txns (sym same.txns);
    prepared = subst (λ ts. IsPermutation s.sessions.prepared (prepared_of ts)) (sym same.txns) was.prepared;
    seats = subst (AllByRecursion (IsSeated s.sessions)) (sym same.txns) was.seats;
    entered = λ n. subst (λ k. (s.sessions.seats n).txn < k) (sym same.next) (was.entered n);
    names = subst (AllByRecursion IsNamed) (sym same.txns) was.names;
    next = was.next ∙ sym same.next;
    room = room_still refl (ap (λ (r : LogRoom). r.kept) same.room) refl (ap (λ (r : LogRoom). r.stream_bytes) same.room) was.room;
    each = subst (AllByRecursion (IsLogged s.log)) (sym same.txns) was.each;
    above = subst (λ n. AllByRecursion (λ (r : LogRecord). r.txn < n) s.log) (sym same.next) was.above;
  }

  -- ---- a transaction begins

  module _ (session : ℕ) (t : Txn) (more : table.txns_in new ≡ t ∷ table.txns_in old) (is : IsBegun (next_in old) session t) (none : HasNoTxnOf session old) where
    seat_own : (begun s session).sessions.seats session ≡ in_txn s.sessions.next_txn
    seat_own = ap (λ b. cond b (in_txn s.sessions.next_txn) (s.sessions.seats session)) (eq-eqb session session refl)

    seat_other : (n : ℕ) → session ≢ n → (begun s session).sessions.seats n ≡ s.sessions.seats n
    seat_other n other = ap (λ b. cond b (in_txn s.sessions.next_txn) (s.sessions.seats n)) (ne_eqb session n other)

    number_is : number_of t ≡ s.sessions.next_txn
    number_is = is.txn ∙ sym was.next

    is_its : (n : ℕ) → session ≡ n → IsOf n t
    is_its n same = (is.seated, is.session ∙ same)

    -- whose number a session's seat has, the one that begins or one of before
    seat_at : (n : ℕ) → ((session ≡ n) × ((begun s session).sessions.seats n ≡ in_txn s.sessions.next_txn)) ⊎ ((session ≢ n) × ((begun s session).sessions.seats n ≡ s.sessions.seats n))
    seat_at n = ⊎_elim
        (λ same. let own = eqb-true session n same in inl (own, ap (begun s session).sessions.seats (sym own) ∙ seat_own))
        (λ apart. let other = eqb-false session n apart in inr (other, seat_other n other))
        (cases_Bool (session == n))

    seated_first : IsSeated (begun s session).sessions t
    seated_first = record {
      own = λ seated.
          ap (begun s session).sessions.seats is.session ∙ seat_own ∙ ap in_txn (sym number_is)
          ∙ ap (λ (x : TxnState). record { txn = number_of t; prepared = is_in_doubt x }) (sym is.state);
      alone = λ n at. ⊎_elim
          (λ own. is_its n own.0)
          (λ other. let below = was.entered n in let same = sym (ap (λ (p : SessionState). p.txn) other.1) ∙ at ∙ is.txn in absurd (omega (arith, below, same)))
          (seat_at n);
    }

    seated_later : (u : Txn) → IsAmong u (table.txns_in old) → IsSeated s.sessions u → IsSeated (begun s session).sessions u
    seated_later u m was_seated = record {
      own = λ seated. ⊎_elim
          (λ own. absurd (none u m (seated, sym own.0)))
          (λ other. other.1 ∙ was_seated.own seated)
          (seat_at u.session);
      alone = λ n at. ⊎_elim
          (λ own.
          let below = all_among (λ (b : SessionTxn). b.txn < next_in old) (undos_in old) (as_session_txn u) old.below (among_map as_session_txn u (table.txns_in old) m) in
          let same = sym was.next ∙ sym (ap (λ (p : SessionState). p.txn) own.1) ∙ at in
          absurd (omega (arith, below, same)))
          (λ other. was_seated.alone n (ap (λ (p : SessionState). p.txn) (sym other.1) ∙ at))
          (seat_at n);
    }

    named_first : IsNamed t
    named_first = record {
      named =
          ap is_some is.global ∙ ap (λ (x : TxnState). is_in_doubt x || not (0 == 0)) (sym is.state)
          ∙ ap (λ n. is_in_doubt (state_of t) || not (n == 0)) (sym is.decided);
      left = λ rolled. absurd (clash (sym rolled ∙ ap (λ n. not (n == 0)) is.decided));
    }
      where
        clash : true ≡ false → ⊥
        clash e = cc

    begun_logged : IsLogged s.log t
    begun_logged =
        let number = is.txn in
        let some = old.some in
        let below = subst (λ n. AllByRecursion (λ (r : LogRecord). r.txn < n) s.log) (sym number) was.above in
        record {
          first = is.first ∙ sym (first_none (number_of t) s.log below);
          last = is.last ∙ sym (previous_none (number_of t) s.log (omega (arith, number, some)) below);
          changes = unanswered_none (number_of t) s.log below ∙ ap (λ (es : List UndoEntry). reverse (map as_change es)) (sym is.entries);
          claims = subst HaveClaims (sym is.entries) refl;
          prepare = is.prepare ∙ sym (prepare_none (number_of t) s.log below);
          unprepared = λ none. is.prepare;
          decided = is.decided ∙ sym (rollback_none (number_of t) s.log below);
        }

    pub txns_begun : undos_in new ≡ record { session = session; txn = next_in old; undo = nothing_to_undo } ∷ undos_in old → prepared_in new ≡ prepared_in old → next_in new ≡ next_in old + 1
        → (room_in new).kept ≡ (room_in old).kept → (room_in new).stream_bytes ≡ (room_in old).stream_bytes → HasTxns new (begun s session)
    txns_begun undos doubts next kept stream = record {
      active =
          ap (λ n. record { session = session; txn = n; undo = nothing_to_undo } ∷ s.sessions.active) was.next
          ∙ ap (λ ts. record { session = session; txn = next_in old; undo = nothing_to_undo } ∷ ts) was.active ∙ sym undos;
      prepared = subst (IsPermutation s.sessions.prepared) (sym doubts) was.prepared;
      seats = subst (AllByRecursion (IsSeated (begun s session).sessions)) (sym more)
          (seated_first, all_by_members (IsSeated (begun s session).sessions) (table.txns_in old) (λ u m. seated_later u m (its_seats old s.sessions was.seats u m)));
      entered = entered_now;
      names = subst (AllByRecursion IsNamed) (sym more) (named_first, was.names);
      next = ap (λ n. n + 1) was.next ∙ sym next;
      room = room_still refl kept refl stream was.room;
      each = subst (AllByRecursion (IsLogged s.log)) (sym more) (begun_logged, was.each);
      above = all_higher (next_in old) (next_in new) s.log (omega (arith, next)) was.above;
    }
      where
        entered_now : (n : ℕ) → ((begun s session).sessions.seats n).txn < next_in new
        entered_now n = ⊎_elim
            (λ own. let first = ap (λ (p : SessionState). p.txn) own.1 ∙ was.next in omega (arith, first, next))
            (λ other. let same = ap (λ (p : SessionState). p.txn) other.1 in let below = was.entered n in omega (arith, same, below, next))
            (seat_at n)

  -- ---- one has logged a change and made it

  pub txns_changed : (v : Version) (number : ℕ) (entry : UndoEntry) (a : SessionTxn) (image : Image) (counts : SlotCounts)
      → OneBecomes number (λ t u. IsAfterChange t entry u) (table.txns_in old) (table.txns_in new) → undos_in new ≡ with_undo a.txn (with_entry a.undo entry) (undos_in old) → prepared_in new ≡ prepared_in old
      → next_in new ≡ next_in old → (room_in new).kept ≡ (room_in old).kept + cost_of (Change entry.id entry.before image) → (room_in new).stream_bytes ≡ (room_in old).stream_bytes
      → IsAmong a s.sessions.active → a.txn ≡ number → entry.lsn ≡ 1 + length s.log → entry.before ≡ get s.sessions.records entry.id
      → Claimed v s.sessions.records s.sessions.active s.counts → NoOthers s.sessions.active a.txn entry.id → entry.claim ≡ claim_at (page_slots s entry.id.page) entry.id.slot
      → HasTxns new (changed s a entry.id image counts)
  txns_changed v its_number entry a image counts one undos doubts next kept stream m own number found claimed alone claim =
      txns_on (changed s a entry.id image counts) (λ n. refl) refl doubts refl next (becomes_so (change_seated entry) one)
      (ap (with_undo a.txn (with_before_image s.sessions.records a.undo entry.id)) was.active
      ∙ ap (λ b. with_undo a.txn (record a.undo { images = a.undo.images ++ (entry.id, b) ∷ [] }) (undos_in old)) (sym found) ∙ sym undos)
      (room_on (room_in old).kept (cost_of_log s.log) (cost_of r.payload) refl (kept ∙ ap (λ b. (room_in old).kept + cost_of (Change entry.id b image)) found) (cost_push s.log r) stream was.room)
      (all_by_members (IsLogged (s.log ++ r ∷ [])) (table.txns_in new)
      (each_becomes (IsLogged s.log) (IsLogged (s.log ++ r ∷ [])) old.numbers each_was one (λ u apart is. logged_beside s.log r u (λ same. apart (sym same ∙ own)) is) here))
      (above_pushed a (Change entry.id (get s.sessions.records entry.id) image) m next)
    where
      r : LogRecord
      r = record { txn = a.txn; previous = previous_of a.txn s.log; payload = Change entry.id (get s.sessions.records entry.id) image }

      is_one : as_session_txn one.before ≡ a
      is_one = one_of one a old.numbers (subst (IsAmong a) was.active m) own

      number_is : r.txn ≡ number_of one.after
      number_is = ap (λ (b : SessionTxn). b.txn) (sym is_one) ∙ sym one.becomes.txn

      images_now : images_of (entries_of one.after) ≡ a.undo.images ++ (entry.id, entry.before) ∷ []
      images_now =
          ap images_of one.becomes.entries ∙ map-append image_of (entries_of one.before) (entry ∷ [])
          ∙ ap (λ (b : SessionTxn). b.undo.images ++ (entry.id, entry.before) ∷ []) is_one

      -- its Change is the entry's
      change_is : as_change entry ≡ record { number = 1 + length s.log; id = entry.id; before = get s.sessions.records entry.id }
      change_is =
          ap (λ n. record { number = n; id = entry.id; before = entry.before }) number
          ∙ ap (λ (b : Image). record { number = 1 + length s.log; id = entry.id; before = b }) found

      changes_now : unanswered (number_of one.before) s.log ≡ reverse (map as_change (entries_of one.before))
          → unanswered (number_of one.after) (s.log ++ r ∷ []) ≡ reverse (map as_change (entries_of one.after))
      changes_now before =
          unanswered_own (number_of one.after) s.log r number_is
          ∙ ap (λ cs. record { number = 1 + length s.log; id = entry.id; before = get s.sessions.records entry.id } ∷ cs) (ap (λ n. unanswered n s.log) one.becomes.txn ∙ before)
          ∙ ap (λ (c : UnansweredChange). c ∷ reverse (map as_change (entries_of one.before))) (sym change_is)
          ∙ sym (changes_push (entries_of one.before) entry)
          ∙ ap (λ (es : List UndoEntry). reverse (map as_change es)) (sym one.becomes.entries)

      claims_now : HaveClaims (entries_of one.before) → HaveClaims (entries_of one.after)
      claims_now before =
          ap (map (λ (e : UndoEntry). e.claim)) one.becomes.entries ∙ map-append (λ (e : UndoEntry). e.claim) (entries_of one.before) (entry ∷ [])
          ∙ ap (λ ns. ns ++ entry.claim ∷ []) (before ∙ ap (λ (b : SessionTxn). claims_before b.undo.images) is_one)
          ∙ ap (λ n. claims_before a.undo.images ++ n ∷ []) claim
          ∙ sym (entries.changed v s.sessions.records s.sessions.active s.counts claimed a m entry.id alone)
          ∙ ap (λ b. claims_before (a.undo.images ++ (entry.id, b) ∷ [])) (sym found)
          ∙ ap claims_before (sym images_now)

      here : IsLogged s.log one.before → IsLogged (s.log ++ r ∷ []) one.after
      here before =
          let some = one.after.some in record {
            first =
                one.becomes.first ∙ ap (first_with (first_of one.before)) number ∙ ap (λ n. first_with n (1 + length s.log)) (before.first ∙ ap (λ n. logs.first_of n s.log) (sym one.becomes.txn ∙ sym number_is))
                ∙ sym (first_own s.log r) ∙ ap (λ n. logs.first_of n (s.log ++ r ∷ [])) number_is;
            last = one.becomes.last ∙ number ∙ sym (previous_own s.log r (omega (arith, number_is, some))) ∙ ap (λ n. previous_of n (s.log ++ r ∷ [])) number_is;
            changes = changes_now before.changes;
            claims = claims_now before.claims;
            prepare = one.becomes.name.prepare ∙ before.prepare ∙ ap (λ n. prepare_number n s.log) (sym one.becomes.txn) ∙ sym (prepare_not (number_of one.after) s.log r refl);
            unprepared = λ none. one.becomes.name.prepare ∙ before.unprepared (sym one.becomes.name.global ∙ none);
            decided =
                one.becomes.name.decided ∙ before.decided ∙ ap (λ n. rollback_number n s.log) (sym one.becomes.txn) ∙ sym (rollback_not (number_of one.after) s.log r refl);
          }

  -- ---- one leaves

  module _ (number : ℕ) (changes : List UndoEntry) (a : SessionTxn) (one : OneLeaves number changes (table.txns_in old) (table.txns_in new)) (m : IsAmong a s.sessions.active) (own : a.txn ≡ number) where
    pub leaver_there : IsAmong one.one (table.txns_in old)
    leaver_there = subst (IsAmong one.one) (sym one.was) (among_middle one.newer one.older one.one)

    pub leaver : as_session_txn one.one ≡ a
    leaver = once_same (λ (b : SessionTxn). b.txn) (undos_in old) old.numbers (as_session_txn one.one) a
        (among_map as_session_txn one.one (table.txns_in old) leaver_there) (subst (IsAmong a) was.active m) (one.txn ∙ sym own)

    -- its changes are those that are handed over
    pub undone : images_of changes ≡ a.undo.images
    undone = ap images_of one.entries ∙ ap (λ (b : SessionTxn). b.undo.images) leaver

    -- a record of its own is of none of the others
    pub others_logged : (p : Payload) (u : Txn) → number_of u ≢ number → IsLogged s.log u
        → IsLogged (s.log ++ record { txn = a.txn; previous = previous_of a.txn s.log; payload = p } ∷ []) u
    others_logged p u apart is = logged_beside s.log (record { txn = a.txn; previous = previous_of a.txn s.log; payload = p }) u (λ same. apart (sym same ∙ own)) is

    pub names_left : AllByRecursion IsNamed (table.txns_in new)
    names_left = all_by_members IsNamed (table.txns_in new) (each_left IsNamed IsNamed old.numbers names_were one (λ u apart is. is))

    -- .. whose sessions are in what they were in
    pub seats_left : (t : Sessions) → ((u : Txn) → IsAmong u (table.txns_in old) → number_of u ≢ number → IsSeated s.sessions u → IsSeated t u) → AllByRecursion (IsSeated t) (table.txns_in new)
    seats_left t others = all_by_members (IsSeated t) (table.txns_in new)
        (each_left (λ u. IsAmong u (table.txns_in old) × IsSeated s.sessions u) (IsSeated t) old.numbers (λ u n. (n, its_seats old s.sessions was.seats u n)) one (λ u apart is. others u is.0 apart is.1))

    module _ (seat : s.sessions.seats a.session ≡ in_txn a.txn) where
      -- it is not in doubt, and no rollback of it is decided
      pub leaver_free : IsOf a.session one.one × (is_in_doubt (state_of one.one) ≡ false)
      leaver_free = seat_told old s.sessions was.seats a (subst (IsAmong a) was.active m) seat one.one leaver_there (one.txn ∙ sym own)

      pub leaver_unrolled : as_rolled one.one ≡ None
      leaver_unrolled = unrolled one.one (names_were one.one leaver_there) leaver_free.0.0

      -- so what a resolve has decided stays
      pub rolled_left : rolled_in new ≡ rolled_in old
      rolled_left =
          ap (filter_map as_rolled) one.is ∙ sym (made_without as_rolled one.newer one.older one.one leaver_unrolled) ∙ ap (filter_map as_rolled) (sym one.was)

      -- once its session is freed, those of others are in what they were in
      module _ (t : Sessions) (freed : (n : ℕ) → t.seats n ≡ cond (a.session == n) free (s.sessions.seats n)) where
        pub others_seated : (u : Txn) → IsAmong u (table.txns_in old) → number_of u ≢ number → IsSeated s.sessions u → IsSeated t u
        others_seated u n apart was_seated = record {
          own = λ seated.
              let other : a.session ≢ u.session = λ same. apart (ap (λ (p : SessionState). p.txn) (sym (ap s.sessions.seats same ∙ was_seated.own seated) ∙ seat) ∙ own) in
              freed u.session ∙ ap (λ b. cond b free (s.sessions.seats u.session)) (ne_eqb a.session u.session other) ∙ was_seated.own seated;
          alone = λ k at. ⊎_elim
              (λ same. let some = u.some in let none = sym (ap (λ (p : SessionState). p.txn) (freed k ∙ ap (λ b. cond b free (s.sessions.seats k)) same)) ∙ at in absurd (omega (arith, some, none)))
              (λ other. was_seated.alone k (sym (ap (λ (p : SessionState). p.txn) (freed k ∙ ap (λ b. cond b free (s.sessions.seats k)) other)) ∙ at))
              (cases_Bool (a.session == k));
        }

        pub entered_less : (n : ℕ) → (t.seats n).txn < next_in old
        entered_less n = subst (λ (p : SessionState). p.txn < next_in old) (sym (freed n)) (⊎_elim
            (λ same. let some = old.some in subst (λ b. (cond b free (s.sessions.seats n)).txn < next_in old) (sym same) (omega (arith, some)))
            (λ other. subst (λ b. (cond b free (s.sessions.seats n)).txn < next_in old) (sym other) (was.entered n))
            (cases_Bool (a.session == n)))

      -- its Commit is logged
      pub txns_committed : undos_in new ≡ without_txn a.txn (undos_in old) → prepared_in new ≡ prepared_in old → next_in new ≡ next_in old → (room_in new).kept ≡ (room_in old).kept + ENDING_COST
          → (room_in new).stream_bytes ≡ (room_in old).stream_bytes → HasTxns new (committed s a)
      txns_committed undos doubts next kept stream = record {
        active = ap (without_txn a.txn) was.active ∙ sym undos;
        prepared = subst (IsPermutation s.sessions.prepared) (sym doubts) was.prepared;
        seats = seats_left (committed s a).sessions (others_seated (committed s a).sessions (λ n. refl));
        entered = λ n. subst (λ k. ((committed s a).sessions.seats n).txn < k) (sym next) (entered_less (committed s a).sessions (λ k. refl) n);
        names = names_left;
        next = was.next ∙ sym next;
        room = room_on (room_in old).kept (cost_of_log s.log) (cost_of Commit) refl kept (cost_push s.log (record { txn = a.txn; previous = previous_of a.txn s.log; payload = Commit })) stream was.room;
        each = all_by_members (IsLogged (and_record a.txn s.log Commit)) (table.txns_in new)
            (each_left (IsLogged s.log) (IsLogged (and_record a.txn s.log Commit)) old.numbers each_was one (others_logged Commit));
        above = above_pushed a Commit m next;
      }
