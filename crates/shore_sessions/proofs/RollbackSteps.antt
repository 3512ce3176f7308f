-- What savepoints, rollbacks and their endings make of the transactions under way.
use Rattle.std.proofs.Common.{◌≡◌, ◌≢◌, ◌+◌, ◌<◌, ◌++◌, ◌∷◌, [], ℕ, List, Bool, true, false, cond, drop, refl, sym, ap, subst, ◌∙◌, arith, length, map, take}
use Rattle.std.specs.Prelude.{reverse}
use Rattle.std.specs.List.{AllByRecursion}
use Rattle.std.specs.List.Sorted.{IsPermutation}
use Rattle.std.proofs.lemmas.List.{append-nil, map-append, take-append-drop}
use Rattle.shore_types.specs.Images.{Image}
use Rattle.shore_types.specs.declared.ids.Rid.{Rid}
use Rattle.shore_types.specs.declared.layout.TheConstants.{ENDING_COST}
use Rattle.shore_model.specs.declared.log_records.LogRecord.{LogRecord}
use Rattle.shore_model.specs.declared.log_records.Payload.TheVariants.{Compensation, End}
use Rattle.shore_model.specs.declared.unanswered_changes.UnansweredChange.{UnansweredChange}
use Rattle.shore_model.specs.Histories.{free}
use Rattle.shore_model.specs.Logs as logs
use Rattle.shore_model.specs.Logs.{prepare_number, previous_of, unanswered, undo_next_of}
use Rattle.shore_logrec.specs.Text.{cost_of}
use Rattle.laws_room.specs.Entries.{claim_before, claims_before}
use Rattle.laws_room.specs.LogRooms.{compensation_cost}
use Rattle.laws_room.proofs.Costs.{compensation_bytes}
use Rattle.laws_room.proofs.Entries.{before_push}
use Rattle.laws_lives.specs.Logged.{and_record, next_to_undo}
use Rattle.laws_lives.specs.LogTells.{MatchesUndo}
use Rattle.laws_lives.specs.Sessions.{SessionTxn, in_txn, with_undo, without_txn}
use Rattle.laws_lives.specs.UndoLists.{undo_rolled}
use Rattle.laws_lives.specs.Views.{IsAmong}
use Rattle.shore_model.specs.declared.rollbacks.Rollback.{Rollback}
use Rattle.laws_lives.proofs.UnansweredChanges.{unanswered_own}
use Rattle.laws_calls.specs.Resolves.{rollback_number}
use Rattle.laws_calls.specs.States.{State, cost_of_log}
use Rattle.shore_txn.specs.ActiveTxns.{OneBecomes, OneLeaves}
use Rattle.shore_txn.specs.Numbers.{first_with}
use Rattle.shore_txn.specs.Transactions.{next_in, prepared_in, room_in, undos_in}
use Rattle.shore_txn.specs.Transactions as table
use Rattle.shore_txn.specs.TxnStates.{is_in_doubt}
use Rattle.shore_txn.specs.Txns.{IsAfterSavepoint, IsAfterUndo, IsBackAt, as_session_txn, entries_of, first_of, number_of, state_of}
use Rattle.shore_txn.specs.UndoEntries.{first_number, image_of, images_of, number_behind}
use Rattle.shore_txn.specs.declared.transactions.Transactions.{Transactions}
use Rattle.shore_txn.specs.declared.txn.Txn.{Txn}
use Rattle.shore_txn.specs.declared.undo.UndoEntry.{UndoEntry}
use Rattle.shore_txn.proofs.ActiveOthers.{each_becomes, each_left}
use Rattle.shore_txn.proofs.ActiveSteps.{one_of}
use Rattle.shore_txn.proofs.OneOfMany.{among_middle}
use Rattle.shore_txn.proofs.UndoLemmas.{last_same}
use Rattle.shore_sessions.specs.Seated.{IsSeated}
use Rattle.shore_sessions.specs.Standing.{HasTxns, IsLogged, abort_ended, as_change, put_back}
use Rattle.shore_sessions.proofs.Lists.{all_by_members, reverse-cons}
use Rattle.shore_sessions.proofs.FirstNumbers.{first_own, prepare_not}
use Rattle.shore_sessions.proofs.LogSteps.{cost_push, previous_own, rollback_not, room_on, room_still}
use Rattle.shore_sessions.proofs.SeatSteps.{undo_seated}
use Rattle.shore_sessions.proofs.TxnSteps.{StaysLogged, above_pushed, above_still, changes_push, each_was, entered_less, logged_beside, names_left, others_logged, others_seated, seats_left, txns_on}

-- ---- what a log has of each stays

pub savepoint_logged : (t u : Txn) → IsAfterSavepoint t u → StaysLogged t u
savepoint_logged t u after = record { txn = after.txn; first = after.first; last = after.last; entries = after.entries; global = after.name.global; prepare = after.name.prepare; decided = after.name.decided }

pub back_logged : (index : ℕ) (t u : Txn) → IsBackAt index t u → StaysLogged t u
back_logged index t u after = record { txn = after.txn; first = after.first; last = after.last; entries = after.entries; global = after.name.global; prepare = after.name.prepare; decided = after.name.decided }

-- all images stay if none is since the savepoint
pub all_left : (mark : ℕ) (images : List (Rid × Image)) → drop mark images ≡ [] → take mark images ≡ images
all_left mark images none = sym (append-nil (take mark images)) ∙ ap (λ l. take mark images ++ l) (sym none) ∙ take-append-drop mark images

pub turned_map : {A B : Type 0} (f : A → B) (xs : List A) → reverse (map f xs) ≡ map f (reverse xs)
turned_map f [] = refl
turned_map f (x ∷ xs) =
    reverse-cons (f x) (map f xs) ∙ ap (λ l. l ++ f x ∷ []) (turned_map f xs) ∙ sym (map-append f (reverse xs) (x ∷ [])) ∙ ap (map f) (sym (reverse-cons x xs))

-- ---- what a log tells of a transaction

-- the number behind the newest
pub undo_next_logged : (log : List LogRecord) (t : Txn) → IsLogged log t → number_behind (entries_of t) ≡ next_to_undo (number_of t) log
undo_next_logged log t is =
    sym (ap (λ (cs : List UnansweredChange). undo_next_of (drop 1 cs)) (is.changes ∙ turned_map as_change (entries_of t)) ∙ behind (reverse (entries_of t)))
  where
    first : (es : List UndoEntry) → undo_next_of (map as_change es) ≡ first_number es
    first [] = refl
    first (e ∷ es) = refl

    behind : (es : List UndoEntry) → undo_next_of (drop 1 (map as_change es)) ≡ first_number (drop 1 es)
    behind [] = refl
    behind (e ∷ es) = first es

pub images_logged : (log : List LogRecord) (t : Txn) → IsLogged log t → MatchesUndo log (number_of t) (images_of (entries_of t))
images_logged log t is =
    ap (map pair) (is.changes ∙ turned_map as_change (entries_of t)) ∙ alike (reverse (entries_of t)) ∙ sym (turned_map image_of (entries_of t))
  where
    pair : UnansweredChange → Rid × Image
    pair c = (c.id, c.before)

    alike : (es : List UndoEntry) → map pair (map as_change es) ≡ map image_of es
    alike [] = refl
    alike (e ∷ es) = ap (λ l. image_of e ∷ l) (alike es)

-- one becomes another in this way too
pub becomes_of : {number : ℕ} {B C : Txn → Txn → Type 0} {old new : List Txn} (one : OneBecomes number B old new) → C one.before one.after → OneBecomes number C old new
becomes_of one so = record { newer = one.newer; older = one.older; before = one.before; after = one.after; was = one.was; is = one.is; txn = one.txn; becomes = so }

-- ---- the newest change is put back

module _ (old new : Transactions) (s : State) (was : HasTxns old s) where
  module _ (its_number lsn : ℕ) (rollback : Rollback) (undone : UndoEntry) (a : SessionTxn) (kept : List (Rid × Image))
      (one : OneBecomes its_number (IsAfterUndo lsn rollback undone) (table.txns_in old) (table.txns_in new)) (m : IsAmong a s.sessions.active) (own : a.txn ≡ its_number)
      (newest : a.undo.images ≡ kept ++ image_of undone ∷ []) where
    is_one : as_session_txn one.before ≡ a
    is_one = one_of one a old.numbers (subst (IsAmong a) was.active m) own

    images_were : images_of (entries_of one.before) ≡ images_of (entries_of one.after) ++ image_of undone ∷ []
    images_were = ap images_of one.becomes.entries ∙ map-append image_of (entries_of one.after) (undone ∷ [])

    left_is : images_of (entries_of one.after) ≡ kept
    left_is = (last_same (images_of (entries_of one.after)) kept (image_of undone) (image_of undone) (sym images_were ∙ ap (λ (b : SessionTxn). b.undo.images) is_one ∙ newest)).0

    claims_split : (map (λ (e : UndoEntry). e.claim) (entries_of one.after) ≡ claims_before (images_of (entries_of one.after))) × (undone.claim ≡ claim_before (images_of (entries_of one.after)) (image_of undone))
    claims_split =
        last_same (map (λ (e : UndoEntry). e.claim) (entries_of one.after)) (claims_before (images_of (entries_of one.after))) undone.claim (claim_before (images_of (entries_of one.after)) (image_of undone))
        (sym (ap (map (λ (e : UndoEntry). e.claim)) one.becomes.entries ∙ map-append (λ (e : UndoEntry). e.claim) (entries_of one.after) (undone ∷ []))
        ∙ (each_was old new s was one.before (subst (IsAmong one.before) (sym one.was) (among_middle one.newer one.older one.before))).claims
        ∙ ap claims_before images_were ∙ before_push (images_of (entries_of one.after)) (image_of undone))

    -- the claim beside it is what the slot claims then
    pub claim_back : undone.claim ≡ claim_before kept (image_of undone)
    claim_back = claims_split.1 ∙ ap (λ l. claim_before l (image_of undone)) left_is

    pub txns_put_back : (cost : ℕ) → (l : List (Rid × Image)) × (a.undo.images ≡ l ++ image_of undone ∷ []) × (undos_in new ≡ with_undo a.txn (undo_rolled a.undo l rollback) (undos_in old))
        → is_in_doubt (state_of one.before) ≡ false → prepared_in new ≡ prepared_in old → next_in new ≡ next_in old → cost ≡ compensation_cost undone.before → (room_in new).kept ≡ (room_in old).kept + cost → (room_in new).stream_bytes ≡ (room_in old).stream_bytes
        → lsn ≡ 1 + length s.log → HasTxns new (put_back s a kept (image_of undone) rollback)
    txns_put_back cost undos free doubts next costs kept_more stream number =
        txns_on old new s was (put_back s a kept (image_of undone) rollback) (λ n. refl) refl doubts refl next
        (becomes_of one (undo_seated lsn rollback undone one.before one.after free one.becomes))
        (ap (with_undo a.txn (undo_rolled a.undo kept rollback)) was.active
        ∙ ap (λ l. with_undo a.txn (undo_rolled a.undo l rollback) (undos_in old)) (last_same kept undos.0 (image_of undone) (image_of undone) (sym newest ∙ undos.1)).0 ∙ sym undos.2)
        (room_on (room_in old).kept (cost_of_log s.log) (cost_of r.payload) refl (kept_more ∙ ap (λ n. (room_in old).kept + n) (costs ∙ compensation_bytes undone.id undone.before (next_to_undo a.txn s.log)))
        (cost_push s.log r) stream was.room)
        (all_by_members (IsLogged (s.log ++ r ∷ [])) (table.txns_in new)
        (each_becomes (IsLogged s.log) (IsLogged (s.log ++ r ∷ [])) old.numbers (each_was old new s was) one (λ u apart is. logged_beside s.log r u (λ same. apart (sym same ∙ own)) is) here))
        (above_pushed old new s was a (Compensation undone.id undone.before (next_to_undo a.txn s.log)) m next)
      where
        r : LogRecord
        r = record { txn = a.txn; previous = previous_of a.txn s.log; payload = Compensation undone.id undone.before (next_to_undo a.txn s.log) }

        number_is : r.txn ≡ number_of one.after
        number_is = ap (λ (b : SessionTxn). b.txn) (sym is_one) ∙ sym one.becomes.txn

        here : IsLogged s.log one.before → IsLogged (s.log ++ r ∷ []) one.after
        here before =
            let some = one.after.some in record {
              first =
                  one.becomes.first ∙ ap (first_with (first_of one.before)) number ∙ ap (λ n. first_with n (1 + length s.log)) (before.first ∙ ap (λ n. logs.first_of n s.log) (sym one.becomes.txn ∙ sym number_is))
                  ∙ sym (first_own s.log r) ∙ ap (λ n. logs.first_of n (s.log ++ r ∷ [])) number_is;
              last = one.becomes.last ∙ number ∙ sym (previous_own s.log r (omega (arith, number_is, some))) ∙ ap (λ n. previous_of n (s.log ++ r ∷ [])) number_is;
              changes =
                  unanswered_own (number_of one.after) s.log r number_is
                  ∙ ap (drop 1) (ap (λ n. unanswered n s.log) one.becomes.txn ∙ before.changes ∙ ap (λ (es : List UndoEntry). reverse (map as_change es)) one.becomes.entries ∙ changes_push (entries_of one.after) undone);
              claims = claims_split.0;
              prepare = one.becomes.name.prepare ∙ before.prepare ∙ ap (λ n. prepare_number n s.log) (sym one.becomes.txn) ∙ sym (prepare_not (number_of one.after) s.log r refl);
              unprepared = λ none. one.becomes.name.prepare ∙ before.unprepared (sym one.becomes.name.global ∙ none);
              decided =
                  one.becomes.name.decided ∙ before.decided ∙ ap (λ n. rollback_number n s.log) (sym one.becomes.txn) ∙ sym (rollback_not (number_of one.after) s.log r refl);
            }

  -- ---- a rollback has ended

  module _ (number : ℕ) (changes : List UndoEntry) (a : SessionTxn) (one : OneLeaves number changes (table.txns_in old) (table.txns_in new)) (m : IsAmong a s.sessions.active) (own : a.txn ≡ number)
      (undos : undos_in new ≡ without_txn a.txn (undos_in old)) (doubts : prepared_in new ≡ prepared_in old) (next : next_in new ≡ next_in old)
      (stream : (room_in new).stream_bytes ≡ (room_in old).stream_bytes) where
    pub record IsEnded (t : State) (log : List LogRecord) : Type 0 where
      pub active : t.sessions.active ≡ without_txn a.txn s.sessions.active
      pub prepared : t.sessions.prepared ≡ s.sessions.prepared
      pub seats : (u : Txn) → IsAmong u (table.txns_in old) → number_of u ≢ number → IsSeated s.sessions u → IsSeated t.sessions u
      pub entered : (n : ℕ) → (t.sessions.seats n).txn < next_in old
      pub number_to_come : t.sessions.next_txn ≡ s.sessions.next_txn
      pub bytes : t.stream_bytes ≡ s.stream_bytes
      pub log_is : t.log ≡ log

    ended : (t : State) (log : List LogRecord) → IsEnded t log → s.stream_bytes + (room_in new).kept ≡ cost_of_log log + (room_in new).stream_bytes → AllByRecursion (IsLogged log) (table.txns_in new)
        → AllByRecursion (λ r. r.txn < next_in new) log → HasTxns new t
    ended t log is room each above = record {
      active = is.active ∙ ap (without_txn a.txn) was.active ∙ sym undos;
      prepared = subst (λ ps. IsPermutation ps (prepared_in new)) (sym is.prepared) (subst (IsPermutation s.sessions.prepared) (sym doubts) was.prepared);
      seats = seats_left old new s was number changes a one m own t.sessions is.seats;
      entered = λ n. subst (λ k. (t.sessions.seats n).txn < k) (sym next) (is.entered n);
      names = names_left old new s was number changes a one m own;
      next = is.number_to_come ∙ was.next ∙ sym next;
      room = room_still is.bytes refl (ap cost_of_log is.log_is) refl room;
      each = subst (λ l. AllByRecursion (IsLogged l) (table.txns_in new)) (sym is.log_is) each;
      above = subst (λ (l : List LogRecord). AllByRecursion (λ r. r.txn < next_in new) l) (sym is.log_is) above;
    }

    -- .. and its End is logged
    pub txns_ended : (t : State) → IsEnded t (and_record a.txn s.log End) → (room_in new).kept ≡ (room_in old).kept + ENDING_COST → HasTxns new t
    txns_ended t is kept =
        let r : LogRecord = record { txn = a.txn; previous = previous_of a.txn s.log; payload = End } in
        ended t (and_record a.txn s.log End) is (room_on (room_in old).kept (cost_of_log s.log) (cost_of r.payload) refl kept (cost_push s.log r) stream was.room)
        (all_by_members (IsLogged (and_record a.txn s.log End)) (table.txns_in new)
        (each_left (IsLogged s.log) (IsLogged (and_record a.txn s.log End)) old.numbers (each_was old new s was) one (others_logged old new s was number changes a one m own End)))
        (above_pushed old new s was a End m next)

    -- .. or nothing is
    pub txns_gone : (t : State) → IsEnded t s.log → (room_in new).kept ≡ (room_in old).kept → HasTxns new t
    txns_gone t is kept =
        ended t s.log is (room_still refl kept refl stream was.room)
        (all_by_members (IsLogged s.log) (table.txns_in new) (each_left (IsLogged s.log) (IsLogged s.log) old.numbers (each_was old new s was) one (λ u apart is. is)))
        (above_still old new s was next)

    pub txns_aborted : s.sessions.seats a.session ≡ in_txn a.txn → (logged : Bool) → (room_in new).kept ≡ (room_in old).kept + cond logged ENDING_COST 0 → HasTxns new (abort_ended s a logged)
    txns_aborted seat true kept =
        txns_ended (abort_ended s a true) (record {
          active = refl;
          prepared = refl;
          seats = others_seated old new s was number changes a one m own seat (abort_ended s a true).sessions (λ n. refl);
          entered = entered_less old new s was number changes a one m own seat (abort_ended s a true).sessions (λ n. refl);
          number_to_come = refl;
          bytes = refl;
          log_is = refl;
        }) kept
    txns_aborted seat false kept =
        txns_gone (abort_ended s a false) (record {
          active = refl;
          prepared = refl;
          seats = others_seated old new s was number changes a one m own seat (abort_ended s a false).sessions (λ n. refl);
          entered = entered_less old new s was number changes a one m own seat (abort_ended s a false).sessions (λ n. refl);
          number_to_come = refl;
          bytes = refl;
          log_is = refl;
        }) (let same : (room_in new).kept ≡ (room_in old).kept = omega (arith, kept) in same)
