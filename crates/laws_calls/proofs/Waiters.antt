-- Who waits in the lock table is under way.
use Rattle.std.proofs.Common.{◌≡◌, ◌≢◌, ⊎_elim, ℕ, List, true, false, cond, refl, sym, ap, subst, ◌∙◌}
use Rattle.std.specs.Prelude.{◌==◌}
use Rattle.std.proofs.lemmas.Bool.{cases_Bool, eqb-false, eqb-true}
use Rattle.shore_model.specs.declared.requests.Request.{Request}
use Rattle.shore_model.specs.declared.sessions.SessionState.{SessionState}
use Rattle.shore_model.specs.Histories.{free}
use Rattle.shore_locks.specs.Grants.{released}
use Rattle.shore_locks.specs.Orderly.{IsOrderly}
use Rattle.shore_locks.specs.Tables.{is_waiting}
use Rattle.shore_path.specs.Acquires.{OthersOnlyGranted}
use Rattle.laws_locks.proofs.Waiting.{others_stay_quiet, released_stay_quiet}
use Rattle.laws_lives.specs.Sessions.{SessionTxn, Sessions, in_txn, with_undo, without_txn}
use Rattle.laws_lives.specs.UndoLists.{UndoList}
use Rattle.laws_lives.specs.Views.{IsAmong}
use Rattle.laws_lives.proofs.Members.{member_stays}
use Rattle.laws_calls.proofs.Unwinding.{its_list, other_list, with_list}
use Rattle.laws_calls.specs.LockedStates.{AreUnderWay}
use Rattle.laws_calls.specs.States.{HasSeat}

pub other_seat : (seats : ℕ → SessionState) (m n : ℕ) (p : SessionState) → m ≢ n → cond (m == n) p (seats n) ≡ seats n
other_seat seats m n p apart = elim (m == n) as (λ b. (m == n) ≡ b → cond b p (seats n) ≡ seats n) [ true ↦ λ e. absurd (apart (eqb-true m n e)) | false ↦ λ e. refl ] refl

-- nobody waits in the table
pub none_wait : (rs : List Request) (s : Sessions) → ((t : ℕ) → is_waiting t rs ≡ false) → AreUnderWay rs s
none_wait rs s none t waits = let quiet = none t in let clash = sym waits ∙ quiet in absurd cc

-- one that waits now waited before, if nobody began to
waited : (rs new : List Request) (t : ℕ) → (is_waiting t rs ≡ false → is_waiting t new ≡ false) → is_waiting t new ≡ true → is_waiting t rs ≡ true
waited rs new t quiet waits = ⊎_elim (λ before. before) (λ not_before. let clash = sym waits ∙ quiet not_before in absurd cc) (cases_Bool (is_waiting t rs))

pub nobody_begins : (rs new : List Request) (s : Sessions) → ((t : ℕ) → is_waiting t rs ≡ false → is_waiting t new ≡ false) → AreUnderWay rs s → AreUnderWay new s
nobody_begins rs new s quiet k t waits = k t (waited rs new t (quiet t) waits)

-- only a transaction began to wait that is under way, and its session's
pub one_begins : (rs new : List Request) (s : Sessions) (a : SessionTxn) → OthersOnlyGranted rs new a.txn → HasSeat s a → AreUnderWay rs s → AreUnderWay new s
one_begins rs new s a others mem k u waits = ⊎_elim
    (λ same. (a, mem, sym (eqb-true u a.txn same)))
    (λ other. k u (waited rs new u (others_stay_quiet rs new a.txn u others (eqb-false u a.txn other)) waits))
    (cases_Bool (u == a.txn))

-- a transaction has another undo list
pub with_other_undo : (rs : List Request) (s : Sessions) (t : ℕ) (undo : UndoList) → AreUnderWay rs s → AreUnderWay rs (record s { active = with_undo t undo s.active })
with_other_undo rs s t undo k u waits =
    let was = k u waits in
    ⊎_elim
    (λ same. (with_list was.0 undo, (subst (λ n. IsAmong (with_list was.0 undo) (with_undo n undo s.active)) (eqb-true was.0.txn t same) (its_list was.0 undo s.active was.1.0), was.1.1, was.1.2), was.2))
    (λ other. (was.0, (other_list t undo was.0 s.active was.1.0 (eqb-false was.0.txn t other), was.1.1, was.1.2), was.2))
    (cases_Bool (was.0.txn == t))

-- one that does not wait is under way no more
pub without_quiet : (rs : List Request) (s : Sessions) (t : ℕ) → is_waiting t rs ≡ false → AreUnderWay rs s → AreUnderWay rs (record s { active = without_txn t s.active })
without_quiet rs s t quiet k u waits =
    let was = k u waits in
    (was.0, (member_stays t was.0 s.active was.1.0 (λ same. let clash = sym waits ∙ (ap (λ x. is_waiting x rs) (sym was.2 ∙ same) ∙ quiet) in absurd cc), was.1.1, was.1.2), was.2)

-- .. and its session is free
pub freed_quiet : (rs : List Request) (s : Sessions) (a : SessionTxn) → s.seats a.session ≡ in_txn a.txn → is_waiting a.txn rs ≡ false → AreUnderWay rs s
    → AreUnderWay rs (record s { active = without_txn a.txn s.active; seats = λ n. cond (a.session == n) free (s.seats n) })
freed_quiet rs s a seat quiet k u waits =
    let was = without_quiet rs s a.txn quiet k u waits in
    let apart : a.session ≢ was.0.session = λ same.
    let number : a.txn ≡ was.0.txn = ap (λ (p : SessionState). p.txn) (sym seat ∙ ap s.seats same ∙ was.1.1) in
    let clash = sym waits ∙ (ap (λ x. is_waiting x rs) (sym was.2 ∙ sym number) ∙ quiet) in absurd cc in
    (was.0, (was.1.0, other_seat s.seats a.session was.0.session free apart ∙ was.1.1, was.1.2), was.2)

-- a session's seat is another one, and it is in no transaction that waits
pub seat_moved : (rs : List Request) (s : Sessions) (session : ℕ) (seat : SessionState) → ((a : SessionTxn) → HasSeat s a → is_waiting a.txn rs ≡ true → a.session ≢ session) → AreUnderWay rs s
    → AreUnderWay rs (record s { seats = λ n. cond (session == n) seat (s.seats n) })
seat_moved rs s session seat none k u waits =
    let was = k u waits in
    let apart : session ≢ was.0.session = λ same. none was.0 was.1 (subst (λ t. is_waiting t rs ≡ true) (sym was.2) waits) (sym same) in
    (was.0, (was.1.0, other_seat s.seats session was.0.session seat apart ∙ was.1.1, was.1.2), was.2)

-- a transaction has given its locks back
pub released_under_way : (rs : List Request) (s : Sessions) (t : ℕ) → IsOrderly rs → AreUnderWay rs s → AreUnderWay (released t rs) s
released_under_way rs s t orderly = nobody_begins rs (released t rs) s (λ u quiet. released_stay_quiet rs t u orderly quiet)
