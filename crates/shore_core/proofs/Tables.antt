-- What the parts of a core tell of the state that it is in.
use Rattle.std.proofs.Common.{inl, inr, ◌≡◌, ◌+◌, ◌*◌, ◌≤◌, ◌++◌, ◌∷◌, [], List, ℕ, Bool, true, false, Option, None, Some, IsSomeAnd, IfSome, is_some, refl, sym, ap, ◌∙◌, subst, arith, length, length-append}
use Rattle.std.specs.List.{AllByRecursion}
use Rattle.std.specs.Option.{IfNone}
use Rattle.std.proofs.lemmas.List.{append_assoc}
use Rattle.std.proofs.lemmas.List.Sorted.{length_permutation}
use Rattle.shore_types.specs.declared.layout.TheConstants.{ENDING_COST, GREATEST_CHECKPOINT, LAST_LSN, LONGEST_FRAME}
use Rattle.shore_model.specs.declared.log_records.LogRecord.{LogRecord}
use Rattle.laws_lives.specs.Views.{IsAmong}
use Rattle.laws_room.specs.LogRooms.{owed_by_all}
use Rattle.shore_txn.specs.Transactions.{prepared_in, room_in, undos_in}
use Rattle.laws_calls.specs.States.{HasRoomFor, State}
use Rattle.shore_sessions.specs.declared.control.Control.{Control}
use Rattle.shore_sessions.specs.Controls.{txns_in}
use Rattle.shore_sessions.specs.Standing.{HasControl}
use Rattle.shore_core.specs.Parts.{HasParts}

pub none_some : {A : Type 0} (x : A) → None ≡ Some x → ⊥
none_some x clash = cc

pub some_and : {A : Type 0} (P : A → Type 0) (o : Option A) → IsSomeAnd o P → (x : A) × (o ≡ Some x) × P x
some_and P (Some x) holds = (x, refl, holds)
some_and P None holds = absurd holds

pub some_or : {A : Type 0} (P : A → Type 0) (Q R : Type 0) (o : Option A) → IfSome o P → IfNone o Q → ((x : A) → P x → R) → (Q → R) → R
some_or P Q R (Some x) holds none by other = by x holds
some_or P Q R None holds none by other = other none

pub each_among : {A : Type 0} (P : A → Type 0) (xs : List A) → AllByRecursion P xs → (x : A) → IsAmong x xs → P x
each_among P [] all x m = absurd m
each_among P (y ∷ xs) all x (inl same) = subst P same all.0
each_among P (y ∷ xs) all x (inr m) = each_among P xs all.1 x m

pub from_each : {A : Type 0} (P : A → Type 0) (xs : List A) → ((x : A) → IsAmong x xs → P x) → AllByRecursion P xs
from_each P [] each = tt
from_each P (y ∷ xs) each = (each y (inl refl), from_each P xs (λ x m. each x (inr m)))

-- ---- the parts

-- another control stands for another state with the same log
pub parts_moved : (control new : Control) (waiting : List LogRecord) (durable : ℕ) (failed : Bool) (before : List LogRecord) (s later : State) → HasParts control waiting durable failed before s
    → HasControl new later → later.log ≡ s.log → later.durable ≡ s.durable → later.failed ≡ s.failed → HasParts new waiting durable failed before later
parts_moved control new waiting durable failed before s later was has log told fails =
    record { stands = has; log = log ∙ was.log; durable_is = told ∙ was.durable_is; failed_is = fails ∙ was.failed_is }

-- .. or for one with a record more
pub parts_logged : (control new : Control) (waiting : List LogRecord) (durable : ℕ) (failed : Bool) (before : List LogRecord) (s later : State) (r : LogRecord)
    → HasParts control waiting durable failed before s → HasControl new later → later.log ≡ s.log ++ r ∷ [] → later.durable ≡ s.durable → later.failed ≡ s.failed
    → HasParts new (waiting ++ r ∷ []) durable failed before later
parts_logged control new waiting durable failed before s later r was has log told fails =
    record { stands = has; log = log ∙ ap (λ l. l ++ r ∷ []) was.log ∙ append_assoc before waiting (r ∷ []); durable_is = told ∙ was.durable_is; failed_is = fails ∙ was.failed_is }

-- ---- room

module _ (control : Control) (waiting : List LogRecord) (durable : ℕ) (failed : Bool) (before : List LogRecord) (s : State) (was : HasParts control waiting durable failed before s)
    (first : ℕ) (number : first ≡ 1 + length before) (need : ℕ) where
  abbrev pub Admitted : Type 0
  Admitted = (first + length waiting ≤ LAST_LSN)
      × ((room_in (txns_in control)).kept + (room_in (txns_in control)).reserved + need + LONGEST_FRAME + GREATEST_CHECKPOINT ≤ (room_in (txns_in control)).stream_bytes)

  log_length : length s.log ≡ length before + length waiting
  log_length = ap length was.log ∙ length-append before waiting

  pub next_is : 1 + length s.log ≡ first + length waiting
  next_is = omega (arith, number, log_length)

  pub reserved_is : owed_by_all s.sessions.active + ENDING_COST * length s.sessions.prepared ≡ (room_in (txns_in control)).reserved
  reserved_is =
      ap (λ undos. owed_by_all undos + ENDING_COST * length s.sessions.prepared) was.stands.txns.active
      ∙ ap (λ n. owed_by_all (undos_in (txns_in control)) + ENDING_COST * n) (sym (length_permutation s.sessions.prepared (prepared_in (txns_in control)) was.stands.txns.prepared))
      ∙ sym (txns_in control).sum

  pub has_room : Admitted → HasRoomFor s need
  has_room h = (omega (arith, h.0, next_is), omega (arith, h.1, was.stands.txns.room, reserved_is))

  pub has_no_room : (Admitted → ⊥) → ¬ HasRoomFor s need
  has_no_room h room = h (omega (arith, room.0, next_is), omega (arith, room.1, was.stands.txns.room, reserved_is))

-- ---- what the search for a session's transaction told

pub none_told : {A : Type 0} {P : Type 0} (o : Option A) → is_some o ≡ false → IfNone o P → P
none_told None is holds = holds
none_told (Some x) is holds = absurd (true_false is)
  where
    true_false : true ≡ false → ⊥
    true_false clash = cc

pub some_told : {A : Type 0} (P : A → Type 0) (o : Option A) → is_some o ≡ true → IfSome o P → (x : A) × P x
some_told P (Some x) is holds = (x, holds)
some_told P None is holds = absurd (false_true is)
  where
    false_true : false ≡ true → ⊥
    false_true clash = cc

pub both_told : {A : Type 0} (P Q : A → Type 0) (o : Option A) → IfSome o P → IfSome o Q → IfSome o (λ x. P x × Q x)
both_told P Q (Some x) p q = (p, q)
both_told P Q None p q = tt

pub no_such : {A : Type 0} (o : Option A) → ((x : A) → o ≡ Some x → ⊥) → o ≡ None
no_such None never = refl
no_such (Some x) never = absurd (never x refl)
