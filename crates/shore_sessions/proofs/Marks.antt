-- Which of the calls that wait were let through, as the list of them changes.
use Rattle.std.proofs.Common.{◌≡◌, ◌⊎◌, ◌<◌, ◌++◌, ◌∷◌, [], inl, inr, ⊎_elim, ℕ, zero, suc, List, Bool, Option, None, Some, true, false, drop, length, map, set, take, refl, ap, sym, subst, ◌∙◌, arith}
use Rattle.std.specs.Prelude.{◌==◌, if◌then◌else◌, slice_get}
use Rattle.std.proofs.lemmas.Option.{same_Some}
use Rattle.shore_model.specs.declared.requests.Request.{Request}
use Rattle.shore_locks.specs.LetThrough.{IsTold, Tells}
use Rattle.shore_locks.specs.Tables.{is_waiting}
use Rattle.shore_locks.proofs.Tellings.{told_all}
use Rattle.shore_locks.proofs.Members.{either}
use Rattle.shore_sessions.specs.Calls.{awaits_record, cycle_noted}
use Rattle.shore_sessions.specs.Waits.{AreMarked, AreMarkedBut}
use Rattle.shore_sessions.specs.declared.waits.WaitingCall.{WaitingCall}
use Rattle.shore_sessions.specs.declared.waits.Waits.{Waits}

-- ---- lists by their places

last_or_before : {A : Type 0} (xs : List A) (x w : A) (n : ℕ) → slice_get (xs ++ x ∷ []) n ≡ Some w → (slice_get xs n ≡ Some w) ⊎ ((n ≡ length xs) × (x ≡ w))
last_or_before [] x w zero e = inr (refl, same_Some x w e)
last_or_before [] x w (suc n) e = absurd cc
last_or_before (y ∷ xs) x w zero e = inl e
last_or_before (y ∷ xs) x w (suc n) e = ⊎_elim (λ a. inl a) (λ b. inr (ap suc b.0, b.1)) (last_or_before xs x w n e)

before_it : {A : Type 0} (xs ys : List A) (w : A) (n : ℕ) → slice_get xs n ≡ Some w → slice_get (xs ++ ys) n ≡ Some w
before_it [] ys w n e = absurd cc
before_it (y ∷ xs) ys w zero e = e
before_it (y ∷ xs) ys w (suc n) e = before_it xs ys w n e

at_last : {A : Type 0} (xs : List A) (x : A) → slice_get (xs ++ x ∷ []) (length xs) ≡ Some x
at_last [] x = refl
at_last (y ∷ xs) x = at_last xs x

-- the place of an element before another went
abbrev skipping : ℕ → ℕ → ℕ
skipping zero n = suc n
skipping (suc i) zero = zero
skipping (suc i) (suc n) = suc (skipping i n)

without_one : {A : Type 0} (xs : List A) (i n : ℕ) → slice_get (take i xs ++ drop (suc i) xs) n ≡ slice_get xs (skipping i n)
without_one [] zero n = refl
without_one [] (suc i) zero = refl
without_one [] (suc i) (suc n) = refl
without_one (y ∷ xs) zero n = refl
without_one (y ∷ xs) (suc i) zero = refl
without_one (y ∷ xs) (suc i) (suc n) = without_one xs i n

in_map : {A B : Type 0} (f : A → B) (xs : List A) (n : ℕ) (w : B) → slice_get (map f xs) n ≡ Some w → (v : A) × (slice_get xs n ≡ Some v) × (f v ≡ w)
in_map f [] n w e = absurd cc
in_map f (x ∷ xs) zero w e = (x, refl, same_Some (f x) w e)
in_map f (x ∷ xs) (suc n) w e = in_map f xs n w e

pub set_keeps : (flags : List Bool) (i n : ℕ) → slice_get flags n ≡ Some true → slice_get (set flags i true) n ≡ Some true
set_keeps [] i n e = absurd cc
set_keeps (x ∷ flags) zero zero e = refl
set_keeps (x ∷ flags) zero (suc n) e = e
set_keeps (x ∷ flags) (suc i) zero e = e
set_keeps (x ∷ flags) (suc i) (suc n) e = set_keeps flags i n e

pub set_marks : (flags : List Bool) (i : ℕ) → i < length flags → slice_get (set flags i true) i ≡ Some true
set_marks [] i small = absurd (omega (arith, small))
set_marks (x ∷ flags) zero small = refl
set_marks (x ∷ flags) (suc i) small = set_marks flags i (omega (arith, small))

-- ---- which are marked

-- each call that waits for a lock, and whose transaction waits no more
abbrev pub Marked : List Request → List WaitingCall → List Bool → Type 0
Marked rs calls flags = (n : ℕ) (w : WaitingCall) → slice_get calls n ≡ Some w → awaits_record w ≡ false → is_waiting w.txn rs ≡ false → slice_get flags n ≡ Some true

pub marked_more : (rs : List Request) (calls : List WaitingCall) (flags : List Bool) (call : WaitingCall) (flag : Bool) → length flags ≡ length calls → Marked rs calls flags
    → (awaits_record call ≡ false → is_waiting call.txn rs ≡ false → flag ≡ true) → Marked rs (calls ++ call ∷ []) (flags ++ flag ∷ [])
marked_more rs calls flags call flag alike marked new n w at lock gone =
    ⊎_elim
    (λ before. before_it flags (flag ∷ []) true n (marked n w before lock gone))
    (λ last. let is = new (ap awaits_record last.1 ∙ lock) (ap (λ (x : WaitingCall). is_waiting x.txn rs) last.1 ∙ gone) in
    ap (slice_get (flags ++ flag ∷ [])) (last.0 ∙ sym alike) ∙ at_last flags flag ∙ ap Some is)
    (last_or_before calls call w n at)

pub marked_without : (rs : List Request) (calls : List WaitingCall) (flags : List Bool) (i : ℕ) → Marked rs calls flags → Marked rs (take i calls ++ drop (suc i) calls) (take i flags ++ drop (suc i) flags)
marked_without rs calls flags i marked n w at lock gone = without_one flags i n ∙ marked (skipping i n) w (sym (without_one calls i n) ∙ at) lock gone

-- to be told a cycle changes nothing of what a call waits for
told_alike : (session : ℕ) (cycle : List ℕ) (v : WaitingCall) → let w = (if v.session == session then record { session = v.session; txn = v.txn; call = v.call; wait = v.wait; cycle = Some cycle } else v) in
    (w.txn ≡ v.txn) × (awaits_record w ≡ awaits_record v)
told_alike session cycle v = ⊎_elim (λ yes. rw yes (refl, refl)) (λ no. rw no (refl, refl)) (either (v.session == session))

pub marked_noted : (rs : List Request) (session : ℕ) (cycle : List ℕ) (calls : List WaitingCall) (flags : List Bool) → Marked rs calls flags → Marked rs (cycle_noted session cycle calls) flags
marked_noted rs session cycle calls flags marked n w at lock gone =
    let v = in_map (λ (x : WaitingCall). if x.session == session then record { session = x.session; txn = x.txn; call = x.call; wait = x.wait; cycle = Some cycle } else x) calls n w at in
    let alike = told_alike session cycle v.0 in
    marked n v.0 v.1 (sym alike.1 ∙ ap awaits_record v.2 ∙ lock) (ap (λ t. is_waiting t rs) (sym alike.0 ∙ ap (λ (x : WaitingCall). x.txn) v.2) ∙ gone)

-- ---- after a change of the locks

-- that told who was let through
pub marked_but_told : (waits : Waits) (old new : List Request) (told now : Option (List ℕ)) → AreMarked old waits → Tells old new told now → AreMarkedBut now new waits
marked_but_told waits old new told now marked tells n w at lock gone =
    ⊎_elim
    (λ still. inr (subst (IsTold w.txn) (sym tells.2) (told_all tells.0 told w.txn ((tells.1.each w.txn).1 (still, gone)))))
    (λ no. inl (marked n w at lock no))
    (either (is_waiting w.txn old))

-- .. or told only that there may be others
pub marked_but_others : (waits : Waits) (new : List Request) (now : Option (List ℕ)) → now ≡ None → AreMarkedBut now new waits
marked_but_others waits new now others n w at lock gone = inr (subst (IsTold w.txn) (sym others) tt)

-- .. or let nobody through
pub marked_still : (waits : Waits) (old new : List Request) → AreMarked old waits → ((u : ℕ) → is_waiting u old ≡ true → is_waiting u new ≡ true) → AreMarked new waits
marked_still waits old new marked keeps n w at lock gone =
    ⊎_elim
    (λ still. absurd (let f : true ≡ false = sym (keeps w.txn still) ∙ gone in cc))
    (λ no. marked n w at lock no)
    (either (is_waiting w.txn old))
