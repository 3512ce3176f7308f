-- Behind its locks the state alone decides what a call comes to.
use Rattle.std.proofs.Common.{◌≡◌, ◌≢◌, ◌⊎◌, inl, inr, ⊎_elim, ℕ, List, [], ◌∷◌, Some, None, refl, sym, ap, subst, ◌∙◌, Ok, Err}
use Rattle.std.specs.FinMap.{get}
use Rattle.std.specs.Prelude.{IsSome, Result}
use Rattle.shore_types.specs.Images.{Image}
use Rattle.shore_types.specs.declared.faults.Device.TheVariants.{Volume}
use Rattle.shore_types.specs.declared.faults.Fault.{Fault}
use Rattle.shore_types.specs.declared.faults.Fault.TheVariants as fault
use Rattle.shore_types.specs.declared.ids.Rid.{Rid}
use Rattle.shore_types.specs.declared.layout.Geometry.{Geometry}
use Rattle.shore_model.specs.declared.calls.Answer.{Answer}
use Rattle.shore_model.specs.declared.calls.Answer.TheVariants.{Got, Inserted}
use Rattle.shore_model.specs.declared.calls.Call.{Call}
use Rattle.shore_model.specs.declared.calls.Call.TheVariants as call
use Rattle.shore_path.specs.declared.answers.Acquired.{Acquired}
use Rattle.shore_path.specs.declared.answers.Acquired.TheVariants as acquire
use Rattle.laws_room.specs.Claims.{Grows, SlotCounts}
use Rattle.laws_lives.specs.Sessions.{SessionTxn}
use Rattle.shore_model.specs.declared.step.Step.{Step}
use Rattle.shore_model.specs.declared.step.Step.TheVariants.{Done, Nothing, Refused, Waits}
use Rattle.laws_calls.proofs.Decided.{IsOrdinary, no_record_both, ordinary}
use Rattle.laws_calls.proofs.Rows.{AllPass, FirstFails, Test, before_or_same, none_fails, one_fails, same_growth, test}
use Rattle.laws_calls.proofs.SessionInversions.{same_fault}
use Rattle.laws_calls.specs.StateChanges.{CanLog, ComesOfState, FitsAt, IsPageFault, after_refusal, answered}
use Rattle.laws_calls.specs.CallSteps.{AnswersBehind, Finds, HasPlace, IsPlaceOf, RefusesBehind, RefusesRead, ServesTxn, behind_place, place_outcome}
use Rattle.laws_calls.specs.States.{State}

-- ---- steps that are compared

-- two steps that both come of the state alone; or a step that is no lack of memory, and itself
abbrev pub Comparable : Step → Step → Type 0
Comparable x y = (ComesOfState x × ComesOfState y) ⊎ ((x ≡ y) × (x ≢ Refused fault.Memory))

-- they are one, and leave one state
abbrev pub AreOne : Step → Step → State → State → Type 0
AreOne x y new later = (x ≡ y) × (new ≡ later)

pub left_no_memory : (x y : Step) → Comparable x y → x ≢ Refused fault.Memory
left_no_memory x y (inl h) e = (subst ComesOfState e h.0).0 refl
left_no_memory x y (inr h) e = h.1 e

pub right_no_memory : (x y : Step) → Comparable x y → y ≢ Refused fault.Memory
right_no_memory x y (inl h) e = (subst ComesOfState e h.1).0 refl
right_no_memory x y (inr h) e = h.1 (h.0 ∙ e)

pub done_refused : (P : Type 0) (answer : Answer) (f : Fault) → Comparable (Done answer) (Refused f) → (ComesOfState (Refused f) → ⊥) → P
done_refused P answer f (inl h) none = absurd (none h.1)
done_refused P answer f (inr h) none = let clash = h.0 in absurd cc

pub refused_done : (P : Type 0) (f : Fault) (answer : Answer) → Comparable (Refused f) (Done answer) → (ComesOfState (Refused f) → ⊥) → P
refused_done P f answer (inl h) none = absurd (none h.0)
refused_done P f answer (inr h) none = let clash = h.0 in absurd cc

pub faults_one : (f h : Fault) → Comparable (Refused f) (Refused h) → (ComesOfState (Refused f) → ComesOfState (Refused h) → f ≡ h) → f ≡ h
faults_one f h (inl x) same = same x.0 x.1
faults_one f h (inr x) same = same_fault f h x.0

pub not_page_fault : (s : State) (f : Fault) → ComesOfState (Refused f) → IsPageFault s f → ⊥
not_page_fault s f c (inl e) = c.1 e
not_page_fault s f c (inr (inl h)) = c.2 Volume h.0 h.1
not_page_fault s f c (inr (inr h)) = c.3 h.0 h.1

-- a fault that comes of the state alone is none of a page
no_own : (s : State) (f : Fault) → IsOrdinary f → IsPageFault s f → ⊥
no_own s f is h = not_page_fault s f (ordinary f is) h

some_found : (o : Image) (x : List ℕ) → o ≡ Some x → IsSome o
some_found o x e = cc

got_same : (x y : List ℕ) (o : Image) → o ≡ Some x → o ≡ Some y → Got x ≡ Got y
got_same x y o d e = cc

module _ (g : Geometry) (l : State) (a : SessionTxn) where
  one_place : (store : ℕ) (bytes : List ℕ) (x y : Rid) → IsPlaceOf g l a.txn store bytes x → IsPlaceOf g l a.txn store bytes y → x ≡ y
  one_place store bytes x y h k =
      ⊎_elim
      (λ before. absurd (k.lowest x before h.serves))
      (⊎_elim (λ before. absurd (h.lowest y before k.serves)) (λ same. same))
      (before_or_same x y (h.serves.of_store ∙ sym k.serves.of_store))

  -- ---- the tests behind the locks

  abbrev find_tests : Rid → List Test → List Test
  find_tests id more = test (Finds l id) fault.NoRecord ∷ more

  abbrev place_tests : ℕ → List ℕ → List Test
  place_tests store bytes =
      test (((id : Rid) → ServesTxn g l a.txn store bytes id → ⊥) → ⊥) fault.StoreFull ∷ test ((id : Rid) × HasPlace g l a store bytes id) fault.LockTableFull
      ∷ test ((id : Rid) × HasPlace g l a store bytes id × CanLog l id (Some bytes)) fault.LogFull ∷ []

  abbrev behind_tests : Call → List Test
  behind_tests (call.Get id) = find_tests id []
  behind_tests (call.GetForUpdate id) = find_tests id []
  behind_tests (call.Insert store bytes) = place_tests store bytes
  behind_tests (call.Update id bytes) = find_tests id (test (FitsAt g.version l id (Some bytes)) fault.StoreFull ∷ test (CanLog l id (Some bytes)) fault.LogFull ∷ [])
  behind_tests (call.Delete id) = find_tests id (test (CanLog l id None) fault.LogFull ∷ [])
  behind_tests _ = []

  read_fails : (id : Rid) (more : List Test) (f : Fault) → ComesOfState (Refused f) → RefusesRead l id f → FirstFails (find_tests id more) f
  read_fails id more fault.NoRecord c h = inl (λ there. no_record_both (get l.sessions.records id) there h, refl)
  read_fails id more f c h = absurd (not_page_fault l f c h)

  not_both : (o : Result Acquired Fault) → o ≡ Ok acquire.Done → o ≡ Err fault.LockTableFull → ⊥
  not_both o d e = cc

  insert_fails : (store : ℕ) (bytes : List ℕ) (f : Fault) (new : State) → ComesOfState (Refused f) → RefusesBehind g l a (call.Insert store bytes) f new
      → FirstFails (place_tests store bytes) f
  insert_fails store bytes f new c (inl h) = inl (λ some. some h.1, h.0)
  insert_fails store bytes f new c (inr (inl h)) =
      inr (
        λ none. none h.1.0 h.1.1.serves,
        inl (λ other. not_both (place_outcome l a h.1.0).answer (subst (λ id. (place_outcome l a id).answer ≡ Ok acquire.Done) (one_place store bytes other.0 h.1.0 other.1.0 h.1.1) other.1.1) h.1.2, h.0),
      )
  insert_fails store bytes f new c (inr (inr (inl h))) =
      inr (
        λ none. none h.1.0 h.1.1.0.serves,
        inr ((h.1.0, h.1.1), inl (λ other. h.1.2 (subst (λ id. CanLog l id (Some bytes)) (one_place store bytes other.0 h.1.0 other.1.0 h.1.1.0) other.2), h.0)),
      )
  insert_fails store bytes f new c (inr (inr (inr h))) = absurd (not_page_fault l f c h.0)

  update_fails : (id : Rid) (bytes : List ℕ) (f : Fault) (new : State) → ComesOfState (Refused f) → RefusesBehind g l a (call.Update id bytes) f new
      → FirstFails (behind_tests (call.Update id bytes)) f
  update_fails id bytes f new c h = by h.0
    where
      by : RefusesRead l id f ⊎ ((f ≡ fault.StoreFull) × Finds l id × (FitsAt g.version l id (Some bytes) → ⊥))
          ⊎ ((f ≡ fault.LogFull) × Finds l id × FitsAt g.version l id (Some bytes) × (CanLog l id (Some bytes) → ⊥)) → FirstFails (behind_tests (call.Update id bytes)) f
      by (inl x) = read_fails id (test (FitsAt g.version l id (Some bytes)) fault.StoreFull ∷ test (CanLog l id (Some bytes)) fault.LogFull ∷ []) f c x
      by (inr (inl x)) = inr (x.1, inl (x.2, x.0))
      by (inr (inr x)) = inr (x.1, inr (x.2, inl (x.3, x.0)))

  delete_fails : (id : Rid) (f : Fault) (new : State) → ComesOfState (Refused f) → RefusesBehind g l a (call.Delete id) f new → FirstFails (behind_tests (call.Delete id)) f
  delete_fails id f new c h = by h.0
    where
      by : RefusesRead l id f ⊎ ((f ≡ fault.LogFull) × Finds l id × (CanLog l id None → ⊥)) → FirstFails (behind_tests (call.Delete id)) f
      by (inl x) = read_fails id (test (CanLog l id None) fault.LogFull ∷ []) f c x
      by (inr x) = inr (x.1, inl (x.2, x.0))

  behind_fails : (c : Call) (f : Fault) (new : State) → ComesOfState (Refused f) → RefusesBehind g l a c f new → FirstFails (behind_tests c) f
  behind_fails (call.Get id) f new o h = read_fails id [] f o h.0
  behind_fails (call.GetForUpdate id) f new o h = read_fails id [] f o h.0
  behind_fails (call.Insert store bytes) f new o h = insert_fails store bytes f new o h
  behind_fails (call.Update id bytes) f new o h = update_fails id bytes f new o h
  behind_fails (call.Delete id) f new o h = delete_fails id f new o h
  behind_fails (call.Scan store) f new o h = absurd (not_page_fault l f o h.0)
  behind_fails _ f new o h = absurd h

  behind_passes : (c : Call) (answer : Answer) (new : State) → AnswersBehind g l a c answer new → AllPass (behind_tests c)
  behind_passes (call.Get id) answer new h = (some_found (get l.sessions.records id) h.0.0 h.0.1, tt)
  behind_passes (call.GetForUpdate id) answer new h = (some_found (get l.sessions.records id) h.0.0 h.0.1, tt)
  behind_passes (call.Insert store bytes) answer new h = (λ none. none h.0 h.1.0.serves, ((h.0, h.1), ((h.0, h.1, h.3.1.logs), tt)))
  behind_passes (call.Update id bytes) answer new h = (h.0, (h.2.1.fits, (h.2.1.logs, tt)))
  behind_passes (call.Delete id) answer new h = (h.0, (h.2.1.logs, tt))
  behind_passes (call.Scan store) answer new h = tt
  behind_passes (call.Lock at mode) answer new h = tt
  behind_passes (call.TryLock at mode) answer new h = tt
  behind_passes _ answer new h = absurd h

  -- ---- one answer

  plain : (c : Call) (x y : Answer) (new later : State) (m n : SlotCounts) → x ≡ y → m ≡ n → new ≡ answered l a c x m → later ≡ answered l a c y n → (x ≡ y) × (new ≡ later)
  plain c x y new later m n same counts h k = (same, h ∙ ap (λ v. answered l a c v m) same ∙ ap (λ v. answered l a c y v) counts ∙ sym k)

  inserted_one : (store : ℕ) (bytes : List ℕ) (x y : Answer) (new later : State) → AnswersBehind g l a (call.Insert store bytes) x new
      → AnswersBehind g l a (call.Insert store bytes) y later → (x ≡ y) × (new ≡ later)
  inserted_one store bytes x y new later h k =
      let c : Call = call.Insert store bytes in
      let id : h.0 ≡ k.0 = one_place store bytes h.0 k.0 h.1.0 k.1.0 in
      let same : x ≡ y = h.2 ∙ ap Inserted id ∙ sym k.2 in
      let counts : h.3.0 ≡ k.3.0 = same_growth l.counts h.3.0 k.3.0 h.0 h.3.1.grows (subst (Grows l.counts k.3.0) (sym id) k.3.1.grows) in (
        same,
        h.3.2 ∙ ap (λ i. answered (behind_place l a i) a c x h.3.0) id ∙ ap (λ v. answered (behind_place l a k.0) a c v h.3.0) same
            ∙ ap (λ v. answered (behind_place l a k.0) a c y v) counts ∙ sym k.3.2,
      )

  one_answer : (c : Call) (x y : Answer) (new later : State) → AnswersBehind g l a c x new → AnswersBehind g l a c y later → (x ≡ y) × (new ≡ later)
  one_answer (call.Get id) x y new later h k =
      plain (call.Get id) x y new later l.counts l.counts (h.0.2 ∙ got_same h.0.0 k.0.0 (get l.sessions.records id) h.0.1 k.0.1 ∙ sym k.0.2) refl h.1 k.1
  one_answer (call.GetForUpdate id) x y new later h k =
      plain (call.GetForUpdate id) x y new later l.counts l.counts (h.0.2 ∙ got_same h.0.0 k.0.0 (get l.sessions.records id) h.0.1 k.0.1 ∙ sym k.0.2) refl h.1 k.1
  one_answer (call.Insert store bytes) x y new later h k = inserted_one store bytes x y new later h k
  one_answer (call.Update id bytes) x y new later h k =
      plain (call.Update id bytes) x y new later h.2.0 k.2.0 (h.1 ∙ sym k.1) (same_growth l.counts h.2.0 k.2.0 id h.2.1.grows k.2.1.grows) h.2.2 k.2.2
  one_answer (call.Delete id) x y new later h k =
      plain (call.Delete id) x y new later h.2.0 k.2.0 (h.1 ∙ sym k.1) (same_growth l.counts h.2.0 k.2.0 id h.2.1.grows k.2.1.grows) h.2.2 k.2.2
  one_answer (call.Scan store) x y new later h k = plain (call.Scan store) x y new later l.counts l.counts (h.0 ∙ sym k.0) refl h.1 k.1
  one_answer (call.Lock at mode) x y new later h k = plain (call.Lock at mode) x y new later l.counts l.counts (h.0 ∙ sym k.0) refl h.1 k.1
  one_answer (call.TryLock at mode) x y new later h k = plain (call.TryLock at mode) x y new later l.counts l.counts (h.0 ∙ sym k.0) refl h.1 k.1
  one_answer _ x y new later h k = absurd h

  -- ---- one state after a refusal

  -- what a refused insert leaves, by its fault
  abbrev InsertLeaves : ℕ → List ℕ → Fault → State → Type 0
  InsertLeaves store bytes fault.StoreFull new = new ≡ l
  InsertLeaves store bytes fault.LockTableFull new = (id : Rid) × IsPlaceOf g l a.txn store bytes id × (new ≡ behind_place l a id)
  InsertLeaves store bytes fault.LogFull new = (id : Rid) × IsPlaceOf g l a.txn store bytes id × (new ≡ behind_place l a id)
  InsertLeaves store bytes f new = new ≡ after_refusal f l

  page_leaves : (store : ℕ) (bytes : List ℕ) (f : Fault) (new : State) → IsPageFault l f → new ≡ after_refusal f l → InsertLeaves store bytes f new
  page_leaves store bytes fault.StoreFull new h is = absurd (no_own l fault.StoreFull tt h)
  page_leaves store bytes fault.LockTableFull new h is = absurd (no_own l fault.LockTableFull tt h)
  page_leaves store bytes fault.LogFull new h is = absurd (no_own l fault.LogFull tt h)
  page_leaves store bytes f new h is = is

  insert_leaves : (store : ℕ) (bytes : List ℕ) (f : Fault) (new : State) → RefusesBehind g l a (call.Insert store bytes) f new → InsertLeaves store bytes f new
  insert_leaves store bytes f new (inl h) = subst (λ (x : Fault). InsertLeaves store bytes x new) (sym h.0) h.2
  insert_leaves store bytes f new (inr (inl h)) = subst (λ (x : Fault). InsertLeaves store bytes x new) (sym h.0) (h.1.0, h.1.1, h.1.3)
  insert_leaves store bytes f new (inr (inr (inl h))) = subst (λ (x : Fault). InsertLeaves store bytes x new) (sym h.0) (h.1.0, h.1.1.0, h.1.3)
  insert_leaves store bytes f new (inr (inr (inr h))) = page_leaves store bytes f new h.0 h.1

  one_insert_leaves : (store : ℕ) (bytes : List ℕ) (f : Fault) (new later : State) → InsertLeaves store bytes f new → InsertLeaves store bytes f later → new ≡ later
  one_insert_leaves store bytes fault.StoreFull new later h k = h ∙ sym k
  one_insert_leaves store bytes fault.LockTableFull new later h k = h.2 ∙ ap (behind_place l a) (one_place store bytes h.0 k.0 h.1 k.1) ∙ sym k.2
  one_insert_leaves store bytes fault.LogFull new later h k = h.2 ∙ ap (behind_place l a) (one_place store bytes h.0 k.0 h.1 k.1) ∙ sym k.2
  one_insert_leaves store bytes f new later h k = h ∙ sym k

  one_left : (c : Call) (f : Fault) (new later : State) → RefusesBehind g l a c f new → RefusesBehind g l a c f later → new ≡ later
  one_left (call.Get id) f new later h k = h.1 ∙ sym k.1
  one_left (call.GetForUpdate id) f new later h k = h.1 ∙ sym k.1
  one_left (call.Insert store bytes) f new later h k = one_insert_leaves store bytes f new later (insert_leaves store bytes f new h) (insert_leaves store bytes f later k)
  one_left (call.Update id bytes) f new later h k = h.1 ∙ sym k.1
  one_left (call.Delete id) f new later h k = h.1 ∙ sym k.1
  one_left (call.Scan store) f new later h k = h.1 ∙ sym k.1
  one_left _ f new later h k = absurd h

  -- ---- one step

  -- an answer or a refusal behind the locks
  abbrev pub StepsBehind : Call → Step → State → Type 0
  StepsBehind c (Done answer) new = AnswersBehind g l a c answer new
  StepsBehind c (Refused f) new = RefusesBehind g l a c f new
  StepsBehind c (Waits wait) new = ⊥
  StepsBehind c Nothing new = ⊥

  pub one_behind : (c : Call) (x y : Step) (new later : State) → Comparable x y → StepsBehind c x new → StepsBehind c y later → AreOne x y new later
  one_behind c (Done x) (Done y) new later both h k = let one = one_answer c x y new later h k in (ap Done one.0, one.1)
  one_behind c (Done x) (Refused f) new later both h k =
      done_refused (AreOne (Done x) (Refused f) new later) x f both (λ o. none_fails (behind_tests c) f (behind_fails c f later o k) (behind_passes c x new h))
  one_behind c (Refused f) (Done y) new later both h k =
      refused_done (AreOne (Refused f) (Done y) new later) f y both (λ o. none_fails (behind_tests c) f (behind_fails c f new o h) (behind_passes c y later k))
  one_behind c (Refused e) (Refused f) new later both h k =
      let same = faults_one e f both (λ o p. one_fails (behind_tests c) e f (behind_fails c e new o h) (behind_fails c f later p k)) in
      (ap Refused same, one_left c e new later h (subst (λ (x : Fault). RefusesBehind g l a c x later) (sym same) k))
  one_behind c (Waits wait) y new later both h k = absurd h
  one_behind c Nothing y new later both h k = absurd h
  one_behind c (Done x) (Waits wait) new later both h k = absurd k
  one_behind c (Done x) Nothing new later both h k = absurd k
  one_behind c (Refused e) (Waits wait) new later both h k = absurd k
  one_behind c (Refused e) Nothing new later both h k = absurd k
