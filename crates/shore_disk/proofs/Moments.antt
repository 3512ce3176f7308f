-- How what holds of each image that a crash leaves goes on over calls.
use Rattle.std.proofs.Common.{◌≡◌, ◌⊎◌, inl, inr, ⊎_elim, ℕ, ◌≤◌, List, [], ◌∷◌, ◌++◌, length, Result, Ok, Err, refl, sym, ◌∙◌, ap, subst, arith, append_assoc, length-append}
use Rattle.shore_disk.specs.Device.{Call, wrote, synced, DeviceHistory, Torn, seen_after, LeftAfter, LeftSince, seen, may_leave, moment, left_since, noted, Writes, Syncs, LeavesOnly}

-- the bytes as read are among the images
pub seen_left : (first : List ℕ) (calls : List Call) → LeftAfter first calls (seen_after first calls)
seen_left first [] = refl
seen_left first (wrote at bytes ∷ older) = (seen_after first older, seen_left first older, inr (bytes, refl, refl))
seen_left first (synced ∷ older) = refl

-- now is one of the moments since any other
now_since : (first : List ℕ) (calls : List Call) (t : ℕ) (c : List ℕ) → LeftAfter first calls c → LeftSince first calls t c
now_since first [] t c left = left
now_since first (call ∷ older) t c left = inl left

-- since now there is no other
only_now : (first : List ℕ) (calls : List Call) (c : List ℕ) → LeftSince first calls (length calls) c → LeftAfter first calls c
only_now first [] c left = left
only_now first (call ∷ older) c (inl now) = now
only_now first (call ∷ older) c (inr past) = let le : length (call ∷ older) ≤ length older = past.0 in absurd (omega arith)

-- a moment since t is one of those since a later moment, or it stands before that
split : (first : List ℕ) (more calls : List Call) (t : ℕ) (c : List ℕ) → t ≤ length calls → LeftSince first (more ++ calls) t c
    → LeftSince first (more ++ calls) (length calls) c ⊎ LeftSince first calls t c
split first [] calls t c le left = inr left
split first (call ∷ more) calls t c le (inl now) = inl (inl now)
split first (call ∷ more) calls t c le (inr past) =
    let longer : length calls ≤ length (more ++ calls) = omega (arith, length-append more calls) in
    ⊎_elim (λ late. inl (inr (longer, late))) (λ early. inr early) (split first more calls t c le past.1)

-- before the first call
pub started : (h : DeviceHistory) (P : List ℕ → Type 0) → ((c : List ℕ) → may_leave h c → P c) → LeavesOnly h h P
started h P here = record { later = ([], refl); each = λ c left. here c (only_now h.first h.calls c left) }

-- a run, and then another
pub joined : (a b c : DeviceHistory) (P : List ℕ → Type 0) → LeavesOnly a b P → LeavesOnly b c P → LeavesOnly a c P
joined a b c P one two =
    let m = one.later.0 in
    let n = two.later.0 in
    let is : c ≡ record { first = a.first; calls = n ++ b.calls } = two.later.1 ∙ ap (λ (h : DeviceHistory). record { first = h.first; calls = n ++ b.calls }) one.later.1 in
    let calls_are : b.calls ≡ m ++ a.calls = ap (λ (h : DeviceHistory). h.calls) one.later.1 in
    let long : moment a ≤ moment b = omega (arith, ap length calls_are, length-append m a.calls) in
    record {
      later = (n ++ m, is ∙ ap (λ (l : List Call). record { first = a.first; calls = l }) (ap (λ (l : List Call). n ++ l) calls_are ∙ sym (append_assoc n m a.calls)));
      each = λ i left.
          let here : LeftSince b.first (n ++ b.calls) (moment a) i = subst (λ (h : DeviceHistory). left_since h (moment a) i) two.later.1 left in
          ⊎_elim (λ late. two.each i (subst (λ (h : DeviceHistory). left_since h (moment b) i) (sym two.later.1) late))
          (λ early. one.each i early)
          (split b.first n b.calls (moment a) i long here);
    }

pub widened : (a b : DeviceHistory) (P Q : List ℕ → Type 0) → LeavesOnly a b P → ((c : List ℕ) → P c → Q c) → LeavesOnly a b Q
widened a b P Q one to = record { later = one.later; each = λ c left. to c (one.each c left) }

-- what holds over a run holds at its end
pub at_end : (a b : DeviceHistory) (P : List ℕ → Type 0) → LeavesOnly a b P → (c : List ℕ) → may_leave b c → P c
at_end a b P one c left = one.each c (now_since b.first b.calls (moment a) c left)

-- one call
one_call : (old : DeviceHistory) (call : Call) (P : List ℕ → Type 0) → ((c : List ℕ) → may_leave old c → P c) → ((c : List ℕ) → may_leave (noted old call) c → P c) → LeavesOnly old (noted old call) P
one_call old call P before after = record {
  later = (call ∷ [], refl);
  each = λ c left. ⊎_elim (λ now. after c now) (λ past. before c (only_now old.first old.calls c past.1)) left;
}

pub write_leaves : {E : Type 0} (at : ℕ) (bytes : List ℕ) (r : Result Unit E) (old new : DeviceHistory) (P : List ℕ → Type 0) → Writes at bytes r old new
    → ((c d : List ℕ) → may_leave old d → Torn at (length bytes) d c → P c) → LeavesOnly old new P
write_leaves {E = E} at bytes r old new P writes torn = elim (cases r writes) [
  | inl same ↦ subst (λ (h : DeviceHistory). LeavesOnly old h P) (sym same) (started old P before)
  | inr w ↦ subst (λ (h : DeviceHistory). LeavesOnly old h P) (sym w.2) (one_call old (wrote at w.0) P before (λ c left. torn c left.0 left.1 (subst (λ n. Torn at n left.0 c) w.1 left.2)))
]
  where
    before : (c : List ℕ) → may_leave old c → P c
    before c left = torn c c left (inl refl)

    cases : (r : Result Unit E) → Writes at bytes r old new → (new ≡ old) ⊎ ((torn : List ℕ) × (length torn ≡ length bytes) × (new ≡ noted old (wrote at torn)))
    cases (Ok u) w = inr (bytes, refl, w)
    cases (Err e) w = w

pub sync_leaves : {E : Type 0} (r : Result Unit E) (old new : DeviceHistory) (P : List ℕ → Type 0) → Syncs r old new → ((c : List ℕ) → may_leave old c → P c) → LeavesOnly old new P
sync_leaves (Ok u) old new P is before =
    subst (λ (h : DeviceHistory). LeavesOnly old h P) (sym is) (one_call old synced P before (λ c left. subst P (sym left) (before (seen old) (seen_left old.first old.calls))))
sync_leaves (Err e) old new P is before = subst (λ (h : DeviceHistory). LeavesOnly old h P) (sym is) (started old P before)
