-- Walks and cycles: their members, their parts, and what makes one list's cycles cycles of another.
use Rattle.std.proofs.Common.{◌≡◌, ◌++◌, ◌⊎◌, inl, inr, ⊎_elim, ℕ, List, [], ◌∷◌, refl, sym, subst}
use Rattle.std.specs.Prelude.{◌==◌, Contains}
use Rattle.std.proofs.lemmas.Bool.Decides.{Decides-eqb}
use Rattle.std.proofs.lemmas.List.{append-nil}
use Rattle.shore_model.specs.declared.requests.Request.{Request}
use Rattle.shore_model.specs.Requests.{HasNoCycle, IsCycle, WaitsFor, Walk}
use Rattle.shore_locks.specs.Laws.{of_others}
use Rattle.shore_locks.proofs.Members.{In, Contains-In, In-Contains, In-append, In-left, In-right, either}
use Rattle.shore_cycles.specs.Cycles.{ComeOnce}
use Rattle.shore_cycles.proofs.Edges.{waits_apart, clash}

-- each member of a walk waits
walker_waits : (rs : List Request) (t : ℕ) (ts : List ℕ) (end u : ℕ) → Walk rs t ts end → In u (t ∷ ts) → (next : ℕ) × WaitsFor rs u next
walker_waits rs t [] end u walk h = ⊎_elim (λ same. (end, subst (λ x. WaitsFor rs x end) same walk)) (λ none. absurd none) h
walker_waits rs t (v ∷ vs) end u walk h = ⊎_elim (λ same. (v, subst (λ x. WaitsFor rs x v) same walk.0)) (λ later. walker_waits rs v vs end u walk.1 later) h

pub member_waits : (rs : List Request) (cycle : List ℕ) (u : ℕ) → IsCycle rs cycle → In u cycle → (next : ℕ) × WaitsFor rs u next
member_waits rs [] u closed h = absurd h
member_waits rs (t ∷ ts) u closed h = walker_waits rs t ts t u closed h

-- .. and somebody waits for each but the first of a walk, and for its end
walker_awaited : (rs : List Request) (t : ℕ) (ts : List ℕ) (end u : ℕ) → Walk rs t ts end → In u ts ⊎ (end ≡ u) → (from : ℕ) × WaitsFor rs from u
walker_awaited rs t [] end u walk h = ⊎_elim (λ none. absurd none) (λ same. (t, subst (λ x. WaitsFor rs t x) same walk)) h
walker_awaited rs t (v ∷ vs) end u walk h =
    ⊎_elim
    (λ among. ⊎_elim (λ same. (t, subst (λ x. WaitsFor rs t x) same walk.0)) (λ later. walker_awaited rs v vs end u walk.1 (inl later)) among)
    (λ last. walker_awaited rs v vs end u walk.1 (inr last))
    h

member_awaited : (rs : List Request) (cycle : List ℕ) (u : ℕ) → IsCycle rs cycle → In u cycle → (from : ℕ) × WaitsFor rs from u
member_awaited rs [] u closed h = absurd h
member_awaited rs (t ∷ ts) u closed h = walker_awaited rs t ts t u closed (⊎_elim (λ first. inr first) (λ later. inl later) h)

-- so a transaction for which nobody waits is on no cycle
pub unawaited_on_none : (rs : List Request) (t : ℕ) → ((u : ℕ) → WaitsFor rs u t → ⊥) → (cycle : List ℕ) → IsCycle rs cycle → Contains cycle t → ⊥
unawaited_on_none rs t none cycle closed there = let by = member_awaited rs cycle t closed (Contains-In cycle t there) in none by.0 by.1

walk_as : (rs new : List Request) (cycle : List ℕ) → ((a b : ℕ) → In a cycle → In b cycle → WaitsFor rs a b → WaitsFor new a b)
    → (t : ℕ) (ts : List ℕ) (end : ℕ) → ((u : ℕ) → In u (t ∷ ts) → In u cycle) → In end cycle → Walk rs t ts end → Walk new t ts end
walk_as rs new cycle step t [] end among ends walk = step t end (among t (inl refl)) ends walk
walk_as rs new cycle step t (u ∷ us) end among ends walk = (
  step t u (among t (inl refl)) (among u (inr (inl refl))) walk.0,
  walk_as rs new cycle step u us end (λ v h. among v (inr h)) ends walk.1,
)

-- if its edges stay, a cycle stays
pub cycle_as : (rs new : List Request) (cycle : List ℕ) → ((a b : ℕ) → In a cycle → In b cycle → WaitsFor rs a b → WaitsFor new a b) → IsCycle rs cycle → IsCycle new cycle
cycle_as rs new [] step closed = closed
cycle_as rs new (t ∷ ts) step closed = walk_as rs new (t ∷ ts) step t ts t (λ u h. h) (inl refl) closed

-- a cycle of others than a transaction stays if all their requests do
pub cycle_apart : (t : ℕ) (rs new : List Request) → of_others t rs ≡ of_others t new → (cycle : List ℕ) → (In t cycle → ⊥) → IsCycle rs cycle → IsCycle new cycle
cycle_apart t rs new same cycle out closed =
    cycle_as rs new cycle (λ a b in_a in_b h. waits_apart t rs new same a b (λ e. out (subst (λ x. In x cycle) e in_a)) (λ e. out (subst (λ x. In x cycle) e in_b)) h) closed

-- .. and passes the transaction or not
pub member_or_not : (t : ℕ) (ts : List ℕ) → In t ts ⊎ (In t ts → ⊥)
member_or_not t [] = inr (λ h. h)
member_or_not t (u ∷ us) =
    ⊎_elim (λ same. inl (inl ((Decides-eqb u t).0 same)))
    (λ other. ⊎_elim (λ h. inl (inr h)) (λ none. inr (λ h. ⊎_elim (λ e. clash ((Decides-eqb u t).1 e) other) none h)) (member_or_not t us))
    (either (u == t))

-- fewer edges make no cycle
pub free_of_fewer : (rs new : List Request) → ((a b : ℕ) → WaitsFor new a b → WaitsFor rs a b) → HasNoCycle rs → HasNoCycle new
free_of_fewer rs new fewer free cycle closed = free cycle (cycle_as new rs cycle (λ a b in_a in_b h. fewer a b h) closed)

-- ---- a cycle from another of its members on

walk_split : (rs : List Request) (t : ℕ) (xs : List ℕ) (y : ℕ) (ys : List ℕ) (end : ℕ) → Walk rs t (xs ++ y ∷ ys) end → Walk rs t xs y × Walk rs y ys end
walk_split rs t [] y ys end walk = walk
walk_split rs t (x ∷ xs) y ys end walk = let rest = walk_split rs x xs y ys end walk.1 in ((walk.0, rest.0), rest.1)

walk_join : (rs : List Request) (t : ℕ) (xs : List ℕ) (y : ℕ) (ys : List ℕ) (end : ℕ) → Walk rs t xs y → Walk rs y ys end → Walk rs t (xs ++ y ∷ ys) end
walk_join rs t [] y ys end walk rest = (walk, rest)
walk_join rs t (x ∷ xs) y ys end walk rest = (walk.0, walk_join rs x xs y ys end walk.1 rest)

pub cycle_turned : (rs : List Request) (xs ys : List ℕ) → IsCycle rs (xs ++ ys) → IsCycle rs (ys ++ xs)
cycle_turned rs [] ys closed = subst (IsCycle rs) (sym (append-nil ys)) closed
cycle_turned rs (x ∷ xs) [] closed = subst (IsCycle rs) (append-nil (x ∷ xs)) closed
cycle_turned rs (x ∷ xs) (y ∷ ys) closed = let parts = walk_split rs x xs y ys x closed in walk_join rs y ys x xs y parts.1 parts.0

once_parts : (xs ys : List ℕ) → ComeOnce (xs ++ ys) → ComeOnce xs × ComeOnce ys × ((t : ℕ) → In t xs → In t ys → ⊥)
once_parts [] ys once = (tt, once, λ t h k. h)
once_parts (x ∷ xs) ys once =
    let rest = once_parts xs ys once.1 in (
      (λ h. once.0 (In-Contains (xs ++ ys) x (In-left xs ys x (Contains-In xs x h))), rest.0),
      rest.1,
      λ t h k. ⊎_elim (λ same. once.0 (In-Contains (xs ++ ys) x (In-right xs ys x (subst (λ z. In z ys) (sym same) k)))) (λ later. rest.2 t later k) h,
    )

once_joined : (xs ys : List ℕ) → ComeOnce xs → ComeOnce ys → ((t : ℕ) → In t xs → In t ys → ⊥) → ComeOnce (xs ++ ys)
once_joined [] ys one two apart = two
once_joined (x ∷ xs) ys one two apart = (
  λ h. ⊎_elim (λ a. one.0 (In-Contains xs x a)) (λ b. apart x (inl refl) b) (In-append xs ys x (Contains-In (xs ++ ys) x h)),
  once_joined xs ys one.1 two (λ t h k. apart t (inr h) k),
)

pub once_turned : (xs ys : List ℕ) → ComeOnce (xs ++ ys) → ComeOnce (ys ++ xs)
once_turned xs ys once = let parts = once_parts xs ys once in once_joined ys xs parts.1 parts.0 (λ t h k. parts.2 t k h)

pub In_turned : (xs ys : List ℕ) (t : ℕ) → In t (xs ++ ys) → In t (ys ++ xs)
In_turned xs ys t h = ⊎_elim (λ a. In-right ys xs t a) (λ b. In-left ys xs t b) (In-append xs ys t h)

-- the parts of a list about a member
pub parts_about : (t : ℕ) (ts : List ℕ) → In t ts → (xs : List ℕ) × (ys : List ℕ) × (ts ≡ xs ++ t ∷ ys)
parts_about t [] h = absurd h
parts_about t (u ∷ us) h =
    ⊎_elim (λ same. ([], us, λ i. same i ∷ us)) (λ later. let p = parts_about t us later in (u ∷ p.0, p.1, λ i. u ∷ p.2 i)) h
