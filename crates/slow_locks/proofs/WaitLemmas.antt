-- Steps of loops over requests.
use Rattle.std.proofs.Common.{◌≡◌, ◌<◌, ◌+◌, inl, inr, ⊎_elim, ℕ, zero, suc, List, [], ◌∷◌, ◌++◌, length, ◌-◌, get_or, take, drop, length-drop, sym, ap, subst, ◌∙◌}
use Rattle.std.specs.Prelude.{Contains, filter}
use Rattle.std.proofs.Math.Seq.{take-length}
use Rattle.std.proofs.lemmas.List.Elements.{filter-append}
use Rattle.shore_types.specs.declared.locking.Granule.{Granule}
use Rattle.shore_types.specs.Locking.{same_granule}
use Rattle.shore_model.specs.declared.requests.Group.{Group}
use Rattle.shore_model.specs.declared.requests.Request.{Request}
use Rattle.shore_model.specs.Requests.{Before, WaitsFor, WaitsIn, Walk, queue_at, requests_at, is_in_group}
use Rattle.shore_model.proofs.Steps.{at_place}

-- what lies behind a place, as a slice
pub rest_of : (queue : List Request) (i : ℕ) → take (length queue - i) (drop i queue) ≡ drop i queue
rest_of queue i = ap (λ n. take n (drop i queue)) (sym (length-drop i queue)) ∙ take-length (drop i queue)

-- a request is of a transaction and waits for another
abbrev pub WaitsAs : List Request → ℕ → ℕ → Request → Type 0
WaitsAs rs t u waiter = (waiter.txn ≡ t) × WaitsIn (queue_at waiter.granule rs) waiter u

-- a granule's requests of one group, part by part
pub group_parts : (g : Granule) (group : Group) (r : Request) (rs : List Request) → filter (is_in_group group) (requests_at g (r ∷ rs)) ≡ filter (is_in_group group) (requests_at g (r ∷ [])) ++ filter (is_in_group group) (requests_at g rs)
group_parts g group r rs =
    ap (filter (is_in_group group)) (filter-append (λ q. same_granule q.granule g) (r ∷ []) rs)
    ∙ filter-append (is_in_group group) (requests_at g (r ∷ [])) (requests_at g rs)

-- what is in the rest of a queue is in the queue
pub Before-from_drop : (queue : List Request) (i : ℕ) (a b : Request) → Before (drop i queue) a b → Before queue a b
Before-from_drop queue zero a b h = h
Before-from_drop [] (suc i) a b h = h
Before-from_drop (r ∷ rs) (suc i) a b h = inr (Before-from_drop rs i a b h)

-- not found at a place, they are in the rest
pub Before-passed : (queue : List Request) (i : ℕ) (x a b : Request) → i < length queue → x ≡ get_or queue i x → (((x ≡ a) × Contains (drop (i + 1) queue) b) → ⊥) → Before (drop i queue) a b → Before (drop (i + 1) queue) a b
Before-passed queue i x a b within is never h =
    ⊎_elim (λ here. absurd (never here)) (λ later. later) (subst (λ rs. Before rs a b) (at_place queue i x within is) h)

pub Before-found : (queue : List Request) (i : ℕ) (x a b : Request) → i < length queue → x ≡ get_or queue i x → ((x ≡ a) × Contains (drop (i + 1) queue) b) → Before queue a b
Before-found queue i x a b within is here =
    Before-from_drop queue i a b (subst (λ rs. Before rs a b) (sym (at_place queue i x within is)) (inl here))

-- a walk so far: the whole is a walk exactly if the rest is
pub record WalksOn (rs : List Request) (end start : ℕ) (steps : List ℕ) (at : ℕ) (left : List ℕ) : Type 0 where
  pub forth : Walk rs start steps end → Walk rs at left end
  pub back : Walk rs at left end → Walk rs start steps end

pub WalksOn-none : (rs : List Request) (end start : ℕ) (steps : List ℕ) → WalksOn rs end start steps start steps
WalksOn-none rs end start steps = record { forth = λ w. w; back = λ w. w }

pub WalksOn-more : (rs : List Request) (end start : ℕ) (steps : List ℕ) (i at to : ℕ) → i < length steps → to ≡ get_or steps i to → WalksOn rs end start steps at (drop i steps) → WaitsFor rs at to → WalksOn rs end start steps to (drop (i + 1) steps)
WalksOn-more rs end start steps i at to within is h waits =
    let split = at_place steps i to within is in
    record {
      forth = λ w. (subst (λ left. Walk rs at left end) split (h.forth w)).1;
      back = λ w. h.back (subst (λ left. Walk rs at left end) (sym split) (waits, w));
    }

pub WalksOn-stop : (rs : List Request) (end start : ℕ) (steps : List ℕ) (i at to : ℕ) → i < length steps → to ≡ get_or steps i to → WalksOn rs end start steps at (drop i steps) → (WaitsFor rs at to → ⊥) → Walk rs start steps end → ⊥
WalksOn-stop rs end start steps i at to within is h never w =
    never (subst (λ left. Walk rs at left end) (at_place steps i to within is) (h.forth w)).0

-- two facts that stand and fall together
pub record StandsWith (P Q : Type 0) : Type 0 where
  pub forth : P → Q
  pub back : Q → P
