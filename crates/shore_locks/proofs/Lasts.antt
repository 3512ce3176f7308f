-- A transaction waits with the last of its requests: which changes keep this, and that the last one tells.
use Rattle.std.proofs.Common.{◌≡◌, ◌++◌, inl, inr, ⊎_elim, ℕ, List, [], ◌∷◌, Bool, true, false, Option, None, Some, refl, ap, sym, subst, ◌∙◌}
use Rattle.std.specs.Prelude.{filter, find, cond, not, All, ◌==◌, ◌&&◌, is_some}
use Rattle.std.specs.List.{list_any}
use Rattle.std.proofs.lemmas.Bool.Decides.{Decides-eqb}
use Rattle.std.proofs.lemmas.List.Elements.{All-tail}
use Rattle.shore_types.specs.declared.locking.Granule.{Granule}
use Rattle.shore_types.specs.declared.locking.Mode.{Mode}
use Rattle.shore_model.specs.declared.requests.Request.{Request}
use Rattle.shore_model.specs.Requests.{are_alike, placed_last, requests_at, requests_by}
use Rattle.shore_locks.specs.Grants.{can_be_granted, granted, granted_in_turn, passed, put, removed, replaced}
use Rattle.shore_nodes.specs.Orderly.{IsNewest, WaitsLast}
use Rattle.shore_nodes.specs.Tables.{is_waiting, waiters_at, waiting_request}
use Rattle.shore_nodes.proofs.Members.{In, either, All-In, In-All, In-append, In-filter, In-left, In-right, filter-no, filter-yes}
use Rattle.shore_nodes.proofs.Keys.{in_place, in_place-keys, in_place-no, in_place-yes}
use Rattle.shore_nodes.proofs.Fits.{granted_first, granted_none}
use Rattle.shore_nodes.proofs.Entering.{both_true, find_step, none_waits, nothing}
use Rattle.shore_nodes.proofs.Others.{put_in_place, put_last}
use Rattle.shore_locks.proofs.Buckets.{find_filtered}

-- a transaction whose requests all want nothing
abbrev pub IsQuiet : List Request → ℕ → Type 0
IsQuiet rs t = (q : Request) → In q rs → q.txn ≡ t → q.wanted ≡ None

pub quiet_of : (t : ℕ) (rs : List Request) → is_waiting t rs ≡ false → IsQuiet rs t
quiet_of t rs quiet q in_q by =
    nothing q.wanted (⊎_elim (λ wants. absurd (none_waits t rs quiet q in_q by wants)) (λ no. no) (either (is_some q.wanted)))

pub last_filter : (p : Request → Bool) (rs : List Request) → WaitsLast rs → WaitsLast (filter p rs)
last_filter p [] h = tt
last_filter p (r ∷ rs) h =
    ⊎_elim
    (λ yes. subst WaitsLast (sym (filter-yes p r rs yes))
    (All-In (λ q. q.txn ≡ r.txn → r.wanted ≡ None) (filter p rs) (λ q i. In-All (λ q. q.txn ≡ r.txn → r.wanted ≡ None) rs q h.0 (In-filter p rs q i).0), last_filter p rs h.1))
    (λ no. subst WaitsLast (sym (filter-no p r rs no)) (last_filter p rs h.1))
    (either (p r))

pub last_more : (rs : List Request) (r : Request) → WaitsLast rs → IsQuiet rs r.txn → WaitsLast (rs ++ r ∷ [])
last_more [] r h quiet = (All-In (λ q. q.txn ≡ r.txn → r.wanted ≡ None) [] (λ q i. absurd i), tt)
last_more (x ∷ rs) r h quiet = (
  All-In (λ q. q.txn ≡ x.txn → x.wanted ≡ None) (rs ++ r ∷ []) (λ q i by. ⊎_elim
      (λ old. In-All (λ q. q.txn ≡ x.txn → x.wanted ≡ None) rs q h.0 old by)
      (λ new. ⊎_elim (λ e. quiet x (inl refl) (sym (ap (λ (y : Request). y.txn) e ∙ by))) (λ none. absurd none) new)
      (In-append rs (r ∷ []) q i)),
  last_more rs r h.1 (λ q i by. quiet q (inr i) by),
)

from_rest : (r x : Request) (rs : List Request) → All (λ q. q.txn ≡ x.txn → x.wanted ≡ None) rs → (q : Request) → In q (replaced r rs) → q.txn ≡ x.txn → x.wanted ≡ None
from_rest r x [] all q i by = absurd i
from_rest r x (y ∷ rs) all q i by =
    ⊎_elim
    (λ e. In-All (λ q. q.txn ≡ x.txn → x.wanted ≡ None) (y ∷ rs) y all (inl refl) (sym (in_place-keys r y).0 ∙ ap (λ (z : Request). z.txn) e ∙ by))
    (λ t. from_rest r x rs (All-tail (λ q. q.txn ≡ x.txn → x.wanted ≡ None) y rs all) q t by) i

last_rest : (r x : Request) (rs : List Request) → r.wanted ≡ None → All (λ q. q.txn ≡ x.txn → x.wanted ≡ None) rs → (q : Request) → In q (replaced r rs) → q.txn ≡ (in_place r x).txn → (in_place r x).wanted ≡ None
last_rest r x rs still all q i by =
    ⊎_elim
    (λ alike. ap (λ (y : Request). y.wanted) (in_place-yes r x alike) ∙ still)
    (λ apart. ap (λ (y : Request). y.wanted) (in_place-no r x apart) ∙ from_rest r x rs all q i (by ∙ ap (λ (y : Request). y.txn) (in_place-no r x apart)))
    (either (are_alike x r))

pub last_replaced : (r : Request) (rs : List Request) → r.wanted ≡ None → WaitsLast rs → WaitsLast (replaced r rs)
last_replaced r [] still h = tt
last_replaced r (x ∷ rs) still h =
    (All-In (λ q. q.txn ≡ (in_place r x).txn → (in_place r x).wanted ≡ None) (replaced r rs) (λ q i by. last_rest r x rs still h.0 q i by), last_replaced r rs still h.1)

pub last_put : (r : Request) (rs : List Request) → r.wanted ≡ None → WaitsLast rs → IsQuiet rs r.txn → WaitsLast (put r rs)
last_put r rs still h quiet =
    ⊎_elim
    (λ yes. subst WaitsLast (sym (put_in_place r rs yes)) (last_replaced r rs still h))
    (λ none. subst WaitsLast (sym (put_last r rs none)) (last_more rs r h quiet))
    (either (list_any (λ q. are_alike q r) rs))

pub last_placed : (r : Request) (rs : List Request) → WaitsLast rs → IsQuiet rs r.txn → WaitsLast (placed_last r rs)
last_placed r rs h quiet =
    last_more (removed r rs) r (last_filter (λ q. not (are_alike q r)) rs h) (λ q i by. quiet q (In-filter (λ q. not (are_alike q r)) rs q i).0 by)

last_in_turn : (ws rs : List Request) → WaitsLast rs → WaitsLast (granted_in_turn ws rs)
last_in_turn [] rs h = h
last_in_turn (w ∷ ws) rs h =
    ⊎_elim
    (λ can. subst WaitsLast (sym (granted_first w ws rs can)) (last_in_turn ws (replaced (granted w) rs) (last_replaced (granted w) rs refl h)))
    (λ cannot. subst WaitsLast (sym (granted_none w ws rs cannot)) h)
    (either (can_be_granted w (requests_at w.granule rs)))

pub last_passed : (g : Granule) (rs : List Request) → WaitsLast rs → WaitsLast (passed g rs)
last_passed g rs h = last_in_turn (waiters_at g rs) rs h

wants_none : (b : Bool) (wanted : Option Mode) → wanted ≡ None → (b && is_some wanted) ≡ false
wants_none true None e = refl
wants_none true (Some m) e = cc
wants_none false wanted e = refl

find_last : (p : Request → Bool) (xs : List Request) (r : Request) → ((x : Request) → In x xs → p x ≡ false) → find p (xs ++ r ∷ []) ≡ cond (p r) (Some r) None
find_last p [] r none = refl
find_last p (x ∷ xs) r none = find_step p x (xs ++ r ∷ []) (none x (inl refl)) ∙ find_last p xs r (λ y h. none y (inr h))

before_last : (xs : List Request) (r : Request) → WaitsLast (xs ++ r ∷ []) → (x : Request) → In x xs → r.txn ≡ x.txn → x.wanted ≡ None
before_last [] r h x i by = absurd i
before_last (y ∷ xs) r h x i by =
    ⊎_elim
    (λ e. subst (λ z. z.wanted ≡ None) e (In-All (λ q. q.txn ≡ y.txn → y.wanted ≡ None) (xs ++ r ∷ []) r h.0 (In-right xs (r ∷ []) r (inl refl)) (by ∙ sym (ap (λ (z : Request). z.txn) e))))
    (λ later. before_last xs r h.1 x later by) i

-- the newest request tells whether its transaction waits
pub newest_tells : (t : ℕ) (rs : List Request) (r : Request) → WaitsLast rs → IsNewest t rs r → waiting_request t rs ≡ cond (is_some r.wanted) (Some r) None
newest_tells t rs r last newest =
    let mine = λ (x : Request) (i : In x (requests_by t rs)). (Decides-eqb x.txn t).0 (In-filter (λ q. q.txn == t) rs x i).1 in
    let r_mine : r.txn ≡ t = mine r (subst (In r) (sym newest.1) (In-right newest.0 (r ∷ []) r (inl refl))) in
    let still : WaitsLast (newest.0 ++ r ∷ []) = subst WaitsLast newest.1 (last_filter (λ q. q.txn == t) rs last) in
    let none : (x : Request) → In x newest.0 → ((x.txn == t) && is_some x.wanted) ≡ false = λ x i.
    let by = mine x (subst (In x) (sym newest.1) (In-left newest.0 (r ∷ []) x i)) in
    wants_none (x.txn == t) x.wanted (before_last newest.0 r still x i (r_mine ∙ sym by)) in
    sym (find_filtered (λ q. (q.txn == t) && is_some q.wanted) (λ q. q.txn == t) (λ x e. (both_true (x.txn == t) (is_some x.wanted) e).0) rs)
    ∙ ap (find (λ q. (q.txn == t) && is_some q.wanted)) newest.1
    ∙ find_last (λ q. (q.txn == t) && is_some q.wanted) newest.0 r none
    ∙ ap (λ b. cond (b && is_some r.wanted) (Some r) None) ((Decides-eqb r.txn t).1 r_mine)
