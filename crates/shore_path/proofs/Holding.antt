-- What a transaction holds of a granule: as a mode that is read off the list, as a request of it, and as a lock.
use Rattle.std.proofs.Common.{◌≡◌, ◌⊎◌, inl, inr, ⊎_elim, ℕ, List, [], ◌∷◌, Option, None, Some, true, refl, ap, sym, subst, ◌∙◌}
use Rattle.std.specs.Prelude.{◌==◌, IsTrue}
use Rattle.std.specs.List.{cons_option, filter_map}
use Rattle.std.specs.Option.{option_and_then}
use Rattle.std.proofs.lemmas.Bool.Decides.{Decides-eqb}
use Rattle.shore_types.specs.declared.locking.Granule.{Granule}
use Rattle.shore_types.specs.declared.locking.Mode.{Mode}
use Rattle.shore_types.specs.Locking.{same_granule}
use Rattle.shore_model.specs.declared.holds.Hold.{Hold}
use Rattle.shore_model.specs.declared.requests.Request.{Request}
use Rattle.shore_model.specs.Locks.{HoldsAtLeast}
use Rattle.shore_model.specs.Modes.{is_at_most}
use Rattle.shore_model.specs.Requests.{AreRequests, held_by_all, hold_in, hold_of}
use Rattle.shore_locks.specs.Grants.{is_enough}
use Rattle.shore_locks.specs.Tables.{is_for, mode_held, request_for}
use Rattle.shore_locks.proofs.Members.{In, Contains-In}
use Rattle.shore_locks.proofs.Keys.{same_granule-Decides}
use Rattle.shore_locks.proofs.Entering.{both_true, found_in, request_in}
use Rattle.shore_locks.proofs.Outcomes.{any_from}

-- a request by which a transaction holds a granule in a mode, or in a stronger one
pub record Holder (rs : List Request) (t : ℕ) (g : Granule) (m : Mode) : Type 0 where
  pub request : Request
  pub there : In request rs
  pub by : request.txn ≡ t
  pub at : request.granule ≡ g
  pub enough : is_enough m request.held ≡ true

-- a request in the list is the one that tells what is held
pub held_as : (rs : List Request) → AreRequests rs → (q : Request) → In q rs → mode_held q.txn q.granule rs ≡ q.held
held_as rs one q h = ap (option_and_then (λ r. r.held)) (request_in rs one q h)

-- .. and the request that is found is in the list
pub found_for : (t : ℕ) (g : Granule) (rs : List Request) (r : Request) → request_for t g rs ≡ Some r → In r rs × (r.txn ≡ t) × (r.granule ≡ g)
found_for t g rs r is =
    let f = found_in (is_for t g) rs r is in
    let key = both_true (r.txn == t) (same_granule r.granule g) f.1 in
    (f.0, (Decides-eqb r.txn t).0 key.0, (same_granule-Decides r.granule g).0 key.1)

holder_in : (t : ℕ) (g : Granule) (m : Mode) (rs : List Request) (o : Option Request) → request_for t g rs ≡ o → is_enough m (option_and_then (λ r. r.held) o) ≡ true → Holder rs t g m
holder_in t g m rs None is e = cc
holder_in t g m rs (Some r) is e = let f = found_for t g rs r is in record { request = r; there = f.0; by = f.1; at = f.2; enough = e }

pub holder_of : (t : ℕ) (g : Granule) (m : Mode) (rs : List Request) → is_enough m (mode_held t g rs) ≡ true → Holder rs t g m
holder_of t g m rs e = holder_in t g m rs (request_for t g rs) refl e

pub enough_of : (t : ℕ) (g : Granule) (m : Mode) (rs : List Request) → AreRequests rs → Holder rs t g m → is_enough m (mode_held t g rs) ≡ true
enough_of t g m rs one h =
    subst (λ u. is_enough m (mode_held u g rs) ≡ true) h.by
    (subst (λ k. is_enough m (mode_held h.request.txn k rs) ≡ true) h.at (ap (is_enough m) (held_as rs one h.request h.there) ∙ h.enough))

-- the request by which a mode is held
holding_in : (t : ℕ) (g : Granule) (m : Mode) (rs : List Request) (o : Option Request) → request_for t g rs ≡ o → option_and_then (λ (r : Request). r.held) o ≡ Some m
    → (r : Request) × In r rs × (r.txn ≡ t) × (r.granule ≡ g) × (r.held ≡ Some m)
holding_in t g m rs None is e = cc
holding_in t g m rs (Some r) is e = let f = found_for t g rs r is in (r, f.0, f.1, f.2, e)

pub holding : (t : ℕ) (g : Granule) (m : Mode) (rs : List Request) → mode_held t g rs ≡ Some m → (r : Request) × In r rs × (r.txn ≡ t) × (r.granule ≡ g) × (r.held ≡ Some m)
holding t g m rs e = holding_in t g m rs (request_for t g rs) refl e

-- a transaction's requests for a granule are in both lists, or in neither
abbrev pub SameAt : ℕ → Granule → List Request → List Request → Type 0
SameAt t g xs ys = (q : Request) → q.txn ≡ t → q.granule ≡ g → (In q xs → In q ys) × (In q ys → In q xs)

at_keys : (t : ℕ) (g : Granule) (rs : List Request) (q : Request) → AreRequests rs → In q rs → q.txn ≡ t → q.granule ≡ g → request_for t g rs ≡ Some q
at_keys t g rs q one h by at = subst (λ u. request_for u g rs ≡ Some q) by (subst (λ k. request_for q.txn k rs ≡ Some q) at (request_in rs one q h))

same_request : (t : ℕ) (g : Granule) (xs ys : List Request) → AreRequests xs → AreRequests ys → SameAt t g xs ys → (a b : Option Request) → request_for t g xs ≡ a → request_for t g ys ≡ b
    → request_for t g xs ≡ request_for t g ys
same_request t g xs ys one two same (Some q) b is are =
    let f = found_for t g xs q is in is ∙ sym (at_keys t g ys q two ((same q f.1 f.2).0 f.0) f.1 f.2)
same_request t g xs ys one two same None (Some q) is are =
    let f = found_for t g ys q are in at_keys t g xs q one ((same q f.1 f.2).1 f.0) f.1 f.2 ∙ sym are
same_request t g xs ys one two same None None is are = is ∙ sym are

pub same_held : (t : ℕ) (g : Granule) (xs ys : List Request) → AreRequests xs → AreRequests ys → SameAt t g xs ys → mode_held t g xs ≡ mode_held t g ys
same_held t g xs ys one two same =
    ap (option_and_then (λ (r : Request). r.held)) (same_request t g xs ys one two same (request_for t g xs) (request_for t g ys) refl refl)

-- ---- as locks

In-held_first : {X Y : Type 0} (f : X → Option Y) (xs : List X) (y : Y) (o : Option Y) → In y (cons_option o (filter_map f xs)) → (o ≡ Some y) ⊎ In y (filter_map f xs)
In-held_first f xs y None h = inr h
In-held_first f xs y (Some z) h = ⊎_elim (λ e. inl (ap Some e)) (λ t. inr t) h

pub In-filter_map : {X Y : Type 0} (f : X → Option Y) (xs : List X) (y : Y) → In y (filter_map f xs) → (x : X) × In x xs × (f x ≡ Some y)
In-filter_map f [] y h = absurd h
In-filter_map f (x ∷ xs) y h =
    ⊎_elim (λ e. (x, inl refl, e)) (λ t. let r = In-filter_map f xs y t in (r.0, inr r.1, r.2)) (In-held_first f xs y (f x) h)

first-In : {Y : Type 0} (ys : List Y) (y : Y) (o : Option Y) → o ≡ Some y → In y (cons_option o ys)
first-In ys y None e = cc
first-In ys y (Some z) e = let same : z ≡ y = cc in inl same

later-In : {Y : Type 0} (ys : List Y) (y : Y) (o : Option Y) → In y ys → In y (cons_option o ys)
later-In ys y None h = h
later-In ys y (Some z) h = inr h

pub filter_map-In : {X Y : Type 0} (f : X → Option Y) (xs : List X) (x : X) (y : Y) → In x xs → f x ≡ Some y → In y (filter_map f xs)
filter_map-In f [] x y h e = absurd h
filter_map-In f (z ∷ xs) x y h e =
    ⊎_elim (λ same. first-In (filter_map f xs) y (f z) (ap f same ∙ e)) (λ t. later-In (filter_map f xs) y (f z) (filter_map-In f xs x y t e)) h

-- a lock tells its request's transaction and granule, and the mode held
pub lock_of : (r : Request) (o : Option Mode) (h : Hold) → hold_in r o ≡ Some h → (r.txn ≡ h.txn) × (r.granule ≡ h.granule) × (o ≡ Some h.mode)
lock_of r None h e = cc
lock_of r (Some k) h e =
    let same : record { txn = r.txn; granule = r.granule; mode = k } ≡ h = cc in
    (ap (λ (x : Hold). x.txn) same, ap (λ (x : Hold). x.granule) same, ap (λ (x : Hold). Some x.mode) same)

pub holder_from_lock : (t : ℕ) (g : Granule) (m : Mode) (rs : List Request) → HoldsAtLeast (held_by_all rs) t m g → Holder rs t g m
holder_from_lock t g m rs h =
    let r = In-filter_map hold_of rs h.1 (Contains-In (held_by_all rs) h.1 (h.0, h.2, h.3)) in
    let l = lock_of r.0 r.0.held h.1 r.2 in
    record { request = r.0; there = r.1; by = l.0 ∙ h.4.0; at = l.1 ∙ h.4.1; enough = ap (is_enough m) l.2 ∙ h.4.2 }

held_some : (m : Mode) (held : Option Mode) → is_enough m held ≡ true → (k : Mode) × (held ≡ Some k) × (is_at_most m k ≡ true)
held_some m None e = cc
held_some m (Some k) e = (k, refl, e)

pub lock_from_holder : (t : ℕ) (g : Granule) (m : Mode) (rs : List Request) → Holder rs t g m → HoldsAtLeast (held_by_all rs) t m g
lock_from_holder t g m rs h =
    let k = held_some m h.request.held h.enough in
    let lock : Hold = record { txn = h.request.txn; granule = h.request.granule; mode = k.0 } in
    any_from (λ (l : Hold). (l.txn ≡ t) × (l.granule ≡ g) × IsTrue (is_at_most m l.mode)) (held_by_all rs) lock
    (filter_map-In hold_of rs h.request lock h.there (ap (hold_in h.request) k.1)) (h.by, h.at, k.2)
