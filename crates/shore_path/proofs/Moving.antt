-- Changes of the list that leave each lock, or make it stronger, and with it the intentions.
use Rattle.std.proofs.Common.{◌≡◌, ◌⊎◌, inl, inr, ⊎_elim, ℕ, List, [], ◌∷◌, true, false, Option, None, Some, refl, ap, sym, subst, ◌∙◌}
use Rattle.std.specs.Prelude.{not, is_some}
use Rattle.std.specs.List.{list_any}
use Rattle.shore_types.specs.declared.locking.Granule.{Granule}
use Rattle.shore_types.specs.declared.locking.Mode.{Mode}
use Rattle.shore_model.specs.declared.requests.Request.{Request}
use Rattle.shore_model.specs.Locks.{ancestors}
use Rattle.shore_model.specs.Modes.{parent_mode}
use Rattle.shore_model.specs.Requests.{are_alike, AreRequests, placed_last}
use Rattle.shore_locks.specs.Grants.{granted, is_enough, passed, put, removed, replaced}
use Rattle.shore_locks.specs.Orderly.{Rises}
use Rattle.shore_locks.specs.Tables.{mode_held, waiters_at}
use Rattle.shore_locks.proofs.Members.{In, either, filter-In, In-left, In-right}
use Rattle.shore_locks.proofs.Keys.{in_place-no, in_place-yes, alike-Decides, only_one, AreRequests-replaced}
use Rattle.shore_locks.proofs.Fits.{Fit, Fit-granted, In-replaced, pass_keeps}
use Rattle.shore_locks.proofs.Others.{put_in_place, put_last}
use Rattle.shore_path.proofs.Holding.{Holder, enough_of, holder_of}
use Rattle.shore_path.proofs.ModeFacts.{enough_trans}

-- a request for each of a list is in another: itself, or a new one in the place of one alike
abbrev pub Onto : Request → List Request → List Request → Type 0
Onto r rs new = (q : Request) → In q rs → ((are_alike q r ≡ true) × In r new) ⊎ In q new

pub onto_replaced : (r : Request) (rs : List Request) → Onto r rs (replaced r rs)
onto_replaced r [] q h = absurd h
onto_replaced r (x ∷ xs) q h =
    ⊎_elim
    (λ e. ⊎_elim
    (λ yes. inl (yes, inl (in_place-yes r x (subst (λ y. are_alike y r ≡ true) (sym e) yes))))
    (λ no. inr (inl (in_place-no r x (subst (λ y. are_alike y r ≡ false) (sym e) no) ∙ e)))
    (either (are_alike q r)))
    (λ t. ⊎_elim (λ a. inl (a.0, inr a.1)) (λ b. inr (inr b)) (onto_replaced r xs q t))
    h

pub onto_put : (r : Request) (rs : List Request) → Onto r rs (put r rs)
onto_put r rs =
    ⊎_elim
    (λ yes. subst (Onto r rs) (sym (put_in_place r rs yes)) (onto_replaced r rs))
    (λ none. subst (Onto r rs) (sym (put_last r rs none)) (λ q h. inr (In-left rs (r ∷ []) q h)))
    (either (list_any (λ q. are_alike q r) rs))

pub onto_placed : (r : Request) (rs : List Request) → Onto r rs (placed_last r rs)
onto_placed r rs q h =
    ⊎_elim
    (λ yes. inl (yes, In-right (removed r rs) (r ∷ []) r (inl refl)))
    (λ no. inr (In-left (removed r rs) (r ∷ []) q (filter-In (λ x. not (are_alike x r)) rs q h (ap not no))))
    (either (are_alike q r))

-- each lock of the transactions that are looked at stays, or a stronger one
abbrev pub Stays : (ℕ → Type 0) → List Request → List Request → Type 0
Stays P rs new = (q : Request) → In q rs → P q.txn → (m : Mode) → is_enough m q.held ≡ true → Holder new q.txn q.granule m

pub stays-self : (P : ℕ → Type 0) (rs : List Request) → Stays P rs rs
stays-self P rs q h p m e = record { request = q; there = h; by = refl; at = refl; enough = e }

pub held_still : (P : ℕ → Type 0) (rs new : List Request) → Stays P rs new → (t : ℕ) (g : Granule) (m : Mode) → P t → Holder rs t g m → Holder new t g m
held_still P rs new stays t g m p h =
    let s = stays h.request h.there (subst P (sym h.by) p) m h.enough in
    record { request = s.request; there = s.there; by = s.by ∙ h.by; at = s.at ∙ h.at; enough = s.enough }

pub stays-on : (P : ℕ → Type 0) (rs mid new : List Request) → Stays P rs mid → Stays P mid new → Stays P rs new
stays-on P rs mid new a b q h p m e = held_still P mid new b q.txn q.granule m p (a q h p m e)

-- a request in the place of one alike, that holds no less
pub stays_onto : (P : ℕ → Type 0) (r : Request) (rs new : List Request) → Onto r rs new
    → ((q : Request) → In q rs → are_alike q r ≡ true → (m : Mode) → is_enough m q.held ≡ true → is_enough m r.held ≡ true) → Stays P rs new
stays_onto P r rs new onto more q h p m e =
    ⊎_elim
    (λ a. let key = (alike-Decides q r).0 a.0 in record { request = r; there = a.1; by = sym key.0; at = sym key.1; enough = more q h a.0 m e })
    (λ b. record { request = q; there = b; by = refl; at = refl; enough = e })
    (onto q h)

-- what is held or wanted
abbrev pub HasMode : Request → Mode → Type 0
HasMode r m = (r.held ≡ Some m) ⊎ (r.wanted ≡ Some m)

-- a transaction has the parent mode of a mode on each ancestor, or a stronger one
abbrev pub Above : List Request → ℕ → Granule → Mode → Type 0
Above rs t g m = (a : Granule) → In a (ancestors g) → is_enough (parent_mode m) (mode_held t a rs) ≡ true

-- the requests of the transactions that are looked at have their intentions
abbrev pub Rooted : (ℕ → Type 0) → List Request → Type 0
Rooted P rs = (r : Request) → In r rs → P r.txn → (m : Mode) → HasMode r m → Above rs r.txn r.granule m

pub rooted_after : (P : ℕ → Type 0) (rs new : List Request) → AreRequests new → Stays P rs new
    → ((r : Request) → In r new → P r.txn → (m : Mode) → HasMode r m → Above rs r.txn r.granule m) → Rooted P new
rooted_after P rs new one stays each r h p m has a above =
    enough_of r.txn a (parent_mode m) new one (held_still P rs new stays r.txn a (parent_mode m) p (holder_of r.txn a (parent_mode m) rs (each r h p m has a above)))

-- ---- grants

rises_enough : (held wanted : Option Mode) (m : Mode) → Rises held wanted → is_some wanted ≡ true → is_enough m held ≡ true → is_enough m wanted ≡ true
rises_enough None wanted m rise some e = cc
rises_enough (Some h) None m rise some e = cc
rises_enough (Some h) (Some w) m rise some e = enough_trans m h (Some w) e rise

stays_granted : (P : ℕ → Type 0) (rs : List Request) (w : Request) → Fit rs → In w rs → is_some w.wanted ≡ true → Stays P rs (replaced (granted w) rs)
stays_granted P rs w fit in_w wants =
    stays_onto P (granted w) rs (replaced (granted w) rs) (onto_replaced (granted w) rs)
    (λ q h alike m e.
    let same = only_one rs fit.one q w h in_w alike in
    rises_enough w.held w.wanted m (fit.rising w in_w) wants (subst (λ (x : Request). is_enough m x.held ≡ true) same e))

mode_granted : (w : Request) (m : Mode) → HasMode (granted w) m → w.wanted ≡ Some m
mode_granted w m has = ⊎_elim (λ held. held) (λ wanted. cc) has

rooted_granted : (P : ℕ → Type 0) (rs : List Request) (w : Request) → Fit rs → In w rs → is_some w.wanted ≡ true → Rooted P rs → Rooted P (replaced (granted w) rs)
rooted_granted P rs w fit in_w wants rooted =
    rooted_after P rs (replaced (granted w) rs) (AreRequests-replaced (granted w) rs fit.one) (stays_granted P rs w fit in_w wants)
    (λ r h p m has. ⊎_elim
    (λ e.
    let by = ap (λ (x : Request). x.txn) e in
    let its = mode_granted w m (subst (λ (x : Request). HasMode x m) e has) in
    subst (λ (x : Request). Above rs x.txn x.granule m) (sym e) (rooted w in_w (subst P by p) m (inr its)))
    (λ o. rooted r o.0 p m has)
    (In-replaced (granted w) rs r h))

pub stays_passed : (P : ℕ → Type 0) (g : Granule) (rs : List Request) → Fit rs → Stays P rs (passed g rs)
stays_passed P g rs fit =
    (pass_keeps (λ xs. Fit xs × Stays P rs xs) g
    (λ xs w k one in_w at wants can. (Fit-granted xs w k.0 wants can, stays-on P rs xs (replaced (granted w) xs) k.1 (stays_granted P xs w k.0 in_w wants)))
    (waiters_at g rs) rs fit.one refl (fit, stays-self P rs)).1

pub rooted_passed : (P : ℕ → Type 0) (g : Granule) (rs : List Request) → Fit rs → Rooted P rs → Rooted P (passed g rs)
rooted_passed P g rs fit rooted =
    (pass_keeps (λ xs. Fit xs × Rooted P xs) g
    (λ xs w k one in_w at wants can. (Fit-granted xs w k.0 wants can, rooted_granted P xs w k.0 in_w wants k.1))
    (waiters_at g rs) rs fit.one refl (fit, rooted)).1
