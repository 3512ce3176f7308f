-- A transaction asks for a granule: it begins to wait, or is granted at once.
use Rattle.std.proofs.Common.{◌≡◌, ◌⊎◌, inl, inr, ⊎_elim, ℕ, List, [], ◌∷◌, true, false, Option, None, Some, refl, ap, sym, subst, ◌∙◌}
use Rattle.std.specs.Prelude.{◌==◌, ◌&&◌, is_some}
use Rattle.std.specs.List.{list_any}
use Rattle.std.proofs.lemmas.Bool.Decides.{Decides-eqb}
use Rattle.shore_types.specs.declared.locking.Granule.{Granule}
use Rattle.shore_types.specs.declared.locking.Mode.{Mode}
use Rattle.shore_types.specs.Locking.{same_granule}
use Rattle.shore_model.specs.declared.requests.Request.{Request}
use Rattle.shore_model.specs.Requests.{are_alike, AreRequests, placed_last}
use Rattle.shore_locks.specs.Grants.{after_grant, after_try, wanted_mode, asking, granted, is_enough, is_full, obstacle, passed, put, removed, replaced}
use Rattle.shore_locks.specs.Tables.{is_waiting, mode_held, waiters_at, waiting_request}
use Rattle.shore_locks.proofs.Members.{In, either, In-right}
use Rattle.shore_locks.proofs.Keys.{alike-Decides, same_granule-Decides}
use Rattle.shore_locks.proofs.Counts.{AreRequests-passed}
use Rattle.shore_locks.proofs.Fits.{Fit, Fit-passed, AreRequests-placed, In-placed, In-replaced, found_any, pass_keeps, wants_nothing}
use Rattle.shore_locks.proofs.Others.{put_in_place, put_last}
use Rattle.shore_locks.proofs.Entering.{AreRequests-put, Fit-put, In-put, both_true, found_in, found_none, none_waits}
use Rattle.shore_locks.proofs.Answered.{stays_quiet}
use Rattle.shore_locks.proofs.Outcomes.{nobody_wants}
use Rattle.shore_path.proofs.Holding.{SameAt, held_as, holding, same_held}
use Rattle.shore_path.proofs.ModeFacts.{aim_above, aim_intends}
use Rattle.shore_path.proofs.Moving.{Above, HasMode, Rooted, Stays, onto_placed, onto_put, onto_replaced, rooted_after, rooted_passed, stays-on, stays_onto, stays_passed}

-- what is held as one asks is what the request holds that is there already
asking_held : (t : ℕ) (g : Granule) (mode : Mode) (rs : List Request) → AreRequests rs → (q : Request) → In q rs → are_alike q (asking t g mode rs) ≡ true → mode_held t g rs ≡ q.held
asking_held t g mode rs one q h alike =
    let key = (alike-Decides q (asking t g mode rs)).0 alike in
    subst (λ u. mode_held u g rs ≡ q.held) key.0 (subst (λ k. mode_held q.txn k rs ≡ q.held) key.1 (held_as rs one q h))

pub stays_placed : (P : ℕ → Type 0) (t : ℕ) (g : Granule) (mode : Mode) (rs : List Request) → AreRequests rs → Stays P rs (placed_last (asking t g mode rs) rs)
stays_placed P t g mode rs one =
    stays_onto P (asking t g mode rs) rs (placed_last (asking t g mode rs) rs) (onto_placed (asking t g mode rs) rs)
    (λ q h alike m e. ap (is_enough m) (asking_held t g mode rs one q h alike) ∙ e)

stays_put : (P : ℕ → Type 0) (t : ℕ) (g : Granule) (mode : Mode) (rs : List Request) → AreRequests rs → Stays P rs (put (granted (asking t g mode rs)) rs)
stays_put P t g mode rs one =
    stays_onto P (granted (asking t g mode rs)) rs (put (granted (asking t g mode rs)) rs) (onto_put (granted (asking t g mode rs)) rs)
    (λ q h alike m e. aim_above m (mode_held t g rs) mode (ap (is_enough m) (asking_held t g mode rs one q h alike) ∙ e))

pub stays_grant : (P : ℕ → Type 0) (t : ℕ) (g : Granule) (mode : Mode) (rs : List Request) → Fit rs → obstacle (asking t g mode rs) rs ≡ None → Stays P rs (after_grant t g mode rs)
stays_grant P t g mode rs fit free =
    stays-on P rs (put (granted (asking t g mode rs)) rs) (after_grant t g mode rs) (stays_put P t g mode rs fit.one)
    (stays_passed P g (put (granted (asking t g mode rs)) rs) (Fit-put t g mode rs fit free))

-- ---- intentions

above_held : (P : ℕ → Type 0) (t : ℕ) (g : Granule) (m : Mode) (rs : List Request) → Rooted P rs → P t → mode_held t g rs ≡ Some m → Above rs t g m
above_held P t g m rs rooted p is =
    let q = holding t g m rs is in
    subst (λ u. Above rs u g m) q.2 (subst (λ k. Above rs q.0.txn k m) q.3 (rooted q.0 q.1 (subst P (sym q.2) p) m (inl q.4)))

above_aim : (P : ℕ → Type 0) (t : ℕ) (g : Granule) (mode : Mode) (rs : List Request) → Rooted P rs → P t → Above rs t g mode → Above rs t g (wanted_mode (mode_held t g rs) mode)
above_aim P t g mode rs rooted p above a h =
    aim_intends (mode_held t g rs) mode (mode_held t a rs) (λ m is. above_held P t g m rs rooted p is a h) (above a h)

some_is : (m k : Mode) → Some m ≡ Some k → m ≡ k
some_is m k e = cc

pub rooted_placed : (P : ℕ → Type 0) (t : ℕ) (g : Granule) (mode : Mode) (rs : List Request) → AreRequests rs → Rooted P rs → Above rs t g mode → Rooted P (placed_last (asking t g mode rs) rs)
rooted_placed P t g mode rs one rooted above =
    rooted_after P rs (placed_last (asking t g mode rs) rs) (AreRequests-placed (asking t g mode rs) rs one) (stays_placed P t g mode rs one)
    (λ r h p m has. ⊎_elim
    (λ e.
    let p = subst P (ap (λ (x : Request). x.txn) e) p in
    subst (λ (x : Request). Above rs x.txn x.granule m) (sym e)
    (⊎_elim (λ held. above_held P t g m rs rooted p held)
    (λ wanted. subst (Above rs t g) (some_is (wanted_mode (mode_held t g rs) mode) m wanted) (above_aim P t g mode rs rooted p above))
    (subst (λ (x : Request). HasMode x m) e has)))
    (λ o. rooted r o.0 p m has)
    (In-placed (asking t g mode rs) rs r h))

mode_put : (t : ℕ) (g : Granule) (mode m : Mode) (rs : List Request) → HasMode (granted (asking t g mode rs)) m → wanted_mode (mode_held t g rs) mode ≡ m
mode_put t g mode m rs has = ⊎_elim (λ held. some_is (wanted_mode (mode_held t g rs) mode) m held) (λ wanted. cc) has

rooted_put : (P : ℕ → Type 0) (t : ℕ) (g : Granule) (mode : Mode) (rs : List Request) → AreRequests rs → Rooted P rs → Above rs t g mode → Rooted P (put (granted (asking t g mode rs)) rs)
rooted_put P t g mode rs one rooted above =
    rooted_after P rs (put (granted (asking t g mode rs)) rs) (AreRequests-put (granted (asking t g mode rs)) rs one) (stays_put P t g mode rs one)
    (λ r h p m has. ⊎_elim
    (λ e.
    let p = subst P (ap (λ (x : Request). x.txn) e) p in
    subst (λ (x : Request). Above rs x.txn x.granule m) (sym e)
    (subst (Above rs t g) (mode_put t g mode m rs (subst (λ (x : Request). HasMode x m) e has)) (above_aim P t g mode rs rooted p above)))
    (λ o. rooted r o.0 p m has)
    (In-put (granted (asking t g mode rs)) rs r h))

pub rooted_grant : (P : ℕ → Type 0) (t : ℕ) (g : Granule) (mode : Mode) (rs : List Request) → Fit rs → obstacle (asking t g mode rs) rs ≡ None → Rooted P rs → Above rs t g mode
    → Rooted P (after_grant t g mode rs)
rooted_grant P t g mode rs fit free rooted above =
    rooted_passed P g (put (granted (asking t g mode rs)) rs) (Fit-put t g mode rs fit free) (rooted_put P t g mode rs fit.one rooted above)

-- ---- a transaction that does not wait

pub Fit-grant : (t : ℕ) (g : Granule) (mode : Mode) (rs : List Request) → Fit rs → obstacle (asking t g mode rs) rs ≡ None → Fit (after_grant t g mode rs)
Fit-grant t g mode rs fit free = Fit-passed g (put (granted (asking t g mode rs)) rs) (Fit-put t g mode rs fit free)

pub quiet_grant : (limit t : ℕ) (g : Granule) (mode : Mode) (rs : List Request) → AreRequests rs → is_waiting t rs ≡ false → is_enough mode (mode_held t g rs) ≡ false
    → is_full (record { limit = limit; requests = rs }) t g ≡ false → obstacle (asking t g mode rs) rs ≡ None → is_waiting t (after_grant t g mode rs) ≡ false
quiet_grant limit t g mode rs one quiet less room free =
    let now : after_try (record { limit = limit; requests = rs }) t g mode ≡ after_grant t g mode rs = rw (less, room, free) refl in
    subst (λ xs. is_waiting t xs ≡ false) now (stays_quiet (record { limit = limit; requests = rs }) t g mode one quiet).1

waits_found : (t : ℕ) (g : Granule) (mode : Mode) (rs : List Request) → is_waiting t rs ≡ false → (o : Option Request) → waiting_request t (placed_last (asking t g mode rs) rs) ≡ o → o ≡ Some (asking t g mode rs)
waits_found t g mode rs quiet None is =
    let there : In (asking t g mode rs) (placed_last (asking t g mode rs) rs) = In-right (removed (asking t g mode rs) rs) (asking t g mode rs ∷ []) (asking t g mode rs) (inl refl) in
    let missed : ((t == t) && true) ≡ false = found_none (λ (q : Request). (q.txn == t) && is_some q.wanted) (placed_last (asking t g mode rs) rs) is (asking t g mode rs) there in
    absurd (let f : true ≡ false = subst (λ b. (b && true) ≡ false) ((Decides-eqb t t).1 refl) missed in cc)
waits_found t g mode rs quiet (Some q) is =
    let f = found_in (λ (r : Request). (r.txn == t) && is_some r.wanted) (placed_last (asking t g mode rs) rs) q is in
    let p = both_true (q.txn == t) (is_some q.wanted) f.1 in
    ⊎_elim (λ e. ap Some e) (λ o. absurd (none_waits t rs quiet q o.0 ((Decides-eqb q.txn t).0 p.0) p.1)) (In-placed (asking t g mode rs) rs q f.0)

-- one that begins to wait is the one that is found to wait
pub waits_placed : (t : ℕ) (g : Granule) (mode : Mode) (rs : List Request) → is_waiting t rs ≡ false → waiting_request t (placed_last (asking t g mode rs) rs) ≡ Some (asking t g mode rs)
waits_placed t g mode rs quiet = waits_found t g mode rs quiet (waiting_request t (placed_last (asking t g mode rs) rs)) refl

-- ---- what a transaction holds that does not wait

-- the transaction's requests are in both lists, or in neither
abbrev SameOf : ℕ → List Request → List Request → Type 0
SameOf t xs ys = (q : Request) → q.txn ≡ t → (In q xs → In q ys) × (In q ys → In q xs)

-- a grant to another leaves them
same_granted : (t : ℕ) (xs : List Request) (w : Request) → (w.txn ≡ t → ⊥) → SameOf t xs (replaced (granted w) xs)
same_granted t xs w other q by = (
  λ h. ⊎_elim (λ a. absurd (other (sym ((alike-Decides q (granted w)).0 a.0).0 ∙ by))) (λ b. b) (onto_replaced (granted w) xs q h),
  λ h. ⊎_elim (λ e. absurd (other (sym (ap (λ (x : Request). x.txn) e) ∙ by))) (λ o. o.0) (In-replaced (granted w) xs q h),
)

-- what is new to the list of a transaction that wants nothing wants nothing
quiet_as : (t : ℕ) (xs ys : List Request) → SameOf t xs ys → is_waiting t xs ≡ false → is_waiting t ys ≡ false
quiet_as t xs ys same quiet = nobody_wants t ys (λ q h by wants. none_waits t xs quiet q ((same q by).1 h) by wants)

same_passed : (t : ℕ) (g : Granule) (rs : List Request) → AreRequests rs → is_waiting t rs ≡ false → SameOf t rs (passed g rs)
same_passed t g rs one quiet =
    (pass_keeps (λ xs. (is_waiting t xs ≡ false) × SameOf t rs xs) g
    (λ xs w k one in_w at wants can.
    let step = same_granted t xs w (λ by. none_waits t xs k.0 w in_w by wants) in (
      quiet_as t xs (replaced (granted w) xs) step k.0,
      (λ q by. (λ h. (step q by).0 ((k.1 q by).0 h), λ h. (k.1 q by).1 ((step q by).1 h))),
    ))
    (waiters_at g rs) rs one refl (quiet, (λ q by. (λ h. h, λ h. h)))).1

pub put_there : (r : Request) (rs : List Request) → In r (put r rs)
put_there r rs =
    ⊎_elim
    (λ yes. subst (In r) (sym (put_in_place r rs yes))
    (let f = found_any (λ q. are_alike q r) rs yes in
    ⊎_elim (λ a. a.1) (λ b. ⊎_elim (λ e. subst (λ x. In x (replaced r rs)) e b) (λ o. absurd (let no = o.1 in let yes = f.2 in cc)) (In-replaced r rs f.0 b)) (onto_replaced r rs f.0 f.1)))
    (λ none. subst (In r) (sym (put_last r rs none)) (In-right rs (r ∷ []) r (inl refl)))
    (either (list_any (λ q. are_alike q r) rs))

pub same_put : (t : ℕ) (k : Granule) (r : Request) (rs : List Request) → (r.granule ≡ k → ⊥) → SameAt t k rs (put r rs)
same_put t k r rs other q by at = (
  λ h. ⊎_elim (λ a. absurd (other (sym ((alike-Decides q r).0 a.0).1 ∙ at))) (λ b. b) (onto_put r rs q h),
  λ h. ⊎_elim (λ e. absurd (other (sym (ap (λ (x : Request). x.granule) e) ∙ at))) (λ o. o.0) (In-put r rs q h),
)

same_placed : (t : ℕ) (k : Granule) (r : Request) (rs : List Request) → (r.granule ≡ k → ⊥) → SameAt t k rs (placed_last r rs)
same_placed t k r rs other q by at = (
  λ h. ⊎_elim (λ a. absurd (other (sym ((alike-Decides q r).0 a.0).1 ∙ at))) (λ b. b) (onto_placed r rs q h),
  λ h. ⊎_elim (λ e. absurd (other (sym (ap (λ (x : Request). x.granule) e) ∙ at))) (λ o. o.0) (In-placed r rs q h),
)

quiet_put : (t : ℕ) (g : Granule) (mode : Mode) (rs : List Request) → is_waiting t rs ≡ false → is_waiting t (put (granted (asking t g mode rs)) rs) ≡ false
quiet_put t g mode rs quiet =
    nobody_wants t (put (granted (asking t g mode rs)) rs) (λ q h by wants. ⊎_elim
    (λ e. wants_nothing q.wanted (ap (λ (x : Request). x.wanted) e) wants)
    (λ o. none_waits t rs quiet q o.0 by wants)
    (In-put (granted (asking t g mode rs)) rs q h))

-- what is granted at once is held, and nothing else changes of what the transaction holds
pub held_grant : (t : ℕ) (g : Granule) (mode : Mode) (rs : List Request) → AreRequests rs → is_waiting t rs ≡ false → (k : Granule)
    → (mode_held t k (after_grant t g mode rs) ≡ mode_held t k rs) ⊎ ((g ≡ k) × (mode_held t k (after_grant t g mode rs) ≡ Some (wanted_mode (mode_held t k rs) mode)))
held_grant t g mode rs one quiet k =
    let r = granted (asking t g mode rs) in
    let ones = AreRequests-put (granted (asking t g mode rs)) rs one in
    let same = same_passed t g (put (granted (asking t g mode rs)) rs) ones (quiet_put t g mode rs quiet) in
    let all : AreRequests (after_grant t g mode rs) = AreRequests-passed g (put (granted (asking t g mode rs)) rs) ones in
    ⊎_elim
    (λ yes.
    let e = (same_granule-Decides g k).0 yes in
    inr (
      e,
      subst (λ h. mode_held t h (after_grant t g mode rs) ≡ Some (wanted_mode (mode_held t h rs) mode)) e
          (held_as (after_grant t g mode rs) all (granted (asking t g mode rs)) ((same (granted (asking t g mode rs)) refl).0 (put_there (granted (asking t g mode rs)) rs))),
    ))
    (λ no.
    let other : g ≡ k → ⊥ = λ e. let yes = (same_granule-Decides g k).1 e in cc in
    inl (sym (same_held t k (put (granted (asking t g mode rs)) rs) (after_grant t g mode rs) ones all (λ q by at. same q by))
    ∙ sym (same_held t k rs (put (granted (asking t g mode rs)) rs) one ones (same_put t k (granted (asking t g mode rs)) rs other))))
    (either (same_granule g k))

-- .. nor does anything if it begins to wait
pub held_placed : (t : ℕ) (g : Granule) (mode : Mode) (rs : List Request) → AreRequests rs → (k : Granule) → mode_held t k (placed_last (asking t g mode rs) rs) ≡ mode_held t k rs
held_placed t g mode rs one k =
    let all = AreRequests-placed (asking t g mode rs) rs one in
    ⊎_elim
    (λ yes.
    let e = (same_granule-Decides g k).0 yes in
    subst (λ h. mode_held t h (placed_last (asking t g mode rs) rs) ≡ mode_held t h rs) e
    (held_as (placed_last (asking t g mode rs) rs) all (asking t g mode rs) (In-right (removed (asking t g mode rs) rs) (asking t g mode rs ∷ []) (asking t g mode rs) (inl refl))))
    (λ no.
    let other : g ≡ k → ⊥ = λ e. let yes = (same_granule-Decides g k).1 e in cc in
    sym (same_held t k rs (placed_last (asking t g mode rs) rs) one all (same_placed t k (asking t g mode rs) rs other)))
    (either (same_granule g k))
