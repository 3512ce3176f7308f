-- Who waited and waits no more, after a cancel or a release of another, holds what he wanted.
use Rattle.std.proofs.Common.{◌≡◌, ◌⊎◌, inl, inr, ⊎_elim, ℕ, List, [], ◌∷◌, Bool, true, false, Option, None, Some, refl, ap, sym, subst, ◌∙◌}
use Rattle.std.specs.Prelude.{◌==◌, cond, is_some, not}
use Rattle.std.proofs.lemmas.Bool.Decides.{Decides-eqb}
use Rattle.shore_types.specs.declared.locking.Granule.{Granule}
use Rattle.shore_model.specs.declared.requests.Request.{Request}
use Rattle.shore_model.specs.Requests.{are_alike, requests_by}
use Rattle.shore_locks.specs.Grants.{cancelled, given_up, granted, passed, released, removed, replaced, taken_back_if, withdrawn}
use Rattle.shore_locks.specs.Orderly.{IsOrderly}
use Rattle.shore_locks.specs.Tables.{is_waiting, mode_held, waiters_at, waiting_request}
use Rattle.shore_locks.proofs.Members.{In, In-filter, either, filter-In}
use Rattle.shore_locks.proofs.Keys.{alike-Decides, only_one}
use Rattle.shore_locks.proofs.Fits.{Fit, Fit-filter, Fit-passed, Fit-withdrawn, wants_nothing}
use Rattle.shore_locks.proofs.Entering.{none_waits}
use Rattle.shore_locks.proofs.Tables.{fit_of, orderly_cancelled, orderly_given_up}
use Rattle.shore_path.proofs.Holding.{held_as}
use Rattle.shore_path.proofs.Moving.{onto_replaced}
use Rattle.shore_cycles.proofs.Changes.{IsNext, next_in, pass_goes}
use Rattle.shore_cycles.proofs.Steps.{waits_as}

-- a request is there as it was, or with what it wanted held
abbrev Fate : Request → List Request → Type 0
Fate r rs = In r rs ⊎ In (granted r) rs

fate_grant : (r : Request) (g : Granule) (rs : List Request) (w : Request) (ws : List Request) → IsNext g rs w ws → Fate r rs → Fate r (replaced (granted w) rs)
fate_grant r g rs w ws next fate =
    let there = next_in g rs w ws next in
    ⊎_elim
    (λ stood. ⊎_elim
    (λ taken. let same : w ≡ r = sym (only_one rs next.fit.one r w stood there.0 taken.0) in inr (subst (λ x. In (granted x) (replaced (granted w) rs)) same taken.1))
    (λ stays. inl stays)
    (onto_replaced (granted w) rs r stood))
    (λ was. ⊎_elim
    (λ taken. absurd (let same : granted r ≡ w = only_one rs next.fit.one (granted r) w was there.0 taken.0 in wants_nothing w.wanted (ap (λ (x : Request). x.wanted) (sym same)) there.2))
    (λ stays. inr stays)
    (onto_replaced (granted w) rs (granted r) was))
    fate

fate_passed : (r : Request) (g : Granule) (rs : List Request) → Fit rs → Fate r rs → Fate r (passed g rs)
fate_passed r g rs fit fate = pass_goes (Fate r) g (λ xs w ws next so_far. fate_grant r g xs w ws next so_far) (waiters_at g rs) rs fit refl fate

-- a request of another is not alike
unlike : (r q : Request) → (r.txn ≡ q.txn → ⊥) → are_alike r q ≡ false
unlike r q other = ⊎_elim (λ alike. absurd (other ((alike-Decides r q).0 alike).0)) (λ no. no) (either (are_alike r q))

stays_removed : (r q : Request) (rs : List Request) → (r.txn ≡ q.txn → ⊥) → In r rs → In r (removed q rs)
stays_removed r q rs other h = filter-In (λ x. not (are_alike x q)) rs r h (ap not (unlike r q other))

fate_removed : (r q : Request) (rs : List Request) → (r.txn ≡ q.txn → ⊥) → Fate r rs → Fate r (removed q rs)
fate_removed r q rs other fate = ⊎_elim (λ h. inl (stays_removed r q rs other h)) (λ h. inr (stays_removed (granted r) q rs other h)) fate

fate_withdrawn : (r q : Request) (rs : List Request) → (r.txn ≡ q.txn → ⊥) → In r rs → Fate r (replaced (withdrawn q) rs)
fate_withdrawn r q rs other h =
    ⊎_elim (λ taken. absurd (other ((alike-Decides r (withdrawn q)).0 taken.0).0)) (λ stays. inl stays) (onto_replaced (withdrawn q) rs r h)

fate_stopped : (r q : Request) (rs : List Request) (b : Bool) → is_some q.held ≡ b → Fit rs → In q rs → (r.txn ≡ q.txn → ⊥) → In r rs → Fate r (passed q.granule (cond b (replaced (withdrawn q) rs) (removed q rs)))
fate_stopped r q rs true is fit there other h = fate_passed r q.granule (replaced (withdrawn q) rs) (Fit-withdrawn rs q fit there is) (fate_withdrawn r q rs other h)
fate_stopped r q rs false is fit there other h = fate_passed r q.granule (removed q rs) (Fit-filter (λ x. not (are_alike x q)) rs fit) (fate_removed r q rs other (inl h))

fate_taken : (r : Request) (t : ℕ) (rs : List Request) (o : Option Request) → waiting_request t rs ≡ o → Fit rs → (r.txn ≡ t → ⊥) → In r rs → Fate r (taken_back_if o rs)
fate_taken r t rs None is fit other h = inl h
fate_taken r t rs (Some q) is fit other h =
    let waits = waits_as t rs q is in fate_stopped r q rs (is_some q.held) refl fit waits.there (λ same. other (same ∙ waits.by)) h

fate_given : (r : Request) (t : ℕ) (mine rs : List Request) → ((q : Request) → In q mine → q.txn ≡ t) → Fit rs → (r.txn ≡ t → ⊥) → Fate r rs → Fate r (given_up mine rs)
fate_given r t [] rs its fit other fate = fate
fate_given r t (q ∷ mine) rs its fit other fate =
    let left = Fit-filter (λ x. not (are_alike x q)) rs fit in
    fate_given r t mine (passed q.granule (removed q rs)) (λ x h. its x (inr h)) (Fit-passed q.granule (removed q rs) left) other
    (fate_passed r q.granule (removed q rs) left (fate_removed r q rs (λ same. other (same ∙ its q (inl refl))) fate))

holds_it : (rs new : List Request) (u : ℕ) (r : Request) → IsOrderly new → waiting_request u rs ≡ Some r → is_waiting u new ≡ false → Fate r new → mode_held u r.granule new ≡ r.wanted
holds_it rs new u r orderly is quiet fate =
    let waits = waits_as u rs r is in
    ⊎_elim
    (λ stays. absurd (none_waits u new quiet r stays waits.by waits.wants))
    (λ held. subst (λ v. mode_held v r.granule new ≡ r.wanted) waits.by (held_as new orderly.one_each (granted r) held))
    fate

pub woken_cancel : (rs : List Request) (t u : ℕ) (r : Request) → IsOrderly rs → waiting_request u rs ≡ Some r → (u ≡ t → ⊥) → is_waiting u (cancelled t rs) ≡ false → mode_held u r.granule (cancelled t rs) ≡ r.wanted
woken_cancel rs t u r orderly is other quiet =
    let waits = waits_as u rs r is in
    holds_it rs (cancelled t rs) u r (orderly_cancelled t rs orderly) is quiet
    (fate_taken r t rs (waiting_request t rs) refl (fit_of rs orderly) (λ same. other (sym waits.by ∙ same)) waits.there)

pub woken_release : (rs : List Request) (t u : ℕ) (r : Request) → IsOrderly rs → waiting_request u rs ≡ Some r → (u ≡ t → ⊥) → is_waiting u (released t rs) ≡ false → mode_held u r.granule (released t rs) ≡ r.wanted
woken_release rs t u r orderly is other quiet =
    let waits = waits_as u rs r is in
    holds_it rs (released t rs) u r (orderly_given_up (requests_by t rs) rs orderly) is quiet
    (fate_given r t (requests_by t rs) rs (λ q h. (Decides-eqb q.txn t).0 (In-filter (λ x. x.txn == t) rs q h).1) (fit_of rs orderly) (λ same. other (sym waits.by ∙ same)) (inl waits.there))
