-- Searches among the nodes of a bucket find what searches among all would.
use Rattle.std.proofs.Common.{◌≡◌, ⊎_elim, ℕ, List, [], ◌∷◌, Bool, true, false, refl, ap, sym, ◌∙◌}
use Rattle.std.specs.Prelude.{filter, find, is_some, ◌&&◌, ◌==◌}
use Rattle.shore_types.specs.declared.locking.Granule.{Granule}
use Rattle.shore_model.specs.declared.requests.Request.{Request}
use Rattle.shore_model.specs.Requests.{requests_by}
use Rattle.shore_nodes.specs.Tables.{is_for, request_for, waiting_request}
use Rattle.shore_nodes.proofs.Entering.{both_true, find_here, find_step}
use Rattle.shore_nodes.proofs.Members.{either, filter-no, filter-yes}

pub find_filtered : (p q : Request → Bool) → ((x : Request) → p x ≡ true → q x ≡ true) → (xs : List Request) → find p (filter q xs) ≡ find p xs
find_filtered p q inside [] = refl
find_filtered p q inside (x ∷ xs) =
    ⊎_elim
    (λ yes. ap (find p) (filter-yes q x xs yes)
    ∙ ⊎_elim (λ passes. find_here p x (filter q xs) passes ∙ sym (find_here p x xs passes)) (λ fails. find_step p x (filter q xs) fails ∙ find_filtered p q inside xs ∙ sym (find_step p x xs fails)) (either (p x)))
    (λ no. ap (find p) (filter-no q x xs no) ∙ find_filtered p q inside xs
    ∙ sym (find_step p x xs (⊎_elim (λ passes. absurd (let yes = inside x passes in let f : q x ≡ false = no in cc)) (λ fails. fails) (either (p x)))))
    (either (q x))

pub request_for_same : (t : ℕ) (g : Granule) (xs ys : List Request) → filter (is_for t g) xs ≡ filter (is_for t g) ys → request_for t g xs ≡ request_for t g ys
request_for_same t g xs ys same =
    sym (find_filtered (is_for t g) (is_for t g) (λ x e. e) xs) ∙ ap (find (is_for t g)) same ∙ find_filtered (is_for t g) (is_for t g) (λ x e. e) ys

pub waiting_same : (t : ℕ) (xs ys : List Request) → requests_by t xs ≡ requests_by t ys → waiting_request t xs ≡ waiting_request t ys
waiting_same t xs ys same =
    let inside = λ (x : Request) (e : ((x.txn == t) && is_some x.wanted) ≡ true). (both_true (x.txn == t) (is_some x.wanted) e).0 in
    sym (find_filtered (λ r. (r.txn == t) && is_some r.wanted) (λ r. r.txn == t) inside xs) ∙ ap (find (λ r. (r.txn == t) && is_some r.wanted)) same
    ∙ find_filtered (λ r. (r.txn == t) && is_some r.wanted) (λ r. r.txn == t) inside ys
