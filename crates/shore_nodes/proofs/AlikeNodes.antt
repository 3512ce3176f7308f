-- The node of a request among the nodes.
use Rattle.std.proofs.Common.{◌≡◌, ◌<◌, ◌+◌, inl, inr, ⊎_elim, ℕ, List, [], ◌∷◌, Bool, true, false, None, Some, refl, ap, sym, subst, ◌∙◌, length, map}
use Rattle.std.specs.Prelude.{filter, not, ◌==◌, find}
use Rattle.std.proofs.lemmas.Bool.Decides.{Decides-eqb}
use Rattle.slab.specs.Slab.{Slab, Updates}
use Rattle.shore_model.specs.declared.requests.Request.{Request}
use Rattle.shore_model.specs.Requests.{are_alike, AreRequests}
use Rattle.shore_rings.specs.declared.ring.Link.{Link}
use Rattle.shore_rings.specs.Rings.{In}
use Rattle.shore_nodes.specs.Grants.{removed, replaced}
use Rattle.shore_nodes.specs.Nodes.{IsLinked, in_bucket, nodes_of, list_of, owner_head, owner_of, queue_of, request_at, request_or, requests_in, without}
use Rattle.shore_nodes.proofs.Entering.{found_in, found_none}
use Rattle.shore_nodes.proofs.Spreads.{list_small, owner_small, queue_small}
use Rattle.shore_nodes.proofs.Keys.{alike-Decides, alike-swap, alike_by_keys, in_place, in_place-no, in_place-yes}
use Rattle.shore_nodes.proofs.Members as members
use Rattle.shore_nodes.proofs.Members.{either, filter-yes, filter-no, In-All}
use Rattle.shore_nodes.proofs.NodeLemmas.{pair_at}
use Rattle.shore_nodes.proofs.Links.{filter_in, in_filter, from_member}

pub in_map : {A : Type 0} (f : ℕ → A) (ks : List ℕ) (k : ℕ) → In k ks → members.In (f k) (map f ks)
in_map f [] k h = absurd h
in_map f (x ∷ xs) k h = ⊎_elim (λ e. inl (ap f e)) (λ t. inr (in_map f xs k t)) h

pub from_map : {A : Type 0} (f : ℕ → A) (ks : List ℕ) (y : A) → members.In y (map f ks) → (k : ℕ) × In k ks × (f k ≡ y)
from_map f [] y h = absurd h
from_map f (x ∷ xs) y h = ⊎_elim (λ e. (x, inl refl, e)) (λ t. let r = from_map f xs y t in (r.0, inr r.1, r.2)) h

-- nodes of different keys are not alike
pub apart_keys : (slots : Slab Request) (ks : List ℕ) → AreRequests (requests_in slots ks) → (key k : ℕ) → In key ks → In k ks → (k ≡ key → ⊥) → are_alike (request_at slots k) (request_at slots key) ≡ false
apart_keys slots [] one key k h i other = absurd h
apart_keys slots (x ∷ xs) one key k h i other =
    ⊎_elim
    (λ e. ⊎_elim (λ f. absurd (other (sym f ∙ e)))
    (λ t. alike-swap (request_at slots k) (request_at slots key) ∙ subst (λ z. are_alike (request_at slots z) (request_at slots k) ≡ false) e (In-All (λ o. are_alike (request_at slots x) o ≡ false) (requests_in slots xs) (request_at slots k) one.0 (in_map (request_at slots) xs k t))) i)
    (λ s. ⊎_elim
    (λ f. subst (λ z. are_alike (request_at slots z) (request_at slots key) ≡ false) f (In-All (λ o. are_alike (request_at slots x) o ≡ false) (requests_in slots xs) (request_at slots key) one.0 (in_map (request_at slots) xs key s)))
    (λ t. apart_keys slots xs one.1 key k s t other) i)
    h

-- .. nor alike to a request that is alike to one of them
apart_from : (slots : Slab Request) (ks : List ℕ) (r : Request) → AreRequests (requests_in slots ks) → (key : ℕ) → In key ks → are_alike (request_at slots key) r ≡ true → (k : ℕ) → In k ks → (k ≡ key → ⊥) → are_alike (request_at slots k) r ≡ false
apart_from slots ks r one key h alike k i other =
    let e = (alike-Decides (request_at slots key) r).0 alike in
    alike_by_keys (request_at slots k) r (request_at slots k) (request_at slots key) refl refl (sym e.0) (sym e.1) ∙ apart_keys slots ks one key k h i other

pub filter_mapped : (p : Request → Bool) (f : ℕ → Request) (q : ℕ → Bool) (ks : List ℕ) → ((k : ℕ) → In k ks → p (f k) ≡ q k) → filter p (map f ks) ≡ map f (filter q ks)
filter_mapped p f q [] same = refl
filter_mapped p f q (k ∷ ks) same =
    ⊎_elim
    (λ yes. filter-yes p (f k) (map f ks) (same k (inl refl) ∙ yes) ∙ ap (λ xs. f k ∷ xs) (filter_mapped p f q ks (λ x h. same x (inr h))) ∙ sym (ap (map f) (filter-yes q k ks yes)))
    (λ no. filter-no p (f k) (map f ks) (same k (inl refl) ∙ no) ∙ filter_mapped p f q ks (λ x h. same x (inr h)) ∙ sym (ap (map f) (filter-no q k ks no)))
    (either (q k))

number_other : (k key : ℕ) → (k == key) ≡ false → k ≡ key → ⊥
number_other k key other e = let yes = (Decides-eqb k key).1 e in let f : (k == key) ≡ false = other in cc

-- without its node, the requests are those without it
pub removed_is : (slots : Slab Request) (ks : List ℕ) (r : Request) → AreRequests (requests_in slots ks) → (key : ℕ) → In key ks → are_alike (request_at slots key) r ≡ true → removed r (requests_in slots ks) ≡ requests_in slots (without key ks)
removed_is slots ks r one key h alike =
    filter_mapped (λ q. not (are_alike q r)) (request_at slots) (λ k. not (k == key)) ks
    (λ k i. ⊎_elim
    (λ yes. ap not (subst (λ z. are_alike (request_at slots z) r ≡ true) (sym ((Decides-eqb k key).0 yes)) alike) ∙ sym (ap not yes))
    (λ no. ap not (apart_from slots ks r one key h alike k i (number_other k key no)) ∙ sym (ap not no))
    (either (k == key)))

mapped_same : (f g : ℕ → Request) (ks : List ℕ) → ((k : ℕ) → In k ks → f k ≡ g k) → map f ks ≡ map g ks
mapped_same f g [] same = refl
mapped_same f g (k ∷ ks) same = λ i. same k (inl refl) i ∷ mapped_same f g ks (λ x h. same x (inr h)) i

map_twice : (r : Request) (f : ℕ → Request) (ks : List ℕ) → map (λ k. in_place r (f k)) ks ≡ replaced r (map f ks)
map_twice r f [] = refl
map_twice r f (k ∷ ks) = ap (λ xs. in_place r (f k) ∷ xs) (map_twice r f ks)

-- with another request in its node, the requests have it in the place of the old one
pub replaced_is : (slots new : Slab Request) (ks : List ℕ) (r : Request) → AreRequests (requests_in slots ks) → (key : ℕ) → In key ks → are_alike (request_at slots key) r ≡ true → Updates slots new key (Some r) → requests_in new ks ≡ replaced r (requests_in slots ks)
replaced_is slots new ks r one key h alike updates =
    mapped_same (request_at new) (λ k. in_place r (request_at slots k)) ks
    (λ k i. ⊎_elim
    (λ yes. let e = (Decides-eqb k key).0 yes in
    ap (request_at new) e ∙ ap request_or updates.changed ∙ sym (in_place-yes r (request_at slots k) (subst (λ z. are_alike (request_at slots z) r ≡ true) (sym e) alike)))
    (λ no. let other = number_other k key no in
    ap request_or (updates.others k other) ∙ sym (in_place-no r (request_at slots k) (apart_from slots ks r one key h alike k i other)))
    (either (k == key)))
    ∙ map_twice r (request_at slots) ks

-- what a search through the nodes of a bucket finds
pub record FoundNode (heads : ℕ) (slots : Slab Request) (ks : List ℕ) (r : Request) (node : ℕ) : Type 0 where
  pub key : ℕ
  pub at : heads + key ≡ node
  pub there : In key ks
  pub alike : are_alike (request_at slots key) r ≡ true

pub found_node : (heads : ℕ) (slots : Slab Request) (bucket : ℕ → ℕ) (b : ℕ) (ks : List ℕ) (r : Request) (alike_node : ℕ × Request) → find (λ (p : ℕ × Request). are_alike p.1 r) (map (pair_at heads slots) (in_bucket bucket b ks)) ≡ Some alike_node → FoundNode heads slots ks r alike_node.0
found_node heads slots bucket b ks r alike_node is =
    let f = found_in (λ (p : ℕ × Request). are_alike p.1 r) (map (pair_at heads slots) (in_bucket bucket b ks)) alike_node is in
    let m = from_map (pair_at heads slots) (in_bucket bucket b ks) alike_node f.0 in
    record {
      key = m.0;
      at = ap (λ (p : ℕ × Request). p.0) m.2;
      there = (in_filter (λ k. bucket k == b) ks m.0 m.1).0;
      alike = ap (λ (p : ℕ × Request). are_alike p.1 r) m.2 ∙ f.1;
    }

pub no_node : (heads : ℕ) (slots : Slab Request) (ks : List ℕ) (r : Request) → find (λ (p : ℕ × Request). are_alike p.1 r) (map (pair_at heads slots) (in_bucket (owner_of heads slots) (owner_head heads r.txn r.granule) ks)) ≡ None → (q : Request) → members.In q (requests_in slots ks) → are_alike q r ≡ false
no_node heads slots ks r none q h =
    let m = from_map (request_at slots) ks q h in
    ⊎_elim
    (λ yes.
    let same = (alike-Decides q r).0 yes in
    let bucket : (owner_of heads slots m.0 == owner_head heads r.txn r.granule) ≡ true =
    (Decides-eqb (owner_of heads slots m.0) (owner_head heads r.txn r.granule)).1
    (ap (λ (x : Request). owner_head heads x.txn x.granule) m.2 ∙ ap (λ t. owner_head heads t q.granule) same.0 ∙ ap (λ g. owner_head heads r.txn g) same.1) in
    let there = in_map (pair_at heads slots) (in_bucket (owner_of heads slots) (owner_head heads r.txn r.granule) ks) m.0 (filter_in (λ k. owner_of heads slots k == owner_head heads r.txn r.granule) ks m.0 m.1 bucket) in
    let refuted = found_none (λ (p : ℕ × Request). are_alike p.1 r) (map (pair_at heads slots) (in_bucket (owner_of heads slots) (owner_head heads r.txn r.granule) ks)) none (pair_at heads slots m.0) there in
    let also : are_alike (request_at slots m.0) r ≡ true = ap (λ x. are_alike x r) m.2 ∙ yes in
    absurd (let f : are_alike (request_at slots m.0) r ≡ false = refuted in cc))
    (λ no. no)
    (either (are_alike q r))

-- the place of a node is there in its rings
pub node_within : (heads : ℕ) (slots : Slab Request) (queues lists owners : List Link) (ks : List ℕ) (key : ℕ) → IsLinked heads slots queues lists owners ks → In key ks → (heads + key < length queues) × (heads + key < length lists) × (heads + key < length owners)
node_within heads slots queues lists owners ks key are_linked h =
    let in_places : (bucket : ℕ → ℕ) → In (heads + key) (nodes_of heads (in_bucket bucket (bucket key) ks)) = λ bucket.
    from_member (heads + key) (nodes_of heads (in_bucket bucket (bucket key) ks)) (in_map (λ k. heads + k) (in_bucket bucket (bucket key) ks) key (filter_in (λ k. bucket k == bucket key) ks key h ((Decides-eqb (bucket key) (bucket key)).1 refl))) in (
      (are_linked.queues_hold (queue_of heads slots key) (queue_small (request_at slots key).granule heads are_linked.some_heads)).within (heads + key) (inr (in_places (queue_of heads slots))),
      (are_linked.lists_hold (list_of heads slots key) (list_small (request_at slots key).txn heads are_linked.some_heads)).within (heads + key) (inr (in_places (list_of heads slots))),
      (are_linked.owners_hold (owner_of heads slots key) (owner_small (request_at slots key).txn (request_at slots key).granule heads are_linked.some_heads)).within (heads + key) (inr (in_places (owner_of heads slots))),
    )
