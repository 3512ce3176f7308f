-- The steps of a list of nodes.
use Rattle.std.proofs.Common.{◌≡◌, ◌++◌, ◌<◌, ◌≤◌, ◌+◌, ◌-◌, ⊎_elim, ℕ, List, [], ◌∷◌, Bool, true, false, Option, None, Some, refl, ap, sym, subst, ◌∙◌, length, map, arith}
use Rattle.std.specs.Prelude.{filter, not, ◌==◌, is_some, find, slice_get, IfSome, OnSome, ◌&&◌}
use Rattle.std.specs.List.{list_any}
use Rattle.std.specs.Option.{option_map}
use Rattle.std.proofs.lemmas.Bool.Decides.{Decides-eqb}
use Rattle.std.proofs.lemmas.List.{map-append}
use Rattle.std.proofs.lemmas.List.Elements.{filter-append}
use Rattle.slab.specs.Slab.{Slab, Updates, get, slab_len}
use Rattle.shore_model.specs.declared.requests.Request.{Request}
use Rattle.shore_model.specs.Requests.{are_alike, AreRequests, requests_by}
use Rattle.shore_rings.specs.declared.ring.Link.{Link}
use Rattle.shore_rings.specs.Rings.{Way, after_at, before_at}
use Rattle.shore_nodes.specs.Grants.{removed, replaced}
use Rattle.shore_nodes.specs.Nodes.{IsLinked, LinksIn, LinksOut, alive, in_bucket, list_head, list_of, nodes_of, owner_head, owner_of, pairs_from, queue_head, queue_of, request_at, request_or, requests_in, without, HasRoom}
use Rattle.shore_nodes.specs.Orderly.{IsNewest}
use Rattle.shore_nodes.specs.Tallies.{crowd}
use Rattle.shore_nodes.proofs.AlikeNodes.{FoundNode, filter_mapped, found_node, from_map, in_map, no_node, node_within, removed_is, replaced_is}
use Rattle.shore_nodes.proofs.Entering.{found_in}
use Rattle.shore_nodes.proofs.Fits.{any_of, found_any}
use Rattle.shore_nodes.proofs.Spreads.{list_small, owner_small}
use Rattle.shore_nodes.proofs.Keys.{alike-Decides, alike-self}
use Rattle.shore_nodes.proofs.Members as members
use Rattle.shore_nodes.proofs.NodeLemmas.{alive_comes, alive_goes, list_requests, list_walk, pair_at, owner_walk, filter_of_bucket, requests_more, requests_same, linked_less, linked_more, linked_set}
use Rattle.shore_nodes.proofs.Links.{in_filter}

-- so long as numbers are left, a node has one of them
pub room_left : (limit heads capacity queues lists owners count len : ℕ) → HasRoom limit heads capacity queues lists owners → len ≡ count → count < limit → len + 1 ≤ capacity
room_left limit heads capacity queues lists owners count len room is short = let h = room.within in omega arith

pub room_same : {limit heads capacity capacity_now queues queues_now lists lists_now owners owners_now : ℕ} → HasRoom limit heads capacity queues lists owners → capacity_now ≡ capacity → queues_now ≡ queues → lists_now ≡ lists → owners_now ≡ owners
    → HasRoom limit heads capacity_now queues_now lists_now owners_now
room_same room e f g h = record {
  few_heads = room.few_heads;
  within = let x = room.within in omega arith;
  numbers = let x = room.numbers in omega arith;
  queue_nodes = let x = room.queue_nodes in omega arith;
  list_nodes = let x = room.list_nodes in omega arith;
  owner_nodes = let x = room.owner_nodes in omega arith;
}

pub on_some : {A : Type 0} (P : Type 0) (o : Option A) → is_some o ≡ true → OnSome o P → P
on_some P None e h = cc
on_some P (Some x) e h = h

both_yes : (b c : Bool) → b ≡ true → c ≡ true → (b && c) ≡ true
both_yes true c e f = f
both_yes false c e f = cc

first_of_found : (o : Option (ℕ × Request)) (node : ℕ) → Some node ≡ option_map (λ (p : ℕ × Request). p.0) o → (alike_node : ℕ × Request) × (o ≡ Some alike_node) × (alike_node.0 ≡ node)
first_of_found None node e = cc
first_of_found (Some alike_node) node e = (alike_node, refl, cc)

none_found_by : (o : Option (ℕ × Request)) → None ≡ option_map (λ (p : ℕ × Request). p.0) o → o ≡ None
none_found_by None e = refl
none_found_by (Some alike_node) e = cc

-- what a search along the ring of a transaction and a granule gives
pub search_found : (heads : ℕ) (slots : Slab Request) (queues lists owners : List Link) (ks : List ℕ) (r : Request) (head node : ℕ) (walk : List (ℕ × Request)) → IsLinked heads slots queues lists owners ks → head ≡ owner_head heads r.txn r.granule
    → walk ≡ pairs_from (slab_len slots) slots owners heads head (after_at owners head) → Some node ≡ option_map (λ (p : ℕ × Request). p.0) (find (λ (p : ℕ × Request). are_alike p.1 r) walk) → FoundNode heads slots ks r node
search_found heads slots queues lists owners ks r head node walk are_linked at is e =
    let small : head < heads = subst (λ b. b < heads) (sym at) (owner_small r.txn r.granule heads are_linked.some_heads) in
    let f = first_of_found (find (λ (p : ℕ × Request). are_alike p.1 r) walk) node e in
    let in_walk : find (λ (p : ℕ × Request). are_alike p.1 r) (map (pair_at heads slots) (in_bucket (owner_of heads slots) head ks)) ≡ Some f.0 =
    ap (find (λ (p : ℕ × Request). are_alike p.1 r)) (sym (is ∙ owner_walk heads slots queues lists owners ks head are_linked small)) ∙ f.1 in
    subst (FoundNode heads slots ks r) f.2 (found_node heads slots (owner_of heads slots) head ks r f.0 in_walk)

pub search_none : (heads : ℕ) (slots : Slab Request) (queues lists owners : List Link) (ks : List ℕ) (r : Request) (head : ℕ) (walk : List (ℕ × Request)) → IsLinked heads slots queues lists owners ks → head ≡ owner_head heads r.txn r.granule
    → walk ≡ pairs_from (slab_len slots) slots owners heads head (after_at owners head) → None ≡ option_map (λ (p : ℕ × Request). p.0) (find (λ (p : ℕ × Request). are_alike p.1 r) walk)
    → (q : Request) → members.In q (requests_in slots ks) → are_alike q r ≡ false
search_none heads slots queues lists owners ks r head walk are_linked at is e =
    let small : head < heads = subst (λ b. b < heads) (sym at) (owner_small r.txn r.granule heads are_linked.some_heads) in
    let none : find (λ (p : ℕ × Request). are_alike p.1 r) (map (pair_at heads slots) (in_bucket (owner_of heads slots) head ks)) ≡ None =
    ap (find (λ (p : ℕ × Request). are_alike p.1 r)) (sym (is ∙ owner_walk heads slots queues lists owners ks head are_linked small)) ∙ none_found_by (find (λ (p : ℕ × Request). are_alike p.1 r) walk) e in
    no_node heads slots ks r (subst (λ b. find (λ (p : ℕ × Request). are_alike p.1 r) (map (pair_at heads slots) (in_bucket (owner_of heads slots) b ks)) ≡ None) at none)

-- a node that was found is in its rings
pub found_within : (heads : ℕ) (slots : Slab Request) (queues lists owners : List Link) (ks : List ℕ) (r : Request) (node : ℕ) → IsLinked heads slots queues lists owners ks → FoundNode heads slots ks r node → (node < length queues) × (node < length lists) × (node < length owners)
found_within heads slots queues lists owners ks r node are_linked alike_node =
    let w = node_within heads slots queues lists owners ks alike_node.key are_linked alike_node.there in
    (subst (λ p. p < length queues) alike_node.at w.0, subst (λ p. p < length lists) alike_node.at w.1, subst (λ p. p < length owners) alike_node.at w.2)

key_is : (heads key node : ℕ) → heads + key ≡ node → node - heads ≡ key
key_is heads key node e = omega arith

module _ (heads : ℕ) (slots : Slab Request) (queues lists owners : List Link) (events : List (ℕ × Bool)) (r : Request) (node key : ℕ) where
  pub found_there : IsLinked heads slots queues lists owners (alive events) → FoundNode heads slots (alive events) r node → key ≡ node - heads → is_some (get slots key) ≡ true
  found_there are_linked alike_node at = subst (λ k. is_some (get slots k) ≡ true) (sym (at ∙ key_is heads alike_node.key node alike_node.at)) (are_linked.there alike_node.key alike_node.there)

  -- the node goes
  pub less_linked : (new : Slab Request) (queues_now lists_now owners_now : List Link) (now : List (ℕ × Bool)) → IsLinked heads slots queues lists owners (alive events) → FoundNode heads slots (alive events) r node → key ≡ node - heads
      → Updates slots new key None → slab_len new + 1 ≡ slab_len slots → LinksOut queues queues_now node → LinksOut lists lists_now node → LinksOut owners owners_now node → length queues_now ≡ length queues → length lists_now ≡ length lists → length owners_now ≡ length owners
      → now ≡ events ++ (key, false) ∷ [] → IsLinked heads new queues_now lists_now owners_now (alive now)
  less_linked new queues_now lists_now owners_now now are_linked alike_node at updates less out_queue out_list out_owner long_queues long_lists long_owners goes =
      let same : key ≡ alike_node.key = at ∙ key_is heads alike_node.key node alike_node.at in
      subst (IsLinked heads new queues_now lists_now owners_now) (sym (ap alive goes ∙ alive_goes events key ∙ ap (λ k. without k (alive events)) same))
      (linked_less heads slots queues lists owners (alive events) new queues_now lists_now owners_now alike_node.key are_linked alike_node.there (subst (λ k. Updates slots new k None) same updates) less
      (subst (LinksOut queues queues_now) (sym alike_node.at) out_queue) (subst (LinksOut lists lists_now) (sym alike_node.at) out_list) (subst (LinksOut owners owners_now) (sym alike_node.at) out_owner)
      (let h = are_linked.queue_heads in omega arith) (let h = are_linked.list_heads in omega arith) (let h = are_linked.owner_heads in omega arith))

  pub less_requests : (new : Slab Request) (now : List (ℕ × Bool)) → AreRequests (requests_in slots (alive events)) → FoundNode heads slots (alive events) r node → key ≡ node - heads
      → Updates slots new key None → now ≡ events ++ (key, false) ∷ [] → requests_in new (alive now) ≡ removed r (requests_in slots (alive events))
  less_requests new now one alike_node at updates goes =
      let same : key ≡ alike_node.key = at ∙ key_is heads alike_node.key node alike_node.at in
      ap (requests_in new) (ap alive goes ∙ alive_goes events key)
      ∙ requests_same slots new (without key (alive events)) (λ k h. updates.others k (λ e. let yes = (Decides-eqb k key).1 e in let kept = (in_filter (λ x. not (x == key)) (alive events) k h).1 in let gone : not (k == key) ≡ false = ap not yes in cc))
      ∙ ap (λ k. requests_in slots (without k (alive events))) same
      ∙ sym (removed_is slots (alive events) r one alike_node.key alike_node.there alike_node.alike)

  -- it has another request
  pub set_linked : (new : Slab Request) → IsLinked heads slots queues lists owners (alive events) → FoundNode heads slots (alive events) r node → key ≡ node - heads → Updates slots new key (Some r) → slab_len new ≡ slab_len slots
      → IsLinked heads new queues lists owners (alive events)
  set_linked new are_linked alike_node at updates len =
      let same : key ≡ alike_node.key = at ∙ key_is heads alike_node.key node alike_node.at in
      let keys = (alike-Decides (request_at slots alike_node.key) r).0 alike_node.alike in
      linked_set heads slots queues lists owners (alive events) new alike_node.key r are_linked alike_node.there (subst (λ k. Updates slots new k (Some r)) same updates) len (sym keys.0) (sym keys.1)

  pub set_requests : (new : Slab Request) → AreRequests (requests_in slots (alive events)) → FoundNode heads slots (alive events) r node → key ≡ node - heads → Updates slots new key (Some r)
      → requests_in new (alive events) ≡ replaced r (requests_in slots (alive events))
  set_requests new one alike_node at updates =
      let same : key ≡ alike_node.key = at ∙ key_is heads alike_node.key node alike_node.at in
      replaced_is slots new (alive events) r one alike_node.key alike_node.there alike_node.alike (subst (λ k. Updates slots new k (Some r)) same updates)

-- a node comes
pub more_linked : (heads : ℕ) (slots new : Slab Request) (queues lists owners queues_now lists_now owners_now : List Link) (events now : List (ℕ × Bool)) (r : Request) (key node : ℕ) → IsLinked heads slots queues lists owners (alive events)
    → get slots key ≡ None → node ≡ heads + key → Updates slots new key (Some r) → slab_len new ≡ slab_len slots + 1
    → LinksIn queues queues_now (queue_head heads r.granule) node → LinksIn lists lists_now (list_head heads r.txn) node → LinksIn owners owners_now (owner_head heads r.txn r.granule) node
    → length queues_now ≡ length queues → length lists_now ≡ length lists → length owners_now ≡ length owners
    → now ≡ events ++ (key, true) ∷ [] → IsLinked heads new queues_now lists_now owners_now (alive now)
more_linked heads slots new queues lists owners queues_now lists_now owners_now events now r key node are_linked vacant at updates more in_queue in_list in_owner long_queues long_lists long_owners comes =
    subst (IsLinked heads new queues_now lists_now owners_now) (sym (ap alive comes ∙ alive_comes events key))
    (linked_more heads slots queues lists owners (alive events) new queues_now lists_now owners_now key r are_linked vacant updates more
    (subst (LinksIn queues queues_now (queue_head heads r.granule)) at in_queue) (subst (LinksIn lists lists_now (list_head heads r.txn)) at in_list) (subst (LinksIn owners owners_now (owner_head heads r.txn r.granule)) at in_owner)
    (let h = are_linked.queue_heads in omega arith) (let h = are_linked.list_heads in omega arith) (let h = are_linked.owner_heads in omega arith))

pub more_requests : (heads : ℕ) (slots new : Slab Request) (queues lists owners : List Link) (events now : List (ℕ × Bool)) (r : Request) (key : ℕ) → IsLinked heads slots queues lists owners (alive events)
    → get slots key ≡ None → Updates slots new key (Some r) → now ≡ events ++ (key, true) ∷ [] → requests_in new (alive now) ≡ requests_in slots (alive events) ++ r ∷ []
more_requests heads slots new queues lists owners events now r key are_linked vacant updates comes =
    ap (requests_in new) (ap alive comes ∙ alive_comes events key) ∙ requests_more heads slots queues lists owners (alive events) new key r are_linked vacant updates

-- the first of those that pass is the one found
found_first : {A : Type 0} (p : A → Bool) (xs : List A) → find p xs ≡ slice_get (filter p xs) 0
found_first p [] = refl
found_first p (x ∷ xs) = ⊎_elim (λ yes. rw yes refl) (λ no. rw no (found_first p xs)) (members.either (p x))

found_second : (p : Request → Bool) (nodes : List (ℕ × Request)) (alike_node : ℕ × Request) → Some alike_node ≡ find (λ (n : ℕ × Request). p n.1) nodes → find p (map (λ (n : ℕ × Request). n.1) nodes) ≡ Some alike_node.1
found_second p [] alike_node e = cc
found_second p (x ∷ xs) alike_node e =
    ⊎_elim
    (λ yes. let same : Some alike_node ≡ Some x = rw yes at e in let it : alike_node ≡ x = cc in rw yes (ap Some (ap (λ (n : ℕ × Request). n.1) (sym it))))
    (λ no. let there : Some alike_node ≡ find (λ (n : ℕ × Request). p n.1) xs = rw no at e in rw no (found_second p xs alike_node there))
    (members.either (p x.1))

none_second : (p : Request → Bool) (nodes : List (ℕ × Request)) → None ≡ find (λ (n : ℕ × Request). p n.1) nodes → find p (map (λ (n : ℕ × Request). n.1) nodes) ≡ None
none_second p [] e = refl
none_second p (x ∷ xs) e =
    ⊎_elim
    (λ yes. absurd (let same : None ≡ Some x = rw yes at e in cc))
    (λ no. let there : None ≡ find (λ (n : ℕ × Request). p n.1) xs = rw no at e in rw no (none_second p xs there))
    (members.either (p x.1))

module _ (heads : ℕ) (slots : Slab Request) (queues lists owners : List Link) (ks : List ℕ) (t head : ℕ) (walk : List (ℕ × Request)) where
  list_of_walk : IsLinked heads slots queues lists owners ks → head ≡ list_head heads t → walk ≡ pairs_from (slab_len slots) slots lists heads head (after_at lists head) → requests_by t (map (λ (n : ℕ × Request). n.1) walk) ≡ requests_by t (requests_in slots ks)
  list_of_walk are_linked at is =
      ap (λ w. requests_by t (map (λ (n : ℕ × Request). n.1) w)) (is ∙ ap (λ b. pairs_from (slab_len slots) slots lists heads b (after_at lists b)) at)
      ∙ list_requests heads slots queues lists owners ks t are_linked (list_small t heads are_linked.some_heads)

  -- the first node of a transaction has its first request
  pub first_request : (alike_node : ℕ × Request) → IsLinked heads slots queues lists owners ks → head ≡ list_head heads t → walk ≡ pairs_from (slab_len slots) slots lists heads head (after_at lists head) → Some alike_node ≡ find (λ (p : ℕ × Request). p.1.txn == t) walk
      → Some alike_node.1 ≡ slice_get (requests_by t (requests_in slots ks)) 0
  first_request alike_node are_linked at is e =
      sym (ap (λ xs. slice_get xs 0) (sym (list_of_walk are_linked at is)) ∙ sym (found_first (λ r. r.txn == t) (map (λ (n : ℕ × Request). n.1) walk)) ∙ found_second (λ r. r.txn == t) walk alike_node e)

  pub no_request : IsLinked heads slots queues lists owners ks → head ≡ list_head heads t → walk ≡ pairs_from (slab_len slots) slots lists heads head (after_at lists head) → None ≡ find (λ (p : ℕ × Request). p.1.txn == t) walk
      → None ≡ slice_get (requests_by t (requests_in slots ks)) 0
  no_request are_linked at is e =
      sym (ap (λ xs. slice_get xs 0) (sym (list_of_walk are_linked at is)) ∙ sym (found_first (λ r. r.txn == t) (map (λ (n : ℕ × Request). n.1) walk)) ∙ none_second (λ r. r.txn == t) walk e)

  -- .. and is a node of that request
  pub first_node : (alike_node : ℕ × Request) → IsLinked heads slots queues lists owners ks → head ≡ list_head heads t → walk ≡ pairs_from (slab_len slots) slots lists heads head (after_at lists head) → Some alike_node ≡ find (λ (p : ℕ × Request). p.1.txn == t) walk
      → FoundNode heads slots ks alike_node.1 alike_node.0
  first_node alike_node are_linked at is e =
      let small : head < heads = subst (λ b. b < heads) (sym at) (list_small t heads are_linked.some_heads) in
      let in_walk : find (λ (p : ℕ × Request). p.1.txn == t) (map (pair_at heads slots) (in_bucket (list_of heads slots) head ks)) ≡ Some alike_node =
      ap (find (λ (p : ℕ × Request). p.1.txn == t)) (sym (is ∙ list_walk heads slots queues lists owners ks head are_linked small)) ∙ sym e in
      let f = found_in (λ (p : ℕ × Request). p.1.txn == t) (map (pair_at heads slots) (in_bucket (list_of heads slots) head ks)) alike_node in_walk in
      let m = from_map (pair_at heads slots) (in_bucket (list_of heads slots) head ks) alike_node f.0 in
      record {
        key = m.0;
        at = ap (λ (p : ℕ × Request). p.0) m.2;
        there = (in_filter (λ k. list_of heads slots k == head) ks m.0 m.1).0;
        alike = ap (λ (p : ℕ × Request). are_alike p.1 alike_node.1) m.2 ∙ alike-self alike_node.1;
      }

pub place_is : (heads key node : ℕ) → heads + key ≡ node → node ≡ heads + (node - heads)
place_is heads key node e = omega arith

pub node_any : (heads : ℕ) (slots : Slab Request) (ks : List ℕ) (r : Request) (node : ℕ) → FoundNode heads slots ks r node → list_any (λ q. are_alike q r) (requests_in slots ks) ≡ true
node_any heads slots ks r node alike_node = any_of (λ q. are_alike q r) (requests_in slots ks) (request_at slots alike_node.key) (in_map (request_at slots) ks alike_node.key alike_node.there) alike_node.alike

pub none_of_any : (p : Request → Bool) (rs : List Request) → ((q : Request) → members.In q rs → p q ≡ false) → list_any p rs ≡ false
none_of_any p rs none =
    ⊎_elim (λ yes. absurd (let f = found_any p rs yes in let g = none f.0 f.1 in let h = f.2 in cc)) (λ no. no) (members.either (list_any p rs))

-- the place before the head is the last of its ring
last_key : (heads : ℕ) (f g : ℕ → ℕ) (a k : ℕ) (ks : List ℕ) (b : ℕ) → Way f g a (nodes_of heads (k ∷ ks)) b → (zs : List ℕ) × (j : ℕ) × (k ∷ ks ≡ zs ++ j ∷ []) × (heads + j ≡ g b)
last_key heads f g a k [] b w = ([], k, refl, sym w.1.1)
last_key heads f g a k (l ∷ ks) b w = let r = last_key heads f g (heads + k) l ks b w.1 in (k ∷ r.0, r.1, ap (λ xs. k ∷ xs) r.2, r.3)

last_of_ring : (heads : ℕ) (f g : ℕ → ℕ) (head : ℕ) (ks : List ℕ) → Way f g head (nodes_of heads ks) head → (g head ≡ head → ⊥) → (zs : List ℕ) × (j : ℕ) × (ks ≡ zs ++ j ∷ []) × (heads + j ≡ g head)
last_of_ring heads f g head [] w other = absurd (other w.1)
last_of_ring heads f g head (k ∷ ks) w other = last_key heads f g head k ks head w

-- the node before a head is the newest of its transaction
pub newest_there : (heads : ℕ) (slots : Slab Request) (queues lists owners : List Link) (ks : List ℕ) (t head node key : ℕ) (r : Request) → IsLinked heads slots queues lists owners ks → head ≡ list_head heads t → node ≡ before_at lists head → (node ≡ head → ⊥) → key ≡ node - heads → get slots key ≡ Some r
    → r.txn ≡ t → IsNewest t (requests_in slots ks) r
newest_there heads slots queues lists owners ks t head node key r are_linked at is other key_at stands by =
    let small : head < heads = subst (λ b. b < heads) (sym at) (list_small t heads are_linked.some_heads) in
    let ring = are_linked.lists_hold head small in
    let last = last_of_ring heads (after_at lists) (before_at lists) head (in_bucket (list_of heads slots) head ks) ring.way (λ e. other (is ∙ e)) in
    let same : key ≡ last.1 = let e = last.3 in omega arith in
    let here : request_at slots last.1 ≡ r = ap (request_at slots) (sym same) ∙ ap request_or stands in
    let bucket : requests_by t (requests_in slots (in_bucket (list_of heads slots) head ks)) ≡ requests_by t (requests_in slots ks) =
    filter_of_bucket (λ q. q.txn == t) (request_at slots) (list_of heads slots) head ks (λ k e. ap (λ n. list_head heads n) ((Decides-eqb (request_at slots k).txn t).0 e) ∙ sym at) in (
      requests_by t (requests_in slots last.0),
      sym bucket
          ∙ ap (λ xs. requests_by t (requests_in slots xs)) last.2
          ∙ ap (requests_by t) (map-append (request_at slots) last.0 (last.1 ∷ []))
          ∙ filter-append (λ q. q.txn == t) (requests_in slots last.0) (request_at slots last.1 ∷ [])
          ∙ ap (λ q. requests_by t (requests_in slots last.0) ++ requests_by t (q ∷ [])) here
          ∙ ap (λ xs. requests_by t (requests_in slots last.0) ++ xs) (members.filter-yes (λ q. q.txn == t) r [] ((Decides-eqb r.txn t).1 by)),
    )

-- the node before a head is the last that stands there
pub last_there : (heads : ℕ) (slots : Slab Request) (queues lists owners : List Link) (ks : List ℕ) (head node key : ℕ) (r : Request) → IsLinked heads slots queues lists owners ks → head < heads → node ≡ before_at queues head → (node ≡ head → ⊥) → key ≡ node - heads → get slots key ≡ Some r
    → (xs : List Request) × (crowd heads head (requests_in slots ks) ≡ xs ++ r ∷ [])
last_there heads slots queues lists owners ks head node key r are_linked small is other key_at stands =
    let ring = are_linked.queues_hold head small in
    let last = last_of_ring heads (after_at queues) (before_at queues) head (in_bucket (queue_of heads slots) head ks) ring.way (λ e. other (is ∙ e)) in
    let same : key ≡ last.1 = let e = last.3 in omega arith in
    let here : request_at slots last.1 ≡ r = ap (request_at slots) (sym same) ∙ ap request_or stands in (
      requests_in slots last.0,
      filter_mapped (λ q. queue_head heads q.granule == head) (request_at slots) (λ k. queue_of heads slots k == head) ks (λ k h. refl)
          ∙ ap (requests_in slots) last.2
          ∙ map-append (request_at slots) last.0 (last.1 ∷ [])
          ∙ ap (λ q. requests_in slots last.0 ++ q ∷ []) here,
    )

pub if_some_all : {A : Type 0} (P Q : A → Type 0) (o : Option A) → ((x : A) → P x → Q x) → IfSome o P → IfSome o Q
if_some_all P Q None h i = i
if_some_all P Q (Some x) h i = h x i
