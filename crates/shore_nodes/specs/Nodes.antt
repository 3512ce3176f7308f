-- Requests as nodes of a slab, linked into three rings each: by its granule, by its transaction, and by both.
use Rattle.std.specs.Prelude.{◌≡◌, ◌==◌, ◌<◌, ◌≤◌, ◌+◌, ◌-◌, ◌*◌, ◌/◌, ◌%◌, ◌^◌, ◌++◌, ℕ, zero, suc, List, [], ◌∷◌, Bool, true, not, cond, Option, None, Some, is_some, filter, map, length, nat_lt}
use Rattle.slab.specs.Slab.{Slab, get, slab_len}
use Rattle.shore_types.specs.declared.locking.Granule.{Granule}
use Rattle.shore_types.specs.declared.locking.Granule.TheVariants.{Volume, Store, Page, Record}
use Rattle.shore_model.specs.declared.requests.Request.{Request}
use Rattle.shore_rings.specs.declared.ring.Link.{Link}
use Rattle.shore_rings.specs.Rings.{Apart, Distinct, In, IsRing, after_at}

-- a number for each granule: small ones for the volume and the first stores, in whose queues everybody stands
abbrev pub granule_number : Granule → ℕ
granule_number Volume = 0
granule_number (Store s) = s + 1
granule_number (Page p) = p.store * 65599 + p.page + 65
granule_number (Record r) = (r.page.store * 65599 + r.page.page + 65) * 2053 + r.slot

-- a number is spread over so many heads by a multiplication, of which the high bits count (Fibonacci hashing)
abbrev pub spread : ℕ → ℕ → ℕ
spread heads n = (n * 11400714819323198485) % 2 ^ 64 / 2 ^ 32 * heads / 2 ^ 32

-- the heads under which a request finds its three rings: that of its granule, of its transaction, and of both
abbrev pub queue_head : ℕ → Granule → ℕ
queue_head heads g = cond (nat_lt (granule_number g) 65) (granule_number g) (65 + spread (heads - 65) (granule_number g))

abbrev pub list_head : ℕ → ℕ → ℕ
list_head heads t = spread heads t

abbrev pub owner_head : ℕ → ℕ → Granule → ℕ
owner_head heads t g = spread heads ((granule_number g + (t * 15074714826142052245) % 2 ^ 64) % 2 ^ 64)

abbrev pub request_or : Option Request → Request
request_or None = record { txn = 0; granule = Volume; held = None; wanted = None }
request_or (Some r) = r

-- the request at a key
abbrev pub request_at : Slab Request → ℕ → Request
request_at slots key = request_or (get slots key)

-- the buckets of the request at a key
abbrev pub queue_of : ℕ → Slab Request → ℕ → ℕ
queue_of heads slots key = queue_head heads (request_at slots key).granule

abbrev pub list_of : ℕ → Slab Request → ℕ → ℕ
list_of heads slots key = list_head heads (request_at slots key).txn

abbrev pub owner_of : ℕ → Slab Request → ℕ → ℕ
owner_of heads slots key = owner_head heads (request_at slots key).txn (request_at slots key).granule

-- keys without one
abbrev pub without : ℕ → List ℕ → List ℕ
without key keys = filter (λ k. not (k == key)) keys

-- the keys that came and did not go again, in the order in which they came
abbrev pub left_after : List ℕ → List (ℕ × Bool) → List ℕ
left_after keys [] = keys
left_after keys (e ∷ es) = left_after (cond e.1 (keys ++ e.0 ∷ []) (without e.0 keys)) es

abbrev pub alive : List (ℕ × Bool) → List ℕ
alive events = left_after [] events

-- the requests at these keys
abbrev pub requests_in : Slab Request → List ℕ → List Request
requests_in slots keys = map (request_at slots) keys

-- the keys of a bucket, and their nodes behind those of the heads
abbrev pub in_bucket : (ℕ → ℕ) → ℕ → List ℕ → List ℕ
in_bucket bucket b keys = filter (λ k. bucket k == b) keys

abbrev pub nodes_of : ℕ → List ℕ → List ℕ
nodes_of heads keys = map (λ k. heads + k) keys

-- the ring of each head has the keys of its bucket
abbrev pub RingsHold : List Link → ℕ → (ℕ → ℕ) → List ℕ → Type 0
RingsHold links heads bucket keys = (b : ℕ) → b < heads → IsRing links b (nodes_of heads (in_bucket bucket b keys))

-- the nodes are those of the keys, each in its three rings
pub record IsLinked (heads : ℕ) (slots : Slab Request) (queues lists owners : List Link) (keys : List ℕ) : Type 0 where
  pub some_heads : 65 < heads
  pub distinct : Distinct keys
  pub there : (k : ℕ) → In k keys → is_some (get slots k) ≡ true
  pub count : slab_len slots ≡ length keys
  pub queues_hold : RingsHold queues heads (queue_of heads slots) keys
  pub lists_hold : RingsHold lists heads (list_of heads slots) keys
  pub owners_hold : RingsHold owners heads (owner_of heads slots) keys
  pub queue_heads : heads ≤ length queues
  pub list_heads : heads ≤ length lists
  pub owner_heads : heads ≤ length owners

-- the numbers under which nodes are kept: as many as the limit fit, and each has its links
pub record HasRoom (limit heads capacity queues lists owners : ℕ) : Type 0 where
  pub few_heads : heads ≤ 2 ^ 32
  pub within : limit ≤ capacity
  pub numbers : heads + capacity < 2 ^ 64
  pub queue_nodes : heads + capacity ≤ queues
  pub list_nodes : heads + capacity ≤ lists
  pub owner_nodes : heads + capacity ≤ owners

-- a node with its number, if it is there, and then the others
abbrev pub pair_and : ℕ → Option Request → List (ℕ × Request) → List (ℕ × Request)
pair_and node None rest = []
pair_and node (Some r) rest = (node, r) ∷ rest

-- the nodes of a ring from one on, up to its head, and at most so many
abbrev pub pairs_from : ℕ → Slab Request → List Link → ℕ → ℕ → ℕ → List (ℕ × Request)
pairs_from zero slots links heads head node = []
pairs_from (suc n) slots links heads head node =
    cond (node == head) [] (pair_and node (get slots (node - heads)) (pairs_from n slots links heads head (after_at links node)))

-- what the link of a node into a head's ring says
abbrev pub LinksIn : List Link → List Link → ℕ → ℕ → Type 0
LinksIn links new head node =
    ((xs : List ℕ) → IsRing links head xs → (In node (head ∷ xs) → ⊥) → IsRing new head (xs ++ node ∷ []))
    × ((xs ys : List ℕ) (other : ℕ) → IsRing links head xs → IsRing links other ys → (In node (other ∷ ys) → ⊥) → Apart (head ∷ xs) (other ∷ ys) → IsRing new other ys)

-- .. and what its unlinking says
abbrev pub LinksOut : List Link → List Link → ℕ → Type 0
LinksOut links new node =
    ((head : ℕ) (xs ys : List ℕ) → IsRing links head (xs ++ node ∷ ys) → IsRing new head (xs ++ ys))
    × ((head : ℕ) (xs ys : List ℕ) (other : ℕ) (zs : List ℕ) → IsRing links head (xs ++ node ∷ ys) → IsRing links other zs → Apart (head ∷ (xs ++ node ∷ ys)) (other ∷ zs) → IsRing new other zs)
