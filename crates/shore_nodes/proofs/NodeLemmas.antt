-- Nodes come, go and change.
use Rattle.std.proofs.Common.{◌≡◌, ◌++◌, ◌<◌, ◌≤◌, ◌+◌, ◌-◌, inl, inr, ⊎_elim, ℕ, zero, suc, List, [], ◌∷◌, Bool, true, false, Option, None, Some, refl, ap, sym, subst, ◌∙◌, length, map, arith}
use Rattle.std.specs.Prelude.{filter, not, cond, ◌==◌, is_some}
use Rattle.std.proofs.lemmas.List.{map-append, length_push}
use Rattle.std.proofs.lemmas.Bool.Decides.{Decides-eqb}
use Rattle.slab.specs.Slab.{Slab, Updates, get, slab_len}
use Rattle.shore_types.specs.declared.locking.Granule.{Granule}
use Rattle.shore_types.specs.Locking.{same_granule}
use Rattle.shore_model.specs.declared.requests.Request.{Request}
use Rattle.shore_model.specs.Requests.{requests_at, requests_by}
use Rattle.shore_rings.specs.declared.ring.Link.{Link}
use Rattle.shore_rings.specs.Rings.{Distinct, In, Way, after_at, before_at}
use Rattle.shore_nodes.specs.Nodes.{IsLinked, LinksIn, LinksOut, alive, in_bucket, left_after, list_head, list_of, owner_head, owner_of, pair_and, pairs_from, nodes_of, queue_head, queue_of, request_at, request_or, requests_in, without}
use Rattle.shore_nodes.specs.Tables.{is_for}
use Rattle.shore_nodes.proofs.Counts.{length-filter_most}
use Rattle.shore_nodes.proofs.Entering.{both_true}
use Rattle.shore_nodes.proofs.Keys.{same_granule-Decides}
use Rattle.shore_nodes.proofs.Spreads.{list_small, owner_small, queue_small}
use Rattle.shore_nodes.proofs.Members.{either, filter-yes, filter-no}
use Rattle.shore_nodes.proofs.Links.{distinct_filter, distinct_push, holds_less, holds_more, holds_same, in_either, in_filter, without_none}

-- the history of keys
after_events : (ks : List ℕ) (es : List (ℕ × Bool)) (e : ℕ × Bool) → left_after ks (es ++ e ∷ []) ≡ cond e.1 (left_after ks es ++ e.0 ∷ []) (without e.0 (left_after ks es))
after_events ks [] e = refl
after_events ks (x ∷ es) e = after_events (cond x.1 (ks ++ x.0 ∷ []) (without x.0 ks)) es e

pub alive_comes : (es : List (ℕ × Bool)) (key : ℕ) → alive (es ++ (key, true) ∷ []) ≡ alive es ++ key ∷ []
alive_comes es key = after_events [] es (key, true)

pub alive_goes : (es : List (ℕ × Bool)) (key : ℕ) → alive (es ++ (key, false) ∷ []) ≡ without key (alive es)
alive_goes es key = after_events [] es (key, false)

-- requests at keys that are as they were
pub requests_same : (slots new : Slab Request) (ks : List ℕ) → ((k : ℕ) → In k ks → get new k ≡ get slots k) → requests_in new ks ≡ requests_in slots ks
requests_same slots new [] same = refl
requests_same slots new (k ∷ ks) same = λ i. request_or (same k (inl refl) i) ∷ requests_same slots new ks (λ x h. same x (inr h)) i

not_that : (key : ℕ) (ks : List ℕ) → (In key ks → ⊥) → (k : ℕ) → In k ks → k ≡ key → ⊥
not_that key ks fresh k h e = fresh (subst (λ z. In z ks) e h)

-- a key at which nothing stood is none of those that are there
pub fresh_key : (heads : ℕ) (slots : Slab Request) (queues lists owners : List Link) (ks : List ℕ) (key : ℕ) → IsLinked heads slots queues lists owners ks → get slots key ≡ None → In key ks → ⊥
fresh_key heads slots queues lists owners ks key are_linked vacant h =
    let e = are_linked.there key h in let f : is_some (get slots key) ≡ false = ap is_some vacant in cc

module _ (heads : ℕ) (slots : Slab Request) (queues lists owners : List Link) (ks : List ℕ) where
  -- a node comes
  pub linked_more : (new : Slab Request) (queues_now lists_now owners_now : List Link) (key : ℕ) (r : Request) → IsLinked heads slots queues lists owners ks → get slots key ≡ None → Updates slots new key (Some r) → slab_len new ≡ slab_len slots + 1
      → LinksIn queues queues_now (queue_head heads r.granule) (heads + key) → LinksIn lists lists_now (list_head heads r.txn) (heads + key) → LinksIn owners owners_now (owner_head heads r.txn r.granule) (heads + key)
      → heads ≤ length queues_now → heads ≤ length lists_now → heads ≤ length owners_now
      → IsLinked heads new queues_now lists_now owners_now (ks ++ key ∷ [])
  linked_more new queues_now lists_now owners_now key r are_linked vacant updates more in_queue in_list in_owner long_queues long_lists long_owners =
      let fresh = fresh_key heads slots queues lists owners ks key are_linked vacant in
      let here : request_at new key ≡ r = ap request_or updates.changed in
      let same : (k : ℕ) → In k ks → request_at slots k ≡ request_at new k = λ k h. ap request_or (sym (updates.others k (not_that key ks fresh k h))) in
      let queue_key : queue_of heads new key ≡ queue_head heads r.granule = ap (λ (x : Request). queue_head heads x.granule) here in
      let list_key : list_of heads new key ≡ list_head heads r.txn = ap (λ (x : Request). list_head heads x.txn) here in
      let owner_key : owner_of heads new key ≡ owner_head heads r.txn r.granule = ap (λ (x : Request). owner_head heads x.txn x.granule) here in
      record {
        some_heads = are_linked.some_heads;
        distinct = distinct_push ks key are_linked.distinct fresh;
        there = λ k h. ⊎_elim (λ t. ap is_some (updates.others k (not_that key ks fresh k t)) ∙ are_linked.there k t)
            (λ t. ⊎_elim (λ e. subst (λ z. is_some (get new z) ≡ true) e (ap is_some updates.changed)) (λ nothing. absurd nothing) t) (in_either ks (key ∷ []) k h);
        count = more ∙ ap (λ n. n + 1) are_linked.count ∙ sym (length_push ks key);
        queues_hold = holds_more heads (queue_of heads new) ks queues queues_now key
            (holds_same queues heads (queue_of heads slots) (queue_of heads new) ks (λ k h. ap (λ (x : Request). queue_head heads x.granule) (same k h)) are_linked.queues_hold)
            fresh (subst (λ b. b < heads) (sym queue_key) (queue_small r.granule heads are_linked.some_heads)) (subst (λ b. LinksIn queues queues_now b (heads + key)) (sym queue_key) in_queue);
        lists_hold = holds_more heads (list_of heads new) ks lists lists_now key
            (holds_same lists heads (list_of heads slots) (list_of heads new) ks (λ k h. ap (λ (x : Request). list_head heads x.txn) (same k h)) are_linked.lists_hold)
            fresh (subst (λ b. b < heads) (sym list_key) (list_small r.txn heads are_linked.some_heads)) (subst (λ b. LinksIn lists lists_now b (heads + key)) (sym list_key) in_list);
        owners_hold = holds_more heads (owner_of heads new) ks owners owners_now key
            (holds_same owners heads (owner_of heads slots) (owner_of heads new) ks (λ k h. ap (λ (x : Request). owner_head heads x.txn x.granule) (same k h)) are_linked.owners_hold)
            fresh (subst (λ b. b < heads) (sym owner_key) (owner_small r.txn r.granule heads are_linked.some_heads)) (subst (λ b. LinksIn owners owners_now b (heads + key)) (sym owner_key) in_owner);
        queue_heads = long_queues;
        list_heads = long_lists;
        owner_heads = long_owners;
      }

  pub requests_more : (new : Slab Request) (key : ℕ) (r : Request) → IsLinked heads slots queues lists owners ks → get slots key ≡ None → Updates slots new key (Some r) → requests_in new (ks ++ key ∷ []) ≡ requests_in slots ks ++ r ∷ []
  requests_more new key r are_linked vacant updates =
      let fresh = fresh_key heads slots queues lists owners ks key are_linked vacant in
      map-append (request_at new) ks (key ∷ []) ∙ ap (λ xs. xs ++ request_at new key ∷ []) (requests_same slots new ks (λ k h. updates.others k (not_that key ks fresh k h)))
      ∙ ap (λ x. requests_in slots ks ++ x ∷ []) (ap request_or updates.changed)

  length_without : (key : ℕ) (xs : List ℕ) → Distinct xs → In key xs → length xs ≡ suc (length (without key xs))
  length_without key [] d h = absurd h
  length_without key (x ∷ xs) d h =
      ⊎_elim
      (λ e. ap suc (sym (ap length (filter-no (λ k. not (k == key)) x xs (ap not ((Decides-eqb x key).1 e)) ∙ without_none key xs (λ t. d.0 (subst (λ z. In z xs) (sym e) t))))))
      (λ t. let other : (x == key) ≡ false = ⊎_elim (λ yes. absurd (d.0 (subst (λ z. In z xs) (sym ((Decides-eqb x key).0 yes)) t))) (λ no. no) (either (x == key)) in
      ap suc (length_without key xs d.1 t) ∙ sym (ap (λ zs. suc (length zs)) (filter-yes (λ k. not (k == key)) x xs (ap not other))))
      h

  other_key : (key k : ℕ) → In k (without key ks) → k ≡ key → ⊥
  other_key key k h e =
      let kept = (in_filter (λ x. not (x == key)) ks k h).1 in
      let yes = (Decides-eqb k key).1 e in
      let gone : not (k == key) ≡ false = ap not yes in cc

  -- a node goes
  pub linked_less : (new : Slab Request) (queues_now lists_now owners_now : List Link) (key : ℕ) → IsLinked heads slots queues lists owners ks → In key ks → Updates slots new key None → slab_len new + 1 ≡ slab_len slots
      → LinksOut queues queues_now (heads + key) → LinksOut lists lists_now (heads + key) → LinksOut owners owners_now (heads + key) → heads ≤ length queues_now → heads ≤ length lists_now → heads ≤ length owners_now
      → IsLinked heads new queues_now lists_now owners_now (without key ks)
  linked_less new queues_now lists_now owners_now key are_linked there updates less out_queue out_list out_owner long_queues long_lists long_owners =
      let same : (k : ℕ) → In k (without key ks) → request_at slots k ≡ request_at new k = λ k h. ap request_or (sym (updates.others k (other_key key k h))) in
      let shorter = length_without key ks are_linked.distinct there in
      record {
        some_heads = are_linked.some_heads;
        distinct = distinct_filter (λ k. not (k == key)) ks are_linked.distinct;
        there = λ k h. ap is_some (updates.others k (other_key key k h)) ∙ are_linked.there k (in_filter (λ x. not (x == key)) ks k h).0;
        count = omega (arith, less, are_linked.count, shorter);
        queues_hold = holds_same queues_now heads (queue_of heads slots) (queue_of heads new) (without key ks) (λ k h. ap (λ (x : Request). queue_head heads x.granule) (same k h))
            (holds_less heads (queue_of heads slots) ks queues queues_now key are_linked.queues_hold are_linked.distinct there (queue_small (request_at slots key).granule heads are_linked.some_heads) out_queue);
        lists_hold = holds_same lists_now heads (list_of heads slots) (list_of heads new) (without key ks) (λ k h. ap (λ (x : Request). list_head heads x.txn) (same k h))
            (holds_less heads (list_of heads slots) ks lists lists_now key are_linked.lists_hold are_linked.distinct there (list_small (request_at slots key).txn heads are_linked.some_heads) out_list);
        owners_hold = holds_same owners_now heads (owner_of heads slots) (owner_of heads new) (without key ks) (λ k h. ap (λ (x : Request). owner_head heads x.txn x.granule) (same k h))
            (holds_less heads (owner_of heads slots) ks owners owners_now key are_linked.owners_hold are_linked.distinct there (owner_small (request_at slots key).txn (request_at slots key).granule heads are_linked.some_heads) out_owner);
        queue_heads = long_queues;
        list_heads = long_lists;
        owner_heads = long_owners;
      }

  -- a node has another request of its transaction for its granule
  pub linked_set : (new : Slab Request) (key : ℕ) (r : Request) → IsLinked heads slots queues lists owners ks → In key ks → Updates slots new key (Some r) → slab_len new ≡ slab_len slots
      → r.txn ≡ (request_at slots key).txn → r.granule ≡ (request_at slots key).granule → IsLinked heads new queues lists owners ks
  linked_set new key r are_linked in_key updates len by at =
      let same_granules : (k : ℕ) → In k ks → queue_of heads slots k ≡ queue_of heads new k = λ k h.
      ⊎_elim
      (λ yes. let e = (Decides-eqb k key).0 yes in subst (λ z. queue_of heads slots z ≡ queue_of heads new z) (sym e)
      (ap (λ g. queue_head heads g) (sym at) ∙ ap (λ (x : Request). queue_head heads x.granule) (sym (ap request_or updates.changed))))
      (λ no. ap (λ (x : Request). queue_head heads x.granule) (ap request_or (sym (updates.others k (λ e. let yes = (Decides-eqb k key).1 e in let f : (k == key) ≡ false = no in cc)))))
      (either (k == key)) in
      let same_txns : (k : ℕ) → In k ks → list_of heads slots k ≡ list_of heads new k = λ k h.
      ⊎_elim
      (λ yes. let e = (Decides-eqb k key).0 yes in subst (λ z. list_of heads slots z ≡ list_of heads new z) (sym e)
      (ap (λ t. list_head heads t) (sym by) ∙ ap (λ (x : Request). list_head heads x.txn) (sym (ap request_or updates.changed))))
      (λ no. ap (λ (x : Request). list_head heads x.txn) (ap request_or (sym (updates.others k (λ e. let yes = (Decides-eqb k key).1 e in let f : (k == key) ≡ false = no in cc)))))
      (either (k == key)) in
      let same_owners : (k : ℕ) → In k ks → owner_of heads slots k ≡ owner_of heads new k = λ k h.
      ⊎_elim
      (λ yes. let e = (Decides-eqb k key).0 yes in subst (λ z. owner_of heads slots z ≡ owner_of heads new z) (sym e)
      (ap (λ t. owner_head heads t (request_at slots key).granule) (sym by) ∙ ap (λ g. owner_head heads r.txn g) (sym at) ∙ ap (λ (x : Request). owner_head heads x.txn x.granule) (sym (ap request_or updates.changed))))
      (λ no. ap (λ (x : Request). owner_head heads x.txn x.granule) (ap request_or (sym (updates.others k (λ e. let yes = (Decides-eqb k key).1 e in let f : (k == key) ≡ false = no in cc)))))
      (either (k == key)) in
      record {
        some_heads = are_linked.some_heads;
        distinct = are_linked.distinct;
        there = λ k h. ⊎_elim
            (λ yes. subst (λ z. is_some (get new z) ≡ true) (sym ((Decides-eqb k key).0 yes)) (ap is_some updates.changed))
            (λ no. ap is_some (updates.others k (λ e. let yes = (Decides-eqb k key).1 e in let f : (k == key) ≡ false = no in cc)) ∙ are_linked.there k h)
            (either (k == key));
        count = len ∙ are_linked.count;
        queues_hold = holds_same queues heads (queue_of heads slots) (queue_of heads new) ks same_granules are_linked.queues_hold;
        lists_hold = holds_same lists heads (list_of heads slots) (list_of heads new) ks same_txns are_linked.lists_hold;
        owners_hold = holds_same owners heads (owner_of heads slots) (owner_of heads new) ks same_owners are_linked.owners_hold;
        queue_heads = are_linked.queue_heads;
        list_heads = are_linked.list_heads;
        owner_heads = are_linked.owner_heads;
      }

-- the nodes that a walk comes by
abbrev pub pair_at : ℕ → Slab Request → ℕ → ℕ × Request
pair_at heads slots k = (heads + k, request_at slots k)

there_at : (heads : ℕ) (slots : Slab Request) (node k : ℕ) (o : Option Request) (rest : List (ℕ × Request)) → node ≡ heads + k → is_some o ≡ true → get slots k ≡ o → pair_and node o rest ≡ pair_at heads slots k ∷ rest
there_at heads slots node k None rest e is at = cc
there_at heads slots node k (Some r) rest e is at = λ i. (e i, request_or (sym at i)) ∷ rest

pub walk_is : (n : ℕ) (slots : Slab Request) (links : List Link) (heads head : ℕ) (ks : List ℕ) (a : ℕ) → Way (after_at links) (before_at links) a (nodes_of heads ks) head → head < heads → ((k : ℕ) → In k ks → is_some (get slots k) ≡ true) → length ks ≤ n
    → pairs_from n slots links heads head (after_at links a) ≡ map (pair_at heads slots) ks
walk_is zero slots links heads head [] a w small there most = refl
walk_is (suc n) slots links heads head [] a w small there most =
    let at_end : (after_at links a == head) ≡ true = (Decides-eqb (after_at links a) head).1 w.0 in rw at_end refl
walk_is zero slots links heads head (k ∷ ks) a w small there most = absurd (omega (arith, most))
walk_is (suc n) slots links heads head (k ∷ ks) a w small there most =
    let on : (after_at links a == head) ≡ false = ⊎_elim (λ yes. absurd (let e = (Decides-eqb (after_at links a) head).0 yes in let f = w.0.0 in omega (arith, e, f))) (λ no. no) (either (after_at links a == head)) in
    let key : after_at links a - heads ≡ k = let f = w.0.0 in omega (arith, f) in
    let rest : pairs_from n slots links heads head (after_at links (after_at links a)) ≡ map (pair_at heads slots) ks =
    ap (λ p. pairs_from n slots links heads head (after_at links p)) w.0.0 ∙ walk_is n slots links heads head ks (heads + k) w.1 small (λ x h. there x (inr h)) (omega (arith, most)) in
    rw on (there_at heads slots (after_at links a) k (get slots (after_at links a - heads)) (pairs_from n slots links heads head (after_at links (after_at links a))) w.0.0 (ap (λ z. is_some (get slots z)) key ∙ there k (inl refl)) (ap (get slots) (sym key))
    ∙ ap (λ xs. pair_at heads slots k ∷ xs) rest)

-- a test that looks at requests of a bucket alone finds the same among all
pub filter_of_bucket : (p : Request → Bool) (f : ℕ → Request) (bucket : ℕ → ℕ) (b : ℕ) (ks : List ℕ) → ((k : ℕ) → p (f k) ≡ true → bucket k ≡ b) → filter p (map f (in_bucket bucket b ks)) ≡ filter p (map f ks)
filter_of_bucket p f bucket b [] inside = refl
filter_of_bucket p f bucket b (k ∷ ks) inside =
    ⊎_elim
    (λ yes. ap (λ xs. filter p (map f xs)) (filter-yes (λ x. bucket x == b) k ks yes)
    ∙ ⊎_elim
    (λ passes. filter-yes p (f k) (map f (in_bucket bucket b ks)) passes ∙ ap (λ xs. f k ∷ xs) (filter_of_bucket p f bucket b ks inside) ∙ sym (filter-yes p (f k) (map f ks) passes))
    (λ fails. filter-no p (f k) (map f (in_bucket bucket b ks)) fails ∙ filter_of_bucket p f bucket b ks inside ∙ sym (filter-no p (f k) (map f ks) fails))
    (either (p (f k))))
    (λ no. ap (λ xs. filter p (map f xs)) (filter-no (λ x. bucket x == b) k ks no) ∙ filter_of_bucket p f bucket b ks inside
    ∙ sym (filter-no p (f k) (map f ks) (⊎_elim (λ passes. absurd (let yes = (Decides-eqb (bucket k) b).1 (inside k passes) in let f : (bucket k == b) ≡ false = no in cc)) (λ fails. fails) (either (p (f k))))))
    (either (bucket k == b))

pub seconds : (heads : ℕ) (slots : Slab Request) (ks : List ℕ) → map (λ (p : ℕ × Request). p.1) (map (pair_at heads slots) ks) ≡ requests_in slots ks
seconds heads slots [] = refl
seconds heads slots (k ∷ ks) = ap (λ xs. request_at slots k ∷ xs) (seconds heads slots ks)

length-in_bucket : (bucket : ℕ → ℕ) (b : ℕ) (ks : List ℕ) → length (in_bucket bucket b ks) ≤ length ks
length-in_bucket bucket b ks = length-filter_most (λ k. bucket k == b) ks

-- the nodes of the bucket of a head
pub queue_walk : (heads : ℕ) (slots : Slab Request) (queues lists owners : List Link) (ks : List ℕ) (b : ℕ) → IsLinked heads slots queues lists owners ks → b < heads
    → pairs_from (slab_len slots) slots queues heads b (after_at queues b) ≡ map (pair_at heads slots) (in_bucket (queue_of heads slots) b ks)
queue_walk heads slots queues lists owners ks b are_linked small =
    walk_is (slab_len slots) slots queues heads b (in_bucket (queue_of heads slots) b ks) b (are_linked.queues_hold b small).way small
    (λ k h. are_linked.there k (in_filter (λ x. queue_of heads slots x == b) ks k h).0)
    (let most = length-in_bucket (queue_of heads slots) b ks in let n = are_linked.count in omega arith)

pub list_walk : (heads : ℕ) (slots : Slab Request) (queues lists owners : List Link) (ks : List ℕ) (b : ℕ) → IsLinked heads slots queues lists owners ks → b < heads
    → pairs_from (slab_len slots) slots lists heads b (after_at lists b) ≡ map (pair_at heads slots) (in_bucket (list_of heads slots) b ks)
list_walk heads slots queues lists owners ks b are_linked small =
    walk_is (slab_len slots) slots lists heads b (in_bucket (list_of heads slots) b ks) b (are_linked.lists_hold b small).way small
    (λ k h. are_linked.there k (in_filter (λ x. list_of heads slots x == b) ks k h).0)
    (let most = length-in_bucket (list_of heads slots) b ks in let n = are_linked.count in omega arith)

pub owner_walk : (heads : ℕ) (slots : Slab Request) (queues lists owners : List Link) (ks : List ℕ) (b : ℕ) → IsLinked heads slots queues lists owners ks → b < heads
    → pairs_from (slab_len slots) slots owners heads b (after_at owners b) ≡ map (pair_at heads slots) (in_bucket (owner_of heads slots) b ks)
owner_walk heads slots queues lists owners ks b are_linked small =
    walk_is (slab_len slots) slots owners heads b (in_bucket (owner_of heads slots) b ks) b (are_linked.owners_hold b small).way small
    (λ k h. are_linked.there k (in_filter (λ x. owner_of heads slots x == b) ks k h).0)
    (let most = length-in_bucket (owner_of heads slots) b ks in let n = are_linked.count in omega arith)

-- .. have the requests for each of its granules, and of each of its transactions
pub queue_requests : (heads : ℕ) (slots : Slab Request) (queues lists owners : List Link) (ks : List ℕ) (g : Granule) → IsLinked heads slots queues lists owners ks → queue_head heads g < heads
    → requests_at g (map (λ (p : ℕ × Request). p.1) (pairs_from (slab_len slots) slots queues heads (queue_head heads g) (after_at queues (queue_head heads g)))) ≡ requests_at g (requests_in slots ks)
queue_requests heads slots queues lists owners ks g are_linked small =
    ap (λ xs. requests_at g (map (λ (p : ℕ × Request). p.1) xs)) (queue_walk heads slots queues lists owners ks (queue_head heads g) are_linked small)
    ∙ ap (requests_at g) (seconds heads slots (in_bucket (queue_of heads slots) (queue_head heads g) ks))
    ∙ filter_of_bucket (λ r. same_granule r.granule g) (request_at slots) (queue_of heads slots) (queue_head heads g) ks
    (λ k h. ap (λ x. queue_head heads x) ((same_granule-Decides (request_at slots k).granule g).0 h))

pub owner_requests : (heads : ℕ) (slots : Slab Request) (queues lists owners : List Link) (ks : List ℕ) (t : ℕ) (g : Granule) → IsLinked heads slots queues lists owners ks
    → filter (is_for t g) (map (λ (p : ℕ × Request). p.1) (pairs_from (slab_len slots) slots owners heads (owner_head heads t g) (after_at owners (owner_head heads t g)))) ≡ filter (is_for t g) (requests_in slots ks)
owner_requests heads slots queues lists owners ks t g are_linked =
    ap (λ xs. filter (is_for t g) (map (λ (p : ℕ × Request). p.1) xs)) (owner_walk heads slots queues lists owners ks (owner_head heads t g) are_linked (owner_small t g heads are_linked.some_heads))
    ∙ ap (filter (is_for t g)) (seconds heads slots (in_bucket (owner_of heads slots) (owner_head heads t g) ks))
    ∙ filter_of_bucket (is_for t g) (request_at slots) (owner_of heads slots) (owner_head heads t g) ks
    (λ k h. let both = both_true ((request_at slots k).txn == t) (same_granule (request_at slots k).granule g) h in
    ap (λ u. owner_head heads u (request_at slots k).granule) ((Decides-eqb (request_at slots k).txn t).0 both.0) ∙ ap (λ x. owner_head heads t x) ((same_granule-Decides (request_at slots k).granule g).0 both.1))

pub list_requests : (heads : ℕ) (slots : Slab Request) (queues lists owners : List Link) (ks : List ℕ) (t : ℕ) → IsLinked heads slots queues lists owners ks → list_head heads t < heads
    → requests_by t (map (λ (p : ℕ × Request). p.1) (pairs_from (slab_len slots) slots lists heads (list_head heads t) (after_at lists (list_head heads t)))) ≡ requests_by t (requests_in slots ks)
list_requests heads slots queues lists owners ks t are_linked small =
    ap (λ xs. requests_by t (map (λ (p : ℕ × Request). p.1) xs)) (list_walk heads slots queues lists owners ks (list_head heads t) are_linked small)
    ∙ ap (requests_by t) (seconds heads slots (in_bucket (list_of heads slots) (list_head heads t) ks))
    ∙ filter_of_bucket (λ r. r.txn == t) (request_at slots) (list_of heads slots) (list_head heads t) ks
    (λ k h. ap (λ u. list_head heads u) ((Decides-eqb (request_at slots k).txn t).0 h))
