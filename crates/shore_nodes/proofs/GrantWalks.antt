-- A walk over the nodes of a granule's queue grants the waiters of a group in turn.
use Rattle.std.proofs.Common.{◌≡◌, ◌⊎◌, ◌++◌, ◌<◌, ◌≤◌, ◌+◌, ◌-◌, inl, inr, ⊎_elim, ℕ, List, [], ◌∷◌, Bool, true, false, Some, refl, ap, sym, subst, ◌∙◌, length, arith}
use Rattle.std.specs.Prelude.{filter, ◌==◌, ◌&&◌, ◌^◌, is_some, slice_get}
use Rattle.std.proofs.lemmas.List.{append-nil, length-map}
use Rattle.slab.specs.Slab.{Slab, Updates, get, slab_len}
use Rattle.shore_types.specs.declared.locking.Granule.{Granule}
use Rattle.shore_types.specs.Locking.{same_granule}
use Rattle.shore_model.specs.declared.requests.Request.{Request}
use Rattle.shore_model.specs.declared.requests.Group.{Group}
use Rattle.shore_model.specs.declared.requests.Group.TheVariants.{Conversions, NewWaiters}
use Rattle.shore_model.specs.Requests.{AreRequests, are_alike, is_in_group, requests_at}
use Rattle.shore_rings.specs.declared.ring.Link.{Link}
use Rattle.shore_rings.specs.Rings.{Distinct, In, Way, after_at, before_at}
use Rattle.shore_nodes.specs.declared.tallies.Tally.{Tally}
use Rattle.shore_nodes.specs.Granting.{CanWalk, IsGranted, IsWalked, group_at, new_waiters}
use Rattle.shore_nodes.specs.Grants.{can_be_granted, granted, granted_in_turn, passed, replaced}
use Rattle.shore_nodes.specs.Nodes.{IsLinked, in_bucket, queue_head, nodes_of, queue_of, request_at, request_or, requests_in}
use Rattle.shore_nodes.specs.Tables.{waiters_at}
use Rattle.shore_nodes.specs.Tallies.{Counts, allow}
use Rattle.shore_nodes.proofs.AlikeNodes.{in_map, replaced_is}
use Rattle.shore_nodes.proofs.Counts.{length-filter_most}
use Rattle.shore_nodes.proofs.Entering.{both_true}
use Rattle.shore_nodes.proofs.Judged.{judged}
use Rattle.shore_nodes.proofs.Keys.{AreRequests-filter, AreRequests-replaced, alike-self, same_granule-Decides}
use Rattle.shore_nodes.proofs.Members as members
use Rattle.shore_nodes.proofs.Members.{either, filter-no, filter-yes}
use Rattle.shore_nodes.proofs.NodeLemmas.{filter_of_bucket, requests_same, linked_set}
use Rattle.shore_nodes.proofs.Passes.{In-waiters, first_granted, no_both, pass_on, pass_stops, requests_at-replaced}
use Rattle.shore_nodes.proofs.Spreads.{queue_small}
use Rattle.shore_nodes.proofs.Links.{distinct_filter, in_filter}
use Rattle.shore_nodes.proofs.Tallying.{ConvertingLess, ConvertingMore, HoldingLess, HoldingMore, WaitingLess, WaitingMore, counts_exchanged}
use Rattle.shore_nodes.proofs.Waiting.{some_one}

-- how far a walk has come: the keys that are left, behind a place of the ring
pub record GrantWalk (heads : ℕ) (first slots : Slab Request) (queues lists owners : List Link) (head : ℕ) (g : Granule) (group : Group) (behind : List Request) (tally : Tally) (ks : List ℕ) (node left : ℕ) : Type 0 where
  pub previous : ℕ
  pub rest : List ℕ
  pub way : Way (after_at queues) (before_at queues) previous (nodes_of heads rest) head
  pub at : node ≡ after_at queues previous
  pub within : (k : ℕ) → In k rest → In k ks
  pub distinct : Distinct rest
  pub few : length rest ≤ left
  pub are_linked : IsLinked heads slots queues lists owners ks
  pub one : AreRequests (requests_in slots ks)
  pub fits : length ks < 2 ^ 64
  pub counts : Counts tally (requests_at g (requests_in slots ks))
  pub waiters : waiters_at g (requests_in slots ks) ≡ group_at group g (requests_in slots rest) ++ behind
  pub target : passed g (requests_in slots ks) ≡ passed g (requests_in first ks)

module _ (heads : ℕ) (first : Slab Request) (queues lists owners : List Link) (head : ℕ) (g : Granule) (group : Group) (behind : List Request) (ks : List ℕ) where
  pub walk_begins : (tally : Tally) (node left : ℕ) → CanWalk heads first queues lists owners head g group behind tally ks → node ≡ after_at queues head → left ≡ slab_len first → GrantWalk heads first first queues lists owners head g group behind tally ks node left
  walk_begins tally node left can begins all =
      let small : head < heads = subst (λ b. b < heads) (sym can.at) (queue_small g heads can.are_linked.some_heads) in
      let same : requests_at g (requests_in first (in_bucket (queue_of heads first) head ks)) ≡ requests_at g (requests_in first ks) =
      filter_of_bucket (λ r. same_granule r.granule g) (request_at first) (queue_of heads first) head ks
      (λ k h. ap (λ x. queue_head heads x) ((same_granule-Decides (request_at first k).granule g).0 h) ∙ sym can.at) in
      let most = length-filter_most (λ k. queue_of heads first k == head) ks in
      let count = can.are_linked.count in
      record {
        previous = head;
        rest = in_bucket (queue_of heads first) head ks;
        way = (can.are_linked.queues_hold head small).way;
        at = begins;
        within = λ k h. (in_filter (λ x. queue_of heads first x == head) ks k h).0;
        distinct = distinct_filter (λ x. queue_of heads first x == head) ks can.are_linked.distinct;
        few = omega (arith, most, count, all);
        are_linked = can.are_linked;
        one = can.one;
        fits = can.fits;
        counts = can.counts;
        waiters = can.waiters ∙ ap (λ xs. filter (is_in_group group) xs ++ behind) (sym same);
        target = refl;
      }

-- the key at a place that is not the head, and those behind it
record Next (heads : ℕ) (rest : List ℕ) (node : ℕ) : Type 0 where
  key : ℕ
  others : List ℕ
  are : rest ≡ key ∷ others
  here : heads + key ≡ node

next_of : (queues : List Link) (heads head node previous : ℕ) (rest : List ℕ) → Way (after_at queues) (before_at queues) previous (nodes_of heads rest) head → node ≡ after_at queues previous → (node ≡ head → ⊥) → Next heads rest node
next_of queues heads head node previous [] way at on = absurd (on (at ∙ way.0))
next_of queues heads head node previous (k ∷ rest) way at on = record { key = k; others = rest; are = refl; here = sym (at ∙ way.0.0) }

ended_by : (queues : List Link) (heads head node previous : ℕ) (rest : List ℕ) → Way (after_at queues) (before_at queues) previous (nodes_of heads rest) head → head < heads → node ≡ after_at queues previous → node ≡ head → rest ≡ []
ended_by queues heads head node previous [] way small at end = refl
ended_by queues heads head node previous (k ∷ rest) way small at end = absurd (let e : heads + k ≡ head = sym way.0.0 ∙ sym at ∙ end in omega (arith, e, small))

none_left : (rest : List ℕ) (left : ℕ) → length rest ≤ left → left ≡ 0 → rest ≡ []
none_left [] left few zero_left = refl
none_left (k ∷ rest) left few zero_left = absurd (omega (arith, few, zero_left))

skip_one : (group : Group) (g : Granule) (r : Request) (rs : List Request) → (same_granule r.granule g && is_in_group group r) ≡ false → group_at group g (r ∷ rs) ≡ group_at group g rs
skip_one group g r rs e =
    ⊎_elim
    (λ yes. let other : is_in_group group r ≡ false = ap (λ b. b && is_in_group group r) (sym yes) ∙ e in
    ap (filter (is_in_group group)) (filter-yes (λ q. same_granule q.granule g) r rs yes) ∙ filter-no (is_in_group group) r (requests_at g rs) other)
    (λ no. ap (filter (is_in_group group)) (filter-no (λ q. same_granule q.granule g) r rs no))
    (either (same_granule r.granule g))

take_one : (group : Group) (g : Granule) (r : Request) (rs : List Request) → same_granule r.granule g ≡ true → is_in_group group r ≡ true → group_at group g (r ∷ rs) ≡ r ∷ group_at group g rs
take_one group g r rs at waits =
    ap (filter (is_in_group group)) (filter-yes (λ q. same_granule q.granule g) r rs at) ∙ filter-yes (is_in_group group) r (requests_at g rs) waits

module _ (heads : ℕ) (first slots : Slab Request) (queues lists owners : List Link) (head : ℕ) (g : Granule) (group : Group) (behind : List Request) (tally : Tally) (ks : List ℕ) (node left : ℕ) where
  pub walk_ends : head < heads → GrantWalk heads first slots queues lists owners head g group behind tally ks node left → (left ≡ 0) ⊎ (node ≡ head) → IsWalked heads first slots queues lists owners g behind tally true ks
  walk_ends small s end =
      let empty : s.rest ≡ [] = ⊎_elim (λ none. none_left s.rest left s.few none) (λ round. ended_by queues heads head node s.previous s.rest s.way small s.at round) end in
      record {
        are_linked = s.are_linked;
        one = s.one;
        is_granted = (s.target, s.waiters ∙ ap (λ rest. group_at group g (requests_in slots rest) ++ behind) empty, s.counts);
      }

  module _ (s : GrantWalk heads first slots queues lists owners head g group behind tally ks node left) (on : node ≡ head → ⊥) (some : 0 < left) where
    next : Next heads s.rest node
    next = next_of queues heads head node s.previous s.rest s.way s.at on

    way_on : Way (after_at queues) (before_at queues) (heads + next.key) (nodes_of heads next.others) head
    way_on = (subst (λ rest. Way (after_at queues) (before_at queues) s.previous (nodes_of heads rest) head) next.are s.way).1

    in_keys : In next.key ks
    in_keys = s.within next.key (subst (In next.key) (sym next.are) (inl refl))

    fewer : length next.others ≤ left - 1
    fewer = let few = s.few in let same = ap length next.are in omega (arith, few, same, some)

    apart : (k : ℕ) → In k next.others → k ≡ next.key → ⊥
    apart k h e = (subst Distinct next.are s.distinct).0 (subst (λ z. In z next.others) e h)

    key_here : (key : ℕ) → key ≡ node - heads → key ≡ next.key
    key_here key is = let h = next.here in omega (arith, h, is)

    -- what is at the place is none of the group
    pub walk_passes : (key now : ℕ) → key ≡ node - heads → now ≡ after_at queues node → ((r : Request) → get slots key ≡ Some r → (same_granule r.granule g && is_in_group group r) ≡ false) → GrantWalk heads first slots queues lists owners head g group behind tally ks now (left - 1)
    walk_passes key now is moves old =
        let r = some_one (get slots next.key) (s.are_linked.there next.key in_keys) in
        let mild : (same_granule (request_at slots next.key).granule g && is_in_group group (request_at slots next.key)) ≡ false =
        subst (λ (q : Request). (same_granule q.granule g && is_in_group group q) ≡ false) (sym (ap request_or r.1)) (old r.0 (ap (get slots) (key_here key is) ∙ r.1)) in
        record {
          previous = heads + next.key;
          rest = next.others;
          way = way_on;
          at = moves ∙ ap (after_at queues) (sym next.here);
          within = λ k h. s.within k (subst (In k) (sym next.are) (inr h));
          distinct = (subst Distinct next.are s.distinct).1;
          few = fewer;
          are_linked = s.are_linked;
          one = s.one;
          fits = s.fits;
          counts = s.counts;
          waiters = s.waiters
              ∙ ap (λ xs. xs ++ behind) (ap (λ rest. group_at group g (requests_in slots rest)) next.are ∙ skip_one group g (request_at slots next.key) (requests_in slots next.others) mild);
          target = s.target;
        }

    module _ (key : ℕ) (w : Request) (is : key ≡ node - heads) (stands : get slots key ≡ Some w) (waits : (same_granule w.granule g && is_in_group group w) ≡ true) (gone : Tally)
        (less_holding : HoldingLess tally gone w) (less_waiting : WaitingLess tally gone w) (less_converting : ConvertingLess tally gone w) where
      at_g : same_granule w.granule g ≡ true
      at_g = (both_true (same_granule w.granule g) (is_in_group group w) waits).0

      is_one : is_in_group group w ≡ true
      is_one = (both_true (same_granule w.granule g) (is_in_group group w) waits).1

      here : request_at slots next.key ≡ w
      here = ap (request_at slots) (sym (key_here key is)) ∙ ap request_or stands

      there : members.In w (requests_in slots ks)
      there = subst (λ q. members.In q (requests_in slots ks)) here (in_map (request_at slots) ks next.key in_keys)

      -- it is the first of those who wait
      turn : waiters_at g (requests_in slots ks) ≡ w ∷ (group_at group g (requests_in slots next.others) ++ behind)
      turn =
          s.waiters
          ∙ ap (λ xs. xs ++ behind) (ap (λ rest. group_at group g (requests_in slots rest)) next.are ∙ ap (λ q. group_at group g (q ∷ requests_in slots next.others)) here ∙ take_one group g w (requests_in slots next.others) at_g is_one)

      is_first : Some w ≡ slice_get (waiters_at g (requests_in slots ks)) 0
      is_first = sym (ap (λ ws. slice_get ws 0) turn)

      wants : is_some w.wanted ≡ true
      wants = (In-waiters g (requests_in slots ks) w (subst (members.In w) (sym turn) (inl refl))).2

      come : can_be_granted w (requests_at w.granule (requests_in slots ks)) ≡ allow gone w.wanted
      come = judged g w (requests_in slots ks) tally gone s.one there at_g wants s.counts less_holding less_waiting less_converting

      -- a waiter whom another holder refuses ends the pass
      pub walk_stops : (last : Tally) → allow gone w.wanted ≡ false → IsWalked heads first slots queues lists owners g behind last false ks
      walk_stops last refused = record {
        are_linked = s.are_linked;
        one = s.one;
        is_granted = sym (pass_stops g (requests_in slots ks) w is_first (come ∙ refused)) ∙ s.target;
      }

      -- .. and one whom nobody refuses is granted
      pub walk_grants : (after : Slab Request) (tally_now : Tally) (now : ℕ) → now ≡ after_at queues node → allow gone w.wanted ≡ true → Updates slots after key (Some (granted w)) → slab_len after ≡ slab_len slots
          → HoldingMore gone tally_now (granted w) → WaitingMore gone tally_now (granted w) → ConvertingMore gone tally_now (granted w) → GrantWalk heads first after queues lists owners head g group behind tally_now ks now (left - 1)
      walk_grants after tally_now now moves free updates len more_holding more_waiting more_converting =
          let update : Updates slots after next.key (Some (granted w)) = subst (λ k. Updates slots after k (Some (granted w))) (key_here key is) updates in
          let alike : are_alike (request_at slots next.key) (granted w) ≡ true = ap (λ q. are_alike q (granted w)) here ∙ alike-self w in
          let put : requests_in after ks ≡ replaced (granted w) (requests_in slots ks) = replaced_is slots after ks (granted w) s.one next.key in_keys alike update in
          let rest : requests_in after next.others ≡ requests_in slots next.others = requests_same slots after next.others (λ k h. update.others k (apart k h)) in
          let queue : requests_at g (requests_in after ks) ≡ replaced (granted w) (requests_at g (requests_in slots ks)) = ap (requests_at g) put ∙ requests_at-replaced g (granted w) (requests_in slots ks) in
          let most = length-filter_most (λ r. same_granule r.granule g) (requests_in slots ks) in
          let long = length-map ks (request_at slots) in
          let fits = s.fits in
          record {
            previous = heads + next.key;
            rest = next.others;
            way = way_on;
            at = moves ∙ ap (after_at queues) (sym next.here);
            within = λ k h. s.within k (subst (In k) (sym next.are) (inr h));
            distinct = (subst Distinct next.are s.distinct).1;
            few = fewer;
            are_linked = linked_set heads slots queues lists owners ks after next.key (granted w) s.are_linked in_keys update len (sym (ap (λ (q : Request). q.txn) here)) (sym (ap (λ (q : Request). q.granule) here));
            one = subst AreRequests (sym put) (AreRequests-replaced (granted w) (requests_in slots ks) s.one);
            fits = s.fits;
            counts = subst (Counts tally_now) (sym queue)
                (counts_exchanged tally gone tally_now (granted w) w (requests_at g (requests_in slots ks)) less_holding less_waiting less_converting more_holding more_waiting more_converting s.counts
                (AreRequests-filter (λ q. same_granule q.granule g) (requests_in slots ks) s.one) (members.filter-In (λ q. same_granule q.granule g) (requests_in slots ks) w there at_g) (alike-self w)
                (omega (arith, most, long, fits)));
            waiters = ap (waiters_at g) put
                ∙ first_granted g (requests_in slots ks) w (group_at group g (requests_in slots next.others) ++ behind) s.one turn
                ∙ ap (λ xs. group_at group g xs ++ behind) (sym rest);
            target = ap (passed g) put ∙ pass_on g (requests_in slots ks) w s.one is_first (come ∙ free) ∙ s.target;
          }

      -- it was the first of those who wait, and is none of them any more
      pub walk_tells : (after : Slab Request) → Updates slots after key (Some (granted w)) → waiters_at g (requests_in slots ks) ≡ w ∷ waiters_at g (requests_in after ks)
      walk_tells after updates =
          let update : Updates slots after next.key (Some (granted w)) = subst (λ k. Updates slots after k (Some (granted w))) (key_here key is) updates in
          let alike : are_alike (request_at slots next.key) (granted w) ≡ true = ap (λ q. are_alike q (granted w)) here ∙ alike-self w in
          let put : requests_in after ks ≡ replaced (granted w) (requests_in slots ks) = replaced_is slots after ks (granted w) s.one next.key in_keys alike update in
          turn ∙ ap (λ ws. w ∷ ws) (sym (ap (waiters_at g) put ∙ first_granted g (requests_in slots ks) w (group_at group g (requests_in slots next.others) ++ behind) s.one turn))

-- a group of which nobody is counted is granted
pub nobody_walks : (heads : ℕ) (slots : Slab Request) (queues lists owners : List Link) (head : ℕ) (g : Granule) (group : Group) (behind : List Request) (tally : Tally) (ks : List ℕ) → CanWalk heads slots queues lists owners head g group behind tally ks
    → ((rs : List Request) → Counts tally rs → filter (is_in_group group) rs ≡ []) → IsWalked heads slots slots queues lists owners g behind tally true ks
nobody_walks heads slots queues lists owners head g group behind tally ks can none = record {
  are_linked = can.are_linked;
  one = can.one;
  is_granted = (refl, can.waiters ∙ ap (λ xs. xs ++ behind) (none (requests_at g (requests_in slots ks)) can.counts), can.counts);
}

-- behind the conversions the new waiters are granted
none_first : (cs ns zs : List Request) → cs ++ ns ≡ zs → ((q : Request) → members.In q cs → is_in_group Conversions q ≡ true) → ((q : Request) → members.In q zs → is_in_group NewWaiters q ≡ true) → cs ≡ []
none_first [] ns zs e converts new = refl
none_first (c ∷ cs) ns zs e converts new = absurd (no_both c.held c.wanted (converts c (inl refl)) (new c (subst (members.In c) e (inl refl))))

only_new : (g : Granule) (rs old : List Request) → waiters_at g rs ≡ new_waiters g old → waiters_at g rs ≡ group_at NewWaiters g rs ++ []
only_new g rs old are =
    ap (λ cs. cs ++ group_at NewWaiters g rs)
    (none_first (group_at Conversions g rs) (group_at NewWaiters g rs) (new_waiters g old) are
    (λ q h. (members.In-filter (is_in_group Conversions) (requests_at g rs) q h).1)
    (λ q h. (members.In-filter (is_in_group NewWaiters) (requests_at g old) q h).1))
    ∙ sym (append-nil (group_at NewWaiters g rs))

module _ (heads : ℕ) (slots middle : Slab Request) (queues lists owners : List Link) (head : ℕ) (g : Granule) (tally now : Tally) (ks : List ℕ) (can : CanWalk heads slots queues lists owners head g Conversions (new_waiters g (requests_in slots ks)) tally ks) where
  pub walk_on : IsWalked heads slots middle queues lists owners g (new_waiters g (requests_in slots ks)) now true ks → CanWalk heads middle queues lists owners head g NewWaiters [] now ks
  walk_on walked = record {
    are_linked = walked.are_linked;
    at = can.at;
    one = walked.one;
    fits = can.fits;
    counts = walked.is_granted.2;
    waiters = only_new g (requests_in middle ks) (requests_in slots ks) walked.is_granted.1;
  }

pub all_walked : (g : Granule) (tally : Tally) (result : Bool) (old new : List Request) → IsGranted g [] tally result old new → new ≡ passed g old
all_walked g tally true old new walked = sym (ap (λ ws. granted_in_turn ws new) walked.1) ∙ walked.0
all_walked g tally false old new walked = walked

-- a tally of the queue lets the walk begin
pub can_pass : (heads : ℕ) (slots : Slab Request) (queues lists owners : List Link) (ks : List ℕ) (g : Granule) (head : ℕ) (tally : Tally) (rs walk : List Request) → IsLinked heads slots queues lists owners ks → head ≡ queue_head heads g → requests_in slots ks ≡ rs → AreRequests rs → length rs < 2 ^ 64
    → requests_at g walk ≡ requests_at g rs → (length (requests_at g walk) < 2 ^ 64 → Counts tally (requests_at g walk)) → CanWalk heads slots queues lists owners head g Conversions (new_waiters g (requests_in slots ks)) tally ks
can_pass heads slots queues lists owners ks g head tally rs walk are_linked at same one fits seen counts =
    let most = length-filter_most (λ r. same_granule r.granule g) rs in
    let as_many = ap length seen in
    let long = length-map ks (request_at slots) in
    let as_long = ap length same in
    record {
      are_linked = are_linked;
      at = at;
      one = subst AreRequests (sym same) one;
      fits = omega (arith, long, as_long, fits);
      counts = subst (Counts tally) (seen ∙ ap (requests_at g) (sym same)) (counts (omega (arith, most, as_many, fits)));
      waiters = refl;
    }
