-- What joining two nodes changes, and the rings that come of it.
use Rattle.std.proofs.Common.{◌≡◌, ◌++◌, ◌<◌, inl, inr, ⊎_elim, ℕ, List, [], ◌∷◌, refl, ap, sym, subst, ◌∙◌, length, get_or-set_same, get_or-set_other, arith}
use Rattle.std.specs.Prelude.{slice_set}
use Rattle.std.proofs.lemmas.List.{length-set, length-append, get_or_append_left}
use Rattle.std.proofs.lemmas.Bool.{cases_eq}
use Rattle.shore_rings.specs.declared.ring.Link.{Link}
use Rattle.shore_rings.specs.Rings.{Apart, Distinct, In, IsRing, after_at, before_at, joined, link_at, linked, unlinked, with_after, with_before}
use Rattle.shore_rings.proofs.Paths.{Between, In-either, In-left, In-right, Without, after_start, before_end, way_linked, way_split, way_same, way_unlinked}

at_set : (links : List Link) (i : ℕ) (l : Link) → i < length links → link_at (slice_set links i l) i ≡ l
at_set links i l h = get_or-set_same links i l (record { before = 0; after = 0 }) h

at_other : (links : List Link) (i q : ℕ) (l : Link) → (q ≡ i → ⊥) → link_at (slice_set links i l) q ≡ link_at links q
at_other links i q l apart = get_or-set_other links i q l (record { before = 0; after = 0 }) apart

after_here : (p n : ℕ) (links : List Link) → p < length links → after_at (with_after p n links) p ≡ n
after_here p n links h = ap (λ (l : Link). l.after) (at_set links p (record { before = before_at links p; after = n }) h)

after_there : (p n q : ℕ) (links : List Link) → (q ≡ p → ⊥) → after_at (with_after p n links) q ≡ after_at links q
after_there p n q links apart = ap (λ (l : Link). l.after) (at_other links p q (record { before = before_at links p; after = n }) apart)

before_kept : (p n q : ℕ) (links : List Link) → p < length links → before_at (with_after p n links) q ≡ before_at links q
before_kept p n q links h =
    ⊎_elim
    (λ same. subst (λ i. before_at (with_after p n links) i ≡ before_at links i) (sym same) (ap (λ (l : Link). l.before) (at_set links p (record { before = before_at links p; after = n }) h)))
    (λ apart. ap (λ (l : Link). l.before) (at_other links p q (record { before = before_at links p; after = n }) apart))
    (cases_eq q p)

before_here : (p n : ℕ) (links : List Link) → p < length links → before_at (with_before p n links) p ≡ n
before_here p n links h = ap (λ (l : Link). l.before) (at_set links p (record { before = n; after = after_at links p }) h)

before_there : (p n q : ℕ) (links : List Link) → (q ≡ p → ⊥) → before_at (with_before p n links) q ≡ before_at links q
before_there p n q links apart = ap (λ (l : Link). l.before) (at_other links p q (record { before = n; after = after_at links p }) apart)

after_kept : (p n q : ℕ) (links : List Link) → p < length links → after_at (with_before p n links) q ≡ after_at links q
after_kept p n q links h =
    ⊎_elim
    (λ same. subst (λ i. after_at (with_before p n links) i ≡ after_at links i) (sym same) (ap (λ (l : Link). l.after) (at_set links p (record { before = n; after = after_at links p }) h)))
    (λ apart. ap (λ (l : Link). l.after) (at_other links p q (record { before = n; after = after_at links p }) apart))
    (cases_eq q p)

long_after : (p n : ℕ) (links : List Link) → length (with_after p n links) ≡ length links
long_after p n links = length-set links p (record { before = before_at links p; after = n })

long_before : (p n : ℕ) (links : List Link) → length (with_before p n links) ≡ length links
long_before p n links = length-set links p (record { before = n; after = after_at links p })

pub long_joined : (a b : ℕ) (links : List Link) → length (joined a b links) ≡ length links
long_joined a b links = long_before b a (with_after a b links) ∙ long_after a b links

-- what joining tells: the first's next, the second's previous, and all else as it was
record Joining (a b : ℕ) (links new : List Link) : Type 0 where
  next : after_at new a ≡ b
  previous : before_at new b ≡ a
  others_after : (q : ℕ) → (q ≡ a → ⊥) → after_at new q ≡ after_at links q
  others_before : (q : ℕ) → (q ≡ b → ⊥) → before_at new q ≡ before_at links q
  long : length new ≡ length links

joining : (a b : ℕ) (links : List Link) → a < length links → b < length links → Joining a b links (joined a b links)
joining a b links ha hb =
    let hb' : b < length (with_after a b links) = subst (λ n. b < n) (sym (long_after a b links)) hb in
    record {
      next = after_kept b a a (with_after a b links) hb' ∙ after_here a b links ha;
      previous = before_here b a (with_after a b links) hb';
      others_after = λ q apart. after_kept b a q (with_after a b links) hb' ∙ after_there a b q links apart;
      others_before = λ q apart. before_there b a q (with_after a b links) apart ∙ before_kept a b q links ha;
      long = long_joined a b links;
    }

-- a node put between the end of a ring and its head
linked_between : (head node : ℕ) (links : List Link) → head < length links → node < length links → before_at links head < length links → (node ≡ before_at links head → ⊥) → (node ≡ head → ⊥)
    → Between (after_at links) (before_at links) (after_at (linked head node links)) (before_at (linked head node links)) (before_at links head) node head
linked_between head node links hh hp hl not_last not_head =
    let l = before_at links head in
    let first = joining (before_at links head) node links hl hp in
    let mid = joined (before_at links head) node links in
    let second = joining node head (joined (before_at links head) node links) (subst (λ n. node < n) (sym first.long) hp) (subst (λ n. head < n) (sym first.long) hh) in
    record {
      to_place = second.others_after (before_at links head) (λ e. not_last (sym e)) ∙ first.next;
      from_place = second.next;
      back_to_last = second.others_before node not_head ∙ first.previous;
      back_to_place = second.previous;
      others_after = λ i not_l not_k. second.others_after i not_k ∙ first.others_after i not_l;
      others_before = λ i not_k not_b. second.others_before i not_b ∙ first.others_before i not_k;
    }

long_linked : (head node : ℕ) (links : List Link) → length (linked head node links) ≡ length links
long_linked head node links = long_joined node head (joined (before_at links head) node links) ∙ long_joined (before_at links head) node links

distinct_push : (xs : List ℕ) (k : ℕ) → Distinct xs → (In k xs → ⊥) → Distinct (xs ++ k ∷ [])
distinct_push [] k d fresh = ((λ h. h), tt)
distinct_push (x ∷ xs) k d fresh = (
  (λ h. ⊎_elim (λ t. d.0 t) (λ t. ⊎_elim (λ e. fresh (inl (sym e))) (λ nothing. nothing) t) (In-either xs (k ∷ []) x h)),
  distinct_push xs k d.1 (λ h. fresh (inr h)),
)

pub ring_linked : (head node : ℕ) (links : List Link) (xs : List ℕ) → node < length links → IsRing links head xs → (In node (head ∷ xs) → ⊥) → IsRing (linked head node links) head (xs ++ node ∷ [])
ring_linked head node links xs hp ring fresh =
    let last = before_end (after_at links) (before_at links) head xs head ring.way in
    let between = linked_between head node links (ring.within head (inl refl)) hp (ring.within (before_at links head) last)
    (λ e. fresh (subst (λ z. In z (head ∷ xs)) (sym e) last)) (λ e. fresh (inl (sym e))) in
    record {
      way = way_linked (after_at links) (before_at links) (after_at (linked head node links)) (before_at (linked head node links)) head xs node head ring.way between ring.distinct fresh ring.distinct.0;
      distinct = distinct_push (head ∷ xs) node ring.distinct fresh;
      within = λ x h. subst (λ n. x < n) (sym (long_linked head node links))
          (⊎_elim (λ t. ring.within x t) (λ t. ⊎_elim (λ e. subst (λ z. z < length links) e hp) (λ nothing. absurd nothing) t) (In-either (head ∷ xs) (node ∷ []) x h));
    }

-- a ring that shares no node with what changed is as it was
ring_same : (links new : List Link) (other : ℕ) (ys : List ℕ) → ((n : ℕ) → n < length links → n < length new) → ((i : ℕ) → In i (other ∷ ys) → after_at new i ≡ after_at links i) → ((i : ℕ) → In i (other ∷ ys) → before_at new i ≡ before_at links i)
    → IsRing links other ys → IsRing new other ys
ring_same links new other ys long afters befores ring = record {
  way = way_same (after_at links) (before_at links) (after_at new) (before_at new) other ys other afters
      (λ i h. befores i (⊎_elim (λ t. inr t) (λ t. ⊎_elim (λ e. inl e) (λ nothing. absurd nothing) t) (In-either ys (other ∷ []) i h))) ring.way;
  distinct = ring.distinct;
  within = λ x h. long x (ring.within x h);
}

pub others_linked : (head node : ℕ) (links : List Link) (xs ys : List ℕ) (other : ℕ) → node < length links → IsRing links head xs → IsRing links other ys → (In node (other ∷ ys) → ⊥) → Apart (head ∷ xs) (other ∷ ys)
    → IsRing (linked head node links) other ys
others_linked head node links xs ys other hp ring others fresh apart =
    let last = before_end (after_at links) (before_at links) head xs head ring.way in
    let first = joining (before_at links head) node links (ring.within (before_at links head) last) hp in
    let second = joining node head (joined (before_at links head) node links) (subst (λ n. node < n) (sym first.long) hp) (subst (λ n. head < n) (sym first.long) (ring.within head (inl refl))) in
    let not_place : (i : ℕ) → In i (other ∷ ys) → i ≡ node → ⊥ = λ i h e. fresh (subst (λ z. In z (other ∷ ys)) e h) in
    ring_same links (linked head node links) other ys (λ n h. subst (λ m. n < m) (sym (long_linked head node links)) h)
    (λ i h. second.others_after i (not_place i h) ∙ first.others_after i (λ e. apart i (subst (λ z. In z (head ∷ xs)) (sym e) last) h))
    (λ i h. second.others_before i (λ e. apart i (inl (sym e)) h) ∙ first.others_before i (not_place i h))
    others

distinct_without : (xs : List ℕ) (k : ℕ) (ys : List ℕ) → Distinct (xs ++ k ∷ ys) → Distinct (xs ++ ys)
distinct_without [] k ys d = d.1
distinct_without (x ∷ xs) k ys d = (
  (λ h. d.0 (⊎_elim (λ t. In-left xs (k ∷ ys) x t) (λ t. In-right xs (k ∷ ys) x (inr t)) (In-either xs ys x h))),
  distinct_without xs k ys d.1,
)

in_without : (xs : List ℕ) (k : ℕ) (ys : List ℕ) (x : ℕ) → In x (xs ++ ys) → In x (xs ++ k ∷ ys)
in_without xs k ys x h = ⊎_elim (λ t. In-left xs (k ∷ ys) x t) (λ t. In-right xs (k ∷ ys) x (inr t)) (In-either xs ys x h)

long_unlinked : (node : ℕ) (links : List Link) → length (unlinked node links) ≡ length links
long_unlinked node links = long_joined node node (joined (before_at links node) (after_at links node) links) ∙ long_joined (before_at links node) (after_at links node) links

-- a node in a ring: its neighbours are others of the ring
record Neighbours (links : List Link) (head : ℕ) (xs : List ℕ) (node : ℕ) (ys : List ℕ) : Type 0 where
  here : node < length links
  previous : In (before_at links node) (head ∷ xs)
  next : In (after_at links node) (ys ++ head ∷ [])
  previous_other : before_at links node ≡ node → ⊥
  next_other : after_at links node ≡ node → ⊥

distinct_mid : (xs : List ℕ) (k : ℕ) (ys : List ℕ) → Distinct (xs ++ k ∷ ys) → (In k xs → ⊥) × (In k ys → ⊥)
distinct_mid [] k ys d = ((λ h. h), d.0)
distinct_mid (x ∷ xs) k ys d =
    let r = distinct_mid xs k ys d.1 in
    ((λ h. ⊎_elim (λ e. d.0 (In-right xs (k ∷ ys) x (inl (sym e)))) (λ t. r.0 t) h), r.1)

neighbours : (links : List Link) (head : ℕ) (xs : List ℕ) (node : ℕ) (ys : List ℕ) → IsRing links head (xs ++ node ∷ ys) → Neighbours links head xs node ys
neighbours links head xs node ys ring =
    let parts = way_split (after_at links) (before_at links) head xs node ys head ring.way in
    let p = before_end (after_at links) (before_at links) head xs node parts.0 in
    let n = after_start (after_at links) (before_at links) node ys head parts.1 in
    let mid = distinct_mid xs node ys ring.distinct.1 in
    let not_head : head ≡ node → ⊥ = λ e. ring.distinct.0 (In-right xs (node ∷ ys) head (inl (sym e))) in
    record {
      here = ring.within node (inr (In-right xs (node ∷ ys) node (inl refl)));
      previous = p;
      next = n;
      previous_other = λ e. ⊎_elim (λ h. not_head h) (λ t. mid.0 t) (subst (λ z. In z (head ∷ xs)) e p);
      next_other = λ e. ⊎_elim (λ t. mid.1 t) (λ t. ⊎_elim (λ h. not_head h) (λ nothing. nothing) t) (In-either ys (head ∷ []) node (subst (λ z. In z (ys ++ head ∷ [])) e n));
    }

in_ring_before : (head : ℕ) (xs : List ℕ) (node : ℕ) (ys : List ℕ) (x : ℕ) → In x (head ∷ xs) → In x (head ∷ (xs ++ node ∷ ys))
in_ring_before head xs node ys x h = ⊎_elim (λ e. inl e) (λ t. inr (In-left xs (node ∷ ys) x t)) h

in_ring_after : (head : ℕ) (xs : List ℕ) (node : ℕ) (ys : List ℕ) (x : ℕ) → In x (ys ++ head ∷ []) → In x (head ∷ (xs ++ node ∷ ys))
in_ring_after head xs node ys x h =
    ⊎_elim (λ t. inr (In-right xs (node ∷ ys) x (inr t))) (λ t. ⊎_elim (λ e. inl e) (λ nothing. absurd nothing) t) (In-either ys (head ∷ []) x h)

pub ring_unlinked : (node : ℕ) (links : List Link) (head : ℕ) (xs ys : List ℕ) → IsRing links head (xs ++ node ∷ ys) → IsRing (unlinked node links) head (xs ++ ys)
ring_unlinked node links head xs ys ring =
    let at = neighbours links head xs node ys ring in
    let hp = ring.within (before_at links node) (in_ring_before head xs node ys (before_at links node) at.previous) in
    let hn = ring.within (after_at links node) (in_ring_after head xs node ys (after_at links node) at.next) in
    let first = joining (before_at links node) (after_at links node) links hp hn in
    let here = subst (λ n. node < n) (sym first.long) at.here in
    let second = joining node node (joined (before_at links node) (after_at links node) links) here here in
    let without : Without (after_at links) (before_at links) (after_at (unlinked node links)) (before_at (unlinked node links)) node = record {
      over = second.others_after (before_at links node) at.previous_other ∙ first.next;
      back = second.others_before (after_at links node) at.next_other ∙ first.previous;
      others_after = λ i not_p not_k. second.others_after i not_k ∙ first.others_after i not_p;
      others_before = λ i not_n not_k. second.others_before i not_k ∙ first.others_before i not_n;
    } in
    record {
      way = way_unlinked (after_at links) (before_at links) (after_at (unlinked node links)) (before_at (unlinked node links)) head xs node ys head ring.way without ring.distinct ring.distinct.0;
      distinct = ((λ h. ring.distinct.0 (in_without xs node ys head h)), distinct_without xs node ys ring.distinct.1);
      within = λ x h. subst (λ n. x < n) (sym (long_unlinked node links)) (ring.within x (⊎_elim (λ e. inl e) (λ t. inr (in_without xs node ys x t)) h));
    }

pub others_unlinked : (node : ℕ) (links : List Link) (head : ℕ) (xs ys : List ℕ) (other : ℕ) (zs : List ℕ) → IsRing links head (xs ++ node ∷ ys) → IsRing links other zs → Apart (head ∷ (xs ++ node ∷ ys)) (other ∷ zs)
    → IsRing (unlinked node links) other zs
others_unlinked node links head xs ys other zs ring others apart =
    let at = neighbours links head xs node ys ring in
    let p_in = in_ring_before head xs node ys (before_at links node) at.previous in
    let n_in = in_ring_after head xs node ys (after_at links node) at.next in
    let k_in : In node (head ∷ (xs ++ node ∷ ys)) = inr (In-right xs (node ∷ ys) node (inl refl)) in
    let first = joining (before_at links node) (after_at links node) links (ring.within (before_at links node) p_in) (ring.within (after_at links node) n_in) in
    let here = subst (λ n. node < n) (sym first.long) at.here in
    let second = joining node node (joined (before_at links node) (after_at links node) links) here here in
    let never : (x i : ℕ) → In x (head ∷ (xs ++ node ∷ ys)) → In i (other ∷ zs) → i ≡ x → ⊥ = λ x i in_x in_i e. apart i (subst (λ z. In z (head ∷ (xs ++ node ∷ ys))) (sym e) in_x) in_i in
    ring_same links (unlinked node links) other zs (λ n h. subst (λ m. n < m) (sym (long_unlinked node links)) h)
    (λ i h. second.others_after i (never node i k_in h) ∙ first.others_after i (never (before_at links node) i p_in h))
    (λ i h. second.others_before i (never node i k_in h) ∙ first.others_before i (never (after_at links node) i n_in h))
    others

pub ring_added : (links : List Link) (l : Link) (head : ℕ) (xs : List ℕ) → IsRing links head xs → IsRing (links ++ l ∷ []) head xs
ring_added links l head xs ring =
    ring_same links (links ++ l ∷ []) head xs (λ n h. omega (arith, length-append links (l ∷ [])))
    (λ i h. ap (λ (x : Link). x.after) (get_or_append_left links (l ∷ []) (record { before = 0; after = 0 }) i (ring.within i h)))
    (λ i h. ap (λ (x : Link). x.before) (get_or_append_left links (l ∷ []) (record { before = 0; after = 0 }) i (ring.within i h)))
    ring
