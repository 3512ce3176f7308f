-- Rings that hold the keys of buckets: what becomes of them when a key comes or goes.
use Rattle.std.proofs.Common.{◌≡◌, ◌++◌, ◌⊎◌, ◌<◌, ◌+◌, inl, inr, ⊎_elim, ℕ, List, [], ◌∷◌, Bool, true, false, refl, ap, sym, subst, ◌∙◌, arith}
use Rattle.std.specs.Prelude.{filter, not, ◌==◌}
use Rattle.std.proofs.lemmas.List.{append-nil, map-append}
use Rattle.std.proofs.lemmas.List.Elements.{filter-append}
use Rattle.std.proofs.lemmas.Bool.Decides.{Decides-eqb}
use Rattle.shore_rings.specs.declared.ring.Link.{Link}
use Rattle.shore_rings.specs.Rings.{Apart, Distinct, In, IsRing}
use Rattle.shore_nodes.specs.Nodes.{RingsHold, LinksIn, LinksOut, in_bucket, nodes_of, without}
use Rattle.shore_nodes.proofs.Members as members
use Rattle.shore_nodes.proofs.Members.{either, filter-all, filter-no, filter-none, filter-swap, filter-yes}

-- the two words for membership
pub to_member : (x : ℕ) (xs : List ℕ) → In x xs → members.In x xs
to_member x [] h = h
to_member x (y ∷ ys) h = ⊎_elim (λ e. inl e) (λ t. inr (to_member x ys t)) h

pub from_member : (x : ℕ) (xs : List ℕ) → members.In x xs → In x xs
from_member x [] h = h
from_member x (y ∷ ys) h = ⊎_elim (λ e. inl e) (λ t. inr (from_member x ys t)) h

pub in_filter : (p : ℕ → Bool) (xs : List ℕ) (x : ℕ) → In x (filter p xs) → In x xs × (p x ≡ true)
in_filter p xs x h = let r = members.In-filter p xs x (to_member x (filter p xs) h) in (from_member x xs r.0, r.1)

pub filter_in : (p : ℕ → Bool) (xs : List ℕ) (x : ℕ) → In x xs → p x ≡ true → In x (filter p xs)
filter_in p xs x h e = from_member x (filter p xs) (members.filter-In p xs x (to_member x xs h) e)

pub in_either : (xs ys : List ℕ) (x : ℕ) → In x (xs ++ ys) → In x xs ⊎ In x ys
in_either xs ys x h = ⊎_elim (λ a. inl (from_member x xs a)) (λ b. inr (from_member x ys b)) (members.In-append xs ys x (to_member x (xs ++ ys) h))

pub in_left : (xs ys : List ℕ) (x : ℕ) → In x xs → In x (xs ++ ys)
in_left xs ys x h = from_member x (xs ++ ys) (members.In-left xs ys x (to_member x xs h))

pub in_right : (xs ys : List ℕ) (x : ℕ) → In x ys → In x (xs ++ ys)
in_right xs ys x h = from_member x (xs ++ ys) (members.In-right xs ys x (to_member x ys h))

-- where a place among those of keys comes from
pub in_places : (heads : ℕ) (keys : List ℕ) (x : ℕ) → In x (nodes_of heads keys) → (k : ℕ) × In k keys × (heads + k ≡ x)
in_places heads [] x h = absurd h
in_places heads (k ∷ ks) x h = ⊎_elim (λ e. (k, inl refl, e)) (λ t. let r = in_places heads ks x t in (r.0, inr r.1, r.2)) h

pub distinct_filter : (p : ℕ → Bool) (xs : List ℕ) → Distinct xs → Distinct (filter p xs)
distinct_filter p [] d = d
distinct_filter p (x ∷ xs) d =
    ⊎_elim
    (λ yes. subst Distinct (sym (filter-yes p x xs yes)) ((λ h. d.0 (in_filter p xs x h).0), distinct_filter p xs d.1))
    (λ other. subst Distinct (sym (filter-no p x xs other)) (distinct_filter p xs d.1))
    (either (p x))

pub distinct_push : (xs : List ℕ) (k : ℕ) → Distinct xs → (In k xs → ⊥) → Distinct (xs ++ k ∷ [])
distinct_push [] k d fresh = ((λ h. h), tt)
distinct_push (x ∷ xs) k d fresh = (
  (λ h. ⊎_elim (λ t. d.0 t) (λ t. ⊎_elim (λ e. fresh (inl (sym e))) (λ nothing. nothing) t) (in_either xs (k ∷ []) x h)),
  distinct_push xs k d.1 (λ h. fresh (inr h)),
)

other_than : (a b : ℕ) → (a ≡ b → ⊥) → (a == b) ≡ false
other_than a b apart = ⊎_elim (λ yes. absurd (apart ((Decides-eqb a b).0 yes))) (λ no. no) (either (a == b))

same_number : (a b : ℕ) → a ≡ b → (a == b) ≡ true
same_number a b e = (Decides-eqb a b).1 e

pub without_none : (key : ℕ) (xs : List ℕ) → (In key xs → ⊥) → without key xs ≡ xs
without_none key xs fresh = filter-all (λ k. not (k == key)) xs (λ x h. ap not (other_than x key (λ e. fresh (subst (λ z. In z xs) e (from_member x xs h)))))

-- a key in a list parts it
pub record PartedAt (key : ℕ) (xs : List ℕ) : Type 0 where
  pub front : List ℕ
  pub back : List ℕ
  pub are : xs ≡ front ++ key ∷ back
  pub left : without key xs ≡ front ++ back

pub parted : (key : ℕ) (xs : List ℕ) → Distinct xs → In key xs → PartedAt key xs
parted key [] d h = absurd h
parted key (x ∷ xs) d h =
    ⊎_elim
    (λ e. record {
      front = [];
      back = xs;
      are = ap (λ z. z ∷ xs) e;
      left = filter-no (λ k. not (k == key)) x xs (ap not (same_number x key e)) ∙ without_none key xs (λ t. d.0 (subst (λ z. In z xs) (sym e) t));
    })
    (λ t. let r = parted key xs d.1 t in
    record {
      front = x ∷ r.front;
      back = r.back;
      are = ap (λ zs. x ∷ zs) r.are;
      left = filter-yes (λ k. not (k == key)) x xs (ap not (other_than x key (λ e. d.0 (subst (λ z. In z xs) (sym e) t)))) ∙ ap (λ zs. x ∷ zs) r.left;
    })
    h

module _ (heads : ℕ) (bucket : ℕ → ℕ) (keys : List ℕ) where
  -- a place of a key that is not there is in no ring
  fresh_node : (key b : ℕ) → (In key keys → ⊥) → b < heads → In (heads + key) (b ∷ nodes_of heads (in_bucket bucket b keys)) → ⊥
  fresh_node key b fresh small h =
      ⊎_elim
      (λ e. absurd (omega arith))
      (λ t. let r = in_places heads (in_bucket bucket b keys) (heads + key) t in
      let same : r.0 ≡ key = omega arith in
      fresh (subst (λ z. In z keys) same (in_filter (λ k. bucket k == b) keys r.0 r.1).0))
      h

  -- two rings share no place
  rings_apart : (b d : ℕ) → b < heads → d < heads → (b ≡ d → ⊥) → Apart (b ∷ nodes_of heads (in_bucket bucket b keys)) (d ∷ nodes_of heads (in_bucket bucket d keys))
  rings_apart b d small_b small_d other x in_b in_d =
      ⊎_elim
      (λ e. ⊎_elim (λ f. other (e ∙ sym f))
      (λ t. let r = in_places heads (in_bucket bucket d keys) x t in absurd (omega (arith, e, r.2))) in_d)
      (λ s. let q = in_places heads (in_bucket bucket b keys) x s in
      ⊎_elim (λ f. absurd (omega (arith, f, q.2)))
      (λ t. let r = in_places heads (in_bucket bucket d keys) x t in
      let same : q.0 ≡ r.0 = omega (arith, q.2, r.2) in
      let at_b = (Decides-eqb (bucket q.0) b).0 (in_filter (λ k. bucket k == b) keys q.0 q.1).1 in
      let at_d = (Decides-eqb (bucket r.0) d).0 (in_filter (λ k. bucket k == d) keys r.0 r.1).1 in
      other (sym at_b ∙ ap bucket same ∙ at_d)) in_d)
      in_b

  -- a key comes
  pub holds_more : (links new : List Link) (key : ℕ) → RingsHold links heads bucket keys → (In key keys → ⊥) → bucket key < heads → LinksIn links new (bucket key) (heads + key) → RingsHold new heads bucket (keys ++ key ∷ [])
  holds_more links new key holds fresh small links_in b small_b =
      ⊎_elim
      (λ yes.
      let at = (Decides-eqb (bucket key) b).0 yes in
      let mine : in_bucket bucket b (keys ++ key ∷ []) ≡ in_bucket bucket b keys ++ key ∷ [] =
      filter-append (λ k. bucket k == b) keys (key ∷ []) ∙ ap (λ xs. in_bucket bucket b keys ++ xs) (filter-yes (λ k. bucket k == b) key [] yes) in
      subst (IsRing new b) (sym (ap (nodes_of heads) mine ∙ map-append (λ k. heads + k) (in_bucket bucket b keys) (key ∷ [])))
      (subst (λ h. IsRing new h (nodes_of heads (in_bucket bucket h keys) ++ (heads + key) ∷ [])) at
      (links_in.0 (nodes_of heads (in_bucket bucket (bucket key) keys)) (holds (bucket key) small) (fresh_node key (bucket key) fresh small))))
      (λ no.
      let others : in_bucket bucket b (keys ++ key ∷ []) ≡ in_bucket bucket b keys =
      filter-append (λ k. bucket k == b) keys (key ∷ []) ∙ ap (λ xs. in_bucket bucket b keys ++ xs) (filter-no (λ k. bucket k == b) key [] no) ∙ append-nil (in_bucket bucket b keys) in
      subst (IsRing new b) (sym (ap (nodes_of heads) others))
      (links_in.1 (nodes_of heads (in_bucket bucket (bucket key) keys)) (nodes_of heads (in_bucket bucket b keys)) b (holds (bucket key) small) (holds b small_b) (fresh_node key b fresh small_b)
      (rings_apart (bucket key) b small small_b (λ e. let yes = (Decides-eqb (bucket key) b).1 e in let f : (bucket key == b) ≡ false = no in cc))))
      (either (bucket key == b))

  -- a key goes
  pub holds_less : (links new : List Link) (key : ℕ) → RingsHold links heads bucket keys → Distinct keys → In key keys → bucket key < heads → LinksOut links new (heads + key) → RingsHold new heads bucket (without key keys)
  holds_less links new key holds apart there small links_out b small_b =
      let mine = parted key (in_bucket bucket (bucket key) keys) (distinct_filter (λ k. bucket k == bucket key) keys apart) (filter_in (λ k. bucket k == bucket key) keys key there (same_number (bucket key) (bucket key) refl)) in
      let ring = subst (IsRing links (bucket key)) (ap (nodes_of heads) mine.are ∙ map-append (λ k. heads + k) mine.front (key ∷ mine.back)) (holds (bucket key) small) in
      ⊎_elim
      (λ yes.
      let at = (Decides-eqb (bucket key) b).0 yes in
      let left : in_bucket bucket (bucket key) (without key keys) ≡ mine.front ++ mine.back =
      filter-swap (λ k. bucket k == bucket key) (λ k. not (k == key)) keys ∙ mine.left in
      subst (λ h. IsRing new h (nodes_of heads (in_bucket bucket h (without key keys)))) at
      (subst (IsRing new (bucket key)) (sym (ap (nodes_of heads) left ∙ map-append (λ k. heads + k) mine.front mine.back))
      (links_out.0 (bucket key) (nodes_of heads mine.front) (nodes_of heads mine.back) ring)))
      (λ no.
      let other : (bucket key ≡ b) → ⊥ = λ e. let yes = (Decides-eqb (bucket key) b).1 e in let f : (bucket key == b) ≡ false = no in cc in
      let same : in_bucket bucket b (without key keys) ≡ in_bucket bucket b keys =
      filter-swap (λ k. bucket k == b) (λ k. not (k == key)) keys
      ∙ without_none key (in_bucket bucket b keys) (λ h. other ((Decides-eqb (bucket key) b).0 (in_filter (λ k. bucket k == b) keys key h).1)) in
      subst (IsRing new b) (sym (ap (nodes_of heads) same))
      (links_out.1 (bucket key) (nodes_of heads mine.front) (nodes_of heads mine.back) b (nodes_of heads (in_bucket bucket b keys)) ring (holds b small_b)
      (subst (λ xs. Apart (bucket key ∷ xs) (b ∷ nodes_of heads (in_bucket bucket b keys))) (ap (nodes_of heads) mine.are ∙ map-append (λ k. heads + k) mine.front (key ∷ mine.back))
      (rings_apart (bucket key) b small small_b other))))
      (either (bucket key == b))

-- buckets that agree at each key hold the same
pub bucket_agree : (p q : ℕ → ℕ) (b : ℕ) (keys : List ℕ) → ((k : ℕ) → In k keys → p k ≡ q k) → in_bucket p b keys ≡ in_bucket q b keys
bucket_agree p q b [] same = refl
bucket_agree p q b (k ∷ ks) same =
    ⊎_elim
    (λ yes. filter-yes (λ x. p x == b) k ks yes ∙ ap (λ xs. k ∷ xs) (bucket_agree p q b ks (λ x h. same x (inr h))) ∙ sym (filter-yes (λ x. q x == b) k ks (ap (λ n. n == b) (sym (same k (inl refl))) ∙ yes)))
    (λ no. filter-no (λ x. p x == b) k ks no ∙ bucket_agree p q b ks (λ x h. same x (inr h)) ∙ sym (filter-no (λ x. q x == b) k ks (ap (λ n. n == b) (sym (same k (inl refl))) ∙ no)))
    (either (p k == b))

pub holds_same : (links : List Link) (heads : ℕ) (p q : ℕ → ℕ) (keys : List ℕ) → ((k : ℕ) → In k keys → p k ≡ q k) → RingsHold links heads p keys → RingsHold links heads q keys
holds_same links heads p q keys same holds b small = subst (λ xs. IsRing links b (nodes_of heads xs)) (bucket_agree p q b keys same) (holds b small)
