-- Chains of places: one place more, and what a step to an older one passes.
use Rattle.std.proofs.Common.{◌≡◌, ◌<◌, ◌≤◌, ◌+◌, ◌-◌, ◌++◌, ℕ, zero, suc, Bool, true, false, List, [], ◌∷◌, Some, length, replicate, take, get_or, set, refl, sym, ap, subst, ◌∙◌, inl, inr, arith, below_more}
use Rattle.std.specs.Prelude.{◌==◌}
use Rattle.std.proofs.Math.ListN.{get_or-append}
use Rattle.std.proofs.Math.Seq.{get_or-append_seam, take-append_seam}
use Rattle.std.proofs.lemmas.Bool.{cases_eq}
use Rattle.std.proofs.lemmas.Bool.Decides.{Decides-eqb}
use Rattle.std.proofs.lemmas.List.{get_or-replicate, length-replicate, length-map, length-set, length_push, map-append, get_or-set_same, get_or-set_other, map_more, length-take-le, take-append-le}
use Rattle.shore_txn.specs.declared.chains.Link.{Link}
use Rattle.shore_txn.specs.declared.chains.TheConstants.{BUCKETS, FEW}
use Rattle.shore_txn.specs.Chains.{AreHeads, IsChained, IsLink, IsOfBucket, buckets_of, link_at, newest_in, place_behind}

-- a test of two numbers that are one, and of two that are not
same_test : (a b : ℕ) → a ≡ b → (a == b) ≡ true
same_test a b is = (Decides-eqb a b).1 is

pub other_test : (a b : ℕ) → (a ≡ b → ⊥) → (a == b) ≡ false
other_test a b apart = each (a == b) (Decides-eqb a b).0
  where
    each : (t : Bool) → (t ≡ true → a ≡ b) → t ≡ false
    each true is = absurd (apart (is refl))
    each false is = refl

-- ---- the newest place

pub newest_push : (buckets : List ℕ) (b : ℕ) → newest_in b (buckets ++ b ∷ []) ≡ length buckets + 1
newest_push [] b = ap (λ t. place_behind t 0) (same_test b b refl)
newest_push (x ∷ buckets) b =
    let more : length buckets + 1 ≡ suc (length buckets) = omega arith in
    let long : suc (suc (length buckets)) ≡ length (x ∷ buckets) + 1 = omega arith in
    ap (place_behind (x == b)) (newest_push buckets b ∙ more) ∙ long

pub newest_other : (buckets : List ℕ) (b c : ℕ) → (c ≡ b → ⊥) → newest_in b (buckets ++ c ∷ []) ≡ newest_in b buckets
newest_other [] b c apart = ap (λ t. place_behind t 0) (other_test c b apart)
newest_other (x ∷ buckets) b c apart = ap (place_behind (x == b)) (newest_other buckets b c apart)

behind_within : (t : Bool) (later n : ℕ) → later ≤ n → place_behind t later ≤ suc n
behind_within true zero n le = omega (arith, le)
behind_within false zero n le = omega (arith, le)
behind_within true (suc later) n le = omega (arith, le)
behind_within false (suc later) n le = omega (arith, le)

pub newest_within : (buckets : List ℕ) (b : ℕ) → newest_in b buckets ≤ length buckets
newest_within [] b = omega arith
newest_within (x ∷ buckets) b = behind_within (x == b) (newest_in b buckets) (length buckets) (newest_within buckets b)

pub newest_is : (buckets : List ℕ) (b : ℕ) → IsOfBucket buckets b (newest_in b buckets)
newest_is [] b = tt
newest_is (x ∷ buckets) b = each (x == b) (Decides-eqb x b).0 (newest_in b buckets) (newest_is buckets b)
  where
    each : (t : Bool) → (t ≡ true → x ≡ b) → (later : ℕ) → IsOfBucket buckets b later → IsOfBucket (x ∷ buckets) b (place_behind t later)
    each true same zero is = ap Some (same refl)
    each false same zero is = tt
    each true same (suc later) is = is
    each false same (suc later) is = is

-- ---- the heads

pub no_heads : AreHeads [] (replicate BUCKETS 0)
no_heads = record { count = length-replicate {A = ℕ} BUCKETS 0; newest = λ b below. get_or-replicate {A = ℕ} BUCKETS b 0 0 below }

module _ (buckets heads : List ℕ) (bucket : ℕ) (are : AreHeads buckets heads) (inside : bucket < BUCKETS) where
  newest_more : (b : ℕ) → b < BUCKETS → get_or (set heads bucket (length buckets + 1)) b 0 ≡ newest_in b (buckets ++ bucket ∷ [])
  newest_more b below = elim (cases_eq bucket b) [
    | inl same ↦ subst (λ (n : ℕ). get_or (set heads bucket (length buckets + 1)) n 0 ≡ newest_in n (buckets ++ bucket ∷ [])) same
        (get_or-set_same heads bucket (length buckets + 1) 0 (let c = are.count in omega (arith, c, inside)) ∙ sym (newest_push buckets bucket))
    | inr apart ↦ get_or-set_other heads bucket b (length buckets + 1) 0 (λ is. apart (sym is)) ∙ are.newest b below ∙ sym (newest_other buckets b bucket apart)
  ]

  -- .. behind one place more
  pub heads_more : AreHeads (buckets ++ bucket ∷ []) (set heads bucket (length buckets + 1))
  heads_more = record { count = length-set heads bucket (length buckets + 1) ∙ are.count; newest = newest_more }

module _ (buckets heads : List ℕ) (bucket older : ℕ) (are : AreHeads (buckets ++ bucket ∷ []) heads) (inside : bucket < BUCKETS) (leads : older ≡ newest_in bucket buckets) where
  newest_less : (b : ℕ) → b < BUCKETS → get_or (set heads bucket older) b 0 ≡ newest_in b buckets
  newest_less b below = elim (cases_eq bucket b) [
    | inl same ↦ subst (λ (n : ℕ). get_or (set heads bucket older) n 0 ≡ newest_in n buckets) same
        (get_or-set_same heads bucket older 0 (let c = are.count in omega (arith, c, inside)) ∙ leads)
    | inr apart ↦ get_or-set_other heads bucket b older 0 (λ is. apart (sym is)) ∙ are.newest b below ∙ newest_other buckets b bucket apart
  ]

  -- .. once the newest place is gone
  heads_less : AreHeads buckets (set heads bucket older)
  heads_less = record { count = length-set heads bucket older ∙ are.count; newest = newest_less }

-- ---- one place more

module _ (links : List Link) (heads : List ℕ) (link : Link) (chained : IsChained links heads) (room : length heads ≡ 0 → length links < FEW) (inside : link.bucket < BUCKETS) (leads : link.older ≡ newest_in link.bucket (buckets_of links)) where
  abbrev longer : List Link
  longer = links ++ link ∷ []

  abbrev no_link : Link
  no_link = record { bucket = 0; older = 0 }

  buckets_more : buckets_of longer ≡ buckets_of links ++ link.bucket ∷ []
  buckets_more = map-append (λ (l : Link). l.bucket) links (link ∷ [])

  count : length (buckets_of links) ≡ length links
  count = length-map links (λ (l : Link). l.bucket)

  older_more : (k : ℕ) → k < length longer → IsLink (take k (buckets_of longer)) (link_at longer k)
  older_more k below = below_more (λ k. IsLink (take k (buckets_of longer)) (link_at longer k)) (length links)
      (λ k less. subst (λ (l : Link). IsLink (take k (buckets_of longer)) l) (sym (get_or-append links (link ∷ []) no_link k less))
      (subst (λ (bs : List ℕ). IsLink bs (link_at links k)) (sym (ap (take k) buckets_more ∙ take-append-le k (buckets_of links) (link.bucket ∷ []) (omega (arith, less, count)))) (chained.older k less)))
      (subst (λ (l : Link). IsLink (take (length links) (buckets_of longer)) l) (sym (get_or-append_seam links link [] no_link))
      (subst (λ (bs : List ℕ). IsLink bs link) (sym (ap (take (length links)) buckets_more ∙ ap (λ n. take n (buckets_of links ++ link.bucket ∷ [])) (sym count) ∙ take-append_seam (buckets_of links) (link.bucket ∷ [])))
      (record { inside = inside; leads = leads })))
      k (omega (arith, below, length_push links link))

  places_are : length (buckets_of links) + 1 ≡ length longer
  places_are = let long = length_push links link in omega (arith, long, count)

  pub chained_more : IsChained longer (set heads link.bucket (length longer))
  chained_more =
      let same = length-set heads link.bucket (length longer) in record {
        newest = λ some. subst (λ (bs : List ℕ). AreHeads bs (set heads link.bucket (length longer))) (sym buckets_more)
            (subst (λ n. AreHeads (buckets_of links ++ link.bucket ∷ []) (set heads link.bucket n)) places_are
            (heads_more (buckets_of links) heads link.bucket (chained.newest (omega (arith, some, same))) inside));
        few = λ none. let less = room (omega (arith, none, same)) in let long = length_push links link in omega (arith, less, long);
        older = older_more;
      }

-- ---- one place less

module _ (links : List Link) (heads : List ℕ) (link : Link) (chained : IsChained (links ++ link ∷ []) heads) where
  abbrev spare : Link
  spare = record { bucket = 0; older = 0 }

  buckets_were : buckets_of (links ++ link ∷ []) ≡ buckets_of links ++ link.bucket ∷ []
  buckets_were = map-append (λ (l : Link). l.bucket) links (link ∷ [])

  fewer : length (buckets_of links) ≡ length links
  fewer = length-map links (λ (l : Link). l.bucket)

  -- the newest place leads to the newest one of the others
  newest_leads : IsLink (buckets_of links) link
  newest_leads =
      subst (λ (l : Link). IsLink (buckets_of links) l) (get_or-append_seam links link [] spare)
      (subst (λ (bs : List ℕ). IsLink bs (link_at (links ++ link ∷ []) (length links)))
      (ap (take (length links)) buckets_were ∙ ap (λ n. take n (buckets_of links ++ link.bucket ∷ [])) (sym fewer) ∙ take-append_seam (buckets_of links) (link.bucket ∷ []))
      (chained.older (length links) (let long = length_push links link in omega (arith, long))))

  older_less : (k : ℕ) → k < length links → IsLink (take k (buckets_of links)) (link_at links k)
  older_less k less =
      subst (λ (l : Link). IsLink (take k (buckets_of links)) l) (get_or-append links (link ∷ []) spare k less)
      (subst (λ (bs : List ℕ). IsLink bs (link_at (links ++ link ∷ []) k)) (ap (take k) buckets_were ∙ take-append-le k (buckets_of links) (link.bucket ∷ []) (omega (arith, less, fewer)))
      (chained.older k (let long = length_push links link in omega (arith, less, long))))

  pub chained_less : IsChained links (set heads link.bucket link.older)
  chained_less =
      let same = length-set heads link.bucket link.older in record {
        newest = λ some. heads_less (buckets_of links) heads link.bucket link.older (subst (λ (bs : List ℕ). AreHeads bs heads) buckets_were (chained.newest (omega (arith, some, same)))) newest_leads.inside newest_leads.leads;
        few = λ none. let were = chained.few (omega (arith, none, same)) in let long = length_push links link in omega (arith, were, long);
        older = older_less;
      }

-- ---- no place, and other heads

pub fresh_chained : IsChained [] []
fresh_chained = record { newest = λ some. absurd (omega (arith, some)); few = λ none. omega arith; older = λ k below. absurd (omega (arith, below)) }

pub chained_anew : (links : List Link) (old heads : List ℕ) → IsChained links old → AreHeads (buckets_of links) heads → IsChained links heads
chained_anew links old heads chained are = record { newest = λ some. are; few = λ none. let count = are.count in absurd (omega (arith, none, count)); older = chained.older }

-- ---- walks over the links

pub bucket_read : (links : List Link) (index : ℕ) → index < length links → buckets_of (take (index + 1) links) ≡ buckets_of (take index links) ++ (link_at links index).bucket ∷ []
bucket_read links index inside = map_more (λ (l : Link). l.bucket) links index (record { bucket = 0; older = 0 }) inside

pub few_read : (links : List Link) (index : ℕ) → index ≤ length links → length (buckets_of (take index links)) ≡ index
few_read links index within = length-map (take index links) (λ (l : Link). l.bucket) ∙ length-take-le index links within

module _ (links : List Link) (place bucket : ℕ) (some : 1 ≤ place) (within : place ≤ length links) where
  back : buckets_of (take place links) ≡ buckets_of (take (place - 1) links) ++ (link_at links (place - 1)).bucket ∷ []
  back =
      let next : place - 1 + 1 ≡ place = omega (arith, some) in
      ap (λ n. buckets_of (take n links)) (sym next) ∙ bucket_read links (place - 1) (omega (arith, some, within))

  -- a place of another bucket is passed
  pub walked_past : ((link_at links (place - 1)).bucket ≡ bucket → ⊥) → newest_in bucket (buckets_of (take (place - 1) links)) ≡ newest_in bucket (buckets_of (take place links))
  walked_past apart = sym (ap (newest_in bucket) back ∙ newest_other (buckets_of (take (place - 1) links)) bucket (link_at links (place - 1)).bucket apart)

  -- the first one of the bucket is its newest
  pub walked_to : (link_at links (place - 1)).bucket ≡ bucket → newest_in bucket (buckets_of (take place links)) ≡ place
  walked_to same =
      let before : length (buckets_of (take (place - 1) links)) ≡ place - 1 = few_read links (place - 1) (omega (arith, within)) in
      ap (newest_in bucket) back ∙ ap (λ b. newest_in bucket (buckets_of (take (place - 1) links) ++ b ∷ [])) same ∙ newest_push (buckets_of (take (place - 1) links)) bucket ∙ omega (arith, some, before)
