-- The leaves of a tree as the bounds of pages.
use Rattle.std.proofs.Common.{◌≡◌, ◌≢◌, ◌⊎◌, inl, inr, ℕ, ◌+◌, ◌-◌, ◌*◌, ◌<◌, ◌≤◌, List, length, get_or, take, drop, replicate, sym, ap, ◌∙◌, arith}
use Rattle.std.proofs.Math.ListN.{set}
use Rattle.std.proofs.lemmas.List.{length-take-le, length-drop, length-set, get_or-take, get_or-drop, get_or-set_same, get_or-set_other, ext_get_or, drop-replicate, take-replicate}
use Rattle.std.proofs.lemmas.Bool.{cases_lt}
use Rattle.shore_heap.specs.Maxima.{IsMaxima, IsGuarded, leaves_of}

same_or_not : (a b : ℕ) → (a ≡ b) ⊎ (a ≢ b)
same_or_not a b = elim (cases_lt a b) [
  | inl less ↦ inr (λ (e : a ≡ b). omega arith)
  | inr more ↦ elim (cases_lt b a) [
    | inl greater ↦ inr (λ (e : a ≡ b). omega arith)
    | inr equal ↦ inl (omega arith)
  ]
]

-- there is a leaf for each page
pub length-leaves : (tree : List ℕ) (pages : ℕ) → length tree ≡ 2 * (pages + 1) → length (leaves_of tree pages) ≡ pages
length-leaves tree pages whole = length-take-le pages (drop (pages + 1) tree) (omega (arith, length-drop (pages + 1) tree))

pub get-leaves : (tree : List ℕ) (pages page : ℕ) → page < pages → get_or (leaves_of tree pages) page 0 ≡ get_or tree (pages + 1 + page) 0
get-leaves tree pages page there = get_or-take pages (drop (pages + 1) tree) page 0 there ∙ get_or-drop (pages + 1) tree page 0

-- a leaf was written, and no other
pub leaves-set : (old new : List ℕ) (pages page number : ℕ) → length old ≡ 2 * (pages + 1) → length new ≡ 2 * (pages + 1) → page < pages → get_or new (pages + 1 + page) 0 ≡ number
    → ((other : ℕ) → pages + 1 ≤ other → other ≢ pages + 1 + page → get_or new other 0 ≡ get_or old other 0) → leaves_of new pages ≡ set (leaves_of old pages) page number
leaves-set old new pages page number whole whole_new there here others =
    let len = length-leaves old pages whole in
    let len_new = length-leaves new pages whole_new in
    ext_get_or 0 (leaves_of new pages) (set (leaves_of old pages) page number) (omega (arith, length-set (leaves_of old pages) page number)) (λ i inside. elim (same_or_not i page) [
      | inl same ↦ (let is : get_or (leaves_of new pages) page 0 ≡ number = get-leaves new pages page there ∙ here in
          ap (λ (j : ℕ). get_or (leaves_of new pages) j 0) same ∙ is ∙ sym (get_or-set_same (leaves_of old pages) page number 0 (omega arith)) ∙ sym (ap (λ (j : ℕ). get_or (set (leaves_of old pages) page number) j 0) same))
      | inr differ ↦ (let low : i < pages = omega arith in
          get-leaves new pages i low ∙ others (pages + 1 + i) (omega arith) (λ (e : pages + 1 + i ≡ pages + 1 + page). differ (omega arith)) ∙ sym (get-leaves old pages i low)
          ∙ sym (get_or-set_other (leaves_of old pages) page i number 0 differ))
    ])

pub kept-set : (old new : List ℕ) (pages page number : ℕ) → IsGuarded old pages → IsMaxima new (pages + 1) → page < pages → number ≤ 12001 → get_or new (pages + 1 + page) 0 ≡ number
    → ((other : ℕ) → pages + 1 ≤ other → other ≢ pages + 1 + page → get_or new other 0 ≡ get_or old other 0) → IsGuarded new pages
kept-set old new pages page number kept maxima there small here others = record {
  maxima = maxima;
  bounds = λ i low. elim (same_or_not i page) [
    | inl same ↦ (let is : get_or new (pages + 1 + i) 0 ≡ number = ap (λ (j : ℕ). get_or new (pages + 1 + j) 0) same ∙ here in omega arith)
    | inr differ ↦ (let is : get_or new (pages + 1 + i) 0 ≡ get_or old (pages + 1 + i) 0 = others (pages + 1 + i) (omega arith) (λ (e : pages + 1 + i ≡ pages + 1 + page). differ (omega arith)) in omega (arith, kept.bounds i low))
  ];
  guard = others (2 * pages + 1) (omega arith) (λ (e : 2 * pages + 1 ≡ pages + 1 + page). absurd (omega arith)) ∙ kept.guard;
  few = kept.few;
}

-- the leaf behind the pages was written
pub leaves-guard : (old new : List ℕ) (pages : ℕ) → length old ≡ 2 * (pages + 1) → length new ≡ 2 * (pages + 1)
    → ((other : ℕ) → pages + 1 ≤ other → other ≢ pages + 1 + pages → get_or new other 0 ≡ get_or old other 0) → leaves_of new pages ≡ leaves_of old pages
leaves-guard old new pages whole whole_new others =
    let len = length-leaves old pages whole in
    let len_new = length-leaves new pages whole_new in
    ext_get_or 0 (leaves_of new pages) (leaves_of old pages) (omega arith) (λ i inside.
    let low : i < pages = omega arith in
    get-leaves new pages i low ∙ others (pages + 1 + i) (omega arith) (λ (e : pages + 1 + i ≡ pages + 1 + pages). absurd (omega arith)) ∙ sym (get-leaves old pages i low))

-- a tree that has one number everywhere
pub leaves-replicate : (pages number : ℕ) → leaves_of (replicate (2 * (pages + 1)) number) pages ≡ replicate pages number
leaves-replicate pages number =
    ap (λ (l : List ℕ). take pages l) (drop-replicate (pages + 1) (2 * (pages + 1)) number) ∙ take-replicate pages (2 * (pages + 1) - (pages + 1)) number (omega arith)
