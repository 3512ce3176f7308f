-- What an index has of a key, by the leaf that a search ends at.
use Rattle.std.proofs.Common.{◌≡◌, ◌≢◌, ℕ, List, [], ◌∷◌, ◌++◌, Bool, true, false, cond, Option, Some, None, Result, Ok, Err, refl, sym, ap, subst, ◌∙◌}
use Rattle.std.specs.Prelude.{not}
use Rattle.std.proofs.lemmas.Option.{same_Some, none-some}
use Rattle.shore_types.specs.declared.ids.Rid.{Rid}
use Rattle.shore_model.specs.Records.{Records}
use Rattle.shore_keys.specs.Nodes.{Entry}
use Rattle.shore_keys.specs.Orders.{IsUpTo, is_before}
use Rattle.shore_keys.specs.Trees.{Chain, EndsFrom, Index, Indexes, IsHome, Leaf, Way, child, is_past, look, look_in, way_to}
use Rattle.shore_keys.proofs.KeyOrder.{upto-itself, upto-trans}
use Rattle.shore_keys.proofs.Walks.{Cut, cut}

-- nothing goes on behind an end
ended : (R : Records) (store : ℕ) (ps : List Leaf) (low : List ℕ) (id : Rid) → Chain R store None ps (Some (low, id)) → ⊥
ended R store [] low id chain = none-some (low, id) chain
ended R store (p ∷ ps) low id chain = none-some (p.low, p.id) chain.0

-- a chain ends no lower than it begins
pub rises : (R : Records) (store : ℕ) (a : List ℕ) (at : Rid) (ps : List Leaf) (b : List ℕ) (to : Rid) → Chain R store (Some (a, at)) ps (Some (b, to)) → IsUpTo a b
rises R store a at [] b to chain = subst (λ (b : List ℕ). IsUpTo a b) (ap (λ (w : List ℕ × Rid). w.0) (same_Some (a, at) (b, to) chain)) (upto-itself a)
rises R store a at (p ∷ ps) b to chain = of p.right chain.3 chain.5 (λ e rest. rises R store e.0 (child store e) ps b to rest)
  where
    same : a ≡ p.low
    same = ap (λ (w : List ℕ × Rid). w.0) (same_Some (a, at) (p.low, p.id) chain.0)

    of : (right : Option Entry) → EndsFrom p.low right → Chain R store (way_to store right) ps (Some (b, to)) → ((e : Entry) → Chain R store (Some (e.0, child store e)) ps (Some (b, to)) → IsUpTo e.0 b)
        → IsUpTo a b
    of None ends rest later = absurd (ended R store ps b to rest)
    of (Some e) ends rest later = upto-trans a e.0 b (subst (λ (a : List ℕ). IsUpTo a e.0) (sym same) ends) (later e rest)

is-past : (e : Entry) (key : List ℕ) → IsUpTo e.0 key → is_past (Some e) key ≡ true
is-past e key low = ap not low

-- what lies before the leaf of a key has not the key
pub looks-behind : (R : Records) (store : ℕ) (from : Way) (before : List Leaf) (low : List ℕ) (id : Rid) (key : List ℕ) (ls : List Leaf) → Chain R store from before (Some (low, id)) → IsUpTo low key
    → look (before ++ ls) key ≡ look ls key
looks-behind R store from [] low id key ls chain up = refl
looks-behind R store from (p ∷ ps) low id key ls chain up = of p.right refl (looks-behind R store (way_to store p.right) ps low id key ls chain.5 up)
  where
    of : (right : Option Entry) → p.right ≡ right → look (ps ++ ls) key ≡ look ls key → look ((p ∷ ps) ++ ls) key ≡ look ls key
    of None is later = absurd (ended R store ps low id (subst (λ right. Chain R store (way_to store right) ps (Some (low, id))) is chain.5))
    of (Some e) is later =
        let rest = subst (λ right. Chain R store (way_to store right) ps (Some (low, id))) is chain.5 in
        let past = ap (λ right. is_past right key) is ∙ is-past e key (upto-trans e.0 low key (rises R store e.0 (child store e) ps low id rest) up) in
        ap (λ b. cond b (look (ps ++ ls) key) (look_in p.entries key)) past ∙ later

module _ (R : Records) (root : Rid) (x : Index) (h : Indexes R root x) (key : List ℕ) (id : Rid) (bytes : List ℕ) (home : IsHome R h.leaves key id bytes) where
  abbrev pub store : ℕ
  store = root.page.store

  pub at-home : Cut R store (Some ([], h.first)) home.before (home.leaf ∷ home.behind) None
  at-home = cut R store (Some ([], h.first)) home.before (home.leaf ∷ home.behind) None (subst (λ ls. Chain R store (Some ([], h.first)) ls None) home.all h.chain)

  -- a leaf in the place of that one: what it has of the key is what is found
  pub looks-at : (leaf : Leaf) → leaf.right ≡ home.leaf.right → look (home.before ++ leaf ∷ home.behind) key ≡ look_in leaf.entries key
  looks-at leaf right =
      looks-behind R store (Some ([], h.first)) home.before home.leaf.low home.leaf.id key (leaf ∷ home.behind)
      (subst (λ way. Chain R store (Some ([], h.first)) home.before way) at-home.back.0 at-home.front) home.low
      ∙ ap (λ b. cond b (look home.behind key) (look_in leaf.entries key)) (ap (λ right. is_past right key) right ∙ home.within)

  pub looks-home : look_in home.leaf.entries key ≡ x key
  looks-home = sym (looks-at home.leaf refl) ∙ ap (λ ls. look ls key) (sym home.all) ∙ h.is key
