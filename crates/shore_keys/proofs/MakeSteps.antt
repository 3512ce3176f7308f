-- The steps of a make.
use Rattle.std.proofs.Common.{◌≡◌, ◌≢◌, ◌⊎◌, inl, inr, ⊎_elim, ℕ, List, [], ◌∷◌, Option, Some, None, Result, Ok, Err, refl, sym, ap, subst, ◌∙◌}
use Rattle.std.specs.FinMap.{get}
use Rattle.std.proofs.lemmas.List.{append-nil}
use Rattle.std.proofs.lemmas.Option.{same_Some, none-some}
use Rattle.shore_types.specs.declared.ids.Rid.{Rid}
use Rattle.shore_model.specs.declared.calls.Exchange.{Exchange}
use Rattle.shore_model.specs.declared.progress.Progress.{Progress}
use Rattle.shore_model.specs.Records.{Records}
use Rattle.shore_keys.specs.declared.maps.KeyMap.{KeyMap}
use Rattle.shore_keys.specs.declared.refusals.Refusal.{Refusal}
use Rattle.shore_keys.specs.declared.refusals.Refusal.TheVariants.{Damaged}
use Rattle.shore_keys.specs.Calls.{HasInserted, HasUpdated, Inserts, Updates, wrote}
use Rattle.shore_keys.specs.Exchanges.{AtItsTurn, GoesOn, Spares, seen}
use Rattle.shore_keys.specs.Makes.{HasNone, IsMade, Makes}
use Rattle.shore_keys.specs.Maps.{Represents, empty_map}
use Rattle.shore_keys.specs.Nodes.{Entry, Node, node_at}
use Rattle.shore_keys.specs.Trees.{AllLead, Chain, Index, Indexes, Leaf, Leads, ReadsNode, RightLeads, Spot, child, id_in, look, node_of}
use Rattle.shore_keys.proofs.Changes.{same_or_not}
use Rattle.shore_keys.proofs.KeyOrder.{upto-itself}
use Rattle.shore_keys.proofs.Seen.{absent_apart, seen_here, seen_there}
use Rattle.shore_keys.proofs.Spared.{spared-same, spared-then, spared-wrote}
use Rattle.shore_keys.proofs.Turns.{goes-as, goes-then}
use Rattle.shore_keys.proofs.Walks.{one_node, same_node}

abbrev Made : ℕ → ℕ → Result KeyMap Refusal → Records → Progress → Progress → Type 0
Made nodes values s R p q = HasNone (seen R p) nodes → Spares nodes values R p q × IsMade (seen R q) nodes values s

abbrev Inserted : ℕ → List ℕ → Result Rid Refusal → Records → Progress → Progress → Type 0
Inserted store bytes i R p q = HasInserted (seen R p) store bytes p q i

abbrev pub Updated : {A : Type 0} → Rid → List ℕ → Result A Refusal → Records → Progress → Progress → Type 0
Updated id bytes s R p q = HasUpdated id bytes p q s

-- both nodes are there, the root reads as an empty leaf still
pub record Begun (nodes : ℕ) (root leaf : Rid) (first second : List ℕ) (R : Records) (p q : Progress) : Type 0 where
  pub wrote_both : q ≡ wrote (wrote p root first) leaf second
  pub none : get (seen R (wrote p root first)) leaf ≡ None
  pub root_store : root.page.store ≡ nodes
  pub leaf_store : leaf.page.store ≡ nodes

spared-both : (nodes values : ℕ) (root leaf : Rid) (first second : List ℕ) (R : Records) (p q : Progress) → Begun nodes root leaf first second R p q → Spares nodes values R p q
spared-both nodes values root leaf first second R p q h = spared-then (spared-wrote _ _ (inl h.root_store) refl) (spared-wrote _ _ (inl h.leaf_store) h.wrote_both)

pub begun : (nodes : ℕ) (root leaf : Rid) (first second : List ℕ) (a b c : List Exchange) (i j : Result Rid Refusal) → GoesOn (Inserts nodes first i) a b → i ≡ Ok root → GoesOn (Inserts nodes second j) b c → j ≡ Ok leaf
    → GoesOn (AtItsTurn (Begun nodes root leaf first second)) a c
begun nodes root leaf first second a b c i j x is y so =
    goes-then (Inserted nodes first i) (Inserted nodes second j) (Begun nodes root leaf first second) a b c x y
    (λ R p q t h k.
    let one = subst (HasInserted (seen R p) nodes first p q) is h in
    let two = subst (HasInserted (seen R q) nodes second q t) so k in
    record {
      wrote_both = two.2 ∙ ap (λ (q : Progress). wrote q leaf second) one.2;
      none = subst (λ q. get (seen R q) leaf ≡ None) one.2 two.0;
      root_store = one.1;
      leaf_store = two.1;
    })

made-refused : (R : Records) (p q : Progress) (nodes values : ℕ) (s : Result KeyMap Refusal) (f : Refusal) → s ≡ Err f → f ≢ Damaged → Spares nodes values R p q → Spares nodes values R p q × IsMade (seen R q) nodes values s
made-refused R p q nodes values s f so other same = (same, subst (IsMade (seen R q) nodes values) (sym so) other)

module _ (nodes values : ℕ) (s : Result KeyMap Refusal) (f : Refusal) (so : s ≡ Err f) where
  pub make-refused : (a : List Exchange) → f ≢ Damaged → GoesOn (Makes nodes values s) a a
  make-refused a other = record { made = []; on = sym (append-nil a); holds = λ most R p may none. made-refused R p p nodes values s f so other (spared-same refl) }

  pub make-stops-root : (a b : List Exchange) (bytes : List ℕ) (i : Result Rid Refusal) → GoesOn (Inserts nodes bytes i) a b → i ≡ Err f → GoesOn (Makes nodes values s) a b
  make-stops-root a b bytes i x is =
      goes-as (Inserted nodes bytes i) (Made nodes values s) a b x
      (λ R p q h none. let now = subst (HasInserted (seen R p) nodes bytes p q) is h in made-refused R p q nodes values s f so now.0 (spared-same now.1))

  pub make-stops-behind-root : (a b : List Exchange) (bytes : List ℕ) (i : Result Rid Refusal) (root : Rid) → GoesOn (Inserts nodes bytes i) a b → i ≡ Ok root → f ≢ Damaged → GoesOn (Makes nodes values s) a b
  make-stops-behind-root a b bytes i root x is other =
      goes-as (Inserted nodes bytes i) (Made nodes values s) a b x
      (λ R p q h none. let now = subst (HasInserted (seen R p) nodes bytes p q) is h in made-refused R p q nodes values s f so other (spared-wrote _ _ (inl now.1) now.2))

  pub make-stops-leaf : (a b c : List Exchange) (first second : List ℕ) (i j : Result Rid Refusal) (root : Rid) → GoesOn (Inserts nodes first i) a b → i ≡ Ok root → GoesOn (Inserts nodes second j) b c → j ≡ Err f
      → GoesOn (Makes nodes values s) a c
  make-stops-leaf a b c first second i j root x is y no_more =
      goes-then (Inserted nodes first i) (Inserted nodes second j) (Made nodes values s) a b c x y
      (λ R p q t h k none.
      let one = subst (HasInserted (seen R p) nodes first p q) is h in
      let two = subst (HasInserted (seen R q) nodes second q t) no_more k in
      made-refused R p t nodes values s f so two.0 (spared-then (spared-wrote _ _ (inl one.1) one.2) (spared-same two.1)))

  pub make-stops-behind-both : (a b : List Exchange) (first second : List ℕ) (root leaf : Rid) → GoesOn (AtItsTurn (Begun nodes root leaf first second)) a b → f ≢ Damaged → GoesOn (Makes nodes values s) a b
  make-stops-behind-both a b first second root leaf x other =
      goes-as (Begun nodes root leaf first second) (Made nodes values s) a b x
      (λ R p q h none. made-refused R p q nodes values s f so other (spared-both nodes values root leaf first second R p q h))

-- the root names the first leaf
module _ (R : Records) (p : Progress) (nodes values : ℕ) (root leaf : Rid) (first second third : List ℕ) (empty : HasNone (seen R p) nodes) (none : get (seen R (wrote p root first)) leaf ≡ None)
    (root_store : root.page.store ≡ nodes) (leaf_store : leaf.page.store ≡ nodes) (differ : values ≢ nodes)
    (is_leaf : node_at second ≡ Some (record { level = 0; right = None; entries = [] }))
    (is_root : node_at third ≡ Some (record { level = 1; right = None; entries = ([], leaf.page.page, leaf.slot) ∷ [] })) where
  abbrev now : Records
  now = seen R (wrote (wrote (wrote p root first) leaf second) root third)

  abbrev k : KeyMap
  k = record { root = root; values = values }

  apart : root ≢ leaf
  apart = absent_apart (seen R (wrote p root first)) leaf root first none (seen_here R p root first)

  root-there : get now root ≡ Some third
  root-there = seen_here R (wrote (wrote p root first) leaf second) root third

  leaf-there : get now leaf ≡ Some second
  leaf-there = seen_there R (wrote (wrote p root first) leaf second) root third leaf (λ e. apart (sym e)) ∙ seen_here R (wrote p root first) leaf second

  -- nothing else is in the store
  others : (id : Rid) (node : Node) → id.page.store ≡ nodes → ReadsNode now id node → (id ≡ root) ⊎ (id ≡ leaf)
  others id node here reads = of (same_or_not id root) (same_or_not id leaf)
    where
      of : (id ≡ root) ⊎ (id ≢ root) → (id ≡ leaf) ⊎ (id ≢ leaf) → (id ≡ root) ⊎ (id ≡ leaf)
      of (inl e) other = inl e
      of (inr e) (inl same) = inr same
      of (inr e) (inr d) =
          absurd (none-some reads.bytes
          (sym (empty id here) ∙ sym (seen_there R (wrote (wrote p root first) leaf second) root third id e ∙ seen_there R (wrote p root first) leaf second id d ∙ seen_there R p root first id e) ∙ reads.there))

  abbrev the-leaf : Leaf
  the-leaf = record { id = leaf; low = []; right = None; entries = [] }

  abbrev entry : Entry
  entry = ([], leaf.page.page, leaf.slot)

  abbrev root-node : Node
  root-node = record { level = 1; right = None; entries = entry ∷ [] }

  named : child root.page.store entry ≡ leaf
  named = ap (λ (store : ℕ). id_in store leaf.page.page leaf.slot) (root_store ∙ sym leaf_store)

  leads : Leads now (the-leaf ∷ []) [] leaf
  leads = inl (record { before = []; leaf = the-leaf; behind = []; all = refl; here = refl; low = upto-itself [] })

  all-lead : (id : Rid) (node : Node) → id.page.store ≡ root.page.store → ReadsNode now id node → node.level ≢ 0
      → AllLead now root.page.store (the-leaf ∷ []) node.entries × RightLeads now root.page.store (the-leaf ∷ []) node.right
  all-lead id node here reads inner = of (others id node (here ∙ root_store) reads)
    where
      of : (id ≡ root) ⊎ (id ≡ leaf) → AllLead now root.page.store (the-leaf ∷ []) node.entries × RightLeads now root.page.store (the-leaf ∷ []) node.right
      of (inl e) =
          let same : root-node ≡ node = one_node third root-node node is_root (same_node now root third node root-there (subst (λ id. ReadsNode now id node) e reads)) in
          subst (λ (n : Node). AllLead now root.page.store (the-leaf ∷ []) n.entries × RightLeads now root.page.store (the-leaf ∷ []) n.right) same
          ((subst (λ id. Leads now (the-leaf ∷ []) [] id) (sym named) leads, tt), tt)
      of (inr e) =
          let same : node_of the-leaf ≡ node = one_node second (node_of the-leaf) node is_leaf (same_node now leaf second node leaf-there (subst (λ id. ReadsNode now id node) e reads)) in
          absurd (inner (sym (ap (λ (n : Node). n.level) same)))

  inner-root : root-node.level ≢ 0
  inner-root e = cc

  pub made-is : Represents now k empty_map
  made-is = record {
    index = λ key. None;
    indexes = record {
      first = leaf;
      leaves = the-leaf ∷ [];
      chain = (refl, leaf_store ∙ sym root_store, record { bytes = second; there = leaf-there; reads = is_leaf }, tt, tt, refl);
      apart = (tt, tt);
      inner = all-lead;
      root_leads = inr (record { node = root-node; reads = record { bytes = third; there = root-there; reads = is_root }; inner = inner-root; low = upto-itself [] });
      is = λ key. refl;
    };
    valued = λ key. refl;
    own = λ a b spot e. absurd (none-some spot e);
    stores = λ e. differ (e ∙ root_store);
  }

make-ends-as : {A : Type 0} (R : Records) (p q t : Progress) (nodes values : ℕ) (root leaf : Rid) (first second third : List ℕ) → Begun nodes root leaf first second R p q → HasNone (seen R p) nodes → values ≢ nodes
    → node_at second ≡ Some (record { level = 0; right = None; entries = [] })
    → node_at third ≡ Some (record { level = 1; right = None; entries = ([], leaf.page.page, leaf.slot) ∷ [] })
    → (u : Result A Refusal) (done : A) → u ≡ Ok done → HasUpdated root third q t u → (s : Result KeyMap Refusal) → s ≡ Ok (record { root = root; values = values })
    → Spares nodes values R p t × IsMade (seen R t) nodes values s
make-ends-as {A = A} R p q t nodes values root leaf first second third h none differ is_leaf is_root u done ok changed s so =
    let now : t ≡ wrote (wrote (wrote p root first) leaf second) root third = subst (HasUpdated {A = A} root third q t) ok changed ∙ ap (λ (q : Progress). wrote q root third) h.wrote_both in (
      spared-then (spared-then (spared-wrote _ _ (inl h.root_store) refl) (spared-wrote _ _ (inl h.leaf_store) refl)) (spared-wrote _ _ (inl h.root_store) now),
      subst (IsMade (seen R t) nodes values) (sym so) (
        h.root_store,
        refl,
        subst (λ t. Represents (seen R t) (record { root = root; values = values }) empty_map) (sym now)
            (made-is R p nodes values root leaf first second third none h.none h.root_store h.leaf_store differ is_leaf is_root),
      ),
    )

pub make-ends : {A : Type 0} (nodes values : ℕ) (root leaf : Rid) (first second third : List ℕ) (a b c : List Exchange) (u : Result A Refusal) (done : A) (s : Result KeyMap Refusal)
    → GoesOn (AtItsTurn (Begun nodes root leaf first second)) a b → GoesOn (Updates root third u) b c → values ≢ nodes
    → node_at second ≡ Some (record { level = 0; right = None; entries = [] })
    → node_at third ≡ Some (record { level = 1; right = None; entries = ([], leaf.page.page, leaf.slot) ∷ [] })
    → u ≡ Ok done → s ≡ Ok (record { root = root; values = values }) → GoesOn (Makes nodes values s) a c
make-ends nodes values root leaf first second third a b c u done s x y differ is_leaf is_root ok so =
    goes-then (Begun nodes root leaf first second) (Updated root third u) (Made nodes values s) a b c x y
    (λ R p q t h k none. make-ends-as R p q t nodes values root leaf first second third h none differ is_leaf is_root u done ok k s so)

pub make-stops-update : {A : Type 0} (nodes values : ℕ) (root leaf : Rid) (first second third : List ℕ) (a b c : List Exchange) (u : Result A Refusal) (f : Refusal) (s : Result KeyMap Refusal)
    → GoesOn (AtItsTurn (Begun nodes root leaf first second)) a b → GoesOn (Updates root third u) b c → u ≡ Err f → s ≡ Err f → GoesOn (Makes nodes values s) a c
make-stops-update {A = A} nodes values root leaf first second third a b c u f s x y is so =
    goes-then (Begun nodes root leaf first second) (Updated root third u) (Made nodes values s) a b c x y
    (λ R p q t h k none.
    let now = subst (HasUpdated {A = A} root third q t) is k in
    made-refused R p t nodes values s f so now.0 (spared-then (spared-both nodes values root leaf first second R p q h) (spared-same now.1)))
