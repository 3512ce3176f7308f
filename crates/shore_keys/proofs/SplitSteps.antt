-- The steps of a split.
use Rattle.std.proofs.Common.{◌≡◌, ◌≢◌, ◌⊎◌, inl, inr, ℕ, List, [], ◌∷◌, ◌++◌, length, Bool, true, false, cond, Option, Some, None, Result, Ok, Err, refl, sym, ap, subst, ◌∙◌, append_assoc}
use Rattle.std.specs.Prelude.{not}
use Rattle.std.specs.FinMap.{get}
use Rattle.std.proofs.lemmas.List.{append-nil}
use Rattle.shore_types.specs.declared.ids.Rid.{Rid}
use Rattle.shore_model.specs.declared.calls.Exchange.{Exchange}
use Rattle.shore_model.specs.declared.progress.Progress.{Progress}
use Rattle.shore_model.specs.Records.{Records}
use Rattle.shore_keys.specs.declared.halving.Halves.{Halves}
use Rattle.shore_keys.specs.declared.maps.KeyMap.{KeyMap}
use Rattle.shore_keys.specs.declared.refusals.Refusal.{Refusal}
use Rattle.shore_keys.specs.declared.refusals.Refusal.TheVariants.{Damaged}
use Rattle.shore_keys.specs.declared.searching.Home.{Home}
use Rattle.shore_keys.specs.Calls.{HasInserted, HasUpdated, Inserts, Updates, wrote}
use Rattle.shore_keys.specs.Cuts.{Spells}
use Rattle.shore_keys.specs.Exchanges.{AtItsTurn, GoesOn, Spares, seen}
use Rattle.shore_keys.specs.Halves.{AreHalves, IsHalved}
use Rattle.shore_keys.specs.Homes.{IsNewAt}
use Rattle.shore_keys.specs.Maps.{IsValue, Map, Represents}
use Rattle.shore_keys.specs.Nodes.{Entry, Node, node_at}
use Rattle.shore_keys.specs.Orders.{is_before}
use Rattle.shore_keys.specs.Splits.{HasSplit, Splits}
use Rattle.shore_keys.specs.Trees.{Index, Indexes, IsHome, NotIn, ReadsNode, Spot, id_in, is_past, node_of}
use Rattle.shore_keys.proofs.Changes.{kept-tree, not-there}
use Rattle.shore_keys.proofs.Seen.{absent_apart, seen_here, seen_there}
use Rattle.shore_keys.proofs.Spared.{spared-same, spared-then, spared-wrote}
use Rattle.shore_keys.proofs.Turns.{goes-as, goes-then}
use Rattle.shore_keys.proofs.TwoLeaves.{half, halves, left, split-is}
use Rattle.shore_keys.proofs.Walks.{one_node, same_node}

-- one node more, that is no inner one and that nothing leads to
module _ (R : Records) (p : Progress) (k : KeyMap) (m : Map) (rep : Represents (seen R p) k m) (new : Rid) (text : List ℕ) (none : get (seen R p) new ≡ None) (node : Node) (reads : node_at text ≡ Some node)
    (level : node.level ≡ 0) where
  abbrev pub more : Records
  more = seen R (wrote p new text)

  abbrev pub node-kept : Indexes more k.root rep.index
  node-kept =
      kept-tree (seen R p) more k.root rep.index new (λ q here apart. seen_there R p new text q apart)
      (λ q n here r. absent_apart (seen R p) new q r.bytes none r.there)
      (λ n here r inner. inner (sym (ap (λ (n : Node). n.level) (one_node text node n reads (same_node more new text n (seen_here R p new text) r))) ∙ level)) rep.indexes

  pub value-stays : (found : Option Spot) (v : Option (List ℕ)) → IsValue (seen R p) k.values found v → IsValue more k.values found v
  value-stays None v was = was
  value-stays (Some s) v was = (was.0, seen_there R p new text (id_in k.values s.0 s.1) (absent_apart (seen R p) new (id_in k.values s.0 s.1) was.0 none was.1) ∙ was.1, was.2)

  pub node-is : Represents more k m
  node-is = record {
    index = rep.index;
    indexes = node-kept;
    valued = λ other. value-stays (rep.index other) (m other) (rep.valued other);
    own = rep.own;
    stores = rep.stores;
  }

module _ (R : Records) (p : Progress) (k : KeyMap) (m : Map) (rep : Represents (seen R p) k m) (home : Home) (key : List ℕ) (at : IsNewAt (seen R p) k m rep home key) (h : Halves) (are : AreHalves (node_of at.at.leaf) h)
    (new : Rid) (none : get (seen R p) new ≡ None) (store : new.page.store ≡ k.root.page.store) (text : List ℕ)
    (left_reads : node_at text ≡ Some (record { level = 0; right = Some (h.key, new.page.page, new.slot); entries = are.front })) where
  abbrev pub q : Progress
  q = wrote p new h.right

  abbrev pub now : Records
  now = seen R (wrote q home.id text)

  abbrev pub between : Indexes (seen R q) k.root rep.index
  between = node-kept R p k m rep new h.right none (record (node_of at.at.leaf) { entries = are.entry ∷ are.others }) are.right refl

  pub home-apart : home.id ≢ new
  home-apart = absent_apart (seen R p) new home.id home.bytes none at.at.there

  abbrev pub home-now : IsHome (seen R q) rep.indexes.leaves key home.id home.bytes
  home-now = record {
    before = at.at.before;
    leaf = at.at.leaf;
    behind = at.at.behind;
    all = at.at.all;
    here = at.at.here;
    low = at.at.low;
    within = at.at.within;
    there = seen_there R p new h.right home.id home-apart ∙ at.at.there;
    reads = at.at.reads;
  }

  pub fresh : NotIn new rep.indexes.leaves
  fresh = not-there (seen R p) k.root.page.store new (Some ([], rep.indexes.first)) rep.indexes.leaves None (λ q n here r. absent_apart (seen R p) new q r.bytes none r.there) rep.indexes.chain

  pub left-there : node_at text ≡ Some (record { level = 0; right = Some (are.entry.0, new.page.page, new.slot); entries = are.front })
  left-there = left_reads ∙ ap (λ (s : List ℕ). Some (record { level = 0; right = Some (s, new.page.page, new.slot); entries = are.front })) are.key

  pub right-there : get now new ≡ Some h.right
  right-there = seen_there R q home.id text new (λ e. home-apart (sym e)) ∙ seen_here R p new h.right

  abbrev pub indexes-now : Indexes now k.root rep.index
  indexes-now =
      split-is (seen R q) now k.root rep.index between key home.id home.bytes home-now new are.front are.entry are.others are.all store (λ other here apart. seen_there R q home.id text other apart) fresh
      (record { bytes = text; there = seen_here R q home.id text; reads = left-there }) (record { bytes = h.right; there = right-there; reads = are.right })

  value-apart : (s : Spot) → id_in k.values s.0 s.1 ≢ home.id
  value-apart s e = rep.stores (ap (λ (id : Rid). id.page.store) e ∙ at.store)

  pub others-there : (found : Option Spot) (v : Option (List ℕ)) → IsValue (seen R q) k.values found v → IsValue now k.values found v
  others-there None v was = was
  others-there (Some s) v was = (was.0, seen_there R q home.id text (id_in k.values s.0 s.1) (value-apart s) ∙ was.1, was.2)

  abbrev pub rep-now : Represents now k m
  rep-now = record {
    index = rep.index;
    indexes = indexes-now;
    valued = λ other. others-there (rep.index other) (m other)
        (value-stays R p k m rep new h.right none (record (node_of at.at.leaf) { entries = are.entry ∷ are.others }) are.right refl (rep.index other) (m other) (rep.valued other));
    own = rep.own;
    stores = rep.stores;
  }

  pub left-home : is_before key are.entry.0 ≡ true → IsNewAt now k m rep-now (record { id = home.id; bytes = text }) key
  left-home below = record {
    at = record {
      before = at.at.before;
      leaf = left (seen R q) now k.root rep.index between key home.id home.bytes home-now new are.front are.entry are.others are.all store (λ other here apart. seen_there R q home.id text other apart) fresh;
      behind = half (seen R q) now k.root rep.index between key home.id home.bytes home-now new are.front are.entry are.others are.all store (λ other here apart. seen_there R q home.id text other apart) fresh ∷ at.at.behind;
      all = refl;
      here = at.at.here;
      low = at.at.low;
      within = ap not below;
      there = seen_here R q home.id text;
      reads = left-there;
    };
    store = at.store;
    none = at.none;
  }

  pub right-home : is_before key are.entry.0 ≡ false → IsNewAt now k m rep-now (record { id = new; bytes = h.right }) key
  right-home above = record {
    at = record {
      before = at.at.before ++ left (seen R q) now k.root rep.index between key home.id home.bytes home-now new are.front are.entry are.others are.all store (λ other here apart. seen_there R q home.id text other apart) fresh ∷ [];
      leaf = half (seen R q) now k.root rep.index between key home.id home.bytes home-now new are.front are.entry are.others are.all store (λ other here apart. seen_there R q home.id text other apart) fresh;
      behind = at.at.behind;
      all = sym (append_assoc at.at.before (left (seen R q) now k.root rep.index between key home.id home.bytes home-now new are.front are.entry are.others are.all store (λ other here apart. seen_there R q home.id text other apart) fresh ∷ [])
          (half (seen R q) now k.root rep.index between key home.id home.bytes home-now new are.front are.entry are.others are.all store (λ other here apart. seen_there R q home.id text other apart) fresh ∷ at.at.behind));
      here = refl;
      low = above;
      within = at.at.within;
      there = right-there;
      reads = are.right;
    };
    store = store;
    none = at.none;
  }

-- ---- over the calls

abbrev pub Split : KeyMap → Home → List ℕ → Result Home Refusal → Records → Progress → Progress → Type 0
Split k home key s R p q = (m : Map) (rep : Represents (seen R p) k m) → IsNewAt (seen R p) k m rep home key → Spares k.root.page.store k.values R p q × HasSplit (seen R q) k m key s

abbrev Inserted : ℕ → List ℕ → Result Rid Refusal → Records → Progress → Progress → Type 0
Inserted store bytes i R p q = HasInserted (seen R p) store bytes p q i

abbrev Updated : {A : Type 0} → Rid → List ℕ → Result A Refusal → Records → Progress → Progress → Type 0
Updated id bytes u R p q = HasUpdated id bytes p q u

-- the right half is there, to which nothing leads
pub record Laid (k : KeyMap) (text : List ℕ) (new : Rid) (R : Records) (p q : Progress) : Type 0 where
  pub wrote_it : q ≡ wrote p new text
  pub none : get (seen R p) new ≡ None
  pub store : new.page.store ≡ k.root.page.store

pub laid : (k : KeyMap) (text : List ℕ) (a b : List Exchange) (i : Result Rid Refusal) (new : Rid) → GoesOn (Inserts k.root.page.store text i) a b → i ≡ Ok new → GoesOn (AtItsTurn (Laid k text new)) a b
laid k text a b i new x is =
    goes-as (Inserted k.root.page.store text i) (Laid k text new) a b x
    (λ R p q h. let now = subst (HasInserted (seen R p) k.root.page.store text p q) is h in record { wrote_it = now.2; none = now.0; store = now.1 })

abbrev pub Halved : List ℕ → Result (Option Halves) Refusal → Type 0
Halved bytes r = (node : Node) → node_at bytes ≡ Some node → IsHalved node r

module _ (k : KeyMap) (home : Home) (key : List ℕ) (s : Result Home Refusal) where
  pub split-stops : (a : List Exchange) (f : Refusal) → s ≡ Err f → f ≢ Damaged → GoesOn (Splits k home key s) a a
  split-stops a f so other = record { made = []; on = sym (append-nil a); holds = λ most R p may m rep at. (spared-same refl, subst (HasSplit (seen R p) k m key) (sym so) (other, rep)) }

  pub split-reads : (a : List Exchange) (f : Refusal) (r : Result (Option Halves) Refusal) → Halved home.bytes r → r ≡ Err f → s ≡ Err f → GoesOn (Splits k home key s) a a
  split-reads a f r cut is so = record {
    made = [];
    on = sym (append-nil a);
    holds = λ most R p may m rep at. (spared-same refl, subst (HasSplit (seen R p) k m key) (sym so) (subst (IsHalved (node_of at.at.leaf)) is (cut (node_of at.at.leaf) at.at.reads), rep));
  }

  pub split-stops-insert : (a b : List Exchange) (text : List ℕ) (i : Result Rid Refusal) (f : Refusal) → GoesOn (Inserts k.root.page.store text i) a b → i ≡ Err f → s ≡ Err f → GoesOn (Splits k home key s) a b
  split-stops-insert a b text i f x is so =
      goes-as (Inserted k.root.page.store text i) (Split k home key s) a b x
      (λ R p q h m rep at.
      let now = subst (HasInserted (seen R p) k.root.page.store text p q) is h in
      (spared-same now.1, subst (HasSplit (seen R q) k m key) (sym so) (now.0, subst (λ q. Represents (seen R q) k m) (sym now.1) rep)))

  module _ (r : Result (Option Halves) Refusal) (cut : Halved home.bytes r) (h : Halves) (is : r ≡ Ok (Some h)) where
    halves-of : (R : Records) (p : Progress) (m : Map) (rep : Represents (seen R p) k m) (at : IsNewAt (seen R p) k m rep home key) → AreHalves (node_of at.at.leaf) h
    halves-of R p m rep at = subst (IsHalved (node_of at.at.leaf)) is (cut (node_of at.at.leaf) at.at.reads)

    between-is : (R : Records) (p q : Progress) (m : Map) (rep : Represents (seen R p) k m) (at : IsNewAt (seen R p) k m rep home key) (new : Rid) → Laid k h.right new R p q → Represents (seen R q) k m
    between-is R p q m rep at new l =
        let are = halves-of R p m rep at in
        subst (λ q. Represents (seen R q) k m) (sym l.wrote_it) (node-is R p k m rep new h.right l.none (record (node_of at.at.leaf) { entries = are.entry ∷ are.others }) are.right refl)

    pub split-stops-behind : (a b : List Exchange) (new : Rid) (f : Refusal) → GoesOn (AtItsTurn (Laid k h.right new)) a b → s ≡ Err f → f ≢ Damaged → GoesOn (Splits k home key s) a b
    split-stops-behind a b new f x so other =
        goes-as (Laid k h.right new) (Split k home key s) a b x
        (λ R p q l m rep at.
        (spared-wrote _ _ (inl l.store) l.wrote_it, subst (HasSplit (seen R q) k m key) (sym so) (other, between-is R p q m rep at new l)))

    pub split-stops-update : {A : Type 0} (a b c : List Exchange) (new : Rid) (text : List ℕ) (u : Result A Refusal) (f : Refusal) → GoesOn (AtItsTurn (Laid k h.right new)) a b → GoesOn (Updates home.id text u) b c → u ≡ Err f
        → s ≡ Err f → GoesOn (Splits k home key s) a c
    split-stops-update {A} a b c new text u f x y no_more so =
        goes-then (Laid k h.right new) (Updated home.id text u) (Split k home key s) a b c x y
        (λ R p q t l y m rep at.
        let now = subst (HasUpdated {A = A} home.id text q t) no_more y in (
          spared-then (spared-wrote _ _ (inl l.store) l.wrote_it) (spared-same now.1),
          subst (HasSplit (seen R t) k m key) (sym so) (now.0, subst (λ t. Represents (seen R t) k m) (sym now.1) (between-is R p q m rep at new l)),
        ))

    module _ {A : Type 0} (a b c : List Exchange) (new : Rid) (text : List ℕ) (u : Result A Refusal) (done : A) (x : GoesOn (AtItsTurn (Laid k h.right new)) a b) (y : GoesOn (Updates home.id text u) b c) (ok : u ≡ Ok done)
        (reads : (xs : List Entry) → Spells h.first xs → length xs ≡ h.count → node_at text ≡ Some (record { level = 0; right = Some (h.key, new.page.page, new.slot); entries = xs })) where
      now-is : (R : Records) (p q t : Progress) → Laid k h.right new R p q → HasUpdated home.id text q t u → t ≡ wrote (wrote p new h.right) home.id text
      now-is R p q t l y = subst (HasUpdated {A = A} home.id text q t) ok y ∙ ap (λ q. wrote q home.id text) l.wrote_it

      pub split-left : is_before key h.key ≡ true → s ≡ Ok (record { id = home.id; bytes = text }) → GoesOn (Splits k home key s) a c
      split-left below so =
          goes-then (Laid k h.right new) (Updated home.id text u) (Split k home key s) a b c x y
          (λ R p q t l y m rep at.
          let are = halves-of R p m rep at in
          let now = now-is R p q t l y in
          let left_reads = reads are.front are.first are.count in (
            spared-then (spared-wrote _ _ (inl l.store) refl) (spared-wrote _ _ (inl at.store) now),
            subst (HasSplit (seen R t) k m key) (sym so)
                (subst (λ t. HasSplit (seen R t) k m key (Ok (record { id = home.id; bytes = text }))) (sym now)
                (rep-now R p k m rep home key at h are new l.none l.store text left_reads, left-home R p k m rep home key at h are new l.none l.store text left_reads (ap (λ (e : List ℕ). is_before key e) (sym are.key) ∙ below))),
          ))

      pub split-right : is_before key h.key ≡ false → s ≡ Ok (record { id = new; bytes = h.right }) → GoesOn (Splits k home key s) a c
      split-right above so =
          goes-then (Laid k h.right new) (Updated home.id text u) (Split k home key s) a b c x y
          (λ R p q t l y m rep at.
          let are = halves-of R p m rep at in
          let now = now-is R p q t l y in
          let left_reads = reads are.front are.first are.count in (
            spared-then (spared-wrote _ _ (inl l.store) refl) (spared-wrote _ _ (inl at.store) now),
            subst (HasSplit (seen R t) k m key) (sym so)
                (subst (λ t. HasSplit (seen R t) k m key (Ok (record { id = new; bytes = h.right }))) (sym now)
                (rep-now R p k m rep home key at h are new l.none l.store text left_reads, right-home R p k m rep home key at h are new l.none l.store text left_reads (ap (λ (e : List ℕ). is_before key e) (sym are.key) ∙ above))),
          ))

-- a leaf that is not split
pub splits-none : (k : KeyMap) (home : Home) (key : List ℕ) (a : List Exchange) → GoesOn (Splits k home key (Ok home)) a a
splits-none k home key a = record { made = []; on = sym (append-nil a); holds = λ most R p may m rep at. (spared-same refl, (rep, at)) }

-- one split after another
module _ (k : KeyMap) (home : Home) (key : List ℕ) (a b : List Exchange) (half : Home) (x : GoesOn (Splits k home key (Ok half)) a b) (s : Result Home Refusal) where
  pub splits-then : (c : List Exchange) → GoesOn (Splits k half key s) b c → GoesOn (Splits k home key s) a c
  splits-then c y =
      goes-then (Split k home key (Ok half)) (Split k half key s) (Split k home key s) a b c x y
      (λ R p q t h z m rep at.
      let was = h m rep at in
      let now = z m was.1.0 was.1.1 in
      (spared-then was.0 now.0, now.1))

  pub splits-stop : (f : Refusal) → s ≡ Err f → f ≢ Damaged → GoesOn (Splits k home key s) a b
  splits-stop f so other =
      goes-as (Split k home key (Ok half)) (Split k home key s) a b x
      (λ R p q h m rep at. let was = h m rep at in (was.0, subst (HasSplit (seen R q) k m key) (sym so) (other, was.1.0)))
