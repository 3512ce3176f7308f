-- The steps of a mend.
use Rattle.std.proofs.Common.{◌≡◌, ◌≢◌, ◌⊎◌, inl, inr, ℕ, List, [], Option, Some, None, Result, Ok, Err, refl, sym, ap, subst, ◌∙◌}
use Rattle.std.specs.Prelude.{IfErr}
use Rattle.std.specs.FinMap.{get}
use Rattle.std.proofs.lemmas.List.{append-nil}
use Rattle.std.proofs.lemmas.Option.{same_Some}
use Rattle.shore_types.specs.declared.ids.Rid.{Rid}
use Rattle.shore_model.specs.declared.calls.Exchange.{Exchange}
use Rattle.shore_model.specs.declared.progress.Progress.{Progress}
use Rattle.shore_model.specs.Records.{Records}
use Rattle.shore_keys.specs.declared.edges.Edge.{Edge}
use Rattle.shore_keys.specs.declared.maps.KeyMap.{KeyMap}
use Rattle.shore_keys.specs.declared.refusals.Refusal.{Refusal}
use Rattle.shore_keys.specs.declared.refusals.Refusal.TheVariants.{Damaged}
use Rattle.shore_keys.specs.Calls.{Gets, HasGot, HasUpdated, Tries, Updates, wrote}
use Rattle.shore_keys.specs.Cuts.{IsWithEntry, with_entry}
use Rattle.shore_keys.specs.Edges.{Crosses, Divides, HasEdge, IsEdge, IsInnerAt, Names}
use Rattle.shore_keys.specs.Exchanges.{AtItsTurn, GoesOn, Spares, seen}
use Rattle.shore_keys.specs.Maps.{Map, Mends, Represents, Stays}
use Rattle.shore_keys.specs.Nodes.{Node, node_at}
use Rattle.shore_keys.specs.Trees.{AllLead, BeginsUpTo, NotIn, ReadsNode, RightLeads, child}
use Rattle.shore_keys.proofs.DivideSteps.{Divided}
use Rattle.shore_keys.proofs.EdgeSteps.{Crossed}
use Rattle.shore_keys.proofs.InnerChanges.{all-placed, begins-placed, inner-apart, leads-still}
use Rattle.shore_keys.proofs.InnerWrites.{begins-instead, inner-written, lead-now, read-now, right-now, same-but}
use Rattle.shore_keys.proofs.Spared.{spared-same, spared-then, spared-wrote}
use Rattle.shore_keys.proofs.Turns.{goes-as, goes-then}
use Rattle.shore_keys.proofs.Walks.{same_node}

-- not refused because of what was read
abbrev pub Harmless : {A : Type 0} → Result A Refusal → Type 0
Harmless s = IfErr s (λ fault. fault ≢ Damaged)

pub err-as : {A B : Type 0} (n : Result A Refusal) (s : Result B Refusal) (f : Refusal) → n ≡ Err f → s ≡ Err f → Harmless n → Harmless s
err-as {A = A} {B = B} n s f is so h = subst (λ (s : Result B Refusal). Harmless s) (sym so) (subst (λ (n : Result A Refusal). Harmless n) is h)

abbrev Named : {A : Type 0} → KeyMap → Edge → Result A Refusal → Records → Progress → Progress → Type 0
Named k e s R p q = (m : Map) (rep : Represents (seen R p) k m) → IsEdge (seen R p) k.root rep.indexes.leaves e → Stays k m R p q s

abbrev Tried : Records → Progress → Progress → Type 0
Tried R p q = q ≡ p

abbrev Got : Rid → Result (List ℕ) Refusal → Records → Progress → Progress → Type 0
Got id r R p q = (q ≡ p) × HasGot (seen R p) id r

abbrev Updated : {A : Type 0} → Rid → List ℕ → Result A Refusal → Records → Progress → Progress → Type 0
Updated id bytes u R p q = HasUpdated id bytes p q u

-- nothing has changed, and this was got
pub record IsReady (e : Edge) (g : Result (List ℕ) Refusal) (R : Records) (p q : Progress) : Type 0 where
  pub same : q ≡ p
  pub got : HasGot (seen R p) e.parent g

pub ready : (e : Edge) (g : Result (List ℕ) Refusal) (a b c : List Exchange) → GoesOn Tries a b → GoesOn (Gets e.parent g) b c → GoesOn (AtItsTurn (IsReady e g)) a c
ready e g a b c x y =
    goes-then Tried (Got e.parent g) (IsReady e g) a b c x y
    (λ R p q t h k. record { same = k.0 ∙ h; got = subst (λ q. HasGot (seen R q) e.parent g) h k.1 })

stay : {A : Type 0} (k : KeyMap) (m : Map) (R : Records) (p q : Progress) (s : Result A Refusal) → q ≡ p → Represents (seen R p) k m → Harmless s → Stays k m R p q s
stay k m R p q s same rep so = (spared-same same, subst (λ q. Represents (seen R q) k m) (sym same) rep, so)

module _ {A : Type 0} (k : KeyMap) (e : Edge) (s : Result A Refusal) where
  pub name-stops : (a : List Exchange) → Harmless s → GoesOn (Names k e s) a a
  name-stops a so = record { made = []; on = sym (append-nil a); holds = λ most R p may m rep edge. stay k m R p p s refl rep so }

  pub name-untried : (a b : List Exchange) → GoesOn Tries a b → Harmless s → GoesOn (Names k e s) a b
  name-untried a b x so = goes-as Tried (Named k e s) a b x (λ R p q h m rep edge. stay k m R p q s h rep so)

  module _ (a c : List Exchange) (g : Result (List ℕ) Refusal) (x : GoesOn (AtItsTurn (IsReady e g)) a c) where
    pub name-ready : Harmless s → GoesOn (Names k e s) a c
    name-ready so = goes-as (IsReady e g) (Named k e s) a c x (λ R p q h m rep edge. stay k m R p q s h.same rep so)

    pub name-stops-get : (f : Refusal) → g ≡ Err f → s ≡ Err f → GoesOn (Names k e s) a c
    name-stops-get f is so =
        goes-as (IsReady e g) (Named k e s) a c x
        (λ R p q h m rep edge. stay k m R p q s h.same rep (subst (λ (s : Result A Refusal). Harmless s) (sym so) (subst (HasGot (seen R p) e.parent) is h.got)))

    module _ (bytes : List ℕ) (is : g ≡ Ok bytes) where
      -- it is read as the node that the search came from
      reads-node : (R : Records) (p q : Progress) → IsReady e g R p q → (node : Node) → ReadsNode (seen R p) e.parent node → (get (seen R p) e.parent ≡ Some bytes) × (node_at bytes ≡ Some node)
      reads-node R p q h node r = let there = subst (HasGot (seen R p) e.parent) is h.got in (there, same_node (seen R p) e.parent bytes node there r)

      module _ (w : Result (Option (List ℕ)) Refusal) (cut : (node : Node) → node_at bytes ≡ Some node → IsWithEntry bytes node e.key e.spot w) where
        pub name-stops-text : (f : Refusal) → w ≡ Err f → s ≡ Err f → GoesOn (Names k e s) a c
        name-stops-text f err so =
            goes-as (IsReady e g) (Named k e s) a c x
            (λ R p q h m rep edge.
            let reads = (reads-node R p q h edge.node edge.reads).1 in
            stay k m R p q s h.same rep (subst (λ (s : Result A Refusal). Harmless s) (sym so) (subst (IsWithEntry bytes edge.node e.key e.spot) err (cut edge.node reads))))

        module _ (level : ℕ) (level_is : (node : Node) → node_at bytes ≡ Some node → node.level ≡ level) (inner : level ≢ 0) where
          module _ (R : Records) (p : Progress) (m : Map) (rep : Represents (seen R p) k m) (edge : IsEdge (seen R p) k.root rep.indexes.leaves e) (reads : node_at bytes ≡ Some edge.node) where
            is-inner : edge.node.level ≢ 0
            is-inner zero = inner (sym (level_is edge.node reads) ∙ zero)

            no-leaf : NotIn e.parent rep.indexes.leaves
            no-leaf = inner-apart (seen R p) k.root.page.store e.parent edge.node edge.reads is-inner (Some ([], rep.indexes.first)) rep.indexes.leaves None rep.indexes.chain

            begins : (n : Node) → ReadsNode (seen R p) e.parent n → n.level ≢ 0 → (k : List ℕ) → BeginsUpTo n.entries k → BeginsUpTo (with_entry e.key e.spot edge.node).entries k
            begins = begins-instead (seen R p) e.parent edge.node (with_entry e.key e.spot edge.node) edge.reads (begins-placed e.key e.spot edge.node.entries)

            abbrev old : AllLead (seen R p) k.root.page.store rep.indexes.leaves edge.node.entries × RightLeads (seen R p) k.root.page.store rep.indexes.leaves edge.node.right
            old = rep.indexes.inner e.parent edge.node edge.store edge.reads is-inner

            names : (text : List ℕ) → node_at text ≡ Some (with_entry e.key e.spot edge.node) → Represents (seen R (wrote p e.parent text)) k m
            names text made =
                inner-written R p k m rep e.parent edge.store text (with_entry e.key e.spot edge.node) made is-inner no-leaf begins
                (all-placed (seen R (wrote p e.parent text)) k.root.page.store rep.indexes.leaves e.key e.spot edge.node.entries
                (leads-still (seen R p) (seen R (wrote p e.parent text)) k.root rep.index rep.indexes e.parent (with_entry e.key e.spot edge.node)
                (read-now R p k m rep e.parent edge.store text (with_entry e.key e.spot edge.node) made is-inner no-leaf begins) is-inner no-leaf begins
                (same-but R p k m rep e.parent edge.store text (with_entry e.key e.spot edge.node) made is-inner no-leaf begins) e.key (child k.root.page.store (e.key, e.spot.0, e.spot.1)) refl edge.leads)
                (lead-now R p k m rep e.parent edge.store text (with_entry e.key e.spot edge.node) made is-inner no-leaf begins edge.node.entries old.0))
                (right-now R p k m rep e.parent edge.store text (with_entry e.key e.spot edge.node) made is-inner no-leaf begins edge.node.right old.1)

            updates-node : {B : Type 0} (q t : Progress) → q ≡ p → (text : List ℕ) → node_at text ≡ Some (with_entry e.key e.spot edge.node) → (u : Result B Refusal) → HasUpdated e.parent text q t u → Stays k m R p t u
            updates-node q t same text made (Ok done) h =
                let now : t ≡ wrote p e.parent text = h ∙ ap (λ q. wrote q e.parent text) same in
                (spared-wrote _ _ (inl edge.store) now, subst (λ t. Represents (seen R t) k m) (sym now) (names text made), tt)
            updates-node q t same text made (Err f) h = (spared-same (h.1 ∙ same), subst (λ t. Represents (seen R t) k m) (sym (h.1 ∙ same)) rep, h.0)

          pub name-updates : {B : Type 0} (text : List ℕ) → w ≡ Ok (Some text) → (d : List Exchange) (u : Result B Refusal) → GoesOn (Updates e.parent text u) c d → (Harmless u → Harmless s) → GoesOn (Names k e s) a d
          name-updates text some d u y so =
              goes-then (IsReady e g) (Updated e.parent text u) (Named k e s) a c d x y
              (λ R p q t h z m rep edge.
              let reads = (reads-node R p q h edge.node edge.reads).1 in
              let made = subst (IsWithEntry bytes edge.node e.key e.spot) some (cut edge.node reads) in
              let all = updates-node R p m rep edge reads q t h.same text made.0 u z in
              (all.0, all.1, so all.2))

          pub name-divides : {B : Type 0} (d : List Exchange) (u : Result B Refusal) → GoesOn (Divides k e.parent bytes level u) c d → (Harmless u → Harmless s) → GoesOn (Names k e s) a d
          name-divides d u y so =
              goes-then (IsReady e g) (Divided k e.parent bytes level u) (Named k e s) a c d x y
              (λ R p q t h z m rep edge.
              let reads = reads-node R p q h edge.node edge.reads in
              subst (λ (v : Progress). Divided k e.parent bytes level u R v t → Stays k m R p t s) (sym h.same)
              (λ z.
              let all = z m rep (record { store = edge.store; there = reads.0; node = edge.node; reads = reads.1; is = level_is edge.node reads.1; inner = inner }) in
              (all.0, all.1, so all.2)) z)

-- ---- again and again

abbrev pub Mended : {A : Type 0} → KeyMap → Result A Refusal → Records → Progress → Progress → Type 0
Mended k s R p q = (m : Map) → Represents (seen R p) k m → Stays k m R p q s

-- the map is the same, and a search has told of a right neighbour
abbrev Between : KeyMap → Edge → Records → Progress → Progress → Type 0
Between k e R p q = (m : Map) → Represents (seen R p) k m → Spares k.root.page.store k.values R p q × ((rep : Represents (seen R q) k m) × IsEdge (seen R q) k.root rep.indexes.leaves e)

pub mend-starts : {A : Type 0} (k : KeyMap) (s : Result A Refusal) (a : List Exchange) → Harmless s → GoesOn (Mends k s) a a
mend-starts k s a so = record { made = []; on = sym (append-nil a); holds = λ most R p may m rep. stay k m R p p s refl rep so }

module _ {A B : Type 0} (k : KeyMap) (before : Result A Refusal) (s : Result B Refusal) (a b : List Exchange) (x : GoesOn (Mends k before) a b) where
  pub mend-ends : Harmless s → GoesOn (Mends k s) a b
  mend-ends so = goes-as (Mended k before) (Mended k s) a b x (λ R p q h m rep. let was = h m rep in (was.0, was.1, so))

  module _ (c : List Exchange) (r : Result (Option Edge) Refusal) (y : GoesOn (Crosses k.root r) b c) where
    crossed : (R : Records) (p q t : Progress) (m : Map) → Spares k.root.page.store k.values R p q → t ≡ q → Represents (seen R q) k m → Harmless s → Stays k m R p t s
    crossed R p q t m spares same rep so = (spared-then spares (spared-same same), subst (λ t. Represents (seen R t) k m) (sym same) rep, so)

    pub mend-crosses : Harmless s → GoesOn (Mends k s) a c
    mend-crosses so =
        goes-then (Mended k before) (Crossed k.root r) (Mended k s) a b c x y
        (λ R p q t h z m rep. let was = h m rep in crossed R p q t m was.0 (z was.1.index was.1.indexes).0 was.1 so)

    pub mend-stops : (f : Refusal) → r ≡ Err f → s ≡ Err f → GoesOn (Mends k s) a c
    mend-stops f is so =
        goes-then (Mended k before) (Crossed k.root r) (Mended k s) a b c x y
        (λ R p q t h z m rep.
        let was = h m rep in
        let edge = z was.1.index was.1.indexes in
        crossed R p q t m was.0 edge.0 was.1 (subst (λ (s : Result B Refusal). Harmless s) (sym so) (subst (HasEdge (seen R q) k.root was.1.index was.1.indexes) is edge.1)))

    pub mend-names : {C : Type 0} (e : Edge) → r ≡ Ok (Some e) → (d : List Exchange) (n : Result C Refusal) → GoesOn (Names k e n) c d → (Harmless n → Harmless s) → GoesOn (Mends k s) a d
    mend-names e is d n z so =
        goes-then (Between k e) (Named k e n) (Mended k s) a c d between z
        (λ R p q t h v m rep.
        let was = h m rep in
        let all = v m was.1.0 was.1.1 in
        (spared-then was.0 all.0, all.1, so all.2))
      where
        between : GoesOn (AtItsTurn (Between k e)) a c
        between =
            goes-then (Mended k before) (Crossed k.root r) (Between k e) a b c x y
            (λ R p q t h v m rep.
            let was = h m rep in
            let edge = v was.1.index was.1.indexes in (
              spared-then was.0 (spared-same edge.0),
              subst (λ t. (rep : Represents (seen R t) k m) × IsEdge (seen R t) k.root rep.indexes.leaves e) (sym edge.0) (was.1, subst (HasEdge (seen R q) k.root was.1.index was.1.indexes) is edge.1),
            ))
