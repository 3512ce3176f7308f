-- The steps of a division of an inner node.
use Rattle.std.proofs.Common.{◌≡◌, ◌≢◌, ◌⊎◌, inl, inr, ℕ, suc, ◌+◌, ◌-◌, ◌/◌, ◌≤◌, List, [], ◌∷◌, ◌++◌, length, Bool, true, false, Option, Some, None, Result, Ok, Err, refl, sym, ap, subst, ◌∙◌, arith}
use Rattle.std.specs.Prelude.{IfErr}
use Rattle.std.specs.FinMap.{get}
use Rattle.std.proofs.lemmas.List.{append-nil}
use Rattle.std.proofs.lemmas.Option.{same_Some}
use Rattle.shore_types.specs.declared.ids.Rid.{Rid}
use Rattle.shore_model.specs.declared.calls.Exchange.{Exchange}
use Rattle.shore_model.specs.declared.progress.Progress.{Progress}
use Rattle.shore_model.specs.Records.{Records}
use Rattle.shore_keys.specs.declared.halving.Halves.{Halves}
use Rattle.shore_keys.specs.declared.maps.KeyMap.{KeyMap}
use Rattle.shore_keys.specs.declared.refusals.Refusal.{Refusal}
use Rattle.shore_keys.specs.declared.refusals.Refusal.TheVariants.{Damaged}
use Rattle.shore_keys.specs.Calls.{HasInserted, HasUpdated, Inserts, Updates, wrote}
use Rattle.shore_keys.specs.Cuts.{Spells}
use Rattle.shore_keys.specs.Edges.{Divides, IsInnerAt}
use Rattle.shore_keys.specs.Exchanges.{AtItsTurn, GoesOn, Spares, seen}
use Rattle.shore_keys.specs.Halves.{AreHalves, IsHalved}
use Rattle.shore_keys.specs.Maps.{Map, Represents, Stays}
use Rattle.shore_keys.specs.Nodes.{Entry, Front, Node, entries_at, entry_at, front_at, node_at}
use Rattle.shore_keys.specs.Orders.{IsUpTo}
use Rattle.shore_keys.specs.Steps.{IsFirstKey}
use Rattle.shore_keys.specs.Trees.{AllLead, BeginsUpTo, Leads, Leaf, ReadsNode, RightLeads, child, id_in}
use Rattle.shore_keys.proofs.EntriesLeft.{first_of}
use Rattle.shore_keys.proofs.InnerChanges.{back-lead, front-lead}
use Rattle.shore_keys.proofs.InnerWrites.{both-written, inner-more, leads-new, leads-then}
use Rattle.shore_keys.proofs.KeyOrder.{upto-itself}
use Rattle.shore_keys.proofs.Spared.{spared-same, spared-then, spared-wrote}
use Rattle.shore_keys.proofs.SplitSteps.{Halved, Laid}
use Rattle.shore_keys.proofs.Turns.{goes-as, goes-then}
use Rattle.shore_keys.proofs.Walks.{front_is}

pub stays-refused : {A : Type 0} (k : KeyMap) (m : Map) (R : Records) (p q : Progress) (s : Result A Refusal) (f : Refusal) → s ≡ Err f → f ≢ Damaged → Spares k.root.page.store k.values R p q → Represents (seen R q) k m
    → Stays k m R p q s
stays-refused k m R p q s f so other spares rep = (spares, rep, subst (λ s. IfErr s (λ fault. fault ≢ Damaged)) (sym so) other)

pub stays-same : {A : Type 0} (k : KeyMap) (m : Map) (R : Records) (p q : Progress) (s : Result A Refusal) (f : Refusal) → s ≡ Err f → f ≢ Damaged → q ≡ p → Represents (seen R p) k m → Stays k m R p q s
stays-same k m R p q s f so other same rep = stays-refused k m R p q s f so other (spared-same same) (subst (λ q. Represents (seen R q) k m) (sym same) rep)

abbrev pub Divided : {A : Type 0} → KeyMap → Rid → List ℕ → ℕ → Result A Refusal → Records → Progress → Progress → Type 0
Divided k at bytes level s R p q = (m : Map) → Represents (seen R p) k m → IsInnerAt (seen R p) k at bytes level → Stays k m R p q s

abbrev Inserted : ℕ → List ℕ → Result Rid Refusal → Records → Progress → Progress → Type 0
Inserted store bytes i R p q = HasInserted (seen R p) store bytes p q i

abbrev Updated : {A : Type 0} → Rid → List ℕ → Result A Refusal → Records → Progress → Progress → Type 0
Updated id bytes u R p q = HasUpdated id bytes p q u

-- the text is that of a node with the last entries alone
pub record IsPart (node : Node) (text : List ℕ) : Type 0 where
  pub front : List Entry
  pub back : List Entry
  pub all : node.entries ≡ front ++ back
  pub reads : node_at text ≡ Some (record node { entries = back })

module _ {A : Type 0} (k : KeyMap) (at : Rid) (bytes : List ℕ) (level : ℕ) (s : Result A Refusal) where
  pub divide-stops : (a : List Exchange) (f : Refusal) → s ≡ Err f → f ≢ Damaged → GoesOn (Divides k at bytes level s) a a
  divide-stops a f so other = record { made = []; on = sym (append-nil a); holds = λ most R p may m rep i. stays-same k m R p p s f so other refl rep }

  pub divide-reads : (a : List Exchange) (f : Refusal) (r : Result (Option Halves) Refusal) → Halved bytes r → r ≡ Err f → s ≡ Err f → GoesOn (Divides k at bytes level s) a a
  divide-reads a f r cut is so = record {
    made = [];
    on = sym (append-nil a);
    holds = λ most R p may m rep i. stays-same k m R p p s f so (subst (IsHalved i.node) is (cut i.node i.reads)) refl rep;
  }

  pub divide-stops-insert : (a b : List Exchange) (text : List ℕ) (i : Result Rid Refusal) (f : Refusal) → GoesOn (Inserts k.root.page.store text i) a b → i ≡ Err f → s ≡ Err f → GoesOn (Divides k at bytes level s) a b
  divide-stops-insert a b text i f x is so =
      goes-as (Inserted k.root.page.store text i) (Divided k at bytes level s) a b x
      (λ R p q h m rep i. let now = subst (HasInserted (seen R p) k.root.page.store text p q) is h in stays-same k m R p q s f so now.0 now.1 rep)

  module _ (text : List ℕ) (part : (node : Node) → node_at bytes ≡ Some node → IsPart node text) where
    inner-at : (R : Records) (i : IsInnerAt R k at bytes level) → i.node.level ≢ 0
    inner-at R i zero = i.inner (sym i.is ∙ zero)

    old : (R : Records) (p : Progress) (m : Map) (rep : Represents (seen R p) k m) (i : IsInnerAt (seen R p) k at bytes level)
        → AllLead (seen R p) k.root.page.store rep.indexes.leaves i.node.entries × RightLeads (seen R p) k.root.page.store rep.indexes.leaves i.node.right
    old R p m rep i = rep.indexes.inner at i.node i.store (record { bytes = bytes; there = i.there; reads = i.reads }) (inner-at (seen R p) i)

    both : (R : Records) (p : Progress) (m : Map) (rep : Represents (seen R p) k m) (i : IsInnerAt (seen R p) k at bytes level)
        → AllLead (seen R p) k.root.page.store rep.indexes.leaves ((part i.node i.reads).front ++ (part i.node i.reads).back)
    both R p m rep i = subst (AllLead (seen R p) k.root.page.store rep.indexes.leaves) (part i.node i.reads).all (old R p m rep i).0

    back-leads : (R : Records) (p : Progress) (m : Map) (rep : Represents (seen R p) k m) (i : IsInnerAt (seen R p) k at bytes level) → AllLead (seen R p) k.root.page.store rep.indexes.leaves (part i.node i.reads).back
    back-leads R p m rep i = back-lead (seen R p) k.root.page.store rep.indexes.leaves (part i.node i.reads).front (part i.node i.reads).back (both R p m rep i)

    between : (R : Records) (p q : Progress) (m : Map) (rep : Represents (seen R p) k m) (i : IsInnerAt (seen R p) k at bytes level) (new : Rid) → Laid k text new R p q → Represents (seen R q) k m
    between R p q m rep i new l =
        subst (λ q. Represents (seen R q) k m) (sym l.wrote_it)
        (inner-more R p k m rep new l.store l.none text (record i.node { entries = (part i.node i.reads).back }) (part i.node i.reads).reads (inner-at (seen R p) i) (back-leads R p m rep i) (old R p m rep i).1)

    pub divide-stops-behind : (a b : List Exchange) (new : Rid) (f : Refusal) → GoesOn (AtItsTurn (Laid k text new)) a b → s ≡ Err f → f ≢ Damaged → GoesOn (Divides k at bytes level s) a b
    divide-stops-behind a b new f x so other =
        goes-as (Laid k text new) (Divided k at bytes level s) a b x
        (λ R p q l m rep i. stays-refused k m R p q s f so other (spared-wrote _ _ (inl l.store) l.wrote_it) (between R p q m rep i new l))

    -- what the node is instead
    module _ (new : Rid) (changed : List ℕ) (instead : (node : Node) → node_at bytes ≡ Some node → Node) (reads_now : (node : Node) (r : node_at bytes ≡ Some node) → node_at changed ≡ Some (instead node r))
        (level_now : (node : Node) (r : node_at bytes ≡ Some node) → level ≢ 0 → (instead node r).level ≢ 0)
        (begins_now : (node : Node) (r : node_at bytes ≡ Some node) (k : List ℕ) → BeginsUpTo node.entries k → BeginsUpTo (instead node r).entries k)
        (leads_now : (R Q : Records) (ls : List Leaf) (node : Node) (r : node_at bytes ≡ Some node) → new.page.store ≡ k.root.page.store
        → ((es : List Entry) → AllLead R k.root.page.store ls es → AllLead Q k.root.page.store ls es) → AllLead R k.root.page.store ls ((part node r).front ++ (part node r).back)
        → ((key : List ℕ) → BeginsUpTo (part node r).back key → Leads Q ls key new)
        → AllLead Q k.root.page.store ls (instead node r).entries × RightLeads Q k.root.page.store ls (instead node r).right) where
      ends : (R : Records) (p q t : Progress) (m : Map) (rep : Represents (seen R p) k m) (i : IsInnerAt (seen R p) k at bytes level) → Laid k text new R p q → t ≡ wrote q at changed → Represents (seen R t) k m
      ends R p q t m rep i l then =
          let now : t ≡ wrote (wrote p new text) at changed = then ∙ ap (λ q. wrote q at changed) l.wrote_it in
          let laid : Node = record i.node { entries = (part i.node i.reads).back } in
          let reads = reads_now i.node i.reads in
          let leads = leads_now (seen R p) (seen R (wrote (wrote p new text) at changed)) rep.indexes.leaves i.node i.reads l.store
          (leads-then R p k m rep new l.store l.none text laid (part i.node i.reads).reads (inner-at (seen R p) i) (back-leads R p m rep i) (old R p m rep i).1 at i.store bytes i.there i.node i.reads (inner-at (seen R p) i)
          changed (instead i.node i.reads) reads (level_now i.node i.reads i.inner) (begins_now i.node i.reads))
          (both R p m rep i)
          (leads-new R p k m rep new l.store l.none text laid (part i.node i.reads).reads (inner-at (seen R p) i) (back-leads R p m rep i) (old R p m rep i).1 at i.store bytes i.there i.node i.reads (inner-at (seen R p) i)
          changed (instead i.node i.reads) reads (level_now i.node i.reads i.inner) (begins_now i.node i.reads)) in
          subst (λ t. Represents (seen R t) k m) (sym now)
          (both-written R p k m rep new l.store l.none text laid (part i.node i.reads).reads (inner-at (seen R p) i) (back-leads R p m rep i) (old R p m rep i).1 at i.store bytes i.there i.node i.reads (inner-at (seen R p) i)
          changed (instead i.node i.reads) reads (level_now i.node i.reads i.inner) (begins_now i.node i.reads) leads.0 leads.1)

      done : (R : Records) (p q t : Progress) (m : Map) (rep : Represents (seen R p) k m) (i : IsInnerAt (seen R p) k at bytes level) → Laid k text new R p q → (s : Result A Refusal) → HasUpdated at changed q t s → Stays k m R p t s
      done R p q t m rep i l (Ok it) u = (spared-then (spared-wrote _ _ (inl l.store) l.wrote_it) (spared-wrote _ _ (inl i.store) u), ends R p q t m rep i l u, tt)
      done R p q t m rep i l (Err f) u =
          (spared-then (spared-wrote _ _ (inl l.store) l.wrote_it) (spared-same u.1), subst (λ t. Represents (seen R t) k m) (sym u.1) (between R p q m rep i new l), u.0)

      pub divide-ends : (a b c : List Exchange) → GoesOn (AtItsTurn (Laid k text new)) a b → GoesOn (Updates at changed s) b c → GoesOn (Divides k at bytes level s) a c
      divide-ends a b c x y =
          goes-then (Laid k text new) (Updated at changed s) (Divided k at bytes level s) a b c x y
          (λ R p q t l u m rep i. done R p q t m rep i l s u)

-- ---- the root grows

abbrev pub whole : (bytes copy : List ℕ) → copy ≡ bytes → (node : Node) → node_at bytes ≡ Some node → IsPart node copy
whole bytes copy same node r = record { front = []; back = node.entries; all = refl; reads = ap node_at same ∙ r }

pub above-zero : (n : ℕ) → n + 1 ≢ 0
above-zero n e = absurd (omega arith)

named : (store : ℕ) (key : List ℕ) (new : Rid) → new.page.store ≡ store → child store (key, new.page.page, new.slot) ≡ new
named store key new here = ap (λ (s : ℕ). id_in s new.page.page new.slot) (sym here)

begins-first : (es : List Entry) (first : List ℕ) → IsFirstKey es (Some first) → BeginsUpTo es first
begins-first [] first none = absurd none
begins-first (e ∷ es) first same = subst (λ (k : List ℕ). IsUpTo e.0 k) (sym same) (upto-itself e.0)

from-first : (es : List Entry) (first k : List ℕ) → IsFirstKey es (Some first) → BeginsUpTo es k → IsUpTo first k
from-first [] first k none begins = absurd none
from-first (e ∷ es) first k same begins = subst (λ (f : List ℕ). IsUpTo f k) (sym same) begins

pub grow-ends : {A : Type 0} (k : KeyMap) (at : Rid) (bytes : List ℕ) (level : ℕ) (s : Result A Refusal) (copy : List ℕ) (same : copy ≡ bytes) (new : Rid) (changed first : List ℕ) (above : ℕ) → above ≢ 0
    → ((node : Node) → node_at bytes ≡ Some node → IsFirstKey node.entries (Some first)) → node_at changed ≡ Some (record { level = above; right = None; entries = (first, new.page.page, new.slot) ∷ [] })
    → (a b c : List Exchange) → GoesOn (AtItsTurn (Laid k copy new)) a b → GoesOn (Updates at changed s) b c → GoesOn (Divides k at bytes level s) a c
grow-ends k at bytes level s copy same new changed first above inner first_is made =
    divide-ends k at bytes level s copy (whole bytes copy same) new changed (λ node r. record { level = above; right = None; entries = (first, new.page.page, new.slot) ∷ [] }) (λ node r. made) (λ node r i. inner)
    (λ node r k low. from-first node.entries first k (first_is node r) low)
    (λ R Q ls node r here still all lead. ((subst (λ id. Leads Q ls first id) (sym (named k.root.page.store first new here)) (lead first (begins-first node.entries first (first_is node r))), tt), tt))

-- ---- another one is split

front-begins : (front : List Entry) (e : Entry) (others : List Entry) (k : List ℕ) → 1 ≤ length front → BeginsUpTo (front ++ e ∷ others) k → BeginsUpTo front k
front-begins [] e others k some low = absurd (omega arith)
front-begins (x ∷ xs) e others k some low = low

module _ (bytes : List ℕ) (r : Result (Option Halves) Refusal) (cut : Halved bytes r) (h : Halves) (is : r ≡ Ok (Some h)) where
  abbrev pub are : (node : Node) → node_at bytes ≡ Some node → AreHalves node h
  are node reads = subst (IsHalved node) is (cut node reads)

  abbrev pub half : (node : Node) → node_at bytes ≡ Some node → IsPart node h.right
  half node reads = let a = are node reads in record { front = a.front; back = a.entry ∷ a.others; all = a.all; reads = a.right }

  some-front : (node : Node) (reads : node_at bytes ≡ Some node) → 1 ≤ length (are node reads).front
  some-front node reads =
      let a = are node reads in
      let two : 2 ≤ length node.entries = a.two in
      let half : length a.front ≡ length node.entries / 2 = a.half in
      omega arith

  pub halve-ends : {A : Type 0} (k : KeyMap) (at : Rid) (level : ℕ) (s : Result A Refusal) (new : Rid) (changed : List ℕ)
      → ((xs : List Entry) → Spells h.first xs → length xs ≡ h.count → node_at changed ≡ Some (record { level = level; right = Some (h.key, new.page.page, new.slot); entries = xs }))
      → (a b c : List Exchange) → GoesOn (AtItsTurn (Laid k h.right new)) a b → GoesOn (Updates at changed s) b c → GoesOn (Divides k at bytes level s) a c
  halve-ends k at level s new changed made =
      divide-ends k at bytes level s h.right half new changed (λ node r. record { level = level; right = Some (h.key, new.page.page, new.slot); entries = (are node r).front })
      (λ node r. made (are node r).front (are node r).first (are node r).count) (λ node r inner. inner)
      (λ node r k low. front-begins (are node r).front (are node r).entry (are node r).others k (some-front node r) (subst (λ es. BeginsUpTo es k) (are node r).all low))
      (λ R Q ls node r here still all lead. (
        still (are node r).front (front-lead R k.root.page.store ls (are node r).front ((are node r).entry ∷ (are node r).others) all),
        subst (λ id. Leads Q ls h.key id) (sym (named k.root.page.store h.key new here)) (lead h.key (subst (λ (k : List ℕ). IsUpTo (are node r).entry.0 k) (sym (are node r).key) (upto-itself (are node r).entry.0))),
      ))

-- ---- what is read for it

pub first-key-is : (bytes : List ℕ) (f : Front) (node : Node) → node_at bytes ≡ Some node → front_at bytes ≡ Some f → f.count ≢ 0 → (x : Entry × List ℕ) → entry_at f.body ≡ Some x → IsFirstKey node.entries (Some x.0.0)
first-key-is bytes f node reads front some x one =
    let more : f.count ≡ suc (f.count - 1) = omega arith in
    let first = first_of f.body (f.count - 1) node.entries (ap (λ (n : ℕ). entries_at n f.body) (sym more) ∙ (front_is bytes node f reads front).entries) in
    let same : (first.entry, first.behind) ≡ x = same_Some (first.entry, first.behind) x (sym first.one ∙ one) in
    subst (λ es. IsFirstKey es (Some x.0.0)) (sym first.is) (sym (ap (λ (y : Entry × List ℕ). y.0.0) same))
