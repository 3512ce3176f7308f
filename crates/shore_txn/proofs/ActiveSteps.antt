-- What begins, changes, savepoints, undos and endings leave of the transactions of a table.
use Rattle.std.proofs.Common.{◌≡◌, ◌≢◌, ◌+◌, ◌<◌, ◌≤◌, cond, false, inl, inr, true, ℕ, List, Option, None, Some, [], ◌∷◌, ◌++◌, suc, drop, length, set, take, refl, sym, ap, subst, ◌∙◌, arith}
use Rattle.std.specs.List.{AllByRecursion}
use Rattle.std.proofs.lemmas.List.{append_assoc, append-nil, length-map, map-append}
use Rattle.shore_types.specs.Images.{Image, image_len}
use Rattle.shore_types.specs.declared.ids.PageId.{PageId}
use Rattle.shore_types.specs.declared.ids.Rid.{Rid}
use Rattle.shore_types.specs.declared.layout.TheConstants.{ENDING_COST}
use Rattle.laws_room.specs.LogRooms.{compensation_cost, compensation_costs}
use Rattle.laws_lives.specs.Sessions.{EachOnce, SessionTxn, txns_of, with_undo, without_txn}
use Rattle.laws_lives.specs.UndoLists.{UndoList, marks_kept, undo_rolled}
use Rattle.laws_lives.specs.Views.{IsAmong}
use Rattle.shore_txn.specs.ActiveTxns as active
use Rattle.shore_txn.specs.ActiveTxns.{AreApart, HasMore, OneBecomes, OneLeaves, all_changes, back_at, session_txns, with_entry, with_mark}
use Rattle.shore_txn.specs.TxnStates.{is_in_doubt, second_ending}
use Rattle.shore_txn.specs.Txns.{IsAfterAnswer, IsAfterChange, IsAfterDecision, IsAfterPrepare, IsAfterSavepoint, IsAfterUndo, IsBackAt, IsDoomed, IsFoundPrepared, IsOf, SameTxn, as_session_txn, entries_of, marks_of, number_of, reserved_for, rolling_of, state_of}
use Rattle.shore_txn.specs.UndoEntries.{claims_on, image_of, images_of}
use Rattle.shore_txn.specs.declared.active.ActiveTxn.{ActiveTxn}
use Rattle.shore_model.specs.declared.rollbacks.Rollback.{Rollback}
use Rattle.shore_model.specs.declared.rollbacks.Rollback.TheVariants.{Whole}
use Rattle.shore_txn.specs.declared.txn.Txn.{Txn}
use Rattle.shore_txn.specs.declared.txn_state.TxnState.TheVariants as state
use Rattle.shore_txn.specs.declared.undo.UndoEntry.{UndoEntry}
use Rattle.shore_txn.proofs.ActiveLemmas.{IsAt, number_among, txns_join, txns_parts}
use Rattle.shore_txn.proofs.ClaimLemmas.{claims_append, claims_other, claims_push}
use Rattle.shore_txn.proofs.OneOfMany.{all_among, all_less, all_with, among_map, among_middle, among_more, among_parts, map_among, map_join, map_parts, map_with, once_less, once_same, with_its, with_one, without_one}
use Rattle.shore_txn.proofs.Reserves.{first_reserved, reserved_for_all, reserved_parts}
use Rattle.shore_txn.proofs.UndoLemmas.{costs_push}
use Rattle.shore_txn.proofs.Dooms.{free_doomed, rolling_doomed}

-- what holds of the transactions of a table
pub record AreKept (ts : List Txn) (reserved next : ℕ) : Type 0 where
  pub sum : reserved ≡ reserved_for_all ts
  pub numbers : EachOnce (txns_of (session_txns ts))
  pub sessions : AreApart ts
  pub below : AllByRecursion (λ a. a.txn < next) (session_txns ts)

-- ---- one more

rises : (undos : List SessionTxn) (next later : ℕ) → next ≤ later → AllByRecursion (λ a. a.txn < next) undos → AllByRecursion (λ a. a.txn < later) undos
rises [] next later on below = tt
rises (a ∷ undos) next later on below = let less = below.0 in (omega (arith, less, on), rises undos next later on below.1)

-- one that owes its ending alone, of a number that no other has, and of which no session is in another
pub kept_more : (ts : List Txn) (reserved next later : ℕ) (t : Txn) → reserved_for t ≡ ENDING_COST → ((x : Txn) → IsAmong x ts → number_of x ≢ number_of t) → number_of t < later → next ≤ later
    → ((n : ℕ) → IsOf n t → (x : Txn) → IsAmong x ts → IsOf n x → ⊥) → AreKept ts reserved next → AreKept (t ∷ ts) (reserved + ENDING_COST) later
kept_more ts reserved next later t owes fresh less on none was =
    let sum = was.sum in
    let first = first_reserved t ts in record {
      sum = omega (arith, sum, owes, first);
      numbers = (
        λ m.
            let a = map_among (λ (a : SessionTxn). a.txn) (number_of t) (session_txns ts) m in
            let x = map_among as_session_txn a.0 ts a.1 in
            fresh x.0 x.1 (ap (λ (b : SessionTxn). b.txn) x.2 ∙ a.2),
        was.numbers,
      );
      sessions = λ n x y mx my ix iy. apart n x y mx my ix iy;
      below = (less, rises (session_txns ts) next later on was.below);
    }
  where
    apart : (n : ℕ) (x y : Txn) → IsAmong x (t ∷ ts) → IsAmong y (t ∷ ts) → IsOf n x → IsOf n y → number_of x ≡ number_of y
    apart n x y (inl is) (inl js) ix iy = ap number_of (sym is ∙ js)
    apart n x y (inl is) (inr my) ix iy = absurd (none n (subst (IsOf n) (sym is) ix) y my iy)
    apart n x y (inr mx) (inl js) ix iy = absurd (none n (subst (IsOf n) (sym js) iy) x mx ix)
    apart n x y (inr mx) (inr my) ix iy = was.sessions n x y mx my ix iy

-- a new number is below the next
pub fresh_next : (ts : List Txn) (next : ℕ) → AllByRecursion (λ a. a.txn < next) (session_txns ts) → (x : Txn) → IsAmong x ts → number_of x ≢ next
fresh_next ts next below x m same =
    let less = all_among (λ (a : SessionTxn). a.txn < next) (session_txns ts) (as_session_txn x) below (among_map as_session_txn x ts m) in
    absurd (omega (arith, less, same))

-- there is one of a number
pub one_at_number : (ts : List Txn) → EachOnce (txns_of (session_txns ts)) → (t u : Txn) → IsAmong t ts → IsAmong u ts → number_of t ≡ number_of u → t ≡ u
one_at_number [] once t u m n same = absurd m
one_at_number (x ∷ ts) once t u (inl is) (inl js) same = sym is ∙ js
one_at_number (x ∷ ts) once t u (inl is) (inr n) same = absurd (once.0 (subst (λ k. IsAmong k (txns_of (session_txns ts))) (sym (ap number_of is ∙ same)) (number_among u ts n)))
one_at_number (x ∷ ts) once t u (inr m) (inl js) same = absurd (once.0 (subst (λ k. IsAmong k (txns_of (session_txns ts))) (same ∙ sym (ap number_of js)) (number_among t ts m)))
one_at_number (x ∷ ts) once t u (inr m) (inr n) same = one_at_number ts once.1 t u m n same

-- ---- one changes

module _ (newer older : List Txn) (t : Txn) where
  module _ (u : Txn) (number : number_of u ≡ number_of t) (still : (n : ℕ) → IsOf n u → IsOf n t) where
    -- whoever is in one of the new list was in one of the same number
    from : (n : ℕ) (x : Txn) → IsAmong x (newer ++ u ∷ older) → IsOf n x → (y : Txn) × IsAmong y (newer ++ t ∷ older) × IsOf n y × (number_of y ≡ number_of x)
    from n x m its = elim (among_parts x u newer older m) [
      | inl is ↦ (t, among_middle newer older t, still n (subst (IsOf n) (sym is) its), sym number ∙ ap number_of is)
      | inr other ↦ (x, among_more x t newer older other, its, refl)
    ]

    pub kept_changed : (reserved next left : ℕ) → left + reserved_for t ≡ reserved + reserved_for u → AreKept (newer ++ t ∷ older) reserved next → AreKept (newer ++ u ∷ older) left next
    kept_changed reserved next left costs was =
        let sum = was.sum in
        let old = reserved_parts newer older t in
        let new = reserved_parts newer older u in record {
          sum = omega (arith, sum, old, new, costs);
          numbers = subst (λ us. EachOnce (txns_of us)) (sym (map_parts as_session_txn newer older u)) (subst EachOnce (map_with (λ (a : SessionTxn). a.txn) (session_txns newer) (session_txns older) (as_session_txn t) (as_session_txn u) (sym number))
              (subst (λ us. EachOnce (txns_of us)) (map_parts as_session_txn newer older t) was.numbers));
          sessions = λ n x y mx my ix iy.
              let p = from n x mx ix in
              let q = from n y my iy in
              sym p.3 ∙ was.sessions n p.0 q.0 p.1 q.1 p.2 q.2 ∙ q.3;
          below = subst (AllByRecursion (λ a. a.txn < next)) (sym (map_parts as_session_txn newer older u))
              (all_with (λ (a : SessionTxn). a.txn < next) (session_txns newer) (session_txns older) (as_session_txn t) (as_session_txn u) (λ less. omega (arith, less, number))
              (subst (AllByRecursion (λ a. a.txn < next)) (map_parts as_session_txn newer older t) was.below));
        }

  pub kept_left : (reserved next left : ℕ) → left + reserved_for t ≡ reserved → AreKept (newer ++ t ∷ older) reserved next → AreKept (newer ++ older) left next
  kept_left reserved next left less was =
      let sum = was.sum in
      let old = reserved_parts newer older t in record {
        sum = omega (arith, sum, old, less);
        numbers = subst (λ us. EachOnce (txns_of us)) (sym (map_join as_session_txn newer older))
            (subst EachOnce (sym (map_join (λ (a : SessionTxn). a.txn) (session_txns newer) (session_txns older)))
            (once_less (txns_of (session_txns newer)) (txns_of (session_txns older)) (number_of t)
            (subst EachOnce (map_parts (λ (a : SessionTxn). a.txn) (session_txns newer) (session_txns older) (as_session_txn t)) (subst (λ us. EachOnce (txns_of us)) (map_parts as_session_txn newer older t) was.numbers))));
        sessions = λ n x y mx my ix iy. was.sessions n x y (among_more x t newer older mx) (among_more y t newer older my) ix iy;
        below = subst (AllByRecursion (λ a. a.txn < next)) (sym (map_join as_session_txn newer older))
            (all_less (λ (a : SessionTxn). a.txn < next) (session_txns newer) (session_txns older) (as_session_txn t) (subst (AllByRecursion (λ a. a.txn < next)) (map_parts as_session_txn newer older t) was.below));
      }

-- ---- lists of transactions of which one becomes another, or leaves

pub becomes_at : {items : List ActiveTxn} {index : ℕ} {a : ActiveTxn} → IsAt items index a → (b : ActiveTxn) (number : ℕ) (Becomes : Txn → Txn → Type 0) → number_of a.txn ≡ number → Becomes a.txn b.txn
    → OneBecomes number Becomes (active.txns_of items) (active.txns_of (set items index b))
becomes_at {items} {index} {a} at b number Becomes its becomes = record {
  newer = active.txns_of (drop (suc index) items);
  older = active.txns_of (take index items);
  before = a.txn;
  after = b.txn;
  was = at.txns;
  is = ap active.txns_of (at.put b) ∙ txns_parts (take index items) (drop (suc index) items) b;
  txn = its;
  becomes = becomes;
}

pub leaves_at : {items : List ActiveTxn} {index : ℕ} {a : ActiveTxn} → IsAt items index a → (rest : List ActiveTxn) (changes : List UndoEntry) (number : ℕ) → rest ≡ take index items ++ drop (suc index) items → number_of a.txn ≡ number
    → changes ≡ entries_of a.txn → OneLeaves number changes (active.txns_of items) (active.txns_of rest)
leaves_at {items} {index} {a} at rest changes number is its all = record {
  newer = active.txns_of (drop (suc index) items);
  older = active.txns_of (take index items);
  one = a.txn;
  was = at.txns;
  is = ap active.txns_of is ∙ txns_join (take index items) (drop (suc index) items);
  txn = its;
  entries = all;
}

changes_join : (newer older : List Txn) → all_changes (newer ++ older) ≡ all_changes older ++ all_changes newer
changes_join [] older = sym (append-nil (all_changes older))
changes_join (t ∷ newer) older = ap (λ l. l ++ entries_of t) (changes_join newer older) ∙ append_assoc (all_changes older) (all_changes newer) (entries_of t)

changes_parts : (newer older : List Txn) (t : Txn) → all_changes (newer ++ t ∷ older) ≡ all_changes older ++ (entries_of t ++ all_changes newer)
changes_parts newer older t = changes_join newer (t ∷ older) ∙ append_assoc (all_changes older) (entries_of t) (all_changes newer)

claims_parts : (p : PageId) (newer older : List Txn) (t : Txn) → claims_on p (all_changes (newer ++ t ∷ older)) ≡ claims_on p (all_changes older) ++ (claims_on p (entries_of t) ++ claims_on p (all_changes newer))
claims_parts p newer older t =
    ap (claims_on p) (changes_parts newer older t) ∙ claims_append p (all_changes older) (entries_of t ++ all_changes newer)
    ∙ ap (λ l. claims_on p (all_changes older) ++ l) (claims_append p (entries_of t) (all_changes newer))

module _ {number : ℕ} {Becomes : Txn → Txn → Type 0} {old new : List Txn} (one : OneBecomes number Becomes old new) where
  abbrev before_as : SessionTxn
  before_as = as_session_txn one.before

  abbrev after_as : SessionTxn
  after_as = as_session_txn one.after

  undos_were : session_txns old ≡ session_txns one.newer ++ before_as ∷ session_txns one.older
  undos_were = ap session_txns one.was ∙ map_parts as_session_txn one.newer one.older one.before

  undos_are : session_txns new ≡ session_txns one.newer ++ after_as ∷ session_txns one.older
  undos_are = ap session_txns one.is ∙ map_parts as_session_txn one.newer one.older one.after

  pub kept_with : number_of one.after ≡ number_of one.before → ((n : ℕ) → IsOf n one.after → IsOf n one.before) → (reserved next left : ℕ) → left + reserved_for one.before ≡ reserved + reserved_for one.after
      → AreKept old reserved next → AreKept new left next
  kept_with txn still reserved next left costs was =
      subst (λ ts. AreKept ts left next) (sym one.is) (kept_changed one.newer one.older one.before one.after txn still reserved next left costs (subst (λ ts. AreKept ts reserved next) one.was was))

  pub undos_same : after_as ≡ before_as → session_txns new ≡ session_txns old
  undos_same same = undos_are ∙ ap (λ a. session_txns one.newer ++ a ∷ session_txns one.older) same ∙ sym undos_were

  -- .. by another undo list
  pub undos_with : (undo : UndoList) → after_as ≡ with_its before_as undo → EachOnce (txns_of (session_txns old)) → session_txns new ≡ with_undo before_as.txn undo (session_txns old)
  undos_with undo is once =
      undos_are ∙ ap (λ a. session_txns one.newer ++ a ∷ session_txns one.older) is
      ∙ sym (ap (with_undo before_as.txn undo) undos_were ∙ with_one before_as (session_txns one.older) (session_txns one.newer) (subst (λ us. EachOnce (txns_of us)) undos_were once) undo)

  pub before_there : IsAmong before_as (session_txns old)
  before_there = subst (IsAmong before_as) (sym undos_were) (among_middle (session_txns one.newer) (session_txns one.older) before_as)

  pub before_among : IsAmong one.before old
  before_among = subst (IsAmong one.before) (sym one.was) (among_middle one.newer one.older one.before)

  -- no other has its number
  pub one_of : (a : SessionTxn) → EachOnce (txns_of (session_txns old)) → IsAmong a (session_txns old) → a.txn ≡ number → before_as ≡ a
  one_of a once m its = once_same (λ (a : SessionTxn). a.txn) (session_txns old) once before_as a before_there m (one.txn ∙ sym its)

  -- .. by what becomes of its undo list
  pub undos_by : (f : UndoList → UndoList) → after_as ≡ with_its before_as (f before_as.undo) → EachOnce (txns_of (session_txns old)) → (a : SessionTxn) → IsAmong a (session_txns old) → a.txn ≡ number
      → session_txns new ≡ with_undo a.txn (f a.undo) (session_txns old)
  undos_by f is once a m its =
      subst (λ (b : SessionTxn). session_txns new ≡ with_undo b.txn (f b.undo) (session_txns old)) (one_of a once m its) (undos_with (f before_as.undo) is once)

  pub claims_same : entries_of one.after ≡ entries_of one.before → (p : PageId) → claims_on p (all_changes new) ≡ claims_on p (all_changes old)
  claims_same same p =
      ap (λ ts. claims_on p (all_changes ts)) one.is ∙ claims_parts p one.newer one.older one.after
      ∙ ap (λ es. claims_on p (all_changes one.older) ++ (claims_on p es ++ claims_on p (all_changes one.newer))) same
      ∙ sym (ap (λ ts. claims_on p (all_changes ts)) one.was ∙ claims_parts p one.newer one.older one.before)

  module _ (e : UndoEntry) (more : entries_of one.after ≡ entries_of one.before ++ e ∷ []) where
    pub claims_noted : HasMore ((e.id.slot, image_len e.before) ∷ []) (claims_on e.id.page (all_changes old)) (claims_on e.id.page (all_changes new))
    claims_noted =
        let p = e.id.page in
        let claim : ℕ × ℕ = (e.id.slot, image_len e.before) in
        let front = claims_on p (all_changes one.older) in
        let its = claims_on p (entries_of one.before) in
        let back = claims_on p (all_changes one.newer) in record {
          front = front ++ its;
          back = back;
          was = ap (λ ts. claims_on p (all_changes ts)) one.was ∙ claims_parts p one.newer one.older one.before ∙ sym (append_assoc front its back);
          is =
              ap (λ ts. claims_on p (all_changes ts)) one.is ∙ claims_parts p one.newer one.older one.after
              ∙ ap (λ es. front ++ (claims_on p es ++ back)) more ∙ ap (λ l. front ++ (l ++ back)) (claims_push p (entries_of one.before) e refl)
              ∙ ap (λ l. front ++ l) (append_assoc its (claim ∷ []) back) ∙ sym (append_assoc front its (claim ∷ back));
        }

    pub claims_elsewhere : (p : PageId) → p ≢ e.id.page → claims_on p (all_changes new) ≡ claims_on p (all_changes old)
    claims_elsewhere p apart =
        let front = claims_on p (all_changes one.older) in
        let back = claims_on p (all_changes one.newer) in
        ap (λ ts. claims_on p (all_changes ts)) one.is ∙ claims_parts p one.newer one.older one.after
        ∙ ap (λ es. front ++ (claims_on p es ++ back)) more ∙ ap (λ l. front ++ (l ++ back)) (claims_other p (entries_of one.before) e apart)
        ∙ sym (ap (λ ts. claims_on p (all_changes ts)) one.was ∙ claims_parts p one.newer one.older one.before)

module _ {number : ℕ} {changes : List UndoEntry} {old new : List Txn} (one : OneLeaves number changes old new) where
  abbrev one_as : SessionTxn
  one_as = as_session_txn one.one

  left_were : session_txns old ≡ session_txns one.newer ++ one_as ∷ session_txns one.older
  left_were = ap session_txns one.was ∙ map_parts as_session_txn one.newer one.older one.one

  left_are : session_txns new ≡ session_txns one.newer ++ session_txns one.older
  left_are = ap session_txns one.is ∙ map_join as_session_txn one.newer one.older

  pub left_among : IsAmong one.one old
  left_among = subst (IsAmong one.one) (sym one.was) (among_middle one.newer one.older one.one)

  pub kept_without : (reserved next left : ℕ) → left + reserved_for one.one ≡ reserved → AreKept old reserved next → AreKept new left next
  kept_without reserved next left less was =
      subst (λ ts. AreKept ts left next) (sym one.is) (kept_left one.newer one.older one.one reserved next left less (subst (λ ts. AreKept ts reserved next) one.was was))

  pub undos_without : (a : SessionTxn) → EachOnce (txns_of (session_txns old)) → IsAmong a (session_txns old) → a.txn ≡ number → session_txns new ≡ without_txn a.txn (session_txns old)
  undos_without a once m its =
      let same : one_as ≡ a = once_same (λ (a : SessionTxn). a.txn) (session_txns old) once one_as a
      (subst (IsAmong one_as) (sym left_were) (among_middle (session_txns one.newer) (session_txns one.older) one_as)) m (one.txn ∙ sym its) in
      subst (λ (b : SessionTxn). session_txns new ≡ without_txn b.txn (session_txns old)) same
      (left_are ∙ sym (ap (without_txn one_as.txn) left_were ∙ without_one one_as (session_txns one.older) (session_txns one.newer) (subst (λ us. EachOnce (txns_of us)) left_were once)))

  pub claims_left : (p : PageId) → HasMore (claims_on p changes) (claims_on p (all_changes new)) (claims_on p (all_changes old))
  claims_left p = record {
    front = claims_on p (all_changes one.older);
    back = claims_on p (all_changes one.newer);
    was = ap (λ ts. claims_on p (all_changes ts)) one.is ∙ ap (claims_on p) (changes_join one.newer one.older) ∙ claims_append p (all_changes one.older) (all_changes one.newer);
    is =
        ap (λ ts. claims_on p (all_changes ts)) one.was ∙ claims_parts p one.newer one.older one.one
        ∙ ap (λ es. claims_on p (all_changes one.older) ++ (claims_on p es ++ claims_on p (all_changes one.newer))) (sym one.entries);
  }

-- ---- one leaves that has no change

no_entries : (es : List UndoEntry) → images_of es ≡ [] → es ≡ []
no_entries [] is = refl
no_entries (e ∷ es) is = absurd (apart is)
  where
    apart : image_of e ∷ images_of es ≡ [] → ⊥
    apart clash = cc

module _ {number : ℕ} {changes : List UndoEntry} {old new : List Txn} (one : OneLeaves number changes old new)
    (empty : (a : SessionTxn) → IsAmong a (session_txns old) → a.txn ≡ number → a.undo.images ≡ []) where
  pub none_changed : changes ≡ []
  none_changed =
      one.entries ∙ no_entries (entries_of one.one)
      (empty (one_as one) (subst (IsAmong (one_as one)) (sym (left_were one)) (among_middle (session_txns one.newer) (session_txns one.older) (one_as one))) one.txn)

  pub leaves_empty : OneLeaves number [] old new
  leaves_empty = subst (λ (es : List UndoEntry). OneLeaves number es old new) none_changed one

pub claims_kept : {number : ℕ} {old new : List Txn} → OneLeaves number [] old new → (p : PageId) → claims_on p (all_changes new) ≡ claims_on p (all_changes old)
claims_kept one p = let has = claims_left one p in has.was ∙ sym has.is

-- ---- a transaction as the sessions have it

module _ (t u : Txn) where
  session_as : (undo : UndoList) → number_of u ≡ number_of t → u.session ≡ t.session → (as_session_txn u).undo ≡ undo → as_session_txn u ≡ with_its (as_session_txn t) undo
  session_as undo number who is =
      ap (λ n. record { session = n; txn = u.txn; undo = (as_session_txn u).undo }) who
      ∙ ap (λ n. record { session = t.session; txn = n; undo = (as_session_txn u).undo }) number
      ∙ ap (λ (l : UndoList). record { session = t.session; txn = t.txn; undo = l }) is

  undo_as : (images : List (Rid × Image)) (marks : List ℕ) (rolling : Option Rollback) → images_of (entries_of u) ≡ images → marks_of u ≡ marks → rolling_of (state_of u) ≡ rolling
      → (as_session_txn u).undo ≡ record { images = images; marks = marks; rolling = rolling }
  undo_as images marks rolling is same goes =
      ap (λ l. record { images = l; marks = marks_of u; rolling = rolling_of (state_of u) }) is
      ∙ ap (λ l. record { images = images; marks = l; rolling = rolling_of (state_of u) }) same
      ∙ ap (λ r. record { images = images; marks = marks; rolling = r }) goes

  pub session_same : SameTxn t u → as_session_txn u ≡ as_session_txn t
  session_same same =
      session_as (as_session_txn t).undo same.txn same.session
      (undo_as (images_of (entries_of t)) (marks_of t) (rolling_of (state_of t)) (ap images_of same.entries) same.marks (ap rolling_of same.state))

  pub session_changed : (e : UndoEntry) → IsAfterChange t e u → as_session_txn u ≡ with_its (as_session_txn t) (with_entry (as_session_txn t).undo e)
  session_changed e after =
      session_as (with_entry (as_session_txn t).undo e) after.txn after.session
      (undo_as (images_of (entries_of t) ++ image_of e ∷ []) (marks_of t) (rolling_of (state_of t)) (ap images_of after.entries ∙ map-append image_of (entries_of t) (e ∷ [])) after.marks
      (ap rolling_of after.state))

  pub session_marked : IsAfterSavepoint t u → as_session_txn u ≡ with_its (as_session_txn t) (with_mark (as_session_txn t).undo)
  session_marked after =
      session_as (with_mark (as_session_txn t).undo) after.txn after.session
      (undo_as (images_of (entries_of t)) (marks_of t ++ length (images_of (entries_of t)) ∷ []) (rolling_of (state_of t)) (ap images_of after.entries)
      (after.marks ∙ ap (λ n. marks_of t ++ n ∷ []) (sym (length-map (entries_of t) image_of))) (ap rolling_of after.state))

  pub session_undone : (lsn : ℕ) (rollback : Rollback) (e : UndoEntry) → IsAfterUndo lsn rollback e t u → as_session_txn u ≡ with_its (as_session_txn t) (undo_rolled (as_session_txn t).undo (images_of (entries_of u)) rollback)
  session_undone lsn rollback e after =
      session_as (undo_rolled (as_session_txn t).undo (images_of (entries_of u)) rollback) after.txn after.session
      (undo_as (images_of (entries_of u)) (marks_kept rollback (marks_of t)) (Some rollback) refl after.marks (ap rolling_of after.state))

  pub session_back : (index : ℕ) → IsBackAt index t u → as_session_txn u ≡ with_its (as_session_txn t) (back_at index (as_session_txn t).undo)
  session_back index after =
      session_as (back_at index (as_session_txn t).undo) after.txn after.session
      (undo_as (images_of (entries_of t)) (take (index + 1) (marks_of t)) None (ap images_of after.entries) after.marks (ap rolling_of after.state))

  pub session_doomed : IsDoomed t u → as_session_txn u ≡ with_its (as_session_txn t) (undo_rolled (as_session_txn t).undo (as_session_txn t).undo.images Whole)
  session_doomed after =
      session_as (undo_rolled (as_session_txn t).undo (as_session_txn t).undo.images Whole) after.txn after.session
      (undo_as (images_of (entries_of t)) [] (Some Whole) (ap images_of after.entries) after.marks (ap rolling_of after.state ∙ rolling_doomed (state_of t)))

  pub session_prepared : (name : List ℕ) (lsn : ℕ) → state_of t ≡ state.Active → IsAfterPrepare name lsn t u → as_session_txn u ≡ as_session_txn t
  session_prepared name lsn active after =
      session_as (as_session_txn t).undo after.txn after.session
      (undo_as (images_of (entries_of t)) (marks_of t) (rolling_of (state_of t)) (ap images_of after.entries) after.marks (ap rolling_of after.state ∙ sym (ap rolling_of active)))

  pub session_found : (name : List ℕ) (lsn : ℕ) → state_of t ≡ state.Active → IsFoundPrepared name lsn t u → as_session_txn u ≡ as_session_txn t
  session_found name lsn active after =
      session_as (as_session_txn t).undo after.txn after.session
      (undo_as (images_of (entries_of t)) (marks_of t) (rolling_of (state_of t)) (ap images_of after.entries) after.marks (ap rolling_of after.state ∙ sym (ap rolling_of active)))

  pub session_answered : state_of t ≡ state.Preparing → IsAfterAnswer t u → as_session_txn u ≡ as_session_txn t
  session_answered preparing after =
      session_as (as_session_txn t).undo after.txn after.session
      (undo_as (images_of (entries_of t)) (marks_of t) (rolling_of (state_of t)) (ap images_of after.entries) after.marks (ap rolling_of after.state ∙ sym (ap rolling_of preparing)))

  pub session_decided : (lsn : ℕ) → IsAfterDecision lsn t u → as_session_txn u ≡ with_its (as_session_txn t) (undo_rolled (as_session_txn t).undo (as_session_txn t).undo.images Whole)
  session_decided lsn after =
      session_as (undo_rolled (as_session_txn t).undo (as_session_txn t).undo.images Whole) after.txn after.session
      (undo_as (images_of (entries_of t)) [] (Some Whole) (ap images_of after.entries) after.marks (ap rolling_of after.state))

  pub costs_more : (e : UndoEntry) → entries_of u ≡ entries_of t ++ e ∷ [] → compensation_costs (images_of (entries_of u)) ≡ compensation_costs (images_of (entries_of t)) + compensation_cost e.before
  costs_more e more = ap (λ es. compensation_costs (images_of es)) more ∙ costs_push (entries_of t) e

  -- in whom a session is stays
  pub still_of : u.is_seated ≡ t.is_seated → u.session ≡ t.session → (n : ℕ) → IsOf n u → IsOf n t
  still_of seated session n its = (sym seated ∙ its.0, sym session ∙ its.1)

-- ---- a change

module _ {number : ℕ} {e : UndoEntry} {old new : List Txn} (one : OneBecomes number (λ t u. IsAfterChange t e u) old new) where
  pub kept_noted : (reserved next : ℕ) → AreKept old reserved next → AreKept new (reserved + compensation_cost e.before) next
  kept_noted reserved next was =
      let more = costs_more one.before one.after e one.becomes.entries in
      let second : second_ending (state_of one.after) ≡ second_ending (state_of one.before) = ap second_ending one.becomes.state in
      kept_with one one.becomes.txn (still_of one.before one.after one.becomes.name.seated one.becomes.session) reserved next (reserved + compensation_cost e.before) (omega (arith, more, second)) was

  pub undos_noted : EachOnce (txns_of (session_txns old)) → (a : SessionTxn) → IsAmong a (session_txns old) → a.txn ≡ number → session_txns new ≡ with_undo a.txn (with_entry a.undo e) (session_txns old)
  undos_noted = undos_by one (λ undo. with_entry undo e) (session_changed one.before one.after e one.becomes)

-- ---- its newest change is undone

-- the other way round
abbrev turned : {number : ℕ} {Becomes : Txn → Txn → Type 0} {old new : List Txn} (one : OneBecomes number Becomes old new) → number_of one.after ≡ number → OneBecomes number (λ t u. Becomes u t) new old
turned one its = record { newer = one.newer; older = one.older; before = one.after; after = one.before; was = one.is; is = one.was; txn = its; becomes = one.becomes }

module _ {number lsn : ℕ} {rollback : Rollback} {e : UndoEntry} {old new : List Txn} (one : OneBecomes number (IsAfterUndo lsn rollback e) old new) where
  abbrev back : OneBecomes number (λ t u. IsAfterUndo lsn rollback e u t) new old
  back = turned one (one.becomes.txn ∙ one.txn)

  pub kept_undone : is_in_doubt (state_of one.before) ≡ false → (reserved next left : ℕ) → left + compensation_cost e.before ≡ reserved → AreKept old reserved next → AreKept new left next
  kept_undone free reserved next left less was =
      let more = costs_more one.after one.before e one.becomes.entries in
      let none : second_ending (state_of one.before) ≡ 0 = ap (λ b. cond b ENDING_COST 0) free in
      let now : second_ending (state_of one.after) ≡ 0 = ap second_ending one.becomes.state in
      kept_with one one.becomes.txn (still_of one.before one.after one.becomes.name.seated one.becomes.session) reserved next left (omega (arith, more, less, none, now)) was

  pub undos_undone : EachOnce (txns_of (session_txns old)) → (a : SessionTxn) → IsAmong a (session_txns old) → a.txn ≡ number
      → (kept : List (Rid × Image)) × (a.undo.images ≡ kept ++ image_of e ∷ []) × (session_txns new ≡ with_undo a.txn (undo_rolled a.undo kept rollback) (session_txns old))
  undos_undone once a m its =
      let kept = images_of (entries_of one.after) in (
        kept,
        ap (λ (b : SessionTxn). b.undo.images) (sym (one_of one a once m its)) ∙ ap images_of one.becomes.entries ∙ map-append image_of (entries_of one.after) (e ∷ []),
        undos_by one (λ undo. undo_rolled undo kept rollback) (session_undone one.before one.after lsn rollback e one.becomes) once a m its,
      )

  pub claims_undone : HasMore ((e.id.slot, image_len e.before) ∷ []) (claims_on e.id.page (all_changes new)) (claims_on e.id.page (all_changes old))
  claims_undone = claims_noted back e one.becomes.entries

  pub claims_beside : (p : PageId) → p ≢ e.id.page → claims_on p (all_changes new) ≡ claims_on p (all_changes old)
  claims_beside p apart = sym (claims_elsewhere back e one.becomes.entries p apart)

-- ---- its changes stay

pub record KeepsChanges (t u : Txn) : Type 0 where
  pub txn : number_of u ≡ number_of t
  pub session : u.session ≡ t.session
  pub seated : u.is_seated ≡ t.is_seated
  pub entries : entries_of u ≡ entries_of t
  pub second : second_ending (state_of u) ≡ second_ending (state_of t)

pub same_keeps : (t u : Txn) → SameTxn t u → KeepsChanges t u
same_keeps t u same = record { txn = same.txn; session = same.session; seated = same.name.seated; entries = same.entries; second = ap second_ending same.state }

pub savepoint_keeps : (t u : Txn) → IsAfterSavepoint t u → KeepsChanges t u
savepoint_keeps t u after = record { txn = after.txn; session = after.session; seated = after.name.seated; entries = after.entries; second = ap second_ending after.state }

nothing_second : (t : Txn) → is_in_doubt (state_of t) ≡ false → second_ending (state_of t) ≡ 0
nothing_second t free = ap (λ b. cond b ENDING_COST 0) free

pub back_keeps : (index : ℕ) (t u : Txn) → is_in_doubt (state_of t) ≡ false → IsBackAt index t u → KeepsChanges t u
back_keeps index t u free after = record { txn = after.txn; session = after.session; seated = after.name.seated; entries = after.entries; second = ap second_ending after.state ∙ sym (nothing_second t free) }

pub doomed_keeps : (t u : Txn) → is_in_doubt (state_of t) ≡ false → IsDoomed t u → KeepsChanges t u
doomed_keeps t u free after = record { txn = after.txn; session = after.session; seated = after.name.seated; entries = after.entries; second = ap second_ending after.state ∙ ap (λ b. cond b ENDING_COST 0) (free_doomed (state_of t)) ∙ sym (nothing_second t free) }

second_of : (t : Txn) → is_in_doubt (state_of t) ≡ true → second_ending (state_of t) ≡ ENDING_COST
second_of t doubt = ap (λ b. cond b ENDING_COST 0) doubt

pub answered_keeps : (t u : Txn) → is_in_doubt (state_of t) ≡ true → IsAfterAnswer t u → KeepsChanges t u
answered_keeps t u doubt after = record { txn = after.txn; session = after.session; seated = after.name.seated; entries = after.entries; second = ap second_ending after.state ∙ sym (second_of t doubt) }

module _ {number : ℕ} {old new : List Txn} (one : OneBecomes number KeepsChanges old new) where
  pub kept_still : (reserved next : ℕ) → AreKept old reserved next → AreKept new reserved next
  kept_still reserved next was =
      let costs : compensation_costs (images_of (entries_of one.after)) ≡ compensation_costs (images_of (entries_of one.before)) = ap (λ es. compensation_costs (images_of es)) one.becomes.entries in
      let second = one.becomes.second in
      kept_with one one.becomes.txn (still_of one.before one.after one.becomes.seated one.becomes.session) reserved next reserved (omega (arith, costs, second)) was

  pub claims_still : (p : PageId) → claims_on p (all_changes new) ≡ claims_on p (all_changes old)
  claims_still = claims_same one one.becomes.entries

-- ---- it is prepared, or decided to be rolled back

module _ {number lsn : ℕ} {name : List ℕ} {old new : List Txn} (one : OneBecomes number (IsAfterPrepare name lsn) old new) (active : state_of one.before ≡ state.Active) where
  pub kept_prepared : (reserved next : ℕ) → AreKept old reserved next → AreKept new (reserved + ENDING_COST) next
  kept_prepared reserved next was =
      let costs : compensation_costs (images_of (entries_of one.after)) ≡ compensation_costs (images_of (entries_of one.before)) = ap (λ es. compensation_costs (images_of es)) one.becomes.entries in
      let none : second_ending (state_of one.before) ≡ 0 = ap second_ending active in
      let now : second_ending (state_of one.after) ≡ ENDING_COST = ap second_ending one.becomes.state in
      kept_with one one.becomes.txn (still_of one.before one.after one.becomes.seated one.becomes.session) reserved next (reserved + ENDING_COST) (omega (arith, costs, none, now)) was

  pub undos_prepared : session_txns new ≡ session_txns old
  undos_prepared = undos_same one (session_prepared one.before one.after name lsn active one.becomes)

module _ {number lsn : ℕ} {name : List ℕ} {old new : List Txn} (one : OneBecomes number (IsFoundPrepared name lsn) old new) (active : state_of one.before ≡ state.Active) where
  pub kept_found : (reserved next : ℕ) → AreKept old reserved next → AreKept new (reserved + ENDING_COST) next
  kept_found reserved next was =
      let costs : compensation_costs (images_of (entries_of one.after)) ≡ compensation_costs (images_of (entries_of one.before)) = ap (λ es. compensation_costs (images_of es)) one.becomes.entries in
      let none : second_ending (state_of one.before) ≡ 0 = ap second_ending active in
      let now : second_ending (state_of one.after) ≡ ENDING_COST = ap second_ending one.becomes.state in
      kept_with one one.becomes.txn (still_of one.before one.after one.becomes.seated one.becomes.session) reserved next (reserved + ENDING_COST) (omega (arith, costs, none, now)) was

  pub undos_found : session_txns new ≡ session_txns old
  undos_found = undos_same one (session_found one.before one.after name lsn active one.becomes)

module _ {number lsn : ℕ} {old new : List Txn} (one : OneBecomes number (IsAfterDecision lsn) old new) where
  pub kept_decided : is_in_doubt (state_of one.before) ≡ true → (reserved next left : ℕ) → left + ENDING_COST ≡ reserved → AreKept old reserved next → AreKept new left next
  kept_decided doubt reserved next left less was =
      let costs : compensation_costs (images_of (entries_of one.after)) ≡ compensation_costs (images_of (entries_of one.before)) = ap (λ es. compensation_costs (images_of es)) one.becomes.entries in
      let second = second_of one.before doubt in
      let now : second_ending (state_of one.after) ≡ 0 = ap second_ending one.becomes.state in
      kept_with one one.becomes.txn unseated reserved next left (omega (arith, costs, second, now, less)) was
    where
      unseated : (n : ℕ) → IsOf n one.after → IsOf n one.before
      unseated n its = absurd (let clash : true ≡ false = sym its.0 ∙ one.becomes.seated in cc)

pub becomes_so : {number : ℕ} {B C : Txn → Txn → Type 0} {old new : List Txn} → ((t u : Txn) → B t u → C t u) → OneBecomes number B old new → OneBecomes number C old new
becomes_so so one = record { newer = one.newer; older = one.older; before = one.before; after = one.after; was = one.was; is = one.is; txn = one.txn; becomes = so one.before one.after one.becomes }

module _ {number : ℕ} {old new : List Txn} (one : OneBecomes number SameTxn old new) where
  pub undos_stay : session_txns new ≡ session_txns old
  undos_stay = undos_same one (session_same one.before one.after one.becomes)

  pub claims_stay : (p : PageId) → claims_on p (all_changes new) ≡ claims_on p (all_changes old)
  claims_stay = claims_same one one.becomes.entries
