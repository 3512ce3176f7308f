-- The rising list of what a transaction holds in EX is that of the keys of a map of its locks.
use Rattle.std.proofs.Common.{◌≡◌, ⊎_elim, ℕ, List, [], ◌∷◌, Bool, true, false, Option, None, Some, refl, ap, sym, subst, ◌∙◌, map}
use Rattle.std.specs.Prelude.{Contains, filter, ◌==◌, ◌&&◌, ◌↔◌}
use lib.Dec.{T}
use Rattle.std.specs.declared.cmp.Ordering.{Ordering}
use Rattle.std.specs.declared.cmp.Ordering.TheVariants.{Less, Equal, Greater}
use Rattle.std.specs.Cmp.{eq_by_cmp_equiv}
use Rattle.std.specs.FinMap.{contains_key-keys, entries, entries_sorted, from_entries, get-from_entries, keys}
use Rattle.std.specs.FinMap.Entries.{below_all, is_sorted, is_some-find}
use Rattle.std.specs.List.{AllByRecursion, cons_option, list_any}
use Rattle.std.specs.List.Sorted.{IsStrictlySortedBy}
use Rattle.std.specs.Option.{is_some}
use Rattle.std.specs.Ordering.{eq_by_cmp, is_lt}
use Rattle.std.proofs.lemmas.Map.Views.{Contains-from_any, list_any-from_Contains}
use Rattle.shore_types.specs.Locking.{granule_cmp, granules_total}
use Rattle.shore_types.specs.declared.locking.Granule.{Granule}
use Rattle.shore_types.specs.declared.locking.Mode.{Mode}
use Rattle.shore_types.specs.declared.locking.Mode.TheVariants.{EX}
use Rattle.shore_model.specs.declared.holds.Hold.{Hold}
use Rattle.shore_model.specs.declared.requests.Request.{Request}
use Rattle.shore_model.specs.Modes.{is_write}
use Rattle.shore_model.specs.Requests.{AreRequests, held_by_all, hold_in}
use Rattle.shore_nodes.specs.Tables.{mode_held}
use Rattle.shore_nodes.proofs.Entering.{both_true}
use Rattle.shore_nodes.proofs.Members.{Contains-In, In, In-Contains, either, filter-no, filter-yes}
use Rattle.shore_locks.specs.Listing.{granules_in_ex, holds_ex, is_ex}
use Rattle.shore_locks.proofs.Exclusives.{ex_held, held_ex, one_rising_list, same_by_order}

less_of : (o : Ordering) → is_lt o ≡ true → o ≡ Less
less_of Less e = refl
less_of Equal e = cc
less_of Greater e = cc

below_each : {X : Type 0} (g : Granule) (es : List (Granule × X)) → below_all granule_cmp g es ≡ true → AllByRecursion (λ h. granule_cmp g h ≡ Less) (map (λ e. e.0) es)
below_each g [] all = tt
below_each g (e ∷ es) all =
    let b = both_true (is_lt (granule_cmp g e.0)) (below_all granule_cmp g es) all in
    (less_of (granule_cmp g e.0) b.0, below_each g es b.1)

keys_rise : {X : Type 0} (es : List (Granule × X)) → is_sorted granule_cmp es ≡ true → IsStrictlySortedBy granule_cmp (map (λ e. e.0) es)
unfolding IsStrictlySortedBy
keys_rise [] sorted = tt
keys_rise (e ∷ es) sorted =
    let b = both_true (below_all granule_cmp e.0 es) (is_sorted granule_cmp es) sorted in
    (below_each e.0 es b.0, keys_rise es b.1)

-- a list's map has its keys, and no others
module _ (pairs : List (Granule × ℕ)) where
  abbrev named : List Granule
  named = map (λ (e : Granule × ℕ). e.0) pairs

  abbrev listed : List Granule
  listed = keys (from_entries {R = granule_cmp} pairs)

  same_keys : (q : Granule) → list_any (eq_by_cmp granule_cmp q) listed ≡ list_any (eq_by_cmp granule_cmp q) named
  same_keys q = sym (contains_key-keys (from_entries {R = granule_cmp} pairs) q) ∙ ap is_some (get-from_entries granules_total pairs q) ∙ is_some-find granule_cmp q pairs

  listed_named : (q : Granule) → In q listed → In q named
  listed_named q i =
      Contains-In named q (Contains-from_any same_by_order q named
      (sym (same_keys q) ∙ list_any-from_Contains (eq_by_cmp_equiv granules_total) q listed (In-Contains listed q i)))

  named_listed : (q : Granule) → In q named → In q listed
  named_listed q i =
      Contains-In listed q (Contains-from_any same_by_order q listed
      (same_keys q ∙ list_any-from_Contains (eq_by_cmp_equiv granules_total) q named (In-Contains named q i)))

abbrev pub writes : ℕ → Hold → Bool
writes t h = (h.txn == t) && is_write h.mode

-- .. as the locks of a table name them
locks_name : (t : ℕ) (rs : List Request) → map (λ (e : Granule × ℕ). e.0) (map (λ (h : Hold). (h.granule, h.txn)) (filter (writes t) (held_by_all rs))) ≡ granules_in_ex t rs
locks_name t [] = refl
locks_name t (r ∷ rs) = at (locks_name t rs) r.held refl
  where
    both_false : (b c : Bool) → c ≡ false → (b && c) ≡ false
    both_false true c e = e
    both_false false c e = refl

    at : map (λ (e : Granule × ℕ). e.0) (map (λ (h : Hold). (h.granule, h.txn)) (filter (writes t) (held_by_all rs))) ≡ granules_in_ex t rs → (held : Option Mode) → r.held ≡ held
        → map (λ (e : Granule × ℕ). e.0) (map (λ (h : Hold). (h.granule, h.txn)) (filter (writes t) (cons_option (hold_in r held) (held_by_all rs)))) ≡ granules_in_ex t (r ∷ rs)
    at rest None is =
        rest
        ∙ sym (ap (map (λ (x : Request). x.granule)) (filter-no (λ x. (x.txn == t) && holds_ex x) r rs (both_false (r.txn == t) (holds_ex r) (ap is_ex is))))
    at rest (Some m) is =
        let lock : Hold = record { txn = r.txn; granule = r.granule; mode = m } in
        let alike : ((r.txn == t) && holds_ex r) ≡ writes t lock = ap (λ held. (r.txn == t) && is_ex held) is in
        ⊎_elim
        (λ yes. ap (λ hs. map (λ (e : Granule × ℕ). e.0) (map (λ (h : Hold). (h.granule, h.txn)) hs)) (filter-yes (writes t) lock (held_by_all rs) yes)
        ∙ ap (λ gs. r.granule ∷ gs) rest ∙ sym (ap (map (λ (x : Request). x.granule)) (filter-yes (λ x. (x.txn == t) && holds_ex x) r rs (alike ∙ yes))))
        (λ no. ap (λ hs. map (λ (e : Granule × ℕ). e.0) (map (λ (h : Hold). (h.granule, h.txn)) hs)) (filter-no (writes t) lock (held_by_all rs) no)
        ∙ rest ∙ sym (ap (map (λ (x : Request). x.granule)) (filter-no (λ x. (x.txn == t) && holds_ex x) r rs (alike ∙ no))))
        (either (writes t lock))

true_of : (b : Bool) → T b → b ≡ true
true_of true h = refl
true_of false h = absurd h

-- what `LockTable::exclusive` answers is the keys of that map
pub exclusive_keys : (t : ℕ) (rs : List Request) (gs : List Granule) → AreRequests rs → ((g : Granule) → Contains gs g ↔ (mode_held t g rs ≡ Some EX)) → IsStrictlySortedBy granule_cmp gs
    → gs ≡ keys (from_entries {R = granule_cmp} (map (λ (h : Hold). (h.granule, h.txn)) (filter (writes t) (held_by_all rs))))
exclusive_keys t rs gs one held rise =
    let pairs : List (Granule × ℕ) = map (λ (h : Hold). (h.granule, h.txn)) (filter (writes t) (held_by_all rs)) in
    one_rising_list granules_total gs (listed pairs) rise (keys_rise (entries (from_entries {R = granule_cmp} pairs)) (true_of (is_sorted granule_cmp (entries (from_entries {R = granule_cmp} pairs))) (entries_sorted (from_entries {R = granule_cmp} pairs))))
    (λ g i. named_listed pairs g (subst (In g) (sym (locks_name t rs)) (held_ex t rs g ((held g).0 (In-Contains gs g i)))))
    (λ g i. Contains-In gs g ((held g).1 (ex_held t rs one g (subst (In g) (locks_name t rs) (listed_named pairs g i)))))
