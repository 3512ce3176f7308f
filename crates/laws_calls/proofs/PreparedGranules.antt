-- What a Prepare lists is what its transaction may write.
use Rattle.std.specs.Prelude.{◌&&◌, ◌==◌, Contains, IsTrue, filter, T}
use Rattle.std.proofs.Common.{◌≡◌, ◌≤◌, Bool, arith, length, subst, inl, inr, ⊎_elim, ℕ, List, [], ◌∷◌, true, false, cond, refl, sym, ap, ◌∙◌, map}
use Rattle.std.proofs.lemmas.Bool.{eq-eqb, eqb-true, true≢false}
use Rattle.std.proofs.lemmas.List.Elements.{All-contains_itself, All-weaker}
use Rattle.std.proofs.lemmas.Map.Views.{Contains-from_any, list_any-from_Contains}
use Rattle.std.specs.Cmp.{eq_by_cmp_equiv}
use Rattle.std.specs.FinMap.{contains_key-keys, from_entries, get-from_entries, keys, entries, entries_sorted}
use Rattle.std.specs.FinMap.Entries.{is_some-find, below_all, is_sorted}
use Rattle.std.specs.List.{list_any, AllByRecursion}
use Rattle.std.specs.Option.{is_some}
use Rattle.std.specs.Ordering.{eq_by_cmp, is_eq, is_lt}
use Rattle.std.specs.declared.cmp.Ordering.TheVariants.{Equal, Less, Greater}
use Rattle.shore_types.specs.Locking.{exact_granules, granule_cmp, granules_total}
use Rattle.shore_types.specs.declared.locking.Granule.{Granule}
use Rattle.shore_types.specs.declared.locking.Mode.{Mode}
use Rattle.shore_types.specs.declared.locking.Mode.TheVariants.{EX}
use Rattle.shore_model.specs.Locks.{HoldsAtLeast}
use Rattle.shore_model.specs.Modes.{is_at_most, is_write}
use Rattle.shore_model.specs.declared.holds.Hold.{Hold}
use Rattle.laws_lives.proofs.Booleans.{is_equal}
use Rattle.laws_lives.proofs.DoubtLocks.{contained_among}
use Rattle.laws_lives.proofs.DoubtRecords.{among_filter}
use Rattle.laws_lives.proofs.Lists.{among_contained, among_map, mapped_one}
use Rattle.laws_lives.specs.SessionSteps.{AreExclusive}
use Rattle.laws_lives.specs.Sessions.{SessionTxn}
use Rattle.laws_lives.specs.Views.{IsAmong}
use Rattle.laws_calls.specs.Prepares.{granules_in_ex}
use Rattle.laws_calls.specs.States.{State}
use Rattle.std.specs.List.Sorted.{IsStrictlySortedBy}
use Rattle.std.specs.declared.cmp.Ordering.{Ordering}

-- ---- granules in their order

same_by_order : (x y : Granule) → eq_by_cmp granule_cmp x y ≡ true → x ≡ y
same_by_order x y e = exact_granules x y (is_equal (granule_cmp x y) e)

-- ---- what is listed

module _ (t : ℕ) where
  abbrev writes : Hold → Bool
  writes h = (h.txn == t) && is_write h.mode

  abbrev pairs : List Hold → List (Granule × ℕ)
  pairs held = map (λ (h : Hold). (h.granule, h.txn)) (filter writes held)

  abbrev listed : List Hold → List Granule
  listed held = keys (from_entries {R = granule_cmp} (pairs held))

  abbrev named : List Hold → List Granule
  named held = map (λ (e : Granule × ℕ). e.0) (pairs held)

  -- its keys are those of the pairs
  same_keys : (held : List Hold) (q : Granule) → list_any (eq_by_cmp granule_cmp q) (listed held) ≡ list_any (eq_by_cmp granule_cmp q) (named held)
  same_keys held q =
      sym (contains_key-keys (from_entries {R = granule_cmp} (pairs held)) q) ∙ ap is_some (get-from_entries granules_total (pairs held) q) ∙ is_some-find granule_cmp q (pairs held)

  listed_named : (held : List Hold) (q : Granule) → Contains (listed held) q → Contains (named held) q
  listed_named held q c =
      Contains-from_any same_by_order q (named held) (sym (same_keys held q) ∙ list_any-from_Contains (eq_by_cmp_equiv granules_total) q (listed held) c)

  named_listed : (held : List Hold) (q : Granule) → Contains (named held) q → Contains (listed held) q
  named_listed held q c =
      Contains-from_any same_by_order q (listed held) (same_keys held q ∙ list_any-from_Contains (eq_by_cmp_equiv granules_total) q (named held) c)

  among_written : (h : Hold) (held : List Hold) → writes h ≡ true → IsAmong h held → IsAmong h (filter writes held)
  among_written h [] passes m = absurd m
  among_written h (x ∷ held) passes m =
      elim (writes x) as (λ b. writes x ≡ b → IsAmong h (cond b (x ∷ filter writes held) (filter writes held))) [
        | true ↦ λ e. ⊎_elim (λ here. inl here) (λ later. inr (among_written h held passes later)) m
        | false ↦ λ e. ⊎_elim (λ here. absurd (true≢false (sym passes ∙ ap writes (sym here) ∙ e))) (λ later. among_written h held passes later) m
      ] refl

  both : (b c : Bool) → (b && c) ≡ true → (b ≡ true) × (c ≡ true)
  both true c e = (refl, e)
  both false c e = cc

  exclusive_mode : (m : Mode) → is_write m ≡ true → IsTrue (is_at_most EX m)
  exclusive_mode EX e = refl
  exclusive_mode _ e = cc

  held_exclusively : (held : List Hold) (q : Granule) → Contains (named held) q → HoldsAtLeast held t EX q
  held_exclusively held q c =
      let pair = mapped_one (λ (e : Granule × ℕ). e.0) q (pairs held) (contained_among (named held) q c) in
      let from = mapped_one (λ (h : Hold). (h.granule, h.txn)) pair.0 (filter writes held) pair.1 in
      let h = from.0 in
      let kept = among_filter writes h held from.1 in
      let at = among_contained h held kept.0 in
      let passes = both (h.txn == t) (is_write h.mode) kept.1 in
      (at.0, h, at.1, at.2, (eqb-true h.txn t passes.0, ap (λ (e : Granule × ℕ). e.0) from.2 ∙ pair.2, exclusive_mode h.mode passes.1))

  written_named : (held : List Hold) (h : Hold) → Contains held h → h.txn ≡ t → IsTrue (is_write h.mode) → Contains (named held) h.granule
  written_named held h c own write =
      among_contained h.granule (named held) (among_map (λ (e : Granule × ℕ). e.0) (h.granule, h.txn) (pairs held)
      (among_map (λ (h : Hold). (h.granule, h.txn)) h (filter writes held) (among_written h held (passes own write) (contained_among held h c))))
    where
      passes : h.txn ≡ t → IsTrue (is_write h.mode) → writes h ≡ true
      passes own write = ap (λ b. b && is_write h.mode) (eq-eqb h.txn t own) ∙ write

-- they rise
first_true : (a b : Bool) → T (a && b) → T a
first_true true b p = tt
first_true false b p = p

second_true : (a b : Bool) → T (a && b) → T b
second_true true b p = p
second_true false b p = absurd p

is_less : (o : Ordering) → T (is_lt o) → o ≡ Less
is_less Less h = refl
is_less Equal h = absurd h
is_less Greater h = absurd h

head_below : (x : Granule) (es : List (Granule × ℕ)) → T (below_all granule_cmp x es) → AllByRecursion (λ y. granule_cmp x y ≡ Less) (map (λ (e : Granule × ℕ). e.0) es)
head_below x [] h = tt
head_below x (e ∷ es) h = (is_less (granule_cmp x e.0) (first_true _ _ h), head_below x es (second_true _ _ h))

keys_rise : (es : List (Granule × ℕ)) → T (is_sorted granule_cmp es) → IsStrictlySortedBy granule_cmp (map (λ (e : Granule × ℕ). e.0) es)
unfolding IsStrictlySortedBy
keys_rise [] h = tt
keys_rise (e ∷ es) h = (head_below e.0 es (first_true _ _ h), keys_rise es (second_true _ _ h))

pub granules_rise : (s : State) (a : SessionTxn) → IsStrictlySortedBy granule_cmp (granules_in_ex s a)
granules_rise s a = let m = from_entries {R = granule_cmp} (pairs a.txn s.sessions.held) in keys_rise (entries m) (entries_sorted m)

pub prepared_granules : (s : State) (a : SessionTxn) → AreExclusive s.sessions.held a.txn (granules_in_ex s a)
prepared_granules s a =
    let held = s.sessions.held in
    record {
      each = All-weaker (Contains (granules_in_ex s a)) (HoldsAtLeast held a.txn EX) (λ q c. held_exclusively a.txn held q (listed_named a.txn held q c))
          (granules_in_ex s a) (All-contains_itself (granules_in_ex s a));
      all = All-weaker (Contains held) (λ (h : Hold). h.txn ≡ a.txn → IsTrue (is_write h.mode) → Contains (granules_in_ex s a) h.granule)
          (λ h c own write. named_listed a.txn held h.granule (written_named a.txn held h c own write)) held (All-contains_itself held);
    }

-- ---- one alone

few_of_one : (q : Granule) (xs : List Granule) → IsStrictlySortedBy granule_cmp xs → ((x : Granule) → IsAmong x xs → x ≡ q) → length xs ≤ 1
unfolding IsStrictlySortedBy
few_of_one q [] rise same = omega arith
few_of_one q (x ∷ []) rise same = omega arith
few_of_one q (x ∷ y ∷ more) rise same =
    let less : granule_cmp q q ≡ Less = sym (ap (λ (g : Granule). granule_cmp g q) (same x (inl refl))) ∙ sym (ap (granule_cmp x) (same y (inr (inl refl)))) ∙ rise.0.0 in
    absurd (true≢false (sym ((eq_by_cmp_equiv granules_total).refl q) ∙ ap is_eq less))

-- if it may write one granule it lists no more than that
pub lists_one : (s : State) (a : SessionTxn) (q : Granule) → named a.txn s.sessions.held ≡ q ∷ [] → length (granules_in_ex s a) ≤ 1
lists_one s a q is = few_of_one q (granules_in_ex s a) (granules_rise s a) only
  where
    only : (x : Granule) → IsAmong x (granules_in_ex s a) → x ≡ q
    only x m = ⊎_elim (λ (here : q ≡ x). sym here) (λ (none : ⊥). absurd none)
        (subst (IsAmong x) is (contained_among (named a.txn s.sessions.held) x (listed_named a.txn s.sessions.held x (among_contained x (granules_in_ex s a) m))))
