-- What changes make of a tally.
use Rattle.std.proofs.Common.{◌≡◌, ◌++◌, ◌<◌, ◌≤◌, ◌+◌, ◌-◌, inl, ⊎_elim, ℕ, List, [], ◌∷◌, Bool, true, false, None, Some, refl, ap, sym, subst, ◌∙◌, length, map, arith, get_or-set_same, get_or-set_other}
use Rattle.std.specs.Prelude.{MatchBool, not, ◌==◌, ◌^◌, is_some, slice_get, slice_index_or, slice_set}
use Rattle.std.specs.List.{list_any}
use Rattle.std.proofs.lemmas.List.{append-nil, append_assoc, length-map, get_or_default, length-append, length-set}
use Rattle.std.proofs.lemmas.Bool.Decides.{Decides-eqb}
use Rattle.shore_types.specs.declared.locking.Granule.{Granule}
use Rattle.shore_types.specs.declared.locking.Mode.{Mode}
use Rattle.shore_types.specs.Locking.{same_granule}
use Rattle.shore_model.specs.declared.requests.Request.{Request}
use Rattle.shore_model.specs.Requests.{are_alike, AreRequests, is_conversion, placed_last, requests_at, requests_by}
use Rattle.shore_nodes.specs.Grants.{removed, replaced}
use Rattle.shore_nodes.specs.Nodes.{queue_head}
use Rattle.shore_nodes.specs.Tallies.{AreCounted, Counts, Stored, count_in, crowd, how_many, is_just, one_if, tally_at}
use Rattle.shore_nodes.specs.declared.tallies.Tally.{Tally}
use Rattle.shore_nodes.proofs.Counts.{length-filter_most}
use Rattle.shore_nodes.proofs.Crowds.{crowd_removed, crowd_replaced, other_placed, other_pushed, other_removed, other_replaced, own_placed, own_pushed}
use Rattle.shore_nodes.proofs.Keys.{alike-Decides, in_place-no, in_place-yes, AreRequests-filter}
use Rattle.shore_nodes.proofs.Members.{In, In-All, either, filter-no, filter-yes, In-filter, filter-In, filter-all}
use Rattle.shore_nodes.specs.Tables.{is_for, request_for}
use Rattle.shore_nodes.proofs.Entering.{found_in, found_none}
use Rattle.shore_nodes.proofs.Fits.{any_of}
use Rattle.shore_nodes.proofs.NodeSteps.{none_of_any}
use Rattle.shore_nodes.proofs.Passes.{first_of}
use Rattle.shore_nodes.proofs.Others.{removed_none, replaced_none}

module _ (p : Request → Bool) where
  count_cons : (x : Request) (xs : List Request) → how_many p (x ∷ xs) ≡ one_if (p x) + how_many p xs
  count_cons x xs = ⊎_elim (λ passes. rw passes (omega arith)) (λ fails. rw fails (omega arith)) (either (p x))

  count_pushed : (xs : List Request) (r : Request) → how_many p (xs ++ r ∷ []) ≡ how_many p xs + one_if (p r)
  count_pushed [] r = let e = count_cons r [] in omega (arith, e)
  count_pushed (x ∷ xs) r = let e = count_cons x (xs ++ r ∷ []) in let f = count_cons x xs in let g = count_pushed xs r in omega (arith, e, f, g)

  alike_apart : (x o r : Request) → are_alike x r ≡ true → are_alike x o ≡ false → are_alike o r ≡ false
  alike_apart x o r same apart =
      ⊎_elim
      (λ also. absurd (let a = (alike-Decides x r).0 same in let b = (alike-Decides o r).0 also in let c = (alike-Decides x o).1 (a.0 ∙ sym b.0, a.1 ∙ sym b.1) in let f : true ≡ false = sym c ∙ apart in cc))
      (λ none. none)
      (either (are_alike o r))

  -- the one that is alike goes, or has another in its place
  count_removed : (r q : Request) (xs : List Request) → AreRequests xs → In q xs → are_alike q r ≡ true → how_many p xs ≡ how_many p (removed r xs) + one_if (p q)
  count_removed r q [] one h same = absurd h
  count_removed r q (x ∷ xs) one h same =
      ⊎_elim
      (λ e.
      let here : are_alike x r ≡ true = ap (λ z. are_alike z r) e ∙ same in
      let gone : removed r (x ∷ xs) ≡ xs =
      filter-no (λ z. not (are_alike z r)) x xs (ap not here) ∙ removed_none r xs (λ o i. alike_apart x o r here (In-All (λ z. are_alike x z ≡ false) xs o one.0 i)) in
      let f = ap (how_many p) gone in let g = count_cons x xs in let k = ap (λ z. one_if (p z)) e in omega (arith, f, g, k))
      (λ t.
      let other : are_alike x r ≡ false = ⊎_elim
      (λ also. absurd (let c = alike_apart x q r also (In-All (λ z. are_alike x z ≡ false) xs q one.0 t) in let f : true ≡ false = sym same ∙ c in cc)) (λ none. none) (either (are_alike x r)) in
      let kept = filter-yes (λ z. not (are_alike z r)) x xs (ap not other) in
      let f = ap (how_many p) kept in let g = count_cons x xs in let k = count_cons x (removed r xs) in let rest = count_removed r q xs one.1 t same in omega (arith, f, g, k, rest))
      h

  count_replaced : (r q : Request) (xs : List Request) → AreRequests xs → In q xs → are_alike q r ≡ true → how_many p (replaced r xs) + one_if (p q) ≡ how_many p xs + one_if (p r)
  count_replaced r q [] one h same = absurd h
  count_replaced r q (x ∷ xs) one h same =
      ⊎_elim
      (λ e.
      let here : are_alike x r ≡ true = ap (λ z. are_alike z r) e ∙ same in
      let now : replaced r (x ∷ xs) ≡ r ∷ xs =
      ap (λ z. z ∷ replaced r xs) (in_place-yes r x here) ∙ ap (λ zs. r ∷ zs) (replaced_none r xs (λ o i. alike_apart x o r here (In-All (λ z. are_alike x z ≡ false) xs o one.0 i))) in
      let f = ap (how_many p) now in let g = count_cons x xs in let k = ap (λ z. one_if (p z)) e in let l = count_cons r xs in omega (arith, f, g, k, l))
      (λ t.
      let other : are_alike x r ≡ false = ⊎_elim
      (λ also. absurd (let c = alike_apart x q r also (In-All (λ z. are_alike x z ≡ false) xs q one.0 t) in let f : true ≡ false = sym same ∙ c in cc)) (λ none. none) (either (are_alike x r)) in
      let now = ap (λ z. z ∷ replaced r xs) (in_place-no r x other) in
      let f = ap (how_many p) now in let g = count_cons x xs in let k = count_cons x (replaced r xs) in let rest = count_replaced r q xs one.1 t same in omega (arith, f, g, k, rest))
      h

abbrev pub HoldingMore : Tally → Tally → Request → Type 0
HoldingMore tally new r = (m : Mode) → count_in tally m + 1 < 2 ^ 64 → count_in new m ≡ count_in tally m + one_if (is_just m r.held)

abbrev pub HoldingLess : Tally → Tally → Request → Type 0
HoldingLess tally new r = (m : Mode) → count_in new m ≡ count_in tally m - one_if (is_just m r.held)

abbrev pub WaitingMore : Tally → Tally → Request → Type 0
WaitingMore tally new r = tally.waiting + 1 < 2 ^ 64 → new.waiting ≡ tally.waiting + one_if (is_some r.wanted)

abbrev pub WaitingLess : Tally → Tally → Request → Type 0
WaitingLess tally new r = new.waiting ≡ tally.waiting - one_if (is_some r.wanted)

abbrev pub ConvertingMore : Tally → Tally → Request → Type 0
ConvertingMore tally new r = tally.converting + 1 < 2 ^ 64 → new.converting ≡ tally.converting + one_if (is_conversion r)

abbrev pub ConvertingLess : Tally → Tally → Request → Type 0
ConvertingLess tally new r = new.converting ≡ tally.converting - one_if (is_conversion r)

more : (p : Request → Bool) (a b : ℕ) (r : Request) (xs : List Request) → (a + 1 < 2 ^ 64 → b ≡ a + one_if (p r)) → a ≡ how_many p xs → length xs + 1 < 2 ^ 64 → b ≡ how_many p (xs ++ r ∷ [])
more p a b r xs grows is few =
    let most = length-filter_most p xs in
    let e = grows (omega (arith, most, is, few)) in
    let f = count_pushed p xs r in omega (arith, e, f, is)

pub counts_with : (tally new : Tally) (r : Request) (xs : List Request) → HoldingMore tally new r → WaitingMore tally new r → ConvertingMore tally new r → Counts tally xs → length xs + 1 < 2 ^ 64 → Counts new (xs ++ r ∷ [])
counts_with tally new r xs holding waiting converting counts few = record {
  holding = λ m. more (λ x. is_just m x.held) (count_in tally m) (count_in new m) r xs (holding m) (counts.holding m) few;
  waiting = more (λ x. is_some x.wanted) tally.waiting new.waiting r xs waiting counts.waiting few;
  converting = more is_conversion tally.converting new.converting r xs converting counts.converting few;
}

less : (p : Request → Bool) (a b : ℕ) (r q : Request) (xs : List Request) → AreRequests xs → In q xs → are_alike q r ≡ true → b ≡ a - one_if (p q) → a ≡ how_many p xs → b ≡ how_many p (removed r xs)
less p a b r q xs one h same shrinks is = let e = count_removed p r q xs one h same in omega (arith, e, shrinks, is)

pub counts_without : (tally new : Tally) (r q : Request) (xs : List Request) → HoldingLess tally new q → WaitingLess tally new q → ConvertingLess tally new q → Counts tally xs → AreRequests xs → In q xs → are_alike q r ≡ true → Counts new (removed r xs)
counts_without tally new r q xs holding waiting converting counts one h same = record {
  holding = λ m. less (λ x. is_just m x.held) (count_in tally m) (count_in new m) r q xs one h same (holding m) (counts.holding m);
  waiting = less (λ x. is_some x.wanted) tally.waiting new.waiting r q xs one h same waiting counts.waiting;
  converting = less is_conversion tally.converting new.converting r q xs one h same converting counts.converting;
}

count_all : (xs : List Request) → how_many (λ _. true) xs ≡ length xs
count_all xs = ap length (filter-all (λ _. true) xs (λ x h. refl))

exchanged : (p : Request → Bool) (a b d : ℕ) (r q : Request) (xs : List Request) → AreRequests xs → In q xs → are_alike q r ≡ true → b ≡ a - one_if (p q) → (b + 1 < 2 ^ 64 → d ≡ b + one_if (p r)) → a ≡ how_many p xs → length xs < 2 ^ 64 → d ≡ how_many p (replaced r xs)
exchanged p a b d r q xs one h same shrinks grows is few =
    let gone = less p a b r q xs one h same shrinks is in
    let most = length-filter_most p (removed r xs) in
    let shorter = count_removed (λ _. true) r q xs one h same in
    let all = count_all xs in
    let all_left = count_all (removed r xs) in
    let e = grows (omega (arith, gone, most, shorter, all, all_left, few)) in
    let f = count_removed p r q xs one h same in
    let g = count_replaced p r q xs one h same in omega (arith, e, f, g, gone)

pub counts_exchanged : (tally gone new : Tally) (r q : Request) (xs : List Request) → HoldingLess tally gone q → WaitingLess tally gone q → ConvertingLess tally gone q → HoldingMore gone new r → WaitingMore gone new r → ConvertingMore gone new r → Counts tally xs → AreRequests xs → In q xs → are_alike q r ≡ true → length xs < 2 ^ 64
    → Counts new (replaced r xs)
counts_exchanged tally gone new r q xs less_holding less_waiting less_converting more_holding more_waiting more_converting counts one h same few = record {
  holding = λ m. exchanged (λ x. is_just m x.held) (count_in tally m) (count_in gone m) (count_in new m) r q xs one h same (less_holding m) (more_holding m) (counts.holding m) few;
  waiting = exchanged (λ x. is_some x.wanted) tally.waiting gone.waiting new.waiting r q xs one h same less_waiting more_waiting counts.waiting few;
  converting = exchanged is_conversion tally.converting gone.converting new.converting r q xs one h same less_converting more_converting counts.converting few;
}

pub counts_moved : (tally gone new : Tally) (r q : Request) (xs : List Request) → HoldingLess tally gone q → WaitingLess tally gone q → ConvertingLess tally gone q → HoldingMore gone new r → WaitingMore gone new r → ConvertingMore gone new r → Counts tally xs → AreRequests xs → In q xs → are_alike q r ≡ true → length xs < 2 ^ 64
    → Counts new (placed_last r xs)
counts_moved tally gone new r q xs less_holding less_waiting less_converting more_holding more_waiting more_converting counts one h same few =
    let shorter = count_removed (λ _. true) r q xs one h same in
    let all = count_all xs in
    let all_left = count_all (removed r xs) in
    counts_with gone new r (removed r xs) more_holding more_waiting more_converting
    (counts_without tally gone r q xs less_holding less_waiting less_converting counts one h same) (omega (arith, shorter, all, all_left, few))

-- one head's tally is set, and the others count what they did
pub counted_set : (tallies : List Tally) (old new : Stored) (head : ℕ) (tally : Tally) → AreCounted tallies old → new.heads ≡ old.heads → head < old.heads → Counts tally (crowd old.heads head new.requests)
    → ((b : ℕ) → (head ≡ b → ⊥) → crowd old.heads b new.requests ≡ crowd old.heads b old.requests) → AreCounted (slice_set tallies head tally) new
counted_set tallies old new head tally are same small counts others = record {
  some = subst (λ n. 65 < n) (sym same) are.some;
  few = subst (λ n. n ≤ 2 ^ 32) (sym same) are.few;
  each = length-set tallies head tally ∙ are.each ∙ sym same;
  counted = λ b h.
      subst (λ n. Counts (tally_at (slice_set tallies head tally) b) (crowd n b new.requests)) (sym same)
      (⊎_elim
      (λ is_head. let e = (Decides-eqb head b).0 is_head in
      subst (λ z. Counts (tally_at (slice_set tallies head tally) z) (crowd old.heads z new.requests)) e
      (subst (λ t. Counts t (crowd old.heads head new.requests)) (sym (get_or-set_same tallies head tally (record { is = 0; ix = 0; sh = 0; six = 0; ex = 0; ud = 0; waiting = 0; converting = 0 }) (subst (λ n. head < n) (sym are.each) small))) counts))
      (λ apart. let other : (head ≡ b → ⊥) = λ e. let y = (Decides-eqb head b).1 e in let f : (head == b) ≡ false = apart in cc in
      subst (λ t. Counts t (crowd old.heads b new.requests)) (sym (get_or-set_other tallies head b tally (record { is = 0; ix = 0; sh = 0; six = 0; ex = 0; ud = 0; waiting = 0; converting = 0 }) (λ e. other (sym e))))
      (subst (Counts (tally_at tallies b)) (sym (others b other)) (are.counted b (subst (λ n. b < n) same h))))
      (either (head == b)));
}

module _ (tallies : List Tally) (old new : Stored) (r : Request) (head : ℕ) (at : head ≡ queue_head old.heads r.granule) (are : AreCounted tallies old) (small : head < old.heads) (same : new.heads ≡ old.heads) where
  read_at : (tally : Tally) → tally ≡ slice_index_or tallies head tally → tally ≡ tally_at tallies head
  read_at tally is = is ∙ get_or_default tallies head tally (record { is = 0; ix = 0; sh = 0; six = 0; ex = 0; ud = 0; waiting = 0; converting = 0 }) (subst (λ n. head < n) (sym are.each) small)

  other_head : (b : ℕ) → (head ≡ b → ⊥) → queue_head old.heads r.granule ≡ b → ⊥
  other_head b other e = other (at ∙ e)

  pub pushed_counted : (tally now : Tally) → tally ≡ slice_index_or tallies head tally → HoldingMore tally now r → WaitingMore tally now r → ConvertingMore tally now r → new.requests ≡ old.requests ++ r ∷ [] → length new.requests < 2 ^ 64 → AreCounted (slice_set tallies head now) new
  pushed_counted tally now is holding waiting converting comes few =
      counted_set tallies old new head now are same small
      (subst (Counts now) (sym (ap (crowd old.heads head) comes ∙ own_pushed old.heads head r old.requests (sym at)))
      (counts_with tally now r (crowd old.heads head old.requests) holding waiting converting (subst (λ t. Counts t (crowd old.heads head old.requests)) (sym (read_at tally is)) (are.counted head small))
      (let most = length-filter_most (λ q. queue_head old.heads q.granule == head) old.requests in let long = ap length comes ∙ length-append old.requests (r ∷ []) in omega (arith, most, long, few))))
      (λ b other. ap (crowd old.heads b) comes ∙ other_pushed old.heads b r old.requests (other_head b other))

  in_crowd : (q : Request) → In q old.requests → are_alike q r ≡ true → In q (crowd old.heads head old.requests)
  in_crowd q h alike = filter-In (λ x. queue_head old.heads x.granule == head) old.requests q h ((Decides-eqb (queue_head old.heads q.granule) head).1 (ap (queue_head old.heads) ((alike-Decides q r).0 alike).1 ∙ sym at))

  pub removed_counted : (tally now : Tally) (q : Request) → tally ≡ slice_index_or tallies head tally → AreRequests old.requests → In q old.requests → are_alike q r ≡ true → HoldingLess tally now q → WaitingLess tally now q → ConvertingLess tally now q → new.requests ≡ removed r old.requests
      → AreCounted (slice_set tallies head now) new
  removed_counted tally now q is one h alike holding waiting converting goes =
      counted_set tallies old new head now are same small
      (subst (Counts now) (sym (ap (crowd old.heads head) goes ∙ crowd_removed old.heads head r old.requests))
      (counts_without tally now r q (crowd old.heads head old.requests) holding waiting converting (subst (λ t. Counts t (crowd old.heads head old.requests)) (sym (read_at tally is)) (are.counted head small))
      (AreRequests-filter (λ x. queue_head old.heads x.granule == head) old.requests one) (in_crowd q h alike) alike))
      (λ b other. ap (crowd old.heads b) goes ∙ other_removed old.heads b r old.requests (other_head b other))

  pub replaced_counted : (tally gone now : Tally) (q : Request) → tally ≡ slice_index_or tallies head tally → AreRequests old.requests → In q old.requests → are_alike q r ≡ true → HoldingLess tally gone q → WaitingLess tally gone q → ConvertingLess tally gone q → HoldingMore gone now r → WaitingMore gone now r → ConvertingMore gone now r
      → new.requests ≡ replaced r old.requests → length old.requests < 2 ^ 64 → AreCounted (slice_set tallies head now) new
  replaced_counted tally gone now q is one h alike less_holding less_waiting less_converting more_holding more_waiting more_converting changes few =
      counted_set tallies old new head now are same small
      (subst (Counts now) (sym (ap (crowd old.heads head) changes ∙ crowd_replaced old.heads head r old.requests))
      (counts_exchanged tally gone now r q (crowd old.heads head old.requests) less_holding less_waiting less_converting more_holding more_waiting more_converting (subst (λ t. Counts t (crowd old.heads head old.requests)) (sym (read_at tally is)) (are.counted head small))
      (AreRequests-filter (λ x. queue_head old.heads x.granule == head) old.requests one) (in_crowd q h alike) alike
      (let most = length-filter_most (λ q. queue_head old.heads q.granule == head) old.requests in omega (arith, most, few))))
      (λ b other. ap (crowd old.heads b) changes ∙ other_replaced old.heads b r old.requests (other_head b other))

  pub moved_counted : (tally gone now : Tally) (q : Request) → tally ≡ slice_index_or tallies head tally → AreRequests old.requests → In q old.requests → are_alike q r ≡ true → HoldingLess tally gone q → WaitingLess tally gone q → ConvertingLess tally gone q → HoldingMore gone now r → WaitingMore gone now r → ConvertingMore gone now r
      → new.requests ≡ placed_last r old.requests → length old.requests < 2 ^ 64 → AreCounted (slice_set tallies head now) new
  moved_counted tally gone now q is one h alike less_holding less_waiting less_converting more_holding more_waiting more_converting moves few =
      counted_set tallies old new head now are same small
      (subst (Counts now) (sym (ap (crowd old.heads head) moves ∙ own_placed old.heads head r old.requests (sym at)))
      (counts_moved tally gone now r q (crowd old.heads head old.requests) less_holding less_waiting less_converting more_holding more_waiting more_converting (subst (λ t. Counts t (crowd old.heads head old.requests)) (sym (read_at tally is)) (are.counted head small))
      (AreRequests-filter (λ x. queue_head old.heads x.granule == head) old.requests one) (in_crowd q h alike) alike
      (let most = length-filter_most (λ q. queue_head old.heads q.granule == head) old.requests in omega (arith, most, few))))
      (λ b other. ap (crowd old.heads b) moves ∙ other_placed old.heads b r old.requests (other_head b other))

-- a walk is counted node by node
pub tally_goes_on : (tally new : Tally) (n : ℕ) (r : Request) (entry walk rest : List (ℕ × Request)) (done : List Request) → HoldingMore tally new r → WaitingMore tally new r → ConvertingMore tally new r → Counts tally done
    → done ++ map (λ (p : ℕ × Request). p.1) walk ≡ map (λ (p : ℕ × Request). p.1) entry → walk ≡ (n, r) ∷ rest → length entry < 2 ^ 64
    → (after : List Request) × Counts new after × (after ++ map (λ (p : ℕ × Request). p.1) rest ≡ map (λ (p : ℕ × Request). p.1) entry)
tally_goes_on tally new n r entry walk rest done holding waiting converting counts so_far is few =
    let there = ap (λ w. done ++ map (λ (p : ℕ × Request). p.1) w) (sym is) ∙ so_far in
    let long = ap length there in
    let parts = length-append done (r ∷ map (λ (p : ℕ × Request). p.1) rest) in
    let all = length-map entry (λ (p : ℕ × Request). p.1) in
    (done ++ r ∷ [], counts_with tally new r done holding waiting converting counts (omega (arith, long, parts, all, few)), append_assoc done (r ∷ []) (map (λ (p : ℕ × Request). p.1) rest) ∙ there)

-- .. and so is one of those for a granule
pub queue_goes_on : (tally new : Tally) (g : Granule) (n : ℕ) (r : Request) (entry : List Request) (walk rest : List (ℕ × Request)) (done : List Request) → HoldingMore tally new r → WaitingMore tally new r → ConvertingMore tally new r → Counts tally done
    → done ++ requests_at g (map (λ (p : ℕ × Request). p.1) walk) ≡ requests_at g entry → walk ≡ (n, r) ∷ rest → same_granule r.granule g ≡ true → length (requests_at g entry) < 2 ^ 64
    → (after : List Request) × Counts new after × (after ++ requests_at g (map (λ (p : ℕ × Request). p.1) rest) ≡ requests_at g entry)
queue_goes_on tally new g n r entry walk rest done holding waiting converting counts so_far is at few =
    let there = ap (λ xs. done ++ xs) (sym (ap (λ w. requests_at g (map (λ (p : ℕ × Request). p.1) w)) is ∙ filter-yes (λ q. same_granule q.granule g) r (map (λ (p : ℕ × Request). p.1) rest) at)) ∙ so_far in
    let long = ap length there in
    let parts = length-append done (r ∷ requests_at g (map (λ (p : ℕ × Request). p.1) rest)) in
    (done ++ r ∷ [], counts_with tally new r done holding waiting converting counts (omega (arith, long, parts, few)), append_assoc done (r ∷ []) (requests_at g (map (λ (p : ℕ × Request). p.1) rest)) ∙ there)

pub tally_ends : (tally : Tally) (entry walk : List (ℕ × Request)) (done : List Request) → Counts tally done → done ++ map (λ (p : ℕ × Request). p.1) walk ≡ map (λ (p : ℕ × Request). p.1) entry → walk ≡ [] → Counts tally (map (λ (p : ℕ × Request). p.1) entry)
tally_ends tally entry walk done counts so_far is =
    subst (Counts tally) (sym (append-nil done) ∙ ap (λ w. done ++ map (λ (p : ℕ × Request). p.1) w) (sym is) ∙ so_far) counts

pub counted_same : (tallies : List Tally) (old new : Stored) → AreCounted tallies old → new.heads ≡ old.heads → new.requests ≡ old.requests → AreCounted tallies new
counted_same tallies old new are heads requests = record {
  some = subst (λ n. 65 < n) (sym heads) are.some;
  few = subst (λ n. n ≤ 2 ^ 32) (sym heads) are.few;
  each = are.each ∙ sym heads;
  counted = λ b h. subst (λ rs. Counts (tally_at tallies b) (crowd new.heads b rs)) (sym requests)
      (subst (λ n. Counts (tally_at tallies b) (crowd n b old.requests)) (sym heads) (are.counted b (subst (λ n. b < n) heads h)));
}

pub first_in : (t : ℕ) (rs : List Request) (r : Request) → Some r ≡ slice_get (requests_by t rs) 0 → In r rs
first_in t rs r is = (In-filter (λ q. q.txn == t) rs r (subst (In r) (sym (first_of (requests_by t rs) r is)) (inl refl))).0

pub known_in : (r q : Request) (rs : List Request) → Some q ≡ request_for r.txn r.granule rs → In q rs × (are_alike q r ≡ true)
known_in r q rs is = found_in (is_for r.txn r.granule) rs q (sym is)

pub unknown_replaced : (r : Request) (rs : List Request) → None ≡ request_for r.txn r.granule rs → replaced r rs ≡ rs
unknown_replaced r rs is = replaced_none r rs (λ q h. found_none (is_for r.txn r.granule) rs (sym is) q h)

pub unknown_removed : (r : Request) (rs : List Request) → None ≡ request_for r.txn r.granule rs → removed r rs ≡ rs
unknown_removed r rs is = removed_none r rs (λ q h. found_none (is_for r.txn r.granule) rs (sym is) q h)

-- one that is found is among those that are alike, and so is none that is not
pub known_any : (r q : Request) (rs : List Request) → Some q ≡ request_for r.txn r.granule rs → list_any (λ x. are_alike x r) rs ≡ true
known_any r q rs is = let k = known_in r q rs is in any_of (λ x. are_alike x r) rs q k.0 k.1

-- one that is there is moved
pub moved_if : (r : Request) (rs new : List Request) (there : Bool) → list_any (λ q. are_alike q r) rs ≡ true
    → MatchBool there ((list_any (λ q. are_alike q r) rs ≡ true) × (new ≡ placed_last r rs)) ((list_any (λ q. are_alike q r) rs ≡ false) × (new ≡ rs)) → new ≡ placed_last r rs
moved_if r rs new true known moves = moves.1
moved_if r rs new false known moves = absurd (let clash : true ≡ false = sym known ∙ moves.0 in cc)

pub unknown_any : (r : Request) (rs : List Request) → None ≡ request_for r.txn r.granule rs → list_any (λ x. are_alike x r) rs ≡ false
unknown_any r rs is = none_of_any (λ x. are_alike x r) rs (λ q h. found_none (is_for r.txn r.granule) rs (sym is) q h)

pub tally_read : (tallies : List Tally) (stored : Stored) (head : ℕ) (tally : Tally) → AreCounted tallies stored → head < stored.heads → tally ≡ slice_index_or tallies head tally → Counts tally (crowd stored.heads head stored.requests)
tally_read tallies stored head tally are small is =
    subst (λ t. Counts t (crowd stored.heads head stored.requests))
    (sym (is ∙ get_or_default tallies head tally (record { is = 0; ix = 0; sh = 0; six = 0; ex = 0; ud = 0; waiting = 0; converting = 0 }) (subst (λ n. head < n) (sym are.each) small))) (are.counted head small)
