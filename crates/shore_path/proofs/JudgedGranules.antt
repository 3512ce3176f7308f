-- A walk that changes nothing: each granule is judged in the table as it was, for what a grant above it changed is elsewhere.
use Rattle.std.proofs.Common.{◌≡◌, ◌<◌, ◌≤◌, ◌+◌, ℕ, List, Bool, true, false, Option, None, Some, ⊎_elim, refl, ap, sym, ◌∙◌, length, arith}
use Rattle.std.specs.Prelude.{◌&&◌, ◌==◌, not, cond, find, is_some, nat_lt}
use Rattle.std.specs.Option.{option_and_then, option_map}
use Rattle.std.proofs.lemmas.List.{length_push}
use Rattle.std.proofs.lemmas.Bool.Decides.{Decides-ltb}
use Rattle.shore_types.specs.declared.locking.Granule.{Granule}
use Rattle.shore_types.specs.declared.locking.Mode.{Mode}
use Rattle.shore_types.specs.Locking.{same_granule}
use Rattle.shore_model.specs.declared.requests.Request.{Request}
use Rattle.shore_model.specs.Requests.{AreRequests, requests_at}
use Rattle.shore_locks.specs.declared.answers.Tried.{Tried}
use Rattle.shore_locks.specs.declared.answers.Tried.TheVariants.{Granted as TryGranted, Full as TryFull}
use Rattle.shore_locks.specs.Grants.{after_grant, after_try, answer_to_try, asking, blocked_by, granted, in_the_way, is_enough, is_full, is_stopped_by, obstacle, put, wanted_mode}
use Rattle.shore_locks.specs.Tables.{Table, is_for, mode_held, request_for}
use Rattle.shore_locks.proofs.Buckets.{find_filtered}
use Rattle.shore_locks.proofs.Counts.{AreRequests-passed, length-passed, length-replaced}
use Rattle.shore_locks.proofs.Entering.{AreRequests-put, both_true, found_any_same, nothing}
use Rattle.shore_locks.proofs.Members.{either}
use Rattle.shore_locks.proofs.Others.{at_other_passed, at_other_put, put_in_place, put_last}
use Rattle.shore_path.specs.Judging.{IsAlike, told_by}

abbrev tried : Bool → Bool → Option Request → Tried
tried enough full o = cond enough TryGranted (cond full TryFull (blocked_by o))

told_free : (enough : Bool) (o : Option Request) → told_by (cond enough None (option_map (λ (r : Request). r.txn) o)) ≡ tried enough false o
told_free true o = refl
told_free false None = refl
told_free false (Some q) = refl

abbrev left_by : {A : Type 0} → Bool → Bool → Bool → A → A → A
left_by enough full stopped same grown = cond enough same (cond full same (cond stopped same grown))

-- ---- the requests for one granule say what is answered there

module _ (t : ℕ) (g : Granule) (m : Mode) (rs new : List Request) (same : requests_at g new ≡ requests_at g rs) where
  pub found_same : request_for t g new ≡ request_for t g rs
  found_same =
      let inside = λ (q : Request) (e : is_for t g q ≡ true). (both_true (q.txn == t) (same_granule q.granule g) e).1 in
      sym (find_filtered (is_for t g) (λ q. same_granule q.granule g) inside new) ∙ ap (find (is_for t g)) same
      ∙ find_filtered (is_for t g) (λ q. same_granule q.granule g) inside rs

  pub held_same : mode_held t g new ≡ mode_held t g rs
  held_same = ap (option_and_then (λ (r : Request). r.held)) found_same

  abbrev asks : Option Mode → Request
  asks held = record { txn = t; granule = g; held = held; wanted = Some (wanted_mode held m) }

  pub obstacle_same : obstacle (asking t g m new) new ≡ obstacle (asking t g m rs) rs
  obstacle_same = ap (λ held. obstacle (asks held) new) held_same ∙ ap (find (is_stopped_by (asking t g m rs))) same

  -- .. as a try would be told that has a node to spare
  pub answer_same : (limit : ℕ) → is_full (record { limit = limit; requests = new }) t g ≡ false → told_by (in_the_way t g m rs) ≡ answer_to_try (record { limit = limit; requests = new }) t g m
  answer_same limit room =
      told_free (is_enough m (mode_held t g rs)) (obstacle (asking t g m rs) rs)
      ∙ sym (ap (λ held. tried (is_enough m held) (is_full (record { limit = limit; requests = new }) t g) (obstacle (asking t g m new) new)) held_same
      ∙ ap (λ full. tried (is_enough m (mode_held t g rs)) full (obstacle (asking t g m new) new)) room
      ∙ ap (tried (is_enough m (mode_held t g rs)) false) obstacle_same)

-- ---- room

pub not_full : (known : Bool) (n limit : ℕ) → (known ≡ false → n < limit) → (not known && not (nat_lt n limit)) ≡ false
not_full true n limit room = refl
not_full false n limit room = ap not ((Decides-ltb n limit).1 (room refl))

no_room : (n limit : ℕ) → limit ≤ n → nat_lt n limit ≡ false
no_room n limit past = ⊎_elim (λ yes. absurd (let less = (Decides-ltb n limit).0 yes in omega (arith, past, less))) (λ no. no) (either (nat_lt n limit))

pub judged_full : (t : ℕ) (g : Granule) (m : Mode) (limit left : ℕ) (rs new : List Request) → IsAlike g limit left rs new → is_some (request_for t g rs) ≡ false → left ≡ 0
    → TryFull ≡ answer_to_try (record { limit = limit; requests = new }) t g m
judged_full t g m limit left rs new alike unknown none =
    let missing : request_for t g new ≡ None = found_same t g m rs new alike.same ∙ nothing (request_for t g rs) unknown in
    let full : nat_lt (length new) limit ≡ false = no_room (length new) limit (omega (arith, alike.room, none)) in
    rw (missing, full) refl

pub judged_by_way : (t : ℕ) (g : Granule) (m : Mode) (limit left : ℕ) (rs new : List Request) → IsAlike g limit left rs new → (is_some (request_for t g rs) ≡ false → 0 < left)
    → told_by (in_the_way t g m rs) ≡ answer_to_try (record { limit = limit; requests = new }) t g m
judged_by_way t g m limit left rs new alike some =
    answer_same t g m rs new alike.same limit
    (not_full (is_some (request_for t g new)) (length new) limit (λ e. (let more = some (sym (ap is_some (found_same t g m rs new alike.same)) ∙ e) in omega (arith, alike.room, more))))

-- ---- a grant

module _ (t : ℕ) (g : Granule) (m : Mode) (new : List Request) (one : AreRequests new) where
  abbrev grown : List Request
  grown = put (granted (asking t g m new)) new

  ones : AreRequests grown
  ones = AreRequests-put (granted (asking t g m new)) new one

  pub elsewhere : (h : Granule) → (g ≡ h → ⊥) → requests_at h (after_grant t g m new) ≡ requests_at h new
  elsewhere h other = at_other_passed h g grown ones other ∙ at_other_put h (granted (asking t g m new)) new other

  pub length-known : is_some (request_for t g new) ≡ true → length (after_grant t g m new) ≡ length new
  length-known known =
      length-passed g grown ones ∙ ap length (put_in_place (granted (asking t g m new)) new (sym (found_any_same (is_for t g) new) ∙ known)) ∙ length-replaced (granted (asking t g m new)) new

  pub length-unknown : is_some (request_for t g new) ≡ false → length (after_grant t g m new) ≡ length new + 1
  length-unknown none =
      length-passed g grown ones ∙ ap length (put_last (granted (asking t g m new)) new (sym (found_any_same (is_for t g) new) ∙ none)) ∙ length_push new (granted (asking t g m new))

pub one_after_grant : (t : ℕ) (g : Granule) (m : Mode) (new : List Request) → AreRequests new → AreRequests (after_grant t g m new)
one_after_grant t g m new one = AreRequests-passed g (grown t g m new one) (ones t g m new one)

in_either : (P : List Request → Type 0) (enough full stopped : Bool) (same more : List Request) → P same → P more → P (left_by enough full stopped same more)
in_either P true full stopped same more p q = p
in_either P false true stopped same more p q = p
in_either P false false true same more p q = p
in_either P false false false same more p q = q

when_granted : (P : List Request → Type 0) (enough full : Bool) (o : Option Request) (same more : List Request) → (enough ≡ true → ⊥) → tried enough full o ≡ TryGranted → P more → P (left_by enough full (is_some o) same more)
when_granted P true full o same more never told q = absurd (never refl)
when_granted P false true o same more never told q = cc
when_granted P false false (Some r) same more never told q = cc
when_granted P false false None same more never told q = q

module _ (t : ℕ) (g : Granule) (m : Mode) (limit : ℕ) (new : List Request) (one : AreRequests new) where
  abbrev table : Table
  table = record { limit = limit; requests = new }

  after_either : (P : List Request → Type 0) → P new → P (after_grant t g m new) → P (after_try table t g m)
  after_either P = in_either P (is_enough m (mode_held t g new)) (is_full table t g) (is_some (obstacle (asking t g m new) new)) new (after_grant t g m new)

  pub one_after_try : AreRequests (after_try table t g m)
  one_after_try = after_either AreRequests one (one_after_grant t g m new one)

  pub elsewhere_after_try : (h : Granule) → (g ≡ h → ⊥) → requests_at h (after_try table t g m) ≡ requests_at h new
  elsewhere_after_try h other = after_either (λ xs. requests_at h xs ≡ requests_at h new) refl (elsewhere t g m new one h other)

  pub grew_after_try : length new ≤ length (after_try table t g m)
  grew_after_try =
      after_either (λ xs. length new ≤ length xs) (omega arith)
      (⊎_elim (λ yes. let e = length-known t g m new one yes in omega (arith, e)) (λ no. let e = length-unknown t g m new one no in omega (arith, e)) (either (is_some (request_for t g new))))

  nothing_held : is_some (request_for t g new) ≡ false → is_enough m (mode_held t g new) ≡ true → ⊥
  nothing_held none e = let missing : request_for t g new ≡ None = nothing (request_for t g new) none in let now : is_enough m (option_and_then (λ (r : Request). r.held) None) ≡ true = ap (λ o. is_enough m (option_and_then (λ (r : Request). r.held) o)) (sym missing) ∙ e in cc

  pub room_known : (left : ℕ) → left + length new ≡ limit → is_some (request_for t g new) ≡ true → left + length (after_try table t g m) ≡ limit
  room_known left room known = after_either (λ xs. left + length xs ≡ limit) room (let e = length-known t g m new one known in omega (arith, e, room))

  pub room_unknown : (left rest : ℕ) → left + length new ≡ limit → rest + 1 ≡ left → is_some (request_for t g new) ≡ false → answer_to_try table t g m ≡ TryGranted
      → rest + length (after_try table t g m) ≡ limit
  room_unknown left rest room less none told =
      when_granted (λ xs. rest + length xs ≡ limit) (is_enough m (mode_held t g new)) (is_full table t g) (obstacle (asking t g m new) new) new (after_grant t g m new)
      (nothing_held none) told (let e = length-unknown t g m new one none in omega (arith, e, room, less))
