-- Requests in bounds: as many as there may be, and each for a granule that all requests may be for. So an acquire, a release and a cancel leave them.
use Rattle.std.proofs.Common.{◌≡◌, inl, inr, ⊎_elim, ◌≤◌, ℕ, List, [], ◌∷◌, Bool, true, false, cond, Option, None, Some, refl, sym, subst, length, reverse, arith}
use Rattle.std.specs.Prelude.{Result, Ok, Err, filter, is_some}
use Rattle.std.specs.List.{AllByRecursion}
use Rattle.shore_types.specs.Locking.{level_of}
use Rattle.shore_types.specs.declared.faults.Fault.{Fault}
use Rattle.shore_types.specs.declared.faults.Fault.TheVariants as fault
use Rattle.shore_types.specs.declared.locking.Granule.{Granule}
use Rattle.shore_types.specs.declared.locking.Mode.{Mode}
use Rattle.shore_model.specs.Locks.{path}
use Rattle.shore_model.specs.Modes.{is_allowed}
use Rattle.shore_model.specs.Requests.{placed_last, requests_at, requests_by}
use Rattle.shore_model.specs.declared.requests.Request.{Request}
use Rattle.shore_locks.proofs.Counts.{length-filter_most, length-placed_within, length-put_within, length-replaced}
use Rattle.shore_locks.proofs.Entering.{In-put}
use Rattle.shore_locks.proofs.Fits.{In-placed}
use Rattle.shore_locks.proofs.Keys.{in_place-keys}
use Rattle.shore_locks.proofs.Members.{In, In-filter}
use Rattle.shore_locks.specs.Grants.{after_grant, asking, can_be_granted, cancelled, given_up, granted, granted_in_turn, is_enough, is_full, obstacle, passed, put, released, removed, replaced, taken_back, taken_back_if, withdrawn}
use Rattle.shore_locks.specs.Tables.{mode_held, waiters_at, waiting_request}
use Rattle.shore_path.specs.Walks.{Outcome, acquired, after_at, answer_at, asked_of, is_spared, or_stop, walk}
use Rattle.shore_path.specs.declared.answers.Acquired.{Acquired}
use Rattle.shore_path.specs.declared.answers.Acquired.TheVariants as acquire
use Rattle.shore_path.specs.declared.answers.OnConflict.{OnConflict}
use Rattle.shore_path.specs.declared.answers.OnConflict.TheVariants.{Refuse, Wait}

module _ (P : Granule → Type 0) (limit : ℕ) where
  pub record InBounds (rs : List Request) : Type 0 where
    pub within : length rs ≤ limit
    pub inside : (r : Request) → In r rs → P r.granule

  -- ---- requests change, or go

  replaced_inside : (r : Request) (rs : List Request) → ((q : Request) → In q rs → P q.granule) → (q : Request) → In q (replaced r rs) → P q.granule
  replaced_inside r [] all q there = absurd there
  replaced_inside r (x ∷ rs) all q (inl same) = subst (λ (y : Request). P y.granule) same (subst P (sym (in_place-keys r x).1) (all x (inl refl)))
  replaced_inside r (x ∷ rs) all q (inr later) = replaced_inside r rs (λ y there. all y (inr there)) q later

  replaced_bounds : (r : Request) (rs : List Request) → InBounds rs → InBounds (replaced r rs)
  replaced_bounds r rs k = record { within = subst (λ n. n ≤ limit) (sym (length-replaced r rs)) k.within; inside = replaced_inside r rs k.inside }

  filter_bounds : (p : Request → Bool) (rs : List Request) → InBounds rs → InBounds (filter p rs)
  filter_bounds p rs k = record {
    within = let fewer = length-filter_most p rs in let most = k.within in omega (arith, fewer, most);
    inside = λ r there. k.inside r (In-filter p rs r there).0;
  }

  turn_bounds : (ws rs : List Request) → InBounds rs → InBounds (granted_in_turn ws rs)
  turn_bounds [] rs k = k
  turn_bounds (w ∷ ws) rs k = by (can_be_granted w (requests_at w.granule rs)) (turn_bounds ws (replaced (granted w) rs) (replaced_bounds (granted w) rs k))
    where
      by : (b : Bool) → InBounds (granted_in_turn ws (replaced (granted w) rs)) → InBounds (cond b (granted_in_turn ws (replaced (granted w) rs)) rs)
      by true rest = rest
      by false rest = k

  passed_bounds : (g : Granule) (rs : List Request) → InBounds rs → InBounds (passed g rs)
  passed_bounds g rs k = turn_bounds (waiters_at g rs) rs k

  given_up_bounds : (mine rs : List Request) → InBounds rs → InBounds (given_up mine rs)
  given_up_bounds [] rs k = k
  given_up_bounds (r ∷ mine) rs k = given_up_bounds mine (passed r.granule (removed r rs)) (passed_bounds r.granule (removed r rs) (filter_bounds _ rs k))

  pub released_bounds : (t : ℕ) (rs : List Request) → InBounds rs → InBounds (released t rs)
  released_bounds t rs k = given_up_bounds (requests_by t rs) rs k

  taken_back_bounds : (r : Request) (rs : List Request) → InBounds rs → InBounds (taken_back r rs)
  taken_back_bounds r rs k = passed_bounds r.granule (cond (is_some r.held) (replaced (withdrawn r) rs) (removed r rs)) (by (is_some r.held))
    where
      by : (b : Bool) → InBounds (cond b (replaced (withdrawn r) rs) (removed r rs))
      by true = replaced_bounds (withdrawn r) rs k
      by false = filter_bounds _ rs k

  pub cancelled_bounds : (t : ℕ) (rs : List Request) → InBounds rs → InBounds (cancelled t rs)
  cancelled_bounds t rs k = by (waiting_request t rs)
    where
      by : (o : Option Request) → InBounds (taken_back_if o rs)
      by None = k
      by (Some r) = taken_back_bounds r rs k

  -- ---- a transaction asks

  module _ (t : ℕ) (g : Granule) (mode : Mode) (rs : List Request) (k : InBounds rs) (there : P g) where
    abbrev its : Request
    its = asking t g mode rs

    module _ (room : is_full (record { limit = limit; requests = rs }) t g ≡ false) where
      placed_bounds : InBounds (placed_last its rs)
      placed_bounds = record {
        within = length-placed_within its rs limit k.within room;
        inside = λ r m. ⊎_elim (λ same. subst (λ (y : Request). P y.granule) (sym same) there) (λ was. k.inside r was.0) (In-placed its rs r m);
      }

      grant_bounds : InBounds (after_grant t g mode rs)
      grant_bounds = passed_bounds g (put (granted its) rs) (record {
        within = length-put_within (granted its) rs limit k.within room;
        inside = λ r m. ⊎_elim (λ same. subst (λ (y : Request). P y.granule) (sym same) there) (λ was. k.inside r was.0) (In-put (granted its) rs r m);
      })

    waiting_or : (enough full stopped : Bool) → is_full (record { limit = limit; requests = rs }) t g ≡ full
        → InBounds (cond enough rs (cond full rs (cond stopped (placed_last its rs) (after_grant t g mode rs))))
    waiting_or true full stopped is = k
    waiting_or false true stopped is = k
    waiting_or false false true is = placed_bounds is
    waiting_or false false false is = grant_bounds is

    trying_or : (enough full stopped : Bool) → is_full (record { limit = limit; requests = rs }) t g ≡ full
        → InBounds (cond enough rs (cond full rs (cond stopped rs (after_grant t g mode rs))))
    trying_or true full stopped is = k
    trying_or false true stopped is = k
    trying_or false false true is = k
    trying_or false false false is = grant_bounds is

    asked_bounds : (c : OnConflict) → InBounds (after_at c (record { limit = limit; requests = rs }) t g mode)
    asked_bounds Wait = waiting_or (is_enough mode (mode_held t g rs)) (is_full (record { limit = limit; requests = rs }) t g) (is_some (obstacle its rs)) refl
    asked_bounds Refuse = trying_or (is_enough mode (mode_held t g rs)) (is_full (record { limit = limit; requests = rs }) t g) (is_some (obstacle its rs)) refl

  -- ---- it asks along a path

  module _ (c : OnConflict) (t : ℕ) (target : Granule) (mode : Mode) where
    stop_bounds : (answer : Result Acquired Fault) (after : List Request) (rest : Outcome) → InBounds after → InBounds rest.requests → InBounds (or_stop answer after rest).requests
    stop_bounds (Ok acquire.Done) after rest k later = later
    stop_bounds (Ok (acquire.Waiting g)) after rest k later = k
    stop_bounds (Err fault) after rest k later = k

    walk_bounds : (way : List Granule) (rs : List Request) → AllByRecursion P way → InBounds rs → InBounds (walk c t target mode limit way rs).requests
    walk_bounds [] rs all k = k
    walk_bounds (g ∷ way) rs all k =
        let after = asked_bounds t g (asked_of target mode g) rs k all.0 c in
        by (is_spared t target mode g rs) _
        (stop_bounds (answer_at c (record { limit = limit; requests = rs }) t g (asked_of target mode g)) (after_at c (record { limit = limit; requests = rs }) t g (asked_of target mode g))
        (walk c t target mode limit way (after_at c (record { limit = limit; requests = rs }) t g (asked_of target mode g))) after
        (walk_bounds way (after_at c (record { limit = limit; requests = rs }) t g (asked_of target mode g)) all.1 after))
      where
        by : (b : Bool) (later : Outcome) → InBounds later.requests → InBounds (cond b (record { answer = Ok acquire.Done; requests = rs }) later).requests
        by true later rest = k
        by false later rest = rest

    pub acquired_bounds : (rs : List Request) → AllByRecursion P (reverse (path target)) → InBounds rs → InBounds (acquired c (record { limit = limit; requests = rs }) t target mode).requests
    acquired_bounds rs all k = by (is_allowed (level_of target) mode)
      where
        by : (b : Bool) → InBounds (cond b (walk c t target mode limit (reverse (path target)) rs) (record { answer = Err fault.BadMode; requests = rs })).requests
        by true = walk_bounds (reverse (path target)) rs all k
        by false = k
