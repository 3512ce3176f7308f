-- What may be locked now, by each granule of the path in the table as it is.
use Rattle.std.proofs.Common.{◌≡◌, ◌⊎◌, ◌≤◌, ◌+◌, inl, inr, ⊎_elim, ℕ, zero, suc, List, [], ◌∷◌, Bool, true, false, Option, None, Some, refl, ap, sym, subst, ◌∙◌, length, arith, reverse}
use Rattle.std.specs.Prelude.{◌&&◌, Any, IsTrue, cond, find, is_some, not, Result, Ok, Err}
use Rattle.std.specs.Option.{option_map}
use Rattle.shore_types.specs.declared.faults.Fault.{Fault}
use Rattle.shore_types.specs.declared.ids.Rid.{Rid}
use Rattle.shore_types.specs.declared.locking.Granule.{Granule}
use Rattle.shore_types.specs.declared.locking.Granule.TheVariants.{Volume, Store, Page, Record}
use Rattle.shore_types.specs.declared.locking.Mode.{Mode}
use Rattle.shore_types.specs.declared.locking.Mode.TheVariants.{IS, IX, SH, SIX, EX, UD}
use Rattle.shore_types.specs.Locking.{same_granule}
use Rattle.shore_model.specs.declared.requests.Request.{Request}
use Rattle.shore_model.specs.Locks.{ancestors, path}
use Rattle.shore_model.specs.Modes.{parent_mode}
use Rattle.shore_model.specs.Requests.{AreRequests, requests_at}
use Rattle.shore_locks.specs.declared.answers.Tried.TheVariants.{Granted as TryGranted, Full as TryFull}
use Rattle.shore_locks.specs.Grants.{after_grant, after_try, answer_to_try, asking, blocked_by, in_the_way, is_enough, is_full, is_stopped_by, obstacle}
use Rattle.shore_locks.specs.Tables.{Table, mode_held, request_for}
use Rattle.shore_locks.proofs.Keys.{same_granule-Decides}
use Rattle.shore_locks.proofs.Members.{In, either}
use Rattle.shore_locks.proofs.Outcomes.{any_from}
use Rattle.shore_path.specs.declared.answers.Acquired.{Acquired}
use Rattle.shore_path.specs.declared.answers.Acquired.TheVariants as acquire
use Rattle.shore_path.specs.declared.answers.OnConflict.TheVariants.{Refuse}
use Rattle.shore_path.specs.Acquires.{IsCoveredAbove}
use Rattle.shore_path.specs.Judging.{CanLockNow}
use Rattle.shore_path.specs.Walks.{Outcome, asked_of, is_covered, is_spared, of_try, or_stop, walk}
use Rattle.shore_path.proofs.JudgedGranules.{elsewhere, held_same, length-known, length-unknown, not_full, obstacle_same, one_after_grant}
use Rattle.shore_path.proofs.JudgedWays.{Differ, differ_path}
use Rattle.shore_path.proofs.Walking.{done}

abbrev IsDone : Outcome → Type 0
IsDone out = out.answer ≡ Ok acquire.Done

abbrev answered : Bool → Bool → Option Request → Result Acquired Fault
answered enough full o = of_try (cond enough TryGranted (cond full TryFull (blocked_by o)))

-- ---- each granule in the table as it is

module _ (t : ℕ) (target : Granule) (mode : Mode) where
  -- at each granule of a way nobody is in the way, up to one that spares the rest
  abbrev pub LetThrough : List Request → List Granule → Type 0
  LetThrough rs [] = Unit {0}
  LetThrough rs (g ∷ below) = (is_spared t target mode g rs ≡ true) ⊎ ((in_the_way t g (asked_of target mode g) rs ≡ None) × LetThrough rs below)

  module _ (limit : ℕ) where
    abbrev tried : List Granule → List Request → Outcome
    tried way rs = walk Refuse t target mode limit way rs

    abbrev Both : Type 0 → Type 0 → Type 0
    Both A B = (A → B) × (B → A)

    abbrev left : Bool → Bool → Option Request → List Request → List Request → List Request
    left enough full o mid grown = cond enough mid (cond full mid (cond (is_some o) mid grown))

    by_case : (P : Type 0) (below : List Granule) (mid grown : List Request) → Both (IsDone (tried below mid)) P → Both (IsDone (tried below grown)) P
        → (spared enough full : Bool) (o : Option Request) → full ≡ false
        → Both (IsDone (cond spared (done mid) (or_stop (answered enough full o) (left enough full o mid grown) (tried below (left enough full o mid grown)))))
        ((spared ≡ true) ⊎ ((cond enough None (option_map (λ (r : Request). r.txn) o) ≡ None) × P))
    by_case P below mid grown same more true enough full o room = (λ d. inl refl, λ l. refl)
    by_case P below mid grown same more false true full o room = (λ d. inr (refl, same.0 d), λ l. elim l [ inl s ↦ absurd cc | inr x ↦ same.1 x.1 ])
    by_case P below mid grown same more false false true o room = absurd cc
    by_case P below mid grown same more false false false (Some q) room = (λ d. absurd cc, λ l. elim l [ inl s ↦ absurd cc | inr x ↦ absurd (let e = x.0 in cc) ])
    by_case P below mid grown same more false false false None room = (λ d. inr (refl, more.0 d), λ l. elim l [ inl s ↦ absurd cc | inr x ↦ more.1 x.1 ])

    pub through : (rs : List Request) (way : List Granule) (mid : List Request) → AreRequests mid → Differ way → ((g : Granule) → In g way → requests_at g mid ≡ requests_at g rs)
        → length mid + length way ≤ limit → Both (IsDone (tried way mid)) (LetThrough rs way)
    through rs [] mid one differ alike room = (λ d. tt, λ l. refl)
    through rs (g ∷ below) mid one differ alike room =
        let asked : Mode = asked_of target mode g in
        let here : requests_at g mid ≡ requests_at g rs = alike g (inl refl) in
        let held = held_same t g asked rs mid here in
        let spared : is_spared t target mode g mid ≡ is_spared t target mode g rs = ap (λ h. not (same_granule g target) && is_covered mode h) held in
        let way : cond (is_enough asked (mode_held t g mid)) None (option_map (λ (r : Request). r.txn) (obstacle (asking t g asked mid) mid)) ≡ in_the_way t g asked rs =
        ap (λ h. cond (is_enough asked h) None (option_map (λ (r : Request). r.txn) (obstacle (asking t g asked mid) mid))) held
        ∙ ap (λ o. cond (is_enough asked (mode_held t g rs)) None (option_map (λ (r : Request). r.txn) o)) (obstacle_same t g asked rs mid here) in
        let grew : length (after_grant t g asked mid) ≤ length mid + 1 =
        ⊎_elim (λ yes. let e = length-known t g asked mid one yes in omega (arith, e)) (λ no. let e = length-unknown t g asked mid one no in omega (arith, e)) (either (is_some (request_for t g mid))) in
        let full = not_full (is_some (request_for t g mid)) (length mid) limit (λ unknown. omega (arith, room)) in
        let same = through rs below mid one differ.1 (λ h i. alike h (inr i)) (omega (arith, room)) in
        let more = through rs below (after_grant t g asked mid) (one_after_grant t g asked mid one) differ.1
        (λ h i. elsewhere t g asked mid one h (λ e. differ.0 (subst (λ k. In k below) (sym e) i)) ∙ alike h (inr i)) (omega (arith, room, grew)) in
        let both =
        by_case (LetThrough rs below) below mid (after_grant t g asked mid) same more (is_spared t target mode g mid) (is_enough asked (mode_held t g mid))
        (is_full (record { limit = limit; requests = mid }) t g) (obstacle (asking t g asked mid) mid) full in (
          λ d. elim (both.0 d) [ inl s ↦ inl (sym spared ∙ s) | inr x ↦ inr (sym way ∙ x.0, x.1) ],
          λ l. both.1 (elim l [ inl s ↦ inl (spared ∙ s) | inr x ↦ inr (way ∙ x.0, x.1) ]),
        )

-- what is held above, by its granule
abbrev Above : (Granule → Type 0) → Rid → Type 0
Above P id = P (Page id.page) ⊎ (P (Store id.page.store) ⊎ P Volume)

pub above_of : (P : Granule → Type 0) (id : Rid) → Any P (ancestors (Record id)) → Above P id
above_of P id (zero, g, inside, is, holds) = inl (subst P (sym is) holds)
above_of P id (suc zero, g, inside, is, holds) = inr (inl (subst P (sym is) holds))
above_of P id (suc (suc zero), g, inside, is, holds) = inr (inr (subst P (sym is) holds))
above_of P id (suc (suc (suc k)), g, inside, is, holds) = absurd (omega (arith, inside))

pub of_above : (P : Granule → Type 0) (id : Rid) → Above P id → Any P (ancestors (Record id))
of_above P id (inl page) = any_from P (ancestors (Record id)) (Page id.page) (inl refl) page
of_above P id (inr (inl store)) = any_from P (ancestors (Record id)) (Store id.page.store) (inr (inl refl)) store
of_above P id (inr (inr volume)) = any_from P (ancestors (Record id)) Volume (inr (inr (inl refl))) volume

-- what covers an intention to write covers a write
covered_alike : (held : Option Mode) → is_covered IX held ≡ is_covered EX held
covered_alike None = refl
covered_alike (Some IS) = refl
covered_alike (Some IX) = refl
covered_alike (Some SH) = refl
covered_alike (Some SIX) = refl
covered_alike (Some EX) = refl
covered_alike (Some UD) = refl

same : (g : Granule) → same_granule g g ≡ true
same g = (same_granule-Decides g g).1 refl

-- ---- a record on its page

module _ (rs : List Request) (t : ℕ) (id : Rid) (one : AreRequests rs) where
  abbrev record_way : List Granule
  record_way = reverse (path (Record id))

  abbrev page_way : List Granule
  page_way = reverse (path (Page id.page))

  abbrev Covers : Granule → Type 0
  Covers g = IsTrue (is_covered EX (mode_held t g rs))

  abbrev IsFree : Granule → Mode → Type 0
  IsFree g mode = in_the_way t g mode rs ≡ None

  can_record : (CanLockNow rs t (Record id) EX → LetThrough t (Record id) EX rs record_way) × (LetThrough t (Record id) EX rs record_way → CanLockNow rs t (Record id) EX)
  can_record = through t (Record id) EX (length rs + 4) rs record_way rs one (differ_path (Record id)) (λ g i. refl) (omega arith)

  can_page : CanLockNow rs t (Page id.page) IX → LetThrough t (Page id.page) IX rs page_way
  can_page = (through t (Page id.page) IX (length rs + 4) rs page_way rs one (differ_path (Page id.page)) (λ g i. refl) (omega arith)).0

  -- the target's own mode spares nothing
  last_free : (target : Granule) (mode : Mode) → LetThrough t target mode rs (target ∷ []) → IsFree target mode
  last_free target mode (inl spared) = absurd (let yes = same target in cc)
  last_free target mode (inr x) = subst (λ b. in_the_way t target (cond b mode (parent_mode mode)) rs ≡ None) (same target) x.0

  free_last : (target : Granule) (mode : Mode) → IsFree target mode → LetThrough t target mode rs (target ∷ [])
  free_last target mode free = inr (subst (λ b. in_the_way t target (cond b mode (parent_mode mode)) rs ≡ None) (sym (same target)) free, tt)

  pub record_decides : CanLockNow rs t (Record id) EX → IsFree (Record id) EX ⊎ IsCoveredAbove rs t (Record id) EX
  record_decides can = elim (can_record.0 can) [
    | inl volume ↦ inr (of_above Covers id (inr (inr volume)))
    | inr below ↦ elim below.1 [
      | inl store ↦ inr (of_above Covers id (inr (inl store)))
      | inr lower ↦ elim lower.1 [
        | inl page ↦ inr (of_above Covers id (inl page))
        | inr last ↦ inl (last_free (Record id) EX last.1)
      ]
    ]
  ]

  -- the way of the page leads to the record's
  pub decides_record : CanLockNow rs t (Page id.page) IX → IsFree (Record id) EX ⊎ IsCoveredAbove rs t (Record id) EX → CanLockNow rs t (Record id) EX
  decides_record can decided = can_record.1 (elim (can_page can) [
    | inl volume ↦ inl (sym (covered_alike (mode_held t Volume rs)) ∙ volume)
    | inr below ↦ elim decided [
      | inl free ↦ inr (
        below.0,
        elim below.1 [
          | inl store ↦ inl (sym (covered_alike (mode_held t (Store id.page.store) rs)) ∙ store)
          | inr lower ↦ inr (lower.0, inr (last_free (Page id.page) IX lower.1, free_last (Record id) EX free))
        ],
      )
      | inr covered ↦ elim (above_of Covers id covered) [
        | inl page ↦ inr (
          below.0,
          elim below.1 [
            | inl store ↦ inl (sym (covered_alike (mode_held t (Store id.page.store) rs)) ∙ store)
            | inr lower ↦ inr (lower.0, inl page)
          ],
        )
        | inr higher ↦ elim higher [ inl store ↦ inr (below.0, inl store) | inr volume ↦ inl volume ]
      ]
    ]
  ])

-- nobody is in the way where there are no requests
pub nobody_there : (rs : List Request) (t : ℕ) (g : Granule) (m : Mode) → requests_at g rs ≡ [] → in_the_way t g m rs ≡ None
nobody_there rs t g m none = ap (λ xs. cond (is_enough m (mode_held t g rs)) None (option_map (λ (r : Request). r.txn) (find (is_stopped_by (asking t g m rs)) xs))) none ∙ either_way (is_enough m (mode_held t g rs))
  where
    either_way : (b : Bool) → cond {A = Option ℕ} b None None ≡ None
    either_way true = refl
    either_way false = refl

-- ---- the page of a record, whatever the requests

module _ (t limit : ℕ) (id : Rid) where
  on : (a b : Bool) → a ≡ b → (answer : Result Acquired Fault) (rs xs : List Request) (record_rest page_rest : Outcome) → (IsDone record_rest → IsDone page_rest)
      → IsDone (cond a (done rs) (or_stop answer xs record_rest)) → IsDone (cond b (done rs) (or_stop answer xs page_rest))
  on true true is answer rs xs record_rest page_rest rest d = refl
  on true false is answer rs xs record_rest page_rest rest d = absurd cc
  on false true is answer rs xs record_rest page_rest rest d = refl
  on false false is (Ok acquire.Done) rs xs record_rest page_rest rest d = rest d
  on false false is (Ok (acquire.Waiting g)) rs xs record_rest page_rest rest d = absurd cc
  on false false is (Err f) rs xs record_rest page_rest rest d = absurd cc

  -- an ancestor's lock that spares the record is enough for the page itself
  at_page : (a b enough full : Bool) (o : Option Request) (rs xs ys zs : List Request) (record_rest : Outcome) → (a ≡ true → enough ≡ true)
      → IsDone (cond a (done rs) (or_stop (answered enough full o) xs record_rest)) → IsDone (cond b (done rs) (or_stop (answered enough full o) ys (done zs)))
  at_page a true enough full o rs xs ys zs record_rest sure d = refl
  at_page a false true full o rs xs ys zs record_rest sure d = refl
  at_page true false false full o rs xs ys zs record_rest sure d = absurd (let e = sure refl in cc)
  at_page false false false true o rs xs ys zs record_rest sure d = absurd cc
  at_page false false false false None rs xs ys zs record_rest sure d = refl
  at_page false false false false (Some q) rs xs ys zs record_rest sure d = absurd cc

  covers_enough : (held : Option Mode) → is_covered EX held ≡ true → is_enough IX held ≡ true
  covers_enough None e = absurd cc
  covers_enough (Some IS) e = absurd cc
  covers_enough (Some IX) e = absurd cc
  covers_enough (Some SH) e = absurd cc
  covers_enough (Some SIX) e = absurd cc
  covers_enough (Some EX) e = refl
  covers_enough (Some UD) e = absurd cc

  abbrev record_walk : List Granule → List Request → Outcome
  record_walk way rs = walk Refuse t (Record id) EX limit way rs

  abbrev page_walk : List Granule → List Request → Outcome
  page_walk way rs = walk Refuse t (Page id.page) IX limit way rs

  page_of : (rs : List Request) → IsDone (record_walk (Page id.page ∷ Record id ∷ []) rs) → IsDone (page_walk (Page id.page ∷ []) rs)
  page_of rs d = by (same_granule (Page id.page) (Page id.page))
    where
      table : Table
      table = record { limit = limit; requests = rs }

      by_mode : (b : Bool) → IsDone (cond b (done rs) (or_stop (of_try (answer_to_try table t (Page id.page) IX)) (after_try table t (Page id.page) IX) (done (after_try table t (Page id.page) IX))))
      by_mode b =
          at_page (is_covered EX (mode_held t (Page id.page) rs)) b (is_enough IX (mode_held t (Page id.page) rs)) (is_full table t (Page id.page)) (obstacle (asking t (Page id.page) IX rs) rs) rs
          (after_try table t (Page id.page) IX) (after_try table t (Page id.page) IX) (after_try table t (Page id.page) IX) (record_walk (Record id ∷ []) (after_try table t (Page id.page) IX))
          (covers_enough (mode_held t (Page id.page) rs)) d

      by : (b : Bool) → IsDone (cond (not b && is_covered IX (mode_held t (Page id.page) rs)) (done rs)
          (or_stop (of_try (answer_to_try table t (Page id.page) (cond b IX IX))) (after_try table t (Page id.page) (cond b IX IX)) (done (after_try table t (Page id.page) (cond b IX IX)))))
      by true = by_mode false
      by false = by_mode (is_covered IX (mode_held t (Page id.page) rs))

  abbrev left_at : Granule → List Request → List Request
  left_at g rs = after_try (record { limit = limit; requests = rs }) t g IX

  abbrev told_at : Granule → List Request → Result Acquired Fault
  told_at g rs = of_try (answer_to_try (record { limit = limit; requests = rs }) t g IX)

  alike_at : (g : Granule) (rs : List Request) → is_covered EX (mode_held t g rs) ≡ is_covered IX (mode_held t g rs)
  alike_at g rs = sym (covered_alike (mode_held t g rs))

  store_of : (rs : List Request) → IsDone (record_walk (Store id.page.store ∷ Page id.page ∷ Record id ∷ []) rs) → IsDone (page_walk (Store id.page.store ∷ Page id.page ∷ []) rs)
  store_of rs =
      on (is_covered EX (mode_held t (Store id.page.store) rs)) (is_covered IX (mode_held t (Store id.page.store) rs)) (alike_at (Store id.page.store) rs) (told_at (Store id.page.store) rs) rs (left_at (Store id.page.store) rs)
      (record_walk (Page id.page ∷ Record id ∷ []) (left_at (Store id.page.store) rs)) (page_walk (Page id.page ∷ []) (left_at (Store id.page.store) rs)) (page_of (left_at (Store id.page.store) rs))

  pub page_walked : (rs : List Request) → IsDone (record_walk (reverse (path (Record id))) rs) → IsDone (page_walk (reverse (path (Page id.page))) rs)
  page_walked rs =
      on (is_covered EX (mode_held t Volume rs)) (is_covered IX (mode_held t Volume rs)) (alike_at Volume rs) (told_at Volume rs) rs (left_at Volume rs)
      (record_walk (Store id.page.store ∷ Page id.page ∷ Record id ∷ []) (left_at Volume rs)) (page_walk (Store id.page.store ∷ Page id.page ∷ []) (left_at Volume rs)) (store_of (left_at Volume rs))

pub record_needs_page : (rs : List Request) (t : ℕ) (id : Rid) → CanLockNow rs t (Record id) EX → CanLockNow rs t (Page id.page) IX
record_needs_page rs t id = page_walked t (length rs + 4) id rs
