-- What a walk keeps: that nobody's lock becomes weaker, and the intentions.
use Rattle.std.proofs.Common.{◌≡◌, ◌⊎◌, inl, inr, ⊎_elim, ℕ, List, ◌∷◌, Bool, true, false, Some, refl, ap, sym, subst, ◌∙◌}
use Rattle.std.specs.Prelude.{cond, Ok}
use Rattle.shore_types.specs.declared.locking.Granule.{Granule}
use Rattle.shore_types.specs.declared.locking.Mode.{Mode}
use Rattle.shore_types.specs.Locking.{same_granule}
use Rattle.shore_model.specs.declared.requests.Request.{Request}
use Rattle.shore_model.specs.Locks.{ancestors}
use Rattle.shore_model.specs.Modes.{parent_mode}
use Rattle.shore_model.specs.Requests.{AreRequests}
use Rattle.shore_locks.specs.Grants.{after_grant, wanted_mode, is_enough}
use Rattle.shore_locks.specs.Tables.{is_waiting, mode_held}
use Rattle.shore_locks.proofs.Members.{In}
use Rattle.shore_locks.proofs.Fits.{Fit}
use Rattle.shore_locks.proofs.Entering.{Fit-placed}
use Rattle.shore_locks.proofs.Outcomes.{held_after_grant}
use Rattle.shore_path.specs.declared.answers.OnConflict.{OnConflict}
use Rattle.shore_path.specs.declared.answers.Acquired.TheVariants as acquire
use Rattle.shore_path.specs.Walks.{asked_of}
use Rattle.shore_path.proofs.Growing.{Fit-grant, held_grant, held_placed, quiet_grant, rooted_grant, rooted_placed, stays_grant, stays_placed}
use Rattle.shore_path.proofs.Holding.{enough_of, holder_of}
use Rattle.shore_path.proofs.ModeFacts.{aim_twice, parent_twice}
use Rattle.shore_path.proofs.Moving.{Above, Rooted, Stays, held_still, stays-on, stays-self}
use Rattle.shore_path.proofs.Walking.{EachCase, of_walk, walk_on}
use Rattle.shore_path.proofs.Ways.{InOrder}

-- all transactions
abbrev pub Each : ℕ → Type 0
Each t = Unit {0}

pub still_enough : (rs new : List Request) → AreRequests new → Stays Each rs new → (u : ℕ) (g : Granule) (m : Mode) → is_enough m (mode_held u g rs) ≡ true → is_enough m (mode_held u g new) ≡ true
still_enough rs new one stays u g m e = enough_of u g m new one (held_still Each rs new stays u g m tt (holder_of u g m rs e))

asks_self : (mode : Mode) (b : Bool) → parent_mode (cond b mode (parent_mode mode)) ≡ parent_mode mode
asks_self mode true = refl
asks_self mode false = parent_twice mode

module _ (c : OnConflict) (t : ℕ) (target : Granule) (mode : Mode) (limit : ℕ) where
  fit_case : EachCase c t target mode limit (λ way rs out. Fit rs → is_waiting t rs ≡ false → Fit out.requests)
  fit_case = record {
    over = λ rs fit quiet. fit;
    spared = λ g below rs e fit quiet. fit;
    full = λ g below rs e fit quiet. fit;
    waits = λ g below rs o is s fit quiet. Fit-placed t g (asked_of target mode g) rs fit quiet;
    blocked = λ g below rs o is s fit quiet. fit;
    holds = λ g below rs e on fit quiet. on fit quiet;
    grants = λ g below rs e f s on fit quiet. on (Fit-grant t g (asked_of target mode g) rs fit s) (quiet_grant limit t g (asked_of target mode g) rs fit.one quiet e f s);
  }

  pub fit_after : (way : List Granule) (rs : List Request) → Fit rs → is_waiting t rs ≡ false → Fit (walk_on c t target mode limit way rs).requests
  fit_after = of_walk c t target mode limit (λ way rs out. Fit rs → is_waiting t rs ≡ false → Fit out.requests) fit_case

  stays_case : EachCase c t target mode limit (λ way rs out. Fit rs → is_waiting t rs ≡ false → Stays Each rs out.requests)
  stays_case = record {
    over = λ rs fit quiet. stays-self Each rs;
    spared = λ g below rs e fit quiet. stays-self Each rs;
    full = λ g below rs e fit quiet. stays-self Each rs;
    waits = λ g below rs o is s fit quiet. stays_placed Each t g (asked_of target mode g) rs fit.one;
    blocked = λ g below rs o is s fit quiet. stays-self Each rs;
    holds = λ g below rs e on fit quiet. on fit quiet;
    grants = λ g below rs e f s on fit quiet.
        stays-on Each rs (after_grant t g (asked_of target mode g) rs) (walk_on c t target mode limit below (after_grant t g (asked_of target mode g) rs)).requests
        (stays_grant Each t g (asked_of target mode g) rs fit s)
        (on (Fit-grant t g (asked_of target mode g) rs fit s) (quiet_grant limit t g (asked_of target mode g) rs fit.one quiet e f s));
  }

  pub stays_after : (way : List Granule) (rs : List Request) → Fit rs → is_waiting t rs ≡ false → Stays Each rs (walk_on c t target mode limit way rs).requests
  stays_after = of_walk c t target mode limit (λ way rs out. Fit rs → is_waiting t rs ≡ false → Stays Each rs out.requests) stays_case

  -- the transaction does not wait, unless it is told so
  quiet_case : EachCase c t target mode limit (λ way rs out. Fit rs → is_waiting t rs ≡ false → ((g : Granule) → out.answer ≡ Ok (acquire.Waiting g) → ⊥) → is_waiting t out.requests ≡ false)
  quiet_case = record {
    over = λ rs fit quiet never. quiet;
    spared = λ g below rs e fit quiet never. quiet;
    full = λ g below rs e fit quiet never. quiet;
    waits = λ g below rs o is s fit quiet never. absurd (never g refl);
    blocked = λ g below rs o is s fit quiet never. quiet;
    holds = λ g below rs e on fit quiet never. on fit quiet never;
    grants = λ g below rs e f s on fit quiet never.
        on (Fit-grant t g (asked_of target mode g) rs fit s) (quiet_grant limit t g (asked_of target mode g) rs fit.one quiet e f s) never;
  }

  pub quiet_after : (way : List Granule) (rs : List Request) → Fit rs → is_waiting t rs ≡ false
      → ((g : Granule) → (walk_on c t target mode limit way rs).answer ≡ Ok (acquire.Waiting g) → ⊥) → is_waiting t (walk_on c t target mode limit way rs).requests ≡ false
  quiet_after =
      of_walk c t target mode limit (λ way rs out. Fit rs → is_waiting t rs ≡ false → ((g : Granule) → out.answer ≡ Ok (acquire.Waiting g) → ⊥) → is_waiting t out.requests ≡ false) quiet_case

  -- what is held of a granule stays, or has the mode joined that is asked there
  abbrev Grows : List Granule → List Request → List Request → Type 0
  Grows way rs new =
      (k : Granule) → (mode_held t k new ≡ mode_held t k rs) ⊎ (In k way × (mode_held t k new ≡ Some (wanted_mode (mode_held t k rs) (asked_of target mode k))))

  later : (g : Granule) (below : List Granule) (rs new : List Request) → Grows below rs new → Grows (g ∷ below) rs new
  later g below rs new grows k = ⊎_elim (λ same. inl same) (λ a. inr (inr a.0, a.1)) (grows k)

  then_grows : (g : Granule) (below : List Granule) (rs mid new : List Request)
      → ((k : Granule) → (mode_held t k mid ≡ mode_held t k rs) ⊎ ((g ≡ k) × (mode_held t k mid ≡ Some (wanted_mode (mode_held t k rs) (asked_of target mode g)))))
      → Grows below mid new → Grows (g ∷ below) rs new
  then_grows g below rs mid new first grows k =
      ⊎_elim
      (λ same. ⊎_elim (λ still. inl (still ∙ same)) (λ a. inr (inr a.0, a.1 ∙ ap (λ h. Some (wanted_mode h (asked_of target mode k))) same)) (grows k))
      (λ grown.
      let now : mode_held t k mid ≡ Some (wanted_mode (mode_held t k rs) (asked_of target mode k)) = grown.1 ∙ ap (λ h. Some (wanted_mode (mode_held t k rs) (asked_of target mode h))) grown.0 in
      inr (
        inl grown.0,
        ⊎_elim (λ still. still ∙ now)
            (λ a. a.1 ∙ ap (λ h. Some (wanted_mode h (asked_of target mode k))) now ∙ ap Some (aim_twice (mode_held t k rs) (asked_of target mode k))) (grows k),
      ))
      (first k)

  grows_case : EachCase c t target mode limit (λ way rs out. Fit rs → is_waiting t rs ≡ false → Grows way rs out.requests)
  grows_case = record {
    over = λ rs fit quiet k. inl refl;
    spared = λ g below rs e fit quiet k. inl refl;
    full = λ g below rs e fit quiet k. inl refl;
    waits = λ g below rs o is s fit quiet k. inl (held_placed t g (asked_of target mode g) rs fit.one k);
    blocked = λ g below rs o is s fit quiet k. inl refl;
    holds = λ g below rs e on fit quiet. later g below rs (walk_on c t target mode limit below rs).requests (on fit quiet);
    grants = λ g below rs e f s on fit quiet.
        then_grows g below rs (after_grant t g (asked_of target mode g) rs) (walk_on c t target mode limit below (after_grant t g (asked_of target mode g) rs)).requests
        (held_grant t g (asked_of target mode g) rs fit.one quiet)
        (on (Fit-grant t g (asked_of target mode g) rs fit s) (quiet_grant limit t g (asked_of target mode g) rs fit.one quiet e f s));
  }

  pub grows_after : (way : List Granule) (rs : List Request) → Fit rs → is_waiting t rs ≡ false → Grows way rs (walk_on c t target mode limit way rs).requests
  grows_after = of_walk c t target mode limit (λ way rs out. Fit rs → is_waiting t rs ≡ false → Grows way rs out.requests) grows_case

  -- ---- intentions

  -- the granules walked are held in the parent mode
  abbrev Intended : List Granule → List Request → Type 0
  Intended walked rs = (a : Granule) → In a walked → same_granule a target ≡ false → is_enough (parent_mode mode) (mode_held t a rs) ≡ true

  asks_above : (g : Granule) (walked : List Granule) (rs : List Request) → ((a : Granule) → In a (ancestors g) → In a walked × (same_granule a target ≡ false)) → Intended walked rs
      → Above rs t g (asked_of target mode g)
  asks_above g walked rs order held a above =
      let o = order a above in
      subst (λ m. is_enough m (mode_held t a rs) ≡ true) (sym (asks_self mode (same_granule g target))) (held a o.0 o.1)

  asks_parent : (g : Granule) → same_granule g target ≡ false → asked_of target mode g ≡ parent_mode mode
  asks_parent g other = rw other refl

  intended_now : (g : Granule) (walked : List Granule) (rs : List Request) → is_enough (asked_of target mode g) (mode_held t g rs) ≡ true → Intended walked rs → Intended (g ∷ walked) rs
  intended_now g walked rs e held a h other =
      ⊎_elim
      (λ same. subst (λ k. is_enough (parent_mode mode) (mode_held t k rs) ≡ true) same
      (subst (λ m. is_enough m (mode_held t g rs) ≡ true) (asks_parent g (subst (λ k. same_granule k target ≡ false) (sym same) other)) e))
      (λ t. held a t other)
      h

  abbrev KeepsRooted : List Granule → List Request → List Request → Type 0
  KeepsRooted way rs new = Fit rs → is_waiting t rs ≡ false → Rooted Each rs → (walked : List Granule) → InOrder target walked way → Intended walked rs → Rooted Each new

  rooted_case : EachCase c t target mode limit (λ way rs out. KeepsRooted way rs out.requests)
  rooted_case = record {
    over = λ rs fit quiet rooted walked order held. rooted;
    spared = λ g below rs e fit quiet rooted walked order held. rooted;
    full = λ g below rs e fit quiet rooted walked order held. rooted;
    waits = λ g below rs o is s fit quiet rooted walked order held.
        rooted_placed Each t g (asked_of target mode g) rs fit.one rooted (asks_above g walked rs order.0 held);
    blocked = λ g below rs o is s fit quiet rooted walked order held. rooted;
    holds = λ g below rs e on fit quiet rooted walked order held. on fit quiet rooted (g ∷ walked) order.1 (intended_now g walked rs e held);
    grants = λ g below rs e f s on fit quiet rooted walked order held.
        let new = after_grant t g (asked_of target mode g) rs in
        let fits = Fit-grant t g (asked_of target mode g) rs fit s in
        on fits (quiet_grant limit t g (asked_of target mode g) rs fit.one quiet e f s)
        (rooted_grant Each t g (asked_of target mode g) rs fit s rooted (asks_above g walked rs order.0 held)) (g ∷ walked) order.1
        (intended_now g walked (after_grant t g (asked_of target mode g) rs) (held_after_grant t g (asked_of target mode g) rs fit.one)
        (λ a h other. still_enough rs (after_grant t g (asked_of target mode g) rs) fits.one (stays_grant Each t g (asked_of target mode g) rs fit s) t a (parent_mode mode) (held a h other)));
  }

  pub rooted_after_walk : (way : List Granule) (rs : List Request) → KeepsRooted way rs (walk_on c t target mode limit way rs).requests
  rooted_after_walk = of_walk c t target mode limit (λ way rs out. KeepsRooted way rs out.requests) rooted_case
