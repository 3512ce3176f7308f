-- What the answer of a walk says.
use Rattle.std.proofs.Common.{◌≡◌, inl, inr, ℕ, List, [], ◌∷◌, true, false, Some, refl, sym, subst}
use Rattle.std.specs.Prelude.{not, IsTrue, Ok, IfErr}
use Rattle.shore_types.specs.declared.locking.Granule.{Granule}
use Rattle.shore_types.specs.declared.locking.Mode.{Mode}
use Rattle.shore_types.specs.Locking.{same_granule}
use Rattle.shore_model.specs.declared.requests.Request.{Request}
use Rattle.shore_model.specs.Locks.{ancestors, path}
use Rattle.shore_model.specs.Requests.{WaitsFor, placed_last}
use Rattle.shore_locks.specs.Grants.{after_grant, asking, is_enough, is_full, obstacle}
use Rattle.shore_locks.specs.Tables.{is_waiting, mode_held}
use Rattle.shore_locks.proofs.Members.{In}
use Rattle.shore_locks.proofs.Keys.{same_granule-Decides}
use Rattle.shore_locks.proofs.Fits.{Fit, no_of}
use Rattle.shore_locks.proofs.Entering.{both_true}
use Rattle.shore_locks.proofs.Outcomes.{any_from, held_after_grant, waits_for_obstacle}
use Rattle.shore_path.specs.declared.answers.Acquired.TheVariants as acquire
use Rattle.shore_path.specs.declared.answers.OnConflict.{OnConflict}
use Rattle.shore_path.specs.declared.answers.OnConflict.TheVariants.{Wait}
use Rattle.shore_path.specs.Walks.{asked_of, is_covered}
use Rattle.shore_path.specs.Acquires.{IsReached, MayRefuse, WaitsAt}
use Rattle.shore_path.proofs.Growing.{Fit-grant, held_placed, quiet_grant, waits_placed}
use Rattle.shore_path.proofs.Walking.{EachCase, of_walk, table_of, walk_on}
use Rattle.shore_path.proofs.Ways.{EndsIn, OnPathOf, is_ancestor}

ends_on : (target g : Granule) (below : List Granule) → EndsIn target (g ∷ below) → EndsIn target below
ends_on target g [] e = tt
ends_on target g (h ∷ below) e = e

ends_here : (target g : Granule) (below : List Granule) → EndsIn target (g ∷ below) → below ≡ [] → g ≡ target
ends_here target g [] e none = e
ends_here target g (h ∷ below) e none = cc

asks_itself : (target : Granule) (mode : Mode) → asked_of target mode target ≡ mode
asks_itself target mode = let yes : same_granule target target ≡ true = (same_granule-Decides target target).1 refl in rw yes refl

-- a transaction that begins to wait
waits_now : (t : ℕ) (g : Granule) (m : Mode) (rs : List Request) (o : Request) → Fit rs → is_waiting t rs ≡ false → obstacle (asking t g m rs) rs ≡ Some o → WaitsAt (placed_last (asking t g m rs) rs) t g m
waits_now t g m rs o fit quiet stopped = record {
  request = asking t g m rs;
  waits = waits_placed t g m rs quiet;
  at = refl;
  held = sym (held_placed t g m rs fit.one g);
  wanted = refl;
  someone = o.txn;
  waits_for = waits_for_obstacle t g m rs o stopped;
}

module _ (c : OnConflict) (t : ℕ) (target : Granule) (mode : Mode) (limit : ℕ) where
  abbrev Waits : List Granule → List Request → Granule → Type 0
  Waits way new g = (c ≡ Wait) × In g way × WaitsAt new t g (asked_of target mode g)

  later : (h : Granule) (below : List Granule) (new : List Request) (g : Granule) → Waits below new g → Waits (h ∷ below) new g
  later h below new g w = (w.0, inr w.1, w.2)

  waits_case : EachCase c t target mode limit (λ way rs out. Fit rs → is_waiting t rs ≡ false → (g : Granule) → out.answer ≡ Ok (acquire.Waiting g) → Waits way out.requests g)
  waits_case = record {
    over = λ rs fit quiet g e. cc;
    spared = λ h below rs s fit quiet g e. cc;
    full = λ h below rs s fit quiet g e. cc;
    waits = λ h below rs o is s fit quiet g e.
        let same : h ≡ g = cc in
        subst (Waits (h ∷ below) (placed_last (asking t h (asked_of target mode h) rs) rs)) same (is, inl refl, waits_now t h (asked_of target mode h) rs o fit quiet s);
    blocked = λ h below rs o is s fit quiet g e. cc;
    holds = λ h below rs s on fit quiet g e. later h below (walk_on c t target mode limit below rs).requests g (on fit quiet g e);
    grants = λ h below rs e f s on fit quiet g is.
        later h below (walk_on c t target mode limit below (after_grant t h (asked_of target mode h) rs)).requests g
        (on (Fit-grant t h (asked_of target mode h) rs fit s) (quiet_grant limit t h (asked_of target mode h) rs fit.one quiet e f s) g is);
  }

  pub waits_after : (way : List Granule) (rs : List Request) → Fit rs → is_waiting t rs ≡ false → (g : Granule) → (walk_on c t target mode limit way rs).answer ≡ Ok (acquire.Waiting g)
      → Waits way (walk_on c t target mode limit way rs).requests g
  waits_after =
      of_walk c t target mode limit (λ way rs out. Fit rs → is_waiting t rs ≡ false → (g : Granule) → out.answer ≡ Ok (acquire.Waiting g) → Waits way out.requests g) waits_case

  refused_case : EachCase c t target mode limit (λ way rs out. OnPathOf target way → IfErr out.answer (MayRefuse c (table_of c t target mode limit out.requests) t target mode))
  refused_case = record {
    over = λ rs on. tt;
    spared = λ g below rs s on. tt;
    full = λ g below rs s on. any_from (λ k. IsTrue (is_full (table_of c t target mode limit rs) t k)) (path target) g (on g (inl refl)) s;
    waits = λ g below rs o is s on. tt;
    blocked = λ g below rs o is s on. (
      is,
      any_from (λ k. WaitsFor (placed_last (asking t k (asked_of target mode k) rs) rs) t o.txn) (path target) g (on g (inl refl)) (waits_for_obstacle t g (asked_of target mode g) rs o s),
    );
    holds = λ g below rs s then on. then (λ k h. on k (inr h));
    grants = λ g below rs e f s then on. then (λ k h. on k (inr h));
  }

  pub refused_after : (way : List Granule) (rs : List Request) → OnPathOf target way
      → IfErr (walk_on c t target mode limit way rs).answer (MayRefuse c (table_of c t target mode limit (walk_on c t target mode limit way rs).requests) t target mode)
  refused_after = of_walk c t target mode limit (λ way rs out. OnPathOf target way → IfErr out.answer (MayRefuse c (table_of c t target mode limit out.requests) t target mode)) refused_case

  abbrev HoldsTarget : List Request → Type 0
  HoldsTarget rs = is_enough mode (mode_held t target rs) ≡ true

  holds_last : (g : Granule) (below : List Granule) (rs : List Request) → EndsIn target (g ∷ below) → is_enough (asked_of target mode g) (mode_held t g rs) ≡ true → below ≡ [] → HoldsTarget rs
  holds_last g below rs ends e none =
      let here = ends_here target g below ends none in
      subst (λ m. is_enough m (mode_held t target rs) ≡ true) (asks_itself target mode)
      (subst (λ k. is_enough (asked_of target mode k) (mode_held t k rs) ≡ true) here e)

  abbrev Reaches : List Granule → List Request → List Request → Type 0
  Reaches way rs new = Fit rs → is_waiting t rs ≡ false → OnPathOf target way → EndsIn target way → (way ≡ [] → HoldsTarget rs) → IsReached new t target mode

  done_case : EachCase c t target mode limit (λ way rs out. out.answer ≡ Ok acquire.Done → Reaches way rs out.requests)
  done_case = record {
    over = λ rs e fit quiet on ends start. inl (start refl);
    spared = λ g below rs s e fit quiet on ends start.
        let parts = both_true (not (same_granule g target)) (is_covered mode (mode_held t g rs)) s in
        inr (any_from (λ k. IsTrue (is_covered mode (mode_held t k rs))) (ancestors target) g (is_ancestor target g (on g (inl refl)) (no_of (same_granule g target) parts.0)) parts.1);
    full = λ g below rs s e fit quiet on ends start. cc;
    waits = λ g below rs o is s e fit quiet on ends start. cc;
    blocked = λ g below rs o is s e fit quiet on ends start. cc;
    holds = λ g below rs s then e fit quiet on ends start. then e fit quiet (λ k h. on k (inr h)) (ends_on target g below ends) (holds_last g below rs ends s);
    grants = λ g below rs e f s then is fit quiet on ends start.
        then is (Fit-grant t g (asked_of target mode g) rs fit s) (quiet_grant limit t g (asked_of target mode g) rs fit.one quiet e f s) (λ k h. on k (inr h)) (ends_on target g below ends)
        (holds_last g below (after_grant t g (asked_of target mode g) rs) ends (held_after_grant t g (asked_of target mode g) rs fit.one));
  }

  pub done_after : (way : List Granule) (rs : List Request) → (walk_on c t target mode limit way rs).answer ≡ Ok acquire.Done → Reaches way rs (walk_on c t target mode limit way rs).requests
  done_after = of_walk c t target mode limit (λ way rs out. out.answer ≡ Ok acquire.Done → Reaches way rs out.requests) done_case
