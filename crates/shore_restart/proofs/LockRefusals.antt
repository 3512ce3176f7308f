-- Why one in doubt is refused a lock: it clashes with one before it, or all their locks have more nodes than there may be.
use Rattle.std.proofs.Common.{◌≡◌, ◌≢◌, ◌⊎◌, ◌<◌, ◌≤◌, ◌++◌, ◌∷◌, [], ℕ, List, Option, None, Some, Bool, true, false, inl, inr, refl, sym, ap, subst, ◌∙◌, length, map, take, drop, get_or, arith}
use Rattle.std.specs.Prelude.{◌==◌, ◌&&◌, ◌||◌, All, Contains, IsSomeAnd, IsTrue, is_some, nat_lt, not}
use Rattle.std.proofs.lemmas.Bool.{cases_eq, cases_lt, eq-eqb, lt-ltb}
use Rattle.std.proofs.lemmas.List.{length-map, take-append-drop}
use Rattle.shore_types.specs.declared.faults.Fault.{Fault}
use Rattle.shore_types.specs.declared.faults.Fault.TheVariants as fault
use Rattle.shore_types.specs.declared.locking.Granule.{Granule}
use Rattle.shore_types.specs.declared.locking.Mode.{Mode}
use Rattle.shore_types.specs.declared.locking.Mode.TheVariants.{EX, IX}
use Rattle.shore_model.specs.Locks.{ancestors, path}
use Rattle.shore_model.specs.Modes.{grants}
use Rattle.shore_locks.specs.Grants.{is_enough, wanted_mode}
use Rattle.shore_locks.specs.Tables.{Table, mode_held}
use Rattle.shore_types.specs.Locking.{same_granule}
use Rattle.shore_model.specs.declared.holds.Hold.{Hold}
use Rattle.shore_model.specs.declared.requests.Request.{Request}
use Rattle.shore_model.specs.Requests.{AreRequests, are_alike, held_by_all}
use Rattle.shore_locks.specs.Grants.{is_full}
use Rattle.shore_locks.specs.Orderly.{IsOfUse, IsOrderly}
use Rattle.shore_locks.specs.Tables.{request_for}
use Rattle.shore_locks.proofs.Entering.{request_in}
use Rattle.shore_locks.proofs.Keys.{same_granule-Decides}
use Rattle.shore_locks.proofs.Members.{Contains-In, In, In-All, In-Contains, In-left, either}
use Rattle.shore_path.specs.Restoring.{IsInTheWay, IsRefused, NobodyWaits, StopsAmong, TakesIntentions}
use Rattle.shore_path.specs.Walks.{asked_of}
use Rattle.shore_path.proofs.Holding.{held_as}
use Rattle.shore_path.proofs.Restored.{wants_none}
use Rattle.shore_path.proofs.RestoredPaths.{not_above_itself}
use Rattle.laws_lives.specs.Doubts.{LoggedDoubt, NeedMore, locks_for, locks_under, node_of, restored_locks}
use Rattle.laws_lives.specs.Sessions.{EachOnce}
use Rattle.laws_lives.specs.Views.{IsAmong}
use Rattle.shore_restart.specs.Doubts.{AreLocksOf, Clash, HasNoPlace, IsLockOf}
use Rattle.shore_restart.proofs.Locks.{HeldAs, as_modes, at_end, before_end, hold_as, in_list, the_end, with_granules}

-- the lock of another is one of those before it
module _ (before : List LoggedDoubt) (d : LoggedDoubt) (done : List Granule) where
  pub of_before : (holder : ℕ) (g : Granule) (m : Mode) → holder ≢ d.txn → IsLockOf (before ++ with_granules d done ∷ []) (hold_as holder g m) → IsLockOf before (hold_as holder g m)
  of_before holder g m other (e, k, among, by, names, how) = elim (at_end before (with_granules d done) e among) [
    | inl there ↦ (e, k, there, by, names, how)
    | inr same ↦ absurd (other (by ∙ ap (λ (it : LoggedDoubt). it.txn) (sym same)))
  ]

-- it is in the way at the granule itself, whatever it has there
pub clash_at : (before : List LoggedDoubt) (d : LoggedDoubt) (g : Granule) (holder : ℕ) (m : Mode) → Contains d.granules g → IsLockOf before (hold_as holder g m)
    → (e : LoggedDoubt) × IsAmong e before × Clash e d
clash_at before d g holder m names (e, k, among, by, named, how) = (
  e,
  among,
  inr (
    k,
    g,
    named,
    names,
    inl (elim how [
      | inl ex ↦ (0, omega arith, sym ex.1)
      | inr ix ↦ In-Contains (path k) g (inr (Contains-In (ancestors k) g ix.1))
    ]),
  ),
)

-- .. and above it if it does not grant IX there
pub clash_above : (before : List LoggedDoubt) (d : LoggedDoubt) (g a : Granule) (holder : ℕ) (m : Mode) → Contains d.granules g → Contains (ancestors g) a → grants m IX ≡ false → IsLockOf before (hold_as holder a m)
    → (e : LoggedDoubt) × IsAmong e before × Clash e d
clash_above before d g a holder m names above refuses (e, k, among, by, named, inl ex) =
    (e, among, inr (k, g, named, names, inr (subst (Contains (path g)) ex.1 (In-Contains (path g) a (inr (Contains-In (ancestors g) a above))))))
clash_above before d g a holder m names above refuses (e, k, among, by, named, inr ix) =
    let grants_it : grants m IX ≡ true = ap (λ (n : Mode). grants n IX) ix.0 in let clash : true ≡ false = sym grants_it ∙ refuses in cc

-- what one holds where it has not enough is nothing, if it has EX or IX there
pub holds_none : (ds : List LoggedDoubt) (t : ℕ) (a : Granule) (o : Option Mode) → is_enough IX o ≡ false → ((m : Mode) → o ≡ Some m → IsLockOf ds (hold_as t a m)) → o ≡ None
holds_none ds t a None less each = refl
holds_none ds t a (Some m) less each =
    let lock = each m refl in
    let enough : is_enough IX (Some m) ≡ true = elim lock.5 [
      | inl ex ↦ ap (λ (n : Mode). is_enough IX (Some n)) ex.0
      | inr ix ↦ ap (λ (n : Mode). is_enough IX (Some n)) ix.0
    ] in
    let clash : true ≡ false = sym enough ∙ less in cc

-- ---- somebody is in the way

module _ (before : List LoggedDoubt) (d : LoggedDoubt) (done : List Granule) (g : Granule) (rs new : List Request) (at : Granule) (names : Contains d.granules g) (taken : TakesIntentions rs new d.txn (ancestors at))
    (held : HeldAs (before ++ with_granules d done ∷ []) rs) where
  own_before : (m : Mode) → mode_held d.txn at new ≡ Some m → IsLockOf (before ++ with_granules d done ∷ []) (hold_as d.txn at m)
  own_before m is = held.each d.txn at m (sym (taken.rest d.txn at (λ mine on. not_above_itself at (Contains-In (ancestors at) at on))) ∙ is)

  by_holder : (mode : Mode) → (g ≡ at) ⊎ (Contains (ancestors g) at × (mode ≡ IX)) → (holder : ℕ) → holder ≢ d.txn → is_enough mode (mode_held d.txn at new) ≡ false → (o : Option Mode) → mode_held holder at new ≡ o
      → IsSomeAnd o (λ m. grants m (wanted_mode (mode_held d.txn at new) mode) ≡ false) → (e : LoggedDoubt) × IsAmong e before × Clash e d
  by_holder mode where_it holder other less None is refuses = absurd refuses
  by_holder mode where_it holder other less (Some m) is refuses =
      let lock = of_before before d done holder at m other (held.each holder at m (sym (taken.rest holder at (λ mine on. absurd (other mine))) ∙ is)) in
      elim where_it [
        | inl same ↦ clash_at before d g holder m names (subst (λ (h : Granule). IsLockOf before (hold_as holder h m)) (sym same) lock)
        | inr above ↦
            let own : mode_held d.txn at new ≡ None =
            holds_none (before ++ with_granules d done ∷ []) d.txn at (mode_held d.txn at new) (subst (λ (n : Mode). is_enough n (mode_held d.txn at new) ≡ false) above.1 less) own_before in
            let wanted : wanted_mode (mode_held d.txn at new) mode ≡ IX = ap (λ (o : Option Mode). wanted_mode o mode) own ∙ above.1 in
            clash_above before d g at holder m names above.0 (sym (ap (grants m) wanted) ∙ refuses) lock
      ]

  pub in_the_way : (mode : Mode) → (g ≡ at) ⊎ (Contains (ancestors g) at × (mode ≡ IX)) → (holder : ℕ) → IsInTheWay new d.txn at mode holder → (e : LoggedDoubt) × IsAmong e before × Clash e d
  in_the_way mode where_it holder way = by_holder mode where_it holder way.other way.less (mode_held holder at new) refl way.refuses

-- what is asked on a path of EX: EX of its granule, and IX above
pub asked_there : (g at : Granule) → Contains (path g) at → (g ≡ at) ⊎ (Contains (ancestors g) at × (asked_of g EX at ≡ IX))
asked_there g at on = elim (Contains-In (path g) at on) [
  | inl same ↦ inl same
  | inr above ↦ inr (
    In-Contains (ancestors g) at above,
    elim (either (same_granule at g)) [
      | inl same ↦ absurd (not_above_itself g (subst (λ (h : Granule). In h (ancestors g)) ((same_granule-Decides at g).0 same) above))
      | inr apart ↦ rw apart refl
    ],
  )
]

-- ---- nodes

abbrev pub node_for : Request → ℕ × Granule
node_for r = (r.txn, r.granule)

among_map : {A B : Type 0} (f : A → B) (xs : List A) (y : B) → IsAmong y (map f xs) → (x : A) × IsAmong x xs × (f x ≡ y)
among_map f [] y none = absurd none
among_map f (x ∷ xs) y (inl same) = (x, inl refl, same)
among_map f (x ∷ xs) y (inr there) = let later = among_map f xs y there in (later.0, inr later.1, later.2)

map_among : {A B : Type 0} (f : A → B) (xs : List A) (x : A) → IsAmong x xs → IsAmong (f x) (map f xs)
map_among f [] x none = absurd none
map_among f (y ∷ xs) x (inl same) = inl (ap f same)
map_among f (y ∷ xs) x (inr there) = inr (map_among f xs x there)

pub in_among : {A : Type 0} (xs : List A) (x : A) → In x xs → IsAmong x xs
in_among [] x none = none
in_among (y ∷ xs) x (inl same) = inl same
in_among (y ∷ xs) x (inr there) = inr (in_among xs x there)

among_in : {A : Type 0} (xs : List A) (x : A) → IsAmong x xs → In x xs
among_in [] x none = none
among_in (y ∷ xs) x (inl same) = inl same
among_in (y ∷ xs) x (inr there) = inr (among_in xs x there)

among_left : {A : Type 0} (xs ys : List A) (x : A) → IsAmong x xs → IsAmong x (xs ++ ys)
among_left [] ys x none = absurd none
among_left (y ∷ xs) ys x (inl same) = inl same
among_left (y ∷ xs) ys x (inr there) = inr (among_left xs ys x there)

among_right : {A : Type 0} (xs ys : List A) (x : A) → IsAmong x ys → IsAmong x (xs ++ ys)
among_right [] ys x there = there
among_right (y ∷ xs) ys x there = inr (among_right xs ys x there)

-- ---- a lock has its node among those of all of them

under : (t : ℕ) (g a : Granule) → (g ≡ a) ⊎ Contains (ancestors g) a → (l : Hold) × IsAmong l (locks_under t g) × (node_of l ≡ (t, a))
under t g a (inl same) = (hold_as t g EX, inl refl, ap (λ (k : Granule). (t, k)) same)
under t g a (inr above) = (hold_as t a IX, inr (map_among (λ (b : Granule). hold_as t b IX) (ancestors g) a (in_among (ancestors g) a (Contains-In (ancestors g) a above))), refl)

for_each : (t : ℕ) (gs : List Granule) (g : Granule) (l : Hold) → In g gs → IsAmong l (locks_under t g) → IsAmong l (locks_for t gs)
for_each t [] g l none there = absurd none
for_each t (k ∷ gs) g l (inl same) there = among_left (locks_under t k) (locks_for t gs) l (subst (λ (h : Granule). IsAmong l (locks_under t h)) (sym same) there)
for_each t (k ∷ gs) g l (inr later) there = among_right (locks_under t k) (locks_for t gs) l (for_each t gs g l later there)

in_all : (ds : List LoggedDoubt) (d : LoggedDoubt) (l : Hold) → IsAmong d ds → IsAmong l (locks_for d.txn d.granules) → IsAmong l (restored_locks ds)
in_all [] d l none there = absurd none
in_all (e ∷ ds) d l (inl same) there =
    among_left (locks_for e.txn e.granules) (restored_locks ds) l (subst (λ (it : LoggedDoubt). IsAmong l (locks_for it.txn it.granules)) (sym same) there)
in_all (e ∷ ds) d l (inr later) there = among_right (locks_for e.txn e.granules) (restored_locks ds) l (in_all ds d l later there)

pub node_of_lock : (ds : List LoggedDoubt) (t : ℕ) (a : Granule) (m : Mode) → IsLockOf ds (hold_as t a m) → IsAmong (t, a) (map node_of (restored_locks ds))
node_of_lock ds t a m (d, g, among, by, names, how) =
    let place : (g ≡ a) ⊎ Contains (ancestors g) a = elim how [ inl ex ↦ inl (sym ex.1) | inr ix ↦ inr ix.1 ] in
    let (l, there, is) = under d.txn g a place in
    let node : node_of l ≡ (t, a) = is ∙ ap (λ (u : ℕ). (u, a)) (sym by) in
    subst (λ (x : ℕ × Granule). IsAmong x (map node_of (restored_locks ds))) node
    (map_among node_of (restored_locks ds) l (in_all ds d l among (for_each d.txn d.granules g l (Contains-In d.granules g names) there)))

-- ---- too many nodes

-- each request has a node of its own
apart_nodes : (r : Request) (rs : List Request) → All (λ other. are_alike r other ≡ false) rs → IsAmong (node_for r) (map node_for rs) → ⊥
apart_nodes r rs apart there =
    let (q, among, is) = among_map node_for rs (node_for r) there in
    let txn : q.txn ≡ r.txn = ap (λ (x : ℕ × Granule). x.0) is in
    let granule : q.granule ≡ r.granule = ap (λ (x : ℕ × Granule). x.1) is in
    let alike : are_alike r q ≡ true = rw txn (rw granule (alike_itself r.txn r.granule)) in
    let differ : are_alike r q ≡ false = In-All (λ (other : Request). are_alike r other ≡ false) rs q apart (among_in rs q among) in
    let clash : true ≡ false = sym alike ∙ differ in cc
  where
    alike_itself : (t : ℕ) (g : Granule) → ((t == t) && same_granule g g) ≡ true
    alike_itself t g = rw (eq-eqb t t refl) ((same_granule-Decides g g).1 refl)

pub once : (rs : List Request) → AreRequests rs → EachOnce (map node_for rs)
once [] one = tt
once (r ∷ rs) one = (apart_nodes r rs one.0, once rs one.1)

-- what lies above a granule of a path lies above the path's own
pub above_too : (g at a : Granule) → Contains (path g) at → Contains (ancestors at) a → Contains (ancestors g) a
above_too g at a on above = In-Contains (ancestors g) a (each g (Contains-In (path g) at on) (Contains-In (ancestors at) a above))
  where
    each : (g : Granule) → In at (path g) → In a (ancestors at) → In a (ancestors g)
    each g (inl same) it = subst (λ (h : Granule). In a (ancestors h)) (sym same) it
    each Granule.Volume (inr none) it = absurd none
    each (Granule.Store s) (inr (inl same)) it = absurd (subst (λ (h : Granule). In a (ancestors h)) (sym same) it)
    each (Granule.Store s) (inr (inr none)) it = absurd none
    each (Granule.Page p) (inr (inl same)) it = inr (subst (λ (h : Granule). In a (ancestors h)) (sym same) it)
    each (Granule.Page p) (inr (inr (inl same))) it = absurd (subst (λ (h : Granule). In a (ancestors h)) (sym same) it)
    each (Granule.Page p) (inr (inr (inr none))) it = absurd none
    each (Granule.Record r) (inr (inl same)) it = inr (subst (λ (h : Granule). In a (ancestors h)) (sym same) it)
    each (Granule.Record r) (inr (inr (inl same))) it = inr (inr (subst (λ (h : Granule). In a (ancestors h)) (sym same) it))
    each (Granule.Record r) (inr (inr (inr (inl same)))) it = absurd (subst (λ (h : Granule). In a (ancestors h)) (sym same) it)
    each (Granule.Record r) (inr (inr (inr (inr none)))) it = absurd none

module _ (before : List LoggedDoubt) (d : LoggedDoubt) (done : List Granule) (g : Granule) (rs new : List Request) (at : Granule) (names : Contains d.granules g) (on : Contains (path g) at)
    (covers : (h : Granule) → Contains done h → Contains d.granules h) (taken : TakesIntentions rs new d.txn (ancestors at)) (held : HeldAs (before ++ with_granules d done ∷ []) rs) where
  -- what it has so far is part of what it names
  whole : (t : ℕ) (h : Granule) (m : Mode) → IsLockOf (before ++ with_granules d done ∷ []) (hold_as t h m) → IsLockOf (before ++ d ∷ []) (hold_as t h m)
  whole t h m (e, k, among, by, named, how) = elim (at_end before (with_granules d done) e among) [
    | inl there ↦ (e, k, before_end before d e there, by, named, how)
    | inr same ↦ (d, k, the_end before d, by ∙ ap (λ (it : LoggedDoubt). it.txn) (sym same), covers k (subst (λ (it : LoggedDoubt). Contains it.granules k) (sym same) named), how)
  ]

  locked : (t : ℕ) (h : Granule) (m : Mode) → mode_held t h new ≡ Some m → IsAmong (t, h) (map node_of (restored_locks (before ++ d ∷ [])))
  locked t h m is = elim (cases_eq t d.txn) [
    | inl mine ↦ elim (in_list (ancestors at) h) [
      | inl above ↦
          subst (λ (u : ℕ). IsAmong (u, h) (map node_of (restored_locks (before ++ d ∷ [])))) (sym mine)
          (node_of_lock (before ++ d ∷ []) d.txn h IX (d, g, the_end before d, refl, names, inr (refl, above_too g at h on above)))
      | inr none ↦ node_of_lock (before ++ d ∷ []) t h m (whole t h m (held.each t h m (sym (taken.rest t h (λ own above. none above)) ∙ is)))
    ]
    | inr other ↦ node_of_lock (before ++ d ∷ []) t h m (whole t h m (held.each t h m (sym (taken.rest t h (λ own above. absurd (other own))) ∙ is)))
  ]

  module _ (orderly : IsOrderly new) (nobody : NobodyWaits new) where
    holds_some : (o w : Option Mode) → IsTrue (is_some o || is_some w) → is_some w ≡ false → (m : Mode) × (o ≡ Some m)
    holds_some (Some m) w of_use none = (m, refl)
    holds_some None None of_use none = let clash : false ≡ true = of_use in cc
    holds_some None (Some w) of_use none = cc

    node_there : (x : ℕ × Granule) → IsAmong x (map node_for new) → IsAmong x (map node_of (restored_locks (before ++ d ∷ [])))
    node_there x there =
        let (r, among, is) = among_map node_for new x there in
        let it = among_in new r among in
        let of_use : IsOfUse r = In-All IsOfUse new r orderly.of_use it in
        let (m, held_is) = holds_some r.held r.wanted of_use (wants_none new nobody r it) in
        subst (λ (y : ℕ × Granule). IsAmong y (map node_of (restored_locks (before ++ d ∷ [])))) is
        (locked r.txn r.granule m (held_as new orderly.one_each r it ∙ held_is))

    -- the granule that needs a node and those that have one
    pub too_many : (limit : ℕ) → IsTrue (is_full (record { limit = limit; requests = new }) d.txn at) → NeedMore limit (before ++ d ∷ [])
    too_many limit full =
        let none : is_some (request_for d.txn at new) ≡ false = not_some (is_some (request_for d.txn at new)) (nat_lt (length new) limit) full in
        let most : limit ≤ length new = at_least (is_some (request_for d.txn at new)) full in (
          (d.txn, at) ∷ map node_for new,
          (λ there. is_new none there, once new orderly.one_each),
          λ x there. elim there [
            | inl same ↦ subst (λ (y : ℕ × Granule). IsAmong y (map node_of (restored_locks (before ++ d ∷ [])))) same own_node
            | inr other ↦ node_there x other
          ],
          (let many : length (map node_for new) ≡ length new = length-map new node_for in omega (arith, most, many)),
        )
      where
        not_some : (b c : Bool) → IsTrue (not b && not c) → b ≡ false
        not_some true c full = cc
        not_some false c full = refl

        at_least : (b : Bool) → IsTrue (not b && not (nat_lt (length new) limit)) → limit ≤ length new
        at_least true full = cc
        at_least false full = elim (cases_lt (length new) limit) [
          | inl less ↦ let clash : IsTrue (not true) = subst (λ (c : Bool). IsTrue (not c)) (lt-ltb (length new) limit less) full in cc
          | inr least ↦ least
        ]

        own_node : IsAmong (d.txn, at) (map node_of (restored_locks (before ++ d ∷ [])))
        own_node = elim (Contains-In (path g) at on) [
          | inl same ↦ node_of_lock (before ++ d ∷ []) d.txn at EX (d, g, the_end before d, refl, names, inl (refl, sym same))
          | inr above ↦ node_of_lock (before ++ d ∷ []) d.txn at IX (d, g, the_end before d, refl, names, inr (refl, In-Contains (ancestors g) at above))
        ]

        is_new : is_some (request_for d.txn at new) ≡ false → IsAmong (d.txn, at) (map node_for new) → ⊥
        is_new none there =
            let (r, among, is) = among_map node_for new (d.txn, at) there in
            let found : request_for r.txn r.granule new ≡ Some r = request_in new orderly.one_each r (among_in new r among) in
            let here : request_for d.txn at new ≡ Some r =
            subst (λ (u : ℕ). request_for u at new ≡ Some r) (ap (λ (x : ℕ × Granule). x.0) is) (subst (λ (h : Granule). request_for r.txn h new ≡ Some r) (ap (λ (x : ℕ × Granule). x.1) is) found) in
            let clash : true ≡ false = sym (ap is_some here) ∙ none in cc

    -- ---- both causes

    pub no_place : (limit : ℕ) (it : Fault) → IsRefused (record { limit = limit; requests = new }) d.txn at (asked_of g EX at) it → HasNoPlace limit before d
    no_place limit (fault.WouldBlock holder) way = inl (in_the_way before d done g rs new at names taken held (asked_of g EX at) (asked_there g at on) holder way)
    no_place limit fault.LockTableFull full = inr (too_many limit full)
    no_place limit fault.NoTransaction refused = absurd refused
    no_place limit fault.AlreadyActive refused = absurd refused
    no_place limit fault.TooManyTransactions refused = absurd refused
    no_place limit fault.NoStore refused = absurd refused
    no_place limit fault.NoPage refused = absurd refused
    no_place limit fault.NoRecord refused = absurd refused
    no_place limit fault.TooLong refused = absurd refused
    no_place limit fault.StoreFull refused = absurd refused
    no_place limit fault.LogFull refused = absurd refused
    no_place limit fault.BadMode refused = absurd refused
    no_place limit (fault.Deadlock x) refused = absurd refused
    no_place limit fault.MustAbort refused = absurd refused
    no_place limit fault.Busy refused = absurd refused
    no_place limit fault.NoSavepoint refused = absurd refused
    no_place limit fault.TooManySavepoints refused = absurd refused
    no_place limit fault.IsPrepared refused = absurd refused
    no_place limit fault.BadGlobalId refused = absurd refused
    no_place limit fault.GlobalIdInUse refused = absurd refused
    no_place limit fault.NoGlobalId refused = absurd refused
    no_place limit (fault.NeedForce x) refused = absurd refused
    no_place limit fault.Device refused = absurd refused
    no_place limit fault.Failed refused = absurd refused
    no_place limit (fault.Damaged x y) refused = absurd refused
    no_place limit fault.WrongVersion refused = absurd refused
    no_place limit fault.Memory refused = absurd refused
    no_place limit fault.NotQuiet refused = absurd refused
    no_place limit fault.NotFormatted refused = absurd refused
    no_place limit fault.WrongPair refused = absurd refused
    no_place limit (fault.BadConfig x) refused = absurd refused

-- ---- by a restore

-- a granule that is refused has no place
pub stops_one : (before : List LoggedDoubt) (d : LoggedDoubt) (gs : List Granule) (n : ℕ) (g : Granule) (old new : Table) → d.granules ≡ gs → n < length gs → g ≡ get_or gs n g → IsOrderly old.requests
    → IsOrderly new.requests → NobodyWaits new.requests → AreLocksOf (before ++ with_granules d (take n gs) ∷ []) (held_by_all old.requests)
    → (it : Fault) → StopsAmong old new d.txn (path g) (asked_of g EX) it → HasNoPlace new.limit before d
stops_one before d gs n g old new granules within is was orderly nobody locks it stops =
    no_place before d (take n gs) g old.requests new.requests stops.at names stops.among covers stops.taken (as_modes (before ++ with_granules d (take n gs) ∷ []) old.requests was.one_each locks)
    orderly nobody new.limit it stops.refused
  where
    names : Contains d.granules g
    names = subst (λ (hs : List Granule). Contains hs g) (sym granules) (n, within, sym is)

    covers : (h : Granule) → Contains (take n gs) h → Contains d.granules h
    covers h there =
        subst (λ (hs : List Granule). Contains hs h) (sym granules)
        (subst (λ (hs : List Granule). Contains hs h) (take-append-drop n gs) (In-Contains (take n gs ++ drop n gs) h (In-left (take n gs) (drop n gs) h (Contains-In (take n gs) h there))))
