-- The locks of those in doubt as modes that are read off the requests, and what a restore of one granule more makes of them.
use Rattle.std.proofs.Common.{◌≡◌, ◌⊎◌, ◌++◌, ◌∷◌, [], ℕ, List, Option, None, Some, true, inl, inr, refl, sym, ap, subst, ◌∙◌}
use Rattle.std.specs.Prelude.{Contains, IsTrue}
use Rattle.std.proofs.lemmas.Bool.{cases_eq}
use Rattle.shore_types.specs.declared.locking.Granule.{Granule}
use Rattle.shore_types.specs.declared.locking.Mode.{Mode}
use Rattle.shore_types.specs.declared.locking.Mode.TheVariants.{EX, IX}
use Rattle.shore_types.specs.Locking.{same_granule}
use Rattle.shore_model.specs.declared.holds.Hold.{Hold}
use Rattle.shore_model.specs.declared.requests.Request.{Request}
use Rattle.shore_model.specs.Locks.{ancestors, path}
use Rattle.shore_model.specs.Modes.{is_at_most, sup}
use Rattle.shore_model.specs.Requests.{AreRequests, held_by_all, hold_in, hold_of}
use Rattle.shore_locks.specs.Grants.{is_enough, wanted_mode}
use Rattle.shore_locks.specs.Tables.{Table, mode_held}
use Rattle.shore_locks.proofs.Keys.{same_granule-Decides}
use Rattle.shore_locks.proofs.Members.{Contains-In, In, In-Contains, In-append, In-left, In-right, either}
use Rattle.shore_path.specs.Restoring.{KeepsOthers, TakesWhole}
use Rattle.shore_path.proofs.Holding.{In-filter_map, enough_of, filter_map-In, held_as, holder_from_lock, holder_of, holding, lock_from_holder, lock_of}
use Rattle.shore_path.proofs.ModeFacts.{aim_above, aim_enough, sup_same}
use Rattle.laws_lives.specs.Doubts.{LoggedDoubt}
use Rattle.laws_lives.specs.Views.{IsAmong}
use Rattle.shore_restart.specs.Doubts.{AreLocksOf, IsLockOf}

abbrev pub hold_as : ℕ → Granule → Mode → Hold
hold_as t g m = record { txn = t; granule = g; mode = m }

-- These have their locks, and nobody has another.
pub record HeldAs (ds : List LoggedDoubt) (rs : List Request) : Type 0 where
  pub each : (t : ℕ) (g : Granule) (m : Mode) → mode_held t g rs ≡ Some m → IsLockOf ds (hold_as t g m)
  pub all : (d : LoggedDoubt) (g : Granule) → IsAmong d ds → Contains d.granules g → is_enough EX (mode_held d.txn g rs) ≡ true
  pub above : (d : LoggedDoubt) (g a : Granule) → IsAmong d ds → Contains d.granules g → Contains (ancestors g) a → is_enough IX (mode_held d.txn a rs) ≡ true

module _ (ds : List LoggedDoubt) (rs : List Request) (one : AreRequests rs) where
  -- a mode that is held is a lock
  lock_there : (t : ℕ) (g : Granule) (m : Mode) → mode_held t g rs ≡ Some m → Contains (held_by_all rs) (hold_as t g m)
  lock_there t g m is =
      let (r, there, by, at, held) = holding t g m rs is in
      subst (λ (u : ℕ). Contains (held_by_all rs) (hold_as u g m)) by
      (subst (λ (h : Granule). Contains (held_by_all rs) (hold_as r.txn h m)) at
      (In-Contains (held_by_all rs) (hold_as r.txn r.granule m) (filter_map-In hold_of rs r (hold_as r.txn r.granule m) there (ap (hold_in r) held))))

  -- .. and a lock is a mode that is held
  mode_there : (h : Hold) → Contains (held_by_all rs) h → mode_held h.txn h.granule rs ≡ Some h.mode
  mode_there h there =
      let r = In-filter_map hold_of rs h (Contains-In (held_by_all rs) h there) in
      let l = lock_of r.0 r.0.held h r.2 in
      subst (λ (u : ℕ). mode_held u h.granule rs ≡ Some h.mode) l.0 (subst (λ (g : Granule). mode_held r.0.txn g rs ≡ Some h.mode) l.1 (held_as rs one r.0 r.1 ∙ l.2))

  pub as_modes : AreLocksOf ds (held_by_all rs) → HeldAs ds rs
  as_modes locks = record {
    each = λ t g m is. locks.each (hold_as t g m) (lock_there t g m is);
    all = λ d g among names. enough_of d.txn g EX rs one (holder_from_lock d.txn g EX rs (locks.all d g among names));
    above = λ d g a among names above. enough_of d.txn a IX rs one (holder_from_lock d.txn a IX rs (locks.above d g a among names above));
  }

  pub as_locks : HeldAs ds rs → AreLocksOf ds (held_by_all rs)
  as_locks held = record {
    each = λ h there. held.each h.txn h.granule h.mode (mode_there h there);
    all = λ d g among names. lock_from_holder d.txn g EX rs (holder_of d.txn g EX rs (held.all d g among names));
    above = λ d g a among names above. lock_from_holder d.txn a IX rs (holder_of d.txn a IX rs (held.above d g a among names above));
  }

-- ---- one granule more

abbrev pub with_granules : LoggedDoubt → List Granule → LoggedDoubt
with_granules d gs = record d { granules = gs }

-- a granule is in a list, or not
pub in_list : (gs : List Granule) (h : Granule) → Contains gs h ⊎ (Contains gs h → ⊥)
in_list gs h = elim (decide gs) [ inl is ↦ inl (In-Contains gs h is) | inr none ↦ inr (λ it. none (Contains-In gs h it)) ]
  where
    decide : (gs : List Granule) → In h gs ⊎ (In h gs → ⊥)
    decide [] = inr (λ none. none)
    decide (g ∷ gs) = elim (either (same_granule g h)) [
      | inl same ↦ inl (inl ((same_granule-Decides g h).0 same))
      | inr other ↦ elim (decide gs) [
        | inl is ↦ inl (inr is)
        | inr none ↦ inr (λ it. elim it [
          | inl same ↦ let clash = sym other ∙ (same_granule-Decides g h).1 same in cc
          | inr is ↦ none is
        ])
      ]
    ]

-- of a list with one at its end
pub at_end : {A : Type 0} (xs : List A) (x y : A) → IsAmong y (xs ++ x ∷ []) → IsAmong y xs ⊎ (x ≡ y)
at_end [] x y (inl same) = inr same
at_end [] x y (inr none) = absurd none
at_end (z ∷ zs) x y (inl same) = inl (inl same)
at_end (z ∷ zs) x y (inr there) = elim (at_end zs x y there) [ inl before ↦ inl (inr before) | inr same ↦ inr same ]

pub before_end : {A : Type 0} (xs : List A) (x y : A) → IsAmong y xs → IsAmong y (xs ++ x ∷ [])
before_end [] x y none = absurd none
before_end (z ∷ zs) x y (inl same) = inl same
before_end (z ∷ zs) x y (inr there) = inr (before_end zs x y there)

pub the_end : {A : Type 0} (xs : List A) (x : A) → IsAmong x (xs ++ x ∷ [])
the_end [] x = inl refl
the_end (z ∷ zs) x = inr (the_end zs x)

contains_end : (gs : List Granule) (g h : Granule) → Contains (gs ++ g ∷ []) h → Contains gs h ⊎ (g ≡ h)
contains_end gs g h it = elim (In-append gs (g ∷ []) h (Contains-In (gs ++ g ∷ []) h it)) [
  | inl before ↦ inl (In-Contains gs h before)
  | inr last ↦ elim last [ inl same ↦ inr same | inr none ↦ absurd none ]
]

module _ (before : List LoggedDoubt) (d : LoggedDoubt) (done : List Granule) (g : Granule) (rs new : List Request) (takes : TakesWhole rs new d.txn g) where
  abbrev was : LoggedDoubt
  was = with_granules d done

  abbrev is : LoggedDoubt
  is = with_granules d (done ++ g ∷ [])

  -- what was one of its locks is one still
  wider : (h : Hold) → IsLockOf (before ++ was ∷ []) h → IsLockOf (before ++ is ∷ []) h
  wider h (e, k, among, by, names, how) = elim (at_end before was e among) [
    | inl there ↦ (e, k, before_end before is e there, by, names, how)
    | inr same ↦
        let named : Contains done k = subst (λ (it : LoggedDoubt). Contains it.granules k) (sym same) names in
        (is, k, the_end before is, by ∙ ap (λ (it : LoggedDoubt). it.txn) (sym same), In-Contains (done ++ g ∷ []) k (In-left done (g ∷ []) k (Contains-In done k named)), how)
  ]

  names_it : Contains is.granules g
  names_it = In-Contains (done ++ g ∷ []) g (In-right done (g ∷ []) g (inl refl))

  -- above the granule it holds what it held there, joined to IX
  above_it : HeldAs (before ++ was ∷ []) rs → (a : Granule) (m : Mode) → Contains (ancestors g) a → (o : Option Mode) → mode_held d.txn a rs ≡ o → Some (wanted_mode o IX) ≡ Some m
      → IsLockOf (before ++ is ∷ []) (hold_as d.txn a m)
  above_it held a m there None holds same = let mode : m ≡ IX = cc in (is, g, the_end before is, refl, names_it, inr (mode, there))
  above_it held a m there (Some k) holds same =
      let lock = held.each d.txn a k holds in
      let joined : sup k IX ≡ k = elim lock.5 [
        | inl ex ↦ sup_same k IX (subst (λ (m : Mode). IsTrue (is_at_most IX m)) (sym ex.0) refl)
        | inr ix ↦ sup_same k IX (subst (λ (m : Mode). IsTrue (is_at_most IX m)) (sym ix.0) refl)
      ] in
      let mode : k ≡ m = sym joined ∙ some_is (sup k IX) m same in
      subst (λ (n : Mode). IsLockOf (before ++ is ∷ []) (hold_as d.txn a n)) mode (wider (hold_as d.txn a k) lock)
    where
      some_is : (a b : Mode) → Some a ≡ Some b → a ≡ b
      some_is a b same = cc

  -- whatever was held is held still, or more
  grows : (u : ℕ) (h : Granule) (m : Mode) → is_enough m (mode_held u h rs) ≡ true → is_enough m (mode_held u h new) ≡ true
  grows u h m enough = elim (cases_eq u d.txn) [
    | inl mine ↦ subst (λ (t : ℕ). is_enough m (mode_held t h new) ≡ true) (sym mine) (own (subst (λ (t : ℕ). is_enough m (mode_held t h rs) ≡ true) mine enough))
    | inr other ↦ ap (is_enough m) (takes.rest u h (λ mine. absurd (other mine))) ∙ enough
  ]
    where
      most : (m : Mode) → is_enough m (Some EX) ≡ true
      most Mode.IS = refl
      most Mode.IX = refl
      most Mode.SH = refl
      most Mode.SIX = refl
      most Mode.UD = refl
      most Mode.EX = refl

      own : is_enough m (mode_held d.txn h rs) ≡ true → is_enough m (mode_held d.txn h new) ≡ true
      own it = elim (in_list (ancestors g) h) [
        | inl above ↦ ap (is_enough m) (takes.above h above) ∙ aim_above m (mode_held d.txn h rs) IX it
        | inr none ↦ elim (either (same_granule g h)) [
          | inl same ↦ subst (λ (k : Granule). is_enough m (mode_held d.txn k new) ≡ true) ((same_granule-Decides g h).0 same) (ap (is_enough m) takes.own ∙ most m)
          | inr apart ↦ ap (is_enough m) (takes.rest d.txn h (λ mine on. elim (Contains-In (path g) h on) [
            | inl same ↦ let clash = sym apart ∙ (same_granule-Decides g h).1 same in cc
            | inr above ↦ none (In-Contains (ancestors g) h above)
          ])) ∙ it
        ]
      ]

  pub takes_one : HeldAs (before ++ was ∷ []) rs → HeldAs (before ++ is ∷ []) new
  takes_one held = record {
    each = each;
    all = λ e k among names. elim (at_end before is e among) [
      | inl there ↦ grows e.txn k EX (held.all e k (before_end before was e there) names)
      | inr same ↦ subst (λ (t : ℕ). is_enough EX (mode_held t k new) ≡ true) (ap (λ (it : LoggedDoubt). it.txn) same) (elim (contains_end done g k (subst (λ (it : LoggedDoubt). Contains it.granules k) (sym same) names)) [
        | inl earlier ↦ grows d.txn k EX (held.all was k (the_end before was) earlier)
        | inr last ↦ subst (λ (h : Granule). is_enough EX (mode_held d.txn h new) ≡ true) last (ap (is_enough EX) takes.own)
      ])
    ];
    above = λ e k a among names above. elim (at_end before is e among) [
      | inl there ↦ grows e.txn a IX (held.above e k a (before_end before was e there) names above)
      | inr same ↦ subst (λ (t : ℕ). is_enough IX (mode_held t a new) ≡ true) (ap (λ (it : LoggedDoubt). it.txn) same) (elim (contains_end done g k (subst (λ (it : LoggedDoubt). Contains it.granules k) (sym same) names)) [
        | inl earlier ↦ grows d.txn a IX (held.above was k a (the_end before was) earlier above)
        | inr last ↦ ap (is_enough IX) (takes.above a (subst (λ (h : Granule). Contains (ancestors h) a) (sym last) above)) ∙ aim_enough (mode_held d.txn a rs) IX
      ])
    ];
  }
    where
      own : (h : Granule) (m : Mode) → mode_held d.txn h new ≡ Some m → IsLockOf (before ++ is ∷ []) (hold_as d.txn h m)
      own h m holds = elim (in_list (ancestors g) h) [
        | inl above ↦ above_it held h m above (mode_held d.txn h rs) refl (sym (takes.above h above) ∙ holds)
        | inr none ↦ elim (either (same_granule g h)) [
          | inl same ↦
              let at : g ≡ h = (same_granule-Decides g h).0 same in
              let mode : Some EX ≡ Some m = sym takes.own ∙ ap (λ (k : Granule). mode_held d.txn k new) at ∙ holds in
              (is, g, the_end before is, refl, names_it, inl (the_mode m mode, sym at))
          | inr apart ↦ wider (hold_as d.txn h m) (held.each d.txn h m (sym (takes.rest d.txn h (λ mine on. elim (Contains-In (path g) h on) [
            | inl same ↦ let clash = sym apart ∙ (same_granule-Decides g h).1 same in cc
            | inr above ↦ none (In-Contains (ancestors g) h above)
          ])) ∙ holds))
        ]
      ]
        where
          the_mode : (m : Mode) → Some EX ≡ Some m → m ≡ EX
          the_mode m same = cc

      each : (t : ℕ) (h : Granule) (m : Mode) → mode_held t h new ≡ Some m → IsLockOf (before ++ is ∷ []) (hold_as t h m)
      each t h m holds = elim (cases_eq t d.txn) [
        | inl mine ↦ subst (λ (u : ℕ). IsLockOf (before ++ is ∷ []) (hold_as u h m)) (sym mine) (own h m (ap (λ (u : ℕ). mode_held u h new) (sym mine) ∙ holds))
        | inr other ↦ wider (hold_as t h m) (held.each t h m (sym (takes.rest t h (λ mine on. absurd (other mine))) ∙ holds))
      ]

-- ---- as locks

-- one that has nothing yet changes nothing
pub starts : (before : List LoggedDoubt) (d : LoggedDoubt) (held : List Hold) → AreLocksOf before held → AreLocksOf (before ++ with_granules d [] ∷ []) held
starts before d held locks = record {
  each = λ h there. let (e, k, among, by, names, how) = locks.each h there in (e, k, before_end before (with_granules d []) e among, by, names, how);
  all = λ e k among names. elim (at_end before (with_granules d []) e among) [
    | inl there ↦ locks.all e k there names
    | inr same ↦ absurd (Contains-In [] k (subst (λ (it : LoggedDoubt). Contains it.granules k) (sym same) names))
  ];
  above = λ e k a among names above. elim (at_end before (with_granules d []) e among) [
    | inl there ↦ locks.above e k a there names above
    | inr same ↦ absurd (Contains-In [] k (subst (λ (it : LoggedDoubt). Contains it.granules k) (sym same) names))
  ];
}

pub takes_locks : (before : List LoggedDoubt) (d : LoggedDoubt) (done : List Granule) (g : Granule) (rs new : List Request) → AreRequests rs → AreRequests new → TakesWhole rs new d.txn g
    → AreLocksOf (before ++ with_granules d done ∷ []) (held_by_all rs) → AreLocksOf (before ++ with_granules d (done ++ g ∷ []) ∷ []) (held_by_all new)
takes_locks before d done g rs new was is takes locks =
    as_locks (before ++ with_granules d (done ++ g ∷ []) ∷ []) new is (takes_one before d done g rs new takes (as_modes (before ++ with_granules d done ∷ []) rs was locks))

-- whatever a restore keeps of the others, a restore behind it keeps
pub keeps_on : (old mid new : Table) (t : ℕ) → KeepsOthers old mid t → KeepsOthers mid new t → KeepsOthers old new t
keeps_on old mid new t first then_on = record {
  limit = then_on.limit ∙ first.limit;
  others = then_on.others ∙ first.others;
  nobody = then_on.nobody;
  rooted = λ rooted. then_on.rooted (first.rooted rooted);
}
