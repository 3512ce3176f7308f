-- What a table holds after restores alone: EX on each granule that was restored, IX on those above, and nothing else. Whoever is in the way of one more
-- restore had a granule on its path restored.
use Rattle.std.proofs.Common.{◌≡◌, ◌≢◌, ◌⊎◌, inl, inr, ⊎_elim, ℕ, List, [], ◌∷◌, true, false, Option, None, Some, refl, ap, sym, subst, ◌∙◌}
use Rattle.std.specs.Prelude.{◌==◌, Contains, IsSomeAnd}
use Rattle.std.proofs.lemmas.Bool.Decides.{Decides-eqb}
use Rattle.shore_types.specs.declared.faults.Fault.TheVariants as fault
use Rattle.shore_types.specs.declared.locking.Granule.{Granule}
use Rattle.shore_types.specs.declared.locking.Mode.{Mode}
use Rattle.shore_types.specs.declared.locking.Mode.TheVariants.{EX, IX}
use Rattle.shore_types.specs.Locking.{same_granule}
use Rattle.shore_model.specs.declared.requests.Request.{Request}
use Rattle.shore_model.specs.Locks.{OnOnePath, ancestors, path}
use Rattle.shore_model.specs.Modes.{grants}
use Rattle.shore_locks.specs.Grants.{is_enough, wanted_mode}
use Rattle.shore_locks.specs.Tables.{Table, mode_held}
use Rattle.shore_locks.proofs.Keys.{same_granule-Decides}
use Rattle.shore_locks.proofs.Members.{Contains-In, In, In-Contains, either}
use Rattle.shore_path.specs.Restoring.{IsInTheWay, StopsAmong, TakesWhole}
use Rattle.shore_path.specs.Walks.{asked_of}
use Rattle.shore_path.proofs.ModeFacts.{aim_enough}
use Rattle.shore_path.proofs.RestoredPaths.{apart_from, asked_above}

-- a lock is that of a granule that was restored, or one above it
abbrev pub IsOfOne : ℕ → Granule → Mode → List (ℕ × Granule) → Type 0
IsOfOne u h m done = (p : ℕ × Granule) × In p done × (u ≡ p.0) × (((m ≡ EX) × (h ≡ p.1)) ⊎ ((m ≡ IX) × In h (ancestors p.1)))

pub record HoldsJust (rs : List Request) (done : List (ℕ × Granule)) : Type 0 where
  pub each : (u : ℕ) (h : Granule) (m : Mode) → mode_held u h rs ≡ Some m → IsOfOne u h m done
  pub own : (p : ℕ × Granule) → In p done → mode_held p.0 p.1 rs ≡ Some EX
  pub above : (p : ℕ × Granule) (a : Granule) → In p done → In a (ancestors p.1) → is_enough IX (mode_held p.0 a rs) ≡ true

pub nothing_restored : HoldsJust [] []
nothing_restored = record { each = λ u h m is. cc; own = λ p h. absurd h; above = λ p a h i. absurd h }

some_is : (m k : Mode) → Some m ≡ Some k → m ≡ k
some_is m k e = cc

-- where a granule stands to a path
among_or_not : (h : Granule) (gs : List Granule) → In h gs ⊎ (In h gs → ⊥)
among_or_not h [] = inr (λ none. none)
among_or_not h (g ∷ gs) =
    ⊎_elim
    (λ yes. inl (inl ((same_granule-Decides g h).0 yes)))
    (λ no. ⊎_elim (λ later. inl (inr later))
    (λ none. inr (λ i. ⊎_elim (λ e. let yes = (same_granule-Decides g h).1 e in let clash : true ≡ false = sym yes ∙ no in cc) (λ later. none later) i)) (among_or_not h gs))
    (either (same_granule g h))

-- the place of a lock: the granule that is restored, one above it, or elsewhere
data Place (t : ℕ) (g : Granule) (u : ℕ) (h : Granule) : Type 0 where
  at_it : u ≡ t → h ≡ g → Place t g u h
  over_it : u ≡ t → In h (ancestors g) → Place t g u h
  elsewhere : (u ≡ t → Contains (path g) h → ⊥) → Place t g u h

place_of : (t : ℕ) (g : Granule) (u : ℕ) (h : Granule) → Place t g u h
place_of t g u h =
    ⊎_elim
    (λ own. ⊎_elim
    (λ here. ⊎_elim (λ e. at_it ((Decides-eqb u t).0 own) (sym e)) (λ above. over_it ((Decides-eqb u t).0 own) above) here)
    (λ none. elsewhere (λ same c. none (Contains-In (path g) h c)))
    (among_or_not h (path g)))
    (λ other. elsewhere (λ same c. let yes = (Decides-eqb u t).1 same in let clash : true ≡ false = sym yes ∙ other in cc))
    (either (u == t))

module _ (rs new : List Request) (t : ℕ) (g : Granule) (done : List (ℕ × Granule)) (takes : TakesWhole rs new t g) (just : HoldsJust rs done) where
  later : (u : ℕ) (h : Granule) (m : Mode) → IsOfOne u h m done → IsOfOne u h m ((t, g) ∷ done)
  later u h m of = (of.0, inr of.1, of.2, of.3)

  -- IX is joined to nothing, to IX or to EX
  joined : (h : Granule) → In h (ancestors g) → (o : Option Mode) → mode_held t h rs ≡ o → (m : Mode) → wanted_mode o IX ≡ m → IsOfOne t h m ((t, g) ∷ done)
  joined h above None is m e = ((t, g), inl refl, refl, inr (sym e, above))
  joined h above (Some k) is m e =
      let of = just.each t h k is in
      ⊎_elim
      (λ ex. let now : m ≡ EX = sym e ∙ ap (λ x. wanted_mode (Some x) IX) ex.0 in (of.0, inr of.1, of.2, inl (now, ex.1)))
      (λ ix. let now : m ≡ IX = sym e ∙ ap (λ x. wanted_mode (Some x) IX) ix.0 in (of.0, inr of.1, of.2, inr (now, ix.1)))
      of.3

  each_now : (u : ℕ) (h : Granule) (m : Mode) → mode_held u h new ≡ Some m → Place t g u h → IsOfOne u h m ((t, g) ∷ done)
  each_now u h m is (at_it own here) =
      ((t, g), inl refl, own, inl (some_is m EX (sym is ∙ ap (λ x. mode_held x h new) own ∙ ap (λ x. mode_held t x new) here ∙ takes.own), here))
  each_now u h m is (over_it own above) =
      subst (λ x. IsOfOne x h m ((t, g) ∷ done)) (sym own)
      (joined h above (mode_held t h rs) refl m (some_is (wanted_mode (mode_held t h rs) IX) m (sym (takes.above h (In-Contains (ancestors g) h above)) ∙ sym (ap (λ x. mode_held x h new) own) ∙ is)))
  each_now u h m is (elsewhere apart) = later u h m (just.each u h m (sym (takes.rest u h apart) ∙ is))

  own_still : (u : ℕ) (h : Granule) → mode_held u h rs ≡ Some EX → Place t g u h → mode_held u h new ≡ Some EX
  own_still u h was (at_it own here) = ap (λ x. mode_held x h new) own ∙ ap (λ x. mode_held t x new) here ∙ takes.own
  own_still u h was (over_it own above) =
      ap (λ x. mode_held x h new) own ∙ takes.above h (In-Contains (ancestors g) h above) ∙ ap (λ o. Some (wanted_mode o IX)) (sym (ap (λ x. mode_held x h rs) own) ∙ was)
  own_still u h was (elsewhere apart) = takes.rest u h apart ∙ was

  above_still : (u : ℕ) (h : Granule) → is_enough IX (mode_held u h rs) ≡ true → Place t g u h → is_enough IX (mode_held u h new) ≡ true
  above_still u h was (at_it own here) = ap (is_enough IX) (ap (λ x. mode_held x h new) own ∙ ap (λ x. mode_held t x new) here ∙ takes.own)
  above_still u h was (over_it own above) = ap (is_enough IX) (ap (λ x. mode_held x h new) own ∙ takes.above h (In-Contains (ancestors g) h above)) ∙ aim_enough (mode_held t h rs) IX
  above_still u h was (elsewhere apart) = ap (is_enough IX) (takes.rest u h apart) ∙ was

  -- one more
  pub restored_one : HoldsJust new ((t, g) ∷ done)
  restored_one = record {
    each = λ u h m is. each_now u h m is (place_of t g u h);
    own = λ p i. ⊎_elim
        (λ e. subst (λ (q : ℕ × Granule). mode_held q.0 q.1 new ≡ Some EX) e takes.own)
        (λ was. own_still p.0 p.1 (just.own p was) (place_of t g p.0 p.1)) i;
    above = λ p a i over. ⊎_elim
        (λ e. subst (λ (q : ℕ × Granule). In a (ancestors q.1) → is_enough IX (mode_held q.0 a new) ≡ true) e
        (λ there. ap (is_enough IX) (takes.above a (In-Contains (ancestors g) a there)) ∙ aim_enough (mode_held t a rs) IX) over)
        (λ was. above_still p.0 a (just.above p a was over) (place_of t g p.0 a)) i;
  }

-- ---- another is in the way

some_held : (o : Option Mode) (P : Mode → Type 0) → IsSomeAnd o P → (m : Mode) × (o ≡ Some m) × P m
some_held None P h = absurd h
some_held (Some m) P h = (m, refl, h)

module _ (old new : Table) (t : ℕ) (g : Granule) (holder : ℕ) (done : List (ℕ × Granule)) (just : HoldsJust old.requests done)
    (stops : StopsAmong old new t (path g) (asked_of g EX) (fault.WouldBlock holder)) where
  abbrev at : Granule
  at = stops.at

  abbrev way : IsInTheWay new.requests t at (asked_of g EX at) holder
  way = stops.refused

  its_before : mode_held t at new.requests ≡ mode_held t at old.requests
  its_before = stops.taken.rest t at (λ own c. apart_from at at c refl)

  theirs_before : mode_held holder at new.requests ≡ mode_held holder at old.requests
  theirs_before = stops.taken.rest holder at (λ same c. way.other same)

  -- above the granule the transaction asks for IX only where it holds nothing
  nothing_there : In at (ancestors g) → (o : Option Mode) → mode_held t at old.requests ≡ o → is_enough IX o ≡ false → o ≡ None
  nothing_there above None is less = refl
  nothing_there above (Some k) is less =
      ⊎_elim
      (λ ex. let clash : true ≡ false = sym (ap (λ x. is_enough IX (Some x)) ex.0) ∙ less in cc)
      (λ ix. let clash : true ≡ false = sym (ap (λ x. is_enough IX (Some x)) ix.0) ∙ less in cc)
      (just.each t at k is).3

  -- so who holds IX there is not in its way
  no_intention : In at (ancestors g) → grants IX (wanted_mode (mode_held t at new.requests) (asked_of g EX at)) ≡ false → ⊥
  no_intention above refused =
      let asks : asked_of g EX at ≡ IX = asked_above g at (In-Contains (ancestors g) at above) in
      let less : is_enough IX (mode_held t at old.requests) ≡ false = ap (is_enough IX) (sym its_before) ∙ sym (ap (λ m. is_enough m (mode_held t at new.requests)) asks) ∙ way.less in
      let none : mode_held t at new.requests ≡ None = its_before ∙ nothing_there above (mode_held t at old.requests) refl less in
      let wants : wanted_mode (mode_held t at new.requests) (asked_of g EX at) ≡ IX = ap (λ o. wanted_mode o (asked_of g EX at)) none ∙ asks in
      let clash : true ≡ false = sym (ap (grants IX) wants) ∙ refused in
      cc

  -- another transaction had a granule restored that lies on one path with this one
  pub conflicts : (p : ℕ × Granule) × In p done × (p.0 ≢ t) × OnOnePath g p.1
  conflicts =
      let held = some_held (mode_held holder at new.requests) (λ m. grants m (wanted_mode (mode_held t at new.requests) (asked_of g EX at)) ≡ false) way.refuses in
      let of = just.each holder at held.0 (sym theirs_before ∙ held.1) in (
        of.0,
        of.1,
        (λ same. way.other (of.2 ∙ same)),
        ⊎_elim
            (λ ex. inl (subst (Contains (path g)) ex.1 stops.among))
            (λ ix. inr (meets ix.1 (subst (λ m. grants m (wanted_mode (mode_held t at new.requests) (asked_of g EX at)) ≡ false) ix.0 held.2) (Contains-In (path g) at stops.among))) of.3,
      )
    where
      meets : {h : Granule} → In at (ancestors h) → grants IX (wanted_mode (mode_held t at new.requests) (asked_of g EX at)) ≡ false → In at (path g) → Contains (path h) g
      meets {h} over refused (inl e) = In-Contains (path h) g (inr (subst (λ x. In x (ancestors h)) (sym e) over))
      meets {h} over refused (inr above) = absurd (no_intention above refused)
