-- The granules of a path that are taken one after the other, and what is left where one of them is refused.
use Rattle.std.proofs.Common.{◌≡◌, ⊎_elim, ℕ, suc, List, ◌∷◌, true, Option, None, Some, refl, ap, sym, subst, ◌∙◌, arith}
use Rattle.std.specs.Prelude.{Contains, Err, IfErr, Ok, OnOk, Result}
use Rattle.shore_types.specs.declared.faults.Fault.{Fault}
use Rattle.shore_types.specs.declared.locking.Granule.{Granule}
use Rattle.shore_types.specs.declared.locking.Granule.TheVariants.{Volume, Store, Page, Record}
use Rattle.shore_types.specs.declared.locking.Mode.{Mode}
use Rattle.shore_types.specs.declared.locking.Mode.TheVariants.{IS, IX, SH, SIX, EX, UD}
use Rattle.shore_types.specs.Locking.{same_granule}
use Rattle.shore_model.specs.Locks.{ancestors, path}
use Rattle.shore_model.specs.Modes.{parent_mode}
use Rattle.shore_locks.specs.Grants.{is_enough, wanted_mode}
use Rattle.shore_locks.specs.Tables.{Table, mode_held}
use Rattle.shore_locks.proofs.Keys.{same_granule-Decides}
use Rattle.shore_locks.proofs.Members.{Contains-In, In, In-Contains, either}
use Rattle.shore_path.specs.Restoring.{IsRefused, KeepsOthers, StopsAmong, TakesIntentions, TakesOne, TakesWhole}
use Rattle.shore_path.specs.Walks.{asked_of}
use Rattle.shore_path.proofs.ModeFacts.{aim_enough}

-- ---- granules and modes

pub not_above_itself : (g : Granule) → In g (ancestors g) → ⊥
not_above_itself Volume h = absurd h
not_above_itself (Store s) h = ⊎_elim (λ e. cc) (λ later. absurd later) h
not_above_itself (Page p) h = ⊎_elim (λ e. cc) (λ later. ⊎_elim (λ e. cc) (λ none. absurd none) later) h
not_above_itself (Record r) h = ⊎_elim (λ e. cc) (λ later. ⊎_elim (λ e. cc) (λ more. ⊎_elim (λ e. cc) (λ none. absurd none) more) later) h

pub apart_from : (g a : Granule) → Contains (ancestors g) a → a ≡ g → ⊥
apart_from g a h same = not_above_itself g (subst (λ x. In x (ancestors g)) same (Contains-In (ancestors g) a h))

longer : (g h : Granule) (gs : List Granule) → Contains gs h → Contains (g ∷ gs) h
longer g h gs c = (suc c.0, omega (arith, c.1), c.2)

shorter : (g h : Granule) (gs : List Granule) → Contains (g ∷ gs) h → (h ≡ g → ⊥) → Contains gs h
shorter g h gs c other = In-Contains gs h (⊎_elim (λ e. absurd (other (sym e))) (λ later. later) (Contains-In (g ∷ gs) h c))

first : (g : Granule) (gs : List Granule) → Contains (g ∷ gs) g
first g gs = (0, omega arith, refl)

whole : (held : Option Mode) → wanted_mode held EX ≡ EX
whole None = refl
whole (Some IS) = refl
whole (Some IX) = refl
whole (Some SH) = refl
whole (Some SIX) = refl
whole (Some EX) = refl
whole (Some UD) = refl

-- ---- intentions that are taken

module _ (t : ℕ) (g : Granule) (old mid new : Table) (taken : TakesIntentions old.requests mid.requests t (ancestors g)) where
  -- what is held of the granule itself is as it was
  as_before : mode_held t g mid.requests ≡ mode_held t g old.requests
  as_before = taken.rest t g (λ own c. not_above_itself g (Contains-In (ancestors g) g c))

  module _ (mode : Mode) (one : TakesOne mid new t g mode) where
    above_still : (a : Granule) → Contains (ancestors g) a → mode_held t a new.requests ≡ Some (wanted_mode (mode_held t a old.requests) IX)
    above_still a c = one.rest t a (λ own same. apart_from g a c same) ∙ taken.each a c

    rest_still : (u : ℕ) (h : Granule) → (u ≡ t → Contains (path g) h → ⊥) → mode_held u h new.requests ≡ mode_held u h old.requests
    rest_still u h apart =
        one.rest u h (λ own same. apart own (subst (Contains (path g)) (sym same) (first g (ancestors g)))) ∙ taken.rest u h (λ own c. apart own (longer g h (ancestors g) c))

    own_now : mode_held t g new.requests ≡ Some (wanted_mode (mode_held t g old.requests) mode)
    own_now = one.own ∙ ap (λ held. Some (wanted_mode held mode)) as_before

    -- its intentions are held
    intended : parent_mode mode ≡ IX → (a : Granule) → Contains (ancestors g) a → is_enough (parent_mode mode) (mode_held t a mid.requests) ≡ true
    intended is a c = rw (is, taken.each a c) (aim_enough (mode_held t a old.requests) IX)

    keeps_one : parent_mode mode ≡ IX → KeepsOthers old mid t → KeepsOthers old new t
    keeps_one is keeps = record {
      limit = one.limit ∙ keeps.limit;
      others = one.others ∙ keeps.others;
      nobody = one.nobody;
      rooted = λ rooted. one.rooted (intended is) (keeps.rooted rooted);
    }

  then_intention : TakesOne mid new t g IX → TakesIntentions old.requests new.requests t (path g)
  then_intention one = record {
    each = λ a c. ⊎_elim (λ e. subst (λ x. mode_held t x new.requests ≡ Some (wanted_mode (mode_held t x old.requests) IX)) e (own_now IX one))
        (λ later. above_still IX one a (In-Contains (ancestors g) a later)) (Contains-In (path g) a c);
    rest = rest_still IX one;
  }

  then_whole : TakesOne mid new t g EX → TakesWhole old.requests new.requests t g
  then_whole one = record {
    own = own_now EX one ∙ ap Some (whole (mode_held t g old.requests));
    above = above_still EX one;
    rest = rest_still EX one;
  }

  stops_here : (mode_of : Granule → Mode) (fault : Fault) → new ≡ mid → IsRefused mid t g (mode_of g) fault → StopsAmong old new t (path g) mode_of fault
  stops_here mode_of fault same refused =
      subst (λ x. StopsAmong old x t (path g) mode_of fault) (sym same) (record { at = g; among = first g (ancestors g); taken = taken; refused = refused })

  -- ---- by the answer at the granule

  pub intention_after : {A : Type 0} (r : Result A Fault) → OnOk r (TakesOne mid new t g IX) → OnOk r (TakesIntentions old.requests new.requests t (path g))
  intention_after (Ok a) one = then_intention one
  intention_after (Err f) one = tt

  pub whole_after : {A : Type 0} (r : Result A Fault) → OnOk r (TakesOne mid new t g EX) → OnOk r (TakesWhole old.requests new.requests t g)
  whole_after (Ok a) one = then_whole one
  whole_after (Err f) one = tt

  pub stops_after : {A : Type 0} (r : Result A Fault) (mode : Mode) (mode_of : Granule → Mode) → mode_of g ≡ mode → IfErr r (λ f. (new ≡ mid) × IsRefused mid t g mode f)
      → IfErr r (StopsAmong old new t (path g) mode_of)
  stops_after (Ok a) mode mode_of is told = tt
  stops_after (Err f) mode mode_of is told = stops_here mode_of f told.0 (subst (λ m. IsRefused mid t g m f) (sym is) told.1)

  pub keeps_after : {A : Type 0} (r : Result A Fault) (mode : Mode) → parent_mode mode ≡ IX → KeepsOthers old mid t → OnOk r (TakesOne mid new t g mode)
      → IfErr r (λ f. (new ≡ mid) × IsRefused mid t g mode f) → KeepsOthers old new t
  keeps_after (Ok a) mode is keeps one told = keeps_one mode one is keeps
  keeps_after (Err f) mode is keeps one told = subst (λ x. KeepsOthers old x t) (sym told.0) keeps

-- ---- refused above the granule

pub stops_above : (t : ℕ) (g : Granule) (old new : Table) (fault : Fault) → StopsAmong old new t (ancestors g) (λ h. IX) fault → StopsAmong old new t (path g) (λ h. IX) fault
stops_above t g old new fault s = record { at = s.at; among = longer g s.at (ancestors g) s.among; taken = s.taken; refused = s.refused }

pub asked_above : (g a : Granule) → Contains (ancestors g) a → asked_of g EX a ≡ IX
asked_above g a c =
    ⊎_elim (λ yes. absurd (apart_from g a c ((same_granule-Decides a g).0 yes))) (λ no. rw no refl) (either (same_granule a g))

pub asked_itself : (g : Granule) → asked_of g EX g ≡ EX
asked_itself g = rw ((same_granule-Decides g g).1 refl) refl

pub stops_above_whole : (t : ℕ) (g : Granule) (old new : Table) (fault : Fault) → StopsAmong old new t (ancestors g) (λ h. IX) fault → StopsAmong old new t (path g) (asked_of g EX) fault
stops_above_whole t g old new fault s = record {
  at = s.at;
  among = longer g s.at (ancestors g) s.among;
  taken = s.taken;
  refused = subst (λ m. IsRefused new t s.at m fault) (sym (asked_above g s.at s.among)) s.refused;
}
