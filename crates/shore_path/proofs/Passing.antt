-- One granule above a target that is passed, and the target behind it: how far the walk comes.
use Rattle.std.proofs.Common.{◌≡◌, ◌++◌, ◌∷◌, ℕ, List, [], Bool, Some, inl, inr, true, false, refl, ap, sym, subst, ◌∙◌, reverse}
use Rattle.std.specs.Prelude.{Result, Ok, Err, not}
use Rattle.shore_types.specs.declared.faults.Fault.{Fault}
use Rattle.shore_types.specs.declared.locking.Granule.{Granule}
use Rattle.shore_types.specs.declared.locking.Granule.TheVariants.{Volume, Store, Page, Record}
use Rattle.shore_types.specs.declared.locking.Mode.{Mode}
use Rattle.shore_types.specs.Locking.{same_granule}
use Rattle.shore_model.specs.Locks.{ancestors, path}
use Rattle.shore_model.specs.Modes.{covers, is_at_most, parent_mode}
use Rattle.shore_locks.specs.Grants.{is_enough}
use Rattle.shore_locks.specs.Orderly.{IsOrderly}
use Rattle.shore_locks.specs.Tables.{Table, is_waiting, mode_held}
use Rattle.shore_locks.proofs.Entering.{both_true}
use Rattle.shore_locks.proofs.Keys.{same_granule-Decides}
use Rattle.shore_locks.proofs.Tables.{fit_of}
use Rattle.shore_path.specs.declared.answers.Acquired.{Acquired}
use Rattle.shore_path.specs.declared.answers.Acquired.TheVariants as acquire
use Rattle.shore_path.specs.declared.answers.OnConflict.{OnConflict}
use Rattle.shore_path.specs.declared.answers.OnConflict.TheVariants.{Refuse, Wait}
use Rattle.shore_path.specs.Intending.{is_intention}
use Rattle.shore_path.specs.Needs.{EndsAt, HasPassed, Passes}
use Rattle.shore_path.specs.Walks.{HasOutcome, Outcome, after_at, answer_at, asked_of, is_spared}
use Rattle.shore_path.proofs.Kept.{quiet_after}
use Rattle.shore_path.proofs.Walking.{done, stop, stops_at, table_of, walk_on}

same_self : (g : Granule) → same_granule g g ≡ true
same_self g = (same_granule-Decides g g).1 refl

-- ---- one granule

module _ (c : OnConflict) (t : ℕ) (target : Granule) (mode : Mode) (g : Granule) (old new : Table) where
  pub passes_walk : Passes c t target mode g old new → (below : List Granule) → walk_on c t target mode old.limit (g ∷ below) old.requests ≡ walk_on c t target mode new.limit below new.requests
  passes_walk p below =
      rw (p.needed, p.done) refl ∙ ap (λ (x : Table). walk_on c t target mode x.limit below x.requests) (sym p.left)

  pub ends_walk : (answer : Result Acquired Fault) → EndsAt c t target mode g old new answer → (below : List Granule) → HasOutcome old (walk_on c t target mode old.limit (g ∷ below) old.requests) answer new
  ends_walk answer (inl spared) below = rw spared.0 (spared.1, spared.2)
  ends_walk answer (inr told) below =
      let out : walk_on c t target mode old.limit (g ∷ below) old.requests ≡ stop answer (after_at c old t g (asked_of target mode g)) =
      stops_at c t target mode old.limit g below old.requests answer told.0 (sym told.1) told.2 in
      (sym (ap (λ (o : Outcome). o.answer) out), told.3 ∙ ap (λ (o : Outcome). table_of c t target mode old.limit o.requests) (sym out))

-- who holds it with the intention passes it, and nothing changes
module _ (t : ℕ) (target : Granule) (mode : Mode) (g : Granule) (table : Table) (held : Mode) where
  passes_as : (c : OnConflict) → is_spared t target mode g table.requests ≡ false → is_enough (asked_of target mode g) (mode_held t g table.requests) ≡ true → Passes c t target mode g table table
  passes_as Wait spares enough = record { needed = spares; done = rw enough refl; left = rw enough refl }
  passes_as Refuse spares enough = record { needed = spares; done = rw enough refl; left = rw enough refl }

covers_none : (b : Bool) → not b ≡ true → b ≡ false
covers_none true e = cc
covers_none false e = refl

pub intention_passes : (c : OnConflict) (t : ℕ) (target : Granule) (mode : Mode) (g : Granule) (table : Table) (held : Mode) → mode_held t g table.requests ≡ Some held → is_intention mode (Some held) ≡ true
    → same_granule g target ≡ false → Passes c t target mode g table table
intention_passes c t target mode g table held holds intends apart =
    let both = both_true (is_at_most (parent_mode mode) held) (not (covers held mode)) intends in
    passes_as t target mode g table held c (rw (apart, holds) (covers_none (covers held mode) both.1)) (rw (apart, holds) both.0)

-- ---- the target behind it

module _ (c : OnConflict) (t : ℕ) (target : Granule) (mode : Mode) (g : Granule) (old mid new : Table) (answer : Result Acquired Fault) where
  asked_last : (told : Result Acquired Fault) → answer_at c mid t target mode ≡ told → walk_on c t target mode mid.limit (target ∷ []) mid.requests ≡ stop told (after_at c mid t target mode)
  asked_last (Ok acquire.Done) is = rw (same_self target, is) refl
  asked_last (Ok (acquire.Waiting h)) is = rw (same_self target, is) refl
  asked_last (Err f) is = rw (same_self target, is) refl

  pub comes_last : Passes c t target mode g old mid → answer ≡ answer_at c mid t target mode
      → new ≡ record { limit = mid.limit; requests = after_at c mid t target mode } → HasOutcome old (walk_on c t target mode old.limit (g ∷ target ∷ []) old.requests) answer new
  comes_last p told left =
      let out = passes_walk c t target mode g old mid p (target ∷ []) ∙ asked_last answer (sym told) in
      (sym (ap (λ (o : Outcome). o.answer) out), left ∙ (λ k. record { limit = (p.left k).limit; requests = (sym out k).requests }))

-- ---- the target behind granules that are held

path_split : (target : Granule) → reverse (path target) ≡ reverse (ancestors target) ++ target ∷ []
path_split Volume = refl
path_split (Store s) = refl
path_split (Page p) = refl
path_split (Record r) = refl

module _ (c : OnConflict) (t : ℕ) (target : Granule) (mode : Mode) (old : Table) where
  passed_walk : (above below : List Granule) → HasPassed c t target mode above old → walk_on c t target mode old.limit (above ++ below) old.requests ≡ walk_on c t target mode old.limit below old.requests
  passed_walk [] below has = refl
  passed_walk (g ∷ above) below has = passes_walk c t target mode g old old has.0 (above ++ below) ∙ passed_walk above below has.1

  asked_alone : (told : Result Acquired Fault) → answer_at c old t target mode ≡ told → walk_on c t target mode old.limit (target ∷ []) old.requests ≡ stop told (after_at c old t target mode)
  asked_alone (Ok acquire.Done) is = rw (same_self target, is) refl
  asked_alone (Ok (acquire.Waiting h)) is = rw (same_self target, is) refl
  asked_alone (Err f) is = rw (same_self target, is) refl

  pub comes_to_target : (new : Table) (answer : Result Acquired Fault) → HasPassed c t target mode (reverse (ancestors target)) old → answer ≡ answer_at c old t target mode
      → new ≡ record { limit = old.limit; requests = after_at c old t target mode } → HasOutcome old (walk_on c t target mode old.limit (reverse (path target)) old.requests) answer new
  comes_to_target new answer has told left =
      let out : walk_on c t target mode old.limit (reverse (path target)) old.requests ≡ stop answer (after_at c old t target mode) =
      ap (λ way. walk_on c t target mode old.limit way old.requests) (path_split target) ∙ passed_walk (reverse (ancestors target)) (target ∷ []) has ∙ asked_alone answer (sym told) in
      (sym (ap (λ (o : Outcome). o.answer) out), left ∙ ap (λ (o : Outcome). table_of c t target mode old.limit o.requests) (sym out))

-- ---- who asks does not wait once it has the granule

pub quiet_at : (c : OnConflict) (t : ℕ) (g : Granule) (mode : Mode) (old : Table) → IsOrderly old.requests → is_waiting t old.requests ≡ false → answer_at c old t g mode ≡ Ok acquire.Done
    → is_waiting t (after_at c old t g mode) ≡ false
quiet_at c t g mode old orderly quiet is =
    let out : walk_on c t g mode old.limit (g ∷ []) old.requests ≡ done (after_at c old t g mode) = rw (same_self g, is) refl in
    subst (λ (o : Outcome). is_waiting t o.requests ≡ false) out
    (quiet_after c t g mode old.limit (g ∷ []) old.requests (fit_of old.requests orderly) quiet
    (λ h e. let both : Ok acquire.Done ≡ Ok (acquire.Waiting h) = sym (ap (λ (o : Outcome). o.answer) out) ∙ e in cc))
