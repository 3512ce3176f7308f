-- What an acquire's walk gives, in the words of its contract.
use Rattle.std.proofs.Common.{◌≡◌, ◌≢◌, inl, inr, ⊎_elim, ℕ, List, [], true, false, ap, sym, subst, ◌∙◌, reverse}
use Rattle.std.specs.Prelude.{Result, Ok, Err, IfErr, Contains}
use Rattle.shore_types.specs.declared.faults.Fault.{Fault}
use Rattle.shore_types.specs.declared.faults.Fault.TheVariants as fault
use Rattle.shore_types.specs.declared.locking.Granule.{Granule}
use Rattle.shore_types.specs.declared.locking.Mode.{Mode}
use Rattle.shore_types.specs.Locking.{level_of}
use Rattle.shore_model.specs.Locks.{path}
use Rattle.shore_model.specs.Modes.{is_allowed}
use Rattle.shore_model.specs.Requests.{AreRequests}
use Rattle.shore_locks.specs.Orderly.{IsOrderly}
use Rattle.shore_locks.specs.Tables.{Table, is_waiting, mode_held}
use Rattle.shore_locks.proofs.Members.{In, In-Contains}
use Rattle.shore_locks.proofs.Tables.{fit_of}
use Rattle.shore_path.specs.declared.answers.Acquired.{Acquired}
use Rattle.shore_path.specs.declared.answers.Acquired.TheVariants as acquire
use Rattle.shore_path.specs.declared.answers.OnConflict.{OnConflict}
use Rattle.shore_path.specs.declared.answers.OnConflict.TheVariants.{Wait}
use Rattle.shore_path.specs.Acquires.{GrowsAsAsked, IsReached, MayRefuse, NoneWeaker, OthersOnlyGranted, WaitsAt}
use Rattle.shore_path.specs.Rooted.{AreRooted}
use Rattle.shore_path.specs.Walks.{HasOutcome, Outcome, asked_of, walk}
use Rattle.shore_path.proofs.Bystanders.{others_after}
use Rattle.shore_path.proofs.Intentions.{are_rooted, rooted_of}
use Rattle.shore_path.proofs.Kept.{Each, fit_after, grows_after, quiet_after, rooted_after_walk, stays_after, still_enough}
use Rattle.shore_path.proofs.Moving.{Rooted, Stays}
use Rattle.shore_path.proofs.Reached.{done_after, refused_after, waits_after}
use Rattle.shore_path.proofs.Ways.{ends, in_order, on_path, on_way}

never_empty : (target : Granule) → reverse (path target) ≡ [] → ⊥
never_empty target none = let last : In target [] = subst (In target) none (on_way target) in last

module _ (c : OnConflict) (t : ℕ) (target : Granule) (mode : Mode) (old new : Table) (result : Result Acquired Fault) (orderly : IsOrderly old.requests) (quiet : is_waiting t old.requests ≡ false)
    (asked : HasOutcome old (walk c t target mode old.limit (reverse (path target)) old.requests) result new) where
  abbrev way : List Granule
  way = reverse (path target)

  abbrev whole : Outcome
  whole = walk c t target mode old.limit way old.requests

  -- the requests that the walk leaves
  left : whole.requests ≡ new.requests
  left = sym (ap (λ (x : Table). x.requests) asked.1)

  pub one_after : AreRequests new.requests
  one_after = subst AreRequests left (fit_after c t target mode old.limit way old.requests (fit_of old.requests orderly) quiet).one

  pub told_grows : GrowsAsAsked old.requests new.requests t target mode
  told_grows g =
      ⊎_elim
      (λ same. inl (ap (mode_held t g) (sym left) ∙ same))
      (λ a. inr (In-Contains (path target) g (on_path target g a.0), ap (mode_held t g) (sym left) ∙ a.1))
      (grows_after c t target mode old.limit way old.requests (fit_of old.requests orderly) quiet g)

  pub told_others : OthersOnlyGranted old.requests new.requests t
  told_others =
      subst (λ xs. OthersOnlyGranted old.requests xs t) left
      (others_after c t target mode old.limit way old.requests (fit_of old.requests orderly) quiet)

  pub told_none_weaker : NoneWeaker old.requests new.requests
  told_none_weaker =
      still_enough old.requests new.requests one_after
      (subst (Stays Each old.requests) left (stays_after c t target mode old.limit way old.requests (fit_of old.requests orderly) quiet))

  pub told_rooted : AreRooted old.requests → AreRooted new.requests
  told_rooted rooted =
      are_rooted new.requests (subst (Rooted Each) left
      (rooted_after_walk c t target mode old.limit way old.requests (fit_of old.requests orderly) quiet (rooted_of old.requests orderly.one_each rooted) []
      (in_order target) (λ a h. absurd h)))

  pub told_quiet : ((g : Granule) → result ≢ Ok (acquire.Waiting g)) → is_waiting t new.requests ≡ false
  told_quiet never =
      subst (λ xs. is_waiting t xs ≡ false) left
      (quiet_after c t target mode old.limit way old.requests (fit_of old.requests orderly) quiet (λ g w. never g (asked.0 ∙ w)))

  pub told_done : result ≡ Ok acquire.Done → IsReached new.requests t target mode
  told_done e =
      subst (λ xs. IsReached xs t target mode) left
      (done_after c t target mode old.limit way old.requests (sym asked.0 ∙ e) (fit_of old.requests orderly) quiet (on_path target) (ends target) (λ none. absurd (never_empty target none)))

  pub told_waiting : (g : Granule) → result ≡ Ok (acquire.Waiting g) → (c ≡ Wait) × Contains (path target) g × WaitsAt new.requests t g (asked_of target mode g)
  told_waiting g e =
      let w = waits_after c t target mode old.limit way old.requests (fit_of old.requests orderly) quiet g (sym asked.0 ∙ e) in
      (w.0, In-Contains (path target) g (on_path target g w.1), subst (λ xs. WaitsAt xs t g (asked_of target mode g)) left w.2)

  pub told_refused : IfErr result (MayRefuse c new t target mode)
  told_refused =
      subst (λ r. IfErr r (MayRefuse c new t target mode)) (sym asked.0)
      (subst (λ x. IfErr whole.answer (MayRefuse c x t target mode)) (sym asked.1) (refused_after c t target mode old.limit way old.requests (on_path target)))

  pub told_allowed : is_allowed (level_of target) mode ≡ true → result ≡ Err fault.BadMode → ⊥
  told_allowed allowed e = let no : is_allowed (level_of target) mode ≡ false = subst (λ r. IfErr r (MayRefuse c new t target mode)) e told_refused in cc
