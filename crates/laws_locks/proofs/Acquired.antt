-- What an acquire leaves, over the list of requests alone.
use Rattle.std.proofs.Common.{◌≡◌, inl, inr, ℕ, List, false, refl, ap, sym, subst, reverse, Bool, true, false}
use Rattle.std.specs.Prelude.{◌⊎◌, IfErr, Ok, Err, Any, Contains, cond, is_some}
use Rattle.std.proofs.lemmas.List.Elements.{All-contains_itself, All-weaker}
use Rattle.std.proofs.lemmas.Bool.{cases_Bool}
use Rattle.shore_types.specs.Locking.{level_of}
use Rattle.shore_types.specs.declared.locking.Granule.{Granule}
use Rattle.shore_types.specs.declared.locking.Mode.{Mode}
use Rattle.shore_types.specs.declared.faults.Fault.TheVariants as fault
use Rattle.shore_model.specs.declared.requests.Request.{Request}
use Rattle.shore_model.specs.Locks.{path}
use Rattle.shore_model.specs.Modes.{is_allowed}
use Rattle.shore_locks.specs.Grants.{granted}
use Rattle.shore_locks.specs.Orderly.{IsOrderly}
use Rattle.shore_locks.specs.Tables.{Table, is_waiting}
use Rattle.shore_locks.proofs.Tables.{orderly_placed, orderly_put}
use Rattle.shore_path.specs.declared.answers.Acquired.TheVariants as acquire
use Rattle.shore_path.specs.declared.answers.OnConflict.{OnConflict}
use Rattle.shore_path.specs.declared.answers.OnConflict.TheVariants.{Refuse}
use Rattle.shore_path.specs.Rooted.{AreRooted}
use Rattle.shore_path.specs.Walks.{HasOutcome, Outcome, acquired, asked_of, walk}
use Rattle.shore_path.proofs.Acquiring.{told_done, told_grows, told_none_weaker, told_refused, told_others, told_quiet, told_rooted, told_waiting}
use Rattle.shore_path.proofs.Growing.{quiet_grant}
use Rattle.shore_path.proofs.Walking.{EachCase, of_walk}
use Rattle.shore_path.specs.Acquires.{MayRefuse}
use Rattle.laws_locks.specs.Acquires.{Leaves}

module _ (c : OnConflict) (t : ℕ) (target : Granule) (mode : Mode) (limit : ℕ) where
  orderly_case : EachCase c t target mode limit (λ way rs out. IsOrderly rs → is_waiting t rs ≡ false → IsOrderly out.requests)
  orderly_case = record {
    over = λ rs orderly quiet. orderly;
    spared = λ g below rs e orderly quiet. orderly;
    full = λ g below rs e orderly quiet. orderly;
    waits = λ g below rs o is s orderly quiet. orderly_placed t g (asked_of target mode g) rs orderly quiet (ap is_some s);
    blocked = λ g below rs o is s orderly quiet. orderly;
    holds = λ g below rs e on orderly quiet. on orderly quiet;
    grants = λ g below rs e f s on orderly quiet.
        on (orderly_put t g (asked_of target mode g) rs orderly quiet s) (quiet_grant limit t g (asked_of target mode g) rs orderly.one_each quiet e f s);
  }

  pub orderly_after : (way : List Granule) (rs : List Request) → IsOrderly rs → is_waiting t rs ≡ false → IsOrderly (walk c t target mode limit way rs).requests
  orderly_after = of_walk c t target mode limit (λ way rs out. IsOrderly rs → is_waiting t rs ≡ false → IsOrderly out.requests) orderly_case

  -- a walk leaves the requests as an acquire may leave them
  walk_leaves : (rs : List Request) → IsOrderly rs → is_waiting t rs ≡ false → AreRooted rs → Leaves rs (walk c t target mode limit (reverse (path target)) rs) t target mode
  walk_leaves rs orderly quiet rooted =
      let out : Outcome = walk c t target mode limit (reverse (path target)) rs in
      let old : Table = record { limit = limit; requests = rs } in
      let new : Table = record { limit = limit; requests = out.requests } in
      let comes : HasOutcome old out out.answer new = (refl, refl) in
      record {
        orderly = orderly_after (reverse (path target)) rs orderly quiet;
        rooted = told_rooted c t target mode old new out.answer orderly quiet comes rooted;
        none_weaker = told_none_weaker c t target mode old new out.answer orderly quiet comes;
        others = told_others c t target mode old new out.answer orderly quiet comes;
        grows = told_grows c t target mode old new out.answer orderly quiet comes;
        done = told_done c t target mode old new out.answer orderly quiet comes;
        waits = λ g waits. let at = told_waiting c t target mode old new out.answer orderly quiet comes g waits in (at.1, at.2);
        quiet = told_quiet c t target mode old new out.answer orderly quiet comes;
      }

-- nothing has changed
refused_leaves : (rs : List Request) (t : ℕ) (target : Granule) (mode : Mode) → IsOrderly rs → is_waiting t rs ≡ false → AreRooted rs → Leaves rs (record { answer = Err fault.BadMode; requests = rs }) t target mode
refused_leaves rs t target mode orderly quiet rooted = record {
  orderly = orderly;
  rooted = rooted;
  none_weaker = λ u g m enough. enough;
  others = All-weaker (Contains rs) (λ r. (r.txn ≡ t) ⊎ (Contains rs r ⊎ Any (λ q. r ≡ granted q) rs)) (λ r there. inr (inl there)) rs (All-contains_itself rs);
  grows = λ g. inl refl;
  done = λ is. absurd cc;
  waits = λ g is. absurd cc;
  quiet = λ never. quiet;
}

pub acquired_leaves : (c : OnConflict) (table : Table) (t : ℕ) (target : Granule) (mode : Mode) → IsOrderly table.requests → is_waiting t table.requests ≡ false → AreRooted table.requests
    → Leaves table.requests (acquired c table t target mode) t target mode
acquired_leaves c table t target mode orderly quiet rooted = elim (cases_Bool (is_allowed (level_of target) mode)) [
  | inl allowed ↦ subst (λ (out : Outcome). Leaves table.requests out t target mode)
      (sym (ap (λ b. cond b (walk c t target mode table.limit (reverse (path target)) table.requests) (record { answer = Err fault.BadMode; requests = table.requests })) allowed))
      (walk_leaves c t target mode table.limit table.requests orderly quiet rooted)
  | inr refused ↦ subst (λ (out : Outcome). Leaves table.requests out t target mode)
      (sym (ap (λ b. cond b (walk c t target mode table.limit (reverse (path target)) table.requests) (record { answer = Err fault.BadMode; requests = table.requests })) refused))
      (refused_leaves table.requests t target mode orderly quiet rooted)
]

-- as its mode may be asked, or not
abbrev outcome_by : OnConflict → Table → ℕ → Granule → Mode → Bool → Outcome
outcome_by c table t target mode b = cond b (walk c t target mode table.limit (reverse (path target)) table.requests) (record { answer = Err fault.BadMode; requests = table.requests })

-- a try never waits
pub try_waits_not : (table : Table) (t : ℕ) (target : Granule) (mode : Mode) (g : Granule) → IsOrderly table.requests → is_waiting t table.requests ≡ false
    → (acquired Refuse table t target mode).answer ≡ Ok (acquire.Waiting g) → ⊥
try_waits_not table t target mode g orderly quiet = by (is_allowed (level_of target) mode)
  where
    by : (b : Bool) → (outcome_by Refuse table t target mode b).answer ≡ Ok (acquire.Waiting g) → ⊥
    by true waits =
        let may = (told_waiting Refuse t target mode table (record { limit = table.limit; requests = (outcome_by Refuse table t target mode true).requests })
        (outcome_by Refuse table t target mode true).answer orderly quiet (refl, refl) g waits).0 in
        absurd cc
    by false waits = absurd cc

-- what refuses it
pub acquired_refused : (c : OnConflict) (table : Table) (t : ℕ) (target : Granule) (mode : Mode) → IsOrderly table.requests → is_waiting t table.requests ≡ false
    → IfErr (acquired c table t target mode).answer (MayRefuse c (record { limit = table.limit; requests = (acquired c table t target mode).requests }) t target mode)
acquired_refused c table t target mode orderly quiet = by (is_allowed (level_of target) mode) refl
  where
    by : (b : Bool) → is_allowed (level_of target) mode ≡ b
        → IfErr (outcome_by c table t target mode b).answer (MayRefuse c (record { limit = table.limit; requests = (outcome_by c table t target mode b).requests }) t target mode)
    by true is =
        told_refused c t target mode table (record { limit = table.limit; requests = (outcome_by c table t target mode true).requests }) (outcome_by c table t target mode true).answer orderly quiet (refl, refl)
    by false is = is
