-- The lock table that a restart has made is in bounds: it has no more requests than the geometry says, each for a granule that is there.
use Rattle.std.proofs.Common.{◌≡◌, inl, inr, ◌≤◌, ℕ, List, [], ◌∷◌, false, Option, None, Some, refl, sym, ap, subst, ◌∙◌, length, map, arith}
use Rattle.std.specs.Prelude.{◌||◌, All, Contains, IsTrue, is_some}
use Rattle.std.specs.List.{AllByRecursion, filter_map}
use Rattle.std.proofs.lemmas.Bool.{cases_lt}
use Rattle.std.proofs.lemmas.List.{length-map}
use Rattle.std.proofs.lemmas.List.Elements.{All-from_recursion}
use Rattle.shore_types.specs.Layout.{HasGranule}
use Rattle.shore_types.specs.declared.layout.Geometry.{Geometry}
use Rattle.shore_types.specs.declared.locking.Granule.{Granule}
use Rattle.shore_types.specs.declared.locking.Granule.TheVariants as granule
use Rattle.shore_types.specs.declared.locking.Mode.{Mode}
use Rattle.shore_model.specs.declared.log_records.LogRecord.{LogRecord}
use Rattle.shore_model.specs.declared.log_records.Payload.{Payload}
use Rattle.shore_model.specs.declared.log_records.Payload.TheVariants.{Prepare}
use Rattle.shore_model.specs.declared.requests.Request.{Request}
use Rattle.shore_model.specs.Locks.{ancestors}
use Rattle.shore_model.specs.Logs.{is_in_doubt}
use Rattle.shore_model.specs.Requests.{held_by_all}
use Rattle.shore_locks.specs.Orderly.{IsOfUse}
use Rattle.shore_locks.specs.Tables.{Table}
use Rattle.shore_locks.proofs.Members.{Contains-In, In, In-All}
use Rattle.shore_path.proofs.Holding.{In-filter_map, held_as}
use Rattle.shore_path.proofs.Restored.{wants_none}
use Rattle.shore_analysis.specs.Meant.{IsInBounds, granules_in}
use Rattle.laws_lives.proofs.DoubtRecords.{among_filter}
use Rattle.laws_lives.proofs.Lists.{mapped_one}
use Rattle.laws_lives.specs.Doubts.{LoggedDoubt, NeedMore, doubt_by, doubt_of, doubts_in, node_of, restored_locks}
use Rattle.laws_lives.specs.Views.{IsAmong}
use Rattle.laws_calls.proofs.Rows.{page_has_store}
use Rattle.laws_calls.specs.States.{State}
use Rattle.laws_runs.specs.RoomyStates.{HasLocksInBounds}
use Rattle.shore_analysis.specs.Doubts.{doubts_left}
use Rattle.shore_restart.specs.Doubts.{AreLocksOf, IsLockOf}
use Rattle.shore_restart.specs.GivenBack.{HasLocksBack}
use Rattle.shore_restart.proofs.LockRefusals.{node_for, node_of_lock, once}
use Rattle.shore_restart.proofs.Locks.{HeldAs, as_modes, hold_as}

-- ---- lists

among_in : {A : Type 0} (xs : List A) (x : A) → IsAmong x xs → In x xs
among_in [] x none = none
among_in (y ∷ xs) x (inl same) = inl same
among_in (y ∷ xs) x (inr there) = inr (among_in xs x there)

each_in : {A : Type 0} (P : A → Type 0) (xs : List A) → ((x : A) → In x xs → P x) → AllByRecursion P xs
each_in P [] each = tt
each_in P (x ∷ xs) each = (each x (inl refl), each_in P xs (λ y there. each y (inr there)))

-- ---- granules

-- what lies above a granule that is there is there
above_there : (g : Geometry) (x a : Granule) → HasGranule g x → In a (ancestors x) → HasGranule g a
above_there g granule.Volume a has none = absurd none
above_there g (granule.Store s) a has (inl same) = subst (HasGranule g) same tt
above_there g (granule.Store s) a has (inr none) = absurd none
above_there g (granule.Page p) a has (inl same) = subst (HasGranule g) same (page_has_store g p has)
above_there g (granule.Page p) a has (inr (inl same)) = subst (HasGranule g) same tt
above_there g (granule.Page p) a has (inr (inr none)) = absurd none
above_there g (granule.Record r) a has (inl same) = subst (HasGranule g) same has.0
above_there g (granule.Record r) a has (inr (inl same)) = subst (HasGranule g) same (page_has_store g r.page has.0)
above_there g (granule.Record r) a has (inr (inr (inl same))) = subst (HasGranule g) same tt
above_there g (granule.Record r) a has (inr (inr (inr none))) = absurd none

-- the granules of one in doubt are those that a record names
named_by : (t : ℕ) (p : Payload) (d : LoggedDoubt) → doubt_by t p ≡ Some d → granules_in p ≡ d.granules
named_by t (Prepare global granules) d is = same is
  where
    same : {c e : LoggedDoubt} → Some c ≡ Some e → c.granules ≡ e.granules
    same e = cc
named_by t _ d is = cc

module _ (g : Geometry) (log : List LogRecord) (inside : All (IsInBounds g) log) where
  doubt_there : (d : LoggedDoubt) (x : Granule) → IsAmong d (doubts_in log) → Contains d.granules x → HasGranule g x
  doubt_there d x there names =
      let r = In-filter_map doubt_of log d (among_in (filter_map doubt_of log) d (among_filter (λ (e : LoggedDoubt). is_in_doubt e.txn log) d (filter_map doubt_of log) there).0) in
      let bounds = In-All (IsInBounds g) log r.0 inside r.1 in
      let all : All (HasGranule g) d.granules = subst (All (HasGranule g)) (named_by r.0.txn r.0.payload d r.2) bounds.granules.inside in
      In-All (HasGranule g) d.granules x all (Contains-In d.granules x names)

  lock_there : (t : ℕ) (a : Granule) (m : Mode) → IsLockOf (doubts_in log) (hold_as t a m) → HasGranule g a
  lock_there t a m (d, x, among, by, names, how) = elim how [
    | inl own ↦ subst (HasGranule g) (sym own.1) (doubt_there d x among names)
    | inr above ↦ above_there g x a (doubt_there d x among names) (Contains-In (ancestors x) a above.1)
  ]

  -- ---- the table

  module _ (seen : List LogRecord) (same : doubts_left seen ≡ doubts_in log) (table : Table) (back : HasLocksBack g.max_locks seen table) where
    held : HeldAs (doubts_in log) table.requests
    held = as_modes (doubts_in log) table.requests back.orderly.one_each (subst (λ (ds : List LoggedDoubt). AreLocksOf ds (held_by_all table.requests)) same back.restored)

    holds_some : (h w : Option Mode) → IsTrue (is_some h || is_some w) → is_some w ≡ false → (m : Mode) × (h ≡ Some m)
    holds_some (Some m) w of_use none = (m, refl)
    holds_some None None of_use none = cc
    holds_some None (Some w) of_use none = cc

    -- each request holds a lock of one in doubt
    its_lock : (r : Request) → In r table.requests → (m : Mode) × IsLockOf (doubts_in log) (hold_as r.txn r.granule m)
    its_lock r there =
        let of_use = In-All IsOfUse table.requests r back.orderly.of_use there in
        let m = holds_some r.held r.wanted of_use (wants_none table.requests back.nobody_waits r there) in
        (m.0, held.each r.txn r.granule m.0 (held_as table.requests back.orderly.one_each r there ∙ m.1))

    within : (NeedMore g.max_locks (doubts_in log) → ⊥) → length table.requests ≤ g.max_locks
    within few = elim (cases_lt g.max_locks (length table.requests)) [
      | inl more ↦ absurd (few (
        map node_for table.requests,
        once table.requests back.orderly.one_each,
        λ x there.
            let r = mapped_one node_for x table.requests there in
            let lock = its_lock r.0 (among_in table.requests r.0 r.1) in
            subst (λ (y : ℕ × Granule). IsAmong y (map node_of (restored_locks (doubts_in log)))) r.2 (node_of_lock (doubts_in log) r.0.txn r.0.granule lock.0 lock.1),
        (let many = length-map table.requests node_for in omega (arith, many, more)),
      ))
      | inr most ↦ most
    ]

    pub locks_in_bounds : (s : State) → s.locks ≡ table → (NeedMore g.max_locks (doubts_in log) → ⊥) → HasLocksInBounds g s
    locks_in_bounds s its few =
        let limit = back.limit_is in
        let most = within few in
        let as_many = ap (λ (t : Table). length t.requests) its in
        let as_limited = ap (λ (t : Table). t.limit) its in
        record {
          limit = omega (arith, as_limited, limit);
          within = omega (arith, as_many, as_limited, limit, most);
          inside = subst (λ (t : Table). All (λ r. HasGranule g r.granule) t.requests) (sym its)
              (All-from_recursion (λ (r : Request). HasGranule g r.granule) table.requests
              (each_in (λ (r : Request). HasGranule g r.granule) table.requests (λ r there. let lock = its_lock r there in lock_there r.txn r.granule lock.0 lock.1)));
        }
