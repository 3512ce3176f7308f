use Rattle.std.proofs.Common.{◌≡◌, ◌+◌, ◌++◌, ◌∷◌, [], ℕ, List, refl, sym, ap, subst, ◌∙◌, take, take_all}
use Rattle.std.proofs.lemmas.List.{take_more}
use Rattle.shore_types.specs.declared.locking.Granule.{Granule}
use Rattle.shore_types.specs.declared.locking.Mode.TheVariants.{EX}
use Rattle.shore_dwrite.proofs.Moves.{if_err}
use Rattle.shore_model.specs.Locks.{path}
use Rattle.shore_model.specs.Requests.{held_by_all}
use Rattle.shore_path.specs.Restoring.{StopsAmong, TakesWhole}
use Rattle.shore_path.specs.Walks.{asked_of}
use Rattle.laws_lives.specs.Doubts.{LoggedDoubt}
use Rattle.shore_restart.specs.Doubts.{AreLocksOf, HasNoPlace}
use Rattle.shore_restart.proofs.Locks.{keeps_on, starts, takes_locks, with_granules}
use Rattle.shore_restart.proofs.LockRefusals.{stops_one}
use Rattle.shore_restart.proofs.doubts.restore_locks.Goals as goal

pub loop-granule-init : goal.loop-granule-init
loop-granule-init c = record {
  keeps = record { limit = refl; others = refl; nobody = c.requires; rooted = λ rooted. rooted };
  so_far = λ before d locks txn. starts before d (held_by_all c.args.locks.now.requests) locks;
}

pub restore_one-requires : goal.restore_one-requires
restore_one-requires c = c.loop-granule.invariant.keeps.nobody

pub loop-granule-preserved : goal.loop-granule-preserved
loop-granule-preserved c =
    let so = c.loop-granule.invariant in
    let gs = c.args.granules.now in
    let n = c.loop-granule.granule-index in
    let g = c.granule-item.result in
    let rs = c.loop-granule.locks.requests in
    let new = c.restore_one.new.locks.requests in
    let more : take (n + 1) gs ≡ take n gs ++ g ∷ [] = take_more gs n g c.loop-granule-test.true ∙ ap (λ (h : Granule). take n gs ++ h ∷ []) (sym c.granule-item.is) in
    record {
      keeps = keeps_on c.args.locks.now c.loop-granule.locks c.restore_one.new.locks c.args.entry.now.txn so.keeps c.restore_one.ensures.keeps;
      so_far = λ before d locks txn.
          subst (λ (done : List Granule). AreLocksOf (before ++ with_granules d done ∷ []) (held_by_all new)) (sym more)
          (takes_locks before d (take n gs) g rs new c.restore_one.ensures.was.one_each c.restore_one.ensures.is.one_each
          (subst (λ (t : ℕ). TakesWhole rs new t g) (sym txn) c.in_ok-restore_one.ensures.ok) (so.so_far before d locks txn));
    }

pub returns-in_err-restore_one-clause-refused : goal.returns-in_err-restore_one-clause-refused
returns-in_err-restore_one-clause-refused c before d locks apart txn granules =
    let so = c.loop-granule.invariant in
    let g = c.granule-item.result in
    let stops = c.in_err-restore_one.ensures.err in
    let its : StopsAmong c.loop-granule.locks c.restore_one.new.locks d.txn (path g) (asked_of g EX) stops.1.0 =
    subst (λ (t : ℕ). StopsAmong c.loop-granule.locks c.restore_one.new.locks t (path g) (asked_of g EX) stops.1.0) (sym txn) stops.1.1 in
    let no_place : HasNoPlace c.args.locks.now.limit before d =
    subst (λ (limit : ℕ). HasNoPlace limit before d) (c.restore_one.ensures.keeps.limit ∙ so.keeps.limit)
    (stops_one before d c.args.granules.now c.loop-granule.granule-index g c.loop-granule.locks c.restore_one.new.locks granules c.loop-granule-test.true c.granule-item.is c.restore_one.ensures.was c.restore_one.ensures.is
    c.restore_one.ensures.keeps.nobody (so.so_far before d locks txn) stops.1.0 its) in
    if_err c.from_residual.result c.from_residual.ensures.1 (λ error same. (same ∙ stops.0, no_place))

pub returns-clause-taken : goal.returns-clause-taken
returns-clause-taken c before d locks apart txn granules =
    subst (λ (it : LoggedDoubt). AreLocksOf (before ++ it ∷ []) (held_by_all c.loop-granule.locks.requests))
    (ap (with_granules d) (take_all c.loop-granule.granule-index c.args.granules.now c.loop-granule-test.false ∙ sym granules))
    (c.loop-granule.invariant.so_far before d locks txn)
