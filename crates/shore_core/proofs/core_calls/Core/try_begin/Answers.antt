use Rattle.std.proofs.Common.{◌≡◌, ◌+◌, ◌≤◌, ◌++◌, ◌∷◌, [], inl, inr, length, length-append, refl, sym, ap, subst, ◌∙◌, arith}
use Rattle.shore_model.specs.declared.log_records.Payload.TheVariants.{CheckpointBegin}
use Rattle.laws_lives.specs.Views.{IsAmong}
use Rattle.laws_checkpoints.specs.Checkpoints.{of_checkpoint}
use Rattle.laws_checkpoints.specs.CheckpointedStores.{BeginLogged}
use Rattle.shore_check.specs.declared.stage.Mark.{Mark}
use Rattle.laws_calls.specs.States.{log_room}
use Rattle.laws_checkpoints.specs.RingRooms.{AdmitsCheckpoint}
use Rattle.laws_room.specs.LogRooms.{LogRoom}
use Rattle.shore_log.specs.Indexes.{AreBelow}
use Rattle.shore_log.specs.Settled.{FreesBelow}
use Rattle.shore_types.specs.declared.faults.Fault.TheVariants as fault
use Rattle.laws_checkpoints.specs.Checkpoints.{cut_point}
use Rattle.laws_runs.specs.CheckpointSteps.{freed_to, with_record}
use Rattle.shore_core.specs.Checkpointing.{with_store}
use Rattle.shore_core.specs.Cores.{control_of, durable_of, first_of, has_failed, txns_of, waiting_of}
use Rattle.shore_core.proofs.CheckpointSteps.{admits_as, admits_back, begins_none, counts_on, first_some, freed_is, over_noted, sums_are}
use Rattle.shore_core.proofs.Coming.{handed, over_as}
use Rattle.shore_core.proofs.Decided.{in_logged}
use Rattle.shore_core.proofs.Leaving.{in_lacking}
use Rattle.shore_txn.specs.Transactions.{room_in}
use Rattle.shore_core.proofs.Tables.{next_is}
use Rattle.shore_core.proofs.Taking.{true_false}
use Rattle.shore_core.proofs.core_calls.Core.try_begin.Goals as goal

pub returns-in_err-begun-clause-begins : goal.returns-in_err-begun-clause-begins
returns-in_err-begun-clause-begins g c running tail place groups holds front disk before s store is safe over kept may =
    begins_none tail groups c.args.self.now front disk before s store c.from_residual.result
    (handed c.from_residual.result _ fault.Memory c.from_residual.ensures.1 (c.in_err-begun.ensures.refused front disk before s store is safe over)) is over

pub returns-then-not-admits_checkpoint-clause-begins : goal.returns-then-not-admits_checkpoint-clause-begins
returns-then-not-admits_checkpoint-clause-begins g c running tail place groups holds front disk before s store is safe over kept may =
    let old = c.args.self.now in
    let works = is.beside.parts.failed_is ∙ running in
    let k = c.in_ok-begun.ensures.now front disk before s store is safe over works may.in_order may.at in
    let mark = ap (λ (m : Mark). m.tail) (c.mark.ensures k.0 k.2) in
    let least = first_some store may.in_order in
    let low = k.1.behind in
    let frees = c.cost_below-freed.ensures.freed tail place groups holds (omega (arith, mark, holds.first, holds.some, kept.cut, least, low)) in
    let found = subst (λ n. FreesBelow c.args.log.now n frees.0 c.cost_below-freed.result) mark frees.1 in
    let freed = freed_is c.args.log.now s store kept (cut_point k.0) frees.0 c.cost_below-freed.result found in
    let cost = c.cost.ensures k.0 k.2 in (
      inr (
        refl,
        (
          k.0,
          frees.0,
          record { now = counts_on c.args.log.now s store k.0 may.in_order kept k.1 frees.0 c.cost_below-freed.result found; before = frees.2.0; below = subst (λ n. AreBelow tail groups n frees.2.0 frees.0) mark frees.2.1 },
          λ admitted. true_false (sym (c.admits_checkpoint.ensures.1 (subst (λ (x : LogRoom). AdmitsCheckpoint x c.cost.result c.cost_below-freed.result) (sym (sums_are c.args.self.now c.sums.result c.sums.ensures.kept c.sums.ensures.reserved c.sums.ensures.stream c.sums.ensures.last))
              (admits_back old before s front disk is c.cost.result c.cost_below-freed.result
              (subst (AdmitsCheckpoint (log_room s) c.cost.result) (sym freed) (subst (λ n. AdmitsCheckpoint (log_room s) n (freed_to (with_store s store) frees.0)) (sym cost) admitted))))) ∙ c.if-not-admits_checkpoint.true),
        ),
      ),
      is,
      over,
    )

pub invariant_of-self : goal.invariant_of-self
invariant_of-self g c =
    let old = c.args.self.now in
    let same = ap length c.in-Err.ensures.none_added in
    let first = c.push_begin.ensures.first in
    record {
      some_number = omega (arith, same, first, old.some_number);
      forced = omega (arith, same, first, old.forced);
      numbers = omega (arith, same, first, old.numbers);
      earlier = λ t m. omega (arith, same, first, old.earlier t m);
    }

pub returns-in-Err-clause-begins : goal.returns-in-Err-clause-begins
returns-in-Err-clause-begins g c running tail place groups holds front disk before s store is safe over kept may = (
  inl c.in-Err.ensures.refused,
  in_lacking c.args.self.now _ front disk before s store refl c.push_begin.ensures.first c.in-Err.ensures.none_added refl refl refl is.beside.parts.stands is,
  over_as c.args.self.now _ disk s s store refl refl refl refl over,
)

pub note_checkpoint-requires : goal.note_checkpoint-requires
note_checkpoint-requires g c =
    let admitted = subst (λ (x : LogRoom). AdmitsCheckpoint x c.cost.result c.cost_below-freed.result) (sums_are c.args.self.now c.sums.result c.sums.ensures.kept c.sums.ensures.reserved c.sums.ensures.stream c.sums.ensures.last) (c.admits_checkpoint.ensures.0 c.if-not-admits_checkpoint.false) in
    let fits = admitted.fits in
    omega (arith, fits)

pub invariant_of-self-2 : goal.invariant_of-self-2
invariant_of-self-2 g c =
    let old = c.args.self.now in
    let more = ap length c.in-Ok.ensures.added ∙ length-append (waiting_of old) (_ ∷ []) in
    let risen : g.T.Tail.first c.push_begin.new.tail + length (g.T.Tail.records c.push_begin.new.tail) ≡ first_of old + length (waiting_of old) + 1 = omega (arith, more, c.push_begin.ensures.first) in
    let admitted = subst (λ (x : LogRoom). AdmitsCheckpoint x c.cost.result c.cost_below-freed.result) (sums_are c.args.self.now c.sums.result c.sums.ensures.kept c.sums.ensures.reserved c.sums.ensures.stream c.sums.ensures.last) (c.admits_checkpoint.ensures.0 c.if-not-admits_checkpoint.false) in
    let room = room_in (txns_of old) in
    let numbers = admitted.numbers in
    let fits = admitted.fits in
    record {
      some_number = omega (arith, risen, old.some_number);
      forced = omega (arith, risen, old.forced);
      numbers = omega (arith, risen, numbers, fits, room.short, c.note_checkpoint.ensures.reserved);
      earlier = λ t m. omega (arith, risen, old.earlier t (subst (IsAmong t) c.note_checkpoint.ensures.txns m));
    }

pub returns-clause-begins : goal.returns-clause-begins
returns-clause-begins g c running tail place groups holds front disk before s store is safe over kept may =
    let old = c.args.self.now in
    let works = is.beside.parts.failed_is ∙ running in
    let k = c.in_ok-begun.ensures.now front disk before s store is safe over works may.in_order may.at in
    let mark = ap (λ (m : Mark). m.tail) (c.mark.ensures k.0 k.2) in
    let least = first_some store may.in_order in
    let low = k.1.behind in
    let frees = c.cost_below-freed.ensures.freed tail place groups holds (omega (arith, mark, holds.first, holds.some, kept.cut, least, low)) in
    let found = subst (λ n. FreesBelow c.args.log.now n frees.0 c.cost_below-freed.result) mark frees.1 in
    let freed = freed_is c.args.log.now s store kept (cut_point k.0) frees.0 c.cost_below-freed.result found in
    let admitted = subst (λ (x : LogRoom). AdmitsCheckpoint x c.cost.result c.cost_below-freed.result) (sums_are c.args.self.now c.sums.result c.sums.ensures.kept c.sums.ensures.reserved c.sums.ensures.stream c.sums.ensures.last) (c.admits_checkpoint.ensures.0 c.if-not-admits_checkpoint.false) in
    let number = c.in-Ok.ensures.number ∙ sym (next_is (control_of old) (waiting_of old) (durable_of old) (has_failed old) before s is.beside.parts (first_of old) is.beside.first 0) ∙ sym k.1.begin in
    let r = of_checkpoint CheckpointBegin in
    let added = c.in-Ok.ensures.added in (
      k.0,
      frees.0,
      record { now = counts_on c.args.log.now s store k.0 may.in_order kept k.1 frees.0 c.cost_below-freed.result found; before = frees.2.0; below = subst (λ n. AreBelow tail groups n frees.2.0 frees.0) mark frees.2.1 },
      subst (λ n. AdmitsCheckpoint (log_room s) n (freed_to (with_store s store) frees.0)) (c.cost.ensures k.0 k.2)
          (subst (AdmitsCheckpoint (log_room s) c.cost.result) freed (admits_as old before s front disk is c.cost.result c.cost_below-freed.result admitted)),
      number,
      k.2,
      in_logged old _ front disk before s (with_record r s) store is over refl c.push_begin.ensures.first refl refl c.note_checkpoint.ensures.claims (λ p. refl) r added
          (c.note_checkpoint.ensures.stands s r is.beside.parts.stands refl refl) refl refl refl,
      over_noted old _ disk s store r (BeginLogged k.0) refl refl over,
    )

-- ---- what is kept aside

pub returns-clause-aside : goal.returns-clause-aside
returns-clause-aside g c keeps = c.in-Ok.ensures.aside keeps
