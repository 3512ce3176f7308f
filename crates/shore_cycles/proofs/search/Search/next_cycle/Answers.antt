use Rattle.std.proofs.Common.{◌≡◌, ◌<◌, ◌≤◌, ◌+◌, length, true, false, sym, subst, ap, ◌∙◌, arith}
use Rattle.shore_cycles.specs.Blockers.{blockers, is_among}
use Rattle.shore_cycles.specs.Reached.{txn_at}
use Rattle.shore_cycles.specs.Searching.{IsUnderWay}
use Rattle.shore_cycles.proofs.ReachedLemmas.{unreached}
use Rattle.shore_cycles.proofs.Searches.{fewer_left, met_waits, none_passes, shared_on, under_way_on, way_closes, way_spared}
use Rattle.shore_cycles.proofs.search.Search.next_cycle.Goals as goal

pub returns-then-branch-clause-found : goal.returns-then-branch-clause-found
returns-then-branch-clause-found c =
    let within : c.loop-self.self.index < length c.loop-self.self.trail.steps = omega (arith, c.len.ensures, c.loop-self-test.true) in
    let met : is_among (blockers (txn_at c.loop-self.self.trail.steps c.loop-self.self.index) c.args.table.now.requests) c.args.self.now.txn ≡ true =
    subst (λ x. is_among (blockers x c.args.table.now.requests) c.args.self.now.txn ≡ true) c.txn_at-from.ensures
    (subst (λ y. is_among (blockers c.txn_at-from.result c.args.table.now.requests) y ≡ true) c.loop-self.invariant.txn (sym c.in_ok-list_blockers.ensures.met ∙ c.if-branch.true)) in (
      way_closes c.args.table.now.requests c.args.self.now.victims.items c.args.self.now.txn c.loop-self.self.trail c.loop-self.self.index c.in_ok-cycle.cycle.items
          c.loop-self.invariant.under_way c.in_ok-cycle.ensures
          (met_waits c.args.table.now.requests c.args.self.now.txn (txn_at c.loop-self.self.trail.steps c.loop-self.self.index) c.tables_are_orderly.ensures met),
      way_spared c.args.table.now.requests c.args.self.now.victims.items c.args.self.now.txn c.loop-self.self.trail c.loop-self.self.index c.in_ok-cycle.cycle.items
          c.loop-self.invariant.under_way within c.in_ok-cycle.ensures,
      within,
    )

pub loop-self-preserved : goal.loop-self-preserved
loop-self-preserved c =
    let within : c.loop-self.self.index < length c.loop-self.self.trail.steps = omega (arith, c.len.ensures, c.loop-self-test.true) in
    let are : c.deref.result.now ≡ blockers (txn_at c.loop-self.self.trail.steps c.loop-self.self.index) c.args.table.now.requests =
    c.deref.ensures.value ∙ c.in_ok-list_blockers.ensures.listed c.if-branch.false ∙ ap (λ x. blockers x c.args.table.now.requests) c.txn_at-from.ensures in
    let without : is_among (blockers (txn_at c.loop-self.self.trail.steps c.loop-self.self.index) c.args.table.now.requests) c.args.self.now.txn ≡ false =
    subst (λ x. is_among (blockers x c.args.table.now.requests) c.args.self.now.txn ≡ false) c.txn_at-from.ensures
    (subst (λ y. is_among (blockers c.txn_at-from.result c.args.table.now.requests) y ≡ false) c.loop-self.invariant.txn (sym c.in_ok-list_blockers.ensures.met ∙ c.if-branch.false)) in
    record {
      txn = c.loop-self.invariant.txn;
      victims = c.loop-self.invariant.victims;
      under_way = subst (λ s. IsUnderWay c.args.table.now.requests c.args.self.now.victims.items c.args.self.now.txn s (c.loop-self.self.index + 1)) (sym c.in_ok-extend.ensures)
          (under_way_on c.args.table.now.requests c.args.self.now.victims.items c.args.self.now.txn c.loop-self.self.trail c.loop-self.self.index c.deref.result.now
          c.tables_are_orderly.ensures c.loop-self.invariant.under_way within are without);
    }

pub loop-self-smaller : goal.loop-self-smaller
loop-self-smaller c =
    let within : c.loop-self.self.index < length c.loop-self.self.trail.steps = omega (arith, c.len.ensures, c.loop-self-test.true) in
    let are : c.deref.result.now ≡ blockers (txn_at c.loop-self.self.trail.steps c.loop-self.self.index) c.args.table.now.requests =
    c.deref.ensures.value ∙ c.in_ok-list_blockers.ensures.listed c.if-branch.false ∙ ap (λ x. blockers x c.args.table.now.requests) c.txn_at-from.ensures in
    let fewer = fewer_left c.args.table.now.requests c.args.self.now.victims.items c.args.self.now.txn c.loop-self.self.trail c.loop-self.self.index c.deref.result.now
    c.tables_are_orderly.ensures c.loop-self.invariant.under_way within are in
    let a = ap (λ s. length s.steps) c.in_ok-extend.ensures in
    let b = ap (λ s. unreached c.args.table.now.requests s.steps) c.in_ok-extend.ensures in
    omega (arith, fewer, a, b, within)

pub returns-clause-none : goal.returns-clause-none
returns-clause-none c =
    let all : length c.loop-self.self.trail.steps ≤ c.loop-self.self.index = omega (arith, c.len.ensures, c.loop-self-test.false) in
    none_passes c.args.table.now.requests c.args.self.now.victims.items c.args.self.now.txn c.loop-self.self.trail c.loop-self.self.index c.loop-self.invariant.under_way all

pub loop-self-preserved-then-is_shared : goal.loop-self-preserved-then-is_shared
loop-self-preserved-then-is_shared c =
    let within : c.loop-self.self.index < length c.loop-self.self.trail.steps = omega (arith, c.len.ensures, c.loop-self-test.true) in
    let shares = c.is_shared.ensures c.if-is_shared.true in
    record {
      txn = c.loop-self.invariant.txn;
      victims = c.loop-self.invariant.victims;
      under_way = shared_on c.args.table.now.requests c.args.self.now.victims.items c.args.self.now.txn c.loop-self.self.trail c.loop-self.self.index
          c.tables_are_orderly.ensures c.loop-self.invariant.under_way within shares.0 shares.1;
    }
