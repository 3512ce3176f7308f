use Rattle.std.proofs.Common.{◌≡◌, ◌++◌, ◌∷◌, [], ap, sym, subst, ◌∙◌, arith}
use Rattle.std.proofs.lemmas.Bool.Decides.{Decides-eqb}
use Rattle.shore_cycles.specs.Cycles.{AreVictims, IsOnNoCycleWithout, IsSimpleCycleFrom}
use Rattle.shore_cycles.specs.Searching.{IsUnderWay}
use Rattle.shore_cycles.proofs.VictimLemmas.{IsChosen, chosen_more, fewer_unharmed, none_past, unharmed}
use Rattle.shore_cycles.proofs.Walks.{unawaited_on_none}
use Rattle.shore_cycles.proofs.victims.choose.Goals as goal

pub loop-search-preserved : goal.loop-search-preserved
loop-search-preserved c =
    let found = rw c.in-Some.is at c.in_ok-cycle.ensures.found in
    let it : IsChosen c.args.table.now.requests c.args.txn c.loop-search.search.victims.items c.in-Some.cycle.items c.victim_of-victim.result =
    record {
      simple = subst (λ t. IsSimpleCycleFrom c.args.table.now.requests t c.in-Some.cycle.items) c.loop-search.invariant.txn found.0;
      spared = found.1;
      made = record { turned = c.victim_of-victim.ensures.turned; first = c.victim_of-victim.ensures.first; greatest = c.victim_of-victim.ensures.greatest };
    } in
    let now : c.pass_over.new.self.victims.items ≡ c.loop-search.search.victims.items ++ c.victim_of-victim.result ∷ [] =
    c.in_ok-pass_over.ensures.same.1 ∙ ap (λ vs. vs.items ++ c.victim_of-victim.result ∷ []) c.in_ok-cycle.ensures.same.1 in
    record {
      txn = c.in_ok-pass_over.ensures.same.0 ∙ c.in_ok-cycle.ensures.same.0 ∙ c.loop-search.invariant.txn;
      victims = subst (AreVictims c.args.table.now.requests c.args.txn) (sym now)
          (chosen_more c.args.table.now.requests c.args.txn c.loop-search.search.victims.items c.in-Some.cycle.items c.victim_of-victim.result
          c.tables_are_orderly.ensures c.loop-search.invariant.victims it);
      under_way = subst (λ t. IsUnderWay c.args.table.now.requests c.pass_over.new.self.victims.items t c.pass_over.new.self.trail c.pass_over.new.self.index)
          (c.in_ok-cycle.ensures.same.0 ∙ c.loop-search.invariant.txn)
          (c.in_ok-pass_over.ensures.under_way c.args.table.now.requests
          (subst (λ t. IsUnderWay c.args.table.now.requests c.next_cycle.new.self.victims.items t c.next_cycle.new.self.trail c.next_cycle.new.self.index) (sym c.in_ok-cycle.ensures.same.0)
          (subst (λ vs. IsUnderWay c.args.table.now.requests vs.items c.loop-search.search.txn c.next_cycle.new.self.trail c.next_cycle.new.self.index) (sym c.in_ok-cycle.ensures.same.1)
          c.in_ok-cycle.ensures.under_way)));
    }

pub loop-search-init : goal.loop-search-init
loop-search-init c = record {
  txn = c.in_ok-search.ensures.0;
  victims = subst (AreVictims c.args.table.now.requests c.args.txn) (sym c.in_ok-search.ensures.1) tt;
  under_way = c.in_ok-search.ensures.2 c.args.table.now.requests;
}

pub loop-search-smaller : goal.loop-search-smaller
loop-search-smaller c =
    let found = rw c.in-Some.is at c.in_ok-cycle.ensures.found in
    let it : IsChosen c.args.table.now.requests c.args.txn c.loop-search.search.victims.items c.in-Some.cycle.items c.victim_of-victim.result =
    record {
      simple = subst (λ t. IsSimpleCycleFrom c.args.table.now.requests t c.in-Some.cycle.items) c.loop-search.invariant.txn found.0;
      spared = found.1;
      made = record { turned = c.victim_of-victim.ensures.turned; first = c.victim_of-victim.ensures.first; greatest = c.victim_of-victim.ensures.greatest };
    } in
    let now : c.pass_over.new.self.victims.items ≡ c.loop-search.search.victims.items ++ c.victim_of-victim.result ∷ [] =
    c.in_ok-pass_over.ensures.same.1 ∙ ap (λ vs. vs.items ++ c.victim_of-victim.result ∷ []) c.in_ok-cycle.ensures.same.1 in
    let fewer = fewer_unharmed c.args.table.now.requests c.args.txn c.loop-search.search.victims.items c.in-Some.cycle.items c.victim_of-victim.result it.simple it.spared it.made in
    let same = ap (λ vs. unharmed vs c.args.table.now.requests) now in
    omega (arith, fewer, same)

pub returns-then-eq-clause-victims : goal.returns-then-eq-clause-victims
returns-then-eq-clause-victims c =
    let found = rw c.in-Some.is at c.in_ok-cycle.ensures.found in
    let it : IsChosen c.args.table.now.requests c.args.txn c.loop-search.search.victims.items c.in-Some.cycle.items c.victim_of-victim.result =
    record {
      simple = subst (λ t. IsSimpleCycleFrom c.args.table.now.requests t c.in-Some.cycle.items) c.loop-search.invariant.txn found.0;
      spared = found.1;
      made = record { turned = c.victim_of-victim.ensures.turned; first = c.victim_of-victim.ensures.first; greatest = c.victim_of-victim.ensures.greatest };
    } in
    let now = c.in_ok-victims.ensures.victims ∙ ap (λ vs. vs.items ++ c.victim_of-victim.result ∷ []) c.in_ok-cycle.ensures.same.1 in
    subst (AreVictims c.args.table.now.requests c.args.txn) (sym now)
    (chosen_more c.args.table.now.requests c.args.txn c.loop-search.search.victims.items c.in-Some.cycle.items c.victim_of-victim.result
    c.tables_are_orderly.ensures c.loop-search.invariant.victims it)

pub returns-then-eq-clause-all : goal.returns-then-eq-clause-all
returns-then-eq-clause-all c =
    subst (λ vs. IsOnNoCycleWithout vs c.args.table.now.requests c.args.txn) (sym c.in_ok-victims.ensures.victims)
    (none_past c.args.table.now.requests c.args.txn c.next_cycle.new.self.victims.items c.victim_of-victim.result ((Decides-eqb c.victim_of-victim.result.txn c.args.txn).0 (sym c.if-eq.ensures)))

pub returns-then-not-may_be_awaited-clause-all : goal.returns-then-not-may_be_awaited-clause-all
returns-then-not-may_be_awaited-clause-all c = λ cycle closed there _.
    unawaited_on_none c.args.table.now.requests c.args.txn (c.may_be_awaited.ensures c.if-not-may_be_awaited.true) cycle closed there
