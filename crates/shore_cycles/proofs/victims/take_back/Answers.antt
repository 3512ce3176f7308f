use Rattle.std.proofs.Common.{◌≡◌, ◌+◌, ◌∷◌, suc, drop, drop-cons, false, arith, ap, subst, sym, ◌∙◌}
use Rattle.shore_locks.specs.Grants.{cancelled}
use Rattle.shore_locks.specs.Tables.{Table, is_waiting}
use Rattle.shore_locks.proofs.Tellings.{Quiet, told_on}
use Rattle.shore_cycles.specs.Cycles.{after_victims}
use Rattle.shore_cycles.proofs.Steps.{cancelled_keeps_quiet}
use Rattle.shore_cycles.proofs.victims.take_back.Goals as goal

pub loop-victim-preserved : goal.loop-victim-preserved
loop-victim-preserved c =
    let i = c.loop-victim.victim-index in
    let vs = c.args.victims.now in
    let v = c.victim-item.result in
    let rs = c.loop-victim.table.requests in
    let more : suc i ≡ i + 1 = omega arith in
    let rest : drop i vs ≡ v ∷ drop (i + 1) vs =
    drop-cons vs i v c.loop-victim-test.true ∙ ap (λ x. x ∷ drop (suc i) vs) (sym c.victim-item.is) ∙ ap (λ k. v ∷ drop k vs) more in
    let now : c.cancel.new.self.requests ≡ cancelled v.txn rs = ap (λ (t : Table). t.requests) c.cancel.ensures.table in
    let quiet : Quiet rs c.cancel.new.self.requests = λ u none. subst (λ xs. is_waiting u xs ≡ false) (sym now) (cancelled_keeps_quiet rs v.txn u c.tables_are_orderly.ensures.one_each none) in
    record {
      same_limit = ap (λ (t : Table). t.limit) c.cancel.ensures.table ∙ c.loop-victim.invariant.same_limit;
      so_far = ap (after_victims (drop (i + 1) vs)) now ∙ sym (ap (λ xs. after_victims xs rs) rest) ∙ c.loop-victim.invariant.so_far;
      quiet = λ u none. quiet u (c.loop-victim.invariant.quiet u none);
      told = told_on c.args.table.now.requests rs c.cancel.new.self.requests c.args.let_through.now c.loop-victim.let_through c.cancel.new.let_through
          c.loop-victim.invariant.quiet quiet c.loop-victim.invariant.told c.cancel.ensures.told;
    }
