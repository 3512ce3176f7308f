use Rattle.std.proofs.Common.{◌≡◌, false, ap, sym, subst, ◌∙◌}
use Rattle.std.specs.Prelude.{All}
use Rattle.shore_locks.specs.Tables.{is_waiting}
use Rattle.shore_model.specs.Requests.{HasNoCycle}
use Rattle.shore_cycles.specs.Cycles.{IsOnEachCycle, IsOnNoCycle, after_victims}
use Rattle.shore_cycles.proofs.VictimLemmas.{free_after, none_left, victims_quiet}
use Rattle.shore_cycles.proofs.victims.break_cycles.Goals as goal

pub returns-clause-broken : goal.returns-clause-broken
returns-clause-broken c =
    let now : c.take_back.new.table.requests ≡ after_victims c.in_ok-victims.victims.items c.args.table.now.requests =
    ap (λ t. t.requests) c.take_back.ensures.table ∙ ap (λ vs. after_victims vs c.args.table.now.requests) c.deref.ensures.value in
    subst (λ rs. IsOnNoCycle rs c.args.txn) (sym now) (none_left c.args.table.now.requests c.args.txn c.in_ok-victims.victims.items c.tables_are_orderly.ensures c.in_ok-victims.ensures.all)

pub returns-clause-free : goal.returns-clause-free
returns-clause-free c =
    let now : c.take_back.new.table.requests ≡ after_victims c.in_ok-victims.victims.items c.args.table.now.requests =
    ap (λ t. t.requests) c.take_back.ensures.table ∙ ap (λ vs. after_victims vs c.args.table.now.requests) c.deref.ensures.value in
    subst (λ rs. IsOnEachCycle c.args.table.now.requests c.args.txn → HasNoCycle rs) (sym now)
    (free_after c.args.table.now.requests c.args.txn c.in_ok-victims.victims.items c.tables_are_orderly.ensures c.in_ok-victims.ensures.all)

pub returns-clause-quiet : goal.returns-clause-quiet
returns-clause-quiet c =
    let now : c.take_back.new.table.requests ≡ after_victims c.in_ok-victims.victims.items c.args.table.now.requests =
    ap (λ t. t.requests) c.take_back.ensures.table ∙ ap (λ vs. after_victims vs c.args.table.now.requests) c.deref.ensures.value in
    subst (λ rs. All (λ v. is_waiting v.txn rs ≡ false) c.in_ok-victims.victims.items) (sym now) (victims_quiet c.in_ok-victims.victims.items c.args.table.now.requests c.tables_are_orderly.ensures)
