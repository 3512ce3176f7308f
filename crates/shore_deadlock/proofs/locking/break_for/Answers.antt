use Rattle.std.proofs.Common.{◌≡◌, ◌-◌, ◌++◌, ap, ◌∙◌, length, take, drop, arith}
use Rattle.shore_cycles.specs.Blockers.{is_victim}
use Rattle.shore_cycles.specs.Cycles.{after_victims}
use Rattle.shore_deadlock.proofs.Lockings.{broken_of, rest_of}
use Rattle.shore_deadlock.proofs.locking.break_for.Goals as goal

pub returns-clause-broken : goal.returns-clause-broken
returns-clause-broken c =
    let told : c.append.new.self.items ≡ c.args.victims.now.items ++ c.in_ok-chosen.chosen.items = c.in_ok-append.ensures.items in
    let whole : c.deref-2.result.now ≡ c.args.victims.now.items ++ c.in_ok-chosen.chosen.items = c.deref-2.ensures.value ∙ told in
    let known : c.len-known.result ≡ length c.args.victims.now.items = omega (arith, c.len-known.ensures) in
    let rest : take (length c.deref-2.result.now - c.len-known.result) (drop c.len-known.result c.deref-2.result.now) ≡ c.in_ok-chosen.chosen.items =
    ap (λ xs. take (length c.deref-2.result.now - c.len-known.result) (drop c.len-known.result xs)) whole
    ∙ rest_of c.args.victims.now.items c.in_ok-chosen.chosen.items c.len-known.result (length c.deref-2.result.now) known (ap length whole) in
    let after : c.take_back.new.table.requests ≡ after_victims c.in_ok-chosen.chosen.items c.args.table.now.requests =
    ap (λ t. t.requests) c.take_back.ensures.table ∙ ap (λ vs. after_victims vs c.args.table.now.requests) rest in (
      c.in_ok-chosen.chosen.items,
      broken_of c.args.table.now.requests c.args.txn c.in_ok-chosen.chosen.items c.take_back.new.table.requests c.tables_are_orderly.ensures c.in_ok-chosen.ensures.victims c.in_ok-chosen.ensures.all after,
      c.is_victim-own.ensures ∙ ap (λ vs. is_victim vs c.args.txn) c.deref.ensures.value,
      told,
    )
