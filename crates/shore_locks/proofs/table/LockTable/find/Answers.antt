use Rattle.std.proofs.Common.{ap, sym, ◌∙◌}
use Rattle.shore_nodes.specs.Tables.{Table, is_waiting, mode_held}
use Rattle.shore_locks.proofs.Cached.{held_so, holds_still, known_noted, quiet_noted}
use Rattle.shore_locks.proofs.table.LockTable.find.Goals as goal

pub returns-in-Some-clause-held : goal.returns-in-Some-clause-held
returns-in-Some-clause-held c =
    sym (held_so c.self.inside.cache.entries c.self.inside.nodes.requests c.args.txn c.args.granule.now c.in-Some.known c.self.invariant.kept.orderly.one_each c.self.invariant.known (sym c.in-Some.ensures))
    ∙ ap (λ (t : Table). mode_held c.args.txn c.args.granule.now t.requests) c.self.view_is

pub invariant_of-self : goal.invariant_of-self
invariant_of-self c =
    let rs = c.self.inside.nodes.requests in
    let held = sym (c.in_ok-mode.ensures ∙ ap (mode_held c.args.txn c.args.granule.now) c.nodes.ensures.requests) in
    record {
      kept = c.self.invariant.kept;
      known = known_noted c.self.inside.cache.entries c.note.new.self.entries rs rs c.args.txn c.args.granule.now c.in_ok-mode.mode c.note.ensures c.self.invariant.known
          (holds_still c.args.txn c.args.granule.now c.in_ok-mode.mode rs (ap (λ (t : Table). is_waiting c.args.txn t.requests) c.self.view_is ∙ c.requires) held) (λ u h k there other. there);
      quiet = quiet_noted c.self.inside.cache.entries c.note.new.self.entries rs rs c.args.txn c.args.granule.now c.in_ok-mode.mode c.note.ensures c.self.invariant.quiet
          (ap (λ (t : Table). is_waiting c.args.txn t.requests) c.self.view_is ∙ c.requires) (λ u quiet. quiet);
    }
