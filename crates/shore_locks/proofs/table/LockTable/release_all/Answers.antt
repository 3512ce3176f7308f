use Rattle.std.proofs.Common.{◌≡◌, ap, sym, subst, ◌∙◌}
use Rattle.std.specs.Prelude.{is_some}
use Rattle.shore_nodes.specs.LetThrough.{Tells, TellsOthers}
use Rattle.shore_nodes.specs.Tables.{Table, is_waiting, waiting_request}
use Rattle.shore_locks.specs.Cache.{AreHeld, AreQuiet}
use Rattle.shore_locks.specs.Grants.{released}
use Rattle.shore_locks.proofs.Cached.{known_without, left_released, quiet_without}
use Rattle.shore_locks.proofs.Quiets.{quiet_released}
use Rattle.shore_locks.proofs.Tables.{kept_as, kept_released}
use Rattle.shore_locks.proofs.Tellings.{release_tells_itself, without_itself}
use Rattle.shore_locks.proofs.table.LockTable.release_all.Goals as goal
use Rattle.shore_locks.proofs.table.LockTable.release_all.Goals.{then-is_some, else-is_some}

pub invariant_of-self : goal.invariant_of-self
invariant_of-self c =
    let rs = c.self.inside.nodes.requests in
    record {
      kept = kept_as c.self.inside.nodes c.release.new.nodes (released c.args.txn rs) c.release.ensures.limit c.release.ensures.items
          (kept_released c.self.inside.nodes.limit c.args.txn rs c.self.invariant.kept);
      known = subst (AreHeld c.forget.new.self.entries) (sym c.release.ensures.items)
          (known_without c.self.inside.cache.entries c.forget.new.self.entries rs (released c.args.txn rs) c.args.txn c.forget.ensures c.self.invariant.known
          (left_released c.args.txn rs c.self.invariant.kept.orderly.one_each));
      quiet = subst (AreQuiet c.forget.new.self.entries) (sym c.release.ensures.items)
          (quiet_without c.self.inside.cache.entries c.forget.new.self.entries rs (released c.args.txn rs) c.args.txn c.forget.ensures c.self.invariant.quiet
          (λ u other quiet. quiet_released c.args.txn u rs c.self.invariant.kept.orderly.one_each quiet));
    }

pub returns-clause-told : goal.returns-clause-told
returns-clause-told c =
    let rs = c.self.inside.nodes.requests in
    let t = c.args.txn in
    let told = c.args.let_through.now in
    let now = c.release.new.let_through in
    let as_said : is_waiting t rs ≡ c.is_some.result = sym (ap is_some (c.waiting_request.ensures ∙ ap (waiting_request t) c.nodes.ensures.requests)) ∙ sym c.is_some.ensures in
    let others = subst (λ xs. TellsOthers t rs xs c.if-is_some.let_through now) c.release.ensures.items (c.release.ensures.told c.self.invariant.kept.orderly) in
    subst (λ xs. Tells xs c.release.new.nodes.requests told now) (ap (λ (x : Table). x.requests) c.self.view_is)
    (subst (λ xs. Tells rs xs told now) (sym c.release.ensures.items)
    (elim c.if-is_some.branch [
      | then-is_some w ↦ release_tells_itself t rs told now c.self.invariant.kept.orderly (as_said ∙ w.if-is_some.true) (subst (λ l. TellsOthers t rs (released t rs) l now) (w.let_through-is ∙ w.note.ensures) others)
      | else-is_some w ↦ without_itself t rs (released t rs) told now (as_said ∙ w.if-is_some.false) (subst (λ l. TellsOthers t rs (released t rs) l now) w.let_through-is others)
    ]))
