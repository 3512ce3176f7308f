use Rattle.std.proofs.Common.{ℕ, [], ◌∷◌, IsTrue, sym, subst, arith}
use Rattle.shore_types.specs.Versions.{pages_begin-is}
use Rattle.shore_disk.specs.Device.{TornFrom}
use Rattle.shore_disk.proofs.Moments.{joined, write_leaves, sync_leaves, at_end}
use Rattle.shore_dwrite.proofs.SyncLemmas.{failed_before, sync_once, write_none}
use Rattle.shore_dwrite.proofs.device.PageDev.set_gate.Goals as goal

pub returns-in_err-write_at-clause-any_moment : goal.returns-in_err-write_at-clause-any_moment
returns-in_err-write_at-clause-any_moment g c honest =
    let P = TornFrom 4096 1 (g.D.Disk.history c.args.self.now.device) in
    write_leaves 4096 (c.args.gate ∷ []) c.write_at.result _ _ P (c.write_at.ensures.written honest) (λ i d left torn. (d, left, torn))

pub returns-clause-any_moment : goal.returns-clause-any_moment
returns-clause-any_moment g c honest =
    let P = TornFrom 4096 1 (g.D.Disk.history c.args.self.now.device) in
    let write = write_leaves 4096 (c.args.gate ∷ []) c.write_at.result _ _ P (c.write_at.ensures.written honest) (λ i d left torn. (d, left, torn)) in
    let still = subst IsTrue (sym c.write_at.ensures.honest) honest in
    let sync = sync_leaves c.sync.result _ _ P (c.sync.ensures.synced still) (at_end _ _ P write) in
    joined _ _ _ P write sync

pub returns-in_err-write_at-clause-syncs : goal.returns-in_err-write_at-clause-syncs
returns-in_err-write_at-clause-syncs g c honest =
    let before = g.D.Disk.history c.args.self.now.device in
    let wrote = g.D.Disk.history c.write_at.new.self in
    failed_before _ c.from_residual.result before wrote c.from_residual.ensures.1 (write_none 4096 (c.args.gate ∷ []) c.write_at.result before wrote (c.write_at.ensures.written honest))

pub returns-clause-syncs : goal.returns-clause-syncs
returns-clause-syncs g c honest =
    let still = subst IsTrue (sym c.write_at.ensures.honest) honest in
    let before = g.D.Disk.history c.args.self.now.device in
    let wrote = g.D.Disk.history c.write_at.new.self in
    sync_once c.sync.result before wrote (g.D.Disk.history c.sync.new.self) (write_none 4096 (c.args.gate ∷ []) c.write_at.result before wrote (c.write_at.ensures.written honest)) (c.sync.ensures.synced still)

pub write_at-requires : goal.write_at-requires
write_at-requires g c = omega (arith, c.args.self.now.as_long, pages_begin-is c.args.self.now.geometry.version)
