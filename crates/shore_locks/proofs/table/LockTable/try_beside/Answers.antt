use Rattle.std.proofs.Common.{◌≡◌, ap, subst, sym, true, ◌∙◌}
use Rattle.shore_model.specs.declared.requests.Request.{Request}
use Rattle.shore_locks.specs.Cache.{AreHeld, AreQuiet, IsNoted}
use Rattle.shore_locks.specs.Grants.{after_grant, granted, is_enough, passed, put, wanted_mode}
use Rattle.shore_nodes.specs.Tables.{Table, is_waiting, mode_held}
use Rattle.shore_nodes.proofs.Entering.{known_as}
use Rattle.shore_locks.proofs.Cached.{enough_so, granted_there, known_noted, quiet_noted, left_granted}
use Rattle.shore_locks.proofs.Tables.{cond_true, free_of, kept_as, kept_granted}
use Rattle.shore_locks.proofs.Quiets.{quiet_granted}
use Rattle.shore_locks.proofs.table.LockTable.try_beside.Goals as goal
use Rattle.shore_locks.proofs.table.LockTable.try_beside.Goals.{Then-is_enough}

pub grant-requires-clause-free : goal.grant-requires-clause-free
grant-requires-clause-free c =
    free_of c.self.inside.nodes c.args.txn c.args.granule.now c.args.mode c.in-Free.request c.self.invariant.kept (ap (λ (t : Table). is_waiting c.args.txn t.requests) c.self.view_is ∙ c.requires) c.in-Free.ensures.0 c.in-Free.ensures.1 c.in-Free.ensures.2

pub grant-requires-clause-known : goal.grant-requires-clause-known
grant-requires-clause-known c = known_as c.args.txn c.args.granule.now c.args.mode c.self.inside.nodes.requests c.in-Free.request c.in-Free.known c.in-Free.ensures.1 c.in-Free.ensures.3

pub invariant_of-self : goal.invariant_of-self
invariant_of-self c =
    let rs = c.self.inside.nodes.requests in
    let t = c.args.txn in
    let g = c.args.granule.now in
    let m = wanted_mode (mode_held c.args.txn c.args.granule.now c.self.inside.nodes.requests) c.args.mode in
    let quiet = ap (λ (x : Table). is_waiting c.args.txn x.requests) c.self.view_is ∙ c.requires in
    let items = c.grant.ensures.items ∙ ap (λ x. passed x.granule (put (granted x) rs)) c.in-Free.ensures.1 in
    let noted = subst (λ (r : Request). IsNoted c.self.inside.cache.entries c.note_grant.new.self.entries r.txn r.granule m) c.in-Free.ensures.1 (c.note_grant.ensures m (ap (λ (r : Request). r.wanted) c.in-Free.ensures.1)) in
    let one = c.self.invariant.kept.orderly.one_each in
    record {
      kept = kept_as c.self.inside.nodes c.grant.new.nodes (after_grant t g c.args.mode rs) c.grant.ensures.limit items
          (kept_granted c.self.inside.nodes.limit t g c.args.mode rs c.self.invariant.kept quiet c.in-Free.ensures.0.1 c.in-Free.ensures.2);
      known = subst (AreHeld c.note_grant.new.self.entries) (sym items)
          (known_noted c.self.inside.cache.entries c.note_grant.new.self.entries rs (after_grant t g c.args.mode rs) t g m noted c.self.invariant.known
          (granted_there t g c.args.mode rs one) (left_granted t g c.args.mode rs one));
      quiet = subst (AreQuiet c.note_grant.new.self.entries) (sym items)
          (quiet_noted c.self.inside.cache.entries c.note_grant.new.self.entries rs (after_grant t g c.args.mode rs) t g m noted c.self.invariant.quiet
          (quiet_granted t t g c.args.mode rs one quiet) (λ u quiet. quiet_granted t u g c.args.mode rs one quiet));
    }

-- the transaction is known to hold as much
enough : (c : Then-is_enough) → is_enough c.args.mode (mode_held c.args.txn c.args.granule.now c.args.self.now.requests) ≡ true
enough c =
    sym (ap (λ (t : Table). is_enough c.args.mode (mode_held c.args.txn c.args.granule.now t.requests)) c.self.view_is)
    ∙ enough_so c.self.inside.cache.entries c.self.inside.nodes.requests c.args.txn c.args.granule.now c.args.mode c.self.invariant.kept.orderly.one_each c.self.invariant.known
    (ap (is_enough c.args.mode) (sym c.held.ensures) ∙ sym c.is_enough.ensures ∙ c.if-is_enough.true)

pub returns-then-is_enough-clause-answer : goal.returns-then-is_enough-clause-answer
returns-then-is_enough-clause-answer c = sym (cond_true _ _ _ (enough c))

pub returns-then-is_enough-clause-table : goal.returns-then-is_enough-clause-table
returns-then-is_enough-clause-table c = ap (λ rs. record { limit = c.args.self.now.limit; requests = rs }) (sym (cond_true _ _ _ (enough c)))
