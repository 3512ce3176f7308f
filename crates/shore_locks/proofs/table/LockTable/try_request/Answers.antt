use Rattle.std.proofs.Common.{◌++◌, ◌∷◌, [], inl, ap, refl, subst, sym, ◌∙◌}
use Rattle.shore_locks.specs.Cache.{IsSound}
use Rattle.shore_locks.specs.Grants.{after_try, first_hold}
use Rattle.shore_nodes.specs.Tables.{Table, is_waiting}
use Rattle.shore_nodes.proofs.Members.{In-left, In-right}
use Rattle.shore_locks.proofs.Cached.{known_noted, quiet_noted}
use Rattle.shore_locks.proofs.Quiets.{quiet_alone}
use Rattle.shore_locks.proofs.Alone.{alone_kept, alone_try_leaves}
use Rattle.shore_locks.proofs.table.LockTable.try_request.Goals as goal

pub invariant_of-self : goal.invariant_of-self
invariant_of-self c =
    let yes = c.if-grant_alone.true in
    let rs = c.self.inside.nodes.requests in
    let new = first_hold c.args.txn c.args.granule c.args.mode in
    subst (λ (t : Table). IsSound t c.note.new.self.entries) (sym (c.grant_alone.ensures.granted yes))
    (record {
      kept = alone_kept c.self.inside.nodes c.args.txn c.args.granule c.args.mode (c.grant_alone.ensures.alone yes) (c.grant_alone.ensures.room yes) c.self.invariant.kept (ap (λ (t : Table). is_waiting c.args.txn t.requests) c.self.view_is ∙ c.requires);
      known = known_noted c.self.inside.cache.entries c.note.new.self.entries rs (rs ++ new ∷ []) c.args.txn c.args.granule c.args.mode c.note.ensures c.self.invariant.known
          (In-right rs (new ∷ []) new (inl refl)) (λ u h k there other. In-left rs (new ∷ []) (first_hold u h k) there);
      quiet = quiet_noted c.self.inside.cache.entries c.note.new.self.entries rs (rs ++ new ∷ []) c.args.txn c.args.granule c.args.mode c.note.ensures c.self.invariant.quiet
          (quiet_alone c.args.txn new rs refl (ap (λ (t : Table). is_waiting c.args.txn t.requests) c.self.view_is ∙ c.requires)) (λ u quiet. quiet_alone u new rs refl quiet);
    })

pub returns-then-grant_alone-clause-table : goal.returns-then-grant_alone-clause-table
returns-then-grant_alone-clause-table c =
    let yes = c.if-grant_alone.true in
    c.grant_alone.ensures.granted yes
    ∙ ap (λ rs. record { limit = c.self.inside.nodes.limit; requests = rs }) (sym (alone_try_leaves c.self.inside.nodes c.args.txn c.args.granule c.args.mode (c.grant_alone.ensures.alone yes) (c.grant_alone.ensures.room yes)))
    ∙ ap (λ (t : Table). record { limit = t.limit; requests = after_try t c.args.txn c.args.granule c.args.mode }) c.self.view_is
