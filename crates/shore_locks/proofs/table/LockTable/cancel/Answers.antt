use Rattle.std.proofs.Common.{◌≡◌, Some, ap, subst, sym, ◌∙◌}
use Rattle.shore_nodes.specs.LetThrough.{Tells, TellsOthers, noted}
use Rattle.shore_nodes.specs.Tables.{Table, waiting_request}
use Rattle.shore_locks.specs.Cache.{AreHeld, AreQuiet}
use Rattle.shore_locks.specs.Grants.{cancelled, taken_back, taken_back_if}
use Rattle.shore_locks.proofs.Cached.{known_as, left_taken_back}
use Rattle.shore_locks.proofs.Quiets.{quiet_taken_back}
use Rattle.shore_locks.proofs.Tables.{kept_as, kept_taken_back}
use Rattle.shore_locks.proofs.Tellings.{cancel_tells, its_own}
use Rattle.shore_locks.proofs.table.LockTable.cancel.Goals as goal

pub invariant_of-self : goal.invariant_of-self
invariant_of-self c =
    let rs = c.self.inside.nodes.requests in
    let r = c.in-Some.request in
    let is = sym (c.in-Some.ensures ∙ ap (waiting_request c.args.txn) c.nodes.ensures.requests) in
    record {
      kept = kept_as c.self.inside.nodes c.take_back.new.nodes (taken_back r rs) c.take_back.ensures.limit c.take_back.ensures.items
          (kept_taken_back c.self.inside.nodes.limit c.args.txn rs r c.self.invariant.kept is);
      known = subst (AreHeld c.self.inside.cache.entries) (sym c.take_back.ensures.items)
          (known_as c.self.inside.cache.entries rs (taken_back r rs) c.self.invariant.known (left_taken_back c.args.txn r rs c.self.invariant.kept.orderly.one_each is));
      quiet = subst (AreQuiet c.self.inside.cache.entries) (sym c.take_back.ensures.items)
          (λ u h k said. quiet_taken_back u r rs c.self.invariant.kept.orderly.one_each (c.self.invariant.quiet u h k said));
    }

pub returns-in-Some-clause-told : goal.returns-in-Some-clause-told
returns-in-Some-clause-told c =
    let rs = c.self.inside.nodes.requests in
    let r = c.in-Some.request in
    let t = c.args.txn in
    let told = c.args.let_through.now in
    let now = c.take_back.new.let_through in
    let is = sym (c.in-Some.ensures ∙ ap (waiting_request t) c.nodes.ensures.requests) in
    let made : c.take_back.new.nodes.requests ≡ cancelled t rs = c.take_back.ensures.items ∙ ap (λ o. taken_back_if o rs) (sym is) in
    let others = c.take_back.ensures.told c.self.invariant.kept.orderly (subst (λ u. waiting_request u rs ≡ Some r) (sym (its_own t r rs is)) is) in
    subst (λ xs. Tells xs c.take_back.new.nodes.requests told now) (ap (λ (x : Table). x.requests) c.self.view_is)
    (subst (λ xs. Tells rs xs told now) (sym made)
    (cancel_tells t r rs told now c.self.invariant.kept.orderly is
    (subst (λ xs. TellsOthers r.txn rs xs (noted t told) now) made (subst (λ l. TellsOthers r.txn rs c.take_back.new.nodes.requests l now) c.note.ensures others))))
