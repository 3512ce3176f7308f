use Rattle.std.proofs.Common.{ℕ, map, refl, ap, subst, ◌∙◌}
use Rattle.shore_model.specs.declared.requests.Request.{Request}
use Rattle.shore_nodes.specs.Grants.{passed}
use Rattle.shore_nodes.specs.LetThrough.{TellsFirst}
use Rattle.shore_nodes.specs.Nodes.{alive, requests_in}
use Rattle.shore_nodes.specs.Tallies.{Stored}
use Rattle.shore_nodes.proofs.GrantWalks.{can_pass}
use Rattle.shore_nodes.proofs.NodeSteps.{room_same}
use Rattle.shore_nodes.proofs.nodes.Nodes.grant_waiters.Goals as goal

pub invariant_of-self : goal.invariant_of-self
invariant_of-self c = (
  c.grant_waiters.ensures.are_linked c.self.inside.lists c.self.inside.owners (alive c.self.inside.history.items)
      (can_pass c.self.inside.heads c.self.inside.slots c.self.inside.queues c.self.inside.lists c.self.inside.owners (alive c.self.inside.history.items) c.args.granule.now c.queue_head-head.result c.tally_at-tally.result c.args.self.now.requests (map (λ (p : ℕ × Request). p.1) c.queue.result)
      c.self.invariant.0 c.queue_head-head.ensures.is (ap (λ (t : Stored). t.requests) c.self.view_is) c.requires c.len.ensures.fits c.queue.ensures c.tally_at-tally.ensures),
  room_same c.self.invariant.1 c.grant_waiters.ensures.capacity refl refl refl,
)

pub returns-clause-items : goal.returns-clause-items
returns-clause-items c =
    c.grant_waiters.ensures.granted c.self.inside.lists c.self.inside.owners (alive c.self.inside.history.items)
    (can_pass c.self.inside.heads c.self.inside.slots c.self.inside.queues c.self.inside.lists c.self.inside.owners (alive c.self.inside.history.items) c.args.granule.now c.queue_head-head.result c.tally_at-tally.result c.args.self.now.requests (map (λ (p : ℕ × Request). p.1) c.queue.result)
    c.self.invariant.0 c.queue_head-head.ensures.is (ap (λ (t : Stored). t.requests) c.self.view_is) c.requires c.len.ensures.fits c.queue.ensures c.tally_at-tally.ensures)
    ∙ ap (passed c.args.granule.now) (ap (λ (t : Stored). t.requests) c.self.view_is)

pub returns-clause-told : goal.returns-clause-told
returns-clause-told c =
    let ks = alive c.self.inside.history.items in
    subst (λ rs. TellsFirst c.args.granule.now rs (requests_in c.grant_waiters.new.slots ks) c.args.let_through.now c.grant_waiters.new.let_through) (ap (λ (t : Stored). t.requests) c.self.view_is)
    (c.grant_waiters.ensures.told c.self.inside.lists c.self.inside.owners ks
    (can_pass c.self.inside.heads c.self.inside.slots c.self.inside.queues c.self.inside.lists c.self.inside.owners ks c.args.granule.now c.queue_head-head.result c.tally_at-tally.result c.args.self.now.requests (map (λ (p : ℕ × Request). p.1) c.queue.result)
    c.self.invariant.0 c.queue_head-head.ensures.is (ap (λ (t : Stored). t.requests) c.self.view_is) c.requires c.len.ensures.fits c.queue.ensures c.tally_at-tally.ensures))
