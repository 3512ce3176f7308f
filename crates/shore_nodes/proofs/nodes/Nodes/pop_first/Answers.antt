use Rattle.std.proofs.Common.{◌≡◌, ◌+◌, true, refl, sym, ap, subst, ◌∙◌}
use Rattle.std.specs.Prelude.{is_some, slice_get}
use Rattle.slab.specs.Slab.{slab_len}
use Rattle.shore_model.specs.Requests.{AreRequests, requests_by}
use Rattle.shore_nodes.specs.Grants.{removed}
use Rattle.shore_nodes.specs.Nodes.{alive}
use Rattle.shore_nodes.proofs.NodeSteps.{first_node, first_request, found_there, found_within, less_requests, less_linked, no_request, on_some, room_same}
use Rattle.shore_nodes.specs.Tallies.{Stored}
use Rattle.shore_nodes.proofs.nodes.Nodes.pop_first.Goals as goal

pub unlink_node-requires-clause-queue_node : goal.unlink_node-requires-clause-queue_node
unlink_node-requires-clause-queue_node c = (found_within c.self.inside.heads c.self.inside.slots c.self.inside.queues c.self.inside.lists c.self.inside.owners (alive c.self.inside.history.items) c.in-Some.request c.in-Some.node c.self.invariant.0 (first_node c.self.inside.heads c.self.inside.slots c.self.inside.queues c.self.inside.lists c.self.inside.owners (alive c.self.inside.history.items) c.args.txn c.list_head-head.result c.new-walk.result (c.in-Some.node, c.in-Some.request) c.self.invariant.0 c.list_head-head.ensures.is c.new-walk.ensures c.in-Some.ensures)).0

pub unlink_node-requires-clause-list_node : goal.unlink_node-requires-clause-list_node
unlink_node-requires-clause-list_node c = (found_within c.self.inside.heads c.self.inside.slots c.self.inside.queues c.self.inside.lists c.self.inside.owners (alive c.self.inside.history.items) c.in-Some.request c.in-Some.node c.self.invariant.0 (first_node c.self.inside.heads c.self.inside.slots c.self.inside.queues c.self.inside.lists c.self.inside.owners (alive c.self.inside.history.items) c.args.txn c.list_head-head.result c.new-walk.result (c.in-Some.node, c.in-Some.request) c.self.invariant.0 c.list_head-head.ensures.is c.new-walk.ensures c.in-Some.ensures)).1

pub unlink_node-requires-clause-owner_node : goal.unlink_node-requires-clause-owner_node
unlink_node-requires-clause-owner_node c = (found_within c.self.inside.heads c.self.inside.slots c.self.inside.queues c.self.inside.lists c.self.inside.owners (alive c.self.inside.history.items) c.in-Some.request c.in-Some.node c.self.invariant.0 (first_node c.self.inside.heads c.self.inside.slots c.self.inside.queues c.self.inside.lists c.self.inside.owners (alive c.self.inside.history.items) c.args.txn c.list_head-head.result c.new-walk.result (c.in-Some.node, c.in-Some.request) c.self.invariant.0 c.list_head-head.ensures.is c.new-walk.ensures c.in-Some.ensures)).2

pub invariant_of-self : goal.invariant_of-self
invariant_of-self c =
    let alike_node = first_node c.self.inside.heads c.self.inside.slots c.self.inside.queues c.self.inside.lists c.self.inside.owners (alive c.self.inside.history.items) c.args.txn c.list_head-head.result c.new-walk.result (c.in-Some.node, c.in-Some.request) c.self.invariant.0 c.list_head-head.ensures.is c.new-walk.ensures c.in-Some.ensures in
    let there : is_some c.try_remove.result ≡ true = ap is_some c.try_remove.ensures.value ∙ found_there c.self.inside.heads c.self.inside.slots c.self.inside.queues c.self.inside.lists c.self.inside.owners c.self.inside.history.items c.in-Some.request c.in-Some.node c.saturating_sub-key.result c.self.invariant.0 alike_node c.saturating_sub-key.ensures in (
      less_linked c.self.inside.heads c.self.inside.slots c.self.inside.queues c.self.inside.lists c.self.inside.owners c.self.inside.history.items c.in-Some.request c.in-Some.node c.saturating_sub-key.result
          c.try_remove.new.self c.unlink_node.new.queues c.unlink_node.new.lists c.unlink_node.new.owners c.and-self-inside.result.items c.self.invariant.0 alike_node c.saturating_sub-key.ensures c.try_remove.ensures.updates
          (on_some (slab_len c.try_remove.new.self + 1 ≡ slab_len c.self.inside.slots) c.try_remove.result there c.try_remove.ensures.len)
          c.unlink_node.ensures.queues c.unlink_node.ensures.lists c.unlink_node.ensures.owners c.unlink_node.ensures.queue_nodes c.unlink_node.ensures.list_nodes c.unlink_node.ensures.owner_nodes c.and-self-inside.ensures,
      room_same c.self.invariant.1 c.try_remove.ensures.capacity c.unlink_node.ensures.queue_nodes c.unlink_node.ensures.list_nodes c.unlink_node.ensures.owner_nodes,
    )

pub returns-in-Some-clause-items : goal.returns-in-Some-clause-items
returns-in-Some-clause-items c =
    let alike_node = first_node c.self.inside.heads c.self.inside.slots c.self.inside.queues c.self.inside.lists c.self.inside.owners (alive c.self.inside.history.items) c.args.txn c.list_head-head.result c.new-walk.result (c.in-Some.node, c.in-Some.request) c.self.invariant.0 c.list_head-head.ensures.is c.new-walk.ensures c.in-Some.ensures in (
      first_request c.self.inside.heads c.self.inside.slots c.self.inside.queues c.self.inside.lists c.self.inside.owners (alive c.self.inside.history.items) c.args.txn c.list_head-head.result c.new-walk.result (c.in-Some.node, c.in-Some.request) c.self.invariant.0 c.list_head-head.ensures.is c.new-walk.ensures c.in-Some.ensures
          ∙ ap (λ rs. slice_get (requests_by c.args.txn rs) 0) (ap (λ (t : Stored). t.requests) c.self.view_is),
      less_requests c.self.inside.heads c.self.inside.slots c.self.inside.queues c.self.inside.lists c.self.inside.owners c.self.inside.history.items c.in-Some.request c.in-Some.node c.saturating_sub-key.result
          c.try_remove.new.self c.and-self-inside.result.items (subst AreRequests (sym (ap (λ (t : Stored). t.requests) c.self.view_is)) c.requires) alike_node c.saturating_sub-key.ensures c.try_remove.ensures.updates c.and-self-inside.ensures
          ∙ ap (removed c.in-Some.request) (ap (λ (t : Stored). t.requests) c.self.view_is),
    )

pub returns-in-None-clause-items : goal.returns-in-None-clause-items
returns-in-None-clause-items c = (
  no_request c.self.inside.heads c.self.inside.slots c.self.inside.queues c.self.inside.lists c.self.inside.owners (alive c.self.inside.history.items) c.args.txn c.list_head-head.result c.new-walk.result c.self.invariant.0 c.list_head-head.ensures.is c.new-walk.ensures c.in-None.ensures
      ∙ ap (λ rs. slice_get (requests_by c.args.txn rs) 0) (ap (λ (t : Stored). t.requests) c.self.view_is),
  refl,
)
