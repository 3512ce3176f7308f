use Rattle.std.proofs.Common.{◌<◌, ◌+◌, length, refl, ◌++◌, ◌∷◌, [], ap, sym, subst, ◌∙◌}
use Rattle.shore_nodes.specs.Nodes.{alive, queue_head, request_at, requests_in}
use Rattle.slab.specs.Slab.{slab_len}
use Rattle.std.proofs.lemmas.List.{length-map}
use Rattle.shore_nodes.specs.Tallies.{Stored}
use Rattle.shore_nodes.proofs.NodeSteps.{more_requests, more_linked, room_left, room_same}
use Rattle.shore_nodes.proofs.Spreads.{queue_small}
use Rattle.shore_nodes.proofs.nodes.Nodes.push.Goals as goal

pub link_node-requires-clause-small : goal.link_node-requires-clause-small
link_node-requires-clause-small c =
    subst (λ n. n < c.self.inside.heads) (sym (c.requires.queue ∙ ap (λ (t : Stored). queue_head t.heads c.args.request.now.granule) (sym c.self.view_is)))
    (queue_small c.args.request.now.granule c.self.inside.heads c.self.invariant.0.some_heads)

pub insert-key-requires : goal.insert-key-requires
insert-key-requires c =
    let short = subst (λ (t : Stored). length t.requests < t.limit) (sym c.self.view_is) c.requires.room in
    room_left c.self.inside.limit c.self.inside.heads c.self.inside.slots.capacity _ _ _ (length (requests_in c.self.inside.slots (alive c.self.inside.history.items))) (slab_len c.self.inside.slots) c.self.invariant.1
    (c.self.invariant.0.count ∙ sym (length-map (alive c.self.inside.history.items) (request_at c.self.inside.slots))) short

pub invariant_of-self : goal.invariant_of-self
invariant_of-self c = (
  more_linked c.self.inside.heads c.self.inside.slots c.insert-key.new.slots c.self.inside.queues c.self.inside.lists c.self.inside.owners c.link_node.new.queues c.link_node.new.lists c.link_node.new.owners c.self.inside.history.items c.and-self-inside.result.items
      c.args.request.now c.insert-key.result (c.self.inside.heads + c.insert-key.result) c.self.invariant.0 c.insert-key.ensures.vacant refl c.insert-key.ensures.updates c.insert-key.ensures.len
      c.link_node.ensures.queues c.link_node.ensures.lists c.link_node.ensures.owners c.link_node.ensures.queue_nodes c.link_node.ensures.list_nodes c.link_node.ensures.owner_nodes c.and-self-inside.ensures,
  room_same c.self.invariant.1 c.insert-key.ensures.capacity c.link_node.ensures.queue_nodes c.link_node.ensures.list_nodes c.link_node.ensures.owner_nodes,
)

pub returns-clause-items : goal.returns-clause-items
returns-clause-items c =
    more_requests c.self.inside.heads c.self.inside.slots c.insert-key.new.slots c.self.inside.queues c.self.inside.lists c.self.inside.owners c.self.inside.history.items c.and-self-inside.result.items c.args.request.now c.insert-key.result c.self.invariant.0
    c.insert-key.ensures.vacant c.insert-key.ensures.updates c.and-self-inside.ensures
    ∙ ap (λ (t : Stored). t.requests ++ c.args.request.now ∷ []) c.self.view_is
