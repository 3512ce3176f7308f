use Rattle.std.proofs.Common.{refl, sym, ap, subst, ◌∙◌}
use Rattle.shore_model.specs.Requests.{AreRequests}
use Rattle.shore_nodes.specs.Grants.{replaced}
use Rattle.shore_nodes.specs.Nodes.{alive, requests_in}
use Rattle.shore_nodes.proofs.NodeSteps.{found_there, search_found, search_none, set_requests, set_linked, room_same}
use Rattle.shore_nodes.proofs.Others.{replaced_none}
use Rattle.shore_nodes.specs.Tallies.{Stored}
use Rattle.shore_nodes.proofs.nodes.Nodes.replace.Goals as goal

pub set_slot-requires : goal.set_slot-requires
set_slot-requires c =
    let alike_node = search_found c.self.inside.heads c.self.inside.slots c.self.inside.queues c.self.inside.lists c.self.inside.owners (alive c.self.inside.history.items) c.args.request.now c.owner_head-head.result c.in-Some.node c.new-walk.result c.self.invariant.0 c.owner_head-head.ensures.is c.new-walk.ensures c.in-Some.ensures in
    found_there c.self.inside.heads c.self.inside.slots c.self.inside.queues c.self.inside.lists c.self.inside.owners c.self.inside.history.items c.args.request.now c.in-Some.node c.saturating_sub-key.result c.self.invariant.0 alike_node c.saturating_sub-key.ensures

pub invariant_of-self : goal.invariant_of-self
invariant_of-self c =
    let alike_node = search_found c.self.inside.heads c.self.inside.slots c.self.inside.queues c.self.inside.lists c.self.inside.owners (alive c.self.inside.history.items) c.args.request.now c.owner_head-head.result c.in-Some.node c.new-walk.result c.self.invariant.0 c.owner_head-head.ensures.is c.new-walk.ensures c.in-Some.ensures in (
      set_linked c.self.inside.heads c.self.inside.slots c.self.inside.queues c.self.inside.lists c.self.inside.owners c.self.inside.history.items c.args.request.now c.in-Some.node c.saturating_sub-key.result
          c.set_slot.new.slots c.self.invariant.0 alike_node c.saturating_sub-key.ensures c.set_slot.ensures.updates c.set_slot.ensures.len,
      room_same c.self.invariant.1 c.set_slot.ensures.capacity refl refl refl,
    )

pub returns-in-Some-clause-items : goal.returns-in-Some-clause-items
returns-in-Some-clause-items c =
    let alike_node = search_found c.self.inside.heads c.self.inside.slots c.self.inside.queues c.self.inside.lists c.self.inside.owners (alive c.self.inside.history.items) c.args.request.now c.owner_head-head.result c.in-Some.node c.new-walk.result c.self.invariant.0 c.owner_head-head.ensures.is c.new-walk.ensures c.in-Some.ensures in
    set_requests c.self.inside.heads c.self.inside.slots c.self.inside.queues c.self.inside.lists c.self.inside.owners c.self.inside.history.items c.args.request.now c.in-Some.node c.saturating_sub-key.result
    c.set_slot.new.slots (subst AreRequests (sym (ap (λ (t : Stored). t.requests) c.self.view_is)) c.requires) alike_node c.saturating_sub-key.ensures c.set_slot.ensures.updates
    ∙ ap (replaced c.args.request.now) (ap (λ (t : Stored). t.requests) c.self.view_is)

pub returns-in_default-clause-items : goal.returns-in_default-clause-items
returns-in_default-clause-items c =
    sym (ap (replaced c.args.request.now) (sym (ap (λ (t : Stored). t.requests) c.self.view_is))
    ∙ replaced_none c.args.request.now (requests_in c.self.inside.slots (alive c.self.inside.history.items))
    (search_none c.self.inside.heads c.self.inside.slots c.self.inside.queues c.self.inside.lists c.self.inside.owners (alive c.self.inside.history.items) c.args.request.now c.owner_head-head.result c.new-walk.result c.self.invariant.0 c.owner_head-head.ensures.is c.new-walk.ensures c.in_default.ensures)
    ∙ (ap (λ (t : Stored). t.requests) c.self.view_is))
