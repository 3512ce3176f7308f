use Rattle.std.proofs.Common.{◌≡◌, ◌+◌, Some, true, refl, ◌++◌, ◌∷◌, [], ◌<◌, sym, ap, subst, ◌∙◌}
use Rattle.std.specs.Prelude.{is_some}
use Rattle.std.specs.List.{list_any}
use Rattle.slab.specs.Slab.{HasRoomFor, Updates, slab_len}
use Rattle.shore_model.specs.Requests.{AreRequests, are_alike}
use Rattle.shore_nodes.specs.Grants.{removed}
use Rattle.shore_nodes.specs.Nodes.{alive, requests_in}
use Rattle.shore_nodes.proofs.NodeSteps.{found_there, found_within, less_requests, less_linked, more_requests, more_linked, node_any, none_of_any, on_some, place_is, search_found, search_none, room_same}
use Rattle.shore_nodes.specs.Tallies.{Stored}
use Rattle.shore_nodes.proofs.nodes.Nodes.move_last.Goals as goal

pub unlink_node-requires-clause-queue_node : goal.unlink_node-requires-clause-queue_node
unlink_node-requires-clause-queue_node c = (found_within c.self.inside.heads c.self.inside.slots c.self.inside.queues c.self.inside.lists c.self.inside.owners (alive c.self.inside.history.items) c.args.request.now c.in-Some.node c.self.invariant.0 (search_found c.self.inside.heads c.self.inside.slots c.self.inside.queues c.self.inside.lists c.self.inside.owners (alive c.self.inside.history.items) c.args.request.now c.owner_head-head.result c.in-Some.node c.new-walk.result c.self.invariant.0 c.owner_head-head.ensures.is c.new-walk.ensures c.in-Some.ensures)).0

pub unlink_node-requires-clause-list_node : goal.unlink_node-requires-clause-list_node
unlink_node-requires-clause-list_node c = (found_within c.self.inside.heads c.self.inside.slots c.self.inside.queues c.self.inside.lists c.self.inside.owners (alive c.self.inside.history.items) c.args.request.now c.in-Some.node c.self.invariant.0 (search_found c.self.inside.heads c.self.inside.slots c.self.inside.queues c.self.inside.lists c.self.inside.owners (alive c.self.inside.history.items) c.args.request.now c.owner_head-head.result c.in-Some.node c.new-walk.result c.self.invariant.0 c.owner_head-head.ensures.is c.new-walk.ensures c.in-Some.ensures)).1

pub unlink_node-requires-clause-owner_node : goal.unlink_node-requires-clause-owner_node
unlink_node-requires-clause-owner_node c = (found_within c.self.inside.heads c.self.inside.slots c.self.inside.queues c.self.inside.lists c.self.inside.owners (alive c.self.inside.history.items) c.args.request.now c.in-Some.node c.self.invariant.0 (search_found c.self.inside.heads c.self.inside.slots c.self.inside.queues c.self.inside.lists c.self.inside.owners (alive c.self.inside.history.items) c.args.request.now c.owner_head-head.result c.in-Some.node c.new-walk.result c.self.invariant.0 c.owner_head-head.ensures.is c.new-walk.ensures c.in-Some.ensures)).2

pub link_node-requires-clause-queue_node : goal.link_node-requires-clause-queue_node
link_node-requires-clause-queue_node c =
    subst (λ n. c.in-Some.node < n) (sym c.unlink_node.ensures.queue_nodes) (found_within c.self.inside.heads c.self.inside.slots c.self.inside.queues c.self.inside.lists c.self.inside.owners (alive c.self.inside.history.items) c.args.request.now c.in-Some.node c.self.invariant.0 (search_found c.self.inside.heads c.self.inside.slots c.self.inside.queues c.self.inside.lists c.self.inside.owners (alive c.self.inside.history.items) c.args.request.now c.owner_head-head.result c.in-Some.node c.new-walk.result c.self.invariant.0 c.owner_head-head.ensures.is c.new-walk.ensures c.in-Some.ensures)).0

pub link_node-requires-clause-list_node : goal.link_node-requires-clause-list_node
link_node-requires-clause-list_node c =
    subst (λ n. c.in-Some.node < n) (sym c.unlink_node.ensures.list_nodes) (found_within c.self.inside.heads c.self.inside.slots c.self.inside.queues c.self.inside.lists c.self.inside.owners (alive c.self.inside.history.items) c.args.request.now c.in-Some.node c.self.invariant.0 (search_found c.self.inside.heads c.self.inside.slots c.self.inside.queues c.self.inside.lists c.self.inside.owners (alive c.self.inside.history.items) c.args.request.now c.owner_head-head.result c.in-Some.node c.new-walk.result c.self.invariant.0 c.owner_head-head.ensures.is c.new-walk.ensures c.in-Some.ensures)).1

pub link_node-requires-clause-owner_node : goal.link_node-requires-clause-owner_node
link_node-requires-clause-owner_node c =
    subst (λ n. c.in-Some.node < n) (sym c.unlink_node.ensures.owner_nodes) (found_within c.self.inside.heads c.self.inside.slots c.self.inside.queues c.self.inside.lists c.self.inside.owners (alive c.self.inside.history.items) c.args.request.now c.in-Some.node c.self.invariant.0 (search_found c.self.inside.heads c.self.inside.slots c.self.inside.queues c.self.inside.lists c.self.inside.owners (alive c.self.inside.history.items) c.args.request.now c.owner_head-head.result c.in-Some.node c.new-walk.result c.self.invariant.0 c.owner_head-head.ensures.is c.new-walk.ensures c.in-Some.ensures)).2

pub insert-requires : goal.insert-requires
insert-requires c =
    let alike_node = search_found c.self.inside.heads c.self.inside.slots c.self.inside.queues c.self.inside.lists c.self.inside.owners (alive c.self.inside.history.items) c.args.request.now c.owner_head-head.result c.in-Some.node c.new-walk.result c.self.invariant.0 c.owner_head-head.ensures.is c.new-walk.ensures c.in-Some.ensures in
    let there : is_some c.try_remove.result ≡ true = ap is_some c.try_remove.ensures.value ∙ found_there c.self.inside.heads c.self.inside.slots c.self.inside.queues c.self.inside.lists c.self.inside.owners c.self.inside.history.items c.args.request.now c.in-Some.node c.saturating_sub-key.result c.self.invariant.0 alike_node c.saturating_sub-key.ensures in
    on_some (HasRoomFor c.try_remove.new.self 1) c.try_remove.result there c.try_remove.ensures.room

pub invariant_of-self : goal.invariant_of-self
invariant_of-self c =
    let alike_node = search_found c.self.inside.heads c.self.inside.slots c.self.inside.queues c.self.inside.lists c.self.inside.owners (alive c.self.inside.history.items) c.args.request.now c.owner_head-head.result c.in-Some.node c.new-walk.result c.self.invariant.0 c.owner_head-head.ensures.is c.new-walk.ensures c.in-Some.ensures in
    let there : is_some c.try_remove.result ≡ true = ap is_some c.try_remove.ensures.value ∙ found_there c.self.inside.heads c.self.inside.slots c.self.inside.queues c.self.inside.lists c.self.inside.owners c.self.inside.history.items c.args.request.now c.in-Some.node c.saturating_sub-key.result c.self.invariant.0 alike_node c.saturating_sub-key.ensures in
    let gone = less_linked c.self.inside.heads c.self.inside.slots c.self.inside.queues c.self.inside.lists c.self.inside.owners c.self.inside.history.items c.args.request.now c.in-Some.node c.saturating_sub-key.result
    c.try_remove.new.self c.unlink_node.new.queues c.unlink_node.new.lists c.unlink_node.new.owners c.and-gone.result.items c.self.invariant.0 alike_node c.saturating_sub-key.ensures c.try_remove.ensures.updates
    (on_some (slab_len c.try_remove.new.self + 1 ≡ slab_len c.self.inside.slots) c.try_remove.result there c.try_remove.ensures.len)
    c.unlink_node.ensures.queues c.unlink_node.ensures.lists c.unlink_node.ensures.owners c.unlink_node.ensures.queue_nodes c.unlink_node.ensures.list_nodes c.unlink_node.ensures.owner_nodes c.and-gone.ensures in
    let next = on_some (c.try_remove.new.self.vacant_key ≡ c.saturating_sub-key.result) c.try_remove.result there c.try_remove.ensures.key_is_next in (
      more_linked c.self.inside.heads c.try_remove.new.self c.insert.new.slots c.unlink_node.new.queues c.unlink_node.new.lists c.unlink_node.new.owners c.link_node.new.queues c.link_node.new.lists c.link_node.new.owners c.and-gone.result.items c.and-self-inside.result.items
          c.args.request.now c.saturating_sub-key.result c.in-Some.node gone c.try_remove.ensures.updates.changed (place_is c.self.inside.heads alike_node.key c.in-Some.node alike_node.at ∙ ap (λ k. c.self.inside.heads + k) (sym c.saturating_sub-key.ensures))
          (subst (λ k. Updates c.try_remove.new.self c.insert.new.slots k (Some c.args.request.now)) (c.insert.ensures.key ∙ next) c.insert.ensures.updates) c.insert.ensures.len
          c.link_node.ensures.queues c.link_node.ensures.lists c.link_node.ensures.owners c.link_node.ensures.queue_nodes c.link_node.ensures.list_nodes c.link_node.ensures.owner_nodes c.and-self-inside.ensures,
      room_same c.self.invariant.1 (c.insert.ensures.capacity ∙ c.try_remove.ensures.capacity) (c.link_node.ensures.queue_nodes ∙ c.unlink_node.ensures.queue_nodes) (c.link_node.ensures.list_nodes ∙ c.unlink_node.ensures.list_nodes) (c.link_node.ensures.owner_nodes ∙ c.unlink_node.ensures.owner_nodes),
    )

pub returns-in-Some-clause-items : goal.returns-in-Some-clause-items
returns-in-Some-clause-items c =
    let alike_node = search_found c.self.inside.heads c.self.inside.slots c.self.inside.queues c.self.inside.lists c.self.inside.owners (alive c.self.inside.history.items) c.args.request.now c.owner_head-head.result c.in-Some.node c.new-walk.result c.self.invariant.0 c.owner_head-head.ensures.is c.new-walk.ensures c.in-Some.ensures in
    let there : is_some c.try_remove.result ≡ true = ap is_some c.try_remove.ensures.value ∙ found_there c.self.inside.heads c.self.inside.slots c.self.inside.queues c.self.inside.lists c.self.inside.owners c.self.inside.history.items c.args.request.now c.in-Some.node c.saturating_sub-key.result c.self.invariant.0 alike_node c.saturating_sub-key.ensures in
    let gone = less_linked c.self.inside.heads c.self.inside.slots c.self.inside.queues c.self.inside.lists c.self.inside.owners c.self.inside.history.items c.args.request.now c.in-Some.node c.saturating_sub-key.result
    c.try_remove.new.self c.unlink_node.new.queues c.unlink_node.new.lists c.unlink_node.new.owners c.and-gone.result.items c.self.invariant.0 alike_node c.saturating_sub-key.ensures c.try_remove.ensures.updates
    (on_some (slab_len c.try_remove.new.self + 1 ≡ slab_len c.self.inside.slots) c.try_remove.result there c.try_remove.ensures.len)
    c.unlink_node.ensures.queues c.unlink_node.ensures.lists c.unlink_node.ensures.owners c.unlink_node.ensures.queue_nodes c.unlink_node.ensures.list_nodes c.unlink_node.ensures.owner_nodes c.and-gone.ensures in
    let next = on_some (c.try_remove.new.self.vacant_key ≡ c.saturating_sub-key.result) c.try_remove.result there c.try_remove.ensures.key_is_next in (
      ap (λ rs. list_any (λ q. are_alike q c.args.request.now) rs) (sym (ap (λ (t : Stored). t.requests) c.self.view_is)) ∙ node_any c.self.inside.heads c.self.inside.slots (alive c.self.inside.history.items) c.args.request.now c.in-Some.node alike_node,
      more_requests c.self.inside.heads c.try_remove.new.self c.insert.new.slots c.unlink_node.new.queues c.unlink_node.new.lists c.unlink_node.new.owners c.and-gone.result.items c.and-self-inside.result.items c.args.request.now c.saturating_sub-key.result gone
          c.try_remove.ensures.updates.changed (subst (λ k. Updates c.try_remove.new.self c.insert.new.slots k (Some c.args.request.now)) (c.insert.ensures.key ∙ next) c.insert.ensures.updates) c.and-self-inside.ensures
          ∙ ap (λ xs. xs ++ c.args.request.now ∷ [])
          (less_requests c.self.inside.heads c.self.inside.slots c.self.inside.queues c.self.inside.lists c.self.inside.owners c.self.inside.history.items c.args.request.now c.in-Some.node c.saturating_sub-key.result
          c.try_remove.new.self c.and-gone.result.items (subst AreRequests (sym (ap (λ (t : Stored). t.requests) c.self.view_is)) c.requires) alike_node c.saturating_sub-key.ensures c.try_remove.ensures.updates c.and-gone.ensures
          ∙ ap (removed c.args.request.now) (ap (λ (t : Stored). t.requests) c.self.view_is)),
    )

pub returns-in-None-clause-items : goal.returns-in-None-clause-items
returns-in-None-clause-items c = (
  ap (λ rs. list_any (λ q. are_alike q c.args.request.now) rs) (sym (ap (λ (t : Stored). t.requests) c.self.view_is))
      ∙ none_of_any (λ q. are_alike q c.args.request.now) (requests_in c.self.inside.slots (alive c.self.inside.history.items))
      (search_none c.self.inside.heads c.self.inside.slots c.self.inside.queues c.self.inside.lists c.self.inside.owners (alive c.self.inside.history.items) c.args.request.now c.owner_head-head.result c.new-walk.result c.self.invariant.0 c.owner_head-head.ensures.is c.new-walk.ensures c.in-None.ensures),
  refl,
)
