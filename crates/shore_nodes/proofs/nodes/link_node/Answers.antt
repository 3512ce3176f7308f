use Rattle.std.proofs.Common.{subst}
use Rattle.shore_nodes.specs.Nodes.{LinksIn}
use Rattle.shore_nodes.proofs.nodes.link_node.Goals as goal

pub returns-clause-queues : goal.returns-clause-queues
returns-clause-queues c =
    subst (λ b. LinksIn c.args.queues.now c.link.new.self b c.args.node) c.requires.queue (c.link.ensures.ring, c.link.ensures.others)

pub returns-clause-lists : goal.returns-clause-lists
returns-clause-lists c =
    subst (λ b. LinksIn c.args.lists.now c.link-2.new.self b c.args.node) c.list_head-list.ensures.is (c.link-2.ensures.ring, c.link-2.ensures.others)

pub returns-clause-owners : goal.returns-clause-owners
returns-clause-owners c =
    subst (λ b. LinksIn c.args.owners.now c.link-3.new.self b c.args.node) c.owner_head-owner.ensures.is (c.link-3.ensures.ring, c.link-3.ensures.others)
