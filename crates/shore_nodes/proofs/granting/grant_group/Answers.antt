use Rattle.std.proofs.Common.{◌<◌, ◌-◌, [], Some, ap, refl, inl, inr, sym, subst, ◌∙◌, arith}
use Rattle.slab.specs.Slab.{Updates}
use Rattle.shore_nodes.proofs.Spreads.{queue_small}
use Rattle.shore_model.specs.declared.requests.Request.{Request}
use Rattle.shore_nodes.specs.LetThrough.{TellsFirst, noted}
use Rattle.shore_nodes.specs.Nodes.{requests_in}
use Rattle.shore_nodes.proofs.GrantWalks.{nobody_walks, walk_begins, walk_ends, walk_grants, walk_passes, walk_stops, walk_tells, GrantWalk}
use Rattle.shore_nodes.proofs.LetThrough.{tells_one}
use Rattle.shore_nodes.proofs.Judged.{nobody_of}
use Rattle.shore_nodes.proofs.Tallying.{ConvertingMore, HoldingMore, WaitingMore}
use Rattle.shore_nodes.proofs.granting.grant_group.Goals as goal
use Rattle.shore_nodes.proofs.granting.grant_group.Goals.{in-Some+else-not-allow, in_default}

pub returns-then-not-may_have-clause-walked : goal.returns-then-not-may_have-clause-walked
returns-then-not-may_have-clause-walked c = λ lists owners ks behind can.
    nobody_walks c.args.heads c.args.slots.now c.args.queues.now lists owners c.args.head c.args.granule.now c.args.group behind c.args.tally.now ks can (λ rs counts. nobody_of c.args.group c.args.tally.now rs counts (sym c.may_have.ensures ∙ c.if-not-may_have.true))

pub loop-left-init : goal.loop-left-init
loop-left-init c = (
  refl,
  c.after-node.ensures.within,
  λ lists owners ks behind can.
      walk_begins c.args.heads c.args.slots.now c.args.queues.now lists owners c.args.head c.args.granule.now c.args.group behind ks c.args.tally.now c.after-node.result c.len-left.result can c.after-node.ensures.next c.len-left.ensures,
  λ lists owners ks behind can. ([], refl, refl),
)

pub returns-then-not-allow-clause-walked : goal.returns-then-not-allow-clause-walked
returns-then-not-allow-clause-walked c = λ lists owners ks behind can.
    walk_stops c.args.heads c.args.slots.now c.loop-left.slots c.args.queues.now lists owners c.args.head c.args.granule.now c.args.group behind c.loop-left.tally ks c.loop-left.node c.loop-left.left
    (c.loop-left.invariant.2 lists owners ks behind can) c.if-node-head.true c.loop-left-test.true c.saturating_sub-key.result c.in-Some.waiter c.saturating_sub-key.ensures c.in-Some.ensures.0 c.in-Some.ensures.1
    c.take_out.new.self c.take_out.ensures.holding c.take_out.ensures.waiting c.take_out.ensures.converting c.take_out.new.self (sym c.allow.ensures ∙ c.if-not-allow.true)

pub loop-left-preserved : goal.loop-left-preserved
loop-left-preserved c = (
  elim c.match-waiter_at.branch [
    | in-Some+else-not-allow w ↦ ap (λ s. s.capacity) w.slots-is ∙ w.set_slot.ensures.capacity ∙ c.loop-left.invariant.0
    | in_default w ↦ ap (λ s. s.capacity) w.slots-is ∙ c.loop-left.invariant.0
  ],
  c.after-node-in-loop-left.ensures.within,
  λ lists owners ks behind can.
      elim c.match-waiter_at.branch [
        | in-Some+else-not-allow w ↦
            subst (λ s. GrantWalk c.args.heads c.args.slots.now s c.args.queues.now lists owners c.args.head c.args.granule.now c.args.group behind c.match-waiter_at.tally ks c.after-node-in-loop-left.result (c.loop-left.left - 1)) (sym w.slots-is)
            (subst (λ t. GrantWalk c.args.heads c.args.slots.now w.set_slot.new.slots c.args.queues.now lists owners c.args.head c.args.granule.now c.args.group behind t ks c.after-node-in-loop-left.result (c.loop-left.left - 1)) (sym w.tally-is)
            (walk_grants c.args.heads c.args.slots.now c.loop-left.slots c.args.queues.now lists owners c.args.head c.args.granule.now c.args.group behind c.loop-left.tally ks c.loop-left.node c.loop-left.left
            (c.loop-left.invariant.2 lists owners ks behind can) c.if-node-head.true c.loop-left-test.true c.saturating_sub-key.result w.in-Some.waiter c.saturating_sub-key.ensures w.in-Some.ensures.0 w.in-Some.ensures.1
            w.take_out.new.self w.take_out.ensures.holding w.take_out.ensures.waiting w.take_out.ensures.converting
            w.set_slot.new.slots w.add.new.self c.after-node-in-loop-left.result c.after-node-in-loop-left.ensures.next (sym w.allow.ensures ∙ w.if-not-allow.false)
            (subst (λ r. Updates c.loop-left.slots w.set_slot.new.slots c.saturating_sub-key.result (Some r)) w.granted-granted.ensures w.set_slot.ensures.updates) w.set_slot.ensures.len
            (subst (λ r. HoldingMore w.take_out.new.self w.add.new.self r) w.granted-granted.ensures w.add.ensures.holding)
            (subst (λ r. WaitingMore w.take_out.new.self w.add.new.self r) w.granted-granted.ensures w.add.ensures.waiting)
            (subst (λ r. ConvertingMore w.take_out.new.self w.add.new.self r) w.granted-granted.ensures w.add.ensures.converting)))
        | in_default w ↦
            subst (λ s. GrantWalk c.args.heads c.args.slots.now s c.args.queues.now lists owners c.args.head c.args.granule.now c.args.group behind c.match-waiter_at.tally ks c.after-node-in-loop-left.result (c.loop-left.left - 1)) (sym w.slots-is)
            (subst (λ t. GrantWalk c.args.heads c.args.slots.now c.loop-left.slots c.args.queues.now lists owners c.args.head c.args.granule.now c.args.group behind t ks c.after-node-in-loop-left.result (c.loop-left.left - 1)) (sym w.tally-is)
            (walk_passes c.args.heads c.args.slots.now c.loop-left.slots c.args.queues.now lists owners c.args.head c.args.granule.now c.args.group behind c.loop-left.tally ks c.loop-left.node c.loop-left.left
            (c.loop-left.invariant.2 lists owners ks behind can) c.if-node-head.true c.loop-left-test.true c.saturating_sub-key.result c.after-node-in-loop-left.result c.saturating_sub-key.ensures c.after-node-in-loop-left.ensures.next w.in_default.ensures))
      ],
  λ lists owners ks behind can.
      elim c.match-waiter_at.branch [
        | in-Some+else-not-allow w ↦
            subst (λ s. TellsFirst c.args.granule.now (requests_in c.args.slots.now ks) (requests_in s ks) c.args.let_through.now c.match-waiter_at.let_through) (sym w.slots-is)
            (subst (λ l. TellsFirst c.args.granule.now (requests_in c.args.slots.now ks) (requests_in w.set_slot.new.slots ks) c.args.let_through.now l)
            (sym (w.let_through-is ∙ w.note.ensures ∙ ap (λ (r : Request). noted r.txn c.loop-left.let_through) w.granted-granted.ensures))
            (tells_one c.args.granule.now (requests_in c.args.slots.now ks) (requests_in c.loop-left.slots ks) (requests_in w.set_slot.new.slots ks) c.args.let_through.now c.loop-left.let_through w.in-Some.waiter
            (c.loop-left.invariant.3 lists owners ks behind can)
            (walk_tells c.args.heads c.args.slots.now c.loop-left.slots c.args.queues.now lists owners c.args.head c.args.granule.now c.args.group behind c.loop-left.tally ks c.loop-left.node c.loop-left.left
            (c.loop-left.invariant.2 lists owners ks behind can) c.if-node-head.true c.loop-left-test.true c.saturating_sub-key.result w.in-Some.waiter c.saturating_sub-key.ensures w.in-Some.ensures.0 w.in-Some.ensures.1
            w.take_out.new.self w.take_out.ensures.holding w.take_out.ensures.waiting w.take_out.ensures.converting w.set_slot.new.slots
            (subst (λ r. Updates c.loop-left.slots w.set_slot.new.slots c.saturating_sub-key.result (Some r)) w.granted-granted.ensures w.set_slot.ensures.updates))))
        | in_default w ↦
            subst (λ s. TellsFirst c.args.granule.now (requests_in c.args.slots.now ks) (requests_in s ks) c.args.let_through.now c.match-waiter_at.let_through) (sym w.slots-is)
            (subst (TellsFirst c.args.granule.now (requests_in c.args.slots.now ks) (requests_in c.loop-left.slots ks) c.args.let_through.now) (sym w.let_through-is)
            (c.loop-left.invariant.3 lists owners ks behind can))
      ],
)

pub returns-then-not-allow-clause-told : goal.returns-then-not-allow-clause-told
returns-then-not-allow-clause-told c = c.loop-left.invariant.3

pub returns-else-node-head-clause-told : goal.returns-else-node-head-clause-told
returns-else-node-head-clause-told c = c.loop-left.invariant.3

pub returns-after-loop-left-clause-told : goal.returns-after-loop-left-clause-told
returns-after-loop-left-clause-told c = c.loop-left.invariant.3

pub returns-else-node-head-clause-walked : goal.returns-else-node-head-clause-walked
returns-else-node-head-clause-walked c = λ lists owners ks behind can.
    walk_ends c.args.heads c.args.slots.now c.loop-left.slots c.args.queues.now lists owners c.args.head c.args.granule.now c.args.group behind c.loop-left.tally ks c.loop-left.node c.loop-left.left
    (subst (λ b. b < c.args.heads) (sym can.at) (queue_small c.args.granule.now c.args.heads can.are_linked.some_heads))
    (c.loop-left.invariant.2 lists owners ks behind can) (inr c.if-node-head.false)

pub returns-after-loop-left-clause-walked : goal.returns-after-loop-left-clause-walked
returns-after-loop-left-clause-walked c = λ lists owners ks behind can.
    let none = c.loop-left-test.false in
    walk_ends c.args.heads c.args.slots.now c.loop-left.slots c.args.queues.now lists owners c.args.head c.args.granule.now c.args.group behind c.loop-left.tally ks c.loop-left.node c.loop-left.left
    (subst (λ b. b < c.args.heads) (sym can.at) (queue_small c.args.granule.now c.args.heads can.are_linked.some_heads))
    (c.loop-left.invariant.2 lists owners ks behind can) (inl (omega (arith, none)))
