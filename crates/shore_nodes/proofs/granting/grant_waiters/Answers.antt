use Rattle.std.proofs.Common.{[], subst, ◌∙◌, true}
use Rattle.shore_nodes.specs.Granting.{IsWalked, new_waiters}
use Rattle.shore_nodes.specs.Nodes.{requests_in}
use Rattle.shore_nodes.proofs.GrantWalks.{all_walked, walk_on}
use Rattle.shore_nodes.proofs.LetThrough.{tells_on}
use Rattle.shore_nodes.proofs.granting.grant_waiters.Goals as goal

pub returns-then-grant_group-clause-are_linked : goal.returns-then-grant_group-clause-are_linked
returns-then-grant_group-clause-are_linked c = λ lists owners ks can.
    let walked : IsWalked c.args.heads c.args.slots.now c.grant_group.new.slots c.args.queues.now lists owners c.args.granule.now (new_waiters c.args.granule.now (requests_in c.args.slots.now ks)) c.grant_group.new.tally true ks =
    subst (λ b. IsWalked c.args.heads c.args.slots.now c.grant_group.new.slots c.args.queues.now lists owners c.args.granule.now (new_waiters c.args.granule.now (requests_in c.args.slots.now ks)) c.grant_group.new.tally b ks) c.if-grant_group.true
    (c.grant_group.ensures.walked lists owners ks (new_waiters c.args.granule.now (requests_in c.args.slots.now ks)) can) in
    (c.grant_group-then-grant_group.ensures.walked lists owners ks []
    (walk_on c.args.heads c.args.slots.now c.grant_group.new.slots c.args.queues.now lists owners c.args.head c.args.granule.now c.args.counted c.grant_group.new.tally ks can walked)).are_linked

pub returns-then-grant_group-clause-granted : goal.returns-then-grant_group-clause-granted
returns-then-grant_group-clause-granted c = λ lists owners ks can.
    let walked : IsWalked c.args.heads c.args.slots.now c.grant_group.new.slots c.args.queues.now lists owners c.args.granule.now (new_waiters c.args.granule.now (requests_in c.args.slots.now ks)) c.grant_group.new.tally true ks =
    subst (λ b. IsWalked c.args.heads c.args.slots.now c.grant_group.new.slots c.args.queues.now lists owners c.args.granule.now (new_waiters c.args.granule.now (requests_in c.args.slots.now ks)) c.grant_group.new.tally b ks) c.if-grant_group.true
    (c.grant_group.ensures.walked lists owners ks (new_waiters c.args.granule.now (requests_in c.args.slots.now ks)) can) in
    all_walked c.args.granule.now c.grant_group-then-grant_group.new.tally c.grant_group-then-grant_group.result (requests_in c.grant_group.new.slots ks) (requests_in c.grant_group-then-grant_group.new.slots ks)
    (c.grant_group-then-grant_group.ensures.walked lists owners ks []
    (walk_on c.args.heads c.args.slots.now c.grant_group.new.slots c.args.queues.now lists owners c.args.head c.args.granule.now c.args.counted c.grant_group.new.tally ks can walked)).is_granted
    ∙ walked.is_granted.0

pub returns-then-grant_group-clause-told : goal.returns-then-grant_group-clause-told
returns-then-grant_group-clause-told c = λ lists owners ks can.
    let walked : IsWalked c.args.heads c.args.slots.now c.grant_group.new.slots c.args.queues.now lists owners c.args.granule.now (new_waiters c.args.granule.now (requests_in c.args.slots.now ks)) c.grant_group.new.tally true ks =
    subst (λ b. IsWalked c.args.heads c.args.slots.now c.grant_group.new.slots c.args.queues.now lists owners c.args.granule.now (new_waiters c.args.granule.now (requests_in c.args.slots.now ks)) c.grant_group.new.tally b ks) c.if-grant_group.true
    (c.grant_group.ensures.walked lists owners ks (new_waiters c.args.granule.now (requests_in c.args.slots.now ks)) can) in
    tells_on c.args.granule.now (requests_in c.args.slots.now ks) (requests_in c.grant_group.new.slots ks) (requests_in c.grant_group-then-grant_group.new.slots ks) c.args.let_through.now c.grant_group.new.let_through c.grant_group-then-grant_group.new.let_through
    (c.grant_group.ensures.told lists owners ks (new_waiters c.args.granule.now (requests_in c.args.slots.now ks)) can)
    (c.grant_group-then-grant_group.ensures.told lists owners ks []
    (walk_on c.args.heads c.args.slots.now c.grant_group.new.slots c.args.queues.now lists owners c.args.head c.args.granule.now c.args.counted c.grant_group.new.tally ks can walked))
