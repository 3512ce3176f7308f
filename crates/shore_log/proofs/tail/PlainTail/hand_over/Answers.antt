use Rattle.std.proofs.Common.{◌≡◌, ◌+◌, List, [], IsTrue, length, length-append, inl, inr, refl, sym, subst, ap, ◌∙◌, arith}
use Rattle.shore_model.specs.declared.log_records.LogRecord.{LogRecord}
use Rattle.shore_logrec.specs.Text.{texts}
use Rattle.shore_frames.specs.LoggedRecords.{are_numbered}
use Rattle.shore_log.specs.Listed.{listed}
use Rattle.shore_log.proofs.tail.PlainTail.hand_over.Goals as goal

pub take_spare-requires : goal.take_spare-requires
take_spare-requires c = (c.in_ok-move_behind.ensures.ok.1, c.args.self.now.spare_room.0)

pub invariant_of-self-2 : goal.invariant_of-self-2
invariant_of-self-2 c =
    let old = c.args.self.now in
    let none : listed c.new-self.result.items ≡ [] = ap listed c.new-self.ensures in
    let least = c.still_aside.ensures.least in
    record {
      numbered = subst (λ (l : List LogRecord). IsTrue (are_numbered (old.first + old.count) l)) (sym none) refl;
      counted = sym (ap length none);
      few = let few = old.few in omega (arith, few);
      spelled = c.take_spare.ensures.empty.0 ∙ ap texts (sym none);
      no_entry = old.no_entry;
      index_room = let room = old.index_room in omega (arith, room, least.0);
      texts_room = omega (arith, c.still_aside.ensures.texts (omega (arith, c.len.ensures, c.capacity.ensures, c.move_behind.new.out.ok.0)), c.take_spare.new.bytes.ok.1, ap length c.take_spare.ensures.empty.0);
      texts_short = omega (arith, c.len.ensures, c.move_behind.new.out.ok.1, c.move_behind.new.out.small);
      aside_short = let short = old.aside_short in (omega (arith, short.0, least.0), omega (arith, short.1, least.1));
      aside_room = omega (arith, c.still_aside.ensures.room.0, c.capacity-2.ensures, c.take_spare.new.bytes.ok.1, ap length c.take_spare.ensures.empty.0);
      spare_room = (c.take_spare.ensures.empty.1, omega (arith, c.still_aside.ensures.room.1, c.capacity-3.ensures));
    }

pub invariant_of-self : goal.invariant_of-self
invariant_of-self c =
    let old = c.args.self.now in
    record {
      numbered = old.numbered;
      counted = old.counted;
      few = old.few;
      spelled = c.in_err-move_behind.ensures.err.1 ∙ old.spelled;
      no_entry = old.no_entry;
      index_room = old.index_room;
      texts_room = omega (arith, old.texts_room, c.move_behind.new.more.ok.0, old.bytes.ok.0, ap length c.in_err-move_behind.ensures.err.1, c.in_err-move_behind.ensures.left);
      texts_short = old.texts_short;
      aside_short = old.aside_short;
      aside_room = omega (arith, old.aside_room, c.move_behind.new.more.ok.0, old.bytes.ok.0, ap length c.in_err-move_behind.ensures.err.1, c.in_err-move_behind.ensures.left);
      spare_room = old.spare_room;
    }

-- all that was kept aside is so still: by the room that the log device was said to have, or by that of the spare
pub returns-clause-aside : goal.returns-clause-aside
returns-clause-aside c covers =
    let old = c.args.self.now in
    let here = old.aside_room in
    let other = old.spare_room.1 in
    let all = old.texts_room in
    let long = ap length c.in_ok-move_behind.ensures.ok.0 in
    elim c.in_ok-move_behind.ensures.room [
      | inl stay ↦ elim c.take_spare.ensures.room [
        | inl had ↦ c.still_aside.ensures.all (omega (arith, c.capacity.ensures, c.capacity-2.ensures, c.capacity-3.ensures, had)) (omega (arith, c.capacity.ensures, c.capacity-2.ensures, c.capacity-3.ensures, had, stay, other, covers)) (omega (arith, c.capacity.ensures, c.capacity-2.ensures, c.capacity-3.ensures, had, stay, all, covers, long, c.len.ensures, c.move_behind.new.out.ok.1, c.args.out.now.ok.1, old.bytes.ok.1, length-append c.args.out.now.items old.bytes.items))
        | inr short ↦ absurd (omega (arith, c.capacity.ensures, c.capacity-2.ensures, c.capacity-3.ensures, short.0, stay.1, here))
      ]
      | inr changed ↦ elim c.take_spare.ensures.room [
        | inl had ↦ c.still_aside.ensures.all (omega (arith, c.capacity.ensures, c.capacity-2.ensures, c.capacity-3.ensures, had)) (omega (arith, c.capacity.ensures, c.capacity-2.ensures, c.capacity-3.ensures, had, changed, here)) (omega (arith, c.capacity.ensures, c.capacity-2.ensures, c.capacity-3.ensures, had, changed, all, covers, long, c.len.ensures, c.move_behind.new.out.ok.1, c.args.out.now.ok.1, old.bytes.ok.1, length-append c.args.out.now.items old.bytes.items))
        | inr short ↦ c.still_aside.ensures.all (omega (arith, c.capacity.ensures, c.capacity-2.ensures, c.capacity-3.ensures, short, changed, other, covers)) (omega (arith, c.capacity.ensures, c.capacity-2.ensures, c.capacity-3.ensures, changed, here)) (omega (arith, c.capacity.ensures, c.capacity-2.ensures, c.capacity-3.ensures, short, changed, here, all, covers, long, c.len.ensures, c.move_behind.new.out.ok.1, c.args.out.now.ok.1, old.bytes.ok.1, length-append c.args.out.now.items old.bytes.items))
      ]
    ]
