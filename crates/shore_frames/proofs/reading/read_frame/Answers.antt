use Rattle.std.proofs.Common.{◌≡◌, ◌+◌, length, drop, sym, subst, ◌∙◌, arith}
use Rattle.shore_logrec.specs.Text.{texts}
use Rattle.shore_frames.specs.Offsets.{BodyAt}
use Rattle.shore_frames.specs.Streams.{view_of}
use Rattle.shore_frames.proofs.OffsetLemmas.{same_frame}
use Rattle.shore_frames.proofs.reading.read_frame.Goals as goal

pub returns-in-Ok-clause-frame : goal.returns-in-Ok-clause-frame
returns-in-Ok-clause-frame g c honest =
    let bytes = view_of c.args.view.now (g.D.Disk.history c.args.device.now) in
    let body = c.in-Some.body.items in
    let inside = rw c.in-Some.is at c.in_ok-body.ensures.inside in
    let stands = rw c.in-Some.is at (c.in_ok-body.ensures.body honest) in
    let texts_are : body ≡ texts c.in-Ok.records.items = cc (c.deref.ensures.value, c.in-Ok.ensures.found.1) in
    record {
      stands = subst (BodyAt bytes c.args.at c.args.number) texts_are stands;
      only = λ other rest group there.
          c.in-Ok.ensures.only other group.numbered (cc (c.deref.ensures.value, (same_frame c.args.number body (texts other) (drop (c.args.at + 13 + length body) bytes) rest (omega arith) inside.1 group.most (sym stands ∙ there)).0));
    }

pub returns-in-Err-NoText-clause-none : goal.returns-in-Err-NoText-clause-none
returns-in-Err-NoText-clause-none g c honest none other rest group some there =
    let bytes = view_of c.args.view.now (g.D.Disk.history c.args.device.now) in
    let body = c.in-Some.body.items in
    let inside = rw c.in-Some.is at c.in_ok-body.ensures.inside in
    let stands = rw c.in-Some.is at (c.in_ok-body.ensures.body honest) in
    let same = (same_frame c.args.number body (texts other) (drop (c.args.at + 13 + length body) bytes) rest (omega arith) inside.1 group.most (sym stands ∙ there)).0 in
    rw c.in-Err-NoText.field-0-is at (c.in-Err-NoText.ensures.only other group.numbered (cc (c.deref.ensures.value, same)))
