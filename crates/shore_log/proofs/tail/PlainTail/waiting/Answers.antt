use Rattle.std.proofs.Common.{◌∙◌}
use Rattle.shore_frames.proofs.LoggedLemmas.{AreNumbered-fit, AreNumbered-test}
use Rattle.shore_log.specs.Listed.{listed}
use Rattle.shore_log.proofs.tail.PlainTail.waiting.Goals as goal

pub returns : goal.returns
returns c =
    let tail = c.args.self.now in
    let all = listed tail.waiting.items in
    c.decode_all.ensures all (AreNumbered-fit tail.first all (AreNumbered-test tail.first all tail.numbered)) (c.deref.ensures.value ∙ tail.spelled)
