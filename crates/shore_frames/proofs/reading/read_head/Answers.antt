use Rattle.std.proofs.Common.{ℕ, ◌+◌, ◌++◌, List, drop, sym, ap, ◌∙◌, arith}
use Rattle.shore_frames.specs.Streams.{view_of}
use Rattle.shore_frames.proofs.OffsetLemmas.{piece}
use Rattle.shore_frames.proofs.reading.read_head.Goals as goal

pub returns-clause-head : goal.returns-clause-head
returns-clause-head g c honest =
    let bytes = view_of c.args.view.now (g.D.Disk.history c.args.device.now) in
    piece bytes c.read.new.out (c.args.at + 1) 12 (c.args.at + 1) (c.args.at + 13) (c.in_ok-read.ensures.read honest) (omega arith) (omega arith) ∙ ap (λ (l : List ℕ). l ++ drop (c.args.at + 13) bytes) (sym c.head_of.ensures)
