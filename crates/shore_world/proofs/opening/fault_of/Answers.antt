use Rattle.std.proofs.Common.{◌≡◌, sym, ◌∙◌, arith, subst}
use Rattle.shore_disk.specs.Device.{seen}
use Rattle.shore_frames.specs.Offsets.{IsFrameOf}
use Rattle.shore_world.proofs.OpenLemmas.{same_number}
use Rattle.shore_world.proofs.opening.fault_of.Goals as goal

pub returns-in-BadRecord-clause-record_of : goal.returns-in-BadRecord-clause-record_of
returns-in-BadRecord-clause-record_of g c n is =
    let same : c.in-BadRecord.number ≡ n = same_number _ _ (sym c.in-BadRecord.is ∙ is) in (
      c.frame_of.result,
      c.damaged-in-BadRecord.ensures,
      λ tail place front settled some most.
          subst (λ k. IsFrameOf tail place (seen (g.D.Disk.history c.args.log.now.device)) k c.frame_of.result) same
          (c.frame_of.ensures tail place front settled (omega (arith, same, some)) (omega (arith, same, most))),
    )
