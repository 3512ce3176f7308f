use Rattle.shore_logrec.proofs.Puttings.{Puts-then, prepare_put}
use Rattle.shore_logrec.proofs.writing.put_prepare.Goals as goal

pub returns : goal.returns
returns c =
    prepare_put c.args.global.now c.args.granules.now c.as_slice.result.now c.as_slice-2.result.now c.as_slice.ensures c.as_slice-2.ensures c.requires.fits.short
    (Puts-then (Puts-then (Puts-then c.put.ensures c.put-2.ensures) c.put_u32.ensures) c.put_entries.ensures)
