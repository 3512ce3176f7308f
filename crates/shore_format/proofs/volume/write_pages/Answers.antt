use Rattle.std.proofs.Common.{◌<◌, IsTrue, refl, sym, ◌∙◌, subst, arith}
use Rattle.shore_types.specs.Versions.{page_bytes}
use Rattle.shore_types.specs.declared.ids.PageId.{PageId}
use Rattle.shore_types.specs.Layout.{HasPage}
use Rattle.shore_dwrite.specs.Volumes.{page_count, page_number}
use Rattle.shore_dwrite.proofs.Numbers.{page_within}
use Rattle.shore_dwrite.proofs.Products.{times_below}
use Rattle.shore_format.proofs.VolumeLemmas.{wrote_none, wrote_torn, wrote_more, wrote_all}
use Rattle.shore_format.proofs.volume.write_pages.Goals as goal

pub loop-number-init : goal.loop-number-init
loop-number-init g c = record { honest = refl; size = refl; faults = refl; wrote = λ honest. wrote_none _ _ }

pub returns-in_err-page-clause-any_moment : goal.returns-in_err-page-clause-any_moment
returns-in_err-page-clause-any_moment g c honest shut = (c.loop-number.invariant.wrote honest).moments shut

pub write_at-requires : goal.write_at-requires
write_at-requires g c =
    let text = rw c.in_ok-page.ensures at c.text.ensures in
    omega (arith, text.whole, c.page_offset.ensures, times_below (page_bytes c.args.geometry.now.version) c.loop-number.number (page_count c.args.geometry.now) (omega (arith, c.loop-number-test.true, c.page_count-number-end.ensures)), c.loop-number.invariant.size, c.requires.size)

pub returns-in_err-write_at-clause-any_moment : goal.returns-in_err-write_at-clause-any_moment
returns-in_err-write_at-clause-any_moment g c honest shut =
    wrote_torn _ _ _ _ _ _ _ _ _ (c.loop-number.invariant.wrote honest) c.page_offset.ensures (c.write_at.ensures.written (subst IsTrue (sym c.loop-number.invariant.honest) honest)) shut

pub loop-number-preserved : goal.loop-number-preserved
loop-number-preserved g c = record {
  honest = c.write_at.ensures.honest ∙ c.loop-number.invariant.honest;
  size = c.write_at.ensures.size ∙ c.loop-number.invariant.size;
  faults = c.in_ok-write_at.ensures.cause ∙ c.loop-number.invariant.faults;
  wrote = λ honest.
      let long = g.met.D.Disk.keeps_length c.args.volume.now honest in
      wrote_more _ _ _ _ c.loop-number.number _ c.page_of.result _ (c.loop-number.invariant.wrote honest) c.page_of.ensures.there c.page_of.ensures.number c.page_offset.ensures
      (omega (arith, long, c.requires.size, times_below (page_bytes c.args.geometry.now.version) c.loop-number.number (page_count c.args.geometry.now) (omega (arith, c.loop-number-test.true, c.page_count-number-end.ensures))))
      (rw c.in_ok-page.ensures at c.text.ensures)
      (c.in_ok-write_at.ensures.written (subst IsTrue (sym c.loop-number.invariant.honest) honest));
}

pub returns-clause-pages : goal.returns-clause-pages
returns-clause-pages g c honest =
    let each : (id : PageId) → HasPage c.args.geometry.now id → page_number c.args.geometry.now id < c.loop-number.number = λ id there.
    let within = page_within c.args.geometry.now.stores id.store id.page there in
    omega (arith, within.1, c.loop-number-test.false, c.page_count-number-end.ensures) in
    wrote_all _ _ _ _ each (c.loop-number.invariant.wrote honest)

pub returns-clause-any_moment : goal.returns-clause-any_moment
returns-clause-any_moment g c honest shut = (c.loop-number.invariant.wrote honest).moments shut
