use Rattle.std.proofs.Common.{◌^◌, sym, subst, arith}
use Rattle.shore_script.specs.Reading.{Reads}
use Rattle.shore_script.specs.Ids.{IsNumber}
use Rattle.shore_script.proofs.Digits.{fits_short}
use Rattle.shore_script.proofs.words.short_number.Goals as goal

pub returns : goal.returns
returns c = subst (Reads (IsNumber (2 ^ 32) c.args.word.now)) (sym c.ok.ensures.value) (fits_short (2 ^ 32) (omega arith) c.args.word.now c.in_ok-number.field-0 c.try_from.result c.in_ok-number.ensures c.try_from.ensures)
