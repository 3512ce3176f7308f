use Rattle.std.proofs.Common.{arith}
use Rattle.shore_dwrite.proofs.TableLemmas.{cell_beside}
use Rattle.shore_dwrite.proofs.table.put_cell.Goals as goal

pub returns-clause-others : goal.returns-clause-others
returns-clause-others c j other = cell_beside c.args.table.now c.write_u32.new.buf c.args.i j _ c.requires (omega arith) (omega (arith, c.write_u32.auto.buf)) other
