use Rattle.std.proofs.Common.{[], arith}
use Rattle.laws_lives.proofs.Redo.{empty_page_stands, lacks_none_yet}
use Rattle.laws_lives.specs.Pages.{empty_page}
use Rattle.laws_lives.proofs.recovery.format_is_recoverable.Goals as goal

pub returns : goal.returns
returns c = record {
  durable = omega arith;
  redone = omega arith;
  volume = empty_page_stands;
  ahead = λ p. omega arith;
  in_place = λ p. lacks_none_yet [] p empty_page (empty_page_stands p);
}
