use Rattle.shore_script.proofs.OneValue.{printed_bytes}
use Rattle.shore_script.proofs.laws.printed_bytes_are_read_back.Goals as goal

pub returns : goal.returns
returns c = printed_bytes
