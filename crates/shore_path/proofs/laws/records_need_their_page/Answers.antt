use Rattle.shore_path.proofs.Lockable.{record_needs_page}
use Rattle.shore_path.proofs.laws.records_need_their_page.Goals as goal

pub returns : goal.returns
returns c = record_needs_page
