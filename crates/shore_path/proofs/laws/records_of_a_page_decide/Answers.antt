use Rattle.shore_path.proofs.Lockable.{decides_record, record_decides}
use Rattle.shore_path.proofs.laws.records_of_a_page_decide.Goals as goal

pub returns : goal.returns
returns c rs t id orderly can = (record_decides rs t id orderly.one_each, decides_record rs t id orderly.one_each can)
