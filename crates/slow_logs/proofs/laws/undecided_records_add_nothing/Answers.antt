use Rattle.slow_logs.proofs.AfterOthers.{records_after_others, in_doubt_in-same}
use Rattle.slow_logs.proofs.laws.undecided_records_add_nothing.Goals as goal

pub returns : goal.returns
returns c rs r decides not_committed not_in_doubt = (records_after_others rs r decides not_committed not_in_doubt, in_doubt_in-same rs r decides)
