use Rattle.shore_check.proofs.Listing.{txns_listed}
use Rattle.shore_check.proofs.laws.rising_transactions_may_be_listed.Goals as goal

pub returns : goal.returns
returns c txns few rise = txns_listed txns few rise
