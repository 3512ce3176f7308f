use Rattle.laws_room.proofs.Fitting.{delete_fits, redo_fits, some_fit}
use Rattle.laws_room.proofs.laws.deletes_and_fewer_claims_fit.Goals as goal

pub returns-clause-delete : goal.returns-clause-delete
returns-clause-delete c v R undos counts id bytes k here = delete_fits v R undos counts k id bytes here

pub returns-clause-settled : goal.returns-clause-settled
returns-clause-settled c v R undos counts p slot bytes k fits = redo_fits v R undos counts k p slot bytes fits

pub returns-clause-some : goal.returns-clause-some
returns-clause-some c v R undos some counts p slot bytes k each fits = some_fit v R undos some counts k each p slot bytes fits
