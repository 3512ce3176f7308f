-- What is so of the state of a transaction that can only be rolled back, whole.
use Rattle.std.proofs.Common.{◌≡◌, Bool, false, Option, Some, refl}
use Rattle.shore_model.specs.declared.rollbacks.Rollback.{Rollback}
use Rattle.shore_model.specs.declared.rollbacks.Rollback.TheVariants.{Whole}
use Rattle.shore_txn.specs.TxnStates.{doomed_from, is_in_doubt}
use Rattle.shore_txn.specs.Txns.{rolling_of}
use Rattle.shore_txn.specs.declared.txn_state.TxnState.{TxnState}
use Rattle.shore_txn.specs.declared.txn_state.TxnState.TheVariants.{Active, Doomed, Prepared, Preparing, RollingBack}

pub free_doomed : (state : TxnState) → is_in_doubt (doomed_from state) ≡ false
free_doomed Active = refl
free_doomed Doomed = refl
free_doomed (RollingBack rollback) = refl
free_doomed Preparing = refl
free_doomed Prepared = refl

pub rolling_doomed : (state : TxnState) → rolling_of (doomed_from state) ≡ Some Whole
rolling_doomed Active = refl
rolling_doomed Doomed = refl
rolling_doomed (RollingBack rollback) = refl
rolling_doomed Preparing = refl
rolling_doomed Prepared = refl
