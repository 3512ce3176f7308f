-- What the state of a transaction says of its decision, and what a checkpoint says of it.
use Rattle.std.specs.Prelude.{ℕ, Bool, false, true, if◌then◌else◌}
use Rattle.shore_model.specs.declared.log_records.TxnState as model
use Rattle.shore_model.specs.declared.rollbacks.Rollback.TheVariants.{Whole}
use Rattle.shore_model.specs.declared.log_records.TxnState.TheVariants as listed
use Rattle.shore_types.specs.declared.layout.TheConstants.{ENDING_COST}
use Rattle.shore_txn.specs.declared.txn_state.TxnState.{TxnState}
use Rattle.shore_txn.specs.declared.txn_state.TxnState.TheVariants.{Active, Doomed, Prepared, Preparing, RollingBack}

-- it has a Prepare, and no decision
abbrev pub is_in_doubt : TxnState → Bool
is_in_doubt Active = false
is_in_doubt Doomed = false
is_in_doubt (RollingBack rollback) = false
is_in_doubt Preparing = true
is_in_doubt Prepared = true

-- what it is once it can only be rolled back, whole: if something was put back already, that goes on
abbrev pub doomed_from : TxnState → TxnState
doomed_from Active = Doomed
doomed_from Doomed = Doomed
doomed_from (RollingBack rollback) = RollingBack Whole
doomed_from Preparing = Doomed
doomed_from Prepared = Doomed

-- a second ending, that of a Rollback decided, is reserved for as long as it is in doubt
abbrev pub second_ending : TxnState → ℕ
second_ending state = if is_in_doubt state then ENDING_COST else 0

-- what a checkpoint says of it
abbrev pub listed_state : TxnState → model.TxnState
listed_state Active = listed.Active
listed_state Doomed = listed.Active
listed_state (RollingBack rollback) = listed.RollingBack
listed_state Preparing = listed.Prepared
listed_state Prepared = listed.Prepared
