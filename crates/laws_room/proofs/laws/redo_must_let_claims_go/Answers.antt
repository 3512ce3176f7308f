use Rattle.laws_room.proofs.Fitting.{not_kept, fits_let_go}
use Rattle.laws_room.proofs.laws.redo_must_let_claims_go.Goals as goal

pub returns-clause-kept : goal.returns-clause-kept
returns-clause-kept c a b la lb fits = not_kept a b la lb fits

pub returns-clause-let_go : goal.returns-clause-let_go
returns-clause-let_go c a b la lb = fits_let_go a b la lb
