use Rattle.shore_page.proofs.Fitting.{fit_in_room}
use Rattle.shore_page.proofs.laws.claims_with_room_fit.Goals as goal

pub returns : goal.returns
returns c = fit_in_room
