use Rattle.laws_images.proofs.Paths.{cut_off_as, path_restarts}
use Rattle.laws_images.proofs.stands.opens_leave_what_stands.Goals as goal

pub returns-clause-way : goal.returns-clause-way
returns-clause-way c g log_front front first last moments path =
    let reached = path_restarts g log_front front first moments last path in
    (reached.works, reached.restarts)

pub returns-clause-lost : goal.returns-clause-lost
returns-clause-lost c g log_bytes volume_bytes rs pages log_image volume_image log volume moments last log_left volume_left stood path lost =
    let left = cut_off_as g log_bytes volume_bytes rs pages log_image volume_image stood log volume moments last path log_left volume_left lost in
    (left.cut, left.is_cut, left.stands, left.fronts)
