use Rattle.laws_images.proofs.PathsBehind.{cut_off_behind, path_reaches}
use Rattle.laws_images.proofs.stands.opens_behind_anchors_leave_what_stands.Goals as goal

pub returns-clause-way : goal.returns-clause-way
returns-clause-way c g log_front front anchor first last moments path =
    let h = path_reaches g log_front front anchor first moments last path in
    (h.works, h.restarts, h.loses_none)

pub returns-clause-lost : goal.returns-clause-lost
returns-clause-lost c g log_bytes volume_bytes anchor rs pages log_image volume_image log volume moments last log_left volume_left stood path lost =
    let h = cut_off_behind g log_bytes volume_bytes anchor rs pages log_image volume_image stood log volume moments last path log_left volume_left lost in
    (h.cut, h.is_cut, h.stands, h.fronts)
