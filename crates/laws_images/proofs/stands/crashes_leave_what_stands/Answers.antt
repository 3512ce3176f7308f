use Rattle.laws_images.proofs.Left.{left_stand}
use Rattle.laws_images.proofs.stands.crashes_leave_what_stands.Goals as goal

pub returns : goal.returns
returns c g log_bytes volume_bytes rs pages log_image volume_image s log_left volume_left stood k gives shows =
    let left = left_stand g log_bytes volume_bytes rs pages log_image volume_image stood s k log_left volume_left gives shows in
    (left.survive, left.pages, left.lost, left.stands, left.fronts)
