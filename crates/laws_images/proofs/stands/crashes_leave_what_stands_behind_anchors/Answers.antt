use Rattle.laws_images.proofs.LeftBehind.{stand_behind}
use Rattle.laws_images.proofs.stands.crashes_leave_what_stands_behind_anchors.Goals as goal

pub returns : goal.returns
returns c g log_bytes volume_bytes o found es m volume_image anchor log_left volume_left k label may front gives shows =
    let h = stand_behind g log_bytes volume_bytes o found es m k volume_image label anchor may log_left volume_left front gives shows in
    (h.survive, h.pages, h.lost, h.stands)
