use Rattle.laws_images.proofs.ManagersBeside.{log_left_behind, volume_left_behind}
use Rattle.laws_images.proofs.beside.managers_leave_both_parts.Goals as goal

pub returns-clause-volume : goal.returns-clause-volume
returns-clause-volume c g ring_bytes volume_bytes o found es m volume_image volume_left k label shows =
    (shows.0, shows.1, volume_left_behind g ring_bytes volume_bytes o found es m k volume_image volume_left label shows)

pub returns-clause-log : goal.returns-clause-log
returns-clause-log c g log_bytes o found es m anchor n log_left k may least most front gives =
    log_left_behind g log_bytes o found es m k anchor may n least most log_left front gives
