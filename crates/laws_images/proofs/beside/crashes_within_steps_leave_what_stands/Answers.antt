use Rattle.laws_images.proofs.ManagersBeside.{stands_within}
use Rattle.laws_images.proofs.beside.crashes_within_steps_leave_what_stands.Goals as goal

pub returns : goal.returns
returns c g log_bytes volume_bytes o found es later m new more volume_image anchor log_left volume_left k next grows told old_may new_may label front gives shows = (
  gives.0,
  shows.0,
  gives.1,
  shows.1,
  stands_within g log_bytes volume_bytes o found es later m new more k next grows told anchor old_may new_may log_left front gives volume_image volume_left label shows,
)
