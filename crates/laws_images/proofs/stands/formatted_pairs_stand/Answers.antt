use Rattle.laws_images.proofs.Left.{formatted_stand}
use Rattle.laws_images.proofs.LeftBehind.{formatted_behind}
use Rattle.laws_images.proofs.stands.formatted_pairs_stand.Goals as goal

pub returns-clause-whole : goal.returns-clause-whole
returns-clause-whole c g log_bytes volume_bytes log volume f = formatted_stand g log_bytes volume_bytes log volume f

pub returns-clause-behind : goal.returns-clause-behind
returns-clause-behind c g log_bytes volume_bytes log volume f = formatted_behind g log_bytes volume_bytes log volume f
