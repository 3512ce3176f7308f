use Rattle.std.proofs.Common.{take, arith}
use Rattle.laws_images.proofs.Joined.{log_part, prefix_stands_beside, stands_behind_next, stands_beside, volume_part}
use Rattle.laws_images.proofs.beside.volumes_stand_beside_longer_logs.Goals as goal

pub returns-clause-joined : goal.returns-clause-joined
returns-clause-joined c g log_bytes volume_bytes anchor first more pages log_image volume_image volume log =
    stands_beside g log_bytes volume_bytes anchor first more pages log_image volume_image volume log

pub returns-clause-beside : goal.returns-clause-beside
returns-clause-beside c g log_bytes volume_bytes m n anchor rs pages log_image log_left volume_image stood more log =
    prefix_stands_beside g log_bytes volume_bytes anchor m n more rs pages log_left volume_image
    (volume_part g log_bytes volume_bytes anchor (take m rs) pages log_image volume_image stood) log

pub returns-clause-moved : goal.returns-clause-moved
returns-clause-moved c g log_bytes volume_bytes anchor next checkpoint first more pages log_image log_left volume_image volume log later at front gives =
    stands_behind_next g log_bytes volume_bytes anchor next checkpoint first more pages log_image log_left volume_image volume log later at front gives

pub returns-clause-parts : goal.returns-clause-parts
returns-clause-parts c g log_bytes volume_bytes anchor rs pages log_image volume_image stood = (
  volume_part g log_bytes volume_bytes anchor rs pages log_image volume_image stood,
  log_part g log_bytes volume_bytes anchor rs pages log_image volume_image stood,
)

pub returns-clause-ahead : goal.returns-clause-ahead
returns-clause-ahead c g log_bytes volume_bytes anchor rs pages log_image volume_image p ahead stood = let within = (stood.opened.opened.as_of p).within in omega (arith, ahead, within)
