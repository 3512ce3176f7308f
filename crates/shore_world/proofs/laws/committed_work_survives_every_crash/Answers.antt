use Rattle.std.proofs.Math.Logic.{∥∥₁_map}
use Rattle.shore_disk.proofs.Moments.{seen_left}
use Rattle.shore_disk.specs.Device.{seen}
use Rattle.shore_world.proofs.ManyStays.{have_lived, have_stayed, is_last_opening, last_opening, last_sized}
use Rattle.shore_world.proofs.StayLemmas.{at_its_lengths}
use Rattle.shore_world.proofs.LastOpens.{opened_in_harmony, opened_shows, opened_so, opening_shown}
use Rattle.shore_world.proofs.laws.committed_work_survives_every_crash.Goals as goal

pub returns-clause-left : goal.returns-clause-left
returns-clause-left c d g log_bytes volume_bytes stays log volume log_image volume_image are log_left volume_left =
    ∥∥₁_map ((have_stayed g log_bytes volume_bytes stays log volume are).0 log_image volume_image (log_left, volume_left)) (λ stayed. (
      stayed.anchor,
      stayed.last,
      stayed.last_pages,
      last_opening g log_bytes volume_bytes stays log_image volume_image stayed,
      stayed.stands,
      have_lived g log_bytes volume_bytes stays log_image volume_image stayed,
    ))

pub returns-clause-shown : goal.returns-clause-shown
returns-clause-shown c d g log_bytes volume_bytes stays log volume w are opens =
    let all = have_stayed g log_bytes volume_bytes stays log volume are in
    ∥∥₁_map (all.0 (seen log) (seen volume) (seen_left log.first log.calls, seen_left volume.first volume.calls)) (λ stayed.
    let stood = at_its_lengths g log_bytes volume_bytes log volume all.1 stayed.anchor stayed.last stayed.last_pages (seen log) (seen volume) stayed.stands in
    let opened = opens stayed.anchor stayed.last stayed.last_pages stood in
    let o = last_opening g log_bytes volume_bytes stays (seen log) (seen volume) stayed in
    let opening = is_last_opening g log_bytes volume_bytes stays (seen log) (seen volume) stayed in
    let sized = last_sized g log_bytes volume_bytes stays (seen log) (seen volume) stayed in
    let harmony = opened_in_harmony g o stayed.anchor stayed.last stayed.last_pages opening sized log volume stood w opened in (
      stayed.anchor,
      stayed.last,
      stayed.last_pages,
      o,
      have_lived g log_bytes volume_bytes stays (seen log) (seen volume) stayed,
      opened_so g o stayed.anchor stayed.last stayed.last_pages opening sized log volume stood w opened,
      opened_shows g o stayed.anchor stayed.last stayed.last_pages opening sized log volume stood w opened,
      opening_shown g o stayed.anchor stayed.last stayed.last_pages opening sized log volume stood w opened,
      harmony.0,
      harmony.1,
    ))
