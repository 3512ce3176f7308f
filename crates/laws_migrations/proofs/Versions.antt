-- What a higher version gives is no less.
use Rattle.std.proofs.Common.{◌≤◌, arith}
use Rattle.shore_types.specs.Versions.{global_limit, number_of, page_bytes, page_room, record_limit, slot_limit}
use Rattle.shore_types.specs.declared.versions.Version.{Version}
use Rattle.shore_types.specs.declared.versions.Version.TheVariants.{One, Two}

pub slots_rise : (v w : Version) → number_of v ≤ number_of w → slot_limit v ≤ slot_limit w
unfolding number_of slot_limit
slots_rise One One h = omega arith
slots_rise One Two h = omega arith
slots_rise Two One h = absurd (omega (arith, h))
slots_rise Two Two h = omega arith

pub globals_rise : (v w : Version) → number_of v ≤ number_of w → global_limit v ≤ global_limit w
unfolding number_of global_limit
globals_rise One One h = omega arith
globals_rise One Two h = omega arith
globals_rise Two One h = absurd (omega (arith, h))
globals_rise Two Two h = omega arith

pub records_rise : (v w : Version) → number_of v ≤ number_of w → record_limit v ≤ record_limit w
unfolding number_of record_limit
records_rise One One h = omega arith
records_rise One Two h = omega arith
records_rise Two One h = absurd (omega (arith, h))
records_rise Two Two h = omega arith

pub rooms_rise : (v w : Version) → number_of v ≤ number_of w → page_room v ≤ page_room w
unfolding number_of page_bytes
rooms_rise One One h = omega arith
rooms_rise One Two h = omega arith
rooms_rise Two One h = absurd (omega (arith, h))
rooms_rise Two Two h = omega arith
