-- What a format refuses.
use Rattle.shore_types.specs.declared.config.Setting.{Setting}
use Rattle.shore_types.specs.declared.config.ConfigPlace.TheVariants as offset
use Rattle.shore_types.specs.declared.faults.Fault.{Fault}
use Rattle.shore_types.specs.declared.faults.Fault.TheVariants.{BadConfig}

-- this setting is refused
abbrev pub bad_setting : Setting → Fault
bad_setting setting = BadConfig (offset.Setting setting)
