-- The texts of what is wrong in the settings or the script.
use Rattle.std.specs.Prelude.{ℕ, List, ◌++◌, codes}
use Rattle.std.specs.Fmt.{decimal}
use Rattle.shore_types.specs.declared.config.Setting.{Setting}
use Rattle.shore_types.specs.declared.config.Setting.TheVariants as setting
use Rattle.shore_types.specs.declared.config.ConfigPlace.{ConfigPlace}
use Rattle.shore_types.specs.declared.config.ConfigPlace.TheVariants as place

-- the key in the settings
abbrev pub key_of : Setting → List ℕ
key_of setting.Devices = codes "devices"
key_of setting.Format = codes "format"
key_of setting.LogPath = codes "log_path"
key_of setting.VolumePath = codes "volume_path"
key_of setting.Pair = codes "pair"
key_of setting.LogBytes = codes "log_bytes"
key_of setting.Stores = codes "stores"
key_of setting.MaxLocks = codes "max_locks"
key_of setting.Pool = codes "pool"
key_of setting.Version = codes "version"
key_of setting.WrongLines = codes "wrong_lines"
key_of setting.VolumeBytes = codes "volume_bytes"

-- the key, or the line of the script
abbrev pub place_text : ConfigPlace → List ℕ
place_text place.Toml = codes "toml"
place_text (place.Setting setting) = key_of setting
place_text (place.UnknownKey key) = key
place_text (place.Line line) = codes "line " ++ decimal line
