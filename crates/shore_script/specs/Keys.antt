-- What the keys of the settings give.
use Rattle.std.specs.Prelude.{◌≡◌, ◌⊎◌, ℕ, pos, IsSome, Bool, true, List, [], ◌∷◌, map, Option, None, Some, codes}
use Rattle.toml.specs.Data.{Data, Members, array, boolean, get_member, integer, string}
use Rattle.toml.specs.Parse.{parse_document}
use Rattle.toml.specs.View.{items_of}
use Rattle.shore_types.specs.Config.{key_of}
use Rattle.shore_types.specs.declared.config.Setting.{Setting}
use Rattle.shore_types.specs.declared.config.Setting.TheVariants as setting
use Rattle.shore_types.specs.declared.versions.Version.{Version}
use Rattle.shore_types.specs.declared.versions.Version.TheVariants.{One}
use Rattle.shore_types.specs.Versions.{number_of}
use Rattle.shore_script.specs.declared.settings.Devices.{Devices}
use Rattle.shore_script.specs.declared.settings.Devices.TheVariants as devices
use Rattle.shore_script.specs.declared.settings.Settings.{Settings}
use Rattle.shore_script.specs.declared.settings.WrongLines.{WrongLines}
use Rattle.shore_script.specs.declared.settings.WrongLines.TheVariants.{End, Refuse}
use Rattle.shore_script.specs.declared.settings.TheConstants.{DEFAULT_PAIR, DEFAULT_LOG_BYTES, DEFAULT_STORE_PAGES, DEFAULT_MAX_LOCKS, DEFAULT_POOL_FRAMES}

-- what the text has at the key of a setting
abbrev pub written : Members → Setting → Option Data
written table setting = get_member (key_of setting) table

abbrev pub whole : ℕ → Data
whole n = integer (pos n)

-- the number that is written, or the default
abbrev pub IsNumberOr : ℕ → Option Data → ℕ → Type 0
IsNumberOr default None n = n ≡ default
IsNumberOr default (Some value) n = value ≡ whole n

-- the flag that is written, if one is
abbrev pub IsFlag : Option Data → Option Bool → Type 0
IsFlag None None = Unit {0}
IsFlag None (Some flag) = ⊥
IsFlag (Some value) None = ⊥
IsFlag (Some value) (Some flag) = value ≡ boolean flag

-- the number of the version is written, or none, which is the first version's
abbrev pub IsVersion : Option Data → Version → Type 0
IsVersion None version = version ≡ One
IsVersion (Some value) version = value ≡ whole (number_of version)

-- a wrong line ends the run unless the text says otherwise
abbrev pub AreWrongLines : Option Data → WrongLines → Type 0
AreWrongLines None End = Unit {0}
AreWrongLines None Refuse = ⊥
AreWrongLines (Some value) End = value ≡ string (codes "end")
AreWrongLines (Some value) Refuse = value ≡ string (codes "refuse")

-- the pages of each store, in turn; one store by default
abbrev pub AreStores : Option Data → List ℕ → Type 0
AreStores None stores = stores ≡ DEFAULT_STORE_PAGES ∷ []
AreStores (Some value) stores = value ≡ array (items_of (map whole stores))

abbrev pub IsPath : Option Data → List ℕ → Type 0
IsPath None path = ⊥
IsPath (Some value) path = value ≡ string path

-- memory is the default
abbrev pub NamesMemory : Option Data → Type 0
NamesMemory None = Unit {0}
NamesMemory (Some value) = value ≡ string (codes "memory")

abbrev pub NamesFiles : Option Data → Type 0
NamesFiles None = ⊥
NamesFiles (Some value) = value ≡ string (codes "files")

-- whether files are made anew is as the text says, and is left open if it says nothing
abbrev pub AreDevices : Members → Devices → Type 0
AreDevices table devices.Memory = NamesMemory (written table setting.Devices)
AreDevices table (devices.Files files) = NamesFiles (written table setting.Devices) × IsFlag (written table setting.Format) files.is_made_anew × IsPath (written table setting.LogPath) files.log × IsPath (written table setting.VolumePath) files.volume

-- whether there is something at a key
abbrev pub IsWritten : Members → Setting → Type 0
IsWritten table key = IsSome (written table key)

-- the first path that is written though no file is used, if there is one
abbrev pub IsUnusedPath : Members → Devices → Option Setting → Type 0
IsUnusedPath table (devices.Files files) found = found ≡ None
IsUnusedPath table devices.Memory None = (written table setting.LogPath ≡ None) × (written table setting.VolumePath ≡ None)
IsUnusedPath table devices.Memory (Some key) = (IsWritten table key) × ((key ≡ setting.LogPath) ⊎ ((key ≡ setting.VolumePath) × (written table setting.LogPath ≡ None)))

-- each setting is as the table has it, or its default
pub record AreWritten (table : Members) (settings : Settings) : Type 0 where
  pub devices : AreDevices table settings.devices
  pub pair : IsNumberOr DEFAULT_PAIR (written table setting.Pair) settings.geometry.pair
  pub log_bytes : IsNumberOr DEFAULT_LOG_BYTES (written table setting.LogBytes) settings.log_bytes
  pub stores : AreStores (written table setting.Stores) settings.geometry.stores
  pub max_locks : IsNumberOr DEFAULT_MAX_LOCKS (written table setting.MaxLocks) settings.geometry.max_locks
  pub version : IsVersion (written table setting.Version) settings.geometry.version
  pub pool : IsNumberOr DEFAULT_POOL_FRAMES (written table setting.Pool) settings.pool
  pub wrong_lines : AreWrongLines (written table setting.WrongLines) settings.wrong_lines
  pub unused_path : IsUnusedPath table settings.devices settings.unused_path

-- the text is TOML, and the settings are its own
abbrev pub AreSettingsOf : List ℕ → Settings → Type 0
AreSettingsOf text settings = (table : Members) × (parse_document text ≡ Some table) × AreWritten table settings
