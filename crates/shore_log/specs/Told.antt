-- What a log buffer was told of the log device.
use Rattle.std.specs.Prelude.{◌≡◌, ◌+◌, ◌-◌, ◌≤◌, ℕ, max}
use Rattle.shore_log.specs.declared.tail.Aside.{Aside}
use Rattle.shore_log.specs.declared.tail.Known.{Known}
use Rattle.shore_log.specs.declared.tail.Told.{Told}

-- there is room for so much more beside what is held: the log device's own, or this, which the log buffer brings
abbrev pub HasRoom : Known → ℕ → ℕ → Type 0
HasRoom k more brought = k.held + more ≤ max k.room brought

-- no more is held than was told, and there is room for no less
abbrev pub Covers : Known → ℕ → ℕ → Type 0
Covers k held room = (held ≤ k.held) × (k.room ≤ room)

-- so much is kept aside at least
abbrev pub KeepsAside : Told → ℕ → ℕ → Type 0
KeepsAside told records bytes = (records ≤ told.aside.records) × (bytes ≤ told.aside.bytes)

-- so much, and no more
abbrev pub aside_for : ℕ → ℕ → Aside
aside_for records bytes = record { records = records; bytes = bytes }

-- .. and so much less than was kept
abbrev pub taken_from : Told → ℕ → ℕ → Told
taken_from told records bytes = record told { aside = aside_for (told.aside.records - records) (told.aside.bytes - bytes) }

-- the same is said of the log device
abbrev pub SaysAlike : Told → Told → Type 0
SaysAlike new old = (new.entries ≡ old.entries) × (new.texts ≡ old.texts)
