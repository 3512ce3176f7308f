-- How long a volume is, and its label.
use Rattle.std.specs.Prelude.{ℕ, ◌+◌, ◌*◌}
use Rattle.shore_types.specs.declared.layout.Geometry.{Geometry}
use Rattle.shore_types.specs.Versions.{page_bytes, pages_begin}
use Rattle.shore_gate.specs.declared.labels.Label.{Label}
use Rattle.shore_dwrite.specs.Volumes.{page_count}

-- how long a volume of this geometry is
abbrev pub volume_bytes : Geometry → ℕ
volume_bytes g = pages_begin g.version + page_bytes g.version * page_count g

-- its label
abbrev pub volume_label : Geometry → Label
volume_label g = record { version = g.version; pair = g.pair; length = volume_bytes g; max_locks = g.max_locks; stores = g.stores }
