-- What stands at a path where a device is to be made.
use Rattle.std.specs.Prelude.{ℕ, Option, Some, None}
use Rattle.shore_types.specs.declared.faults.Device.{Device}
use Rattle.shore_types.specs.declared.faults.Device.TheVariants.{Log, Volume}
use Rattle.shore_disk.specs.Device.{size}
use Rattle.shore_disk.specs.FileDisk.{file_history}
use Rattle.shore_disk.specs.declared.file.FileDisk.{FileDisk}
use Rattle.shore_disk.specs.declared.files.FilePlaces.{FilePlaces}
use Rattle.shore_disk.specs.declared.places.FilePlace.{FilePlace}

-- the bytes of the file that is there, if any is
abbrev pub bytes_found : Option FileDisk → ℕ
bytes_found None = 0
bytes_found (Some disk) = size (file_history disk)

abbrev pub place_bytes : FilePlace → ℕ
place_bytes place = bytes_found place.found

-- the bytes at the path of one device of a pair
abbrev pub bytes_at : Device → FilePlaces → ℕ
bytes_at Log places = place_bytes places.log
bytes_at Volume places = place_bytes places.volume
