-- What the open of a volume answers.
use Rattle.std.specs.Prelude.{Result, Ok, Err}
use Rattle.shore_types.specs.declared.faults.Fault.{Fault}
use Rattle.shore_disk.specs.declared.device.Disk.{Ghosts}
use Rattle.shore_dwrite.specs.Settled as pages
use Rattle.shore_heap.specs.declared.heap.Heap.{Heap}
use Rattle.shore_heap.specs.Heaps.{device_of}

-- the device, whether a heap stands on it or it is handed back
abbrev pub volume_of : {D : Type 0} {G : Ghosts D} → Result (Heap D G) (Fault × D) → D
volume_of (Ok heap) = pages.device_of (device_of heap)
volume_of (Err refused) = refused.1

-- the answer with no device at the fault
abbrev pub fault_of_volume : {D : Type 0} {G : Ghosts D} → Result (Heap D G) (Fault × D) → Result (Heap D G) Fault
fault_of_volume (Ok heap) = Ok heap
fault_of_volume (Err refused) = Err refused.0
