-- How many transactions a world has, and whom its log is kept for.
use Rattle.std.specs.Prelude.{ℕ}
use Rattle.shore_core.specs.Cores.{heap_of, txns_of}
use Rattle.shore_core.specs.TailHolders.{HoldsTail}
use Rattle.shore_core.specs.Trails.{count_of}
use Rattle.shore_core.specs.declared.tail_holder.TailHolder.{TailHolder}
use Rattle.shore_disk.specs.declared.device.Disk.{Ghosts}
use Rattle.shore_world.specs.declared.world.World.{World}

module _ {L V : Type 0} {G : Ghosts L} {H : Ghosts V} where
  -- those of the table, with those whose resolves wait
  abbrev pub transactions_in : World L V G H → ℕ
  transactions_in w = count_of w.core

  -- whom the log is kept for
  abbrev pub TailIsHeldBy : World L V G H → TailHolder → Type 0
  TailIsHeldBy w holder = HoldsTail (txns_of w.core) (heap_of w.core) holder
