-- What a fuse shows of itself.
use Rattle.std.specs.Prelude.{ℕ, ◌+◌, ◌-◌, ◌^◌, min}
use Rattle.shore_disk.specs.declared.fuse.FuseDisk.{FuseDisk}

-- the device that it passes calls on to
abbrev pub fuse_inner : {D : Type 0} → FuseDisk D → D
fuse_inner f = f.inner

-- how many calls it has refused, up to 2^64 - 1
abbrev pub fuse_refused : {D : Type 0} → FuseDisk D → ℕ
fuse_refused f = f.refused

-- how many more writes and syncs it passes on
abbrev pub fuse_calls : {D : Type 0} → FuseDisk D → ℕ
fuse_calls f = f.calls_left

-- how many calls have failed, those of the device inside and those that it refused, up to 2^64 - 1
abbrev pub fuse_faults : {D : Type 0} → (D → ℕ) → FuseDisk D → ℕ
fuse_faults faults f = min (faults f.inner + f.refused) (2 ^ 64 - 1)
