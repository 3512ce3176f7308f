-- What a device that fails once shows of itself.
use Rattle.std.specs.Prelude.{ℕ, ◌+◌, ◌-◌, ◌^◌, min, Option}
use Rattle.shore_disk.specs.declared.once.OnceDisk.{OnceDisk}

-- the device that it passes calls on to
abbrev pub once_inner : {D : Type 0} → OnceDisk D → D
once_inner f = f.inner

-- how many calls pass before the one that fails, and none after it
abbrev pub once_calls : {D : Type 0} → OnceDisk D → Option ℕ
once_calls f = f.calls_before

-- how many calls it has refused
abbrev pub once_refused : {D : Type 0} → OnceDisk D → ℕ
once_refused f = f.refused

-- how many calls have failed, those of the device inside and the one that it refused, up to 2^64 - 1
abbrev pub once_faults : {D : Type 0} → (D → ℕ) → OnceDisk D → ℕ
once_faults faults f = min (faults f.inner + f.refused) (2 ^ 64 - 1)
