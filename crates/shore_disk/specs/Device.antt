-- What a device held at first and its calls since, and what a read and a crash leave after them.
use Rattle.std.specs.Prelude.{◌≡◌, ◌⊎◌, ℕ, ◌+◌, ◌-◌, ◌^◌, ◌≤◌, min, List, [], ◌∷◌, ◌++◌, length, take, drop, Result, Ok, Err, MatchResult}

-- a call that changes what a read or a crash leaves
pub data Call : Type 0 where
  wrote : ℕ → List ℕ → Call
  synced : Call

-- the bytes at first, all of them stable, and the calls since, the newest first
pub record DeviceHistory : Type 0 where
  pub first : List ℕ
  pub calls : List Call

-- the bytes in the place of those at an offset
abbrev pub overwritten : List ℕ → ℕ → List ℕ → List ℕ
overwritten image at bytes = take at image ++ bytes ++ drop (at + length bytes) image

-- a write of n bytes that a crash cuts short: it is lost, or any bytes stand in its range
abbrev pub Torn : ℕ → ℕ → List ℕ → List ℕ → Type 0
Torn at n old new = (new ≡ old) ⊎ ((bytes : List ℕ) × (length bytes ≡ n) × (new ≡ overwritten old at bytes))

-- what a read gives after these calls
abbrev pub seen_after : List ℕ → List Call → List ℕ
seen_after first [] = first
seen_after first (wrote at bytes ∷ older) = overwritten (seen_after first older) at bytes
seen_after first (synced ∷ older) = seen_after first older

-- a crash after these calls may leave this image
abbrev pub LeftAfter : List ℕ → List Call → List ℕ → Type 0
LeftAfter first [] c = c ≡ first
LeftAfter first (wrote at bytes ∷ older) c = (d : List ℕ) × LeftAfter first older d × Torn at (length bytes) d c
LeftAfter first (synced ∷ older) c = c ≡ seen_after first older

-- a crash after these calls, or after all but the newest of them down to the first t, may leave this image
abbrev pub LeftSince : List ℕ → List Call → ℕ → List ℕ → Type 0
LeftSince first [] t c = LeftAfter first [] c
LeftSince first (call ∷ older) t c = LeftAfter first (call ∷ older) c ⊎ ((t ≤ length older) × LeftSince first older t c)

-- the device's length
abbrev pub size : DeviceHistory → ℕ
size h = length h.first

-- the bytes as read
abbrev pub seen : DeviceHistory → List ℕ
seen h = seen_after h.first h.calls

-- what a crash now may leave
abbrev pub may_leave : DeviceHistory → List ℕ → Type 0
may_leave h = LeftAfter h.first h.calls

-- the moment, as a number that does not fall
abbrev pub moment : DeviceHistory → ℕ
moment h = length h.calls

-- what a crash at some moment since t may have left
abbrev pub left_since : DeviceHistory → ℕ → List ℕ → Type 0
left_since h = LeftSince h.first h.calls

-- one call more
abbrev pub noted : DeviceHistory → Call → DeviceHistory
noted h call = record { first = h.first; calls = call ∷ h.calls }

-- A write: at an error any bytes stand in its range, or it was not begun.
abbrev pub Writes : {E : Type 0} → ℕ → List ℕ → Result Unit E → DeviceHistory → DeviceHistory → Type 0
Writes at bytes (Ok _) old new = new ≡ noted old (wrote at bytes)
Writes at bytes (Err _) old new = (new ≡ old) ⊎ ((torn : List ℕ) × (length torn ≡ length bytes) × (new ≡ noted old (wrote at torn)))

-- A sync: at an error it did nothing.
abbrev pub Syncs : {E : Type 0} → Result Unit E → DeviceHistory → DeviceHistory → Type 0
Syncs (Ok _) old new = new ≡ noted old synced
Syncs (Err _) old new = new ≡ old

-- the count of failures rose, or stands at its last value
pub record Rose (old new : ℕ) : Type 0 where
  pub no_lower : old ≤ new
  pub higher : min (old + 1) (2 ^ 64 - 1) ≤ new

-- the count stays at `Ok` and rises at `Err`
abbrev pub CountsFault : {T E : Type 0} → Result T E → ℕ → ℕ → Type 0
CountsFault result old new = MatchResult result (λ _. new ≡ old) (λ _. Rose old new)

-- a crash leaves this and nothing else
abbrev pub Only : List ℕ → (List ℕ → Type 0) → Type 0
Only image outcomes = (c : List ℕ) → outcomes c → c ≡ image

-- the same device, some calls later
abbrev pub IsLater : DeviceHistory → DeviceHistory → Type 0
IsLater old new = (more : List Call) × (new ≡ record { first = old.first; calls = more ++ old.calls })

-- A crash at any moment from old to new, both included, leaves an image that has P.
pub record LeavesOnly (old new : DeviceHistory) (P : List ℕ → Type 0) : Type 0 where
  pub later : IsLater old new
  pub each : (c : List ℕ) → left_since new (moment old) c → P c

-- what a crash may have left of what stood before, with a range of n bytes torn
abbrev pub TornFrom : ℕ → ℕ → DeviceHistory → List ℕ → Type 0
TornFrom at n old c = (d : List ℕ) × may_leave old d × Torn at n d c

-- these bytes are on the device, and a crash leaves nothing else
pub record Stands (h : DeviceHistory) (image : List ℕ) : Type 0 where
  pub read : seen h ≡ image
  pub only : Only image (may_leave h)
