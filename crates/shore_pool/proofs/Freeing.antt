-- Which frames are freed.
use Rattle.std.proofs.Common.{◌≡◌, ◌≢◌, ◌≤◌, ◌⊎◌, ℕ, Option, Some, None, IsSomeAnd, option_map, inl, inr, sym, ap, subst, ◌∙◌}
use Rattle.std.proofs.lemmas.Bool.{cases_eq}
use Rattle.shore_disk.specs.Device.{DeviceHistory}
use Rattle.shore_disk.specs.declared.device.Disk.{Ghosts}
use Rattle.shore_pool.specs.declared.frame.Frame.{Frame}
use Rattle.shore_pool.specs.declared.pool.Pool.{Pool}
use Rattle.shore_pool.specs.Changes.{settled}
use Rattle.shore_pool.specs.FrameMaps.{AllDirty, IsChangedFirst, IsDue, recovery_of}
use Rattle.shore_pool.specs.Pools.{FreesInOrder, MayBeFreed, frame_at}

-- what holds of a frame that is there
of_frame : (P : Frame → Type 0) (slot : Option Frame) (f : Frame) → slot ≡ Some f → IsSomeAnd slot P → P f
of_frame P None f is has = absurd has
of_frame P (Some g) f is has = let same : g ≡ f = cc in subst P same has

still_there : (at now : Option Frame) (f : Frame) → (now ≡ at) ⊎ (now ≡ option_map settled at) → at ≡ Some f → now ≡ None → ⊥
still_there at now f (inl same) is gone = let clash : Some f ≡ None = sym is ∙ sym same ∙ gone in cc
still_there at now f (inr clean) is gone = let clash : Some (settled f) ≡ None = sym (ap (option_map settled) is) ∙ sym clean ∙ gone in cc

module _ {D : Type 0} {G : Ghosts D} (old new : Pool D G) (durable : ℕ) where
  -- one goes, and the others stay or are written
  pub one_goes : (n : ℕ) → IsSomeAnd (frame_at old n) (MayBeFreed old durable)
      → ((k : ℕ) → k ≢ n → (frame_at new k ≡ frame_at old k) ⊎ (frame_at new k ≡ option_map settled (frame_at old k))) → FreesInOrder old new durable
  one_goes n may others k f is gone = elim (cases_eq k n) [
    | inl same ↦ of_frame (MayBeFreed old durable) (frame_at old n) f (ap (frame_at old) (sym same) ∙ is) may
    | inr other ↦ absurd (still_there (frame_at old k) (frame_at new k) f (others k other) is gone)
  ]

-- the page that is due and was changed first, if no frame is clean
pub oldest_may : {D : Type 0} {G : Ghosts D} (pool : Pool D G) (durable : ℕ) (slot : Option Frame) → AllDirty pool.frames → IsSomeAnd slot (IsDue durable)
    → IsSomeAnd slot (IsChangedFirst pool.frames durable) → IsSomeAnd slot (MayBeFreed pool durable)
oldest_may pool durable None dirty due first = due
oldest_may pool durable (Some f) dirty due first = inr (dirty, due, first)

-- the frames that go are clean, or, if none is, due and changed first
abbrev pub Frees : (ℕ → Option Frame) → (ℕ → Option Frame) → ℕ → Type 0
Frees at now durable = (k : ℕ) (f : Frame) → at k ≡ Some f → now k ≡ None → (f.recovery ≡ None)
    ⊎ (((k : ℕ) (h : Frame) → at k ≡ Some h → h.recovery ≢ None) × IsDue durable f × ((k : ℕ) (h : Frame) → at k ≡ Some h → IsDue durable h → recovery_of f ≤ recovery_of h))

-- .. told of the same frames
pub frees_from : (at was now : ℕ → Option Frame) (durable : ℕ) → was ≡ at → Frees was now durable → Frees at now durable
frees_from at was now durable same = subst (λ (frames : ℕ → Option Frame). Frees frames now durable) same

-- .. and once a page comes that had no frame
pub frees_but : (at mid now : ℕ → Option Frame) (durable n : ℕ) → Frees at mid durable → at n ≡ None → ((k : ℕ) → k ≢ n → now k ≡ mid k) → Frees at now durable
frees_but at mid now durable n frees none others k f is gone = elim (cases_eq k n) [
  | inl same ↦ let clash : None ≡ Some f = sym none ∙ ap at (sym same) ∙ is in absurd (cc)
  | inr other ↦ frees k f is (sym (others k other) ∙ gone)
]

-- what was written only if no frame was clean, told of the same frames
pub writes_from : (at now : ℕ → Option Frame) (was is : DeviceHistory) → now ≡ at → (is ≡ was) ⊎ ((k : ℕ) (f : Frame) → now k ≡ Some f → f.recovery ≢ None)
    → (is ≡ was) ⊎ ((k : ℕ) (f : Frame) → at k ≡ Some f → f.recovery ≢ None)
writes_from at now was is same = subst (λ (frames : ℕ → Option Frame). (is ≡ was) ⊎ ((k : ℕ) (f : Frame) → frames k ≡ Some f → f.recovery ≢ None)) same
