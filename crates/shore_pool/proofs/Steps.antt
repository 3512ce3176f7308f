-- What one step after another leaves of a pool.
use Rattle.std.proofs.Common.{◌≡◌, ◌⊎◌, ◌≢◌, ◌<◌, ◌≤◌, ℕ, List, Option, Result, Ok, Err, MatchResult, IfErr, IsErrAnd, is_some, false, refl, None, Some, IsSomeAnd, inl, inr, sym, subst, ◌∙◌}
use Rattle.shore_disk.specs.declared.device.Disk.{Ghosts}
use Rattle.shore_types.specs.declared.faults.Device.TheVariants as Device
use Rattle.shore_types.specs.declared.faults.Fault.{Fault}
use Rattle.shore_types.specs.declared.layout.Geometry.{Geometry}
use Rattle.shore_pool.specs.declared.frame.Frame.{Frame}
use Rattle.shore_pool.specs.declared.pool.Pool.{Pool}
use Rattle.shore_pool.specs.Pages.{IsTextOf, MayBeLeft, SamePages, StayUnwritten, WereDirty}
use Rattle.shore_pool.specs.Pools.{PoolHolds, NeedsForce, WroteBack, frame_at, geometry_of}
use Rattle.shore_pool.proofs.Same.{pages_on, pages_stay}
use Rattle.shore_pool.proofs.Unwritten.{none_written, unwritten_on, were_same}

-- what a map of frames says, as one equation
pub alike : (at now : ℕ → Option Frame) → ((k : ℕ) → now k ≡ at k) → now ≡ at
alike at now same = λ i k. same k i

module _ {D : Type 0} {G : Ghosts D} (old mid new : Pool D G) (geometry : geometry_of mid ≡ geometry_of old) (same : frame_at mid ≡ frame_at old) (durable : ℕ) (front : List ℕ) (disk : ℕ → List ℕ) where
  -- a call that writes back after one that only looks
  pub wrote_from : WroteBack mid new durable front disk → WroteBack old new durable front disk
  wrote_from w = record {
    left = w.left;
    holds = w.holds;
    may = subst (λ at. MayBeLeft at durable disk w.left) same w.may;
    same = subst (λ at. SamePages (geometry_of old).version at disk (frame_at new) w.left) same (subst (λ (g : Geometry). SamePages g.version (frame_at mid) disk (frame_at new) w.left) geometry w.same);
    unwritten = subst (λ at. StayUnwritten at disk (frame_at new) w.left) same w.unwritten;
  }

  pub kept_from : {T : Type 0} (r : Result T Fault) → MatchResult r (λ _. WroteBack mid new durable front disk) (λ fault. (fault ≡ Fault.Device) ⊎ WroteBack mid new durable front disk)
      → MatchResult r (λ _. WroteBack old new durable front disk) (λ fault. (fault ≡ Fault.Device) ⊎ WroteBack old new durable front disk)
  kept_from (Ok x) w = wrote_from w
  kept_from (Err fault) (inl device) = inl device
  kept_from (Err fault) (inr w) = inr (wrote_from w)

module _ {D : Type 0} {G : Ghosts D} (old mid : Pool D G) (same : frame_at mid ≡ frame_at old) (durable : ℕ) where
  pub force_from : (number : ℕ) → NeedsForce mid durable number → NeedsForce old durable number
  force_from number n = record {
    above = n.above;
    one = subst (λ (at : ℕ → Option Frame). (k : ℕ) × IsSomeAnd (at k) (λ f. f.page.number ≡ number)) same n.one;
    all = subst (λ (at : ℕ → Option Frame). (k : ℕ) (f : Frame) → at k ≡ Some f → (f.recovery ≢ None) × (durable < f.page.number)) same n.all;
  }

  pub refused_from : {T : Type 0} (r : Result T Fault) → IfErr r (λ fault. (fault ≡ Fault.Device) ⊎ ((number : ℕ) × (fault ≡ Fault.NeedForce number) × NeedsForce mid durable number))
      → IfErr r (λ fault. (fault ≡ Fault.Device) ⊎ ((number : ℕ) × (fault ≡ Fault.NeedForce number) × NeedsForce old durable number))
  refused_from (Ok x) is = is
  refused_from (Err fault) (inl device) = inl device
  refused_from (Err fault) (inr n) = inr (n.0, n.1, force_from n.0 n.2)

-- no page was written, and no frame has changed
pub wrote_still : {D : Type 0} {G : Ghosts D} (old new : Pool D G) (durable : ℕ) (front : List ℕ) (disk : ℕ → List ℕ) → ((k : ℕ) → frame_at new k ≡ frame_at old k) → PoolHolds new front disk
    → WroteBack old new durable front disk
wrote_still old new durable front disk same holds = record {
  left = disk;
  holds = holds;
  may = λ k. inl refl;
  same = pages_stay (geometry_of old).version (frame_at old) (frame_at new) disk same;
  unwritten = none_written (geometry_of old).version (frame_at old) (frame_at new) disk (were_same (geometry_of old).version (frame_at old) (frame_at new) same);
}

-- a call that wrote back, and one more that changes no frame
pub wrote_on : {D : Type 0} {G : Ghosts D} (old mid new : Pool D G) (durable : ℕ) (front : List ℕ) (disk : ℕ → List ℕ) → frame_at new ≡ frame_at mid → (w : WroteBack old mid durable front disk) → PoolHolds new front w.left
    → WroteBack old new durable front disk
wrote_on old mid new durable front disk is w holds = record {
  left = w.left;
  holds = holds;
  may = w.may;
  same = subst (λ (now : ℕ → Option Frame). SamePages (geometry_of old).version (frame_at old) disk now w.left) (sym is) w.same;
  unwritten = subst (λ (now : ℕ → Option Frame). StayUnwritten (frame_at old) disk now w.left) (sym is) w.unwritten;
}

-- one more page comes behind a call that wrote back
pub wrote_then : {D : Type 0} {G : Ghosts D} (old mid new : Pool D G) (durable : ℕ) (front : List ℕ) (disk : ℕ → List ℕ) (w : WroteBack old mid durable front disk)
    → WereDirty (frame_at mid) (frame_at new) → PoolHolds new front w.left × SamePages (geometry_of old).version (frame_at mid) w.left (frame_at new) w.left → WroteBack old new durable front disk
wrote_then old mid new durable front disk w were more = record {
  left = w.left;
  holds = more.0;
  may = w.may;
  same = pages_on (geometry_of old).version (frame_at old) (frame_at mid) (frame_at new) disk w.left w.left w.same more.1;
  unwritten = unwritten_on (frame_at old) (frame_at mid) (frame_at new) disk w.left w.left w.unwritten (none_written (geometry_of old).version (frame_at mid) (frame_at new) w.left were);
}

pub match_err : {T E : Type 0} {B P : E → Type 0} (C : Type 0) (r : Result T E) → IsErrAnd r P → ((e : E) → P e → B e) → MatchResult r (λ _. C) B
match_err C (Ok x) is to = absurd is
match_err C (Err e) is to = to e is

-- what is no want of a log force
pub no_force : (A : Type 0) (place number : ℕ) (fault given : Fault) → given ≡ fault
    → (fault ≡ Fault.Device) ⊎ (fault ≡ Fault.Memory) ⊎ ((fault ≡ Fault.Damaged Device.Volume place) × A) → given ≢ Fault.NeedForce number
no_force A place number fault given is (inl device) force = let clash : Fault.Device ≡ Fault.NeedForce number = sym device ∙ sym is ∙ force in cc
no_force A place number fault given is (inr (inl memory)) force = let clash : Fault.Memory ≡ Fault.NeedForce number = sym memory ∙ sym is ∙ force in cc
no_force A place number fault given is (inr (inr damaged)) force = let clash : Fault.Damaged Device.Volume place ≡ Fault.NeedForce number = sym damaged.0 ∙ sym is ∙ force in cc

-- what is said of a refusal says another thing of it
pub refusal_says : {T E : Type 0} {P Q : E → Type 0} (r : Result T E) → ((e : E) → P e → Q e) → IfErr r P → IfErr r Q
refusal_says (Ok x) to says = tt
refusal_says (Err e) to says = to e says

-- a page with no frame is left as it was
pub left_alone : (at : ℕ → Option Frame) (durable : ℕ) (disk left : ℕ → List ℕ) (n : ℕ) → MayBeLeft at durable disk left → at n ≡ None → left n ≡ disk n
left_alone at durable disk left n may none = elim (may n) [
  | inl same ↦ same
  | inr has ↦ absurd (no_frame (at n) none has)
]
  where
    no_frame : (slot : Option Frame) → slot ≡ None → IsSomeAnd slot (λ f. (f.page.number ≤ durable) × IsTextOf f (left n)) → ⊥
    no_frame None none is = is
    no_frame (Some f) none is = cc

pub none_is : (slot : Option Frame) → is_some slot ≡ false → slot ≡ None
none_is None is = refl
none_is (Some f) is = cc
