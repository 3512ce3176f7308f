-- What a flush leaves of a heap, by what it leaves of its pool.
use Rattle.std.proofs.Common.{◌≡◌, ◌⊎◌, ◌<◌, ℕ, zero, suc, List, [], ◌∷◌, Contains, Option, Some, None, Result, Ok, Err, IfErr, IfOk, MatchResult, length, slice_index_or, option_map, refl, sym, ap, subst, ◌∙◌, inl, inr, arith}
use Rattle.std.proofs.lemmas.Bool.{cases_eq}
use Rattle.shore_disk.specs.declared.device.Disk.{Ghosts}
use Rattle.shore_types.specs.declared.faults.Fault.{Fault}
use Rattle.shore_types.specs.declared.faults.Fault.TheVariants as fault
use Rattle.shore_types.specs.declared.ids.PageId.{PageId}
use Rattle.shore_types.specs.declared.layout.Geometry.{Geometry}
use Rattle.shore_types.specs.declared.versions.Version.{Version}
use Rattle.shore_dwrite.specs.Volumes.{page_number}
use Rattle.shore_page.specs.Slots.{Slot}
use Rattle.shore_page.specs.Text.{IsPageText}
use Rattle.shore_pool.specs.declared.frame.Frame.{Frame}
use Rattle.shore_pool.specs.Changes.{settled}
use Rattle.shore_pool.specs.Pages.{IsPage, SamePages}
use Rattle.shore_pool.specs.Pools as pools
use Rattle.shore_pool.proofs.Same.{pages_stay}
use Rattle.shore_flush.specs.Flushes.{Flushes}
use Rattle.shore_heap.specs.declared.heap.Heap.{Heap}
use Rattle.shore_heap.specs.Contents.{AreBounds, HasSlots, ClaimsOfPages}
use Rattle.shore_heap.specs.Heaps.{KeepsSlots, Shows, WroteBack, bounds_of, frame_at, geometry_of}
use Rattle.shore_heap.proofs.Fetched.{wrote_of}
use Rattle.shore_heap.proofs.Frames.{Have}
use Rattle.shore_heap.proofs.Showing.{shows_by}

-- ---- frames that are as they were, but for what is dirty

-- a list has a number, or has it not
is_among : (l : List ℕ) (k : ℕ) → Contains l k ⊎ (Contains l k → ⊥)
is_among [] k = inr (λ has. omega (arith, has.1))
is_among (n ∷ l) k = elim (cases_eq n k) [
  | inl same ↦ inl (0, omega arith, same)
  | inr other ↦ elim (is_among l k) [
    | inl among ↦ inl (suc among.0, omega (arith, among.1), among.2)
    | inr none ↦ inr (λ has. behind none other has.0 has.1 has.2)
  ]
]
  where
    behind : (Contains l k → ⊥) → (n ≡ k → ⊥) → (i : ℕ) → i < length (n ∷ l) → slice_index_or (n ∷ l) i k ≡ k → ⊥
    behind none other zero less is = other is
    behind none other (suc i) less is = none (i, omega (arith, less), is)

module _ (at now : ℕ → Option Frame) where
  -- each frame is as it was, or was settled
  abbrev pub MaySettle : Type 0
  MaySettle = (k : ℕ) → (now k ≡ at k) ⊎ (now k ≡ option_map settled (at k))

  may_settle : (pages : List ℕ) → ((k : ℕ) → Contains pages k → now k ≡ option_map settled (at k)) → ((k : ℕ) → (Contains pages k → ⊥) → now k ≡ at k) → MaySettle
  may_settle pages clean others k = elim (is_among pages k) [ inl among ↦ inr (clean k among) | inr none ↦ inl (others k none) ]

  -- so each page has the slots that it had
  have_settled : (g : Geometry) (disk left : ℕ → List ℕ) (K : ClaimsOfPages) (S : PageId → List Slot) → MaySettle → SamePages g.version at disk now left → Have g at disk K S → Have g now left K S
  have_settled g disk left K S may same have id there = each (at (page_number g id)) refl (have id there)
    where
      each : (o : Option Frame) → at (page_number g id) ≡ o → HasSlots g.version o (disk (page_number g id)) id (K id) (S id) → HasSlots g.version (now (page_number g id)) (left (page_number g id)) id (K id) (S id)
      each None was has =
          let n = page_number g id in
          let gone : now n ≡ None = elim (may n) [ inl stay ↦ stay ∙ was | inr its ↦ its ∙ ap (option_map settled) was ] in
          let before : IsPage g.version (at n) (disk n) id has.0 has.1 = subst (λ (o : Option Frame). IsPage g.version o (disk n) id has.0 has.1) (sym was) has.2 in
          let text : IsPageText g.version (left n) id has.0 has.1 = subst (λ (o : Option Frame). IsPage g.version o (left n) id has.0 has.1) gone ((same n id has.0 has.1).0 before) in
          subst (λ (o : Option Frame). HasSlots g.version o (left n) id (K id) (S id)) (sym gone) (has.0, has.1, text, has.3, has.4)
      each (Some f) was has = elim (may (page_number g id)) [
        | inl stay ↦ subst (λ (o : Option Frame). HasSlots g.version o (left (page_number g id)) id (K id) (S id)) (sym (stay ∙ was)) has
        | inr its ↦ subst (λ (o : Option Frame). HasSlots g.version o (left (page_number g id)) id (K id) (S id)) (sym (its ∙ ap (option_map settled) was)) has
      ]

-- ---- the call

module _ {D : Type 0} {G : Ghosts D} (old new : Heap D G) (durable : ℕ) where
  wrote_by : (front : List ℕ) (disk : ℕ → List ℕ) → pools.WroteBack old.pool new.pool durable front disk → WroteBack old new durable front disk
  wrote_by front disk w = wrote_of old new.pool durable new front disk w (w.holds, pages_stay (geometry_of old).version (frame_at new) (frame_at new) w.left (λ k. refl)) (λ k f is dirty. is)

  -- the volume, and what is in place
  pub flush_wrote : (r : Result ℕ Fault) (front : List ℕ) (disk : ℕ → List ℕ)
      → MatchResult r (λ _. pools.WroteBack old.pool new.pool durable front disk) (λ f. (f ≡ fault.Device) ⊎ pools.WroteBack old.pool new.pool durable front disk)
      → MatchResult r (λ _. WroteBack old new durable front disk) (λ f. (f ≡ fault.Device) ⊎ WroteBack old new durable front disk)
  flush_wrote (Ok count) front disk w = wrote_by front disk w
  flush_wrote (Err f) front disk (inl device) = inl device
  flush_wrote (Err f) front disk (inr w) = inr (wrote_by front disk w)

  -- .. and the slots
  kept_by : geometry_of new ≡ geometry_of old → bounds_of new ≡ bounds_of old → MaySettle (frame_at old) (frame_at new)
      → (K : ClaimsOfPages) (front : List ℕ) (disk : ℕ → List ℕ) (S : PageId → List Slot) → Shows K old front disk S → pools.WroteBack old.pool new.pool durable front disk → KeepsSlots K old new durable front disk S
  kept_by geometry bounds may K front disk S shows w =
      let wrote = wrote_by front disk w in
      let have = have_settled (frame_at old) (frame_at new) (geometry_of old) disk wrote.0 K S may wrote.2.same shows.pages in
      let refused : AreBounds (geometry_of old) new.free.items S = subst (λ (free : List (List ℕ)). AreBounds (geometry_of old) free S) (sym bounds) shows.bounds in
      (wrote.0, shows_by new.pool new (geometry_of old) K front wrote.0 S refl geometry wrote.1 have refused, wrote.2)

  pub flush_kept : (r : Result ℕ Fault) → geometry_of new ≡ geometry_of old → bounds_of new ≡ bounds_of old → IfOk r (λ count. Flushes old.pool new.pool durable count)
      → IfErr r (λ f. (f ≡ fault.Device) × ((k : ℕ) → frame_at new k ≡ frame_at old k))
      → (K : ClaimsOfPages) (front : List ℕ) (disk : ℕ → List ℕ) (S : PageId → List Slot) → Shows K old front disk S
      → MatchResult r (λ _. pools.WroteBack old.pool new.pool durable front disk) (λ f. (f ≡ fault.Device) ⊎ pools.WroteBack old.pool new.pool durable front disk)
      → MatchResult r (λ _. KeepsSlots K old new durable front disk S) (λ f. (f ≡ fault.Device) ⊎ KeepsSlots K old new durable front disk S)
  flush_kept (Ok count) geometry bounds flushed refused K front disk S shows w =
      kept_by geometry bounds (may_settle (frame_at old) (frame_at new) flushed.pages flushed.clean flushed.others) K front disk S shows w
  flush_kept (Err f) geometry bounds flushed refused K front disk S shows (inl device) = inl device
  flush_kept (Err f) geometry bounds flushed refused K front disk S shows (inr w) = inr (kept_by geometry bounds (λ k. inl (refused.1 k)) K front disk S shows w)

  -- by a step that settles frames at most
  pub settles_wrote : {T : Type 0} (r : Result T Fault) (front : List ℕ) (disk : ℕ → List ℕ)
      → MatchResult r (λ _. pools.WroteBack old.pool new.pool durable front disk) (λ f. (f ≡ fault.Device) ⊎ pools.WroteBack old.pool new.pool durable front disk)
      → MatchResult r (λ _. WroteBack old new durable front disk) (λ f. (f ≡ fault.Device) ⊎ WroteBack old new durable front disk)
  settles_wrote (Ok made) front disk w = wrote_by front disk w
  settles_wrote (Err f) front disk (inl device) = inl device
  settles_wrote (Err f) front disk (inr w) = inr (wrote_by front disk w)

  pub settles_kept : {T : Type 0} (r : Result T Fault) → geometry_of new ≡ geometry_of old → bounds_of new ≡ bounds_of old
      → ((k : ℕ) → (frame_at new k ≡ frame_at old k) ⊎ (frame_at new k ≡ option_map settled (frame_at old k)))
      → (K : ClaimsOfPages) (front : List ℕ) (disk : ℕ → List ℕ) (S : PageId → List Slot) → Shows K old front disk S
      → MatchResult r (λ _. pools.WroteBack old.pool new.pool durable front disk) (λ f. (f ≡ fault.Device) ⊎ pools.WroteBack old.pool new.pool durable front disk)
      → MatchResult r (λ _. KeepsSlots K old new durable front disk S) (λ f. (f ≡ fault.Device) ⊎ KeepsSlots K old new durable front disk S)
  settles_kept (Ok made) geometry bounds may K front disk S shows w = kept_by geometry bounds may K front disk S shows w
  settles_kept (Err f) geometry bounds may K front disk S shows (inl device) = inl device
  settles_kept (Err f) geometry bounds may K front disk S shows (inr w) = inr (kept_by geometry bounds may K front disk S shows w)
