-- The dirty page that a walk over the pages of the volume finds.
use Rattle.std.proofs.Common.{◌≡◌, ◌<◌, ◌≤◌, ◌+◌, ℕ, Option, None, Some, IfNone, IfSome, IsSomeAnd, length, option_map, unwrap_or, inl, inr, refl, sym, ap, subst, ◌∙◌, arith}
use Rattle.std.specs.Prelude.{◌⊎◌}
use Rattle.std.proofs.lemmas.Bool.{cases_lt}
use Rattle.shore_model.specs.declared.log_records.DirtyPage.{DirtyPage}
use Rattle.shore_pool.specs.FrameMaps.{IsDirtyFirst, IsDirtyFirstBelow, IsDirtyPage, NoneDirty, NoneDirtyBelow, dirty_entry, dirty_page, frame_at}
use Rattle.shore_pool.specs.declared.frame.Frame.{Frame}
use Rattle.shore_pool.specs.declared.frames.Frames.{Frames}
use Rattle.shore_pool.proofs.Indexes.{frame_within}

abbrev number_of : Option DirtyPage → ℕ
number_of o = unwrap_or (option_map (λ (d : DirtyPage). d.recovery) o) 0

-- the entry of a page is that of its frame
same_number : (slot : Option Frame) (e : DirtyPage) → dirty_entry slot ≡ Some e → (f : Frame) (recovery : ℕ) → slot ≡ Some f → f.recovery ≡ Some recovery → e.recovery ≡ recovery
same_number slot e is f recovery at dirty = ap number_of (sym is ∙ ap dirty_entry at ∙ ap (option_map (dirty_page f)) dirty)

-- one with no entry is clean
clean : (slot : Option Frame) → dirty_entry slot ≡ None → (f : Frame) → slot ≡ Some f → f.recovery ≡ None
clean slot none f at = of f.recovery (sym (ap dirty_entry at) ∙ none)
  where
    of : (o : Option ℕ) → option_map (dirty_page f) o ≡ None → o ≡ None
    of None is = refl
    of (Some n) is = let clash : Some (dirty_page f n) ≡ None = is in absurd cc

its_page : (slot : Option Frame) (e : DirtyPage) → dirty_entry slot ≡ Some e → IsSomeAnd slot (λ f. (f.page.id ≡ e.page) × (f.recovery ≡ Some e.recovery))
its_page None e is = let clash : None ≡ Some e = is in absurd cc
its_page (Some f) e is = of f.recovery refl is
  where
    of : (o : Option ℕ) → f.recovery ≡ o → option_map (dirty_page f) o ≡ Some e → (f.page.id ≡ e.page) × (f.recovery ≡ Some e.recovery)
    of None at none = let clash : None ≡ Some e = none in absurd cc
    of (Some n) at some = let same : Some (dirty_page f n) ≡ Some e = some in (cc, cc)

less_suc : (k n : ℕ) → k < n + 1 → (k < n) ⊎ (k ≡ n)
less_suc k n less = elim (cases_lt k n) [ inl early ↦ inl early | inr late ↦ inr (omega (arith, less, late)) ]

module _ (frames : Frames) (place : ℕ) where
  -- the page at this place is clean
  pub no_further : (oldest : Option DirtyPage) → dirty_entry (frame_at frames place) ≡ None → IfSome oldest (IsDirtyFirstBelow frames place) → IfSome oldest (IsDirtyFirstBelow frames (place + 1))
  no_further None none was = tt
  no_further (Some d) none was = λ k f recovery below at dirty. elim (less_suc k place below) [
    | inl early ↦ was k f recovery early at dirty
    | inr same ↦ let clean_here = clean (frame_at frames place) none f (ap (frame_at frames) (sym same) ∙ at) in let clash : Some recovery ≡ None = sym dirty ∙ clean_here in absurd cc
  ]

  pub none_further : (oldest : Option DirtyPage) → dirty_entry (frame_at frames place) ≡ None → IfNone oldest (NoneDirtyBelow frames place) → IfNone oldest (NoneDirtyBelow frames (place + 1))
  none_further (Some d) none was = tt
  none_further None none was = λ k f below at. elim (less_suc k place below) [
    | inl early ↦ was k f early at
    | inr same ↦ clean (frame_at frames place) none f (ap (frame_at frames) (sym same) ∙ at)
  ]

  -- it is dirty: the earlier of it and of the oldest before it
  pub page_further : (oldest : Option DirtyPage) (e r : DirtyPage) → Some e ≡ dirty_entry (frame_at frames place) → (r ≡ e) ⊎ (oldest ≡ Some r) → IfSome oldest (IsDirtyPage frames) → IsDirtyPage frames r
  page_further oldest e r is (inl same) was = subst (IsDirtyPage frames) (sym same) (place, its_page (frame_at frames place) e (sym is))
  page_further oldest e r is (inr old) was = subst (λ o. IfSome o (IsDirtyPage frames)) old was

  pub first_further : (oldest : Option DirtyPage) (e r : DirtyPage) → Some e ≡ dirty_entry (frame_at frames place) → r.recovery ≤ e.recovery → IfSome oldest (λ o. r.recovery ≤ o.recovery)
      → IfSome oldest (IsDirtyFirstBelow frames place) → IfNone oldest (NoneDirtyBelow frames place) → IsDirtyFirstBelow frames (place + 1) r
  first_further oldest e r is least still was none k f recovery below at dirty = elim (less_suc k place below) [
    | inl early ↦ before oldest still was none early
    | inr same ↦ let number = same_number (frame_at frames place) e (sym is) f recovery (ap (frame_at frames) (sym same) ∙ at) dirty in omega (arith, least, number)
  ]
    where
      before : (oldest : Option DirtyPage) → IfSome oldest (λ o. r.recovery ≤ o.recovery) → IfSome oldest (IsDirtyFirstBelow frames place) → IfNone oldest (NoneDirtyBelow frames place) → k < place → r.recovery ≤ recovery
      before (Some o) still was none early = let old = was k f recovery early at dirty in omega (arith, still, old)
      before None still was none early = let clash : Some recovery ≡ None = sym dirty ∙ none k f early at in absurd cc

-- all pages of the volume were seen
module _ (frames : Frames) (place : ℕ) (all : length frames.table.items ≤ place) where
  pub first_of_all : (oldest : Option DirtyPage) → IfSome oldest (IsDirtyFirstBelow frames place) → IfSome oldest (IsDirtyFirst frames)
  first_of_all None was = tt
  first_of_all (Some d) was = λ k f recovery at dirty. let within = frame_within frames.slots frames.table.items k f at in was k f recovery (omega (arith, within, all)) at dirty

  pub none_of_all : (oldest : Option DirtyPage) → IfNone oldest (NoneDirtyBelow frames place) → IfNone oldest (NoneDirty frames)
  none_of_all (Some d) was = tt
  none_of_all None was = λ k f at. let within = frame_within frames.slots frames.table.items k f at in was k f (omega (arith, within, all)) at
