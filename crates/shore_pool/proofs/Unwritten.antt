-- Pages that are dirty still, and were not written.
use Rattle.std.proofs.Common.{◌≡◌, ◌≢◌, ℕ, List, Option, Some, None, option_map, refl, sym, ap, ◌∙◌, inl, inr}
use Rattle.std.proofs.lemmas.Bool.{cases_eq}
use Rattle.shore_types.specs.declared.versions.Version.{Version}
use Rattle.shore_dwrite.specs.Shown.{AreTexts, overlaid}
use Rattle.shore_pool.specs.declared.frame.Frame.{Frame}
use Rattle.shore_pool.specs.Changes.{settled, settled_at}
use Rattle.shore_pool.specs.Pages.{HasText, StayUnwritten, WereDirty}
use Rattle.shore_pool.proofs.Written.{each_page}

module _ (v : Version) (at now : ℕ → Option Frame) where
  pub were_same : ((k : ℕ) → now k ≡ at k) → WereDirty at now
  were_same same k f is dirty = sym (same k) ∙ is

  -- one frame may have gone, or has a clean page now
  pub were_but : (n : ℕ) → ((k : ℕ) → k ≢ n → now k ≡ at k) → ((f : Frame) → now n ≡ Some f → f.recovery ≡ None) → WereDirty at now
  were_but n others clean k f is dirty = elim (cases_eq k n) [
    | inl same ↦ absurd (dirty (clean f (sym (ap now same) ∙ is)))
    | inr other ↦ sym (others k other) ∙ is
  ]

  pub were_gone : (n : ℕ) → ((k : ℕ) → k ≢ n → now k ≡ at k) → now n ≡ None → WereDirty at now
  were_gone n others gone = were_but n others (λ f is. let clash : None ≡ Some f = sym gone ∙ is in absurd cc)

  pub were_added : (n : ℕ) (e : Frame) → ((k : ℕ) → k ≢ n → now k ≡ at k) → now n ≡ Some e → e.recovery ≡ None → WereDirty at now
  were_added n e others here clean = were_but n others (λ f is. let same : ◌≡◌ {A = Option Frame} (Some e) (Some f) = sym here ∙ is in let one : e ≡ f = cc in ap (λ (x : Frame). x.recovery) (sym one) ∙ clean)

  -- no page was written
  pub none_written : (disk : ℕ → List ℕ) → WereDirty at now → StayUnwritten at disk now disk
  none_written disk were k f is dirty = (were k f is dirty, refl)

  -- a batch was
  pub others_unwritten : (ns texts : List ℕ) (disk : ℕ → List ℕ) → AreTexts v (HasText at) ns texts → ((k : ℕ) → now k ≡ settled_at ns at k) → StayUnwritten at disk now (overlaid v ns texts disk)
  others_unwritten ns texts disk are settles k f is dirty = elim (each_page v at ns texts disk are k) [
    | inl old ↦ (sym (settles k ∙ old.same) ∙ is, old.text)
    | inr new ↦ absurd (dirty (clean (at k) (sym (settles k ∙ new.clean) ∙ is)))
  ]
    where
      clean : (slot : Option Frame) → option_map settled slot ≡ Some f → f.recovery ≡ None
      clean None same = cc
      clean (Some e) same = let one : settled e ≡ f = cc in ap (λ (x : Frame). x.recovery) (sym one)

-- one call after another
pub unwritten_on : (at mid now : ℕ → Option Frame) (disk between left : ℕ → List ℕ) → StayUnwritten at disk mid between → StayUnwritten mid between now left → StayUnwritten at disk now left
unwritten_on at mid now disk between left one two k f is dirty =
    let second = two k f is dirty in
    let first = one k f second.0 dirty in
    (first.0, second.1 ∙ first.1)
