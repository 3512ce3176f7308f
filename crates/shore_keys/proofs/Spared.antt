-- What a change leaves as it was beside the stores of a map.
use Rattle.std.proofs.Common.{◌≡◌, ◌≢◌, ◌⊎◌, inl, inr, ℕ, List, refl, ap, ◌∙◌}
use Rattle.std.specs.FinMap.{get}
use Rattle.shore_types.specs.declared.ids.Rid.{Rid}
use Rattle.shore_model.specs.declared.progress.Progress.{Progress}
use Rattle.shore_model.specs.Records.{Records}
use Rattle.shore_keys.specs.Calls.{removed, wrote}
use Rattle.shore_keys.specs.Exchanges.{Spares, seen}
use Rattle.shore_keys.proofs.Seen.{seen_there, seen_without}

elsewhere : (nodes values : ℕ) (id other : Rid) → other.page.store ≢ nodes → other.page.store ≢ values → (id.page.store ≡ nodes) ⊎ (id.page.store ≡ values) → other ≢ id
elsewhere nodes values id other n v (inl e) same = n (ap (λ (id : Rid). id.page.store) same ∙ e)
elsewhere nodes values id other n v (inr e) same = v (ap (λ (id : Rid). id.page.store) same ∙ e)

module _ {nodes values : ℕ} {R : Records} {p q : Progress} where
  pub spared-same : q ≡ p → Spares nodes values R p q
  spared-same same = record { saved = ap (λ (q : Progress). q.saved) same; others = λ other n v. ap (λ (q : Progress). get (seen R q) other) same }

  pub spared-wrote : (id : Rid) (bytes : List ℕ) → (id.page.store ≡ nodes) ⊎ (id.page.store ≡ values) → q ≡ wrote p id bytes → Spares nodes values R p q
  spared-wrote id bytes here now = record {
    saved = ap (λ (q : Progress). q.saved) now;
    others = λ other n v. ap (λ (q : Progress). get (seen R q) other) now ∙ seen_there R p id bytes other (elsewhere nodes values id other n v here);
  }

  pub spared-removed : (id : Rid) → (id.page.store ≡ nodes) ⊎ (id.page.store ≡ values) → q ≡ removed p id → Spares nodes values R p q
  spared-removed id here now = record {
    saved = ap (λ (q : Progress). q.saved) now;
    others = λ other n v. ap (λ (q : Progress). get (seen R q) other) now ∙ seen_without R p id other (elsewhere nodes values id other n v here);
  }

  pub spared-then : {t : Progress} → Spares nodes values R p q → Spares nodes values R q t → Spares nodes values R p t
  spared-then a b = record { saved = b.saved ∙ a.saved; others = λ other n v. b.others other n v ∙ a.others other n v }
