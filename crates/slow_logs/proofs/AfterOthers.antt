-- A record that decides nothing, of a transaction that tells nothing, leaves what the list tells.
use Rattle.std.proofs.Common.{◌≡◌, ◌≢◌, ℕ, List, [], ◌∷◌, ◌++◌, Bool, true, false, cond, Some, None, map, refl, sym, ap, ◌∙◌, append-nil}
use Rattle.std.specs.Prelude.{filter, ◌==◌, ◌&&◌, ◌||◌, not}
use Rattle.std.specs.List.{filter_map, cons_option, AllByRecursion}
use Rattle.std.specs.FinMap.{empty}
use Rattle.std.proofs.lemmas.Bool.{eq-eqb, ne_eqb}
use Rattle.std.proofs.lemmas.List.Elements.{filter_map-append}
use Rattle.std.proofs.lemmas.List.Folds.{list_any-append}
use Rattle.shore_model.specs.declared.log_records.LogRecord.{LogRecord}
use Rattle.shore_model.specs.declared.log_records.Payload.{Payload}
use Rattle.shore_model.specs.Records.{WriteSet, overlays}
use Rattle.shore_model.specs.Logs.{last_images, logged_writes, has, is_commit, is_prepare, is_rollback, is_decision, is_in_doubt, committed_in, commit_of, in_doubt_in, prepare_of, records_told}
use Rattle.shore_model.proofs.LogSteps.{logged_writes-one_more}

none_of : (a b c : Bool) → (a || b || c) ≡ false → (a ≡ false) × (b ≡ false) × (c ≡ false)
none_of false false false h = (refl, refl, refl)
none_of false false true h = cc
none_of false true c h = cc
none_of true b c h = cc

adds_none : (a b c : Bool) → c ≡ false → (a || ((b && c) || false)) ≡ a
adds_none true b c h = refl
adds_none false true c h = ap (λ x. x || false) h
adds_none false false c h = refl

pub or_none : (a b : Bool) → (a || b) ≡ false → (a ≡ false) × (b ≡ false)
or_none false b h = (refl, h)
or_none true b h = cc

-- transactions other than t
abbrev pub AreOthers : ℕ → List ℕ → Type 0
AreOthers t us = AllByRecursion (λ u. t ≢ u) us

pub other_or : (b : Bool) (t u : ℕ) (us : List ℕ) → ((u == t) && b) ≡ false → AreOthers t us → AreOthers t (cons_option (cond b (Some u) None) us)
other_or true t u us h rest =
    (λ e. let yes : (u == t) ≡ true = eq-eqb u t (sym e) in let no_match : (true && true) ≡ false = sym (ap (λ b. b && true) yes) ∙ h in cc, rest)
other_or false t u us h rest = rest

-- one that has no Commit is not among the committed
others_committed : (t : ℕ) (rs : List LogRecord) → has is_commit t rs ≡ false → AreOthers t (committed_in rs)
others_committed t [] h = tt
others_committed t (r ∷ rs) h =
    let none = or_none ((r.txn == t) && is_commit r.payload) (has is_commit t rs) h in
    other_or (is_commit r.payload) t r.txn (committed_in rs) none.0 (others_committed t rs none.1)

-- one that does not pass is not among those that pass
others_passed : (p : ℕ → Bool) (t : ℕ) → p t ≡ false → (us : List ℕ) → AreOthers t (filter p us)
others_passed p t h [] = tt
others_passed p t h (u ∷ us) =
    elim (p u) as (λ b. p u ≡ b → AreOthers t (cond b (u ∷ filter p us) (filter p us))) [
      | true ↦ λ passes. ((λ e. let same : p t ≡ p u = ap p e in cc), others_passed p t h us)
      | false ↦ λ _. others_passed p t h us
    ] refl

same_on_others : (f g : ℕ → WriteSet) (t : ℕ) → ((u : ℕ) → t ≢ u → f u ≡ g u) → (us : List ℕ) → AreOthers t us → map f us ≡ map g us
same_on_others f g t same [] h = refl
same_on_others f g t same (u ∷ us) h = ap (λ W. W ∷ map f us) (same u h.0) ∙ ap (λ Ws. g u ∷ Ws) (same_on_others f g t same us h.1)

module _ (rs : List LogRecord) (r : LogRecord) where
  abbrev after : List LogRecord
  after = rs ++ r ∷ []

  writes_of_others : (u : ℕ) → r.txn ≢ u → logged_writes after u ≡ logged_writes rs u
  writes_of_others u other =
      let no_match : (r.txn == u) ≡ false = ne_eqb r.txn u other in
      logged_writes-one_more u rs r ∙ ap (λ b. last_images (filter (λ r. r.txn == u) rs ++ cond b (r ∷ []) [])) no_match
      ∙ ap last_images (append-nil (filter (λ r. r.txn == u) rs))

  has-same : (q : Payload → Bool) (u : ℕ) → q r.payload ≡ false → has q u after ≡ has q u rs
  has-same q u h = list_any-append (λ r. (r.txn == u) && q r.payload) rs (r ∷ []) ∙ adds_none (has q u rs) (r.txn == u) (q r.payload) h

  pub committed-same : is_commit r.payload ≡ false → committed_in after ≡ committed_in rs
  committed-same no_commit =
      filter_map-append commit_of rs (r ∷ []) ∙ ap (λ b. committed_in rs ++ cons_option (cond b (Some r.txn) None) []) no_commit
      ∙ append-nil (committed_in rs)

  module _ (decides : is_decision r.payload ≡ false) where
    abbrev decides_none : (is_commit r.payload ≡ false) × (is_prepare r.payload ≡ false) × (is_rollback r.payload ≡ false)
    decides_none = none_of (is_commit r.payload) (is_prepare r.payload) (is_rollback r.payload) decides

    in_doubt-same : (u : ℕ) → is_in_doubt u after ≡ is_in_doubt u rs
    in_doubt-same u =
        ap (λ b. b && not (has is_commit u after) && not (has is_rollback u after)) (has-same is_prepare u decides_none.1)
        ∙ ap (λ b. has is_prepare u rs && not b && not (has is_rollback u after)) (has-same is_commit u decides_none.0)
        ∙ ap (λ b. has is_prepare u rs && not (has is_commit u rs) && not b) (has-same is_rollback u decides_none.2)

    prepared-same : filter_map prepare_of after ≡ filter_map prepare_of rs
    prepared-same =
        filter_map-append prepare_of rs (r ∷ []) ∙ ap (λ b. filter_map prepare_of rs ++ cons_option (cond b (Some r.txn) None) []) decides_none.1
        ∙ append-nil (filter_map prepare_of rs)

    pub in_doubt_in-same : in_doubt_in after ≡ in_doubt_in rs
    in_doubt_in-same =
        let same : (λ u. is_in_doubt u after) ≡ (λ u. is_in_doubt u rs) = λ i u. in_doubt-same u i in
        ap (filter (λ u. is_in_doubt u after)) prepared-same ∙ ap (λ p. filter p (filter_map prepare_of rs)) same

    pub records_after_others : has is_commit r.txn rs ≡ false → is_in_doubt r.txn rs ≡ false → records_told after ≡ records_told rs
    records_after_others not_committed not_in_doubt =
        let committed = same_on_others (logged_writes after) (logged_writes rs) r.txn writes_of_others (committed_in rs) (others_committed r.txn rs not_committed) in
        let doubted = same_on_others (logged_writes after) (logged_writes rs) r.txn writes_of_others (in_doubt_in rs)
        (others_passed (λ u. is_in_doubt u rs) r.txn not_in_doubt (filter_map prepare_of rs)) in
        ap (λ us. overlays (overlays empty (map (logged_writes after) us)) (map (logged_writes after) (in_doubt_in after))) (committed-same decides_none.0)
        ∙ ap (λ us. overlays (overlays empty (map (logged_writes after) (committed_in rs))) (map (logged_writes after) us)) in_doubt_in-same
        ∙ ap (λ Ws. overlays (overlays empty Ws) (map (logged_writes after) (in_doubt_in rs))) committed
        ∙ ap (overlays (overlays empty (map (logged_writes rs) (committed_in rs)))) doubted
