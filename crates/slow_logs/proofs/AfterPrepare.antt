-- What a list tells after a Prepare more.
use Rattle.std.proofs.Common.{◌≡◌, ◌≢◌, ℕ, List, [], ◌∷◌, ◌++◌, Bool, true, false, cond, map, refl, ap, ◌∙◌}
use Rattle.std.specs.Prelude.{filter, ◌==◌, ◌&&◌, ◌||◌, not}
use Rattle.std.specs.List.{filter_map}
use Rattle.std.specs.FinMap.{empty}
use Rattle.std.proofs.lemmas.Bool.{eq-eqb, ne_eqb}
use Rattle.std.proofs.lemmas.List.Elements.{filter-append, filter_map-append}
use Rattle.std.proofs.lemmas.List.Folds.{list_any-append}
use Rattle.shore_types.specs.declared.locking.Granule.{Granule}
use Rattle.shore_model.specs.declared.log_records.LogRecord.{LogRecord}
use Rattle.shore_model.specs.declared.log_records.Payload.{Payload}
use Rattle.shore_model.specs.declared.log_records.Payload.TheVariants.{Prepare}
use Rattle.shore_model.specs.Records.{overlay, overlays}
use Rattle.shore_model.specs.Logs.{logged_writes, has, is_commit, is_prepare, is_rollback, is_in_doubt, committed_in, in_doubt_in, prepare_of, records_told}
use Rattle.shore_model.proofs.Overlays.{overlays-append}
use Rattle.slow_logs.proofs.AfterCommit.{logged_writes-push, map_push}
use Rattle.slow_logs.proofs.AfterOthers.{AreOthers, or_none, other_or, committed-same}

-- one that has no Prepare is not among the prepared
others_prepared : (t : ℕ) (rs : List LogRecord) → has is_prepare t rs ≡ false → AreOthers t (filter_map prepare_of rs)
others_prepared t [] h = tt
others_prepared t (r ∷ rs) h =
    let none = or_none ((r.txn == t) && is_prepare r.payload) (has is_prepare t rs) h in
    other_or (is_prepare r.payload) t r.txn (filter_map prepare_of rs) none.0 (others_prepared t rs none.1)

same_filter : (p q : ℕ → Bool) (t : ℕ) → ((u : ℕ) → t ≢ u → p u ≡ q u) → (us : List ℕ) → AreOthers t us → filter p us ≡ filter q us
same_filter p q t same [] h = refl
same_filter p q t same (u ∷ us) h =
    ap (λ b. cond b (u ∷ filter p us) (filter p us)) (same u h.0) ∙ ap (λ vs. cond (q u) (u ∷ vs) vs) (same_filter p q t same us h.1)

adds_other : (a b c : Bool) → b ≡ false → (a || ((b && c) || false)) ≡ a
adds_other true b c h = refl
adds_other false true c h = cc
adds_other false false c h = refl

module _ (rs : List LogRecord) (t previous : ℕ) (global : List ℕ) (granules : List Granule) where
  abbrev prepare : LogRecord
  prepare = record { txn = t; previous = previous; payload = Prepare global granules }

  abbrev after : List LogRecord
  after = rs ++ prepare ∷ []

  has-after : (q : Payload → Bool) (u : ℕ) → has q u after ≡ (has q u rs || (((t == u) && q prepare.payload) || false))
  has-after q u = list_any-append (λ r. (r.txn == u) && q r.payload) rs (prepare ∷ [])

  has-other : (q : Payload → Bool) (u : ℕ) → t ≢ u → has q u after ≡ has q u rs
  has-other q u other = has-after q u ∙ adds_other (has q u rs) (t == u) (q prepare.payload) (ne_eqb t u other)

  in_doubt-other : (u : ℕ) → t ≢ u → is_in_doubt u after ≡ is_in_doubt u rs
  in_doubt-other u other =
      ap (λ b. b && not (has is_commit u after) && not (has is_rollback u after)) (has-other is_prepare u other)
      ∙ ap (λ b. has is_prepare u rs && not b && not (has is_rollback u after)) (has-other is_commit u other)
      ∙ ap (λ b. has is_prepare u rs && not (has is_commit u rs) && not b) (has-other is_rollback u other)

  module _ (unprepared : has is_prepare t rs ≡ false) (uncommitted : has is_commit t rs ≡ false) (undecided : has is_rollback t rs ≡ false) where
    now_in_doubt : is_in_doubt t after ≡ true
    now_in_doubt =
        let own : (t == t) ≡ true = eq-eqb t t refl in
        let prepared : has is_prepare t after ≡ true = has-after is_prepare t ∙ ap (λ b. b || (((t == t) && true) || false)) unprepared ∙ ap (λ b. (b && true) || false) own in
        let committed : has is_commit t after ≡ false = has-after is_commit t ∙ ap (λ b. b || (((t == t) && false) || false)) uncommitted ∙ ap (λ b. (b && false) || false) own in
        let decided : has is_rollback t after ≡ false = has-after is_rollback t ∙ ap (λ b. b || (((t == t) && false) || false)) undecided ∙ ap (λ b. (b && false) || false) own in
        ap (λ b. b && not (has is_commit t after) && not (has is_rollback t after)) prepared
        ∙ ap (λ b. not b && not (has is_rollback t after)) committed ∙ ap not decided

    in_doubt_in-more : in_doubt_in after ≡ in_doubt_in rs ++ t ∷ []
    in_doubt_in-more =
        ap (filter (λ u. is_in_doubt u after)) (filter_map-append prepare_of rs (prepare ∷ []))
        ∙ filter-append (λ u. is_in_doubt u after) (filter_map prepare_of rs) (t ∷ [])
        ∙ ap (λ b. filter (λ u. is_in_doubt u after) (filter_map prepare_of rs) ++ cond b (t ∷ []) []) now_in_doubt
        ∙ ap (λ us. us ++ t ∷ []) (same_filter (λ u. is_in_doubt u after) (λ u. is_in_doubt u rs) t in_doubt-other (filter_map prepare_of rs) (others_prepared t rs unprepared))

    pub records_after_prepare : records_told after ≡ overlay (records_told rs) (logged_writes rs t)
    records_after_prepare =
        let same : logged_writes after ≡ logged_writes rs = λ i u. logged_writes-push rs prepare refl u i in
        let committed = overlays empty (map (logged_writes rs) (committed_in rs)) in
        ap (λ us. overlays (overlays empty (map (logged_writes after) (committed_in after))) (map (logged_writes after) us)) in_doubt_in-more
        ∙ ap (λ us. overlays (overlays empty (map (logged_writes after) us)) (map (logged_writes after) (in_doubt_in rs ++ t ∷ []))) (committed-same rs prepare refl)
        ∙ ap (λ f. overlays (overlays empty (map f (committed_in rs))) (map f (in_doubt_in rs ++ t ∷ []))) same
        ∙ ap (overlays committed) (map_push (logged_writes rs) (in_doubt_in rs) t)
        ∙ overlays-append committed (map (logged_writes rs) (in_doubt_in rs)) (logged_writes rs t ∷ [])
