-- A log that tells its decisions tells what these show: the serial records, overlaid with what those in doubt have written.
use Rattle.std.proofs.Common.{◌≡◌, ◌⊎◌, inl, inr, ⊎_elim, ◌++◌, ℕ, List, [], ◌∷◌, Bool, true, false, cond, Some, None, refl, sym, ap, subst, ◌∙◌, map}
use Rattle.std.specs.Prelude.{filter, IsSome, not, unwrap_or}
use Rattle.std.specs.FinMap.{get, same_map}
use Rattle.std.specs.List.{cons_option, filter_map}
use Rattle.std.proofs.lemmas.Bool.{cases_Bool, true≢false}
use Rattle.std.proofs.lemmas.List.Elements.{filter_map-append}
use Rattle.shore_types.specs.Ids.{rids_total, exact_rids}
use Rattle.shore_types.specs.declared.ids.Rid.{Rid}
use Rattle.shore_model.specs.declared.histories.Entry.{Entry}
use Rattle.shore_model.specs.declared.histories.Opening.{Opening}
use Rattle.shore_model.specs.declared.log_records.LogRecord.{LogRecord}
use Rattle.shore_model.specs.declared.log_records.Payload.{Payload}
use Rattle.shore_model.specs.declared.log_records.Payload.TheVariants.{Prepare}
use Rattle.shore_model.specs.Histories.{in_doubt, shown}
use Rattle.shore_model.specs.Logs.{Lawful, MayFollow, MaySay, has, in_doubt_in, is_in_doubt, is_prepare, logged_writes, prepare_of, records_told}
use Rattle.shore_model.specs.Records.{WriteSet, overlay, overlays}
use Rattle.shore_model.proofs.Overlays.{get-overlay}
use Rattle.laws_lives.proofs.DoubtRecords.{among_filter, doubt_has_prepare, doubt_txns}
use Rattle.laws_lives.proofs.InPlace.{OneImage, found, has_image, unwritten}
use Rattle.laws_lives.proofs.Lists.{among_map, mapped_one}
use Rattle.laws_lives.proofs.OneMore.{writes_none}
use Rattle.laws_lives.proofs.Views.{not_some, some_or_none, written_or_not}
use Rattle.laws_lives.proofs.Writers.{by_records, one_writer_at_most, same_or_not}
use Rattle.laws_lives.proofs.WritersTold.{doubt_not_over}
use Rattle.laws_lives.specs.Doubts.{HasWritten, LoggedDoubt, doubt_by, doubt_of, doubts_in, pair_logged}
use Rattle.laws_lives.specs.LogPrefixes.{TellsItsDecisions, decisions_in}
use Rattle.laws_lives.specs.LogTells.{records_committed}
use Rattle.laws_lives.specs.Sessions.{EachOnce}
use Rattle.laws_lives.specs.Soundness.{history_from, written_by}
use Rattle.laws_lives.specs.Views.{IsAmong}
use Rattle.laws_lives.specs.Writers.{HasOneWriterAtMost, changes_id}

module _ (log : List LogRecord) (lawful : Lawful log) where
  changed_if_logged : (t : ℕ) (id : Rid) → IsSome (get (logged_writes log t) id) → has (changes_id id) t log ≡ true
  changed_if_logged t id some = ⊎_elim (λ yes. yes) (λ no. absurd (not_some (writes_none log t id no) some)) (cases_Bool (has (changes_id id) t log))

  -- no two of them have changed one id
  same_writer : (t u : ℕ) (id : Rid) → is_in_doubt t log ≡ true → is_in_doubt u log ≡ true → has (changes_id id) t log ≡ true → has (changes_id id) u log ≡ true → t ≡ u
  same_writer t u id a b c d = by_writer (one_writer_at_most log lawful id)
    where
      by_writer : HasOneWriterAtMost log id → t ≡ u
      by_writer (inl none) = absurd (true≢false (sym (none.over t c) ∙ doubt_not_over log lawful t a))
      by_writer (inr w) =
          ⊎_elim
          (λ same. ⊎_elim (λ also. same ∙ sym also) (λ other. absurd (true≢false (sym (w.1.others u other d) ∙ doubt_not_over log lawful u b))) (same_or_not u w.0))
          (λ other. absurd (true≢false (sym (w.1.others t other c) ∙ doubt_not_over log lawful t a)))
          (same_or_not t w.0)

  module _ (W : ℕ → WriteSet) (written : (t : ℕ) → IsAmong t (in_doubt_in log) → HasWritten log t (W t)) where
    abbrev ts : List ℕ
    ts = in_doubt_in log

    abbrev L : ℕ → WriteSet
    L = logged_writes log

    in_doubt_one : (t : ℕ) → IsAmong t ts → is_in_doubt t log ≡ true
    in_doubt_one t a = (among_filter (λ t. is_in_doubt t log) t (filter_map prepare_of log) a).1

    -- nobody in doubt has logged anything there
    by_none : (id : Rid) → ((t : ℕ) → IsAmong t ts → get (L t) id ≡ None) → get (records_told log) id ≡ get (overlays (records_committed log) (map W ts)) id
    by_none id none =
        unwritten L id (records_committed log) ts none
        ∙ sym (unwritten W id (records_committed log) ts (λ t a. (written t a).unlogged id (none t a)))

    by_one : (id : Rid) (t : ℕ) → IsAmong t ts → IsSome (get (L t) id) → get (records_told log) id ≡ get (overlays (records_committed log) (map W ts)) id
    by_one id t a some =
        let image = has_image (get (L t) id) some in
        let here : image.0 ≡ get (overlay (records_committed log) (W t)) id = (written t a).logged id image.0 image.1 in
        let others_none : (u : ℕ) → IsAmong u ts → (t ≡ u → ⊥) → get (L u) id ≡ None =
        λ u b other. ⊎_elim
        (λ also. absurd (other (same_writer t u id (in_doubt_one t a) (in_doubt_one u b) (changed_if_logged t id some) (changed_if_logged u id also))))
        (λ none. none) (some_or_none (get (L u) id)) in
        let one : OneImage L id image.0 ts = λ u b. ⊎_elim
        (λ same. inr (ap (λ v. get (L v) id) (sym same) ∙ image.1)) (λ other. inl (others_none u b other)) (same_or_not t u) in
        found L id image.0 (records_committed log) ts t one a image.1
        ∙ sym (⊎_elim
        (λ wrote.
        let j = has_image (get (W t) id) wrote in
        let same : image.0 ≡ j.0 = here ∙ get-overlay (records_committed log) (W t) id ∙ ap (λ o. unwrap_or o (get (records_committed log) id)) j.1 in
        found W id image.0 (records_committed log) ts t
        (λ u b. ⊎_elim (λ same_txn. inr (ap (λ v. get (W v) id) (sym same_txn) ∙ j.1 ∙ ap Some (sym same))) (λ other. inl ((written u b).unlogged id (others_none u b other))) (same_or_not t u))
        a (j.1 ∙ ap Some (sym same)))
        (λ not_written.
        unwritten W id (records_committed log) ts
        (λ u b. ⊎_elim (λ same_txn. ap (λ v. get (W v) id) (sym same_txn) ∙ not_written) (λ other. (written u b).unlogged id (others_none u b other)) (same_or_not t u))
        ∙ sym (here ∙ get-overlay (records_committed log) (W t) id ∙ ap (λ o. unwrap_or o (get (records_committed log) id)) not_written))
        (some_or_none (get (W t) id)))

    pub told_by_written : records_told log ≡ overlays (records_committed log) (map W ts)
    told_by_written = same_map rids_total exact_rids _ _ (λ id. ⊎_elim
        (λ w. by_one id w.0 w.1 w.2)
        (λ none. by_none id none)
        (written_or_not L id ts))

pub told_is_shown : (base : ℕ) (o : Opening) (es : List Entry) (log : List LogRecord) → Lawful log → TellsItsDecisions base o (written_by o es) log
    → records_told log ≡ shown (history_from o es) (decisions_in base log)
told_is_shown base o es log lawful h =
    told_by_written log lawful (written_by o es) h.written
    ∙ ap (λ us. overlays (records_committed log) (map (written_by o es) us)) (doubt_txns log)
    ∙ ap (overlays (records_committed log)) (map_twice (doubts_in log))
    ∙ ap (λ ps. overlays (records_committed log) (map (λ p. written_by o es p.0) ps)) h.in_doubt
    ∙ ap (λ R. overlays R (map (λ p. written_by o es p.0) (in_doubt o.in_doubt (decisions_in base log)))) h.committed
  where
    map_twice : (ds : List LoggedDoubt) → map (written_by o es) (map (λ d. d.txn) ds) ≡ map (λ p. written_by o es p.0) (map pair_logged ds)
    map_twice [] = refl
    map_twice (d ∷ ds) = ap (λ Ws. written_by o es d.txn ∷ Ws) (map_twice ds)

-- ---- each comes once

abbrev txns_logged : List LoggedDoubt → List ℕ
txns_logged ds = map (λ d. d.txn) ds

once_push : (x : ℕ) (xs : List ℕ) → (IsAmong x xs → ⊥) → EachOnce xs → EachOnce (xs ++ x ∷ [])
once_push x [] none h = ((λ b. b), tt)
once_push x (y ∷ xs) none h = (λ among. ⊎_elim (λ old. h.0 old) (λ new. ⊎_elim (λ same. none (inl (sym same))) (λ no. no) new) (split y xs x among), once_push x xs (λ later. none (inr later)) h.1)
  where
    split : (y : ℕ) (xs : List ℕ) (x : ℕ) → IsAmong y (xs ++ x ∷ []) → IsAmong y xs ⊎ IsAmong y (x ∷ [])
    split y [] x h = inr h
    split y (z ∷ xs) x (inl e) = inl (inl e)
    split y (z ∷ xs) x (inr later) = ⊎_elim (λ a. inl (inr a)) (λ b. inr b) (split y xs x later)

once_filtered : (f : LoggedDoubt → Bool) (ds : List LoggedDoubt) → EachOnce (txns_logged ds) → EachOnce (txns_logged (filter f ds))
once_filtered f [] h = tt
once_filtered f (d ∷ ds) h =
    elim (f d) as (λ b. EachOnce (txns_logged (cond b (d ∷ filter f ds) (filter f ds)))) [
      | true ↦ (λ among. h.0 (fewer (mapped_one (λ (d : LoggedDoubt). d.txn) d.txn (filter f ds) among)), once_filtered f ds h.1)
      | false ↦ once_filtered f ds h.1
    ]
  where
    fewer : (e : LoggedDoubt) × IsAmong e (filter f ds) × (e.txn ≡ d.txn) → IsAmong d.txn (txns_logged ds)
    fewer e = subst (λ t. IsAmong t (txns_logged ds)) e.2 (among_map (λ (d : LoggedDoubt). d.txn) e.0 ds (among_filter f e.0 ds e.1).0)

one_prepare : (log : List LogRecord) (t : ℕ) (p : Payload) (d : LoggedDoubt) → doubt_by t p ≡ Some d → MaySay log t p → (has is_prepare t log ≡ false) × (d.txn ≡ t)
one_prepare log t (Prepare global gs) d e says = (not_true (has is_prepare t log) says.0, txn_of e)
  where
    txn_of : {c d : LoggedDoubt} → Some c ≡ Some d → d.txn ≡ c.txn
    txn_of e = cc

    not_true : (b : Bool) → not b ≡ true → b ≡ false
    not_true true h = cc
    not_true false h = refl
one_prepare log t _ d e says = cc

pub doubts_once : (log : List LogRecord) → Lawful log → EachOnce (txns_logged (doubts_in log))
doubts_once log lawful =
    once_filtered (λ d. is_in_doubt d.txn log) (filter_map doubt_of log)
    (by_records (λ rs. EachOnce (txns_logged (filter_map doubt_of rs))) tt one_more log lawful)
  where
    one_more : (rs : List LogRecord) (r : LogRecord) → MayFollow rs r → EachOnce (txns_logged (filter_map doubt_of rs)) → EachOnce (txns_logged (filter_map doubt_of (rs ++ r ∷ [])))
    one_more rs r follows h =
        subst (λ ds. EachOnce (txns_logged ds)) (sym (filter_map-append doubt_of rs (r ∷ [])))
        (elim (doubt_of r) as (λ o. doubt_of r ≡ o → EachOnce (txns_logged (filter_map doubt_of rs ++ cons_option o []))) [
          | None ↦ λ e. subst (λ ds. EachOnce (txns_logged ds)) (sym (append_none (filter_map doubt_of rs))) h
          | Some d ↦ λ e.
              let p = one_prepare rs r.txn r.payload d e follows.says in
              subst EachOnce (sym (txns_push d (filter_map doubt_of rs)))
              (once_push d.txn (txns_logged (filter_map doubt_of rs))
              (λ among. let c = mapped_one (λ (d : LoggedDoubt). d.txn) d.txn (filter_map doubt_of rs) among in
              true≢false (sym (doubt_has_prepare c.0 rs c.1) ∙ ap (λ t. has is_prepare t rs) (c.2 ∙ p.1) ∙ p.0)) h)
        ] refl)
      where
        append_none : {A : Type 0} (xs : List A) → xs ++ [] ≡ xs
        append_none [] = refl
        append_none (x ∷ xs) = ap (λ ys. x ∷ ys) (append_none xs)

        txns_push : (d : LoggedDoubt) (ds : List LoggedDoubt) → txns_logged (ds ++ d ∷ []) ≡ txns_logged ds ++ d.txn ∷ []
        txns_push d [] = refl
        txns_push d (e ∷ ds) = ap (λ ts. e.txn ∷ ts) (txns_push d ds)
