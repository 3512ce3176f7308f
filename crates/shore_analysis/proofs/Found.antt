-- The Changes that undo answers are among the records that the restart found: a record of undo is none.
use Rattle.std.proofs.Common.{◌≡◌, ⊎_elim, ◌-◌, ◌<◌, ℕ, List, [], ◌∷◌, ◌++◌, Some, None, refl, sym, ap, subst, ◌∙◌, take, arith}
use Rattle.std.specs.Prelude.{slice_get}
use Rattle.std.proofs.lemmas.List.{take-append-le}
use Rattle.std.proofs.lemmas.Option.{slice_get_within}
use Rattle.shore_types.specs.Images.{Image}
use Rattle.shore_types.specs.declared.ids.Rid.{Rid}
use Rattle.shore_model.specs.declared.unanswered_changes.UnansweredChange.{UnansweredChange}
use Rattle.shore_model.specs.declared.log_records.LogRecord.{LogRecord}
use Rattle.shore_model.specs.declared.log_records.Payload.TheVariants.{Change, Compensation, End}
use Rattle.shore_model.specs.Logs.{unanswered, undo_next_of}
use Rattle.laws_lives.specs.Undo.{IsUndoneTo, undo_payload, undo_record}
use Rattle.laws_lives.specs.UndoChains.{IsChangeAt, IsUndoChain}
use Rattle.laws_lives.proofs.UndoChains.{unanswered_chain}
use Rattle.shore_analysis.proofs.MeantLogs.{own_or_last}

no_change : (us : List UnansweredChange) (id : Rid) (before after : Image) → undo_payload us ≡ Change id before after → ⊥
no_change [] id before after e = cc
no_change (c ∷ cs) id before after e = cc

step_back : (log : List LogRecord) (v : ℕ) (t : ℕ) (c : UnansweredChange) (cs : List UnansweredChange) → IsChangeAt (log ++ undo_record log v ∷ []) t c cs → IsChangeAt log t c cs
step_back log v t c cs h = ⊎_elim
    (λ old.
    let within = slice_get_within log (c.number - 1) h.found old in
    record {
      is_one = h.is_one;
      found = h.found;
      here = old;
      own = h.own;
      after = h.after;
      says = h.says;
      before = ap (unanswered t) (sym (take-append-le (c.number - 1) log (undo_record log v ∷ []) (omega (arith, within)))) ∙ h.before;
    })
    (λ new. absurd (no_change (unanswered v log) c.id c.before h.after (ap (λ x. x.payload) new.1 ∙ h.says)))
    (own_or_last log (undo_record log v) h.found (c.number - 1) h.here)

change_found : (found : List LogRecord) (ts : List ℕ) (log : List LogRecord) → IsUndoneTo found ts log → (t : ℕ) (c : UnansweredChange) (cs : List UnansweredChange) → IsChangeAt log t c cs → IsChangeAt found t c cs
change_found found [] log u t c cs h = subst (λ xs. IsChangeAt xs t c cs) u h
change_found found (v ∷ ts) log u t c cs h = step_back found v t c cs (change_found (found ++ undo_record found v ∷ []) ts log u.1 t c cs h)

module _ (found : List LogRecord) (ts : List ℕ) (log : List LogRecord) (undone : IsUndoneTo found ts log) (t change : ℕ) (next_is : change ≡ undo_next_of (unanswered t log)) where
  newest_found : (c : UnansweredChange) (cs : List UnansweredChange) → unanswered t log ≡ c ∷ cs → IsChangeAt found t c cs
  newest_found c cs e =
      let chain : IsUndoChain log t (c ∷ cs) = subst (IsUndoChain log t) e (unanswered_chain log t) in
      change_found found ts log undone t c cs chain.0

  -- its record is found
  pub record Stands (c : UnansweredChange) (cs : List UnansweredChange) : Type 0 where
    pub some : 0 < change
    pub at : IsChangeAt found t c cs
    pub here : slice_get found (change - 1) ≡ Some at.found
    pub below : unanswered at.found.txn (take (change - 1) found) ≡ cs

  pub stands : (c : UnansweredChange) (cs : List UnansweredChange) → unanswered t log ≡ c ∷ cs → Stands c cs
  stands c cs e =
      let at = newest_found c cs e in
      let same : c.number ≡ change = sym (next_is ∙ ap undo_next_of e) in
      record {
        some = subst (λ n. 0 < n) same at.is_one;
        at = at;
        here = ap (λ n. slice_get found (n - 1)) (sym same) ∙ at.here;
        below = ap (λ u. unanswered u (take (change - 1) found)) at.own ∙ ap (λ n. unanswered t (take (n - 1) found)) (sym same) ∙ at.before;
      }

  module _ (r : LogRecord) (here : 0 < change → slice_get found (change - 1) ≡ Some r) where
    same_record : (x : LogRecord) → slice_get found (change - 1) ≡ Some x → 0 < change → r ≡ x
    same_record x h some = let h' = here some in cc

    pub says_compensation : (id : Rid) (before after : Image) → (change ≡ 0 → ⊥) → r.payload ≡ Change id before after → (next : ℕ)
        → (slice_get found (change - 1) ≡ Some r → next ≡ undo_next_of (unanswered r.txn (take (change - 1) found))) → Compensation id before next ≡ undo_payload (unanswered t log)
    says_compensation id before after some is next named = by_newest (unanswered t log) refl
      where
        by_newest : (us : List UnansweredChange) → unanswered t log ≡ us → Compensation id before next ≡ undo_payload us
        by_newest [] e = absurd (some (next_is ∙ ap undo_next_of e))
        by_newest (c ∷ cs) e =
            let s = stands c cs e in
            let same = same_record s.at.found s.here s.some in
            let says : Change id before after ≡ Change c.id c.before s.at.after = sym is ∙ ap (λ x. x.payload) same ∙ s.at.says in
            let below : next ≡ undo_next_of cs = named (here s.some) ∙ ap (λ x. undo_next_of (unanswered x.txn (take (change - 1) found))) same ∙ ap undo_next_of s.below in
            cc

    pub says_end_otherwise : ((id : Rid) (before after : Image) → r.payload ≡ Change id before after → ⊥) → End ≡ undo_payload (unanswered t log)
    says_end_otherwise other = by_newest (unanswered t log) refl
      where
        by_newest : (us : List UnansweredChange) → unanswered t log ≡ us → End ≡ undo_payload us
        by_newest [] e = refl
        by_newest (c ∷ cs) e =
            let s = stands c cs e in
            let same = same_record s.at.found s.here s.some in
            absurd (other c.id c.before s.at.after (ap (λ x. x.payload) same ∙ s.at.says))

  pub says_end : (0 < change → slice_get found (change - 1) ≡ None) → End ≡ undo_payload (unanswered t log)
  says_end gone = by_newest (unanswered t log) refl
    where
      by_newest : (us : List UnansweredChange) → unanswered t log ≡ us → End ≡ undo_payload us
      by_newest [] e = refl
      by_newest (c ∷ cs) e =
          let s = stands c cs e in
          let none = gone s.some in
          let here = s.here in
          cc
