-- The number of a transaction's Rollback decided: the log has that record there, if it has one behind what an open found.
use Rattle.std.proofs.Common.{◌≡◌, ◌⊎◌, inl, inr, ⊎_elim, ◌++◌, ◌∷◌, ◌+◌, ◌<◌, ◌≤◌, ℕ, zero, suc, List, [], Bool, true, false, cond, Option, None, Some, refl, sym, ap, subst, ◌∙◌, append-nil, arith, length, take}
use Rattle.std.specs.Prelude.{◌==◌, ◌&&◌, Contains, drop, filter, reverse}
use Rattle.std.specs.List.{cons_option, enumerate_from, filter_map}
use Rattle.std.proofs.lemmas.Bool.{eq-eqb}
use Rattle.std.proofs.Math.Seq.{take-length}
use Rattle.std.proofs.lemmas.List.Elements.{filter-append}
use Rattle.std.proofs.lemmas.List.{reverse-append}
use Rattle.shore_model.specs.declared.histories.Decision.{Decision}
use Rattle.shore_model.specs.declared.histories.Decision.TheVariants as decision
use Rattle.shore_model.specs.declared.log_records.LogRecord.{LogRecord}
use Rattle.shore_model.specs.declared.log_records.Payload.{Payload}
use Rattle.shore_model.specs.declared.log_records.Payload.TheVariants as payload
use Rattle.shore_model.specs.Logs.{first_number, is_rollback, numbered, previous_of}
use Rattle.laws_lives.proofs.Lists.{length-push}
use Rattle.laws_lives.proofs.OneMore.{by_push}
use Rattle.laws_lives.specs.LogPrefixes.{decision_by, decision_in, decisions_in}
use Rattle.laws_lives.specs.Views.{IsAmong}
use Rattle.laws_calls.proofs.Elements.{among_contained}
use Rattle.laws_calls.specs.Resolves.{rollback_number, IsResolvable, rollback_decided}
use Rattle.laws_calls.specs.States.{State, next_number}
use Rattle.laws_lives.specs.Sessions.{SessionTxn}
use Rattle.laws_calls.specs.Rollbacks.{rolled}
use Rattle.shore_model.specs.declared.rollbacks.Rollback.TheVariants.{Whole}

-- ---- one record more

enumerate-push : (n : ℕ) (rs : List LogRecord) (r : LogRecord) → enumerate_from n (rs ++ r ∷ []) ≡ enumerate_from n rs ++ (n + length rs, r) ∷ []
enumerate-push n [] r = let e : n ≡ n + 0 = omega arith in ap (λ (k : ℕ). (k, r) ∷ []) e
enumerate-push n (x ∷ rs) r =
    let e : n + 1 + length rs ≡ n + suc (length rs) = omega arith in
    ap (λ es. (n, x) ∷ es) (enumerate-push (n + 1) rs r ∙ ap (λ (k : ℕ). enumerate_from (n + 1) rs ++ (k, r) ∷ []) e)

reverse-next : (b : Bool) (e : ℕ × LogRecord) (es : List (ℕ × LogRecord)) → reverse (es ++ cond b (e ∷ []) []) ≡ cond b (e ∷ reverse es) (reverse es)
reverse-next true e es = reverse-append es (e ∷ [])
reverse-next false e es = ap reverse (append-nil es)

first-next : (b : Bool) (e : ℕ × LogRecord) (es : List (ℕ × LogRecord)) → first_number (cond b (e ∷ es) es) ≡ cond b e.0 (first_number es)
first-next true e es = refl
first-next false e es = refl

module _ (t : ℕ) where
  abbrev decides : LogRecord → Bool
  decides r = (r.txn == t) && is_rollback r.payload

  pub number_push : (rs : List LogRecord) (r : LogRecord) → rollback_number t (rs ++ r ∷ []) ≡ cond (decides r) (1 + length rs) (rollback_number t rs)
  number_push rs r =
      let found = filter (λ (e : ℕ × LogRecord). decides e.1) (numbered rs) in
      ap (λ es. first_number (reverse (filter (λ (e : ℕ × LogRecord). decides e.1) es))) (enumerate-push 1 rs r)
      ∙ ap (λ es. first_number (reverse es)) (filter-append (λ (e : ℕ × LogRecord). decides e.1) (numbered rs) ((1 + length rs, r) ∷ []))
      ∙ ap first_number (reverse-next (decides r) (1 + length rs, r) found)
      ∙ first-next (decides r) (1 + length rs, r) (reverse found)

  -- the record of the decision
  by_payload : (u : ℕ) (p : Payload) → decision_by u p ≡ Some (decision.RollBack t) → ((u == t) && is_rollback p) ≡ true
  by_payload u payload.RollbackDecided e = ap (λ b. b && true) (eq-eqb u t (same e))
    where
      same : Some (decision.RollBack u) ≡ Some (decision.RollBack t) → u ≡ t
      same e = cc
  by_payload u payload.Commit e = cc
  by_payload u (payload.Prepare global granules) e = cc
  by_payload u (payload.Change id before image) e = cc
  by_payload u (payload.Compensation id image undo_next) e = cc
  by_payload u payload.End e = cc
  by_payload u payload.CheckpointBegin e = cc
  by_payload u (payload.CheckpointEnd begin next txns dirty) e = cc
  by_payload u (payload.Anchor checkpoint tail) e = cc

  drop-none : (n : ℕ) → drop {A = LogRecord} n [] ≡ []
  drop-none zero = refl
  drop-none (suc n) = refl

  in_one : (o : Option Decision) (ds : List Decision) (d : Decision) → IsAmong d (cons_option o ds) → (o ≡ Some d) ⊎ IsAmong d ds
  in_one None ds d h = inr h
  in_one (Some e) ds d h = ⊎_elim (λ same. inl (ap Some same)) (λ later. inr later) h

  in_more : (o : Option Decision) (ds : List Decision) (d : Decision) → IsAmong d ds → IsAmong d (cons_option o ds)
  in_more None ds d h = h
  in_more (Some e) ds d h = inr h

  first_in : (o : Option Decision) (ds : List Decision) (d : Decision) → o ≡ Some d → IsAmong d (cons_option o ds)
  first_in o ds d is = subst (λ (x : Option Decision). IsAmong d (cons_option x ds)) (sym is) (inl refl)

  in_push : (base : ℕ) (rs : List LogRecord) (r : LogRecord) (d : Decision) → IsAmong d (decisions_in base (rs ++ r ∷ [])) → IsAmong d (decisions_in base rs) ⊎ (decision_in r ≡ Some d)
  in_push zero [] r d h = ⊎_elim (λ own. inr own) (λ none. absurd none) (in_one (decision_in r) [] d h)
  in_push zero (x ∷ rs) r d h =
      ⊎_elim (λ first. inl (first_in (decision_in x) (filter_map decision_in rs) d first))
      (λ later. ⊎_elim (λ before. inl (in_more (decision_in x) (filter_map decision_in rs) d before)) (λ own. inr own) (in_push zero rs r d later))
      (in_one (decision_in x) (filter_map decision_in (rs ++ r ∷ [])) d h)
  in_push (suc n) [] r d h = absurd (subst (λ xs. IsAmong d (filter_map decision_in xs)) (drop-none n) h)
  in_push (suc n) (x ∷ rs) r d h = in_push n rs r d h

  -- ---- its place

  pub record HasNumber (base : ℕ) (log : List LogRecord) : Type 0 where
    pub some : 0 < rollback_number t log
    pub within : rollback_number t log ≤ length log
    pub decided : Contains (decisions_in base (take (rollback_number t log) log)) (decision.RollBack t)

  take-front : (n : ℕ) (rs : List LogRecord) (r : LogRecord) → n ≤ length rs → take n (rs ++ r ∷ []) ≡ take n rs
  take-front zero rs r le = refl
  take-front (suc n) [] r le = absurd (omega arith)
  take-front (suc n) (x ∷ rs) r le = ap (λ xs. x ∷ xs) (take-front n rs r (omega arith))

  pub its_number : (base : ℕ) (log : List LogRecord) → IsAmong (decision.RollBack t) (decisions_in base log) → HasNumber base log
  its_number base log =
      by_push (λ log. IsAmong (decision.RollBack t) (decisions_in base log) → HasNumber base log)
      (λ h. absurd (subst (λ xs. IsAmong (decision.RollBack t) (filter_map decision_in xs)) (drop-none base) h)) more log
    where
      more : (rs : List LogRecord) (r : LogRecord) → (IsAmong (decision.RollBack t) (decisions_in base rs) → HasNumber base rs)
          → IsAmong (decision.RollBack t) (decisions_in base (rs ++ r ∷ [])) → HasNumber base (rs ++ r ∷ [])
      more rs r before h = elim (decides r) as (λ b. decides r ≡ b → HasNumber base (rs ++ r ∷ [])) [
        | true ↦ λ e.
            let n : rollback_number t (rs ++ r ∷ []) ≡ 1 + length rs = number_push rs r ∙ ap (λ b. cond b (1 + length rs) (rollback_number t rs)) e in
            let long = length-push rs r in
            let all : rollback_number t (rs ++ r ∷ []) ≡ length (rs ++ r ∷ []) = omega (arith, n, long) in
            record {
              some = omega (arith, n);
              within = omega (arith, n, long);
              decided =
                  subst (λ k. Contains (decisions_in base (take k (rs ++ r ∷ []))) (decision.RollBack t)) (sym all)
                  (subst (λ xs. Contains (decisions_in base xs) (decision.RollBack t)) (sym (take-length (rs ++ r ∷ [])))
                  (among_contained (decision.RollBack t) (decisions_in base (rs ++ r ∷ [])) h));
            }
        | false ↦ λ e.
            let n : rollback_number t (rs ++ r ∷ []) ≡ rollback_number t rs = number_push rs r ∙ ap (λ b. cond b (1 + length rs) (rollback_number t rs)) e in
            let was = before (⊎_elim (λ old. old) (λ own. let clash : false ≡ true = sym e ∙ by_payload r.txn r.payload own in absurd cc) (in_push base rs r (decision.RollBack t) h)) in
            let some = was.some in
            let within = was.within in
            let long = length-push rs r in
            record {
              some = omega (arith, n, some);
              within = omega (arith, n, long, within);
              decided =
                  subst (λ k. Contains (decisions_in base (take k (rs ++ r ∷ []))) (decision.RollBack t)) (sym n)
                  (subst (λ xs. Contains (decisions_in base xs) (decision.RollBack t)) (sym (take-front (rollback_number t rs) rs r within)) was.decided);
            }
      ] refl

-- a decision that is made now has the next number
pub fresh_number : (s : State) (global : List ℕ) (b : SessionTxn) (d : State)
    → (a : SessionTxn) × IsResolvable s a global × (b ≡ rolled a a.undo.images Whole) × (d ≡ rollback_decided s a global) → rollback_number b.txn d.log ≡ next_number s
fresh_number s global b d x =
    let r : LogRecord = record { txn = x.0.txn; previous = previous_of x.0.txn s.log; payload = payload.RollbackDecided } in
    ap (λ (y : State). rollback_number b.txn y.log) x.3
    ∙ ap (λ t. rollback_number t (s.log ++ r ∷ [])) (ap (λ (y : SessionTxn). y.txn) x.2)
    ∙ number_push x.0.txn s.log r
    ∙ ap (λ e. cond (e && true) (1 + length s.log) (rollback_number x.0.txn s.log)) (eq-eqb x.0.txn x.0.txn refl)
