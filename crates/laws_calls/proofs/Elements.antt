-- Elements of lists, and of prefixes of the log.
use Rattle.std.proofs.Common.{◌≡◌, ◌≢◌, inl, inr, ⊎_elim, ◌≤◌, ℕ, List, [], ◌∷◌, ◌++◌, true, false, cond, refl, sym, ap, subst, ◌∙◌, drop, take, length, take-append-drop}
use Rattle.std.specs.Prelude.{◌==◌, Contains, not}
use Rattle.std.proofs.lemmas.Bool.{eqb-true, eqb-false}
use Rattle.std.proofs.lemmas.List.{take-append-le, take-take}
use Rattle.std.proofs.lemmas.List.Elements.{Contains-append_left}
use Rattle.shore_model.specs.declared.histories.Decision.{Decision}
use Rattle.shore_model.specs.declared.log_records.LogRecord.{LogRecord}
use Rattle.shore_model.proofs.RecordPaths.{head_contained, rest_contained}
use Rattle.laws_lives.proofs.LogPrefixes.{decisions_in-take}
use Rattle.laws_lives.specs.LogPrefixes.{decisions_in}
use Rattle.laws_lives.specs.Sessions.{EachOnce, SessionTxn, txns_of, with_undo}
use Rattle.laws_lives.specs.UndoLists.{UndoList}
use Rattle.laws_lives.specs.Views.{IsAmong}
use Rattle.laws_lives.proofs.Members.{txn_among}
use Rattle.laws_calls.specs.States.{Waiting, without_waiting}

-- ---- lists

pub among_contained : {A : Type 0} (x : A) (xs : List A) → IsAmong x xs → Contains xs x
among_contained x [] h = absurd h
among_contained x (y ∷ xs) (inl e) = subst (λ z. Contains (z ∷ xs) x) (sym e) (head_contained x xs)
among_contained x (y ∷ xs) (inr later) = rest_contained y xs x (among_contained x xs later)

pub among_last : {A : Type 0} (xs : List A) (x : A) → IsAmong x (xs ++ x ∷ [])
among_last [] x = inl refl
among_last (y ∷ xs) x = inr (among_last xs x)

-- the calls that wait, but for a session's, are those of the others
pub waits_on : (session : ℕ) (w : Waiting) (ws : List Waiting) → IsAmong w (without_waiting session ws) → IsAmong w ws × (w.session ≢ session)
waits_on session w [] = λ h. absurd h
waits_on session w (x ∷ ws) =
    elim (x.session == session) as
    (λ b. (x.session == session) ≡ b → IsAmong w (cond (not b) (x ∷ without_waiting session ws) (without_waiting session ws)) → IsAmong w (x ∷ ws) ×
    (w.session ≢ session)) [
      | true ↦ λ e h. let rest = waits_on session w ws h in (inr rest.0, rest.1)
      | false ↦ λ e h. ⊎_elim (λ same. (inl same, λ is. eqb-false x.session session e (ap (λ (w : Waiting). w.session) same ∙ is)))
          (λ later. let rest = waits_on session w ws later in (inr rest.0, rest.1)) h
    ] refl

-- the undo list that a transaction has is put in its place
pub same_undo : (a : SessionTxn) (xs : List SessionTxn) → EachOnce (txns_of xs) → IsAmong a xs → with_undo a.txn a.undo xs ≡ xs
same_undo a [] once h = refl
same_undo a (x ∷ xs) once h =
    elim (x.txn == a.txn) as (λ b. (x.txn == a.txn) ≡ b → cond b
    (record { session = x.session; txn = x.txn; undo = a.undo }) x ∷ with_undo a.txn a.undo xs ≡ x ∷ xs) [
      | true ↦ λ e. ⊎_elim
          (λ same. ap (λ (u : UndoList). record { session = x.session; txn = x.txn; undo = u } ∷ with_undo a.txn a.undo xs)
          (ap (λ (a : SessionTxn). a.undo) (sym same))
          ∙ ap (λ ys. x ∷ ys) (nobody a xs (λ among. once.0 (subst (λ t. IsAmong t (txns_of xs)) (sym (eqb-true x.txn a.txn e)) among))))
          (λ later. absurd (once.0 (subst (λ t. IsAmong t (txns_of xs)) (sym (eqb-true x.txn a.txn e)) (txn_among a xs later)))) h
      | false ↦ λ e. ⊎_elim
          (λ same. absurd (eqb-false x.txn a.txn e (ap (λ (a : SessionTxn). a.txn) same)))
          (λ later. ap (λ ys. x ∷ ys) (same_undo a xs once.1 later)) h
    ] refl
  where
    nobody : (a : SessionTxn) (xs : List SessionTxn) → (IsAmong a.txn (txns_of xs) → ⊥) → with_undo a.txn a.undo xs ≡ xs
    nobody a [] none = refl
    nobody a (x ∷ xs) none =
        elim (x.txn == a.txn) as (λ b. (x.txn == a.txn) ≡ b → cond b
        (record { session = x.session; txn = x.txn; undo = a.undo }) x ∷ with_undo a.txn a.undo xs ≡ x ∷ xs) [
          | true ↦ λ e. absurd (none (inl (eqb-true x.txn a.txn e)))
          | false ↦ λ e. ap (λ ys. x ∷ ys) (nobody a xs (λ later. none (inr later)))
        ] refl

-- ---- decisions in prefixes of the log

-- .. are in every longer prefix
pub in_longer : (base n m : ℕ) (log : List LogRecord) (d : Decision) → n ≤ m → Contains (decisions_in base (take n log)) d
    → Contains (decisions_in base (take m log)) d
in_longer base n m log d le h =
    let front = decisions_in-take base n (take m log) in
    let all = decisions_in base (take m log) in
    subst (λ ds. Contains ds d) (take-append-drop front.0 all)
    (Contains-append_left (take front.0 all) (drop front.0 all) d
    (subst (λ ds. Contains ds d) front.1 (subst (λ rs. Contains (decisions_in base rs) d) (sym (take-take n m log le)) h)))

-- .. and in the same prefix if the log goes on
pub in_grown : (base n : ℕ) (log more : List LogRecord) (d : Decision) → n ≤ length log → Contains (decisions_in base (take n log)) d
    → Contains (decisions_in base (take n (log ++ more))) d
in_grown base n log more d within h = subst (λ rs. Contains (decisions_in base rs) d) (sym (take-append-le n log more within)) h
