-- Lists of transactions: one is taken out, or gets another undo list.
use Rattle.std.proofs.Common.{◌≡◌, ◌≢◌, ◌⊎◌, inl, inr, ⊎_elim, ℕ, List, [], ◌∷◌, true, false, cond, refl, sym, ap, subst, ◌∙◌}
use Rattle.std.specs.Prelude.{◌==◌, not}
use Rattle.std.proofs.lemmas.Bool.{eqb-true, eqb-false}
use Rattle.laws_lives.specs.Sessions.{EachOnce, SessionTxn, txns_of, with_undo, without_txn}
use Rattle.laws_lives.specs.UndoLists.{UndoList}
use Rattle.laws_lives.specs.Views.{IsAmong}

pub txn_among : (a : SessionTxn) (xs : List SessionTxn) → IsAmong a xs → IsAmong a.txn (txns_of xs)
txn_among a [] h = absurd h
txn_among a (x ∷ xs) (inl e) = inl (ap (λ (a : SessionTxn). a.txn) e)
txn_among a (x ∷ xs) (inr later) = inr (txn_among a xs later)

module _ (t : ℕ) where
  pub among_without : (a : SessionTxn) (xs : List SessionTxn) → IsAmong a (without_txn t xs) → IsAmong a xs × (a.txn ≢ t)
  among_without a [] = λ h. absurd h
  among_without a (x ∷ xs) =
      elim (x.txn == t) as (λ b. (x.txn == t) ≡ b → IsAmong a (cond (not b) (x ∷ without_txn t xs) (without_txn t xs)) → IsAmong a (x ∷ xs) × (a.txn ≢ t)) [
        | true ↦ λ e h. let rest = among_without a xs h in (inr rest.0, rest.1)
        | false ↦ λ e h. ⊎_elim (λ same. (inl same, λ is. eqb-false x.txn t e (ap (λ (a : SessionTxn). a.txn) same ∙ is))) (λ later. let rest = among_without a xs later in (inr rest.0, rest.1)) h
      ] refl

  pub txn_without : (u : ℕ) (xs : List SessionTxn) → IsAmong u (txns_of (without_txn t xs)) → IsAmong u (txns_of xs) × (u ≢ t)
  txn_without u [] = λ h. absurd h
  txn_without u (x ∷ xs) =
      elim (x.txn == t) as (λ b. (x.txn == t) ≡ b → IsAmong u (txns_of (cond (not b) (x ∷ without_txn t xs) (without_txn t xs))) → IsAmong u (txns_of (x ∷ xs)) × (u ≢ t)) [
        | true ↦ λ e h. let rest = txn_without u xs h in (inr rest.0, rest.1)
        | false ↦ λ e h. ⊎_elim (λ same. (inl same, λ is. eqb-false x.txn t e (same ∙ is))) (λ later. let rest = txn_without u xs later in (inr rest.0, rest.1)) h
      ] refl

  pub txn_stays : (u : ℕ) (xs : List SessionTxn) → IsAmong u (txns_of xs) → u ≢ t → IsAmong u (txns_of (without_txn t xs))
  txn_stays u [] h other = absurd h
  txn_stays u (x ∷ xs) h other =
      elim (x.txn == t) as (λ b. (x.txn == t) ≡ b → IsAmong u (txns_of (cond (not b) (x ∷ without_txn t xs) (without_txn t xs)))) [
        | true ↦ λ e. ⊎_elim (λ same. absurd (other (sym same ∙ eqb-true x.txn t e))) (λ later. txn_stays u xs later other) h
        | false ↦ λ e. ⊎_elim (λ same. inl same) (λ later. inr (txn_stays u xs later other)) h
      ] refl

  module _ (undo : UndoList) where
    pub txns_with : (xs : List SessionTxn) → txns_of (with_undo t undo xs) ≡ txns_of xs
    txns_with [] = refl
    txns_with (x ∷ xs) =
        elim (x.txn == t) as (λ b. (cond b (record { session = x.session; txn = x.txn; undo = undo }) x).txn ∷ txns_of (with_undo t undo xs) ≡ x.txn ∷ txns_of xs) [
          | true ↦ ap (λ us. x.txn ∷ us) (txns_with xs)
          | false ↦ ap (λ us. x.txn ∷ us) (txns_with xs)
        ]

    -- an element once one transaction has the new undo list: it is that transaction, or is as it was
    pub record HasNewUndo (xs : List SessionTxn) (a : SessionTxn) : Type 0 where
      pub was : SessionTxn
      pub there : IsAmong was xs
      pub session : a.session ≡ was.session
      pub txn : a.txn ≡ was.txn
      pub one : ((a.txn ≡ t) × (a.undo ≡ undo)) ⊎ ((a.txn ≢ t) × (a ≡ was))

    later_with : (x : SessionTxn) (xs : List SessionTxn) (a : SessionTxn) → HasNewUndo xs a → HasNewUndo (x ∷ xs) a
    later_with x xs a h = record { was = h.was; there = inr h.there; session = h.session; txn = h.txn; one = h.one }

    pub among_with : (a : SessionTxn) (xs : List SessionTxn) → IsAmong a (with_undo t undo xs) → HasNewUndo xs a
    among_with a [] = λ h. absurd h
    among_with a (x ∷ xs) =
        elim (x.txn == t) as (λ b. (x.txn == t) ≡ b → IsAmong a (cond b (record { session = x.session; txn = x.txn; undo = undo }) x ∷ with_undo t undo xs) → HasNewUndo (x ∷ xs) a) [
          | true ↦ λ e h. ⊎_elim (λ same. subst (HasNewUndo (x ∷ xs)) same (record { was = x; there = inl refl; session = refl; txn = refl; one = inl (eqb-true x.txn t e, refl) })) (λ later. later_with x xs a (among_with a xs later)) h
          | false ↦ λ e h. ⊎_elim (λ same. subst (HasNewUndo (x ∷ xs)) same (record { was = x; there = inl refl; session = refl; txn = refl; one = inr (eqb-false x.txn t e, refl) })) (λ later. later_with x xs a (among_with a xs later)) h
        ] refl

    -- no session is lost by it
    pub with_among : (a : SessionTxn) (xs : List SessionTxn) → IsAmong a xs
        → (b : SessionTxn) × IsAmong b (with_undo t undo xs) × (b.session ≡ a.session)
    with_among a [] h = absurd h
    with_among a (x ∷ xs) (inl same) =
        elim (x.txn == t) as (λ c. (b : SessionTxn) × IsAmong b (cond c (record { session = x.session; txn = x.txn; undo = undo }) x ∷ with_undo t undo xs) × (b.session ≡ a.session)) [
          | true ↦ (record { session = x.session; txn = x.txn; undo = undo }, inl refl, ap (λ (a : SessionTxn). a.session) same)
          | false ↦ (x, inl refl, ap (λ (a : SessionTxn). a.session) same)
        ]
    with_among a (x ∷ xs) (inr later) = let h = with_among a xs later in (h.0, inr h.1, h.2)

  pub member_stays : (a : SessionTxn) (xs : List SessionTxn) → IsAmong a xs → a.txn ≢ t → IsAmong a (without_txn t xs)
  member_stays a [] h other = absurd h
  member_stays a (x ∷ xs) h other =
      elim (x.txn == t) as (λ b. (x.txn == t) ≡ b → IsAmong a (cond (not b) (x ∷ without_txn t xs) (without_txn t xs))) [
        | true ↦ λ e. ⊎_elim (λ same. absurd (other (ap (λ (a : SessionTxn). a.txn) (sym same) ∙ eqb-true x.txn t e))) (λ later. member_stays a xs later other) h
        | false ↦ λ e. ⊎_elim (λ same. inl same) (λ later. inr (member_stays a xs later other)) h
      ] refl

-- ---- each once

-- a number among theirs is one's
pub txn_of_one : (t : ℕ) (xs : List SessionTxn) → IsAmong t (txns_of xs) → (a : SessionTxn) × IsAmong a xs × (a.txn ≡ t)
txn_of_one t [] h = absurd h
txn_of_one t (x ∷ xs) (inl same) = (x, inl refl, same)
txn_of_one t (x ∷ xs) (inr later) = let rest = txn_of_one t xs later in (rest.0, inr rest.1, rest.2)

pub once_without : (t : ℕ) (xs : List SessionTxn) → EachOnce (txns_of xs) → EachOnce (txns_of (without_txn t xs))
once_without t [] h = tt
once_without t (x ∷ xs) h =
    elim (x.txn == t) as (λ b. EachOnce (txns_of (cond (not b) (x ∷ without_txn t xs) (without_txn t xs)))) [
      | true ↦ once_without t xs h.1
      | false ↦ (λ later. h.0 (txn_without t x.txn xs later).0, once_without t xs h.1)
    ]

-- its number tells which it is
pub same_member : (a b : SessionTxn) (xs : List SessionTxn) → EachOnce (txns_of xs) → IsAmong a xs → IsAmong b xs → a.txn ≡ b.txn → a ≡ b
same_member a b [] once m n same = absurd m
same_member a b (x ∷ xs) once (inl d) (inl e) same = sym d ∙ e
same_member a b (x ∷ xs) once (inl d) (inr later) same =
    absurd (once.0 (subst (λ t. IsAmong t (txns_of xs)) (sym same ∙ ap (λ (a : SessionTxn). a.txn) (sym d)) (txn_among b xs later)))
same_member a b (x ∷ xs) once (inr later) (inl e) same =
    absurd (once.0 (subst (λ t. IsAmong t (txns_of xs)) (same ∙ ap (λ (a : SessionTxn). a.txn) (sym e)) (txn_among a xs later)))
same_member a b (x ∷ xs) once (inr m) (inr n) same = same_member a b xs once.1 m n same
