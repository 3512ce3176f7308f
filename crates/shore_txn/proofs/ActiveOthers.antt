-- What holds of each transaction of a list, once one of them has become another or has left.
use Rattle.std.proofs.Common.{◌≡◌, ◌≢◌, inl, inr, ◌++◌, ◌∷◌, ℕ, List, map, sym, ap, subst, ◌∙◌}
use Rattle.laws_lives.specs.Sessions.{EachOnce, SessionTxn, txns_of}
use Rattle.laws_lives.specs.Views.{IsAmong}
use Rattle.shore_txn.specs.ActiveTxns.{OneBecomes, OneLeaves, session_txns}
use Rattle.shore_txn.specs.Txns.{as_session_txn, number_of}
use Rattle.shore_txn.specs.declared.txn.Txn.{Txn}
use Rattle.shore_txn.specs.declared.undo.UndoEntry.{UndoEntry}
use Rattle.shore_txn.proofs.OneOfMany.{among_map, among_middle, among_more, among_parts, map_join, map_parts, once_apart}

-- another transaction has another value, if each comes once
other_value : (f : SessionTxn → ℕ) (newer older : List Txn) (one t : Txn) → EachOnce (map f (session_txns (newer ++ one ∷ older))) → IsAmong t (newer ++ older) → f (as_session_txn t) ≢ f (as_session_txn one)
other_value f newer older one t once m same =
    let parts : map f (session_txns (newer ++ one ∷ older)) ≡ map f (session_txns newer) ++ f (as_session_txn one) ∷ map f (session_txns older) =
    ap (map f) (map_parts as_session_txn newer older one) ∙ map_parts f (session_txns newer) (session_txns older) (as_session_txn one) in
    let joined : map f (session_txns (newer ++ older)) ≡ map f (session_txns newer) ++ map f (session_txns older) = ap (map f) (map_join as_session_txn newer older) ∙ map_join f (session_txns newer) (session_txns older) in
    let there : IsAmong (f (as_session_txn t)) (map f (session_txns (newer ++ older))) = among_map f (as_session_txn t) (session_txns (newer ++ older)) (among_map as_session_txn t (newer ++ older) m) in
    once_apart (map f (session_txns newer)) (map f (session_txns older)) (f (as_session_txn one)) (subst EachOnce parts once)
    (subst (λ n. IsAmong n (map f (session_txns newer) ++ map f (session_txns older))) same (subst (IsAmong (f (as_session_txn t))) joined there))

module _ (newer older : List Txn) (one : Txn) (once : EachOnce (txns_of (session_txns (newer ++ one ∷ older)))) (t : Txn) (m : IsAmong t (newer ++ older)) where
  pub other_number : number_of t ≢ number_of one
  other_number = other_value (λ (a : SessionTxn). a.txn) newer older one t once m

module _ (P Q : Txn → Type 0) {number : ℕ} {old new : List Txn} (once : EachOnce (txns_of (session_txns old))) (each : (t : Txn) → IsAmong t old → P t) where
  -- the others have other numbers
  pub each_becomes : {Becomes : Txn → Txn → Type 0} (one : OneBecomes number Becomes old new) → ((t : Txn) → number_of t ≢ number → P t → Q t) → (P one.before → Q one.after) → (t : Txn) → IsAmong t new → Q t
  each_becomes one others itself t m = elim (among_parts t one.after one.newer one.older (subst (IsAmong t) one.is m)) [
    | inl is ↦ subst Q is (itself (each one.before (subst (IsAmong one.before) (sym one.was) (among_middle one.newer one.older one.before))))
    | inr other ↦ others t (λ same. other_number one.newer one.older one.before (subst (λ ts. EachOnce (txns_of (session_txns ts))) one.was once) t other (same ∙ sym one.txn))
        (each t (subst (IsAmong t) (sym one.was) (among_more t one.before one.newer one.older other)))
  ]

  pub each_left : {changes : List UndoEntry} (one : OneLeaves number changes old new) → ((t : Txn) → number_of t ≢ number → P t → Q t) → (t : Txn) → IsAmong t new → Q t
  each_left one others t m =
      let other = subst (IsAmong t) one.is m in
      others t (λ same. other_number one.newer one.older one.one (subst (λ ts. EachOnce (txns_of (session_txns ts))) one.was once) t other (same ∙ sym one.txn))
      (each t (subst (IsAmong t) (sym one.was) (among_more t one.one one.newer one.older other)))
