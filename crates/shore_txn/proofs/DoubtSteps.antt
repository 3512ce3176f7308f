-- Those in doubt of a list of transactions of which one becomes another, or leaves.
use Rattle.std.proofs.Common.{◌≡◌, ◌≢◌, inl, inr, ℕ, List, [], ◌∷◌, ◌++◌, Bool, true, false, cond, None, Some, refl, sym, ap, subst, ◌∙◌}
use Rattle.std.specs.Prelude.{◌==◌, if◌then◌else◌, not, unwrap_or}
use Rattle.std.specs.List.{cons_option}
use Rattle.std.specs.List.Sorted.{IsPermutation}
use Rattle.std.proofs.lemmas.Bool.{eqb-true}
use Rattle.std.proofs.lemmas.Bool.Decides.{Decides-eqb}
use Rattle.std.proofs.lemmas.List.{map-append}
use Rattle.std.proofs.lemmas.List.Elements.{filter-append, filter_map-append}
use Rattle.std.proofs.lemmas.List.Sorted.{IsPermutation-middle, IsPermutation-sym}
use Rattle.laws_lives.specs.Sessions.{EachOnce, PreparedTxn, txns_of, with_answered, without_prepared}
use Rattle.laws_lives.specs.Views.{IsAmong}
use Rattle.shore_txn.specs.ActiveTxns.{OneBecomes, OneLeaves, session_txns}
use Rattle.shore_txn.specs.TxnStates.{is_in_doubt}
use Rattle.shore_txn.specs.Txns.{IsAfterAnswer, IsAfterPrepare, IsFoundPrepared, KeepsName, as_prepared, global_of, in_doubt_as, number_of, prepared_of, state_of}
use Rattle.shore_txn.specs.declared.txn.Txn.{Txn}
use Rattle.shore_txn.specs.declared.txn_state.TxnState.{TxnState}
use Rattle.shore_txn.specs.declared.txn_state.TxnState.TheVariants.{Active, Doomed, Prepared, Preparing, RollingBack}
use Rattle.shore_txn.specs.declared.undo.UndoEntry.{UndoEntry}
use Rattle.shore_txn.proofs.ActiveOthers.{other_number}

doubts_parts : (newer older : List Txn) (t : Txn) → prepared_of (newer ++ t ∷ older) ≡ prepared_of newer ++ cons_option (as_prepared t) (prepared_of older)
doubts_parts newer older t = filter_map-append as_prepared newer (t ∷ older)

abbrev doubt : ℕ → List ℕ → Bool → PreparedTxn
doubt number name answered = record { txn = number; global = name; answered = answered }

-- ---- those of other numbers

apart : (a b : ℕ) → a ≢ b → (a == b) ≡ false
apart a b other = elim (a == b) as (λ c. (a == b) ≡ c → c ≡ false) [ true ↦ λ e. absurd (other (eqb-true a b e)) | false ↦ λ e. refl ] refl

abbrev kept_by : ℕ → PreparedTxn → Bool
kept_by number p = not (number == p.txn)

abbrev answered_by : ℕ → PreparedTxn → PreparedTxn
answered_by number p = if p.txn == number then record { txn = p.txn; global = p.global; answered = true } else p

one_without : (number own : ℕ) (name : List ℕ) (state : TxnState) (rest : List PreparedTxn) → own ≢ number → without_prepared number rest ≡ rest → without_prepared number (cons_option (in_doubt_as own name state) rest) ≡ cons_option (in_doubt_as own name state) rest
one_without number own name Active rest other same = same
one_without number own name Doomed rest other same = same
one_without number own name (RollingBack rollback) rest other same = same
one_without number own name Preparing rest other same =
    ap (λ b. cond (not b) (doubt own name false ∷ without_prepared number rest) (without_prepared number rest)) (apart number own (λ e. other (sym e))) ∙ ap (λ ps. doubt own name false ∷ ps) same
one_without number own name Prepared rest other same =
    ap (λ b. cond (not b) (doubt own name true ∷ without_prepared number rest) (without_prepared number rest)) (apart number own (λ e. other (sym e))) ∙ ap (λ ps. doubt own name true ∷ ps) same

none_without : (number : ℕ) (ts : List Txn) → ((t : Txn) → IsAmong t ts → number_of t ≢ number) → without_prepared number (prepared_of ts) ≡ prepared_of ts
none_without number [] others = refl
none_without number (t ∷ ts) others =
    one_without number (number_of t) (unwrap_or (global_of t) []) (state_of t) (prepared_of ts) (others t (inl refl)) (none_without number ts (λ x m. others x (inr m)))

one_answered : (number own : ℕ) (name : List ℕ) (state : TxnState) (rest : List PreparedTxn) → own ≢ number → with_answered number rest ≡ rest → with_answered number (cons_option (in_doubt_as own name state) rest) ≡ cons_option (in_doubt_as own name state) rest
one_answered number own name Active rest other same = same
one_answered number own name Doomed rest other same = same
one_answered number own name (RollingBack rollback) rest other same = same
one_answered number own name Preparing rest other same =
    ap (λ b. (cond b (doubt own name true) (doubt own name false)) ∷ with_answered number rest) (apart own number other) ∙ ap (λ ps. doubt own name false ∷ ps) same
one_answered number own name Prepared rest other same =
    ap (λ b. (cond b (doubt own name true) (doubt own name true)) ∷ with_answered number rest) (apart own number other) ∙ ap (λ ps. doubt own name true ∷ ps) same

none_answered : (number : ℕ) (ts : List Txn) → ((t : Txn) → IsAmong t ts → number_of t ≢ number) → with_answered number (prepared_of ts) ≡ prepared_of ts
none_answered number [] others = refl
none_answered number (t ∷ ts) others =
    one_answered number (number_of t) (unwrap_or (global_of t) []) (state_of t) (prepared_of ts) (others t (inl refl)) (none_answered number ts (λ x m. others x (inr m)))

no_doubt : (number : ℕ) (name : List ℕ) (state : TxnState) → is_in_doubt state ≡ false → in_doubt_as number name state ≡ None
no_doubt number name Active free = refl
no_doubt number name Doomed free = refl
no_doubt number name (RollingBack rollback) free = refl
no_doubt number name Preparing free = cc
no_doubt number name Prepared free = cc

-- the one that is in doubt goes
own_without : (own : ℕ) (name : List ℕ) (state : TxnState) (rest : List PreparedTxn) → without_prepared own rest ≡ rest → without_prepared own (cons_option (in_doubt_as own name state) rest) ≡ rest
own_without own name Active rest same = same
own_without own name Doomed rest same = same
own_without own name (RollingBack rollback) rest same = same
own_without own name Preparing rest same = ap (λ b. cond (not b) (doubt own name false ∷ without_prepared own rest) (without_prepared own rest)) ((Decides-eqb own own).1 refl) ∙ same
own_without own name Prepared rest same = ap (λ b. cond (not b) (doubt own name true ∷ without_prepared own rest) (without_prepared own rest)) ((Decides-eqb own own).1 refl) ∙ same

among_newer : (t one : Txn) (newer older : List Txn) → IsAmong t newer → IsAmong t (newer ++ older)
among_newer t one [] older m = absurd m
among_newer t one (x ∷ newer) older (inl is) = inl is
among_newer t one (x ∷ newer) older (inr m) = inr (among_newer t one newer older m)

among_older : (t : Txn) (newer older : List Txn) → IsAmong t older → IsAmong t (newer ++ older)
among_older t [] older m = m
among_older t (x ∷ newer) older m = inr (among_older t newer older m)

module _ (newer older : List Txn) (one : Txn) (once : EachOnce (txns_of (session_txns (newer ++ one ∷ older)))) where
  in_newer : (t : Txn) → IsAmong t newer → number_of t ≢ number_of one
  in_newer t m = other_number newer older one once t (among_newer t one newer older m)

  in_older : (t : Txn) → IsAmong t older → number_of t ≢ number_of one
  in_older t m = other_number newer older one once t (among_older t newer older m)

  without_it : without_prepared (number_of one) (prepared_of (newer ++ one ∷ older)) ≡ prepared_of newer ++ prepared_of older
  without_it =
      ap (without_prepared (number_of one)) (doubts_parts newer older one)
      ∙ filter-append (kept_by (number_of one)) (prepared_of newer) (cons_option (as_prepared one) (prepared_of older))
      ∙ ap (λ ps. ps ++ without_prepared (number_of one) (cons_option (as_prepared one) (prepared_of older))) (none_without (number_of one) newer in_newer)
      ∙ ap (λ ps. prepared_of newer ++ ps) (own_without (number_of one) (unwrap_or (global_of one) []) (state_of one) (prepared_of older) (none_without (number_of one) older in_older))

-- ---- as they change

module _ {number : ℕ} {Becomes : Txn → Txn → Type 0} {old new : List Txn} (one : OneBecomes number Becomes old new) where
  doubts_were : prepared_of old ≡ prepared_of one.newer ++ cons_option (as_prepared one.before) (prepared_of one.older)
  doubts_were = ap prepared_of one.was ∙ doubts_parts one.newer one.older one.before

  doubts_are : prepared_of new ≡ prepared_of one.newer ++ cons_option (as_prepared one.after) (prepared_of one.older)
  doubts_are = ap prepared_of one.is ∙ doubts_parts one.newer one.older one.after

  pub doubts_same : as_prepared one.after ≡ as_prepared one.before → prepared_of new ≡ prepared_of old
  doubts_same same = doubts_are ∙ ap (λ o. prepared_of one.newer ++ cons_option o (prepared_of one.older)) same ∙ sym doubts_were

  pub doubts_more : (p : PreparedTxn) → as_prepared one.before ≡ None → as_prepared one.after ≡ Some p → IsPermutation (p ∷ prepared_of old) (prepared_of new)
  doubts_more p none some =
      subst (λ ps. IsPermutation (p ∷ ps) (prepared_of new)) (sym (doubts_were ∙ ap (λ o. prepared_of one.newer ++ cons_option o (prepared_of one.older)) none))
      (subst (IsPermutation (p ∷ (prepared_of one.newer ++ prepared_of one.older))) (sym (doubts_are ∙ ap (λ o. prepared_of one.newer ++ cons_option o (prepared_of one.older)) some))
      (IsPermutation-sym (prepared_of one.newer ++ p ∷ prepared_of one.older) (p ∷ (prepared_of one.newer ++ prepared_of one.older)) (IsPermutation-middle (prepared_of one.newer) p (prepared_of one.older))))

  pub doubts_less : EachOnce (txns_of (session_txns old)) → as_prepared one.after ≡ None → prepared_of new ≡ without_prepared number (prepared_of old)
  doubts_less once none =
      doubts_are ∙ ap (λ o. prepared_of one.newer ++ cons_option o (prepared_of one.older)) none
      ∙ sym (ap (λ n. without_prepared n (prepared_of old)) (sym one.txn) ∙ ap (λ ts. without_prepared (number_of one.before) (prepared_of ts)) one.was
      ∙ without_it one.newer one.older one.before (subst (λ ts. EachOnce (txns_of (session_txns ts))) one.was once))

pub doubts_left : {number : ℕ} {changes : List UndoEntry} {old new : List Txn} (one : OneLeaves number changes old new) → EachOnce (txns_of (session_txns old)) → prepared_of new ≡ without_prepared number (prepared_of old)
doubts_left {old = old} one once =
    ap prepared_of one.is ∙ filter_map-append as_prepared one.newer one.older
    ∙ sym (ap (λ n. without_prepared n (prepared_of old)) (sym one.txn) ∙ ap (λ ts. without_prepared (number_of one.one) (prepared_of ts)) one.was
    ∙ without_it one.newer one.older one.one (subst (λ ts. EachOnce (txns_of (session_txns ts))) one.was once))

-- one that is not in doubt leaves
pub doubts_stay : {number : ℕ} {changes : List UndoEntry} {old new : List Txn} (one : OneLeaves number changes old new) → is_in_doubt (state_of one.one) ≡ false → prepared_of new ≡ prepared_of old
doubts_stay one free =
    ap prepared_of one.is ∙ filter_map-append as_prepared one.newer one.older
    ∙ ap (λ o. prepared_of one.newer ++ cons_option o (prepared_of one.older)) (sym (no_doubt (number_of one.one) (unwrap_or (global_of one.one) []) (state_of one.one) free))
    ∙ sym (ap prepared_of one.was ∙ doubts_parts one.newer one.older one.one)

-- ---- one by one

module _ (t u : Txn) where
  pub doubt_kept : number_of u ≡ number_of t → KeepsName t u → state_of u ≡ state_of t → as_prepared u ≡ as_prepared t
  doubt_kept number name state =
      ap (λ n. in_doubt_as n (unwrap_or (global_of u) []) (state_of u)) number ∙ ap (λ g. in_doubt_as (number_of t) (unwrap_or g []) (state_of u)) name.global ∙ ap (in_doubt_as (number_of t) (unwrap_or (global_of t) [])) state

  pub doubt_none : is_in_doubt (state_of t) ≡ false → as_prepared t ≡ None
  doubt_none free = no_doubt (number_of t) (unwrap_or (global_of t) []) (state_of t) free

  pub doubt_free : is_in_doubt (state_of t) ≡ false → is_in_doubt (state_of u) ≡ false → as_prepared u ≡ as_prepared t
  doubt_free was is = no_doubt (number_of u) (unwrap_or (global_of u) []) (state_of u) is ∙ sym (doubt_none was)

  pub doubt_prepared : (name : List ℕ) (lsn : ℕ) → IsAfterPrepare name lsn t u → as_prepared u ≡ Some (doubt (number_of t) name false)
  doubt_prepared name lsn after = ap (in_doubt_as (number_of u) (unwrap_or (global_of u) [])) after.state ∙ ap (λ g. Some (doubt (number_of u) (unwrap_or g []) false)) after.global ∙ ap (λ n. Some (doubt n name false)) after.txn

  pub doubt_found : (name : List ℕ) (lsn : ℕ) → IsFoundPrepared name lsn t u → as_prepared u ≡ Some (doubt (number_of t) name true)
  doubt_found name lsn after = ap (in_doubt_as (number_of u) (unwrap_or (global_of u) [])) after.state ∙ ap (λ g. Some (doubt (number_of u) (unwrap_or g []) true)) after.global ∙ ap (λ n. Some (doubt n name true)) after.txn

-- ---- its prepare is answered

answered_first : (n : ℕ) (name : List ℕ) (back : List PreparedTxn) → with_answered n back ≡ back → with_answered n (doubt n name false ∷ back) ≡ doubt n name true ∷ back
answered_first n name back same =
    ap (λ b. (cond b (doubt n name true) (doubt n name false)) ∷ with_answered n back) ((Decides-eqb n n).1 refl) ∙ ap (λ ps. doubt n name true ∷ ps) same

answered_parts : (n : ℕ) (name : List ℕ) (front back : List PreparedTxn) → with_answered n front ≡ front → with_answered n back ≡ back
    → with_answered n (front ++ doubt n name false ∷ back) ≡ front ++ doubt n name true ∷ back
answered_parts n name front back before behind =
    map-append (answered_by n) front (doubt n name false ∷ back)
    ∙ ap (λ ps. ps ++ with_answered n (doubt n name false ∷ back)) before
    ∙ ap (λ ps. front ++ ps) (answered_first n name back behind)

abbrev its_name : Txn → List ℕ
its_name t = unwrap_or (global_of t) []

doubt_waiting : (t : Txn) → state_of t ≡ Preparing → as_prepared t ≡ Some (doubt (number_of t) (its_name t) false)
doubt_waiting t preparing = ap (in_doubt_as (number_of t) (its_name t)) preparing

doubt_answered : (t u : Txn) → IsAfterAnswer t u → as_prepared u ≡ Some (doubt (number_of t) (its_name t) true)
doubt_answered t u after =
    ap (in_doubt_as (number_of u) (its_name u)) after.state ∙ ap (λ g. Some (doubt (number_of u) (unwrap_or g []) true)) after.name.global ∙ ap (λ n. Some (doubt n (its_name t) true)) after.txn

module _ {number : ℕ} {old new : List Txn} (one : OneBecomes number IsAfterAnswer old new) (once : EachOnce (txns_of (session_txns old))) (preparing : state_of one.before ≡ Preparing) where
  had : prepared_of old ≡ prepared_of one.newer ++ doubt (number_of one.before) (its_name one.before) false ∷ prepared_of one.older
  had = doubts_were one ∙ ap (λ o. prepared_of one.newer ++ cons_option o (prepared_of one.older)) (doubt_waiting one.before preparing)

  has : prepared_of new ≡ prepared_of one.newer ++ doubt (number_of one.before) (its_name one.before) true ∷ prepared_of one.older
  has = doubts_are one ∙ ap (λ o. prepared_of one.newer ++ cons_option o (prepared_of one.older)) (doubt_answered one.before one.after one.becomes)

  once_there : EachOnce (txns_of (session_txns (one.newer ++ one.before ∷ one.older)))
  once_there = subst (λ ts. EachOnce (txns_of (session_txns ts))) one.was once

  by_its_number : prepared_of new ≡ with_answered (number_of one.before) (prepared_of old)
  by_its_number =
      has ∙ sym (ap (with_answered (number_of one.before)) had
      ∙ answered_parts (number_of one.before) (its_name one.before) (prepared_of one.newer) (prepared_of one.older)
      (none_answered (number_of one.before) one.newer (in_newer one.newer one.older one.before once_there))
      (none_answered (number_of one.before) one.older (in_older one.newer one.older one.before once_there)))

  pub doubts_answered : prepared_of new ≡ with_answered number (prepared_of old)
  doubts_answered = subst (λ n. prepared_of new ≡ with_answered n (prepared_of old)) one.txn by_its_number
