-- Whose the transactions of a table are, and their names, once one of them has gone on.
use Rattle.std.proofs.Common.{◌≡◌, ◌==◌, [], ℕ, List, false, is_some, unwrap_or, sym, ap, ◌∙◌}
use Rattle.std.specs.Prelude.{◌||◌, not}
use Rattle.std.specs.List.{AllByRecursion, filter_map}
use Rattle.shore_model.specs.declared.sessions.SessionState.{SessionState}
use Rattle.shore_model.specs.Histories.{free}
use Rattle.laws_lives.specs.Sessions.{SessionTxn, Sessions, in_txn}
use Rattle.laws_lives.specs.Views.{IsAmong}
use Rattle.shore_txn.specs.ActiveTxns.{OneBecomes}
use Rattle.shore_txn.specs.Transactions.{undos_in}
use Rattle.shore_txn.specs.Transactions as table
use Rattle.shore_txn.specs.TxnStates.{is_in_doubt}
use Rattle.shore_txn.specs.Txns.{IsAfterChange, IsAfterSavepoint, IsAfterUndo, IsBackAt, IsDoomed, IsOf, SameTxn, decided_of, global_of, number_of, state_of}
use Rattle.shore_txn.proofs.Dooms.{free_doomed}
use Rattle.shore_txn.specs.declared.transactions.Transactions.{Transactions}
use Rattle.shore_txn.specs.declared.txn.Txn.{Txn}
use Rattle.shore_txn.specs.declared.undo.UndoEntry.{UndoEntry}
use Rattle.shore_model.specs.declared.rollbacks.Rollback.{Rollback}
use Rattle.shore_txn.proofs.OneOfMany.{all_among}
use Rattle.shore_sessions.specs.Seated.{IsNamed, IsSeated, as_rolled, is_rolled, rolled_as, seat_as}
use Rattle.shore_sessions.proofs.Permuted.{made_with}

-- ---- one is as it was to its session, and by its name

pub record StaysSeated (t u : Txn) : Type 0 where
  pub txn : number_of u ≡ number_of t
  pub session : u.session ≡ t.session
  pub seated : u.is_seated ≡ t.is_seated
  pub doubt : is_in_doubt (state_of u) ≡ is_in_doubt (state_of t)
  pub global : global_of u ≡ global_of t
  pub decided : decided_of u ≡ decided_of t

pub same_seated : (t u : Txn) → SameTxn t u → StaysSeated t u
same_seated t u same = record { txn = same.txn; session = same.session; seated = same.name.seated; doubt = ap is_in_doubt same.state; global = same.name.global; decided = same.name.decided }

pub change_seated : (entry : UndoEntry) (t u : Txn) → IsAfterChange t entry u → StaysSeated t u
change_seated entry t u after = record { txn = after.txn; session = after.session; seated = after.name.seated; doubt = ap is_in_doubt after.state; global = after.name.global; decided = after.name.decided }

pub savepoint_seated : (t u : Txn) → IsAfterSavepoint t u → StaysSeated t u
savepoint_seated t u after = record { txn = after.txn; session = after.session; seated = after.name.seated; doubt = ap is_in_doubt after.state; global = after.name.global; decided = after.name.decided }

-- .. which was not in doubt
pub undo_seated : (lsn : ℕ) (rollback : Rollback) (undone : UndoEntry) (t u : Txn) → is_in_doubt (state_of t) ≡ false → IsAfterUndo lsn rollback undone t u → StaysSeated t u
undo_seated lsn rollback undone t u free after = record { txn = after.txn; session = after.session; seated = after.name.seated; doubt = ap is_in_doubt after.state ∙ sym free; global = after.name.global; decided = after.name.decided }

pub back_seated : (index : ℕ) (t u : Txn) → is_in_doubt (state_of t) ≡ false → IsBackAt index t u → StaysSeated t u
back_seated index t u free after = record { txn = after.txn; session = after.session; seated = after.name.seated; doubt = ap is_in_doubt after.state ∙ sym free; global = after.name.global; decided = after.name.decided }

pub doomed_seated : (t u : Txn) → is_in_doubt (state_of t) ≡ false → IsDoomed t u → StaysSeated t u
doomed_seated t u free after = record { txn = after.txn; session = after.session; seated = after.name.seated; doubt = ap is_in_doubt after.state ∙ free_doomed (state_of t) ∙ sym free; global = after.name.global; decided = after.name.decided }

seat_still : (t u : Txn) → StaysSeated t u → seat_as t ≡ seat_as u
seat_still t u same =
    ap (λ n. record { txn = n; prepared = is_in_doubt (state_of t) }) (sym same.txn)
    ∙ ap (λ b. record { txn = number_of u; prepared = b }) (sym same.doubt)

pub seated_still : (s : Sessions) (t u : Txn) → StaysSeated t u → IsSeated s t → IsSeated s u
seated_still s t u same is = record {
  own = λ seated. ap s.seats same.session ∙ is.own (sym same.seated ∙ seated) ∙ seat_still t u same;
  alone = λ n at. let its = is.alone n (at ∙ same.txn) in (same.seated ∙ its.0, same.session ∙ its.1);
}

pub named_still : (t u : Txn) → StaysSeated t u → IsNamed t → IsNamed u
named_still t u same is = record {
  named =
      ap is_some same.global ∙ is.named ∙ ap (λ b. b || is_rolled t) (sym same.doubt)
      ∙ ap (λ n. is_in_doubt (state_of u) || not (n == 0)) (sym same.decided);
  left = λ rolled. let its = is.left (ap (λ n. not (n == 0)) (sym same.decided) ∙ rolled) in (same.seated ∙ its.0, same.doubt ∙ its.1);
}

rolled_still : (t u : Txn) → StaysSeated t u → as_rolled u ≡ as_rolled t
rolled_still t u same =
    ap (λ n. rolled_as n (unwrap_or (global_of u) []) (decided_of u)) same.txn
    ∙ ap (λ g. rolled_as (number_of t) (unwrap_or g []) (decided_of u)) same.global
    ∙ ap (rolled_as (number_of t) (unwrap_or (global_of t) [])) same.decided

-- so those that a resolve has decided are the same
pub rolled_kept : {number : ℕ} {old new : List Txn} → OneBecomes number StaysSeated old new → filter_map as_rolled new ≡ filter_map as_rolled old
rolled_kept one =
    ap (filter_map as_rolled) one.is
    ∙ made_with as_rolled one.newer one.older one.after one.before (rolled_still one.before one.after one.becomes)
    ∙ ap (filter_map as_rolled) (sym one.was)

-- the sessions are in what they were in
pub seats_same : (s t : Sessions) → ((n : ℕ) → t.seats n ≡ s.seats n) → (u : Txn) → IsSeated s u → IsSeated t u
seats_same s t same u is = record {
  own = λ seated. same u.session ∙ is.own seated;
  alone = λ n at. is.alone n (ap (λ (p : SessionState). p.txn) (sym (same n)) ∙ at);
}

-- ---- a table and the sessions

module _ (txns : Transactions) (s : Sessions) (seats : AllByRecursion (IsSeated s) (table.txns_in txns)) where
  pub its_seats : (t : Txn) → IsAmong t (table.txns_in txns) → IsSeated s t
  its_seats t m = all_among (IsSeated s) (table.txns_in txns) t seats m

  -- whose session is in it by the sessions has that session in the table, and is not in doubt
  pub seat_told : (a : SessionTxn) → IsAmong a (undos_in txns) → s.seats a.session ≡ in_txn a.txn → (t : Txn) → IsAmong t (table.txns_in txns) → number_of t ≡ a.txn
      → IsOf a.session t × (is_in_doubt (state_of t) ≡ false)
  seat_told a m in_it t n number =
      let of = (its_seats t n).alone a.session (ap (λ (p : SessionState). p.txn) in_it ∙ sym number) in (
        of,
        ap (λ (p : SessionState). p.prepared) (sym ((its_seats t n).own of.0) ∙ ap s.seats of.1 ∙ in_it),
      )

  -- .. so it is by its table's, if no rollback of it is decided and it is not in doubt
  pub seat_of : (t : Txn) → IsAmong t (table.txns_in txns) → (n : ℕ) → IsOf n t → s.seats n ≡ seat_as t
  seat_of t m n of = ap s.seats (sym of.1) ∙ (its_seats t m).own of.0

  pub sits_in : (t : Txn) → IsAmong t (table.txns_in txns) → (n : ℕ) → IsOf n t → is_in_doubt (state_of t) ≡ false → s.seats n ≡ in_txn (number_of t)
  sits_in t m n of free = seat_of t m n of ∙ ap (λ b. record { txn = number_of t; prepared = b }) free
