-- A doomed transaction: what is left of it, and what cannot come any more.
use Rattle.std.proofs.Common.{◌≡◌, ◌<◌, ⊎_elim, ℕ, List, Some, Result, refl, sym, ap, subst, ◌∙◌, arith}
use Rattle.shore_types.specs.Images.{Image}
use Rattle.shore_types.specs.declared.faults.Fault.{Fault}
use Rattle.shore_types.specs.declared.ids.Rid.{Rid}
use Rattle.shore_model.specs.declared.histories.Opening.{Opening}
use Rattle.shore_model.specs.declared.calls.Answer.{Answer}
use Rattle.shore_model.specs.declared.calls.Call.{Call}
use Rattle.shore_model.specs.declared.histories.Entry.{Entry}
use Rattle.laws_lives.proofs.Members.{among_with, among_without, same_member, txn_among}
use Rattle.laws_lives.proofs.Rollings.{some_not_none}
use Rattle.shore_model.specs.declared.rollbacks.Rollback.{Rollback}
use Rattle.shore_model.specs.declared.rollbacks.Rollback.TheVariants.{Whole, To}
use Rattle.laws_lives.specs.SessionSteps.{AnswerAbort, AnswerInDoubt, AnswerPrepare, AnswerResolve, AppendCommit, AppendPrepare, AppendResolve, AppendRollback, Ask, BeginTxn, Doom, EndRollback, GiveReply, MoveLocks, PutBack, RefuseCall, SessionEvent, StepsTo}
use Rattle.laws_lives.specs.Sessions.{SessionTxn, Sessions, txns_of, with_undo}
use Rattle.laws_lives.specs.Soundness.{SessionsAgree}
use Rattle.laws_lives.specs.UndoLists.{UndoList, undo_after, undo_rolled}
use Rattle.laws_lives.specs.Views.{IsAmong}

whole_not_to : (n : ℕ) → Some Whole ≡ Some (To n) → ⊥
whole_not_to n e = cc

module _ (s mid : Sessions) (a b : SessionTxn) (doom : StepsTo s (Doom a) mid) where
  -- it has the images that it had, and no savepoint
  pub doomed_undo : IsAmong b mid.active → b.txn ≡ a.txn → b.undo ≡ undo_rolled a.undo a.undo.images Whole
  doomed_undo among same =
      ⊎_elim (λ it. it.1) (λ other. absurd (other.0 same))
      (among_with a.txn (undo_rolled a.undo a.undo.images Whole) b s.active (subst (λ (s : Sessions). IsAmong b s.active) doom.1 among)).one

  doomed_rolls : IsAmong b mid.active → b.txn ≡ a.txn → b.undo.rolling ≡ Some Whole
  doomed_rolls among same = ap (λ (undo : UndoList). undo.rolling) (doomed_undo among same)

  pub doomed_left : IsAmong b mid.active → b.txn ≡ a.txn
      → (b.undo.images ≡ a.undo.images) × (b.undo.rolling ≡ Some Whole) × (mid.records ≡ s.records)
  doomed_left among same =
      (ap (λ (undo : UndoList). undo.images) (doomed_undo among same), doomed_rolls among same, ap (λ (s : Sessions). s.records) doom.1)

  pub commit_of_doomed : (new : Sessions) (ticket : ℕ) → b.txn ≡ a.txn → StepsTo mid (AppendCommit b ticket) new → ⊥
  commit_of_doomed new ticket same step = some_not_none Whole (sym (doomed_rolls step.0.0 same) ∙ step.1)

-- ---- of one that is rolled back as a whole

module _ (s new : Sessions) (a : SessionTxn) (whole : a.undo.rolling ≡ Some Whole) where
  pub reply_to_doomed : (c : Call) (reply : Result Answer Fault) → StepsTo s (GiveReply a c reply) new → ⊥
  reply_to_doomed c reply step = ⊎_elim (λ none. some_not_none Whole (sym whole ∙ none)) (λ back. whole_not_to back.0 (sym whole ∙ back.2)) step.3

  pub doomed_to_savepoint : (kept : List (Rid × Image)) (e : Rid × Image) (n : ℕ) → StepsTo s (PutBack a kept e (To n)) new → ⊥
  doomed_to_savepoint kept e n step = ⊎_elim (λ none. some_not_none Whole (sym whole ∙ none)) (λ to. whole_not_to n (sym whole ∙ to)) step.2.1

-- ---- it stays so

module _ {o : Opening} {es : List Entry} {s : Sessions} (k : SessionsAgree o es s) (below : (t : ℕ) → IsAmong t (txns_of s.active) → t < s.next_txn) (a : SessionTxn) (mem : IsAmong a s.active) (whole : a.undo.rolling ≡ Some Whole) (b : SessionTxn) (same : b.txn ≡ a.txn) where
  abbrev RollsWhole : Type 0
  RollsWhole = b.undo.rolling ≡ Some Whole

  it_is : (c : SessionTxn) → IsAmong c s.active → c.txn ≡ a.txn → c.undo.rolling ≡ Some Whole
  it_is c there is = subst (λ (c : SessionTxn). c.undo.rolling ≡ Some Whole) (sym (same_member c a s.active k.once there mem is)) whole

  as_before : IsAmong b s.active → RollsWhole
  as_before there = it_is b there same

  -- a transaction has this undo list then
  listed_anew : (c : SessionTxn) (undo : UndoList) → (c.txn ≡ a.txn → undo.rolling ≡ Some Whole) → IsAmong b (with_undo c.txn undo s.active) → RollsWhole
  listed_anew c undo own among =
      let one = among_with c.txn undo b s.active among in
      ⊎_elim
      (λ it. ap (λ (undo : UndoList). undo.rolling) it.1 ∙ own (sym it.0 ∙ same))
      (λ other. as_before (subst (λ y. IsAmong y s.active) (sym other.1) one.there))
      one.one

  put_back_whole : (new : Sessions) (c : SessionTxn) (kept : List (Rid × Image)) (e : Rid × Image) (r : Rollback) → StepsTo s (PutBack c kept e r) new
      → c.txn ≡ a.txn → Some r ≡ Some Whole
  put_back_whole new c kept e Whole step own = refl
  put_back_whole new c kept e (To n) step own = absurd (doomed_to_savepoint s new c (it_is c step.0.0 own) kept e n step)

  pub stays_doomed : (new : Sessions) (e : SessionEvent) → StepsTo s e new → IsAmong b new.active → RollsWhole
  stays_doomed new (MoveLocks held) step among = as_before (subst (λ (s : Sessions). IsAmong b s.active) step.3 among)
  stays_doomed new (BeginTxn session) step among =
      ⊎_elim
      (λ new_one. let less = below a.txn (txn_among a s.active mem) in let is : s.next_txn ≡ a.txn = ap (λ (b : SessionTxn). b.txn) new_one ∙ same in absurd (omega arith))
      as_before (subst (λ (s : Sessions). IsAmong b s.active) step.1 among)
  stays_doomed new (GiveReply c call reply) step among =
      listed_anew c (undo_after s.records c.undo call reply) (λ own. absurd (reply_to_doomed s new c (it_is c step.0.0 own) call reply step))
      (subst (λ (s : Sessions). IsAmong b s.active) step.4 among)
  stays_doomed new (AppendCommit c ticket) step among = as_before (among_without c.txn b s.active (subst (λ (s : Sessions). IsAmong b s.active) step.2 among)).0
  stays_doomed new (PutBack c kept e r) step among =
      listed_anew c (undo_rolled c.undo kept r) (put_back_whole new c kept e r step) (subst (λ (s : Sessions). IsAmong b s.active) step.4 among)
  stays_doomed new (Doom c) step among =
      listed_anew c (undo_rolled c.undo c.undo.images Whole) (λ own. refl) (subst (λ (s : Sessions). IsAmong b s.active) step.1 among)
  stays_doomed new (AnswerAbort c) step among = as_before (among_without c.txn b s.active (subst (λ (s : Sessions). IsAmong b s.active) step.1 among)).0
  stays_doomed new (Ask ticket durable) step among = as_before (subst (λ (s : Sessions). IsAmong b s.active) step among)
  stays_doomed new (RefuseCall session t c fault) step among = as_before (subst (λ (s : Sessions). IsAmong b s.active) step.2 among)
  stays_doomed new (AppendPrepare c global granules) step among = as_before (subst (λ (s : Sessions). IsAmong b s.active) step.4 among)
  stays_doomed new (AnswerPrepare session t global) step among = as_before (subst (λ (s : Sessions). IsAmong b s.active) step.2 among)
  stays_doomed new (AppendResolve c global) step among = as_before (among_without c.txn b s.active (subst (λ (s : Sessions). IsAmong b s.active) step.3 among)).0
  stays_doomed new (AppendRollback c global) step among =
      listed_anew c (undo_rolled c.undo c.undo.images Whole) (λ own. refl) (subst (λ (s : Sessions). IsAmong b s.active) step.2 among)
  stays_doomed new (EndRollback c) step among = as_before (among_without c.txn b s.active (subst (λ (s : Sessions). IsAmong b s.active) step.2 among)).0
  stays_doomed new (AnswerResolve session r) step among = as_before (subst (λ (s : Sessions). IsAmong b s.active) step.2 among)
  stays_doomed new (AnswerInDoubt session t pairs) step among = as_before (subst (λ (s : Sessions). IsAmong b s.active) step.2 among)
