-- What one transaction may read, no other changes under its hands.
use Rattle.std.proofs.Common.{Ok, Err, ◌≡◌, ◌≢◌, ℕ, List, None, Result, sym, ap, subst, ◌∙◌}
use Rattle.std.specs.FinMap.{get}
use Rattle.std.specs.Prelude.{IsSome}
use Rattle.shore_types.specs.Images.{Image}
use Rattle.shore_types.specs.declared.faults.Fault.{Fault}
use Rattle.shore_types.specs.declared.ids.Rid.{Rid}
use Rattle.shore_model.specs.declared.histories.Opening.{Opening}
use Rattle.shore_model.specs.declared.calls.Answer.{Answer}
use Rattle.shore_model.specs.declared.calls.Call.{Call}
use Rattle.shore_model.specs.declared.histories.Entry.{Entry}
use Rattle.shore_model.specs.Locks.{MayRead}
use Rattle.laws_lives.proofs.EndSteps.{rollback_elsewhere}
use Rattle.laws_lives.proofs.Members.{txn_among}
use Rattle.laws_lives.proofs.PutBacks.{put_back_elsewhere}
use Rattle.laws_lives.proofs.ReplySteps.{others_see, reply_leaves_all}
use Rattle.laws_lives.proofs.Views.{writer_excludes}
use Rattle.shore_model.specs.declared.rollbacks.Rollback.{Rollback}
use Rattle.laws_lives.specs.SessionSteps.{AnswerAbort, EndRollback, GiveReply, PutBack, StepsTo, exchange}
use Rattle.laws_lives.specs.Sessions.{SessionTxn, Sessions, txns_of}
use Rattle.laws_lives.specs.Soundness.{IsSoundAfter, written_by}
use Rattle.laws_lives.specs.UndoLists.{in_place_after}
use Rattle.laws_lives.specs.Views.{IsAmong}

module _ {o : Opening} {es : List Entry} {s : Sessions} (k : IsSoundAfter o es s) where
  -- what stands for one that is under way: what it has written, unless a rollback of it is under way
  pub standing_is_hidden : (t u : ℕ) (id : Rid) → t ≢ u → IsAmong u (txns_of s.active) → IsSome (get (k.standing u) id) → MayRead s.held t id → ⊥
  standing_is_hidden t u id other among stands reads = writer_excludes k.stand u t id (λ same. other (sym same)) ((k.stand.each u among).locked id stands) reads

  pub written_is_hidden : (t : ℕ) (a : SessionTxn) (id : Rid) → t ≢ a.txn → IsAmong a s.active → a.undo.rolling ≡ None
      → IsSome (get (written_by o es a.txn) id) → MayRead s.held t id → ⊥
  written_is_hidden t a id other mem none wrote reads =
      standing_is_hidden t a.txn id other (txn_among a s.active mem) (subst (λ W. IsSome (get W id)) (sym ((k.stands_for a mem).written none)) wrote) reads

  pub reply_is_elsewhere : (new : Sessions) (a : SessionTxn) (c : Call) (reply : Result Answer Fault) (t : ℕ) (id : Rid)
      → StepsTo s (GiveReply a c reply) new → t ≢ a.txn → MayRead s.held t id → get new.records id ≡ get s.records id
  reply_is_elsewhere new a c (Ok answer) t id moves other reads =
      let mem = moves.0.0 in
      let reply : Result Answer Fault = Ok answer in
      ap (λ (s : Sessions). get s.records id) moves.4
      ∙ others_see k a mem moves.0.2 (exchange c reply) (in_place_after s.records a.undo c reply) (reply_leaves_all k a mem moves.0.2 c reply moves.2 moves.3).changes t other id reads
  reply_is_elsewhere new a c (Err fault) t id moves other reads = ap (λ (s : Sessions). get s.records id) moves.4

  pub put_back_is_elsewhere : (new : Sessions) (a : SessionTxn) (kept : List (Rid × Image)) (e : Rid × Image) (r : Rollback) (t : ℕ) (id : Rid)
      → StepsTo s (PutBack a kept e r) new → t ≢ a.txn → MayRead s.held t id → get new.records id ≡ get s.records id
  put_back_is_elsewhere new a kept e r t id moves other reads =
      ap (λ (s : Sessions). get s.records id) moves.4 ∙ put_back_elsewhere k a moves.0.0 kept e moves.1 t other id reads

  pub abort_is_elsewhere : (new : Sessions) (a : SessionTxn) (t : ℕ) (id : Rid)
      → StepsTo s (AnswerAbort a) new → t ≢ a.txn → MayRead s.held t id → get new.records id ≡ get s.records id
  abort_is_elsewhere new a t id moves other reads =
      ap (λ (s : Sessions). get s.records id) moves.1 ∙ rollback_elsewhere k a moves.0.0 t other id reads

  pub end_is_elsewhere : (new : Sessions) (a : SessionTxn) (t : ℕ) (id : Rid)
      → StepsTo s (EndRollback a) new → t ≢ a.txn → MayRead s.held t id → get new.records id ≡ get s.records id
  end_is_elsewhere new a t id moves other reads =
      ap (λ (s : Sessions). get s.records id) moves.2 ∙ rollback_elsewhere k a moves.0.0 t other id reads
