-- The stages of a resolve as events: the decision, the End of the rollback, and the answer.
use Rattle.std.proofs.Common.{◌≡◌, inl, inr, ◌+◌, ℕ, List, [], None, refl, sym, ap, subst, ◌∙◌, arith, length}
use Rattle.shore_types.specs.declared.layout.Geometry.{Geometry}
use Rattle.shore_types.specs.declared.ids.Rid.{Rid}
use Rattle.shore_types.specs.Images.{Image}
use Rattle.shore_model.specs.declared.calls.Outcome.TheVariants as outcome
use Rattle.shore_model.specs.declared.log_records.Payload.TheVariants as payload
use Rattle.shore_model.specs.declared.rollbacks.Rollback.TheVariants.{Whole}
use Rattle.laws_room.specs.LogRooms.{ended_room}
use Rattle.laws_room.specs.LogRooms.{owed}
use Rattle.shore_types.specs.declared.layout.TheConstants.{ENDING_COST}
use Rattle.laws_lives.proofs.Lists.{length-push}
use Rattle.laws_lives.proofs.Members.{txn_among, txns_with}
use Rattle.laws_lives.specs.Logged.{log_after}
use Rattle.laws_lives.specs.SessionSteps.{AnswerResolve, AppendResolve, AppendRollback, EndRollback, entries_by}
use Rattle.laws_lives.specs.Sessions.{EachOnce, ResolvedTxn, SessionTxn, in_doubt_of, resolve_appended, resolved_of, rollback_ended, seated}
use Rattle.laws_lives.specs.UndoLists.{UndoList, undo_rolled}
use Rattle.laws_lives.specs.Views.{IsAmong}
use Rattle.laws_calls.proofs.Links.{Goes, ended_with, ended_without, same_room, shorter_without}
use Rattle.laws_calls.proofs.ResolveLists.{ended_answered, ended_more, ended_once, ended_still}
use Rattle.laws_calls.proofs.ResolveStates.{length_txns}
use Rattle.laws_calls.proofs.Rooms.{cost_pushed}
use Rattle.laws_calls.proofs.Unwinding.{with_list}
use Rattle.laws_calls.specs.CallSteps.{HasEnded}
use Rattle.laws_calls.specs.Resolves.{IsResolvable, resolve_told, rollback_decided}
use Rattle.laws_calls.specs.States.{State, log_room}

-- the decision to commit, before the locks go
abbrev pub with_commit_resolved : State → SessionTxn → List ℕ → State
with_commit_resolved s a global = record s {
  sessions = seated s.sessions (entries_by s.sessions (AppendResolve a global)) (resolve_appended s.sessions a global);
  log = log_after s.log s.sessions (AppendResolve a global);
}

-- the End of the rollback, before the locks go
abbrev pub with_end : State → SessionTxn → State
with_end s a = record s { sessions = rollback_ended s.sessions a; log = log_after s.log s.sessions (EndRollback a) }

module _ (g : Geometry) (s : State) (a : SessionTxn) where
  module _ (global : List ℕ) (can : IsResolvable s a global) where
    pub resolve_goes : a.undo.rolling ≡ None → (IsAmong a.txn (resolved_of s.sessions) → ⊥) → Goes g s (AppendResolve a global) (with_commit_resolved s a global)
    resolve_goes whole fresh = record {
      moves = (can.0, whole, can.1, refl);
      log = refl;
      durable = refl;
      stream = refl;
      waiting = refl;
      failed = refl;
      fits = refl;
      admits = tt;
      room = record {
        room = ended_room (owed a + ENDING_COST) (log_room s);
        after = refl;
        kept = let cost = cost_pushed s.log _ in sym cost;
        stream = refl;
        last = sym (length-push s.log _);
      };
      writes = inr (inl (record { txn = a.txn; log = refl; counts = refl }));
      few = λ few.
          let shorter = shorter_without a s.sessions.active can.0 in
          let more = ended_more (with_commit_resolved s a global).sessions.active (record { txn = a.txn; global = global; outcome = outcome.Commit }) s.sessions.resolving in
          let same = ap length (ended_without a.txn s.sessions.active s.sessions.resolving fresh) in
          omega (arith, few, shorter, more, same);
      numbers = λ most. most;
    }

    pub rollback_goes : Goes g s (AppendRollback a global) (rollback_decided s a global)
    rollback_goes = record {
      moves = (can.0, can.1, refl);
      log = refl;
      durable = refl;
      stream = refl;
      waiting = refl;
      failed = refl;
      fits = refl;
      admits = tt;
      room = record {
        room = ended_room ENDING_COST (log_room s);
        after = refl;
        kept = let cost = cost_pushed s.log _ in sym cost;
        stream = refl;
        last = sym (length-push s.log _);
      };
      writes = inr (inr (inr (inr (inr (record { txn = a.txn; says = payload.RollbackDecided; decides = inr refl; log = refl; counts = refl })))));
      few = λ few.
          let undo : UndoList = undo_rolled a.undo a.undo.images Whole in
          let back = rollback_decided s a global in
          let long = ap length (txns_with a.txn undo s.sessions.active) in
          let first = length_txns back.sessions.active in
          let second = length_txns s.sessions.active in
          let ended = ap length (ended_still back.sessions.active (record { txn = a.txn; global = global; outcome = outcome.Abort }) s.sessions.resolving
          (subst (IsAmong a.txn) (sym (txns_with a.txn undo s.sessions.active)) (txn_among a s.sessions.active can.0)) ∙ ended_with a.txn undo s.sessions.active s.sessions.resolving) in
          omega (arith, few, long, first, second, ended);
      numbers = λ most. most;
    }

  -- nothing is left to put back
  abbrev bare : SessionTxn
  bare = with_list a (record { images = []; marks = a.undo.marks; rolling = a.undo.rolling })

  bare_goes : (IsAmong bare s.sessions.active × (IsAmong a.txn (in_doubt_of s.sessions) → ⊥)) → IsAmong a.txn (resolved_of s.sessions) → EachOnce (resolved_of s.sessions)
      → Goes g s (EndRollback bare) (with_end s bare)
  bare_goes mine resolved once = record {
    moves = (mine, resolved, refl);
    log = refl;
    durable = refl;
    stream = refl;
    waiting = refl;
    failed = refl;
    fits = refl;
    admits = tt;
    room = record {
      room = ended_room ENDING_COST (log_room s);
      after = refl;
      kept = let cost = cost_pushed s.log _ in sym cost;
      stream = refl;
      last = sym (length-push s.log _);
    };
    writes = inr (inr (inr (inl (record { txn = a.txn; log = refl; counts = refl }))));
    few = λ few.
        let shorter = shorter_without bare s.sessions.active mine.0 in
        let more = ended_once a.txn s.sessions.active s.sessions.resolving once in
        omega (arith, few, shorter, more);
    numbers = λ most. most;
  }

  pub end_goes : a.undo.images ≡ [] → IsAmong a s.sessions.active × (IsAmong a.txn (in_doubt_of s.sessions) → ⊥) → IsAmong a.txn (resolved_of s.sessions) → EachOnce (resolved_of s.sessions)
      → Goes g s (EndRollback a) (with_end s a)
  end_goes none mine resolved once =
      subst (λ (b : SessionTxn). IsAmong b s.sessions.active × (IsAmong a.txn (in_doubt_of s.sessions) → ⊥) → Goes g s (EndRollback b) (with_end s b)) same (λ its. bare_goes its resolved once) mine
    where
      same : bare ≡ a
      same = ap (λ (es : List (Rid × Image)). with_list a (record { images = es; marks = a.undo.marks; rolling = a.undo.rolling })) (sym none)

pub told_goes : (g : Geometry) (s : State) (session : ℕ) (r : ResolvedTxn) → HasEnded s.sessions r → Goes g s (AnswerResolve session r) (resolve_told s session r)
told_goes g s session r ended = record {
  moves = (ended.0, ended.1, refl);
  log = refl;
  durable = refl;
  stream = refl;
  waiting = refl;
  failed = refl;
  fits = refl;
  admits = tt;
  room = same_room s (resolve_told s session r) (AnswerResolve session r) refl refl refl;
  writes = inl (refl, refl);
  few = λ few. let fewer = ended_answered r.txn s.sessions.active s.sessions.resolving in omega (arith, few, fewer);
  numbers = λ most. most;
}
