-- What those in doubt have written, at a state of the sessions: it lies under their locks, so apart from each other and from what anybody else may read.
use Rattle.std.proofs.Common.{◌≡◌, ◌≢◌, ⊎_elim, ℕ, List, None, Bool, sym, subst, map}
use Rattle.std.specs.Prelude.{IsSome, filter}
use Rattle.std.specs.FinMap.{get}
use Rattle.shore_types.specs.declared.ids.Rid.{Rid}
use Rattle.shore_model.specs.declared.histories.Entry.{Entry}
use Rattle.shore_model.specs.declared.histories.Opening.{Opening}
use Rattle.shore_model.specs.Locks.{MayRead, MayWrite}
use Rattle.shore_model.specs.Records.{overlays}
use Rattle.laws_lives.proofs.DoubtRecords.{among_filter}
use Rattle.laws_lives.proofs.EndSteps.{commit_sees}
use Rattle.laws_lives.proofs.InPlace.{unwritten}
use Rattle.laws_lives.proofs.Members.{txn_of_one}
use Rattle.laws_lives.proofs.Views.{read_of_write, some_or_none, writer_excludes}
use Rattle.laws_lives.specs.Sessions.{SessionTxn, Sessions, in_doubt_of}
use Rattle.laws_lives.specs.Soundness.{IsSoundAfter, SessionsAgree, serial_after, written_by}
use Rattle.laws_lives.specs.Views.{AgreeWhere, IsAmong}
use Rattle.laws_orders.proofs.Apart.{AreApart}

module _ {o : Opening} {es : List Entry} {s : Sessions} (k : IsSoundAfter o es s) (agree : SessionsAgree o es s) where
  -- it holds a lock to write on all that it wrote
  abbrev pub HasLocked : ℕ → Type 0
  HasLocked t = (id : Rid) → IsSome (get (written_by o es t) id) → MayWrite s.held t id

  pub own_locked : (a : SessionTxn) → IsAmong a s.active → a.undo.rolling ≡ None → HasLocked a.txn
  own_locked a mem none = (commit_sees k a mem none).locked

  pub doubt_locked : (t : ℕ) → IsAmong t (in_doubt_of s) → HasLocked t
  doubt_locked t doubt =
      let one = txn_of_one t s.active (agree.under_way t doubt) in
      subst HasLocked one.2 (own_locked one.0 one.1 (agree.unrolled one.0 one.1 (subst (λ u. IsAmong u (in_doubt_of s)) (sym one.2) doubt)))

  -- what others wrote is not where one may read
  pub unread : (t u : ℕ) → t ≢ u → HasLocked t → (id : Rid) → MayRead s.held u id → get (written_by o es t) id ≡ None
  unread t u other locked id reads =
      ⊎_elim (λ some. absurd (writer_excludes k.stand t u id other (locked id some) reads)) (λ none. none) (some_or_none (get (written_by o es t) id))

  pub locked_apart : (ts : List ℕ) → ((t : ℕ) → IsAmong t ts → HasLocked t) → AreApart (written_by o es) ts
  locked_apart ts locked t u a b other id some =
      unread u t (λ same. other (sym same)) (locked u b) id (read_of_write s.held t id (locked t a id some))

  -- whichever of those in doubt count, one who is not among them reads what is serial
  pub reads_serial : (t : ℕ) → (IsAmong t (in_doubt_of s) → ⊥) → (chosen : ℕ → Bool)
      → AgreeWhere (MayRead s.held t) (serial_after o es) (overlays (serial_after o es) (map (written_by o es) (filter chosen (in_doubt_of s))))
  reads_serial t outside chosen id reads =
      unwritten (written_by o es) id (serial_after o es) (filter chosen (in_doubt_of s))
      (λ u among. let doubt = (among_filter chosen u (in_doubt_of s) among).0 in
      unread u t (λ same. outside (subst (λ v. IsAmong v (in_doubt_of s)) same doubt)) (doubt_locked u doubt) id reads)
