-- With the log beside the sessions: the last images that a transaction under way has logged may stand for it, whether a rollback of it is
-- under way or none.
use Rattle.std.proofs.Common.{◌≡◌, ◌≢◌, ⊎_elim, ℕ, List, [], ◌∷◌, map, Some, None, refl, sym, ap, subst, ◌∙◌}
use Rattle.std.specs.Prelude.{IsSome, unwrap_or}
use Rattle.std.specs.FinMap.{get}
use Rattle.std.specs.List.{AllByRecursion}
use Rattle.shore_types.specs.Images.{Image}
use Rattle.shore_types.specs.declared.ids.Rid.{Rid}
use Rattle.shore_model.specs.declared.histories.Opening.{Opening}
use Rattle.shore_model.specs.declared.histories.Entry.{Entry}
use Rattle.shore_model.specs.declared.log_records.LogRecord.{LogRecord}
use Rattle.shore_model.specs.Locks.{MayRead}
use Rattle.shore_model.specs.Logs.{logged_writes}
use Rattle.shore_model.specs.Records.{Records}
use Rattle.shore_model.proofs.Overlays.{get-overlay}
use Rattle.laws_lives.proofs.InPlace.{has_image}
use Rattle.laws_lives.proofs.Members.{txn_of_one}
use Rattle.laws_lives.proofs.Rollings.{some_not_none}
use Rattle.laws_lives.proofs.Views.{not_some, overlay_none, some_or_none, writer_excludes}
use Rattle.laws_lives.specs.LogTells.{IsLogAfter}
use Rattle.laws_lives.specs.Sessions.{SessionTxn, Sessions, txns_of}
use Rattle.laws_lives.specs.Soundness.{IsSoundAfter, serial_after}
use Rattle.laws_lives.specs.Views.{IsAmong, Sees, Stand}

one_of_all : (P : Rid → Type 0) (id : Rid) (xs : List (Rid × Image)) → AllByRecursion (λ e. P e.0) xs → IsAmong id (map (λ e. e.0) xs) → P id
one_of_all P id [] h a = absurd a
one_of_all P id (x ∷ xs) h a = ⊎_elim (λ same. subst P same h.0) (λ later. one_of_all P id xs h.1 later) a

module _ {o : Opening} {es : List Entry} {s : Sessions} {log : List LogRecord} (k : IsSoundAfter o es s) (l : IsLogAfter o es s log) where
  abbrev now : Records
  now = serial_after o es

  -- at an id without a logged image nothing stands for it
  its_unlogged : (a : SessionTxn) → IsAmong a s.active → IsAmong a.txn (txns_of s.active) → (id : Rid) → get (logged_writes log a.txn) id ≡ None
      → get (k.standing a.txn) id ≡ None
  its_unlogged a mem among id none =
      elim a.undo.rolling as (λ r. a.undo.rolling ≡ r → get (k.standing a.txn) id ≡ None) [
        | None ↦ λ e. ap (λ W. get W id) ((k.stands_for a mem).written e) ∙ (l.tells_serial.each a.txn among).unwritten id none
        | Some r ↦ λ e. ⊎_elim
            (λ stands.
            let left = (k.stands_for a mem).left (λ gone. some_not_none r (sym e ∙ gone)) id stands in
            absurd (not_some none (one_of_all (λ id. IsSome (get (logged_writes log a.txn) id)) id a.undo.images (l.undo_logged a mem) left)))
            (λ unwritten. unwritten)
            (some_or_none (get (k.standing a.txn) id))
      ] refl

  pub unlogged_stands : (t : ℕ) → IsAmong t (txns_of s.active) → (id : Rid) → get (logged_writes log t) id ≡ None → get (k.standing t) id ≡ None
  unlogged_stands t among id none =
      let one = txn_of_one t s.active among in
      subst (λ v. get (k.standing v) id ≡ None) one.2
      (its_unlogged one.0 one.1 (subst (λ v. IsAmong v (txns_of s.active)) (sym one.2) among) id (ap (λ v. get (logged_writes log v) id) one.2 ∙ none))

  logged_sees : (t : ℕ) → IsAmong t (txns_of s.active) → Sees s.held now s.records t (logged_writes log t)
  logged_sees t among =
      let has = l.tells_serial.each t among in
      record {
        view = λ id r. ⊎_elim
            (λ some.
            let image = has_image (get (logged_writes log t) id) some in
            (has.in_place id image.0 image.1).0
            ∙ sym (get-overlay now (logged_writes log t) id ∙ ap (λ o. unwrap_or o (get now id)) image.1))
            (λ none.
            (k.stand.each t among).view id r ∙ overlay_none now (k.standing t) id (unlogged_stands t among id none)
            ∙ sym (overlay_none now (logged_writes log t) id none))
            (some_or_none (get (logged_writes log t) id));
        locked = λ id some. let image = has_image (get (logged_writes log t) id) some in (has.in_place id image.0 image.1).1;
      }

  pub stand_logged : Stand s.held now s.records (txns_of s.active) (logged_writes log)
  stand_logged = record {
    harmony = k.stand.harmony;
    each = logged_sees;
    others = λ id none. k.stand.others id (λ t among. unlogged_stands t among id (none t among));
  }

  pub logged_is_hidden : (t u : ℕ) (id : Rid) → t ≢ u → IsAmong u (txns_of s.active) → IsSome (get (logged_writes log u) id) → MayRead s.held t id → ⊥
  logged_is_hidden t u id other among some reads =
      writer_excludes k.stand u t id (λ same. other (sym same)) ((logged_sees u among).locked id some) reads
