-- What stands in place for each transaction under way: what it has written, where no rollback of it is under way, and else what it has logged last.
use Rattle.std.proofs.Common.{◌≡◌, ◌⊎◌, inl, inr, ⊎_elim, List, [], ◌∷◌, map, Option, Some, None, refl, sym, ap, subst, ◌∙◌}
use Rattle.std.specs.Prelude.{IsSome, unwrap_or}
use Rattle.std.specs.FinMap.{get, same_map}
use Rattle.shore_types.specs.Ids.{exact_rids, rids_total}
use Rattle.shore_types.specs.Images.{Image}
use Rattle.shore_types.specs.declared.ids.Rid.{Rid}
use Rattle.shore_model.specs.declared.histories.Entry.{Entry}
use Rattle.shore_model.specs.declared.histories.Opening.{Opening}
use Rattle.shore_model.specs.declared.log_records.LogRecord.{LogRecord}
use Rattle.shore_model.specs.Logs.{logged_writes}
use Rattle.shore_model.specs.Records.{Records, WriteSet, overlay, overlays}
use Rattle.shore_model.proofs.Overlays.{get-overlay}
use Rattle.laws_lives.proofs.InPlace.{has_image}
use Rattle.laws_lives.proofs.Lists.{among_map}
use Rattle.laws_lives.proofs.LoggedInPlace.{unlogged_stands}
use Rattle.laws_lives.proofs.Members.{txn_of_one}
use Rattle.laws_lives.proofs.Views.{not_some, overlay_none, read_of_write, some_or_none}
use Rattle.laws_lives.specs.LogTells.{IsLogAfter}
use Rattle.laws_lives.specs.Sessions.{SessionTxn, Sessions, txns_of}
use Rattle.laws_lives.specs.Soundness.{IsSoundAfter, serial_after, written_by}
use Rattle.laws_lives.specs.Views.{IsAmong}
use Rattle.shore_world.specs.Promises.{standing_for, standing_while}

module _ {o : Opening} {es : List Entry} {s : Sessions} {log : List LogRecord} (k : IsSoundAfter o es s) (l : IsLogAfter o es s log) where
  abbrev now : Records
  now = serial_after o es

  abbrev stands : SessionTxn → WriteSet
  stands = standing_for o es log

  its_number : (a : SessionTxn) → IsAmong a s.active → IsAmong a.txn (txns_of s.active)
  its_number a mem = among_map (λ (b : SessionTxn). b.txn) a s.active mem

  -- an image that stands for it is in place
  stands_there : (a : SessionTxn) → IsAmong a s.active → (id : Rid) (image : Image) → get (stands a) id ≡ Some image → get s.records id ≡ image
  stands_there a mem id image =
      elim a.undo.rolling as (λ r. a.undo.rolling ≡ r → get (standing_while r (written_by o es a.txn) (logged_writes log a.txn)) id ≡ Some image → get s.records id ≡ image) [
        | None ↦ λ e some.
            let sees = k.stand.each a.txn (its_number a mem) in
            let has : get (k.standing a.txn) id ≡ Some image = ap (λ (W : WriteSet). get W id) ((k.stands_for a mem).written e) ∙ some in
            sees.view id (read_of_write s.held a.txn id (sees.locked id (subst IsSome (sym has) refl)))
            ∙ get-overlay now (k.standing a.txn) id ∙ ap (λ (i : Option Image). unwrap_or i (get now id)) has
        | Some r ↦ λ e some. ((l.tells_serial.each a.txn (its_number a mem)).in_place id image some).0
      ] refl

  -- at an id at which nothing stands for it nothing did stand by the history
  nothing_stands : (a : SessionTxn) → IsAmong a s.active → (id : Rid) → get (stands a) id ≡ None → get (k.standing a.txn) id ≡ None
  nothing_stands a mem id =
      elim a.undo.rolling as (λ r. a.undo.rolling ≡ r → get (standing_while r (written_by o es a.txn) (logged_writes log a.txn)) id ≡ None → get (k.standing a.txn) id ≡ None) [
        | None ↦ λ e none. ap (λ (W : WriteSet). get W id) ((k.stands_for a mem).written e) ∙ none
        | Some r ↦ λ e none. unlogged_stands k l a.txn (its_number a mem) id none
      ] refl

  -- ---- one over another

  abbrev AreUnderWay : List SessionTxn → Type 0
  AreUnderWay xs = (a : SessionTxn) → IsAmong a xs → IsAmong a s.active

  -- the records have the image at the id, or get it from one of these
  abbrev GetsIt : Rid → Records → List SessionTxn → Type 0
  GetsIt id R xs = (get R id ≡ get s.records id) ⊎ ((a : SessionTxn) × IsAmong a xs × IsSome (get (stands a) id))

  still_gets : (id : Rid) (R : Records) (x : SessionTxn) (xs : List SessionTxn) → get (stands x) id ≡ None → GetsIt id R (x ∷ xs) → GetsIt id (overlay R (stands x)) xs
  still_gets id R x xs none (inl at) = inl (overlay_none R (stands x) id none ∙ at)
  still_gets id R x xs none (inr (a, inl same, some)) = absurd (not_some none (subst (λ (b : SessionTxn). IsSome (get (stands b) id)) (sym same) some))
  still_gets id R x xs none (inr (a, inr later, some)) = inr (a, later, some)

  overlaid_at : (id : Rid) (R : Records) (xs : List SessionTxn) → AreUnderWay xs → GetsIt id R xs → get (overlays R (map stands xs)) id ≡ get s.records id
  overlaid_at id R [] are (inl at) = at
  overlaid_at id R [] are (inr one) = absurd one.1
  overlaid_at id R (x ∷ xs) are gets = ⊎_elim
      (λ some.
      let image = has_image (get (stands x) id) some in
      overlaid_at id (overlay R (stands x)) xs (λ a m. are a (inr m))
      (inl (get-overlay R (stands x) id ∙ ap (λ (i : Option Image). unwrap_or i (get R id)) image.1 ∙ sym (stands_there x (are x (inl refl)) id image.0 image.1))))
      (λ none. overlaid_at id (overlay R (stands x)) xs (λ a m. are a (inr m)) (still_gets id R x xs none gets))
      (some_or_none (get (stands x) id))

  -- something stands there for one of them, or nothing for any
  one_or_none : (id : Rid) (xs : List SessionTxn) → ((a : SessionTxn) × IsAmong a xs × IsSome (get (stands a) id)) ⊎ ((a : SessionTxn) → IsAmong a xs → get (stands a) id ≡ None)
  one_or_none id [] = inr (λ a m. absurd m)
  one_or_none id (x ∷ xs) = ⊎_elim
      (λ some. inl (x, inl refl, some))
      (λ none. ⊎_elim
      (λ one. inl (one.0, inr one.1, one.2))
      (λ rest. inr (λ a m. ⊎_elim (λ same. subst (λ (b : SessionTxn). get (stands b) id ≡ None) same none) (λ later. rest a later) m))
      (one_or_none id xs))
      (some_or_none (get (stands x) id))

  nobody_wrote : (id : Rid) → ((a : SessionTxn) → IsAmong a s.active → get (stands a) id ≡ None) → get s.records id ≡ get now id
  nobody_wrote id none = k.stand.others id (λ t among.
      let one = txn_of_one t s.active among in
      subst (λ u. get (k.standing u) id ≡ None) one.2 (nothing_stands one.0 one.1 id (none one.0 one.1)))

  pub standing_overlaid : s.records ≡ overlays now (map stands s.active)
  standing_overlaid = same_map rids_total exact_rids _ _ (λ id.
      sym (overlaid_at id now s.active (λ a m. m) (⊎_elim (λ one. inr one) (λ none. inl (sym (nobody_wrote id none))) (one_or_none id s.active))))
