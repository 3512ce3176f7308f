-- A loser's next record of undo has a text and means what it has to, if the records of its log do.
use Rattle.std.proofs.Common.{◌≡◌, ◌≤◌, ◌<◌, ◌-◌, ◌^◌, ⊎_elim, ℕ, zero, suc, List, [], ◌∷◌, ◌++◌, Some, refl, ap, subst, length, arith}
use Rattle.std.specs.Prelude.{All, slice_get}
use Rattle.std.specs.List.{AllByRecursion}
use Rattle.std.proofs.lemmas.List.{length-append}
use Rattle.std.proofs.lemmas.List.Elements.{All-from_recursion, recursion_from_All}
use Rattle.std.proofs.lemmas.Option.{get_or_from_slice_get, slice_get_within}
use Rattle.shore_types.specs.Layout.{HasSlot}
use Rattle.shore_types.specs.declared.ids.Rid.{Rid}
use Rattle.shore_types.specs.declared.layout.Geometry.{Geometry}
use Rattle.shore_types.specs.declared.layout.TheConstants.{LAST_OPENED}
use Rattle.shore_model.specs.declared.unanswered_changes.UnansweredChange.{UnansweredChange}
use Rattle.shore_model.specs.declared.log_records.LogRecord.{LogRecord}
use Rattle.shore_model.specs.declared.log_records.Payload.TheVariants.{Change}
use Rattle.shore_model.specs.Logs.{first_number, id_in, last_of, unanswered, undo_next_of}
use Rattle.shore_logrec.specs.Text.{Fits, HasOwner, PayloadFits}
use Rattle.laws_lives.specs.Undo.{IsLoser, undo_payload, undo_record}
use Rattle.laws_lives.specs.UndoChains.{IsUndoChain}
use Rattle.laws_lives.proofs.Numbers.{last_own, newest_other}
use Rattle.laws_lives.proofs.OneMore.{by_push}
use Rattle.laws_lives.proofs.UndoChains.{unanswered_chain}
use Rattle.laws_lives.proofs.Writers.{same_or_not}
use Rattle.shore_analysis.specs.KeptMeant.{AreMeantKept}
use Rattle.shore_analysis.specs.Padded.{blank, padded}
use Rattle.shore_analysis.proofs.Counted.{last_is_one}
use Rattle.shore_analysis.proofs.Undone.{undo_meant}
use Rattle.shore_analysis.proofs.UndoneKept.{loser_of, undo_kept}
use Rattle.shore_restart.proofs.Redoing.{id_meant}

all_at : {A : Type 0} (P : A → Type 0) (xs : List A) (n : ℕ) (x : A) → All P xs → slice_get xs n ≡ Some x → P x
all_at P xs n x all at = subst P (get_or_from_slice_get xs n x x at) (all n x (slice_get_within xs n x at))

-- the number of a transaction's last record is one of the log
pub last_low : (log : List LogRecord) (t : ℕ) → last_of t log ≤ length log
last_low = by_push (λ log. (t : ℕ) → last_of t log ≤ length log) (λ t. omega arith) one_more
  where
    one_more : (log : List LogRecord) (r : LogRecord) → ((t : ℕ) → last_of t log ≤ length log) → (t : ℕ) → last_of t (log ++ r ∷ []) ≤ length (log ++ r ∷ [])
    one_more log r known t =
        let long = length-append log (r ∷ []) in
        ⊎_elim
        (λ own. let last = last_own log r in subst (λ u. last_of u (log ++ r ∷ []) ≤ length (log ++ r ∷ [])) own (omega (arith, last, long)))
        (λ ne.
        let before = known t in
        let same : last_of t (log ++ r ∷ []) ≡ last_of t log = ap first_number (newest_other log r t ne) in
        omega (arith, before, same, long))
        (same_or_not r.txn t)

module _ (log : List LogRecord) (t : ℕ) (fit : All Fits log) (short : length log < LAST_OPENED) where
  next_low : (cs : List UnansweredChange) → IsUndoChain log t cs → undo_next_of cs < 2 ^ 64
  next_low [] chain = omega arith
  next_low (c ∷ cs) chain =
      let within : c.number - 1 < length log = slice_get_within log (c.number - 1) chain.0.found chain.0.here in
      omega (arith, within, short)

  payload_fits : (cs : List UnansweredChange) → IsUndoChain log t cs → PayloadFits (undo_payload cs)
  payload_fits [] chain = tt
  payload_fits (c ∷ cs) chain =
      let k = chain.0 in
      let change : PayloadFits (Change c.id c.before k.after) = subst PayloadFits k.says (all_at Fits log (c.number - 1) k.found fit k.here).payload_fits in
      record { rid = change.rid; image = change.old; next = next_low cs chain.1 }

  has_owner : (cs : List UnansweredChange) (previous : ℕ) → 1 ≤ t → HasOwner (undo_payload cs) t previous
  has_owner [] previous some = some
  has_owner (c ∷ cs) previous some = some

  pub undo_fits : IsLoser log t → Fits (undo_record log t)
  undo_fits loser =
      let one = last_is_one log t loser.known in
      let last = last_low log t in
      record {
        owner = has_owner (unanswered t log) (last_of t log) loser.is_one;
        txn_fits = subst (λ u. u < 2 ^ 64) one.own (all_at Fits log one.at one.found fit one.here).txn_fits;
        previous_fits = omega (arith, last, short);
        payload_fits = payload_fits (unanswered t log) (unanswered_chain log t);
      }

-- .. also where the front of the log is cut off
pub padded_fit : (cut : ℕ) (kept : List LogRecord) → All Fits kept → All Fits (padded cut kept)
padded_fit cut kept fit = All-from_recursion Fits (padded cut kept) (blanks cut (recursion_from_All Fits kept fit))
  where
    blank_fits : Fits blank
    blank_fits = record { owner = (refl, refl); txn_fits = omega arith; previous_fits = omega arith; payload_fits = tt }

    blanks : (n : ℕ) → AllByRecursion Fits kept → AllByRecursion Fits (padded n kept)
    blanks zero all = all
    blanks (suc n) all = (blank_fits, blanks n all)

module _ (g : Geometry) (cut : ℕ) (kept : List LogRecord) (t : ℕ) (meant : AreMeantKept g cut kept) (loser : IsLoser (padded cut kept) t) where
  -- what it changes lies in the geometry
  pub undo_there : (id : Rid) → id_in (undo_record (padded cut kept) t).payload ≡ Some id → HasSlot g id
  undo_there id says =
      id_meant g (padded cut kept) t (undo_record (padded cut kept) t).payload id (undo_meant g (padded cut kept) t (loser_of g cut kept meant t loser) loser).says says

  -- with it what is kept means what it has to
  pub undo_kept_meant : AreMeantKept g cut (kept ++ undo_record (padded cut kept) t ∷ [])
  undo_kept_meant = undo_kept g cut kept meant t loser
