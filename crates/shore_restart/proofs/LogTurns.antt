-- A turn of undo over the log alone: the loser's next record, and what undo works with behind it.
use Rattle.std.proofs.Common.{◌≡◌, ◌<◌, ◌+◌, ℕ, zero, suc, List, [], ◌∷◌, ◌++◌, Bool, false, Option, None, Some, refl, sym, ap, subst, ◌∙◌, length, drop, take, arith}
use Rattle.std.proofs.Math.Seq.{drop-append_seam}
use Rattle.std.proofs.lemmas.Bool.{eqb-true, true≢false}
use Rattle.laws_lives.proofs.Writers.{never_true}
use Rattle.std.specs.Prelude.{◌==◌, ◌||◌, All, IfNone, IfSome, IsSome}
use Rattle.shore_types.specs.Layout.{HasSlot}
use Rattle.shore_types.specs.declared.ids.Rid.{Rid}
use Rattle.shore_types.specs.declared.layout.Geometry.{Geometry}
use Rattle.shore_types.specs.declared.versions.Version.{Version}
use Rattle.shore_model.specs.declared.log_records.LogRecord.{LogRecord}
use Rattle.shore_model.specs.Logs.{id_in, last_of, unanswered, undo_next_of}
use Rattle.shore_logrec.specs.Text.{Fits}
use Rattle.shore_txn.specs.declared.log_room.LogRoom.{LogRoom}
use Rattle.laws_lives.specs.Undo.{IsLoser, IsUndoneTo, undo_payload, undo_record}
use Rattle.shore_analysis.specs.KeptMeant.{AreMeantKept}
use Rattle.shore_analysis.specs.Padded.{padded}
use Rattle.shore_analysis.proofs.Padding.{length_padded, padded-push}
use Rattle.laws_checkpoints.specs.KeptLogs.{has_record}
use Rattle.laws_runs.specs.SlotCounts.{FitsBehind}
use Rattle.shore_analysis.specs.Losers.{CutsOffEnded, HasLosers, IsNextToUndo, turns_left}
use Rattle.shore_restart.specs.declared.turns.Undo.{Undo}
use Rattle.shore_restart.specs.Doubts.{reserved_told}
use Rattle.shore_restart.specs.Room.{IsRoomBehind, LeavesRoom}
use Rattle.shore_restart.specs.Turns.{CannotUndo, HasNoTurnRoom, IsUndoOf, TakesTurn, gone_on}
use Rattle.shore_restart.proofs.DoubtsKept.{same_reserved}
use Rattle.shore_restart.proofs.UndoTexts.{last_low, padded_fit, undo_fits, undo_kept_meant, undo_there}

-- the record is the next one of undo
pub record IsTurn (log : List LogRecord) (r : LogRecord) : Type 0 where
  pub loser : IsLoser log r.txn
  pub next : IsNextToUndo log r.txn
  pub is : r ≡ undo_record log r.txn

pub if_none : (P : Type 0) (o : Option LogRecord) → o ≡ None → IfNone o P → P
if_none P o is h = subst (λ (x : Option LogRecord). IfNone x P) is h

if_some : (P : LogRecord → Type 0) (o : Option LogRecord) (r : LogRecord) → o ≡ Some r → IfSome o P → P r
if_some P o r is h = subst (λ (x : Option LogRecord). IfSome x P) is h

pub no_some : (o : Option LogRoom) → o ≡ None → IsSome o → ⊥
no_some None is some = absurd cc
no_some (Some room) is some = absurd cc

-- the records of nobody in the place of those that are cut off are none that undo has to do with
pub drop_padded : (cut : ℕ) (kept : List LogRecord) → drop cut (padded cut kept) ≡ kept
drop_padded zero kept = refl
drop_padded (suc n) kept = drop_padded n kept

pub padded_cut : (cut : ℕ) (kept : List LogRecord) → CutsOffEnded cut (padded cut kept)
padded_cut cut kept = (let long = length_padded cut kept in omega (arith, long), λ t one has. absurd (true≢false (sym has ∙ none cut t one)))
  where
    nothing : (t : ℕ) (rs : List LogRecord) → has_record t (take 0 rs) ≡ false
    nothing t [] = refl
    nothing t (r ∷ rs) = refl

    none : (n t : ℕ) → 0 < t → has_record t (take n (padded n kept)) ≡ false
    none zero t one = nothing t kept
    none (suc n) t one =
        let other = never_true (0 == t) (λ is. let zero = eqb-true 0 t is in omega (arith, one, zero)) in
        ap (λ (b : Bool). b || has_record t (take n (padded n kept))) other ∙ none n t one

-- what the losers give is one
pub turn_of : (g : Geometry) (cut : ℕ) (kept : List LogRecord) (stream_bytes : ℕ) (undo : Undo) (of : IsUndoOf g cut kept stream_bytes undo) (here : ℕ) → here ≡ cut → (found : List LogRecord) → found ≡ kept
    → (next : Option LogRecord) (r : LogRecord) → next ≡ Some r
    → ((log : List LogRecord) → HasLosers log undo.losers → IfSome next (λ r. IsLoser log r.txn))
    → ((log : List LogRecord) → HasLosers log undo.losers → IfSome next (λ r. IsNextToUndo log r.txn))
    → ((g : Geometry) (whole : List LogRecord) (turns : List ℕ) (log : List LogRecord) → CutsOffEnded here whole → found ≡ drop here whole → AreMeantKept g here found → IsUndoneTo whole turns log → HasLosers log undo.losers
    → IfSome next (λ r. r ≡ undo_record log r.txn))
    → IsTurn (padded cut kept) r
turn_of g cut kept stream_bytes undo of here at found same next r is loser greatest undoes = record {
  loser = if_some (λ r. IsLoser (padded cut kept) r.txn) next r is (loser (padded cut kept) of.losers);
  next = if_some (λ r. IsNextToUndo (padded cut kept) r.txn) next r is (greatest (padded cut kept) of.losers);
  is = if_some (λ r. r ≡ undo_record (padded cut kept) r.txn) next r is
      (undoes g (padded cut kept) [] (padded cut kept) (subst (λ (n : ℕ). CutsOffEnded n (padded cut kept)) (sym at) (padded_cut cut kept))
      (same ∙ sym (drop_padded cut kept) ∙ ap (λ (n : ℕ). drop n (padded cut kept)) (sym at)) (subst (λ (n : ℕ). AreMeantKept g n found) (sym at) (subst (AreMeantKept g cut) (sym same) of.meant)) refl of.losers);
}

module _ (g : Geometry) (cut : ℕ) (kept : List LogRecord) (stream_bytes : ℕ) (undo : Undo) (of : IsUndoOf g cut kept stream_bytes undo) (r : LogRecord) (turn : IsTurn (padded cut kept) r) where
  abbrev log : List LogRecord
  log = padded cut kept

  -- it has a text
  pub turn_fits : (found : List LogRecord) → found ≡ kept → All Fits found → Fits r
  turn_fits found same fit =
      let numbers = of.room.leaves.numbers in
      let long = length_padded cut kept in
      subst Fits (sym turn.is) (undo_fits log r.txn (padded_fit cut kept (subst (All Fits) same fit)) (omega (arith, numbers, long)) turn.loser)

  -- what it changes lies in the geometry
  pub turn_there : (id : Rid) → id_in r.payload ≡ Some id → HasSlot g id
  turn_there = subst (λ (x : LogRecord). (id : Rid) → id_in x.payload ≡ Some id → HasSlot g id) (sym turn.is) (undo_there g cut kept r.txn of.meant turn.loser)

  -- it names a record of the log
  pub turn_previous : (then : ℕ) (same : List LogRecord) → then ≡ cut → same ≡ kept → r.previous < then + 1 + length same
  turn_previous then same cuts is =
      let low = last_low log r.txn in
      let names : r.previous ≡ last_of r.txn log = ap (λ (x : LogRecord). x.previous) turn.is in
      let long : length same ≡ length kept = ap length is in
      omega (arith, low, names, long, cuts, length_padded cut kept)

  -- the log with it
  pub turn_later : (then : ℕ) (later : List LogRecord) → then ≡ cut → later ≡ kept ++ r ∷ [] → padded then later ≡ log ++ r ∷ []
  turn_later then later cuts same = ap (λ (n : ℕ). padded n later) cuts ∙ ap (padded cut) same ∙ padded-push cut kept r

  -- the turn is taken
  pub turn_takes : (seen : List LogRecord) (new : Undo) → seen ≡ log ++ r ∷ [] → turns_left (log ++ r ∷ []) new.losers < turns_left log undo.losers → TakesTurn log seen undo new
  turn_takes seen new same fewer = record {
    loser = r.txn;
    is_one = turn.loser;
    next = turn.next;
    logged = same ∙ ap (λ (x : LogRecord). log ++ x ∷ []) turn.is;
    fewer = subst (λ (l : List LogRecord). turns_left l new.losers < turns_left log undo.losers) (sym same) fewer;
  }

  -- .. and undo goes on
  pub turn_kept : (geometry : Geometry) (then : ℕ) (later : List LogRecord) (bytes : ℕ) (new : Undo) → geometry ≡ g → then ≡ cut → later ≡ kept ++ r ∷ [] → bytes ≡ stream_bytes → HasLosers (log ++ r ∷ []) new.losers
      → IsRoomBehind cut (kept ++ r ∷ []) stream_bytes new.room → IsUndoOf geometry then later bytes new
  turn_kept geometry then later bytes new there cuts same long losers room =
      subst (λ (x : Geometry). IsUndoOf x then later bytes new) (sym there)
      (subst (λ (n : ℕ). IsUndoOf g n later bytes new) (sym cuts)
      (subst (λ (n : ℕ). IsUndoOf g cut later n new) (sym long)
      (subst (λ (l : List LogRecord). IsUndoOf g cut l stream_bytes new) (sym same) (record {
        meant = subst (λ (x : LogRecord). AreMeantKept g cut (kept ++ x ∷ [])) (sym turn.is) (undo_kept_meant g cut kept r.txn of.meant turn.loser);
        losers = subst (λ (l : List LogRecord). HasLosers l new.losers) (sym (padded-push cut kept r)) losers;
        room = room;
      }))))

  -- what those in doubt have reserved is as it was
  pub turn_reserved : reserved_told (padded cut (kept ++ r ∷ [])) ≡ reserved_told log
  turn_reserved =
      ap reserved_told (padded-push cut kept r) ∙ ap (λ (x : LogRecord). reserved_told (log ++ x ∷ [])) turn.is
      ∙ same_reserved log (r.txn ∷ []) (log ++ undo_record log r.txn ∷ []) (turn.loser, refl)

  -- it leaves no room
  pub turn_lacks_room : (LeavesRoom cut (kept ++ r ∷ []) stream_bytes → ⊥) → HasNoTurnRoom cut kept stream_bytes
  turn_lacks_room none = (r.txn, turn.loser, λ leaves. none (subst (λ (x : LogRecord). LeavesRoom cut (kept ++ x ∷ []) stream_bytes) (sym turn.is) leaves))

-- ---- by a log of which this is a turn

module _ (v : Version) (log : List LogRecord) (r : LogRecord) (turn : IsTurn log r) where
  -- what it says
  pub turn_says : r.payload ≡ undo_payload (unanswered r.txn log)
  turn_says = ap (λ (x : LogRecord). x.payload) turn.is

  -- what it brings back does not fit
  pub turn_cannot : (n : ℕ) → n ≡ undo_next_of (unanswered r.txn log) → (FitsBehind v log r.payload → ⊥) → CannotUndo v log n
  turn_cannot n names none = (r.txn, turn.loser, turn.next, names, λ fits. none (subst (λ (x : LogRecord). FitsBehind v log x.payload) (sym turn.is) fits))

-- a list goes on by a record, or not at all
pub gone_more : (mine log later : List LogRecord) (r : LogRecord) → later ≡ log ++ r ∷ [] → gone_on mine log later ≡ mine ++ r ∷ []
gone_more mine log later r same = ap (λ (rs : List LogRecord). mine ++ drop (length log) rs) same ∙ ap (λ (rs : List LogRecord). mine ++ rs) (drop-append_seam log (r ∷ []))

pub gone_none : (mine log : List LogRecord) → gone_on mine log log ≡ mine
gone_none mine log = ap (λ (rs : List LogRecord). mine ++ rs) (drop_all log) ∙ append_nil mine
  where
    drop_all : (xs : List LogRecord) → drop (length xs) xs ≡ []
    drop_all [] = refl
    drop_all (x ∷ xs) = drop_all xs

    append_nil : (xs : List LogRecord) → xs ++ [] ≡ xs
    append_nil [] = refl
    append_nil (x ∷ xs) = ap (λ (ys : List LogRecord). x ∷ ys) (append_nil xs)
