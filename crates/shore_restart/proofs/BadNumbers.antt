-- The record that a restart names is one of those that were found.
use Rattle.std.proofs.Common.{◌≡◌, ⊎_elim, ◌-◌, ◌+◌, ◌<◌, ◌≤◌, ℕ, List, [], ◌∷◌, ◌++◌, Option, Some, None, inl, refl, sym, ap, subst, ◌∙◌, length, arith}
use Rattle.std.specs.Prelude.{IsSome, IsSomeAnd, slice_get}
use Rattle.std.proofs.lemmas.Option.{slice_get_within}
use Rattle.shore_types.specs.Images.{Image}
use Rattle.shore_types.specs.declared.ids.Rid.{Rid}
use Rattle.shore_types.specs.declared.layout.Geometry.{Geometry}
use Rattle.shore_model.specs.declared.unanswered_changes.UnansweredChange.{UnansweredChange}
use Rattle.shore_model.specs.declared.log_records.LogRecord.{LogRecord}
use Rattle.shore_model.specs.declared.log_records.Payload.{Payload}
use Rattle.shore_model.specs.declared.log_records.Payload.TheVariants.{Change}
use Rattle.shore_model.specs.Logs.{id_in, unanswered, undo_next_of, prepare_number}
use Rattle.laws_lives.specs.Undo.{IsUndoneTo, undo_payload, undo_record}
use Rattle.laws_lives.specs.UndoChains.{IsUndoChain}
use Rattle.laws_lives.proofs.UndoChains.{unanswered_chain}
use Rattle.shore_analysis.specs.Doubts.{doubts_left}
use Rattle.shore_analysis.specs.Padded.{padded}
use Rattle.laws_lives.specs.Views.{IsAmong}
use Rattle.laws_lives.proofs.Lists.{among_right}
use Rattle.shore_analysis.specs.AnchoredMeant.{IsFirstUnmeantAnchored, MayBeAnchored}
use Rattle.shore_analysis.specs.KeptMeant.{AreMeantKept}
use Rattle.shore_analysis.proofs.InTurn.{in_order_undone}
use Rattle.shore_analysis.proofs.MeantLogs.{own_or_last}
use Rattle.shore_analysis.proofs.DoubtsLeft.{is_left_by, left_runs, prepared_by}
use Rattle.shore_analysis.proofs.Padding.{behind_cut, length_padded}
use Rattle.shore_restart.specs.declared.errors.RestartError.TheVariants.{BadRecord}
use Rattle.shore_restart.specs.Doubts.{CannotHold}
use Rattle.shore_restart.specs.Turns.{IsUndoneSoFar}
use Rattle.shore_restart.proofs.DoubtsKept.{last_is_prepare}
use Rattle.shore_restart.proofs.DoubtsNamed.{left_here}
use Rattle.shore_restart.proofs.LogTurns.{IsTurn}
use Rattle.shore_restart.proofs.UndoTexts.{last_low}

-- a record of undo is no Change
no_change : (us : List UnansweredChange) (id : Rid) (before after : Image) → undo_payload us ≡ Change id before after → ⊥
no_change [] id before after is = cc
no_change (c ∷ cs) id before after is = cc

-- so a Change was found
change_found : (found : List LogRecord) (turns : List ℕ) (log : List LogRecord) → IsUndoneTo found turns log → (k : ℕ) (r : LogRecord) (id : Rid) (before after : Image) → r.payload ≡ Change id before after
    → slice_get log k ≡ Some r → slice_get found k ≡ Some r
change_found found [] log undone k r id before after says at = subst (λ (xs : List LogRecord). slice_get xs k ≡ Some r) undone at
change_found found (t ∷ ts) log undone k r id before after says at = ⊎_elim
    (λ old. old)
    (λ new. absurd (no_change (unanswered t found) id before after (ap (λ (x : LogRecord). x.payload) new.1 ∙ says)))
    (own_or_last found (undo_record found t) r k (change_found (found ++ undo_record found t ∷ []) ts log undone.1 k r id before after says at))

-- what is undone next is a Change that was found
pub undone_within : (found log : List LogRecord) (r : LogRecord) → IsTurn log r → IsUndoneSoFar found log → (n : ℕ) → n ≡ undo_next_of (unanswered r.txn log) → IsSome (id_in r.payload)
    → (0 < n) × (n ≤ length found)
undone_within found log r turn so_far n is some = by_newest (unanswered r.txn log) refl
  where
    by_newest : (us : List UnansweredChange) → unanswered r.txn log ≡ us → (0 < n) × (n ≤ length found)
    by_newest [] none =
        let says : r.payload ≡ undo_payload [] = ap (λ (x : LogRecord). x.payload) turn.is ∙ ap undo_payload none in
        let clash : IsSome (id_in (undo_payload [])) = subst (λ (p : Payload). IsSome (id_in p)) says some in
        absurd cc
    by_newest (c ∷ cs) newest =
        let chain : IsUndoChain log r.txn (c ∷ cs) = subst (IsUndoChain log r.txn) newest (unanswered_chain log r.txn) in
        let at = chain.0 in
        let here = change_found found so_far.0 log (in_order_undone found so_far.0 log so_far.1) (c.number - 1) at.found c.id c.before at.after at.says at.here in
        let within = slice_get_within found (c.number - 1) at.found here in
        let number : n ≡ c.number = is ∙ ap undo_next_of newest in
        let one = at.is_one in
        (omega (arith, number, one), omega (arith, number, one, within))

-- .. and one that is kept
pub undone_behind : (cut : ℕ) (kept : List LogRecord) (r : LogRecord) → IsTurn (padded cut kept) r → (n : ℕ) → n ≡ undo_next_of (unanswered r.txn (padded cut kept)) → IsSome (id_in r.payload) → cut < n
undone_behind cut kept r turn n is some = by_newest (unanswered r.txn (padded cut kept)) refl
  where
    log : List LogRecord
    log = padded cut kept

    by_newest : (us : List UnansweredChange) → unanswered r.txn log ≡ us → cut < n
    by_newest [] none =
        let says : r.payload ≡ undo_payload [] = ap (λ (x : LogRecord). x.payload) turn.is ∙ ap undo_payload none in
        let clash : IsSome (id_in (undo_payload [])) = subst (λ (p : Payload). IsSome (id_in p)) says some in
        absurd cc
    by_newest (c ∷ cs) newest =
        let chain : IsUndoChain log r.txn (c ∷ cs) = subst (IsUndoChain log r.txn) newest (unanswered_chain log r.txn) in
        let at = chain.0 in
        let behind = behind_cut cut (c.number - 1) kept at.found at.here (subst (λ (u : ℕ). 0 < u) (sym at.own) turn.loser.is_one) in
        let number : n ≡ c.number = is ∙ ap undo_next_of newest in
        let one = at.is_one in
        omega (arith, number, one, behind)

pub one_number : (n m : ℕ) → BadRecord n ≡ BadRecord m → n ≡ m
one_number n m is = cc

-- .. and a record that analysis refuses is one that is kept
pub unmeant_within : (g : Geometry) (cut checkpoint : ℕ) (kept : List LogRecord) (n : ℕ) → IsFirstUnmeantAnchored g cut checkpoint kept n → (cut < n) × (n ≤ length (padded cut kept))
unmeant_within g cut checkpoint kept n of = (of.behind, at (slice_get kept (n - (cut + 1))) refl of.here)
  where
    at : (o : Option LogRecord) → slice_get kept (n - (cut + 1)) ≡ o → IsSomeAnd o (λ r. MayBeAnchored g cut checkpoint kept (n - (cut + 1)) r → ⊥) → n ≤ length (padded cut kept)
    at None is none = absurd none
    at (Some r) is here = let within = slice_get_within kept (n - (cut + 1)) r is in let some = of.behind in omega (arith, within, some, length_padded cut kept)

-- .. and a Prepare of one in doubt is one
pub cannot_within : (g : Geometry) (limit cut : ℕ) (kept : List LogRecord) (n : ℕ) → AreMeantKept g cut kept → CannotHold limit (padded cut kept) n → (cut < n) × (n ≤ length (padded cut kept))
cannot_within g limit cut kept n meant cannot =
    let log = padded cut kept in
    let d = cannot.doubt in
    let among : IsAmong d (doubts_left log) = subst (IsAmong d) (sym cannot.order) (among_right d cannot.before (d ∷ cannot.later) (inl refl)) in
    let here = left_here log d among in
    let runs = left_runs g cut kept meant d.txn (is_left_by log d.txn here.0 here.1) in
    let p = prepared_by g cut kept meant d.txn here.0 in
    let behind = behind_cut cut (prepare_number d.txn log - 1) kept p.found p.here (subst (λ (u : ℕ). 0 < u) (sym p.own) runs.some) in
    let known = runs.known in
    let number = cannot.number in
    let last = last_is_prepare g cut kept meant d among in
    let low = last_low log d.txn in
    (omega (arith, behind, known, number, last), omega (arith, low, number, last))
