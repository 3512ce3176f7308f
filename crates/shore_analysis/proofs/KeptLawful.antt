-- What is kept of a lawful log that may be cut means what it has to: no such log is refused.
use Rattle.std.proofs.Common.{◌≡◌, ⊎_elim, ◌⊎◌, ◌+◌, ◌-◌, ◌<◌, ◌≤◌, ℕ, List, [], ◌∷◌, ◌++◌, All, Bool, true, false, cond, Some, sym, ap, subst, ◌∙◌, length, take, drop, arith}
use Rattle.std.specs.Prelude.{nat_lt, reverse, slice_get}
use Rattle.std.specs.List.{AllByRecursion}
use Rattle.std.proofs.lemmas.Bool.{cases_Bool, eq-eqb, ltb-true, ne_eqb, true≢false}
use Rattle.std.proofs.lemmas.Option.{slice_get_within}
use Rattle.shore_types.specs.Images.{Image}
use Rattle.shore_types.specs.declared.ids.Rid.{Rid}
use Rattle.shore_types.specs.declared.layout.Geometry.{Geometry}
use Rattle.shore_model.specs.declared.unanswered_changes.UnansweredChange.{UnansweredChange}
use Rattle.shore_model.specs.declared.log_records.LogRecord.{LogRecord}
use Rattle.shore_model.specs.declared.log_records.Payload.{Payload}
use Rattle.shore_model.specs.declared.log_records.Payload.TheVariants.{Change, Compensation, Commit, End, Prepare, RollbackDecided, CheckpointBegin, CheckpointEnd, Anchor}
use Rattle.shore_model.specs.Logs.{Answers, Lawful, MayFollow, MaySay, first_number, is_of_checkpoint, last_of, records_of, unanswered}
use Rattle.laws_lives.specs.Pages.{LoggedPages}
use Rattle.laws_lives.specs.UndoChains.{IsUndoChain}
use Rattle.laws_lives.proofs.Booleans.{and_true}
use Rattle.laws_lives.proofs.Lists.{length-take_within, take-take}
use Rattle.laws_lives.proofs.Redo.{take_next}
use Rattle.laws_lives.proofs.UndoChains.{unanswered_chain}
use Rattle.laws_checkpoints.specs.Checkpoints.{Checkpoint, end_payload}
use Rattle.laws_checkpoints.specs.KeptLogs.{IsKeptUnended, MayBeCut, has_record, kept_records_of}
use Rattle.laws_checkpoints.specs.KeptTables.{IsKeptTable}
use Rattle.laws_checkpoints.specs.MeantBehind.{IsCutOff, IsMeantBehind, IsMeantWhole, first_previous}
use Rattle.laws_checkpoints.proofs.Ends.{end_says}
use Rattle.laws_checkpoints.proofs.Kept.{has_at, kept_unended, none_filtered, one_of, records_split}
use Rattle.laws_checkpoints.proofs.KeptMeant.{chained, cut_off, first_names, meant_behind}
use Rattle.laws_checkpoints.proofs.KeptTables.{no_longer}
use Rattle.laws_checkpoints.proofs.Lists.{get-drop, take-drop}
use Rattle.shore_analysis.specs.AnchoredMeant.{AreMeantAnchored, HasEndedSince}
use Rattle.shore_analysis.specs.KeptMeant.{AreInLimits, AreMeantKept, HaveEnded, IsChangeOf, IsKeptCrowded, IsMeantNow, IsMeantOfCutOff, IsWholeIn, NamesIfKept, SaysCutOff, SaysInBounds, SaysInLimits, SaysOfCheckpoint, is_own_cut_off, listed_cut_off, own_cut_off, to_have_ended}
use Rattle.shore_analysis.specs.Meant.{IsChange, IsCrowded}
use Rattle.shore_analysis.proofs.KeptEnded.{first_by}
use Rattle.shore_analysis.proofs.KeptEndsNamed.{all_listed, end_in_bounds, end_named, ended_since, named_kept}
use Rattle.shore_analysis.proofs.SomeTable.{some_table}

all_append : (P : ℕ → Type 0) (xs ys : List ℕ) → AllByRecursion P xs → AllByRecursion P ys → AllByRecursion P (xs ++ ys)
all_append P [] ys a b = b
all_append P (x ∷ xs) ys a b = (a.0, all_append P xs ys a.1 b)

plain_not : (b : Bool) → b ≡ true → b ≡ false → ⊥
plain_not b p q = true≢false (sym p ∙ q)

module _ (log : List LogRecord) (lawful : Lawful log) (cut : ℕ) (within : cut ≤ length log) where
  abbrev kept : List LogRecord
  kept = drop cut log

  -- a transaction of which no record is cut off is whole in what is kept
  pub whole_kept : (t : ℕ) → 0 < t → has_record t (take cut log) ≡ false → IsWholeIn cut kept t
  whole_kept t one none = ⊎_elim
      (λ some.
      let first = one_of t kept some in
      let F = take (cut + first.at) log in
      let there : slice_get log (cut + first.at) ≡ Some first.found = sym (get-drop log cut first.at) ∙ first.here in
      let lt = slice_get_within log (cut + first.at) first.found there in
      let long = length-take_within (cut + first.at) log (omega (arith, lt)) in
      let front : has_record t (take cut F) ≡ false = ap (has_record t) (take-take cut (cut + first.at) log (omega arith)) ∙ none in
      let back : has_record t (drop cut F) ≡ false = ap (has_record t) (sym (take-drop log cut first.at)) ∙ first.none_before in
      let no_records : records_of t F ≡ [] =
      records_split t F cut (omega (arith, long)) ∙ ap (λ es. es ++ kept_records_of cut t (drop cut F)) (none_filtered t 1 (take cut F) front) ∙ none_filtered t (cut + 1) (drop cut F) back in
      first_names t (cut + 1) kept first.at first.found first.here first.own first.none_before
      ∙ chained log lawful (cut + first.at) first.found there (subst (λ u. 0 < u) (sym first.own) one)
      ∙ ap (λ u. last_of u F) first.own ∙ ap (λ es. first_number (reverse es)) no_records)
      (λ nothing. ap first_previous (none_filtered t (cut + 1) kept nothing))
      (cases_Bool (has_record t kept))

module _ (g : Geometry) (log : List LogRecord) (lawful : Lawful log) (limits : AreInLimits g log) (volume : LoggedPages) (cut : ℕ) (may : MayBeCut log volume cut) where
  ended_of : (t : ℕ) → has_record t (take cut log) ≡ true → IsKeptUnended cut (drop cut log) t → ⊥
  ended_of t some u = true≢false (sym (may.ended t u.is_one some) ∙ (kept_unended log lawful volume cut may t u).1)

  module _ (n : ℕ) (r : LogRecord) (at : slice_get (drop cut log) n ≡ Some r) where
    abbrev L : List LogRecord
    L = take (cut + n) log

    abbrev before : List LogRecord
    before = take n (drop cut log)

    there : slice_get log (cut + n) ≡ Some r
    there = sym (get-drop log cut n) ∙ at

    follows : MayFollow L r
    follows = lawful (cut + n) r there

    before_is : before ≡ drop cut L
    before_is = take-drop log cut n

    front : first_previous (kept_records_of cut r.txn (drop cut log)) ≡ first_previous (kept_records_of cut r.txn (before ++ r ∷ []))
    front = first_by cut n (drop cut log) r at

    means : IsMeantBehind cut (drop cut log) before r
    means = meant_behind log lawful volume cut may n r at

    -- ---- by kind

    in_bounds : (p : Payload) → SaysInLimits g (cut + n + 1) p → MaySay L r.txn p → SaysInBounds g (cut + n + 1) p
    in_bounds (Change id was image) limit says = limit
    in_bounds (Compensation id image undo_next) limit says = limit
    in_bounds Commit limit says = tt
    in_bounds End limit says = tt
    in_bounds (Prepare global granules) limit says = limit
    in_bounds RollbackDecided limit says = tt
    in_bounds CheckpointBegin limit says = tt
    in_bounds (CheckpointEnd begin next txns dirty) limit says = end_in_bounds log cut n begin next txns says g limits dirty limit
    in_bounds (Anchor checkpoint tail) limit says = tt

    of_checkpoint : (p : Payload) → is_of_checkpoint p ≡ true → MaySay L r.txn p → SaysOfCheckpoint cut (drop cut L) p
    of_checkpoint CheckpointBegin plain says = tt
    of_checkpoint (CheckpointEnd begin next txns dirty) plain says = end_named log cut n begin next txns says
    of_checkpoint (Anchor checkpoint tail) plain says = tt
    of_checkpoint (Change id was image) plain says = cc
    of_checkpoint (Compensation id image undo_next) plain says = cc
    of_checkpoint Commit plain says = cc
    of_checkpoint End plain says = cc
    of_checkpoint (Prepare global granules) plain says = cc
    of_checkpoint RollbackDecided plain says = cc

    answered : (id : Rid) (image : Image) (undo_next : ℕ) (cs : List UnansweredChange) → IsUndoChain L r.txn cs → Answers cs id image undo_next → NamesIfKept cut (drop cut L) undo_next (IsChangeOf r.txn)
    answered id image undo_next [] chain a = absurd a
    answered id image undo_next (c ∷ []) chain a = λ lt. let none = a.0 in absurd (omega (arith, lt, none))
    answered id image undo_next (c ∷ d ∷ cs) chain a = λ lt.
        let k = chain.1.0 in
        let at_number : slice_get L (undo_next - 1) ≡ Some k.found = ap (λ m. slice_get L (m - 1)) a.0 ∙ k.here in
        named_kept L cut undo_next k.found (IsChangeOf r.txn) lt at_number (k.own, subst IsChange (sym k.says) tt)

    of_cut_off : (p : Payload) → is_of_checkpoint p ≡ false → MaySay L r.txn p → SaysCutOff cut (drop cut L) r.txn p
    of_cut_off (Compensation id image undo_next) plain says = answered id image undo_next (unanswered r.txn L) (unanswered_chain L r.txn) says.1
    of_cut_off (Change id was image) plain says = tt
    of_cut_off Commit plain says = tt
    of_cut_off End plain says = tt
    of_cut_off (Prepare global granules) plain says = tt
    of_cut_off RollbackDecided plain says = tt
    of_cut_off CheckpointBegin plain says = cc
    of_cut_off (CheckpointEnd begin next txns dirty) plain says = cc
    of_cut_off (Anchor checkpoint tail) plain says = cc

    -- ---- now

    whole_here : 0 < r.txn → has_record r.txn (take cut log) ≡ false → IsWholeIn cut (before ++ r ∷ []) r.txn
    whole_here one none = sym front ∙ whole_kept log lawful cut may.within r.txn one none

    cut_off_here : 0 < r.txn → has_record r.txn (take cut log) ≡ true → IsCutOff cut (before ++ r ∷ []) r.txn
    cut_off_here one some =
        let off = cut_off log lawful cut may.within r.txn one some (one_of r.txn (drop cut log) (has_at (drop cut log) n r at)) in
        record { some = subst (λ k. 0 < k) front off.some; below = subst (λ k. k ≤ cut) front off.below }

    of_whole : 0 < r.txn → IsWholeIn cut (before ++ r ∷ []) r.txn → IsMeantWhole cut before r
    of_whole one whole = ⊎_elim
        (λ w. w)
        (λ rest. ⊎_elim
        (λ off. let some = off.cut_off.some in absurd (omega (arith, some, front, whole)))
        (λ nobody. let none = nobody.is_none in absurd (omega (arith, none, one)))
        rest)
        means.means

    cut_off_meant : 0 < r.txn → (IsWholeIn cut (before ++ r ∷ []) r.txn → ⊥) → IsMeantOfCutOff cut before r
    cut_off_meant one off = ⊎_elim
        (λ some. record {
          cut_off = cut_off_here one some;
          previous = λ known. ⊎_elim
              (λ w. w.previous)
              (λ rest. ⊎_elim (λ c. c.previous known) (λ nobody. let none = nobody.is_none in absurd (omega (arith, none, one))) rest)
              means.means;
          says = subst (λ xs. SaysCutOff cut xs r.txn r.payload) (sym before_is) (of_cut_off r.payload (follows.of ∙ ne_eqb r.txn 0 (λ zero. omega (arith, zero, one))) follows.says);
        })
        (λ none. absurd (off (whole_here one none)))
        (cases_Bool (has_record r.txn (take cut log)))

    now : IsMeantNow g cut before r
    now =
        let limit = limits (cut + n) r there in
        let long = length-take_within n (drop cut log) (let lt = slice_get_within (drop cut log) n r at in omega (arith, lt)) in
        let number : cut + n + 1 ≡ cut + 1 + length before = omega (arith, long) in
        record {
          number = limit.number;
          bounds = subst (λ k. SaysInBounds g k r.payload) number (in_bounds r.payload limit.says follows.says);
          sizes = limit.sizes;
          not_over = λ one. means.not_over;
          of_nobody = λ none. (
            follows.previous ∙ ap (λ b. cond b 0 (last_of r.txn L)) (eq-eqb r.txn 0 none),
            subst (λ xs. SaysOfCheckpoint cut xs r.payload) (sym before_is) (of_checkpoint r.payload (follows.of ∙ eq-eqb r.txn 0 none) follows.says),
          );
          of_whole = of_whole;
          of_cut_off = cut_off_meant;
        }

    -- ---- in the end

    few : ((m : ℕ) → IsCrowded (take m log) → ⊥) → IsKeptCrowded cut (before ++ r ∷ []) → ⊥
    few uncrowded crowded =
        let all = some_table (take (cut + (n + 1)) log) in
        let most = no_longer log lawful cut (n + 1) may.within crowded.0 all.0 (subst (λ xs. IsKeptTable cut xs crowded.0) (sym (take_next (drop cut log) n r at)) crowded.1) all.1 in
        let many = crowded.2 in
        uncrowded (cut + (n + 1)) (all.0, all.1, omega (arith, most, many))

    own_ended : AllByRecursion (λ t. IsKeptUnended cut (drop cut log) t → ⊥) (own_cut_off cut before r)
    own_ended = ⊎_elim
        (λ off. subst (λ b. AllByRecursion (λ t. IsKeptUnended cut (drop cut log) t → ⊥) (cond b (r.txn ∷ []) [])) (sym off) (ended_of r.txn (some off), tt))
        (λ no. subst (λ b. AllByRecursion (λ t. IsKeptUnended cut (drop cut log) t → ⊥) (cond b (r.txn ∷ []) [])) (sym no) tt)
        (cases_Bool (is_own_cut_off cut before r))
      where
        some : is_own_cut_off cut before r ≡ true → has_record r.txn (take cut log) ≡ true
        some off =
            let both = and_true (nat_lt 0 r.txn) (nat_lt 0 (first_previous (kept_records_of cut r.txn (before ++ r ∷ [])))) off in
            let one = ltb-true 0 r.txn both.0 in
            let names = ltb-true 0 (first_previous (kept_records_of cut r.txn (before ++ r ∷ []))) both.1 in
            ⊎_elim (λ yes. yes) (λ none. let whole = whole_here one none in absurd (omega (arith, names, whole))) (cases_Bool (has_record r.txn (take cut log)))

    listed_ended : (p : Payload) → MaySay L r.txn p → AllByRecursion (λ t. IsKeptUnended cut (drop cut log) t → ⊥) (listed_cut_off cut p)
    listed_ended (CheckpointEnd begin next txns dirty) says = all_listed log cut n begin next txns says (λ t. IsKeptUnended cut (drop cut log) t → ⊥) ended_of
    listed_ended (Change id was image) says = tt
    listed_ended (Compensation id image undo_next) says = tt
    listed_ended Commit says = tt
    listed_ended End says = tt
    listed_ended (Prepare global granules) says = tt
    listed_ended RollbackDecided says = tt
    listed_ended CheckpointBegin says = tt
    listed_ended (Anchor checkpoint tail) says = tt

    ended : HaveEnded cut (drop cut log) (to_have_ended cut before r)
    ended = all_append (λ t. IsKeptUnended cut (drop cut log) t → ⊥) (own_cut_off cut before r) (listed_cut_off cut r.payload) own_ended (listed_ended r.payload follows.says)

  pub all_meant : ((m : ℕ) → IsCrowded (take m log) → ⊥) → AreMeantKept g cut (drop cut log)
  all_meant uncrowded n r at = record { now = now n r at; few = few n r at uncrowded; ended = ended n r at }

  -- the End of a checkpoint whose begin is kept lists whoever has a record that is cut off only if that one has ended since
  pub all_anchored : ((m : ℕ) → IsCrowded (take m log) → ⊥) → (checkpoint : ℕ) → (checkpoint ≡ 0) ⊎ (cut < checkpoint) → AreMeantAnchored g cut checkpoint (drop cut log)
  all_anchored uncrowded checkpoint place n r at = record { meant = all_meant uncrowded n r at; since = λ c of. since c (end_says checkpoint r.payload c of.its) }
    where
      since : (c : Checkpoint) → (r.payload ≡ end_payload c) × (c.begin ≡ checkpoint) → All (HasEndedSince cut (drop cut log)) c.txns
      since c says =
          let as_at : MaySay (L n r at) r.txn (end_payload c) = subst (MaySay (L n r at) r.txn) says.0 (follows n r at).says in
          let some = as_at.begins.0 in
          let is = says.1 in
          let behind : cut < c.begin = ⊎_elim (λ none. omega (arith, none, some, is)) (λ kept. omega (arith, kept, is)) place in
          ended_since log cut n c.begin c.next c.txns as_at behind may.within may.ended
