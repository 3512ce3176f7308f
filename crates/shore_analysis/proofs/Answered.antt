-- The Change that a Compensation answers, by the numbers that records name.
use Rattle.std.proofs.Common.{◌≡◌, ◌⊎◌, inl, inr, ◌-◌, ◌<◌, ℕ, zero, suc, List, [], ◌∷◌, Bool, true, false, cond, Option, Some, None, refl, sym, ap, subst, ◌∙◌, take, arith}
use Rattle.std.specs.Prelude.{not, slice_get}
use Rattle.std.proofs.lemmas.Bool.{ne_eqb}
use Rattle.shore_types.specs.Images.{Image}
use Rattle.shore_types.specs.declared.ids.Rid.{Rid}
use Rattle.shore_types.specs.declared.layout.Geometry.{Geometry}
use Rattle.shore_model.specs.declared.unanswered_changes.UnansweredChange.{UnansweredChange}
use Rattle.shore_model.specs.declared.log_records.LogRecord.{LogRecord}
use Rattle.shore_model.specs.declared.log_records.Payload.{Payload}
use Rattle.shore_model.specs.declared.log_records.Payload.TheVariants.{Change, Compensation, Commit, End, Prepare, RollbackDecided, CheckpointBegin, CheckpointEnd, Anchor}
use Rattle.shore_model.specs.Logs.{Answers, has, is_prepare, last_of, previous_of, unanswered, undo_next_of}
use Rattle.laws_lives.specs.UndoChains.{IsUndoChain, next_named_by}
use Rattle.shore_analysis.specs.Meant.{IsChange, IsMeant, Means, AreMeantOf, IsChangeFrom}
use Rattle.shore_analysis.proofs.MeantLogs.{AreMeantOf-take, get_in_take, next_by_last, nothing_unanswered, taken_within}

pub one_or_none : (n : ℕ) → (n ≡ 0) ⊎ (0 < n)
one_or_none zero = inl refl
one_or_none (suc n) = inr (omega arith)

pub last_named : (before : List LogRecord) (t : ℕ) → 0 < t → previous_of t before ≡ last_of t before
last_named before zero some = absurd (omega arith)
last_named before (suc t) some = ap (λ b. cond b 0 (last_of (suc t) before)) (ne_eqb (suc t) 0 (λ e. omega (arith, e)))

pub gone : {A : Type 0} (x : A) → ◌≡◌ {A = Option A} (Some x) None → ⊥
gone x e = cc

-- what a transaction's last record, if there is one, names next
abbrev pub named : ℕ → Option LogRecord → ℕ
named n None = 0
named n (Some r) = next_named_by n r.payload

-- a Change comes before any Prepare
change_free : (g : Geometry) (log : List LogRecord) (t : ℕ) (p : Payload) → IsChange p → Means g log t p → has is_prepare t log ≡ false
change_free g log t (Change id before after) change says = not_true (has is_prepare t log) says.1
  where
    not_true : (b : Bool) → not b ≡ true → b ≡ false
    not_true true e = cc
    not_true false e = refl
change_free g log t (Compensation id after undo_next) change says = absurd change
change_free g log t Commit change says = absurd change
change_free g log t End change says = absurd change
change_free g log t (Prepare global granules) change says = absurd change
change_free g log t RollbackDecided change says = absurd change
change_free g log t CheckpointBegin change says = absurd change
change_free g log t (CheckpointEnd begin next txns dirty) change says = absurd change
change_free g log t (Anchor checkpoint tail) change says = absurd change

module _ (g : Geometry) (log : List LogRecord) where
  pub next_behind : (n : ℕ) (r : LogRecord) → AreMeantOf g r.txn log → (o : Option LogRecord) → slice_get log n ≡ Some r → IsChange r.payload → (0 < r.previous → o ≡ slice_get log (r.previous - 1)) → (r.previous ≡ 0 → o ≡ None)
      → named r.previous o ≡ undo_next_of (unanswered r.txn (take n log))
  next_behind n r meant o at change some none =
      let here : IsMeant g (take n log) r = meant n r at refl in
      let names : r.previous ≡ last_of r.txn (take n log) = here.previous ∙ last_named (take n log) r.txn here.some in
      elim (one_or_none r.previous) [
        | inl first ↦ ap (named r.previous) (none first) ∙ sym (ap undo_next_of (nothing_unanswered (take n log) r.txn (sym names ∙ first)))
        | inr later ↦
            let next = next_by_last g r.txn (take n log) (AreMeantOf-take g r.txn log n meant) here.not_over (change_free g (take n log) r.txn r.payload change here.says) (omega (arith, names)) in
            let there : slice_get log (last_of r.txn (take n log) - 1) ≡ Some next.found =
            sym (get_in_take log n (last_of r.txn (take n log) - 1) (taken_within log n (last_of r.txn (take n log) - 1) next.found next.here)) ∙ next.here in
            ap (named r.previous) (some later ∙ ap (λ k. slice_get log (k - 1)) names ∙ there) ∙ ap (λ k. next_named_by k next.found.payload) names ∙ sym next.next
      ]

-- what a Change and the number behind it tell of a Compensation
pub record Tells (cs : List UnansweredChange) (found : LogRecord) (behind : ℕ) (id : Rid) (image : Image) (undo_next : ℕ) : Type 0 where
  pub needs : Answers cs id image undo_next → (undo_next ≡ behind) × IsChangeFrom id image found.payload
  pub enough : undo_next ≡ behind → IsChangeFrom id image found.payload → Answers cs id image undo_next

module _ (log : List LogRecord) (t : ℕ) (id : Rid) (image : Image) (undo_next : ℕ) where
  pub answer_told : (newest : ℕ) (cs : List UnansweredChange) → IsUndoChain log t cs → newest ≡ undo_next_of cs → (found : LogRecord) (behind : ℕ)
      → (0 < newest → Some found ≡ slice_get log (newest - 1)) → (newest ≡ 0 → ⊥)
      → ((n : ℕ) → slice_get log n ≡ Some found → found.txn ≡ t → IsChange found.payload → behind ≡ undo_next_of (unanswered found.txn (take n log)))
      → Tells cs found behind id image undo_next
  answer_told newest [] chain is found behind some none names = absurd (none is)
  answer_told newest (c ∷ cs) chain is found behind some none names =
      let k = chain.0 in
      let one : 0 < c.number = k.is_one in
      let at : slice_get log (newest - 1) ≡ Some found = sym (some (omega (arith, is, one))) in
      let at_number : slice_get log (c.number - 1) ≡ Some found = ap (λ n. slice_get log (n - 1)) (sym is) ∙ at in
      let same : k.found ≡ found = some_is k.found found (sym k.here ∙ at_number) in
      let own : found.txn ≡ t = ap (λ r. r.txn) (sym same) ∙ k.own in
      let says : IsChangeFrom id image found.payload ≡ ((c.id ≡ id) × (c.before ≡ image)) = ap (λ r. IsChangeFrom id image r.payload) (sym same) ∙ ap (IsChangeFrom id image) k.says in
      let is_change : IsChange found.payload = subst IsChange (sym k.says ∙ ap (λ r. r.payload) same) tt in
      let next : behind ≡ undo_next_of cs = names (c.number - 1) at_number own is_change ∙ ap (λ u. undo_next_of (unanswered u (take (c.number - 1) log))) own ∙ ap undo_next_of k.before in
      record {
        needs = λ a. (a.0 ∙ sym next, subst (λ P. P) (sym says) (sym a.1, sym a.2));
        enough = λ e change. let both : (c.id ≡ id) × (c.before ≡ image) = subst (λ P. P) says change in (e ∙ next, sym both.0, sym both.1);
      }
    where
      value : LogRecord → Option LogRecord → LogRecord
      value d None = d
      value d (Some r) = r

      some_is : (a b : LogRecord) → ◌≡◌ {A = Option LogRecord} (Some a) (Some b) → a ≡ b
      some_is a b e = ap (value a) e

  pub no_answer : (newest : ℕ) (cs : List UnansweredChange) → IsUndoChain log t cs → newest ≡ undo_next_of cs
      → (0 < newest → None ≡ slice_get log (newest - 1)) → Answers cs id image undo_next → ⊥
  no_answer newest [] chain is some a = a
  no_answer newest (c ∷ cs) chain is some a =
      let k = chain.0 in
      let one : 0 < c.number = k.is_one in
      let gone : slice_get log (newest - 1) ≡ None = sym (some (omega (arith, is, one))) in
      let there : slice_get log (newest - 1) ≡ Some k.found = ap (λ n. slice_get log (n - 1)) is ∙ k.here in
      cc

-- nothing is unanswered if no Change is to be undone next
pub none_next : (log : List LogRecord) (t : ℕ) (cs : List UnansweredChange) → IsUndoChain log t cs → undo_next_of cs ≡ 0 → cs ≡ []
none_next log t [] chain none = refl
none_next log t (c ∷ cs) chain none = let one : 0 < c.number = chain.0.is_one in absurd (omega (arith, one, none))
