use Rattle.std.proofs.Common.{◌≡◌, ◌+◌, ◌++◌, ◌<◌, ◌∷◌, [], Some, length, take, take_all, refl, sym, ap, subst, ◌∙◌, arith}
use Rattle.std.specs.Prelude.{IsSomeAnd, slice_get}
use Rattle.std.proofs.lemmas.Bool.{true≢false}
use Rattle.std.proofs.lemmas.Option.{slice_get_read}
use Rattle.laws_lives.proofs.Lists.{length-take_within}
use Rattle.laws_lives.proofs.Redo.{take_next}
use Rattle.shore_analysis.specs.KeptMeant.{IsKeptCrowded, IsMeantNow}
use Rattle.shore_analysis.specs.KeptPasses.{AreMeantUpTo, KnowsAwaited, KnowsEnds, KnowsKept}
use Rattle.shore_analysis.proofs.KeptAwaits.{awaited_by, awaited_moved}
use Rattle.shore_analysis.proofs.KeptFirsts.{ends_behind, ends_from, up_to_next}
use Rattle.shore_analysis.proofs.kept_analysis.judge.Goals as goal

pub loop-index-preserved : goal.loop-index-preserved
loop-index-preserved c =
    let g = c.args.geometry.now in
    let cut = c.args.cut in
    let kept = c.args.kept.now in
    let i = c.loop-index.index in
    let within : i < length kept = omega arith in
    let r = c.index-kept-index.result in
    let at : slice_get kept i ≡ Some r = slice_get_read kept (length kept) i r refl within c.index-kept-index.is in
    let inv = c.loop-index.invariant in
    let m = c.is_meant.ensures.0 c.if-not-is_meant.false in
    let knows = c.in_ok-take_in.ensures.knows g inv.0 m in
    let few : IsKeptCrowded cut (take i kept ++ r ∷ []) → ⊥ =
    λ crowded. true≢false (sym ((c.is_crowded.ensures g cut (take i kept ++ r ∷ []) knows).1 crowded) ∙ c.if-is_crowded.false) in
    let long : length (take i kept) ≡ i = length-take_within i kept (omega arith) in (
      subst (λ xs. KnowsKept g cut xs c.take_in.new.self) (sym (take_next kept i r at)) knows,
      up_to_next g cut kept i r at inv.1 m few,
      awaited_by cut kept i r at c.loop-index.pass c.take_in.new.self inv.2 (cut + 1 + length (take i kept)) (ap (λ k. cut + 1 + k) long) (c.in_ok-take_in.ensures.awaited g inv.0 m),
    )

pub returns-then-not-is_meant-clause-first : goal.returns-then-not-is_meant-clause-first
returns-then-not-is_meant-clause-first c =
    let g = c.args.geometry.now in
    let cut = c.args.cut in
    let kept = c.args.kept.now in
    let i = c.loop-index.index in
    let within : i < length kept = omega arith in
    let r = c.index-kept-index.result in
    let at : slice_get kept i ≡ Some r = slice_get_read kept (length kept) i r refl within c.index-kept-index.is in
    let inv = c.loop-index.invariant in
    record {
      place = i;
      number_is = refl;
      before = inv.1;
      here = subst (λ o. IsSomeAnd o (λ x. IsMeantNow g cut (take i kept) x × (IsKeptCrowded cut (take i kept ++ x ∷ []) → ⊥) → ⊥)) (sym at)
          (λ both. true≢false (sym (c.is_meant.ensures.1 both.0) ∙ c.if-not-is_meant.true));
      places = i;
      up_to = omega arith;
      awaited = awaited_moved cut kept i c.loop-index.pass c.note_rest.new.self c.in_ok-note_rest.ensures.awaited inv.2;
    }

pub returns-then-not-is_meant-clause-ends : goal.returns-then-not-is_meant-clause-ends
returns-then-not-is_meant-clause-ends c =
    let kept = c.args.kept.now in
    let i = c.loop-index.index in
    ends_from c.args.cut kept i c.note_rest.new.self (c.in_ok-note_rest.ensures.ends c.args.cut (take i kept) c.loop-index.invariant.0.ends)

pub returns-then-is_crowded-clause-first : goal.returns-then-is_crowded-clause-first
returns-then-is_crowded-clause-first c =
    let g = c.args.geometry.now in
    let cut = c.args.cut in
    let kept = c.args.kept.now in
    let i = c.loop-index.index in
    let within : i < length kept = omega arith in
    let r = c.index-kept-index.result in
    let at : slice_get kept i ≡ Some r = slice_get_read kept (length kept) i r refl within c.index-kept-index.is in
    let inv = c.loop-index.invariant in
    let m = c.is_meant.ensures.0 c.if-not-is_meant.false in
    let crowded = (c.is_crowded.ensures g cut (take i kept ++ r ∷ []) (c.in_ok-take_in.ensures.knows g inv.0 m)).0 c.if-is_crowded.true in
    let long : length (take i kept) ≡ i = length-take_within i kept (omega arith) in
    record {
      place = i;
      number_is = refl;
      before = inv.1;
      here = subst (λ o. IsSomeAnd o (λ x. IsMeantNow g cut (take i kept) x × (IsKeptCrowded cut (take i kept ++ x ∷ []) → ⊥) → ⊥)) (sym at) (λ both. both.1 crowded);
      places = i + 1;
      up_to = omega arith;
      awaited = awaited_moved cut kept (i + 1) c.take_in.new.self c.note_rest-then-is_crowded.new.self c.in_ok-note_rest-2.ensures.awaited
          (awaited_by cut kept i r at c.loop-index.pass c.take_in.new.self inv.2 (cut + 1 + length (take i kept)) (ap (λ k. cut + 1 + k) long) (c.in_ok-take_in.ensures.awaited g inv.0 m));
    }

pub returns-then-is_crowded-clause-ends : goal.returns-then-is_crowded-clause-ends
returns-then-is_crowded-clause-ends c =
    let g = c.args.geometry.now in
    let cut = c.args.cut in
    let kept = c.args.kept.now in
    let i = c.loop-index.index in
    let within : i < length kept = omega arith in
    let r = c.index-kept-index.result in
    let at : slice_get kept i ≡ Some r = slice_get_read kept (length kept) i r refl within c.index-kept-index.is in
    let m = c.is_meant.ensures.0 c.if-not-is_meant.false in
    ends_behind cut kept i r at c.note_rest-then-is_crowded.new.self
    (c.in_ok-note_rest-2.ensures.ends cut (take i kept ++ r ∷ []) (c.in_ok-take_in.ensures.knows g c.loop-index.invariant.0 m).ends)

pub returns-clause-all : goal.returns-clause-all
returns-clause-all c =
    let kept = c.args.kept.now in
    let i = c.loop-index.index in
    let long : i ≡ length kept = omega arith in (
      subst (λ xs. KnowsKept c.args.geometry.now c.args.cut xs c.loop-index.pass) (take_all i kept (omega arith)) c.loop-index.invariant.0,
      subst (AreMeantUpTo c.args.geometry.now c.args.cut kept) long c.loop-index.invariant.1,
    )

pub returns-clause-ends : goal.returns-clause-ends
returns-clause-ends c =
    let kept = c.args.kept.now in
    let i = c.loop-index.index in
    subst (λ xs. KnowsEnds c.args.cut xs c.loop-index.pass) (take_all i kept (omega arith)) c.loop-index.invariant.0.ends

pub returns-clause-awaited : goal.returns-clause-awaited
returns-clause-awaited c =
    let long : c.loop-index.index ≡ length c.args.kept.now = omega arith in
    subst (λ n. KnowsAwaited c.args.cut c.args.kept.now n c.loop-index.pass) long c.loop-index.invariant.2
