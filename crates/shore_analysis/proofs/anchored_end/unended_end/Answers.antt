use Rattle.std.proofs.Common.{◌≡◌, true, None, Some, length, refl, sym, subst, ◌∙◌}
use Rattle.std.specs.Prelude.{All, IsSomeAnd, slice_get}
use Rattle.std.specs.BTreeSet.{contains}
use Rattle.std.specs.Ordering.{nat_cmp}
use Rattle.std.proofs.lemmas.Bool.{true≢false}
use Rattle.std.proofs.lemmas.List.Elements.{All-weaker}
use Rattle.std.proofs.lemmas.Option.{slice_get_read}
use Rattle.laws_checkpoints.specs.Checkpoints.{Checkpoint}
use Rattle.shore_analysis.specs.AnchoredMeant.{HasEndedSince, IsAnchoredEnd}
use Rattle.shore_analysis.specs.KeptMeant.{names_cut_off}
use Rattle.shore_analysis.proofs.KeptFound.{at_read, found, one_end}
use Rattle.shore_analysis.proofs.anchored_end.unended_end.Goals as goal

pub returns-in_default-clause-none : goal.returns-in_default-clause-none
returns-in_default-clause-none c n r e at of = let both : None ≡ Some e = sym c.in_default.ensures.none ∙ found c.args.checkpoint c.args.kept.now n r e at of in cc

pub returns-then-have_listed_ended-clause-none : goal.returns-then-have_listed_ended-clause-none
returns-then-have_listed_ended-clause-none c n r e at of =
    let kept = c.args.kept.now in
    let cut = c.args.cut in
    let i = c.in-Some.index in
    let q = c.index-kept-index.result in
    let here : slice_get kept i ≡ Some q = slice_get_read kept (length kept) i q refl c.in-Some.ensures.within c.index-kept-index.is in
    let its = at_read (λ x. (d : Checkpoint) × IsAnchoredEnd c.args.checkpoint kept i x d) kept i q here c.in-Some.ensures.some in
    let same : its.0 ≡ e = one_end (sym (found c.args.checkpoint kept i q its.0 here its.1) ∙ found c.args.checkpoint kept n r e at of) in
    subst (λ (d : Checkpoint). All (HasEndedSince cut kept) d.txns) same
    (All-weaker (λ x. names_cut_off cut x ≡ true → contains nat_cmp c.args.pass.now.over x.txn ≡ true) (HasEndedSince cut kept) (λ x ended names. sym (c.requires.ends.over x.txn) ∙ ended names) its.0.txns
    ((c.have_listed_ended.ensures c.args.checkpoint its.0 its.1.its).0 c.if-have_listed_ended.true))

pub returns-clause-some : goal.returns-clause-some
returns-clause-some c =
    let kept = c.args.kept.now in
    let cut = c.args.cut in
    let i = c.in-Some.index in
    let q = c.index-kept-index.result in
    let here : slice_get kept i ≡ Some q = slice_get_read kept (length kept) i q refl c.in-Some.ensures.within c.index-kept-index.is in
    let its = at_read (λ x. (d : Checkpoint) × IsAnchoredEnd c.args.checkpoint kept i x d) kept i q here c.in-Some.ensures.some in
    record {
      place = i;
      number_is = refl;
      here = subst (λ o. IsSomeAnd o (λ x. (d : Checkpoint) × IsAnchoredEnd c.args.checkpoint kept i x d × (All (HasEndedSince cut kept) d.txns → ⊥))) (sym here) (
        its.0,
        its.1,
        λ all. true≢false
            (sym ((c.have_listed_ended.ensures c.args.checkpoint its.0 its.1.its).1
            (All-weaker (HasEndedSince cut kept) (λ x. names_cut_off cut x ≡ true → contains nat_cmp c.args.pass.now.over x.txn ≡ true) (λ x ended names. c.requires.ends.over x.txn ∙ ended names) its.0.txns all))
            ∙ c.if-have_listed_ended.false),
      );
    }
