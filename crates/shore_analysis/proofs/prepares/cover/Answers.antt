use Rattle.std.proofs.Common.{◌≡◌, inl, inr, true, false, refl, sym, ◌∙◌}
use Rattle.shore_analysis.proofs.GranuleLists.{one_of_four, under_page, under_record, under_store, under_volume}
use Rattle.shore_analysis.proofs.prepares.cover.Goals as goal

pub returns-then-has : goal.returns-then-has
returns-then-has c = (λ h. under_record c.args.granules.now c.args.id.now (c.has.ensures.0 c.if-has.true), λ h. refl)

pub returns-then-has-2 : goal.returns-then-has-2
returns-then-has-2 c = (λ h. under_page c.args.granules.now c.args.id.now (c.has-2.ensures.0 c.if-has-2.true), λ h. refl)

pub returns-then-has-3 : goal.returns-then-has-3
returns-then-has-3 c = (λ h. under_store c.args.granules.now c.args.id.now (c.has-3.ensures.0 c.if-has-3.true), λ h. refl)

pub returns : goal.returns
returns c = (
  λ h. under_volume c.args.granules.now c.args.id.now (c.has-4.ensures.0 h),
  λ under. elim (one_of_four c.args.granules.now c.args.id.now under) [
    | inl record_has ↦ absurd (let both : true ≡ false = sym (c.has.ensures.1 record_has) ∙ c.if-has.false in cc)
    | inr rest ↦ elim rest [
      | inl page_has ↦ absurd (let both : true ≡ false = sym (c.has-2.ensures.1 page_has) ∙ c.if-has-2.false in cc)
      | inr more ↦ elim more [
        | inl store_has ↦ absurd (let both : true ≡ false = sym (c.has-3.ensures.1 store_has) ∙ c.if-has-3.false in cc)
        | inr volume_has ↦ c.has-4.ensures.1 volume_has
      ]
    ]
  ],
)
