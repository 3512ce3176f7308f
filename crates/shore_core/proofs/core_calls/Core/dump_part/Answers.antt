use Rattle.std.proofs.Common.{◌≡◌, ◌⊎◌, inr, IsTrue, MatchResult, sym, subst, refl}
use Rattle.shore_types.specs.Layout.{HasPage}
use Rattle.shore_types.specs.declared.faults.Fault.{Fault}
use Rattle.shore_types.specs.declared.faults.Fault.TheVariants as fault
use Rattle.laws_calls.specs.StateChanges.{IsPageFault, after_refusal}
use Rattle.shore_core.specs.Cores.{CoreComesTo, geometry_of, has_failed}
use Rattle.shore_core.specs.Replies.{Stays}
use Rattle.shore_core.proofs.Taking.{map_err}
use Rattle.shore_core.proofs.Serving.{serves_on, serves_still}
use Rattle.shore_core.proofs.core_calls.Core.dump_part.Goals as goal

pub returns-in-Err-clause-left : goal.returns-in-Err-clause-left
returns-in-Err-clause-left g c front disk before s plain is safe over =
    let mid = c.part_from-next.new.self in
    let stays = subst (λ r. Stays mid r front before s plain) c.in-Err.is (c.part_from-next.ensures.stays front disk before s plain is safe over) in
    subst (λ r. MatchResult r (λ _. CoreComesTo c.note_failure.new.self front before plain s) (λ f. CoreComesTo c.note_failure.new.self front before plain (after_refusal f s))) (sym c.in-Err.is)
    (c.note_failure.ensures.left front before s plain stays)

pub returns-in-Err-clause-refused : goal.returns-in-Err-clause-refused
returns-in-Err-clause-refused g c front disk before s plain is safe over =
    map_err (λ (f : Fault). (f ≡ fault.Memory) ⊎ IsPageFault s f)
    (λ (f : Fault). (IsTrue (has_failed c.args.self.now) × (f ≡ fault.Failed)) ⊎ ((f ≡ fault.NoPage) × ¬ HasPage (geometry_of c.args.self.now) c.args.first) ⊎ (f ≡ fault.Memory) ⊎ IsPageFault s f)
    c.part_from-next.result (λ f other. inr (inr other)) (c.part_from-next.ensures.refused c.if-self.false front disk before s plain is safe over)

pub returns-in_default-clause-left : goal.returns-in_default-clause-left
returns-in_default-clause-left g c front disk before s plain is safe over =
    let mid = c.part_from-next.new.self in
    let stays = subst (λ r. Stays mid r front before s plain) c.in_default.is (c.part_from-next.ensures.stays front disk before s plain is safe over) in
    subst (λ r. MatchResult r (λ _. CoreComesTo mid front before plain s) (λ f. CoreComesTo mid front before plain (after_refusal f s))) (sym c.in_default.is) stays

pub returns-in_default-clause-shown : goal.returns-in_default-clause-shown
returns-in_default-clause-shown g c front disk before s plain is safe over = c.part_from-next.ensures.shown c.if-self.false front disk before s plain is safe over

pub returns-in_default-clause-short : goal.returns-in_default-clause-short
returns-in_default-clause-short g c front disk before s plain is safe over = c.part_from-next.ensures.short c.if-self.false front disk before s plain is safe over

pub returns-then-self-clause-stops : goal.returns-then-self-clause-stops
returns-then-self-clause-stops g c front disk before s plain is safe over d offset same = absurd (let clash : fault.Failed ≡ fault.Damaged d offset = same in cc)

pub returns-then-not-has_page-clause-stops : goal.returns-then-not-has_page-clause-stops
returns-then-not-has_page-clause-stops g c front disk before s plain is safe over d offset same = absurd (let clash : fault.NoPage ≡ fault.Damaged d offset = same in cc)

pub returns-in-Err-clause-stops : goal.returns-in-Err-clause-stops
returns-in-Err-clause-stops g c front disk before s plain is safe over = c.part_from-next.ensures.stops c.if-self.false front disk before s plain is safe over

pub returns-in_default-clause-stops : goal.returns-in_default-clause-stops
returns-in_default-clause-stops g c front disk before s plain is safe over = c.part_from-next.ensures.stops c.if-self.false front disk before s plain is safe over

pub returns-then-self-clause-serves : goal.returns-then-self-clause-serves
returns-then-self-clause-serves g c = serves_still _ _ _ _ _ refl refl refl refl tt

pub returns-then-not-has_page-clause-serves : goal.returns-then-not-has_page-clause-serves
returns-then-not-has_page-clause-serves g c = serves_still _ _ _ _ _ refl refl refl refl tt

pub returns-in-Err-clause-serves : goal.returns-in-Err-clause-serves
returns-in-Err-clause-serves g c = serves_on _ _ _ c.part_from-next.new.self _ _ c.note_failure.ensures.heap c.note_failure.ensures.durable c.note_failure.ensures.tail c.part_from-next.ensures.serves

pub returns-in_default-clause-serves : goal.returns-in_default-clause-serves
returns-in_default-clause-serves g c = c.part_from-next.ensures.serves
