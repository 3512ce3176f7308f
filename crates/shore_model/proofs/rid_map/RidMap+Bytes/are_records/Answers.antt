use Rattle.std.proofs.Common.{◌≡◌, ◌∙◌, List, true, false, refl, sym, subst}
use Rattle.std.specs.Prelude.{ℕ, All, Contains}
use Rattle.shore_types.specs.declared.ids.Rid.{Rid}
use Rattle.shore_model.specs.Records.{AreRecords, IsRecord}
use Rattle.shore_model.proofs.RecordLemmas.{SeenFrom-none, SeenFrom-more, SeenFrom-all, SeenFrom-next, records_from_all, record_of}
use Rattle.shore_model.proofs.rid_map.RidMap+Bytes.are_records.Goals as goal

pub loop-id-init : goal.loop-id-init
loop-id-init c = SeenFrom-none _ _

pub loop-id-preserved : goal.loop-id-preserved
loop-id-preserved c = SeenFrom-more c.loop-id.invariant _ _ c.in-Some.ensures.steps (c.is_record.ensures.0 c.if-not-is_record.false)

pub returns : goal.returns
returns c =
    let g = c.args.geometry.now in
    let done = c.loop-id.invariant in
    let left = c.in-None.ensures.steps.0 in
    let same = c.into_iter-id-iterator.ensures.into_iter_gives ∙ c.iter-id-items.ensures.rest in
    let all = subst (All (λ (e : Rid × List ℕ). IsRecord g e.0 e.1)) same (SeenFrom-all (rw left at done)) in
    (λ _. subst (AreRecords g) c.self.view_is (records_from_all g c.self.inside.entries c.iter-id-items.ensures.ordered all), λ _. refl)

pub returns-then-not-is_record : goal.returns-then-not-is_record
returns-then-not-is_record c =
    let g = c.args.geometry.now in
    let refused : c.is_record.result ≡ false = c.if-not-is_record.true in
    let same = c.into_iter-id-iterator.ensures.into_iter_gives ∙ c.iter-id-items.ensures.rest in
    let at = subst (λ (es : List (Rid × List ℕ)). Contains es (c.in-Some.id.now, c.in-Some.bytes.now)) same
    (SeenFrom-next c.loop-id.invariant (c.in-Some.id.now, c.in-Some.bytes.now) _ c.in-Some.ensures.steps) in (
      λ h. cc,
      λ h.
          let found : c.is_record.result ≡ true = c.is_record.ensures.1
          (record_of g c.self.inside.entries c.iter-id-items.ensures.ordered (subst (AreRecords g) (sym c.self.view_is) h) c.in-Some.id.now c.in-Some.bytes.now at) in
          cc,
    )
