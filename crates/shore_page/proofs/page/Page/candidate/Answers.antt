use Rattle.std.proofs.Common.{◌≡◌, ◌<◌, ◌≤◌, ℕ, List, inl, inr, length, sym, ap, ◌∙◌, subst, arith}
use Rattle.shore_types.specs.Versions.{record_limit, slot_limit}
use Rattle.std.proofs.lemmas.Bool.{cases_lt}
use Rattle.shore_page.specs.Slots.{Slot, PageState, image_at_slot}
use Rattle.shore_page.specs.Room.{IsCandidate}
use Rattle.shore_page.proofs.PageLemmas.{length-slots}
use Rattle.shore_page.proofs.RoomLemmas.{need_behind}
use Rattle.shore_page.proofs.CandidateLemmas.{candidate_behind, image_read}
use Rattle.shore_page.proofs.page.Page.candidate.Goals as goal
use Rattle.shore_page.proofs.page.Page.candidate.Goals.{then-slots-slot_limit-via-then-slots-slot_limit, then-slots-slot_limit-via-else-slots-slot_limit+then-bytes-free}

pub full_until-slot-requires : goal.full_until-slot-requires
full_until-slot-requires c =
    omega (arith, length-slots c.self.inside.text.images c.self.inside.claims.items c.self.invariant.same, ap (λ (p : PageState). length p.slots) c.self.view_is, c.slot_count-slots.ensures.count)

pub loop-slot-init : goal.loop-slot-init
loop-slot-init c =
    let images = c.self.inside.text.images in
    let cs = c.self.inside.claims.items in
    let is = ap (λ (p : PageState). p.slots) c.self.view_is in
    λ other from to candidate.
    c.full_until-slot.ensures.full other from to (sym (image_read images cs other c.self.invariant.same (omega (arith, c.full_until-slot.ensures.there)))
    ∙ ap (λ (l : List Slot). image_at_slot l other) is ∙ candidate.empty)

pub returns-then-slots-slot_limit-clause-none : goal.returns-then-slots-slot_limit-clause-none
returns-then-slots-slot_limit-clause-none c = λ none other from candidate.
    let version : c.version-version.result ≡ c.args.self.now.version = c.version-version.ensures ∙ ap (λ (p : PageState). p.version) c.self.view_is in elim (cases_lt other c.slot_count-slots.result) [
      | inl low ↦ c.loop-slot.invariant other from (omega (arith, c.loop-slot-test.false)) candidate
      | inr high ↦ elim c.then-slots-slot_limit.branch [
        | then-slots-slot_limit-via-then-slots-slot_limit w ↦ absurd (omega (arith, w.if-slots-slot_limit.true, candidate.fits.there, c.slot_limit.ensures.is, ap slot_limit version))
        | then-slots-slot_limit-via-else-slots-slot_limit+then-bytes-free w ↦ (
            let need = need_behind c.args.self.now.slots other c.args.bytes (omega (arith, c.slot_count-slots.ensures.count)) in
            absurd (omega (arith, w.if-bytes-free.true, candidate.fits.room, candidate.there, c.slot_count-slots.ensures.count, c.free_bytes-free.ensures.free)))
      ]
    ]

pub returns-clause-found : goal.returns-clause-found
returns-clause-found c =
    let version : c.version-version.result ≡ c.args.self.now.version = c.version-version.ensures ∙ ap (λ (p : PageState). p.version) c.self.view_is in
    let few : length c.args.self.now.slots < slot_limit c.args.self.now.version = omega (arith, c.slot_count-slots.ensures.count, c.if-slots-slot_limit.false, c.slot_limit.ensures.is, ap slot_limit version) in
    let short : c.args.bytes ≤ record_limit c.args.self.now.version = omega (arith, c.if-bytes-record_limit.false, c.record_limit.ensures.is, ap record_limit version) in
    record {
      behind = c.if-from-slots.false;
      candidate = subst (λ (n : ℕ). IsCandidate c.args.self.now.version c.args.self.now.slots n c.args.bytes) (sym c.slot_count-slots.ensures.count)
          (candidate_behind c.args.self.now.version c.args.self.now.slots c.args.bytes c.free_bytes-free.result few short c.free_bytes-free.ensures.free c.if-bytes-free.false);
      passed = λ other from to. c.loop-slot.invariant other from (omega (arith, c.loop-slot-test.false));
    }
