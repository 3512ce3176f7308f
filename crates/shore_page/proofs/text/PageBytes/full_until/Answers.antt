use Rattle.std.proofs.Common.{◌≡◌, ◌<◌, ◌≤◌, ℕ, List, length, get_or, None, inl, inr, sym, ap, subst, ◌∙◌, arith}
use Rattle.std.proofs.lemmas.Bool.{cases_lt}
use Rattle.shore_page.specs.Layout.{PageImages}
use Rattle.shore_page.proofs.text.PageBytes.full_until.Goals as goal

pub loop-slot-init : goal.loop-slot-init
loop-slot-init c =
    let filled = c.self.invariant.filled in
    let is = ap (λ (p : PageImages). p.images) c.self.view_is in
    record {
      from = omega (arith, c.max-slot.ensures);
      there = omega (arith, c.max-slot.ensures, c.requires, filled.there, ap (λ (p : PageImages). length p.images) c.self.view_is);
      full = λ slot from before. elim (cases_lt slot c.self.inside.full) [
        | inl low ↦ (λ none. filled.each slot low (ap (λ l. get_or l slot None) is ∙ none))
        | inr high ↦ absurd (omega (arith, c.max-slot.ensures, from, before, high))
      ];
    }
