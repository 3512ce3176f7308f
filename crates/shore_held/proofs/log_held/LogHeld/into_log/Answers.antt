use Rattle.std.proofs.Common.{Bool, ap, sym, ◌∙◌}
use Rattle.shore_log.specs.PlainTails.{told_in}
use Rattle.shore_held.specs.Logs.{LogState, aside_of}
use Rattle.shore_held.proofs.Rooms.{is_spelled}
use Rattle.shore_held.proofs.log_held.LogHeld.into_log.Goals as goal

pub returns-then-ready-clause-spelled : goal.returns-then-ready-clause-spelled
returns-then-ready-clause-spelled g c none = is_spelled c.self.inside.log (ap (λ s. s.textless) c.self.view_is ∙ none)

pub returns-clause-spelled : goal.returns-clause-spelled
returns-clause-spelled g c none = is_spelled c.self.inside.log (ap (λ s. s.textless) c.self.view_is ∙ none)

pub returns-then-ready-clause-knows : goal.returns-then-ready-clause-knows
returns-then-ready-clause-knows g c waits none = c.self.invariant.12 c.if-ready.true

pub returns-clause-knows : goal.returns-clause-knows
returns-clause-knows g c waits none = c.tell_room.ensures.knows (ap (λ s. s.waits) c.self.view_is ∙ waits) (is_spelled c.self.inside.log (ap (λ s. s.textless) c.self.view_is ∙ none))

pub returns-then-ready-clause-aside : goal.returns-then-ready-clause-aside
returns-then-ready-clause-aside g c waits none =
    let told = told_in c.self.inside.next in
    sym (ap (λ (s : LogState). s.aside) (sym c.self.view_is) ∙ ap (λ (b : Bool). aside_of b told) c.if-ready.true)

pub returns-clause-aside : goal.returns-clause-aside
returns-clause-aside g c waits none =
    let told = told_in c.self.inside.next in
    c.tell_room.ensures.aside (ap (λ s. s.waits) c.self.view_is ∙ waits) (is_spelled c.self.inside.log (ap (λ s. s.textless) c.self.view_is ∙ none))
    ∙ sym (ap (λ (s : LogState). s.aside) (sym c.self.view_is) ∙ ap (λ (b : Bool). aside_of b told) c.if-ready.false)

pub returns-clause-waits : goal.returns-clause-waits
returns-clause-waits g c = (c.tell_room.ensures.same.1 ∙ ap (λ s. s.waits) c.self.view_is, c.tell_room.ensures.same.0 ∙ c.self.invariant.4)
