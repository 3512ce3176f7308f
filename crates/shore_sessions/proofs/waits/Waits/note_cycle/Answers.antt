use Rattle.std.proofs.Common.{refl, set, subst, sym, ap, ◌∙◌}
use Rattle.std.specs.Prelude.{slice_get}
use Rattle.laws_lives.specs.Views.{IsAmong}
use Rattle.shore_sessions.specs.Calls.{awaits_record}
use Rattle.shore_sessions.specs.Waits.{calls_in}
use Rattle.shore_sessions.specs.declared.waits.WaitingCall.{WaitingCall}
use Rattle.shore_sessions.proofs.Marks.{marked_noted}
use Rattle.shore_sessions.proofs.NotedCalls.{read_same, set_noted, told}
use Rattle.shore_sessions.proofs.Taking.{among_at}
use Rattle.shore_sessions.proofs.waits.Waits.note_cycle.Goals as goal

pub returns-clause-noted : goal.returns-clause-noted
returns-clause-noted c =
    let calls = calls_in c.args.self.now in
    let i = c.in_ok-index.index in
    let at = c.in_ok-index.ensures.some in
    let found = c.index.result.now in
    let lent = c.index_mut.result.now in
    ap (λ w. set calls i (told found.session c.args.cycle w)) c.index_mut.ensures.value
    ∙ set_noted found.session c.args.cycle calls c.args.self.now.once i at.0 (λ d. ap (λ (w : WaitingCall). w.session) (read_same calls i d found at.0 ∙ sym c.index.ensures)) lent

pub returns-clause-some : goal.returns-clause-some
returns-clause-some c =
    let calls = calls_in c.args.self.now in
    let i = c.in_ok-index.index in
    let at = c.in_ok-index.ensures.some in
    let found = c.index.result.now in (
      found,
      subst (λ (w : WaitingCall). IsAmong w calls) (sym c.index.ensures) (among_at calls i found at.0),
      refl,
      ap (λ (w : WaitingCall). w.txn) c.index.ensures ∙ at.1 found,
      ap awaits_record c.index.ensures ∙ at.2 found,
    )

pub returns-clause-marks : goal.returns-clause-marks
returns-clause-marks c = λ rs marked n w at lock gone.
    marked_noted rs c.index.result.now.session c.args.cycle (calls_in c.args.self.now) c.args.self.now.let_through.items marked n w (sym (ap (λ xs. slice_get xs n) (returns-clause-noted c)) ∙ at) lock gone
