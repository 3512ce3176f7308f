use Rattle.std.proofs.Common.{◌≢◌, sym, ap, ◌∙◌, subst}
use Rattle.std.specs.Prelude.{All, slice_get}
use Rattle.laws_lives.specs.Views.{IsAmong}
use Rattle.shore_sessions.specs.Waits.{calls_in}
use Rattle.shore_sessions.specs.declared.waits.WaitingCall.{WaitingCall}
use Rattle.shore_sessions.proofs.Marks.{marked_without}
use Rattle.shore_sessions.proofs.Taking.{among_at, none_removed, others_free, removed}
use Rattle.shore_sessions.proofs.waits.Waits.take.Goals as goal

pub returns-in_err-index-clause-left : goal.returns-in_err-index-clause-left
returns-in_err-index-clause-left c = none_removed c.args.session (calls_in c.args.self.now) c.in_err-index.ensures.none

pub returns-in_err-index-clause-free : goal.returns-in_err-index-clause-free
returns-in_err-index-clause-free c = c.in_err-index.ensures.none

pub returns-clause-free : goal.returns-clause-free
returns-clause-free c =
    let at = c.in_ok-index.ensures.some in
    let left = c.remove-2.ensures.items ∙ removed c.args.session (calls_in c.args.self.now) c.args.self.now.once c.in_ok-index.index at.0 at.1 in
    subst (All (λ (w : WaitingCall). w.session ≢ c.args.session)) (sym left) (others_free c.args.session (calls_in c.args.self.now))

pub returns-clause-some : goal.returns-clause-some
returns-clause-some c =
    let found = c.remove-2.result in
    let at = c.in_ok-index.ensures.some in (
      subst (λ (w : WaitingCall). IsAmong w (calls_in c.args.self.now)) (sym c.remove-2.ensures.value) (among_at (calls_in c.args.self.now) c.in_ok-index.index found at.0),
      ap (λ (w : WaitingCall). w.session) c.remove-2.ensures.value ∙ at.1 found,
    )

pub returns-clause-left : goal.returns-clause-left
returns-clause-left c =
    let at = c.in_ok-index.ensures.some in
    c.remove-2.ensures.items ∙ removed c.args.session (calls_in c.args.self.now) c.args.self.now.once c.in_ok-index.index at.0 at.1

pub returns-clause-marks : goal.returns-clause-marks
returns-clause-marks c = λ rs marked n w at lock gone.
    ap (λ xs. slice_get xs n) c.remove.ensures.items
    ∙ marked_without rs (calls_in c.args.self.now) c.args.self.now.let_through.items c.in_ok-index.index marked n w (sym (ap (λ xs. slice_get xs n) c.remove-2.ensures.items) ∙ at) lock gone
