use Rattle.std.proofs.Common.{◌≡◌, true, false, refl, sym, ap, subst, ◌∙◌}
use Rattle.laws_lives.specs.Views.{IsAmong}
use Rattle.shore_txn.specs.Txns.{state_of}
use Rattle.shore_txn.specs.Transactions as table
use Rattle.shore_txn.proofs.ActiveSteps.{one_at_number}
use Rattle.shore_txn.proofs.OneOfMany.{among_middle}
use Rattle.shore_sessions.specs.Controls.{locks_in, txns_in}
use Rattle.shore_sessions.proofs.AnswerSteps.{control_answered, lasts_answered, none_prepares, own_prepares, rolled_answered, txns_answered}
use Rattle.shore_sessions.proofs.control.Control.end_prepare.Goals as goal
use Rattle.shore_sessions.proofs.control.Control.end_prepare.Goals.{in-Preparing, in_default-matches}

clash : true ≡ false → ⊥
clash e = cc

pub returns-in_default-clause-stands : goal.returns-in_default-clause-stands
returns-in_default-clause-stands c s t global own was works is = absurd (none_prepares (txns_in c.args.self.now) s was.txns c.args.session t global is c.in_default.ensures.none)

pub returns-then-not-matches-clause-stands : goal.returns-then-not-matches-clause-stands
returns-then-not-matches-clause-stands c s t global own was works is =
    let txns = txns_in c.args.self.now in
    let of = c.in-Some.ensures.own c.txn.result.now c.txn.ensures.among c.txn.ensures.number in
    let its = own_prepares txns s was.txns c.args.session t global is c.txn.result.now c.txn.ensures.among of in
    elim c.match-matches.branch [
      | in-Preparing w ↦ absurd (clash (sym w.matches-is ∙ c.if-not-matches.true))
      | in_default-matches w ↦ absurd (w.in_default-matches.not-Preparing (c.state.ensures ∙ its.1))
    ]

pub note_answer-requires-clause-preparing : goal.note_answer-requires-clause-preparing
note_answer-requires-clause-preparing c u m at =
    let txns = txns_in c.args.self.now in
    ap state_of (one_at_number (table.txns_in txns) txns.numbers u c.txn.result.now m c.txn.ensures.among (at ∙ sym c.txn.ensures.number))
    ∙ sym c.state.ensures
    ∙ elim c.match-matches.branch [
      | in-Preparing w ↦ w.in-Preparing.is
      | in_default-matches w ↦ absurd (clash (sym c.if-not-matches.false ∙ w.matches-is))
    ]

pub returns-clause-stands : goal.returns-clause-stands
returns-clause-stands c s t global own was works is =
    let old = txns_in c.args.self.now in
    let new = c.note_answer.new.self in
    let one = c.note_answer.ensures.answered in
    let of = c.in-Some.ensures.own c.txn.result.now c.txn.ensures.among c.txn.ensures.number in
    let its = own_prepares old s was.txns c.args.session t global is c.txn.result.now c.txn.ensures.among of in
    let there = subst (IsAmong one.before) (sym one.was) (among_middle one.newer one.older one.before) in
    let same = one_at_number (table.txns_in old) old.numbers one.before c.txn.result.now there c.txn.ensures.among (one.txn ∙ sym c.txn.ensures.number) in
    let waits = ap state_of same ∙ its.1 in
    control_answered c.args.self.now _ s was own c.args.self.now.waits.once c.args.session t global is
    (txns_answered old new one waits c.note_answer.ensures.undos c.note_answer.ensures.doubts c.note_answer.ensures.next c.note_answer.ensures.room s was.txns c.args.session t global
    (sym its.0 ∙ c.txn.ensures.number))
    (rolled_answered old new one waits) refl c.take.ensures.left

pub returns-clause-lasts : goal.returns-clause-lasts
returns-clause-lasts c = lasts_answered (txns_in c.args.self.now) c.note_answer.new.self c.note_answer.ensures.answered

pub invariant_of-self-clause-marked : goal.invariant_of-self-clause-marked
invariant_of-self-clause-marked c = c.take.ensures.marks (locks_in c.args.self.now).requests c.args.self.now.marked
