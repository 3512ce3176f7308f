use Rattle.std.proofs.Common.{◌≡◌, ◌≢◌, sym, ap, ◌∙◌}
use Rattle.std.proofs.lemmas.Bool.{eqb-true, eqb-false}
use Rattle.shore_sessions.specs.Calls.{awaits_record, cycle_noted}
use Rattle.shore_sessions.specs.Controls.{waits_in}
use Rattle.shore_sessions.specs.declared.waits.WaitingCall.{WaitingCall}
use Rattle.shore_sessions.proofs.NotedVictims.{asker_is_its, none_asks, none_to_note, stands_noted}
use Rattle.shore_sessions.proofs.Taking.{among_all}
use Rattle.shore_sessions.proofs.control.Control.note_victim.Goals as goal
use Rattle.std.specs.Prelude.{true}

pub returns-then-eq-clause-stands : goal.returns-then-eq-clause-stands
returns-then-eq-clause-stands c s b stands notable free =
    let v = c.args.victim in
    let own : b.txn ≡ c.args.txn = notable.number ∙ eqb-true v.txn c.args.txn (sym c.eq.ensures ∙ c.if-eq.true) in
    stands_noted c.args.self.now s stands c.args.session c.args.txn v b notable c.doom.new.self
    (c.doom.ensures.stands s b v.cycle stands.txns notable.seat (notable.own own)) c.doom.ensures.rolled
    (c.doom.ensures.waits ∙ none_to_note c.args.self.now s stands c.args.session c.args.txn v b notable own free)

pub returns-in-Some-clause-stands : goal.returns-in-Some-clause-stands
returns-in-Some-clause-stands c s b stands notable free =
    let v = c.args.victim in
    let asker = c.in-Some.ensures.some in
    let its : b.session ≡ c.in-Some.waiter = asker_is_its c.args.self.now s stands c.args.session c.args.txn v b notable asker.0 asker.1 asker.3 asker.4 ∙ asker.2 in
    stands_noted c.args.self.now s stands c.args.session c.args.txn v b notable c.doom-in-Some.new.self
    (c.doom-in-Some.ensures.stands s b v.cycle stands.txns notable.seat its) c.doom-in-Some.ensures.rolled
    (c.doom-in-Some.ensures.waits ∙ c.in-Some.ensures.noted ∙ ap (λ t. cycle_noted t v.cycle (waits_in c.args.self.now)) (sym its))

pub returns-in_default-clause-stands : goal.returns-in_default-clause-stands
returns-in_default-clause-stands c s b stands notable free =
    let v = c.args.victim in
    let other : b.txn ≢ c.args.txn = λ same. eqb-false v.txn c.args.txn (sym c.eq.ensures ∙ c.if-eq.false) (sym notable.number ∙ same) in
    absurd (none_asks c.args.self.now s stands c.args.session c.args.txn v b notable other
    (λ w m. among_all (λ (w : WaitingCall). w.txn ≡ v.txn → awaits_record w ≡ true) (waits_in c.args.self.now) c.in_default.ensures.none w m))
