use Rattle.std.proofs.Common.{true≢false, rules, ◌≡◌, ◌++◌, ℕ, false, ap, sym, subst, ◌∙◌, append-nil}
use Rattle.shore_log.specs.Settled.{records_of_log}
use Rattle.shore_words.specs.declared.rule.Known.{Known}
use Rattle.shore_held.specs.Logs.{IsKept}
use Rattle.shore_held.proofs.log_held.LogHeld.new.Goals as goal

pub invariant_of-result : goal.invariant_of-result
invariant_of-result g c =
    let log = c.args.log in
    let none = c.new-next.ensures.waiting in
    let aim : c.args.seat.anchor.aim ≡ (0, 0) = ap (λ (k : Known). k.aim) c.requires.seat.1 in
    let known : c.args.seat.anchor ≡ record { checkpoint = log.anchors.anchor.checkpoint; tail = log.anchors.anchor.tail; aim = c.args.seat.anchor.aim } =
    c.requires.seat.1 ∙ (λ t. record { checkpoint = log.anchors.anchor.checkpoint; tail = log.anchors.anchor.tail; aim = sym aim t }) in
    let list = ap (λ l. records_of_log log ++ l) none ∙ append-nil (records_of_log log) ∙ c.requires.before.0 in
    (c.requires.queue.0, c.requires.queue.1, search rules, search rules, search rules, c.requires.before.2, c.requires.seat.0, known, c.requires.seat.2, c.requires.long, (λ start honest. subst (λ (x : ℕ × ℕ). ∥ IsKept g.B.Named.geometry g.B.Named.log_bytes log false x ∥₁) (sym aim) (c.requires.kept start honest)), (λ _. aim), (λ ready. absurd (true≢false (sym ready))))
