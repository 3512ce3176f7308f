use Rattle.std.proofs.Common.{◌≡◌, ◌+◌, sym, subst, ◌∙◌}
use Rattle.std.proofs.lemmas.Bool.Decides.{Decides-eqb}
use Rattle.shore_cycles.specs.Reached.{started, txn_at}
use Rattle.shore_cycles.specs.Searching.{IsUnderWay}
use Rattle.shore_cycles.proofs.Searches.{begun_anew, passed_on}
use Rattle.shore_cycles.proofs.search.Search.pass_over.Goals as goal

pub returns-then-eq-clause-under_way : goal.returns-then-eq-clause-under_way
returns-then-eq-clause-under_way c =
    let it : c.args.victim.txn ≡ txn_at c.args.self.now.trail.steps c.args.self.now.index = (Decides-eqb c.args.victim.txn c.txn_at.result).0 (sym c.if-eq.ensures) ∙ c.txn_at.ensures in
    λ rs under. subst (λ vs. IsUnderWay rs vs c.args.self.now.txn c.args.self.now.trail (c.args.self.now.index + 1)) (sym c.in_ok-push.ensures.items)
    (passed_on rs c.args.self.now.victims.items c.args.self.now.txn c.args.self.now.trail c.args.self.now.index c.args.victim under c.requires.some it c.requires.another)

pub returns-in_ok-restart-clause-under_way : goal.returns-in_ok-restart-clause-under_way
returns-in_ok-restart-clause-under_way c =
    λ rs under. subst (λ s. IsUnderWay rs c.push.new.self.items c.args.self.now.txn s 0) (sym c.in_ok-restart.ensures)
    (subst (λ vs. IsUnderWay rs c.push.new.self.items c.args.self.now.txn (started vs c.args.self.now.txn) 0) (sym c.deref.ensures.value)
    (subst (λ vs. IsUnderWay rs vs c.args.self.now.txn (started vs c.args.self.now.txn) 0) (sym c.in_ok-push.ensures.items)
    (begun_anew rs c.args.self.now.victims.items c.args.self.now.txn c.args.self.now.trail c.args.self.now.index c.args.victim under c.requires.another)))
