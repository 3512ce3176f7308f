use Rattle.std.proofs.Common.{◌≡◌, List, [], ◌∷◌, None, length, refl, sym, ap, subst, ◌∙◌, arith}
use Rattle.shore_cycles.specs.declared.victims.Victim.{Victim}
use Rattle.shore_sessions.specs.Noting.{AreNoted, HasSessionsOf, told_cycle, victim_noted}
use Rattle.shore_sessions.proofs.NotedVictims.{owners_on, owners_stay, stands_locked}
use Rattle.shore_sessions.proofs.control.Control.note_victims.Goals as goal

no_element : (vs : List Victim) → length vs ≡ 0 → vs ≡ []
no_element [] none = refl
no_element (v ∷ vs) none = absurd (omega (arith, none))

pub loop-victim-init : goal.loop-victim-init
loop-victim-init c =
    let all : c.into_iter-victim-iterator.result.rest.items ≡ c.args.victims.items = c.into_iter-victim-iterator.ensures.into_iter_gives.0 in
    record {
      told = ap (told_cycle c.args.txn None) all;
      keeps = owners_stay c.args.self.now;
      stands = λ s new stands free noted. (s, stands, subst (λ (vs : List Victim). AreNoted c.args.session c.args.txn s vs new) (sym all) noted);
    }

pub loop-victim-preserved : goal.loop-victim-preserved
loop-victim-preserved c =
    let before = c.loop-victim in
    let v = c.in-Some.victim in
    let rest = c.next.new.self.rest.items in
    let parts : before.victim-iterator.rest.items ≡ v ∷ rest = c.in-Some.ensures.steps.0 in
    record {
      told = ap (λ o. told_cycle c.args.txn o rest) c.note_victim-told.ensures.told ∙ ap (told_cycle c.args.txn before.told) (sym parts) ∙ before.invariant.told;
      keeps = owners_on c.args.self.now before.self c.note_victim-told.new.self before.invariant.keeps c.note_victim-told.ensures.keeps;
      stands = λ s new stands free noted.
          let so_far = before.invariant.stands s new stands free noted in
          let first = subst (λ (vs : List Victim). AreNoted c.args.session c.args.txn so_far.0 vs new) parts so_far.2 in (
            victim_noted so_far.0 first.0 v.cycle,
            c.note_victim-told.ensures.stands so_far.0 first.0 so_far.1 first.1 (before.invariant.keeps.free c.args.session free),
            first.2,
          );
    }

pub returns-clause-stands : goal.returns-clause-stands
returns-clause-stands c s new stands free noted =
    let so_far = c.loop-victim.invariant.stands s new stands free noted in
    let left = c.loop-victim.victim-iterator.rest in
    let none : left.items ≡ [] = no_element left.items (sym left.ok.0 ∙ c.in-None.ensures.steps.0) in
    let last = subst (λ (vs : List Victim). AreNoted c.args.session c.args.txn so_far.0 vs new) none so_far.2 in
    subst (HasSessionsOf c.loop-victim.self) (sym last.1) (stands_locked c.loop-victim.self so_far.0 last.0 so_far.1)
