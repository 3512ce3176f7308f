use Rattle.std.proofs.Common.{◌≡◌, ◌<◌, ◌-◌, length, ap, sym, subst, ◌∙◌, arith, true, false}
use Rattle.std.proofs.lemmas.Bool.Decides.{Decides-eqb}
use Rattle.std.proofs.lemmas.List.{get_or_default}
use Rattle.shore_cycles.specs.Marks.{is_marked, mark_at}
use Rattle.shore_cycles.proofs.MarkLemmas.{found_mark, left_none}
use Rattle.shore_cycles.proofs.marks.Marks.has.Goals as goal

pub returns-then-eq : goal.returns-then-eq
returns-then-eq c =
    let long = c.loop-number.invariant.within in
    let some = c.loop-number-test.true in
    let within : c.loop-number.number - 1 < length c.self.inside.marks.items = omega arith in
    let read = c.index-mark.ensures ∙ get_or_default c.self.inside.marks.items (c.loop-number.number - 1) c.index-mark.result.now (record { txn = 0; earlier = 0 }) within in
    let same : (mark_at c.self.inside.marks.items (c.loop-number.number - 1)).txn ≡ c.args.txn = ap (λ m. m.txn) (sym read) ∙ (Decides-eqb c.index-mark.result.now.txn c.args.txn).0 (sym c.eq.ensures ∙ c.if-eq.true) in
    sym (subst (λ marks. is_marked marks c.args.txn ≡ true) c.self.view_is (found_mark c.self.inside.marks.items (c.loop-number.number - 1) c.args.txn within same))

pub returns : goal.returns
returns c = sym (subst (λ marks. is_marked marks c.args.txn ≡ false) c.self.view_is (left_none c.self.inside.marks.items c.args.txn c.loop-number.number c.loop-number.invariant (λ some. let none = c.loop-number-test.false in omega arith)))
