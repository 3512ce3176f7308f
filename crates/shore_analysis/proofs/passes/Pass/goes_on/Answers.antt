use Rattle.std.proofs.Common.{◌≡◌, ◌≤◌, inl, inr, length, arith}
use Rattle.std.proofs.lemmas.Bool.{cases_lt, le-leb, leb-true}
use Rattle.shore_types.specs.declared.layout.TheConstants.{MAX_TRANSACTIONS}
use Rattle.shore_analysis.proofs.Counted.{few_enough, too_many}
use Rattle.shore_analysis.proofs.passes.Pass.goes_on.Goals as goal

pub returns-clause-test : goal.returns-clause-test
returns-clause-test c =
    let g = c.args.geometry.now in
    let before = c.args.before.now in
    let r = c.args.logged.now in
    let meant = c.is_meant.ensures.0 c.if-not-is_meant.false in
    let knows = c.in_ok-take_in.ensures g c.requires.knows c.requires.meant meant in
    let running = c.take_in.new.self.running in
    let count : c.len.result ≡ length running.entries = c.len.ensures.len in (
      λ h.
          let few : c.len.result ≤ MAX_TRANSACTIONS = leb-true c.len.result MAX_TRANSACTIONS h in
          (meant, few_enough g before r c.requires.meant meant running knows.running c.len.ensures.ordered (omega (arith, few, count))),
      λ goes. elim (cases_lt MAX_TRANSACTIONS c.len.result) [
        | inl many ↦ absurd (goes.1 (too_many g before r c.requires.meant meant running knows.running c.len.ensures.ordered (omega (arith, many, count))))
        | inr few ↦ le-leb c.len.result MAX_TRANSACTIONS few
      ],
    )

pub returns-clause-knows : goal.returns-clause-knows
returns-clause-knows c h =
    let meant = c.is_meant.ensures.0 c.if-not-is_meant.false in
    c.in_ok-take_in.ensures c.args.geometry.now c.requires.knows c.requires.meant meant
