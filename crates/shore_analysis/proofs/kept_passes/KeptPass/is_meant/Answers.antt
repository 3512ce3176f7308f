use Rattle.std.proofs.Common.{◌≡◌, ◌<◌, ◌≤◌, arith}
use Rattle.shore_types.specs.declared.layout.TheConstants.{LAST_TXN}
use Rattle.shore_analysis.proofs.KeptMeans.{of_nobody}
use Rattle.shore_analysis.proofs.kept_passes.KeptPass.is_meant.Goals as goal

pub returns-then-txn-ge-LAST_TXN : goal.returns-then-txn-ge-LAST_TXN
returns-then-txn-ge-LAST_TXN c =
    let beyond : LAST_TXN ≤ c.args.logged.now.txn = omega (arith, c.if-txn-ge-LAST_TXN.true, c.txn.view_is) in
    (λ h. absurd cc, λ m. let number = m.number in absurd (omega (arith, beyond, number)))

pub returns-then-not-says_in_bounds : goal.returns-then-not-says_in_bounds
returns-then-not-says_in_bounds c = (λ h. absurd cc, λ m. let yes = c.says_in_bounds.ensures.1 m.bounds in let no = c.if-not-says_in_bounds.true in absurd cc)

pub returns-then-not-has_sizes : goal.returns-then-not-has_sizes
returns-then-not-has_sizes c = (λ h. absurd cc, λ m. let yes = c.has_sizes.ensures.1 m.sizes in let no = c.if-not-has_sizes.true in absurd cc)

pub returns-then-txn-eq0 : goal.returns-then-txn-eq0
returns-then-txn-eq0 c =
    let g = c.args.geometry.now in
    let before = c.args.before.now in
    let r = c.args.logged.now in
    let none : r.txn ≡ 0 = omega (arith, c.if-txn-eq0.true, c.txn.view_is) in
    let number : r.txn < LAST_TXN = omega (arith, c.if-txn-ge-LAST_TXN.false, c.txn.view_is) in
    let bounds = c.says_in_bounds.ensures.0 c.if-not-says_in_bounds.false in
    let sizes = c.has_sizes.ensures.0 c.if-not-has_sizes.false in
    (λ h. of_nobody g c.args.cut before r none number bounds sizes (c.of_nobody.ensures.0 h), λ m. c.of_nobody.ensures.1 (m.of_nobody none))

pub returns : goal.returns
returns c =
    let g = c.args.geometry.now in
    let before = c.args.before.now in
    let r = c.args.logged.now in
    let bounds = c.says_in_bounds.ensures.0 c.if-not-says_in_bounds.false in
    let sizes = c.has_sizes.ensures.0 c.if-not-has_sizes.false in
    let one : 0 < r.txn = omega (arith, c.if-txn-eq0.false, c.txn.view_is) in
    let number : r.txn < LAST_TXN = omega (arith, c.if-txn-ge-LAST_TXN.false, c.txn.view_is) in
    c.stands.ensures one number bounds sizes (c.standing-standing.ensures g before one c.requires.knows) (c.requires.knows.meant r.txn one)
