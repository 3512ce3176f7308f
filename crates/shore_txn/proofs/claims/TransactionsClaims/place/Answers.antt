use Rattle.std.proofs.Common.{◌++◌, sym, ap, ◌∙◌, arith, option_to_list}
use Rattle.shore_txn.proofs.ActivePlaces.{place_read}
use Rattle.shore_txn.proofs.claims.TransactionsClaims.place.Goals as goal

pub overflow_add-result : goal.overflow_add-result
overflow_add-result c =
    let read = place_read c.args.page.now c.args.self.now.active.items c.args.place c.older-older.result c.claim.result c.index-active.result.now c.requires.some c.requires.chain c.index-active.ensures c.older-older.ensures c.claim.ensures in
    omega (arith, read.less, c.ranges.place.fits)

pub newest_of_older-requires : goal.newest_of_older-requires
newest_of_older-requires c =
    let read = place_read c.args.page.now c.args.self.now.active.items c.args.place c.older-older.result c.claim.result c.index-active.result.now c.requires.some c.requires.chain c.index-active.ensures c.older-older.ensures c.claim.ensures in
    omega (arith, read.inside)

pub returns-then-older-gt0-clause-older : goal.returns-then-older-gt0-clause-older
returns-then-older-gt0-clause-older c =
    (place_read c.args.page.now c.args.self.now.active.items c.args.place c.older-older.result c.claim.result c.index-active.result.now c.requires.some c.requires.chain c.index-active.ensures c.older-older.ensures c.claim.ensures).less

pub returns-then-older-gt0-clause-chain : goal.returns-then-older-gt0-clause-chain
returns-then-older-gt0-clause-chain c =
    (place_read c.args.page.now c.args.self.now.active.items c.args.place c.older-older.result c.claim.result c.index-active.result.now c.requires.some c.requires.chain c.index-active.ensures c.older-older.ensures c.claim.ensures).next c.if-older-gt0.true

pub returns-then-older-gt0-clause-kept : goal.returns-then-older-gt0-clause-kept
returns-then-older-gt0-clause-kept c =
    (place_read c.args.page.now c.args.self.now.active.items c.args.place c.older-older.result c.claim.result c.index-active.result.now c.requires.some c.requires.chain c.index-active.ensures c.older-older.ensures c.claim.ensures).kept c.if-older-gt0.true

pub returns-else-older-gt0-clause-kept : goal.returns-else-older-gt0-clause-kept
returns-else-older-gt0-clause-kept c =
    let read = place_read c.args.page.now c.args.self.now.active.items c.args.place c.older-older.result c.claim.result c.index-active.result.now c.requires.some c.requires.chain c.index-active.ensures c.older-older.ensures c.claim.ensures in
    read.last (omega (arith, c.if-older-gt0.false)) ∙ ap (λ l. l ++ option_to_list c.claim.result) (sym c.newest_of_older.ensures.all)
