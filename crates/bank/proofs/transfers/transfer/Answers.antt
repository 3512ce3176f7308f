use Rattle.std.proofs.Common.{◌++◌}
use Rattle.bank.proofs.Claims.{durable_by, told_both}
use Rattle.bank.proofs.transfers.transfer.Goals as goal

pub returns-clause-told : goal.returns-clause-told
returns-clause-told g c =
    let told = g.C.Client.told in
    let first = told c.args.client.now in
    let b = c.in_ok-begin.ensures.told in
    let taken = c.in_ok-add.ensures.told in
    let given = c.in_ok-add-2.ensures.told in
    let k = c.in_ok-commit.ensures.told in
    let both = taken.0 ++ given.0 in (
      b.0 ++ both ++ k.0,
      told_both first (b.0 ++ both) k.0 (told_both first b.0 both b.1 (told_both (told c.begin.new.client) taken.0 given.0 taken.1 given.1)) k.1,
      (
        taken.0,
        given.0,
        c.in_ok-add.field-0,
        c.in_ok-add-2.field-0,
        taken.3,
        given.3,
        durable_by (g.C.Client.known c.commit.new.client).durable b.3.0 k.2.0 both b.0 k.0 k.2.1 b.3.1 k.2.2,
      ),
    )
