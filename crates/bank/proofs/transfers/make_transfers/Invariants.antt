use Rattle.std.proofs.Common.{◌≤◌}
use Rattle.bank.specs.Claims.{AreTransfers}
use Rattle.bank.proofs.transfers.make_transfers.Given as goal

abbrev pub invariant-loop : goal.invariant-loop
invariant-loop g l = (l.made ≤ 400) × AreTransfers (g.C.Client.known l.client).durable l.account l.made (g.C.Client.told l.client)
