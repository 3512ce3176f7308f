use Rattle.std.proofs.Common.{◌≡◌}
use Rattle.std.specs.Prelude.{is_some}
use Rattle.std.specs.BTreeMap.{get}
use Rattle.std.specs.Ordering.{nat_cmp}
use Rattle.shore_analysis.proofs.KeptEarliest.{least_from}
use Rattle.shore_analysis.proofs.kept_passes.KeptPass.first_awaited.Given as goal

abbrev pub invariant-loop-txn : goal.invariant-loop-txn
invariant-loop-txn l = least_from (λ t. is_some (get nat_cmp l.fn.self.running t)) l.txn-iterator l.first ≡ least_from (λ t. is_some (get nat_cmp l.fn.self.running t)) l.initial.txn-iterator l.initial.first
