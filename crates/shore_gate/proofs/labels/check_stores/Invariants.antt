use Rattle.std.proofs.Common.{◌≡◌, ◌+◌, ◌*◌, ◌≤◌, drop, sum}
use Rattle.shore_gate.specs.Checks.{judged}
use Rattle.shore_gate.specs.Label.{store_checks}
use Rattle.shore_gate.proofs.labels.check_stores.Given as goal

abbrev pub invariant-loop-pages : goal.invariant-loop-pages
invariant-loop-pages l = record {
  offset : l.offset ≡ 32 + 4 * l.pages-index;
  few : l.total ≤ 65536;
  left : l.total + sum (drop l.pages-index l.stores) ≡ sum l.stores;
  same : judged (store_checks l.device l.offset l.total (drop l.pages-index l.stores)) ≡ judged (store_checks l.device 32 0 l.stores);
}
