use Rattle.std.proofs.Common.{◌≡◌, drop}
use Rattle.shore_locks.specs.LetThrough.{Tells}
use Rattle.shore_locks.proofs.Tellings.{Quiet}
use Rattle.shore_cycles.specs.Cycles.{after_victims}
use Rattle.shore_cycles.proofs.victims.take_back.Given as goal

abbrev pub invariant-loop-victim : goal.invariant-loop-victim
invariant-loop-victim l = record {
  same_limit : l.table.limit ≡ l.initial.table.limit;
  so_far : after_victims (drop l.victim-index l.victims) l.table.requests ≡ after_victims l.victims l.initial.table.requests;
  quiet : Quiet l.initial.table.requests l.table.requests;
  told : Tells l.initial.table.requests l.table.requests l.initial.let_through l.let_through;
}
