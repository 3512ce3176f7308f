use Rattle.std.proofs.Common.{◌≡◌, ◌++◌, ◌∷◌, [], drop, map}
use Rattle.shore_cycles.specs.declared.victims.Victim.{Victim}
use Rattle.shore_cycles.proofs.reached.Trail.restart.Given as goal

abbrev pub invariant-loop-victim : goal.invariant-loop-victim
invariant-loop-victim l = record {
  marks : l.self-inside.marks ++ map (λ (v : Victim). v.txn) (drop l.victim-index l.victims) ≡ l.fn.txn ∷ map (λ (v : Victim). v.txn) l.victims;
  steps : l.self-inside.steps.items ≡ record { txn = l.fn.txn; parent = 0 } ∷ [];
}
