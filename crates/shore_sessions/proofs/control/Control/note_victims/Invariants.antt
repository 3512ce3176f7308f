use Rattle.std.proofs.Common.{◌≡◌, None}
use Rattle.laws_calls.specs.States.{State}
use Rattle.shore_sessions.specs.Controls.{HasNoWait}
use Rattle.shore_sessions.specs.Noting.{AreNoted, KeepsOwners, HasSessionsOf, told_cycle}
use Rattle.shore_sessions.proofs.control.Control.note_victims.Given as goal

-- those that are left leave what all do
abbrev pub invariant-loop-victim : goal.invariant-loop-victim
invariant-loop-victim l = record {
  told : told_cycle l.txn l.told l.victim-iterator.rest.items ≡ told_cycle l.txn None l.fn.victims.items;
  keeps : KeepsOwners l.fn.self l.self;
  stands : (s new : State) → HasSessionsOf l.fn.self s → HasNoWait l.session l.fn.self → AreNoted l.session l.txn s l.fn.victims.items new
      → (mid : State) × HasSessionsOf l.self mid × AreNoted l.session l.txn mid l.victim-iterator.rest.items new;
}
