-- What a world promises of the order of turns.
use Rattle.std.proofs.Common.{List, ℕ, true, false, subst, sym, length, take, take_all, arith}
use Rattle.shore_disk.specs.declared.device.Disk.{Ghosts}
use Rattle.shore_model.specs.declared.calls.Call.{Call}
use Rattle.shore_model.specs.declared.histories.Decision.{Decision}
use Rattle.shore_model.specs.declared.histories.Entry.{Entry}
use Rattle.shore_model.specs.declared.histories.Opening.{Opening}
use Rattle.shore_model.specs.Histories.{decisions, in_doubt, serial, shown, writes_in}
use Rattle.laws_lives.specs.Sessions.{txns_of}
use Rattle.laws_lives.specs.Soundness.{history_from, serial_after}
use Rattle.laws_lives.specs.Views.{IsAmong}
use Rattle.laws_orders.proofs.InPlace.{in_place_is_shown}
use Rattle.laws_orders.proofs.OneByOne.{committed_run, shown_run}
use Rattle.laws_orders.specs.InTurns.{RunInTurns}
use Rattle.shore_world.specs.declared.world.World.{World}
use Rattle.shore_world.proofs.PromiseLemmas.{seen}
use Rattle.shore_world.specs.Lives.{DumpsShow}
use Rattle.shore_world.specs.Promises.{IsManagerOf}

module _ {L V : Type 0} {G : Ghosts L} {H : Ghosts V} (w : World L V G H) (o : Opening) (es : List Entry) (ws : List (ℕ × Call)) (k : IsManagerOf w o es ws) where
  abbrev ds : List Decision
  ds = decisions es

  pub committed_in_turns : RunInTurns (history_from o es) (λ t. false) ds (serial_after o es)
  committed_in_turns =
      subst (λ ds. RunInTurns (history_from o es) (λ t. false) ds (serial (writes_in (history_from o es)) o.records ds)) (take_all (length ds) ds (omega arith))
      (committed_run (history_from o es) (length ds) k.in_order)

  pub shown_in_turns : RunInTurns (history_from o es) (λ t. true) ds (shown (history_from o es) ds)
  shown_in_turns =
      subst (λ ds. RunInTurns (history_from o es) (λ t. true) ds (shown (history_from o es) ds)) (take_all (length ds) ds (omega arith))
      (shown_run (history_from o es) (length ds) k.in_order)

  pub dumps_shown : ((t : ℕ) → IsAmong t (txns_of k.now.state.sessions.active) → (global : List ℕ) × IsAmong (t, global) (in_doubt o.in_doubt ds)) → DumpsShow w (shown (history_from o es) ds)
  dumps_shown all =
      subst (DumpsShow w) (in_place_is_shown k.under_way.under_way.state.sessions.sound k.under_way.under_way.state.sessions.agree all) (seen w o es ws k).dumps
