-- A manager that is up after a restart.
use Rattle.std.proofs.Common.{◌≡◌, [], length}
use Rattle.shore_model.specs.declared.histories.Opening.{Opening}
use Rattle.shore_model.specs.Logs.{records_told}
use Rattle.laws_lives.specs.Doubts.{IsOpeningOf}
use Rattle.laws_lives.specs.Recovery.{RecoveryState}
use Rattle.laws_lives.proofs.AtWork.{IsAtWork, all_stay_at_work}
use Rattle.laws_lives.proofs.Openings.{open_shows_found, opens_at_work}
use Rattle.laws_lives.specs.Stretches.{IsUpAfter, MayBeFound, Stretch}

module _ (o : Opening) (s : RecoveryState) (f : MayBeFound s) (opening : IsOpeningOf s.log o) (l : Stretch) (u : IsUpAfter o s l) where
  pub up_is_at_work : IsAtWork (length s.log) l.first.next_txn o l.made l.last
  up_is_at_work =
      all_stay_at_work (length s.log) l.first.next_txn o [] (record { sessions = l.first; store = l.ready }) l.events l.last l.made
      (opens_at_work o s l.restart l.ready l.first f opening u.restarts u.redone u.no_losers u.opens) u.runs

  pub up_shows_found : l.first.records ≡ records_told s.log
  up_shows_found = open_shows_found o s l.restart l.ready l.first f opening u.restarts u.redone u.no_losers u.opens
