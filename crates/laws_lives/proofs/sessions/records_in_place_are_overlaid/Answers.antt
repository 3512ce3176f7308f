use Rattle.laws_lives.proofs.InPlace.{is_overlaid}
use Rattle.laws_lives.proofs.LoggedInPlace.{stand_logged}
use Rattle.laws_lives.proofs.sessions.records_in_place_are_overlaid.Goals as goal

pub returns-clause-overlaid : goal.returns-clause-overlaid
returns-clause-overlaid c o es s k = is_overlaid k.stand

pub returns-clause-written : goal.returns-clause-written
returns-clause-written c o es s a k mem none = (k.stands_for a mem).written none

pub returns-clause-logged : goal.returns-clause-logged
returns-clause-logged c o es s log k l = is_overlaid (stand_logged k l)

pub returns-clause-last_images : goal.returns-clause-last_images
returns-clause-last_images c o es s log t id image l among logged = ((l.tells_serial.each t among).in_place id image logged).0
