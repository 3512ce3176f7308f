use Rattle.shore_frames.proofs.FrameLemmas.{joined-append}
use Rattle.shore_frames.proofs.RingFrames.{gives_ring, ring_cut, ring_gives}
use Rattle.shore_frames.proofs.laws.cuts_change_nothing.Goals as goal

pub returns-clause-gives : goal.returns-clause-gives
returns-clause-gives c image tail place rs some g = gives_ring image tail place some rs g

pub returns-clause-given : goal.returns-clause-given
returns-clause-given c image tail place gs some r = ring_gives image tail place some gs r

pub returns-clause-cut : goal.returns-clause-cut
returns-clause-cut c stream tail place gs hs some r = ring_cut stream tail place gs hs some r

pub returns-clause-records : goal.returns-clause-records
returns-clause-records c gs hs = joined-append gs hs
