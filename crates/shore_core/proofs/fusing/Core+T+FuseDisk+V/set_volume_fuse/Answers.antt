use Rattle.laws_calls.specs.States.{page_slots}
use Rattle.shore_txn.specs.Transactions.{kept_in}
use Rattle.shore_core.specs.Cores.{heap_of, txns_of}
use Rattle.shore_core.proofs.Coming.{same_store}
use Rattle.shore_core.proofs.fusing.Core+T+FuseDisk+V.set_volume_fuse.Goals as goal

pub returns-clause-state : goal.returns-clause-state
returns-clause-state g c front disk before s is = record {
  beside = record { first = is.beside.first; parts = is.beside.parts };
  pages = λ works. c.set_fuse.ensures.shows (kept_in (txns_of c.args.self.now)) front disk (page_slots s) (is.pages works);
}

pub returns-clause-over : goal.returns-clause-over
returns-clause-over g c disk s store over = record {
  kept = over.kept;
  pages = λ works. same_store (heap_of c.args.self.now) c.set_fuse.new.self disk store c.set_fuse.ensures.frames c.set_fuse.ensures.geometry (over.pages works);
}
