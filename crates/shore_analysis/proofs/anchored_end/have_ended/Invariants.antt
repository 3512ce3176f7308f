use Rattle.std.specs.Prelude.{◌≡◌, All, take, true}
use Rattle.std.specs.Ordering.{nat_cmp}
use Rattle.std.specs.BTreeSet.{contains}
use Rattle.shore_analysis.specs.KeptMeant.{names_cut_off}
use Rattle.shore_analysis.proofs.anchored_end.have_ended.Given as goal

abbrev pub invariant-loop-entry : goal.invariant-loop-entry
invariant-loop-entry l = All (λ e. names_cut_off l.cut e ≡ true → contains nat_cmp l.over e.txn ≡ true) (take l.entry-index l.entries)
