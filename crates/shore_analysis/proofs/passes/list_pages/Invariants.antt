use Rattle.shore_analysis.specs.Passes.{as_dirty}
use Rattle.shore_analysis.proofs.Listed.{IsListing}
use Rattle.shore_analysis.proofs.passes.list_pages.Given as goal

abbrev pub invariant-loop-page : goal.invariant-loop-page
invariant-loop-page l = IsListing as_dirty l.initial.page-iterator l.page-iterator l.pages
