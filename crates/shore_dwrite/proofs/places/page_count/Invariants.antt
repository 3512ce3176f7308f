use Rattle.std.proofs.Common.{◌≡◌, take, sum}
use Rattle.shore_dwrite.proofs.places.page_count.Given as goal

abbrev pub invariant-loop-pages : goal.invariant-loop-pages
invariant-loop-pages l = l.count ≡ sum (take l.pages-index l.pages-items)
