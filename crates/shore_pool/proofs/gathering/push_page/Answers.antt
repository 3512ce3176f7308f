use Rattle.std.proofs.Common.{IsOk, subst}
use Rattle.std.proofs.lemmas.Bool.{false≢true}
use Rattle.shore_types.specs.declared.layout.TheConstants.{MAX_BATCH_PAGES}
use Rattle.shore_pool.proofs.gathering.push_page.Goals as goal

pub unreachable-requires-in_default-push : goal.unreachable-requires-in_default-push
unreachable-requires-in_default-push c = false≢true (subst (λ r. IsOk r) c.in_default-push.is (c.push.ensures.idle MAX_BATCH_PAGES c.requires.room c.requires.few))

pub returns-clause-room : goal.returns-clause-room
returns-clause-room c = c.push.ensures.room MAX_BATCH_PAGES c.requires.room
