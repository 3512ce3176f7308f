use Rattle.std.proofs.Common.{◌≡◌, rules}
use Rattle.std.proofs.lemmas.Fn.{always_returns_same}
use Rattle.shore_model.specs.declared.log_records.DirtyPage.{DirtyPage}
use Rattle.shore_types.specs.Ids.{pages_total}
use Rattle.shore_check.proofs.Sorting.{rises}
use Rattle.shore_check.proofs.tables.put_pages_in_order.Goals as goal

pub returns-clause-rise : goal.returns-clause-rise
returns-clause-rise c =
    rises pages_total (λ (d : DirtyPage). d.page) c.args.dirty.now.items c.sort_unstable_by_key.new.self.items c.sort_unstable_by_key.ensures.permutation
    (c.sort_unstable_by_key.ensures.sorted (λ (d : DirtyPage). d.page) (always_returns_same _ (λ a r. r ≡ a.0.now.page) _ (λ a r q k. search rules)))
    c.requires.once
