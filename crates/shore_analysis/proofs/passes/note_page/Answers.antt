use Rattle.std.proofs.Common.{◌≡◌, None, sym, ap, ◌∙◌}
use Rattle.std.specs.BTreeMap.{get}
use Rattle.shore_types.specs.Ids.{page_cmp}
use Rattle.shore_analysis.specs.Passes.{noted}
use Rattle.shore_analysis.specs.Tables.{is_on_page}
use Rattle.shore_analysis.proofs.KnownNext.{page_noted, none_there}
use Rattle.shore_analysis.proofs.passes.note_page.Goals as goal

pub returns-in_ok-insert : goal.returns-in_ok-insert
returns-in_ok-insert c p =
    let old = c.args.dirty.now in
    let page = c.in-Some.id.page in
    let absent : get page_cmp old page ≡ None = none_there (get page_cmp old page) (sym c.contains_key.ensures ∙ c.if-not-contains_key.true) in
    c.in_ok-insert.ensures.updates.0 p ∙ page_noted page p c.args.number (get page_cmp old) absent
    ∙ ap (λ o. noted (is_on_page p o) c.args.number (get page_cmp old p)) (sym (sym c.id.ensures ∙ c.in-Some.is))
