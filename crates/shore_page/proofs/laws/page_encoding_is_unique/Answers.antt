use Rattle.std.proofs.Common.{◌≡◌, ℕ, length, sym, ap, ◌∙◌}
use Rattle.shore_types.specs.declared.ids.PageId.{PageId}
use Rattle.shore_page.specs.Reading.{images_in}
use Rattle.shore_page.proofs.SlotsRead.{images_are}
use Rattle.shore_page.proofs.laws.page_encoding_is_unique.Goals as goal

pub returns : goal.returns
returns c v bytes a b m n images others first second =
    let count : length images ≡ length others = sym first.header.count ∙ second.header.count in
    let id : a ≡ b = ap (λ (store : ℕ). page_id store a.page) (sym first.header.store ∙ second.header.store) ∙ ap (page_id b.store) (sym first.header.page ∙ second.header.page) in
    (id, sym first.header.last ∙ second.header.last, sym (images_are v bytes a m images first) ∙ ap (images_in v bytes) count ∙ images_are v bytes b n others second)
  where
    page_id : ℕ → ℕ → PageId
    page_id store page = record { store = store; page = page }
