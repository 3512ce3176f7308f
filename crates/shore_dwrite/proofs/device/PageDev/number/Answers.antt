use Rattle.std.proofs.Common.{◌≡◌, ◌+◌, ℕ, slice_index, subst, sum, take, ap, sym, arith}
use Rattle.shore_types.specs.declared.ids.PageId.{PageId}
use Rattle.shore_dwrite.specs.Volumes.{page_number}
use Rattle.shore_dwrite.proofs.Numbers.{page_within}
use Rattle.shore_dwrite.proofs.device.PageDev.number.Goals as goal

pub returns-clause-number : goal.returns-clause-number
returns-clause-number g c =
    let it = c.args.self.now in
    let id = c.args.id in
    let below = page_within it.geometry.stores id.store id.page c.requires in
    let first : slice_index it.firsts id.store ≡ sum (take id.store it.geometry.stores) = it.firsts_are id.store below.0 in
    subst (λ (p : PageId). slice_index it.firsts p.store + p.page ≡ page_number it.geometry id) (sym c.id.view_is) (ap (λ (n : ℕ). n + id.page) first)

pub overflow_add-result : goal.overflow_add-result
overflow_add-result g c =
    let it = c.args.self.now in
    let below = page_within it.geometry.stores c.args.id.store c.args.id.page c.requires in
    omega (arith, below.1, it.few, returns-clause-number g c)

pub returns-clause-within : goal.returns-clause-within
returns-clause-within g c =
    let it = c.args.self.now in
    let below = page_within it.geometry.stores c.args.id.store c.args.id.page c.requires in
    omega (arith, below.1, returns-clause-number g c)
