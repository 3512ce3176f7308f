use Rattle.std.proofs.Common.{◌≡◌, ◌<◌, ℕ, length, slice_index, slice_set, sum, take, ap, sym, inl, inr, subst, ◌∙◌, arith}
use Rattle.std.proofs.lemmas.Bool.{cases_eq}
use Rattle.std.proofs.lemmas.List.{get_or-set_same, get_or-set_other, length-set}
use Rattle.shore_dwrite.proofs.Numbers.{sum_more}
use Rattle.shore_dwrite.proofs.places.first_numbers.Goals as goal

pub loop-store-preserved : goal.loop-store-preserved
loop-store-preserved c =
    let stores = c.as_slice-stores.result.now in
    let inv = c.loop-store.invariant in
    let at = c.loop-store.store in
    let same_stores = ap length c.as_slice-stores.ensures in
    let room : at < length c.loop-store.firsts = omega (arith, inv.whole, c.requires.few_stores, same_stores, c.loop-store-test.true) in
    record {
      number = omega (arith, inv.number, sum_more stores at c.loop-store-test.true);
      whole = length-set c.loop-store.firsts at c.loop-store.number ∙ inv.whole;
      firsts = λ store less. elim (cases_eq store at) [
        | inl same ↦ subst (λ (k : ℕ). slice_index (slice_set c.loop-store.firsts at c.loop-store.number) k ≡ sum (take k stores)) (sym same)
            (get_or-set_same c.loop-store.firsts at c.loop-store.number 0 room ∙ inv.number)
        | inr other ↦ get_or-set_other c.loop-store.firsts at store c.loop-store.number 0 other ∙ inv.firsts store (omega (arith, less, other))
      ];
    }
