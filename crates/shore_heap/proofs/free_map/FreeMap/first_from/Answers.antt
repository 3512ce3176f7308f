use Rattle.std.proofs.Common.{◌≡◌, ◌<◌, ◌≤◌, ◌+◌, ℕ, inl, inr, List, length, get_or, sym, ap, ◌∙◌, arith}
use Rattle.std.proofs.lemmas.Bool.{cases_lt}
use Rattle.std.proofs.Math.ListN.{get_or-eq_default}
use Rattle.shore_heap.proofs.LeafLemmas.{length-leaves, get-leaves}
use Rattle.shore_heap.proofs.free_map.FreeMap.first_from.Goals as goal
use Rattle.shore_heap.proofs.free_map.FreeMap.first_from.Goals.{then-page-self-via-then-page-self, then-page-self-via-else-page-self+then-bytes-gt-MAX_RECORD_BYTES}

pub returns-then-page-self-clause-none : goal.returns-then-page-self-clause-none
returns-then-page-self-clause-none c = λ none other from.
    let pages = c.self.inside.pages in
    let len = length-leaves c.self.inside.tree.items pages c.self.invariant.maxima.whole in
    let all = ap (λ (l : List ℕ). length l) c.self.view_is in
    let past : pages ≤ other → get_or c.args.self.now other 0 ≤ c.args.bytes =
    λ behind. (let bound : get_or c.args.self.now other 0 ≡ 0 = get_or-eq_default c.args.self.now 0 (omega arith) in omega (arith, bound)) in
    elim c.then-page-self.branch [
      | then-page-self-via-then-page-self w ↦ past (omega (arith, w.if-page-self.true))
      | then-page-self-via-else-page-self+then-bytes-gt-MAX_RECORD_BYTES w ↦ elim (cases_lt other pages) [
        | inl there ↦ (let bound : get_or c.args.self.now other 0 ≡ get_or c.self.inside.tree.items (pages + 1 + other) 0 =
            sym (ap (λ (l : List ℕ). get_or l other 0) c.self.view_is) ∙ get-leaves c.self.inside.tree.items pages other there in
            omega (arith, bound, c.self.invariant.bounds other there, w.if-bytes-gt-MAX_RECORD_BYTES.true))
        | inr behind ↦ past behind
      ]
    ]

pub returns-then-found-self-clause-none : goal.returns-then-found-self-clause-none
returns-then-found-self-clause-none c = λ none other from.
    let pages = c.self.inside.pages in
    let len = length-leaves c.self.inside.tree.items pages c.self.invariant.maxima.whole in
    let all = ap (λ (l : List ℕ). length l) c.self.view_is in
    elim (cases_lt other pages) [
      | inl there ↦ (let bound : get_or c.args.self.now other 0 ≡ get_or c.deref.result.now (pages + 1 + other) 0 =
          sym (ap (λ (l : List ℕ). get_or l other 0) c.self.view_is) ∙ get-leaves c.self.inside.tree.items pages other there ∙ sym (ap (λ (l : List ℕ). get_or l (pages + 1 + other) 0) c.deref.ensures.value) in
          omega (arith, bound, c.first_above-found.ensures.passed other from (omega arith)))
      | inr past ↦ (let bound : get_or c.args.self.now other 0 ≡ 0 = get_or-eq_default c.args.self.now 0 (omega arith) in omega (arith, bound))
    ]

pub returns-clause-found : goal.returns-clause-found
returns-clause-found c =
    let pages = c.self.inside.pages in
    let len = length-leaves c.self.inside.tree.items pages c.self.invariant.maxima.whole in
    let all = ap (λ (l : List ℕ). length l) c.self.view_is in
    let there : c.first_above-found.result < pages = omega (arith, c.first_above-found.ensures.there, c.if-found-self.false) in
    let bound : (other : ℕ) → other < pages → get_or c.args.self.now other 0 ≡ get_or c.deref.result.now (pages + 1 + other) 0 =
    λ other low. sym (ap (λ (l : List ℕ). get_or l other 0) c.self.view_is) ∙ get-leaves c.self.inside.tree.items pages other low ∙ sym (ap (λ (l : List ℕ). get_or l (pages + 1 + other) 0) c.deref.ensures.value) in
    record {
      from = c.first_above-found.ensures.from;
      there = omega arith;
      room = omega (arith, bound c.first_above-found.result there, c.first_above-found.ensures.above);
      passed = λ other from to. omega (arith, bound other (omega arith), c.first_above-found.ensures.passed other from to);
    }
