use Rattle.std.proofs.Common.{◌≡◌, ◌+◌, ℕ, inl, inr, refl, ◌∙◌, sym, subst, arith}
use Rattle.std.proofs.lemmas.Bool.{cases_lt}
use Rattle.shore_page.specs.Text.{table_of, offset_at, length_at}
use Rattle.shore_page.specs.Writing.{KeepsBeside}
use Rattle.shore_page.proofs.WritingLemmas.{KeepsBeside-then, entry_beside}
use Rattle.shore_page.proofs.writing.clear_entries.Goals as goal

pub loop-slot-init : goal.loop-slot-init
loop-slot-init c = record {
  empty = λ slot low high. absurd (omega arith);
  beside = record { len = refl; below = λ position low. refl; above = λ position high. refl };
}

pub loop-slot-preserved : goal.loop-slot-preserved
loop-slot-preserved c =
    let so_far = c.loop-slot.invariant in
    let slot = c.loop-slot.slot in
    let put = c.put_entry.ensures in
    record {
      empty = λ other low high. elim (cases_lt other slot) [
        | inl earlier ↦ (let kept = entry_beside c.args.version c.loop-slot.out c.put_entry.new.out slot other (so_far.beside.len ∙ c.requires.whole) (omega (arith, c.requires.few)) (omega (arith, c.requires.few)) put.beside (λ (e : other ≡ slot). omega arith) in
            (kept.0 ∙ (so_far.empty other low earlier).0, kept.1 ∙ (so_far.empty other low earlier).1))
        | inr late ↦ (let same : other ≡ slot = omega arith in
            subst (λ (k : ℕ). (offset_at c.args.version c.put_entry.new.out k ≡ 0) × (length_at c.args.version c.put_entry.new.out k ≡ 0)) (sym same) (put.offset, put.length))
      ];
      beside = KeepsBeside-then c.args.out.now c.loop-slot.out c.put_entry.new.out (table_of c.args.version slot) (table_of c.args.version c.args.slots) (table_of c.args.version (slot + 1)) (table_of c.args.version slot) (table_of c.args.version (slot + 1)) (table_of c.args.version c.args.slots) so_far.beside put.beside
          (omega arith) (omega arith) (omega arith) (omega (arith, c.loop-slot.auto.slot));
    }

pub returns-clause-beside : goal.returns-clause-beside
returns-clause-beside c =
    let same : c.loop-slot.slot ≡ c.args.more = omega (arith, c.requires.order) in
    subst (λ (k : ℕ). KeepsBeside c.args.out.now c.loop-slot.out (table_of c.args.version k) (table_of c.args.version c.args.slots)) same c.loop-slot.invariant.beside
