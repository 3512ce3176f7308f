use Rattle.std.proofs.Common.{ℕ, ◌+◌, ◌-◌, ◌*◌, ap, ◌∙◌, arith}
use Rattle.shore_page.specs.Text.{table_of}
use Rattle.shore_page.proofs.WritingLemmas.{header_slots, number_above}
use Rattle.shore_page.proofs.writing.put_table.Goals as goal

pub returns-clause-header : goal.returns-clause-header
returns-clause-header c id number header =
    header_slots c.args.version c.args.out.now c.clear_entries.new.out c.put_u16.new.out c.put_u16-2.new.out id number c.args.slots c.args.more (table_of c.args.version c.args.more) (table_of c.args.version c.args.slots) c.requires.whole c.clear_entries.ensures.beside (omega arith)
    c.put_u16.ensures.here c.put_u16.ensures.beside (c.put_u16-2.ensures.here ∙ ap (λ (n : ℕ). n - 4 * c.args.more) c.page_bytes.ensures.is) c.put_u16-2.ensures.beside c.requires.few header

pub returns-clause-empty : goal.returns-clause-empty
returns-clause-empty c slot new few =
    let b1 = c.clear_entries.new.out in
    let b2 = c.put_u16.new.out in
    let b3 = c.put_u16-2.new.out in
    let whole = c.clear_entries.ensures.beside.len ∙ c.requires.whole in
    let whole2 = c.put_u16.ensures.beside.len ∙ whole in
    let empty = c.clear_entries.ensures.empty slot new few in (
      number_above b2 b3 18 20 (table_of c.args.version (slot + 1)) 2 c.put_u16-2.ensures.beside (omega arith) (omega arith) ∙ number_above b1 b2 16 18 (table_of c.args.version (slot + 1)) 2 c.put_u16.ensures.beside (omega arith) (omega arith) ∙ empty.0,
      number_above b2 b3 18 20 (table_of c.args.version (slot + 1) + 2) 2 c.put_u16-2.ensures.beside (omega arith) (omega arith) ∙ number_above b1 b2 16 18 (table_of c.args.version (slot + 1) + 2) 2 c.put_u16.ensures.beside (omega arith) (omega arith) ∙ empty.1,
    )

pub returns-clause-below : goal.returns-clause-below
returns-clause-below c position behind low =
    c.put_u16-2.ensures.beside.above position (omega arith) ∙ c.put_u16.ensures.beside.above position (omega arith) ∙ c.clear_entries.ensures.beside.below position low

pub returns-clause-above : goal.returns-clause-above
returns-clause-above c position high =
    c.put_u16-2.ensures.beside.above position (omega arith) ∙ c.put_u16.ensures.beside.above position (omega arith) ∙ c.clear_entries.ensures.beside.above position high
