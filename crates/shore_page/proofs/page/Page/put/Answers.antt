use Rattle.std.proofs.Common.{ℕ, length, Some, sym, ap, subst, ◌∙◌}
use Rattle.shore_page.specs.Slots.{with_image}
use Rattle.shore_page.specs.Room.{ChangesOne, Fits}
use Rattle.shore_page.proofs.page.Page.put.Goals as goal

pub append-requires : goal.append-requires
append-requires c =
    let is = c.if-slot-slot_count.true ∙ c.slot_count.ensures.count in
    subst (λ (k : ℕ). Fits c.args.self.now.version c.args.self.now.slots k (length c.args.bytes.now)) is c.requires

pub returns-then-slot-slot_count-clause-put : goal.returns-then-slot-slot_count-clause-put
returns-then-slot-slot_count-clause-put c =
    let is = c.if-slot-slot_count.true ∙ c.slot_count.ensures.count in
    c.append.ensures.put ∙ ap (λ (k : ℕ). record { version = c.args.self.now.version; id = c.args.self.now.id; number = c.args.self.now.number; slots = with_image c.args.self.now.slots k (Some c.args.bytes.now) }) (sym is)

pub returns-then-slot-slot_count-clause-one : goal.returns-then-slot-slot_count-clause-one
returns-then-slot-slot_count-clause-one c =
    let is = c.if-slot-slot_count.true ∙ c.slot_count.ensures.count in
    subst (λ (k : ℕ). ChangesOne c.args.self.now.version c.args.self.now.slots c.append.new.self.slots k (Some c.args.bytes.now)) (sym is) c.append.ensures.one
