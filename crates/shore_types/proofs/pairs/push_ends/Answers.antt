use Rattle.std.proofs.Common.{◌≡◌, ◌+◌, ◌++◌, ◌∷◌, [], suc, ℕ, List, None, length, drop, get_or, sym, ap, ◌∙◌, arith}
use Rattle.std.specs.List.{sum_by}
use Rattle.std.proofs.Math.ListN.{drop_of_length-le}
use Rattle.std.proofs.Math.Seq.{drop-cons}
use Rattle.std.proofs.lemmas.List.{append_assoc, append-nil}
use Rattle.std.proofs.lemmas.List.Sums.{sum_by-cons}
use Rattle.shore_types.specs.declared.ids.Rid.{Rid}
use Rattle.shore_types.specs.Images.{Image, image_len}
use Rattle.shore_types.specs.Runs.{ends_from, slotted_images}
use Rattle.shore_types.proofs.RunLemmas.{end_more}
use Rattle.shore_types.proofs.pairs.push_ends.Goals as goal

pub loop-slot-preserved : goal.loop-slot-preserved
loop-slot-preserved g c =
    let images = slotted_images g.S.Slotted c.args.slots.now in
    let slot = c.loop-slot.slot in
    let end = c.loop-slot.end in
    let here : Rid = record { page = c.args.id.now; slot = slot } in
    let inside = c.loop-slot-test.true in
    let step : suc slot ≡ slot + 1 = omega arith in
    let next : drop slot images ≡ get_or images slot None ∷ drop (slot + 1) images = drop-cons images slot None (omega (arith, inside)) ∙ ap (λ (n : ℕ). get_or images slot None ∷ drop n images) step in
    let old = c.loop-slot.invariant in
    let bytes : c.len_at-end.result ≡ image_len (get_or images slot None) = c.len_at-end.ensures in
    record {
      ends = ap (λ l. l ++ ends_from c.args.id.now (slot + 1) (end + c.len_at-end.result) (drop (slot + 1) images)) c.push_reserved.ensures.items
          ∙ append_assoc c.loop-slot.ends.items ((here, end + c.len_at-end.result) ∷ []) (ends_from c.args.id.now (slot + 1) (end + c.len_at-end.result) (drop (slot + 1) images))
          ∙ ap (λ (n : ℕ). c.loop-slot.ends.items ++ (here, end + n) ∷ ends_from c.args.id.now (slot + 1) (end + n) (drop (slot + 1) images)) bytes
          ∙ ap (λ l. c.loop-slot.ends.items ++ l) (sym (end_more c.args.id.now slot end images (omega (arith, inside))))
          ∙ old.ends;
      room = omega (arith, old.room, bytes, ap (λ (l : List Image). sum_by image_len l) next, sum_by-cons image_len (get_or images slot None) (drop (slot + 1) images));
      capacity = omega (arith, old.capacity, c.push_reserved.ensures, ap (λ (l : List Image). length l) next);
    }

pub returns : goal.returns
returns g c =
    let images = slotted_images g.S.Slotted c.args.slots.now in
    let none : drop c.loop-slot.slot images ≡ [] = drop_of_length-le images (omega (arith, c.loop-slot-test.false, c.slots-slot-end.ensures)) in
    sym (append-nil c.loop-slot.ends.items) ∙ ap (λ (l : List Image). c.loop-slot.ends.items ++ ends_from c.args.id.now c.loop-slot.slot c.loop-slot.end l) (sym none) ∙ c.loop-slot.invariant.ends
