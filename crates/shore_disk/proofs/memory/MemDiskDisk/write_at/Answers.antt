use Rattle.std.proofs.Common.{◌≡◌, Some, sym, ◌∙◌, rules, ap, subst, length, length-append, replicate, All, ℕ, ◌≤◌, ◌∷◌, [], ◌++◌, arith, List, zero-add}
use Rattle.std.proofs.lemmas.List.Elements.{All-push}
use Rattle.shore_disk.specs.Device.{DeviceHistory, seen, wrote, noted, overwritten, size}
use Rattle.shore_disk.specs.declared.memory.Pick.TheVariants.{Old, Noise, Mixed}
use Rattle.shore_disk.specs.declared.memory.Place.{Place}
use Rattle.std.specs.List.{sum_by}
use Rattle.std.proofs.lemmas.List.Sums.{sum_by-append, sum_by-cons}
use Rattle.shore_disk.specs.Memory.{history_in, picked_after, picked_write, laid, mixed, place_len, unsynced_in, with_noise, end_of}
use Rattle.shore_disk.proofs.MemoryLemmas.{history_wrote, length_over, laid_wrote, mixed-push, with_noise-push}
use Rattle.shore_disk.proofs.memory.MemDiskDisk.write_at.Goals as goal

pub invariant_of-self-2 : goal.invariant_of-self-2
invariant_of-self-2 c =
    let d = c.args.self.now in
    let new = c.args.bytes.now in
    let h = history_in d.past.items in
    let p : Place = record { at = c.args.at; len = length new } in
    let is : history_in c.and-self.result.items ≡ noted h (wrote c.args.at new) =
    ap history_in c.and-self.ensures ∙ history_wrote d.past.items c.args.at new d.bytes.items _ d.begun (omega arith) c.overwrite.ensures in
    let after : c.overwrite.new.image.items ≡ overwritten d.bytes.items c.args.at new = c.overwrite.ensures in
    let places : c.keep.new.unsynced.items ≡ d.unsynced.items ++ p ∷ [] = grind (arith, rules, c.keep.ensures.place, c.is_err.ensures.value, c.if-is_err.false) in
    let written : c.keep.new.written.items ≡ d.written.items ++ new = grind (arith, rules, c.keep.ensures.bytes, c.is_err.ensures.value, c.if-is_err.false) in
    let long : length c.overwrite.new.image.items ≡ length d.bytes.items = ap length after ∙ length_over d.bytes.items new c.args.at (omega arith) in
    record {
      begun = omega (arith, ap length c.and-self.ensures, length-append d.past.items ((Some p, c.overwrite.new.image) ∷ []));
      seen = after ∙ ap (λ (l : List ℕ). overwritten l c.args.at new) d.seen ∙ ap seen (sym is);
      lost = d.lost ∙ ap (λ (h : DeviceHistory). picked_after Old h.first h.calls) (sym is);
      noise = ap (with_noise d.stable.items) places ∙ with_noise-push d.stable.items d.unsynced.items p
          ∙ ap (λ (l : List ℕ). overwritten l c.args.at (replicate (length new) 90)) d.noise
          ∙ ap (λ (h : DeviceHistory). picked_after Noise h.first h.calls) (sym is);
      mixed = λ bits. ap (λ (l : List ℕ). mixed bits 0 d.stable.items l c.keep.new.unsynced.items) written ∙ ap (mixed bits 0 d.stable.items (d.written.items ++ new)) places
          ∙ mixed-push bits 0 d.stable.items d.written.items new d.unsynced.items c.args.at d.kept
          ∙ ap (λ (n : ℕ). picked_write (Mixed bits) n (mixed bits 0 d.stable.items d.written.items d.unsynced.items) c.args.at new) (zero-add (length d.unsynced.items) ∙ d.count)
          ∙ ap (λ (image : List ℕ). picked_write (Mixed bits) (unsynced_in h.calls) image c.args.at new) (d.mixed bits)
          ∙ ap (λ (h : DeviceHistory). picked_after (Mixed bits) h.first h.calls) (sym is);
      count = omega (arith, ap (λ (l : List Place). length l) places, length-append d.unsynced.items (p ∷ []), d.count, ap (λ (h : DeviceHistory). unsynced_in h.calls) is);
      kept = ap (sum_by place_len) places ∙ sum_by-append place_len d.unsynced.items (p ∷ [])
          ∙ omega (arith, d.kept, sum_by-cons place_len p [], ap (λ (l : List ℕ). length l) written, length-append d.written.items new);
      differ = ap (laid c.overwrite.new.image.items d.stable.items) places ∙ ap (λ (l : List ℕ). laid l d.stable.items (d.unsynced.items ++ p ∷ [])) after
          ∙ laid_wrote d.bytes.items d.stable.items new c.args.at d.unsynced.items (omega arith) d.room d.within d.differ ∙ sym after;
      as_long = long ∙ d.as_long ∙ ap size (sym is);
      room = d.room ∙ sym long;
      within = subst (λ (l : List Place). All (λ q. end_of q ≤ length c.overwrite.new.image.items) l) (sym places)
          (All-push (λ q. end_of q ≤ length c.overwrite.new.image.items) d.unsynced.items p (subst (λ (n : ℕ). All (λ q. end_of q ≤ n) d.unsynced.items) (sym long) d.within) (omega (arith, long)));
    }

pub returns-clause-written : goal.returns-clause-written
returns-clause-written c honest =
    ap history_in c.and-self.ensures ∙ history_wrote c.args.self.now.past.items c.args.at c.args.bytes.now c.args.self.now.bytes.items _ c.args.self.now.begun (omega arith) c.overwrite.ensures
