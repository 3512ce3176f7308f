use Rattle.std.proofs.Common.{◌≡◌, None, sym, ◌∙◌, ap, subst, length, length-append, All, ◌∷◌, [], ◌≤◌, arith, List, ℕ}
use Rattle.shore_disk.specs.Device.{DeviceHistory, seen, synced, noted, size}
use Rattle.shore_disk.specs.declared.memory.Pick.TheVariants.{Old, Noise, Mixed}
use Rattle.shore_disk.specs.declared.memory.Place.{Place}
use Rattle.std.specs.List.{sum_by}
use Rattle.shore_disk.specs.Memory.{history_in, picked_after, laid, mixed, place_len, unsynced_in, with_noise, end_of}
use Rattle.shore_disk.proofs.MemoryLemmas.{history_in-push}
use Rattle.shore_disk.proofs.memory.MemDiskDisk.sync.Goals as goal

pub invariant_of-self : goal.invariant_of-self
invariant_of-self c =
    let d = c.args.self.now in
    let is : history_in c.and-self.result.items ≡ noted (history_in d.past.items) synced =
    ap history_in c.and-self.ensures ∙ history_in-push d.past.items (None, d.bytes) d.begun in
    let stable : c.pick_image.new.stable.items ≡ d.bytes.items = c.pick_image.ensures.picked ∙ d.differ in
    let nothing = c.clear.ensures.items in
    record {
      begun = omega (arith, ap length c.and-self.ensures, length-append d.past.items ((None, d.bytes) ∷ []));
      seen = d.seen ∙ ap seen (sym is);
      lost = stable ∙ d.seen ∙ ap (λ (h : DeviceHistory). picked_after Old h.first h.calls) (sym is);
      noise = ap (with_noise c.pick_image.new.stable.items) nothing ∙ stable ∙ d.seen ∙ ap (λ (h : DeviceHistory). picked_after Noise h.first h.calls) (sym is);
      mixed = λ bits. ap (mixed bits 0 c.pick_image.new.stable.items c.clear-2.new.self.items) nothing ∙ stable ∙ d.seen ∙ ap (λ (h : DeviceHistory). picked_after (Mixed bits) h.first h.calls) (sym is);
      count = ap (λ (l : List Place). length l) nothing ∙ ap (λ (h : DeviceHistory). unsynced_in h.calls) (sym is);
      kept = ap (sum_by place_len) nothing ∙ sym (ap (λ (l : List ℕ). length l) c.clear-2.ensures.items);
      differ = ap (laid d.bytes.items c.pick_image.new.stable.items) nothing ∙ stable;
      as_long = d.as_long ∙ ap size (sym is);
      room = ap length stable;
      within = subst (λ (l : List Place). All (λ q. end_of q ≤ length d.bytes.items) l) (sym nothing) (λ k q lt. absurd (omega (arith, lt)));
    }

pub returns-clause-synced : goal.returns-clause-synced
returns-clause-synced c honest =
    ap history_in c.and-self.ensures ∙ history_in-push c.args.self.now.past.items (None, c.args.self.now.bytes) c.args.self.now.begun
