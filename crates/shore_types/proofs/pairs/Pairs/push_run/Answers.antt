use Rattle.std.proofs.Common.{◌≡◌, ◌≤◌, ◌+◌, ◌++◌, ℕ, List, sym, ap, subst, length, drop, ◌∙◌, arith}
use Rattle.std.proofs.lemmas.List.{length-append}
use Rattle.std.proofs.Math.Seq.{drop-append_seam}
use Rattle.shore_types.specs.declared.ids.Rid.{Rid}
use Rattle.shore_types.specs.Pairs.{AreEnds, pairs_in}
use Rattle.shore_types.specs.Runs.{IsRun, ends_from, records_from, slotted_images}
use Rattle.shore_types.proofs.RunLemmas.{ends_behind, pairs_behind, pairs_kept, run_bytes, run_ends, run_pairs}
use Rattle.shore_types.proofs.pairs.Pairs.push_run.Goals as goal

pub push_ends-requires : goal.push_ends-requires
push_ends-requires g c =
    let long = ap (λ (l : List ℕ). length l) c.in_ok-extend_from_slice.ensures.items ∙ length-append c.self.inside.bytes.items c.args.bytes.now in
    record {
      capacity = omega (arith, c.in_ok-reserve.ensures, c.slots.ensures);
      room = omega (arith, long, c.len-from.ensures, run_bytes c.args.bytes.now (slotted_images g.S.Slotted c.args.slots.now) c.requires);
    }

pub invariant_of-self-2 : goal.invariant_of-self-2
invariant_of-self-2 g c =
    let bytes = c.self.inside.bytes.items in
    let ends = c.self.inside.ends.items in
    let images = slotted_images g.S.Slotted c.args.slots.now in
    let new = c.extend_from_slice.new.self.items in
    let is : new ≡ bytes ++ c.args.bytes.now = c.in_ok-extend_from_slice.ensures.items in
    let long : length new ≡ length bytes + length c.args.bytes.now = ap (λ (l : List ℕ). length l) is ∙ length-append bytes c.args.bytes.now in
    let rest : drop (length bytes) new ≡ c.args.bytes.now = ap (λ (l : List ℕ). drop (length bytes) l) is ∙ drop-append_seam bytes c.args.bytes.now in
    let from : c.len-from.result ≡ length bytes = omega (arith, c.len-from.ensures) in
    let run = subst (λ (l : List ℕ). IsRun l images) (sym rest) c.requires in
    subst (λ (es : List (Rid × ℕ)). AreEnds 0 es (length new))
    (sym (c.push_ends.ensures ∙ ap (λ es. es ++ ends_from c.args.id.now 0 c.len-from.result images) c.reserve.ensures.items ∙ ap (λ (n : ℕ). ends ++ ends_from c.args.id.now 0 n images) from))
    (ends_behind 0 ends (ends_from c.args.id.now 0 (length bytes) images) (length bytes) (length new) c.self.invariant (run_ends new c.args.id.now 0 (length bytes) images (omega (arith, long)) run))

pub returns-clause-ok : goal.returns-clause-ok
returns-clause-ok g c =
    let bytes = c.self.inside.bytes.items in
    let ends = c.self.inside.ends.items in
    let images = slotted_images g.S.Slotted c.args.slots.now in
    let new = c.extend_from_slice.new.self.items in
    let is : new ≡ bytes ++ c.args.bytes.now = c.in_ok-extend_from_slice.ensures.items in
    let long : length new ≡ length bytes + length c.args.bytes.now = ap (λ (l : List ℕ). length l) is ∙ length-append bytes c.args.bytes.now in
    let rest : drop (length bytes) new ≡ c.args.bytes.now = ap (λ (l : List ℕ). drop (length bytes) l) is ∙ drop-append_seam bytes c.args.bytes.now in
    let from : c.len-from.result ≡ length bytes = omega (arith, c.len-from.ensures) in
    let run = subst (λ (l : List ℕ). IsRun l images) (sym rest) c.requires in
    ap (λ es. pairs_in new 0 es) (c.push_ends.ensures ∙ ap (λ es. es ++ ends_from c.args.id.now 0 c.len-from.result images) c.reserve.ensures.items ∙ ap (λ (n : ℕ). ends ++ ends_from c.args.id.now 0 n images) from)
    ∙ pairs_behind new 0 ends (ends_from c.args.id.now 0 (length bytes) images) (length bytes) c.self.invariant
    ∙ ap (λ l. l ++ pairs_in new (length bytes) (ends_from c.args.id.now 0 (length bytes) images)) (ap (λ (l : List ℕ). pairs_in l 0 ends) is ∙ pairs_kept bytes c.args.bytes.now 0 ends c.self.invariant ∙ c.self.view_is)
    ∙ ap (λ l. c.args.self.now ++ l) (run_pairs new c.args.id.now 0 (length bytes) images (omega (arith, long)) run)
