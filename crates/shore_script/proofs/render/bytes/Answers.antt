use Rattle.std.proofs.Common.{◌≡◌, ℕ, ◌<◌, List, [], ◌++◌, length, sym, ap, subst, ◌∙◌, append_assoc}
use Rattle.std.proofs.lemmas.List.{append-nil}
use Rattle.std.specs.Io.KnownBytes.{Appends}
use Rattle.std.specs.Slice.Iter.{chunks_rest, chunks_size}
use Rattle.hex.specs.Hex.{encode_lower}
use Rattle.shore_script.proofs.Cuts.{has_length, no_length}
use Rattle.shore_script.proofs.Printing.{Appends-nothing, Appends-then, bytes_text-some, encoded-append, encoded-nothing}
use Rattle.shore_script.proofs.render.bytes.Goals as goal

pub loop-part-init : goal.loop-part-init
loop-part-init g c =
    let same = c.into_iter-part-iterator.ensures.into_iter_gives in
    let out = g.W.Write.contents c.args.out.now in (
      [],
      sym (ap chunks_rest same ∙ c.chunks-part-items.ensures.rest),
      ap chunks_size same ∙ c.chunks-part-items.ensures.size,
      subst (Appends out out) (sym encoded-nothing) (Appends-nothing out),
    )

pub loop-part-preserved : goal.loop-part-preserved
loop-part-preserved g c =
    let inv = c.loop-part.invariant in
    let part : List ℕ = c.in-Some.part.now in
    let step = c.in-Some.ensures.steps in
    let rest : List ℕ = chunks_rest c.next.new.self in
    let digits = subst (Appends (g.W.Write.contents c.loop-part.out) (g.W.Write.contents c.write_all-in-loop-part.new.self)) c.digits_of.ensures c.in_ok-write_all.ensures.bytes in (
      inv.0 ++ part,
      inv.1 ∙ ap (λ (l : List ℕ). inv.0 ++ l) step.1.0 ∙ sym (append_assoc inv.0 part rest),
      step.0 ∙ inv.2,
      subst (Appends (g.W.Write.contents c.args.out.now) (g.W.Write.contents c.write_all-in-loop-part.new.self)) (sym (encoded-append inv.0 part))
          (Appends-then _ _ _ (encode_lower inv.0) (encode_lower part) inv.3 digits),
    )

pub returns : goal.returns
returns g c =
    let inv = c.loop-part.invariant in
    let found : List ℕ = c.args.found.now in
    let step = c.in-None.ensures.steps in
    let rest : chunks_rest c.loop-part.part-iterator ≡ [] = no_length (chunks_rest c.loop-part.part-iterator) step.1.0 in
    let all : inv.0 ≡ found = sym (inv.1 ∙ ap (λ (l : List ℕ). inv.0 ++ l) rest ∙ append-nil inv.0) in
    let some : 0 < length found = has_length found (sym c.is_empty.ensures ∙ c.if-is_empty.false) in
    subst (Appends (g.W.Write.contents c.args.out.now) (g.W.Write.contents c.loop-part.out)) (ap encode_lower all ∙ sym (bytes_text-some found some)) inv.3
