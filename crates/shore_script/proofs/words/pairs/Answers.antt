use Rattle.std.proofs.Common.{◌≡◌, true, false, sym, ap, ◌∙◌, inl, inr}
use Rattle.std.proofs.lemmas.Bool.{false≢true}
use Rattle.hex.specs.Hex.{decode_of}
use Rattle.std.specs.List.{list_any}
use Rattle.shore_script.specs.Bytes.{is_upper}
use Rattle.shore_script.proofs.Cuts.{empty_text, some_text}
use Rattle.shore_script.proofs.Hexes.{decoded_is_pairs, pairs_decode}
use Rattle.shore_script.proofs.words.pairs.Goals.{then-is_empty-via-then-is_empty, then-is_empty-via-else-is_empty+then-has_upper}
use Rattle.shore_script.proofs.words.pairs.Goals as goal

pub returns-then-is_empty : goal.returns-then-is_empty
returns-then-is_empty c = λ bytes h.
    let word = c.args.word.now in
    let told = pairs_decode word bytes h in
    elim c.then-is_empty.branch [
      | then-is_empty-via-then-is_empty w ↦ told.0 (empty_text word (sym c.is_empty.ensures ∙ w.if-is_empty.true))
      | then-is_empty-via-else-is_empty+then-has_upper w ↦
          let upper : list_any is_upper word ≡ true = ap (list_any is_upper) (sym w.as_bytes.ensures.value) ∙ sym w.has_upper.ensures ∙ w.if-has_upper.true in
          absurd (false≢true (sym told.2 ∙ upper))
    ]

pub returns-in-Ok : goal.returns-in-Ok
returns-in-Ok c =
    let word = c.args.word.now in
    let lower : list_any is_upper word ≡ false = ap (list_any is_upper) (sym c.as_bytes.ensures.value) ∙ sym c.has_upper.ensures ∙ c.if-has_upper.false in
    let decoded = c.in-Ok.ensures.ok in
    rw c.from_vec.ensures (decoded_is_pairs word c.in-Ok.bytes.items (some_text word (sym c.is_empty.ensures ∙ c.if-is_empty.false)) (rw c.as_bytes-2.ensures.value at decoded) lower)

pub returns-in_default : goal.returns-in_default
returns-in_default c = λ bytes h.
    let word = c.args.word.now in
    let told = pairs_decode word bytes h in
    elim c.in-Err.ensures.err [
      | inl memory ↦ c.in_default.not-OutOfMemory memory
      | inr refused ↦ cc (sym told.1 ∙ ap decode_of (sym c.as_bytes-2.ensures.value) ∙ refused)
    ]
