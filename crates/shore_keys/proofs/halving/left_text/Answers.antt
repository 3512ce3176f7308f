use Rattle.std.proofs.Common.{rules, ◌≡◌, ◌++◌, ◌∷◌, [], ℕ, List, ap, ◌∙◌}
use Rattle.byteorder.specs.Endian.{little_bytes}
use Rattle.shore_keys.specs.Nodes.{Entry as Pair}
use Rattle.shore_keys.specs.Nodes.{entry_text}
use Rattle.shore_keys.proofs.MiddleSteps.{left-read}
use Rattle.shore_keys.proofs.halving.left_text.Goals as goal

pub returns : goal.returns
returns c = λ xs spells count.
    let e : Pair = (c.args.halves.now.key, c.args.spot.0, c.args.spot.1) in
    left-read c.args.level e c.args.halves.now.count c.args.halves.now.first c.in_ok-padded.ensures.0 c.from_vec.result xs (record { key = c.requires; page = search rules; slot = search rules }) (search rules) spells count
    (c.from_vec.ensures ∙ c.in_ok-padded.ensures.1
    ∙ ap (λ x. x ++ c.in_ok-padded.ensures.0)
    (rw c.as_slice-2.ensures at c.in_ok-extend_from_slice-2.ensures.items
    ∙ ap (λ x. x ++ c.args.halves.now.first)
    (rw c.as_slice.ensures at c.in_ok-put_entry.ensures ∙ ap (λ x. x ++ entry_text e) (c.in_ok-extend_from_slice.ensures.items ∙ ap (λ x. x ++ c.write_u16.new.buf) c.in_ok-text.ensures.items ∙ ap (λ b. (c.args.level ∷ 1 ∷ []) ++ b) c.write_u16.ensures))))
