use Rattle.std.proofs.Common.{rules, ◌≡◌, ◌++◌, ap, ◌∙◌, take, drop}
use Rattle.byteorder.specs.Endian.{little_bytes}
use Rattle.shore_keys.proofs.halving.right_text.Goals as goal

pub returns : goal.returns
returns c = (
  c.in_ok-padded.ensures.0,
  c.from_vec.ensures ∙ c.in_ok-padded.ensures.1
      ∙ ap (λ x. x ++ c.in_ok-padded.ensures.0)
      (c.in_ok-extend_from_slice.ensures.items
      ∙ ap (λ x. x ++ c.args.rest.now)
      (c.in_ok-put_front.ensures ∙ ap (λ x. x ++ (take 2 c.args.front.now ++ (little_bytes 2 c.args.count ++ drop 4 c.args.front.now))) c.new-text.ensures.items)),
)
