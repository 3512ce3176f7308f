use Rattle.std.proofs.Common.{rules, ◌≡◌, ◌<◌, ◌≤◌, ◌+◌, ◌-◌, ℕ, ◌∷◌, [], ◌++◌, length, refl, sym, ap, ◌∙◌, append_assoc, arith}
use Rattle.std.proofs.lemmas.List.{append-nil, length-append}
use Rattle.shore_keys.proofs.texts.padded.Goals as goal

pub loop-at-init : goal.loop-at-init
loop-at-init c = ([], sym (append-nil c.args.text.items), refl, omega arith)

pub loop-at-preserved : goal.loop-at-preserved
loop-at-preserved c =
    let less : c.loop-at._at < c.saturating_sub-more.result = search rules in (
      c.loop-at.invariant.0 ++ 0 ∷ [],
      c.in_ok-push.ensures.items ∙ ap (λ r. r ++ 0 ∷ []) c.loop-at.invariant.1 ∙ append_assoc c.args.text.items c.loop-at.invariant.0 (0 ∷ []),
      length-append c.loop-at.invariant.0 (0 ∷ []) ∙ ap (λ (n : ℕ). n + 1) c.loop-at.invariant.2,
      omega (arith, less),
    )

pub returns : goal.returns
returns c =
    let least = c.loop-at.invariant.3 in
    let all : c.saturating_sub-more.result ≤ c.loop-at._at = search rules in
    let whole : c.saturating_sub-more.result ≡ c.args.len - length c.args.text.items = search rules in
    let same = c.loop-at.invariant.2 in
    (c.loop-at.invariant.0, c.loop-at.invariant.1, omega (arith, least, all, whole, same))
