use Rattle.std.proofs.Common.{◌≡◌, ℕ, List, ◌++◌, length, take, ap, ◌∙◌, Some, arith}
use Rattle.std.specs.Io.BufRead.{strip_last, take_through}
use Rattle.std.specs.Io.Buffered.{reader_remaining}
use Rattle.std.specs.Io.Take.{take_remaining}
use Rattle.std.specs.Option.{option_map}
use Rattle.shore_script.specs.Input.{bytes_left}
use Rattle.shore_script.proofs.Ends.{for_some, of_some, without_its_end}
use Rattle.shore_script.proofs.lines.Lines.next_line.Goals as goal

pub returns : goal.returns
returns g c = for_some (bytes_left g.R.Read.remaining c.args.self.now) _ (λ left e.
    let rest = reader_remaining g.R.Read.remaining in
    let limited = c.set_limit.new.self in
    let front : List ℕ = take 65537 left in
    let known : take_remaining rest limited ≡ Some front =
    ap (λ (n : ℕ). option_map (take n) (rest limited.inner)) c.set_limit.ensures.limit
    ∙ ap (λ i. option_map (take 65537) (rest i)) c.set_limit.ensures.inner
    ∙ ap (option_map (take 65537)) e in
    let items = of_some (take_remaining rest limited) _ front known c.in_ok-read_until.ensures.bytes in
    let line : c.deref.result.now ≡ take_through 10 front =
    c.deref.ensures.value ∙ items ∙ ap (λ (l : List ℕ). l ++ take_through 10 front) c.clear.ensures.items in (
      λ none.
          let empty : length c.deref.result.now ≡ 0 =
          ap (λ (l : List ℕ). length l) line ∙ ap (λ (l : List ℕ). length (take_through 10 (take 65537 l))) none in
          c.if-branch-eq0.false (omega (arith, empty, c.deref.ensures.len, c.clear.ensures.len, c.in_ok-read_until.ensures.ok)),
      c.without_end.ensures ∙ ap (strip_last 10) line ∙ without_its_end front,
    ))
