use Rattle.std.proofs.Common.{◌≡◌, ◌≢◌, ◌^◌, ◌≤◌, length, get_or, sym, ◌∙◌, inl, inr, subst, arith}
use Rattle.std.proofs.lemmas.Bool.{false≢true}
use Rattle.std.proofs.lemmas.Str.Pattern.{starts_char}
use Rattle.shore_script.specs.Ids.{IsNumber}
use Rattle.shore_script.specs.Reading.{Reads}
use Rattle.shore_script.proofs.Digits.{signed_is_none, padded_is_none, reads_number}
use Rattle.shore_script.proofs.words.number.Goals as goal
use Rattle.shore_script.proofs.words.number.Goals.{then-starts_with-via-then-starts_with, then-starts_with-via-else-starts_with+then-word-gt1}

pub returns-then-starts_with : goal.returns-then-starts_with
returns-then-starts_with c = λ n h.
    let word = c.args.word.now in
    elim c.then-starts_with.branch [
      | then-starts_with-via-then-starts_with w ↦
          let plus = starts_char 43 word c.starts_with.result c.starts_with.ensures.cases (omega arith) (omega arith) in
          signed_is_none word n (plus.0 w.if-starts_with.true) h
      | then-starts_with-via-else-starts_with+then-word-gt1 w ↦
          let call = w.starts_with-else-starts_with in
          let zero = starts_char 48 word call.result call.ensures.cases (omega arith) (omega arith) in
          padded_is_none word n (zero.0 w.if-word-gt1.true.0) w.if-word-gt1.true.1 h
    ]

pub returns : goal.returns
returns c =
    let word = c.args.word.now in
    let second = c.starts_with-else-starts_with in
    let plus = starts_char 43 word c.starts_with.result c.starts_with.ensures.cases (omega arith) (omega arith) in
    let zero = starts_char 48 word second.result second.ensures.cases (omega arith) (omega arith) in
    let plain : get_or word 0 0 ≢ 43 = λ e. false≢true (sym c.if-starts_with.false ∙ plus.1 e) in
    let short : get_or word 0 0 ≡ 48 → length word ≤ 1 = λ e. elim c.if-word-gt1.either [
      | inl h ↦ h.1
      | inr h ↦ absurd (false≢true (sym h ∙ zero.1 e))
    ] in
    subst (Reads (IsNumber (2 ^ 64) word)) (sym c.ok.ensures.value) (reads_number word c.parse.result plain short c.parse.ensures.value.0)
