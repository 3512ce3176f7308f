-- What a log device has follows what it had at first and what came through the queue.
use Rattle.std.proofs.Common.{◌≡◌, ◌+◌, ℕ, List, [], ◌++◌, length, arith, sym, ◌∙◌, ap, append-nil, append_assoc, length-append}
use Rattle.shore_model.specs.declared.log_records.LogRecord.{LogRecord}
use Rattle.shore_held.specs.Logs.{Follows}

-- at first nothing came
pub follows_none : (cut : ℕ) (before list : List LogRecord) → list ≡ before → Follows cut before [] cut list
follows_none cut before list same = record { gone = []; parts = append-nil before ∙ sym same; cut_off = omega arith }

-- all is the same
pub follows_same : (cut : ℕ) (before got more : List LogRecord) (now later : ℕ) (list new : List LogRecord) → more ≡ got → later ≡ now → new ≡ list → Follows cut before got now list
    → Follows cut before more later new
follows_same cut before got more now later list new came same is f = record {
  gone = f.gone;
  parts = ap (λ l. before ++ l) came ∙ f.parts ∙ ap (λ l. f.gone ++ l) (sym is);
  cut_off = same ∙ f.cut_off;
}

-- more came
pub follows_more : (cut : ℕ) (before got : List LogRecord) (now : ℕ) (list more : List LogRecord) → Follows cut before got now list → Follows cut before (got ++ more) now (list ++ more)
follows_more cut before got now list more f = record {
  gone = f.gone;
  parts = sym (append_assoc before got more) ∙ ap (λ l. l ++ more) f.parts ∙ append_assoc f.gone list more;
  cut_off = f.cut_off;
}

-- the first ones are cut off
pub follows_cut : (cut : ℕ) (before got : List LogRecord) (now later : ℕ) (list gone new : List LogRecord) → list ≡ gone ++ new → later ≡ now + length gone → Follows cut before got now list
    → Follows cut before got later new
follows_cut cut before got now later list gone new parts rises f = record {
  gone = f.gone ++ gone;
  parts = f.parts ∙ ap (λ l. f.gone ++ l) parts ∙ sym (append_assoc f.gone gone new);
  cut_off = omega (arith, rises, f.cut_off, length-append f.gone gone);
}

-- the number that what comes next has
pub next_number : (cut : ℕ) (before got : List LogRecord) (now : ℕ) (list : List LogRecord) → Follows cut before got now list → (cut + 1 + length before) + length got ≡ now + 1 + length list
next_number cut before got now list f = omega (arith, ap length f.parts, f.cut_off, length-append before got, length-append f.gone list)
