-- The input, line by line.
use Rattle.std.specs.Prelude.{◌+◌, ◌==◌, ℕ, List, Option, take}
use Rattle.std.specs.List.{before_first}
use Rattle.std.specs.Io.Buffered.{reader_remaining}
use Rattle.std.specs.Io.Take.{take_inner}
use Rattle.shore_script.specs.declared.lines.Lines.{Lines}
use Rattle.shore_script.specs.declared.lines.TheConstants.{MAX_LINE_BYTES}

-- the bytes that are still to be read, if they are known
abbrev pub bytes_left : {R : Type 0} → (R → Option (List ℕ)) → Lines R → Option (List ℕ)
bytes_left remaining lines = reader_remaining remaining (take_inner lines.input)

-- the bytes before the first end of a line, or all of them; of a line that is too long, one byte more than it may have
abbrev pub first_line : List ℕ → List ℕ
first_line left = before_first (λ b. b == 10) (take (MAX_LINE_BYTES + 1) left)
