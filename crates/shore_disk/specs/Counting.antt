-- How a count of calls runs down.
use Rattle.std.specs.Prelude.{ℕ, Option, None, Some, zero, suc}

-- one call later: how many pass before the one that fails, and none where it has failed
abbrev pub one_call_on : Option ℕ → Option ℕ
one_call_on None = None
one_call_on (Some zero) = None
one_call_on (Some (suc calls)) = Some calls
