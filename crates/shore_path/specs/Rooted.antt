-- Requests with their intentions.
use Rattle.std.specs.Prelude.{List, All, IfSome}
use Rattle.shore_model.specs.declared.requests.Request.{Request}
use Rattle.shore_model.specs.Locks.{IsRooted}
use Rattle.shore_model.specs.Requests.{held_by_all, hold_in}

-- what a request holds has its parent mode, or a stronger one, on each ancestor, and so has what it wants
abbrev pub IsRootedRequest : List Request → Request → Type 0
IsRootedRequest rs r = IfSome (hold_in r r.held) (IsRooted (held_by_all rs)) × IfSome (hold_in r r.wanted) (IsRooted (held_by_all rs))

-- each request has its intentions
abbrev pub AreRooted : List Request → Type 0
AreRooted rs = All (IsRootedRequest rs) rs
