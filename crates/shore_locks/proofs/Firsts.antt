-- The first waiter of a queue, found in one walk.
use Rattle.std.proofs.Common.{List, [], ◌∷◌, Option, None, Some}
use Rattle.std.specs.Prelude.{filter, slice_get}
use Rattle.shore_model.specs.declared.requests.Request.{Request}
use Rattle.shore_model.specs.declared.requests.Group.TheVariants.{Conversions, NewWaiters}
use Rattle.shore_model.specs.Requests.{is_in_group}

-- a new waiter that was seen, or else the first of these
abbrev pub or_first : Option Request → List Request → Option Request
or_first None rs = slice_get (filter (is_in_group NewWaiters) rs) 0
or_first (Some r) rs = Some r

abbrev pub conversion_or : List Request → Option Request → Option Request
conversion_or [] seen = seen
conversion_or (c ∷ cs) seen = Some c

-- the first waiter, if those were seen of which this is the first that is new, and these are left
abbrev pub first_after : Option Request → List Request → Option Request
first_after seen rs = conversion_or (filter (is_in_group Conversions) rs) (or_first seen rs)
