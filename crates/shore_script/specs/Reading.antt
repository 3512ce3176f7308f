-- What it means that a text is read.
use Rattle.std.specs.Prelude.{Option, None, Some}

-- what is found is in the relation, and if nothing is found nothing is in it
abbrev pub Reads : {X : Type 0} → (X → Type 0) → Option X → Type 0
Reads {X} P None = (x : X) → ¬ (P x)
Reads P (Some x) = P x
