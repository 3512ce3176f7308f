-- What a dump of a store's records comes to.
use Rattle.std.proofs.Common.{◌≡◌, Result, Ok, Err, IfOk, IsErrAnd, MatchResult, sym, subst}
use Rattle.shore_types.specs.declared.faults.Fault.{Fault}

pub map_ok : {A : Type 0} (P Q : A → Type 0) (r : Result A Fault) → ((x : A) → P x → Q x) → IfOk r P → IfOk r Q
map_ok P Q (Ok x) each holds = each x holds
map_ok P Q (Err f) each holds = tt

pub both_ok : {A : Type 0} (P Q R : A → Type 0) (r : Result A Fault) → ((x : A) → P x → Q x → R x) → IfOk r P → IfOk r Q → IfOk r R
both_ok P Q R (Ok x) each one two = each x one two
both_ok P Q R (Err f) each one two = tt

pub match_as : {A : Type 0} (P : A → Type 0) (Q : Fault → Type 0) (r : Result A Fault) (f : Fault) → IsErrAnd r (λ e. e ≡ f) → Q f → MatchResult r P Q
match_as P Q (Err e) f same holds = subst Q (sym same) holds
match_as P Q (Ok x) f same holds = absurd same
