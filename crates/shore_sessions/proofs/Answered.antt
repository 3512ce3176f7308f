-- What follows of an answer that may be there or not.
use Rattle.std.proofs.Common.{◌≡◌, is_some, Option, None, Some, Result, Ok, Err, true, false, IfSome}
use Rattle.std.specs.Prelude.{IfNone, IfOk, OnErr, OnOk}

pub some_so : {A : Type 0} {P Q : A → Type 0} (o : Option A) → ((x : A) → P x → Q x) → IfSome o P → IfSome o Q
some_so None f h = h
some_so (Some x) f h = f x h

pub none_so : {A : Type 0} {P Q : Type 0} (o : Option A) → (P → Q) → IfNone o P → IfNone o Q
none_so None f h = f h
none_so (Some x) f h = h

pub none_if : {A P : Type 0} (o : Option A) → P → IfNone o P
none_if None holds = holds
none_if (Some x) holds = tt

module _ {A E : Type 0} {P Q R S : Type 0} where
  pub ok_so : (r : Result A E) → (P → Q → R → S) → OnOk r P → OnOk r Q → OnOk r R → OnOk r S
  ok_so (Ok x) f p q r = f p q r
  ok_so (Err e) f p q r = p

pub err_so : {A E : Type 0} {P Q : Type 0} (r : Result A E) → (P → Q) → OnErr r P → OnErr r Q
err_so (Ok x) f p = p
err_so (Err e) f p = f p

pub none_told : {A P : Type 0} (o : Option A) → is_some o ≡ false → IfNone o P → P
none_told None is holds = holds
none_told (Some x) is holds = absurd (clash is)
  where
    clash : true ≡ false → ⊥
    clash e = cc

pub some_told : {A : Type 0} (P : A → Type 0) (o : Option A) → is_some o ≡ true → IfSome o P → (x : A) × P x
some_told P (Some x) is holds = (x, holds)
some_told P None is holds = absurd (clash is)
  where
    clash : false ≡ true → ⊥
    clash e = cc

pub ok_both : {A E : Type 0} {P Q R : A → Type 0} (r : Result A E) → ((x : A) → P x → Q x → R x) → IfOk r P → IfOk r Q → IfOk r R
ok_both (Ok x) f p q = f x p q
ok_both (Err e) f p q = p

pub both_some : {A : Type 0} {P Q R : A → Type 0} (o : Option A) → ((x : A) → P x → Q x → R x) → IfSome o P → IfSome o Q → IfSome o R
both_some None f p q = p
both_some (Some x) f p q = f x p q
