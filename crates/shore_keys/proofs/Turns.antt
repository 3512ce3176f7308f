-- What holds of exchanges holds of one list behind another.
use Rattle.std.proofs.Common.{◌≡◌, ℕ, List, [], ◌∷◌, ◌++◌, refl, sym, subst, ap, ◌∙◌, append_assoc}
use Rattle.shore_model.specs.declared.calls.Exchange.{Exchange}
use Rattle.shore_model.specs.declared.progress.Progress.{Progress}
use Rattle.shore_model.specs.Alone.{MayReplyAll, after, after_reply}
use Rattle.shore_model.specs.Records.{Records}
use Rattle.shore_keys.specs.Exchanges.{AtItsTurn, GoesOn}

pub after-append : (p : Progress) (xs ys : List Exchange) → after p (xs ++ ys) ≡ after (after p xs) ys
after-append p [] ys = refl
after-append p (x ∷ xs) ys = after-append (after_reply p x.call x.reply) xs ys

pub replies-split : (most : ℕ) (R : Records) (p : Progress) (xs ys : List Exchange) → MayReplyAll most R p (xs ++ ys) → MayReplyAll most R p xs × MayReplyAll most R (after p xs) ys
replies-split most R p [] ys h = (tt, h)
replies-split most R p (x ∷ xs) ys h = let rest = replies-split most R (after_reply p x.call x.reply) xs ys h.1 in ((h.0, rest.0), rest.1)

pub both : (P Q S : Records → Progress → Progress → Type 0) (xs ys : List Exchange) → AtItsTurn P xs → AtItsTurn Q ys
    → ((R : Records) (p q r : Progress) → P R p q → Q R q r → S R p r) → AtItsTurn S (xs ++ ys)
both P Q S xs ys hp hq f most R p may =
    let parts = replies-split most R p xs ys may in
    subst (S R p) (sym (after-append p xs ys)) (f R p (after p xs) (after (after p xs) ys) (hp most R p parts.0) (hq most R (after p xs) parts.1))

pub goes-then : (P Q S : Records → Progress → Progress → Type 0) (a b c : List Exchange) → GoesOn (AtItsTurn P) a b → GoesOn (AtItsTurn Q) b c
    → ((R : Records) (p q r : Progress) → P R p q → Q R q r → S R p r) → GoesOn (AtItsTurn S) a c
goes-then P Q S a b c x y f = record {
  made = x.made ++ y.made;
  on = y.on ∙ ap (λ t. t ++ y.made) x.on ∙ append_assoc a x.made y.made;
  holds = both P Q S x.made y.made x.holds y.holds f;
}

pub goes-as : (P S : Records → Progress → Progress → Type 0) (a b : List Exchange) → GoesOn (AtItsTurn P) a b
    → ((R : Records) (p q : Progress) → P R p q → S R p q) → GoesOn (AtItsTurn S) a b
goes-as P S a b x f = record { made = x.made; on = x.on; holds = λ most R p may. f R p (after p x.made) (x.holds most R p may) }
