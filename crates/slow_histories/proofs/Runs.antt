-- A run of a transaction alone, as far as it has come.
use Rattle.std.proofs.Common.{◌≡◌, ◌<◌, ◌+◌, ℕ, List, [], ◌∷◌, Option, None, Some, length, get_or, drop, refl, sym, ap, subst, ◌∙◌}
use Rattle.std.specs.List.{cons_option}
use Rattle.std.specs.Prelude.{◌↔◌, Bool, Result, Ok, Err, IfOk, IsTrue}
use Rattle.shore_model.specs.declared.calls.Exchange.{Exchange}
use Rattle.shore_model.specs.declared.histories.Entry.{Entry}
use Rattle.shore_model.specs.declared.progress.Progress.{Progress}
use Rattle.shore_model.specs.Records.{Records, WriteSet}
use Rattle.shore_model.specs.Alone.{Alone, MayReply, MayReplyAll, after, start}
use Rattle.shore_model.specs.Histories.{calls_of, exchange_of}
use Rattle.shore_model.proofs.Steps.{at_place}

-- the replies so far could come: all of them may come if and only if the rest may from here
pub record ComesTo (most : ℕ) (R : Records) (all rest : List Exchange) (p : Progress) : Type 0 where
  pub forth : MayReplyAll most R start all → MayReplyAll most R p rest
  pub back : MayReplyAll most R p rest → MayReplyAll most R start all
  pub same : after p rest ≡ after start all

pub ComesTo-none : (most : ℕ) (R : Records) (all : List Exchange) (p : Progress) → p ≡ start → ComesTo most R all all p
ComesTo-none most R all p e = record {
  forth = λ h. subst (λ q. MayReplyAll most R q all) (sym e) h;
  back = λ h. subst (λ q. MayReplyAll most R q all) e h;
  same = ap (λ q. after q all) e;
}

module _ (most : ℕ) (R : Records) where
  -- a reply, if there is one, and those after it
  both_parts : (o : Option Exchange) (p : Progress) (es : List Exchange) → MayReplyAll most R p (cons_option o es) → MayReplyAll most R p (cons_option o []) × MayReplyAll most R (after p (cons_option o [])) es
  both_parts None p es h = (tt, h)
  both_parts (Some e) p es h = ((h.0, tt), h.1)

  one_whole : (o : Option Exchange) (p : Progress) (es : List Exchange) → MayReplyAll most R p (cons_option o []) → MayReplyAll most R (after p (cons_option o [])) es → MayReplyAll most R p (cons_option o es)
  one_whole None p es h k = k
  one_whole (Some e) p es h k = (h.0, k)

same_end : (o : Option Exchange) (p : Progress) (es : List Exchange) → after (after p (cons_option o [])) es ≡ after p (cons_option o es)
same_end None p es = refl
same_end (Some e) p es = refl

-- an entry that may have its reply
pub ComesTo-more : (most : ℕ) (R : Records) (t : ℕ) (all : List Entry) (i : ℕ) (p : Progress) (e : Entry) → i < length all → e ≡ get_or all i e → ComesTo most R (calls_of t all) (calls_of t (drop i all)) p → MayReplyAll most R p (calls_of t (e ∷ [])) → (q : Progress) → q ≡ after p (calls_of t (e ∷ [])) → ComesTo most R (calls_of t all) (calls_of t (drop (i + 1) all)) q
ComesTo-more most R t all i p e within is h may q to =
    let o = exchange_of t e in
    let rest = calls_of t (drop (i + 1) all) in
    let split : calls_of t (drop i all) ≡ cons_option o rest = ap (calls_of t) (at_place all i e within is) in
    record {
      forth = λ a. subst (λ r. MayReplyAll most R r rest) (sym to) (both_parts most R o p rest (subst (MayReplyAll most R p) split (h.forth a))).1;
      back = λ a. h.back (subst (MayReplyAll most R p) (sym split) (one_whole most R o p rest may (subst (λ r. MayReplyAll most R r rest) to a)));
      same = ap (λ r. after r rest) to ∙ same_end o p rest ∙ ap (after p) (sym split) ∙ h.same;
    }

-- an entry that may not have its reply spoils the whole
pub ComesTo-stop : (most : ℕ) (R : Records) (t : ℕ) (all : List Entry) (i : ℕ) (p : Progress) (e : Entry) → i < length all → e ≡ get_or all i e → ComesTo most R (calls_of t all) (calls_of t (drop i all)) p → (MayReplyAll most R p (calls_of t (e ∷ [])) → ⊥) → (W : WriteSet) → Alone most R (calls_of t all) W → ⊥
ComesTo-stop most R t all i p e within is h never W a =
    let split : calls_of t (drop i all) ≡ cons_option (exchange_of t e) (calls_of t (drop (i + 1) all)) = ap (calls_of t) (at_place all i e within is) in
    never (both_parts most R (exchange_of t e) p (calls_of t (drop (i + 1) all)) (subst (MayReplyAll most R p) split (h.forth a.0))).0

pub ComesTo-all : (most : ℕ) (R : Records) (all : List Exchange) (p : Progress) → ComesTo most R all [] p → Alone most R all p.writes
ComesTo-all most R all p h = (h.back tt, ap (λ q. q.writes) h.same)

-- whether the one reply of an entry may come
pub one_reply : {E : Type 0} (most : ℕ) (R : Records) (p : Progress) (e : Exchange) (r : Result Bool E) → IfOk r (λ yes. IsTrue yes ↔ MayReply most R p e.call e.reply) → (o : Option Exchange) → Some e ≡ o → IfOk r (λ yes. IsTrue yes ↔ MayReplyAll most R p (cons_option o []))
one_reply most R p e (Ok b) h o is = subst (λ o. IsTrue b ↔ MayReplyAll most R p (cons_option o [])) is ((λ y. (h.0 y, tt)), (λ k. h.1 k.0))
one_reply most R p e (Err fault) h o is = tt
