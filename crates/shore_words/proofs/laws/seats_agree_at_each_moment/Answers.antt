use Rattle.std.proofs.Common.{◌∙◌, ℕ, List, ap, arith, subst, sym}
use Rattle.shore_words.specs.declared.rule.Noted.{Noted}
use Rattle.shore_words.specs.Words.{heard_of, AreBy, HasHeard}
use Rattle.shore_words.proofs.laws.seats_agree_at_each_moment.Goals as goal

pub returns-clause-seen : goal.returns-clause-seen
returns-clause-seen c s teller seat t v is at_teller at_seat tells =
    let low = (is.each seat v at_seat).seen in
    let told = ((is.each teller t at_teller).tells tells).1 in
    omega (arith, low, told)

pub returns-clause-one : goal.returns-clause-one
returns-clause-one c s teller keeper t k is at_teller at_keeper tells keeps =
    let kept = ((is.each keeper k at_keeper).keeps keeps).1 in
    let anchor = ((is.each teller t at_teller).tells tells).2 in
    kept ∙ sym anchor

pub returns-clause-heard : goal.returns-clause-heard
returns-clause-heard c s book ear b e is at_book at_ear notes =
    let own = (is.hears book b at_book).notes notes in
    let known = is.hears ear e at_ear in (
      subst (λ ns. HasHeard ns e.session e.heard) (sym own.1) known.heard,
      omega (arith, known.within, own.2),
      λ listens. (ap (heard_of e.session) own.1 ∙ sym (known.listens listens).1, known.numbered listens),
    )

pub returns-clause-by : goal.returns-clause-by
returns-clause-by c s book b is at_book notes =
    let own = (is.hears book b at_book).notes notes in
    subst (λ (x : ℕ × List Noted). AreBy x.0 x.1) (λ i. (sym own.2 i, sym own.1 i)) is.book.by

pub returns-clause-failed : goal.returns-clause-failed
returns-clause-failed c s book seat b v is at_book at_seat notes found = (is.hears book b at_book).failing notes ∙ (is.hears seat v at_seat).failed found
