-- Laws of what the bank claims.
use Rattle.std.proofs.Common.{◌≡◌, ◌≢◌, ◌≤◌, ◌+◌, ◌%◌, ◌++◌, ◌∙◌, ℕ, Bool, zero, suc, List, [], ◌∷◌, Result, Ok, Err, ap, sym, subst, append_assoc, append-nil, add-one, inl, inr, arith}
use Rattle.shore_types.specs.declared.faults.Fault.{Fault}
use Rattle.shore_types.specs.declared.faults.Fault.TheVariants as fault
use Rattle.shore_model.specs.declared.calls.Answer.{Answer}
use Rattle.shore_model.specs.declared.calls.Answer.TheVariants as answer
use Rattle.shore_model.specs.declared.calls.Call.TheVariants as call
use Rattle.shore_model.specs.declared.calls.Exchange.{Exchange}
use Rattle.shore_shared.specs.Heard.{IsOfCommit}
use Rattle.shore_shared.specs.NoCommits.{CommitNothing}
use Rattle.bank.specs.Claims.{AreTransfers, account, bytes_of, ComesTo, IsDurable, IsTransfer, neighbour}
use Rattle.bank.specs.declared.transfers.Turn.{Turn}
use Rattle.bank.specs.declared.transfers.Turn.TheVariants as turns

-- calls after calls
pub told_both : (first a b : List Exchange) {second third : List Exchange} → second ≡ first ++ a → third ≡ second ++ b → third ≡ first ++ (a ++ b)
told_both first a b e h = h ∙ ap (λ l. l ++ b) e ∙ append_assoc first a b

pub nothing_both : (a b : List Exchange) → CommitNothing a → CommitNothing b → CommitNothing (a ++ b)
nothing_both [] b p q = q
nothing_both (e ∷ a) b p q = (p.0, nothing_both a b p.1 q)

-- a commit that was refused, and not by these two
pub refused_commit : {failed : Bool} (reply : Result Answer Fault) (f : Fault) → IsOfCommit failed reply (Err f) → f ≢ fault.Device → f ≢ fault.NotQuiet → CommitNothing (record { call = call.Commit; reply = reply } ∷ [])
refused_commit (Err x) f (inl e) p q = ((λ d. p (cc (e, d))), tt)
refused_commit (Err x) f (inr (inl d)) p q = absurd (p d.2)
refused_commit (Err x) f (inr (inr o)) p q = absurd (q o.3)
refused_commit (Ok x) f (inl e) p q = absurd (cc e)
refused_commit (Ok x) f (inr (inl d)) p q = absurd (p d.2)
refused_commit (Ok x) f (inr (inr o)) p q = absurd (q o.3)

pub durable_by : (known txn ticket : ℕ) (made first last : List Exchange) → ticket ≤ known → first ≡ record { call = call.Begin; reply = Ok (answer.Began txn) } ∷ []
    → last ≡ record { call = call.Commit; reply = Ok (answer.Committed ticket) } ∷ [] → IsDurable known made (first ++ made ++ last)
durable_by known txn ticket made first last le e h =
    (txn, ticket, le, ap (λ (l : List Exchange). l ++ made ++ last) e ∙ ap (λ (l : List Exchange). record { call = call.Begin; reply = Ok (answer.Began txn) } ∷ made ++ l) h)

-- a record's bytes, as an amount
pub got_amount : (before : ℕ) {reply : Result Answer Fault} {a : Answer} {bytes text : List ℕ} → reply ≡ Ok a → a ≡ answer.Got bytes → text ≡ bytes → text ≡ bytes_of before
    → reply ≡ Ok (answer.Got (bytes_of before))
got_amount before is got same held = is ∙ ap Ok (got ∙ ap answer.Got (sym same ∙ held))

-- the two calls that add to an account
abbrev pub adding : ℕ → Result Answer Fault → List ℕ → Result Answer Fault → List Exchange
adding slot got text done = record { call = call.GetForUpdate (account slot); reply = got } ∷ record { call = call.Update (account slot) text; reply = done } ∷ []

pub added_by : (slot before has : ℕ) {text : List ℕ} {r q : Result Answer Fault} → r ≡ Ok (answer.Got (bytes_of before)) → text ≡ bytes_of has → q ≡ Ok answer.Updated
    → adding slot r text q ≡ adding slot (Ok (answer.Got (bytes_of before))) (bytes_of has) (Ok answer.Updated)
added_by slot before has e h k = λ i. adding slot (e i) (h i) (k i)

pub known_more : (known later : ℕ) → known ≤ later → (made es : List Exchange) → IsDurable known made es → IsDurable later made es
known_more known later le made es d = (d.0, d.1, omega (arith, le, d.2), d.3)

pub transfer_later : (known later : ℕ) → known ≤ later → (from to : ℕ) (es : List Exchange) → IsTransfer known from to es → IsTransfer later from to es
transfer_later known later le from to es t = (t.0, t.1, t.2, t.3, t.4, t.5, known_more known later le (t.0 ++ t.1) es t.6)

pub transfers_later : (known later : ℕ) → known ≤ later → (first n : ℕ) (es : List Exchange) → AreTransfers known first n es → AreTransfers later first n es
transfers_later known later le first zero es p = p
transfers_later known later le first (suc n) es p =
    (p.0, p.1, p.2, p.3, transfers_later known later le first n p.0 p.4, transfer_later known later le ((first + n) % 8) (neighbour ((first + n) % 8)) p.1 p.5, p.6)

-- after calls that commit nothing there are as many
pub transfers_go_on : (known first n : ℕ) (es more : List Exchange) → CommitNothing more → AreTransfers known first n es → AreTransfers known first n (es ++ more)
transfers_go_on known first zero es more none p = nothing_both es more p none
transfers_go_on known first (suc n) es more none p = (p.0, p.1, p.2 ++ more, ap (λ l. l ++ more) p.3 ∙ append_assoc (p.0 ++ p.1) p.2 more, p.4, p.5, nothing_both p.2 more p.6 none)

-- and after one more there is one more
pub transfer_more : (known first n : ℕ) (es more : List Exchange) → IsTransfer known ((first + n) % 8) (neighbour ((first + n) % 8)) more → AreTransfers known first n es
    → AreTransfers known first (suc n) (es ++ more)
transfer_more known first n es more t p = (es, more, [], sym (append-nil (es ++ more)), p, t, tt)

module _ (known later first n m : ℕ) (told next more : List Exchange) (turn : Turn) (le : known ≤ later) (been : AreTransfers known first n told) (on : next ≡ told ++ more)
    (came : ComesTo later ((first + n) % 8) turn more) where
  still : AreTransfers later first n told
  still = transfers_later known later le first n told been

  pub after_made : turn ≡ turns.Made → m ≡ n + 1 → AreTransfers later first m next
  after_made is one =
      subst (λ l. AreTransfers later first m l) (sym on)
      (subst (λ k. AreTransfers later first k (told ++ more)) (sym (one ∙ add-one n))
      (transfer_more later first n told more (subst (λ t. ComesTo later ((first + n) % 8) t more) is came) still))

  pub after_none : CommitNothing more → m ≡ n → AreTransfers later first m next
  after_none none same = subst (λ l. AreTransfers later first m l) (sym on) (subst (λ k. AreTransfers later first k (told ++ more)) (sym same) (transfers_go_on later first n told more none still))

  pub after_victim : turn ≡ turns.Victim → m ≡ n → AreTransfers later first m next
  after_victim is same = after_none (subst (λ t. ComesTo later ((first + n) % 8) t more) is came).1.0 same

  pub after_full : turn ≡ turns.Full → m ≡ n → AreTransfers later first m next
  after_full is same = after_none (subst (λ t. ComesTo later ((first + n) % 8) t more) is came).1.0 same
