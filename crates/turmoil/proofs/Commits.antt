-- Laws of what a client's turns come to.
use Rattle.std.proofs.Common.{◌≡◌, ◌≢◌, ◌≤◌, ◌<◌, ◌+◌, ◌%◌, ◌^◌, ◌++◌, ◌∙◌, ℕ, Bool, zero, suc, List, [], ◌∷◌, Result, Ok, Err, IfOk, IsErr, MatchResult, ap, sym, subst, refl, append_assoc, append-nil, add-one, inl, inr, arith}
use Rattle.std.specs.Int.{to_le_bytes, w64}
use Rattle.shore_types.specs.declared.ids.Rid.{Rid}
use Rattle.shore_types.specs.declared.faults.Fault.{Fault}
use Rattle.shore_types.specs.declared.faults.Fault.TheVariants as fault
use Rattle.shore_model.specs.declared.calls.Answer.{Answer}
use Rattle.shore_model.specs.declared.calls.Answer.TheVariants as answer
use Rattle.shore_model.specs.declared.calls.Call.TheVariants as call
use Rattle.shore_model.specs.declared.calls.Exchange.{Exchange}
use Rattle.shore_shared.specs.Heard.{IsOfCommit}
use Rattle.shore_shared.specs.NoCommits.{CommitNothing, CommitsNothing}
use Rattle.turmoil.specs.Commits.{Adds, AreRead, ComesTo, CountsOne, HasBegun, HasCommitted, HasCommittedNothing, HasLeftCounters, HasRolledBack, HaveCommitted, IsNoted, LeaveCounters, LeavesCounters, account, counter}

-- calls after calls
pub told_both : (old a b : List Exchange) {between new : List Exchange} → between ≡ old ++ a → new ≡ between ++ b → new ≡ old ++ (a ++ b)
told_both old a b e h = h ∙ ap (λ l. l ++ b) e ∙ append_assoc old a b

pub nothing_both : (a b : List Exchange) → CommitNothing a → CommitNothing b → CommitNothing (a ++ b)
nothing_both [] b p q = q
nothing_both (e ∷ a) b p q = (p.0, nothing_both a b p.1 q)

pub nothing_then : (old : List Exchange) {between new : List Exchange} → HasCommittedNothing old between → HasCommittedNothing between new → HasCommittedNothing old new
nothing_then old p q = (p.0 ++ q.0, told_both old p.0 q.0 p.1 q.1, nothing_both p.0 q.0 p.2 q.2)

pub nothing_by : (old : List Exchange) (e : Exchange) {new : List Exchange} → CommitsNothing e.call e.reply → new ≡ old ++ e ∷ [] → HasCommittedNothing old new
nothing_by old e p h = (e ∷ [], h, (p, tt))

pub left_both : (a b : List Exchange) → LeaveCounters a → LeaveCounters b → LeaveCounters (a ++ b)
left_both [] b p q = q
left_both (e ∷ a) b p q = (p.0, left_both a b p.1 q)

pub left_then : (old : List Exchange) {between new : List Exchange} → HasLeftCounters old between → HasLeftCounters between new → HasLeftCounters old new
left_then old p q = (p.0 ++ q.0, told_both old p.0 q.0 p.1 q.1, nothing_both p.0 q.0 p.2 q.2, left_both p.0 q.0 p.3 q.3)

pub left_by : (old : List Exchange) (e : Exchange) {new : List Exchange} → CommitsNothing e.call e.reply → LeavesCounters e.call → new ≡ old ++ e ∷ [] → HasLeftCounters old new
left_by old e p q h = (e ∷ [], h, (p, tt), (q, tt))

adds_nothing : (id : Rid) (amount : ℕ) (es : List Exchange) → Adds id amount es → CommitNothing es
adds_nothing id amount es p = subst CommitNothing (sym p.3) (tt, (tt, tt))

adds_leave : (slot amount : ℕ) (es : List Exchange) → Adds (account slot) amount es → LeaveCounters es
adds_leave slot amount es p = subst LeaveCounters (sym p.3) (tt, (refl, tt))

-- What is added to an account leaves counters.
pub left_by_account : (slot amount : ℕ) (old : List Exchange) {new : List Exchange} (id : Rid) → id ≡ account slot → (es : List Exchange) × (new ≡ old ++ es) × Adds id amount es → HasLeftCounters old new
left_by_account slot amount old id is p =
    let at : Adds (account slot) amount p.0 = subst (λ i. Adds i amount p.0) is p.2 in
    (p.0, p.1, adds_nothing (account slot) amount p.0 at, adds_leave slot amount p.0 at)

-- One more, of a record that was got and updated.
pub added_one : (id : Rid) (amount has : ℕ) (old : List Exchange) {between new : List Exchange} {first last : Result Answer Fault} {updated : Answer} {bytes : List ℕ} → has < 2 ^ 64
    → between ≡ old ++ record { call = call.GetForUpdate id; reply = first } ∷ [] → new ≡ between ++ record { call = call.Update id bytes; reply = last } ∷ []
    → first ≡ Ok (answer.Got (to_le_bytes w64 has)) → bytes ≡ to_le_bytes w64 ((has + amount) % 2 ^ 64) → last ≡ Ok updated
    → (es : List Exchange) × (new ≡ old ++ es) × Adds id amount es
added_one id amount has old {between} {new} {first} {last} {updated} {bytes} small on then got put is = (
  record { call = call.GetForUpdate id; reply = first } ∷ record { call = call.Update id bytes; reply = last } ∷ [],
  told_both old (record { call = call.GetForUpdate id; reply = first } ∷ []) (record { call = call.Update id bytes; reply = last } ∷ []) on then,
  (
    has,
    updated,
    small,
    ap (λ r. record { call = call.GetForUpdate id; reply = r } ∷ record { call = call.Update id bytes; reply = last } ∷ []) got
        ∙ ap (λ b. record { call = call.GetForUpdate id; reply = Ok (answer.Got (to_le_bytes w64 has)) } ∷ record { call = call.Update id b; reply = last } ∷ []) put
        ∙ ap (λ r. record { call = call.GetForUpdate id; reply = Ok (answer.Got (to_le_bytes w64 has)) } ∷ record { call = call.Update id (to_le_bytes w64 ((has + amount) % 2 ^ 64)); reply = r } ∷ []) is,
  ),
)

pub counts_by : (client from : ℕ) (es : List Exchange) (id : Rid) → id ≡ counter client from → from < 8 → Adds id 1 es → CountsOne client es
counts_by client from es id is small p = (from, small, subst (λ i. Adds i 1 es) is p)

pub counts_nothing : (client : ℕ) (es : List Exchange) → CountsOne client es → CommitNothing es
counts_nothing client es p = adds_nothing (counter client p.0) 1 es p.2

-- a commit that was refused, and not by these two
pub refused_commit : {failed : Bool} (reply : Result Answer Fault) (f : Fault) → IsOfCommit failed reply (Err f) → f ≢ fault.Device → f ≢ fault.NotQuiet → CommitNothing (record { call = call.Commit; reply = reply } ∷ [])
refused_commit (Err x) f (inl e) p q = ((λ d. p (cc (e, d))), tt)
refused_commit (Err x) f (inr (inl d)) p q = absurd (p d.2)
refused_commit (Err x) f (inr (inr o)) p q = absurd (q o.3)
refused_commit (Ok x) f (inl e) p q = absurd (cc e)
refused_commit (Ok x) f (inr (inl d)) p q = absurd (p d.2)
refused_commit (Ok x) f (inr (inr o)) p q = absurd (q o.3)

-- of a result, whichever it is
pub at_result : {T : Type 0} (r : Result T Fault) {P R : T → Type 0} {Q S : Fault → Type 0} → MatchResult r P Q → ((x : T) → P x → R x) → ((f : Fault) → Q f → S f) → MatchResult r R S
at_result (Ok x) p ok err = ok x p
at_result (Err f) q ok err = err f q

pub if_ok : {T : Type 0} (r : Result T Fault) {P Q : T → Type 0} → IfOk r P → ((x : T) → P x → Q x) → IfOk r Q
if_ok (Ok x) p f = f x p
if_ok (Err e) p f = tt

-- of a result that is a refusal, whichever it is
pub at_err : {T : Type 0} (r : Result T Fault) (P : T → Type 0) (Q : Fault → Type 0) → IsErr r → ((f : Fault) → Q f) → MatchResult r P Q
at_err (Ok x) P Q e q = absurd (cc e)
at_err (Err f) P Q e q = q f

-- a rollback after calls that commit nothing
pub rolled_back : (a : List Exchange) (reply : Result Answer Fault) → CommitNothing a → HasRolledBack (a ++ record { call = call.Abort; reply = reply } ∷ [])
rolled_back a reply p = (nothing_both a (record { call = call.Abort; reply = reply } ∷ []) p (tt, tt), a, reply, refl)

-- a durable commit after what counts it
pub committed_by : (client known ticket : ℕ) (a b : List Exchange) {reply : Result Answer Fault} → CommitNothing a → LeaveCounters a → CountsOne client b → ticket ≤ known → reply ≡ Ok (answer.Committed ticket)
    → HasCommitted client known ((a ++ b) ++ record { call = call.Commit; reply = reply } ∷ [])
committed_by client known ticket a b p q counts le is = (a, b, ticket, p, q, counts, le, ap (λ r. (a ++ b) ++ record { call = call.Commit; reply = r } ∷ []) is)

pub commits_later : (client known later : ℕ) → known ≤ later → (n : ℕ) (es : List Exchange) → HaveCommitted client known n es → HaveCommitted client later n es
commits_later client known later le zero es p = p
commits_later client known later le (suc n) es p =
    (p.0, p.1, p.2, p.3, commits_later client known later le n p.0 p.4, (p.5.0, p.5.1, p.5.2, p.5.3, p.5.4, p.5.5, omega (arith, le, p.5.6), p.5.7), p.6)

pub commits_go_on : (client known n : ℕ) (es more : List Exchange) → CommitNothing more → HaveCommitted client known n es → HaveCommitted client known n (es ++ more)
commits_go_on client known zero es more none p = nothing_both es more p none
commits_go_on client known (suc n) es more none p = (p.0, p.1, p.2 ++ more, ap (λ l. l ++ more) p.3 ∙ append_assoc (p.0 ++ p.1) p.2 more, p.4, p.5, nothing_both p.2 more p.6 none)

-- What may be noted before a turn may be after it, with the turn's commit.
pub noted_more : (known later client old new : ℕ) (told more : List Exchange) {next : List Exchange} → known ≤ later → IsNoted known client old told → next ≡ told ++ more → ComesTo client later old new more
    → IsNoted later client new next
noted_more known later client old new told more le p on (inl t) = (
  p.0,
  p.1,
  p.2,
  p.3 ++ more,
  on ∙ ap (λ l. l ++ more) p.4 ∙ append_assoc p.1 p.3 more,
  p.5,
  commits_go_on client later p.2 p.3 more t.1.0 (commits_later client known later le p.2 p.3 p.6),
  t.0 ∙ p.7,
)
noted_more known later client old new told more le p on (inr t) = (
  p.0,
  p.1,
  suc p.2,
  p.3 ++ more,
  on ∙ ap (λ l. l ++ more) p.4 ∙ append_assoc p.1 p.3 more,
  p.5,
  (p.3, more, [], sym (append-nil (p.3 ++ more)), commits_later client known later le p.2 p.3 p.6, t.1, tt),
  omega (arith, t.0, p.7),
)

pub read_fits : (client n sum : ℕ) (es : List Exchange) → AreRead client n sum es → sum < 2 ^ 64
read_fits client zero sum es p = omega (arith, p.0)
read_fits client (suc n) sum es p = omega (arith, p.5)

-- Nothing is noted before the first turn but what the counters had.
pub noted_first : (known client begun : ℕ) (told : List Exchange) → HasBegun client begun told → IsNoted known client begun told
noted_first known client begun told p = (begun, told, 0, [], sym (append-nil told), p, tt, omega (arith, read_fits client p.3 begun p.2 p.5))

-- a record's bytes, as a number
pub got_number : (has : ℕ) {reply : Result Answer Fault} {a : Answer} {bytes text : List ℕ} → reply ≡ Ok a → a ≡ answer.Got bytes → text ≡ bytes → text ≡ to_le_bytes w64 has
    → reply ≡ Ok (answer.Got (to_le_bytes w64 has))
got_number has is got same held = is ∙ ap Ok (got ∙ ap answer.Got (sym same ∙ held))

-- So many counters were read since the transaction began.
abbrev pub IsReading : ℕ → ℕ → ℕ → List Exchange → Type 0
IsReading client n sum told = (began : Answer) × (read : List Exchange) × (told ≡ record { call = call.Begin; reply = Ok began } ∷ read) × AreRead client n sum read

pub read_more : (client n sum has : ℕ) (told next : List Exchange) (id : Rid) → id ≡ counter client n → has < 2 ^ 64 → IsReading client n sum told
    → next ≡ told ++ record { call = call.Get id; reply = Ok (answer.Got (to_le_bytes w64 has)) } ∷ [] → IsReading client (n + 1) ((sum + has) % 2 ^ 64) next
read_more client n sum has told next id is small p on =
    let more : Rid → List Exchange = λ i. record { call = call.Get i; reply = Ok (answer.Got (to_le_bytes w64 has)) } ∷ [] in (
      p.0,
      p.1 ++ more (counter client n),
      on ∙ ap (λ i. told ++ more i) is ∙ ap (λ l. l ++ more (counter client n)) p.2,
      subst (λ k. AreRead client k ((sum + has) % 2 ^ 64) (p.1 ++ more (counter client n))) (sym (add-one n)) (p.1, sum, has, small, p.3, refl, refl),
    )

pub begun_by : (client n sum : ℕ) (told : List Exchange) {next : List Exchange} {ended : Answer} {reply : Result Answer Fault} → n ≡ 8 → IsReading client n sum told
    → next ≡ told ++ record { call = call.Abort; reply = reply } ∷ [] → reply ≡ Ok ended → HasBegun client sum next
begun_by client n sum told {next} {ended} all p on is =
    (p.0, ended, p.1, n, all, p.3, on ∙ ap (λ r. told ++ record { call = call.Abort; reply = r } ∷ []) is ∙ ap (λ l. l ++ record { call = call.Abort; reply = Ok ended } ∷ []) p.2)
