-- Laws of how many commits are among a client's calls.
use Rattle.std.proofs.Common.{◌≡◌, ◌≢◌, ◌≤◌, ◌<◌, ◌+◌, ◌%◌, ◌^◌, ◌++◌, ◌∙◌, ℕ, Bool, zero, suc, List, [], ◌∷◌, Result, Ok, Err, MatchResult, IfOk, ap, sym, subst, refl, append_assoc, append-nil, inl, inr, arith}
use Rattle.shore_types.specs.declared.faults.Fault.{Fault}
use Rattle.shore_types.specs.declared.faults.Fault.TheVariants as fault
use Rattle.shore_types.specs.declared.ids.Rid.{Rid}
use Rattle.shore_model.specs.declared.calls.Answer.{Answer}
use Rattle.shore_model.specs.declared.calls.Answer.TheVariants as answer
use Rattle.shore_model.specs.declared.calls.Call.{Call}
use Rattle.shore_model.specs.declared.calls.Call.TheVariants as call
use Rattle.shore_model.specs.declared.calls.Exchange.{Exchange}
use Rattle.shore_model.specs.declared.calls.Outcome.{Outcome}
use Rattle.shore_model.specs.declared.calls.Outcome.TheVariants as outcome
use Rattle.shore_shared.specs.Heard.{IsOfCommit}
use Rattle.shore_shared.specs.NoCommits.{CommitNothing, CommitsNothing, IsRefused}
use Rattle.turmoil.specs.Commits.{Adds, ComesTo, HasBegun, HasLeftCounters, counter}
use Rattle.turmoil.specs.Counts.{AddNothing, AddsNothing, AreRefused, Commits, CountsAll, CountsNone, DecidesNothing, HasCounted, HaveAdded, IsCommit, IsCounted, IsCountedCommit, IsDecided, commits_in}
use Rattle.turmoil.proofs.Commits.{counts_by, counts_nothing, left_both, nothing_both, refused_commit, told_both}

none_adds : (c : Call) (r : Result Answer Fault) → CommitsNothing c r → AddsNothing c r
none_adds call.Begin r p = tt
none_adds (call.Get id) r p = tt
none_adds (call.GetForUpdate id) r p = tt
none_adds (call.Insert store bytes) r p = tt
none_adds (call.Update id bytes) r p = tt
none_adds (call.Delete id) r p = tt
none_adds (call.Scan store) r p = tt
none_adds (call.Lock granule mode) r p = tt
none_adds (call.TryLock granule mode) r p = tt
none_adds call.Savepoint r p = tt
none_adds (call.BackTo index) r p = tt
none_adds call.Commit r p = p
none_adds call.Abort r p = tt
none_adds (call.Prepare global) r p = tt
none_adds (call.Resolve global to) r p = absurd p
none_adds call.InDoubt r p = tt

-- Calls that commit nothing add nothing.
pub nothing_added : (es : List Exchange) → CommitNothing es → AddNothing es
nothing_added [] p = tt
nothing_added (e ∷ es) p = (none_adds e.call e.reply p.0, nothing_added es p.1)

pub none_both : (a b : List Exchange) → AddNothing a → AddNothing b → AddNothing (a ++ b)
none_both [] b p q = q
none_both (e ∷ a) b p q = (p.0, none_both a b p.1 q)

-- What is durable stays so.
ends_later : (known later : ℕ) → known ≤ later → (es : List Exchange) → Commits known es → Commits later es
ends_later known later le es (inl p) = inl (p.0, omega (arith, le, p.1), p.2)
ends_later known later le es (inr p) = inr p

pub added_later : (client known later : ℕ) → known ≤ later → (n : ℕ) (es : List Exchange) → HaveAdded client known n es → HaveAdded client later n es
added_later client known later le zero es p = p
added_later client known later le (suc n) es p =
    (p.0, p.1, p.2, p.3, added_later client known later le n p.0 p.4, (p.5.0, p.5.1, p.5.2, p.5.3, p.5.4, p.5.5, ends_later known later le p.5.2 p.5.6, p.5.7), p.6)

pub added_go_on : (client known n : ℕ) (es more : List Exchange) → AddNothing more → HaveAdded client known n es → HaveAdded client known n (es ++ more)
added_go_on client known zero es more none p = none_both es more p none
added_go_on client known (suc n) es more none p = (p.0, p.1, p.2 ++ more, ap (λ l. l ++ more) p.3 ∙ append_assoc (p.0 ++ p.1) p.2 more, p.4, p.5, none_both p.2 more p.6 none)

-- calls after calls
pub added_both : (client known n m : ℕ) (a b : List Exchange) → HaveAdded client known n a → HaveAdded client known m b → HaveAdded client known (n + m) (a ++ b)
added_both client known n zero a b p q =
    let same : n ≡ n + 0 = omega (arith) in
    subst (λ k. HaveAdded client known k (a ++ b)) same (added_go_on client known n a b q p)
added_both client known n (suc m) a b p q =
    let same : suc (n + m) ≡ n + suc m = omega (arith) in
    subst (λ k. HaveAdded client known k (a ++ b)) same (
      a ++ q.0,
      q.1,
      q.2,
      ap (λ l. a ++ l) q.3 ∙ sym (append_assoc a (q.0 ++ q.1) q.2) ∙ ap (λ l. l ++ q.2) (sym (append_assoc a q.0 q.1)),
      added_both client known n m a q.0 p q.4,
      q.5,
      q.6,
    )

-- One commit after calls that add nothing.
pub added_last : (client known : ℕ) (a b : List Exchange) → AddNothing a → IsCountedCommit client known b → HaveAdded client known (suc zero) (a ++ b)
added_last client known a b p q = (a, b, [], sym (append-nil (a ++ b)), p, q, tt)

-- What a turn comes to as the others count it.
pub comes_to_counts : (client known old new : ℕ) (es : List Exchange) → ComesTo client known old new es → CountsAll client known old new es
comes_to_counts client known old new es (inl t) = (zero, omega (arith, t.0), nothing_added es t.1.0)
comes_to_counts client known old new es (inr t) =
    let last : Exchange = record { call = call.Commit; reply = Ok (answer.Committed t.1.2) } in
    (suc zero, omega (arith, t.0), added_last client known [] es tt (t.1.0, t.1.1, last ∷ [], t.1.3, t.1.4, t.1.5, inl (t.1.2, t.1.6, refl), t.1.7))

-- What may be noted before a turn may be after it, with the turn's commits.
pub counted_more : (known later client old new : ℕ) (told more : List Exchange) {next : List Exchange} → known ≤ later → IsCounted known client old told → next ≡ told ++ more → CountsAll client later old new more
    → IsCounted later client new next
counted_more known later client old new told more le p on t = (
  p.0,
  p.1,
  p.2 ++ more,
  on ∙ ap (λ l. l ++ more) p.3 ∙ append_assoc p.1 p.2 more,
  p.4,
  (p.5.0 + t.0, omega (arith, p.5.1, t.1), added_both client later p.5.0 t.0 p.2 more (added_later client known later le p.5.0 p.2 p.5.2) t.2),
)

-- Nothing is counted before the first turn but what the counters had.
pub counted_first : (known client begun : ℕ) (told : List Exchange) → HasBegun client begun told → IsCounted known client begun told
counted_first known client begun told p = (begun, told, [], sym (append-nil told), p, (zero, omega (arith), tt))

-- a transaction's calls that leave counters, and those that count it
pub counted_then : (client : ℕ) (old : List Exchange) {between new : List Exchange} → HasLeftCounters old between → HasCounted client between new → HasCounted client old new
counted_then client old {between} {new} p q =
    (p.0 ++ q.0, q.1, told_both old p.0 (q.0 ++ q.1) p.1 q.2 ∙ ap (λ l. old ++ l) (sym (append_assoc p.0 q.0 q.1)), nothing_both p.0 q.0 p.2 q.3, left_both p.0 q.0 p.3 q.4, q.5)

-- A counter tells one more, of a client whose other calls leave counters.
pub counted_by : (client from : ℕ) (old : List Exchange) {between new : List Exchange} (id : Rid) → HasLeftCounters old between → id ≡ counter client from → from < 8 → (es : List Exchange) × (new ≡ between ++ es) × Adds id 1 es
    → HasCounted client old new
counted_by client from old id p is small q = (p.0, q.0, told_both old p.0 q.0 p.1 q.1, p.2, p.3, counts_by client from q.0 id is small q.2)

pub counted_none : (client : ℕ) (old new : List Exchange) (c : HasCounted client old new) → AddNothing (c.0 ++ c.1)
counted_none client old new c = nothing_added (c.0 ++ c.1) (nothing_both c.0 c.1 c.3 (counts_nothing client c.1 c.5))

-- The end of a transaction that has counted: its commits, and those that were refused.
pub committed_after : (client known : ℕ) (old : List Exchange) {between new : List Exchange} {T : Type 0} (P : T → Type 0) (Q : Fault → Type 0) (b : List Exchange) (r : Result T Fault) (c : HasCounted client old between)
    → new ≡ between ++ b → MatchResult r (λ x. P x × Commits known b) (λ f. Q f → AddNothing b)
    → (new ≡ old ++ ((c.0 ++ c.1) ++ b)) × MatchResult r (λ x. P x × IsCountedCommit client known ((c.0 ++ c.1) ++ b)) (λ f. Q f → AddNothing ((c.0 ++ c.1) ++ b))
committed_after client known old {between} {new} P Q b (Ok x) c on p = (told_both old (c.0 ++ c.1) b c.2 on, (p.0, (c.0, c.1, b, c.3, c.4, c.5, p.1, refl)))
committed_after client known old {between} {new} P Q b (Err f) c on p = (told_both old (c.0 ++ c.1) b c.2 on, λ q. none_both (c.0 ++ c.1) b (counted_none client old between c) (p q))

-- .. by a commit, of which notes tell
pub counted_after : (client known had now : ℕ) (old : List Exchange) {between new : List Exchange} (b : List Exchange) {T : Type 0} (r : Result T Fault) (c : HasCounted client old between) → new ≡ between ++ b
    → MatchResult r (λ _. (now ≡ (had + 1) % 2 ^ 64) × IsCommit known b) (λ f. CountsNone had now f b)
    → (new ≡ old ++ ((c.0 ++ c.1) ++ b)) × MatchResult r (λ _. CountsAll client known had now ((c.0 ++ c.1) ++ b)) (λ f. CountsNone had now f ((c.0 ++ c.1) ++ b))
counted_after client known had now old {between} {new} b (Ok x) c on p =
    (told_both old (c.0 ++ c.1) b c.2 on, (suc zero, omega (arith, p.0), added_last client known [] ((c.0 ++ c.1) ++ b) tt (c.0, c.1, b, c.3, c.4, c.5, inl p.1, refl)))
counted_after client known had now old {between} {new} b (Err f) c on p =
    (told_both old (c.0 ++ c.1) b c.2 on, (p.0, λ d q. none_both (c.0 ++ c.1) b (counted_none client old between c) (p.1 d q)))

-- A transaction that was refused before it asked to commit counts nothing.
pub none_counted : (had : ℕ) (es : List Exchange) (f : Fault) → CommitNothing es → CountsNone had had f es
none_counted had es f none = (refl, λ p q. nothing_added es none)

-- What an awaited commit is, as it came out.
pub awaited : (failed : Bool) (known : ℕ) (reply : Result Answer Fault) (r : Result ℕ Fault) → IsOfCommit failed reply r → IfOk r (λ ticket. ticket ≤ known)
    → MatchResult r (λ ticket. (ticket ≤ known) × Commits known (record { call = call.Commit; reply = reply } ∷ [])) (λ f. (f ≢ fault.Device) × (f ≢ fault.NotQuiet) → AddNothing (record { call = call.Commit; reply = reply } ∷ []))
awaited failed known reply (Ok ticket) is le = (le, inl (ticket, le, ap (λ r. record { call = call.Commit; reply = r } ∷ []) is))
awaited failed known reply (Err f) is le = λ p. nothing_added (record { call = call.Commit; reply = reply } ∷ []) (refused_commit reply f is p.0 p.1)

-- A commit that was refused, and not by this.
pub refused_adds : (reply : Result Answer Fault) (f : Fault) → reply ≡ Err f → f ≢ fault.Device → AddNothing (record { call = call.Commit; reply = reply } ∷ [])
refused_adds (Err x) f is p = (λ d. p (cc (is, d)), tt)
refused_adds (Ok x) f is p = absurd (cc is)

pub refused_both : (global : List ℕ) (to : Outcome) (a b : List Exchange) → AreRefused global to a → AreRefused global to b → AreRefused global to (a ++ b)
refused_both global to [] b p q = q
refused_both global to (e ∷ a) b p q = (p.0, p.1, refused_both global to a b p.2 q)

-- .. and a decision
pub refused_decision : (global : List ℕ) (to : Outcome) (reply : Result Answer Fault) (f : Fault) {name : List ℕ} → name ≡ global → reply ≡ Err f → f ≢ fault.Device → AreRefused global to (record { call = call.Resolve name to; reply = reply } ∷ [])
refused_decision global to (Err x) f named is p = (ap (λ n. call.Resolve n to) named, λ d. p (cc (is, d)), tt)
refused_decision global to (Ok x) f named is p = absurd (cc is)

-- .. that was answered
pub answered_decision : (global : List ℕ) (to : Outcome) {reply : Result Answer Fault} {name : List ℕ} → name ≡ global → reply ≡ Ok answer.Resolved → IsDecided global to (record { call = call.Resolve name to; reply = reply } ∷ [])
answered_decision global to {reply} {name} named is = ([], tt, ap (λ r. record { call = call.Resolve name to; reply = r } ∷ []) is ∙ ap (λ n. record { call = call.Resolve n to; reply = Ok answer.Resolved } ∷ []) named)

-- .. in the end
pub decided_later : (global : List ℕ) (to : Outcome) (a b : List Exchange) → AreRefused global to a → IsDecided global to b → IsDecided global to (a ++ b)
decided_later global to a b p d = (a ++ d.0, refused_both global to a d.0 p d.1, ap (λ l. a ++ l) d.2 ∙ sym (append_assoc a d.0 (record { call = call.Resolve global to; reply = Ok answer.Resolved } ∷ [])))

refused_decides : (to : Outcome) (r : Result Answer Fault) → IsRefused r → DecidesNothing to r
refused_decides outcome.Commit r p = p
refused_decides outcome.Abort r p = tt

pub refused_none : (global : List ℕ) (to : Outcome) (es : List Exchange) → AreRefused global to es → AddNothing es
refused_none global to [] p = tt
refused_none global to (e ∷ es) p = (subst (λ c. AddsNothing c e.reply) (sym p.0) (refused_decides to e.reply p.1), refused_none global to es p.2)

-- A transaction that has counted, is prepared and decided counts what it was decided to be.
pub decided_counts : (client known had now : ℕ) (old : List Exchange) (global : List ℕ) (to : Outcome) (reply : Result Answer Fault) {prepared : Answer} {name : List ℕ} {between asked new : List Exchange} (c : HasCounted client old between)
    (b : List Exchange) → asked ≡ between ++ record { call = call.Prepare name; reply = reply } ∷ [] → name ≡ global → reply ≡ Ok prepared → new ≡ asked ++ b → IsDecided global to b → now % 2 ^ 64 ≡ (had + commits_in to) % 2 ^ 64
    → (es : List Exchange) × (new ≡ old ++ es) × CountsAll client known had now es
decided_counts client known had now old global to reply {prepared} {name} {between} {asked} {new} c b on named is then d counts =
    let first : List Exchange = record { call = call.Prepare name; reply = reply } ∷ [] in
    ((c.0 ++ c.1) ++ (first ++ b), told_both old (c.0 ++ c.1) (first ++ b) c.2 (told_both between first b on then), decided to d counts)
  where
    decided : (to : Outcome) → IsDecided global to b → now % 2 ^ 64 ≡ (had + commits_in to) % 2 ^ 64 → CountsAll client known had now ((c.0 ++ c.1) ++ (record { call = call.Prepare name; reply = reply } ∷ b))
    decided outcome.Commit d counts = (
      suc zero,
      counts,
      added_last client known [] ((c.0 ++ c.1) ++ (record { call = call.Prepare name; reply = reply } ∷ b)) tt (
        c.0,
        c.1,
        record { call = call.Prepare name; reply = reply } ∷ b,
        c.3,
        c.4,
        c.5,
        inr (global, prepared, b, d, ap (λ n. record { call = call.Prepare n; reply = reply } ∷ b) named ∙ ap (λ r. record { call = call.Prepare global; reply = r } ∷ b) is),
        refl,
      ),
    )
    decided outcome.Abort d counts = (
      zero,
      counts,
      none_both (c.0 ++ c.1) (record { call = call.Prepare name; reply = reply } ∷ b) (counted_none client old between c)
          (tt, subst AddNothing (sym d.2) (none_both d.0 (record { call = call.Resolve global outcome.Abort; reply = Ok answer.Resolved } ∷ []) (refused_none global outcome.Abort d.0 d.1) (tt, tt))),
    )

-- A turn that is given up counts nothing.
pub given_up : (client known had between now : ℕ) (f : Fault) (a b : List Exchange) → CountsNone had between f a → f ≢ fault.Device → f ≢ fault.NotQuiet → CommitNothing b → now ≡ between → CountsAll client known had now (a ++ b)
given_up client known had between now f a b p d q none same = (zero, omega (arith, p.0, same), none_both a b (p.1 d q) (nothing_added b none))
