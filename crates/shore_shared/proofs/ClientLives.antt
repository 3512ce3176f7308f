-- Each client's life is in the trail, by what its jobs were claimed of.
use Rattle.std.proofs.Common.{◌≡◌, ◌≤◌, ◌<◌, ◌+◌, ℕ, Bool, true, zero, suc, List, [], ◌∷◌, ◌++◌, Some, flat_map, length, slice_get, arith, refl, sym, ap, subst, ◌∙◌, append-nil, append_assoc}
use Rattle.std.proofs.Math.Logic.{∥∥₁_map, ∥∥₁_elim, ∥∥₁_prop}
use Rattle.std.proofs.lemmas.Option.{none-some, same_Some}
use Rattle.shore_model.specs.declared.calls.Exchange.{Exchange}
use Rattle.shore_words.specs.declared.rule.Heard.{Heard}
use Rattle.shore_words.specs.declared.rule.Noted.{Noted}
use Rattle.shore_words.specs.Words.{heard_of}
use Rattle.shore_shared.specs.Clients.{IsClientsLife}
use Rattle.shore_shared.specs.Told.{AllHold, AreAllClaimed, AreClaimed, AreFresh, AreInTrail, AreTold, HasHeardSince, IsClaimed, IsWithin, Seen, Shown}
use Rattle.shore_shared.proofs.Telling.{told_on}

-- ---- one client among all

claimed_at : {D : Type 0} (says : ℕ → D → List Exchange → Seen → Type 0) (client : ℕ) (bs : List Shown) (ds : List D) (later : List Shown) → AreClaimed says client bs ds later → (k : ℕ) (b : Shown) → slice_get bs k ≡ Some b
    → (d : D) × (a : Shown) × (slice_get ds k ≡ Some d) × (slice_get later k ≡ Some a) × IsClaimed (says (client + k) d) b a
claimed_at says client [] ds later is k b at = absurd (none-some b at)
claimed_at says client (x ∷ bs) [] later is k b at = absurd is
claimed_at says client (x ∷ bs) (d ∷ ds) [] is k b at = absurd is
claimed_at says client (x ∷ bs) (d ∷ ds) (a ∷ later) (one, others) zero b at =
    (d, a, refl, refl, subst (λ s. IsClaimed (says (client + 0) d) s a) (same_Some x b at) (subst (λ n. IsClaimed (says n d) x a) (omega arith) one))
claimed_at says client (x ∷ bs) (d ∷ ds) (a ∷ later) (one, others) (suc k) b at =
    let it = claimed_at says (client + 1) bs ds later others k b at in (it.0, it.1, it.2, it.3, subst (λ n. IsClaimed (says n it.0) b it.1) (omega arith) it.4)

fresh_at : (n : ℕ) (ss : List Shown) → AreFresh n ss → (k : ℕ) → k < length ss → (s : Shown) × (slice_get ss k ≡ Some s) × (s.heard ≡ [])
fresh_at n [] is k low = absurd (omega (arith, low))
fresh_at n (s ∷ ss) (one, none, others) zero low = (s, refl, none)
fresh_at n (s ∷ ss) (one, none, others) (suc k) low = fresh_at (n + 1) ss others k (omega (arith, low))

trail_at : (noted : List Noted) (so : Seen) (n : ℕ) (ss : List Shown) → AreInTrail noted so n ss → (k : ℕ) (s : Shown) → slice_get ss k ≡ Some s → (heard_of (n + k) noted ≡ s.heard) × IsWithin s.seen so
trail_at noted so n [] is k s at = absurd (none-some s at)
trail_at noted so n (x ∷ ss) (one, heard, seen, others) zero s at =
    subst (λ (y : Shown). (heard_of (n + 0) noted ≡ y.heard) × IsWithin y.seen so) (same_Some x s at) (subst (λ m. heard_of m noted ≡ x.heard) (omega arith) heard, seen)
trail_at noted so n (x ∷ ss) (one, heard, seen, others) (suc k) s at =
    let it = trail_at noted so (n + 1) ss others k s at in (subst (λ m. heard_of m noted ≡ s.heard) (omega arith) it.0, it.1)

-- ---- its jobs, one after another

told_append : (failed : Bool) (es fs : List Exchange) (first rest : List Heard) → AreTold failed es first → AreTold failed fs rest → AreTold failed (es ++ fs) (first ++ rest)
told_append failed [] fs first rest none told = subst (λ hs. AreTold failed fs (hs ++ rest)) (sym none) told
told_append failed (e ∷ es) fs first rest (one, others, parts, hears, were) told =
    (one, others ++ rest, ap (λ hs. hs ++ rest) parts ∙ append_assoc one others rest, hears, told_append failed es fs others rest were told)

-- no more than what is known by one who knows no more than a third
within : {x y z : Seen} → IsWithin x y → IsWithin y z → IsWithin x z
within a b = (omega (arith, a.0, b.0), λ p. b.1 (a.1 p))

record Lived {J D : Type 0} (says : J → ℕ → D → List Exchange → Seen → Type 0) (client : ℕ) (jobs : List J) (rows : List (List D)) (b a : Shown) : Type 0 where
  told : List (List Exchange)
  more : List Heard
  grown : a.heard ≡ b.heard ++ more
  were_told : AreTold a.seen.failed (flat_map (λ es. es) told) more
  each : (length told ≡ length jobs) × (length rows ≡ length jobs)
  seen : IsWithin b.seen a.seen
  claims : (job : ℕ) (it : J) → slice_get jobs job ≡ Some it → (row : List D) × (d : D) × (es : List Exchange) × (seen : Seen)
      × (slice_get rows job ≡ Some row) × (slice_get row client ≡ Some d) × (slice_get told job ≡ Some es) × IsWithin seen a.seen × says it client d es seen

lived_none : {J D : Type 0} (says : J → ℕ → D → List Exchange → Seen → Type 0) (client : ℕ) (b : Shown) → Lived says client [] [] b b
lived_none says client b = record {
  told = [];
  more = [];
  grown = sym (append-nil b.heard);
  were_told = refl;
  each = (refl, refl);
  seen = (omega arith, λ p. p);
  claims = λ job it at. absurd (none-some it at);
}

lived_more : {J D : Type 0} (says : J → ℕ → D → List Exchange → Seen → Type 0) (client : ℕ) (j : J) (js : List J) (row : List D) (rows : List (List D)) (b m a : Shown) (d : D) (es : List Exchange)
    → slice_get row client ≡ Some d → IsWithin b.seen m.seen → HasHeardSince m.seen.failed b.heard m.heard es → says j client d es m.seen → Lived says client js rows m a → Lived says client (j ∷ js) (row ∷ rows) b a
lived_more {J} {D} says client j js row rows b m a d es at_d seen (since, parts, were) said l = record {
  told = es ∷ l.told;
  more = since ++ l.more;
  grown = l.grown ∙ ap (λ hs. hs ++ l.more) parts ∙ append_assoc b.heard since l.more;
  were_told = told_append a.seen.failed es (flat_map (λ fs. fs) l.told) since l.more (told_on m.seen.failed a.seen.failed l.seen.1 es since were) l.were_told;
  each = (ap suc l.each.0, ap suc l.each.1);
  seen = within seen l.seen;
  claims = each_claim;
}
  where
    each_claim : (job : ℕ) (it : J) → slice_get (j ∷ js) job ≡ Some it → (r : List D) × (e : D) × (fs : List Exchange) × (seen : Seen)
        × (slice_get (row ∷ rows) job ≡ Some r) × (slice_get r client ≡ Some e) × (slice_get (es ∷ l.told) job ≡ Some fs) × IsWithin seen a.seen × says it client e fs seen
    each_claim zero it at = (row, d, es, m.seen, refl, at_d, refl, l.seen, subst (λ i. says i client d es m.seen) (same_Some j it at) said)
    each_claim (suc job) it at = l.claims job it at

lived : {J D : Type 0} (says : J → ℕ → D → List Exchange → Seen → Type 0) (before : List Shown) (jobs : List J) (rows : List (List D)) (after : List Shown) → AreAllClaimed says before jobs rows after → (k : ℕ) (b : Shown) → slice_get before k ≡ Some b
    → ∥ ((a : Shown) × (slice_get after k ≡ Some a) × Lived says k jobs rows b a) ∥₁
lived says before [] [] after same k b at = ∣ (b, ap (λ ss. slice_get ss k) same ∙ at, lived_none says k b) ∣₁
lived says before [] (r ∷ rows) after is k b at = absurd is
lived says before (j ∷ js) [] after is k b at = absurd is
lived says before (j ∷ js) (row ∷ rows) after (between, one, others) k b at =
    let it = claimed_at (says j) 0 before row between one k b at in
    ∥∥₁_elim (lived says between js rows after others k it.1 it.3) ∥∥₁_prop (λ rest.
    ∥∥₁_map it.4.2 (λ said.
    (rest.0, rest.1, lived_more says k j js row rows b it.1 rest.0 it.0 said.0 it.2 it.4.1 said.1 (subst (λ n. says j n it.0 said.0 it.1.seen) (omega arith) said.2) rest.2)))

ended : {J D : Type 0} (says : J → ℕ → D → List Exchange → Seen → Type 0) (noted : List Noted) (so : Seen) (client : ℕ) (jobs : List J) (done : List (List D)) (b a : Shown) (l : Lived says client jobs done b a)
    → b.heard ≡ [] → heard_of (1 + client) noted ≡ a.heard → IsWithin a.seen so → IsClientsLife says noted so client jobs done l.told
ended says noted so client jobs done b a l none heard seen = record {
  trail = subst (λ hs. AreTold so.failed (flat_map (λ es. es) l.told) hs) (sym (ap (λ n. heard_of n noted) (omega arith) ∙ heard ∙ l.grown ∙ ap (λ hs. hs ++ l.more) none))
      (told_on a.seen.failed so.failed seen.1 (flat_map (λ es. es) l.told) l.more l.were_told);
  each = l.each;
  claims = λ job it at. let c = l.claims job it at in (c.0, c.1, c.2, c.3, c.4, c.5, c.6, within c.7 seen, c.8);
}

pub life : {J D : Type 0} (says : J → ℕ → D → List Exchange → Seen → Type 0) (noted : List Noted) (so : Seen) (clients : ℕ) (jobs : List J) (done : List (List D)) → AllHold says noted so clients jobs done
    → (client : ℕ) → client < clients → ∥ ((told : List (List Exchange)) × IsClientsLife says noted so client jobs done told) ∥₁
life says noted so clients jobs done (holds, by) client low =
    let b = fresh_at 1 holds.0 holds.3 client (omega (arith, low, holds.2)) in
    ∥∥₁_map (lived says holds.0 jobs done holds.1 holds.4 client b.0 b.1) (λ l.
    let is = trail_at noted so 1 holds.1 holds.5 client l.0 l.1 in (l.2.told, ended says noted so client jobs done b.0 l.0 l.2 b.2 is.0 is.1))
