-- Each move keeps the rule of the queue.
use Rattle.std.proofs.Common.{◌≡◌, ◌≢◌, ◌<◌, ◌+◌, arith, ℕ, zero, suc, true, false, true≢false, List, [], ◌∷◌, ◌++◌, length, set, sym, refl, ap, ◌∙◌, subst, ⊎_elim, append_assoc, append-nil, length-append}
use mathlib.Core.Option.{some, some-ne-none}
use lib.ListN.{get_elem?}
use Rattle.crossbeam_queue.specs.Fifo.{Pushes, Pops, Forks, Merges, Learns}
use Rattle.crossbeam_queue.proofs.Lists.{at_set, at_snoc}
use Rattle.shore_log.specs.declared.tail.PlainTail.{PlainTail}
use Rattle.shore_log.specs.PlainTails.{first_of, waiting_in}
use Rattle.shore_model.specs.declared.log_records.LogRecord.{LogRecord}
use Rattle.shore_queue.specs.declared.queue.Ends.{Ends}
use Rattle.shore_queue.specs.Queues.{ends, AreInTurn, Knows, Relays, records_in}

at_end : (l : List Ends) (a b : Ends) (j : ℕ) → get_elem? l j ≢ some b → get_elem? (l ++ a ∷ []) j ≡ some b → j ≡ length l
at_end [] a b zero n e = refl
at_end [] a b (suc j) n e = absurd (some-ne-none b (sym e))
at_end (x ∷ xs) a b zero n e = absurd (n e)
at_end (x ∷ xs) a b (suc j) n e = ap suc (at_end xs a b j n e)

abbrev All : (ℕ → Ends → Type 0) → List Ends → Type 0
All F views = (pass : ℕ) (v : Ends) → get_elem? views pass ≡ some v → F pass v

all_set : (F : ℕ → Ends → Type 0) (views : List Ends) (pass : ℕ) (w : Ends) → F pass w → ((j : ℕ) (u : Ends) → j ≢ pass → get_elem? views j ≡ some u → F j u) → All F (set views pass w)
all_set F views pass w mine others j u e =
    ⊎_elim (λ (x : (j ≡ pass) × (w ≡ u)). subst (λ (y : ℕ × Ends). F y.0 y.1) (λ i. (sym x.0 i, x.1 i)) mine)
    (λ (x : (j ≢ pass) × (get_elem? views j ≡ some u)). others j u x.0 x.1) (at_set views pass j w u e)

off : {A : Type 0} → false ≡ true → A
off p = absurd (true≢false (sym p))

records_snoc : (items : List PlainTail) (x : PlainTail) → records_in (items ++ x ∷ []) ≡ records_in items ++ waiting_in x
records_snoc [] x = append-nil (waiting_in x)
records_snoc (t ∷ ts) x = ap (λ l. waiting_in t ++ l) (records_snoc ts x) ∙ sym (append_assoc (waiting_in t) (records_in ts) (waiting_in x))

-- what was sent may go on
longer : (sent known more : List LogRecord) → ((rest : List LogRecord) × (sent ≡ known ++ rest)) → (rest : List LogRecord) × (sent ++ more ≡ known ++ rest)
longer sent known more k = (k.0 ++ more, ap (λ l. l ++ more) k.1 ∙ append_assoc known k.0 more)

turn_snoc : (n : ℕ) (items : List PlainTail) (x : PlainTail) → AreInTurn n items → first_of x ≡ n + length (records_in items) → 0 < length (waiting_in x) → AreInTurn n (items ++ x ∷ [])
turn_snoc n [] x are first full = (omega (arith, first), full, tt)
turn_snoc n (t ∷ ts) x are first full =
    (are.0, are.1, turn_snoc (n + length (waiting_in t)) ts x are.2 (omega (arith, first, length-append (waiting_in t) (records_in ts))) full)

module _ (first : ℕ) where
  pub begins : Relays first [] (ends true true [] [] ∷ [])
  begins = record {
    sender = 0;
    receiver = 0;
    sent = [];
    got = [];
    parts = refl;
    turn = tt;
    each = all_set (Knows 0 0 [] []) (ends true true [] [] ∷ []) 0 (ends true true [] []) (record { sends = λ _. (refl, refl); receives = λ _. (refl, refl); knows = ([], refl) })
        (λ j u other e. absurd (other (at_end [] _ u j (λ x. some-ne-none u (sym x)) e)));
  }

  pub sends : (n pass : ℕ) (v : Ends) (x : PlainTail) → v.sends ≡ true → first_of x ≡ first + length v.sent → 0 < length (waiting_in x)
      → Pushes (Relays first) n pass v x (λ w. w ≡ ends v.sends v.receives (v.sent ++ waiting_in x) v.got)
  sends n pass v x may number full items views _ h at =
      let w : Ends = ends v.sends v.receives (v.sent ++ waiting_in x) v.got in
      let mine = h.each pass v at in
      let own = mine.sends may in
      let sent = h.sent ++ waiting_in x in
      let told : Knows h.sender h.receiver sent h.got pass w = record {
        sends = λ _. (own.0, ap (λ l. l ++ waiting_in x) own.1);
        receives = mine.receives;
        knows = ([], ap (λ l. l ++ waiting_in x) (sym own.1) ∙ sym (append-nil (v.sent ++ waiting_in x)));
      } in
      let others : (j : ℕ) (u : Ends) → j ≢ pass → get_elem? views j ≡ some u → Knows h.sender h.receiver sent h.got j u = λ j u other e. record {
        sends = λ p. absurd (other (((h.each j u e).sends p).0 ∙ sym own.0));
        receives = (h.each j u e).receives;
        knows = longer h.sent u.sent (waiting_in x) (h.each j u e).knows;
      } in (
        w,
        record {
          sender = h.sender;
          receiver = h.receiver;
          sent = sent;
          got = h.got;
          parts = ap (λ l. l ++ waiting_in x) h.parts ∙ append_assoc h.got (records_in items) (waiting_in x) ∙ ap (λ l. h.got ++ l) (sym (records_snoc items x));
          turn = turn_snoc (first + length h.got) items x h.turn (omega (arith, number, ap length own.1, ap length h.parts, length-append h.got (records_in items))) full;
          each = all_set (Knows h.sender h.receiver sent h.got) views pass w told others;
        },
        refl,
      )

  pub gets : (pass : ℕ) (v : Ends) → v.receives ≡ true
      → Pops (Relays first) pass v (λ x w. (w ≡ ends v.sends v.receives v.sent (v.got ++ waiting_in x)) × (first_of x ≡ first + length v.got) × (0 < length (waiting_in x)))
  gets pass v may x items views h at =
      let w : Ends = ends v.sends v.receives v.sent (v.got ++ waiting_in x) in
      let mine = h.each pass v at in
      let own = mine.receives may in
      let got = h.got ++ waiting_in x in
      let told : Knows h.sender h.receiver h.sent got pass w = record { sends = mine.sends; receives = λ _. (own.0, ap (λ l. l ++ waiting_in x) own.1); knows = mine.knows } in
      let others : (j : ℕ) (u : Ends) → j ≢ pass → get_elem? views j ≡ some u → Knows h.sender h.receiver h.sent got j u = λ j u other e. record {
        sends = (h.each j u e).sends;
        receives = λ p. absurd (other (((h.each j u e).receives p).0 ∙ sym own.0));
        knows = (h.each j u e).knows;
      } in (
        w,
        record {
          sender = h.sender;
          receiver = h.receiver;
          sent = h.sent;
          got = got;
          parts = h.parts ∙ sym (append_assoc h.got (waiting_in x) (records_in items));
          turn = subst (λ (n : ℕ). AreInTurn n items) (omega (arith, length-append h.got (waiting_in x))) h.turn.2;
          each = all_set (Knows h.sender h.receiver h.sent got) views pass w told others;
        },
        (refl, omega (arith, h.turn.0, ap length own.1), h.turn.1),
      )

  -- A pass that may receive is cut: the new one may, and the old one may not any more.
  parted : (items : List PlainTail) (views : List Ends) (h : Relays first items views) (pass : ℕ) (l r : Ends) → pass ≡ h.receiver → l.receives ≡ false → r.sends ≡ false
      → (l.sends ≡ true → (pass ≡ h.sender) × (l.sent ≡ h.sent)) → (r.receives ≡ true → r.got ≡ h.got)
      → ((rest : List LogRecord) × (h.sent ≡ l.sent ++ rest)) → ((rest : List LogRecord) × (h.sent ≡ r.sent ++ rest)) → Relays first items (set views pass l ++ r ∷ [])
  parted items views h pass l r here deaf dumb own got knew knows =
      let vs : List Ends = set views pass l in
      let Old : ℕ → Ends → Type 0 = λ j u. (u.sends ≡ true → (j ≡ h.sender) × (u.sent ≡ h.sent)) × (u.receives ≢ true) × ((rest : List LogRecord) × (h.sent ≡ u.sent ++ rest)) in
      let quiet : l.receives ≢ true = λ p. true≢false (sym p ∙ deaf) in
      let others : (j : ℕ) (u : Ends) → j ≢ pass → get_elem? views j ≡ some u → Old j u = λ j u other e. ((h.each j u e).sends, (λ p. other (((h.each j u e).receives p).0 ∙ sym here)), (h.each j u e).knows) in
      let old : All Old vs = all_set Old views pass l (own, quiet, knew) others in record {
        sender = h.sender;
        receiver = length vs;
        sent = h.sent;
        got = h.got;
        parts = h.parts;
        turn = h.turn;
        each = λ j u e. ⊎_elim (λ x. record { sends = (old j u x).0; receives = λ p. absurd ((old j u x).1 p); knows = (old j u x).2 })
            (λ (is : r ≡ u). record {
              sends = λ p. absurd (true≢false (sym (ap (λ (y : Ends). y.sends) is ∙ p) ∙ dumb));
              knows = (knows.0, knows.1 ∙ ap (λ (y : Ends). y.sent ++ knows.0) is);
              receives = λ p. (at_end vs r u j (λ x. (old j u x).1 p) e, ap (λ (y : Ends). y.got) (sym is) ∙ got (ap (λ (y : Ends). y.receives) is ∙ p));
            })
            (at_snoc vs r u j e);
      }

  pub forks : (pass : ℕ) (v : Ends) → v.sends ≡ true → v.receives ≡ true → Forks (Relays first) pass v (ends true false v.sent []) (ends false true v.sent v.got)
  forks pass v a b items views h at =
      let mine = h.each pass v at in
      parted items views h pass (ends true false v.sent []) (ends false true v.sent v.got) (mine.receives b).0 refl refl (λ _. mine.sends a) (λ _. (mine.receives b).1) mine.knows mine.knows

  -- what may receive goes to a new pass
  pub lifts : (pass : ℕ) (v : Ends) → v.sends ≡ false → v.receives ≡ true → Forks (Relays first) pass v (ends false false [] []) v
  lifts pass v a b items views h at =
      let mine = h.each pass v at in
      parted items views h pass (ends false false [] []) v (mine.receives b).0 refl a (λ p. off p) (λ _. (mine.receives b).1) (h.sent, refl) mine.knows

  pub merges : (pass : ℕ) (v : Ends) (other : ℕ) (u : Ends) → v.sends ≡ true → u.receives ≡ true → Merges (Relays first) pass v other u (ends true true v.sent u.got) (ends false false [] [])
  merges pass v other u a b items views h at two at' =
      let both : Ends = ends true true v.sent u.got in
      let none : Ends = ends false false [] [] in
      let vs : List Ends = set views pass both in
      let mine = h.each pass v at in
      let was : get_elem? views other ≡ some u = ⊎_elim (λ x. absurd (two x.0)) (λ x. x.1) (at_set views pass other both u at') in
      let theirs = (h.each other u was).receives b in
      let F = Knows h.sender pass h.sent h.got in
      let Now : ℕ → Ends → Type 0 = λ j y. j ≢ other → F j y in
      let joint : Now pass both = λ _. record { sends = λ _. mine.sends a; receives = λ _. (refl, theirs.1); knows = mine.knows } in
      let now : All Now vs = all_set Now views pass both joint
      (λ j y _ e apart. record { sends = (h.each j y e).sends; receives = λ p. absurd (apart (((h.each j y e).receives p).0 ∙ sym theirs.0)); knows = (h.each j y e).knows }) in record {
        sender = h.sender;
        receiver = pass;
        sent = h.sent;
        got = h.got;
        parts = h.parts;
        turn = h.turn;
        each = all_set F vs other none (record { sends = λ p. off p; receives = λ p. off p; knows = (h.sent, refl) }) (λ j y apart e. now j y e apart);
      }

  pub totals : (pass : ℕ) (v : Ends) → v.sends ≡ true → v.receives ≡ true → Learns (Relays first) pass v (λ items. v.sent ≡ v.got ++ records_in items)
  totals pass v a b items views h at =
      let mine = h.each pass v at in
      (mine.sends a).1 ∙ h.parts ∙ ap (λ l. l ++ records_in items) (sym (mine.receives b).1)

  -- once the queue holds nothing, all was received that is known to be sent
  pub catches_up : (pass : ℕ) (v : Ends) → v.receives ≡ true → Learns (Relays first) pass v (λ items. (rest : List LogRecord) × (v.got ++ records_in items ≡ v.sent ++ rest))
  catches_up pass v b items views h at =
      let mine = h.each pass v at in
      (mine.knows.0, ap (λ l. l ++ records_in items) (mine.receives b).1 ∙ sym h.parts ∙ mine.knows.1)
