-- Calls that wait, of which that of one session is to be told a cycle.
use Rattle.std.proofs.Common.{◌≡◌, ◌≢◌, inl, inr, ◌<◌, ◌++◌, ◌∷◌, [], ℕ, zero, suc, List, Some, true, false, cond, refl, sym, ap, subst, ◌∙◌, arith, length, get_or, map, set}
use Rattle.std.specs.Prelude.{◌==◌, if◌then◌else◌, reverse}
use Rattle.std.proofs.lemmas.Bool.{eq-eqb, ne_eqb}
use Rattle.std.proofs.lemmas.List.{map-append}
use Rattle.std.specs.List.{cons_option}
use Rattle.laws_lives.specs.Sessions.{EachOnce, ResolvedTxn, SessionTxn, in_txn, txns_of}
use Rattle.laws_lives.specs.Views.{IsAmong}
use Rattle.shore_model.specs.declared.rollbacks.Rollback.TheVariants.{Whole}
use Rattle.shore_model.specs.Histories.{free}
use Rattle.laws_calls.specs.CallSteps.{IsPreparing}
use Rattle.laws_calls.specs.States.{State, Waiting}
use Rattle.laws_calls.specs.Victims.{with_cycle}
use Rattle.shore_txn.proofs.OneOfMany.{map_among}
use Rattle.shore_sessions.specs.Calls.{as_resolved, as_waiting, as_waitings, awaits_record, caller_of, cycle_noted, logs_decision, names_of, resolved_by}
use Rattle.shore_sessions.specs.Noting.{victim_noted}
use Rattle.shore_sessions.specs.Standing.{HasWaits}
use Rattle.shore_sessions.specs.declared.waits.WaitingCall.{WaitingCall}
use Rattle.shore_sessions.proofs.Lists.{reverse-cons}
use Rattle.shore_sessions.proofs.Taking.{AreApart, among_at, apart_rest, first_apart}
use Rattle.shore_sessions.proofs.WaitSteps.{names-with_undo, numbers_named}

map_turned : {A B : Type 0} (f : A → B) (xs : List A) → map f (reverse xs) ≡ reverse (map f xs)
map_turned f [] = refl
map_turned f (x ∷ xs) =
    ap (map f) (reverse-cons x xs) ∙ map-append f (reverse xs) (x ∷ []) ∙ ap (λ l. l ++ f x ∷ []) (map_turned f xs) ∙ sym (reverse-cons (f x) (map f xs))

-- what is read at an index inside is the same, whatever is read elsewhere
pub read_same : {A : Type 0} (xs : List A) (i : ℕ) (d e : A) → i < length xs → get_or xs i d ≡ get_or xs i e
read_same [] i d e less = absurd (omega (arith, less))
read_same (x ∷ xs) zero d e less = refl
read_same (x ∷ xs) (suc i) d e less = read_same xs i d e (omega (arith, less))

map_map : {A B C : Type 0} (f : A → B) (g : B → C) (h : A → C) → ((x : A) → g (f x) ≡ h x) → (xs : List A) → map g (map f xs) ≡ map h xs
map_map f g h same [] = refl
map_map f g h same (x ∷ xs) = ap (λ l. g (f x) ∷ l) (map_map f g h same xs) ∙ ap (λ y. y ∷ map h xs) (same x)

module _ (session : ℕ) (cycle : List ℕ) where
  abbrev pub told : WaitingCall → WaitingCall
  told w = record { session = w.session; txn = w.txn; call = w.call; wait = w.wait; cycle = Some cycle }

  abbrev note : WaitingCall → WaitingCall
  note w = if w.session == session then told w else w

  caller_same : (w : WaitingCall) → caller_of (note w) ≡ caller_of w
  caller_same w = elim (w.session == session) as (λ b. caller_of (cond b (told w) w) ≡ caller_of w) [ true ↦ refl | false ↦ refl ]

  record_same : (w : WaitingCall) → awaits_record (note w) ≡ awaits_record w
  record_same w = elim (w.session == session) as (λ b. awaits_record (cond b (told w) w) ≡ awaits_record w) [ true ↦ refl | false ↦ refl ]

  call_same : (w : WaitingCall) → (note w).call ≡ w.call
  call_same w = elim (w.session == session) as (λ b. (cond b (told w) w).call ≡ w.call) [ true ↦ refl | false ↦ refl ]

  resolved_same : (w : WaitingCall) → as_resolved (note w) ≡ as_resolved w
  resolved_same w = elim (w.session == session) as (λ b. as_resolved (cond b (told w) w) ≡ as_resolved w) [ true ↦ refl | false ↦ refl ]

  pub resolved_noted : (calls : List WaitingCall) → resolved_by (cycle_noted session cycle calls) ≡ resolved_by calls
  resolved_noted [] = refl
  resolved_noted (w ∷ ws) = ap (λ o. cons_option o (resolved_by (cycle_noted session cycle ws))) (resolved_same w) ∙ ap (cons_option (as_resolved w)) (resolved_noted ws)

  -- as the state has them
  abbrev noted_waiting : Waiting → Waiting
  noted_waiting w = if w.session == session then record { session = w.session; call = w.call; wait = w.wait; cycle = Some cycle } else w

  waiting_same : (w : WaitingCall) → noted_waiting (as_waiting w) ≡ as_waiting (note w)
  waiting_same w = elim (w.session == session) as (λ b. cond b (record { session = w.session; call = w.call; wait = w.wait; cycle = Some cycle }) (as_waiting w) ≡ as_waiting (cond b (told w) w)) [ true ↦ refl | false ↦ refl ]

  pub waitings-noted : (calls : List WaitingCall) → with_cycle session cycle (as_waitings calls) ≡ as_waitings (cycle_noted session cycle calls)
  waitings-noted calls =
      map_turned noted_waiting (map as_waiting calls)
      ∙ ap reverse (map_map as_waiting noted_waiting (λ w. as_waiting (note w)) waiting_same calls ∙ sym (map_map note as_waiting (λ w. as_waiting (note w)) (λ w. refl) calls))

  -- none is noted if none is the session's
  pub none_noted : (calls : List WaitingCall) → ((w : WaitingCall) → IsAmong w calls → w.session ≢ session) → cycle_noted session cycle calls ≡ calls
  none_noted [] others = refl
  none_noted (w ∷ ws) others =
      ap (λ b. cond b (told w) w ∷ cycle_noted session cycle ws) (ne_eqb w.session session (others w (inl refl)))
      ∙ ap (λ l. w ∷ l) (none_noted ws (λ v m. others v (inr m)))

  -- the call at an index is the session's
  pub set_noted : (calls : List WaitingCall) → AreApart calls → (i : ℕ) → i < length calls → ((d : WaitingCall) → (get_or calls i d).session ≡ session) → (d : WaitingCall)
      → set calls i (told (get_or calls i d)) ≡ cycle_noted session cycle calls
  set_noted [] apart i less own d = absurd (omega arith)
  set_noted (x ∷ xs) apart zero less own d =
      ap (λ l. told x ∷ l) (sym (none_noted xs (λ w m same. first_apart x xs apart w m (own x ∙ sym same))))
      ∙ ap (λ b. cond b (told x) x ∷ cycle_noted session cycle xs) (sym (eq-eqb x.session session (own x)))
  set_noted (x ∷ xs) apart (suc i) less own d =
      ap (λ l. x ∷ l) (set_noted xs (apart_rest x xs apart) i (omega arith) own d)
      ∙ ap (λ b. cond b (told x) x ∷ cycle_noted session cycle xs) (sym (ne_eqb x.session session (λ same. first_apart x xs apart (get_or xs i x) (among_at xs i x (omega arith)) (same ∙ sym (own x)))))

-- ---- what they tell of a state

module _ (calls : List WaitingCall) (s : State) (was : HasWaits calls s) (b : SessionTxn) (cycle : List ℕ) where
  names_still : names_of (victim_noted s b cycle).sessions.active ≡ names_of s.sessions.active
  names_still = names-with_undo b.txn (record { images = b.undo.images; marks = []; rolling = Some Whole }) s.sessions.active

  numbers_still : txns_of (victim_noted s b cycle).sessions.active ≡ txns_of s.sessions.active
  numbers_still =
      numbers_named (victim_noted s b cycle).sessions.active ∙ ap (map (λ (n : ℕ × ℕ). n.1)) names_still ∙ sym (numbers_named s.sessions.active)

  -- the call that is noted was there
  noted_of : (w : WaitingCall) → IsAmong w (cycle_noted b.session cycle calls) → (v : WaitingCall) × IsAmong v calls × (note b.session cycle v ≡ w)
  noted_of w m = map_among (note b.session cycle) w calls m

  pub waits_noted : HasWaits (cycle_noted b.session cycle calls) (victim_noted s b cycle)
  waits_noted = record {
    waiting = ap (with_cycle b.session cycle) was.waiting ∙ waitings-noted b.session cycle calls;
    kinds = λ w m.
        let old = noted_of w m in
        ap awaits_record (sym old.2) ∙ record_same b.session cycle old.0 ∙ was.kinds old.0 old.1 ∙ ap logs_decision (sym (call_same b.session cycle old.0) ∙ ap (λ (v : WaitingCall). v.call) old.2);
    asking = λ w m is.
        let old = noted_of w m in
        let caller = sym (caller_same b.session cycle old.0) ∙ ap caller_of old.2 in
        let its = was.asking old.0 old.1 (sym (record_same b.session cycle old.0) ∙ ap awaits_record old.2 ∙ is) in (
          subst (λ n. IsAmong n (names_of (victim_noted s b cycle).sessions.active)) caller (subst (IsAmong (caller_of old.0)) (sym names_still) its.0),
          subst (λ (n : ℕ × ℕ). s.sessions.seats n.0 ≡ in_txn n.1) caller its.1,
        );
    preparing = λ w global m is.
        let old = noted_of w m in
        let caller = sym (caller_same b.session cycle old.0) ∙ ap caller_of old.2 in
        subst (λ (n : ℕ × ℕ). IsPreparing s.sessions n.0 n.1 global) caller
        (was.preparing old.0 global old.1 (sym (call_same b.session cycle old.0) ∙ ap (λ (v : WaitingCall). v.call) old.2 ∙ is));
    ended = λ w r m is.
        let old = noted_of w m in
        let caller = sym (caller_same b.session cycle old.0) ∙ ap caller_of old.2 in
        let its = was.ended old.0 r old.1 (sym (resolved_same b.session cycle old.0) ∙ ap as_resolved old.2 ∙ is) in
        subst (λ (n : ℕ × ℕ). (IsAmong n.1 (txns_of (victim_noted s b cycle).sessions.active) → ⊥) × (n.1 < s.sessions.next_txn) × (s.sessions.seats n.0 ≡ free)) caller
        ((λ k. its.0 (subst (IsAmong old.0.txn) numbers_still k)), its.1, its.2);
    once = subst (λ (rs : List ResolvedTxn). EachOnce (map (λ r. r.txn) rs)) (sym (resolved_noted b.session cycle calls)) was.once;
  }
