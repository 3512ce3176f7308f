-- Who is in doubt, listed by the global ids: these and nobody else, if no two have one global id.
use Rattle.std.specs.Prelude.{IsTrue, T}
use Rattle.std.proofs.Common.{◌≡◌, Bool, inl, inr, ⊎_elim, ℕ, List, [], ◌∷◌, true, false, cond, Some, None, refl, sym, ap, subst, ◌∙◌, map}
use Rattle.std.proofs.lemmas.List.{nil_from_length}
use Rattle.std.specs.Cmp.{eq_by_cmp_equiv}
use Rattle.std.specs.Cmp.Lexicographic.{nat_list_cmp_total, slice_cmp}
use Rattle.std.specs.FinMap.{empty, entries, entries-insert, entries_sorted, find, from_entries, get-entries, get-from_entries, is_sorted, len-empty, len-entries, nat_cmp-IsAntisymmetric, put, slice_cmp-IsAntisymmetric}
use Rattle.std.specs.FinMap.Entries.{by_order}
use Rattle.std.specs.Ordering.{eq_by_cmp, nat_cmp}
use Rattle.std.specs.declared.cmp.Ordering.{Ordering}
use Rattle.std.specs.declared.cmp.Ordering.TheVariants.{Less, Equal, Greater}
use Rattle.shore_model.specs.declared.histories.Entry.{Entry}
use Rattle.shore_model.specs.declared.histories.Opening.{Opening}
use Rattle.shore_model.specs.declared.log_records.LogRecord.{LogRecord}
use Rattle.laws_lives.proofs.Booleans.{is_equal}
use Rattle.laws_lives.proofs.Lists.{among_map, mapped_one}
use Rattle.laws_lives.specs.Doubts.{LoggedDoubt, doubts_in, pair_logged}
use Rattle.laws_lives.specs.SessionSteps.{AnswerInDoubt, AreThoseInDoubt, StepsTo}
use Rattle.laws_lives.specs.Sessions.{PreparedTxn, Sessions, pair_of, pairs_of}
use Rattle.laws_lives.specs.Views.{IsAmong}
use Rattle.laws_calls.proofs.Sessions.{listing_seats}
use Rattle.laws_calls.specs.CallHistories.{txn_of}
use Rattle.laws_calls.specs.CallSteps.{listed_in_doubt}
use Rattle.laws_calls.specs.LockedStates.{IsSessionsState}
use Rattle.laws_calls.specs.States.{State}

-- ---- lists of numbers by names

abbrev Listed : Type 0
Listed = List (List ℕ × ℕ)

abbrev order : List ℕ → List ℕ → Ordering
order = slice_cmp nat_cmp

same_name : (x y : List ℕ) → order x y ≡ Equal → x ≡ y
same_name = slice_cmp-IsAntisymmetric nat_cmp-IsAntisymmetric

-- what a look-up finds is there
found_among : (q : List ℕ) (es : Listed) (t : ℕ) → find order q es ≡ Some t → IsAmong (q, t) es
found_among q [] t = λ h. let clash : ◌≡◌ {A = _} None (Some t) = h in cc
found_among q (x ∷ es) t =
    elim (eq_by_cmp order q x.0) as (λ b. eq_by_cmp order q x.0 ≡ b → cond b (Some x.1) (find order q es) ≡ Some t → IsAmong (q, t) (x ∷ es)) [
      | true ↦ λ e h. inl (ap (λ name. (name, x.1)) (sym (same_name q x.0 (is_equal (order q x.0) e))) ∙ ap (λ n. (q, n)) (same_number h))
      | false ↦ λ e h. inr (found_among q es t h)
    ] refl
  where
    same_number : {a b : ℕ} → Some a ≡ Some b → a ≡ b
    same_number e = cc

-- what is there a look-up finds, if no name comes with two numbers
among_found : (es : Listed) → ((x y : List ℕ × ℕ) → IsAmong x es → IsAmong y es → x.0 ≡ y.0 → x.1 ≡ y.1) → (q : List ℕ) (t : ℕ) → IsAmong (q, t) es → find order q es ≡ Some t
among_found [] one q t = λ h. absurd h
among_found (x ∷ es) one q t =
    elim (eq_by_cmp order q x.0) as (λ b. eq_by_cmp order q x.0 ≡ b → IsAmong (q, t) (x ∷ es) → cond b (Some x.1) (find order q es) ≡ Some t) [
      | true ↦ λ e h. ap Some (one x (q, t) (inl refl) h (sym (same_name q x.0 (is_equal (order q x.0) e))))
      | false ↦ λ e h. ⊎_elim
          (λ same. absurd (tied (ap (λ (y : List ℕ × ℕ). y.0) same) e))
          (λ later. among_found es (λ x y m n. one x y (inr m) (inr n)) q t later) h
    ] refl
  where
    tied : x.0 ≡ q → eq_by_cmp order q x.0 ≡ false → ⊥
    tied same apart = let clash : true ≡ false = sym ((eq_by_cmp_equiv nat_list_cmp_total).refl q) ∙ ap (eq_by_cmp order q) (sym same) ∙ apart in cc

-- in the order of the names there are no others
put_adds : (k : List ℕ) (v : ℕ) (es : Listed) (x : List ℕ × ℕ) → IsAmong x (put order k v es) → IsAmong x ((k, v) ∷ es)
put_adds k v [] x = λ h. h
put_adds k v (e ∷ es) x =
    elim (order k e.0) as (λ r. order k e.0 ≡ r → IsAmong x (by_order r ((k, v) ∷ e ∷ es) ((e.0, v) ∷ es) (e ∷ put order k v es)) → IsAmong x ((k, v) ∷ e ∷ es)) [
      | Less ↦ λ p h. h
      | Equal ↦ λ p h. ⊎_elim (λ same. inl (ap (λ name. (name, v)) (same_name k e.0 p) ∙ same)) (λ later. inr (inr later)) h
      | Greater ↦ λ p h. ⊎_elim (λ same. inr (inl same)) (λ later. ⊎_elim (λ new. inl new) (λ old. inr (inr old)) (put_adds k v es x later)) h
    ] refl

listed_among : (es : Listed) (x : List ℕ × ℕ) → IsAmong x (entries (from_entries {R = order} es)) → IsAmong x es
listed_among [] x h = absurd (subst (IsAmong x) none_listed h)
  where
    none_listed : entries (empty {K = List ℕ} {X = ℕ} {R = order}) ≡ []
    none_listed = nil_from_length _ (sym (len-entries (empty {X = ℕ} {R = order})) ∙ len-empty order ℕ)
listed_among (e ∷ es) x h =
    ⊎_elim (λ same. inl same) (λ later. inr (listed_among es x later))
    (put_adds e.0 e.1 (entries (from_entries {R = order} es)) x (subst (IsAmong x) (entries-insert nat_list_cmp_total (from_entries {R = order} es) e.0 e.1) h))

among_listed : (es : Listed) → ((x y : List ℕ × ℕ) → IsAmong x es → IsAmong y es → x.0 ≡ y.0 → x.1 ≡ y.1) → (q : List ℕ) (t : ℕ) → IsAmong (q, t) es
    → IsAmong (q, t) (entries (from_entries {R = order} es))
among_listed es one q t h =
    found_among q (entries (from_entries {R = order} es)) t
    (sym (get-entries (from_entries {R = order} es) q) ∙ get-from_entries nat_list_cmp_total es q ∙ among_found es one q t h)

pub listed_rises : (s : Sessions) → IsTrue (is_sorted order (listed_in_doubt s))
listed_rises s = by (is_sorted order (listed_in_doubt s)) (entries_sorted (from_entries {R = order} (map (λ p. (p.global, p.txn)) s.prepared)))
  where
    by : (b : Bool) → T b → IsTrue b
    by true h = refl
    by false h = absurd h

-- ---- those in doubt

abbrev named : PreparedTxn → List ℕ × ℕ
named p = (p.global, p.txn)

module _ {o : Opening} {found : List LogRecord} {es : List Entry} {s : State} (k : IsSessionsState o found es s) where
  logged : (p : PreparedTxn) → IsAmong p s.sessions.prepared → (d : LoggedDoubt) × IsAmong d (doubts_in s.log) × (pair_logged d ≡ pair_of p)
  logged p m = mapped_one pair_logged (pair_of p) (doubts_in s.log) (subst (IsAmong (pair_of p)) (sym k.doubts.in_doubt) (among_map pair_of p s.sessions.prepared m))

  -- no global id is that of two
  one_name : (x y : List ℕ × ℕ) → IsAmong x (map named s.sessions.prepared) → IsAmong y (map named s.sessions.prepared) → x.0 ≡ y.0 → x.1 ≡ y.1
  one_name x y m n same =
      let p = mapped_one named x s.sessions.prepared m in
      let q = mapped_one named y s.sessions.prepared n in
      let d = logged p.0 p.1 in
      let e = logged q.0 q.1 in
      let names : d.0.global ≡ e.0.global =
      ap (λ (z : ℕ × List ℕ). z.1) d.2 ∙ ap (λ (z : List ℕ × ℕ). z.0) p.2 ∙ same ∙ sym (ap (λ (z : List ℕ × ℕ). z.0) q.2) ∙ sym (ap (λ (z : ℕ × List ℕ). z.1) e.2) in
      sym (ap (λ (z : ℕ × List ℕ). z.0) d.2 ∙ ap (λ (z : List ℕ × ℕ). z.1) p.2)
      ∙ k.doubts.stand.differ d.0 e.0 d.1 e.1 names
      ∙ ap (λ (z : ℕ × List ℕ). z.0) e.2 ∙ ap (λ (z : List ℕ × ℕ). z.1) q.2

  pub listed_are_those : AreThoseInDoubt s.sessions (listed_in_doubt s.sessions)
  listed_are_those = record {
    each = λ t global m.
        let p = mapped_one named (global, t) s.sessions.prepared (listed_among (map named s.sessions.prepared) (global, t) m) in
        subst (λ (z : ℕ × List ℕ). IsAmong z (pairs_of s.sessions.prepared))
        (ap (λ (z : List ℕ × ℕ). (z.1, z.0)) p.2) (among_map pair_of p.0 s.sessions.prepared p.1);
    all = λ t global m.
        let p = mapped_one pair_of (t, global) s.sessions.prepared m in
        among_listed (map named s.sessions.prepared) one_name global t
        (subst (λ (z : List ℕ × ℕ). IsAmong z (map named s.sessions.prepared)) (ap (λ (z : ℕ × List ℕ). (z.1, z.0)) p.2) (among_map named p.0 s.sessions.prepared p.1));
  }

  pub listing_steps : (session : ℕ) → StepsTo s.sessions (AnswerInDoubt session (txn_of s.sessions session) (listed_in_doubt s.sessions)) s.sessions
  listing_steps session = (refl, listed_are_those, listing_seats s.sessions session (txn_of s.sessions session) (listed_in_doubt s.sessions))
