-- Marks in buckets: what a look down a bucket passes, and one mark more.
use Rattle.std.proofs.Common.{◌≡◌, ◌<◌, ◌≤◌, ◌+◌, ◌-◌, ◌%◌, ◌++◌, inl, inr, ⊎_elim, ℕ, zero, suc, List, [], ◌∷◌, true, false, refl, ap, sym, subst, ◌∙◌, length, get_or, set, map, arith, below_more}
use Rattle.std.specs.Prelude.{◌==◌, ltb}
use Rattle.std.proofs.Math.ListN.{get_or-append}
use Rattle.std.proofs.Math.Seq.{get_or-append_seam}
use Rattle.std.proofs.lemmas.Bool.Decides.{Decides-eqb, Decides-ltb}
use Rattle.std.proofs.lemmas.List.{length_push, length-set, get_or-set_same, get_or-set_other}
use Rattle.shore_locks.proofs.Members.{In, either}
use Rattle.shore_locks.proofs.Fits.{any_of, found_any}
use Rattle.shore_cycles.specs.declared.marks.Mark.{Mark}
use Rattle.shore_cycles.specs.Marks.{IsIndexed, IsLastOf, bucket_at, is_marked, mark_at}

abbrev nobody : Mark
nobody = record { txn = 0; earlier = 0 }

abbrev pub marked : List Mark → List ℕ
marked marks = map (λ (m : Mark). m.txn) marks

-- ---- a look

-- among the marks from this number on the transaction is not, and the one of the number is in its bucket
pub record IsLeft (marks : List Mark) (t number : ℕ) : Type 0 where
  pub within : number ≤ length marks
  pub none_later : (k : ℕ) → number ≤ k → k < length marks → (mark_at marks k).txn ≡ t → ⊥
  pub of_bucket : 0 < number → bucket_at marks (number - 1) ≡ t % 256

pub left_first : (marks : List Mark) (t number : ℕ) → IsLastOf marks (t % 256) (length marks) number → IsLeft marks t number
left_first marks t number last = record {
  within = last.within;
  none_later = λ k from below is. last.none_later k from below (ap (λ x. x % 256) is);
  of_bucket = last.of_bucket;
}

pub left_on : (marks : List Mark) (newest : List ℕ) (t number : ℕ) → IsIndexed marks newest → IsLeft marks t number → 0 < number → ((mark_at marks (number - 1)).txn ≡ t → ⊥)
    → IsLeft marks t (mark_at marks (number - 1)).earlier
left_on marks newest t number indexed left some other =
    let long = left.within in
    let here : number - 1 < length marks = omega arith in
    let before = indexed.before (number - 1) here in
    let shorter = before.within in
    let same = left.of_bucket some in
    record {
      within = omega arith;
      none_later = λ k from below is.
          ⊎_elim
          (λ earlier. before.none_later k from ((Decides-ltb k (number - 1)).0 earlier) (ap (λ x. x % 256) is ∙ sym same))
          (λ not_earlier.
          ⊎_elim (λ at. other (subst (λ j. (mark_at marks j).txn ≡ t) ((Decides-eqb k (number - 1)).0 at) is))
          (λ past. left.none_later k (let a : (k < number - 1) → ⊥ = λ h. (let y = (Decides-ltb k (number - 1)).1 h in cc) in let b : (k ≡ number - 1) → ⊥ = λ h. (let y = (Decides-eqb k (number - 1)).1 h in cc) in omega arith) below is)
          (either (k == number - 1)))
          (either (ltb k (number - 1)));
      of_bucket = λ more. before.of_bucket more ∙ same;
    }

In_marked : (marks : List Mark) (u : ℕ) → In u (marked marks) → (k : ℕ) × (k < length marks) × ((mark_at marks k).txn ≡ u)
In_marked [] u h = absurd h
In_marked (m ∷ marks) u h = ⊎_elim (λ same. (zero, omega arith, same)) (λ later. let r = In_marked marks u later in (suc r.0, omega (arith, r.1), r.2)) h

marked_In : (marks : List Mark) (k : ℕ) → k < length marks → In (mark_at marks k).txn (marked marks)
marked_In [] k within = absurd (omega (arith, within))
marked_In (m ∷ marks) zero within = inl refl
marked_In (m ∷ marks) (suc k) within = inr (marked_In marks k (omega arith))

pub left_none : (marks : List Mark) (t number : ℕ) → IsLeft marks t number → (0 < number → ⊥) → is_marked (marked marks) t ≡ false
left_none marks t number left none =
    ⊎_elim
    (λ yes. let f = found_any (λ u. u == t) (marked marks) yes in let at = In_marked marks f.0 f.1 in absurd (left.none_later at.0 (omega arith) at.1 (at.2 ∙ (Decides-eqb f.0 t).0 f.2)))
    (λ no. no) (either (is_marked (marked marks) t))

pub found_mark : (marks : List Mark) (k t : ℕ) → k < length marks → (mark_at marks k).txn ≡ t → is_marked (marked marks) t ≡ true
found_mark marks k t within is = any_of (λ u. u == t) (marked marks) (mark_at marks k).txn (marked_In marks k within) ((Decides-eqb (mark_at marks k).txn t).1 is)

-- ---- one more

module _ (marks : List Mark) (newest : List ℕ) (m : Mark) (indexed : IsIndexed marks newest) (bucket : ℕ) (is : bucket ≡ m.txn % 256) (inside : bucket < 256) (leads : m.earlier ≡ get_or newest bucket 0) where
  abbrev longer : List Mark
  longer = marks ++ m ∷ []

  old : (k : ℕ) → k < length marks → mark_at longer k ≡ mark_at marks k
  old = get_or-append marks (m ∷ []) nobody

  last : mark_at longer (length marks) ≡ m
  last = get_or-append_seam marks m [] nobody

  more : length longer ≡ length marks + 1
  more = length_push marks m

  -- what was so of the marks up to an end is so of them among more
  still : (b end number : ℕ) → end ≤ length marks → IsLastOf marks b end number → IsLastOf longer b end number
  still b end number within h = record {
    within = h.within;
    none_later = λ k from below at. h.none_later k from below (ap (λ (x : Mark). x.txn % 256) (sym (old k (omega arith))) ∙ at);
    of_bucket = λ some. let w = h.within in ap (λ (x : Mark). x.txn % 256) (old (number - 1) (omega arith)) ∙ h.of_bucket some;
  }

  others : (b number : ℕ) → (b ≡ bucket → ⊥) → IsLastOf marks b (length marks) number → IsLastOf longer b (length longer) number
  others b number apart h =
      let before = still b (length marks) number (omega arith) h in record {
        within = let w = before.within in omega (arith, more, w);
        none_later = λ k from below at.
            below_more (λ k. number ≤ k → bucket_at longer k ≡ b → ⊥) (length marks) (λ k below from at. before.none_later k from below at)
            (λ from at. apart (sym at ∙ ap (λ (x : Mark). x.txn % 256) last ∙ sym is)) k (omega (arith, more, below)) from at;
        of_bucket = before.of_bucket;
      }

  its_own : IsLastOf longer bucket (length longer) (length longer)
  its_own = record {
    within = omega arith;
    none_later = λ k from below at. absurd (omega (arith, from, below));
    of_bucket = λ some. let place : length longer - 1 ≡ length marks = omega (arith, more) in ap (bucket_at longer) place ∙ ap (λ (x : Mark). x.txn % 256) last ∙ sym is;
  }

  pub indexed_more : IsIndexed longer (set newest bucket (length longer))
  indexed_more = record {
    buckets = length-set newest bucket (length longer) ∙ indexed.buckets;
    last = λ b within.
        ⊎_elim
        (λ same. let e : b ≡ bucket = (Decides-eqb b bucket).0 same in
        let here : get_or (set newest bucket (length longer)) b 0 ≡ length longer =
        ap (λ n. get_or (set newest bucket (length longer)) n 0) e ∙ get_or-set_same newest bucket (length longer) 0 (let l = indexed.buckets in omega arith) in
        subst (IsLastOf longer b (length longer)) (sym here) (subst (λ x. IsLastOf longer x (length longer) (length longer)) (sym e) its_own))
        (λ other. let apart : b ≡ bucket → ⊥ = λ e. (let yes = (Decides-eqb b bucket).1 e in cc) in
        subst (IsLastOf longer b (length longer)) (sym (get_or-set_other newest bucket b (length longer) 0 apart)) (others b (get_or newest b 0) apart (indexed.last b within)))
        (either (b == bucket));
    before = λ k within.
        below_more (λ k. IsLastOf longer (bucket_at longer k) k (mark_at longer k).earlier) (length marks)
        (λ k below. subst (λ (x : Mark). IsLastOf longer (x.txn % 256) k x.earlier) (sym (old k below)) (still (bucket_at marks k) k (mark_at marks k).earlier (omega arith) (indexed.before k below)))
        (subst (λ (x : Mark). IsLastOf longer (x.txn % 256) (length marks) x.earlier) (sym last)
        (subst (λ n. IsLastOf longer (m.txn % 256) (length marks) n) (sym leads)
        (subst (λ b. IsLastOf longer b (length marks) (get_or newest bucket 0)) is (still bucket (length marks) (get_or newest bucket 0) (omega arith) (indexed.last bucket inside)))))
        k (omega (arith, more, within));
  }
