-- Those whom decisions leave in doubt, and their global ids, with one decision more.
use Rattle.std.proofs.Common.{◌≡◌, ◌≢◌, ◌++◌, ℕ, List, [], ◌∷◌, Bool, true, false, cond, Option, Some, None, refl, sym, ap, ◌∙◌, map, append-nil, append_assoc}
use Rattle.std.specs.Prelude.{◌==◌, ◌&&◌, ◌||◌, not, filter, nat_eq}
use Rattle.std.specs.List.{AllByRecursion, filter_map, list_any}
use Rattle.std.specs.Cmp.Lexicographic.{pointwise}
use Rattle.std.proofs.lemmas.Bool.{eq-eqb, ne_eqb}
use Rattle.std.proofs.lemmas.List.Elements.{filter-append, filter_map-append}
use Rattle.std.proofs.lemmas.List.Folds.{list_any-append}
use Rattle.shore_model.specs.declared.histories.Decision.{Decision}
use Rattle.shore_model.specs.declared.histories.Decision.TheVariants.{Commit, Prepare, RollBack}
use Rattle.shore_model.specs.declared.histories.InDoubt.{InDoubt}
use Rattle.shore_model.specs.Histories.{all_prepared, has_prepared, in_doubt, is_ended_by, is_prepare_of, is_undecided, last_under, prepared_by}
use Rattle.laws_lives.specs.Sessions.{PreparedTxn, pair_of, pairs_of, without_prepared}
use Rattle.laws_lives.specs.Soundness.{decided_txn}

-- the list without one transaction's
abbrev pub but : ℕ → List (ℕ × List ℕ) → List (ℕ × List ℕ)
but t ps = filter (λ p. not (t == p.0)) ps

pub pairs_without : (t : ℕ) (ps : List PreparedTxn) → pairs_of (without_prepared t ps) ≡ but t (pairs_of ps)
pairs_without t [] = refl
pairs_without t (p ∷ ps) =
    elim (not (t == p.txn)) as (λ b. pairs_of (cond b (p ∷ without_prepared t ps) (without_prepared t ps)) ≡ cond b (pair_of p ∷ but t (pairs_of ps)) (but t (pairs_of ps))) [
      | true ↦ ap (λ qs. pair_of p ∷ qs) (pairs_without t ps)
      | false ↦ pairs_without t ps
    ]

pub same_text : (xs : List ℕ) → pointwise nat_eq xs xs ≡ true
same_text [] = refl
same_text (x ∷ xs) = ap (λ b. b && pointwise nat_eq xs xs) (eq-eqb x x refl) ∙ same_text xs

module _ {A : Type 0} where
  pub filter_two : (f g : A → Bool) (xs : List A) → filter (λ x. f x && g x) xs ≡ filter g (filter f xs)
  filter_two f g [] = refl
  filter_two f g (x ∷ xs) =
      elim (f x) as (λ b. cond (b && g x) (x ∷ filter (λ x. f x && g x) xs) (filter (λ x. f x && g x) xs) ≡ filter g (cond b (x ∷ filter f xs) (filter f xs))) [
        | true ↦ elim (g x) as (λ c. cond c (x ∷ filter (λ x. f x && g x) xs) (filter (λ x. f x && g x) xs) ≡ cond c (x ∷ filter g (filter f xs)) (filter g (filter f xs))) [
          | true ↦ ap (λ ys. x ∷ ys) (filter_two f g xs)
          | false ↦ filter_two f g xs
        ]
        | false ↦ filter_two f g xs
      ]

module _ (before : List InDoubt) where
  abbrev given : List (ℕ × List ℕ)
  given = map (λ d. (d.txn, d.global)) before

  pub all_prepared_push : (ds : List Decision) (d : Decision) → all_prepared before (ds ++ d ∷ []) ≡ all_prepared before ds ++ filter_map prepared_by (d ∷ [])
  all_prepared_push ds d =
      ap (λ ps. given ++ ps) (filter_map-append prepared_by ds (d ∷ [])) ∙ sym (append_assoc given (filter_map prepared_by ds) (filter_map prepared_by (d ∷ [])))

  pub ended_push : (ds : List Decision) (d : Decision) (t : ℕ) → list_any (is_ended_by t) (ds ++ d ∷ []) ≡ (list_any (is_ended_by t) ds || (is_ended_by t d || false))
  ended_push ds d t = list_any-append (is_ended_by t) ds (d ∷ [])

  not_ended : (t : ℕ) (d : Decision) → decided_txn d ≢ t → is_ended_by t d ≡ false
  not_ended t (Commit u) other = ne_eqb u t other
  not_ended t (RollBack u) other = ne_eqb u t other
  not_ended t (Prepare u g) other = refl

  pub none_ended : (t : ℕ) (ds : List Decision) → AllByRecursion (λ d. decided_txn d ≢ t) ds → list_any (is_ended_by t) ds ≡ false
  none_ended t [] h = refl
  none_ended t (d ∷ ds) h = ap (λ b. b || list_any (is_ended_by t) ds) (not_ended t d h.0) ∙ none_ended t ds h.1

  or_nothing : (b : Bool) → not (b || (false || false)) ≡ not b
  or_nothing true = refl
  or_nothing false = refl

  or_this : (b c : Bool) → not (b || (c || false)) ≡ (not b && not c)
  or_this true c = refl
  or_this false true = refl
  or_this false false = refl

  pub doubt_prepare : (ds : List Decision) (t : ℕ) (g : List ℕ) → list_any (is_ended_by t) ds ≡ false → in_doubt before (ds ++ Prepare t g ∷ []) ≡ in_doubt before ds ++ (t, g) ∷ []
  doubt_prepare ds t g none =
      let same : (λ (p : ℕ × List ℕ). is_undecided (ds ++ Prepare t g ∷ []) p.0) ≡ (λ (p : ℕ × List ℕ). is_undecided ds p.0) =
      λ i p. (ap not (ended_push ds (Prepare t g) p.0) ∙ or_nothing (list_any (is_ended_by p.0) ds)) i in
      ap (λ f. filter f (all_prepared before (ds ++ Prepare t g ∷ []))) same
      ∙ ap (filter (λ p. is_undecided ds p.0)) (all_prepared_push ds (Prepare t g))
      ∙ filter-append (λ p. is_undecided ds p.0) (all_prepared before ds) ((t, g) ∷ [])
      ∙ ap (λ b. in_doubt before ds ++ cond b ((t, g) ∷ []) []) (ap not none)

  pub doubt_commit : (ds : List Decision) (t : ℕ) → in_doubt before (ds ++ Commit t ∷ []) ≡ but t (in_doubt before ds)
  doubt_commit ds t =
      let same : (λ (p : ℕ × List ℕ). is_undecided (ds ++ Commit t ∷ []) p.0) ≡ (λ (p : ℕ × List ℕ). is_undecided ds p.0 && not (t == p.0)) =
      λ i p. (ap not (ended_push ds (Commit t) p.0) ∙ or_this (list_any (is_ended_by p.0) ds) (t == p.0)) i in
      ap (λ f. filter f (all_prepared before (ds ++ Commit t ∷ []))) same
      ∙ ap (filter (λ p. is_undecided ds p.0 && not (t == p.0))) (all_prepared_push ds (Commit t) ∙ append-nil (all_prepared before ds))
      ∙ filter_two (λ p. is_undecided ds p.0) (λ p. not (t == p.0)) (all_prepared before ds)

  pub doubt_rollback : (ds : List Decision) (t : ℕ) → in_doubt before (ds ++ RollBack t ∷ []) ≡ but t (in_doubt before ds)
  doubt_rollback ds t =
      let same : (λ (p : ℕ × List ℕ). is_undecided (ds ++ RollBack t ∷ []) p.0) ≡ (λ (p : ℕ × List ℕ). is_undecided ds p.0 && not (t == p.0)) =
      λ i p. (ap not (ended_push ds (RollBack t) p.0) ∙ or_this (list_any (is_ended_by p.0) ds) (t == p.0)) i in
      ap (λ f. filter f (all_prepared before (ds ++ RollBack t ∷ []))) same
      ∙ ap (filter (λ p. is_undecided ds p.0 && not (t == p.0))) (all_prepared_push ds (RollBack t) ∙ append-nil (all_prepared before ds))
      ∙ filter_two (λ p. is_undecided ds p.0) (λ p. not (t == p.0)) (all_prepared before ds)

  -- ---- who was prepared

  or_kept : (a b c : Bool) → (a || b) ≡ true → (a || (b || c)) ≡ true
  or_kept true b c e = refl
  or_kept false true c e = refl
  or_kept false false c e = absurd cc

  or_last : (a b c : Bool) → c ≡ true → (a || (b || (c || false))) ≡ true
  or_last true b c e = refl
  or_last false true c e = refl
  or_last false false c e = ap (λ c. c || false) e

  pub prepared_push : (ds : List Decision) (d : Decision) (t : ℕ) → has_prepared before ds t ≡ true → has_prepared before (ds ++ d ∷ []) t ≡ true
  prepared_push ds d t h =
      ap (λ b. list_any (λ d. d.txn == t) before || b) (list_any-append (is_prepare_of t) ds (d ∷ []))
      ∙ or_kept (list_any (λ d. d.txn == t) before) (list_any (is_prepare_of t) ds) _ h

  pub prepared_now : (ds : List Decision) (t : ℕ) (g : List ℕ) → has_prepared before (ds ++ Prepare t g ∷ []) t ≡ true
  prepared_now ds t g =
      ap (λ b. list_any (λ d. d.txn == t) before || b) (list_any-append (is_prepare_of t) ds (Prepare t g ∷ []))
      ∙ or_last (list_any (λ d. d.txn == t) before) (list_any (is_prepare_of t) ds) (t == t) (eq-eqb t t refl)

  -- ---- global ids

  last_push : (g : List ℕ) (found : Option ℕ) (ps : List (ℕ × List ℕ)) (p : ℕ × List ℕ) → last_under g found (ps ++ p ∷ []) ≡ cond (pointwise nat_eq p.1 g) (Some p.0) (last_under g found ps)
  last_push g found [] p = refl
  last_push g found (q ∷ ps) p = last_push g (cond (pointwise nat_eq q.1 g) (Some q.0) found) ps p

  pub under_now : (ds : List Decision) (t : ℕ) (g : List ℕ) → last_under g None (all_prepared before (ds ++ Prepare t g ∷ [])) ≡ Some t
  under_now ds t g =
      ap (last_under g None) (all_prepared_push ds (Prepare t g)) ∙ last_push g None (all_prepared before ds) (t, g)
      ∙ ap (λ b. cond b (Some t) (last_under g None (all_prepared before ds))) (same_text g)

  pub under_still : (ds : List Decision) (t : ℕ) (g h : List ℕ) → pointwise nat_eq g h ≡ false → last_under h None (all_prepared before (ds ++ Prepare t g ∷ [])) ≡ last_under h None (all_prepared before ds)
  under_still ds t g h other =
      ap (last_under h None) (all_prepared_push ds (Prepare t g)) ∙ last_push h None (all_prepared before ds) (t, g)
      ∙ ap (λ b. cond b (Some t) (last_under h None (all_prepared before ds))) other

  pub under_commit : (ds : List Decision) (t : ℕ) (h : List ℕ) → last_under h None (all_prepared before (ds ++ Commit t ∷ [])) ≡ last_under h None (all_prepared before ds)
  under_commit ds t h = ap (last_under h None) (all_prepared_push ds (Commit t) ∙ append-nil (all_prepared before ds))

  pub under_rollback : (ds : List Decision) (t : ℕ) (h : List ℕ) → last_under h None (all_prepared before (ds ++ RollBack t ∷ [])) ≡ last_under h None (all_prepared before ds)
  under_rollback ds t h = ap (last_under h None) (all_prepared_push ds (RollBack t) ∙ append-nil (all_prepared before ds))
