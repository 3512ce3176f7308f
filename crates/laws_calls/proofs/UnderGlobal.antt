-- A global id is that of one transaction in the table.
use Rattle.std.proofs.Common.{◌≡◌, inl, inr, ⊎_elim, ◌∷◌, ℕ, List, [], true, false, cond, map, refl, sym, ap, subst, ◌∙◌}
use Rattle.std.specs.Prelude.{nat_eq, ◌==◌}
use Rattle.std.specs.Cmp.Lexicographic.{pointwise}
use Rattle.shore_model.specs.declared.histories.Entry.{Entry}
use Rattle.shore_model.specs.declared.histories.Opening.{Opening}
use Rattle.laws_lives.proofs.DoubtDecisions.{same_text}
use Rattle.laws_lives.proofs.Booleans.{and_true}
use Rattle.std.proofs.lemmas.Bool.{eqb-true}
use Rattle.laws_lives.proofs.Lists.{among_left, among_map, among_right}
use Rattle.laws_lives.specs.Sessions.{PreparedTxn, ResolvedTxn, Sessions, in_use, pair_of, pair_resolved, pairs_of}
use Rattle.laws_lives.specs.Soundness.{SessionsAgree}
use Rattle.laws_lives.specs.Views.{IsAmong}
use Rattle.laws_calls.specs.CallHistories.{number_under, txn_under}

-- texts that are told to be one are one
pub same_texts : (xs ys : List ℕ) → pointwise nat_eq xs ys ≡ true → xs ≡ ys
same_texts [] [] h = refl
same_texts [] (y ∷ ys) h = cc
same_texts (x ∷ xs) [] h = cc
same_texts (x ∷ xs) (y ∷ ys) h =
    let both = and_true (x == y) (pointwise nat_eq xs ys) h in
    ap (λ (z : ℕ). z ∷ xs) (eqb-true x y both.0) ∙ ap (λ zs. y ∷ zs) (same_texts xs ys both.1)

pub used_in_doubt : (s : Sessions) (p : PreparedTxn) → IsAmong p s.prepared → IsAmong (p.txn, p.global) (in_use s)
used_in_doubt s p m = among_left (p.txn, p.global) (pairs_of s.prepared) (map pair_resolved s.resolving) (among_map (λ (x : PreparedTxn). pair_of x) p s.prepared m)

pub used_resolved : (s : Sessions) (r : ResolvedTxn) → IsAmong r s.resolving → IsAmong (r.txn, r.global) (in_use s)
used_resolved s r m = among_right (r.txn, r.global) (pairs_of s.prepared) (map pair_resolved s.resolving) (among_map (λ (x : ResolvedTxn). pair_resolved x) r s.resolving m)

module _ (o : Opening) (es : List Entry) (s : Sessions) (k : SessionsAgree o es s) where
  pub one_global : (t u : ℕ) (global : List ℕ) → IsAmong (t, global) (in_use s) → IsAmong (u, global) (in_use s) → t ≡ u
  one_global t u global m n = let x = k.under (t, global) m in let y = k.under (u, global) n in cc

  pub under_one : (t : ℕ) (global : List ℕ) → IsAmong (t, global) (in_use s) → txn_under s global ≡ t
  under_one t global m = by (in_use s) (λ p n same. one_global p.0 t global (subst (λ x. IsAmong (p.0, x) (in_use s)) same n) m) m
    where
      by : (ps : List (ℕ × List ℕ)) → ((p : ℕ × List ℕ) → IsAmong p ps → p.1 ≡ global → p.0 ≡ t) → IsAmong (t, global) ps → number_under global ps ≡ t
      by [] one there = absurd there
      by (p ∷ ps) one there =
          (elim (pointwise nat_eq p.1 global) as (λ b. pointwise nat_eq p.1 global ≡ b → cond b p.0 (number_under global ps) ≡ t) [
            | true ↦ λ e. one p (inl refl) (same_texts p.1 global e)
            | false ↦ λ e. ⊎_elim
                (λ own. let clash : true ≡ false = sym (same_text global) ∙ ap (λ (q : ℕ × List ℕ). pointwise nat_eq q.1 global) (sym own) ∙ e in absurd cc)
                (λ later. by ps (λ q n same. one q (inr n) same) later) there
          ]) refl
