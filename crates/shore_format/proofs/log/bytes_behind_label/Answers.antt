use Rattle.std.proofs.Common.{◌≡◌, ◌∙◌, ℕ, List, ◌∷◌, [], ◌++◌, ap, length, replicate, append_assoc, arith, length-append, vec_len}
use Rattle.std.proofs.lemmas.List.{length-replicate}
use Rattle.shore_gate.specs.declared.gates.TheConstants.{OPEN, CLOSED}
use Rattle.shore_gate.specs.Anchor.{anchor_bytes}
use Rattle.shore_gate.proofs.WidthLemmas.{length-anchor_bytes}
use Rattle.shore_fronts.specs.Fronts.{first_anchor}
use Rattle.shore_format.specs.Fronts.{behind_label}
use Rattle.shore_format.proofs.FrontLemmas.{filled}
use Rattle.shore_format.proofs.log.bytes_behind_label.Goals as goal

pub returns-clause-text : goal.returns-clause-text
unfolding behind_label
returns-clause-text c =
    let N = OPEN ∷ anchor_bytes first_anchor in
    let Z1 = replicate {A = ℕ} 512 0 in
    let Z2 = replicate {A = ℕ} 984 0 in
    let Z3 = replicate {A = ℕ} 2047 0 in
    let a : c.resize.new.self.items ≡ Z1 = c.in_ok-resize.ensures.items ∙ filled c.in_ok-bytes.bytes.items 512 0 (vec_len c.in_ok-bytes.bytes) (omega (arith, ap length c.in_ok-bytes.ensures.items)) (omega (arith, ap length c.in_ok-bytes.ensures.items)) (omega arith) ∙ ap (λ (l : List ℕ). l ++ Z1) c.in_ok-bytes.ensures.items in
    let b : c.extend_from_slice.new.self.items ≡ Z1 ++ N = c.in_ok-extend_from_slice.ensures.items ∙ ap (λ (l : List ℕ). l ++ c.to_bytes.result) (c.in_ok-push.ensures.items ∙ ap (λ (l : List ℕ). l ++ OPEN ∷ []) a) ∙ append_assoc Z1 (OPEN ∷ []) c.to_bytes.result ∙ ap (λ (l : List ℕ). Z1 ++ OPEN ∷ l) c.to_bytes.ensures.text in
    let b_long : length c.extend_from_slice.new.self.items ≡ 552 = omega (arith, ap length b, length-append Z1 N, length-replicate {A = ℕ} 512 0, length-anchor_bytes first_anchor) in
    let d : c.resize-2.new.self.items ≡ (Z1 ++ N) ++ Z2 = c.in_ok-resize-2.ensures.items ∙ filled c.extend_from_slice.new.self.items 1536 552 (vec_len c.extend_from_slice.new.self) b_long (omega (arith, b_long)) (omega arith) ∙ ap (λ (l : List ℕ). l ++ Z2) b in
    let d_long : length c.resize-2.new.self.items ≡ 1536 = omega (arith, ap length d, length-append (Z1 ++ N) Z2, length-append Z1 N, length-replicate {A = ℕ} 512 0, length-replicate {A = ℕ} 984 0, length-anchor_bytes first_anchor) in
    let e : c.push-2.new.self.items ≡ ((Z1 ++ N) ++ Z2) ++ CLOSED ∷ [] = c.in_ok-push-2.ensures.items ∙ ap (λ (l : List ℕ). l ++ CLOSED ∷ []) d in
    let e_long : length c.push-2.new.self.items ≡ 1537 = omega (arith, ap length c.in_ok-push-2.ensures.items, length-append c.resize-2.new.self.items (CLOSED ∷ []), d_long) in
    let f : c.resize-3.new.self.items ≡ (((Z1 ++ N) ++ Z2) ++ CLOSED ∷ []) ++ Z3 = c.in_ok-resize-3.ensures.items ∙ filled c.push-2.new.self.items 3584 1537 (vec_len c.push-2.new.self) e_long (omega (arith, e_long)) (omega arith) ∙ ap (λ (l : List ℕ). l ++ Z3) e in
    let regrouped : ((((Z1 ++ N) ++ Z2) ++ CLOSED ∷ []) ++ Z3) ++ CLOSED ∷ [] ≡ Z1 ++ (N ++ (Z2 ++ (CLOSED ∷ (Z3 ++ CLOSED ∷ [])))) = simp append_assoc in
    c.in_ok-push-3.ensures.items ∙ ap (λ (l : List ℕ). l ++ CLOSED ∷ []) f ∙ regrouped
