-- An undo list with one entry more, and one with its newest taken off.
use Rattle.std.proofs.Common.{◌≡◌, ◌+◌, ◌-◌, ◌<◌, ◌≤◌, ◌++◌, ◌∷◌, [], List, drop, get_or, length, reverse, refl, sym, ap, subst, ◌∙◌, arith}
use Rattle.std.specs.Prelude.{All}
use Rattle.std.proofs.Math.ListN.{get_or-append}
use Rattle.std.proofs.Math.Seq.{get_or-append_seam}
use Rattle.std.proofs.lemmas.List.{append_assoc, length_push, reverse-append, reverse-reverse}
use Rattle.laws_room.specs.LogRooms.{compensation_cost, compensation_costs}
use Rattle.shore_txn.specs.UndoEntries.{first_number, images_of, number_behind}
use Rattle.shore_txn.specs.declared.undo.UndoEntry.{UndoEntry}

-- what undoing costs, with one change more
pub costs_push : (es : List UndoEntry) (e : UndoEntry) → compensation_costs (images_of (es ++ e ∷ [])) ≡ compensation_costs (images_of es) + compensation_cost e.before
costs_push [] e = omega arith
costs_push (x ∷ es) e = omega (arith, costs_push es e)

-- ---- the newest

module _ {A : Type 0} where
  -- a list that has an element has a last one
  pub last_of : (xs : List A) → 0 < length xs → (front : List A) × (x : A) × (xs ≡ front ++ x ∷ [])
  last_of [] some = absurd (omega (arith, some))
  last_of (x ∷ []) some = ([], x, refl)
  last_of (x ∷ (y ∷ xs)) some = let rest = last_of (y ∷ xs) (omega arith) in (x ∷ rest.0, rest.1, ap (λ l. x ∷ l) rest.2)

  turned_last : (xs : List A) (x : A) → reverse (xs ++ x ∷ []) ≡ x ∷ reverse xs
  turned_last xs x = reverse-append xs (x ∷ [])

  -- .. and has it but once
  pub last_same : (xs ys : List A) (x y : A) → xs ++ x ∷ [] ≡ ys ++ y ∷ [] → (xs ≡ ys) × (x ≡ y)
  last_same xs ys x y same =
      let turned : x ∷ reverse xs ≡ y ∷ reverse ys = sym (turned_last xs x) ∙ ap reverse same ∙ turned_last ys y in
      let fronts : reverse xs ≡ reverse ys = cc in
      (sym (reverse-reverse xs) ∙ ap reverse fronts ∙ reverse-reverse ys, cc)

  pub all_front : (P : A → Type 0) (xs : List A) (x : A) → All P (xs ++ x ∷ []) → All P xs
  all_front P xs x all k d less = let long = length_push xs x in subst P (get_or-append xs (x ∷ []) d k less) (all k d (omega (arith, less, long)))

-- the number of the newest but one
pub number_none : (es : List UndoEntry) → length es < 2 → number_behind es ≡ 0
number_none [] few = refl
number_none (e ∷ []) few = refl
number_none (e ∷ (d ∷ es)) few = absurd (omega (arith, few))

pub number_read : (es : List UndoEntry) (d : UndoEntry) → 2 ≤ length es → number_behind es ≡ (get_or es (length es - 2) d).lsn
number_read es d some =
    let newest = last_of es (omega (arith, some)) in
    let turned : reverse es ≡ newest.1 ∷ reverse newest.0 = ap reverse newest.2 ∙ turned_last newest.0 newest.1 in
    let long : length es ≡ length newest.0 + 1 = ap length newest.2 ∙ length_push newest.0 newest.1 in
    let next = last_of newest.0 (omega (arith, some, long)) in
    let front = next.0 in
    let next_turned : reverse newest.0 ≡ next.1 ∷ reverse front = ap reverse next.2 ∙ turned_last front next.1 in
    let longer : length newest.0 ≡ length front + 1 = ap length next.2 ∙ length_push front next.1 in
    let index : length es - 2 ≡ length front = omega (arith, long, longer) in
    let is : es ≡ front ++ (next.1 ∷ (newest.1 ∷ [])) = newest.2 ∙ ap (λ l. l ++ newest.1 ∷ []) next.2 ∙ append_assoc front (next.1 ∷ []) (newest.1 ∷ []) in
    let behind : number_behind es ≡ next.1.lsn = ap (λ l. first_number (drop 1 l)) turned ∙ ap first_number next_turned in
    let at : get_or es (length es - 2) d ≡ get_or es (length front) d = ap (λ n. get_or es n d) index in
    let read : get_or es (length front) d ≡ next.1 = ap (λ (l : List UndoEntry). get_or l (length front) d) is ∙ get_or-append_seam front next.1 (newest.1 ∷ []) d in
    behind ∙ sym (ap (λ (e : UndoEntry). e.lsn) (at ∙ read))
