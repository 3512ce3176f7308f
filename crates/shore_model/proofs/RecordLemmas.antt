-- Entries of a map of records, seen from the front.
use Rattle.std.proofs.Common.{◌≡◌, List, [], ◌∷◌, ◌++◌, ◌∙◌, refl, sym, ap, subst, append-nil, append_assoc, arith}
use Rattle.std.specs.Prelude.{ℕ, All, Contains}
use Rattle.std.specs.BTreeMap.{BTreeMap, IsOrdered}
use Rattle.std.specs.FinMap.{from_entries}
use Rattle.std.proofs.lemmas.List.Elements.{All-nil, All-push, All-contains, Contains-append_right}
use Rattle.std.proofs.lemmas.Map.Views.{btree_map_get_iff}
use Rattle.shore_types.specs.Ids.{rid_cmp, rids_total, exact_rids}
use Rattle.shore_types.specs.declared.ids.Rid.{Rid}
use Rattle.shore_types.specs.declared.layout.Geometry.{Geometry}
use Rattle.shore_model.specs.Records.{AreRecords, IsRecord}
use Rattle.shore_model.proofs.Maps.{get_id}

-- what has been seen so far has the property, and what is left
pub record SeenFrom {A : Type 0} (P : A → Type 0) (all left : List A) : Type 0 where
  pub done : List A
  pub split : all ≡ done ++ left
  pub each : All P done

pub SeenFrom-none : {A : Type 0} (P : A → Type 0) (all : List A) → SeenFrom P all all
SeenFrom-none P all = record { done = []; split = refl; each = All-nil P }

pub SeenFrom-more : {A : Type 0} {P : A → Type 0} {all left : List A} → SeenFrom P all left → (x : A) (rest : List A) → left ≡ x ∷ rest → P x → SeenFrom P all rest
SeenFrom-more {A} {P} h x rest is p = record {
  done = h.done ++ x ∷ [];
  split = h.split ∙ ap (λ xs. h.done ++ xs) is ∙ sym (append_assoc h.done (x ∷ []) rest);
  each = All-push P h.done x h.each p;
}

pub SeenFrom-all : {A : Type 0} {P : A → Type 0} {all : List A} → SeenFrom P all [] → All P all
SeenFrom-all {A} {P} h = subst (All P) (sym (append-nil h.done) ∙ sym h.split) h.each

pub SeenFrom-next : {A : Type 0} {P : A → Type 0} {all left : List A} → SeenFrom P all left → (x : A) (rest : List A) → left ≡ x ∷ rest → Contains all x
SeenFrom-next h x rest is =
    subst (λ xs. Contains xs x) (sym (h.split ∙ ap (λ xs. h.done ++ xs) is)) (Contains-append_right h.done (x ∷ rest) x (0, omega arith, refl))

module _ (g : Geometry) (m : BTreeMap Rid (List ℕ)) (ordered : IsOrdered rid_cmp m) where
  pub records_from_all : All (λ (e : Rid × List ℕ). IsRecord g e.0 e.1) m.entries → AreRecords g (from_entries m.entries)
  records_from_all all id bytes at =
      All-contains (λ (e : Rid × List ℕ). IsRecord g e.0 e.1) m.entries (id, bytes) all
      ((btree_map_get_iff rids_total exact_rids m ordered id bytes).0 (sym (get_id m.entries id) ∙ at))

  pub record_of : AreRecords g (from_entries m.entries) → (id : Rid) (bytes : List ℕ) → Contains m.entries (id, bytes) → IsRecord g id bytes
  record_of all id bytes at = all id bytes (get_id m.entries id ∙ (btree_map_get_iff rids_total exact_rids m ordered id bytes).1 at)
