-- What stands in place for each transaction: another write set for one of them, and the one of a transaction that rolls back.
use Rattle.std.proofs.Common.{◌≡◌, ◌≢◌, ◌⊎◌, inl, inr, ⊎_elim, ℕ, List, [], ◌∷◌, Some, None, cond, map, refl, sym, ap, subst, ◌∙◌}
use Rattle.std.specs.Prelude.{◌==◌, IsSome, unwrap_or}
use Rattle.std.specs.FinMap.{empty, get, get-empty, insert}
use Rattle.std.specs.List.{AllByRecursion}
use Rattle.std.proofs.lemmas.Bool.{eq-eqb, ne_eqb}
use Rattle.shore_types.specs.Ids.{rid_cmp}
use Rattle.shore_types.specs.Images.{Image}
use Rattle.shore_types.specs.declared.ids.Rid.{Rid}
use Rattle.shore_model.specs.declared.histories.Entry.{Entry}
use Rattle.shore_model.specs.declared.histories.Opening.{Opening}
use Rattle.shore_model.specs.declared.holds.Hold.{Hold}
use Rattle.shore_model.specs.declared.progress.Progress.{Progress}
use Rattle.shore_model.specs.Locks.{MayWrite}
use Rattle.shore_model.specs.Records.{Records, WriteSet, laid_over}
use Rattle.shore_model.proofs.Overlays.{get-overlay}
use Rattle.laws_lives.proofs.Ids.{put_there, told_apart, wrote_here, wrote_there}
use Rattle.laws_lives.proofs.UndoLists.{undone_agrees}
use Rattle.laws_lives.proofs.Views.{not_some, overlay_none}
use Rattle.laws_lives.specs.Sessions.{SessionTxn}
use Rattle.laws_lives.specs.Soundness.{IsWriteSetOf, written_by}
use Rattle.laws_lives.specs.UndoLists.{CanUndo, UndoList}
use Rattle.laws_lives.specs.Views.{IsAmong, Sees}

-- ---- another write set for one transaction

abbrev pub with_standing : (ℕ → WriteSet) → ℕ → WriteSet → ℕ → WriteSet
with_standing standing t W u = cond (u == t) W (standing u)

pub standing_its : (standing : ℕ → WriteSet) (t : ℕ) (W : WriteSet) → with_standing standing t W t ≡ W
standing_its standing t W = ap (λ b. cond b W (standing t)) (eq-eqb t t refl)

pub standing_others : (standing : ℕ → WriteSet) (t : ℕ) (W : WriteSet) (u : ℕ) → u ≢ t → with_standing standing t W u ≡ standing u
standing_others standing t W u other = ap (λ b. cond b W (standing u)) (ne_eqb u t other)

-- ---- what stands for a transaction

-- no rollback is under way
pub stands_whole : (o : Opening) (es : List Entry) (a : SessionTxn) (W : WriteSet) → a.undo.rolling ≡ None → W ≡ written_by o es a.txn → IsWriteSetOf o es a W
stands_whole o es a W none is = record { written = λ i. is; left = λ rolls. absurd (rolls none) }

-- the history says of it what it said
pub stands_on : (o : Opening) (es more : List Entry) (a : SessionTxn) (W : WriteSet) → written_by o more a.txn ≡ written_by o es a.txn → IsWriteSetOf o es a W
    → IsWriteSetOf o more a W
stands_on o es more a W same h = record { written = λ none. h.written none ∙ sym same; left = h.left }

-- ---- a rollback is under way

-- what is in place at the ids of some images
abbrev pub written_at : Records → List (Rid × Image) → WriteSet
written_at R [] = empty
written_at R (e ∷ es) = insert (written_at R es) e.0 (get R e.0)

module _ (P : Rid → Type 0) (R : Records) (id : Rid) where
  pub record IsOneOf (es : List (Rid × Image)) : Type 0 where
    pub image : get (written_at R es) id ≡ Some (get R id)
    pub holds : P id
    pub among : IsAmong id (map (λ e. e.0) es)

  pub record IsNoneOf (es : List (Rid × Image)) : Type 0 where
    pub none : get (written_at R es) id ≡ None
    pub same : get (laid_over R es) id ≡ get R id

  pub one_or_none : (es : List (Rid × Image)) → AllByRecursion (λ e. P e.0) es → IsOneOf es ⊎ IsNoneOf es
  one_or_none [] h = inr record { none = get-empty rid_cmp id; same = refl }
  one_or_none (e ∷ es) h =
      ⊎_elim
      (λ same. inl record {
        image = subst (λ q. get (insert (written_at R es) e.0 (get R e.0)) q ≡ Some (get R q)) (sym same) (wrote_here (written_at R es) e.0 (get R e.0));
        holds = subst P (sym same) h.0;
        among = inl (sym same);
      })
      (λ other. let there = wrote_there (written_at R es) e.0 (get R e.0) id other in
      ⊎_elim
      (λ one. inl record { image = there ∙ one.image; holds = one.holds; among = inr one.among })
      (λ no. inr record { none = there ∙ no.none; same = put_there (laid_over R es) e.0 e.1 id other ∙ no.same })
      (one_or_none es h.1))
      (told_apart id e.0)

module _ {held : List Hold} {now R : Records} {t : ℕ} {undo : UndoList} {p : Progress} (k : CanUndo held now R t undo p) where
  -- a transaction that can be undone sees as one that has written what is in place at the ids of its images: at the others the undo list
  -- changes nothing, and leaves serial records
  pub sees_left : Sees held now R t (written_at R undo.images)
  sees_left = record {
    view = λ id r. ⊎_elim
        (λ one. sym (get-overlay now (written_at R undo.images) id ∙ ap (λ o. unwrap_or o (get now id)) one.image))
        (λ no. sym no.same ∙ undone_agrees k id r ∙ sym (overlay_none now (written_at R undo.images) id no.none))
        (one_or_none (MayWrite held t) R id undo.images k.changed);
    locked = λ id some. ⊎_elim (λ one. one.holds) (λ no. absurd (not_some no.none some)) (one_or_none (MayWrite held t) R id undo.images k.changed);
  }

  -- and that stands for it
  pub left_stands : (id : Rid) → IsSome (get (written_at R undo.images) id) → IsAmong id (map (λ e. e.0) undo.images)
  left_stands id some = ⊎_elim (λ one. one.among) (λ no. absurd (not_some no.none some)) (one_or_none (MayWrite held t) R id undo.images k.changed)
