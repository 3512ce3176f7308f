-- A transaction's rollback begins or goes on: some of its images may be put back, none of another's. The history stays sound.
use Rattle.std.proofs.Common.{◌≡◌, ◌≢◌, ◌⊎◌, ⊎_elim, ℕ, List, Some, None, map, refl, sym, ap, subst, ◌∙◌}
use Rattle.std.specs.Prelude.{IsSome}
use Rattle.std.specs.FinMap.{get}
use Rattle.shore_types.specs.Images.{Image}
use Rattle.shore_types.specs.declared.ids.Rid.{Rid}
use Rattle.shore_model.specs.declared.histories.Opening.{Opening}
use Rattle.shore_model.specs.declared.histories.Entry.{Entry}
use Rattle.shore_model.specs.Locks.{MayRead, MayWrite}
use Rattle.shore_model.specs.Records.{Records, WriteSet}
use Rattle.laws_lives.proofs.Members.{HasNewUndo, among_with, txn_among, txns_with}
use Rattle.laws_lives.proofs.Standing.{left_stands, sees_left, standing_its, standing_others, with_standing, written_at}
use Rattle.laws_lives.proofs.UndoLists.{undo_kept_by_others}
use Rattle.laws_lives.proofs.Views.{one_writes, writer_excludes}
use Rattle.shore_model.specs.declared.rollbacks.Rollback.{Rollback}
use Rattle.laws_lives.specs.Sessions.{SessionTxn, Sessions, with_undo}
use Rattle.laws_lives.specs.Soundness.{IsSoundAfter, IsWriteSetOf, progress_in, serial_after}
use Rattle.laws_lives.specs.UndoLists.{CanUndo, UndoList, undo_rolled}
use Rattle.laws_lives.specs.Views.{IsAmong, Sees, Stand}

pub some_not_none : {A : Type 0} {P : Type 0} (x : A) → Some x ≡ None → P
some_not_none x e = cc

module _ {o : Opening} {es : List Entry} {s : Sessions} (k : IsSoundAfter o es s) (a : SessionTxn) (mem : IsAmong a s.active) where
  abbrev now : Records
  now = serial_after o es

  module _ (R' : Records) (changes : (id : Rid) → (get R' id ≡ get s.records id) ⊎ MayWrite s.held a.txn id) where
    -- what it may write nobody else may read
    pub rolling_elsewhere : (u : ℕ) → u ≢ a.txn → (id : Rid) → MayRead s.held u id → get R' id ≡ get s.records id
    rolling_elsewhere u other id r =
        ⊎_elim (λ same. same) (λ w. absurd (writer_excludes k.stand a.txn u id (λ same. other (sym same)) w r)) (changes id)

    module _ (kept : List (Rid × Image)) (r : Rollback) (can : CanUndo s.held now R' a.txn (undo_rolled a.undo kept r) (progress_in o es a.txn)) where
      abbrev undo' : UndoList
      undo' = undo_rolled a.undo kept r

      -- what is in place at the ids of the images that are left stands for it from now on
      abbrev standing' : ℕ → WriteSet
      standing' = with_standing k.standing a.txn (written_at R' kept)

      left_for : (b : SessionTxn) → HasNewUndo a.txn undo' s.active b → IsWriteSetOf o es b (standing' b.txn)
      left_for b one =
          ⊎_elim
          (λ it.
          let its : standing' b.txn ≡ written_at R' kept =
          ap standing' it.0 ∙ standing_its k.standing a.txn (written_at R' kept) in
          record {
            written = λ none. some_not_none r (sym (ap (λ (undo : UndoList). undo.rolling) it.1) ∙ none);
            left = λ i id some.
                subst (λ (undo : UndoList). IsAmong id (map (λ e. e.0) undo.images)) (sym it.1)
                (left_stands can id (subst (λ W. IsSome (get W id)) its some));
          })
          (λ other.
          subst (IsWriteSetOf o es b) (sym (standing_others k.standing a.txn (written_at R' kept) b.txn other.0))
          (k.stands_for b (subst (λ y. IsAmong y s.active) (sym other.1) one.there)))
          one.one

      left_can : (b : SessionTxn) → HasNewUndo a.txn undo' s.active b → CanUndo s.held now R' b.txn b.undo (progress_in o es b.txn)
      left_can b one =
          ⊎_elim
          (λ it. subst (λ u. CanUndo s.held now R' u b.undo (progress_in o es u)) (sym it.0)
          (subst (λ tr. CanUndo s.held now R' a.txn tr (progress_in o es a.txn)) (sym it.1) can))
          (λ other.
          undo_kept_by_others (k.undoes b (subst (λ y. IsAmong y s.active) (sym other.1) one.there)) now R'
          (λ id r. (rolling_elsewhere b.txn other.0 id r, refl)))
          one.one

      pub rolling_stays_sound : IsSoundAfter o es record s { records = R'; active = with_undo a.txn undo' s.active }
      rolling_stays_sound = record {
        sound = k.sound;
        standing = standing';
        stands_for = λ b in_with. left_for b (among_with a.txn undo' b s.active in_with);
        stand =
            subst (λ ts. Stand s.held now R' ts standing') (sym (txns_with a.txn undo' s.active))
            (one_writes k.stand a.txn (txn_among a s.active mem) R' standing' (λ u other. standing_others k.standing a.txn (written_at R' kept) u other) changes
            (subst (Sees s.held now R' a.txn) (sym (standing_its k.standing a.txn (written_at R' kept))) (sees_left can)));
        replies = λ u b. k.replies u (subst (IsAmong u) (txns_with a.txn undo' s.active) b);
        undoes = λ b in_with. left_can b (among_with a.txn undo' b s.active in_with);
        undecided = λ u b is_free. k.undecided u (subst (IsAmong u) (txns_with a.txn undo' s.active) b) is_free;
        below = λ u b. k.below u (subst (IsAmong u) (txns_with a.txn undo' s.active) b);
        decided = k.decided;
        uncalled = k.uncalled;
        unheld = k.unheld;
        own = λ u b is_free. k.own u (subst (IsAmong u) (txns_with a.txn undo' s.active) b) is_free;
        found_below = k.found_below;
      }
