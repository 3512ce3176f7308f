-- One image of a transaction is put back, or none yet of one that is doomed, and the history stays sound.
use Rattle.std.proofs.Common.{◌≡◌, ◌≢◌, ◌⊎◌, inl, ◌++◌, ◌≤◌, ℕ, List, [], ◌∷◌, refl, subst, length}
use Rattle.std.specs.FinMap.{get}
use Rattle.std.specs.List.{AllByRecursion}
use Rattle.shore_types.specs.Images.{Image}
use Rattle.shore_types.specs.declared.ids.Rid.{Rid}
use Rattle.shore_model.specs.declared.histories.Opening.{Opening}
use Rattle.shore_model.specs.declared.histories.Entry.{Entry}
use Rattle.shore_model.specs.Locks.{MayRead, MayWrite}
use Rattle.shore_model.specs.Records.{Records, put_image}
use Rattle.laws_lives.proofs.Lists.{recursion-last}
use Rattle.laws_lives.proofs.Rollings.{rolling_elsewhere, rolling_stays_sound}
use Rattle.laws_lives.proofs.UndoLists.{doom_undoes, laid_or_left, step_undoes}
use Rattle.shore_model.specs.declared.rollbacks.Rollback.{Rollback}
use Rattle.shore_model.specs.declared.rollbacks.Rollback.TheVariants.{Whole}
use Rattle.laws_lives.specs.Sessions.{SessionTxn, Sessions, doomed, image_put_back}
use Rattle.laws_lives.specs.Soundness.{IsSoundAfter}
use Rattle.laws_lives.specs.UndoLists.{MayRoll, least_kept}
use Rattle.laws_lives.specs.Views.{IsAmong}

module _ {o : Opening} {es : List Entry} {s : Sessions} (k : IsSoundAfter o es s) (a : SessionTxn) (mem : IsAmong a s.active) where
  pub doom_stays_sound : IsSoundAfter o es (doomed s a)
  doom_stays_sound = rolling_stays_sound k a mem s.records (λ id. inl refl) a.undo.images Whole (doom_undoes (k.undoes a mem))

  module _ (kept : List (Rid × Image)) (e : Rid × Image) (is : a.undo.images ≡ kept ++ e ∷ []) where
    abbrev pub R' : Records
    R' = put_image s.records e.0 e.1

    -- it may write the id, so that nobody else may read it
    pub may_put_back : MayWrite s.held a.txn e.0
    may_put_back =
        recursion-last (λ d. MayWrite s.held a.txn d.0) kept e (subst (AllByRecursion (λ d. MayWrite s.held a.txn d.0)) is (k.undoes a mem).changed)

    pub put_back_changes : (id : Rid) → (get R' id ≡ get s.records id) ⊎ MayWrite s.held a.txn id
    put_back_changes id = laid_or_left (MayWrite s.held a.txn) s.records (e ∷ []) id (may_put_back, tt)

    pub put_back_elsewhere : (u : ℕ) → u ≢ a.txn → (id : Rid) → MayRead s.held u id → get R' id ≡ get s.records id
    put_back_elsewhere = rolling_elsewhere k a mem R' put_back_changes

    pub put_back_stays_sound : (r : Rollback) → MayRoll a.undo r → least_kept a.undo r ≤ length kept → IsSoundAfter o es (image_put_back s a kept e r)
    put_back_stays_sound r may least =
        rolling_stays_sound k a mem R' put_back_changes kept r (step_undoes (k.undoes a mem) kept e is r may least)
