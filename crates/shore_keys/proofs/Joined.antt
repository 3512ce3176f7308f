-- Sound histories with no prepare, as maps.
use Rattle.std.proofs.Common.{◌≡◌, ℕ, zero, suc, List, [], ◌∷◌, Bool, true, false, Option, Some, None, refl, sym, subst, ap, ◌∙◌, ◌++◌, take}
use Rattle.std.specs.Prelude.{slice_get, IfSome, if◌then◌else◌}
use Rattle.shore_keys.specs.declared.maps.KeyMap.{KeyMap}
use Rattle.shore_model.specs.declared.histories.Decision.{Decision}
use Rattle.shore_model.specs.declared.histories.Decision.TheVariants.{Commit, Prepare, RollBack}
use Rattle.shore_model.specs.declared.histories.Entry.{Entry}
use Rattle.shore_model.specs.Alone.{Alone, MayReplyAll, start, writes_of}
use Rattle.shore_model.specs.Histories.{Sound, calls_of, decisions, has_prepared, serial, writes_in}
use Rattle.shore_model.specs.Records.{Records, overlay}
use Rattle.shore_keys.specs.Maps.{Map, Represents}
use Rattle.shore_keys.specs.Joined.{Act, Acts, AreRight, NonePrepares, after_acts, after_commits, history_over}

none_prepared : (ds : List Decision) → NonePrepares ds → (n t : ℕ) → has_prepared [] (take n ds) t ≡ false
none_prepared ds none zero t = refl
none_prepared [] none (suc n) t = refl
none_prepared (Commit u ∷ ds) none (suc n) t = none_prepared ds none n t
none_prepared (RollBack u ∷ ds) none (suc n) t = none_prepared ds none n t
none_prepared (Prepare u g ∷ ds) none (suc n) t = absurd none

module _ (k : KeyMap) (slots : ℕ) (es : List Entry) (acts : ℕ → List Act) (all : (t : ℕ) → Acts k (calls_of t es) (acts t)) where
  abbrev own : ℕ → List Act
  own t = acts t

  -- those that commit, one after another, are answered as alone
  abbrev RunAlone : (R : Records) → List Decision → Type 0
  RunAlone R ds = (n t : ℕ) → slice_get ds n ≡ Some (Commit t) → MayReplyAll slots (serial (λ t. writes_of (calls_of t es)) R (take n ds)) start (calls_of t es)

  pub right : (R : Records) (m : Map) (ds : List Decision) → RunAlone R ds → NonePrepares ds → Represents R k m → (n t : ℕ) → slice_get ds n ≡ Some (Commit t)
      → AreRight (acts t) (after_commits acts (take n ds) m)
  right R m (Commit u ∷ ds) runs none rep zero t e =
      let same : u ≡ t = commits_same u t e in
      subst (λ t. AreRight (acts t) m) same (all u slots R m rep (runs zero u refl)).0
    where
      commits_same : (u t : ℕ) → Some (Commit u) ≡ Some (Commit t) → u ≡ t
      commits_same u t e = cc
  right R m (Commit u ∷ ds) runs none rep (suc n) t e =
      right (overlay R (writes_of (calls_of u es))) (after_acts (acts u) m) ds (λ i v f. runs (suc i) v f) none (all u slots R m rep (runs zero u refl)).1 n t e
  right R m (RollBack u ∷ ds) runs none rep zero t e = absurd cc
  right R m (RollBack u ∷ ds) runs none rep (suc n) t e = right R m ds (λ i v f. runs (suc i) v f) none rep n t e
  right R m (Prepare u g ∷ ds) runs none rep n t e = absurd none
  right R m [] runs none rep n t e = absurd cc

  pub represents : (R : Records) (m : Map) (ds : List Decision) → RunAlone R ds → NonePrepares ds → Represents R k m → (n : ℕ)
      → Represents (serial (λ t. writes_of (calls_of t es)) R (take n ds)) k (after_commits acts (take n ds) m)
  represents R m ds runs none rep zero = rep
  represents R m [] runs none rep (suc n) = rep
  represents R m (Commit u ∷ ds) runs none rep (suc n) =
      represents (overlay R (writes_of (calls_of u es))) (after_acts (acts u) m) ds (λ i v f. runs (suc i) v f) none (all u slots R m rep (runs zero u refl)).1 n
  represents R m (RollBack u ∷ ds) runs none rep (suc n) = represents R m ds (λ i v f. runs (suc i) v f) none rep n
  represents R m (Prepare u g ∷ ds) runs none rep (suc n) = absurd none

  -- in a sound history each commit is its transaction's turn
  pub run_alone : (R : Records) → Sound (history_over slots R es) → NonePrepares (decisions es) → RunAlone R (decisions es)
  run_alone R sound none n t e =
      let turn = subst (λ b. IfSome (if b then None else Some t) (λ t. Alone slots (serial (writes_in (history_over slots R es)) R (take n (decisions es))) (calls_of t es) (writes_in (history_over slots R es) t)))
      (none_prepared (decisions es) none n t) (sound n (Commit t) e) in
      turn.0
