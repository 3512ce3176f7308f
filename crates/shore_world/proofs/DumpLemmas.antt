-- What a dump leaves: all as it was, or a world that has failed.
use Rattle.std.proofs.Common.{◌≡◌, ◌≢◌, inl, inr, true, false, ℕ, List, Bool, Option, Result, Ok, Err, IfErr, IfOk, IsErrAnd, IsTrue, MatchResult, refl, sym, ◌∙◌, ap, subst}
use Rattle.shore_types.specs.declared.faults.Fault.{Fault}
use Rattle.shore_types.specs.declared.faults.Fault.TheVariants as fault
use Rattle.shore_types.specs.declared.ids.PageId.{PageId}
use Rattle.shore_types.specs.declared.ids.Rid.{Rid}
use Rattle.shore_model.specs.Records.{part_of, scan_of}
use Rattle.shore_disk.specs.declared.device.Disk.{Ghosts}
use Rattle.shore_log.specs.declared.device.LogDev.{LogDev}
use Rattle.laws_calls.specs.StateChanges.{after_refusal, with_failure}
use Rattle.laws_calls.specs.States.{State}
use Rattle.laws_checkpoints.specs.CheckpointedStores.{CheckpointedStore}
use Rattle.shore_core.specs.Cores as cores
use Rattle.shore_core.specs.Cores.{IsSafe, heap_of}
use Rattle.shore_core.specs.Replies.{Fails, InEach, MayLeave, SameVolume}
use Rattle.shore_core.proofs.Taking.{stays_after}
use Rattle.shore_world.specs.declared.world.World.{World}
use Rattle.shore_world.specs.Worlds.{WorldComesTo, HasFailedToRead, IsAt, IsDumpOf, IsInState, IsLike, IsOverStore, IsPartOf, SurvivesCrashes, before_in, durable_in, failed_in, geometry_in, list_in, report_in}
use Rattle.shore_world.proofs.GrowLemmas.{HasSameLog, kept_same}
use Rattle.shore_world.proofs.VolumeLemmas.{comes_written, volume_alone, volume_written}
use Rattle.shore_world.proofs.WorldLemmas.{kept_as_before}
use Rattle.shore_world.proofs.CallLemmas.{comes_beside}

-- what it answers in whatever state the world is
pub is_dump : {L V : Type 0} {G : Ghosts L} {H : Ghosts V} (w : World L V G H) (store : ℕ) (r : Result (List (Rid × List ℕ)) Fault)
    → ((front : List ℕ) (disk : ℕ → List ℕ) (s : State) (kept : CheckpointedStore) → IsInState w front disk s → IsSafe (geometry_in w) s → IsOverStore w disk s kept
    → IfOk r (λ pairs. pairs ≡ scan_of store s.sessions.records))
    → IfOk r (λ pairs. IsDumpOf w store pairs)
is_dump w store (Ok pairs) h = h
is_dump w store (Err f) h = tt

-- .. and so for a part, up to an end that it tells
pub is_part : {L V : Type 0} {G : Ghosts L} {H : Ghosts V} (w : World L V G H) (store from : ℕ) (part : List (Rid × List ℕ)) (end : Option PageId → ℕ) (r : Result (Option PageId) Fault)
    → ((front : List ℕ) (disk : ℕ → List ℕ) (s : State) (kept : CheckpointedStore) → IsInState w front disk s → IsSafe (geometry_in w) s → IsOverStore w disk s kept
    → IfOk r (λ next. part ≡ part_of store from (end next) s.sessions.records))
    → IfOk r (λ next. IsPartOf w store from (end next) part)
is_part w store from part end (Ok next) h = h
is_part w store from part end (Err f) h = tt

pub same_truth : (a b : Bool) → (IsTrue a → IsTrue b) → (IsTrue b → IsTrue a) → a ≡ b
same_truth true b to from = sym (to refl)
same_truth false true to from = from refl
same_truth false false to from = refl

pub never_true : (a : Bool) → (IsTrue a → ⊥) → a ≡ false
never_true true never = absurd (never refl)
never_true false never = refl

module _ {A : Type 0} where
  -- a fault that fails nothing leaves the state
  pub stays_so : (P : State → Type 0) (r : Result A Fault) (s : State) → (IsErrAnd r Fails → ⊥) → MatchResult r (λ _. P s) (λ f. P (after_refusal f s)) → P s
  stays_so P (Ok x) s none left = left
  stays_so P (Err f) s none left = subst P (stays_after s f (λ is. none (inl is)) (λ d offset is. none (inr (d, offset, is)))) left

  -- .. and any other a state that has failed
  pub fails_then : (P : State → Type 0) (r : Result A Fault) (s : State) → IsErrAnd r Fails → MatchResult r (λ _. P s) (λ f. P (after_refusal f s)) → P (with_failure s)
  fails_then P (Ok x) s fails left = absurd fails
  fails_then P (Err f) s (inl device) left = subst (λ (x : Fault). P (after_refusal x s)) device left
  fails_then P (Err f) s (inr (d, offset, damaged)) left = subst (λ (x : Fault). P (after_refusal x s)) damaged left

  -- `Failed` does not
  pub failed_before : (r : Result A Fault) → IsErrAnd r Fails → IfErr r (λ f. f ≡ fault.Failed) → ⊥
  failed_before (Ok x) fails failed = fails
  failed_before (Err f) (inl device) failed = let clash : fault.Device ≡ fault.Failed = sym device ∙ failed in cc
  failed_before (Err f) (inr (d, offset, damaged)) failed = let clash : fault.Damaged d offset ≡ fault.Failed = sym damaged ∙ failed in cc

  pub device_fails : (r : Result A Fault) → r ≡ Err fault.Device → IsErrAnd r Fails
  device_fails r is = subst (λ (x : Result A Fault). IsErrAnd x Fails) (sym is) (inl refl)

  module _ {L V : Type 0} {G : Ghosts L} {H : Ghosts V} where
    -- what is known of the core behind it
    pub record HasDumped (old new : World L V G H) (r : Result A Fault) : Type 0 where
      pub log : new.log ≡ old.log
      pub stage : new.stage ≡ old.stage
      pub report : report_in new ≡ report_in old
      pub same : SameVolume old.core new.core
      pub left : InEach (λ front disk before s store. MatchResult r (λ _. cores.CoreComesTo new.core front before store s) (λ f. cores.CoreComesTo new.core front before store (after_refusal f s))) old.core
      pub any_moment : MayLeave old.core new.core
      pub still : IsTrue (failed_in old) → heap_of new.core ≡ heap_of old.core
      pub list : list_in new ≡ list_in old
      pub durable : durable_in new ≡ durable_in old
      pub volume_faults : r ≢ Err fault.Device → cores.faults_of new.core ≡ cores.faults_of old.core

    module _ (old new : World L V G H) (r : Result A Fault) (it : HasDumped old new r) where
      history : G.history new.log.device ≡ G.history old.log.device
      history = ap (λ (l : LogDev L G). G.history l.device) it.log

      -- the state behind it, over its own store
      comes : (log_front front : List ℕ) (disk : ℕ → List ℕ) (s : State) (store : CheckpointedStore) → IsAt old log_front front disk s store → SurvivesCrashes new log_front
          → (later : State) → HasSameLog s later → cores.CoreComesTo new.core front (before_in old s) store later → WorldComesTo new log_front front store later
      comes log_front front disk s store at kept later same left =
          comes_written old new it.same.geometry it.stage (ap (λ (l : LogDev L G). l.anchors) it.log) log_front front disk s store at
          (volume_written old new it.any_moment it.still log_front front disk s store at) kept later
          (comes_beside old new s later front store at.is_in.beside it.log left) (λ fails. kept_same s later store same at.over.kept)

      pub dumped_like : (IsErrAnd r Fails → ⊥) → failed_in new ≡ failed_in old → IsLike old new
      dumped_like none failed =
          let kept : (front : List ℕ) → SurvivesCrashes old front → SurvivesCrashes new front =
          λ front k. kept_as_before old new it.log it.stage it.list it.durable (λ run. sym failed ∙ run) front k in
          record {
            geometry = it.same.geometry;
            state = λ log_front front disk s store at safe. comes log_front front disk s store at (kept log_front at.log) s (refl, refl)
                (stays_so (λ x. cores.CoreComesTo new.core front (before_in old s) store x) r s none (it.left front disk (before_in old s) s store at.is_in safe at.over));
            any_moment = volume_alone old new history it.any_moment it.still;
            list = it.list;
            durable = it.durable;
            failed = failed;
            history = history;
            staged = ap (λ (l : LogDev L G). l.staged) it.log;
            anchors = ap (λ (l : LogDev L G). l.anchors) it.log;
            stage = it.stage;
            report = it.report;
            same = it.same;
            volume_faults = it.volume_faults (λ is. none (device_fails r is));
            kept = kept;
          }

      pub dumped_fails : IsErrAnd r Fails → failed_in old ≡ false → IsTrue (failed_in new) → HasFailedToRead old new
      dumped_fails fails running failed =
          let kept : (front : List ℕ) → SurvivesCrashes old front → SurvivesCrashes new front =
          λ front k. kept_as_before old new it.log it.stage it.list it.durable (λ run. running) front k in
          record {
            geometry = it.same.geometry;
            state = λ log_front front disk s store at safe. comes log_front front disk s store at (kept log_front at.log) (with_failure s) (refl, refl)
                (fails_then (λ x. cores.CoreComesTo new.core front (before_in old s) store x) r s fails (it.left front disk (before_in old s) s store at.is_in safe at.over));
            any_moment = volume_alone old new history it.any_moment it.still;
            list = it.list;
            durable = it.durable;
            running = running;
            failed = failed;
            history = history;
            staged = ap (λ (l : LogDev L G). l.staged) it.log;
            anchors = ap (λ (l : LogDev L G). l.anchors) it.log;
            stage = it.stage;
            report = it.report;
            faults = ap (λ (l : LogDev L G). G.faults l.device) it.log;
            same = it.same;
            kept = kept;
          }
