-- A core of which nothing has changed: no page has left its frame or come to one, and all else is as it was.
use Rattle.std.proofs.Common.{◌≡◌, ◌≢◌, ℕ, List, Bool, Some, sym, ◌∙◌, ap, subst}
use Rattle.shore_types.specs.Layout.{HasPage}
use Rattle.shore_types.specs.declared.ids.PageId.{PageId}
use Rattle.shore_types.specs.declared.layout.Geometry.{Geometry}
use Rattle.shore_disk.specs.declared.device.Disk.{Ghosts}
use Rattle.shore_dwrite.specs.Volumes.{page_number}
use Rattle.shore_log.specs.declared.tail.Tail as tail
use Rattle.shore_model.specs.declared.log_records.LogRecord.{LogRecord}
use Rattle.shore_page.specs.Slots.{Slot}
use Rattle.shore_pool.specs.Pools as pools
use Rattle.shore_pool.specs.Pools.{HasInPlace, PoolHolds}
use Rattle.shore_pool.specs.declared.pool.Pool.{Pool}
use Rattle.shore_heap.specs.Contents.{AreBounds, ClaimsOfPages, HasSlots}
use Rattle.shore_heap.specs.Heaps.{Shows, bounds_of, pool_of}
use Rattle.shore_sessions.proofs.WaitSteps.{call_waits}
use Rattle.shore_sessions.specs.Calls.{as_waiting}
use Rattle.shore_sessions.specs.Controls.{txns_in, waits_in}
use Rattle.shore_sessions.specs.declared.control.Control.{Control}
use Rattle.shore_txn.specs.Transactions.{kept_in}
use Rattle.laws_calls.specs.States.{DoesNotWait, State, page_slots}
use Rattle.laws_heaps.specs.LoggedHeaps.{AreInside, AreTextsOf, IsStoreOf}
use Rattle.laws_lives.specs.Recovery.{RecoveryState}
use Rattle.laws_checkpoints.specs.CheckpointedStores.{CheckpointedStore}
use Rattle.laws_checkpoints.specs.RecoveryNumbers.{RecoveryNumbers}
use Rattle.laws_heaps.specs.HeapRecoveries.{HasRecoveries, recovery_in}
use Rattle.shore_pool.specs.declared.frame.Frame.{Frame}
use Rattle.shore_core.specs.Cores as cores
use Rattle.shore_core.specs.Cores.{IsBeside, IsIn, IsOver, control_of, durable_of, has_failed, heap_of, tail_of, waiting_of}
use Rattle.shore_core.specs.Parts.{HasParts}
use Rattle.shore_core.specs.Resumes.{NoneWaits}
use Rattle.shore_core.specs.declared.core_calls.Core.{Core}

module _ {T V : Type 0} {G : tail.Ghosts T} {H : Ghosts V} (old new : Core T V G H) (pool : pool_of (heap_of new) ≡ pool_of (heap_of old))
    (bounds : bounds_of (heap_of new) ≡ bounds_of (heap_of old)) where
  same_shows : (K : ClaimsOfPages) (front : List ℕ) (disk : ℕ → List ℕ) (S : PageId → List Slot) → Shows K (heap_of old) front disk S → Shows K (heap_of new) front disk S
  same_shows K front disk S h = record {
    holds = subst (λ (p : Pool V H). PoolHolds p front disk) (sym pool) h.holds;
    pages = subst (λ (p : Pool V H). (id : PageId) → HasPage (pools.geometry_of p) id → HasSlots (pools.geometry_of p).version (pools.frame_of p id) (disk (page_number (pools.geometry_of p) id)) id (K id) (S id)) (sym pool) h.pages;
    bounds = subst (λ (p : Pool V H). AreBounds (pools.geometry_of p) (bounds_of (heap_of new)) S) (sym pool)
        (subst (λ (b : List (List ℕ)). AreBounds (pools.geometry_of (pool_of (heap_of old))) b S) (sym bounds) h.bounds);
  }

  same_store : (disk : ℕ → List ℕ) (store : RecoveryState) → IsStoreOf (heap_of old) disk store → IsStoreOf (heap_of new) disk store
  same_store disk store h =
      let geometry : cores.geometry_of new ≡ cores.geometry_of old = ap (λ (p : Pool V H). pools.geometry_of p) pool in
      record {
        volume = subst (λ (g : Geometry). AreTextsOf store.log g disk store.volume) (sym geometry) h.volume;
        in_place = λ p there.
            let was = h.in_place p (subst (λ (g : Geometry). HasPage g p) geometry there) in
            record {
              images = was.images;
              here = subst (λ (q : Pool V H). HasInPlace q disk p (store.in_place p).number was.images) (sym pool) was.here;
              has = was.has;
            };
        inside = subst (λ (g : Geometry). AreInside g store.in_place) (sym geometry) h.inside;
        done = h.done;
      }

  same_recoveries : (recovery : RecoveryNumbers) → HasRecoveries (heap_of old) recovery → HasRecoveries (heap_of new) recovery
  same_recoveries recovery h =
      let geometry : cores.geometry_of new ≡ cores.geometry_of old = ap (λ (p : Pool V H). pools.geometry_of p) pool in
      record {
        each = λ p there. subst (λ (q : Pool V H). recovery p ≡ recovery_in (pools.frame_of q p)) (sym pool) (h.each p (subst (λ (g : Geometry). HasPage g p) geometry there));
        inside = λ p none. h.inside p (λ there. none (subst (λ (g : Geometry). HasPage g p) (sym geometry) there));
        some = subst (λ (q : Pool V H). (k : ℕ) (f : Frame) → pools.frame_at q k ≡ Some f → f.recovery ≢ Some 0) (sym pool) h.some;
      }

  module _ (tails : tail_of new ≡ tail_of old) (control : control_of new ≡ control_of old) (durable : durable_of new ≡ durable_of old) (failed : has_failed new ≡ has_failed old) where
    pub same_in : (front : List ℕ) (disk : ℕ → List ℕ) (before : List LogRecord) (s : State) → IsIn front disk before old s → IsIn front disk before new s
    same_in front disk before s is = record {
      beside = record {
        first = ap G.first tails ∙ is.beside.first;
        parts = subst (λ (c : Control). HasParts c (waiting_of new) (durable_of new) (has_failed new) before s) (sym control)
            (subst (λ (t : T). HasParts (control_of old) (G.records t) (durable_of new) (has_failed new) before s) (sym tails)
            (subst (λ (n : ℕ). HasParts (control_of old) (waiting_of old) n (has_failed new) before s) (sym durable)
            (subst (λ (b : Bool). HasParts (control_of old) (waiting_of old) (durable_of old) b before s) (sym failed) is.beside.parts)));
      };
      pages = λ runs. subst (λ (c : Control). Shows (kept_in (txns_in c)) (heap_of new) front disk (page_slots s)) (sym control)
          (same_shows (kept_in (txns_in (control_of old))) front disk (page_slots s) (is.pages runs));
    }

  pub same_over : (disk : ℕ → List ℕ) (s : State) (store : CheckpointedStore) → IsOver disk old s store → IsOver disk new s store
  same_over disk s store over = record {
    kept = over.kept;
    pages = λ runs. record { pages = same_store disk store.store (over.pages runs).pages; recoveries = same_recoveries store.recovery (over.pages runs).recoveries };
  }

-- no call of a session waits if none does in the state
pub none_waits : {T V : Type 0} {G : tail.Ghosts T} {H : Ghosts V} (core : Core T V G H) (before : List LogRecord) (s : State) → IsBeside before core s → (session : ℕ) → DoesNotWait s session
    → NoneWaits core session
none_waits core before s is session idle call there = idle (as_waiting call) (call_waits (waits_in (control_of core)) s is.parts.stands.waits call there)
