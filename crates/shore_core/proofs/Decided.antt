-- What a prepare and a resolve leave: a record is logged that no page shows, or a call waits, or is answered.
use Rattle.laws_checkpoints.specs.CheckpointedStores.{CheckpointedStore}
use Rattle.std.proofs.Common.{◌≡◌, inl, inr, ◌++◌, ◌∷◌, [], ℕ, List, None, Bool, Result, IsErrAnd, false, refl, sym, ap, subst, ◌∙◌}
use Rattle.std.proofs.lemmas.Option.{same_Some}
use Rattle.shore_types.specs.declared.faults.Fault.{Fault}
use Rattle.shore_types.specs.declared.ids.PageId.{PageId}
use Rattle.shore_types.specs.declared.layout.Geometry.{Geometry}
use Rattle.shore_model.specs.Histories.{all_prepared, decisions, last_under}
use Rattle.shore_model.specs.Logs.{image_in}
use Rattle.shore_model.specs.declared.calls.Call.TheVariants as call
use Rattle.shore_model.specs.declared.calls.Outcome.{Outcome}
use Rattle.shore_model.specs.declared.log_records.LogRecord.{LogRecord}
use Rattle.shore_model.specs.declared.step.Step.{Step}
use Rattle.shore_model.specs.declared.step.Step.TheVariants.{Refused}
use Rattle.shore_disk.specs.declared.device.Disk as disk
use Rattle.shore_log.specs.declared.tail.Tail as tail
use Rattle.shore_heap.specs.declared.heap.Heap.{Heap}
use Rattle.shore_heap.specs.Heaps.{Shows}
use Rattle.shore_heap.proofs.Showing.{shows_same}
use Rattle.laws_lives.specs.Sessions.{ResolvedTxn}
use Rattle.laws_calls.specs.CallSteps.{CallStep}
use Rattle.laws_calls.specs.Resolves.{RefusesResolve, ResolveStep, resolve_told}
use Rattle.laws_calls.specs.StateChanges.{after_refusal}
use Rattle.laws_calls.specs.States.{DoesNotWait, State, page_slots}
use Rattle.shore_sessions.specs.Seated.{NamesDiffer}
use Rattle.shore_sessions.specs.Standing.{HasControl}
use Rattle.shore_sessions.proofs.ResolveWaits.{control_told}
use Rattle.shore_txn.specs.Transactions.{kept_in}
use Rattle.shore_core.specs.declared.core_calls.Core.{Core}
use Rattle.shore_core.specs.Stores.{IsHeapOf, append_to}
use Rattle.shore_core.proofs.Works.{noted_without}
use Rattle.shore_core.specs.Cores.{CoreComesTo, IsIn, IsOver, IsSafe, control_of, durable_of, first_of, geometry_of, has_failed, heap_of, txns_of, waiting_of}
use Rattle.shore_core.specs.Parts.{HasParts}
use Rattle.shore_core.specs.Replies.{Replied}
use Rattle.shore_core.specs.Resolving.{IsInBut}
use Rattle.shore_core.proofs.Coming.{comes_appended, comes_same, over_as, pages_told}
use Rattle.shore_core.proofs.Taking.{replied_as}
use Rattle.shore_core.proofs.Tables.{parts_logged}

-- no global id is in use for two transactions of a safe state
pub names_apart : (g : Geometry) (s : State) → IsSafe g s → NamesDiffer s.sessions
names_apart g s safe p q m n same =
    let under = safe.after.sessions.agree.under in
    same_Some p.0 q.0 (sym (under p m) ∙ ap (λ global. last_under global None (all_prepared safe.opening.in_doubt (decisions safe.entries))) same ∙ under q n)

-- a step of a resolve is one of the manager
pub resolve_steps : (g : Geometry) (s : State) (session : ℕ) (global : List ℕ) (asked : Outcome) (step : Step) (new : State) → s.failed ≡ false → DoesNotWait s session → ResolveStep s session global asked step new
    → CallStep g s session (call.Resolve global asked) step new
resolve_steps g s session global asked step new works idle h = inr (inr (inr (inr (inr (inr (inr (works, idle, inr (global, asked, refl, h))))))))

module _ {T V : Type 0} {G : tail.Ghosts T} {H : disk.Ghosts V} where
  -- it is refused
  pub resolve_refused : (core : Core T V G H) (front : List ℕ) (disk : ℕ → List ℕ) (before : List LogRecord) (s : State) (store : CheckpointedStore) (session : ℕ) (global : List ℕ) (asked : Outcome)
      → IsIn front disk before core s → IsOver disk core s store → s.failed ≡ false → DoesNotWait s session → (r : Result Step Fault) (f : Fault) → IsErrAnd r (λ e. e ≡ f) → RefusesResolve s session global asked f
      → after_refusal f s ≡ s → Replied session (call.Resolve global asked) r core core front before s store
  resolve_refused core front disk before s store session global asked is over works idle r f same refuses stays =
      replied_as core core front before s store session (call.Resolve global asked) r f same
      (subst (CallStep (geometry_of core) s session (call.Resolve global asked) (Refused f)) (sym stays) (resolve_steps (geometry_of core) s session global asked (Refused f) s works idle (inl (f, refuses, refl, refl))))
      (inr (comes_same core front disk before s store is over))

  -- ---- a record that no page shows

  module _ (old new : Core T V G H) (front : List ℕ) (disk : ℕ → List ℕ) (before : List LogRecord) (s later : State) (store : CheckpointedStore) (is : IsIn front disk before old s) (over : IsOver disk old s store)
      (heap : heap_of new ≡ heap_of old) (first : first_of new ≡ first_of old) (durable : durable_of new ≡ durable_of old) (failed : has_failed new ≡ has_failed old)
      (claims : (p : PageId) → kept_in (txns_of new) p ≡ kept_in (txns_of old) p) (slots : (p : PageId) → page_slots later p ≡ page_slots s p) where
    logged_pages : s.failed ≡ false → Shows (kept_in (txns_of new)) (heap_of new) front disk (page_slots later)
    logged_pages works =
        shows_same (heap_of new) (kept_in (txns_of new)) front disk (page_slots s) (page_slots later) (λ p there. slots p)
        (subst (λ (h : Heap V H). Shows (kept_in (txns_of new)) h front disk (page_slots s)) (sym heap) (pages_told (heap_of old) (txns_of old) (txns_of new) front disk (page_slots s) claims (is.pages works)))

    logged_parts : {waiting : List LogRecord} → HasParts (control_of new) waiting (durable_of old) (has_failed old) before later → HasParts (control_of new) waiting (durable_of new) (has_failed new) before later
    logged_parts {waiting = waiting} has =
        subst (λ (b : Bool). HasParts (control_of new) waiting (durable_of new) b before later) (sym failed)
        (subst (λ (n : ℕ). HasParts (control_of new) waiting n (has_failed old) before later) (sym durable) has)

    pub in_logged : (r : LogRecord) → waiting_of new ≡ waiting_of old ++ r ∷ [] → HasControl (control_of new) later → later.log ≡ s.log ++ r ∷ [] → later.durable ≡ s.durable → later.failed ≡ s.failed
        → IsIn front disk before new later
    in_logged r added stands log told fails =
        let parts = parts_logged (control_of old) (control_of new) (waiting_of old) (durable_of old) (has_failed old) before s later r is.beside.parts stands log told fails in
        record {
          beside = record { first = first ∙ is.beside.first; parts = subst (λ l. HasParts (control_of new) l (durable_of new) (has_failed new) before later) (sym added) (logged_parts parts) };
          pages = λ works. logged_pages (sym fails ∙ works);
        }

    pub pages_appended : (r : LogRecord) → image_in r.payload ≡ None → s.failed ≡ false → IsHeapOf (heap_of new) disk (append_to store r)
    pages_appended r none works =
        subst (λ (h : Heap V H). IsHeapOf h disk (append_to store r)) (sym heap) (noted_without (heap_of old) disk store r (over.pages works) over.kept.recoverable over.kept.redone none)

    pub comes_logged : (r : LogRecord) → waiting_of new ≡ waiting_of old ++ r ∷ [] → image_in r.payload ≡ None → HasControl (control_of new) later → later.log ≡ s.log ++ r ∷ [] → later.durable ≡ s.durable
        → later.failed ≡ s.failed → CoreComesTo new front before store later
    comes_logged r added none stands log told fails =
        comes_appended new front disk before s later store r over.kept log told (in_logged r added stands log told fails) (λ works. pages_appended r none (sym fails ∙ works))

  -- ---- a resolve whose rollback has ended

  module _ (r : ResolvedTxn) (front : List ℕ) (disk : ℕ → List ℕ) (before : List LogRecord) (s : State) (store : CheckpointedStore) where
    -- it is answered
    pub told_comes : (core : Core T V G H) (session : ℕ) → IsInBut r front disk before core s → IsOver disk core s store → CoreComesTo core front before store (resolve_told s session r)
    told_comes core session is over =
        comes_same core front disk before (resolve_told s session r) store
        (record {
          beside = record { first = is.first; parts = record { stands = control_told (control_of core) s session r is.stands; log = is.log; durable_is = is.durable_is; failed_is = is.failed_is } };
          pages = is.pages;
        })
        (over_as core core disk s (resolve_told s session r) store refl refl refl refl over)

    -- .. or waits
    pub awaited_comes : (old new : Core T V G H) (later : State) → IsInBut r front disk before old s → IsOver disk old s store → heap_of new ≡ heap_of old → first_of new ≡ first_of old → waiting_of new ≡ waiting_of old
        → durable_of new ≡ durable_of old → has_failed new ≡ has_failed old → txns_of new ≡ txns_of old → HasControl (control_of new) later → later.log ≡ s.log → later.durable ≡ s.durable → later.failed ≡ s.failed
        → ((p : PageId) → page_slots later p ≡ page_slots s p) → CoreComesTo new front before store later
    awaited_comes old new later is over heap first waiting durable failed txns stands log told fails slots =
        comes_same new front disk before later store
        (record {
          beside = record {
            first = first ∙ is.first;
            parts = record { stands = stands; log = log ∙ is.log ∙ ap (λ l. before ++ l) (sym waiting); durable_is = told ∙ is.durable_is ∙ sym durable; failed_is = fails ∙ is.failed_is ∙ sym failed };
          };
          pages = λ works.
              shows_same (heap_of new) (kept_in (txns_of new)) front disk (page_slots s) (page_slots later) (λ p there. slots p)
              (subst (λ x. Shows (kept_in x) (heap_of new) front disk (page_slots s)) (sym txns)
              (subst (λ (h : Heap V H). Shows (kept_in (txns_of old)) h front disk (page_slots s)) (sym heap) (is.pages (sym fails ∙ works))));
        })
        (over_as old new disk s later store heap log told fails over)
