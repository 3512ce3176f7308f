-- Events one after another, and the events that are no step of a force.
use Rattle.std.proofs.Common.{◌≡◌, ◌≢◌, ◌⊎◌, ◌≤◌, inl, inr, ℕ, Bool, true, List, IfErr, [], ◌∷◌, ◌++◌, refl, sym, ◌∙◌, ap, subst, arith, append-nil, append_assoc}
use Rattle.std.specs.Prelude.{◌↔◌}
use Rattle.shore_types.specs.declared.faults.Fault.TheVariants.{Damaged, Failed, Memory, NeedForce}
use Rattle.shore_types.specs.declared.faults.Device.{Device}
use Rattle.shore_types.specs.declared.layout.Geometry.{Geometry}
use Rattle.shore_disk.specs.Device.{size}
use Rattle.shore_disk.specs.Cause.{HasCause}
use Rattle.shore_disk.specs.declared.device.Disk.{Ghosts}
use Rattle.laws_calls.proofs.SettledAtOnce.{at_once}
use Rattle.shore_model.specs.declared.calls.Answer.TheVariants.{IsDurable}
use Rattle.shore_model.specs.declared.step.Step.{Step}
use Rattle.shore_model.specs.declared.step.Step.TheVariants.{Done, Waits, Refused, Nothing}
use Rattle.shore_types.specs.declared.faults.Fault.{Fault}
use Rattle.shore_types.specs.declared.faults.Fault.TheVariants as fault
use Rattle.laws_calls.specs.States.{State}
use Rattle.shore_heap.specs.Heaps as heaps
use Rattle.shore_log.specs.declared.device.LogDev.{LogDev}
use Rattle.shore_log.specs.declared.tail.Tail as tail
use Rattle.shore_core.specs.declared.core_calls.Core.{Core}
use Rattle.shore_core.specs.Cores.{faults_of, heap_of}
use Rattle.shore_core.specs.Flushing.{FlushAnswers}
use Rattle.shore_core.specs.Replies.{Earns, NeedsForce, NeedsForceIn, SameVolume, fault_at}
use Rattle.shore_core.specs.Resumes.{NoneWaits}
use Rattle.shore_core.specs.Trails.{AnswersCut}
use Rattle.shore_fronts.specs.Causes.{HasCauseOfPair}
use Rattle.shore_world.specs.declared.event.Event.{Event}
use Rattle.shore_world.specs.declared.event.Event.TheVariants as event
use Rattle.shore_world.specs.declared.world.World.{World}
use Rattle.shore_world.specs.Events.{IsCall, IsNoCall, IsOfCheckpoint, IsOfForce, IsOfPages, ReadBy, force_needed_at}
use Rattle.shore_world.specs.EventMoves.{PlainMove, all_moves, moves_by}
use Rattle.shore_world.specs.Worlds.{EventStep, HasFlushed, IsLike, IsUnchanged, EventMovesWorld, Runs, Steps, durable_in, report_in}
use Rattle.shore_world.proofs.VolumeLemmas.{both_still, comes_unworked}

-- ---- a run of events

module _ {L V : Type 0} {G : Ghosts L} {H : Ghosts V} where
  pub like_itself : (w : World L V G H) → IsLike w w
  like_itself w = record {
    geometry = refl;
    state = λ log_front front disk s store at safe. comes_unworked w w refl refl refl refl log_front front disk s store at s at.is_in at.over at.log;
    any_moment = both_still w w refl refl;
    list = refl;
    durable = refl;
    failed = refl;
    history = refl;
    staged = refl;
    anchors = refl;
    stage = refl;
    report = refl;
    same = record { geometry = refl; honest = refl; size = refl };
    volume_faults = refl;
    kept = λ front k. k;
  }

  pub no_event : (w : World L V G H) → Runs w [] [] [] w
  no_event w = like_itself w

  pub one_more : (old : World L V G H) (es : List Event) (steps : List Step) (moves : List PlainMove) (mid : World L V G H) (e : Event) (step : Step) (new : World L V G H)
      → Runs old es steps moves mid → Steps mid e step new → Runs old (es ++ e ∷ []) (steps ++ step ∷ []) (moves ++ moves_by e step) new
  one_more old [] [] moves mid e step new runs one = (mid, new, moves, [], runs, one, like_itself new, ap (λ (l : List PlainMove). moves ++ l) (sym (append-nil (moves_by e step))))
  one_more old (first ∷ es) (s ∷ steps) moves mid e step new (start, next, failures, later, between, made, rest, is) one = (
    start,
    next,
    failures,
    later ++ moves_by e step,
    between,
    made,
    one_more next es steps later mid e step new rest one,
    ap (λ (l : List PlainMove). l ++ moves_by e step) is ∙ append_assoc failures (moves_by first s ++ later) (moves_by e step)
        ∙ ap (λ (l : List PlainMove). failures ++ l) (append_assoc (moves_by first s) later (moves_by e step)),
  )
  one_more old [] (s ∷ steps) moves mid e step new runs one = absurd runs
  one_more old (first ∷ es) [] moves mid e step new runs one = absurd runs

  -- the moves of the events alone, one event further
  pub all_further : (old : World L V G H) (es : List Event) (steps : List Step) (moves : List PlainMove) (mid : World L V G H) (e : Event) (step : Step)
      → Runs old es steps moves mid → all_moves (es ++ e ∷ []) (steps ++ step ∷ []) ≡ all_moves es steps ++ moves_by e step
  all_further old [] [] moves mid e step runs = append-nil (moves_by e step)
  all_further old (first ∷ es) (s ∷ steps) moves mid e step (start, next, failures, later, between, made, rest, is) =
      ap (λ (l : List PlainMove). moves_by first s ++ l) (all_further next es steps later mid e step rest) ∙ sym (append_assoc (moves_by first s) (all_moves es steps) (moves_by e step))
  all_further old [] (s ∷ steps) moves mid e step runs = absurd runs
  all_further old (first ∷ es) [] moves mid e step runs = absurd runs

-- ---- an event that is no step of a force

pub call_is_no_force : (e : Event) → IsCall e → IsOfPages e
call_is_no_force (event.Call session call) is = tt
call_is_no_force (event.Resume session) is = absurd is
call_is_no_force (event.GiveUp session) is = absurd is
call_is_no_force (event.Ask ticket) is = absurd is
call_is_no_force event.ForceStage is = absurd is
call_is_no_force event.ForceOpen is = absurd is
call_is_no_force event.FlushStep is = absurd is
call_is_no_force event.CheckpointStep is = absurd is
call_is_no_force event.CutTrail is = absurd is

of_both : (e : Event) → IsOfPages e → IsOfForce e → ⊥
of_both (event.Call session call) one other = other
of_both (event.Resume session) one other = other
of_both (event.GiveUp session) one other = other
of_both (event.Ask ticket) one other = other
of_both event.ForceStage one other = one
of_both event.ForceOpen one other = one
of_both event.FlushStep one other = other
of_both event.CheckpointStep one other = one
of_both event.CutTrail one other = other

pub pages_are_no_checkpoint : (e : Event) → IsOfPages e → IsOfCheckpoint e → ⊥
pages_are_no_checkpoint (event.Call session call) one other = other
pages_are_no_checkpoint (event.Resume session) one other = other
pages_are_no_checkpoint (event.GiveUp session) one other = other
pages_are_no_checkpoint (event.Ask ticket) one other = other
pages_are_no_checkpoint event.ForceStage one other = other
pages_are_no_checkpoint event.ForceOpen one other = other
pages_are_no_checkpoint event.FlushStep one other = other
pages_are_no_checkpoint event.CheckpointStep one other = one
pages_are_no_checkpoint event.CutTrail one other = other

-- an event that calls the volume at most is no step of a force or of a checkpoint
pub of_pages_alone : (e : Event) → IsOfPages e → IsOfForce e ⊎ IsOfCheckpoint e → ⊥
of_pages_alone e pages (inl force) = of_both e pages force
of_pages_alone e pages (inr checkpoint) = pages_are_no_checkpoint e pages checkpoint

pub call_is_no_flush : (e : Event) → IsCall e → e ≡ event.FlushStep → ⊥
call_is_no_flush e call is = subst IsCall is call

pub call_is_no_own_step : (e : Event) → IsCall e → IsNoCall e → ⊥
call_is_no_own_step (event.Call session call) is other = other
call_is_no_own_step (event.Resume session) is other = is
call_is_no_own_step (event.GiveUp session) is other = is
call_is_no_own_step (event.Ask ticket) is other = is
call_is_no_own_step event.ForceStage is other = is
call_is_no_own_step event.ForceOpen is other = is
call_is_no_own_step event.FlushStep is other = is
call_is_no_own_step event.CheckpointStep is other = is
call_is_no_own_step event.CutTrail is other = is

pub call_is_no_resume : (e : Event) (session : ℕ) → IsCall e → e ≡ event.Resume session → ⊥
call_is_no_resume e session call is = subst IsCall is call

pub call_is_no_ask : (e : Event) (ticket : ℕ) → IsCall e → e ≡ event.Ask ticket → ⊥
call_is_no_ask e ticket call is = subst IsCall is call

pub give_up_is_no_ask : (session ticket : ℕ) → event.GiveUp session ≡ event.Ask ticket → ⊥
give_up_is_no_ask session ticket is = absurd cc

pub resume_is_no_ask : (session ticket : ℕ) → event.Resume session ≡ event.Ask ticket → ⊥
resume_is_no_ask session ticket is = absurd cc

pub force_is_no_ask : (e : Event) (ticket : ℕ) → IsOfForce e → e ≡ event.Ask ticket → ⊥
force_is_no_ask e ticket force is = subst IsOfForce is force

pub flush_is_no_ask : (ticket : ℕ) → event.FlushStep ≡ event.Ask ticket → ⊥
flush_is_no_ask ticket is = absurd cc

pub own_is_no_resume : (e : Event) (session : ℕ) → IsNoCall e → e ≡ event.Resume session → ⊥
own_is_no_resume e session own is = subst IsNoCall is own

-- a resume of one session is none of another
pub same_session : (n session : ℕ) → event.Resume n ≡ event.Resume session → n ≡ session
same_session n session is = cc

pub open_is_no_stage : event.ForceOpen ≡ event.ForceStage → ⊥
open_is_no_stage is = absurd cc

pub stage_is_no_open : event.ForceStage ≡ event.ForceOpen → ⊥
stage_is_no_open is = absurd cc

pub resume_is_no_flush : (session : ℕ) → event.Resume session ≡ event.FlushStep → ⊥
resume_is_no_flush session is = absurd cc

pub give_up_is_no_flush : (session : ℕ) → event.GiveUp session ≡ event.FlushStep → ⊥
give_up_is_no_flush session is = absurd cc

pub checkpoint_is_no_stage : event.CheckpointStep ≡ event.ForceStage → ⊥
checkpoint_is_no_stage is = absurd cc

pub checkpoint_is_no_open : event.CheckpointStep ≡ event.ForceOpen → ⊥
checkpoint_is_no_open is = absurd cc

pub checkpoint_is_no_flush : event.CheckpointStep ≡ event.FlushStep → ⊥
checkpoint_is_no_flush is = absurd cc

pub checkpoint_is_no_ask : (ticket : ℕ) → event.CheckpointStep ≡ event.Ask ticket → ⊥
checkpoint_is_no_ask ticket is = absurd cc

pub stage_is_no_flush : event.ForceStage ≡ event.FlushStep → ⊥
stage_is_no_flush is = absurd cc

pub ask_is_no_flush : (ticket : ℕ) → event.Ask ticket ≡ event.FlushStep → ⊥
ask_is_no_flush ticket is = absurd cc

-- an ask for one ticket is none for another
pub same_ticket : (n ticket : ℕ) → event.Ask n ≡ event.Ask ticket → n ≡ ticket
same_ticket n ticket is = cc

pub open_is_no_flush : event.ForceOpen ≡ event.FlushStep → ⊥
open_is_no_flush is = absurd cc

pub flush_is_no_stage : event.FlushStep ≡ event.ForceStage → ⊥
flush_is_no_stage is = absurd cc

pub call_is_no_cut : (e : Event) → IsCall e → e ≡ event.CutTrail → ⊥
call_is_no_cut e call is = subst IsCall is call

pub other_is_no_cut : (e : Event) → IsOfForce e ⊎ IsOfCheckpoint e → e ≡ event.CutTrail → ⊥
other_is_no_cut e (inl force) is = subst IsOfForce is force
other_is_no_cut e (inr checkpoint) is = subst IsOfCheckpoint is checkpoint

pub resume_is_no_cut : (session : ℕ) → event.Resume session ≡ event.CutTrail → ⊥
resume_is_no_cut session is = absurd cc

pub give_up_is_no_cut : (session : ℕ) → event.GiveUp session ≡ event.CutTrail → ⊥
give_up_is_no_cut session is = absurd cc

pub flush_is_no_cut : event.FlushStep ≡ event.CutTrail → ⊥
flush_is_no_cut is = absurd cc

pub ask_is_no_cut : (ticket : ℕ) → event.Ask ticket ≡ event.CutTrail → ⊥
ask_is_no_cut ticket is = absurd cc

pub cut_is_no_flush : event.CutTrail ≡ event.FlushStep → ⊥
cut_is_no_flush is = absurd cc

pub cut_is_no_ask : (ticket : ℕ) → event.CutTrail ≡ event.Ask ticket → ⊥
cut_is_no_ask ticket is = absurd cc

-- a cause that lies at the volume
pub volume_cause : (step : Step) (log log_now volume volume_now : ℕ) → log_now ≡ log → HasCause (fault_at step) volume volume_now → HasCauseOfPair (fault_at step) log log_now volume volume_now
volume_cause step log log_now volume volume_now same cause = record {
  log_no_lower = omega (arith, same);
  volume_no_lower = cause.no_lower;
  reported = λ is. inr (cause.reported is);
  unreported = λ other. (same, cause.unreported other);
}

-- .. or at the log device
pub log_cause : (step : Step) (log log_now volume volume_now : ℕ) → volume_now ≡ volume → HasCause (fault_at step) log log_now → HasCauseOfPair (fault_at step) log log_now volume volume_now
log_cause step log log_now volume volume_now same cause = record {
  log_no_lower = cause.no_lower;
  volume_no_lower = omega (arith, same);
  reported = λ is. inl (cause.reported is);
  unreported = λ other. (cause.unreported other, same);
}

-- one for which the log device stands still
pub no_force : {L V : Type 0} {G : Ghosts L} {H : Ghosts V} (old new : World L V G H) (e : Event) (step : Step) → IsOfPages e → new.log ≡ old.log
    → report_in new ≡ report_in old → EventMovesWorld old e step new → SameVolume old.core new.core → (e ≡ event.FlushStep → HasFlushed old step new)
    → Earns old.core (ReadBy old.core e) (fault_at step) → NeedsForceIn old.core (force_needed_at e old.core new.core) (fault_at step)
    → HasCause (fault_at step) (faults_of old.core) (faults_of new.core) → (IsNoCall e → step ≡ Nothing → IsUnchanged old new)
    → ((session : ℕ) → e ≡ event.Resume session → NoneWaits old.core session → (step ≡ Nothing) × IsUnchanged old new)
    → ((ticket : ℕ) → e ≡ event.Ask ticket → (answer : Bool) × (step ≡ Done (IsDurable answer)) × ((answer ≡ true) ↔ (ticket ≤ durable_in old)) × IsUnchanged old new)
    → (e ≡ event.CutTrail → AnswersCut old.core step × IsUnchanged old new) → Steps old e step new
no_force {L = L} {G = G} old new e step other log report moves same flushed earned unforced cause quiet none asked cut = record {
  moves = moves;
  still = λ is. ap (λ (l : LogDev L G). l.device) log;
  volume = λ is. absurd (of_pages_alone e other is);
  unmoved = λ is. inl log;
  anchors = inl (ap (λ (l : LogDev L G). l.anchors) log);
  same = same;
  staged = λ n is done. absurd (subst IsOfPages is other);
  forced = λ n is done. absurd (subst IsOfPages is other);
  idle = λ is nothing. absurd (subst IsOfPages is other);
  shut = λ is nothing. absurd (subst IsOfPages is other);
  quiet = quiet;
  none = none;
  asked = asked;
  cut = cut;
  full = λ is refused room. subst IsOfPages is other;
  flushed = flushed;
  moved = λ is done. absurd (of_pages_alone e other (inr is));
  full_begin = λ is refused. absurd (of_pages_alone e other (inr is));
  roomy_begin = λ n is done. absurd (of_pages_alone e other (inr is));
  no_memory = λ is. absurd (of_pages_alone e other (inr is));
  force_no_memory = λ is. absurd (of_pages_alone e other (inl is));
  report = report;
  damaged = earned;
  unforced = unforced;
  cause = volume_cause step (G.faults old.log.device) (G.faults new.log.device) (faults_of old.core) (faults_of new.core) (ap (λ (l : LogDev L G). G.faults l.device) log) cause;
}

-- an event that could not be copied is refused, and nothing has changed
pub not_copied : (g : Geometry) (s : State) (e : Event) → IsCall e → EventStep g s e (Refused Memory) s
not_copied g s (event.Call session call) is = at_once g s session call (Refused Memory) s (inl (refl, refl)) tt
not_copied g s (event.Resume session) is = absurd is
not_copied g s (event.GiveUp session) is = absurd is
not_copied g s (event.Ask ticket) is = absurd is
not_copied g s event.ForceStage is = absurd is
not_copied g s event.ForceOpen is = absurd is
not_copied g s event.FlushStep is = absurd is
not_copied g s event.CheckpointStep is = absurd is
not_copied g s event.CutTrail is = absurd is

-- nothing is reported of a failed allocation
pub memory_cause : (n : ℕ) → HasCause (fault_at (Refused Memory)) n n
memory_cause n = record { no_lower = omega arith; reported = λ is. absurd cc; unreported = λ other. refl }

-- nothing is said of a device by these
pub memory_says_nothing : {L V : Type 0} {G : Ghosts L} {H : Ghosts V} (w : World L V G H) (e : Event) → Earns w.core (ReadBy w.core e) (fault_at (Refused Memory))
memory_says_nothing w e front disk holds d offset is = absurd cc

pub memory_asks_nothing : {L V : Type 0} {G : Ghosts L} {H : Ghosts V} (w : World L V G H) (e : Event) → NeedsForceIn w.core (force_needed_at e w.core w.core) (fault_at (Refused Memory))
memory_asks_nothing w e front disk holds n is = absurd cc

-- the faults that a flush may have name no page, and ask for no force
abbrev pub IsOfFlush : Fault → Type 0
IsOfFlush f = (f ≡ fault.Failed) ⊎ (f ≡ fault.Device)

of_flush_is_no_damage : (f : Fault) (d : Device) (offset : ℕ) → IsOfFlush f → f ≡ Damaged d offset → ⊥
of_flush_is_no_damage f d offset (inl failed) is = let clash : Failed ≡ Damaged d offset = sym failed ∙ is in absurd cc
of_flush_is_no_damage f d offset (inr device) is = let clash : fault.Device ≡ Damaged d offset = sym device ∙ is in absurd cc

of_flush_asks_nothing : (f : Fault) (n : ℕ) → IsOfFlush f → f ≡ NeedForce n → ⊥
of_flush_asks_nothing f n (inl failed) is = let clash : Failed ≡ NeedForce n = sym failed ∙ is in absurd cc
of_flush_asks_nothing f n (inr device) is = let clash : fault.Device ≡ NeedForce n = sym device ∙ is in absurd cc

pub flush_says_nothing : {L V : Type 0} {G : Ghosts L} {H : Ghosts V} (w : World L V G H) (e : Event) (step : Step) → IfErr (fault_at step) IsOfFlush → Earns w.core (ReadBy w.core e) (fault_at step)
flush_says_nothing w e (Refused f) of_flush = λ front disk holds d offset is. absurd (of_flush_is_no_damage f d offset of_flush is)
flush_says_nothing w e (Done answer) of_flush = λ front disk holds. tt
flush_says_nothing w e (Waits wait) of_flush = λ front disk holds. tt
flush_says_nothing w e Nothing of_flush = λ front disk holds. tt

pub flush_asks_nothing : {L V : Type 0} {G : Ghosts L} {H : Ghosts V} (w : World L V G H) (step : Step) → IfErr (fault_at step) IsOfFlush → NeedsForce w.core (fault_at step)
flush_asks_nothing w (Refused f) of_flush = λ front disk holds n is. absurd (of_flush_asks_nothing f n of_flush is)
flush_asks_nothing w (Done answer) of_flush = λ front disk holds. tt
flush_asks_nothing w (Waits wait) of_flush = λ front disk holds. tt
flush_asks_nothing w Nothing of_flush = λ front disk holds. tt

pub flush_faults : {T V : Type 0} {G : tail.Ghosts T} {H : Ghosts V} (old new : Core T V G H) (step : Step) → FlushAnswers old step new → IfErr (fault_at step) IsOfFlush
flush_faults old new (Done answer) answers = tt
flush_faults old new (Waits wait) answers = tt
flush_faults old new (Refused f) (inl failed, frames) = inl failed.1
flush_faults old new (Refused f) (inr other, frames) = inr other
flush_faults old new Nothing answers = tt

-- .. nor does one lack memory
pub flush_no_memory : (step : Step) → IfErr (fault_at step) IsOfFlush → step ≢ Refused Memory
flush_no_memory step of_flush is = lacks (subst (λ (x : Step). IfErr (fault_at x) IsOfFlush) is of_flush)
  where
    lacks : IsOfFlush Memory → ⊥
    lacks (inl failed) = cc
    lacks (inr device) = cc

-- the volume of a core whose heap is the same
pub same_volume : {T V : Type 0} {G : tail.Ghosts T} {H : Ghosts V} (old new : Core T V G H) → heap_of new ≡ heap_of old → SameVolume old new
same_volume old new same = record {
  geometry = ap heaps.geometry_of same;
  honest = ap heaps.honesty_of same;
  size = ap (λ h. size (heaps.history_of h)) same;
}
