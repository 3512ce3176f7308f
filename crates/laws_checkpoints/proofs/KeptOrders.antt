-- A restart that knows the kept records alone keeps a checkpointed store in order, and shows in the end what the whole log told.
use Rattle.std.proofs.Common.{◌≡◌, ◌≤◌, ◌+◌, ℕ, List, [], ◌∷◌, refl, sym, ap, subst, ◌∙◌, length, map, take, arith}
use Rattle.std.specs.FinMap.{get}
use Rattle.std.proofs.lemmas.Bool.{ne_eqb}
use Rattle.shore_types.specs.declared.ids.PageId.{PageId}
use Rattle.shore_model.specs.declared.log_records.LogRecord.{LogRecord}
use Rattle.shore_model.specs.Logs.{MayFollow, is_of_checkpoint, records_told}
use Rattle.laws_lives.specs.Pages.{LoggedPages, rid_on}
use Rattle.laws_lives.specs.Recovery.{AppendRecord, CrashMayLeave, FlushPage, ForceLog, LosePower, RecoveryEvent, RecoveryState, RedoRecord, after_crash}
use Rattle.laws_lives.specs.Restarts.{IsRestartStep}
use Rattle.laws_lives.specs.Undo.{HasNoLosers}
use Rattle.laws_lives.proofs.Restarts.{crash_then_restart}
use Rattle.laws_lives.proofs.UndoRecords.{undo_follows}
use Rattle.laws_checkpoints.specs.CheckpointedStores.{CheckpointedLeadTo, CheckpointedLeadsTo, CheckpointedStore, IsBesideCheckpoints, StoreEvent}
use Rattle.laws_checkpoints.specs.Checkpoints.{cut_of}
use Rattle.laws_checkpoints.specs.KeptLogs.{KeepsNoLosers}
use Rattle.laws_checkpoints.specs.KeptRestarts.{KeptLeadTo, KeptLeadsTo, KeptStore, seen_behind}
use Rattle.laws_checkpoints.specs.RecoveryNumbers.{recovery_after}
use Rattle.laws_checkpoints.specs.StoresInOrder.{IsInOrder}
use Rattle.laws_checkpoints.proofs.CheckpointSteps.{cut_now}
use Rattle.laws_checkpoints.proofs.Crashes.{begin_at, crashed, lacks_none, order_crashed}
use Rattle.laws_checkpoints.proofs.Kept.{losers_kept}
use Rattle.laws_checkpoints.proofs.KeptRestarts.{Goes, all_steps, one_step, whole_length}
use Rattle.laws_checkpoints.proofs.Orders.{order_kept}

pub goes_in_order : (s : CheckpointedStore) → IsInOrder s → Goes (cut_of s.anchored) s.store
goes_in_order s k = record { recoverable = k.recoverable; lawful = k.lawful; may = cut_now s k; behind = k.redone }

-- what a restart does is beside checkpoints
pub beside : (s : RecoveryState) (e : RecoveryEvent) (cut : ℕ) (new : KeptStore) → KeptLeadsTo (seen_behind cut s) e new → IsRestartStep s e → IsBesideCheckpoints s e
beside s (AppendRecord r) cut new h (t, loser, same) =
    let follows = undo_follows s.log t loser in
    let one = loser.is_one in
    (subst (MayFollow s.log) (sym same) follows, ap (λ (x : LogRecord). is_of_checkpoint x.payload) same ∙ follows.of ∙ ne_eqb t 0 (λ e. omega arith))
beside s RedoRecord cut new h restart = tt
beside s (ForceLog n) cut new h restart = tt
beside s (FlushPage p) cut new h restart = tt
beside s (LosePower n left begin) cut new h restart = h

-- the steps of the checkpointed store that those over the kept records are
pub record IsRestarted (s : CheckpointedStore) (events : List RecoveryEvent) (last : KeptStore) : Type 0 where
  pub whole : CheckpointedStore
  pub leads : CheckpointedLeadTo s (map StoreEvent events) whole
  pub anchored : whole.anchored ≡ s.anchored
  pub seen : last ≡ seen_behind (cut_of whole.anchored) whole.store
  pub in_order : IsInOrder whole

pub restarted : (s : CheckpointedStore) (events : List RecoveryEvent) (last : KeptStore) → IsInOrder s → KeptLeadTo (seen_behind (cut_of s.anchored) s.store) events last → IsRestarted s events last
restarted s [] last k h = record { whole = s; leads = refl; anchored = refl; seen = h; in_order = k }
restarted s (e ∷ events) last k h =
    let one = one_step (cut_of s.anchored) s.store (goes_in_order s k) e h.0 h.1 in
    let next : CheckpointedStore = record s { store = one.next; recovery = recovery_after s.store e s.recovery } in
    let leads : CheckpointedLeadsTo s (StoreEvent e) next = (beside s.store e (cut_of s.anchored) h.0 h.1 one.restart, one.next, one.leads, refl) in
    let rest = restarted next events last (order_kept s (StoreEvent e) next k leads) (subst (λ x. KeptLeadTo x events last) one.seen h.2) in
    record { whole = rest.whole; leads = (next, leads, rest.leads); anchored = rest.anchored; seen = rest.seen; in_order = rest.in_order }

-- after a crash
pub shows_all : (s : CheckpointedStore) (k : IsInOrder s) (n : ℕ) (left : LoggedPages) (more : s.store.durable ≤ n) (most : n ≤ length s.store.log) (may : CrashMayLeave s.store left)
    → (events : List RecoveryEvent) (last : KeptStore) → KeptLeadTo (seen_behind (cut_of s.anchored) (after_crash s.store n left (begin_at s k n left more most may))) events last
    → last.redone ≡ last.cut + length last.kept → KeepsNoLosers last.cut last.kept
    → (p : PageId) (i : ℕ) → (last.in_place p).slots i ≡ get (records_told (take n s.store.log)) (rid_on p i)
shows_all s k n left more most may events last h done none p i =
    let cut = cut_of s.anchored in
    let after = order_crashed s k n left more most may in
    let w = all_steps cut (crashed s k n left more most may).store events last (goes_in_order (crashed s k n left more most may) after) h in
    let redone : w.whole.redone ≡ length w.whole.log =
    sym (ap (λ (x : KeptStore). x.redone) w.seen) ∙ done ∙ ap (λ (x : KeptStore). x.cut + length x.kept) w.seen ∙ whole_length cut w.whole w.goes in
    let nobody : HasNoLosers w.whole.log =
    λ t loser. subst (λ (x : KeptStore). KeepsNoLosers x.cut x.kept) w.seen none t (losers_kept w.whole.log w.goes.lawful w.whole.volume cut w.goes.may t loser) in
    ap (λ (x : KeptStore). (x.in_place p).slots i) w.seen
    ∙ crash_then_restart s.store n left (begin_at s k n left more most may) events w.whole k.recoverable k.lawful (more, most, may, lacks_none s k n left more most may) w.restarts redone nobody p i
