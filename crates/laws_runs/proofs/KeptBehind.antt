-- A restart that knows the kept records alone is one behind the anchor, of the whole log.
use Rattle.std.proofs.Common.{◌≡◌, ◌+◌, List, [], ◌∷◌, refl, sym, ap, subst, ◌∙◌, length}
use Rattle.std.specs.List.{AllByRecursion}
use Rattle.laws_lives.specs.Recovery.{AppendRecord, FlushPage, ForceLog, LosePower, RecoveryEvent, RecoveryState, RedoRecord}
use Rattle.laws_lives.specs.Restarts.{RestartsTo}
use Rattle.laws_lives.specs.Undo.{HasNoLosers}
use Rattle.laws_checkpoints.proofs.Kept.{losers_kept}
use Rattle.laws_checkpoints.proofs.KeptOrders.{beside, goes_in_order}
use Rattle.laws_checkpoints.proofs.KeptRestarts.{one_step, whole_length}
use Rattle.laws_checkpoints.proofs.Orders.{order_kept}
use Rattle.laws_checkpoints.specs.Checkpoints.{cut_of}
use Rattle.laws_checkpoints.specs.CheckpointedStores.{CheckpointedLeadsTo, CheckpointedStore, StoreEvent}
use Rattle.laws_checkpoints.specs.KeptLogs.{KeepsNoLosers}
use Rattle.laws_checkpoints.specs.KeptRestarts.{KeptLeadTo, KeptLeadsTo, KeptStore, seen_behind}
use Rattle.laws_checkpoints.specs.RecoveryNumbers.{recovery_after}
use Rattle.laws_checkpoints.specs.StoresInOrder.{IsInOrder}
use Rattle.laws_runs.specs.CheckpointedStays.{LosesNoPower, RestartsBehind}

loses_none : (k : KeptStore) (e : RecoveryEvent) (new : KeptStore) → KeptLeadsTo k e new → LosesNoPower e
loses_none k (AppendRecord r) new h = tt
loses_none k RedoRecord new h = tt
loses_none k (ForceLog n) new h = tt
loses_none k (FlushPage p) new h = tt
loses_none k (LosePower n left begin) new h = h

pub record IsSeenRestart (s : CheckpointedStore) (events : List RecoveryEvent) (last : KeptStore) : Type 0 where
  pub whole : CheckpointedStore
  pub restarts : RestartsBehind s events whole
  pub seen : last ≡ seen_behind (cut_of s.anchored) whole.store
  pub in_order : IsInOrder whole
  pub anchored : whole.anchored ≡ s.anchored

pub seen_restart : (s : CheckpointedStore) → IsInOrder s → (events : List RecoveryEvent) (last : KeptStore) → KeptLeadTo (seen_behind (cut_of s.anchored) s.store) events last
    → IsSeenRestart s events last
seen_restart s k [] last h = record { whole = s; restarts = refl; seen = h; in_order = k; anchored = refl }
seen_restart s k (e ∷ events) last h =
    let one = one_step (cut_of s.anchored) s.store (goes_in_order s k) e h.0 h.1 in
    let next : CheckpointedStore = record s { store = one.next; recovery = recovery_after s.store e s.recovery } in
    let leads : CheckpointedLeadsTo s (StoreEvent e) next = (beside s.store e (cut_of s.anchored) h.0 h.1 one.restart, one.next, one.leads, refl) in
    let rest = seen_restart next (order_kept s (StoreEvent e) next k leads) events last (subst (λ x. KeptLeadTo x events last) one.seen h.2) in
    record {
      whole = rest.whole;
      restarts = (one.restart, loses_none (seen_behind (cut_of s.anchored) s.store) e h.0 h.1, one.next, one.leads, rest.restarts);
      seen = rest.seen;
      in_order = rest.in_order;
      anchored = rest.anchored;
    }

-- once all that is kept is redone and has no loser, so it is with the whole log
module _ (s : CheckpointedStore) (events : List RecoveryEvent) (last : KeptStore) (h : IsSeenRestart s events last) where
  seen_whole : last ≡ seen_behind (cut_of h.whole.anchored) h.whole.store
  seen_whole = h.seen ∙ ap (λ a. seen_behind (cut_of a) h.whole.store) (sym h.anchored)

  pub all_redone : last.redone ≡ last.cut + length last.kept → h.whole.store.redone ≡ length h.whole.store.log
  all_redone done =
      sym (ap (λ (x : KeptStore). x.redone) seen_whole) ∙ done ∙ ap (λ (x : KeptStore). x.cut + length x.kept) seen_whole
      ∙ whole_length (cut_of h.whole.anchored) h.whole.store (goes_in_order h.whole h.in_order)

  pub nobody_lost : KeepsNoLosers last.cut last.kept → HasNoLosers h.whole.store.log
  nobody_lost none t loser =
      let goes = goes_in_order h.whole h.in_order in
      subst (λ (x : KeptStore). KeepsNoLosers x.cut x.kept) seen_whole none t (losers_kept h.whole.store.log goes.lawful h.whole.store.volume (cut_of h.whole.anchored) goes.may t loser)

-- ---- a restart of the whole log

-- what a restart does to log and pages says what becomes of the recovery numbers
pub restart_noted : (s : CheckpointedStore) (works : List RecoveryEvent) (last : RecoveryState) → RestartsTo s.store works last → AllByRecursion LosesNoPower works
    → (whole : CheckpointedStore) × RestartsBehind s works whole × (whole.store ≡ last)
restart_noted s [] last h none = (s, refl, sym h)
restart_noted s (e ∷ works) last h none =
    let rest = restart_noted (record s { store = h.1; recovery = recovery_after s.store e s.recovery }) works last h.3 none.1 in
    (rest.0, (h.0, none.0, h.1, h.2, rest.1), rest.2)
