-- Events of a manager append no record of a checkpoint, so what they do to its store a checkpointed one may do; and so is what a restart does.
use Rattle.std.proofs.Common.{◌≡◌, inl, inr, ⊎_elim, ◌++◌, ℕ, List, [], ◌∷◌, false, refl, sym, ap, subst, ◌∙◌, length, map, take, arith, append-nil, append_assoc}
use Rattle.std.specs.FinMap.{get}
use Rattle.std.specs.List.{AllByRecursion}
use Rattle.std.proofs.Math.Seq.{take-append_seam}
use Rattle.std.proofs.lemmas.List.{append_cancel_left}
use Rattle.std.proofs.lemmas.Bool.{ne_eqb}
use Rattle.shore_types.specs.declared.layout.Geometry.{Geometry}
use Rattle.shore_model.specs.declared.histories.Entry.{Entry}
use Rattle.shore_model.specs.declared.histories.Opening.{Opening}
use Rattle.shore_model.specs.declared.log_records.LogRecord.{LogRecord}
use Rattle.shore_model.specs.declared.log_records.Payload.{Payload}
use Rattle.shore_model.specs.declared.log_records.Payload.TheVariants as payload
use Rattle.shore_model.specs.Logs.{Lawful, MayFollow, is_of_checkpoint, previous_of}
use Rattle.laws_lives.proofs.UndoRecords.{lawful_front, undo_follows}
use Rattle.laws_lives.specs.Logged.{and_record}
use Rattle.laws_lives.specs.ManagerSteps.{IsWork, WorksTo}
use Rattle.laws_lives.specs.Recovery.{AppendRecord, FlushPage, ForceLog, LeadsTo, LosePower, RecoveryEvent, RecoveryState, RedoRecord}
use Rattle.laws_lives.specs.Restarts.{IsRestartStep, RestartsTo}
use Rattle.laws_lives.specs.SessionSteps.{SessionEvent}
use Rattle.laws_calls.proofs.Links.{ComesBy, GoesBy, Writes}
use Rattle.laws_calls.proofs.SettledComings.{session_event_comes}
use Rattle.laws_calls.specs.CallHistories.{IsPrefix}
use Rattle.laws_calls.specs.Events.{EventMoves, IsStateAfter, ManagerEvent, entries_of}
use Rattle.laws_calls.specs.States.{State}
use Rattle.laws_checkpoints.proofs.Orders.{order_kept}
use Rattle.laws_checkpoints.specs.CheckpointedStores.{CheckpointedLeadTo, CheckpointedLeadsTo, CheckpointedStore, IsBesideCheckpoints, StoreEvent}
use Rattle.laws_checkpoints.specs.RecoveryNumbers.{recovery_after}
use Rattle.laws_checkpoints.specs.StoresInOrder.{IsInOrder}
use Rattle.laws_runs.proofs.Running.{last_follows}
use Rattle.laws_runs.proofs.SplitWorks.{works_on}
use Rattle.laws_runs.specs.CheckpointSteps.{StoreWorks}
use Rattle.laws_runs.specs.CheckpointedStays.{LosesNoPower, RestartsBehind}

abbrev IsPlainRecord : LogRecord → Type 0
IsPlainRecord r = is_of_checkpoint r.payload ≡ false

-- the log goes on by records none of which is a checkpoint's
pub record GoesPlainly (log new : List LogRecord) : Type 0 where
  pub more : List LogRecord
  pub is : new ≡ log ++ more
  pub plain : AllByRecursion (λ r. is_of_checkpoint r.payload ≡ false) more

pub none_more : (log new : List LogRecord) → new ≡ log → GoesPlainly log new
none_more log new same = record { more = []; is = same ∙ sym (append-nil log); plain = tt }

one_more : (t : ℕ) (log : List LogRecord) (p : Payload) (new : List LogRecord) → new ≡ and_record t log p → is_of_checkpoint p ≡ false → GoesPlainly log new
one_more t log p new is plain = record { more = record { txn = t; previous = previous_of t log; payload = p } ∷ []; is = is; plain = (plain, tt) }

both_plain : (xs ys : List LogRecord) → AllByRecursion IsPlainRecord xs → AllByRecursion IsPlainRecord ys → AllByRecursion IsPlainRecord (xs ++ ys)
both_plain [] ys h k = k
both_plain (x ∷ xs) ys h k = (h.0, both_plain xs ys h.1 k)

then_more : (log mid new : List LogRecord) → GoesPlainly log mid → GoesPlainly mid new → GoesPlainly log new
then_more log mid new h k = record {
  more = h.more ++ k.more;
  is = k.is ∙ ap (λ rs. rs ++ k.more) h.is ∙ append_assoc log h.more k.more;
  plain = both_plain h.more k.more h.plain k.plain;
}

-- ---- events of a manager

writes_plainly : (g : Geometry) (s new : State) → Writes g s new → GoesPlainly s.log new.log
writes_plainly g s new (inl same) = none_more s.log new.log same.0
writes_plainly g s new (inr (inl h)) = one_more h.txn s.log payload.Commit new.log h.log refl
writes_plainly g s new (inr (inr (inl h))) = one_more h.txn s.log (payload.Change h.id (get s.sessions.records h.id) h.image) new.log h.log refl
writes_plainly g s new (inr (inr (inr (inl h)))) = one_more h.txn s.log payload.End new.log h.log refl
writes_plainly g s new (inr (inr (inr (inr (inl h))))) = one_more h.txn s.log (payload.Compensation h.id h.image h.next) new.log h.log refl
writes_plainly g s new (inr (inr (inr (inr (inr h))))) =
    one_more h.txn s.log h.says new.log h.log (⊎_elim (λ prepare. ap is_of_checkpoint prepare.2) (λ rollback. ap is_of_checkpoint rollback) h.decides)

by_plainly : (g : Geometry) (s : State) (events : List SessionEvent) (new : State) (made : List Entry) → GoesBy g s events new made → GoesPlainly s.log new.log
by_plainly g s [] new made h = none_more s.log new.log (ap (λ (x : State). x.log) h.0)
by_plainly g s (e ∷ events) new made h = then_more s.log h.0.log new.log (writes_plainly g s h.0 h.2.writes) (by_plainly g h.0 events new h.1 h.3)

comes_plainly : (g : Geometry) (s new : State) (made : List Entry) → ComesBy g s new made → GoesPlainly s.log new.log
comes_plainly g s new made h =
    let on = by_plainly g h.start h.events h.mid made h.goes in
    record { more = on.more; is = h.after.log ∙ on.is ∙ ap (λ rs. rs ++ on.more) h.before.log; plain = on.plain }

pub event_plainly : (g : Geometry) (o : Opening) (found : List LogRecord) (es : List Entry) (s new : State) (e : ManagerEvent) → IsStateAfter o found es s → EventMoves g s e new
    → GoesPlainly s.log new.log
event_plainly g o found es s new e k h = comes_plainly g s new (entries_of s e new) (session_event_comes g o found es s k new e h)

-- ---- work on the store

pub works_are_work : (s : RecoveryState) (works : List RecoveryEvent) (new : RecoveryState) → WorksTo s works new → AllByRecursion IsWork works
works_are_work s [] new h = tt
works_are_work s (e ∷ works) new h = (h.0, works_are_work h.1 works new h.3)

pub as_works : (s : CheckpointedStore) (works : List RecoveryEvent) (last : CheckpointedStore) → AllByRecursion IsWork works → StoreWorks s works last → WorksTo s.store works last.store
as_works s [] last are h = ap (λ (x : CheckpointedStore). x.store) h
as_works s (e ∷ works) last are h = (are.0, h.0, h.1, as_works (record s { store = h.0; recovery = recovery_after s.store e s.recovery }) works last are.1 h.2)

module _ (s : CheckpointedStore) (e : RecoveryEvent) (next : RecoveryState) (leads : LeadsTo s.store e next) where
  abbrev stepped : CheckpointedStore
  stepped = record s { store = next; recovery = recovery_after s.store e s.recovery }

  as_event : IsBesideCheckpoints s.store e → CheckpointedLeadsTo s (StoreEvent e) stepped
  as_event beside = (beside, next, leads, refl)

-- what comes behind the record in the longer log
record IsNextOf (log last : List LogRecord) (r : LogRecord) : Type 0 where
  follows : MayFollow log r
  plain : is_of_checkpoint r.payload ≡ false
  rest : GoesPlainly (log ++ r ∷ []) last

first_plain : (xs : List LogRecord) (r : LogRecord) (rest : List LogRecord) → xs ≡ r ∷ rest → AllByRecursion IsPlainRecord xs → AllByRecursion IsPlainRecord (r ∷ rest)
first_plain xs r rest same all = subst (AllByRecursion IsPlainRecord) same all

next_of : (log last : List LogRecord) (r : LogRecord) → IsPrefix (log ++ r ∷ []) last → Lawful last → GoesPlainly log last → IsNextOf log last r
next_of log last r on lawful h =
    let behind : last ≡ log ++ r ∷ on.0 = on.1 ∙ append_assoc log (r ∷ []) on.0 in
    let same : h.more ≡ r ∷ on.0 = append_cancel_left log h.more (r ∷ on.0) (sym h.is ∙ behind) in
    let all = first_plain h.more r on.0 same h.plain in
    let front : take (length (log ++ r ∷ [])) last ≡ log ++ r ∷ [] = ap (take (length (log ++ r ∷ []))) on.1 ∙ take-append_seam (log ++ r ∷ []) on.0 in
    record {
      follows = last_follows log r (subst Lawful front (lawful_front last (length (log ++ r ∷ [])) lawful));
      plain = all.0;
      rest = record { more = on.0; is = on.1; plain = all.1 };
    }

pub works_lead : (s : CheckpointedStore) (works : List RecoveryEvent) (last : CheckpointedStore) → AllByRecursion IsWork works → StoreWorks s works last → Lawful last.store.log
    → GoesPlainly s.store.log last.store.log → CheckpointedLeadTo s (map StoreEvent works) last
works_lead s [] last are h lawful plain = h
works_lead s (AppendRecord r ∷ works) last are h lawful plain =
    let grown : h.0.log ≡ s.store.log ++ r ∷ [] = ap (λ (x : RecoveryState). x.log) h.1.1 in
    let next = stepped s (AppendRecord r) h.0 h.1 in
    let on = (works_on h.0 works last.store (as_works next works last are.1 h.2)).on in
    let its = next_of s.store.log last.store.log r (subst (λ rs. IsPrefix rs last.store.log) grown on) lawful plain in
    (next, as_event s (AppendRecord r) h.0 h.1 (its.follows, its.plain), works_lead next works last are.1 h.2 lawful (subst (λ rs. GoesPlainly rs last.store.log) (sym grown) its.rest))
works_lead s (ForceLog n ∷ works) last are h lawful plain =
    let next = stepped s (ForceLog n) h.0 h.1 in
    (next, as_event s (ForceLog n) h.0 h.1 tt, works_lead next works last are.1 h.2 lawful (subst (λ rs. GoesPlainly rs last.store.log) (sym (ap (λ (x : RecoveryState). x.log) h.1.2)) plain))
works_lead s (FlushPage p ∷ works) last are h lawful plain =
    let next = stepped s (FlushPage p) h.0 h.1 in
    (next, as_event s (FlushPage p) h.0 h.1 tt, works_lead next works last are.1 h.2 lawful (subst (λ rs. GoesPlainly rs last.store.log) (sym (ap (λ (x : RecoveryState). x.log) h.1.1)) plain))
works_lead s (RedoRecord ∷ works) last are h lawful plain = absurd are.0
works_lead s (LosePower n left begin ∷ works) last are h lawful plain = absurd are.0

-- ---- restarts

beside : (s : RecoveryState) (e : RecoveryEvent) → IsRestartStep s e → LosesNoPower e → IsBesideCheckpoints s e
beside s (AppendRecord r) (t, loser, same) loses =
    let follows = undo_follows s.log t loser in
    let one = loser.is_one in
    (subst (MayFollow s.log) (sym same) follows, ap (λ (x : LogRecord). is_of_checkpoint x.payload) same ∙ follows.of ∙ ne_eqb t 0 (λ e. omega (arith, one, e)))
beside s RedoRecord restart loses = tt
beside s (ForceLog n) restart loses = tt
beside s (FlushPage p) restart loses = tt
beside s (LosePower n left begin) restart loses = loses

-- a restart behind an anchor is one of the whole log, and keeps the store in order and the anchor
pub record HasRestarted (s : CheckpointedStore) (events : List RecoveryEvent) (last : CheckpointedStore) : Type 0 where
  pub restarts : RestartsTo s.store events last.store
  pub in_order : IsInOrder last
  pub anchored : last.anchored ≡ s.anchored
  pub stage : last.stage ≡ s.stage

pub restart_goes : (s : CheckpointedStore) (events : List RecoveryEvent) (last : CheckpointedStore) → IsInOrder s → RestartsBehind s events last → HasRestarted s events last
restart_goes s [] last k h = record {
  restarts = ap (λ (x : CheckpointedStore). x.store) h;
  in_order = subst IsInOrder (sym h) k;
  anchored = ap (λ (x : CheckpointedStore). x.anchored) h;
  stage = ap (λ (x : CheckpointedStore). x.stage) h;
}
restart_goes s (e ∷ events) last k h =
    let next = stepped s e h.2 h.3 in
    let rest = restart_goes next events last (order_kept s (StoreEvent e) next k (as_event s e h.2 h.3 (beside s.store e h.0 h.1))) h.4 in
    record { restarts = (h.0, h.2, h.3, rest.restarts); in_order = rest.in_order; anchored = rest.anchored; stage = rest.stage }
