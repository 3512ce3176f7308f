-- What is so when power is lost, between two events or in the midst of one, and what any crash then keeps.
use Rattle.std.proofs.Common.{◌≡◌, ◌≤◌, inl, inr, ◌++◌, ℕ, zero, suc, List, [], ◌∷◌, refl, sym, ap, subst, ◌∙◌, length, take, arith, append-nil, length-append}
use Rattle.std.specs.Prelude.{Contains}
use Rattle.std.proofs.Math.Seq.{take-append_seam}
use Rattle.std.proofs.lemmas.List.{take-append-le}
use Rattle.std.proofs.lemmas.List.Elements.{All-from_recursion}
use Rattle.shore_model.specs.declared.histories.Opening.{Opening}
use Rattle.shore_model.specs.declared.histories.Entry.{Entry}
use Rattle.shore_model.specs.Histories.{Kept, acknowledged, decisions}
use Rattle.shore_model.specs.Logs.{Lawful}
use Rattle.laws_lives.proofs.UndoRecords.{lawful_front}
use Rattle.laws_lives.specs.Recovery.{IsRecoverable, RecoveryState}
use Rattle.laws_lives.proofs.Lists.{among_contained, recursion-weaker}
use Rattle.laws_lives.proofs.LogDecisions.{event_midst}
use Rattle.laws_lives.proofs.LogPrefixes.{decisions_in-take}
use Rattle.laws_lives.specs.LogPrefixes.{PrefixesTell, TellsItsDecisions, decisions_in}
use Rattle.laws_lives.specs.Logged.{log_after}
use Rattle.laws_lives.specs.Soundness.{written_by}
use Rattle.laws_lives.specs.Views.{IsAmong}
use Rattle.laws_lives.proofs.Acknowledged.{still_decided}
use Rattle.laws_lives.proofs.AtWork.{AcknowledgedAreDurable, IsAtWork, durable_after_work}
use Rattle.laws_lives.proofs.Tickets.{still_tickets}
use Rattle.laws_lives.proofs.WholeSteps.{event_stays_whole}
use Rattle.laws_lives.proofs.Works.{all_work}
use Rattle.laws_lives.specs.ManagerSteps.{ManagerState}
use Rattle.laws_lives.specs.Stretches.{IsInMidst, MayFailAs}
use Rattle.laws_lives.specs.Tickets.{AreTickets}

pub record MayLosePower (base : ℕ) (o : Opening) (es : List Entry) (s : RecoveryState) : Type 0 where
  pub lawful : Lawful s.log
  pub recoverable : IsRecoverable s
  pub durable : base ≤ s.durable
  pub prefixes : PrefixesTell base o (written_by o es) s.log
  -- each prefix has a prefix of the decisions
  pub decided : (n : ℕ) → (m : ℕ) × (decisions_in base (take n s.log) ≡ take m (decisions es))
  pub acknowledged : AcknowledgedAreDurable base es s
  pub tickets : AreTickets base s.log es

pub crash_keeps : (base : ℕ) (o : Opening) (es : List Entry) (s : RecoveryState) → MayLosePower base o es s → (n : ℕ) → s.durable ≤ n → n ≤ length s.log
    → Kept es (decisions_in base (take n s.log)) × TellsItsDecisions base o (written_by o es) (take n s.log)
crash_keeps base o es s k n least most =
    let log = s.log in
    let durable = k.durable in (
      record {
        beginning = k.decided n;
        acknowledged_kept = All-from_recursion (Contains (decisions_in base (take n log))) (acknowledged es)
            (recursion-weaker (λ d. IsAmong d (decisions_in base (take s.durable log))) (Contains (decisions_in base (take n log)))
            (λ d there. among_contained d (decisions_in base (take n log))
            (subst (λ rs. IsAmong d (decisions_in base (take n rs))) (append-nil log) (still_decided base s.durable n log [] d least k.recoverable.durable there)))
            (acknowledged es) k.acknowledged);
      },
      k.prefixes n (omega arith) most,
    )

take_of_take : {A : Type 0} (m n : ℕ) (xs : List A) → (k : ℕ) × (take m (take n xs) ≡ take k xs)
take_of_take zero n xs = (0, refl)
take_of_take (suc m) zero xs = (0, refl)
take_of_take (suc m) (suc n) [] = (0, refl)
take_of_take (suc m) (suc n) (x ∷ xs) = let rest = take_of_take m n xs in (suc rest.0, ap (λ ys. x ∷ ys) rest.1)

module _ (base floor : ℕ) (o : Opening) (es : List Entry) (m : ManagerState) (k : IsAtWork base floor o es m) where
  pub between_events : MayLosePower base o es m.store
  between_events = record {
    lawful = k.sessions.whole.lawful;
    recoverable = k.recoverable;
    durable = k.durable;
    prefixes = k.decides.prefixes;
    decided = λ n. let front = decisions_in-take base n m.store.log in (front.0, front.1 ∙ ap (take front.0) (sym k.decides.all));
    acknowledged = k.acknowledged;
    tickets = k.tickets;
  }

  in_the_midst : (failing : RecoveryState) → IsInMidst m failing → MayLosePower base o es failing
  in_the_midst failing h =
      let w = all_work m.store h.works failing k.recoverable k.redone h.work in
      let log = failing.log in
      let all = log_after m.store.log m.sessions h.event in
      let whole = event_stays_whole o es m.sessions h.next h.event m.store.log k.sessions.sound k.sessions.logged k.sessions.tracks k.sessions.whole h.steps in
      let midst = event_midst base o es m.sessions h.next h.event m.store.log k.sessions.sound k.sessions.agree k.sessions.logged k.sessions.tracks k.decides h.steps h.decides in
      let is_prefix : take (length log) all ≡ log = ap (take (length log)) h.goes_on ∙ take-append_seam log h.missing in
      let same_prefix : (n : ℕ) → n ≤ length log → take n all ≡ take n log = λ n within. ap (take n) h.goes_on ∙ take-append-le n log h.missing within in
      let longer = length-append log h.missing in
      let long : length all ≡ length (log ++ h.missing) = ap length h.goes_on in
      let least = k.durable in
      let more = w.durable in
      record {
        lawful = subst Lawful is_prefix (lawful_front all (length log) whole.lawful);
        recoverable = w.recoverable;
        durable = omega arith;
        prefixes = λ n at_least within. subst (TellsItsDecisions base o (written_by o es)) (same_prefix n within) (midst.prefixes n at_least (omega arith));
        decided = λ n.
            let first = decisions_in-take base n (take (length log) all) in
            let there = decisions_in-take base (length log) all in
            let both = take_of_take first.0 there.0 (decisions_in base all) in (
              both.0,
              ap (λ rs. decisions_in base (take n rs)) (sym is_prefix) ∙ first.1 ∙ ap (take first.0) there.1 ∙ both.1 ∙ ap (take both.0) (sym midst.all),
            );
        acknowledged = durable_after_work base es m.store failing k.recoverable.durable w k.acknowledged;
        tickets = subst (λ log. AreTickets base log es) (sym w.grows) (still_tickets base m.store.log w.more es k.tickets);
      }

  pub may_lose_power : (failing : RecoveryState) → MayFailAs m failing → MayLosePower base o es failing
  may_lose_power failing (inl same) = subst (MayLosePower base o es) (sym same) between_events
  may_lose_power failing (inr h) = in_the_midst failing h
