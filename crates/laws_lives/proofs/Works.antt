-- Work on log and pages while a manager is up: the log only grows, what is durable stays so, and the pages have all of the log.
use Rattle.std.proofs.Common.{◌≡◌, ◌≤◌, ◌+◌, List, [], ◌∷◌, ◌++◌, sym, ap, subst, ◌∙◌, length, arith, append-nil, append_assoc}
use Rattle.shore_model.specs.declared.log_records.LogRecord.{LogRecord}
use Rattle.laws_lives.proofs.Invariant.{event_kept}
use Rattle.laws_lives.specs.Recovery.{AppendRecord, FlushPage, ForceLog, IsRecoverable, LeadsTo, LosePower, RecoveryEvent, RecoveryState, RedoRecord}
use Rattle.laws_lives.proofs.Lists.{length-push}
use Rattle.laws_lives.specs.ManagerSteps.{IsWork, WorksTo}

pub record HasWorked (s new : RecoveryState) : Type 0 where
  pub more : List LogRecord
  pub grows : new.log ≡ s.log ++ more
  pub durable : s.durable ≤ new.durable
  pub recoverable : IsRecoverable new
  pub redone : new.redone ≡ length new.log

-- no record more
worked_quietly : (s new : RecoveryState) → IsRecoverable new → new.log ≡ s.log → s.durable ≤ new.durable → new.redone ≡ length s.log → HasWorked s new
worked_quietly s new k same durable redone = record {
  more = [];
  grows = same ∙ sym (append-nil s.log);
  durable = durable;
  recoverable = k;
  redone = redone ∙ ap length (sym same);
}

one_work : (s : RecoveryState) (e : RecoveryEvent) (new : RecoveryState) → IsRecoverable s → s.redone ≡ length s.log → IsWork e → LeadsTo s e new
    → HasWorked s new
one_work s (AppendRecord r) new k whole work leads =
    let long = length-push s.log r in
    let redone : s.redone + 1 ≡ length (s.log ++ r ∷ []) = omega arith in
    let same : s.durable ≤ s.durable = omega arith in
    record {
      more = r ∷ [];
      grows = ap (λ (x : RecoveryState). x.log) leads.1;
      durable = subst (λ (x : RecoveryState). s.durable ≤ x.durable) (sym leads.1) same;
      recoverable = event_kept s (AppendRecord r) new k leads;
      redone = subst (λ (x : RecoveryState). x.redone ≡ length x.log) (sym leads.1) redone;
    }
one_work s (ForceLog n) new k whole work leads =
    worked_quietly s new (event_kept s (ForceLog n) new k leads) (ap (λ (x : RecoveryState). x.log) leads.2)
    (subst (λ (x : RecoveryState). s.durable ≤ x.durable) (sym leads.2) leads.0) (ap (λ (x : RecoveryState). x.redone) leads.2 ∙ whole)
one_work s (FlushPage p) new k whole work leads =
    let same : s.durable ≤ s.durable = omega arith in
    worked_quietly s new (event_kept s (FlushPage p) new k leads) (ap (λ (x : RecoveryState). x.log) leads.1)
    (subst (λ (x : RecoveryState). s.durable ≤ x.durable) (sym leads.1) same) (ap (λ (x : RecoveryState). x.redone) leads.1 ∙ whole)
one_work s RedoRecord new k whole work leads = absurd work
one_work s (LosePower n left begin) new k whole work leads = absurd work

pub all_work : (s : RecoveryState) (works : List RecoveryEvent) (new : RecoveryState) → IsRecoverable s → s.redone ≡ length s.log → WorksTo s works new
    → HasWorked s new
all_work s [] new k whole leads =
    let same : s.durable ≤ s.durable = omega arith in
    worked_quietly s new (subst IsRecoverable (sym leads) k) (ap (λ (x : RecoveryState). x.log) leads)
    (subst (λ (x : RecoveryState). s.durable ≤ x.durable) (sym leads) same) (ap (λ (x : RecoveryState). x.redone) leads ∙ whole)
all_work s (e ∷ works) new k whole leads =
    let one = one_work s e leads.1 k whole leads.0 leads.2 in
    let rest = all_work leads.1 works new one.recoverable one.redone leads.3 in
    let durable = one.durable in
    let still = rest.durable in
    record {
      more = one.more ++ rest.more;
      grows = rest.grows ∙ ap (λ rs. rs ++ rest.more) one.grows ∙ append_assoc s.log one.more rest.more;
      durable = omega arith;
      recoverable = rest.recoverable;
      redone = rest.redone;
    }
