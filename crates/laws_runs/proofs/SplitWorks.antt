-- Work of a store that appends some records and then others is work that appends the first and work that appends the rest; and what is durable stays so.
use Rattle.std.proofs.Common.{◌≡◌, inl, inr, ◌++◌, ◌≤◌, ℕ, zero, suc, List, [], ◌∷◌, refl, sym, ap, subst, ◌∙◌, arith, length, length-append, take, append-nil, append_assoc}
use Rattle.std.specs.List.{filter_map}
use Rattle.std.proofs.lemmas.List.{append_cancel_left}
use Rattle.std.proofs.lemmas.List.Elements.{filter_map-append}
use Rattle.shore_types.specs.declared.layout.Geometry.{Geometry}
use Rattle.shore_model.specs.declared.log_records.LogRecord.{LogRecord}
use Rattle.shore_model.specs.declared.histories.Decision.{Decision}
use Rattle.shore_model.specs.declared.histories.Decision.TheVariants as decision
use Rattle.shore_model.specs.declared.histories.Entry.{Entry}
use Rattle.laws_lives.specs.Recovery.{AppendRecord, FlushPage, ForceLog, LosePower, RecoveryEvent, RecoveryState, RedoRecord}
use Rattle.laws_lives.specs.LogPrefixes.{IsDecidedIn, decision_in}
use Rattle.laws_lives.specs.SessionSteps.{AnswerAbort, Ask, AnswerInDoubt, AnswerPrepare, AnswerResolve, AppendCommit, AppendPrepare, AppendResolve, AppendRollback, BeginTxn, Doom, EndRollback, GiveReply, MoveLocks, PutBack, RefuseCall, SessionEvent}
use Rattle.laws_lives.specs.Views.{IsAmong}
use Rattle.laws_calls.proofs.Links.{GoesBy}
use Rattle.laws_calls.proofs.Prefixes.{prefix_on, whole_prefix}
use Rattle.laws_calls.proofs.LeftWaits.{goes_on_log}
use Rattle.laws_calls.specs.CallHistories.{IsPrefix}
use Rattle.laws_calls.specs.States.{State}
use Rattle.laws_lives.specs.ManagerSteps.{AnswersDurable, WorksTo, decision_resolved}

-- ---- what work leaves

-- the log goes on, and no less of it is durable
pub record WorksOn (s new : RecoveryState) : Type 0 where
  pub on : IsPrefix s.log new.log
  pub durable : s.durable ≤ new.durable

pub works_none : (s : RecoveryState) → WorksOn s s
works_none s = record { on = whole_prefix s.log; durable = omega arith }

pub works_then : (s mid new : RecoveryState) → WorksOn s mid → WorksOn mid new → WorksOn s new
works_then s mid new h k = let le = h.durable in let more = k.durable in record { on = prefix_on s.log mid.log new.log h.on k.on; durable = omega (arith, le, more) }

pub works_on : (s : RecoveryState) (works : List RecoveryEvent) (new : RecoveryState) → WorksTo s works new → WorksOn s new
works_on s [] new h = subst (WorksOn s) (sym h) (works_none s)
works_on s (AppendRecord r ∷ works) new h =
    works_then s h.1 new (subst (WorksOn s) (sym h.2.1) (record { on = (r ∷ [], refl); durable = omega arith })) (works_on h.1 works new h.3)
works_on s (ForceLog n ∷ works) new h =
    works_then s h.1 new (subst (WorksOn s) (sym h.2.2) (record { on = whole_prefix s.log; durable = h.2.0 })) (works_on h.1 works new h.3)
works_on s (FlushPage p ∷ works) new h =
    works_then s h.1 new (subst (WorksOn s) (sym h.2.1) (record { on = whole_prefix s.log; durable = omega arith })) (works_on h.1 works new h.3)
works_on s (RedoRecord ∷ works) new h = absurd h.0
works_on s (LosePower n left begin ∷ works) new h = absurd h.0

-- ---- what is durable

longer_take : (n m : ℕ) (log more : List LogRecord) → n ≤ m → IsPrefix (take n log) (take m (log ++ more))
longer_take zero m log more le = (take m (log ++ more), refl)
longer_take (suc n) zero log more le = absurd (omega arith)
longer_take (suc n) (suc m) [] more le = (take (suc m) more, refl)
longer_take (suc n) (suc m) (r ∷ log) more le = let h = longer_take n m log more (omega arith) in (h.0, ap (λ rs. r ∷ rs) h.1)

among_front : {A : Type 0} (x : A) (xs ys : List A) → IsAmong x xs → IsAmong x (xs ++ ys)
among_front x [] ys h = absurd h
among_front x (y ∷ xs) ys (inl same) = inl same
among_front x (y ∷ xs) ys (inr later) = inr (among_front x xs ys later)

still_decided : (d : Decision) (rs all : List LogRecord) → IsPrefix rs all → IsDecidedIn rs d → IsDecidedIn all d
still_decided d rs all on h =
    subst (λ xs. IsDecidedIn xs d) (sym on.1)
    (subst (IsAmong d) (sym (filter_map-append decision_in rs on.0)) (among_front d (filter_map decision_in rs) (filter_map decision_in on.0) h))

decided_on : (s new : RecoveryState) → WorksOn s new → (d : Decision) → IsDecidedIn (take s.durable s.log) d → IsDecidedIn (take new.durable new.log) d
decided_on s new h d durable =
    let on : IsPrefix (take s.durable s.log) (take new.durable new.log) =
    subst (λ l. IsPrefix (take s.durable s.log) (take new.durable l)) (sym h.on.1) (longer_take s.durable new.durable s.log h.on.0 h.durable) in
    still_decided d (take s.durable s.log) (take new.durable new.log) on durable

pub stays_durable : (s new : RecoveryState) → WorksOn s new → (e : SessionEvent) → AnswersDurable s.durable s.log e → AnswersDurable new.durable new.log e
stays_durable s new h (Ask ticket answer) durable = tt
stays_durable s new h (MoveLocks held) durable = tt
stays_durable s new h (BeginTxn session) durable = tt
stays_durable s new h (GiveReply a c reply) durable = tt
stays_durable s new h (AppendCommit a ticket) durable = tt
stays_durable s new h (PutBack a kept e r) durable = tt
stays_durable s new h (Doom a) durable = tt
stays_durable s new h (AnswerAbort a) durable = tt
stays_durable s new h (RefuseCall session t c f) durable = tt
stays_durable s new h (AppendPrepare a global granules) durable = tt
stays_durable s new h (AnswerPrepare session t global) durable = decided_on s new h (decision.Prepare t global) durable
stays_durable s new h (AppendResolve a global) durable = tt
stays_durable s new h (AppendRollback a global) durable = tt
stays_durable s new h (EndRollback a) durable = tt
stays_durable s new h (AnswerResolve session r) durable = decided_on s new h (decision_resolved r) durable
stays_durable s new h (AnswerInDoubt session t pairs) durable = tt

-- ---- work in two parts

-- the first part appends just these records
pub record IsSplit (s : RecoveryState) (first : List LogRecord) (last : RecoveryState) : Type 0 where
  pub before : List RecoveryEvent
  pub mid : RecoveryState
  pub begins : WorksTo s before mid
  pub log : mid.log ≡ s.log ++ first
  pub behind : List RecoveryEvent
  pub ends : WorksTo mid behind last

-- one step comes before both
and_before : (s new last : RecoveryState) (e : RecoveryEvent) (first rest : List LogRecord) → ((works : List RecoveryEvent) (mid : RecoveryState) → WorksTo new works mid → WorksTo s (e ∷ works) mid)
    → new.log ++ rest ≡ s.log ++ first → IsSplit new rest last → IsSplit s first last
and_before s new last e first rest step same h =
    record { before = e ∷ h.before; mid = h.mid; begins = step h.before h.mid h.begins; log = h.log ∙ same; behind = h.behind; ends = h.ends }

same_head : (r x : LogRecord) (rs xs : List LogRecord) → r ∷ rs ≡ x ∷ xs → x ≡ r
same_head r x rs xs e = cc

pub split_works : (s : RecoveryState) (works : List RecoveryEvent) (last : RecoveryState) → WorksTo s works last → (first rest : List LogRecord) → last.log ≡ (s.log ++ first) ++ rest
    → IsSplit s first last
split_works s works last h [] rest is = record { before = []; mid = s; begins = refl; log = sym (append-nil s.log); behind = works; ends = h }
split_works s [] last h (x ∷ first) rest is =
    let long : length last.log ≡ length ((s.log ++ x ∷ first) ++ rest) = ap length is in
    let same : length last.log ≡ length s.log = ap (λ (y : RecoveryState). length y.log) h in
    let all = length-append (s.log ++ x ∷ first) rest in
    let front = length-append s.log (x ∷ first) in
    absurd (omega (arith, long, same, all, front))
split_works s (AppendRecord r ∷ works) last h (x ∷ first) rest is =
    let new = h.1 in
    let on = (works_on new works last h.3).on in
    let log : new.log ≡ s.log ++ r ∷ [] = ap (λ (y : RecoveryState). y.log) h.2.1 in
    let two : s.log ++ r ∷ on.0 ≡ s.log ++ x ∷ (first ++ rest) =
    sym (append_assoc s.log (r ∷ []) on.0) ∙ ap (λ l. l ++ on.0) (sym log) ∙ sym on.1 ∙ is ∙ append_assoc s.log (x ∷ first) rest in
    let same : x ≡ r = same_head r x on.0 (first ++ rest) (append_cancel_left s.log (r ∷ on.0) (x ∷ (first ++ rest)) two) in
    let grown : new.log ++ first ≡ s.log ++ x ∷ first =
    ap (λ l. l ++ first) log ∙ append_assoc s.log (r ∷ []) first ∙ ap (λ y. s.log ++ y ∷ first) (sym same) in
    and_before s new last (AppendRecord r) (x ∷ first) first (λ ws mid k. (tt, new, h.2, k)) grown
    (split_works new works last h.3 first rest (is ∙ ap (λ l. l ++ rest) (sym grown)))
split_works s (ForceLog n ∷ works) last h (x ∷ first) rest is =
    let new = h.1 in
    let log : new.log ≡ s.log = ap (λ (y : RecoveryState). y.log) h.2.2 in
    and_before s new last (ForceLog n) (x ∷ first) (x ∷ first) (λ ws mid k. (tt, new, h.2, k)) (ap (λ l. l ++ x ∷ first) log)
    (split_works new works last h.3 (x ∷ first) rest (is ∙ ap (λ l. (l ++ x ∷ first) ++ rest) (sym log)))
split_works s (FlushPage p ∷ works) last h (x ∷ first) rest is =
    let new = h.1 in
    let log : new.log ≡ s.log = ap (λ (y : RecoveryState). y.log) h.2.1 in
    and_before s new last (FlushPage p) (x ∷ first) (x ∷ first) (λ ws mid k. (tt, new, h.2, k)) (ap (λ l. l ++ x ∷ first) log)
    (split_works new works last h.3 (x ∷ first) rest (is ∙ ap (λ l. (l ++ x ∷ first) ++ rest) (sym log)))
split_works s (RedoRecord ∷ works) last h (x ∷ first) rest is = absurd h.0
split_works s (LosePower n left begin ∷ works) last h (x ∷ first) rest is = absurd h.0

-- ---- events of the sessions

-- they only append
pub by_on : (g : Geometry) (s : State) (events : List SessionEvent) (new : State) (made : List Entry) → GoesBy g s events new made → IsPrefix s.log new.log
by_on g s [] new made h = subst (λ (x : State). IsPrefix s.log x.log) (sym h.0) (whole_prefix s.log)
by_on g s (e ∷ events) new made h = prefix_on s.log h.0.log new.log (goes_on_log g s h.0 e h.2) (by_on g h.0 events new h.1 h.3)
