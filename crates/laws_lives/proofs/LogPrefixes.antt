-- Prefixes of the log as records come: what each of them tells.
use Rattle.std.proofs.Common.{◌≡◌, ◌≢◌, inl, inr, ⊎_elim, ◌≤◌, ℕ, zero, suc, List, [], ◌∷◌, ◌++◌, true, false, cond, map, Some, None, Result, Ok, Err, refl, sym, ap, subst, ◌∙◌, drop, take, length, arith, append-nil}
use Rattle.std.specs.Prelude.{◌==◌, ◌&&◌, filter, not}
use Rattle.std.specs.FinMap.{get}
use Rattle.std.specs.List.{AllByRecursion, cons_option, filter_map}
use Rattle.std.proofs.lemmas.Bool.{eqb-true, eqb-false, true≢false}
use Rattle.std.proofs.lemmas.List.Elements.{filter_map-append}
use Rattle.shore_types.specs.Images.{Image}
use Rattle.shore_types.specs.declared.faults.Fault.{Fault}
use Rattle.shore_types.specs.declared.ids.Rid.{Rid}
use Rattle.shore_model.specs.declared.calls.Answer.{Answer}
use Rattle.shore_model.specs.declared.calls.Answer.TheVariants.{Inserted}
use Rattle.shore_model.specs.declared.calls.Call.{Call}
use Rattle.shore_model.specs.declared.calls.Call.TheVariants as call
use Rattle.shore_model.specs.declared.histories.Decision.{Decision}
use Rattle.shore_model.specs.declared.histories.Decision.TheVariants as decision
use Rattle.shore_model.specs.declared.histories.Entry.{Entry}
use Rattle.shore_model.specs.declared.histories.InDoubt.{InDoubt}
use Rattle.shore_model.specs.declared.histories.Opening.{Opening}
use Rattle.shore_model.specs.declared.log_records.LogRecord.{LogRecord}
use Rattle.shore_model.specs.declared.log_records.Payload.{Payload}
use Rattle.shore_model.specs.declared.log_records.Payload.TheVariants.{Change, Commit, Compensation, Prepare, RollbackDecided}
use Rattle.shore_model.specs.declared.progress.Progress.{Progress}
use Rattle.shore_model.specs.Histories.{all_prepared, calls_of, in_doubt, is_undecided, prepared_by, serial, writes_given}
use Rattle.shore_model.specs.Lives.{next_opening}
use Rattle.shore_model.specs.Logs.{committed_in, has, in_doubt_in, is_commit, is_decision, is_in_doubt, is_prepare, is_rollback, logged_writes, prepare_of, previous_of}
use Rattle.shore_model.specs.Records.{Records, WriteSet, overlay}
use Rattle.laws_lives.proofs.DoubtRecords.{among_filter, decides_none, doubt_txns, doubts_same, none_of_three, one_decides_none}
use Rattle.laws_lives.proofs.DoubtSteps.{same_stand}
use Rattle.laws_lives.proofs.Lists.{among_append, among_map, drop-push, length-push, mapped_one, recursion-take, take-beyond, take-push, within_or_beyond}
use Rattle.laws_lives.proofs.LogTells.{committed_same, logged_other, tells_same}
use Rattle.laws_lives.proofs.OneMore.{has-not_this}
use Rattle.laws_lives.proofs.RecordsTold.{in_doubt_same_after}
use Rattle.laws_lives.proofs.Turns.{AreKept, KeepsTurn, serial-kept}
use Rattle.laws_lives.specs.Doubts.{DoubtsStand, HasWritten, IsOpeningOf, LoggedDoubt, doubts_in, pair_logged}
use Rattle.laws_lives.specs.LogTells.{records_committed}
use Rattle.laws_lives.specs.Logged.{and_compensations, and_record, log_after_answer, log_after_reply, next_to_undo}
use Rattle.laws_lives.specs.LogPrefixes.{PrefixesTell, TellsItsDecisions, decision_by, decision_in, decisions_in}
use Rattle.laws_lives.specs.Sessions.{SessionTxn}
use Rattle.laws_lives.specs.Soundness.{decided_txn, progress_from, written_by}
use Rattle.laws_lives.specs.UndoLists.{images_since}
use Rattle.laws_lives.specs.Views.{IsAmong}

-- ---- the decisions of a list

gained-take : (n : ℕ) (log : List LogRecord) → (m : ℕ) × (filter_map decision_in (take n log) ≡ take m (filter_map decision_in log))
gained-take zero log = (0, refl)
gained-take (suc n) [] = (0, refl)
gained-take (suc n) (r ∷ log) =
    let rest = gained-take n log in
    elim (decision_in r) as (λ o. (m : ℕ) × (cons_option o (filter_map decision_in (take n log)) ≡ take m (cons_option o (filter_map decision_in log)))) [
      | Some d ↦ (suc rest.0, ap (λ ds. d ∷ ds) rest.1)
      | None ↦ rest
    ]

-- a prefix of a list has a prefix of its decisions
pub decisions_in-take : (base n : ℕ) (log : List LogRecord) → (m : ℕ) × (decisions_in base (take n log) ≡ take m (decisions_in base log))
decisions_in-take zero n log = gained-take n log
decisions_in-take (suc base) zero log = (0, refl)
decisions_in-take (suc base) (suc n) [] = (0, refl)
decisions_in-take (suc base) (suc n) (r ∷ log) = decisions_in-take base n log

pub no_decision_by : (t : ℕ) (p : Payload) → is_decision p ≡ false → decision_by t p ≡ None
no_decision_by t Commit e = cc
no_decision_by t (Prepare global granules) e = cc
no_decision_by t RollbackDecided e = cc
no_decision_by t _ e = refl

module _ (base : ℕ) (log : List LogRecord) (r : LogRecord) (long : base ≤ length log) where
  pub decisions_same : is_decision r.payload ≡ false → decisions_in base (log ++ r ∷ []) ≡ decisions_in base log
  decisions_same e =
      ap (filter_map decision_in) (drop-push base log r long) ∙ filter_map-append decision_in (drop base log) (r ∷ [])
      ∙ ap (λ o. decisions_in base log ++ cons_option o []) (no_decision_by r.txn r.payload e) ∙ append-nil (decisions_in base log)

  pub decisions_more : (d : Decision) → decision_in r ≡ Some d → decisions_in base (log ++ r ∷ []) ≡ decisions_in base log ++ d ∷ []
  decisions_more d e =
      ap (filter_map decision_in) (drop-push base log r long) ∙ filter_map-append decision_in (drop base log) (r ∷ [])
      ∙ ap (λ o. decisions_in base log ++ cons_option o []) e

-- ---- what has been written

pub written_stays : (log more : List LogRecord) (u : ℕ) (W : WriteSet) → logged_writes more u ≡ logged_writes log u → records_committed more ≡ records_committed log
    → HasWritten log u W → HasWritten more u W
written_stays log more u W logged committed h = record {
  logged = λ id image at. h.logged id image (ap (λ L. get L id) (sym logged) ∙ at) ∙ ap (λ R. get (overlay R W) id) (sym committed);
  unlogged = λ id none. h.unlogged id (ap (λ L. get L id) (sym logged) ∙ none);
}

not_doubt : (t u : ℕ) (log : List LogRecord) → is_in_doubt t log ≡ false → IsAmong u (in_doubt_in log) → t ≢ u
not_doubt t u log none among same =
    true≢false (sym (among_filter (λ t. is_in_doubt t log) u (filter_map prepare_of log) among).1 ∙ ap (λ t. is_in_doubt t log) (sym same) ∙ none)

-- ---- each prefix tells

module _ (base : ℕ) (o : Opening) (w : ℕ → WriteSet) where
  pub prefixes_more : (log : List LogRecord) (r : LogRecord) → TellsItsDecisions base o w (log ++ r ∷ []) → PrefixesTell base o w log
      → PrefixesTell base o w (log ++ r ∷ [])
  prefixes_more log r whole k n least most =
      ⊎_elim (λ within. subst (TellsItsDecisions base o w) (sym (take-push n log r within)) (k n least within))
      (λ beyond. subst (TellsItsDecisions base o w) (sym (take-beyond n log r beyond)) whole)
      (within_or_beyond n (length log))

  -- a record that decides nothing, of a transaction that is not in doubt
  pub tells_on : (log : List LogRecord) (r : LogRecord) → base ≤ length log → is_decision r.payload ≡ false → AllByRecursion (λ u. u ≢ r.txn) (committed_in log)
      → is_in_doubt r.txn log ≡ false → TellsItsDecisions base o w log → TellsItsDecisions base o w (log ++ r ∷ [])
  tells_on log r long decides uncommitted not_in_doubt k =
      let same = decisions_same base log r long decides in
      let committed = tells_same log r (no_commit_of r.payload decides) uncommitted in
      record {
        committed = committed ∙ k.committed ∙ ap (serial w o.records) (sym same);
        in_doubt = ap (map pair_logged) (doubts_same log r decides) ∙ k.in_doubt ∙ ap (in_doubt o.in_doubt) (sym same);
        written = λ u among.
            let was = subst (IsAmong u) (in_doubt_same_after log r decides) among in
            written_stays log (log ++ r ∷ []) u (w u) (logged_other log r u (not_doubt r.txn u log not_in_doubt was)) committed (k.written u was);
        stand = same_stand log (log ++ r ∷ []) (doubts_same log r decides) k.stand;
      }
    where
      no_commit_of : (p : Payload) → is_decision p ≡ false → is_commit p ≡ false
      no_commit_of p e = (none_of_three (is_commit p) (is_prepare p) (is_rollback p) e).0

  -- records of a transaction t under way
  module _ (t : ℕ) where
    pub record IsUndecided (ds : List Decision) (log : List LogRecord) : Type 0 where
      pub long : base ≤ length log
      pub tells : TellsItsDecisions base o w log
      pub decided : ds ≡ decisions_in base log
      pub uncommitted : AllByRecursion (λ u. u ≢ t) (committed_in log)
      pub not_in_doubt : is_in_doubt t log ≡ false
      pub prefixes : PrefixesTell base o w log

    pub record_more : (ds : List Decision) (log : List LogRecord) (p : Payload) → is_decision p ≡ false → IsUndecided ds log
        → IsUndecided ds (and_record t log p)
    record_more ds log p decides k =
        let r : LogRecord = record { txn = t; previous = previous_of t log; payload = p } in
        let longer = length-push log r in
        let long = k.long in
        let tells = tells_on log r k.long decides k.uncommitted k.not_in_doubt k.tells in
        let none = one_decides_none t log log p decides (decides_none log) in
        record {
          long = omega arith;
          tells = tells;
          decided = k.decided ∙ sym (decisions_same base log r long decides);
          uncommitted = subst (AllByRecursion (λ u. u ≢ t)) (sym (committed_same log r (none_of_three (is_commit p) (is_prepare p) (is_rollback p) decides).0)) k.uncommitted;
          not_in_doubt =
              ap (λ b. b && not (has is_commit t (log ++ r ∷ [])) && not (has is_rollback t (log ++ r ∷ []))) (none.prepares t)
              ∙ ap (λ b. has is_prepare t log && not b && not (has is_rollback t (log ++ r ∷ []))) (has-not_this log r is_commit t (none_of_three (is_commit p) (is_prepare p) (is_rollback p) decides).0)
              ∙ ap (λ b. has is_prepare t log && not (has is_commit t log) && not b) (none.rollbacks t) ∙ k.not_in_doubt;
          prefixes = prefixes_more log r tells k.prefixes;
        }

    pub compensations_more : (ds : List Decision) (log : List LogRecord) (images : List (Rid × Image)) → IsUndecided ds log
        → IsUndecided ds (and_compensations t log images)
    compensations_more ds log [] k = k
    compensations_more ds log (e ∷ images) k =
        record_more ds (and_compensations t log images) (Compensation e.0 e.1 (next_to_undo t (and_compensations t log images))) refl
        (compensations_more ds log images k)

  module _ (ds : List Decision) (log : List LogRecord) (R : Records) (a : SessionTxn) (k : IsUndecided a.txn ds log) where
    insert_more : (store : ℕ) (bytes : List ℕ) (answer : Answer) → IsUndecided a.txn ds (log_after_answer log R a (call.Insert store bytes) answer)
    insert_more store bytes (Inserted id) = record_more a.txn ds log (Change id (get R id) (Some bytes)) refl k
    insert_more store bytes _ = k

    answer_more : (c : Call) (answer : Answer) → IsUndecided a.txn ds (log_after_answer log R a c answer)
    answer_more (call.Insert store bytes) answer = insert_more store bytes answer
    answer_more (call.Update id bytes) answer = record_more a.txn ds log (Change id (get R id) (Some bytes)) refl k
    answer_more (call.Delete id) answer = record_more a.txn ds log (Change id (get R id) None) refl k
    answer_more (call.BackTo n) answer = compensations_more a.txn ds log (images_since a.undo n) k
    answer_more _ answer = k

    pub reply_more : (c : Call) (reply : Result Answer Fault) → IsUndecided a.txn ds (log_after_reply log R a c reply)
    reply_more c (Ok answer) = answer_more c answer
    reply_more c (Err fault) = k

-- ---- with more entries

-- one that was found in doubt has something given
pub given_one : (ds : List InDoubt) (t : ℕ) → IsAmong t (map (λ d. d.txn) ds) → (d : InDoubt) × IsAmong d ds × (d.txn ≡ t) × (writes_given ds t ≡ Some d.writes)
given_one [] t h = absurd h
given_one (d ∷ ds) t h =
    elim (d.txn == t) as (λ b. (d.txn == t) ≡ b → (e : InDoubt) × IsAmong e (d ∷ ds) × (e.txn ≡ t) × (cond b (Some d.writes) (writes_given ds t) ≡ Some e.writes)) [
      | true ↦ λ e. (d, inl refl, eqb-true d.txn t e, refl)
      | false ↦ λ e. ⊎_elim (λ same. absurd (eqb-false d.txn t e same)) (λ later. let r = given_one ds t later in (r.0, inr r.1, r.2, r.3)) h
    ] refl

-- who was prepared was found so, or has a Prepare among the decisions
prepared_decided : (P : ℕ → Type 0) (ds : List Decision) → AllByRecursion (λ d. P (decided_txn d)) ds → (p : ℕ × List ℕ) → IsAmong p (filter_map prepared_by ds) → P p.0
prepared_decided P [] h p among = absurd among
prepared_decided P (decision.Prepare t g ∷ ds) h p among = ⊎_elim (λ same. subst (λ (p : ℕ × List ℕ). P p.0) same h.0) (λ later. prepared_decided P ds h.1 p later) among
prepared_decided P (decision.Commit t ∷ ds) h p among = prepared_decided P ds h.1 p among
prepared_decided P (decision.RollBack t ∷ ds) h p among = prepared_decided P ds h.1 p among

none_not_some : {A : Type 0} (x : A) → None ≡ Some x → ⊥
none_not_some x e = cc

pub doubt_kept : (o : Opening) (es more : List Entry) (ds : List Decision) → AreKept o es more ds → (p : ℕ × List ℕ) → IsAmong p (all_prepared o.in_doubt ds)
    → written_by o more p.0 ≡ written_by o es p.0
doubt_kept o es more ds kept p among = ⊎_elim
    (λ found.
    let one = given_one o.in_doubt p.0 (subst (IsAmong p.0) (pair_txns o.in_doubt) (among_map (λ (p : ℕ × List ℕ). p.0) p (map (λ d. (d.txn, d.global)) o.in_doubt) found)) in
    ap (λ g. (progress_from g (calls_of p.0 more)).writes) one.3 ∙ sym (ap (λ g. (progress_from g (calls_of p.0 es)).writes) one.3))
    (λ prepared. ap (λ (p : Progress). p.writes) (prepared_decided (λ t. KeepsTurn o es more t) ds kept p prepared).progress)
    (among_append p (map (λ d. (d.txn, d.global)) o.in_doubt) (filter_map prepared_by ds) among)
  where
    pair_txns : (ds : List InDoubt) → map (λ (p : ℕ × List ℕ). p.0) (map (λ d. (d.txn, d.global)) ds) ≡ map (λ d. d.txn) ds
    pair_txns [] = refl
    pair_txns (d ∷ ds) = ap (λ ts. d.txn ∷ ts) (pair_txns ds)

-- those that were decided have written the same, and so have those in doubt
pub prefixes_kept : (base : ℕ) (o : Opening) (es more : List Entry) (ds : List Decision) (log : List LogRecord) → AreKept o es more ds
    → ds ≡ decisions_in base log → PrefixesTell base o (written_by o es) log → PrefixesTell base o (written_by o more) log
prefixes_kept base o es more ds log kept all k n least most =
    let front = decisions_in-take base n log in
    let cut = take n log in
    let kept_there : AreKept o es more (decisions_in base cut) =
    subst (AreKept o es more) (ap (take front.0) all ∙ sym front.1) (recursion-take (λ d. KeepsTurn o es more (decided_txn d)) front.0 ds kept) in
    let tells = k n least most in
    record {
      committed = tells.committed ∙ sym (serial-kept o es more (decisions_in base cut) kept_there);
      in_doubt = tells.in_doubt;
      written = λ t among.
          let e = mapped_one (λ (d : LoggedDoubt). d.txn) t (doubts_in cut) (subst (IsAmong t) (doubt_txns cut) among) in
          let pair = subst (IsAmong (pair_logged e.0)) tells.in_doubt (among_map pair_logged e.0 (doubts_in cut) e.1) in
          let prepared = (among_filter (λ p. is_undecided (decisions_in base cut) p.0) (pair_logged e.0) (all_prepared o.in_doubt (decisions_in base cut)) pair).0 in
          let same : written_by o more t ≡ written_by o es t = subst (λ t. written_by o more t ≡ written_by o es t) e.2 (doubt_kept o es more (decisions_in base cut) kept_there (pair_logged e.0) prepared) in
          subst (HasWritten cut t) (sym same) (tells.written t among);
      stand = tells.stand;
    }

-- ---- an opening

no_filter : (ps : List (ℕ × List ℕ)) → filter (λ p. is_undecided [] p.0) ps ≡ ps
no_filter [] = refl
no_filter (p ∷ ps) = ap (λ qs. p ∷ qs) (no_filter ps)

-- a log that tells an opening, and has gained no decision
pub opening_tells : (base : ℕ) (o : Opening) (log : List LogRecord) → IsOpeningOf log o → DoubtsStand log → decisions_in base log ≡ [] → TellsItsDecisions base o (written_by o []) log
opening_tells base o log h stand none = record {
  committed = sym h.records ∙ ap (serial (written_by o []) o.records) (sym none);
  in_doubt = sym h.in_doubt ∙ sym (append-nil (map (λ d. (d.txn, d.global)) o.in_doubt)) ∙ sym (no_filter (all_prepared o.in_doubt [])) ∙ ap (in_doubt o.in_doubt) (sym none);
  written = λ t among.
      let e = mapped_one (λ (d : LoggedDoubt). d.txn) t (doubts_in log) (subst (IsAmong t) (doubt_txns log) among) in
      let pair = subst (IsAmong (pair_logged e.0)) (sym h.in_doubt) (among_map pair_logged e.0 (doubts_in log) e.1) in
      let d = mapped_one (λ (d : InDoubt). (d.txn, d.global)) (pair_logged e.0) o.in_doubt pair in
      let one = given_one o.in_doubt t (subst (λ t. IsAmong t (map (λ d. d.txn) o.in_doubt)) (ap (λ (p : ℕ × List ℕ). p.0) d.2 ∙ e.2) (among_map (λ (d : InDoubt). d.txn) d.0 o.in_doubt d.1)) in
      subst (HasWritten log t) (sym (ap (λ g. (progress_from g []).writes) one.3)) (subst (λ u. HasWritten log u one.0.writes) one.2 (h.written one.0 one.1));
  stand = stand;
}

-- what a crash leaves opens so
pub tells_opening : (base : ℕ) (o : Opening) (es : List Entry) (log : List LogRecord) → TellsItsDecisions base o (written_by o es) log
    → IsOpeningOf log (next_opening o (record { entries = es; kept = decisions_in base log }))
tells_opening base o es log h =
    let ds = decisions_in base log in
    let make : ℕ × List ℕ → InDoubt = λ p. record { txn = p.0; global = p.1; writes = written_by o es p.0 } in
    record {
      records = sym h.committed;
      in_doubt = pairs_made (in_doubt o.in_doubt ds) ∙ sym h.in_doubt;
      written = λ d among.
          let p = mapped_one make d (in_doubt o.in_doubt ds) among in
          let e = mapped_one pair_logged p.0 (doubts_in log) (subst (IsAmong p.0) (sym h.in_doubt) p.1) in
          let there : IsAmong p.0.0 (in_doubt_in log) = subst (IsAmong p.0.0) (sym (doubt_txns log)) (subst (λ t. IsAmong t (map (λ d. d.txn) (doubts_in log))) (ap (λ (p : ℕ × List ℕ). p.0) e.2) (among_map (λ (d : LoggedDoubt). d.txn) e.0 (doubts_in log) e.1)) in
          subst (λ (d : InDoubt). HasWritten log d.txn d.writes) p.2 (h.written p.0.0 there);
    }
  where
    pairs_made : (ps : List (ℕ × List ℕ)) → map (λ (d : InDoubt). (d.txn, d.global)) (map (λ p. record { txn = p.0; global = p.1; writes = written_by o es p.0 }) ps) ≡ ps
    pairs_made [] = refl
    pairs_made (p ∷ ps) = ap (λ qs. p ∷ qs) (pairs_made ps)
