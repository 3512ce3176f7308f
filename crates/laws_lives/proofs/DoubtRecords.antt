-- Those in doubt in a log, with one record more.
use Rattle.std.proofs.Common.{◌≡◌, ◌≢◌, inl, inr, ⊎_elim, ◌++◌, ℕ, List, [], ◌∷◌, Bool, true, false, cond, Some, None, Result, Ok, Err, refl, sym, ap, ◌∙◌, map, append-nil}
use Rattle.std.specs.Prelude.{◌==◌, ◌&&◌, ◌||◌, not, filter}
use Rattle.std.specs.FinMap.{get}
use Rattle.std.specs.List.{AllByRecursion, cons_option, filter_map}
use Rattle.std.proofs.lemmas.Bool.{eq-eqb, ne_eqb}
use Rattle.std.proofs.lemmas.List.Elements.{filter-append, filter_map-append}
use Rattle.shore_types.specs.Images.{Image}
use Rattle.shore_types.specs.declared.faults.Fault.{Fault}
use Rattle.shore_types.specs.declared.ids.Rid.{Rid}
use Rattle.shore_types.specs.declared.locking.Granule.{Granule}
use Rattle.shore_model.specs.declared.calls.Answer.{Answer}
use Rattle.shore_model.specs.declared.calls.Answer.TheVariants.{Inserted}
use Rattle.shore_model.specs.declared.calls.Call.{Call}
use Rattle.shore_model.specs.declared.calls.Call.TheVariants as call
use Rattle.shore_model.specs.declared.log_records.LogRecord.{LogRecord}
use Rattle.shore_model.specs.declared.log_records.Payload.{Payload}
use Rattle.shore_model.specs.declared.log_records.Payload.TheVariants.{Change, Commit, End, Prepare, RollbackDecided}
use Rattle.shore_model.specs.Logs.{committed_in, has, in_doubt_in, is_commit, is_decision, is_in_doubt, is_prepare, is_rollback, prepare_of, previous_of}
use Rattle.shore_model.specs.Records.{Records}
use Rattle.laws_lives.proofs.Booleans.{or_right}
use Rattle.laws_lives.proofs.DoubtDecisions.{filter_two}
use Rattle.laws_lives.proofs.OneMore.{has-not_this, has-push}
use Rattle.laws_lives.specs.Doubts.{LoggedDoubt, doubt_by, doubt_of, doubts_in}
use Rattle.laws_lives.specs.Logged.{and_compensations, and_record, and_rollback, log_after_answer, log_after_reply}
use Rattle.laws_lives.specs.Sessions.{SessionTxn}
use Rattle.laws_lives.specs.UndoLists.{images_since}
use Rattle.laws_lives.specs.Views.{IsAmong}

-- ---- lists

module _ {A : Type 0} where
  pub filter_same : (f g : A → Bool) (xs : List A) → ((x : A) → IsAmong x xs → f x ≡ g x) → filter f xs ≡ filter g xs
  filter_same f g [] h = refl
  filter_same f g (x ∷ xs) h =
      ap (λ b. cond b (x ∷ filter f xs) (filter f xs)) (h x (inl refl)) ∙ ap (λ ys. cond (g x) (x ∷ ys) ys) (filter_same f g xs (λ y later. h y (inr later)))

  pub among_filter : (f : A → Bool) (x : A) (xs : List A) → IsAmong x (filter f xs) → IsAmong x xs × (f x ≡ true)
  among_filter f x [] = λ h. absurd h
  among_filter f x (y ∷ xs) =
      elim (f y) as (λ b. f y ≡ b → IsAmong x (cond b (y ∷ filter f xs) (filter f xs)) → IsAmong x (y ∷ xs) × (f x ≡ true)) [
        | true ↦ λ e h. ⊎_elim (λ same. (inl same, ap f (sym same) ∙ e)) (λ later. let r = among_filter f x xs later in (inr r.0, r.1)) h
        | false ↦ λ e h. let r = among_filter f x xs h in (inr r.0, r.1)
      ] refl

-- ---- who has a Prepare

doubt_has : (t : ℕ) (p : Payload) (d : LoggedDoubt) → doubt_by t p ≡ Some d → (is_prepare p ≡ true) × (d.txn ≡ t)
doubt_has t (Prepare global granules) d e = (refl, its_txn e)
  where
    its_txn : {c d : LoggedDoubt} → Some c ≡ Some d → d.txn ≡ c.txn
    its_txn e = cc
doubt_has t (Change id before image) d e = cc
doubt_has t _ d e = cc

no_doubt_by : (t : ℕ) (p : Payload) → is_prepare p ≡ false → doubt_by t p ≡ None
no_doubt_by t (Prepare global granules) e = cc
no_doubt_by t _ e = refl

pub doubt_has_prepare : (d : LoggedDoubt) (log : List LogRecord) → IsAmong d (filter_map doubt_of log) → has is_prepare d.txn log ≡ true
doubt_has_prepare d [] = λ h. absurd h
doubt_has_prepare d (r ∷ log) =
    elim (doubt_of r) as (λ o. doubt_of r ≡ o → IsAmong d (cons_option o (filter_map doubt_of log)) → (((r.txn == d.txn) && is_prepare r.payload) || has is_prepare d.txn log) ≡ true) [
      | None ↦ λ e h. or_right ((r.txn == d.txn) && is_prepare r.payload) (has is_prepare d.txn log) (doubt_has_prepare d log h)
      | Some c ↦ λ e h. ⊎_elim
          (λ same.
          let is = doubt_has r.txn r.payload c e in
          ap (λ b. b || has is_prepare d.txn log) (ap (λ b. b && is_prepare r.payload) (eq-eqb r.txn d.txn (sym is.1 ∙ ap (λ (d : LoggedDoubt). d.txn) same)) ∙ is.0))
          (λ later. or_right ((r.txn == d.txn) && is_prepare r.payload) (has is_prepare d.txn log) (doubt_has_prepare d log later)) h
    ] refl

-- those in doubt, by their numbers alone
one_test : (f : ℕ → Bool) (us : List ℕ) (ds : List LoggedDoubt) → filter f us ≡ map (λ d. d.txn) (filter (λ d. f d.txn) ds) → (t : ℕ) (p : Payload)
    → filter f (cons_option (cond (is_prepare p) (Some t) None) us) ≡ map (λ d. d.txn) (filter (λ d. f d.txn) (cons_option (doubt_by t p) ds))
one_test f us ds h t (Prepare global granules) =
    elim (f t) as (λ b. cond b (t ∷ filter f us) (filter f us) ≡ map (λ d. d.txn) (cond b (record { txn = t; global = global; granules = granules } ∷ filter (λ d. f d.txn) ds) (filter (λ d. f d.txn) ds))) [
      | true ↦ ap (λ us. t ∷ us) h
      | false ↦ h
    ]
one_test f us ds h t _ = h

with_test : (f : ℕ → Bool) (rs : List LogRecord) → filter f (filter_map prepare_of rs) ≡ map (λ d. d.txn) (filter (λ d. f d.txn) (filter_map doubt_of rs))
with_test f [] = refl
with_test f (r ∷ rs) = one_test f (filter_map prepare_of rs) (filter_map doubt_of rs) (with_test f rs) r.txn r.payload

pub doubt_txns : (log : List LogRecord) → in_doubt_in log ≡ map (λ d. d.txn) (doubts_in log)
doubt_txns log = with_test (λ t. is_in_doubt t log) log

-- ---- records that decide nothing

pub none_of_three : (a b c : Bool) → (a || b || c) ≡ false → (a ≡ false) × (b ≡ false) × (c ≡ false)
none_of_three false false c h = (refl, refl, h)
none_of_three false true c h = cc
none_of_three true b c h = cc

pub record DecidesNone (log more : List LogRecord) : Type 0 where
  pub prepares : (t : ℕ) → has is_prepare t more ≡ has is_prepare t log
  pub rollbacks : (t : ℕ) → has is_rollback t more ≡ has is_rollback t log
  pub doubts : doubts_in more ≡ doubts_in log

pub decides_none : (log : List LogRecord) → DecidesNone log log
decides_none log = record { prepares = λ t. refl; rollbacks = λ t. refl; doubts = refl }

pub doubts_same : (log : List LogRecord) (r : LogRecord) → is_decision r.payload ≡ false → doubts_in (log ++ r ∷ []) ≡ doubts_in log
doubts_same log r decides =
    let none = none_of_three (is_commit r.payload) (is_prepare r.payload) (is_rollback r.payload) decides in
    let same : (λ (d : LoggedDoubt). is_in_doubt d.txn (log ++ r ∷ [])) ≡ (λ (d : LoggedDoubt). is_in_doubt d.txn log) =
    λ i d. (ap (λ b. b && not (has is_commit d.txn (log ++ r ∷ [])) && not (has is_rollback d.txn (log ++ r ∷ []))) (has-not_this log r is_prepare d.txn none.1)
    ∙ ap (λ b. has is_prepare d.txn log && not b && not (has is_rollback d.txn (log ++ r ∷ []))) (has-not_this log r is_commit d.txn none.0)
    ∙ ap (λ b. has is_prepare d.txn log && not (has is_commit d.txn log) && not b) (has-not_this log r is_rollback d.txn none.2)) i in
    ap (filter (λ d. is_in_doubt d.txn (log ++ r ∷ [])))
    (filter_map-append doubt_of log (r ∷ []) ∙ ap (λ o. filter_map doubt_of log ++ cons_option o []) (no_doubt_by r.txn r.payload none.1) ∙ append-nil (filter_map doubt_of log))
    ∙ ap (λ f. filter f (filter_map doubt_of log)) same

pub one_decides_none : (t : ℕ) (log more : List LogRecord) (p : Payload) → is_decision p ≡ false → DecidesNone log more → DecidesNone log (and_record t more p)
one_decides_none t log more p decides h =
    let r : LogRecord = record { txn = t; previous = previous_of t more; payload = p } in
    let none = none_of_three (is_commit p) (is_prepare p) (is_rollback p) decides in
    record {
      prepares = λ u. has-not_this more r is_prepare u none.1 ∙ h.prepares u;
      rollbacks = λ u. has-not_this more r is_rollback u none.2 ∙ h.rollbacks u;
      doubts = doubts_same more r decides ∙ h.doubts;
    }

pub compensations_decide_none : (t : ℕ) (log : List LogRecord) (es : List (Rid × Image)) → DecidesNone log (and_compensations t log es)
compensations_decide_none t log [] = decides_none log
compensations_decide_none t log (e ∷ es) = one_decides_none t log (and_compensations t log es) _ refl (compensations_decide_none t log es)

pub end_decides_none : (t : ℕ) (log : List LogRecord) (es : List (Rid × Image)) → DecidesNone log (and_record t (and_compensations t log es) End)
end_decides_none t log es = one_decides_none t log (and_compensations t log es) End refl (compensations_decide_none t log es)

pub abort_decides_none : (t : ℕ) (log : List LogRecord) (es : List (Rid × Image)) → DecidesNone log (and_rollback t log es)
abort_decides_none t log es =
    elim (previous_of t log == 0) as (λ b. DecidesNone log (cond b log (and_record t (and_compensations t log es) End))) [
      | true ↦ decides_none log
      | false ↦ end_decides_none t log es
    ]

module _ (log : List LogRecord) (R : Records) (a : SessionTxn) where
  insert_decides_none : (s : ℕ) (bytes : List ℕ) (answer : Answer) → DecidesNone log (log_after_answer log R a (call.Insert s bytes) answer)
  insert_decides_none s bytes (Inserted id) = one_decides_none a.txn log log (Change id (get R id) (Some bytes)) refl (decides_none log)
  insert_decides_none s bytes _ = decides_none log

  answer_decides_none : (c : Call) (answer : Answer) → DecidesNone log (log_after_answer log R a c answer)
  answer_decides_none (call.Insert s bytes) answer = insert_decides_none s bytes answer
  answer_decides_none (call.Update id bytes) answer = one_decides_none a.txn log log (Change id (get R id) (Some bytes)) refl (decides_none log)
  answer_decides_none (call.Delete id) answer = one_decides_none a.txn log log (Change id (get R id) None) refl (decides_none log)
  answer_decides_none (call.BackTo n) answer = compensations_decide_none a.txn log (images_since a.undo n)
  answer_decides_none _ answer = decides_none log

  pub reply_decides_none : (c : Call) (reply : Result Answer Fault) → DecidesNone log (log_after_reply log R a c reply)
  reply_decides_none c (Ok answer) = answer_decides_none c answer
  reply_decides_none c (Err fault) = decides_none log

-- ---- a Commit, and a Rollback decided

commit_bits : (p c b x : Bool) → (p && not (c || (x && true)) && not b) ≡ ((p && not c && not b) && not x)
commit_bits false c b x = refl
commit_bits true true b x = refl
commit_bits true false true true = refl
commit_bits true false true false = refl
commit_bits true false false true = refl
commit_bits true false false false = refl

rollback_bits : (p c b x : Bool) → (p && not c && not (b || (x && true))) ≡ ((p && not c && not b) && not x)
rollback_bits false c b x = refl
rollback_bits true true b x = refl
rollback_bits true false true x = refl
rollback_bits true false false true = refl
rollback_bits true false false false = refl

-- the list without one transaction's
abbrev pub but_doubt : ℕ → List LoggedDoubt → List LoggedDoubt
but_doubt t ds = filter (λ d. not (t == d.txn)) ds

pub commit_takes : (log : List LogRecord) (t n : ℕ) → doubts_in (log ++ record { txn = t; previous = n; payload = Commit } ∷ []) ≡ but_doubt t (doubts_in log)
commit_takes log t n =
    let r : LogRecord = record { txn = t; previous = n; payload = Commit } in
    let same : (λ (d : LoggedDoubt). is_in_doubt d.txn (log ++ r ∷ [])) ≡ (λ (d : LoggedDoubt). is_in_doubt d.txn log && not (t == d.txn)) =
    λ i d. (ap (λ b. b && not (has is_commit d.txn (log ++ r ∷ [])) && not (has is_rollback d.txn (log ++ r ∷ []))) (has-not_this log r is_prepare d.txn refl)
    ∙ ap (λ b. has is_prepare d.txn log && not b && not (has is_rollback d.txn (log ++ r ∷ []))) (has-push log r is_commit d.txn)
    ∙ ap (λ b. has is_prepare d.txn log && not (has is_commit d.txn log || ((t == d.txn) && true)) && not b) (has-not_this log r is_rollback d.txn refl)
    ∙ commit_bits (has is_prepare d.txn log) (has is_commit d.txn log) (has is_rollback d.txn log) (t == d.txn)) i in
    ap (λ f. filter f (filter_map doubt_of (log ++ r ∷ []))) same
    ∙ ap (filter (λ d. is_in_doubt d.txn log && not (t == d.txn))) (filter_map-append doubt_of log (r ∷ []) ∙ append-nil (filter_map doubt_of log))
    ∙ filter_two (λ d. is_in_doubt d.txn log) (λ d. not (t == d.txn)) (filter_map doubt_of log)

pub rollback_takes : (log : List LogRecord) (t n : ℕ) → doubts_in (log ++ record { txn = t; previous = n; payload = RollbackDecided } ∷ []) ≡ but_doubt t (doubts_in log)
rollback_takes log t n =
    let r : LogRecord = record { txn = t; previous = n; payload = RollbackDecided } in
    let same : (λ (d : LoggedDoubt). is_in_doubt d.txn (log ++ r ∷ [])) ≡ (λ (d : LoggedDoubt). is_in_doubt d.txn log && not (t == d.txn)) =
    λ i d. (ap (λ b. b && not (has is_commit d.txn (log ++ r ∷ [])) && not (has is_rollback d.txn (log ++ r ∷ []))) (has-not_this log r is_prepare d.txn refl)
    ∙ ap (λ b. has is_prepare d.txn log && not b && not (has is_rollback d.txn (log ++ r ∷ []))) (has-not_this log r is_commit d.txn refl)
    ∙ ap (λ b. has is_prepare d.txn log && not (has is_commit d.txn log) && not b) (has-push log r is_rollback d.txn)
    ∙ rollback_bits (has is_prepare d.txn log) (has is_commit d.txn log) (has is_rollback d.txn log) (t == d.txn)) i in
    ap (λ f. filter f (filter_map doubt_of (log ++ r ∷ []))) same
    ∙ ap (filter (λ d. is_in_doubt d.txn log && not (t == d.txn))) (filter_map-append doubt_of log (r ∷ []) ∙ append-nil (filter_map doubt_of log))
    ∙ filter_two (λ d. is_in_doubt d.txn log) (λ d. not (t == d.txn)) (filter_map doubt_of log)

-- ---- a Prepare

pub none_committed : (t : ℕ) (log : List LogRecord) → AllByRecursion (λ u. u ≢ t) (committed_in log) → has is_commit t log ≡ false
none_committed t [] = λ h. refl
none_committed t (r ∷ log) =
    elim (is_commit r.payload) as (λ b. AllByRecursion (λ u. u ≢ t) (cons_option (cond b (Some r.txn) None) (committed_in log)) → (((r.txn == t) && b) || has is_commit t log) ≡ false) [
      | true ↦ λ h. ap (λ x. (x && true) || has is_commit t log) (ne_eqb r.txn t h.0) ∙ none_committed t log h.1
      | false ↦ λ h. and_no (r.txn == t) (has is_commit t log) ∙ none_committed t log h
    ]
  where
    and_no : (x b : Bool) → ((x && false) || b) ≡ b
    and_no true b = refl
    and_no false b = refl

prepare_now : (p c b : Bool) → c ≡ false → b ≡ false → ((p || (true && true)) && not c && not b) ≡ true
prepare_now true c b e f = ap (λ c. not c && not b) e ∙ ap not f
prepare_now false c b e f = ap (λ c. not c && not b) e ∙ ap not f

pub prepare_adds : (log : List LogRecord) (t n : ℕ) (global : List ℕ) (gs : List Granule) → has is_commit t log ≡ false → has is_rollback t log ≡ false
    → doubts_in (log ++ record { txn = t; previous = n; payload = Prepare global gs } ∷ []) ≡ doubts_in log ++ record { txn = t; global = global; granules = gs } ∷ []
prepare_adds log t n global gs none never =
    let r : LogRecord = record { txn = t; previous = n; payload = Prepare global gs } in
    let P = filter_map doubt_of log in
    let d : LoggedDoubt = record { txn = t; global = global; granules = gs } in
    let rest : (u : ℕ) (b : Bool) → has is_prepare u (log ++ r ∷ []) ≡ b → is_in_doubt u (log ++ r ∷ []) ≡ (b && not (has is_commit u log) && not (has is_rollback u log)) =
    λ u b e. ap (λ b. b && not (has is_commit u (log ++ r ∷ [])) && not (has is_rollback u (log ++ r ∷ []))) e
    ∙ ap (λ c. b && not c && not (has is_rollback u (log ++ r ∷ []))) (has-not_this log r is_commit u refl)
    ∙ ap (λ c. b && not (has is_commit u log) && not c) (has-not_this log r is_rollback u refl) in
    let own : is_in_doubt t (log ++ r ∷ []) ≡ true =
    rest t _ (has-push log r is_prepare t ∙ ap (λ x. has is_prepare t log || (x && true)) (eq-eqb t t refl)) ∙ prepare_now (has is_prepare t log) (has is_commit t log) (has is_rollback t log) none never in
    let olds : filter (λ d. is_in_doubt d.txn (log ++ r ∷ [])) P ≡ filter (λ d. is_in_doubt d.txn log) P =
    filter_same (λ (d : LoggedDoubt). is_in_doubt d.txn (log ++ r ∷ [])) (λ (d : LoggedDoubt). is_in_doubt d.txn log) P
    (λ d a. rest d.txn true (has-push log r is_prepare d.txn ∙ ap (λ b. b || ((t == d.txn) && true)) (doubt_has_prepare d log a))
    ∙ ap (λ b. b && not (has is_commit d.txn log) && not (has is_rollback d.txn log)) (sym (doubt_has_prepare d log a))) in
    ap (filter (λ d. is_in_doubt d.txn (log ++ r ∷ []))) (filter_map-append doubt_of log (r ∷ []))
    ∙ filter-append (λ (d : LoggedDoubt). is_in_doubt d.txn (log ++ r ∷ [])) P (d ∷ [])
    ∙ ap (λ b. filter (λ d. is_in_doubt d.txn (log ++ r ∷ [])) P ++ cond b (d ∷ []) []) own
    ∙ ap (λ ds. ds ++ d ∷ []) olds

-- a number that no record has
pub none_of_it : (p : Payload → Bool) (t : ℕ) (log : List LogRecord) → AllByRecursion (λ r. r.txn ≢ t) log → has p t log ≡ false
none_of_it p t [] h = refl
none_of_it p t (r ∷ log) h = ap (λ x. (x && p r.payload) || has p t log) (ne_eqb r.txn t h.0) ∙ none_of_it p t log h.1
