-- The table of a checkpoint: the transactions of a control that have logged a record are those of its log that have not ended.
use Rattle.std.proofs.Common.{◌≡◌, ◌<◌, ◌≤◌, ◌∷◌, [], ℕ, suc, List, Bool, true, false, cond, Some, filter, inl, inr, unwrap_or, refl, sym, ap, subst, ◌∙◌, arith, length, map}
use Rattle.std.specs.Prelude.{IsPermutation, IsTrue, reverse}
use Rattle.std.specs.List.{AllByRecursion, filter_map}
use Rattle.std.proofs.lemmas.Bool.{lt-ltb, ltb-true}
use Rattle.std.proofs.lemmas.List.{length-map}
use Rattle.std.proofs.lemmas.List.Elements.{All-from_recursion}
use Rattle.std.proofs.lemmas.List.Sorted.{All-permutation, length_permutation}
use Rattle.shore_model.specs.declared.log_records.LogRecord.{LogRecord}
use Rattle.shore_model.specs.declared.log_records.LogTxn.{LogTxn}
use Rattle.shore_model.specs.Logs as logs
use Rattle.shore_model.specs.Logs.{IsEntry, IsListed, IsTable, Lists, has, is_commit, is_over, is_prepare, is_prepared, is_rollback, prepare_of, rise_above, unanswered, undo_next_of}
use Rattle.laws_lives.specs.Doubts.{LoggedDoubt, doubt_of, doubts_in, pair_logged}
use Rattle.laws_lives.specs.Sessions.{PreparedTxn, SessionTxn, pair_of, pairs_of, txns_of}
use Rattle.laws_lives.specs.Views.{IsAmong}
use Rattle.laws_lives.proofs.DoubtRecords.{among_filter, doubt_txns}
use Rattle.laws_lives.proofs.WritersTold as told
use Rattle.laws_calls.specs.States.{State}
use Rattle.shore_txn.specs.LogEntries.{entries_logged, entry_of, has_logged}
use Rattle.shore_txn.specs.Transactions.{prepared_in, undos_in}
use Rattle.shore_txn.specs.Transactions as table
use Rattle.shore_txn.specs.TxnStates.{is_in_doubt, listed_state}
use Rattle.shore_txn.specs.Txns.{as_prepared, as_session_txn, entries_of, first_of, global_of, in_doubt_as, number_of, state_of}
use Rattle.shore_txn.specs.UndoEntries.{first_number}
use Rattle.shore_txn.specs.declared.transactions.Transactions.{Transactions}
use Rattle.shore_txn.specs.declared.txn.Txn.{Txn}
use Rattle.shore_txn.specs.declared.txn_state.TxnState.{TxnState}
use Rattle.shore_txn.specs.declared.txn_state.TxnState.TheVariants.{Active, Doomed, Prepared, Preparing, RollingBack}
use Rattle.shore_txn.specs.declared.undo.UndoEntry.{UndoEntry}
use Rattle.shore_txn.proofs.ActiveSteps.{one_at_number}
use Rattle.shore_txn.proofs.OneOfMany.{all_among, among_map, map_among}
use Rattle.shore_sessions.specs.Checkpoints.{TellsUnended}
use Rattle.shore_sessions.specs.Standing.{HasTxns, IsLogged, as_change}
use Rattle.shore_sessions.proofs.FirstNumbers.{first_some, last_some}
use Rattle.shore_sessions.proofs.Lists.{all_by_members, among_filtered, among_passing}
use Rattle.shore_sessions.proofs.LogSteps.{previous_positive}
use Rattle.shore_sessions.proofs.Permuted.{among_permuted, made_among, permuted_among}
use Rattle.shore_sessions.proofs.RollbackSteps.{turned_map}
use Rattle.shore_sessions.proofs.Seats.{active_there, doubt_there}

clash : true ≡ false → ⊥
clash e = cc

alike : (a b : Bool) → (a ≡ true → b ≡ true) → (b ≡ true → a ≡ true) → a ≡ b
alike true b f g = sym (f refl)
alike false true f g = absurd (clash (sym (g refl)))
alike false false f g = refl

-- ---- lists

listed_by : (t : ℕ) (e : LogTxn) (es : List LogTxn) → IsAmong e es → e.txn ≡ t → Lists es t
unfolding Lists
listed_by t e [] m own = absurd m
listed_by t e (x ∷ es) (inl same) own = (0, x, omega arith, refl, ap (λ (y : LogTxn). y.txn) same ∙ own)
listed_by t e (x ∷ es) (inr later) own = let a = listed_by t e es later own in (suc a.0, a.1, (let lt = a.2 in omega arith), a.3, a.4)

shorter : (p : Txn → Bool) (ts : List Txn) → length (filter p ts) ≤ length ts
shorter p [] = omega arith
shorter p (t ∷ ts) =
    let rest = shorter p ts in
    elim (p t) as (λ b. length (cond b (t ∷ filter p ts) (filter p ts)) ≤ length (t ∷ ts)) [
      | true ↦ omega (arith, rest)
      | false ↦ omega (arith, rest)
    ]

-- there are no more entries than transactions
pub few_listed : (txns : Transactions) (listed : List LogTxn) → IsPermutation (entries_logged (table.txns_in txns)) listed → length listed ≤ length (undos_in txns)
few_listed txns listed moved =
    let ts = table.txns_in txns in
    let same = length_permutation (entries_logged ts) listed moved in
    let entries : length (entries_logged ts) ≡ length (filter has_logged ts) = length-map (filter has_logged ts) entry_of in
    let all : length (undos_in txns) ≡ length ts = length-map ts as_session_txn in
    let less = shorter has_logged ts in
    omega (arith, same, entries, all, less)

-- ---- who is in doubt

doubt_listed : (state : TxnState) → is_prepared (listed_state state) ≡ is_in_doubt state
doubt_listed Active = refl
doubt_listed Doomed = refl
doubt_listed (RollingBack rollback) = refl
doubt_listed Preparing = refl
doubt_listed Prepared = refl

doubt_as : (number : ℕ) (name : List ℕ) (state : TxnState) → is_in_doubt state ≡ true → (p : PreparedTxn) × (in_doubt_as number name state ≡ Some p) × (p.txn ≡ number)
doubt_as number name Active is = absurd (clash (sym is))
doubt_as number name Doomed is = absurd (clash (sym is))
doubt_as number name (RollingBack rollback) is = absurd (clash (sym is))
doubt_as number name Preparing is = (record { txn = number; global = name; answered = false }, refl, refl)
doubt_as number name Prepared is = (record { txn = number; global = name; answered = true }, refl, refl)

module _ (txns : Transactions) (s : State) (was : HasTxns txns s) (tells : TellsUnended s) where
  -- the log has those in doubt whom the sessions have
  prepared_doubt : (p : PreparedTxn) → IsAmong p s.sessions.prepared → logs.is_in_doubt p.txn s.log ≡ true
  prepared_doubt p m =
      let pair : IsAmong (pair_of p) (map pair_logged (doubts_in s.log)) = subst (IsAmong (pair_of p)) (sym tells.doubts.in_doubt) (among_map pair_of p s.sessions.prepared m) in
      let d = map_among pair_logged (pair_of p) (doubts_in s.log) pair in
      subst (λ t. logs.is_in_doubt t s.log ≡ true) (ap (λ (x : ℕ × List ℕ). x.0) d.2)
      (among_filter (λ (x : LoggedDoubt). logs.is_in_doubt x.txn s.log) d.0 (filter_map doubt_of s.log) d.1).1

  doubt_prepared : (t : ℕ) → logs.is_in_doubt t s.log ≡ true → (p : PreparedTxn) × IsAmong p s.sessions.prepared × (p.txn ≡ t)
  doubt_prepared t is =
      let prepares = (told.in_doubt_parts (has is_prepare t s.log) (has is_commit t s.log) (has is_rollback t s.log) is).0 in
      let among = subst (IsAmong t) (doubt_txns s.log) (told.among_filtered t (λ u. logs.is_in_doubt u s.log) is (filter_map prepare_of s.log) (told.among_prepared t s.log prepares)) in
      let d = map_among (λ (x : LoggedDoubt). x.txn) t (doubts_in s.log) among in
      let pair : IsAmong (pair_logged d.0) (pairs_of s.sessions.prepared) = subst (IsAmong (pair_logged d.0)) tells.doubts.in_doubt (among_map pair_logged d.0 (doubts_in s.log) d.1) in
      let p = map_among pair_of (pair_logged d.0) s.sessions.prepared pair in
      (p.0, p.1, ap (λ (x : ℕ × List ℕ). x.0) p.2 ∙ d.2)

  -- ---- one of the table

  module _ (t : Txn) (m : IsAmong t (table.txns_in txns)) where
    logged : IsLogged s.log t
    logged = all_among (IsLogged s.log) (table.txns_in txns) t was.each m

    under_way : IsAmong (number_of t) (txns_of s.sessions.active)
    under_way = subst (λ (ts : List SessionTxn). IsAmong (number_of t) (txns_of ts)) (sym was.active)
        (among_map (λ (a : SessionTxn). a.txn) (as_session_txn t) (undos_in txns) (among_map as_session_txn t (table.txns_in txns) m))

    doubt_is : is_in_doubt (state_of t) ≡ logs.is_in_doubt (number_of t) s.log
    doubt_is = alike (is_in_doubt (state_of t)) (logs.is_in_doubt (number_of t) s.log)
        (λ is.
        let p = doubt_as (number_of t) (unwrap_or (global_of t) []) (state_of t) is in
        let there = among_permuted s.sessions.prepared (prepared_in txns) was.prepared p.0 (made_among as_prepared t p.0 (table.txns_in txns) m p.1) in
        subst (λ n. logs.is_in_doubt n s.log ≡ true) p.2 (prepared_doubt p.0 there))
        (λ is.
        let p = doubt_prepared (number_of t) is in
        let u = doubt_there txns s was p.0 p.1 in
        let same : u.0 ≡ t = one_at_number (table.txns_in txns) txns.numbers u.0 t u.1 m (u.2.txn ∙ p.2) in
        subst (λ (x : Txn). is_in_doubt (state_of x) ≡ true) same u.2.doubt)

    newest : (es : List UndoEntry) → first_number es ≡ undo_next_of (map as_change es)
    newest [] = refl
    newest (e ∷ es) = refl

    its_entry : has_logged t ≡ true → IsEntry s.log (entry_of t)
    its_entry has_one =
        let some = t.some in
        let first : 0 < logs.first_of (number_of t) s.log = subst (λ n. 0 < n) logged.first (ltb-true 0 (first_of t) has_one) in (
          record {
            is_one = omega (arith, some);
            known = last_some (number_of t) s.log first;
            not_over = tells.whole.unended (number_of t) under_way;
            in_doubt = doubt_listed (state_of t) ∙ doubt_is;
          },
          record {
            first = logged.first;
            last = logged.last ∙ previous_positive (number_of t) (logs.last_of (number_of t) s.log) (omega (arith, some));
            undo_next = newest (reverse (entries_of t)) ∙ sym (ap undo_next_of (logged.changes ∙ turned_map as_change (entries_of t)));
            prepare = logged.prepare;
          },
        )

  each_entry : AllByRecursion (IsEntry s.log) (entries_logged (table.txns_in txns))
  each_entry = all_by_members (IsEntry s.log) (entries_logged (table.txns_in txns)) (λ e m.
      let t = map_among entry_of e (filter has_logged (table.txns_in txns)) m in
      let its = among_filtered has_logged t.0 (table.txns_in txns) t.1 in
      subst (IsEntry s.log) t.2 (its_entry t.0 its.0 its.1))

  -- ---- whoever is in the log and has not ended

  table_txn : (n : ℕ) → IsAmong n (txns_of s.sessions.active) → (t : Txn) × IsAmong t (table.txns_in txns) × (number_of t ≡ n)
  table_txn n m =
      let a = map_among (λ (x : SessionTxn). x.txn) n s.sessions.active m in
      let t = active_there txns s was a.0 a.1 in
      (t.0, t.1, ap (λ (x : SessionTxn). x.txn) t.2 ∙ a.2)

  unended_there : (r : LogRecord) → IsAmong r s.log → 0 < r.txn → is_over r.txn s.log ≡ false → (t : Txn) × IsAmong t (table.txns_in txns) × (number_of t ≡ r.txn)
  unended_there r m one runs =
      (elim (logs.is_in_doubt r.txn s.log) as (λ b. logs.is_in_doubt r.txn s.log ≡ b → (t : Txn) × IsAmong t (table.txns_in txns) × (number_of t ≡ r.txn)) [
        | true ↦ λ is. let p = doubt_prepared r.txn is in let u = doubt_there txns s was p.0 p.1 in (u.0, u.1, u.2.txn ∙ p.2)
        | false ↦ λ is_not. table_txn r.txn (tells.losers r.txn (record {
          is_one = one;
          known = last_some r.txn s.log (first_some s.log r m);
          not_over = runs;
          not_in_doubt = is_not;
        }))
      ]) refl

  module _ (listed : List LogTxn) (moved : IsPermutation (entries_logged (table.txns_in txns)) listed) where
    one_listed : (r : LogRecord) → IsAmong r s.log → IsListed s.log listed r
    one_listed r m one runs =
        let t = unended_there r m one runs in
        let first : first_of t.0 ≡ logs.first_of r.txn s.log = (logged t.0 t.1).first ∙ ap (λ n. logs.first_of n s.log) t.2 in
        let has_one = lt-ltb 0 (first_of t.0) (subst (λ n. 0 < n) (sym first) (first_some s.log r m)) in
        let there = among_map entry_of t.0 (filter has_logged (table.txns_in txns)) (among_passing has_logged t.0 (table.txns_in txns) t.1 has_one) in
        listed_by r.txn (entry_of t.0) listed (permuted_among (entries_logged (table.txns_in txns)) listed moved (entry_of t.0) there) t.2

    pub table_listed : IsTrue (rise_above 0 listed) → IsTable s.log listed
    table_listed rises = record {
      rising = rises;
      each = All-permutation (IsEntry s.log) (entries_logged (table.txns_in txns)) listed moved (All-from_recursion (IsEntry s.log) (entries_logged (table.txns_in txns)) each_entry);
      every = All-from_recursion (IsListed s.log listed) s.log (all_by_members (IsListed s.log listed) s.log one_listed);
    }
