-- Each event of the sessions keeps the order of turns.
use Rattle.std.proofs.Common.{◌≡◌, ◌≢◌, ◌⊎◌, inl, inr, ⊎_elim, ◌++◌, ℕ, List, [], ◌∷◌, Bool, true, false, cond, Some, None, Ok, Err, refl, sym, ap, subst, ◌∙◌, map, length, append-nil, append_assoc, take_all, arith}
use Rattle.std.specs.Prelude.{◌==◌, ◌||◌, IfSome, filter}
use Rattle.std.specs.List.{AllByRecursion, cons_option, list_any}
use Rattle.std.proofs.lemmas.Bool.{eq-eqb, eqb-true, eqb-false, ne_eqb}
use Rattle.shore_model.specs.declared.calls.Answer.TheVariants.{Aborted, AreInDoubt, Began, Committed, Prepared, Resolved}
use Rattle.shore_model.specs.declared.calls.Call.TheVariants as call
use Rattle.shore_model.specs.declared.calls.Exchange.{Exchange}
use Rattle.shore_model.specs.declared.histories.Decision.{Decision}
use Rattle.shore_model.specs.declared.histories.Decision.TheVariants.{Commit, Prepare, RollBack}
use Rattle.shore_model.specs.declared.histories.Entry.{Entry}
use Rattle.shore_model.specs.declared.histories.Entry.TheVariants.{Asked, Decided, Exchanged}
use Rattle.shore_model.specs.declared.histories.InDoubt.{InDoubt}
use Rattle.shore_model.specs.declared.histories.Opening.{Opening}
use Rattle.shore_model.specs.declared.progress.Progress.{Progress}
use Rattle.shore_model.specs.Alone.{MayReplyAll, start}
use Rattle.shore_model.specs.Histories.{calls_of, decisions, has_prepared, in_doubt, is_prepare_of, serial, turn_of, writes_given}
use Rattle.shore_model.specs.Records.{Records, WriteSet, overlays}
use Rattle.shore_model.proofs.Overlays.{overlays-append}
use Rattle.laws_lives.proofs.BeginSteps.{begin_kept}
use Rattle.laws_lives.proofs.DoubtDecisions.{but, doubt_commit, doubt_prepare, doubt_rollback, none_ended, pairs_without}
use Rattle.laws_lives.proofs.DoubtRecords.{among_filter}
use Rattle.laws_lives.proofs.Entries.{decisions-asked, decisions-decided, decisions-exchanged}
use Rattle.laws_lives.proofs.Exchanges.{IsQuiet, abort_is_quiet, commit_is_quiet, in_doubt_is_quiet, prepare_is_quiet, refusal_is_quiet, resolve_is_quiet}
use Rattle.laws_lives.proofs.Lists.{among_append, map-push, recursion-each}
use Rattle.laws_lives.proofs.Members.{txn_among}
use Rattle.laws_lives.proofs.ReplySteps.{decided_kept}
use Rattle.laws_lives.proofs.Steps.{prepared_among, still_prepared, was_prepared}
use Rattle.laws_lives.proofs.Turns.{AreKept, KeepsTurn, kept_by_asked, kept_by_decided, kept_by_quiet, own_writes, serial-passes, serial-push}
use Rattle.laws_lives.specs.SessionSteps.{AnswerAbort, AnswerInDoubt, AnswerPrepare, AnswerResolve, AppendCommit, AppendPrepare, AppendResolve, AppendRollback, Ask, BeginTxn, Doom, EndRollback, GiveReply, MoveLocks, PutBack, RefuseCall, SessionEvent, StepsTo, entries_by, exchange}
use Rattle.laws_lives.specs.Sessions.{EachOnce, PreparedTxn, SessionTxn, Sessions, in_doubt_of, pairs_of, txns_of, without_prepared}
use Rattle.laws_lives.specs.Soundness.{IsSoundAfter, SessionsAgree, decided_txn, history_from, serial_after, written_by}
use Rattle.laws_lives.specs.Views.{IsAmong}
use Rattle.laws_orders.proofs.Apart.{same_laid}
use Rattle.laws_orders.proofs.Choices.{counts-append, laid, laid-append, laid-push}
use Rattle.laws_orders.proofs.Doubts.{HasLocked, doubt_locked, locked_apart, own_locked, reads_serial}
use Rattle.laws_orders.proofs.Ordered.{AreOrdered, all_ordered, in_order, once_passes, once_turned, order_stays, ordered_kept, ordered_push, turns_kept}
use Rattle.laws_orders.specs.InTurns.{IsInOrder, RunsAloneInTurn, TakesTurnInOrder, counts, records_in_turns, shown_with, turns}

-- ---- lists

filtered : (p : ℕ → Bool) (t : ℕ) (ts : List ℕ) → IsAmong t ts → p t ≡ true → IsAmong t (filter p ts)
filtered p t [] among is = absurd among
filtered p t (u ∷ ts) among is =
    elim (p u) as (λ b. p u ≡ b → IsAmong t (cond b (u ∷ filter p ts) (filter p ts))) [
      | true ↦ λ e. ⊎_elim (λ same. inl same) (λ later. inr (filtered p t ts later is)) among
      | false ↦ λ e. ⊎_elim (λ same. absurd (no (sym e ∙ ap p same ∙ is))) (λ later. filtered p t ts later is) among
    ] refl
  where
    no : false ≡ true → ⊥
    no e = cc

pub pairs_txns : (ps : List PreparedTxn) → map (λ (p : ℕ × List ℕ). p.0) (pairs_of ps) ≡ map (λ (p : PreparedTxn). p.txn) ps
pairs_txns [] = refl
pairs_txns (p ∷ ps) = ap (λ ts. p.txn ∷ ts) (pairs_txns ps)

map-append : {A B : Type 0} (f : A → B) (xs ys : List A) → map f (xs ++ ys) ≡ map f xs ++ map f ys
map-append f [] ys = refl
map-append f (x ∷ xs) ys = ap (λ zs. f x ∷ zs) (map-append f xs ys)

-- one that no decision ends counts as is chosen
undecided_counts : (chosen : ℕ → Bool) (ds : List Decision) (t : ℕ) → AllByRecursion (λ d. decided_txn d ≢ t) ds → counts chosen ds t ≡ chosen t
undecided_counts chosen [] t h = refl
undecided_counts chosen (Commit u ∷ ds) t h = ap (λ b. cond b true (counts chosen ds t)) (ne_eqb u t h.0) ∙ undecided_counts chosen ds t h.1
undecided_counts chosen (RollBack u ∷ ds) t h = ap (λ b. cond b false (counts chosen ds t)) (ne_eqb u t h.0) ∙ undecided_counts chosen ds t h.1
undecided_counts chosen (Prepare u g ∷ ds) t h = undecided_counts chosen ds t h.1

-- one that was neither found in doubt nor decided was not prepared
not_given : (doubts : List InDoubt) (t : ℕ) → writes_given doubts t ≡ None → list_any (λ (d : InDoubt). d.txn == t) doubts ≡ false
not_given [] t = λ none. refl
not_given (d ∷ doubts) t =
    elim (d.txn == t) as (λ b. cond b (Some d.writes) (writes_given doubts t) ≡ None → (b || list_any (λ (d : InDoubt). d.txn == t) doubts) ≡ false) [
      | true ↦ λ e. absurd cc
      | false ↦ λ none. not_given doubts t none
    ]

not_prepared : (ds : List Decision) (t : ℕ) → AllByRecursion (λ d. decided_txn d ≢ t) ds → list_any (is_prepare_of t) ds ≡ false
not_prepared [] t h = refl
not_prepared (Commit u ∷ ds) t h = not_prepared ds t h.1
not_prepared (RollBack u ∷ ds) t h = not_prepared ds t h.1
not_prepared (Prepare u g ∷ ds) t h = ap (λ b. b || list_any (is_prepare_of t) ds) (ne_eqb u t h.0) ∙ not_prepared ds t h.1

never_prepared : (doubts : List InDoubt) (ds : List Decision) (t : ℕ) → writes_given doubts t ≡ None → AllByRecursion (λ d. decided_txn d ≢ t) ds → has_prepared doubts ds t ≡ false
never_prepared doubts ds t given undecided = ap (λ b. b || list_any (is_prepare_of t) ds) (not_given doubts t given) ∙ not_prepared ds t undecided

-- ---- a decision more

module _ {o : Opening} {es : List Entry} {s : Sessions} (k : IsSoundAfter o es s) (agree : SessionsAgree o es s) (ordered : IsInOrder (history_from o es)) where
  abbrev ds : List Decision
  ds = decisions es

  abbrev w : ℕ → WriteSet
  w = written_by o es

  abbrev now : Records
  now = serial_after o es

  abbrev doubts : List ℕ
  doubts = in_doubt_of s

  doubts_are : map (λ (p : ℕ × List ℕ). p.0) (in_doubt o.in_doubt ds) ≡ doubts
  doubts_are = ap (map (λ (p : ℕ × List ℕ). p.0)) agree.in_doubt ∙ pairs_txns s.prepared

  -- what the turns so far leave, with those in doubt that are chosen
  laid_now : (chosen : ℕ → Bool) → laid w (counts chosen ds) o.records (turns o.in_doubt ds) ≡ laid w chosen now doubts
  laid_now chosen =
      subst (λ xs. records_in_turns (history_from o es) chosen xs ≡ shown_with (history_from o es) chosen xs) (take_all (length ds) ds (omega arith)) (ordered.leaves (length ds) chosen)
      ∙ ap (λ ts. overlays now (map w (filter chosen ts))) doubts_are

  module _ (d : Decision) where
    abbrev more : List Entry
    more = es ++ Decided d ∷ []

    kept : AreKept o es more ds
    kept = recursion-each (λ c. KeepsTurn o es more (decided_txn c)) (λ c. kept_by_decided o es (decided_txn c) d) ds

    same_written : written_by o more ≡ w
    same_written = λ i t. ap (λ (p : Progress). p.writes) (kept_by_decided o es t d).progress i

    -- one whose turn it is runs alone
    runs_alone : (t : ℕ) → IsAmong t (txns_of s.active) → (IsAmong t doubts → ⊥) → writes_given o.in_doubt t ≡ None → RunsAloneInTurn (history_from o more) ds t
    runs_alone t active outside own chosen = (
      subst (λ R. MayReplyAll o.slots R start (calls_of t more)) (sym (turns_kept o es more ds kept chosen ∙ laid_now chosen))
          ((kept_by_decided o es t d).replies _ (k.replies t active _ (reads_serial k agree t outside chosen))),
      own_writes (writes_given o.in_doubt t) (calls_of t more) own,
    )

    -- what the turns leave then
    abbrev in_turns : (ℕ → WriteSet) → (ℕ → Bool) → Records
    in_turns v chosen = laid v (counts chosen (ds ++ d ∷ [])) o.records (turns o.in_doubt (ds ++ d ∷ []))

    abbrev shows : (ℕ → WriteSet) → (ℕ → Bool) → Records
    shows v chosen = overlays (serial v o.records (ds ++ d ∷ [])) (map v (filter chosen (map (λ (p : ℕ × List ℕ). p.0) (in_doubt o.in_doubt (ds ++ d ∷ [])))))

    decided_in_order : EachOnce (turns o.in_doubt (ds ++ d ∷ [])) → TakesTurnInOrder (history_from o more) ds d → ((chosen : ℕ → Bool) → in_turns w chosen ≡ shows w chosen) → IsInOrder (history_from o more)
    decided_in_order once turn leaves =
        in_order (history_from o more) (subst (λ ds. EachOnce (turns o.in_doubt ds)) (sym (decisions-decided es d)) once)
        (subst (AreOrdered (history_from o more)) (sym (decisions-decided es d))
        (ordered_push (history_from o more) ds d (ordered_kept o es more ds kept (all_ordered (history_from o es) ordered)) turn
        (λ chosen. subst (λ v. in_turns v chosen ≡ shows v chosen) (sym same_written) (leaves chosen))))

    laid_more : (chosen : ℕ → Bool) → in_turns w chosen
        ≡ laid w (counts chosen (ds ++ d ∷ [])) (laid w (counts chosen (d ∷ [])) now doubts) (cons_option (turn_of o.in_doubt ds d) [])
    laid_more chosen =
        laid-push w o.in_doubt o.records chosen ds d
        ∙ ap (λ R. laid w (counts chosen (ds ++ d ∷ [])) R (cons_option (turn_of o.in_doubt ds d) [])) (laid_now (counts chosen (d ∷ [])))

  -- ---- a prepare

  module _ (t : ℕ) (active : IsAmong t (txns_of s.active)) (outside : IsAmong t doubts → ⊥) (own : writes_given o.in_doubt t ≡ None) (undecided : AllByRecursion (λ d. decided_txn d ≢ t) ds) where
    unprepared : has_prepared o.in_doubt ds t ≡ false
    unprepared = never_prepared o.in_doubt ds t own undecided

    prepare_leaves : (g : List ℕ) (chosen : ℕ → Bool) → in_turns (Prepare t g) w chosen ≡ shows (Prepare t g) w chosen
    prepare_leaves g chosen =
        laid_more (Prepare t g) chosen
        ∙ ap (λ b. laid w (counts chosen (ds ++ Prepare t g ∷ [])) (laid w chosen now doubts) (cons_option (cond b None (Some t)) [])) unprepared
        ∙ ap (λ b. overlays (laid w chosen now doubts) (map w (cond b (t ∷ []) []))) counted
        ∙ sym (laid-append w chosen now doubts (t ∷ []))
        ∙ sym (ap (λ ts. laid w chosen (serial w o.records (ds ++ Prepare t g ∷ [])) ts) in_doubt_then ∙ ap (λ R. laid w chosen R (doubts ++ t ∷ [])) (serial-passes w o.records ds (Prepare t g) refl))
      where
        counted : counts chosen (ds ++ Prepare t g ∷ []) t ≡ chosen t
        counted = ap (λ f. f t) (counts-append chosen ds (Prepare t g ∷ [])) ∙ undecided_counts (counts chosen (Prepare t g ∷ [])) ds t undecided

        in_doubt_then : map (λ (p : ℕ × List ℕ). p.0) (in_doubt o.in_doubt (ds ++ Prepare t g ∷ [])) ≡ doubts ++ t ∷ []
        in_doubt_then =
            ap (map (λ (p : ℕ × List ℕ). p.0)) (doubt_prepare o.in_doubt ds t g (none_ended o.in_doubt t ds undecided))
            ∙ map-push (λ (p : ℕ × List ℕ). p.0) (in_doubt o.in_doubt ds) (t, g)
            ∙ ap (λ ts. ts ++ t ∷ []) doubts_are

    pub prepare_in_order : (g : List ℕ) → IsInOrder (history_from o (es ++ Decided (Prepare t g) ∷ []))
    prepare_in_order g =
        decided_in_order (Prepare t g) (once_turned o.in_doubt ds (Prepare t g) t (ap (λ b. cond b None (Some t)) unprepared) own undecided ordered.once)
        (subst (λ b. IfSome (cond b None (Some t)) (RunsAloneInTurn (history_from o (es ++ Decided (Prepare t g) ∷ [])) ds)) (sym unprepared) (runs_alone (Prepare t g) t active outside own))
        (prepare_leaves g)

  -- ---- those in doubt without one

  module _ (t : ℕ) where
    abbrev rest : List ℕ
    rest = map (λ (p : PreparedTxn). p.txn) (without_prepared t s.prepared)

    rest_are : map (λ (p : ℕ × List ℕ). p.0) (but t (in_doubt o.in_doubt ds)) ≡ rest
    rest_are =
        ap (λ ps. map (λ (p : ℕ × List ℕ). p.0) (but t ps)) agree.in_doubt ∙ ap (map (λ (p : ℕ × List ℕ). p.0)) (sym (pairs_without t s.prepared))
        ∙ pairs_txns (without_prepared t s.prepared)

    shown_then : (chosen : ℕ → Bool) → shows (Commit t) w chosen ≡ overlays now (map w (t ∷ filter chosen rest))
    shown_then chosen =
        ap (λ ts. laid w chosen (serial w o.records (ds ++ Commit t ∷ [])) ts) (ap (map (λ (p : ℕ × List ℕ). p.0)) (doubt_commit o.in_doubt ds t) ∙ rest_are)
        ∙ ap (λ R. laid w chosen R rest) (serial-push w o.records ds t)

    -- one of those in doubt counts if it is the one or is chosen
    counts_then : (chosen : ℕ → Bool) (u : ℕ) → IsAmong u (filter (counts chosen (Commit t ∷ [])) doubts) → (t ≡ u) ⊎ IsAmong u (filter chosen rest)
    counts_then chosen u among =
        let was = among_filter (counts chosen (Commit t ∷ [])) u doubts among in
        elim (t == u) as (λ b. (t == u) ≡ b → cond b true (chosen u) ≡ true → (t ≡ u) ⊎ IsAmong u (filter chosen rest)) [
          | true ↦ λ e is. inl (eqb-true t u e)
          | false ↦ λ e is. inr (filtered chosen u rest (still_prepared t u s.prepared was.0 (λ same. eqb-false t u e (sym same))) is)
        ] refl was.1

    counted_others : (chosen : ℕ → Bool) (u : ℕ) → IsAmong u (filter chosen rest) → IsAmong u (filter (counts chosen (Commit t ∷ [])) doubts)
    counted_others chosen u among =
        let is = among_filter chosen u rest among in
        let was = was_prepared t u s.prepared is.0 in
        filtered (counts chosen (Commit t ∷ [])) u doubts was.0 (ap (λ b. cond b true (chosen u)) (ne_eqb t u (λ same. was.1 (sym same))) ∙ is.1)

    all_locked : (chosen : ℕ → Bool) (u : ℕ) → IsAmong u (filter chosen doubts) → HasLocked k agree u
    all_locked chosen u among = doubt_locked k agree u (among_filter chosen u doubts among).0

    -- ---- its commit, where it was in doubt

    resolve_leaves : IsAmong t doubts → has_prepared o.in_doubt ds t ≡ true → (chosen : ℕ → Bool) → in_turns (Commit t) w chosen ≡ shows (Commit t) w chosen
    resolve_leaves doubt turned chosen =
        laid_more (Commit t) chosen
        ∙ ap (λ b. laid w (counts chosen (ds ++ Commit t ∷ [])) (laid w c1 now doubts) (cons_option (cond b None (Some t)) [])) turned
        ∙ same_laid w now (filter c1 doubts) (t ∷ filter chosen rest) (locked_apart k agree (filter c1 doubts) (all_locked c1))
        (λ u among. ⊎_elim (λ same. inl same) (λ later. inr later) (counts_then chosen u among))
        (λ u among. ⊎_elim (λ same. subst (λ v. IsAmong v (filter c1 doubts)) same (filtered c1 t doubts doubt (ap (λ b. cond b true (chosen t)) (eq-eqb t t refl)))) (λ later. counted_others chosen u later) among)
        ∙ sym (shown_then chosen)
      where
        c1 : ℕ → Bool
        c1 = counts chosen (Commit t ∷ [])

    pub resolve_in_order : IsAmong t doubts → IsInOrder (history_from o (es ++ Decided (Commit t) ∷ []))
    resolve_in_order doubt =
        let turned = agree.turned t doubt in
        decided_in_order (Commit t) (once_passes o.in_doubt ds (Commit t) (ap (λ b. cond b None (Some t)) turned) ordered.once)
        (subst (λ b. IfSome (cond b None (Some t)) (RunsAloneInTurn (history_from o (es ++ Decided (Commit t) ∷ [])) ds)) (sym turned) tt)
        (resolve_leaves doubt turned)

    -- ---- its rollback

    rollback_leaves : (chosen : ℕ → Bool) → in_turns (RollBack t) w chosen ≡ shows (RollBack t) w chosen
    rollback_leaves chosen =
        laid_more (RollBack t) chosen
        ∙ same_laid w now (filter c1 doubts) (filter chosen rest) (locked_apart k agree (filter c1 doubts) (all_locked c1)) to back
        ∙ sym (ap (λ ts. laid w chosen (serial w o.records (ds ++ RollBack t ∷ [])) ts) (ap (map (λ (p : ℕ × List ℕ). p.0)) (doubt_rollback o.in_doubt ds t) ∙ rest_are)
        ∙ ap (λ R. laid w chosen R rest) (serial-passes w o.records ds (RollBack t) refl))
      where
        c1 : ℕ → Bool
        c1 = counts chosen (RollBack t ∷ [])

        no : false ≡ true → ⊥
        no e = cc

        to : (u : ℕ) → IsAmong u (filter c1 doubts) → IsAmong u (filter chosen rest)
        to u among =
            let was = among_filter c1 u doubts among in
            elim (t == u) as (λ b. (t == u) ≡ b → cond b false (chosen u) ≡ true → IsAmong u (filter chosen rest)) [
              | true ↦ λ e is. absurd (no is)
              | false ↦ λ e is. filtered chosen u rest (still_prepared t u s.prepared was.0 (λ same. eqb-false t u e (sym same))) is
            ] refl was.1

        back : (u : ℕ) → IsAmong u (filter chosen rest) → IsAmong u (filter c1 doubts)
        back u among =
            let is = among_filter chosen u rest among in
            let was = was_prepared t u s.prepared is.0 in
            filtered c1 u doubts was.0 (ap (λ b. cond b false (chosen u)) (ne_eqb t u (λ same. was.1 (sym same))) ∙ is.1)

    pub rollback_in_order : IsInOrder (history_from o (es ++ Decided (RollBack t) ∷ []))
    rollback_in_order = decided_in_order (RollBack t) (once_passes o.in_doubt ds (RollBack t) refl ordered.once) tt rollback_leaves

  -- ---- its commit, where it was not prepared

  module _ (a : SessionTxn) (mem : IsAmong a s.active) (none : a.undo.rolling ≡ None) (outside : IsAmong a.txn doubts → ⊥) (own : writes_given o.in_doubt a.txn ≡ None)
      (undecided : AllByRecursion (λ d. decided_txn d ≢ a.txn) ds) where
    abbrev t : ℕ
    t = a.txn

    commit_leaves : (chosen : ℕ → Bool) → in_turns (Commit t) w chosen ≡ shows (Commit t) w chosen
    commit_leaves chosen =
        laid_more (Commit t) chosen
        ∙ ap (λ b. laid w (counts chosen (ds ++ Commit t ∷ [])) (laid w c1 now doubts) (cons_option (cond b None (Some t)) [])) (never_prepared o.in_doubt ds t own undecided)
        ∙ ap (λ b. overlays (laid w c1 now doubts) (map w (cond b (t ∷ []) []))) counted
        ∙ sym (ap (overlays now) (map-append w (filter c1 doubts) (t ∷ [])) ∙ overlays-append now (map w (filter c1 doubts)) (w t ∷ []))
        ∙ same_laid w now (filter c1 doubts ++ t ∷ []) (t ∷ filter chosen (rest t)) (locked_apart k agree (filter c1 doubts ++ t ∷ []) locked) to back
        ∙ sym (shown_then t chosen)
      where
        c1 : ℕ → Bool
        c1 = counts chosen (Commit t ∷ [])

        counted : counts chosen (ds ++ Commit t ∷ []) t ≡ true
        counted = ap (λ f. f t) (counts-append chosen ds (Commit t ∷ [])) ∙ undecided_counts c1 ds t undecided ∙ ap (λ b. cond b true (chosen t)) (eq-eqb t t refl)

        locked : (u : ℕ) → IsAmong u (filter c1 doubts ++ t ∷ []) → HasLocked k agree u
        locked u among = ⊎_elim (λ doubt. all_locked t c1 u doubt)
            (λ last. ⊎_elim (λ same. subst (HasLocked k agree) same (own_locked k agree a mem none)) (λ no. absurd no) last)
            (among_append u (filter c1 doubts) (t ∷ []) among)

        to : (u : ℕ) → IsAmong u (filter c1 doubts ++ t ∷ []) → IsAmong u (t ∷ filter chosen (rest t))
        to u among = ⊎_elim (λ doubt. counts_then t chosen u doubt) (λ last. ⊎_elim (λ same. inl same) (λ no. absurd no) last) (among_append u (filter c1 doubts) (t ∷ []) among)

        last_one : (ts : List ℕ) → IsAmong t (ts ++ t ∷ [])
        last_one [] = inl refl
        last_one (u ∷ ts) = inr (last_one ts)

        among_first : (u : ℕ) (ts : List ℕ) → IsAmong u ts → IsAmong u (ts ++ t ∷ [])
        among_first u [] among = absurd among
        among_first u (v ∷ ts) among = ⊎_elim (λ same. inl same) (λ later. inr (among_first u ts later)) among

        back : (u : ℕ) → IsAmong u (t ∷ filter chosen (rest t)) → IsAmong u (filter c1 doubts ++ t ∷ [])
        back u among = ⊎_elim (λ same. subst (λ v. IsAmong v (filter c1 doubts ++ t ∷ [])) same (last_one (filter c1 doubts)))
            (λ later. among_first u (filter c1 doubts) (counted_others t chosen u later)) among

    pub commit_in_order : IsInOrder (history_from o (es ++ Decided (Commit t) ∷ []))
    commit_in_order =
        decided_in_order (Commit t) (once_turned o.in_doubt ds (Commit t) t (ap (λ b. cond b None (Some t)) (never_prepared o.in_doubt ds t own undecided)) own undecided ordered.once)
        (subst (λ b. IfSome (cond b None (Some t)) (RunsAloneInTurn (history_from o (es ++ Decided (Commit t) ∷ [])) ds)) (sym (never_prepared o.in_doubt ds t own undecided))
        (runs_alone (Commit t) t (txn_among a s.active mem) outside own))
        commit_leaves

-- a quiet reply
quiet_in_order : (o : Opening) (es : List Entry) (session t : ℕ) (x : Exchange) → IsQuiet o.slots x → IsInOrder (history_from o es) → IsInOrder (history_from o (es ++ Exchanged session t x ∷ []))
quiet_in_order o es session t x quiet k =
    order_stays o es (es ++ Exchanged session t x ∷ []) (decisions-exchanged es t session x)
    (recursion-each (λ d. KeepsTurn o es (es ++ Exchanged session t x ∷ []) (decided_txn d)) (λ d. kept_by_quiet o es (decided_txn d) t session x quiet) (decisions es)) k

no_more : (o : Opening) (es : List Entry) → IsInOrder (history_from o es) → IsInOrder (history_from o (es ++ []))
no_more o es k = subst (λ xs. IsInOrder (history_from o xs)) (sym (append-nil es)) k

pub event_in_order : (o : Opening) (es : List Entry) (old new : Sessions) (e : SessionEvent) → IsSoundAfter o es old → SessionsAgree o es old → StepsTo old e new
    → IsInOrder (history_from o es) → IsInOrder (history_from o (es ++ entries_by old e))
event_in_order o es old new (MoveLocks held) k agree moves ordered = no_more o es ordered
event_in_order o es old new (BeginTxn session) k agree moves ordered =
    order_stays o es (es ++ entries_by old (BeginTxn session)) (decisions-exchanged es old.next_txn session (exchange call.Begin (Ok (Began old.next_txn)))) (begin_kept k session) ordered
event_in_order o es old new (GiveReply a c reply) k agree moves ordered =
    order_stays o es (es ++ entries_by old (GiveReply a c reply)) (decisions-exchanged es a.txn a.session (exchange c reply)) (decided_kept k a moves.0.0 moves.0.2 (exchange c reply)) ordered
event_in_order o es old new (AppendCommit a ticket) k agree moves ordered =
    let active = txn_among a old.active moves.0.0 in
    let x : Exchange = exchange call.Commit (Ok (Committed ticket)) in
    subst (λ xs. IsInOrder (history_from o xs)) (append_assoc es (Decided (Commit a.txn) ∷ []) (Exchanged a.session a.txn x ∷ []))
    (quiet_in_order o (es ++ Decided (Commit a.txn) ∷ []) a.session a.txn x (commit_is_quiet o.slots ticket)
    (commit_in_order k agree ordered a moves.0.0 moves.1 moves.0.2.0 (k.own a.txn active moves.0.2) (k.undecided a.txn active moves.0.2)))
event_in_order o es old new (PutBack a images e r) k agree moves ordered = no_more o es ordered
event_in_order o es old new (Doom a) k agree moves ordered = no_more o es ordered
event_in_order o es old new (AnswerAbort a) k agree moves ordered = quiet_in_order o es a.session a.txn (exchange call.Abort (Ok Aborted)) (abort_is_quiet o.slots) ordered
event_in_order o es old new (Ask ticket durable) k agree moves ordered =
    order_stays o es (es ++ Asked ticket durable ∷ []) (decisions-asked es ticket durable)
    (recursion-each (λ d. KeepsTurn o es (es ++ Asked ticket durable ∷ []) (decided_txn d)) (λ d. kept_by_asked o es (decided_txn d) ticket durable) (decisions es)) ordered
event_in_order o es old new (RefuseCall session t c fault) k agree moves ordered =
    quiet_in_order o es session t (exchange c (Err fault)) (refusal_is_quiet o.slots c fault moves.1) ordered
event_in_order o es old new (AppendPrepare a global granules) k agree moves ordered =
    let active = txn_among a old.active moves.0.0 in
    prepare_in_order k agree ordered a.txn active moves.0.2.0 (k.own a.txn active moves.0.2) (k.undecided a.txn active moves.0.2) global
event_in_order o es old new (AnswerPrepare session t global) k agree moves ordered =
    quiet_in_order o es session t (exchange (call.Prepare global) (Ok Prepared)) (prepare_is_quiet o.slots global) ordered
event_in_order o es old new (AppendResolve a global) k agree moves ordered = resolve_in_order k agree ordered a.txn (prepared_among _ old.prepared moves.2)
event_in_order o es old new (AppendRollback a global) k agree moves ordered = rollback_in_order k agree ordered a.txn
event_in_order o es old new (EndRollback a) k agree moves ordered = no_more o es ordered
event_in_order o es old new (AnswerResolve session r) k agree moves ordered =
    quiet_in_order o es session r.txn (exchange (call.Resolve r.global r.outcome) (Ok Resolved)) (resolve_is_quiet o.slots r.global r.outcome) ordered
event_in_order o es old new (AnswerInDoubt session t pairs) k agree moves ordered =
    quiet_in_order o es session t (exchange call.InDoubt (Ok (AreInDoubt pairs))) (in_doubt_is_quiet o.slots pairs) ordered
