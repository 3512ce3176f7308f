-- The worked runs of prepared transactions: each event may come.
use Rattle.std.proofs.Common.{◌≡◌, inl, inr, ⊎_elim, ◌++◌, ℕ, zero, suc, List, [], ◌∷◌, Some, Ok, refl, sym, ap, subst, ◌∙◌, ◌<◌, arith}
use Rattle.std.specs.Prelude.{All, Contains, IsSome, IsSomeAnd, IsTrue, take}
use Rattle.std.specs.FinMap.{empty, get, insert}
use Rattle.std.proofs.lemmas.List.Elements.{All-cons, All-contains, All-nil}
use Rattle.shore_types.specs.declared.faults.Fault.TheVariants.{IsPrepared}
use Rattle.shore_types.specs.declared.ids.Rid.{Rid}
use Rattle.shore_types.specs.declared.locking.Granule.TheVariants.{Page, Record, Store, Volume}
use Rattle.shore_types.specs.declared.locking.Mode.TheVariants.{EX}
use Rattle.shore_model.specs.declared.calls.Answer.TheVariants.{Got, Updated}
use Rattle.shore_model.specs.declared.calls.Call.TheVariants as call
use Rattle.shore_model.specs.declared.histories.Decision.{Decision}
use Rattle.shore_model.specs.declared.histories.Decision.TheVariants as decision
use Rattle.shore_model.specs.declared.histories.Entry.{Entry}
use Rattle.shore_model.specs.declared.holds.Hold.{Hold}
use Rattle.shore_model.specs.Histories.{IsHistory, Kept, decisions, in_doubt}
use Rattle.shore_model.specs.Locks.{Agree, Harmony, HoldsAtLeast, MayRead, MayWrite, ancestors}
use Rattle.shore_model.specs.Modes.{is_write}
use Rattle.shore_model.specs.Records.{Records, put_image}
use Rattle.shore_model.proofs.RecordPaths.{head_contained}
use Rattle.laws_lives.proofs.DoubtLocks.{contained_among}
use Rattle.laws_lives.proofs.Ids.{put_here}
use Rattle.laws_lives.proofs.WorkedRun.{only_one}
use Rattle.shore_model.specs.declared.rollbacks.Rollback.TheVariants.{Whole}
use Rattle.laws_lives.specs.SessionSteps.{AnswerInDoubt, AnswerPrepare, AnswerResolve, AppendPrepare, AppendResolve, AppendRollback, AreExclusive, AreThoseInDoubt, BeginTxn, GiveReply, RefuseCall, entries_by}
use Rattle.laws_lives.specs.Doubts.{doubts_in, restored_locks, undo_in}
use Rattle.laws_lives.specs.Sessions.{Sessions, image_put_back, locks_moved, prepare_answered, prepare_appended, reply_given, resolve_answered, resolve_appended, rollback_appended, rollback_ended, seated, txn_begun}
use Rattle.laws_lives.specs.Soundness.{RunsTo, history_from, opening_with}
use Rattle.laws_lives.specs.UndoLists.{nothing_to_undo}
use Rattle.laws_lives.specs.Views.{IsAmong}
use Rattle.laws_lives.specs.WorkedDoubts.{all_undone, changed_once, doubtful_log, doubtful_open, found_again, intention, late_answer, prepared_once, preparer, resolved_after_open, resolved_first, resolved_to_abort, resolved_to_commit, second_reader, to_abort, to_be_undone, to_commit}
use Rattle.laws_lives.specs.WorkedRun.{just_opened, read_lock, write_lock}

pub none_below_0 : (n : ℕ) → n < 0 → ⊥
none_below_0 n less = omega arith

-- one lock is in harmony with itself
pub alone_in_harmony : (h : Hold) → Harmony (h ∷ [])
alone_in_harmony h = record {
  stand_together = All-cons (λ i. All (Agree i) (h ∷ [])) h [] (All-cons (Agree h) h [] (λ e other. absurd (other refl)) (All-nil (Agree h))) (All-nil (λ i. All (Agree i) (h ∷ [])));
  none_interferes = λ r t u other w d.
      other (sym w.4.0 ∙ ap (λ (h : Hold). h.txn) (sym (only_one h w.1 (w.0, w.2, w.3)) ∙ only_one h d.1 (d.0, d.2, d.3)) ∙ d.4.0);
}

pub one_below : (n : ℕ) (h : Hold) → h.txn < n → All (λ (h : Hold). h.txn < n) (h ∷ [])
one_below n h less = All-cons (λ (h : Hold). h.txn < n) h [] less (All-nil (λ (h : Hold). h.txn < n))

module _ (a : Rid) where
  abbrev lock : Hold
  lock = write_lock 1 a

  writes : MayWrite (lock ∷ []) 1 a
  writes = (0, lock, omega arith, refl, (refl, head_contained (Record a) (ancestors (Record a)), refl))

  exclusive : AreExclusive (lock ∷ []) 1 (Record a ∷ [])
  exclusive = record {
    each = All-cons (HoldsAtLeast (lock ∷ []) 1 EX) (Record a) [] (0, lock, omega arith, refl, (refl, refl, refl)) (All-nil (HoldsAtLeast (lock ∷ []) 1 EX));
    all = All-cons (λ (h : Hold). h.txn ≡ 1 → IsTrue (is_write h.mode) → Contains (Record a ∷ []) h.granule) lock [] (λ e w. head_contained (Record a) [])
        (All-nil (λ (h : Hold). h.txn ≡ 1 → IsTrue (is_write h.mode) → Contains (Record a ∷ []) h.granule));
  }

  module _ (o : Records) (x z global : List ℕ) (at_a : get o a ≡ Some x) where
    abbrev s1 : Sessions
    s1 = seated (just_opened 2042 o) (entries_by (just_opened 2042 o) (BeginTxn 1)) (txn_begun (just_opened 2042 o) 1)

    abbrev s2 : Sessions
    s2 = locks_moved s1 (lock ∷ [])

    abbrev s3 : Sessions
    s3 = seated s2 (entries_by s2 (GiveReply (preparer nothing_to_undo) (call.Update a z) (Ok Updated))) (reply_given s2 (preparer nothing_to_undo) (call.Update a z) (Ok Updated))

    abbrev s4 : Sessions
    s4 = seated s3 (entries_by s3 (AppendPrepare (preparer (changed_once o a)) global (Record a ∷ []))) (prepare_appended s3 (preparer (changed_once o a)) global)

    abbrev s5 : Sessions
    s5 = seated s4 (entries_by s4 (AnswerPrepare 1 1 global)) (prepare_answered s4 1)

    -- to the Prepare
    pub prepare_once : (last : Sessions) × (made : List Entry) × RunsTo (just_opened 2042 o) (prepared_once o a z global) [] last made
        × (decisions made ≡ decision.Prepare 1 global ∷ []) × (in_doubt [] (decisions made) ≡ (1, global) ∷ [])
    prepare_once =
        let run : (made : List Entry) × RunsTo (just_opened 2042 o) (prepared_once o a z global) [] s4 made = (
          _,
          (
            s1,
            (refl, refl),
            (
              s2,
              (alone_in_harmony lock, (λ t among m g h. absurd (none_below_0 h.0 h.2)), one_below 2 lock (omega arith), refl),
              (
                s3,
                ((inl refl, refl, (λ h. h, λ h. h)), tt, (writes, (subst IsSome (sym at_a) refl, refl)), inl refl, refl),
                (s4, ((inl refl, refl, (λ h. h, λ h. h)), refl, tt, exclusive, refl), (refl, refl)),
              ),
            ),
          ),
        ) in
        (s4, run.0, run.1, refl, refl)

    -- ---- resolved to abort

    abbrev t6 : Sessions
    t6 = seated s5 (entries_by s5 (RefuseCall 1 1 call.Commit IsPrepared)) s5

    abbrev t7 : Sessions
    t7 = seated t6 (entries_by t6 (AppendRollback (preparer (changed_once o a)) global)) (rollback_appended t6 (preparer (changed_once o a)) global)

    abbrev t8 : Sessions
    t8 = seated t7 (entries_by t7 (BeginTxn 1)) (txn_begun t7 1)

    abbrev t9 : Sessions
    t9 = image_put_back t8 (preparer (to_be_undone o a)) [] (a, get o a) Whole

    abbrev t10 : Sessions
    t10 = rollback_ended t9 (preparer all_undone)

    abbrev t11 : Sessions
    t11 = seated t10 (entries_by t10 (AnswerResolve 3 (to_abort global))) (resolve_answered t10 1)

    pub resolve_to_abort : (last : Sessions) × (made : List Entry) × RunsTo (just_opened 2042 o) (resolved_to_abort o a z global) [] last made
        × (get last.records a ≡ Some x) × (in_doubt [] (decisions made) ≡ [])
    resolve_to_abort =
        let run : (made : List Entry) × RunsTo (just_opened 2042 o) (resolved_to_abort o a z global) [] t11 made = (
          _,
          (
            s1,
            (refl, refl),
            (
              s2,
              (alone_in_harmony lock, (λ t among m g h. absurd (none_below_0 h.0 h.2)), one_below 2 lock (omega arith), refl),
              (
                s3,
                ((inl refl, refl, (λ h. h, λ h. h)), tt, (writes, (subst IsSome (sym at_a) refl, refl)), inl refl, refl),
                (
                  s4,
                  ((inl refl, refl, (λ h. h, λ h. h)), refl, tt, exclusive, refl),
                  (
                    s5,
                    (inl refl, refl, refl),
                    (
                      t6,
                      (refl, tt, refl),
                      (
                        t7,
                        (inl refl, inl refl, refl),
                        (
                          t8,
                          (refl, refl),
                          (
                            t9,
                            ((inr (inl refl), λ h. h), refl, tt, omega arith, refl),
                            (
                              t10,
                              ((inr (inl refl), λ h. h), inl refl, refl),
                              (t11, (inl refl, (λ h. ⊎_elim (λ e. two_not_one e) (λ no. no) h), refl), (refl, refl)),
                            ),
                          ),
                        ),
                      ),
                    ),
                  ),
                ),
              ),
            ),
          ),
        ) in
        (t11, run.0, run.1, put_here (put_image o a (Some z)) a (get o a) ∙ at_a, refl)
      where
        two_not_one : ◌≡◌ {A = ℕ} 2 1 → ⊥
        two_not_one e = omega arith

    -- ---- resolved to commit

    abbrev u6 : Sessions
    u6 = seated s5 (entries_by s5 (AppendResolve (preparer (changed_once o a)) global)) (resolve_appended s5 (preparer (changed_once o a)) global)

    abbrev u7 : Sessions
    u7 = locks_moved u6 []

    abbrev u8 : Sessions
    u8 = seated u7 (entries_by u7 (BeginTxn 2)) (txn_begun u7 2)

    abbrev u9 : Sessions
    u9 = locks_moved u8 (read_lock 2 a ∷ [])

    abbrev u10 : Sessions
    u10 = seated u9 (entries_by u9 (GiveReply second_reader (call.Get a) (Ok (Got z)))) (reply_given u9 second_reader (call.Get a) (Ok (Got z)))

    abbrev u11 : Sessions
    u11 = seated u10 (entries_by u10 (AnswerResolve 3 (to_commit global))) (resolve_answered u10 1)

    reads : MayRead (read_lock 2 a ∷ []) 2 a
    reads = (0, read_lock 2 a, omega arith, refl, (refl, head_contained (Record a) (ancestors (Record a)), refl))

    z_there : get (put_image o a (Some z)) a ≡ Some z
    z_there = put_here o a (Some z)

    pub resolve_to_commit : (last : Sessions) × (made : List Entry) × RunsTo (just_opened 2042 o) (resolved_to_commit o a z global) [] last made
        × (get last.records a ≡ Some z) × (decisions made ≡ decision.Prepare 1 global ∷ decision.Commit 1 ∷ []) × (in_doubt [] (decisions made) ≡ [])
    resolve_to_commit =
        let run : (made : List Entry) × RunsTo (just_opened 2042 o) (resolved_to_commit o a z global) [] u11 made = (
          _,
          (
            s1,
            (refl, refl),
            (
              s2,
              (alone_in_harmony lock, (λ t among m g h. absurd (none_below_0 h.0 h.2)), one_below 2 lock (omega arith), refl),
              (
                s3,
                ((inl refl, refl, (λ h. h, λ h. h)), tt, (writes, (subst IsSome (sym at_a) refl, refl)), inl refl, refl),
                (
                  s4,
                  ((inl refl, refl, (λ h. h, λ h. h)), refl, tt, exclusive, refl),
                  (
                    s5,
                    (inl refl, refl, refl),
                    (
                      u6,
                      (inl refl, refl, inl refl, refl),
                      (
                        u7,
                        (no_locks, (λ t among. absurd among), All-nil _, refl),
                        (
                          u8,
                          (refl, refl),
                          (
                            u9,
                            (alone_in_harmony (read_lock 2 a), (λ t among m g h. absurd (none_below_0 h.0 h.2)), one_below 3 (read_lock 2 a) (omega arith), refl),
                            (
                              u10,
                              ((inl refl, refl, (λ h. h, λ h. ⊎_elim (λ e. one_not_two e) (λ no. no) h)), tt, (reads, subst (λ o. IsSomeAnd o (λ bytes. Got z ≡ Got bytes)) (sym z_there) refl), inl refl, refl),
                              (u11, (inl refl, (λ h. ⊎_elim (λ e. two_not_one e) (λ no. no) h), refl), (refl, refl)),
                            ),
                          ),
                        ),
                      ),
                    ),
                  ),
                ),
              ),
            ),
          ),
        ) in
        (u11, run.0, run.1, z_there, refl, refl)
      where
        two_not_one : ◌≡◌ {A = ℕ} 2 1 → ⊥
        two_not_one e = omega arith

        one_not_two : ◌≡◌ {A = ℕ} 1 2 → ⊥
        one_not_two e = omega arith

        no_locks : Harmony []
        no_locks = record { stand_together = All-nil _; none_interferes = λ r t u other w d. omega (arith, w.2) }

-- ---- from an open that finds it in doubt

-- what the log gives back is what the transaction had
pub log_gives_back : (a : Rid) (o : Records) (z global : List ℕ) → (doubts_in (doubtful_log o a z global) ≡ record { txn = 1; global = global; granules = Record a ∷ [] } ∷ [])
    × (undo_in (doubtful_log o a z global) 1 ≡ changed_once o a)
    × (restored_locks (doubts_in (doubtful_log o a z global)) ≡ write_lock 1 a ∷ intention (Page a.page) ∷ intention (Store a.page.store) ∷ intention Volume ∷ [])
log_gives_back a o z global = (refl, refl, refl)

module _ (a : Rid) (o : Records) (x z global : List ℕ) (at_a : get o a ≡ Some x) where
  abbrev v0 : Sessions
  v0 = doubtful_open o a z global

  abbrev v1 : Sessions
  v1 = seated v0 (entries_by v0 (BeginTxn 2)) (txn_begun v0 2)

  abbrev v2 : Sessions
  v2 = seated v1 (entries_by v1 (AnswerInDoubt 2 2 ((global, 1) ∷ []))) v1

  abbrev v3 : Sessions
  v3 = seated v2 (entries_by v2 (AppendRollback (found_again (changed_once o a)) global)) (rollback_appended v2 (found_again (changed_once o a)) global)

  abbrev v4 : Sessions
  v4 = image_put_back v3 (found_again (to_be_undone o a)) [] (a, get o a) Whole

  abbrev v5 : Sessions
  v5 = rollback_ended v4 (found_again all_undone)

  abbrev v6 : Sessions
  v6 = seated v5 (entries_by v5 (AnswerResolve 2 (to_abort global))) (resolve_answered v5 1)

  one_pair : AreThoseInDoubt v1 ((global, 1) ∷ [])
  one_pair = record {
    each = λ t g m. ⊎_elim (λ e. inl (ap (λ (p : List ℕ × ℕ). (p.1, p.0)) e)) (λ none. absurd none) m;
    all = λ t g m. ⊎_elim (λ e. inl (ap (λ (p : ℕ × List ℕ). (p.1, p.0)) e)) (λ none. absurd none) m;
  }

  two_not_one : ◌≡◌ {A = ℕ} 2 1 → ⊥
  two_not_one e = omega arith

  pub resolve_after_open : (last : Sessions) × (made : List Entry) × RunsTo (doubtful_open o a z global) (resolved_after_open o a global) [] last made
      × (get last.records a ≡ Some x) × (in_doubt (record { txn = 1; global = global; writes = insert empty a (Some z) } ∷ []) (decisions made) ≡ [])
  resolve_after_open =
      let run : (made : List Entry) × RunsTo (doubtful_open o a z global) (resolved_after_open o a global) [] v6 made = (
        _,
        (
          v1,
          (refl, refl),
          (
            v2,
            (refl, one_pair, refl),
            (
              v3,
              (inr (inl refl), inl refl, refl),
              (
                v4,
                ((inr (inl refl), λ h. h), refl, tt, omega arith, refl),
                (
                  v5,
                  ((inr (inl refl), λ h. h), inl refl, refl),
                  (v6, (inl refl, (λ h. ⊎_elim (λ e. two_not_one e) (λ none. none) h), refl), (refl, refl)),
                ),
              ),
            ),
          ),
        ),
      ) in
      (v6, run.0, run.1, put_here (put_image o a (Some z)) a (get o a) ∙ at_a, refl)

-- ---- a prepare that is answered after a resolve

-- it would be an answer to a session in no transaction
pub late_answer_is_nobodys : (R : Records) (n : ℕ) (global : List ℕ) → IsHistory (history_from (opening_with 2042 R) (resolved_first global ++ late_answer n global ∷ [])) → n ≡ 0
late_answer_is_nobodys R n global h = (h 3 (late_answer n global) refl).1

-- and then acknowledge a decision that nobody made
pub late_answer_is_not_kept : (global : List ℕ) (ds : List Decision) → Kept (resolved_first global ++ late_answer 0 global ∷ []) ds → ⊥
late_answer_is_not_kept global ds h =
    let there = All-contains (Contains ds) (decision.Prepare 0 global ∷ []) (decision.Prepare 0 global) h.acknowledged_kept (head_contained (decision.Prepare 0 global) []) in
    among_none h.beginning.0 (subst (IsAmong (decision.Prepare 0 global)) h.beginning.1 (contained_among ds (decision.Prepare 0 global) there))
  where
    none_in : (n : ℕ) → IsAmong (decision.Prepare 0 global) (take n []) → ⊥
    none_in zero b = b
    none_in (suc n) b = b

    its_number : (u v : ℕ) (g k : List ℕ) → decision.Prepare u g ≡ decision.Prepare v k → u ≡ v
    its_number u v g k e = cc

    no_commit : (u v : ℕ) (g : List ℕ) → decision.Commit u ≡ decision.Prepare v g → ⊥
    no_commit u v g e = cc

    one_not_none : ◌≡◌ {A = ℕ} 1 0 → ⊥
    one_not_none e = omega arith

    among_none : (n : ℕ) → IsAmong (decision.Prepare 0 global) (take n (decision.Prepare 1 global ∷ decision.Commit 1 ∷ [])) → ⊥
    among_none zero b = b
    among_none (suc zero) b = ⊎_elim (λ e. one_not_none (its_number 1 0 global global e)) (λ no. no) b
    among_none (suc (suc n)) b = ⊎_elim
        (λ e. one_not_none (its_number 1 0 global global e))
        (λ later. ⊎_elim (λ e. no_commit 1 0 global e) (λ no. none_in n no) later) b
