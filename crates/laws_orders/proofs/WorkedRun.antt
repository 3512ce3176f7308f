-- One that commits between the prepare of another and its commit: each event may come.
use Rattle.std.proofs.Common.{◌≡◌, ◌≢◌, ⊎_elim, inl, inr, ℕ, List, [], ◌∷◌, Some, Ok, refl, sym, subst, ◌∙◌, ◌<◌, arith}
use Rattle.std.specs.Prelude.{All, Contains, IsSome, IsSomeAnd, IsTrue}
use Rattle.std.specs.FinMap.{get}
use Rattle.std.proofs.lemmas.List.Elements.{All-cons, All-nil}
use Rattle.shore_types.specs.declared.ids.Rid.{Rid}
use Rattle.shore_types.specs.declared.locking.Granule.TheVariants.{Record}
use Rattle.shore_types.specs.declared.locking.Mode.TheVariants.{EX}
use Rattle.shore_model.specs.declared.calls.Answer.TheVariants.{Got, Updated}
use Rattle.shore_model.specs.declared.calls.Call.TheVariants as call
use Rattle.shore_model.specs.declared.histories.Decision.TheVariants.{Commit, Prepare}
use Rattle.shore_model.specs.declared.histories.Entry.{Entry}
use Rattle.shore_model.specs.declared.holds.Hold.{Hold}
use Rattle.shore_model.specs.Histories.{decisions}
use Rattle.shore_model.specs.Locks.{Harmony, HoldsAtLeast, MayRead, MayWrite, ancestors}
use Rattle.shore_model.specs.Modes.{is_write}
use Rattle.shore_model.specs.Records.{Records, put_image}
use Rattle.shore_model.proofs.RecordPaths.{head_contained}
use Rattle.laws_lives.proofs.Ids.{put_there, told_apart}
use Rattle.laws_lives.proofs.SessionsAgree.{open_agrees}
use Rattle.laws_lives.proofs.Steps.{open_is_sound}
use Rattle.laws_lives.proofs.WorkedDoubts.{none_below_0}
use Rattle.laws_lives.proofs.WorkedRun.{interleave}
use Rattle.laws_lives.specs.SessionSteps.{AnswerPrepare, AppendCommit, AppendPrepare, AppendResolve, AreExclusive, BeginTxn, GiveReply, entries_by}
use Rattle.laws_lives.specs.Sessions.{Sessions, commit_appended, locks_moved, prepare_answered, prepare_appended, reply_given, resolve_appended, seated, txn_begun}
use Rattle.laws_lives.specs.Soundness.{IsJustOpened, RunsTo, history_from, opening_with}
use Rattle.laws_lives.specs.UndoLists.{nothing_to_undo}
use Rattle.laws_lives.specs.WorkedRun.{just_opened, once_updated, read_lock, reader, reads_and_writes, write_lock, writer}
use Rattle.laws_orders.proofs.Moves.{run_in_order, starts_in_order}
use Rattle.laws_orders.specs.InTurns.{IsInOrder}
use Rattle.laws_orders.specs.WorkedTurns.{commits_between}

-- an open with nobody in doubt
opened : (o : Records) → IsJustOpened (opening_with 2042 o) (just_opened 2042 o)
opened o = record {
  slots = refl;
  seats = λ n. refl;
  resolving = refl;
  prepared = refl;
  active = refl;
  once = tt;
  unrolled = λ a mem. absurd mem;
  stand = record {
    harmony = record { stand_together = All-nil _; none_interferes = λ r t u other w d. absurd (none_below_0 w.0 w.2) };
    each = λ t among. absurd among;
    others = λ id none. refl;
  };
  undoes = λ a mem. absurd mem;
  under = λ p among. absurd among;
  some = omega arith;
  found = All-nil _;
  unheld = All-nil _;
}

module _ (o : Records) (a b : Rid) (x y z global : List ℕ) (ticket : ℕ) (differ : a ≢ b) (at_a : get o a ≡ Some x) (at_b : get o b ≡ Some y) where
  -- another run has these locks
  harmony : Harmony (reads_and_writes a b)
  harmony = (interleave a b differ o x y z ticket at_a at_b).2.2.2.1.0

  reads : MayRead (reads_and_writes a b) 1 a
  reads = (0, read_lock 1 a, omega arith, refl, (refl, head_contained (Record a) (ancestors (Record a)), refl))

  writes : MayWrite (reads_and_writes a b) 2 b
  writes = (1, write_lock 2 b, omega arith, refl, (refl, head_contained (Record b) (ancestors (Record b)), refl))

  given : All (λ (h : Hold). h.txn < 3) (reads_and_writes a b)
  given =
      All-cons (λ (h : Hold). h.txn < 3) (read_lock 1 a) (write_lock 2 b ∷ []) (omega arith)
      (All-cons (λ (h : Hold). h.txn < 3) (write_lock 2 b) [] (omega arith) (All-nil (λ (h : Hold). h.txn < 3)))

  not_2 : ◌≡◌ {A = ℕ} 1 2 → ⊥
  not_2 e = omega arith

  not_1 : ◌≡◌ {A = ℕ} 2 1 → ⊥
  not_1 e = omega arith

  abbrev Lists : Hold → Type 0
  Lists h = h.txn ≡ 2 → IsTrue (is_write h.mode) → Contains (Record b ∷ []) h.granule

  exclusive : AreExclusive (reads_and_writes a b) 2 (Record b ∷ [])
  exclusive = record {
    each = All-cons (HoldsAtLeast (reads_and_writes a b) 2 EX) (Record b) [] (1, write_lock 2 b, omega arith, refl, (refl, refl, refl)) (All-nil (HoldsAtLeast (reads_and_writes a b) 2 EX));
    all = All-cons Lists (read_lock 1 a) (write_lock 2 b ∷ []) (λ e w. absurd (not_2 e)) (All-cons Lists (write_lock 2 b) [] (λ e w. head_contained (Record b) []) (All-nil Lists));
  }

  a_stays : get (put_image o b (Some z)) a ≡ Some x
  a_stays = ⊎_elim (λ same. absurd (differ same)) (λ other. put_there o b (Some z) a other) (told_apart a b) ∙ at_a

  abbrev s1 : Sessions
  s1 = seated (just_opened 2042 o) (entries_by (just_opened 2042 o) (BeginTxn 1)) (txn_begun (just_opened 2042 o) 1)

  abbrev s2 : Sessions
  s2 = seated s1 (entries_by s1 (BeginTxn 2)) (txn_begun s1 2)

  abbrev s3 : Sessions
  s3 = locks_moved s2 (reads_and_writes a b)

  abbrev s4 : Sessions
  s4 = seated s3 (entries_by s3 (GiveReply (writer nothing_to_undo) (call.Update b z) (Ok Updated))) (reply_given s3 (writer nothing_to_undo) (call.Update b z) (Ok Updated))

  abbrev s5 : Sessions
  s5 = seated s4 (entries_by s4 (AppendPrepare (writer (once_updated o b)) global (Record b ∷ []))) (prepare_appended s4 (writer (once_updated o b)) global)

  abbrev s6 : Sessions
  s6 = seated s5 (entries_by s5 (GiveReply reader (call.Get a) (Ok (Got x)))) (reply_given s5 reader (call.Get a) (Ok (Got x)))

  abbrev s7 : Sessions
  s7 = seated s6 (entries_by s6 (AppendCommit reader ticket)) (commit_appended s6 reader)

  abbrev s8 : Sessions
  s8 = seated s7 (entries_by s7 (AnswerPrepare 2 2 global)) (prepare_answered s7 2)

  abbrev s9 : Sessions
  s9 = seated s8 (entries_by s8 (AppendResolve (writer (once_updated o b)) global)) (resolve_appended s8 (writer (once_updated o b)) global)

  pub run_between : (last : Sessions) × (made : List Entry) × RunsTo (just_opened 2042 o) (commits_between o a b x z global ticket) [] last made
      × (decisions made ≡ Prepare 2 global ∷ Commit 1 ∷ Commit 2 ∷ []) × IsInOrder (history_from (opening_with 2042 o) made)
  run_between =
      let run : (made : List Entry) × RunsTo (just_opened 2042 o) (commits_between o a b x z global ticket) [] s9 made = (
        _,
        (
          s1,
          (refl, refl),
          (
            s2,
            (refl, refl),
            (
              s3,
              (harmony, (λ t among m g h. absurd (none_below_0 h.0 h.2)), given, refl),
              (
                s4,
                ((inl refl, refl, (λ h. h, λ h. h)), tt, (writes, (subst IsSome (sym at_b) refl, refl)), inl refl, refl),
                (
                  s5,
                  ((inl refl, refl, (λ h. h, λ h. h)), refl, tt, exclusive, refl),
                  (
                    s6,
                    ((inr (inl refl), refl, (λ h. ⊎_elim (λ e. not_1 e) (λ no. no) h, λ h. h)), tt, (reads, subst (λ image. IsSomeAnd image (λ bytes. Got x ≡ Got bytes)) (sym a_stays) refl), inl refl, refl),
                    (
                      s7,
                      ((inr (inl refl), refl, (λ h. ⊎_elim (λ e. not_1 e) (λ no. no) h, λ h. h)), refl, refl),
                      (
                        s8,
                        (inl refl, refl, refl),
                        (s9, (inl refl, refl, inl refl, refl), (refl, refl)),
                      ),
                    ),
                  ),
                ),
              ),
            ),
          ),
        ),
      ) in (
        s9,
        run.0,
        run.1,
        refl,
        run_in_order (opening_with 2042 o) [] (just_opened 2042 o) (commits_between o a b x z global ticket) s9 run.0 (open_is_sound (opening_with 2042 o) (just_opened 2042 o) (opened o))
            (open_agrees (opening_with 2042 o) (just_opened 2042 o) (opened o)) run.1 (starts_in_order (opening_with 2042 o) tt),
      )
