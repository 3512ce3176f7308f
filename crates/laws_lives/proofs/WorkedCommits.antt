-- The worked run of lazy commits: each event may come.
use Rattle.std.proofs.Common.{◌≡◌, ◌≤◌, inl, inr, ℕ, zero, suc, List, [], ◌∷◌, Bool, true, false, Some, Ok, refl, sym, subst, ◌∙◌, arith, ◌≢◌, take}
use Rattle.std.specs.Prelude.{◌↔◌, Contains, IsSome, IsSomeAnd}
use Rattle.std.specs.FinMap.{empty, get, get-empty}
use Rattle.std.proofs.lemmas.Bool.{true≢false}
use Rattle.std.proofs.lemmas.List.Elements.{All-cons, All-head, All-nil, All-tail}
use Rattle.shore_types.specs.Ids.{rid_cmp}
use Rattle.shore_types.specs.declared.ids.Rid.{Rid}
use Rattle.shore_types.specs.declared.locking.Granule.TheVariants.{Record}
use Rattle.shore_model.specs.declared.calls.Answer.TheVariants.{Got, Updated}
use Rattle.shore_model.specs.declared.calls.Call.TheVariants as call
use Rattle.shore_model.specs.declared.histories.Decision.{Decision}
use Rattle.shore_model.specs.declared.histories.Decision.TheVariants.{Commit}
use Rattle.shore_model.specs.declared.histories.Entry.{Entry}
use Rattle.shore_model.specs.Histories.{Kept, Sound, acknowledged, decisions}
use Rattle.shore_model.specs.Locks.{MayRead, MayWrite, ancestors}
use Rattle.shore_model.specs.Records.{Records, overlay, put_image}
use Rattle.shore_model.proofs.RecordPaths.{head_contained}
use Rattle.laws_lives.proofs.DoubtLocks.{contained_among}
use Rattle.laws_lives.proofs.Ids.{put_here}
use Rattle.laws_lives.proofs.Views.{overlay_none}
use Rattle.laws_lives.specs.Soundness.{history_from, opening_with}
use Rattle.laws_lives.proofs.WorkedDoubts.{alone_in_harmony, none_below_0, one_below}
use Rattle.laws_lives.specs.ManagerSteps.{RunsOver}
use Rattle.laws_lives.specs.SessionSteps.{AppendCommit, BeginTxn, GiveReply, entries_by}
use Rattle.laws_lives.specs.Sessions.{Sessions, commit_appended, locks_moved, reply_given, seated, txn_begun}
use Rattle.laws_lives.specs.UndoLists.{nothing_to_undo}
use Rattle.laws_lives.specs.Views.{IsAmong}
use Rattle.laws_lives.specs.WorkedCommits.{asked_too_low, lazily_committed, read_too_early, unrecorded}
use Rattle.laws_lives.specs.WorkedDoubts.{changed_once, preparer, second_reader}
use Rattle.laws_lives.specs.WorkedRun.{just_opened, read_lock, write_lock}

two_below_0 : 2 ≤ 0 → ⊥
two_below_0 le = omega (arith, le)

module _ (a : Rid) (o : Records) (x z : List ℕ) (at_a : get o a ≡ Some x) where
  abbrev s1 : Sessions
  s1 = seated (just_opened 2042 o) (entries_by (just_opened 2042 o) (BeginTxn 1)) (txn_begun (just_opened 2042 o) 1)

  abbrev s2 : Sessions
  s2 = locks_moved s1 (write_lock 1 a ∷ [])

  abbrev s3 : Sessions
  s3 = seated s2 (entries_by s2 (GiveReply (preparer nothing_to_undo) (call.Update a z) (Ok Updated))) (reply_given s2 (preparer nothing_to_undo) (call.Update a z) (Ok Updated))

  abbrev s4 : Sessions
  s4 = seated s3 (entries_by s3 (AppendCommit (preparer (changed_once o a)) 2)) (commit_appended s3 (preparer (changed_once o a)))

  abbrev s5 : Sessions
  s5 = seated s4 (entries_by s4 (BeginTxn 2)) (txn_begun s4 2)

  abbrev s6 : Sessions
  s6 = locks_moved s5 (read_lock 2 a ∷ [])

  abbrev s7 : Sessions
  s7 = seated s6 (entries_by s6 (GiveReply second_reader (call.Get a) (Ok (Got z)))) (reply_given s6 second_reader (call.Get a) (Ok (Got z)))

  abbrev s8 : Sessions
  s8 = seated s7 (entries_by s7 (AppendCommit second_reader 3)) (commit_appended s7 second_reader)

  writes : MayWrite (write_lock 1 a ∷ []) 1 a
  writes = (0, write_lock 1 a, omega arith, refl, (refl, head_contained (Record a) (ancestors (Record a)), refl))

  reads : MayRead (read_lock 2 a ∷ []) 2 a
  reads = (0, read_lock 2 a, omega arith, refl, (refl, head_contained (Record a) (ancestors (Record a)), refl))

  z_there : get (put_image o a (Some z)) a ≡ Some z
  z_there = put_here o a (Some z)

  -- the events, with `forced` records durable before the ticket is asked for
  runs : (forced : ℕ) (durable : Bool) → forced ≤ 3 → (durable ≡ true) ↔ (2 ≤ forced) → (made : List Entry) × RunsOver (just_opened 2042 o) [] 0 (lazily_committed o a z durable) [] s8 made
  runs forced durable most answers = (
    _,
    (
      s1,
      0,
      (refl, refl),
      omega arith,
      omega arith,
      (tt, tt),
      (
        s2,
        0,
        (alone_in_harmony (write_lock 1 a), (λ t among m g h. absurd (none_below_0 h.0 h.2)), one_below 2 (write_lock 1 a) (omega arith), refl),
        omega arith,
        omega arith,
        (tt, tt),
        (
          s3,
          0,
          ((inl refl, refl, (λ h. h, λ h. h)), tt, (writes, (subst IsSome (sym at_a) refl, refl)), inl refl, refl),
          omega arith,
          omega arith,
          (tt, tt),
          (
            s4,
            0,
            ((inl refl, refl, (λ h. h, λ h. h)), refl, refl),
            omega arith,
            omega arith,
            (tt, refl),
            (
              s5,
              0,
              (refl, refl),
              omega arith,
              omega arith,
              (tt, tt),
              (
                s6,
                0,
                (alone_in_harmony (read_lock 2 a), (λ t among m g h. absurd (none_below_0 h.0 h.2)), one_below 3 (read_lock 2 a) (omega arith), refl),
                omega arith,
                omega arith,
                (tt, tt),
                (
                  s7,
                  0,
                  ((inl refl, refl, (λ h. h, λ h. h)), tt, (reads, subst (λ o. IsSomeAnd o (λ bytes. Got z ≡ Got bytes)) (sym z_there) refl), inl refl, refl),
                  omega arith,
                  omega arith,
                  (tt, tt),
                  (
                    s8,
                    0,
                    ((inl refl, refl, (λ h. h, λ h. h)), refl, refl),
                    omega arith,
                    omega arith,
                    (tt, refl),
                    (s8, forced, refl, omega arith, most, (tt, answers), (refl, refl)),
                  ),
                ),
              ),
            ),
          ),
        ),
      ),
    ),
  )

  pub not_yet : (last : Sessions) × (made : List Entry) × RunsOver (just_opened 2042 o) [] 0 (lazily_committed o a z false) [] last made
      × (decisions made ≡ Commit 1 ∷ Commit 2 ∷ []) × (acknowledged made ≡ []) × Kept made []
  unfolding runs
  not_yet =
      let run = runs 0 false (omega arith) ((λ e. absurd (true≢false (sym e))), (λ le. absurd (two_below_0 le))) in
      (s8, run.0, run.1, refl, refl, record { beginning = (0, refl); acknowledged_kept = All-nil (Contains []) })

  pub then : (last : Sessions) × (made : List Entry) × RunsOver (just_opened 2042 o) [] 0 (lazily_committed o a z true) [] last made
      × (acknowledged made ≡ Commit 1 ∷ []) × (Kept made [] → ⊥) × Kept made (Commit 1 ∷ [])
  unfolding runs
  then =
      let run = runs 3 true (omega arith) ((λ e. omega arith), (λ le. refl)) in (
        s8,
        run.0,
        run.1,
        refl,
        (λ h. none_below_0 _ (All-head (Contains []) (Commit 1) [] h.acknowledged_kept).1),
        record { beginning = (1, refl); acknowledged_kept = All-cons (Contains (Commit 1 ∷ [])) (Commit 1) [] (head_contained (Commit 1) []) (All-nil (Contains (Commit 1 ∷ []))) },
      )

-- ---- commits that go wrong

pub early_is_unsound : (o : Records) (a : Rid) (x z : List ℕ) → get o a ≡ Some x → x ≢ z → Sound (history_from (opening_with 2042 o) (read_too_early a z)) → ⊥
early_is_unsound o a x z at_a other sound =
    let got : IsSomeAnd (get (overlay o empty) a) (λ bytes. Got z ≡ Got bytes) = (sound 0 (Commit 2) refl).0.1.0 in
    let its : IsSomeAnd (Some x) (λ bytes. Got z ≡ Got bytes) = subst (λ image. IsSomeAnd image (λ bytes. Got z ≡ Got bytes)) (overlay_none o empty a (get-empty rid_cmp a) ∙ at_a) got in
    other (sym (same_bytes its))
  where
    same_bytes : Got z ≡ Got x → z ≡ x
    same_bytes e = cc

pub below_is_lost : (a : Rid) (z : List ℕ) → Kept (asked_too_low a z) [] → ⊥
below_is_lost a z h = none_below_0 _ (All-head (Contains []) (Commit 1) [] h.acknowledged_kept).1

two_is_not_one : Commit 1 ≡ Commit 2 → ⊥
two_is_not_one e = cc

one_alone : (n : ℕ) → IsAmong (Commit 2) (take n (Commit 1 ∷ [])) → ⊥
one_alone zero h = h
one_alone (suc n) (inl e) = two_is_not_one e
one_alone (suc n) (inr later) = none_left n later
  where
    none_left : (n : ℕ) → IsAmong (Commit 2) (take n []) → ⊥
    none_left zero h = h
    none_left (suc n) h = h

pub unrecorded_is_not_kept : (a : Rid) (z : List ℕ) (ds : List Decision) → Kept (unrecorded a z) ds → ⊥
unrecorded_is_not_kept a z ds h =
    let there : Contains ds (Commit 2) = All-head (Contains ds) (Commit 2) [] (All-tail (Contains ds) (Commit 1) (Commit 2 ∷ []) h.acknowledged_kept) in
    one_alone h.beginning.0 (subst (IsAmong (Commit 2)) h.beginning.1 (contained_among ds (Commit 2) there))
