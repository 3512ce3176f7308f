-- The worked run of two sessions: each event may come.
use Rattle.std.proofs.Common.{◌≡◌, ◌≢◌, ◌⊎◌, inl, inr, ⊎_elim, ℕ, List, [], ◌∷◌, Some, None, Ok, false, refl, sym, ap, subst, ◌∙◌, ◌<◌, get_or, arith}
use Rattle.std.specs.Prelude.{All, Contains, IsSome, IsSomeAnd, IsTrue}
use Rattle.std.specs.FinMap.{get}
use Rattle.std.proofs.lemmas.List.Elements.{All-cons, All-nil, Contains-append_cases}
use Rattle.shore_types.specs.Images.{Image}
use Rattle.shore_types.specs.declared.ids.Rid.{Rid}
use Rattle.shore_types.specs.declared.locking.Granule.{Granule}
use Rattle.shore_types.specs.declared.locking.Granule.TheVariants.{Page, Record, Store, Volume}
use Rattle.shore_model.specs.declared.calls.Answer.TheVariants.{Deleted, Got, Saved, Updated, WentBack}
use Rattle.shore_model.specs.declared.calls.Call.TheVariants as call
use Rattle.shore_model.specs.declared.histories.Entry.{Entry}
use Rattle.shore_model.specs.declared.holds.Hold.{Hold}
use Rattle.shore_model.specs.Locks.{Agree, Harmony, MayRead, MayWrite, ancestors, path}
use Rattle.shore_model.specs.Modes.{is_write}
use Rattle.shore_model.specs.Records.{Records, put_image}
use Rattle.shore_model.proofs.RecordPaths.{OnPath, at_page, at_record, at_store, at_volume, head_contained, on_path}
use Rattle.laws_lives.proofs.Ids.{put_here, put_there, told_apart}
use Rattle.shore_model.specs.declared.rollbacks.Rollback.TheVariants.{Whole, To}
use Rattle.laws_lives.specs.SessionSteps.{AnswerAbort, AppendCommit, BeginTxn, GiveReply, entries_by}
use Rattle.laws_lives.specs.Sessions.{Sessions, seated, abort_answered, commit_appended, image_put_back, locks_moved, reply_given, txn_begun}
use Rattle.laws_lives.specs.Soundness.{RunsTo}
use Rattle.laws_lives.specs.WorkedRun.{abort_interrupted, half_way_back, interleaved, just_opened, once_deleted, once_put_back, once_saved, once_updated, read_lock, reader, reads_and_writes, saved_first, saved_then_deleted, saved_then_updated, twice_changed, way_back_interrupted, write_lock, writer}
use Rattle.laws_lives.specs.UndoLists.{nothing_to_undo}

-- ---- locks

none_below_0 : (n : ℕ) → n < 0 → ⊥
none_below_0 n less = omega arith

-- the record that a granule is, or the one given
abbrev record_of : Rid → Granule → Rid
record_of default (Record r) = r
record_of default Volume = default
record_of default (Store s) = default
record_of default (Page p) = default

same_record : (r : Rid) (g : Granule) (b : Rid) → OnPath r g → g ≡ Record b → r ≡ b
same_record r _ b at_record e = ap (record_of r) e
same_record r _ b at_page e = cc
same_record r _ b at_store e = cc
same_record r _ b at_volume e = cc

-- a record is on the path of no other
pub record_on_path : (r b : Rid) → Contains (path (Record r)) (Record b) → r ≡ b
record_on_path r b h = same_record r (Record b) b (on_path r (Record b) h) refl

pub only_one : {A : Type 0} (y x : A) → Contains (y ∷ []) x → y ≡ x
only_one y x h =
    let at_first : h.0 ≡ 0 = omega (arith, h.1) in
    ap (λ k. get_or (y ∷ []) k x) (sym at_first) ∙ h.2

module _ (a b : Rid) (differ : a ≢ b) where
  abbrev first : Hold
  first = read_lock 1 a

  abbrev second : Hold
  second = write_lock 2 b

  one_or_other : (h : Hold) → Contains (reads_and_writes a b) h → (first ≡ h) ⊎ (second ≡ h)
  one_or_other h c =
      ⊎_elim (λ l. inl (only_one first h l)) (λ l. inr (only_one second h l)) (Contains-append_cases (first ∷ []) (second ∷ []) h c)

  writes_b : (t : ℕ) (r : Rid) → MayWrite (reads_and_writes a b) t r → (2 ≡ t) × (r ≡ b)
  writes_b t r w =
      ⊎_elim
      (λ e. let no : IsTrue false = subst (λ (h : Hold). IsTrue (is_write h.mode)) (sym e) w.4.2 in cc)
      (λ e. (ap (λ (h : Hold). h.txn) e ∙ w.4.0, record_on_path r b (subst (λ (h : Hold). Contains (path (Record r)) h.granule) (sym e) w.4.1)))
      (one_or_other w.1 (w.0, w.2, w.3))

  reads_a_or_is_2 : (u : ℕ) (r : Rid) → MayRead (reads_and_writes a b) u r → (r ≡ a) ⊎ (2 ≡ u)
  reads_a_or_is_2 u r d =
      ⊎_elim
      (λ e. inl (record_on_path r a (subst (λ (h : Hold). Contains (path (Record r)) h.granule) (sym e) d.4.1)))
      (λ e. inr (ap (λ (h : Hold). h.txn) e ∙ d.4.0))
      (one_or_other d.1 (d.0, d.2, d.3))

  granules_differ : Record a ≡ Record b → ⊥
  granules_differ e = differ (ap (record_of a) e)

  harmony : Harmony (reads_and_writes a b)
  harmony = record {
    stand_together =
        All-cons (λ h. All (Agree h) (reads_and_writes a b)) first (second ∷ [])
        (All-cons (Agree first) first (second ∷ []) (λ e other. absurd (other refl)) (All-cons (Agree first) second [] (λ e other. absurd (granules_differ e)) (All-nil (Agree first))))
        (All-cons (λ h. All (Agree h) (reads_and_writes a b)) second []
        (All-cons (Agree second) first (second ∷ []) (λ e other. absurd (granules_differ (sym e))) (All-cons (Agree second) second [] (λ e other. absurd (other refl)) (All-nil (Agree second))))
        (All-nil (λ h. All (Agree h) (reads_and_writes a b))));
    none_interferes = λ r t u other w d.
        let v = writes_b t r w in
        ⊎_elim (λ e. differ (sym e ∙ v.1)) (λ e. other (sym v.0 ∙ e)) (reads_a_or_is_2 u r d);
  }

  reads : MayRead (reads_and_writes a b) 1 a
  reads = (0, first, omega arith, refl, (refl, head_contained (Record a) (ancestors (Record a)), refl))

  -- .. also once the other's locks are gone
  reads_alone : MayRead (first ∷ []) 1 a
  reads_alone = (0, first, omega arith, refl, (refl, head_contained (Record a) (ancestors (Record a)), refl))

  writes : MayWrite (reads_and_writes a b) 2 b
  writes = (1, second, omega arith, refl, (refl, head_contained (Record b) (ancestors (Record b)), refl))

  given : All (λ (h : Hold). h.txn < 3) (reads_and_writes a b)
  given =
      All-cons (λ (h : Hold). h.txn < 3) first (second ∷ []) (omega arith)
      (All-cons (λ (h : Hold). h.txn < 3) second [] (omega arith) (All-nil (λ (h : Hold). h.txn < 3)))

  -- ---- records

  got : (R : Records) (x : List ℕ) → get R a ≡ Some x → IsSomeAnd (get R a) (λ bytes. Got x ≡ Got bytes)
  got R x e = subst (λ o. IsSomeAnd o (λ bytes. Got x ≡ Got bytes)) (sym e) refl

  other_image : (R : Records) (image : Image) → get (put_image R b image) a ≡ get R a
  other_image R image = ⊎_elim (λ same. absurd (differ same)) (λ other. put_there R b image a other) (told_apart a b)

  -- ---- events

  module _ (o : Records) (x y z : List ℕ) (ticket : ℕ) (at_a : get o a ≡ Some x) (at_b : get o b ≡ Some y) where
    abbrev after_change : Records
    after_change = put_image o b (Some z)

    abbrev after_delete : Records
    after_delete = put_image after_change b None

    abbrev after_undo : Records
    after_undo = put_image after_delete b (get after_change b)

    abbrev s1 : Sessions
    s1 = seated (just_opened 2042 o) (entries_by (just_opened 2042 o) (BeginTxn 1)) (txn_begun (just_opened 2042 o) 1)

    abbrev s2 : Sessions
    s2 = seated s1 (entries_by s1 (BeginTxn 2)) (txn_begun s1 2)

    abbrev s3 : Sessions
    s3 = locks_moved s2 (reads_and_writes a b)

    abbrev s4 : Sessions
    s4 = seated s3 (entries_by s3 (GiveReply reader (call.Get a) (Ok (Got x)))) (reply_given s3 reader (call.Get a) (Ok (Got x)))

    abbrev s5 : Sessions
    s5 = seated s4 (entries_by s4 (GiveReply (writer nothing_to_undo) (call.Update b z) (Ok Updated))) (reply_given s4 (writer nothing_to_undo) (call.Update b z) (Ok Updated))

    abbrev s6 : Sessions
    s6 = seated s5 (entries_by s5 (GiveReply (writer (once_updated o b)) call.Savepoint (Ok (Saved 0)))) (reply_given s5 (writer (once_updated o b)) call.Savepoint (Ok (Saved 0)))

    abbrev s7 : Sessions
    s7 = seated s6 (entries_by s6 (GiveReply (writer (once_saved o b)) (call.Delete b) (Ok Deleted))) (reply_given s6 (writer (once_saved o b)) (call.Delete b) (Ok Deleted))

    abbrev s8 : Sessions
    s8 = seated s7 (entries_by s7 (GiveReply (writer (once_deleted o b z)) (call.BackTo 0) (Ok WentBack))) (reply_given s7 (writer (once_deleted o b z)) (call.BackTo 0) (Ok WentBack))

    abbrev s9 : Sessions
    s9 = seated s8 (entries_by s8 (AppendCommit (writer (once_saved o b)) ticket)) (commit_appended s8 (writer (once_saved o b)))

    abbrev s10 : Sessions
    s10 = seated s9 (entries_by s9 (GiveReply reader (call.Get a) (Ok (Got x)))) (reply_given s9 reader (call.Get a) (Ok (Got x)))

    abbrev s12 : Sessions
    s12 = seated s10 (entries_by s10 (AnswerAbort reader)) (abort_answered s10 reader)

    a_stays : get after_undo a ≡ Some x
    a_stays = other_image after_delete (get after_change b) ∙ other_image after_change None ∙ other_image o (Some z) ∙ at_a

    b_is_new : get after_undo b ≡ Some z
    b_is_new = put_here after_delete b (get after_change b) ∙ put_here o b (Some z)

    -- the abort of the writer, in two steps
    abbrev t4 : Sessions
    t4 = seated s3 (entries_by s3 (GiveReply (writer nothing_to_undo) (call.Update b z) (Ok Updated))) (reply_given s3 (writer nothing_to_undo) (call.Update b z) (Ok Updated))

    abbrev t5 : Sessions
    t5 = seated t4 (entries_by t4 (GiveReply (writer (once_updated o b)) (call.Delete b) (Ok Deleted))) (reply_given t4 (writer (once_updated o b)) (call.Delete b) (Ok Deleted))

    abbrev t6 : Sessions
    t6 = image_put_back t5 (writer (twice_changed o b z)) ((b, get o b) ∷ []) (b, get after_change b) Whole

    abbrev t7 : Sessions
    t7 = seated t6 (entries_by t6 (GiveReply reader (call.Get a) (Ok (Got x)))) (reply_given t6 reader (call.Get a) (Ok (Got x)))

    abbrev t8 : Sessions
    t8 = seated t7 (entries_by t7 (AnswerAbort (writer (once_put_back o b)))) (abort_answered t7 (writer (once_put_back o b)))

    abbrev t9 : Sessions
    t9 = seated t8 (entries_by t8 (AnswerAbort reader)) (abort_answered t8 reader)

    pub interrupt_abort : (last : Sessions) × (made : List Entry) × RunsTo (just_opened 2042 o) (abort_interrupted o a b x z) [] last made × (get last.records b ≡ Some y)
    interrupt_abort =
        let run : (made : List Entry) × RunsTo (just_opened 2042 o) (abort_interrupted o a b x z) [] t9 made = (
          _,
          (
            s1,
            (refl, refl),
            (
              s2,
              (refl, refl),
              (
                s3,
                (harmony, (λ t among m g h. absurd (none_below_0 h.0 h.2)), given, refl),
                (
                  t4,
                  ((inl refl, refl, (λ h. h, λ h. h)), tt, (writes, (subst IsSome (sym at_b) refl, refl)), inl refl, refl),
                  (
                    t5,
                    ((inl refl, refl, (λ h. h, λ h. h)), tt, (writes, (subst IsSome (sym (put_here o b (Some z))) refl, refl)), inl refl, refl),
                    (
                      t6,
                      ((inl refl, λ h. h), refl, tt, omega arith, refl),
                      (
                        t7,
                        ((inr (inl refl), refl, (λ h. h, λ h. h)), tt, (reads, got after_undo x a_stays), inl refl, refl),
                        (
                          t8,
                          ((inl refl, refl, (λ h. h, λ h. h)), refl),
                          (
                            t9,
                            ((inl refl, refl, (λ h. h, λ h. h)), refl),
                            (refl, refl),
                          ),
                        ),
                      ),
                    ),
                  ),
                ),
              ),
            ),
          ),
        ) in
        (t9, run.0, run.1, put_here after_undo b (get o b) ∙ at_b)

    -- the way back of the writer, in two steps
    abbrev u4 : Sessions
    u4 = seated s3 (entries_by s3 (GiveReply (writer nothing_to_undo) call.Savepoint (Ok (Saved 0)))) (reply_given s3 (writer nothing_to_undo) call.Savepoint (Ok (Saved 0)))

    abbrev u5 : Sessions
    u5 = seated u4 (entries_by u4 (GiveReply (writer saved_first) (call.Update b z) (Ok Updated))) (reply_given u4 (writer saved_first) (call.Update b z) (Ok Updated))

    abbrev u6 : Sessions
    u6 = seated u5 (entries_by u5 (GiveReply (writer (saved_then_updated o b)) (call.Delete b) (Ok Deleted))) (reply_given u5 (writer (saved_then_updated o b)) (call.Delete b) (Ok Deleted))

    abbrev u7 : Sessions
    u7 = image_put_back u6 (writer (saved_then_deleted o b z)) ((b, get o b) ∷ []) (b, get after_change b) (To 0)

    abbrev u8 : Sessions
    u8 = seated u7 (entries_by u7 (GiveReply reader (call.Get a) (Ok (Got x)))) (reply_given u7 reader (call.Get a) (Ok (Got x)))

    abbrev u9 : Sessions
    u9 = seated u8 (entries_by u8 (GiveReply (writer (half_way_back o b)) (call.BackTo 0) (Ok WentBack))) (reply_given u8 (writer (half_way_back o b)) (call.BackTo 0) (Ok WentBack))

    abbrev u10 : Sessions
    u10 = seated u9 (entries_by u9 (AppendCommit (writer saved_first) ticket)) (commit_appended u9 (writer saved_first))

    abbrev u12 : Sessions
    u12 = seated u10 (entries_by u10 (AnswerAbort reader)) (abort_answered u10 reader)

    pub interrupt_way_back : (last : Sessions) × (made : List Entry) × RunsTo (just_opened 2042 o) (way_back_interrupted o a b x z ticket) [] last made × (get last.records b ≡ Some y)
    interrupt_way_back =
        let run : (made : List Entry) × RunsTo (just_opened 2042 o) (way_back_interrupted o a b x z ticket) [] u12 made = (
          _,
          (
            s1,
            (refl, refl),
            (
              s2,
              (refl, refl),
              (
                s3,
                (harmony, (λ t among m g h. absurd (none_below_0 h.0 h.2)), given, refl),
                (
                  u4,
                  ((inl refl, refl, (λ h. h, λ h. h)), tt, (tt, refl), inl refl, refl),
                  (
                    u5,
                    ((inl refl, refl, (λ h. h, λ h. h)), tt, (writes, (subst IsSome (sym at_b) refl, refl)), inl refl, refl),
                    (
                      u6,
                      ((inl refl, refl, (λ h. h, λ h. h)), tt, (writes, (subst IsSome (sym (put_here o b (Some z))) refl, refl)), inl refl, refl),
                      (
                        u7,
                        ((inl refl, λ h. h), refl, (omega arith, inl refl), omega arith, refl),
                        (
                          u8,
                          ((inr (inl refl), refl, (λ h. h, λ h. h)), tt, (reads, got after_undo x a_stays), inl refl, refl),
                          (
                            u9,
                            ((inl refl, refl, (λ h. h, λ h. h)), tt, (tt, (omega arith, refl)), inr (0, WentBack, refl, refl, refl), refl),
                            (
                              u10,
                              ((inl refl, refl, (λ h. h, λ h. h)), refl, refl),
                              (
                                u12,
                                ((inl refl, refl, (λ h. h, λ h. h)), refl),
                                (refl, refl),
                              ),
                            ),
                          ),
                        ),
                      ),
                    ),
                  ),
                ),
              ),
            ),
          ),
        ) in
        (u12, run.0, run.1, put_here after_undo b (get o b) ∙ at_b)

    pub interleave : (last : Sessions) × (made : List Entry) × RunsTo (just_opened 2042 o) (interleaved o a b x z ticket) [] last made × (get last.records b ≡ Some z)
    interleave =
        let run : (made : List Entry) × RunsTo (just_opened 2042 o) (interleaved o a b x z ticket) [] s12 made = (
          _,
          (
            s1,
            (refl, refl),
            (
              s2,
              (refl, refl),
              (
                s3,
                (harmony, (λ t among m g h. absurd (none_below_0 h.0 h.2)), given, refl),
                (
                  s4,
                  ((inr (inl refl), refl, (λ h. h, λ h. h)), tt, (reads, got o x at_a), inl refl, refl),
                  (
                    s5,
                    ((inl refl, refl, (λ h. h, λ h. h)), tt, (writes, (subst IsSome (sym at_b) refl, refl)), inl refl, refl),
                    (
                      s6,
                      ((inl refl, refl, (λ h. h, λ h. h)), tt, (tt, refl), inl refl, refl),
                      (
                        s7,
                        ((inl refl, refl, (λ h. h, λ h. h)), tt, (writes, (subst IsSome (sym (put_here o b (Some z))) refl, refl)), inl refl, refl),
                        (
                          s8,
                          ((inl refl, refl, (λ h. h, λ h. h)), tt, (tt, (omega arith, refl)), inl refl, refl),
                          (
                            s9,
                            ((inl refl, refl, (λ h. h, λ h. h)), refl, refl),
                            (
                              s10,
                              ((inl refl, refl, (λ h. h, λ h. h)), tt, (reads_alone, got after_undo x a_stays), inl refl, refl),
                              (
                                s12,
                                ((inl refl, refl, (λ h. h, λ h. h)), refl),
                                (refl, refl),
                              ),
                            ),
                          ),
                        ),
                      ),
                    ),
                  ),
                ),
              ),
            ),
          ),
        ) in
        (s12, run.0, run.1, b_is_new)
