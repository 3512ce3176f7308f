-- A transaction ends, by an abort or a commit, and the history stays sound.
use Rattle.std.proofs.Common.{◌≡◌, ◌≢◌, ◌⊎◌, inl, inr, ⊎_elim, ◌++◌, ◌<◌, ℕ, List, [], ◌∷◌, None, refl, sym, ap, subst, ◌∙◌}
use Rattle.std.specs.FinMap.{get}
use Rattle.std.specs.List.{AllByRecursion}
use Rattle.shore_types.specs.declared.ids.Rid.{Rid}
use Rattle.shore_model.specs.declared.histories.Opening.{Opening}
use Rattle.shore_model.specs.declared.histories.Decision.TheVariants as decision
use Rattle.shore_model.specs.declared.histories.Entry.{Entry}
use Rattle.shore_model.specs.declared.histories.Entry.TheVariants.{Decided}
use Rattle.shore_model.specs.declared.progress.Progress.{Progress}
use Rattle.shore_model.specs.Histories.{Sound, calls_of, decisions, serial, writes_given}
use Rattle.shore_model.specs.Locks.{MayRead, MayWrite}
use Rattle.shore_model.specs.Records.{Records, overlay}
use Rattle.laws_lives.proofs.EndedLocks.{left_with}
use Rattle.laws_lives.proofs.Entries.{calls-decided, decisions-decided}
use Rattle.laws_lives.proofs.Lists.{recursion-each, recursion-push}
use Rattle.laws_lives.proofs.Members.{among_without, txn_among, txn_stays, txn_without}
use Rattle.laws_lives.proofs.Soundness.{sound_commit}
use Rattle.laws_lives.proofs.Standing.{stands_on}
use Rattle.laws_lives.proofs.Turns.{AreKept, KeepsTurn, kept_by_decided, serial-kept, serial-push}
use Rattle.laws_lives.proofs.UndoLists.{undo_kept_by_others, undone_agrees, undone_changes}
use Rattle.laws_lives.proofs.Views.{one_ends, overlay_none, some_or_none, writer_excludes}
use Rattle.laws_lives.specs.Sessions.{IsFree, SessionTxn, Sessions, txns_of, without_txn}
use Rattle.laws_lives.specs.Soundness.{IsSoundAfter, decided_txn, history_from, progress_from, progress_in, serial_after, written_by}
use Rattle.laws_lives.specs.UndoLists.{CanUndo, rolled_back}
use Rattle.laws_lives.specs.Views.{IsAmong, Sees, Stand, StayRight}

module _ {o : Opening} {es : List Entry} {s : Sessions} (k : IsSoundAfter o es s) where
  abbrev now : Records
  now = serial_after o es

  module _ (a : SessionTxn) (mem : IsAmong a s.active) where
    -- ---- a rollback ends: the undo list leaves the serial records at each id that its transaction may read

    abbrev pub R' : Records
    R' = rolled_back s.records a.undo.images

    pub abort_can : CanUndo s.held now s.records a.txn a.undo (progress_in o es a.txn)
    abort_can = k.undoes a mem

    pub rollback_changes : (id : Rid) → (get R' id ≡ get s.records id) ⊎ MayWrite s.held a.txn id
    rollback_changes = undone_changes abort_can

    -- what it may write nobody else may read
    pub rollback_elsewhere : (u : ℕ) → u ≢ a.txn → (id : Rid) → MayRead s.held u id → get R' id ≡ get s.records id
    rollback_elsewhere u other id r = ⊎_elim (λ kept. kept) (λ w. absurd (writer_excludes k.stand a.txn u id (λ same. other (sym same)) w r)) (rollback_changes id)

    pub rollback_stays_sound : IsSoundAfter o es (left_with s a R')
    rollback_stays_sound = record {
      sound = k.sound;
      standing = k.standing;
      stands_for = λ b in_rest. k.stands_for b (among_without a.txn b s.active in_rest).0;
      stand = one_ends k.stand a.txn (txn_among a s.active mem) now R' (txns_of (without_txn a.txn s.active)) k.standing (λ u other. refl)
          (λ u b. txn_without a.txn u s.active b) (λ u b other. txn_stays a.txn u s.active b other)
          (λ id. ⊎_elim (λ kept. inl (kept, refl)) (λ w. inr w) (rollback_changes id)) (undone_agrees abort_can);
      replies = λ u b. k.replies u (txn_without a.txn u s.active b).0;
      undoes = λ b in_rest. let there = among_without a.txn b s.active in_rest in
          undo_kept_by_others (k.undoes b there.0) now R' (λ id r. (rollback_elsewhere b.txn there.1 id r, refl));
      undecided = λ u b is_free. k.undecided u (txn_without a.txn u s.active b).0 is_free;
      below = λ u b. k.below u (txn_without a.txn u s.active b).0;
      decided = k.decided;
      uncalled = k.uncalled;
      unheld = k.unheld;
      own = λ u b is_free. k.own u (txn_without a.txn u s.active b).0 is_free;
      found_below = k.found_below;
    }

    -- ---- a commit: the records in place stay, and the serial records come to them

    abbrev pub with_commit : List Entry
    with_commit = es ++ Decided (decision.Commit a.txn) ∷ []

    pub commit_kept : AreKept o es with_commit (decisions es)
    commit_kept =
        recursion-each (λ d. KeepsTurn o es with_commit (decided_txn d)) (λ d. kept_by_decided o es (decided_txn d) (decision.Commit a.txn)) (decisions es)

    abbrev pub next_now : Records
    next_now = overlay now (written_by o es a.txn)

    pub commit_now : serial_after o with_commit ≡ next_now
    commit_now =
        ap (serial (written_by o with_commit) o.records) (decisions-decided es (decision.Commit a.txn)) ∙ serial-push (written_by o with_commit) o.records (decisions es) a.txn
        ∙ ap (λ R. overlay R (written_by o with_commit a.txn)) (serial-kept o es with_commit (decisions es) commit_kept)
        ∙ ap (overlay now) (ap (λ (p : Progress). p.writes) (kept_by_decided o es a.txn (decision.Commit a.txn)).progress)

    pub commit_called : (u : ℕ) → calls_of u with_commit ≡ calls_of u es
    commit_called u = calls-decided es u (decision.Commit a.txn)

    -- no rollback of it is under way
    module _ (none : a.undo.rolling ≡ None) where
      pub commit_sees : Sees s.held now s.records a.txn (written_by o es a.txn)
      commit_sees =
          subst (Sees s.held now s.records a.txn) ((k.stands_for a mem).written none) (k.stand.each a.txn (txn_among a s.active mem))

      commit_changes : (id : Rid) → ((get s.records id ≡ get s.records id) × (get next_now id ≡ get now id)) ⊎ MayWrite s.held a.txn id
      commit_changes id =
          ⊎_elim (λ w. inr (commit_sees.locked id w)) (λ none. inl (refl, overlay_none now (written_by o es a.txn) id none))
          (some_or_none (get (written_by o es a.txn) id))

      commit_elsewhere : (u : ℕ) → u ≢ a.txn → (id : Rid) → MayRead s.held u id → (get s.records id ≡ get s.records id) × (get next_now id ≡ get now id)
      commit_elsewhere u other id r = ⊎_elim (λ kept. kept) (λ w. absurd (writer_excludes k.stand a.txn u id (λ same. other (sym same)) w r)) (commit_changes id)

      -- its commit is its turn, or it was prepared
      pub commit_turn : IsFree s a.txn → Sound (history_from o with_commit)
      commit_turn is_free =
          sound_commit o es a.txn k.sound (k.own a.txn (txn_among a s.active mem) is_free) (k.replies a.txn (txn_among a s.active mem) now (λ id r. refl))

      pub commit_stays_sound : Sound (history_from o with_commit) → IsSoundAfter o with_commit (left_with s a s.records)
      commit_stays_sound turn = record {
        sound = turn;
        standing = k.standing;
        stands_for = λ b in_rest.
            stands_on o es with_commit b (k.standing b.txn) (ap (λ xs. (progress_from (writes_given o.in_doubt b.txn) xs).writes) (commit_called b.txn)) (k.stands_for b (among_without a.txn b s.active in_rest).0);
        stand =
            subst (λ now. Stand s.held now s.records (txns_of (without_txn a.txn s.active)) k.standing) (sym commit_now)
            (one_ends k.stand a.txn (txn_among a s.active mem) next_now s.records (txns_of (without_txn a.txn s.active)) k.standing (λ u other. refl)
            (λ u b. txn_without a.txn u s.active b) (λ u b other. txn_stays a.txn u s.active b other) commit_changes commit_sees.view);
        replies = λ u b. let there = txn_without a.txn u s.active b in
            subst (λ now. StayRight o.slots s.held u now (calls_of u with_commit)) (sym commit_now)
            (subst (StayRight o.slots s.held u next_now) (sym (commit_called u))
            (λ S agree. k.replies u there.0 S (λ id r. agree id r ∙ (commit_elsewhere u there.1 id r).1)));
        undoes = λ b in_rest. let there = among_without a.txn b s.active in_rest in
            subst (λ now. CanUndo s.held now s.records b.txn b.undo (progress_in o with_commit b.txn)) (sym commit_now)
            (subst (λ xs. CanUndo s.held next_now s.records b.txn b.undo (progress_from (writes_given o.in_doubt b.txn) xs)) (sym (commit_called b.txn))
            (undo_kept_by_others (k.undoes b there.0) next_now s.records (commit_elsewhere b.txn there.1)));
        undecided = λ u b is_free. let there = txn_without a.txn u s.active b in
            subst (AllByRecursion (λ d. decided_txn d ≢ u)) (sym (decisions-decided es (decision.Commit a.txn)))
            (recursion-push (λ d. decided_txn d ≢ u) (decisions es) (decision.Commit a.txn) (k.undecided u there.0 is_free) (λ same. there.1 (sym same)));
        below = λ u b. k.below u (txn_without a.txn u s.active b).0;
        decided =
            subst (AllByRecursion (λ d. decided_txn d < s.next_txn)) (sym (decisions-decided es (decision.Commit a.txn)))
            (recursion-push (λ d. decided_txn d < s.next_txn) (decisions es) (decision.Commit a.txn) k.decided (k.below a.txn (txn_among a s.active mem)));
        uncalled = λ u le. commit_called u ∙ k.uncalled u le;
        unheld = k.unheld;
        own = λ u b is_free. k.own u (txn_without a.txn u s.active b).0 is_free;
        found_below = k.found_below;
      }
