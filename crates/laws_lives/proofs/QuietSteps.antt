-- Events that leave every transaction as far as it was: a refusal, an answer on a ticket, and locks that move.
use Rattle.std.proofs.Common.{◌≡◌, ◌≢◌, ◌++◌, ◌<◌, ◌≤◌, ℕ, List, [], ◌∷◌, Bool, sym, ap, subst, ◌∙◌, arith}
use Rattle.std.specs.Prelude.{All}
use Rattle.std.specs.FinMap.{get}
use Rattle.std.specs.List.{AllByRecursion}
use Rattle.shore_types.specs.declared.ids.Rid.{Rid}
use Rattle.shore_model.specs.declared.histories.Opening.{Opening}
use Rattle.shore_model.specs.declared.calls.Exchange.{Exchange}
use Rattle.shore_model.specs.declared.histories.Decision.{Decision}
use Rattle.shore_model.specs.declared.histories.Entry.{Entry}
use Rattle.shore_model.specs.declared.progress.Progress.{Progress}
use Rattle.shore_model.specs.declared.histories.Entry.TheVariants.{Asked, Exchanged, Decided}
use Rattle.shore_model.specs.declared.holds.Hold.{Hold}
use Rattle.shore_model.specs.Histories.{Sound, calls_of, decisions, serial}
use Rattle.shore_model.specs.Locks.{Harmony, MayRead, MayWrite}
use Rattle.shore_model.specs.Records.{Records}
use Rattle.laws_lives.proofs.Entries.{calls-asked, calls-decided, calls-other, decisions-asked, decisions-decided, decisions-exchanged}
use Rattle.laws_lives.proofs.Exchanges.{IsQuiet}
use Rattle.laws_lives.proofs.Lists.{recursion-each, recursion-push}
use Rattle.laws_lives.proofs.Members.{txn_among}
use Rattle.laws_lives.proofs.Soundness.{sound_stays}
use Rattle.laws_lives.proofs.StrongerLocks.{reads_up, writes_up}
use Rattle.laws_lives.proofs.Standing.{stands_on}
use Rattle.laws_lives.proofs.Turns.{AreKept, KeepsTurn, kept_by_asked, kept_by_decided, kept_by_quiet, decision_after, serial-kept}
use Rattle.laws_lives.proofs.UndoLists.{undo_kept_by_locks}
use Rattle.laws_lives.proofs.Views.{locks_may_move}
use Rattle.laws_lives.specs.SessionSteps.{KeepsLocks}
use Rattle.laws_lives.specs.Sessions.{IsFree, SessionTxn, Sessions, locks_moved, txns_of}
use Rattle.laws_lives.specs.Soundness.{IsSoundAfter, decided_txn, history_from, progress_in, serial_after, written_by}
use Rattle.laws_lives.specs.UndoLists.{CanUndo}
use Rattle.laws_lives.specs.Views.{IsAmong, Stand, StayRight}

module _ {o : Opening} {es : List Entry} {s : Sessions} (k : IsSoundAfter o es s) where
  abbrev now : Records
  now = serial_after o es

  -- more entries, with which each transaction keeps its turn
  module _ (more : List Entry) (same : decisions more ≡ decisions es) (kept : (t : ℕ) → KeepsTurn o es more t) where
    pub more_now : serial_after o more ≡ now
    more_now =
        ap (serial (written_by o more) o.records) same
        ∙ serial-kept o es more (decisions es) (recursion-each (λ d. KeepsTurn o es more (decided_txn d)) (λ d. kept (decided_txn d)) (decisions es))

    pub more_stays_sound : ((t : ℕ) → s.next_txn ≤ t → calls_of t more ≡ calls_of t es) → IsSoundAfter o more s
    more_stays_sound uncalled = record {
      sound = sound_stays o es more same (recursion-each (λ d. KeepsTurn o es more (decided_txn d)) (λ d. kept (decided_txn d)) (decisions es)) k.sound;
      standing = k.standing;
      stands_for = λ a m. stands_on o es more a (k.standing a.txn) (ap (λ (p : Progress). p.writes) (kept a.txn).progress) (k.stands_for a m);
      stand = subst (λ now. Stand s.held now s.records (txns_of s.active) k.standing) (sym more_now) k.stand;
      replies = λ t a S agree. (kept t).replies S (k.replies t a S (λ id r. agree id r ∙ ap (λ R. get R id) more_now));
      undoes = λ a m. subst (λ now. CanUndo s.held now s.records a.txn a.undo (progress_in o more a.txn)) (sym more_now)
          (subst (CanUndo s.held now s.records a.txn a.undo) (sym (kept a.txn).progress) (k.undoes a m));
      undecided = λ t a is_free. subst (AllByRecursion (λ d. decided_txn d ≢ t)) (sym same) (k.undecided t a is_free);
      below = k.below;
      decided = subst (AllByRecursion (λ d. decided_txn d < s.next_txn)) (sym same) k.decided;
      uncalled = λ t le. uncalled t le ∙ k.uncalled t le;
      unheld = k.unheld;
      own = k.own;
      found_below = k.found_below;
    }

  -- a quiet reply
  module _ (session u : ℕ) (x : Exchange) (quiet : IsQuiet o.slots x) where
    abbrev pub with_quiet : List Entry
    with_quiet = es ++ Exchanged session u x ∷ []

    pub all_kept : (t : ℕ) → KeepsTurn o es with_quiet t
    all_kept t = kept_by_quiet o es t u session x quiet

    pub quiet_stays_sound : u < s.next_txn → IsSoundAfter o with_quiet s
    quiet_stays_sound below = more_stays_sound with_quiet (decisions-exchanged es u session x) all_kept (λ t le. calls-other es t u session x (λ same. omega arith))

  -- an answer on a ticket
  pub asked_stays_sound : (n : ℕ) (b : Bool) → IsSoundAfter o (es ++ Asked n b ∷ []) s
  asked_stays_sound n b = more_stays_sound (es ++ Asked n b ∷ []) (decisions-asked es n b) (λ t. kept_by_asked o es t n b) (λ t le. calls-asked es t n b)

  -- what neither records, nor locks, nor transactions under way are of may change
  pub sound_beside : (new : Sessions) → new.records ≡ s.records → new.active ≡ s.active → new.held ≡ s.held → new.next_txn ≡ s.next_txn
      → ((t : ℕ) → IsAmong t (txns_of s.active) → IsFree new t → IsFree s t) → IsSoundAfter o es new
  sound_beside new records active held next free =
      let at : (t : ℕ) → IsAmong t (txns_of new.active) → IsAmong t (txns_of s.active) = λ t b. subst (λ xs. IsAmong t (txns_of xs)) active b in
      let member : (a : SessionTxn) → IsAmong a new.active → IsAmong a s.active = λ a m. subst (IsAmong a) active m in
      record {
        sound = k.sound;
        standing = k.standing;
        stands_for = λ a m. k.stands_for a (member a m);
        stand = subst (λ xs. Stand new.held now new.records (txns_of xs) k.standing) (sym active)
            (subst (λ R. Stand new.held now R (txns_of s.active) k.standing) (sym records)
            (subst (λ held. Stand held now s.records (txns_of s.active) k.standing) (sym held) k.stand));
        replies = λ t b. subst (λ held. StayRight o.slots held t now (calls_of t es)) (sym held) (k.replies t (at t b));
        undoes = λ a m. subst (λ R. CanUndo new.held now R a.txn a.undo (progress_in o es a.txn)) (sym records)
            (subst (λ held. CanUndo held now s.records a.txn a.undo (progress_in o es a.txn)) (sym held) (k.undoes a (member a m)));
        undecided = λ t b is_free. k.undecided t (at t b) (free t (at t b) is_free);
        below = λ t b. subst (λ n. t < n) (sym next) (k.below t (at t b));
        decided = subst (λ n. AllByRecursion (λ d. decided_txn d < n) (decisions es)) (sym next) k.decided;
        uncalled = λ t le. k.uncalled t (subst (λ n. n ≤ t) next le);
        unheld = subst (λ held. All (λ (h : Hold). h.txn < new.next_txn) held) (sym held) (subst (λ n. All (λ (h : Hold). h.txn < n) s.held) (sym next) k.unheld);
        own = λ t b is_free. k.own t (at t b) (free t (at t b) is_free);
        found_below = λ t le. k.found_below t (subst (λ n. n ≤ t) next le);
      }

  -- a decision that leaves the serial records, and takes its turn if it has one
  module _ (d : Decision) (turn : Sound (history_from o (es ++ Decided d ∷ []))) (passes : (R : Records) → serial (written_by o (es ++ Decided d ∷ [])) R (d ∷ []) ≡ R) (own : decided_txn d < s.next_txn) where
    abbrev pub with_decision : List Entry
    with_decision = es ++ Decided d ∷ []

    pub decision_kept : AreKept o es with_decision (decisions es)
    decision_kept = recursion-each (λ c. KeepsTurn o es with_decision (decided_txn c)) (λ c. kept_by_decided o es (decided_txn c) d) (decisions es)

    pub decision_now : serial_after o with_decision ≡ now
    decision_now = decision_after o es d passes

    pub decision_called : (t : ℕ) → calls_of t with_decision ≡ calls_of t es
    decision_called t = calls-decided es t d

    pub decision_stays_sound : ((t : ℕ) → IsAmong t (txns_of s.active) → IsFree s t → decided_txn d ≢ t) → IsSoundAfter o with_decision s
    decision_stays_sound others = record {
      sound = turn;
      standing = k.standing;
      stands_for = λ a m. stands_on o es with_decision a (k.standing a.txn) (ap (λ (p : Progress). p.writes) (kept_by_decided o es a.txn d).progress) (k.stands_for a m);
      stand = subst (λ now. Stand s.held now s.records (txns_of s.active) k.standing) (sym decision_now) k.stand;
      replies = λ t a S agree. (kept_by_decided o es t d).replies S (k.replies t a S (λ id r. agree id r ∙ ap (λ R. get R id) decision_now));
      undoes = λ a m. subst (λ now. CanUndo s.held now s.records a.txn a.undo (progress_in o with_decision a.txn)) (sym decision_now)
          (subst (CanUndo s.held now s.records a.txn a.undo) (sym (kept_by_decided o es a.txn d).progress) (k.undoes a m));
      undecided = λ t a is_free. subst (AllByRecursion (λ c. decided_txn c ≢ t)) (sym (decisions-decided es d))
          (recursion-push (λ c. decided_txn c ≢ t) (decisions es) d (k.undecided t a is_free) (others t a is_free));
      below = k.below;
      decided = subst (AllByRecursion (λ c. decided_txn c < s.next_txn)) (sym (decisions-decided es d)) (recursion-push (λ c. decided_txn c < s.next_txn) (decisions es) d k.decided own);
      uncalled = λ t le. decision_called t ∙ k.uncalled t le;
      unheld = k.unheld;
      own = k.own;
      found_below = k.found_below;
    }

  -- locks
  module _ (held : List Hold) (harmony : Harmony held) (kept : (t : ℕ) → IsAmong t (txns_of s.active) → KeepsLocks s.held held t) (known : All (λ (h : Hold). h.txn < s.next_txn) held) where
    pub still_reads : (t : ℕ) (id : Rid) → IsAmong t (txns_of s.active) → MayRead s.held t id → MayRead held t id
    still_reads t id b r = reads_up s.held held t id (kept t b) r

    pub still_writes : (t : ℕ) (id : Rid) → IsAmong t (txns_of s.active) → MayWrite s.held t id → MayWrite held t id
    still_writes t id b w = writes_up s.held held t id (kept t b) w

    moved_stand : Stand held now s.records (txns_of s.active) k.standing
    moved_stand = locks_may_move k.stand held harmony still_reads still_writes

    pub locks_stay_sound : IsSoundAfter o es (locks_moved s held)
    locks_stay_sound = record {
      sound = k.sound;
      standing = k.standing;
      stands_for = k.stands_for;
      stand = moved_stand;
      replies = λ u b S agree. k.replies u b S (λ id r. agree id (still_reads u id b r));
      undoes = λ a m. let b = txn_among a s.active m in
          undo_kept_by_locks (k.undoes a m) held (k.standing a.txn) (λ id r. still_reads a.txn id b r) (λ id w. still_writes a.txn id b w) (k.stand.each a.txn b) (moved_stand.each a.txn b);
      undecided = k.undecided;
      below = k.below;
      decided = k.decided;
      uncalled = k.uncalled;
      unheld = known;
      own = k.own;
      found_below = k.found_below;
    }
