-- Events that must not come: each is refused by one condition of a step.
use Rattle.std.proofs.Common.{◌≡◌, ◌≢◌, inl, inr, ⊎_elim, ◌++◌, ℕ, List, [], ◌∷◌, None, Some, Result, Err, Ok, true, false, refl, sym, ap, subst, ◌∙◌, ◌<◌, ◌≤◌, length, arith}
use Rattle.std.specs.Prelude.{Contains, IsTrue, nat_eq}
use Rattle.std.specs.Cmp.Lexicographic.{pointwise}
use Rattle.std.proofs.lemmas.Bool.{true≢false}
use Rattle.shore_model.specs.declared.sessions.SessionState.{SessionState}
use Rattle.laws_lives.proofs.DoubtDecisions.{same_text}
use Rattle.laws_lives.proofs.SessionsAgree.{each_at}
use Rattle.std.proofs.lemmas.List.Elements.{All-contains}
use Rattle.shore_types.specs.Images.{Image}
use Rattle.shore_types.specs.declared.faults.Fault.{Fault}
use Rattle.shore_types.specs.declared.faults.Fault.TheVariants.{NoRecord}
use Rattle.shore_types.specs.declared.ids.Rid.{Rid}
use Rattle.shore_types.specs.declared.locking.Granule.{Granule}
use Rattle.shore_types.specs.declared.locking.Granule.TheVariants.{Record}
use Rattle.shore_types.specs.declared.locking.Mode.{Mode}
use Rattle.shore_model.specs.declared.calls.Answer.{Answer}
use Rattle.shore_model.specs.declared.calls.Answer.TheVariants.{Inserted}
use Rattle.shore_model.specs.declared.calls.Call.TheVariants as call
use Rattle.shore_model.specs.declared.holds.Hold.{Hold}
use Rattle.shore_model.specs.Locks.{HoldsAtLeast, MayRead, MayWrite, path}
use Rattle.shore_model.specs.Modes.{is_write}
use Rattle.shore_model.specs.Records.{Records}
use Rattle.laws_lives.proofs.WorkedRun.{only_one, record_on_path}
use Rattle.shore_model.specs.declared.rollbacks.Rollback.{Rollback}
use Rattle.shore_model.specs.declared.rollbacks.Rollback.TheVariants.{To}
use Rattle.laws_lives.specs.RepliesInPlace.{MayReplyInPlace}
use Rattle.laws_lives.specs.SessionSteps.{AppendCommit, AppendPrepare, AppendResolve, BeginTxn, Doom, GiveReply, MoveLocks, PutBack, StepsTo}
use Rattle.laws_lives.specs.Sessions.{SessionTxn, Sessions, in_doubt_of, in_use, txns_of}
use Rattle.laws_lives.specs.UndoLists.{mark_of}
use Rattle.laws_lives.specs.Views.{IsAmong}
use Rattle.laws_lives.specs.WorkedRun.{read_lock}

module _ (most : ℕ) (t : ℕ) (R : Records) (n : ℕ) where
  no_lock_reads : (id : Rid) → MayRead [] t id → ⊥
  no_lock_reads id r = omega (arith, r.2)

  pub get_unlocked : (id : Rid) (answer : Answer) → MayReplyInPlace most [] t R n (call.Get id) (Ok answer) → ⊥
  get_unlocked id answer h = no_lock_reads id h.0

  pub absent_unlocked : (id : Rid) → id.slot < most → MayReplyInPlace most [] t R n (call.Get id) (Err NoRecord) → ⊥
  absent_unlocked id less (inl h) = no_lock_reads id h.0
  absent_unlocked id less (inr beyond) = omega arith

  pub insert_under_read_lock : (id : Rid) (s : ℕ) (bytes : List ℕ)
      → MayReplyInPlace most (read_lock t id ∷ []) t R n (call.Insert s bytes) (Ok (Inserted id)) → ⊥
  insert_under_read_lock id s bytes h =
      let w = h.0 in
      let same = only_one (read_lock t id) w.1 (w.0, w.2, w.3) in
      let no : IsTrue false = subst (λ (h : Hold). IsTrue (is_write h.mode)) (sym same) w.4.2 in
      cc

  pub scan_under_record_lock : (a b : Rid) (answer : Answer) → a ≢ b → MayReplyInPlace most (read_lock t a ∷ []) t R n (call.Scan b.page.store) (Ok answer)
      → ⊥
  scan_under_record_lock a b answer differ h =
      let r = h.0 b (λ i. b.page.store) in
      let same = only_one (read_lock t a) r.1 (r.0, r.2, r.3) in
      differ (sym (record_on_path b a (subst (λ (h : Hold). Contains (path (Record b)) h.granule) (sym same) r.4.1)))

no_back_to : (id : Rid) (n : ℕ) → call.Get id ≡ call.BackTo n → ⊥
no_back_to id n e = cc

some_not_none : (r : Rollback) → Some r ≡ None → ⊥
some_not_none r e = cc

same_savepoint : (n m : ℕ) → Some (To n) ≡ Some (To m) → n ≡ m
same_savepoint n m e = cc

same_call : (n m : ℕ) → call.BackTo n ≡ call.BackTo m → n ≡ m
same_call n m e = cc

-- the last element of a list, or the one given
abbrev last_or : {A : Type 0} → A → List A → A
last_or x [] = x
last_or x (y ∷ ys) = last_or y ys

last_or-push : {A : Type 0} (x : A) (xs : List A) (y : A) → last_or x (xs ++ y ∷ []) ≡ y
last_or-push x [] y = refl
last_or-push x (z ∷ xs) y = last_or-push z xs y

same_last : {A : Type 0} (xs ys : List A) (x y : A) → xs ++ x ∷ [] ≡ ys ++ y ∷ [] → x ≡ y
same_last xs ys x y e = sym (last_or-push x xs x) ∙ ap (last_or x) e ∙ last_or-push x ys y

module _ (s new : Sessions) where
  pub second_txn : (session : ℕ) → 0 < (s.seats session).txn → StepsTo s (BeginTxn session) new → ⊥
  second_txn session some step = let none : (s.seats session).txn ≡ 0 = ap (λ (p : SessionState). p.txn) step.0 in omega arith

  -- one in doubt is left alone, until a resolve decides it, which comes only once its prepare is answered
  pub commit_of_doubtful : (a : SessionTxn) (ticket : ℕ) → IsAmong a.txn (in_doubt_of s) → StepsTo s (AppendCommit a ticket) new → ⊥
  commit_of_doubtful a ticket among step = step.0.2.0 among

  pub undo_of_doubtful : (a : SessionTxn) (kept : List (Rid × Image)) (e : Rid × Image) (r : Rollback) → IsAmong a.txn (in_doubt_of s) → StepsTo s (PutBack a kept e r) new → ⊥
  undo_of_doubtful a kept e r among step = step.0.1 among

  pub resolve_of_unanswered : (a : SessionTxn) (global : List ℕ) → (IsAmong (record { txn = a.txn; global = global; answered = true }) s.prepared → ⊥) → StepsTo s (AppendResolve a global) new → ⊥
  resolve_of_unanswered a global none step = none step.2

  pub same_global_id : (a : SessionTxn) (global : List ℕ) (granules : List Granule) (p : ℕ × List ℕ) → IsAmong p (in_use s) → p.1 ≡ global → StepsTo s (AppendPrepare a global granules) new → ⊥
  same_global_id a global granules p among same step =
      true≢false (sym (same_text global) ∙ ap (pointwise nat_eq global) (sym same) ∙ each_at (λ p. pointwise nat_eq global p.1 ≡ false) (in_use s) p step.2 among)

  -- a Prepare that does not name a granule which its transaction holds exclusively
  pub too_few_granules : (a : SessionTxn) (global : List ℕ) (granules : List Granule) (h : Hold) → Contains s.held h → h.txn ≡ a.txn → IsTrue (is_write h.mode) → (Contains granules h.granule → ⊥)
      → StepsTo s (AppendPrepare a global granules) new → ⊥
  too_few_granules a global granules h among own writes none step =
      none (All-contains (λ (h : Hold). h.txn ≡ a.txn → IsTrue (is_write h.mode) → Contains granules h.granule) s.held h step.3.all among own writes)

  pub lock_lost : (t : ℕ) (m : Mode) (g : Granule) → IsAmong t (txns_of s.active) → HoldsAtLeast s.held t m g → StepsTo s (MoveLocks []) new → ⊥
  lock_lost t m g among holds step = let kept = step.1 t among m g holds in omega (arith, kept.2)

  pub locks_clash : (held : List Hold) (t u : ℕ) (id : Rid) → t ≢ u → MayWrite held t id → MayRead held u id → StepsTo s (MoveLocks held) new → ⊥
  locks_clash held t u id other w r step = step.0.none_interferes id t u other w r

  pub lock_of_nobody : (h : Hold) (held : List Hold) → Contains held h → s.next_txn ≤ h.txn → StepsTo s (MoveLocks held) new → ⊥
  lock_of_nobody h held among beyond step = let less = All-contains (λ (h : Hold). h.txn < s.next_txn) held h step.2 among in omega arith

  -- ---- while a rollback is under way

  pub commit_in_rollback : (a : SessionTxn) (ticket : ℕ) → a.undo.rolling ≢ None → StepsTo s (AppendCommit a ticket) new → ⊥
  commit_in_rollback a ticket rolls step = rolls step.1

  pub get_in_rollback : (a : SessionTxn) (id : Rid) (reply : Result Answer Fault) → a.undo.rolling ≢ None → StepsTo s (GiveReply a (call.Get id) reply) new → ⊥
  get_in_rollback a id reply rolls step = ⊎_elim (λ none. rolls none) (λ back. no_back_to id back.0 back.3) step.3

  pub other_savepoint : (a : SessionTxn) (kept : List (Rid × Image)) (e : Rid × Image) (n m : ℕ) → a.undo.rolling ≡ Some (To n) → n ≢ m
      → StepsTo s (PutBack a kept e (To m)) new → ⊥
  other_savepoint a kept e n m rolls differ step =
      ⊎_elim (λ none. some_not_none (To n) (sym rolls ∙ none)) (λ other. differ (same_savepoint n m (sym rolls ∙ other))) step.2.1

  pub other_back_to : (a : SessionTxn) (n m : ℕ) (reply : Result Answer Fault) → a.undo.rolling ≡ Some (To n) → n ≢ m
      → StepsTo s (GiveReply a (call.BackTo m) reply) new → ⊥
  other_back_to a n m reply rolls differ step =
      ⊎_elim (λ none. some_not_none (To n) (sym rolls ∙ none))
      (λ back. differ (same_savepoint n back.0 (sym rolls ∙ back.2) ∙ sym (same_call m back.0 back.3))) step.3

  pub not_the_newest : (a : SessionTxn) (older kept : List (Rid × Image)) (newest e : Rid × Image) (r : Rollback) → a.undo.images ≡ older ++ newest ∷ []
      → newest ≢ e → StepsTo s (PutBack a kept e r) new → ⊥
  not_the_newest a older kept newest e r is differ step = differ (same_last older kept newest e (sym is ∙ step.1))

  pub before_savepoint : (a : SessionTxn) (kept : List (Rid × Image)) (e : Rid × Image) (n : ℕ) → length kept < mark_of a.undo n
      → StepsTo s (PutBack a kept e (To n)) new → ⊥
  before_savepoint a kept e n less step = let least = step.3 in omega arith

  pub doom_of_another : (a : SessionTxn) → (IsAmong a s.active → ⊥) → StepsTo s (Doom a) new → ⊥
  doom_of_another a other step = other step.0.0
