-- One reply to a transaction under way: it is right for every lone run that it must be right for, and keeps what the transaction sees.
use Rattle.laws_lives.specs.SessionSteps.{exchange}
use Rattle.std.proofs.Common.{◌≡◌, ◌⊎◌, inl, inr, ⊎_elim, ◌++◌, ◌<◌, ℕ, List, [], ◌∷◌, Option, Some, None, Result, Ok, Err, refl, sym, ap, subst, ◌∙◌, length, arith}
use Rattle.std.specs.Prelude.{IsSome, IsSomeAnd, unwrap_or}
use Rattle.std.specs.FinMap.{get, insert}
use Rattle.shore_types.specs.declared.faults.Fault.{Fault}
use Rattle.shore_types.specs.declared.faults.Fault.TheVariants.{NoRecord}
use Rattle.shore_types.specs.declared.ids.Rid.{Rid}
use Rattle.shore_model.specs.declared.calls.Answer.{Answer}
use Rattle.shore_model.specs.declared.calls.Answer.TheVariants.{Got, Inserted, Scanned}
use Rattle.shore_model.specs.declared.calls.Call.{Call}
use Rattle.shore_model.specs.declared.calls.Call.TheVariants as call
use Rattle.shore_model.specs.declared.calls.Exchange.{Exchange}
use Rattle.shore_model.specs.declared.holds.Hold.{Hold}
use Rattle.shore_model.specs.declared.progress.Progress.{Progress}
use Rattle.shore_model.specs.Alone.{IsRight, IsAbsent, MayRefuse, MayReply, record_named_by, start, after, after_answer, after_reply, writes_of}
use Rattle.shore_model.specs.Locks.{MayRead, MayWrite}
use Rattle.shore_model.specs.Records.{Records, WriteSet, overlay, put_image}
use Rattle.shore_model.proofs.Overlays.{get-overlay}
use Rattle.shore_types.specs.Images.{Image}
use Rattle.laws_lives.proofs.Exchanges.{after-push, replies-push}
use Rattle.laws_lives.proofs.Ids.{overlays_agree, put_here, put_there, scans_agree, told_apart, wrote_here, wrote_there}
use Rattle.laws_lives.proofs.UndoLists.{back_changes, back_sees, back_undoes, change_undoes, marks_saved, savepoint_undoes}
use Rattle.laws_lives.proofs.Views.{read_of_write}
use Rattle.laws_lives.specs.RepliesInPlace.{IsKnownAbsent, MayRefuseInPlace, MayReplyInPlace, Permit}
use Rattle.laws_lives.specs.UndoLists.{CanUndo, MayGiveReply, UndoList, in_place_after, in_place_after_answer, undo_after, undo_after_answer}
use Rattle.laws_lives.specs.Views.{AgreeWhere, Sees, StayRight}

if_some : {A : Type 0} (o : Option A) (P Q : A → Type 0) → ((x : A) → P x → Q x) → IsSomeAnd o P → IsSomeAnd o Q
if_some None P Q f h = h
if_some (Some x) P Q f h = f x h

-- What is right on the records in place is so on each map V that has the same at each id that the transaction may read.
module _ (most : ℕ) (held : List Hold) (t : ℕ) (R V : Records) (agree : (id : Rid) → MayRead held t id → get V id ≡ get R id) where
  there : (id : Rid) (P : Image → Type 0) → MayRead held t id → P (get R id) → P (get V id)
  there id P r h = subst P (sym (agree id r)) h

  insert_there : (n s : ℕ) (bytes : List ℕ) (answer : Answer) → Permit held t (call.Insert s bytes) answer → IsRight R n (call.Insert s bytes) answer
      → IsRight V n (call.Insert s bytes) answer
  insert_there n s bytes (Inserted id) permits h =
      let same : h.0 ≡ id = cc in
      (h.0, h.1, h.2, agree h.0 (read_of_write held t h.0 (subst (MayWrite held t) (sym same) permits)) ∙ h.3)
  insert_there n s bytes _ permits h = let e = h.1 in cc

  right_there : (n : ℕ) (c : Call) (answer : Answer) → Permit held t c answer → IsRight R n c answer → IsRight V n c answer
  right_there n call.Begin answer permits h = h
  right_there n (call.Get id) answer permits h = there id (λ o. IsSomeAnd o (λ bytes. answer ≡ Got bytes)) permits h
  right_there n (call.GetForUpdate id) answer permits h = there id (λ o. IsSomeAnd o (λ bytes. answer ≡ Got bytes)) permits h
  right_there n (call.Insert s bytes) answer permits h = insert_there n s bytes answer permits h
  right_there n (call.Update id bytes) answer permits h = (there id IsSome (read_of_write held t id permits) h.0, h.1)
  right_there n (call.Delete id) answer permits h = (there id IsSome (read_of_write held t id permits) h.0, h.1)
  right_there n (call.Scan s) answer permits h = h ∙ ap Scanned (sym (scans_agree s R V (λ id e. agree id (permits id e))))
  right_there n (call.Lock g mode) answer permits h = h
  right_there n (call.TryLock g mode) answer permits h = h
  right_there n call.Savepoint answer permits h = h
  right_there n (call.BackTo k) answer permits h = h
  right_there n call.Commit answer permits h = h
  right_there n call.Abort answer permits h = h
  right_there n (call.Prepare global) answer permits h = h
  right_there n (call.Resolve global outcome) answer permits h = h
  right_there n call.InDoubt answer permits h = h

  absent_there : (id : Rid) → IsKnownAbsent most held t R id → IsAbsent most V id
  absent_there id (inl h) = inl (agree id h.0 ∙ h.1)
  absent_there id (inr h) = inr h

  refused_there : (c : Call) (fault : Fault) → MayRefuseInPlace most held t R c fault → MayRefuse most V c fault
  refused_there c NoRecord h = if_some (record_named_by c) (IsKnownAbsent most held t R) (IsAbsent most V) absent_there h
  refused_there c _ h = tt

-- ---- what a call writes

module _ {held : List Hold} {now R : Records} {t : ℕ} (W : WriteSet) (m : Sees held now R t W) where
  -- The records in place and the write set have become R' and W': the transaction sees the one through the other, and only ids that it
  -- may write have changed.
  pub record StillSees (R' : Records) (W' : WriteSet) : Type 0 where
    pub view : (id : Rid) → MayRead held t id → get R' id ≡ get (overlay now W') id
    pub locked : (id : Rid) → IsSome (get W' id) → MayWrite held t id
    pub changes : (id : Rid) → (get R' id ≡ get R id) ⊎ MayWrite held t id

  pub nothing_written : StillSees R W
  nothing_written = record { view = m.view; locked = m.locked; changes = λ id. inl refl }

  pub one_written : (id : Rid) (image : Image) → MayWrite held t id → StillSees (put_image R id image) (insert W id image)
  one_written id image w = record {
    view = λ q r. ⊎_elim
        (λ same. subst (λ q. get (put_image R id image) q ≡ get (overlay now (insert W id image)) q) (sym same)
        (put_here R id image ∙ sym (get-overlay now (insert W id image) id ∙ ap (λ o. unwrap_or o (get now id)) (wrote_here W id image))))
        (λ other. put_there R id image q other ∙ m.view q r ∙ get-overlay now W q
        ∙ sym (get-overlay now (insert W id image) q ∙ ap (λ o. unwrap_or o (get now q)) (wrote_there W id image q other)))
        (told_apart q id);
    locked = λ q h. ⊎_elim (λ same. subst (MayWrite held t) (sym same) w) (λ other. m.locked q (subst IsSome (wrote_there W id image q other) h)) (told_apart q id);
    changes = λ q. ⊎_elim (λ same. inr (subst (MayWrite held t) (sym same) w)) (λ other. inl (put_there R id image q other)) (told_apart q id);
  }

-- ---- a transaction that has made these calls

module _ {held : List Hold} {now R : Records} {t : ℕ} (es : List Exchange) (m : Sees held now R t (writes_of es)) where
  abbrev pub progress : Progress
  progress = after start es

  -- overlaid with its own writes, each such map has what stands in place
  seen : (S : Records) → AgreeWhere (MayRead held t) now S → (id : Rid) → MayRead held t id → get (overlay S (writes_of es)) id ≡ get R id
  seen S agree id r = overlays_agree now S (writes_of es) id (agree id r) ∙ sym (m.view id r)

  may_reply : (most : ℕ) (c : Call) (reply : Result Answer Fault) → MayReplyInPlace most held t R (length progress.saved) c reply → (S : Records)
      → AgreeWhere (MayRead held t) now S → MayReply most S progress c reply
  may_reply most c (Ok answer) h S agree = right_there most held t R (overlay S progress.writes) (seen S agree) (length progress.saved) c answer h.0 h.1
  may_reply most c (Err fault) h S agree = refused_there most held t R (overlay S progress.writes) (seen S agree) c fault h

  -- no rollback of it is under way
  module _ (most : ℕ) (undo : UndoList) (k : CanUndo held now R t undo progress) (none : undo.rolling ≡ None) where
    marked : (n : ℕ) → n < length progress.saved → n < length undo.marks
    marked n less = let same = k.complete none in omega arith

    insert_sees : (s : ℕ) (bytes : List ℕ) (answer : Answer) → Permit held t (call.Insert s bytes) answer
        → StillSees progress.writes m (in_place_after_answer R undo (call.Insert s bytes) answer) (after_answer progress (call.Insert s bytes) answer).writes
    insert_sees s bytes (Inserted id) permits = one_written progress.writes m id (Some bytes) permits
    insert_sees s bytes _ permits = nothing_written progress.writes m

    answer_sees : (c : Call) (answer : Answer) → Permit held t c answer → IsRight R (length progress.saved) c answer
        → StillSees progress.writes m (in_place_after_answer R undo c answer) (after_answer progress c answer).writes
    answer_sees (call.Insert s bytes) answer permits h = insert_sees s bytes answer permits
    answer_sees (call.Update id bytes) answer permits h = one_written progress.writes m id (Some bytes) permits
    answer_sees (call.Delete id) answer permits h = one_written progress.writes m id None permits
    answer_sees (call.BackTo n) answer permits h = let few = marked n h.0 in let m = back_sees k n few in record { view = m.view; locked = m.locked; changes = back_changes k n few }
    answer_sees call.Savepoint answer permits h = nothing_written progress.writes m
    answer_sees _ answer permits h = nothing_written progress.writes m

    insert_undoes : (s : ℕ) (bytes : List ℕ) (answer : Answer) → Permit held t (call.Insert s bytes) answer
        → CanUndo held now (in_place_after_answer R undo (call.Insert s bytes) answer) t (undo_after_answer R undo (call.Insert s bytes) answer) (after_answer progress (call.Insert s bytes) answer)
    insert_undoes s bytes (Inserted id) permits = change_undoes k id (Some bytes) (insert progress.writes id (Some bytes)) permits
    insert_undoes s bytes _ permits = k

    answer_undoes : (c : Call) (answer : Answer) → Permit held t c answer → IsRight R (length progress.saved) c answer
        → CanUndo held now (in_place_after_answer R undo c answer) t (undo_after_answer R undo c answer) (after_answer progress c answer)
    answer_undoes (call.Insert s bytes) answer permits h = insert_undoes s bytes answer permits
    answer_undoes (call.Update id bytes) answer permits h = change_undoes k id (Some bytes) (insert progress.writes id (Some bytes)) permits
    answer_undoes (call.Delete id) answer permits h = change_undoes k id None (insert progress.writes id None) permits
    answer_undoes (call.BackTo n) answer permits h = back_undoes k n (marked n h.0)
    answer_undoes call.Savepoint answer permits h = savepoint_undoes k none m
    answer_undoes _ answer permits h = k

    pub reply_sees : (c : Call) (reply : Result Answer Fault) → MayReplyInPlace most held t R (length progress.saved) c reply
        → StillSees progress.writes m (in_place_after R undo c reply) (after_reply progress c reply).writes
    reply_sees c (Ok answer) h = answer_sees c answer h.0 h.1
    reply_sees c (Err fault) h = nothing_written progress.writes m

    reply_undoes : (c : Call) (reply : Result Answer Fault) → MayReplyInPlace most held t R (length progress.saved) c reply
        → CanUndo held now (in_place_after R undo c reply) t (undo_after R undo c reply) (after_reply progress c reply)
    reply_undoes c (Ok answer) h = answer_undoes c answer h.0 h.1
    reply_undoes c (Err fault) h = k

    -- with the reply among its calls it sees as it must ..
    pub sees_after : (c : Call) (reply : Result Answer Fault) → MayReplyInPlace most held t R (length progress.saved) c reply
        → Sees held now (in_place_after R undo c reply) t (writes_of (es ++ exchange c reply ∷ []))
    sees_after c reply h =
        let moved = reply_sees c reply h in
        let W = after-push start es (exchange c reply) in
        record {
          view = λ id r. moved.view id r ∙ ap (λ p. get (overlay now p.writes) id) (sym W);
          locked = λ id w. moved.locked id (subst (λ p. IsSome (get p.writes id)) W w);
        }

    -- .. it can still be undone ..
    pub undoes_after : (c : Call) (reply : Result Answer Fault) → MayReplyInPlace most held t R (length progress.saved) c reply
        → CanUndo held now (in_place_after R undo c reply) t (undo_after R undo c reply) (after start (es ++ exchange c reply ∷ []))
    undoes_after c reply h =
        subst (CanUndo held now (in_place_after R undo c reply) t (undo_after R undo c reply)) (sym (after-push start es (exchange c reply)))
        (reply_undoes c reply h)

  -- .. and all its replies stay right.
  pub right_after : (most : ℕ) (c : Call) (reply : Result Answer Fault) → MayReplyInPlace most held t R (length progress.saved) c reply → StayRight most held t now es
      → StayRight most held t now (es ++ exchange c reply ∷ [])
  right_after most c reply h right S agree = replies-push most S start es (exchange c reply) (right S agree) (may_reply most c reply h S agree)

-- ---- a reply that may be given to a transaction that has made the calls es, whether a rollback of it is under way or none

module _ (most : ℕ) (held : List Hold) (now R : Records) (t : ℕ) (es : List Exchange) (undo : UndoList) where
  -- it sees as it must, it can still be undone, all its replies stay right, and only ids that it may write have changed
  pub record LeavesAll (c : Call) (reply : Result Answer Fault) : Type 0 where
    pub changes : (id : Rid) → (get (in_place_after R undo c reply) id ≡ get R id) ⊎ MayWrite held t id
    pub sees : Sees held now (in_place_after R undo c reply) t (writes_of (es ++ exchange c reply ∷ []))
    pub undoes : CanUndo held now (in_place_after R undo c reply) t (undo_after R undo c reply) (after start (es ++ exchange c reply ∷ []))
    pub right : StayRight most held t now (es ++ exchange c reply ∷ [])

  module _ (k : CanUndo held now R t undo (after start es)) (right : StayRight most held t now es) where
    -- a rollback to a savepoint leaves what was saved there, whatever of it was done before
    back_leaves : (n : ℕ) (answer : Answer) → MayReplyInPlace most held t R (length undo.marks) (call.BackTo n) (Ok answer)
        → LeavesAll (call.BackTo n) (Ok answer)
    back_leaves n answer h =
        let x : Exchange = exchange (call.BackTo n) (Ok answer) in
        let less = h.1.0 in
        let R' = in_place_after R undo (call.BackTo n) (Ok answer) in
        let come = sym (after-push start es x) in
        record {
          changes = back_changes k n less;
          sees = subst (λ p. Sees held now R' t p.writes) come (back_sees k n less);
          undoes = subst (CanUndo held now R' t (undo_after R undo (call.BackTo n) (Ok answer))) come (back_undoes k n less);
          right = λ S agree. replies-push most S start es x (right S agree) (let saved = marks_saved k in omega arith, h.1.1);
        }

    pub leaves_all : (L : WriteSet) → Sees held now R t L → (undo.rolling ≡ None → L ≡ writes_of es) → (c : Call) (reply : Result Answer Fault)
        → MayGiveReply undo c reply → MayReplyInPlace most held t R (length undo.marks) c reply → LeavesAll c reply
    leaves_all L m is c reply (inl none) h =
        let own : Sees held now R t (writes_of es) = subst (Sees held now R t) (is none) m in
        let judged : MayReplyInPlace most held t R (length (after start es).saved) c reply = subst (λ n. MayReplyInPlace most held t R n c reply) (k.complete none) h in
        record {
          changes = (reply_sees es own most undo k none c reply judged).changes;
          sees = sees_after es own most undo k none c reply judged;
          undoes = undoes_after es own most undo k none c reply judged;
          right = right_after es own most c reply judged right;
        }
    leaves_all L m is c reply (inr goes) h =
        let it : MayReplyInPlace most held t R (length undo.marks) (call.BackTo goes.0) (Ok goes.1) =
        subst (λ c. MayReplyInPlace most held t R (length undo.marks) c (Ok goes.1)) goes.3 (subst (MayReplyInPlace most held t R (length undo.marks) c) goes.4 h) in
        subst (LeavesAll c) (sym goes.4) (subst (λ c. LeavesAll c (Ok goes.1)) (sym goes.3) (back_leaves goes.0 goes.1 it))

  -- after it no rollback is under way
  insert_ends : undo.rolling ≡ None → (s : ℕ) (bytes : List ℕ) (answer : Answer) → (undo_after_answer R undo (call.Insert s bytes) answer).rolling ≡ None
  insert_ends none s bytes (Inserted id) = none
  insert_ends none s bytes _ = none

  answer_ends : undo.rolling ≡ None → (c : Call) (answer : Answer) → (undo_after_answer R undo c answer).rolling ≡ None
  answer_ends none (call.Insert s bytes) answer = insert_ends none s bytes answer
  answer_ends none (call.Update id bytes) answer = none
  answer_ends none (call.Delete id) answer = none
  answer_ends none (call.BackTo n) answer = refl
  answer_ends none call.Savepoint answer = none
  answer_ends none _ answer = none

  pub none_rolls : (c : Call) (reply : Result Answer Fault) → MayGiveReply undo c reply → (undo_after R undo c reply).rolling ≡ None
  none_rolls c (Ok answer) (inl none) = answer_ends none c answer
  none_rolls c (Err fault) (inl none) = none
  none_rolls c reply (inr goes) =
      ap (λ reply. (undo_after R undo c reply).rolling) goes.4 ∙ ap (λ c. (undo_after R undo c (Ok goes.1)).rolling) goes.3
