-- Rollbacks image by image: the state in between is a safe one, what is put back next has its page and fits there, and one image more makes the next state.
use Rattle.laws_checkpoints.specs.CheckpointedStores.{CheckpointedStore}
use Rattle.std.proofs.Common.{◌≡◌, ◌≢◌, inl, inr, ◌++◌, ◌∷◌, ◌+◌, ◌<◌, ◌≤◌, ℕ, List, [], Option, Some, IfNone, IfSome, OnOk, Result, Ok, Err, IsErrAnd, length, append_assoc, append-nil, drop, None, false, refl, sym, ap, subst, ◌∙◌, arith}
use Rattle.std.specs.Prelude.{IsSome}
use Rattle.std.specs.FinMap.{get}
use Rattle.std.proofs.lemmas.List.Elements.{recursion_from_All}
use Rattle.shore_types.specs.Images.{Image, image_len}
use Rattle.shore_types.specs.Layout.{HasPage}
use Rattle.shore_types.specs.declared.faults.Fault.{Fault}
use Rattle.shore_types.specs.declared.faults.Fault.TheVariants as fault
use Rattle.shore_types.specs.declared.ids.Rid.{Rid}
use Rattle.shore_types.specs.declared.layout.Geometry.{Geometry}
use Rattle.shore_model.specs.declared.calls.Call.{Call}
use Rattle.shore_model.specs.declared.calls.Call.TheVariants as call
use Rattle.shore_model.specs.Logs.{logged_writes}
use Rattle.shore_page.specs.Room.{Fits}
use Rattle.laws_room.proofs.Pages.{undo_fits}
use Rattle.laws_lives.specs.LogTells.{AreLogged}
use Rattle.shore_model.specs.declared.sessions.SessionState.{SessionState}
use Rattle.laws_lives.specs.Sessions.{SessionTxn, in_txn, with_undo, without_txn}
use Rattle.laws_lives.proofs.Lists.{drop-whole}
use Rattle.laws_lives.specs.UndoLists.{MayRoll, UndoList, images_since, least_kept, mark_of, rolled_back, undo_rolled}
use Rattle.laws_lives.specs.Views.{IsAmong}
use Rattle.laws_lives.specs.Logged.{and_compensations, and_record, next_to_undo}
use Rattle.laws_lives.proofs.UndoLists.{laid_over-append}
use Rattle.shore_model.specs.Records.{Records}
use Rattle.shore_model.specs.declared.calls.Outcome.TheVariants as outcome
use Rattle.shore_model.specs.declared.log_records.Payload.TheVariants.{Compensation, End}
use Rattle.shore_locks.specs.Grants.{released}
use Rattle.laws_calls.specs.Resolves.{rollback_done}
use Rattle.shore_core.specs.Callers.{MayPutBack}
use Rattle.shore_core.proofs.Decided.{resolve_steps}
use Rattle.shore_model.specs.declared.rollbacks.Rollback.{Rollback}
use Rattle.shore_model.specs.declared.rollbacks.Rollback.TheVariants.{To, Whole}
use Rattle.shore_model.specs.declared.step.Step.TheVariants.{Done, Refused}
use Rattle.shore_model.specs.declared.calls.Answer.TheVariants.{Aborted, WentBack}
use Rattle.laws_calls.specs.CallSteps.{CallStep, aborted, with_requests}
use Rattle.laws_calls.specs.StateChanges.{after_refusal, answered}
use Rattle.laws_calls.specs.Rollbacks.{Interrupts, IsUnwound, TakesCall, put_back, rolled}
use Rattle.laws_calls.specs.States.{DoesNotWait, IsOfSession, State, page_slots}
use Rattle.laws_calls.proofs.RollbackLinks.{one_logged}
use Rattle.laws_calls.proofs.AlikeEnds.{abort_alike, back_alike}
use Rattle.laws_calls.proofs.Unwinding.{its_list, list_gone, list_twice, rolled_on, same_mark}
use Rattle.shore_analysis.specs.Meant.{IsInBounds}
use Rattle.laws_runs.proofs.LoggedIds.{logged_inside}
use Rattle.laws_runs.proofs.Prefixes.{whole_placed}
use Rattle.shore_disk.specs.declared.device.Disk as disk
use Rattle.shore_log.specs.declared.tail.Tail as tail
use Rattle.shore_model.specs.declared.log_records.LogRecord.{LogRecord}
use Rattle.shore_txn.specs.Transactions.{txns_in, undos_in}
use Rattle.shore_txn.specs.Txns.{as_session_txn, entries_of, number_of}
use Rattle.shore_txn.specs.UndoEntries.{image_of, images_of}
use Rattle.shore_txn.specs.declared.transactions.Transactions.{Transactions}
use Rattle.shore_txn.specs.declared.txn.Txn.{Txn}
use Rattle.shore_txn.specs.declared.undo.UndoEntry.{UndoEntry}
use Rattle.shore_txn.proofs.OneOfMany.{among_map, map_join}
use Rattle.shore_core.specs.declared.core_calls.Core.{Core}
use Rattle.shore_core.specs.declared.rolling_back.Undo.{Undo}
use Rattle.shore_core.specs.Cores.{CoreComesTo, IsSafe}
use Rattle.shore_core.specs.Undoing.{IsDownTo, IsNext, PutsBack}
use Rattle.shore_core.proofs.Coming.{StaysRefused, comes_then, stays_behind}
use Rattle.shore_core.proofs.SafeCalls.{safe_stopped}
use Rattle.shore_core.proofs.Undoing.{last_same, own_is}

-- ---- what is put back next

module _ (g : Geometry) (s : State) (safe : IsSafe g s) (a : SessionTxn) (mem : IsAmong a s.sessions.active) (kept : List (Rid × Image)) (e : Rid × Image) (is : a.undo.images ≡ kept ++ e ∷ []) where
  pub newest_inside : HasPage g e.0.page
  newest_inside =
      (logged_inside g a.txn s.log e.0
      (one_logged (λ d. IsSome (get (logged_writes s.log a.txn) d.0)) kept e [] (subst (AreLogged s.log a.txn) is (safe.after.sessions.log.undo_logged a mem)))
      (recursion_from_All (IsInBounds g) s.log (whole_placed g safe.stream_bytes s.durable s.log safe.leaves.prefixes).inside)).0

  pub newest_fits : Fits g.version (page_slots s e.0.page) e.0.slot (image_len e.1)
  newest_fits = undo_fits _ s.sessions.records s.sessions.active s.counts safe.roomy.pages a mem kept e [] None is

pub split_last : {A : Type 0} (xs : List A) (n : ℕ) → length xs ≡ n + 1 → (less : List A) × (e : A) × (xs ≡ less ++ e ∷ []) × (length less ≡ n)
split_last [] n long = absurd (omega arith)
split_last (x ∷ []) n long = ([], x, refl, omega arith)
split_last (x ∷ y ∷ ys) n long =
    let rest = split_last (y ∷ ys) (length ys) (omega arith) in
    (x ∷ rest.0, rest.1, ap (λ l. x ∷ l) rest.2, let shorter = rest.3 in omega arith)

pub never_none : (less : List (Rid × Image)) (e : Rid × Image) → less ++ e ∷ [] ≡ [] → ⊥
never_none [] e is = cc
never_none (x ∷ less) e is = cc

-- the newest entry of a transaction in the table is the newest image of the state's
module _ (table : Transactions) (who : ℕ) (own : Txn) (less : List UndoEntry) (entry : UndoEntry) (there : IsAmong own (txns_in table)) (number : number_of own ≡ who) (entries : entries_of own ≡ less ++ entry ∷ []) where
  pub newest_image : (a : SessionTxn) (kept : List (Rid × Image)) (e : Rid × Image) → IsAmong a (undos_in table) → a.txn ≡ who → a.undo.images ≡ kept ++ e ∷ [] → image_of entry ≡ e
  newest_image a kept e among its images =
      let same : a ≡ as_session_txn own = own_is table own (among_map as_session_txn own (txns_in table) there) a among (its ∙ sym number) in
      last_same (images_of less) kept (image_of entry) e
      (sym (ap images_of entries ∙ map_join image_of less (entry ∷ [])) ∙ ap (λ (b : SessionTxn). b.undo.images) (sym same) ∙ images)

-- what one step comes to behind a fetch
module _ {T V : Type 0} {G : tail.Ghosts T} {H : disk.Ghosts V} (new : Core T V G H) (front : List ℕ) (before : List LogRecord) (s : State) (store : CheckpointedStore) (a : SessionTxn) (kept : List (Rid × Image)) (e : Rid × Image)
    (rollback : Rollback) where
  pub puts_refused : (r : Result (Unit {0}) Fault) (f : Fault) → IsErrAnd r (λ x. x ≡ f) → Interrupts s f → StaysRefused new front before s store f → PutsBack new a kept e rollback r front before s store
  puts_refused (Err x) f same why stays = (subst (Interrupts s) (sym same) why, subst (StaysRefused new front before s store) (sym same) stays)
  puts_refused (Ok x) f same why stays = absurd same

  pub puts_behind : (mid : Core T V G H) (r : Result (Unit {0}) Fault) (one : CoreComesTo mid front before store s) → PutsBack new a kept e rollback r front before s one.after → PutsBack new a kept e rollback r front before s store
  puts_behind mid (Ok done) one h = (h.0, comes_then mid new front before s (put_back s a kept (e ∷ []) rollback) store one h.1)
  puts_behind mid (Err f) one h = (h.0, stays_behind mid new front before s s store f one h.1)

-- what says something of nothing
pub said_of_none : {A X : Type 0} (o : Option A) → ((x : A) → o ≡ Some x → ⊥) → IfNone o X → X
said_of_none None never says = says
said_of_none (Some x) never says = absurd (never x refl)

-- what is put back next, if there is any
pub next_found : {table : Transactions} {who : ℕ} (o : Option Undo) (u : Undo) → o ≡ Some u → IfSome o (λ u. IsNext table who u.id u.bytes u.cost u.logged) → IsNext table who u.id u.bytes u.cost u.logged
next_found {table = table} {who = who} o u is next = subst (λ x. IfSome x (λ u. IsNext table who u.id u.bytes u.cost u.logged)) is next

-- what is so behind an answer, and before it
pub ok_then : {A : Type 0} {X Y : Type 0} (r : Result A Fault) → (X → Y) → OnOk r X → OnOk r Y
ok_then (Ok x) to says = to says
ok_then (Err f) to says = tt

-- no image is left above the mark of the savepoint
pub none_since : (undo : UndoList) (n : ℕ) → length undo.images ≡ mark_of undo n → images_since undo n ≡ []
none_since undo n here = ap (λ m. drop m undo.images) (sym here) ∙ drop-whole undo.images

-- what was put back so far is what an interrupted rollback leaves
pub unwound_of : (s : State) (a : SessionTxn) (r : Rollback) (count : ℕ) (mid : State) → least_kept a.undo r ≤ count → IsDownTo s a r count mid → IsUnwound s a r mid
unwound_of s a r count mid least down = elim down.state [ inl first ↦ inl first.1 | inr on ↦ inr (down.kept, down.undone, on.0, down.images, omega (arith, least, down.left), on.1) ]

-- the session is in its transaction still
pub still_own : (s mid : State) (session : ℕ) (a b : SessionTxn) → IsOfSession s session a → IsAmong b mid.sessions.active → b.txn ≡ a.txn → b.session ≡ a.session → mid.sessions.seats ≡ s.sessions.seats → IsOfSession mid session b
still_own s mid session a b of there number same seats = (
  (there, ap mid.sessions.seats same ∙ ap (λ (f : ℕ → SessionState). f a.session) seats ∙ of.0.1 ∙ ap in_txn (sym number), subst (λ n. 0 < n) (sym number) of.0.2),
  same ∙ of.1,
)

-- ---- a rollback that a resolve has decided

compensations-append : (t : ℕ) (log : List LogRecord) (xs ys : List (Rid × Image)) → and_compensations t log (xs ++ ys) ≡ and_compensations t (and_compensations t log ys) xs
compensations-append t log [] ys = refl
compensations-append t log (x ∷ xs) ys = ap (λ so_far. and_record t so_far (Compensation x.0 x.1 (next_to_undo t so_far))) (compensations-append t log xs ys)

-- interrupted, it ends as one that was not
module _ (s : State) (a : SessionTxn) (kept undone : List (Rid × Image)) (is : a.undo.images ≡ kept ++ undone) where
  abbrev done_by : Records → List SessionTxn → List LogRecord → State
  done_by records xs log = with_requests (record s { sessions = record s.sessions { records = records; active = xs }; log = log }) (released a.txn s.locks.requests)

  pub rollback_alike : rollback_done (put_back s a kept undone Whole) (rolled a kept Whole) ≡ rollback_done s a
  rollback_alike =
      let undo = undo_rolled a.undo kept Whole in
      let begun = and_compensations a.txn s.log undone in
      let records : rolled_back (rolled_back s.sessions.records undone) kept ≡ rolled_back s.sessions.records a.undo.images = sym (laid_over-append s.sessions.records kept undone) ∙ ap (rolled_back s.sessions.records) (sym is) in
      let log : and_compensations a.txn begun kept ≡ and_compensations a.txn s.log a.undo.images = sym (compensations-append a.txn s.log kept undone) ∙ ap (and_compensations a.txn s.log) (sym is) in
      ap (λ (x : Records). done_by x (without_txn a.txn (with_undo a.txn undo s.sessions.active)) (and_record a.txn (and_compensations a.txn begun kept) End)) records
      ∙ ap (λ (x : List SessionTxn). done_by (rolled_back s.sessions.records a.undo.images) x (and_record a.txn (and_compensations a.txn begun kept) End)) (list_gone a.txn undo s.sessions.active)
      ∙ ap (λ (x : List LogRecord). done_by (rolled_back s.sessions.records a.undo.images) (without_txn a.txn s.sessions.active) (and_record a.txn x End)) log

-- ---- steps

-- the call by which a session puts its own transaction's images back
abbrev pub call_of : Rollback → Call
call_of Whole = call.Abort
call_of (To n) = call.BackTo n

more : (e : Rid × Image) (es : List (Rid × Image)) → e ∷ es ≢ []
more e es clash = cc

module _ (g : Geometry) (s : State) (safe : IsSafe g s) (session : ℕ) (a : SessionTxn) (works : s.failed ≡ false) (idle : DoesNotWait s session) where
  -- ---- of the session's own transaction

  module _ (of : IsOfSession s session a) where
    takes : (n : ℕ) → MayRoll a.undo (To n) → TakesCall a.undo (call.BackTo n)
    takes n may = elim may.1 [ inl none ↦ inl none | inr rolling ↦ inr (inr (n, rolling, refl)) ]

    own_interrupted : (r : Rollback) → MayRoll a.undo r → (f : Fault) (mid : State) → IsUnwound s a r mid → Interrupts mid f → CallStep g s session (call_of r) (Refused f) (after_refusal f mid)
    own_interrupted Whole may f mid unwound why = inr (inr (inr (inr (inr (inl (works, idle, (a, of, inr (inr (inr (refl, (mid, unwound, why, refl)))))))))))
    own_interrupted (To n) may f mid unwound why = inr (inr (inr (inr (inr (inl (works, idle, (a, of, inr (inr (inl (n, refl, takes n may, inr (may.0, (mid, unwound, why, refl))))))))))))

    -- one that comes through is a step of the manager
    pub aborts_done : CallStep g s session call.Abort (Done Aborted) (aborted s a)
    aborts_done = inr (inr (inr (inr (inr (inl (works, idle, (a, of, inr (inr (inr (refl, (refl, refl)))))))))))

    pub goes_back_done : (n : ℕ) → MayRoll a.undo (To n) → CallStep g s session (call.BackTo n) (Done WentBack) (answered s a (call.BackTo n) WentBack s.counts)
    goes_back_done n may = inr (inr (inr (inr (inr (inl (works, idle, (a, of, inr (inr (inl (n, refl, takes n may, (may.0, refl, refl)))))))))))

  -- ---- .. and of one that it resolves

  -- the call that puts its images back
  abbrev pub caller : (r : Rollback) → MayPutBack s session a r → Call
  caller r (inl of) = call_of r
  caller r (inr resolves) = call.Resolve resolves.0 outcome.Abort

  -- and so is one that was interrupted
  pub interrupted : (r : Rollback) → MayRoll a.undo r → (may : MayPutBack s session a r) → (f : Fault) (mid : State) → IsUnwound s a r mid → Interrupts mid f
      → CallStep g s session (caller r may) (Refused f) (after_refusal f mid)
  interrupted r roll (inl of) f mid unwound why = own_interrupted of r roll f mid unwound why
  interrupted r roll (inr (global, resolves, rolls, whole)) f mid unwound why =
      resolve_steps g s session global outcome.Abort (Refused f) (after_refusal f mid) works idle
      (inr (resolves, (a, s, inr (rolls, refl), (mid, subst (λ x. IsUnwound s a x mid) whole unwound, why, refl))))

  module _ (r : Rollback) (roll : MayRoll a.undo r) (may : MayPutBack s session a r) (mem : IsAmong a s.sessions.active) (some_number : 0 < a.txn) where
    -- so what it leaves is safe
    pub safe_rolled : (kept undone : List (Rid × Image)) → undone ≢ [] → a.undo.images ≡ kept ++ undone → least_kept a.undo r ≤ length kept → IsSafe g (put_back s a kept undone r)
    safe_rolled kept undone some images least =
        let mid = put_back s a kept undone r in
        let c = caller r may in
        safe_stopped g s safe session c mid (interrupted r roll may fault.Memory mid (inr (kept, undone, some, images, least, refl)) (inl refl)) refl

    -- the state with so many images left, as the next one to be put back finds it
    pub record GoesOnFrom (count : ℕ) (mid : State) : Type 0 where
      pub its : SessionTxn
      pub there : IsAmong its mid.sessions.active
      pub number : its.txn ≡ a.txn
      pub session_is : its.session ≡ a.session
      pub seats : mid.sessions.seats ≡ s.sessions.seats
      pub resolving : mid.sessions.resolving ≡ s.sessions.resolving
      pub rests : DoesNotWait mid session
      pub runs : mid.failed ≡ false
      pub stays_safe : IsSafe g mid
      pub left : length its.undo.images ≡ count
      pub mark : (n : ℕ) → r ≡ To n → mark_of its.undo n ≡ mark_of a.undo n
      pub aborts : r ≡ Whole → aborted mid its ≡ aborted s a
      pub ends : r ≡ Whole → rollback_done mid its ≡ rollback_done s a
      pub goes_back : (n : ℕ) → r ≡ To n → answered mid its (call.BackTo n) WentBack mid.counts ≡ answered s a (call.BackTo n) WentBack s.counts
      pub next : (less : List (Rid × Image)) (e : Rid × Image) → its.undo.images ≡ less ++ e ∷ [] → IsDownTo s a r (length less) (put_back mid its less (e ∷ []) r)

    twice : (kept undone less : List (Rid × Image)) (e : Rid × Image) → put_back (put_back s a kept undone r) (rolled a kept r) less (e ∷ []) r ≡ put_back s a less (e ∷ undone) r
    twice kept undone less e =
        ap (λ (xs : List SessionTxn). record s { sessions = record s.sessions { records = rolled_back s.sessions.records (e ∷ undone); active = xs }; log = and_compensations a.txn s.log (e ∷ undone) })
        (list_twice a.txn (undo_rolled a.undo kept r) (undo_rolled (undo_rolled a.undo kept r) less r) s.sessions.active
        ∙ ap (λ undo. with_undo a.txn undo s.sessions.active) (rolled_on a.undo kept r less))

    may_at : (n : ℕ) → r ≡ To n → MayRoll a.undo (To n)
    may_at n is = subst (MayRoll a.undo) is roll

    from_first : (count : ℕ) → length a.undo.images ≡ count → GoesOnFrom count s
    from_first count left = record {
      its = a;
      there = mem;
      number = refl;
      session_is = refl;
      seats = refl;
      resolving = refl;
      rests = idle;
      runs = works;
      stays_safe = safe;
      left = left;
      mark = λ n is. refl;
      aborts = λ is. refl;
      ends = λ is. refl;
      goes_back = λ n is. refl;
      next = λ less e images. record { kept = less; undone = e ∷ []; images = images; left = refl; state = inr (more e [], refl) };
    }

    from_rolled : (kept undone : List (Rid × Image)) (count : ℕ) → undone ≢ [] → a.undo.images ≡ kept ++ undone → least_kept a.undo r ≤ count → length kept ≡ count
        → GoesOnFrom count (put_back s a kept undone r)
    from_rolled kept undone count some images least left = record {
      its = rolled a kept r;
      there = its_list a (undo_rolled a.undo kept r) s.sessions.active mem;
      number = refl;
      session_is = refl;
      seats = refl;
      resolving = refl;
      rests = idle;
      runs = works;
      stays_safe = safe_rolled kept undone some images (omega (arith, least, left));
      left = left;
      mark = λ n is. subst (λ (x : Rollback). mark_of (rolled a kept x).undo n ≡ mark_of a.undo n) (sym is) (same_mark a.undo kept n (may_at n is).0);
      aborts = λ is. subst (λ (x : Rollback). aborted (put_back s a kept undone x) (rolled a kept x) ≡ aborted s a) (sym is)
          (abort_alike s a kept undone images some_number (safe.after.sessions.log.undo_logged a mem) some);
      ends = λ is. subst (λ (x : Rollback). rollback_done (put_back s a kept undone x) (rolled a kept x) ≡ rollback_done s a) (sym is) (rollback_alike s a kept undone images);
      goes_back = λ n is. subst (λ (x : Rollback). answered (put_back s a kept undone x) (rolled a kept x) (call.BackTo n) WentBack s.counts ≡ answered s a (call.BackTo n) WentBack s.counts) (sym is)
          (back_alike s a kept undone images n (may_at n is).0 (let most = subst (λ (x : Rollback). least_kept a.undo x ≤ count) is least in omega (arith, most, left)));
      next = λ less e here. record {
        kept = less;
        undone = e ∷ undone;
        images = images ∙ ap (λ l. l ++ undone) here ∙ append_assoc less (e ∷ []) undone;
        left = refl;
        state = inr (more e undone, twice kept undone less e);
      };
    }

    pub goes_on_from : (count : ℕ) (mid : State) → least_kept a.undo r ≤ count → IsDownTo s a r count mid → GoesOnFrom count mid
    goes_on_from count mid least down = elim down.state [
      | inl first ↦
          subst (GoesOnFrom count) (sym first.1)
          (from_first count (ap length (down.images ∙ ap (λ l. down.kept ++ l) first.0 ∙ append-nil down.kept) ∙ down.left))
      | inr on ↦ subst (GoesOnFrom count) (sym on.1) (from_rolled down.kept down.undone count on.0 down.images least down.left)
    ]
