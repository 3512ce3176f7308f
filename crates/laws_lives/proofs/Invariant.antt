-- The invariant: each event keeps it, and what a crash leaves meets it again.
use Rattle.std.proofs.Common.{◌≡◌, ◌++◌, ◌⊎◌, inl, inr, ⊎_elim, ◌≤◌, ℕ, List, [], ◌∷◌, true, false, cond, Option, Some, None, refl, sym, ap, subst, ◌∙◌, arith, length, take, max, length-take}
use Rattle.std.specs.Prelude.{slice_get, IsSomeAnd}
use Rattle.std.specs.Ordering.{eq_by_cmp}
use Rattle.std.proofs.lemmas.List.{length-append, take_all}
use Rattle.std.proofs.lemmas.Option.{slice_get_within}
use Rattle.shore_types.specs.declared.ids.PageId.{PageId}
use Rattle.shore_types.specs.Ids.{page_cmp, exact_pages}
use Rattle.shore_model.specs.declared.log_records.LogRecord.{LogRecord}
use Rattle.shore_model.specs.Logs.{image_of_record}
use Rattle.laws_lives.specs.Pages.{LoggedPage, LoggedPages, IsAsOfOwnNumber, AreAsOfOwnNumbers, PagesLackNone, rid_on}
use Rattle.laws_lives.specs.Recovery.{RecoveryState, RecoveryEvent, AppendRecord, RedoRecord, ForceLog, FlushPage, LosePower, LeadsTo, LeadTo, IsRecoverable, CrashMayLeave, MayCrash, with_page_written, after_append, after_redo, after_force, after_flush, after_crash}
use Rattle.laws_lives.proofs.Redo.{as_of_longer, as_of_cut, redo_one, slice_get_last, own_number, whole, lacks_longer, lacks_none_yet}
use Rattle.laws_lives.proofs.Booleans.{is_equal}

pub equal_pages : (p q : PageId) → eq_by_cmp page_cmp p q ≡ true → p ≡ q
equal_pages p q e = exact_pages p q (is_equal (page_cmp p q) e)

-- as of its own number, and that is durable
abbrev pub IsWritten : List LogRecord → ℕ → PageId → LoggedPage → Type 0
IsWritten log durable p page = IsAsOfOwnNumber log p page × (page.number ≤ durable)

-- ---- redo, and a record appended

module _ (s : RecoveryState) (k : IsRecoverable s) where
  redone_kept : (r : LogRecord) → slice_get s.log s.redone ≡ Some r → IsRecoverable (after_redo s r)
  redone_kept r at =
      let within = slice_get_within s.log s.redone r at in
      record {
        durable = k.durable;
        redone = omega arith;
        volume = k.volume;
        ahead = k.ahead;
        in_place = λ p. redo_one s.log p s.redone r at (s.in_place p) (k.in_place p);
      }

module _ (s : RecoveryState) (k : IsRecoverable s) (r : LogRecord) where
  longer_kept : IsRecoverable (record s { log = s.log ++ r ∷ [] })
  longer_kept =
      let long = length-append s.log (r ∷ []) in
      let durable = k.durable in
      let redone = k.redone in
      record {
        durable = omega arith;
        redone = omega arith;
        volume = λ p. as_of_longer s.log p (s.volume p).number (s.volume p) (k.volume p) (r ∷ []);
        ahead = k.ahead;
        in_place = λ p. lacks_longer s.log p s.redone (s.in_place p) (k.in_place p) (r ∷ []);
      }

  append_kept : s.redone ≡ length s.log → IsRecoverable (after_append s r)
  append_kept whole =
      redone_kept (record s { log = s.log ++ r ∷ [] }) longer_kept r (ap (slice_get (s.log ++ r ∷ [])) whole ∙ slice_get_last s.log r)

-- ---- a force, a flush, a crash

module _ (s : RecoveryState) (k : IsRecoverable s) where
  force_kept : (n : ℕ) → s.durable ≤ n → n ≤ length s.log → IsRecoverable (after_force s n)
  force_kept n more most = record {
    durable = most;
    redone = k.redone;
    volume = k.volume;
    ahead = λ p. let a = k.ahead p in omega arith;
    in_place = k.in_place;
  }

  left_written : (left : LoggedPages) → CrashMayLeave s left → (p : PageId) → IsWritten s.log s.durable p (left p)
  left_written left may p = ⊎_elim
      (λ old. subst (IsWritten s.log s.durable p) (sym old) (k.volume p, k.ahead p))
      (λ new. subst (IsWritten s.log s.durable p) (sym new.0) (own_number s.log p s.redone (s.in_place p) (k.in_place p), new.1))
      (may p)

  -- a flush of one page is a crash's batch that is through with that page
  flush_left : (p : PageId) → (s.in_place p).number ≤ s.durable → CrashMayLeave s (with_page_written s.volume p (s.in_place p))
  flush_left p le q =
      elim (eq_by_cmp page_cmp q p) as (λ b. eq_by_cmp page_cmp q p ≡ b
      → (cond b (s.in_place p) (s.volume q) ≡ s.volume q) ⊎ ((cond b (s.in_place p) (s.volume q) ≡ s.in_place q) × ((s.in_place q).number ≤ s.durable))) [
        | true ↦ λ e. let same : q ≡ p = equal_pages q p e in inr (ap s.in_place (sym same), subst (λ x. (s.in_place x).number ≤ s.durable) (sym same) le)
        | false ↦ λ e. inl refl
      ] refl

  flush_kept : (p : PageId) → (s.in_place p).number ≤ s.durable → IsRecoverable (after_flush s p)
  flush_kept p le =
      let written = left_written (with_page_written s.volume p (s.in_place p)) (flush_left p le) in
      record {
        durable = k.durable;
        redone = k.redone;
        volume = λ q. (written q).0;
        ahead = λ q. (written q).1;
        in_place = k.in_place;
      }

  pub crash_stands : (n : ℕ) (left : LoggedPages) → s.durable ≤ n → n ≤ length s.log → CrashMayLeave s left → AreAsOfOwnNumbers (take n s.log) left
  crash_stands n left more most may p =
      let w = left_written left may p in
      let number = w.1 in
      as_of_cut s.log p (left p).number (left p) w.0 n (omega arith) most

  crash_kept : (n : ℕ) (left : LoggedPages) (begin : ℕ) → MayCrash s n left begin → IsRecoverable (after_crash s n left begin)
  crash_kept n left begin may =
      let more = may.0 in
      let most = may.1 in
      let long = length-take n s.log in
      let some : PageId = record { store = 0; page = 0 } in
      let within = (whole (take n s.log) some begin (left some) (may.3 some)).within in
      record {
        durable = omega arith;
        redone = omega arith;
        volume = crash_stands n left more most may.2;
        ahead = λ p. let w = (left_written left may.2 p).1 in omega arith;
        in_place = may.3;
      }

-- ---- events

pub event_kept : (s : RecoveryState) (e : RecoveryEvent) (new : RecoveryState) → IsRecoverable s → LeadsTo s e new → IsRecoverable new
event_kept s (AppendRecord r) new k m = subst IsRecoverable (sym m.1) (append_kept s k r m.0)
event_kept s RedoRecord new k m = redo_kept (slice_get s.log s.redone) refl m
  where
    redo_kept : (o : Option LogRecord) → slice_get s.log s.redone ≡ o → IsSomeAnd o (λ r. new ≡ after_redo s r) → IsRecoverable new
    redo_kept None e is = absurd is
    redo_kept (Some r) e is = subst IsRecoverable (sym is) (redone_kept s k r e)
event_kept s (ForceLog n) new k m = subst IsRecoverable (sym m.2) (force_kept s k n m.0 m.1)
event_kept s (FlushPage p) new k m = subst IsRecoverable (sym m.1) (flush_kept s k p m.0)
event_kept s (LosePower n left begin) new k m = subst IsRecoverable (sym m.1) (crash_kept s k n left begin m.0)

pub events_kept : (s : RecoveryState) (events : List RecoveryEvent) (last : RecoveryState) → IsRecoverable s → LeadTo s events last → IsRecoverable last
events_kept s [] last k m = subst IsRecoverable (sym m) k
events_kept s (e ∷ events) last k m = events_kept m.0 events last (event_kept s e m.0 k m.1) m.2

pub redone_whole : (s : RecoveryState) → IsRecoverable s → s.redone ≡ length s.log → (p : PageId) (i : ℕ) → (s.in_place p).slots i ≡ image_of_record s.log (rid_on p i)
redone_whole s k all_done p i =
    let here = whole s.log p s.redone (s.in_place p) (k.in_place p) in
    let number = here.within in
    let all : length s.log ≤ max s.redone (s.in_place p).number = omega arith in
    here.slots i ∙ ap (λ xs. image_of_record xs (rid_on p i)) (take_all (max s.redone (s.in_place p).number) s.log all)

pub from_the_first : (log : List LogRecord) (left : LoggedPages) → AreAsOfOwnNumbers log left → PagesLackNone log 0 left
from_the_first log left stand p = lacks_none_yet log p (left p) (stand p)
