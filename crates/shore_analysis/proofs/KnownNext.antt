-- A pass that has taken a record in knows the log with that record.
use Rattle.std.proofs.Common.{◌≡◌, ◌≢◌, ◌⊎◌, inl, inr, ⊎_elim, ◌+◌, ◌<◌, ℕ, List, [], ◌∷◌, ◌++◌, Bool, true, false, cond, eqb, Option, Some, None, refl, sym, ap, ◌∙◌, length, max, arith, Result, Ok, Err}
use Rattle.std.specs.Prelude.{◌&&◌, ◌||◌, OnOk, is_some, nat_lt, not}
use Rattle.std.specs.Ordering.{eq_by_cmp, nat_cmp}
use Rattle.std.specs.BTreeMap.{get, is_at}
use Rattle.std.specs.BTreeSet.{contains}
use Rattle.std.specs.Cmp.{nat_cmp_total, eq_by_cmp_equiv}
use Rattle.std.proofs.lemmas.Bool.{cases_Bool, false_from_ne_true, lt-ltb, ne_eqb}
use Rattle.std.proofs.lemmas.List.Elements.{All-pop, All-push, All-weaker}
use Rattle.std.proofs.lemmas.Map.Lookups.{exact_unsigned}
use Rattle.shore_types.specs.Ids.{page_cmp, exact_pages, pages_total}
use Rattle.shore_types.specs.declared.layout.Geometry.{Geometry}
use Rattle.shore_types.specs.declared.ids.PageId.{PageId}
use Rattle.shore_model.specs.declared.log_records.LogRecord.{LogRecord}
use Rattle.shore_model.specs.declared.log_records.LogTxn.{LogTxn}
use Rattle.shore_model.specs.Logs.{has, id_in, is_commit, is_end, is_over, is_prepare, last_of, prepare_number, unanswered, undo_next_of}
use Rattle.laws_lives.proofs.Booleans.{is_equal, or_none, or_true}
use Rattle.laws_lives.proofs.EndedTxns.{over_now, over_other, over_same}
use Rattle.shore_analysis.specs.declared.passes.Pass.{Pass}
use Rattle.shore_analysis.specs.Meant.{IsMeant, AreMeantOf}
use Rattle.shore_analysis.specs.Passes.{Knows, entry_after, entry_at, entry_of, is_ending, noted, over_after, phase_by, phase_of, progress_at, progress_by, txn_after}
use Rattle.shore_analysis.specs.declared.progress.Phase.TheVariants.{Decided, Free, InDoubt}
use Rattle.shore_analysis.specs.Tables.{IsNext, is_on_page}
use Rattle.shore_analysis.proofs.Answered.{one_or_none}
use Rattle.shore_analysis.proofs.MeantLogs.{nothing_unanswered}
use Rattle.shore_analysis.proofs.Listed.{entry_runs}
use Rattle.shore_analysis.proofs.OneMore.{entry-other, entry_some, goes_on, nothing_prepared, over_none, prepare_known, recovery-push}
use Rattle.shore_analysis.proofs.Phases.{prepared_is, unprepared_no_doubt}

-- a key is found, or is another
pub key_cases : (k t : ℕ) → ((is_at (nat_cmp k) t ≡ true) × (k ≡ t)) ⊎ ((is_at (nat_cmp k) t ≡ false) × (k ≢ t))
key_cases k t = ⊎_elim
    (λ here. inl (here, exact_unsigned k t (is_equal (nat_cmp k t) here)))
    (λ off. inr (off, λ e. let here : is_at (nat_cmp k) t ≡ true = ap (λ u. is_at (nat_cmp k) u) (sym e) ∙ (eq_by_cmp_equiv nat_cmp_total).refl k in cc))
    (cases_Bool (is_at (nat_cmp k) t))

pub on_both : {A B : Type 0} {P Q R : Type 0} (r : Result A B) → (P → Q → R) → OnOk r P → OnOk r Q → OnOk r R
on_both (Ok x) f p q = f p q
on_both (Err x) f p q = tt

pub none_there : {A : Type 0} (o : Option A) → is_some o ≡ false → o ≡ None
none_there None h = refl
none_there (Some x) h = cc

-- a page that was not marked is marked now
pub page_noted : (page p : PageId) (n : ℕ) (old : PageId → Option ℕ) → old page ≡ None → cond (is_at (page_cmp page) p) (Some n) (old p) ≡ noted (eq_by_cmp page_cmp p page) n (old p)
page_noted page p n old absent = ⊎_elim
    (λ here.
    let same : page ≡ p = exact_pages page p (is_equal (page_cmp page p) here) in
    let back : eq_by_cmp page_cmp p page ≡ true = ap (eq_by_cmp page_cmp p) same ∙ (eq_by_cmp_equiv pages_total).refl p in
    let none : old p ≡ None = ap old (sym same) ∙ absent in
    rw (here, back, none) refl)
    (λ off.
    let apart : eq_by_cmp page_cmp p page ≡ false = false_from_ne_true (eq_by_cmp page_cmp p page) (λ e.
    let same : p ≡ page = exact_pages p page (is_equal (page_cmp p page) e) in
    let here : is_at (page_cmp page) p ≡ true = ap (λ q. is_at (page_cmp page) q) same ∙ (eq_by_cmp_equiv pages_total).refl page in
    cc) in
    ap (λ b. cond b (Some n) (old p)) off ∙ stays (old p) ∙ ap (λ b. noted b n (old p)) (sym apart))
    (cases_Bool (is_at (page_cmp page) p))
  where
    stays : (o : Option ℕ) → o ≡ noted false n o
    stays None = refl
    stays (Some x) = refl

-- a transaction without an entry that has not ended is new
pub progress_new : (rs : List LogRecord) (t : ℕ) → 0 < t → entry_at t rs ≡ None → is_over t rs ≡ false
    → Some (record { last = 0; newest = 0; phase = Free }) ≡ progress_at t rs
progress_new rs t one absent runs = ⊎_elim
    (λ none.
    let free : has is_prepare t rs ≡ false = nothing_prepared t rs none in
    let phase : Free ≡ phase_of t rs = sym ((λ i. cond (unprepared_no_doubt t rs free i) InDoubt (cond (not (free i)) Free Decided))) in
    (λ i. Some (record { last = sym none i; newest = undo_next_of (sym (nothing_unanswered rs t none) i); phase = phase i }))
    ∙ sym (ap (λ b. cond b None (Some (record { last = last_of t rs; newest = undo_next_of (unanswered t rs); phase = phase_of t rs }))) runs))
    (λ some. absurd (let there = sym absent ∙ entry_some t rs one some runs in cc))
    (one_or_none (last_of t rs))

-- an entry tells how far its transaction has come
pub phase_told : (rs : List LogRecord) (t : ℕ) → phase_by (entry_of t rs) ≡ phase_of t rs
phase_told rs t = λ i. cond (prepared_is t rs i) InDoubt (cond ((unnumbered (prepare_number t rs) ∙ ap not (prepare_known t rs)) i) Free Decided)
  where
    unnumbered : (n : ℕ) → eqb n 0 ≡ not (nat_lt 0 n)
    unnumbered n = ⊎_elim (λ none. rw none refl) (λ one. ne_eqb n 0 (λ e. omega (arith, e, one)) ∙ sym (ap not (lt-ltb 0 n one))) (one_or_none n)

pub progress_told : (rs : List LogRecord) (t : ℕ) (e : LogTxn) → entry_at t rs ≡ Some e → Some (progress_by e) ≡ progress_at t rs
progress_told rs t e there =
    let runs = entry_runs t rs e there in
    ap (λ (x : LogTxn). Some (progress_by x)) runs.is
    ∙ (λ i. Some (record { last = last_of t rs; newest = undo_next_of (unanswered t rs); phase = phase_told rs t i }))
    ∙ sym (ap (λ b. cond b None (Some (record { last = last_of t rs; newest = undo_next_of (unanswered t rs); phase = phase_of t rs }))) runs.runs)

-- who has ended, and the next number, by one record more
module _ (rs : List LogRecord) (r : LogRecord) where
  abbrev behind : List LogRecord
  behind = rs ++ r ∷ []

  pub over_next : (t : ℕ) → over_after r t (is_over t rs) ≡ is_over t behind
  over_next t = ⊎_elim
      (λ own. ⊎_elim
      (λ ends. rw (ends, own.0) (sym (ap (λ u. is_over u behind) (sym own.1) ∙ over_now rs r (or_true (is_commit r.payload) (is_end r.payload) ends))))
      (λ stays. let none = or_none (is_commit r.payload) (is_end r.payload) stays in rw (stays) (sym (over_same rs r none.0 none.1 t)))
      (cases_Bool (is_ending r.payload)))
      (λ other. ap (λ b. (is_ending r.payload && b) || is_over t rs) other.0 ∙ never (is_ending r.payload) (is_over t rs) ∙ sym (over_other rs r t other.1))
      (key_cases r.txn t)
    where
      never : (a b : Bool) → ((a && false) || b) ≡ b
      never true b = refl
      never false b = refl

  pub next_next : (old new : ℕ) → IsNext rs old → new ≡ max old (r.txn + 1) → IsNext behind new
  next_next old new known is = record {
    some = (let one = known.some in omega (arith, is));
    above = All-push (λ x. x.txn < new) rs r (All-weaker (λ x. x.txn < old) (λ x. x.txn < new) (λ x h. omega (arith, is, h)) rs known.above) (omega (arith, is));
    least = λ n one every.
        let parts = All-pop (λ x. x.txn < n) behind rs (Some r) refl every in
        let before = known.least n one parts.0 in
        let here : r.txn < n = parts.1 in
        omega (arith, is, before, here);
  }

module _ (g : Geometry) (rs : List LogRecord) (r : LogRecord) (all : AreMeantOf g r.txn rs) (meant : IsMeant g rs r) where
  abbrev after : List LogRecord
  after = rs ++ r ∷ []

  -- its own entry
  own_txn : (n : ℕ) → n ≡ 1 + length rs → txn_after n r (entry_at r.txn rs) ≡ entry_at r.txn after
  own_txn n is = ⊎_elim
      (λ ends. ap (λ b. cond b None (Some (entry_after n r (entry_at r.txn rs)))) ends ∙ sym (over_none r.txn after (over_now rs r (or_true (is_commit r.payload) (is_end r.payload) ends))))
      (λ stays.
      let none = or_none (is_commit r.payload) (is_end r.payload) stays in
      ap (λ b. cond b None (Some (entry_after n r (entry_at r.txn rs)))) stays ∙ ap (λ k. Some (entry_after k r (entry_at r.txn rs))) is ∙ goes_on g rs r all meant none.0 none.1)
      (cases_Bool (is_ending r.payload))

  running_next : (n : ℕ) → n ≡ 1 + length rs → (t : ℕ) → cond (is_at (nat_cmp r.txn) t) (txn_after n r (entry_at r.txn rs)) (entry_at t rs) ≡ entry_at t after
  running_next n is t = ⊎_elim
      (λ own. ap (λ b. cond b (txn_after n r (entry_at r.txn rs)) (entry_at t rs)) own.0 ∙ own_txn n is ∙ ap (λ u. entry_at u after) own.1)
      (λ other. ap (λ b. cond b (txn_after n r (entry_at r.txn rs)) (entry_at t rs)) other.0 ∙ sym (entry-other rs r t other.1))
      (key_cases r.txn t)

  pub knows_next : (n : ℕ) → n ≡ 1 + length rs → (old new : Pass) → Knows rs old
      → ((t : ℕ) → get nat_cmp new.running t ≡ cond (is_at (nat_cmp r.txn) t) (txn_after n r (get nat_cmp old.running r.txn)) (get nat_cmp old.running t))
      → ((t : ℕ) → contains nat_cmp new.over t ≡ over_after r t (contains nat_cmp old.over t))
      → ((p : PageId) → get page_cmp new.dirty p ≡ noted (is_on_page p (id_in r.payload)) n (get page_cmp old.dirty p))
      → new.next ≡ max old.next (r.txn + 1)
      → Knows after new
  knows_next n is old new known running over dirty next = record {
    running = λ t. running t ∙ (λ i. cond (is_at (nat_cmp r.txn) t) (txn_after n r (known.running r.txn i)) (known.running t i)) ∙ running_next n is t;
    over = λ t. over t ∙ ap (over_after r t) (known.over t) ∙ over_next rs r t;
    dirty = λ p. dirty p ∙ (λ i. noted (is_on_page p (id_in r.payload)) (is i) (known.dirty p i)) ∙ recovery-push p rs r;
    next = next_next rs r old.next new.next known.next next;
  }
