-- Where redo begins by a table of dirty pages, and what it passes over: the records that pages have already.
use Rattle.std.proofs.Common.{◌≡◌, ◌⊎◌, ⊎_elim, inl, inr, ◌<◌, ◌≤◌, ◌+◌, ◌-◌, ◌∷◌, [], ℕ, zero, suc, List, Bool, true, false, cond, Option, None, Some, Result, Ok, Err, min, refl, sym, ap, subst, ◌∙◌, length, take, drop, arith}
use Rattle.std.specs.Prelude.{◌&&◌, nat_le, nat_lt, slice_get}
use Rattle.std.specs.Ordering.{eq_by_cmp}
use Rattle.std.specs.Cmp.{eq_by_cmp_equiv}
use Rattle.std.proofs.lemmas.Bool.{le-leb, le-ltb, leb-true, ltb-true}
use Rattle.std.proofs.lemmas.Map.Views.{tells_apart}
use Rattle.std.proofs.lemmas.Option.{slice_get_within}
use Rattle.shore_types.specs.Ids.{exact_pages, page_cmp, pages_total}
use Rattle.shore_types.specs.Images.{Image}
use Rattle.shore_types.specs.declared.ids.PageId.{PageId}
use Rattle.shore_types.specs.declared.ids.Rid.{Rid}
use Rattle.shore_types.specs.declared.layout.Geometry.{Geometry}
use Rattle.shore_model.specs.declared.log_records.DirtyPage.{DirtyPage}
use Rattle.shore_model.specs.declared.log_records.LogRecord.{LogRecord}
use Rattle.shore_model.specs.Logs.{image_in}
use Rattle.shore_disk.specs.declared.device.Disk.{Ghosts}
use Rattle.laws_lives.specs.DirtyPages.{redo_begins_behind, surely_on_page}
use Rattle.laws_lives.specs.Pages.{LoggedPages, redone_on, redone_on_all, slots_with}
use Rattle.laws_lives.proofs.Booleans.{and_true}
use Rattle.laws_lives.proofs.Redo.{take_next}
use Rattle.laws_lives.proofs.Writers.{never_true, no_place}
use Rattle.std.proofs.lemmas.List.{length-drop}
use Rattle.laws_checkpoints.proofs.Lists.{get-drop}
use Rattle.laws_checkpoints.specs.Checkpoints.{TableIsRight}
use Rattle.laws_lives.specs.Recovery.{RecoveryState}
use Rattle.shore_analysis.proofs.Answered.{one_or_none}
use Rattle.shore_restart.specs.Standing.{IsToRedo}
use Rattle.shore_restart.specs.declared.errors.RestartError.{RestartError}
use Rattle.shore_restart.specs.declared.errors.RestartError.TheVariants.{BadRecord}
use Rattle.std.specs.Prelude.{IfErr}
use Rattle.shore_analysis.specs.Padded.{blank}
use Rattle.shore_analysis.specs.declared.kept_tables.RedoTable.{RedoTable}
use Rattle.shore_analysis.proofs.Padding.{get_blank, get_padded, length_padded}
use Rattle.shore_heap.specs.declared.heap.Heap.{Heap}
use Rattle.shore_restart.specs.AnyPages.{FindsNoRoom, due_behind, due_record, due_seen, is_passed_over}
use Rattle.shore_restart.specs.Held.{IsHeld}
use Rattle.shore_restart.specs.Missing.{is_missing, missing_behind, missing_on}
use Rattle.shore_restart.proofs.AnyRedo.{FirstFindRoom}
use Rattle.shore_restart.proofs.HeldPages.{held_of_none}
use Rattle.shore_restart.proofs.Missing.{count_next}

-- ---- the least number

least_below : (begin : ℕ) (ds : List DirtyPage) → redo_begins_behind begin ds ≤ begin - 1
least_below begin [] = omega arith
least_below begin (d ∷ ds) = let rest = least_below begin ds in omega arith

pub least_is_sure : (begin : ℕ) (ds : List DirtyPage) (p : PageId) → redo_begins_behind begin ds ≤ surely_on_page begin ds p
least_is_sure begin [] p = omega arith
least_is_sure begin (d ∷ ds) p =
    elim (eq_by_cmp page_cmp p d.page) as (λ b. redo_begins_behind begin (d ∷ ds) ≤ cond b (min (d.recovery - 1) (begin - 1)) (surely_on_page begin ds p)) [
      | true ↦ let rest = least_below begin ds in omega arith
      | false ↦ let rest = least_is_sure begin ds p in omega arith
    ]

pub sure_below : (begin : ℕ) (ds : List DirtyPage) (p : PageId) → surely_on_page begin ds p ≤ begin - 1
sure_below begin [] p = omega arith
sure_below begin (d ∷ ds) p =
    elim (eq_by_cmp page_cmp p d.page) as (λ b. cond b (min (d.recovery - 1) (begin - 1)) (surely_on_page begin ds p) ≤ begin - 1) [
      | true ↦ omega arith
      | false ↦ sure_below begin ds p
    ]

is_equal_page : (p q : PageId) → eq_by_cmp page_cmp p q ≡ true → p ≡ q
is_equal_page p q is = tells_apart exact_pages p q is

le_true : (a b : ℕ) → a ≤ b → nat_le a b ≡ true
le_true a b le = le-leb a b le

-- ---- on pages of which the table is right

module _ (log : List LogRecord) (table : RedoTable) (pages : LoggedPages) (right : TableIsRight log table.begin table.dirty pages) (n : ℕ) (r : LogRecord) (at : slice_get log n ≡ Some r) where
  pub has_it : (e : Rid × Image) → image_in r.payload ≡ Some e → n < surely_on_page table.begin table.dirty e.0.page → n + 1 ≤ (pages e.0.page).number
  has_it e is lt = right e.0.page n r e lt at is ((eq_by_cmp_equiv pages_total).refl e.0.page)

  pub none_missing : ((e : Rid × Image) → image_in r.payload ≡ Some e → n < surely_on_page table.begin table.dirty e.0.page) → is_missing pages (n + 1) (image_in r.payload) ≡ false
  none_missing low = by (image_in r.payload) refl
    where
      by : (o : Option (Rid × Image)) → image_in r.payload ≡ o → is_missing pages (n + 1) o ≡ false
      by None is = refl
      by (Some e) is = le-ltb (pages e.0.page).number (n + 1) (has_it e is (low e is))

  pub passed_over : ((e : Rid × Image) → image_in r.payload ≡ Some e → n < surely_on_page table.begin table.dirty e.0.page) → pages ≡ redone_on_all (n + 1) r pages
  passed_over low = λ i p. sym (same p (image_in r.payload) refl) i
    where
      same : (p : PageId) (o : Option (Rid × Image)) → image_in r.payload ≡ o → redone_on (n + 1) o p (pages p) ≡ pages p
      same p None is = refl
      same p (Some e) is =
          elim (eq_by_cmp page_cmp p e.0.page && nat_lt (pages p).number (n + 1)) as (λ b. (eq_by_cmp page_cmp p e.0.page && nat_lt (pages p).number (n + 1)) ≡ b → cond b (record { number = n + 1; slots = slots_with p (pages p).slots e.0 e.1 }) (pages p) ≡ pages p) [
            | true ↦ λ yes.
                let both = and_true (eq_by_cmp page_cmp p e.0.page) (nat_lt (pages p).number (n + 1)) yes in
                let page : p ≡ e.0.page = is_equal_page p e.0.page both.0 in
                let low = ltb-true (pages p).number (n + 1) both.1 in
                let has = has_it e is (low_of e is) in
                let number : (pages p).number ≡ (pages e.0.page).number = ap (λ (q : PageId). (pages q).number) page in
                absurd (omega (arith, low, has, number))
            | false ↦ λ no. refl
          ] refl
        where
          low_of : (e : Rid × Image) → image_in r.payload ≡ Some e → n < surely_on_page table.begin table.dirty e.0.page
          low_of = low

-- the records before redo begins are missing on no page
pub count_from : (log : List LogRecord) (table : RedoTable) (pages : LoggedPages) → TableIsRight log table.begin table.dirty pages → (k : ℕ) → k ≤ redo_begins_behind table.begin table.dirty → k ≤ length log
    → 0 + missing_behind k (drop k log) pages ≡ missing_on log pages
count_from log table pages right zero least within = omega arith
count_from log table pages right (suc k) least within = one (count_from log table pages right k (omega (arith, least)) (omega (arith, within))) (slice_get log k) refl
  where
    one : 0 + missing_behind k (drop k log) pages ≡ missing_on log pages → (o : Option LogRecord) → slice_get log k ≡ o → 0 + missing_behind (suc k) (drop (suc k) log) pages ≡ missing_on log pages
    one before None at = absurd (no_place log k (omega (arith, within)) at)
    one before (Some r) at =
        let low : (e : Rid × Image) → image_in r.payload ≡ Some e → k < surely_on_page table.begin table.dirty e.0.page =
        λ e is. let sure = least_is_sure table.begin table.dirty e.0.page in omega (arith, least, sure) in
        let next = count_next log k 0 false r pages pages (missing_on log pages) at (sym (none_missing log table pages right k r at low)) (passed_over log table pages right k r at low) before in
        let on : k + 1 ≡ suc k = omega arith in
        subst (λ (m : ℕ). 0 + missing_behind m (drop m log) pages ≡ missing_on log pages) on next

-- ---- the records that are due

pub length_due : (table : RedoTable) (n : ℕ) (rs : List LogRecord) → length (due_behind table n rs) ≡ length rs
length_due table n [] = refl
length_due table n (r ∷ rs) = ap suc (length_due table (n + 1) rs)

pub due_long : (table : RedoTable) (cut : ℕ) (kept : List LogRecord) → length (due_seen table cut kept) ≡ cut + length kept
due_long table cut kept = length_padded cut (due_behind table cut kept) ∙ ap (λ (n : ℕ). cut + n) (length_due table cut kept)

due_at : (table : RedoTable) (n k : ℕ) (rs : List LogRecord) (r : LogRecord) → slice_get rs k ≡ Some r → slice_get (due_behind table n rs) k ≡ Some (due_record table (n + k + 1) r)
due_at table n k [] r at = absurd (no_place [] k (slice_get_within [] k r at) refl)
due_at table n zero (x ∷ rs) r at =
    let same : x ≡ r = unwrap x r at in
    let on : n + 1 ≡ n + 0 + 1 = omega arith in
    (λ i. Some (due_record table (on i) (same i)))
  where
    unwrap : (a b : LogRecord) → Some a ≡ Some b → a ≡ b
    unwrap a b is = cc
due_at table n (suc k) (x ∷ rs) r at =
    let on : n + 1 + k + 1 ≡ n + suc k + 1 = omega arith in
    due_at table (n + 1) k rs r at ∙ ap (λ (m : ℕ). Some (due_record table m r)) on

-- the one of a kept record
pub due_there : (table : RedoTable) (cut k : ℕ) (kept : List LogRecord) (r : LogRecord) → slice_get kept k ≡ Some r → slice_get (due_seen table cut kept) (cut + k) ≡ Some (due_record table (cut + k + 1) r)
due_there table cut k kept r at = get_padded cut k (due_behind table cut kept) ∙ due_at table cut k kept r at

-- a record that is passed over leaves no trace, another stays
pub due_passed : (table : RedoTable) (n : ℕ) (r : LogRecord) (e : Rid × Image) → image_in r.payload ≡ Some e → n ≤ surely_on_page table.begin table.dirty e.0.page → due_record table n r ≡ blank
due_passed table n r e is le = ap (λ (o : Option (Rid × Image)). cond (is_passed_over table n o) blank r) is ∙ ap (λ (b : Bool). cond b blank r) (le_true n (surely_on_page table.begin table.dirty e.0.page) le)

pub due_stays : (table : RedoTable) (n : ℕ) (r : LogRecord) (e : Rid × Image) → image_in r.payload ≡ Some e → (n ≤ surely_on_page table.begin table.dirty e.0.page → ⊥) → due_record table n r ≡ r
due_stays table n r e is none =
    ap (λ (o : Option (Rid × Image)). cond (is_passed_over table n o) blank r) is ∙ ap (λ (b : Bool). cond b blank r) (never_true (nat_le n (surely_on_page table.begin table.dirty e.0.page)) (λ le. none (leb-true n (surely_on_page table.begin table.dirty e.0.page) le)))

pub due_plain : (table : RedoTable) (n : ℕ) (r : LogRecord) → image_in r.payload ≡ None → due_record table n r ≡ r
due_plain table n r is = ap (λ (o : Option (Rid × Image)). cond (is_passed_over table n o) blank r) is

-- one before redo begins has no image
module _ (table : RedoTable) (cut : ℕ) (kept : List LogRecord) where
  abbrev due : List LogRecord
  due = due_seen table cut kept

  passed_quiet : (n : ℕ) (r : LogRecord) → n < redo_begins_behind table.begin table.dirty → image_in (due_record table (n + 1) r).payload ≡ None
  passed_quiet n r less = by (image_in r.payload) refl
    where
      by : (o : Option (Rid × Image)) → image_in r.payload ≡ o → image_in (cond (is_passed_over table (n + 1) o) blank r).payload ≡ None
      by None is = is
      by (Some e) is =
          let sure = least_is_sure table.begin table.dirty e.0.page in
          ap (λ (b : Bool). image_in (cond b blank r).payload) (le_true (n + 1) (surely_on_page table.begin table.dirty e.0.page) (omega (arith, less, sure)))

  pub quiet_before : (n : ℕ) (x : LogRecord) → slice_get due n ≡ Some x → (n < cut) ⊎ (n < redo_begins_behind table.begin table.dirty) → image_in x.payload ≡ None
  quiet_before n x at low = ⊎_elim
      (λ off. ap (λ (o : Option LogRecord). image_of o) (sym at ∙ get_blank cut n (due_behind table cut kept) off))
      (λ kept_on. inside kept_on)
      (cut_or_kept n cut)
    where
      image_of : Option LogRecord → Option (Rid × Image)
      image_of None = None
      image_of (Some y) = image_in y.payload

      cut_or_kept : (a b : ℕ) → (a < b) ⊎ (b ≤ a)
      cut_or_kept zero zero = inr (omega arith)
      cut_or_kept zero (suc b) = inl (omega arith)
      cut_or_kept (suc a) zero = inr (omega arith)
      cut_or_kept (suc a) (suc b) = ⊎_elim (λ lt. inl (omega (arith, lt))) (λ le. inr (omega (arith, le))) (cut_or_kept a b)

      inside : cut ≤ n → image_in x.payload ≡ None
      inside le = by_kept (slice_get kept (n - cut)) refl
        where
          place : cut + (n - cut) ≡ n
          place = omega (arith, le)

          here : slice_get (due_behind table cut kept) (n - cut) ≡ Some x
          here = sym (get_padded cut (n - cut) (due_behind table cut kept)) ∙ ap (slice_get due) place ∙ at

          by_kept : (o : Option LogRecord) → slice_get kept (n - cut) ≡ o → image_in x.payload ≡ None
          by_kept None none =
              let within = slice_get_within (due_behind table cut kept) (n - cut) x here in
              let long = length_due table cut kept in
              absurd (no_place kept (n - cut) (omega (arith, within, long)) none)
          by_kept (Some r) is =
              let its = due_there table cut (n - cut) kept r is in
              let same : slice_get due (cut + (n - cut)) ≡ Some x = ap (slice_get due) place ∙ at in
              let less : cut + (n - cut) < redo_begins_behind table.begin table.dirty = ⊎_elim (λ off. absurd (omega (arith, off, le))) (λ low. omega (arith, low, place)) low in
              ap (λ (o : Option LogRecord). image_of o) (sym same ∙ its) ∙ passed_quiet (cut + (n - cut)) r less

  -- so the first ones make nothing of a page, and none of them finds no room
  module _ {V : Type 0} {H : Ghosts V} where
    pub held_from : (front : List ℕ) (first disk : ℕ → List ℕ) (heap : Heap V H) (last : ℕ) → IsHeld front first disk heap [] last → (k : ℕ) → (k ≤ cut) ⊎ (k ≤ redo_begins_behind table.begin table.dirty) → k ≤ length due
        → IsHeld front first disk heap (take k due) last
    held_from front first disk heap last held zero low within = held
    held_from front first disk heap last held (suc k) low within =
        one (held_from front first disk heap last held k (⊎_elim (λ off. inl (omega (arith, off))) (λ some. inr (omega (arith, some))) low) (omega (arith, within))) (slice_get due k) refl
      where
        low_before : (k < cut) ⊎ (k < redo_begins_behind table.begin table.dirty)
        low_before = ⊎_elim (λ off. inl (omega (arith, off))) (λ some. inr (omega (arith, some))) low

        one : IsHeld front first disk heap (take k due) last → (o : Option LogRecord) → slice_get due k ≡ o → IsHeld front first disk heap (take (suc k) due) last
        one before None at = absurd (no_place due k (omega (arith, within)) at)
        one before (Some x) at =
            let on : k + 1 ≡ suc k = omega arith in
            subst (λ (m : ℕ). IsHeld front first disk heap (take m due) last) on
            (subst (λ (xs : List LogRecord). IsHeld front first disk heap xs last) (sym (take_next due k x at))
            (held_of_none front first disk heap (take k due) last x before (quiet_before k x at low_before)))

  pub fit_from : (g : Geometry) (first : ℕ → List ℕ) (k : ℕ) → (k ≤ cut) ⊎ (k ≤ redo_begins_behind table.begin table.dirty) → FirstFindRoom g first due k
  fit_from g first k low m le misfit =
      let some = misfit.0 in
      let there = misfit.1 in
      let before : (m - 1 < cut) ⊎ (m - 1 < redo_begins_behind table.begin table.dirty) = ⊎_elim (λ off. inl (omega (arith, off, le, some))) (λ l. inr (omega (arith, l, le, some))) low in
      let none = quiet_before (m - 1) there.0 there.1 before in
      let clash : ◌≡◌ {A = Option (Rid × Image)} None (Some (there.2.id, there.2.image)) = sym none ∙ there.2.changes in
      absurd cc

-- ---- the store

pub whole_long : (cut : ℕ) (kept log : List LogRecord) → cut ≤ length log → drop cut log ≡ kept → cut + length kept ≡ length log
whole_long cut kept log within same = let long = length-drop cut log in let is = ap length same in omega (arith, long, is, within)

at_whole : (cut : ℕ) (kept log : List LogRecord) (i : ℕ) (r : LogRecord) → drop cut log ≡ kept → slice_get kept i ≡ Some r → slice_get log (cut + i) ≡ Some r
at_whole cut kept log i r same at = sym (get-drop log cut i) ∙ ap (λ (xs : List LogRecord). slice_get xs i) same ∙ at

module _ (table : RedoTable) (cut : ℕ) (kept : List LogRecord) (s : RecoveryState) (to_redo : IsToRedo cut kept table s) where
  -- redo begins behind what is done
  pub starts : (start : ℕ) → start ≡ min (length kept) (redo_begins_behind table.begin table.dirty - cut) → s.redone ≡ cut + start
  starts start is =
      let whole = whole_long cut kept s.log to_redo.within to_redo.kept_are in
      let redone = to_redo.redone in
      let behind = to_redo.behind in
      let inside = to_redo.inside in
      omega (arith, is, whole, redone, behind, inside)

  -- one kept record, in a store that has come so far
  pub record OneOf (i : ℕ) (r : LogRecord) (later : RecoveryState) : Type 0 where
    pub here : slice_get s.log (cut + i) ≡ Some r
    pub next : slice_get later.log later.redone ≡ Some r
    pub number : cut + i + 1 ≡ later.redone + 1
    pub last : cut + length kept ≡ length later.log
    pub all : later.durable ≡ length later.log
    pub right : TableIsRight later.log table.begin table.dirty later.in_place

  pub one_of : (i : ℕ) (r : LogRecord) → slice_get kept i ≡ Some r → (later : RecoveryState) → later.log ≡ s.log → later.durable ≡ s.durable → later.redone ≡ cut + i
      → TableIsRight s.log table.begin table.dirty later.in_place → OneOf i r later
  one_of i r at later log durable redone right =
      let here = at_whole cut kept s.log i r to_redo.kept_are at in
      record {
        here = here;
        next = ap (slice_get later.log) redone ∙ ap (λ (l : List LogRecord). slice_get l (cut + i)) log ∙ here;
        number = omega (arith, redone);
        last = whole_long cut kept s.log to_redo.within to_redo.kept_are ∙ ap length (sym log);
        all = durable ∙ to_redo.durable ∙ ap length (sym log);
        right = subst (λ (l : List LogRecord). TableIsRight l table.begin table.dirty later.in_place) (sym log) right;
      }

pub low_start : (cut long least start : ℕ) → start ≡ min long (least - cut) → (cut + start ≤ cut) ⊎ (cut + start ≤ least)
low_start cut long least start is = by (one_or_none start)
  where
    by : (start ≡ 0) ⊎ (0 < start) → (cut + start ≤ cut) ⊎ (cut + start ≤ least)
    by (inl none) = inl (omega (arith, none))
    by (inr some) = inr (omega (arith, some, is))

-- a record that is not passed over, and finds none
pub due_bad : {A : Type 0} (g : Geometry) (first : ℕ → List ℕ) (done : List LogRecord) (result : Result A RestartError) (table : RedoTable) (number : ℕ) (r : LogRecord) (e : Rid × Image) → image_in r.payload ≡ Some e
    → (number ≤ surely_on_page table.begin table.dirty e.0.page → ⊥) → IfErr result (λ error. (n : ℕ) → error ≡ BadRecord n → FindsNoRoom g first done n r.payload) → IfErr result (λ error. (n : ℕ) → error ≡ BadRecord n → FindsNoRoom g first done n (due_record table number r).payload)
due_bad g first done (Ok x) table number r e image none bad = tt
due_bad g first done (Err error) table number r e image none bad = λ n is.
    let stays = due_stays table number r e image none in
    subst (λ (x : LogRecord). FindsNoRoom g first done n x.payload) (sym stays) (bad n is)
