-- What a change makes of the recovery numbers.
use Rattle.std.proofs.Common.{◌≡◌, ◌≢◌, inl, inr, ◌+◌, ◌<◌, ◌≤◌, ℕ, zero, suc, true, false, cond, Option, None, Some, is_some, option_map, length, refl, sym, ap, subst, ◌∙◌, arith}
use Rattle.std.specs.Prelude.{IsTrue, ◌==◌, ◌&&◌, nat_lt, slice_get, unwrap_or}
use Rattle.std.specs.Cmp.{eq_by_cmp_equiv}
use Rattle.std.specs.Ordering.{eq_by_cmp}
use Rattle.std.proofs.lemmas.Bool.{cases_Bool, cases_eq, eq-eqb, lt-ltb, ltb-true, ne_eqb}
use Rattle.shore_disk.specs.declared.device.Disk.{Ghosts}
use Rattle.shore_types.specs.Ids.{page_cmp, pages_total}
use Rattle.shore_types.specs.Images.{Image}
use Rattle.shore_types.specs.Layout.{HasPage}
use Rattle.shore_types.specs.declared.ids.PageId.{PageId}
use Rattle.shore_types.specs.declared.ids.Rid.{Rid}
use Rattle.shore_types.specs.declared.layout.Geometry.{Geometry}
use Rattle.shore_model.specs.declared.log_records.LogRecord.{LogRecord}
use Rattle.shore_model.specs.Logs.{image_in}
use Rattle.laws_lives.specs.Pages.{LoggedPage, LoggedPages, needs_redo}
use Rattle.laws_lives.specs.Recovery.{AppendRecord, IsRecoverable, RecoveryState, RedoRecord}
use Rattle.laws_lives.proofs.Booleans.{and_true}
use Rattle.laws_lives.proofs.Invariant.{equal_pages}
use Rattle.laws_lives.proofs.Redo.{own_number}
use Rattle.laws_checkpoints.specs.RecoveryNumbers.{RecoveryNumbers, noted_next, noted_on, recovery_after}
use Rattle.shore_dwrite.specs.Volumes.{page_number}
use Rattle.shore_dwrite.proofs.Numbers.{one_page}
use Rattle.shore_pool.specs.Changes.{changed, first_of}
use Rattle.shore_pool.specs.declared.frame.Frame.{Frame}
use Rattle.shore_heap.specs.declared.heap.Heap.{Heap}
use Rattle.shore_heap.specs.Heaps.{frame_at, frame_of, geometry_of}
use Rattle.shore_heap.proofs.Bounds.{cases_page}
use Rattle.laws_heaps.specs.HeapRecoveries.{HasRecoveries, recovery_in}
use Rattle.laws_heaps.specs.LoggedHeaps.{IsMade}

-- the same numbers
pub numbers_same : {D : Type 0} {G : Ghosts D} (heap : Heap D G) (recovery other : RecoveryNumbers) → ((p : PageId) → other p ≡ recovery p) → HasRecoveries heap recovery → HasRecoveries heap other
numbers_same heap recovery other same has = record {
  each = λ p there. same p ∙ has.each p there;
  inside = λ p none. same p ∙ has.inside p none;
  some = has.some;
}

-- a page that the record need not be done on
not_due : (n : ℕ) (e : Rid × Image) (p : PageId) (page : LoggedPage) (old : ℕ) → (eq_by_cmp page_cmp p e.0.page ≡ true → n ≤ page.number) → noted_on n (Some e) p page old ≡ old
not_due n e p page old has = elim (cases_Bool (needs_redo n p page e.0)) [
  | inl due ↦
      let both = and_true (eq_by_cmp page_cmp p e.0.page) (nat_lt page.number n) due in
      let up = has both.0 in
      let low = ltb-true page.number n both.1 in
      absurd (omega arith)
  | inr apart ↦ ap (λ b. cond (b && (old == 0)) n old) apart
]

-- .. and one that it is done on
is_due : (n : ℕ) (e : Rid × Image) (p : PageId) (page : LoggedPage) (old : ℕ) → eq_by_cmp page_cmp p e.0.page ≡ true → page.number < n → noted_on n (Some e) p page old ≡ cond (old == 0) n old
is_due n e p page old equal low =
    let due : needs_redo n p page e.0 ≡ true = ap (λ b. b && nat_lt page.number n) equal ∙ lt-ltb page.number n low in
    ap (λ b. cond (b && (old == 0)) n old) due

-- ---- one frame

module _ (n slot : ℕ) (image : Image) where
  noted_first : (r : Option ℕ) (m : ℕ) → r ≢ Some 0 → m ≡ unwrap_or r 0 → cond (m == 0) n m ≡ unwrap_or (first_of r n) 0
  noted_first None m some is = ap (λ b. cond b n m) (eq-eqb m 0 is)
  noted_first (Some zero) m some is = absurd (some refl)
  noted_first (Some (suc r)) m some is = let value : m ≡ suc r = is in ap (λ b. cond b n m) (ne_eqb m 0 (λ none. omega (arith, value, none))) ∙ value

  frame_noted : (o : Option Frame) (m : ℕ) → IsTrue (is_some o) → ((f : Frame) → o ≡ Some f → f.recovery ≢ Some 0) → m ≡ recovery_in o → cond (m == 0) n m ≡ recovery_in (option_map (changed n slot image) o)
  frame_noted None m there some is = let clash : false ≡ true = there in absurd cc
  frame_noted (Some f) m there some is = noted_first f.recovery m (some f refl) is

  first_some : 0 < n → (r : Option ℕ) → r ≢ Some 0 → first_of r n ≢ Some 0
  first_some low None some none = let same : ◌≡◌ {A = Option ℕ} (Some n) (Some 0) = none in let zero_is : n ≡ 0 = cc in omega (arith, low, zero_is)
  first_some low (Some r) some none = some none

  frame_some : 0 < n → (o : Option Frame) → ((e : Frame) → o ≡ Some e → e.recovery ≢ Some 0) → (f : Frame) → option_map (changed n slot image) o ≡ Some f → f.recovery ≢ Some 0
  frame_some low None some f is none = let clash : ◌≡◌ {A = Option Frame} None (Some f) = is in absurd cc
  frame_some low (Some e) some f is none =
      let same : ◌≡◌ {A = Option Frame} (Some (changed n slot image e)) (Some f) = is in
      let one : changed n slot image e ≡ f = cc in
      first_some low e.recovery (some e refl) (ap (λ (x : Frame). x.recovery) one ∙ none)

-- ---- a change

module _ {D : Type 0} {G : Ghosts D} (old new : Heap D G) (recovery : RecoveryNumbers) (n : ℕ) (id : Rid) (image : Image) (pages : LoggedPages) (has : HasRecoveries old recovery) (some : 0 < n)
    (there : HasPage (geometry_of old) id.page) (held : IsTrue (is_some (frame_of old id.page))) (low : (pages id.page).number < n) (made : IsMade old new n id image)
    (geometry : geometry_of new ≡ geometry_of old) where
  abbrev numbers_now : RecoveryNumbers
  numbers_now p = noted_on n (Some (id, image)) p (pages p) (recovery p)

  other : (p : PageId) → p ≢ id.page → numbers_now p ≡ recovery p
  other p apart = not_due n (id, image) p (pages p) (recovery p) (λ equal. absurd (apart (equal_pages p id.page equal)))

  each_old : (p : PageId) → HasPage (geometry_of old) p → numbers_now p ≡ recovery_in (frame_at new (page_number (geometry_of old) p))
  each_old p here = elim (cases_page p id.page) [
    | inl same ↦ subst (λ (q : PageId). numbers_now q ≡ recovery_in (frame_at new (page_number (geometry_of old) q))) (sym same)
        (is_due n (id, image) id.page (pages id.page) (recovery id.page) ((eq_by_cmp_equiv pages_total).refl id.page) low
        ∙ frame_noted n id.slot image (frame_of old id.page) (recovery id.page) held (λ f is. has.some (page_number (geometry_of old) id.page) f is) (has.each id.page there)
        ∙ ap recovery_in (sym made.0))
    | inr apart ↦
        other p apart ∙ has.each p here ∙ ap recovery_in (sym (made.1 (page_number (geometry_of old) p) (λ same. apart (one_page (geometry_of old) p id.page here there same))))
  ]

  pub numbers_noted : HasRecoveries new numbers_now
  numbers_noted = record {
    each = λ p here. each_old p (subst (λ (g : Geometry). HasPage g p) geometry here) ∙ ap (λ (g : Geometry). recovery_in (frame_at new (page_number g p))) (sym geometry);
    inside = λ p none.
        let gone : HasPage (geometry_of old) p → ⊥ = λ here. none (subst (λ (g : Geometry). HasPage g p) (sym geometry) here) in
        other p (λ same. gone (subst (HasPage (geometry_of old)) (sym same) there)) ∙ has.inside p gone;
    some = λ j f is. elim (cases_eq j (page_number (geometry_of old) id.page)) [
      | inl same ↦ frame_some n id.slot image some (frame_of old id.page) (λ e was. has.some (page_number (geometry_of old) id.page) e was) f (sym made.0 ∙ ap (frame_at new) (sym same) ∙ is)
      | inr apart ↦ has.some j f (sym (made.1 j apart) ∙ is)
    ];
  }

-- ---- the events

module _ {D : Type 0} {G : Ghosts D} where
  pub appended_noted : (old new : Heap D G) (s : RecoveryState) (recovery : RecoveryNumbers) (r : LogRecord) (id : Rid) (image : Image) → HasRecoveries old recovery → IsRecoverable s → s.redone ≡ length s.log
      → image_in r.payload ≡ Some (id, image) → HasPage (geometry_of old) id.page → IsTrue (is_some (frame_of old id.page)) → IsMade old new (length s.log + 1) id image → geometry_of new ≡ geometry_of old
      → HasRecoveries new (recovery_after s (AppendRecord r) recovery)
  appended_noted old new s recovery r id image has kept all says there held made geometry =
      let within = (own_number s.log id.page s.redone (s.in_place id.page) (kept.in_place id.page)).within in
      let now = numbers_noted old new recovery (s.redone + 1) id image s.in_place has (omega arith) there held (omega (arith, within, all)) (subst (λ (n : ℕ). IsMade old new (n + 1) id image) (sym all) made) geometry in
      numbers_same new (λ p. noted_on (s.redone + 1) (Some (id, image)) p (s.in_place p) (recovery p))
      (recovery_after s (AppendRecord r) recovery) (λ p. ap (λ o. noted_on (s.redone + 1) o p (s.in_place p) (recovery p)) says) now

  pub redone_noted : (old new : Heap D G) (s : RecoveryState) (recovery : RecoveryNumbers) (r : LogRecord) (id : Rid) (image : Image) → HasRecoveries old recovery → slice_get s.log s.redone ≡ Some r
      → image_in r.payload ≡ Some (id, image) → HasPage (geometry_of old) id.page → IsTrue (is_some (frame_of old id.page)) → (s.in_place id.page).number ≤ s.redone → IsMade old new (s.redone + 1) id image
      → geometry_of new ≡ geometry_of old → HasRecoveries new (recovery_after s RedoRecord recovery)
  redone_noted old new s recovery r id image has next says there held due made geometry =
      numbers_same new (λ p. noted_on (s.redone + 1) (Some (id, image)) p (s.in_place p) (recovery p)) (recovery_after s RedoRecord recovery)
      (λ p. ap (λ o. noted_next (s.redone + 1) o p (s.in_place p) (recovery p)) next ∙ ap (λ o. noted_on (s.redone + 1) o p (s.in_place p) (recovery p)) says)
      (numbers_noted old new recovery (s.redone + 1) id image s.in_place has (omega arith) there held (omega (arith, due)) made geometry)

  pub passed_noted : (heap : Heap D G) (s : RecoveryState) (recovery : RecoveryNumbers) (r : LogRecord) (id : Rid) (image : Image) → HasRecoveries heap recovery → slice_get s.log s.redone ≡ Some r
      → image_in r.payload ≡ Some (id, image) → s.redone < (s.in_place id.page).number → HasRecoveries heap (recovery_after s RedoRecord recovery)
  passed_noted heap s recovery r id image has next says above =
      numbers_same heap recovery (recovery_after s RedoRecord recovery)
      (λ p. ap (λ o. noted_next (s.redone + 1) o p (s.in_place p) (recovery p)) next ∙ ap (λ o. noted_on (s.redone + 1) o p (s.in_place p) (recovery p)) says
      ∙ not_due (s.redone + 1) (id, image) p (s.in_place p) (recovery p) (λ equal.
      subst (λ (q : PageId). s.redone + 1 ≤ (s.in_place q).number) (sym (equal_pages p id.page equal)) (omega (arith, above))))
      has

  pub without_noted : (heap : Heap D G) (s : RecoveryState) (recovery : RecoveryNumbers) (r : LogRecord) → HasRecoveries heap recovery → image_in r.payload ≡ None
      → HasRecoveries heap (recovery_after s (AppendRecord r) recovery) × (slice_get s.log s.redone ≡ Some r → HasRecoveries heap (recovery_after s RedoRecord recovery))
  without_noted heap s recovery r has none = (
    numbers_same heap recovery (recovery_after s (AppendRecord r) recovery) (λ p. ap (λ o. noted_on (s.redone + 1) o p (s.in_place p) (recovery p)) none) has,
    (λ next. numbers_same heap recovery (recovery_after s RedoRecord recovery)
        (λ p. ap (λ o. noted_next (s.redone + 1) o p (s.in_place p) (recovery p)) next ∙ ap (λ o. noted_on (s.redone + 1) o p (s.in_place p) (recovery p)) none) has),
  )
