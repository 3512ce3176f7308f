-- Pages that are written back, one after another.
use Rattle.std.proofs.Common.{◌≡◌, ◌⊎◌, inl, inr, ◌≤◌, ℕ, List, [], ◌∷◌, cond, refl, sym, ap, subst, ◌∙◌, arith}
use Rattle.std.proofs.lemmas.Bool.{cases_Bool}
use Rattle.std.specs.Cmp.{eq_by_cmp_equiv}
use Rattle.std.specs.Ordering.{eq_by_cmp}
use Rattle.shore_disk.specs.declared.device.Disk.{Ghosts}
use Rattle.shore_types.specs.Ids.{page_cmp, pages_total}
use Rattle.shore_types.specs.Layout.{HasPage}
use Rattle.shore_types.specs.declared.ids.PageId.{PageId}
use Rattle.shore_types.specs.declared.layout.Geometry.{Geometry}
use Rattle.shore_model.specs.declared.log_records.LogRecord.{LogRecord}
use Rattle.laws_lives.specs.Pages.{LoggedPage, LoggedPages}
use Rattle.laws_lives.specs.Recovery.{CrashMayLeave, FlushPage, RecoveryEvent, RecoveryState, after_flush, with_page_written}
use Rattle.laws_lives.specs.Restarts.{RestartsTo}
use Rattle.laws_lives.proofs.Invariant.{equal_pages}
use Rattle.laws_lives.specs.Views.{IsAmong}
use Rattle.laws_lives.specs.ManagerSteps.{WorksTo}
use Rattle.shore_dwrite.specs.Volumes.{page_number}
use Rattle.shore_heap.specs.declared.heap.Heap.{Heap}
use Rattle.shore_heap.specs.Heaps.{LeavesPages, MayBeLeft, StayInPlace, geometry_of}
use Rattle.laws_heaps.specs.LoggedHeaps.{AreTextsOf, IsStoreOf, IsTextOf, LeavesStore}
use Rattle.laws_heaps.proofs.AllPages.{all_pages, has_or_not, page_among}
use Rattle.laws_heaps.proofs.Stores.{store_over, text_in_place}

-- a page that is written, and any other
pub written_or_not : (pages : LoggedPages) (q : PageId) (page : LoggedPage) (p : PageId) → ((p ≡ q) × (with_page_written pages q page p ≡ page)) ⊎ (with_page_written pages q page p ≡ pages p)
written_or_not pages q page p = elim (cases_Bool (eq_by_cmp page_cmp p q)) [
  | inl equal ↦ inl (equal_pages p q equal, ap (λ b. cond b page (pages p)) equal)
  | inr apart ↦ inr (ap (λ b. cond b page (pages p)) apart)
]

pub written_here : (pages : LoggedPages) (q : PageId) (page : LoggedPage) → with_page_written pages q page q ≡ page
written_here pages q page = ap (λ b. cond b page (pages q)) ((eq_by_cmp_equiv pages_total).refl q)

module _ (g : Geometry) (log : List LogRecord) (left : ℕ → List ℕ) where
  -- what is left is a text of the page
  abbrev pub IsLeft : PageId → LoggedPage → Type 0
  IsLeft p page = IsTextOf g.version log (left (page_number g p)) p page

  -- what is left of each page is the volume's, or the one in place if its number is durable
  abbrev pub MayFlush : RecoveryState → Type 0
  MayFlush s = (p : PageId) → HasPage g p → IsLeft p (s.volume p) ⊎ (((s.in_place p).number ≤ s.durable) × IsLeft p (s.in_place p))

  -- flushes after which the pages of a list are on the volume as they are left
  pub record Flushed (s : RecoveryState) (ps : List PageId) : Type 0 where
    pub works : List RecoveryEvent
    pub volume : LoggedPages
    pub worked : WorksTo s works (record s { volume = volume })
    pub restarted : RestartsTo s works (record s { volume = volume })
    pub each : (p : PageId) → (volume p ≡ s.volume p) ⊎ (HasPage g p × (volume p ≡ s.in_place p) × ((s.in_place p).number ≤ s.durable) × IsLeft p (s.in_place p))
    pub there : (p : PageId) → HasPage g p → IsAmong p ps → IsLeft p (volume p)

  -- a page that is there on the volume already stays so
  stays : (s : RecoveryState) (ps : List PageId) (done : Flushed s ps) (p : PageId) → IsLeft p (s.volume p) → IsLeft p (done.volume p)
  stays s ps done p is = elim (done.each p) [
    | inl same ↦ subst (IsLeft p) (sym same) is
    | inr written ↦ subst (IsLeft p) (sym written.1) written.3
  ]

  -- one page that may be left as it is
  passed : (s : RecoveryState) (q : PageId) (ps : List PageId) → Flushed s ps → (HasPage g q → IsLeft q (s.volume q)) → Flushed s (q ∷ ps)
  passed s q ps done is = record {
    works = done.works;
    volume = done.volume;
    worked = done.worked;
    restarted = done.restarted;
    each = done.each;
    there = λ p has among. elim among [
      | inl same ↦ subst (λ (r : PageId). IsLeft r (done.volume r)) same (stays s ps done q (is (subst (HasPage g) (sym same) has)))
      | inr later ↦ done.there p has later
    ];
  }

  module _ (s : RecoveryState) (q : PageId) (has : HasPage g q) (durable : (s.in_place q).number ≤ s.durable) (is : IsLeft q (s.in_place q)) where
    still : MayFlush s → MayFlush (after_flush s q)
    still may p there = elim (written_or_not s.volume q (s.in_place q) p) [
      | inl here ↦ inl (subst (IsLeft p) (sym here.1) (subst (λ (r : PageId). IsLeft r (s.in_place q)) (sym here.0) is))
      | inr same ↦ elim (may p there) [ inl good ↦ inl (subst (IsLeft p) (sym same) good) | inr other ↦ inr other ]
    ]

    -- .. and one that is written
    written : (ps : List PageId) → Flushed (after_flush s q) ps → Flushed s (q ∷ ps)
    written ps done = record {
      works = FlushPage q ∷ done.works;
      volume = done.volume;
      worked = (tt, after_flush s q, (durable, refl), done.worked);
      restarted = (tt, after_flush s q, (durable, refl), done.restarted);
      each = λ p. elim (done.each p) [
        | inl same ↦ elim (written_or_not s.volume q (s.in_place q) p) [
          | inl here ↦ inr (
            subst (HasPage g) (sym here.0) has,
            same ∙ here.1 ∙ ap s.in_place (sym here.0),
            subst (λ (r : PageId). (s.in_place r).number ≤ s.durable) (sym here.0) durable,
            subst (λ (r : PageId). IsLeft r (s.in_place r)) (sym here.0) is,
          )
          | inr other ↦ inl (same ∙ other)
        ]
        | inr later ↦ inr later
      ];
      there = λ p there among. elim among [
        | inl same ↦ subst (λ (r : PageId). IsLeft r (done.volume r)) same (stays (after_flush s q) ps done q (subst (IsLeft q) (sym (written_here s.volume q (s.in_place q))) is))
        | inr later ↦ done.there p there later
      ];
    }

  pub flush : (ps : List PageId) (s : RecoveryState) → MayFlush s → Flushed s ps
  flush [] s may = record { works = []; volume = s.volume; worked = refl; restarted = refl; each = λ p. inl refl; there = λ p has among. absurd among }
  flush (q ∷ ps) s may = elim (has_or_not g q) [
    | inl has ↦ elim (may q has) [
      | inl good ↦ passed s q ps (flush ps s may) (λ there. good)
      | inr due ↦ written s q has due.0 due.1 ps (flush ps (after_flush s q) (still s q has due.0 due.1 may))
    ]
    | inr none ↦ passed s q ps (flush ps s may) (λ has. absurd (none has))
  ]

-- ---- what a call of the heap leaves

module _ {D : Type 0} {G : Ghosts D} (old : Heap D G) (seen : ℕ) (disk left : ℕ → List ℕ) (s : RecoveryState) (store : IsStoreOf old disk s) (durable : seen ≤ s.durable) (may : MayBeLeft old seen disk left) where
  may_flush : MayFlush (geometry_of old) s.log left s
  may_flush p has = elim (may p has) [
    | inl same ↦ inl (subst (λ (bytes : List ℕ). IsTextOf (geometry_of old).version s.log bytes p (s.volume p)) (sym same) (store.volume.each p has))
    | inr written ↦
        let text = text_in_place s.log old disk p (s.in_place p) (store.in_place p has) (left (page_number (geometry_of old) p)) written.0 written.1 written.2 written.4 in
        let number = text.0 in
        let low = written.3 in
        inr (omega arith, text.1)
  ]

  pub all_flushed : Flushed (geometry_of old) s.log left s (all_pages (geometry_of old))
  all_flushed = flush (geometry_of old) s.log left (all_pages (geometry_of old)) s may_flush

  pub texts_left : AreTextsOf s.log (geometry_of old) left all_flushed.volume
  texts_left = record {
    each = λ p has. all_flushed.there p has (page_among (geometry_of old) p has);
    inside = λ p none. elim (all_flushed.each p) [ inl same ↦ same ∙ store.volume.inside p none | inr written ↦ absurd (none written.0) ];
  }

  pub crash_leaves : CrashMayLeave s all_flushed.volume
  crash_leaves p = elim (all_flushed.each p) [ inl same ↦ inl same | inr written ↦ inr (written.1, written.2) ]

-- .. in the midst of it
pub left_amid : {D : Type 0} {G : Ghosts D} (heap : Heap D G) (seen : ℕ) (front : List ℕ) (disk : ℕ → List ℕ) (s : RecoveryState) (image : List ℕ) → IsStoreOf heap disk s → LeavesPages heap seen front disk image → seen ≤ s.durable
    → (left : LoggedPages) × CrashMayLeave s left × LeavesStore s.log (geometry_of heap) front left image
left_amid heap seen front disk s image store leaves durable =
    let may = leaves.2 in
    ((all_flushed heap seen disk leaves.0 s store durable may).volume, crash_leaves heap seen disk leaves.0 s store durable may, (leaves.0, leaves.1, texts_left heap seen disk leaves.0 s store durable may))

-- .. and after it
pub work_of : {D : Type 0} {G : Ghosts D} (old new : Heap D G) (seen : ℕ) (disk left : ℕ → List ℕ) (s : RecoveryState) → IsStoreOf old disk s → StayInPlace old new seen disk left → seen ≤ s.durable → geometry_of new ≡ geometry_of old
    → (works : List RecoveryEvent) × (later : RecoveryState) × WorksTo s works later × RestartsTo s works later × IsStoreOf new left later
    × (later.log ≡ s.log) × (later.durable ≡ s.durable) × (later.redone ≡ s.redone) × (later.in_place ≡ s.in_place)
work_of old new seen disk left s store stay durable geometry =
    let done = all_flushed old seen disk left s store durable stay.may in
    (done.works, record s { volume = done.volume }, done.worked, done.restarted, store_over old new disk left s store geometry done.volume stay.same (texts_left old seen disk left s store durable stay.may), refl, refl, refl, refl)
