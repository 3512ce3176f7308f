-- Redo on one page, whatever its text: one record more, and what a change in a frame makes of the page.
use Rattle.std.proofs.Common.{inl, inr, ◌≡◌, ◌≢◌, ◌++◌, ◌+◌, ◌-◌, ◌<◌, ◌≤◌, ℕ, zero, suc, List, [], ◌∷◌, false, cond, Option, Some, None, length, replicate, refl, sym, ap, ◌∙◌, arith}
use Rattle.std.specs.Prelude.{nat_lt, ◌&&◌}
use Rattle.std.specs.Ordering.{eq_by_cmp}
use Rattle.std.proofs.lemmas.Bool.{cases_Bool, le-ltb, lt-ltb}
use Rattle.std.proofs.lemmas.List.{length-map, map-append}
use Rattle.shore_types.specs.Ids.{page_cmp}
use Rattle.shore_types.specs.Images.{Image}
use Rattle.shore_types.specs.declared.ids.PageId.{PageId}
use Rattle.shore_types.specs.declared.ids.Rid.{Rid}
use Rattle.shore_types.specs.declared.versions.Version.{Version}
use Rattle.shore_model.specs.declared.log_records.LogRecord.{LogRecord}
use Rattle.shore_model.specs.Logs.{image_in}
use Rattle.shore_page.specs.Room.{lowered}
use Rattle.shore_page.specs.Slots.{Slot, holding, settled, with_change, with_image, with_slot}
use Rattle.shore_page.specs.Text.{images_of}
use Rattle.laws_lives.proofs.Invariant.{equal_pages}
use Rattle.laws_room.proofs.Leaving.{same_page}
use Rattle.shore_restart.specs.AnyPages.{IsMadeOf, ReadPage, redone_by, redone_from, redone_read, with_image_at}

-- ---- one record more

redone_more : (rs : List LogRecord) (n : ℕ) (r : LogRecord) (p : PageId) (page : ReadPage)
    → redone_from n (rs ++ r ∷ []) p page ≡ redone_read (n + length rs + 1) (image_in r.payload) p (redone_from n rs p page)
redone_more [] n r p page = ap (λ (m : ℕ). redone_read m (image_in r.payload) p page) (omega arith)
redone_more (x ∷ rs) n r p page =
    let next = redone_read (n + 1) (image_in x.payload) p page in
    redone_more rs (n + 1) r p next ∙ ap (λ (m : ℕ). redone_read m (image_in r.payload) p (redone_from (n + 1) rs p next)) (omega arith)

pub made_more : (v : Version) (text : List ℕ) (log : List LogRecord) (r : LogRecord) (p : PageId) (page next : ReadPage) → IsMadeOf v text log p page → redone_read (length log + 1) (image_in r.payload) p page ≡ next
    → IsMadeOf v text (log ++ r ∷ []) p next
made_more v text log r p page next made is = record {
  was = made.was;
  read = made.read;
  redone = sym (redone_more log 0 r p made.was ∙ ap (λ (m : ℕ). redone_read m (image_in r.payload) p (redone_by log p made.was)) (omega arith) ∙ ap (redone_read (length log + 1) (image_in r.payload) p) (sym made.redone) ∙ is);
}

-- ---- which page a record is of

pub of_none : (n : ℕ) (o : Option (Rid × Image)) (p : PageId) (page : ReadPage) → o ≡ None → redone_read n o p page ≡ page
of_none n o p page none = ap (λ (x : Option (Rid × Image)). redone_read n x p page) none

pub of_other : (n : ℕ) (o : Option (Rid × Image)) (id : Rid) (image : Image) (p : PageId) (page : ReadPage) → o ≡ Some (id, image) → p ≢ id.page → redone_read n o p page ≡ page
of_other n o id image p page is apart =
    let off : eq_by_cmp page_cmp p id.page ≡ false = elim (cases_Bool (eq_by_cmp page_cmp p id.page)) [
      | inl on ↦ absurd (apart (equal_pages p id.page on))
      | inr off ↦ off
    ] in
    ap (λ (x : Option (Rid × Image)). redone_read n x p page) is
    ∙ ap (λ b. cond (b && nat_lt page.number n) (record { number = n; images = with_image_at page.images id.slot image }) page) off

pub of_passed : (n : ℕ) (o : Option (Rid × Image)) (id : Rid) (image : Image) (page : ReadPage) → o ≡ Some (id, image) → n ≤ page.number → redone_read n o id.page page ≡ page
of_passed n o id image page is passed =
    ap (λ (x : Option (Rid × Image)). redone_read n x id.page page) is
    ∙ ap (λ b. cond (b && nat_lt page.number n) (record { number = n; images = with_image_at page.images id.slot image }) page) (same_page id.page)
    ∙ ap (λ b. cond b (record { number = n; images = with_image_at page.images id.slot image }) page) (le-ltb page.number n passed)

pub of_due : (n : ℕ) (o : Option (Rid × Image)) (id : Rid) (image : Image) (page : ReadPage) → o ≡ Some (id, image) → page.number < n
    → redone_read n o id.page page ≡ record { number = n; images = with_image_at page.images id.slot image }
of_due n o id image page is due =
    ap (λ (x : Option (Rid × Image)). redone_read n x id.page page) is
    ∙ ap (λ b. cond (b && nat_lt page.number n) (record { number = n; images = with_image_at page.images id.slot image }) page) (same_page id.page)
    ∙ ap (λ b. cond b (record { number = n; images = with_image_at page.images id.slot image }) page) (lt-ltb page.number n due)

-- ---- a change in a frame

images_changed : (f : Slot → Slot) (image : Image) → ((s : Slot) → (f s).image ≡ image) → (slots : List Slot) (i : ℕ) → images_of (with_change f slots i) ≡ with_change (λ _. image) (images_of slots) i
images_changed f image is [] i = refl
images_changed f image is (s ∷ slots) zero = ap (λ (x : Image). x ∷ images_of slots) (is s)
images_changed f image is (s ∷ slots) (suc i) = ap (λ (l : List Image). s.image ∷ l) (images_changed f image is slots i)

images_kept : (slots : List Slot) (i : ℕ) → images_of (with_change (lowered 0) slots i) ≡ images_of slots
images_kept [] i = refl
images_kept (s ∷ slots) zero = refl
images_kept (s ∷ slots) (suc i) = ap (λ (l : List Image). s.image ∷ l) (images_kept slots i)

images_new : (n : ℕ) → images_of (replicate n (settled None)) ≡ replicate n None
images_new zero = refl
images_new (suc n) = ap (λ (l : List Image). None ∷ l) (images_new n)

images_more : (slots : List Slot) (i : ℕ) → images_of (with_slot slots i) ≡ images_of slots ++ replicate (i + 1 - length (images_of slots)) None
images_more slots i =
    map-append (λ (s : Slot). s.image) slots (replicate (i + 1 - length slots) (settled None))
    ∙ ap (λ (l : List Image). images_of slots ++ l) (images_new (i + 1 - length slots))
    ∙ ap (λ (n : ℕ). images_of slots ++ replicate (i + 1 - n) None) (sym (length-map slots (λ (s : Slot). s.image)))

pub images_put : (slots : List Slot) (i : ℕ) (image : Image) → images_of (with_change (lowered 0) (with_image slots i image) i) ≡ with_image_at (images_of slots) i image
images_put slots i image =
    images_kept (with_image slots i image) i
    ∙ images_changed (holding image) image (λ s. refl) (with_slot slots i) i
    ∙ ap (λ (l : List Image). with_change (λ (x : Image). image) l i) (images_more slots i)

pub of_no_image : (o : Option (Rid × Image)) (id : Rid) (image : Image) → o ≡ None → o ≡ Some (id, image) → ⊥
of_no_image o id image none some = let clash : ◌≡◌ {A = Option (Rid × Image)} None (Some (id, image)) = sym none ∙ some in cc
