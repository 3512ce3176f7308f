-- Redo of one record on a page: of how much of the log the page is before and after, also as the log grows or is cut.
use Rattle.std.proofs.Common.{◌≡◌, ◌++◌, ◌⊎◌, inl, inr, ⊎_elim, ◌≤◌, ◌<◌, ◌+◌, ℕ, List, [], ◌∷◌, Bool, true, false, cond, Option, Some, None, refl, sym, ap, subst, ◌∙◌, arith, length, take, max, length-take, take-take}
use Rattle.std.specs.Prelude.{slice_get, nat_lt, unwrap_or, ◌&&◌}
use Rattle.std.specs.Ordering.{eq_by_cmp, is_eq, ordering_then, nat_cmp}
use Rattle.std.specs.declared.cmp.Ordering.{Ordering}
use Rattle.std.specs.declared.cmp.Ordering.TheVariants.{Less, Equal, Greater}
use Rattle.std.specs.FinMap.{get, get-insert}
use Rattle.std.proofs.lemmas.Bool.{ltb-true, lt-ltb}
use Rattle.std.proofs.lemmas.List.{take_more, take-append-le, length-append}
use Rattle.std.proofs.lemmas.Option.{get_or_from_slice_get, slice_get_within}
use Rattle.shore_types.specs.declared.ids.PageId.{PageId}
use Rattle.shore_types.specs.declared.ids.Rid.{Rid}
use Rattle.shore_types.specs.Ids.{page_cmp, rid_cmp, rids_total}
use Rattle.shore_model.specs.declared.log_records.LogRecord.{LogRecord}
use Rattle.shore_model.specs.Records.{WriteSet}
use Rattle.shore_types.specs.Images.{Image}
use Rattle.shore_model.specs.Logs.{image_in, image_of_record, last_images, with_image}
use Rattle.shore_model.proofs.Maps.{get_id}
use Rattle.shore_model.proofs.LogSteps.{last_images-push}
use Rattle.laws_lives.specs.Pages.{LoggedPage, IsAsOf, IsAsOfOwnNumber, LacksNone, empty_page, rid_on, slots_with, needs_redo, redone_on}
use Rattle.laws_lives.proofs.Booleans.{and_true}
use Rattle.laws_lives.proofs.Lists.{within_or_beyond}

-- ---- what one more record leaves at an id

-- the image of a record counts at its own id
abbrev pub or_image : Option (Rid × Image) → Rid → Image → Image
or_image None q image = image
or_image (Some e) q image = cond (eq_by_cmp rid_cmp q e.0) e.1 image

unwrap_cond : (b : Bool) (image : Image) (o : Option Image) → unwrap_or (cond b (Some image) o) None ≡ cond b image (unwrap_or o None)
unwrap_cond true image o = refl
unwrap_cond false image o = refl

get-with_image : (images : WriteSet) (o : Option (Rid × Image)) (q : Rid) → unwrap_or (get (with_image images o) q) None ≡ or_image o q (unwrap_or (get images q) None)
get-with_image images None q = refl
get-with_image images (Some e) q =
    ap (λ o. unwrap_or o None) (get-insert rids_total images e.0 e.1 q) ∙ unwrap_cond (eq_by_cmp rid_cmp q e.0) e.1 (get images q)

pub image_of_record-push : (log : List LogRecord) (r : LogRecord) (q : Rid) → image_of_record (log ++ r ∷ []) q ≡ or_image (image_in r.payload) q (image_of_record log q)
image_of_record-push log r q = ap (λ images. unwrap_or (get images q) None) (last_images-push log r) ∙ get-with_image (last_images log) (image_in r.payload) q

-- ---- prefixes of the log

module _ {A : Type 0} where
  pub take_next : (xs : List A) (n : ℕ) (x : A) → slice_get xs n ≡ Some x → take (n + 1) xs ≡ take n xs ++ x ∷ []
  take_next xs n x at = take_more xs n x (slice_get_within xs n x at) ∙ ap (λ y. take n xs ++ y ∷ []) (get_or_from_slice_get xs n x x at)

  pub slice_get_last : (xs : List A) (x : A) → slice_get (xs ++ x ∷ []) (length xs) ≡ Some x
  slice_get_last [] x = refl
  slice_get_last (y ∷ xs) x = slice_get_last xs x

module _ (log : List LogRecord) (p : PageId) (n : ℕ) (page : LoggedPage) (h : IsAsOf log p n page) where
  pub as_of_longer : (more : List LogRecord) → IsAsOf (log ++ more) p n page
  as_of_longer more =
      let within = h.within in
      let long = length-append log more in
      record {
        number = h.number;
        within = omega arith;
        slots = λ i. h.slots i ∙ ap (λ xs. image_of_record xs (rid_on p i)) (sym (take-append-le n log more h.within));
      }

  pub as_of_cut : (k : ℕ) → n ≤ k → k ≤ length log → IsAsOf (take k log) p n page
  as_of_cut k le most =
      let long = length-take k log in
      record {
        number = h.number;
        within = omega arith;
        slots = λ i. h.slots i ∙ ap (λ xs. image_of_record xs (rid_on p i)) (sym (take-take n k log le));
      }

-- ---- redo

other_page : (o u : Ordering) → is_eq o ≡ false → is_eq (ordering_then o u) ≡ false
other_page Less u h = refl
other_page Equal u h = cc
other_page Greater u h = refl

and_with : (a b : Bool) → b ≡ true → (a && b) ≡ false → a ≡ false
and_with true true t h = cc
and_with true false t h = cc
and_with false b t h = refl

module _ (log : List LogRecord) (p : PageId) (n : ℕ) (r : LogRecord) (at : slice_get log n ≡ Some r) where
  next_slots : (slots : ℕ → Image) → ((i : ℕ) → slots i ≡ image_of_record (take n log) (rid_on p i))
      → (i : ℕ) → image_of_record (take (n + 1) log) (rid_on p i) ≡ or_image (image_in r.payload) (rid_on p i) (slots i)
  next_slots slots h i =
      ap (λ xs. image_of_record xs (rid_on p i)) (take_next log n r at) ∙ image_of_record-push (take n log) r (rid_on p i)
      ∙ ap (or_image (image_in r.payload) (rid_on p i)) (sym (h i))

  module _ (page : LoggedPage) (h : IsAsOf log p n page) where
    -- the record leaves the page as it is
    unchanged : ((i : ℕ) → or_image (image_in r.payload) (rid_on p i) (page.slots i) ≡ page.slots i) → IsAsOf log p (n + 1) page
    unchanged same =
        let number = h.number in
        let within = slice_get_within log n r at in
        record { number = omega arith; within = omega arith; slots = λ i. sym (next_slots page.slots h.slots i ∙ same i) }

    redone_now : (o : Option (Rid × Image)) → image_in r.payload ≡ o → IsAsOf log p (n + 1) (redone_on (n + 1) o p page)
    redone_now None e = unchanged (λ i. ap (λ o. or_image o (rid_on p i) (page.slots i)) e)
    redone_now (Some c) e =
        let within = slice_get_within log n r at in
        elim (needs_redo (n + 1) p page c.0) as (λ b. needs_redo (n + 1) p page c.0 ≡ b
        → IsAsOf log p (n + 1) (cond b (record { number = n + 1; slots = slots_with p page.slots c.0 c.1 }) page)) [
          | true ↦ λ yes. record {
            number = omega arith;
            within = omega arith;
            slots = λ i. sym (next_slots page.slots h.slots i ∙ ap (λ o. or_image o (rid_on p i) (page.slots i)) e);
          }
          | false ↦ λ no.
              let number = h.number in
              let lower : page.number < n + 1 = omega arith in
              let off : eq_by_cmp page_cmp p c.0.page ≡ false =
              and_with (eq_by_cmp page_cmp p c.0.page) (nat_lt page.number (n + 1)) (lt-ltb page.number (n + 1) lower) no in
              unchanged (λ i. ap (λ o. or_image o (rid_on p i) (page.slots i)) e
              ∙ ap (λ b. cond b c.1 (page.slots i)) (other_page (page_cmp p c.0.page) (nat_cmp i c.0.slot) off))
        ] refl

  -- the page has the record already
  left_alone : (page : LoggedPage) → n < page.number → (o : Option (Rid × Image)) → redone_on (n + 1) o p page ≡ page
  left_alone page later None = refl
  left_alone page later (Some c) =
      elim (needs_redo (n + 1) p page c.0) as (λ b. needs_redo (n + 1) p page c.0 ≡ b
      → cond b (record { number = n + 1; slots = slots_with p page.slots c.0 c.1 }) page ≡ page) [
        | true ↦ λ yes. absurd (let low : page.number < n + 1 = ltb-true page.number (n + 1) (and_true (eq_by_cmp page_cmp p c.0.page) (nat_lt page.number (n + 1)) yes).1 in omega arith)
        | false ↦ λ no. refl
      ] refl

  applied_or_not : (page : LoggedPage) → page.number ≤ n → (o : Option (Rid × Image)) → ((redone_on (n + 1) o p page).number ≡ n + 1) ⊎ (redone_on (n + 1) o p page ≡ page)
  applied_or_not page le None = inr refl
  applied_or_not page le (Some c) =
      elim (needs_redo (n + 1) p page c.0) as (λ b.
      ((cond b (record { number = n + 1; slots = slots_with p page.slots c.0 c.1 }) page).number ≡ n + 1)
      ⊎ (cond b (record { number = n + 1; slots = slots_with p page.slots c.0 c.1 }) page ≡ page)) [
        | true ↦ inl refl
        | false ↦ inr refl
      ]

  -- By the page's number: it has the record already, or it is as of n, and redo makes it as of n + 1.
  pub redo_one : (page : LoggedPage) → LacksNone log p n page → LacksNone log p (n + 1) (redone_on (n + 1) (image_in r.payload) p page)
  redo_one page h = ⊎_elim
      (λ low.
      let now = redone_now page (h.each n low (omega arith)) (image_in r.payload) refl in
      ⊎_elim
      (λ applied. record {
        each = λ m least most.
            let same : n + 1 ≡ m = omega arith in
            subst (λ k. IsAsOf log p k (redone_on (n + 1) (image_in r.payload) p page)) same now;
      })
      (λ not_so. subst (LacksNone log p (n + 1)) (sym not_so) (record {
        each = λ m least most. ⊎_elim
            (λ le. h.each m least (omega arith))
            (λ gt.
            let same : n + 1 ≡ m = omega arith in
            subst (λ k. IsAsOf log p k page) same (subst (IsAsOf log p (n + 1)) not_so now))
            (within_or_beyond m n);
      }))
      (applied_or_not page low (image_in r.payload)))
      (λ high. subst (LacksNone log p (n + 1)) (sym (left_alone page high (image_in r.payload))) (record { each = λ m least most. h.each m least (omega arith) }))
      (within_or_beyond page.number n)

module _ (log : List LogRecord) (p : PageId) (n : ℕ) (page : LoggedPage) (h : LacksNone log p n page) where
  pub own_number : IsAsOfOwnNumber log p page
  own_number = h.each page.number (omega arith) (omega arith)

  pub whole : IsAsOf log p (max n page.number) page
  whole = h.each (max n page.number) (omega arith) (omega arith)

  pub lacks_less : (m : ℕ) → m ≤ n → LacksNone log p m page
  lacks_less m le = record { each = λ k least most. h.each k least (omega arith) }

  pub lacks_longer : (more : List LogRecord) → LacksNone (log ++ more) p n page
  lacks_longer more = record { each = λ m least most. as_of_longer log p m page (h.each m least most) more }

  pub lacks_cut : (k : ℕ) → n ≤ k → page.number ≤ k → k ≤ length log → LacksNone (take k log) p n page
  lacks_cut k le number most = record { each = λ m least up. as_of_cut log p m page (h.each m least up) k (omega arith) most }

pub lacks_none_yet : (log : List LogRecord) (p : PageId) (page : LoggedPage) → IsAsOfOwnNumber log p page → LacksNone log p 0 page
lacks_none_yet log p page h = record { each = λ m least most. let same : page.number ≡ m = omega arith in subst (λ k. IsAsOf log p k page) same h }

-- ---- a format

pub empty_page_stands : (p : PageId) → IsAsOfOwnNumber [] p empty_page
empty_page_stands p = record {
  number = omega arith;
  within = omega arith;
  slots = λ i. sym (ap (λ o. unwrap_or o None) (get_id [] (rid_on p i)));
}
