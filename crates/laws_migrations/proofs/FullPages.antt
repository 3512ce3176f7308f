-- Redo of a whole log on empty pages leaves pages that have all of it, each as of its own number.
use Rattle.std.proofs.Common.{◌≡◌, ⊎_elim, ◌≤◌, ◌+◌, ◌++◌, ℕ, List, [], ◌∷◌, Bool, true, false, cond, Option, Some, None, refl, sym, ap, subst, ◌∙◌, length, arith, append-nil, append_assoc}
use Rattle.std.specs.Prelude.{◌&&◌, nat_lt}
use Rattle.std.specs.Ordering.{eq_by_cmp}
use Rattle.std.proofs.lemmas.Bool.{lt-ltb, true≢false}
use Rattle.std.proofs.lemmas.Option.{slice_get_within}
use Rattle.shore_model.proofs.Beginnings.{slice_get-push}
use Rattle.shore_types.specs.Ids.{page_cmp}
use Rattle.shore_types.specs.Images.{Image}
use Rattle.shore_types.specs.declared.ids.PageId.{PageId}
use Rattle.shore_types.specs.declared.ids.Rid.{Rid}
use Rattle.shore_model.specs.declared.log_records.LogRecord.{LogRecord}
use Rattle.shore_model.specs.Logs.{image_in}
use Rattle.laws_lives.specs.DirtyPages.{HasAllUpTo}
use Rattle.laws_lives.specs.Pages.{IsAsOfOwnNumber, LacksNone, LoggedPage, empty_page, needs_redo, redone_on, slots_with}
use Rattle.laws_lives.proofs.Lists.{length-push}
use Rattle.laws_lives.proofs.Redo.{empty_page_stands, lacks_longer, lacks_none_yet, own_number, redo_one, slice_get_last}
use Rattle.laws_migrations.specs.FullPages.{full_pages, redone_from}

module _ (p : PageId) where
  -- redo lowers no number, raises it to the record's at most, and to that if the record is the page's
  record IsRedone (n : ℕ) (o : Option (Rid × Image)) (page new : LoggedPage) : Type 0 where
    no_lower : page.number ≤ new.number
    within : new.number ≤ n + 1
    here : (e : Rid × Image) → o ≡ Some e → eq_by_cmp page_cmp p e.0.page ≡ true → n + 1 ≤ new.number

  is_redone : (n : ℕ) (o : Option (Rid × Image)) (page : LoggedPage) → page.number ≤ n → IsRedone n o page (redone_on (n + 1) o p page)
  is_redone n None page le = record { no_lower = omega arith; within = omega (arith, le); here = λ e is on. absurd (none_some is) }
    where
      none_some : {e : Rid × Image} → ◌≡◌ {A = Option (Rid × Image)} None (Some e) → ⊥
      none_some is = cc
  is_redone n (Some c) page le =
      elim (needs_redo (n + 1) p page c.0) as (λ b. needs_redo (n + 1) p page c.0 ≡ b → IsRedone n (Some c) page (cond b (record { number = n + 1; slots = slots_with p page.slots c.0 c.1 }) page)) [
        | true ↦ λ yes. record { no_lower = omega (arith, le); within = omega arith; here = λ e is on. omega arith }
        | false ↦ λ no. record { no_lower = omega arith; within = omega (arith, le); here = λ e is on. absurd (true≢false (sym (needed e is on) ∙ no)) }
      ] refl
    where
      same_some : {e : Rid × Image} → ◌≡◌ {A = Option (Rid × Image)} (Some c) (Some e) → c ≡ e
      same_some is = cc

      both : (a b : Bool) → a ≡ true → b ≡ true → (a && b) ≡ true
      both true true h k = refl
      both true false h k = k
      both false b h k = h

      needed : (e : Rid × Image) → ◌≡◌ {A = Option (Rid × Image)} (Some c) (Some e) → eq_by_cmp page_cmp p e.0.page ≡ true → needs_redo (n + 1) p page c.0 ≡ true
      needed e is on =
          both (eq_by_cmp page_cmp p c.0.page) (nat_lt page.number (n + 1)) (ap (λ (x : Rid × Image). eq_by_cmp page_cmp p x.0.page) (same_some is) ∙ on) (lt-ltb page.number (n + 1) (omega (arith, le)))

  -- so far the page has the first records
  record HasFront (log : List LogRecord) (n : ℕ) (page : LoggedPage) : Type 0 where
    within : page.number ≤ n
    lacks : LacksNone log p n page
    all : HasAllUpTo log p page n

  one_more : (front : List LogRecord) (r : LogRecord) (page : LoggedPage) → HasFront front (length front) page
      → HasFront (front ++ r ∷ []) (length front + 1) (redone_on (length front + 1) (image_in r.payload) p page)
  one_more front r page h =
      let n = length front in
      let log = front ++ r ∷ [] in
      let new = redone_on (n + 1) (image_in r.payload) p page in
      let redone = is_redone n (image_in r.payload) page h.within in
      record {
        within = redone.within;
        lacks = redo_one log p n r (slice_get_last front r) page (lacks_longer front p n page h.lacks (r ∷ []));
        all = λ k s e less at is on. ⊎_elim
            (λ old. let known = h.all k s e (slice_get_within front k s old.0) old.0 is on in let more = redone.no_lower in omega (arith, known, more))
            (λ now. let own = redone.here e (ap (λ (x : LogRecord). image_in x.payload) now.0 ∙ is) on in omega (arith, own, less))
            (slice_get-push front r k s at);
      }

  redone_has : (rs front : List LogRecord) (page : LoggedPage) → HasFront front (length front) page → HasFront (front ++ rs) (length (front ++ rs)) (redone_from (length front) rs p page)
  redone_has [] front page h = subst (λ xs. HasFront xs (length xs) page) (sym (append-nil front)) h
  redone_has (r ∷ rs) front page h =
      let next = redone_on (length front + 1) (image_in r.payload) p page in
      let long : length (front ++ r ∷ []) ≡ length front + 1 = length-push front r in
      subst (λ xs. HasFront xs (length xs) (redone_from (length front + 1) rs p next)) (append_assoc front (r ∷ []) rs)
      (subst (λ n. HasFront ((front ++ r ∷ []) ++ rs) (length ((front ++ r ∷ []) ++ rs)) (redone_from n rs p next)) long
      (redone_has rs (front ++ r ∷ []) next (subst (λ n. HasFront (front ++ r ∷ []) n next) (sym long) (one_more front r page h))))

  pub full_has : (log : List LogRecord) → IsAsOfOwnNumber log p (full_pages log p) × HasAllUpTo log p (full_pages log p) (length log)
  full_has log =
      let k = redone_has log [] empty_page (record { within = omega arith; lacks = lacks_none_yet [] p empty_page (empty_page_stands p); all = λ k s e less at is on. absurd (omega (arith, less)) }) in
      (own_number log p (length log) (full_pages log p) k.lacks, k.all)
