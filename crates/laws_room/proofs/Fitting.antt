-- What fits: a delete, and by fewer claims whatever fits by all.
use Rattle.std.proofs.Common.{◌≡◌, inl, inr, ◌≢◌, ◌+◌, ◌-◌, ◌*◌, ◌<◌, ◌≤◌, ℕ, max, min, nat_eq, nat_lt, List, [], ◌∷◌, length, get_or, Option, Some, None, true, false, cond, refl, sym, ap, subst, ◌∙◌, arith}
use Rattle.std.specs.FinMap.{get}
use Rattle.std.specs.List.{slice_get}
use Rattle.std.proofs.lemmas.Bool.{ltb-true, ltb-false, eqb-true, eq-eqb, ne_eqb}
use Rattle.std.proofs.lemmas.List.Sums.{sum_by-cons}
use Rattle.std.proofs.lemmas.Option.{get_or_from_slice_get, slice_get_past}
use Rattle.shore_types.specs.Versions.{page_bytes, record_limit, slot_limit, slot_limit-fills}
use Rattle.shore_types.specs.declared.ids.PageId.{PageId}
use Rattle.shore_types.specs.declared.ids.Rid.{Rid}
use Rattle.shore_model.specs.Records.{Records}
use Rattle.shore_page.specs.Room.{Fits, HasRoom, claims, free_bytes, lowered, need, raised}
use Rattle.shore_page.specs.Slots.{Slot, settled, with_change, with_image}
use Rattle.shore_types.specs.Images.{image_len}
use Rattle.shore_types.specs.declared.versions.Version.{Version}
use Rattle.shore_types.specs.declared.versions.Version.TheVariants.{One}
use Rattle.shore_page.specs.Undo.{claiming, longest}
use Rattle.shore_page.proofs.RoomLemmas.{need_inside}
use Rattle.laws_room.specs.Claims.{Claimed, SlotCounts, befores_at, befores_in, each_from, rid_on, slots_of, undecided_at}
use Rattle.laws_room.specs.Events.{ChangeFitsPage}
use Rattle.laws_room.specs.Settling.{settled_slots}
use Rattle.laws_lives.specs.Sessions.{SessionTxn}
use Rattle.laws_lives.specs.Views.{IsAmong}
use Rattle.laws_room.proofs.Fetching.{claims_less, claims_raised, longest_append, longest_of_all}
use Rattle.laws_room.proofs.Leaving.{map_each}
use Rattle.laws_room.proofs.Lists.{each_at, each_changed, length-each}
use Rattle.laws_room.proofs.Pages.{length-slots}

-- a delete of a record that is there
pub delete_fits : (v : Version) (R : Records) (undos : List SessionTxn) (counts : SlotCounts) → Claimed v R undos counts → (id : Rid) (bytes : List ℕ) → get R id ≡ Some bytes
    → ChangeFitsPage v R undos counts id None counts
delete_fits v R undos counts k id bytes here =
    let inside : id.slot < counts id.page = elim (nat_lt id.slot (counts id.page)) as (λ b. nat_lt id.slot (counts id.page) ≡ b → id.slot < counts id.page) [
      | true ↦ λ e. ltb-true id.slot (counts id.page) e
      | false ↦ λ e. absurd (none_some (sym (k.behind id (ltb-false id.slot (counts id.page) e)) ∙ here))
    ] refl in
    let len = length-slots R undos id.page (counts id.page) in
    let F : ℕ → Slot = λ i. claiming (undecided_at R undos (rid_on id.page i)) in
    let at : slice_get (slots_of R undos id.page (counts id.page)) id.slot ≡ Some (F id.slot) =
    ap (λ l. slice_get l id.slot) (map_each claiming (λ i. undecided_at R undos (rid_on id.page i)) 0 (counts id.page))
    ∙ each_at F (counts id.page) id.slot inside in
    let read : F id.slot ≡ get_or (slots_of R undos id.page (counts id.page)) id.slot (F id.slot) =
    sym (get_or_from_slice_get (slots_of R undos id.page (counts id.page)) id.slot (F id.slot) (F id.slot) at) in (
      record { there = omega (arith, (k.room id.page).room, slot_limit-fills v); most = omega arith; room = omega (arith, need_inside (slots_of R undos id.page (counts id.page)) id.slot 0 (F id.slot) (omega arith) read) },
      record { here = omega arith; others = λ p other. refl },
    )
  where
    none_some : ◌≡◌ {A = Option (List ℕ)} None (Some bytes) → ⊥
    none_some e = cc

need_behind : (slots : List Slot) (i bytes : ℕ) → length slots ≤ i → need slots i bytes ≡ bytes + 4 * (i + 1 - length slots)
need_behind slots i bytes behind = rw (slice_get_past slots i behind) (omega arith)

-- what fits by some claims fits by lower ones
module _ (v : Version) (f F : ℕ → Slot) (n : ℕ) (less : (i : ℕ) → (f i).claim ≤ (F i).claim) (room : HasRoom v (each_from F 0 n)) where
  -- one slot, and its claim raised to the higher one
  abbrev raise_at : ℕ → ℕ → Slot
  raise_at slot i = cond (nat_eq i slot) (raised (F slot).claim (f i)) (f i)

  at_other : (slot j : ℕ) → j ≢ slot → raise_at slot j ≡ f j
  at_other slot j other = ap (λ b. cond b (raised (F slot).claim (f j)) (f j)) (ne_eqb j slot other)

  at_it : (slot : ℕ) → raise_at slot slot ≡ raised (F slot).claim (f slot)
  at_it slot = ap (λ b. cond b (raised (F slot).claim (f slot)) (f slot)) (eq-eqb slot slot refl)

  below : (slot i : ℕ) → (raise_at slot i).claim ≤ (F i).claim
  below slot i = elim (nat_eq i slot) as (λ b. nat_eq i slot ≡ b → (cond b (raised (F slot).claim (f i)) (f i)).claim ≤ (F i).claim) [
    | true ↦ λ e. let same : (F slot).claim ≡ (F i).claim = ap (λ k. (F k).claim) (sym (eqb-true i slot e)) in let le = less i in omega arith
    | false ↦ λ e. less i
  ] refl

  one_less : (slot : ℕ) → slot < n → claims (with_change (raised (F slot).claim) (each_from f 0 n) slot) ≤ claims (each_from F 0 n)
  one_less slot inside =
      subst (λ l. claims l ≤ claims (each_from F 0 n))
      (each_changed (raised (F slot).claim) f (raise_at slot) n slot (at_it slot) (λ j other. at_other slot j other) inside)
      (claims_less (raise_at slot) F 0 n (below slot))

  pub fewer : (slot bytes : ℕ) → Fits v (each_from F 0 n) slot bytes → Fits v (each_from f 0 n) slot bytes
  fewer slot bytes fits =
      let len : length (each_from f 0 n) ≡ n = length-each f 0 n in
      let lenF : length (each_from F 0 n) ≡ n = length-each F 0 n in
      elim (nat_lt slot n) as (λ b. nat_lt slot n ≡ b → Fits v (each_from f 0 n) slot bytes) [
        | true ↦ λ e.
            let inside = ltb-true slot n e in
            let at = each_at f n slot inside in
            let atF = each_at F n slot inside in
            let read : f slot ≡ get_or (each_from f 0 n) slot (f slot) = sym (get_or_from_slice_get (each_from f 0 n) slot (f slot) (f slot) at) in
            let readF : F slot ≡ get_or (each_from F 0 n) slot (F slot) = sym (get_or_from_slice_get (each_from F 0 n) slot (F slot) (F slot) atF) in
            let total = claims_raised (F slot).claim (each_from f 0 n) slot (f slot) at in
            let raise = one_less slot inside in
            record {
              there = omega (arith, fits.there);
              most = fits.most;
              room = omega (arith, need_inside (each_from f 0 n) slot bytes (f slot) (omega arith) read, need_inside (each_from F 0 n) slot bytes (F slot) (omega arith) readF, fits.room, room.room, less slot);
            }
        | false ↦ λ e.
            let behind = ltb-false slot n e in
            let sum = claims_less f F 0 n less in
            record {
              there = omega (arith, fits.there);
              most = fits.most;
              room = omega (arith, need_behind (each_from f 0 n) slot bytes (omega arith), need_behind (each_from F 0 n) slot bytes (omega arith), fits.room, room.room);
            }
      ] refl

pub redo_fits : (v : Version) (R : Records) (undos : List SessionTxn) (counts : SlotCounts) → Claimed v R undos counts → (p : PageId) (slot bytes : ℕ)
    → Fits v (slots_of R undos p (counts p)) slot bytes → Fits v (settled_slots R p (counts p)) slot bytes
redo_fits v R undos counts k p slot bytes fits =
    let F : ℕ → Slot = λ i. claiming (undecided_at R undos (rid_on p i)) in
    let is = map_each claiming (λ i. undecided_at R undos (rid_on p i)) 0 (counts p) in
    fewer v (λ i. settled (get R (rid_on p i))) F (counts p) (λ i. least (image_len (get R (rid_on p i))) (longest (befores_at (rid_on p i) undos)))
    (subst (HasRoom v) is (k.room p)) slot bytes (subst (λ l. Fits v l slot bytes) is fits)
  where
    least : (a b : ℕ) → a ≤ max a b
    least a b = omega arith

pub longest_of_some : (q : Rid) (some undos : List SessionTxn) → ((a : SessionTxn) → IsAmong a some → IsAmong a undos)
    → longest (befores_at q some) ≤ longest (befores_at q undos)
longest_of_some q [] undos each = omega arith
longest_of_some q (a ∷ some) undos each =
    let parts = longest_append (befores_in q a.undo.images) (befores_at q some) in
    let one = longest_of_all q undos a (each a (inl refl)) in
    let rest = longest_of_some q some undos (λ b m. each b (inr m)) in
    omega arith

-- what fits by all claims fits by those of some transactions
pub some_fit : (v : Version) (R : Records) (undos some : List SessionTxn) (counts : SlotCounts) → Claimed v R undos counts
    → ((a : SessionTxn) → IsAmong a some → IsAmong a undos) → (p : PageId) (slot bytes : ℕ)
    → Fits v (slots_of R undos p (counts p)) slot bytes → Fits v (slots_of R some p (counts p)) slot bytes
some_fit v R undos some counts k each p slot bytes fits =
    let F : ℕ → Slot = λ i. claiming (undecided_at R undos (rid_on p i)) in
    let f : ℕ → Slot = λ i. claiming (undecided_at R some (rid_on p i)) in
    let is = map_each claiming (λ i. undecided_at R undos (rid_on p i)) 0 (counts p) in
    subst (λ l. Fits v l slot bytes) (sym (map_each claiming (λ i. undecided_at R some (rid_on p i)) 0 (counts p)))
    (fewer v f F (counts p) (λ i. greatest (image_len (get R (rid_on p i))) _ _ (longest_of_some (rid_on p i) some undos each)) (subst (HasRoom v) is (k.room p)) slot bytes (subst (λ l. Fits v l slot bytes) is fits))
  where
    greatest : (a b c : ℕ) → b ≤ c → max a b ≤ max a c
    greatest a b c le = omega arith

-- ---- a redo on a page as it was read

two_slots : (x y : Slot) → claims (x ∷ y ∷ []) ≡ x.claim + y.claim
two_slots x y = omega (arith, sum_by-cons (λ (s : Slot). s.claim) x (y ∷ []), sum_by-cons (λ (s : Slot). s.claim) y [])

third : (x y : Slot) (bytes : ℕ) → need (x ∷ y ∷ []) 2 bytes ≡ bytes + 4
third x y bytes = need_behind (x ∷ y ∷ []) 2 bytes (omega arith)

pub not_kept : (a b : List ℕ) → length a ≡ 4000 → length b ≡ 4000 → Fits One (with_image (settled (Some a) ∷ settled (Some b) ∷ []) 0 (Some [])) 2 3000 → ⊥
unfolding page_bytes
not_kept a b la lb fits =
    let x : Slot = record { image = Some []; claim = max (length a) 0 } in
    let y : Slot = settled (Some b) in
    clash (two_slots x y) (third x y 3000) fits.room
  where
    clash : claims (record { image = Some []; claim = max (length a) 0 } ∷ settled (Some b) ∷ []) ≡ max (length a) 0 + length b
        → need (record { image = Some []; claim = max (length a) 0 } ∷ settled (Some b) ∷ []) 2 3000 ≡ 3000 + 4
        → need (record { image = Some []; claim = max (length a) 0 } ∷ settled (Some b) ∷ []) 2 3000 ≤ free_bytes One (record { image = Some []; claim = max (length a) 0 } ∷ settled (Some b) ∷ []) → ⊥
    clash sum is room = omega arith

pub fits_let_go : (a b : List ℕ) → length a ≡ 4000 → length b ≡ 4000
    → Fits One (with_change (lowered 0) (with_image (settled (Some a) ∷ settled (Some b) ∷ []) 0 (Some [])) 0) 2 3000
unfolding page_bytes record_limit slot_limit
fits_let_go a b la lb =
    let x : Slot = record { image = Some []; claim = min (max (length a) 0) (max 0 0) } in
    let y : Slot = settled (Some b) in
    let sum = two_slots x y in
    let is = third x y 3000 in
    record { there = omega arith; most = omega arith; room = omega arith }
