-- A record fits the slots that the records before it leave, if the slots that it leaves have room.
use Rattle.std.proofs.Common.{◌≡◌, ◌≢◌, ⊎_elim, ◌++◌, ◌+◌, ◌<◌, ◌≤◌, ℕ, zero, suc, max, nat_lt, List, [], ◌∷◌, true, false, cond, Option, Some, None, refl, sym, ap, subst, ◌∙◌, take, arith}
use Rattle.std.specs.Prelude.{All, slice_get}
use Rattle.std.specs.FinMap.{get}
use Rattle.std.specs.Option.{ForSome, option_map_or}
use Rattle.std.specs.Ordering.{eq_by_cmp}
use Rattle.std.proofs.lemmas.Bool.{ltb-true, ltb-false}
use Rattle.std.proofs.lemmas.List.Sums.{sum_by-cons}
use Rattle.std.proofs.lemmas.Option.{get_or_from_slice_get, slice_get_past, slice_get_within}
use Rattle.shore_types.specs.Versions.{slot_limit-fills}
use Rattle.shore_types.specs.Ids.{rid_cmp}
use Rattle.shore_types.specs.Images.{Image, image_len}
use Rattle.shore_types.specs.declared.ids.PageId.{PageId}
use Rattle.shore_types.specs.declared.ids.Rid.{Rid}
use Rattle.shore_types.specs.declared.layout.Geometry.{Geometry}
use Rattle.shore_types.specs.declared.versions.Version.{Version}
use Rattle.shore_model.specs.declared.log_records.LogRecord.{LogRecord}
use Rattle.shore_model.specs.Logs.{image_in, image_of_record}
use Rattle.shore_page.specs.Room.{Fits, HasRoom, HoldsItsImage, claim_at, claims, free_bytes, need}
use Rattle.shore_page.specs.Slots.{Slot, settled}
use Rattle.laws_lives.proofs.OneMore.{id_itself}
use Rattle.laws_lives.proofs.Redo.{image_of_record-push, or_image, take_next}
use Rattle.laws_room.proofs.Lists.{each_alike, each_at, length-each}
use Rattle.laws_room.proofs.RolledBack.{rolled_room}
use Rattle.laws_room.specs.Claims.{each_from, rid_on}
use Rattle.laws_lives.proofs.Ids.{told_apart}
use Rattle.laws_runs.proofs.SlotCounts.{behind_here, slot_count-push}
use Rattle.laws_runs.specs.RoomyLogs.{AreRoomy, IsPlacedLog}
use Rattle.laws_runs.specs.SlotCounts.{EachFits, FitsBehind, slot_count, slots_behind, slots_left}

-- an element has what all have
pub all_at : {A : Type 0} (P : A → Type 0) (xs : List A) (n : ℕ) (x : A) → All P xs → slice_get xs n ≡ Some x → P x
all_at P xs n x all at = subst P (get_or_from_slice_get xs n x x at) (all n x (slice_get_within xs n x at))

-- ---- slots of which one has changed

module _ (f h : ℕ → Slot) (slot : ℕ) (others : (j : ℕ) → j ≢ slot → h j ≡ f j) where
  claims_cons : (f : ℕ → Slot) (first n : ℕ) → claims (each_from f first (suc n)) ≡ (f first).claim + claims (each_from f (suc first) n)
  claims_cons f first n = sum_by-cons (λ (s : Slot). s.claim) (f first) (each_from f (suc first) n)

  -- the changed one is not among them
  claims_apart : (first n : ℕ) → slot < first → claims (each_from h first n) ≡ claims (each_from f first n)
  claims_apart first n before = ap claims (each_alike h f first n (λ i ge less. others i (λ same. omega arith)))

  -- it is
  claims_moved : (first n : ℕ) → first ≤ slot → slot < first + n
      → claims (each_from h first n) + (f slot).claim ≡ claims (each_from f first n) + (h slot).claim
  claims_moved first zero ge less = absurd (omega arith)
  claims_moved first (suc n) ge less =
      let old = claims_cons f first n in
      let new = claims_cons h first n in
      elim (nat_lt first slot) as (λ b. nat_lt first slot ≡ b → claims (each_from h first (suc n)) + (f slot).claim ≡ claims (each_from f first (suc n)) + (h slot).claim) [
        | true ↦ λ e.
            let below = ltb-true first slot e in
            let rest = claims_moved (suc first) n (omega arith) (omega arith) in
            let same = ap (λ (s : Slot). s.claim) (others first (λ same. omega arith)) in
            omega arith
        | false ↦ λ e.
            let above = ltb-false first slot e in
            let is : first ≡ slot = omega arith in
            let rest = claims_apart (suc first) n (omega arith) in
            let was = ap (λ i. (f i).claim) is in
            let now = ap (λ i. (h i).claim) is in
            omega arith
      ] refl

-- more slots claim no less
claims_more : (f : ℕ → Slot) (first n m : ℕ) → n ≤ m → claims (each_from f first n) ≤ claims (each_from f first m)
claims_more f first zero m le = omega arith
claims_more f first (suc n) zero le = absurd (omega arith)
claims_more f first (suc n) (suc m) le =
    let a = sum_by-cons (λ (s : Slot). s.claim) (f first) (each_from f (suc first) n) in
    let b = sum_by-cons (λ (s : Slot). s.claim) (f first) (each_from f (suc first) m) in
    let rest = claims_more f (suc first) n m (omega arith) in
    omega arith

claim_of : (f : ℕ → Slot) (n slot : ℕ) → slot < n → claim_at (each_from f 0 n) slot ≡ (f slot).claim
claim_of f n slot less = ap (λ (o : Option Slot). option_map_or (λ (s : Slot). s.claim) o 0) (each_at f n slot less)

claim_past : (f : ℕ → Slot) (n slot : ℕ) → n ≤ slot → claim_at (each_from f 0 n) slot ≡ 0
claim_past f n slot le =
    let long = length-each f 0 n in
    ap (λ (o : Option Slot). option_map_or (λ (s : Slot). s.claim) o 0) (slice_get_past (each_from f 0 n) slot (omega arith))

-- the slots are f's as far as they go, and h's up to the changed one have room
pub fits_before : (v : Version) (f h : ℕ → Slot) (n slot : ℕ) (image : Image) → ((j : ℕ) → j ≢ slot → h j ≡ f j) → h slot ≡ settled image
    → (n ≤ slot → (f slot).claim ≡ 0) → HasRoom v (each_from h 0 (max n (slot + 1))) → Fits v (each_from f 0 n) slot (image_len image)
fits_before v f h n slot image others here behind room =
    let c = max n (slot + 1) in
    let inside : slot < c = omega arith in
    let long = length-each f 0 n in
    let longer = length-each h 0 c in
    let moved = claims_moved f h slot others 0 c (omega arith) (omega arith) in
    let more = claims_more f 0 n c (omega arith) in
    let new = ap (λ (s : Slot). s.claim) here in
    let each = all_at (HoldsItsImage v) (each_from h 0 c) slot (h slot) room.each (each_at h c slot inside) in
    let total = room.room in
    let fills = slot_limit-fills v in
    record {
      there = omega arith;
      most = let most = each.1 in omega arith;
      room = elim (nat_lt slot n) as (λ b. nat_lt slot n ≡ b → need (each_from f 0 n) slot (image_len image) ≤ free_bytes v (each_from f 0 n)) [
        | true ↦ λ e. let less = ltb-true slot n e in let claim = claim_of f n slot less in omega arith
        | false ↦ λ e. let past = ltb-false slot n e in let claim = claim_past f n slot past in let none = behind past in omega arith
      ] refl;
    }

-- ---- logs

module _ (g : Geometry) where
  -- the slots that such a log leaves have room
  pub left_have_room : (log : List LogRecord) → IsPlacedLog g log → (p : PageId) → HasRoom g.version (slots_left log p)
  left_have_room log k p =
      subst (HasRoom g.version)
      (each_alike (λ i. settled (get k.records (rid_on p i))) (λ i. settled (image_of_record log (rid_on p i))) 0 (slot_count log p)
      (λ i ge less. ap settled (k.shown (rid_on p i))))
      (rolled_room g.version k.records k.undos [] (slot_count log) k.pages (λ a m. absurd m) p (slot_count log p) (omega arith))

  -- behind the slots nothing is
  none_behind : (log : List LogRecord) → IsPlacedLog g log → (id : Rid) → slot_count log id.page ≤ id.slot → image_of_record log id ≡ None
  none_behind log k id le = sym (k.shown id) ∙ k.pages.behind id le

  module _ (log : List LogRecord) (r : LogRecord) (old : IsPlacedLog g log) (new : IsPlacedLog g (log ++ r ∷ [])) where
    changed_fits : (e : Rid × Image) → image_in r.payload ≡ Some e → Fits g.version (slots_left log e.0.page) e.0.slot (image_len e.1)
    changed_fits e is =
        let p = e.0.page in
        let f : ℕ → Slot = λ i. settled (image_of_record log (rid_on p i)) in
        let h : ℕ → Slot = λ i. settled (image_of_record (log ++ r ∷ []) (rid_on p i)) in
        let pushed : (i : ℕ) → image_of_record (log ++ r ∷ []) (rid_on p i) ≡ cond (eq_by_cmp rid_cmp (rid_on p i) e.0) e.1 (image_of_record log (rid_on p i)) =
        λ i. image_of_record-push log r (rid_on p i) ∙ ap (λ o. or_image o (rid_on p i) (image_of_record log (rid_on p i))) is in
        let count : slot_count (log ++ r ∷ []) p ≡ max (slot_count log p) (e.0.slot + 1) =
        slot_count-push log r p ∙ ap (λ o. slots_behind p o (slot_count log p)) is ∙ behind_here e (slot_count log p) in
        fits_before g.version f h (slot_count log p) e.0.slot e.1
        (λ j other. ap settled (pushed j ∙ ap (λ b. cond b e.1 (image_of_record log (rid_on p j))) (apart j other)))
        (ap settled (pushed e.0.slot ∙ ap (λ b. cond b e.1 (image_of_record log (rid_on p e.0.slot))) (id_itself e.0)))
        (λ past. ap image_len (none_behind log old e.0 past))
        (subst (λ n. HasRoom g.version (each_from h 0 n)) count (left_have_room (log ++ r ∷ []) new p))
      where
        apart : (j : ℕ) → j ≢ e.0.slot → eq_by_cmp rid_cmp (rid_on e.0.page j) e.0 ≡ false
        apart j other = ⊎_elim (λ same. absurd (other (ap (λ (q : Rid). q.slot) same))) (λ off. off) (told_apart (rid_on e.0.page j) e.0)

    fits_if_some : (o : Option (Rid × Image)) → image_in r.payload ≡ o → ForSome o (λ e. Fits g.version (slots_left log e.0.page) e.0.slot (image_len e.1))
    fits_if_some o is e some = changed_fits e (is ∙ some)

    pub record_fits : FitsBehind g.version log r.payload
    record_fits = fits_if_some (image_in r.payload) refl

  pub each_fits : (stream_bytes least : ℕ) (log : List LogRecord) → AreRoomy g stream_bytes least log → EachFits g.version log
  each_fits stream_bytes least log k n r at = record_fits (take n log) r (k.placed n) (subst (IsPlacedLog g) (take_next log n r at) (k.placed (n + 1)))
