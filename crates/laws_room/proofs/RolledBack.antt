-- What is in place once transactions are rolled back has room, since each slot claims it.
use Rattle.std.proofs.Common.{◌≡◌, inl, inr, ⊎_elim, ◌+◌, ◌-◌, ◌*◌, ◌<◌, ◌≤◌, ℕ, zero, suc, max, List, [], ◌∷◌, None, refl, sym, ap, subst, ◌∙◌, arith}
use Rattle.std.specs.FinMap.{get}
use Rattle.std.specs.List.{All, AllByRecursion}
use Rattle.std.proofs.lemmas.List.Elements.{All-cons, All-nil}
use Rattle.std.proofs.lemmas.List.Sums.{sum_by-append, sum_by-cons}
use Rattle.shore_types.specs.Images.{Image, image_len}
use Rattle.shore_types.specs.declared.ids.PageId.{PageId}
use Rattle.shore_types.specs.declared.ids.Rid.{Rid}
use Rattle.shore_types.specs.declared.layout.TheConstants.{SLOT_ENTRY_BYTES}
use Rattle.shore_types.specs.declared.versions.Version.{Version}
use Rattle.shore_types.specs.Versions.{page_room}
use Rattle.shore_model.specs.Records.{Records, laid_over, put_image}
use Rattle.shore_page.specs.Layout.{record_bytes}
use Rattle.shore_page.specs.Room.{HasRoom, HoldsItsImage, claims}
use Rattle.shore_page.specs.Slots.{Slot, settled}
use Rattle.shore_page.specs.Undo.{claiming, longest}
use Rattle.laws_room.specs.Claims.{Claimed, SlotCounts, before_of, befores_at, befores_in, each_from, rid_on, undecided_at}
use Rattle.laws_room.specs.RolledBack.{all_rolled_back, images_on}
use Rattle.laws_room.specs.Settling.{settled_slots}
use Rattle.laws_lives.specs.Sessions.{SessionTxn}
use Rattle.laws_lives.specs.Views.{IsAmong}
use Rattle.laws_lives.proofs.Ids.{put_here, put_there, told_apart}
use Rattle.laws_room.proofs.Fetching.{claims_less, longest_append, most_claim}
use Rattle.laws_room.proofs.Fitting.{longest_of_some}
use Rattle.laws_room.proofs.Leaving.{map_each}
use Rattle.laws_room.proofs.Lists.{each_append, length-each}
use Rattle.laws_room.proofs.Pages.{back_same}
use Rattle.laws_room.proofs.Settled.{opens_claimed}

-- ---- an image in place then is one that was, or one of the undo lists

rolled_len : (R : Records) (es : List (Rid × Image)) (q : Rid) → image_len (get (laid_over R es) q) ≤ max (image_len (get R q)) (longest (befores_in q es))
rolled_len R [] q = omega arith
rolled_len R (e ∷ es) q =
    let rest = rolled_len R es q in
    let parts = longest_append (befores_in q es) (before_of q e) in
    ⊎_elim
    (λ same.
    let it : image_len (get (put_image (laid_over R es) e.0 e.1) q) ≡ image_len e.1 =
    ap image_len (ap (get (put_image (laid_over R es) e.0 e.1)) same ∙ put_here (laid_over R es) e.0 e.1) in
    let own : longest (before_of q e) ≡ max (image_len e.1) 0 = ap longest (ap (λ (r : Rid). before_of r e) same ∙ back_same e.0 e.1) in
    omega arith)
    (λ off.
    let it : image_len (get (put_image (laid_over R es) e.0 e.1) q) ≡ image_len (get (laid_over R es) q) =
    ap image_len (put_there (laid_over R es) e.0 e.1 q off) in
    omega arith)
    (told_apart q e.0)

all_rolled_len : (R : Records) (some : List SessionTxn) (q : Rid)
    → image_len (get (all_rolled_back R some) q) ≤ max (image_len (get R q)) (longest (befores_at q some))
all_rolled_len R [] q = omega arith
all_rolled_len R (a ∷ some) q =
    let one = rolled_len R a.undo.images q in
    let rest = all_rolled_len (laid_over R a.undo.images) some q in
    let parts = longest_append (befores_in q a.undo.images) (befores_at q some) in
    omega arith

module _ (counts : SlotCounts) (q : Rid) (behind : counts q.page ≤ q.slot) where
  rolled_none : (R : Records) (es : List (Rid × Image)) → AllByRecursion (λ e. e.0.slot < counts e.0.page) es → get R q ≡ None → get (laid_over R es) q ≡ None
  rolled_none R [] within none = none
  rolled_none R (e ∷ es) within none = ⊎_elim
      (λ same. absurd (low (subst (λ (r : Rid). r.slot < counts r.page) (sym same) within.0)))
      (λ off. put_there (laid_over R es) e.0 e.1 q off ∙ rolled_none R es within.1 none)
      (told_apart q e.0)
    where
      low : q.slot < counts q.page → ⊥
      low less = omega arith

  all_rolled_none : (R : Records) (some : List SessionTxn)
      → ((a : SessionTxn) → IsAmong a some → AllByRecursion (λ e. e.0.slot < counts e.0.page) a.undo.images)
      → get R q ≡ None → get (all_rolled_back R some) q ≡ None
  all_rolled_none R [] within none = none
  all_rolled_none R (a ∷ some) within none =
      all_rolled_none (laid_over R a.undo.images) some (λ b m. within b (inr m)) (rolled_none R a.undo.images (within a (inl refl)) none)

-- ---- room

each_all : (P : Slot → Type 0) (f : ℕ → Slot) (first n : ℕ) → ((i : ℕ) → first ≤ i → i < first + n → P (f i)) → All P (each_from f first n)
each_all P f first zero each = All-nil P
each_all P f first (suc n) each =
    All-cons P (f first) (each_from f (suc first) n) (each first (omega arith) (omega arith))
    (each_all P f (suc first) n (λ i ge less. each i (omega arith) (omega arith)))

-- the first slots claim no more than all
first_claims : (F : ℕ → Slot) (n m : ℕ) → n ≤ m → claims (each_from F 0 n) ≤ claims (each_from F 0 m)
first_claims F n m le =
    let parts : m ≡ n + (m - n) = omega arith in
    let all : claims (each_from F 0 m) ≡ claims (each_from F 0 n) + claims (each_from F n (m - n)) =
    ap (λ (j : ℕ). claims (each_from F 0 j)) parts ∙ ap claims (each_append F n (m - n))
    ∙ sum_by-append (λ (s : Slot). s.claim) (each_from F 0 n) (each_from F n (m - n)) in
    omega arith

-- slots that claim what their records take
settled_bytes : (f : ℕ → Image) (first n : ℕ) → claims (each_from (λ i. settled (f i)) first n) ≡ record_bytes (each_from f first n)
settled_bytes f first zero = refl
settled_bytes f first (suc n) =
    omega (arith, settled_bytes f (suc first) n, sum_by-cons (λ (s : Slot). s.claim) (settled (f first)) (each_from (λ i. settled (f i)) (suc first) n), sum_by-cons image_len (f first) (each_from f (suc first) n))

module _ (v : Version) (R : Records) (undos some : List SessionTxn) (counts : SlotCounts) (k : Claimed v R undos counts)
    (each : (a : SessionTxn) → IsAmong a some → IsAmong a undos) where
  claimed_by : (q : Rid) → image_len (get (all_rolled_back R some) q) ≤ max (image_len (get R q)) (longest (befores_at q undos))
  claimed_by q = let one = all_rolled_len R some q in let more = longest_of_some q some undos each in omega arith

  pub rolled_room : (p : PageId) (n : ℕ) → n ≤ counts p → HasRoom v (settled_slots (all_rolled_back R some) p n)
  rolled_room p n le =
      let f : ℕ → Slot = λ i. settled (get (all_rolled_back R some) (rid_on p i)) in
      let F : ℕ → Slot = λ i. claiming (undecided_at R undos (rid_on p i)) in
      let is = map_each claiming (λ i. undecided_at R undos (rid_on p i)) 0 (counts p) in
      let room : HasRoom v (each_from F 0 (counts p)) = subst (HasRoom v) is (k.room p) in
      let fewer = claims_less f F 0 n (λ i. claimed_by (rid_on p i)) in
      let first = first_claims F n (counts p) le in
      record {
        room = omega (arith, length-each f 0 n, length-each F 0 (counts p), fewer, first, room.room);
        each = each_all (HoldsItsImage v) f 0 n
            (λ i ge less. let most = most_claim v p (counts p) F room i (omega arith) in let its = claimed_by (rid_on p i) in (omega arith, omega arith));
      }

  pub rolled_bytes : (p : PageId) (n : ℕ) → n ≤ counts p → SLOT_ENTRY_BYTES * n + record_bytes (images_on (all_rolled_back R some) p n) ≤ page_room v
  rolled_bytes p n le =
      omega (arith, (rolled_room p n le).room, settled_bytes (λ i. get (all_rolled_back R some) (rid_on p i)) 0 n, length-each (λ i. settled (get (all_rolled_back R some) (rid_on p i))) 0 n)

  pub rolled_claimed : Claimed v (all_rolled_back R some) [] counts
  rolled_claimed = opens_claimed v (all_rolled_back R some) counts (λ p. rolled_room p (counts p) (omega arith))
      (λ id behind. all_rolled_none counts id behind R some (λ a m. k.within a (each a m)) (k.behind id behind))
