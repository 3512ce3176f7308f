-- The claims in numbers.
use Rattle.std.proofs.Common.{◌≡◌, inl, inr, ◌+◌, ◌*◌, ◌<◌, ◌≤◌, ℕ, max, List, [], ◌∷◌, Option, ap, subst, ◌∙◌, arith}
use Rattle.std.specs.FinMap.{get}
use Rattle.std.specs.List.{AllByRecursion, slice_get}
use Rattle.std.specs.Option.{option_map_or}
use Rattle.shore_types.specs.declared.ids.PageId.{PageId}
use Rattle.shore_types.specs.declared.ids.Rid.{Rid}
use Rattle.shore_types.specs.Images.{Image, image_len}
use Rattle.shore_types.specs.declared.versions.Version.{Version}
use Rattle.shore_types.specs.Versions.{page_room, slot_limit, slot_limit-fills}
use Rattle.shore_model.specs.Records.{Records}
use Rattle.shore_page.specs.Room.{claim_at, claims}
use Rattle.shore_page.specs.Slots.{Slot}
use Rattle.shore_page.specs.Undo.{claiming, longest}
use Rattle.laws_room.specs.Claims.{Claimed, NoOthers, SlotCounts, befores_at, befores_in, rid_on, slots_of, undecided_at}
use Rattle.laws_lives.specs.Sessions.{SessionTxn}
use Rattle.laws_lives.specs.Views.{IsAmong}
use Rattle.laws_room.proofs.Leaving.{map_each}
use Rattle.laws_room.proofs.Lists.{each_at, split}
use Rattle.laws_room.proofs.Pages.{length-slots, lone_at}

pub claim_is : (R : Records) (undos : List SessionTxn) (p : PageId) (n slot : ℕ) → slot < n
    → claim_at (slots_of R undos p n) slot ≡ max (image_len (get R (rid_on p slot))) (longest (befores_at (rid_on p slot) undos))
claim_is R undos p n slot inside =
    ap (λ (o : Option Slot). option_map_or (λ (s : Slot). s.claim) o 0)
    (ap (λ (l : List Slot). slice_get l slot) (map_each claiming (λ i. undecided_at R undos (rid_on p i)) 0 n) ∙ each_at (λ i. claiming (undecided_at R undos (rid_on p i))) n slot inside)

each_of : {A : Type 0} (P : A → Type 0) (xs : List A) (x : A) → AllByRecursion P xs → IsAmong x xs → P x
each_of P [] x all m = absurd m
each_of P (y ∷ xs) x all (inl same) = subst P same all.0
each_of P (y ∷ xs) x all (inr m) = each_of P xs x all.1 m

pub of_one : (v : Version) (R : Records) (undos : List SessionTxn) (counts : SlotCounts) → Claimed v R undos counts → (a : SessionTxn) → IsAmong a undos → (e : Rid × Image)
    → IsAmong e a.undo.images → befores_at e.0 undos ≡ befores_in e.0 a.undo.images
of_one v R undos counts k a m e among =
    lone_at (split undos a k.once m) e.0 (each_of (λ (e : Rid × Image). NoOthers undos a.txn e.0) a.undo.images e (k.owned a m) among)

pub in_bounds : (v : Version) (R : Records) (undos : List SessionTxn) (counts : SlotCounts) → Claimed v R undos counts → (p : PageId)
    → (4 * counts p + claims (slots_of R undos p (counts p)) ≤ page_room v) × (counts p ≤ slot_limit v)
in_bounds v R undos counts k p =
    let len = length-slots R undos p (counts p) in
    let room = (k.room p).room in
    (omega arith, omega (arith, slot_limit-fills v))
