-- Claims while nothing is undecided, and in a table with one transaction.
use Rattle.std.proofs.Common.{◌≡◌, inl, inr, ◌≤◌, ℕ, max, List, [], ◌∷◌, None, cond, refl, sym, ap, subst, ◌∙◌, arith}
use Rattle.std.specs.Prelude.{not}
use Rattle.std.specs.FinMap.{get}
use Rattle.std.proofs.lemmas.Bool.{eq-eqb}
use Rattle.shore_types.specs.Images.{Image, image_len}
use Rattle.shore_types.specs.declared.ids.PageId.{PageId}
use Rattle.shore_types.specs.declared.ids.Rid.{Rid}
use Rattle.shore_types.specs.declared.versions.Version.{Version}
use Rattle.shore_model.specs.Records.{Records}
use Rattle.shore_page.specs.Room.{HasRoom}
use Rattle.shore_page.specs.Slots.{Slot, settled}
use Rattle.shore_page.specs.Undo.{claiming}
use Rattle.laws_room.specs.Claims.{Claimed, NoOthers, SlotCounts, rid_on, slots_of, undecided_at}
use Rattle.laws_room.specs.Settling.{let_go, settled_slots}
use Rattle.laws_lives.specs.Sessions.{SessionTxn, without_txn}
use Rattle.laws_room.proofs.Leaving.{left_keeps, left_slots, map_each}
use Rattle.laws_room.proofs.Lists.{each_alike}

-- with nothing undecided each slot claims what its record takes
pub claims_settled : (R : Records) (p : PageId) (n : ℕ) → settled_slots R p n ≡ slots_of R [] p n
claims_settled R p n =
    each_alike (λ i. settled (get R (rid_on p i))) (λ i. claiming (undecided_at R [] (rid_on p i))) 0 n
    (λ i ge less. ap (slot (get R (rid_on p i))) (bare (image_len (get R (rid_on p i)))))
    ∙ sym (map_each claiming (λ i. undecided_at R [] (rid_on p i)) 0 n)
  where
    slot : Image → ℕ → Slot
    slot image n = record { image = image; claim = n }

    bare : (n : ℕ) → n ≡ max n 0
    bare n = omega arith

-- pages with room for their records, while nothing is undecided
pub opens_claimed : (v : Version) (R : Records) (counts : SlotCounts) → ((p : PageId) → HasRoom v (settled_slots R p (counts p)))
    → ((id : Rid) → counts id.page ≤ id.slot → get R id ≡ None) → Claimed v R [] counts
opens_claimed v R counts room behind = record {
  room = λ p. subst (HasRoom v) (claims_settled R p (counts p)) (room p);
  behind = behind;
  within = λ a m. absurd m;
  owned = λ a m. absurd m;
  once = tt;
}

-- a table with one transaction
pub one_alone : (a : SessionTxn) (id : Rid) → NoOthers (a ∷ []) a.txn id
one_alone a id b (inl same) other = absurd (other (ap (λ (c : SessionTxn). c.txn) (sym same)))
one_alone a id b (inr none) other = absurd none

pub one_leaves : (a : SessionTxn) → without_txn a.txn (a ∷ []) ≡ []
one_leaves a = ap (λ b. cond (not b) (a ∷ []) []) (eq-eqb a.txn a.txn refl)

pub one_decided : (v : Version) (R : Records) (counts : SlotCounts) (a : SessionTxn) → Claimed v R (a ∷ []) counts
    → Claimed v R [] counts × ((p : PageId) → let_go p a.undo.images (slots_of R (a ∷ []) p (counts p)) ≡ settled_slots R p (counts p))
one_decided v R counts a k = (
  subst (λ (undos : List SessionTxn). Claimed v R undos counts) (one_leaves a) (left_keeps v R (a ∷ []) counts k a (inl refl)),
  λ p. sym (claims_settled R p (counts p) ∙ ap (λ (undos : List SessionTxn). slots_of R undos p (counts p)) (sym (one_leaves a)) ∙ left_slots v R (a ∷ []) counts k a (inl refl) p),
)
