-- What a table of many transactions tells of a page claims what its undo lists do.
use Rattle.std.proofs.Common.{◌≡◌, ◌<◌, ◌++◌, ℕ, List, [], ◌∷◌, length, map, refl, sym, ap, subst, ◌∙◌, inl, inr, arith}
use Rattle.std.specs.List.{AllByRecursion}
use Rattle.std.proofs.lemmas.List.{length-map}
use Rattle.shore_types.specs.declared.ids.PageId.{PageId}
use Rattle.shore_types.specs.Versions.{slot_limit-fills}
use Rattle.shore_types.specs.declared.versions.Version.{Version}
use Rattle.shore_model.specs.Records.{Records}
use Rattle.shore_page.specs.Claims.{AreThere, FitIn, claimed_by}
use Rattle.shore_page.specs.Room.{HasRoom, raised}
use Rattle.shore_page.specs.Slots.{Slot, settled, with_change}
use Rattle.shore_page.specs.Text as text
use Rattle.shore_page.proofs.Fitting.{fit_in_room}
use Rattle.laws_lives.specs.Sessions.{SessionTxn, without_txn}
use Rattle.laws_lives.specs.Views.{IsAmong}
use Rattle.laws_room.specs.Claims.{Claimed, SlotCounts, slots_of}
use Rattle.laws_room.specs.Settling.{let_go, reserved_for, reserved_for_all, settled_slots}
use Rattle.laws_room.proofs.Fetching.{fetched}
use Rattle.laws_room.proofs.Leaving.{left_keeps, left_slots}
use Rattle.laws_room.proofs.Pages.{length-slots}
use Rattle.shore_txn.specs.ActiveTxns.{HasMore, all_changes, session_txns}
use Rattle.shore_txn.specs.Txns.{as_session_txn, entries_of}
use Rattle.shore_txn.specs.UndoEntries.{claims_on, images_of}
use Rattle.shore_txn.specs.declared.txn.Txn.{Txn}
use Rattle.shore_txn.proofs.ClaimLemmas.{claims_append}
use Rattle.shore_txn.proofs.KeptLemmas.{read_slots, told_reserved, told_there}

pub claimed_join : (xs ys : List (ℕ × ℕ)) (slots : List Slot) → claimed_by (xs ++ ys) slots ≡ claimed_by xs (claimed_by ys slots)
claimed_join [] ys slots = refl
claimed_join (c ∷ xs) ys slots = ap (λ (l : List Slot). with_change (raised c.1) l c.0) (claimed_join xs ys slots)

pub claims_told : (ts : List Txn) (p : PageId) (slots : List Slot) → claimed_by (claims_on p (all_changes ts)) slots ≡ reserved_for_all p (session_txns ts) slots
claims_told [] p slots = refl
claims_told (t ∷ older) p slots =
    ap (λ kept. claimed_by kept slots) (claims_append p (all_changes older) (entries_of t)) ∙ claimed_join (claims_on p (all_changes older)) (claims_on p (entries_of t)) slots
    ∙ ap (claimed_by (claims_on p (all_changes older))) (told_reserved p (entries_of t) slots) ∙ claims_told older p (reserved_for p (images_of (entries_of t)) slots)

pub no_more : {A : Type 0} (more old new : List A) → HasMore more old new → more ≡ [] → new ≡ old
no_more more old new has none = has.is ∙ ap (λ l. has.front ++ (l ++ has.back)) none ∙ sym has.was

-- ---- a page that was read

there_join : (n : ℕ) (xs ys : List (ℕ × ℕ)) → AreThere n xs → AreThere n ys → AreThere n (xs ++ ys)
there_join n [] ys first rest = rest
there_join n (c ∷ xs) ys first rest = (first.0, there_join n xs ys first.1 rest)

changes_there : (counts : SlotCounts) (p : PageId) (ts : List Txn) → ((a : SessionTxn) → IsAmong a (session_txns ts) → AllByRecursion (λ e. e.0.slot < counts e.0.page) a.undo.images)
    → AreThere (counts p) (claims_on p (all_changes ts))
changes_there counts p [] within = tt
changes_there counts p (t ∷ older) within =
    subst (AreThere (counts p)) (sym (claims_append p (all_changes older) (entries_of t)))
    (there_join (counts p) (claims_on p (all_changes older)) (claims_on p (entries_of t)) (changes_there counts p older (λ a m. within a (inr m))) (told_there counts p (entries_of t) (within (as_session_txn t) (inl refl))))

module _ (v : Version) (ts : List Txn) (R : Records) (counts : SlotCounts) (p : PageId) (claimed : Claimed v R (session_txns ts) counts) where
  abbrev undos : List SessionTxn
  undos = session_txns ts

  abbrev slots : List Slot
  slots = slots_of R undos p (counts p)

  abbrev kept : List (ℕ × ℕ)
  kept = claims_on p (all_changes ts)

  pub claims_back : slots ≡ claimed_by kept (settled_slots R p (counts p))
  claims_back = sym (claims_told ts p (settled_slots R p (counts p)) ∙ fetched v R undos counts claimed p)

  pub back_again : slots ≡ claimed_by kept (map settled (text.images_of slots))
  back_again = claims_back ∙ ap (claimed_by kept) (sym (read_slots R undos p (counts p)))

  images_long : length (text.images_of slots) ≡ counts p
  images_long = length-map slots (λ (s : Slot). s.image) ∙ length-slots R undos p (counts p)

  pub fit_again : FitIn v kept (map settled (text.images_of slots))
  fit_again =
      let room : HasRoom v slots = claimed.room p in
      let all : length (map settled (text.images_of slots)) ≡ counts p = length-map (text.images_of slots) settled ∙ images_long in
      fit_in_room v kept (text.images_of slots) (let r = room.room in omega (arith, r, slot_limit-fills v, length-slots R undos p (counts p), images_long))
      (subst (λ (n : ℕ). AreThere n kept) (sym all) (changes_there counts p ts claimed.within))
      (subst (HasRoom v) back_again room)

  pub fit_read : FitIn v kept (settled_slots R p (counts p))
  fit_read = subst (FitIn v kept) (read_slots R undos p (counts p)) fit_again

-- ---- once one is taken out

module _ (v : Version) (old new : List Txn) (R : Records) (counts : SlotCounts) (a : SessionTxn) (claimed : Claimed v R (session_txns old) counts) (m : IsAmong a (session_txns old)) (out : session_txns new ≡ without_txn a.txn (session_txns old)) where
  still_claimed : Claimed v R (session_txns new) counts
  still_claimed = subst (λ undos. Claimed v R undos counts) (sym out) (left_keeps v R (session_txns old) counts claimed a m)

  -- slots that let its claims go are as those of the page when it is read again, with the claims that are left
  pub left_read : (p : PageId) → let_go p a.undo.images (slots_of R (session_txns old) p (counts p)) ≡ claimed_by (claims_on p (all_changes new)) (map settled (text.images_of (slots_of R (session_txns old) p (counts p))))
  left_read p =
      sym (left_slots v R (session_txns old) counts claimed a m p) ∙ ap (λ undos. slots_of R undos p (counts p)) (sym out)
      ∙ claims_back v new R counts p still_claimed ∙ ap (claimed_by (claims_on p (all_changes new))) (sym (read_slots R (session_txns old) p (counts p)))

  pub left_fit : (p : PageId) → FitIn v (claims_on p (all_changes new)) (map settled (text.images_of (slots_of R (session_txns old) p (counts p))))
  left_fit p = subst (FitIn v (claims_on p (all_changes new))) (sym (read_slots R (session_txns old) p (counts p))) (fit_read v new R counts p still_claimed)
