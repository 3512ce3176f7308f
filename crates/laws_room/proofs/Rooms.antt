-- Each step keeps the room that slots claim.
use Rattle.std.proofs.Common.{◌≡◌, ◌≢◌, ⊎_elim, ◌<◌, ◌≤◌, ℕ, zero, suc, List, Option, [], ◌∷◌, ◌++◌, None, refl, sym, ap, subst, ◌∙◌, arith}
use Rattle.std.specs.Prelude.{All}
use Rattle.std.specs.FinMap.{get}
use Rattle.std.specs.List.{AllByRecursion}
use Rattle.std.proofs.lemmas.List.Sums.{sum_by-cons}
use Rattle.std.proofs.lemmas.List.Elements.{All-cons, All-head, All-tail, All-nil}
use Rattle.shore_types.specs.declared.ids.PageId.{PageId}
use Rattle.shore_types.specs.declared.ids.Rid.{Rid}
use Rattle.shore_types.specs.Images.{Image, image_len}
use Rattle.shore_types.specs.declared.versions.Version.{Version}
use Rattle.shore_model.specs.Records.{Records, put_image}
use Rattle.shore_page.specs.Room.{claims, Fits, HasRoom, HoldsItsImage, lowered}
use Rattle.shore_page.specs.Slots.{Slot, with_change, with_image}
use Rattle.shore_page.specs.Undo.{claiming_all, longest}
use Rattle.shore_page.proofs.RoomLemmas.{with_image_room}
use Rattle.shore_page.proofs.UndoLemmas.{change_claims, undo_claims, length-with_change}
use Rattle.laws_room.specs.Claims.{Claimed, Grows, NoOthers, SlotCounts, before_of, befores_in, slots_of, undecided_on}
use Rattle.laws_room.specs.Turns.{TurnsFit}
use Rattle.shore_model.specs.declared.rollbacks.Rollback.{Rollback}
use Rattle.laws_lives.specs.Sessions.{EachOnce, SessionTxn, with_undo}
use Rattle.laws_lives.specs.UndoLists.{UndoList, with_before_image}
use Rattle.laws_lives.specs.Views.{IsAmong}
use Rattle.laws_lives.proofs.Ids.{put_there}
use Rattle.laws_lives.proofs.Members.{among_with, txns_with}
use Rattle.laws_lives.proofs.Lists.{recursion-push, recursion-weaker}
use Rattle.laws_room.proofs.Lists.{append_empty, befores_push, not_empty}
use Rattle.laws_room.proofs.Pages.{all_but_last, back_same, changed_other, changed_page, its_slot, other_id, page_or_other, pushed_there, stands_there, undo_fits, undone_other, undone_page}

-- ---- claims lowered

lowered_holds : (v : Version) (bytes : ℕ) (s : Slot) → HoldsItsImage v s → (lowered bytes s).claim ≤ s.claim × HoldsItsImage v (lowered bytes s)
lowered_holds v bytes s h = (omega arith, (omega (arith, h.0), omega (arith, h.1)))

lower_each : (v : Version) (bytes : ℕ) (slots : List Slot) (i : ℕ) → All (HoldsItsImage v) slots
    → claims (with_change (lowered bytes) slots i) ≤ claims slots × All (HoldsItsImage v) (with_change (lowered bytes) slots i)
lower_each v bytes [] i each = (omega arith, All-nil (HoldsItsImage v))
lower_each v bytes (s ∷ slots) zero each =
    let here = lowered_holds v bytes s (All-head (HoldsItsImage v) s slots each) in (
      omega (arith, here.0, sum_by-cons (λ (s : Slot). s.claim) s slots, sum_by-cons (λ (s : Slot). s.claim) (lowered bytes s) slots),
      All-cons (HoldsItsImage v) (lowered bytes s) slots here.1 (All-tail (HoldsItsImage v) s slots each),
    )
lower_each v bytes (s ∷ slots) (suc i) each =
    let later = lower_each v bytes slots i (All-tail (HoldsItsImage v) s slots each) in (
      omega (arith, later.0, sum_by-cons (λ (s : Slot). s.claim) s slots, sum_by-cons (λ (s : Slot). s.claim) s (with_change (lowered bytes) slots i)),
      All-cons (HoldsItsImage v) s (with_change (lowered bytes) slots i) (All-head (HoldsItsImage v) s slots each) later.1,
    )

pub lower_room : (v : Version) (bytes : ℕ) (slots : List Slot) (i : ℕ) → HasRoom v slots → HasRoom v (with_change (lowered bytes) slots i)
lower_room v bytes slots i room =
    let l = lower_each v bytes slots i room.each in
    record { room = omega (arith, l.0, room.room, length-with_change (lowered bytes) slots i); each = l.1 }

-- ---- undo lists

-- nobody else has images of an id then either, if the new undo list brings none
pub no_others_with : (undos : List SessionTxn) (t : ℕ) (undo : UndoList) (u : ℕ) (id : Rid) → NoOthers undos u id → (t ≢ u → befores_in id undo.images ≡ [])
    → NoOthers (with_undo t undo undos) u id
no_others_with undos t undo u id none mine b m other =
    let o = among_with t undo b undos m in
    ⊎_elim
    (λ new. subst (λ (tr : UndoList). befores_in id tr.images ≡ []) (sym new.1) (mine (λ e. other (new.0 ∙ e))))
    (λ old. subst (λ (c : SessionTxn). befores_in id c.undo.images ≡ []) (sym old.1) (none o.was o.there (λ e. other (o.txn ∙ e))))
    o.one

module _ (v : Version) (R : Records) (undos : List SessionTxn) (counts : SlotCounts) (k : Claimed v R undos counts) (a : SessionTxn) (m : IsAmong a undos) where
  -- ---- a change

  module _ (id : Rid) (image : Image) (alone : NoOthers undos a.txn id) (fits : Fits v (slots_of R undos id.page (counts id.page)) id.slot (image_len image))
      (new : SlotCounts) (grows : Grows counts new id) where
    pub change_slots : slots_of (put_image R id image) (with_undo a.txn (with_before_image R a.undo id) undos) id.page (new id.page)
        ≡ with_image (slots_of R undos id.page (counts id.page)) id.slot image
    change_slots =
        ap claiming_all (changed_page v R undos counts k a m id image alone (new id.page) grows.here)
        ∙ sym (change_claims (undecided_on R undos id.page (counts id.page)) id.slot image)

    pub change_others : (p : PageId) → p ≢ id.page
        → slots_of (put_image R id image) (with_undo a.txn (with_before_image R a.undo id) undos) p (new p) ≡ slots_of R undos p (counts p)
    change_others p other =
        ap claiming_all (ap (undecided_on (put_image R id image) (with_undo a.txn (with_before_image R a.undo id) undos) p) (grows.others p other) ∙ changed_other v R undos counts k a m id image alone p (counts p) other)

    more : (p : PageId) → counts p ≤ new p
    more p =
        ⊎_elim (λ same. subst (λ q. counts q ≤ new q) (sym same) (let h = grows.here in omega arith)) (λ other. let h = grows.others p other in omega arith)
        (page_or_other p id.page)

    change_behind : (q : Rid) → new q.page ≤ q.slot → get (put_image R id image) q ≡ None
    change_behind q far =
        let le = more q.page in
        put_there R id image q (other_id q id (λ e. clash (subst (λ (q : Rid). new q.page ≤ q.slot) e far))) ∙ k.behind q (omega arith)
      where
        clash : new id.page ≤ id.slot → ⊥
        clash far = let h = grows.here in omega arith

    grown : (es : List (Rid × Image)) → AllByRecursion (λ e. e.0.slot < counts e.0.page) es → AllByRecursion (λ e. e.0.slot < new e.0.page) es
    grown es all = recursion-weaker (λ e. e.0.slot < counts e.0.page) (λ e. e.0.slot < new e.0.page) (λ e less. let le = more e.0.page in omega arith) es all

    change_within : (b : SessionTxn) → IsAmong b (with_undo a.txn (with_before_image R a.undo id) undos)
        → AllByRecursion (λ e. e.0.slot < new e.0.page) b.undo.images
    change_within b among =
        let o = among_with a.txn (with_before_image R a.undo id) b undos among in
        ⊎_elim
        (λ is. subst (λ (tr : UndoList). AllByRecursion (λ e. e.0.slot < new e.0.page) tr.images) (sym is.1)
        (recursion-push (λ e. e.0.slot < new e.0.page) a.undo.images (id, get R id) (grown a.undo.images (k.within a m)) (let h = grows.here in omega arith)))
        (λ old. subst (λ (c : SessionTxn). AllByRecursion (λ e. e.0.slot < new e.0.page) c.undo.images) (sym old.1) (grown o.was.undo.images (k.within o.was o.there)))
        o.one

    -- the others have images of other ids
    change_apart : (u : ℕ) (q : Rid) → NoOthers undos u q → (a.txn ≢ u → q ≢ id) → NoOthers (with_undo a.txn (with_before_image R a.undo id) undos) u q
    change_apart u q none apart =
        no_others_with undos a.txn (with_before_image R a.undo id) u q none
        (λ other. pushed_there q a.undo.images (id, get R id) (apart other) ∙ none a m other)

    change_owned : (b : SessionTxn) → IsAmong b (with_undo a.txn (with_before_image R a.undo id) undos)
        → AllByRecursion (λ e. NoOthers (with_undo a.txn (with_before_image R a.undo id) undos) b.txn e.0) b.undo.images
    change_owned b among =
        let o = among_with a.txn (with_before_image R a.undo id) b undos among in
        ⊎_elim
        (λ is.
        let mine : (q : Rid) → NoOthers undos a.txn q → NoOthers (with_undo a.txn (with_before_image R a.undo id) undos) b.txn q =
        λ q none. subst (λ t. NoOthers (with_undo a.txn (with_before_image R a.undo id) undos) t q) (sym is.0)
        (change_apart a.txn q none (λ other. absurd (other refl))) in
        subst (λ (tr : UndoList). AllByRecursion (λ e. NoOthers (with_undo a.txn (with_before_image R a.undo id) undos) b.txn e.0) tr.images) (sym is.1)
        (recursion-push (λ e. NoOthers (with_undo a.txn (with_before_image R a.undo id) undos) b.txn e.0) a.undo.images (id, get R id)
        (recursion-weaker (λ e. NoOthers undos a.txn e.0) (λ e. NoOthers (with_undo a.txn (with_before_image R a.undo id) undos) b.txn e.0) (λ e none. mine e.0 none) a.undo.images (k.owned a m))
        (mine id alone)))
        (λ old. other_owned b o.was o.there old.0 old.1)
        o.one
      where
        none_here : (es : List (Rid × Image)) → befores_in id es ≡ [] → AllByRecursion (λ e. e.0 ≢ id) es
        none_here [] none = tt
        none_here (e ∷ es) none =
            let parts = append_empty (befores_in id es) (before_of id e) none in
            (λ same. not_empty (sym (back_same e.0 e.1) ∙ ap (λ q. before_of q e) same ∙ parts.1), none_here es parts.0)

        both : (u : ℕ) (es : List (Rid × Image)) → AllByRecursion (λ e. NoOthers undos u e.0) es → AllByRecursion (λ e. e.0 ≢ id) es
            → AllByRecursion (λ e. NoOthers (with_undo a.txn (with_before_image R a.undo id) undos) u e.0) es
        both u [] owned apart = tt
        both u (e ∷ es) owned apart = (change_apart u e.0 owned.0 (λ _. apart.0), both u es owned.1 apart.1)

        other_owned : (b was : SessionTxn) → IsAmong was undos → b.txn ≢ a.txn → b ≡ was
            → AllByRecursion (λ e. NoOthers (with_undo a.txn (with_before_image R a.undo id) undos) b.txn e.0) b.undo.images
        other_owned b was among other is =
            subst (λ (c : SessionTxn). c.txn ≢ a.txn → AllByRecursion (λ e. NoOthers (with_undo a.txn (with_before_image R a.undo id) undos) c.txn e.0) c.undo.images) (sym is)
            (λ apart. both was.txn was.undo.images (k.owned was among) (none_here was.undo.images (alone was among apart))) other

    pub change_keeps : Claimed v (put_image R id image) (with_undo a.txn (with_before_image R a.undo id) undos) new
    change_keeps = record {
      room = λ p. ⊎_elim
          (λ same. subst (λ q. HasRoom v (slots_of (put_image R id image) (with_undo a.txn (with_before_image R a.undo id) undos) q (new q))) (sym same) (subst (HasRoom v) (sym change_slots) (with_image_room v (slots_of R undos id.page (counts id.page)) id.slot image (k.room id.page) fits)))
          (λ other. subst (HasRoom v) (sym (change_others p other)) (k.room p))
          (page_or_other p id.page);
      behind = change_behind;
      within = change_within;
      owned = change_owned;
      once = subst EachOnce (sym (txns_with a.txn (with_before_image R a.undo id) undos)) k.once;
    }

  -- ---- the newest image put back

  module _ (kept : List (Rid × Image)) (e : Rid × Image) (marks : List ℕ) (rolling : Option Rollback) (is : a.undo.images ≡ kept ++ e ∷ []) where
    abbrev fewer : UndoList
    fewer = record { images = kept; marks = marks; rolling = rolling }

    -- its claim falls to its record, and the longest image of its own that is left
    pub undo_slots : slots_of (put_image R e.0 e.1) (with_undo a.txn fewer undos) e.0.page (counts e.0.page)
        ≡ with_change (lowered (longest (befores_in e.0 kept))) (with_image (slots_of R undos e.0.page (counts e.0.page)) e.0.slot e.1) e.0.slot
    undo_slots =
        ap claiming_all (undone_page v R undos counts k a m kept e marks rolling is)
        ∙ sym (undo_claims (undecided_on R undos e.0.page (counts e.0.page)) e.0.slot (get R e.0) e.1 (befores_in e.0 kept) (stands_there v R undos counts k a m kept e marks rolling is))

    pub undo_others : (p : PageId) → p ≢ e.0.page → slots_of (put_image R e.0 e.1) (with_undo a.txn fewer undos) p (counts p) ≡ slots_of R undos p (counts p)
    undo_others p other = ap claiming_all (undone_other v R undos counts k a m kept e marks rolling is p (counts p) other)

    fewer_in : (q : Rid) → befores_in q a.undo.images ≡ [] → befores_in q kept ≡ []
    fewer_in q none = (append_empty (before_of q e) (befores_in q kept) (sym (befores_push q kept e) ∙ sym (ap (befores_in q) is) ∙ none)).1

    undo_none : (u : ℕ) (q : Rid) → NoOthers undos u q → NoOthers (with_undo a.txn fewer undos) u q
    undo_none u q none = no_others_with undos a.txn fewer u q none (λ other. fewer_in q (none a m other))

    pub undo_keeps : Claimed v (put_image R e.0 e.1) (with_undo a.txn fewer undos) counts
    undo_keeps = record {
      room = λ p. ⊎_elim
          (λ same. subst (λ q. HasRoom v (slots_of (put_image R e.0 e.1) (with_undo a.txn fewer undos) q (counts q))) (sym same)
          (subst (HasRoom v) (sym undo_slots) (lower_room v (longest (befores_in e.0 kept)) _ e.0.slot (with_image_room v (slots_of R undos e.0.page (counts e.0.page)) e.0.slot e.1 (k.room e.0.page) (undo_fits v R undos counts k a m kept e marks rolling is)))))
          (λ other. subst (HasRoom v) (sym (undo_others p other)) (k.room p))
          (page_or_other p e.0.page);
      behind = λ q far. put_there R e.0 e.1 q (other_id q e.0 (λ same. clash (subst (λ (q : Rid). counts q.page ≤ q.slot) same far))) ∙ k.behind q far;
      within = λ b among.
          let o = among_with a.txn fewer b undos among in
          ⊎_elim
          (λ new. subst (λ (tr : UndoList). AllByRecursion (λ e. e.0.slot < counts e.0.page) tr.images) (sym new.1)
          (all_but_last v R undos counts k a m kept e marks rolling is (λ e. e.0.slot < counts e.0.page) kept (subst (AllByRecursion (λ e. e.0.slot < counts e.0.page)) is (k.within a m))))
          (λ old. subst (λ (c : SessionTxn). AllByRecursion (λ e. e.0.slot < counts e.0.page) c.undo.images) (sym old.1) (k.within o.was o.there))
          o.one;
      owned = λ b among.
          let o = among_with a.txn fewer b undos among in
          let weaker : (u : ℕ) (es : List (Rid × Image)) → AllByRecursion (λ e. NoOthers undos u e.0) es → AllByRecursion
          (λ e. NoOthers (with_undo a.txn fewer undos) u e.0) es =
          λ u es all. recursion-weaker (λ e. NoOthers undos u e.0) (λ e. NoOthers (with_undo a.txn fewer undos) u e.0)
          (λ e none. undo_none u e.0 none) es all in
          ⊎_elim
          (λ new. subst (λ t. AllByRecursion (λ e. NoOthers (with_undo a.txn fewer undos) t e.0) b.undo.images) (sym new.0)
          (subst (λ (tr : UndoList). AllByRecursion (λ e. NoOthers (with_undo a.txn fewer undos) a.txn e.0) tr.images) (sym new.1)
          (weaker a.txn kept (all_but_last v R undos counts k a m kept e marks rolling is (λ e. NoOthers undos a.txn e.0) kept (subst (AllByRecursion (λ e. NoOthers undos a.txn e.0)) is (k.owned a m))))))
          (λ old. subst (λ (c : SessionTxn). AllByRecursion (λ e. NoOthers (with_undo a.txn fewer undos) c.txn e.0) c.undo.images) (sym old.1) (weaker o.was.txn o.was.undo.images (k.owned o.was o.there)))
          o.one;
      once = subst EachOnce (sym (txns_with a.txn fewer undos)) k.once;
    }
      where
        clash : counts e.0.page ≤ e.0.slot → ⊥
        clash far = let less = its_slot v R undos counts k a m kept e marks rolling is in omega arith

-- ---- rollbacks in turns

pub turns_fit : (v : Version) (R : Records) (undos : List SessionTxn) (counts : SlotCounts) (turns : List ℕ) → Claimed v R undos counts → TurnsFit v R undos counts turns
turns_fit v R undos counts [] k = tt
turns_fit v R undos counts (t ∷ turns) k = λ a kept e marks rolling m txn is. (
  undo_fits v R undos counts k a m kept e marks rolling is,
  subst (λ t. TurnsFit v (put_image R e.0 e.1) (with_undo t record { images = kept; marks = marks; rolling = rolling } undos) counts turns) txn
      (turns_fit v (put_image R e.0 e.1) (with_undo a.txn record { images = kept; marks = marks; rolling = rolling } undos) counts turns (undo_keeps v R undos counts k a m kept e marks rolling is)),
)
