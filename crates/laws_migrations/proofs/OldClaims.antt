-- What the slots of an old log claim: enough for what is committed there, and for what stands there.
use Rattle.std.proofs.Common.{◌≡◌, inl, inr, ⊎_elim, ◌<◌, ◌≤◌, ℕ, max, List, [], ◌∷◌, true, cond, Option, Some, None, sym, subst, ◌∙◌, map, arith}
use Rattle.std.specs.FinMap.{get}
use Rattle.std.specs.List.{AllByRecursion}
use Rattle.std.specs.Ordering.{eq_by_cmp}
use Rattle.std.proofs.lemmas.Bool.{cases_Bool}
use Rattle.std.proofs.lemmas.List.Elements.{recursion_from_All}
use Rattle.shore_types.specs.Ids.{rid_cmp}
use Rattle.shore_types.specs.Images.{Image, image_len}
use Rattle.shore_types.specs.Layout.{HasSlot}
use Rattle.shore_types.specs.declared.ids.Rid.{Rid}
use Rattle.shore_types.specs.declared.layout.Geometry.{Geometry}
use Rattle.shore_model.specs.declared.log_records.LogRecord.{LogRecord}
use Rattle.shore_model.specs.declared.unanswered_changes.UnansweredChange.{UnansweredChange}
use Rattle.shore_model.specs.Logs.{Lawful, has, image_of_record, unanswered}
use Rattle.shore_analysis.specs.Meant.{IsInBounds}
use Rattle.shore_page.specs.Undo.{longest}
use Rattle.laws_lives.specs.Sessions.{SessionTxn}
use Rattle.laws_lives.specs.Undo.{HasNoLosers}
use Rattle.laws_lives.specs.Views.{IsAmong}
use Rattle.laws_lives.specs.Writers.{HasOneWriterAtMost, HasWriter, changes_id, image_committed, image_undone}
use Rattle.laws_lives.proofs.Lists.{recursion-weaker}
use Rattle.laws_lives.proofs.Members.{txn_of_one}
use Rattle.laws_lives.proofs.OneMore.{same_id}
use Rattle.laws_lives.proofs.UndoEnds.{writers_in_doubt}
use Rattle.laws_lives.proofs.Writers.{one_writer_at_most}
use Rattle.laws_room.proofs.Fetching.{its_longest, longest_of_all}
use Rattle.laws_room.specs.Claims.{befores_at, befores_in}
use Rattle.laws_runs.proofs.Opens.{records_inside}
use Rattle.laws_runs.specs.RoomyLogs.{IsPlacedLog}
use Rattle.laws_runs.specs.SlotCounts.{slot_count}
use Rattle.laws_migrations.proofs.LoggedChanges.{changed_inside, none_or_slot, slot_there}
use Rattle.laws_migrations.proofs.UndoneClaims.{each_reversed, old_claim}

none_some : {bytes : List ℕ} → ◌≡◌ {A = Option (List ℕ)} None (Some bytes) → ⊥
none_some e = cc

-- undo of some changes leaves what was there, or what one of them overwrote
undone_within : (n : ℕ) (id : Rid) (cs : List UnansweredChange) (image : Image) → image_len image ≤ n → AllByRecursion (λ c. c.id ≡ id → image_len c.before ≤ n) cs
    → image_len (image_undone image id cs) ≤ n
undone_within n id [] image le h = le
undone_within n id (c ∷ cs) image le h =
    undone_within n id cs (cond (eq_by_cmp rid_cmp id c.id) c.before image)
    (⊎_elim
    (λ is. subst (λ b. image_len (cond b c.before image) ≤ n) (sym is) (h.0 (sym (same_id id c.id is))))
    (λ off. subst (λ b. image_len (cond b c.before image) ≤ n) (sym off) le)
    (cases_Bool (eq_by_cmp rid_cmp id c.id)))
    h.1

unmapped : (P : Rid × Image → Type 0) (cs : List UnansweredChange) → AllByRecursion P (map (λ (c : UnansweredChange). (c.id, c.before)) cs) → AllByRecursion (λ c. P (c.id, c.before)) cs
unmapped P [] h = tt
unmapped P (c ∷ cs) h = (h.0, unmapped P cs h.1)

module _ (g : Geometry) (old : List LogRecord) (lawful : Lawful old) (no_losers : HasNoLosers old) (k : IsPlacedLog g old) where
  abbrev pub claim : Rid → ℕ
  claim id = old_claim k.records k.undos (slot_count old) id

  inside : AllByRecursion (IsInBounds g) old
  inside = recursion_from_All (IsInBounds g) old k.inside

  pub stands_claimed : (id : Rid) → image_len (image_of_record old id) ≤ claim id
  stands_claimed id = subst (λ image. image_len image ≤ claim id) (k.shown id) (most (image_len (get k.records id)) (longest (befores_at id k.undos)))
    where
      most : (a b : ℕ) → a ≤ max a b
      most a b = omega arith

  -- what a transaction that is not decided could put back
  backs_claimed : (a : SessionTxn) → IsAmong a k.undos → AllByRecursion (λ e. image_len e.1 ≤ claim e.0) a.undo.images
  backs_claimed a m =
      recursion-weaker (λ e. image_len e.1 ≤ longest (befores_in e.0 a.undo.images)) (λ e. image_len e.1 ≤ claim e.0)
      (λ e le. over (image_len e.1) (longest (befores_in e.0 a.undo.images)) (longest (befores_at e.0 k.undos)) (image_len (get k.records e.0)) le (longest_of_all e.0 k.undos a m))
      a.undo.images (its_longest a.undo.images)
    where
      over : (l m n k : ℕ) → l ≤ m → m ≤ n → l ≤ max k n
      over l m n k a b = omega (arith, a, b)

  writer_claimed : (id : Rid) (u : ℕ) → HasWriter old id u → image_len (image_committed old id) ≤ claim id
  writer_claimed id u w =
      let doubt = writers_in_doubt old lawful no_losers u id w.changed w.not_over in
      let a = txn_of_one u k.undos (k.undecided.every u (inr doubt)) in
      let matches = (k.undecided.each a.0 a.1).1 in
      let all = unmapped (λ e. image_len e.1 ≤ claim e.0) (unanswered a.0.txn old)
      (subst (AllByRecursion (λ (e : Rid × Image). image_len e.1 ≤ claim e.0)) (sym matches) (each_reversed (λ e. image_len e.1 ≤ claim e.0) a.0.undo.images (backs_claimed a.0 a.1))) in
      subst (λ image. image_len image ≤ claim id) w.undoes
      (undone_within (claim id) id (unanswered u old) (image_of_record old id) (stands_claimed id)
      (recursion-weaker (λ c. image_len c.before ≤ claim c.id) (λ c. c.id ≡ id → image_len c.before ≤ claim id) (λ c le same. subst (λ q. image_len c.before ≤ claim q) same le) (unanswered u old)
      (subst (λ v. AllByRecursion (λ (c : UnansweredChange). image_len c.before ≤ claim c.id) (unanswered v old)) a.2 all)))

  pub committed_claimed : (id : Rid) → image_len (image_committed old id) ≤ claim id
  committed_claimed id = by (one_writer_at_most old lawful id)
    where
      by : HasOneWriterAtMost old id → image_len (image_committed old id) ≤ claim id
      by (inl none) = subst (λ image. image_len image ≤ claim id) none.image (stands_claimed id)
      by (inr w) = writer_claimed id w.0 w.1

  -- a record that is committed lies in the geometry, and its page has its slot
  pub committed_inside : (id : Rid) (bytes : List ℕ) → image_committed old id ≡ Some bytes → HasSlot g id × (id.slot < slot_count old id.page)
  committed_inside id bytes is = by (one_writer_at_most old lawful id)
    where
      by : HasOneWriterAtMost old id → HasSlot g id × (id.slot < slot_count old id.page)
      by (inl none) =
          let stands : image_of_record old id ≡ Some bytes = none.image ∙ is in (
            (records_inside g old k.records k k.shown id bytes (k.shown id ∙ stands)).0,
            ⊎_elim (λ empty. absurd (none_some (sym empty ∙ stands))) (λ less. less) (none_or_slot id old),
          )
      by (inr w) = (changed_inside g id w.0 old inside w.1.changed, slot_there id w.0 old w.1.changed)

  -- so does what one in doubt has changed
  pub changed_lies : (id : Rid) (u : ℕ) → has (changes_id id) u old ≡ true → HasSlot g id × (id.slot < slot_count old id.page)
  changed_lies id u h = (changed_inside g id u old inside h, slot_there id u old h)
