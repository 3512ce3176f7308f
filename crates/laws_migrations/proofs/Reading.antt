-- What is read of an old log may be migrated, and the new log tells the same.
use Rattle.std.proofs.Common.{◌≡◌, ◌≢◌, ◌⊎◌, inl, inr, ⊎_elim, ◌<◌, ℕ, List, [], ◌∷◌, true, false, cond, refl, sym, ap, subst, ◌∙◌, map}
use Rattle.std.specs.List.{AllByRecursion, filter_map}
use Rattle.std.specs.Ordering.{eq_by_cmp}
use Rattle.std.proofs.lemmas.Bool.{cases_Bool, true≢false}
use Rattle.shore_types.specs.Ids.{rid_cmp}
use Rattle.shore_types.specs.Images.{Image}
use Rattle.shore_types.specs.declared.ids.Rid.{Rid}
use Rattle.shore_model.specs.declared.log_records.LogRecord.{LogRecord}
use Rattle.shore_model.specs.Logs.{Lawful, LiesUnder, has, image_of_record, is_in_doubt, is_over, is_prepare}
use Rattle.laws_lives.specs.Doubts.{LoggedDoubt, doubt_of, doubts_in}
use Rattle.laws_lives.specs.LogTells.{records_committed}
use Rattle.laws_lives.specs.Sessions.{EachOnce}
use Rattle.laws_lives.specs.Undo.{HasNoLosers}
use Rattle.laws_lives.specs.Views.{IsAmong}
use Rattle.laws_lives.specs.Writers.{HasOneWriterAtMost, changes_id, image_committed}
use Rattle.laws_lives.proofs.DoubtOpenings.{doubts_lie_under}
use Rattle.laws_lives.proofs.DoubtRecords.{among_filter, doubt_has_prepare}
use Rattle.laws_lives.proofs.DoubtsShown.{doubts_once}
use Rattle.laws_lives.proofs.LawfulPrepares.{one_passing, prepared_is_one}
use Rattle.laws_lives.proofs.Lists.{among_map, mapped_one, recursion-at, recursion-weaker}
use Rattle.laws_lives.proofs.OneMore.{id_itself, same_id}
use Rattle.laws_lives.proofs.UndoEnds.{writers_in_doubt}
use Rattle.laws_lives.proofs.Writers.{one_writer_at_most}
use Rattle.laws_lives.proofs.WritersTold.{doubt_not_over}
use Rattle.laws_migrations.proofs.DoubtsThere.{doubt_there}
use Rattle.laws_migrations.specs.MigratedLogs.{AreApart, EachApart, IsElsewhere, IsMigratable, IsRead, IsReadOf, MigratedDoubt, Written, as_logged, migrated_work, with_records}
use Rattle.laws_migrations.proofs.Writing.{elsewhere_same, image_over}
use Rattle.laws_migrations.proofs.Migrating.{HasDoubts, images_over, migrated}
use Rattle.laws_migrations.proofs.Inserting.{has_inserted}
use Rattle.laws_migrations.proofs.Writers.{one_writer}

-- ---- among the ids

-- the id is one of these, or none of them
is_there : (id : Rid) (ws : List Written) → ((w : Written) × IsAmong w ws × (w.id ≡ id)) ⊎ IsElsewhere id ws
is_there id [] = inr tt
is_there id (w ∷ ws) = ⊎_elim
    (λ here. inl (w, inl refl, sym (same_id id w.id here)))
    (λ off. ⊎_elim
    (λ later. inl (later.0, inr later.1, later.2))
    (λ none. inr ((λ e. true≢false (sym (id_itself id) ∙ ap (eq_by_cmp rid_cmp id) (sym e) ∙ off)), none))
    (is_there id ws))
    (cases_Bool (eq_by_cmp rid_cmp id w.id))

pub each_of : {A : Type 0} (P : A → Type 0) (xs : List A) (x : A) → AllByRecursion P xs → IsAmong x xs → P x
each_of P [] x h a = absurd a
each_of P (y ∷ ys) x h (inl e) = subst P e h.0
each_of P (y ∷ ys) x h (inr later) = each_of P ys x h.1 later

module _ (old : List LogRecord) (lawful : Lawful old) (t : ℕ) (doubts : List MigratedDoubt) (read : IsRead old t doubts) where
  -- ---- one in doubt

  module _ (d : MigratedDoubt) (among : IsAmong d doubts) where
    own : IsReadOf old d
    own = each_of (IsReadOf old) doubts d read.reads among

    found : IsAmong (as_logged d) (doubts_in old)
    found = subst (IsAmong (as_logged d)) read.listed (among_map as_logged d doubts among)

    prepared : has is_prepare d.txn old ≡ true
    prepared = doubt_has_prepare (as_logged d) old (among_filter (λ (e : LoggedDoubt). is_in_doubt e.txn old) (as_logged d) (filter_map doubt_of old) found).0

    pub in_doubt : is_in_doubt d.txn old ≡ true
    in_doubt = (among_filter (λ (e : LoggedDoubt). is_in_doubt e.txn old) (as_logged d) (filter_map doubt_of old) found).1

    not_over : is_over d.txn old ≡ false
    not_over = doubt_not_over old lawful d.txn in_doubt

    below : d.txn < t
    below = let one = one_passing is_prepare d.txn old prepared in subst (λ u. u < t) one.own (recursion-at (λ r. r.txn < t) old one.at one.found read.above one.here)

    pub migratable : IsMigratable (image_committed old) t d
    migratable = record {
      some = prepared_is_one old lawful d.txn prepared;
      below = below;
      once = own.once;
      before = recursion-weaker _ (λ w. w.before ≡ image_committed old w.id) (λ w h. h.1) d.writes own.each;
      under = recursion-weaker (λ w. (has (changes_id w.id) d.txn old ≡ true) × (w.before ≡ image_committed old w.id) × (w.after ≡ image_of_record old w.id))
          (λ w. LiesUnder d.granules w.id) (λ w h. doubts_lie_under old lawful (as_logged d) w.id (among_filter (λ (e : LoggedDoubt). is_in_doubt e.txn old) (as_logged d) (filter_map doubt_of old) found).0 in_doubt h.0) d.writes own.each;
    }

  pub all_migratable : (ds : List MigratedDoubt) → ((d : MigratedDoubt) → IsAmong d ds → IsAmong d doubts) → AllByRecursion (IsMigratable (image_committed old) t) ds
  all_migratable [] into = tt
  all_migratable (d ∷ ds) into = (migratable d (into d (inl refl)), all_migratable ds (λ e later. into e (inr later)))

  -- ---- two of them

  changed : (d : MigratedDoubt) (a : IsAmong d doubts) (w : Written) → IsAmong w d.writes → has (changes_id w.id) d.txn old ≡ true
  changed d a w b = (each_of (λ w. (has (changes_id w.id) d.txn old ≡ true) × (w.before ≡ image_committed old w.id) × (w.after ≡ image_of_record old w.id)) d.writes w (own d a).each b).0

  two_apart : (d e : MigratedDoubt) → IsAmong d doubts → IsAmong e doubts → d.txn ≢ e.txn → AreApart d e
  two_apart d e a b other = record { txns = other; ids = all_ids e.writes (λ w c. c) }
    where
      one_id : (w : Written) → IsAmong w e.writes → (vs : List Written) → ((v : Written) → IsAmong v vs → IsAmong v d.writes) → IsElsewhere w.id vs
      one_id w c [] into = tt
      one_id w c (v ∷ vs) into = (
        (λ same. other (one_writer old w.id d.txn e.txn (ap (λ id. has (changes_id id) d.txn old) (sym same) ∙ changed d a v (into v (inl refl))) (not_over d a) (changed e b w c) (not_over e b) (one_writer_at_most old lawful w.id))),
        one_id w c vs (λ x later. into x (inr later)),
      )

      all_ids : (ws : List Written) → ((w : Written) → IsAmong w ws → IsAmong w e.writes) → AllByRecursion (λ w. IsElsewhere w.id d.writes) ws
      all_ids [] into = tt
      all_ids (w ∷ ws) into = (one_id w (into w (inl refl)) d.writes (λ v h. h), all_ids ws (λ x later. into x (inr later)))

  abbrev txns : List MigratedDoubt → List ℕ
  txns ds = map (λ (e : LoggedDoubt). e.txn) (map as_logged ds)

  from_first : (d : MigratedDoubt) (ds : List MigratedDoubt) → IsAmong d doubts → ((e : MigratedDoubt) → IsAmong e ds → IsAmong e doubts) → (IsAmong d.txn (txns ds) → ⊥) → AllByRecursion (AreApart d) ds
  from_first d [] a into none = tt
  from_first d (e ∷ ds) a into none = (two_apart d e a (into e (inl refl)) (λ same. none (inl (sym same))), from_first d ds a (λ f later. into f (inr later)) (λ later. none (inr later)))

  all_apart : (ds : List MigratedDoubt) → ((d : MigratedDoubt) → IsAmong d ds → IsAmong d doubts) → EachOnce (txns ds) → EachApart ds
  all_apart [] into once = tt
  all_apart (d ∷ ds) into once = (from_first d ds (into d (inl refl)) (λ e later. into e (inr later)) once.0, all_apart ds (λ e later. into e (inr later)) once.1)

  pub each_apart : EachApart doubts
  each_apart = all_apart doubts (λ d a. a) (subst (λ (ds : List LoggedDoubt). EachOnce (map (λ e. e.txn) ds)) (sym read.listed) (doubts_once old lawful))

  abbrev may : AllByRecursion (IsMigratable (image_committed old) t) doubts
  may = all_migratable doubts (λ d a. a)

  -- ---- what is told

  abbrev work : List LogRecord
  work = migrated_work t (records_committed old) doubts

  k : HasDoubts (with_records t (records_committed old)) work doubts
  k = migrated t (records_committed old) read.some doubts may each_apart

  module _ (no_losers : HasNoLosers old) (id : Rid) where
    -- one has it among its ids, or none has
    abbrev HasOne : List MigratedDoubt → Type 0
    HasOne ds = (d : MigratedDoubt) × (w : Written) × IsAmong d ds × IsAmong w d.writes × (w.id ≡ id)

    one_or_none : (ds : List MigratedDoubt) → HasOne ds ⊎ AllByRecursion (λ d. IsElsewhere id d.writes) ds
    one_or_none [] = inr tt
    one_or_none (d ∷ ds) = ⊎_elim
        (λ one. inl (d, one.0, inl refl, one.1, one.2))
        (λ off. ⊎_elim (λ later. inl (later.0, later.1, inr later.2, later.3, later.4)) (λ none. inr (off, none)) (one_or_none ds))
        (is_there id d.writes)

    none_leaves : (ds : List MigratedDoubt) → AllByRecursion (λ d. IsElsewhere id d.writes) ds → (image : Image) → images_over ds id image ≡ image
    none_leaves [] h image = refl
    none_leaves (d ∷ ds) h image = ap (images_over ds id) (elsewhere_same id d.writes h.0 image) ∙ none_leaves ds h.1 image

    -- whoever writes there leaves what stands there
    abbrev AreRight : List Written → Type 0
    AreRight ws = AllByRecursion (λ w. w.id ≡ id → w.after ≡ image_of_record old id) ws

    right_over : (ws : List Written) → AreRight ws → (image : Image) → (image ≡ image_of_record old id) ⊎ ((w : Written) × IsAmong w ws × (w.id ≡ id)) → image_over ws id image ≡ image_of_record old id
    right_over [] right image (inl e) = e
    right_over [] right image (inr none) = absurd none.1
    right_over (w ∷ ws) right image h = ⊎_elim
        (λ here. ap (λ b. image_over ws id (cond b w.after image)) here ∙ right_over ws right.1 w.after (inl (right.0 (sym (same_id id w.id here)))))
        (λ off. ap (λ b. image_over ws id (cond b w.after image)) off ∙ right_over ws right.1 image (fewer off h))
        (cases_Bool (eq_by_cmp rid_cmp id w.id))
      where
        fewer : eq_by_cmp rid_cmp id w.id ≡ false → (image ≡ image_of_record old id) ⊎ ((v : Written) × IsAmong v (w ∷ ws) × (v.id ≡ id)) → (image ≡ image_of_record old id) ⊎ ((v : Written) × IsAmong v ws × (v.id ≡ id))
        fewer off (inl e) = inl e
        fewer off (inr (v, inl same, is)) = absurd (true≢false (sym (id_itself id) ∙ ap (eq_by_cmp rid_cmp id) (sym (ap (λ (x : Written). x.id) same ∙ is)) ∙ off))
        fewer off (inr (v, inr later, is)) = inr (v, later, is)

    are_right : (d : MigratedDoubt) → IsAmong d doubts → AreRight d.writes
    are_right d a = recursion-weaker (λ w. (has (changes_id w.id) d.txn old ≡ true) × (w.before ≡ image_committed old w.id) × (w.after ≡ image_of_record old w.id))
        (λ w. w.id ≡ id → w.after ≡ image_of_record old id) (λ w h is. h.2 ∙ ap (image_of_record old) is) d.writes (own d a).each

    one_leaves : (ds : List MigratedDoubt) → ((d : MigratedDoubt) → IsAmong d ds → IsAmong d doubts) → (image : Image) → (image ≡ image_of_record old id) ⊎ HasOne ds → images_over ds id image ≡ image_of_record old id
    one_leaves [] into image (inl e) = e
    one_leaves [] into image (inr none) = absurd none.2
    one_leaves (d ∷ ds) into image (inl e) =
        one_leaves ds (λ f later. into f (inr later)) (image_over d.writes id image) (inl (right_over d.writes (are_right d (into d (inl refl))) image (inl e)))
    one_leaves (d ∷ ds) into image (inr (f, w, inl same, b, is)) =
        one_leaves ds (λ f later. into f (inr later)) (image_over d.writes id image)
        (inl (right_over d.writes (are_right d (into d (inl refl))) image (inr (w, subst (λ (x : MigratedDoubt). IsAmong w x.writes) (sym same) b, is))))
    one_leaves (d ∷ ds) into image (inr (f, w, inr later, b, is)) = one_leaves ds (λ f later. into f (inr later)) (image_over d.writes id image) (inr (f, w, later, b, is))

    -- where nobody in doubt has left anything else, what is committed stands
    unchanged : AllByRecursion (λ d. IsElsewhere id d.writes) doubts → HasOneWriterAtMost old id → image_committed old id ≡ image_of_record old id
    unchanged none (inl no_writer) = sym no_writer.image
    unchanged none (inr one) =
        let u = one.0 in
        let listed = doubt_there u old (writers_in_doubt old lawful no_losers u id one.1.changed one.1.not_over) in
        let mine = mapped_one as_logged listed.0 doubts (subst (IsAmong listed.0) (sym read.listed) listed.1) in
        let same : mine.0.txn ≡ u = ap (λ (e : LoggedDoubt). e.txn) mine.2 ∙ listed.2 in
        sym ((own mine.0 mine.1).every id (ap (λ v. has (changes_id id) v old) same ∙ one.1.changed) (each_of (λ d. IsElsewhere id d.writes) doubts mine.0 none mine.1))

    pub image_stays : image_of_record work id ≡ image_of_record old id
    image_stays =
        k.images id ∙ ap (images_over doubts id) ((has_inserted t (records_committed old) read.some).images id)
        ∙ ⊎_elim (λ one. one_leaves doubts (λ d a. a) (image_committed old id) (inr one))
        (λ none. none_leaves doubts none (image_committed old id) ∙ unchanged none (one_writer_at_most old lawful id))
        (one_or_none doubts)
