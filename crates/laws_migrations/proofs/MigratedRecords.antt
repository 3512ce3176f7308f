-- Each record of a migrated log takes no more of its page than the old log's did, and is in bounds of the new geometry.
use Rattle.std.proofs.Common.{◌≡◌, ◌≢◌, inl, inr, ◌<◌, ◌≤◌, ◌+◌, ◌++◌, ℕ, zero, suc, List, [], ◌∷◌, true, cond, Option, Some, None, refl, sym, ap, subst, ◌∙◌, length, arith}
use Rattle.std.specs.Prelude.{IsSomeAnd, T, slice_get}
use Rattle.std.specs.FinMap.{entries, entries_sorted, get-entries}
use Rattle.std.specs.FinMap.Entries.{below_all, find, is_sorted}
use Rattle.std.specs.List.{AllByRecursion, filter_map}
use Rattle.std.proofs.lemmas.List.Elements.{recursion_from_All}
use Rattle.std.proofs.lemmas.List.Elements.{All-weaker}
use Rattle.std.proofs.lemmas.Option.{slice_get_within}
use Rattle.shore_types.specs.Ids.{rid_cmp}
use Rattle.shore_types.specs.Images.{image_len}
use Rattle.shore_types.specs.Layout.{HasGranule, HasPage, HasSlot}
use Rattle.shore_types.specs.Versions.{global_limit, record_limit}
use Rattle.shore_types.specs.declared.ids.PageId.{PageId}
use Rattle.shore_types.specs.declared.ids.Rid.{Rid}
use Rattle.shore_types.specs.declared.layout.Geometry.{Geometry}
use Rattle.shore_types.specs.declared.layout.TheConstants.{LAST_TXN}
use Rattle.shore_types.specs.declared.locking.Granule.{Granule}
use Rattle.shore_types.specs.declared.locking.Granule.TheVariants.{Page, Record, Store, Volume}
use Rattle.shore_model.specs.declared.log_records.LogRecord.{LogRecord}
use Rattle.shore_model.specs.declared.log_records.LogTxn.{LogTxn}
use Rattle.shore_model.specs.declared.log_records.Payload.{Payload}
use Rattle.shore_model.specs.declared.log_records.Payload.TheVariants.{Change, CheckpointBegin, Commit, Prepare}
use Rattle.shore_model.specs.Logs.{Lawful, has, image_of_record, is_in_doubt}
use Rattle.shore_analysis.specs.Meant.{AreGranules, IsInBounds, granules_in}
use Rattle.shore_analysis.specs.Sizes.{HasSizes}
use Rattle.laws_lives.specs.Doubts.{LoggedDoubt, doubt_by, doubt_of}
use Rattle.laws_lives.specs.LogTells.{records_committed}
use Rattle.laws_lives.specs.Undo.{HasNoLosers}
use Rattle.laws_lives.specs.Views.{IsAmong}
use Rattle.laws_lives.specs.Writers.{changes_id, image_committed}
use Rattle.laws_lives.proofs.DoubtRecords.{among_filter}
use Rattle.laws_lives.proofs.Lists.{among_map, mapped_one, recursion-push}
use Rattle.laws_room.proofs.Fetching.{most_claim}
use Rattle.laws_room.proofs.Leaving.{map_each}
use Rattle.laws_room.specs.Claims.{rid_on, undecided_at}
use Rattle.shore_page.specs.Room.{HasRoom}
use Rattle.shore_page.specs.Undo.{claiming}
use Rattle.shore_page.specs.Slots.{Slot}
use Rattle.std.specs.List.{cons_option}
use Rattle.laws_lives.proofs.OneMore.{id_itself}
use Rattle.laws_checkpoints.specs.Checkpoints.{end_payload, of_checkpoint}
use Rattle.laws_runs.proofs.Running.{names_none}
use Rattle.laws_runs.specs.RoomyLogs.{IsPlacedLog}
use Rattle.laws_runs.specs.SlotCounts.{slot_count}
use Rattle.laws_migrations.specs.Geometries.{MayMoveInto}
use Rattle.laws_migrations.specs.MigratedLogs.{IsRead, IsReadOf, MigratedDoubt, Written, and_doubt, and_doubts, and_writes, as_logged, inserted, last_checkpoint, migrated_log, migrated_work, with_records}
use Rattle.laws_migrations.proofs.Inserting.{all_inserted, all_other, first, second}
use Rattle.laws_migrations.proofs.LoggedChanges.{TakesNoMore}
use Rattle.laws_migrations.proofs.OldClaims.{changed_lies, claim, committed_claimed, committed_inside, stands_claimed}
use Rattle.laws_migrations.proofs.Reading.{each_of, migratable}
use Rattle.laws_migrations.proofs.Versions.{globals_rise, records_rise, slots_rise}
use Rattle.laws_migrations.proofs.Writing.{other_id}

-- ---- what a geometry has that another may move into

has_place : {A : Type 0} (xs : List A) (k : ℕ) → k < length xs → (x : A) × (slice_get xs k ≡ Some x)
has_place [] k less = absurd (omega (arith, less))
has_place (x ∷ xs) zero less = (x, refl)
has_place (x ∷ xs) (suc k) less = has_place xs k (omega (arith, less))

some_place : {A : Type 0} (xs : List A) (k : ℕ) (P : A → Type 0) → IsSomeAnd (slice_get xs k) P → k < length xs
some_place {A = A} xs k P h = by (slice_get xs k) refl h
  where
    by : (o : Option A) → slice_get xs k ≡ o → IsSomeAnd o P → k < length xs
    by (Some x) is some = slice_get_within xs k x is
    by None is some = absurd some

module _ (g h : Geometry) (into : MayMoveInto g h) where
  more_pages : (p : PageId) (a b : Option ℕ) → ((pages : ℕ) → a ≡ Some pages → IsSomeAnd b (λ more. pages ≤ more)) → IsSomeAnd a (λ pages. p.page < pages) → IsSomeAnd b (λ pages. p.page < pages)
  more_pages p None b more has_it = absurd has_it
  more_pages p (Some pages) None more has_it = absurd (more pages refl)
  more_pages p (Some pages) (Some larger) more has_it = let le = more pages refl in omega (arith, le, has_it)

  pub has_page : (p : PageId) → HasPage g p → HasPage h p
  has_page p has_it = more_pages p (slice_get g.stores p.store) (slice_get h.stores p.store) (λ pages is. into.stores p.store pages is) has_it

  pub has_slot : (id : Rid) → HasSlot g id → HasSlot h id
  has_slot id has_it = let more = slots_rise g.version h.version into.version in (has_page id.page has_it.0, let less = has_it.1 in omega (arith, less, more))

  pub has_granule : (x : Granule) → HasGranule g x → HasGranule h x
  has_granule Volume has_it = tt
  has_granule (Store s) has_it = let of_old = has_place g.stores s has_it in some_place h.stores s (λ more. of_old.0 ≤ more) (into.stores s of_old.0 of_old.1)
  has_granule (Page p) has_it = has_page p has_it
  has_granule (Record id) has_it = has_slot id has_it

  pub has_granules : (granules : List Granule) → AreGranules g granules → AreGranules h granules
  has_granules granules k = record { inside = All-weaker (HasGranule g) (HasGranule h) has_granule granules k.inside; rise = k.rise }

-- ---- what a Prepare of the old log says

doubt_in_bounds : (g : Geometry) (d : LoggedDoubt) (log : List LogRecord) → AllByRecursion (IsInBounds g) log → IsAmong d (filter_map doubt_of log)
    → (length d.global ≤ global_limit g.version) × AreGranules g d.granules
doubt_in_bounds g d [] all m = absurd m
doubt_in_bounds g d (r ∷ log) all m = by r.txn r.payload all.0.sizes all.0.granules (λ later. doubt_in_bounds g d log all.1 later) m
  where
    by : (t : ℕ) (p : Payload) → HasSizes g.version p → AreGranules g (granules_in p) → (IsAmong d (filter_map doubt_of log) → (length d.global ≤ global_limit g.version) × AreGranules g d.granules)
        → IsAmong d (cons_option (doubt_by t p) (filter_map doubt_of log)) → (length d.global ≤ global_limit g.version) × AreGranules g d.granules
    by t (Prepare global granules) sizes inside rest (inl same) = subst (λ (e : LoggedDoubt). (length e.global ≤ global_limit g.version) × AreGranules g e.granules) same (sizes, inside)
    by t (Prepare global granules) sizes inside rest (inr later) = rest later
    by t _ sizes inside rest m = rest m

-- ---- entries of a map

entry_found : (es : List (Rid × List ℕ)) → T (is_sorted rid_cmp es) → (e : Rid × List ℕ) → IsAmong e es → find rid_cmp e.0 es ≡ Some e.1
entry_found [] sorted e m = absurd m
entry_found (x ∷ es) sorted e (inl same) =
    subst (λ (y : Rid × List ℕ). find rid_cmp y.0 (x ∷ es) ≡ Some y.1) same (ap (λ b. cond b (Some x.1) (find rid_cmp x.0 es)) (id_itself x.0))
entry_found (x ∷ es) sorted e (inr later) =
    let other : e.0 ≢ x.0 = each_of (λ v. v.id ≢ x.0) (all_inserted es) (inserted e) (all_other x.0 es (first (below_all rid_cmp x.0 es) (is_sorted rid_cmp es) sorted)) (among_map inserted e es later) in
    ap (λ b. cond b (Some x.1) (find rid_cmp e.0 es)) (other_id e.0 x.0 other) ∙ entry_found es (second (below_all rid_cmp x.0 es) (is_sorted rid_cmp es) sorted) e later

-- ---- each record

-- the record of a Change of t, whatever number it names
abbrev change_by : ℕ → ℕ → Written → LogRecord
change_by t previous w = record { txn = t; previous = previous; payload = Change w.id w.before w.after }

abbrev HoldsOfWrites : (LogRecord → Type 0) → ℕ → List Written → Type 0
HoldsOfWrites P t ws = (w : Written) → IsAmong w ws → (previous : ℕ) → P (change_by t previous w)

writes_each : (P : LogRecord → Type 0) (t : ℕ) (ws : List Written) → HoldsOfWrites P t ws → (log : List LogRecord) → AllByRecursion P log → AllByRecursion P (and_writes t log ws)
writes_each P t [] each log all = all
writes_each P t (w ∷ ws) each log all = writes_each P t ws (λ v later. each v (inr later)) (log ++ _ ∷ []) (recursion-push P log _ all (each w (inl refl) _))

abbrev HoldsOfDoubt : (LogRecord → Type 0) → MigratedDoubt → Type 0
HoldsOfDoubt P d = HoldsOfWrites P d.txn d.writes × ((previous : ℕ) → P (record { txn = d.txn; previous = previous; payload = Prepare d.global d.granules }))

doubts_each : (P : LogRecord → Type 0) (ds : List MigratedDoubt) → ((d : MigratedDoubt) → IsAmong d ds → HoldsOfDoubt P d) → (log : List LogRecord) → AllByRecursion P log
    → AllByRecursion P (and_doubts log ds)
doubts_each P [] each log all = all
doubts_each P (d ∷ ds) each log all =
    let own = each d (inl refl) in
    doubts_each P ds (λ e later. each e (inr later)) (and_doubt log d) (recursion-push P (and_writes d.txn log d.writes) _ (writes_each P d.txn d.writes own.0 log all) (own.1 _))

no_id : {id : Rid} → ◌≡◌ {A = Option Rid} None (Some id) → ⊥
no_id e = cc

same_some : {a b : Rid} → ◌≡◌ {A = Option Rid} (Some a) (Some b) → a ≡ b
same_some e = cc

module _ (g h : Geometry) (into : MayMoveInto g h) (old : List LogRecord) (lawful : Lawful old) (no_losers : HasNoLosers old) (k : IsPlacedLog g old)
    (t : ℕ) (doubts : List MigratedDoubt) (read : IsRead old t doubts) (low : t < LAST_TXN) where
  -- the record changes no more than the old log did, and is in bounds of the new geometry
  abbrev pub IsMovable : LogRecord → Type 0
  IsMovable r = TakesNoMore (claim g old lawful no_losers k) (slot_count old) r.payload × IsInBounds h r

  claim_limited : (id : Rid) → id.slot < slot_count old id.page → claim g old lawful no_losers k id ≤ record_limit g.version
  claim_limited id less =
      let F : ℕ → Slot = λ i. claiming (undecided_at k.records k.undos (rid_on id.page i)) in
      most_claim g.version id.page (slot_count old id.page) F
      (subst (HasRoom g.version) (map_each claiming (λ i. undecided_at k.records k.undos (rid_on id.page i)) 0 (slot_count old id.page)) (k.pages.room id.page)) id.slot less

  movable_change : (u previous : ℕ) (w : Written) → u < LAST_TXN → HasSlot g w.id × (w.id.slot < slot_count old w.id.page)
      → image_len w.before ≤ claim g old lawful no_losers k w.id → image_len w.after ≤ claim g old lawful no_losers k w.id → IsMovable (change_by u previous w)
  movable_change u previous w number lies before after =
      let most = claim_limited w.id lies.1 in
      let more = records_rise g.version h.version into.version in (
        (before, after, lies.1),
        record {
          number = number;
          next = omega arith;
          sizes = (omega (arith, before, most, more), omega (arith, after, most, more));
          lists = tt;
          id = λ q is. subst (HasSlot h) (same_some is) (has_slot g h into w.id lies.0);
          granules = names_none h;
        },
      )

  inserts_movable : HoldsOfWrites IsMovable t (all_inserted (entries (records_committed old)))
  inserts_movable w m previous =
      let one = mapped_one inserted w (entries (records_committed old)) m in
      let is : image_committed old one.0.0 ≡ Some one.0.1 = get-entries (records_committed old) one.0.0 ∙ entry_found (entries (records_committed old)) (entries_sorted (records_committed old)) one.0 one.1 in
      subst (λ v. IsMovable (change_by t previous v)) one.2
      (movable_change t previous (inserted one.0) low (committed_inside g old lawful no_losers k one.0.0 one.0.1 is) (omega arith)
      (subst (λ image. image_len image ≤ claim g old lawful no_losers k one.0.0) is (committed_claimed g old lawful no_losers k one.0.0)))

  commit_movable : (previous : ℕ) → IsMovable (record { txn = t; previous = previous; payload = Commit })
  commit_movable previous = (tt, record { number = low; next = omega arith; sizes = tt; lists = tt; id = λ q is. absurd (no_id is); granules = names_none h })

  doubts_movable : (d : MigratedDoubt) → IsAmong d doubts → HoldsOfDoubt IsMovable d
  doubts_movable d m =
      let its = each_of (IsReadOf old) doubts d read.reads m in
      let below = (migratable old lawful t doubts read d m).below in
      let found = (among_filter (λ (e : LoggedDoubt). is_in_doubt e.txn old) (as_logged d) (filter_map doubt_of old) (subst (IsAmong (as_logged d)) read.listed (among_map as_logged d doubts m))).0 in
      let said = doubt_in_bounds g (as_logged d) old (recursion_from_All (IsInBounds g) old k.inside) found in
      let more = globals_rise g.version h.version into.version in (
        λ w there previous.
            let own = each_of (λ (w : Written). (has (changes_id w.id) d.txn old ≡ true) × (w.before ≡ image_committed old w.id) × (w.after ≡ image_of_record old w.id)) d.writes w its.each there in
            movable_change d.txn previous w (omega (arith, below, low)) (changed_lies g old lawful no_losers k w.id d.txn own.0)
            (subst (λ image. image_len image ≤ claim g old lawful no_losers k w.id) (sym own.1) (committed_claimed g old lawful no_losers k w.id))
            (subst (λ image. image_len image ≤ claim g old lawful no_losers k w.id) (sym own.2) (stands_claimed g old lawful no_losers k w.id)),
        λ previous. (
          tt,
          record {
            number = omega (arith, below, low);
            next = omega arith;
            sizes = let few = said.0 in omega (arith, few, more);
            lists = tt;
            id = λ q is. absurd (no_id is);
            granules = has_granules g h into d.granules said.1;
          },
        ),
      )

  pub all_movable : (txns : List LogTxn) → AllByRecursion IsMovable (migrated_log t (records_committed old) doubts txns)
  all_movable txns =
      let work = migrated_work t (records_committed old) doubts in
      recursion-push IsMovable (work ++ of_checkpoint CheckpointBegin ∷ []) (of_checkpoint (end_payload (last_checkpoint work (t + 1) txns)))
      (recursion-push IsMovable work (of_checkpoint CheckpointBegin)
      (doubts_each IsMovable doubts doubts_movable (with_records t (records_committed old))
      (recursion-push IsMovable (and_writes t [] (all_inserted (entries (records_committed old)))) _ (writes_each IsMovable t (all_inserted (entries (records_committed old))) inserts_movable [] tt) (commit_movable _)))
      (tt, record { number = omega arith; next = omega arith; sizes = tt; lists = tt; id = λ q is. absurd (no_id is); granules = names_none h }))
      (tt, record { number = omega arith; next = omega (arith, low); sizes = tt; lists = tt; id = λ q is. absurd (no_id is); granules = names_none h })
