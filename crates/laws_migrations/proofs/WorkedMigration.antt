-- The log of the worked migration: what is committed, and what stands there.
use Rattle.std.proofs.Common.{◌≡◌, ⊎_elim, ◌+◌, ◌≤◌, ℕ, zero, suc, List, [], ◌∷◌, Option, None, Some, true, false, refl, sym, ap, subst, ◌∙◌, arith}
use Rattle.std.specs.Prelude.{IsSomeAnd, slice_get, unwrap_or}
use Rattle.std.specs.FinMap.{empty, get, get-empty}
use Rattle.std.specs.Ordering.{eq_by_cmp}
use Rattle.std.proofs.lemmas.Bool.{true≢false}
use Rattle.shore_types.specs.Ids.{rid_cmp}
use Rattle.shore_types.specs.Versions.{number_of}
use Rattle.shore_types.specs.declared.ids.Rid.{Rid}
use Rattle.shore_types.specs.declared.layout.Geometry.{Geometry}
use Rattle.shore_types.specs.declared.versions.Version.{Version}
use Rattle.shore_types.specs.declared.versions.Version.TheVariants.{One, Two}
use Rattle.laws_migrations.specs.Geometries.{MayMoveInto}
use Rattle.shore_types.specs.declared.locking.Granule.{Granule}
use Rattle.shore_model.specs.declared.log_records.LogRecord.{LogRecord}
use Rattle.shore_model.specs.declared.log_records.Payload.TheVariants.{Change, Commit, Prepare}
use Rattle.shore_model.specs.Logs.{LiesUnder, has, image_of_record, logged_writes}
use Rattle.shore_model.proofs.Overlays.{get-overlay}
use Rattle.laws_lives.specs.Writers.{changes_id, image_committed}
use Rattle.laws_lives.proofs.Booleans.{or_true}
use Rattle.laws_lives.proofs.OneMore.{same_id, writes_none}
use Rattle.laws_lives.proofs.Redo.{image_of_record-push}
use Rattle.laws_calls.specs.WorkedRun.{first_id}
use Rattle.laws_runs.specs.WorkedLogs.{second_id}
use Rattle.laws_migrations.specs.MigratedLogs.{IsElsewhere, IsRead, IsReadOf}
use Rattle.laws_migrations.specs.WorkedMigration.{read_doubt, read_log, second_written}

pub some_none : {bytes : List ℕ} → ◌≡◌ {A = Option (List ℕ)} (Some bytes) None → ⊥
some_none e = cc

pub not_under_none : (id : Rid) → LiesUnder [] id → ⊥
unfolding LiesUnder
not_under_none id h = omega arith

-- ---- geometries

pub no_lower : (v w : Version) → v ≡ Two → w ≡ One → number_of v ≤ number_of w → ⊥
unfolding number_of
no_lower v w a b le = let x : number_of v ≡ 2 = ap number_of a in let y : number_of w ≡ 1 = ap number_of b in omega (arith, x, y, le)

pub not_fewer : (g h : Geometry) (pages : ℕ) → g.stores ≡ ((pages + 1) ∷ []) → h.stores ≡ (pages ∷ []) → MayMoveInto g h → ⊥
not_fewer g h pages is of into =
    let less : pages + 1 ≤ pages = subst (λ s. IsSomeAnd (slice_get s 0) (λ more. pages + 1 ≤ more)) of (into.stores 0 (pages + 1) (ap (λ s. slice_get s 0) is)) in omega (arith, less)

pub not_without : (g h : Geometry) (pages more : ℕ) → g.stores ≡ (pages ∷ more ∷ []) → h.stores ≡ (pages ∷ []) → MayMoveInto g h → ⊥
not_without g h pages more is of into = subst (λ s. IsSomeAnd (slice_get s 1) (λ larger. more ≤ larger)) of (into.stores 1 more (ap (λ s. slice_get s 1) is))

pub into_higher : (g h : Geometry) (pages more later : ℕ) → g.version ≡ One → h.version ≡ Two → g.stores ≡ (pages ∷ []) → h.stores ≡ ((pages + more) ∷ later ∷ []) → MayMoveInto g h
unfolding number_of
into_higher g h pages more later one two is of = record {
  version = let x : number_of g.version ≡ 1 = ap number_of one in let y : number_of h.version ≡ 2 = ap number_of two in omega (arith, x, y);
  stores = λ store n at. by store n (sym (ap (λ s. slice_get s store) is) ∙ at);
}
  where
    same_some : {m n : ℕ} → ◌≡◌ {A = Option ℕ} (Some m) (Some n) → m ≡ n
    same_some e = cc

    no_place : (k n : ℕ) → slice_get (pages ∷ []) (suc k) ≡ Some n → ⊥
    no_place zero n e = cc
    no_place (suc k) n e = cc

    by : (store n : ℕ) → slice_get (pages ∷ []) store ≡ Some n → IsSomeAnd (slice_get h.stores store) (λ larger. n ≤ larger)
    by zero n e = subst (λ s. IsSomeAnd (slice_get s 0) (λ larger. n ≤ larger)) (sym of) (let same = same_some e in omega (arith, same))
    by (suc k) n e = absurd (no_place k n e)

module _ (a b global : List ℕ) (granules : List Granule) where
  abbrev log : List LogRecord
  log = read_log a b global granules

  pub none_committed : image_committed log second_id ≡ None
  none_committed =
      get-overlay empty (logged_writes log 1) second_id ∙ ap (λ o. unwrap_or o (get {R = rid_cmp} empty second_id)) (writes_none log 1 second_id refl) ∙ get-empty rid_cmp second_id

  pub second_stands : image_of_record log second_id ≡ Some b
  second_stands =
      let insert : LogRecord = record { txn = 1; previous = 0; payload = Change first_id None (Some a) } in
      let commit : LogRecord = record { txn = 1; previous = 1; payload = Commit } in
      let second : LogRecord = record { txn = 2; previous = 0; payload = Change second_id None (Some b) } in
      let prepare : LogRecord = record { txn = 2; previous = 3; payload = Prepare global granules } in
      image_of_record-push (insert ∷ commit ∷ second ∷ []) prepare second_id ∙ image_of_record-push (insert ∷ commit ∷ []) second second_id

  only_second : (id : Rid) → has (changes_id id) 2 log ≡ true → IsElsewhere id (second_written a b global granules ∷ []) → ⊥
  only_second id changed apart = ⊎_elim
      (λ here. apart.0 (sym (same_id id second_id here)))
      (λ none. true≢false (sym none))
      (or_true (eq_by_cmp rid_cmp id second_id) false changed)

  pub read_of : IsReadOf log (read_doubt a b global granules)
  read_of = record {
    once = (tt, tt);
    each = ((refl, sym none_committed, sym second_stands), tt);
    every = λ id changed apart. absurd (only_second id changed apart);
  }

  pub is_read : IsRead log 3 (read_doubt a b global granules ∷ [])
  is_read = record {
    some = omega arith;
    above = (omega arith, (omega arith, (omega arith, (omega arith, tt))));
    listed = refl;
    reads = (read_of, tt);
  }
