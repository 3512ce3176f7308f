-- The records as one transaction's inserts, and its Commit.
use Rattle.std.proofs.Common.{◌≡◌, ◌≢◌, inl, inr, ⊎_elim, ◌<◌, ℕ, List, [], ◌∷◌, Bool, true, false, cond, Option, Some, None, refl, sym, ap, subst, ◌∙◌, map, arith}
use Rattle.std.specs.Prelude.{◌&&◌, ◌||◌, not, T, unwrap_or}
use Rattle.std.specs.FinMap.{entries, entries_sorted, get, get-entries, same_map}
use Rattle.std.specs.FinMap.Entries.{below_all, find, is_sorted}
use Rattle.std.specs.List.{AllByRecursion}
use Rattle.std.specs.Ordering.{eq_by_cmp, is_eq, is_lt}
use Rattle.std.specs.declared.cmp.Ordering.{Ordering}
use Rattle.std.specs.declared.cmp.Ordering.TheVariants.{Less, Equal, Greater}
use Rattle.std.proofs.lemmas.Bool.{cases_Bool, ne_eqb, true≢false}
use Rattle.shore_types.specs.Ids.{exact_rids, rid_cmp, rids_total}
use Rattle.shore_types.specs.Images.{Image}
use Rattle.shore_types.specs.declared.ids.Rid.{Rid}
use Rattle.shore_model.specs.declared.log_records.LogRecord.{LogRecord}
use Rattle.shore_model.specs.declared.log_records.Payload.TheVariants.{Commit}
use Rattle.shore_model.specs.Logs.{Lawful, has, image_of_record, is_in_doubt, is_over, is_prepare, previous_of}
use Rattle.shore_model.specs.Records.{Records}
use Rattle.shore_model.proofs.Maps.{get_id}
use Rattle.laws_lives.specs.Doubts.{doubts_in}
use Rattle.laws_lives.specs.LogTells.{records_committed}
use Rattle.laws_lives.specs.Writers.{HasOneWriterAtMost, changes_id, image_committed}
use Rattle.laws_lives.proofs.DoubtRecords.{but_doubt, commit_takes, none_of_it}
use Rattle.laws_lives.proofs.EndedTxns.{over_now}
use Rattle.laws_lives.proofs.Lists.{recursion-push}
use Rattle.laws_lives.proofs.OneMore.{id_itself}
use Rattle.laws_lives.proofs.Redo.{image_of_record-push}
use Rattle.laws_lives.proofs.UndoRecords.{lawful_next}
use Rattle.laws_lives.proofs.Writers.{one_writer_at_most, same_or_not}
use Rattle.laws_migrations.specs.MigratedLogs.{EachIdOnce, Written, and_writes, inserted, with_records}
use Rattle.laws_migrations.proofs.Writing.{HasWrittenAll, IsFreeFor, elsewhere_same, image_over, write_all}

-- ---- the entries of a map

abbrev pub all_inserted : List (Rid × List ℕ) → List Written
all_inserted es = map inserted es

pub first : (a b : Bool) → T (a && b) → T a
first true b p = tt
first false b p = p

pub second : (a b : Bool) → T (a && b) → T b
second true b p = p
second false b p = absurd p

not_lower : (o : Ordering) → T (is_lt o) → o ≡ Equal → ⊥
not_lower Less p e = cc
not_lower Equal p e = p
not_lower Greater p e = p

is_tie : (o : Ordering) → is_eq o ≡ true → o ≡ Equal
is_tie Less h = cc
is_tie Equal h = refl
is_tie Greater h = cc

-- a lower id is another
lower_is_other : (q id : Rid) → T (is_lt (rid_cmp q id)) → id ≢ q
lower_is_other q id low e = not_lower (rid_cmp q id) low (is_tie (rid_cmp q id) (ap (eq_by_cmp rid_cmp q) e ∙ id_itself q))

pub all_other : (id : Rid) (es : List (Rid × List ℕ)) → T (below_all rid_cmp id es) → AllByRecursion (λ v. v.id ≢ id) (all_inserted es)
all_other id [] h = tt
all_other id (e ∷ es) h = (lower_is_other id e.0 (first (is_lt (rid_cmp id e.0)) (below_all rid_cmp id es) h), all_other id es (second (is_lt (rid_cmp id e.0)) (below_all rid_cmp id es) h))

pub each_once : (es : List (Rid × List ℕ)) → T (is_sorted rid_cmp es) → EachIdOnce (all_inserted es)
each_once [] h = tt
each_once (e ∷ es) h = (all_other e.0 es (first (below_all rid_cmp e.0 es) (is_sorted rid_cmp es) h), each_once es (second (below_all rid_cmp e.0 es) (is_sorted rid_cmp es) h))

-- what the inserts leave is what the map has
inserts_leave : (es : List (Rid × List ℕ)) → T (is_sorted rid_cmp es) → (id : Rid) → image_over (all_inserted es) id None ≡ find rid_cmp id es
inserts_leave [] h id = refl
inserts_leave (e ∷ es) h id = ⊎_elim
    (λ here.
    let same : id ≡ e.0 = exact_rids id e.0 (is_tie (rid_cmp id e.0) here) in
    ap (λ b. image_over (all_inserted es) id (cond b (Some e.1) None)) here
    ∙ elsewhere_same id (all_inserted es) (subst (λ q. AllByRecursion (λ v. v.id ≢ q) (all_inserted es)) (sym same) (all_other e.0 es (first (below_all rid_cmp e.0 es) (is_sorted rid_cmp es) h))) (Some e.1)
    ∙ sym (ap (λ b. cond b (Some e.1) (find rid_cmp id es)) here))
    (λ off.
    ap (λ b. image_over (all_inserted es) id (cond b (Some e.1) None)) off
    ∙ inserts_leave es (second (below_all rid_cmp e.0 es) (is_sorted rid_cmp es) h) id
    ∙ sym (ap (λ b. cond b (Some e.1) (find rid_cmp id es)) off))
    (cases_Bool (eq_by_cmp rid_cmp id e.0))

-- ---- the log with them

none_there : (id : Rid) → image_of_record [] id ≡ None
none_there id = ap (λ (o : Option Image). unwrap_or o None) (get_id {V = Image} [] id)

each_absent : (ws : List (Rid × List ℕ)) → AllByRecursion (λ w. w.before ≡ image_of_record [] w.id) (all_inserted ws)
each_absent [] = tt
each_absent (e ∷ es) = (sym (none_there e.0), each_absent es)

each_free : (t : ℕ) (es : List (Rid × List ℕ)) → AllByRecursion (λ w. IsFreeFor [] t w.id) (all_inserted es)
each_free t [] = tt
each_free t (e ∷ es) = ((λ u other h. absurd (true≢false (sym h))), each_free t es)

may_commit : (a b : Bool) → a ≡ false → (not a || b) ≡ true
may_commit a b e = ap (λ a. not a || b) e

-- The records are all that the log tells, nobody is in doubt, and every record is of this transaction, which has ended.
pub record HasInserted (log : List LogRecord) (t : ℕ) (records : Records) : Type 0 where
  pub lawful : Lawful log
  pub images : (id : Rid) → image_of_record log id ≡ get records id
  pub committed : records_committed log ≡ records
  pub none_doubted : doubts_in log ≡ []
  pub own : (u : ℕ) → t ≢ u → AllByRecursion (λ r. r.txn ≢ u) log
  pub over : is_over t log ≡ true

module _ (t : ℕ) (records : Records) (some : 0 < t) where
  abbrev ws : List Written
  ws = all_inserted (entries records)

  abbrev mid : List LogRecord
  mid = and_writes t [] ws

  abbrev last : LogRecord
  last = record { txn = t; previous = previous_of t mid; payload = Commit }

  sorted : T (is_sorted rid_cmp (entries records))
  sorted = entries_sorted records

  k : HasWrittenAll [] mid t ws
  k = write_all t ws [] record {
    lawful = λ n r at. cc;
    some = some;
    not_over = refl;
    unprepared = refl;
    once = each_once (entries records) sorted;
    before = each_absent (entries records);
    free = each_free t (entries records);
  }

  lawful_now : Lawful (with_records t records)
  lawful_now = lawful_next mid last k.lawful record {
    of = sym (ne_eqb t 0 (λ e. omega arith));
    previous = refl;
    not_over = k.over t;
    says = may_commit (has is_prepare t mid) (is_in_doubt t mid) (k.decides.prepares t);
  }

  image_now : (id : Rid) → image_of_record (with_records t records) id ≡ get records id
  image_now id = image_of_record-push mid last id ∙ k.images id ∙ ap (image_over ws id) (none_there id) ∙ inserts_leave (entries records) sorted id ∙ sym (get-entries records id)

  all_over : is_over t (with_records t records) ≡ true
  all_over = over_now mid last (inl refl)

  all_own : (u : ℕ) → t ≢ u → AllByRecursion (λ r. r.txn ≢ u) (with_records t records)
  all_own u other = recursion-push (λ r. r.txn ≢ u) mid last (k.others u other tt) other

  -- whoever has changed anything has ended
  ended : (u : ℕ) (id : Rid) → has (changes_id id) u (with_records t records) ≡ true → is_over u (with_records t records) ≡ true
  ended u id h = ⊎_elim
      (λ same. subst (λ v. is_over v (with_records t records) ≡ true) same all_over)
      (λ other. absurd (true≢false (sym h ∙ none_of_it (changes_id id) u (with_records t records) (all_own u other))))
      (same_or_not t u)

  committed_image : (id : Rid) → HasOneWriterAtMost (with_records t records) id → image_committed (with_records t records) id ≡ get records id
  committed_image id (inl none) = sym none.image ∙ image_now id
  committed_image id (inr one) = absurd (true≢false (sym (ended one.0 id one.1.changed) ∙ one.1.not_over))

  pub has_inserted : HasInserted (with_records t records) t records
  has_inserted = record {
    lawful = lawful_now;
    images = image_now;
    committed = same_map rids_total exact_rids (records_committed (with_records t records)) records (λ id. committed_image id (one_writer_at_most (with_records t records) lawful_now id));
    none_doubted = commit_takes mid t (previous_of t mid) ∙ ap (but_doubt t) k.decides.doubts;
    own = all_own;
    over = all_over;
  }
