-- The Changes of one transaction, one after another, each at another id.
use Rattle.std.proofs.Common.{◌≡◌, ◌≢◌, ◌<◌, ◌++◌, ℕ, List, [], ◌∷◌, true, false, cond, Some, refl, sym, ap, ◌∙◌, arith}
use Rattle.std.specs.Prelude.{◌==◌, ◌&&◌, not}
use Rattle.std.specs.List.{AllByRecursion}
use Rattle.std.specs.Ordering.{eq_by_cmp}
use Rattle.std.proofs.lemmas.Bool.{and_from, eq-eqb, ne_eqb, or_left, or_right}
use Rattle.std.proofs.lemmas.List.Elements.{All-from_recursion, recursion_from_All}
use Rattle.shore_types.specs.Ids.{rid_cmp}
use Rattle.shore_types.specs.Images.{Image}
use Rattle.shore_types.specs.declared.ids.Rid.{Rid}
use Rattle.shore_types.specs.declared.locking.Granule.{Granule}
use Rattle.shore_model.specs.declared.log_records.LogRecord.{LogRecord}
use Rattle.shore_model.specs.declared.log_records.Payload.TheVariants.{Change}
use Rattle.shore_model.specs.Logs.{KeepsUnder, Lawful, LeavesFree, LieUnder, LiesUnder, MayFollow, NoOtherChanged, has, id_in, image_of_record, is_commit, is_end, is_over, is_prepare, previous_of}
use Rattle.laws_lives.specs.LogTells.{records_committed}
use Rattle.laws_lives.specs.Writers.{changes_id, is_this_id}
use Rattle.laws_lives.proofs.Booleans.{or_none}
use Rattle.laws_lives.proofs.CommittedRecords.{committed-same}
use Rattle.laws_lives.proofs.DoubtRecords.{DecidesNone, decides_none, one_decides_none}
use Rattle.laws_lives.proofs.EndedTxns.{over_same}
use Rattle.laws_lives.proofs.Lists.{recursion-push}
use Rattle.laws_lives.proofs.OneMore.{has-not_its, has-not_this, id_itself, same_id}
use Rattle.laws_lives.proofs.Redo.{image_of_record-push}
use Rattle.laws_lives.proofs.UndoRecords.{lawful_next}
use Rattle.laws_lives.proofs.Writers.{never_true}
use Rattle.laws_migrations.specs.MigratedLogs.{EachIdOnce, IsElsewhere, Written, and_writes}

-- ---- ids

pub other_id : (q id : Rid) → q ≢ id → eq_by_cmp rid_cmp q id ≡ false
other_id q id ne = never_true (eq_by_cmp rid_cmp q id) (λ e. ne (same_id q id e))

-- whoever else has changed the id has ended
abbrev pub IsFreeFor : List LogRecord → ℕ → Rid → Type 0
IsFreeFor log t id = (u : ℕ) → (u ≡ t → ⊥) → has (changes_id id) u log ≡ true → is_over u log ≡ true

names_change : (id : Rid) (r : LogRecord) → id_in r.payload ≡ Some id → changes_id id r.payload ≡ true
names_change id r e = ap (is_this_id id) e ∙ id_itself id

pub nobody_else : (log : List LogRecord) (t : ℕ) (id : Rid) → IsFreeFor log t id → NoOtherChanged log t id
nobody_else log t id free = All-from_recursion (LeavesFree log t id) log (each log (λ u e. e))
  where
    each : (rs : List LogRecord) → ((u : ℕ) → has (changes_id id) u rs ≡ true → has (changes_id id) u log ≡ true) → AllByRecursion (LeavesFree log t id) rs
    each [] h = tt
    each (r ∷ rs) h = (
      λ names other. free r.txn other
          (h r.txn (or_left ((r.txn == r.txn) && changes_id id r.payload) (has (changes_id id) r.txn rs) (and_from (r.txn == r.txn) (changes_id id r.payload) (eq-eqb r.txn r.txn refl) (names_change id r names)))),
      each rs (λ u e. h u (or_right ((r.txn == u) && changes_id id r.payload) (has (changes_id id) u rs) e)),
    )

-- ---- one Change

module _ (t : ℕ) (w : Written) (log : List LogRecord) where
  abbrev one : LogRecord
  one = record { txn = t; previous = previous_of t log; payload = Change w.id w.before w.after }

  pub change_follows : 0 < t → is_over t log ≡ false → has is_prepare t log ≡ false → w.before ≡ image_of_record log w.id → IsFreeFor log t w.id → MayFollow log one
  change_follows some not_over unprepared before free = record {
    of = sym (ne_eqb t 0 (λ e. omega arith));
    previous = refl;
    not_over = not_over;
    says = (ap not unprepared, before, nobody_else log t w.id free);
  }

  pub over_is : (u : ℕ) → is_over u (log ++ one ∷ []) ≡ is_over u log
  over_is u = over_same log one refl refl u

  pub free_on : (id : Rid) → IsFreeFor log t id → IsFreeFor (log ++ one ∷ []) t id
  free_on id free u other h = over_is u ∙ free u other (sym (has-not_its log one (changes_id id) u (λ e. other (sym e))) ∙ h)

  pub image_elsewhere : (id : Rid) → id ≢ w.id → image_of_record (log ++ one ∷ []) id ≡ image_of_record log id
  image_elsewhere id ne = image_of_record-push log one id ∙ ap (λ b. cond b w.after (image_of_record log id)) (other_id id w.id ne)

-- ---- all of them

-- what the Changes leave at an id
abbrev pub image_over : List Written → Rid → Image → Image
image_over [] id image = image
image_over (w ∷ ws) id image = image_over ws id (cond (eq_by_cmp rid_cmp id w.id) w.after image)

pub record MayWriteAll (log : List LogRecord) (t : ℕ) (ws : List Written) : Type 0 where
  pub lawful : Lawful log
  pub some : 0 < t
  pub not_over : is_over t log ≡ false
  pub unprepared : has is_prepare t log ≡ false
  pub once : EachIdOnce ws
  pub before : AllByRecursion (λ w. w.before ≡ image_of_record log w.id) ws
  pub free : AllByRecursion (λ w. IsFreeFor log t w.id) ws

pub record HasWrittenAll (log more : List LogRecord) (t : ℕ) (ws : List Written) : Type 0 where
  pub lawful : Lawful more
  pub over : (u : ℕ) → is_over u more ≡ is_over u log
  pub decides : DecidesNone log more
  pub images : (id : Rid) → image_of_record more id ≡ image_over ws id (image_of_record log id)
  pub elsewhere : (id : Rid) → IsElsewhere id ws → (u : ℕ) → has (changes_id id) u more ≡ has (changes_id id) u log
  pub others : (u : ℕ) → t ≢ u → AllByRecursion (λ r. r.txn ≢ u) log → AllByRecursion (λ r. r.txn ≢ u) more
  pub committed : records_committed more ≡ records_committed log
  pub under : (granules : List Granule) → AllByRecursion (λ w. LiesUnder granules w.id) ws → LieUnder log t granules → LieUnder more t granules

pub elsewhere_same : (id : Rid) (ws : List Written) → IsElsewhere id ws → (image : Image) → image_over ws id image ≡ image
elsewhere_same id [] h image = refl
elsewhere_same id (w ∷ ws) h image = ap (λ b. image_over ws id (cond b w.after image)) (other_id id w.id (λ e. h.0 (sym e))) ∙ elsewhere_same id ws h.1 image

decides_on : {log mid more : List LogRecord} → DecidesNone log mid → DecidesNone mid more → DecidesNone log more
decides_on a b = record { prepares = λ u. b.prepares u ∙ a.prepares u; rollbacks = λ u. b.rollbacks u ∙ a.rollbacks u; doubts = b.doubts ∙ a.doubts }

pub write_all : (t : ℕ) (ws : List Written) (log : List LogRecord) → MayWriteAll log t ws → HasWrittenAll log (and_writes t log ws) t ws
write_all t [] log h = record {
  lawful = h.lawful;
  over = λ u. refl;
  decides = decides_none log;
  images = λ id. refl;
  elsewhere = λ id apart u. refl;
  others = λ u ne new. new;
  committed = refl;
  under = λ granules each lie. lie;
}
write_all t (w ∷ ws) log h =
    let r = one t w log in
    let mid = log ++ r ∷ [] in
    let follows = change_follows t w log h.some h.not_over h.unprepared h.before.0 h.free.0 in
    let k = write_all t ws mid record {
      lawful = lawful_next log r h.lawful follows;
      some = h.some;
      not_over = over_is t w log t ∙ h.not_over;
      unprepared = has-not_this log r is_prepare t refl ∙ h.unprepared;
      once = h.once.1;
      before = still_before ws h.once.0 h.before.1;
      free = still_free ws h.free.1;
    } in
    record {
      lawful = k.lawful;
      over = λ u. k.over u ∙ over_is t w log u;
      decides = decides_on (one_decides_none t log log (Change w.id w.before w.after) refl (decides_none log)) k.decides;
      images = λ id. k.images id ∙ ap (image_over ws id) (image_of_record-push log r id);
      elsewhere = λ id apart u. k.elsewhere id apart.1 u ∙ has-not_this log r (changes_id id) u (other_id id w.id (λ e. apart.0 (sym e)));
      others = λ u ne new. k.others u ne (recursion-push (λ r. r.txn ≢ u) log r new ne);
      committed = k.committed ∙ committed-same log r refl (or_none (has is_commit t log) (has is_end t log) h.not_over).0;
      under = λ granules each lie. k.under granules each.1
          (All-from_recursion (KeepsUnder t granules) mid (recursion-push (KeepsUnder t granules) log r (recursion_from_All (KeepsUnder t granules) log lie) (λ own. each.0)));
    }
  where
    still_before : (vs : List Written) → AllByRecursion (λ v. v.id ≢ w.id) vs → AllByRecursion (λ v. v.before ≡ image_of_record log v.id) vs
        → AllByRecursion (λ v. v.before ≡ image_of_record (log ++ one t w log ∷ []) v.id) vs
    still_before [] apart before = tt
    still_before (v ∷ vs) apart before = (before.0 ∙ sym (image_elsewhere t w log v.id apart.0), still_before vs apart.1 before.1)

    still_free : (vs : List Written) → AllByRecursion (λ v. IsFreeFor log t v.id) vs → AllByRecursion (λ v. IsFreeFor (log ++ one t w log ∷ []) t v.id) vs
    still_free [] free = tt
    still_free (v ∷ vs) free = (free_on t w log v.id free.0, still_free vs free.1)
