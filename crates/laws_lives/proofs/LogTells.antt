-- The log with one record more: what it tells, and what each transaction has logged.
use Rattle.std.proofs.Common.{◌≡◌, ◌≢◌, ⊎_elim, ◌++◌, ℕ, List, [], ◌∷◌, Bool, true, false, cond, Some, None, refl, sym, ap, subst, ◌∙◌, map, append-nil}
use Rattle.std.specs.Prelude.{◌==◌, filter, unwrap_or}
use Rattle.std.specs.FinMap.{empty, get, insert, same_map}
use Rattle.std.specs.List.{AllByRecursion, cons_option}
use Rattle.std.proofs.lemmas.Bool.{eqb-true, eqb-false, eq-eqb, ne_eqb}
use Rattle.std.proofs.lemmas.List.Elements.{filter_map-append}
use Rattle.shore_types.specs.Ids.{rids_total, exact_rids}
use Rattle.shore_types.specs.declared.ids.Rid.{Rid}
use Rattle.shore_model.specs.declared.holds.Hold.{Hold}
use Rattle.shore_model.specs.declared.log_records.LogRecord.{LogRecord}
use Rattle.shore_model.specs.declared.log_records.Payload.{Payload}
use Rattle.shore_model.specs.declared.log_records.Payload.TheVariants.{Compensation, Commit}
use Rattle.shore_model.specs.declared.progress.Progress.{Progress}
use Rattle.shore_model.specs.Locks.{MayWrite}
use Rattle.shore_model.specs.Logs.{commit_of, committed_in, image_in, is_commit, last_images, logged_writes, with_image, previous_of}
use Rattle.shore_model.specs.Records.{Records, WriteSet, laid_over, overlay, overlays, put_image}
use Rattle.shore_model.proofs.LogSteps.{last_images-push, logged_writes-one_more}
use Rattle.shore_model.proofs.Overlays.{get-overlay, overlays-append}
use Rattle.shore_types.specs.Images.{Image}
use Rattle.laws_lives.proofs.Ids.{put_here, put_there, told_apart, wrote_here, wrote_there}
use Rattle.laws_lives.proofs.InPlace.{has_image}
use Rattle.laws_lives.proofs.Lists.{map-push, recursion-each, recursion-weaker}
use Rattle.laws_lives.proofs.Views.{overlay_none, read_of_write, some_or_none}
use Rattle.laws_lives.specs.LogTells.{HasLogged, TellsSerial, records_committed}
use Rattle.laws_lives.specs.Logged.{and_compensations, and_record, next_to_undo}
use Rattle.laws_lives.specs.Views.{IsAmong, Sees}

-- ---- images and commits

module _ (log : List LogRecord) (r : LogRecord) where
  logged_if : (t : ℕ) (b : Bool) → (r.txn == t) ≡ b
      → logged_writes (log ++ r ∷ []) t ≡ last_images (filter (λ r. r.txn == t) log ++ cond b (r ∷ []) [])
  logged_if t b is = logged_writes-one_more t log r ∙ ap (λ b. last_images (filter (λ r. r.txn == t) log ++ cond b (r ∷ []) [])) is

  pub logged_own : (t : ℕ) → r.txn ≡ t → logged_writes (log ++ r ∷ []) t ≡ with_image (logged_writes log t) (image_in r.payload)
  logged_own t own = logged_if t true (eq-eqb r.txn t own) ∙ last_images-push (filter (λ r. r.txn == t) log) r

  pub logged_other : (t : ℕ) → r.txn ≢ t → logged_writes (log ++ r ∷ []) t ≡ logged_writes log t
  logged_other t other = logged_if t false (ne_eqb r.txn t other) ∙ ap last_images (append-nil (filter (λ r. r.txn == t) log))

  pub logged_imageless : image_in r.payload ≡ None → (t : ℕ) → logged_writes (log ++ r ∷ []) t ≡ logged_writes log t
  logged_imageless none t =
      elim (r.txn == t) as (λ b. (r.txn == t) ≡ b → logged_writes (log ++ r ∷ []) t ≡ logged_writes log t) [
        | true ↦ λ e. logged_own t (eqb-true r.txn t e) ∙ ap (with_image (logged_writes log t)) none
        | false ↦ λ e. logged_other t (eqb-false r.txn t e)
      ] refl

  pub committed_same : is_commit r.payload ≡ false → committed_in (log ++ r ∷ []) ≡ committed_in log
  committed_same e =
      filter_map-append commit_of log (r ∷ []) ∙ ap (λ b. committed_in log ++ cons_option (cond b (Some r.txn) None) []) e ∙ append-nil (committed_in log)

  pub committed_one : is_commit r.payload ≡ true → committed_in (log ++ r ∷ []) ≡ committed_in log ++ r.txn ∷ []
  committed_one e = filter_map-append commit_of log (r ∷ []) ∙ ap (λ b. committed_in log ++ cons_option (cond b (Some r.txn) None) []) e

overlays_same : (v w : ℕ → WriteSet) (R : Records) (ts : List ℕ) → AllByRecursion (λ t. v t ≡ w t) ts → overlays R (map v ts) ≡ overlays R (map w ts)
overlays_same v w R [] h = refl
overlays_same v w R (t ∷ ts) h = ap (λ W. overlays (overlay R W) (map v ts)) h.0 ∙ overlays_same v w (overlay R (w t)) ts h.1

-- nothing is told by the records of a transaction before its Commit
pub tells_same : (log : List LogRecord) (r : LogRecord) → is_commit r.payload ≡ false → AllByRecursion (λ u. u ≢ r.txn) (committed_in log)
    → records_committed (log ++ r ∷ []) ≡ records_committed log
tells_same log r no_commit apart =
    ap (λ us. overlays empty (map (logged_writes (log ++ r ∷ [])) us)) (committed_same log r no_commit)
    ∙ overlays_same (logged_writes (log ++ r ∷ [])) (logged_writes log) empty (committed_in log)
    (recursion-weaker (λ u. u ≢ r.txn) (λ u. logged_writes (log ++ r ∷ []) u ≡ logged_writes log u) (λ u other. logged_other log r u (λ same. other (sym same))) (committed_in log) apart)

-- its Commit lets the list tell them all
pub tells_commit : (log : List LogRecord) (r : LogRecord) → r.payload ≡ Commit
    → records_committed (log ++ r ∷ []) ≡ overlay (records_committed log) (logged_writes log r.txn)
tells_commit log r is =
    let same : (t : ℕ) → logged_writes (log ++ r ∷ []) t ≡ logged_writes log t = logged_imageless log r (ap image_in is) in
    ap (λ us. overlays empty (map (logged_writes (log ++ r ∷ [])) us)) (committed_one log r (ap is_commit is))
    ∙ overlays_same (logged_writes (log ++ r ∷ [])) (logged_writes log) empty (committed_in log ++ r.txn ∷ [])
    (recursion-each (λ u. logged_writes (log ++ r ∷ []) u ≡ logged_writes log u) same (committed_in log ++ r.txn ∷ []))
    ∙ ap (overlays empty) (map-push (logged_writes log) (committed_in log) r.txn)
    ∙ overlays-append empty (map (logged_writes log) (committed_in log)) (logged_writes log r.txn ∷ [])

-- ---- what is logged, and what is written

-- The serial records overlaid by the one are those overlaid by the other: an image that is logged is in place, and its transaction sees
-- its write set there.
pub logged_as_written : {held : List Hold} {now R : Records} {t : ℕ} {p : Progress} {L : WriteSet} → Sees held now R t p.writes
    → HasLogged held R t p L → overlay now L ≡ overlay now p.writes
logged_as_written {held} {now} {R} {t} {p} {L} m g = same_map rids_total exact_rids _ _ (λ id.
    ⊎_elim
    (λ some.
    let image = has_image (get L id) some in
    let at = g.in_place id image.0 image.1 in
    get-overlay now L id ∙ ap (λ o. unwrap_or o (get now id)) image.1 ∙ sym at.0 ∙ m.view id (read_of_write held t id at.1))
    (λ none. overlay_none now L id none ∙ sym (overlay_none now p.writes id (g.unwritten id none)))
    (some_or_none (get L id)))

pub none_some : {A : Type 0} (x : A) → None ≡ Some x → ⊥
none_some x e = cc

some_same : {A : Type 0} (x y : A) → Some x ≡ Some y → x ≡ y
some_same x y e = cc

-- ---- one image more

module _ {held : List Hold} {R : Records} where
  image_logged : {t : ℕ} {p : Progress} {L : WriteSet} (id : Rid) (image : Image) → MayWrite held t id → HasLogged held R t p L
      → HasLogged held (put_image R id image) t p (insert L id image)
  image_logged {t} {p} {L} id image w g =
      let fewer : (q : Rid) → get (insert L id image) q ≡ None → get L q ≡ None =
      λ q none. ⊎_elim
      (λ same. absurd (none_some image (sym (subst (λ q. get (insert L id image) q ≡ None) same none) ∙ wrote_here L id image)))
      (λ other. sym (wrote_there L id image q other) ∙ none) (told_apart q id) in
      record {
        in_place = λ q found at. ⊎_elim
            (λ same.
            let is : Some image ≡ Some found = sym (wrote_here L id image) ∙ subst (λ q. get (insert L id image) q ≡ Some found) same at in
            (subst (λ q. get (put_image R id image) q ≡ found) (sym same) (put_here R id image ∙ some_same image found is), subst (MayWrite held t) (sym same) w))
            (λ other. let was = g.in_place q found (sym (wrote_there L id image q other) ∙ at) in (put_there R id image q other ∙ was.0, was.1))
            (told_apart q id);
        unwritten = λ q none. g.unwritten q (fewer q none);
        unsaved = λ q none. g.unsaved q (fewer q none);
      }

  -- another transaction has changed something elsewhere
  pub logged_elsewhere : {t : ℕ} {p : Progress} {L : WriteSet} (R' : Records) → ((id : Rid) → MayWrite held t id → get R' id ≡ get R id)
      → HasLogged held R t p L → HasLogged held R' t p L
  logged_elsewhere R' same g = record {
    in_place = λ id image at. let was = g.in_place id image at in (same id was.1 ∙ was.0, was.1);
    unwritten = g.unwritten;
    unsaved = g.unsaved;
  }

-- A transaction under way logs an image and puts it in place, or several one after another.
module _ (held : List Hold) (disjoint : (t u : ℕ) (id : Rid) → t ≢ u → MayWrite held t id → MayWrite held u id → ⊥) (now : Records) (ts : List ℕ) (p : ℕ → Progress) (t : ℕ) (a : IsAmong t ts) where
  pub image_tells : (R : Records) (log : List LogRecord) (id : Rid) (image : Image) (payload : Payload) → image_in payload ≡ Some (id, image)
      → is_commit payload ≡ false → MayWrite held t id
      → TellsSerial log held now R ts p → TellsSerial (and_record t log payload) held now (put_image R id image) ts p
  image_tells R log id image payload is no_commit w k =
      let r : LogRecord = record { txn = t; previous = previous_of t log; payload = payload } in
      record {
        tells = tells_same log r no_commit (k.uncommitted t a) ∙ k.tells;
        uncommitted = λ u b. subst (AllByRecursion (λ v. v ≢ u)) (sym (committed_same log r no_commit)) (k.uncommitted u b);
        each = λ u b.
            elim (t == u) as (λ x. (t == u) ≡ x → HasLogged held (put_image R id image) u (p u) (logged_writes (log ++ r ∷ []) u)) [
              | true ↦ λ e. subst (HasLogged held (put_image R id image) u (p u)) (sym (logged_own log r u (eqb-true t u e) ∙ ap (with_image (logged_writes log u)) is))
                  (image_logged id image (subst (λ v. MayWrite held v id) (eqb-true t u e) w) (k.each u b))
              | false ↦ λ e. subst (HasLogged held (put_image R id image) u (p u)) (sym (logged_other log r u (eqb-false t u e)))
                  (logged_elsewhere (put_image R id image) (λ q v. ⊎_elim (λ same. absurd (disjoint t u id (eqb-false t u e) w (subst (MayWrite held u) same v))) (λ other. put_there R id image q other) (told_apart q id)) (k.each u b))
            ] refl;
      }

  pub compensations_tell : (R : Records) (log : List LogRecord) (es : List (Rid × Image)) → AllByRecursion (λ e. MayWrite held t e.0) es
      → TellsSerial log held now R ts p → TellsSerial (and_compensations t log es) held now (laid_over R es) ts p
  compensations_tell R log [] h k = k
  compensations_tell R log (e ∷ es) h k =
      image_tells (laid_over R es) (and_compensations t log es) e.0 e.1 (Compensation e.0 e.1 (next_to_undo t (and_compensations t log es))) refl refl h.0
      (compensations_tell R log es h.1 k)
