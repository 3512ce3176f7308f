-- Undo lists, step by step: a change, a savepoint, a rollback to one or of the whole, at once or image by image, and what others do meanwhile.
use Rattle.std.proofs.Common.{◌≡◌, ◌⊎◌, inl, inr, ⊎_elim, ◌++◌, ◌≤◌, ◌<◌, ◌+◌, ℕ, zero, suc, List, [], ◌∷◌, Option, None, refl, sym, ap, subst, ◌∙◌, length, drop, take, arith, add-one}
use Rattle.std.proofs.Math.Seq.{take-length}
use Rattle.std.specs.Prelude.{slice_get, unwrap_or}
use Rattle.std.specs.FinMap.{empty, get, find, get-empty, same_map}
use Rattle.std.specs.List.{AllByRecursion}
use Rattle.shore_types.specs.Ids.{rid_cmp, rids_total, exact_rids}
use Rattle.shore_types.specs.declared.ids.Rid.{Rid}
use Rattle.shore_model.specs.declared.holds.Hold.{Hold}
use Rattle.shore_model.specs.declared.progress.Progress.{Progress}
use Rattle.shore_model.specs.Locks.{MayRead, MayWrite}
use Rattle.shore_model.specs.Records.{Records, WriteSet, laid_over, overlay, put_image}
use Rattle.shore_model.proofs.Overlays.{get-laid_over}
use Rattle.shore_model.specs.Alone.{start}
use Rattle.shore_types.specs.Images.{Image}
use Rattle.laws_lives.proofs.Ids.{overlay_empty, overlays_agree, put_here, put_there, told_apart}
use Rattle.laws_lives.proofs.Lists.{drop-between, drop-push, drop-whole, length-push, length-take_most, length-take_within, recursion-drop, recursion-push, recursion-take, recursion-unpush, recursion-weaker, slice_get-take, take-beyond, take-take}
use Rattle.laws_lives.proofs.Views.{not_some, overlay_none, read_of_write, some_or_none}
use Rattle.shore_model.specs.declared.rollbacks.Rollback.{Rollback}
use Rattle.shore_model.specs.declared.rollbacks.Rollback.TheVariants.{Whole, To}
use Rattle.laws_lives.specs.UndoLists.{AreRising, CanUndo, MayRoll, UndoList, UndoToSavepoints, UndoesTo, least_kept, mark_of, nothing_to_undo, rolled_back, undo_rolled, with_before_image}
use Rattle.laws_lives.specs.Views.{Sees}

-- ---- images put back

pub laid_over-append : (R : Records) (xs ys : List (Rid × Image)) → laid_over R (xs ++ ys) ≡ laid_over (laid_over R ys) xs
laid_over-append R [] ys = refl
laid_over-append R (x ∷ xs) ys = ap (λ S. put_image S x.0 x.1) (laid_over-append R xs ys)

-- maps that agree at an id do so below the same images
laid_over-agree : (R S : Records) (es : List (Rid × Image)) (id : Rid) → get S id ≡ get R id → get (laid_over S es) id ≡ get (laid_over R es) id
laid_over-agree R S es id e = get-laid_over S es id ∙ ap (unwrap_or (find rid_cmp id es)) e ∙ sym (get-laid_over R es id)

-- if images change an id, it is one of theirs
pub laid_or_left : (P : Rid → Type 0) (R : Records) (es : List (Rid × Image)) (id : Rid) → AllByRecursion (λ e. P e.0) es
    → (get (laid_over R es) id ≡ get R id) ⊎ P id
laid_or_left P R [] id h = inl refl
laid_or_left P R (e ∷ es) id h =
    ⊎_elim (λ same. inr (subst P (sym same) h.0))
    (λ other. ⊎_elim (λ left. inl (put_there (laid_over R es) e.0 e.1 id other ∙ left)) (λ p. inr p) (laid_or_left P R es id h.1))
    (told_apart id e.0)

-- a change is undone by its before image
put_back : (R : Records) (id : Rid) (image : Image) → put_image (put_image R id image) id (get R id) ≡ R
put_back R id image = same_map rids_total exact_rids _ _ (λ q.
    ⊎_elim (λ same. subst (λ q. get (put_image (put_image R id image) id (get R id)) q ≡ get R q) (sym same) (put_here (put_image R id image) id (get R id)))
    (λ other. put_there (put_image R id image) id (get R id) q other ∙ put_there R id image q other)
    (told_apart q id))

-- ---- marks of savepoints

-- if what is undone down to any one mark is kept, it is so for all of them
each_mark : {held held' : List Hold} {t : ℕ} {now R now' R' : Records} {images images' : List (Rid × Image)} (P : ℕ → Type 0)
    → ((m : ℕ) (W : WriteSet) → P m → UndoesTo held now R t images m W → UndoesTo held' now' R' t images' m W)
    → (ms : List ℕ) (Ws : List WriteSet) → AllByRecursion P ms → UndoToSavepoints held now R t images ms Ws → UndoToSavepoints held' now' R' t images' ms Ws
each_mark P f [] [] p h = tt
each_mark P f (m ∷ ms) (W ∷ Ws) p h = (f m W p.0 h.0, each_mark P f ms Ws p.1 h.1)
each_mark P f [] (W ∷ Ws) p h = h
each_mark P f (m ∷ ms) [] p h = h

anything : (ms : List ℕ) → AllByRecursion (λ m. Unit {0}) ms
anything [] = tt
anything (m ∷ ms) = (tt, anything ms)

module _ (held : List Hold) (t : ℕ) (now R : Records) where
  marks_within : (images : List (Rid × Image)) (ms : List ℕ) (Ws : List WriteSet) → UndoToSavepoints held now R t images ms Ws
      → AllByRecursion (λ m. m ≤ length images) ms
  marks_within images [] [] h = tt
  marks_within images (m ∷ ms) (W ∷ Ws) h = (h.0.within, marks_within images ms Ws h.1)
  marks_within images [] (W ∷ Ws) h = absurd h
  marks_within images (m ∷ ms) [] h = absurd h

  marks_push : (images : List (Rid × Image)) (ms : List ℕ) (Ws : List WriteSet) (m : ℕ) (W : WriteSet) → UndoToSavepoints held now R t images ms Ws
      → UndoesTo held now R t images m W → UndoToSavepoints held now R t images (ms ++ m ∷ []) (Ws ++ W ∷ [])
  marks_push images [] [] m W h g = (g, tt)
  marks_push images (n ∷ ms) (V ∷ Ws) m W h g = (h.0, marks_push images ms Ws m W h.1 g)
  marks_push images [] (V ∷ Ws) m W h g = absurd h
  marks_push images (n ∷ ms) [] m W h g = absurd h

  marks_take : (images : List (Rid × Image)) (n : ℕ) (ms : List ℕ) (Ws : List WriteSet) → UndoToSavepoints held now R t images ms Ws
      → UndoToSavepoints held now R t images (take n ms) (take n Ws)
  marks_take images zero ms Ws h = tt
  marks_take images (suc n) [] [] h = tt
  marks_take images (suc n) (m ∷ ms) (W ∷ Ws) h = (h.0, marks_take images n ms Ws h.1)
  marks_take images (suc n) [] (W ∷ Ws) h = absurd h
  marks_take images (suc n) (m ∷ ms) [] h = absurd h

  pub marks_alike : (images : List (Rid × Image)) (ms : List ℕ) (Ws : List WriteSet) → UndoToSavepoints held now R t images ms Ws
      → length ms ≡ length Ws
  marks_alike images [] [] h = refl
  marks_alike images (m ∷ ms) (W ∷ Ws) h = ap suc (marks_alike images ms Ws h.1)
  marks_alike images [] (W ∷ Ws) h = absurd h
  marks_alike images (m ∷ ms) [] h = absurd h

  -- the savepoint with the index n
  marks_at : (images : List (Rid × Image)) (n : ℕ) (ms : List ℕ) (Ws : List WriteSet) (m : ℕ) (W : WriteSet) → n < length Ws
      → UndoToSavepoints held now R t images ms Ws → UndoesTo held now R t images (unwrap_or (slice_get ms n) m) (unwrap_or (slice_get Ws n) W)
  marks_at images zero (m ∷ ms) (W ∷ Ws) d D less h = h.0
  marks_at images (suc n) (m ∷ ms) (W ∷ Ws) d D less h = marks_at images n ms Ws d D (omega arith) h.1
  marks_at images n [] [] d D less h = absurd (omega arith)
  marks_at images n [] (W ∷ Ws) d D less h = absurd h
  marks_at images n (m ∷ ms) [] d D less h = absurd h

-- the later the mark, the more images
rise_push : (ms : List ℕ) (m : ℕ) → AreRising ms → AllByRecursion (λ n. n ≤ m) ms → AreRising (ms ++ m ∷ [])
rise_push [] m h le = (tt, tt)
rise_push (n ∷ ms) m h le = (recursion-push (λ k. n ≤ k) ms m h.0 le.0, rise_push ms m h.1 le.1)

rise_take : (n : ℕ) (ms : List ℕ) → AreRising ms → AreRising (take n ms)
rise_take zero ms h = tt
rise_take (suc n) [] h = tt
rise_take (suc n) (m ∷ ms) h = (recursion-take (λ k. m ≤ k) n ms h.0, rise_take n ms h.1)

above_at : (b n d : ℕ) (ms : List ℕ) → n < length ms → AllByRecursion (λ k. b ≤ k) ms → b ≤ unwrap_or (slice_get ms n) d
above_at b zero d (m ∷ ms) less h = h.0
above_at b (suc n) d (m ∷ ms) less h = above_at b n d ms (omega arith) h.1
above_at b n d [] less h = absurd (omega arith)

-- no mark up to the one with the index n is above it
rise_below : (n d : ℕ) (ms : List ℕ) → n < length ms → AreRising ms → AllByRecursion (λ k. k ≤ unwrap_or (slice_get ms n) d) (take (suc n) ms)
rise_below zero d (m ∷ ms) less h = (omega arith, tt)
rise_below (suc n) d (m ∷ ms) less h = (above_at m n d ms (omega arith) h.0, rise_below n d ms (omega arith) h.1)
rise_below n d [] less h = absurd (omega arith)

-- ---- a transaction that can be undone

module _ {held : List Hold} {now R : Records} {t : ℕ} {undo : UndoList} {p : Progress} (k : CanUndo held now R t undo p) where
  -- the write sets of the savepoints that are left
  abbrev left_saved : List WriteSet
  left_saved = take (length undo.marks) p.saved

  all_left : undo.rolling ≡ None → left_saved ≡ p.saved
  all_left none = ap (λ n. take n p.saved) (k.complete none) ∙ take-length p.saved

  -- there is no mark without its savepoint
  pub marks_saved : length undo.marks ≤ length p.saved
  marks_saved =
      let same : length undo.marks ≡ length left_saved = marks_alike held t now R undo.images undo.marks left_saved k.savepoints in
      let most = length-take_most (length undo.marks) p.saved in
      omega arith

  -- others change nothing that it may read, in place or in the serial records
  pub undo_kept_by_others : (now' R' : Records) → ((id : Rid) → MayRead held t id → (get R' id ≡ get R id) × (get now' id ≡ get now id))
      → CanUndo held now' R' t undo p
  undo_kept_by_others now' R' same =
      let keep : (m : ℕ) (W : WriteSet) → Unit {0} → UndoesTo held now R t undo.images m W → UndoesTo held now' R' t undo.images m W =
      λ m W _ g. record {
        within = g.within;
        view = λ id r. laid_over-agree R R' (drop m undo.images) id (same id r).0 ∙ g.view id r ∙ sym (overlays_agree now now' W id (same id r).1);
        locked = g.locked;
      } in
      record {
        changed = k.changed;
        whole = keep 0 empty tt k.whole;
        savepoints = each_mark (λ m. Unit {0}) keep undo.marks left_saved (anything undo.marks) k.savepoints;
        rise = k.rise;
        complete = k.complete;
      }

  -- It changes an id. The new image is put back first, so that what is undone down to each mark is as before.
  pub change_undoes : (id : Rid) (image : Image) (W : WriteSet) → MayWrite held t id → CanUndo held now (put_image R id image) t (with_before_image R undo id) record { writes = W; saved = p.saved }
  change_undoes id image W w =
      let R' = put_image R id image in
      let images' = undo.images ++ (id, get R id) ∷ [] in
      let keep : (m : ℕ) (V : WriteSet) → Unit {0} → UndoesTo held now R t undo.images m V → UndoesTo held now R' t images' m V =
      λ m V _ g.
      let same : rolled_back R' (drop m images') ≡ rolled_back R (drop m undo.images) =
      ap (laid_over R') (drop-push m undo.images (id, get R id) g.within) ∙ laid_over-append R' (drop m undo.images) ((id, get R id) ∷ [])
      ∙ ap (λ S. laid_over S (drop m undo.images)) (put_back R id image) in
      let lengths : length images' ≡ length undo.images + 1 = length-push undo.images (id, get R id) in
      let le : m ≤ length undo.images = g.within in
      record {
        within = omega arith;
        view = λ q r. ap (λ S. get S q) same ∙ g.view q r;
        locked = g.locked;
      } in
      record {
        changed = recursion-push (λ e. MayWrite held t e.0) undo.images (id, get R id) k.changed w;
        whole = keep 0 empty tt k.whole;
        savepoints = each_mark (λ m. Unit {0}) keep undo.marks left_saved (anything undo.marks) k.savepoints;
        rise = k.rise;
        complete = k.complete;
      }

  -- it sets a savepoint, and there is nothing to undo beyond that yet
  pub savepoint_undoes : undo.rolling ≡ None → Sees held now R t p.writes
      → CanUndo held now R t record { images = undo.images; marks = undo.marks ++ length undo.images ∷ []; rolling = undo.rolling } record { writes = p.writes; saved = p.saved ++ p.writes ∷ [] }
  savepoint_undoes none m =
      let more = undo.marks ++ length undo.images ∷ [] in
      let lengths : length more ≡ length undo.marks + 1 = length-push undo.marks (length undo.images) in
      let longer : length (p.saved ++ p.writes ∷ []) ≡ length p.saved + 1 = length-push p.saved p.writes in
      let same = k.complete none in
      record {
        changed = k.changed;
        whole = k.whole;
        savepoints =
            subst (UndoToSavepoints held now R t undo.images more) (sym (take-beyond (length more) p.saved p.writes (omega arith)))
            (marks_push held t now R undo.images undo.marks p.saved (length undo.images) p.writes
            (subst (UndoToSavepoints held now R t undo.images undo.marks) (all_left none) k.savepoints) record {
              within = omega arith;
              view = λ id r. ap (λ es. get (laid_over R es) id) (drop-whole undo.images) ∙ m.view id r;
              locked = m.locked;
            });
        rise = rise_push undo.marks (length undo.images) k.rise (marks_within held t now R undo.images undo.marks left_saved k.savepoints);
        complete = λ i. omega arith;
      }

  -- it goes back to its savepoint n, at once or in steps
  module _ (n : ℕ) (less : n < length undo.marks) where
    abbrev back_mark : ℕ
    back_mark = mark_of undo n

    abbrev back_writes : WriteSet
    back_writes = unwrap_or (slice_get p.saved n) p.writes

    goes_back : UndoesTo held now R t undo.images back_mark back_writes
    goes_back =
        let most = marks_saved in
        let within : length left_saved ≡ length undo.marks = length-take_within (length undo.marks) p.saved most in
        subst (λ (W : Option WriteSet). UndoesTo held now R t undo.images back_mark (unwrap_or W p.writes)) (slice_get-take n (length undo.marks) p.saved less)
        (marks_at held t now R undo.images n undo.marks left_saved (length undo.images) p.writes (omega arith) k.savepoints)

    -- of the savepoints up to it each has its write set, and a mark that is not above its own
    few_left : take (n + 1) left_saved ≡ take (n + 1) p.saved
    few_left = take-take (n + 1) (length undo.marks) p.saved (omega arith)

    few_marks : length (take (n + 1) undo.marks) ≡ n + 1
    few_marks = length-take_within (n + 1) undo.marks (omega arith)

    marks_below : AllByRecursion (λ m. m ≤ back_mark) (take (n + 1) undo.marks)
    marks_below =
        subst (λ j. AllByRecursion (λ m. m ≤ back_mark) (take j undo.marks)) (sym (add-one n)) (rise_below n (length undo.images) undo.marks less k.rise)

    savepoints_left : UndoToSavepoints held now R t undo.images (take (n + 1) undo.marks) (take (n + 1) p.saved)
    savepoints_left =
        subst (UndoToSavepoints held now R t undo.images (take (n + 1) undo.marks)) few_left
        (marks_take held t now R undo.images (n + 1) undo.marks left_saved k.savepoints)

    pub back_sees : Sees held now (rolled_back R (drop back_mark undo.images)) t back_writes
    back_sees = record { view = goes_back.view; locked = goes_back.locked }

    pub back_changes : (id : Rid) → (get (rolled_back R (drop back_mark undo.images)) id ≡ get R id) ⊎ MayWrite held t id
    back_changes id =
        laid_or_left (MayWrite held t) R (drop back_mark undo.images) id (recursion-drop (λ e. MayWrite held t e.0) back_mark undo.images k.changed)

    back_keeps : (m : ℕ) (W : WriteSet) → m ≤ back_mark → UndoesTo held now R t undo.images m W
        → UndoesTo held now (rolled_back R (drop back_mark undo.images)) t (take back_mark undo.images) m W
    back_keeps m W le g =
        let same : rolled_back (rolled_back R (drop back_mark undo.images)) (drop m (take back_mark undo.images)) ≡ rolled_back R (drop m undo.images) =
        sym (laid_over-append R (drop m (take back_mark undo.images)) (drop back_mark undo.images)) ∙ ap (laid_over R) (drop-between m back_mark undo.images le goes_back.within) in
        record {
          within = subst (λ l. m ≤ l) (sym (length-take_within back_mark undo.images goes_back.within)) le;
          view = λ id r. ap (λ S. get S id) same ∙ g.view id r;
          locked = g.locked;
        }

    pub back_undoes : CanUndo held now (rolled_back R (drop back_mark undo.images)) t record { images = take back_mark undo.images; marks = take (n + 1) undo.marks; rolling = None } record { writes = back_writes; saved = take (n + 1) p.saved }
    back_undoes =
        let R' = rolled_back R (drop back_mark undo.images) in
        let few : length (take (n + 1) p.saved) ≡ n + 1 = let most = marks_saved in length-take_within (n + 1) p.saved (omega arith) in
        record {
          changed = recursion-take (λ e. MayWrite held t e.0) back_mark undo.images k.changed;
          whole = back_keeps 0 empty (omega arith) k.whole;
          savepoints =
              subst (UndoToSavepoints held now R' t (take back_mark undo.images) (take (n + 1) undo.marks))
              (sym (ap (λ j. take j (take (n + 1) p.saved)) few_marks ∙ take-take (n + 1) (n + 1) p.saved (omega arith)))
              (each_mark (λ m. m ≤ back_mark) back_keeps (take (n + 1) undo.marks) (take (n + 1) p.saved) marks_below savepoints_left);
          rise = rise_take (n + 1) undo.marks k.rise;
          complete = λ none. few_marks ∙ sym few;
        }

  -- the newest image is put back; the rest is left to undo
  module _ (kept : List (Rid × Image)) (e : Rid × Image) (is : undo.images ≡ kept ++ e ∷ []) where
    step_keeps : (m : ℕ) (W : WriteSet) → m ≤ length kept → UndoesTo held now R t undo.images m W → UndoesTo held now (put_image R e.0 e.1) t kept m W
    step_keeps m W le g =
        let same : rolled_back (put_image R e.0 e.1) (drop m kept) ≡ rolled_back R (drop m undo.images) =
        sym (laid_over-append R (drop m kept) (e ∷ [])) ∙ ap (laid_over R) (sym (drop-push m kept e le) ∙ ap (drop m) (sym is)) in
        record { within = le; view = λ id r. ap (λ S. get S id) same ∙ g.view id r; locked = g.locked }

    step_changed : AllByRecursion (λ d. MayWrite held t d.0) kept
    step_changed = recursion-unpush (λ d. MayWrite held t d.0) kept e (subst (AllByRecursion (λ d. MayWrite held t d.0)) is k.changed)

    pub step_undoes : (r : Rollback) → MayRoll undo r → least_kept undo r ≤ length kept → CanUndo held now (put_image R e.0 e.1) t (undo_rolled undo kept r) p
    step_undoes Whole may least = record {
      changed = step_changed;
      whole = step_keeps 0 empty (omega arith) k.whole;
      savepoints = tt;
      rise = tt;
      complete = λ none. cc;
    }
    step_undoes (To n) may least = record {
      changed = step_changed;
      whole = step_keeps 0 empty (omega arith) k.whole;
      savepoints =
          subst (UndoToSavepoints held now (put_image R e.0 e.1) t kept (take (n + 1) undo.marks))
          (ap (λ j. take j p.saved) (sym (few_marks n may.0)))
          (each_mark (λ m. m ≤ length kept) step_keeps (take (n + 1) undo.marks) (take (n + 1) p.saved)
          (recursion-weaker (λ m. m ≤ mark_of undo n) (λ m. m ≤ length kept) (λ m le. omega arith) (take (n + 1) undo.marks) (marks_below n may.0))
          (savepoints_left n may.0));
      rise = rise_take (n + 1) undo.marks k.rise;
      complete = λ none. cc;
    }

  -- from now on it is undone only as a whole, and its savepoints go
  pub doom_undoes : CanUndo held now R t (undo_rolled undo undo.images Whole) p
  doom_undoes = record { changed = k.changed; whole = k.whole; savepoints = tt; rise = tt; complete = λ none. cc }

  -- it is undone as a whole: the records that it may read are serial again
  pub undone_agrees : (id : Rid) → MayRead held t id → get (rolled_back R undo.images) id ≡ get now id
  undone_agrees id r = k.whole.view id r ∙ ap (λ S. get S id) (overlay_empty now)

  pub undone_changes : (id : Rid) → (get (rolled_back R undo.images) id ≡ get R id) ⊎ MayWrite held t id
  undone_changes id = laid_or_left (MayWrite held t) R undo.images id k.changed

  -- Locks move, and it loses none. At an id that it may read only now neither its changes nor their undo have changed anything.
  pub undo_kept_by_locks : (new : List Hold) (L : WriteSet) → ((id : Rid) → MayRead held t id → MayRead new t id)
      → ((id : Rid) → MayWrite held t id → MayWrite new t id)
      → Sees held now R t L → Sees new now R t L → CanUndo new now R t undo p
  undo_kept_by_locks new L reads writes m m' =
      let keep : (n : ℕ) (W : WriteSet) → Unit {0} → UndoesTo held now R t undo.images n W → UndoesTo new now R t undo.images n W =
      λ n W _ g. record {
        within = g.within;
        view = λ id r.
            let old : MayRead held t id → get (rolled_back R (drop n undo.images)) id ≡ get (overlay now W) id = λ r. g.view id r in
            ⊎_elim (λ left.
            ⊎_elim (λ w. old (read_of_write held t id (g.locked id w)))
            (λ none.
            ⊎_elim (λ w. old (read_of_write held t id (m.locked id w)))
            (λ unwritten. left ∙ m'.view id r ∙ overlay_none now L id unwritten ∙ sym (overlay_none now W id none))
            (some_or_none (get L id)))
            (some_or_none (get W id)))
            (λ w. old (read_of_write held t id w))
            (laid_or_left (MayWrite held t) R (drop n undo.images) id (recursion-drop (λ e. MayWrite held t e.0) n undo.images k.changed));
        locked = λ id w. writes id (g.locked id w);
      } in
      record {
        changed = recursion-weaker (λ e. MayWrite held t e.0) (λ e. MayWrite new t e.0) (λ e w. writes e.0 w) undo.images k.changed;
        whole = keep 0 empty tt k.whole;
        savepoints = each_mark (λ m. Unit {0}) keep undo.marks left_saved (anything undo.marks) k.savepoints;
        rise = k.rise;
        complete = k.complete;
      }

-- it has only begun
pub begin_undoes : (held : List Hold) (now R : Records) (t : ℕ) → ((id : Rid) → MayRead held t id → ⊥) → CanUndo held now R t nothing_to_undo start
begin_undoes held now R t holds_none = record {
  changed = tt;
  whole = record { within = omega arith; view = λ id r. absurd (holds_none id r); locked = λ id w. absurd (not_some (get-empty rid_cmp id) w) };
  savepoints = tt;
  rise = tt;
  complete = λ i. refl;
}
