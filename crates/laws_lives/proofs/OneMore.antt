-- What transactions have in the log, and have written, with one more record.
use Rattle.std.proofs.Common.{◌≡◌, ◌≢◌, ◌+◌, ⊎_elim, ℕ, List, [], ◌∷◌, ◌++◌, Bool, true, false, cond, Some, None, refl, sym, ap, subst, ◌∙◌, length, drop, append-nil, append_assoc}
use Rattle.std.specs.Prelude.{◌==◌, ◌&&◌, ◌||◌}
use Rattle.std.specs.List.{AllByRecursion}
use Rattle.std.specs.Ordering.{eq_by_cmp}
use Rattle.std.specs.Cmp.{eq_by_cmp_equiv}
use Rattle.std.specs.FinMap.{get, get-insert}
use Rattle.std.proofs.lemmas.Bool.{eq-eqb, ne_eqb, eqb-true, cases_Bool, true≢false}
use Rattle.std.proofs.lemmas.List.Elements.{recursion_from_All}
use Rattle.std.proofs.lemmas.List.Folds.{list_any-append}
use Rattle.shore_types.specs.Ids.{rid_cmp, rids_total, exact_rids}
use Rattle.shore_types.specs.declared.ids.Rid.{Rid}
use Rattle.shore_model.specs.declared.unanswered_changes.UnansweredChange.{UnansweredChange}
use Rattle.shore_model.specs.declared.log_records.LogRecord.{LogRecord}
use Rattle.shore_model.specs.declared.log_records.Payload.{Payload}
use Rattle.shore_model.specs.declared.log_records.Payload.TheVariants.{Change, Compensation}
use Rattle.shore_model.specs.Records.{WriteSet}
use Rattle.shore_types.specs.Images.{Image}
use Rattle.shore_model.specs.Logs.{has, is_over, is_commit, is_end, id_in, image_in, with_image, logged_writes, answered_by, unanswered, NoOtherChanged, LeavesFree}
use Rattle.shore_model.proofs.Maps.{get_id}
use Rattle.laws_lives.proofs.LogTells.{logged_other, logged_own}
use Rattle.laws_lives.proofs.UnansweredChanges.{unanswered_other, unanswered_own}
use Rattle.laws_lives.specs.Writers.{changes_id, image_undone}
use Rattle.laws_lives.proofs.Redo.{or_image}
use Rattle.laws_lives.proofs.Booleans.{and_true, is_equal, or_none, or_true}

or_false : (b : Bool) → (b || false) ≡ b
or_false true = refl
or_false false = refl

module _ (log : List LogRecord) (r : LogRecord) where
  abbrev after : List LogRecord
  after = log ++ r ∷ []

  -- ---- records

  pub has-push : (p : Payload → Bool) (u : ℕ) → has p u after ≡ (has p u log || ((r.txn == u) && p r.payload))
  has-push p u = list_any-append (λ x. (x.txn == u) && p x.payload) log (r ∷ []) ∙ ap (λ b. has p u log || b) (or_false ((r.txn == u) && p r.payload))

  or_and_none : (a b c : Bool) → c ≡ false → (a || (b && c)) ≡ a
  or_and_none true b c h = refl
  or_and_none false true c h = h
  or_and_none false false c h = refl

  or_none_and : (a b c : Bool) → b ≡ false → (a || (b && c)) ≡ a
  or_none_and true b c h = refl
  or_none_and false b c h = ap (λ b. b && c) h

  pub has-not_this : (p : Payload → Bool) (u : ℕ) → p r.payload ≡ false → has p u after ≡ has p u log
  has-not_this p u h = has-push p u ∙ or_and_none (has p u log) (r.txn == u) (p r.payload) h

  pub has-not_its : (p : Payload → Bool) (u : ℕ) → r.txn ≢ u → has p u after ≡ has p u log
  has-not_its p u h = has-push p u ∙ or_none_and (has p u log) (r.txn == u) (p r.payload) (ne_eqb r.txn u h)

  pub has-more : (p : Payload → Bool) (u : ℕ) → has p u log ≡ true → has p u after ≡ true
  has-more p u h = has-push p u ∙ ap (λ b. b || ((r.txn == u) && p r.payload)) h

  or_this : (a b c : Bool) → b ≡ true → c ≡ true → (a || (b && c)) ≡ true
  or_this true b c p q = refl
  or_this false b c p q = ap (λ b. b && c) p ∙ q

  pub has-this : (p : Payload → Bool) → p r.payload ≡ true → has p r.txn after ≡ true
  has-this p h = has-push p r.txn ∙ or_this (has p r.txn log) (r.txn == r.txn) (p r.payload) (eq-eqb r.txn r.txn refl) h

  or_more : (a b c d : Bool) → (a ≡ true → c ≡ true) → (b ≡ true → d ≡ true) → (a || b) ≡ true → (c || d) ≡ true
  or_more true b c d f g h = ap (λ x. x || d) (f refl)
  or_more false b true d f g h = refl
  or_more false b false d f g h = g h

  pub over-more : (u : ℕ) → is_over u log ≡ true → is_over u after ≡ true
  over-more u h = or_more (has is_commit u log) (has is_end u log) (has is_commit u after) (has is_end u after) (has-more is_commit u) (has-more is_end u) h

-- ---- ids that a transaction has changed

-- P holds of every log, if it holds of the empty one and one more record keeps it
pub by_push : (P : List LogRecord → Type 0) → P [] → ((log : List LogRecord) (r : LogRecord) → P log → P (log ++ r ∷ [])) → (log : List LogRecord) → P log
by_push P none more log = after_all [] log none
  where
    after_all : (front back : List LogRecord) → P front → P (front ++ back)
    after_all front [] h = subst P (sym (append-nil front)) h
    after_all front (r ∷ back) h = subst P (append_assoc front (r ∷ []) back) (after_all (front ++ r ∷ []) back (more front r h))

pub same_id : (q id : Rid) → eq_by_cmp rid_cmp q id ≡ true → q ≡ id
same_id q id e = exact_rids q id (is_equal (rid_cmp q id) e)

pub id_itself : (q : Rid) → eq_by_cmp rid_cmp q q ≡ true
id_itself q = (eq_by_cmp_equiv rids_total).refl q

-- a payload that does not change the id has no image for it
pub no_image_there : (q : Rid) (p : Payload) (image : Image) → changes_id q p ≡ false → or_image (image_in p) q image ≡ image
no_image_there q (Change id before after) image h = ap (λ b. cond b after image) h
no_image_there q (Compensation id after undo_next) image h = ap (λ b. cond b after image) h
no_image_there q _ image h = refl

pub no_write_there : (q : Rid) (p : Payload) (W : WriteSet) → changes_id q p ≡ false → get (with_image W (image_in p)) q ≡ get W q
no_write_there q (Change id before after) W h = get-insert rids_total W id after q ∙ ap (λ b. cond b (Some after) (get W q)) h
no_write_there q (Compensation id after undo_next) W h = get-insert rids_total W id after q ∙ ap (λ b. cond b (Some after) (get W q)) h
no_write_there q _ W h = refl

and_this : (a b : Bool) → a ≡ true → (a && b) ≡ false → b ≡ false
and_this true b e h = h
and_this false b e h = cc

-- who has not changed the id has written nothing there
pub writes_none : (log : List LogRecord) (t : ℕ) (q : Rid) → has (changes_id q) t log ≡ false → get (logged_writes log t) q ≡ None
writes_none = by_push (λ log. (t : ℕ) (q : Rid) → has (changes_id q) t log ≡ false → get (logged_writes log t) q ≡ None) (λ t q h. get_id [] q) one_more
  where
    one_more : (log : List LogRecord) (r : LogRecord) → ((t : ℕ) (q : Rid) → has (changes_id q) t log ≡ false → get (logged_writes log t) q ≡ None)
        → (t : ℕ) (q : Rid) → has (changes_id q) t (log ++ r ∷ []) ≡ false → get (logged_writes (log ++ r ∷ []) t) q ≡ None
    one_more log r known t q h =
        let none = or_none (has (changes_id q) t log) ((r.txn == t) && changes_id q r.payload) (sym (has-push log r (changes_id q) t) ∙ h) in
        ⊎_elim
        (λ own.
        let same : r.txn ≡ t = eqb-true r.txn t own in
        subst (λ u. get (logged_writes (log ++ r ∷ []) u) q ≡ None) same
        (ap (λ W. get W q) (logged_own log r r.txn refl) ∙ no_write_there q r.payload (logged_writes log r.txn) (and_this (r.txn == t) (changes_id q r.payload) own none.1)
        ∙ ap (λ u. get (logged_writes log u) q) same ∙ known t q none.0))
        (λ other. ap (λ W. get W q) (logged_other log r t (λ e. let yes : (r.txn == t) ≡ true = eq-eqb r.txn t e in cc)) ∙ known t q none.0)
        (cases_Bool (r.txn == t))

-- the transaction has changed each id of these Changes
abbrev pub AreKnown : List LogRecord → ℕ → List UnansweredChange → Type 0
AreKnown log t cs = AllByRecursion (λ c. has (changes_id c.id) t log ≡ true) cs

known_more : (log : List LogRecord) (r : LogRecord) (t : ℕ) (cs : List UnansweredChange) → AreKnown log t cs → AreKnown (log ++ r ∷ []) t cs
known_more log r t [] h = tt
known_more log r t (c ∷ cs) h = (has-more log r (changes_id c.id) t h.0, known_more log r t cs h.1)

known_tail : (log : List LogRecord) (t : ℕ) (cs : List UnansweredChange) → AreKnown log t cs → AreKnown log t (drop 1 cs)
known_tail log t [] h = tt
known_tail log t (c ∷ cs) h = h.1

known_answered : (log : List LogRecord) (r : LogRecord) (p : Payload) → r.payload ≡ p → AreKnown log r.txn (unanswered r.txn log)
    → AreKnown (log ++ r ∷ []) r.txn (answered_by (1 + length log) p (unanswered r.txn log))
known_answered log r (Change id before image) e h = (has-this log r (changes_id id) (ap (changes_id id) e ∙ id_itself id), known_more log r r.txn (unanswered r.txn log) h)
known_answered log r (Compensation id image undo_next) e h = known_tail (log ++ r ∷ []) r.txn (unanswered r.txn log) (known_more log r r.txn (unanswered r.txn log) h)
known_answered log r _ e h = known_more log r r.txn (unanswered r.txn log) h

pub unanswered_known : (log : List LogRecord) (t : ℕ) → AreKnown log t (unanswered t log)
unanswered_known = by_push (λ log. (t : ℕ) → AreKnown log t (unanswered t log)) (λ t. tt) one_more
  where
    one_more : (log : List LogRecord) (r : LogRecord) → ((t : ℕ) → AreKnown log t (unanswered t log)) → (t : ℕ) → AreKnown (log ++ r ∷ []) t (unanswered t (log ++ r ∷ []))
    one_more log r known t = ⊎_elim
        (λ own. subst (λ u. AreKnown (log ++ r ∷ []) u (unanswered u (log ++ r ∷ []))) (eqb-true r.txn t own)
        (subst (AreKnown (log ++ r ∷ []) r.txn) (sym (unanswered_own r.txn log r refl)) (known_answered log r r.payload refl (known r.txn))))
        (λ other. subst (AreKnown (log ++ r ∷ []) t) (sym (unanswered_other t log r (λ e. let yes : (r.txn == t) ≡ true = eq-eqb r.txn t e in cc))) (known_more log r t (unanswered t log) (known t)))
        (cases_Bool (r.txn == t))

-- undo of who has not changed the id leaves it
pub undone_elsewhere : (log : List LogRecord) (t : ℕ) (q : Rid) → has (changes_id q) t log ≡ false → (image : Image) (cs : List UnansweredChange) → AreKnown log t cs → image_undone image q cs ≡ image
undone_elsewhere log t q none image [] h = refl
undone_elsewhere log t q none image (c ∷ cs) h = ⊎_elim
    (λ here. let same : has (changes_id q) t log ≡ true = ap (λ id. has (changes_id id) t log) (same_id q c.id here) ∙ h.0 in absurd (true≢false (sym same ∙ none)))
    (λ off. ap (λ b. image_undone (cond b c.before image) q cs) off ∙ undone_elsewhere log t q none image cs h.1)
    (cases_Bool (eq_by_cmp rid_cmp q c.id))

-- ---- others

pub changed_there : (q : Rid) (p : Payload) → changes_id q p ≡ true → id_in p ≡ Some q
changed_there q (Change id before after) h = ap Some (sym (same_id q id h))
changed_there q (Compensation id after undo_next) h = ap Some (sym (same_id q id h))
changed_there q _ h = cc

others_end : (over : ℕ → Bool) (t : ℕ) (q : Rid) (xs : List LogRecord) → AllByRecursion (λ r. id_in r.payload ≡ Some q → r.txn ≢ t → over r.txn ≡ true) xs
    → (u : ℕ) → (u ≡ t → ⊥) → has (changes_id q) u xs ≡ true → over u ≡ true
others_end over t q [] h u ne has_it = cc
others_end over t q (r ∷ xs) h u ne has_it = ⊎_elim
    (λ here.
    let both = and_true (r.txn == u) (changes_id q r.payload) here in
    let same : r.txn ≡ u = eqb-true r.txn u both.0 in
    subst (λ v. over v ≡ true) same (h.0 (changed_there q r.payload both.1) (λ e. ne (sym same ∙ e))))
    (λ later. others_end over t q xs h.1 u ne later)
    (or_true ((r.txn == u) && changes_id q r.payload) (has (changes_id q) u xs) has_it)

-- the condition of a Change: whoever else has changed the id has ended
pub others_over : (log : List LogRecord) (t : ℕ) (q : Rid) → NoOtherChanged log t q → (u : ℕ) → (u ≡ t → ⊥) → has (changes_id q) u log ≡ true → is_over u log ≡ true
others_over log t q h = others_end (λ u. is_over u log) t q log (recursion_from_All (LeavesFree log t q) log h)
