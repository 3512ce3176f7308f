-- Steps of loops over the records of a log: one record more.
use Rattle.std.proofs.Common.{◌≡◌, ◌<◌, ◌≤◌, ◌+◌, ℕ, suc, List, [], ◌∷◌, ◌++◌, Option, Some, None, Bool, true, false, cond, drop, map, refl, length, get_or, take, min, sym, ap, ◌∙◌, arith, append-nil}
use Rattle.std.specs.Prelude.{filter, reverse, ◌==◌}
use Rattle.std.specs.List.{filter_map, enumerate_from, cons_option}
use Rattle.std.specs.FinMap.{from_entries}
use Rattle.std.proofs.lemmas.List.{take_more, take_min, length-take, reverse-append}
use Rattle.std.proofs.lemmas.List.Elements.{filter-append, filter_map-append}
use Rattle.std.proofs.Math.Seq.{take-length}
use Rattle.shore_types.specs.declared.ids.Rid.{Rid}
use Rattle.shore_model.specs.declared.log_records.LogRecord.{LogRecord}
use Rattle.shore_model.specs.Records.{Records, WriteSet, overlays}
use Rattle.shore_types.specs.Images.{Image}
use Rattle.shore_model.specs.Logs.{numbered, records_of, first_number, last_of, image_in, with_image, last_images, logged_writes, answered_by, unanswered_in, unanswered, prepare_of}
use Rattle.shore_model.proofs.Steps.{at_place}

module _ {A : Type 0} (xs : List A) (i : ℕ) where
  pub take-one_more : (x : A) → i < length xs → x ≡ get_or xs i x → take (i + 1) xs ≡ take i xs ++ x ∷ []
  take-one_more x within is = take_more xs i x within ∙ ap (λ y. take i xs ++ y ∷ []) (sym is)

  pub take-whole : length xs ≤ i → take i xs ≡ xs
  take-whole done =
      let all : min i (length xs) ≡ length xs = omega arith in
      sym (take_min i xs) ∙ ap (λ n. take n xs) all ∙ take-length xs

-- ---- numbers

enumerate-push : (n : ℕ) (rs : List LogRecord) (r : LogRecord) → enumerate_from n (rs ++ r ∷ []) ≡ enumerate_from n rs ++ (n + length rs, r) ∷ []
enumerate-push n [] r = let e : n ≡ n + 0 = omega arith in ap (λ (k : ℕ). (k, r) ∷ []) e
enumerate-push n (x ∷ rs) r =
    let e : n + 1 + length rs ≡ n + suc (length rs) = omega arith in
    ap (λ es. (n, x) ∷ es) (enumerate-push (n + 1) rs r ∙ ap (λ (k : ℕ). enumerate_from (n + 1) rs ++ (k, r) ∷ []) e)

reverse-next : (b : Bool) (e : ℕ × LogRecord) (es : List (ℕ × LogRecord)) → reverse (es ++ cond b (e ∷ []) []) ≡ cond b (e ∷ reverse es) (reverse es)
reverse-next true e es = reverse-append es (e ∷ [])
reverse-next false e es = ap reverse (append-nil es)

pub newest-push : (t : ℕ) (rs : List LogRecord) (r : LogRecord)
    → reverse (records_of t (rs ++ r ∷ [])) ≡ cond (r.txn == t) ((1 + length rs, r) ∷ reverse (records_of t rs)) (reverse (records_of t rs))
newest-push t rs r =
    ap (λ es. reverse (filter (λ e. e.1.txn == t) es)) (enumerate-push 1 rs r)
    ∙ ap reverse (filter-append (λ e. e.1.txn == t) (numbered rs) ((1 + length rs, r) ∷ []))
    ∙ reverse-next (r.txn == t) (1 + length rs, r) (records_of t rs)

-- ---- images

with_image-next : (o : Option (Rid × Image)) (es : List (Rid × Image)) → from_entries (reverse (es ++ cons_option o [])) ≡ with_image (from_entries (reverse es)) o
with_image-next (Some e) es = ap from_entries (reverse-append es (e ∷ []))
with_image-next None es = ap (λ xs. from_entries (reverse xs)) (append-nil es)

pub last_images-push : (rs : List LogRecord) (r : LogRecord) → last_images (rs ++ r ∷ []) ≡ with_image (last_images rs) (image_in r.payload)
last_images-push rs r =
    ap (λ es. from_entries (reverse es)) (filter_map-append (λ r. image_in r.payload) rs (r ∷ []))
    ∙ with_image-next (image_in r.payload) (filter_map (λ r. image_in r.payload) rs)

pub logged_writes-one_more : (t : ℕ) (rs : List LogRecord) (r : LogRecord)
    → logged_writes (rs ++ r ∷ []) t ≡ last_images (filter (λ r. r.txn == t) rs ++ cond (r.txn == t) (r ∷ []) [])
logged_writes-one_more t rs r = ap last_images (filter-append (λ r. r.txn == t) rs (r ∷ []))

module _ (rs : List LogRecord) (i : ℕ) (r : LogRecord) (within : i < length rs) (is : r ≡ get_or rs i r) where
  pub last_images-more : last_images (take (i + 1) rs) ≡ with_image (last_images (take i rs)) (image_in r.payload)
  last_images-more = ap last_images (take-one_more rs i r within is) ∙ last_images-push (take i rs) r

  -- a record of the transaction adds its image to the transaction's writes, and another does not
  pub logged_writes-more : (t : ℕ) → (r.txn == t) ≡ true → logged_writes (take (i + 1) rs) t ≡ with_image (logged_writes (take i rs) t) (image_in r.payload)
  logged_writes-more t own =
      ap (λ xs. logged_writes xs t) (take-one_more rs i r within is) ∙ logged_writes-one_more t (take i rs) r
      ∙ ap (λ b. last_images (filter (λ r. r.txn == t) (take i rs) ++ cond b (r ∷ []) [])) own
      ∙ last_images-push (filter (λ r. r.txn == t) (take i rs)) r

  pub logged_writes-same : (t : ℕ) → (r.txn == t) ≡ false → logged_writes (take (i + 1) rs) t ≡ logged_writes (take i rs) t
  logged_writes-same t other =
      ap (λ xs. logged_writes xs t) (take-one_more rs i r within is) ∙ logged_writes-one_more t (take i rs) r
      ∙ ap (λ b. last_images (filter (λ r. r.txn == t) (take i rs) ++ cond b (r ∷ []) [])) other
      ∙ ap last_images (append-nil (filter (λ r. r.txn == t) (take i rs)))

-- ---- Changes that no Compensation has answered

module _ (rs : List LogRecord) (i : ℕ) (r : LogRecord) (within : i < length rs) (is : r ≡ get_or rs i r) (t : ℕ) where
  newest-more : reverse (records_of t (take (i + 1) rs)) ≡ cond (r.txn == t) ((i + 1, r) ∷ reverse (records_of t (take i rs))) (reverse (records_of t (take i rs)))
  newest-more =
      let count : 1 + length (take i rs) ≡ i + 1 = omega (arith, length-take i rs) in
      ap (λ xs. reverse (records_of t xs)) (take-one_more rs i r within is) ∙ newest-push t (take i rs) r
      ∙ ap (λ (n : ℕ). cond (r.txn == t) ((n, r) ∷ reverse (records_of t (take i rs))) (reverse (records_of t (take i rs)))) count

  newest-own : (r.txn == t) ≡ true → reverse (records_of t (take (i + 1) rs)) ≡ (i + 1, r) ∷ reverse (records_of t (take i rs))
  newest-own own = newest-more ∙ ap (λ b. cond b ((i + 1, r) ∷ reverse (records_of t (take i rs))) (reverse (records_of t (take i rs)))) own

  newest-other : (r.txn == t) ≡ false → reverse (records_of t (take (i + 1) rs)) ≡ reverse (records_of t (take i rs))
  newest-other other = newest-more ∙ ap (λ b. cond b ((i + 1, r) ∷ reverse (records_of t (take i rs))) (reverse (records_of t (take i rs)))) other

  pub unanswered-more : (r.txn == t) ≡ true → unanswered t (take (i + 1) rs) ≡ answered_by (i + 1) r.payload (unanswered t (take i rs))
  unanswered-more own = ap unanswered_in (newest-own own)

  pub unanswered-same : (r.txn == t) ≡ false → unanswered t (take (i + 1) rs) ≡ unanswered t (take i rs)
  unanswered-same other = ap unanswered_in (newest-other other)

  pub last_of-more : (r.txn == t) ≡ true → last_of t (take (i + 1) rs) ≡ i + 1
  last_of-more own = ap first_number (newest-own own)

  pub last_of-same : (r.txn == t) ≡ false → last_of t (take (i + 1) rs) ≡ last_of t (take i rs)
  last_of-same other = ap first_number (newest-other other)

-- ---- what a list tells

module _ (W : ℕ → WriteSet) (p : ℕ → Bool) where
  -- the records, overlaid for those of some transactions that pass
  abbrev pub laid_where : Records → List ℕ → Records
  laid_where R ts = overlays R (map W (filter p ts))

  one_laid : (b : Bool) (R : Records) (t : ℕ) (ts : List ℕ) → overlays R (map W (cond b (t ∷ ts) ts)) ≡ overlays (overlays R (map W (cond b (t ∷ []) []))) (map W ts)
  one_laid true R t ts = refl
  one_laid false R t ts = refl

  one_prepared : (o : Option ℕ) (R : Records) (ts : List ℕ) → laid_where R (cons_option o ts) ≡ laid_where (laid_where R (cons_option o [])) ts
  one_prepared (Some t) R ts = one_laid (p t) R t (filter p ts)
  one_prepared None R ts = refl

  -- one record more, which may be a Prepare
  pub laid-prepare : (R : Records) (rs : List LogRecord) (i : ℕ) (r : LogRecord) → i < length rs → r ≡ get_or rs i r
      → laid_where R (filter_map prepare_of (drop i rs)) ≡ laid_where (laid_where R (filter_map prepare_of (r ∷ []))) (filter_map prepare_of (drop (i + 1) rs))
  laid-prepare R rs i r within is =
      ap (λ xs. laid_where R (filter_map prepare_of xs)) (at_place rs i r within is) ∙ one_prepared (prepare_of r) R (filter_map prepare_of (drop (i + 1) rs))
