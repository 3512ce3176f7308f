-- A transaction's unanswered Changes as its records come: a Change goes on top, and a Compensation takes the top one off.
use Rattle.std.proofs.Common.{◌≡◌, ◌≢◌, ◌++◌, ℕ, List, [], ◌∷◌, cond, refl, sym, ap, ◌∙◌, ◌+◌, length, drop, map, append_assoc, append-nil}
use Rattle.std.specs.Prelude.{reverse}
use Rattle.std.proofs.lemmas.Bool.{eq-eqb, ne_eqb}
use Rattle.std.proofs.lemmas.List.{reverse-append}
use Rattle.shore_types.specs.declared.ids.Rid.{Rid}
use Rattle.shore_model.specs.declared.unanswered_changes.UnansweredChange.{UnansweredChange}
use Rattle.shore_model.specs.declared.log_records.LogRecord.{LogRecord}
use Rattle.shore_model.specs.declared.log_records.Payload.TheVariants.{Change, Compensation}
use Rattle.shore_model.specs.Logs.{Answers, answered_by, previous_of, records_of, unanswered, unanswered_in, undo_next_of}
use Rattle.shore_model.proofs.LogSteps.{newest-push}
use Rattle.shore_types.specs.Images.{Image}
use Rattle.laws_lives.specs.LogTells.{MatchesUndo}
use Rattle.laws_lives.specs.Logged.{and_compensations, and_record, next_to_undo}

-- a record of its own, and one of another
pub unanswered_own : (t : ℕ) (log : List LogRecord) (r : LogRecord) → r.txn ≡ t
    → unanswered t (log ++ r ∷ []) ≡ answered_by (1 + length log) r.payload (unanswered t log)
unanswered_own t log r own =
    ap unanswered_in
    (newest-push t log r ∙ ap (λ b. cond b ((1 + length log, r) ∷ reverse (records_of t log)) (reverse (records_of t log))) (eq-eqb r.txn t own))

pub unanswered_other : (t : ℕ) (log : List LogRecord) (r : LogRecord) → r.txn ≢ t → unanswered t (log ++ r ∷ []) ≡ unanswered t log
unanswered_other t log r other =
    ap unanswered_in
    (newest-push t log r ∙ ap (λ b. cond b ((1 + length log, r) ∷ reverse (records_of t log)) (reverse (records_of t log))) (ne_eqb r.txn t other))

reverse_last : (xs : List (Rid × Image)) (e : Rid × Image) → reverse (xs ++ e ∷ []) ≡ e ∷ reverse xs
reverse_last xs e = reverse-append xs (e ∷ [])

-- a change
pub change_matches : (t : ℕ) (log : List LogRecord) (images : List (Rid × Image)) (id : Rid) (before image : Image) → MatchesUndo log t images
    → MatchesUndo (and_record t log (Change id before image)) t (images ++ (id, before) ∷ [])
change_matches t log images id before image h =
    ap (map (λ c. (c.id, c.before))) (unanswered_own t log record { txn = t; previous = previous_of t log; payload = Change id before image } refl)
    ∙ ap (λ es. (id, before) ∷ es) h ∙ sym (reverse_last images (id, before))

abbrev first_id : Rid → List (Rid × Image) → Rid
first_id id [] = id
first_id id (e ∷ es) = e.0

abbrev first_image : Image → List (Rid × Image) → Image
first_image image [] = image
first_image image (e ∷ es) = e.1

-- the newest of the Changes is the last image of the undo list
answers_last : (cs : List UnansweredChange) (id : Rid) (image : Image) (es : List (Rid × Image)) → map (λ c. (c.id, c.before)) cs ≡ (id, image) ∷ es
    → Answers cs id image (undo_next_of (drop 1 cs)) × (map (λ c. (c.id, c.before)) (drop 1 cs) ≡ es)
answers_last [] id image es h = cc
answers_last (c ∷ cs) id image es h =
    let same_id : id ≡ c.id = sym (ap (first_id id) h) in
    let same_image : image ≡ c.before = sym (ap (first_image image) h) in
    ((refl, same_id, same_image), ap (drop 1) h)

-- ---- a rollback

-- its Compensations take its images off
pub compensations_match : (t : ℕ) (log : List LogRecord) (kept es : List (Rid × Image)) → MatchesUndo log t (kept ++ es)
    → MatchesUndo (and_compensations t log es) t kept
compensations_match t log kept [] h = h ∙ ap reverse (append-nil kept)
compensations_match t log kept (e ∷ es) h =
    let before : MatchesUndo (and_compensations t log es) t (kept ++ e ∷ []) = compensations_match t log (kept ++ e ∷ []) es (h ∙ ap reverse (sym (append_assoc kept (e ∷ []) es))) in
    ap (map (λ c. (c.id, c.before))) (unanswered_own t (and_compensations t log es) record { txn = t; previous = previous_of t (and_compensations t log es); payload = Compensation e.0 e.1 (next_to_undo t (and_compensations t log es)) } refl)
    ∙ (answers_last (unanswered t (and_compensations t log es)) e.0 e.1 (reverse kept) (before ∙ reverse_last kept e)).1

-- each of them answers the newest that is left
pub compensation_answers : (t : ℕ) (log : List LogRecord) (kept es : List (Rid × Image)) (e : Rid × Image) → MatchesUndo log t (kept ++ e ∷ es)
    → Answers (unanswered t (and_compensations t log es)) e.0 e.1 (next_to_undo t (and_compensations t log es))
compensation_answers t log kept es e h =
    let before : MatchesUndo (and_compensations t log es) t (kept ++ e ∷ []) = compensations_match t log (kept ++ e ∷ []) es (h ∙ ap reverse (sym (append_assoc kept (e ∷ []) es))) in
    (answers_last (unanswered t (and_compensations t log es)) e.0 e.1 (reverse kept) (before ∙ reverse_last kept e)).0
