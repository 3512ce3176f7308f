-- What a writer holds behind several writes.
use Rattle.std.proofs.Common.{◌≡◌, ℕ, zero, suc, ◌<◌, ◌/◌, ◌%◌, List, [], ◌∷◌, ◌++◌, length, take, refl, sym, ap, ◌∙◌, append_assoc, Option, None, Some, unwrap_or, slice_index, arith}
use Rattle.std.proofs.lemmas.List.{append-nil}
use Rattle.std.specs.Io.KnownBytes.{Appends}
use Rattle.std.specs.Prelude.{slice_get}
use Rattle.hex.specs.Hex.{encode_lower, encode_with, lower_digits}
use Rattle.shore_model.specs.declared.log_records.LogRecord.{LogRecord}
use Rattle.shore_types.specs.declared.ids.Rid.{Rid}
use Rattle.shore_script.specs.Texts.{bytes_text, doubt_line, doubt_lines, log_line, log_lines, next_number, record_line, record_lines, some_record_line}

pub Appends-nothing : (a : Option (List ℕ)) → Appends a a []
Appends-nothing None = tt
Appends-nothing (Some xs) = sym (append-nil xs)

pub Appends-then : (a b c : Option (List ℕ)) (x y : List ℕ) → Appends a b x → Appends b c y → Appends a c (x ++ y)
Appends-then None b c x y h k = tt
Appends-then (Some xs) None c x y h k = absurd h
Appends-then (Some xs) (Some ys) None x y h k = absurd k
Appends-then (Some xs) (Some ys) (Some zs) x y h k = k ∙ ap (λ (l : List ℕ). l ++ y) h ∙ append_assoc xs x y

pub encoded-append : (xs ys : List ℕ) → encode_lower (xs ++ ys) ≡ encode_lower xs ++ encode_lower ys
unfolding encode_with
encoded-append [] ys = refl
encoded-append (x ∷ xs) ys =
    ap (λ (l : List ℕ). slice_index lower_digits (x / 16) ∷ slice_index lower_digits (x % 16) ∷ l) (encoded-append xs ys)

pub encoded-nothing : encode_lower [] ≡ []
unfolding encode_with
encoded-nothing = refl

pub bytes_text-some : (bytes : List ℕ) → 0 < length bytes → bytes_text bytes ≡ encode_lower bytes
bytes_text-some [] some = absurd (omega arith)
bytes_text-some (byte ∷ bytes) some = refl

-- one pair more
pub record_lines-next : (ps : List (Rid × List ℕ)) (i : ℕ) → record_lines (take (suc i) ps) ≡ record_lines (take i ps) ++ some_record_line (slice_get ps i)
record_lines-next [] zero = refl
record_lines-next [] (suc i) = refl
record_lines-next (p ∷ ps) zero = append-nil (record_line p.0 p.1)
record_lines-next (p ∷ ps) (suc i) =
    ap (λ (l : List ℕ). record_line p.0 p.1 ++ l) (record_lines-next ps i)
    ∙ sym (append_assoc (record_line p.0 p.1) (record_lines (take i ps)) (some_record_line (slice_get ps i)))

-- the number of the record behind so many
abbrev pub number_after : ℕ → ℕ → ℕ
number_after first zero = first
number_after first (suc n) = number_after (next_number first) n

pub number_after-more : (first n : ℕ) → number_after first (suc n) ≡ next_number (number_after first n)
number_after-more first zero = refl
number_after-more first (suc n) = number_after-more (next_number first) n

-- one record more
pub log_lines-more : (first : ℕ) (records : List LogRecord) (i : ℕ) (logged : LogRecord) → slice_get records i ≡ Some logged
    → log_lines first (take (suc i) records) ≡ log_lines first (take i records) ++ log_line (number_after first i) logged
log_lines-more first [] i logged h = cc h
log_lines-more first (r ∷ records) zero logged h =
    let same : r ≡ logged = ap (λ (o : Option LogRecord). unwrap_or o r) h in
    append-nil (log_line first r) ∙ ap (log_line first) same
log_lines-more first (r ∷ records) (suc i) logged h =
    ap (λ (l : List ℕ). log_line first r ++ l) (log_lines-more (next_number first) records i logged h)
    ∙ sym (append_assoc (log_line first r) (log_lines (next_number first) (take i records)) (log_line (number_after first (suc i)) logged))

-- one pair of those in doubt more
pub doubt_lines-more : (ps : List (List ℕ × ℕ)) (i : ℕ) (p : List ℕ × ℕ) → slice_get ps i ≡ Some p
    → doubt_lines (take (suc i) ps) ≡ doubt_lines (take i ps) ++ doubt_line p.0 p.1
doubt_lines-more [] i p h = cc h
doubt_lines-more (q ∷ ps) zero p h =
    let same : q ≡ p = ap (λ (o : Option (List ℕ × ℕ)). unwrap_or o q) h in
    append-nil (doubt_line q.0 q.1) ∙ ap (λ (r : List ℕ × ℕ). doubt_line r.0 r.1) same
doubt_lines-more (q ∷ ps) (suc i) p h =
    ap (λ (l : List ℕ). doubt_line q.0 q.1 ++ l) (doubt_lines-more ps i p h)
    ∙ sym (append_assoc (doubt_line q.0 q.1) (doubt_lines (take i ps)) (doubt_line p.0 p.1))
