-- Lists of records that are logged.
use Rattle.std.proofs.Common.{◌≡◌, ◌<◌, ◌≤◌, ◌+◌, inl, inr, ℕ, List, [], ◌∷◌, ◌++◌, IsTrue, Bool, true, false, length, refl, subst, sym, ◌∙◌, ap, take-add, get_or, append_assoc, length-append, Result, Ok, Err, arith, zero, suc, add-zero}
use Rattle.std.proofs.lemmas.List.{append-nil, take_more, length-take-le}
use Rattle.std.proofs.lemmas.List.Elements.{All-nil, All-cons, All-head, All-take}
use Rattle.shore_frames.specs.Frames.{AreNumbered, IsLongest, IsGroup}
use Rattle.std.specs.Prelude.{All, take, drop, IfErr, OnOk, OnErr, if◌then◌else◌}
use Rattle.std.proofs.lemmas.Bool.{cases_lt}
use Rattle.shore_types.specs.declared.layout.TheConstants.{MAX_FRAME_BYTES}
use Rattle.shore_model.specs.declared.log_records.LogRecord.{LogRecord}
use Rattle.shore_logrec.specs.Text.{text, texts, Fits}
use Rattle.shore_logrec.proofs.TextLengths.{length-text}
use Rattle.shore_logrec.proofs.Records.{length-payload_text-le}
use Rattle.shore_logrec.specs.declared.lengths.TheConstants.{MAX_TEXT_BYTES}
use Rattle.shore_frames.specs.LoggedRecords.{are_numbered}
use Rattle.shore_frames.proofs.TextTests.{both, Fits-has_text, first, has_text-fits, lt_test, second, test_lt}

-- the test says what the definition says
pub AreNumbered-test : (n : ℕ) (rs : List LogRecord) → IsTrue (are_numbered n rs) → AreNumbered n rs
AreNumbered-test n [] h = tt
AreNumbered-test n (r ∷ rs) h =
    let front = first _ _ h in
    (Fits-has_text r (first _ _ front), test_lt _ _ (second _ _ front), AreNumbered-test (n + 1) rs (second _ _ h))

-- a list and the next one
pub numbered-append : (n : ℕ) (xs ys : List LogRecord) → IsTrue (are_numbered n xs) → IsTrue (are_numbered (n + length xs) ys) → IsTrue (are_numbered n (xs ++ ys))
numbered-append n [] ys hx hy = subst (λ k. IsTrue (are_numbered k ys)) (add-zero n) hy
numbered-append n (x ∷ xs) ys hx hy =
    both _ _ (first _ _ hx) (numbered-append (n + 1) xs ys (second _ _ hx) (subst (λ k. IsTrue (are_numbered k ys)) (omega arith) hy))

pub numbered-push : (n : ℕ) (rs : List LogRecord) (r : LogRecord) → IsTrue (are_numbered n rs) → Fits r → r.previous < n + length rs → IsTrue (are_numbered n (rs ++ r ∷ []))
numbered-push n rs r h fits below = numbered-append n rs (r ∷ []) h (both _ _ (both _ _ (has_text-fits r fits) (lt_test _ _ below)) refl)

-- a prefix, and what is left
pub AreNumbered-take : (n k : ℕ) (rs : List LogRecord) → AreNumbered n rs → AreNumbered n (take k rs)
AreNumbered-take n zero rs are = tt
AreNumbered-take n (suc k) [] are = tt
AreNumbered-take n (suc k) (r ∷ rs) are = (are.0, are.1, AreNumbered-take (n + 1) k rs are.2)

pub AreNumbered-drop : (n k : ℕ) (rs : List LogRecord) → k ≤ length rs → AreNumbered n rs → AreNumbered (n + k) (drop k rs)
AreNumbered-drop n zero rs le are = subst (λ m. AreNumbered m rs) (sym (add-zero n)) are
AreNumbered-drop n (suc k) [] le are = absurd (omega arith)
AreNumbered-drop n (suc k) (r ∷ rs) le are = subst (λ m. AreNumbered m (drop k rs)) (omega arith) (AreNumbered-drop (n + 1) k rs (omega arith) are.2)

pub AreNumbered-fit : (n : ℕ) (rs : List LogRecord) → AreNumbered n rs → All Fits rs
AreNumbered-fit n [] are = All-nil Fits
AreNumbered-fit n (r ∷ rs) are = All-cons Fits r rs are.0 (AreNumbered-fit (n + 1) rs are.2)

-- a push that may be refused
pub numbered-pushed : (is_pushed : Bool) (n : ℕ) (rs new : List LogRecord) (r : LogRecord) → IsTrue (are_numbered n rs) → Fits r → r.previous < n + length rs
    → new ≡ (if is_pushed then rs ++ r ∷ [] else rs) → IsTrue (are_numbered n new)
numbered-pushed true n rs new r h fits below is = subst (λ l. IsTrue (are_numbered n l)) (sym is) (numbered-push n rs r h fits below)
numbered-pushed false n rs new r h fits below is = subst (λ l. IsTrue (are_numbered n l)) (sym is) h

-- an append that may be refused
pub numbered-appended : {T E : Type 0} (result : Result T E) (n : ℕ) (xs ys new : List LogRecord) → IsTrue (are_numbered n xs) → IsTrue (are_numbered (n + length xs) ys)
    → OnOk result (new ≡ xs ++ ys) → OnErr result (new ≡ xs) → IsTrue (are_numbered n new)
numbered-appended (Ok x) n xs ys new hx hy ok err = subst (λ l. IsTrue (are_numbered n l)) (sym ok) (numbered-append n xs ys hx hy)
numbered-appended (Err e) n xs ys new hx hy ok err = subst (λ l. IsTrue (are_numbered n l)) (sym err) hx

pub grown : {T E : Type 0} (result : Result T E) (xs ys new : List LogRecord) → OnOk result (new ≡ xs ++ ys) → OnErr result (new ≡ xs) → length xs ≤ length new
grown (Ok x) xs ys new ok err = omega (arith, ap length ok, length-append xs ys)
grown (Err e) xs ys new ok err = omega (arith, ap length err)

-- the texts of one record more
pub texts-push : (rs : List LogRecord) (r : LogRecord) → texts (rs ++ r ∷ []) ≡ texts rs ++ text r
texts-push [] r = append-nil (text r)
texts-push (x ∷ rs) r = ap (λ (l : List ℕ). text x ++ l) (texts-push rs r) ∙ sym (append_assoc (text x) (texts rs) (text r))

pub texts-more : (rs : List LogRecord) (i : ℕ) (r : LogRecord) → i < length rs → r ≡ get_or rs i r → texts (take (i + 1) rs) ≡ texts (take i rs) ++ text r
texts-more rs i r within is =
    ap texts (take_more rs i r within ∙ ap (λ (x : LogRecord). take i rs ++ x ∷ []) (sym is)) ∙ texts-push (take i rs) r

pub length-texts-more : (rs : List LogRecord) (i : ℕ) (r : LogRecord) → i < length rs → r ≡ get_or rs i r → length (texts (take (i + 1) rs)) ≡ length (texts (take i rs)) + length (text r)
length-texts-more rs i r within is = ap length (texts-more rs i r within is) ∙ length-append (texts (take i rs)) (text r)

length-text-most : (r : LogRecord) → Fits r → length (text r) ≤ MAX_TEXT_BYTES
length-text-most r fits = omega (arith, length-text r, length-payload_text-le r.payload fits.payload_fits)

-- where not one record fits a frame there is none
pub none_longest : (rs : List LogRecord) (count : ℕ) → count ≡ 0 → All Fits rs → IsLongest rs count → rs ≡ []
none_longest [] count is fit longest = refl
none_longest (r ∷ rs) count is fit longest = elim longest.longest [
  | inl all ↦ absurd (omega (arith, all, is))
  | inr more ↦
      let one : length (texts (take 1 (r ∷ rs))) ≡ length (text r) = length-append (text r) [] ∙ add-zero (length (text r)) in
      let same : length (texts (take (count + 1) (r ∷ rs))) ≡ length (texts (take 1 (r ∷ rs))) = ap (λ (n : ℕ). length (texts (take (n + 1) (r ∷ rs)))) is in
      absurd (omega (arith, more, one, same, length-text-most r (All-head Fits r rs fit)))
]

pub length-stable : (rs : List LogRecord) (n : ℕ) → n ≤ length rs → length (take n rs) ≡ n
length-stable rs n le = length-take-le n rs le

-- the first so many waiting records, where one at least is: what a frame may hold
pub IsGroup-longest : (n : ℕ) (rs : List LogRecord) (count : ℕ) → 1 ≤ count → AreNumbered n rs → IsLongest rs count → IsGroup n (take count rs)
IsGroup-longest n rs zero some are longest = absurd (omega arith)
IsGroup-longest n [] (suc count) some are longest = absurd (omega (arith, longest.within))
IsGroup-longest n (r ∷ rs) (suc count) some are longest = record {
  numbered = AreNumbered-take n (suc count) (r ∷ rs) are;
  some = omega (arith, length-append (text r) (texts (take count rs)), length-text r);
  most = longest.fits;
}

-- those before, and the group behind them
pub take-more_group : (rs : List LogRecord) (n : ℕ) (group : List LogRecord) → n ≤ length rs → take (length group) (drop n rs) ≡ group → take (n + length group) rs ≡ take n rs ++ group
take-more_group rs n group le is = take-add n (length group) rs ∙ ap (λ (l : List LogRecord). take n rs ++ l) is

length-texts-take : (rs : List LogRecord) (a b : ℕ) → a ≤ b → length (texts (take a rs)) ≤ length (texts (take b rs))
length-texts-take rs zero b le = omega arith
length-texts-take rs (suc a) zero le = absurd (omega arith)
length-texts-take [] (suc a) (suc b) le = omega arith
length-texts-take (r ∷ rs) (suc a) (suc b) le =
    omega (arith, length-append (text r) (texts (take a rs)), length-append (text r) (texts (take b rs)), length-texts-take rs a b (omega arith))

not_longer : (rs : List LogRecord) (a b : ℕ) → IsLongest rs a → IsLongest rs b → b ≤ a
not_longer rs a b longest other = elim longest.longest [
  | inl all ↦ omega (arith, all, other.within)
  | inr more ↦ elim (cases_lt a b) [
    | inl less ↦ absurd (omega (arith, more, other.fits, length-texts-take rs (a + 1) b (omega arith)))
    | inr le ↦ le
  ]
]

-- there is one longest group
pub longest_is : (rs : List LogRecord) (a b : ℕ) → IsLongest rs a → IsLongest rs b → a ≡ b
longest_is rs a b longest other = omega (arith, not_longer rs a b longest other, not_longer rs b a other longest)

-- a group that fits is the longest, or one more fits too
longest_from : (rs : List LogRecord) (more count : ℕ) → count + more ≡ length rs → length (texts (take count rs)) ≤ MAX_FRAME_BYTES → (n : ℕ) × IsLongest rs n
longest_from rs zero count all fits = (count, record { within = omega (arith, all); fits = fits; longest = inl (omega (arith, all)) })
longest_from rs (suc more) count all fits = elim (cases_lt MAX_FRAME_BYTES (length (texts (take (count + 1) rs)))) [
  | inl over ↦ (count, record { within = omega (arith, all); fits = fits; longest = inr over })
  | inr le ↦ longest_from rs more (count + 1) (omega (arith, all)) le
]

-- there is one of each list
pub has_longest : (rs : List LogRecord) → (n : ℕ) × IsLongest rs n
has_longest rs = longest_from rs (length rs) 0 (omega arith) (omega arith)

-- what waits behind an index of a list that is numbered
pub Fits-behind : (rs now : List LogRecord) (n m : ℕ) → now ≡ rs → n ≤ length rs → IsTrue (are_numbered 1 rs) → All Fits (take m (drop n now))
Fits-behind rs now n m is le h =
    All-take Fits m (drop n now) (subst (λ (l : List LogRecord). All Fits (drop n l)) (sym is) (AreNumbered-fit (1 + n) (drop n rs) (AreNumbered-drop 1 n rs le (AreNumbered-test 1 rs h))))

-- what follows where a call answered Ok
pub on_ok : {T E : Type 0} (r : Result T E) (P Q : Type 0) → (P → Q) → OnOk r P → OnOk r Q
on_ok (Ok x) P Q f p = f p
on_ok (Err e) P Q f p = p

pub if_err : {T E : Type 0} (r : Result T E) (P : E → Type 0) → ((e : E) → P e) → IfErr r P
if_err (Ok x) P p = tt
if_err (Err e) P p = p e

pub on_ok_two : {T E : Type 0} (r : Result T E) (P Q R : Type 0) → (P → Q → R) → OnOk r P → OnOk r Q → OnOk r R
on_ok_two (Ok x) P Q R f p q = f p q
on_ok_two (Err e) P Q R f p q = p

-- the definition says what the test says
pub test-AreNumbered : (n : ℕ) (rs : List LogRecord) → AreNumbered n rs → IsTrue (are_numbered n rs)
test-AreNumbered n [] are = refl
test-AreNumbered n (r ∷ rs) are = both _ _ (both _ _ (has_text-fits r are.0) (lt_test _ _ are.1)) (test-AreNumbered (n + 1) rs are.2)
