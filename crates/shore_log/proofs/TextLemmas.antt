-- The texts of records, one behind another, and lists of which only proofs know.
use Rattle.std.proofs.Common.{◌≡◌, ◌≤◌, ◌<◌, ◌+◌, ◌-◌, ◌*◌, inl, inr, ℕ, List, Some, [], ◌∷◌, ◌++◌, refl, sym, ap, subst, ◌∙◌, length, take, drop, arith, append_assoc, append-nil, drop-drop, length-append, length-drop, take-append-drop}
use Rattle.std.specs.Prelude.{All}
use Rattle.std.specs.Global.{Vec}
use Rattle.std.proofs.lemmas.List.{drop-append-le, drop_all, drop_at, take-append-le, take_all, take_at}
use Rattle.std.proofs.lemmas.List.Elements.{All-head, All-tail}
use Rattle.http_server.specs.declared.log.Log.{Log}
use Rattle.shore_model.specs.declared.log_records.LogRecord.{LogRecord}
use Rattle.byteorder.specs.Endian.{little_bytes}
use Rattle.shore_logrec.specs.Text.{Fits, head_text, kind_of, payload_text, text, texts}
use Rattle.shore_logrec.specs.Reading.{number_at}
use Rattle.shore_logrec.proofs.Readers.{number_reads}
use Rattle.shore_logrec.proofs.Records.{length-payload_text-le}
use Rattle.shore_logrec.proofs.TextLengths.{length-little_bytes, length-text}
use Rattle.shore_frames.specs.Frames.{IsLongest}
use Rattle.shore_log.specs.Listed.{all_in, all_listed, listed, vecs_in}

pub texts-append : (xs ys : List LogRecord) → texts (xs ++ ys) ≡ texts xs ++ texts ys
texts-append [] ys = refl
texts-append (x ∷ xs) ys = ap (λ (l : List ℕ). text x ++ l) (texts-append xs ys) ∙ sym (append_assoc (text x) (texts xs) (texts ys))

-- no record's text is empty
pub texts_least : (rs : List LogRecord) → 21 * length rs ≤ length (texts rs)
texts_least [] = omega arith
texts_least (r ∷ rs) = omega (arith, length-append (text r) (texts rs), length-text r, texts_least rs)

-- what is left of a list from an index on, as a slice to its end
pub rest_is : {A : Type 0} (at : ℕ) (xs : List A) → take (length xs - at) (drop at xs) ≡ drop at xs
rest_is at xs = take_all (length xs - at) (drop at xs) (omega (arith, length-drop at xs))

pub listed-push : (xs : List (LogRecord × Unit {0})) (r : LogRecord) (u : Unit {0}) → listed (xs ++ (r, u) ∷ []) ≡ listed xs ++ r ∷ []
listed-push [] r u = refl
listed-push (x ∷ xs) r u = ap (λ (l : List LogRecord). x.0 ∷ l) (listed-push xs r u)

pub all_listed-push : (xs : List (Log LogRecord (Unit {0}) × Unit {0})) (l : Log LogRecord (Unit {0})) (u : Unit {0}) → all_listed (xs ++ (l, u) ∷ []) ≡ all_listed xs ++ listed l.items
all_listed-push [] l u = append-nil (listed l.items)
all_listed-push (x ∷ xs) l u = ap (λ (rs : List LogRecord). listed x.0.items ++ rs) (all_listed-push xs l u) ∙ sym (append_assoc (listed x.0.items) (all_listed xs) (listed l.items))

-- ---- a walk over texts

-- the first of some records have so many bytes
pub record IsFront (rs front : List LogRecord) (len : ℕ) : Type 0 where
  pub more : List LogRecord
  pub parts : rs ≡ front ++ more
  pub len_is : len ≡ length (texts front)

-- .. and one more stands behind them
pub record HasNext (rs front : List LogRecord) (bytes : List ℕ) (len : ℕ) : Type 0 where
  pub logged : LogRecord
  pub after : List LogRecord
  pub fits : Fits logged
  pub there : drop len bytes ≡ text logged ++ texts after
  pub longer : IsFront rs (front ++ logged ∷ []) (len + length (text logged))
  pub within : len + length (text logged) ≤ length bytes

fits_there : (front : List LogRecord) (r : LogRecord) (after : List LogRecord) → All Fits (front ++ r ∷ after) → Fits r
fits_there [] r after fit = All-head Fits r after fit
fits_there (x ∷ front) r after fit = fits_there front r after (All-tail Fits x (front ++ r ∷ after) fit)

next_of : (front more : List LogRecord) (bytes : List ℕ) (len : ℕ) → All Fits (front ++ more) → bytes ≡ texts (front ++ more) → len ≡ length (texts front) → len < length bytes → HasNext (front ++ more) front bytes len
next_of front [] bytes len fit is long less =
    absurd (omega (arith, less, long, ap length is, ap (λ (l : List LogRecord). length (texts l)) (append-nil front)))
next_of front (r ∷ after) bytes len fit is long less =
    let whole : bytes ≡ texts front ++ (text r ++ texts after) = is ∙ texts-append front (r ∷ after) in
    record {
      logged = r;
      after = after;
      fits = fits_there front r after fit;
      there = ap (drop len) whole ∙ drop_at (texts front) (text r ++ texts after) len (sym long);
      longer = record {
        more = after;
        parts = sym (append_assoc front (r ∷ []) after);
        len_is = omega (arith, long, ap length (texts-append front (r ∷ [])), length-append (texts front) (texts (r ∷ [])), length-append (text r) []);
      };
      within = omega (arith, long, ap length whole, length-append (texts front) (text r ++ texts after), length-append (text r) (texts after));
    }

pub next_there : (rs front : List LogRecord) (bytes : List ℕ) (len : ℕ) → All Fits rs → bytes ≡ texts rs → IsFront rs front len → len < length bytes → HasNext rs front bytes len
next_there rs front bytes len fit is f less =
    subst (λ (l : List LogRecord). HasNext l front bytes len) (sym f.parts)
    (next_of front f.more bytes len (subst (All Fits) f.parts fit) (is ∙ ap texts f.parts) f.len_is less)

all_of : (front more : List LogRecord) (len : ℕ) → len ≡ length (texts front) → length (texts (front ++ more)) ≤ len → more ≡ []
all_of front [] len long le = refl
all_of front (r ∷ more) len long le =
    absurd (omega (arith, le, long, ap length (texts-append front (r ∷ more)), length-append (texts front) (text r ++ texts more), length-append (text r) (texts more), length-text r))

-- nothing stands behind them
pub is_all : (rs front : List LogRecord) (bytes : List ℕ) (len : ℕ) → bytes ≡ texts rs → IsFront rs front len → length bytes ≤ len → rs ≡ front
is_all rs front bytes len is f le =
    let none : f.more ≡ [] = all_of front f.more len f.len_is (omega (arith, le, ap length is, ap (λ (l : List LogRecord). length (texts l)) f.parts)) in
    f.parts ∙ ap (λ (l : List LogRecord). front ++ l) none ∙ append-nil front

-- so many of the first records have so many bytes
pub record IsCounted (rs : List LogRecord) (count len : ℕ) : Type 0 where
  pub front : List LogRecord
  pub is_front : IsFront rs front len
  pub count_is : count ≡ length front

front_is : (rs : List LogRecord) (count len : ℕ) (c : IsCounted rs count len) → take count rs ≡ c.front
front_is rs count len c = ap (take count) c.is_front.parts ∙ take_at c.front c.is_front.more count (sym c.count_is)

pub counted_len : (rs : List LogRecord) (count len : ℕ) → IsCounted rs count len → len ≡ length (texts (take count rs))
counted_len rs count len c = c.is_front.len_is ∙ ap (λ (l : List LogRecord). length (texts l)) (sym (front_is rs count len c))

pub none_counted : (rs : List LogRecord) → IsCounted rs 0 0
none_counted rs = record { front = []; is_front = record { more = rs; parts = refl; len_is = refl }; count_is = refl }

pub longest_all : (rs : List LogRecord) (bytes : List ℕ) (count len : ℕ) → bytes ≡ texts rs → IsCounted rs count len → len ≤ 65536 → length bytes ≤ len → IsLongest rs count
longest_all rs bytes count len is c fits le =
    let all : rs ≡ c.front = is_all rs c.front bytes len is c.is_front le in
    record {
      within = omega (arith, c.count_is, ap length all);
      fits = omega (arith, fits, counted_len rs count len c);
      longest = inl (omega (arith, c.count_is, ap length all));
    }

pub count_more : (rs : List LogRecord) (bytes : List ℕ) (count len with_it : ℕ) → All Fits rs → bytes ≡ texts rs → IsCounted rs count len → len < length bytes
    → ((r : LogRecord) (rest : List ℕ) → Fits r → drop len bytes ≡ text r ++ rest → with_it ≡ len + length (text r)) → IsCounted rs (count + 1) with_it
count_more rs bytes count len with_it fit is c less long =
    let one = next_there rs c.front bytes len fit is c.is_front less in
    subst (λ (n : ℕ). IsCounted rs (count + 1) n) (sym (long one.logged (texts one.after) one.fits one.there)) (record {
      front = c.front ++ one.logged ∷ [];
      is_front = one.longer;
      count_is = omega (arith, c.count_is, length-append c.front (one.logged ∷ []));
    })

-- one more has its text within the bytes
pub not_over : (rs : List LogRecord) (bytes : List ℕ) (count len with_it : ℕ) → All Fits rs → bytes ≡ texts rs → IsCounted rs count len → len < length bytes
    → ((r : LogRecord) (rest : List ℕ) → Fits r → drop len bytes ≡ text r ++ rest → with_it ≡ len + length (text r)) → with_it ≤ length bytes
not_over rs bytes count len with_it fit is c less long =
    let one = next_there rs c.front bytes len fit is c.is_front less in
    omega (arith, one.within, long one.logged (texts one.after) one.fits one.there)

-- all of them fit
pub whole_longest : (rs : List LogRecord) (count len : ℕ) → count ≡ length rs → len ≡ length (texts rs) → len ≤ 65536 → IsLongest rs count × (len ≡ length (texts (take count rs)))
whole_longest rs count len is long fits =
    let all : take count rs ≡ rs = take_all count rs (omega (arith, is)) in
    let same = ap (λ (l : List LogRecord). length (texts l)) all in
    (record { within = omega (arith, is); fits = omega (arith, same, long, fits); longest = inl is }, omega (arith, same, long))

-- one more does not fit
pub longest_before : (rs : List LogRecord) (bytes : List ℕ) (count len with_it : ℕ) → All Fits rs → bytes ≡ texts rs → IsCounted rs count len → len ≤ 65536 → len < length bytes
    → ((r : LogRecord) (rest : List ℕ) → Fits r → drop len bytes ≡ text r ++ rest → with_it ≡ len + length (text r)) → 65536 < with_it → IsLongest rs count
longest_before rs bytes count len with_it fit is c fits less long over =
    let more = count_more rs bytes count len with_it fit is c less long in
    record {
      within = omega (arith, c.count_is, ap length c.is_front.parts, length-append c.front c.is_front.more);
      fits = omega (arith, fits, counted_len rs count len c);
      longest = inr (omega (arith, over, counted_len rs (count + 1) with_it more));
    }

-- the first so many have no more bytes than all
pub len_within : (at len count : ℕ) (bytes : List ℕ) (rs : List LogRecord) → at ≤ length bytes → drop at bytes ≡ texts rs → len ≡ length (texts (take count rs)) → at + len ≤ length bytes
len_within at len count bytes rs inside is long =
    omega (
      arith,
      inside,
      length-drop at bytes,
      ap length is,
      long,
      ap (λ (l : List LogRecord). length (texts l)) (take-append-drop count rs),
      ap length (texts-append (take count rs) (drop count rs)),
      length-append (texts (take count rs)) (texts (drop count rs)),
    )

pub front_same : (rs xs ys : List LogRecord) (at n len : ℕ) (r x : LogRecord) → IsFront rs (xs ++ r ∷ []) (at + n) → ys ≡ xs ++ x ∷ [] → x ≡ r → len ≡ n → IsFront rs ys (at + len)
front_same rs xs ys at n len r x f pushed same long =
    subst (λ (k : ℕ). IsFront rs ys (at + k)) (sym long) (subst (λ (l : List LogRecord). IsFront rs l (at + n)) (sym (pushed ∙ ap (λ (y : LogRecord). xs ++ y ∷ []) same)) f)

-- where a text says how long its payload is
pub len_at : (r : LogRecord) (rest bytes : List ℕ) → Fits r → bytes ≡ text r ++ rest → number_at 4 (drop 17 bytes) ≡ Some (length (payload_text r.payload), payload_text r.payload ++ rest)
unfolding text head_text
len_at r rest bytes fits is =
    let n = length (payload_text r.payload) in
    let a = kind_of r.payload ∷ (little_bytes 8 r.txn ++ little_bytes 8 r.previous) in
    let p = payload_text r.payload ++ rest in
    let long : length a ≡ 17 = omega (arith, length-append (little_bytes 8 r.txn) (little_bytes 8 r.previous), length-little_bytes 8 r.txn, length-little_bytes 8 r.previous) in
    let parts : text r ++ rest ≡ a ++ (little_bytes 4 n ++ p) =
    append_assoc (head_text r) (payload_text r.payload) rest
    ∙ ap (λ (l : List ℕ). kind_of r.payload ∷ (l ++ p)) (sym (append_assoc (little_bytes 8 r.txn) (little_bytes 8 r.previous) (little_bytes 4 n)))
    ∙ append_assoc a (little_bytes 4 n) p in
    let there : drop 17 bytes ≡ little_bytes 4 n ++ p = ap (drop 17) (is ∙ parts) ∙ drop_at a (little_bytes 4 n ++ p) 17 long in
    ap (number_at 4) there ∙ (number_reads 4).again n p (omega (arith, length-payload_text-le r.payload fits.payload_fits))

-- ---- parts of what a log has

pub same_group : (all more : List LogRecord) (forced count : ℕ) → forced + count ≤ length all → take count (drop forced (all ++ more)) ≡ take count (drop forced all)
same_group all more forced count within =
    ap (take count) (drop-append-le forced all more (omega arith)) ∙ take-append-le count (drop forced all) more (omega (arith, length-drop forced all))

pub all_in-push : (found : List (Vec LogRecord × Unit {0})) (xs : List (Log LogRecord (Unit {0}) × Unit {0})) (l : Log LogRecord (Unit {0})) (u : Unit {0}) → all_in found (xs ++ (l, u) ∷ []) ≡ all_in found xs ++ listed l.items
all_in-push found xs l u = ap (λ (rs : List LogRecord). vecs_in found ++ rs) (all_listed-push xs l u) ∙ sym (append_assoc (vecs_in found) (all_listed xs) (listed l.items))

-- .. of those that are kept
pub kept-push : (gone : ℕ) (found : List (Vec LogRecord × Unit {0})) (xs : List (Log LogRecord (Unit {0}) × Unit {0})) (l : Log LogRecord (Unit {0})) (u : Unit {0}) → gone ≤ length (all_in found xs)
    → drop gone (all_in found (xs ++ (l, u) ∷ [])) ≡ drop gone (all_in found xs) ++ listed l.items
kept-push gone found xs l u within = ap (drop gone) (all_in-push found xs l u) ∙ drop-append-le gone (all_in found xs) (listed l.items) within

pub all_found : (found : List (Vec LogRecord × Unit {0})) (later : List (Log LogRecord (Unit {0}) × Unit {0})) (v : Vec LogRecord) (u : Unit {0}) → found ≡ (v, u) ∷ [] → later ≡ [] → all_in found later ≡ v.items
all_found found later v u is none =
    ap (λ (f : List (Vec LogRecord × Unit {0})). all_in f later) is ∙ ap (all_in ((v, u) ∷ [])) none ∙ append-nil (v.items ++ []) ∙ append-nil v.items

-- the texts behind those of the first so many
pub texts_behind : (rs : List LogRecord) (count len : ℕ) → len ≡ length (texts (take count rs)) → drop len (texts rs) ≡ texts (drop count rs)
texts_behind rs count len is =
    ap (drop len) (ap texts (sym (take-append-drop count rs)) ∙ texts-append (take count rs) (drop count rs)) ∙ drop_at (texts (take count rs)) (texts (drop count rs)) len (sym is)

-- .. and theirs
pub texts_front : (rs : List LogRecord) (count len : ℕ) → len ≡ length (texts (take count rs)) → take len (texts rs) ≡ texts (take count rs)
texts_front rs count len is =
    ap (take len) (ap texts (sym (take-append-drop count rs)) ∙ texts-append (take count rs) (drop count rs)) ∙ take_at (texts (take count rs)) (texts (drop count rs)) len (sym is)

-- .. of those that wait, once the first so many are forced
pub spelled_behind : (at len forced count : ℕ) (bytes : List ℕ) (all : List LogRecord) → drop at bytes ≡ texts (drop forced all) → len ≡ length (texts (take count (drop forced all)))
    → drop (at + len) bytes ≡ texts (drop (forced + count) all)
spelled_behind at len forced count bytes all is long =
    sym (drop-drop len at bytes) ∙ ap (drop len) is ∙ texts_behind (drop forced all) count len long ∙ ap texts (drop-drop count forced all)

-- .. with more behind them
pub spelled_more : (at forced : ℕ) (bytes new : List ℕ) (all more : List LogRecord) → at ≤ length bytes → forced ≤ length all → new ≡ bytes ++ texts more → drop at bytes ≡ texts (drop forced all)
    → drop at new ≡ texts (drop forced (all ++ more))
spelled_more at forced bytes new all more within inside is before =
    ap (drop at) is ∙ drop-append-le at bytes (texts more) within ∙ ap (λ (l : List ℕ). l ++ texts more) before ∙ sym (texts-append (drop forced all) more)
    ∙ ap texts (sym (drop-append-le forced all more inside))

-- where all are forced nothing waits
pub none_spelled : (at forced : ℕ) (bytes : List ℕ) (all : List LogRecord) → bytes ≡ [] → length all ≤ forced → drop at bytes ≡ texts (drop forced all)
none_spelled at forced bytes all is le =
    drop_all at bytes (omega (arith, ap length is)) ∙ ap texts (sym (drop_all forced all le))
