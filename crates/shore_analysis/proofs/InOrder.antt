-- Those in doubt, in the order of their Prepares: by the log, and by their entries.
use Rattle.std.proofs.Common.{◌≡◌, inl, inr, ⊎_elim, ◌+◌, ◌-◌, ◌<◌, ◌≤◌, ℕ, zero, suc, List, [], ◌∷◌, ◌++◌, Bool, true, false, cond, Option, Some, None, map, refl, sym, ap, subst, ◌∙◌, length, length-append, take, arith}
use Rattle.std.specs.Prelude.{◌==◌, ◌&&◌, Contains, filter, slice_get, slice_index_or}
use Rattle.std.specs.List.{AllByRecursion, cons_option, filter_map}
use Rattle.std.specs.List.Sorted.{IsStrictlySortedBy}
use Rattle.std.specs.Ordering.{nat_cmp}
use Rattle.std.specs.declared.cmp.Ordering.TheVariants.{Less}
use Rattle.std.proofs.lemmas.Bool.{cases_Bool, eq-eqb, eqb-true, lt-ltb}
use Rattle.std.proofs.lemmas.List.{append-nil, map-append}
use Rattle.std.proofs.lemmas.List.Elements.{filter_map-append}
use Rattle.shore_types.specs.declared.layout.Geometry.{Geometry}
use Rattle.shore_model.specs.declared.log_records.LogRecord.{LogRecord}
use Rattle.shore_model.specs.declared.log_records.Payload.{Payload}
use Rattle.shore_model.specs.declared.log_records.Payload.TheVariants.{Change, Compensation, Commit, End, Prepare, RollbackDecided, CheckpointBegin, CheckpointEnd, Anchor}
use Rattle.shore_model.specs.Logs.{Lawful, MaySay, has, is_prepare, prepare_number, prepare_of}
use Rattle.laws_lives.specs.Views.{IsAmong}
use Rattle.laws_lives.proofs.Booleans.{and_true, or_true}
use Rattle.laws_lives.proofs.OneMore.{by_push}
use Rattle.laws_lives.proofs.Redo.{slice_get_last}
use Rattle.shore_analysis.specs.Meant.{AreMeant, IsMeant}
use Rattle.shore_analysis.proofs.Answered.{one_or_none}
use Rattle.shore_analysis.proofs.Listed.{below}
use Rattle.shore_analysis.proofs.MeantLogs.{by_each, longer_get}
use Rattle.shore_analysis.proofs.OneMore.{first-push, prepare_none}
use Rattle.shore_analysis.proofs.Phases.{no_prepare, prepare_free}

-- ---- lists

module _ {A : Type 0} where
  pub among_contains : (x : A) (xs : List A) → IsAmong x xs → Contains xs x
  among_contains x [] a = absurd a
  among_contains x (y ∷ ys) (inl same) = (0, omega arith, same)
  among_contains x (y ∷ ys) (inr later) = let at = among_contains x ys later in (suc at.0, (let lt = at.1 in omega arith), at.2)

  pub contains_among : (x : A) (xs : List A) (k : ℕ) → k < length xs → slice_index_or xs k x ≡ x → IsAmong x xs
  contains_among x [] k lt is = absurd (omega arith)
  contains_among x (y ∷ ys) zero lt is = inl is
  contains_among x (y ∷ ys) (suc k) lt is = inr (contains_among x ys k (omega arith) is)

  pub all_among : (P : A → Type 0) (xs : List A) → ((x : A) → IsAmong x xs → P x) → AllByRecursion P xs
  all_among P [] h = tt
  all_among P (x ∷ xs) h = (h x (inl refl), all_among P xs (λ y later. h y (inr later)))

  pub one_of_all : (P : A → Type 0) (x : A) (xs : List A) → AllByRecursion P xs → IsAmong x xs → P x
  one_of_all P x [] h a = absurd a
  one_of_all P x (y ∷ ys) h (inl same) = subst P same h.0
  one_of_all P x (y ∷ ys) h (inr later) = one_of_all P x ys h.1 later

  module _ {B : Type 0} (f : A → B) where
    pub among_map : (x : A) (xs : List A) → IsAmong x xs → IsAmong (f x) (map f xs)
    among_map x [] a = a
    among_map x (y ∷ ys) (inl same) = inl (ap f same)
    among_map x (y ∷ ys) (inr later) = inr (among_map x ys later)

    pub map_among : (y : B) (xs : List A) → IsAmong y (map f xs) → (x : A) × IsAmong x xs × (f x ≡ y)
    map_among y [] a = absurd a
    map_among y (x ∷ xs) (inl same) = (x, inl refl, same)
    map_among y (x ∷ xs) (inr later) = let at = map_among y xs later in (at.0, inr at.1, at.2)

  pub filter_among : (p : A → Bool) (x : A) (xs : List A) → IsAmong x xs → p x ≡ true → IsAmong x (filter p xs)
  filter_among p x [] a passes = a
  filter_among p x (y ∷ ys) (inl same) passes = subst (λ b. IsAmong x (cond b (y ∷ filter p ys) (filter p ys))) (sym (ap p same ∙ passes)) (inl same)
  filter_among p x (y ∷ ys) (inr later) passes = behind (p y) (filter_among p x ys later passes)
    where
      behind : (b : Bool) → IsAmong x (filter p ys) → IsAmong x (cond b (y ∷ filter p ys) (filter p ys))
      behind true a = inr a
      behind false a = a

-- ---- numbers that rise

abbrev pub Rises : List ℕ → Type 0
Rises [] = Unit {0}
Rises (n ∷ ns) = AllByRecursion (λ m. n < m) ns × Rises ns

rises_push : (ns : List ℕ) (n : ℕ) → Rises ns → AllByRecursion (λ m. m < n) ns → Rises (ns ++ n ∷ [])
rises_push [] n rise less = (tt, tt)
rises_push (m ∷ ns) n rise less = (push ns rise.0, rises_push ns n rise.1 less.1)
  where
    push : (ns : List ℕ) → AllByRecursion (λ k. m < k) ns → AllByRecursion (λ k. m < k) (ns ++ n ∷ [])
    push [] h = (less.0, tt)
    push (k ∷ ns) h = (h.0, push ns h.1)

pub rises_filter : {A : Type 0} (f : A → ℕ) (p : A → Bool) (xs : List A) → Rises (map f xs) → Rises (map f (filter p xs))
rises_filter {A = A} f p [] rise = tt
rises_filter {A = A} f p (x ∷ xs) rise = behind (p x) (rises_filter f p xs rise.1)
  where
    above : (n : ℕ) (ys : List A) → AllByRecursion (λ m. n < m) (map f ys) → AllByRecursion (λ m. n < m) (map f (filter p ys))
    above n [] h = tt
    above n (y ∷ ys) h = on (p y) (above n ys h.1)
      where
        on : (b : Bool) → AllByRecursion (λ m. n < m) (map f (filter p ys)) → AllByRecursion (λ m. n < m) (map f (cond b (y ∷ filter p ys) (filter p ys)))
        on true rest = (h.0, rest)
        on false rest = rest

    behind : (b : Bool) → Rises (map f (filter p xs)) → Rises (map f (cond b (x ∷ filter p xs) (filter p xs)))
    behind true rest = (above (f x) xs rise.0, rest)
    behind false rest = rest

pub rises_from : (ns : List ℕ) → IsStrictlySortedBy nat_cmp ns → Rises ns
unfolding IsStrictlySortedBy
rises_from [] rise = tt
rises_from (n ∷ ns) rise = (all ns rise.0, rises_from ns rise.1)
  where
    all : (ns : List ℕ) → AllByRecursion (λ m. nat_cmp n m ≡ Less) ns → AllByRecursion (λ m. n < m) ns
    all [] h = tt
    all (m ∷ ns) h = (below n m h.0, all ns h.1)

-- rising numbers are known by which they are
pub same_rising : (ms ns : List ℕ) → Rises ms → Rises ns → ((k : ℕ) → IsAmong k ms → IsAmong k ns) → ((k : ℕ) → IsAmong k ns → IsAmong k ms) → ms ≡ ns
same_rising [] [] rise_m rise_n to from = refl
same_rising [] (n ∷ ns) rise_m rise_n to from = absurd (from n (inl refl))
same_rising (m ∷ ms) [] rise_m rise_n to from = absurd (to m (inl refl))
same_rising (m ∷ ms) (n ∷ ns) rise_m rise_n to from =
    (λ i. first i ∷ ms) ∙ ap (λ ks. n ∷ ks) (same_rising ms ns rise_m.1 rise_n.1 later_to later_from)
  where
    above : (k l : ℕ) (ks : List ℕ) → AllByRecursion (λ x. k < x) ks → IsAmong l ks → k < l
    above k l ks h a = one_of_all (λ x. k < x) l ks h a

    first : m ≡ n
    first = ⊎_elim
        (λ same. sym same)
        (λ later. ⊎_elim (λ same. same)
        (λ other. absurd (let less = above n m ns rise_n.0 later in let more = above m n ms rise_m.0 other in omega (arith, less, more)))
        (from n (inl refl)))
        (to m (inl refl))

    later_to : (k : ℕ) → IsAmong k ms → IsAmong k ns
    later_to k a = ⊎_elim (λ same. absurd (let more = above m k ms rise_m.0 a in omega (arith, more, same, first))) (λ later. later) (to k (inr a))

    later_from : (k : ℕ) → IsAmong k ns → IsAmong k ms
    later_from k a = ⊎_elim (λ same. absurd (let more = above n k ns rise_n.0 a in omega (arith, more, same, first))) (λ later. later) (from k (inr a))

-- ---- by the log

abbrev pub prepares : List LogRecord → List ℕ
prepares log = filter_map prepare_of log

pub prepares-push : (log : List LogRecord) (r : LogRecord) → prepares (log ++ r ∷ []) ≡ prepares log ++ cond (is_prepare r.payload) (r.txn ∷ []) []
prepares-push log r = filter_map-append prepare_of log (r ∷ []) ∙ ap (λ ts. prepares log ++ ts) (one (is_prepare r.payload))
  where
    one : (b : Bool) → cons_option (cond b (Some r.txn) None) [] ≡ cond b (r.txn ∷ []) []
    one true = refl
    one false = refl

-- who has a Prepare is among them
pub is_among : (t : ℕ) (log : List LogRecord) → has is_prepare t log ≡ true → IsAmong t (prepares log)
is_among t [] h = cc
is_among t (r ∷ log) h = ⊎_elim
    (λ own.
    let both = and_true (r.txn == t) (is_prepare r.payload) own in
    subst (λ b. IsAmong t (cons_option (cond b (Some r.txn) None) (prepares log))) (sym both.1) (inl (eqb-true r.txn t both.0)))
    (λ later. behind (is_prepare r.payload) (is_among t log later))
    (or_true ((r.txn == t) && is_prepare r.payload) (has is_prepare t log) h)
  where
    behind : (b : Bool) → IsAmong t (prepares log) → IsAmong t (cons_option (cond b (Some r.txn) None) (prepares log))
    behind true a = inr a
    behind false a = a

-- a Prepare's record is there, and its transaction's
pub record PrepareIs (log : List LogRecord) (t : ℕ) : Type 0 where
  pub found : LogRecord
  pub here : slice_get log (prepare_number t log - 1) ≡ Some found
  pub own : found.txn ≡ t
  pub most : prepare_number t log ≤ length log

pub number_kept : (t : ℕ) (log : List LogRecord) (r : LogRecord) → 0 < prepare_number t log → prepare_number t (log ++ r ∷ []) ≡ prepare_number t log
number_kept t log r some =
    first-push (λ x. (x.txn == t) && is_prepare x.payload) log r
    ∙ ap (λ b. cond b (prepare_number t log) (cond ((r.txn == t) && is_prepare r.payload) (1 + length log) 0)) (lt-ltb 0 (prepare_number t log) some)

number_new : (t : ℕ) (log : List LogRecord) (r : LogRecord) → prepare_number t log ≡ 0 → ((r.txn == t) && is_prepare r.payload) ≡ true → prepare_number t (log ++ r ∷ []) ≡ 1 + length log
number_new t log r none own =
    first-push (λ x. (x.txn == t) && is_prepare x.payload) log r ∙ rw (none, own) refl

number_none : (t : ℕ) (log : List LogRecord) (r : LogRecord) → prepare_number t log ≡ 0 → ((r.txn == t) && is_prepare r.payload) ≡ false → prepare_number t (log ++ r ∷ []) ≡ 0
number_none t log r none other =
    first-push (λ x. (x.txn == t) && is_prepare x.payload) log r ∙ rw (none, other) refl

pub prepare_is : (t : ℕ) (log : List LogRecord) → 0 < prepare_number t log → PrepareIs log t
prepare_is t = by_push (λ log. 0 < prepare_number t log → PrepareIs log t) (λ h. absurd (omega (arith, h))) one_more
  where
    one_more : (log : List LogRecord) (r : LogRecord) → (0 < prepare_number t log → PrepareIs log t) → 0 < prepare_number t (log ++ r ∷ []) → PrepareIs (log ++ r ∷ []) t
    one_more log r known some = ⊎_elim
        (λ none. ⊎_elim
        (λ own.
        let number = number_new t log r none own in
        let at : prepare_number t (log ++ r ∷ []) - 1 ≡ length log = omega (arith, number) in
        record {
          found = r;
          here = ap (slice_get (log ++ r ∷ [])) at ∙ slice_get_last log r;
          own = eqb-true r.txn t (and_true (r.txn == t) (is_prepare r.payload) own).0;
          most = omega (arith, number, length-append log (r ∷ []));
        })
        (λ other. absurd (let nothing = number_none t log r none other in omega (arith, nothing, some)))
        (cases_Bool ((r.txn == t) && is_prepare r.payload)))
        (λ one.
        let before = known one in
        let same = number_kept t log r one in
        let most = before.most in
        record {
          found = before.found;
          here = ap (λ n. slice_get (log ++ r ∷ []) (n - 1)) same ∙ longer_get log (r ∷ []) (prepare_number t log - 1) before.found before.here;
          own = before.own;
          most = omega (arith, same, most, length-append log (r ∷ []));
        })
        (one_or_none (prepare_number t log))

-- a Prepare is its transaction's first
abbrev pub PreparesOnce : List LogRecord → LogRecord → Type 0
PreparesOnce log r = is_prepare r.payload ≡ true → has is_prepare r.txn log ≡ false

-- so is each of a log
abbrev pub PrepareOnce : List LogRecord → Type 0
PrepareOnce log = (n : ℕ) (r : LogRecord) → slice_get log n ≡ Some r → PreparesOnce (take n log) r

pub meant_once : (g : Geometry) (log : List LogRecord) → AreMeant g log → PrepareOnce log
meant_once g log meant n r at is = prepare_free g (take n log) r.txn r.payload is (meant n r at).0.says

pub lawful_once : (log : List LogRecord) → Lawful log → PrepareOnce log
lawful_once log lawful n r at is = free (take n log) r.txn r.payload is (lawful n r at).says
  where
    free : (rs : List LogRecord) (t : ℕ) (p : Payload) → is_prepare p ≡ true → MaySay rs t p → has is_prepare t rs ≡ false
    free rs t (Prepare global granules) e says = no_prepare t rs says.0
    free rs t (Change id before after) e says = cc
    free rs t (Compensation id after undo_next) e says = cc
    free rs t Commit e says = cc
    free rs t End e says = cc
    free rs t RollbackDecided e says = cc
    free rs t CheckpointBegin e says = cc
    free rs t (CheckpointEnd begin next txns dirty) e says = cc
    free rs t (Anchor checkpoint tail) e says = cc

-- it gives its transaction its own number
pub number_once : (log : List LogRecord) (r : LogRecord) → has is_prepare r.txn log ≡ false → is_prepare r.payload ≡ true → prepare_number r.txn (log ++ r ∷ []) ≡ 1 + length log
number_once log r free is = number_new r.txn log r (prepare_none r.txn log free) (ap (λ b. b && is_prepare r.payload) (eq-eqb r.txn r.txn refl) ∙ is)

pub number_new_own : (g : Geometry) (log : List LogRecord) (r : LogRecord) → IsMeant g log r → is_prepare r.payload ≡ true → prepare_number r.txn (log ++ r ∷ []) ≡ 1 + length log
number_new_own g log r meant is = number_once log r (prepare_free g log r.txn r.payload is meant.says) is

-- whose record this number is
pub txn_of : Option LogRecord → ℕ
txn_of None = 0
txn_of (Some r) = r.txn

abbrev pub txn_at : List LogRecord → ℕ → ℕ
txn_at log n = txn_of (slice_get log (n - 1))

pub txn_is : (t : ℕ) (log : List LogRecord) → 0 < prepare_number t log → txn_at log (prepare_number t log) ≡ t
unfolding txn_of
txn_is t log some = let one = prepare_is t log some in ap txn_of one.here ∙ one.own

-- the numbers of the Prepares rise
pub record PreparesRise (log : List LogRecord) : Type 0 where
  pub rise : Rises (map (λ t. prepare_number t log) (prepares log))
  pub some : AllByRecursion (λ t. 0 < prepare_number t log) (prepares log)

pub once_rise : (log : List LogRecord) → PrepareOnce log → PreparesRise log
once_rise = by_each PreparesOnce PreparesRise (record { rise = tt; some = tt }) one_more
  where
    kept : (log : List LogRecord) (r : LogRecord) (ts : List ℕ) → AllByRecursion (λ t. 0 < prepare_number t log) ts
        → map (λ t. prepare_number t (log ++ r ∷ [])) ts ≡ map (λ t. prepare_number t log) ts
    kept log r [] h = refl
    kept log r (t ∷ ts) h = (λ i. number_kept t log r h.0 i ∷ kept log r ts h.1 i)

    still : (log : List LogRecord) (r : LogRecord) (ts : List ℕ) → AllByRecursion (λ t. 0 < prepare_number t log) ts → AllByRecursion (λ t. 0 < prepare_number t (log ++ r ∷ [])) ts
    still log r [] h = tt
    still log r (t ∷ ts) h = (subst (λ n. 0 < n) (sym (number_kept t log r h.0)) h.0, still log r ts h.1)

    less : (log : List LogRecord) (ts : List ℕ) → AllByRecursion (λ t. 0 < prepare_number t log) ts → AllByRecursion (λ n. n < 1 + length log) (map (λ t. prepare_number t log) ts)
    less log [] h = tt
    less log (t ∷ ts) h = (let most = (prepare_is t log h.0).most in omega (arith, most), less log ts h.1)

    push : (P : ℕ → Type 0) (ts : List ℕ) (t : ℕ) → AllByRecursion P ts → P t → AllByRecursion P (ts ++ t ∷ [])
    push P [] t h last = (last, tt)
    push P (u ∷ ts) t h last = (h.0, push P ts t h.1 last)

    one_more : (log : List LogRecord) (r : LogRecord) → PreparesOnce log r → PreparesRise log → PreparesRise (log ++ r ∷ [])
    one_more log r once known = ⊎_elim
        (λ is.
        let ts : prepares (log ++ r ∷ []) ≡ prepares log ++ r.txn ∷ [] = prepares-push log r ∙ ap (λ b. prepares log ++ cond b (r.txn ∷ []) []) is in
        let number : prepare_number r.txn (log ++ r ∷ []) ≡ 1 + length log = number_once log r (once is) is in
        let numbers : map (λ t. prepare_number t (log ++ r ∷ [])) (prepares log ++ r.txn ∷ []) ≡ map (λ t. prepare_number t log) (prepares log) ++ (1 + length log) ∷ [] =
        map-append (λ t. prepare_number t (log ++ r ∷ [])) (prepares log) (r.txn ∷ []) ∙ (λ i. kept log r (prepares log) known.some i ++ number i ∷ []) in
        record {
          rise =
              subst Rises (sym (ap (map (λ t. prepare_number t (log ++ r ∷ []))) ts ∙ numbers))
              (rises_push (map (λ t. prepare_number t log) (prepares log)) (1 + length log) known.rise (less log (prepares log) known.some));
          some =
              subst (AllByRecursion (λ t. 0 < prepare_number t (log ++ r ∷ []))) (sym ts)
              (push (λ t. 0 < prepare_number t (log ++ r ∷ [])) (prepares log) r.txn (still log r (prepares log) known.some) (omega (arith, number)));
        })
        (λ no.
        let ts : prepares (log ++ r ∷ []) ≡ prepares log = prepares-push log r ∙ ap (λ b. prepares log ++ cond b (r.txn ∷ []) []) no ∙ append-nil (prepares log) in
        record {
          rise = subst Rises (sym (ap (map (λ t. prepare_number t (log ++ r ∷ []))) ts ∙ kept log r (prepares log) known.some)) known.rise;
          some = subst (AllByRecursion (λ t. 0 < prepare_number t (log ++ r ∷ []))) (sym ts) (still log r (prepares log) known.some);
        })
        (cases_Bool (is_prepare r.payload))

pub prepares_rise : (g : Geometry) (log : List LogRecord) → AreMeant g log → PreparesRise log
prepares_rise g log meant = once_rise log (meant_once g log meant)
