-- The undo list of one in doubt as it comes back from the log, one change after another.
use Rattle.std.proofs.Common.{◌≡◌, ◌≢◌, ◌⊎◌, ◌<◌, ◌≤◌, ◌+◌, ◌-◌, ◌++◌, ◌∷◌, [], ℕ, List, Bool, true, false, cond, Option, None, Some, inl, inr, refl, sym, ap, subst, ◌∙◌, length, map, max, reverse, take, take_all, drop, arith}
use Rattle.std.specs.Prelude.{All, option_map, slice_get, unwrap_or}
use Rattle.std.specs.BTreeMap.{is_at}
use Rattle.std.specs.Cmp.{eq_by_cmp_equiv}
use Rattle.std.proofs.lemmas.Bool.{cases_Bool, ne_eqb}
use Rattle.std.proofs.lemmas.List.{length-map, length-reverse, map-append, reverse-append, reverse-reverse}
use Rattle.std.proofs.lemmas.List.Elements.{All-contains}
use Rattle.std.proofs.lemmas.Option.{get_or_from_slice_get, slice_get-map, slice_get_within}
use Rattle.shore_types.specs.Ids.{exact_rids, rid_cmp, rids_total}
use Rattle.shore_types.specs.Images.{Image, image_len}
use Rattle.shore_types.specs.declared.ids.Rid.{Rid}
use Rattle.shore_types.specs.declared.layout.TheConstants.{MAX_RECORD_BYTES}
use Rattle.shore_page.specs.Undo.{longest}
use Rattle.shore_model.specs.declared.log_records.LogRecord.{LogRecord}
use Rattle.shore_model.specs.declared.log_records.Payload.TheVariants.{Change}
use Rattle.shore_model.specs.declared.unanswered_changes.UnansweredChange.{UnansweredChange}
use Rattle.shore_model.specs.Logs.{unanswered, undo_next_of}
use Rattle.laws_checkpoints.specs.KeptLogs.{kept_unanswered}
use Rattle.shore_analysis.specs.Padded.{padded}
use Rattle.shore_analysis.proofs.KeptMeans.{unanswered_padded}
use Rattle.shore_logrec.specs.Text.{Fits, ImageFits, PayloadFits}
use Rattle.laws_lives.specs.Doubts.{undo_in}
use Rattle.laws_lives.specs.Sessions.{EachOnce, txns_of}
use Rattle.laws_lives.specs.UndoChains as chains
use Rattle.laws_lives.specs.Views.{IsAmong}
use Rattle.laws_lives.proofs.Booleans.{is_equal}
use Rattle.laws_lives.proofs.DoubtLocks.{contained_among}
use Rattle.laws_lives.proofs.Lists.{among_map, among_right, map-push, mapped_one}
use Rattle.laws_lives.proofs.UndoChains.{unanswered_chain}
use Rattle.laws_room.specs.Claims.{befores_in}
use Rattle.laws_room.specs.Entries.{claim_before, claims_before}
use Rattle.laws_room.specs.LogRooms.{compensation_cost, compensation_costs}
use Rattle.laws_room.proofs.Entries.{before_push}
use Rattle.laws_room.proofs.Pages.{pushed_here, pushed_there}
use Rattle.shore_txn.specs.ActiveTxns.{OneBecomes, session_txns}
use Rattle.shore_txn.specs.Numbers.{first_with}
use Rattle.shore_txn.specs.Transactions.{AtSeat, IsSeatIn, numbers_in, txns_in}
use Rattle.shore_txn.specs.Txns.{IsAfterChange, KeepsName, entries_of, first_of, marks_of, number_of, state_of}
use Rattle.shore_txn.specs.UndoEntries.{HaveClaims, image_of, images_of}
use Rattle.shore_txn.specs.declared.seat.Seat.{Seat}
use Rattle.shore_txn.specs.declared.transactions.Transactions.{Transactions}
use Rattle.shore_txn.specs.declared.txn.Txn.{Txn}
use Rattle.shore_txn.specs.declared.undo.UndoEntry.{UndoEntry}
use Rattle.shore_txn.proofs.OneOfMany.{map_with}
use Rattle.shore_sessions.specs.Standing.{as_change}
use Rattle.shore_restart.specs.Doubts.{IsChangeAt}
use Rattle.shore_restart.specs.GivenBack.{HasChangesBack}
use Rattle.shore_restart.proofs.DoubtsNamed.{head_or, one_later, split_here, tail_of}
use Rattle.shore_restart.proofs.Locks.{at_end}

-- ---- lists

pub map_reverse : {A B : Type 0} (f : A → B) (xs : List A) → map f (reverse xs) ≡ reverse (map f xs)
map_reverse f [] = refl
map_reverse f (x ∷ xs) =
    ap (map f) (reverse-append (x ∷ []) xs) ∙ map-append f (reverse xs) (x ∷ []) ∙ ap (λ ys. ys ++ f x ∷ []) (map_reverse f xs)
    ∙ sym (reverse-append (f x ∷ []) (map f xs))

among_back : {A : Type 0} (xs : List A) (x : A) → IsAmong x (reverse xs) → IsAmong x xs
among_back [] x none = none
among_back (y ∷ ys) x there = elim (at_end (reverse ys) y x (subst (IsAmong x) (reverse-append (y ∷ []) ys) there)) [
  | inl before ↦ inr (among_back ys x before)
  | inr same ↦ inl same
]

pub among_at : {A : Type 0} (xs : List A) (i : ℕ) (x : A) → slice_get xs i ≡ Some x → IsAmong x xs
among_at xs i x at = contained_among xs x (i, slice_get_within xs i x at, get_or_from_slice_get xs i x x at)

-- ---- the changes of the log

-- the log has this Change under its number
pub record IsLoggedChange (log : List LogRecord) (c : UnansweredChange) : Type 0 where
  pub some : 0 < c.number
  pub found : LogRecord
  pub after : Image
  pub here : slice_get log (c.number - 1) ≡ Some found
  pub says : found.payload ≡ Change c.id c.before after

pub logged_in : (log : List LogRecord) (t : ℕ) (cs : List UnansweredChange) → chains.IsUndoChain log t cs → (c : UnansweredChange) → IsAmong c cs → IsLoggedChange log c
logged_in log t [] chain c none = absurd none
logged_in log t (x ∷ cs) chain c (inl same) =
    subst (IsLoggedChange log) same (record { some = chain.0.is_one; found = chain.0.found; after = chain.0.after; here = chain.0.here; says = chain.0.says })
logged_in log t (x ∷ cs) chain c (inr later) = logged_in log t cs chain.1 c later

abbrev pub changes_to_undo : List LogRecord → ℕ → List UnansweredChange
changes_to_undo log t = reverse (unanswered t log)

-- the change of a place, by its number
pub record IsNumbered (log : List LogRecord) (t i n : ℕ) : Type 0 where
  pub change : UnansweredChange
  pub at : slice_get (changes_to_undo log t) i ≡ Some change
  pub number : change.number ≡ n
  pub logged : IsLoggedChange log change

pub numbered_at : (log : List LogRecord) (t i n : ℕ) → slice_get (reverse (map (λ c. c.number) (unanswered t log))) i ≡ Some n → IsNumbered log t i n
numbered_at log t i n at = by (slice_get (changes_to_undo log t) i) refl there
  where
    there : option_map (λ (c : UnansweredChange). c.number) (slice_get (changes_to_undo log t) i) ≡ Some n
    there =
        sym (slice_get-map (λ (c : UnansweredChange). c.number) (changes_to_undo log t) i)
        ∙ ap (λ ns. slice_get ns i) (map_reverse (λ (c : UnansweredChange). c.number) (unanswered t log)) ∙ at

    by : (o : Option UnansweredChange) → slice_get (changes_to_undo log t) i ≡ o → option_map (λ (c : UnansweredChange). c.number) o ≡ Some n → IsNumbered log t i n
    by None is none = cc
    by (Some c) is number = record {
      change = c;
      at = is;
      number = one_number c.number number;
      logged = logged_in log t (unanswered t log) (unanswered_chain log t) c (among_back (unanswered t log) c (among_at (changes_to_undo log t) i c is));
    }
      where
        one_number : (m : ℕ) → Some m ≡ Some n → m ≡ n
        one_number m is = cc

-- what is read under the number is the change
pub record ReadsAs (c : UnansweredChange) (id : Rid) (before : Image) : Type 0 where
  pub id_is : id ≡ c.id
  pub before_is : before ≡ c.before

one_record : (r q : LogRecord) → Some r ≡ Some q → r ≡ q
one_record r q is = cc

pub reads_as : (log : List LogRecord) (n : ℕ) (id : Rid) (before : Image) (c : UnansweredChange) → IsLoggedChange log c → c.number ≡ n → IsChangeAt log n id before → ReadsAs c id before
reads_as log n id before c logged number (some, (r, after, here, says)) =
    let same : r ≡ logged.found = one_record r logged.found (sym here ∙ ap (λ (k : ℕ). slice_get log (k - 1)) (sym number) ∙ logged.here) in
    let payload : Change id before after ≡ Change c.id c.before logged.after = sym says ∙ ap (λ (q : LogRecord). q.payload) same ∙ logged.says in
    record { id_is = id_of id c.id before c.before after logged.after payload; before_is = before_of id c.id before c.before after logged.after payload }
  where
    id_of : (a b : Rid) (x y z w : Image) → Change a x z ≡ Change b y w → a ≡ b
    id_of a b x y z w is = cc

    before_of : (a b : Rid) (x y z w : Image) → Change a x z ≡ Change b y w → x ≡ y
    before_of a b x y z w is = cc

pub never_unread : (log : List LogRecord) (n : ℕ) (c : UnansweredChange) → IsLoggedChange log c → c.number ≡ n → ((id : Rid) (before : Image) → IsChangeAt log n id before → ⊥) → ⊥
never_unread log n c logged number none =
    none c.id c.before (subst (λ (k : ℕ). 0 < k) number logged.some, (logged.found, logged.after, subst (λ (k : ℕ). slice_get log (k - 1) ≡ Some logged.found) number logged.here, logged.says))

-- its image is no longer than a record
pub short_before : (log : List LogRecord) (n : ℕ) (id : Rid) (before : Image) → All Fits log → IsChangeAt log n id before → image_len before ≤ MAX_RECORD_BYTES
short_before log n id before fit (some, (r, after, here, says)) =
    let fits : Fits r = All-contains Fits log r fit (n - 1, slice_get_within log (n - 1) r here, get_or_from_slice_get log (n - 1) r r here) in
    let payload : PayloadFits (Change id before after) = subst PayloadFits says fits.payload_fits in
    short before payload.old
  where
    short : (image : Image) → ImageFits image → image_len image ≤ MAX_RECORD_BYTES
    short None fits = omega arith
    short (Some bytes) fits = fits

-- ---- as images

abbrev pub told_images : List UnansweredChange → List (Rid × Image)
told_images cs = map (λ c. (c.id, c.before)) cs

pub images_as_told : (es : List UndoEntry) → images_of es ≡ told_images (map as_change es)
images_as_told [] = refl
images_as_told (e ∷ es) = ap (λ is. image_of e ∷ is) (images_as_told es)

-- what is undone costs no less with more of it
pub costs_append : (xs ys : List (Rid × Image)) → compensation_costs (xs ++ ys) ≡ compensation_costs xs + compensation_costs ys
costs_append [] ys = omega arith
costs_append (x ∷ xs) ys = let rest = costs_append xs ys in omega (arith, rest)

-- ---- the claims that slots have so far

abbrev pub claim_in : (Rid → Option ℕ) → Rid → ℕ
claim_in claims id = unwrap_or (claims id) 0

pub claims_more : (xs : List (Rid × Image)) (id : Rid) (before : Image) (old new : Rid → Option ℕ) (claim : ℕ) → ((q : Rid) → claim_in old q ≡ longest (befores_in q xs))
    → claim ≡ max (image_len before) (claim_in old id) → ((q : Rid) → new q ≡ cond (is_at (rid_cmp id) q) (Some claim) (old q))
    → (q : Rid) → claim_in new q ≡ longest (befores_in q (xs ++ (id, before) ∷ []))
claims_more xs id before old new claim known is updates q = ap (λ (o : Option ℕ). unwrap_or o 0) (updates q) ∙ by (cases_Bool (is_at (rid_cmp id) q))
  where
    by : (is_at (rid_cmp id) q ≡ true) ⊎ (is_at (rid_cmp id) q ≡ false) → unwrap_or (cond (is_at (rid_cmp id) q) (Some claim) (old q)) 0 ≡ longest (befores_in q (xs ++ (id, before) ∷ []))
    by (inl here) =
        let same : id ≡ q = exact_rids id q (is_equal (rid_cmp id q) here) in
        ap (λ (b : Bool). unwrap_or (cond b (Some claim) (old q)) 0) here ∙ is ∙ ap (max (image_len before)) (known id) ∙ sym (ap longest (pushed_here xs (id, before)))
        ∙ ap (λ (p : Rid). longest (befores_in p (xs ++ (id, before) ∷ []))) same
    by (inr off) =
        let apart : q ≢ id = λ same. let here : is_at (rid_cmp id) q ≡ true = ap (is_at (rid_cmp id)) same ∙ (eq_by_cmp_equiv rids_total).refl id in let clash : true ≡ false = sym here ∙ off in cc in
        ap (λ (b : Bool). unwrap_or (cond b (Some claim) (old q)) 0) off ∙ known q ∙ sym (ap longest (pushed_there q xs (id, before) apart))

-- no claim is longer than a record
pub claims_short : (id : Rid) (old new : Rid → Option ℕ) (claim : ℕ) → claim ≤ MAX_RECORD_BYTES → ((q : Rid) → claim_in old q ≤ MAX_RECORD_BYTES)
    → ((q : Rid) → new q ≡ cond (is_at (rid_cmp id) q) (Some claim) (old q)) → (q : Rid) → claim_in new q ≤ MAX_RECORD_BYTES
claims_short id old new claim short known updates q = subst (λ (o : Option ℕ). unwrap_or o 0 ≤ MAX_RECORD_BYTES) (sym (updates q)) (by (is_at (rid_cmp id) q))
  where
    by : (b : Bool) → unwrap_or (cond b (Some claim) (old q)) 0 ≤ MAX_RECORD_BYTES
    by true = short
    by false = known q

-- ---- one of many, twice

module _ {A : Type 0} (f : A → ℕ) where
  pub record IsOneSplit (xs ys rest bs : List A) (x y : A) : Type 0 where
    pub front : xs ≡ ys
    pub one : x ≡ y
    pub back : rest ≡ bs

  -- a list in which each number comes once has one place for a number
  pub one_split : (xs ys rest bs : List A) (x y : A) → EachOnce (map f (xs ++ x ∷ rest)) → xs ++ x ∷ rest ≡ ys ++ y ∷ bs → f x ≡ f y → IsOneSplit xs ys rest bs x y
  one_split [] [] rest bs x y once is same = record { front = refl; one = ap (head_or x) is; back = ap tail_of is }
  one_split [] (z ∷ ys) rest bs x y once is same =
      let there : IsAmong y rest = subst (IsAmong y) (sym (ap tail_of is)) (among_right y ys (y ∷ bs) (inl refl)) in
      absurd (once.0 (subst (λ n. IsAmong n (map f rest)) (sym same) (among_map f y rest there)))
  one_split (z ∷ xs) [] rest bs x y once is same =
      let own : z ≡ y = ap (head_or z) is in
      absurd (once.0 (subst (λ n. IsAmong n (map f (xs ++ x ∷ rest))) (same ∙ ap f (sym own)) (among_map f x (xs ++ x ∷ rest) (among_right x xs (x ∷ rest) (inl refl)))))
  one_split (z ∷ xs) (w ∷ ys) rest bs x y once is same =
      let later = one_split xs ys rest bs x y once.1 (ap tail_of is) same in
      record { front = (λ i. ap (head_or z) is i ∷ later.front i); one = later.one; back = later.back }

numbers_of : (ts : List Txn) → txns_of (session_txns ts) ≡ map number_of ts
numbers_of [] = refl
numbers_of (t ∷ ts) = ap (λ ns. number_of t ∷ ns) (numbers_of ts)

pub becomes_then : (n : ℕ) (P Q R : Txn → Txn → Type 0) (old mid new : List Txn) → EachOnce (txns_of (session_txns mid)) → OneBecomes n P old mid → OneBecomes n Q mid new
    → ((x y : Txn) → P x y → number_of y ≡ number_of x) → ((x y z : Txn) → P x y → Q y z → R x z) → OneBecomes n R old new
becomes_then n P Q R old mid new once first then_on stays both =
    let same = one_split number_of first.newer then_on.newer first.older then_on.older first.after then_on.before (subst EachOnce (ap (map number_of) first.is) (subst EachOnce (numbers_of mid) once))
    (sym first.is ∙ then_on.was) (stays first.before first.after first.becomes ∙ first.txn ∙ sym then_on.txn) in
    record {
      newer = first.newer;
      older = first.older;
      before = first.before;
      after = then_on.after;
      was = first.was;
      is = then_on.is ∙ (λ i. sym same.front i ++ then_on.after ∷ sym same.back i);
      txn = first.txn;
      becomes = both first.before first.after then_on.after first.becomes (subst (λ (t : Txn). Q t then_on.after) (sym same.one) then_on.becomes);
    }

-- a transaction keeps its number, and so every seat its place
pub seat_kept : (seat : Seat) (n : ℕ) (Q : Txn → Txn → Type 0) (old new : Transactions) → OneBecomes n Q (txns_in old) (txns_in new) → ((x y : Txn) → Q x y → number_of y ≡ number_of x) → IsSeatIn seat old → IsSeatIn seat new
seat_kept seat n Q old new one stays seated =
    let same : map number_of (txns_in new) ≡ map number_of (txns_in old) =
    ap (map number_of) one.is ∙ map_with number_of one.newer one.older one.after one.before (stays one.before one.after one.becomes) ∙ ap (map number_of) (sym one.was) in
    subst (λ (ns : List ℕ). slice_get (reverse ns) seat.index ≡ Some seat.txn) (sym same) seated

-- ---- with some of its changes

-- a transaction that had no change has these, and is else as it was
pub record HasSome (cs : List UnansweredChange) (old new : Txn) : Type 0 where
  pub txn : number_of new ≡ number_of old
  pub session : new.session ≡ old.session
  pub name : KeepsName old new
  pub first : 0 < first_of old → first_of new ≡ first_of old
  pub changes : map as_change (entries_of new) ≡ cs
  pub claims : HaveClaims (entries_of new)
  pub marks : marks_of new ≡ marks_of old
  pub state : state_of new ≡ state_of old

pub has_none : (t : Txn) → entries_of t ≡ [] → HasSome [] t t
has_none t none = record {
  txn = refl;
  session = refl;
  name = record { seated = refl; global = refl; prepare = refl; decided = refl };
  first = λ some. refl;
  changes = ap (map as_change) none;
  claims = ap (map (λ (e : UndoEntry). e.claim)) none ∙ sym (ap (λ es. claims_before (images_of es)) none);
  marks = refl;
  state = refl;
}

-- a seat's transaction is there
pub starts_at : (seat : Seat) (table : Transactions) → IsSeatIn seat table → AtSeat seat table (λ t. entries_of t ≡ []) → OneBecomes seat.txn (HasSome []) (txns_in table) (txns_in table)
starts_at seat table seated none =
    let (t, among, number) = mapped_one number_of seat.txn (txns_in table) (among_back (map number_of (txns_in table)) seat.txn (among_at (numbers_in table) seat.index seat.txn seated)) in
    let (newer, older, is) = parts t (txns_in table) among in
    record { newer = newer; older = older; before = t; after = t; was = is; is = is; txn = number; becomes = has_none t (none t among number) }
  where
    parts : (t : Txn) (ts : List Txn) → IsAmong t ts → (newer : List Txn) × (older : List Txn) × (ts ≡ newer ++ t ∷ older)
    parts t [] none = absurd none
    parts t (x ∷ ts) (inl same) = ([], ts, ap (λ (y : Txn). y ∷ ts) same)
    parts t (x ∷ ts) (inr later) = let (newer, older, is) = parts t ts later in (x ∷ newer, older, ap (λ ys. x ∷ ys) is)

-- a number of a first record stays
pub first_stays : (first lsn : ℕ) → 0 < first → first_with first lsn ≡ first
first_stays first lsn some = ap (λ (b : Bool). cond b lsn first) (ne_eqb first 0 (λ none. omega (arith, some, none)))

pub has_more : (cs : List UnansweredChange) (c : UnansweredChange) (e : UndoEntry) (old mid new : Txn) → as_change e ≡ c → e.claim ≡ claim_before (told_images cs) (image_of e) → HasSome cs old mid → IsAfterChange mid e new
    → HasSome (cs ++ c ∷ []) old new
has_more cs c e old mid new is claim has after =
    let told : images_of (entries_of mid) ≡ told_images cs = images_as_told (entries_of mid) ∙ ap told_images has.changes in
    record {
      txn = after.txn ∙ has.txn;
      session = after.session ∙ has.session;
      name = record { seated = after.name.seated ∙ has.name.seated; global = after.name.global ∙ has.name.global; prepare = after.name.prepare ∙ has.name.prepare; decided = after.name.decided ∙ has.name.decided };
      first = λ some.
          let was = has.first some in
          after.first ∙ first_stays (first_of mid) e.lsn (omega (arith, some, was)) ∙ was;
      changes = ap (map as_change) after.entries ∙ map-push as_change (entries_of mid) e ∙ (λ i. has.changes i ++ is i ∷ []);
      claims = ap (map (λ (x : UndoEntry). x.claim)) after.entries ∙ map-push (λ (x : UndoEntry). x.claim) (entries_of mid) e
          ∙ (λ i. has.claims i ++ (claim ∙ ap (λ xs. claim_before xs (image_of e)) (sym told)) i ∷ [])
          ∙ sym (before_push (images_of (entries_of mid)) (image_of e)) ∙ ap claims_before (sym (map-push image_of (entries_of mid) e)) ∙ ap (λ es. claims_before (images_of es)) (sym after.entries);
      marks = after.marks ∙ has.marks;
      state = after.state ∙ has.state;
    }

pub has_all : (log : List LogRecord) (old new : Txn) → HasSome (changes_to_undo log (number_of old)) old new → HasChangesBack log old new
has_all log old new has = record {
  txn = has.txn;
  session = has.session;
  name = has.name;
  first = has.first;
  entries = record { changes = sym (reverse-reverse (unanswered (number_of old) log)) ∙ ap reverse (sym has.changes); claims = has.claims };
  marks = has.marks;
  state = has.state;
}

-- ---- one step, and the end

pub some_short : (image : Image) → image_len image ≤ MAX_RECORD_BYTES → (o : Option ℕ) → o ≡ option_map length image → (n : ℕ) → o ≡ Some n → n ≤ MAX_RECORD_BYTES
some_short None short o is n some = let clash : ◌≡◌ {A = Option ℕ} None (Some n) = sym is ∙ some in cc
some_short (Some bytes) short o is n some =
    let both : ◌≡◌ {A = Option ℕ} (Some n) (Some (length bytes)) = sym some ∙ is in let same : n ≡ length bytes = cc in omega (arith, same, short)

pub images_to_undo : (log : List LogRecord) (t : ℕ) → told_images (changes_to_undo log t) ≡ (undo_in log t).images
images_to_undo log t = map_reverse (λ (x : UnansweredChange). (x.id, x.before)) (unanswered t log)

module _ (log : List LogRecord) (t i : ℕ) (c : UnansweredChange) (at : slice_get (changes_to_undo log t) i ≡ Some c) where
  abbrev so_many : List UnansweredChange
  so_many = take i (changes_to_undo log t)

  one_told : told_images (take (i + 1) (changes_to_undo log t)) ≡ told_images so_many ++ (c.id, c.before) ∷ []
  one_told = ap told_images (one_later (changes_to_undo log t) i c at) ∙ map-push (λ (x : UnansweredChange). (x.id, x.before)) so_many c

  pub becomes_more : {e : UndoEntry} (old mid new : List Txn) → EachOnce (txns_of (session_txns mid)) → OneBecomes t (HasSome so_many) old mid → OneBecomes t (λ x y. IsAfterChange x e y) mid new → as_change e ≡ c
      → e.claim ≡ claim_before (told_images so_many) (image_of e) → OneBecomes t (HasSome (take (i + 1) (changes_to_undo log t))) old new
  becomes_more {e} old mid new once first noted is claim =
      subst (λ (cs : List UnansweredChange). OneBecomes t (HasSome cs) old new) (sym (one_later (changes_to_undo log t) i c at))
      (becomes_then t (HasSome so_many) (λ x y. IsAfterChange x e y) (HasSome (so_many ++ c ∷ [])) old mid new once first noted (λ x y has. has.txn) (λ x y z has after. has_more so_many c e x y z is claim has after))

  pub claims_then : (id : Rid) (before : Image) → ReadsAs c id before → (old new : Rid → Option ℕ) (claim : ℕ) → ((q : Rid) → claim_in old q ≡ longest (befores_in q (told_images so_many)))
      → claim ≡ max (image_len before) (claim_in old id) → ((q : Rid) → new q ≡ cond (is_at (rid_cmp id) q) (Some claim) (old q))
      → (q : Rid) → claim_in new q ≡ longest (befores_in q (told_images (take (i + 1) (changes_to_undo log t))))
  claims_then id before reads old new claim known is updates q =
      claims_more (told_images so_many) id before old new claim known is updates q
      ∙ ap (λ (xs : List (Rid × Image)). longest (befores_in q xs)) (ap (λ (x : Rid × Image). told_images so_many ++ x ∷ []) (λ j. (reads.id_is j, reads.before_is j)) ∙ sym one_told)

  pub costs_then : compensation_costs (told_images (take (i + 1) (changes_to_undo log t))) ≡ compensation_costs (told_images so_many) + compensation_cost c.before
  costs_then =
      ap compensation_costs one_told ∙ costs_append (told_images so_many) ((c.id, c.before) ∷ []) ∙ ap (λ (n : ℕ). compensation_costs (told_images so_many) + n) (one_cost (compensation_cost c.before))
    where
      one_cost : (n : ℕ) → n + 0 ≡ n
      one_cost n = omega arith

  -- no more than all of it costs
  pub costs_most : compensation_costs (told_images so_many) + compensation_cost c.before ≤ compensation_costs (undo_in log t).images
  costs_most =
      let split : told_images (changes_to_undo log t) ≡ told_images so_many ++ told_images (c ∷ drop (i + 1) (changes_to_undo log t)) =
      ap told_images (split_here (changes_to_undo log t) i c at) ∙ map-append (λ (x : UnansweredChange). (x.id, x.before)) so_many (c ∷ drop (i + 1) (changes_to_undo log t)) in
      let sum = ap compensation_costs split ∙ costs_append (told_images so_many) (told_images (c ∷ drop (i + 1) (changes_to_undo log t))) in
      let all : compensation_costs (told_images (changes_to_undo log t)) ≡ compensation_costs (undo_in log t).images = ap compensation_costs (images_to_undo log t) in
      omega (arith, sum, all)

pub as_many_numbers : (log : List LogRecord) (t : ℕ) → length (reverse (map (λ c. c.number) (unanswered t log))) ≡ length (changes_to_undo log t)
as_many_numbers log t = length-reverse (map (λ (c : UnansweredChange). c.number) (unanswered t log)) ∙ length-map (unanswered t log) (λ (c : UnansweredChange). c.number) ∙ sym (length-reverse (unanswered t log))

pub becomes_all : (log : List LogRecord) (t i : ℕ) (old new : List Txn) → length (changes_to_undo log t) ≤ i → OneBecomes t (HasSome (take i (changes_to_undo log t))) old new → OneBecomes t (HasChangesBack log) old new
becomes_all log t i old new end one = record {
  newer = one.newer;
  older = one.older;
  before = one.before;
  after = one.after;
  was = one.was;
  is = one.is;
  txn = one.txn;
  becomes = has_all log one.before one.after (subst (λ (cs : List UnansweredChange). HasSome cs one.before one.after) (take_all i (changes_to_undo log t) end ∙ ap (changes_to_undo log) (sym one.txn)) one.becomes);
}

-- the numbers that what is kept tells are those of the log with a record of nobody in the place of each that is cut off
pub told_behind : (cut : ℕ) (kept : List LogRecord) (t : ℕ) → 0 < t → (numbers : List ℕ) (newest : ℕ)
    → (newest ≡ undo_next_of (kept_unanswered cut t kept) → numbers ≡ reverse (map (λ c. c.number) (kept_unanswered cut t kept)))
    → newest ≡ undo_next_of (unanswered t (padded cut kept)) → numbers ≡ reverse (map (λ c. c.number) (unanswered t (padded cut kept)))
told_behind cut kept t one numbers newest told is =
    let same : unanswered t (padded cut kept) ≡ kept_unanswered cut t kept = unanswered_padded t one cut kept in
    told (is ∙ ap undo_next_of same) ∙ ap (λ (cs : List UnansweredChange). reverse (map (λ c. c.number) cs)) (sym same)
