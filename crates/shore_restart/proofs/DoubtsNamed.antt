-- What the entries of those in doubt lead to: each to the one in doubt of its place, by its Prepare.
use Rattle.std.proofs.Common.{◌≡◌, ◌⊎◌, ⊎_elim, ◌++◌, ◌∷◌, [], ◌<◌, ◌≤◌, ◌+◌, ◌-◌, ℕ, zero, suc, List, Bool, cond, Option, None, Some, true, false, inl, inr, refl, sym, ap, subst, ◌∙◌, length, map, take, drop, arith}
use Rattle.std.specs.Prelude.{All, Any, filter, nat_lt, not, option_and_then, option_map, slice_get}
use Rattle.std.specs.List.{AllByRecursion, filter_map}
use Rattle.std.proofs.lemmas.Bool.{lt-ltb, ltb-true, ne_eqb}
use Rattle.std.proofs.lemmas.List.Elements.{All-contains}
use Rattle.std.proofs.lemmas.List.{drop_more, length-map, take-append-drop, take_more}
use Rattle.std.proofs.lemmas.Option.{get_or_from_slice_get, slice_get-map, slice_get_within}
use Rattle.shore_types.specs.declared.layout.Geometry.{Geometry}
use Rattle.shore_types.specs.declared.layout.TheConstants.{LAST_TXN}
use Rattle.shore_types.specs.declared.locking.Granule.{Granule}
use Rattle.shore_model.specs.declared.log_records.LogRecord.{LogRecord}
use Rattle.shore_model.specs.declared.log_records.LogTxn.{LogTxn}
use Rattle.shore_model.specs.Logs.{HasNumbers, is_in_doubt, is_over, prepare_number}
use Rattle.laws_lives.specs.Doubts.{LoggedDoubt, doubt_of, doubts_in}
use Rattle.laws_lives.specs.Sessions.{EachOnce}
use Rattle.laws_lives.specs.Views.{IsAmong}
use Rattle.laws_lives.proofs.DoubtLocks.{contained_among}
use Rattle.laws_lives.proofs.DoubtRecords.{among_filter}
use Rattle.laws_lives.proofs.Writers.{never_true}
use Rattle.laws_lives.proofs.Lists.{among_contained, among_map, map-take, mapped_one, recursion-at}
use Rattle.shore_analysis.specs.Doubts.{doubt_at, doubts_left, kept_doubt_at, kept_said_at, said_at}
use Rattle.shore_analysis.specs.KeptMeant.{AreMeantKept}
use Rattle.shore_analysis.specs.Padded.{padded}
use Rattle.shore_analysis.proofs.DoubtsLeft.{is_left, is_left_by, left_rise, left_runs, left_told, left_txns}
use Rattle.shore_analysis.proofs.InOrder.{Rises, filter_among, is_among, one_of_all, prepare_is, prepares}
use Rattle.shore_analysis.proofs.MeantLogs.{in_doubt_prepared}
use Rattle.shore_analysis.proofs.OneMore.{prepare_known}
use Rattle.shore_analysis.proofs.Padding.{behind_cut, get_blank, get_number, get_padded}
use Rattle.shore_restart.specs.Doubts.{AreEntriesOfDoubts, name_at}

-- ---- lists

abbrev pub head_or : {A : Type 0} → A → List A → A
head_or x [] = x
head_or x (y ∷ ys) = y

abbrev pub tail_of : {A : Type 0} → List A → List A
tail_of [] = []
tail_of (y ∷ ys) = ys

pub split_here : {A : Type 0} (xs : List A) (i : ℕ) (x : A) → slice_get xs i ≡ Some x → xs ≡ take i xs ++ x ∷ drop (i + 1) xs
split_here xs i x is =
    sym (take-append-drop i xs) ∙ ap (λ ys. take i xs ++ ys) (drop_more xs i x (slice_get_within xs i x is) ∙ ap (λ y. y ∷ drop (i + 1) xs) (get_or_from_slice_get xs i x x is))

pub one_later : {A : Type 0} (xs : List A) (i : ℕ) (x : A) → slice_get xs i ≡ Some x → take (i + 1) xs ≡ take i xs ++ x ∷ []
one_later xs i x is = take_more xs i x (slice_get_within xs i x is) ∙ ap (λ y. take i xs ++ y ∷ []) (get_or_from_slice_get xs i x x is)

once_rises : (f : ℕ → ℕ) (ts : List ℕ) → Rises (map f ts) → EachOnce ts
once_rises f [] rise = tt
once_rises f (t ∷ ts) rise =
    (λ among. let less = one_of_all (λ m. f t < m) (f t) (map f ts) rise.0 (among_map f t ts among) in absurd (omega (arith, less)), once_rises f ts rise.1)

-- what a Prepare says is one name and one list of granules
abbrev name_said : Option (List ℕ × List Granule) → List ℕ
name_said None = []
name_said (Some said) = said.0

abbrev granules_said : Option (List ℕ × List Granule) → List Granule
granules_said None = []
granules_said (Some said) = said.1

pub record SaysAlike (global name : List ℕ) (granules others : List Granule) : Type 0 where
  pub global_is : global ≡ name
  pub granules_are : granules ≡ others

pub says_alike : (global name : List ℕ) (granules others : List Granule) → ◌≡◌ {A = Option (List ℕ × List Granule)} (Some (global, granules)) (Some (name, others)) → SaysAlike global name granules others
says_alike global name granules others is = record { global_is = ap name_said is; granules_are = ap granules_said is }

-- ---- those in doubt

-- one that is left is in doubt, and has not ended
pub left_here : (log : List LogRecord) (d : LoggedDoubt) → IsAmong d (doubts_left log) → (is_in_doubt d.txn log ≡ true) × (is_over d.txn log ≡ false)
left_here log d among =
    let left = among_filter (λ (x : LoggedDoubt). not (is_over x.txn log)) d (doubts_in log) among in
    ((among_filter (λ (x : LoggedDoubt). is_in_doubt x.txn log) d (filter_map doubt_of log) left.0).1, not_false (is_over d.txn log) left.1)
  where
    not_false : (b : Bool) → not b ≡ true → b ≡ false
    not_false false h = refl
    not_false true h = cc

-- what is kept says of a Prepare's number what the log does with a record of nobody in the place of each that is cut off
pub said_same : (cut : ℕ) (kept : List LogRecord) (n : ℕ) → kept_doubt_at cut kept n ≡ doubt_at (padded cut kept) n
said_same cut kept n = ⊎_elim
    (λ le. ap (λ (b : Bool). cond b (option_and_then doubt_of (slice_get kept (n - (cut + 1)))) None) (never_true (nat_lt cut n) (λ yes. let lt = ltb-true cut n yes in omega (arith, le, lt))) ∙ sym (none_below n le))
    (λ lt.
    ap (λ (b : Bool). cond b (option_and_then doubt_of (slice_get kept (n - (cut + 1)))) None) (lt-ltb cut n lt)
    ∙ ap (option_and_then doubt_of) (sym (get_number cut n kept lt))
    ∙ sym (ap (λ (b : Bool). cond b None (option_and_then doubt_of (slice_get (padded cut kept) (n - 1)))) (ne_eqb n 0 (λ zero. omega (arith, zero, lt)))))
    (le_or_lt n cut)
  where
    le_or_lt : (a b : ℕ) → (a ≤ b) ⊎ (b < a)
    le_or_lt zero b = inl (omega arith)
    le_or_lt (suc a) zero = inr (omega arith)
    le_or_lt (suc a) (suc b) = ⊎_elim (λ le. inl (omega (arith, le))) (λ lt. inr (omega (arith, lt))) (le_or_lt a b)

    none_below : (n : ℕ) → n ≤ cut → doubt_at (padded cut kept) n ≡ None
    none_below zero le = refl
    none_below (suc n) le =
        let one : suc n - 1 ≡ n = omega arith in
        ap (λ (b : Bool). cond b None (option_and_then doubt_of (slice_get (padded cut kept) (suc n - 1)))) (ne_eqb (suc n) 0 (λ zero. omega (arith, zero)))
        ∙ ap (λ (k : ℕ). option_and_then doubt_of (slice_get (padded cut kept) k)) one ∙ ap (option_and_then doubt_of) (get_blank cut n kept (omega (arith, le)))

pub kept_said : (cut : ℕ) (kept : List LogRecord) (n : ℕ) → kept_said_at cut kept n ≡ said_at (padded cut kept) n
kept_said cut kept n = ap (option_map (λ (d : LoggedDoubt). (d.global, d.granules))) (said_same cut kept n)

module _ (g : Geometry) (cut : ℕ) (kept : List LogRecord) (meant : AreMeantKept g cut kept) where
  abbrev log : List LogRecord
  log = padded cut kept

  -- each is one transaction
  pub doubts_once : EachOnce (map (λ d. d.txn) (doubts_left log))
  doubts_once = subst EachOnce (left_txns log) (once_rises (λ t. prepare_number t log) (filter (is_left log) (prepares log)) (left_rise g cut kept meant))

  -- one in doubt, as its Prepare tells it
  pub record IsToldDoubt (t : ℕ) : Type 0 where
    pub doubt : LoggedDoubt
    pub among : IsAmong doubt (doubts_left log)
    pub txn : doubt.txn ≡ t
    pub told_by : doubt_at log (prepare_number t log) ≡ Some doubt

  pub told_doubt : (t : ℕ) → is_in_doubt t log ≡ true → is_over t log ≡ false → IsToldDoubt t
  told_doubt t doubts runs = as_told (
      pick (filter (is_left log) (prepares log)) (doubts_left log) (left_told g cut kept meant) (left_txns log)
      (filter_among (is_left log) t (prepares log) (is_among t log (in_doubt_prepared t log doubts)) (is_left_by log t doubts runs)))
    where
      as_told : (d : LoggedDoubt) × IsAmong d (doubts_left log) × (d.txn ≡ t) × (doubt_at log (prepare_number t log) ≡ Some d) → IsToldDoubt t
      as_told r = record { doubt = r.0; among = r.1; txn = r.2; told_by = r.3 }

      pick : (ts : List ℕ) (ds : List LoggedDoubt) → map (λ u. doubt_at log (prepare_number u log)) ts ≡ map (λ d. Some d) ds → ts ≡ map (λ d. d.txn) ds → IsAmong t ts
          → (d : LoggedDoubt) × IsAmong d ds × (d.txn ≡ t) × (doubt_at log (prepare_number t log) ≡ Some d)
      pick [] ds told txns none = absurd none
      pick (u ∷ ts) [] told txns among = cc
      pick (u ∷ ts) (d ∷ ds) told txns (inl same) =
          (d, inl refl, sym (ap (head_or u) txns) ∙ same, ap (λ v. doubt_at log (prepare_number v log)) (sym same) ∙ ap (head_or None) told)
      pick (u ∷ ts) (d ∷ ds) told txns (inr later) = let r = pick ts ds (ap tail_of told) (ap tail_of txns) later in (r.0, inr r.1, r.2, r.3)

  -- its number is one that a transaction may have
  pub record IsNumberOfOne (t : ℕ) : Type 0 where
    pub some : 1 ≤ t
    pub last : t < LAST_TXN
    pub below : (next : ℕ) → All (λ r. r.txn < next) kept → t < next

  pub number_of_one : (t : ℕ) → is_in_doubt t log ≡ true → is_over t log ≡ false → IsNumberOfOne t
  number_of_one t doubts runs =
      let n = prepare_number t log in
      let above = (left_runs g cut kept meant t (is_left_by log t doubts runs)).some in
      let one = prepare_is t log (ltb-true 0 n (prepare_known t log ∙ in_doubt_prepared t log doubts)) in
      let own = one.own in
      let le = behind_cut cut (n - 1) kept one.found one.here (subst (λ (u : ℕ). 0 < u) (sym own) above) in
      let place : cut + (n - 1 - cut) ≡ n - 1 = omega (arith, le) in
      let here : slice_get kept (n - 1 - cut) ≡ Some one.found = sym (get_padded cut (n - 1 - cut) kept) ∙ ap (slice_get log) place ∙ one.here in
      let most = (meant (n - 1 - cut) one.found here).now.number in
      record {
        some = omega (arith, above);
        last = omega (arith, own, most);
        below = λ next all.
            let less : one.found.txn < next =
            All-contains (λ (r : LogRecord). r.txn < next) kept one.found all (n - 1 - cut, slice_get_within kept (n - 1 - cut) one.found here, get_or_from_slice_get kept (n - 1 - cut) one.found one.found here) in
            omega (arith, own, less);
      }

  module _ (es : List LogTxn) (are : AreEntriesOfDoubts log es) where
    abbrev says : LogTxn → Option LoggedDoubt
    says e = doubt_at log e.prepare

    by_prepare : (es : List LogTxn) → AllByRecursion (HasNumbers log) es → map says es ≡ map (λ t. doubt_at log (prepare_number t log)) (map (λ e. e.txn) es)
    by_prepare [] numbers = refl
    by_prepare (e ∷ es) numbers = (λ i. doubt_at log (numbers.0.prepare i) ∷ by_prepare es numbers.1 i)

    told : map says es ≡ map (λ d. Some d) (doubts_left log)
    told = by_prepare es are.numbers ∙ ap (map (λ t. doubt_at log (prepare_number t log))) (are.order ∙ sym (left_txns log)) ∙ left_told g cut kept meant

    txns : map (λ e. e.txn) es ≡ map (λ d. d.txn) (doubts_left log)
    txns = are.order

    pub as_many : length es ≡ length (doubts_left log)
    as_many = sym (length-map es (λ e. e.txn)) ∙ ap length txns ∙ length-map (doubts_left log) (λ d. d.txn)

    -- the one in doubt of an entry
    pub record IsDoubtOf (i : ℕ) (e : LogTxn) : Type 0 where
      pub doubt : LoggedDoubt
      pub at : slice_get (doubts_left log) i ≡ Some doubt
      pub txn : doubt.txn ≡ e.txn
      pub told_by : doubt_at log e.prepare ≡ Some doubt
      pub number : e.prepare ≡ prepare_number doubt.txn log

    pub doubt_of_entry : (i : ℕ) (e : LogTxn) → slice_get es i ≡ Some e → IsDoubtOf i e
    doubt_of_entry i e here = by (slice_get (doubts_left log) i) refl there
      where
        there : option_map (λ d. Some d) (slice_get (doubts_left log) i) ≡ Some (says e)
        there = sym (slice_get-map (λ d. Some d) (doubts_left log) i) ∙ ap (λ l. slice_get l i) (sym told) ∙ slice_get-map says es i ∙ ap (option_map says) here

        by : (o : Option LoggedDoubt) → slice_get (doubts_left log) i ≡ o → option_map (λ d. Some d) o ≡ Some (says e) → IsDoubtOf i e
        by None at is = cc
        by (Some d) at is =
            let same : Some d.txn ≡ Some e.txn =
            sym (ap (option_map (λ (x : LoggedDoubt). x.txn)) at) ∙ sym (slice_get-map (λ (x : LoggedDoubt). x.txn) (doubts_left log) i) ∙ ap (λ l. slice_get l i) (sym txns)
            ∙ slice_get-map (λ (x : LogTxn). x.txn) es i ∙ ap (option_map (λ (x : LogTxn). x.txn)) here in
            let txn : d.txn ≡ e.txn = one_number d.txn e.txn same in
            record {
              doubt = d;
              at = at;
              txn = txn;
              told_by = sym (one_value (Some d) (says e) is);
              number = (recursion-at (HasNumbers log) es i e are.numbers here).prepare ∙ ap (λ t. prepare_number t log) (sym txn);
            }
          where
            one_number : (m n : ℕ) → Some m ≡ Some n → m ≡ n
            one_number m n is = cc

            one_value : (a b : Option LoggedDoubt) → Some a ≡ Some b → a ≡ b
            one_value a b is = cc

    pub doubt_among : (i : ℕ) (e : LogTxn) (here : slice_get es i ≡ Some e) → IsAmong (doubt_of_entry i e here).doubt (doubts_left log)
    doubt_among i e here =
        let its = doubt_of_entry i e here in
        contained_among (doubts_left log) its.doubt (i, slice_get_within (doubts_left log) i its.doubt its.at, get_or_from_slice_get (doubts_left log) i its.doubt its.doubt its.at)

    -- its transaction is in doubt
    pub entry_doubts : (i : ℕ) (e : LogTxn) → slice_get es i ≡ Some e → is_in_doubt e.txn log ≡ true
    entry_doubts i e here =
        let its = doubt_of_entry i e here in
        subst (λ t. is_in_doubt t log ≡ true) its.txn (left_here log its.doubt (doubt_among i e here)).0

    pub entry_runs : (i : ℕ) (e : LogTxn) → slice_get es i ≡ Some e → is_over e.txn log ≡ false
    entry_runs i e here =
        let its = doubt_of_entry i e here in
        subst (λ t. is_over t log ≡ false) its.txn (left_here log its.doubt (doubt_among i e here)).1

    told_to : (n : ℕ) → map says (take n es) ≡ map (λ d. Some d) (take n (doubts_left log))
    told_to n = map-take says n es ∙ ap (take n) told ∙ sym (map-take (λ d. Some d) n (doubts_left log))

    abbrev name_in : Option LoggedDoubt → Option (List ℕ)
    name_in o = option_map (λ (said : List ℕ × List Granule). said.0) (option_map (λ (d : LoggedDoubt). (d.global, d.granules)) o)

    -- a name that one of the first has
    pub used : (n : ℕ) (global : List ℕ) → Any (λ e. name_at log e.prepare ≡ Some global) (take n es) → (d : LoggedDoubt) × IsAmong d (take n (doubts_left log)) × (d.global ≡ global)
    used n global (i, e, within, is, named) =
        let (d, there, own) = mapped_one (λ (d : LoggedDoubt). Some d) (says e) (take n (doubts_left log))
        (subst (IsAmong (says e)) (told_to n) (among_map says e (take n es) (contained_among (take n es) e (i, within, is)))) in
        let same : Some d.global ≡ Some global = ap name_in own ∙ named in
        (d, there, one_name d.global global same)
      where
        one_name : (a b : List ℕ) → Some a ≡ Some b → a ≡ b
        one_name a b is = cc

    -- .. that none of them has
    pub unused : (n : ℕ) (global : List ℕ) → (Any (λ e. name_at log e.prepare ≡ Some global) (take n es) → ⊥) → IsAmong global (map (λ d. d.global) (take n (doubts_left log))) → ⊥
    unused n global none among =
        let (d, there, same) = mapped_one (λ (d : LoggedDoubt). d.global) global (take n (doubts_left log)) among in
        let (e, in_it, own) = mapped_one says (Some d) (take n es) (subst (IsAmong (Some d)) (sym (told_to n)) (among_map (λ (d : LoggedDoubt). Some d) d (take n (doubts_left log)) there)) in
        let c = among_contained e (take n es) in_it in
        none (c.0, e, c.1, c.2, ap name_in own ∙ ap Some same)
