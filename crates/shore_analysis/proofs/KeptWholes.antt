-- Where nothing is cut off, and no record is a checkpoint's, what is kept is judged as a whole log is, and its tables are the same.
use Rattle.std.proofs.Common.{◌≡◌, ⊎_elim, ◌+◌, ◌<◌, ℕ, List, [], ◌∷◌, ◌++◌, Bool, true, false, cond, Some, refl, sym, ap, subst, ◌∙◌, length, map, take, arith, Result, Ok, Err}
use Rattle.std.specs.Prelude.{◌&&◌, All, IfOk, nat_lt, reverse, slice_get}
use Rattle.std.proofs.lemmas.Bool.{true≢false}
use Rattle.std.proofs.lemmas.List.Elements.{All-weaker}
use Rattle.std.proofs.lemmas.Option.{slice_get_within, get_or_from_slice_get}
use Rattle.shore_types.specs.declared.layout.Geometry.{Geometry}
use Rattle.shore_model.specs.declared.log_records.LogRecord.{LogRecord}
use Rattle.shore_model.specs.declared.log_records.LogTxn.{LogTxn}
use Rattle.shore_model.specs.declared.log_records.Payload.{Payload}
use Rattle.shore_model.specs.declared.log_records.Payload.TheVariants.{Change, Compensation, Commit, End, Prepare, RollbackDecided, CheckpointBegin, CheckpointEnd, Anchor}
use Rattle.shore_model.specs.Logs.{IsEntry, IsTable, first_number, is_of_checkpoint, last_of, unanswered, undo_next_of}
use Rattle.shore_model.specs.declared.unanswered_changes.UnansweredChange.{UnansweredChange}
use Rattle.laws_lives.proofs.Redo.{take_next}
use Rattle.laws_checkpoints.specs.KeptLogs.{kept_records_of}
use Rattle.laws_checkpoints.specs.KeptTables.{IsKeptEntry, IsKeptTable}
use Rattle.laws_checkpoints.specs.MeantBehind.{first_previous}
use Rattle.shore_analysis.specs.KeptMeant.{AreMeantKept, HaveEnded, IsWholeIn, MayBeKept, SaysInBounds, SaysOfCheckpoint, listed_cut_off, to_have_ended}
use Rattle.shore_analysis.specs.Losers.{CutsOffEnded}
use Rattle.shore_analysis.specs.Meant.{AreMeant, AreMeantOf, IsMeant, MayBeNext, Means}
use Rattle.shore_analysis.proofs.Answered.{last_named, one_or_none}
use Rattle.shore_analysis.proofs.Counted.{last_is_one}
use Rattle.shore_analysis.proofs.KeptMeans.{meant_whole, says_kept}
use Rattle.shore_analysis.proofs.KeptRecords.{empty_or, first-first, first-later, records-other}
use Rattle.shore_analysis.proofs.MeantLogs.{AreMeantOf-take, by_own, meant_of, nothing_unanswered}

-- ---- tables

pub whole_entry : (rs : List LogRecord) (e : LogTxn) → IsKeptEntry 0 rs e → IsEntry rs e
whole_entry rs e h = (
  record { is_one = h.unended.is_one; known = h.unended.known; not_over = h.unended.not_over; in_doubt = h.in_doubt },
  record { first = h.first; last = h.last; undo_next = h.undo_next; prepare = h.prepare },
)

pub kept_entry : (rs : List LogRecord) (e : LogTxn) → IsEntry rs e → IsKeptEntry 0 rs e
kept_entry rs e h = record {
  unended = record { is_one = h.0.is_one; known = h.0.known; not_over = h.0.not_over };
  in_doubt = h.0.in_doubt;
  first = h.1.first;
  last = h.1.last;
  undo_next = h.1.undo_next;
  prepare = h.1.prepare;
}

pub whole_table : (rs : List LogRecord) (txns : List LogTxn) → IsKeptTable 0 rs txns → IsTable rs txns
whole_table rs txns h = record { rising = h.rising; each = All-weaker (IsKeptEntry 0 rs) (IsEntry rs) (whole_entry rs) txns h.each; every = h.every }

pub kept_table : (rs : List LogRecord) (txns : List LogTxn) → IsTable rs txns → IsKeptTable 0 rs txns
kept_table rs txns h = record { rising = h.rising; each = All-weaker (IsEntry rs) (IsKeptEntry 0 rs) (kept_entry rs) txns h.each; every = h.every }

-- ---- each transaction is whole

pub all_whole : (g : Geometry) (t : ℕ) → 0 < t → (log : List LogRecord) → AreMeantOf g t log → IsWholeIn 0 log t
all_whole g t one = by_own g t (λ log. IsWholeIn 0 log t) refl own (λ xs r ne h. ap first_previous (records-other 0 xs r t ne) ∙ h)
  where
    own : (xs : List LogRecord) (r : LogRecord) → r.txn ≡ t → IsMeant g xs r → IsWholeIn 0 xs t → IsWholeIn 0 (xs ++ r ∷ []) t
    own xs r is m h = subst (IsWholeIn 0 (xs ++ r ∷ [])) is (⊎_elim
        (λ none.
        first-first 0 xs r none ∙ m.previous ∙ last_named xs r.txn m.some ∙ ap (λ es. first_number (reverse es)) none)
        (λ some. first-later 0 xs r some ∙ ap (λ u. first_previous (kept_records_of 0 u xs)) is ∙ h)
        (empty_or (kept_records_of 0 r.txn xs)))

pub bounds_of : (g : Geometry) (log : List LogRecord) (t n : ℕ) (p : Payload) → Means g log t p → SaysInBounds g n p
bounds_of g log t n (Change id was image) says = says.0
bounds_of g log t n (Compensation id image undo_next) says = says.0
bounds_of g log t n Commit says = tt
bounds_of g log t n End says = tt
bounds_of g log t n (Prepare global granules) says = says.0
bounds_of g log t n RollbackDecided says = tt
bounds_of g log t n CheckpointBegin says = absurd says
bounds_of g log t n (CheckpointEnd begin next txns dirty) says = absurd says
bounds_of g log t n (Anchor checkpoint tail) says = absurd says

none_listed : (g : Geometry) (log : List LogRecord) (t : ℕ) (p : Payload) → Means g log t p → listed_cut_off 0 p ≡ []
none_listed g log t (Change id was image) says = refl
none_listed g log t (Compensation id image undo_next) says = refl
none_listed g log t Commit says = refl
none_listed g log t End says = refl
none_listed g log t (Prepare global granules) says = refl
none_listed g log t RollbackDecided says = refl
none_listed g log t CheckpointBegin says = absurd says
none_listed g log t (CheckpointEnd begin next txns dirty) says = absurd says
none_listed g log t (Anchor checkpoint tail) says = absurd says

module _ (g : Geometry) (rs : List LogRecord) (n : ℕ) (r : LogRecord) (at : slice_get rs n ≡ Some r) where
  abbrev before : List LogRecord
  before = take n rs

  of_front : AreMeantOf g r.txn rs → AreMeantOf g r.txn (before ++ r ∷ [])
  of_front all = subst (AreMeantOf g r.txn) (take_next rs n r at) (AreMeantOf-take g r.txn rs (n + 1) all)

  pub may_be_kept : AreMeant g rs → MayBeKept g 0 rs n r
  may_be_kept all =
      let here = all n r at in
      let m = here.0 in
      let whole = all_whole g r.txn m.some (before ++ r ∷ []) (of_front (meant_of g rs all r.txn)) in
      record {
        now = record {
          number = m.number;
          bounds = bounds_of g before r.txn (0 + 1 + length before) r.payload m.says;
          sizes = m.sizes;
          not_over = λ one. m.not_over;
          of_nobody = λ none. let some = m.some in absurd (omega (arith, none, some));
          of_whole = λ one is. record { is_one = one; previous = m.previous ∙ last_named before r.txn one; says = says_kept r.txn one 0 before g r.payload m.says };
          of_cut_off = λ one off. absurd (off whole);
        };
        few = λ crowded. here.1 (crowded.0, whole_table (before ++ r ∷ []) crowded.0 crowded.1, crowded.2);
        ended = subst (HaveEnded 0 rs) (sym (none_to_end m whole)) tt;
      }
    where
      none_to_end : IsMeant g before r → IsWholeIn 0 (before ++ r ∷ []) r.txn → to_have_ended 0 before r ≡ []
      none_to_end m whole =
          ap (λ k. cond (nat_lt 0 r.txn && nat_lt 0 k) (r.txn ∷ []) [] ++ listed_cut_off 0 r.payload) whole
          ∙ never (nat_lt 0 r.txn) ∙ none_listed g before r.txn r.payload m.says
        where
          never : (b : Bool) → (cond (b && false) (r.txn ∷ []) [] ++ listed_cut_off 0 r.payload) ≡ listed_cut_off 0 r.payload
          never true = refl
          never false = refl

  -- a record of a transaction means what it has to
  pub is_meant : 0 < r.txn → MayBeKept g 0 rs n r → IsMeant g before r
  is_meant one k =
      let whole : IsWholeIn 0 (before ++ r ∷ []) r.txn = ⊎_elim
      (λ zero. zero)
      (λ some.
      let off = k.now.of_cut_off one (λ is. omega (arith, some, is)) in
      let below = off.cut_off.below in
      absurd (omega (arith, some, below)))
      (one_or_none (first_previous (kept_records_of 0 r.txn (before ++ r ∷ [])))) in
      meant_whole g 0 before r one whole k.now

  pub may_be_next : is_of_checkpoint r.payload ≡ false → MayBeKept g 0 rs n r → MayBeNext g before r
  may_be_next plain k =
      let one : 0 < r.txn = ⊎_elim (λ none. absurd (not_nobody r.payload plain (k.now.of_nobody none).1)) (λ some. some) (one_or_none r.txn) in
      (is_meant one k, λ crowded. k.few (crowded.0, kept_table (before ++ r ∷ []) crowded.0 crowded.1, crowded.2))
    where
      not_nobody : (p : Payload) → is_of_checkpoint p ≡ false → SaysOfCheckpoint 0 before p → ⊥
      not_nobody CheckpointBegin plain says = true≢false plain
      not_nobody (CheckpointEnd begin next txns dirty) plain says = true≢false plain
      not_nobody (Anchor checkpoint tail) plain says = true≢false plain
      not_nobody (Change id was image) plain says = says
      not_nobody (Compensation id image undo_next) plain says = says
      not_nobody Commit plain says = says
      not_nobody End plain says = says
      not_nobody (Prepare global granules) plain says = says
      not_nobody RollbackDecided plain says = says

pub whole_is_kept : (g : Geometry) (rs : List LogRecord) → AreMeant g rs → AreMeantKept g 0 rs
whole_is_kept g rs all n r at = may_be_kept g rs n r at all

pub kept_is_whole : (g : Geometry) (rs : List LogRecord) → All (λ r. is_of_checkpoint r.payload ≡ false) rs → AreMeantKept g 0 rs → AreMeant g rs
kept_is_whole g rs plain all n r at =
    let here : is_of_checkpoint r.payload ≡ false = subst (λ (x : LogRecord). is_of_checkpoint x.payload ≡ false) (get_or_from_slice_get rs n r r at) (plain n r (slice_get_within rs n r at)) in
    may_be_next g rs n r at here (all n r at)

-- nobody has a record that is cut off
pub none_is_cut : (log : List LogRecord) → CutsOffEnded 0 log
none_is_cut log = (omega arith, λ t one h. cc)

-- ---- what is left to be undone

-- of nobody nothing is
nobody_unanswered : (g : Geometry) (log : List LogRecord) → AreMeant g log → (t : ℕ) → t ≡ 0 → unanswered t log ≡ []
nobody_unanswered g log meant t none = nothing_unanswered log t (⊎_elim (λ zero. zero) (λ some.
    let one = last_is_one log t some in
    let its = (meant one.at one.found one.here).0.some in
    let own = one.own in
    absurd (omega (arith, own, none, its))) (one_or_none (last_of t log)))

pub told_of_whole : {A B : Type 0} (items : A → List ℕ) (r : Result A B) (log : List LogRecord) (newest : ℕ)
    → IfOk r (λ v. (g : Geometry) (t : ℕ) → 0 < t → AreMeantKept g 0 log → IsWholeIn 0 log t → newest ≡ undo_next_of (unanswered t log) → items v ≡ reverse (map (λ c. c.number) (unanswered t log)))
    → (newest ≡ 0 → IfOk r (λ v. items v ≡ []))
    → IfOk r (λ v. (g : Geometry) (t : ℕ) → AreMeant g log → newest ≡ undo_next_of (unanswered t log) → items v ≡ reverse (map (λ c. c.number) (unanswered t log)))
told_of_whole items (Ok v) log newest all none = λ g t meant is. ⊎_elim
    (λ zero. let nobody = nobody_unanswered g log meant t zero in none (is ∙ ap undo_next_of nobody) ∙ sym (ap (λ (cs : List UnansweredChange). reverse (map (λ c. c.number) cs)) nobody))
    (λ one. all g t one (whole_is_kept g log meant) (all_whole g t one log (meant_of g log meant t)) is)
    (one_or_none t)
told_of_whole items (Err e) log newest all none = tt
