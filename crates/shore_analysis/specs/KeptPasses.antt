-- What a pass over the kept records of a log knows of those behind it.
use Rattle.std.specs.Prelude.{true, false, ◌≡◌, ◌⊎◌, ◌<◌, ◌≤◌, ◌+◌, ◌==◌, ◌++◌, ℕ, List, [], ◌∷◌, All, Bool, Option, Some, IfSome, IsSomeAnd, if◌then◌else◌, is_some, nat_le, None, slice_get, take, unwrap_or}
use Rattle.std.specs.Ordering.{nat_cmp}
use Rattle.std.specs.BTreeMap.{get}
use Rattle.std.specs.BTreeSet.{contains}
use Rattle.shore_types.specs.declared.layout.Geometry.{Geometry}
use Rattle.shore_model.specs.declared.log_records.LogRecord.{LogRecord}
use Rattle.shore_model.specs.declared.log_records.LogTxn.{LogTxn}
use Rattle.shore_model.specs.Logs.{is_over}
use Rattle.laws_checkpoints.specs.Checkpoints.{Checkpoint}
use Rattle.laws_checkpoints.specs.KeptLogs.{kept_last_of, kept_records_of}
use Rattle.laws_checkpoints.specs.MeantBehind.{IsCutOff, first_previous}
use Rattle.laws_lives.specs.Views.{IsAmong}
use Rattle.shore_analysis.specs.declared.kept_passes.KeptPass.{KeptPass}
use Rattle.shore_analysis.specs.declared.kept_passes.Standing.{Standing}
use Rattle.shore_analysis.specs.declared.progress.Phase.TheVariants.{Free}
use Rattle.shore_analysis.specs.declared.kept_passes.Standing.TheVariants.{CutOff, Nowhere, Whole}
use Rattle.shore_analysis.specs.AnchoredMeant.{HasEndedSince, IsAnchoredEnd}
use Rattle.shore_analysis.specs.KeptMeant.{IsKeptCrowded, IsMeantNow, IsWholeIn, to_have_ended}
use Rattle.shore_analysis.specs.Meant.{AreMeantOf}
use Rattle.shore_analysis.specs.Padded.{padded}
use Rattle.shore_analysis.specs.Passes.{begun, entry_at, entry_by, is_ending, is_running, noted, progress_at}
use Rattle.shore_analysis.specs.Tables.{IsNext}

-- ---- entries

-- the entry of a transaction before its first kept record: its front is cut off if that names a record before it
abbrev pub begun_behind : ℕ → LogRecord → LogTxn
begun_behind n r = record (begun r.txn n) { first = if r.previous == 0 then n else r.previous }

abbrev pub entry_behind : ℕ → LogRecord → Option LogTxn → LogTxn
entry_behind n r old = entry_by n r.payload (unwrap_or old (begun_behind n r))

-- who has ended goes on no more
abbrev pub kept_txn_after : ℕ → LogRecord → Bool → Option LogTxn → Option LogTxn
kept_txn_after n r over old = if is_ending r.payload then None else (if over then old else Some (entry_behind n r old))

-- ---- who has ended

pub record KnowsEnds (cut : ℕ) (before : List LogRecord) (pass : KeptPass) : Type 0 where
  pub running : (t : ℕ) → 0 < t → is_some (get nat_cmp pass.running t) ≡ is_running t (padded cut before)
  pub over : (t : ℕ) → contains nat_cmp pass.over t ≡ is_over t before
  pub nobody : get nat_cmp pass.running 0 ≡ None

-- ---- of records that mean what they have to

-- the entry of one whose front is cut off
pub record IsCutOffEntry (cut : ℕ) (before : List LogRecord) (t : ℕ) (e : LogTxn) : Type 0 where
  pub txn : e.txn ≡ t
  pub first : e.first ≡ first_previous (kept_records_of cut t before)
  pub last : e.last ≡ kept_last_of cut t before

pub record KnowsKept (g : Geometry) (cut : ℕ) (before : List LogRecord) (pass : KeptPass) : Type 0 where
  pub ends : KnowsEnds cut before pass
  pub whole : (t : ℕ) → 0 < t → IsWholeIn cut before t → get nat_cmp pass.running t ≡ entry_at t (padded cut before)
  pub cut_off : (t : ℕ) → 0 < t → (IsWholeIn cut before t → ⊥) → IfSome (get nat_cmp pass.running t) (IsCutOffEntry cut before t)
  pub below : (t : ℕ) → 0 < t → first_previous (kept_records_of cut t before) ≤ cut
  pub meant : (t : ℕ) → 0 < t → IsWholeIn cut before t → AreMeantOf g t (padded cut before)
  pub next : IsNext before pass.next

-- ---- one record

-- the number that a record of one whose front is cut off has to name, if it is not the first there
abbrev pub HasToName : ℕ → List LogRecord → LogRecord → ℕ → Type 0
HasToName cut before r last = ((0 < kept_last_of cut r.txn before) × (last ≡ kept_last_of cut r.txn before)) ⊎ ((kept_last_of cut r.txn before ≡ 0) × (last ≡ r.previous))

abbrev pub StandsAs : Geometry → ℕ → List LogRecord → LogRecord → Standing → Type 0
StandsAs g cut before r (Whole p) = (Some p ≡ progress_at r.txn (padded cut before)) × IsWholeIn cut (before ++ r ∷ []) r.txn
StandsAs g cut before r (CutOff last) = (is_over r.txn before ≡ false) × IsCutOff cut (before ++ r ∷ []) r.txn × HasToName cut before r last
StandsAs g cut before r Nowhere = IsMeantNow g cut before r → ⊥

abbrev pub stands_cut_off : Standing → Bool
stands_cut_off (Whole p) = false
stands_cut_off (CutOff last) = true
stands_cut_off Nowhere = false

-- how the first kept record of a transaction stands, by the number that it names
abbrev pub standing_of_first : ℕ → ℕ → Standing
standing_of_first cut previous = if previous == 0 then Whole (record { last = 0; newest = 0; phase = Free }) else (if nat_le previous cut then CutOff previous else Nowhere)

-- ---- who has to have ended in the end

abbrev pub noted_all : List ℕ → ℕ → ℕ → Option ℕ → Option ℕ
noted_all [] n t old = old
noted_all (u ∷ us) n t old = noted_all us n t (noted (u == t) n old)

-- of the first records at these places: each number is that of one that takes the transaction to have ended, and there is none before it
pub record KnowsAwaited (cut : ℕ) (kept : List LogRecord) (places : ℕ) (pass : KeptPass) : Type 0 where
  pub found : (t m : ℕ) → get nat_cmp pass.awaited t ≡ Some m
      → (i : ℕ) × (i < places) × (m ≡ cut + 1 + i) × IsSomeAnd (slice_get kept i) (λ r. IsAmong t (to_have_ended cut (take i kept) r))
  pub every : (i : ℕ) (r : LogRecord) (t : ℕ) → i < places → slice_get kept i ≡ Some r → IsAmong t (to_have_ended cut (take i kept) r)
      → IsSomeAnd (get nat_cmp pass.awaited t) (λ m. m ≤ cut + 1 + i)

-- ---- what is judged at once

-- the first records at these places mean what they have to, as far as those before them tell
abbrev pub AreMeantUpTo : Geometry → ℕ → List LogRecord → ℕ → Type 0
AreMeantUpTo g cut kept places =
    (n : ℕ) (r : LogRecord) → n < places → slice_get kept n ≡ Some r → IsMeantNow g cut (take n kept) r × (IsKeptCrowded cut (take n kept ++ r ∷ []) → ⊥)

-- the record of this number is the first that does not
pub record IsFirstRefused (g : Geometry) (cut : ℕ) (kept : List LogRecord) (pass : KeptPass) (number : ℕ) : Type 0 where
  pub place : ℕ
  pub number_is : number ≡ cut + 1 + place
  pub before : AreMeantUpTo g cut kept place
  pub here : IsSomeAnd (slice_get kept place) (λ r. IsMeantNow g cut (take place kept) r × (IsKeptCrowded cut (take place kept ++ r ∷ []) → ⊥) → ⊥)
  pub places : ℕ
  pub up_to : place ≤ places
  pub awaited : KnowsAwaited cut kept places pass

-- ---- the anchored checkpoint's End

-- whoever it lists by a record that is cut off has ended since
abbrev pub ListsEnded : ℕ → ℕ → List LogRecord → Type 0
ListsEnded cut checkpoint kept = (n : ℕ) (r : LogRecord) (c : Checkpoint) → slice_get kept n ≡ Some r → IsAnchoredEnd checkpoint kept n r c → All (HasEndedSince cut kept) c.txns

-- it has this number, and one has not
pub record ListsUnended (cut checkpoint : ℕ) (kept : List LogRecord) (number : ℕ) : Type 0 where
  pub place : ℕ
  pub number_is : number ≡ cut + 1 + place
  pub here : IsSomeAnd (slice_get kept place) (λ r. (c : Checkpoint) × IsAnchoredEnd checkpoint kept place r c × (All (HasEndedSince cut kept) c.txns → ⊥))

-- ---- the first of two numbers, of those that are there

abbrev pub IsEarlier : Option ℕ → ℕ → ℕ → Type 0
IsEarlier None n result = result ≡ n
IsEarlier (Some m) n result = ((m < n) × (result ≡ m)) ⊎ ((n ≤ m) × (result ≡ n))

abbrev pub IsFirstOf : Option ℕ → Option ℕ → Option ℕ → Type 0
IsFirstOf None other result = result ≡ other
IsFirstOf (Some n) other None = ⊥
IsFirstOf (Some n) other (Some k) = IsEarlier other n k
