-- What a transaction that intends to write records of a store meets on the volume and on the store: nothing.
use Rattle.std.proofs.Common.{◌≡◌, ◌∷◌, [], ◌+◌, ℕ, List, length, inl, inr, true, false, Option, None, Some, Ok, refl, sym, subst, ◌∙◌, arith, reverse}
use Rattle.std.specs.Prelude.{◌⊎◌, ◌&&◌, ◌||◌, Bool, IsTrue, cond, not, Result}
use Rattle.shore_types.specs.declared.faults.Fault.{Fault}
use Rattle.shore_types.specs.declared.ids.PageId.{PageId}
use Rattle.shore_types.specs.declared.ids.Rid.{Rid}
use Rattle.shore_types.specs.declared.locking.Granule.{Granule}
use Rattle.shore_types.specs.declared.locking.Granule.TheVariants.{Volume, Store, Page, Record}
use Rattle.shore_types.specs.declared.locking.Mode.{Mode}
use Rattle.shore_types.specs.declared.locking.Mode.TheVariants.{IS, IX, SH, SIX, EX, UD}
use Rattle.shore_types.specs.Locking.{same_granule}
use Rattle.shore_model.specs.declared.requests.Request.{Request}
use Rattle.shore_model.specs.Locks.{path}
use Rattle.shore_model.specs.Modes.{parent_mode}
use Rattle.shore_model.specs.Requests.{AreRequests}
use Rattle.shore_locks.specs.Grants.{in_the_way, is_enough}
use Rattle.shore_locks.specs.Tables.{Table, mode_held}
use Rattle.shore_locks.proofs.Keys.{same_granule-Decides}
use Rattle.shore_path.specs.declared.answers.OnConflict.TheVariants.{Refuse}
use Rattle.shore_path.specs.Intending.{CoversRecords, IntendsToWrite, is_intention}
use Rattle.shore_path.specs.Judging.{CanLockNow}
use Rattle.shore_path.specs.declared.answers.Acquired.{Acquired}
use Rattle.shore_path.specs.declared.answers.Acquired.TheVariants.{Done}
use Rattle.shore_path.specs.Acquires.{IsReached}
use Rattle.shore_path.specs.Needs.{EndsAt, Passes}
use Rattle.shore_path.specs.Walks.{HasOutcome, Outcome, acquired, after_at, answer_at, is_covered}
use Rattle.shore_path.proofs.JudgedWays.{differ_path}
use Rattle.shore_path.proofs.Lockable.{LetThrough, through}
use Rattle.shore_path.proofs.Passing.{comes_last, ends_walk, passes_walk}
use Rattle.shore_path.proofs.Walking.{walk_on}

-- an intention is enough, and covers nothing
record Intends (held : Option Mode) : Type 0 where
  enough : is_enough IX held ≡ true
  covers_no_page : is_covered IX held ≡ false
  covers_no_record : is_covered EX held ≡ false

intends : (held : Option Mode) → is_intention EX held ≡ true → Intends held
intends None e = absurd cc
intends (Some IS) e = absurd cc
intends (Some IX) e = record { enough = refl; covers_no_page = refl; covers_no_record = refl }
intends (Some SH) e = absurd cc
intends (Some SIX) e = record { enough = refl; covers_no_page = refl; covers_no_record = refl }
intends (Some EX) e = absurd cc
intends (Some UD) e = absurd cc

-- ---- the page alone decides

module _ (rs : List Request) (t : ℕ) (page : PageId) (one : AreRequests rs) (has : IntendsToWrite rs t page.store) where
  abbrev IsFree : Type 0
  IsFree = in_the_way t (Page page) IX rs ≡ None

  volume : Intends (mode_held t Volume rs)
  volume = intends (mode_held t Volume rs) has.0

  store : Intends (mode_held t (Store page.store) rs)
  store = intends (mode_held t (Store page.store) rs) has.1

  same : same_granule (Page page) (Page page) ≡ true
  same = (same_granule-Decides (Page page) (Page page)).1 refl

  by_page : (CanLockNow rs t (Page page) IX → LetThrough t (Page page) IX rs (reverse (path (Page page)))) × (LetThrough t (Page page) IX rs (reverse (path (Page page))) → CanLockNow rs t (Page page) IX)
  by_page = through t (Page page) IX (length rs + 4) rs (reverse (path (Page page))) rs one (differ_path (Page page)) (λ g i. refl) (omega arith)

  pub free_page : CanLockNow rs t (Page page) IX → IsFree
  free_page can = elim (by_page.0 can) [
    | inl spared ↦ absurd (let clash : false ≡ true = sym volume.covers_no_page ∙ spared in cc)
    | inr below ↦ elim below.1 [
      | inl spared ↦ absurd (let clash : false ≡ true = sym store.covers_no_page ∙ spared in cc)
      | inr last ↦ elim last.1 [
        | inl spared ↦ absurd (let clash : false ≡ true = subst (λ b. (not b && is_covered IX (mode_held t (Page page) rs)) ≡ true) same spared in cc)
        | inr x ↦ subst (λ b. in_the_way t (Page page) (cond b IX (parent_mode IX)) rs ≡ None) same x.0
      ]
    ]
  ]

  pub page_free : IsFree → CanLockNow rs t (Page page) IX
  page_free free = by_page.1 (inr (rw volume.enough refl, inr (rw store.enough refl, inr (subst (λ b. in_the_way t (Page page) (cond b IX (parent_mode IX)) rs ≡ None) (sym same) free, tt))))

-- ---- an acquire passes both

pub passes_volume : (t : ℕ) (id : Rid) (old : Table) → IntendsToWrite old.requests t id.page.store → Passes Refuse t (Record id) EX Volume old old
passes_volume t id old has =
    let held = intends (mode_held t Volume old.requests) has.0 in
    record { needed = held.covers_no_record; done = rw held.enough refl; left = rw held.enough refl }

pub passes_store : (t : ℕ) (id : Rid) (old : Table) → IntendsToWrite old.requests t id.page.store → Passes Refuse t (Record id) EX (Store id.page.store) old old
passes_store t id old has =
    let held = intends (mode_held t (Store id.page.store) old.requests) has.1 in
    record { needed = held.covers_no_record; done = rw held.enough refl; left = rw held.enough refl }

-- ---- a transaction that holds what covers the records

-- which of the two covers them
covered_by : (a b c : Bool) → IsTrue (a || (b && c)) → IsTrue a ⊎ (IsTrue b × IsTrue c)
covered_by true b c covers = inl refl
covered_by false true true covers = inr (refl, refl)
covered_by false true false covers = absurd cc
covered_by false false c covers = absurd cc

abbrev Covering : List Request → ℕ → ℕ → Type 0
Covering rs t store = IsTrue (is_covered EX (mode_held t Volume rs)) ⊎ (IsTrue (is_intention EX (mode_held t Volume rs)) × IsTrue (is_covered EX (mode_held t (Store store) rs)))

covering : (rs : List Request) (t store : ℕ) → CoversRecords rs t store → Covering rs t store
covering rs t store covers = covered_by (is_covered EX (mode_held t Volume rs)) (is_intention EX (mode_held t Volume rs)) (is_covered EX (mode_held t (Store store) rs)) covers

covered_at : (t : ℕ) (id : Rid) (old : Table) → Covering old.requests t id.page.store → acquired Refuse old t (Record id) EX ≡ record { answer = Ok Done; requests = old.requests }
covered_at t id old (inl volume) = rw volume refl
covered_at t id old (inr both) =
    let held = intends (mode_held t Volume old.requests) both.0 in
    passes_walk Refuse t (Record id) EX Volume old old (record { needed = held.covers_no_record; done = rw held.enough refl; left = rw held.enough refl }) (Store id.page.store ∷ Page id.page ∷ Record id ∷ [])
    ∙ rw both.1 refl

reached_at : (rs : List Request) (t : ℕ) (id : Rid) → Covering rs t id.page.store → IsReached rs t (Record id) EX
reached_at rs t id (inl volume) = inr (2, Volume, omega arith, refl, volume)
reached_at rs t id (inr both) = inr (1, Store id.page.store, omega arith, refl, both.1)

pub covered_records : (table : Table) (t : ℕ) (id : Rid) → CoversRecords table.requests t id.page.store → acquired Refuse table t (Record id) EX ≡ record { answer = Ok Done; requests = table.requests }
covered_records table t id covers = covered_at t id table (covering table.requests t id.page.store covers)

pub covered_is_reached : (rs : List Request) (t : ℕ) (id : Rid) → CoversRecords rs t id.page.store → IsReached rs t (Record id) EX
covered_is_reached rs t id covers = reached_at rs t id (covering rs t id.page.store covers)

module _ (t : ℕ) (id : Rid) (old : Table) (has : IntendsToWrite old.requests t id.page.store) where
  abbrev target : Granule
  target = Record id

  behind : (below : List Granule) → walk_on Refuse t target EX old.limit (Volume ∷ Store id.page.store ∷ below) old.requests ≡ walk_on Refuse t target EX old.limit below old.requests
  behind below =
      passes_walk Refuse t target EX Volume old old (passes_volume t id old has) (Store id.page.store ∷ below)
      ∙ passes_walk Refuse t target EX (Store id.page.store) old old (passes_store t id old has) below

  comes : (new : Table) (answer : Result Acquired Fault) → HasOutcome old (walk_on Refuse t target EX old.limit (Page id.page ∷ target ∷ []) old.requests) answer new → HasOutcome old (acquired Refuse old t target EX) answer new
  comes new answer from = subst (λ (o : Outcome). HasOutcome old o answer new) (sym (behind (Page id.page ∷ target ∷ []))) from

  -- an acquire that ends at the page
  pub ends_in_store : (new : Table) (answer : Result Acquired Fault) → EndsAt Refuse t target EX (Page id.page) old new answer → HasOutcome old (acquired Refuse old t target EX) answer new
  ends_in_store new answer ends = comes new answer (ends_walk Refuse t target EX (Page id.page) old new answer ends (target ∷ []))

  -- .. and one that comes to the record
  pub comes_in_store : (mid new : Table) (answer : Result Acquired Fault) → Passes Refuse t target EX (Page id.page) old mid → answer ≡ answer_at Refuse mid t target EX
      → new ≡ record { limit = mid.limit; requests = after_at Refuse mid t target EX } → HasOutcome old (acquired Refuse old t target EX) answer new
  comes_in_store mid new answer p told left = comes new answer (comes_last Refuse t target EX (Page id.page) old mid new answer p told left)

-- a look that changed nothing came before it
pub as_before : (t : ℕ) (id : Rid) (old looked new : Table) (answer : Result Acquired Fault) → looked ≡ old → HasOutcome looked (acquired Refuse looked t (Record id) EX) answer new → HasOutcome old (acquired Refuse old t (Record id) EX) answer new
as_before t id old looked new answer same from = subst (λ (x : Table). HasOutcome x (acquired Refuse x t (Record id) EX) answer new) same from
