-- What locks held in a tree of granules allow. After Gray, Lorie and Putzolu, "Granularity of Locks in a Large Shared
-- Data Base" (1975), with this project's UD.
use Rattle.std.specs.Prelude.{◌≡◌, ◌≢◌, ℕ, List, [], ◌∷◌, ◌⊎◌, IsTrue, All, Any, Contains}
use Rattle.std.specs.List.{AllByRecursion}
use Rattle.shore_types.specs.declared.ids.Rid.{Rid}
use Rattle.shore_types.specs.declared.locking.Granule.{Granule}
use Rattle.shore_types.specs.declared.locking.Granule.TheVariants.{Volume, Store, Page, Record}
use Rattle.shore_types.specs.declared.locking.Mode.{Mode}
use Rattle.shore_model.specs.declared.holds.Hold.{Hold}
use Rattle.shore_model.specs.Modes.{coexist, is_at_most, parent_mode, is_read, is_write}

-- the granules that a granule lies in, the nearest first
abbrev pub ancestors : Granule → List Granule
ancestors Volume = []
ancestors (Store s) = Volume ∷ []
ancestors (Page p) = Store p.store ∷ Volume ∷ []
ancestors (Record r) = Page r.page ∷ Store r.page.store ∷ Volume ∷ []

-- a granule and its ancestors
abbrev pub path : Granule → List Granule
path g = g ∷ ancestors g

-- a transaction may read the record: it holds SH, SIX, UD or EX on the record's path
abbrev pub MayRead : List Hold → ℕ → Rid → Type 0
MayRead held t r = Any (λ h. (h.txn ≡ t) × Contains (path (Record r)) h.granule × IsTrue (is_read h.mode)) held

-- a transaction may write the record: it holds EX on the record's path
abbrev pub MayWrite : List Hold → ℕ → Rid → Type 0
MayWrite held t r = Any (λ h. (h.txn ≡ t) × Contains (path (Record r)) h.granule × IsTrue (is_write h.mode)) held

-- two locks are of one transaction, on different granules, or in compatible modes
abbrev pub Agree : Hold → Hold → Type 0
Agree h k = h.granule ≡ k.granule → h.txn ≢ k.txn → IsTrue (coexist h.mode k.mode)

-- on each granule the modes of different holders are compatible
abbrev pub StandTogether : List Hold → Type 0
StandTogether held = All (λ h. All (Agree h) held) held

-- no transaction may write a record that another may read, and on each granule the modes of different holders are
-- compatible
pub record Harmony (held : List Hold) : Type 0 where
  pub stand_together : StandTogether held
  pub none_interferes : (r : Rid) (t u : ℕ) → t ≢ u → MayWrite held t r → MayRead held u r → ⊥

-- one granule lies at or under the other
abbrev pub OnOnePath : Granule → Granule → Type 0
OnOnePath a b = Contains (path a) b ⊎ Contains (path b) a

-- two locks do not interfere: they are of one transaction, or the first writes nothing that the second reads
abbrev pub KeepApart : Hold → Hold → Type 0
KeepApart w d = w.txn ≢ d.txn → IsTrue (is_write w.mode) → IsTrue (is_read d.mode) → OnOnePath w.granule d.granule → ⊥

-- a transaction holds the granule in the mode, or in a stronger one
abbrev pub HoldsAtLeast : List Hold → ℕ → Mode → Granule → Type 0
HoldsAtLeast held t m g = Any (λ h. (h.txn ≡ t) × (h.granule ≡ g) × IsTrue (is_at_most m h.mode)) held

-- a lock has its parent mode, or a stronger one of the same transaction, on each ancestor
abbrev pub IsRooted : List Hold → Hold → Type 0
IsRooted held h = AllByRecursion (HoldsAtLeast held h.txn (parent_mode h.mode)) (ancestors h.granule)

-- each lock has its parent mode, or a stronger one, on each ancestor: the hierarchical protocol is obeyed
abbrev pub WellRooted : List Hold → Type 0
WellRooted held = All (IsRooted held) held
