-- Granules on one path, and exclusive locks on them.
use Rattle.std.proofs.Common.{◌≢◌, ℕ, List, ◌∷◌, [], inl, inr, ⊎_elim, refl, sym, subst}
use Rattle.std.specs.Prelude.{Contains}
use Rattle.shore_types.specs.declared.ids.Rid.{Rid}
use Rattle.shore_types.specs.declared.locking.Granule.{Granule}
use Rattle.shore_types.specs.declared.locking.Granule.TheVariants.{Volume, Store, Page, Record}
use Rattle.shore_types.specs.declared.locking.Mode.TheVariants.{EX}
use Rattle.shore_model.specs.declared.holds.Hold.{Hold}
use Rattle.shore_model.specs.Locks.{Harmony, HoldsAtLeast, MayWrite, OnOnePath, ancestors, path}
use Rattle.shore_model.proofs.RecordPaths.{head_contained, on_path, ordered, rest_contained}
use Rattle.laws_lives.proofs.StrongerLocks.{write_up}
use Rattle.laws_lives.proofs.Views.{read_of_write}

-- granules of one record's path lie at or under one another
pub on_one_path : (r : Rid) (a b : Granule) → Contains (path (Record r)) a → Contains (path (Record r)) b → OnOnePath a b
on_one_path r a b at_a at_b =
    ⊎_elim (λ same. inl (subst (Contains (path a)) same (head_contained a (ancestors a))))
    (⊎_elim (λ above. inr (rest_contained b (ancestors b) a above)) (λ below. inl (rest_contained a (ancestors a) b below)))
    (ordered r a b (on_path r a at_a) (on_path r b at_b))

-- a record at or under a granule
record_under : Granule → Rid
record_under Volume = record { page = record { store = 0; page = 0 }; slot = 0 }
record_under (Store s) = record { page = record { store = s; page = 0 }; slot = 0 }
record_under (Page p) = record { page = p; slot = 0 }
record_under (Record r) = r

passes : (g a : Granule) → Contains (path g) a → Contains (path (Record (record_under g))) a
unfolding record_under
passes Volume a h =
    rest_contained (Record (record_under Volume)) (Page (record_under Volume).page ∷ Store 0 ∷ Volume ∷ []) a
    (rest_contained (Page (record_under Volume).page) (Store 0 ∷ Volume ∷ []) a (rest_contained (Store 0) (Volume ∷ []) a h))
passes (Store s) a h =
    rest_contained (Record (record_under (Store s))) (Page (record_under (Store s)).page ∷ Store s ∷ Volume ∷ []) a
    (rest_contained (Page (record_under (Store s)).page) (Store s ∷ Volume ∷ []) a h)
passes (Page p) a h = rest_contained (Record (record_under (Page p))) (Page p ∷ Store p.store ∷ Volume ∷ []) a h
passes (Record r) a h = h

-- granules that lie at or under one another lie on one record's path
pub record_below : (a b : Granule) → OnOnePath a b → (r : Rid) × Contains (path (Record r)) a × Contains (path (Record r)) b
record_below a b on =
    ⊎_elim (λ over. (record_under a, passes a a (head_contained a (ancestors a)), passes a b over))
    (λ under. (record_under b, passes b a under, passes b b (head_contained b (ancestors b)))) on

-- who holds a granule exclusively may write what lies under it
pub writes_under : (held : List Hold) (t : ℕ) (g : Granule) (r : Rid) → HoldsAtLeast held t EX g → Contains (path (Record r)) g → MayWrite held t r
writes_under held t g r h on =
    (h.0, h.1, h.2, h.3, (h.4.0, subst (Contains (path (Record r))) (sym h.4.1) on, write_up EX h.1.mode h.4.2 refl))

-- so no two hold granules on one path so
pub none_on_one_path : (held : List Hold) → Harmony held → (t u : ℕ) (g h : Granule) → t ≢ u → HoldsAtLeast held t EX g → HoldsAtLeast held u EX h → OnOnePath g h → ⊥
none_on_one_path held harmony t u g h differ holds other on =
    let r = record_below g h on in
    harmony.none_interferes r.0 t u differ (writes_under held t g r.0 holds r.1) (read_of_write held u r.0 (writes_under held u h r.0 other r.2))
