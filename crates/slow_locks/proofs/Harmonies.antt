-- Harmony of any locks: those that lie on one path keep apart.
use Rattle.std.proofs.Common.{List, ◌∷◌, inl, inr, refl, sym, subst, ◌∙◌, get_or, ⊎_elim, []}
use Rattle.std.specs.Prelude.{All, Contains}
use Rattle.std.proofs.lemmas.List.{get_or_default}
use Rattle.std.proofs.lemmas.List.Elements.{All-contains}
use Rattle.shore_types.specs.declared.ids.Rid.{Rid}
use Rattle.shore_types.specs.declared.locking.Granule.{Granule}
use Rattle.shore_types.specs.declared.locking.Granule.TheVariants.{Volume, Store, Page, Record}
use Rattle.shore_model.specs.declared.holds.Hold.{Hold}
use Rattle.shore_model.specs.Locks.{ancestors, path, OnOnePath, KeepApart, StandTogether, Harmony}
use Rattle.shore_model.proofs.RecordPaths.{head_contained, on_path, ordered, rest_contained}

-- granules of one record's path lie at or under one another
on_one_path : (r : Rid) (a b : Granule) → Contains (path (Record r)) a → Contains (path (Record r)) b → OnOnePath a b
on_one_path r a b at_a at_b =
    ⊎_elim (λ same. inl (subst (Contains (path a)) same (head_contained a (ancestors a))))
    (⊎_elim (λ above. inr (rest_contained b (ancestors b) a above)) (λ below. inl (rest_contained a (ancestors a) b below)))
    (ordered r a b (on_path r a at_a) (on_path r b at_b))

-- a record at or under a granule
record_under : Granule → Rid
record_under Volume = record { page = record { store = 0; page = 0 }; slot = 0 }
record_under (Store s) = record { page = record { store = s; page = 0 }; slot = 0 }
record_under (Page p) = record { page = p; slot = 0 }
record_under (Record r) = r

passes : (g a : Granule) → Contains (path g) a → Contains (path (Record (record_under g))) a
unfolding record_under
passes Volume a h =
    rest_contained (Record (record_under Volume)) (Page (record_under Volume).page ∷ Store 0 ∷ Volume ∷ []) a
    (rest_contained (Page (record_under Volume).page) (Store 0 ∷ Volume ∷ []) a (rest_contained (Store 0) (Volume ∷ []) a h))
passes (Store s) a h =
    rest_contained (Record (record_under (Store s))) (Page (record_under (Store s)).page ∷ Store s ∷ Volume ∷ []) a
    (rest_contained (Page (record_under (Store s)).page) (Store s ∷ Volume ∷ []) a h)
passes (Page p) a h = rest_contained (Record (record_under (Page p))) (Page p ∷ Store p.store ∷ Volume ∷ []) a h
passes (Record r) a h = h

-- granules that lie at or under one another lie on one record's path
record_below : (a b : Granule) → OnOnePath a b → (r : Rid) × Contains (path (Record r)) a × Contains (path (Record r)) b
record_below a b on =
    ⊎_elim (λ over. (record_under a, passes a a (head_contained a (ancestors a)), passes a b over))
    (λ under. (record_under b, passes b a under, passes b b (head_contained b (ancestors b)))) on

pub harmony_from_apart : (held : List Hold) → StandTogether held → All (λ w. All (KeepApart w) held) held → Harmony held
harmony_from_apart held together apart = record {
  stand_together = together;
  none_interferes = λ r t u differ w d.
      All-contains (KeepApart w.1) held d.1 (All-contains (λ h. All (KeepApart h) held) held w.1 apart (w.0, w.2, w.3)) (d.0, d.2, d.3)
      (λ e. differ (sym w.4.0 ∙ e ∙ d.4.0)) w.4.2 d.4.2 (on_one_path r w.1.granule d.1.granule w.4.1 d.4.1);
}

pub apart_from_harmony : (held : List Hold) → Harmony held → All (λ w. All (KeepApart w) held) held
apart_from_harmony held h i w0 in_w j d0 in_d =
    let w = get_or held i w0 in
    let d = get_or held j d0 in
    λ differ writes reads on.
    let r = record_below w.granule d.granule on in
    h.none_interferes r.0 w.txn d.txn differ
    (i, w, in_w, get_or_default held i w w0 in_w, (refl, r.1, writes)) (j, d, in_d, get_or_default held j d d0 in_d, (refl, r.2, reads))
