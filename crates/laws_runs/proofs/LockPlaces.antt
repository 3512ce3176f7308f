-- Those in doubt hold their locks while sessions work: so these take no more places than what is held, and a Prepare names granules that are there.
use Rattle.std.proofs.Common.{◌≡◌, inl, inr, ⊎_elim, ◌≤◌, ℕ, suc, List, [], ◌∷◌, Option, None, Some, refl, sym, ap, subst, ◌∙◌, length, map, arith}
use Rattle.std.specs.Prelude.{All}
use Rattle.std.specs.List.{cons_option}
use Rattle.std.proofs.lemmas.List.Elements.{All-cons, All-contains, All-nil, All-weaker}
use Rattle.shore_types.specs.Layout.{HasGranule}
use Rattle.shore_types.specs.declared.layout.Geometry.{Geometry}
use Rattle.shore_types.specs.declared.locking.Mode.{Mode}
use Rattle.shore_types.specs.declared.locking.Mode.TheVariants.{EX}
use Rattle.shore_types.specs.declared.locking.Granule.{Granule}
use Rattle.shore_model.specs.declared.holds.Hold.{Hold}
use Rattle.shore_model.specs.declared.log_records.LogRecord.{LogRecord}
use Rattle.shore_model.specs.Locks.{HoldsAtLeast, WellRooted}
use Rattle.shore_model.specs.Requests.{held_by_all, hold_in}
use Rattle.shore_model.specs.declared.requests.Request.{Request}
use Rattle.shore_locks.proofs.Members.{In, In-All}
use Rattle.shore_path.proofs.Intentions.{well_rooted}
use Rattle.laws_calls.specs.LockedStates.{HasTrueLocks}
use Rattle.laws_calls.specs.States.{State}
use Rattle.laws_lives.proofs.DoubtLocks.{contained_among, locks_are_restored, no_longer, restored_were_held}
use Rattle.laws_lives.proofs.Lists.{among_append, among_contained, among_left, among_map, among_right, mapped_one}
use Rattle.laws_lives.specs.Doubts.{LoggedDoubt, NeedMore, TracksDoubts, doubts_in, locks_for, node_of, restored_locks}
use Rattle.laws_lives.specs.SessionSteps.{AreExclusive}
use Rattle.laws_lives.specs.Sessions.{Sessions}
use Rattle.laws_lives.specs.Views.{IsAmong}
use Rattle.laws_runs.specs.RoomyStates.{HasLocksInBounds}

-- ---- places

module _ (log : List LogRecord) (s : Sessions) (tracks : TracksDoubts log s) (rooted : WellRooted s.held) where
  abbrev theirs : List Hold
  theirs = restored_locks (doubts_in log)

  node_same : (t u : ℕ) (g x : Granule) → t ≡ u → g ≡ x → ◌≡◌ {A = ℕ × Granule} (t, g) (u, x)
  node_same t u g x e f = cc

  -- a place of theirs is one of what is held
  is_held : (n : ℕ × Granule) → IsAmong n (map node_of theirs) → IsAmong n (map node_of s.held)
  is_held n m =
      let h = mapped_one node_of n theirs m in
      let was = All-contains (λ h. HoldsAtLeast s.held h.txn h.mode h.granule) theirs h.0 (restored_were_held (locks_are_restored log) s tracks rooted) (among_contained h.0 theirs h.1) in
      let its : node_of was.1 ≡ n = node_same was.1.txn h.0.txn was.1.granule h.0.granule was.4.0 was.4.1 ∙ h.2 in
      subst (λ n. IsAmong n (map node_of s.held)) its (among_map node_of was.1 s.held (contained_among s.held was.1 (was.0, was.2, was.3)))

  as_long : (hs : List Hold) → length (map node_of hs) ≡ length hs
  as_long [] = refl
  as_long (h ∷ hs) = ap suc (as_long hs)

  pub held_have_places : (limit : ℕ) → length s.held ≤ limit → NeedMore limit (doubts_in log) → ⊥
  held_have_places limit few more =
      let within = no_longer more.0 (map node_of s.held) more.1 (λ x m. is_held x (more.2 x m)) in
      let long = as_long s.held in
      let less = more.3 in
      omega (arith, within, long, less, few)

-- ---- fewer in doubt need no more places

restored_from : (h : Hold) (ds : List LoggedDoubt) → IsAmong h (restored_locks ds) → (d : LoggedDoubt) × IsAmong d ds × IsAmong h (locks_for d.txn d.granules)
restored_from h [] m = absurd m
restored_from h (d ∷ ds) m =
    ⊎_elim (λ its. (d, inl refl, its)) (λ later. let r = restored_from h ds later in (r.0, inr r.1, r.2)) (among_append h (locks_for d.txn d.granules) (restored_locks ds) m)

restored_by : (h : Hold) (d : LoggedDoubt) (ds : List LoggedDoubt) → IsAmong d ds → IsAmong h (locks_for d.txn d.granules) → IsAmong h (restored_locks ds)
restored_by h d [] m its = absurd m
restored_by h d (e ∷ ds) (inl same) its =
    among_left h (locks_for e.txn e.granules) (restored_locks ds) (subst (λ (x : LoggedDoubt). IsAmong h (locks_for x.txn x.granules)) (sym same) its)
restored_by h d (e ∷ ds) (inr later) its = among_right h (locks_for e.txn e.granules) (restored_locks ds) (restored_by h d ds later its)

pub fewer_need : (limit : ℕ) (ds es : List LoggedDoubt) → ((d : LoggedDoubt) → IsAmong d ds → IsAmong d es) → NeedMore limit ds → NeedMore limit es
fewer_need limit ds es fewer more = (
  more.0,
  more.1,
  λ x m.
      let h = mapped_one node_of x (restored_locks ds) (more.2 x m) in
      let from = restored_from h.0 ds h.1 in
      subst (λ n. IsAmong n (map node_of (restored_locks es))) h.2
      (among_map node_of h.0 (restored_locks es) (restored_by h.0 from.0 es (fewer from.0 from.1) from.2)),
  more.3,
)

-- ---- while a Prepare comes

-- no more locks are held than there may be, each under its intentions and on a granule that is there
pub record HoldsInBounds (g : Geometry) (held : List Hold) : Type 0 where
  pub within : length held ≤ g.max_locks
  pub rooted : WellRooted held
  pub inside : All (λ h. HasGranule g h.granule) held

held_within : (rs : List Request) → length (held_by_all rs) ≤ length rs
held_within [] = omega arith
held_within (r ∷ rs) = by r.held (held_within rs)
  where
    by : (o : Option Mode) → length (held_by_all rs) ≤ length rs → length (cons_option (hold_in r o) (held_by_all rs)) ≤ length (r ∷ rs)
    by None rest = omega (arith, rest)
    by (Some mode) rest = omega (arith, rest)

held_inside : (g : Geometry) (rs : List Request) → ((r : Request) → In r rs → HasGranule g r.granule) → All (λ h. HasGranule g h.granule) (held_by_all rs)
held_inside g [] there = All-nil (λ (h : Hold). HasGranule g h.granule)
held_inside g (r ∷ rs) there = by r.held (held_inside g rs (λ q m. there q (inr m)))
  where
    by : (o : Option Mode) → All (λ h. HasGranule g h.granule) (held_by_all rs) → All (λ h. HasGranule g h.granule) (cons_option (hold_in r o) (held_by_all rs))
    by None rest = rest
    by (Some mode) rest = All-cons (λ (h : Hold). HasGranule g h.granule) (record { txn = r.txn; granule = r.granule; mode = mode }) (held_by_all rs) (there r (inl refl)) rest

pub holds_in_bounds : (g : Geometry) (s : State) → HasTrueLocks s → HasLocksInBounds g s → HoldsInBounds g s.sessions.held
holds_in_bounds g s locks k =
    let few = held_within s.locks.requests in
    let within = k.within in
    let limit = k.limit in
    subst (HoldsInBounds g) (sym locks.held) (record {
      within = omega (arith, few, within, limit);
      rooted = well_rooted s.locks.requests locks.rooted;
      inside = held_inside g s.locks.requests (λ r m. In-All (λ (r : Request). HasGranule g r.granule) s.locks.requests r k.inside m);
    })

pub exclusive_inside : (g : Geometry) (held : List Hold) (t : ℕ) (granules : List Granule) → HoldsInBounds g held → AreExclusive held t granules → All (HasGranule g) granules
exclusive_inside g held t granules k exclusive =
    All-weaker (HoldsAtLeast held t EX) (HasGranule g)
    (λ q was. subst (HasGranule g) was.4.1 (All-contains (λ (h : Hold). HasGranule g h.granule) held was.1 k.inside (was.0, was.2, was.3)))
    granules exclusive.each
