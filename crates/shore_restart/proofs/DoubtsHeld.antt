-- Those in doubt that have their locks can hold them: no two are on one path, and they have no more places than there are requests.
use Rattle.std.proofs.Common.{◌≡◌, ◌≢◌, ◌⊎◌, ◌≤◌, ◌++◌, ◌∷◌, [], ℕ, List, true, false, inl, inr, refl, sym, ap, subst, ◌∙◌, length, map, take, drop, arith}
use Rattle.std.specs.Prelude.{All, Contains, IsTrue}
use Rattle.std.proofs.lemmas.List.{length-map, map-append, take-append-drop}
use Rattle.std.proofs.lemmas.List.Elements.{All-contains}
use Rattle.shore_types.specs.declared.locking.Granule.{Granule}
use Rattle.shore_types.specs.declared.locking.Mode.{Mode}
use Rattle.shore_types.specs.declared.locking.Mode.TheVariants.{EX, IX}
use Rattle.shore_model.specs.declared.holds.Hold.{Hold}
use Rattle.shore_model.specs.declared.requests.Request.{Request}
use Rattle.shore_model.specs.Locks.{Agree, HoldsAtLeast, OnOnePath, ancestors, path}
use Rattle.shore_model.specs.Modes.{coexist, is_at_most}
use Rattle.shore_model.specs.Requests.{held_by_all, hold_of}
use Rattle.shore_locks.specs.Orderly.{IsOrderly}
use Rattle.shore_locks.proofs.Members.{Contains-In, In-Contains}
use Rattle.shore_path.proofs.Holding.{In-filter_map, lock_of}
use Rattle.laws_lives.specs.Doubts.{LoggedDoubt, NeedMore, locks_for, locks_under, node_of, restored_locks}
use Rattle.laws_lives.specs.Sessions.{EachOnce}
use Rattle.laws_lives.specs.Views.{IsAmong}
use Rattle.laws_lives.proofs.DoubtLocks.{no_longer}
use Rattle.laws_lives.proofs.Lists.{among_append, among_contained, among_left, among_map, mapped_one}
use Rattle.shore_txn.proofs.OneOfMany.{among_middle, map_parts, once_apart}
use Rattle.shore_restart.specs.Doubts.{AreLocksOf, CanHold, HasNoPlace, IsLockOf}
use Rattle.shore_restart.proofs.Locks.{at_end, hold_as}
use Rattle.shore_restart.proofs.LockRefusals.{in_among, node_for}

-- ---- each once

-- who comes before another does not share with it what each has once
pub never_again : {A : Type 0} (f : LoggedDoubt → A) (ds before later : List LoggedDoubt) (d e : LoggedDoubt) → EachOnce (map f ds) → ds ≡ before ++ d ∷ later → IsAmong e before → f e ≡ f d → ⊥
never_again f ds before later d e once order among same =
    once_apart (map f before) (map f later) (f d) (subst EachOnce (ap (map f) order ∙ map_parts f before later d) once)
    (among_left (f d) (map f before) (map f later) (subst (λ x. IsAmong x (map f before)) same (among_map f e before among)))

pub once_push : {A : Type 0} (xs : List A) (x : A) → EachOnce xs → (IsAmong x xs → ⊥) → EachOnce (xs ++ x ∷ [])
once_push [] x once none = ((λ it. it), tt)
once_push (y ∷ xs) x once none = (
  λ there. elim (at_end xs x y there) [ inl before ↦ once.0 before | inr same ↦ none (inl (sym same)) ],
  once_push xs x once.1 (λ there. none (inr there)),
)

pub once_front : {A : Type 0} (f : LoggedDoubt → A) (n : ℕ) (ds : List LoggedDoubt) → EachOnce (map f ds) → EachOnce (map f (take n ds))
once_front f n ds once = left (map f (take n ds)) (map f (drop n ds)) (subst EachOnce (ap (map f) (sym (take-append-drop n ds)) ∙ map-append f (take n ds) (drop n ds)) once)
  where
    left : {A : Type 0} (xs ys : List A) → EachOnce (xs ++ ys) → EachOnce xs
    left [] ys once = tt
    left (x ∷ xs) ys once = (λ there. once.0 (among_left x xs ys there), left xs ys once.1)

-- ---- modes

ex_alone : (m : Mode) → IsTrue (coexist m EX) → ⊥
ex_alone Mode.IS both = let clash : false ≡ true = both in cc
ex_alone Mode.IX both = let clash : false ≡ true = both in cc
ex_alone Mode.SH both = let clash : false ≡ true = both in cc
ex_alone Mode.SIX both = let clash : false ≡ true = both in cc
ex_alone Mode.UD both = let clash : false ≡ true = both in cc
ex_alone Mode.EX both = let clash : false ≡ true = both in cc

only_ex : (m : Mode) → IsTrue (is_at_most EX m) → m ≡ EX
only_ex Mode.IS most = let clash : false ≡ true = most in cc
only_ex Mode.IX most = let clash : false ≡ true = most in cc
only_ex Mode.SH most = let clash : false ≡ true = most in cc
only_ex Mode.SIX most = let clash : false ≡ true = most in cc
only_ex Mode.UD most = let clash : false ≡ true = most in cc
only_ex Mode.EX most = refl

-- ---- such a lock is of one of them

locked_under : (t : ℕ) (g : Granule) (l : Hold) → IsAmong l (locks_under t g) → (l.txn ≡ t) × (((l.mode ≡ EX) × (l.granule ≡ g)) ⊎ ((l.mode ≡ IX) × Contains (ancestors g) l.granule))
locked_under t g l (inl same) = (ap (λ (h : Hold). h.txn) (sym same), inl (ap (λ (h : Hold). h.mode) (sym same), ap (λ (h : Hold). h.granule) (sym same)))
locked_under t g l (inr above) =
    let (a, there, is) = mapped_one (λ (b : Granule). hold_as t b IX) l (ancestors g) above in (
      ap (λ (h : Hold). h.txn) (sym is),
      inr (ap (λ (h : Hold). h.mode) (sym is), subst (Contains (ancestors g)) (ap (λ (h : Hold). h.granule) is) (among_contained a (ancestors g) there)),
    )

locked_for : (t : ℕ) (gs : List Granule) (l : Hold) → IsAmong l (locks_for t gs)
    → (g : Granule) × IsAmong g gs × (l.txn ≡ t) × (((l.mode ≡ EX) × (l.granule ≡ g)) ⊎ ((l.mode ≡ IX) × Contains (ancestors g) l.granule))
locked_for t [] l none = absurd none
locked_for t (g ∷ gs) l there = elim (among_append l (locks_under t g) (locks_for t gs) there) [
  | inl under ↦ let (by, how) = locked_under t g l under in (g, inl refl, by, how)
  | inr later ↦ let (h, among, by, how) = locked_for t gs l later in (h, inr among, by, how)
]

lock_of_one : (ds : List LoggedDoubt) (l : Hold) → IsAmong l (restored_locks ds) → IsLockOf ds l
lock_of_one [] l none = absurd none
lock_of_one (d ∷ ds) l there = elim (among_append l (locks_for d.txn d.granules) (restored_locks ds) there) [
  | inl own ↦ let (g, among, by, how) = locked_for d.txn d.granules l own in (d, g, inl refl, by, among_contained g d.granules among, how)
  | inr later ↦ let (e, g, among, by, names, how) = lock_of_one ds l later in (e, g, inr among, by, names, how)
]

-- ---- they can hold what they have

module _ (ds : List LoggedDoubt) (rs : List Request) (locks : AreLocksOf ds (held_by_all rs)) (orderly : IsOrderly rs) where
  -- where one has EX no other has anything
  never_two : (m : Mode) (t u : ℕ) (a : Granule) → t ≢ u → HoldsAtLeast (held_by_all rs) t m a → HoldsAtLeast (held_by_all rs) u EX a → ⊥
  never_two m t u a differ (i, low, low_within, low_is, (low_by, low_at, low_most)) (j, high, high_within, high_is, (high_by, high_at, high_most)) =
      let held = held_by_all rs in
      let agree : Agree low high =
      All-contains (Agree low) held high (All-contains (λ (h : Hold). All (Agree h) held) held low orderly.together (i, low_within, low_is)) (j, high_within, high_is) in
      let both : IsTrue (coexist low.mode high.mode) = agree (low_at ∙ sym high_at) (λ same. differ (sym low_by ∙ same ∙ high_by)) in
      ex_alone low.mode (subst (λ (n : Mode). IsTrue (coexist low.mode n)) (only_ex high.mode high_most) both)

  apart : (d e : LoggedDoubt) (g h : Granule) → IsAmong d ds → IsAmong e ds → d.txn ≢ e.txn → Contains d.granules g → Contains e.granules h → OnOnePath g h → ⊥
  apart d e g h a b differ c f (inl on) = elim (Contains-In (path g) h on) [
    | inl same ↦ never_two EX d.txn e.txn h differ (subst (HoldsAtLeast (held_by_all rs) d.txn EX) same (locks.all d g a c)) (locks.all e h b f)
    | inr above ↦ never_two IX d.txn e.txn h differ (locks.above d g h a c (In-Contains (ancestors g) h above)) (locks.all e h b f)
  ]
  apart d e g h a b differ c f (inr on) = elim (Contains-In (path h) g on) [
    | inl same ↦ never_two EX e.txn d.txn g (λ it. differ (sym it)) (subst (HoldsAtLeast (held_by_all rs) e.txn EX) same (locks.all e h b f)) (locks.all d g a c)
    | inr above ↦ never_two IX e.txn d.txn g (λ it. differ (sym it)) (locks.above e h g b f (In-Contains (ancestors h) g above)) (locks.all d g a c)
  ]

  -- a lock of theirs has its request
  request_of : (t : ℕ) (m : Mode) (a : Granule) → HoldsAtLeast (held_by_all rs) t m a → IsAmong (t, a) (map node_for rs)
  request_of t m a (i, h, within, is, (by, at, most)) =
      let (r, there, holds) = In-filter_map hold_of rs h (Contains-In (held_by_all rs) h (i, within, is)) in
      let l = lock_of r r.held h holds in
      let node : node_for r ≡ (t, a) = same_node r.txn t r.granule a (l.0 ∙ by) (l.1 ∙ at) in
      subst (λ (x : ℕ × Granule). IsAmong x (map node_for rs)) node (among_map node_for r rs (in_among rs r there))
    where
      same_node : (t u : ℕ) (g h : Granule) → t ≡ u → g ≡ h → ◌≡◌ {A = ℕ × Granule} (t, g) (u, h)
      same_node t u g h e f = cc

  has_request : (some : List LoggedDoubt) → ((d : LoggedDoubt) → IsAmong d some → IsAmong d ds) → (x : ℕ × Granule) → IsAmong x (map node_of (restored_locks some)) → IsAmong x (map node_for rs)
  has_request some part x there =
      let (l, among, is) = mapped_one node_of x (restored_locks some) there in
      let (d, g, one, by, names, how) = lock_of_one some l among in
      let request : IsAmong (d.txn, l.granule) (map node_for rs) = elim how [
        | inl ex ↦ request_of d.txn EX l.granule (subst (HoldsAtLeast (held_by_all rs) d.txn EX) (sym ex.1) (locks.all d g (part d one) names))
        | inr ix ↦ request_of d.txn IX l.granule (locks.above d g l.granule (part d one) names ix.1)
      ] in
      subst (λ (y : ℕ × Granule). IsAmong y (map node_for rs)) (ap (λ (t : ℕ). (t, l.granule)) (sym by) ∙ is) request

  pub no_more : (limit : ℕ) (some : List LoggedDoubt) → ((d : LoggedDoubt) → IsAmong d some → IsAmong d ds) → length rs ≤ limit → NeedMore limit some → ⊥
  no_more limit some part within (nodes, once, each, more) =
      let least = no_longer nodes (map node_for rs) once (λ x there. has_request some part x (each x there)) in
      let many : length (map node_for rs) ≡ length rs = length-map rs node_for in
      absurd (omega (arith, least, many, more, within))

  pub can_hold : (limit : ℕ) → length rs ≤ limit → EachOnce (map (λ (d : LoggedDoubt). d.txn) ds) → EachOnce (map (λ (d : LoggedDoubt). d.global) ds) → CanHold limit ds
  can_hold limit within once names before later d order no_place = by no_place
    where
      mine : (x : LoggedDoubt) → IsAmong x (before ++ d ∷ later) → IsAmong x ds
      mine x there = subst (IsAmong x) (sym order) there

      part : (x : LoggedDoubt) → IsAmong x (before ++ d ∷ []) → IsAmong x ds
      part x there = elim (at_end before d x there) [
        | inl earlier ↦ mine x (among_left x before (d ∷ later) earlier)
        | inr same ↦ subst (λ (it : LoggedDoubt). IsAmong it ds) same (mine d (among_middle before later d))
      ]

      by : HasNoPlace limit before d → ⊥
      by (inl (e, among, inl same)) = never_again (λ (it : LoggedDoubt). it.global) ds before later d e names order among same
      by (inl (e, among, inr (g, h, c, f, on))) =
          apart e d g h (mine e (among_left e before (d ∷ later) among)) (mine d (among_middle before later d))
          (λ same. never_again (λ (it : LoggedDoubt). it.txn) ds before later d e once order among same) c f on
      by (inr more) = no_more limit (before ++ d ∷ []) part within more
