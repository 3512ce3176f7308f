-- What the cache of locks says stays so: what is noted in it, and which changes of the list of requests leave a lock that wants nothing more.
use Rattle.std.proofs.Common.{◌≡◌, ◌<◌, ◌==◌, inl, inr, ⊎_elim, ℕ, List, [], ◌∷◌, true, false, Option, None, Some, length, set, get_or, replicate, refl, ap, sym, subst, ◌∙◌, arith}
use Rattle.std.specs.Prelude.{◌&&◌, cond, not, is_some}
use Rattle.std.specs.List.{list_any}
use Rattle.std.specs.Option.{option_and_then}
use Rattle.std.proofs.lemmas.Bool.Decides.{Decides-eqb}
use Rattle.std.proofs.lemmas.List.{get_or_read, get_or-replicate, get_or-set_same, get_or-set_other}
use Rattle.std.proofs.lemmas.Nat.{mod_below}
use Rattle.shore_types.specs.declared.locking.Granule.{Granule}
use Rattle.shore_types.specs.declared.locking.Granule.TheVariants.{Page, Record, Store, Volume}
use Rattle.shore_types.specs.declared.locking.Mode.{Mode}
use Rattle.shore_types.specs.Locking.{same_granule}
use Rattle.shore_model.specs.declared.requests.Request.{Request}
use Rattle.shore_model.specs.Requests.{are_alike, AreRequests, placed_last, requests_by}
use Rattle.shore_nodes.specs.Tables.{is_for, is_waiting, mode_held, request_for, waiting_request}
use Rattle.shore_locks.specs.declared.cache.Entry.{Entry}
use Rattle.shore_locks.specs.Cache.{AreHeld, AreQuiet, IsForgotten, IsNoted, IsNotedIn, cached, index_of, mode_in, nothing_of, said_of}
use Rattle.shore_locks.specs.Grants.{after_grant, asking, first_hold, given_up, granted, is_enough, passed, put, released, removed, replaced, taken_back, withdrawn}
use Rattle.shore_nodes.proofs.Members.{In, either, Contains-In, In-Contains, In-filter, In-left, filter-In}
use Rattle.shore_nodes.proofs.Keys.{alike-Decides, only_one, same_granule-Decides}
use Rattle.shore_nodes.proofs.Counts.{AreRequests-passed, AreRequests-removed, AreRequests-stopped}
use Rattle.shore_nodes.proofs.Entering.{AreRequests-put, both_true, found_in, held_in, none_waits, request_in}
use Rattle.shore_nodes.proofs.Fits.{wants_nothing}
use Rattle.shore_nodes.proofs.Others.{put_in_place, put_last}
use Rattle.shore_locks.proofs.Outcomes.{kept_in_place, pass_keeps_holders, put_there}
use Rattle.shore_locks.proofs.Tables.{cond_false, cond_true}

-- ---- one entry

nothing_in : (t : ℕ) (h : Granule) → mode_in (nothing_of t) h ≡ None
nothing_in t Volume = refl
nothing_in t (Store s) = refl
nothing_in t (Page p) = refl
nothing_in t (Record r) = refl

silent : (t u : ℕ) (h : Granule) → said_of (nothing_of t) u h ≡ None
silent t u h = ⊎_elim (λ yes. cond_true (t == u) (mode_in (nothing_of t) h) None yes ∙ nothing_in t h) (λ no. cond_false (t == u) (mode_in (nothing_of t) h) None no) (either (t == u))

-- ---- the entries

pub says_nothing : (e : Entry) → e ≡ nothing_of 0 → (t : ℕ) (g : Granule) → cached (replicate 64 e) t g ≡ None
says_nothing e is t g =
    ap (λ (x : Entry). said_of x t g) (get_or-replicate 64 (index_of t) e (nothing_of 0) (mod_below t 64 (omega arith)) ∙ is) ∙ silent 0 t g

module _ (entries : List Entry) (t i : ℕ) (at : i ≡ index_of t) (e : Entry) (within : i < length entries) where
  abbrev written : List Entry
  written = set entries i e

  here : (u : ℕ) → index_of u ≡ i → get_or written (index_of u) (nothing_of 0) ≡ e
  here u same = ap (λ j. get_or (set entries i e) j (nothing_of 0)) same ∙ get_or-set_same entries i e (nothing_of 0) within

  elsewhere : (u : ℕ) → (index_of u ≡ i → ⊥) → (h : Granule) → cached written u h ≡ cached entries u h
  elsewhere u other h = ap (λ (x : Entry). said_of x u h) (get_or-set_other entries i (index_of u) e (nothing_of 0) other)

  unlike : (u : ℕ) → (index_of u == i) ≡ false → index_of u ≡ i → ⊥
  unlike u differs same = let yes = (Decides-eqb (index_of u) i).1 same in cc

  pub noted_at : (g : Granule) (m : Mode) (old : Entry) → old ≡ get_or entries i old → IsNotedIn old e t g m → IsNoted entries (set entries i e) t g m
  noted_at g m old was noted u h k is =
      ⊎_elim
      (λ yes.
      let same = (Decides-eqb (index_of u) i).0 yes in
      let before : said_of old u h ≡ cached entries u h = ap (λ (x : Entry). said_of x u h) (get_or_read entries i old within was (nothing_of 0) ∙ ap (λ j. get_or entries j (nothing_of 0)) (sym same)) in
      ⊎_elim (λ that. inl that) (λ said. inr (sym before ∙ said.0, said.1))
      (noted u h k (sym (ap (λ (x : Entry). said_of x u h) (here u same)) ∙ is)))
      (λ no. inr (sym (elsewhere u (unlike u no) h) ∙ is, λ by _. unlike u no (ap index_of by ∙ sym at)))
      (either (index_of u == i))

  pub forgotten_at : e ≡ nothing_of t → IsForgotten entries (set entries i e) t
  forgotten_at gone u h k is =
      ⊎_elim
      (λ yes.
      let same = (Decides-eqb (index_of u) i).0 yes in
      absurd (let both : None ≡ Some k = sym (silent t u h) ∙ sym (ap (λ (x : Entry). said_of x u h) (here u same ∙ gone)) ∙ is in cc))
      (λ no. (sym (elsewhere u (unlike u no) h) ∙ is, λ by. unlike u no (ap index_of by ∙ sym at)))
      (either (index_of u == i))

-- ---- what is said is held

pub held_so : (entries : List Entry) (rs : List Request) (t : ℕ) (g : Granule) (m : Mode) → AreRequests rs → AreHeld entries rs → cached entries t g ≡ Some m → mode_held t g rs ≡ Some m
held_so entries rs t g m one known is =
    ap (option_and_then (λ (r : Request). r.held)) (request_in rs one (first_hold t g m) (Contains-In rs (first_hold t g m) (known t g m is)))

enough_if : (entries : List Entry) (rs : List Request) (t : ℕ) (g : Granule) (mode : Mode) → AreRequests rs → AreHeld entries rs → (said : Option Mode) → cached entries t g ≡ said → is_enough mode said ≡ true → is_enough mode (mode_held t g rs) ≡ true
enough_if entries rs t g mode one known None is e = cc
enough_if entries rs t g mode one known (Some m) is e = ap (is_enough mode) (held_so entries rs t g m one known is) ∙ e

pub enough_so : (entries : List Entry) (rs : List Request) (t : ℕ) (g : Granule) (mode : Mode) → AreRequests rs → AreHeld entries rs → is_enough mode (cached entries t g) ≡ true → is_enough mode (mode_held t g rs) ≡ true
enough_so entries rs t g mode one known e = enough_if entries rs t g mode one known (cached entries t g) refl e

wants_none : (wanted : Option Mode) → (is_some wanted ≡ true → ⊥) → wanted ≡ None
wants_none None never = refl
wants_none (Some m) never = absurd (never refl)

-- what is held by one who does not wait, it wants no more of
pub holds_still : (t : ℕ) (g : Granule) (m : Mode) (rs : List Request) → is_waiting t rs ≡ false → mode_held t g rs ≡ Some m → In (first_hold t g m) rs
holds_still t g m rs quiet held =
    let e = held_in (request_for t g rs) m held in
    let f = found_in (is_for t g) rs e.0 e.1 in
    let keys = both_true (e.0.txn == t) (same_granule e.0.granule g) f.1 in
    let by = (Decides-eqb e.0.txn t).0 keys.0 in
    let at = (same_granule-Decides e.0.granule g).0 keys.1 in
    let still = wants_none e.0.wanted (none_waits t rs quiet e.0 f.0 by) in
    let same : e.0 ≡ first_hold t g m = λ i. record { txn = by i; granule = at i; held = e.2 i; wanted = still i } in
    subst (λ r. In r rs) same f.0

-- ---- a change of the list that leaves what was known, or adds what is noted

pub known_noted : (old new : List Entry) (rs after : List Request) (t : ℕ) (g : Granule) (m : Mode) → IsNoted old new t g m → AreHeld old rs → In (first_hold t g m) after
    → ((u : ℕ) (h : Granule) (k : Mode) → In (first_hold u h k) rs → (u ≡ t → h ≡ g → ⊥) → In (first_hold u h k) after) → AreHeld new after
known_noted old new rs after t g m noted known there stay u h k is =
    In-Contains after (first_hold u h k) (⊎_elim (λ that. subst (λ r. In r after) that there)
    (λ was. stay u h k (Contains-In rs (first_hold u h k) (known u h k was.0)) was.1) (noted u h k is))

pub known_without : (old new : List Entry) (rs after : List Request) (t : ℕ) → IsForgotten old new t → AreHeld old rs
    → ((u : ℕ) (h : Granule) (k : Mode) → In (first_hold u h k) rs → (u ≡ t → ⊥) → In (first_hold u h k) after) → AreHeld new after
known_without old new rs after t gone known stay u h k is =
    let was = gone u h k is in In-Contains after (first_hold u h k) (stay u h k (Contains-In rs (first_hold u h k) (known u h k was.0)) was.1)

pub known_as : (entries : List Entry) (rs after : List Request) → AreHeld entries rs → ((u : ℕ) (h : Granule) (k : Mode) → In (first_hold u h k) rs → In (first_hold u h k) after) → AreHeld entries after
known_as entries rs after known stay u h k is = In-Contains after (first_hold u h k) (stay u h k (Contains-In rs (first_hold u h k) (known u h k is)))

-- ---- and nobody of whom something is known waits

pub quiet_noted : (old new : List Entry) (rs after : List Request) (t : ℕ) (g : Granule) (m : Mode) → IsNoted old new t g m → AreQuiet old rs → is_waiting t after ≡ false
    → ((u : ℕ) → is_waiting u rs ≡ false → is_waiting u after ≡ false) → AreQuiet new after
quiet_noted old new rs after t g m noted known own stay u h k is =
    ⊎_elim (λ that. subst (λ (n : ℕ). is_waiting n after ≡ false) (ap (λ (r : Request). r.txn) that) own) (λ was. stay u (known u h k was.0)) (noted u h k is)

pub quiet_without : (old new : List Entry) (rs after : List Request) (t : ℕ) → IsForgotten old new t → AreQuiet old rs → ((u : ℕ) → (u ≡ t → ⊥) → is_waiting u rs ≡ false → is_waiting u after ≡ false) → AreQuiet new after
quiet_without old new rs after t gone known stay u h k is = let was = gone u h k is in stay u was.1 (known u h k was.0)

-- ---- which locks the changes leave

apart_by : (a b : Request) → (a.txn ≡ b.txn → a.granule ≡ b.granule → ⊥) → are_alike a b ≡ false
apart_by a b other = ⊎_elim (λ yes. absurd (let keys = (alike-Decides a b).0 yes in other keys.0 keys.1)) (λ no. no) (either (are_alike a b))

left_removed : (h r : Request) (rs : List Request) → are_alike h r ≡ false → In h rs → In h (removed r rs)
left_removed h r rs apart there = filter-In (λ q. not (are_alike q r)) rs h there (ap not apart)

pub left_placed : (h r : Request) (rs : List Request) → are_alike h r ≡ false → In h rs → In h (placed_last r rs)
left_placed h r rs apart there = In-left (removed r rs) (r ∷ []) h (left_removed h r rs apart there)

left_put : (h r : Request) (rs : List Request) → are_alike h r ≡ false → In h rs → In h (put r rs)
left_put h r rs apart there =
    ⊎_elim (λ yes. subst (In h) (sym (put_in_place r rs yes)) (kept_in_place r rs h there apart))
    (λ none. subst (In h) (sym (put_last r rs none)) (In-left rs (r ∷ []) h there))
    (either (list_any (λ q. are_alike q r) rs))

pub left_asking : (t u : ℕ) (g h : Granule) (mode k : Mode) (rs : List Request) → (u ≡ t → ⊥) → In (first_hold u h k) rs → In (first_hold u h k) (placed_last (asking t g mode rs) rs)
left_asking t u g h mode k rs other there = left_placed (first_hold u h k) (asking t g mode rs) rs (apart_by (first_hold u h k) (asking t g mode rs) (λ by _. other by)) there

pub granted_there : (t : ℕ) (g : Granule) (mode : Mode) (rs : List Request) → AreRequests rs → In (granted (asking t g mode rs)) (after_grant t g mode rs)
granted_there t g mode rs one =
    pass_keeps_holders g (put (granted (asking t g mode rs)) rs) (granted (asking t g mode rs)) (AreRequests-put (granted (asking t g mode rs)) rs one) refl (put_there (granted (asking t g mode rs)) rs)

pub left_granted : (t : ℕ) (g : Granule) (mode : Mode) (rs : List Request) → AreRequests rs → (u : ℕ) (h : Granule) (k : Mode) → In (first_hold u h k) rs → (u ≡ t → h ≡ g → ⊥) → In (first_hold u h k) (after_grant t g mode rs)
left_granted t g mode rs one u h k there other =
    pass_keeps_holders g (put (granted (asking t g mode rs)) rs) (first_hold u h k) (AreRequests-put (granted (asking t g mode rs)) rs one) refl
    (left_put (first_hold u h k) (granted (asking t g mode rs)) rs (apart_by (first_hold u h k) (granted (asking t g mode rs)) other) there)

-- one that wants nothing is none that waits
apart_waiting : (h r : Request) (rs : List Request) → AreRequests rs → In h rs → In r rs → h.wanted ≡ None → is_some r.wanted ≡ true → are_alike h r ≡ false
apart_waiting h r rs one in_h in_r still wants =
    ⊎_elim (λ yes. absurd (wants_nothing r.wanted (sym (ap (λ (x : Request). x.wanted) (only_one rs one h r in_h in_r yes)) ∙ still) wants)) (λ no. no) (either (are_alike h r))

left_stopped : (h r : Request) (rs : List Request) → are_alike h r ≡ false → In h rs → In h (cond (is_some r.held) (replaced (withdrawn r) rs) (removed r rs))
left_stopped h r rs apart there =
    ⊎_elim (λ yes. subst (In h) (sym (cond_true (is_some r.held) (replaced (withdrawn r) rs) (removed r rs) yes)) (kept_in_place (withdrawn r) rs h there apart))
    (λ no. subst (In h) (sym (cond_false (is_some r.held) (replaced (withdrawn r) rs) (removed r rs) no)) (left_removed h r rs apart there))
    (either (is_some r.held))

pub left_taken_back : (t : ℕ) (r : Request) (rs : List Request) → AreRequests rs → waiting_request t rs ≡ Some r → (u : ℕ) (h : Granule) (k : Mode) → In (first_hold u h k) rs → In (first_hold u h k) (taken_back r rs)
left_taken_back t r rs one is u h k there =
    let f = found_in (λ x. (x.txn == t) && is_some x.wanted) rs r is in
    let p = both_true (r.txn == t) (is_some r.wanted) f.1 in
    pass_keeps_holders r.granule (cond (is_some r.held) (replaced (withdrawn r) rs) (removed r rs)) (first_hold u h k) (AreRequests-stopped r rs one) refl
    (left_stopped (first_hold u h k) r rs (apart_waiting (first_hold u h k) r rs one there f.0 refl p.1) there)

left_given_up : (t : ℕ) (mine rs : List Request) → ((r : Request) → In r mine → r.txn ≡ t) → AreRequests rs → (h : Request) → h.wanted ≡ None → (h.txn ≡ t → ⊥) → In h rs → In h (given_up mine rs)
left_given_up t [] rs its one h still other there = there
left_given_up t (r ∷ mine) rs its one h still other there =
    let left = AreRequests-removed r rs one in
    left_given_up t mine (passed r.granule (removed r rs)) (λ q i. its q (inr i)) (AreRequests-passed r.granule (removed r rs) left) h still other
    (pass_keeps_holders r.granule (removed r rs) h left still (left_removed h r rs (apart_by h r (λ by _. other (by ∙ its r (inl refl)))) there))

pub left_released : (t : ℕ) (rs : List Request) → AreRequests rs → (u : ℕ) (h : Granule) (k : Mode) → In (first_hold u h k) rs → (u ≡ t → ⊥) → In (first_hold u h k) (released t rs)
left_released t rs one u h k there other =
    left_given_up t (requests_by t rs) rs (λ r i. (Decides-eqb r.txn t).0 (In-filter (λ x. x.txn == t) rs r i).1) one (first_hold u h k) refl other there
