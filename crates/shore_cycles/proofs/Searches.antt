-- A search: what it has explored, the cycle that it finds, and that there is none when it ends.
use Rattle.std.proofs.Common.{◌≡◌, ◌<◌, ◌≤◌, ◌+◌, ◌++◌, inl, inr, ⊎_elim, ℕ, List, [], ◌∷◌, Bool, true, false, Some, refl, ap, sym, subst, ◌∙◌, length, map, arith, below_more}
use Rattle.std.specs.Prelude.{◌==◌, ◌||◌, slice_get}
use Rattle.std.proofs.lemmas.Bool.Decides.{Decides-eqb}
use Rattle.std.proofs.lemmas.List.{get_or_default}
use Rattle.shore_model.specs.declared.requests.Request.{Request}
use Rattle.shore_model.specs.Requests.{IsCycle, WaitsFor, Walk}
use Rattle.shore_locks.specs.Orderly.{IsOrderly}
use Rattle.shore_locks.proofs.Members.{In, All-In, Contains-In, In-All, In-Contains, In-append, In-left, In-right, either}
use Rattle.shore_locks.proofs.Fits.{any_of, found_any, none_any}
use Rattle.shore_locks.proofs.Tables.{fit_of}
use Rattle.shore_cycles.specs.declared.reached.Step.{Step}
use Rattle.shore_cycles.specs.declared.victims.Victim.{Victim}
use Rattle.shore_cycles.specs.Blockers.{AreNoVictims, blockers, is_among, is_victim}
use Rattle.shore_cycles.specs.Cycles.{ComeOnce, IsOnNoCycleWithout, IsSimpleCycleFrom}
use Rattle.shore_cycles.specs.Reached.{Chain, Seen, extended, is_reached, step_at, started, txn_at}
use Rattle.shore_cycles.specs.Searching.{IsSound, IsTrail, IsUnderWay, ShareQueue}
use Rattle.shore_cycles.proofs.Ahead.{listed_waits, shared_waits, waits_listed}
use Rattle.shore_cycles.proofs.Edges.{clash}
use Rattle.shore_cycles.proofs.ReachedLemmas.{Extends, any-append, extends_all, found_marked, neither, reached_at, unreached}
use Rattle.shore_cycles.proofs.Walks.{cycle_turned, parts_about}

-- ---- the cycle that is found

module _ (rs : List Request) (t : ℕ) (reached : List Step) (is : IsTrail rs t reached) where
  chain_walk : (at : ℕ) (indices : List ℕ) (last end : ℕ) → Chain reached at indices last → WaitsFor rs (txn_at reached last) end → Walk rs (txn_at reached at) (map (txn_at reached) indices) end
  chain_walk at [] last end chain waits = subst (λ k. WaitsFor rs (txn_at reached k) end) (sym chain) waits
  chain_walk at (k ∷ ks) last end chain waits =
      let later : 0 < k = omega (arith, chain.0) in (
        subst (λ j. WaitsFor rs (txn_at reached j) (txn_at reached k)) chain.2 (is.waits k later chain.1),
        chain_walk k ks last end chain.3 waits,
      )

  -- indices on a way lie behind its first, and are those of reached transactions
  chain_indices : (at : ℕ) (indices : List ℕ) (last j : ℕ) → Chain reached at indices last → In j indices → (at < j) × (j < length reached)
  chain_indices at [] last j chain h = absurd h
  chain_indices at (k ∷ ks) last j chain h =
      ⊎_elim
      (λ same. (subst (λ x. at < x) same chain.0, subst (λ x. x < length reached) same chain.1))
      (λ later. let rest = chain_indices k ks last j chain.3 later in (omega (arith, chain.0, rest.0), rest.1))
      h

  In_map : (indices : List ℕ) (u : ℕ) → In u (map (txn_at reached) indices) → (k : ℕ) × In k indices × (txn_at reached k ≡ u)
  In_map [] u h = absurd h
  In_map (k ∷ ks) u h = ⊎_elim (λ same. (k, inl refl, same)) (λ later. let r = In_map ks u later in (r.0, inr r.1, r.2)) h

  chain_once : (at : ℕ) (indices : List ℕ) (last : ℕ) → Chain reached at indices last → ComeOnce (map (txn_at reached) (at ∷ indices))
  chain_once at [] last chain = (λ h. Contains-In [] (txn_at reached at) h, tt)
  chain_once at (k ∷ ks) last chain = (
    λ h. let m = In_map (k ∷ ks) (txn_at reached at) (Contains-In (map (txn_at reached) (k ∷ ks)) (txn_at reached at) h) in
        let where_is = chain_indices at (k ∷ ks) last m.0 chain m.1 in is.apart at m.0 where_is.0 where_is.1 (sym m.2),
    chain_once k ks last chain.3,
  )

  -- the way to one that waits for the first is a cycle
  pub path_closes : (indices : List ℕ) (index : ℕ) (path : List ℕ) → Chain reached 0 indices index → path ≡ map (txn_at reached) (0 ∷ indices) → WaitsFor rs (txn_at reached index) t → IsSimpleCycleFrom rs t path
  path_closes indices index path chain are waits = record {
    closed = subst (IsCycle rs) (sym are) (chain_walk 0 indices index (txn_at reached 0) chain (subst (WaitsFor rs (txn_at reached index)) (sym is.first) waits));
    first = ap (λ ts. slice_get ts 0) are ∙ ap Some is.first;
    once = subst ComeOnce (sym are) (chain_once 0 indices index chain);
  }

-- nobody on the way to one that is spared is a victim
module _ (rs : List Request) (victims : List Victim) (t : ℕ) (seen : Seen) (leading from : ℕ) (sound : IsSound rs victims t seen leading from) where
  chain_spared : (at : ℕ) (indices : List ℕ) (last u : ℕ) → Chain seen.steps at indices last → is_victim victims (txn_at seen.steps last) ≡ false → In u (map (txn_at seen.steps) (at ∷ indices)) → is_victim victims u ≡ false
  chain_spared at [] last u chain spared h =
      ⊎_elim (λ same. subst (λ x. is_victim victims x ≡ false) same (subst (λ k. is_victim victims (txn_at seen.steps k) ≡ false) (sym chain) spared)) (λ none. absurd none) h
  chain_spared at (k ∷ ks) last u chain spared h =
      let later : 0 < k = omega (arith, chain.0) in
      ⊎_elim
      (λ same. subst (λ x. is_victim victims x ≡ false) same (subst (λ j. is_victim victims (txn_at seen.steps j) ≡ false) chain.2 (sound.parents k later chain.1).1))
      (λ rest. chain_spared k ks last u chain.3 spared rest) h

-- the way to an index, as it was read
abbrev pub WayTo : List Step → ℕ → List ℕ → Type 0
WayTo steps index path = (indices : List ℕ) × Chain steps 0 indices index × (path ≡ map (txn_at steps) (0 ∷ indices))

pub way_closes : (rs : List Request) (victims : List Victim) (t : ℕ) (seen : Seen) (index : ℕ) (path : List ℕ) → IsUnderWay rs victims t seen index → WayTo seen.steps index path
    → WaitsFor rs (txn_at seen.steps index) t → IsSimpleCycleFrom rs t path
way_closes rs victims t seen index path under way waits = path_closes rs t seen.steps under.sound.trail way.0 index path way.1 way.2 waits

pub way_spared : (rs : List Request) (victims : List Victim) (t : ℕ) (seen : Seen) (index : ℕ) (path : List ℕ) → IsUnderWay rs victims t seen index → index < length seen.steps → WayTo seen.steps index path → AreNoVictims victims path
way_spared rs victims t seen index path under within way =
    subst (AreNoVictims victims) (sym way.2)
    (All-In (λ u. is_victim victims u ≡ false) (map (txn_at seen.steps) (0 ∷ way.0))
    (λ u h. chain_spared rs victims t seen index index under.sound 0 way.0 index u way.1 (under.sound.spared index (omega arith) within) h))

-- ---- one step of the search

pub among : (t : ℕ) (ts : List ℕ) → is_among ts t ≡ true → In t ts
among t ts h = let f = found_any (λ u. u == t) ts h in subst (λ u. In u ts) ((Decides-eqb f.0 t).0 f.2) f.1

not_among : (t : ℕ) (ts : List ℕ) → is_among ts t ≡ false → In t ts → ⊥
not_among t ts h there = let other = none_any (λ u. u == t) ts h t there in let same = (Decides-eqb t t).1 refl in clash same other

-- who is met is waited for
pub met_waits : (rs : List Request) (t at : ℕ) → IsOrderly rs → is_among (blockers at rs) t ≡ true → WaitsFor rs at t
met_waits rs t at orderly met = listed_waits at rs (fit_of rs orderly) t (among t (blockers at rs) met)

or_elim : (a b : Bool) → (a || b) ≡ true → b ≡ false → a ≡ true
or_elim true b h safe = refl
or_elim false b h safe = absurd (clash h safe)

wider : (rs : List Request) (victims : List Victim) (t : ℕ) (seen : Seen) (index : ℕ) → IsSound rs victims t seen index index → IsSound rs victims t seen (index + 1) index
wider rs victims t seen index sound = record {
  trail = sound.trail;
  marked = sound.marked;
  start = sound.start;
  spared = sound.spared;
  parents = λ k later within. let p = sound.parents k later within in (omega (arith, p.0), p.1);
}

past : (rs : List Request) (victims : List Victim) (t : ℕ) (seen : Seen) (index : ℕ) → IsSound rs victims t seen (index + 1) index → IsSound rs victims t seen (index + 1) (index + 1)
past rs victims t seen index sound = record {
  trail = sound.trail;
  marked = sound.marked;
  start = sound.start;
  spared = λ k from within. sound.spared k (omega (arith, from)) within;
  parents = sound.parents;
}

module _ (rs : List Request) (victims : List Victim) (t : ℕ) (seen : Seen) (index : ℕ) (found : List ℕ) (orderly : IsOrderly rs) (under : IsUnderWay rs victims t seen index) (within : index < length seen.steps)
    (are : found ≡ blockers (txn_at seen.steps index) rs) where
  all_wait : (u : ℕ) → In u found → WaitsFor rs (txn_at seen.steps index) u
  all_wait u h = listed_waits (txn_at seen.steps index) rs (fit_of rs orderly) u (subst (In u) are h)

  longer : Extends rs victims t (index + 1) index seen (extended index found seen)
  longer =
      extends_all rs victims t (index + 1) index index found seen (wider rs victims t seen index under.sound) (omega arith) within (under.sound.spared index (omega arith) within) all_wait

  pub fewer_left : unreached rs (extended index found seen).steps + length (extended index found seen).steps ≤ unreached rs seen.steps + length seen.steps
  fewer_left = longer.fewer_left

  pub under_way_on : is_among (blockers (txn_at seen.steps index) rs) t ≡ false → IsUnderWay rs victims t (extended index found seen) (index + 1)
  under_way_on without = record {
    sound = past rs victims t (extended index found seen) index longer.sound;
    explored =
        below_more (λ k. is_victim victims (txn_at (extended index found seen).steps k) ≡ false → (u : ℕ) → WaitsFor rs (txn_at (extended index found seen).steps k) u → is_victim victims u ≡ false →
        (is_reached (extended index found seen).steps u ≡ true) × (u ≡ t → ⊥)) index
        (λ k below spared u waits safe.
        let inside : k < length seen.steps = omega arith in
        let same = longer.grows.alike k inside in
        let old = under.explored k below (subst (λ x. is_victim victims x ≡ false) same spared) u (subst (λ x. WaitsFor rs x u) same waits) safe in
        (longer.grows.kept u old.0, old.1))
        (λ spared u waits safe.
        let there : In u (blockers (txn_at seen.steps index) rs) = waits_listed (txn_at seen.steps index) rs (fit_of rs orderly) u (subst (λ x. WaitsFor rs x u) (longer.grows.alike index within) waits) in
        let marked = found_marked index found seen u (subst (In u) (sym are) there) in (
          or_elim (is_reached (extended index found seen).steps u) (is_victim victims u) (sym (longer.sound.marked u) ∙ marked) safe,
          λ same. not_among t (blockers (txn_at seen.steps index) rs) without (subst (λ x. In x (blockers (txn_at seen.steps index) rs)) same there),
        ));
  }

-- who waits ahead in a queue waits for nobody for whom the one behind does not wait
pub shared_on : (rs : List Request) (victims : List Victim) (t : ℕ) (seen : Seen) (index : ℕ) → IsOrderly rs → IsUnderWay rs victims t seen index → index < length seen.steps → 0 < index
    → ShareQueue rs (txn_at seen.steps index) (txn_at seen.steps (step_at seen.steps index).parent) → IsUnderWay rs victims t seen (index + 1)
shared_on rs victims t seen index orderly under within later share = record {
  sound = past rs victims t seen index (wider rs victims t seen index under.sound);
  explored =
      below_more (λ k. is_victim victims (txn_at seen.steps k) ≡ false → (u : ℕ) → WaitsFor rs (txn_at seen.steps k) u → is_victim victims u ≡ false → (is_reached seen.steps u ≡ true) × (u ≡ t → ⊥)) index
      (λ k below. under.explored k below)
      (λ spared u waits safe.
      let p = under.sound.parents index later within in
      under.explored (step_at seen.steps index).parent p.0 p.1 u
      (shared_waits rs (fit_of rs orderly) (txn_at seen.steps index) (txn_at seen.steps (step_at seen.steps index).parent) u share (under.sound.trail.waits index later within) waits) safe);
}

-- ---- where the search ends

walk_never : (rs : List Request) (victims : List Victim) (t : ℕ) (Found : ℕ → Type 0)
    → ((x u : ℕ) → Found x → is_victim victims x ≡ false → WaitsFor rs x u → is_victim victims u ≡ false → Found u × (u ≡ t → ⊥))
    → is_victim victims t ≡ false → (x : ℕ) (ts : List ℕ) → Found x → is_victim victims x ≡ false → ((u : ℕ) → In u ts → is_victim victims u ≡ false) → Walk rs x ts t → ⊥
walk_never rs victims t Found step spared x [] found safe each walk = (step x t found safe walk spared).1 refl
walk_never rs victims t Found step spared x (u ∷ us) found safe each walk =
    walk_never rs victims t Found step spared u us (step x u found safe walk.0 (each u (inl refl))).0 (each u (inl refl)) (λ v h. each v (inr h)) walk.1

place_of : (steps : List Step) (u : ℕ) → is_reached steps u ≡ true → (k : ℕ) × (k < length steps) × (txn_at steps k ≡ u)
place_of steps u there =
    let f = found_any (λ (s : Step). s.txn == u) steps there in
    let c = In-Contains steps f.0 f.1 in
    (c.0, c.1, ap (λ (s : Step). s.txn) (get_or_default steps c.0 (record { txn = 0; parent = 0 }) f.0 c.1 ∙ c.2) ∙ (Decides-eqb f.0.txn u).0 f.2)

pub none_passes : (rs : List Request) (victims : List Victim) (t : ℕ) (seen : Seen) (index : ℕ) → IsUnderWay rs victims t seen index → length seen.steps ≤ index → IsOnNoCycleWithout victims rs t
none_passes rs victims t seen index under all cycle closed passes spared =
    let trail = under.sound.trail in
    let parts = parts_about t cycle (Contains-In cycle t passes) in
    let turned : Walk rs t (parts.1 ++ parts.0) t = cycle_turned rs parts.0 (t ∷ parts.1) (subst (IsCycle rs) parts.2 closed) in
    let each : (u : ℕ) → In u cycle → is_victim victims u ≡ false = λ u h. In-All (λ u. is_victim victims u ≡ false) cycle u spared h in
    let step : (x u : ℕ) → is_reached seen.steps x ≡ true → is_victim victims x ≡ false → WaitsFor rs x u → is_victim victims u ≡ false → (is_reached seen.steps u ≡ true) × (u ≡ t → ⊥) =
    λ x u found harmless waits safe.
    let at = place_of seen.steps x found in
    let below : at.0 < index = omega (arith, at.1) in
    under.explored at.0 below (subst (λ y. is_victim victims y ≡ false) (sym at.2) harmless) u (subst (λ y. WaitsFor rs y u) (sym at.2) waits) safe in
    let start : is_reached seen.steps t ≡ true = subst (λ u. is_reached seen.steps u ≡ true) trail.first (reached_at seen.steps 0 trail.some) in
    walk_never rs victims t (λ u. is_reached seen.steps u ≡ true) step (each t (Contains-In cycle t passes)) t (parts.1 ++ parts.0) start (each t (Contains-In cycle t passes))
    (λ u h. each u (subst (In u) (sym parts.2) (⊎_elim (λ later. In-right parts.0 (t ∷ parts.1) u (inr later)) (λ before. In-left parts.0 (t ∷ parts.1) u before) (In-append parts.1 parts.0 u h))))
    turned

-- ---- a victim more

victim_more : (vs : List Victim) (v : Victim) (u : ℕ) → is_victim (vs ++ v ∷ []) u ≡ (is_victim vs u || (v.txn == u))
victim_more vs v u = any-append (λ (x : Victim). x.txn == u) vs v

more_spared : (vs : List Victim) (v : Victim) (u : ℕ) → is_victim vs u ≡ false → (v.txn ≡ u → ⊥) → is_victim (vs ++ v ∷ []) u ≡ false
more_spared vs v u safe other =
    victim_more vs v u ∙ ap (λ b. b || (v.txn == u)) safe ∙ ⊎_elim (λ same. absurd (other ((Decides-eqb v.txn u).0 same))) (λ apart. apart) (either (v.txn == u))

less_spared : (vs : List Victim) (v : Victim) (u : ℕ) → is_victim (vs ++ v ∷ []) u ≡ false → is_victim vs u ≡ false
less_spared vs v u safe = (neither (is_victim vs u) (v.txn == u) (sym (victim_more vs v u) ∙ safe)).0

newest_victim : (vs : List Victim) (v : Victim) (u : ℕ) → v.txn ≡ u → is_victim (vs ++ v ∷ []) u ≡ true
newest_victim vs v u same = any_of (λ (x : Victim). x.txn == u) (vs ++ v ∷ []) v (In-right vs (v ∷ []) v (inl refl)) ((Decides-eqb v.txn u).1 same)

or_true : (a b : Bool) → a ≡ true → (a || b) ≡ true
or_true true b is = refl
or_true false b is = absurd (clash is refl)

or_more : (a b e : Bool) → (e ≡ true → a ≡ true) → (a || b) ≡ (a || (b || e))
or_more true b e gives = refl
or_more false true e gives = refl
or_more false false true gives = absurd (clash (gives refl) refl)
or_more false false false gives = refl

-- one from whom a way back was seen, and that led to nobody yet
pub passed_on : (rs : List Request) (vs : List Victim) (t : ℕ) (seen : Seen) (index : ℕ) (v : Victim) → IsUnderWay rs vs t seen index → index < length seen.steps → v.txn ≡ txn_at seen.steps index → (v.txn ≡ t → ⊥)
    → IsUnderWay rs (vs ++ v ∷ []) t seen (index + 1)
passed_on rs vs t seen index v under within is another =
    let sound = under.sound in
    let trail = sound.trail in
    record {
      sound = record {
        trail = trail;
        marked = λ u.
            sound.marked u
            ∙ or_more (is_reached seen.steps u) (is_victim vs u) (v.txn == u)
            (λ same. subst (λ x. is_reached seen.steps x ≡ true) (sym is ∙ (Decides-eqb v.txn u).0 same) (reached_at seen.steps index within))
            ∙ ap (λ b. is_reached seen.steps u || b) (sym (victim_more vs v u));
        start = more_spared vs v t sound.start another;
        spared = λ k from below.
            more_spared vs v (txn_at seen.steps k) (sound.spared k (omega (arith, from)) below) (λ same. trail.apart index k (omega (arith, from)) below (sym is ∙ same));
        parents = λ k later below.
            let p = sound.parents k later below in
            (omega (arith, p.0), more_spared vs v (txn_at seen.steps (step_at seen.steps k).parent) p.1 (λ same. trail.apart (step_at seen.steps k).parent index p.0 within (sym same ∙ is)));
      };
      explored =
          below_more (λ k. is_victim (vs ++ v ∷ []) (txn_at seen.steps k) ≡ false → (u : ℕ) → WaitsFor rs (txn_at seen.steps k) u → is_victim (vs ++ v ∷ []) u ≡ false →
          (is_reached seen.steps u ≡ true) × (u ≡ t → ⊥)) index
          (λ k below spared u waits safe. under.explored k below (less_spared vs v (txn_at seen.steps k) spared) u waits (less_spared vs v u safe))
          (λ spared u waits safe. absurd (clash (newest_victim vs v (txn_at seen.steps index) is) spared));
    }

-- ---- the beginning

among_victims : (vs : List Victim) (u : ℕ) → is_among (map (λ (v : Victim). v.txn) vs) u ≡ is_victim vs u
among_victims [] u = refl
among_victims (v ∷ vs) u = let rest = among_victims vs u in ⊎_elim (λ same. rw same refl) (λ other. rw other rest) (either (v.txn == u))

first_marked : (vs : List Victim) (t u : ℕ) → is_among (t ∷ map (λ (v : Victim). v.txn) vs) u ≡ (is_reached (record { txn = t; parent = 0 } ∷ []) u || is_victim vs u)
first_marked vs t u = let rest = among_victims vs u in ⊎_elim (λ same. rw same refl) (λ other. rw other rest) (either (t == u))

pub under_way_first : (rs : List Request) (vs : List Victim) (t : ℕ) → is_victim vs t ≡ false → IsUnderWay rs vs t (started vs t) 0
under_way_first rs vs t safe = record {
  sound = record {
    trail = record {
      some = omega arith;
      first = refl;
      leads = λ k later within. absurd (omega (arith, later, within));
      waits = λ k later within. absurd (omega (arith, later, within));
      apart = λ j k before within. absurd (omega (arith, before, within));
    };
    marked = first_marked vs t;
    start = safe;
    spared = λ k from within. let first : 0 ≡ k = omega (arith, within) in subst (λ j. is_victim vs (txn_at (record { txn = t; parent = 0 } ∷ []) j) ≡ false) first safe;
    parents = λ k later within. absurd (omega (arith, later, within));
  };
  explored = λ k below. absurd (omega (arith, below));
}

-- the same with one victim more
pub begun_anew : (rs : List Request) (vs : List Victim) (t : ℕ) (seen : Seen) (index : ℕ) (v : Victim) → IsUnderWay rs vs t seen index → (v.txn ≡ t → ⊥) → IsUnderWay rs (vs ++ v ∷ []) t (started (vs ++ v ∷ []) t) 0
begun_anew rs vs t seen index v under another = under_way_first rs (vs ++ v ∷ []) t (more_spared vs v t under.sound.start another)
