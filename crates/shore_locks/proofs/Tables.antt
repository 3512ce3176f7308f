-- The requests of a table stay orderly.
use Rattle.std.proofs.Common.{◌≡◌, ◌≤◌, length, inl, inr, ⊎_elim, ℕ, List, [], ◌∷◌, Bool, true, false, Option, None, Some, refl, ap, sym, subst, ◌∙◌, arith}
use Rattle.std.specs.Prelude.{not, cond, All, ◌&&◌, ◌==◌, is_some, IsSome, IsTrue}
use Rattle.std.specs.List.{cons_option}
use Rattle.shore_types.specs.declared.locking.Granule.{Granule}
use Rattle.shore_types.specs.declared.locking.Mode.{Mode}
use Rattle.shore_model.specs.declared.holds.Hold.{Hold}
use Rattle.shore_model.specs.declared.requests.Request.{Request}
use Rattle.shore_model.specs.Modes.{coexist}
use Rattle.shore_model.specs.Locks.{Agree, StandTogether}
use Rattle.shore_model.specs.Requests.{are_alike, requests_by, placed_last, held_by_all, hold_in}
use Rattle.shore_locks.specs.Findings.{FindsNode, IsGrantable, MayAsk}
use Rattle.shore_nodes.specs.Tables.{Table, mode_held, is_waiting, request_for, waiting_request}
use Rattle.shore_locks.specs.Grants.{removed, replaced, put, granted, withdrawn, asking, obstacle, passed, taken_back, taken_back_if, cancelled, given_up, released, is_full, after_grant}
use Rattle.shore_nodes.specs.Orderly.{IsOrderlyWithin, IsOrderly, IsOfUse, Rises, WaitsLast}
use Rattle.shore_nodes.proofs.Members.{In, either, In-All, All-In, In-Contains, Contains-In}
use Rattle.shore_nodes.proofs.Fits.{Fit, Fit-filter, Fit-withdrawn, Fit-passed, StandBoth}
use Rattle.shore_nodes.proofs.Others.{NoneLeftAt, none_left_as, none_left_passed, at_other_removed, at_other_replaced, at_other_put}
use Rattle.shore_nodes.proofs.Entering.{AreRequests-put, Fit-placed, Fit-put, found_in, rises_to_wanted}
use Rattle.shore_nodes.proofs.Counts.{has_one, short_of, length-given_up, length-passed, length-placed_within, length-put_within, length-taken_back}
use Rattle.shore_nodes.proofs.Waiting.{none_left_placed}
use Rattle.shore_locks.proofs.Lasts.{last_filter, last_passed, last_placed, last_put, last_replaced, quiet_of}

-- if the table is not full for a transaction and a granule, its request has a node or one is left
pub node_found : (table : Table) (r : Request) → length table.requests ≤ table.limit → is_full table r.txn r.granule ≡ false → FindsNode table r
node_found table r most room none =
    ⊎_elim
    (λ has. absurd (let yes = has_one r table.requests has in cc))
    (λ short. short)
    (short_of (is_some (request_for r.txn r.granule table.requests)) (length table.requests) table.limit most room)

-- a lock is held by a request
record HeldBy (rs : List Request) (h : Hold) : Type 0 where
  request : Request
  there : In request rs
  by : request.txn ≡ h.txn
  at : request.granule ≡ h.granule
  as_much : request.held ≡ Some h.mode

later : (r : Request) (rs : List Request) (h : Hold) → HeldBy rs h → HeldBy (r ∷ rs) h
later r rs h b = record { request = b.request; there = inr b.there; by = b.by; at = b.at; as_much = b.as_much }

held_first : (r : Request) (rs : List Request) (h : Hold) (held : Option Mode) → r.held ≡ held → (In h (held_by_all rs) → HeldBy rs h) → In h (cons_option (hold_in r held) (held_by_all rs)) → HeldBy (r ∷ rs) h
held_first r rs h None is rest i = later r rs h (rest i)
held_first r rs h (Some m) is rest i =
    ⊎_elim
    (λ e. record { request = r; there = inl refl; by = ap (λ (x : Hold). x.txn) e; at = ap (λ (x : Hold). x.granule) e; as_much = is ∙ ap (λ (x : Hold). Some x.mode) e })
    (λ t. later r rs h (rest t))
    i

held_by : (rs : List Request) (h : Hold) → In h (held_by_all rs) → HeldBy rs h
held_by [] h i = absurd i
held_by (r ∷ rs) h i = held_first r rs h r.held refl (held_by rs h) i

holds_first : (r : Request) (rs : List Request) (m : Mode) (held : Option Mode) → held ≡ Some m → In (record { txn = r.txn; granule = r.granule; mode = m }) (cons_option (hold_in r held) (held_by_all rs))
holds_first r rs m None is = cc
holds_first r rs m (Some k) is = let same : k ≡ m = cc in inl (ap (λ x. record { txn = r.txn; granule = r.granule; mode = x }) same)

holds_later : (r : Request) (rs : List Request) (h : Hold) (held : Option Mode) → In h (held_by_all rs) → In h (cons_option (hold_in r held) (held_by_all rs))
holds_later r rs h None i = i
holds_later r rs h (Some k) i = inr i

holds : (rs : List Request) (a : Request) (m : Mode) → In a rs → a.held ≡ Some m → In (record { txn = a.txn; granule = a.granule; mode = m }) (held_by_all rs)
holds [] a m i is = absurd i
holds (r ∷ rs) a m i is =
    ⊎_elim
    (λ e. subst (λ x. In (record { txn = x.txn; granule = x.granule; mode = m }) (held_by_all (r ∷ rs))) e (holds_first r rs m r.held (ap (λ (x : Request). x.held) e ∙ is)))
    (λ t. holds_later r rs (record { txn = a.txn; granule = a.granule; mode = m }) r.held (holds rs a m t is))
    i

stand_as : (a b : Option Mode) (m n : Mode) → a ≡ Some m → b ≡ Some n → StandBoth a b → IsTrue (coexist m n)
stand_as a b m n e f h = subst (λ y. StandBoth (Some m) y) f (subst (λ x. StandBoth x b) e h)

together_of : (rs : List Request) → Fit rs → StandTogether (held_by_all rs)
together_of rs fit =
    All-In (λ h. All (Agree h) (held_by_all rs)) (held_by_all rs) (λ h in_h. All-In (Agree h) (held_by_all rs) (λ k in_k at other.
    let a = held_by rs h in_h in let b = held_by rs k in_k in
    stand_as a.request.held b.request.held h.mode k.mode a.as_much b.as_much
    (fit.pairs a.request b.request a.there b.there (a.at ∙ at ∙ sym b.at) (λ e. other (sym a.by ∙ e ∙ b.by)))))

both_stand : (a b : Option Mode) → ((m n : Mode) → a ≡ Some m → b ≡ Some n → IsTrue (coexist m n)) → StandBoth a b
both_stand (Some m) (Some n) h = h m n refl refl
both_stand None (Some n) h = tt
both_stand (Some m) None h = tt
both_stand None None h = tt

IsSome_of : {A : Type 0} (o : Option A) → is_some o ≡ true → IsSome o
IsSome_of o e = e

pub orderly_of : (rs : List Request) → Fit rs → ((g : Granule) → NoneLeftAt rs g) → WaitsLast rs → IsOrderly rs
orderly_of rs fit left last = record {
  one_each = fit.one;
  together = together_of rs fit;
  none_left = left;
  of_use = All-In IsOfUse rs fit.of_use;
  rising = All-In (λ r. Rises r.held r.wanted) rs fit.rising;
  waits_once = λ a b x y. fit.once a b (Contains-In rs a x) (Contains-In rs b y);
  waits_last = last;
}

pub fit_of : (rs : List Request) → IsOrderly rs → Fit rs
fit_of rs orderly = record {
  one = orderly.one_each;
  pairs = λ a b in_a in_b at other. both_stand a.held b.held (λ m n x y.
      In-All (Agree (record { txn = a.txn; granule = a.granule; mode = m })) (held_by_all rs) (record { txn = b.txn; granule = b.granule; mode = n })
      (In-All (λ h. All (Agree h) (held_by_all rs)) (held_by_all rs) (record { txn = a.txn; granule = a.granule; mode = m }) orderly.together (holds rs a m in_a x))
      (holds rs b n in_b y) at other);
  of_use = λ a h. In-All IsOfUse rs a orderly.of_use h;
  rising = λ a h. In-All (λ r. Rises r.held r.wanted) rs a orderly.rising h;
  once = λ a b x y. orderly.waits_once a b (In-Contains rs a x) (In-Contains rs b y);
}

pub orderly_none : IsOrderly []
orderly_none = orderly_of [] (record { one = tt; pairs = λ a b x y e f. absurd x; of_use = λ a x. absurd x; rising = λ a x. absurd x; once = λ a b x y e f g. absurd x }) (λ g. tt) tt

-- a transaction begins to wait
pub orderly_placed : (t : ℕ) (g : Granule) (mode : Mode) (rs : List Request) → IsOrderly rs → is_waiting t rs ≡ false → is_some (obstacle (asking t g mode rs) rs) ≡ true → IsOrderly (placed_last (asking t g mode rs) rs)
orderly_placed t g mode rs orderly quiet stopped =
    let fit = fit_of rs orderly in
    orderly_of (placed_last (asking t g mode rs) rs) (Fit-placed t g mode rs fit quiet) (none_left_placed t g mode rs fit quiet stopped orderly.none_left)
    (last_placed (asking t g mode rs) rs orderly.waits_last (quiet_of t rs quiet))

-- it is granted at once
pub orderly_put : (t : ℕ) (g : Granule) (mode : Mode) (rs : List Request) → IsOrderly rs → is_waiting t rs ≡ false → obstacle (asking t g mode rs) rs ≡ None → IsOrderly (passed g (put (granted (asking t g mode rs)) rs))
orderly_put t g mode rs orderly quiet free =
    let r = granted (asking t g mode rs) in
    let fit = Fit-put t g mode rs (fit_of rs orderly) free in
    orderly_of (passed g (put (granted (asking t g mode rs)) rs)) (Fit-passed g (put (granted (asking t g mode rs)) rs) fit)
    (none_left_passed g (put (granted (asking t g mode rs)) rs) fit.one (λ h other. none_left_as h (put (granted (asking t g mode rs)) rs) rs (at_other_put h (granted (asking t g mode rs)) rs other) (orderly.none_left h)))
    (last_passed g (put (granted (asking t g mode rs)) rs) (last_put (granted (asking t g mode rs)) rs refl orderly.waits_last (quiet_of t rs quiet)))

-- a request goes
pub orderly_removed : (r : Request) (rs : List Request) → IsOrderly rs → IsOrderly (passed r.granule (removed r rs))
orderly_removed r rs orderly =
    let fit = Fit-filter (λ q. not (are_alike q r)) rs (fit_of rs orderly) in
    orderly_of (passed r.granule (removed r rs)) (Fit-passed r.granule (removed r rs) fit)
    (none_left_passed r.granule (removed r rs) fit.one (λ h other. none_left_as h (removed r rs) rs (at_other_removed h r rs other) (orderly.none_left h)))
    (last_passed r.granule (removed r rs) (last_filter (λ q. not (are_alike q r)) rs orderly.waits_last))

-- a conversion waits no more
pub orderly_withdrawn : (r : Request) (rs : List Request) → IsOrderly rs → In r rs → is_some r.held ≡ true → IsOrderly (passed r.granule (replaced (withdrawn r) rs))
orderly_withdrawn r rs orderly in_r holds =
    let fit = Fit-withdrawn rs r (fit_of rs orderly) in_r holds in
    orderly_of (passed r.granule (replaced (withdrawn r) rs)) (Fit-passed r.granule (replaced (withdrawn r) rs) fit)
    (none_left_passed r.granule (replaced (withdrawn r) rs) fit.one (λ h other. none_left_as h (replaced (withdrawn r) rs) rs (at_other_replaced h (withdrawn r) rs other) (orderly.none_left h)))
    (last_passed r.granule (replaced (withdrawn r) rs) (last_replaced (withdrawn r) rs refl orderly.waits_last))

pub cond_true : {A : Type 0} (b : Bool) (x y : A) → b ≡ true → cond b x y ≡ x
cond_true true x y e = refl
cond_true false x y e = cc

pub cond_false : {A : Type 0} (b : Bool) (x y : A) → b ≡ false → cond b x y ≡ y
cond_false true x y e = cc
cond_false false x y e = refl

pub orderly_taken_back : (r : Request) (rs : List Request) → IsOrderly rs → In r rs → IsOrderly (taken_back r rs)
orderly_taken_back r rs orderly in_r =
    ⊎_elim
    (λ holds. subst (λ xs. IsOrderly (passed r.granule xs)) (sym (cond_true (is_some r.held) (replaced (withdrawn r) rs) (removed r rs) holds)) (orderly_withdrawn r rs orderly in_r holds))
    (λ none. subst (λ xs. IsOrderly (passed r.granule xs)) (sym (cond_false (is_some r.held) (replaced (withdrawn r) rs) (removed r rs) none)) (orderly_removed r rs orderly))
    (either (is_some r.held))

orderly_taken_if : (o : Option Request) (rs : List Request) → IsOrderly rs → ((r : Request) → o ≡ Some r → In r rs) → IsOrderly (taken_back_if o rs)
orderly_taken_if None rs orderly there = orderly
orderly_taken_if (Some r) rs orderly there = orderly_taken_back r rs orderly (there r refl)

pub orderly_cancelled : (t : ℕ) (rs : List Request) → IsOrderly rs → IsOrderly (cancelled t rs)
orderly_cancelled t rs orderly = orderly_taken_if (waiting_request t rs) rs orderly (λ r is. (found_in (λ r. (r.txn == t) && is_some r.wanted) rs r is).0)

pub orderly_given_up : (mine rs : List Request) → IsOrderly rs → IsOrderly (given_up mine rs)
orderly_given_up [] rs orderly = orderly
orderly_given_up (r ∷ mine) rs orderly = orderly_given_up mine (passed r.granule (removed r rs)) (orderly_removed r rs orderly)

pub kept_taken_back : (limit : ℕ) (t : ℕ) (rs : List Request) (r : Request) → IsOrderlyWithin limit rs → waiting_request t rs ≡ Some r → IsOrderlyWithin limit (taken_back r rs)
kept_taken_back limit t rs r kept is =
    let short = length-taken_back r rs kept.orderly.one_each in
    record { orderly = orderly_taken_back r rs kept.orderly (found_in (λ r. (r.txn == t) && is_some r.wanted) rs r is).0; within = omega (arith, short, kept.within) }

pub kept_released : (limit : ℕ) (t : ℕ) (rs : List Request) → IsOrderlyWithin limit rs → IsOrderlyWithin limit (released t rs)
kept_released limit t rs kept =
    let short = length-given_up (requests_by t rs) rs kept.orderly.one_each in
    record { orderly = orderly_given_up (requests_by t rs) rs kept.orderly; within = omega (arith, short, kept.within) }

-- a table stays as it is kept, if a transaction begins to wait
pub kept_placed : (limit t : ℕ) (g : Granule) (mode : Mode) (rs : List Request) → IsOrderlyWithin limit rs → is_waiting t rs ≡ false → is_full (record { limit = limit; requests = rs }) t g ≡ false → is_some (obstacle (asking t g mode rs) rs) ≡ true
    → IsOrderlyWithin limit (placed_last (asking t g mode rs) rs)
kept_placed limit t g mode rs kept quiet room stopped = record {
  orderly = orderly_placed t g mode rs kept.orderly quiet stopped;
  within = length-placed_within (asking t g mode rs) rs limit kept.within room;
}

-- .. and if it is granted at once
pub kept_granted : (limit t : ℕ) (g : Granule) (mode : Mode) (rs : List Request) → IsOrderlyWithin limit rs → is_waiting t rs ≡ false → is_full (record { limit = limit; requests = rs }) t g ≡ false → obstacle (asking t g mode rs) rs ≡ None
    → IsOrderlyWithin limit (after_grant t g mode rs)
kept_granted limit t g mode rs kept quiet room free =
    let one = AreRequests-put (granted (asking t g mode rs)) rs kept.orderly.one_each in
    let same = length-passed g (put (granted (asking t g mode rs)) rs) one in
    let most = length-put_within (granted (asking t g mode rs)) rs limit kept.within room in
    record { orderly = orderly_put t g mode rs kept.orderly quiet free; within = omega (arith, same, most) }

-- a table with the same limit and these requests
pub kept_as : (old new : Table) (rs : List Request) → new.limit ≡ old.limit → new.requests ≡ rs → IsOrderlyWithin old.limit rs → IsOrderlyWithin new.limit new.requests
kept_as old new rs limit requests kept = subst (λ xs. IsOrderlyWithin new.limit xs) (sym requests) (subst (λ n. IsOrderlyWithin n rs) (sym limit) kept)

-- a request for which nobody is in the way
pub free_of : (table : Table) (t : ℕ) (g : Granule) (mode : Mode) (r : Request) → IsOrderlyWithin table.limit table.requests → is_waiting t table.requests ≡ false → MayAsk table t g mode → r ≡ asking t g mode table.requests
    → obstacle (asking t g mode table.requests) table.requests ≡ None → IsGrantable table r
free_of table t g mode r kept quiet may is free =
    subst (IsGrantable table) (sym is) (record {
      orderly = kept.orderly;
      quiet = quiet;
      finds_node = node_found table (asking t g mode table.requests) kept.within may.1;
      as_held = refl;
      wants = refl;
      rises = rises_to_wanted (mode_held t g table.requests) mode;
      free = free;
    })
