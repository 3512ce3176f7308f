-- What becomes of edges when a request is taken back, goes or is granted.
use Rattle.std.proofs.Common.{◌≡◌, ◌++◌, inl, inr, ⊎_elim, ℕ, List, [], ◌∷◌, true, false, Option, None, Some, refl, ap, sym, subst, ◌∙◌, append_assoc}
use Rattle.std.specs.Prelude.{not, ◌==◌, is_some, IsSomeAnd}
use Rattle.std.proofs.lemmas.Bool.Decides.{Decides-eqb}
use Rattle.std.proofs.lemmas.List.{append-nil}
use Rattle.std.proofs.lemmas.List.Elements.{filter-append}
use Rattle.std.specs.List.{list_any}
use Rattle.shore_types.specs.declared.locking.Granule.{Granule}
use Rattle.shore_types.specs.declared.locking.Mode.{Mode}
use Rattle.shore_types.specs.Locking.{same_granule}
use Rattle.shore_model.specs.declared.requests.Request.{Request}
use Rattle.shore_model.specs.declared.requests.Group.TheVariants.{Holders, Conversions, NewWaiters}
use Rattle.shore_model.specs.Modes.{grants}
use Rattle.shore_model.specs.Requests.{Before, IsRefusedBy, WaitsFor, AreRequests, are_alike, is_in_group, placed_last, queue_at, requests_at}
use Rattle.shore_locks.specs.Laws.{of_others}
use Rattle.shore_locks.specs.Tables.{waiters_at}
use Rattle.shore_locks.specs.Grants.{can_be_granted, granted, granted_in_turn, is_refused, passed, put, refuses, removed, replaced}
use Rattle.shore_locks.proofs.Members.{In, Contains-In, In-Contains, In-All, In-append, In-filter, either, filter-In, filter-all, filter-no, filter-swap}
use Rattle.shore_locks.proofs.Keys.{alike-Decides, alike-self, same_granule-Decides}
use Rattle.shore_locks.proofs.Passes.{AreRequests-waiters, In-waiters, filter_refused, first_granted}
use Rattle.shore_locks.proofs.Fits.{Fit, Fit-granted, In-replaced, any_of, granted_first, granted_none, wants_nothing}
use Rattle.shore_locks.proofs.Others.{put_in_place, put_last}
use Rattle.shore_locks.proofs.Unawaited.{Before-later, wants_of}
use Rattle.shore_cycles.proofs.Edges.{Edge, edge_of, group, queue-In, waits_apart, waits_of}

-- ---- the requests of others

others_alone : (t : ℕ) (r : Request) (rs : List Request) → r.txn ≡ t → removed r (of_others t rs) ≡ of_others t rs
others_alone t r rs by =
    filter-all (λ q. not (are_alike q r)) (of_others t rs)
    (λ q h. let other = (In-filter (λ x. not (x.txn == t)) rs q h).1 in
    ap not (⊎_elim (λ yes. absurd (let its = (Decides-eqb q.txn t).1 (((alike-Decides q r).0 yes).0 ∙ by) in let gone : not (q.txn == t) ≡ false = ap not its in cc)) (λ no. no) (either (are_alike q r))))

not_others : (t : ℕ) (r : Request) → r.txn ≡ t → not (r.txn == t) ≡ false
not_others t r by = ap not ((Decides-eqb r.txn t).1 by)

pub others-removed : (t : ℕ) (r : Request) (rs : List Request) → r.txn ≡ t → of_others t (removed r rs) ≡ of_others t rs
others-removed t r rs by = filter-swap (λ q. not (q.txn == t)) (λ q. not (are_alike q r)) rs ∙ others_alone t r rs by

pub others-replaced : (t : ℕ) (r : Request) (rs : List Request) → r.txn ≡ t → of_others t (replaced r rs) ≡ of_others t rs
others-replaced t r rs by = filter_refused (λ q. not (q.txn == t)) r (not_others t r by) rs ∙ others_alone t r rs by

others-last : (t : ℕ) (r : Request) (rs : List Request) → r.txn ≡ t → of_others t (rs ++ r ∷ []) ≡ of_others t rs
others-last t r rs by =
    filter-append (λ q. not (q.txn == t)) rs (r ∷ []) ∙ ap (λ xs. of_others t rs ++ xs) (filter-no (λ q. not (q.txn == t)) r [] (not_others t r by)) ∙ append-nil (of_others t rs)

pub others-placed : (t : ℕ) (r : Request) (rs : List Request) → r.txn ≡ t → of_others t (placed_last r rs) ≡ of_others t rs
others-placed t r rs by = others-last t r (removed r rs) by ∙ others-removed t r rs by

pub others-put : (t : ℕ) (r : Request) (rs : List Request) → r.txn ≡ t → of_others t (put r rs) ≡ of_others t rs
others-put t r rs by =
    ⊎_elim (λ yes. ap (of_others t) (put_in_place r rs yes) ∙ others-replaced t r rs by) (λ none. ap (of_others t) (put_last r rs none) ∙ others-last t r rs by)
    (either (list_any (λ q. are_alike q r) rs))

-- ---- one request in the place of one that waited

pub is_refused_of : (wanted held : Option Mode) → IsSomeAnd wanted (λ asked. IsSomeAnd held (λ mode. grants mode asked ≡ false)) → is_refused wanted held ≡ true
is_refused_of None held h = absurd h
is_refused_of (Some asked) None h = absurd h
is_refused_of (Some asked) (Some mode) h = ap not h

-- who waits wants something
pub waiter_wants : (rs : List Request) (t u : ℕ) (e : Edge rs t u) → is_some e.waiter.wanted ≡ true
waiter_wants rs t u e = ⊎_elim (λ refused. wants_of e.waiter.wanted e.other.held refused) (λ behind. behind.0) e.why

-- a request that waited wants nothing any more, and refuses nobody who did not wait for it: no edge is new
pub settled : (rs : List Request) (old new : Request) → Fit rs → In old rs → is_some old.wanted ≡ true → new.txn ≡ old.txn → new.granule ≡ old.granule → new.wanted ≡ None
    → ((x : Request) → In x rs → x.granule ≡ old.granule → (x.txn ≡ old.txn → ⊥) → IsRefusedBy x new → WaitsFor rs x.txn old.txn)
    → (a b : ℕ) → WaitsFor (replaced new rs) a b → WaitsFor rs a b
settled rs old new fit old_in old_wants by at still mild a b h =
    let e = edge_of (replaced new rs) a b h in
    let wants = waiter_wants (replaced new rs) a b e in
    -- one of the transaction that waits stood before, and is not the old one
    let stays : (q : Request) → q.txn ≡ old.txn → is_some q.wanted ≡ true → In q (replaced new rs) → ⊥ =
    λ q its q_wants q_in. ⊎_elim
    (λ same. wants_nothing q.wanted (ap (λ (x : Request). x.wanted) same ∙ still) q_wants)
    (λ stood. let one = fit.once q old stood.0 old_in its q_wants old_wants in
    let alike : are_alike q new ≡ true = (alike-Decides q new).1 (its ∙ sym by, ap (λ (x : Request). x.granule) one ∙ sym at) in
    let apart : are_alike q new ≡ false = stood.1 in cc)
    (In-replaced new rs q q_in) in
    let other_a : a ≡ old.txn → ⊥ = λ same. stays e.waiter (e.by ∙ same) wants e.waiter_in in
    let waiter_stood : In e.waiter rs =
    ⊎_elim (λ same. absurd (other_a (sym e.by ∙ ap (λ (x : Request). x.txn) same ∙ by))) (λ stood. stood.0) (In-replaced new rs e.waiter e.waiter_in) in
    ⊎_elim
    (λ same_b.
    let b_is : b ≡ old.txn = (Decides-eqb b old.txn).0 same_b in
    ⊎_elim
    (λ refused. ⊎_elim
    (λ same. subst (λ y. WaitsFor rs y b) e.by (subst (WaitsFor rs e.waiter.txn) (sym b_is)
    (mild e.waiter waiter_stood (sym e.beside ∙ ap (λ (x : Request). x.granule) same ∙ at) (λ its. other_a (sym e.by ∙ its)) (subst (IsRefusedBy e.waiter) same refused))))
    (λ stood. waits_of rs a b (record {
      apart = e.apart;
      waiter = e.waiter;
      other = e.other;
      by = e.by;
      upon = e.upon;
      beside = e.beside;
      waiter_in = waiter_stood;
      other_in = stood.0;
      why = inl refused;
    }))
    (In-replaced new rs e.other e.other_in))
    (λ behind. absurd (stays e.other (e.upon ∙ b_is) behind.1 e.other_in))
    e.why)
    (λ apart_b. waits_apart old.txn (replaced new rs) rs (others-replaced old.txn new rs by) a b other_a (λ same. let yes = (Decides-eqb b old.txn).1 same in cc) h)
    (either (b == old.txn))

-- ---- the first waiter of a queue

pub Before-In : (xs : List Request) (a b : Request) → Before xs a b → In a xs × In b xs
Before-In [] a b h = absurd h
Before-In (x ∷ xs) a b h =
    ⊎_elim (λ here. (inl here.0, inr (Contains-In xs b here.1))) (λ later. let both = Before-In xs a b later in (inr both.0, inr both.1)) h

pub before_right : (xs ys : List Request) (a b : Request) → Before ys a b → Before (xs ++ ys) a b
before_right [] ys a b h = h
before_right (x ∷ xs) ys a b h = inr (before_right xs ys a b h)

pub queue_parts : (g : Granule) (rs : List Request) → queue_at g rs ≡ group Holders g rs ++ waiters_at g rs
queue_parts g rs = append_assoc (group Holders g rs) (group Conversions g rs) (group NewWaiters g rs)

pub no_holder : (g : Granule) (rs : List Request) (q : Request) → is_some q.wanted ≡ true → In q (group Holders g rs) → ⊥
no_holder g rs q wants h = let idle : not (is_some q.wanted) ≡ true = (In-filter (is_in_group Holders) (requests_at g rs) q h).1 in let busy : not (is_some q.wanted) ≡ false = ap not wants in cc

-- of those that wait, one before another in the queue is so among the waiters
pub Before-waiters : (g : Granule) (rs : List Request) (a b : Request) → is_some a.wanted ≡ true → Before (queue_at g rs) a b → Before (waiters_at g rs) a b
Before-waiters g rs a b wants h =
    Before-later (group Holders g rs) (waiters_at g rs) a b (no_holder g rs a wants) (subst (λ qs. Before qs a b) (queue_parts g rs) h)

pub waiters-In : (g : Granule) (rs : List Request) (q : Request) → In q rs → q.granule ≡ g → is_some q.wanted ≡ true → In q (waiters_at g rs)
waiters-In g rs q there at wants =
    ⊎_elim (λ holds. absurd (no_holder g rs q wants holds)) (λ waits. waits)
    (In-append (group Holders g rs) (waiters_at g rs) q (subst (In q) (queue_parts g rs) (queue-In g rs q there at)))

-- a queue's first waiter, whom nobody refuses
pub record IsNext (g : Granule) (rs : List Request) (w : Request) (ws : List Request) : Type 0 where
  pub fit : Fit rs
  pub first : waiters_at g rs ≡ w ∷ ws
  pub free : can_be_granted w (requests_at w.granule rs) ≡ true

pub next_in : (g : Granule) (rs : List Request) (w : Request) (ws : List Request) → IsNext g rs w ws → In w rs × (w.granule ≡ g) × (is_some w.wanted ≡ true)
next_in g rs w ws next = In-waiters g rs w (subst (In w) (sym next.first) (inl refl))

-- waits for nobody
pub next_waits_not : (g : Granule) (rs : List Request) (w : Request) (ws : List Request) → IsNext g rs w ws → (u : ℕ) → WaitsFor rs w.txn u → ⊥
next_waits_not g rs w ws next u h =
    let e = edge_of rs w.txn u h in
    let there = next_in g rs w ws next in
    let same : e.waiter ≡ w = next.fit.once e.waiter w e.waiter_in there.0 e.by (waiter_wants rs w.txn u e) there.2 in
    let other : not (e.other.txn == w.txn) ≡ true = ⊎_elim (λ yes. absurd (e.apart (sym ((Decides-eqb e.other.txn w.txn).0 yes) ∙ e.upon))) (λ no. ap not no) (either (e.other.txn == w.txn)) in
    ⊎_elim
    (λ refused.
    let stops : is_refused w.wanted e.other.held ≡ true = is_refused_of w.wanted e.other.held (subst (λ (x : Request). IsRefusedBy x e.other) same refused) in
    let refusing : refuses w e.other ≡ true = rw other stops in
    let here : In e.other (requests_at w.granule rs) =
    filter-In (λ r. same_granule r.granule w.granule) rs e.other e.other_in ((same_granule-Decides e.other.granule w.granule).1 (e.beside ∙ ap (λ (x : Request). x.granule) same)) in
    let stopped : can_be_granted w (requests_at w.granule rs) ≡ false = ap not (any_of (refuses w) (requests_at w.granule rs) e.other here refusing) in
    let free = next.free in cc)
    (λ behind.
    let ahead : Before (waiters_at g rs) e.other w =
    subst (Before (waiters_at g rs) e.other) same (subst (λ k. Before (waiters_at k rs) e.other e.waiter) (ap (λ (x : Request). x.granule) same ∙ there.1) (Before-waiters e.waiter.granule rs e.other e.waiter behind.1 behind.2)) in
    ⊎_elim
    (λ first. e.apart (ap (λ (x : Request). x.txn) first.0 ∙ e.upon))
    (λ later.
    let ones = subst AreRequests next.first (AreRequests-waiters g rs next.fit.one) in
    let apart : are_alike w w ≡ false = In-All (λ o. are_alike w o ≡ false) ws w ones.0 (Before-In ws e.other w later).1 in
    let alike = alike-self w in cc)
    (subst (λ qs. Before qs e.other w) next.first ahead))
    e.why

-- its grant makes no edge
pub grant_adds_none : (g : Granule) (rs : List Request) (w : Request) (ws : List Request) → IsNext g rs w ws → (a b : ℕ) → WaitsFor (replaced (granted w) rs) a b → WaitsFor rs a b
grant_adds_none g rs w ws next =
    let there = next_in g rs w ws next in
    settled rs w (granted w) next.fit there.0 there.2 refl refl refl
    (λ x x_in at other refused.
    let wants = wants_of x.wanted w.wanted refused in
    let behind : In x ws = ⊎_elim (λ same. absurd (other (sym (ap (λ (q : Request). q.txn) same)))) (λ later. later) (subst (In x) next.first (waiters-In g rs x x_in (at ∙ there.1) wants)) in
    waits_of rs x.txn w.txn (record {
      apart = other;
      waiter = x;
      other = w;
      by = refl;
      upon = refl;
      beside = sym at;
      waiter_in = x_in;
      other_in = there.0;
      why = inr (
        wants,
        there.2,
        subst (λ k. Before (queue_at k rs) w x) (sym (at ∙ there.1)) (subst (λ qs. Before qs w x) (sym (queue_parts g rs))
            (before_right (group Holders g rs) (waiters_at g rs) w x (subst (λ qs. Before qs w x) (sym next.first) (inl (refl, In-Contains ws x behind))))),
      );
    }))

-- what each grant of a pass keeps, the pass keeps
pub pass_goes : (P : List Request → Type 0) (g : Granule) → ((rs : List Request) (w : Request) (ws : List Request) → IsNext g rs w ws → P rs → P (replaced (granted w) rs))
    → (ws rs : List Request) → Fit rs → waiters_at g rs ≡ ws → P rs → P (granted_in_turn ws rs)
pass_goes P g step [] rs fit are p = p
pass_goes P g step (w ∷ ws) rs fit are p =
    ⊎_elim
    (λ can. subst P (sym (granted_first w ws rs can))
    (pass_goes P g step ws (replaced (granted w) rs) (Fit-granted rs w fit (In-waiters g rs w (subst (In w) (sym are) (inl refl))).2 can) (first_granted g rs w ws fit.one are)
    (step rs w ws (record { fit = fit; first = are; free = can }) p)))
    (λ cannot. subst P (sym (granted_none w ws rs cannot)) p)
    (either (can_be_granted w (requests_at w.granule rs)))

-- a grant pass makes no edge
pub pass_adds_none : (g : Granule) (rs : List Request) → Fit rs → (a b : ℕ) → WaitsFor (passed g rs) a b → WaitsFor rs a b
pass_adds_none g rs fit =
    pass_goes (λ xs. (a b : ℕ) → WaitsFor xs a b → WaitsFor rs a b) g (λ xs w ws next from a b h. from a b (grant_adds_none g xs w ws next a b h))
    (waiters_at g rs) rs fit refl (λ a b h. h)
