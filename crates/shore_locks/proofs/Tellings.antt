-- Who is let through by a grant pass, and by passes one after another.
use Rattle.std.proofs.Common.{◌≡◌, ◌⊎◌, ◌++◌, ◌∷◌, [], inl, inr, ⊎_elim, ℕ, List, Bool, true, false, Option, None, Some, length, map, refl, ap, sym, subst, ◌∙◌}
use Rattle.std.specs.Prelude.{◌==◌, ◌&&◌, cond, filter, if◌then◌else◌, is_some, nat_lt, not, slice_get}
use Rattle.std.proofs.lemmas.Bool.Decides.{Decides-eqb}
use Rattle.shore_types.specs.declared.locking.Granule.{Granule}
use Rattle.shore_types.specs.declared.locking.Mode.{Mode}
use Rattle.shore_types.specs.Locking.{same_granule}
use Rattle.shore_model.specs.declared.requests.Request.{Request}
use Rattle.shore_model.specs.declared.requests.Group.TheVariants.{Conversions, NewWaiters}
use Rattle.shore_model.specs.Requests.{AreRequests, are_alike, is_in_group, requests_at, requests_by}
use Rattle.shore_nodes.specs.LetThrough.{Distinct, In, IsTold, LetsThrough, Tells, TellsFirst, TellsOthers, noted, noted_all}
use Rattle.shore_nodes.specs.declared.let_through.TheConstants.{MOST_TOLD}
use Rattle.shore_nodes.specs.Orderly.{IsOrderly}
use Rattle.shore_nodes.specs.Tables.{is_waiting, waiters_at, waiting_request}
use Rattle.shore_nodes.proofs.Entering.{both_true, found_in, none_waits}
use Rattle.shore_nodes.proofs.Fits.{Fit, Fit-filter, Fit-withdrawn, In-replaced, wants_nothing}
use Rattle.shore_nodes.proofs.Keys.{alike-Decides, alike-self, in_place, in_place-no, same_granule-Decides}
use Rattle.shore_nodes.proofs.LetThrough.{noted_after}
use Rattle.shore_nodes.proofs.Members as members
use Rattle.shore_nodes.proofs.Members.{In-All, All-In, either, filter-In}
use Rattle.shore_nodes.proofs.Others.{at_other_passed}
use Rattle.shore_nodes.proofs.Passes.{AreRequests-waiters, In-waiters, first_of}
use Rattle.shore_nodes.proofs.Waiting.{some_one}
use Rattle.shore_locks.specs.Grants.{cancelled, passed, released, removed, replaced, withdrawn}
use Rattle.shore_locks.specs.Laws.{of_others, owners}
use Rattle.shore_locks.proofs.LawLemmas.{released_own}
use Rattle.shore_locks.proofs.Outcomes.{grant_pass_only_grants, nobody_wants, quiet_after_cancel}
use Rattle.shore_locks.proofs.Quiets.{quiet_removed}
use Rattle.shore_locks.proofs.Tables.{fit_of, orderly_removed}

-- ---- lists of numbers

in_either : (ts us : List ℕ) (u : ℕ) → In u (ts ++ us) → In u ts ⊎ In u us
in_either [] us u h = inr h
in_either (t ∷ ts) us u h = ⊎_elim (λ e. inl (inl e)) (λ later. ⊎_elim (λ a. inl (inr a)) (λ b. inr b) (in_either ts us u later)) h

in_left : (ts us : List ℕ) (u : ℕ) → In u ts → In u (ts ++ us)
in_left [] us u h = absurd h
in_left (t ∷ ts) us u h = ⊎_elim (λ e. inl e) (λ later. inr (in_left ts us u later)) h

in_right : (ts us : List ℕ) (u : ℕ) → In u us → In u (ts ++ us)
in_right [] us u h = h
in_right (t ∷ ts) us u h = inr (in_right ts us u h)

distinct_both : (ts us : List ℕ) → Distinct ts → Distinct us → ((u : ℕ) → In u ts → In u us → ⊥) → Distinct (ts ++ us)
distinct_both [] us one two apart = two
distinct_both (t ∷ ts) us one two apart = (
  λ h. ⊎_elim one.0 (λ later. apart t (inl refl) later) (in_either ts us t h),
  distinct_both ts us one.1 two (λ u a b. apart u (inr a) b),
)

-- ---- who is told

told_more : (t : ℕ) (told : Option (List ℕ)) (u : ℕ) → IsTold u told → IsTold u (noted t told)
told_more t None u h = tt
told_more t (Some ts) u h =
    ⊎_elim
    (λ fits. subst (λ b. IsTold u (if b then Some (ts ++ t ∷ []) else None)) (sym fits) (in_left ts (t ∷ []) u h))
    (λ full. subst (λ b. IsTold u (if b then Some (ts ++ t ∷ []) else None)) (sym full) tt)
    (either (nat_lt (length ts) MOST_TOLD))

told_itself : (t : ℕ) (told : Option (List ℕ)) → IsTold t (noted t told)
told_itself t None = tt
told_itself t (Some ts) =
    ⊎_elim
    (λ fits. subst (λ b. IsTold t (if b then Some (ts ++ t ∷ []) else None)) (sym fits) (in_right ts (t ∷ []) t (inl refl)))
    (λ full. subst (λ b. IsTold t (if b then Some (ts ++ t ∷ []) else None)) (sym full) tt)
    (either (nat_lt (length ts) MOST_TOLD))

told_still : (ts : List ℕ) (told : Option (List ℕ)) (u : ℕ) → IsTold u told → IsTold u (noted_all ts told)
told_still [] told u h = h
told_still (t ∷ ts) told u h = told_still ts (noted t told) u (told_more t told u h)

-- each that was noted is told
pub told_all : (ts : List ℕ) (told : Option (List ℕ)) (u : ℕ) → In u ts → IsTold u (noted_all ts told)
told_all [] told u h = absurd h
told_all (t ∷ ts) told u h =
    ⊎_elim
    (λ e. told_still ts (noted t told) u (subst (λ x. IsTold x (noted t told)) e (told_itself t told)))
    (λ later. told_all ts (noted t told) u later)
    h

-- once there are others it stays so
pub others_still : (ts : List ℕ) → noted_all ts None ≡ None
others_still [] = refl
others_still (t ∷ ts) = others_still ts

-- ---- those of requests

abbrev pub txns_of : List Request → List ℕ
txns_of ws = map (λ (w : Request). w.txn) ws

in_txns : (ws : List Request) (u : ℕ) → In u (txns_of ws) → (w : Request) × members.In w ws × (w.txn ≡ u)
in_txns [] u h = absurd h
in_txns (w ∷ ws) u h = ⊎_elim (λ e. (w, inl refl, e)) (λ later. let r = in_txns ws u later in (r.0, inr r.1, r.2)) h

txn_in : (ws : List Request) (w : Request) → members.In w ws → In w.txn (txns_of ws)
txn_in [] w h = absurd h
txn_in (x ∷ ws) w h = ⊎_elim (λ e. inl (ap (λ (r : Request). r.txn) e)) (λ later. inr (txn_in ws w later)) h

front_apart : (xs ys : List Request) → AreRequests (xs ++ ys) → AreRequests xs
front_apart [] ys one = tt
front_apart (x ∷ xs) ys one = (
  All-In (λ o. are_alike x o ≡ false) xs (λ q h. In-All (λ o. are_alike x o ≡ false) (xs ++ ys) q one.0 (members.In-left xs ys q h)),
  front_apart xs ys one.1,
)

in_both : (xs ys : List Request) (w : Request) → AreRequests (xs ++ ys) → members.In w xs → members.In w ys → ⊥
in_both [] ys w one a b = a
in_both (x ∷ xs) ys w one a b =
    ⊎_elim
    (λ e. let apart : are_alike w w ≡ false = subst (λ q. are_alike q w ≡ false) e (In-All (λ o. are_alike x o ≡ false) (xs ++ ys) w one.0 (members.In-right xs ys w b)) in
    let f : true ≡ false = sym (alike-self w) ∙ apart in cc)
    (λ later. in_both xs ys w one.1 later b)
    a

numbers_apart : (g : Granule) (ws : List Request) → AreRequests ws → ((w : Request) → members.In w ws → w.granule ≡ g) → Distinct (txns_of ws)
numbers_apart g [] one at = tt
numbers_apart g (w ∷ ws) one at = (
  λ h. let q = in_txns ws w.txn h in
      let apart = In-All (λ o. are_alike w o ≡ false) ws q.0 one.0 q.1 in
      let f : true ≡ false = sym ((alike-Decides w q.0).1 (sym q.2, at w (inl refl) ∙ sym (at q.0 (inr q.1)))) ∙ apart in cc,
  numbers_apart g ws one.1 (λ q h. at q (inr h)),
)

-- ---- who waits

pub waits_so : (u : ℕ) (rs : List Request) (q : Request) → members.In q rs → q.txn ≡ u → is_some q.wanted ≡ true → is_waiting u rs ≡ true
waits_so u rs q h by wants = ⊎_elim (λ yes. yes) (λ no. absurd (none_waits u rs no q h by wants)) (either (is_waiting u rs))

pub waits_with : (u : ℕ) (rs : List Request) → is_waiting u rs ≡ true → (q : Request) × members.In q rs × (q.txn ≡ u) × (is_some q.wanted ≡ true)
waits_with u rs waits =
    let q = some_one (waiting_request u rs) waits in
    let found = found_in (λ r. (r.txn == u) && is_some r.wanted) rs q.0 q.1 in
    let both = both_true (q.0.txn == u) (is_some q.0.wanted) found.1 in
    (q.0, found.0, (Decides-eqb q.0.txn u).0 both.0, both.1)

converts : (held wanted : Option Mode) → is_some held ≡ true → is_some wanted ≡ true → (is_some held && is_some wanted) ≡ true
converts None wanted holds wants = cc
converts (Some m) wanted holds wants = wants

is_new : (held wanted : Option Mode) → is_some held ≡ false → is_some wanted ≡ true → (not (is_some held) && is_some wanted) ≡ true
is_new None wanted none wants = wants
is_new (Some m) wanted none wants = cc

pub waiter_in : (g : Granule) (rs : List Request) (w : Request) → members.In w rs → w.granule ≡ g → is_some w.wanted ≡ true → members.In w (waiters_at g rs)
waiter_in g rs w h at wants =
    let here = filter-In (λ r. same_granule r.granule g) rs w h ((same_granule-Decides w.granule g).1 at) in
    let cs = filter (is_in_group Conversions) (requests_at g rs) in
    let ns = filter (is_in_group NewWaiters) (requests_at g rs) in
    ⊎_elim
    (λ holds. members.In-left cs ns w (filter-In (is_in_group Conversions) (requests_at g rs) w here (converts w.held w.wanted holds wants)))
    (λ none. members.In-right cs ns w (filter-In (is_in_group NewWaiters) (requests_at g rs) w here (is_new w.held w.wanted none wants)))
    (either (is_some w.held))

-- ---- a pass

module _ (g : Granule) (rs : List Request) (fit : Fit rs) (ws : List Request) (first : waiters_at g rs ≡ ws ++ waiters_at g (passed g rs)) where
  apart : AreRequests (ws ++ waiters_at g (passed g rs))
  apart = subst AreRequests first (AreRequests-waiters g rs fit.one)

  waited : (w : Request) → members.In w ws → members.In w rs × (w.granule ≡ g) × (is_some w.wanted ≡ true)
  waited w h = In-waiters g rs w (subst (members.In w) (sym first) (members.In-left ws (waiters_at g (passed g rs)) w h))

  stood : (q : Request) → members.In q (passed g rs) → is_some q.wanted ≡ true → members.In q rs
  stood q h wants = ⊎_elim (λ was. was) (λ made. absurd (wants_nothing q.wanted (ap (λ (x : Request). x.wanted) made.2) wants)) (grant_pass_only_grants g rs fit.one q h)

  waits_no_more : (w : Request) → members.In w ws → is_waiting w.txn (passed g rs) ≡ false
  waits_no_more w h = nobody_wants w.txn (passed g rs) (λ q there by wants.
      let was = waited w h in
      let same : q ≡ w = fit.once q w (stood q there wants) was.0 by wants was.2 in
      in_both ws (waiters_at g (passed g rs)) w apart h (waiter_in g (passed g rs) w (subst (λ x. members.In x (passed g rs)) same there) was.1 was.2))

  elsewhere : (q : Request) → members.In q rs → same_granule q.granule g ≡ false → members.In q (passed g rs)
  elsewhere q h other =
      let same = at_other_passed q.granule g rs fit.one (λ e. let f : true ≡ false = sym ((same_granule-Decides q.granule g).1 (sym e)) ∙ other in cc) in
      (members.In-filter (λ r. same_granule r.granule q.granule) (passed g rs) q
      (subst (members.In q) (sym same) (filter-In (λ r. same_granule r.granule q.granule) rs q h ((same_granule-Decides q.granule q.granule).1 refl)))).0

  among : (u : ℕ) → is_waiting u rs ≡ true → is_waiting u (passed g rs) ≡ false → In u (txns_of ws)
  among u waits quiet =
      let q = waits_with u rs waits in
      ⊎_elim
      (λ here. ⊎_elim
      (λ granted. subst (λ t. In t (txns_of ws)) q.2 (txn_in ws q.0 granted))
      (λ later. absurd (none_waits u (passed g rs) quiet q.0 (In-waiters g (passed g rs) q.0 later).0 q.2 q.3))
      (members.In-append ws (waiters_at g (passed g rs)) q.0 (subst (members.In q.0) first (waiter_in g rs q.0 q.1 ((same_granule-Decides q.0.granule g).0 here) q.3))))
      (λ other. absurd (none_waits u (passed g rs) quiet q.0 (elsewhere q.0 q.1 other) q.2 q.3))
      (either (same_granule q.0.granule g))

  pub pass_lets_through : LetsThrough rs (passed g rs) (txns_of ws)
  pass_lets_through = record {
    each = λ u. (
      λ h. let w = in_txns ws u h in
          let was = waited w.0 w.1 in
          (waits_so u rs w.0 was.0 w.2 was.2, subst (λ t. is_waiting t (passed g rs) ≡ false) w.2 (waits_no_more w.0 w.1)),
      λ both. among u both.0 both.1,
    );
    once = numbers_apart g ws (front_apart ws (waiters_at g (passed g rs)) apart) (λ w h. (waited w h).1);
  }

-- ---- a pass after a request of one transaction has gone, or waits no more

others_through : (t : ℕ) (g : Granule) (rs mid : List Request) (told now : Option (List ℕ)) → Fit mid → TellsFirst g mid (passed g mid) told now
    → ((u : ℕ) → (u ≡ t → ⊥) → is_waiting u rs ≡ is_waiting u mid)
    → ((q : Request) → members.In q mid → q.granule ≡ g → q.txn ≡ t → is_some q.wanted ≡ true → ⊥) → TellsOthers t rs (passed g mid) told now
others_through t g rs mid told now fit tells alike none =
    let whole = pass_lets_through g mid fit tells.0 tells.1 in (
      txns_of tells.0,
      record {
        each = λ u. (
          λ h. let w = in_txns tells.0 u h in
              let was = In-waiters g mid w.0 (subst (members.In w.0) (sym tells.1) (members.In-left tells.0 (waiters_at g (passed g mid)) w.0 w.1)) in
              let other : u ≡ t → ⊥ = λ e. none w.0 was.0 was.1 (w.2 ∙ e) was.2 in
              let both = (whole.each u).0 h in
              (other, alike u other ∙ both.0, both.1),
          λ h. (whole.each u).1 (sym (alike u h.0) ∙ h.1, h.2),
        );
        once = whole.once;
      },
      tells.2,
    )

-- the others wait as before, if each request that waits stood there, and each of theirs is there still
unmoved : (t : ℕ) (rs mid : List Request) → ((q : Request) → members.In q mid → is_some q.wanted ≡ true → members.In q rs) → ((q : Request) → members.In q rs → (q.txn ≡ t → ⊥) → members.In q mid)
    → (u : ℕ) → (u ≡ t → ⊥) → is_waiting u rs ≡ is_waiting u mid
unmoved t rs mid back on u other =
    ⊎_elim
    (λ yes. let q = waits_with u rs yes in yes ∙ sym (waits_so u mid q.0 (on q.0 q.1 (λ e. other (sym q.2 ∙ e))) q.2 q.3))
    (λ no. no ∙ sym (nobody_wants u mid (λ q h by wants. none_waits u rs no q (back q h wants) by wants)))
    (either (is_waiting u rs))

unlike : (q r : Request) → (q.txn ≡ r.txn → ⊥) → are_alike q r ≡ false
unlike q r other = ⊎_elim (λ yes. absurd (other ((alike-Decides q r).0 yes).0)) (λ no. no) (either (are_alike q r))

pub stays_in : (r q : Request) (rs : List Request) → are_alike q r ≡ false → members.In q rs → members.In q (replaced r rs)
stays_in r q [] unlike_it h = absurd h
stays_in r q (x ∷ rs) unlike_it h =
    ⊎_elim (λ e. inl (ap (in_place r) e ∙ in_place-no r q unlike_it)) (λ later. inr (stays_in r q rs unlike_it later)) h

none_alike : (q r : Request) → are_alike q r ≡ false → q.granule ≡ r.granule → q.txn ≡ r.txn → ⊥
none_alike q r apart at by = let f : true ≡ false = sym ((alike-Decides q r).1 (by, at)) ∙ apart in cc

apart_of : (q r : Request) → not (are_alike q r) ≡ true → are_alike q r ≡ false
apart_of q r e = ⊎_elim (λ yes. absurd (let f : not (are_alike q r) ≡ false = ap not yes in cc)) (λ no. no) (either (are_alike q r))

pub removed_tells : (t : ℕ) (r : Request) (rs : List Request) (told now : Option (List ℕ)) → Fit rs → r.txn ≡ t → TellsFirst r.granule (removed r rs) (passed r.granule (removed r rs)) told now
    → TellsOthers t rs (passed r.granule (removed r rs)) told now
removed_tells t r rs told now fit by tells =
    others_through t r.granule rs (removed r rs) told now (Fit-filter (λ q. not (are_alike q r)) rs fit) tells
    (unmoved t rs (removed r rs) (λ q h wants. (members.In-filter (λ x. not (are_alike x r)) rs q h).0) (λ q h other. filter-In (λ x. not (are_alike x r)) rs q h (ap not (unlike q r (λ e. other (e ∙ by))))))
    (λ q h at same wants. none_alike q r (apart_of q r (members.In-filter (λ x. not (are_alike x r)) rs q h).1) at (same ∙ sym by))

withdrawn_tells : (r : Request) (rs : List Request) (told now : Option (List ℕ)) → Fit rs → members.In r rs → is_some r.held ≡ true → TellsFirst r.granule (replaced (withdrawn r) rs) (passed r.granule (replaced (withdrawn r) rs)) told now
    → TellsOthers r.txn rs (passed r.granule (replaced (withdrawn r) rs)) told now
withdrawn_tells r rs told now fit there holds tells =
    let nothing : (q : Request) → q ≡ withdrawn r → is_some q.wanted ≡ true → ⊥ = λ q e wants. wants_nothing q.wanted (ap (λ (x : Request). x.wanted) e) wants in
    others_through r.txn r.granule rs (replaced (withdrawn r) rs) told now (Fit-withdrawn rs r fit there holds) tells
    (unmoved r.txn rs (replaced (withdrawn r) rs) (λ q h wants. ⊎_elim (λ e. absurd (nothing q e wants)) (λ was. was.0) (In-replaced (withdrawn r) rs q h)) (λ q h other. stays_in (withdrawn r) q rs (unlike q (withdrawn r) other) h))
    (λ q h at same wants. ⊎_elim (λ e. nothing q e wants) (λ was. none_alike q (withdrawn r) was.1 at same) (In-replaced (withdrawn r) rs q h))

abbrev stopped : Bool → Request → List Request → List Request
stopped b r rs = cond b (replaced (withdrawn r) rs) (removed r rs)

stopped_tells : (b : Bool) (r : Request) (rs : List Request) (told now : Option (List ℕ)) → is_some r.held ≡ b → Fit rs → members.In r rs → TellsFirst r.granule (stopped b r rs) (passed r.granule (stopped b r rs)) told now
    → TellsOthers r.txn rs (passed r.granule (stopped b r rs)) told now
stopped_tells true r rs told now is fit there tells = withdrawn_tells r rs told now fit there is tells
stopped_tells false r rs told now is fit there tells = removed_tells r.txn r rs told now fit refl tells

pub taken_back_tells : (t : ℕ) (r : Request) (rs : List Request) (told now : Option (List ℕ)) → IsOrderly rs → waiting_request t rs ≡ Some r
    → TellsFirst r.granule (stopped (is_some r.held) r rs) (passed r.granule (stopped (is_some r.held) r rs)) told now → TellsOthers r.txn rs (passed r.granule (stopped (is_some r.held) r rs)) told now
taken_back_tells t r rs told now orderly is tells =
    stopped_tells (is_some r.held) r rs told now refl (fit_of rs orderly) (found_in (λ q. (q.txn == t) && is_some q.wanted) rs r is).0 tells

-- ---- one after another

pub nobody_told : (rs : List Request) (told : Option (List ℕ)) → Tells rs rs told told
nobody_told rs told = ([], record { each = λ u. (λ h. absurd h, λ both. absurd (let f : true ≡ false = sym both.0 ∙ both.1 in cc)); once = tt }, refl)

pub no_others_told : (t : ℕ) (rs : List Request) (told : Option (List ℕ)) → TellsOthers t rs rs told told
no_others_told t rs told = ([], record { each = λ u. (λ h. absurd h, λ both. absurd (let f : true ≡ false = sym both.1 ∙ both.2 in cc)); once = tt }, refl)

-- who does not wait does not begin to
abbrev pub Quiet : List Request → List Request → Type 0
Quiet old new = (u : ℕ) → is_waiting u old ≡ false → is_waiting u new ≡ false

waited_before : (old new : List Request) (u : ℕ) → Quiet old new → is_waiting u new ≡ true → is_waiting u old ≡ true
waited_before old new u quiet waits = ⊎_elim (λ yes. yes) (λ no. absurd (let f : true ≡ false = sym waits ∙ quiet u no in cc)) (either (is_waiting u old))

not_both : (rs : List Request) (u : ℕ) → is_waiting u rs ≡ true → is_waiting u rs ≡ false → ⊥
not_both rs u waits quiet = let f : true ≡ false = sym waits ∙ quiet in cc

pub others_told_on : (t : ℕ) (a b c : List Request) (told now last : Option (List ℕ)) → Quiet a b → Quiet b c → TellsOthers t a b told now → TellsOthers t b c now last → TellsOthers t a c told last
others_told_on t a b c told now last quiet_b quiet_c first second = (
  first.0 ++ second.0,
  record {
    each = λ u. (
      λ h. ⊎_elim
          (λ x. let its = (first.1.each u).0 x in (its.0, its.1, quiet_c u its.2))
          (λ y. let its = (second.1.each u).0 y in (its.0, waited_before a b u quiet_b its.1, its.2))
          (in_either first.0 second.0 u h),
      λ h. ⊎_elim
          (λ still. in_right first.0 second.0 u ((second.1.each u).1 (h.0, still, h.2)))
          (λ gone. in_left first.0 second.0 u ((first.1.each u).1 (h.0, h.1, gone)))
          (either (is_waiting u b)),
    );
    once = distinct_both first.0 second.0 first.1.once second.1.once (λ u x y. not_both b u ((second.1.each u).0 y).1 ((first.1.each u).0 x).2);
  },
  second.2 ∙ ap (noted_all second.0) first.2 ∙ sym (noted_after first.0 second.0 told),
)

pub told_on : (a b c : List Request) (told now last : Option (List ℕ)) → Quiet a b → Quiet b c → Tells a b told now → Tells b c now last → Tells a c told last
told_on a b c told now last quiet_b quiet_c first second = (
  first.0 ++ second.0,
  record {
    each = λ u. (
      λ h. ⊎_elim
          (λ x. let its = (first.1.each u).0 x in (its.0, quiet_c u its.1))
          (λ y. let its = (second.1.each u).0 y in (waited_before a b u quiet_b its.0, its.1))
          (in_either first.0 second.0 u h),
      λ h. ⊎_elim
          (λ still. in_right first.0 second.0 u ((second.1.each u).1 (still, h.1)))
          (λ gone. in_left first.0 second.0 u ((first.1.each u).1 (h.0, gone)))
          (either (is_waiting u b)),
    );
    once = distinct_both first.0 second.0 first.1.once second.1.once (λ u x y. not_both b u ((second.1.each u).0 y).0 ((first.1.each u).0 x).1);
  },
  second.2 ∙ ap (noted_all second.0) first.2 ∙ sym (noted_after first.0 second.0 told),
)

-- ---- with the transaction itself

same_or_other : (u t : ℕ) → (u ≡ t) ⊎ (u ≡ t → ⊥)
same_or_other u t = ⊎_elim (λ yes. inl ((Decides-eqb u t).0 yes)) (λ no. inr (λ e. let f : true ≡ false = sym ((Decides-eqb u t).1 e) ∙ no in cc)) (either (u == t))

pub with_itself : (t : ℕ) (old new : List Request) (told now : Option (List ℕ)) → is_waiting t old ≡ true → is_waiting t new ≡ false → TellsOthers t old new (noted t told) now → Tells old new told now
with_itself t old new told now waits quiet others = (
  t ∷ others.0,
  record {
    each = λ u. (
      λ h. ⊎_elim
          (λ e. (subst (λ x. is_waiting x old ≡ true) e waits, subst (λ x. is_waiting x new ≡ false) e quiet))
          (λ later. let its = (others.1.each u).0 later in (its.1, its.2))
          h,
      λ both. ⊎_elim (λ same. inl (sym same)) (λ other. inr ((others.1.each u).1 (other, both.0, both.1))) (same_or_other u t),
    );
    once = (λ h. ((others.1.each t).0 h).0 refl, others.1.once);
  },
  others.2,
)

pub without_itself : (t : ℕ) (old new : List Request) (told now : Option (List ℕ)) → is_waiting t old ≡ false → TellsOthers t old new told now → Tells old new told now
without_itself t old new told now quiet others = (
  others.0,
  record {
    each = λ u. (
      λ h. let its = (others.1.each u).0 h in (its.1, its.2),
      λ both. (others.1.each u).1 (λ e. not_both old u both.0 (subst (λ x. is_waiting x old ≡ false) (sym e) quiet), both.0, both.1),
    );
    once = others.1.once;
  },
  others.2,
)

-- ---- a release of all, request by request

-- how far it has come
abbrev pub IsReleasing : ℕ → List Request → Option (List ℕ) → List Request → Option (List ℕ) → Type 0
IsReleasing t first told rs now = IsOrderly rs × Quiet first rs × TellsOthers t first rs told now

pub releases_on : (t : ℕ) (first rs : List Request) (r : Request) (told now last : Option (List ℕ)) → Some r ≡ slice_get (requests_by t rs) 0 → TellsFirst r.granule (removed r rs) (passed r.granule (removed r rs)) now last
    → IsReleasing t first told rs now → IsReleasing t first told (passed r.granule (removed r rs)) last
releases_on t first rs r told now last is tells so_far =
    let there = members.In-filter (λ q. q.txn == t) rs r (subst (members.In r) (sym (first_of (requests_by t rs) r is)) (inl refl)) in
    let quiet : Quiet rs (passed r.granule (removed r rs)) = λ u none. quiet_removed u r rs so_far.0.one_each none in (
      orderly_removed r rs so_far.0,
      λ u none. quiet u (so_far.1 u none),
      others_told_on t first rs (passed r.granule (removed r rs)) told now last so_far.1 quiet so_far.2
          (removed_tells t r rs now last (fit_of rs so_far.0) ((Decides-eqb r.txn t).0 there.1) tells),
    )

pub releases_from : (t : ℕ) (rs : List Request) (told : Option (List ℕ)) → IsOrderly rs → IsReleasing t rs told rs told
releases_from t rs told orderly = (orderly, λ u none. none, no_others_told t rs told)

owner_of : (p : ℕ × Granule) (rs : List Request) → members.In p (owners rs) → (q : Request) × members.In q rs × (q.txn ≡ p.0)
owner_of p [] h = absurd h
owner_of p (r ∷ rs) h = ⊎_elim (λ e. (r, inl refl, ap (λ (x : ℕ × Granule). x.0) e)) (λ later. let q = owner_of p rs later in (q.0, inr q.1, q.2)) h

in_owners : (q : Request) (rs : List Request) → members.In q rs → members.In (q.txn, q.granule) (owners rs)
in_owners q [] h = absurd h
in_owners q (r ∷ rs) h = ⊎_elim (λ e. inl (ap (λ (x : Request). (x.txn, x.granule)) e)) (λ later. inr (in_owners q rs later)) h

-- who has given up all waits no more
pub quiet_itself : (t : ℕ) (rs : List Request) → AreRequests rs → is_waiting t (released t rs) ≡ false
quiet_itself t rs one = nobody_wants t (released t rs) (λ q h by wants.
    let other = owner_of (q.txn, q.granule) (of_others t rs) (subst (members.In (q.txn, q.granule)) (released_own rs t one) (in_owners q (released t rs) h)) in
    let apart = (members.In-filter (λ r. not (r.txn == t)) rs other.0 other.1).1 in
    let same = (Decides-eqb other.0.txn t).1 (other.2 ∙ by) in
    let f : true ≡ false = sym apart ∙ ap not same in cc)

-- ---- what a cancel and a release of all tell

pub its_own : (t : ℕ) (r : Request) (rs : List Request) → waiting_request t rs ≡ Some r → r.txn ≡ t
its_own t r rs is = (Decides-eqb r.txn t).0 (both_true (r.txn == t) (is_some r.wanted) (found_in (λ q. (q.txn == t) && is_some q.wanted) rs r is).1).0

pub cancel_tells : (t : ℕ) (r : Request) (rs : List Request) (told now : Option (List ℕ)) → IsOrderly rs → waiting_request t rs ≡ Some r → TellsOthers r.txn rs (cancelled t rs) (noted t told) now → Tells rs (cancelled t rs) told now
cancel_tells t r rs told now orderly is others =
    with_itself t rs (cancelled t rs) told now (ap is_some is) (quiet_after_cancel t rs orderly)
    (subst (λ u. TellsOthers u rs (cancelled t rs) (noted t told) now) (its_own t r rs is) others)

pub release_tells_itself : (t : ℕ) (rs : List Request) (told now : Option (List ℕ)) → IsOrderly rs → is_waiting t rs ≡ true → TellsOthers t rs (released t rs) (noted t told) now → Tells rs (released t rs) told now
release_tells_itself t rs told now orderly waits others = with_itself t rs (released t rs) told now waits (quiet_itself t rs orderly.one_each) others
