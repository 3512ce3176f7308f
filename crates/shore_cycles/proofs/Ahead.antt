-- Those whom `blockers` lists are just those for whom a transaction waits.
use Rattle.std.proofs.Common.{◌≡◌, ◌++◌, inl, inr, ⊎_elim, ℕ, List, [], ◌∷◌, true, false, Option, None, Some, refl, ap, sym, subst, ◌∙◌}
use Rattle.std.specs.Prelude.{not, ◌==◌, is_some, IsSomeAnd}
use Rattle.std.proofs.lemmas.Bool.Decides.{Decides-eqb}
use Rattle.shore_types.specs.declared.locking.Granule.{Granule}
use Rattle.shore_model.specs.declared.requests.Request.{Request}
use Rattle.shore_model.specs.declared.requests.Group.TheVariants.{Holders}
use Rattle.shore_types.specs.declared.locking.Mode.{Mode}
use Rattle.shore_model.specs.Modes.{grants}
use Rattle.shore_model.specs.Requests.{AreRequests, Before, IsRefusedBy, WaitsFor, are_alike}
use Rattle.shore_locks.specs.Tables.{holders_at, waiters_at, waiting_request}
use Rattle.shore_locks.specs.Grants.{is_refused, refuses}
use Rattle.shore_locks.proofs.Members.{In, Contains-In, In-All, In-Contains, In-append, In-left, In-right, either}
use Rattle.shore_locks.proofs.Keys.{alike-Decides, alike-self, only_one}
use Rattle.shore_locks.proofs.Passes.{AreRequests-waiters, In-waiters}
use Rattle.shore_locks.proofs.Fits.{Fit, no_of}
use Rattle.shore_locks.proofs.Entering.{both_true, none_waits}
use Rattle.shore_locks.proofs.LawLemmas.{refused_means}
use Rattle.shore_cycles.specs.Blockers.{ahead, blockers, refusing, stoppers}
use Rattle.shore_cycles.proofs.Edges.{edge_of, group, of_group, queue-In, waits_of, clash}
use Rattle.shore_cycles.proofs.Changes.{Before-In, Before-waiters, before_right, is_refused_of, queue_parts, no_holder, waiter_wants}
use Rattle.shore_cycles.proofs.Steps.{Waits, waits_as}
use Rattle.shore_cycles.specs.Searching.{ShareQueue}

-- ---- those that refuse

record Refuses (w : Request) (others : List Request) (u : ℕ) : Type 0 where
  other : Request
  there : In other others
  upon : other.txn ≡ u
  refused : refuses w other ≡ true

refuses_more : (w o : Request) (others : List Request) (u : ℕ) → Refuses w others u → Refuses w (o ∷ others) u
refuses_more w o others u r = record { other = r.other; there = inr r.there; upon = r.upon; refused = r.refused }

refusing_yes : (w o : Request) (others : List Request) → refuses w o ≡ true → refusing w (o ∷ others) ≡ o.txn ∷ refusing w others
refusing_yes w o others refused = rw refused refl

refusing_no : (w o : Request) (others : List Request) → refuses w o ≡ false → refusing w (o ∷ others) ≡ refusing w others
refusing_no w o others granted = rw granted refl

all_refuse : (w : Request) (others : List Request) (u : ℕ) → In u (refusing w others) → Refuses w others u
all_refuse w [] u h = absurd h
all_refuse w (o ∷ others) u h =
    ⊎_elim
    (λ yes. ⊎_elim (λ same. record { other = o; there = inl refl; upon = same; refused = yes }) (λ later. refuses_more w o others u (all_refuse w others u later))
    (subst (In u) (refusing_yes w o others yes) h))
    (λ no. refuses_more w o others u (all_refuse w others u (subst (In u) (refusing_no w o others no) h)))
    (either (refuses w o))

refusing_In : (w : Request) (others : List Request) (o : Request) → In o others → refuses w o ≡ true → In o.txn (refusing w others)
refusing_In w [] o h refused = absurd h
refusing_In w (q ∷ others) o h refused =
    ⊎_elim
    (λ same.
    let yes : refuses w q ≡ true = ap (refuses w) same ∙ refused in
    subst (In o.txn) (sym (refusing_yes w q others yes)) (inl (ap (λ (x : Request). x.txn) same)))
    (λ later.
    let rest = refusing_In w others o later refused in
    ⊎_elim (λ yes. subst (In o.txn) (sym (refusing_yes w q others yes)) (inr rest)) (λ no. subst (In o.txn) (sym (refusing_no w q others no)) rest) (either (refuses w q)))
    h

-- ---- those ahead

ahead_own : (w q : Request) (qs : List Request) → (q.txn == w.txn) ≡ true → ahead w (q ∷ qs) ≡ []
ahead_own w q qs own = rw own refl

ahead_other : (w q : Request) (qs : List Request) → (q.txn == w.txn) ≡ false → ahead w (q ∷ qs) ≡ q.txn ∷ ahead w qs
ahead_other w q qs other = rw other refl

-- who is listed stands before the waiter
listed_before : (w : Request) (qs : List Request) (u : ℕ) → In w qs → In u (ahead w qs) → (q : Request) × Before qs q w × (q.txn ≡ u)
listed_before w [] u there h = absurd there
listed_before w (q ∷ qs) u there h =
    ⊎_elim
    (λ own. absurd (subst (In u) (ahead_own w q qs own) h))
    (λ other.
    let later : In w qs = ⊎_elim (λ same. absurd (let own = (Decides-eqb q.txn w.txn).1 (ap (λ (x : Request). x.txn) same) in clash own other)) (λ l. l) there in
    ⊎_elim
    (λ same. (q, inl (refl, In-Contains qs w later), same))
    (λ more. let r = listed_before w qs u later more in (r.0, inr r.1, r.2))
    (subst (In u) (ahead_other w q qs other) h))
    (either (q.txn == w.txn))

Before_unlike : (xs : List Request) (a b : Request) → AreRequests xs → Before xs a b → are_alike a b ≡ false
Before_unlike [] a b one h = absurd h
Before_unlike (x ∷ xs) a b one h =
    ⊎_elim (λ here. subst (λ (y : Request). are_alike y b ≡ false) here.0 (In-All (λ o. are_alike x o ≡ false) xs b one.0 (Contains-In xs b here.1))) (λ later. Before_unlike xs a b one.1 later) h

apart_in : (g : Granule) (qs : List Request) (w q : Request) → AreRequests qs → ((x : Request) → In x qs → x.granule ≡ g) → Before qs q w → (q.txn == w.txn) ≡ false
apart_in g qs w q one at before =
    let both = Before-In qs q w before in
    let unlike = Before_unlike qs q w one before in
    ⊎_elim
    (λ yes. absurd (let alike = (alike-Decides q w).1 ((Decides-eqb q.txn w.txn).0 yes, at q both.0 ∙ sym (at w both.1)) in clash alike unlike))
    (λ no. no)
    (either (q.txn == w.txn))

-- .. and who stands before the waiter is listed
before_listed : (g : Granule) (qs : List Request) (w o : Request) → AreRequests qs → ((x : Request) → In x qs → x.granule ≡ g) → Before qs o w → In o.txn (ahead w qs)
before_listed g [] w o one at h = absurd h
before_listed g (q ∷ qs) w o one at h =
    ⊎_elim
    (λ here.
    let other = apart_in g (q ∷ qs) w q one at (inl (refl, here.1)) in
    subst (In o.txn) (sym (ahead_other w q qs other)) (inl (ap (λ (x : Request). x.txn) here.0)))
    (λ later.
    let w_in = (Before-In qs o w later).1 in
    let other = apart_in g (q ∷ qs) w q one at (inl (refl, In-Contains qs w w_in)) in
    subst (In o.txn) (sym (ahead_other w q qs other)) (inr (before_listed g qs w o one.1 (λ x k. at x (inr k)) later)))
    h

-- ---- nobody else is listed

refusal_waits : (rs : List Request) (w o : Request) → In w rs → In o rs → o.granule ≡ w.granule → refuses w o ≡ true → WaitsFor rs w.txn o.txn
refusal_waits rs w o w_in o_in at refused =
    let both = both_true (not (o.txn == w.txn)) (is_refused w.wanted o.held) refused in
    waits_of rs w.txn o.txn (record {
      apart = λ same. (let yes = (Decides-eqb o.txn w.txn).1 (sym same) in let no : (o.txn == w.txn) ≡ false = no_of (o.txn == w.txn) both.0 in cc);
      waiter = w;
      other = o;
      waiter_in = w_in;
      other_in = o_in;
      by = refl;
      upon = refl;
      beside = at;
      why = inl (refused_means w.wanted o.held both.1);
    })

ahead_waits : (rs : List Request) (w o : Request) → Fit rs → In w rs → is_some w.wanted ≡ true → Before (waiters_at w.granule rs) o w → WaitsFor rs w.txn o.txn
ahead_waits rs w o fit w_in wants before =
    let there = In-waiters w.granule rs o (Before-In (waiters_at w.granule rs) o w before).0 in
    let unlike = Before_unlike (waiters_at w.granule rs) o w (AreRequests-waiters w.granule rs fit.one) before in
    waits_of rs w.txn o.txn (record {
      apart = λ same. (let alike = (alike-Decides o w).1 (sym same, there.1) in let other = unlike in clash alike other);
      waiter = w;
      other = o;
      waiter_in = w_in;
      other_in = there.0;
      by = refl;
      upon = refl;
      beside = there.1;
      why = inr (wants, there.2, subst (λ qs. Before qs o w) (sym (queue_parts w.granule rs)) (before_right (group Holders w.granule rs) (waiters_at w.granule rs) o w before));
    })

waits_in_queue : (rs : List Request) (t : ℕ) (w : Request) → Waits t rs w → In w (waiters_at w.granule rs)
waits_in_queue rs t w waits =
    ⊎_elim (λ holds. absurd (no_holder w.granule rs w waits.wants holds)) (λ h. h)
    (In-append (group Holders w.granule rs) (waiters_at w.granule rs) w (subst (In w) (queue_parts w.granule rs) (queue-In w.granule rs w waits.there refl)))

stoppers_sound : (t : ℕ) (rs : List Request) → Fit rs → (o : Option Request) → waiting_request t rs ≡ o → (u : ℕ) → In u (stoppers rs o) → WaitsFor rs t u
stoppers_sound t rs fit None is u h = absurd h
stoppers_sound t rs fit (Some w) is u h =
    let waits = waits_as t rs w is in
    let by_refusal : (others : List Request) → ((q : Request) → In q others → In q rs × (q.granule ≡ w.granule)) → In u (refusing w others) → WaitsFor rs t u =
    λ others among k.
    let r = all_refuse w others u k in
    let there = among r.other r.there in
    subst (λ x. WaitsFor rs x u) waits.by (subst (WaitsFor rs w.txn) r.upon (refusal_waits rs w r.other waits.there there.0 there.1 r.refused)) in
    ⊎_elim
    (λ k. ⊎_elim (by_refusal (holders_at w.granule rs) (of_group Holders w.granule rs))
    (by_refusal (waiters_at w.granule rs) (λ q q_in. let there = In-waiters w.granule rs q q_in in (there.0, there.1)))
    (In-append (refusing w (holders_at w.granule rs)) (refusing w (waiters_at w.granule rs)) u k))
    (λ k.
    let q = listed_before w (waiters_at w.granule rs) u (waits_in_queue rs t w waits) k in
    subst (λ x. WaitsFor rs x u) waits.by (subst (WaitsFor rs w.txn) q.2 (ahead_waits rs w q.0 fit waits.there waits.wants q.1)))
    (In-append (refusing w (holders_at w.granule rs) ++ refusing w (waiters_at w.granule rs)) (ahead w (waiters_at w.granule rs)) u h)

pub listed_waits : (t : ℕ) (rs : List Request) → Fit rs → (u : ℕ) → In u (blockers t rs) → WaitsFor rs t u
listed_waits t rs fit u h = stoppers_sound t rs fit (waiting_request t rs) refl u h

-- ---- all are listed

waiting_found : (t : ℕ) (rs : List Request) (w : Request) → Fit rs → Waits t rs w → (o : Option Request) → waiting_request t rs ≡ o → waiting_request t rs ≡ Some w
waiting_found t rs w fit waits None is = absurd (none_waits t rs (ap is_some is) w waits.there waits.by waits.wants)
waiting_found t rs w fit waits (Some x) is =
    let other = waits_as t rs x is in is ∙ ap Some (fit.once x w other.there waits.there (other.by ∙ sym waits.by) other.wants waits.wants)

pub waits_listed : (t : ℕ) (rs : List Request) → Fit rs → (u : ℕ) → WaitsFor rs t u → In u (blockers t rs)
waits_listed t rs fit u h =
    let e = edge_of rs t u h in
    let w = e.waiter in
    let waits : Waits t rs w = record { there = e.waiter_in; by = e.by; wants = waiter_wants rs t u e } in
    subst (λ o. In u (stoppers rs o)) (sym (waiting_found t rs w fit waits (waiting_request t rs) refl))
    (subst (λ x. In x (stoppers rs (Some w))) e.upon
    (⊎_elim
    (λ refused.
    let apart : not (e.other.txn == w.txn) ≡ true = ⊎_elim (λ yes. absurd (e.apart (sym e.by ∙ sym ((Decides-eqb e.other.txn w.txn).0 yes) ∙ e.upon))) (λ no. ap not no) (either (e.other.txn == w.txn)) in
    let refusal : refuses w e.other ≡ true = rw apart (is_refused_of w.wanted e.other.held refused) in
    In-left (refusing w (holders_at w.granule rs) ++ refusing w (waiters_at w.granule rs)) (ahead w (waiters_at w.granule rs)) e.other.txn
    (⊎_elim
    (λ holds. In-left (refusing w (holders_at w.granule rs)) (refusing w (waiters_at w.granule rs)) e.other.txn (refusing_In w (holders_at w.granule rs) e.other holds refusal))
    (λ queues. In-right (refusing w (holders_at w.granule rs)) (refusing w (waiters_at w.granule rs)) e.other.txn (refusing_In w (waiters_at w.granule rs) e.other queues refusal))
    (In-append (group Holders w.granule rs) (waiters_at w.granule rs) e.other (subst (In e.other) (queue_parts w.granule rs) (queue-In w.granule rs e.other e.other_in e.beside)))))
    (λ behind.
    In-right (refusing w (holders_at w.granule rs) ++ refusing w (waiters_at w.granule rs)) (ahead w (waiters_at w.granule rs)) e.other.txn
    (before_listed w.granule (waiters_at w.granule rs) w e.other (AreRequests-waiters w.granule rs fit.one) (λ q q_in. (In-waiters w.granule rs q q_in).1)
    (Before-waiters w.granule rs e.other w behind.1 behind.2)))
    e.why))

-- ---- one who waits ahead, in the same queue for the same mode

Before_trans : (xs : List Request) (a b d : Request) → AreRequests xs → Before xs a b → Before xs b d → Before xs a d
Before_trans [] a b d one h k = absurd h
Before_trans (x ∷ xs) a b d one h k =
    ⊎_elim
    (λ here. ⊎_elim
    (λ twice. absurd (let apart = In-All (λ o. are_alike x o ≡ false) xs b one.0 (Contains-In xs b here.1) in let alike = ap (are_alike x) (sym twice.0) ∙ alike-self x in clash alike apart))
    (λ later. inl (here.0, In-Contains xs d (Before-In xs b d later).1)) k)
    (λ rest. ⊎_elim
    (λ twice. absurd (let apart = In-All (λ o. are_alike x o ≡ false) xs b one.0 (Before-In xs a b rest).1 in let alike = ap (are_alike x) (sym twice.0) ∙ alike-self x in clash alike apart))
    (λ later. inr (Before_trans xs a b d one.1 rest later)) k)
    h

refuses_nothing : (wanted held : Option Mode) → held ≡ None → is_refused wanted held ≡ false
refuses_nothing None None is = refl
refuses_nothing (Some m) None is = refl
refuses_nothing wanted (Some m) is = cc

-- a request that holds nothing refuses nobody
none_refuses : (w o : Request) → o.held ≡ None → IsRefusedBy w o → ⊥
none_refuses w o none h = let refused = is_refused_of w.wanted o.held h in let never = refuses_nothing w.wanted o.held none in clash refused never

-- then whoever is waited for by the one ahead is waited for by the one behind
pub shared_waits : (rs : List Request) → Fit rs → (t p u : ℕ) → ShareQueue rs t p → WaitsFor rs p t → WaitsFor rs t u → WaitsFor rs p u
shared_waits rs fit t p u share behind waits =
    let w = share.mine in
    let v = share.other in
    let mine = waits_as t rs w share.waits in
    let its = waits_as p rs v share.other_waits in
    let e = edge_of rs t u waits in
    let f = edge_of rs p t behind in
    let e_is : e.waiter ≡ w = fit.once e.waiter w e.waiter_in mine.there (e.by ∙ sym mine.by) (waiter_wants rs t u e) mine.wants in
    let f_is : f.waiter ≡ v = fit.once f.waiter v f.waiter_in its.there (f.by ∙ sym its.by) (waiter_wants rs p t f) its.wants in
    let f_at : f.other.granule ≡ w.granule = f.beside ∙ ap (λ (x : Request). x.granule) f_is ∙ sym share.at in
    let f_other : f.other ≡ w = only_one rs fit.one f.other w f.other_in mine.there ((alike-Decides f.other w).1 (f.upon ∙ sym mine.by, f_at)) in
    let e_at : e.other.granule ≡ v.granule = e.beside ∙ ap (λ (x : Request). x.granule) e_is ∙ share.at in
    -- the one ahead stands before the one behind
    let ahead : Before (waiters_at v.granule rs) w v =
    ⊎_elim
    (λ refused. absurd (none_refuses f.waiter w share.new (subst (IsRefusedBy f.waiter) f_other refused)))
    (λ after. subst (λ x. Before (waiters_at v.granule rs) x v) f_other
    (subst (λ x. Before (waiters_at x.granule rs) f.other x) f_is (Before-waiters f.waiter.granule rs f.other f.waiter after.1 after.2)))
    f.why in
    let one = AreRequests-waiters v.granule rs fit.one in
    let same_key : p ≡ u → e.other ≡ v = λ same. only_one rs fit.one e.other v e.other_in its.there ((alike-Decides e.other v).1 (e.upon ∙ sym same ∙ sym its.by, e_at)) in
    ⊎_elim
    (λ refused.
    let by_v : IsRefusedBy v e.other =
    subst (λ o. IsSomeAnd o (λ asked. IsSomeAnd e.other.held (λ mode. grants mode asked ≡ false))) (ap (λ (x : Request). x.wanted) e_is ∙ share.wanted) refused in
    waits_of rs p u (record {
      apart = λ same. none_refuses v v share.other_new (subst (IsRefusedBy v) (same_key same) by_v);
      waiter = v;
      other = e.other;
      waiter_in = its.there;
      other_in = e.other_in;
      by = its.by;
      upon = e.upon;
      beside = e_at;
      why = inl by_v;
    }))
    (λ after.
    let before_w : Before (waiters_at v.granule rs) e.other w =
    subst (λ g. Before (waiters_at g rs) e.other w) share.at
    (subst (λ x. Before (waiters_at x.granule rs) e.other x) e_is (Before-waiters e.waiter.granule rs e.other e.waiter after.1 after.2)) in
    let before_v = Before_trans (waiters_at v.granule rs) e.other w v one before_w ahead in
    subst (λ x. WaitsFor rs x u) its.by (subst (WaitsFor rs v.txn) e.upon (ahead_waits rs v e.other fit its.there its.wants before_v)))
    e.why
