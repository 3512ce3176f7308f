-- After a request that is granted at once, a grant pass grants nobody: what is held refuses no less than before.
use Rattle.std.proofs.Common.{ℕ, arith, length, suc, ◌≡◌, ◌∷◌, inl, inr, ⊎_elim, List, [], Bool, true, false, Option, None, Some, refl, ap, sym, subst, ◌∙◌}
use Rattle.std.specs.Prelude.{not, ◌&&◌, ◌||◌, ◌==◌, is_some, slice_get}
use Rattle.std.specs.List.{list_any}
use Rattle.std.proofs.lemmas.Bool.Decides.{Decides-eqb}
use Rattle.std.proofs.lemmas.Option.{same_Some}
use Rattle.shore_types.specs.declared.locking.Granule.{Granule}
use Rattle.shore_types.specs.declared.locking.Mode.{Mode}
use Rattle.shore_types.specs.declared.locking.Mode.TheVariants.{IS, IX, SH, SIX, EX, UD}
use Rattle.shore_types.specs.Locking.{same_granule}
use Rattle.shore_model.specs.declared.requests.Request.{Request}
use Rattle.shore_model.specs.Modes.{grants, is_at_most}
use Rattle.shore_model.specs.Requests.{are_alike, requests_at}
use Rattle.shore_locks.specs.Findings.{IsGrantable}
use Rattle.shore_nodes.specs.Tables.{is_waiting, mode_held, Table, request_for, is_for, waiters_at}
use Rattle.shore_locks.specs.Grants.{asking, wanted_mode, can_be_granted, obstacle, granted, is_ahead, is_refused, is_stopped_by, passed, put, refuses, replaced}
use Rattle.shore_nodes.specs.Orderly.{IsOrderly, IsStopped, Rises}
use Rattle.shore_nodes.proofs.Members.{In, either, In-filter, filter-In}
use Rattle.shore_nodes.proofs.Keys.{alike-Decides, in_place, in_place-no, in_place-yes, only_one, same_granule-Decides}
use Rattle.shore_nodes.proofs.Passes.{In-waiters, pass_ends, pass_stops, requests_at-replaced, waiters_without, first_of}
use Rattle.shore_nodes.proofs.Fits.{any_of, found_any}
use Rattle.shore_nodes.proofs.Others.{put_in_place, removed_none}
use Rattle.shore_nodes.proofs.Entering.{In-put, found_in, found_none, held_in, none_waits, rises_to_wanted}

none_meets_ex : (a : Mode) → grants EX a ≡ false
none_meets_ex IS = refl
none_meets_ex IX = refl
none_meets_ex SH = refl
none_meets_ex SIX = refl
none_meets_ex EX = refl
none_meets_ex UD = refl

none_meets_ud : (a : Mode) → grants UD a ≡ false
none_meets_ud IS = refl
none_meets_ud IX = refl
none_meets_ud SH = refl
none_meets_ud SIX = refl
none_meets_ud EX = refl
none_meets_ud UD = refl

few_meet_six : (a h : Mode) → grants h IS ≡ true → grants h a ≡ false → grants SIX a ≡ false
few_meet_six IS h meets bars = absurd (let f : true ≡ false = sym meets ∙ bars in cc)
few_meet_six IX h meets bars = refl
few_meet_six SH h meets bars = refl
few_meet_six SIX h meets bars = refl
few_meet_six EX h meets bars = refl
few_meet_six UD h meets bars = refl

ex_meets_none : (m : Mode) → grants m EX ≡ false
ex_meets_none IS = refl
ex_meets_none IX = refl
ex_meets_none SH = refl
ex_meets_none SIX = refl
ex_meets_none EX = refl
ex_meets_none UD = refl

ud_meets_shares : (m : Mode) → (m ≡ SH → ⊥) → grants m UD ≡ false
ud_meets_shares IS other = refl
ud_meets_shares IX other = refl
ud_meets_shares SH other = absurd (other refl)
ud_meets_shares SIX other = refl
ud_meets_shares EX other = refl
ud_meets_shares UD other = refl

above_is : (a m : Mode) → (m ≡ SH → ⊥) → grants IS a ≡ false → grants m a ≡ false
above_is IS m other bars = cc
above_is IX m other bars = cc
above_is SH m other bars = cc
above_is SIX m other bars = cc
above_is EX m other bars = ex_meets_none m
above_is UD m other bars = ud_meets_shares m other

-- a stronger mode refuses all that a weaker one does, but for SH above IS: IS refuses UD, and SH does not
refuses_no_less : (a h m : Mode) → (h ≡ IS → m ≡ SH → ⊥) → is_at_most h m ≡ true → grants h a ≡ false → grants m a ≡ false
refuses_no_less a IS m other up bars = above_is a m (other refl) bars
refuses_no_less a IX IX other up bars = bars
refuses_no_less a IX SIX other up bars = few_meet_six a IX refl bars
refuses_no_less a IX EX other up bars = none_meets_ex a
refuses_no_less a SH SH other up bars = bars
refuses_no_less a SH SIX other up bars = few_meet_six a SH refl bars
refuses_no_less a SH UD other up bars = none_meets_ud a
refuses_no_less a SH EX other up bars = none_meets_ex a
refuses_no_less a SIX SIX other up bars = bars
refuses_no_less a SIX EX other up bars = none_meets_ex a
refuses_no_less a UD UD other up bars = bars
refuses_no_less a UD EX other up bars = none_meets_ex a
refuses_no_less a EX EX other up bars = bars
refuses_no_less a IX IS other up bars = cc
refuses_no_less a IX SH other up bars = cc
refuses_no_less a IX UD other up bars = none_meets_ud a
refuses_no_less a SH IS other up bars = cc
refuses_no_less a SH IX other up bars = cc
refuses_no_less a SIX IS other up bars = cc
refuses_no_less a SIX IX other up bars = cc
refuses_no_less a SIX SH other up bars = cc
refuses_no_less a SIX UD other up bars = none_meets_ud a
refuses_no_less a UD IS other up bars = cc
refuses_no_less a UD IX other up bars = cc
refuses_no_less a UD SH other up bars = cc
refuses_no_less a UD SIX other up bars = cc
refuses_no_less a EX IS other up bars = cc
refuses_no_less a EX IX other up bars = cc
refuses_no_less a EX SH other up bars = cc
refuses_no_less a EX SIX other up bars = cc
refuses_no_less a EX UD other up bars = none_meets_ud a

not_true : (b : Bool) → not b ≡ true → b ≡ false
not_true true e = cc
not_true false e = refl

refused_still : (asked held wanted : Option Mode) → (held ≡ Some IS → wanted ≡ Some SH → ⊥) → is_some wanted ≡ true → Rises held wanted → is_refused asked held ≡ true → is_refused asked wanted ≡ true
refused_still None held wanted other wants up bars = cc
refused_still (Some a) None wanted other wants up bars = cc
refused_still (Some a) (Some h) None other wants up bars = cc
refused_still (Some a) (Some h) (Some m) other wants up bars = ap not (refuses_no_less a h m (λ e f. other (ap Some e) (ap Some f)) up (not_true (grants h a) bars))

-- one who is not ahead and waits is new, and the asker holds the granule
ahead_or_holds : (held wanted mine : Option Mode) → is_some wanted ≡ true → (is_some wanted && (is_some held || not (is_some mine))) ≡ false → (m : Mode) × (mine ≡ Some m)
ahead_or_holds held None mine wants e = cc
ahead_or_holds (Some h) (Some w) mine wants e = cc
ahead_or_holds None (Some w) None wants e = cc
ahead_or_holds None (Some w) (Some m) wants e = (m, refl)

last_of_three : (b c d : Bool) → (not b && (c || d)) ≡ false → b ≡ false → d ≡ false
last_of_three true c d e f = cc
last_of_three false true d e f = cc
last_of_three false false d e f = e

both_and : (b c : Bool) → (not b && c) ≡ true → (b ≡ false) × (c ≡ true)
both_and true c e = cc
both_and false c e = (refl, e)

and_both : (b c : Bool) → b ≡ false → c ≡ true → (not b && c) ≡ true
and_both true c e f = cc
and_both false c e f = f

none_granted : (b : Bool) → not b ≡ false → b ≡ true
none_granted true e = refl
none_granted false e = cc

head_of : (w : Request) (ws queue : List Request) (xs : List Request) → xs ≡ w ∷ ws → IsStopped xs queue → can_be_granted w queue ≡ false
head_of w ws queue xs are stopped = subst (λ zs. IsStopped zs queue) are stopped

in_replaced : (r q : Request) (rs : List Request) → In q rs → In (in_place r q) (replaced r rs)
in_replaced r q [] h = absurd h
in_replaced r q (x ∷ rs) h = ⊎_elim (λ e. inl (ap (in_place r) e)) (λ t. inr (in_replaced r q rs t)) h

module _ (table : Table) (r : Request) (free : IsGrantable table r) (other : r.held ≡ Some IS → r.wanted ≡ Some SH → ⊥) where
  -- who waits at the granule is another, and the asker holds it
  waits_with_holder : (w : Request) → In w table.requests → w.granule ≡ r.granule → is_some w.wanted ≡ true → (m : Mode) × (r.held ≡ Some m)
  waits_with_holder w in_w at wants =
      let here = filter-In (λ q. same_granule q.granule r.granule) table.requests w in_w ((same_granule-Decides w.granule r.granule).1 at) in
      let mild = found_none (is_stopped_by r) (requests_at r.granule table.requests) free.free w here in
      let apart : (w.txn == r.txn) ≡ false = ⊎_elim (λ yes. absurd (none_waits r.txn table.requests free.quiet w in_w ((Decides-eqb w.txn r.txn).0 yes) wants)) (λ no. no) (either (w.txn == r.txn)) in
      ahead_or_holds w.held w.wanted r.held wants (last_of_three (w.txn == r.txn) (is_refused r.wanted w.held) (is_ahead r w) mild apart)

  -- so its node is there, holds that mode, and is no waiter
  own_there : (m : Mode) → r.held ≡ Some m → (e : Request) × In e table.requests × (are_alike e r ≡ true) × (e.held ≡ r.held)
  own_there m holds =
      let e = held_in (request_for r.txn r.granule table.requests) m (sym free.as_held ∙ holds) in
      let f = found_in (is_for r.txn r.granule) table.requests e.0 e.1 in
      (e.0, f.0, f.1, e.2 ∙ sym holds)

  refuses_still : (w o e : Request) → In e table.requests → are_alike e r ≡ true → e.held ≡ r.held → In o (requests_at r.granule table.requests) → refuses w o ≡ true → refuses w (in_place (granted r) o) ≡ true
  refuses_still w o e in_e alike_e holds in_o bars =
      let parts = both_and (o.txn == w.txn) (is_refused w.wanted o.held) bars in
      let o_there = (In-filter (λ q. same_granule q.granule r.granule) table.requests o in_o).0 in
      ⊎_elim
      (λ yes.
      let keys = (alike-Decides o (granted r)).0 yes in
      let keys_e = (alike-Decides e r).0 alike_e in
      let same : e ≡ o = only_one table.requests free.orderly.one_each e o in_e o_there ((alike-Decides e o).1 (keys_e.0 ∙ sym keys.0, keys_e.1 ∙ sym keys.1)) in
      let as_mine : o.held ≡ r.held = ap (λ (x : Request). x.held) (sym same) ∙ holds in
      ap (refuses w) (in_place-yes (granted r) o yes)
      ∙ and_both (r.txn == w.txn) (is_refused w.wanted r.wanted) (ap (λ t. t == w.txn) (sym keys.0) ∙ parts.0)
      (refused_still w.wanted r.held r.wanted other free.wants free.rises (ap (is_refused w.wanted) (sym as_mine) ∙ parts.1)))
      (λ no_other. ap (refuses w) (in_place-no (granted r) o no_other) ∙ bars)
      (either (are_alike o (granted r)))

  stays_refused : (w : Request) → Some w ≡ slice_get (waiters_at r.granule (put (granted r) table.requests)) 0 → can_be_granted w (requests_at w.granule (put (granted r) table.requests)) ≡ false
  stays_refused w first =
      let rs = table.requests in
      let are = first_of (waiters_at r.granule (put (granted r) table.requests)) w first in
      let in_now = In-waiters r.granule (put (granted r) table.requests) w (subst (In w) (sym are) (inl refl)) in
      let was : In w table.requests = ⊎_elim (λ new. absurd (let f : is_some w.wanted ≡ false = ap (λ (x : Request). is_some x.wanted) new in let t = in_now.2 in cc)) (λ old. old.0) (In-put (granted r) table.requests w in_now.0) in
      let holder = waits_with_holder w was in_now.1 in_now.2 in
      let own = own_there holder.0 holder.1 in
      let in_place_of : put (granted r) table.requests ≡ replaced (granted r) table.requests = put_in_place (granted r) table.requests (any_of (λ q. are_alike q (granted r)) table.requests own.0 own.1 own.2) in
      let waiters_same : waiters_at r.granule (put (granted r) table.requests) ≡ waiters_at r.granule table.requests =
      ap (waiters_at r.granule) in_place_of ∙ waiters_without r.granule (granted r) table.requests refl
      ∙ removed_none (granted r) (waiters_at r.granule table.requests) (λ q h. let x = In-waiters r.granule table.requests q h in
      ⊎_elim (λ yes. absurd (none_waits r.txn table.requests free.quiet q x.0 ((alike-Decides q (granted r)).0 yes).0 x.2)) (λ no. no) (either (are_alike q (granted r)))) in
      let cannot = head_of w _ (requests_at r.granule table.requests) (waiters_at r.granule table.requests) (sym waiters_same ∙ are) (free.orderly.none_left r.granule) in
      let o = found_any (refuses w) (requests_at r.granule table.requests) (none_granted (list_any (refuses w) (requests_at r.granule table.requests)) cannot) in
      let queue_now : requests_at w.granule (put (granted r) table.requests) ≡ replaced (granted r) (requests_at r.granule table.requests) =
      ap (λ g. requests_at g (put (granted r) table.requests)) in_now.1 ∙ ap (requests_at r.granule) in_place_of ∙ requests_at-replaced r.granule (granted r) table.requests in
      ap (can_be_granted w) queue_now
      ∙ ap not (any_of (refuses w) (replaced (granted r) (requests_at r.granule table.requests)) (in_place (granted r) o.0) (in_replaced (granted r) o.0 (requests_at r.granule table.requests) o.1) (refuses_still w o.0 own.0 own.1 own.2 own.3 o.1 o.2))

  by_first : (first : Option Request) → first ≡ slice_get (waiters_at r.granule (put (granted r) table.requests)) 0 → passed r.granule (put (granted r) table.requests) ≡ put (granted r) table.requests
  by_first None is = pass_ends r.granule (put (granted r) table.requests) is
  by_first (Some w) is = pass_stops r.granule (put (granted r) table.requests) w is (stays_refused w is)

  pub grants_nobody : passed r.granule (put (granted r) table.requests) ≡ put (granted r) table.requests
  grants_nobody = by_first (slice_get (waiters_at r.granule (put (granted r) table.requests)) 0) refl

-- what one who holds IS asks for is all that it wants
wanted_above_is : (held : Option Mode) (mode : Mode) → held ≡ Some IS → Some (wanted_mode held mode) ≡ Some SH → mode ≡ SH
wanted_above_is held mode is wants = same_Some mode SH (sym (ap (λ h. Some (wanted_mode h mode)) is) ∙ wants)

pub nobody_to_grant : (rs : List Request) (t : ℕ) (g : Granule) (mode : Mode) → IsOrderly rs → is_waiting t rs ≡ false → obstacle (asking t g mode rs) rs ≡ None → (mode_held t g rs ≡ Some IS → mode ≡ SH → ⊥)
    → passed g (put (granted (asking t g mode rs)) rs) ≡ put (granted (asking t g mode rs)) rs
nobody_to_grant rs t g mode orderly quiet free other =
    grants_nobody (record { limit = suc (length rs); requests = rs }) (asking t g mode rs)
    (record { orderly = orderly; quiet = quiet; finds_node = λ _. omega arith; as_held = refl; wants = refl; rises = rises_to_wanted (mode_held t g rs) mode; free = free })
    (λ is wants. other is (wanted_above_is (mode_held t g rs) mode is wants))
