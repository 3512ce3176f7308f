-- How the requests of the lock table change while a call asks for its lock, some times, and victims are taken in between: over lists of requests alone.
use Rattle.std.proofs.Common.{◌≡◌, ◌≢◌, ◌⊎◌, inl, inr, ⊎_elim, ◌+◌, ℕ, List, [], ◌∷◌, true, false, Option, Some, None, refl, sym, ap, subst, ◌∙◌, Ok, Err, arith}
use Rattle.std.specs.Prelude.{Contains, IsTrue, Result, is_some}
use Rattle.shore_types.specs.declared.faults.Fault.{Fault}
use Rattle.shore_types.specs.declared.locking.Granule.{Granule}
use Rattle.shore_types.specs.declared.locking.Mode.{Mode}
use Rattle.shore_model.specs.Locks.{path}
use Rattle.shore_model.specs.declared.requests.Request.{Request}
use Rattle.shore_locks.proofs.Members.{In}
use Rattle.shore_locks.proofs.Tables.{fit_of}
use Rattle.shore_locks.specs.Grants.{cancelled, is_enough, wanted_mode}
use Rattle.shore_locks.specs.Orderly.{IsOrderly}
use Rattle.shore_locks.specs.Tables.{Table, is_waiting, mode_held, waiting_request}
use Rattle.shore_cycles.proofs.Steps.{waits_as}
use Rattle.shore_cycles.proofs.VictimLemmas.{first_victim}
use Rattle.shore_cycles.specs.Blockers.{is_victim}
use Rattle.shore_cycles.specs.declared.victims.Victim.{Victim}
use Rattle.shore_deadlock.proofs.Sparing.{Spares, spares_acquired, spares_cancelled, spares_on, spares_self}
use Rattle.shore_path.proofs.Freeing.{weaker_cancelled}
use Rattle.shore_path.proofs.Holding.{held_as, holding}
use Rattle.shore_path.proofs.ModeFacts.{aim_enough, aim_twice}
use Rattle.shore_path.specs.Acquires.{GrowsAsAsked, NoneWeaker}
use Rattle.shore_path.specs.Walks.{Outcome, acquired, asked_of}
use Rattle.shore_path.specs.declared.answers.Acquired.{Acquired}
use Rattle.shore_path.specs.declared.answers.Acquired.TheVariants as acquire
use Rattle.shore_path.specs.declared.answers.OnConflict.{OnConflict}
use Rattle.laws_locks.specs.Acquires.{Leaves}
use Rattle.laws_calls.proofs.WaitingRequests.{cancelled_none, found_waiting}

-- ---- what is held once a request is taken back

-- the request with which a transaction waited is granted
pub record IsGranted (rs : List Request) (t : ℕ) (g : Granule) (held : Option Mode) : Type 0 where
  pub request : Request
  pub waited : waiting_request t rs ≡ Some request
  pub at : request.granule ≡ g
  pub is : held ≡ request.wanted

not_next : (t : ℕ) → t ≡ t + 1 → ⊥
not_next t same = omega (arith, same)

module _ (u t : ℕ) (g : Granule) (rs : List Request) (orderly : IsOrderly rs) where
  abbrev new : List Request
  new = cancelled u rs

  abbrev gone : List Victim
  gone = record { txn = u; cycle = [] } ∷ []

  spared : Spares (t + 1) gone rs new
  spared = (spares_cancelled (t + 1) u gone rs (inr (first_victim (record { txn = u; cycle = [] }) [] u refl)) (fit_of rs orderly)).1

  held_so : (r q : Request) → In q rs → q.txn ≡ t → q.granule ≡ g → mode_held t g rs ≡ q.held
  held_so r q there by at =
      subst (λ h. mode_held t h rs ≡ q.held) at (subst (λ n. mode_held n q.granule rs ≡ q.held) by (held_as rs orderly.one_each q there))

  -- it stays, or was waited for
  pub held_after_cancel : (mode_held t g new ≡ mode_held t g rs) ⊎ IsGranted rs t g (mode_held t g new)
  held_after_cancel = by (mode_held t g new) refl
    where
      -- what was held is held
      nothing : (o : Option Mode) → mode_held t g rs ≡ o → mode_held t g new ≡ None → None ≡ o
      nothing None was none = refl
      nothing (Some m) was none =
          let enough = weaker_cancelled u rs orderly t g m (subst (λ h. IsTrue (is_enough m h)) (sym was) (aim_enough None m)) in
          let clash : IsTrue (is_enough m None) = subst (λ h. IsTrue (is_enough m h)) none enough in
          absurd cc

      by : (o : Option Mode) → mode_held t g new ≡ o → (mode_held t g new ≡ mode_held t g rs) ⊎ IsGranted rs t g (mode_held t g new)
      by None is = inl (is ∙ nothing (mode_held t g rs) refl is ∙ refl)
      by (Some m) is =
          let r = holding t g m new is in
          ⊎_elim
          (λ stood. inl (is ∙ sym r.4 ∙ sym (held_so r.0 r.0 stood r.2 r.3)))
          (⊎_elim
          (λ was.
          let its : was.0.txn ≡ t = sym (ap (λ (x : Request). x.txn) was.3) ∙ r.2 in
          inr (record {
            request = was.0;
            waited = found_waiting t rs orderly was.0 was.1 its was.2;
            at = sym (ap (λ (x : Request). x.granule) was.3) ∙ r.3;
            is = is ∙ sym r.4 ∙ ap (λ (x : Request). x.held) was.3;
          }))
          (λ taken.
          let q = taken.1.0 in
          let its : q.txn ≡ t = sym (ap (λ (x : Request). x.txn) taken.1.2) ∙ r.2 in
          let at : q.granule ≡ g = sym (ap (λ (x : Request). x.granule) taken.1.2) ∙ r.3 in
          inl (is ∙ sym r.4 ∙ ap (λ (x : Request). x.held) taken.1.2 ∙ sym (held_so r.0 q taken.1.1 its at))))
          (spared.comes r.0 r.1 (λ same. not_next t (sym r.2 ∙ same)))

-- ---- as is asked

grows_twice : (a b d : List Request) (t : ℕ) (target : Granule) (mode : Mode) → GrowsAsAsked a b t target mode → GrowsAsAsked b d t target mode → GrowsAsAsked a d t target mode
grows_twice a b d t target mode first last g = ⊎_elim
    (λ same. ⊎_elim (λ was. inl (same ∙ was)) (λ grown. inr (grown.0, same ∙ grown.1)) (first g))
    (λ more. inr (
      more.0,
      ⊎_elim
          (λ was. more.1 ∙ ap (λ h. Some (wanted_mode h (asked_of target mode g))) was)
          (λ grown. more.1 ∙ ap (λ h. Some (wanted_mode h (asked_of target mode g))) grown.1 ∙ ap Some (aim_twice (mode_held t g a) (asked_of target mode g)))
          (first g),
    ))
    (last g)

waits_or_not : (o : Result Acquired Fault) → ((g : Granule) × (o ≡ Ok (acquire.Waiting g))) ⊎ ((g : Granule) → o ≢ Ok (acquire.Waiting g))
waits_or_not (Ok acquire.Done) = inr (λ g e. absurd cc)
waits_or_not (Ok (acquire.Waiting g)) = inl (g, refl)
waits_or_not (Err f) = inr (λ g e. absurd cc)

module _ (rs : List Request) (t : ℕ) (target : Granule) (mode : Mode) (vs : List Victim) where
  -- Since then the transaction's own have grown as asked, and what it waits for is asked too; the requests of others stay, are granted, or are taken back as
  -- victims'; and nobody's became weaker.
  pub record Grown (new : List Request) : Type 0 where
    pub own : GrowsAsAsked rs new t target mode
    pub pending : (r : Request) → waiting_request t new ≡ Some r → Contains (path target) r.granule × (r.wanted ≡ Some (wanted_mode (mode_held t r.granule rs) (asked_of target mode r.granule)))
    pub others : Spares t vs rs new
    pub weaker : NoneWeaker rs new

  no_request : (o : Option Request) (r : Request) → is_some o ≡ false → o ≡ Some r → ⊥
  no_request o r none some = let clash : false ≡ true = sym none ∙ ap is_some some in cc

  pub grown_from : is_waiting t rs ≡ false → Grown rs
  grown_from quiet = record {
    own = λ g. inl refl;
    pending = λ r some. absurd (no_request (waiting_request t rs) r quiet some);
    others = spares_self t vs rs;
    weaker = λ u g m enough. enough;
  }

  -- .. what it waits for being asked already
  pub grown_waiting : IsOrderly rs
      → ((r : Request) → waiting_request t rs ≡ Some r → Contains (path target) r.granule × (r.wanted ≡ Some (wanted_mode r.held (asked_of target mode r.granule)))) → Grown rs
  grown_waiting orderly asks = record {
    own = λ g. inl refl;
    pending = λ r some.
        let waits = waits_as t rs r some in
        let held : mode_held t r.granule rs ≡ r.held = subst (λ u. mode_held u r.granule rs ≡ r.held) waits.by (held_as rs orderly.one_each r waits.there) in
        ((asks r some).0, (asks r some).1 ∙ ap (λ h. Some (wanted_mode h (asked_of target mode r.granule))) (sym held));
    others = spares_self t vs rs;
    weaker = λ u g m enough. enough;
  }

  same_request : (o : Option Request) (q r : Request) → o ≡ Some q → o ≡ Some r → q ≡ r
  same_request o q r d e = cc

  -- an acquire more
  module _ (c : OnConflict) (table : Table) (orderly : IsOrderly table.requests) (quiet : is_waiting t table.requests ≡ false) (left : Leaves table.requests (acquired c table t target mode) t target mode)
      (k : Grown table.requests) where
    abbrev out : Outcome
    out = acquired c table t target mode

    own_then : GrowsAsAsked rs out.requests t target mode
    own_then = grows_twice rs table.requests out.requests t target mode k.own left.grows

    pending_then : (g : Granule) → out.answer ≡ Ok (acquire.Waiting g) → (r : Request) → waiting_request t out.requests ≡ Some r
        → Contains (path target) r.granule × (r.wanted ≡ Some (wanted_mode (mode_held t r.granule rs) (asked_of target mode r.granule)))
    pending_then g waits r some =
        let at = left.waits g waits in
        let same = same_request (waiting_request t out.requests) at.1.request r at.1.waits some in
        let wanted = λ (h : Granule). Some (wanted_mode (mode_held t h rs) (asked_of target mode h)) in
        subst (λ (x : Request). Contains (path target) x.granule × (x.wanted ≡ Some (wanted_mode (mode_held t x.granule rs) (asked_of target mode x.granule)))) same
        (subst (λ h. Contains (path target) h × (at.1.request.wanted ≡ Some (wanted_mode (mode_held t h rs) (asked_of target mode h)))) (sym at.1.at) (
          at.0,
          at.1.wanted ∙ ap (λ h. Some (wanted_mode h (asked_of target mode g))) at.1.held
              ∙ ⊎_elim
              (λ was. ap (λ h. Some (wanted_mode h (asked_of target mode g))) was)
              (λ grown. ap (λ h. Some (wanted_mode h (asked_of target mode g))) grown.1 ∙ ap Some (aim_twice (mode_held t g rs) (asked_of target mode g)))
              (own_then g),
        ))

    pub grown_acquired : Grown out.requests
    grown_acquired = record {
      own = own_then;
      pending = λ r some. ⊎_elim (λ waits. pending_then waits.0 waits.1 r some) (λ never. absurd (no_request (waiting_request t out.requests) r (left.quiet never) some)) (waits_or_not out.answer);
      others = spares_on t vs rs table.requests out.requests k.others (spares_acquired c table t target mode vs (fit_of table.requests orderly) quiet);
      weaker = λ u g m enough. left.none_weaker u g m (k.weaker u g m enough);
    }

  -- a request is taken back, of a victim or its own
  pub grown_cancelled : (u : ℕ) (xs : List Request) → IsOrderly xs → (u ≡ t) ⊎ (is_victim vs u ≡ true) → Grown xs → Grown (cancelled u xs)
  grown_cancelled u xs orderly lost k = record {
    own = λ g. ⊎_elim
        (λ same. ⊎_elim (λ was. inl (same ∙ was)) (λ grown. inr (grown.0, same ∙ grown.1)) (k.own g))
        (λ given.
        let asked = k.pending given.request given.waited in
        inr (
          subst (Contains (path target)) given.at asked.0,
          given.is ∙ asked.1 ∙ ap (λ (h : Granule). Some (wanted_mode (mode_held t h rs) (asked_of target mode h))) given.at,
        ))
        (held_after_cancel u t g xs orderly);
    pending = λ r some.
        let waits = waits_as t (cancelled u xs) r some in
        k.pending r (found_waiting t xs orderly r (cancelled_none u xs orderly.one_each r waits.there waits.wants) waits.by waits.wants);
    others = spares_on t vs rs xs (cancelled u xs) k.others (spares_cancelled t u vs xs lost (fit_of xs orderly)).1;
    weaker = λ v g m enough. weaker_cancelled u xs orderly v g m (k.weaker v g m enough);
  }
