-- One granule that is taken in a table in which nobody waits, and why it is refused.
use Rattle.std.proofs.Common.{◌≡◌, ◌++◌, ⊎_elim, ℕ, List, [], ◌∷◌, Bool, true, false, Option, None, Some, refl, ap, sym, subst, ◌∙◌}
use Rattle.std.specs.Prelude.{◌&&◌, ◌||◌, ◌==◌, Err, IsSomeAnd, Ok, Result, cond, filter, is_some, not}
use Rattle.std.specs.List.{list_any}
use Rattle.std.proofs.lemmas.Bool.Decides.{Decides-eqb}
use Rattle.std.proofs.lemmas.List.Elements.{filter-append}
use Rattle.shore_types.specs.declared.faults.Fault.{Fault}
use Rattle.shore_types.specs.declared.faults.Fault.TheVariants as fault
use Rattle.shore_types.specs.declared.locking.Granule.{Granule}
use Rattle.shore_types.specs.declared.locking.Mode.{Mode}
use Rattle.shore_types.specs.Locking.{same_granule}
use Rattle.shore_model.specs.declared.requests.Request.{Request}
use Rattle.shore_model.specs.declared.requests.Group.TheVariants.{Conversions, NewWaiters}
use Rattle.shore_model.specs.Locks.{ancestors}
use Rattle.shore_model.specs.Modes.{grants}
use Rattle.shore_model.specs.Requests.{AreRequests, are_alike, is_in_group, requests_at}
use Rattle.shore_locks.specs.declared.answers.Tried.TheVariants.{Blocked, Granted, Full}
use Rattle.shore_locks.specs.Grants.{after_grant, asking, blocked_by, granted, is_ahead, is_enough, is_full, is_refused, is_stopped_by, obstacle, passed, put, replaced, wanted_mode}
use Rattle.shore_locks.specs.Laws.{of_others}
use Rattle.shore_locks.specs.Orderly.{IsOrderly}
use Rattle.shore_locks.specs.Tables.{Table, mode_held, waiters_at}
use Rattle.shore_locks.proofs.Entering.{AreRequests-put, both_true, found_in, In-put, none_waits}
use Rattle.shore_locks.proofs.Keys.{alike-Decides, in_place, in_place-no, in_place-yes, same_granule-Decides}
use Rattle.shore_locks.proofs.Members.{In, In-Contains, In-filter, either, filter-no, filter-none, filter-yes}
use Rattle.shore_locks.proofs.Others.{put_in_place, put_last}
use Rattle.shore_locks.proofs.Outcomes.{nobody_wants}
use Rattle.shore_locks.proofs.Tables.{fit_of}
use Rattle.shore_path.specs.declared.answers.Acquired.{Acquired}
use Rattle.shore_path.specs.declared.answers.OnConflict.TheVariants.{Refuse}
use Rattle.shore_path.specs.Restoring.{IsInTheWay, IsRefused, NobodyWaits, TakesOne}
use Rattle.shore_path.specs.Walks.{after_at, answer_at, of_try}
use Rattle.shore_path.proofs.Growing.{put_there, rooted_grant}
use Rattle.shore_path.proofs.Holding.{held_as, same_held}
use Rattle.shore_path.proofs.Intentions.{are_rooted, rooted_of}
use Rattle.shore_path.proofs.Kept.{Each}
use Rattle.shore_path.proofs.ModeFacts.{sup_same}
use Rattle.shore_path.proofs.Moving.{onto_put}

-- ---- nobody waits

pub wants_none : (rs : List Request) → NobodyWaits rs → (q : Request) → In q rs → is_some q.wanted ≡ false
wants_none rs nobody q h = ⊎_elim (λ wants. absurd (none_waits q.txn rs (nobody q.txn) q h refl wants)) (λ no. no) (either (is_some q.wanted))

no_second : (b c : Bool) → c ≡ false → (b && c) ≡ false
no_second true c e = e
no_second false c e = refl

none_at : (g : Granule) (rs : List Request) → NobodyWaits rs → waiters_at g rs ≡ []
none_at g rs nobody =
    ap (λ xs. xs ++ filter (is_in_group NewWaiters) (requests_at g rs)) (filter-none (is_in_group Conversions) (requests_at g rs) (λ q h.
    no_second (is_some q.held) (is_some q.wanted) (wants_none rs nobody q (In-filter (λ r. same_granule r.granule g) rs q h).0)))
    ∙ filter-none (is_in_group NewWaiters) (requests_at g rs) (λ q h. no_second (not (is_some q.held)) (is_some q.wanted) (wants_none rs nobody q (In-filter (λ r. same_granule r.granule g) rs q h).0))

-- a grant pass finds nobody
quiet_pass : (g : Granule) (rs : List Request) → NobodyWaits rs → passed g rs ≡ rs
quiet_pass g rs nobody = rw (none_at g rs nobody) refl

-- ---- a request that is put into the list

others_same : (t : ℕ) (r : Request) → r.txn ≡ t → (rs : List Request) → of_others t (replaced r rs) ≡ of_others t rs
others_same t r by [] = refl
others_same t r by (q ∷ rs) =
    ⊎_elim
    (λ yes.
    let own : not (q.txn == t) ≡ false = ap not ((Decides-eqb q.txn t).1 (((alike-Decides q r).0 yes).0 ∙ by)) in
    let its : not ((in_place r q).txn == t) ≡ false = ap (λ (x : Request). not (x.txn == t)) (in_place-yes r q yes) ∙ ap not ((Decides-eqb r.txn t).1 by) in
    filter-no (λ x. not (x.txn == t)) (in_place r q) (replaced r rs) its ∙ others_same t r by rs ∙ sym (filter-no (λ x. not (x.txn == t)) q rs own))
    (λ no. ap (λ x. of_others t (x ∷ replaced r rs)) (in_place-no r q no)
    ∙ ⊎_elim
    (λ kept. filter-yes (λ x. not (x.txn == t)) q (replaced r rs) kept ∙ ap (λ xs. q ∷ xs) (others_same t r by rs) ∙ sym (filter-yes (λ x. not (x.txn == t)) q rs kept))
    (λ gone. filter-no (λ x. not (x.txn == t)) q (replaced r rs) gone ∙ others_same t r by rs ∙ sym (filter-no (λ x. not (x.txn == t)) q rs gone))
    (either (not (q.txn == t))))
    (either (are_alike q r))

append-none : {A : Type 0} (xs : List A) → xs ++ [] ≡ xs
append-none [] = refl
append-none (x ∷ xs) = ap (λ ys. x ∷ ys) (append-none xs)

others_put : (t : ℕ) (r : Request) (rs : List Request) → r.txn ≡ t → of_others t (put r rs) ≡ of_others t rs
others_put t r rs by =
    ⊎_elim
    (λ yes. ap (of_others t) (put_in_place r rs yes) ∙ others_same t r by rs)
    (λ none. ap (of_others t) (put_last r rs none) ∙ filter-append (λ x. not (x.txn == t)) rs (r ∷ [])
    ∙ ap (λ xs. of_others t rs ++ xs) (filter-no (λ x. not (x.txn == t)) r [] (ap not ((Decides-eqb r.txn t).1 by))) ∙ append-none (of_others t rs))
    (either (list_any (λ q. are_alike q r) rs))

quiet_put : (r : Request) (rs : List Request) → r.wanted ≡ None → NobodyWaits rs → NobodyWaits (put r rs)
quiet_put r rs none nobody t =
    nobody_wants t (put r rs) (λ q h by wants. ⊎_elim
    (λ e. let gone : is_some q.wanted ≡ false = ap (λ (x : Request). is_some x.wanted) e ∙ ap is_some none in let clash : true ≡ false = sym wants ∙ gone in cc)
    (λ o. let gone = wants_none rs nobody q o.0 in let clash : true ≡ false = sym wants ∙ gone in cc)
    (In-put r rs q h))

-- what is held of a granule elsewhere, or by another, stays
held_elsewhere : (r : Request) (rs : List Request) → AreRequests rs → (u : ℕ) (h : Granule) → (u ≡ r.txn → h ≡ r.granule → ⊥) → mode_held u h (put r rs) ≡ mode_held u h rs
held_elsewhere r rs one u h apart =
    sym (same_held u h rs (put r rs) one (AreRequests-put r rs one)
    (λ q by at. (
      λ i. ⊎_elim (λ a. let key = (alike-Decides q r).0 a.0 in absurd (apart (sym by ∙ key.0) (sym at ∙ key.1))) (λ b. b) (onto_put r rs q i),
      λ i. ⊎_elim (λ e. absurd (apart (sym by ∙ ap (λ (x : Request). x.txn) e) (sym at ∙ ap (λ (x : Request). x.granule) e))) (λ o. o.0) (In-put r rs q i),
    )))

-- ---- a granule is taken

enough_same : (held : Option Mode) (mode : Mode) → is_enough mode held ≡ true → held ≡ Some (wanted_mode held mode)
enough_same None mode e = cc
enough_same (Some h) mode e = ap Some (sym (sup_same h mode e))

module _ (t : ℕ) (g : Granule) (mode : Mode) (old : Table) (orderly : IsOrderly old.requests) (nobody : NobodyWaits old.requests) where
  abbrev one : AreRequests old.requests
  one = orderly.one_each

  abbrev next : Request
  next = granted (asking t g mode old.requests)

  abbrev taken : Table
  taken = record { limit = old.limit; requests = put next old.requests }

  took_grant : obstacle (asking t g mode old.requests) old.requests ≡ None → TakesOne old taken t g mode
  took_grant free = record {
    own = held_as (put next old.requests) (AreRequests-put next old.requests one) next (put_there next old.requests);
    rest = held_elsewhere next old.requests one;
    limit = refl;
    others = others_put t next old.requests refl;
    nobody = quiet_put next old.requests refl nobody;
    rooted = λ above rooted.
        are_rooted (put next old.requests)
        (subst (λ xs. Rattle.shore_path.proofs.Moving.Rooted Each xs) (quiet_pass g (put next old.requests) (quiet_put next old.requests refl nobody))
        (rooted_grant Each t g mode old.requests (fit_of old.requests orderly) free (rooted_of old.requests one rooted)
        (λ a i. above a (In-Contains (ancestors g) a i))));
  }

  took_nothing : is_enough mode (mode_held t g old.requests) ≡ true → TakesOne old old t g mode
  took_nothing enough = record {
    own = enough_same (mode_held t g old.requests) mode enough;
    rest = λ u h apart. refl;
    limit = refl;
    others = refl;
    nobody = nobody;
    rooted = λ above rooted. rooted;
  }

  -- by what is in the table
  tried_with : (enough full : Bool) (o : Option Request) → is_enough mode (mode_held t g old.requests) ≡ enough → is_full old t g ≡ full → obstacle (asking t g mode old.requests) old.requests ≡ o
      → (a : Acquired) → of_try (cond enough Granted (cond full Full (blocked_by o))) ≡ Ok a
      → TakesOne old (record { limit = old.limit; requests = cond enough old.requests (cond full old.requests (cond (is_some o) old.requests (after_grant t g mode old.requests))) }) t g mode
  tried_with true full o e f s a done = took_nothing e
  tried_with false true o e f s a done = cc
  tried_with false false (Some q) e f s a done = cc
  tried_with false false None e f s a done =
      subst (λ xs. TakesOne old (record { limit = old.limit; requests = xs }) t g mode) (sym (quiet_pass g (put next old.requests) (quiet_put next old.requests refl nobody))) (took_grant s)

  pub took : (a : Acquired) → answer_at Refuse old t g mode ≡ Ok a → (new : Table) → new ≡ record { limit = old.limit; requests = after_at Refuse old t g mode } → TakesOne old new t g mode
  took a done new is =
      subst (λ x. TakesOne old x t g mode) (sym is)
      (tried_with (is_enough mode (mode_held t g old.requests)) (is_full old t g) (obstacle (asking t g mode old.requests) old.requests) refl refl refl a done)

  -- ---- a granule is refused

  refused_as : (wanted : Mode) (held : Option Mode) → is_refused (Some wanted) held ≡ true → IsSomeAnd held (λ held. grants held wanted ≡ false)
  refused_as wanted None e = cc
  refused_as wanted (Some held) e = not_of (grants held wanted) e
    where
      not_of : (b : Bool) → not b ≡ true → b ≡ false
      not_of true e = cc
      not_of false e = refl

  first_of : (b c : Bool) → (b || c) ≡ true → c ≡ false → b ≡ true
  first_of true c e f = refl
  first_of false c e f = let clash : true ≡ false = sym e ∙ f in cc

  in_the_way : (q : Request) → is_enough mode (mode_held t g old.requests) ≡ false → obstacle (asking t g mode old.requests) old.requests ≡ Some q → IsInTheWay old.requests t g mode q.txn
  in_the_way q less is =
      let f = found_in (is_stopped_by (asking t g mode old.requests)) (requests_at g old.requests) q is in
      let there = In-filter (λ r. same_granule r.granule g) old.requests q f.0 in
      let at : q.granule ≡ g = (same_granule-Decides q.granule g).0 there.1 in
      let stopped = both_true (not (q.txn == t)) (is_refused (Some (wanted_mode (mode_held t g old.requests) mode)) q.held || is_ahead (asking t g mode old.requests) q) f.1 in
      let behind : is_ahead (asking t g mode old.requests) q ≡ false = ap (λ b. b && (is_some q.held || not (is_some (mode_held t g old.requests)))) (wants_none old.requests nobody q there.0) in
      record {
        other = λ same. let own : not (q.txn == t) ≡ false = ap not ((Decides-eqb q.txn t).1 same) in let clash : true ≡ false = sym stopped.0 ∙ own in cc;
        less = less;
        refuses =
            subst (λ held. IsSomeAnd held (λ held. grants held (wanted_mode (mode_held t g old.requests) mode) ≡ false))
            (sym (subst (λ k. mode_held q.txn k old.requests ≡ q.held) at (held_as old.requests one q there.0)))
            (refused_as (wanted_mode (mode_held t g old.requests) mode) q.held
            (first_of (is_refused (Some (wanted_mode (mode_held t g old.requests) mode)) q.held) (is_ahead (asking t g mode old.requests) q) stopped.1 behind));
      }

  err_of : (x y : Fault) (r : Result Acquired Fault) → r ≡ Err x → r ≡ Err y → x ≡ y
  err_of x y r a b = cc

  refused_with : (enough full : Bool) (o : Option Request) → is_enough mode (mode_held t g old.requests) ≡ enough → is_full old t g ≡ full → obstacle (asking t g mode old.requests) old.requests ≡ o
      → (f : Fault) → of_try (cond enough Granted (cond full Full (blocked_by o))) ≡ Err f
      → (cond enough old.requests (cond full old.requests (cond (is_some o) old.requests (after_grant t g mode old.requests))) ≡ old.requests) × IsRefused old t g mode f
  refused_with true full o e f s x told = cc
  refused_with false true o e f s x told = (refl, subst (IsRefused old t g mode) (err_of fault.LockTableFull x (of_try Full) refl told) f)
  refused_with false false None e f s x told = cc
  refused_with false false (Some q) e f s x told = (refl, subst (IsRefused old t g mode) (err_of (fault.WouldBlock q.txn) x (of_try (Blocked q.txn)) refl told) (in_the_way q e s))

  pub refused : (f : Fault) → answer_at Refuse old t g mode ≡ Err f → (new : Table) → new ≡ record { limit = old.limit; requests = after_at Refuse old t g mode }
      → (new ≡ old) × IsRefused old t g mode f
  refused f told new is =
      let r = refused_with (is_enough mode (mode_held t g old.requests)) (is_full old t g) (obstacle (asking t g mode old.requests) old.requests) refl refl refl f told in
      (is ∙ ap (λ xs. record { limit = old.limit; requests = xs }) r.0, r.1)
