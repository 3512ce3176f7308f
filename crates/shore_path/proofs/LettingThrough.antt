-- Whom an acquire lets through: nobody, unless it takes SH of a granule that others wait for.
use Rattle.std.proofs.Common.{◌≡◌, ◌⊎◌, inl, inr, ⊎_elim, ℕ, List, [], ◌∷◌, true, false, None, refl, ap, sym, subst, ◌∙◌, reverse}
use Rattle.std.specs.Prelude.{Err, cond, not}
use Rattle.std.specs.List.{list_any}
use Rattle.shore_types.specs.declared.faults.Fault.TheVariants as fault
use Rattle.shore_types.specs.declared.locking.Granule.{Granule}
use Rattle.shore_types.specs.declared.locking.Mode.{Mode}
use Rattle.shore_types.specs.declared.locking.Mode.TheVariants.{IS, IX, SH, SIX, EX, UD}
use Rattle.shore_types.specs.Locking.{level_of, same_granule}
use Rattle.shore_model.specs.declared.requests.Request.{Request}
use Rattle.shore_model.specs.Locks.{path}
use Rattle.shore_model.specs.Modes.{is_allowed, parent_mode}
use Rattle.shore_model.specs.Requests.{are_alike, placed_last}
use Rattle.shore_locks.specs.Grants.{after_grant, asking, granted, granted_in_turn, obstacle, put, removed}
use Rattle.shore_locks.specs.Orderly.{IsOrderly}
use Rattle.shore_locks.specs.Tables.{Table, is_waiting, waiters_at}
use Rattle.shore_locks.proofs.AtOnce.{nobody_to_grant}
use Rattle.shore_locks.proofs.Entering.{In-put}
use Rattle.shore_locks.proofs.Fits.{wants_nothing}
use Rattle.shore_locks.proofs.Keys.{alike-Decides, same_granule-Decides}
use Rattle.shore_locks.proofs.Tellings.{stays_in, waiter_in, waits_so, waits_with}
use Rattle.shore_locks.proofs.Members.{In, In-left, either, filter-In}
use Rattle.shore_locks.proofs.Others.{put_in_place, put_last}
use Rattle.shore_locks.proofs.Passes.{In-waiters}
use Rattle.shore_locks.proofs.Tables.{orderly_put}
use Rattle.shore_path.specs.declared.answers.OnConflict.{OnConflict}
use Rattle.shore_path.specs.Walks.{Outcome, acquired, asked_of}
use Rattle.shore_path.proofs.Growing.{quiet_grant}
use Rattle.shore_path.proofs.Walking.{EachCase, of_walk, walk_on}

sh_or_not : (m : Mode) → (m ≡ SH) ⊎ (m ≡ SH → ⊥)
sh_or_not IS = inr (λ e. cc)
sh_or_not IX = inr (λ e. cc)
sh_or_not SH = inl refl
sh_or_not SIX = inr (λ e. cc)
sh_or_not EX = inr (λ e. cc)
sh_or_not UD = inr (λ e. cc)

parent_is_no_share : (m : Mode) → parent_mode m ≡ SH → ⊥
parent_is_no_share IS e = cc
parent_is_no_share IX e = cc
parent_is_no_share SH e = cc
parent_is_no_share SIX e = cc
parent_is_no_share EX e = cc
parent_is_no_share UD e = cc

none_in : {A : Type 0} (xs : List A) → ((x : A) → In x xs → ⊥) → xs ≡ []
none_in [] none = refl
none_in (x ∷ xs) none = absurd (none x (inl refl))

-- another's request stays
of_another : (q r : Request) → (q.txn ≡ r.txn → ⊥) → are_alike q r ≡ false
of_another q r other = ⊎_elim (λ yes. absurd (other ((alike-Decides q r).0 yes).0)) (λ no. no) (either (are_alike q r))

in_put : (r q : Request) (rs : List Request) → are_alike q r ≡ false → In q rs → In q (put r rs)
in_put r q rs apart h =
    ⊎_elim
    (λ yes. subst (In q) (sym (put_in_place r rs yes)) (stays_in r q rs apart h))
    (λ no. subst (In q) (sym (put_last r rs no)) (In-left rs (r ∷ []) q h))
    (either (list_any (λ x. are_alike x r) rs))

in_placed : (r q : Request) (rs : List Request) → are_alike q r ≡ false → In q rs → In q (placed_last r rs)
in_placed r q rs apart h = In-left (removed r rs) (r ∷ []) q (filter-In (λ x. not (are_alike x r)) rs q h (ap not apart))

-- nobody waits of whom a request that is granted could be
none_there : (g : Granule) (r : Request) (rs : List Request) → r.wanted ≡ None → waiters_at g rs ≡ [] → waiters_at g (put r rs) ≡ []
none_there g r rs still none = none_in (waiters_at g (put r rs)) (λ w h.
    let its = In-waiters g (put r rs) w h in
    ⊎_elim
    (λ new. wants_nothing w.wanted (ap (λ (x : Request). x.wanted) new ∙ still) its.2)
    (λ old. subst (In w) none (waiter_in g rs w old.0 its.1 its.2))
    (In-put r rs w its.0))

module _ (c : OnConflict) (t : ℕ) (target : Granule) (mode : Mode) (limit : ℕ) where
  -- SH is asked of the target alone, and nobody waits there then
  abbrev pub NoneAwaits : List Request → Type 0
  NoneAwaits rs = mode ≡ SH → waiters_at target rs ≡ []

  grants_no_waiter : (g : Granule) (rs : List Request) → IsOrderly rs → is_waiting t rs ≡ false → NoneAwaits rs → obstacle (asking t g (asked_of target mode g) rs) rs ≡ None
      → after_grant t g (asked_of target mode g) rs ≡ put (granted (asking t g (asked_of target mode g) rs)) rs
  grants_no_waiter g rs orderly quiet none free =
      let made = granted (asking t g (asked_of target mode g) rs) in
      ⊎_elim
      (λ here. ⊎_elim
      (λ shares. let at = (same_granule-Decides g target).0 here in
      let nobody : waiters_at g (put made rs) ≡ [] = none_there g made rs refl (ap (λ h. waiters_at h rs) at ∙ none shares) in
      ap (λ ws. granted_in_turn ws (put made rs)) nobody)
      (λ no_share. nobody_to_grant rs t g (asked_of target mode g) orderly quiet free (λ _ e. no_share (sym (ap (λ b. cond b mode (parent_mode mode)) here) ∙ e)))
      (sh_or_not mode))
      (λ above. nobody_to_grant rs t g (asked_of target mode g) orderly quiet free (λ _ e. parent_is_no_share mode (sym (ap (λ b. cond b mode (parent_mode mode)) above) ∙ e)))
      (either (same_granule g target))

  abbrev Keeps : List Granule → List Request → Outcome → Type 0
  Keeps way rs out = IsOrderly rs → is_waiting t rs ≡ false → NoneAwaits rs → (u : ℕ) → is_waiting u rs ≡ true → is_waiting u out.requests ≡ true

  another : (rs : List Request) (u : ℕ) → is_waiting t rs ≡ false → is_waiting u rs ≡ true → u ≡ t → ⊥
  another rs u quiet waits e = let f : true ≡ false = sym waits ∙ subst (λ x. is_waiting x rs ≡ false) (sym e) quiet in cc

  keeps_case : EachCase c t target mode limit Keeps
  keeps_case = record {
    over = λ rs orderly quiet none u waits. waits;
    spared = λ g below rs is orderly quiet none u waits. waits;
    full = λ g below rs is orderly quiet none u waits. waits;
    waits = λ g below rs o is stopped orderly quiet none u waits.
        let r = asking t g (asked_of target mode g) rs in
        let q = waits_with u rs waits in
        waits_so u (placed_last r rs) q.0 (in_placed r q.0 rs (of_another q.0 r (λ e. another rs u quiet waits (sym q.2 ∙ e))) q.1) q.2 q.3;
    blocked = λ g below rs o is stopped orderly quiet none u waits. waits;
    holds = λ g below rs enough rest orderly quiet none u waits. rest orderly quiet none u waits;
    grants = λ g below rs less room free rest orderly quiet none u waits.
        let made = granted (asking t g (asked_of target mode g) rs) in
        let now = grants_no_waiter g rs orderly quiet none free in
        let q = waits_with u rs waits in
        rest
        (orderly_put t g (asked_of target mode g) rs orderly quiet free)
        (quiet_grant limit t g (asked_of target mode g) rs orderly.one_each quiet less room free)
        (λ shares. ap (waiters_at target) now ∙ none_there target made rs refl (none shares))
        u
        (subst (λ xs. is_waiting u xs ≡ true) (sym now)
        (waits_so u (put made rs) q.0 (in_put made q.0 rs (of_another q.0 made (λ e. another rs u quiet waits (sym q.2 ∙ e))) q.1) q.2 q.3));
  }

  walk_keeps : (way : List Granule) (rs : List Request) → Keeps way rs (walk_on c t target mode limit way rs)
  walk_keeps = of_walk c t target mode limit Keeps keeps_case

either_outcome : (P : Outcome → Type 0) (b : Rattle.std.specs.Prelude.Bool) (one other : Outcome) → P one → P other → P (cond b one other)
either_outcome P Rattle.std.specs.Prelude.true one other p q = p
either_outcome P Rattle.std.specs.Prelude.false one other p q = q

pub acquire_lets_nobody_through : (c : OnConflict) (table : Table) (t : ℕ) (target : Granule) (mode : Mode) (u : ℕ) → IsOrderly table.requests → is_waiting t table.requests ≡ false
    → (mode ≡ SH → waiters_at target table.requests ≡ []) → is_waiting u table.requests ≡ true → is_waiting u (acquired c table t target mode).requests ≡ true
acquire_lets_nobody_through c table t target mode u orderly quiet none waits =
    either_outcome (λ out. is_waiting u out.requests ≡ true) (is_allowed (level_of target) mode) (walk_on c t target mode table.limit (reverse (path target)) table.requests)
    (record { answer = Err fault.BadMode; requests = table.requests })
    (walk_keeps c t target mode table.limit (reverse (path target)) table.requests orderly quiet none u waits) waits
