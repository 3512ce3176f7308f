-- What a lock leaves of the requests of others: each stays or is granted, but for those that victims wait with, and none comes.
use Rattle.std.proofs.Common.{◌≡◌, ◌⊎◌, inl, inr, ⊎_elim, ℕ, List, [], ◌∷◌, Bool, true, false, Option, None, Some, refl, ap, sym, subst, ◌∙◌, reverse}
use Rattle.std.specs.Prelude.{cond, is_some, not, Err}
use Rattle.shore_types.specs.declared.faults.Fault.TheVariants as fault
use Rattle.shore_types.specs.declared.locking.Granule.{Granule}
use Rattle.shore_types.specs.declared.locking.Mode.{Mode}
use Rattle.shore_types.specs.Locking.{level_of}
use Rattle.shore_model.specs.declared.requests.Request.{Request}
use Rattle.shore_model.specs.Locks.{path}
use Rattle.shore_model.specs.Modes.{is_allowed}
use Rattle.shore_model.specs.Requests.{AreRequests, are_alike, placed_last}
use Rattle.shore_locks.specs.Grants.{asking, cancelled, granted, passed, put, removed, replaced, taken_back_if, withdrawn}
use Rattle.shore_locks.specs.Tables.{Table, is_waiting, waiters_at, waiting_request}
use Rattle.shore_locks.proofs.Members.{In, In-filter, either, filter-In}
use Rattle.shore_locks.proofs.Keys.{alike-Decides, only_one}
use Rattle.shore_locks.proofs.Fits.{Fit, Fit-filter, Fit-passed, Fit-withdrawn, In-placed, In-replaced, pass_keeps, wants_nothing}
use Rattle.shore_locks.proofs.Entering.{AreRequests-put, In-put}
use Rattle.shore_path.specs.declared.answers.OnConflict.{OnConflict}
use Rattle.shore_path.specs.Walks.{acquired, asked_of}
use Rattle.shore_path.proofs.Growing.{Fit-grant, quiet_grant}
use Rattle.shore_path.proofs.Moving.{Onto, onto_placed, onto_put, onto_replaced}
use Rattle.shore_path.proofs.Walking.{EachCase, of_walk, walk_on}
use Rattle.shore_cycles.specs.declared.victims.Victim.{Victim}
use Rattle.shore_cycles.specs.Blockers.{is_victim}
use Rattle.shore_cycles.specs.Cycles.{after_victims}
use Rattle.shore_deadlock.proofs.AcquireLemmas.{allowed_case}
use Rattle.shore_cycles.proofs.Edges.{clash}
use Rattle.shore_cycles.proofs.Steps.{waits_as}
use Rattle.shore_cycles.proofs.VictimLemmas.{first_victim, later_spared}

-- a request is there as it was or, if it waited, with what it wanted held
abbrev Stays : Request → List Request → Type 0
Stays r new = In r new ⊎ ((is_some r.wanted ≡ true) × In (granted r) new)

-- one that waited holds now what it wanted
abbrev GrantedFrom : List Request → Request → Type 0
GrantedFrom old r = (q : Request) × In q old × (is_some q.wanted ≡ true) × (r ≡ granted q)

-- one wants no more than it holds
abbrev TakenFrom : List Request → Request → Type 0
TakenFrom old r = (q : Request) × In q old × (r ≡ withdrawn q)

abbrev Comes : List Victim → List Request → Request → Type 0
Comes vs old r = In r old ⊎ (GrantedFrom old r ⊎ ((is_victim vs r.txn ≡ true) × TakenFrom old r))

pub record Spares (t : ℕ) (vs : List Victim) (old new : List Request) : Type 0 where
  pub stays : (r : Request) → In r old → (r.txn ≡ t → ⊥) → is_victim vs r.txn ≡ false → Stays r new
  pub comes : (r : Request) → In r new → (r.txn ≡ t → ⊥) → Comes vs old r

pub spares_self : (t : ℕ) (vs : List Victim) (rs : List Request) → Spares t vs rs rs
spares_self t vs rs = record { stays = λ r h other spared. inl h; comes = λ r h other. inl h }

-- ---- one change after another

idle : (q : Request) → q.wanted ≡ None → is_some q.wanted ≡ true → ⊥
idle q none wants = wants_nothing q.wanted none wants

comes_on : (vs : List Victim) (a b : List Request) (r : Request) → ((q : Request) → In q b → q.txn ≡ r.txn → Comes vs a q) → Comes vs b r → Comes vs a r
comes_on vs a b r from =
    ⊎_elim (λ stood. from r stood refl)
    (⊎_elim
    (λ was. ⊎_elim
    (λ stood. inr (inl (was.0, stood, was.2, was.3)))
    (⊎_elim
    (λ earlier. absurd (idle was.0 (ap (λ (x : Request). x.wanted) earlier.3) was.2))
    (λ taken. absurd (idle was.0 (ap (λ (x : Request). x.wanted) taken.1.2) was.2)))
    (from was.0 was.1 (sym (ap (λ (x : Request). x.txn) was.3))))
    (λ taken. ⊎_elim
    (λ stood. inr (inr (taken.0, (taken.1.0, stood, taken.1.2))))
    (⊎_elim
    (λ was. inr (inl (was.0, was.1, was.2, taken.1.2 ∙ ap withdrawn was.3)))
    (λ earlier. inr (inr (taken.0, (earlier.1.0, earlier.1.1, taken.1.2 ∙ ap withdrawn earlier.1.2)))))
    (from taken.1.0 taken.1.1 (sym (ap (λ (x : Request). x.txn) taken.1.2)))))

pub spares_on : (t : ℕ) (vs : List Victim) (a b d : List Request) → Spares t vs a b → Spares t vs b d → Spares t vs a d
spares_on t vs a b d g h = record {
  stays = λ r there other spared.
      ⊎_elim
      (λ stood. h.stays r stood other spared)
      (λ was. ⊎_elim (λ held. inr (was.0, held)) (λ again. absurd (idle (granted r) refl again.0)) (h.stays (granted r) was.1 other spared))
      (g.stays r there other spared);
  comes = λ r there other. comes_on vs a b r (λ q i same. g.comes q i (λ e. other (sym same ∙ e))) (h.comes r there other);
}

-- those who are spared by more victims are spared by fewer
abbrev pub AreAmong : List Victim → List Victim → Type 0
AreAmong vs ws = (u : ℕ) → is_victim ws u ≡ false → is_victim vs u ≡ false

among_yes : (vs ws : List Victim) → AreAmong vs ws → (u : ℕ) → is_victim vs u ≡ true → is_victim ws u ≡ true
among_yes vs ws among u one = ⊎_elim (λ it. it) (λ no. absurd (clash one (among u no))) (either (is_victim ws u))

pub spares_more : (t : ℕ) (vs ws : List Victim) (a b : List Request) → AreAmong vs ws → Spares t vs a b → Spares t ws a b
spares_more t vs ws a b among g = record {
  stays = λ r there other spared. g.stays r there other (among r.txn spared);
  comes = λ r there other. ⊎_elim (λ stood. inl stood) (λ rest. inr (⊎_elim (λ was. inl was) (λ taken. inr (among_yes vs ws among r.txn taken.0, taken.1)) rest)) (g.comes r there other);
}

-- ---- grants

spares_grant : (t : ℕ) (vs : List Victim) (rs : List Request) (w : Request) → AreRequests rs → In w rs → is_some w.wanted ≡ true → Spares t vs rs (replaced (granted w) rs)
spares_grant t vs rs w one there wants = record {
  stays = λ r h other spared.
      ⊎_elim
      (λ taken. let same : w ≡ r = sym (only_one rs one r w h there taken.0) in inr (subst (λ (x : Request). is_some x.wanted ≡ true) same wants, subst (λ x. In (granted x) (replaced (granted w) rs)) same taken.1))
      (λ still. inl still)
      (onto_replaced (granted w) rs r h);
  comes = λ r h other. ⊎_elim (λ e. inr (inl (w, there, wants, e))) (λ o. inl o.0) (In-replaced (granted w) rs r h);
}

spares_passed : (t : ℕ) (vs : List Victim) (g : Granule) (rs : List Request) → AreRequests rs → Spares t vs rs (passed g rs)
spares_passed t vs g rs one =
    pass_keeps (Spares t vs rs) g (λ xs w so_far ones there at wants can. spares_on t vs rs xs (replaced (granted w) xs) so_far (spares_grant t vs xs w ones there wants))
    (waiters_at g rs) rs one refl (spares_self t vs rs)

-- ---- a request of the transaction's own

spares_own : (t : ℕ) (vs : List Victim) (q : Request) (rs new : List Request) → q.txn ≡ t → Onto q rs new → ((r : Request) → In r new → (r ≡ q) ⊎ (In r rs × (are_alike r q ≡ false))) → Spares t vs rs new
spares_own t vs q rs new its onto from = record {
  stays = λ r h other spared. ⊎_elim (λ taken. absurd (other (((alike-Decides r q).0 taken.0).0 ∙ its))) (λ still. inl still) (onto r h);
  comes = λ r h other. ⊎_elim (λ e. absurd (other (ap (λ (x : Request). x.txn) e ∙ its))) (λ o. inl o.0) (from r h);
}

module _ (c : OnConflict) (t : ℕ) (target : Granule) (mode : Mode) (limit : ℕ) (vs : List Victim) where
  spares_case : EachCase c t target mode limit (λ way rs out. Fit rs → is_waiting t rs ≡ false → Spares t vs rs out.requests)
  spares_case = record {
    over = λ rs fit quiet. spares_self t vs rs;
    spared = λ g below rs is fit quiet. spares_self t vs rs;
    full = λ g below rs is fit quiet. spares_self t vs rs;
    waits = λ g below rs o is stopped fit quiet.
        let asked = asking t g (asked_of target mode g) rs in
        spares_own t vs asked rs (placed_last asked rs) refl (onto_placed asked rs) (In-placed asked rs);
    blocked = λ g below rs o is stopped fit quiet. spares_self t vs rs;
    holds = λ g below rs enough rest fit quiet. rest fit quiet;
    grants = λ g below rs less room free rest fit quiet.
        let asked = asking t g (asked_of target mode g) rs in
        let first = spares_own t vs (granted asked) rs (put (granted asked) rs) refl (onto_put (granted asked) rs) (In-put (granted asked) rs) in
        let pass = spares_passed t vs g (put (granted asked) rs) (AreRequests-put (granted asked) rs fit.one) in
        spares_on t vs rs (passed g (put (granted asked) rs)) _ (spares_on t vs rs (put (granted asked) rs) (passed g (put (granted asked) rs)) first pass)
        (rest (Fit-grant t g (asked_of target mode g) rs fit free) (quiet_grant limit t g (asked_of target mode g) rs fit.one quiet less room free));
  }

pub spares_acquired : (c : OnConflict) (table : Table) (t : ℕ) (target : Granule) (mode : Mode) (vs : List Victim) → Fit table.requests → is_waiting t table.requests ≡ false
    → Spares t vs table.requests (acquired c table t target mode).requests
spares_acquired c table t target mode vs fit quiet =
    allowed_case (λ out. Spares t vs table.requests out.requests) (is_allowed (level_of target) mode)
    (walk_on c t target mode table.limit (reverse (path target)) table.requests) (record { answer = Err fault.BadMode; requests = table.requests })
    (of_walk c t target mode table.limit (λ way rs out. Fit rs → is_waiting t rs ≡ false → Spares t vs rs out.requests) (spares_case c t target mode table.limit vs)
    (reverse (path target)) table.requests fit quiet)
    (spares_self t vs table.requests)

-- ---- the waits of victims, and of the transaction itself, are taken back

abbrev IsLost : ℕ → List Victim → ℕ → Type 0
IsLost t vs u = (u ≡ t) ⊎ (is_victim vs u ≡ true)

not_lost : (t u v : ℕ) (vs : List Victim) → IsLost t vs v → (u ≡ t → ⊥) → is_victim vs u ≡ false → u ≡ v → ⊥
not_lost t u v vs lost other spared same =
    ⊎_elim (λ own. other (same ∙ own)) (λ one. clash (subst (λ x. is_victim vs x ≡ true) (sym same) one) spared) lost

module _ (t : ℕ) (vs : List Victim) (rs : List Request) (q : Request) (lost : IsLost t vs q.txn) where
  apart : (r : Request) → (r.txn ≡ t → ⊥) → is_victim vs r.txn ≡ false → are_alike r q ≡ false
  apart r other spared = ⊎_elim (λ alike. absurd (not_lost t r.txn q.txn vs lost other spared ((alike-Decides r q).0 alike).0)) (λ no. no) (either (are_alike r q))

  spares_removed : Spares t vs rs (removed q rs)
  spares_removed = record {
    stays = λ r h other spared. inl (filter-In (λ x. not (are_alike x q)) rs r h (ap not (apart r other spared)));
    comes = λ r h other. inl (In-filter (λ x. not (are_alike x q)) rs r h).0;
  }

  spares_withdrawn : In q rs → Spares t vs rs (replaced (withdrawn q) rs)
  spares_withdrawn there = record {
    stays = λ r h other spared. ⊎_elim (λ taken. absurd (clash taken.0 (apart r other spared))) (λ still. inl still) (onto_replaced (withdrawn q) rs r h);
    comes = λ r h other.
        ⊎_elim
        (λ e. ⊎_elim (λ own. absurd (other (ap (λ (x : Request). x.txn) e ∙ own)))
        (λ one. inr (inr (subst (λ u. is_victim vs u ≡ true) (sym (ap (λ (x : Request). x.txn) e)) one, (q, there, e)))) lost)
        (λ o. inl o.0)
        (In-replaced (withdrawn q) rs r h);
  }

  fit_and_spares : (b : Bool) → is_some q.held ≡ b → Fit rs → In q rs → Fit (cond b (replaced (withdrawn q) rs) (removed q rs)) × Spares t vs rs (cond b (replaced (withdrawn q) rs) (removed q rs))
  fit_and_spares true is fit there = (Fit-withdrawn rs q fit there is, spares_withdrawn there)
  fit_and_spares false is fit there = (Fit-filter (λ x. not (are_alike x q)) rs fit, spares_removed)

spares_taken : (t v : ℕ) (vs : List Victim) (rs : List Request) (o : Option Request) → waiting_request v rs ≡ o → IsLost t vs v → Fit rs → Fit (taken_back_if o rs) × Spares t vs rs (taken_back_if o rs)
spares_taken t v vs rs None is lost fit = (fit, spares_self t vs rs)
spares_taken t v vs rs (Some q) is lost fit =
    let waits = waits_as v rs q is in
    let stopped = cond (is_some q.held) (replaced (withdrawn q) rs) (removed q rs) in
    let both = fit_and_spares t vs rs q (subst (IsLost t vs) (sym waits.by) lost) (is_some q.held) refl fit waits.there in
    (Fit-passed q.granule stopped both.0, spares_on t vs rs stopped (passed q.granule stopped) both.1 (spares_passed t vs q.granule stopped both.0.one))

pub spares_cancelled : (t v : ℕ) (vs : List Victim) (rs : List Request) → IsLost t vs v → Fit rs → Fit (cancelled v rs) × Spares t vs rs (cancelled v rs)
spares_cancelled t v vs rs lost fit = spares_taken t v vs rs (waiting_request v rs) refl lost fit

pub spares_victims : (t : ℕ) (vs : List Victim) (rs : List Request) → Fit rs → Fit (after_victims vs rs) × Spares t vs rs (after_victims vs rs)
spares_victims t [] rs fit = (fit, spares_self t [] rs)
spares_victims t (v ∷ vs) rs fit =
    let first = spares_cancelled t v.txn (v ∷ vs) rs (inr (first_victim v vs v.txn refl)) fit in
    let rest = spares_victims t vs (cancelled v.txn rs) first.0 in (
      rest.0,
      spares_on t (v ∷ vs) rs (cancelled v.txn rs) (after_victims vs (cancelled v.txn rs)) first.1
          (spares_more t vs (v ∷ vs) (cancelled v.txn rs) (after_victims vs (cancelled v.txn rs)) (λ u spared. later_spared v vs u spared) rest.1),
    )
