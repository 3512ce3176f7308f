-- Who waits in the lock table is under way and has a call that waits: so it is kept while a lock is waited for and victims wait no more.
use Rattle.std.proofs.Common.{◌≡◌, ◌≢◌, inl, inr, ⊎_elim, ℕ, List, ◌∷◌, Bool, true, false, cond, None, Some, refl, ap, sym, subst, ◌∙◌}
use Rattle.std.specs.Prelude.{◌==◌, if◌then◌else◌}
use Rattle.std.proofs.lemmas.Bool.{cases_Bool, eqb-false, eqb-true, ne_eqb}
use Rattle.shore_types.specs.declared.locking.Granule.{Granule}
use Rattle.shore_types.specs.declared.locking.Mode.{Mode}
use Rattle.shore_model.specs.declared.requests.Request.{Request}
use Rattle.shore_locks.specs.Grants.{cancelled}
use Rattle.shore_locks.specs.Orderly.{IsOrderly}
use Rattle.shore_locks.specs.Tables.{Table, is_waiting}
use Rattle.shore_locks.proofs.Outcomes.{quiet_after_cancel}
use Rattle.shore_locks.proofs.Tables.{orderly_cancelled}
use Rattle.shore_path.specs.Rooted.{AreRooted}
use Rattle.shore_path.specs.Walks.{acquired}
use Rattle.shore_path.specs.declared.answers.OnConflict.{OnConflict}
use Rattle.shore_deadlock.proofs.Lockings.{gentle_cancel}
use Rattle.shore_cycles.proofs.Steps.{cancelled_keeps_quiet}
use Rattle.laws_locks.proofs.Acquired.{acquired_leaves}
use Rattle.laws_locks.proofs.Waiting.{others_stay_quiet}
use Rattle.laws_lives.specs.Views.{IsAmong}
use Rattle.laws_calls.specs.States.{Waiting}
use Rattle.laws_calls.specs.Victims.{with_cycle}
use Rattle.shore_txn.proofs.OneOfMany.{among_map}

-- Of the requests, the names of those under way and the calls that wait: who waits in the table is under way, and its session has a call that does not only
-- wait to be told of a cycle. A name is given by its number, and by its session.
pub record IsFair (rs : List Request) (names : List (ℕ × ℕ)) (ws : List Waiting) : Type 0 where
  pub orderly : IsOrderly rs
  pub rooted : AreRooted rs
  pub under : (u : ℕ) → is_waiting u rs ≡ true → (n : ℕ × ℕ) × IsAmong n names × (n.1 ≡ u)
  pub quiet : (n : ℕ × ℕ) → IsAmong n names → ((w : Waiting) → IsAmong w ws → w.cycle ≡ None → w.session ≢ n.0) → is_waiting n.1 rs ≡ false
  pub by_number : (n m : ℕ × ℕ) → IsAmong n names → IsAmong m names → n.1 ≡ m.1 → n.0 ≡ m.0
  pub by_session : (n m : ℕ × ℕ) → IsAmong n names → IsAmong m names → n.0 ≡ m.0 → n.1 ≡ m.1

opposite : {b : Bool} → b ≡ true → b ≡ false → ⊥
opposite is is_not = cc

-- who waits now waited before, if nobody began to
waited : (rs new : List Request) (u : ℕ) → (is_waiting u rs ≡ false → is_waiting u new ≡ false) → is_waiting u new ≡ true → is_waiting u rs ≡ true
waited rs new u stays waits = ⊎_elim (λ before. before) (λ not_before. absurd (opposite waits (stays not_before))) (cases_Bool (is_waiting u rs))

module _ (session t : ℕ) (names : List (ℕ × ℕ)) (own : IsAmong (session, t) names) where
  -- a call waits
  pub fair_asked : (k : OnConflict) (target : Granule) (mode : Mode) (table : Table) (ws : List Waiting) (w : Waiting) → IsFair table.requests names ws → is_waiting t table.requests ≡ false
      → w.session ≡ session → w.cycle ≡ None → IsFair (acquired k table t target mode).requests names (w ∷ ws)
  fair_asked k target mode table ws w fair idle its asks =
      let out = acquired k table t target mode in
      let leaves = acquired_leaves k table t target mode fair.orderly idle fair.rooted in
      record {
        orderly = leaves.orderly;
        rooted = leaves.rooted;
        under = λ u waits. ⊎_elim
            (λ same. ((session, t), own, sym (eqb-true u t same)))
            (λ other. fair.under u (waited table.requests out.requests u (others_stay_quiet table.requests out.requests t u leaves.others (eqb-false u t other)) waits))
            (cases_Bool (u == t));
        quiet = λ n m none.
            let other : n.1 ≢ t = λ same. none w (inl refl) asks (its ∙ sym (fair.by_number n (session, t) m own same)) in
            others_stay_quiet table.requests out.requests t n.1 leaves.others other (fair.quiet n m (λ v l. none v (inr l)));
        by_number = fair.by_number;
        by_session = fair.by_session;
      }

  -- .. and waits no more
  pub fair_woken : (rs : List Request) (ws : List Waiting) (w : Waiting) → IsFair rs names (w ∷ ws) → is_waiting t rs ≡ false → w.session ≡ session → IsFair rs names ws
  fair_woken rs ws w fair idle its = record {
    orderly = fair.orderly;
    rooted = fair.rooted;
    under = fair.under;
    quiet = λ n m none. ⊎_elim
        (λ same. subst (λ u. is_waiting u rs ≡ false) (sym (eqb-true n.1 t same)) idle)
        (λ other. fair.quiet n m (λ v l asks same. ⊎_elim
        (λ first. eqb-false n.1 t other (fair.by_session n (session, t) m own (sym same ∙ ap (λ (x : Waiting). x.session) (sym first) ∙ its)))
        (λ later. none v later asks same) l))
        (cases_Bool (n.1 == t));
    by_number = fair.by_number;
    by_session = fair.by_session;
  }

-- a victim waits no more, and its call waits to be told
pub fair_victim : (rs : List Request) (names : List (ℕ × ℕ)) (ws : List Waiting) → IsFair rs names ws → (n : ℕ × ℕ) → IsAmong n names → (cycle : List ℕ)
    → IsFair (cancelled n.1 rs) names (with_cycle n.0 cycle ws)
fair_victim rs names ws fair n m cycle = record {
  orderly = orderly_cancelled n.1 rs fair.orderly;
  rooted = (gentle_cancel n.1 n.1 rs fair.orderly).rooted fair.rooted;
  under = λ u waits. fair.under u (waited rs (cancelled n.1 rs) u (cancelled_keeps_quiet rs n.1 u fair.orderly.one_each) waits);
  quiet = λ o k none. ⊎_elim
      (λ same. subst (λ u. is_waiting u (cancelled n.1 rs) ≡ false) (sym (eqb-true o.1 n.1 same)) (quiet_after_cancel n.1 rs fair.orderly))
      (λ other. cancelled_keeps_quiet rs n.1 o.1 fair.orderly.one_each (fair.quiet o k (λ w l asks same.
      let apart : w.session ≢ n.0 = λ e. eqb-false o.1 n.1 other (fair.by_session o n k m (sym same ∙ e)) in
      none w (subst (λ x. IsAmong x (with_cycle n.0 cycle ws)) (as_it_was w apart) (among_map told w ws l)) asks same)))
      (cases_Bool (o.1 == n.1));
  by_number = fair.by_number;
  by_session = fair.by_session;
}
  where
    told : Waiting → Waiting
    told w = if w.session == n.0 then record { session = w.session; call = w.call; wait = w.wait; cycle = Some cycle } else w

    as_it_was : (w : Waiting) → w.session ≢ n.0 → told w ≡ w
    as_it_was w apart = ap (λ b. cond b (record { session = w.session; call = w.call; wait = w.wait; cycle = Some cycle }) w) (ne_eqb w.session n.0 apart)
