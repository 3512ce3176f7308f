-- What a resolve has decided, as a transaction of the table and a call that waits have it.
use Rattle.std.proofs.Common.{◌≡◌, ℕ, zero, suc, List, [], None, Some, unwrap_or, refl, sym, ap, arith, true}
use Rattle.std.specs.Prelude.{◌==◌, not}
use Rattle.std.proofs.lemmas.Bool.{ne_eqb}
use Rattle.std.proofs.lemmas.Option.{same_Some}
use Rattle.shore_model.specs.declared.calls.Call.{Call}
use Rattle.shore_model.specs.declared.calls.Call.TheVariants as call
use Rattle.shore_model.specs.declared.calls.Outcome.TheVariants as outcome
use Rattle.laws_lives.specs.Sessions.{ResolvedTxn}
use Rattle.shore_txn.specs.Txns.{decided_of, global_of, number_of}
use Rattle.shore_txn.specs.declared.txn.Txn.{Txn}
use Rattle.shore_sessions.specs.Calls.{resolved_as}
use Rattle.shore_sessions.specs.Seated.{as_rolled, is_rolled, rolled_as}

pub none_some : (r : ResolvedTxn) → None ≡ Some r → ⊥
none_some r e = cc

pub record IsRolled (number : ℕ) (name : List ℕ) (decided : ℕ) (r : ResolvedTxn) : Type 0 where
  pub txn : number ≡ r.txn
  pub global : name ≡ r.global
  pub abort : r.outcome ≡ outcome.Abort
  pub rolled : not (decided == 0) ≡ true

rolled_by : (number : ℕ) (name : List ℕ) (decided : ℕ) (r : ResolvedTxn) → rolled_as number name decided ≡ Some r → IsRolled number name decided r
rolled_by number name zero r is = absurd (never is)
  where
    never : None ≡ Some r → ⊥
    never e = cc
rolled_by number name (suc lsn) r is =
    let same : record { txn = number; global = name; outcome = outcome.Abort } ≡ r = same_Some (record { txn = number; global = name; outcome = outcome.Abort }) r is in record {
      txn = ap (λ (x : ResolvedTxn). x.txn) same;
      global = ap (λ (x : ResolvedTxn). x.global) same;
      abort = ap (λ (x : ResolvedTxn). x.outcome) (sym same);
      rolled = ap not (ne_eqb (suc lsn) 0 (λ zero_is. omega (arith, zero_is)));
    }

pub rolled_is : (t : Txn) (r : ResolvedTxn) → as_rolled t ≡ Some r → IsRolled (number_of t) (unwrap_or (global_of t) []) (decided_of t) r
rolled_is t r is = rolled_by (number_of t) (unwrap_or (global_of t) []) (decided_of t) r is

pub is_rolled_so : (t : Txn) → is_rolled t ≡ true → as_rolled t ≡ Some record { txn = number_of t; global = unwrap_or (global_of t) []; outcome = outcome.Abort }
is_rolled_so t is = by (decided_of t) is
  where
    by : (n : ℕ) → not (n == 0) ≡ true → rolled_as (number_of t) (unwrap_or (global_of t) []) n ≡ Some record { txn = number_of t; global = unwrap_or (global_of t) []; outcome = outcome.Abort }
    by zero e = cc
    by (suc n) e = refl

pub undecided : (t : Txn) → (is_rolled t ≡ true → ⊥) → as_rolled t ≡ None
undecided t never = none (decided_of t) never
  where
    none : (n : ℕ) → (not (n == 0) ≡ true → ⊥) → rolled_as (number_of t) (unwrap_or (global_of t) []) n ≡ None
    none zero always = refl
    none (suc n) always = absurd (always (ap not (ne_eqb (suc n) 0 (λ zero_is. omega (arith, zero_is)))))

-- a call that resolves this
pub resolve_is : (t : ℕ) (c : Call) (r : ResolvedTxn) → resolved_as t c ≡ Some r → (t ≡ r.txn) × (c ≡ call.Resolve r.global r.outcome)
resolve_is t (call.Resolve global asked) r is =
    let same : record { txn = t; global = global; outcome = asked } ≡ r = same_Some (record { txn = t; global = global; outcome = asked }) r is in
    (ap (λ (x : ResolvedTxn). x.txn) same, ap (λ (x : ResolvedTxn). call.Resolve x.global x.outcome) same)
resolve_is t call.Commit r is = absurd (none_some r is)
resolve_is t (call.Prepare global) r is = absurd (none_some r is)
resolve_is t call.Begin r is = absurd (none_some r is)
resolve_is t (call.Get id) r is = absurd (none_some r is)
resolve_is t (call.GetForUpdate id) r is = absurd (none_some r is)
resolve_is t (call.Insert store bytes) r is = absurd (none_some r is)
resolve_is t (call.Update id bytes) r is = absurd (none_some r is)
resolve_is t (call.Delete id) r is = absurd (none_some r is)
resolve_is t (call.Scan store) r is = absurd (none_some r is)
resolve_is t (call.Lock at mode) r is = absurd (none_some r is)
resolve_is t (call.TryLock at mode) r is = absurd (none_some r is)
resolve_is t call.Savepoint r is = absurd (none_some r is)
resolve_is t (call.BackTo index) r is = absurd (none_some r is)
resolve_is t call.Abort r is = absurd (none_some r is)
resolve_is t call.InDoubt r is = absurd (none_some r is)
