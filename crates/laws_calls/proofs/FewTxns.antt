-- There are no more transactions than a manager may have.
use Rattle.std.proofs.Common.{◌+◌, ◌≤◌, ℕ, List, [], ◌∷◌, sym, subst, length}
use Rattle.shore_types.specs.declared.layout.Geometry.{Geometry}
use Rattle.shore_types.specs.declared.layout.TheConstants.{MAX_TRANSACTIONS}
use Rattle.shore_model.specs.declared.histories.Entry.{Entry}
use Rattle.laws_lives.specs.SessionSteps.{SessionEvent}
use Rattle.laws_lives.specs.Sessions.{Sessions}
use Rattle.laws_calls.proofs.Links.{GoesBy, GoesQuietly, left_like}
use Rattle.laws_calls.specs.CallSteps.{ended_among, txn_count}
use Rattle.laws_calls.specs.States.{State}

by_few : (g : Geometry) (s : State) (events : List SessionEvent) (new : State) (made : List Entry) → GoesBy g s events new made → txn_count s ≤ MAX_TRANSACTIONS → txn_count new ≤ MAX_TRANSACTIONS
by_few g s [] new made h few = subst (λ (x : State). txn_count x ≤ MAX_TRANSACTIONS) (sym h.0) few
by_few g s (e ∷ events) new made h few = by_few g h.0 events new h.1 h.3 (h.2.few few)

pub quietly_few : (g : Geometry) (session : ℕ) (s new : State) (made : List Entry) → GoesQuietly g session s new made → txn_count s ≤ MAX_TRANSACTIONS → txn_count new ≤ MAX_TRANSACTIONS
quietly_few g session s new made h few =
    let like = left_like session h.mid new h.left in
    let mid = by_few g s h.events h.mid made h.goes few in
    subst (λ (n : Sessions). length n.active + length (ended_among n.active n.resolving) ≤ MAX_TRANSACTIONS) (sym like.sessions) mid
