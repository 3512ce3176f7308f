-- What stays of a state's calls that wait, and of what is forced, while its log grows and its history goes on.
use Rattle.std.proofs.Common.{◌≡◌, ◌++◌, ◌≤◌, ◌+◌, ℕ, List, [], ◌∷◌, None, sym, ap, subst, ◌∙◌, length, take, arith, length-append}
use Rattle.std.specs.Prelude.{Contains}
use Rattle.std.proofs.lemmas.List.Elements.{All-weaker}
use Rattle.shore_model.specs.declared.histories.Decision.{Decision}
use Rattle.shore_model.specs.declared.histories.Entry.{Entry}
use Rattle.shore_model.specs.declared.log_records.LogRecord.{LogRecord}
use Rattle.shore_model.specs.Histories.{acknowledged, acknowledged_by, ticket_in}
use Rattle.laws_lives.specs.LogPrefixes.{decisions_in}
use Rattle.laws_calls.proofs.Acknowledged.{acknowledges_none}
use Rattle.laws_calls.proofs.Elements.{in_grown}
use Rattle.laws_calls.specs.CallHistories.{IsPrefix, IsForced}
use Rattle.laws_calls.specs.States.{State}
use Rattle.laws_lives.proofs.Tickets.{still_tickets, none_more}
use Rattle.laws_lives.specs.Tickets.{AreTickets}

pub still_there : (base n : ℕ) (log log' : List LogRecord) (d : Decision) → IsPrefix log log' → n ≤ length log → Contains (decisions_in base (take n log)) d
    → (n ≤ length log') × Contains (decisions_in base (take n log')) d
still_there base n log log' d on within h =
    let longer : length log' ≡ length log + length on.0 = ap length on.1 ∙ length-append log on.0 in
    (omega arith, subst (λ l. Contains (decisions_in base (take n l)) d) (sym on.1) (in_grown base n log on.0 d within h))

-- each ticket stays the number of its Commit
pub tickets_grown : (base : ℕ) (es : List Entry) (s new : State) → IsPrefix s.log new.log → AreTickets base s.log es → AreTickets base new.log es
tickets_grown base es s new on k = subst (λ log. AreTickets base log es) (sym on.1) (still_tickets base s.log on.0 es k)

-- an entry that acknowledges nothing, and gives no ticket
pub forced_grown : (base : ℕ) (es : List Entry) (e : Entry) (s new : State) → new.durable ≡ s.durable → IsPrefix s.log new.log → acknowledged_by es e ≡ [] → ticket_in e ≡ None
    → IsForced base es s → IsForced base (es ++ e ∷ []) new
forced_grown base es e s new same on none no_ticket k =
    let longer : length new.log ≡ length s.log + length on.0 = ap length on.1 ∙ length-append s.log on.0 in
    let least = k.least in
    let most = k.most in
    record {
      least = omega arith;
      most = omega arith;
      acknowledged_kept =
          acknowledges_none (Contains (decisions_in base (take new.durable new.log))) es
          (All-weaker (Contains (decisions_in base (take s.durable s.log))) (Contains (decisions_in base (take new.durable new.log)))
          (λ d h. subst (λ n. Contains (decisions_in base (take n new.log)) d) (sym same) (still_there base s.durable s.log new.log d on k.most h).1)
          (acknowledged es) k.acknowledged_kept)
          e none;
      tickets = none_more base new.log es (tickets_grown base es s new on k.tickets) e no_ticket;
    }
