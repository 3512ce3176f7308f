-- An open of an empty log.
use Rattle.std.proofs.Common.{◌<◌, ℕ, [], refl, arith, Option, None, sym, ap, ◌∙◌, subst, false, ◌≡◌}
use Rattle.std.specs.FinMap.{empty, get-empty}
use Rattle.std.specs.Prelude.{Contains, unwrap_or, All}
use Rattle.std.proofs.lemmas.List.Elements.{All-nil}
use Rattle.shore_types.specs.Ids.{rid_cmp}
use Rattle.shore_types.specs.Images.{Image}
use Rattle.shore_model.proofs.Maps.{get_id}
use Rattle.shore_model.specs.declared.holds.Hold.{Hold}
use Rattle.shore_model.specs.declared.requests.Request.{Request}
use Rattle.shore_locks.proofs.Tables.{orderly_none}
use Rattle.shore_locks.specs.Orderly.{IsOrderly}
use Rattle.shore_locks.specs.Tables.{is_waiting}
use Rattle.shore_model.specs.Requests.{held_by_all}
use Rattle.shore_path.specs.Rooted.{AreRooted, IsRootedRequest}
use Rattle.laws_lives.proofs.LifeSteps.{format_may_be_found, format_opens}
use Rattle.laws_lives.specs.Soundness.{opening_with}
use Rattle.laws_calls.specs.CallHistories.{HasGrantedLocks, IsOpened}
use Rattle.laws_calls.specs.States.{State}
use Rattle.laws_calls.specs.WorkedRun.{opened_empty}

none_held : (h : Hold) → Contains [] h → ⊥
none_held h in_none = absurd (omega (arith, in_none.1))

-- a table with no request
pub none_granted : (s : State) → s.sessions.held ≡ [] → s.locks.requests ≡ [] → HasGrantedLocks s
none_granted s held requests = record {
  held = held ∙ sym (ap held_by_all requests);
  orderly = subst IsOrderly (sym requests) orderly_none;
  rooted = subst AreRooted (sym requests) (All-nil (IsRootedRequest []));
  below = subst (All (λ r. r.txn < s.sessions.next_txn)) (sym requests) (All-nil (λ (r : Request). r.txn < s.sessions.next_txn));
  nobody_waits = λ t. subst (λ rs. is_waiting t rs ≡ false) (sym requests) refl;
}

pub empty_is_opened : (slots stream_bytes : ℕ) → IsOpened (opening_with slots empty) [] (opened_empty slots stream_bytes)
empty_is_opened slots stream_bytes = record {
  on = record {
    slots = refl;
    records = λ id. get-empty rid_cmp id ∙ sym (ap (λ (image : Option Image). unwrap_or image None) (get_id [] id));
    seats = λ n. refl;
    resolving = refl;
    prepared = refl;
    active = refl;
    once = tt;
    undo_lists = λ a m. absurd m;
    locks = record { each = λ h among. absurd (none_held h among); all = λ d g among. absurd among; above = λ d g a among. absurd among };
    some = omega arith;
    lawful = format_may_be_found.lawful;
    doubts = format_may_be_found.doubts;
    opening = format_opens slots;
    no_losers = λ t loser. let known = loser.known in omega arith;
    below = tt;
  };
  log = refl;
  least = λ n some above. omega arith;
  durable = refl;
  waiting = refl;
  running = refl;
  locks = none_granted (opened_empty slots stream_bytes) refl refl;
  few = omega arith;
}
