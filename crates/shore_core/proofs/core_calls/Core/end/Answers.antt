use Rattle.std.proofs.Common.{◌≡◌, ◌+◌, ◌∷◌, [], ℕ, true, false, length, length-append, refl, sym, ap, subst, ◌∙◌, arith, eqb}
use Rattle.std.proofs.lemmas.Bool.{eqb-true}
use Rattle.shore_model.specs.declared.log_records.LogRecord.{LogRecord}
use Rattle.shore_model.specs.declared.log_records.Payload.TheVariants.{End}
use Rattle.shore_model.specs.Logs.{previous_of}
use Rattle.laws_lives.specs.Sessions.{SessionTxn}
use Rattle.laws_lives.specs.Views.{IsAmong}
use Rattle.shore_txn.specs.Transactions as table
use Rattle.shore_txn.specs.Txns.{as_session_txn}
use Rattle.shore_sessions.specs.Controls.{txns_in}
use Rattle.shore_sessions.specs.Standing.{IsLogged}
use Rattle.laws_calls.specs.Resolves.{resolved_by_rollback}
use Rattle.shore_sessions.proofs.Seats.{active_above}
use Rattle.shore_core.specs.Cores.{first_of, geometry_of, txns_of, waiting_of}
use Rattle.shore_core.proofs.Ended.{done_logged, rolls_logged}
use Rattle.shore_core.proofs.Ending.{earlier_others, ended_logged, ended_unlogged, some_left}
use Rattle.shore_core.proofs.Leaving.{comes_lacking, earlier_left}
use Rattle.shore_core.proofs.Tables.{each_among, none_told, some_told}
use Rattle.shore_core.proofs.Undoing.{none_of, own_is}
use Rattle.shore_core.proofs.Serving.{nothing_called}
use Rattle.shore_core.proofs.Keeping.{both}
use Rattle.shore_core.proofs.core_calls.Core.end.Goals as goal

pub returns-then-is_some-clause-ended : goal.returns-then-is_some-clause-ended
returns-then-is_some-clause-ended g c running front disk before s store is safe over a of number_is empty =
    let own = c.txn-own.result.now in
    let newest = some_told _ c.newest.result (sym c.is_some.ensures ∙ c.if-is_some.true) c.newest.ensures.some in
    absurd (some_left (txns_of c.args.self.now) own c.txn-own.ensures.there a (subst (IsAmong a) is.beside.parts.stands.txns.active of.0.0) (number_is ∙ sym c.txn-own.ensures.number)
    newest.1.0 newest.0.now newest.1.1 empty)

pub end_abort-requires-clause-empty : goal.end_abort-requires-clause-empty
end_abort-requires-clause-empty g c a among is =
    none_of (txns_of c.args.self.now) c.txn-own.result.now c.txn-own.ensures.there a among (is ∙ sym c.txn-own.ensures.number)
    (none_told c.newest.result (sym c.is_some.ensures ∙ c.if-is_some.false) c.newest.ensures.none)

pub invariant_of-self : goal.invariant_of-self
invariant_of-self g c =
    let old = c.args.self.now in
    record {
      some_number = old.some_number;
      forced = old.forced;
      numbers = omega (arith, c.end_abort.ensures.reserved, old.numbers);
      earlier = earlier_others (txns_of old) (txns_in c.end_abort.new.self) c.end_abort.ensures.left (first_of old + length (waiting_of old)) old.earlier;
    }

pub returns-then-eq-clause-ended : goal.returns-then-eq-clause-ended
returns-then-eq-clause-ended g c running front disk before s store is safe over a of number_is empty =
    let old = c.args.self.now in
    let own = c.txn-own.result.now in
    let stands = is.beside.parts.stands in
    let same : a ≡ as_session_txn own = own_is (txns_of old) own c.txn-own.ensures.there a (subst (IsAmong a) stands.txns.active of.0.0) (number_is ∙ sym c.txn-own.ensures.number) in
    let logged = each_among (IsLogged s.log) (table.txns_in (txns_of old)) stands.txns.each own c.txn-own.ensures.among in
    let nothing : previous_of a.txn s.log ≡ 0 =
    ap (λ (b : SessionTxn). previous_of b.txn s.log) same ∙ sym logged.last ∙ sym c.last-previous.ensures ∙ eqb-true c.last-previous.result 0 (sym c.eq.ensures ∙ c.if-eq.true) in
    ended_unlogged (geometry_of c.args.self.now).version old _ front disk before s store is over safe.roomy.pages a of.0.0 empty refl refl refl refl c.end_abort.ensures.claims refl nothing (c.end_abort.ensures.stands s a stands of number_is)

pub end_abort-requires-in-Ok-clause-empty : goal.end_abort-requires-in-Ok-clause-empty
end_abort-requires-in-Ok-clause-empty g c a among is =
    none_of (txns_of c.args.self.now) c.txn-own.result.now c.txn-own.ensures.there a among (is ∙ sym c.txn-own.ensures.number)
    (none_told c.newest.result (sym c.is_some.ensures ∙ c.if-is_some.false) c.newest.ensures.none)

pub invariant_of-self-in-Ok : goal.invariant_of-self-in-Ok
invariant_of-self-in-Ok g c =
    let old = c.args.self.now in
    let r : LogRecord = record { txn = c.id-txn.result; previous = c.last-previous.result; payload = End } in
    let next : first_of old + length (waiting_of old) + 1 ≡ g.T.Tail.first c.push.new.self + length (g.T.Tail.records c.push.new.self) =
    let long = length-append (waiting_of old) (r ∷ []) in let more = ap length c.in-Ok.ensures.added in omega (arith, long, more, c.push.ensures.first) in
    record {
      some_number = omega (arith, next);
      forced = omega (arith, next, old.forced);
      numbers = omega (arith, next, c.end_abort-in-Ok.ensures.reserved, old.numbers);
      earlier = λ t m. omega (arith, next, earlier_left (txns_of old) (txns_in c.end_abort-in-Ok.new.self) c.end_abort-in-Ok.ensures.left (first_of old + length (waiting_of old)) old.earlier t m);
    }

pub returns-in-Ok-clause-ended : goal.returns-in-Ok-clause-ended
returns-in-Ok-clause-ended g c running front disk before s store is safe over a of number_is empty =
    let old = c.args.self.now in
    let own = c.txn-own.result.now in
    let stands = is.beside.parts.stands in
    let same : a ≡ as_session_txn own = own_is (txns_of old) own c.txn-own.ensures.there a (subst (IsAmong a) stands.txns.active of.0.0) (number_is ∙ sym c.txn-own.ensures.number) in
    let logged = each_among (IsLogged s.log) (table.txns_in (txns_of old)) stands.txns.each own c.txn-own.ensures.among in
    let last : c.last-previous.result ≡ previous_of a.txn s.log = c.last-previous.ensures ∙ logged.last ∙ ap (λ (b : SessionTxn). previous_of b.txn s.log) (sym same) in
    let number : c.id-txn.result ≡ a.txn = c.id-txn.ensures.number ∙ ap (λ (b : SessionTxn). b.txn) (sym same) in
    let r : LogRecord = record { txn = c.id-txn.result; previous = c.last-previous.result; payload = End } in
    ended_logged (geometry_of c.args.self.now).version old _ front disk before s store is over safe.roomy.pages a of.0.0 empty refl c.push.ensures.first refl refl c.end_abort-in-Ok.ensures.claims r
    (ap (λ n. record { txn = n; previous = c.last-previous.result; payload = End }) number ∙ ap (λ n. record { txn = a.txn; previous = n; payload = End }) last)
    c.in-Ok.ensures.added
    (λ none. zero_differs c.last-previous.result (last ∙ none) (sym c.eq.ensures ∙ c.if-eq.false))
    (c.end_abort-in-Ok.ensures.stands s a stands of number_is)
  where
    zero_differs : (n : ℕ) → n ≡ 0 → eqb n 0 ≡ false → ⊥
    zero_differs n is other = clash (sym (subst (λ m. eqb m 0 ≡ true) (sym is) refl) ∙ other)
      where
        clash : true ≡ false → ⊥
        clash e = cc

pub invariant_of-self-in-Err-1 : goal.invariant_of-self-in-Err-1
invariant_of-self-in-Err-1 g c =
    let old = c.args.self.now in
    let same = ap length c.in-Err.ensures.none_added in
    let first = c.push.ensures.first in
    record {
      some_number = omega (arith, same, first, old.some_number);
      forced = omega (arith, same, first, old.forced);
      numbers = omega (arith, same, first, old.numbers);
      earlier = λ t m. omega (arith, same, first, old.earlier t m);
    }

pub returns-clause-ended : goal.returns-clause-ended
returns-clause-ended g c running front disk before s store is safe over a of number_is empty = (
  c.in-Err.ensures.refused,
  comes_lacking c.args.self.now _ front disk before s store refl c.push.ensures.first c.in-Err.ensures.none_added refl refl refl is.beside.parts.stands is over,
)

pub returns-in-Ok-clause-no_call : goal.returns-in-Ok-clause-no_call
returns-in-Ok-clause-no_call g c = nothing_called _ _ refl refl (both c.push.ensures.first c.push.ensures.told) refl

pub returns-clause-no_call : goal.returns-clause-no_call
returns-clause-no_call g c = nothing_called _ _ refl refl (both c.push.ensures.first c.push.ensures.told) refl

pub returns-then-eq-clause-no_call : goal.returns-then-eq-clause-no_call
returns-then-eq-clause-no_call g c = nothing_called _ _ refl refl refl refl

pub returns-then-is_some-clause-resolves : goal.returns-then-is_some-clause-resolves
returns-then-is_some-clause-resolves g c running front disk before s store is safe over a global at rolls empty =
    let own = c.txn-own.result.now in
    let newest = some_told _ c.newest.result (sym c.is_some.ensures ∙ c.if-is_some.true) c.newest.ensures.some in
    absurd (some_left (txns_of c.args.self.now) own c.txn-own.ensures.there a (subst (IsAmong a) is.beside.parts.stands.txns.active at.0) (at.1 ∙ sym c.txn-own.ensures.number)
    newest.1.0 newest.0.now newest.1.1 empty)

pub returns-then-eq-clause-resolves : goal.returns-then-eq-clause-resolves
returns-then-eq-clause-resolves g c running front disk before s store is safe over a global at rolls empty =
    let old = c.args.self.now in
    let own = c.txn-own.result.now in
    let stands = is.beside.parts.stands in
    let same : a ≡ as_session_txn own = own_is (txns_of old) own c.txn-own.ensures.there a (subst (IsAmong a) stands.txns.active at.0) (at.1 ∙ sym c.txn-own.ensures.number) in
    let logged = each_among (IsLogged s.log) (table.txns_in (txns_of old)) stands.txns.each own c.txn-own.ensures.among in
    let nothing : previous_of a.txn s.log ≡ 0 =
    ap (λ (b : SessionTxn). previous_of b.txn s.log) same ∙ sym logged.last ∙ sym c.last-previous.ensures ∙ eqb-true c.last-previous.result 0 (sym c.eq.ensures ∙ c.if-eq.true) in
    absurd (rolls_logged (geometry_of old) s safe a global rolls (active_above (txns_of old) s stands.txns a at.0) nothing)

pub returns-in-Ok-clause-resolves : goal.returns-in-Ok-clause-resolves
returns-in-Ok-clause-resolves g c running front disk before s store is safe over a global at rolls empty =
    let old = c.args.self.now in
    let own = c.txn-own.result.now in
    let stands = is.beside.parts.stands in
    let same : a ≡ as_session_txn own = own_is (txns_of old) own c.txn-own.ensures.there a (subst (IsAmong a) stands.txns.active at.0) (at.1 ∙ sym c.txn-own.ensures.number) in
    let logged = each_among (IsLogged s.log) (table.txns_in (txns_of old)) stands.txns.each own c.txn-own.ensures.among in
    let last : c.last-previous.result ≡ previous_of a.txn s.log = c.last-previous.ensures ∙ logged.last ∙ ap (λ (b : SessionTxn). previous_of b.txn s.log) (sym same) in
    let number : c.id-txn.result ≡ a.txn = c.id-txn.ensures.number ∙ ap (λ (b : SessionTxn). b.txn) (sym same) in
    let r : LogRecord = record { txn = c.id-txn.result; previous = c.last-previous.result; payload = End } in
    done_logged (geometry_of c.args.self.now).version old _ front disk before s store is over safe.roomy.pages a at.0 empty refl c.push.ensures.first refl refl c.end_abort-in-Ok.ensures.claims (resolved_by_rollback a global) r
    (ap (λ n. record { txn = n; previous = c.last-previous.result; payload = End }) number ∙ ap (λ n. record { txn = a.txn; previous = n; payload = End }) last)
    c.in-Ok.ensures.added
    (c.end_abort-in-Ok.ensures.resolves s a (resolved_by_rollback a global) stands (is.beside.parts.failed_is ∙ running) at rolls.1 refl refl)

pub returns-clause-resolves : goal.returns-clause-resolves
returns-clause-resolves g c running front disk before s store is safe over a global at rolls empty = (
  c.in-Err.ensures.refused,
  comes_lacking c.args.self.now _ front disk before s store refl c.push.ensures.first c.in-Err.ensures.none_added refl refl refl is.beside.parts.stands is over,
)
