use Rattle.std.proofs.Common.{sym, subst}
use Rattle.std.specs.Prelude.{IsTrue}
use Rattle.std.specs.Cmp.Lexicographic.{slice_cmp}
use Rattle.std.specs.FinMap.{is_sorted}
use Rattle.std.specs.Ordering.{nat_cmp}
use Rattle.laws_lives.specs.Views.{IsAmong}
use Rattle.laws_calls.proofs.Listings.{listed_are_those, listed_rises}
use Rattle.laws_calls.proofs.Outside.{listed_in, listing_leaves, same_list}
use Rattle.laws_calls.proofs.answers.those_in_doubt_are_listed.Goals as goal

pub returns-clause-each : goal.returns-clause-each
returns-clause-each d g o found es s new session t global pairs k h there =
    let is = same_list g s new session pairs h in
    subst (IsAmong (t, global)) (sym k.sessions.agree.in_doubt) ((listed_are_those k.sessions).each t global (subst (IsAmong (global, t)) is there))

pub returns-clause-all : goal.returns-clause-all
returns-clause-all d g o found es s new session t global pairs k h there =
    let is = same_list g s new session pairs h in
    subst (IsAmong (global, t)) (sym is) ((listed_are_those k.sessions).all t global (subst (IsAmong (t, global)) k.sessions.agree.in_doubt there))

pub returns-clause-rising : goal.returns-clause-rising
returns-clause-rising d g s new session pairs h = subst (λ ps. IsTrue (is_sorted (slice_cmp nat_cmp) ps)) (sym (same_list g s new session pairs h)) (listed_rises s.sessions)

pub returns-clause-answered_other : goal.returns-clause-answered_other
returns-clause-answered_other d g s new session answer other h = other _ (listed_in g s new session answer h)

pub returns-clause-changes_nothing : goal.returns-clause-changes_nothing
returns-clause-changes_nothing d g s new session step h = listing_leaves g s new session step h
