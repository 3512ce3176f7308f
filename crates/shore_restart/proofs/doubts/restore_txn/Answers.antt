use Rattle.std.proofs.Common.{◌≡◌, ◌≢◌, ◌<◌, ℕ, List, Option, None, Some, inl, inr, sym, ap, subst, ◌∙◌, arith}
use Rattle.std.specs.Prelude.{option_map}
use Rattle.shore_types.specs.declared.locking.Granule.{Granule}
use Rattle.shore_model.specs.Logs.{first_of, prepare_number}
use Rattle.laws_lives.specs.Doubts.{LoggedDoubt}
use Rattle.laws_lives.specs.Views.{IsAmong}
use Rattle.shore_analysis.specs.Doubts.{doubt_at}
use Rattle.shore_txn.specs.ActiveTxns.{OneBecomes}
use Rattle.shore_txn.specs.Transactions.{txns_in}
use Rattle.shore_txn.specs.Txns.{IsFoundPrepared, entries_of, number_of, state_of}
use Rattle.shore_txn.specs.declared.txn.Txn.{Txn}
use Rattle.shore_restart.specs.GivenBack.{HasChangesBack}
use Rattle.shore_restart.proofs.DoubtsBack.{first_some, given_back, head_becomes}
use Rattle.shore_restart.proofs.DoubtsNamed.{kept_said, number_of_one, says_alike, told_doubt}
use Rattle.shore_analysis.specs.KeptMeant.{IsWholeIn}
use Rattle.shore_analysis.proofs.DoubtsLeft.{is_left_by, left_runs, left_whole}
use Rattle.shore_analysis.specs.Padded.{padded}
use Rattle.shore_restart.proofs.doubts.restore_txn.Goals as goal

pub restore-requires : goal.restore-requires
restore-requires c =
    let one = number_of_one c.requires.meant.0 c.args.cut c.args.kept.now c.requires.meant.1 c.args.entry.now.txn c.requires.doubt c.requires.runs in
    record {
      some = one.some;
      last = one.last;
      below = c.requires.below;
      new = c.requires.new;
      room = let fits = c.holds.ensures.0 c.if-not-holds.false in omega (arith, fits);
    }

pub returns-in_default-clause-refused : goal.returns-in_default-clause-refused
returns-in_default-clause-refused c =
    let log = (padded c.args.cut c.args.kept.now) in
    let told = told_doubt c.requires.meant.0 c.args.cut c.args.kept.now c.requires.meant.1 c.args.entry.now.txn c.requires.doubt c.requires.runs in
    let clash : ◌≡◌ {A = Option (List ℕ × List Granule)} None (Some (told.doubt.global, told.doubt.granules)) =
    c.in_default.ensures ∙ kept_said c.args.cut c.args.kept.now c.args.entry.now.prepare ∙ ap (option_map (λ (x : LoggedDoubt). (x.global, x.granules))) (ap (doubt_at log) c.requires.numbers.prepare ∙ told.told_by) in
    cc

pub restore_changes-requires-clause-some : goal.restore_changes-requires-clause-some
restore_changes-requires-clause-some c =
    subst (λ (t : ℕ). 0 < t) (sym c.in_ok-seat.ensures.seated.1) (left_runs c.requires.meant.0 c.args.cut c.args.kept.now c.requires.meant.1 c.args.entry.now.txn (is_left_by (padded c.args.cut c.args.kept.now) c.args.entry.now.txn c.requires.doubt c.requires.runs)).some

pub restore_changes-requires-clause-whole : goal.restore_changes-requires-clause-whole
restore_changes-requires-clause-whole c =
    subst (IsWholeIn c.args.cut c.args.kept.now) (sym c.in_ok-seat.ensures.seated.1)
    (left_whole c.requires.meant.0 c.args.cut c.args.kept.now c.requires.meant.1 c.args.entry.now.txn (is_left_by (padded c.args.cut c.args.kept.now) c.args.entry.now.txn c.requires.doubt c.requires.runs))

pub restore_changes-requires-clause-none : goal.restore_changes-requires-clause-none
restore_changes-requires-clause-none c x among number =
    let found = c.in_ok-seat.ensures.found in
    elim (subst (IsAmong x) found.1 among) [
      | inl same ↦ ap entries_of (sym same) ∙ found.2.entries
      | inr older ↦ absurd (c.requires.new x older (number ∙ c.in_ok-seat.ensures.seated.1))
    ]

pub restore_prepare-requires-clause-active : goal.restore_prepare-requires-clause-active
restore_prepare-requires-clause-active c x among number =
    let found = c.in_ok-seat.ensures.found in
    let seat = c.in_ok-seat.seat.txn in
    let log = (padded c.args.cut c.args.kept.now) in
    let head = head_becomes seat (HasChangesBack log) found.0 (txns_in c.args.txns.now) (txns_in c.restore_changes.new.txns) (λ y older same. c.requires.new y older (same ∙ c.in_ok-seat.ensures.seated.1))
    (subst (λ (ts : List Txn). OneBecomes seat (HasChangesBack log) ts (txns_in c.restore_changes.new.txns)) found.1 c.in_ok-restore_changes.ensures.back) in
    elim (subst (IsAmong x) head.is among) [
      | inl same ↦ ap state_of (sym same) ∙ head.becomes.state ∙ found.2.state
      | inr older ↦ absurd (c.requires.new x older (number ∙ c.in_ok-seat.ensures.seated.1))
    ]

pub returns-clause-back : goal.returns-clause-back
returns-clause-back c =
    let found = c.in_ok-seat.ensures.found in
    let seat = c.in_ok-seat.seat.txn in
    let log = (padded c.args.cut c.args.kept.now) in
    let entry = c.args.entry.now in
    let old = txns_in c.args.txns.now in
    let name = c.in_ok-try_clone.field-0 in
    let none : (y : Txn) → IsAmong y old → number_of y ≢ seat = λ y older same. c.requires.new y older (same ∙ c.in_ok-seat.ensures.seated.1) in
    let head = head_becomes seat (HasChangesBack log) found.0 old (txns_in c.restore_changes.new.txns) none
    (subst (λ (ts : List Txn). OneBecomes seat (HasChangesBack log) ts (txns_in c.restore_changes.new.txns)) found.1 c.in_ok-restore_changes.ensures.back) in
    let last = head_becomes seat (IsFoundPrepared name entry.prepare) head.after old (txns_in c.restore_prepare.new.self) none
    (subst (λ (ts : List Txn). OneBecomes seat (IsFoundPrepared name entry.prepare) ts (txns_in c.restore_prepare.new.self)) head.is c.restore_prepare.ensures.found) in
    let told = told_doubt c.requires.meant.0 c.args.cut c.args.kept.now c.requires.meant.1 entry.txn c.requires.doubt c.requires.runs in
    let runs = left_runs c.requires.meant.0 c.args.cut c.args.kept.now c.requires.meant.1 entry.txn (is_left_by log entry.txn c.requires.doubt c.requires.runs) in
    let says : ◌≡◌ {A = Option (List ℕ × List Granule)} (Some (c.in-Some.global.now, c.in-Some.field-0-1.now)) (Some (told.doubt.global, told.doubt.granules)) =
    c.in-Some.ensures ∙ kept_said c.args.cut c.args.kept.now c.args.entry.now.prepare ∙ ap (option_map (λ (x : LoggedDoubt). (x.global, x.granules))) (ap (doubt_at log) c.requires.numbers.prepare ∙ told.told_by) in
    let alike = says_alike c.in-Some.global.now told.doubt.global c.in-Some.field-0-1.now told.doubt.granules says in (
      told.doubt,
      last.after,
      told.among,
      told.txn,
      given_back log told.doubt entry.txn entry.first name entry.prepare found.0 head.after last.after told.txn found.2 head.becomes last.becomes (c.in_ok-try_clone.ensures ∙ alike.global_is)
          (c.requires.numbers.prepare ∙ ap (λ (u : ℕ). prepare_number u log) (sym told.txn))
          (subst (λ (n : ℕ). 0 < n) (sym c.requires.numbers.first) (first_some entry.txn log runs.known)) (c.requires.numbers.first ∙ ap (λ (u : ℕ). first_of u log) (sym told.txn)),
      last.is,
    )
