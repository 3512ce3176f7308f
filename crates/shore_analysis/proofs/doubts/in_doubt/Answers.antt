use Rattle.std.proofs.Common.{◌∙◌, List, subst, rules}
use Rattle.shore_analysis.specs.Doubts.{doubts_left}
use Rattle.shore_analysis.specs.Padded.{padded}
use Rattle.shore_analysis.proofs.DoubtsLeft.{is_left, is_left_by, left_is, left_rise, left_runs, left_told, left_txns}
use Rattle.shore_analysis.proofs.UndoneKept.{padded_table}
use Rattle.std.specs.Prelude.{IsPermutation}
use Rattle.std.proofs.lemmas.List.Sorted.{IsNonDecreasingBy-from_sort_by_key}
use Rattle.shore_model.specs.declared.log_records.LogTxn.{LogTxn}
use Rattle.shore_model.specs.Logs.{IsTable}
use Rattle.shore_analysis.proofs.DoubtOrder.{in_order, picked_order, say_the_doubts, say_the_picked}
use Rattle.shore_analysis.proofs.DoubtsLawful.{lawful_runs}
use Rattle.shore_analysis.proofs.InOrder.{lawful_once, meant_once}
use Rattle.shore_analysis.proofs.Phases.{in_doubt_runs}
use Rattle.shore_analysis.proofs.WholeRecords.{doubts_run, prepares_once}
use Rattle.shore_analysis.proofs.doubts.in_doubt.Goals as goal

pub returns-clause-order : goal.returns-clause-order
returns-clause-order c g log tables meant are is =
    let found = c.sort_unstable_by_key.new.self.items in
    let table = subst (IsTable log) is are.txns in
    in_order log (meant_once g log meant) (in_doubt_runs g log meant) c.args.txns.now table found
    (subst (λ (es : List LogTxn). IsPermutation es found) c.in_ok-found.ensures c.sort_unstable_by_key.ensures.permutation)
    (IsNonDecreasingBy-from_sort_by_key (λ (e : LogTxn). e.prepare) found c.sort_unstable_by_key.ensures.sorted (λ a r q k. search rules))

pub returns-clause-prepares : goal.returns-clause-prepares
returns-clause-prepares c g log tables meant are is =
    let found = c.sort_unstable_by_key.new.self.items in
    let table = subst (IsTable log) is are.txns in
    say_the_doubts log (meant_once g log meant) (in_doubt_runs g log meant) c.args.txns.now table found
    (subst (λ (es : List LogTxn). IsPermutation es found) c.in_ok-found.ensures c.sort_unstable_by_key.ensures.permutation)
    (IsNonDecreasingBy-from_sort_by_key (λ (e : LogTxn). e.prepare) found c.sort_unstable_by_key.ensures.sorted (λ a r q k. search rules))

pub returns-clause-lawful_order : goal.returns-clause-lawful_order
returns-clause-lawful_order c log lawful table =
    let found = c.sort_unstable_by_key.new.self.items in
    in_order log (lawful_once log lawful) (lawful_runs log lawful) c.args.txns.now table found
    (subst (λ (es : List LogTxn). IsPermutation es found) c.in_ok-found.ensures c.sort_unstable_by_key.ensures.permutation)
    (IsNonDecreasingBy-from_sort_by_key (λ (e : LogTxn). e.prepare) found c.sort_unstable_by_key.ensures.sorted (λ a r q k. search rules))

pub returns-clause-lawful_prepares : goal.returns-clause-lawful_prepares
returns-clause-lawful_prepares c log lawful table =
    let found = c.sort_unstable_by_key.new.self.items in
    say_the_doubts log (lawful_once log lawful) (lawful_runs log lawful) c.args.txns.now table found
    (subst (λ (es : List LogTxn). IsPermutation es found) c.in_ok-found.ensures c.sort_unstable_by_key.ensures.permutation)
    (IsNonDecreasingBy-from_sort_by_key (λ (e : LogTxn). e.prepare) found c.sort_unstable_by_key.ensures.sorted (λ a r q k. search rules))

pub returns-clause-kept_order : goal.returns-clause-kept_order
returns-clause-kept_order c g log meant table =
    let found = c.sort_unstable_by_key.new.self.items in
    in_order log (prepares_once g log meant) (doubts_run g log meant) c.args.txns.now table found
    (subst (λ (es : List LogTxn). IsPermutation es found) c.in_ok-found.ensures c.sort_unstable_by_key.ensures.permutation)
    (IsNonDecreasingBy-from_sort_by_key (λ (e : LogTxn). e.prepare) found c.sort_unstable_by_key.ensures.sorted (λ a r q k. search rules))

pub returns-clause-kept_prepares : goal.returns-clause-kept_prepares
returns-clause-kept_prepares c g log meant table =
    let found = c.sort_unstable_by_key.new.self.items in
    say_the_doubts log (prepares_once g log meant) (doubts_run g log meant) c.args.txns.now table found
    (subst (λ (es : List LogTxn). IsPermutation es found) c.in_ok-found.ensures c.sort_unstable_by_key.ensures.permutation)
    (IsNonDecreasingBy-from_sort_by_key (λ (e : LogTxn). e.prepare) found c.sort_unstable_by_key.ensures.sorted (λ a r q k. search rules))

pub returns-clause-left_order : goal.returns-clause-left_order
returns-clause-left_order c g cut kept meant table =
    let found = c.sort_unstable_by_key.new.self.items in
    let log = padded cut kept in
    picked_order log (is_left log) (λ t left. (left_is log t left).0) (left_runs g cut kept meant) (is_left_by log) (left_rise g cut kept meant) c.args.txns.now (padded_table cut kept c.args.txns.now table) found
    (subst (λ (es : List LogTxn). IsPermutation es found) c.in_ok-found.ensures c.sort_unstable_by_key.ensures.permutation)
    (IsNonDecreasingBy-from_sort_by_key (λ (e : LogTxn). e.prepare) found c.sort_unstable_by_key.ensures.sorted (λ a r q k. search rules))
    ∙ left_txns log

pub returns-clause-left_prepares : goal.returns-clause-left_prepares
returns-clause-left_prepares c g cut kept meant table =
    let found = c.sort_unstable_by_key.new.self.items in
    let log = padded cut kept in
    say_the_picked log (is_left log) (λ t left. (left_is log t left).0) (left_runs g cut kept meant) (is_left_by log) (left_rise g cut kept meant) c.args.txns.now (padded_table cut kept c.args.txns.now table) found
    (subst (λ (es : List LogTxn). IsPermutation es found) c.in_ok-found.ensures c.sort_unstable_by_key.ensures.permutation)
    (IsNonDecreasingBy-from_sort_by_key (λ (e : LogTxn). e.prepare) found c.sort_unstable_by_key.ensures.sorted (λ a r q k. search rules))
    (doubts_left log) (left_told g cut kept meant)
