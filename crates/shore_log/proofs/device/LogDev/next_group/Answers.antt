use Rattle.std.proofs.Common.{◌≡◌, ◌+◌, ◌-◌, length, drop, sym, subst, ap, ◌∙◌, arith, length-drop}
use Rattle.std.specs.Prelude.{All}
use Rattle.shore_logrec.specs.Text.{Fits}
use Rattle.shore_log.specs.Settled.{waiting}
use Rattle.shore_log.proofs.ForceLemmas.{behind_fit, slice_behind, spelled_from, waiting_count}
use Rattle.shore_log.proofs.TextLemmas.{len_within, rest_is, whole_longest}
use Rattle.shore_log.proofs.device.LogDev.next_group.Goals as goal

pub longest_group-requires : goal.longest_group-requires
longest_group-requires g c =
    let log = c.args.self.now in
    subst (All Fits) (sym (slice_behind log c.args.passed c.in-Some.read c.deref.result.now c.in-Some.is c.deref.ensures.value)) (behind_fit log c.args.passed)

pub returns-in-None-clause-longest : goal.returns-in-None-clause-longest
returns-in-None-clause-longest g c =
    let log = c.args.self.now in
    let passed = c.args.passed in
    let at = log.at + c.args.passed_len in
    let size : c.len-in-None.result ≡ length log.bytes.items = omega arith in
    (whole_longest (drop passed (waiting log)) (log.count - log.forced - passed) (c.len-in-None.result - at)
    (omega (arith, waiting_count log, length-drop passed (waiting log)))
    (omega (arith, length-drop at log.bytes.items, ap length (spelled_from log passed c.args.passed_len c.in-None.is c.requires.len), size)) (omega arith)).0

pub returns-in-None-clause-len : goal.returns-in-None-clause-len
returns-in-None-clause-len g c =
    let log = c.args.self.now in
    let passed = c.args.passed in
    let at = log.at + c.args.passed_len in
    let size : c.len-in-None.result ≡ length log.bytes.items = omega arith in
    (whole_longest (drop passed (waiting log)) (log.count - log.forced - passed) (c.len-in-None.result - at)
    (omega (arith, waiting_count log, length-drop passed (waiting log)))
    (omega (arith, length-drop at log.bytes.items, ap length (spelled_from log passed c.args.passed_len c.in-None.is c.requires.len), size)) (omega arith)).1

pub returns-in-None-2-clause-longest : goal.returns-in-None-2-clause-longest
returns-in-None-2-clause-longest g c =
    let log = c.args.self.now in
    let at = log.at + c.args.passed_len in
    c.longest_texts.ensures.longest (drop c.args.passed (waiting log)) (behind_fit log c.args.passed)
    (rest_is at c.deref-in-None-2.result.now ∙ ap (drop at) c.deref-in-None-2.ensures.value ∙ spelled_from log c.args.passed c.args.passed_len c.in-None-2.is c.requires.len)

pub returns-in-None-2-clause-len : goal.returns-in-None-2-clause-len
returns-in-None-2-clause-len g c =
    let log = c.args.self.now in
    let at = log.at + c.args.passed_len in
    c.longest_texts.ensures.len (drop c.args.passed (waiting log)) (behind_fit log c.args.passed)
    (rest_is at c.deref-in-None-2.result.now ∙ ap (drop at) c.deref-in-None-2.ensures.value ∙ spelled_from log c.args.passed c.args.passed_len c.in-None-2.is c.requires.len)

pub returns-in-None-clause-fit : goal.returns-in-None-clause-fit
returns-in-None-clause-fit g c = behind_fit c.args.self.now c.args.passed

pub returns-in-None-2-clause-fit : goal.returns-in-None-2-clause-fit
returns-in-None-2-clause-fit g c = behind_fit c.args.self.now c.args.passed

pub returns-in-Some-clause-fit : goal.returns-in-Some-clause-fit
returns-in-Some-clause-fit g c = behind_fit c.args.self.now c.args.passed

pub overflow_add-self-in-None-1 : goal.overflow_add-self-in-None-1
overflow_add-self-in-None-1 g c =
    let log = c.args.self.now in
    let little = log.little in
    let within = len_within log.at c.args.passed_len c.args.passed log.bytes.items (waiting log) (omega (arith, little)) (log.spelled c.in-None.is) c.requires.len in
    let size : c.len.result ≡ length log.bytes.items = omega arith in
    omega (arith, within, size, log.bytes.ok.0, log.bytes.ok.1, log.bytes.small)

pub overflow_sub-len : goal.overflow_sub-len
overflow_sub-len g c =
    let log = c.args.self.now in
    let little = log.little in
    let within = len_within log.at c.args.passed_len c.args.passed log.bytes.items (waiting log) (omega (arith, little)) (log.spelled c.in-None.is) c.requires.len in
    let size : c.len.result ≡ length log.bytes.items = omega arith in
    omega (arith, within, size, log.bytes.ok.0, log.bytes.ok.1, log.bytes.small)

pub overflow_add-result : goal.overflow_add-result
overflow_add-result g c =
    let log = c.args.self.now in
    let little = log.little in
    let within = len_within log.at c.args.passed_len c.args.passed log.bytes.items (waiting log) (omega (arith, little)) (log.spelled c.in-None.is) c.requires.len in
    let size : c.len-in-None.result ≡ length log.bytes.items = omega arith in
    omega (arith, within, size, log.bytes.ok.0, log.bytes.ok.1, log.bytes.small)

pub overflow_sub-result-in-None-2 : goal.overflow_sub-result-in-None-2
overflow_sub-result-in-None-2 g c =
    let log = c.args.self.now in
    let little = log.little in
    let within = len_within log.at c.args.passed_len c.args.passed log.bytes.items (waiting log) (omega (arith, little)) (log.spelled c.in-None.is) c.requires.len in
    let size : c.len-in-None.result ≡ length log.bytes.items = omega arith in
    omega (arith, within, size, log.bytes.ok.0, log.bytes.ok.1, log.bytes.small)
