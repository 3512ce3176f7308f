use Rattle.std.proofs.Common.{sym, ◌∙◌, arith}
use Rattle.std.proofs.lemmas.Bool.{false≢true}
use Rattle.std.proofs.lemmas.Str.Pattern.{starts_char}
use Rattle.shore_script.specs.Reading.{Reads}
use Rattle.shore_script.specs.Lines.{TextAsks}
use Rattle.shore_script.proofs.Cuts.{lacks_at, cuts_at}
use Rattle.shore_script.proofs.Splits.{no_remark, no_session_but_first, no_session_without_a_space, on_ok, plain_line, session_line}
use Rattle.shore_script.proofs.command.parse.Goals as goal

pub returns-in-Some-session-clause-asks : goal.returns-in-Some-session-clause-asks
returns-in-Some-session-clause-asks c =
    let line = c.args.line.now in
    let hash = starts_char 35 line c.starts_with.result c.starts_with.ensures.cases (omega arith) (omega arith) in
    let remark = no_remark line (sym c.is_empty.ensures ∙ c.if-is_empty.false) (λ e. false≢true (sym c.if-starts_with.false ∙ hash.1 e)) in
    let first = c.in-Some.first in
    let rest = c.in-Some.rest in
    let cut = cuts_at 32 line c.split_once.result c.split_once.ensures.cases (omega arith) first rest c.in-Some.is in
    on_ok _ (Reads (TextAsks line)) (session_line line first.now rest.now c.in-Some-session.session remark cut.0 cut.1 c.in-Some-session.ensures)
    c.session_command.result c.session_command.ensures.asks

pub returns-in-None-session-clause-asks : goal.returns-in-None-session-clause-asks
returns-in-None-session-clause-asks c =
    let line = c.args.line.now in
    let hash = starts_char 35 line c.starts_with.result c.starts_with.ensures.cases (omega arith) (omega arith) in
    let remark = no_remark line (sym c.is_empty.ensures ∙ c.if-is_empty.false) (λ e. false≢true (sym c.if-starts_with.false ∙ hash.1 e)) in
    let first = c.in-Some.first in
    let rest = c.in-Some.rest in
    let cut = cuts_at 32 line c.split_once.result c.split_once.ensures.cases (omega arith) first rest c.in-Some.is in
    plain_line line remark (no_session_but_first line first.now rest.now cut.0 cut.1 c.in-None-session.ensures) c.plain_command.result c.plain_command.ensures.asks

pub returns-in-None-clause-asks : goal.returns-in-None-clause-asks
returns-in-None-clause-asks c =
    let line = c.args.line.now in
    let hash = starts_char 35 line c.starts_with.result c.starts_with.ensures.cases (omega arith) (omega arith) in
    let remark = no_remark line (sym c.is_empty.ensures ∙ c.if-is_empty.false) (λ e. false≢true (sym c.if-starts_with.false ∙ hash.1 e)) in
    let lacks = lacks_at 32 line c.split_once.result c.split_once.ensures.cases (omega arith) c.in-None.is in
    plain_line line remark (no_session_without_a_space line lacks) c.plain_command-in-None.result c.plain_command-in-None.ensures.asks
