use Rattle.std.proofs.Common.{◌≡◌, ◌+◌, ◌∙◌, false, List, ap, subst, sym}
use Rattle.shore_words.specs.declared.rule.Heard.{Heard}
use Rattle.shore_shared.proofs.NotedSteps.{heard_so}
use Rattle.shore_shared.proofs.Quiet.{NeverIdle, NeverNotQuiet, all_quiet, heard_in, never_idle_at_first, never_not_quiet}
use Rattle.shore_shared.proofs.client_laws.no_client_is_told_not_quiet.Goals as goal

pub returns : goal.returns
returns g c start cut kept asked stepped w ended so client jobs done told life =
    let h = ended.come_by in
    let same = ap (heard_in (client + 1)) h.are ∙ sym (heard_so (client + 1) asked stepped) in
    all_quiet so.failed false _ _
    (subst (λ (hs : List Heard). NeverIdle false hs) same (never_idle_at_first h.geometry (client + 1) start.first h.plain h.last h.made h.moves))
    (subst NeverNotQuiet same (never_not_quiet h.geometry h.ring_bytes start.opening start.found start.earlier start.first h.began h.plain h.last h.made h.moves (client + 1)))
    life.trail
