use Rattle.std.proofs.Common.{◌≡◌, ◌∙◌, ◌++◌, ◌∷◌, [], ap, arith, map, rules, sym, take}
use Rattle.std.proofs.lemmas.List.{take_more}
use Rattle.shore_shared.specs.Told.{shown_by}
use Rattle.shore_shared.proofs.Telling.{is_ok, turn_done}
use Rattle.shore_shared.proofs.serving.in_turn.Goals as goal

pub loop-job-preserved : goal.loop-job-preserved
loop-job-preserved g c =
    let pushed : c.push.new.self.items ≡ c.loop-job.all.items ++ c.in-Ok.done ∷ [] = grind (arith, rules, c.push.ensures.items, c.is_err.ensures.value, c.if-is_err.false) in
    let one = is_ok c.in_threads-back.result.1 c.in-Ok.done _ c.in-Ok.is c.in_threads-back.ensures.claimed in
    turn_done g.J.Job.says (λ row. row.items) (map (λ s. shown_by s.ear s.seat) c.args.sessions.items) c.args.jobs.now c.loop-job.job-index c.job-item.result c.loop-job.all.items c.push.new.self.items c.in-Ok.done
    (map (λ s. shown_by s.ear s.seat) c.loop-job.sessions.items) (map (λ s. shown_by s.ear s.seat) c.in_threads-back.result.0.items) (take_more c.args.jobs.now c.loop-job.job-index c.job-item.result c.loop-job-test.true ∙ ap (λ x. take c.loop-job.job-index c.args.jobs.now ++ x ∷ []) (sym c.job-item.is)) pushed c.loop-job.invariant one
