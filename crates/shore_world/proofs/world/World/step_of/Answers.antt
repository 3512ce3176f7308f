use Rattle.std.proofs.Common.{refl}
use Rattle.shore_world.specs.Worlds.{geometry_in}
use Rattle.shore_world.proofs.RunLemmas.{call_is_no_ask, call_is_no_cut, call_is_no_flush, call_is_no_force, call_is_no_own_step, call_is_no_resume, memory_asks_nothing, memory_cause, memory_says_nothing, no_force, not_copied, pages_are_no_checkpoint, same_volume}
use Rattle.shore_world.proofs.WorldLemmas.{nothing_done}
use Rattle.shore_world.proofs.world.World.step_of.Goals as goal

pub returns-in-Err : goal.returns-in-Err
returns-in-Err g c =
    let w = c.args.self.now in
    let call = c.in-Err.ensures.refused in
    no_force w w _ _ (call_is_no_force _ call) refl refl (nothing_done w _ _ (λ is. pages_are_no_checkpoint _ (call_is_no_force _ call) is) (call_is_no_flush _ call) (λ s is. not_copied (geometry_in w) s _ call)) (same_volume w.core w.core refl) (λ is. absurd (call_is_no_flush _ call is))
    (memory_says_nothing w _) (memory_asks_nothing w _) (memory_cause _) (λ own. absurd (call_is_no_own_step _ call own)) (λ session is. absurd (call_is_no_resume _ session call is))
    (λ ticket is. absurd (call_is_no_ask _ ticket call is)) (λ is. absurd (call_is_no_cut _ call is))
