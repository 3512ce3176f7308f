use Rattle.std.proofs.Common.{◌≡◌, ◌≤◌, ◌+◌, length, length-append, refl, ap, ◌∙◌, arith}
use Rattle.laws_lives.proofs.Invariant.{event_kept}
use Rattle.laws_lives.specs.Recovery.{ForceLog, after_force}
use Rattle.shore_core.specs.Cores.{control_of, durable_of, has_failed, waiting_of}
use Rattle.shore_core.proofs.Taking.{parts_told}
use Rattle.shore_core.proofs.core_calls.Core.told.Goals as goal

pub returns-clause-told : goal.returns-clause-told
returns-clause-told g c front disk before s store is safe over =
    let old = c.args.self.now in
    let n = c.args.durable in
    let told : store.store.durable ≡ durable_of old = over.kept.stored.durable ∙ is.beside.parts.durable_is in
    let long : length store.store.log ≡ length before + length (waiting_of old) = ap length (over.kept.stored.log ∙ is.beside.parts.log) ∙ length-append before (waiting_of old) in
    let more : store.store.durable ≤ n = omega (arith, told, c.requires.no_lower) in
    let within : n ≤ length store.store.log = omega (arith, long, is.beside.first, c.requires.logged) in (
      record {
        beside = record { first = is.beside.first; parts = parts_told (control_of old) (waiting_of old) (durable_of old) n (has_failed old) before s is.beside.parts };
        pages = is.pages;
      },
      record {
        kept = record {
          stored = record { log = over.kept.stored.log; durable = refl };
          redone = over.kept.redone;
          recoverable = event_kept store.store (ForceLog n) (after_force store.store n) over.kept.recoverable (more, within, refl);
        };
        pages = λ works. let it = over.pages works in let pages = it.pages in record { pages = record { volume = pages.volume; in_place = pages.in_place; inside = pages.inside; done = pages.done }; recoveries = it.recoveries };
      },
    )
