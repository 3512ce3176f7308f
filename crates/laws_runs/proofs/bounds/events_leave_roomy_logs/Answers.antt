use Rattle.std.proofs.Common.{sym}
use Rattle.laws_lives.proofs.WholeLogs.{image_in_place}
use Rattle.laws_runs.proofs.Opens.{records_inside}
use Rattle.laws_runs.proofs.Prefixes.{left_roomy, whole_placed}
use Rattle.laws_runs.proofs.Running.{event_leaving, events_leaving}
use Rattle.laws_runs.proofs.bounds.events_leave_roomy_logs.Goals as goal

pub returns-clause-each : goal.returns-clause-each
returns-clause-each c g stream_bytes o found es old new e k asks roomy h moves = event_leaving g stream_bytes o found es old new e k asks roomy h moves

pub returns-clause-run : goal.returns-clause-run
returns-clause-run c g stream_bytes o found es first last events made k asks roomy h moves = events_leaving g stream_bytes o found es first events last made k asks roomy h moves

pub returns-clause-crash : goal.returns-clause-crash
returns-clause-crash c g stream_bytes s n h kept = left_roomy g stream_bytes s.durable s.log n kept.0 h.prefixes

pub returns-clause-inside : goal.returns-clause-inside
returns-clause-inside c g stream_bytes o found es s k h =
    records_inside g s.log s.sessions.records (whole_placed g stream_bytes s.durable s.log h.prefixes)
    (λ id. sym (image_in_place k.sessions.sound k.sessions.log h.whole id))
