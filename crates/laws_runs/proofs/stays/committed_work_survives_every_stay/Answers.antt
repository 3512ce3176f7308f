use Rattle.laws_runs.proofs.StaySteps.{are_a_life, come, keep_what_was_found, open_as_kept, show_what_was_told}
use Rattle.laws_runs.proofs.stays.committed_work_survives_every_stay.Goals as goal

pub returns-clause-left : goal.returns-clause-left
returns-clause-left c g stream_bytes o rs last pages last_pages stays may opening h = ((come g stream_bytes o rs pages may opening stays last last_pages h).opened, open_as_kept g stream_bytes o rs pages may opening stays last last_pages h)

pub returns-clause-runs : goal.returns-clause-runs
returns-clause-runs c g stream_bytes o rs last pages last_pages stays may opening h =
    let all = come g stream_bytes o rs pages may opening stays last last_pages h in
    (all.last, all.are, (all.works, all.restarts))

pub returns-clause-life : goal.returns-clause-life
returns-clause-life c g stream_bytes o rs last pages last_pages stays may opening h = are_a_life g stream_bytes o rs pages may opening stays last last_pages h

pub returns-clause-shown : goal.returns-clause-shown
returns-clause-shown c g stream_bytes o rs last pages last_pages stays may opening h = show_what_was_told g stream_bytes o rs pages may opening stays last last_pages h

pub returns-clause-fixed : goal.returns-clause-fixed
returns-clause-fixed c g stream_bytes o rs last pages last_pages stays may opening h = keep_what_was_found g stream_bytes o rs pages may opening stays last last_pages h
