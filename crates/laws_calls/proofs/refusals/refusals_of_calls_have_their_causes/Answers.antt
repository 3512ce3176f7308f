use Rattle.laws_calls.proofs.RefusalCauses.{delete_log_full_though_room, delete_none_though_there, for_update_none_though_there, force_beyond_all, force_beyond_log, force_of_durable, full_though_served, get_none_though_there, insert_log_full_though_room, insert_log_full_unlocked, log_before_page, no_page_of_no_store, no_page_though_there, no_store_though_there, too_long_though_short, update_full_though_fits, update_log_full_though_room, update_none_though_there}
use Rattle.laws_calls.proofs.refusals.refusals_of_calls_have_their_causes.Goals as goal

pub returns-clause-full_though_served : goal.returns-clause-full_though_served
returns-clause-full_though_served d = full_though_served

pub returns-clause-update_full_though_fits : goal.returns-clause-update_full_though_fits
returns-clause-update_full_though_fits d = update_full_though_fits

pub returns-clause-log_before_page : goal.returns-clause-log_before_page
returns-clause-log_before_page d = log_before_page

pub returns-clause-update_log_full_though_room : goal.returns-clause-update_log_full_though_room
returns-clause-update_log_full_though_room d = update_log_full_though_room

pub returns-clause-delete_log_full_though_room : goal.returns-clause-delete_log_full_though_room
returns-clause-delete_log_full_though_room d = delete_log_full_though_room

pub returns-clause-insert_log_full_though_room : goal.returns-clause-insert_log_full_though_room
returns-clause-insert_log_full_though_room d = insert_log_full_though_room

pub returns-clause-insert_log_full_unlocked : goal.returns-clause-insert_log_full_unlocked
returns-clause-insert_log_full_unlocked d = insert_log_full_unlocked

pub returns-clause-get_none_though_there : goal.returns-clause-get_none_though_there
returns-clause-get_none_though_there d = get_none_though_there

pub returns-clause-for_update_none_though_there : goal.returns-clause-for_update_none_though_there
returns-clause-for_update_none_though_there d = for_update_none_though_there

pub returns-clause-update_none_though_there : goal.returns-clause-update_none_though_there
returns-clause-update_none_though_there d = update_none_though_there

pub returns-clause-delete_none_though_there : goal.returns-clause-delete_none_though_there
returns-clause-delete_none_though_there d = delete_none_though_there

pub returns-clause-no_page_of_no_store : goal.returns-clause-no_page_of_no_store
returns-clause-no_page_of_no_store d = no_page_of_no_store

pub returns-clause-no_page_though_there : goal.returns-clause-no_page_though_there
returns-clause-no_page_though_there d = no_page_though_there

pub returns-clause-no_store_though_there : goal.returns-clause-no_store_though_there
returns-clause-no_store_though_there d = no_store_though_there

pub returns-clause-too_long_though_short : goal.returns-clause-too_long_though_short
returns-clause-too_long_though_short d = too_long_though_short

pub returns-clause-force_of_durable : goal.returns-clause-force_of_durable
returns-clause-force_of_durable d = force_of_durable

pub returns-clause-force_beyond_log : goal.returns-clause-force_beyond_log
returns-clause-force_beyond_log d = force_beyond_log

pub returns-clause-force_beyond_all : goal.returns-clause-force_beyond_all
returns-clause-force_beyond_all d = force_beyond_all
