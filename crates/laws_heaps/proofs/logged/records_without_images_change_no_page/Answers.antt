use Rattle.laws_heaps.proofs.Made.{appended_without}
use Rattle.laws_heaps.proofs.Stores.{forced_is}
use Rattle.laws_heaps.proofs.logged.records_without_images_change_no_page.Goals as goal

pub returns-clause-appended : goal.returns-clause-appended
returns-clause-appended g c = appended_without

pub returns-clause-forced : goal.returns-clause-forced
returns-clause-forced g c = forced_is
