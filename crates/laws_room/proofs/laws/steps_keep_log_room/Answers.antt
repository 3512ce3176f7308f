use Rattle.std.proofs.Common.{refl, suc}
use Rattle.std.specs.FinMap.{get}
use Rattle.laws_lives.specs.UndoLists.{with_before_image}
use Rattle.laws_room.proofs.LogRooms.{begun_has, changed_has, ended_takes, marked_has, prepared_has, resolved_takes, rolled_takes, undone_takes}
use Rattle.laws_room.proofs.laws.steps_keep_log_room.Goals as goal

pub returns-clause-begin : goal.returns-clause-begin
returns-clause-begin c spare doubts undos room a within h empty admits = begun_has spare doubts undos room h within a empty admits

pub returns-clause-change : goal.returns-clause-change
returns-clause-change c spare doubts R undos room a id image within h once m admits =
    changed_has spare doubts undos room h once a m within (with_before_image R a.undo id) id (get R id) image refl admits

pub returns-clause-marks : goal.returns-clause-marks
returns-clause-marks c spare doubts undos room a undo h once m same = marked_has spare doubts undos room h once a m undo same

pub returns-clause-compensation : goal.returns-clause-compensation
returns-clause-compensation c spare doubts undos room a kept e marks rolling h once m is = undone_takes spare doubts undos room h once a m kept e marks rolling is

pub returns-clause-ending : goal.returns-clause-ending
returns-clause-ending c spare doubts undos room a h once m = ended_takes spare doubts undos room h once a m

pub returns-clause-prepare : goal.returns-clause-prepare
returns-clause-prepare c spare doubts undos room global granules within h admits = prepared_has spare doubts undos room h within global granules admits

pub returns-clause-resolve : goal.returns-clause-resolve
returns-clause-resolve c spare doubts undos room a h once m =
    let commits = resolved_takes spare (suc doubts) undos room h once a m doubts refl in
    (commits.0, commits.1, (λ undo same. (rolled_takes spare (suc doubts) undos room h once a m undo doubts same refl).1))
