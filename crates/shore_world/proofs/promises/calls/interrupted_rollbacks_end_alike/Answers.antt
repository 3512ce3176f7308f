use Rattle.shore_world.proofs.RollbackEnds.{abort_ends, abort_goes_on, back_ends, back_goes_on, resolve_goes_on}
use Rattle.shore_world.proofs.promises.calls.interrupted_rollbacks_end_alike.Goals as goal

pub returns-clause-abort : goal.returns-clause-abort
returns-clause-abort d e w new o es ws session f a k its one device damaged = abort_goes_on w o es ws k new session a its f (device, damaged) one

pub returns-clause-aborts : goal.returns-clause-aborts
returns-clause-aborts d e w new o es ws session answer a k its one = abort_ends w o es ws k new session a its answer one

pub returns-clause-back : goal.returns-clause-back
returns-clause-back d e w new o es ws session n f a k its less one device damaged = back_goes_on w o es ws k new session a its f (device, damaged) n less one

pub returns-clause-goes_back : goal.returns-clause-goes_back
returns-clause-goes_back d e w new o es ws session n answer a k its one = back_ends w o es ws k new session a its n answer one

pub returns-clause-resolve : goal.returns-clause-resolve
returns-clause-resolve d e w new o es ws session global asked f k served one device damaged = resolve_goes_on w o es ws k new session f (device, damaged) global asked served one
