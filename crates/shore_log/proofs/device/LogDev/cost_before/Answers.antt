use Rattle.std.proofs.Common.{◌+◌, arith}
use Rattle.shore_log.proofs.CutLemmas.{listed_most, listed_of}
use Rattle.shore_log.proofs.device.LogDev.cost_before.Goals as goal

pub overflow_mul-result : goal.overflow_mul-result
overflow_mul-result g c =
    let log = c.args.self.now in
    let next = log.tail.first + log.forced in
    let most = listed_most log.head next log.frames.items (listed_of log.head next log.frames.items log.listed) in
    let far = most.0 in
    let many = most.1 in
    let begins = log.begins.0 in
    let placed = log.begins.1 in
    let number = c.requires.number in
    omega (arith, far, begins, placed, log.head_inside, log.is_short, number.0, number.1)

pub overflow_add-result : goal.overflow_add-result
overflow_add-result g c =
    let log = c.args.self.now in
    let next = log.tail.first + log.forced in
    let most = listed_most log.head next log.frames.items (listed_of log.head next log.frames.items log.listed) in
    let far = most.0 in
    let many = most.1 in
    let begins = log.begins.0 in
    let placed = log.begins.1 in
    let number = c.requires.number in
    let place = c.requires.place in
    omega (arith, far, begins, placed, log.head_inside, log.is_short, number.0, number.1, place.0, place.1)
