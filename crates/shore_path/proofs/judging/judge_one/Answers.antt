use Rattle.std.proofs.Common.{◌≡◌, ◌<◌, List, ℕ, true, false, ap, sym, ◌∙◌, arith}
use Rattle.std.specs.Prelude.{is_some, not}
use Rattle.shore_model.specs.declared.requests.Request.{Request}
use Rattle.shore_locks.specs.Grants.{answer_to_try}
use Rattle.shore_locks.specs.Tables.{request_for}
use Rattle.shore_path.specs.Judging.{IsAlike, told_by}
use Rattle.shore_path.proofs.JudgedGranules.{judged_by_way, judged_full, found_same, room_known, room_unknown}
use Rattle.shore_path.proofs.judging.judge_one.Goals as goal
use Rattle.shore_path.proofs.judging.judge_one.Goals.{After-told_by, then-is_none+else-left-eq0, else-is_none}

pub returns-then-left-eq0-clause-answer : goal.returns-then-left-eq0-clause-answer
returns-then-left-eq0-clause-answer c = λ limit new alike.
    judged_full c.args.txn c.args.granule.now c.args.mode limit c.args.left.now c.args.table.now.requests new alike (sym (ap is_some c.requires) ∙ c.is_none.ensures ∙ ap not c.if-is_none.true)
    (omega (arith, c.if-left-eq0.true))

some_left : (c : After-told_by) → is_some (request_for c.args.txn c.args.granule.now c.args.table.now.requests) ≡ false → 0 < c.args.left.now
some_left c unknown =
    elim c.if-is_none.branch [
      | then-is_none+else-left-eq0 w ↦ omega (arith, w.if-left-eq0.false)
      | else-is_none w ↦ (let both : false ≡ true = sym unknown ∙ sym (ap is_some c.requires) ∙ c.is_none.ensures ∙ ap not w.if-is_none.false in cc)
    ]

told : (c : After-told_by) (limit : ℕ) (new : List Request) → IsAlike c.args.granule.now limit c.args.left.now c.args.table.now.requests new
    → c.told_by.result ≡ answer_to_try (record { limit = limit; requests = new }) c.args.txn c.args.granule.now c.args.mode
told c limit new alike =
    c.told_by.ensures ∙ ap told_by c.in_the_way.ensures ∙ judged_by_way c.args.txn c.args.granule.now c.args.mode limit c.args.left.now c.args.table.now.requests new alike (some_left c)

pub returns-clause-answer : goal.returns-clause-answer
returns-clause-answer c = told c

pub returns-clause-left : goal.returns-clause-left
returns-clause-left c = λ limit new alike granted.
    let found = ap is_some (found_same c.args.txn c.args.granule.now c.args.mode c.args.table.now.requests new alike.same) ∙ sym (ap is_some c.requires) ∙ c.is_none.ensures in
    let there = sym (told c limit new alike) ∙ granted in
    elim c.if-is_none.branch [
      | then-is_none+else-left-eq0 w ↦
          room_unknown c.args.txn c.args.granule.now c.args.mode limit new alike.one c.args.left.now c.if-is_none.left alike.room
          (omega (arith, w.left-is, w.if-left-eq0.false)) (found ∙ ap not w.if-is_none.true) there
      | else-is_none w ↦
          room_known c.args.txn c.args.granule.now c.args.mode limit new alike.one c.if-is_none.left (omega (arith, w.left-is, alike.room)) (found ∙ ap not w.if-is_none.false)
    ]
