use Rattle.std.proofs.Common.{◌≡◌, ◌++◌, List, None, Some, ap, arith, refl, subst, ◌∙◌}
use Rattle.shore_disk.specs.Device.{LeavesOnly}
use Rattle.shore_model.specs.declared.log_records.LogRecord.{LogRecord}
use Rattle.shore_frames.specs.Frames.{GivesWithOrWithoutFrom}
use Rattle.shore_frames.proofs.LoggedLemmas.{on_ok}
use Rattle.shore_log.specs.Settled.{IsSettledFrom, stable}
use Rattle.shore_log.proofs.FrameTexts.{if_opened, none_next}
use Rattle.shore_log.proofs.device.LogDev.open_and_stage.Goals as goal

pub returns-in_err-open_with-in-Some-frame_after-clause-any_moment : goal.returns-in_err-open_with-in-Some-frame_after-clause-any_moment
returns-in_err-open_with-in-Some-frame_after-clause-any_moment g c tail place front group s =
    let old = c.args.self.now in
    let mid = c.frame_after.new.self in
    let keeps = c.frame_after.ensures.keeps in
    let new = g.D.Disk.history c.open_with.new.self.device in
    subst (λ d. LeavesOnly (g.D.Disk.history d) new (GivesWithOrWithoutFrom front tail place (stable old) group)) c.frame_after.ensures.same.device
    (subst (λ (rs : List LogRecord). LeavesOnly (g.D.Disk.history mid.device) new (GivesWithOrWithoutFrom front tail place rs group)) keeps.forced
    (c.open_with.ensures.any_moment tail place front group (keeps.staged tail place front group s)))

pub returns-in_ok-open_with-in-Some-frame_after-clause-any_moment : goal.returns-in_ok-open_with-in-Some-frame_after-clause-any_moment
returns-in_ok-open_with-in-Some-frame_after-clause-any_moment g c tail place front group s =
    let old = c.args.self.now in
    let mid = c.frame_after.new.self in
    let keeps = c.frame_after.ensures.keeps in
    let new = g.D.Disk.history c.open_with.new.self.device in
    subst (λ d. LeavesOnly (g.D.Disk.history d) new (GivesWithOrWithoutFrom front tail place (stable old) group)) c.frame_after.ensures.same.device
    (subst (λ (rs : List LogRecord). LeavesOnly (g.D.Disk.history mid.device) new (GivesWithOrWithoutFrom front tail place rs group)) keeps.forced
    (c.open_with.ensures.any_moment tail place front group (keeps.staged tail place front group s)))

pub returns-in_ok-open_with-in-Some-frame_after-clause-settled : goal.returns-in_ok-open_with-in-Some-frame_after-clause-settled
returns-in_ok-open_with-in-Some-frame_after-clause-settled g c tail place front group s =
    let keeps = c.frame_after.ensures.keeps in
    (c.in_ok-open_with-in-Some-frame_after.ensures.settled tail place front group (keeps.staged tail place front group s)).0 ∙ ap (λ (rs : List LogRecord). rs ++ group) keeps.forced

-- the gate alone is opened
pub returns-in-None-clause-settled : goal.returns-in-None-clause-settled
returns-in-None-clause-settled g c tail place front group s =
    let keeps = c.frame_after.ensures.keeps in
    let old = c.args.self.now in
    let new = c.open_staged.new.self in
    on_ok c.open_staged.result (IsSettledFrom tail place new front × (stable new ≡ stable c.frame_after.new.self ++ group)) (stable new ≡ stable old ++ group)
    (λ after. after.1 ∙ ap (λ (rs : List LogRecord). rs ++ group) keeps.forced)
    (c.open_staged.ensures.settled tail place front group (keeps.staged tail place front group s))

pub returns-in-None-clause-alone : goal.returns-in-None-clause-alone
returns-in-None-clause-alone g c tail place front group s =
    let keeps = c.frame_after.ensures.keeps in
    let new = c.open_staged.new.self in
    on_ok c.open_staged.result (IsSettledFrom tail place new front × (stable new ≡ stable c.frame_after.new.self ++ group)) (new.staged ≡ None → IsSettledFrom tail place new front)
    (λ after none. after.0)
    (c.open_staged.ensures.settled tail place front group (keeps.staged tail place front group s))

pub returns-in-None-clause-any_moment : goal.returns-in-None-clause-any_moment
returns-in-None-clause-any_moment g c tail place front group s =
    let old = c.args.self.now in
    let mid = c.frame_after.new.self in
    let keeps = c.frame_after.ensures.keeps in
    let new = g.D.Disk.history c.open_staged.new.self.device in
    subst (λ d. LeavesOnly (g.D.Disk.history d) new (GivesWithOrWithoutFrom front tail place (stable old) group)) c.frame_after.ensures.same.device
    (subst (λ (rs : List LogRecord). LeavesOnly (g.D.Disk.history mid.device) new (GivesWithOrWithoutFrom front tail place rs group)) keeps.forced
    (c.open_staged.ensures.any_moment tail place front group (keeps.staged tail place front group s)))

pub returns-in_err-open_with-in-Some-frame_after-clause-knows : goal.returns-in_err-open_with-in-Some-frame_after-clause-knows
returns-in_err-open_with-in-Some-frame_after-clause-knows g c = λ t k. c.open_with.ensures.knows t (c.frame_after.ensures.knows t k)

pub returns-in_ok-open_with-in-Some-frame_after-clause-knows : goal.returns-in_ok-open_with-in-Some-frame_after-clause-knows
returns-in_ok-open_with-in-Some-frame_after-clause-knows g c = λ t k. c.open_with.ensures.knows t (c.frame_after.ensures.knows t k)

pub returns-in-None-clause-knows : goal.returns-in-None-clause-knows
returns-in-None-clause-knows g c = λ t k. c.open_staged.ensures.knows t (c.frame_after.ensures.knows t k)

pub returns-in-None-clause-goes_on : goal.returns-in-None-clause-goes_on
returns-in-None-clause-goes_on g c spelled =
    let mid = c.frame_after.new.self in
    let new = c.open_staged.new.self in
    let s = c.in-Some.staged in
    let there : mid.staged ≡ Some s = c.frame_after.ensures.same.staged ∙ c.in-Some.is in
    let stream : new.stream_bytes ≡ mid.stream_bytes = omega (arith, new.as_long, mid.as_long, c.open_staged.ensures.size) in
    if_opened c.open_staged.result _ _
    (λ x next none. none_next mid new s (c.in-None.ensures.none spelled refl) c.open_staged.ensures.tail.0 stream (next s there))
    c.open_staged.ensures.next
