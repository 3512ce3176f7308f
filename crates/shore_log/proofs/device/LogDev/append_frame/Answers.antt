use Rattle.std.proofs.Common.{◌≡◌, ◌+◌, ◌-◌, ◌++◌, List, ℕ, None, inl, subst, ap, ◌∙◌, take}
use Rattle.shore_disk.proofs.Moments.{joined, widened}
use Rattle.shore_model.specs.declared.log_records.LogRecord.{LogRecord}
use Rattle.shore_frames.specs.Frames.{GivesBehindFrom, GivesWithOrWithoutFrom}
use Rattle.shore_log.specs.Settled.{IsSettledFrom, stable, waiting}
use Rattle.shore_frames.proofs.LoggedLemmas.{longest_is, on_ok, on_ok_two}
use Rattle.shore_log.proofs.device.LogDev.append_frame.Goals as goal

pub returns-in-Some-clause-forced : goal.returns-in-Some-clause-forced
returns-in-Some-clause-forced g c tail place front s none count longest =
    let old = c.args.self.now in
    let staged = rw c.in-Some.is at (c.in_ok-stage.ensures.staged tail place front s none) in
    let chosen = rw c.in-Some.is at (c.in_ok-stage.ensures.longest none) in
    let same = longest_is (waiting old) (c.in-Some.field-0 - ((old.tail.first - 1) + old.forced)) count chosen.1 longest in
    let group = take (c.in-Some.field-0 - ((old.tail.first - 1) + old.forced)) (waiting old) in
    on_ok c.open_staged.result _ (stable c.open_staged.new.self ≡ stable old ++ take count (waiting old))
    (λ after. after.1 ∙ ap (λ (l : List LogRecord). l ++ group) c.stage.ensures.same.1 ∙ ap (λ (n : ℕ). stable old ++ take n (waiting old)) same)
    (c.open_staged.ensures.settled tail place front group staged)

pub returns-in-Some-clause-any_moment : goal.returns-in-Some-clause-any_moment
returns-in-Some-clause-any_moment g c tail place front s none count longest =
    let old = c.args.self.now in
    let group = take count (waiting old) in
    let staged = rw c.in-Some.is at (c.in_ok-stage.ensures.staged tail place front s none) in
    let chosen = rw c.in-Some.is at (c.in_ok-stage.ensures.longest none) in
    let same = longest_is (waiting old) (c.in-Some.field-0 - ((old.tail.first - 1) + old.forced)) count chosen.1 longest in
    let before = widened _ _ (GivesBehindFrom front tail place (stable old)) (GivesWithOrWithoutFrom front tail place (stable old) group) (c.stage.ensures.any_moment tail place front s none) (λ i given. inl given) in
    let after = c.open_staged.ensures.any_moment tail place front (take (c.in-Some.field-0 - ((old.tail.first - 1) + old.forced)) (waiting old)) staged in
    let renamed = widened _ _ (GivesWithOrWithoutFrom front tail place (stable c.stage.new.self) (take (c.in-Some.field-0 - ((old.tail.first - 1) + old.forced)) (waiting old))) (GivesWithOrWithoutFrom front tail place (stable old) group) after
    (λ i given. subst (λ n. GivesWithOrWithoutFrom front tail place (stable old) (take n (waiting old)) i) same (subst (λ l. GivesWithOrWithoutFrom front tail place l (take (c.in-Some.field-0 - ((old.tail.first - 1) + old.forced)) (waiting old)) i) c.stage.ensures.same.1 given)) in
    joined _ _ _ (GivesWithOrWithoutFrom front tail place (stable old) group) before renamed

pub returns-in_err-stage-clause-any_moment : goal.returns-in_err-stage-clause-any_moment
returns-in_err-stage-clause-any_moment g c tail place front s none count longest =
    let old = c.args.self.now in
    widened _ _ (GivesBehindFrom front tail place (stable old)) (GivesWithOrWithoutFrom front tail place (stable old) (take count (waiting old))) (c.stage.ensures.any_moment tail place front s none) (λ i given. inl given)

pub returns-in-None-clause-any_moment : goal.returns-in-None-clause-any_moment
returns-in-None-clause-any_moment g c tail place front s none count longest =
    let old = c.args.self.now in
    widened _ _ (GivesBehindFrom front tail place (stable old)) (GivesWithOrWithoutFrom front tail place (stable old) (take count (waiting old))) (c.stage.ensures.any_moment tail place front s none) (λ i given. inl given)

pub returns-in-Some-clause-settled : goal.returns-in-Some-clause-settled
returns-in-Some-clause-settled g c tail place front s none =
    let old = c.args.self.now in
    let staged = rw c.in-Some.is at (c.in_ok-stage.ensures.staged tail place front s none) in
    on_ok_two c.open_staged.result _ (c.open_staged.new.self.staged ≡ None) (IsSettledFrom tail place c.open_staged.new.self front × (c.open_staged.new.self.staged ≡ None))
    (λ after none_now. (after.0, none_now))
    (c.open_staged.ensures.settled tail place front (take (c.in-Some.field-0 - ((old.tail.first - 1) + old.forced)) (waiting old)) staged) c.open_staged.ensures.none_staged

pub returns-in-Some-clause-knows : goal.returns-in-Some-clause-knows
returns-in-Some-clause-knows g c = λ t k. c.open_staged.ensures.knows t (c.stage.ensures.knows t k)
