use Rattle.std.proofs.Common.{rules, ◌≡◌, ◌≢◌, Result, Ok, Err, refl}
use Rattle.shore_keys.specs.declared.refusals.Refusal.{Refusal}
use Rattle.shore_keys.specs.declared.refusals.Refusal.TheVariants.{Damaged, Full}
use Rattle.shore_keys.specs.declared.searching.Home.{Home}
use Rattle.shore_keys.proofs.SplitSteps.{splits-none, splits-stop, splits-then}
use Rattle.shore_keys.proofs.puts.roomy.Goals as goal

other : Full ≢ Damaged
other e = cc

pub loop-split-init : goal.loop-split-init
loop-split-init g c = splits-none c.args.map.now c.args.home c.args.key.now _

pub returns-then-has_room : goal.returns-then-has_room
returns-then-has_room g c = c.loop-split.invariant

pub returns-in_err-at : goal.returns-in_err-at
returns-in_err-at g c =
    let same : c.split.result ≡ c.from_residual.result = search rules in
    splits-then c.args.map.now c.args.home c.args.key.now _ _ c.loop-split.at c.loop-split.invariant c.from_residual.result _ (rw same at c.split.ensures)

pub loop-split-preserved : goal.loop-split-preserved
loop-split-preserved g c =
    let same : ◌≡◌ {A = Result Home Refusal} c.split.result (Ok c.in_ok-at.at) = search rules in
    splits-then c.args.map.now c.args.home c.args.key.now _ _ c.loop-split.at c.loop-split.invariant (Ok c.in_ok-at.at) _ (rw same at c.split.ensures)

pub returns : goal.returns
returns g c = splits-stop c.args.map.now c.args.home c.args.key.now _ _ c.loop-split.at c.loop-split.invariant (Err Full) Full refl other
