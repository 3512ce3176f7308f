use Rattle.std.proofs.Common.{rules, ◌≡◌, Result, Ok, Err, refl}
use Rattle.shore_keys.specs.declared.refusals.Refusal.{Refusal}
use Rattle.shore_keys.specs.declared.searching.Home.{Home}
use Rattle.shore_keys.proofs.PutSplits.{put-behind-split, put-mended, put-stops-split}
use Rattle.shore_keys.proofs.SplitSteps.{splits-then}
use Rattle.shore_keys.proofs.puts.put_new.Goals as goal

pub returns-in_err-half : goal.returns-in_err-half
returns-in_err-half g c =
    put-stops-split c.args.map.now c.args.home.now c.args.key.now c.args.value c.from_residual.result _ _ c.split.result c.split.ensures c.in_err-half.field-0.0 (search rules) (search rules)

pub returns-in_err-leaf : goal.returns-in_err-leaf
returns-in_err-leaf g c =
    let half : ◌≡◌ {A = Result Home Refusal} c.split.result (Ok c.in_ok-half.half) = search rules in
    put-stops-split c.args.map.now c.args.home.now c.args.key.now c.args.value c.from_residual-in_err-leaf.result _ _ c.roomy.result
    (splits-then c.args.map.now c.args.home.now c.args.key.now _ _ c.in_ok-half.half (rw half at c.split.ensures) c.roomy.result _ c.roomy.ensures) c.in_err-leaf.field-0.0 (search rules) (search rules)

pub returns-in_err-put_at : goal.returns-in_err-put_at
returns-in_err-put_at g c =
    let half : ◌≡◌ {A = Result Home Refusal} c.split.result (Ok c.in_ok-half.half) = search rules in
    let same : c.put_at-2.result ≡ c.from_residual-in_err-put_at.result = search rules in
    put-behind-split c.args.map.now c.args.home.now c.args.key.now c.args.value c.from_residual-in_err-put_at.result _ _ c.roomy.result
    (splits-then c.args.map.now c.args.home.now c.args.key.now _ _ c.in_ok-half.half (rw half at c.split.ensures) c.roomy.result _ c.roomy.ensures) c.in_ok-leaf.leaf (search rules) _ (rw same at c.put_at-2.ensures)

pub returns-in_default : goal.returns-in_default
returns-in_default g c =
    let half : ◌≡◌ {A = Result Home Refusal} c.split.result (Ok c.in_ok-half.half) = search rules in
    let done : ◌≡◌ {A = Result (Unit {0}) Refusal} c.put_at-2.result (Ok tt) = search rules in
    put-behind-split {A = Unit {0}} c.args.map.now c.args.home.now c.args.key.now c.args.value (Ok tt) _ _ c.roomy.result
    (splits-then c.args.map.now c.args.home.now c.args.key.now _ _ c.in_ok-half.half (rw half at c.split.ensures) c.roomy.result _ c.roomy.ensures) c.in_ok-leaf.leaf (search rules) _ (rw done at c.put_at-2.ensures)

pub returns : goal.returns
returns g c =
    let half : ◌≡◌ {A = Result Home Refusal} c.split.result (Ok c.in_ok-half.half) = search rules in
    let done : ◌≡◌ {A = Result (Unit {0}) Refusal} c.put_at-2.result (Ok tt) = search rules in
    put-mended {A = Unit {0}} c.args.map.now c.args.home.now c.args.key.now c.args.value (Ok tt) tt _ _ _ c.mend.result
    (put-behind-split {A = Unit {0}} c.args.map.now c.args.home.now c.args.key.now c.args.value (Ok tt) _ _ c.roomy.result
    (splits-then c.args.map.now c.args.home.now c.args.key.now _ _ c.in_ok-half.half (rw half at c.split.ensures) c.roomy.result _ c.roomy.ensures) c.in_ok-leaf.leaf (search rules) _ (rw done at c.put_at-2.ensures)) refl c.mend.ensures
