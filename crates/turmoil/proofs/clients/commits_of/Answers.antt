use Rattle.std.proofs.Common.{◌++◌, ◌∙◌, [], ◌∷◌, ap, refl, arith}
use Rattle.shore_model.specs.declared.calls.Call.TheVariants as Call
use Rattle.turmoil.proofs.Commits.{begun_by, read_more}
use Rattle.turmoil.proofs.clients.commits_of.Goals as goal

pub loop-from-init : goal.loop-from-init
loop-from-init g c = (
  c.in_ok-call.field-0,
  [],
  c.call.ensures.told ∙ ap (λ l. l ++ record { call = Call.Begin; reply = c.call.result } ∷ []) c.requires ∙ ap (λ r. record { call = Call.Begin; reply = r } ∷ []) c.in_ok-call.was,
  (refl, refl),
)

pub loop-from-preserved : goal.loop-from-preserved
loop-from-preserved g c =
    read_more c.args.number c.loop-from.from c.loop-from.commits c.in_ok-commits.field-0 (g.C.Client.told c.loop-from.client) (g.C.Client.told c.number_at.new.client) c.counter.result
    c.counter.ensures c.in_ok-commits.ensures.0 c.loop-from.invariant c.in_ok-commits.ensures.1

pub returns : goal.returns
returns g c = begun_by c.args.number c.loop-from.from c.loop-from.commits (g.C.Client.told c.loop-from.client) (omega (arith, c.loop-from-test.false, c.loop-from.auto.from-end)) c.loop-from.invariant
    c.call-2.ensures.told c.in_ok-call-2.was
