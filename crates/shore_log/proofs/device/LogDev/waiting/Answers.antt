use Rattle.std.proofs.Common.{◌+◌, ◌-◌, ◌++◌, ℕ, List, length, drop, sym, subst, ap, ◌∙◌, take}
use Rattle.std.specs.Prelude.{All}
use Rattle.shore_logrec.specs.Text.{Fits, texts}
use Rattle.shore_log.specs.Settled.{waiting}
use Rattle.shore_log.proofs.ForceLemmas.{slice_waiting, waiting_fit}
use Rattle.shore_log.proofs.TextLemmas.{rest_is}
use Rattle.shore_log.proofs.device.LogDev.waiting.Goals as goal

pub encode_all-requires : goal.encode_all-requires
encode_all-requires g c =
    let log = c.args.self.now in
    subst (All Fits) (sym (slice_waiting log c.in-Some.read c.deref.result.now c.in-Some.is c.deref.ensures.value)) (waiting_fit log)

pub returns-in_ok-encode_all-in-Some : goal.returns-in_ok-encode_all-in-Some
returns-in_ok-encode_all-in-Some g c =
    let log = c.args.self.now in
    let slice = slice_waiting log c.in-Some.read c.deref.result.now c.in-Some.is c.deref.ensures.value in
    c.decode_all.ensures (waiting log) (waiting_fit log)
    (c.deref-in-Some.ensures.value ∙ c.in_ok-encode_all-in-Some.ensures ∙ ap (λ (l : List ℕ). l ++ texts (take (length c.deref.result.now - (log.gone + log.forced)) (drop (log.gone + log.forced) c.deref.result.now))) c.new-texts.ensures.items
    ∙ ap texts slice)

pub returns-in-None : goal.returns-in-None
returns-in-None g c =
    let log = c.args.self.now in
    c.decode_all-in-None.ensures (waiting log) (waiting_fit log) (rest_is log.at c.deref-in-None.result.now ∙ ap (drop log.at) c.deref-in-None.ensures.value ∙ log.spelled c.in-None.is)
