-- Which entries acknowledge a decision.
use Rattle.std.proofs.Common.{◌≡◌, ◌++◌, ℕ, List, [], ◌∷◌, None, refl, sym, subst}
use Rattle.std.specs.Prelude.{All}
use Rattle.std.proofs.lemmas.List.Elements.{All-push, All-append, All-nil}
use Rattle.shore_model.specs.declared.calls.Call.{Call}
use Rattle.shore_model.specs.declared.calls.Call.TheVariants as call
use Rattle.shore_model.specs.declared.histories.Decision.{Decision}
use Rattle.shore_model.specs.declared.histories.Entry.{Entry}
use Rattle.shore_model.specs.Histories.{acknowledged, acknowledged_by, decision_asked_by}
use Rattle.laws_lives.specs.SessionSteps.{IsInnerCall}
use Rattle.laws_lives.proofs.Acknowledged.{acknowledged-push}

pub inner_asks_none : (t : ℕ) (c : Call) → IsInnerCall c → decision_asked_by t c ≡ None
inner_asks_none t call.Begin inner = absurd inner
inner_asks_none t call.Commit inner = absurd inner
inner_asks_none t call.Abort inner = absurd inner
inner_asks_none t (call.Prepare global) inner = absurd inner
inner_asks_none t (call.Resolve global outcome) inner = absurd inner
inner_asks_none t call.InDoubt inner = absurd inner
inner_asks_none t _ inner = refl

module _ (P : Decision → Type 0) (es : List Entry) (h : All P (acknowledged es)) where
  -- an entry that acknowledges these
  pub acknowledges_all : (e : Entry) → All P (acknowledged_by es e) → All P (acknowledged (es ++ e ∷ []))
  acknowledges_all e all = subst (All P) (sym (acknowledged-push [] es e)) (All-append P (acknowledged es) (acknowledged_by es e) h all)

  pub acknowledges_none : (e : Entry) → acknowledged_by es e ≡ [] → All P (acknowledged (es ++ e ∷ []))
  acknowledges_none e none = acknowledges_all e (subst (All P) (sym none) (All-nil P))

  pub acknowledges_one : (e : Entry) (d : Decision) → acknowledged_by es e ≡ d ∷ [] → P d → All P (acknowledged (es ++ e ∷ []))
  acknowledges_one e d some p = acknowledges_all e (subst (All P) (sym some) (All-push P [] d (All-nil P) p))
