use Rattle.shore_analysis.proofs.prepares.are_granules.Goals as goal

pub returns : goal.returns
returns c = (
  λ h. record { inside = c.are_inside.ensures.0 c.if-not-are_inside.false; rise = c.rise.ensures.0 h },
  λ both. c.rise.ensures.1 both.rise,
)
