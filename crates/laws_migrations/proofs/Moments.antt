-- Ways of four devices from moment to moment.
use Rattle.std.proofs.Common.{◌++◌, ℕ, List, [], ◌∷◌, subst}
use Rattle.laws_migrations.specs.Moments.{FourDevices, Way}

module _ (OldStands NewStands : List ℕ → List ℕ → Type 0) where
  -- what goes, goes as something that is weaker
  pub weaker_by : (Goes Less : FourDevices → FourDevices → Type 0) → ((m n : FourDevices) → Goes m n → Less m n) → (first : FourDevices) (steps : List FourDevices) (last : FourDevices)
      → Way OldStands NewStands Goes first steps last → Way OldStands NewStands Less first steps last
  weaker_by Goes Less less first [] last h = h
  weaker_by Goes Less less first (next ∷ later) last h = (less first next h.0, weaker_by Goes Less less next later last h.1)

  -- one way behind another
  pub joined : (Goes : FourDevices → FourDevices → Type 0) (first : FourDevices) (steps : List FourDevices) (mid : FourDevices) (more : List FourDevices) (last : FourDevices)
      → Way OldStands NewStands Goes first steps mid → Way OldStands NewStands Goes mid more last → Way OldStands NewStands Goes first (steps ++ more) last
  joined Goes first [] mid more last h k = subst (λ m. Way OldStands NewStands Goes m more last) h k
  joined Goes first (next ∷ later) mid more last h k = (h.0, joined Goes next later mid more last h.1 k)
