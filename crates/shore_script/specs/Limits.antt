-- The limits of the settings.
use Rattle.std.specs.Prelude.{ℕ, ◌≤◌}
use Rattle.shore_types.specs.Layout.{IsInLimits}
use Rattle.shore_types.specs.declared.layout.TheConstants.{MAX_LOG_BYTES, MIN_POOL_FRAMES, MAX_POOL_FRAMES}
use Rattle.shore_types.specs.Versions.{least_log}
use Rattle.shore_script.specs.declared.settings.Settings.{Settings}

-- so many frames a pool may have
abbrev pub IsFrameCount : ℕ → Type 0
IsFrameCount frames = (MIN_POOL_FRAMES ≤ frames) × (frames ≤ MAX_POOL_FRAMES)

-- what a manager may be made with: stores and locks in their limits, a log that is long enough and not too long, and a pool
pub record AreInLimits (settings : Settings) : Type 0 where
  pub geometry : IsInLimits settings.geometry
  pub least : least_log settings.geometry.version ≤ settings.log_bytes
  pub most : settings.log_bytes ≤ MAX_LOG_BYTES
  pub pool : IsFrameCount settings.pool
