-- A put whose leaf is split first.
use Rattle.std.proofs.Common.{◌≡◌, ◌≢◌, ℕ, List, Option, Some, Result, Ok, Err, refl, sym, ap, subst, ◌∙◌}
use Rattle.shore_model.specs.declared.calls.Exchange.{Exchange}
use Rattle.shore_model.specs.declared.progress.Progress.{Progress}
use Rattle.shore_model.specs.Records.{Records}
use Rattle.shore_keys.specs.declared.maps.KeyMap.{KeyMap}
use Rattle.shore_keys.specs.declared.refusals.Refusal.{Refusal}
use Rattle.shore_keys.specs.declared.searching.Home.{Home}
use Rattle.shore_keys.specs.Exchanges.{AtItsTurn, GoesOn, seen}
use Rattle.shore_keys.specs.Homes.{IsNewAt, PutsAtHome}
use Rattle.shore_keys.specs.Maps.{IsPut, Map, Mends, Represents, with_at}
use Rattle.shore_keys.specs.Splits.{HasSplit, Splits}
use Rattle.shore_keys.proofs.MendSteps.{Mended}
use Rattle.shore_keys.proofs.PutSteps.{PutAtHome}
use Rattle.shore_keys.proofs.SplitSteps.{Split}
use Rattle.shore_keys.proofs.Spared.{spared-then}
use Rattle.shore_keys.proofs.Turns.{goes-as, goes-then}

module _ {A : Type 0} (k : KeyMap) (home : Home) (key value : List ℕ) (s : Result A Refusal) (a b : List Exchange) (r : Result Home Refusal) (splits : GoesOn (Splits k home key r) a b) where
  pub put-stops-split : (f : Refusal) → r ≡ Err f → s ≡ Err f → GoesOn (PutsAtHome k home key value s) a b
  put-stops-split f is so =
      goes-as (Split k home key r) (PutAtHome k home key value s) a b splits
      (λ R p q h m rep at.
      let was = h m rep at in
      (was.0, subst (IsPut (seen R q) k m key (Some value)) (sym so) (subst (HasSplit (seen R q) k m key) is was.1)))

  pub put-behind-split : (half : Home) → r ≡ Ok half → (c : List Exchange) → GoesOn (PutsAtHome k half key value s) b c → GoesOn (PutsAtHome k home key value s) a c
  put-behind-split half is c puts =
      goes-then (Split k home key r) (PutAtHome k half key value s) (PutAtHome k home key value s) a b c splits puts
      (λ R p q t h u m rep at.
      let was = h m rep at in
      let now = subst (HasSplit (seen R q) k m key) is was.1 in
      let done = u m now.0 now.1 in
      (spared-then was.0 done.0, done.1))

-- a mend behind a put
pub put-mended : {A B : Type 0} (k : KeyMap) (home : Home) (key value : List ℕ) (s : Result A Refusal) (done : A) (a b c : List Exchange) (r : Result B Refusal) → GoesOn (PutsAtHome k home key value s) a b → s ≡ Ok done
    → GoesOn (Mends k r) b c → GoesOn (PutsAtHome k home key value s) a c
put-mended k home key value s done a b c r puts is mends =
    goes-then (PutAtHome k home key value s) (Mended k r) (PutAtHome k home key value s) a b c puts mends
    (λ R p q t h y m rep at.
    let was = h m rep at in
    let now = y (with_at key (Some value) m) (subst (IsPut (seen R q) k m key (Some value)) is was.1) in
    (spared-then was.0 now.0, subst (IsPut (seen R t) k m key (Some value)) (sym is) now.1))
