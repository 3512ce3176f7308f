-- A transaction that has a turn is none that the opening has in doubt.
use Rattle.std.proofs.Common.{◌≡◌, ℕ, List, [], ◌∷◌, Option, None, Some, Bool, true, false, refl, sym, ap, ◌∙◌}
use Rattle.std.specs.Prelude.{◌==◌, ◌||◌, if◌then◌else◌}
use Rattle.std.specs.List.{list_any}
use Rattle.shore_model.specs.declared.histories.InDoubt.{InDoubt}
use Rattle.shore_model.specs.declared.histories.Decision.{Decision}
use Rattle.shore_model.specs.declared.histories.Decision.TheVariants.{Commit, Prepare, RollBack}
use Rattle.shore_model.specs.Records.{WriteSet}
use Rattle.shore_model.specs.Histories.{writes_given, turn_of, is_prepare_of}

not_first : (b rest : Bool) (w : WriteSet) (o : Option WriteSet) → (b || rest) ≡ false → (rest ≡ false → o ≡ None) → (if b then Some w else o) ≡ None
not_first true rest w o h f = cc
not_first false rest w o h f = f h

not_given : (doubts : List InDoubt) (t : ℕ) → list_any (λ (d : InDoubt). d.txn == t) doubts ≡ false → writes_given doubts t ≡ None
not_given [] t h = refl
not_given (d ∷ ds) t h = not_first (d.txn == t) (list_any (λ (d : InDoubt). d.txn == t) ds) d.writes (writes_given ds t) h (not_given ds t)

unprepared : (b p : Bool) (u t : ℕ) → (if b || p then None else Some u) ≡ Some t → (b ≡ false) × (u ≡ t)
unprepared true p u t h = cc
unprepared false true u t h = cc
unprepared false false u t h = (refl, cc)

ungiven : (doubts : List InDoubt) (before : List Decision) (u t : ℕ) → (if list_any (λ (d : InDoubt). d.txn == u) doubts || list_any (is_prepare_of u) before then None else Some u) ≡ Some t → writes_given doubts t ≡ None
ungiven doubts before u t h =
    let its = unprepared (list_any (λ (d : InDoubt). d.txn == u) doubts) (list_any (is_prepare_of u) before) u t h in
    not_given doubts t (ap (λ v. list_any (λ (d : InDoubt). d.txn == v) doubts) (sym its.1) ∙ its.0)

pub turn_ungiven : (doubts : List InDoubt) (before : List Decision) (d : Decision) (t : ℕ) → turn_of doubts before d ≡ Some t → writes_given doubts t ≡ None
turn_ungiven doubts before (Prepare u g) t h = ungiven doubts before u t h
turn_ungiven doubts before (Commit u) t h = ungiven doubts before u t h
turn_ungiven doubts before (RollBack u) t h = cc
