-- The cut point is the least of three.
use Rattle.std.proofs.Common.{◌≤◌, ℕ, List, [], ◌∷◌, arith}
use Rattle.std.specs.List.{AllByRecursion}
use Rattle.shore_model.specs.declared.log_records.DirtyPage.{DirtyPage}
use Rattle.shore_model.specs.declared.log_records.LogTxn.{LogTxn}
use Rattle.laws_checkpoints.specs.Checkpoints.{Checkpoint, cut_point, least_first, least_recovery}
use Rattle.laws_checkpoints.proofs.Cuts.{least_first_most, point_at_begin}

below_recoveries : (m n : ℕ) (ds : List DirtyPage) → m ≤ least_recovery n ds → AllByRecursion (λ d. m ≤ d.recovery) ds
below_recoveries m n [] le = tt
below_recoveries m n (d ∷ ds) le = (omega arith, below_recoveries m n ds (omega arith))

below_firsts : (m n : ℕ) (es : List LogTxn) → m ≤ least_first n es → AllByRecursion (λ e. m ≤ e.first) es
below_firsts m n [] le = tt
below_firsts m n (e ∷ es) le = (omega arith, below_firsts m n es (omega arith))

pub point_least : (c : Checkpoint) → (cut_point c ≤ c.begin) × AllByRecursion (λ d. cut_point c ≤ d.recovery) c.dirty × AllByRecursion (λ e. cut_point c ≤ e.first) c.txns
point_least c = (
  point_at_begin c,
  below_recoveries (cut_point c) c.begin c.dirty (least_first_most (least_recovery c.begin c.dirty) c.txns),
  below_firsts (cut_point c) (least_recovery c.begin c.dirty) c.txns (omega arith),
)

least_of_recoveries : (m n : ℕ) (ds : List DirtyPage) → m ≤ n → AllByRecursion (λ d. m ≤ d.recovery) ds → m ≤ least_recovery n ds
least_of_recoveries m n [] le h = le
least_of_recoveries m n (d ∷ ds) le h = let rest = least_of_recoveries m n ds le h.1 in let this = h.0 in omega arith

least_of_firsts : (m n : ℕ) (es : List LogTxn) → m ≤ n → AllByRecursion (λ e. m ≤ e.first) es → m ≤ least_first n es
least_of_firsts m n [] le h = le
least_of_firsts m n (e ∷ es) le h = let rest = least_of_firsts m n es le h.1 in let this = h.0 in omega arith

pub point_greatest : (c : Checkpoint) (n : ℕ) → n ≤ c.begin → AllByRecursion (λ d. n ≤ d.recovery) c.dirty → AllByRecursion (λ e. n ≤ e.first) c.txns → n ≤ cut_point c
point_greatest c n le dirty txns = least_of_firsts n (least_recovery c.begin c.dirty) c.txns (least_of_recoveries n c.begin c.dirty le dirty) txns
