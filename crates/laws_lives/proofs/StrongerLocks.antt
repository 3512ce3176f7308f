-- A transaction whose locks became no weaker may read and write what it might before.
use Rattle.std.proofs.Common.{ℕ, List, [], refl, sym, subst, arith}
use Rattle.std.specs.Prelude.{IsTrue, Contains}
use Rattle.std.proofs.lemmas.List.Elements.{All-nil}
use Rattle.shore_types.specs.declared.ids.Rid.{Rid}
use Rattle.shore_types.specs.declared.locking.Granule.TheVariants.{Record}
use Rattle.shore_types.specs.declared.locking.Mode.{Mode}
use Rattle.shore_types.specs.declared.locking.Mode.TheVariants.{IS, IX, SH, SIX, EX, UD}
use Rattle.shore_model.specs.declared.holds.Hold.{Hold}
use Rattle.shore_model.specs.Locks.{Harmony, MayRead, MayWrite, path}
use Rattle.shore_model.specs.Modes.{is_at_most, is_read, is_write}
use Rattle.laws_lives.specs.SessionSteps.{KeepsLocks}

pub at_most_itself : (m : Mode) → IsTrue (is_at_most m m)
at_most_itself IS = refl
at_most_itself IX = refl
at_most_itself SH = refl
at_most_itself SIX = refl
at_most_itself EX = refl
at_most_itself UD = refl

pub read_up : (m n : Mode) → IsTrue (is_at_most m n) → IsTrue (is_read m) → IsTrue (is_read n)
read_up m SH a r = refl
read_up m SIX a r = refl
read_up m EX a r = refl
read_up m UD a r = refl
read_up SH IS a r = cc
read_up SIX IS a r = cc
read_up EX IS a r = cc
read_up UD IS a r = cc
read_up SH IX a r = cc
read_up SIX IX a r = cc
read_up EX IX a r = cc
read_up UD IX a r = cc
read_up _ _ a r = cc

pub write_up : (m n : Mode) → IsTrue (is_at_most m n) → IsTrue (is_write m) → IsTrue (is_write n)
write_up EX EX a r = refl
write_up EX IS a r = cc
write_up EX IX a r = cc
write_up EX SH a r = cc
write_up EX SIX a r = cc
write_up EX UD a r = cc
write_up _ _ a r = cc

module _ (held new : List Hold) (t : ℕ) (id : Rid) (kept : KeepsLocks held new t) where
  pub reads_up : MayRead held t id → MayRead new t id
  reads_up r =
      let h = r.1 in
      let up = kept h.mode h.granule (r.0, h, r.2, r.3, (r.4.0, refl, at_most_itself h.mode)) in
      (up.0, up.1, up.2, up.3, (up.4.0, subst (Contains (path (Record id))) (sym up.4.1) r.4.1, read_up h.mode up.1.mode up.4.2 r.4.2))

  pub writes_up : MayWrite held t id → MayWrite new t id
  writes_up w =
      let h = w.1 in
      let up = kept h.mode h.granule (w.0, h, w.2, w.3, (w.4.0, refl, at_most_itself h.mode)) in
      (up.0, up.1, up.2, up.3, (up.4.0, subst (Contains (path (Record id))) (sym up.4.1) w.4.1, write_up h.mode up.1.mode up.4.2 w.4.2))

pub no_locks_in_harmony : Harmony []
no_locks_in_harmony = record { stand_together = All-nil _; none_interferes = λ r t u other w d. omega (arith, w.2) }
