-- What stands behind a force that has ended.
use Rattle.std.proofs.Common.{◌≡◌, ◌∙◌, ◌+◌, ◌-◌, ℕ, List, Result, Ok, Err, OnOk, IsSome, None, inl, inr, length, refl, sym, ap, subst}
use Rattle.std.proofs.lemmas.Bool.{false≢true}
use Rattle.shore_disk.specs.declared.device.Disk.{Ghosts}
use Rattle.shore_gate.specs.declared.anchors.Anchors.{Anchors}
use Rattle.shore_model.specs.declared.log_records.LogRecord.{LogRecord}
use Rattle.shore_world.specs.Worlds.{anchors_in, cut_in, last_in, list_in}
use Rattle.shore_world.specs.declared.world.World.{World}
use Rattle.shore_prog.specs.Doing.{AreAllDurable, EndsForce}

pub then_on : {A E : Type 0} {P Q : Type 0} (r : Result A E) → (P → Q) → OnOk r P → OnOk r Q
then_on (Ok value) f p = f p
then_on (Err error) f p = tt

module _ {L V : Type 0} {G : Ghosts L} {H : Ghosts V} where
  -- a log is cut off where its anchor says
  same_cut : (old new : World L V G H) → anchors_in new ≡ anchors_in old → cut_in new ≡ cut_in old
  same_cut old new same = ap (λ (n : ℕ). n - 1) (sym new.log.anchored.0 ∙ ap (λ (a : Anchors). a.anchor.tail) same ∙ old.log.anchored.0)

  -- nothing was to be staged, and no frame was under way: so each record was durable, and nothing has changed since
  pub all_durable : (new : World L V G H) → EndsForce new → AreAllDurable new
  all_durable new (before, between, stages, opens) =
      let quiet = stages.quiet tt refl in
      let still = opens.quiet tt refl in
      let none : before.log.staged ≡ None = sym quiet.staged ∙ opens.shut refl refl in
      let durable = still.durable ∙ quiet.durable in
      let list = still.list ∙ quiet.list in
      let cut = same_cut before new (still.anchors ∙ quiet.anchors) in
      let last : last_in new ≡ last_in before = ap (λ (n : ℕ). n + length (list_in new)) cut ∙ ap (λ (l : List LogRecord). cut_in before + length l) list in
      elim (stages.idle refl refl) [
        | inl staged ↦ absurd (false≢true (subst IsSome none staged))
        | inr all ↦ durable ∙ all ∙ sym last
      ]
