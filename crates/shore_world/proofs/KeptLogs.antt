-- A world whose log device keeps its frames and its anchor.
use Rattle.std.proofs.Common.{◌≡◌, inl, inr, ℕ, ◌+◌, ◌-◌, ◌≤◌, ◌++◌, List, IsTrue, false, take, refl, sym, ap, subst, ◌∙◌}
use Rattle.shore_disk.specs.Device.{may_leave, seen}
use Rattle.shore_disk.specs.declared.device.Disk.{Ghosts}
use Rattle.shore_disk.proofs.Moments.{seen_left}
use Rattle.shore_gate.specs.Anchor.{Counts}
use Rattle.shore_gate.specs.declared.anchors.Anchors.{Anchors}
use Rattle.shore_model.specs.declared.log_records.LogRecord.{LogRecord}
use Rattle.shore_frames.specs.Frames.{GivesFrom}
use Rattle.shore_frames.specs.declared.reading.FrameAt.{FrameAt}
use Rattle.shore_log.specs.Indexes.{frame_with}
use Rattle.shore_log.specs.declared.device.LogDev.{LogDev}
use Rattle.shore_log.specs.Settled.{IsLeftByMove, KeepsFrames, cut_of_log, next_anchor, records_of_log, stable}
use Rattle.shore_core.specs.Cores.{IsIn, IsOver, durable_of, faults_of, has_failed, heap_of, history_of, waiting_of}
use Rattle.shore_world.specs.declared.world.World.{World}
use Rattle.shore_world.specs.Worlds.{IsLeftOfLog, IsLike, SurvivesCrashes, anchor_in, anchors_in, durable_in, failed_in, history_in, list_in, report_in}
use Rattle.shore_world.proofs.FuseLemmas.{told_alone}
use Rattle.shore_world.proofs.LogParts.{in_same}
use Rattle.shore_world.proofs.RunLemmas.{same_volume}
use Rattle.shore_world.proofs.WorldLemmas.{anchored_same, gives_before, ready_frames, ready_gives}

-- the next anchor goes by the index and the anchors alone
pub next_same : {L : Type 0} {G : Ghosts L} (old new : LogDev L G) → new.anchors ≡ old.anchors → new.tail ≡ old.tail → new.frames.items ≡ old.frames.items → (checkpoint number : ℕ)
    → next_anchor new checkpoint number ≡ next_anchor old checkpoint number
next_same old new anchors tail frames checkpoint number = λ i. record {
  sequence = (anchors i).anchor.sequence + 1;
  checkpoint = checkpoint;
  tail = (frame_with number (tail i) (frames i)).first;
  tail_place = (frame_with number (tail i) (frames i)).place;
}

module _ {L V : Type 0} {G : Ghosts L} {H : Ghosts V} where
  -- what a crash leaves amid a checkpoint's move goes by them too
  pub left_same : (old new : World L V G H) → new.stage ≡ old.stage → anchors_in new ≡ anchors_in old → new.log.tail ≡ old.log.tail → new.log.frames.items ≡ old.log.frames.items
      → list_in new ≡ list_in old → stable new.log ≡ stable old.log → durable_in new ≡ durable_in old → (front c : List ℕ) → IsLeftOfLog old front c → IsLeftOfLog new front c
  left_same old new stage anchors tail frames list forced durable front c (inl gives) = inl (gives_before old new front c list forced anchors gives)
  left_same old new stage anchors tail frames list forced durable front c (inr amid) = inr (
    amid.0,
    record {
      named = amid.1.named;
      at = stage ∙ amid.1.at;
      durable = subst (λ n. amid.1.named.number ≤ n) (sym durable) amid.1.durable;
      anchor = amid.1.anchor ∙ sym (next_same old.log new.log anchors tail frames amid.1.named.mark.checkpoint amid.1.named.mark.tail);
    },
    subst (λ (x : Anchors). IsLeftByMove x amid.0 front (stable new.log) c) (sym anchors)
        (subst (λ (l : List LogRecord). IsLeftByMove (anchors_in old) amid.0 front l c) (sym forced) amid.2),
  )

  -- a world with the same core, of which the device's bytes are as they were
  module _ (old new : World L V G H) (core : new.core ≡ old.core) (stage : new.stage ≡ old.stage) (report : report_in new ≡ report_in old) (frames : KeepsFrames old.log new.log)
      (records : records_of_log new.log ≡ records_of_log old.log) (history : history_in new ≡ history_in old) where
    list : list_in new ≡ list_in old
    list = ap (λ (l : List LogRecord). l ++ waiting_of new.core) records ∙ ap (λ c. records_of_log old.log ++ waiting_of c) core

    frames_kept : (front : List ℕ) → SurvivesCrashes old front → SurvivesCrashes new front
    frames_kept front k = record {
      images = λ c left. left_same old new stage frames.anchors frames.tail frames.index list frames.forced (ap (λ c. durable_of c) core) front c (k.images c (subst (λ h. may_leave h c) history left));
      anchored = anchored_same old.log new.log frames.anchors front k.anchored;
      ready = λ runs. ready_frames old.log new.log frames front (k.ready (sym (ap (λ c. has_failed c) core) ∙ runs));
    }

    pub alike : IsLike old new
    alike =
        told_alone old new history (ap (λ c. history_of c) core) (same_volume old.core new.core (ap (λ c. heap_of c) core))
        (λ front disk s is. subst (λ c. IsIn front disk (take (cut_of_log new.log) s.log ++ records_of_log new.log) c s) (sym core)
        (in_same old.log new.log old.core (ap (λ (t : FrameAt). t.first - 1) frames.tail) records front disk s is))
        (λ disk s store over. subst (λ c. IsOver disk c s store) (sym core) over)
        list (ap (λ c. durable_of c) core) (ap (λ c. has_failed c) core) frames.under_way stage frames.anchors report (ap (λ c. faults_of c) core) frames_kept

  -- ---- what is read of it

  -- the frames give what is durable
  pub gives_now : (w : World L V G H) (front : List ℕ) → SurvivesCrashes w front → failed_in w ≡ false → GivesFrom w.log.tail.first w.log.tail.place (stable w.log) (seen (history_in w))
  gives_now w front k running =
      let gives = (ready_gives w.log front (k.ready running) (seen (history_in w)) (seen_left (history_in w).first (history_in w).calls)).1 in
      subst (λ n. GivesFrom n w.log.tail.place (stable w.log) (seen (history_in w))) w.log.anchored.0
      (subst (λ n. GivesFrom (anchor_in w).tail n (stable w.log) (seen (history_in w))) w.log.anchored.1 gives)
