-- The whole log of a state, and what a world keeps of it.
use Rattle.std.proofs.Common.{◌≡◌, ℕ, List, ◌++◌, arith, length, take, drop, sym, ◌∙◌, ap, subst, length-append, append_assoc}
use Rattle.std.proofs.lemmas.List.{length-take}
use Rattle.std.proofs.Math.Seq.{drop-append_seam, take-append_seam}
use Rattle.shore_disk.specs.declared.device.Disk.{Ghosts}
use Rattle.shore_model.specs.declared.log_records.LogRecord.{LogRecord}
use Rattle.shore_log.specs.declared.device.LogDev.{LogDev}
use Rattle.shore_log.specs.Settled.{cut_of_log, records_of_log}
use Rattle.laws_calls.specs.States.{State}
use Rattle.shore_core.specs.declared.core_calls.Core.{Core}
use Rattle.shore_core.specs.Cores.{IsBeside, IsIn, waiting_of}
use Rattle.shore_log.specs.declared.tail.Tail as tail
use Rattle.shore_world.specs.declared.world.World.{World}
use Rattle.shore_world.specs.Worlds.{IsLogOf, before_in, cut_in, last_in, list_in}

module _ {L V : Type 0} {G : Ghosts L} {H : Ghosts V} where
  abbrev pub IsBesideOf : World L V G H → State → Type 0
  IsBesideOf w s = IsBeside (before_in w s) w.core s

  module _ (w : World L V G H) (s : State) (is : IsBesideOf w s) where
    abbrev gone : List LogRecord
    gone = take (cut_in w) s.log

    pub gone_long : length gone ≡ cut_in w
    gone_long = omega (arith, is.first, w.numbers, length-append gone (records_of_log w.log))

    -- it is what is cut off, and what is kept
    pub log_parts : s.log ≡ gone ++ list_in w
    log_parts = is.parts.log ∙ append_assoc gone (records_of_log w.log) (waiting_of w.core)

    pub log_of : IsLogOf w s.log
    log_of = record {
      within = omega (arith, gone_long, length-take (cut_in w) s.log);
      kept = ap (drop (cut_in w)) log_parts ∙ ap (λ n. drop n (gone ++ list_in w)) (sym gone_long) ∙ drop-append_seam gone (list_in w);
    }

    pub log_long : length s.log ≡ last_in w
    log_long = omega (arith, ap length log_parts, length-append gone (list_in w), gone_long)

    -- what goes on behind the same records has the same cut off
    pub cut_stays : (more log : List LogRecord) → log ≡ before_in w s ++ more → take (cut_in w) log ≡ gone
    cut_stays more log is_so =
        ap (take (cut_in w)) (is_so ∙ append_assoc gone (records_of_log w.log) more) ∙ ap (λ n. take n (gone ++ (records_of_log w.log ++ more))) (sym gone_long)
        ∙ take-append_seam gone (records_of_log w.log ++ more)

  -- so the records before its buffer are the same behind an event that leaves the log device
  pub before_stays : (old new : World L V G H) (s later : State) → IsBesideOf old s → (more : List LogRecord) → later.log ≡ before_in old s ++ more → new.log ≡ old.log
      → before_in new later ≡ before_in old s
  before_stays old new s later is more log same =
      ap (λ (l : LogDev L G). take (cut_of_log l) later.log ++ records_of_log l) same
      ∙ ap (λ (l : List LogRecord). l ++ records_of_log old.log) (cut_stays old s is more later.log log)

  -- .. and where only some of what is kept there was handed over, with no more cut off
  pub before_same : (old new : World L V G H) (s later : State) → IsBesideOf old s → (more : List LogRecord) → later.log ≡ before_in old s ++ more → cut_in new ≡ cut_in old
      → before_in new later ≡ take (cut_in old) s.log ++ records_of_log new.log
  before_same old new s later is more log same =
      ap (λ n. take n later.log ++ records_of_log new.log) same ∙ ap (λ (l : List LogRecord). l ++ records_of_log new.log) (cut_stays old s is more later.log log)

-- a core that has the records of a log device, of which as much is cut off
pub in_at : {L T V : Type 0} {G : Ghosts L} {K : tail.Ghosts T} {H : Ghosts V} (log : LogDev L G) (core : Core T V K H) (n : ℕ) → cut_of_log log ≡ n → (front : List ℕ) (disk : ℕ → List ℕ) (s : State)
    → IsIn front disk (take n s.log ++ records_of_log log) core s → IsIn front disk (take (cut_of_log log) s.log ++ records_of_log log) core s
in_at log core n cut front disk s is = subst (λ k. IsIn front disk (take k s.log ++ records_of_log log) core s) (sym cut) is

-- .. and is as the other log device
pub in_same : {L T V : Type 0} {G : Ghosts L} {K : tail.Ghosts T} {H : Ghosts V} (old new : LogDev L G) (core : Core T V K H) → cut_of_log new ≡ cut_of_log old → records_of_log new ≡ records_of_log old
    → (front : List ℕ) (disk : ℕ → List ℕ) (s : State) → IsIn front disk (take (cut_of_log old) s.log ++ records_of_log old) core s
    → IsIn front disk (take (cut_of_log new) s.log ++ records_of_log new) core s
in_same old new core cut records front disk s is =
    in_at new core (cut_of_log old) cut front disk s (subst (λ (l : List LogRecord). IsIn front disk (take (cut_of_log old) s.log ++ l) core s) (sym records) is)
