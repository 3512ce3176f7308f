use Rattle.std.proofs.Common.{inl, inr, ⊎_elim, List, ℕ, refl, sym, subst}
use Rattle.shore_disk.proofs.Moments.{at_end}
use Rattle.shore_disk.specs.Device.{DeviceHistory, may_leave}
use Rattle.shore_world.specs.Crashes.{AreLeft}
use Rattle.shore_world.specs.Opens.{LeftByOpen}
use Rattle.shore_world.proofs.EndedLemmas.{ended_found, ended_in_open, ended_left, ended_long, lost_at_last}
use Rattle.shore_world.specs.Managers.{AreLeftInThreads}
use Rattle.shore_world.proofs.laws.pairs_are_found_again.Goals as goal

pub returns-clause-crash : goal.returns-clause-crash
returns-clause-crash c d w log volume log_image volume_image there log_stands volume_stands = record {
  lengths = (refl, refl);
  among = λ i j may_log may_volume.
      subst (λ (x : List ℕ). AreLeft w x j) (sym (log_stands.only i may_log)) (subst (AreLeft w log_image) (sym (volume_stands.only j may_volume)) there);
}

pub returns-clause-cut : goal.returns-clause-cut
returns-clause-cut c d log volume log_now volume_now log_image volume_image there log_stands volume_stands = record {
  lengths = (refl, refl);
  among = λ i j may_log may_volume.
      subst (λ (x : List ℕ). LeftByOpen log volume x j) (sym (log_stands.only i may_log)) (subst (LeftByOpen log volume log_image) (sym (volume_stands.only j may_volume)) there);
}

pub returns-clause-closed : goal.returns-clause-closed
returns-clause-closed c d w = record { lengths = (refl, refl); among = λ i j may_log may_volume. inl (may_log, may_volume) }

pub returns-clause-refused : goal.returns-clause-refused
returns-clause-refused c d log volume log_now volume_now fault l v log_is volume_is along i j may_log may_volume g anchor rs pages stood =
    let log_may = subst (λ (h : DeviceHistory). may_leave h i) (sym log_is) may_log in
    let volume_may = subst (λ (h : DeviceHistory). may_leave h j) (sym volume_is) may_volume in
    ⊎_elim
    (λ early. inl (at_end log (c.L.Disk.history l) (may_leave log) early.0 i log_may, at_end volume (c.V.Disk.history v) (may_leave volume) early.1 j volume_may))
    (λ went. inr (
      went.0,
      lost_at_last g _ _ anchor _ went.0.moments went.0.last went.0.path i j (subst (λ (h : DeviceHistory). may_leave h i) (sym went.1) log_may) (subst (λ (h : DeviceHistory). may_leave h j) (sym went.2) volume_may),
    ))
    (along g anchor rs pages stood)

pub returns-clause-ended : goal.returns-clause-ended
returns-clause-ended c d w log volume ended = ended_found w log volume ended

pub returns-clause-ended_in_open : goal.returns-clause-ended_in_open
returns-clause-ended_in_open c d log volume log_now volume_now ended = record { lengths = (refl, refl); among = ended_in_open log volume log_now volume_now ended }

pub returns-clause-lost_in_threads : goal.returns-clause-lost_in_threads
returns-clause-lost_in_threads c d t log volume log_image volume_image there log_stands volume_stands = record {
  lengths = (refl, refl);
  among = λ i j may_log may_volume.
      subst (λ (x : List ℕ). AreLeftInThreads t x j) (sym (log_stands.only i may_log)) (subst (AreLeftInThreads t log_image) (sym (volume_stands.only j may_volume)) there);
}

pub returns-clause-ended_in_threads : goal.returns-clause-ended_in_threads
returns-clause-ended_in_threads c d t log volume log_ended volume_ended = record {
  lengths = (ended_long t.log_now t.log_later log log_ended, ended_long t.volume_now t.volume_later volume volume_ended);
  among = λ i j may_log may_volume. (ended_left t.log_now t.log_later log log_ended i may_log, ended_left t.volume_now t.volume_later volume volume_ended j may_volume);
}
