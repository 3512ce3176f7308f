use Rattle.std.proofs.Common.{◌≡◌, [], ◌∷◌, All, IsTrue, arith, length, map, slice_index_or, subst, sym, true}
use Rattle.std.proofs.Math.Logic.{∥∥₁_map}
use Rattle.shore_words.specs.Words.{AreBy, heard_of}
use Rattle.shore_held.specs.Trails.{has_failure, noted_in}
use Rattle.shore_shared.specs.HandedBack.{AreHandedBack}
use Rattle.shore_shared.specs.Told.{seen_in, shown_by}
use Rattle.shore_shared.proofs.HandedBack.{by_greatest, by_others, greatest, is_greatest}
use Rattle.shore_shared.proofs.Telling.{as_many, hold, if_ok}
use Rattle.shore_shared.proofs.serving.with_names.Goals as goal

pub returns-in-Ok-clause-world : goal.returns-in-Ok-clause-world
returns-in-Ok-clause-world g c =
    let e = c.in-Ok.ensures.ended in
    let sessions = c.with_sessions-sessions.result.0.items in
    let by : AreBy (length sessions) (noted_in e.0 e.1) = subst (λ n. AreBy n (noted_in e.0 e.1)) (omega (arith, c.with_sessions-sessions.result.0.ok)) e.5 in
    let heard : All (λ s. heard_of (shown_by s.ear s.seat).session (noted_in e.0 e.1) ≡ (shown_by s.ear s.seat).heard) sessions =
    λ k d low. let s = slice_index_or sessions k d in subst (λ n. heard_of n (noted_in e.0 e.1) ≡ s.ear.heard) (sym s.listens.1) (e.4 k d low) in (
      c.in-Ok.ensures.layout.0,
      c.in-Ok.ensures.layout.1,
      e.0,
      e.1,
      e.8,
      e.6,
      if_ok c.with_sessions-sessions.result.1 _ _ (λ all h. (
        hold g.J.Job.says (λ s. shown_by s.ear s.seat) (noted_in e.0 e.1) _ _ _ _ sessions h.0 h.1 h.2 h.3 heard (λ k d low. (c.in-Ok.ensures.seen k d low, e.7 k d low)),
        as_many g.J.Job.says (λ s. shown_by s.ear s.seat) (noted_in e.0 e.1) _ _ _ sessions h.0 h.1 h.3 by,
      )) c.with_sessions-sessions.ensures,
    )

-- What each client knows to be durable is no more than the greatest of what the sessions have seen, and that is in the prefix.
pub returns-in-Err-clause-devices : goal.returns-in-Err-clause-devices
returns-in-Err-clause-devices g c =
    let back = c.into_devices-log.ensures.stand in
    let same = c.in-Err.ensures.back.1 in
    let sessions = c.with_sessions-sessions.result.0.items in
    let durable = greatest (λ s. s.seat.seen) sessions in
    let heard : All (λ s. heard_of (shown_by s.ear s.seat).session (noted_in back.0 back.1) ≡ (shown_by s.ear s.seat).heard) sessions =
    λ k d low. let s = slice_index_or sessions k d in
    subst (λ n. heard_of n (noted_in back.0 back.1) ≡ s.ear.heard) (sym s.listens.1) (subst (λ v. All (λ s. heard_of s.number (noted_in back.0 back.1) ≡ s.ear.heard) v.items) same back.5 k d low) in
    let failed = subst (λ v. All (λ s. s.seat.failed ≡ true → IsTrue (has_failure back.0)) v.items) same back.3 in
    let known = is_greatest (λ s. s.seat.seen) sessions in (
      c.into_devices-log.ensures.long.0,
      c.into_devices-log.ensures.long.1,
      back.0,
      back.1,
      back.2,
      durable,
      if_ok c.with_sessions-sessions.result.1 _ _ (λ all h. hold g.J.Job.says (λ s. shown_by s.ear s.seat) (noted_in back.0 back.1) (seen_in durable back.0) _ _ _ sessions h.0 h.1 h.2 h.3 heard (λ k d low. (known k d low, failed k d low)))
          c.with_sessions-sessions.ensures,
      λ start honest. ∥∥₁_map (subst (λ v. ∥ AreHandedBack start back.0 back.1 g.B.Named.geometry g.B.Named.log_bytes back.2 (start.first.state.durable ∷ map (λ s. s.seat.seen) v.items)
          (g.L.Disk.history c.into_devices-log.result.0) (g.V.Disk.history c.into_devices-log.result.1) ∥₁) same (back.4 start honest))
          (by_others start back.0 back.1 g.B.Named.geometry g.B.Named.log_bytes back.2 (start.first.state.durable ∷ map (λ s. s.seat.seen) sessions) (start.first.state.durable ∷ durable ∷ [])
          (g.L.Disk.history c.into_devices-log.result.0) (g.V.Disk.history c.into_devices-log.result.1) (by_greatest (λ s. s.seat.seen) start.first.state.durable sessions)),
    )
