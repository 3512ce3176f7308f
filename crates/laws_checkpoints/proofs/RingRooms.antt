-- The room of a ring: each step keeps it, and two ways that fill it for good.
use Rattle.std.proofs.Common.{◌≡◌, ◌≤◌, ◌+◌, ◌*◌, ℕ, List, [], ◌∷◌, refl, sym, subst, arith}
use Rattle.shore_types.specs.declared.layout.TheConstants.{LONGEST_FRAME}
use Rattle.laws_lives.specs.Sessions.{SessionTxn}
use Rattle.laws_room.specs.LogRooms.{HasLogRoom, LogRoom}
use Rattle.laws_checkpoints.specs.RingRooms.{AdmitsCheckpoint, CutFront, HasRingRoom, IsFullForGood, LogAnchor, LogBegin, LogCalls, LogEnd, PayRecords, RingLeadTo, RingLeadsTo, RingRoom, RingStep, checkpoint_cost, filled_by_calls, filled_by_crash, of_a_megabyte}

pub ring_step : (r : RingRoom) (e : RingStep) (new : RingRoom) → HasRingRoom r → RingLeadsTo r e new → HasRingRoom new
ring_step r (LogCalls cost more records) new h (admits, is) = subst HasRingRoom (sym is) (
    let f = admits.fits in let n = admits.numbers in let s = h.short in let m = h.most in let z = h.short in record { fits = omega arith; numbers = omega arith; short = omega arith; most = h.most })
ring_step r (PayRecords cost freed records) new h (le, within, each, is) = subst HasRingRoom (sym is) (
    let f = h.fits in let n = h.numbers in let z = h.short in record { fits = omega arith; numbers = omega arith; short = omega arith; most = h.most })
ring_step r (LogBegin txns pages freed) new h (none, most, admits, is) = subst HasRingRoom (sym is) (
    let f = admits.fits in let n = admits.numbers in let s = h.short in record { fits = omega arith; numbers = omega arith; short = (let z = h.short in omega arith); most = omega arith })
ring_step r (LogEnd cost) new h (some, e, is) = subst HasRingRoom (sym is) (
    let f = h.fits in let n = h.numbers in let m = h.most in record { fits = omega arith; numbers = omega arith; short = (let z = h.short in omega arith); most = omega arith })
ring_step r LogAnchor new h (e, is) = subst HasRingRoom (sym is) (
    let f = h.fits in let n = h.numbers in record { fits = omega arith; numbers = omega arith; short = (let z = h.short in omega arith); most = omega arith })
ring_step r (CutFront freed) new h (le, is) = subst HasRingRoom (sym is) (let f = h.fits in record { fits = omega arith; numbers = h.numbers; short = le; most = h.most })

pub ring_steps : (r : RingRoom) (steps : List RingStep) (last : RingRoom) → HasRingRoom r → RingLeadTo r steps last → HasRingRoom last
ring_steps r [] last h is = subst HasRingRoom (sym is) h
ring_steps r (e ∷ steps) last h go = ring_steps go.0 steps last (ring_step r e go.0 h go.1) go.2

-- ---- beside the room of the transactions

pub ring_opens : (doubts : ℕ) (undos : List SessionTxn) (room : LogRoom) → HasLogRoom LONGEST_FRAME doubts undos room → HasRingRoom (record { room = room; to_log = 0 })
ring_opens doubts undos room h = let f = h.fits in let n = h.lsns in record { fits = omega arith; numbers = omega arith; short = (let z = h.short in omega arith); most = omega arith }

pub ring_spares : (doubts : ℕ) (undos : List SessionTxn) (r : RingRoom) → HasLogRoom 0 doubts undos r.room → HasRingRoom r → HasLogRoom (LONGEST_FRAME + r.to_log) doubts undos r.room
ring_spares doubts undos r h ring = let f = ring.fits in record { sum = h.sum; fits = omega arith; lsns = h.lsns; short = h.short }

-- ---- a ring that is full for good

stays_full : (kept last_lsn : ℕ) → 982993 ≤ kept → IsFullForGood (of_a_megabyte kept 0 last_lsn 0)
stays_full kept last_lsn much = record {
  no_call = λ cost more records some admits. let f = admits.fits in absurd (omega arith);
  no_checkpoint = λ txns pages freed admits. let f = admits.fits in absurd (omega arith);
  none_reserved = refl;
}

pub full_by_calls : RingLeadTo (of_a_megabyte 0 0 0 0) filled_by_calls (of_a_megabyte 982993 0 4003 0) × IsFullForGood (of_a_megabyte 982993 0 4003 0)
full_by_calls = (
  (
    of_a_megabyte 100000 120000 1000 0,
    (record { numbers = omega arith; fits = omega arith; each = omega arith }, refl),
    (
      of_a_megabyte 100034 120000 1001 26984,
      (refl, omega arith, record { numbers = omega arith; fits = omega arith; leaves = omega arith }, refl),
      (
        of_a_megabyte 500034 455975 2001 26984,
        (record { numbers = omega arith; fits = omega arith; each = omega arith }, refl),
        (
          of_a_megabyte 526968 455975 2002 50,
          (omega arith, refl, refl),
          (
            of_a_megabyte 527018 455975 2003 0,
            (refl, refl),
            (
              of_a_megabyte 982993 0 4003 0,
              (omega arith, omega arith, omega arith, refl),
              refl,
            ),
          ),
        ),
      ),
    ),
  ),
  stays_full 982993 4003 (omega arith),
)

pub full_by_crash : RingLeadTo (of_a_megabyte 0 0 0 0) filled_by_crash (of_a_megabyte 983027 0 2003 0) × IsFullForGood (of_a_megabyte 983027 0 2003 0)
full_by_crash = (
  (
    of_a_megabyte 480000 476009 1000 0,
    (record { numbers = omega arith; fits = omega arith; each = omega arith }, refl),
    (
      of_a_megabyte 480034 476009 1001 26984,
      (refl, omega arith, record { numbers = omega arith; fits = omega arith; leaves = omega arith }, refl),
      (
        of_a_megabyte 506968 476009 1002 50,
        (omega arith, refl, refl),
        (
          of_a_megabyte 507018 476009 1003 0,
          (refl, refl),
          (
            of_a_megabyte 983027 0 2003 0,
            (omega arith, omega arith, omega arith, refl),
            refl,
          ),
        ),
      ),
    ),
  ),
  stays_full 983027 2003 (omega arith),
)

-- so many interrupted checkpoints, each with the least tables, take the room of the greatest
pub interrupted : (kept last_lsn stream_bytes n txns pages freed : ℕ) → kept + 92567 ≡ stream_bytes → 195 ≤ n
    → AdmitsCheckpoint (record { kept = kept + 138 * n; reserved = 0; stream_bytes = stream_bytes; last_lsn = last_lsn }) (checkpoint_cost txns pages) freed → ⊥
interrupted kept last_lsn stream_bytes n txns pages freed full many admits = let f = admits.fits in omega (arith, f, full, many)
