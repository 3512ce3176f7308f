use Rattle.std.proofs.Common.{◌≡◌, ◌+◌, ◌≤◌, All, IsNone, List, length, map, vec_capacity, vec_len}
use Rattle.shore_shared.specs.Told.{Shown, numbered, shown_by}
use Rattle.shore_shared.proofs.Telling.{Joined}
use Rattle.shore_shared.proofs.clients.joined.Given as goal

abbrev pub invariant-loop-thread : goal.invariant-loop-thread
invariant-loop-thread g l =
    let rest = l.thread-iterator.rest.items in
    (vec_len l.back + length rest ≤ vec_capacity l.back)
    × (vec_len l.done + length rest ≤ vec_capacity l.done)
    × (vec_len l.back + length rest ≡ vec_len l.fn.back + vec_len l.fn.threads)
    × ((first : List Shown) → vec_len l.fn.back ≡ 0 → map (λ h. (h.promise.number, shown_by h.promise.began.value.ear h.promise.began.value.seat)) l.fn.threads.items ≡ numbered 0 first
    → All (λ h. h.promise.job.value ≡ l.fn.job) l.fn.threads.items → IsNone l.refused → All (λ h. h.promise.job.value ≡ l.fn.job) rest
    × Joined (λ h. (h.promise.number, shown_by h.promise.began.value.ear h.promise.began.value.seat)) (g.J.Job.says l.fn.job) first rest l.done.items (map (λ s. shown_by s.ear s.seat) l.back.items))
