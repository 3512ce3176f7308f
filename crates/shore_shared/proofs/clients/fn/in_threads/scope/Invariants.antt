use Rattle.std.proofs.Common.{◌≡◌, ◌+◌, ◌≤◌, ◌++◌, All, length, map, vec_capacity, vec_len}
use Rattle.shore_shared.specs.Told.{numbered, shown_by}
use Rattle.shore_shared.proofs.clients.fn.in_threads.scope.Given as goal

abbrev pub invariant-loop-session : goal.invariant-loop-session
invariant-loop-session g l =
    let rest = l.session-iterator.rest.items in
    let many = vec_len l.all.value in
    (vec_len l.threads + vec_len l.back + length rest ≡ many)
    × (many ≤ vec_capacity l.threads) × (many ≤ vec_capacity l.back) × (many ≤ vec_capacity l.done) × (vec_len l.done ≡ 0)
    × (vec_len l.back ≡ 0
    → (map (λ h. (h.promise.number, shown_by h.promise.began.value.ear h.promise.began.value.seat)) l.threads.items ++ numbered (vec_len l.threads) (map (λ s. shown_by s.ear s.seat) rest)
    ≡ numbered 0 (map (λ s. shown_by s.ear s.seat) l.all.value.items))
    × All (λ h. h.promise.job.value ≡ l.job) l.threads.items)
