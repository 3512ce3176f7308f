use Rattle.std.proofs.Common.{◌++◌, inl, inr, ℕ, List}
use Rattle.laws_migrations.proofs.Moments.{joined, weaker_by}
use Rattle.laws_migrations.specs.Moments.{NewIsKept, NewWhereNotOld, OldIsKept, OneStands, StandsForTheSame}
use Rattle.laws_migrations.proofs.migrations.one_pair_stands_at_any_moment.Goals as goal

pub returns-clause-each : goal.returns-clause-each
returns-clause-each c = λ told g h log_bytes volume_bytes new_log_bytes new_volume_bytes first last goes.
    let old : List ℕ → List ℕ → Type 0 = StandsForTheSame told g log_bytes volume_bytes in
    let new : List ℕ → List ℕ → Type 0 = StandsForTheSame told h new_log_bytes new_volume_bytes in (
      goes.making ++ goes.closing,
      joined old new (OneStands old new) first goes.making goes.made goes.closing last
          (weaker_by old new (OldIsKept old new) (OneStands old new) (λ m n kept a b c d of_old of_new. inl (kept a b of_old)) first goes.making goes.made goes.makes)
          (weaker_by old new (NewIsKept old new) (OneStands old new) (λ m n kept a b c d of_old of_new. inr (kept c d of_new)) goes.made goes.closing last goes.closes),
    )

pub returns-clause-rule : goal.returns-clause-rule
returns-clause-rule c = λ told g h log_bytes volume_bytes new_log_bytes new_volume_bytes first last goes.
    let old : List ℕ → List ℕ → Type 0 = StandsForTheSame told g log_bytes volume_bytes in
    let new : List ℕ → List ℕ → Type 0 = StandsForTheSame told h new_log_bytes new_volume_bytes in (
      goes.making ++ goes.closing,
      joined old new (NewWhereNotOld old new) first goes.making goes.made goes.closing last
          (weaker_by old new (OldIsKept old new) (NewWhereNotOld old new) (λ m n kept a b c d of_old of_new none. absurd (none (kept a b of_old))) first goes.making goes.made goes.makes)
          (weaker_by old new (NewIsKept old new) (NewWhereNotOld old new) (λ m n kept a b c d of_old of_new none. kept c d of_new) goes.made goes.closing last goes.closes),
    )

pub returns-clause-now : goal.returns-clause-now
returns-clause-now c = λ told g h log_bytes volume_bytes new_log_bytes new_volume_bytes first last log_image volume_image goes of_log of_volume.
    goes.now log_image volume_image of_log of_volume
