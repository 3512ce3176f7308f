-- A restart that knows the kept records alone, and how many are cut off before them.
use Rattle.std.specs.Prelude.{◌≡◌, ◌≤◌, ◌+◌, ◌-◌, ◌++◌, ℕ, List, [], ◌∷◌, length, drop, slice_get, IsSomeAnd}
use Rattle.shore_model.specs.declared.log_records.LogRecord.{LogRecord}
use Rattle.laws_lives.specs.Pages.{LoggedPages, redone_on_all}
use Rattle.laws_lives.specs.Recovery.{AppendRecord, FlushPage, ForceLog, LosePower, RecoveryEvent, RecoveryState, RedoRecord, with_page_written}
use Rattle.laws_checkpoints.specs.KeptLogs.{IsKeptLoser, kept_undo_record}

pub record KeptStore : Type 0 where
  pub cut : ℕ
  pub kept : List LogRecord
  pub durable : ℕ
  pub redone : ℕ
  pub volume : LoggedPages
  pub in_place : LoggedPages

-- what is seen of a store whose log is cut
abbrev pub seen_behind : ℕ → RecoveryState → KeptStore
seen_behind cut s = record { cut = cut; kept = drop cut s.log; durable = s.durable; redone = s.redone; volume = s.volume; in_place = s.in_place }

abbrev pub kept_redone : KeptStore → LogRecord → KeptStore
kept_redone k r = record k { redone = k.redone + 1; in_place = redone_on_all (k.redone + 1) r k.in_place }

abbrev pub kept_appended : KeptStore → LogRecord → KeptStore
kept_appended k r = kept_redone (record k { kept = k.kept ++ r ∷ [] }) r

-- a step of a restart, no crash
abbrev pub KeptLeadsTo : KeptStore → RecoveryEvent → KeptStore → Type 0
KeptLeadsTo k (AppendRecord r) new = (t : ℕ) × IsKeptLoser k.cut k.kept t × (r ≡ kept_undo_record k.cut k.kept t) × (k.redone ≡ k.cut + length k.kept) × (new ≡ kept_appended k r)
KeptLeadsTo k RedoRecord new = (k.cut ≤ k.redone) × IsSomeAnd (slice_get k.kept (k.redone - k.cut)) (λ r. new ≡ kept_redone k r)
KeptLeadsTo k (ForceLog n) new = (k.durable ≤ n) × (n ≤ k.cut + length k.kept) × (new ≡ record k { durable = n })
KeptLeadsTo k (FlushPage p) new = ((k.in_place p).number ≤ k.durable) × (new ≡ record k { volume = with_page_written k.volume p (k.in_place p) })
KeptLeadsTo k (LosePower n left begin) new = ⊥

abbrev pub KeptLeadTo : KeptStore → List RecoveryEvent → KeptStore → Type 0
KeptLeadTo k [] last = last ≡ k
KeptLeadTo k (e ∷ events) last = (new : KeptStore) × KeptLeadsTo k e new × KeptLeadTo new events last
