-- Many sessions over one volume, under locks, as plain data: the state, and what is left of it after each event.
use Rattle.std.specs.Prelude.{◌≡◌, ◌==◌, ◌+◌, ◌++◌, ℕ, List, [], ◌∷◌, Bool, true, false, not, nat_eq, if◌then◌else◌, Result, filter, map}
use Rattle.std.specs.List.{AllByRecursion}
use Rattle.std.specs.Cmp.Lexicographic.{pointwise}
use Rattle.shore_types.specs.declared.faults.Fault.{Fault}
use Rattle.shore_model.specs.declared.calls.Answer.{Answer}
use Rattle.shore_model.specs.declared.calls.Call.{Call}
use Rattle.shore_model.specs.declared.calls.Outcome.{Outcome}
use Rattle.shore_model.specs.declared.calls.Outcome.TheVariants as outcome
use Rattle.shore_model.specs.declared.histories.Entry.{Entry}
use Rattle.shore_model.specs.declared.holds.Hold.{Hold}
use Rattle.shore_model.specs.declared.sessions.SessionState.{SessionState}
use Rattle.shore_model.specs.Histories.{free, session_state}
use Rattle.shore_model.specs.Records.{Records, put_image}
use Rattle.shore_types.specs.Images.{Image}
use Rattle.shore_types.specs.declared.ids.Rid.{Rid}
use Rattle.shore_model.specs.declared.rollbacks.Rollback.{Rollback}
use Rattle.shore_model.specs.declared.rollbacks.Rollback.TheVariants.{Whole}
use Rattle.laws_lives.specs.UndoLists.{UndoList, in_place_after, nothing_to_undo, undo_after, undo_rolled, rolled_back}
use Rattle.laws_lives.specs.Views.{IsAmong}

-- a transaction of a session, with its undo list
pub record SessionTxn : Type 0 where
  pub session : ℕ
  pub txn : ℕ
  pub undo : UndoList

-- a transaction in doubt, with its global id. Only one whose prepare is answered may be resolved; one that was found in doubt counts as such
pub record PreparedTxn : Type 0 where
  pub txn : ℕ
  pub global : List ℕ
  pub answered : Bool

-- a resolve that is decided and not answered
pub record ResolvedTxn : Type 0 where
  pub txn : ℕ
  pub global : List ℕ
  pub outcome : Outcome

pub record Sessions : Type 0 where
  -- the most slots of a page
  pub slots : ℕ
  -- the records in place, committed or not
  pub records : Records
  -- the transactions under way, those in doubt and those that a resolve has decided to roll back among them
  pub active : List SessionTxn
  pub held : List Hold
  -- what the next begin answers
  pub next_txn : ℕ
  -- the transaction that each session is in
  pub seats : ℕ → SessionState
  -- those in doubt, in the order of their Prepares
  pub prepared : List PreparedTxn
  pub resolving : List ResolvedTxn

-- ---- transactions in a list

abbrev pub txns_of : List SessionTxn → List ℕ
txns_of xs = map (λ a. a.txn) xs

-- no element comes twice
abbrev pub EachOnce : {A : Type 0} → List A → Type 0
EachOnce [] = Unit {0}
EachOnce (x ∷ xs) = (IsAmong x xs → ⊥) × EachOnce xs

-- the list with one transaction taken out
abbrev pub without_txn : ℕ → List SessionTxn → List SessionTxn
without_txn t xs = filter (λ a. not (a.txn == t)) xs

-- the list with another undo list for one transaction
abbrev pub with_undo : ℕ → UndoList → List SessionTxn → List SessionTxn
with_undo t undo xs = map (λ a. if a.txn == t then record { session = a.session; txn = a.txn; undo = undo } else a) xs

-- the session is in no transaction
abbrev pub IsInNoTxn : Sessions → ℕ → Type 0
IsInNoTxn s session = s.seats session ≡ free

-- the number that a session's calls go under: its transaction's, or 0
abbrev pub IsTxnOf : Sessions → ℕ → ℕ → Type 0
IsTxnOf s session t = (s.seats session).txn ≡ t

-- a session in a transaction that is not prepared
abbrev pub in_txn : ℕ → SessionState
in_txn t = record { txn = t; prepared = false }

abbrev pub in_prepared : ℕ → SessionState
in_prepared t = record { txn = t; prepared = true }

-- ---- transactions in doubt

abbrev pub pair_of : PreparedTxn → ℕ × List ℕ
pair_of p = (p.txn, p.global)

abbrev pub pairs_of : List PreparedTxn → List (ℕ × List ℕ)
pairs_of ps = map pair_of ps

abbrev pub pair_resolved : ResolvedTxn → ℕ × List ℕ
pair_resolved r = (r.txn, r.global)

-- those whose global ids are in use: that of a resolve until it is answered
abbrev pub in_use : Sessions → List (ℕ × List ℕ)
in_use s = pairs_of s.prepared ++ map pair_resolved s.resolving

abbrev pub in_doubt_of : Sessions → List ℕ
in_doubt_of s = map (λ p. p.txn) s.prepared

abbrev pub resolved_of : Sessions → List ℕ
resolved_of s = map (λ r. r.txn) s.resolving

-- the transaction is neither in doubt nor decided by a resolve
abbrev pub IsFree : Sessions → ℕ → Type 0
IsFree s t = (IsAmong t (in_doubt_of s) → ⊥) × (IsAmong t (resolved_of s) → ⊥)

-- no transaction in the table has the global id
abbrev pub IsUnused : Sessions → List ℕ → Type 0
IsUnused s global = AllByRecursion (λ p. pointwise nat_eq global p.1 ≡ false) (in_use s)

abbrev pub without_prepared : ℕ → List PreparedTxn → List PreparedTxn
without_prepared t ps = filter (λ p. not (t == p.txn)) ps

abbrev pub without_resolved : ℕ → List ResolvedTxn → List ResolvedTxn
without_resolved t rs = filter (λ r. not (t == r.txn)) rs

-- the list, once the prepare of one transaction is answered
abbrev pub with_answered : ℕ → List PreparedTxn → List PreparedTxn
with_answered t ps = map (λ p. if p.txn == t then record { txn = p.txn; global = p.global; answered = true } else p) ps

-- ---- what an event leaves

abbrev pub locks_moved : Sessions → List Hold → Sessions
locks_moved s held = record s { held = held }

abbrev pub txn_begun : Sessions → ℕ → Sessions
txn_begun s session = record s {
  active = record { session = session; txn = s.next_txn; undo = nothing_to_undo } ∷ s.active;
  next_txn = s.next_txn + 1;
}

abbrev pub reply_given : Sessions → SessionTxn → Call → Result Answer Fault → Sessions
reply_given s a c reply = record s {
  records = in_place_after s.records a.undo c reply;
  active = with_undo a.txn (undo_after s.records a.undo c reply) s.active;
}

abbrev pub image_put_back : Sessions → SessionTxn → List (Rid × Image) → Rid × Image → Rollback → Sessions
image_put_back s a kept e r = record s {
  records = put_image s.records e.0 e.1;
  active = with_undo a.txn (undo_rolled a.undo kept r) s.active;
}

abbrev pub doomed : Sessions → SessionTxn → Sessions
doomed s a = record s { active = with_undo a.txn (undo_rolled a.undo a.undo.images Whole) s.active }

-- the locks, once those of a transaction go
abbrev pub without_locks : ℕ → List Hold → List Hold
without_locks t held = filter (λ h. not (h.txn == t)) held

-- a transaction is under way no longer, and its locks go
abbrev pub txn_ended : Sessions → SessionTxn → Records → Sessions
txn_ended s a R = record s { records = R; active = without_txn a.txn s.active; held = without_locks a.txn s.held }

abbrev pub commit_appended : Sessions → SessionTxn → Sessions
commit_appended s a = txn_ended s a s.records

abbrev pub abort_answered : Sessions → SessionTxn → Sessions
abort_answered s a = txn_ended s a (rolled_back s.records a.undo.images)

-- the seats after these entries
abbrev pub seated : Sessions → List Entry → Sessions → Sessions
seated s es left = record left { seats = λ n. session_state n (s.seats n) es }

abbrev pub prepare_appended : Sessions → SessionTxn → List ℕ → Sessions
prepare_appended s a global = record s { prepared = s.prepared ++ record { txn = a.txn; global = global; answered = false } ∷ [] }

abbrev pub prepare_answered : Sessions → ℕ → Sessions
prepare_answered s t = record s { prepared = with_answered t s.prepared }

abbrev pub resolve_appended : Sessions → SessionTxn → List ℕ → Sessions
resolve_appended s a global = record (commit_appended s a) {
  prepared = without_prepared a.txn s.prepared;
  resolving = record { txn = a.txn; global = global; outcome = outcome.Commit } ∷ s.resolving;
}

-- from now on it can only be rolled back, whole
abbrev pub rollback_appended : Sessions → SessionTxn → List ℕ → Sessions
rollback_appended s a global = record (doomed s a) {
  prepared = without_prepared a.txn s.prepared;
  resolving = record { txn = a.txn; global = global; outcome = outcome.Abort } ∷ s.resolving;
}

-- what is left of a transaction is put back, and its locks go
abbrev pub rollback_ended : Sessions → SessionTxn → Sessions
rollback_ended s a = txn_ended s a (rolled_back s.records a.undo.images)

abbrev pub resolve_answered : Sessions → ℕ → Sessions
resolve_answered s t = record s { resolving = without_resolved t s.resolving }
