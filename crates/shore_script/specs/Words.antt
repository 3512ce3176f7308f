-- The words of the script's lines, and what they ask for.
use Rattle.std.specs.Prelude.{◌≡◌, ◌^◌, ◌++◌, ℕ, List, [], ◌∷◌, Option, None, Some, codes}
use Rattle.shore_disk.specs.declared.memory.Pick.{Pick}
use Rattle.shore_disk.specs.declared.memory.Pick.TheVariants as pick
use Rattle.shore_model.specs.declared.calls.Call.{Call}
use Rattle.shore_model.specs.declared.calls.Call.TheVariants as call
use Rattle.shore_model.specs.declared.calls.Outcome.{Outcome}
use Rattle.shore_model.specs.declared.calls.Outcome.TheVariants as outcome
use Rattle.shore_types.specs.Names.{device_name, mode_name}
use Rattle.shore_script.specs.Bytes.{IsPairs, SpellsBytes}
use Rattle.shore_script.specs.Ids.{IsCount, IsNumber, IsRecord, IsGranule}
use Rattle.shore_script.specs.declared.command.Command.{Command}
use Rattle.shore_script.specs.declared.command.Command.TheVariants as command
use Rattle.shore_script.specs.declared.words.TheConstants.{MOST_ROUNDS, MOST_THREADS}

-- one space between two words
abbrev pub spaced : List ℕ → List (List ℕ) → List ℕ
spaced word [] = word
spaced word (next ∷ words) = word ++ (codes " " ++ spaced next words)

-- this word alone
abbrev pub IsAlone : List (List ℕ) → List ℕ → Type 0
IsAlone [] word = ⊥
IsAlone (first ∷ []) word = first ≡ word
IsAlone (first ∷ second ∷ words) word = ⊥

-- this word, and behind it one that is in the relation
abbrev pub HasOne : List (List ℕ) → List ℕ → (List ℕ → Type 0) → Type 0
HasOne [] word P = ⊥
HasOne (first ∷ []) word P = ⊥
HasOne (first ∷ second ∷ []) word P = (first ≡ word) × P second
HasOne (first ∷ second ∷ third ∷ words) word P = ⊥

-- this word, and behind it two, each in its relation
abbrev pub HasTwo : List (List ℕ) → List ℕ → (List ℕ → Type 0) → (List ℕ → Type 0) → Type 0
HasTwo [] word P Q = ⊥
HasTwo (first ∷ []) word P Q = ⊥
HasTwo (first ∷ second ∷ []) word P Q = ⊥
HasTwo (first ∷ second ∷ third ∷ []) word P Q = (first ≡ word) × P second × Q third
HasTwo (first ∷ second ∷ third ∷ fourth ∷ words) word P Q = ⊥

-- this word, and behind it three, each in its relation
abbrev pub HasThree : List (List ℕ) → List ℕ → (List ℕ → Type 0) → (List ℕ → Type 0) → (List ℕ → Type 0) → Type 0
HasThree [] word P Q R = ⊥
HasThree (first ∷ []) word P Q R = ⊥
HasThree (first ∷ second ∷ []) word P Q R = ⊥
HasThree (first ∷ second ∷ third ∷ []) word P Q R = ⊥
HasThree (first ∷ second ∷ third ∷ fourth ∷ []) word P Q R = (first ≡ word) × P second × Q third × R fourth
HasThree (first ∷ second ∷ third ∷ fourth ∷ fifth ∷ words) word P Q R = ⊥

abbrev pub outcome_word : Outcome → List ℕ
outcome_word outcome.Commit = codes "commit"
outcome_word outcome.Abort = codes "abort"

-- the words ask for the call; a global id is written as pairs of digits
abbrev pub AskCall : List (List ℕ) → Call → Type 0
AskCall words call.Begin = IsAlone words (codes "begin")
AskCall words (call.Get id) = HasOne words (codes "get") (λ word. IsRecord word id)
AskCall words (call.GetForUpdate id) = HasOne words (codes "getu") (λ word. IsRecord word id)
AskCall words (call.Insert store bytes) = HasTwo words (codes "insert") (λ word. IsNumber (2 ^ 32) word store) (λ word. SpellsBytes word bytes)
AskCall words (call.Update id bytes) = HasTwo words (codes "update") (λ word. IsRecord word id) (λ word. SpellsBytes word bytes)
AskCall words (call.Delete id) = HasOne words (codes "delete") (λ word. IsRecord word id)
AskCall words (call.Scan store) = HasOne words (codes "scan") (λ word. IsNumber (2 ^ 32) word store)
AskCall words (call.Lock granule mode) = HasTwo words (codes "lock") (λ word. IsGranule word granule) (λ word. word ≡ mode_name mode)
AskCall words (call.TryLock granule mode) = HasTwo words (codes "try") (λ word. IsGranule word granule) (λ word. word ≡ mode_name mode)
AskCall words call.Commit = IsAlone words (codes "commit")
AskCall words call.Savepoint = IsAlone words (codes "savepoint")
AskCall words (call.BackTo index) = HasOne words (codes "back") (λ word. IsNumber (2 ^ 64) word index)
AskCall words call.Abort = IsAlone words (codes "abort")
AskCall words (call.Prepare global) = HasOne words (codes "prepare") (λ word. IsPairs word global)
AskCall words (call.Resolve global outcome) = HasTwo words (codes "resolve") (λ word. IsPairs word global) (λ word. word ≡ outcome_word outcome)
AskCall words call.InDoubt = IsAlone words (codes "indoubt")

-- a crash may pick an image: by a word, or by a word and a number whose bits say which writes stand
abbrev pub AskCrash : List (List ℕ) → Option Pick → Type 0
AskCrash words None = IsAlone words (codes "crash")
AskCrash words (Some pick.Old) = HasOne words (codes "crash") (λ word. word ≡ codes "old")
AskCrash words (Some pick.New) = HasOne words (codes "crash") (λ word. word ≡ codes "new")
AskCrash words (Some pick.Noise) = HasOne words (codes "crash") (λ word. word ≡ codes "noise")
AskCrash words (Some (pick.Mixed bits)) = HasTwo words (codes "crash") (λ word. word ≡ codes "mixed") (λ word. IsNumber (2 ^ 64) word bits)

-- the words ask for what is no call
abbrev pub AskPlain : List (List ℕ) → Command → Type 0
AskPlain words (command.Ask session call) = ⊥
AskPlain words (command.Lazy session) = ⊥
AskPlain words (command.GiveUp session) = ⊥
AskPlain words (command.Durable ticket) = HasOne words (codes "durable") (λ word. IsNumber (2 ^ 64) word ticket)
AskPlain words command.Nothing = ⊥
AskPlain words command.Force = IsAlone words (codes "force")
AskPlain words command.Flush = IsAlone words (codes "flush")
AskPlain words command.BeginCheckpoint = HasOne words (codes "checkpoint") (λ word. word ≡ codes "begin")
AskPlain words command.EndCheckpoint = HasOne words (codes "checkpoint") (λ word. word ≡ codes "end")
AskPlain words command.Checkpoint = IsAlone words (codes "checkpoint")
AskPlain words (command.Crash pick) = AskCrash words pick
AskPlain words (command.Fuse fuse) = HasTwo words (codes "fuse") (λ word. word ≡ device_name fuse.device) (λ word. IsNumber (2 ^ 64) word fuse.calls)
AskPlain words (command.NextFuse fuse) = HasTwo words (codes "nextfuse") (λ word. word ≡ device_name fuse.device) (λ word. IsNumber (2 ^ 64) word fuse.calls)
AskPlain words command.Dump = IsAlone words (codes "dump")
AskPlain words command.Log = IsAlone words (codes "log")
AskPlain words command.Locks = IsAlone words (codes "locks")
AskPlain words (command.Threads counting) = HasThree words (codes "threads")
    (λ word. IsCount MOST_THREADS word counting.threads) (λ word. IsCount MOST_ROUNDS word counting.rounds) (λ word. IsRecord word counting.record)
