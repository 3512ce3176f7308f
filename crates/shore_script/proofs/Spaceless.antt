-- No word of the script has a space.
use Rattle.std.proofs.Common.{◌≡◌, ℕ, zero, suc, ◌^◌, ◌<◌, ◌≤◌, List, [], ◌∷◌, ◌++◌, length, get_or, refl, sym, subst, ◌∙◌, Option, None, Some, codes, arith}
use Rattle.std.specs.Fmt.{decimal}
use Rattle.shore_disk.specs.declared.memory.Pick.{Pick}
use Rattle.shore_disk.specs.declared.memory.Pick.TheVariants as pick
use Rattle.shore_model.specs.declared.calls.Call.{Call}
use Rattle.shore_model.specs.declared.calls.Call.TheVariants as call
use Rattle.shore_model.specs.declared.calls.Outcome.{Outcome}
use Rattle.shore_types.specs.declared.faults.Device.{Device}
use Rattle.shore_types.specs.declared.faults.Device.TheVariants as device
use Rattle.shore_types.specs.declared.ids.Rid.{Rid}
use Rattle.shore_types.specs.declared.locking.Granule.{Granule}
use Rattle.shore_types.specs.declared.locking.Granule.TheVariants as granule
use Rattle.shore_types.specs.Names.{device_name}
use Rattle.shore_script.specs.declared.command.Command.{Command}
use Rattle.shore_script.specs.declared.command.Command.TheVariants as command
use Rattle.shore_script.specs.Bytes.{IsPairs, SpellsBytes}
use Rattle.shore_script.specs.Ids.{IsCount, IsGranule, IsNumber, IsRecord}
use Rattle.shore_script.specs.Words.{AskCall, AskCrash, AskPlain, HasOne, HasThree, HasTwo, IsAlone, outcome_word}
use Rattle.shore_script.proofs.Cuts.{Lacks, Lacks-append, Lacks-cons}
use Rattle.shore_script.proofs.Digits.{decimal-Lacks}
use Rattle.shore_script.proofs.Hexes.{encoded-lacks}
use Rattle.shore_script.proofs.Names.{page_name-cut, rid_name-cut}

-- three words at most, and no space in any
abbrev pub word_at : List (List ℕ) → ℕ → List ℕ
word_at [] i = []
word_at (word ∷ words) zero = word
word_at (word ∷ words) (suc i) = word_at words i

pub record AreSpaceless (words : List (List ℕ)) : Type 0 where
  pub few : length words ≤ 3
  pub first : Lacks 32 (word_at words 0)
  pub second : Lacks 32 (word_at words 1)

alone-spaceless : (words : List (List ℕ)) (word : List ℕ) → IsAlone words word → Lacks 32 word → AreSpaceless words
alone-spaceless [] word h lacks = absurd h
alone-spaceless (first ∷ []) word h lacks = record { few = omega arith; first = subst (Lacks 32) (sym h) lacks; second = refl }
alone-spaceless (first ∷ second ∷ words) word h lacks = absurd h

one-spaceless : (words : List (List ℕ)) (word : List ℕ) (P : List ℕ → Type 0) → HasOne words word P → Lacks 32 word → ((w : List ℕ) → P w → Lacks 32 w) → AreSpaceless words
one-spaceless [] word P h lacks also = absurd h
one-spaceless (first ∷ []) word P h lacks also = absurd h
one-spaceless (first ∷ second ∷ []) word P h lacks also = record { few = omega arith; first = subst (Lacks 32) (sym h.0) lacks; second = also second h.1 }
one-spaceless (first ∷ second ∷ third ∷ words) word P h lacks also = absurd h

two-spaceless : (words : List (List ℕ)) (word : List ℕ) (P Q : List ℕ → Type 0) → HasTwo words word P Q → Lacks 32 word → ((w : List ℕ) → P w → Lacks 32 w) → AreSpaceless words
two-spaceless [] word P Q h lacks also = absurd h
two-spaceless (first ∷ []) word P Q h lacks also = absurd h
two-spaceless (first ∷ second ∷ []) word P Q h lacks also = absurd h
two-spaceless (first ∷ second ∷ third ∷ []) word P Q h lacks also = record { few = omega arith; first = subst (Lacks 32) (sym h.0) lacks; second = also second h.1 }
two-spaceless (first ∷ second ∷ third ∷ fourth ∷ words) word P Q h lacks also = absurd h

-- .. or four, of which the third has none either
pub record AreFour (words : List (List ℕ)) : Type 0 where
  pub few : length words ≤ 4
  pub first : Lacks 32 (word_at words 0)
  pub second : Lacks 32 (word_at words 1)
  pub third : Lacks 32 (word_at words 2)

alone-four : (words : List (List ℕ)) (word : List ℕ) → IsAlone words word → Lacks 32 word → AreFour words
alone-four [] word h lacks = absurd h
alone-four (first ∷ []) word h lacks = record { few = omega arith; first = subst (Lacks 32) (sym h) lacks; second = refl; third = refl }
alone-four (first ∷ second ∷ words) word h lacks = absurd h

one-four : (words : List (List ℕ)) (word : List ℕ) (P : List ℕ → Type 0) → HasOne words word P → Lacks 32 word → ((w : List ℕ) → P w → Lacks 32 w) → AreFour words
one-four [] word P h lacks also = absurd h
one-four (first ∷ []) word P h lacks also = absurd h
one-four (first ∷ second ∷ []) word P h lacks also =
    record { few = omega arith; first = subst (Lacks 32) (sym h.0) lacks; second = also second h.1; third = refl }
one-four (first ∷ second ∷ third ∷ words) word P h lacks also = absurd h

two-four : (words : List (List ℕ)) (word : List ℕ) (P Q : List ℕ → Type 0) → HasTwo words word P Q → Lacks 32 word → ((w : List ℕ) → P w → Lacks 32 w) → ((w : List ℕ) → Q w → Lacks 32 w)
    → AreFour words
two-four [] word P Q h lacks also more = absurd h
two-four (first ∷ []) word P Q h lacks also more = absurd h
two-four (first ∷ second ∷ []) word P Q h lacks also more = absurd h
two-four (first ∷ second ∷ third ∷ []) word P Q h lacks also more =
    record { few = omega arith; first = subst (Lacks 32) (sym h.0) lacks; second = also second h.1; third = more third h.2 }
two-four (first ∷ second ∷ third ∷ fourth ∷ words) word P Q h lacks also more = absurd h

three-four : (words : List (List ℕ)) (word : List ℕ) (P Q R : List ℕ → Type 0) → HasThree words word P Q R → Lacks 32 word
    → ((w : List ℕ) → P w → Lacks 32 w) → ((w : List ℕ) → Q w → Lacks 32 w) → AreFour words
three-four [] word P Q R h lacks also more = absurd h
three-four (first ∷ []) word P Q R h lacks also more = absurd h
three-four (first ∷ second ∷ []) word P Q R h lacks also more = absurd h
three-four (first ∷ second ∷ third ∷ []) word P Q R h lacks also more = absurd h
three-four (first ∷ second ∷ third ∷ fourth ∷ []) word P Q R h lacks also more =
    record { few = omega arith; first = subst (Lacks 32) (sym h.0) lacks; second = also second h.1; third = more third h.2 }
three-four (first ∷ second ∷ third ∷ fourth ∷ fifth ∷ words) word P Q R h lacks also more = absurd h

-- ---- each kind of word

number-lacks : (limit : ℕ) → limit ≤ 2 ^ 64 → (n : ℕ) (word : List ℕ) → IsNumber limit word n → Lacks 32 word
number-lacks limit low n word h = subst (Lacks 32) (sym h.0) (decimal-Lacks 32 n (omega (arith, low, h.1)) (omega arith))

count-lacks : (most : ℕ) → most < 2 ^ 64 → (n : ℕ) (word : List ℕ) → IsCount most word n → Lacks 32 word
count-lacks most low n word h = subst (Lacks 32) (sym h.0) (decimal-Lacks 32 n (omega (arith, low, h.2)) (omega arith))

short-lacks : (n : ℕ) → n < 2 ^ 32 → Lacks 32 (decimal n)
short-lacks n small = decimal-Lacks 32 n (omega arith) (omega arith)

dotted : (a b : List ℕ) → Lacks 32 a → Lacks 32 b → Lacks 32 (a ++ (46 ∷ b))
dotted a b h k = Lacks-append 32 a (46 ∷ b) h (Lacks-cons 32 46 b (λ e. omega (arith, e)) k)

record-lacks : (id : Rid) (word : List ℕ) → IsRecord word id → Lacks 32 word
record-lacks id word h =
    subst (Lacks 32) (sym (h.0 ∙ rid_name-cut id))
    (dotted (decimal id.page.store) (decimal id.page.page ++ (46 ∷ decimal id.slot)) (short-lacks id.page.store h.1)
    (dotted (decimal id.page.page) (decimal id.slot) (short-lacks id.page.page h.2) (short-lacks id.slot (omega (arith, h.3)))))

granule-lacks : (g : Granule) (word : List ℕ) → IsGranule word g → Lacks 32 word
granule-lacks granule.Volume word h = subst (Lacks 32) (sym h) refl
granule-lacks (granule.Store store) word h = number-lacks (2 ^ 32) (omega arith) store word h
granule-lacks (granule.Page page) word h =
    subst (Lacks 32) (sym (h.0 ∙ page_name-cut page)) (dotted (decimal page.store) (decimal page.page) (short-lacks page.store h.1) (short-lacks page.page h.2))
granule-lacks (granule.Record id) word h = record-lacks id word h

pairs-lacks : (bytes word : List ℕ) → IsPairs word bytes → Lacks 32 word
pairs-lacks bytes word h = subst (Lacks 32) (sym h.0) (encoded-lacks 32 (omega arith) bytes h.2)

device-lacks : (d : Device) (word : List ℕ) → word ≡ device_name d → Lacks 32 word
device-lacks device.Log word h = subst (Lacks 32) (sym h) refl
device-lacks device.Volume word h = subst (Lacks 32) (sym h) refl

word-lacks : (wanted : List ℕ) → Lacks 32 wanted → (word : List ℕ) → word ≡ wanted → Lacks 32 word
word-lacks wanted lacks word h = subst (Lacks 32) (sym h) lacks

-- ---- all words

pub AskCall-spaceless : (words : List (List ℕ)) (x : Call) → AskCall words x → AreSpaceless words
AskCall-spaceless words call.Begin h = alone-spaceless words (codes "begin") h refl
AskCall-spaceless words (call.Get id) h = one-spaceless words (codes "get") _ h refl (record-lacks id)
AskCall-spaceless words (call.GetForUpdate id) h = one-spaceless words (codes "getu") _ h refl (record-lacks id)
AskCall-spaceless words (call.Insert store bytes) h = two-spaceless words (codes "insert") _ _ h refl (number-lacks (2 ^ 32) (omega arith) store)
AskCall-spaceless words (call.Update id bytes) h = two-spaceless words (codes "update") _ _ h refl (record-lacks id)
AskCall-spaceless words (call.Delete id) h = one-spaceless words (codes "delete") _ h refl (record-lacks id)
AskCall-spaceless words (call.Scan store) h = one-spaceless words (codes "scan") _ h refl (number-lacks (2 ^ 32) (omega arith) store)
AskCall-spaceless words (call.Lock granule mode) h = two-spaceless words (codes "lock") _ _ h refl (granule-lacks granule)
AskCall-spaceless words (call.TryLock granule mode) h = two-spaceless words (codes "try") _ _ h refl (granule-lacks granule)
AskCall-spaceless words call.Commit h = alone-spaceless words (codes "commit") h refl
AskCall-spaceless words call.Savepoint h = alone-spaceless words (codes "savepoint") h refl
AskCall-spaceless words (call.BackTo index) h = one-spaceless words (codes "back") _ h refl (number-lacks (2 ^ 64) (omega arith) index)
AskCall-spaceless words call.Abort h = alone-spaceless words (codes "abort") h refl
AskCall-spaceless words (call.Prepare global) h = one-spaceless words (codes "prepare") _ h refl (pairs-lacks global)
AskCall-spaceless words (call.Resolve global outcome) h = two-spaceless words (codes "resolve") _ _ h refl (pairs-lacks global)
AskCall-spaceless words call.InDoubt h = alone-spaceless words (codes "indoubt") h refl

AskCrash-four : (words : List (List ℕ)) (p : Option Pick) → AskCrash words p → AreFour words
AskCrash-four words None h = alone-four words (codes "crash") h refl
AskCrash-four words (Some pick.Old) h = one-four words (codes "crash") _ h refl (word-lacks (codes "old") refl)
AskCrash-four words (Some pick.New) h = one-four words (codes "crash") _ h refl (word-lacks (codes "new") refl)
AskCrash-four words (Some pick.Noise) h = one-four words (codes "crash") _ h refl (word-lacks (codes "noise") refl)
AskCrash-four words (Some (pick.Mixed bits)) h = two-four words (codes "crash") _ _ h refl (word-lacks (codes "mixed") refl) (number-lacks (2 ^ 64) (omega arith) bits)

pub AskPlain-four : (words : List (List ℕ)) (x : Command) → AskPlain words x → AreFour words
AskPlain-four words (command.Ask session call) h = absurd h
AskPlain-four words (command.Lazy session) h = absurd h
AskPlain-four words (command.GiveUp session) h = absurd h
AskPlain-four words (command.Durable ticket) h = one-four words (codes "durable") _ h refl (number-lacks (2 ^ 64) (omega arith) ticket)
AskPlain-four words command.Nothing h = absurd h
AskPlain-four words command.Force h = alone-four words (codes "force") h refl
AskPlain-four words command.Flush h = alone-four words (codes "flush") h refl
AskPlain-four words command.BeginCheckpoint h = one-four words (codes "checkpoint") _ h refl (word-lacks (codes "begin") refl)
AskPlain-four words command.EndCheckpoint h = one-four words (codes "checkpoint") _ h refl (word-lacks (codes "end") refl)
AskPlain-four words command.Checkpoint h = alone-four words (codes "checkpoint") h refl
AskPlain-four words (command.Crash pick) h = AskCrash-four words pick h
AskPlain-four words (command.Fuse fuse) h = two-four words (codes "fuse") _ _ h refl (device-lacks fuse.device) (number-lacks (2 ^ 64) (omega arith) fuse.calls)
AskPlain-four words (command.NextFuse fuse) h = two-four words (codes "nextfuse") _ _ h refl (device-lacks fuse.device) (number-lacks (2 ^ 64) (omega arith) fuse.calls)
AskPlain-four words command.Dump h = alone-four words (codes "dump") h refl
AskPlain-four words command.Log h = alone-four words (codes "log") h refl
AskPlain-four words command.Locks h = alone-four words (codes "locks") h refl
AskPlain-four words (command.Threads counting) h =
    three-four words (codes "threads") _ _ _ h refl (count-lacks 16 (omega arith) counting.threads) (count-lacks 1000 (omega arith) counting.rounds)

-- ---- the word of what is no call begins with a letter

letter : (first word : List ℕ) → first ≡ word → 97 ≤ get_or word 0 0 → 97 ≤ get_or first 0 0
letter first word e h = subst (λ (w : List ℕ). 97 ≤ get_or w 0 0) (sym e) h

alone-letter : (first : List ℕ) (others : List (List ℕ)) (word : List ℕ) → IsAlone (first ∷ others) word → 97 ≤ get_or word 0 0 → 97 ≤ get_or first 0 0
alone-letter first [] word e h = letter first word e h
alone-letter first (second ∷ words) word e h = absurd e

one-letter : (first : List ℕ) (others : List (List ℕ)) (word : List ℕ) (P : List ℕ → Type 0) → HasOne (first ∷ others) word P → 97 ≤ get_or word 0 0 → 97 ≤ get_or first 0 0
one-letter first [] word P e h = absurd e
one-letter first (second ∷ []) word P e h = letter first word e.0 h
one-letter first (second ∷ third ∷ words) word P e h = absurd e

two-letter : (first : List ℕ) (others : List (List ℕ)) (word : List ℕ) (P Q : List ℕ → Type 0) → HasTwo (first ∷ others) word P Q → 97 ≤ get_or word 0 0 → 97 ≤ get_or first 0 0
two-letter first [] word P Q e h = absurd e
two-letter first (second ∷ []) word P Q e h = absurd e
two-letter first (second ∷ third ∷ []) word P Q e h = letter first word e.0 h
two-letter first (second ∷ third ∷ fourth ∷ words) word P Q e h = absurd e

three-letter : (first : List ℕ) (others : List (List ℕ)) (word : List ℕ) (P Q R : List ℕ → Type 0) → HasThree (first ∷ others) word P Q R → 97 ≤ get_or word 0 0 → 97 ≤ get_or first 0 0
three-letter first [] word P Q R e h = absurd e
three-letter first (second ∷ []) word P Q R e h = absurd e
three-letter first (second ∷ third ∷ []) word P Q R e h = absurd e
three-letter first (second ∷ third ∷ fourth ∷ []) word P Q R e h = letter first word e.0 h
three-letter first (second ∷ third ∷ fourth ∷ fifth ∷ words) word P Q R e h = absurd e

crash-letter : (first : List ℕ) (others : List (List ℕ)) (p : Option Pick) → AskCrash (first ∷ others) p → 97 ≤ get_or first 0 0
crash-letter first others None h = alone-letter first others (codes "crash") h (omega arith)
crash-letter first others (Some pick.Old) h = one-letter first others (codes "crash") _ h (omega arith)
crash-letter first others (Some pick.New) h = one-letter first others (codes "crash") _ h (omega arith)
crash-letter first others (Some pick.Noise) h = one-letter first others (codes "crash") _ h (omega arith)
crash-letter first others (Some (pick.Mixed bits)) h = two-letter first others (codes "crash") _ _ h (omega arith)

pub AskPlain-letter : (first : List ℕ) (others : List (List ℕ)) (x : Command) → AskPlain (first ∷ others) x → 97 ≤ get_or first 0 0
AskPlain-letter first others (command.Ask session call) h = absurd h
AskPlain-letter first others (command.Lazy session) h = absurd h
AskPlain-letter first others (command.GiveUp session) h = absurd h
AskPlain-letter first others (command.Durable ticket) h = one-letter first others (codes "durable") _ h (omega arith)
AskPlain-letter first others command.Nothing h = absurd h
AskPlain-letter first others command.Force h = alone-letter first others (codes "force") h (omega arith)
AskPlain-letter first others command.Flush h = alone-letter first others (codes "flush") h (omega arith)
AskPlain-letter first others command.BeginCheckpoint h = one-letter first others (codes "checkpoint") _ h (omega arith)
AskPlain-letter first others command.EndCheckpoint h = one-letter first others (codes "checkpoint") _ h (omega arith)
AskPlain-letter first others command.Checkpoint h = alone-letter first others (codes "checkpoint") h (omega arith)
AskPlain-letter first others (command.Crash pick) h = crash-letter first others pick h
AskPlain-letter first others (command.Fuse fuse) h = two-letter first others (codes "fuse") _ _ h (omega arith)
AskPlain-letter first others (command.NextFuse fuse) h = two-letter first others (codes "nextfuse") _ _ h (omega arith)
AskPlain-letter first others command.Dump h = alone-letter first others (codes "dump") h (omega arith)
AskPlain-letter first others command.Log h = alone-letter first others (codes "log") h (omega arith)
AskPlain-letter first others command.Locks h = alone-letter first others (codes "locks") h (omega arith)
AskPlain-letter first others (command.Threads counting) h = three-letter first others (codes "threads") _ _ _ h (omega arith)

-- ---- bytes that no word spells

pub insert_spells : (store_word word : List ℕ) → ((bytes : List ℕ) → ¬ (SpellsBytes word bytes)) → (x : Call) → ¬ (AskCall (codes "insert" ∷ store_word ∷ word ∷ []) x)
insert_spells s w none call.Begin h = h
insert_spells s w none (call.Get id) h = h
insert_spells s w none (call.GetForUpdate id) h = h
insert_spells s w none (call.Insert store bytes) h = none bytes h.2
insert_spells s w none (call.Update id bytes) h = none bytes h.2
insert_spells s w none (call.Delete id) h = h
insert_spells s w none (call.Scan store) h = h
insert_spells s w none (call.Lock granule mode) h = cc h.0
insert_spells s w none (call.TryLock granule mode) h = cc h.0
insert_spells s w none call.Commit h = h
insert_spells s w none call.Savepoint h = h
insert_spells s w none (call.BackTo index) h = h
insert_spells s w none call.Abort h = h
insert_spells s w none (call.Prepare global) h = h
insert_spells s w none (call.Resolve global outcome) h = cc h.0
insert_spells s w none call.InDoubt h = h

pub update_spells : (record_word word : List ℕ) → ((bytes : List ℕ) → ¬ (SpellsBytes word bytes)) → (x : Call) → ¬ (AskCall (codes "update" ∷ record_word ∷ word ∷ []) x)
update_spells s w none call.Begin h = h
update_spells s w none (call.Get id) h = h
update_spells s w none (call.GetForUpdate id) h = h
update_spells s w none (call.Insert store bytes) h = none bytes h.2
update_spells s w none (call.Update id bytes) h = none bytes h.2
update_spells s w none (call.Delete id) h = h
update_spells s w none (call.Scan store) h = h
update_spells s w none (call.Lock granule mode) h = cc h.0
update_spells s w none (call.TryLock granule mode) h = cc h.0
update_spells s w none call.Commit h = h
update_spells s w none call.Savepoint h = h
update_spells s w none (call.BackTo index) h = h
update_spells s w none call.Abort h = h
update_spells s w none (call.Prepare global) h = h
update_spells s w none (call.Resolve global outcome) h = cc h.0
update_spells s w none call.InDoubt h = h

-- ---- global ids that no word spells, and outcomes that no word names

pub prepare_spells : (word : List ℕ) → ((bytes : List ℕ) → ¬ (IsPairs word bytes)) → (x : Call) → ¬ (AskCall (codes "prepare" ∷ word ∷ []) x)
prepare_spells w none call.Begin h = h
prepare_spells w none (call.Get id) h = cc h.0
prepare_spells w none (call.GetForUpdate id) h = cc h.0
prepare_spells w none (call.Insert store bytes) h = h
prepare_spells w none (call.Update id bytes) h = h
prepare_spells w none (call.Delete id) h = cc h.0
prepare_spells w none (call.Scan store) h = cc h.0
prepare_spells w none (call.Lock granule mode) h = h
prepare_spells w none (call.TryLock granule mode) h = h
prepare_spells w none call.Commit h = h
prepare_spells w none call.Savepoint h = h
prepare_spells w none (call.BackTo index) h = cc h.0
prepare_spells w none call.Abort h = h
prepare_spells w none (call.Prepare global) h = none global h.1
prepare_spells w none (call.Resolve global outcome) h = h
prepare_spells w none call.InDoubt h = h

pub resolve_spells : (word outcome_text : List ℕ) → ((bytes : List ℕ) (o : Outcome) → IsPairs word bytes → outcome_text ≡ outcome_word o → ⊥)
    → (x : Call) → ¬ (AskCall (codes "resolve" ∷ word ∷ outcome_text ∷ []) x)
resolve_spells w o none call.Begin h = h
resolve_spells w o none (call.Get id) h = h
resolve_spells w o none (call.GetForUpdate id) h = h
resolve_spells w o none (call.Insert store bytes) h = cc h.0
resolve_spells w o none (call.Update id bytes) h = cc h.0
resolve_spells w o none (call.Delete id) h = h
resolve_spells w o none (call.Scan store) h = h
resolve_spells w o none (call.Lock granule mode) h = cc h.0
resolve_spells w o none (call.TryLock granule mode) h = cc h.0
resolve_spells w o none call.Commit h = h
resolve_spells w o none call.Savepoint h = h
resolve_spells w o none (call.BackTo index) h = h
resolve_spells w o none call.Abort h = h
resolve_spells w o none (call.Prepare global) h = h
resolve_spells w o none (call.Resolve global outcome) h = none global outcome h.1 h.2
resolve_spells w o none call.InDoubt h = h
