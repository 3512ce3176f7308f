-- The durable word, the stop word, and the anchor's two words: what is seen was told, who asked for the stop or found it knows that it is asked for, and the two seats that
-- know the anchor know one, and of one move of it that has failed. What each session heard is what was noted of it, in its order; and who finds that a device has failed finds what was told by who notes that.
use Rattle.std.specs.Prelude.{◌≡◌, ℕ, ◌≤◌, ◌<◌, ◌==◌, Bool, true, false, List, [], ◌∷◌, ◌++◌, if◌then◌else◌}
use mathlib.Core.Option.{some}
use lib.ListN.{get_elem?}
use Rattle.atomic_table.specs.Table.{State, Me, Step}
use Rattle.atomic_table.specs.Seated.{TableId}
use Rattle.atomic_table.specs.declared.shared.Seat.{Seat}
use Rattle.shore_words.specs.declared.rule.Heard.{Heard}
use Rattle.shore_words.specs.declared.rule.Known.{Known}
use Rattle.shore_words.specs.declared.rule.Noted.{Noted}
use Rattle.shore_words.specs.declared.rule.View.{View}

-- the name of no words
abbrev pub no_words : TableId
no_words = record { words = 0; slots = 0; views_name = 0; atom = 0; block = 0; offset = 0; slot_names = [] }

-- an anchor of this checkpoint and this tail, of which no move has failed
abbrev pub known : ℕ → ℕ → Known
known checkpoint tail = record { checkpoint = checkpoint; tail = tail; aim = (0, 0) }

-- the anchor of who knows none
abbrev pub no_anchor : Known
no_anchor = known 0 0

-- one that has seen so much and knows nothing else
abbrev pub looker : ℕ → View
looker seen = record {
  seen = seen;
  tells = false;
  told = 0;
  anchor = no_anchor;
  keeps = false;
  kept = no_anchor;
  asked = false;
  stopped = false;
  session = 0;
  listens = false;
  heard = [];
  notes = false;
  noted = [];
  made = 0;
  failing = false;
  failed = false;
}

-- one that tells, keeps, and notes, before the first session
abbrev pub teller : ℕ → Known → View
teller number anchor = record (looker number) { tells = true; told = number; anchor = anchor; keeps = true; kept = anchor; notes = true }

-- one that keeps
abbrev pub keeper : ℕ → Known → View
keeper seen anchor = record (looker seen) { keeps = true; kept = anchor }

-- one that notes
abbrev pub scribe : ℕ → List Noted → ℕ → Bool → View
scribe seen noted made failing = record (looker seen) { notes = true; noted = noted; made = made; failing = failing }

-- the one of a session
abbrev pub listener : ℕ → ℕ → List Heard → View
listener seen session heard = record (looker seen) { session = session; listens = true; heard = heard }

-- A seat that is the one of its session, and notes nothing.
abbrev pub Listens : View → Type 0
Listens v = (v.listens ≡ true) × (v.notes ≡ false) × (v.noted ≡ []) × (v.made ≡ 0) × (v.failing ≡ false)

-- what is noted of a session, in its order
abbrev pub heard_of : ℕ → List Noted → List Heard
heard_of session [] = []
heard_of session (n ∷ ns) = if n.session == session then n.heard ∷ heard_of session ns else heard_of session ns

-- .. is this first
abbrev pub HasHeard : List Noted → ℕ → List Heard → Type 0
HasHeard noted session heard = (rest : List Heard) × (heard_of session noted ≡ heard ++ rest)

-- What is noted was heard by one of so many sessions, which are numbered from 1 on.
abbrev pub AreBy : ℕ → List Noted → Type 0
AreBy made [] = Unit {0}
AreBy made (n ∷ ns) = (0 < n.session) × (n.session ≤ made) × AreBy made ns

-- What sessions have heard: how many there are, which seat is whose, and what was noted by which seat. No other number is noted.
pub record Book : Type 0 where
  pub notes_at : ℕ
  pub seat_of : ℕ → ℕ
  pub noted : List Noted
  pub made : ℕ
  pub by : AreBy made noted

-- What a seat knows of it, and of a failure: whether one was told is known to who notes.
pub record KnowsHeard (b : Book) (told : Bool) (seat : ℕ) (v : View) : Type 0 where
  pub notes : v.notes ≡ true → (seat ≡ b.notes_at) × (v.noted ≡ b.noted) × (v.made ≡ b.made)
  pub heard : HasHeard b.noted v.session v.heard
  pub within : v.session ≤ b.made
  pub listens : v.listens ≡ true → (seat ≡ b.seat_of v.session) × (v.heard ≡ heard_of v.session b.noted)
  pub numbered : v.listens ≡ true → 0 < v.session
  pub failing : v.notes ≡ true → v.failing ≡ told
  pub failed : v.failed ≡ true → told ≡ true

-- What a seat knows of the words, of who tells, and of who keeps.
pub record Knows (number stop : ℕ) (anchor : Known) (tells_at keeps_at seat : ℕ) (v : View) : Type 0 where
  pub seen : v.seen ≤ number
  pub tells : v.tells ≡ true → (seat ≡ tells_at) × (v.told ≡ number) × (v.anchor ≡ anchor)
  pub keeps : v.keeps ≡ true → (seat ≡ keeps_at) × (v.kept ≡ anchor)
  pub asked : v.asked ≡ true → stop ≡ 1
  pub stopped : v.stopped ≡ true → stop ≡ 1

-- a word that says whether
abbrev pub word_of : Bool → ℕ
word_of false = 0
word_of true = 1

-- a seat asked for the stop
abbrev pub HasAsked : List View → Type 0
HasAsked views = (seat : ℕ) × (v : View) × (get_elem? views seat ≡ some v) × (v.asked ≡ true)

-- The words are the number told, the stop word, which is 0 or 1, and 1 only if a seat asked for it, the tail and the checkpoint to which the anchor was moved last, or was
-- to be moved as that failed, and whether who notes has told that a device has failed. What is known of the anchor is one for all seats.
pub record IsTold (s : State ℕ View) : Type 0 where
  pub number : ℕ
  pub stop : ℕ
  pub anchor : Known
  pub moved : ℕ × ℕ
  pub tells_at : ℕ
  pub keeps_at : ℕ
  pub failed : Bool
  pub words : s.words ≡ number ∷ stop ∷ moved.1 ∷ moved.0 ∷ word_of failed ∷ []
  pub bit : stop ≤ 1
  pub by : stop ≡ 1 → HasAsked s.views
  pub each : (seat : ℕ) (v : View) → get_elem? s.views seat ≡ some v → Knows number stop anchor tells_at keeps_at seat v
  pub book : Book
  pub hears : (seat : ℕ) (v : View) → get_elem? s.views seat ≡ some v → KnowsHeard book failed seat v

-- ---- what a step tells, of the seat before it, the word found or stored, and the seat behind it

abbrev pub Tells : Step ℕ → Me ℕ View → ℕ → Me ℕ View → Type 0
Tells s me number new = new ≡ (record me.0 { tells = true; told = s.first }, me.1)

abbrev pub Looks : Step ℕ → Me ℕ View → ℕ → Me ℕ View → Type 0
Looks s me number new = (new ≡ (record me.0 { seen = number }, me.1)) × (me.0.seen ≤ number) × (me.0.tells ≡ true → number ≡ me.0.told)

abbrev pub Asks : Step ℕ → Me ℕ View → ℕ → Me ℕ View → Type 0
Asks s me number new = new ≡ (record me.0 { asked = true }, me.1)

abbrev pub Stops : Step ℕ → Me ℕ View → ℕ → Me ℕ View → Type 0
Stops s me number new = (new ≡ (record me.0 { stopped = number == 1 }, me.1)) × (me.0.asked ≡ true → number ≡ 1) × (me.0.stopped ≡ true → number ≡ 1)

-- who tells and keeps finds one anchor
abbrev pub Compares : Step ℕ → Me ℕ View → ℕ → Me ℕ View → Type 0
Compares s me word new = (new ≡ me) × (me.0.tells ≡ true → me.0.keeps ≡ true → me.0.kept ≡ me.0.anchor)

-- .. and moves it
abbrev pub with_anchor : View → Known → View
with_anchor v anchor = record v { tells = true; anchor = anchor; keeps = true; kept = anchor }

abbrev pub MovesTail : Step ℕ → Me ℕ View → ℕ → Me ℕ View → Type 0
MovesTail s me tail new = new ≡ (with_anchor me.0 (record me.0.anchor { tail = s.first }), me.1)

abbrev pub MovesCheckpoint : Step ℕ → Me ℕ View → ℕ → Me ℕ View → Type 0
MovesCheckpoint s me checkpoint new = new ≡ (with_anchor me.0 (record me.0.anchor { checkpoint = s.first }), me.1)

-- .. or notes where it was to be moved
abbrev pub AimsTail : Step ℕ → Me ℕ View → ℕ → Me ℕ View → Type 0
AimsTail s me tail new = new ≡ (with_anchor me.0 (record me.0.anchor { aim = (me.0.anchor.aim.0, s.first) }), me.1)

abbrev pub AimsCheckpoint : Step ℕ → Me ℕ View → ℕ → Me ℕ View → Type 0
AimsCheckpoint s me checkpoint new = new ≡ (with_anchor me.0 (record me.0.anchor { aim = (s.first, me.0.anchor.aim.1) }), me.1)

abbrev pub TellsFailure : Step ℕ → Me ℕ View → ℕ → Me ℕ View → Type 0
TellsFailure s me word new = new ≡ (record me.0 { failing = true }, me.1)

abbrev pub LooksForFailure : Step ℕ → Me ℕ View → ℕ → Me ℕ View → Type 0
LooksForFailure s me word new = (new ≡ (record me.0 { failed = word == 1 }, me.1)) × (me.0.failed ≡ true → word ≡ 1)

-- What a seat knows of a session is what was noted of it first, and all of it if it is the session's seat. Nobody is noted but the sessions made. If it found a failure, one was told. Then it is as if it had known
-- nothing of a session, and found no failure.
abbrev pub ShowsHeard : Step ℕ → Me ℕ View → ℕ → Me ℕ View → Type 0
ShowsHeard s me number new =
    (new ≡ (record me.0 { session = 0; listens = false; heard = []; failed = false }, me.1))
    × (me.0.notes ≡ true → HasHeard me.0.noted me.0.session me.0.heard × (me.0.session ≤ me.0.made) × (me.0.listens ≡ true → heard_of me.0.session me.0.noted ≡ me.0.heard) × AreBy me.0.made me.0.noted
    × (me.0.failed ≡ true → me.0.failing ≡ true))

-- the seat is of these words
abbrev pub IsOf : TableId → Seat ℕ View → Type 0
IsOf words seat = (seat.table_id ≡ words) × (4 < words.words)
