-- What a client is told, and what the trail of its manager has of it.
use Rattle.std.specs.Prelude.{◌≡◌, ◌≤◌, ◌+◌, ◌++◌, ℕ, Bool, true, List, [], ◌∷◌, Some, Result, length}
use Rattle.shore_types.specs.declared.faults.Fault.{Fault}
use Rattle.shore_model.specs.declared.calls.Answer.{Answer}
use Rattle.shore_model.specs.declared.calls.Call.{Call}
use Rattle.shore_model.specs.declared.calls.Exchange.{Exchange}
use Rattle.shore_words.specs.declared.rule.Heard.{Heard}
use Rattle.shore_words.specs.declared.rule.Noted.{Noted}
use Rattle.shore_words.specs.declared.rule.View.{View}
use Rattle.shore_words.specs.Words.{AreBy, heard_of}
use Rattle.std.specs.declared.snapshot.Snapshot.{Snapshot}
use Rattle.shore_held.specs.Trails.{has_failure}
use Rattle.shore_held.specs.declared.asked.Asked.{Asked}
use Rattle.shore_shared.specs.Heard.{Hears}

-- The calls of a client, one after another, with their answers: its session has heard each of them, and nothing else. It was told of a device's failure while it waited only if it knows now that one has failed.
abbrev pub AreTold : Bool → List Exchange → List Heard → Type 0
AreTold failed [] heard = heard ≡ []
AreTold failed (e ∷ es) heard = (first : List Heard) × (rest : List Heard) × (heard ≡ first ++ rest) × Hears failed e.call (Some e.call) first e.reply × AreTold failed es rest

-- calls and their answers, as a client notes them
abbrev pub exchanges_in : List (Snapshot Call × Result Answer Fault) → List Exchange
exchanges_in [] = []
exchanges_in (x ∷ xs) = record { call = x.0.value; reply = x.1 } ∷ exchanges_in xs

-- Since it had heard so much, a session has heard these calls, and nothing else.
abbrev pub HasHeardSince : Bool → List Heard → List Heard → List Exchange → Type 0
HasHeardSince failed before after es = (more : List Heard) × (after ≡ before ++ more) × AreTold failed es more

-- What is known of a manager: how far its log is durable, and whether a device has failed.
pub record Seen : Type 0 where
  pub durable : ℕ
  pub failed : Bool

-- .. by a seat
abbrev pub seen_by : View → Seen
seen_by seat = record { durable = seat.seen; failed = seat.failed }

-- .. by so much that is durable, and a trail
abbrev pub seen_in : ℕ → List (Asked × ℕ) → Seen
seen_in durable asked = record { durable = durable; failed = has_failure asked }

-- no more is known by one than by another
abbrev pub IsWithin : Seen → Seen → Type 0
IsWithin a b = (a.durable ≤ b.durable) × (a.failed ≡ true → b.failed ≡ true)

-- A session: its number, what it has heard, and what it knows of its manager.
pub record Shown : Type 0 where
  pub session : ℕ
  pub heard : List Heard
  pub seen : Seen

-- .. by its two seats
abbrev pub shown_by : View → View → Shown
shown_by ear seat = record { session = ear.session; heard = ear.heard; seen = seen_by seat }

-- A claim holds of a client's calls and answers: they are all that its session has heard since, and what the claim says of the manager is known to it.
abbrev pub IsClaimed : (List Exchange → Seen → Type 0) → Shown → Shown → Type 0
IsClaimed says before after = (after.session ≡ before.session) × IsWithin before.seen after.seen × ∥ ((es : List Exchange) × HasHeardSince after.seen.failed before.heard after.heard es × says es after.seen) ∥₁

-- The claims of one job: of the client of this number on, each of its own session.
abbrev pub AreClaimed : {D : Type 0} → (ℕ → D → List Exchange → Seen → Type 0) → ℕ → List Shown → List D → List Shown → Type 0
AreClaimed says client [] [] [] = Unit {0}
AreClaimed says client [] [] (a ∷ later) = ⊥
AreClaimed says client [] (d ∷ ds) later = ⊥
AreClaimed says client (b ∷ bs) [] later = ⊥
AreClaimed says client (b ∷ bs) (d ∷ ds) [] = ⊥
AreClaimed says client (b ∷ bs) (d ∷ ds) (a ∷ later) = IsClaimed (says client d) b a × AreClaimed says (client + 1) bs ds later

-- Those of one job after another, by the same sessions: each job was done once by each of them, in this order, and between them nothing was called.
abbrev pub AreAllClaimed : {J D : Type 0} → (J → ℕ → D → List Exchange → Seen → Type 0) → List Shown → List J → List (List D) → List Shown → Type 0
AreAllClaimed says before [] [] after = after ≡ before
AreAllClaimed says before [] (d ∷ ds) after = ⊥
AreAllClaimed says before (j ∷ js) [] after = ⊥
AreAllClaimed says before (j ∷ js) (d ∷ ds) after = (between : List Shown) × AreClaimed (says j) 0 before d between × AreAllClaimed says between js ds after

-- sessions from this number on that have heard nothing
abbrev pub AreFresh : ℕ → List Shown → Type 0
AreFresh session [] = Unit {0}
AreFresh session (s ∷ ss) = (s.session ≡ session) × (s.heard ≡ []) × AreFresh (session + 1) ss

-- All that the trail has of sessions from this number on is what they have heard, and what they know of the manager is so.
abbrev pub AreInTrail : List Noted → Seen → ℕ → List Shown → Type 0
AreInTrail noted is session [] = Unit {0}
AreInTrail noted is session (s ∷ ss) = (s.session ≡ session) × (heard_of session noted ≡ s.heard) × IsWithin s.seen is × AreInTrail noted is (session + 1) ss

-- The claims of jobs by so many clients hold of what the trail has of their sessions, from 1 on, and of what is so of the manager.
abbrev pub ClaimsHold : {J D : Type 0} → (J → ℕ → D → List Exchange → Seen → Type 0) → List Noted → Seen → ℕ → List J → List (List D) → Type 0
ClaimsHold says noted is clients jobs done =
    (first : List Shown) × (last : List Shown) × (length first ≡ clients) × AreFresh 1 first × AreAllClaimed says first jobs done last × AreInTrail noted is 1 last

-- .. and the trail has no other session
abbrev pub AllHold : {J D : Type 0} → (J → ℕ → D → List Exchange → Seen → Type 0) → List Noted → Seen → ℕ → List J → List (List D) → Type 0
AllHold says noted is clients jobs done = ClaimsHold says noted is clients jobs done × AreBy clients noted

-- clients from this number on, with their sessions
abbrev pub numbered : ℕ → List Shown → List (ℕ × Shown)
numbered client [] = []
numbered client (s ∷ ss) = (client, s) ∷ numbered (client + 1) ss
