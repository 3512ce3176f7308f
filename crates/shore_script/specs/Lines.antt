-- The lines of the script, and what each asks for.
use Rattle.std.specs.Prelude.{◌≡◌, ◌⊎◌, ◌≤◌, ◌++◌, ℕ, List, [], ◌∷◌, codes, length}
use Rattle.std.specs.Str.{IsUtf8}
use Rattle.shore_model.specs.declared.calls.Call.{Call}
use Rattle.shore_script.specs.Ids.{IsSession}
use Rattle.shore_script.specs.Words.{AskCall, AskPlain, spaced}
use Rattle.shore_script.specs.declared.command.Command.{Command}
use Rattle.shore_script.specs.declared.command.Command.TheVariants as command
use Rattle.shore_script.specs.declared.lines.TheConstants.{MAX_LINE_BYTES}

-- the text is words that are in the relation, with one space between two
abbrev pub InWords : {X : Type 0} → (List (List ℕ) → X → Type 0) → List ℕ → X → Type 0
InWords P text x = (first : List ℕ) × (others : List (List ℕ)) × (text ≡ spaced first others) × P (first ∷ others) x

-- an empty line, or one that begins with `#`
abbrev pub IsRemark : List ℕ → Type 0
IsRemark text = (text ≡ []) ⊎ ((rest : List ℕ) × (text ≡ codes "#" ++ rest))

-- the text asks for a call of the session
abbrev pub IsCallOf : List ℕ → ℕ → Command → Type 0
IsCallOf text session asked = (call : Call) × (asked ≡ command.Ask session call) × InWords AskCall text call

-- .. or for its lazy commit, or that its wait is taken back
abbrev pub AsksIn : List ℕ → ℕ → Command → Type 0
AsksIn text session asked =
    ((text ≡ codes "lazy") × (asked ≡ command.Lazy session)) ⊎ (((text ≡ codes "giveup") × (asked ≡ command.GiveUp session)) ⊎ IsCallOf text session asked)

-- a session's number, a space, and what asks for a call of the session, its lazy commit, or that its wait is taken back
abbrev pub AsksOfSession : List ℕ → Command → Type 0
AsksOfSession text asked = (session : ℕ) × (word : List ℕ) × (rest : List ℕ) × (text ≡ word ++ (codes " " ++ rest)) × IsSession word session × AsksIn rest session asked

-- a remark asks for nothing; any other text for what a session asks, or for what is no call
abbrev pub TextAsks : List ℕ → Command → Type 0
TextAsks text asked = (IsRemark text × (asked ≡ command.Nothing)) ⊎ (InWords AskPlain text asked ⊎ AsksOfSession text asked)

-- the line asks for the command: it is not too long, and text
pub record IsLineOf (line : List ℕ) (asked : Command) : Type 0 where
  pub fits : length line ≤ MAX_LINE_BYTES
  pub is_text : IsUtf8 line
  pub asks : TextAsks line asked
