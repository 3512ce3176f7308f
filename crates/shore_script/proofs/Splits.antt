-- Texts as words with spaces between them.
use Rattle.std.proofs.Common.{◌≡◌, ◌≢◌, inl, inr, ℕ, ◌^◌, ◌<◌, ◌≤◌, eqb, false, List, [], ◌∷◌, ◌++◌, length, get_or, refl, sym, ap, subst, ◌∙◌, codes, Option, None, Some, Result, Ok, Err, arith}
use Rattle.std.specs.Prelude.{IfOk}
use Rattle.std.specs.Fmt.{decimal}
use Rattle.std.specs.Str.{IsUtf8}
use Rattle.std.proofs.lemmas.Fmt.{decimal_nonempty}
use Rattle.shore_model.specs.declared.calls.Call.{Call}
use Rattle.shore_script.specs.declared.command.Command.{Command}
use Rattle.shore_script.specs.declared.command.Command.TheVariants as command
use Rattle.shore_script.specs.declared.lines.TheConstants.{MAX_LINE_BYTES}
use Rattle.shore_script.specs.Ids.{IsSession}
use Rattle.shore_script.specs.Lines.{AsksIn, AsksOfSession, InWords, IsCallOf, IsLineOf, IsRemark, TextAsks}
use Rattle.shore_script.specs.Reading.{Reads}
use Rattle.shore_script.specs.Words.{AskCall, AskPlain, spaced}
use Rattle.shore_script.proofs.Cuts.{Lacks, cut_once, holds_cut}
use Rattle.shore_script.proofs.Digits.{decimal-Lacks, decimal-first}
use Rattle.shore_script.proofs.Spaceless.{AreFour, AskCall-spaceless, AskPlain-four, AskPlain-letter, word_at}

-- in words that are in the relation neither the first nor the second has a space
module _ {X : Type 0} (P : List (List ℕ) → X → Type 0) (no_first : (words : List (List ℕ)) (x : X) → P words x → Lacks 32 (word_at words 0))
    (no_second : (words : List (List ℕ)) (x : X) → P words x → Lacks 32 (word_at words 1)) where
  one-none : (text : List ℕ) → Lacks 32 text → ((x : X) → ¬ (P (text ∷ []) x)) → (x : X) (first : List ℕ) (others : List (List ℕ)) → text ≡ spaced first others → P (first ∷ others) x → ⊥
  one-none text lacks none x first [] e h = none x (subst (λ (t : List ℕ). P (t ∷ []) x) (sym e) h)
  one-none text lacks none x first (next ∷ others) e h = holds_cut 32 first (spaced next others) (subst (Lacks 32) e lacks)

  pub one_word : (text : List ℕ) → Lacks 32 text → (found : Option X) → Reads (P (text ∷ [])) found → Reads (InWords P text) found
  one_word text lacks None none = λ x h. one-none text lacks none x h.0 h.1 h.2 h.3
  one_word text lacks (Some x) h = (text, [], refl, h)

  two-none : (text word rest : List ℕ) → text ≡ word ++ (32 ∷ rest) → Lacks 32 word → Lacks 32 rest → ((x : X) → ¬ (P (word ∷ rest ∷ []) x))
      → (x : X) (first : List ℕ) (others : List (List ℕ)) → text ≡ spaced first others → P (first ∷ others) x → ⊥
  two-none text word rest c lacks also none x first [] e h =
      holds_cut 32 word rest (subst (Lacks 32) (sym e ∙ c) (no_first (first ∷ []) x h))
  two-none text word rest c lacks also none x first (next ∷ []) e h =
      let cut = cut_once 32 word rest first next lacks (no_first (first ∷ next ∷ []) x h) (sym c ∙ e) in
      let Q : List (List ℕ) → Type 0 = λ l. P l x in
      let same : first ∷ next ∷ [] ≡ word ∷ rest ∷ [] = rw (cut.0, cut.1) refl in
      none x (subst Q same h)
  two-none text word rest c lacks also none x first (next ∷ more ∷ others) e h =
      let cut = cut_once 32 word rest first (spaced next (more ∷ others)) lacks (no_first (first ∷ next ∷ more ∷ others) x h) (sym c ∙ e) in
      holds_cut 32 next (spaced more others) (subst (Lacks 32) cut.1 also)

  pub two_words : (text word rest : List ℕ) → text ≡ word ++ (32 ∷ rest) → Lacks 32 word → Lacks 32 rest → (found : Option X) → Reads (P (word ∷ rest ∷ [])) found → Reads (InWords P text) found
  two_words text word rest c lacks also None none = λ x h. two-none text word rest c lacks also none x h.0 h.1 h.2 h.3
  two_words text word rest c lacks also (Some x) h = (word, rest ∷ [], c, h)

  three-none : (text word rest second third : List ℕ) → text ≡ word ++ (32 ∷ rest) → Lacks 32 word → rest ≡ second ++ (32 ∷ third) → Lacks 32 second
      → ((first next last more : List ℕ) (others : List (List ℕ)) (x : X) → P (first ∷ next ∷ last ∷ more ∷ others) x → third ≡ last ++ (32 ∷ spaced more others) → ⊥)
      → ((x : X) → ¬ (P (word ∷ second ∷ third ∷ []) x)) → (x : X) (first : List ℕ) (others : List (List ℕ)) → text ≡ spaced first others → P (first ∷ others) x → ⊥
  three-none text word rest second third c lacks d also long none x first [] e h =
      holds_cut 32 word rest (subst (Lacks 32) (sym e ∙ c) (no_first (first ∷ []) x h))
  three-none text word rest second third c lacks d also long none x first (next ∷ []) e h =
      let cut = cut_once 32 word rest first next lacks (no_first (first ∷ next ∷ []) x h) (sym c ∙ e) in
      holds_cut 32 second third (subst (Lacks 32) (sym cut.1 ∙ d) (no_second (first ∷ next ∷ []) x h))
  three-none text word rest second third c lacks d also long none x first (next ∷ last ∷ []) e h =
      let cut = cut_once 32 word rest first (next ++ (32 ∷ last)) lacks (no_first (first ∷ next ∷ last ∷ []) x h) (sym c ∙ e) in
      let again = cut_once 32 second third next last also (no_second (first ∷ next ∷ last ∷ []) x h) (sym d ∙ cut.1) in
      let Q : List (List ℕ) → Type 0 = λ l. P l x in
      let same : first ∷ next ∷ last ∷ [] ≡ word ∷ second ∷ third ∷ [] = rw (cut.0, again.0, again.1) refl in
      none x (subst Q same h)
  three-none text word rest second third c lacks d also long none x first (next ∷ last ∷ more ∷ others) e h =
      let words : List (List ℕ) = first ∷ next ∷ last ∷ more ∷ others in
      let cut = cut_once 32 word rest first (spaced next (last ∷ more ∷ others)) lacks (no_first words x h) (sym c ∙ e) in
      let again = cut_once 32 second third next (spaced last (more ∷ others)) also (no_second words x h) (sym d ∙ cut.1) in
      long first next last more others x h again.1

  pub three_words : (text word rest second third : List ℕ) → text ≡ word ++ (32 ∷ rest) → Lacks 32 word → rest ≡ second ++ (32 ∷ third) → Lacks 32 second
      → ((first next last more : List ℕ) (others : List (List ℕ)) (x : X) → P (first ∷ next ∷ last ∷ more ∷ others) x → third ≡ last ++ (32 ∷ spaced more others) → ⊥)
      → (found : Option X) → Reads (P (word ∷ second ∷ third ∷ [])) found → Reads (InWords P text) found
  three_words text word rest second third c lacks d also long None none = λ x h. three-none text word rest second third c lacks d also long none x h.0 h.1 h.2 h.3
  three_words text word rest second third c lacks d also long (Some x) h = (word, second ∷ third ∷ [], c ∙ ap (λ (r : List ℕ). word ++ (32 ∷ r)) d, h)

-- .. of calls there are three at most
pub three_of_call : (text word rest second third : List ℕ) → text ≡ word ++ (32 ∷ rest) → Lacks 32 word → rest ≡ second ++ (32 ∷ third) → Lacks 32 second
    → (found : Option Call) → Reads (AskCall (word ∷ second ∷ third ∷ [])) found → Reads (InWords AskCall text) found
three_of_call text word rest second third c lacks d also =
    three_words AskCall (λ words x h. (AskCall-spaceless words x h).first) (λ words x h. (AskCall-spaceless words x h).second) text word rest second third c lacks d also
    (λ first next last more others x h e. let s = AskCall-spaceless (first ∷ next ∷ last ∷ more ∷ others) x h in omega (arith, s.few))

-- .. of what is no call two
pub two_of_plain : (text word rest : List ℕ) → text ≡ word ++ (32 ∷ rest) → Lacks 32 word → Lacks 32 rest
    → (found : Option Command) → Reads (AskPlain (word ∷ rest ∷ [])) found → Reads (InWords AskPlain text) found
two_of_plain text word rest c lacks also =
    two_words AskPlain (λ words x h. (AskPlain-four words x h).first) (λ words x h. (AskPlain-four words x h).second) text word rest c lacks also

-- .. or three, if the third has no space
pub three_of_plain : (text word rest second third : List ℕ) → text ≡ word ++ (32 ∷ rest) → Lacks 32 word → rest ≡ second ++ (32 ∷ third) → Lacks 32 second → Lacks 32 third
    → (found : Option Command) → Reads (AskPlain (word ∷ second ∷ third ∷ [])) found → Reads (InWords AskPlain text) found
three_of_plain text word rest second third c lacks d also more =
    three_words AskPlain (λ words x h. (AskPlain-four words x h).first) (λ words x h. (AskPlain-four words x h).second) text word rest second third c lacks d also
    (λ first next last after others x h e. holds_cut 32 last (spaced after others) (subst (Lacks 32) e more))

four-none : (text word rest second others third fourth : List ℕ) → text ≡ word ++ (32 ∷ rest) → Lacks 32 word → rest ≡ second ++ (32 ∷ others) → Lacks 32 second
    → others ≡ third ++ (32 ∷ fourth) → Lacks 32 third → ((x : Command) → ¬ (AskPlain (word ∷ second ∷ third ∷ fourth ∷ []) x))
    → (x : Command) (first : List ℕ) (more : List (List ℕ)) → text ≡ spaced first more → AskPlain (first ∷ more) x → AreFour (first ∷ more) → ⊥
four-none text word rest second others third fourth c lacks d also f last_lacks none x first [] e h s =
    holds_cut 32 word rest (subst (Lacks 32) (sym e ∙ c) s.first)
four-none text word rest second others third fourth c lacks d also f last_lacks none x first (next ∷ []) e h s =
    let cut = cut_once 32 word rest first next lacks s.first (sym c ∙ e) in
    holds_cut 32 second others (subst (Lacks 32) (sym cut.1 ∙ d) s.second)
four-none text word rest second others third fourth c lacks d also f last_lacks none x first (next ∷ after ∷ []) e h s =
    let cut = cut_once 32 word rest first (next ++ (32 ∷ after)) lacks s.first (sym c ∙ e) in
    let again = cut_once 32 second others next after also s.second (sym d ∙ cut.1) in
    holds_cut 32 third fourth (subst (Lacks 32) (sym again.1 ∙ f) s.third)
four-none text word rest second others third fourth c lacks d also f last_lacks none x first (next ∷ after ∷ last ∷ []) e h s =
    let cut = cut_once 32 word rest first (next ++ (32 ∷ (after ++ (32 ∷ last)))) lacks s.first (sym c ∙ e) in
    let again = cut_once 32 second others next (after ++ (32 ∷ last)) also s.second (sym d ∙ cut.1) in
    let third_cut = cut_once 32 third fourth after last last_lacks s.third (sym f ∙ again.1) in
    let Q : List (List ℕ) → Type 0 = λ l. AskPlain l x in
    let same : first ∷ next ∷ after ∷ last ∷ [] ≡ word ∷ second ∷ third ∷ fourth ∷ [] = rw (cut.0, again.0, third_cut.0, third_cut.1) refl in
    none x (subst Q same h)
four-none text word rest second others third fourth c lacks d also f last_lacks none x first (next ∷ after ∷ last ∷ too_many ∷ more) e h s = omega (arith, s.few)

-- .. and four
pub four_of_plain : (text word rest second others third fourth : List ℕ) → text ≡ word ++ (32 ∷ rest) → Lacks 32 word → rest ≡ second ++ (32 ∷ others) → Lacks 32 second
    → others ≡ third ++ (32 ∷ fourth) → Lacks 32 third → (found : Option Command) → Reads (AskPlain (word ∷ second ∷ third ∷ fourth ∷ [])) found → Reads (InWords AskPlain text) found
four_of_plain text word rest second others third fourth c lacks d also f more None none =
    λ x h. four-none text word rest second others third fourth c lacks d also f more none x h.0 h.1 h.2 h.3 (AskPlain-four (h.0 ∷ h.1) x h.3)
four_of_plain text word rest second others third fourth c lacks d also f more (Some x) h =
    (word, second ∷ third ∷ fourth ∷ [], c ∙ ap (λ (r : List ℕ). word ++ (32 ∷ r)) (d ∙ ap (λ (r : List ℕ). second ++ (32 ∷ r)) f), h)

-- what holds of what is found, if a call fails for want of memory alone
pub on_ok : {X E : Type 0} (P Q : X → Type 0) → ((x : X) → P x → Q x) → (r : Result X E) → IfOk r P → IfOk r Q
on_ok P Q then (Ok x) h = then x h
on_ok P Q then (Err e) h = tt

-- ---- whole lines

head-append : (a b : List ℕ) → 0 < length a → get_or (a ++ b) 0 0 ≡ get_or a 0 0
head-append [] b some = absurd (omega arith)
head-append (x ∷ a) b some = refl

head-spaced : (first : List ℕ) (others : List (List ℕ)) → 97 ≤ get_or first 0 0 → 97 ≤ get_or (spaced first others) 0 0
head-spaced [] [] letter = letter
head-spaced [] (next ∷ others) letter = absurd (omega arith)
head-spaced (x ∷ first) [] letter = letter
head-spaced (x ∷ first) (next ∷ others) letter = letter

pub no_remark : (line : List ℕ) → eqb (length line) 0 ≡ false → get_or line 0 0 ≢ 35 → ¬ (IsRemark line)
no_remark line some plain (inl e) =
    let none : eqb (length line) 0 ≡ eqb (length {A = ℕ} []) 0 = ap (λ (l : List ℕ). eqb (length l) 0) e in
    cc (sym some ∙ none)
no_remark line some plain (inr h) = plain (ap (λ (l : List ℕ). get_or l 0 0) h.1)

session-lacks : (word : List ℕ) (session : ℕ) → IsSession word session → Lacks 32 word
session-lacks word session h = subst (Lacks 32) (sym h.0) (decimal-Lacks 32 session (omega (arith, h.2)) (omega arith))

-- a line that begins with no session asks for what its words ask for
pub plain_line : (line : List ℕ) → ¬ (IsRemark line) → ((x : Command) → ¬ (AsksOfSession line x)) → (found : Option Command)
    → Reads (InWords AskPlain line) found → Reads (TextAsks line) found
plain_line line remark session None none = λ x h. elim h [
  | inl r ↦ remark r.0
  | inr k ↦ elim k [
    | inl p ↦ none x p
    | inr s ↦ session x s
  ]
]
plain_line line remark session (Some x) h = inr (inl h)

pub no_session_without_a_space : (line : List ℕ) → Lacks 32 line → (x : Command) → ¬ (AsksOfSession line x)
no_session_without_a_space line lacks x s = holds_cut 32 s.1 s.2 (subst (Lacks 32) s.3 lacks)

pub no_session_but_first : (line first rest : List ℕ) → line ≡ first ++ (32 ∷ rest) → Lacks 32 first → ((session : ℕ) → ¬ (IsSession first session))
    → (x : Command) → ¬ (AsksOfSession line x)
no_session_but_first line first rest e lacks none x s =
    let cut = cut_once 32 first rest s.1 s.2 lacks (session-lacks s.1 s.0 s.4) (sym e ∙ s.3) in
    none s.0 (subst (λ (w : List ℕ). IsSession w s.0) (sym cut.0) s.4)

-- the words of what is no call do not begin with a digit
no_plain : (line first rest : List ℕ) (session : ℕ) → line ≡ first ++ (32 ∷ rest) → IsSession first session → (x : Command) → ¬ (InWords AskPlain line x)
no_plain line first rest session e h x p =
    let small : session < 2 ^ 64 = let top = h.2 in omega (arith, top) in
    let digit = decimal-first session small in
    let some : 0 < length first = subst (λ (w : List ℕ). 0 < length w) (sym h.0) (decimal_nonempty session small) in
    let head : get_or line 0 0 ≡ get_or (decimal session) 0 0 =
    ap (λ (l : List ℕ). get_or l 0 0) e ∙ head-append first (32 ∷ rest) some ∙ ap (λ (l : List ℕ). get_or l 0 0) h.0 in
    let letter : 97 ≤ get_or line 0 0 =
    subst (λ (l : List ℕ). 97 ≤ get_or l 0 0) (sym p.2) (head-spaced p.0 p.1 (AskPlain-letter p.0 p.1 x p.3)) in
    let high = digit.1 in
    omega (arith, high, head, letter)

-- a text that is no lazy commit and takes no wait back asks for a call alone
pub call_asks : (text : List ℕ) (session : ℕ) → text ≢ codes "lazy" → text ≢ codes "giveup" → (found : Option Command) → Reads (IsCallOf text session) found → Reads (AsksIn text session) found
call_asks text session not_lazy not_giveup None none = λ x asks. elim asks [
  | inl lazy ↦ not_lazy lazy.0
  | inr other ↦ elim other [
    | inl giveup ↦ not_giveup giveup.0
    | inr call ↦ none x call
  ]
]
call_asks text session not_lazy not_giveup (Some x) call = inr (inr call)

-- what asks something of one session asks it of another, too
of_session : (text rest : List ℕ) (one other : ℕ) (x : Command) → text ≡ rest → AsksIn text one x → (y : Command) × AsksIn rest other y
of_session text rest one other x e (inl lazy) = (command.Lazy other, inl (sym e ∙ lazy.0, refl))
of_session text rest one other x e (inr (inl giveup)) = (command.GiveUp other, inr (inl (sym e ∙ giveup.0, refl)))
of_session text rest one other x e (inr (inr call)) = (command.Ask other call.0, inr (inr (call.0, refl, subst (λ (t : List ℕ). InWords AskCall t call.0) e call.2)))

-- a line that begins with a session asks for what the rest asks of it
pub session_line : (line first rest : List ℕ) (session : ℕ) → ¬ (IsRemark line) → line ≡ first ++ (32 ∷ rest) → Lacks 32 first → IsSession first session
    → (found : Option Command) → Reads (AsksIn rest session) found → Reads (TextAsks line) found
session_line line first rest session remark e lacks h None none = λ x asks. elim asks [
  | inl r ↦ remark r.0
  | inr k ↦ elim k [
    | inl p ↦ no_plain line first rest session e h x p
    | inr s ↦
        let cut = cut_once 32 first rest s.1 s.2 lacks (session-lacks s.1 s.0 s.4) (sym e ∙ s.3) in
        let here = of_session s.2 rest s.0 session x (sym cut.1) s.5 in
        none here.0 here.1
  ]
]
session_line line first rest session remark e lacks h (Some x) asks = inr (inr (session, first, rest, e, h, asks))

pub line_reads : (line : List ℕ) → length line ≤ MAX_LINE_BYTES → IsUtf8 line → (found : Option Command) → Reads (TextAsks line) found → Reads (IsLineOf line) found
line_reads line fits text None none = λ x h. none x h.asks
line_reads line fits text (Some x) h = record { fits = fits; is_text = text; asks = h }
