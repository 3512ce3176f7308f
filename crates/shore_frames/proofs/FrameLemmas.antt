-- The bytes of some frames, as one text.
use Rattle.std.proofs.Common.{◌≡◌, ◌≢◌, ℕ, ◌+◌, List, [], ◌∷◌, ◌++◌, length, refl, sym, ◌∙◌, ap, arith, append_assoc, length-append}
use Rattle.std.proofs.lemmas.List.{append-nil}
use Rattle.byteorder.specs.Endian.{little_bytes}
use Rattle.shore_gate.specs.declared.gates.TheConstants.{OPEN}
use Rattle.shore_logrec.specs.Text.{texts}
use Rattle.shore_logrec.proofs.TextLengths.{length-little_bytes}
use Rattle.shore_model.specs.declared.log_records.LogRecord.{LogRecord}
use Rattle.shore_frames.specs.Frames.{IsGroup, frame_head, behind_gate, Frames, text, number_behind, AreGroups, joined}

-- these frames and a closed gate are frames
pub closed_behind : (n : ℕ) (gs : List (List LogRecord)) (gate : ℕ) (rest : List ℕ) → AreGroups n gs → gate ≢ OPEN → Frames n (text n gs ++ gate ∷ rest) gs
closed_behind n [] gate rest are shut = (gate, rest, shut, refl)
closed_behind n (g ∷ gs) gate rest are shut = (
  text (n + length g) gs ++ gate ∷ rest,
  are.0,
  omega (arith, length-append (text (n + length g) gs) (gate ∷ rest)),
  ap (λ (l : List ℕ). OPEN ∷ l) (append_assoc (behind_gate n (texts g)) (text (n + length g) gs) (gate ∷ rest)),
  closed_behind (n + length g) gs gate rest are.1 shut,
)

-- one frame more
pub text-push : (n : ℕ) (gs : List (List LogRecord)) (g : List LogRecord) (rest : List ℕ) → text n (gs ++ g ∷ []) ++ rest ≡ text n gs ++ OPEN ∷ (behind_gate (number_behind n gs) (texts g) ++ rest)
text-push n [] g rest = ap (λ (l : List ℕ). OPEN ∷ l) (append_assoc (behind_gate n (texts g)) [] rest)
text-push n (h ∷ gs) g rest =
    ap (λ (l : List ℕ). OPEN ∷ l) (append_assoc (behind_gate n (texts h)) (text (n + length h) (gs ++ g ∷ [])) rest
    ∙ ap (λ (l : List ℕ). behind_gate n (texts h) ++ l) (text-push (n + length h) gs g rest)
    ∙ sym (append_assoc (behind_gate n (texts h)) (text (n + length h) gs) (OPEN ∷ (behind_gate (number_behind (n + length h) gs) (texts g) ++ rest))))

pub AreGroups-push : (n : ℕ) (gs : List (List LogRecord)) (g : List LogRecord) → AreGroups n gs → IsGroup (number_behind n gs) g → AreGroups n (gs ++ g ∷ [])
AreGroups-push n [] g are is = (is, tt)
AreGroups-push n (h ∷ gs) g are is = (are.0, AreGroups-push (n + length h) gs g are.1 is)

pub AreGroups-front : (n : ℕ) (gs : List (List LogRecord)) (g : List LogRecord) → AreGroups n (gs ++ g ∷ []) → AreGroups n gs
AreGroups-front n [] g are = tt
AreGroups-front n (h ∷ gs) g are = (are.0, AreGroups-front (n + length h) gs g are.1)

pub joined-push : (gs : List (List LogRecord)) (g : List LogRecord) → joined (gs ++ g ∷ []) ≡ joined gs ++ g
joined-push [] g = append-nil g
joined-push (h ∷ gs) g = ap (λ (l : List LogRecord). h ++ l) (joined-push gs g) ∙ sym (append_assoc h (joined gs) g)

-- ---- some frames, and more behind them

pub text-append : (n : ℕ) (gs hs : List (List LogRecord)) → text n (gs ++ hs) ≡ text n gs ++ text (number_behind n gs) hs
text-append n [] hs = refl
text-append n (g ∷ gs) hs = ap (λ (l : List ℕ). OPEN ∷ l) (ap (λ (l : List ℕ). behind_gate n (texts g) ++ l) (text-append (n + length g) gs hs)
    ∙ sym (append_assoc (behind_gate n (texts g)) (text (n + length g) gs) (text (number_behind (n + length g) gs) hs)))

pub groups_behind : (n : ℕ) (gs hs : List (List LogRecord)) → AreGroups n (gs ++ hs) → AreGroups (number_behind n gs) hs
groups_behind n [] hs are = are
groups_behind n (g ∷ gs) hs are = groups_behind (n + length g) gs hs are.1

pub joined-append : (gs hs : List (List LogRecord)) → joined (gs ++ hs) ≡ joined gs ++ joined hs
joined-append [] hs = refl
joined-append (g ∷ gs) hs = ap (λ (l : List LogRecord). g ++ l) (joined-append gs hs) ∙ sym (append_assoc g (joined gs) (joined hs))

pub number_behind-append : (n : ℕ) (gs hs : List (List LogRecord)) → number_behind n (gs ++ hs) ≡ number_behind (number_behind n gs) hs
number_behind-append n [] hs = refl
number_behind-append n (g ∷ gs) hs = number_behind-append (n + length g) gs hs

-- ---- how many they are, and how long

-- the records of some groups, counted
pub number_behind-joined : (n : ℕ) (gs : List (List LogRecord)) → number_behind n gs ≡ n + length (joined gs)
number_behind-joined n [] = omega arith
number_behind-joined n (g ∷ gs) = omega (arith, number_behind-joined (n + length g) gs, length-append g (joined gs))

pub length-frame_head : (len n : ℕ) → length (frame_head len n) ≡ 12
unfolding frame_head
length-frame_head len n = omega (arith, length-append (little_bytes 4 len) (little_bytes 8 n), length-little_bytes 4 len, length-little_bytes 8 n)

pub length-behind_gate : (n : ℕ) (body : List ℕ) → length (behind_gate n body) ≡ 12 + length body
unfolding behind_gate
length-behind_gate n body = omega (arith, length-append (frame_head (length body) n) body, length-frame_head (length body) n)

pub length-text-push : (n : ℕ) (gs : List (List LogRecord)) (g : List LogRecord) → length (text n (gs ++ g ∷ [])) ≡ length (text n gs) + 13 + length (texts g)
length-text-push n [] g = omega (arith, length-append (behind_gate n (texts g)) [], length-behind_gate n (texts g))
length-text-push n (h ∷ gs) g =
    omega (arith, length-append (behind_gate n (texts h)) (text (n + length h) (gs ++ g ∷ [])), length-append (behind_gate n (texts h)) (text (n + length h) gs), length-text-push (n + length h) gs g)

-- what the bytes of some frames are
pub record Parts (n : ℕ) (bytes : List ℕ) (gs : List (List LogRecord)) : Type 0 where
  pub gate : ℕ
  pub rest : List ℕ
  pub shut : gate ≢ OPEN
  pub groups : AreGroups n gs
  pub is : bytes ≡ text n gs ++ gate ∷ rest

pub parts_of : (n : ℕ) (bytes : List ℕ) (gs : List (List LogRecord)) → Frames n bytes gs → Parts n bytes gs
parts_of n bytes [] (gate, rest, shut, is) = record { gate = gate; rest = rest; shut = shut; groups = tt; is = is }
parts_of n bytes (g ∷ gs) (left, is_group, some, is, more) =
    let p = parts_of (n + length g) left gs more in
    record {
      gate = p.gate;
      rest = p.rest;
      shut = p.shut;
      groups = (is_group, p.groups);
      is = is ∙ ap (λ (l : List ℕ). OPEN ∷ (behind_gate n (texts g) ++ l)) p.is ∙ ap (λ (l : List ℕ). OPEN ∷ l) (sym (append_assoc (behind_gate n (texts g)) (text (n + length g) gs) (p.gate ∷ p.rest)));
    }
