-- How far the frames of some bytes have been read, and what stops the reading.
use Rattle.std.proofs.Common.{◌≡◌, ◌≢◌, ℕ, ◌+◌, ◌^◌, ◌<◌, Bool, true, false, IsTrue, List, [], ◌∷◌, ◌++◌, Result, Err, length, drop, refl, sym, ◌∙◌, ap, subst, arith, append_assoc, length-append}
use Rattle.std.proofs.lemmas.List.{append-nil}
use Rattle.shore_gate.specs.declared.gates.TheConstants.{OPEN}
use Rattle.shore_types.specs.declared.faults.Device.TheVariants.{Log}
use Rattle.shore_types.specs.declared.faults.Fault.{Fault}
use Rattle.shore_types.specs.declared.faults.Fault.TheVariants.{Damaged}
use Rattle.shore_model.specs.declared.log_records.LogRecord.{LogRecord}
use Rattle.shore_logrec.specs.Text.{texts}
use Rattle.shore_frames.specs.Frames.{IsGroup, AreGroups, Frames, behind_gate, text, number_behind, joined}
use Rattle.shore_frames.specs.Offsets.{GateAt, IsFrameAt, HasNoFrame, NoneStands, IsBadAt}
use Rattle.shore_frames.specs.Places.{byte_of, from_place, stream_of}
use Rattle.shore_frames.proofs.FrameLemmas.{closed_behind, text-push, length-text-push, AreGroups-push, joined-push, number_behind-joined}
use Rattle.shore_frames.proofs.OffsetLemmas.{same_frame}
use Rattle.shore_frames.proofs.ReadLemmas.{not_both}

-- up to so many bytes stand frames of these groups, and every reading of the bytes begins with them
pub record IsRead (tail : ℕ) (bytes : List ℕ) (front : List (List LogRecord)) (number at : ℕ) : Type 0 where
  pub parts : bytes ≡ text tail front ++ drop at bytes
  pub groups : AreGroups tail front
  pub number_is : number ≡ number_behind tail front
  pub at_is : at ≡ length (text tail front)
  pub only : (gs : List (List LogRecord)) → Frames tail bytes gs → (more : List (List LogRecord)) × (gs ≡ front ++ more) × Frames number (drop at bytes) more

pub begun : (tail : ℕ) (bytes : List ℕ) → IsRead tail bytes [] tail 0
begun tail bytes = record { parts = refl; groups = tt; number_is = refl; at_is = refl; only = λ gs frames. (gs, refl, frames) }

-- an open gate
opened : (bytes : List ℕ) (at : ℕ) (b : Bool) → b ≡ true → GateAt bytes at b → drop at bytes ≡ OPEN ∷ drop (at + 1) bytes
opened bytes at b is gate = gate.1 ∙ ap (λ (x : ℕ). x ∷ drop (at + 1) bytes) (gate.2.0 is)

no_other_gate : (bytes after rest : List ℕ) (gate : ℕ) → bytes ≡ OPEN ∷ after → gate ≢ OPEN → bytes ≡ gate ∷ rest → ⊥
no_other_gate bytes after rest gate is shut e = shut (head_is gate rest after (sym e ∙ is))
  where
    head_is : (gate : ℕ) (xs ys : List ℕ) → gate ∷ xs ≡ OPEN ∷ ys → gate ≡ OPEN
    head_is gate xs ys e = cc

behind_open : (bytes after rest : List ℕ) → bytes ≡ OPEN ∷ after → bytes ≡ OPEN ∷ rest → after ≡ rest
behind_open bytes after rest is e = tail_is (sym is ∙ e)
  where
    tail_is : {x : ℕ} {xs ys : List ℕ} → x ∷ xs ≡ x ∷ ys → xs ≡ ys
    tail_is e = cc

module _ (tail : ℕ) (bytes : List ℕ) (front : List (List LogRecord)) (number at : ℕ) (read : IsRead tail bytes front number at) (b : Bool) (gate : GateAt bytes at b) where
  -- a closed gate ends them
  pub ended : b ≡ false → Frames tail bytes front
  ended shut = subst (λ (s : List ℕ). Frames tail s front) (sym (read.parts ∙ ap (λ (l : List ℕ). text tail front ++ l) gate.1)) (closed_behind tail front gate.0 (drop (at + 1) bytes) read.groups (λ is. not_both b (gate.2.1 is) shut))

  pub ended_only : b ≡ false → (gs : List (List LogRecord)) → Frames tail bytes gs → front ≡ gs
  ended_only shut gs frames = ends (read.only gs frames)
    where
      ends : (more : List (List LogRecord)) × (gs ≡ front ++ more) × Frames number (drop at bytes) more → front ≡ gs
      ends ([], is, left) = sym (is ∙ append-nil front)
      ends (g ∷ more, is, left) = absurd (no_other_gate (drop at bytes) (behind_gate number (texts g) ++ left.0) (drop (at + 1) bytes) gate.0 left.3 (λ here. not_both b (gate.2.1 here) shut) gate.1)

  -- one frame on
  pub frame_on : b ≡ true → (number' at' : ℕ) (g : List LogRecord) → number < 2 ^ 64 → IsGroup number g → IsFrameAt bytes at number g → number' ≡ number + length g → at' ≡ at + 13 + length (texts g)
      → IsRead tail bytes (front ++ g ∷ []) number' at'
  frame_on is_open number' at' g small group frame next offset =
      let here = opened bytes at b is_open gate in
      let behind : drop (at + 1) bytes ≡ behind_gate number (texts g) ++ drop at' bytes = frame.stands ∙ ap (λ (k : ℕ). behind_gate number (texts g) ++ drop k bytes) (sym offset) in
      record {
        parts = read.parts ∙ ap (λ (l : List ℕ). text tail front ++ l) (here ∙ ap (λ (l : List ℕ). OPEN ∷ l) (behind ∙ ap (λ (n : ℕ). behind_gate n (texts g) ++ drop at' bytes) read.number_is)) ∙ sym (text-push tail front g (drop at' bytes));
        groups = AreGroups-push tail front g read.groups (subst (λ n. IsGroup n g) read.number_is group);
        number_is = omega (arith, next, read.number_is, number_behind-joined tail front, number_behind-joined tail (front ++ g ∷ []), ap length (joined-push front g), length-append (joined front) g);
        at_is = omega (arith, offset, read.at_is, length-text-push tail front g);
        only = λ gs frames. step here behind gs (read.only gs frames);
      }
    where
      step : drop at bytes ≡ OPEN ∷ drop (at + 1) bytes → drop (at + 1) bytes ≡ behind_gate number (texts g) ++ drop at' bytes → (gs : List (List LogRecord)) → (more : List (List LogRecord)) × (gs ≡ front ++ more) × Frames number (drop at bytes) more
          → (more : List (List LogRecord)) × (gs ≡ (front ++ g ∷ []) ++ more) × Frames number' (drop at' bytes) more
      step here behind gs ([], all, left) = absurd (no_other_gate (drop at bytes) (drop (at + 1) bytes) left.1 left.0 here left.2 left.3)
      step here behind gs (h ∷ more, all, (r, is_group, some, e, frames)) =
          let there : drop (at + 1) bytes ≡ behind_gate number (texts h) ++ r = behind_open (drop at bytes) (drop (at + 1) bytes) (behind_gate number (texts h) ++ r) here e in
          let same : g ≡ h = frame.only h r is_group there in
          let left = same_frame number (texts g) (texts h) (drop at' bytes) r small group.most is_group.most (sym behind ∙ there) in
          let n : number + length h ≡ number' = omega (arith, next, ap length same) in
          (more, all ∙ ap (λ (x : List LogRecord). front ++ x ∷ more) (sym same) ∙ sym (append_assoc front (g ∷ []) more), subst (λ (l : List ℕ). Frames number' l more) (sym left.1) (subst (λ m. Frames m r more) n frames))

  -- behind an open gate stands no frame
  pub stuck : b ≡ true → HasNoFrame bytes at number → NoneStands (number_behind tail front) (drop at bytes)
  stuck is_open none =
      let here = opened bytes at b is_open gate in
      subst (λ n. NoneStands n (drop at bytes)) read.number_is record {
        no_gate = λ other rest shut e. no_other_gate (drop at bytes) (drop (at + 1) bytes) rest other here shut e;
        no_frame = λ g rest group some e. none g rest group some (behind_open (drop at bytes) (drop (at + 1) bytes) (behind_gate number (texts g) ++ rest) here e);
      }

  pub stuck_only : b ≡ true → HasNoFrame bytes at number → (gs : List (List LogRecord)) → Frames tail bytes gs → ⊥
  stuck_only is_open none gs frames = step (opened bytes at b is_open gate) (read.only gs frames)
    where
      step : drop at bytes ≡ OPEN ∷ drop (at + 1) bytes → (more : List (List LogRecord)) × (gs ≡ front ++ more) × Frames number (drop at bytes) more → ⊥
      step here ([], all, left) = no_other_gate (drop at bytes) (drop (at + 1) bytes) left.1 left.0 here left.2 left.3
      step here (h ∷ more, all, (r, is_group, some, e, frames)) = none h r is_group some (behind_open (drop at bytes) (drop (at + 1) bytes) (behind_gate number (texts h) ++ r) here e)

-- .. at this byte of the device
pub bad_at : (tail place : ℕ) (image : List ℕ) (front : List (List LogRecord)) (number at offset : ℕ) → IsRead tail (from_place place (stream_of image)) front number at
    → NoneStands (number_behind tail front) (drop at (from_place place (stream_of image))) → offset ≡ byte_of (length (stream_of image)) (place + at) → IsBadAt tail place image offset
bad_at tail place image front number at offset read bad is = record {
  front = front;
  rest = drop at (from_place place (stream_of image));
  groups = read.groups;
  parts = read.parts;
  offset_is = is ∙ ap (λ n. byte_of (length (stream_of image)) (place + n)) read.at_is;
  bad = bad;
}

-- the offset that a fault tells
pub damaged_at : {T : Type 0} (fault : Fault) (a b : ℕ) → fault ≡ Damaged Log a → (let one : Result T Fault = Err fault in let two : Result T Fault = Err (Damaged Log b) in one ≡ two) → a ≡ b
damaged_at fault a b is e = cc

-- a device that two calls left as it was, if it was honest
pub kept : {H : Type 0} (old mid : Bool) (first second third : H) → mid ≡ old → (IsTrue mid → third ≡ second) → (IsTrue old → second ≡ first) → IsTrue old → third ≡ first
kept old mid first second third is later before honest = later (subst (λ (b : Bool). IsTrue b) (sym is) honest) ∙ before honest

-- frames have a byte at least
pub frames_some : (n : ℕ) (bytes : List ℕ) (gs : List (List LogRecord)) → Frames n bytes gs → 0 < length bytes
frames_some n bytes [] frames = omega (arith, ap length frames.3)
frames_some n bytes (g ∷ gs) frames = omega (arith, ap length frames.3)
