-- The places of some frames.
use Rattle.std.proofs.Common.{◌≡◌, ◌+◌, ◌<◌, ◌≤◌, ℕ, zero, suc, List, [], ◌∷◌, ◌++◌, Some, length, drop, refl, sym, ap, ◌∙◌, arith, length-append}
use Rattle.std.specs.Prelude.{slice_get, slice_index_or}
use Rattle.std.specs.List.Sorted.{IsNonDecreasingBy}
use Rattle.shore_model.specs.declared.log_records.LogRecord.{LogRecord}
use Rattle.shore_logrec.specs.Text.{texts}
use Rattle.shore_frames.specs.declared.reading.FrameAt.{FrameAt}
use Rattle.shore_frames.specs.Frames.{behind_gate, number_behind, text}
use Rattle.shore_frames.specs.Streams.{index_of}
use Rattle.shore_frames.proofs.FrameLemmas.{length-behind_gate}

unwrap : {A : Type 0} {x y : A} → Some x ≡ Some y → x ≡ y
unwrap e = cc

-- one frame more
pub index-push : (n place : ℕ) (gs : List (List LogRecord)) (g : List LogRecord) → index_of n place (gs ++ g ∷ []) ≡ index_of n place gs ++ (record { first = number_behind n gs; place = place + length (text n gs) }) ∷ []
index-push n place [] g = let e : place ≡ place + 0 = omega arith in ap (λ (p : ℕ). (record { first = n; place = p }) ∷ []) e
index-push n place (h ∷ gs) g =
    let e : place + (13 + length (texts h)) + length (text (n + length h) gs) ≡ place + length (text n (h ∷ gs)) = omega (arith, length-append (behind_gate n (texts h)) (text (n + length h) gs), length-behind_gate n (texts h)) in
    ap (λ l. (record { first = n; place = place }) ∷ l) (index-push (n + length h) (place + (13 + length (texts h))) gs g
    ∙ ap (λ (p : ℕ). index_of (n + length h) (place + (13 + length (texts h))) gs ++ (record { first = number_behind (n + length h) gs; place = p }) ∷ []) e)

-- the frame behind so many
pub index_at : (n place : ℕ) (before : List (List LogRecord)) (g : List LogRecord) (after : List (List LogRecord))
    → slice_get (index_of n place (before ++ g ∷ after)) (length before) ≡ Some (record { first = number_behind n before; place = place + length (text n before) })
index_at n place [] g after = let e : place ≡ place + 0 = omega arith in ap (λ (p : ℕ). Some (record { first = n; place = p })) e
index_at n place (h ∷ before) g after =
    let e : place + (13 + length (texts h)) + length (text (n + length h) before) ≡ place + length (text n (h ∷ before)) =
    omega (arith, length-append (behind_gate n (texts h)) (text (n + length h) before), length-behind_gate n (texts h)) in
    index_at (n + length h) (place + (13 + length (texts h))) before g after ∙ ap (λ (p : ℕ). Some (record { first = number_behind (n + length h) before; place = p })) e

-- the groups before a frame of the index, and the others
pub record IsAtFrame (n place : ℕ) (groups : List (List LogRecord)) (count : ℕ) (f : FrameAt) : Type 0 where
  pub gone : List (List LogRecord)
  pub left : List (List LogRecord)
  pub parts : groups ≡ gone ++ left
  pub first : f.first ≡ number_behind n gone
  pub place_is : f.place ≡ place + length (text n gone)
  pub index : drop count (index_of n place groups) ≡ index_of f.first f.place left

pub at_frame : (n place : ℕ) (groups : List (List LogRecord)) (count : ℕ) (f : FrameAt) → slice_get (index_of n place groups) count ≡ Some f → IsAtFrame n place groups count f
at_frame n place [] count f at = cc
at_frame n place (g ∷ gs) zero f at =
    let same : record { first = n; place = place } ≡ f = unwrap at in
    record {
      gone = [];
      left = g ∷ gs;
      parts = refl;
      first = sym (ap (λ (x : FrameAt). x.first) same);
      place_is = sym (ap (λ (x : FrameAt). x.place) same) ∙ omega arith;
      index = ap (λ (x : FrameAt). index_of x.first x.place (g ∷ gs)) same;
    }
at_frame n place (g ∷ gs) (suc count) f at =
    let rest = at_frame (n + length g) (place + (13 + length (texts g))) gs count f at in
    record {
      gone = g ∷ rest.gone;
      left = rest.left;
      parts = ap (λ l. g ∷ l) rest.parts;
      first = rest.first;
      place_is = omega (arith, rest.place_is, length-append (behind_gate n (texts g)) (text (n + length g) rest.gone), length-behind_gate n (texts g));
      index = rest.index;
    }

-- their first numbers do not fall
index_least : (n place : ℕ) (gs : List (List LogRecord)) (k : ℕ) (d : FrameAt) → k < length (index_of n place gs) → n ≤ (slice_index_or (index_of n place gs) k d).first
index_least n place [] k d within = absurd (omega arith)
index_least n place (g ∷ gs) zero d within = omega arith
index_least n place (g ∷ gs) (suc k) d within =
    let rest = index_least (n + length g) (place + (13 + length (texts g))) gs k d (omega arith) in omega (arith, rest)

pub index_rises : (n place : ℕ) (gs : List (List LogRecord)) → IsNonDecreasingBy (λ (f : FrameAt). f.first) (index_of n place gs)
index_rises n place [] i j d le within = absurd (omega arith)
index_rises n place (g ∷ gs) zero j d le within = index_least n place (g ∷ gs) j d within
index_rises n place (g ∷ gs) (suc i) zero d le within = absurd (omega arith)
index_rises n place (g ∷ gs) (suc i) (suc j) d le within = index_rises (n + length g) (place + (13 + length (texts g))) gs i j d (omega arith) (omega arith)
