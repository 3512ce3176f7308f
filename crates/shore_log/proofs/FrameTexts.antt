-- The frame of records that wait after those of a staged one: its texts, encoded for it or there in the bytes that wait, and its room.
use Rattle.std.proofs.Common.{Bool, Option, Result, Ok, Err, ℕ, None, Some, false, drop, ◌≡◌, ◌⊎◌, ◌+◌, ◌≤◌, [], List, inl, inr, IsTrue, length, take, refl, sym, subst, ap, ◌∙◌, arith, drop-drop, length-drop}
use Rattle.std.specs.Prelude.{IfOk, IfSome, IsSome}
use Rattle.std.specs.Option.{is_some}
use Rattle.std.specs.Result.{result_ok}
use Rattle.std.specs.Global.{Vec}
use Rattle.std.proofs.lemmas.Bool.{true≢false}
use Rattle.shore_disk.specs.declared.device.Disk.{Ghosts}
use Rattle.shore_model.specs.declared.log_records.LogRecord.{LogRecord}
use Rattle.shore_logrec.specs.Text.{texts}
use Rattle.shore_types.specs.declared.faults.Fault.{Fault}
use Rattle.shore_frames.specs.Frames.{IsLongest}
use Rattle.shore_frames.specs.declared.reading.FrameAt.{FrameAt}
use Rattle.shore_log.specs.declared.device.LogDev.{LogDev}
use Rattle.shore_log.specs.declared.device.Staged.{Staged}
use Rattle.shore_log.specs.Listed.{all_in}
use Rattle.shore_log.specs.Settled.{HasNoFrameRoom, HasNoRoomAfter, IsSpelled, records_of_log, waiting}
use Rattle.shore_log.proofs.TextLemmas.{len_within, texts_front}

pub chosen_after : {D : Type 0} {G : Ghosts D} (log : LogDev D G) (passed at : ℕ) (read : Option (Vec LogRecord)) (b : Bool) (encoded bytes got : List ℕ) (count len : ℕ) → log.read ≡ read
    → b ≡ is_some log.read → bytes ≡ log.bytes.items → len ≡ length (texts (take count (drop passed (waiting log))))
    → (log.read ≡ None → drop at log.bytes.items ≡ texts (drop (log.forced + passed) (records_of_log log)))
    → (IsSome log.read → encoded ≡ texts (take count (drop passed (waiting log))))
    → (IsTrue b → got ≡ encoded) → (b ≡ false → got ≡ take len (drop at bytes)) → got ≡ texts (take count (drop passed (waiting log)))
chosen_after log passed at None b encoded bytes got count len none is there size spelled coded first second =
    let rest : drop at log.bytes.items ≡ texts (drop passed (waiting log)) = spelled none ∙ ap texts (sym (drop-drop passed log.forced (records_of_log log))) in
    second (is ∙ ap is_some none) ∙ ap (λ (bs : List ℕ). take len (drop at bs)) there ∙ ap (take len) rest ∙ texts_front (drop passed (waiting log)) count len size
chosen_after log passed at (Some v) b encoded bytes got count len some is there size spelled coded first second =
    first (subst IsTrue (sym (is ∙ ap is_some some)) refl) ∙ coded (subst IsSome (sym some) refl)

-- what is there if it is taken as an option
pub of_ok : {T E : Type 0} (r : Result T E) (P : T → Type 0) (x : T) → Some x ≡ result_ok r → IfOk r P → P x
of_ok (Ok y) P x is p = let same : y ≡ x = cc in subst P same p
of_ok (Err e) P x is p = absurd cc

pub none_of : {A : Type 0} (o : Option A) → is_some o ≡ false → o ≡ None
none_of None h = refl
none_of (Some v) h = absurd (true≢false h)

-- a record that waits there came from a log buffer, if each did
pub is_none_after : {D : Type 0} {G : Ghosts D} (log : LogDev D G) (read : Option (Vec LogRecord)) (passed count : ℕ) → log.read ≡ read → IsSpelled log → 1 ≤ count → count ≤ length (drop passed (waiting log)) → log.read ≡ None
is_none_after log None passed count none spelled some within = none
is_none_after log (Some v) passed count there spelled some within =
    let counted = log.counted in
    let all = spelled (subst IsSome (sym there) refl) in
    absurd (omega (arith, some, within, all, counted, length-drop passed (waiting log), length-drop log.forced (records_of_log log), length-drop log.gone (all_in log.found.items log.later.items)))

pub len_within_after : {D : Type 0} {G : Ghosts D} (log : LogDev D G) (passed at len count : ℕ) → at ≤ length log.bytes.items → drop at log.bytes.items ≡ texts (drop (log.forced + passed) (records_of_log log))
    → len ≡ length (texts (take count (drop passed (waiting log)))) → at + len ≤ length log.bytes.items
len_within_after log passed at len count inside spelled is =
    len_within at len count log.bytes.items (drop passed (waiting log)) inside (spelled ∙ ap texts (sym (drop-drop passed log.forced (records_of_log log)))) is

-- ---- where there was no place for it

next_room : {D : Type 0} {G : Ghosts D} (old new : LogDev D G) (s : Staged) → HasNoRoomAfter old s → new.tail ≡ old.tail → new.stream_bytes ≡ old.stream_bytes → new.head ≡ old.head + (13 + s.len) → waiting new ≡ drop s.count (waiting old)
    → HasNoFrameRoom new
next_room old new s r at stream head waits = record {
  count = r.count;
  some = r.some;
  longest = subst (λ (rs : List LogRecord). IsLongest rs r.count) (sym waits) r.longest;
  full =
      let place : new.tail.place ≡ old.tail.place = ap (λ (f : FrameAt). f.place) at in
      let size : length (texts (take r.count (waiting new))) ≡ length (texts (take r.count (drop s.count (waiting old)))) = ap (λ (rs : List LogRecord). length (texts (take r.count rs))) waits in
      omega (arith, r.full, place, stream, head, size);
}

pub none_next : {D : Type 0} {G : Ghosts D} (old new : LogDev D G) (s : Staged) → (drop s.count (waiting old) ≡ []) ⊎ HasNoRoomAfter old s → new.tail ≡ old.tail → new.stream_bytes ≡ old.stream_bytes
    → (new.head ≡ old.head + (13 + s.len)) × (waiting new ≡ drop s.count (waiting old)) → (waiting new ≡ []) ⊎ HasNoFrameRoom new
none_next old new s (inl none) at stream next = inl (next.1 ∙ none)
none_next old new s (inr full) at stream next = inr (next_room old new s full at stream next.0 next.1)

pub if_opened : {A : Type 0} (r : Result (Option A) Fault) (P Q : A → Type 0) → ((x : A) → P x → Q x) → IfOk r (λ n. IfSome n P) → IfOk r (λ n. IfSome n Q)
if_opened (Ok (Some x)) P Q f p = f x p
if_opened (Ok None) P Q f p = tt
if_opened (Err fault) P Q f p = tt
