use Rattle.std.proofs.Common.{Bool, Option, ℕ, None, Some, false, drop, ◌≡◌, ◌+◌, ◌-◌, ◌<◌, ◌≤◌, [], ◌∷◌, ◌++◌, List, IsTrue, inr, length, take, append-nil, refl, sym, subst, ap, ◌∙◌, arith, length-append, length-drop}
use Rattle.std.specs.Prelude.{IsSome}
use Rattle.std.specs.Option.{is_some}
use Rattle.std.specs.Global.{Vec}
use Rattle.std.proofs.lemmas.Bool.{true≢false}
use Rattle.shore_disk.specs.declared.device.Disk.{Ghosts}
use Rattle.shore_model.specs.declared.log_records.LogRecord.{LogRecord}
use Rattle.shore_log.specs.Listed.{all_in}
use Rattle.shore_log.specs.declared.device.LogDev.{LogDev}
use Rattle.shore_log.proofs.TextLemmas.{len_within, texts_front}
use Rattle.shore_disk.proofs.Moments.{started, widened}
use Rattle.shore_logrec.specs.Text.{texts}
use Rattle.shore_frames.specs.Frames.{GivesBehindFrom, IsLongest, behind_gate}
use Rattle.shore_frames.specs.Rings.{IsRingWritten, TornRing}
use Rattle.shore_frames.proofs.FrameLemmas.{length-behind_gate}
use Rattle.shore_frames.proofs.LoggedLemmas.{if_err, none_longest}
use Rattle.shore_frames.specs.declared.reading.FrameAt.{FrameAt}
use Rattle.shore_log.specs.Indexes.{are_listed}
use Rattle.shore_log.specs.Settled.{IsSpelled, records_of_log, stable, waiting}
use Rattle.shore_log.proofs.ForceLemmas.{keeps_frames, settled_gives, staged_from, torn_gives}
use Rattle.shore_log.proofs.device.LogDev.stage.Goals as goal

pub returns-then-count-eq0-clause-none_waits : goal.returns-then-count-eq0-clause-none_waits
returns-then-count-eq0-clause-none_waits g c none is =
    none_longest (waiting c.args.self.now) c.next_group-count.result.0 c.if-count-eq0.true c.next_group-count.ensures.fit c.next_group-count.ensures.longest

pub returns-then-count-eq0-clause-any_moment : goal.returns-then-count-eq0-clause-any_moment
returns-then-count-eq0-clause-any_moment g c tail place front s none = started _ (GivesBehindFrom front tail place (stable c.args.self.now)) (settled_gives c.args.self.now front s)

pub returns-then-kept-len-clause-any_moment : goal.returns-then-kept-len-clause-any_moment
returns-then-kept-len-clause-any_moment g c tail place front s none = started _ (GivesBehindFrom front tail place (stable c.args.self.now)) (settled_gives c.args.self.now front s)

pub returns-in_err-encoded-clause-any_moment : goal.returns-in_err-encoded-clause-any_moment
returns-in_err-encoded-clause-any_moment g c tail place front s none = started _ (GivesBehindFrom front tail place (stable c.args.self.now)) (settled_gives c.args.self.now front s)

pub returns-in_err-reserve-clause-any_moment : goal.returns-in_err-reserve-clause-any_moment
returns-in_err-reserve-clause-any_moment g c tail place front s none = started _ (GivesBehindFrom front tail place (stable c.args.self.now)) (settled_gives c.args.self.now front s)

pub returns-in_err-reserve-clause-refused : goal.returns-in_err-reserve-clause-refused
returns-in_err-reserve-clause-refused g c =
    if_err _ _ (λ fault. inr (keeps_frames c.args.self.now _ refl (λ honest. refl) refl refl refl refl c.reserve.ensures.items refl [] (sym (append-nil (records_of_log c.args.self.now))), refl))

none_of : {A : Type 0} (o : Option A) → is_some o ≡ false → o ≡ None
none_of None h = refl
none_of (Some v) h = absurd (true≢false h)

-- the texts of the frame, whether they were encoded for it or are there
chosen : {D : Type 0} {G : Ghosts D} (log : LogDev D G) (read : Option (Vec LogRecord)) (b : Bool) (encoded bytes got : List ℕ) (count len : ℕ) → log.read ≡ read → b ≡ is_some log.read
    → bytes ≡ log.bytes.items → len ≡ length (texts (take count (waiting log))) → (IsSome log.read → encoded ≡ texts (take count (waiting log)))
    → (IsTrue b → got ≡ encoded) → (b ≡ false → got ≡ take len (drop log.at bytes)) → got ≡ texts (take count (waiting log))
chosen log None b encoded bytes got count len none is there size coded first second =
    second (is ∙ ap is_some none) ∙ ap (λ (bs : List ℕ). take len (drop log.at bs)) there ∙ ap (take len) (log.spelled none) ∙ texts_front (waiting log) count len size
chosen log (Some v) b encoded bytes got count len some is there size coded first second =
    first (subst IsTrue (sym (is ∙ ap is_some some)) refl) ∙ coded (subst IsSome (sym some) refl)

-- a record that waits came from a log buffer, if each did
is_none : {D : Type 0} {G : Ghosts D} (log : LogDev D G) (read : Option (Vec LogRecord)) (count : ℕ) → log.read ≡ read → IsSpelled log → 1 ≤ count → count ≤ length (waiting log) → log.read ≡ None
is_none log None count none spelled some within = none
is_none log (Some v) count there spelled some within =
    let counted = log.counted in
    let all = spelled (subst IsSome (sym there) refl) in
    absurd (omega (arith, some, within, all, counted, length-drop log.forced (records_of_log log), length-drop log.gone (all_in log.found.items log.later.items)))

pub frame_bytes-requires : goal.frame_bytes-requires
frame_bytes-requires g c =
    let old = c.args.self.now in
    let count = c.next_group-count.result.0 in
    let is = chosen old old.read c.is_some.result c.deref.result.now c.deref-2.result.now c.texts_for-texts.result.now count c.next_group-count.result.1 refl c.is_some.ensures c.deref-2.ensures.value
    c.next_group-count.ensures.len (λ some. c.deref.ensures.value ∙ c.in_ok-encoded.ensures.texts some) c.texts_for-texts.ensures.encoded c.texts_for-texts.ensures.waits in
    record { fits = omega (arith, ap length is, c.next_group-count.ensures.longest.fits) }

pub texts_for-texts-requires : goal.texts_for-texts-requires
texts_for-texts-requires g c = record {
  inside = λ no.
      let log = c.args.self.now in
      let little = log.little in
      let none = none_of log.read (sym c.is_some.ensures ∙ no) in
      let within = len_within log.at c.next_group-count.result.1 c.next_group-count.result.0 log.bytes.items (waiting log) (omega (arith, little)) (log.spelled none) c.next_group-count.ensures.len in
      omega (arith, within, ap length c.deref-2.ensures.value);
}

pub write_ring_synced-requires-clause-fits : goal.write_ring_synced-requires-clause-fits
write_ring_synced-requires-clause-fits g c =
    let old = c.args.self.now in
    let texts_are : c.texts_for-texts.result.now ≡ texts (take c.next_group-count.result.0 (waiting old)) =
    chosen old old.read c.is_some.result c.deref.result.now c.deref-2.result.now c.texts_for-texts.result.now c.next_group-count.result.0 c.next_group-count.result.1 refl c.is_some.ensures c.deref-2.ensures.value
    c.next_group-count.ensures.len (λ some. c.deref.ensures.value ∙ c.in_ok-encoded.ensures.texts some) c.texts_for-texts.ensures.encoded c.texts_for-texts.ensures.waits in
    let group = take c.next_group-count.result.0 (waiting c.args.self.now) in
    let long : length c.deref-3.result.now ≡ 13 + length (texts group) =
    ap length (c.deref-3.ensures.value ∙ c.in_ok-frame_bytes.ensures.spelled ∙ ap (λ (l : List ℕ). behind_gate (old.tail.first + old.forced) l ++ 0 ∷ []) texts_are) ∙ length-append (behind_gate (old.tail.first + old.forced) (texts group)) (0 ∷ []) ∙ omega (arith, length-behind_gate (old.tail.first + old.forced) (texts group)) in
    omega (arith, long, c.next_group-count.ensures.len, c.if-kept-len.false)

pub returns-in_err-write_ring_synced-clause-any_moment : goal.returns-in_err-write_ring_synced-clause-any_moment
returns-in_err-write_ring_synced-clause-any_moment g c tail place front s none =
    let old = c.args.self.now in
    let texts_are : c.texts_for-texts.result.now ≡ texts (take c.next_group-count.result.0 (waiting old)) =
    chosen old old.read c.is_some.result c.deref.result.now c.deref-2.result.now c.texts_for-texts.result.now c.next_group-count.result.0 c.next_group-count.result.1 refl c.is_some.ensures c.deref-2.ensures.value
    c.next_group-count.ensures.len (λ some. c.deref.ensures.value ∙ c.in_ok-encoded.ensures.texts some) c.texts_for-texts.ensures.encoded c.texts_for-texts.ensures.waits in
    let image_long : length s.image ≡ 4096 + old.stream_bytes = omega (arith, g.met.D.Disk.keeps_length old.device s.holds.honest, old.as_long, ap length s.stands.read) in
    let group = take c.next_group-count.result.0 (waiting c.args.self.now) in
    let n = length c.deref-3.result.now in
    let long : n ≡ 13 + length (texts group) =
    ap length (c.deref-3.ensures.value ∙ c.in_ok-frame_bytes.ensures.spelled ∙ ap (λ (l : List ℕ). behind_gate (old.tail.first + old.forced) l ++ 0 ∷ []) texts_are) ∙ length-append (behind_gate (old.tail.first + old.forced) (texts group)) (0 ∷ []) ∙ omega (arith, length-behind_gate (old.tail.first + old.forced) (texts group)) in
    let fits : old.head + 1 + n ≤ old.tail.place + old.stream_bytes = omega (arith, long, c.next_group-count.ensures.len, c.if-kept-len.false, old.rises) in
    widened _ _ (TornRing (old.head + 1) n s.image) (GivesBehindFrom front tail place (stable old)) (c.write_ring_synced.ensures.any_moment s.holds.honest s.image s.stands)
    (torn_gives tail place old front s image_long n fits)

pub returns-clause-any_moment : goal.returns-clause-any_moment
returns-clause-any_moment g c tail place front s none =
    let old = c.args.self.now in
    let texts_are : c.texts_for-texts.result.now ≡ texts (take c.next_group-count.result.0 (waiting old)) =
    chosen old old.read c.is_some.result c.deref.result.now c.deref-2.result.now c.texts_for-texts.result.now c.next_group-count.result.0 c.next_group-count.result.1 refl c.is_some.ensures c.deref-2.ensures.value
    c.next_group-count.ensures.len (λ some. c.deref.ensures.value ∙ c.in_ok-encoded.ensures.texts some) c.texts_for-texts.ensures.encoded c.texts_for-texts.ensures.waits in
    let image_long : length s.image ≡ 4096 + old.stream_bytes = omega (arith, g.met.D.Disk.keeps_length old.device s.holds.honest, old.as_long, ap length s.stands.read) in
    let group = take c.next_group-count.result.0 (waiting c.args.self.now) in
    let n = length c.deref-3.result.now in
    let long : n ≡ 13 + length (texts group) =
    ap length (c.deref-3.ensures.value ∙ c.in_ok-frame_bytes.ensures.spelled ∙ ap (λ (l : List ℕ). behind_gate (old.tail.first + old.forced) l ++ 0 ∷ []) texts_are) ∙ length-append (behind_gate (old.tail.first + old.forced) (texts group)) (0 ∷ []) ∙ omega (arith, length-behind_gate (old.tail.first + old.forced) (texts group)) in
    let fits : old.head + 1 + n ≤ old.tail.place + old.stream_bytes = omega (arith, long, c.next_group-count.ensures.len, c.if-kept-len.false, old.rises) in
    widened _ _ (TornRing (old.head + 1) n s.image) (GivesBehindFrom front tail place (stable old)) (c.write_ring_synced.ensures.any_moment s.holds.honest s.image s.stands)
    (torn_gives tail place old front s image_long n fits)

pub invariant_of-self-2-clause-as_long : goal.invariant_of-self-2-clause-as_long
invariant_of-self-2-clause-as_long g c = c.in_ok-write_ring_synced.ensures.size ∙ c.args.self.now.as_long

pub invariant_of-self-2-clause-listed : goal.invariant_of-self-2-clause-listed
invariant_of-self-2-clause-listed g c =
    let old = c.args.self.now in
    subst (λ (fs : List FrameAt). IsTrue (are_listed old.head (old.tail.first + old.forced) fs)) (sym c.in_ok-reserve.ensures.items) old.listed

pub invariant_of-self-2-clause-staged_inside : goal.invariant_of-self-2-clause-staged_inside
invariant_of-self-2-clause-staged_inside g c = λ x is. let n : x.len ≡ c.next_group-count.result.1 = cc in omega (arith, n, c.if-kept-len.false, c.args.self.now.rises)

pub invariant_of-self-2-clause-staged_waits : goal.invariant_of-self-2-clause-staged_waits
invariant_of-self-2-clause-staged_waits g c = λ x is. let n : x.count ≡ c.next_group-count.result.0 = cc in
    omega (arith, n, c.next_group-count.ensures.longest.within, length-drop c.args.self.now.forced (records_of_log c.args.self.now), c.args.self.now.forced_inside)

pub invariant_of-self-2-clause-staged_short : goal.invariant_of-self-2-clause-staged_short
invariant_of-self-2-clause-staged_short g c = λ x is. let n : x.len ≡ c.next_group-count.result.1 = cc in omega (arith, n, c.next_group-count.ensures.len, c.next_group-count.ensures.longest.fits)

pub invariant_of-self-2-clause-staged_long : goal.invariant_of-self-2-clause-staged_long
invariant_of-self-2-clause-staged_long g c = λ x is.
    let n : x.len ≡ c.next_group-count.result.1 = cc in
    let k : x.count ≡ c.next_group-count.result.0 = cc in
    n ∙ c.next_group-count.ensures.len ∙ ap (λ m. length (texts (take m (waiting c.args.self.now)))) (sym k)

pub returns-clause-staged : goal.returns-clause-staged
returns-clause-staged g c tail place front s none =
    let old = c.args.self.now in
    let texts_are : c.texts_for-texts.result.now ≡ texts (take c.next_group-count.result.0 (waiting old)) =
    chosen old old.read c.is_some.result c.deref.result.now c.deref-2.result.now c.texts_for-texts.result.now c.next_group-count.result.0 c.next_group-count.result.1 refl c.is_some.ensures c.deref-2.ensures.value
    c.next_group-count.ensures.len (λ some. c.deref.ensures.value ∙ c.in_ok-encoded.ensures.texts some) c.texts_for-texts.ensures.encoded c.texts_for-texts.ensures.waits in
    let image_long : length s.image ≡ 4096 + old.stream_bytes = omega (arith, g.met.D.Disk.keeps_length old.device s.holds.honest, old.as_long, ap length s.stands.read) in
    let count = c.next_group-count.result.0 in
    let rs = waiting old in
    let longest : IsLongest rs count = c.next_group-count.ensures.longest in
    let len_is : c.next_group-count.result.1 ≡ length (texts (take count rs)) = c.next_group-count.ensures.len in
    let fits : old.head + 13 + length (texts (take count rs)) < old.tail.place + old.stream_bytes = omega (arith, len_is, c.if-kept-len.false, old.rises) in
    let written = c.in_ok-write_ring_synced.ensures.stable s.holds.honest in
    let spelled : c.deref-3.result.now ≡ behind_gate (old.tail.first + old.forced) (texts (take count rs)) ++ 0 ∷ [] =
    c.deref-3.ensures.value ∙ c.in_ok-frame_bytes.ensures.spelled ∙ ap (λ (l : List ℕ). behind_gate (old.tail.first + old.forced) l ++ 0 ∷ []) texts_are in
    staged_from tail place old front s image_long _ count ((c.cut_off.result + (old.forced + count)) - ((old.tail.first - 1) + old.forced)) c.next_group-count.result.1 c.deref-3.result.now written.0 (let cut = c.cut_off.ensures in omega (arith, cut)) (omega arith) longest fits
    (subst IsTrue (sym c.write_ring_synced.ensures.honest) s.holds.honest) written.1 spelled
    (subst (λ i. IsRingWritten (old.head + 1) c.deref-3.result.now i written.0) s.stands.read written.2)
    refl refl refl refl c.in_ok-reserve.ensures.items len_is refl

pub returns-in_err-reserve-clause-leaves : goal.returns-in_err-reserve-clause-leaves
returns-in_err-reserve-clause-leaves g c =
    if_err _ _ (λ fault. inr (record { device = refl; records = refl; forced = refl; staged = refl; head = refl; tail = refl; index = c.reserve.ensures.items; list = λ has. has }))

pub returns-in_err-encoded-clause-idle : goal.returns-in_err-encoded-clause-idle
returns-in_err-encoded-clause-idle g c = λ spelled is.
    absurd (true≢false (sym (c.in_err-encoded.ensures.idle (is_none c.args.self.now c.args.self.now.read c.next_group-count.result.0 refl spelled (omega (arith, c.if-count-eq0.false)) c.next_group-count.ensures.longest.within))))

pub returns-in_err-frame_bytes-clause-idle : goal.returns-in_err-frame_bytes-clause-idle
returns-in_err-frame_bytes-clause-idle g c = λ spelled is. absurd (true≢false (sym (c.in_err-frame_bytes.ensures.idle c.args.self.now.room.0)))

pub returns-in_err-reserve-clause-idle : goal.returns-in_err-reserve-clause-idle
returns-in_err-reserve-clause-idle g c = λ spelled is.
    let old = c.args.self.now in
    let within = c.next_group-count.ensures.longest.within in
    let some = c.if-count-eq0.false in
    let room = old.room.1 (is_none old old.read c.next_group-count.result.0 refl spelled (omega (arith, some)) within) in
    absurd (true≢false (sym (c.in_err-reserve.ensures.succeeds (omega (arith, room, within, some)))))

pub invariant_of-self-2-clause-forced_inside : goal.invariant_of-self-2-clause-forced_inside
invariant_of-self-2-clause-forced_inside g c = c.args.self.now.forced_inside

pub invariant_of-self : goal.invariant_of-self
invariant_of-self g c =
    let old = c.args.self.now in
    record {
      numbered = old.numbered;
      counted = old.counted;
      gone_below = old.gone_below;
      few = old.few;
      held = old.held;
      little = old.little;
      spelled = old.spelled;
      some = old.some;
      is_short = old.is_short;
      as_long = old.as_long;
      forced_inside = old.forced_inside;
      anchored = old.anchored;
      sequence = old.sequence;
      tail_number = old.tail_number;
      tail_place = old.tail_place;
      listed = old.listed;
      begins = old.begins;
      rises = old.rises;
      head_inside = old.head_inside;
      places = old.places;
      staged_inside = old.staged_inside;
      staged_waits = old.staged_waits;
      staged_long = old.staged_long;
      staged_short = old.staged_short;
      staged_some = old.staged_some;
      room = (omega (arith, old.room.0, c.frame_bytes.ensures.room), old.room.1);
      staged_listed = old.staged_listed;
    }
