-- The force of the records of undo: what a crash leaves of the log device, frame by frame.
use Rattle.std.proofs.Common.{◌≡◌, ◌≤◌, ◌+◌, ◌-◌, ℕ, List, [], ◌∷◌, ◌++◌, Bool, Result, Ok, Err, None, inl, inr, refl, sym, ap, subst, ◌∙◌, length, drop, take, take-add, length-append, length-drop, arith}
use Rattle.shore_gate.specs.declared.anchors.Anchor.{Anchor}
use Rattle.std.proofs.lemmas.List.{drop-take, length-take-le}
use Rattle.shore_types.specs.declared.layout.Geometry.{Geometry}
use Rattle.shore_types.specs.declared.layout.TheConstants.{LOG_FRONT_BYTES}
use Rattle.shore_disk.specs.Device.{DeviceHistory, LeavesOnly, may_leave}
use Rattle.shore_disk.specs.declared.device.Disk.{Ghosts}
use Rattle.shore_disk.proofs.Moments.{at_end, widened}
use Rattle.shore_model.specs.declared.log_records.LogRecord.{LogRecord}
use Rattle.shore_frames.specs.Frames.{GivesBehindFrom, GivesWithOrWithoutFrom, IsLongest}
use Rattle.shore_log.specs.Settled.{IsSettledFrom, cut_of_log, records_of_log, stable, waiting}
use Rattle.shore_log.specs.declared.device.LogDev.{LogDev}
use Rattle.shore_log.proofs.ForceLemmas.{settled_gives}
use Rattle.shore_frames.proofs.LoggedLemmas.{has_longest}
use Rattle.laws_lives.specs.Recovery.{ForceLog, RecoveryState, after_force}
use Rattle.shore_restart.specs.declared.errors.RestartError.{RestartError}
use Rattle.laws_images.specs.Moments.{Moment, ShowsLeft}
use Rattle.laws_images.specs.StandsBehind.{kept_behind}
use Rattle.shore_analysis.specs.Padded.{padded}
use Rattle.shore_restart.specs.Anchors.{EndsBehind}
use Rattle.laws_images.specs.MomentsBehind.{GivesKeptPrefix, PathBehind, RestartGoesOnBehind}
use Rattle.shore_restart.specs.Standing.{Forces, ForcesFrame, IsAtRest, SameLog, log_history, log_seen, stream_bytes_of}
use Rattle.shore_restart.specs.Room.{LeavesRoom}
use Rattle.shore_restart.proofs.Paths.{path_and, path_covered, step_log}

module _ {L : Type 0} {G : Ghosts L} where
  -- what is the same through two calls
  pub same_on : (old mid new : LogDev L G) → SameLog old mid → SameLog mid new → SameLog old new
  same_on old mid new one two = record { tail = two.tail ∙ one.tail; anchors = two.anchors ∙ one.anchors; honest = two.honest ∙ one.honest; size = two.size ∙ one.size }

  -- .. what is seen of its log
  pub seen_same : (old new : LogDev L G) → SameLog old new → records_of_log new ≡ records_of_log old → log_seen new ≡ log_seen old
  seen_same old new same records = ap (λ (n : ℕ). padded n (records_of_log new)) (ap (λ t. t.first - 1) same.tail) ∙ ap (padded (cut_of_log old)) records

  -- .. the room that it leaves
  pub room_same : (old new : LogDev L G) → SameLog old new → records_of_log new ≡ records_of_log old → LeavesRoom (cut_of_log old) (records_of_log old) (stream_bytes_of old)
      → LeavesRoom (cut_of_log new) (records_of_log new) (stream_bytes_of new)
  room_same old new same records leaves =
      subst (λ (cut : ℕ). LeavesRoom cut (records_of_log new) (stream_bytes_of new)) (sym (ap (λ t. t.first - 1) same.tail))
      (subst (λ (rs : List LogRecord). LeavesRoom (cut_of_log old) rs (stream_bytes_of new)) (sym records)
      (subst (λ (n : ℕ). LeavesRoom (cut_of_log old) (records_of_log old) n) (sym (ap (λ (bytes : ℕ). bytes - LOG_FRONT_BYTES) same.size)) leaves))

  pub stable_count : (log : LogDev L G) → length (stable log) ≡ log.forced
  stable_count log = length-take-le log.forced (records_of_log log) log.forced_inside

  module _ (log_front : List ℕ) (anchor : Anchor) (log : LogDev L G) (s : RecoveryState) (rest : IsAtRest log_front anchor log s) where
    -- what is kept of so many of the store's records is what the device has
    kept_is : (n : ℕ) → kept_behind anchor (take (cut_of_log log + n) s.log) ≡ take n (records_of_log log)
    kept_is n =
        ap (λ (first : ℕ). drop (first - 1) (take (cut_of_log log + n) s.log)) (sym rest.settled.holds.first) ∙ drop-take (cut_of_log log) n s.log ∙ ap (take n) rest.records

    -- its last record is the store's
    pub last_is : cut_of_log log + length (records_of_log log) ≡ length s.log
    last_is = let cut = rest.ended.cuts.0 in let long = ap length rest.records in omega (arith, cut, long, length-drop (cut_of_log log) s.log)

    -- an image that gives so many of its records gives as many of the store's
    pub gives_prefix : (n : ℕ) (c : List ℕ) → s.durable ≤ cut_of_log log + n → n ≤ length (records_of_log log)
        → GivesBehindFrom log_front anchor.tail anchor.tail_place (take n (records_of_log log)) c → GivesKeptPrefix log_front anchor s c
    gives_prefix n c least most gives = (
      cut_of_log log + n,
      least,
      omega (arith, most, last_is),
      subst (λ (rs : List LogRecord). GivesBehindFrom log_front anchor.tail anchor.tail_place rs c) (sym (kept_is n)) gives,
    )

    -- what a crash leaves of a device at rest
    pub rest_left : (c : List ℕ) → may_leave (log_history log) c → GivesKeptPrefix log_front anchor s c
    rest_left c left =
        gives_prefix log.forced c (omega (arith, rest.durable, stable_count log)) (omega (arith, log.forced_inside)) (settled_gives log log_front rest.settled c left)

  module _ (g : Geometry) (log_front front : List ℕ) (anchor : Anchor) (volume : DeviceHistory) (old new : LogDev L G) (s : RecoveryState) (rest : IsAtRest log_front anchor old s) (covered : (c : List ℕ) → may_leave volume c → ShowsLeft g front s c) where
    -- with the frame or without it, a prefix of the log is left
    frame_left : (count : ℕ) → count ≤ length (waiting old) → (c : List ℕ) → GivesWithOrWithoutFrom log_front anchor.tail anchor.tail_place (stable old) (take count (waiting old)) c
        → GivesKeptPrefix log_front anchor s c
    frame_left count within c (inl without) =
        gives_prefix log_front anchor old s rest old.forced c (omega (arith, rest.durable, stable_count old)) (omega (arith, old.forced_inside)) without
    frame_left count within c (inr more) =
        gives_prefix log_front anchor old s rest (old.forced + count) c (omega (arith, rest.durable, stable_count old)) (omega (arith, within, length-drop old.forced (records_of_log old), old.forced_inside))
        (subst (λ (rs : List LogRecord). GivesBehindFrom log_front anchor.tail anchor.tail_place rs c) (sym (take-add old.forced count (records_of_log old))) more)

    abbrev FrameLeaves : Type 0
    FrameLeaves = (count : ℕ) → IsLongest (waiting old) count
        → LeavesOnly (log_history old) (log_history new) (GivesWithOrWithoutFrom log_front anchor.tail anchor.tail_place (stable old) (take count (waiting old)))

    leaves_prefix : FrameLeaves → LeavesOnly (log_history old) (log_history new) (GivesKeptPrefix log_front anchor s)
    leaves_prefix leaves =
        let group = has_longest (waiting old) in
        widened (log_history old) (log_history new) (GivesWithOrWithoutFrom log_front anchor.tail anchor.tail_place (stable old) (take group.0 (waiting old))) (GivesKeptPrefix log_front anchor s) (leaves group.0 group.1) (frame_left group.0 group.1.within)

    -- more that is durable lets a crash leave no less
    still_shown : (durable : ℕ) → s.durable ≤ durable → (c : List ℕ) → may_leave volume c → ShowsLeft g front (after_force s durable) c
    still_shown durable more c left =
        let shown = covered c left in (
          shown.0,
          λ p. elim (shown.1 p) [
            | inl same ↦ inl same
            | inr in_place ↦ inr (in_place.0, omega (arith, in_place.1, more))
          ],
          shown.2,
        )

    goes_on : (durable : ℕ) → s.durable ≤ durable → durable ≤ length s.log → FrameLeaves
        → RestartGoesOnBehind g log_front front anchor (record { log = log_history old; volume = volume; store = s }) (record { log = log_history new; volume = volume; store = after_force s durable })
    goes_on durable more within leaves =
        step_log g log_front front anchor volume (log_history old) (log_history new) s (after_force s durable) (ForceLog durable ∷ []) (tt, tt) covered
        (tt, after_force s durable, (more, within, refl), refl) (leaves_prefix leaves)

    same_cut : new.tail ≡ old.tail → cut_of_log new ≡ cut_of_log old
    same_cut tail = ap (λ t. t.first - 1) tail

    within_log : new.tail ≡ old.tail → records_of_log new ≡ records_of_log old → cut_of_log new + length (stable new) ≤ length s.log
    within_log tail same = omega (arith, same_cut tail, stable_count new, new.forced_inside, ap length same, last_is log_front anchor old s rest)

    -- .. if the device did not fail
    pub frame_forced : (b : Bool) → FrameLeaves → ((count : ℕ) → IsLongest (waiting old) count → stable new ≡ stable old ++ take count (waiting old))
        → new.tail ≡ old.tail → records_of_log new ≡ records_of_log old → IsSettledFrom anchor.tail anchor.tail_place new log_front → new.staged ≡ None → ForcesFrame (Ok b) g log_front front anchor volume old new s
    frame_forced b leaves longer tail same settled none =
        let group = has_longest (waiting old) in
        let durable = cut_of_log new + length (stable new) in
        let more : s.durable ≤ durable = omega (arith, same_cut tail, rest.durable, ap length (longer group.0 group.1), length-append (stable old) (take group.0 (waiting old))) in
        let after : IsAtRest log_front anchor new (after_force s durable) = record {
          settled = settled;
          none_staged = none;
          records = ap (λ (n : ℕ). drop n s.log) (same_cut tail) ∙ rest.records ∙ sym same;
          ended = subst (λ (n : ℕ). EndsBehind n s.log) (sym (same_cut tail)) rest.ended;
          durable = refl;
        } in
        record {
          durable = durable;
          no_lower = more;
          goes_on = goes_on durable more (within_log tail same) leaves;
          covered = record { log = rest_left log_front anchor new (after_force s durable) after; volume = still_shown durable more };
          done = after;
        }

    -- .. and if it failed
    pub frame_stopped : (error : RestartError) → FrameLeaves → ForcesFrame (Err error) g log_front front anchor volume old new s
    frame_stopped error leaves = record {
      durable = s.durable;
      no_lower = omega arith;
      goes_on = goes_on s.durable (omega arith) (omega (arith, rest.durable, stable_count old, old.forced_inside, last_is log_front anchor old s rest)) leaves;
      covered = record { log = at_end (log_history old) (log_history new) (GivesKeptPrefix log_front anchor s) (leaves_prefix leaves); volume = still_shown s.durable (omega arith) };
      done = tt;
    }

  -- ---- frame by frame

  abbrev moment : DeviceHistory → LogDev L G → RecoveryState → Moment
  moment volume log s = record { log = log_history log; volume = volume; store = s }

  -- the frames so far
  pub record SoFar (g : Geometry) (log_front front : List ℕ) (anchor : Anchor) (volume : DeviceHistory) (first log : LogDev L G) (s : RecoveryState) : Type 0 where
    pub durable : ℕ
    pub moments : List Moment
    pub path : PathBehind g log_front front anchor (moment volume first s) moments (moment volume log (after_force s durable))
    pub at_rest : IsAtRest log_front anchor log (after_force s durable)

  pub none_so_far : (g : Geometry) (log_front front : List ℕ) (anchor : Anchor) (volume : DeviceHistory) (log : LogDev L G) (s : RecoveryState) → IsAtRest log_front anchor log s
      → ((c : List ℕ) → may_leave volume c → ShowsLeft g front s c) → SoFar g log_front front anchor volume log log s
  none_so_far g log_front front anchor volume log s rest covered = record {
    durable = s.durable;
    moments = [];
    path = (refl, record { log = rest_left log_front anchor log s rest; volume = covered });
    at_rest = record { settled = rest.settled; none_staged = rest.none_staged; records = rest.records; ended = rest.ended; durable = rest.durable };
  }

  module _ (g : Geometry) (log_front front : List ℕ) (anchor : Anchor) (volume : DeviceHistory) (first log : LogDev L G) (s : RecoveryState) (so_far : SoFar g log_front front anchor volume first log s) where
    pub shown_so_far : (c : List ℕ) → may_leave volume c → ShowsLeft g front (after_force s so_far.durable) c
    shown_so_far = (path_covered g log_front front anchor (moment volume first s) so_far.moments (moment volume log (after_force s so_far.durable)) so_far.path).volume

    path_next : (r : Result Bool RestartError) (new : LogDev L G) → (one : ForcesFrame r g log_front front anchor volume log new (after_force s so_far.durable))
        → PathBehind g log_front front anchor (moment volume first s) (so_far.moments ++ moment volume new (after_force s one.durable) ∷ []) (moment volume new (after_force s one.durable))
    path_next r new one =
        path_and g log_front front anchor (moment volume first s) so_far.moments (moment volume log (after_force s so_far.durable)) (moment volume new (after_force s one.durable)) so_far.path one.goes_on one.covered

    pub one_more : (b : Bool) (new : LogDev L G) → ForcesFrame (Ok b) g log_front front anchor volume log new (after_force s so_far.durable) → SoFar g log_front front anchor volume first new s
    one_more b new one = record {
      durable = one.durable;
      moments = so_far.moments ++ moment volume new (after_force s one.durable) ∷ [];
      path = path_next (Ok b) new one;
      at_rest = one.done;
    }

    pub stopped : (A : Type 0) (error other : RestartError) (new : LogDev L G) → ForcesFrame (Err error) g log_front front anchor volume log new (after_force s so_far.durable)
        → Forces {A = A} (Err other) g log_front front anchor volume first new s
    stopped A error other new one = record {
      durable = one.durable;
      moments = so_far.moments ++ moment volume new (after_force s one.durable) ∷ [];
      path = path_next (Err error) new one;
      done = tt;
    }

    -- no record waits any more
    pub all_forced : (A : Type 0) (x : A) → waiting log ≡ [] → Forces (Ok x) g log_front front anchor volume first log s
    all_forced A x none = record {
      durable = so_far.durable;
      moments = so_far.moments;
      path = so_far.path;
      done = (
        omega (arith, so_far.at_rest.durable, stable_count log, log.forced_inside, ap length none, length-drop log.forced (records_of_log log), last_is log_front anchor log (after_force s so_far.durable) so_far.at_rest),
        so_far.at_rest,
      );
    }
