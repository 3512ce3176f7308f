-- What is kept of a log device that stages a frame, and opens its gate.
use Rattle.std.proofs.Common.{◌≡◌, ◌≤◌, ◌<◌, ◌+◌, ◌↔◌, inl, inr, ℕ, Bool, true, false, true≢false, List, [], ◌∷◌, ◌++◌, length, take, refl, sym, ◌∙◌, ap, subst, arith, length-append, Option, None, Some, Result, Ok, Err}
use Rattle.std.specs.Option.{ForSome, is_some}
use Rattle.std.specs.Prelude.{◌⊎◌, IfOk, IfSome, IsSome, OnErr}
use Rattle.shore_types.specs.declared.faults.Fault.{Fault}
use Rattle.shore_types.specs.declared.layout.Geometry.{Geometry}
use Rattle.shore_disk.specs.Device.{Call, DeviceHistory, LeavesOnly, LeftAfter, LeftSince, may_leave, moment, seen}
use Rattle.shore_disk.specs.declared.device.Disk.{Ghosts}
use Rattle.shore_disk.proofs.Moments.{at_end, joined, seen_left, started, widened}
use Rattle.shore_frames.specs.Frames.{GivesBehindFrom, GivesWithOrWithoutFrom}
use Rattle.shore_gate.specs.declared.anchors.Anchors.{Anchors}
use Rattle.shore_model.specs.declared.log_records.LogRecord.{LogRecord}
use Rattle.shore_log.specs.declared.device.LogDev.{LogDev}
use Rattle.shore_log.specs.declared.device.Staged.{Staged}
use Rattle.shore_log.specs.Settled.{IsSettledFrom, IsStagedFrom, anchor_of, stable, waiting}
use Rattle.shore_world.proofs.WorldLemmas.{ready_gives}
use Rattle.shore_world.specs.Ready.{IsReadyLog}
use Rattle.shore_held.specs.Comings.{HasAim}
use Rattle.shore_held.specs.Logs.{IsKept, IsLeftOfHeld, LeavesHeld, LogState, count_of}
use Rattle.shore_held.proofs.KeptLogs.{GivesForced, group_leaves, kept_ready, stable_leaves}

-- ---- how many records are staged

pub staged_some : (s : Option Staged) → ForSome s (λ x. 1 ≤ x.count) → IsSome s → 0 < count_of s
staged_some None least is = absurd cc
staged_some (Some x) least is = least x refl

-- where no frame is staged none is opened
pub none_where : {A : Type 0} (n : Option A) (s : Option Staged) → (IsSome n ↔ IsSome s) → s ≡ None → n ≡ None
none_where None s tells none = refl
none_where (Some x) s tells none = let clash = subst IsSome none (tells.0 refl) in absurd cc

pub counted_some : (s : Option Staged) → 0 < count_of s → IsSome s
counted_some None least = absurd (omega (arith, least))
counted_some (Some x) least = refl

pub staged_fits : (s : Option Staged) (forced records : ℕ) → ForSome s (λ x. forced + x.count ≤ records) → forced ≤ records → forced + count_of s ≤ records
staged_fits None forced records waits inside = omega (arith, inside)
staged_fits (Some x) forced records waits inside = waits x refl

-- what a number comes with is not, so there is no number
pub none_unless : (n : Option ℕ) (P : ℕ → Type 0) → IfSome n P → ((last : ℕ) → P last → ⊥) → n ≡ None
none_unless None P is isnt = refl
none_unless (Some last) P is isnt = absurd (isnt last is)

pub not_staged : (s : Option Staged) → (IsSome s → s ≡ None) → s ≡ None
not_staged None none = refl
not_staged (Some x) none = none refl

pub none_counts : (s : Option Staged) → s ≡ None → count_of s ≡ 0
none_counts s none = ap count_of none

none_or_some : (s : Option Staged) → (s ≡ None) ⊎ ((x : Staged) × (s ≡ Some x))
none_or_some None = inl refl
none_or_some (Some x) = inr (x, refl)

pub none_counted : (s : Option Staged) → ForSome s (λ x. 1 ≤ x.count) → count_of s ≡ 0 → s ≡ None
none_counted None least none = refl
none_counted (Some x) least none = absurd (omega (arith, least x refl, none))

-- ---- what an answer says, once it is known which it is

pub if_ok : {A : Type 0} (r : Result A Fault) (x : A) (P : A → Type 0) → r ≡ Ok x → IfOk r P → P x
if_ok {A = A} r x P is p = subst (λ (q : Result A Fault). IfOk q P) is p

pub on_err : {A : Type 0} (r : Result A Fault) (fault : Fault) (P : Type 0) → r ≡ Err fault → OnErr r P → P
on_err {A = A} r fault P is p = subst (λ (q : Result A Fault). OnErr q P) is p

pub on_some : {A : Type 0} (n : Option A) (P : Type 0) → is_some n ≡ true → IfSome n (λ _. P) → P
on_some (Some x) P is p = p
on_some None P is p = absurd (true≢false (sym is))

-- ---- the images

module _ {L : Type 0} {G : Ghosts L} where
  -- a device that is not called leaves what is durable, and nothing of a frame that is staged
  pub still_leaves : (log : LogDev L G) (front : List ℕ) → IsReadyLog log front
      → LeavesOnly (G.history log.device) (G.history log.device) (GivesBehindFrom front (anchor_of log).tail (anchor_of log).tail_place (stable log))
  still_leaves log front ready = started (G.history log.device) (GivesBehindFrom front (anchor_of log).tail (anchor_of log).tail_place (stable log)) (ready_gives log front ready)

  module _ (old new : LogDev L G) where
    -- so does one that stages
    pub stage_leaves : (front : List ℕ) → IsReadyLog old front
        → ((tail place : ℕ) (f : List ℕ) → IsSettledFrom tail place old f → old.staged ≡ None → LeavesOnly (G.history old.device) (G.history new.device) (GivesBehindFrom f tail place (stable old)))
        → (IsSome old.staged → new ≡ old) → LeavesOnly (G.history old.device) (G.history new.device) (GivesBehindFrom front (anchor_of old).tail (anchor_of old).tail_place (stable old))
    stage_leaves front (inl s) moments still = moments (anchor_of old).tail (anchor_of old).tail_place front s.0 s.1
    stage_leaves front (inr s) moments still =
        subst (λ (l : LogDev L G). LeavesOnly (G.history old.device) (G.history l.device) (GivesBehindFrom front (anchor_of old).tail (anchor_of old).tail_place (stable old)))
        (sym (still (subst IsSome (sym s.1.waits) refl))) (still_leaves old front (inr s))

    -- one that opens a gate leaves the frame, or not
    pub open_leaves : (front : List ℕ) → IsReadyLog old front
        → ((tail place : ℕ) (f : List ℕ) (group : List LogRecord) → IsStagedFrom tail place old f group
        → LeavesOnly (G.history old.device) (G.history new.device) (GivesWithOrWithoutFrom f tail place (stable old) group))
        → (old.staged ≡ None → new ≡ old) → LeavesOnly (G.history old.device) (G.history new.device) (GivesForced old front)
    open_leaves front (inl s) moments still =
        subst (λ (l : LogDev L G). LeavesOnly (G.history old.device) (G.history l.device) (GivesForced old front)) (sym (still s.1))
        (stable_leaves old (G.history old.device) front (still_leaves old front (inl s)))
    open_leaves front (inr s) moments still =
        group_leaves old (G.history new.device) front (length s.0)
        (subst (λ (l : List LogRecord). LeavesOnly (G.history old.device) (G.history new.device) (GivesWithOrWithoutFrom front (anchor_of old).tail (anchor_of old).tail_place (stable old) l)) (sym s.1.first)
        (moments (anchor_of old).tail (anchor_of old).tail_place front s.0 s.1))

    -- ---- what is kept then

    module _ {g : Geometry} {log_bytes : ℕ} {aim : ℕ × ℕ} (failed : Bool) (runs : failed ≡ false) (k : IsKept g log_bytes old failed aim) (anchors : new.anchors ≡ old.anchors) where
      pub kept_staged : (n : Option ℕ) (group : ℕ → List LogRecord) → (n ≡ None → new ≡ old)
          → ((tail place : ℕ) (front : List ℕ) → IsSettledFrom tail place old front → old.staged ≡ None → IfSome n (λ last. IsStagedFrom tail place new front (group last)))
          → (IsSome old.staged → new ≡ old) → IsKept g log_bytes new failed aim
      kept_staged None group same staged under_way = subst (λ (l : LogDev L G). IsKept g log_bytes l failed aim) (sym (same refl)) k
      kept_staged (Some last) group same staged under_way = elim (k.ready runs) [
        | inl s ↦
            let is = staged (anchor_of old).tail (anchor_of old).tail_place k.front s.0 s.1 in
            kept_ready old new k.front k.labelled anchors k.anchored failed
            (inr (group last, subst (λ (a : Anchors). IsStagedFrom a.anchor.tail a.anchor.tail_place new k.front (group last)) (sym anchors) is))
        | inr s ↦ subst (λ (l : LogDev L G). IsKept g log_bytes l failed aim) (sym (under_way (subst IsSome (sym s.1.waits) refl))) k
      ]

      pub kept_opened : (old.staged ≡ None → new ≡ old) → ((tail place : ℕ) (front : List ℕ) (group : List LogRecord) → IsStagedFrom tail place old front group → IsSettledFrom tail place new front)
          → new.staged ≡ None → IsKept g log_bytes new failed aim
      kept_opened same settled none = elim (k.ready runs) [
        | inl s ↦ subst (λ (l : LogDev L G). IsKept g log_bytes l failed aim) (sym (same s.1)) k
        | inr s ↦
            kept_ready old new k.front k.labelled anchors k.anchored failed
            (inl (subst (λ (a : Anchors). IsSettledFrom a.anchor.tail a.anchor.tail_place new k.front) (sym anchors) (settled (anchor_of old).tail (anchor_of old).tail_place k.front s.0 s.1), none))
      ]

      -- .. and of one that opens a gate and may stage another frame
      pub kept_opened_on : (old.staged ≡ None → new ≡ old)
          → ((tail place : ℕ) (front : List ℕ) (group : List LogRecord) → IsStagedFrom tail place old front group → new.staged ≡ None → IsSettledFrom tail place new front)
          → ((tail place : ℕ) (front : List ℕ) (group : List LogRecord) → IsStagedFrom tail place old front group → ForSome new.staged (λ s. IsStagedFrom tail place new front (take s.count (waiting new))))
          → IsKept g log_bytes new failed aim
      kept_opened_on same settled staged = elim (k.ready runs) [
        | inl s ↦ subst (λ (l : LogDev L G). IsKept g log_bytes l failed aim) (sym (same s.1)) k
        | inr s ↦
            kept_ready old new k.front k.labelled anchors k.anchored failed
            (subst (λ (a : Anchors). (IsSettledFrom a.anchor.tail a.anchor.tail_place new k.front × (new.staged ≡ None)) ⊎ ((group : List LogRecord) × IsStagedFrom a.anchor.tail a.anchor.tail_place new k.front group))
            (sym anchors)
            (elim (none_or_some new.staged) [
              | inl none ↦ inl (settled (anchor_of old).tail (anchor_of old).tail_place k.front s.0 s.1 none, none)
              | inr next ↦ inr (take next.0.count (waiting new), staged (anchor_of old).tail (anchor_of old).tail_place k.front s.0 s.1 next.0 next.1)
            ]))
      ]

-- ---- one call, and then another

-- now is the first moment since now
now_left : (first : List ℕ) (calls : List Call) (c : List ℕ) → LeftAfter first calls c → LeftSince first calls (length calls) c
now_left first [] c left = left
now_left first (x ∷ calls) c left = inl left

-- the first moment of some calls
at_first : (first : List ℕ) (more calls : List Call) (c : List ℕ) → LeftAfter first calls c → LeftSince first (more ++ calls) (length calls) c
at_first first [] calls c left = now_left first calls c left
at_first first (x ∷ more) calls c left = inr (omega (arith, length-append more calls), at_first first more calls c left)

at_begin : (a b : DeviceHistory) (P : List ℕ → Type 0) → LeavesOnly a b P → (c : List ℕ) → may_leave a c → P c
at_begin a b P one c left =
    let more = one.later.0 in
    one.each c (subst (λ (h : DeviceHistory). LeftSince h.first h.calls (moment a) c) (sym one.later.1) (at_first a.first more a.calls c left))

-- what both leave stands behind one front
front_of : (s : LogState) (front image : List ℕ) → s.aim ≡ (0, 0) → IsLeftOfHeld s front image → take 4096 image ≡ front
front_of s front image none (inl gives) = gives.3.0
front_of s front image none (inr torn) = absurd (let aims : HasAim s.aim = torn.0 in omega (arith, aims, ap (λ (x : ℕ × ℕ). x.1) none))

pub held_joined : {g : Geometry} {log_bytes : ℕ} (s mid : LogState) (later : DeviceHistory) → mid.anchors ≡ s.anchors → mid.list ≡ s.list → mid.waits ≡ s.waits → mid.stable ≡ s.stable → mid.aim ≡ s.aim → s.aim ≡ (0, 0)
    → LeavesHeld g log_bytes s mid.history → LeavesHeld g log_bytes mid later → LeavesHeld g log_bytes s later
held_joined s mid later anchors list waits stable aim none one two =
    let P = IsLeftOfHeld s one.0 in
    let image = seen mid.history in
    let left : may_leave mid.history image = seen_left mid.history.first mid.history.calls in
    let same : one.0 ≡ two.0 =
    sym (front_of s one.0 image none (at_end s.history mid.history P one.4 image left)) ∙ front_of mid two.0 image (aim ∙ none) (at_begin mid.history later (IsLeftOfHeld mid two.0) two.4 image left) in
    let moments : LeavesOnly mid.history later P =
    subst (λ (f : List ℕ). LeavesOnly mid.history later (IsLeftOfHeld s f)) (sym same)
    (widened mid.history later (IsLeftOfHeld mid two.0) (IsLeftOfHeld s two.0) two.4 (as_old two.0)) in
    (one.0, one.1, one.2, one.3, joined s.history mid.history later P one.4 moments)
  where
    as_old : (front image : List ℕ) → IsLeftOfHeld mid front image → IsLeftOfHeld s front image
    as_old front image = subst (λ (x : LogState). IsLeftOfHeld x front image) (λ i. record s { anchors = anchors i; list = list i; waits = waits i; stable = stable i; aim = aim i })
