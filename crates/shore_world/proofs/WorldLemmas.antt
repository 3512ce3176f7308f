-- What an event leaves of a world, by what it did to the log device.
use Rattle.std.proofs.Common.{◌≡◌, ◌≢◌, ◌⊎◌, inl, inr, ℕ, ◌+◌, ◌-◌, ◌≤◌, List, [], ◌++◌, length, take, drop, Bool, true, false, Option, Some, None, IsTrue, refl, sym, ◌∙◌, ap, subst, arith, length-append, length-drop, append-nil}
use Rattle.std.specs.Prelude.{◌↔◌, IsSome, IsSomeAnd}
use Rattle.std.proofs.lemmas.List.{take-append-le, length-take, length-take-le}
use Rattle.shore_disk.specs.Device.{may_leave, LeavesOnly}
use Rattle.shore_disk.specs.declared.device.Disk.{Ghosts}
use Rattle.shore_disk.proofs.Moments.{widened, at_end}
use Rattle.shore_gate.specs.Anchor.{Counts}
use Rattle.shore_gate.specs.declared.anchors.Anchors.{Anchors}
use Rattle.shore_model.specs.declared.log_records.LogRecord.{LogRecord}
use Rattle.shore_model.specs.declared.step.Step.{Step}
use Rattle.shore_frames.specs.Frames.{GivesBehindFrom, GivesWithOrWithoutFrom, IsLongest}
use Rattle.shore_log.specs.Settled.{IsAnchored, IsLeftByMove, IsSettledFrom, IsStagedFrom, KeepsFrames, anchor_of, next_anchor, records_of_log, stable, waiting}
use Rattle.shore_log.specs.declared.device.LogDev.{LogDev}
use Rattle.shore_log.proofs.ForceLemmas.{settled_gives, staged_settled}
use Rattle.shore_frames.proofs.LoggedLemmas.{take-more_group}
use Rattle.laws_calls.specs.States.{State}
use Rattle.laws_checkpoints.specs.CheckpointedStores.{CheckpointedStore}
use Rattle.shore_log.specs.declared.tail.Tail as tail
use Rattle.shore_core.specs.declared.core_calls.Core.{Core}
use Rattle.shore_core.specs.Cores.{IsSafe, tail_of, waiting_of}
use Rattle.shore_core.specs.Stores.{force_to}
use Rattle.shore_world.specs.declared.event.Event.{Event}
use Rattle.shore_world.specs.declared.event.Event.TheVariants.{FlushStep}
use Rattle.shore_world.specs.declared.world.World.{World}
use Rattle.shore_world.specs.Events.{IsOfCheckpoint}
use Rattle.shore_world.specs.Ready.{IsReadyLog}
use Rattle.shore_world.specs.Worlds.{EventMovesWorld, EventStep, GivesList, HasStaged, IsInState, IsLeftOfLog, IsOverStore, SurvivesCrashes, anchor_in, anchors_in, durable_in, failed_in, forced_in, geometry_in, history_in, list_in, unforced_in, volume_history_in}
use Rattle.shore_world.proofs.LogParts.{IsBesideOf}
use Rattle.shore_world.proofs.VolumeLemmas.{comes_forced, comes_unworked, log_still, volume_still}

pub not_left : {A B : Type 0} → A ⊎ B → (A → ⊥) → B
not_left (inl a) isnt = absurd (isnt a)
not_left (inr b) isnt = b

-- what has failed does not run
pub failed_runs : (b : Bool) → IsTrue b → b ≡ false → ⊥
failed_runs b is runs = let clash : true ≡ false = sym is ∙ runs in absurd cc

pub some_stands : {A : Type 0} (o : Option A) → IsSome o → o ≢ None
some_stands (Some a) some is = absurd cc
some_stands None some is = absurd cc

none_where : {A : Type 0} (o : Option A) → (IsSome o → ⊥) → o ≡ None
none_where None isnt = refl
none_where (Some a) isnt = absurd (isnt refl)

pub is_some_and : {A : Type 0} (o : Option A) (a : A) (P : A → Type 0) → o ≡ Some a → P a → IsSomeAnd o P
is_some_and o a P is p = subst (λ o. IsSomeAnd o P) (sym is) p

module _ {L : Type 0} {G : Ghosts L} where
  pub length-stable : (log : LogDev L G) → length (stable log) ≡ log.forced
  length-stable log = length-take-le log.forced (records_of_log log) log.forced_inside

  pub ready_same : (old new : LogDev L G) → new ≡ old → (front : List ℕ) → IsReadyLog old front → IsReadyLog new front
  ready_same old new same front ready = subst (λ (l : LogDev L G). IsReadyLog l front) (sym same) ready

  -- one whose frames are kept
  pub ready_frames : (old new : LogDev L G) → KeepsFrames old new → (front : List ℕ) → IsReadyLog old front → IsReadyLog new front
  ready_frames old new same front (inl s) = inl (
    subst (λ (a : Anchors). IsSettledFrom a.anchor.tail a.anchor.tail_place new front) (sym same.anchors) (same.settled (anchor_of old).tail (anchor_of old).tail_place front s.0),
    same.under_way ∙ s.1,
  )
  ready_frames old new same front (inr s) = inr (
    s.0,
    subst (λ (a : Anchors). IsStagedFrom a.anchor.tail a.anchor.tail_place new front s.0) (sym same.anchors) (same.staged (anchor_of old).tail (anchor_of old).tail_place front s.0 s.1),
  )

  -- its anchor counts in the front as long as it is the same
  pub anchored_same : (old new : LogDev L G) → new.anchors ≡ old.anchors → (front : List ℕ) → IsAnchored old front → IsAnchored new front
  anchored_same old new same front is = record { long = is.long; counts = subst (λ (a : Anchors). Counts front a.slot a.anchor) (sym same) is.counts }

  -- what it gives is stable
  pub ready_gives : (log : LogDev L G) (front : List ℕ) → IsReadyLog log front → (c : List ℕ) → may_leave (G.history log.device) c
      → GivesBehindFrom front (anchor_of log).tail (anchor_of log).tail_place (stable log) c
  ready_gives log front (inl s) c left = settled_gives log front s.0 c left
  ready_gives log front (inr s) c left = settled_gives log front (staged_settled log front s.0 s.1) c left

  pub none_staged : (log : LogDev L G) (is : Bool) → (IsTrue is ↔ IsSome log.staged) → is ≡ false → log.staged ≡ None
  none_staged log is tells isnt = none_where log.staged (λ some. let clash : true ≡ false = sym (tells.1 some) ∙ isnt in absurd cc)

-- a list of which neither part has changed
pub same_list : {T V : Type 0} {G : tail.Ghosts T} {H : Ghosts V} (rs later : List LogRecord) (old new : Core T V G H) → later ≡ rs → tail_of new ≡ tail_of old
    → later ++ waiting_of new ≡ rs ++ waiting_of old
same_list {G = G} rs later old new logs tails = ap (λ (l : List LogRecord). l ++ waiting_of new) logs ∙ ap (λ t. rs ++ G.records t) tails

module _ {L V : Type 0} {G : Ghosts L} {H : Ghosts V} where
  -- ---- what gives a prefix of the list

  pub forced_within : (w : World L V G H) → forced_in w ≤ length (list_in w)
  forced_within w = omega (arith, length-stable w.log, w.log.forced_inside, length-append (records_of_log w.log) (waiting_of w.core))

  pub stable_is : (w : World L V G H) → take (forced_in w) (list_in w) ≡ stable w.log
  stable_is w = ap (λ n. take n ((records_of_log w.log) ++ waiting_of w.core)) (length-stable w.log) ∙ take-append-le w.log.forced (records_of_log w.log) (waiting_of w.core) w.log.forced_inside

  abbrev pub GivesOf : World L V G H → List ℕ → List LogRecord → List ℕ → Type 0
  GivesOf w front rs c = GivesBehindFrom front (anchor_in w).tail (anchor_in w).tail_place rs c

  pub stable_gives : (w : World L V G H) (front c : List ℕ) → GivesOf w front (stable w.log) c → GivesList w front c
  stable_gives w front c gives = (forced_in w, omega arith, forced_within w, subst (λ (l : List LogRecord). GivesOf w front l c) (sym (stable_is w)) gives)

  -- a world that has not failed is left so
  pub running_gives : (w : World L V G H) (front : List ℕ) → SurvivesCrashes w front → failed_in w ≡ false → (c : List ℕ) → may_leave (history_in w) c → GivesList w front c
  running_gives w front k running c left = stable_gives w front c (ready_gives w.log front (k.ready running) c left)

  -- the stable records and those of a staged frame
  module _ (w : World L V G H) (front : List ℕ) (group : List LogRecord) (staged : IsStagedFrom (anchor_in w).tail (anchor_in w).tail_place w.log front group) where
    abbrev rest : List LogRecord
    rest = waiting_of w.core

    within_records : w.log.forced + length group ≤ length (records_of_log w.log)
    within_records = omega (arith, ap length staged.first, length-take (length group) (waiting w.log), length-drop w.log.forced (records_of_log w.log), w.log.forced_inside)

    more_is : take (w.log.forced + length group) (list_in w) ≡ stable w.log ++ group
    more_is =
        take-append-le (w.log.forced + length group) (records_of_log w.log) rest within_records
        ∙ take-more_group (records_of_log w.log) w.log.forced group w.log.forced_inside staged.first

    pub more_gives : (c : List ℕ) → GivesOf w front (stable w.log ++ group) c → GivesList w front c
    more_gives c gives = (
      w.log.forced + length group,
      omega (arith, length-stable w.log),
      omega (arith, within_records, length-append (records_of_log w.log) (waiting_of w.core)),
      subst (λ (l : List LogRecord). GivesOf w front l c) (sym more_is) gives,
    )

    pub either_gives : (c : List ℕ) → GivesWithOrWithoutFrom front (anchor_in w).tail (anchor_in w).tail_place (stable w.log) group c → GivesList w front c
    either_gives c (inl without) = stable_gives w front c without
    either_gives c (inr with) = more_gives c with

  -- ---- where the log device is the same, and the list has grown at most

  -- the list has grown at most, and what was durable stays so
  pub record ListGrows (old new : World L V G H) : Type 0 where
    pub more : List LogRecord
    pub list : list_in new ≡ list_in old ++ more
    pub durable : durable_in new ≡ durable_in old
    pub running : failed_in new ≡ false → failed_in old ≡ false

  -- .. and not at all
  pub none_more : (old new : World L V G H) → list_in new ≡ list_in old → durable_in new ≡ durable_in old → (failed_in new ≡ false → failed_in old ≡ false) → ListGrows old new
  none_more old new list durable running = record { more = []; list = list ∙ sym (append-nil (list_in old)); durable = durable; running = running }

  left_grown : (old new : World L V G H) → new.log ≡ old.log → new.stage ≡ old.stage → ListGrows old new → (front c : List ℕ) → IsLeftOfLog old front c → IsLeftOfLog new front c
  left_grown old new log stage g front c (inl gives) = inl (
      subst (λ (l : LogDev L G). (n : ℕ) × (length (stable l) ≤ n) × (n ≤ length (list_in new)) × GivesBehindFrom front (anchor_of l).tail (anchor_of l).tail_place (take n (list_in new)) c) (sym log) (
        gives.0,
        gives.1,
        omega (arith, gives.2, ap length g.list, length-append (list_in old) g.more),
        subst (λ (l : List LogRecord). GivesOf old front l c) (sym (ap (take gives.0) g.list ∙ take-append-le gives.0 (list_in old) g.more gives.2)) gives.3,
      ))
  left_grown old new log stage g front c (inr amid) = inr (
    amid.0,
    record {
      named = amid.1.named;
      at = stage ∙ amid.1.at;
      durable = subst (λ n. amid.1.named.number ≤ n) (sym g.durable) amid.1.durable;
      anchor = amid.1.anchor ∙ ap (λ (l : LogDev L G). next_anchor l amid.1.named.mark.checkpoint amid.1.named.mark.tail) (sym log);
    },
    subst (λ (l : LogDev L G). IsLeftByMove l.anchors amid.0 front (stable l) c) (sym log) amid.2,
  )

  pub grown_kept : (old new : World L V G H) → new.log ≡ old.log → new.stage ≡ old.stage → ListGrows old new → (front : List ℕ) → SurvivesCrashes old front → SurvivesCrashes new front
  grown_kept old new log stage g front k = record {
    images = λ c left. left_grown old new log stage g front c (k.images c (subst (λ (l : LogDev L G). may_leave (G.history l.device) c) log left));
    anchored = subst (λ (l : LogDev L G). IsAnchored l front) (sym log) k.anchored;
    ready = λ running. ready_same old.log new.log log front (k.ready (g.running running));
  }

  -- .. or not at all
  pub kept_as_before : (old new : World L V G H) → new.log ≡ old.log → new.stage ≡ old.stage → list_in new ≡ list_in old → durable_in new ≡ durable_in old
      → (failed_in new ≡ false → failed_in old ≡ false) → (front : List ℕ) → SurvivesCrashes old front → SurvivesCrashes new front
  kept_as_before old new log stage list durable running = grown_kept old new log stage (none_more old new list durable running)

  -- ---- what an event does to the log device

  -- it is kept as it was, and so at each moment on the way
  pub record LogMoves (old new : World L V G H) : Type 0 where
    pub kept : (front : List ℕ) → SurvivesCrashes old front → SurvivesCrashes new front
    pub any_moment : (front : List ℕ) → SurvivesCrashes old front → LeavesOnly (history_in old) (history_in new) (IsLeftOfLog old front)

  pub unmoved : (old new : World L V G H) → new.log ≡ old.log → new.stage ≡ old.stage → ListGrows old new → LogMoves old new
  unmoved old new log stage grows =
      record { kept = grown_kept old new log stage grows; any_moment = log_still old new (ap (λ (l : LogDev L G). G.history l.device) log) }

  -- the same list, of which as much is forced, read from the same place
  pub gives_before : (old new : World L V G H) (front c : List ℕ) → list_in new ≡ list_in old → stable new.log ≡ stable old.log → anchors_in new ≡ anchors_in old
      → GivesList old front c → GivesList new front c
  gives_before old new front c list stays anchors gives =
      subst (λ (a : Anchors). (n : ℕ) × (forced_in new ≤ n) × (n ≤ length (list_in new)) × GivesBehindFrom front a.anchor.tail a.anchor.tail_place (take n (list_in new)) c) (sym anchors) (
        gives.0,
        omega (arith, gives.1, ap length stays),
        omega (arith, gives.2, ap length list),
        subst (λ (l : List LogRecord). GivesOf old front (take gives.0 l) c) (sym list) gives.3,
      )

  -- a world that has not failed, with no frame under way, is settled
  pub ready_settled : (w : World L V G H) (front : List ℕ) → w.log.staged ≡ None → IsReadyLog w.log front → IsSettledFrom (anchor_in w).tail (anchor_in w).tail_place w.log front
  ready_settled w front none (inl s) = s.0
  ready_settled w front none (inr s) = absurd (let clash = s.1.waits in cc)

  -- records were handed over, while no frame was under way, and nothing else was done
  pub handed : (old new : World L V G H) → failed_in old ≡ false → new.log.device ≡ old.log.device → list_in new ≡ list_in old → stable new.log ≡ stable old.log
      → anchors_in new ≡ anchors_in old → old.log.staged ≡ None → new.log.staged ≡ old.log.staged
      → ((tail place : ℕ) (front : List ℕ) → IsSettledFrom tail place old.log front → IsSettledFrom tail place new.log front) → LogMoves old new
  handed old new running device list stays anchors none waits settled = record {
    kept = λ front k. record {
      images = λ c left. inl (gives_before old new front c list stays anchors (running_gives old front k running c (subst (λ (d : L). may_leave (G.history d) c) device left)));
      anchored = anchored_same old.log new.log anchors front k.anchored;
      ready = λ run. inl (
        subst (λ (a : Anchors). IsSettledFrom a.anchor.tail a.anchor.tail_place new.log front) (sym anchors)
            (settled (anchor_in old).tail (anchor_in old).tail_place front (ready_settled old front none (k.ready running))),
        waits ∙ none,
      );
    };
    any_moment = log_still old new (ap G.history device);
  }

  -- ---- a frame is staged, or it fails as it is

  pub staging : (old new : World L V G H) (mid : LogDev L G)
      → failed_in old ≡ false → old.log.staged ≡ None → mid.device ≡ old.log.device → mid.staged ≡ old.log.staged → stable mid ≡ stable old.log
      → list_in new ≡ list_in old → stable new.log ≡ stable old.log → anchors_in new ≡ anchors_in old
      → ((tail place : ℕ) (front : List ℕ) → IsSettledFrom tail place old.log front → IsSettledFrom tail place mid front)
      → ((tail place : ℕ) (front : List ℕ) → IsSettledFrom tail place mid front → mid.staged ≡ None → LeavesOnly (G.history mid.device) (history_in new) (GivesBehindFrom front tail place (stable mid)))
      → ((front : List ℕ) → IsSettledFrom (anchor_in old).tail (anchor_in old).tail_place mid front → failed_in new ≡ false → IsReadyLog new.log front) → LogMoves old new
  staging old new mid running none device waits same list stays anchors settled moments ready =
      let mid_settled : (front : List ℕ) → SurvivesCrashes old front → IsSettledFrom (anchor_in old).tail (anchor_in old).tail_place mid front =
      λ front k. settled (anchor_in old).tail (anchor_in old).tail_place front (ready_settled old front none (k.ready running)) in
      let leaves : (front : List ℕ) → SurvivesCrashes old front → LeavesOnly (history_in old) (history_in new) (GivesList old front) =
      λ front k. subst (λ (d : L). LeavesOnly (G.history d) (history_in new) (GivesList old front)) device
      (widened (G.history mid.device) (history_in new) (GivesBehindFrom front (anchor_in old).tail (anchor_in old).tail_place (stable mid)) (GivesList old front)
      (moments (anchor_in old).tail (anchor_in old).tail_place front (mid_settled front k) (waits ∙ none))
      (λ c gives. stable_gives old front c (subst (λ (l : List LogRecord). GivesOf old front l c) same gives))) in
      record {
        kept = λ front k. record {
          images = λ c left. inl (gives_before old new front c list stays anchors (at_end (history_in old) (history_in new) (GivesList old front) (leaves front k) c left));
          anchored = anchored_same old.log new.log anchors front k.anchored;
          ready = λ run. ready front (mid_settled front k) run;
        };
        any_moment = λ front k. widened (history_in old) (history_in new) (GivesList old front) (IsLeftOfLog old front) (leaves front k) (λ c gives. inl gives);
      }

  -- ---- its gate is opened, or it fails

  -- a world on a settled log
  pub settled_kept : (w : World L V G H) (front : List ℕ) → IsAnchored w.log front → IsSettledFrom (anchor_in w).tail (anchor_in w).tail_place w.log front → w.log.staged ≡ None → SurvivesCrashes w front
  settled_kept w front anchored settled none = record {
    images = λ c left. inl (stable_gives w front c (settled_gives w.log front settled c left));
    anchored = anchored;
    ready = λ running. inl (settled, none);
  }

  pub opening_gate : (old new : World L V G H)
      → failed_in old ≡ false → old.log.staged ≢ None → list_in new ≡ list_in old → anchors_in new ≡ anchors_in old
      → ((tail place : ℕ) (front : List ℕ) (group : List LogRecord) → IsStagedFrom tail place old.log front group
      → LeavesOnly (history_in old) (history_in new) (GivesWithOrWithoutFrom front tail place (stable old.log) group))
      → ((tail place : ℕ) (front : List ℕ) (group : List LogRecord) → IsStagedFrom tail place old.log front group
      → ((stable new.log ≡ stable old.log) × (failed_in new ≡ false → ⊥)) ⊎ (IsSettledFrom tail place new.log front × (new.log.staged ≡ None)))
      → LogMoves old new
  opening_gate old new running some list anchors moments after =
      let t = (anchor_in old).tail in
      let p = (anchor_in old).tail_place in
      let staged_now : (front : List ℕ) → SurvivesCrashes old front → (group : List LogRecord) × IsStagedFrom t p old.log front group = λ front k. elim (k.ready running) [
        | inl s ↦ absurd (some s.1)
        | inr s ↦ s
      ] in
      let leaves : (front : List ℕ) → SurvivesCrashes old front → LeavesOnly (history_in old) (history_in new) (GivesList old front) =
      λ front k. let s = staged_now front k in
      widened (history_in old) (history_in new) (GivesWithOrWithoutFrom front t p (stable old.log) s.0) (GivesList old front) (moments t p front s.0 s.1)
      (either_gives old front s.0 s.1) in
      record {
        kept = λ front k. let s = staged_now front k in elim (after t p front s.0 s.1) [
          | inl failed ↦ record {
            images = λ c left. inl (gives_before old new front c list failed.0 anchors (at_end (history_in old) (history_in new) (GivesList old front) (leaves front k) c left));
            anchored = anchored_same old.log new.log anchors front k.anchored;
            ready = λ run. absurd (failed.1 run);
          }
          | inr settled ↦ settled_kept new front (anchored_same old.log new.log anchors front k.anchored)
              (subst (λ (a : Anchors). IsSettledFrom a.anchor.tail a.anchor.tail_place new.log front) (sym anchors) settled.0) settled.1
        ];
        any_moment = λ front k. widened (history_in old) (history_in new) (GivesList old front) (IsLeftOfLog old front) (leaves front k) (λ c gives. inl gives);
      }

  -- ---- an event for which the volume stands still

  -- what no step of a force changes
  pub record SameCheckpoint (old new : World L V G H) : Type 0 where
    pub stage : new.stage ≡ old.stage
    pub anchors : anchors_in new ≡ anchors_in old

  -- the states and stores that it comes to, over the same texts
  pub record ComesOver (old : World L V G H) (e : Event) (step : Step) (new : World L V G H) (front : List ℕ) (disk : ℕ → List ℕ) (s : State) (store : CheckpointedStore) : Type 0 where
    pub later : State
    pub moves : EventStep (geometry_in old) s e step later
    pub is_in : IsInState new front disk later
    pub told : IsOverStore new disk later store ⊎ ((n : ℕ) × (store.store.durable ≤ n) × (n ≤ length store.store.log) × IsOverStore new disk later (force_to store n))

  pub still_moves : (old new : World L V G H) (e : Event) (step : Step) → (IsOfCheckpoint e → ⊥) → (e ≡ FlushStep → ⊥) → geometry_in new ≡ geometry_in old → volume_history_in new ≡ volume_history_in old
      → SameCheckpoint old new → ((front : List ℕ) → SurvivesCrashes old front → LeavesOnly (history_in old) (history_in new) (IsLeftOfLog old front))
      → ((s later : State) → IsBesideOf old s → IsBesideOf new later → EventStep (geometry_in old) s e step later → (front : List ℕ) → SurvivesCrashes old front → SurvivesCrashes new front)
      → ((front : List ℕ) (disk : ℕ → List ℕ) (s : State) (store : CheckpointedStore) → IsInState old front disk s → IsOverStore old disk s store → IsSafe (geometry_in old) s
      → ComesOver old e step new front disk s store) → EventMovesWorld old e step new
  still_moves old new e step beside other geometry volume same log kept comes = record {
    geometry = geometry;
    state = λ log_front front disk s store at safe may.
        let to = comes front disk s store at.is_in at.over safe in
        let after : SurvivesCrashes new log_front = kept s to.later at.is_in.beside to.is_in.beside to.moves log_front at.log in
        inl (record {
          beside = beside;
          later = to.later;
          moves = to.moves;
          comes = elim to.told [
            | inl over ↦ comes_unworked old new volume geometry same.stage same.anchors log_front front disk s store at to.later to.is_in over after
            | inr forced ↦ comes_forced old new volume geometry same.stage same.anchors log_front front disk s store at to.later forced.0 forced.1 forced.2 to.is_in forced.3 after
          ];
          flushes = λ is. absurd (other is);
        });
    any_moment = record { log = log; volume = volume_still old new volume; one = inr volume };
  }

  -- a step of a force
  pub force_moves : (old new : World L V G H) (e : Event) (step : Step) → (IsOfCheckpoint e → ⊥) → (e ≡ FlushStep → ⊥) → geometry_in new ≡ geometry_in old → volume_history_in new ≡ volume_history_in old
      → SameCheckpoint old new → LogMoves old new
      → ((front : List ℕ) (disk : ℕ → List ℕ) (s : State) (store : CheckpointedStore) → IsInState old front disk s → IsOverStore old disk s store → IsSafe (geometry_in old) s
      → ComesOver old e step new front disk s store) → EventMovesWorld old e step new
  force_moves old new e step beside other geometry volume same log comes =
      still_moves old new e step beside other geometry volume same log.any_moment (λ s later is now moves. log.kept) comes

  -- an event that leaves the world as it is
  pub nothing_done : (w : World L V G H) (e : Event) (step : Step) → (IsOfCheckpoint e → ⊥) → (e ≡ FlushStep → ⊥) → ((s : State) → IsBesideOf w s → EventStep (geometry_in w) s e step s) → EventMovesWorld w e step w
  nothing_done w e step beside other moves =
      force_moves w w e step beside other refl refl (record { stage = refl; anchors = refl }) (record { kept = λ front k. k; any_moment = log_still w w refl })
      (λ front disk s store is over safe. record { later = s; moves = moves s is.beside; is_in = is; told = inl over })

  -- what is staged is the longest list of what is not durable
  pub has_staged : (old new : World L V G H) (mid : LogDev L G) (n number : ℕ) → old.log.staged ≡ None → number ≡ n → forced_in old ≡ mid.forced → (records_of_log mid) ≡ list_in old → (count : ℕ)
      → count ≡ n - durable_in old
      → IsLongest (waiting mid) count → IsSomeAnd new.log.staged (λ frame. frame.count ≡ count)
      → ((front : List ℕ) → SurvivesCrashes old front → IsStagedFrom (anchor_in old).tail (anchor_in old).tail_place new.log front (take count (waiting mid))) → HasStaged old new n
  has_staged old new mid n number none same forced list count is longest under_way staged =
      let rest : waiting mid ≡ unforced_in old = ap (λ k. drop k (records_of_log mid)) (sym forced) ∙ ap (drop (forced_in old)) list in
      record {
        none_before = none;
        longest = subst (λ k. IsLongest (unforced_in old) k) is (subst (λ (l : List LogRecord). IsLongest l count) rest longest);
        under_way = subst (λ k. IsSomeAnd new.log.staged (λ frame. frame.count ≡ k)) is under_way;
        on_device = λ front k. subst (λ j. IsStagedFrom (anchor_in old).tail (anchor_in old).tail_place new.log front (take j (unforced_in old))) is
            (subst (λ (l : List LogRecord). IsStagedFrom (anchor_in old).tail (anchor_in old).tail_place new.log front (take count l)) rest (staged front k));
      }
