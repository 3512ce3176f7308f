-- What a store does besides checkpoints keeps it in order: a record appended, redo, a force, a flush.
use Rattle.std.proofs.Common.{◌≡◌, ◌⊎◌, inl, inr, ⊎_elim, ◌<◌, ◌≤◌, ◌+◌, ◌-◌, ℕ, List, [], ◌∷◌, ◌++◌, true, false, cond, Some, None, refl, sym, ap, ◌∙◌, length, take, arith}
use Rattle.std.specs.Prelude.{slice_get}
use Rattle.std.specs.Ordering.{eq_by_cmp}
use Rattle.std.proofs.lemmas.List.{length-append, take-append-le}
use Rattle.shore_types.specs.Ids.{page_cmp}
use Rattle.shore_types.specs.declared.ids.PageId.{PageId}
use Rattle.shore_model.specs.declared.log_records.LogRecord.{LogRecord}
use Rattle.shore_model.specs.Logs.{Lawful, MayFollow, image_in, is_of_checkpoint}
use Rattle.laws_lives.specs.DirtyPages.{HasAllUpTo}
use Rattle.laws_lives.specs.Pages.{LoggedPages}
use Rattle.laws_lives.specs.Recovery.{AppendRecord, FlushPage, ForceLog, IsRecoverable, after_append, after_flush, after_force, after_redo}
use Rattle.laws_lives.proofs.Invariant.{equal_pages, event_kept}
use Rattle.laws_lives.proofs.Redo.{slice_get_last}
use Rattle.laws_lives.proofs.UndoRecords.{lawful_front, lawful_next}
use Rattle.laws_checkpoints.specs.Checkpoints.{Anchored, Checkpoint, IsAnchoredAt, IsAnchoredRight, cut_of, cut_point, end_among, or_next_end}
use Rattle.laws_checkpoints.specs.CheckpointedStores.{AnchorLogged, BeginLogged, CheckpointedStore, CheckpointStage, EndLogged, NoCheckpoint}
use Rattle.laws_checkpoints.specs.RecoveryNumbers.{ChangesPage, noted_on, recovery_after}
use Rattle.laws_checkpoints.specs.StoresInOrder.{AreRecoveryNumbers, IsEndedBy, IsInOrder, IsPendingCheckpoint, IsStageRight}
use Rattle.laws_checkpoints.proofs.Begins.{ListsWhatChanged, as_at_longer, beside_checkpoints, ends_push}
use Rattle.laws_checkpoints.proofs.Cuts.{point_at_begin}
use Rattle.laws_checkpoints.proofs.Ends.{end_among-append, end_more, end_stands, none_besides}
use Rattle.laws_checkpoints.proofs.Lists.{length_take_le}
use Rattle.laws_checkpoints.proofs.PageTables.{all_longer, all_redone, right_either, right_longer, right_redone}
use Rattle.laws_checkpoints.proofs.RecoveryNumbers.{IsNoted, change_within, changed_noted, changes_longer, clean_noted, dirty_noted, is_noted, lists_longer, no_lower_noted}

-- the anchored checkpoint's begin is durable
pub anchored_durable : (log : List LogRecord) → Lawful log → (durable : ℕ) (V P : LoggedPages) (a : Anchored) (c : Checkpoint) → IsAnchoredAt log durable V P a c → c.begin - 1 < length (take durable log)
anchored_durable log lawful durable V P a c h =
    let stands = end_stands (take durable log) (lawful_front log durable lawful) a.checkpoint c h.found in
    let behind = stands.behind in
    let within = stands.within in
    omega arith

-- ---- a longer log

module _ (s : CheckpointedStore) (k : IsInOrder s) (more : List LogRecord) where
  abbrev pub with_more : CheckpointedStore
  with_more = record s { store = record s.store { log = s.store.log ++ more } }

  pub anchor_longer : IsAnchoredRight (s.store.log ++ more) s.store.durable s.store.volume s.store.in_place s.anchored
  anchor_longer = ⊎_elim
      (λ none. inl none)
      (λ at.
      let h = at.1 in
      let within = k.recoverable.durable in
      let begun = anchored_durable s.store.log k.lawful s.store.durable s.store.volume s.store.in_place s.anchored at.0 h in
      let short = length_take_le s.store.durable s.store.log in
      inr (
        at.0,
        record {
          some = h.some;
          is_its = h.is_its;
          found = ap (end_among s.anchored.checkpoint) (take-append-le s.store.durable s.store.log more within) ∙ h.found;
          on_volume = right_longer s.store.log at.0.begin at.0.dirty s.store.volume h.on_volume (omega arith) more;
          now = right_longer s.store.log at.0.begin at.0.dirty s.store.in_place h.now (omega arith) more;
          first = h.first;
          tail = h.tail;
        },
      ))
      k.anchor

  pub pending_longer : (c : Checkpoint) → IsPendingCheckpoint s c → IsPendingCheckpoint with_more c
  pending_longer c h =
      let past = h.redone_past in
      let within = k.recoverable.redone in
      record {
        as_at_begin = as_at_longer s.store.log more c.begin c.next c.txns h.as_at_begin;
        on_volume = right_longer s.store.log c.begin c.dirty s.store.volume h.on_volume (omega arith) more;
        now = right_longer s.store.log c.begin c.dirty s.store.in_place h.now (omega arith) more;
        lists = lists_longer s.store.log more c.begin c.dirty h.lists;
        recoveries = h.recoveries;
        no_lower = h.no_lower;
        redone_past = h.redone_past;
      }

  pub recoveries_longer : AreRecoveryNumbers with_more
  recoveries_longer = record {
    clean = k.recoveries.clean;
    dirty = λ p some.
        let within = change_within s.store.log (s.recovery p) p (k.recoveries.changed p some) in
        all_longer s.store.log p (s.store.volume p) (s.recovery p - 1) (k.recoveries.dirty p some) (omega arith) more;
    changed = λ p some. changes_longer s.store.log more (s.recovery p) p (k.recoveries.changed p some);
    kept = k.recoveries.kept;
  }

  pub redone_longer : (p : PageId) → HasAllUpTo (s.store.log ++ more) p (s.store.in_place p) s.store.redone
  redone_longer p = all_longer s.store.log p (s.store.in_place p) s.store.redone (k.has_redone p) k.recoverable.redone more

-- ---- redo of the next record

-- what it keeps of a store, of which only this has to hold
module _ (s : CheckpointedStore) (has_redone : (p : PageId) → HasAllUpTo s.store.log p (s.store.in_place p) s.store.redone) (r : LogRecord) (at : slice_get s.store.log s.store.redone ≡ Some r) where
  abbrev pub redone : CheckpointedStore
  redone = record s { store = after_redo s.store r; recovery = λ p. noted_on (s.store.redone + 1) (image_in r.payload) p (s.store.in_place p) (s.recovery p) }

  noted : (p : PageId) → IsNoted (s.store.redone + 1) (image_in r.payload) p (s.store.in_place p) (redone.store.in_place p) (s.recovery p) (redone.recovery p)
  noted p = is_noted (s.store.redone + 1) (omega arith) (image_in r.payload) p (s.store.in_place p) (s.recovery p)

  pub has_redone_next : (p : PageId) → HasAllUpTo s.store.log p (redone.store.in_place p) (s.store.redone + 1)
  has_redone_next p = all_redone s.store.log p s.store.redone r at (s.store.in_place p) (has_redone p)

  pub recoveries_redone : AreRecoveryNumbers s → cut_of s.anchored ≤ s.store.redone → AreRecoveryNumbers redone
  recoveries_redone h behind = record {
    clean = clean_noted s.store.volume s.store.in_place redone.store.in_place s.store.log s.store.redone r at s.recovery redone.recovery noted h.clean;
    dirty = dirty_noted s.store.volume s.store.in_place redone.store.in_place s.store.log s.store.redone r at s.recovery redone.recovery noted h.clean has_redone h.dirty;
    changed = changed_noted s.store.volume s.store.in_place redone.store.in_place s.store.log s.store.redone r at s.recovery redone.recovery noted h.changed;
    kept = no_lower_noted s.store.volume s.store.in_place redone.store.in_place s.store.log s.store.redone r at s.recovery redone.recovery noted s.anchored.tail (omega arith) h.kept;
  }

  pub anchor_redone : IsAnchoredRight s.store.log s.store.durable s.store.volume s.store.in_place s.anchored
      → IsAnchoredRight redone.store.log redone.store.durable redone.store.volume redone.store.in_place redone.anchored
  anchor_redone a = ⊎_elim
      (λ none. inl none)
      (λ c. let h = c.1 in inr (
        c.0,
        record {
          some = h.some;
          is_its = h.is_its;
          found = h.found;
          on_volume = h.on_volume;
          now = right_redone s.store.log c.0.begin c.0.dirty s.store.in_place h.now (s.store.redone + 1) r;
          first = h.first;
          tail = h.tail;
        },
      ))
      a

  pub pending_redone : (c : Checkpoint) → IsPendingCheckpoint s c → IsPendingCheckpoint redone c
  pending_redone c h =
      let most = point_at_begin c in
      let past = h.redone_past in
      record {
        as_at_begin = h.as_at_begin;
        on_volume = h.on_volume;
        now = right_redone s.store.log c.begin c.dirty s.store.in_place h.now (s.store.redone + 1) r;
        lists = h.lists;
        recoveries = no_lower_noted s.store.volume s.store.in_place redone.store.in_place s.store.log s.store.redone r at s.recovery redone.recovery noted (cut_point c) (omega arith) h.recoveries;
        no_lower = h.no_lower;
        redone_past = omega arith;
      }

-- ---- the same store at another stage

pub pending_at : (s : CheckpointedStore) (st : CheckpointStage) (c : Checkpoint) → IsPendingCheckpoint s c → IsPendingCheckpoint (record s { stage = st }) c
pending_at s st c h = record {
  as_at_begin = h.as_at_begin;
  on_volume = h.on_volume;
  now = h.now;
  lists = h.lists;
  recoveries = h.recoveries;
  no_lower = h.no_lower;
  redone_past = h.redone_past;
}

recoveries_at : (s : CheckpointedStore) (st : CheckpointStage) → AreRecoveryNumbers s → AreRecoveryNumbers (record s { stage = st })
recoveries_at s st h = record { clean = h.clean; dirty = h.dirty; changed = h.changed; kept = h.kept }

-- ---- a record appended

module _ (s : CheckpointedStore) (k : IsInOrder s) (r : LogRecord) (all_done : s.store.redone ≡ length s.store.log) (follows : MayFollow s.store.log r) where
  abbrev pub longer : CheckpointedStore
  longer = with_more s k (r ∷ [])

  pub here : slice_get longer.store.log longer.store.redone ≡ Some r
  here = ap (slice_get (s.store.log ++ r ∷ [])) all_done ∙ slice_get_last s.store.log r

  pub has_all : (p : PageId) → HasAllUpTo longer.store.log p (longer.store.in_place p) longer.store.redone
  has_all = redone_longer s k (r ∷ [])

  abbrev pub appended : CheckpointedStore
  appended = redone longer has_all r here

  pub pending_appended : (c : Checkpoint) → IsPendingCheckpoint s c → IsPendingCheckpoint appended c
  pending_appended c h = pending_redone longer has_all r here c (pending_longer s k (r ∷ []) c h)

  pub order_appended : ListsWhatChanged s.store.log r → (st : CheckpointStage) → IsStageRight (record appended { stage = st }) st → IsInOrder (record appended { stage = st })
  order_appended listed st right = let behind = k.redone in record {
    recoverable = event_kept s.store (AppendRecord r) (after_append s.store r) k.recoverable (all_done, refl);
    lawful = lawful_next s.store.log r k.lawful follows;
    has_redone = has_redone_next longer has_all r here;
    recoveries = recoveries_at appended st (recoveries_redone longer has_all r here (recoveries_longer s k (r ∷ [])) k.redone);
    ends = ends_push s.store.log r k.ends listed;
    anchor = anchor_redone longer has_all r here (anchor_longer s k (r ∷ []));
    stage_right = right;
    redone = omega arith;
  }

  logged : (c : Checkpoint) (n : ℕ) → IsEndedBy s c n → IsEndedBy appended c n
  logged c n h =
      let long = length-append s.store.log (r ∷ []) in
      let le = h.0 in
      (omega arith, ap (end_among c.begin) (take-append-le n s.store.log (r ∷ []) le) ∙ h.1)

  stage_appended : is_of_checkpoint r.payload ≡ false → (st : CheckpointStage) → IsStageRight s st → IsStageRight appended st
  stage_appended plain NoCheckpoint h = tt
  stage_appended plain (BeginLogged c) h = (
    pending_appended c h.0,
    end_among-append c.begin s.store.log (r ∷ []) ∙ ap (λ o. or_next_end o (end_among c.begin (r ∷ []))) h.1 ∙ ap (λ o. or_next_end o None) (none_besides c.begin r.payload plain),
  )
  stage_appended plain (EndLogged c n) h = (pending_appended c h.0, logged c n h.1)
  stage_appended plain (AnchorLogged c n) h = (pending_appended c h.0, logged c n h.1)

  pub other_appended : is_of_checkpoint r.payload ≡ false → IsInOrder appended
  other_appended plain = order_appended (beside_checkpoints s.store.log r plain) s.stage (stage_appended plain s.stage k.stage_right)

-- ---- redo, a force, a flush

module _ (s : CheckpointedStore) (k : IsInOrder s) where
  module _ (r : LogRecord) (at : slice_get s.store.log s.store.redone ≡ Some r) where
    stage_redone : (st : CheckpointStage) → IsStageRight s st → IsStageRight (redone s k.has_redone r at) st
    stage_redone NoCheckpoint h = tt
    stage_redone (BeginLogged c) h = (pending_redone s k.has_redone r at c h.0, h.1)
    stage_redone (EndLogged c n) h = (pending_redone s k.has_redone r at c h.0, h.1)
    stage_redone (AnchorLogged c n) h = (pending_redone s k.has_redone r at c h.0, h.1)

    pub order_redone : IsRecoverable (after_redo s.store r) → IsInOrder (redone s k.has_redone r at)
    order_redone sound = let behind = k.redone in record {
      recoverable = sound;
      lawful = k.lawful;
      has_redone = has_redone_next s k.has_redone r at;
      recoveries = recoveries_redone s k.has_redone r at k.recoveries k.redone;
      ends = k.ends;
      anchor = anchor_redone s k.has_redone r at k.anchor;
      stage_right = stage_redone s.stage k.stage_right;
      redone = omega arith;
    }

  module _ (n : ℕ) (more : s.store.durable ≤ n) (most : n ≤ length s.store.log) where
    abbrev forced : CheckpointedStore
    forced = record s { store = after_force s.store n }

    pending_forced : (c : Checkpoint) → IsPendingCheckpoint s c → IsPendingCheckpoint forced c
    pending_forced c h = record {
      as_at_begin = h.as_at_begin;
      on_volume = h.on_volume;
      now = h.now;
      lists = h.lists;
      recoveries = h.recoveries;
      no_lower = h.no_lower;
      redone_past = h.redone_past;
    }

    stage_forced : (st : CheckpointStage) → IsStageRight s st → IsStageRight forced st
    stage_forced NoCheckpoint h = tt
    stage_forced (BeginLogged c) h = (pending_forced c h.0, h.1)
    stage_forced (EndLogged c m) h = (pending_forced c h.0, h.1)
    stage_forced (AnchorLogged c m) h = (pending_forced c h.0, h.1)

    pub order_forced : IsInOrder forced
    order_forced = record {
      recoverable = event_kept s.store (ForceLog n) (after_force s.store n) k.recoverable (more, most, refl);
      lawful = k.lawful;
      has_redone = k.has_redone;
      recoveries = record { clean = k.recoveries.clean; dirty = k.recoveries.dirty; changed = k.recoveries.changed; kept = k.recoveries.kept };
      ends = k.ends;
      anchor = ⊎_elim
          (λ none. inl none)
          (λ at. let h = at.1 in inr (
            at.0,
            record {
              some = h.some;
              is_its = h.is_its;
              found = end_more s.anchored.checkpoint s.store.log s.store.durable n at.0 more h.found;
              on_volume = h.on_volume;
              now = h.now;
              first = h.first;
              tail = h.tail;
            },
          ))
          k.anchor;
      stage_right = stage_forced s.stage k.stage_right;
      redone = k.redone;
    }

  module _ (q : PageId) (le : (s.store.in_place q).number ≤ s.store.durable) where
    abbrev flushed : CheckpointedStore
    flushed = record s { store = after_flush s.store q; recovery = recovery_after s.store (FlushPage q) s.recovery }

    either_flushed : (p : PageId) → (flushed.store.volume p ≡ s.store.volume p) ⊎ (flushed.store.volume p ≡ s.store.in_place p)
    either_flushed p =
        elim (eq_by_cmp page_cmp p q) as (λ b. eq_by_cmp page_cmp p q ≡ b
        → (cond b (s.store.in_place q) (s.store.volume p) ≡ s.store.volume p) ⊎ (cond b (s.store.in_place q) (s.store.volume p) ≡ s.store.in_place p)) [
          | true ↦ λ e. inr (ap s.store.in_place (sym (equal_pages p q e)))
          | false ↦ λ e. inl refl
        ] refl

    -- of a page that is still dirty all is as it was
    still_dirty : (P : PageId → ℕ → Type 0) → ((p : PageId) → 0 < s.recovery p → P p (s.recovery p)) → (p : PageId) → 0 < flushed.recovery p → P p (flushed.recovery p)
    still_dirty P h p =
        elim (eq_by_cmp page_cmp p q) as (λ b. 0 < cond b 0 (s.recovery p) → P p (cond b 0 (s.recovery p))) [
          | true ↦ λ some. absurd (omega arith)
          | false ↦ λ some. h p some
        ]

    recoveries_flushed : AreRecoveryNumbers flushed
    recoveries_flushed = record {
      clean = λ p. elim (eq_by_cmp page_cmp p q) as (λ b. eq_by_cmp page_cmp p q ≡ b → cond b 0 (s.recovery p) ≡ 0 → cond b (s.store.in_place q) (s.store.volume p) ≡ s.store.in_place p) [
        | true ↦ λ e none. ap s.store.in_place (sym (equal_pages p q e))
        | false ↦ λ e none. k.recoveries.clean p none
      ] refl;
      dirty = λ p. elim (eq_by_cmp page_cmp p q) as (λ b. 0 < cond b 0 (s.recovery p) → HasAllUpTo s.store.log p (cond b (s.store.in_place q) (s.store.volume p)) (cond b 0 (s.recovery p) - 1)) [
        | true ↦ λ some. absurd (omega arith)
        | false ↦ λ some. k.recoveries.dirty p some
      ];
      changed = still_dirty (λ p n. ChangesPage s.store.log n p) k.recoveries.changed;
      kept = still_dirty (λ p n. s.anchored.tail ≤ n) k.recoveries.kept;
    }

    pending_flushed : (c : Checkpoint) → IsPendingCheckpoint s c → IsPendingCheckpoint flushed c
    pending_flushed c h = record {
      as_at_begin = h.as_at_begin;
      on_volume = right_either s.store.log c.begin c.dirty s.store.volume s.store.in_place flushed.store.volume h.on_volume h.now either_flushed;
      now = h.now;
      lists = h.lists;
      recoveries = still_dirty (λ p n. cut_point c ≤ n) h.recoveries;
      no_lower = h.no_lower;
      redone_past = h.redone_past;
    }

    stage_flushed : (st : CheckpointStage) → IsStageRight s st → IsStageRight flushed st
    stage_flushed NoCheckpoint h = tt
    stage_flushed (BeginLogged c) h = (pending_flushed c h.0, h.1)
    stage_flushed (EndLogged c m) h = (pending_flushed c h.0, h.1)
    stage_flushed (AnchorLogged c m) h = (pending_flushed c h.0, h.1)

    pub order_flushed : IsInOrder flushed
    order_flushed = record {
      recoverable = event_kept s.store (FlushPage q) (after_flush s.store q) k.recoverable (le, refl);
      lawful = k.lawful;
      has_redone = k.has_redone;
      recoveries = recoveries_flushed;
      ends = k.ends;
      anchor = ⊎_elim
          (λ none. inl none)
          (λ at. let h = at.1 in inr (
            at.0,
            record {
              some = h.some;
              is_its = h.is_its;
              found = h.found;
              on_volume = right_either s.store.log at.0.begin at.0.dirty s.store.volume s.store.in_place flushed.store.volume h.on_volume h.now either_flushed;
              now = h.now;
              first = h.first;
              tail = h.tail;
            },
          ))
          k.anchor;
      stage_right = stage_flushed s.stage k.stage_right;
      redone = k.redone;
    }
