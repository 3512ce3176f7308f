-- The steps of a checkpoint keep a store in order.
use Rattle.std.proofs.Common.{◌≡◌, inr, ⊎_elim, ◌<◌, ◌≤◌, ◌+◌, ◌-◌, ℕ, List, [], ◌∷◌, ◌++◌, None, All, refl, sym, ap, subst, ◌∙◌, length, take, take_all, arith}
use Rattle.std.specs.Prelude.{slice_get, IsSomeAnd}
use Rattle.std.specs.List.{AllByRecursion}
use Rattle.std.proofs.lemmas.List.{length-append, take-append-le}
use Rattle.std.proofs.lemmas.List.Elements.{recursion_from_All}
use Rattle.shore_types.specs.declared.ids.PageId.{PageId}
use Rattle.shore_model.specs.declared.log_records.DirtyPage.{DirtyPage}
use Rattle.shore_model.specs.declared.log_records.LogRecord.{LogRecord}
use Rattle.shore_model.specs.declared.log_records.LogTxn.{LogTxn}
use Rattle.shore_model.specs.declared.log_records.Payload.TheVariants.{CheckpointBegin, Anchor}
use Rattle.shore_model.specs.Logs.{IsEntry, IsTable, MayFollow, before_begin}
use Rattle.laws_lives.specs.DirtyPages.{HasAllUpTo, surely_on_page}
use Rattle.laws_lives.proofs.Invariant.{from_the_first}
use Rattle.laws_lives.proofs.Redo.{slice_get_last}
use Rattle.laws_checkpoints.specs.Checkpoints.{Checkpoint, cut_of, cut_point, end_among, end_payload, least_first, least_recovery, of_checkpoint, or_next_end}
use Rattle.laws_checkpoints.specs.CheckpointedStores.{AnchorLogged, AreTablesNow, BeginLogged, CheckpointedStore, EndLogged, NoCheckpoint, begun_now}
use Rattle.laws_checkpoints.specs.KeptLogs.{MayBeCut}
use Rattle.laws_checkpoints.specs.RecoveryNumbers.{ListsChanges}
use Rattle.laws_checkpoints.specs.StoresInOrder.{IsEndedBy, IsInOrder, IsPendingCheckpoint}
use Rattle.laws_checkpoints.proofs.Begins.{ListsWhatChanged, nobody_over}
use Rattle.laws_checkpoints.proofs.Cuts.{cut_by_table, first_behind, least_first_most, point_at_begin}
use Rattle.laws_checkpoints.proofs.Ends.{end_among-append, end_itself, end_longer, end_more, end_whole, none_yet}
use Rattle.laws_checkpoints.proofs.Kept.{none_cut_off}
use Rattle.laws_checkpoints.proofs.Lists.{length_take_le}
use Rattle.laws_checkpoints.proofs.PageTables.{all_less, covers_right, right_longer, sure_below}
use Rattle.laws_checkpoints.proofs.RecoveryNumbers.{least_no_lower, lists_longer, lists_now, recovery_listed, right_now}
use Rattle.laws_checkpoints.proofs.StoreEvents.{anchored_durable, appended, order_appended, pending_appended, pending_at}

module _ (s : CheckpointedStore) (k : IsInOrder s) where
  pub tail_some : 0 < s.anchored.tail
  tail_some = ⊎_elim (λ none. let one = ap (λ a. a.tail) none in omega arith) (λ at. at.1.first) k.anchor

  -- nothing before the cut is missing, and nobody of there is still to end
  pub cut_now : MayBeCut s.store.log s.store.volume (cut_of s.anchored)
  cut_now = ⊎_elim
      (λ none. let nothing : 0 ≡ cut_of s.anchored = ap cut_of (sym none) in subst (MayBeCut s.store.log s.store.volume) nothing (record {
        within = omega arith;
        on_pages = from_the_first s.store.log s.store.volume k.recoverable.volume;
        ended = λ t one some. cc;
      }))
      (λ at.
      let h = at.1 in
      let tail = h.tail in
      let first = h.first in
      let begun = anchored_durable s.store.log k.lawful s.store.durable s.store.volume s.store.in_place s.anchored at.0 h in
      let durable = k.recoverable.durable in
      let short = length_take_le s.store.durable s.store.log in
      cut_by_table s.store.log k.lawful s.anchored.checkpoint at.0 (end_whole s.anchored.checkpoint s.store.log s.store.durable at.0 h.found) s.store.volume
      (covers_right s.store.log at.0.begin at.0.dirty s.store.volume h.on_volume (omega arith) k.recoverable.volume) (cut_of s.anchored) (omega arith))
      k.anchor

  module _ (next : ℕ) (txns : List LogTxn) (dirty : List DirtyPage) (all_done : s.store.redone ≡ length s.store.log) (tables : AreTablesNow s next txns dirty) where
    abbrev pub fresh : Checkpoint
    fresh = begun_now s.store next txns dirty

    abbrev pub begin_record : LogRecord
    begin_record = of_checkpoint CheckpointBegin

    pub begin_follows : MayFollow s.store.log begin_record
    begin_follows = record { of = refl; previous = refl; not_over = nobody_over s.store.log k.lawful; says = tt }

    firsts : (n : ℕ) (es : List LogTxn) → s.anchored.tail ≤ n → AllByRecursion (IsEntry s.store.log) es → s.anchored.tail ≤ least_first n es
    firsts n [] le each = le
    firsts n (e ∷ es) le each =
        let rest = firsts n es le each.1 in
        let entry = each.0 in
        let may = cut_now in
        let none = none_cut_off s.store.log s.store.volume (cut_of s.anchored) may e.txn entry.0.is_one entry.0.not_over in
        let behind = first_behind e.txn s.store.log (cut_of s.anchored) may.within none entry.0.known in
        let first = entry.1.first in
        omega arith

    pub tail_no_lower : s.anchored.tail ≤ cut_point fresh
    tail_no_lower =
        let within = cut_now.within in
        let some = tail_some in
        firsts (least_recovery fresh.begin dirty) txns
        (least_no_lower s.recovery 0 s.anchored.tail fresh.begin dirty (omega arith) k.recoveries.kept tables.dirty_now.each)
        (recursion_from_All (IsEntry s.store.log) txns tables.txns_now.each)

    abbrev pub begun : CheckpointedStore
    begun = appended s k begin_record all_done begin_follows

    pending_begun : IsPendingCheckpoint begun fresh
    pending_begun =
        let at : length s.store.log + 1 - 1 ≡ length s.store.log = omega arith in
        let front : before_begin begun.store.log fresh.begin ≡ s.store.log =
        ap (λ n. take n (s.store.log ++ begin_record ∷ [])) at ∙ take-append-le (length s.store.log) s.store.log (begin_record ∷ []) (omega arith) ∙ take_all (length s.store.log) s.store.log (omega arith) in
        let most = least_first_most (least_recovery fresh.begin dirty) txns in
        let place : (p : PageId) → HasAllUpTo s.store.log p (s.store.in_place p) (fresh.begin - 1) =
        λ p. subst (HasAllUpTo s.store.log p (s.store.in_place p)) (all_done ∙ sym at) (k.has_redone p) in
        record {
          as_at_begin = record {
            begins = (omega arith, subst (λ o. IsSomeAnd o (λ r. r.payload ≡ CheckpointBegin)) (sym (ap (slice_get (s.store.log ++ begin_record ∷ [])) at ∙ slice_get_last s.store.log begin_record)) refl);
            table = subst (λ xs. IsTable xs txns) (sym front) tables.txns_now;
            above = subst (All (λ r. r.txn < next)) (sym front) tables.above;
          };
          on_volume = right_longer s.store.log fresh.begin dirty s.store.volume
              (right_now s.recovery fresh.begin s.store.log s.store.volume s.store.in_place dirty tables.dirty_now k.recoveries.clean k.recoveries.dirty place)
              (omega arith) (begin_record ∷ []);
          now = right_longer s.store.log fresh.begin dirty s.store.in_place
              (λ p. all_less s.store.log p (s.store.in_place p) (fresh.begin - 1) (place p) (surely_on_page fresh.begin dirty p) (sure_below fresh.begin dirty p))
              (omega arith) (begin_record ∷ []);
          lists = lists_longer s.store.log (begin_record ∷ []) fresh.begin dirty (lists_now s.recovery fresh.begin s.store.log dirty refl k.recoveries.changed tables.dirty_now.each);
          recoveries = λ p some.
              let least = recovery_listed s.recovery 0 fresh.begin p dirty tables.dirty_now.each (tables.dirty_now.every p some) in
              omega arith;
          no_lower = tail_no_lower;
          redone_past = omega arith;
        }

    no_end_begun : ListsWhatChanged s.store.log begin_record
    no_end_begun b n ts ds says = cc

    pub order_begun : IsInOrder (record begun { stage = BeginLogged fresh })
    order_begun = order_appended s k begin_record all_done begin_follows no_end_begun (BeginLogged fresh) (
      pending_at begun (BeginLogged fresh) fresh pending_begun,
      end_among-append fresh.begin s.store.log (begin_record ∷ [])
          ∙ ap (λ o. or_next_end o (end_among fresh.begin (begin_record ∷ []))) (none_yet s.store.log k.lawful fresh.begin (omega arith)),
    )

  -- its End
  module _ (c : Checkpoint) (all_done : s.store.redone ≡ length s.store.log) (right : IsPendingCheckpoint s c × (end_among c.begin s.store.log ≡ None)) where
    abbrev pub end_record : LogRecord
    end_record = of_checkpoint (end_payload c)

    pub end_follows : MayFollow s.store.log end_record
    end_follows = record { of = refl; previous = refl; not_over = nobody_over s.store.log k.lawful; says = right.0.as_at_begin }

    end_lists : ListsWhatChanged s.store.log end_record
    end_lists b n ts ds says =
        let same_begin : c.begin ≡ b = cc in
        let same_pages : c.dirty ≡ ds = cc in
        subst (λ m. ListsChanges s.store.log m ds) same_begin (subst (ListsChanges s.store.log c.begin) same_pages right.0.lists)

    pub order_ended : IsInOrder (record (appended s k end_record all_done end_follows) { stage = EndLogged c (length s.store.log + 1) })
    order_ended =
        let long = length-append s.store.log (end_record ∷ []) in
        order_appended s k end_record all_done end_follows end_lists (EndLogged c (length s.store.log + 1)) (
          pending_at (appended s k end_record all_done end_follows) (EndLogged c (length s.store.log + 1)) c (pending_appended s k end_record all_done end_follows c right.0),
          (
            omega arith,
            ap (end_among c.begin) (take_all (length s.store.log + 1) (s.store.log ++ end_record ∷ []) (omega arith))
                ∙ end_among-append c.begin s.store.log (end_record ∷ []) ∙ ap (λ o. or_next_end o (end_among c.begin (end_record ∷ []))) right.1
                ∙ ap (λ o. or_next_end o None) (end_itself c),
          ),
        )

  -- its Anchor record
  module _ (c : Checkpoint) (n : ℕ) (all_done : s.store.redone ≡ length s.store.log) (right : IsPendingCheckpoint s c × IsEndedBy s c n) where
    abbrev pub anchor_record : LogRecord
    anchor_record = of_checkpoint (Anchor c.begin (cut_point c))

    pub anchor_follows : MayFollow s.store.log anchor_record
    anchor_follows = record { of = refl; previous = refl; not_over = nobody_over s.store.log k.lawful; says = tt }

    no_end_named : ListsWhatChanged s.store.log anchor_record
    no_end_named b m ts ds says = cc

    pub order_named : IsInOrder (record (appended s k anchor_record all_done anchor_follows) { stage = AnchorLogged c (length s.store.log + 1) })
    order_named =
        let long = length-append s.store.log (anchor_record ∷ []) in
        order_appended s k anchor_record all_done anchor_follows no_end_named (AnchorLogged c (length s.store.log + 1)) (
          pending_at (appended s k anchor_record all_done anchor_follows) (AnchorLogged c (length s.store.log + 1)) c (pending_appended s k anchor_record all_done anchor_follows c right.0),
          (
            omega arith,
            ap (end_among c.begin) (take_all (length s.store.log + 1) (s.store.log ++ anchor_record ∷ []) (omega arith))
                ∙ end_longer c.begin s.store.log (anchor_record ∷ []) c (end_whole c.begin s.store.log n c right.1.1),
          ),
        )

  -- the move of the anchor
  module _ (c : Checkpoint) (n tail : ℕ) (right : IsPendingCheckpoint s c × IsEndedBy s c n) (durable : n ≤ s.store.durable) (up : s.anchored.tail ≤ tail) (most : tail ≤ cut_point c) where
    abbrev pub moved : CheckpointedStore
    moved = record s { stage = NoCheckpoint; anchored = record { checkpoint = c.begin; tail = tail } }

    pub order_moved : IsInOrder moved
    order_moved =
        let some = tail_some in
        let at = point_at_begin c in
        let past = right.0.redone_past in
        record {
          recoverable = k.recoverable;
          lawful = k.lawful;
          has_redone = k.has_redone;
          recoveries = record {
            clean = k.recoveries.clean;
            dirty = k.recoveries.dirty;
            changed = k.recoveries.changed;
            kept = λ p some. let h = right.0.recoveries p some in omega arith;
          };
          ends = k.ends;
          anchor = inr (
            c,
            record {
              some = right.0.as_at_begin.begins.0;
              is_its = refl;
              found = end_more c.begin s.store.log n s.store.durable c durable right.1.1;
              on_volume = right.0.on_volume;
              now = right.0.now;
              first = omega arith;
              tail = most;
            },
          );
          stage_right = tt;
          redone = omega arith;
        }
