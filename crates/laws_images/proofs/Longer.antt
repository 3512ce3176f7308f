-- Pages, and the anchor, are the same as a longer list speaks of them.
use Rattle.std.proofs.Common.{◌≡◌, inl, inr, ⊎_elim, ◌++◌, ℕ, List, sym, ap, ◌∙◌, length, take, arith}
use Rattle.std.proofs.Math.Seq.{take-length}
use Rattle.std.proofs.lemmas.List.{length-append, take-append-le}
use Rattle.shore_types.specs.declared.ids.PageId.{PageId}
use Rattle.shore_types.specs.declared.layout.Geometry.{Geometry}
use Rattle.shore_types.specs.declared.versions.Version.{Version}
use Rattle.shore_model.specs.declared.log_records.LogRecord.{LogRecord}
use Rattle.shore_model.specs.Logs.{Lawful, image_of_record}
use Rattle.shore_dwrite.specs.Volumes.{page_number}
use Rattle.laws_lives.specs.Pages.{AreAsOfOwnNumbers, LoggedPages, rid_on}
use Rattle.laws_heaps.specs.LoggedHeaps.{IsTextOf, LeavesStore}
use Rattle.laws_checkpoints.proofs.Ends.{end_longer}
use Rattle.laws_checkpoints.proofs.PageTables.{right_longer}
use Rattle.laws_checkpoints.proofs.StoreEvents.{anchored_durable}
use Rattle.laws_checkpoints.specs.Checkpoints.{Anchored, Checkpoint, IsAnchoredAt, IsAnchoredRight, TableIsRight, end_among}
use Rattle.laws_runs.specs.SlotCounts.{slot_count}

module _ (rs more : List LogRecord) (pages : LoggedPages) (as_of : AreAsOfOwnNumbers rs pages) where
  -- a page's records are the same in both
  same_front : (p : PageId) → take (pages p).number rs ≡ take (pages p).number (rs ++ more)
  same_front p = sym (take-append-le (pages p).number rs more (as_of p).within)

  pub as_of_longer : AreAsOfOwnNumbers (rs ++ more) pages
  as_of_longer p =
      let within = (as_of p).within in
      let long = length-append rs more in
      record {
        number = (as_of p).number;
        within = omega (arith, within, long);
        slots = λ i. (as_of p).slots i ∙ ap (λ front. image_of_record front (rid_on p i)) (same_front p);
      }

  text_stays : (v : Version) (bytes : List ℕ) (p : PageId) → IsTextOf v rs bytes p (pages p) → IsTextOf v (rs ++ more) bytes p (pages p)
  text_stays v bytes p is =
      record { images = is.images; text = is.text; has = record { slots = is.has.slots; count = is.has.count ∙ ap (λ front. slot_count front p) (same_front p) } }

  pub leaves_longer : (g : Geometry) (front image : List ℕ) → LeavesStore rs g front pages image → LeavesStore (rs ++ more) g front pages image
  leaves_longer g front image is =
      (is.0, is.1, record { each = λ p has. text_stays g.version (is.0 (page_number g p)) p (is.2.each p has); inside = is.2.inside })

-- ---- the anchor

module _ (rs more : List LogRecord) (lawful : Lawful rs) (pages : LoggedPages) (a : Anchored) where
  at_longer : (c : Checkpoint) → IsAnchoredAt rs (length rs) pages pages a c → IsAnchoredAt (rs ++ more) (length (rs ++ more)) pages pages a c
  at_longer c h =
      let begun = anchored_durable rs lawful (length rs) pages pages a c h in
      let whole : length (take (length rs) rs) ≡ length rs = ap length (take-length rs) in
      let right : TableIsRight (rs ++ more) c.begin c.dirty pages = right_longer rs c.begin c.dirty pages h.on_volume (omega arith) more in
      record {
        some = h.some;
        is_its = h.is_its;
        found = ap (end_among a.checkpoint) (take-length (rs ++ more)) ∙ end_longer a.checkpoint rs more c (ap (end_among a.checkpoint) (sym (take-length rs)) ∙ h.found);
        on_volume = right;
        now = right;
        first = h.first;
        tail = h.tail;
      }

  pub anchored_longer : IsAnchoredRight rs (length rs) pages pages a → IsAnchoredRight (rs ++ more) (length (rs ++ more)) pages pages a
  anchored_longer h = ⊎_elim (λ none. inl none) (λ at. inr (at.0, at_longer at.0 at.1)) h
