-- Analysis refuses no roomy log, nor what is kept of it where its front may be cut off.
use Rattle.std.proofs.Common.{◌≡◌, ◌⊎◌, ◌+◌, ◌-◌, ◌<◌, ◌≤◌, ◌++◌, ℕ, List, [], ◌∷◌, None, Option, Some, refl, length, drop, take, arith}
use Rattle.std.specs.Prelude.{IsSomeAnd, slice_get}
use Rattle.std.specs.List.{AllByRecursion}
use Rattle.std.proofs.lemmas.List.{length-take}
use Rattle.std.proofs.lemmas.List.Elements.{All-from_recursion, recursion_from_All}
use Rattle.std.proofs.lemmas.Option.{slice_get_within}
use Rattle.shore_types.specs.Layout.{HasSlot}
use Rattle.shore_types.specs.declared.ids.Rid.{Rid}
use Rattle.shore_types.specs.declared.layout.Geometry.{Geometry}
use Rattle.shore_types.specs.declared.layout.TheConstants.{LAST_TXN}
use Rattle.shore_model.specs.declared.log_records.DirtyPage.{DirtyPage}
use Rattle.shore_model.specs.declared.log_records.LogRecord.{LogRecord}
use Rattle.shore_model.specs.declared.log_records.Payload.{Payload}
use Rattle.shore_model.specs.declared.log_records.Payload.TheVariants.{Anchor, Change, CheckpointBegin, CheckpointEnd, Commit, Compensation, End, Prepare, RollbackDecided}
use Rattle.shore_model.specs.Logs.{Lawful, MaySay, id_in}
use Rattle.shore_analysis.proofs.KeptLawful.{all_anchored, all_meant}
use Rattle.shore_analysis.specs.AnchoredMeant.{AreMeantAnchored}
use Rattle.shore_analysis.specs.KeptMeant.{AreInLimits, AreMeantKept, IsInLimits, IsPageInBounds, SaysInLimits}
use Rattle.shore_analysis.specs.Meant.{AreGranules, IsInBounds, IsPageListed, ListsInBounds, granules_in, next_in}
use Rattle.laws_lives.proofs.Lists.{recursion-at}
use Rattle.laws_lives.proofs.Redo.{empty_page_stands, lacks_longer, lacks_none_yet}
use Rattle.laws_lives.specs.Pages.{LoggedPages, empty_page}
use Rattle.laws_checkpoints.specs.KeptLogs.{MayBeCut}
use Rattle.laws_runs.proofs.Prefixes.{whole_placed}
use Rattle.laws_runs.specs.RoomyLogs.{AreRoomy}

-- nothing of a log may always be cut off
nothing_cut : (log : List LogRecord) → MayBeCut log (λ p. empty_page) 0
nothing_cut log = record {
  within = omega arith;
  on_pages = λ p. lacks_longer [] p 0 empty_page (lacks_none_yet [] p empty_page (empty_page_stands p)) log;
  ended = λ t some has. cc;
}

some_within : {A : Type 0} (xs : List A) (i : ℕ) (P : A → Type 0) → IsSomeAnd (slice_get xs i) P → i < length xs
some_within {A = A} xs i P h = by (slice_get xs i) refl h
  where
    by : (o : Option A) → slice_get xs i ≡ o → IsSomeAnd o P → i < length xs
    by (Some x) is some = slice_get_within xs i x is
    by None is some = absurd some

module _ (g : Geometry) where
  pages_before : (begin n : ℕ) → begin ≤ n → (dirty : List DirtyPage) → AllByRecursion (IsPageListed g begin) dirty → AllByRecursion (IsPageInBounds g n) dirty
  pages_before begin n le [] h = tt
  pages_before begin n le (d ∷ dirty) h = (record { there = h.0.0; recovery = (let low = h.0.1 in omega (arith, low, le)) }, pages_before begin n le dirty h.1)

  module _ (log : List LogRecord) (n : ℕ) (t : ℕ) where
    says : (p : Payload) → ((id : Rid) → id_in p ≡ Some id → HasSlot g id) → AreGranules g (granules_in p) → next_in p ≤ LAST_TXN → ListsInBounds g p → MaySay (take n log) t p → SaysInLimits g (n + 1) p
    says (Change id was image) slot granules next lists may = slot id refl
    says (Compensation id image undo_next) slot granules next lists may = slot id refl
    says Commit slot granules next lists may = tt
    says End slot granules next lists may = tt
    says (Prepare global its) slot granules next lists may = granules
    says RollbackDecided slot granules next lists may = tt
    says CheckpointBegin slot granules next lists may = tt
    says (CheckpointEnd begin its_next txns dirty) slot granules next lists may =
        let within = some_within (take n log) (begin - 1) (λ r. r.payload ≡ CheckpointBegin) may.begins.1 in
        let short = length-take n log in
        (next, All-from_recursion (IsPageInBounds g (n + 1)) dirty (pages_before begin (n + 1) (omega (arith, within, short)) dirty lists))
    says (Anchor checkpoint tail) slot granules next lists may = tt

  pub roomy_in_limits : (stream_bytes least : ℕ) (log : List LogRecord) → AreRoomy g stream_bytes least log → Lawful log → AreInLimits g log
  roomy_in_limits stream_bytes least log k lawful n r at =
      let its = recursion-at (IsInBounds g) log n r (recursion_from_All (IsInBounds g) log (whole_placed g stream_bytes least log k).inside) at in
      record { number = its.number; sizes = its.sizes; says = says log n r.txn r.payload its.id its.granules its.next its.lists (lawful n r at).says }

  pub kept_meant : (stream_bytes least : ℕ) (log : List LogRecord) → AreRoomy g stream_bytes least log → Lawful log → (volume : LoggedPages) (cut : ℕ) → MayBeCut log volume cut
      → AreMeantKept g cut (drop cut log)
  kept_meant stream_bytes least log k lawful volume cut may =
      all_meant g log lawful (roomy_in_limits stream_bytes least log k lawful) volume cut may (λ n. (k.placed n).few)

  pub anchored_meant : (stream_bytes least : ℕ) (log : List LogRecord) → AreRoomy g stream_bytes least log → Lawful log → (volume : LoggedPages) (cut : ℕ) → MayBeCut log volume cut
      → (checkpoint : ℕ) → (checkpoint ≡ 0) ⊎ (cut < checkpoint) → AreMeantAnchored g cut checkpoint (drop cut log)
  anchored_meant stream_bytes least log k lawful volume cut may =
      all_anchored g log lawful (roomy_in_limits stream_bytes least log k lawful) volume cut may (λ n. (k.placed n).few)

  pub all_kept_meant : (stream_bytes least : ℕ) (log : List LogRecord) → AreRoomy g stream_bytes least log → Lawful log → AreMeantKept g 0 log
  all_kept_meant stream_bytes least log k lawful = kept_meant stream_bytes least log k lawful (λ p. empty_page) 0 (nothing_cut log)
