-- The table keeps its room, step by step.
use Rattle.std.proofs.Common.{◌≡◌, ◌∙◌, ap, ◌+◌, ◌≤◌, ◌++◌, ℕ, List, [], ◌∷◌, refl, sym, subst}
use Rattle.std.specs.FinMap.{get}
use Rattle.shore_types.specs.declared.ids.PageId.{PageId}
use Rattle.laws_room.specs.Claims.{Claimed, SlotCounts, undecided_on}
use Rattle.laws_room.specs.LogRooms.{HasLogRoom, LogRoom, TurnsTake}
use Rattle.laws_room.specs.Tables.{AllHaveRoom, EndTxn, EnterTxn, HasItsRoom, IsRoomy, LeaveTable, MakeChange, MayStep, MayStepAll, RunsWithRoom, SetMarks, TxnTable, TableStep, UndoOne, stepped, stepped_all}
use Rattle.laws_room.specs.Turns.{TurnsFit}
use Rattle.laws_lives.specs.SessionSteps.{SessionEvent, entries_by}
use Rattle.laws_lives.specs.Sessions.{EachOnce, PreparedTxn, SessionTxn, Sessions, in_doubt_of}
use Rattle.laws_lives.specs.Soundness.{IsJustOpened, IsSoundAfter, SessionsAgree, found_in_doubt}
use Rattle.shore_types.specs.declared.layout.TheConstants.{GREATEST_CHECKPOINT, LONGEST_FRAME}
use Rattle.shore_types.specs.declared.versions.Version.{Version}
use Rattle.std.specs.Prelude.{length, map}
use Rattle.shore_model.specs.declared.histories.Entry.{Entry}
use Rattle.shore_model.specs.declared.histories.InDoubt.{InDoubt}
use Rattle.shore_model.specs.declared.histories.Opening.{Opening}
use Rattle.shore_model.specs.Records.{Records}
use Rattle.shore_page.specs.Undo.{UndoFits}
use Rattle.shore_page.proofs.UndoLemmas.{undos_fit}
use Rattle.laws_lives.proofs.SessionsAgree.{event_agrees, open_agrees}
use Rattle.laws_lives.proofs.Steps.{event_stays_sound, open_is_sound}
use Rattle.laws_room.proofs.Leaving.{begun_keeps, left_keeps, marked_keeps}
use Rattle.laws_room.proofs.LogRooms.{begun_has, changed_has, ended_takes, event_once, event_room, marked_has, turns_take, undone_takes}
use Rattle.laws_room.proofs.Pages.{undo_fits}
use Rattle.laws_room.proofs.Rooms.{change_keeps, turns_fit, undo_keeps}
use Rattle.laws_room.proofs.Undone.{event_claims}

module _ (v : Version) (spare doubts : ℕ) (within : spare ≤ LONGEST_FRAME + GREATEST_CHECKPOINT) where
  pub step_keeps : (s : TxnTable) (step : TableStep) → IsRoomy v spare doubts s → MayStep v s step → IsRoomy v spare doubts (stepped s step) × HasItsRoom v spare s step
  step_keeps s (EnterTxn a) k may =
      (record { pages = begun_keeps v s.records s.undos s.counts k.pages a may.0 may.1; log = begun_has spare doubts s.undos s.room k.log within a may.0 may.2 }, tt)
  step_keeps s (MakeChange a id image new) k may = (
    record {
      pages = change_keeps v s.records s.undos s.counts k.pages a may.0 id image may.1 may.2.0 new may.2.1;
      log = changed_has spare doubts s.undos s.room k.log k.pages.once a may.0 within _ id (get s.records id) image refl may.3;
    },
    tt,
  )
  step_keeps s (SetMarks a marks rolling) k may =
      (record { pages = marked_keeps v s.records s.undos s.counts k.pages a may record { images = a.undo.images; marks = marks; rolling = rolling } refl; log = marked_has spare doubts s.undos s.room k.log k.pages.once a may record { images = a.undo.images; marks = marks; rolling = rolling } refl }, tt)
  step_keeps s (UndoOne a kept e marks rolling) k may =
      let log = undone_takes spare doubts s.undos s.room k.log k.pages.once a may.0 kept e marks rolling may.1 in
      (record { pages = undo_keeps v s.records s.undos s.counts k.pages a may.0 kept e marks rolling may.1; log = log.1 }, (undo_fits v s.records s.undos s.counts k.pages a may.0 kept e marks rolling may.1, log.0))
  step_keeps s (EndTxn a) k may =
      let log = ended_takes spare doubts s.undos s.room k.log k.pages.once a may in
      (record { pages = left_keeps v s.records s.undos s.counts k.pages a may; log = log.1 }, log.0)
  step_keeps s (LeaveTable a) k may =
      (record { pages = left_keeps v s.records s.undos s.counts k.pages a may; log = (ended_takes spare doubts s.undos s.room k.log k.pages.once a may).2 }, tt)

  pub steps_keep : (s : TxnTable) (steps : List TableStep) → IsRoomy v spare doubts s → MayStepAll v s steps
      → IsRoomy v spare doubts (stepped_all s steps) × AllHaveRoom v spare s steps
  steps_keep s [] k may = (k, tt)
  steps_keep s (step ∷ steps) k may =
      let one = step_keeps s step k may.0 in
      let rest = steps_keep (stepped s step) steps one.0 may.1 in
      (rest.0, (one.1, rest.1))

module _ (v : Version) (spare : ℕ) (within : spare ≤ LONGEST_FRAME + GREATEST_CHECKPOINT) where
  events_keep : (o : Opening) (es : List Entry) (s : Sessions) (counts : SlotCounts) (room : LogRoom) (events : List SessionEvent) (last : Sessions) (c : SlotCounts) (r : LogRoom)
      → IsSoundAfter o es s → SessionsAgree o es s → EachOnce (in_doubt_of s) → Claimed v s.records s.active counts → HasLogRoom spare (length s.prepared) s.active room
      → RunsWithRoom v s counts room events last c r
      → Claimed v last.records last.active c × HasLogRoom spare (length last.prepared) last.active r
  events_keep o es s counts room [] last c r after seats apart k h by = (
    subst (λ (l : Sessions). Claimed v l.records l.active c) (sym by.0) (subst (Claimed v s.records s.active) (sym by.1) k),
    subst (λ (l : Sessions). HasLogRoom spare (length l.prepared) l.active r) (sym by.0) (subst (HasLogRoom spare (length s.prepared) s.active) (sym by.2) h),
  )
  events_keep o es s counts room (e ∷ events) last c r after seats apart k h by =
      events_keep o (es ++ entries_by s e) by.0 by.1 by.2 events last c r (event_stays_sound o es s by.0 e after seats by.3)
      (event_agrees o es s by.0 e after seats by.3) (event_once s apart e by.0 by.3) (event_claims after counts k e by.0 by.1 by.3 by.4)
      (event_room spare within s room h k.once apart e by.0 by.2 by.3 by.5 by.6) by.7

  pub from_open : (o : Opening) (first : Sessions) (counts : SlotCounts) (room : LogRoom) (events : List SessionEvent) (last : Sessions) (c : SlotCounts) (r : LogRoom)
      → IsJustOpened o first → Claimed v first.records first.active counts → HasLogRoom spare (length first.prepared) first.active room → RunsWithRoom v first counts room events last c r
      → (turns : List ℕ) → TurnsFit v last.records last.active c turns × TurnsTake spare last.active r turns
  from_open o first counts room events last c r opened k h by turns =
      let apart : EachOnce (in_doubt_of first) = subst EachOnce (sym (ap (map (λ (p : PreparedTxn). p.txn)) opened.prepared ∙ found_txns o.in_doubt ∙ sym opened.active)) opened.once in
      let both = events_keep o [] first counts room events last c r (open_is_sound o first opened) (open_agrees o first opened) apart k h by in
      (turns_fit v last.records last.active c turns both.0, turns_take spare (length last.prepared) last.active r turns both.0.once both.1)
    where
      found_txns : (ds : List InDoubt) → map (λ (p : PreparedTxn). p.txn) (map found_in_doubt ds) ≡ map (λ d. d.txn) ds
      found_txns [] = refl
      found_txns (d ∷ ds) = ap (λ ts. d.txn ∷ ts) (found_txns ds)

-- what shore_page says of undecided slots holds of each page
pub page_undos : (v : Version) (R : Records) (undos : List SessionTxn) (counts : SlotCounts) → Claimed v R undos counts → (p : PageId) (turns : List ℕ)
    → UndoFits v (undecided_on R undos p (counts p)) turns
page_undos v R undos counts k p turns = undos_fit v (undecided_on R undos p (counts p)) turns (k.room p)
