-- What each event of the sessions asks of the room of pages, and how many slots the pages have after it.
use Rattle.std.specs.Prelude.{◌≡◌, List, Some, None, Ok, Err}
use Rattle.shore_types.specs.Images.{Image, image_len}
use Rattle.shore_types.specs.declared.ids.Rid.{Rid}
use Rattle.shore_types.specs.declared.versions.Version.{Version}
use Rattle.shore_model.specs.declared.calls.Answer.{Answer}
use Rattle.shore_model.specs.declared.calls.Answer.TheVariants.{Inserted}
use Rattle.shore_model.specs.declared.calls.Call.{Call}
use Rattle.shore_model.specs.declared.calls.Call.TheVariants as call
use Rattle.shore_model.specs.Records.{Records}
use Rattle.shore_page.specs.Room.{Fits}
use Rattle.laws_lives.specs.SessionSteps.{AnswerAbort, AnswerInDoubt, AnswerPrepare, AnswerResolve, AppendCommit, AppendPrepare, AppendResolve, AppendRollback, Ask, BeginTxn, Doom, EndRollback, GiveReply, MoveLocks, PutBack, RefuseCall, SessionEvent}
use Rattle.laws_lives.specs.Sessions.{SessionTxn, Sessions}
use Rattle.laws_room.specs.Claims.{Grows, SlotCounts, slots_of}

-- a change to an id fits its page
abbrev pub ChangeFitsPage : Version → Records → List SessionTxn → SlotCounts → Rid → Image → SlotCounts → Type 0
ChangeFitsPage v R undos counts id image new = Fits v (slots_of R undos id.page (counts id.page)) id.slot (image_len image) × Grows counts new id

-- Insert, update and delete ask for room; an undo down to a savepoint asks for none.
abbrev pub AnswerFits : Version → Sessions → SlotCounts → Call → Answer → SlotCounts → Type 0
AnswerFits v s counts (call.Insert store bytes) (Inserted id) new = ChangeFitsPage v s.records s.active counts id (Some bytes) new
AnswerFits v s counts (call.Insert store bytes) _ new = new ≡ counts
AnswerFits v s counts (call.Update id bytes) answer new = ChangeFitsPage v s.records s.active counts id (Some bytes) new
AnswerFits v s counts (call.Delete id) answer new = ChangeFitsPage v s.records s.active counts id None new
AnswerFits v s counts (call.BackTo n) answer new = new ≡ counts
AnswerFits v s counts call.Begin answer new = new ≡ counts
AnswerFits v s counts (call.Get id) answer new = new ≡ counts
AnswerFits v s counts (call.GetForUpdate id) answer new = new ≡ counts
AnswerFits v s counts (call.Scan store) answer new = new ≡ counts
AnswerFits v s counts (call.Lock g mode) answer new = new ≡ counts
AnswerFits v s counts (call.TryLock g mode) answer new = new ≡ counts
AnswerFits v s counts call.Savepoint answer new = new ≡ counts
AnswerFits v s counts call.Commit answer new = new ≡ counts
AnswerFits v s counts call.Abort answer new = new ≡ counts
AnswerFits v s counts (call.Prepare global) answer new = new ≡ counts
AnswerFits v s counts (call.Resolve global outcome) answer new = new ≡ counts
AnswerFits v s counts call.InDoubt answer new = new ≡ counts

-- No other event asks for room, a whole rollback neither, nor an image that is put back, nor a doom.
abbrev pub EventFits : Version → Sessions → SlotCounts → SessionEvent → SlotCounts → Type 0
EventFits v s counts (GiveReply a c (Ok answer)) new = AnswerFits v s counts c answer new
EventFits v s counts (GiveReply a c (Err fault)) new = new ≡ counts
EventFits v s counts (MoveLocks held) new = new ≡ counts
EventFits v s counts (BeginTxn session) new = new ≡ counts
EventFits v s counts (AppendCommit a ticket) new = new ≡ counts
EventFits v s counts (PutBack a kept e r) new = new ≡ counts
EventFits v s counts (Doom a) new = new ≡ counts
EventFits v s counts (AnswerAbort a) new = new ≡ counts
EventFits v s counts (Ask ticket durable) new = new ≡ counts
EventFits v s counts (RefuseCall session t c fault) new = new ≡ counts
EventFits v s counts (AppendPrepare a global granules) new = new ≡ counts
EventFits v s counts (AnswerPrepare session t global) new = new ≡ counts
EventFits v s counts (AppendResolve a global) new = new ≡ counts
EventFits v s counts (AppendRollback a global) new = new ≡ counts
EventFits v s counts (EndRollback a) new = new ≡ counts
EventFits v s counts (AnswerResolve session r) new = new ≡ counts
EventFits v s counts (AnswerInDoubt session t pairs) new = new ≡ counts
