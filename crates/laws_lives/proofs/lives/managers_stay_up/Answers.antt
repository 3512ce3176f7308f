use Rattle.std.proofs.Common.{length, take}
use Rattle.laws_lives.proofs.AtWork.{pages_have_records}
use Rattle.laws_lives.proofs.DoubtsShown.{told_is_shown}
use Rattle.laws_lives.proofs.Failing.{crash_keeps, may_lose_power}
use Rattle.laws_lives.proofs.Stretches.{up_is_at_work, up_shows_found}
use Rattle.laws_lives.proofs.UndoRecords.{lawful_front}
use Rattle.laws_lives.proofs.lives.managers_stay_up.Goals as goal

pub returns-clause-opens : goal.returns-clause-opens
returns-clause-opens c o s l f opening u = up_shows_found o s f opening l u

pub returns-clause-sound : goal.returns-clause-sound
returns-clause-sound c o s l f opening u =
    let k = up_is_at_work o s f opening l u in
    (k.sessions.agree.history, k.sessions.sound.sound, k.sessions.whole.lawful, k.recoverable)

pub returns-clause-pages : goal.returns-clause-pages
returns-clause-pages c o s l id f opening u =
    pages_have_records (length s.log) l.first.next_txn o l.made l.last (up_is_at_work o s f opening l u) id

pub returns-clause-kept : goal.returns-clause-kept
returns-clause-kept c o s l failing n f opening u fails least most =
    let may = may_lose_power (length s.log) l.first.next_txn o l.made l.last (up_is_at_work o s f opening l u) failing fails in
    let h = crash_keeps (length s.log) o l.made failing may n least most in
    (h.0, h.1, told_is_shown (length s.log) o l.made (take n failing.log) (lawful_front failing.log n may.lawful) h.1)
