use Rattle.laws_lives.proofs.Writers.{one_writer_at_most}
use Rattle.laws_lives.proofs.WritersTold.{leaves_running, leaves_told}
use Rattle.laws_lives.proofs.recovery.lawful_lists_leave.Goals as goal

pub returns-clause-writer : goal.returns-clause-writer
returns-clause-writer c log id lawful = one_writer_at_most log lawful id

pub returns-clause-running : goal.returns-clause-running
returns-clause-running c log id ts lawful running all = leaves_running log lawful id ts running all

pub returns-clause-told : goal.returns-clause-told
returns-clause-told c log id lawful none = leaves_told log lawful none id
