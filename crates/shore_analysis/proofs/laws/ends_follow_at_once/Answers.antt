use Rattle.shore_analysis.proofs.Entries.{end_follows}
use Rattle.shore_analysis.proofs.laws.ends_follow_at_once.Goals as goal

pub returns : goal.returns
returns c log t u loser turn some none later next_turn = end_follows log t loser u turn some none later next_turn
