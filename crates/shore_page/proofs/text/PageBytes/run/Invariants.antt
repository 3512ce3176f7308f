use Rattle.std.proofs.Common.{◌≡◌, ◌≤◌}
use Rattle.std.specs.List.{between}
use Rattle.shore_types.specs.Runs.{IsRun}
use Rattle.shore_types.specs.Versions.{page_bytes}
use Rattle.shore_page.specs.Reading.{images_in}
use Rattle.shore_page.proofs.text.PageBytes.run.Given as goal

abbrev pub invariant-loop-slot : goal.invariant-loop-slot
invariant-loop-slot l = record {
  front : 24 ≤ l.end;
  inside : l.end ≤ page_bytes l.self-inside.version;
  run : IsRun (between 24 l.end l.self-inside.bytes.items) (images_in l.self-inside.version l.self-inside.bytes.items l.slot);
}
