use Rattle.std.proofs.Common.{◌≡◌, ℕ, Some, ap, subst, ◌∙◌}
use Rattle.std.specs.Prelude.{unwrap_or}
use Rattle.std.specs.Ordering.{nat_cmp}
use Rattle.std.specs.BTreeMap.{Updates, get}
use Rattle.shore_model.specs.declared.log_records.LogRecord.{LogRecord}
use Rattle.shore_model.specs.declared.log_records.LogTxn.{LogTxn}
use Rattle.shore_analysis.specs.Passes.{entry_after, entry_by}
use Rattle.shore_analysis.proofs.passes.go_on.Goals as goal

pub returns : goal.returns
returns c =
    let old = c.args.running.now in
    let new = c.insert.new.self in
    let logged = c.args.logged.now in
    let number = c.args.number in
    let known : c.copied-known.result ≡ get nat_cmp old logged.txn = c.copied-known.ensures ∙ c.get.ensures.value ∙ ap (λ (r : LogRecord). get nat_cmp old r.txn) c.logged.view_is in
    let before = c.unwrap_or-before.ensures ∙ (λ i. unwrap_or (known i) (c.begun.ensures i)) in
    let entry : c.entry_by-entry.result ≡ entry_after number logged (get nat_cmp old logged.txn) = c.entry_by-entry.ensures ∙ (λ i. entry_by number (c.logged.view_is i).payload (before i)) in
    subst (λ (t : ℕ). Updates nat_cmp old new t (Some (entry_after number logged (get nat_cmp old logged.txn)))) (ap (λ (r : LogRecord). r.txn) c.logged.view_is)
    (subst (λ (e : LogTxn). Updates nat_cmp old new c.logged.inside.0.0.0 (Some e)) entry c.in_ok-insert.ensures.updates)
