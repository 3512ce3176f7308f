use Rattle.std.proofs.Common.{◌≡◌, inl, inr, true, false, refl, ap, sym, ◌∙◌}
use Rattle.std.specs.Prelude.{is_some, not}
use Rattle.shore_types.specs.declared.locking.Granule.TheVariants.{Record}
use Rattle.shore_types.specs.declared.locking.Mode.TheVariants.{EX}
use Rattle.shore_locks.proofs.Entering.{nothing}
use Rattle.shore_path.proofs.Lockable.{decides_record, nobody_there, record_decides}
use Rattle.shore_path.proofs.judging.may_lock_in_page.Goals as goal

pub returns-then-not-may_have_requests : goal.returns-then-not-may_have_requests
returns-then-not-may_have_requests c =
    let rs = c.args.table.now.requests in
    let nobody = nobody_there rs c.args.txn (Record c.args.id.now) EX (c.may_have_requests.ensures c.if-not-may_have_requests.true) in
    (λ yes. decides_record rs c.args.txn c.args.id.now c.tables_are_orderly.ensures.one_each c.requires (inl nobody), λ can. refl)

pub returns-then-is_none : goal.returns-then-is_none
returns-then-is_none c =
    let nobody = sym c.in_the_way-other.ensures ∙ nothing c.in_the_way-other.result (c.is_none.ensures ∙ ap not c.if-is_none.true) in
    (λ yes. decides_record c.args.table.now.requests c.args.txn c.args.id.now c.tables_are_orderly.ensures.one_each c.requires (inl nobody), λ can. c.if-is_none.true)

pub returns-else-is_none : goal.returns-else-is_none
returns-else-is_none c =
    let rs = c.args.table.now.requests in
    let one = c.tables_are_orderly.ensures.one_each in
    let somebody : is_some c.in_the_way-other.result ≡ true = c.is_none.ensures ∙ ap not c.if-is_none.false in (
      λ covered. decides_record rs c.args.txn c.args.id.now one c.requires (inr (c.is_covered_above.ensures.0 covered)),
      λ can. elim (record_decides rs c.args.txn c.args.id.now one can) [
        | inl nobody ↦ absurd (let clash : false ≡ true = sym (ap is_some (c.in_the_way-other.ensures ∙ nobody)) ∙ somebody in cc)
        | inr covered ↦ c.is_covered_above.ensures.1 covered
      ],
    )
