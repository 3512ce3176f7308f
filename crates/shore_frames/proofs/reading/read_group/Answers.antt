use Rattle.std.proofs.Common.{Bor, ◌≡◌, ◌≤◌, ◌<◌, ◌+◌, List, ℕ, [], ◌∷◌, ◌++◌, length, Err, sym, ◌∙◌, ap, subst, arith, append_assoc, length-append}
use Rattle.std.proofs.lemmas.Grind.{common_steps}
use Rattle.std.proofs.lemmas.Result.{err_from_is_err_and}
use Rattle.shore_model.specs.declared.log_records.LogRecord.{LogRecord}
use Rattle.shore_logrec.specs.Text.{text, texts}
use Rattle.shore_logrec.proofs.TextLengths.{length-text}
use Rattle.shore_frames.specs.declared.reading.ReadError.{ReadError}
use Rattle.shore_frames.specs.Frames.{AreNumbered}
use Rattle.shore_frames.specs.Reading.{Reads}
use Rattle.shore_frames.proofs.LoggedLemmas.{texts-push}
use Rattle.shore_frames.proofs.ReadLemmas.{AreNumbered-push, Left, goes_on, fails, ends, not_both}
use Rattle.shore_frames.proofs.reading.read_group.Goals as goal

pub returns-in_err-logged-clause-only : goal.returns-in_err-logged-clause-only
returns-in_err-logged-clause-only c rs are is =
    let some : 1 ≤ length c.loop-rest.rest.now = grind (arith, common_steps, c.is_empty.ensures, c.loop-rest-test.true) in
    let p = err_from_is_err_and c.from_residual.result c.from_residual.ensures.1 in
    subst (λ r. Reads r rs) (sym p.1) (subst (λ (e : ReadError). Reads (Err e) rs) (sym p.2)
    (fails {X = LogRecord × Bor (List ℕ)} (λ x. x.0) (λ x. x.1.now) c.in_err-logged.field-0.0 c.args.number c.loop-rest.records.items c.loop-rest.rest.now rs are (c.loop-rest.invariant.only rs are is) some c.in_err-logged.ensures.only))

pub returns-then-not-names_earlier-clause-only : goal.returns-then-not-names_earlier-clause-only
returns-then-not-names_earlier-clause-only c rs are is =
    let some : 1 ≤ length c.loop-rest.rest.now = grind (arith, common_steps, c.is_empty.ensures, c.loop-rest-test.true) in
    let next = goes_on c.args.number c.loop-rest.records.items c.loop-rest.rest.now c.in_ok-logged.after.now c.in_ok-logged.logged rs are (c.loop-rest.invariant.only rs are is) some c.in_ok-logged.ensures.only in
    not_both c.names_earlier.result (c.names_earlier.ensures.1 (omega (arith, next.1, c.loop-rest.invariant.next))) c.if-not-names_earlier.true

pub loop-rest-smaller : goal.loop-rest-smaller
loop-rest-smaller c =
    let r = c.in_ok-logged.logged in
    let long : length c.loop-rest.rest.now ≡ length (text r) + length c.in_ok-logged.after.now = ap length c.in_ok-logged.ensures.found.1 ∙ length-append (text r) c.in_ok-logged.after.now in
    omega (arith, long, length-text r)

pub loop-rest-preserved : goal.loop-rest-preserved
loop-rest-preserved c =
    let some : 1 ≤ length c.loop-rest.rest.now = grind (arith, common_steps, c.is_empty.ensures, c.loop-rest-test.true) in
    let r = c.in_ok-logged.logged in
    let front = c.loop-rest.records.items in
    let after = c.in_ok-logged.after.now in
    let inv = c.loop-rest.invariant in
    let pushed : c.push.new.self.items ≡ front ++ r ∷ [] = c.in_ok-push.ensures.items in
    let found = c.in_ok-logged.ensures.found in
    let long : length c.loop-rest.rest.now ≡ length (text r) + length after = ap length found.1 ∙ length-append (text r) after in
    let below : r.previous < c.args.number + length front = omega (arith, c.names_earlier.ensures.0 c.if-not-names_earlier.false, inv.next) in
    record {
      parts = inv.parts ∙ ap (λ (l : List ℕ). texts front ++ l) found.1 ∙ sym (append_assoc (texts front) (text r) after) ∙ ap (λ (l : List ℕ). l ++ after) (sym (texts-push front r)) ∙ ap (λ (l : List LogRecord). texts l ++ after) (sym pushed);
      numbered = subst (AreNumbered c.args.number) (sym pushed) (AreNumbered-push c.args.number front r inv.numbered found.0 below);
      next = omega (arith, inv.next, ap length pushed, length-append front (r ∷ []));
      small = omega (arith, inv.small, long, length-text r);
      only = λ rs are is. subst (λ (l : List LogRecord). Left rs l after) (sym pushed) (goes_on c.args.number front c.loop-rest.rest.now after r rs are (inv.only rs are is) some c.in_ok-logged.ensures.only).0;
    }

pub returns-clause-only : goal.returns-clause-only
returns-clause-only c rs are is = ends rs c.loop-rest.records.items c.loop-rest.rest.now (grind (arith, common_steps, c.is_empty.ensures, c.loop-rest-test.false)) (c.loop-rest.invariant.only rs are is)
