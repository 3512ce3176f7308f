use Rattle.std.proofs.Common.{◌≡◌, ℕ, List, length, sum, inr, sym, ap, subst, Ok, Err, ◌∙◌, arith}
use Rattle.std.proofs.lemmas.Result.{err_from_is_err_and}
use Rattle.shore_types.specs.declared.versions.Version.{Version}
use Rattle.shore_gate.specs.Numbers.{numbers_at}
use Rattle.shore_gate.specs.Checks.{judged}
use Rattle.shore_gate.specs.Label.{field_checks, store_checks, end_checks, stores_of, version_in}
use Rattle.shore_gate.proofs.NumberLemmas.{length-numbers_at}
use Rattle.shore_gate.proofs.LabelLemmas.{verdict_kind_err, verdict_fields_err, verdict_stores_err, verdict_end}
use Rattle.shore_gate.proofs.labels.check_label.Goals as goal

pub returns-in_err-version-clause-refused : goal.returns-in_err-version-clause-refused
returns-in_err-version-clause-refused c =
    let p = err_from_is_err_and c.from_residual.result c.from_residual.ensures.1 in
    rw (p.1, p.2) (inr (verdict_kind_err c.args.device c.args.len c.args.bytes.now c.in_err-version.field-0.0 (c.in_err-version.ensures.refused c.args.len c.requires.long)))

pub returns-in_err-count-clause-refused : goal.returns-in_err-count-clause-refused
returns-in_err-count-clause-refused c =
    let p = err_from_is_err_and c.from_residual-in_err-count.result c.from_residual-in_err-count.ensures.1 in
    rw (p.1, p.2) (inr (verdict_fields_err c.args.device c.args.len c.args.bytes.now c.in_err-count.field-0.0 (c.in_ok-version.ensures.passed c.args.len c.requires.long).0 (subst (λ (v : Version). judged (field_checks v c.args.device c.args.len c.args.bytes.now) ≡ Err c.in_err-count.field-0.0) (c.in_ok-version.ensures.passed c.args.len c.requires.long).1 c.in_err-count.ensures.refused)))

pub check_stores-requires : goal.check_stores-requires
check_stores-requires c =
    omega (arith, ap length (c.deref.ensures.value ∙ c.in_ok-stores.ensures), length-numbers_at c.args.bytes.now 32 c.in_ok-count.count, c.in_ok-count.ensures.passed.2)

pub returns-in_err-pages-clause-refused : goal.returns-in_err-pages-clause-refused
returns-in_err-pages-clause-refused c =
    let p = err_from_is_err_and c.from_residual-in_err-pages.result c.from_residual-in_err-pages.ensures.1 in
    let stores : c.deref.result.now ≡ stores_of c.args.bytes.now = c.deref.ensures.value ∙ c.in_ok-stores.ensures ∙ ap (numbers_at c.args.bytes.now 32) c.in_ok-count.ensures.passed.1 in
    rw (p.1, p.2) (inr (verdict_stores_err c.args.device c.args.len c.args.bytes.now c.in_err-pages.field-0.0 (c.in_ok-version.ensures.passed c.args.len c.requires.long).0 (subst (λ (v : Version). judged (field_checks v c.args.device c.args.len c.args.bytes.now) ≡ Ok tt) (c.in_ok-version.ensures.passed c.args.len c.requires.long).1 c.in_ok-count.ensures.passed.0)
    (ap (λ (s : List ℕ). judged (store_checks c.args.device 32 0 s)) (sym stores) ∙ c.in_err-pages.ensures.refused)))

pub returns-in_err-check_end-clause-refused : goal.returns-in_err-check_end-clause-refused
returns-in_err-check_end-clause-refused c =
    let p = err_from_is_err_and c.from_residual-in_err-check_end.result c.from_residual-in_err-check_end.ensures.1 in
    let bytes = c.args.bytes.now in
    let stores : c.deref.result.now ≡ stores_of bytes = c.deref.ensures.value ∙ c.in_ok-stores.ensures ∙ ap (numbers_at bytes 32) c.in_ok-count.ensures.passed.1 in
    let ends = ap (λ (n : ℕ). judged (end_checks (version_in bytes) c.args.device c.args.len bytes n (sum (stores_of bytes)))) (sym c.in_ok-count.ensures.passed.1)
    ∙ ap (λ (t : ℕ). judged (end_checks (version_in bytes) c.args.device c.args.len bytes c.in_ok-count.count t)) (sym (c.in_ok-pages.ensures.passed.1 ∙ ap sum stores))
    ∙ ap (λ (v : Version). judged (end_checks v c.args.device c.args.len bytes c.in_ok-count.count c.in_ok-pages.pages)) (sym (c.in_ok-version.ensures.passed c.args.len c.requires.long).1)
    ∙ sym c.in_err-check_end.ensures in
    rw (p.1, p.2) (inr (verdict_end c.args.device c.args.len bytes (c.in_ok-version.ensures.passed c.args.len c.requires.long).0 (subst (λ (v : Version). judged (field_checks v c.args.device c.args.len c.args.bytes.now) ≡ Ok tt) (c.in_ok-version.ensures.passed c.args.len c.requires.long).1 c.in_ok-count.ensures.passed.0)
    (ap (λ (s : List ℕ). judged (store_checks c.args.device 32 0 s)) (sym stores) ∙ c.in_ok-pages.ensures.passed.0) ∙ ends))

pub returns-clause-passed : goal.returns-clause-passed
returns-clause-passed c =
    let bytes = c.args.bytes.now in
    let stores : c.deref.result.now ≡ stores_of bytes = c.deref.ensures.value ∙ c.in_ok-stores.ensures ∙ ap (numbers_at bytes 32) c.in_ok-count.ensures.passed.1 in
    let ends = ap (λ (n : ℕ). judged (end_checks (version_in bytes) c.args.device c.args.len bytes n (sum (stores_of bytes)))) (sym c.in_ok-count.ensures.passed.1)
    ∙ ap (λ (t : ℕ). judged (end_checks (version_in bytes) c.args.device c.args.len bytes c.in_ok-count.count t)) (sym (c.in_ok-pages.ensures.passed.1 ∙ ap sum stores))
    ∙ ap (λ (v : Version). judged (end_checks v c.args.device c.args.len bytes c.in_ok-count.count c.in_ok-pages.pages)) (sym (c.in_ok-version.ensures.passed c.args.len c.requires.long).1)
    ∙ sym c.in_ok-check_end.ensures in (
      verdict_end c.args.device c.args.len bytes (c.in_ok-version.ensures.passed c.args.len c.requires.long).0 (subst (λ (v : Version). judged (field_checks v c.args.device c.args.len c.args.bytes.now) ≡ Ok tt) (c.in_ok-version.ensures.passed c.args.len c.requires.long).1 c.in_ok-count.ensures.passed.0)
          (ap (λ (s : List ℕ). judged (store_checks c.args.device 32 0 s)) (sym stores) ∙ c.in_ok-pages.ensures.passed.0) ∙ ends,
      (c.in_ok-version.ensures.passed c.args.len c.requires.long).1,
      c.in_ok-stores.ensures ∙ ap (numbers_at bytes 32) c.in_ok-count.ensures.passed.1,
    )
