use Rattle.std.proofs.Common.{◌≡◌, ◌-◌, ◌+◌, Bool, true, false, IsOk, OnErr, OnOk, Result, Ok, Err, length, ap, refl, sym, ◌∙◌, arith}
use Rattle.shore_logrec.specs.Text.{text}
use Rattle.shore_log.specs.Told.{aside_for}
use Rattle.shore_log.specs.declared.tail.Aside.{Aside}
use Rattle.shore_log.specs.declared.tail.Told.{Told}
use Rattle.shore_core.proofs.checkpointing.push_begin.Goals as goal

on_ok : {A E P Q : Type 0} (r : Result A E) → (P → Q) → OnOk r P → OnOk r Q
on_ok (Ok x) f p = f p
on_ok (Err e) f p = tt

on_err : {A E P Q : Type 0} (r : Result A E) → (P → Q) → OnErr r P → OnErr r Q
on_err (Ok x) f p = tt
on_err (Err e) f p = f p

never_err : {A E : Type 0} (P : Type 0) (r : Result A E) → IsOk r → OnErr r P
never_err P (Ok x) ok = tt
never_err P (Err e) ok = let clash = ok in absurd cc

always_err : {A E P : Type 0} (r : Result A E) → P → OnErr r P
always_err (Ok x) p = tt
always_err (Err e) p = p

pub keep_aside-requires : goal.keep_aside-requires
keep_aside-requires g c = record { few = (omega (arith), omega (arith, c.bytes_to_log.ensures.few, c.encoded_len.ensures.len, c.begin_record-logged.ensures.cost)) }

pub returns-clause-aside : goal.returns-clause-aside
returns-clause-aside g c keeps =
    let mid = g.T.Tail.told c.keep_aside.new.self in
    let len = length (text c.begin_record-logged.result) in
    let kept = c.in_ok-keep_aside.ensures.kept keeps in
    let records : mid.aside.records - 1 ≡ 2 = omega (arith, ap (λ (a : Aside). a.records) kept) in
    let bytes : mid.aside.bytes - len ≡ c.bytes_to_log.result = omega (arith, ap (λ (a : Aside). a.bytes) kept, c.encoded_len.ensures.len) in
    on_ok c.push_kept.result (λ told. ap (λ (t : Told). t.aside) told ∙ (λ i. aside_for (records i) (bytes i)) ∙ ap (aside_for 2) c.bytes_to_log.ensures.is) c.push_kept.ensures.told

pub returns-clause-none_kept : goal.returns-clause-none_kept
returns-clause-none_kept g c = by_keeps g.T.Tail.keeps refl
  where
    by_keeps : (b : Bool) → g.T.Tail.keeps ≡ b → OnErr c.push_kept.result ((g.T.Tail.told c.push_kept.new.self).aside ≡ (g.T.Tail.told c.args.tail.now).aside)
    by_keeps true is =
        let kept = c.in_ok-keep_aside.ensures.kept is in
        never_err _ c.push_kept.result (c.push_kept.ensures.idle (omega (arith, ap (λ (a : Aside). a.records) kept), omega (arith, ap (λ (a : Aside). a.bytes) kept, c.encoded_len.ensures.len)))
    by_keeps false is = on_err c.push_kept.result (λ told. ap (λ (t : Told). t.aside) told ∙ c.keep_aside.ensures.none is) c.push_kept.ensures.none_taken

pub returns-in_err-keep_aside-clause-none_kept : goal.returns-in_err-keep_aside-clause-none_kept
returns-in_err-keep_aside-clause-none_kept g c = always_err c.from_residual.result c.in_err-keep_aside.ensures.none_kept
