use Rattle.std.proofs.Common.{rules, ◌≡◌, ◌≤◌, ◌+◌, ◌-◌, ◌++◌, ℕ, [], ◌∷◌, List, length, length-append, append-nil, refl, sym, ap, ◌∙◌, arith}
use Rattle.shore_core.specs.Cores.{last_of, waiting_of}
use Rattle.shore_model.specs.declared.log_records.LogRecord.{LogRecord}
use Rattle.shore_held.specs.Logs.{LogState}
use Rattle.shore_shared.proofs.closing.end.Goals as goal

none_more : {A : Type 0} (xs : List A) → length xs ≡ 0 → xs ≡ []
none_more [] none = refl
none_more (x ∷ xs) none = absurd (omega (arith, none))

-- once as much came as was sent, the rest is none
all_came : (cut now : ℕ) (before sent got list gone lost rest : List LogRecord) → before ++ sent ≡ gone ++ (list ++ rest) → now ≡ cut + length gone
    → before ++ got ≡ lost ++ list → now ≡ cut + length lost → length sent ≤ length got → rest ≡ []
all_came cut now before sent got list gone lost rest parts at came off all =
    none_more rest (omega (
      arith,
      ap length parts,
      length-append before sent,
      length-append gone (list ++ rest),
      length-append list rest,
      at,
      ap length came,
      length-append before got,
      length-append lost list,
      off,
      all,
    ))

-- The two have met.
pub take_rest-requires-clause-met : goal.take_rest-requires-clause-met
take_rest-requires-clause-met g c = ap (λ (x : LogState). x.met) c.meeting.ensures.same_log ∙ sym c.meeting.ensures.same.0

pub take_rest-requires-clause-last : goal.take_rest-requires-clause-last
take_rest-requires-clause-last g c =
    let same = c.meeting.ensures.same.0 in
    let last : last_of c.meeting.new.core.core ≡ last_of c.seat-first.new.self.core = ap (λ (rs : List LogRecord). g.N.Numbers.first_number + length rs - 1) same in
    omega (arith, last, c.meeting.ensures.all, ap length same)

pub returns-clause-records : goal.returns-clause-records
returns-clause-records g c =
    let b = c.meeting-2.ensures.begins in
    let before = g.B.Named.before in
    let held = c.tell-told.new.self in
    let s = c.tell-told.ensures.same in
    let f = c.in_ok-take_rest.ensures.follows in
    let waits : waiting_of c.learn.new.self.core ≡ waiting_of c.seat-reader.new.self.core = c.learn.ensures.records.0 ∙ c.meeting-2.ensures.same.0 in
    let sent : waiting_of c.seat-reader.new.self.core ≡ waiting_of c.meeting.new.core.core = search rules in
    let same = c.meeting-2.ensures.same_log in
    let kept = c.keep_aside.ensures.same in
    let none : b.1 ≡ [] =
    all_came g.B.Named.cut held.cut before (waiting_of c.seat-reader.new.self.core) held.got held.list b.0 f.gone b.1 b.2 b.3
    (ap (λ l. before ++ l) s.6 ∙ f.parts ∙ ap (λ l. f.gone ++ l) (sym s.2)) (s.1 ∙ f.cut_off) (omega (arith, ap length sent, c.in_ok-take_rest.ensures.all, ap length s.6)) in (
      b.0,
      ap (λ l. before ++ l) waits ∙ b.2 ∙ ap (λ l. b.0 ++ (held.list ++ l)) none ∙ ap (λ l. b.0 ++ l) (append-nil held.list) ∙ ap (λ (x : LogState). b.0 ++ x.list) (sym same)
          ∙ ap (λ (x : LogState). b.0 ++ x.list) (sym kept),
      ap (λ (x : LogState). x.cut) kept ∙ ap (λ (x : LogState). x.cut) same ∙ b.3,
    )

pub returns-clause-last : goal.returns-clause-last
returns-clause-last g c =
    let held = c.tell-told.new.self in
    let waits : waiting_of c.learn.new.self.core ≡ waiting_of c.seat-reader.new.self.core = c.learn.ensures.records.0 ∙ c.meeting-2.ensures.same.0 in
    let same = c.meeting-2.ensures.same_log in
    let r = returns-clause-records g c in
    let last : last_of c.learn.new.self.core ≡ last_of c.seat-reader.new.self.core = ap (λ (rs : List LogRecord). g.N.Numbers.first_number + length rs - 1) waits in
    omega (
      arith,
      last,
      c.meeting-2.ensures.all,
      ap length waits,
      ap length r.1,
      length-append g.B.Named.before (waiting_of c.learn.new.self.core),
      length-append r.0 c.keep_aside.new.held.list,
      r.2,
    )
