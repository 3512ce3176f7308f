use Rattle.std.proofs.Common.{true≢false, rules, arith, ◌≡◌, ◌-◌, [], ◌++◌, length, length-append, refl, sym, ap, ◌∙◌, append-nil}
use Rattle.std.proofs.Math.Logic.{∥∥₁_map}
use Rattle.shore_disk.specs.Device.{size}
use Rattle.shore_gate.specs.declared.anchors.Anchors.{Anchors}
use Rattle.shore_log.specs.PlainTails.{waiting_in}
use Rattle.shore_log.specs.Settled.{cut_of_log, records_of_log}
use Rattle.shore_held.proofs.Following.{follows_more, follows_same, next_number}
use Rattle.shore_held.proofs.KeptLogs.{kept_longer}
use Rattle.shore_held.proofs.log_held.LogHeld.take_one.Goals as goal

-- What was received before finds no memory: all is as it was.
pub invariant_of-self : goal.invariant_of-self
invariant_of-self g c =
    let i = c.self.invariant in
    let old = c.self.inside.log in
    let new = c.take_in.new.self in
    let waits = c.self.inside.next in
    let left = c.take_in.new.tail in
    let is = c.take_in.ensures in
    let same = c.in_err-take_in.ensures.refused in
    let cut : cut_of_log new ≡ cut_of_log old = ap (λ t. t.first - 1) is.frames.tail in
    let list : records_of_log new ++ waiting_in left ≡ records_of_log old ++ waiting_in waits = λ j. same.0 j ++ same.1 j in
    let got = c.self.inside.pass.me.view.client.got in (
      i.0,
      i.1,
      i.2,
      follows_same g.B.Named.cut g.B.Named.before got got (cut_of_log old) (cut_of_log new) (records_of_log old ++ waiting_in waits) (records_of_log new ++ waiting_in left) refl cut list i.3,
      omega (arith, i.4, is.next, ap length same.0, ap length same.1, cut),
      i.5,
      i.6,
      i.7 ∙ ap (λ (a : Anchors). record { checkpoint = a.anchor.checkpoint; tail = a.anchor.tail; aim = c.self.inside.seat.anchor.aim }) (sym is.frames.anchors),
      omega (arith, i.8, cut, ap length is.frames.forced),
      ap (λ d. size (g.L.Disk.history d)) is.device ∙ i.9,
      λ start honest. ∥∥₁_map (i.10 start honest) (λ k. kept_longer old new c.self.inside.failed k is.device is.frames [] (same.0 ∙ sym (append-nil (records_of_log old)))),
      i.11,
      λ ready. absurd (true≢false (sym ready)),
    )

-- Nothing is received.
pub invariant_of-self-in-None : goal.invariant_of-self-in-None
invariant_of-self-in-None g c =
    let i = c.self.invariant in
    let old = c.self.inside.log in
    let new = c.take_in.new.self in
    let waits = c.self.inside.next in
    let left = c.take_in.new.tail in
    let is = c.take_in.ensures in
    let taken = c.in_ok-take_in.ensures.taken in
    let none = c.in_ok-take_in.ensures.emptied in
    let cut : cut_of_log new ≡ cut_of_log old = ap (λ t. t.first - 1) is.frames.tail in
    let list : records_of_log new ++ waiting_in left ≡ records_of_log old ++ waiting_in waits = (λ j. taken j ++ none j) ∙ append-nil (records_of_log old ++ waiting_in waits) in
    let got : c.receive.new.pass.me.view.client.got ≡ c.self.inside.pass.me.view.client.got = ap (λ v. v.got) c.in-None.ensures.got in (
      i.0,
      search rules,
      search rules,
      follows_same g.B.Named.cut g.B.Named.before c.self.inside.pass.me.view.client.got c.receive.new.pass.me.view.client.got (cut_of_log old) (cut_of_log new)
          (records_of_log old ++ waiting_in waits) (records_of_log new ++ waiting_in left) got cut list i.3,
      omega (arith, i.4, is.next, ap length none, ap length taken, length-append (records_of_log old) (waiting_in waits), cut),
      i.5,
      i.6,
      i.7 ∙ ap (λ (a : Anchors). record { checkpoint = a.anchor.checkpoint; tail = a.anchor.tail; aim = c.self.inside.seat.anchor.aim }) (sym is.frames.anchors),
      omega (arith, i.8, cut, ap length is.frames.forced),
      ap (λ d. size (g.L.Disk.history d)) is.device ∙ i.9,
      λ start honest. ∥∥₁_map (i.10 start honest) (λ k. kept_longer old new c.self.inside.failed k is.device is.frames (waiting_in waits) taken),
      i.11,
      λ ready. absurd (true≢false (sym ready)),
    )

-- .. so all is received that it knows to be sent.
pub returns-in-None-clause-emptied : goal.returns-in-None-clause-emptied
returns-in-None-clause-emptied g c is =
    let none = c.receive.ensures.none c.in-None.is in
    (none.0, ap (λ s. s.got) (sym c.self.view_is) ∙ none.1 ∙ ap (λ s. s.met ++ none.0) c.self.view_is)

-- What is received has the next number.
pub take_in-requires-in-Some : goal.take_in-requires-in-Some
take_in-requires-in-Some g c =
    let i = c.self.invariant in
    let old = c.self.inside.log in
    let waits = c.self.inside.next in
    let taken = c.in_ok-take_in.ensures.taken in
    let cut : cut_of_log c.take_in.new.self ≡ cut_of_log old = ap (λ t. t.first - 1) c.take_in.ensures.frames.tail in
    let next = next_number g.B.Named.cut g.B.Named.before c.self.inside.pass.me.view.client.got (cut_of_log old) (records_of_log old ++ waiting_in waits) i.3 in
    omega (arith, c.in-Some.ensures.got.1, i.5, next, ap length taken, cut)

-- It finds no memory, and waits.
pub invariant_of-self-in_err-take_in-in-Some : goal.invariant_of-self-in_err-take_in-in-Some
invariant_of-self-in_err-take_in-in-Some g c =
    let i = c.self.invariant in
    let old = c.self.inside.log in
    let mid = c.take_in.new.self in
    let new = c.take_in-in-Some.new.self in
    let waits = c.self.inside.next in
    let came = c.in-Some.records in
    let left = c.take_in-in-Some.new.tail in
    let was = c.take_in.ensures in
    let is = c.take_in-in-Some.ensures in
    let taken = c.in_ok-take_in.ensures.taken in
    let same = c.in_err-take_in-in-Some.ensures.refused in
    let before : cut_of_log mid ≡ cut_of_log old = ap (λ t. t.first - 1) was.frames.tail in
    let cut : cut_of_log new ≡ cut_of_log mid = ap (λ t. t.first - 1) is.frames.tail in
    let got_before = c.self.inside.pass.me.view.client.got in
    let got : c.receive.new.pass.me.view.client.got ≡ got_before ++ waiting_in came = ap (λ v. v.got) c.in-Some.ensures.got.0 in
    let list : records_of_log new ++ waiting_in left ≡ (records_of_log old ++ waiting_in waits) ++ waiting_in came = λ j. (same.0 ∙ taken) j ++ same.1 j in
    let next = next_number g.B.Named.cut g.B.Named.before got_before (cut_of_log old) (records_of_log old ++ waiting_in waits) i.3 in (
      i.0,
      search rules,
      search rules,
      follows_same g.B.Named.cut g.B.Named.before (got_before ++ waiting_in came) c.receive.new.pass.me.view.client.got (cut_of_log old) (cut_of_log new)
          ((records_of_log old ++ waiting_in waits) ++ waiting_in came) (records_of_log new ++ waiting_in left) got (cut ∙ before) list
          (follows_more g.B.Named.cut g.B.Named.before got_before (cut_of_log old) (records_of_log old ++ waiting_in waits) (waiting_in came) i.3),
      omega (arith, is.next, ap length same.1, ap length same.0, ap length taken, c.in-Some.ensures.got.1, i.5, next, before, cut),
      i.5,
      i.6,
      i.7 ∙ ap (λ (a : Anchors). record { checkpoint = a.anchor.checkpoint; tail = a.anchor.tail; aim = c.self.inside.seat.anchor.aim }) (sym was.frames.anchors ∙ sym is.frames.anchors),
      omega (arith, i.8, before, cut, ap length was.frames.forced, ap length is.frames.forced),
      ap (λ d. size (g.L.Disk.history d)) (is.device ∙ was.device) ∙ i.9,
      λ start honest. ∥∥₁_map (i.10 start honest) (λ k.
          kept_longer mid new c.self.inside.failed (kept_longer old mid c.self.inside.failed k was.device was.frames (waiting_in waits) taken) is.device is.frames []
          (same.0 ∙ sym (append-nil (records_of_log mid)))),
      i.11,
      λ ready. absurd (true≢false (sym ready)),
    )

pub returns-in_err-take_in-in-Some-clause-more : goal.returns-in_err-take_in-in-Some-clause-more
returns-in_err-take_in-in-Some-clause-more g c =
    let old = c.self.inside.log in
    let new = c.take_in-in-Some.new.self in
    let waits = c.self.inside.next in
    let came = c.in-Some.records in
    let same = c.in_err-take_in-in-Some.ensures.refused in
    let list : records_of_log new ++ waiting_in c.take_in-in-Some.new.tail ≡ (records_of_log old ++ waiting_in waits) ++ waiting_in came = λ j. (same.0 ∙ c.in_ok-take_in.ensures.taken) j ++ same.1 j in
    let got : c.receive.new.pass.me.view.client.got ≡ c.self.inside.pass.me.view.client.got ++ waiting_in came = ap (λ v. v.got) c.in-Some.ensures.got.0 in
    (waiting_in came, list ∙ ap (λ s. s.list ++ waiting_in came) c.self.view_is, got ∙ ap (λ s. s.got ++ waiting_in came) c.self.view_is)

-- It is taken in.
pub invariant_of-self-in-Some : goal.invariant_of-self-in-Some
invariant_of-self-in-Some g c =
    let i = c.self.invariant in
    let old = c.self.inside.log in
    let mid = c.take_in.new.self in
    let new = c.take_in-in-Some.new.self in
    let waits = c.self.inside.next in
    let came = c.in-Some.records in
    let left = c.take_in-in-Some.new.tail in
    let was = c.take_in.ensures in
    let is = c.take_in-in-Some.ensures in
    let taken = c.in_ok-take_in.ensures.taken in
    let more = c.in_ok-take_in-in-Some.ensures.taken in
    let none = c.in_ok-take_in-in-Some.ensures.emptied in
    let before : cut_of_log mid ≡ cut_of_log old = ap (λ t. t.first - 1) was.frames.tail in
    let cut : cut_of_log new ≡ cut_of_log mid = ap (λ t. t.first - 1) is.frames.tail in
    let got_before = c.self.inside.pass.me.view.client.got in
    let got : c.receive.new.pass.me.view.client.got ≡ got_before ++ waiting_in came = ap (λ v. v.got) c.in-Some.ensures.got.0 in
    let all : records_of_log new ≡ (records_of_log old ++ waiting_in waits) ++ waiting_in came = more ∙ ap (λ l. l ++ waiting_in came) taken in
    let list : records_of_log new ++ waiting_in left ≡ (records_of_log old ++ waiting_in waits) ++ waiting_in came =
    (λ j. all j ++ none j) ∙ append-nil ((records_of_log old ++ waiting_in waits) ++ waiting_in came) in
    let next = next_number g.B.Named.cut g.B.Named.before got_before (cut_of_log old) (records_of_log old ++ waiting_in waits) i.3 in (
      i.0,
      search rules,
      search rules,
      follows_same g.B.Named.cut g.B.Named.before (got_before ++ waiting_in came) c.receive.new.pass.me.view.client.got (cut_of_log old) (cut_of_log new)
          ((records_of_log old ++ waiting_in waits) ++ waiting_in came) (records_of_log new ++ waiting_in left) got (cut ∙ before) list
          (follows_more g.B.Named.cut g.B.Named.before got_before (cut_of_log old) (records_of_log old ++ waiting_in waits) (waiting_in came) i.3),
      omega (arith, is.next, ap length none, ap length all, length-append (records_of_log old ++ waiting_in waits) (waiting_in came), c.in-Some.ensures.got.1, i.5, next, before, cut),
      i.5,
      i.6,
      i.7 ∙ ap (λ (a : Anchors). record { checkpoint = a.anchor.checkpoint; tail = a.anchor.tail; aim = c.self.inside.seat.anchor.aim }) (sym was.frames.anchors ∙ sym is.frames.anchors),
      omega (arith, i.8, before, cut, ap length was.frames.forced, ap length is.frames.forced),
      ap (λ d. size (g.L.Disk.history d)) (is.device ∙ was.device) ∙ i.9,
      λ start honest. ∥∥₁_map (i.10 start honest) (λ k.
          kept_longer mid new c.self.inside.failed (kept_longer old mid c.self.inside.failed k was.device was.frames (waiting_in waits) taken) is.device is.frames (waiting_in came) more),
      i.11,
      λ ready. absurd (true≢false (sym ready)),
    )

pub returns-in_ok-take_in-in-Some-clause-more : goal.returns-in_ok-take_in-in-Some-clause-more
returns-in_ok-take_in-in-Some-clause-more g c =
    let old = c.self.inside.log in
    let new = c.take_in-in-Some.new.self in
    let waits = c.self.inside.next in
    let came = c.in-Some.records in
    let taken = c.in_ok-take_in.ensures.taken in
    let more = c.in_ok-take_in-in-Some.ensures.taken in
    let none = c.in_ok-take_in-in-Some.ensures.emptied in
    let all : records_of_log new ≡ (records_of_log old ++ waiting_in waits) ++ waiting_in came = more ∙ ap (λ l. l ++ waiting_in came) taken in
    let list : records_of_log new ++ waiting_in c.take_in-in-Some.new.tail ≡ (records_of_log old ++ waiting_in waits) ++ waiting_in came =
    (λ j. all j ++ none j) ∙ append-nil ((records_of_log old ++ waiting_in waits) ++ waiting_in came) in
    let got : c.receive.new.pass.me.view.client.got ≡ c.self.inside.pass.me.view.client.got ++ waiting_in came = ap (λ v. v.got) c.in-Some.ensures.got.0 in
    (waiting_in came, list ∙ ap (λ s. s.list ++ waiting_in came) c.self.view_is, got ∙ ap (λ s. s.got ++ waiting_in came) c.self.view_is)

pub returns-in_ok-take_in-in-Some-clause-some : goal.returns-in_ok-take_in-in-Some-clause-some
returns-in_ok-take_in-in-Some-clause-some g c is =
    let came = waiting_in c.in-Some.records in
    let before = c.self.inside.pass.me.view.client.got in
    let got : c.receive.new.pass.me.view.client.got ≡ before ++ came = ap (λ v. v.got) c.in-Some.ensures.got.0 in
    omega (arith, ap length got, length-append before came, c.in-Some.ensures.got.2, ap (λ s. length s.got) c.self.view_is)
