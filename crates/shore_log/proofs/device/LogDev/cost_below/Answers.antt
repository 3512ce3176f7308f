use Rattle.std.proofs.Common.{◌≡◌, ◌≤◌, ◌+◌, ◌-◌, ◌*◌, ℕ, List, [], ◌∷◌, length, append-nil, sym, subst, ap, refl, ◌∙◌, arith}
use Rattle.std.proofs.lemmas.List.{length-take-le}
use Rattle.shore_model.specs.declared.log_records.LogRecord.{LogRecord}
use Rattle.shore_frames.specs.declared.reading.FrameAt.{FrameAt}
use Rattle.shore_frames.specs.Frames.{number_behind}
use Rattle.shore_log.specs.Indexes.{frame_with}
use Rattle.shore_log.specs.Settled.{records_of_log}
use Rattle.shore_log.proofs.CutLemmas.{is_some, listed_at, listed_most, listed_of, some_at}
use Rattle.shore_log.proofs.ForceLemmas.{unwrap}
use Rattle.shore_log.proofs.MoveLemmas.{before_frame, before_next, cost_is, same_parts}
use Rattle.shore_log.proofs.device.LogDev.cost_below.Goals as goal

pub cost_before-requires-clause-number : goal.cost_before-requires-clause-number
cost_before-requires-clause-number g c =
    let log = c.args.self.now in
    let next = log.tail.first + log.forced in
    let most = listed_most log.head next log.frames.items (listed_of log.head next log.frames.items log.listed) in
    let far = most.0 in
    let many = most.1 in
    let begins = log.begins.0 in
    let placed = log.begins.1 in
    let size : c.len.result ≡ length log.frames.items = c.len.ensures ∙ log.frames.ok.0 in
    (omega (arith, many, begins, size), omega arith)

pub returns-then-number-next-clause-freed : goal.returns-then-number-next-clause-freed
returns-then-number-next-clause-freed g c tail place groups h least =
    let log = c.args.self.now in
    let next = log.tail.first + log.forced in
    let most = listed_most log.head next log.frames.items (listed_of log.head next log.frames.items log.listed) in
    let far = most.0 in
    let many = most.1 in
    let begins = log.begins.0 in
    let placed = log.begins.1 in
    let size : c.len.result ≡ length log.frames.items = c.len.ensures ∙ log.frames.ok.0 in
    let end : FrameAt = record { first = next; place = log.head } in
    let b = before_next tail place log groups h end refl refl in
    let forced = length-take-le log.forced (records_of_log log) log.forced_inside in
    let cost : c.cost_before.result ≡ (log.head - log.tail.place) + 13 * (next - log.tail.first - length log.frames.items) = c.cost_before.ensures ∙ ap (λ (n : ℕ). (log.head - log.tail.place) + 13 * (next - log.tail.first - n)) size in (
      next,
      record {
        from = omega (arith, h.first, h.some);
        forced = omega (arith, forced, h.first, h.some);
        below = omega arith;
        cost = cost_is tail place log groups h (length log.frames.items) end c.cost_before.result b (omega (arith, many, begins)) cost;
      },
      (
        groups,
        record {
          after = [];
          parts = sym (append-nil groups);
          next_is = ap (λ (t : ℕ). t + log.forced) h.first ∙ h.number;
          below = omega arith;
          most = λ g later is. absurd cc;
        },
      ),
    )

abbrev first_long : List (List LogRecord) → ℕ
first_long [] = 0
first_long (g ∷ gs) = length g

pub cost_before-requires-2-clause-number : goal.cost_before-requires-2-clause-number
cost_before-requires-2-clause-number g c =
    let log = c.args.self.now in
    let next = log.tail.first + log.forced in
    let before = c.frames_before-before.result in
    let f = c.index.result.now in
    let within = c.frames_before-before.ensures.within (is_some c.is_empty.result _ (length log.frames.items) c.is_empty.ensures log.frames.ok.0 c.if-is_empty.false) in
    let at = some_at log.frames.items before f within c.index.ensures in
    let x = listed_at log.head next log.frames.items before f at (listed_of log.head next log.frames.items log.listed) in
    let begins = log.begins.0 in
    (omega (arith, x.from, begins), omega (arith, x.to))

pub cost_before-requires-2-clause-place : goal.cost_before-requires-2-clause-place
cost_before-requires-2-clause-place g c =
    let log = c.args.self.now in
    let next = log.tail.first + log.forced in
    let before = c.frames_before-before.result in
    let f = c.index.result.now in
    let within = c.frames_before-before.ensures.within (is_some c.is_empty.result _ (length log.frames.items) c.is_empty.ensures log.frames.ok.0 c.if-is_empty.false) in
    let at = some_at log.frames.items before f within c.index.ensures in
    let x = listed_at log.head next log.frames.items before f at (listed_of log.head next log.frames.items log.listed) in
    let begins = log.begins.0 in
    let placed = log.begins.1 in
    (omega (arith, x.before, x.from, begins, placed), omega (arith, x.behind, x.to))

pub returns-clause-freed : goal.returns-clause-freed
returns-clause-freed g c tail place groups h least =
    let log = c.args.self.now in
    let next = log.tail.first + log.forced in
    let before = c.frames_before-before.result in
    let number = c.args.number in
    let f = c.index.result.now in
    let some = is_some c.is_empty.result _ (length log.frames.items) c.is_empty.ensures log.frames.ok.0 c.if-is_empty.false in
    let within = c.frames_before-before.ensures.within some in
    let at = some_at log.frames.items before f within c.index.ensures in
    let x = listed_at log.head next log.frames.items before f at (listed_of log.head next log.frames.items log.listed) in
    let begins = log.begins.0 in
    let from : log.tail.first ≤ number = omega (arith, least, h.first) in
    let is : f ≡ frame_with number log.tail log.frames.items = unwrap (sym at ∙ c.frames_before-before.ensures.is some from) in
    let low : f.first ≤ number = subst (λ (y : FrameAt). y.first ≤ number) (sym is) (c.frames_before-before.ensures.below some from) in
    let b = before_frame tail place log groups h before f at in
    let n = c.frames_before-before.ensures.holds tail place groups h.index least (omega (arith, h.number, h.first)) in
    let same = same_parts b.gone b.left n.before (n.group ∷ n.after) before (sym b.parts ∙ n.parts) b.many n.count_is in
    let forced = length-take-le log.forced (records_of_log log) log.forced_inside in (
      f.first,
      record {
        from = omega (arith, x.from, begins, h.first, h.some);
        forced = omega (arith, x.to, forced, h.first, h.some);
        below = low;
        cost = cost_is tail place log groups h before f c.cost_before-2.result b (omega (arith, x.from, begins)) c.cost_before-2.ensures;
      },
      (
        b.gone,
        record {
          after = b.left;
          parts = b.parts;
          next_is = b.behind;
          below = low;
          most = λ g later is.
              let long : length g ≡ length n.group = ap first_long (sym is ∙ same.1) in
              let behind = ap (number_behind tail) (sym same.0) in
              omega (arith, n.last, long, behind, b.behind);
        },
      ),
    )
