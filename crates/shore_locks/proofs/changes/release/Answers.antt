use Rattle.std.proofs.Common.{◌≡◌, ◌==◌, ℕ, List, [], Option, Some, length, arith, refl, sym, ap, subst, ◌∙◌}
use Rattle.std.specs.Prelude.{slice_get}
use Rattle.std.proofs.lemmas.List.{nil_from_length}
use Rattle.shore_types.specs.declared.locking.Granule.{Granule}
use Rattle.shore_model.specs.declared.requests.Request.{Request}
use Rattle.shore_model.specs.Requests.{AreRequests, requests_by}
use Rattle.shore_locks.specs.Grants.{given_up, granted_in_turn, passed, released, removed}
use Rattle.shore_nodes.specs.LetThrough.{TellsFirst, TellsOthers}
use Rattle.shore_nodes.specs.Tables.{Table, waiters_at}
use Rattle.shore_nodes.proofs.Passes.{none_of}
use Rattle.shore_nodes.proofs.Counts.{AreRequests-passed, AreRequests-removed, fewer_by, length-filter_most, release_on}
use Rattle.shore_locks.proofs.Tellings.{IsReleasing, releases_from, releases_on}
use Rattle.shore_locks.proofs.changes.release.Goals as goal
use Rattle.shore_locks.proofs.changes.release.Goals.{in-Quiet, in-Awaited}

-- where nobody waits a pass grants nobody
none_passed : (g : Granule) (rs : List Request) → waiters_at g rs ≡ [] → rs ≡ passed g rs
none_passed g rs none = sym (ap (λ ws. granted_in_turn ws rs) none)

pub pass-requires : goal.pass-requires
pass-requires c = subst AreRequests (sym c.in-Awaited.ensures.items.1.1) (AreRequests-removed c.in-Awaited.ensures.items.0 c.loop-count.nodes.requests c.loop-count.invariant.0)

pub returns-in-Nothing-clause-items : goal.returns-in-Nothing-clause-items
returns-in-Nothing-clause-items c =
    c.in-Nothing.ensures.items.1 ∙ sym (ap (λ mine. given_up mine c.loop-count.nodes.requests) (none_of (requests_by c.args.txn c.loop-count.nodes.requests) c.in-Nothing.ensures.items.0)) ∙ c.loop-count.invariant.1

pub returns-in-Nothing-clause-count : goal.returns-in-Nothing-clause-count
returns-in-Nothing-clause-count c =
    let gone = ap length (none_of (requests_by c.args.txn c.loop-count.nodes.requests) c.in-Nothing.ensures.items.0) in
    omega (arith, gone)

-- the first request is out, and the pass over its queue is made, and told
abbrev IsGivenUp : ℕ → List Request → List Request → Option (List ℕ) → Option (List ℕ) → Type 0
IsGivenUp t rs new told now =
    (r : Request) × (Some r ≡ slice_get (requests_by t rs) 0) × (new ≡ passed r.granule (removed r rs)) × TellsFirst r.granule (removed r rs) (passed r.granule (removed r rs)) told now

pub loop-count-preserved : goal.loop-count-preserved
loop-count-preserved c =
    let out : IsGivenUp c.args.txn c.loop-count.nodes.requests c.match-pop_first.nodes.requests c.loop-count.let_through c.match-pop_first.let_through =
    elim c.match-pop_first.branch [
      | in-Quiet w ↦ let told = w.in-Quiet.ensures.items in
          let mid = removed told.0 c.loop-count.nodes.requests in
          let none : waiters_at told.0.granule mid ≡ [] = ap (waiters_at told.0.granule) (sym told.1.1) ∙ told.2 in (
            told.0,
            told.1.0,
            ap (λ (t : Table). t.requests) w.nodes-is ∙ none_passed told.0.granule c.pop_first.new.self.requests told.2 ∙ ap (passed told.0.granule) told.1.1,
            subst (TellsFirst told.0.granule mid (passed told.0.granule mid) c.loop-count.let_through) (sym w.let_through-is) ([], ap (waiters_at told.0.granule) (none_passed told.0.granule mid none), refl),
          )
      | in-Awaited w ↦ let told = w.in-Awaited.ensures.items in
          let mid = removed told.0 c.loop-count.nodes.requests in
          let made : w.pass.new.nodes.requests ≡ passed told.0.granule mid = w.pass.ensures.items ∙ ap (λ g. passed g c.pop_first.new.self.requests) told.2 ∙ ap (passed told.0.granule) told.1.1 in (
            told.0,
            told.1.0,
            ap (λ (t : Table). t.requests) w.nodes-is ∙ made,
            subst (TellsFirst told.0.granule mid (passed told.0.granule mid) c.loop-count.let_through) (sym w.let_through-is)
                (subst (λ rs. TellsFirst told.0.granule mid rs c.loop-count.let_through w.pass.new.let_through) made
                (subst (λ rs. TellsFirst told.0.granule rs w.pass.new.nodes.requests c.loop-count.let_through w.pass.new.let_through) told.1.1
                (subst (λ g. TellsFirst g c.pop_first.new.self.requests w.pass.new.nodes.requests c.loop-count.let_through w.pass.new.let_through) told.2 w.pass.ensures.told))),
          )
    ] in
    let limit : c.match-pop_first.nodes.limit ≡ c.args.nodes.now.limit =
    elim c.match-pop_first.branch [
      | in-Quiet w ↦ ap (λ (t : Table). t.limit) w.nodes-is ∙ w.in-Quiet.ensures.limit ∙ c.loop-count.invariant.2
      | in-Awaited w ↦ ap (λ (t : Table). t.limit) w.nodes-is ∙ w.pass.ensures.limit ∙ w.in-Awaited.ensures.limit ∙ c.loop-count.invariant.2
    ] in
    let fewer = fewer_by c.args.txn c.loop-count.nodes.requests out.0 c.loop-count.invariant.0 out.1 in
    let left = ap (λ xs. length (requests_by c.args.txn xs)) out.2 in (
      subst AreRequests (sym out.2)
          (AreRequests-passed out.0.granule (removed out.0 c.loop-count.nodes.requests)
          (AreRequests-removed out.0 c.loop-count.nodes.requests c.loop-count.invariant.0)),
      ap (released c.args.txn) out.2 ∙ release_on c.args.txn c.loop-count.nodes.requests out.0 c.loop-count.invariant.0 out.1 ∙ c.loop-count.invariant.1,
      limit,
      omega (arith, fewer, left),
      λ orderly.
          subst (λ rs. IsReleasing c.args.txn c.args.nodes.now.requests c.args.let_through.now rs c.match-pop_first.let_through) (sym out.2)
          (releases_on c.args.txn c.args.nodes.now.requests c.loop-count.nodes.requests out.0 c.args.let_through.now c.loop-count.let_through c.match-pop_first.let_through out.1 out.3 (c.loop-count.invariant.4 orderly)),
    )

pub loop-count-init : goal.loop-count-init
loop-count-init c = (c.requires, refl, refl, omega arith, λ orderly. releases_from c.args.txn c.args.nodes.now.requests c.args.let_through.now orderly)

pub returns-in-Nothing-clause-told : goal.returns-in-Nothing-clause-told
returns-in-Nothing-clause-told c = λ orderly.
    subst (λ rs. TellsOthers c.args.txn c.args.nodes.now.requests rs c.args.let_through.now c.loop-count.let_through) (sym c.in-Nothing.ensures.items.1) (c.loop-count.invariant.4 orderly).2

pub returns-clause-told : goal.returns-clause-told
returns-clause-told c = λ orderly. (c.loop-count.invariant.4 orderly).2

pub returns-clause-items : goal.returns-clause-items
returns-clause-items c =
    let most = length-filter_most (λ r. r.txn == c.args.txn) c.args.nodes.now.requests in
    let gone : length (requests_by c.args.txn c.loop-count.nodes.requests) ≡ 0 = omega (arith, most) in
    sym (ap (λ mine. given_up mine c.loop-count.nodes.requests) (nil_from_length (requests_by c.args.txn c.loop-count.nodes.requests) gone)) ∙ c.loop-count.invariant.1

pub returns-clause-count : goal.returns-clause-count
returns-clause-count c =
    let most = length-filter_most (λ r. r.txn == c.args.txn) c.args.nodes.now.requests in
    omega (arith, most)
