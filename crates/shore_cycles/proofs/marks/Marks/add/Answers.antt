use Rattle.std.proofs.Common.{◌≡◌, ◌++◌, ◌∷◌, [], ap, sym, subst, ◌∙◌, set, length, get_or, arith}
use Rattle.std.proofs.lemmas.List.{get_or_default}
use Rattle.shore_cycles.specs.Marks.{IsIndexed}
use Rattle.shore_cycles.proofs.MarkLemmas.{indexed_more}
use Rattle.shore_cycles.proofs.marks.Marks.add.Goals as goal

pub invariant_of-self-2 : goal.invariant_of-self-2
invariant_of-self-2 c =
    let within = c.bucket_of-bucket.ensures.within in
    let buckets = c.self.invariant.buckets in
    let leads : c.index-earlier.result.now ≡ get_or c.self.inside.newest.items c.bucket_of-bucket.result 0 =
    c.index-earlier.ensures ∙ get_or_default c.self.inside.newest.items c.bucket_of-bucket.result c.index-earlier.result.now 0 (omega (arith, within, buckets)) in
    let more = c.in_ok-push.ensures.items in
    let count : c.len.result ≡ length (c.self.inside.marks.items ++ record { txn = c.args.txn; earlier = c.index-earlier.result.now } ∷ []) = (let n : c.len.result ≡ length c.push.new.self.items = omega (arith, c.len.ensures) in n ∙ ap length more) in
    subst (λ marks. IsIndexed marks (set c.self.inside.newest.items c.bucket_of-bucket.result c.len.result)) (sym more)
    (subst (λ n. IsIndexed (c.self.inside.marks.items ++ record { txn = c.args.txn; earlier = c.index-earlier.result.now } ∷ []) (set c.self.inside.newest.items c.bucket_of-bucket.result n)) (sym count)
    (indexed_more c.self.inside.marks.items c.self.inside.newest.items (record { txn = c.args.txn; earlier = c.index-earlier.result.now }) c.self.invariant c.bucket_of-bucket.result c.bucket_of-bucket.ensures.is within leads))
