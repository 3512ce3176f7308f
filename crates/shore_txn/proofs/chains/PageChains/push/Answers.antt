use Rattle.std.proofs.Common.{◌≡◌, ◌++◌, ◌∷◌, [], ap, sym, subst, ◌∙◌, set, length, arith}
use Rattle.shore_txn.specs.declared.chains.Link.{Link}
use Rattle.shore_txn.specs.Chains.{IsChained}
use Rattle.shore_txn.proofs.ChainLemmas.{chained_more}
use Rattle.shore_txn.proofs.chains.PageChains.push.Goals as goal

pub invariant_of-self : goal.invariant_of-self
invariant_of-self c =
    let old = c.args.self.now in
    let bucket = c.bucket_of-bucket.result in
    let link : Link = record { bucket = bucket; older = c.newest_of-older.result } in
    let items = c.push_reserved.ensures.items in
    let count : c.len.result ≡ length (old.links.items ++ link ∷ []) = (let n : c.len.result ≡ length c.push_reserved.new.self.items = omega (arith, c.len.ensures) in n ∙ ap length items) in
    record {
      chained = subst (IsChained c.push_reserved.new.self.items) (sym c.set_head.ensures)
          (subst (λ links. IsChained links (set old.heads.items bucket c.len.result)) (sym items)
          (subst (λ n. IsChained (old.links.items ++ link ∷ []) (set old.heads.items bucket n)) (sym count)
          (chained_more old.links.items old.heads.items link old.chained (λ none. let room = c.requires.1 in omega (arith, none, room)) c.bucket_of-bucket.ensures.inside c.newest_of-older.ensures)));
    }
