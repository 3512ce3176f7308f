-- Who is let through by a pass, noted one after another.
use Rattle.std.proofs.Common.{◌≡◌, ◌<◌, ◌++◌, ◌∷◌, [], ⊎_elim, ℕ, List, Option, None, Some, length, map, take, refl, ap, sym, ◌∙◌, arith, length-take-le}
use Rattle.std.specs.Prelude.{if◌then◌else◌, nat_lt}
use Rattle.std.proofs.lemmas.Bool.{ltb-true, ltb-false}
use Rattle.std.proofs.lemmas.List.{append_assoc, map-append}
use Rattle.shore_types.specs.declared.locking.Granule.{Granule}
use Rattle.shore_model.specs.declared.requests.Request.{Request}
use Rattle.shore_nodes.specs.LetThrough.{TellsFirst, noted, noted_all}
use Rattle.shore_nodes.specs.Tables.{waiters_at}
use Rattle.shore_nodes.specs.declared.let_through.TheConstants.{MOST_TOLD}
use Rattle.shore_nodes.proofs.Members.{either}

pub noted_after : (ts us : List ℕ) (told : Option (List ℕ)) → noted_all (ts ++ us) told ≡ noted_all us (noted_all ts told)
noted_after [] us told = refl
noted_after (t ∷ ts) us told = noted_after ts us (noted t told)

abbrev txns_of : List Request → List ℕ
txns_of ws = map (λ (w : Request). w.txn) ws

-- one pass, and another over the same queue
pub tells_on : (g : Granule) (old mid new : List Request) (told now last : Option (List ℕ)) → TellsFirst g old mid told now → TellsFirst g mid new now last → TellsFirst g old new told last
tells_on g old mid new told now last first second = (
  first.0 ++ second.0,
  first.1 ∙ ap (λ ws. first.0 ++ ws) second.1 ∙ sym (append_assoc first.0 second.0 (waiters_at g new)),
  second.2 ∙ ap (noted_all (txns_of second.0)) first.2 ∙ sym (noted_after (txns_of first.0) (txns_of second.0) told) ∙ ap (λ ts. noted_all ts told) (sym (map-append (λ (w : Request). w.txn) first.0 second.0)),
)

-- .. or one waiter more
pub tells_one : (g : Granule) (old mid new : List Request) (told now : Option (List ℕ)) (w : Request) → TellsFirst g old mid told now → waiters_at g mid ≡ w ∷ waiters_at g new → TellsFirst g old new told (noted w.txn now)
tells_one g old mid new told now w first more = tells_on g old mid new told now (noted w.txn now) first (w ∷ [], more, refl)

-- ---- how they are kept

abbrev seen : ℕ → List ℕ → Option (List ℕ)
seen count txns = if nat_lt MOST_TOLD count then None else Some (take count txns)

-- there is no place for one more where there are as many as can be told, or more
pub no_place : (t count : ℕ) (txns : List ℕ) → length txns ≡ MOST_TOLD → (count < MOST_TOLD → ⊥) → noted t (seen count txns) ≡ None
no_place t count txns long full =
    ⊎_elim
    (λ more. ap (noted t) (ap (λ b. if b then None else Some (take count txns)) more))
    (λ fits.
    let most = ltb-false MOST_TOLD count fits in
    let as_many = length-take-le count txns (omega (arith, most, long)) in
    ap (noted t) (ap (λ b. if b then None else Some (take count txns)) fits)
    ∙ ap (λ b. if b then Some (take count txns ++ t ∷ []) else None)
    (⊎_elim (λ less. absurd (full (let l = ltb-true (length (take count txns)) MOST_TOLD less in omega (arith, l, as_many)))) (λ no. no) (either (nat_lt (length (take count txns)) MOST_TOLD))))
    (either (nat_lt MOST_TOLD count))
