-- What one call of the manager comes to, for all records that its transaction may find at its turn.
use Rattle.std.specs.Prelude.{◌≡◌, ◌≢◌, List, ℕ, None, Option, Result, Ok, Err, Some}
use Rattle.std.specs.FinMap.{get, insert}
use Rattle.shore_types.specs.declared.ids.Rid.{Rid}
use Rattle.shore_model.specs.declared.calls.Exchange.{Exchange}
use Rattle.shore_model.specs.declared.progress.Progress.{Progress}
use Rattle.shore_model.specs.Records.{Records}
use Rattle.shore_keys.specs.declared.refusals.Refusal.{Refusal}
use Rattle.shore_keys.specs.declared.refusals.Refusal.TheVariants.{Damaged}
use Rattle.shore_keys.specs.Exchanges.{AtItsTurn, seen}

-- the record there is this; or the call is refused, and not because the answer was none of a get
abbrev pub HasGot : Records → Rid → Result (List ℕ) Refusal → Type 0
HasGot R id (Ok bytes) = get R id ≡ Some bytes
HasGot R id (Err fault) = fault ≢ Damaged

-- A get changes nothing, and answers what is there.
abbrev pub Gets : Rid → Result (List ℕ) Refusal → List Exchange → Type 0
Gets id result = AtItsTurn (λ R p q. (q ≡ p) × HasGot (seen R p) id result)

-- the transaction has come so much further as one image; the savepoints are as they were
abbrev pub wrote : Progress → Rid → List ℕ → Progress
wrote p id bytes = record p { writes = insert p.writes id (Some bytes) }

-- .. as one record that is gone
abbrev pub removed : Progress → Rid → Progress
removed p id = record p { writes = insert p.writes id None }

-- the record is at a place where none was; or nothing changed
abbrev pub HasInserted : Records → ℕ → List ℕ → Progress → Progress → Result Rid Refusal → Type 0
HasInserted R store bytes p q (Ok id) = (get R id ≡ None) × (id.page.store ≡ store) × (q ≡ wrote p id bytes)
HasInserted R store bytes p q (Err fault) = (fault ≢ Damaged) × (q ≡ p)

abbrev pub Inserts : ℕ → List ℕ → Result Rid Refusal → List Exchange → Type 0
Inserts store bytes result = AtItsTurn (λ R p q. HasInserted (seen R p) store bytes p q result)

-- the record is this now; or nothing changed
abbrev pub HasUpdated : {A : Type 0} → Rid → List ℕ → Progress → Progress → Result A Refusal → Type 0
HasUpdated id bytes p q (Ok done) = q ≡ wrote p id bytes
HasUpdated id bytes p q (Err fault) = (fault ≢ Damaged) × (q ≡ p)

abbrev pub Updates : {A : Type 0} → Rid → List ℕ → Result A Refusal → List Exchange → Type 0
Updates id bytes result = AtItsTurn (λ R p q. HasUpdated id bytes p q result)

-- the record is gone; or nothing changed
abbrev pub HasDeleted : {A : Type 0} → Rid → Progress → Progress → Result A Refusal → Type 0
HasDeleted id p q (Ok done) = q ≡ removed p id
HasDeleted id p q (Err fault) = (fault ≢ Damaged) × (q ≡ p)

abbrev pub Deletes : {A : Type 0} → Rid → Result A Refusal → List Exchange → Type 0
Deletes id result = AtItsTurn (λ R p q. HasDeleted id p q result)

-- A lock that is tried changes nothing, and says nothing of records.
abbrev pub Tries : List Exchange → Type 0
Tries = AtItsTurn (λ R p q. q ≡ p)
