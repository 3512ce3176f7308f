-- What a piece of work over calls has exchanged, and what may be said of it for all records that it may find.
use Rattle.std.specs.Prelude.{◌≡◌, ◌≢◌, ◌⊎◌, ◌++◌, ◌∷◌, ℕ, [], IfErr, IfOk, IsOk, List, Result, Ok, Err}
use Rattle.std.specs.FinMap.{get}
use Rattle.shore_types.specs.declared.ids.Rid.{Rid}
use Rattle.shore_types.specs.declared.faults.Fault.{Fault}
use Rattle.shore_model.specs.declared.calls.Answer.{Answer}
use Rattle.shore_model.specs.declared.calls.Answer.TheVariants.{Committed}
use Rattle.shore_model.specs.declared.calls.Call.TheVariants.{Commit}
use Rattle.shore_model.specs.declared.calls.Exchange.{Exchange}
use Rattle.shore_model.specs.declared.progress.Progress.{Progress}
use Rattle.shore_model.specs.Alone.{MayReplyAll, after}
use Rattle.shore_model.specs.Records.{Records, overlay}

-- the trail goes on from the old one by exchanges of which something holds
pub record GoesOn (P : List Exchange → Type 0) (old new : List Exchange) : Type 0 where
  pub made : List Exchange
  pub on : new ≡ old ++ made
  pub holds : P made

-- the records that a transaction sees which has come so far
abbrev pub seen : Records → Progress → Records
seen R p = overlay R p.writes

-- Whatever the records that the transaction finds at its turn, and however many slots a page has at most: if these exchanges may come to a transaction that has come so far, then something holds of where it stood and of where it stands behind them.
abbrev pub AtItsTurn : (Records → Progress → Progress → Type 0) → List Exchange → Type 0
AtItsTurn P es = (most : ℕ) (R : Records) (p : Progress) → MayReplyAll most R p es → P R p (after p es)

-- the savepoints are as they were, and so are the records of all other stores than these two
pub record Spares (nodes values : ℕ) (R : Records) (p q : Progress) : Type 0 where
  pub saved : q.saved ≡ p.saved
  pub others : (id : Rid) → id.page.store ≢ nodes → id.page.store ≢ values → get (seen R q) id ≡ get (seen R p) id

-- one exchange more, of a commit: answered by that ticket; or refused by that fault, or answered and not known to be durable
pub record NotesCommit (old new : List Exchange) (result : Result ℕ Fault) : Type 0 where
  pub reply : Result Answer Fault
  pub on : new ≡ old ++ record { call = Commit; reply = reply } ∷ []
  pub is : IfOk result (λ ticket. reply ≡ Ok (Committed ticket))
  pub refused : IfErr result (λ fault. (reply ≡ Err fault) ⊎ IsOk reply)
