-- What a thread that counts a record up claims, of its calls and their answers.
use Rattle.std.specs.Prelude.{◌≡◌, ◌≤◌, ◌<◌, ◌+◌, ◌%◌, ◌^◌, ◌++◌, ℕ, zero, suc, List, [], ◌∷◌, Ok}
use Rattle.std.specs.Int.{to_le_bytes, w64}
use Rattle.shore_types.specs.declared.ids.Rid.{Rid}
use Rattle.shore_model.specs.declared.calls.Answer.TheVariants as answer
use Rattle.shore_model.specs.declared.calls.Call.TheVariants as call
use Rattle.shore_model.specs.declared.calls.Exchange.{Exchange}

-- A transaction that counts the record up, modulo 2 to the 64th, and whose commit is durable: the record has the bytes of a number, the least first, and gets those of the next.
abbrev pub CountsUp : ℕ → Rid → List Exchange → Type 0
CountsUp known id es = (txn : ℕ) × (before : ℕ) × (ticket : ℕ) × (before < 2 ^ 64) × (ticket ≤ known)
    × (es ≡ record { call = call.Begin; reply = Ok (answer.Began txn) } ∷ record { call = call.GetForUpdate id; reply = Ok (answer.Got (to_le_bytes w64 before)) }
    ∷ record { call = call.Update id (to_le_bytes w64 ((before + 1) % 2 ^ 64)); reply = Ok answer.Updated } ∷ record { call = call.Commit; reply = Ok (answer.Committed ticket) } ∷ [])

-- so many of them, one after another, and nothing else
abbrev pub AreCounted : ℕ → Rid → ℕ → List Exchange → Type 0
AreCounted known id zero es = es ≡ []
AreCounted known id (suc n) es = (before : List Exchange) × (last : List Exchange) × (es ≡ before ++ last) × AreCounted known id n before × CountsUp known id last
