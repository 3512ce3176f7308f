-- Laws of what a thread that counts up claims.
use Rattle.std.proofs.Common.{◌≡◌, ◌≤◌, ◌+◌, ◌%◌, ◌^◌, ◌<◌, ◌++◌, ◌∙◌, ℕ, zero, suc, List, [], ◌∷◌, Result, Ok, ap, sym, subst, add-one, append_assoc, arith}
use Rattle.std.specs.Int.{to_le_bytes, w64}
use Rattle.shore_types.specs.declared.faults.Fault.{Fault}
use Rattle.shore_types.specs.declared.ids.Rid.{Rid}
use Rattle.shore_model.specs.declared.calls.Answer.{Answer}
use Rattle.shore_model.specs.declared.calls.Answer.TheVariants as answer
use Rattle.shore_model.specs.declared.calls.Call.TheVariants as call
use Rattle.shore_model.specs.declared.calls.Exchange.{Exchange}
use Rattle.shore_prog.specs.Counted.{AreCounted, CountsUp}

-- four calls, one after another
pub four_calls : (told : List Exchange) (a b c d : Exchange) {one two three four : List Exchange} → one ≡ told ++ (a ∷ []) → two ≡ one ++ (b ∷ []) → three ≡ two ++ (c ∷ []) → four ≡ three ++ (d ∷ [])
    → four ≡ told ++ (a ∷ b ∷ c ∷ d ∷ [])
four_calls told a b c d e f g h =
    h ∙ ap (λ l. l ++ (d ∷ [])) (g ∙ ap (λ l. l ++ (c ∷ [])) (f ∙ ap (λ l. l ++ (b ∷ [])) e ∙ append_assoc told (a ∷ []) (b ∷ [])) ∙ append_assoc told (a ∷ b ∷ []) (c ∷ []))
    ∙ append_assoc told (a ∷ b ∷ c ∷ []) (d ∷ [])

abbrev pub counting : Rid → Result Answer Fault → Result Answer Fault → List ℕ → Result Answer Fault → Result Answer Fault → List Exchange
counting id began got text done ended =
    record { call = call.Begin; reply = began } ∷ record { call = call.GetForUpdate id; reply = got } ∷ record { call = call.Update id text; reply = done } ∷ record { call = call.Commit; reply = ended } ∷ []

pub counts_up : (known txn before ticket : ℕ) (id : Rid) {began got done ended : Result Answer Fault} {text : List ℕ} → before < 2 ^ 64 → ticket ≤ known → began ≡ Ok (answer.Began txn)
    → got ≡ Ok (answer.Got (to_le_bytes w64 before)) → text ≡ to_le_bytes w64 ((before + 1) % 2 ^ 64) → done ≡ Ok answer.Updated → ended ≡ Ok (answer.Committed ticket)
    → CountsUp known id (counting id began got text done ended)
counts_up known txn before ticket id small durable b g t d e = (txn, before, ticket, small, durable, λ i. counting id (b i) (g i) (t i) (d i) (e i))

-- a record's bytes, as a number
pub got_number : (before : ℕ) {reply : Result Answer Fault} {a : Answer} {bytes text : List ℕ} → reply ≡ Ok a → a ≡ answer.Got bytes → text ≡ bytes → text ≡ to_le_bytes w64 before
    → reply ≡ Ok (answer.Got (to_le_bytes w64 before))
got_number before is got same held = is ∙ ap Ok (got ∙ ap answer.Got (sym same ∙ held))

pub counted_later : (known later : ℕ) → known ≤ later → (id : Rid) (n : ℕ) (es : List Exchange) → AreCounted known id n es → AreCounted later id n es
counted_later known later le id zero es p = p
counted_later known later le id (suc n) es p =
    (p.0, p.1, p.2, counted_later known later le id n p.0 p.3, (p.4.0, p.4.1, p.4.2, p.4.3, omega (arith, le, p.4.4), p.4.5))

-- and after one more there is one more
pub counted_more : (known later : ℕ) → known ≤ later → (id : Rid) (n : ℕ) (told next more : List Exchange) → AreCounted known id n told → next ≡ told ++ more → CountsUp later id more
    → AreCounted later id (n + 1) next
counted_more known later le id n told next more been on up = subst (λ k. AreCounted later id k next) (sym (add-one n)) (told, more, on, counted_later known later le id n told been, up)
