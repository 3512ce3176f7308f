-- Whose turn it is, among the entries of the losers; and turns in their order.
use Rattle.std.proofs.Common.{◌≡◌, inl, inr, ℕ, zero, suc, List, [], ◌∷◌, ◌++◌, map, refl, sym, ap, subst, ◌∙◌, arith}
use Rattle.std.specs.List.{AllByRecursion}
use Rattle.shore_model.specs.declared.log_records.LogRecord.{LogRecord}
use Rattle.shore_model.specs.declared.log_records.LogTxn.{LogTxn}
use Rattle.shore_model.specs.Logs.{unanswered, undo_next_of}
use Rattle.laws_lives.specs.Views.{IsAmong}
use Rattle.laws_lives.specs.Undo.{IsLoser, IsUndoneTo, undo_record}
use Rattle.shore_analysis.specs.Losers.{AreEntriesOfLosers, IsEntryOfLoser, IsNextToUndo, IsUndoneInOrder, NeedNotWait}

-- who need not wait for a second need not wait for whom that need not wait for
pub wait_for_none : (m n k : ℕ) → NeedNotWait m n → NeedNotWait n k → NeedNotWait m k
wait_for_none m n k (inl none) b = inl none
wait_for_none m n k (inr a) (inl none) = let some = a.0 in absurd (omega (arith, some, none))
wait_for_none m n k (inr a) (inr b) = let more = a.1 in let less = b.1 in inr (b.0, omega (arith, more, less))

pub none_waits : (es : List LogTxn) (m n : ℕ) → NeedNotWait m n → AllByRecursion (λ x. NeedNotWait n x.undo_next) es → AllByRecursion (λ x. NeedNotWait m x.undo_next) es
none_waits [] m n first h = tt
none_waits (e ∷ es) m n first h = (wait_for_none m n e.undo_next first h.0, none_waits es m n first h.1)

pub itself : (n : ℕ) → NeedNotWait n n
itself zero = inl refl
itself (suc n) = inr (omega arith, omega arith)

pub entry_of_one : (log : List LogRecord) (es : List LogTxn) (e : LogTxn) → AllByRecursion (IsEntryOfLoser log) es → IsAmong e es → IsEntryOfLoser log e
entry_of_one log [] e h a = absurd a
entry_of_one log (x ∷ es) e h (inl same) = subst (IsEntryOfLoser log) same h.0
entry_of_one log (x ∷ es) e h (inr later) = entry_of_one log es e h.1 later

before_one : (log : List LogRecord) (n u : ℕ) (es : List LogTxn) → AllByRecursion (IsEntryOfLoser log) es → AllByRecursion (λ x. NeedNotWait n x.undo_next) es → IsAmong u (map (λ e. e.txn) es)
    → NeedNotWait n (undo_next_of (unanswered u log))
before_one log n u [] h b a = absurd a
before_one log n u (x ∷ es) h b (inl same) = subst (NeedNotWait n) (h.0.undo_next ∙ ap (λ v. undo_next_of (unanswered v log)) same) b.0
before_one log n u (x ∷ es) h b (inr later) = before_one log n u es h.1 b.1 later

pub next_to_undo : (log : List LogRecord) (es : List LogTxn) (e : LogTxn) → AreEntriesOfLosers log es → IsAmong e es → AllByRecursion (λ x. NeedNotWait e.undo_next x.undo_next) es → IsNextToUndo log e.txn
next_to_undo log es e h a first u loser =
    subst (λ n. NeedNotWait n (undo_next_of (unanswered u log))) (entry_of_one log es e h.each a).undo_next (before_one log e.undo_next u es h.each first (h.every u loser))

pub none_left : (log : List LogRecord) (es : List LogTxn) → es ≡ [] → AreEntriesOfLosers log es → (t : ℕ) → IsLoser log t → ⊥
none_left log es none h t loser = subst (λ xs. IsAmong t (map (λ e. e.txn) xs)) none (h.every t loser)

same_number : (m n : ℕ) → NeedNotWait m n → NeedNotWait n m → m ≡ n
same_number m n (inl a) (inl b) = a ∙ sym b
same_number m n (inl a) (inr b) = let some = b.0 in absurd (omega (arith, a, some))
same_number m n (inr a) (inl b) = let some = a.0 in absurd (omega (arith, b, some))
same_number m n (inr a) (inr b) = let one = a.1 in let other = b.1 in omega (arith, one, other)

-- of two whose turn it may be the numbers are the same
pub next_is_first : (log : List LogRecord) (es : List LogTxn) (e : LogTxn) (t : ℕ) → AreEntriesOfLosers log es → IsAmong e es → AllByRecursion (λ x. NeedNotWait e.undo_next x.undo_next) es
    → IsLoser log t → IsNextToUndo log t → e.undo_next ≡ undo_next_of (unanswered t log)
next_is_first log es e t h a first loser next =
    let entry = entry_of_one log es e h.each a in
    same_number e.undo_next (undo_next_of (unanswered t log)) (before_one log e.undo_next t es h.each first (h.every t loser))
    (subst (NeedNotWait (undo_next_of (unanswered t log))) (sym entry.undo_next) (next e.txn entry.loser))

-- ---- turns in their order

pub in_order_undone : (found : List LogRecord) (ts : List ℕ) (log : List LogRecord) → IsUndoneInOrder found ts log → IsUndoneTo found ts log
in_order_undone found [] log u = u
in_order_undone found (t ∷ ts) log u = (u.0, in_order_undone (found ++ undo_record found t ∷ []) ts log u.2)

pub in_order_more : (found : List LogRecord) (ts : List ℕ) (log : List LogRecord) (t : ℕ) → IsUndoneInOrder found ts log → IsLoser log t → IsNextToUndo log t
    → IsUndoneInOrder found (ts ++ t ∷ []) (log ++ undo_record log t ∷ [])
in_order_more found [] log t u loser next = (subst (λ xs. IsLoser xs t) u loser, subst (λ xs. IsNextToUndo xs t) u next, ap (λ xs. xs ++ undo_record xs t ∷ []) u)
in_order_more found (v ∷ ts) log t u loser next = (u.0, u.1, in_order_more (found ++ undo_record found v ∷ []) ts log t u.2 loser next)
