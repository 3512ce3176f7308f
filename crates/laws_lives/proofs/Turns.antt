-- What more entries leave of transactions: one that has no reply more, or quiet ones alone, has its turn as before.
use Rattle.std.proofs.Common.{◌≡◌, ◌≢◌, ◌++◌, ℕ, List, [], ◌∷◌, Bool, true, false, Option, None, Some, refl, sym, ap, subst, ◌∙◌, append-nil}
use Rattle.std.specs.Prelude.{◌==◌}
use Rattle.std.specs.List.{AllByRecursion}
use Rattle.shore_model.specs.declared.calls.Exchange.{Exchange}
use Rattle.shore_model.specs.declared.histories.Decision.{Decision}
use Rattle.shore_model.specs.declared.histories.Decision.TheVariants.{Commit, Prepare, RollBack}
use Rattle.shore_model.specs.declared.histories.Entry.{Entry}
use Rattle.shore_model.specs.declared.histories.Opening.{Opening}
use Rattle.shore_model.specs.declared.histories.Entry.TheVariants.{Asked, Exchanged, Decided}
use Rattle.shore_model.specs.declared.progress.Progress.{Progress}
use Rattle.shore_model.specs.Alone.{MayReplyAll, after, start, writes_of}
use Rattle.shore_model.specs.Histories.{calls_of, decisions, serial, writes_given}
use Rattle.shore_model.specs.Records.{Records, WriteSet, overlay}
use Rattle.laws_lives.proofs.Entries.{calls-asked, calls-decided, calls-exchanged, calls-other, decisions-decided}
use Rattle.laws_lives.proofs.Exchanges.{IsQuiet, after-push, replies-push}
use Rattle.laws_lives.proofs.Lists.{recursion-each, recursion-weaker}
use Rattle.laws_lives.specs.Soundness.{decided_txn, progress_from, progress_in, serial_after, written_by}

-- the entries are more now; the transaction has come as far as before, and its replies are right on all records on which they were
pub record KeepsTurn (o : Opening) (es more : List Entry) (t : ℕ) : Type 0 where
  pub progress : progress_in o more t ≡ progress_in o es t
  pub writes : writes_of (calls_of t more) ≡ writes_of (calls_of t es)
  pub replies : (R : Records) → MayReplyAll o.slots R start (calls_of t es) → MayReplyAll o.slots R start (calls_of t more)

kept_if_same : (o : Opening) (es more : List Entry) (t : ℕ) → calls_of t more ≡ calls_of t es → KeepsTurn o es more t
kept_if_same o es more t e = record {
  progress = ap (progress_from (writes_given o.in_doubt t)) e;
  writes = ap writes_of e;
  replies = λ R h. subst (MayReplyAll o.slots R start) (sym e) h;
}

pub kept_by_other : (o : Opening) (es : List Entry) (t u s : ℕ) (x : Exchange) → u ≢ t → KeepsTurn o es (es ++ Exchanged s u x ∷ []) t
kept_by_other o es t u s x other = kept_if_same o es _ t (calls-other es t u s x other)

pub kept_by_decided : (o : Opening) (es : List Entry) (t : ℕ) (d : Decision) → KeepsTurn o es (es ++ Decided d ∷ []) t
kept_by_decided o es t d = kept_if_same o es _ t (calls-decided es t d)

pub kept_by_asked : (o : Opening) (es : List Entry) (t n : ℕ) (b : Bool) → KeepsTurn o es (es ++ Asked n b ∷ []) t
kept_by_asked o es t n b = kept_if_same o es _ t (calls-asked es t n b)

-- a quiet reply leaves the progress
pub quiet_progress : (most : ℕ) (given : Option WriteSet) (xs : List Exchange) (x : Exchange) → IsQuiet most x → progress_from given (xs ++ x ∷ []) ≡ progress_from given xs
quiet_progress most None xs x quiet = ap (λ (p : Progress). record { writes = p.writes; saved = p.saved }) (after-push start xs x ∙ quiet.leaves (after start xs))
quiet_progress most (Some W) xs x quiet = refl

kept_by_push : (o : Opening) (es more : List Entry) (t : ℕ) (x : Exchange) → IsQuiet o.slots x → calls_of t more ≡ calls_of t es ++ x ∷ [] → KeepsTurn o es more t
kept_by_push o es more t x quiet e = record {
  progress = ap (progress_from (writes_given o.in_doubt t)) e ∙ quiet_progress o.slots (writes_given o.in_doubt t) (calls_of t es) x quiet;
  writes = ap writes_of e ∙ ap (λ (p : Progress). p.writes) (after-push start (calls_of t es) x ∙ quiet.leaves (after start (calls_of t es)));
  replies = λ R h. subst (MayReplyAll o.slots R start) (sym e) (replies-push o.slots R start (calls_of t es) x h (quiet.may R (after start (calls_of t es))));
}

-- a quiet reply leaves its own transaction too
pub kept_by_quiet : (o : Opening) (es : List Entry) (t u s : ℕ) (x : Exchange) → IsQuiet o.slots x → KeepsTurn o es (es ++ Exchanged s u x ∷ []) t
kept_by_quiet o es t u s x quiet =
    elim (u == t) as (λ b. (u == t) ≡ b → KeepsTurn o es (es ++ Exchanged s u x ∷ []) t) [
      | true ↦ λ e. kept_by_push o es _ t x quiet (calls-exchanged es t u s x true e)
      | false ↦ λ e. kept_if_same o es _ t (calls-exchanged es t u s x false e ∙ append-nil (calls_of t es))
    ] refl

-- ---- one that was not found in doubt

pub own_progress : (given : Option WriteSet) (xs : List Exchange) → given ≡ None → progress_from given xs ≡ after start xs
own_progress given xs e = ap (λ g. progress_from g xs) e

pub own_writes : (given : Option WriteSet) (xs : List Exchange) → given ≡ None → (progress_from given xs).writes ≡ writes_of xs
own_writes given xs e = ap (λ g. (progress_from g xs).writes) e

-- ---- serial records

serial-same : (v w : ℕ → WriteSet) (R : Records) (ds : List Decision) → AllByRecursion (λ d. v (decided_txn d) ≡ w (decided_txn d)) ds
    → serial v R ds ≡ serial w R ds
serial-same v w R [] h = refl
serial-same v w R (Commit t ∷ ds) h = ap (λ W. serial v (overlay R W) ds) h.0 ∙ serial-same v w (overlay R (w t)) ds h.1
serial-same v w R (Prepare t g ∷ ds) h = serial-same v w R ds h.1
serial-same v w R (RollBack t ∷ ds) h = serial-same v w R ds h.1

pub serial-push : (w : ℕ → WriteSet) (R : Records) (ds : List Decision) (t : ℕ) → serial w R (ds ++ Commit t ∷ []) ≡ overlay (serial w R ds) (w t)
serial-push w R [] t = refl
serial-push w R (Commit u ∷ ds) t = serial-push w (overlay R (w u)) ds t
serial-push w R (Prepare u g ∷ ds) t = serial-push w R ds t
serial-push w R (RollBack u ∷ ds) t = serial-push w R ds t

-- a decision that is no Commit leaves them
pub serial-passes : (w : ℕ → WriteSet) (R : Records) (ds : List Decision) (d : Decision) → serial w (serial w R ds) (d ∷ []) ≡ serial w R ds
    → serial w R (ds ++ d ∷ []) ≡ serial w R ds
serial-passes w R [] d h = h
serial-passes w R (Commit u ∷ ds) d h = serial-passes w (overlay R (w u)) ds d h
serial-passes w R (Prepare u g ∷ ds) d h = serial-passes w R ds d h
serial-passes w R (RollBack u ∷ ds) d h = serial-passes w R ds d h

-- the transactions of these decisions keep their turns
abbrev pub AreKept : Opening → List Entry → List Entry → List Decision → Type 0
AreKept o es more ds = AllByRecursion (λ d. KeepsTurn o es more (decided_txn d)) ds

pub serial-kept : (o : Opening) (es more : List Entry) (ds : List Decision) → AreKept o es more ds
    → serial (written_by o more) o.records ds ≡ serial (written_by o es) o.records ds
serial-kept o es more ds kept =
    serial-same (written_by o more) (written_by o es) o.records ds
    (recursion-weaker (λ d. KeepsTurn o es more (decided_txn d)) _ (λ d k. ap (λ (p : Progress). p.writes) k.progress) ds kept)

pub decision_after : (o : Opening) (es : List Entry) (d : Decision) → ((R : Records) → serial (written_by o (es ++ Decided d ∷ [])) R (d ∷ []) ≡ R)
    → serial_after o (es ++ Decided d ∷ []) ≡ serial_after o es
decision_after o es d passes =
    let more = es ++ Decided d ∷ [] in
    ap (serial (written_by o more) o.records) (decisions-decided es d)
    ∙ serial-passes (written_by o more) o.records (decisions es) d (passes (serial (written_by o more) o.records (decisions es)))
    ∙ serial-kept o es more (decisions es) (recursion-each (λ c. KeepsTurn o es more (decided_txn c)) (λ c. kept_by_decided o es (decided_txn c) d) (decisions es))
