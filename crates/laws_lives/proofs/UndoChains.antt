-- The chain by which undo finds the next Change.
use Rattle.std.proofs.Common.{◌≡◌, inl, inr, ⊎_elim, ◌+◌, ◌-◌, ◌<◌, ℕ, zero, suc, List, [], ◌∷◌, ◌++◌, false, Some, refl, sym, ap, subst, ◌∙◌, length, take, drop, arith}
use Rattle.std.specs.Prelude.{slice_get}
use Rattle.std.proofs.lemmas.Bool.{ne_eqb, true≢false}
use Rattle.std.proofs.lemmas.List.{take-append-le}
use Rattle.std.proofs.lemmas.Option.{slice_get_within}
use Rattle.shore_types.specs.declared.ids.Rid.{Rid}
use Rattle.shore_model.specs.declared.unanswered_changes.UnansweredChange.{UnansweredChange}
use Rattle.shore_model.specs.declared.log_records.LogRecord.{LogRecord}
use Rattle.shore_model.specs.declared.log_records.Payload.{Payload}
use Rattle.shore_model.specs.declared.log_records.Payload.TheVariants.{Change, Compensation, Commit, End, Prepare, RollbackDecided}
use Rattle.shore_types.specs.Images.{Image}
use Rattle.shore_model.specs.Logs.{Lawful, MayFollow, MaySay, Answers, has, is_over, is_commit, is_end, is_prepare, is_rollback, is_of_checkpoint, first_number, last_of, answered_by, unanswered, undo_next_of}
use Rattle.laws_lives.specs.UndoChains.{IsUndoChain, LastNamesNext, next_named_by}
use Rattle.laws_lives.proofs.EndedTxns.{over_now, over_other}
use Rattle.laws_lives.proofs.UnansweredChanges.{unanswered_other, unanswered_own}
use Rattle.laws_lives.proofs.Numbers.{last_own, newest_other}
use Rattle.laws_lives.proofs.Redo.{slice_get_last}
use Rattle.laws_lives.proofs.Writers.{by_records, same_or_not}
use Rattle.laws_lives.proofs.WritersTold.{in_doubt_parts}
use Rattle.laws_lives.proofs.OneMore.{by_push, has-not_its, has-this, has-more}

longer_get : {A : Type 0} (xs ys : List A) (n : ℕ) (x : A) → slice_get xs n ≡ Some x → slice_get (xs ++ ys) n ≡ Some x
longer_get [] ys n x h = cc
longer_get (y ∷ xs) ys zero x h = h
longer_get (y ∷ xs) ys (suc n) x h = longer_get xs ys n x h

before_last : {A : Type 0} (xs : List A) (x : A) → take (length xs) (xs ++ x ∷ []) ≡ xs
before_last [] x = refl
before_last (y ∷ xs) x = ap (λ zs. y ∷ zs) (before_last xs x)

-- ---- each unanswered Change stands at its number

chain_longer : (log more : List LogRecord) (t : ℕ) (cs : List UnansweredChange) → IsUndoChain log t cs → IsUndoChain (log ++ more) t cs
chain_longer log more t [] h = tt
chain_longer log more t (c ∷ cs) h =
    let k = h.0 in
    let within : c.number - 1 < length log = slice_get_within log (c.number - 1) k.found k.here in (
      record {
        is_one = k.is_one;
        found = k.found;
        here = longer_get log more (c.number - 1) k.found k.here;
        own = k.own;
        after = k.after;
        says = k.says;
        before = ap (unanswered t) (take-append-le (c.number - 1) log more (omega arith)) ∙ k.before;
      },
      chain_longer log more t cs h.1,
    )

chain_tail : (log : List LogRecord) (t : ℕ) (cs : List UnansweredChange) → IsUndoChain log t cs → IsUndoChain log t (drop 1 cs)
chain_tail log t [] h = tt
chain_tail log t (c ∷ cs) h = h.1

module _ (log : List LogRecord) (r : LogRecord) where
  chain_own : (p : Payload) → r.payload ≡ p → IsUndoChain log r.txn (unanswered r.txn log) → IsUndoChain (log ++ r ∷ []) r.txn (answered_by (1 + length log) p (unanswered r.txn log))
  chain_own (Change id before image) e h =
      let at : 1 + length log - 1 ≡ length log = omega arith in (
        record {
          is_one = omega arith;
          found = r;
          here = ap (slice_get (log ++ r ∷ [])) at ∙ slice_get_last log r;
          own = refl;
          after = image;
          says = e;
          before = ap (λ n. unanswered r.txn (take n (log ++ r ∷ []))) at ∙ ap (unanswered r.txn) (before_last log r);
        },
        chain_longer log (r ∷ []) r.txn (unanswered r.txn log) h,
      )
  chain_own (Compensation id image undo_next) e h = chain_tail (log ++ r ∷ []) r.txn (unanswered r.txn log) (chain_longer log (r ∷ []) r.txn (unanswered r.txn log) h)
  chain_own _ e h = chain_longer log (r ∷ []) r.txn (unanswered r.txn log) h

  chain_push : ((t : ℕ) → IsUndoChain log t (unanswered t log)) → (t : ℕ) → IsUndoChain (log ++ r ∷ []) t (unanswered t (log ++ r ∷ []))
  chain_push h t = ⊎_elim
      (λ own. subst (λ u. IsUndoChain (log ++ r ∷ []) u (unanswered u (log ++ r ∷ []))) own
      (subst (IsUndoChain (log ++ r ∷ []) r.txn) (sym (unanswered_own r.txn log r refl)) (chain_own r.payload refl (h r.txn))))
      (λ ne. subst (IsUndoChain (log ++ r ∷ []) t) (sym (unanswered_other t log r ne)) (chain_longer log (r ∷ []) t (unanswered t log) (h t)))
      (same_or_not r.txn t)

pub unanswered_chain : (log : List LogRecord) (t : ℕ) → IsUndoChain log t (unanswered t log)
unanswered_chain = by_push (λ log. (t : ℕ) → IsUndoChain log t (unanswered t log)) (λ t. tt) chain_push

-- ---- what the last record names

-- of transactions that have neither prepared nor ended
abbrev LastsNameNext : List LogRecord → Type 0
LastsNameNext log = (t : ℕ) → 0 < t → has is_prepare t log ≡ false → is_over t log ≡ false → 0 < last_of t log → LastNamesNext log t

next_answered : (cs : List UnansweredChange) (id : Rid) (image : Image) (next : ℕ) → Answers cs id image next → undo_next_of (drop 1 cs) ≡ next
next_answered [] id image next a = absurd a
next_answered (c ∷ cs) id image next a = sym a.0

module _ (log : List LogRecord) (r : LogRecord) (follows : MayFollow log r) where
  nexts_own : (p : Payload) → r.payload ≡ p → MaySay log r.txn p → is_of_checkpoint p ≡ false → has is_prepare r.txn (log ++ r ∷ []) ≡ false → is_over r.txn (log ++ r ∷ []) ≡ false
      → undo_next_of (answered_by (1 + length log) p (unanswered r.txn log)) ≡ next_named_by (1 + length log) p
  nexts_own (Change id before image) e says of unprepared runs = refl
  nexts_own (Compensation id image undo_next) e says of unprepared runs = next_answered (unanswered r.txn log) id image undo_next says.1
  nexts_own (Prepare global granules) e says of unprepared runs = absurd (true≢false (sym (has-this log r is_prepare (ap is_prepare e)) ∙ unprepared))
  nexts_own RollbackDecided e says of unprepared runs =
      absurd (true≢false (sym (has-more log r is_prepare r.txn (in_doubt_parts (has is_prepare r.txn log) (has is_commit r.txn log) (has is_rollback r.txn log) says).0) ∙ unprepared))
  nexts_own Commit e says of unprepared runs =
      absurd (true≢false (sym (over_now log r (inl (ap is_commit e))) ∙ runs))
  nexts_own End e says of unprepared runs =
      absurd (true≢false (sym (over_now log r (inr (ap is_end e))) ∙ runs))
  nexts_own _ e says of unprepared runs = cc

  nexts_push : LastsNameNext log → LastsNameNext (log ++ r ∷ [])
  nexts_push h t some unprepared runs known = ⊎_elim
      (λ own.
      let number = last_own log r in
      let at : last_of r.txn (log ++ r ∷ []) - 1 ≡ length log = omega arith in
      let of : is_of_checkpoint r.payload ≡ false = follows.of ∙ ne_eqb r.txn 0 (λ e. let is : 0 < r.txn = subst (λ u. 0 < u) (sym own) some in omega arith) in
      subst (LastNamesNext (log ++ r ∷ [])) own (record {
        is_one = (omega arith);
        found = r;
        here = ap (slice_get (log ++ r ∷ [])) at ∙ slice_get_last log r;
        own = refl;
        next =
            ap undo_next_of (unanswered_own r.txn log r refl)
            ∙ nexts_own r.payload refl follows.says of (ap (λ u. has is_prepare u (log ++ r ∷ [])) own ∙ unprepared) (ap (λ u. is_over u (log ++ r ∷ [])) own ∙ runs)
            ∙ ap (λ n. next_named_by n r.payload) (sym number);
      }))
      (λ ne.
      let records = newest_other log r t ne in
      let before = h t some (sym (has-not_its log r is_prepare t ne) ∙ unprepared) (sym (over_other log r t ne) ∙ runs) (subst (λ es. 0 < first_number es) records known) in
      let same : last_of t (log ++ r ∷ []) ≡ last_of t log = ap (λ es. first_number es) records in
      record {
        is_one = known;
        found = before.found;
        here = ap (λ n. slice_get (log ++ r ∷ []) (n - 1)) same ∙ longer_get log (r ∷ []) (last_of t log - 1) before.found before.here;
        own = before.own;
        next = ap undo_next_of (unanswered_other t log r ne) ∙ before.next ∙ ap (λ n. next_named_by n before.found.payload) (sym same);
      })
      (same_or_not r.txn t)

pub next_by_last : (log : List LogRecord) → Lawful log → LastsNameNext log
next_by_last log lawful = by_records LastsNameNext (λ t some unprepared runs known. absurd (omega arith)) (λ xs r follows h. nexts_push xs r follows h) log lawful
