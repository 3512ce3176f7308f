-- Records of undo: each may follow its log, and changes nothing of what that tells.
use Rattle.std.proofs.Common.{◌≡◌, ⊎_elim, ◌≤◌, ℕ, List, [], ◌∷◌, ◌++◌, Bool, true, false, cond, refl, sym, ap, subst, ◌∙◌, length, take, arith, append-nil, append_assoc}
use Rattle.std.specs.Prelude.{◌==◌, ◌&&◌, ◌||◌, not}
use Rattle.std.proofs.lemmas.Bool.{ne_eqb}
use Rattle.std.proofs.lemmas.List.{length-append, take_all, take-append-le}
use Rattle.shore_model.specs.declared.unanswered_changes.UnansweredChange.{UnansweredChange}
use Rattle.shore_model.specs.declared.log_records.LogRecord.{LogRecord}
use Rattle.shore_model.specs.Logs.{Lawful, MayFollow, MaySay, Answers, undo_next_of, records_told, has, is_commit, is_end, is_prepare, is_rollback, is_undoable, is_decision, is_of_checkpoint, last_of, in_doubt_in, unanswered}
use Rattle.shore_model.proofs.Beginnings.{slice_get-push, slice_get_of_take, take_of_take}
use Rattle.laws_lives.proofs.RecordsTold.{tells_same_after, in_doubt_same_after}
use Rattle.laws_lives.specs.Undo.{IsLoser, undo_payload, undo_record, IsUndoneTo}
use Rattle.laws_lives.proofs.Lists.{within_or_beyond}
use Rattle.laws_lives.proofs.Booleans.{or_none}

-- ---- lawful logs

pub lawful_next : (log : List LogRecord) (r : LogRecord) → Lawful log → MayFollow log r → Lawful (log ++ r ∷ [])
lawful_next log r lawful follows n x at = ⊎_elim
    (λ old. subst (λ xs. MayFollow xs x) (sym old.1) (lawful n x old.0))
    (λ new. subst (λ xs. MayFollow xs x) (sym new.1) (subst (MayFollow log) new.0 follows))
    (slice_get-push log r n x at)

pub lawful_front : (log : List LogRecord) (n : ℕ) → Lawful log → Lawful (take n log)
lawful_front log n lawful k x at = subst (λ xs. MayFollow xs x) (sym (take_of_take log n k x at)) (lawful k x (slice_get_of_take log n k x at))

-- ---- one record of undo

may_undo : (p c r : Bool) → (p && not c && not r) ≡ false → c ≡ false → (not p || r) ≡ true
may_undo true false true h e = refl
may_undo true false false h e = cc
may_undo true true r h e = cc
may_undo false c r h e = refl

module _ (log : List LogRecord) (t : ℕ) (loser : IsLoser log t) where
  uncommitted : has is_commit t log ≡ false
  uncommitted = (or_none (has is_commit t log) (has is_end t log) loser.not_over).0

  undoable : is_undoable t log ≡ true
  undoable = may_undo (has is_prepare t log) (has is_commit t log) (has is_rollback t log) loser.not_in_doubt uncommitted

  not_zero : (t == 0) ≡ false
  not_zero = ne_eqb t 0 (λ e. let some = loser.is_one in omega arith)

  says_undo : (cs : List UnansweredChange) → unanswered t log ≡ cs → MaySay log t (undo_payload cs)
  says_undo [] e = (undoable, e)
  says_undo (c ∷ cs) e = (undoable, answers (unanswered t log) e)
    where
      answers : (us : List UnansweredChange) → us ≡ c ∷ cs → Answers us c.id c.before (undo_next_of cs)
      answers us e = subst (λ vs. Answers vs c.id c.before (undo_next_of cs)) (sym e) (refl, refl, refl)

  undo_decides : (cs : List UnansweredChange) → is_decision (undo_payload cs) ≡ false
  undo_decides [] = refl
  undo_decides (c ∷ cs) = refl

  undo_is_of : (cs : List UnansweredChange) → is_of_checkpoint (undo_payload cs) ≡ false
  undo_is_of [] = refl
  undo_is_of (c ∷ cs) = refl

  pub undo_follows : MayFollow log (undo_record log t)
  undo_follows = record {
    of = undo_is_of (unanswered t log) ∙ sym not_zero;
    previous = sym (ap (λ b. cond b 0 (last_of t log)) not_zero);
    not_over = loser.not_over;
    says = says_undo (unanswered t log) refl;
  }

  pub undo_tells_same : records_told (log ++ undo_record log t ∷ []) ≡ records_told log
  undo_tells_same = tells_same_after log (undo_record log t) (undo_decides (unanswered t log)) uncommitted loser.not_in_doubt

  pub undo_doubts_same : in_doubt_in (log ++ undo_record log t ∷ []) ≡ in_doubt_in log
  undo_doubts_same = in_doubt_same_after log (undo_record log t) (undo_decides (unanswered t log))

-- ---- any turns

pub undone_lawful : (log : List LogRecord) (ts : List ℕ) (last : List LogRecord) → IsUndoneTo log ts last → Lawful log → Lawful last
undone_lawful log [] last u lawful = subst Lawful (sym u) lawful
undone_lawful log (t ∷ ts) last u lawful = undone_lawful (log ++ undo_record log t ∷ []) ts last u.1 (lawful_next log (undo_record log t) lawful (undo_follows log t u.0))

pub undone_tells : (log : List LogRecord) (ts : List ℕ) (last : List LogRecord) → IsUndoneTo log ts last → records_told last ≡ records_told log
undone_tells log [] last u = ap records_told u
undone_tells log (t ∷ ts) last u = undone_tells (log ++ undo_record log t ∷ []) ts last u.1 ∙ undo_tells_same log t u.0

pub undone_doubts : (log : List LogRecord) (ts : List ℕ) (last : List LogRecord) → IsUndoneTo log ts last → in_doubt_in last ≡ in_doubt_in log
undone_doubts log [] last u = ap in_doubt_in u
undone_doubts log (t ∷ ts) last u = undone_doubts (log ++ undo_record log t ∷ []) ts last u.1 ∙ undo_doubts_same log t u.0

pub undone_more : (log : List LogRecord) (ts : List ℕ) (mid : List LogRecord) (t : ℕ) → IsUndoneTo log ts mid → IsLoser mid t → IsUndoneTo log (ts ++ t ∷ []) (mid ++ undo_record mid t ∷ [])
undone_more log [] mid t u loser = (subst (λ xs. IsLoser xs t) u loser, ap (λ xs. xs ++ undo_record xs t ∷ []) u)
undone_more log (v ∷ ts) mid t u loser = (u.0, undone_more (log ++ undo_record log v ∷ []) ts mid t u.1 loser)

pub undone_grows : (log : List LogRecord) (ts : List ℕ) (last : List LogRecord) → IsUndoneTo log ts last → (more : List LogRecord) × (last ≡ log ++ more)
undone_grows log [] last u = ([], u ∙ sym (append-nil log))
undone_grows log (t ∷ ts) last u =
    let g = undone_grows (log ++ undo_record log t ∷ []) ts last u.1 in
    (undo_record log t ∷ g.0, g.1 ∙ append_assoc log (undo_record log t ∷ []) g.0)

-- A crash in the midst of undo keeps some of the turns.
pub undone_front : (log : List LogRecord) (ts : List ℕ) (last : List LogRecord) (n : ℕ) → IsUndoneTo log ts last → length log ≤ n → (us : List ℕ) × IsUndoneTo log us (take n last)
undone_front log [] last n u le = ([], ap (take n) u ∙ take_all n log le)
undone_front log (t ∷ ts) last n u le = ⊎_elim
    (λ all.
    let g = undone_grows log (t ∷ ts) last u in
    let same : n ≡ length log = omega arith in
    ([], ap (take n) g.1 ∙ take-append-le n log g.0 all ∙ take_all n log le))
    (λ more.
    let long = length-append log (undo_record log t ∷ []) in
    let rest = undone_front (log ++ undo_record log t ∷ []) ts last n u.1 (omega arith) in
    (t ∷ rest.0, (u.0, rest.1)))
    (within_or_beyond n (length log))
