-- The End of a checkpoint in a log: the first that names it, also in a longer log.
use Rattle.std.proofs.Common.{◌≡◌, ⊎_elim, ◌<◌, ◌≤◌, ◌-◌, ℕ, suc, List, [], ◌∷◌, ◌++◌, false, cond, Option, Some, None, refl, sym, ap, subst, ◌∙◌, length, take, drop, arith, take-append-drop}
use Rattle.std.specs.Prelude.{◌==◌, slice_get, IsSomeAnd}
use Rattle.std.proofs.lemmas.Bool.{eq-eqb, eqb-true, cases_Bool}
use Rattle.std.proofs.lemmas.Option.{slice_get_within}
use Rattle.shore_model.specs.declared.log_records.LogRecord.{LogRecord}
use Rattle.shore_model.specs.declared.log_records.LogTxn.{LogTxn}
use Rattle.shore_model.specs.declared.log_records.DirtyPage.{DirtyPage}
use Rattle.shore_model.specs.declared.log_records.Payload.{Payload}
use Rattle.shore_model.specs.declared.log_records.Payload.TheVariants.{Change, Compensation, Commit, End, Prepare, RollbackDecided, CheckpointBegin, CheckpointEnd, Anchor}
use Rattle.shore_model.specs.Logs.{IsAsAtBegin, IsBegin, Lawful, MaySay, is_of_checkpoint}
use Rattle.laws_lives.proofs.Lists.{length-take_most}
use Rattle.laws_checkpoints.specs.Checkpoints.{Checkpoint, end_in, end_among, end_payload, or_next_end}
use Rattle.laws_checkpoints.proofs.Lists.{front_of, length_take_le}

unwrap : {A : Type 0} {x y : A} → Some x ≡ Some y → x ≡ y
unwrap e = cc

or_assoc : (o p q : Option Checkpoint) → or_next_end o (or_next_end p q) ≡ or_next_end (or_next_end o p) q
or_assoc (Some c) p q = refl
or_assoc None p q = refl

pub end_among-append : (b : ℕ) (xs ys : List LogRecord) → end_among b (xs ++ ys) ≡ or_next_end (end_among b xs) (end_among b ys)
end_among-append b [] ys = refl
end_among-append b (x ∷ xs) ys = ap (or_next_end (end_in b x.payload)) (end_among-append b xs ys) ∙ or_assoc (end_in b x.payload) (end_among b xs) (end_among b ys)

pub end_longer : (b : ℕ) (xs ys : List LogRecord) (c : Checkpoint) → end_among b xs ≡ Some c → end_among b (xs ++ ys) ≡ Some c
end_longer b xs ys c h = end_among-append b xs ys ∙ ap (λ o. or_next_end o (end_among b ys)) h

pub end_more : (b : ℕ) (xs : List LogRecord) (n m : ℕ) (c : Checkpoint) → n ≤ m → end_among b (take n xs) ≡ Some c → end_among b (take m xs) ≡ Some c
end_more b xs n m c le h = ap (end_among b) (sym (front_of xs n m le)) ∙ end_longer b (take n xs) (drop n (take m xs)) c h

pub end_whole : (b : ℕ) (xs : List LogRecord) (n : ℕ) (c : Checkpoint) → end_among b (take n xs) ≡ Some c → end_among b xs ≡ Some c
end_whole b xs n c h = ap (end_among b) (sym (take-append-drop n xs)) ∙ end_longer b (take n xs) (drop n xs) c h

pub none_besides : (b : ℕ) (p : Payload) → is_of_checkpoint p ≡ false → end_in b p ≡ None
none_besides b (CheckpointEnd begin next txns dirty) h = cc
none_besides b (Change id before image) h = refl
none_besides b (Compensation id image undo_next) h = refl
none_besides b Commit h = refl
none_besides b End h = refl
none_besides b (Prepare global granules) h = refl
none_besides b RollbackDecided h = refl
none_besides b CheckpointBegin h = refl
none_besides b (Anchor checkpoint tail) h = refl

pub end_itself : (c : Checkpoint) → end_in c.begin (end_payload c) ≡ Some c
end_itself c = ap (λ b. cond b (Some c) None) (eq-eqb c.begin c.begin refl)

pub end_says : (b : ℕ) (p : Payload) (c : Checkpoint) → end_in b p ≡ Some c → (p ≡ end_payload c) × (c.begin ≡ b)
end_says b (CheckpointEnd begin next txns dirty) c h = ⊎_elim
    (λ own.
    let e : record { begin = begin; next = next; txns = txns; dirty = dirty } ≡ c = unwrap (sym (ap (λ x. cond x (Some (this begin next txns dirty)) None) own) ∙ h) in
    subst (λ (c : Checkpoint). (CheckpointEnd begin next txns dirty ≡ end_payload c) × (c.begin ≡ b)) e (refl, eqb-true begin b own))
    (λ other. let none : None ≡ Some c = sym (ap (λ x. cond x (Some (this begin next txns dirty)) None) other) ∙ h in cc)
    (cases_Bool (begin == b))
  where
    this : ℕ → ℕ → List LogTxn → List DirtyPage → Checkpoint
    this begin next txns dirty = record { begin = begin; next = next; txns = txns; dirty = dirty }
end_says b (Change id before image) c h = cc
end_says b (Compensation id image undo_next) c h = cc
end_says b Commit c h = cc
end_says b End c h = cc
end_says b (Prepare global granules) c h = cc
end_says b RollbackDecided c h = cc
end_says b CheckpointBegin c h = cc
end_says b (Anchor checkpoint tail) c h = cc

-- where it stands
pub record IsEndAt (rs : List LogRecord) (b : ℕ) (c : Checkpoint) : Type 0 where
  pub at : ℕ
  pub found : LogRecord
  pub here : slice_get rs at ≡ Some found
  pub says : found.payload ≡ end_payload c
  pub its : c.begin ≡ b

pub end_found : (b : ℕ) (rs : List LogRecord) (c : Checkpoint) → end_among b rs ≡ Some c → IsEndAt rs b c
end_found b [] c h = cc
end_found b (r ∷ rs) c h = by_first (end_in b r.payload) refl (end_found b rs c)
  where
    by_first : (o : Option Checkpoint) → end_in b r.payload ≡ o → (end_among b rs ≡ Some c → IsEndAt rs b c) → IsEndAt (r ∷ rs) b c
    by_first (Some d) is rest =
        let same : d ≡ c = unwrap (sym (ap (λ o. or_next_end o (end_among b rs)) is) ∙ h) in
        let says = end_says b r.payload c (is ∙ ap Some same) in
        record { at = 0; found = r; here = refl; says = says.0; its = says.1 }
    by_first None is rest =
        let later = rest (sym (ap (λ o. or_next_end o (end_among b rs)) is) ∙ h) in
        record { at = suc later.at; found = later.found; here = later.here; says = later.says; its = later.its }

-- in a lawful log its tables are as at its begin
pub record IsEndIn (log : List LogRecord) (b : ℕ) (c : Checkpoint) : Type 0 where
  pub at : ℕ
  pub within : at < length log
  pub tables : IsAsAtBegin (take at log) c.begin c.next c.txns
  pub behind : c.begin - 1 < at
  pub its : c.begin ≡ b

begin_within : (rs : List LogRecord) (b : ℕ) → IsBegin rs b → b - 1 < length rs
begin_within rs b h = by_one (slice_get rs (b - 1)) refl h.1
  where
    by_one : (o : Option LogRecord) → slice_get rs (b - 1) ≡ o → IsSomeAnd o (λ r. r.payload ≡ CheckpointBegin) → b - 1 < length rs
    by_one None e is = absurd is
    by_one (Some r) e is = slice_get_within rs (b - 1) r e

pub end_stands : (log : List LogRecord) → Lawful log → (b : ℕ) (c : Checkpoint) → end_among b log ≡ Some c → IsEndIn log b c
end_stands log lawful b c h =
    let e = end_found b log c h in
    let follows = lawful e.at e.found e.here in
    let says : MaySay (take e.at log) e.found.txn (end_payload c) = subst (MaySay (take e.at log) e.found.txn) e.says follows.says in
    let within = slice_get_within log e.at e.found e.here in
    let short = length-take_most e.at log in
    let before = begin_within (take e.at log) c.begin says.begins in
    let cut = length_take_le e.at log in
    record { at = e.at; within = within; tables = says; behind = omega arith; its = e.its }

-- no End names a begin that is not there
pub none_yet : (log : List LogRecord) → Lawful log → (b : ℕ) → length log < b → end_among b log ≡ None
none_yet log lawful b lt = by_one (end_among b log) refl
  where
    by_one : (o : Option Checkpoint) → end_among b log ≡ o → o ≡ None
    by_one None e = refl
    by_one (Some c) e =
        let at = end_stands log lawful b c e in
        let w = at.within in
        let v = at.behind in
        let u = at.its in
        absurd (omega arith)

pub none_of_zero : (log : List LogRecord) → Lawful log → end_among 0 log ≡ None
none_of_zero log lawful = by_one (end_among 0 log) refl
  where
    by_one : (o : Option Checkpoint) → end_among 0 log ≡ o → o ≡ None
    by_one None e = refl
    by_one (Some c) e =
        let at = end_stands log lawful 0 c e in
        let some = at.tables.begins.0 in
        let u = at.its in
        absurd (omega arith)
