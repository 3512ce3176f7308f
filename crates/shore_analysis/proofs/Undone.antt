-- An analysed log goes on by the records of undo: they mean what they have to, and no transaction comes to them.
use Rattle.std.proofs.Common.{◌≡◌, ◌≢◌, ◌⊎◌, inl, inr, ⊎_elim, ◌-◌, ◌<◌, ◌≤◌, ◌+◌, ℕ, suc, List, [], ◌∷◌, ◌++◌, refl, sym, ap, subst, ◌∙◌, length, map, take, length-append, arith}
use Rattle.std.specs.Prelude.{◌&&◌, IsTrue, nat_lt, slice_index_or}
use Rattle.std.specs.List.{AllByRecursion}
use Rattle.std.proofs.lemmas.Bool.{lt-ltb}
use Rattle.std.proofs.lemmas.List.{get_or_append_left}
use Rattle.std.proofs.lemmas.List.Elements.{All-from_recursion, recursion_from_All}
use Rattle.std.proofs.lemmas.Option.{slice_get_within}
use Rattle.shore_types.specs.declared.layout.Geometry.{Geometry}
use Rattle.shore_types.specs.declared.layout.TheConstants.{LAST_TXN}
use Rattle.shore_model.specs.declared.unanswered_changes.UnansweredChange.{UnansweredChange}
use Rattle.shore_model.specs.declared.log_records.LogRecord.{LogRecord}
use Rattle.shore_model.specs.declared.log_records.LogTxn.{LogTxn}
use Rattle.shore_model.specs.Logs.{Answers, IsEntry, IsListed, IsTable, Lists, first_number, is_over, last_of, rise_above, unanswered, undo_next_of}
use Rattle.laws_lives.specs.Undo.{IsLoser, undo_payload, undo_record}
use Rattle.laws_lives.specs.UndoChains.{IsUndoChain}
use Rattle.laws_lives.proofs.Numbers.{newest_other}
use Rattle.laws_lives.proofs.OneMore.{by_push}
use Rattle.laws_lives.proofs.Redo.{slice_get_last}
use Rattle.laws_lives.proofs.UndoChains.{unanswered_chain}
use Rattle.laws_lives.proofs.Writers.{same_or_not}
use Rattle.laws_lives.proofs.EndedTxns.{over_other}
use Rattle.shore_analysis.specs.Meant.{AreMeant, AreMeantOf, MayBeNext, IsCrowded, IsMeant, Means, MeansChange}
use Rattle.shore_analysis.specs.Passes.{entry_of}
use Rattle.shore_analysis.proofs.Answered.{last_named}
use Rattle.shore_analysis.proofs.Counted.{Among, among_listed, cases_lt, last_is_one, listed_among, rise_first}
use Rattle.shore_analysis.proofs.Listed.{is_entry}
use Rattle.shore_analysis.proofs.MeantLogs.{before_last, meant_of}
use Rattle.shore_analysis.proofs.Phases.{loser_undoable}
use Rattle.shore_analysis.specs.Sizes.{HasSizes}

-- ---- a loser's next record of undo means what it has to

module _ (g : Geometry) (rs : List LogRecord) (t : ℕ) (all : AreMeantOf g t rs) (loser : IsLoser rs t) where
  says_undo : (cs : List UnansweredChange) → unanswered t rs ≡ cs → IsUndoChain rs t cs → Means g rs t (undo_payload cs)
  says_undo [] is chain = (loser_undoable t rs loser, is)
  says_undo (c ∷ cs) is chain =
      let k = chain.0 in
      let change : MeansChange g (take (c.number - 1) rs) k.found.txn c.id = subst (λ P. P) (ap (Means g (take (c.number - 1) rs) k.found.txn) k.says) (all (c.number - 1) k.found k.here k.own).says in
      (change.0, (loser_undoable t rs loser, subst (λ xs. Answers xs c.id c.before (undo_next_of cs)) (sym is) (refl, refl, refl)))

  undo_sizes : (cs : List UnansweredChange) → IsUndoChain rs t cs → HasSizes g.version (undo_payload cs)
  undo_sizes [] chain = tt
  undo_sizes (c ∷ cs) chain = let k = chain.0 in (subst (HasSizes g.version) k.says (all (c.number - 1) k.found k.here k.own).sizes).0

  pub undo_meant : IsMeant g rs (undo_record rs t)
  undo_meant =
      let one = last_is_one rs t loser.known in
      record {
        some = loser.is_one;
        number = subst (λ u. u < LAST_TXN) one.own (all one.at one.found one.here one.own).number;
        previous = sym (last_named rs t loser.is_one);
        not_over = loser.not_over;
        sizes = undo_sizes (unanswered t rs) (unanswered_chain rs t);
        says = says_undo (unanswered t rs) refl (unanswered_chain rs t);
      }

-- ---- a table with one entry more, unless its transaction is listed

module _ (e : LogTxn) where
  place : (x : LogTxn) → List LogTxn → List LogTxn → (e.txn < x.txn) ⊎ ((e.txn ≡ x.txn) ⊎ (x.txn < e.txn)) → List LogTxn
  place x xs later (inl less) = e ∷ x ∷ xs
  place x xs later (inr (inl same)) = x ∷ xs
  place x xs later (inr (inr more)) = x ∷ later

  put : List LogTxn → List LogTxn
  put [] = e ∷ []
  put (x ∷ xs) = place x xs (put xs) (cases_lt e.txn x.txn)

  cons_rises : (low : ℕ) (x : LogTxn) (xs : List LogTxn) → low < x.txn → IsTrue (rise_above x.txn xs) → IsTrue (rise_above low (x ∷ xs))
  cons_rises low x xs lt rising = ap (λ b. b && rise_above x.txn xs) (lt-ltb low x.txn lt) ∙ rising

  place_rises : (low : ℕ) (x : LogTxn) (xs later : List LogTxn) → IsTrue (rise_above low (x ∷ xs)) → low < e.txn → (x.txn < e.txn → IsTrue (rise_above x.txn later))
      → (cases : (e.txn < x.txn) ⊎ ((e.txn ≡ x.txn) ⊎ (x.txn < e.txn))) → IsTrue (rise_above low (place x xs later cases))
  unfolding place
  place_rises low x xs later rising lt next (inl less) = cons_rises low e (x ∷ xs) lt (cons_rises e.txn x xs less (rise_first low x xs rising).1)
  place_rises low x xs later rising lt next (inr (inl same)) = rising
  place_rises low x xs later rising lt next (inr (inr more)) = cons_rises low x later (rise_first low x xs rising).0 (next more)

  put_rises : (low : ℕ) (xs : List LogTxn) → IsTrue (rise_above low xs) → low < e.txn → IsTrue (rise_above low (put xs))
  unfolding put
  put_rises low [] rising lt = cons_rises low e [] lt refl
  put_rises low (x ∷ xs) rising lt = place_rises low x xs (put xs) rising lt (λ more. put_rises x.txn xs (rise_first low x xs rising).1 more) (cases_lt e.txn x.txn)

  place_longer : (x : LogTxn) (xs later : List LogTxn) → length xs ≤ length later → (cases : (e.txn < x.txn) ⊎ ((e.txn ≡ x.txn) ⊎ (x.txn < e.txn))) → length (x ∷ xs) ≤ length (place x xs later cases)
  unfolding place
  place_longer x xs later le (inl less) = omega arith
  place_longer x xs later le (inr (inl same)) = omega arith
  place_longer x xs later le (inr (inr more)) = omega (arith, le)

  put_longer : (xs : List LogTxn) → length xs ≤ length (put xs)
  unfolding put
  put_longer [] = omega arith
  put_longer (x ∷ xs) = place_longer x xs (put xs) (put_longer xs) (cases_lt e.txn x.txn)

  module _ (P : LogTxn → Type 0) (here : P e) where
    place_all : (x : LogTxn) (xs later : List LogTxn) → AllByRecursion P (x ∷ xs) → AllByRecursion P later → (cases : (e.txn < x.txn) ⊎ ((e.txn ≡ x.txn) ⊎ (x.txn < e.txn))) → AllByRecursion P (place x xs later cases)
    unfolding place
    place_all x xs later h next (inl less) = (here, h)
    place_all x xs later h next (inr (inl same)) = h
    place_all x xs later h next (inr (inr more)) = (h.0, next)

    put_all : (xs : List LogTxn) → AllByRecursion P xs → AllByRecursion P (put xs)
    unfolding put
    put_all [] h = (here, tt)
    put_all (x ∷ xs) h = place_all x xs (put xs) h (put_all xs h.1) (cases_lt e.txn x.txn)

  place_keeps : (u : ℕ) (x : LogTxn) (xs later : List LogTxn) → Among u (x ∷ xs) → (Among u xs → Among u later) → (cases : (e.txn < x.txn) ⊎ ((e.txn ≡ x.txn) ⊎ (x.txn < e.txn))) → Among u (place x xs later cases)
  unfolding place
  place_keeps u x xs later h next (inl less) = inr h
  place_keeps u x xs later h next (inr (inl same)) = h
  place_keeps u x xs later (inl own) next (inr (inr more)) = inl own
  place_keeps u x xs later (inr rest) next (inr (inr more)) = inr (next rest)

  put_keeps : (u : ℕ) (xs : List LogTxn) → Among u xs → Among u (put xs)
  unfolding put
  put_keeps u [] h = absurd h
  put_keeps u (x ∷ xs) h = place_keeps u x xs (put xs) h (put_keeps u xs) (cases_lt e.txn x.txn)

  place_has : (x : LogTxn) (xs later : List LogTxn) → Among e.txn later → (cases : (e.txn < x.txn) ⊎ ((e.txn ≡ x.txn) ⊎ (x.txn < e.txn))) → Among e.txn (place x xs later cases)
  unfolding place
  place_has x xs later next (inl less) = inl refl
  place_has x xs later next (inr (inl same)) = inl (sym same)
  place_has x xs later next (inr (inr more)) = inr next

  put_has : (xs : List LogTxn) → Among e.txn (put xs)
  unfolding put
  put_has [] = inl refl
  put_has (x ∷ xs) = place_has x xs (put xs) (put_has xs) (cases_lt e.txn x.txn)

-- ---- no transaction comes by undo, so a log that was not crowded is not

uncrowded : (g : Geometry) (rs : List LogRecord) → AreMeant g rs → 0 < length rs → IsCrowded rs → ⊥
uncrowded g = by_push (λ rs. AreMeant g rs → 0 < length rs → IsCrowded rs → ⊥) (λ all some. absurd (omega (arith, some)))
    (λ rs r known all some crowded. (subst (λ xs. MayBeNext g xs r) (before_last rs r) (all (length rs) r (slice_get_last rs r))).1 crowded)

module _ (rs : List LogRecord) (t : ℕ) (loser : IsLoser rs t) (r : LogRecord) (its : r.txn ≡ t) where
  abbrev after : List LogRecord
  after = rs ++ r ∷ []

  abbrev back : LogTxn → LogTxn
  back e = entry_of e.txn rs

  other_txn : (u : ℕ) → t ≢ u → r.txn ≢ u
  other_txn u ne e = ne (sym its ∙ e)

  was_entry : (e : LogTxn) → IsEntry after e → IsEntry rs (back e)
  was_entry e h = is_entry rs e.txn (back e) (⊎_elim
      (λ own. record { one = h.0.is_one; known = subst (λ u. 0 < last_of u rs) own loser.known; runs = ap (λ u. is_over u rs) (sym own) ∙ loser.not_over; is = refl })
      (λ ne. record {
        one = h.0.is_one;
        known = subst (λ es. 0 < first_number es) (newest_other rs r e.txn (other_txn e.txn ne)) h.0.known;
        runs = sym (over_other rs r e.txn (other_txn e.txn ne)) ∙ h.0.not_over;
        is = refl;
      })
      (same_or_not t e.txn))

  all_were : (es : List LogTxn) → AllByRecursion (IsEntry after) es → AllByRecursion (IsEntry rs) (map back es)
  all_were [] h = tt
  all_were (e ∷ es) h = (was_entry e h.0, all_were es h.1)

  as_rising : (low : ℕ) (es : List LogTxn) → rise_above low (map back es) ≡ rise_above low es
  as_rising low [] = refl
  as_rising low (e ∷ es) = ap (λ b. nat_lt low e.txn && b) (as_rising e.txn es)

  as_long : (es : List LogTxn) → length (map back es) ≡ length es
  as_long [] = refl
  as_long (e ∷ es) = ap suc (as_long es)

  still_among : (u : ℕ) (es : List LogTxn) → Among u es → Among u (map back es)
  still_among u [] h = absurd h
  still_among u (e ∷ es) (inl own) = inl own
  still_among u (e ∷ es) (inr later) = inr (still_among u es later)

  own_entry : IsEntry rs (entry_of t rs)
  own_entry = is_entry rs t (entry_of t rs) (record { one = loser.is_one; known = loser.known; runs = loser.not_over; is = refl })

  was_table : (es : List LogTxn) → IsTable after es → IsTable rs (put (entry_of t rs) (map back es))
  was_table es table = record {
    rising = put_rises (entry_of t rs) 0 (map back es) (as_rising 0 es ∙ table.rising) loser.is_one;
    each = All-from_recursion (IsEntry rs) (put (entry_of t rs) (map back es)) (put_all (entry_of t rs) (IsEntry rs) own_entry (map back es) (all_were es (recursion_from_All (IsEntry after) es table.each)));
    every = λ k d lt one runs.
        let q = slice_index_or rs k d in
        among_listed q.txn (put (entry_of t rs) (map back es)) (⊎_elim
        (λ own. subst (λ u. Among u (put (entry_of t rs) (map back es))) own (put_has (entry_of t rs) (map back es)))
        (λ ne.
        let same : slice_index_or after k d ≡ q = get_or_append_left rs (r ∷ []) d k lt in
        let long : length after ≡ length rs + 1 = length-append rs (r ∷ []) in
        let listed : Lists es q.txn = subst (λ x. IsListed after es x) same (table.every k d (omega (arith, lt, long))) one (over_other rs r q.txn (other_txn q.txn ne) ∙ runs) in
        put_keeps (entry_of t rs) q.txn (map back es) (still_among q.txn es (listed_among q.txn es listed)))
        (same_or_not t q.txn));
  }

  pub was_crowded : IsCrowded after → IsCrowded rs
  was_crowded c =
      let long = as_long c.0 in
      let longer = put_longer (entry_of t rs) (map back c.0) in
      let many = c.2 in
      (put (entry_of t rs) (map back c.0), was_table c.0 c.1, omega (arith, long, longer, many))

pub undo_goes_on : (g : Geometry) (rs : List LogRecord) (t : ℕ) → AreMeant g rs → IsLoser rs t → MayBeNext g rs (undo_record rs t)
undo_goes_on g rs t all loser =
    let one = last_is_one rs t loser.known in
    let within = slice_get_within rs one.at one.found one.here in
    (undo_meant g rs t (meant_of g rs all t) loser, λ crowded. uncrowded g rs all (omega (arith, within)) (was_crowded rs t loser (undo_record rs t) refl crowded))
