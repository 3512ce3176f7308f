-- What a transaction has changed, record by record from its last one back, lies at or under granules.
use Rattle.std.proofs.Common.{◌≡◌, ◌≢◌, ⊎_elim, ◌+◌, ◌-◌, ◌<◌, ◌≤◌, ℕ, List, [], ◌∷◌, ◌++◌, Option, Some, None, sym, ap, subst, ◌∙◌, length, length-append, take, take_all, arith}
use Rattle.std.specs.Prelude.{slice_get}
use Rattle.std.proofs.lemmas.List.{length-take-le, take-append-le}
use Rattle.std.proofs.lemmas.List.Elements.{All-nil, All-push}
use Rattle.std.proofs.lemmas.Option.{get_or_from_slice_get, slice_get_within}
use Rattle.shore_types.specs.declared.layout.Geometry.{Geometry}
use Rattle.shore_types.specs.declared.locking.Granule.{Granule}
use Rattle.shore_model.specs.declared.log_records.LogRecord.{LogRecord}
use Rattle.shore_model.specs.Logs.{KeepsUnder, LieUnder, first_number, last_of}
use Rattle.laws_lives.proofs.Numbers.{last_own, newest_other}
use Rattle.laws_lives.proofs.OneMore.{by_push}
use Rattle.laws_lives.proofs.Redo.{slice_get_last}
use Rattle.laws_lives.proofs.Writers.{no_place, same_or_not}
use Rattle.shore_analysis.specs.Meant.{AreMeantOf}
use Rattle.shore_analysis.proofs.Answered.{last_named}
use Rattle.shore_analysis.proofs.MeantLogs.{before_last, get_in_take, longer_get, take_in_take}

module _ (t : ℕ) (gs : List Granule) where
  -- the transaction's last record, and what is so of all of them
  pub record LastIs (rs : List LogRecord) : Type 0 where
    pub found : LogRecord
    pub here : slice_get rs (last_of t rs - 1) ≡ Some found
    pub own : found.txn ≡ t
    pub most : last_of t rs ≤ length rs
    pub more : LieUnder (take (last_of t rs - 1) rs) t gs → KeepsUnder t gs found → LieUnder rs t gs

  last_other : (rs : List LogRecord) (r : LogRecord) → r.txn ≢ t → last_of t (rs ++ r ∷ []) ≡ last_of t rs
  last_other rs r ne = ap first_number (newest_other rs r t ne)

  pub last_is : (rs : List LogRecord) → 0 < last_of t rs → LastIs rs
  last_is = by_push (λ rs. 0 < last_of t rs → LastIs rs) (λ h. absurd (omega (arith, h))) one_more
    where
      one_more : (rs : List LogRecord) (r : LogRecord) → (0 < last_of t rs → LastIs rs) → 0 < last_of t (rs ++ r ∷ []) → LastIs (rs ++ r ∷ [])
      one_more rs r known some = ⊎_elim
          (λ own.
          let number : last_of t (rs ++ r ∷ []) ≡ 1 + length rs = ap (λ u. last_of u (rs ++ r ∷ [])) (sym own) ∙ last_own rs r in
          let at : last_of t (rs ++ r ∷ []) - 1 ≡ length rs = omega (arith, number) in
          record {
            found = r;
            here = ap (slice_get (rs ++ r ∷ [])) at ∙ slice_get_last rs r;
            own = own;
            most = omega (arith, number, length-append rs (r ∷ []));
            more = λ all keeps. All-push (KeepsUnder t gs) rs r (subst (λ xs. LieUnder xs t gs) (ap (λ k. take k (rs ++ r ∷ [])) at ∙ before_last rs r) all) keeps;
          })
          (λ ne.
          let same = last_other rs r ne in
          let before = known (subst (λ n. 0 < n) same some) in
          let most = before.most in
          let place : take (last_of t (rs ++ r ∷ []) - 1) (rs ++ r ∷ []) ≡ take (last_of t rs - 1) rs =
          ap (λ n. take (n - 1) (rs ++ r ∷ [])) same ∙ take-append-le (last_of t rs - 1) rs (r ∷ []) (omega (arith, most)) in
          record {
            found = before.found;
            here = ap (λ n. slice_get (rs ++ r ∷ []) (n - 1)) same ∙ longer_get rs (r ∷ []) (last_of t rs - 1) before.found before.here;
            own = before.own;
            most = omega (arith, same, most, length-append rs (r ∷ []));
            more = λ all keeps. All-push (KeepsUnder t gs) rs r (before.more (subst (λ xs. LieUnder xs t gs) place all) keeps) (λ own. absurd (ne own));
          })
          (same_or_not r.txn t)

  -- who has no record has changed nothing
  none_under : (rs : List LogRecord) → last_of t rs ≡ 0 → LieUnder rs t gs
  none_under = by_push (λ rs. last_of t rs ≡ 0 → LieUnder rs t gs) (λ h. All-nil (KeepsUnder t gs)) one_more
    where
      one_more : (rs : List LogRecord) (r : LogRecord) → (last_of t rs ≡ 0 → LieUnder rs t gs) → last_of t (rs ++ r ∷ []) ≡ 0 → LieUnder (rs ++ r ∷ []) t gs
      one_more rs r known none = ⊎_elim
          (λ own. let here : last_of t (rs ++ r ∷ []) ≡ 1 + length rs = ap (λ u. last_of u (rs ++ r ∷ [])) (sym own) ∙ last_own rs r in absurd (omega (arith, here, none)))
          (λ ne. All-push (KeepsUnder t gs) rs r (known (sym (last_other rs r ne) ∙ none)) (λ own. absurd (ne own)))
          (same_or_not r.txn t)

  last_most : (rs : List LogRecord) → last_of t rs ≤ length rs
  last_most = by_push (λ rs. last_of t rs ≤ length rs) (omega arith) one_more
    where
      one_more : (rs : List LogRecord) (r : LogRecord) → last_of t rs ≤ length rs → last_of t (rs ++ r ∷ []) ≤ length (rs ++ r ∷ [])
      one_more rs r known = ⊎_elim
          (λ own. let here : last_of t (rs ++ r ∷ []) ≡ 1 + length rs = ap (λ u. last_of u (rs ++ r ∷ [])) (sym own) ∙ last_own rs r in omega (arith, here, length-append rs (r ∷ [])))
          (λ ne. omega (arith, known, last_other rs r ne, length-append rs (r ∷ [])))
          (same_or_not r.txn t)

  -- Of the transaction's records those behind the first so many are seen, and lie under the granules; the last of the others has this number.
  pub record SeenBack (log : List LogRecord) (number counter : ℕ) : Type 0 where
    pub at : ℕ
    pub within : at ≤ length log
    pub last : number ≡ last_of t (take at log)
    pub few : number + counter ≤ length log
    pub behind : LieUnder (take at log) t gs → LieUnder log t gs

  pub none_seen : (log : List LogRecord) (number : ℕ) → number ≡ last_of t log → SeenBack log number 0
  none_seen log number is =
      let whole = take_all (length log) log (omega arith) in
      record {
        at = length log;
        within = omega arith;
        last = is ∙ ap (last_of t) (sym whole);
        few = omega (arith, is, last_most log);
        behind = λ all. subst (λ xs. LieUnder xs t gs) whole all;
      }

  module _ (log : List LogRecord) (number counter : ℕ) (seen : SeenBack log number counter) where
    -- nothing is left
    pub all_seen : number ≡ 0 → LieUnder log t gs
    all_seen none = seen.behind (none_under (take seen.at log) (sym seen.last ∙ none))

    pub within_log : 0 < number → None ≡ slice_get log (number - 1) → ⊥
    within_log some gone = let few = seen.few in no_place log (number - 1) (omega arith) (sym gone)

    -- its next record back
    pub record NextBack (r : LogRecord) : Type 0 where
      pub own : r.txn ≡ t
      pub more : LieUnder (take (number - 1) log) t gs → KeepsUnder t gs r → LieUnder log t gs

    next_back : 0 < number → (r : LogRecord) → slice_get log (number - 1) ≡ Some r → NextBack r
    next_back some r there =
        let last = seen.last in
        let front = take seen.at log in
        let one = last_is front (omega (arith, last)) in
        let most = last_most front in
        let short = length-take-le seen.at log seen.within in
        let at : slice_get front (last_of t front - 1) ≡ slice_get log (number - 1) =
        ap (λ n. slice_get front (n - 1)) (sym last) ∙ get_in_take log seen.at (number - 1) (omega (arith, last, most, short)) in
        let same : one.found ≡ r = some_is one.found r (sym one.here ∙ at ∙ there) in
        let place : take (number - 1) log ≡ take (last_of t front - 1) front =
        sym (ap (λ n. take (n - 1) front) (sym last) ∙ take_in_take log seen.at (number - 1) (omega (arith, last, most, short))) in
        record {
          own = ap (λ x. x.txn) (sym same) ∙ one.own;
          more = λ all keeps. seen.behind (one.more (subst (λ xs. LieUnder xs t gs) place all) (subst (KeepsUnder t gs) (sym same) keeps));
        }
      where
        value : LogRecord → Option LogRecord → LogRecord
        value d None = d
        value d (Some x) = x

        some_is : (a b : LogRecord) → ◌≡◌ {A = Option LogRecord} (Some a) (Some b) → a ≡ b
        some_is a b e = ap (value a) e

    pub one_out : 0 < number → (r : LogRecord) → slice_get log (number - 1) ≡ Some r → (KeepsUnder t gs r → ⊥) → LieUnder log t gs → ⊥
    one_out some r there out all =
        let within = slice_get_within log (number - 1) r there in
        out (subst (KeepsUnder t gs) (get_or_from_slice_get log (number - 1) r r there) (all (number - 1) r within))

    pub own_back : 0 < number → (r : LogRecord) → slice_get log (number - 1) ≡ Some r → r.txn ≡ t
    own_back some r there = (next_back some r there).own

    pub one_back : (g : Geometry) → AreMeantOf g t log → 0 < t → 0 < number → (r : LogRecord) → slice_get log (number - 1) ≡ Some r → KeepsUnder t gs r
        → SeenBack log r.previous (counter + 1)
    one_back g meant some_txn some r there keeps =
        let back = next_back some r there in
        let here = meant (number - 1) r there back.own in
        let few = seen.few in
        let before = take (number - 1) log in
        let last : r.previous ≡ last_of t before = here.previous ∙ last_named before r.txn here.some ∙ ap (λ u. last_of u before) back.own in
        let most = last_most before in
        let short = length-take-le (number - 1) log (omega arith) in
        record {
          at = number - 1;
          within = omega arith;
          last = last;
          few = omega (arith, last, most, short);
          behind = λ all. back.more all keeps;
        }
