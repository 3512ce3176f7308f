-- A pass over kept records that has taken one more in knows them with that one.
use Rattle.std.proofs.Common.{◌≡◌, ◌≢◌, ⊎_elim, ◌+◌, ◌-◌, ◌<◌, ◌≤◌, ℕ, List, [], ◌∷◌, ◌++◌, Bool, true, false, cond, Option, None, Some, refl, sym, ap, subst, ◌∙◌, length, max, take, append_assoc, arith}
use Rattle.std.specs.Prelude.{◌==◌, ◌&&◌, IfSome, is_some, nat_lt, not, reverse, slice_get}
use Rattle.std.proofs.lemmas.List.{take-append-le}
use Rattle.std.proofs.lemmas.Option.{slice_get_within}
use Rattle.std.specs.BTreeMap.{get, is_at}
use Rattle.std.specs.BTreeSet.{contains}
use Rattle.std.specs.Ordering.{nat_cmp}
use Rattle.std.proofs.lemmas.Bool.{cases_Bool, eq-eqb, lt-ltb, ne_eqb, true≢false}
use Rattle.shore_types.specs.declared.layout.Geometry.{Geometry}
use Rattle.shore_model.specs.declared.log_records.LogRecord.{LogRecord}
use Rattle.shore_model.specs.declared.log_records.LogTxn.{LogTxn}
use Rattle.shore_model.specs.Logs.{first_number, is_commit, is_end, is_over, last_of}
use Rattle.laws_lives.proofs.Booleans.{or_none, or_true}
use Rattle.laws_lives.proofs.EndedTxns.{over_now, over_other, over_same}
use Rattle.laws_lives.proofs.Numbers.{last_own, newest_other}
use Rattle.laws_lives.proofs.Redo.{take_next}
use Rattle.laws_checkpoints.specs.KeptLogs.{kept_last_of, kept_records_of}
use Rattle.laws_checkpoints.specs.MeantBehind.{first_previous}
use Rattle.shore_analysis.specs.declared.kept_passes.KeptPass.{KeptPass}
use Rattle.shore_analysis.specs.KeptMeant.{IsMeantNow, IsWholeIn}
use Rattle.shore_analysis.specs.KeptPasses.{IsCutOffEntry, KnowsEnds, KnowsKept, begun_behind, entry_behind, kept_txn_after}
use Rattle.shore_analysis.specs.Meant.{AreMeantOf, IsMeant}
use Rattle.shore_analysis.specs.Padded.{padded}
use Rattle.shore_analysis.specs.Passes.{begun, entry_after, entry_at, entry_of, is_ending, is_running, over_after}
use Rattle.shore_analysis.specs.Tables.{IsNext}
use Rattle.shore_analysis.proofs.Answered.{one_or_none}
use Rattle.shore_analysis.proofs.KeptMeans.{meant_whole}
use Rattle.shore_analysis.proofs.KeptRecords.{first-first, first-later, none_kept, records-other, some_kept, whole_before, whole_first}
use Rattle.shore_analysis.proofs.KeptStandings.{running_is}
use Rattle.shore_analysis.proofs.KnownNext.{key_cases, next_next, over_next}
use Rattle.shore_analysis.proofs.MeantLogs.{before_last, own_or_last}
use Rattle.shore_analysis.proofs.OneMore.{entry-other, entry_none, goes_on, over_none}
use Rattle.shore_analysis.proofs.Padding.{behind_cut, get_padded, last_padded, length_padded, over_padded, padded-push}

-- ---- who has ended

pub running_by : (t : ℕ) → 0 < t → (rs : List LogRecord) → 0 < last_of t rs → is_over t rs ≡ false → is_running t rs ≡ true
running_by t one rs some runs = rw (lt-ltb 0 t one, lt-ltb 0 (last_of t rs) some, runs) refl

running_over : (t : ℕ) (rs : List LogRecord) → is_over t rs ≡ true → is_running t rs ≡ false
running_over t rs over = ap (λ b. nat_lt 0 t && nat_lt 0 (last_of t rs) && not b) over ∙ never (nat_lt 0 t && nat_lt 0 (last_of t rs))
  where
    never : (b : Bool) → (b && false) ≡ false
    never true = refl
    never false = refl

running-other : (t : ℕ) (rs : List LogRecord) (r : LogRecord) → r.txn ≢ t → is_running t (rs ++ r ∷ []) ≡ is_running t rs
running-other t rs r ne = λ i. nat_lt 0 t && nat_lt 0 (first_number (newest_other rs r t ne i)) && not (over_other rs r t ne i)

module _ (cut : ℕ) (before : List LogRecord) (r : LogRecord) (n : ℕ) (old new : KeptPass)
    (running : (t : ℕ) → 0 < t → get nat_cmp new.running t ≡ cond (is_at (nat_cmp r.txn) t) (kept_txn_after n r (contains nat_cmp old.over r.txn) (get nat_cmp old.running r.txn)) (get nat_cmp old.running t))
    (over : (t : ℕ) → contains nat_cmp new.over t ≡ over_after r t (contains nat_cmp old.over t)) where
  abbrev after : List LogRecord
  after = before ++ r ∷ []

  abbrev log : List LogRecord
  log = padded cut before

  abbrev push : padded cut after ≡ log ++ r ∷ []
  push = padded-push cut before r

  own_running : (knows : KnowsEnds cut before old) → 0 < r.txn → is_some (kept_txn_after n r (contains nat_cmp old.over r.txn) (get nat_cmp old.running r.txn)) ≡ is_running r.txn (log ++ r ∷ [])
  own_running knows one = ⊎_elim
      (λ ends.
      ap (λ b. is_some (cond b None (cond (contains nat_cmp old.over r.txn) (get nat_cmp old.running r.txn) (Some (entry_behind n r (get nat_cmp old.running r.txn)))))) ends
      ∙ sym (running_over r.txn (log ++ r ∷ []) (over_now log r (or_true (is_commit r.payload) (is_end r.payload) ends))))
      (λ stays.
      let none = or_none (is_commit r.payload) (is_end r.payload) stays in
      let same : is_over r.txn (log ++ r ∷ []) ≡ is_over r.txn log = over_same log r none.0 none.1 r.txn in
      let known : contains nat_cmp old.over r.txn ≡ is_over r.txn log = knows.over r.txn ∙ sym (over_padded r.txn one cut before) in
      let number = last_own log r in
      ap (λ b. is_some (cond b None (cond (contains nat_cmp old.over r.txn) (get nat_cmp old.running r.txn) (Some (entry_behind n r (get nat_cmp old.running r.txn)))))) stays
      ∙ ⊎_elim
      (λ gone.
      ap (λ b. is_some (cond b (get nat_cmp old.running r.txn) (Some (entry_behind n r (get nat_cmp old.running r.txn))))) gone
      ∙ knows.running r.txn one ∙ running_over r.txn log (sym known ∙ gone) ∙ sym (running_over r.txn (log ++ r ∷ []) (same ∙ sym known ∙ gone)))
      (λ runs.
      ap (λ b. is_some (cond b (get nat_cmp old.running r.txn) (Some (entry_behind n r (get nat_cmp old.running r.txn))))) runs
      ∙ sym (running_by r.txn one (log ++ r ∷ []) (omega (arith, number)) (same ∙ sym known ∙ runs)))
      (cases_Bool (contains nat_cmp old.over r.txn)))
      (cases_Bool (is_ending r.payload))

  pub ends_next : get nat_cmp new.running 0 ≡ None → KnowsEnds cut before old → KnowsEnds cut after new
  ends_next nobody knows = record {
    nobody = nobody;
    running = λ t one. ap is_some (running t one) ∙ ⊎_elim
        (λ own.
        ap (λ b. is_some (cond b (kept_txn_after n r (contains nat_cmp old.over r.txn) (get nat_cmp old.running r.txn)) (get nat_cmp old.running t))) own.0
        ∙ own_running knows (subst (λ u. 0 < u) (sym own.1) one) ∙ ap (λ u. is_running u (log ++ r ∷ [])) own.1)
        (λ other.
        ap (λ b. is_some (cond b (kept_txn_after n r (contains nat_cmp old.over r.txn) (get nat_cmp old.running r.txn)) (get nat_cmp old.running t))) other.0
        ∙ knows.running t one ∙ sym (running-other t log r other.1))
        (key_cases r.txn t) ∙ ap (is_running t) (sym push);
    over = λ t. over t ∙ ap (over_after r t) (knows.over t) ∙ over_next before r t;
  }

  -- ---- of a record that means what it has to

  module _ (g : Geometry) (knows : KnowsKept g cut before old) (m : IsMeantNow g cut before r) (number : n ≡ cut + 1 + length before) where
    place : n ≡ 1 + length log
    place = let long = length_padded cut before in omega (arith, number, long)

    -- one that is behind a whole transaction's entry
    same_entry : (o : Option LogTxn) → (o ≡ None → r.previous ≡ 0) → entry_behind n r o ≡ entry_after n r o
    same_entry (Some e) first = refl
    same_entry None first =
        let fresh : begun_behind n r ≡ begun r.txn n = ap (λ b. record (begun r.txn n) { first = cond b n r.previous }) (eq-eqb r.previous 0 (first refl)) in
        ap (λ e. entry_after n r (Some e)) fresh

    module _ (one : 0 < r.txn) where
      runs_log : is_over r.txn log ≡ false
      runs_log = over_padded r.txn one cut before ∙ m.not_over one

      not_over : contains nat_cmp old.over r.txn ≡ false
      not_over = knows.ends.over r.txn ∙ m.not_over one

      own_whole : IsWholeIn cut after r.txn → kept_txn_after n r (contains nat_cmp old.over r.txn) (get nat_cmp old.running r.txn) ≡ entry_at r.txn (log ++ r ∷ [])
      own_whole whole = ⊎_elim
          (λ ends.
          ap (λ b. cond b None (cond (contains nat_cmp old.over r.txn) (get nat_cmp old.running r.txn) (Some (entry_behind n r (get nat_cmp old.running r.txn))))) ends
          ∙ sym (over_none r.txn (log ++ r ∷ []) (over_now log r (or_true (is_commit r.payload) (is_end r.payload) ends))))
          (λ stays.
          let none = or_none (is_commit r.payload) (is_end r.payload) stays in
          let before_whole = whole_before cut before r whole in
          let known : get nat_cmp old.running r.txn ≡ entry_at r.txn log = knows.whole r.txn one before_whole in
          let first : entry_at r.txn log ≡ None → r.previous ≡ 0 =
          λ gone. whole_first cut before r whole (sym (last_padded r.txn one cut before) ∙ last_none gone) in
          ap (λ b. cond b None (cond (contains nat_cmp old.over r.txn) (get nat_cmp old.running r.txn) (Some (entry_behind n r (get nat_cmp old.running r.txn))))) stays
          ∙ ap (λ b. cond b (get nat_cmp old.running r.txn) (Some (entry_behind n r (get nat_cmp old.running r.txn)))) not_over
          ∙ ap (λ o. Some (entry_behind n r o)) known ∙ ap (λ e. Some e) (same_entry (entry_at r.txn log) first)
          ∙ ap (λ k. Some (entry_after k r (entry_at r.txn log))) place
          ∙ goes_on g log r (knows.meant r.txn one before_whole) (meant_whole g cut before r one whole m) none.0 none.1)
          (cases_Bool (is_ending r.payload))
        where
          last_none : entry_at r.txn log ≡ None → last_of r.txn log ≡ 0
          last_none gone = ⊎_elim (λ zero. zero) (λ some. absurd (some_none (entry_of r.txn log) (sym (ap (λ b. cond b (Some (entry_of r.txn log)) None) (running_by r.txn one log some runs_log)) ∙ gone))) (one_or_none (last_of r.txn log))
            where
              some_none : (e : LogTxn) → ◌≡◌ {A = Option LogTxn} (Some e) None → ⊥
              some_none e h = cc

      own_cut_off : (IsWholeIn cut after r.txn → ⊥) → IfSome (kept_txn_after n r (contains nat_cmp old.over r.txn) (get nat_cmp old.running r.txn)) (IsCutOffEntry cut after r.txn)
      own_cut_off off = ⊎_elim
          (λ ends. subst (λ b. IfSome (cond b None (cond (contains nat_cmp old.over r.txn) (get nat_cmp old.running r.txn) (Some (entry_behind n r (get nat_cmp old.running r.txn))))) (IsCutOffEntry cut after r.txn)) (sym ends) tt)
          (λ stays.
          subst (λ b. IfSome (cond b None (cond (contains nat_cmp old.over r.txn) (get nat_cmp old.running r.txn) (Some (entry_behind n r (get nat_cmp old.running r.txn))))) (IsCutOffEntry cut after r.txn)) (sym stays)
          (subst (λ b. IfSome (cond b (get nat_cmp old.running r.txn) (Some (entry_behind n r (get nat_cmp old.running r.txn)))) (IsCutOffEntry cut after r.txn)) (sym not_over)
          (by (get nat_cmp old.running r.txn) refl)))
          (cases_Bool (is_ending r.payload))
        where
          last_now : n ≡ kept_last_of cut r.txn after
          last_now = place ∙ sym (last_own log r) ∙ ap (last_of r.txn) (sym push) ∙ last_padded r.txn one cut after

          by : (o : Option LogTxn) → get nat_cmp old.running r.txn ≡ o → IsCutOffEntry cut after r.txn (entry_behind n r o)
          by None here =
              let none : last_of r.txn log ≡ 0 = ⊎_elim (λ zero. zero)
              (λ some. absurd (true≢false (sym (running_by r.txn one log some runs_log) ∙ sym (knows.ends.running r.txn one) ∙ ap is_some here))) (one_or_none (last_of r.txn log)) in
              let names = first-first cut before r (none_kept cut before r.txn (sym (last_padded r.txn one cut before) ∙ none)) in
              let some : (r.previous == 0) ≡ false = ne_eqb r.previous 0 (λ zero. off (names ∙ zero)) in
              record { txn = refl; first = ap (λ b. cond b n r.previous) some ∙ sym names; last = last_now }
          by (Some e) here =
              let running_now = running_is r.txn log (sym (knows.ends.running r.txn one) ∙ ap is_some here) in
              let known : 0 < kept_last_of cut r.txn before = subst (λ k. 0 < k) (last_padded r.txn one cut before) running_now.known in
              let same = first-later cut before r (some_kept cut before r.txn known) in
              let was : IsCutOffEntry cut before r.txn e = subst (λ o. IfSome o (IsCutOffEntry cut before r.txn)) here (knows.cut_off r.txn one (λ whole. off (same ∙ whole))) in
              record { txn = was.txn; first = was.first ∙ sym same; last = last_now }

    -- those of another are as before
    kept_same : (t : ℕ) → r.txn ≢ t → first_previous (kept_records_of cut t after) ≡ first_previous (kept_records_of cut t before)
    kept_same t ne = ap first_previous (records-other cut before r t ne)

    cut_off_same : (t : ℕ) (ne : r.txn ≢ t) (o : Option LogTxn) → IfSome o (IsCutOffEntry cut before t) → IfSome o (IsCutOffEntry cut after t)
    cut_off_same t ne None h = tt
    cut_off_same t ne (Some e) h = record {
      txn = h.txn;
      first = h.first ∙ sym (kept_same t ne);
      last = h.last ∙ ap (λ es. first_number (reverse es)) (sym (records-other cut before r t ne));
    }

    -- the log with the record
    meant_push : (t : ℕ) → AreMeantOf g t log → (r.txn ≡ t → IsMeant g log r) → AreMeantOf g t (log ++ r ∷ [])
    meant_push t all here k q at own = ⊎_elim
        (λ old_one.
        let within = slice_get_within log k q old_one in
        subst (λ xs. IsMeant g xs q) (sym (take-append-le k log (r ∷ []) (omega (arith, within)))) (all k q old_one own))
        (λ last.
        subst (λ xs. IsMeant g xs q) (sym (ap (λ j. take j (log ++ r ∷ [])) last.0 ∙ before_last log r))
        (subst (IsMeant g log) last.1 (here (ap (λ (x : LogRecord). x.txn) last.1 ∙ own))))
        (own_or_last log r q k at)

    pub kept_next : get nat_cmp new.running 0 ≡ None → new.next ≡ max old.next (r.txn + 1) → KnowsKept g cut after new
    kept_next nobody next = record {
      ends = ends_next nobody knows.ends;
      whole = λ t one whole. running t one ∙ ⊎_elim
          (λ own.
          ap (λ b. cond b (kept_txn_after n r (contains nat_cmp old.over r.txn) (get nat_cmp old.running r.txn)) (get nat_cmp old.running t)) own.0
          ∙ own_whole (subst (λ u. 0 < u) (sym own.1) one) (ap (λ u. first_previous (kept_records_of cut u after)) own.1 ∙ whole) ∙ ap (λ u. entry_at u (log ++ r ∷ [])) own.1)
          (λ other.
          ap (λ b. cond b (kept_txn_after n r (contains nat_cmp old.over r.txn) (get nat_cmp old.running r.txn)) (get nat_cmp old.running t)) other.0
          ∙ knows.whole t one (sym (kept_same t other.1) ∙ whole) ∙ sym (entry-other log r t other.1))
          (key_cases r.txn t) ∙ ap (entry_at t) (sym push);
      cut_off = λ t one off. subst (λ o. IfSome o (IsCutOffEntry cut after t)) (sym (running t one)) (⊎_elim
          (λ own.
          subst (λ b. IfSome (cond b (kept_txn_after n r (contains nat_cmp old.over r.txn) (get nat_cmp old.running r.txn)) (get nat_cmp old.running t)) (IsCutOffEntry cut after t)) (sym own.0)
          (subst (λ u. IfSome (kept_txn_after n r (contains nat_cmp old.over r.txn) (get nat_cmp old.running r.txn)) (IsCutOffEntry cut after u)) own.1
          (own_cut_off (subst (λ u. 0 < u) (sym own.1) one) (λ whole. off (ap (λ u. first_previous (kept_records_of cut u after)) (sym own.1) ∙ whole)))))
          (λ other.
          subst (λ b. IfSome (cond b (kept_txn_after n r (contains nat_cmp old.over r.txn) (get nat_cmp old.running r.txn)) (get nat_cmp old.running t)) (IsCutOffEntry cut after t)) (sym other.0)
          (cut_off_same t other.1 (get nat_cmp old.running t) (knows.cut_off t one (λ whole. off (kept_same t other.1 ∙ whole)))))
          (key_cases r.txn t));
      below = λ t one. ⊎_elim
          (λ own. subst (λ u. first_previous (kept_records_of cut u after) ≤ cut) own.1 (below_own (subst (λ u. 0 < u) (sym own.1) one)))
          (λ other. subst (λ k. k ≤ cut) (sym (kept_same t other.1)) (knows.below t one))
          (key_cases r.txn t);
      meant = λ t one whole. subst (AreMeantOf g t) (sym push) (⊎_elim
          (λ own.
          let its : IsWholeIn cut after r.txn = ap (λ u. first_previous (kept_records_of cut u after)) own.1 ∙ whole in
          let some : 0 < r.txn = subst (λ u. 0 < u) (sym own.1) one in
          meant_push t (subst (λ u. AreMeantOf g u log) own.1 (knows.meant r.txn some (whole_before cut before r its))) (λ e. meant_whole g cut before r some its m))
          (λ other. meant_push t (knows.meant t one (sym (kept_same t other.1) ∙ whole)) (λ e. absurd (other.1 e)))
          (key_cases r.txn t));
      next = next_next before r old.next new.next knows.next next;
    }
      where
        below_own : 0 < r.txn → first_previous (kept_records_of cut r.txn after) ≤ cut
        below_own one = ⊎_elim
            (λ whole. omega (arith, whole))
            (λ some. (m.of_cut_off one (λ whole. omega (arith, some, whole))).cut_off.below)
            (one_or_none (first_previous (kept_records_of cut r.txn after)))

-- ---- one more of several

pub ends_more : (cut : ℕ) (before rest : List LogRecord) (i : ℕ) (r : LogRecord) → slice_get rest i ≡ Some r → (n : ℕ) (old new : KeptPass) → KnowsEnds cut (before ++ take i rest) old
    → ((t : ℕ) → 0 < t → get nat_cmp new.running t ≡ cond (is_at (nat_cmp r.txn) t) (kept_txn_after n r (contains nat_cmp old.over r.txn) (get nat_cmp old.running r.txn)) (get nat_cmp old.running t))
    → ((t : ℕ) → contains nat_cmp new.over t ≡ over_after r t (contains nat_cmp old.over t)) → get nat_cmp new.running 0 ≡ None → KnowsEnds cut (before ++ take (i + 1) rest) new
ends_more cut before rest i r at n old new ends running over nobody =
    subst (λ xs. KnowsEnds cut xs new) (append_assoc before (take i rest) (r ∷ []) ∙ ap (λ xs. before ++ xs) (sym (take_next rest i r at)))
    (ends_next cut (before ++ take i rest) r n old new running over nobody ends)

-- ---- no record yet

pub kept_none : (g : Geometry) (cut : ℕ) (pass : KeptPass) → ((t : ℕ) → get nat_cmp pass.running t ≡ None) → ((t : ℕ) → contains nat_cmp pass.over t ≡ false) → IsNext [] pass.next → KnowsKept g cut [] pass
kept_none g cut pass running over next = record {
  ends = record {
    running = λ t one. ap is_some (running t) ∙ sym (not_running t one);
    over = λ t. over t;
    nobody = running 0;
  };
  whole = λ t one whole. running t ∙ sym (entry_none t (padded cut []) (last_padded t one cut []));
  cut_off = λ t one off. absurd (off refl);
  below = λ t one. omega arith;
  meant = λ t one whole n r at own. absurd (no_record t one n r at own);
  next = next;
}
  where
    not_running : (t : ℕ) → 0 < t → is_running t (padded cut []) ≡ false
    not_running t one = ap (λ k. nat_lt 0 t && nat_lt 0 k && not (is_over t (padded cut []))) (last_padded t one cut []) ∙ never (nat_lt 0 t)
      where
        never : (b : Bool) → (b && false && not (is_over t (padded cut []))) ≡ false
        never true = refl
        never false = refl

    no_record : (t : ℕ) → 0 < t → (n : ℕ) (r : LogRecord) → slice_get (padded cut []) n ≡ Some r → r.txn ≡ t → ⊥
    no_record t one n r at own =
        let le = behind_cut cut n [] r at (subst (λ u. 0 < u) (sym own) one) in
        let there : cut + (n - cut) ≡ n = omega arith in
        let gone : slice_get [] (n - cut) ≡ Some r = sym (get_padded cut (n - cut) []) ∙ ap (slice_get (padded cut [])) there ∙ at in
        none_of (n - cut) gone
      where
        none_of : (k : ℕ) → ◌≡◌ {A = Option LogRecord} (slice_get [] k) (Some r) → ⊥
        none_of k h = cc

-- ---- what is known does not speak of whom an End takes to have ended

pub knows_moved : (g : Geometry) (cut : ℕ) (before : List LogRecord) (old new : KeptPass) → KnowsKept g cut before old → new.running ≡ old.running → new.over ≡ old.over → new.next ≡ old.next
    → KnowsKept g cut before new
knows_moved g cut before old new knows running over next = record {
  ends = record {
    running = λ t one. ap (λ m. is_some (get nat_cmp m t)) running ∙ knows.ends.running t one;
    over = λ t. ap (λ m. contains nat_cmp m t) over ∙ knows.ends.over t;
    nobody = ap (λ m. get nat_cmp m 0) running ∙ knows.ends.nobody;
  };
  whole = λ t one whole. ap (λ m. get nat_cmp m t) running ∙ knows.whole t one whole;
  cut_off = λ t one off. subst (λ m. IfSome (get nat_cmp m t) (IsCutOffEntry cut before t)) (sym running) (knows.cut_off t one off);
  below = knows.below;
  meant = knows.meant;
  next = subst (IsNext before) (sym next) knows.next;
}
