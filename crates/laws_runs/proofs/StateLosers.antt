-- The log of a state with room is roomy: its losers and those in doubt in it are those under way that have a record, and there are no more than there may be.
use Rattle.std.proofs.Common.{◌≡◌, ◌≢◌, inl, inr, ⊎_elim, ◌+◌, ◌<◌, ◌≤◌, ℕ, zero, suc, List, [], ◌∷◌, Bool, true, false, cond, refl, sym, ap, subst, ◌∙◌, length, arith}
use Rattle.std.specs.Prelude.{◌==◌, All, IsTrue, not}
use Rattle.std.specs.List.{AllByRecursion}
use Rattle.std.proofs.lemmas.Bool.{cases_Bool}
use Rattle.std.proofs.lemmas.List.{length-map}
use Rattle.std.proofs.lemmas.List.Elements.{recursion_from_All}
use Rattle.shore_types.specs.declared.ids.PageId.{PageId}
use Rattle.shore_types.specs.declared.layout.Geometry.{Geometry}
use Rattle.shore_types.specs.declared.layout.TheConstants.{MAX_TRANSACTIONS}
use Rattle.shore_types.specs.declared.versions.Version.{Version}
use Rattle.shore_model.specs.declared.histories.Entry.{Entry}
use Rattle.shore_model.specs.declared.histories.Opening.{Opening}
use Rattle.shore_model.specs.declared.log_records.LogTxn.{LogTxn}
use Rattle.shore_model.specs.Logs.{IsEntry, is_in_doubt, is_over, last_of, rise_above}
use Rattle.shore_analysis.proofs.Counted.{rise_first}
use Rattle.shore_analysis.specs.Meant.{IsCrowded, IsInBounds}
use Rattle.laws_calls.proofs.Links.{shorter_without}
use Rattle.laws_calls.proofs.Sessions.{AreSessionsAfter}
use Rattle.laws_calls.specs.CallHistories.{IsRoomyState}
use Rattle.laws_calls.specs.States.{State}
use Rattle.laws_lives.proofs.WholeLogs.{image_in_place}
use Rattle.laws_lives.proofs.DoubtSteps.{doubt_is_prepared}
use Rattle.laws_lives.specs.Doubts.{NeedMore, doubts_in, pair_logged}
use Rattle.laws_lives.specs.WholeLogs.{IsWholeLog}
use Rattle.laws_lives.specs.Undo.{IsLoser}
use Rattle.laws_room.proofs.Leaving.{left_keeps}
use Rattle.laws_room.specs.Claims.{Claimed}
use Rattle.laws_room.specs.LogRooms.{owed, owed_by_all}
use Rattle.laws_lives.proofs.Members.{among_without, member_stays, txn_among, txn_of_one, txn_stays}
use Rattle.laws_lives.specs.Sessions.{EachOnce, SessionTxn, pair_of, txns_of, without_txn}
use Rattle.laws_lives.specs.Views.{IsAmong}
use Rattle.laws_runs.proofs.DoubtsThere.{doubt_known, doubt_there}
use Rattle.laws_runs.proofs.SlotCounts.{same_claimed}
use Rattle.laws_runs.specs.RoomyLogs.{AreUndecided, IsRoomyLog, IsUndecided}
use Rattle.laws_runs.specs.SlotCounts.{slot_count}

-- ---- a table of transactions under way is no longer than their list

-- the transactions of a list, but for one that is below them
stay_without : (t low : ℕ) (undos : List SessionTxn) (es : List LogTxn) → t ≤ low → IsTrue (rise_above low es) → AllByRecursion (λ e. IsAmong e.txn (txns_of undos)) es
    → AllByRecursion (λ e. IsAmong e.txn (txns_of (without_txn t undos))) es
stay_without t low undos [] le rising all = tt
stay_without t low undos (e ∷ es) le rising all =
    let first = rise_first low e es rising in
    let less = first.0 in
    let other : e.txn ≢ t = λ same. no_less t (subst (λ n. t < n) same (omega (arith, le, less))) in
    (txn_stays t e.txn undos all.0 other, stay_without t e.txn undos es (omega (arith, le, less)) first.1 all.1)
  where
    no_less : (n : ℕ) → n < n → ⊥
    no_less n less = omega arith

table_within : (low : ℕ) (es : List LogTxn) (undos : List SessionTxn) → IsTrue (rise_above low es) → AllByRecursion (λ e. IsAmong e.txn (txns_of undos)) es → length es ≤ length undos
table_within low [] undos rising all = omega arith
table_within low (e ∷ es) undos rising all =
    let a = txn_of_one e.txn undos all.0 in
    let first = rise_first low e es rising in
    let rest = table_within e.txn es (without_txn e.txn undos) first.1 (stay_without e.txn e.txn undos es (omega arith) first.1 all.1) in
    let shorter = subst (λ t. length (without_txn t undos) + 1 ≤ length undos) a.2 (shorter_without a.0 undos a.1) in
    omega (arith, rest, shorter)

-- ---- the transactions that have a record

pub owed_less : (t : ℕ) (undos : List SessionTxn) → owed_by_all (without_txn t undos) ≤ owed_by_all undos
owed_less t [] = omega arith
owed_less t (a ∷ undos) = by (not (a.txn == t)) (owed_less t undos)
  where
    by : (b : Bool) → owed_by_all (without_txn t undos) ≤ owed_by_all undos → owed_by_all (cond b (a ∷ without_txn t undos) (without_txn t undos)) ≤ owed a + owed_by_all undos
    by true rest = omega (arith, rest)
    by false rest = omega (arith, rest)

module _ (v : Version) (s : State) where
  -- what is left of a list once those of `todo` are taken out that have no record
  record HasLeft (todo undos : List SessionTxn) : Type 0 where
    left : List SessionTxn
    pages : Claimed v s.sessions.records left s.counts
    owed : owed_by_all left ≤ owed_by_all undos
    from : (a : SessionTxn) → IsAmong a left → IsAmong a undos
    keeps : (a : SessionTxn) → IsAmong a undos → 0 < last_of a.txn s.log → IsAmong a left
    known : (a : SessionTxn) → IsAmong a todo → IsAmong a left → 0 < last_of a.txn s.log

  take_out : (todo undos : List SessionTxn) → EachOnce (txns_of todo) → ((a : SessionTxn) → IsAmong a todo → IsAmong a undos) → Claimed v s.sessions.records undos s.counts → HasLeft todo undos
  take_out [] undos once within claimed = record { left = undos; pages = claimed; owed = omega arith; from = λ a m. m; keeps = λ a m known. m; known = λ a m. absurd m }
  take_out (a ∷ todo) undos once within claimed = by (last_of a.txn s.log) refl (take_out todo)
    where
      others_within : (b : SessionTxn) → IsAmong b todo → IsAmong b (without_txn a.txn undos)
      others_within b m = member_stays a.txn b undos (within b (inr m)) (λ same. once.0 (subst (λ t. IsAmong t (txns_of todo)) same (txn_among b todo m)))

      by : (n : ℕ) → last_of a.txn s.log ≡ n
          → ((undos : List SessionTxn) → EachOnce (txns_of todo) → ((b : SessionTxn) → IsAmong b todo → IsAmong b undos) → Claimed v s.sessions.records undos s.counts → HasLeft todo undos)
          → HasLeft (a ∷ todo) undos
      by zero is later =
          let rest = later (without_txn a.txn undos) once.1 others_within (left_keeps v s.sessions.records undos s.counts claimed a (within a (inl refl))) in
          record {
            left = rest.left;
            pages = rest.pages;
            owed = let less = owed_less a.txn undos in let more = rest.owed in omega (arith, less, more);
            from = λ b m. (among_without a.txn b undos (rest.from b m)).0;
            keeps = λ b m known. rest.keeps b (member_stays a.txn b undos m (λ same. unknown (subst (λ t. 0 < last_of t s.log) same known))) known;
            known = λ b m in_left. ⊎_elim
                (λ same. absurd ((among_without a.txn b undos (rest.from b in_left)).1 (ap (λ (x : SessionTxn). x.txn) (sym same))))
                (λ later. rest.known b later in_left)
                m;
          }
        where
          unknown : 0 < last_of a.txn s.log → ⊥
          unknown known = omega (arith, is, known)
      by (suc n) is later =
          let rest = later undos once.1 (λ b m. within b (inr m)) claimed in
          record {
            left = rest.left;
            pages = rest.pages;
            owed = rest.owed;
            from = rest.from;
            keeps = rest.keeps;
            known = λ b m in_left. ⊎_elim
                (λ same. subst (λ (x : SessionTxn). 0 < last_of x.txn s.log) same (omega (arith, is)))
                (λ later. rest.known b later in_left)
                m;
          }

-- ---- the log of a state with room is roomy

module _ (g : Geometry) (base : ℕ) (o : Opening) (es : List Entry) (s : State) (k : AreSessionsAfter base o es s.sessions s.log) (roomy : IsRoomyState g.version s) (few : length s.sessions.active ≤ MAX_TRANSACTIONS)
    (whole : IsWholeLog s.log s.sessions) (counts : (p : PageId) → s.counts p ≡ slot_count s.log p) (inside : All (IsInBounds g) s.log)
    (losers : (t : ℕ) → IsLoser s.log t → IsAmong t (txns_of s.sessions.active)) (places : NeedMore g.max_locks (doubts_in s.log) → ⊥) where
  -- who is in doubt is prepared, and under way
  doubt_under_way : (t : ℕ) → is_in_doubt t s.log ≡ true → IsAmong t (txns_of s.sessions.active)
  doubt_under_way t doubt =
      let d = doubt_there t s.log doubt in
      subst (λ u. IsAmong u (txns_of s.sessions.active)) d.2 (k.agree.under_way d.0.txn (doubt_is_prepared k.sound k.logged k.doubts d.0 d.1))

  undecided_under_way : (t : ℕ) → IsUndecided s.log t → IsAmong t (txns_of s.sessions.active)
  undecided_under_way t (inl loser) = losers t loser
  undecided_under_way t (inr doubt) = doubt_under_way t doubt

  loser_or_doubt : (t : ℕ) → 0 < t → 0 < last_of t s.log → is_over t s.log ≡ false → IsUndecided s.log t
  loser_or_doubt t some known not_over =
      ⊎_elim (λ doubt. inr doubt) (λ none. inl (record { is_one = some; known = known; not_over = not_over; not_in_doubt = none })) (cases_Bool (is_in_doubt t s.log))

  not_crowded : IsCrowded s.log → ⊥
  not_crowded crowded =
      let within = table_within 0 crowded.0 s.sessions.active crowded.1.rising (all_under_way crowded.0 (recursion_from_All (IsEntry s.log) crowded.0 crowded.1.each)) in
      let many = crowded.2 in
      omega (arith, within, many, few)
    where
      all_under_way : (txns : List LogTxn) → AllByRecursion (IsEntry s.log) txns → AllByRecursion (λ e. IsAmong e.txn (txns_of s.sessions.active)) txns
      all_under_way [] all = tt
      all_under_way (e ∷ txns) all = (undecided_under_way e.txn (loser_or_doubt e.txn all.0.0.is_one all.0.0.known all.0.0.not_over), all_under_way txns all.1)

  as_undecided : (a : SessionTxn) → IsAmong a s.sessions.active → 0 < last_of a.txn s.log → IsUndecided s.log a.txn
  as_undecided a m known =
      let there = txn_among a s.sessions.active m in
      loser_or_doubt a.txn (whole.above a.txn there) known (whole.unended a.txn there)

  -- who is undecided has a record
  is_known : (t : ℕ) → IsUndecided s.log t → 0 < last_of t s.log
  is_known t (inl loser) = loser.known
  is_known t (inr doubt) = doubt_known t s.log doubt

  has_left : HasLeft g.version s s.sessions.active s.sessions.active
  has_left = take_out g.version s s.sessions.active s.sessions.active k.agree.once (λ a m. m) roomy.pages

  are_undecided : AreUndecided s.log has_left.left
  are_undecided = record {
    each = λ a m.
        let active = has_left.from a m in
        (as_undecided a active (has_left.known a active m), whole.undo_lists a active);
    every = λ t h.
        let a = txn_of_one t s.sessions.active (undecided_under_way t h) in
        let known = subst (λ u. 0 < last_of u s.log) (sym a.2) (is_known t h) in
        subst (λ u. IsAmong u (txns_of has_left.left)) a.2 (txn_among a.0 has_left.left (has_left.keeps a.0 a.1 known));
  }

  -- as many are prepared as the log has in doubt
  as_many : length s.sessions.prepared ≡ length (doubts_in s.log)
  as_many = sym (length-map s.sessions.prepared pair_of) ∙ sym (ap length k.doubts.in_doubt) ∙ length-map (doubts_in s.log) pair_logged

  pub state_is_roomy : IsRoomyLog g s.stream_bytes s.log
  state_is_roomy = record {
    placed = record {
      records = s.sessions.records;
      shown = λ id. sym (image_in_place k.sound k.logged whole id);
      undos = has_left.left;
      undecided = are_undecided;
      pages = same_claimed g.version s.sessions.records has_left.left s.counts (slot_count s.log) (λ p. sym (counts p)) has_left.pages;
      inside = inside;
      few = not_crowded;
    };
    room =
        let fits = roomy.log.fits in
        let lsns = roomy.log.lsns in
        let sum = roomy.log.sum in
        let less = has_left.owed in
        let many = as_many in
        record { sum = refl; fits = omega (arith, fits, sum, less, many); lsns = omega (arith, lsns, sum, less, many); short = roomy.log.short };
    locks = places;
  }
