-- A record of undo keeps a log roomy.
use Rattle.std.proofs.Common.{◌≡◌, ◌≢◌, inl, inr, ⊎_elim, ◌++◌, ◌+◌, ◌-◌, ◌<◌, ℕ, List, [], ◌∷◌, true, false, cond, Some, refl, sym, ap, subst, ◌∙◌, length, map, drop, arith}
use Rattle.std.specs.Prelude.{All, reverse}
use Rattle.std.specs.FinMap.{get}
use Rattle.std.specs.List.Sorted.{IsStrictlySortedBy}
use Rattle.std.specs.Ordering.{eq_by_cmp}
use Rattle.std.proofs.lemmas.List.{reverse-append, reverse-reverse}
use Rattle.std.proofs.lemmas.List.Elements.{All-nil, All-push}
use Rattle.std.proofs.lemmas.List.Sums.{sum_by_push}
use Rattle.shore_types.specs.Ids.{rid_cmp}
use Rattle.shore_types.specs.Images.{Image}
use Rattle.shore_types.specs.Layout.{HasGranule, HasSlot}
use Rattle.shore_types.specs.declared.ids.PageId.{PageId}
use Rattle.shore_types.specs.declared.ids.Rid.{Rid}
use Rattle.shore_types.specs.declared.layout.Geometry.{Geometry}
use Rattle.shore_types.specs.declared.layout.TheConstants.{ENDING_COST, LAST_TXN, LONGEST_FRAME}
use Rattle.shore_analysis.specs.Sizes.{HasSizes}
use Rattle.shore_model.specs.declared.log_records.LogRecord.{LogRecord}
use Rattle.shore_model.specs.declared.log_records.Payload.TheVariants.{Compensation, End}
use Rattle.shore_model.specs.declared.unanswered_changes.UnansweredChange.{UnansweredChange}
use Rattle.shore_model.specs.Logs.{answered_by, id_in, image_in, image_of_record, is_commit, is_decision, is_end, is_in_doubt, is_prepare, is_rollback, unanswered, undo_next_of}
use Rattle.shore_model.specs.Records.{Records, put_image}
use Rattle.shore_logrec.specs.Text.{cost_of}
use Rattle.shore_analysis.proofs.Counted.{last_is_one}
use Rattle.shore_analysis.proofs.Undone.{was_crowded}
use Rattle.shore_analysis.specs.Meant.{AreGranules, IsCrowded, IsInBounds, ListsInBounds, granules_in, next_in}
use Rattle.laws_calls.specs.States.{cost_of_log}
use Rattle.laws_lives.proofs.DoubtRecords.{doubts_same}
use Rattle.laws_lives.proofs.OneMore.{id_itself}
use Rattle.laws_lives.proofs.Redo.{image_of_record-push, or_image}
use Rattle.laws_lives.proofs.UndoChains.{unanswered_chain}
use Rattle.laws_lives.specs.Doubts.{LoggedDoubt, NeedMore, doubts_in}
use Rattle.laws_lives.specs.Undo.{IsLoser, IsUndoneTo, undo_payload, undo_record}
use Rattle.laws_lives.specs.UndoChains.{IsUndoChain}
use Rattle.laws_room.proofs.Costs.{compensation_bytes}
use Rattle.laws_room.proofs.Leaving.{left_keeps}
use Rattle.laws_room.proofs.LogRooms.{ended_takes, undone_takes}
use Rattle.laws_room.proofs.Pages.{its_slot}
use Rattle.laws_room.proofs.Rooms.{undo_keeps}
use Rattle.laws_room.specs.LogRooms.{HasLogRoom, LogRoom, ended_room, owed, undone_room}
use Rattle.laws_lives.proofs.EndedTxns.{over_now}
use Rattle.laws_lives.proofs.Ids.{put_here, put_there, told_apart}
use Rattle.laws_lives.proofs.Lists.{length-push}
use Rattle.laws_lives.proofs.Members.{among_with, among_without, txn_of_one, txn_stays, txns_with}
use Rattle.laws_lives.proofs.UnansweredChanges.{unanswered_other, unanswered_own}
use Rattle.laws_lives.specs.LogTells.{MatchesUndo}
use Rattle.laws_lives.specs.Sessions.{SessionTxn, txns_of, with_undo, without_txn}
use Rattle.laws_lives.specs.UndoLists.{UndoList}
use Rattle.laws_lives.specs.Views.{IsAmong}
use Rattle.laws_lives.proofs.Writers.{same_or_not}
use Rattle.laws_runs.proofs.Losers.{other_still_undecided, other_undecided, own_doubt, own_still_loses}
use Rattle.laws_runs.proofs.Prefixes.{push_roomy, whole_roomy}
use Rattle.laws_runs.proofs.Redoing.{all_at}
use Rattle.laws_runs.proofs.SlotCounts.{behind_within, same_claimed, slot_count-push}
use Rattle.laws_runs.specs.RoomyLogs.{AreRoomy, IsRoomyLog, IsUndecided, room_of_log}
use Rattle.laws_runs.specs.SlotCounts.{slot_count, slots_behind}

-- ---- the room of a log with one more record

pub cost_pushed : (log : List LogRecord) (r : LogRecord) → cost_of_log (log ++ r ∷ []) ≡ cost_of_log log + cost_of r.payload
cost_pushed log r = sum_by_push (λ (r : LogRecord). cost_of r.payload) log r

-- a room of these sums is the log's
pub as_room_of_log : (stream_bytes : ℕ) (log : List LogRecord) (undos : List SessionTxn) (room : LogRoom) → HasLogRoom LONGEST_FRAME (length (doubts_in log)) undos room
    → room.kept ≡ cost_of_log log → room.stream_bytes ≡ stream_bytes → room.last_lsn ≡ length log
    → HasLogRoom LONGEST_FRAME (length (doubts_in log)) undos (room_of_log stream_bytes log undos)
as_room_of_log stream_bytes log undos room h kept stream last =
    let sum = h.sum in
    let fits = h.fits in
    let lsns = h.lsns in
    let short = h.short in
    record { sum = refl; fits = omega (arith, sum, fits, kept, stream); lsns = omega (arith, sum, lsns, last); short = omega (arith, short, stream, kept) }

-- what is put back is in place
pub put_shown : (R : Records) (log : List LogRecord) (r : LogRecord) (e : Rid × Image) → image_in r.payload ≡ Some e
    → ((id : Rid) → get R id ≡ image_of_record log id) → (id : Rid) → get (put_image R e.0 e.1) id ≡ image_of_record (log ++ r ∷ []) id
put_shown R log r e is shown id =
    let pushed : image_of_record (log ++ r ∷ []) id ≡ cond (eq_by_cmp rid_cmp id e.0) e.1 (image_of_record log id) =
    image_of_record-push log r id ∙ ap (λ o. or_image o id (image_of_record log id)) is in
    ⊎_elim
    (λ same.
    ap (get (put_image R e.0 e.1)) same ∙ put_here R e.0 e.1
    ∙ sym (pushed ∙ ap (λ b. cond b e.1 (image_of_record log id)) (subst (λ q. eq_by_cmp rid_cmp q e.0 ≡ true) (sym same) (id_itself e.0))))
    (λ off. put_there R e.0 e.1 id off ∙ shown id ∙ sym (pushed ∙ ap (λ b. cond b e.1 (image_of_record log id)) off))
    (told_apart id e.0)

-- ---- one record of undo

module _ (g : Geometry) (stream_bytes : ℕ) (log : List LogRecord) (k : IsRoomyLog g stream_bytes log) (t : ℕ) (loser : IsLoser log t) where
  abbrev r : LogRecord
  r = undo_record log t

  abbrev new : List LogRecord
  new = log ++ r ∷ []

  number_below : t < LAST_TXN
  number_below =
      let one = last_is_one log t loser.known in
      subst (λ u. u < LAST_TXN) one.own (all_at (IsInBounds g) log one.at one.found k.placed.inside one.here).number

  undo_next_none : (cs : List UnansweredChange) → next_in (undo_payload cs) ≡ 0
  undo_next_none [] = refl
  undo_next_none (c ∷ cs) = refl

  undo_lists : (cs : List UnansweredChange) → ListsInBounds g (undo_payload cs)
  undo_lists [] = tt
  undo_lists (c ∷ cs) = tt

  undo_inside : (cs : List UnansweredChange) → IsUndoChain log t cs → (id : Rid) → id_in (undo_payload cs) ≡ Some id → HasSlot g id
  undo_inside [] chain id e = cc
  undo_inside (c ∷ cs) chain id e =
      let change = chain.0 in
      let it = all_at (IsInBounds g) log (c.number - 1) change.found k.placed.inside change.here in
      it.id id (ap id_in change.says ∙ e)

  undo_granules : (cs : List UnansweredChange) → AreGranules g (granules_in (undo_payload cs))
  unfolding IsStrictlySortedBy
  undo_granules [] = record { inside = All-nil (HasGranule g); rise = tt }
  undo_granules (c ∷ cs) = record { inside = All-nil (HasGranule g); rise = tt }

  -- the image before was logged as such
  undo_sizes : (cs : List UnansweredChange) → IsUndoChain log t cs → HasSizes g.version (undo_payload cs)
  undo_sizes [] chain = tt
  undo_sizes (c ∷ cs) chain =
      let change = chain.0 in
      let it = all_at (IsInBounds g) log (c.number - 1) change.found k.placed.inside change.here in
      (subst (HasSizes g.version) change.says it.sizes).0

  undo_in_bounds : IsInBounds g r
  undo_in_bounds = record {
    number = number_below;
    next = (let none = undo_next_none (unanswered t log) in omega (arith, none));
    sizes = undo_sizes (unanswered t log) (unanswered_chain log t);
    lists = undo_lists (unanswered t log);
    id = undo_inside (unanswered t log) (unanswered_chain log t);
    granules = undo_granules (unanswered t log);
  }

  inside_more : All (IsInBounds g) new
  inside_more = All-push (IsInBounds g) log r k.placed.inside undo_in_bounds

  few_more : IsCrowded new → ⊥
  few_more crowded = k.placed.few (was_crowded log t loser r refl crowded)

  its : (a : SessionTxn) × IsAmong a k.placed.undos × (a.txn ≡ t)
  its = txn_of_one t k.placed.undos (k.placed.undecided.every t (inl loser))

  abbrev a : SessionTxn
  a = its.0

  -- a record of undo decides nothing
  undecided_by : (cs : List UnansweredChange) → (is_prepare (undo_payload cs) ≡ false) × (is_commit (undo_payload cs) ≡ false) × (is_rollback (undo_payload cs) ≡ false) × (is_decision (undo_payload cs) ≡ false)
  undecided_by [] = (refl, refl, refl, refl)
  undecided_by (c ∷ cs) = (refl, refl, refl, refl)

  same_doubts : doubts_in new ≡ doubts_in log
  same_doubts = doubts_same log r (undecided_by (unanswered t log)).3

  same_room : (undos : List SessionTxn) (room : LogRoom) → HasLogRoom LONGEST_FRAME (length (doubts_in log)) undos room → HasLogRoom LONGEST_FRAME (length (doubts_in new)) undos room
  same_room undos room h = subst (λ (ds : List LoggedDoubt). HasLogRoom LONGEST_FRAME (length ds) undos room) (sym same_doubts) h

  same_places : NeedMore g.max_locks (doubts_in new) → ⊥
  same_places more = k.locks (subst (NeedMore g.max_locks) same_doubts more)

  its_doubt : is_in_doubt t new ≡ false
  its_doubt =
      let none = undecided_by (unanswered t log) in
      own_doubt log r none.0 none.1 none.2 ∙ loser.not_in_doubt

  -- ---- a Compensation

  module _ (c : UnansweredChange) (cs : List UnansweredChange) (is : unanswered t log ≡ c ∷ cs) where
    abbrev e : Rid × Image
    e = (c.id, c.before)

    abbrev kept : List (Rid × Image)
    kept = reverse (map (λ (c : UnansweredChange). (c.id, c.before)) cs)

    abbrev left : UndoList
    left = record { images = kept; marks = a.undo.marks; rolling = a.undo.rolling }

    abbrev undos_left : List SessionTxn
    undos_left = with_undo a.txn left k.placed.undos

    says : r.payload ≡ Compensation c.id c.before (undo_next_of cs)
    says = ap undo_payload is

    matched : map (λ (c : UnansweredChange). (c.id, c.before)) (c ∷ cs) ≡ reverse a.undo.images
    matched = ap (map (λ (c : UnansweredChange). (c.id, c.before))) (sym is ∙ ap (λ u. unanswered u log) (sym its.2)) ∙ (k.placed.undecided.each a its.1).1

    images : a.undo.images ≡ kept ++ e ∷ []
    images = sym (reverse-reverse a.undo.images) ∙ ap reverse (sym matched) ∙ reverse-append (e ∷ []) (map (λ (c : UnansweredChange). (c.id, c.before)) cs)

    same_count : (p : PageId) → slot_count new p ≡ slot_count log p
    same_count p =
        slot_count-push log r p ∙ ap (λ q. slots_behind p (image_in q) (slot_count log p)) says
        ∙ behind_within p e (slot_count log p)
        (λ same. subst (λ q. c.id.slot < slot_count log q) (sym same) (its_slot g.version k.placed.records k.placed.undos (slot_count log) k.placed.pages a its.1 kept e a.undo.marks a.undo.rolling images))

    own_matches : MatchesUndo new t kept
    own_matches =
        ap (map (λ (c : UnansweredChange). (c.id, c.before)))
        (unanswered_own t log r refl ∙ ap (λ p. answered_by (1 + length log) p (unanswered t log)) says ∙ ap (drop 1) is)
        ∙ sym (reverse-reverse (map (λ (c : UnansweredChange). (c.id, c.before)) cs))

    each_left : (b : SessionTxn) → IsAmong b undos_left → IsUndecided new b.txn × MatchesUndo new b.txn b.undo.images
    each_left b m =
        let was = among_with a.txn left b k.placed.undos m in
        ⊎_elim
        (λ own.
        let same : b.txn ≡ t = own.0 ∙ its.2 in
        let still : IsLoser new t =
        own_still_loses log r (ap is_prepare says) (ap is_commit says) (ap is_rollback says) (ap is_end says) loser in (
          inl (subst (IsLoser new) (sym same) still),
          subst (λ u. MatchesUndo new u b.undo.images) (sym same) (subst (λ (undo : UndoList). MatchesUndo new t undo.images) (sym own.1) own_matches),
        ))
        (λ other.
        let apart : t ≢ b.txn = λ same. other.0 (sym same ∙ sym its.2) in
        let before = k.placed.undecided.each was.was was.there in
        let known : IsUndecided log b.txn × MatchesUndo log b.txn b.undo.images =
        subst (λ (x : SessionTxn). IsUndecided log x.txn × MatchesUndo log x.txn x.undo.images) (sym other.1) before in (
          other_still_undecided log r b.txn apart known.0,
          ap (map (λ (c : UnansweredChange). (c.id, c.before))) (unanswered_other b.txn log r apart) ∙ known.1,
        ))
        was.one

    every_left : (u : ℕ) → IsUndecided new u → IsAmong u (txns_of undos_left)
    every_left u h =
        subst (IsAmong u) (sym (txns_with a.txn left k.placed.undos))
        (k.placed.undecided.every u (⊎_elim (λ same. subst (IsUndecided log) same (inl loser)) (λ other. other_undecided log r u other h) (same_or_not t u)))

    pub compensated_roomy : IsRoomyLog g stream_bytes new
    compensated_roomy =
        let room = (undone_takes LONGEST_FRAME (length (doubts_in log)) k.placed.undos (room_of_log stream_bytes log k.placed.undos) k.room k.placed.pages.once a its.1 kept e a.undo.marks a.undo.rolling images).1 in
        let cost = cost_pushed log r in
        let says_cost = ap cost_of says in
        let bytes = compensation_bytes c.id c.before (undo_next_of cs) in
        let longer = length-push log r in
        record {
          placed = record {
            records = put_image k.placed.records c.id c.before;
            shown = put_shown k.placed.records log r e (ap image_in says) k.placed.shown;
            undos = undos_left;
            undecided = record { each = each_left; every = every_left };
            pages = same_claimed g.version (put_image k.placed.records c.id c.before) undos_left (slot_count log) (slot_count new) same_count
                (undo_keeps g.version k.placed.records k.placed.undos (slot_count log) k.placed.pages a its.1 kept e a.undo.marks a.undo.rolling images);
            inside = inside_more;
            few = few_more;
          };
          room = as_room_of_log stream_bytes new undos_left (undone_room c.before (room_of_log stream_bytes log k.placed.undos)) (same_room undos_left (undone_room c.before (room_of_log stream_bytes log k.placed.undos)) room) (omega arith) refl (omega arith);
          locks = same_places;
        }

  -- ---- an End

  module _ (none : unanswered t log ≡ []) where
    ends : r.payload ≡ End
    ends = ap undo_payload none

    its_without : without_txn a.txn k.placed.undos ≡ without_txn t k.placed.undos
    its_without = ap (λ u. without_txn u k.placed.undos) its.2

    pub ended_roomy : IsRoomyLog g stream_bytes new
    ended_roomy =
        let undos_left = without_txn a.txn k.placed.undos in
        let room = (ended_takes LONGEST_FRAME (length (doubts_in log)) k.placed.undos (room_of_log stream_bytes log k.placed.undos) k.room k.placed.pages.once a its.1).1 in
        let cost = cost_pushed log r in
        let says_cost = ap cost_of ends in
        let bytes : ENDING_COST ≡ cost_of End = refl in
        let longer = length-push log r in
        record {
          placed = record {
            records = k.placed.records;
            shown = λ id. k.placed.shown id ∙ sym (image_of_record-push log r id ∙ ap (λ p. or_image (image_in p) id (image_of_record log id)) ends);
            undos = undos_left;
            undecided = record {
              each = λ b m.
                  let there = among_without a.txn b k.placed.undos m in
                  let apart : t ≢ b.txn = λ same. there.1 (sym same ∙ sym its.2) in
                  let known = k.placed.undecided.each b there.0 in (
                    other_still_undecided log r b.txn apart known.0,
                    ap (map (λ (c : UnansweredChange). (c.id, c.before))) (unanswered_other b.txn log r apart) ∙ known.1,
                  );
              every = λ u h.
                  ⊎_elim
                  (λ same. absurd (not_its (subst (IsUndecided new) (sym same) h)))
                  (λ other. txn_stays a.txn u k.placed.undos (k.placed.undecided.every u (other_undecided log r u other h)) (λ same. other (sym its.2 ∙ sym same)))
                  (same_or_not t u);
            };
            pages = same_claimed g.version k.placed.records undos_left (slot_count log) (slot_count new)
                (λ p. slot_count-push log r p ∙ ap (λ q. slots_behind p (image_in q) (slot_count log p)) ends)
                (left_keeps g.version k.placed.records k.placed.undos (slot_count log) k.placed.pages a its.1);
            inside = inside_more;
            few = few_more;
          };
          room = as_room_of_log stream_bytes new undos_left (ended_room (owed a) (room_of_log stream_bytes log k.placed.undos)) (same_room undos_left (ended_room (owed a) (room_of_log stream_bytes log k.placed.undos)) room) (omega arith) refl (omega arith);
          locks = same_places;
        }
      where
        true_not_false : true ≡ false → ⊥
        true_not_false e = cc

        not_its : IsUndecided new t → ⊥
        not_its (inl still) = true_not_false (sym (over_now log r (inr (ap is_end ends))) ∙ still.not_over)
        not_its (inr doubt) = true_not_false (sym doubt ∙ its_doubt)

  undone_by : (cs : List UnansweredChange) → unanswered t log ≡ cs → IsRoomyLog g stream_bytes new
  undone_by [] is = ended_roomy is
  undone_by (c ∷ cs) is = compensated_roomy c cs is

  pub undone_roomy : IsRoomyLog g stream_bytes (log ++ undo_record log t ∷ [])
  undone_roomy = undone_by (unanswered t log) refl

-- ---- any turns

module _ (g : Geometry) (stream_bytes : ℕ) where
  pub undone_are_roomy : (least : ℕ) (log : List LogRecord) (t : ℕ) → AreRoomy g stream_bytes least log → IsLoser log t
      → AreRoomy g stream_bytes least (log ++ undo_record log t ∷ [])
  undone_are_roomy least log t k loser =
      push_roomy g stream_bytes least log (undo_record log t) k (undone_roomy g stream_bytes log (whole_roomy g stream_bytes least log k) t loser)

  pub turns_are_roomy : (least : ℕ) (log : List LogRecord) (ts : List ℕ) (last : List LogRecord) → AreRoomy g stream_bytes least log → IsUndoneTo log ts last
      → AreRoomy g stream_bytes least last
  turns_are_roomy least log [] last k u = subst (AreRoomy g stream_bytes least) (sym u) k
  turns_are_roomy least log (t ∷ ts) last k u = turns_are_roomy least (log ++ undo_record log t ∷ []) ts last (undone_are_roomy least log t k u.0) u.1
