-- What pages claim by a lawful log whose changes take no more than others did: they have room, where the others had.
use Rattle.std.proofs.Common.{◌≡◌, ◌≢◌, inl, inr, ⊎_elim, ◌+◌, ◌<◌, ◌≤◌, ◌++◌, ℕ, zero, suc, max, List, [], ◌∷◌, Bool, true, false, cond, refl, sym, ap, subst, ◌∙◌, map, arith}
use Rattle.std.specs.Prelude.{All, reverse, unwrap_or}
use Rattle.std.specs.FinMap.{empty, get, get-empty}
use Rattle.std.specs.List.{AllByRecursion}
use Rattle.std.specs.Ordering.{eq_by_cmp}
use Rattle.std.proofs.lemmas.Bool.{cases_Bool}
use Rattle.std.proofs.lemmas.List.{reverse-append, reverse-reverse}
use Rattle.std.proofs.lemmas.List.Elements.{All-cons, All-nil, All-from_recursion}
use Rattle.std.proofs.lemmas.List.Sums.{sum_by-cons}
use Rattle.shore_types.specs.Ids.{rid_cmp}
use Rattle.shore_types.specs.Images.{Image, image_len}
use Rattle.shore_types.specs.Versions.{number_of}
use Rattle.shore_types.specs.declared.ids.PageId.{PageId}
use Rattle.shore_types.specs.declared.ids.Rid.{Rid}
use Rattle.shore_types.specs.declared.layout.Geometry.{Geometry}
use Rattle.shore_types.specs.declared.versions.Version.{Version}
use Rattle.shore_model.specs.declared.log_records.LogRecord.{LogRecord}
use Rattle.shore_model.specs.declared.unanswered_changes.UnansweredChange.{UnansweredChange}
use Rattle.shore_model.specs.Logs.{Lawful, has, image_of_record, is_over, last_images, unanswered}
use Rattle.shore_model.specs.Records.{Records, overlay}
use Rattle.shore_model.proofs.Overlays.{get-overlay}
use Rattle.shore_analysis.specs.Meant.{IsCrowded, IsInBounds}
use Rattle.shore_page.specs.Room.{HasRoom, HoldsItsImage, claims}
use Rattle.shore_page.specs.Slots.{Slot}
use Rattle.shore_page.specs.Undo.{claiming, longest}
use Rattle.laws_lives.specs.Doubts.{undo_in}
use Rattle.laws_lives.specs.LogTells.{MatchesUndo}
use Rattle.laws_lives.specs.Sessions.{EachOnce, SessionTxn, txns_of}
use Rattle.laws_lives.specs.Views.{IsAmong}
use Rattle.laws_lives.specs.Writers.{changes_id}
use Rattle.laws_lives.proofs.Lists.{mapped_one, recursion-push, recursion-weaker}
use Rattle.laws_lives.proofs.OneMore.{same_id}
use Rattle.laws_lives.proofs.Writers.{one_writer_at_most}
use Rattle.laws_lives.proofs.WritersTold.{doubt_not_over}
use Rattle.laws_room.proofs.Fetching.{longest_append, most_claim}
use Rattle.laws_room.proofs.Leaving.{map_each}
use Rattle.laws_room.proofs.Lists.{length-each}
use Rattle.laws_room.specs.Claims.{NoOthers, SlotCounts, before_of, befores_at, befores_in, each_from, rid_on, slots_of, undecided_at}
use Rattle.laws_runs.specs.RoomyLogs.{AreUndecided, IsPlacedLog, IsUndecided}
use Rattle.laws_runs.specs.SlotCounts.{slot_count}
use Rattle.laws_migrations.proofs.LoggedChanges.{AllTakeNoMore, each_reserved, none_or_slot, slot_there, slots_within, stands_within}
use Rattle.laws_migrations.proofs.Versions.{records_rise, rooms_rise}
use Rattle.laws_migrations.proofs.Writers.{one_writer}

-- ---- lists

pub each_reversed : {A : Type 0} (P : A → Type 0) (xs : List A) → AllByRecursion P xs → AllByRecursion P (reverse xs)
each_reversed P [] h = tt
each_reversed P (x ∷ xs) h = subst (AllByRecursion P) (sym (reverse-append (x ∷ []) xs)) (recursion-push P (reverse xs) x (each_reversed P xs h.1) h.0)

pub each_mapped : {A B : Type 0} (P : B → Type 0) (f : A → B) (xs : List A) → AllByRecursion (λ x. P (f x)) xs → AllByRecursion P (map f xs)
each_mapped P f [] h = tt
each_mapped P f (x ∷ xs) h = (h.0, each_mapped P f xs h.1)

pub each_among : {A : Type 0} (P : A → Type 0) (xs : List A) → ((x : A) → IsAmong x xs → P x) → AllByRecursion P xs
each_among P [] h = tt
each_among P (x ∷ xs) h = (h x (inl refl), each_among P xs (λ y later. h y (inr later)))

-- ---- what claims come to

claims_fewer : (f F : ℕ → Slot) (first m n : ℕ) → m ≤ n → ((i : ℕ) → (f i).claim ≤ (F i).claim) → claims (each_from f first m) ≤ claims (each_from F first n)
claims_fewer f F first zero n le less = omega arith
claims_fewer f F first (suc m) zero le less = absurd (omega (arith, le))
claims_fewer f F first (suc m) (suc n) le less =
    omega (
      arith,
      less first,
      claims_fewer f F (suc first) m n (omega (arith, le)) less,
      sum_by-cons (λ (s : Slot). s.claim) (f first) (each_from f (suc first) m),
      sum_by-cons (λ (s : Slot). s.claim) (F first) (each_from F (suc first) n),
    )

each_holds : (v : Version) (f : ℕ → Slot) (first n : ℕ) → ((i : ℕ) → first ≤ i → i < first + n → HoldsItsImage v (f i)) → All (HoldsItsImage v) (each_from f first n)
each_holds v f first zero each = All-nil (HoldsItsImage v)
each_holds v f first (suc n) each =
    All-cons (HoldsItsImage v) (f first) (each_from f (suc first) n) (each first (omega arith) (omega arith)) (each_holds v f (suc first) n (λ i ge less. each i (omega (arith, ge)) (omega (arith, less))))

-- what could come back to an id
longest_within : (most : Rid → ℕ) (id : Rid) (es : List (Rid × Image)) → AllByRecursion (λ e. image_len e.1 ≤ most e.0) es → longest (befores_in id es) ≤ most id
longest_within most id [] h = omega arith
longest_within most id (e ∷ es) h =
    let parts = longest_append (befores_in id es) (before_of id e) in
    let rest = longest_within most id es h.1 in
    let here = by (eq_by_cmp rid_cmp id e.0) refl in
    omega (arith, parts, rest, here)
  where
    by : (b : Bool) → eq_by_cmp rid_cmp id e.0 ≡ b → longest (cond b (e.1 ∷ []) []) ≤ most id
    by true is = let le : image_len e.1 ≤ most id = subst (λ q. image_len e.1 ≤ most q) (sym (same_id id e.0 is)) h.0 in omega (arith, le)
    by false is = omega arith

none_comes_back : (id : Rid) (es : List (Rid × Image)) → AllByRecursion (λ e. e.0 ≢ id) es → befores_in id es ≡ []
none_comes_back id [] h = refl
none_comes_back id (e ∷ es) h =
    ap (λ xs. xs ++ before_of id e) (none_comes_back id es h.1)
    ∙ ⊎_elim (λ is. absurd (h.0 (sym (same_id id e.0 is)))) (λ off. ap (λ b. cond b (e.1 ∷ []) []) off) (cases_Bool (eq_by_cmp rid_cmp id e.0))

-- ---- the undo lists of a log

abbrev pub undo_of : List LogRecord → ℕ → SessionTxn
undo_of log t = record { session = 0; txn = t; undo = undo_in log t }

-- the transactions are those that the log has not decided, each once
pub record AreUndecidedTxns (log : List LogRecord) (ts : List ℕ) : Type 0 where
  pub each : (t : ℕ) → IsAmong t ts → IsUndecided log t
  pub every : (t : ℕ) → IsUndecided log t → IsAmong t ts
  pub once : EachOnce ts

pub txns_same : (log : List LogRecord) (us : List ℕ) → txns_of (map (undo_of log) us) ≡ us
txns_same log [] = refl
txns_same log (u ∷ us) = ap (λ vs. u ∷ vs) (txns_same log us)

-- the undo lists that the log gives them are those of all that it has not decided
pub lists_undecided : (log : List LogRecord) (ts : List ℕ) → AreUndecidedTxns log ts → AreUndecided log (map (undo_of log) ts)
lists_undecided log ts are = record {
  each = λ a m.
      let one = mapped_one (undo_of log) a ts m in
      subst (λ (a : SessionTxn). IsUndecided log a.txn × MatchesUndo log a.txn a.undo.images) one.2
      (are.each one.0 one.1, sym (reverse-reverse (map (λ (c : UnansweredChange). (c.id, c.before)) (unanswered one.0 log))));
  every = λ t h. subst (IsAmong t) (sym (txns_same log ts)) (are.every t h);
}

module _ (old_records : Records) (old_undos : List SessionTxn) (counts : SlotCounts) where
  -- what the slot of an id claimed
  abbrev pub old_claim : Rid → ℕ
  old_claim id = max (image_len (get old_records id)) (longest (befores_at id old_undos))

  module _ (log : List LogRecord) (lawful : Lawful log) (within : AllTakeNoMore old_claim counts log) (ts : List ℕ) (are : AreUndecidedTxns log ts) where
    abbrev pub undos : List SessionTxn
    undos = map (undo_of log) ts

    abbrev IsOwnImage : ℕ → Rid × Image → Type 0
    IsOwnImage t e = (image_len e.1 ≤ old_claim e.0) × (has (changes_id e.0) t log ≡ true)

    own_images : (t : ℕ) → AllByRecursion (IsOwnImage t) (undo_in log t).images
    own_images t =
        each_reversed (IsOwnImage t) (map (λ (c : UnansweredChange). (c.id, c.before)) (unanswered t log))
        (each_mapped (IsOwnImage t) (λ (c : UnansweredChange). (c.id, c.before)) (unanswered t log) (each_reserved old_claim counts t log within))

    runs : (t : ℕ) → IsUndecided log t → is_over t log ≡ false
    runs t (inl loser) = loser.not_over
    runs t (inr doubt) = doubt_not_over log lawful t doubt

    -- ---- claims

    all_within : (id : Rid) (us : List ℕ) → longest (befores_at id (map (undo_of log) us)) ≤ old_claim id
    all_within id [] = omega arith
    all_within id (u ∷ us) =
        let parts = longest_append (befores_in id (undo_in log u).images) (befores_at id (map (undo_of log) us)) in
        let rest = all_within id us in
        let own = longest_within old_claim id (undo_in log u).images (recursion-weaker (IsOwnImage u) (λ e. image_len e.1 ≤ old_claim e.0) (λ e k. k.0) (undo_in log u).images (own_images u)) in
        omega (arith, parts, rest, own)

    abbrev pub shown_by : Records
    shown_by = overlay empty (last_images log)

    pub shows : (id : Rid) → get shown_by id ≡ image_of_record log id
    shows id = get-overlay empty (last_images log) id ∙ ap (λ image. unwrap_or (get (last_images log) id) image) (get-empty rid_cmp id)

    stands : (id : Rid) → image_len (get shown_by id) ≤ old_claim id
    stands id = subst (λ image. image_len image ≤ old_claim id) (sym (shows id)) (stands_within old_claim counts id log within)

    claim_less : (id : Rid) → max (image_len (get shown_by id)) (longest (befores_at id undos)) ≤ old_claim id
    claim_less id = let a = stands id in let b = all_within id ts in omega (arith, a, b)

    slots_fit : (v w : Version) → number_of v ≤ number_of w → (p : PageId) → HasRoom v (slots_of old_records old_undos p (counts p)) → HasRoom w (slots_of shown_by undos p (slot_count log p))
    slots_fit v w rises p room =
        let f : ℕ → Slot = λ i. claiming (undecided_at shown_by undos (rid_on p i)) in
        let F : ℕ → Slot = λ i. claiming (undecided_at old_records old_undos (rid_on p i)) in
        let n = slot_count log p in
        let was : HasRoom v (each_from F 0 (counts p)) = subst (HasRoom v) (map_each claiming (λ i. undecided_at old_records old_undos (rid_on p i)) 0 (counts p)) room in
        let less : (i : ℕ) → (f i).claim ≤ (F i).claim = λ i. claim_less (rid_on p i) in
        let short : n ≤ counts p = slots_within old_claim counts p log within in
        let sum = claims_fewer f F 0 n (counts p) short less in
        let more = rooms_rise v w rises in
        let longer = records_rise v w rises in
        subst (HasRoom w) (sym (map_each claiming (λ i. undecided_at shown_by undos (rid_on p i)) 0 n)) record {
          room = omega (arith, length-each f 0 n, length-each F 0 (counts p), sum, was.room, short, more);
          each = each_holds w f 0 n (λ i ge below.
              let top = most_claim v p (counts p) F was i (omega (arith, below, short)) in
              let its = less i in
              (omega arith, omega (arith, top, its, longer)));
        }

    -- ---- whose they are

    nobody_else : (t u : ℕ) → IsAmong t ts → IsAmong u ts → u ≢ t → (id : Rid) → has (changes_id id) t log ≡ true → befores_in id (undo_in log u).images ≡ []
    nobody_else t u m k other id changed =
        none_comes_back id (undo_in log u).images
        (recursion-weaker (IsOwnImage u) (λ e. e.0 ≢ id)
        (λ e own same. other (one_writer log id u t (ap (λ q. has (changes_id q) u log) (sym same) ∙ own.1) (runs u (are.each u k)) changed (runs t (are.each t m)) (one_writer_at_most log lawful id)))
        (undo_in log u).images (own_images u))

    owned : (t : ℕ) → IsAmong t ts → AllByRecursion (λ e. NoOthers undos t e.0) (undo_in log t).images
    owned t m =
        recursion-weaker (IsOwnImage t) (λ e. NoOthers undos t e.0)
        (λ e own b there other.
        let one = mapped_one (undo_of log) b ts there in
        subst (λ (b : SessionTxn). b.txn ≢ t → befores_in e.0 b.undo.images ≡ []) one.2 (λ ne. nobody_else t one.0 m one.1 ne e.0 own.1) other)
        (undo_in log t).images (own_images t)

    -- ---- the log is placed

    pub is_placed : (v : Version) (h : Geometry) → number_of v ≤ number_of h.version → ((p : PageId) → HasRoom v (slots_of old_records old_undos p (counts p)))
        → AllByRecursion (IsInBounds h) log → (IsCrowded log → ⊥) → IsPlacedLog h log
    is_placed v h rises rooms inside few = record {
      records = shown_by;
      shown = shows;
      undos = undos;
      undecided = lists_undecided log ts are;
      pages = record {
        room = λ p. slots_fit v h.version rises p (rooms p);
        behind = λ id le. ⊎_elim (λ none. shows id ∙ none) (λ less. absurd (omega (arith, less, le))) (none_or_slot id log);
        within = λ a m.
            let one = mapped_one (undo_of log) a ts m in
            subst (λ (a : SessionTxn). AllByRecursion (λ (e : Rid × Image). e.0.slot < slot_count log e.0.page) a.undo.images) one.2
            (recursion-weaker (IsOwnImage one.0) (λ e. e.0.slot < slot_count log e.0.page) (λ e own. slot_there e.0 one.0 log own.1) (undo_in log one.0).images (own_images one.0));
        owned = λ a m.
            let one = mapped_one (undo_of log) a ts m in
            subst (λ (a : SessionTxn). AllByRecursion (λ (e : Rid × Image). NoOthers undos a.txn e.0) a.undo.images) one.2 (owned one.0 one.1);
        once = subst EachOnce (sym (txns_same log ts)) are.once;
      };
      inside = All-from_recursion (IsInBounds h) log inside;
      few = few;
    }
