-- Some of the transactions that a log has not decided have the room that is kept for all of them.
use Rattle.std.proofs.Common.{◌≡◌, inl, inr, ◌+◌, ◌<◌, ◌≤◌, ℕ, zero, suc, List, [], ◌∷◌, Bool, true, false, cond, refl, sym, ap, subst, ◌∙◌, map, arith}
use Rattle.std.specs.Prelude.{◌==◌, All, not, reverse}
use Rattle.std.specs.List.{AllByRecursion}
use Rattle.std.proofs.lemmas.Bool.{eqb-false}
use Rattle.std.proofs.lemmas.List.{reverse-reverse}
use Rattle.std.proofs.lemmas.List.Elements.{All-cons, All-nil}
use Rattle.shore_types.specs.declared.layout.TheConstants.{ENDING_COST}
use Rattle.shore_model.specs.declared.unanswered_changes.UnansweredChange.{UnansweredChange}
use Rattle.shore_model.specs.Logs.{unanswered}
use Rattle.laws_lives.proofs.Members.{member_stays, txn_among, txn_of_one}
use Rattle.laws_runs.proofs.StateLosers.{owed_less}
use Rattle.shore_types.specs.Images.{Image}
use Rattle.shore_types.specs.declared.ids.PageId.{PageId}
use Rattle.shore_types.specs.declared.ids.Rid.{Rid}
use Rattle.shore_types.specs.declared.layout.Geometry.{Geometry}
use Rattle.shore_types.specs.declared.versions.Version.{Version}
use Rattle.shore_model.specs.declared.log_records.LogRecord.{LogRecord}
use Rattle.laws_lives.specs.LogTells.{MatchesUndo}
use Rattle.laws_lives.specs.Sessions.{EachOnce, SessionTxn, txns_of, without_txn}
use Rattle.laws_lives.specs.Views.{IsAmong}
use Rattle.shore_model.specs.Records.{Records}
use Rattle.shore_page.specs.Room.{HasRoom, HoldsItsImage}
use Rattle.shore_page.specs.Slots.{Slot}
use Rattle.shore_page.specs.Undo.{claiming, longest}
use Rattle.laws_room.proofs.Fetching.{claims_less, longest_append, longest_of_all, most_claim}
use Rattle.laws_room.proofs.Leaving.{map_each}
use Rattle.laws_room.proofs.Lists.{length-each}
use Rattle.laws_lives.proofs.Lists.{recursion-weaker}
use Rattle.laws_room.specs.Claims.{Claimed, NoOthers, SlotCounts, befores_at, befores_in, each_from, rid_on, slots_of, undecided_at}
use Rattle.laws_room.specs.LogRooms.{compensation_costs, owed, owed_by_all}
use Rattle.laws_runs.specs.RoomyLogs.{AreUndecided, IsPlacedLog, IsUndecided}
use Rattle.laws_runs.specs.SlotCounts.{slot_count}

-- each of the log's undecided transactions, with the undo list that the log gives it
abbrev pub AreOfLog : List LogRecord → List SessionTxn → Type 0
AreOfLog log some = (a : SessionTxn) → IsAmong a some → IsUndecided log a.txn × MatchesUndo log a.txn a.undo.images

-- ---- what they owe

owed_without : (b : SessionTxn) (undos : List SessionTxn) → IsAmong b undos → owed b + owed_by_all (without_txn b.txn undos) ≤ owed_by_all undos
owed_without b [] there = absurd there
owed_without b (x ∷ undos) there = by (x.txn == b.txn) refl there (λ later. owed_without b undos later)
  where
    by : (same : Bool) → (x.txn == b.txn) ≡ same → IsAmong b (x ∷ undos) → (IsAmong b undos → owed b + owed_by_all (without_txn b.txn undos) ≤ owed_by_all undos)
        → owed b + owed_by_all (cond (not same) (x ∷ without_txn b.txn undos) (without_txn b.txn undos)) ≤ owed x + owed_by_all undos
    by true e (inl same) rest = let less = owed_less b.txn undos in let its = ap owed same in omega (arith, less, its)
    by true e (inr later) rest = let less = rest later in omega (arith, less)
    by false e (inl same) rest = absurd (eqb-false x.txn b.txn e (ap (λ (y : SessionTxn). y.txn) same))
    by false e (inr later) rest = let less = rest later in omega (arith, less)

-- each of these is one of those, with the images of its undo list
abbrev HaveTheirs : List SessionTxn → List SessionTxn → Type 0
HaveTheirs some undos = (a : SessionTxn) → IsAmong a some → (b : SessionTxn) × IsAmong b undos × (b.txn ≡ a.txn) × (b.undo.images ≡ a.undo.images)

owe_no_more : (some undos : List SessionTxn) → EachOnce (txns_of some) → HaveTheirs some undos → owed_by_all some ≤ owed_by_all undos
owe_no_more [] undos once theirs = omega arith
owe_no_more (a ∷ some) undos once theirs =
    let b = theirs a (inl refl) in
    let rest = owe_no_more some (without_txn b.0.txn undos) once.1
    (λ c m. let d = theirs c (inr m) in
    (d.0, member_stays b.0.txn d.0 undos d.1 (λ same. once.0 (subst (λ t. IsAmong t (txns_of some)) (sym d.2 ∙ same ∙ b.2) (txn_among c some m))), d.2, d.3)) in
    let whole = owed_without b.0 undos b.1 in
    let same : owed b.0 ≡ owed a = ap (λ images. ENDING_COST + compensation_costs images) b.3 in
    omega (arith, rest, whole, same)

-- the log gives each one undo list
have_theirs : (log : List LogRecord) (undos : List SessionTxn) → AreUndecided log undos → (some : List SessionTxn) → AreOfLog log some → HaveTheirs some undos
have_theirs log undos all some are a m =
    let b = txn_of_one a.txn undos (all.every a.txn (are a m).0) in
    let matched : reverse b.0.undo.images ≡ reverse a.undo.images =
    sym (all.each b.0 b.1).1 ∙ ap (λ t. map (λ (c : UnansweredChange). (c.id, c.before)) (unanswered t log)) b.2 ∙ (are a m).1 in
    (b.0, b.1, b.2, sym (reverse-reverse b.0.undo.images) ∙ ap reverse matched ∙ reverse-reverse a.undo.images)

pub some_owe_no_more : (log : List LogRecord) (undos : List SessionTxn) → AreUndecided log undos → (some : List SessionTxn) → EachOnce (txns_of some) → AreOfLog log some
    → owed_by_all some ≤ owed_by_all undos
some_owe_no_more log undos all some once are = owe_no_more some undos once (have_theirs log undos all some are)

-- ---- what they claim

longest_theirs : (q : Rid) (undos some : List SessionTxn) → HaveTheirs some undos → longest (befores_at q some) ≤ longest (befores_at q undos)
longest_theirs q undos [] theirs = omega arith
longest_theirs q undos (a ∷ some) theirs =
    let b = theirs a (inl refl) in
    let parts = longest_append (befores_in q a.undo.images) (befores_at q some) in
    let one = longest_of_all q undos b.0 b.1 in
    let same = ap (λ (images : List (Rid × Image)). longest (befores_in q images)) b.3 in
    let rest = longest_theirs q undos some (λ c m. theirs c (inr m)) in
    omega (arith, parts, one, same, rest)

each_holds : (v : Version) (f : ℕ → Slot) (first n : ℕ) → ((i : ℕ) → first ≤ i → i < first + n → HoldsItsImage v (f i)) → All (HoldsItsImage v) (each_from f first n)
each_holds v f first zero each = All-nil (HoldsItsImage v)
each_holds v f first (suc n) each =
    All-cons (HoldsItsImage v) (f first) (each_from f (suc first) n) (each first (omega arith) (omega arith)) (each_holds v f (suc first) n (λ i ge less. each i (omega arith) (omega arith)))

module _ (v : Version) (R : Records) (undos some : List SessionTxn) (counts : SlotCounts) (k : Claimed v R undos counts) (once : EachOnce (txns_of some)) (theirs : HaveTheirs some undos) where
  within : (a : SessionTxn) → IsAmong a some → AllByRecursion (λ e. e.0.slot < counts e.0.page) a.undo.images
  within a m = let b = theirs a m in subst (AllByRecursion (λ (e : Rid × Image). e.0.slot < counts e.0.page)) b.3 (k.within b.0 b.1)

  owned : (a : SessionTxn) → IsAmong a some → AllByRecursion (λ e. NoOthers some a.txn e.0) a.undo.images
  owned a m =
      let b = theirs a m in
      recursion-weaker (λ (e : Rid × Image). NoOthers undos b.0.txn e.0) (λ (e : Rid × Image). NoOthers some a.txn e.0)
      (λ e alone c there other.
      let d = theirs c there in
      ap (befores_in e.0) (sym d.3) ∙ alone d.0 d.1 (λ same. other (sym d.2 ∙ same ∙ b.2)))
      a.undo.images
      (subst (AllByRecursion (λ (e : Rid × Image). NoOthers undos b.0.txn e.0)) b.3 (k.owned b.0 b.1))

  -- a claim is the longest image that could come back, so fewer of them claim no more, in any order
  fewer_claims : (p : PageId) → HasRoom v (slots_of R some p (counts p))
  fewer_claims p =
      let f : ℕ → Slot = λ i. claiming (undecided_at R some (rid_on p i)) in
      let F : ℕ → Slot = λ i. claiming (undecided_at R undos (rid_on p i)) in
      let room : HasRoom v (each_from F 0 (counts p)) = subst (HasRoom v) (map_each claiming (λ i. undecided_at R undos (rid_on p i)) 0 (counts p)) (k.room p) in
      let less : (i : ℕ) → (f i).claim ≤ (F i).claim = λ i. let no_longer = longest_theirs (rid_on p i) undos some theirs in omega (arith, no_longer) in
      let fewer = claims_less f F 0 (counts p) less in
      subst (HasRoom v) (sym (map_each claiming (λ i. undecided_at R some (rid_on p i)) 0 (counts p))) record {
        room = omega (arith, length-each f 0 (counts p), length-each F 0 (counts p), fewer, room.room);
        each = each_holds v f 0 (counts p) (λ i ge below. let most = most_claim v p (counts p) F room i (omega arith) in let its = less i in (omega arith, omega (arith, most, its)));
      }

  pub claimed_by_some : Claimed v R some counts
  claimed_by_some = record { room = fewer_claims; behind = k.behind; within = within; owned = owned; once = once }

pub some_claimed : (g : Geometry) (log : List LogRecord) (k : IsPlacedLog g log) (some : List SessionTxn) → EachOnce (txns_of some) → AreOfLog log some → Claimed g.version k.records some (slot_count log)
some_claimed g log k some once are = claimed_by_some g.version k.records k.undos some (slot_count log) k.pages once (have_theirs log k.undos k.undecided some are)
