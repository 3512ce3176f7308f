-- Pages of a log that may be opened have room for all that those in doubt may put back.
use Rattle.std.proofs.Common.{◌≡◌, inl, inr, ◌<◌, ◌≤◌, ℕ, List, [], ◌∷◌, ◌++◌, Bool, true, false, cond, max, length, map, refl, sym, ap, subst, ◌∙◌, append-nil, append_assoc, arith}
use Rattle.std.specs.Prelude.{reverse}
use Rattle.std.specs.FinMap.{get}
use Rattle.std.specs.List.{AllByRecursion}
use Rattle.std.specs.Ordering.{eq_by_cmp}
use Rattle.std.proofs.lemmas.List.{reverse-append, reverse-reverse}
use Rattle.std.proofs.lemmas.Map.Views.{tells_apart}
use Rattle.shore_types.specs.Ids.{exact_pages, page_cmp, rid_cmp}
use Rattle.shore_types.specs.Images.{Image, image_len}
use Rattle.shore_types.specs.declared.ids.PageId.{PageId}
use Rattle.shore_types.specs.declared.ids.Rid.{Rid}
use Rattle.shore_types.specs.declared.layout.Geometry.{Geometry}
use Rattle.shore_types.specs.declared.versions.Version.{Version}
use Rattle.shore_model.specs.declared.log_records.LogRecord.{LogRecord}
use Rattle.shore_model.specs.declared.unanswered_changes.UnansweredChange.{UnansweredChange}
use Rattle.shore_model.specs.Logs.{image_of_record, unanswered}
use Rattle.shore_page.specs.Claims.{FitIn, claimed_by}
use Rattle.shore_page.specs.Room.{Fits, HasRoom, raised}
use Rattle.shore_page.specs.Slots.{Slot, settled, with_change}
use Rattle.shore_page.specs.Undo.{claiming, longest}
use Rattle.shore_txn.proofs.ActiveKept.{claimed_join}
use Rattle.laws_room.proofs.Fetching.{its_longest, kept_fits, longest_of_all, raised_less}
use Rattle.laws_room.proofs.Leaving.{map_each, one_each, same_page}
use Rattle.laws_room.specs.Claims.{Claimed, befores_at, befores_in, each_from, rid_on, undecided_at}
use Rattle.laws_lives.proofs.Lists.{among_append, among_left, among_map, among_right, mapped_one}
use Rattle.laws_lives.proofs.SessionsAgree.{each_at}
use Rattle.laws_lives.specs.Doubts.{LoggedDoubt}
use Rattle.laws_lives.specs.LogTells.{MatchesUndo}
use Rattle.laws_lives.specs.Sessions.{EachOnce, SessionTxn, txns_of}
use Rattle.laws_lives.specs.Views.{IsAmong}
use Rattle.laws_runs.proofs.Undecided.{AreOfLog, some_claimed}
use Rattle.laws_runs.specs.RoomyLogs.{IsRoomyLog, IsUndecided}
use Rattle.laws_runs.specs.SlotCounts.{slot_count, slots_left}
use Rattle.shore_analysis.specs.Doubts.{doubts_left}
use Rattle.shore_restart.proofs.DoubtsNamed.{left_here}
use Rattle.shore_restart.specs.Doubts.{IsUnkept, changes_in_doubt, changes_of, claims_of, undo_told, undos_told}

-- ---- lists

among_reverse : {A : Type 0} (x : A) (xs : List A) → IsAmong x xs → IsAmong x (reverse xs)
among_reverse x [] there = absurd there
among_reverse x (y ∷ xs) (inl same) = subst (IsAmong x) (sym (reverse-append (y ∷ []) xs)) (among_right x (reverse xs) (y ∷ []) (inl same))
among_reverse x (y ∷ xs) (inr later) = subst (IsAmong x) (sym (reverse-append (y ∷ []) xs)) (among_left x (reverse xs) (y ∷ []) (among_reverse x xs later))

all_among : {A : Type 0} (P : A → Type 0) (xs : List A) → ((x : A) → IsAmong x xs → P x) → AllByRecursion P xs
all_among P [] each = tt
all_among P (x ∷ xs) each = (each x (inl refl), all_among P xs (λ y there. each y (inr there)))

-- claims fit that fit behind others
fit_join : (v : Version) (xs ys : List (ℕ × ℕ)) (slots : List Slot) → FitIn v xs (claimed_by ys slots) → FitIn v ys slots → FitIn v (xs ++ ys) slots
fit_join v [] ys slots first second = second
fit_join v (x ∷ xs) ys slots first second =
    subst (λ (l : List Slot). (x.0 < length l) × Fits v l x.0 x.1 × FitIn v (xs ++ ys) slots) (sym (claimed_join xs ys slots)) (first.0, first.1, fit_join v xs ys slots first.2 second)

-- ---- changes of those in doubt

-- what one change claims on a page
abbrev claim_of : PageId → UnansweredChange → List (ℕ × ℕ)
claim_of p c = cond (eq_by_cmp page_cmp p c.id.page) ((c.id.slot, image_len c.before) ∷ []) []

claims_push : (p : PageId) (cs : List UnansweredChange) (c : UnansweredChange) → claims_of p (cs ++ c ∷ []) ≡ claim_of p c ++ claims_of p cs
claims_push p [] c = sym (append-nil (claim_of p c))
claims_push p (x ∷ cs) c = ap (λ (l : List (ℕ × ℕ)). l ++ claim_of p x) (claims_push p cs c) ∙ append_assoc (claim_of p c) (claims_of p cs) (claim_of p x)

-- each is of one of them
its_doubt : (log : List LogRecord) (ds : List LoggedDoubt) (c : UnansweredChange) → IsAmong c (changes_of log ds) → (d : LoggedDoubt) × IsAmong d ds × IsAmong c (unanswered d.txn log)
its_doubt log [] c there = absurd there
its_doubt log (d ∷ ds) c there = elim (among_append c (unanswered d.txn log) (changes_of log ds) there) [
  | inl own ↦ (d, inl refl, own)
  | inr later ↦ let rest = its_doubt log ds c later in (rest.0, inr rest.1, rest.2)
]

abbrev entry_of : UnansweredChange → Rid × Image
entry_of c = (c.id, c.before)

txns_told : (log : List LogRecord) (ds : List LoggedDoubt) → txns_of (map (undo_told log) ds) ≡ map (λ (d : LoggedDoubt). d.txn) ds
txns_told log [] = refl
txns_told log (d ∷ ds) = ap (λ (ts : List ℕ). d.txn ∷ ts) (txns_told log ds)

-- they are undecided, with the undo lists that the log gives them
pub doubts_of_log : (log : List LogRecord) → AreOfLog log (undos_told log)
doubts_of_log log a there =
    let d = mapped_one (undo_told log) a (doubts_left log) there in
    subst (λ (b : SessionTxn). IsUndecided log b.txn × MatchesUndo log b.txn b.undo.images) d.2 (
      inr (left_here log d.0 d.1).0,
      sym (reverse-reverse (map entry_of (unanswered d.0.txn log))),
    )

pub doubts_told_once : (log : List LogRecord) → EachOnce (map (λ (d : LoggedDoubt). d.txn) (doubts_left log)) → EachOnce (txns_of (undos_told log))
doubts_told_once log once = subst EachOnce (sym (txns_told log (doubts_left log))) once

-- ---- on a page

module _ (g : Geometry) (stream_bytes : ℕ) (log : List LogRecord) (k : IsRoomyLog g stream_bytes log) (once : EachOnce (map (λ (d : LoggedDoubt). d.txn) (doubts_left log))) (p : PageId) where
  abbrev undos : List SessionTxn
  undos = undos_told log

  abbrev count : ℕ
  count = slot_count log p

  -- what each slot claims with all of them
  abbrev claimed : ℕ → Slot
  claimed i = claiming (undecided_at k.placed.records undos (rid_on p i))

  all_claimed : Claimed g.version k.placed.records undos (slot_count log)
  all_claimed = some_claimed g log k.placed undos (doubts_told_once log once) (doubts_of_log log)

  room : HasRoom g.version (each_from claimed 0 count)
  room = subst (HasRoom g.version) (map_each claiming (λ i. undecided_at k.placed.records undos (rid_on p i)) 0 count) (all_claimed.room p)

  -- a change of the page is within these claims
  abbrev IsWithin : UnansweredChange → Type 0
  IsWithin c = p ≡ c.id.page → (c.id.slot < count) × (image_len c.before ≤ (claimed c.id.slot).claim)

  each_within : (c : UnansweredChange) → IsAmong c (changes_in_doubt log) → IsWithin c
  each_within c there same =
      let d = its_doubt log (doubts_left log) c there in
      let a = undo_told log d.0 in
      let own : IsAmong a undos = among_map (undo_told log) d.0 (doubts_left log) d.1 in
      let e : IsAmong (entry_of c) a.undo.images = among_reverse (entry_of c) (map entry_of (unanswered d.0.txn log)) (among_map entry_of c (unanswered d.0.txn log) d.2) in
      let slot = each_at (λ (x : Rid × Image). x.0.slot < slot_count log x.0.page) a.undo.images (entry_of c) (all_claimed.within a own) e in
      let long = each_at (λ (x : Rid × Image). image_len x.1 ≤ longest (befores_in x.0 a.undo.images)) a.undo.images (entry_of c) (its_longest a.undo.images) e in
      let all = longest_of_all c.id undos a own in
      let at : rid_on p c.id.slot ≡ c.id = ap (λ q. rid_on q c.id.slot) same in
      let le : image_len c.before ≤ longest (befores_at c.id undos) = omega (arith, long, all) in (
        subst (λ q. c.id.slot < slot_count log q) (sym same) slot,
        over (image_len c.before) (image_len (get k.placed.records (rid_on p c.id.slot))) (longest (befores_at (rid_on p c.id.slot) undos))
            (subst (λ q. image_len c.before ≤ longest (befores_at q undos)) (sym at) le),
      )
    where
      over : (l a b : ℕ) → l ≤ b → l ≤ max a b
      over l a b le = omega arith

  module _ (c : UnansweredChange) (f : ℕ → Slot) (within : IsWithin c) (less : (i : ℕ) → (f i).claim ≤ (claimed i).claim) where
    abbrev slots : List Slot
    slots = each_from f 0 count

    own_fits : FitIn g.version (claim_of p c) slots
    own_fits = elim (eq_by_cmp page_cmp p c.id.page) as (λ b. eq_by_cmp page_cmp p c.id.page ≡ b → FitIn g.version (cond b ((c.id.slot, image_len c.before) ∷ []) []) slots) [
      | true ↦ λ is. let fits = kept_fits g.version p count claimed room (entry_of c) f within less (tells_apart exact_pages p c.id.page is) in (fits.0, fits.1, tt)
      | false ↦ λ is. tt
    ] refl

    abbrev raised_by : ℕ → Slot
    raised_by i = cond (eq_by_cmp rid_cmp (rid_on p i) c.id) (raised (image_len c.before) (f i)) (f i)

    claimed_cases : (b : Bool) → claimed_by (cond b ((c.id.slot, image_len c.before) ∷ []) []) slots ≡ cond b (with_change (raised (image_len c.before)) slots c.id.slot) slots
    claimed_cases true = refl
    claimed_cases false = refl

    own_claimed : claimed_by (claim_of p c) slots ≡ each_from raised_by 0 count
    own_claimed = claimed_cases (eq_by_cmp page_cmp p c.id.page) ∙ one_each (λ i. raised (image_len i)) p count (entry_of c) f (λ same. (within same).0)

    still_less : (i : ℕ) → (raised_by i).claim ≤ (claimed i).claim
    still_less = raised_less g.version p count claimed room (entry_of c) f within less

  all_fit : (cs : List UnansweredChange) (f : ℕ → Slot) → AllByRecursion IsWithin cs → ((i : ℕ) → (f i).claim ≤ (claimed i).claim) → FitIn g.version (claims_of p cs) (each_from f 0 count)
  all_fit [] f within less = tt
  all_fit (c ∷ cs) f within less =
      fit_join g.version (claims_of p cs) (claim_of p c) (each_from f 0 count)
      (subst (FitIn g.version (claims_of p cs)) (sym (own_claimed c f within.0 less)) (all_fit cs (raised_by c f within.0 less) within.1 (still_less c f within.0 less)))
      (own_fits c f within.0 less)

  -- any of those changes, one after another
  pub changes_fit : (cs : List UnansweredChange) → ((c : UnansweredChange) → IsAmong c cs → IsAmong c (changes_in_doubt log)) → FitIn g.version (claims_of p cs) (slots_left log p)
  changes_fit cs are =
      all_fit cs (λ i. settled (image_of_record log (rid_on p i))) (all_among IsWithin cs (λ c there. each_within c (are c there)))
      (λ i. let same = ap image_len (k.placed.shown (rid_on p i)) in least (image_len (image_of_record log (rid_on p i))) (image_len (get k.placed.records (rid_on p i))) (longest (befores_at (rid_on p i) undos)) same)
    where
      least : (l a b : ℕ) → a ≡ l → l ≤ max a b
      least l a b same = omega arith

-- so none is left that finds no room
pub none_unkept : (g : Geometry) (stream_bytes : ℕ) (log : List LogRecord) → IsRoomyLog g stream_bytes log → EachOnce (map (λ (d : LoggedDoubt). d.txn) (doubts_left log)) → (n : ℕ)
    → IsUnkept g.version log n → ⊥
none_unkept g stream_bytes log k once n unkept =
    let c = unkept.change in
    let p = c.id.page in
    let fits : FitIn g.version (claims_of p (unkept.kept ++ c ∷ [])) (slots_left log p) =
    changes_fit g stream_bytes log k once p (unkept.kept ++ c ∷ []) (λ x there. subst (IsAmong x) (sym unkept.order) (some_more x unkept.kept unkept.later c there)) in
    let last : FitIn g.version (claim_of p c ++ claims_of p unkept.kept) (slots_left log p) = subst (λ l. FitIn g.version l (slots_left log p)) (claims_push p unkept.kept c) fits in
    let own : FitIn g.version ((c.id.slot, image_len c.before) ∷ claims_of p unkept.kept) (slots_left log p) =
    subst (λ (b : Bool). FitIn g.version (cond b ((c.id.slot, image_len c.before) ∷ []) [] ++ claims_of p unkept.kept) (slots_left log p)) (same_page p) last in
    unkept.no_room (own.0, own.1)
  where
    some_more : (x : UnansweredChange) (kept later : List UnansweredChange) (c : UnansweredChange) → IsAmong x (kept ++ c ∷ []) → IsAmong x (kept ++ c ∷ later)
    some_more x [] later c (inl same) = inl same
    some_more x [] later c (inr none) = absurd none
    some_more x (y ∷ kept) later c (inl same) = inl same
    some_more x (y ∷ kept) later c (inr there) = inr (some_more x kept later c there)
