-- Whether those in doubt can all hold what is theirs, by what the log says of any two of them; and a table with them, as sessions have it.
use Rattle.std.proofs.Common.{◌≡◌, ◌⊎◌, ◌+◌, ◌*◌, ◌++◌, ◌∷◌, [], ℕ, List, Some, inl, inr, refl, sym, ap, subst, ◌∙◌, length, map, reverse, arith}
use Rattle.std.specs.Prelude.{unwrap_or}
use Rattle.std.specs.List.{cons_option, sum_by}
use Rattle.std.proofs.lemmas.List.{append_assoc, map-append, reverse-reverse}
use Rattle.std.proofs.lemmas.List.Sums.{sum_by-cons}
use Rattle.shore_types.specs.declared.layout.Geometry.{Geometry}
use Rattle.shore_types.specs.declared.layout.TheConstants.{ENDING_COST}
use Rattle.shore_types.specs.declared.locking.Granule.{Granule}
use Rattle.shore_model.specs.declared.log_records.LogRecord.{LogRecord}
use Rattle.shore_model.specs.Locks.{OnOnePath}
use Rattle.shore_model.specs.Logs.{prepare_number}
use Rattle.shore_analysis.specs.Doubts.{doubts_left}
use Rattle.shore_analysis.specs.KeptMeant.{AreMeantKept}
use Rattle.shore_analysis.specs.Padded.{padded}
use Rattle.shore_analysis.proofs.AnchoredFirsts.{none_unmeant}
use Rattle.laws_lives.specs.Doubts.{DoubtsStand, LoggedDoubt, NeedMore, doubts_in, locks_for, node_of, restored_locks, undo_in}
use Rattle.laws_lives.specs.Sessions.{EachOnce}
use Rattle.laws_lives.specs.Views.{IsAmong}
use Rattle.laws_lives.proofs.Lists.{among_left}
use Rattle.laws_room.specs.LogRooms.{owed_by_all}
use Rattle.shore_txn.specs.ActiveTxns.{session_txns}
use Rattle.shore_txn.specs.Txns.{as_prepared, as_session_txn, entries_of, in_doubt_as, prepared_of, rolling_of}
use Rattle.shore_txn.specs.UndoEntries.{images_of}
use Rattle.shore_txn.specs.declared.txn.Txn.{Txn}
use Rattle.shore_txn.proofs.OneOfMany.{among_middle}
use Rattle.shore_sessions.specs.Standing.{as_change}
use Rattle.shore_restart.specs.Doubts.{CanHold, CannotHold, Clash, HasNoPlace, IsRefusedBy, IsTaken, owed_in, prepared_as, undo_told}
use Rattle.shore_restart.specs.GivenBack.{AreGivenBack, IsGivenBack}
use Rattle.shore_restart.proofs.ChangesBack.{images_as_told, map_reverse, told_images}
use Rattle.shore_restart.proofs.DoubtsAll.{left_of_meant}
use Rattle.shore_restart.proofs.DoubtsHeld.{never_again}
use Rattle.shore_restart.proofs.DoubtsNamed.{doubts_once, head_or, tail_of}

-- ---- places in a list

-- one of two comes before the other, or they are one
pub record ComesBefore {A : Type 0} (xs : List A) (x y : A) : Type 0 where
  pub before : List A
  pub later : List A
  pub order : xs ≡ before ++ y ∷ later
  pub among : IsAmong x before

behind_first : {A : Type 0} (z : A) (xs : List A) (x y : A) → z ≡ x → IsAmong y xs → ComesBefore (z ∷ xs) x y
behind_first z [] x y one none = absurd none
behind_first z (w ∷ xs) x y one (inl same) = record { before = z ∷ []; later = xs; order = ap (λ v. z ∷ v ∷ xs) same; among = inl one }
behind_first z (w ∷ xs) x y one (inr there) =
    let rest = behind_first w xs w y refl there in record { before = z ∷ rest.before; later = rest.later; order = ap (λ l. z ∷ l) rest.order; among = inl one }

pub in_turn : {A : Type 0} (xs : List A) (x y : A) → IsAmong x xs → IsAmong y xs → (x ≡ y) ⊎ (ComesBefore xs x y ⊎ ComesBefore xs y x)
in_turn [] x y none there = absurd none
in_turn (z ∷ xs) x y (inl one) (inl other) = inl (sym one ∙ other)
in_turn (z ∷ xs) x y (inl one) (inr there) = inr (inl (behind_first z xs x y one there))
in_turn (z ∷ xs) x y (inr there) (inl one) = inr (inr (behind_first z xs y x one there))
in_turn (z ∷ xs) x y (inr here) (inr there) = elim (in_turn xs x y here there) [
  | inl same ↦ inl same
  | inr (inl first) ↦ inr (inl (record { before = z ∷ first.before; later = first.later; order = ap (λ l. z ∷ l) first.order; among = inr first.among }))
  | inr (inr first) ↦ inr (inr (record { before = z ∷ first.before; later = first.later; order = ap (λ l. z ∷ l) first.order; among = inr first.among }))
]

-- a list is empty, or has a last element
pub last_of_list : {A : Type 0} (xs : List A) → (xs ≡ []) ⊎ ((front : List A) × (x : A) × (xs ≡ front ++ x ∷ []))
last_of_list [] = inl refl
last_of_list (x ∷ xs) = elim (last_of_list xs) [
  | inl none ↦ inr ([], x, ap (λ l. x ∷ l) none)
  | inr some ↦ inr (x ∷ some.0, some.1, ap (λ l. x ∷ l) some.2)
]

-- one of two elements of a list comes no later than the other
pub two_places : {A : Type 0} (xs ys rest others : List A) (x y : A) → xs ++ x ∷ rest ≡ ys ++ y ∷ others
    → (x ≡ y) ⊎ (((mid : List A) × (ys ≡ xs ++ x ∷ mid)) ⊎ ((mid : List A) × (xs ≡ ys ++ y ∷ mid)))
two_places [] [] rest others x y is = inl (ap (head_or x) is)
two_places [] (z ∷ ys) rest others x y is = inr (inl (ys, ap (λ v. v ∷ ys) (sym (ap (head_or x) is))))
two_places (z ∷ xs) [] rest others x y is = inr (inr (xs, ap (λ v. v ∷ xs) (ap (head_or z) is)))
two_places (z ∷ xs) (w ∷ ys) rest others x y is = elim (two_places xs ys rest others x y (ap tail_of is)) [
  | inl same ↦ inl same
  | inr (inl later) ↦ inr (inl (later.0, (λ i. sym (ap (head_or z) is) i ∷ later.1 i)))
  | inr (inr later) ↦ inr (inr (later.0, (λ i. ap (head_or z) is i ∷ later.1 i)))
]

-- ---- any two of them

swapped : (g h : Granule) → OnOnePath g h → OnOnePath h g
swapped g h (inl on) = inr on
swapped g h (inr on) = inl on

other_way : (d e : LoggedDoubt) → Clash d e → Clash e d
other_way d e (inl same) = inl (sym same)
other_way d e (inr (g, h, c, f, on)) = inr (h, g, f, c, swapped g h on)

restored_append : (xs ys : List LoggedDoubt) → restored_locks (xs ++ ys) ≡ restored_locks xs ++ restored_locks ys
restored_append [] ys = refl
restored_append (d ∷ xs) ys = ap (λ l. locks_for d.txn d.granules ++ l) (restored_append xs ys) ∙ sym (append_assoc (locks_for d.txn d.granules) (restored_locks xs) (restored_locks ys))

-- .. with more of them the locks need no fewer places
need_more : (limit : ℕ) (xs ys : List LoggedDoubt) → NeedMore limit xs → NeedMore limit (xs ++ ys)
need_more limit xs ys (nodes, once, each, more) = (
  nodes,
  once,
  λ x there. subst (IsAmong x) (sym (map-append node_of (restored_locks xs) (restored_locks ys)) ∙ ap (map node_of) (sym (restored_append xs ys)))
      (among_left x (map node_of (restored_locks xs)) (map node_of (restored_locks ys)) (each x there)),
  more,
)

none_need : (limit : ℕ) → NeedMore limit [] → ⊥
none_need limit ([], once, each, more) = absurd (omega (arith, more))
none_need limit (n ∷ nodes, once, each, more) = each n (inl refl)

module _ (g : Geometry) (log : List LogRecord) (limit : ℕ) (meant : AreMeantKept g 0 log) where
  once : EachOnce (map (λ d. d.txn) (doubts_in log))
  once = subst (λ (ds : List LoggedDoubt). EachOnce (map (λ (d : LoggedDoubt). d.txn) ds)) (left_of_meant g log meant) (doubts_once g 0 log meant)

  -- two of them that clash are one
  pub clash_is_one : CanHold limit (doubts_in log) → (d e : LoggedDoubt) → IsAmong d (doubts_in log) → IsAmong e (doubts_in log) → Clash d e → d ≡ e
  clash_is_one hold d e a b clash = elim (in_turn (doubts_in log) d e a b) [
    | inl same ↦ same
    | inr (inl first) ↦ absurd (hold first.before first.later e first.order (inl (d, first.among, clash)))
    | inr (inr first) ↦ absurd (hold first.before first.later d first.order (inl (e, first.among, other_way d e clash)))
  ]

  pub stand_if_held : CanHold limit (doubts_in log) → DoubtsStand log × (NeedMore limit (doubts_in log) → ⊥)
  stand_if_held hold = (
    record {
      apart = λ d e g h a b differ c f on. differ (ap (λ (x : LoggedDoubt). x.txn) (clash_is_one hold d e a b (inr (g, h, c, f, on))));
      differ = λ d e a b same. ap (λ (x : LoggedDoubt). x.txn) (clash_is_one hold d e a b (inl same));
    },
    λ more. elim (last_of_list (doubts_in log)) [
      | inl none ↦ none_need limit (subst (NeedMore limit) none more)
      | inr some ↦ hold some.0 [] some.1 some.2 (inr (subst (NeedMore limit) some.2 more))
    ],
  )

  pub held_if_stand : DoubtsStand log × (NeedMore limit (doubts_in log) → ⊥) → CanHold limit (doubts_in log)
  held_if_stand stand before later d order no_place = by no_place
    where
      mine : (x : LoggedDoubt) → IsAmong x (before ++ d ∷ later) → IsAmong x (doubts_in log)
      mine x there = subst (IsAmong x) (sym order) there

      one_txn : (e : LoggedDoubt) → IsAmong e before → e.txn ≡ d.txn → ⊥
      one_txn e among same = never_again (λ (x : LoggedDoubt). x.txn) (doubts_in log) before later d e once order among same

      by : HasNoPlace limit before d → ⊥
      by (inl (e, among, inl same)) = one_txn e among (stand.0.differ e d (mine e (among_left e before (d ∷ later) among)) (mine d (among_middle before later d)) same)
      by (inl (e, among, inr (k, h, c, f, on))) =
          stand.0.apart e d k h (mine e (among_left e before (d ∷ later) among)) (mine d (among_middle before later d)) (one_txn e among) c f on
      by (inr more) = stand.1 (subst (NeedMore limit) (append_assoc before (d ∷ []) later ∙ sym order) (need_more limit (before ++ d ∷ []) later more))

pub none_cannot : (log : List LogRecord) (limit n : ℕ) → CanHold limit (doubts_left log) → CannotHold limit log n → ⊥
none_cannot log limit n hold cannot = hold cannot.before cannot.later cannot.doubt cannot.order cannot.no_place

pub one_cannot : (log : List LogRecord) (limit n m : ℕ) → CannotHold limit log n → CannotHold limit log m → n ≡ m
one_cannot log limit n m a b = elim (two_places a.before b.before a.later b.later a.doubt b.doubt (sym a.order ∙ b.order)) [
  | inl same ↦ a.number ∙ ap (λ (x : LoggedDoubt). prepare_number x.txn log) same ∙ sym b.number
  | inr (inl later) ↦ absurd (b.first a.before later.0 a.doubt later.1 a.no_place)
  | inr (inr later) ↦ absurd (a.first b.before later.0 b.doubt later.1 b.no_place)
]

pub taken_or_refused : (g : Geometry) (cut checkpoint : ℕ) (kept : List LogRecord) (n : ℕ) → IsTaken g cut checkpoint kept → IsRefusedBy g cut checkpoint kept n → ⊥
taken_or_refused g cut checkpoint kept n taken (inr cannot) = none_cannot (padded cut kept) g.max_locks n taken.1 cannot.1
taken_or_refused g cut checkpoint kept n taken (inl first) = none_unmeant g cut checkpoint kept n taken.0 first

-- ---- as sessions

-- the undo list of one that is given back is the log's
undo_same : (log : List LogRecord) (d : LoggedDoubt) (t : Txn) → IsGivenBack log d t → images_of (entries_of t) ≡ (undo_in log d.txn).images
undo_same log d t back =
    images_as_told (entries_of t) ∙ sym (reverse-reverse (told_images (map as_change (entries_of t)))) ∙ ap reverse (sym (map_reverse (λ c. (c.id, c.before)) (map as_change (entries_of t))))
    ∙ ap (λ cs. reverse (told_images cs)) (sym back.entries.changes)

as_told : (log : List LogRecord) (d : LoggedDoubt) (t : Txn) → IsGivenBack log d t → as_session_txn t ≡ undo_told log d
as_told log d t back = λ i. record {
  session = back.session i;
  txn = back.txn i;
  undo = record { images = undo_same log d t back i; marks = back.marks i; rolling = rolling_of (back.waits i) };
}

pub undos_same : (log : List LogRecord) (ds : List LoggedDoubt) (ts : List Txn) → AreGivenBack log ds ts → session_txns ts ≡ map (undo_told log) ds
undos_same log [] [] back = refl
undos_same log [] (t ∷ ts) back = absurd back
undos_same log (d ∷ ds) [] back = absurd back
undos_same log (d ∷ ds) (t ∷ ts) back = (λ i. as_told log d t back.0 i ∷ undos_same log ds ts back.1 i)

prepared_same_one : (log : List LogRecord) (d : LoggedDoubt) (t : Txn) → IsGivenBack log d t → as_prepared t ≡ Some (prepared_as d)
prepared_same_one log d t back = λ i. in_doubt_as (back.txn i) (unwrap_or (back.global i) []) (back.waits i)

pub prepared_same : (log : List LogRecord) (ds : List LoggedDoubt) (ts : List Txn) → AreGivenBack log ds ts → prepared_of ts ≡ map prepared_as ds
prepared_same log [] [] back = refl
prepared_same log [] (t ∷ ts) back = absurd back
prepared_same log (d ∷ ds) [] back = absurd back
prepared_same log (d ∷ ds) (t ∷ ts) back = (λ i. cons_option (prepared_same_one log d t back.0 i) (prepared_same log ds ts back.1 i))

pub reserved_same : (log : List LogRecord) (ds : List LoggedDoubt) → sum_by (λ d. owed_in log d.txn) ds ≡ owed_by_all (map (undo_told log) ds) + ENDING_COST * length ds
reserved_same log [] = omega arith
reserved_same log (d ∷ ds) = let rest = reserved_same log ds in let more = sum_by-cons (λ x. owed_in log x.txn) d ds in omega (arith, rest, more)
