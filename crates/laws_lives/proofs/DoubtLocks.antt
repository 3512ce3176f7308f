-- The locks that those in doubt are given back: they are in harmony, and well rooted.
use Rattle.std.proofs.Common.{◌≡◌, ◌≢◌, ◌⊎◌, inl, inr, ⊎_elim, ◌++◌, ◌≤◌, ℕ, suc, List, ◌∷◌, [], length, map, refl, sym, ap, subst, ◌∙◌, arith}
use Rattle.std.specs.Prelude.{All, Contains, IsTrue}
use Rattle.std.specs.List.{AllByRecursion}
use Rattle.std.proofs.lemmas.List.Elements.{All-contains, All-contains_itself, All-weaker, Contains-append_cases}
use Rattle.shore_types.specs.declared.ids.Rid.{Rid}
use Rattle.shore_types.specs.declared.locking.Granule.{Granule}
use Rattle.shore_types.specs.declared.locking.Granule.TheVariants.{Page, Record, Store, Volume}
use Rattle.shore_types.specs.declared.locking.Mode.{Mode}
use Rattle.shore_types.specs.declared.locking.Mode.TheVariants.{EX, IS, IX, SH}
use Rattle.shore_model.specs.declared.holds.Hold.{Hold}
use Rattle.shore_model.specs.declared.log_records.LogRecord.{LogRecord}
use Rattle.shore_model.specs.Locks.{Agree, Harmony, HoldsAtLeast, IsRooted, MayRead, WellRooted, OnOnePath, ancestors, path}
use Rattle.shore_model.specs.Modes.{coexist, is_at_most, is_read, parent_mode}
use Rattle.shore_model.proofs.RecordPaths.{head_contained, rest_contained}
use Rattle.laws_lives.proofs.GranulePaths.{on_one_path}
use Rattle.laws_lives.proofs.Views.{read_of_write}
use Rattle.laws_lives.proofs.Lists.{among_append, among_contained, among_left, among_map, among_right, mapped_one}
use Rattle.laws_lives.proofs.StrongerLocks.{at_most_itself}
use Rattle.laws_lives.proofs.WorkedRun.{only_one}
use Rattle.laws_lives.specs.Doubts.{AreRestored, DoubtsStand, IsRestored, LoggedDoubt, TracksDoubts, doubts_in, locks_for, locks_under, node_of, restored_locks}
use Rattle.laws_lives.specs.Sessions.{EachOnce, Sessions}
use Rattle.laws_lives.specs.Views.{IsAmong}

-- all elements, if each that the list has
all_of : {A : Type 0} (P : A → Type 0) (xs : List A) → ((x : A) → Contains xs x → P x) → All P xs
all_of P xs f = All-weaker (Contains xs) P f xs (All-contains_itself xs)

no_read : (m : Mode) → m ≡ IX → IsTrue (is_read m) → ⊥
no_read m e r = absurd (ix_reads (subst (λ m. IsTrue (is_read m)) e r))
  where
    ix_reads : IsTrue (is_read IX) → ⊥
    ix_reads h = cc

module _ {log : List LogRecord} {held : List Hold} (stand : DoubtsStand log) (k : AreRestored log held) where
  -- what one of them may read, and so write, lies under a granule of its Prepare
  pub record ReadsUnder (t : ℕ) (id : Rid) : Type 0 where
    pub doubt : LoggedDoubt
    pub granule : Granule
    pub among : IsAmong doubt (doubts_in log)
    pub its : t ≡ doubt.txn
    pub named : Contains doubt.granules granule
    pub on : Contains (path (Record id)) granule

  pub reads_under : (t : ℕ) (id : Rid) → MayRead held t id → ReadsUnder t id
  reads_under t id r =
      let h = k.each r.1 (r.0, r.2, r.3) in
      record {
        doubt = h.0;
        granule = h.1;
        among = h.2;
        its = sym r.4.0 ∙ h.3;
        named = h.4;
        on = ⊎_elim (λ ex. subst (Contains (path (Record id))) ex.1 r.4.1) (λ ix. absurd (no_read r.1.mode ix.0 r.4.2)) h.5;
      }

  -- two transactions
  never_on_one_path : (d e : LoggedDoubt) (g h : Granule) → IsAmong d (doubts_in log) → IsAmong e (doubts_in log) → d.txn ≢ e.txn → Contains d.granules g → Contains e.granules h → OnOnePath g h → ⊥
  never_on_one_path d e g h a b differ c f on = stand.apart d e g h a b differ c f on

  agree : (h i : Hold) → IsRestored log h → IsRestored log i → Agree h i
  agree h i a b same differ =
      let apart : a.0.txn ≢ b.0.txn = λ e. differ (a.3 ∙ e ∙ sym b.3) in
      ⊎_elim
      (λ ex. ⊎_elim
      (λ also. absurd (never_on_one_path a.0 b.0 a.1 b.1 a.2 b.2 apart a.4 b.4 (inl (subst (Contains (path a.1)) (sym ex.1 ∙ same ∙ also.1) (head_contained a.1 (ancestors a.1))))))
      (λ ix. absurd (never_on_one_path a.0 b.0 a.1 b.1 a.2 b.2 apart a.4 b.4 (inr (rest_contained b.1 (ancestors b.1) a.1 (subst (Contains (ancestors b.1)) (sym same ∙ ex.1) ix.1)))))
      b.5)
      (λ ix. ⊎_elim
      (λ ex. absurd (never_on_one_path a.0 b.0 a.1 b.1 a.2 b.2 apart a.4 b.4 (inl (rest_contained a.1 (ancestors a.1) b.1 (subst (Contains (ancestors a.1)) (same ∙ ex.1) ix.1)))))
      (λ also. subst (λ m. IsTrue (coexist m i.mode)) (sym ix.0) (subst (λ m. IsTrue (coexist IX m)) (sym also.0) refl))
      b.5)
      a.5

  pub restored_in_harmony : Harmony held
  restored_in_harmony = record {
    stand_together = all_of (λ h. All (Agree h) held) held (λ h in_h. all_of (Agree h) held (λ i in_i. agree h i (k.each h in_h) (k.each i in_i)));
    none_interferes = λ r t u differ w d.
        let a = reads_under t r (read_of_write held t r w) in
        let b = reads_under u r d in
        never_on_one_path a.doubt b.doubt a.granule b.granule a.among b.among (λ e. differ (a.its ∙ e ∙ sym b.its)) a.named b.named
        (on_one_path r a.granule b.granule a.on b.on);
  }

-- ---- the locks of the log are such

pub contained_among : {A : Type 0} (xs : List A) (x : A) → Contains xs x → IsAmong x xs
contained_among [] x c = absurd (omega (arith, c.1))
contained_among (y ∷ xs) x c = ⊎_elim (λ l. inl (only_one y x l)) (λ l. inr (contained_among xs x l)) (Contains-append_cases (y ∷ []) xs x c)

-- one of them is of a granule, or above it
record IsOfGranule (t : ℕ) (g : Granule) (h : Hold) : Type 0 where
  pub txn : h.txn ≡ t
  pub either : ((h.mode ≡ EX) × (h.granule ≡ g)) ⊎ ((h.mode ≡ IX) × Contains (ancestors g) h.granule)

one_under : (t : ℕ) (g : Granule) (h : Hold) → IsAmong h (locks_under t g) → IsOfGranule t g h
one_under t g h (inl e) = record { txn = ap (λ (h : Hold). h.txn) (sym e); either = inl (ap (λ (h : Hold). h.mode) (sym e), ap (λ (h : Hold). h.granule) (sym e)) }
one_under t g h (inr later) =
    let a = mapped_one (λ a. record { txn = t; granule = a; mode = IX }) h (ancestors g) later in
    record {
      txn = ap (λ (h : Hold). h.txn) (sym a.2);
      either = inr (ap (λ (h : Hold). h.mode) (sym a.2), subst (Contains (ancestors g)) (ap (λ (h : Hold). h.granule) a.2) (among_contained a.0 (ancestors g) a.1));
    }

one_for : (t : ℕ) (gs : List Granule) (h : Hold) → IsAmong h (locks_for t gs) → (g : Granule) × IsAmong g gs × IsOfGranule t g h
one_for t [] h b = absurd b
one_for t (g ∷ gs) h b = ⊎_elim
    (λ here. (g, inl refl, one_under t g h here))
    (λ later. let r = one_for t gs h later in (r.0, inr r.1, r.2))
    (among_append h (locks_under t g) (locks_for t gs) b)

one_restored : (ds : List LoggedDoubt) (h : Hold) → IsAmong h (restored_locks ds) → (d : LoggedDoubt) × IsAmong d ds × ((g : Granule) × IsAmong g d.granules × IsOfGranule d.txn g h)
one_restored [] h b = absurd b
one_restored (d ∷ ds) h b = ⊎_elim
    (λ here. (d, inl refl, one_for d.txn d.granules h here))
    (λ later. let r = one_restored ds h later in (r.0, inr r.1, r.2))
    (among_append h (locks_for d.txn d.granules) (restored_locks ds) b)

has_for : (t : ℕ) (gs : List Granule) (g : Granule) (h : Hold) → IsAmong g gs → IsAmong h (locks_under t g) → IsAmong h (locks_for t gs)
has_for t [] g h a b = absurd a
has_for t (x ∷ gs) g h (inl e) b = among_left h (locks_under t x) (locks_for t gs) (subst (λ g. IsAmong h (locks_under t g)) (sym e) b)
has_for t (x ∷ gs) g h (inr later) b = among_right h (locks_under t x) (locks_for t gs) (has_for t gs g h later b)

has_restored : (ds : List LoggedDoubt) (d : LoggedDoubt) (g : Granule) (h : Hold) → IsAmong d ds → IsAmong g d.granules → IsAmong h (locks_under d.txn g) → IsAmong h (restored_locks ds)
has_restored [] d g h a b c = absurd a
has_restored (e ∷ ds) d g h (inl is) b c =
    among_left h (locks_for e.txn e.granules) (restored_locks ds) (subst (λ (d : LoggedDoubt). IsAmong h (locks_for d.txn d.granules)) (sym is) (has_for d.txn d.granules g h b c))
has_restored (e ∷ ds) d g h (inr later) b c = among_right h (locks_for e.txn e.granules) (restored_locks ds) (has_restored ds d g h later b c)

as_held : (held : List Hold) (h : Hold) → IsAmong h held → HoldsAtLeast held h.txn h.mode h.granule
as_held held h a = let c = among_contained h held a in (c.0, h, c.1, c.2, (refl, refl, at_most_itself h.mode))

pub locks_are_restored : (log : List LogRecord) → AreRestored log (restored_locks (doubts_in log))
locks_are_restored log = record {
  each = λ h c.
      let r = one_restored (doubts_in log) h (contained_among (restored_locks (doubts_in log)) h c) in
      (r.0, r.2.0, r.1, r.2.2.txn, among_contained r.2.0 r.0.granules r.2.1, r.2.2.either);
  all = λ d g a c. as_held (restored_locks (doubts_in log)) record { txn = d.txn; granule = g; mode = EX } (has_restored (doubts_in log) d g _ a (contained_among d.granules g c) (inl refl));
  above = λ d g b a c i. as_held (restored_locks (doubts_in log)) record { txn = d.txn; granule = b; mode = IX }
      (has_restored (doubts_in log) d g _ a (contained_among d.granules g c) (inr (among_map (λ a. record { txn = d.txn; granule = a; mode = IX }) b (ancestors g) (contained_among (ancestors g) b i))));
}

-- ---- they are well rooted, and no more than was held

every_of : {A : Type 0} (P : A → Type 0) (xs : List A) → ((x : A) → IsAmong x xs → P x) → AllByRecursion P xs
every_of P [] f = tt
every_of P (x ∷ xs) f = (f x (inl refl), every_of P xs (λ y m. f y (inr m)))

one_of : {A : Type 0} (P : A → Type 0) (xs : List A) → AllByRecursion P xs → (x : A) → IsAmong x xs → P x
one_of P [] all x m = absurd m
one_of P (y ∷ xs) all x m = ⊎_elim (λ e. subst P e all.0) (λ later. one_of P xs all.1 x later) m

-- what is above a granule that is above another is above that
above_above : (g x a : Granule) → IsAmong x (ancestors g) → IsAmong a (ancestors x) → IsAmong a (ancestors g)
above_above Volume x a m n = absurd m
above_above (Store s) x a m n = ⊎_elim (λ e. absurd (subst (λ x. IsAmong a (ancestors x)) (sym e) n)) (λ none. absurd none) m
above_above (Page p) x a m n = ⊎_elim
    (λ e. inr (subst (λ x. IsAmong a (ancestors x)) (sym e) n))
    (λ later. ⊎_elim (λ e. absurd (subst (λ x. IsAmong a (ancestors x)) (sym e) n)) (λ none. absurd none) later) m
above_above (Record r) x a m n = ⊎_elim
    (λ e. inr (subst (λ x. IsAmong a (ancestors x)) (sym e) n))
    (λ later. ⊎_elim
    (λ e. inr (inr (subst (λ x. IsAmong a (ancestors x)) (sym e) n)))
    (λ last. ⊎_elim (λ e. absurd (subst (λ x. IsAmong a (ancestors x)) (sym e) n)) (λ none. absurd none) last) later) m

exclusive_only : (m : Mode) → IsTrue (is_at_most EX m) → parent_mode m ≡ IX
exclusive_only IS h = absurd (not_so h)
  where
    not_so : IsTrue (is_at_most EX IS) → ⊥
    not_so h = cc
exclusive_only SH h = absurd (not_so h)
  where
    not_so : IsTrue (is_at_most EX SH) → ⊥
    not_so h = cc
exclusive_only _ h = refl

module _ {log : List LogRecord} {held : List Hold} (k : AreRestored log held) where
  pub restored_well_rooted : WellRooted held
  restored_well_rooted = all_of (IsRooted held) held rooted
    where
      rooted : (h : Hold) → Contains held h → IsRooted held h
      rooted h c =
          let r = k.each h c in
          let over : (a : Granule) → IsAmong a (ancestors r.1) → HoldsAtLeast held h.txn IX a =
          λ a m. subst (λ t. HoldsAtLeast held t IX a) (sym r.3) (k.above r.0 r.1 a r.2 r.4 (among_contained a (ancestors r.1) m)) in
          ⊎_elim
          (λ here. subst (λ m. AllByRecursion (HoldsAtLeast held h.txn (parent_mode m)) (ancestors h.granule)) (sym here.0)
          (subst (λ g. AllByRecursion (HoldsAtLeast held h.txn IX) (ancestors g)) (sym here.1) (every_of (HoldsAtLeast held h.txn IX) (ancestors r.1) over)))
          (λ above. subst (λ m. AllByRecursion (HoldsAtLeast held h.txn (parent_mode m)) (ancestors h.granule)) (sym above.0)
          (every_of (HoldsAtLeast held h.txn IX) (ancestors h.granule) (λ a m. over a (above_above r.1 h.granule a (contained_among (ancestors r.1) h.granule above.1) m))))
          r.5

  pub restored_were_held : (s : Sessions) → TracksDoubts log s → WellRooted s.held → All (λ h. HoldsAtLeast s.held h.txn h.mode h.granule) held
  restored_were_held s tracks rooted = all_of (λ h. HoldsAtLeast s.held h.txn h.mode h.granule) held was
    where
      was : (h : Hold) → Contains held h → HoldsAtLeast s.held h.txn h.mode h.granule
      was h c =
          let r = k.each h c in
          let on : HoldsAtLeast s.held h.txn EX r.1 = subst (λ t. HoldsAtLeast s.held t EX r.1) (sym r.3) (tracks.hold r.0 r.1 r.2 r.4) in
          let there : Hold = on.1 in
          let under : IsRooted s.held there = All-contains (IsRooted s.held) s.held there rooted (on.0, on.2, on.3) in
          ⊎_elim
          (λ here. subst (λ m. HoldsAtLeast s.held h.txn m h.granule) (sym here.0) (subst (λ g. HoldsAtLeast s.held h.txn EX g) (sym here.1) on))
          (λ above. subst (λ m. HoldsAtLeast s.held h.txn m h.granule) (sym above.0)
          (subst (λ t. HoldsAtLeast s.held t IX h.granule) on.4.0
          (subst (λ m. HoldsAtLeast s.held there.txn m h.granule) (exclusive_only there.mode on.4.2)
          (one_of (HoldsAtLeast s.held there.txn (parent_mode there.mode)) (ancestors there.granule) under h.granule
          (subst (λ g. IsAmong h.granule (ancestors g)) (sym on.4.1) (contained_among (ancestors r.1) h.granule above.1))))))
          r.5

-- ---- each once inside others

split_at : {A : Type 0} (x : A) (ys : List A) → IsAmong x ys → (front : List A) × (back : List A) × (ys ≡ front ++ x ∷ back)
split_at x [] m = absurd m
split_at x (y ∷ ys) m = ⊎_elim
    (λ e. ([], ys, ap (λ y. y ∷ ys) e))
    (λ later. let r = split_at x ys later in (y ∷ r.0, r.1, ap (λ l. y ∷ l) r.2)) m

one_longer : {A : Type 0} (x : A) (front back : List A) → length (front ++ x ∷ back) ≡ suc (length (front ++ back))
one_longer x [] back = refl
one_longer x (y ∷ front) back = ap suc (one_longer x front back)

pub no_longer : {A : Type 0} (xs ys : List A) → EachOnce xs → ((x : A) → IsAmong x xs → IsAmong x ys) → length xs ≤ length ys
no_longer [] ys once inside = omega arith
no_longer (x ∷ xs) ys once inside =
    let s = split_at x ys (inside x (inl refl)) in
    let le = no_longer xs (s.0 ++ s.1) once.1 (λ y m. ⊎_elim
    (λ a. among_left y s.0 s.1 a)
    (λ later. ⊎_elim (λ e. absurd (once.0 (subst (λ z. IsAmong z xs) (sym e) m))) (λ b. among_right y s.0 s.1 b) later)
    (among_append y s.0 (x ∷ s.1) (subst (IsAmong y) s.2 (inside y (inr m))))) in
    let long : length ys ≡ suc (length (s.0 ++ s.1)) = ap length s.2 ∙ one_longer x s.0 s.1 in
    omega arith

module _ {log : List LogRecord} {held : List Hold} (k : AreRestored log held) (s : Sessions) (tracks : TracksDoubts log s) (rooted : WellRooted s.held) where
  pub restored_are_no_more : EachOnce (map node_of held) → length held ≤ length s.held
  restored_are_no_more once =
      let le = no_longer (map node_of held) (map node_of s.held) once inside in
      let a : length (map node_of held) ≡ length held = as_long held in
      let b : length (map node_of s.held) ≡ length s.held = as_long s.held in
      omega arith
    where
      as_long : (hs : List Hold) → length (map node_of hs) ≡ length hs
      as_long [] = refl
      as_long (h ∷ hs) = ap suc (as_long hs)

      inside : (n : ℕ × Granule) → IsAmong n (map node_of held) → IsAmong n (map node_of s.held)
      inside n m =
          let h = mapped_one node_of n held m in
          let was = All-contains (λ h. HoldsAtLeast s.held h.txn h.mode h.granule) held h.0 (restored_were_held k s tracks rooted) (among_contained h.0 held h.1) in
          let its : node_of was.1 ≡ n = node_same was.1.txn h.0.txn was.1.granule h.0.granule was.4.0 was.4.1 ∙ h.2 in
          subst (λ n. IsAmong n (map node_of s.held)) its (among_map node_of was.1 s.held (contained_among s.held was.1 (was.0, was.2, was.3)))
        where
          node_same : (t u : ℕ) (g x : Granule) → t ≡ u → g ≡ x → ◌≡◌ {A = ℕ × Granule} (t, g) (u, x)
          node_same t u g x e f = cc
