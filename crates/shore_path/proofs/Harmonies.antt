-- Locks with their intentions are in harmony along every path.
use Rattle.std.proofs.Common.{◌≡◌, ◌≢◌, suc, List, [], ◌∷◌, ◌⊎◌, refl, sym, ◌∙◌, get_or, arith, ⊎_elim}
use Rattle.std.specs.Prelude.{IsTrue, All, Any, Contains}
use Rattle.std.specs.List.{AllByRecursion}
use Rattle.std.proofs.lemmas.List.Elements.{All-contains, All-from_recursion, All-cons, All-weaker}
use Rattle.shore_types.specs.declared.locking.Granule.{Granule}
use Rattle.shore_types.specs.declared.locking.Mode.{Mode}
use Rattle.shore_types.specs.declared.locking.Mode.TheVariants.{IS, IX, SH, SIX, EX, UD}
use Rattle.shore_model.specs.declared.holds.Hold.{Hold}
use Rattle.shore_model.specs.Modes.{is_at_most, parent_mode, is_read, is_write}
use Rattle.shore_model.specs.Locks.{ancestors, Agree, StandTogether, Harmony, HoldsAtLeast, IsRooted, WellRooted}
use Rattle.shore_model.proofs.RecordPaths.{on_path, ordered}
use Rattle.shore_modes.proofs.ModeTables.{writer_alone, intention_without_readers, coexist-swap}

-- a writer's intentions are those to write
writer_intends : (m i : Mode) → IsTrue (is_write m) → IsTrue (is_at_most (parent_mode m) i) → IsTrue (is_at_most IX i)
writer_intends EX i w h = h
writer_intends IS i w h = cc
writer_intends IX i w h = cc
writer_intends SH i w h = cc
writer_intends SIX i w h = cc
writer_intends UD i w h = cc

module _ (held : List Hold) (together : StandTogether held) (rooted : WellRooted held) where
  agree : (h k : Hold) → Contains held h → Contains held k → Agree h k
  agree h k in_h in_k = All-contains (Agree h) held k (All-contains (λ h. All (Agree h) held) held h together in_h) in_k

  intends : (h : Hold) (g : Granule) → Contains held h → Contains (ancestors h.granule) g → HoldsAtLeast held h.txn (parent_mode h.mode) g
  intends h g in_h above =
      All-contains (HoldsAtLeast held h.txn (parent_mode h.mode)) (ancestors h.granule) g
      (All-from_recursion (HoldsAtLeast held h.txn (parent_mode h.mode)) (ancestors h.granule) (All-contains (IsRooted held) held h rooted in_h)) above

  meet : (h k : Hold) → Contains held h → Contains held k → h.txn ≢ k.txn → IsTrue (is_write h.mode) → IsTrue (is_read k.mode)
      → (h.granule ≡ k.granule) ⊎ (Contains (ancestors k.granule) h.granule ⊎ Contains (ancestors h.granule) k.granule) → ⊥
  meet h k in_h in_k apart w r cases =
      ⊎_elim (λ same. writer_alone h.mode k.mode w (agree h k in_h in_k same apart))
      (⊎_elim
      (λ above.
      let i = intends k h.granule in_k above in
      writer_alone h.mode i.1.mode w (agree h i.1 in_h (i.0, i.2, i.3) (sym i.4.1) (λ e. apart (e ∙ i.4.0))))
      (λ below.
      let i = intends h k.granule in_h below in
      intention_without_readers i.1.mode k.mode (writer_intends h.mode i.1.mode w i.4.2) r
      (agree i.1 k (i.0, i.2, i.3) in_k i.4.1 (λ e. apart (sym i.4.0 ∙ e)))))
      cases

  pub harmony_of : Harmony held
  harmony_of = record {
    stand_together = together;
    none_interferes = λ r t u apart w d.
        meet w.1 d.1 (w.0, w.2, w.3) (d.0, d.2, d.3) (λ e. apart (sym w.4.0 ∙ e ∙ d.4.0)) w.4.2 d.4.2
        (ordered r w.1.granule d.1.granule (on_path r _ w.4.1) (on_path r _ d.4.1));
  }

Any-cons : {A : Type 0} (P : A → Type 0) (x : A) (xs : List A) → Any P xs → Any P (x ∷ xs)
Any-cons P x xs h = (suc h.0, h.1, omega arith, h.3, h.4)

still_each : {A : Type 0} (P Q : A → Type 0) → ((x : A) → P x → Q x) → (xs : List A) → AllByRecursion P xs → AllByRecursion Q xs
still_each P Q f [] h = h
still_each P Q f (x ∷ xs) h = (f x h.0, still_each P Q f xs h.1)

-- a lock more leaves each lock rooted
still_rooted : (held : List Hold) (n h : Hold) → IsRooted held h → IsRooted (n ∷ held) h
still_rooted held n h rooted =
    still_each (HoldsAtLeast held h.txn (parent_mode h.mode)) (HoldsAtLeast (n ∷ held) h.txn (parent_mode h.mode))
    (λ g. Any-cons (λ k. (k.txn ≡ h.txn) × (k.granule ≡ g) × IsTrue (is_at_most (parent_mode h.mode) k.mode)) n held) (ancestors h.granule) rooted

agree_swapped : (h k : Hold) → Agree h k → Agree k h
agree_swapped h k a same apart = coexist-swap h.mode k.mode (a (sym same) (λ e. apart (sym e)))

All-both : (held : List Hold) (n : Hold) → ((h : Hold) → Agree n h → All (Agree h) held → All (Agree h) (n ∷ held)) → All (Agree n) held → All (λ h. All (Agree h) held) held → All (λ h. All (Agree h) (n ∷ held)) held
All-both held n f a b k d lt = f (get_or held k d) (a k d lt) (b k d lt)

-- a lock that agrees with all of them is compatible with them
stand_with : (held : List Hold) (n : Hold) → StandTogether held → All (Agree n) held → StandTogether (n ∷ held)
stand_with held n together agrees =
    All-cons (λ h. All (Agree h) (n ∷ held)) n held
    (All-cons (Agree n) n held (λ same apart. absurd (apart refl)) agrees)
    (All-both held n (λ h a b. All-cons (Agree h) n held (agree_swapped n h a) b) agrees together)

-- the law of a grant
pub grant_harmony : (held : List Hold) (n : Hold) → StandTogether held → WellRooted held → IsRooted held n → All (Agree n) held → Harmony (n ∷ held) × WellRooted (n ∷ held)
grant_harmony held n together rooted own agrees =
    let all_rooted : WellRooted (n ∷ held) =
    All-cons (IsRooted (n ∷ held)) n held (still_rooted held n n own) (All-weaker (IsRooted held) (IsRooted (n ∷ held)) (still_rooted held n) held rooted) in
    (harmony_of (n ∷ held) (stand_with held n together agrees) all_rooted, all_rooted)
