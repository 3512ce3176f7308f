-- A transaction ends and its locks go: those of the others stay, and are in harmony.
use Rattle.std.proofs.Common.{◌≡◌, ◌≢◌, ◌<◌, ℕ, List, [], ◌∷◌, Bool, true, false, cond, inl, inr, ⊎_elim, refl, sym, ap, ◌∙◌}
use Rattle.std.specs.Prelude.{◌==◌, All, Any, filter, not}
use Rattle.std.proofs.lemmas.Bool.{ne_eqb}
use Rattle.std.proofs.lemmas.List.Elements.{All-filter, All-weaker}
use Rattle.shore_model.specs.declared.histories.Entry.{Entry}
use Rattle.shore_model.specs.declared.histories.Opening.{Opening}
use Rattle.shore_model.specs.declared.holds.Hold.{Hold}
use Rattle.shore_model.specs.Locks.{Agree, Harmony}
use Rattle.shore_model.specs.Records.{Records}
use Rattle.laws_lives.proofs.DoubtLocks.{contained_among}
use Rattle.laws_lives.proofs.DoubtRecords.{among_filter}
use Rattle.laws_lives.proofs.Lists.{among_contained}
use Rattle.laws_lives.proofs.QuietSteps.{locks_stay_sound}
use Rattle.laws_lives.specs.SessionSteps.{KeepsLocks}
use Rattle.laws_lives.specs.Sessions.{SessionTxn, Sessions, locks_moved, txns_of, without_locks, without_txn}
use Rattle.laws_lives.specs.Soundness.{IsSoundAfter}
use Rattle.laws_lives.specs.Views.{IsAmong}

-- the state as its transaction ends, with its locks still held
abbrev pub left_with : Sessions → SessionTxn → Records → Sessions
left_with s a R = record s { records = R; active = without_txn a.txn s.active }

filter_among : {A : Type 0} (p : A → Bool) (x : A) (xs : List A) → IsAmong x xs → p x ≡ true → IsAmong x (filter p xs)
filter_among p x [] h is = absurd h
filter_among p x (y ∷ ys) h is = (elim (p y) as (λ b. p y ≡ b → IsAmong x (cond b (y ∷ filter p ys) (filter p ys))) [
  | true ↦ λ e. ⊎_elim (λ same. inl same) (λ later. inr (filter_among p x ys later is)) h
  | false ↦ λ e. ⊎_elim (λ same. absurd (contrary (sym e ∙ ap p same ∙ is))) (λ later. filter_among p x ys later is) h
]) refl
  where
    contrary : false ≡ true → ⊥
    contrary e = cc

module _ (t : ℕ) (held : List Hold) where
  pub any_held : (P : Hold → Type 0) → Any P (without_locks t held) → Any P held
  any_held P w =
      let c = among_contained w.1 held (among_filter (λ h. not (h.txn == t)) w.1 held (contained_among (without_locks t held) w.1 (w.0, w.2, w.3))).0 in
      (c.0, w.1, c.1, c.2, w.4)

  any_others : (P : Hold → Type 0) (w : Any P held) → w.1.txn ≢ t → Any P (without_locks t held)
  any_others P w other =
      let c = among_contained w.1 (without_locks t held) (filter_among (λ h. not (h.txn == t)) w.1 held (contained_among held w.1 (w.0, w.2, w.3)) (ap not (ne_eqb w.1.txn t other))) in
      (c.0, w.1, c.1, c.2, w.4)

  pub others_keep : (u : ℕ) → u ≢ t → KeepsLocks held (without_locks t held) u
  others_keep u other m g h = any_others _ h (λ same. other (sym h.4.0 ∙ same))

  pub fewer_in_harmony : Harmony held → Harmony (without_locks t held)
  fewer_in_harmony k = record {
    stand_together = All-filter (λ h. not (h.txn == t)) (λ h. All (Agree h) (without_locks t held)) held
        (All-weaker (λ h. All (Agree h) held) (λ h. All (Agree h) (without_locks t held)) (λ h all. All-filter (λ h. not (h.txn == t)) (Agree h) held all) held k.stand_together);
    none_interferes = λ r a b other w d. k.none_interferes r a b other (any_held _ w) (any_held _ d);
  }

  pub fewer_below : (n : ℕ) → All (λ h. h.txn < n) held → All (λ h. h.txn < n) (without_locks t held)
  fewer_below n all = All-filter (λ h. not (h.txn == t)) (λ h. h.txn < n) held all

-- the history stays sound as its locks go
pub without_its_locks : {o : Opening} {es : List Entry} {s : Sessions} (t : ℕ) → IsSoundAfter o es s → ((u : ℕ) → IsAmong u (txns_of s.active) → u ≢ t)
    → IsSoundAfter o es (locks_moved s (without_locks t s.held))
without_its_locks {s = s} t k gone =
    locks_stay_sound k (without_locks t s.held) (fewer_in_harmony t s.held k.stand.harmony) (λ u b. others_keep t s.held u (gone u b)) (fewer_below t s.held s.next_txn k.unheld)
