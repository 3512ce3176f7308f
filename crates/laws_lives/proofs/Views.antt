-- What transactions see, step by step: locks move, a transaction writes, ends or begins.
use Rattle.std.proofs.Common.{◌≡◌, ◌≢◌, ◌⊎◌, inl, inr, ⊎_elim, ℕ, List, [], ◌∷◌, true, false, Option, Some, None, refl, sym, ap, subst, ◌∙◌}
use Rattle.std.specs.Prelude.{◌==◌, IsSome, IsTrue, unwrap_or}
use Rattle.std.specs.FinMap.{get}
use Rattle.std.proofs.lemmas.Bool.{eqb-true, eqb-false}
use Rattle.shore_types.specs.declared.ids.Rid.{Rid}
use Rattle.shore_types.specs.declared.locking.Mode.{Mode}
use Rattle.shore_types.specs.declared.locking.Mode.TheVariants.{EX}
use Rattle.shore_model.specs.declared.holds.Hold.{Hold}
use Rattle.shore_model.specs.Locks.{Harmony, MayRead, MayWrite}
use Rattle.shore_model.specs.Modes.{is_read, is_write}
use Rattle.shore_model.specs.Records.{Records, WriteSet, overlay}
use Rattle.shore_model.proofs.Overlays.{get-overlay}
use Rattle.laws_lives.proofs.Ids.{overlays_agree}
use Rattle.laws_lives.specs.Views.{IsAmong, Sees, Stand}

writer_reads : (m : Mode) → IsTrue (is_write m) → IsTrue (is_read m)
writer_reads EX h = refl
writer_reads _ h = cc

-- a lock to write lets its transaction read, too
pub read_of_write : (held : List Hold) (t : ℕ) (id : Rid) → MayWrite held t id → MayRead held t id
read_of_write held t id h = (h.0, h.1, h.2, h.3, (h.4.0, h.4.1, writer_reads h.1.mode h.4.2))

-- one of the transactions has written the id, or none has
abbrev pub Writer : (ℕ → WriteSet) → Rid → List ℕ → Type 0
Writer writes id ts = (t : ℕ) × IsAmong t ts × IsSome (get (writes t) id)

abbrev pub NoWriter : (ℕ → WriteSet) → Rid → List ℕ → Type 0
NoWriter writes id ts = (t : ℕ) → IsAmong t ts → get (writes t) id ≡ None

none_more : (writes : ℕ → WriteSet) (id : Rid) (u : ℕ) (us : List ℕ) → get (writes u) id ≡ None → NoWriter writes id us → NoWriter writes id (u ∷ us)
none_more writes id u us e none t a = ⊎_elim (λ same. subst (λ v. get (writes v) id ≡ None) same e) (λ later. none t later) a

or_later : (writes : ℕ → WriteSet) (id : Rid) (u : ℕ) (us : List ℕ) → get (writes u) id ≡ None → Writer writes id us ⊎ NoWriter writes id us
    → Writer writes id (u ∷ us) ⊎ NoWriter writes id (u ∷ us)
or_later writes id u us e (inl w) = inl (w.0, inr w.1, w.2)
or_later writes id u us e (inr none) = inr (none_more writes id u us e none)

pub written_or_not : (writes : ℕ → WriteSet) (id : Rid) (ts : List ℕ) → Writer writes id ts ⊎ NoWriter writes id ts
written_or_not writes id [] = inr (λ t a. absurd a)
written_or_not writes id (u ∷ us) =
    elim (get (writes u) id) as (λ o. get (writes u) id ≡ o → Writer writes id (u ∷ us) ⊎ NoWriter writes id (u ∷ us)) [
      | Some image ↦ λ e. inl (u, inl refl, subst IsSome (sym e) refl)
      | None ↦ λ e. or_later writes id u us e (written_or_not writes id us)
    ] refl

pub some_or_none : {A : Type 0} (o : Option A) → IsSome o ⊎ (o ≡ None)
some_or_none (Some x) = inl refl
some_or_none None = inr refl

pub not_some : {A : Type 0} {o : Option A} → o ≡ None → IsSome o → ⊥
not_some e h = cc

pub overlay_none : (R : Records) (W : WriteSet) (id : Rid) → get W id ≡ None → get (overlay R W) id ≡ get R id
overlay_none R W id e = get-overlay R W id ∙ ap (λ o. unwrap_or o (get R id)) e

module _ {held : List Hold} {now R : Records} {ts : List ℕ} {writes : ℕ → WriteSet} (k : Stand held now R ts writes) where
  -- nobody may read what another may write
  pub writer_excludes : (t u : ℕ) (id : Rid) → t ≢ u → MayWrite held t id → MayRead held u id → ⊥
  writer_excludes t u id other w r = k.harmony.none_interferes id t u other w r

  -- Locks move, and no transaction under way loses any. At an id that one may read only now, no other has written: it would hold
  -- its lock to write still, against harmony.
  pub locks_may_move : (held' : List Hold) → Harmony held'
      → ((t : ℕ) (id : Rid) → IsAmong t ts → MayRead held t id → MayRead held' t id)
      → ((t : ℕ) (id : Rid) → IsAmong t ts → MayWrite held t id → MayWrite held' t id)
      → Stand held' now R ts writes
  locks_may_move held' harmony reads keeps = record {
    harmony = harmony;
    each = λ t a. let m = k.each t a in record {
      view = λ id r.
          ⊎_elim (λ w. m.view id (read_of_write held t id (m.locked id w)))
          (λ none.
          k.others id (λ u b.
          ⊎_elim (λ w.
          elim (t == u) as (λ b. (t == u) ≡ b → get (writes u) id ≡ None) [
            | true ↦ λ e. subst (λ v. get (writes v) id ≡ None) (eqb-true t u e) none
            | false ↦ λ e. absurd (harmony.none_interferes id u t (λ same. eqb-false t u e (sym same)) (keeps u id b ((k.each u b).locked id w)) r)
          ] refl)
          (λ e. e)
          (some_or_none (get (writes u) id)))
          ∙ sym (overlay_none now (writes t) id none))
          (some_or_none (get (writes t) id));
      locked = λ id w. keeps t id a (m.locked id w);
    };
    others = k.others;
  }

  -- A transaction under way writes, and changes nothing but ids that it may write: nobody else may read these.
  pub one_writes : (t : ℕ) → IsAmong t ts → (R' : Records) (writes' : ℕ → WriteSet)
      → ((u : ℕ) → u ≢ t → writes' u ≡ writes u)
      → ((id : Rid) → (get R' id ≡ get R id) ⊎ MayWrite held t id)
      → Sees held now R' t (writes' t)
      → Stand held now R' ts writes'
  one_writes t a R' writes' same changes own =
      record {
        harmony = k.harmony;
        each = λ u b.
            elim (u == t) as (λ x. (u == t) ≡ x → Sees held now R' u (writes' u)) [
              | true ↦ λ e. subst (λ v. Sees held now R' v (writes' v)) (sym (eqb-true u t e)) own
              | false ↦ λ e.
                  let m = k.each u b in
                  let other : u ≢ t = eqb-false u t e in
                  subst (Sees held now R' u) (sym (same u other))
                  (record {
                    view = λ id r. ⊎_elim (λ kept. kept ∙ m.view id r) (λ w. absurd (writer_excludes t u id (λ s. other (sym s)) w r)) (changes id);
                    locked = m.locked;
                  })
            ] refl;
        others = λ id none.
            let seen : MayRead held t id → get R' id ≡ get now id = λ r. own.view id r ∙ overlay_none now (writes' t) id (none t a) in
            ⊎_elim (λ kept.
            ⊎_elim (λ w. seen (read_of_write held t id ((k.each t a).locked id w)))
            (λ unwritten. kept ∙ k.others id (λ u b.
            elim (u == t) as (λ x. (u == t) ≡ x → get (writes u) id ≡ None) [
              | true ↦ λ e. subst (λ v. get (writes v) id ≡ None) (sym (eqb-true u t e)) unwritten
              | false ↦ λ e. subst (λ W. get W id ≡ None) (same u (eqb-false u t e)) (none u b)
            ] refl))
            (some_or_none (get (writes t) id)))
            (λ w. seen (read_of_write held t id w))
            (changes id);
      }

  -- A transaction is under way no more. Its end changes ids that it may write alone, in place or in the serial records; at each id that
  -- it may read, the one is as the other then.
  pub one_ends : (t : ℕ) → IsAmong t ts → (now' R' : Records) (ts' : List ℕ) (writes' : ℕ → WriteSet)
      → ((u : ℕ) → u ≢ t → writes' u ≡ writes u)
      → ((u : ℕ) → IsAmong u ts' → IsAmong u ts × (u ≢ t))
      → ((u : ℕ) → IsAmong u ts → u ≢ t → IsAmong u ts')
      → ((id : Rid) → ((get R' id ≡ get R id) × (get now' id ≡ get now id)) ⊎ MayWrite held t id)
      → ((id : Rid) → MayRead held t id → get R' id ≡ get now' id)
      → Stand held now' R' ts' writes'
  one_ends t a now' R' ts' writes' same left stay changes agree =
      record {
        harmony = k.harmony;
        each = λ u b.
            let m = k.each u (left u b).0 in
            let other : u ≢ t = (left u b).1 in
            let unchanged : (id : Rid) → MayRead held u id → (get R' id ≡ get R id) × (get now' id ≡ get now id) =
            λ id r. ⊎_elim (λ kept. kept) (λ w. absurd (writer_excludes t u id (λ s. other (sym s)) w r)) (changes id) in
            subst (Sees held now' R' u) (sym (same u other))
            (record {
              view = λ id r. (unchanged id r).0 ∙ m.view id r ∙ sym (overlays_agree now now' (writes u) id (unchanged id r).1);
              locked = m.locked;
            });
        others = λ id none.
            ⊎_elim (λ kept.
            ⊎_elim (λ w. agree id (read_of_write held t id ((k.each t a).locked id w)))
            (λ unwritten. kept.0 ∙ k.others id (λ u b.
            elim (u == t) as (λ x. (u == t) ≡ x → get (writes u) id ≡ None) [
              | true ↦ λ e. subst (λ v. get (writes v) id ≡ None) (sym (eqb-true u t e)) unwritten
              | false ↦ λ e. subst (λ W. get W id ≡ None) (same u (eqb-false u t e)) (none u (stay u b (eqb-false u t e)))
            ] refl) ∙ sym kept.1)
            (some_or_none (get (writes t) id)))
            (λ w. agree id (read_of_write held t id w))
            (changes id);
      }

  -- A transaction that holds no lock begins.
  pub one_begins : (t : ℕ) (writes' : ℕ → WriteSet)
      → ((u : ℕ) → u ≢ t → writes' u ≡ writes u)
      → ((id : Rid) → MayRead held t id → ⊥)
      → ((id : Rid) → get (writes' t) id ≡ None)
      → (IsAmong t ts → ⊥)
      → Stand held now R (t ∷ ts) writes'
  one_begins t writes' same holds_none unwritten new =
      record {
        harmony = k.harmony;
        each = λ u b.
            ⊎_elim (λ e. subst (λ v. Sees held now R v (writes' v)) e
            (record {
              view = λ id r. absurd (holds_none id r);
              locked = λ id w. absurd (not_some (unwritten id) w);
            }))
            (λ b. subst (Sees held now R u) (sym (same u (λ e. new (subst (λ v. IsAmong v ts) e b)))) (k.each u b))
            b;
        others = λ id none. k.others id (λ u b. subst (λ W. get W id ≡ None) (same u (λ e. new (subst (λ v. IsAmong v ts) e b))) (none u (inr b)));
      }
