-- What locks of granules let a transaction read and write, by the modes.
use Rattle.std.proofs.Common.{◌≡◌, inl, inr, ℕ, List, ◌∷◌, refl, sym, subst}
use Rattle.std.specs.Prelude.{IsTrue, Any, Contains}
use Rattle.shore_types.specs.declared.ids.Rid.{Rid}
use Rattle.shore_types.specs.declared.locking.Granule.{Granule}
use Rattle.shore_types.specs.declared.locking.Granule.TheVariants.{Store, Page, Record}
use Rattle.shore_types.specs.declared.locking.Mode.{Mode}
use Rattle.shore_types.specs.declared.locking.Mode.TheVariants.{SH, SIX, EX, UD}
use Rattle.shore_model.specs.declared.calls.Answer.{Answer}
use Rattle.shore_model.specs.declared.calls.Answer.TheVariants.{Inserted}
use Rattle.shore_model.specs.declared.calls.Call.{Call}
use Rattle.shore_model.specs.declared.calls.Call.TheVariants as call
use Rattle.shore_model.specs.declared.holds.Hold.{Hold}
use Rattle.shore_model.specs.Locks.{MayWrite, ancestors, path}
use Rattle.shore_model.specs.Modes.{covers, is_at_most, is_read, is_write}
use Rattle.shore_model.proofs.RecordPaths.{head_contained, rest_contained}
use Rattle.laws_lives.proofs.StrongerLocks.{read_up, write_up}
use Rattle.laws_lives.specs.GranuleLocks.{HasLock, HasLocksFor}
use Rattle.laws_lives.specs.RepliesInPlace.{Permit}

-- ---- modes that cover

cover_reads : (m : Mode) → IsTrue (covers m SH) → IsTrue (is_read m)
cover_reads SH c = refl
cover_reads SIX c = refl
cover_reads EX c = refl
cover_reads _ c = cc

cover_reads_update : (m : Mode) → IsTrue (covers m UD) → IsTrue (is_read m)
cover_reads_update EX c = refl
cover_reads_update _ c = cc

cover_writes : (m : Mode) → IsTrue (covers m EX) → IsTrue (is_write m)
cover_writes EX c = refl
cover_writes _ c = cc

-- all above a store is above its records
store_of_record : (id : Rid) (g : Granule) → Contains (path (Store id.page.store)) g → Contains (path (Record id)) g
store_of_record id g h =
    rest_contained (Record id) (Page id.page ∷ path (Store id.page.store)) g (rest_contained (Page id.page) (path (Store id.page.store)) g h)

-- ---- granules

module _ (held : List Hold) (t : ℕ) where
  -- a lock of a granule on a record's path, or one that covers it from above, allows what its mode allows
  allowed_by : (P : Mode → Type 0) (id : Rid) (g : Granule) (mode : Mode) → ((h : Granule) → Contains (path g) h → Contains (path (Record id)) h)
      → ((m : Mode) → IsTrue (is_at_most mode m) → P m) → ((m : Mode) → IsTrue (covers m mode) → P m) → HasLock held t g mode
      → Any (λ h. (h.txn ≡ t) × Contains (path (Record id)) h.granule × P h.mode) held
  allowed_by P id g mode on_path up over (inl h) = (h.0, h.1, h.2, h.3, (h.4.0, on_path h.1.granule (subst (Contains (path g)) (sym h.4.1) (head_contained g (ancestors g))), up h.1.mode h.4.2))
  allowed_by P id g mode on_path up over (inr h) = (h.0, h.1, h.2, h.3, (h.4.0, on_path h.1.granule (rest_contained g (ancestors g) h.1.granule h.4.1), over h.1.mode h.4.2))

  writes_reached : (id : Rid) → HasLock held t (Record id) EX → MayWrite held t id
  writes_reached id h = allowed_by (λ m. IsTrue (is_write m)) id (Record id) EX (λ g c. c) (λ m a. write_up EX m a refl) cover_writes h

  insert_permitted : (s : ℕ) (bytes : List ℕ) (answer : Answer) → HasLocksFor held t (call.Insert s bytes) answer
      → Permit held t (call.Insert s bytes) answer
  insert_permitted s bytes (Inserted id) h = writes_reached id h
  insert_permitted s bytes _ h = absurd h

  pub permitted : (c : Call) (answer : Answer) → HasLocksFor held t c answer → Permit held t c answer
  permitted (call.Get id) answer h = allowed_by (λ m. IsTrue (is_read m)) id (Record id) SH (λ g c. c) (λ m a. read_up SH m a refl) cover_reads h
  permitted (call.GetForUpdate id) answer h =
      allowed_by (λ m. IsTrue (is_read m)) id (Record id) UD (λ g c. c) (λ m a. read_up UD m a refl) cover_reads_update h
  permitted (call.Insert s bytes) answer h = insert_permitted s bytes answer h
  permitted (call.Update id bytes) answer h = writes_reached id h
  permitted (call.Delete id) answer h = writes_reached id h
  permitted (call.Scan s) answer h = λ id of. allowed_by (λ m. IsTrue (is_read m)) id (Store s) SH
      (λ g c. store_of_record id g (subst (λ s. Contains (path (Store s)) g) (sym of) c)) (λ m a. read_up SH m a refl) cover_reads h
  permitted _ answer h = tt
