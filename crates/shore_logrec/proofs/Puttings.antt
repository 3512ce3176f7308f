-- Bytes that are put one after another.
use Rattle.std.proofs.Common.{◌≡◌, ℕ, zero, suc, ◌+◌, ◌<◌, ◌≤◌, [], ◌∷◌, ◌++◌, List, length, get_or, take, drop, refl, sym, ap, subst, ◌∙◌, append_assoc, arith}
use Rattle.std.specs.Prelude.{flat_map}
use Rattle.std.proofs.lemmas.Grind.{flat_map-append}
use Rattle.std.proofs.lemmas.List.{append-nil, length-append, take_all, take_more}
use Rattle.std.specs.Global.{Vec}
use Rattle.byteorder.specs.Endian.{little_bytes}
use Rattle.shore_model.specs.declared.log_records.LogRecord.{LogRecord}
use Rattle.shore_logrec.specs.Room.{HasRoom, Puts}
use Rattle.shore_types.specs.declared.ids.Rid.{Rid}
use Rattle.shore_types.specs.declared.locking.Granule.{Granule}
use Rattle.shore_types.specs.declared.locking.Granule.TheVariants.{Volume, Store, Page, Record}
use Rattle.shore_types.specs.Locking.{depth_of, ids_of, level_of}
use Rattle.shore_model.specs.declared.log_records.DirtyPage.{DirtyPage}
use Rattle.shore_model.specs.declared.log_records.LogTxn.{LogTxn}
use Rattle.shore_logrec.specs.Text.{checkpoint_text, dirty_text, state_number, table_text, txn_text, granule_text, prepare_text, rid_text, string_text, kind_of, payload_text, head_text}
use Rattle.shore_types.specs.declared.layout.TheConstants.{MAX_GLOBAL_ID_BYTES}
use Rattle.shore_logrec.proofs.Numbers.{one_byte}

pub Puts-then : {a b c : Vec ℕ} {x y : List ℕ} → Puts a b x → Puts b c y → Puts a c (x ++ y)
Puts-then {a = a} {x = x} {y = y} first second = record {
  items = second.items ∙ ap (λ (l : List ℕ). l ++ y) first.items ∙ append_assoc a.items x y;
  len = omega (arith, first.len, second.len, length-append x y);
  capacity = omega (arith, first.capacity, second.capacity);
}

-- the four fields of a head, put one after another
pub head_put : {old new : Vec ℕ} (r : LogRecord) (kind len : ℕ) → kind ≡ kind_of r.payload → len ≡ length (payload_text r.payload)
    → Puts old new ((kind ∷ []) ++ little_bytes 8 r.txn ++ little_bytes 8 r.previous ++ little_bytes 4 len) → Puts old new (head_text r)
unfolding head_text
head_put {old = old} {new = new} r kind len kind_is len_is put =
    subst (λ (k : ℕ). Puts old new ((k ∷ []) ++ little_bytes 8 r.txn ++ little_bytes 8 r.previous ++ little_bytes 4 (length (payload_text r.payload)))) kind_is
    (subst (λ (n : ℕ). Puts old new ((kind ∷ []) ++ little_bytes 8 r.txn ++ little_bytes 8 r.previous ++ little_bytes 4 n)) len_is put)

-- a head that is filled from its front: the kind is there, then two numbers and the length are written in place
abbrev pub behind_kind : List ℕ → List ℕ
behind_kind txn = txn ++ 0 ∷ 0 ∷ 0 ∷ 0 ∷ 0 ∷ 0 ∷ 0 ∷ 0 ∷ 0 ∷ 0 ∷ 0 ∷ 0 ∷ []

abbrev pub with_previous : List ℕ → List ℕ → List ℕ
with_previous txn previous = take 8 (behind_kind txn) ++ (previous ++ drop 8 (drop 8 (behind_kind txn)))

abbrev pub filled : ℕ → List ℕ → List ℕ → List ℕ → List ℕ
filled kind txn previous len = kind ∷ (take 16 (with_previous txn previous) ++ (len ++ drop 4 (drop 16 (with_previous txn previous))))

pub head_filled : {old new : Vec ℕ} {seen r : LogRecord} {txn previous word : List ℕ} → seen ≡ r → (kind len : ℕ) → kind ≡ kind_of seen.payload → len ≡ length (payload_text seen.payload)
    → txn ≡ little_bytes 8 seen.txn → previous ≡ little_bytes 8 seen.previous ++ drop 8 (take 8 (drop 8 (behind_kind txn)))
    → word ≡ little_bytes 4 len ++ drop 4 (take 4 (drop 16 (with_previous txn previous))) → Puts old new (filled kind txn previous word) → Puts old new (head_text r)
head_filled {old = old} {new = new} {seen = seen} {txn = txn} {previous = previous} {word = word} is kind len kind_is len_is txn_is previous_is word_is put =
    let x = little_bytes 8 seen.txn in
    let y = little_bytes 8 seen.previous in
    let z = little_bytes 4 len in
    let previous_so = subst (λ (t : List ℕ). previous ≡ y ++ drop 8 (take 8 (drop 8 (behind_kind t)))) txn_is previous_is in
    let word_then = subst (λ (t : List ℕ). word ≡ z ++ drop 4 (take 4 (drop 16 (with_previous t previous)))) txn_is word_is in
    let word_so = subst (λ (p : List ℕ). word ≡ z ++ drop 4 (take 4 (drop 16 (with_previous x p)))) previous_so word_then in
    subst (λ (r : LogRecord). Puts old new (head_text r)) is
    (head_put seen kind len kind_is len_is
    (subst (λ (w : List ℕ). Puts old new (filled kind x y w)) word_so
    (subst (λ (p : List ℕ). Puts old new (filled kind x p word)) previous_so
    (subst (λ (t : List ℕ). Puts old new (filled kind t previous word)) txn_is put))))

-- a granule is its depth, and its ids
pub granule_is : (g : Granule) → granule_text g ≡ depth_of (level_of g) ∷ rid_text (ids_of g)
unfolding rid_text
granule_is Volume = refl
granule_is (Store s) = refl
granule_is (Page p) = refl
granule_is (Record r) = refl

-- a depth and ids, put one after the other
pub granule_put : {old new : Vec ℕ} (g : Granule) (depth : ℕ) (ids : Rid) → depth ≡ depth_of (level_of g) → ids ≡ ids_of g
    → Puts old new ((depth ∷ []) ++ rid_text ids) → Puts old new (granule_text g)
granule_put {old = old} {new = new} g depth ids depth_is ids_are put =
    subst (Puts old new) (ap (λ (d : ℕ). d ∷ rid_text ids) depth_is ∙ ap (λ (r : Rid). depth_of (level_of g) ∷ rid_text r) ids_are ∙ sym (granule_is g)) put

-- ---- entries of a table

-- so many of the entries are put
abbrev pub PutSoFar : {A : Type 0} → (A → List ℕ) → Vec ℕ → Vec ℕ → List A → ℕ → Type 0
PutSoFar spell old out entries at = Puts old out (flat_map spell (take at entries))

pub none_put : {A : Type 0} (spell : A → List ℕ) (old : Vec ℕ) (entries : List A) → PutSoFar spell old old entries 0
none_put spell old entries = record { items = sym (append-nil old.items); len = omega arith; capacity = omega arith }

front_le : {A : Type 0} (spell : A → List ℕ) (entries : List A) (n : ℕ) → length (flat_map spell (take n entries)) ≤ length (flat_map spell entries)
front_le spell entries zero = omega arith
front_le spell [] (suc n) = omega arith
front_le spell (x ∷ entries) (suc n) =
    let rest = front_le spell entries n in
    omega (arith, length-append (spell x) (flat_map spell (take n entries)), length-append (spell x) (flat_map spell entries))

module _ {A : Type 0} (spell : A → List ℕ) {old out : Vec ℕ} (entries : List A) (at : ℕ) (put : PutSoFar spell old out entries at) (x : A) (more : at < length entries) (is : x ≡ get_or entries at x) where
  one_more : flat_map spell (take (at + 1) entries) ≡ flat_map spell (take at entries) ++ spell x
  one_more =
      ap (flat_map spell) (take_more entries at x more ∙ ap (λ (y : A). take at entries ++ y ∷ []) (sym is))
      ∙ flat_map-append spell (take at entries) (x ∷ [])
      ∙ ap (λ (l : List ℕ). flat_map spell (take at entries) ++ l) (append-nil (spell x))

  -- there is room for it
  pub entry_room : HasRoom old (length (flat_map spell entries)) → HasRoom out (length (spell x))
  entry_room room =
      let len = put.len in
      let cap = put.capacity in
      omega (arith, front_le spell entries (at + 1), ap length one_more, length-append (flat_map spell (take at entries)) (spell x))

  pub entry_put : {new : Vec ℕ} → Puts out new (spell x) → PutSoFar spell old new entries (at + 1)
  entry_put {new = new} next = subst (Puts old new) (sym one_more) (Puts-then put next)

pub entries_put : {A : Type 0} (spell : A → List ℕ) {old out : Vec ℕ} (entries : List A) (at : ℕ) → PutSoFar spell old out entries at → length entries ≤ at → Puts old out (flat_map spell entries)
entries_put {A} spell {old = old} {out = out} entries at put all = subst (λ (l : List A). Puts old out (flat_map spell l)) (take_all at entries all) put

-- ---- a Prepare

-- a length of one byte, a global id, and the granules behind their count
pub prepare_put : {old new : Vec ℕ} (global : List ℕ) (granules : List Granule) (again twice : List ℕ) → again ≡ global → twice ≡ global
    → length global ≤ MAX_GLOBAL_ID_BYTES → Puts old new ((((length again ∷ []) ++ twice) ++ little_bytes 4 (length granules)) ++ flat_map granule_text granules)
    → Puts old new (prepare_text global granules)
unfolding string_text
prepare_put {old = old} {new = new} global granules again twice a b short put =
    let len : length again ∷ [] ≡ little_bytes 1 (length global) = ap (λ (l : List ℕ). length l ∷ []) a ∙ sym (one_byte (length global) (omega arith)) in
    let parts : (((length again ∷ []) ++ twice) ++ little_bytes 4 (length granules)) ++ flat_map granule_text granules ≡ prepare_text global granules =
    ap (λ (l : List ℕ). ((l ++ twice) ++ little_bytes 4 (length granules)) ++ flat_map granule_text granules) len
    ∙ ap (λ (l : List ℕ). ((little_bytes 1 (length global) ++ l) ++ little_bytes 4 (length granules)) ++ flat_map granule_text granules) b
    ∙ append_assoc (little_bytes 1 (length global) ++ global) (little_bytes 4 (length granules)) (flat_map granule_text granules) in
    subst (Puts old new) parts put

-- ---- a CheckpointEnd

-- an entry, whose state is a byte
pub txn_put : {old new : Vec ℕ} (t : LogTxn) (state : ℕ) → state ≡ state_number t.state
    → Puts old new (((((little_bytes 8 t.txn ++ (state ∷ [])) ++ little_bytes 8 t.first) ++ little_bytes 8 t.last) ++ little_bytes 8 t.undo_next) ++ little_bytes 8 t.prepare)
    → Puts old new (txn_text t)
txn_put {old = old} {new = new} t state is put =
    subst (λ (n : ℕ). Puts old new (((((little_bytes 8 t.txn ++ (n ∷ [])) ++ little_bytes 8 t.first) ++ little_bytes 8 t.last) ++ little_bytes 8 t.undo_next) ++ little_bytes 8 t.prepare)) is put

-- two numbers, and two tables, each behind its count
pub end_put : {old new : Vec ℕ} (begin next : ℕ) (txns : List LogTxn) (dirty : List DirtyPage)
    → Puts old new (((((little_bytes 8 begin ++ little_bytes 8 next) ++ little_bytes 2 (length txns)) ++ flat_map txn_text txns) ++ little_bytes 2 (length dirty)) ++ flat_map dirty_text dirty)
    → Puts old new (checkpoint_text begin next txns dirty)
end_put {old = old} {new = new} begin next txns dirty put =
    let numbers : List ℕ = little_bytes 8 begin ++ little_bytes 8 next in
    let parts : (((numbers ++ little_bytes 2 (length txns)) ++ flat_map txn_text txns) ++ little_bytes 2 (length dirty)) ++ flat_map dirty_text dirty ≡ checkpoint_text begin next txns dirty =
    append_assoc ((numbers ++ little_bytes 2 (length txns)) ++ flat_map txn_text txns) (little_bytes 2 (length dirty)) (flat_map dirty_text dirty)
    ∙ ap (λ (l : List ℕ). l ++ table_text 2 dirty_text dirty) (append_assoc numbers (little_bytes 2 (length txns)) (flat_map txn_text txns)) in
    subst (Puts old new) parts put
