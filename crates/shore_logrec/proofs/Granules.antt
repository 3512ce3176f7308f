-- Granules and global ids: what is read is spelled so, and what is spelled so is read.
use Rattle.std.proofs.Common.{◌≡◌, ℕ, zero, suc, ◌+◌, ◌<◌, ◌≤◌, true, false, eqb, ltb, List, [], ◌∷◌, ◌++◌, length, take, drop, Some, refl, sym, ap, subst, ◌∙◌, arith}
use Rattle.std.specs.Prelude.{◌&&◌, ◌||◌}
use Rattle.std.proofs.lemmas.Bool.{and_parts, or_parts, eqb-true, ltb-false, le-ltb, ne_eqb}
use Rattle.std.proofs.lemmas.List.{take_at, drop_at, take-append-drop, length-append, length-take}
use Rattle.byteorder.specs.Endian.{little_bytes}
use Rattle.shore_types.specs.declared.ids.Rid.{Rid}
use Rattle.shore_types.specs.declared.layout.TheConstants.{MAX_GLOBAL_ID_BYTES}
use Rattle.shore_types.specs.declared.locking.Granule.{Granule}
use Rattle.shore_types.specs.declared.locking.Granule.TheVariants.{Volume, Store, Page, Record}
use Rattle.shore_types.specs.Locking.{depth_of, ids_of, level_of}
use Rattle.shore_logrec.specs.Text.{GranuleFits, RidFits, granule_text, rid_text, string_text}
use Rattle.shore_logrec.specs.Reading.{◌>>=◌, pair_at, byte_at, global_at, granule_at, granule_of, rid_at, rid_of}
use Rattle.shore_logrec.proofs.Numbers.{IsBytes, one_byte}
use Rattle.shore_logrec.proofs.Puttings.{granule_is}
use Rattle.shore_logrec.proofs.Readers.{IsReader, bind_some, some_is, guard_some, guard_kept, pair_reads, byte_reads, rid_reads}

-- ---- a granule

-- a level and ids that are a granule's
record AreOf (level : ℕ) (r : Rid) (g : Granule) : Type 0 where
  pub level_is : level ≡ depth_of (level_of g)
  pub ids_are : r ≡ ids_of g

same_ids : (r : Rid) (store page slot : ℕ) → r.page.store ≡ store → r.page.page ≡ page → r.slot ≡ slot → r ≡ record { page = record { store = store; page = page }; slot = slot }
same_ids r store page slot a b c =
    ap (λ (n : ℕ). rid_of ((n, r.page.page), r.slot)) a ∙ ap (λ (n : ℕ). rid_of ((store, n), r.slot)) b ∙ ap (λ (n : ℕ). rid_of ((store, page), n)) c

granule_of-some : (level : ℕ) (r : Rid) (g : Granule) → granule_of level r ≡ Some g → AreOf level r g
granule_of-some zero r g e =
    let k = guard_kept ((eqb r.page.store 0 && eqb r.page.page 0) && eqb r.slot 0) Volume g e in
    let zeros = and_parts _ _ k.0 in
    let ids = and_parts _ _ zeros.0 in
    subst (AreOf 0 r) k.1 (record { level_is = refl; ids_are = same_ids r 0 0 0 (eqb-true _ _ ids.0) (eqb-true _ _ ids.1) (eqb-true _ _ zeros.1) })
granule_of-some (suc zero) r g e =
    let k = guard_kept (eqb r.page.page 0 && eqb r.slot 0) (Store r.page.store) g e in
    let zeros = and_parts _ _ k.0 in
    subst (AreOf 1 r) k.1 (record { level_is = refl; ids_are = same_ids r r.page.store 0 0 refl (eqb-true _ _ zeros.0) (eqb-true _ _ zeros.1) })
granule_of-some (suc (suc zero)) r g e =
    let k = guard_kept (eqb r.slot 0) (Page r.page) g e in
    subst (AreOf 2 r) k.1 (record { level_is = refl; ids_are = same_ids r r.page.store r.page.page 0 refl refl (eqb-true _ _ k.0) })
granule_of-some (suc (suc (suc zero))) r g e = subst (AreOf 3 r) (some_is (Record r) g e) (record { level_is = refl; ids_are = refl })
granule_of-some (suc (suc (suc (suc level)))) r g e = absurd cc

of_granule : (g : Granule) → granule_of (depth_of (level_of g)) (ids_of g) ≡ Some g
of_granule Volume = refl
of_granule (Store s) = refl
of_granule (Page p) = refl
of_granule (Record r) = refl

-- a level and ids, one after the other
fields_read : IsReader (pair_at byte_at rid_at) (λ x. (x.0 ∷ []) ++ rid_text x.1) (λ x. (x.0 < 256) × RidFits x.1)
fields_read = pair_reads byte_at rid_at (λ b. b ∷ []) rid_text (λ b. b < 256) RidFits byte_reads rid_reads

pub granule_reads : IsReader granule_at granule_text GranuleFits
unfolding granule_at
granule_reads = record { takes = granule_takes; again = granule_again }
  where
    granule_takes : (bytes : List ℕ) (g : Granule) (rest : List ℕ) → IsBytes bytes → granule_at bytes ≡ Some (g, rest) → (bytes ≡ granule_text g ++ rest) × GranuleFits g
    granule_takes bytes g rest fits e =
        let x = bind_some (pair_at byte_at rid_at bytes) (λ x. granule_of x.0.0 x.0.1 >>= λ g. Some (g, x.1)) (g, rest) e in
        let y = bind_some (granule_of x.0.0.0 x.0.0.1) (λ g. Some (g, x.0.1)) (g, rest) x.2 in
        let fields = fields_read.takes bytes x.0.0 x.0.1 fits x.1 in
        let are = granule_of-some x.0.0.0 x.0.0.1 y.0 y.1 in
        let spelled : (x.0.0.0 ∷ []) ++ rid_text x.0.0.1 ≡ granule_text y.0 =
        ap (λ (n : ℕ). n ∷ rid_text x.0.0.1) are.level_is ∙ ap (λ (r : Rid). depth_of (level_of y.0) ∷ rid_text r) are.ids_are ∙ sym (granule_is y.0) in
        let made : Granule × List ℕ = (y.0, x.0.1) in
        subst (λ (v : Granule × List ℕ). (bytes ≡ granule_text v.0 ++ v.1) × GranuleFits v.0) (some_is made (g, rest) y.2)
        (fields.0 ∙ ap (λ (l : List ℕ). l ++ x.0.1) spelled, subst RidFits are.ids_are fields.1.1)

    shallow : (g : Granule) → depth_of (level_of g) < 256
    shallow Volume = omega arith
    shallow (Store s) = omega arith
    shallow (Page p) = omega arith
    shallow (Record r) = omega arith

    granule_again : (g : Granule) (rest : List ℕ) → GranuleFits g → granule_at (granule_text g ++ rest) ≡ Some (g, rest)
    granule_again g rest fits =
        let read = fields_read.again (depth_of (level_of g), ids_of g) rest (shallow g, fits) in
        ap (λ (l : List ℕ). granule_at (l ++ rest)) (granule_is g) ∙ rw (read, of_granule g) refl

-- ---- a global id

-- a global id has as many bytes as it may
pub record IsName (global : List ℕ) : Type 0 where
  pub some : 1 ≤ length global
  pub short : length global ≤ MAX_GLOBAL_ID_BYTES

global_takes : (bytes global rest : List ℕ) → IsBytes bytes → global_at bytes ≡ Some (global, rest) → (bytes ≡ string_text 1 global ++ rest) × IsName global
unfolding global_at string_text
global_takes [] global rest fits e = absurd cc
global_takes (n ∷ bytes) global rest fits e =
    let g = guard_some ((eqb n 0 || ltb MAX_GLOBAL_ID_BYTES n) || ltb (length bytes) n) (take n bytes, drop n bytes) (global, rest) e in
    let tests = or_parts (eqb n 0 || ltb MAX_GLOBAL_ID_BYTES n) (ltb (length bytes) n) g.0 in
    let bounds = or_parts (eqb n 0) (ltb MAX_GLOBAL_ID_BYTES n) tests.0 in
    let long : n ≤ length bytes = ltb-false _ _ tests.1 in
    let short : n ≤ MAX_GLOBAL_ID_BYTES = ltb-false _ _ bounds.1 in
    let size : length (take n bytes) ≡ n = omega (arith, length-take n bytes) in
    let parts : n ∷ bytes ≡ (little_bytes 1 (length (take n bytes)) ++ take n bytes) ++ drop n bytes =
    ap (λ (l : List ℕ). n ∷ l) (sym (take-append-drop n bytes))
    ∙ ap (λ (l : List ℕ). (l ++ take n bytes) ++ drop n bytes) (sym (one_byte n (fits 0)) ∙ ap (little_bytes 1) (sym size)) in
    subst (λ (v : List ℕ × List ℕ). (n ∷ bytes ≡ (little_bytes 1 (length v.0) ++ v.0) ++ v.1) × IsName v.0) g.1
    (parts, record { some = not_zero n bounds.0 size; short = omega (arith, size) })
  where
    not_zero : (n : ℕ) → eqb n 0 ≡ false → length (take n bytes) ≡ n → 1 ≤ length (take n bytes)
    not_zero zero e size = absurd cc
    not_zero (suc n) e size = omega arith

global_again : (global rest : List ℕ) → IsName global → global_at (string_text 1 global ++ rest) ≡ Some (global, rest)
unfolding global_at string_text
global_again global rest name =
    let n = length global in
    let some : eqb n 0 ≡ false = ne_eqb n 0 (λ e. let s = name.some in omega arith) in
    let short : ltb MAX_GLOBAL_ID_BYTES n ≡ false = le-ltb _ _ name.short in
    let long : ltb (length (global ++ rest)) n ≡ false = le-ltb _ _ (omega (arith, length-append global rest)) in
    ap (λ (l : List ℕ). global_at ((l ++ global) ++ rest)) (one_byte n (let s = name.short in omega arith))
    ∙ rw (some, short, long, take_at global rest n refl, drop_at global rest n refl) refl

pub global_reads : IsReader global_at (string_text 1) IsName
global_reads = record { takes = global_takes; again = global_again }
