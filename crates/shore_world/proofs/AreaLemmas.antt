-- A double-write area that shows pages is refused with nothing.
use Rattle.std.proofs.Common.{◌≡◌, inl, inr, ℕ, zero, suc, ◌+◌, ◌-◌, ◌*◌, ◌<◌, ◌≤◌, Bool, List, [], ◌∷◌, All, length, slice_get, get_or, Some, nat_le, nat_lt, Result, Ok, Err, MatchResult, refl, sym, ap, subst, ◌∙◌, arith, drop, if◌then◌else◌}
use Rattle.shore_types.specs.Versions.{page_bytes}
use Rattle.std.proofs.lemmas.Bool.{and_from, eq-eqb, le-leb, lt-ltb}
use Rattle.std.proofs.lemmas.List.Elements.{All-head, All-tail}
use Rattle.std.proofs.lemmas.List.{ext_get_or}
use Rattle.std.proofs.lemmas.Option.{slice_get-get_or}
use Rattle.shore_types.specs.declared.faults.Device.TheVariants.{Volume}
use Rattle.shore_types.specs.declared.faults.Fault.{Fault}
use Rattle.shore_types.specs.declared.faults.Fault.TheVariants.{Damaged}
use Rattle.shore_types.specs.declared.layout.Geometry.{Geometry}
use Rattle.shore_gate.specs.declared.gates.TheConstants.{OPEN}
use Rattle.shore_dwrite.specs.Checks.{IsFirstBad, RefusesArea, and_then, page_verdict, table_verdict, zero_verdict}
use Rattle.shore_dwrite.specs.Shown.{AreImages, HasArea, RiseFrom, Shows}
use Rattle.shore_dwrite.specs.Tables.{IsTable, cell}
use Rattle.shore_dwrite.specs.Volumes.{page_count, part}
use Rattle.shore_dwrite.specs.declared.places.TheConstants.{GATE_AT, TABLE_AT, TABLE_BYTES, AREA_AT}
use Rattle.shore_dwrite.proofs.ReplayMoments.{area_of}

-- the entries of pages that rise on the volume pass
pages_pass : (pages : ℕ) (table ns : List ℕ) (i low left : ℕ) → length ns ≡ left → ((j k : ℕ) → slice_get ns j ≡ Some k → cell (i + j + 1) table ≡ k) → RiseFrom low ns
    → All (λ k. k < pages) ns → page_verdict pages table i low left ≡ Ok tt
pages_pass pages table [] i low zero long entries rise below = refl
pages_pass pages table [] i low (suc left) long entries rise below = absurd (omega (arith, long))
pages_pass pages table (k ∷ ns) i low zero long entries rise below = absurd (omega (arith, long))
pages_pass pages table (k ∷ ns) i low (suc left) long entries rise below =
    let at : cell (i + 0 + 1) table ≡ k = entries 0 k refl in
    let here : cell (i + 1) table ≡ k = ap (λ n. cell (n + 1) table) (omega arith) ∙ at in
    let within : k < pages = All-head (λ k. k < pages) k ns below in
    ap (λ (b : Bool). if b then page_verdict pages table (i + 1) (cell (i + 1) table + 1) left else Err (Damaged Volume (TABLE_AT + 4 * (i + 1))))
    (and_from (nat_le low (cell (i + 1) table)) (nat_lt (cell (i + 1) table) pages) (le-leb low (cell (i + 1) table) (omega (arith, here, rise.0))) (lt-ltb (cell (i + 1) table) pages (omega (arith, here, within))))
    ∙ pages_pass pages table ns (i + 1) (cell (i + 1) table + 1) left (omega (arith, long))
    (λ j n got. ap (λ m. cell (m + 1) table) (omega arith) ∙ entries (suc j) n got) (subst (λ n. RiseFrom (n + 1) ns) (sym here) rise.1) (All-tail (λ k. k < pages) k ns below)

-- .. and those of no page, which are zero
zeros_pass : (table : List ℕ) (i left : ℕ) → ((j : ℕ) → i ≤ j → j < i + left → cell (j + 1) table ≡ 0) → zero_verdict table i left ≡ Ok tt
zeros_pass table i zero zeros = refl
zeros_pass table i (suc left) zeros =
    ap (λ (b : Bool). if b then zero_verdict table (i + 1) left else Err (Damaged Volume (TABLE_AT + 4 * (i + 1)))) (eq-eqb (cell (i + 1) table) 0 (zeros i (omega arith) (omega arith)))
    ∙ zeros_pass table (i + 1) left (λ j from low. zeros j (omega (arith, from)) (omega (arith, low)))

-- so does the table of an area
table_passes : (g : Geometry) (image numbers : List ℕ) → HasArea g image numbers → table_verdict (page_count g) (part TABLE_AT TABLE_BYTES image) ≡ Ok tt
unfolding table_verdict
table_passes g image numbers area =
    let table = part TABLE_AT TABLE_BYTES image in
    let t = area.table in
    let b = area.batch in
    let count = t.count in
    ap (λ (b : Bool). if b then and_then (page_verdict (page_count g) table 0 0 (cell 0 table)) (zero_verdict table (cell 0 table) (32 - cell 0 table)) else Err (Damaged Volume TABLE_AT))
    (and_from (nat_le 1 (cell 0 table)) (nat_le (cell 0 table) 32) (le-leb 1 (cell 0 table) (omega (arith, count, b.some))) (le-leb (cell 0 table) 32 (omega (arith, count, b.most))))
    ∙ ap (λ (r : Result Unit Fault). and_then r (zero_verdict table (cell 0 table) (32 - cell 0 table)))
    (pages_pass (page_count g) table numbers 0 0 (cell 0 table) (sym count) (λ j k got. ap (λ m. cell (m + 1) table) (omega arith) ∙ t.entries j k got) b.rise b.on_volume)
    ∙ zeros_pass table (cell 0 table) (32 - cell 0 table) (λ j from low. t.unused j (omega (arith, count, from)) (omega (arith, count, b.most, low)))

none_bad : (g : Geometry) (numbers bytes : List ℕ) (i : ℕ) → AreImages g numbers bytes → IsFirstBad g numbers bytes i → ⊥
none_bad g [] bytes i are bad = bad
none_bad g (k ∷ ks) bytes zero are bad = bad are.0
none_bad g (k ∷ ks) bytes (suc i) are bad = none_bad g ks (drop (page_bytes g.version) bytes) i are.1 bad.1

passes_not : (r : Result Unit Fault) (f : Fault) → r ≡ Ok tt → r ≡ Err f → ⊥
passes_not r f passes fails = subst (λ (r : Result Unit Fault). MatchResult r (λ _. ⊥) (λ _. Unit {0})) (sym fails ∙ passes) tt

-- a table is that of one list of pages
one_table : (table a b : List ℕ) → IsTable table a → IsTable table b → a ≡ b
one_table table a b is_a is_b =
    let long : length a ≡ length b = sym is_a.count ∙ is_b.count in
    ext_get_or 0 a b long (λ i inside.
    sym (is_a.entries i (get_or a i 0) (slice_get-get_or a i 0 inside)) ∙ is_b.entries i (get_or b i 0) (slice_get-get_or b i 0 (omega (arith, long, inside))))

pub shown_not_refused : (g : Geometry) (image : List ℕ) (pages : ℕ → List ℕ) (f : Fault) → Shows g image pages → part GATE_AT 1 image ≡ OPEN ∷ [] → RefusesArea g image f → ⊥
shown_not_refused g image pages f shows opened (inl table) =
    let area = area_of g image pages shows opened in
    passes_not (table_verdict (page_count g) (part TABLE_AT TABLE_BYTES image)) f (table_passes g image area.0 area.1) table
shown_not_refused g image pages f shows opened (inr bad) =
    let area = area_of g image pages shows opened in
    let same : bad.0 ≡ area.0 = one_table (part TABLE_AT TABLE_BYTES image) bad.0 area.0 bad.2 area.1.table in
    none_bad g area.0 (drop AREA_AT image) bad.1 area.1.batch.images (subst (λ (ns : List ℕ). IsFirstBad g ns (drop AREA_AT image) bad.1) same bad.4)
