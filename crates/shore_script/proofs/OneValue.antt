-- A word is of one value at most.
use Rattle.std.proofs.Common.{◌≡◌, ◌≢◌, inl, inr, ℕ, ◌^◌, ◌<◌, ◌≤◌, List, [], ◌∷◌, ◌++◌, get_or, replicate, refl, sym, ap, subst, ◌∙◌, codes, arith}
use Rattle.std.specs.Fmt.{decimal}
use Rattle.std.proofs.lemmas.Fmt.{decimal_injective}
use Rattle.hex.specs.Hex.{IsBytes, encode_lower}
use Rattle.shore_types.specs.declared.ids.PageId.{PageId}
use Rattle.shore_types.specs.declared.ids.Rid.{Rid}
use Rattle.shore_types.specs.declared.locking.Granule.{Granule}
use Rattle.shore_types.specs.declared.locking.Granule.TheVariants as granule
use Rattle.shore_script.specs.Bytes.{SpellsBytes}
use Rattle.shore_script.specs.Ids.{IsGranule, IsNumber, IsPage, IsRecord}
use Rattle.shore_script.specs.Texts.{bytes_text}
use Rattle.shore_script.proofs.Cuts.{Lacks, cut_once, holds_cut}
use Rattle.shore_script.proofs.Digits.{decimal-first}
use Rattle.shore_script.proofs.Hexes.{encoded-lacks, encoded_once}
use Rattle.shore_script.proofs.Names.{dot_free, page_needs_a_dot, page_name-cut, record_needs_a_dot, record_needs_two_dots, record_words, rid_name-cut}
use Rattle.shore_script.proofs.Starred.{one_is_bytes, pair-lacks}

pub number_once : (limit : ℕ) (word : List ℕ) (a b : ℕ) → limit ≤ 2 ^ 64 → IsNumber limit word a → IsNumber limit word b → a ≡ b
number_once limit word a b low h k = decimal_injective a b (omega (arith, low, h.1)) (omega (arith, low, k.1)) (sym h.0 ∙ k.0)

pub page_once : (word : List ℕ) (a b : PageId) → IsPage word a → IsPage word b → a ≡ b
page_once word a b h k =
    let cut = cut_once 46 (decimal a.store) (decimal a.page) (decimal b.store) (decimal b.page) (dot_free a.store h.1) (dot_free b.store k.1)
    (sym (page_name-cut a) ∙ sym h.0 ∙ k.0 ∙ page_name-cut b) in
    let store = decimal_injective a.store b.store (omega (arith, h.1)) (omega (arith, k.1)) cut.0 in
    let page = decimal_injective a.page b.page (omega (arith, h.2)) (omega (arith, k.2)) cut.1 in
    let made : ℕ → ℕ → PageId = λ s p. record { store = s; page = p } in
    ap (λ (s : ℕ). made s a.page) store ∙ ap (made b.store) page

pub record_once : (word : List ℕ) (a b : Rid) → IsRecord word a → IsRecord word b → a ≡ b
record_once word a b h k =
    let first : List ℕ = decimal a.page.page ++ (46 ∷ decimal a.slot) in
    let parts = record_words word (decimal a.page.store) first (decimal a.page.page) (decimal a.slot)
    (h.0 ∙ rid_name-cut a) (dot_free a.page.store h.1) refl (dot_free a.page.page h.2) b k in
    let store = decimal_injective a.page.store b.page.store (omega (arith, h.1)) (omega (arith, k.1)) parts.0.0.0 in
    let page = decimal_injective a.page.page b.page.page (omega (arith, h.2)) (omega (arith, k.2)) parts.0.1.0 in
    let slot = decimal_injective a.slot b.slot (omega (arith, h.3)) (omega (arith, k.3)) parts.1.0 in
    let made : ℕ → ℕ → ℕ → Rid = λ s p l. record { page = record { store = s; page = p }; slot = l } in
    ap (λ (s : ℕ). made s a.page.page a.slot) store ∙ ap (λ (p : ℕ). made b.page.store p a.slot) page ∙ ap (made b.page.store b.page.page) slot

-- the volume's name is no number, and has no dot
v_is_no_number : (n : ℕ) → n < 2 ^ 32 → codes "v" ≢ decimal n
v_is_no_number n small e =
    let digit = decimal-first n (omega (arith, small)) in
    let top = digit.1 in
    let head : 118 ≡ get_or (decimal n) 0 0 = ap (λ (l : List ℕ). get_or l 0 0) e in
    omega (arith, top, head)

no_dot : (word : List ℕ) (n : ℕ) → IsNumber (2 ^ 32) word n → Lacks 46 word
no_dot word n h = subst (Lacks 46) (sym h.0) (dot_free n h.1)

v_has_no_dot : (word : List ℕ) → word ≡ codes "v" → Lacks 46 word
v_has_no_dot word e = subst (Lacks 46) (sym e) refl

page_is_no_record : (word : List ℕ) (p : PageId) (r : Rid) → IsPage word p → ¬ (IsRecord word r)
page_is_no_record word p r h k =
    record_needs_two_dots word (decimal p.store) (decimal p.page) (h.0 ∙ page_name-cut p) (dot_free p.store h.1) (dot_free p.page h.2) r k

pub granule_once : (word : List ℕ) (a b : Granule) → IsGranule word a → IsGranule word b → a ≡ b
granule_once word granule.Volume granule.Volume h k = refl
granule_once word granule.Volume (granule.Store t) h k = absurd (v_is_no_number t k.1 (sym h ∙ k.0))
granule_once word granule.Volume (granule.Page q) h k = absurd (page_needs_a_dot word (v_has_no_dot word h) q k)
granule_once word granule.Volume (granule.Record r) h k = absurd (record_needs_a_dot word (v_has_no_dot word h) r k)
granule_once word (granule.Store s) granule.Volume h k = absurd (v_is_no_number s h.1 (sym k ∙ h.0))
granule_once word (granule.Store s) (granule.Store t) h k = ap granule.Store (number_once (2 ^ 32) word s t (omega arith) h k)
granule_once word (granule.Store s) (granule.Page q) h k = absurd (page_needs_a_dot word (no_dot word s h) q k)
granule_once word (granule.Store s) (granule.Record r) h k = absurd (record_needs_a_dot word (no_dot word s h) r k)
granule_once word (granule.Page p) granule.Volume h k = absurd (page_needs_a_dot word (v_has_no_dot word k) p h)
granule_once word (granule.Page p) (granule.Store t) h k = absurd (page_needs_a_dot word (no_dot word t k) p h)
granule_once word (granule.Page p) (granule.Page q) h k = ap granule.Page (page_once word p q h k)
granule_once word (granule.Page p) (granule.Record r) h k = absurd (page_is_no_record word p r h k)
granule_once word (granule.Record r) granule.Volume h k = absurd (record_needs_a_dot word (v_has_no_dot word k) r h)
granule_once word (granule.Record r) (granule.Store t) h k = absurd (record_needs_a_dot word (no_dot word t k) r h)
granule_once word (granule.Record r) (granule.Page q) h k = absurd (page_is_no_record word q r k h)
granule_once word (granule.Record r) (granule.Record t) h k = ap granule.Record (record_once word r t h k)

-- a word with a digit pair is no dash, and has no star but the one that it is cut at
pairs_have_no_dash : (bytes word : List ℕ) → IsBytes bytes → word ≡ encode_lower bytes → word ≢ codes "-"
pairs_have_no_dash bytes word fits e dash =
    let lacks : Lacks 45 (codes "-") = subst (Lacks 45) (sym e ∙ dash) (encoded-lacks 45 (omega arith) bytes fits) in
    holds_cut 45 [] [] lacks

starred_is_no_dash : (pair count word : List ℕ) → word ≡ pair ++ (42 ∷ count) → word ≢ codes "-"
starred_is_no_dash pair count word e dash =
    let lacks : Lacks 42 (codes "-") = refl in
    holds_cut 42 pair count (subst (Lacks 42) (sym dash ∙ e) lacks)

pairs_have_no_star : (bytes pair count word : List ℕ) → IsBytes bytes → word ≡ encode_lower bytes → word ≢ pair ++ (42 ∷ count)
pairs_have_no_star bytes pair count word fits e star =
    holds_cut 42 pair count (subst (Lacks 42) (sym e ∙ star) (encoded-lacks 42 (omega arith) bytes fits))

pub bytes_once : (word a b : List ℕ) → SpellsBytes word a → SpellsBytes word b → a ≡ b
bytes_once word a b (inl d) (inl e) = d.1 ∙ sym e.1
bytes_once word a b (inl d) (inr (inl p)) = absurd (pairs_have_no_dash b word p.2 p.0 d.0)
bytes_once word a b (inl d) (inr (inr s)) = absurd (starred_is_no_dash s.0 s.1 word s.2 d.0)
bytes_once word a b (inr (inl p)) (inl d) = absurd (pairs_have_no_dash a word p.2 p.0 d.0)
bytes_once word a b (inr (inl p)) (inr (inl q)) = encoded_once a b p.2 q.2 (sym p.0 ∙ q.0)
bytes_once word a b (inr (inl p)) (inr (inr s)) = absurd (pairs_have_no_star a s.0 s.1 word p.2 p.0 s.2)
bytes_once word a b (inr (inr s)) (inl d) = absurd (starred_is_no_dash s.0 s.1 word s.2 d.0)
bytes_once word a b (inr (inr s)) (inr (inl p)) = absurd (pairs_have_no_star b s.0 s.1 word p.2 p.0 s.2)
bytes_once word a b (inr (inr s)) (inr (inr t)) =
    let c = s.3 in
    let d = t.3 in
    let cut = cut_once 42 s.0 s.1 t.0 t.1 (pair-lacks s.0 c.0 c.2) (pair-lacks t.0 d.0 d.2) (sym s.2 ∙ t.2) in
    let one : c.0 ∷ [] ≡ d.0 ∷ [] =
    encoded_once (c.0 ∷ []) (d.0 ∷ []) (one_is_bytes c.0 c.2.1) (one_is_bytes d.0 d.2.1) (sym c.2.0 ∙ cut.0 ∙ d.2.0) in
    let byte : c.0 ≡ d.0 = ap (λ (l : List ℕ). get_or l 0 0) one in
    let n : c.1 ≡ d.1 = decimal_injective c.1 d.1 (let top = c.5 in omega (arith, top)) (let top = d.5 in omega (arith, top)) (sym c.3 ∙ cut.1 ∙ d.3) in
    c.6 ∙ ap (λ (m : ℕ). replicate m c.0) n ∙ ap (replicate d.1) byte ∙ sym d.6

-- what is printed is read back
pub printed_bytes : (bytes : List ℕ) → IsBytes bytes → SpellsBytes (bytes_text bytes) bytes
printed_bytes [] fits = inl (refl, refl)
printed_bytes (byte ∷ bytes) fits = inr (inl (refl, (λ e. cc e), fits))
