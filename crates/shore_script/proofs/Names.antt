-- Names of ids, cut at their dots.
use Rattle.std.proofs.Common.{◌≡◌, ℕ, ◌^◌, ◌<◌, List, [], ◌∷◌, ◌++◌, sym, ◌∙◌, ap, subst, append_assoc, Option, None, Some, arith}
use Rattle.std.specs.Fmt.{decimal}
use Rattle.shore_types.specs.declared.ids.PageId.{PageId}
use Rattle.shore_types.specs.declared.ids.Rid.{Rid}
use Rattle.shore_types.specs.Names.{page_name, rid_name}
use Rattle.shore_script.specs.Ids.{IsNumber, IsPage, IsRecord}
use Rattle.shore_script.specs.Reading.{Reads}
use Rattle.shore_script.proofs.Cuts.{Lacks, cut_once, holds_cut}
use Rattle.shore_script.proofs.Digits.{decimal-Lacks}

pub page_name-cut : (p : PageId) → page_name p ≡ decimal p.store ++ (46 ∷ decimal p.page)
page_name-cut p = append_assoc (decimal p.store) (46 ∷ []) (decimal p.page)

pub rid_name-cut : (r : Rid) → rid_name r ≡ decimal r.page.store ++ (46 ∷ (decimal r.page.page ++ (46 ∷ decimal r.slot)))
rid_name-cut r =
    append_assoc (page_name r.page) (46 ∷ []) (decimal r.slot)
    ∙ ap (λ (l : List ℕ). l ++ (46 ∷ decimal r.slot)) (page_name-cut r.page)
    ∙ append_assoc (decimal r.page.store) (46 ∷ decimal r.page.page) (46 ∷ decimal r.slot)

pub dot_free : (n : ℕ) → n < 2 ^ 32 → Lacks 46 (decimal n)
dot_free n small = decimal-Lacks 46 n (omega arith) (omega arith)

-- no page is named without a dot, and no record
pub page_needs_a_dot : (word : List ℕ) → Lacks 46 word → (page : PageId) → ¬ (IsPage word page)
page_needs_a_dot word lacks page h =
    holds_cut 46 (decimal page.store) (decimal page.page) (subst (Lacks 46) (h.0 ∙ page_name-cut page) lacks)

pub record_needs_a_dot : (word : List ℕ) → Lacks 46 word → (id : Rid) → ¬ (IsRecord word id)
record_needs_a_dot word lacks id h =
    holds_cut 46 (decimal id.page.store) (decimal id.page.page ++ (46 ∷ decimal id.slot)) (subst (Lacks 46) (h.0 ∙ rid_name-cut id) lacks)

-- the two words of a page
abbrev pub ArePageWords : List ℕ → List ℕ → PageId → Type 0
ArePageWords store_word page_word page = IsNumber (2 ^ 32) store_word page.store × IsNumber (2 ^ 32) page_word page.page

pub page_reads : (word store_word page_word : List ℕ) → word ≡ store_word ++ (46 ∷ page_word) → Lacks 46 store_word → (found : Option PageId)
    → Reads (ArePageWords store_word page_word) found → Reads (IsPage word) found
page_reads word store_word page_word e lacks None none = λ page h.
    let cut = cut_once 46 store_word page_word (decimal page.store) (decimal page.page) lacks (dot_free page.store h.1) (sym e ∙ h.0 ∙ page_name-cut page) in
    none page ((cut.0, h.1), (cut.1, h.2))
page_reads word store_word page_word e lacks (Some page) h =
    (e ∙ rw (h.0.0, h.1.0) (sym (page_name-cut page)), h.0.1, h.1.1)

-- the words of a record, of which the first two dots part them
pub record_cuts : (word store_word rest : List ℕ) → word ≡ store_word ++ (46 ∷ rest) → Lacks 46 store_word → (id : Rid) → IsRecord word id
    → IsNumber (2 ^ 32) store_word id.page.store × (rest ≡ decimal id.page.page ++ (46 ∷ decimal id.slot))
record_cuts word store_word rest e lacks id h =
    let cut = cut_once 46 store_word rest (decimal id.page.store) (decimal id.page.page ++ (46 ∷ decimal id.slot)) lacks (dot_free id.page.store h.1) (sym e ∙ h.0 ∙ rid_name-cut id) in
    ((cut.0, h.1), cut.1)

pub record_needs_two_dots : (word store_word rest : List ℕ) → word ≡ store_word ++ (46 ∷ rest) → Lacks 46 store_word → Lacks 46 rest → (id : Rid) → ¬ (IsRecord word id)
record_needs_two_dots word store_word rest e lacks also id h =
    let cut = record_cuts word store_word rest e lacks id h in
    holds_cut 46 (decimal id.page.page) (decimal id.slot) (subst (Lacks 46) cut.1 also)

pub record_words : (word store_word rest page_word slot_word : List ℕ) → word ≡ store_word ++ (46 ∷ rest) → Lacks 46 store_word
    → rest ≡ page_word ++ (46 ∷ slot_word) → Lacks 46 page_word → (id : Rid) → IsRecord word id
    → ArePageWords store_word page_word id.page × IsNumber (2 ^ 16) slot_word id.slot
record_words word store_word rest page_word slot_word e lacks f also id h =
    let first = record_cuts word store_word rest e lacks id h in
    let cut = cut_once 46 page_word slot_word (decimal id.page.page) (decimal id.slot) also (dot_free id.page.page h.2) (sym f ∙ first.1) in
    ((first.0, (cut.0, h.2)), (cut.1, h.3))

pub words_of_record : (word store_word rest page_word slot_word : List ℕ) → word ≡ store_word ++ (46 ∷ rest) → rest ≡ page_word ++ (46 ∷ slot_word)
    → (id : Rid) → ArePageWords store_word page_word id.page → IsNumber (2 ^ 16) slot_word id.slot → IsRecord word id
words_of_record word store_word rest page_word slot_word e f id p s =
    (e ∙ rw (p.0.0, f, p.1.0, s.0) (sym (rid_name-cut id)), p.0.1, p.1.1, s.1)
