-- An empty volume, in parts.
use Rattle.std.proofs.Common.{◌≡◌, inl, inr, ℕ, suc, ◌+◌, ◌-◌, ◌*◌, ◌^◌, ◌<◌, ◌≤◌, List, [], ◌∷◌, ◌++◌, length, take, drop, Result, Ok, refl, sym, ◌∙◌, ap, subst, arith}
use Rattle.shore_types.specs.Versions.{page_bytes, pages_begin, pages_begin-is}
use Rattle.std.proofs.lemmas.Bool.{cases_lt}
use Rattle.std.proofs.lemmas.List.{take_at, drop-drop}
use Rattle.shore_types.specs.declared.faults.Device.TheVariants.{Volume}
use Rattle.shore_types.specs.declared.ids.PageId.{PageId}
use Rattle.shore_types.specs.declared.layout.Geometry.{Geometry}
use Rattle.shore_types.specs.Layout.{HasPage, IsInLimits}
use Rattle.shore_disk.specs.Device.{DeviceHistory, seen, noted, wrote, may_leave, Stands, overwritten, Writes, LeavesOnly}
use Rattle.shore_disk.proofs.Images.{overwritten-append}
use Rattle.shore_disk.proofs.Moments.{at_end, joined, started}
use Rattle.shore_gate.specs.declared.gates.TheConstants.{OPEN, CLOSED}
use Rattle.shore_gate.specs.Label.{label_bytes}
use Rattle.shore_gate.proofs.WidthLemmas.{length-label_bytes}
use Rattle.shore_page.specs.Text.{IsPageText}
use Rattle.shore_dwrite.specs.Volumes.{page_at, page_number, page_offset, part}
use Rattle.shore_dwrite.proofs.Moves.{write_more}
use Rattle.shore_dwrite.proofs.Numbers.{one_page}
use Rattle.shore_dwrite.proofs.Overwrites.{length-overwritten, take_below, part_front, part_here, take_again, take_less}
use Rattle.shore_dwrite.proofs.PageWrites.{page_here, page_beside}
use Rattle.shore_fronts.specs.Volumes.{volume_bytes, volume_label}
use Rattle.shore_format.specs.Fronts.{IsShut}
use Rattle.shore_format.specs.Volumes.{HasEmptyPages, IsEmptyBehind, IsEmptyVolume}
use Rattle.shore_format.proofs.FrontLemmas.{label_leaves, shut_torn}

-- ---- the label and the gate of the area

-- a crash behind both writes, or in one that failed, leaves the gate of the label closed
pub gated_moments : {E F : Type 0} (label gate rest : List ℕ) (r : Result Unit E) (s : Result Unit F) (old labelled gated : DeviceHistory) → length label ≡ 511 → Stands old (CLOSED ∷ rest)
    → Writes 1 label r old labelled → Writes 4096 gate s labelled gated → LeavesOnly old gated IsShut
gated_moments label gate rest r s old labelled gated long stands one two =
    write_more old labelled gated IsShut 4096 gate s (label_leaves label r old labelled rest long stands one) two (λ c d shut torn. shut_torn 4096 (length gate) d c (omega arith) shut torn)

-- .. and behind the pages too
pub paged_moments : {E F : Type 0} (label gate rest : List ℕ) (r : Result Unit E) (s : Result Unit F) (old labelled gated paged : DeviceHistory) → length label ≡ 511 → Stands old (CLOSED ∷ rest)
    → Writes 1 label r old labelled → Writes 4096 gate s labelled gated → (((c : List ℕ) → may_leave gated c → IsShut c) → LeavesOnly gated paged IsShut) → LeavesOnly old paged IsShut
paged_moments label gate rest r s old labelled gated paged long stands one two pages =
    let both = gated_moments label gate rest r s old labelled gated long stands one two in
    joined old gated paged IsShut both (pages (at_end old gated IsShut both))

-- ---- pages, one after another

pub record WroteFirst (g : Geometry) (old now : DeviceHistory) (written : ℕ) : Type 0 where
  pub moments : ((c : List ℕ) → may_leave old c → IsShut c) → LeavesOnly old now IsShut
  pub long : length (seen now) ≡ length (seen old)
  pub front : take (pages_begin g.version) (seen now) ≡ take (pages_begin g.version) (seen old)
  pub empty : (id : PageId) → HasPage g id → page_number g id < written → IsPageText g.version (page_at g.version (seen now) (page_number g id)) id 0 []

pub wrote_none : (g : Geometry) (h : DeviceHistory) → WroteFirst g h h 0
wrote_none g h = record { moments = λ shut. started h IsShut shut; long = refl; front = refl; empty = λ id there below. absurd (omega (arith, below)) }

pub wrote_torn : {E : Type 0} (g : Geometry) (old now new : DeviceHistory) (written k at : ℕ) (bytes : List ℕ) (r : Result Unit E) → WroteFirst g old now written → at ≡ page_offset g.version k
    → Writes at bytes r now new → ((c : List ℕ) → may_leave old c → IsShut c) → LeavesOnly old new IsShut
wrote_torn g old now new written k at bytes r so_far is writes shut =
    write_more old now new IsShut at bytes r (so_far.moments shut) writes (λ c d s torn. shut_torn at (length bytes) d c (omega (arith, is, pages_begin-is g.version)) s torn)

pub wrote_more : (g : Geometry) (old now new : DeviceHistory) (k at : ℕ) (id : PageId) (bytes : List ℕ) → WroteFirst g old now k → HasPage g id → page_number g id ≡ k → at ≡ page_offset g.version k
    → page_offset g.version k + page_bytes g.version ≤ length (seen old) → IsPageText g.version bytes id 0 [] → new ≡ noted now (wrote at bytes) → WroteFirst g old new (k + 1)
wrote_more g old now new k at id bytes so_far there number is fits text writes =
    let long : length bytes ≡ page_bytes g.version = text.whole in
    let within : page_offset g.version k + page_bytes g.version ≤ length (seen now) = omega (arith, fits, so_far.long) in
    let seen_is : seen new ≡ overwritten (seen now) (page_offset g.version k) bytes = ap (λ (h : DeviceHistory). seen h) writes ∙ ap (λ n. overwritten (seen now) n bytes) is in
    record {
      moments = λ shut. wrote_torn {E = Unit {0}} g old now new k k at bytes (Ok tt) so_far is writes shut;
      long = ap (λ (l : List ℕ). length l) seen_is ∙ length-overwritten (seen now) (page_offset g.version k) bytes (omega (arith, within, long)) ∙ so_far.long;
      front = ap (take (pages_begin g.version)) seen_is ∙ take_below (seen now) (page_offset g.version k) bytes (pages_begin g.version) (omega arith) (omega (arith, within)) ∙ so_far.front;
      empty = λ other other_there below. subst (λ (l : List ℕ). IsPageText g.version (page_at g.version l (page_number g other)) other 0 []) (sym seen_is) (elim (cases_lt (page_number g other) k) [
        | inl before ↦
            let beside = page_beside g.version (seen now) bytes k long within (page_number g other) (λ same. omega (arith, same, before)) in
            subst (λ (l : List ℕ). IsPageText g.version l other 0 []) (sym beside) (so_far.empty other other_there before)
        | inr behind ↦
            let same : page_number g other ≡ k = omega (arith, below, behind) in
            let one : id ≡ other = one_page g id other there other_there (number ∙ sym same) in
            let here : page_at g.version (overwritten (seen now) (page_offset g.version k) bytes) (page_number g other) ≡ bytes =
            ap (λ n. page_at g.version (overwritten (seen now) (page_offset g.version k) bytes) n) same ∙ page_here g.version (seen now) bytes k long within in
            subst (λ (l : List ℕ). IsPageText g.version l other 0 []) (sym here) (subst (λ (p : PageId). IsPageText g.version bytes p 0 []) one text)
      ]);
    }

-- all of them
pub wrote_all : (g : Geometry) (old now : DeviceHistory) (written : ℕ) → ((id : PageId) → HasPage g id → page_number g id < written) → WroteFirst g old now written → HasEmptyPages g (seen old) (seen now)
wrote_all g old now written each so_far = record { long = so_far.long; front = so_far.front; empty = λ id there. so_far.empty id there (each id there) }

-- ---- the whole of it behind the closed gate

first_is : (l : List ℕ) (x : ℕ) → take 1 l ≡ x ∷ [] → l ≡ x ∷ drop 1 l
first_is [] x is = absurd cc
first_is (y ∷ l) x is = let same : y ≡ x = cc in ap (λ b. b ∷ l) same

drop_behind : (at m x y : ℕ) (l : List ℕ) → at ≡ suc m → drop at (x ∷ l) ≡ drop at (y ∷ l)
drop_behind at m x y l is = ap (λ n. drop n (x ∷ l)) is ∙ sym (ap (λ n. drop n (y ∷ l)) is)

module _ (g : Geometry) (rest gated image : List ℕ) (limits : IsInLimits g) (long : 1 + length rest ≡ volume_bytes g)
    (gated_is : gated ≡ overwritten (overwritten (CLOSED ∷ rest) 1 (label_bytes Volume (volume_label g))) 4096 (CLOSED ∷ [])) (pages : HasEmptyPages g gated image) where
  abbrev label : List ℕ
  label = label_bytes Volume (volume_label g)

  label_long : length label ≡ 511
  label_long = length-label_bytes Volume (volume_label g) limits.0.count

  begins : 8192 ≤ pages_begin g.version
  begins = omega (arith, pages_begin-is g.version)

  labelled_is : overwritten (CLOSED ∷ rest) 1 label ≡ CLOSED ∷ (label ++ drop (length label) rest)
  labelled_is = overwritten-append (CLOSED ∷ []) rest 1 label refl

  labelled_long : length (overwritten (CLOSED ∷ rest) 1 label) ≡ volume_bytes g
  labelled_long = length-overwritten (CLOSED ∷ rest) 1 label (omega (arith, begins, label_long, long)) ∙ omega (arith, long)

  gated_long : length gated ≡ volume_bytes g
  gated_long = ap (λ (l : List ℕ). length l) gated_is ∙ length-overwritten (overwritten (CLOSED ∷ rest) 1 label) 4096 (CLOSED ∷ []) (omega (arith, begins, labelled_long)) ∙ labelled_long

  gated_front : take 4096 gated ≡ take 4096 (overwritten (CLOSED ∷ rest) 1 label)
  gated_front = ap (take 4096) gated_is ∙ take_below (overwritten (CLOSED ∷ rest) 1 label) 4096 (CLOSED ∷ []) 4096 (omega arith) (omega (arith, begins, labelled_long))

  front_is : take 512 image ≡ CLOSED ∷ label
  front_is =
      take_less image gated 512 (pages_begin g.version) pages.front (omega (arith, begins)) ∙ take_less gated (overwritten (CLOSED ∷ rest) 1 label) 512 4096 gated_front (omega arith) ∙ ap (take 512) labelled_is
      ∙ take_at (CLOSED ∷ label) (drop (length label) rest) 512 (omega (arith, label_long))

  gate_is : part 4096 1 image ≡ CLOSED ∷ []
  gate_is = part_front image gated (pages_begin g.version) 4096 1 pages.front (omega (arith, begins)) ∙ ap (part 4096 1) gated_is ∙ part_here (overwritten (CLOSED ∷ rest) 1 label) 4096 (CLOSED ∷ []) (omega (arith, begins, labelled_long))

  pub closed_is : image ≡ CLOSED ∷ drop 1 image
  closed_is = first_is image CLOSED (sym (take_again 1 512 image (omega arith)) ∙ ap (take 1) front_is)

  pub empty_behind : IsEmptyBehind g (drop 1 image)
  empty_behind = record {
    long = omega (arith, ap (λ (l : List ℕ). length l) closed_is, pages.long, gated_long);
    label = let tails : CLOSED ∷ take 511 (drop 1 image) ≡ CLOSED ∷ label = sym (ap (take 512) closed_is) ∙ front_is in ap (drop 1) tails;
    shut = ap (take 1) (drop-drop 4095 1 image) ∙ gate_is;
    empty = λ gate id there.
        let k = page_number g id in
        let same : page_at g.version (gate ∷ drop 1 image) k ≡ page_at g.version image k = ap (take (page_bytes g.version)) (drop_behind (page_offset g.version k) (pages_begin g.version - 1 + page_bytes g.version * k) gate CLOSED (drop 1 image) (omega (arith, begins))) ∙ sym (ap (λ (l : List ℕ). page_at g.version l k) closed_is) in
        subst (λ (l : List ℕ). IsPageText g.version l id 0 []) (sym same) (pages.empty id there);
  }

-- and once the gate is opened
pub made_volume : (g : Geometry) (device_bytes : ℕ) (behind : List ℕ) → IsInLimits g → g.pair < 2 ^ 64 → device_bytes ≡ volume_bytes g → IsEmptyBehind g behind
    → IsEmptyVolume g device_bytes (OPEN ∷ behind)
made_volume g device_bytes behind limits pair long is = record {
  label = record {
    limits = record {
      pair = pair;
      of_device = sym long;
      as_long = long;
      least_locks = limits.1.0;
      most_locks = limits.1.1;
      some_store = limits.0.some;
      most_stores = limits.0.count;
      some_page = limits.0.each;
      most_pages = limits.0.together;
    };
    text = ap (λ (l : List ℕ). OPEN ∷ l) is.label;
  };
  shut = λ is_open. let clash : CLOSED ∷ [] ≡ OPEN ∷ [] = sym is.shut ∙ is_open in absurd cc;
  empty = is.empty OPEN;
}
