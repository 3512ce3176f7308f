-- Records that lie one behind another from the header on.
use Rattle.std.proofs.Common.{◌≡◌, ◌≤◌, ◌+◌, ◌-◌, ℕ, zero, suc, List, [], ◌∷◌, ◌++◌, length, map, take, drop, None, Some, refl, sym, ap, subst, ◌∙◌, arith}
use Rattle.std.specs.List.{between, range_with_len}
use Rattle.std.proofs.lemmas.List.{drop-append-le, drop-drop, length-append, take-append-le, take_all}
use Rattle.std.proofs.Math.Seq.{take-add}
use Rattle.std.proofs.lemmas.List.FromFn.{map-range_with_len_more}
use Rattle.shore_types.specs.Images.{Image}
use Rattle.shore_types.specs.Runs.{IsRun}
use Rattle.shore_types.specs.declared.versions.Version.{Version}
use Rattle.shore_page.specs.Reading.{images_in, slot_image}

-- a record behind a run
pub run_more : (bytes image : List ℕ) (images : List Image) → IsRun bytes images → IsRun (bytes ++ image) (images ++ Some image ∷ [])
run_more bytes image [] run =
    let is : bytes ++ image ≡ image = ap (λ (l : List ℕ). l ++ image) run in
    subst (λ (l : List ℕ). IsRun l (Some image ∷ [])) (sym is) (omega arith, take_all (length image) image (omega arith), drop_all_of image)
  where
    drop_all_of : (l : List ℕ) → drop (length l) l ≡ []
    drop_all_of [] = refl
    drop_all_of (x ∷ l) = drop_all_of l
run_more bytes image (None ∷ rest) run = absurd run
run_more bytes image (Some first ∷ rest) run = (
  omega (arith, run.0, length-append bytes image),
  take-append-le (length first) bytes image run.0 ∙ run.1,
  subst (λ (l : List ℕ). IsRun l (rest ++ Some image ∷ [])) (sym (drop-append-le (length first) bytes image run.0)) (run_more (drop (length first) bytes) image rest run.2),
)

none_taken : (l : List ℕ) → take 0 l ≡ []
none_taken [] = refl
none_taken (x ∷ l) = refl

-- a part, and the part behind it
pub parts_joined : (bytes : List ℕ) (a b c : ℕ) → a ≤ b → b ≤ c → between a c bytes ≡ between a b bytes ++ between b c bytes
parts_joined bytes a b c first second =
    let all : c - a ≡ b - a + (c - b) = omega (arith, first, second) in
    let from : a + (b - a) ≡ b = omega (arith, first) in
    ap (λ (n : ℕ). take n (drop a bytes)) all ∙ take-add (b - a) (c - b) (drop a bytes)
    ∙ ap (λ (l : List ℕ). between a b bytes ++ take (c - b) l) (drop-drop (b - a) a bytes ∙ ap (λ (n : ℕ). drop n bytes) from)

-- nothing is a run of nothing
pub nothing_run : (v : Version) (bytes : List ℕ) → IsRun (between 24 24 bytes) (images_in v bytes 0)
nothing_run v bytes = subst (λ (l : List ℕ). IsRun l (images_in v bytes 0)) (sym (none_taken (drop 24 bytes))) refl

-- one slot more, of which the record begins where the run ends
pub slot_more : (v : Version) (bytes : List ℕ) (slot end next : ℕ) → 24 ≤ end → end ≤ next → slot_image v bytes slot ≡ Some (between end next bytes)
    → IsRun (between 24 end bytes) (images_in v bytes slot) → IsRun (between 24 next bytes) (images_in v bytes (slot + 1))
slot_more v bytes slot end next front order is run =
    let images : images_in v bytes (slot + 1) ≡ images_in v bytes slot ++ Some (between end next bytes) ∷ [] =
    map-range_with_len_more (slot_image v bytes) 0 slot slot (omega arith) ∙ ap (λ (i : Image). images_in v bytes slot ++ i ∷ []) is in
    subst (λ (l : List Image). IsRun (between 24 next bytes) l) (sym images)
    (subst (λ (b : List ℕ). IsRun b (images_in v bytes slot ++ Some (between end next bytes) ∷ [])) (sym (parts_joined bytes 24 end next front order))
    (run_more (between 24 end bytes) (between end next bytes) (images_in v bytes slot) run))
