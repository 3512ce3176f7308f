-- How the slots of pages, and what is in them, come of a log with one more record.
use Rattle.std.proofs.Common.{◌≡◌, ◌≢◌, ◌++◌, ◌+◌, ◌<◌, ℕ, max, List, [], ◌∷◌, Bool, true, false, cond, Option, Some, None, refl, sym, ap, subst, ◌∙◌, arith}
use Rattle.std.specs.Ordering.{eq_by_cmp}
use Rattle.std.proofs.Math.Path.{fun_ext}
use Rattle.std.proofs.lemmas.Map.Views.{tells_apart}
use Rattle.shore_types.specs.Ids.{exact_pages, page_cmp}
use Rattle.shore_types.specs.Images.{Image}
use Rattle.shore_types.specs.declared.ids.PageId.{PageId}
use Rattle.shore_types.specs.declared.ids.Rid.{Rid}
use Rattle.shore_types.specs.declared.versions.Version.{Version}
use Rattle.shore_model.specs.declared.log_records.LogRecord.{LogRecord}
use Rattle.shore_model.specs.Logs.{image_in}
use Rattle.shore_model.specs.Records.{Records}
use Rattle.laws_room.proofs.Leaving.{same_page}
use Rattle.laws_room.specs.Claims.{Claimed, SlotCounts}
use Rattle.laws_lives.specs.Sessions.{SessionTxn}
use Rattle.laws_runs.specs.SlotCounts.{slot_count, slots_behind}

-- ---- the order of changes does not count

raise_swap : (b c : Bool) (k m n : ℕ) → cond b (max (cond c (max n m) n) k) (cond c (max n m) n) ≡ cond c (max (cond b (max n k) n) m) (cond b (max n k) n)
raise_swap true true k m n = omega arith
raise_swap true false k m n = refl
raise_swap false true k m n = refl
raise_swap false false k m n = refl

behind_swap : (p : PageId) (o u : Option (Rid × Image)) (n : ℕ) → slots_behind p o (slots_behind p u n) ≡ slots_behind p u (slots_behind p o n)
behind_swap p None u n = refl
behind_swap p (Some e) None n = refl
behind_swap p (Some e) (Some f) n = raise_swap (eq_by_cmp page_cmp p e.0.page) (eq_by_cmp page_cmp p f.0.page) (e.0.slot + 1) (f.0.slot + 1) n

pub slot_count-push : (log : List LogRecord) (r : LogRecord) (p : PageId) → slot_count (log ++ r ∷ []) p ≡ slots_behind p (image_in r.payload) (slot_count log p)
slot_count-push [] r p = refl
slot_count-push (x ∷ log) r p =
    ap (slots_behind p (image_in x.payload)) (slot_count-push log r p) ∙ behind_swap p (image_in x.payload) (image_in r.payload) (slot_count log p)

-- ---- one change

pub behind_here : (e : Rid × Image) (n : ℕ) → slots_behind e.0.page (Some e) n ≡ max n (e.0.slot + 1)
behind_here e n = ap (λ b. cond b (max n (e.0.slot + 1)) n) (same_page e.0.page)

pub behind_elsewhere : (p : PageId) (e : Rid × Image) (n : ℕ) → p ≢ e.0.page → slots_behind p (Some e) n ≡ n
behind_elsewhere p e n other =
    elim (eq_by_cmp page_cmp p e.0.page) as (λ b. eq_by_cmp page_cmp p e.0.page ≡ b → cond b (max n (e.0.slot + 1)) n ≡ n) [
      | true ↦ λ same. absurd (other (tells_apart exact_pages p e.0.page same))
      | false ↦ λ off. refl
    ] refl

-- a slot that is there brings no more
pub behind_within : (p : PageId) (e : Rid × Image) (n : ℕ) → (p ≡ e.0.page → e.0.slot < n) → slots_behind p (Some e) n ≡ n
behind_within p e n within =
    elim (eq_by_cmp page_cmp p e.0.page) as (λ b. eq_by_cmp page_cmp p e.0.page ≡ b → cond b (max n (e.0.slot + 1)) n ≡ n) [
      | true ↦ λ same. let less = within (tells_apart exact_pages p e.0.page same) in omega arith
      | false ↦ λ other. refl
    ] refl

-- ---- claims by counts that are the same

pub same_claimed : (v : Version) (R : Records) (undos : List SessionTxn) (old new : SlotCounts) → ((p : PageId) → new p ≡ old p) → Claimed v R undos old → Claimed v R undos new
same_claimed v R undos old new same k = subst (Claimed v R undos) (sym (fun_ext same)) k
