-- A record more behind a log of which none fails: none does, unless it is that one.
use Rattle.std.proofs.Common.{◌≡◌, ◌⊎◌, ⊎_elim, inl, inr, ◌+◌, ◌-◌, ◌<◌, ℕ, List, [], ◌∷◌, ◌++◌, Option, None, Some, length, take, sym, ap, subst, ◌∙◌, arith}
use Rattle.std.specs.Prelude.{slice_get}
use Rattle.std.proofs.lemmas.Option.{slice_get_within}
use Rattle.shore_types.specs.Images.{Image, image_len}
use Rattle.shore_types.specs.declared.ids.Rid.{Rid}
use Rattle.shore_types.specs.declared.layout.Geometry.{Geometry}
use Rattle.shore_types.specs.declared.versions.Version.{Version}
use Rattle.shore_model.specs.declared.log_records.LogRecord.{LogRecord}
use Rattle.shore_model.specs.declared.log_records.Payload.{Payload}
use Rattle.shore_model.specs.Logs.{image_in}
use Rattle.shore_page.specs.Room.{Fits}
use Rattle.laws_lives.proofs.Lists.{take-push}
use Rattle.laws_runs.specs.SlotCounts.{FitsBehind, slots_left}
use Rattle.shore_analysis.proofs.MeantLogs.{before_last, own_or_last}
use Rattle.shore_restart.specs.AnyPages.{AllFindRoom, FindsNoRoom}
use Rattle.shore_restart.specs.Turns.{TurnsFit}
use Rattle.shore_restart.proofs.RedoneReads.{of_no_image}

module _ (Fails : List LogRecord → ℕ → LogRecord → Type 0) where
  -- record n fails behind those before it
  abbrev FailsAt : List LogRecord → ℕ → Type 0
  FailsAt log n = (0 < n) × ((r : LogRecord) × (slice_get log (n - 1) ≡ Some r) × Fails (take (n - 1) log) n r)

  own_or_new : (log : List LogRecord) (r : LogRecord) (n : ℕ) → FailsAt (log ++ r ∷ []) n → FailsAt log n ⊎ Fails log (length log + 1) r
  own_or_new log r n (some, (x, at, fails)) = ⊎_elim
      (λ own. let within = slice_get_within log (n - 1) x own in inl (some, (x, own, subst (λ (before : List LogRecord). Fails before n x) (take-push (n - 1) log r (omega (arith, within))) fails)))
      (λ last.
      let long = last.0 in
      let number : n ≡ length log + 1 = omega (arith, some, long) in
      let before = ap (λ (k : ℕ). take k (log ++ r ∷ [])) last.0 ∙ before_last log r in
      inr (subst (λ (k : ℕ). Fails log k r) number (subst (Fails log n) (sym last.1) (subst (λ (xs : List LogRecord). Fails xs n x) before fails))))
      (own_or_last log r x (n - 1) at)

-- each finds room on its page
pub find_more : (g : Geometry) (first : ℕ → List ℕ) (log : List LogRecord) (r : LogRecord) → AllFindRoom g first log → (FindsNoRoom g first log (length log + 1) r.payload → ⊥) → AllFindRoom g first (log ++ r ∷ [])
find_more g first log r all room n misfit = ⊎_elim (all n) room (own_or_new (λ before k x. FindsNoRoom g first before k x.payload) log r n misfit)

-- .. and fits it, by the log alone
pub turns_fit_more : (v : Version) (found log : List LogRecord) (r : LogRecord) → TurnsFit v found log → FitsBehind v log r.payload → TurnsFit v found (log ++ r ∷ [])
turns_fit_more v found log r all fits n behind misfit = ⊎_elim (all n behind) (λ (last : FitsBehind v log r.payload → ⊥). last fits) (own_or_new (λ before k x. FitsBehind v before x.payload → ⊥) log r n misfit)

-- a payload does, if its image does or if it has none
pub image_fits : (v : Version) (before : List LogRecord) (payload : Payload) (id : Rid) (image : Image) → image_in payload ≡ Some (id, image) → Fits v (slots_left before id.page) id.slot (image_len image) → FitsBehind v before payload
image_fits v before payload id image says fits e at =
    let same : ◌≡◌ {A = Option (Rid × Image)} (Some (id, image)) (Some e) = sym says ∙ at in
    let it : ◌≡◌ {A = Rid × Image} (id, image) e = cc in
    subst (λ (e : Rid × Image). Fits v (slots_left before e.0.page) e.0.slot (image_len e.1)) it fits

pub none_fits : (v : Version) (before : List LogRecord) (payload : Payload) → image_in payload ≡ None → FitsBehind v before payload
none_fits v before payload none e at = absurd (of_no_image (image_in payload) e.0 e.1 none at)

-- there is none yet
pub no_turns : (v : Version) (log : List LogRecord) → TurnsFit v log log
no_turns v log n behind misfit = let within = slice_get_within log (n - 1) misfit.1.0 misfit.1.1 in omega (arith, behind, within)
