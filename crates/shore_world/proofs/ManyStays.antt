-- Stays of the power on two devices, any number of them one after another, are stays over plain data.
use Rattle.std.proofs.Common.{◌≡◌, ⊎_elim, ℕ, ◌-◌, List, [], ◌∷◌, ◌++◌, refl, sym, ap, subst, ◌∙◌, append_assoc, append-nil}
use Rattle.std.proofs.Math.Logic.{∥∥₁_map, ∥∥₁_elim, ∥∥₁_prop}
use Rattle.std.specs.FinMap.{empty}
use Rattle.shore_types.specs.declared.layout.Geometry.{Geometry}
use Rattle.shore_types.specs.declared.layout.TheConstants.{LOG_FRONT_BYTES}
use Rattle.shore_types.specs.Versions.{slot_limit}
use Rattle.shore_disk.specs.Device.{DeviceHistory, may_leave, seen, size}
use Rattle.shore_disk.specs.declared.device.Disk.{Ghosts}
use Rattle.shore_disk.proofs.Moments.{seen_left}
use Rattle.shore_fronts.specs.Fronts.{first_anchor}
use Rattle.shore_gate.specs.declared.anchors.Anchor.{Anchor}
use Rattle.shore_model.specs.declared.histories.Opening.{Opening}
use Rattle.shore_model.specs.declared.log_records.LogRecord.{LogRecord}
use Rattle.shore_model.specs.Lives.{Span, next_opening}
use Rattle.laws_lives.specs.Pages.{LoggedPages, empty_page}
use Rattle.laws_lives.proofs.LifeSteps.{format_opens}
use Rattle.laws_lives.specs.Doubts.{IsOpeningOf}
use Rattle.laws_lives.specs.Soundness.{opening_with}
use Rattle.laws_lives.specs.Stretches.{opening_after}
use Rattle.laws_checkpoints.specs.Checkpoints.{Anchored, not_anchored}
use Rattle.laws_runs.specs.CheckpointedStates.{MayBeOpenedBehind}
use Rattle.laws_runs.specs.CheckpointedStays.{AreCheckpointedStays, CheckpointedCut, CheckpointedRun, CheckpointedStay, CutOff, WasUp, left_by_cut, left_by_up, span_of_up, spans_of_stays}
use Rattle.laws_runs.proofs.CheckpointedFixed.{stays_fixed}
use Rattle.laws_runs.proofs.CheckpointedStays.{stays_leave, stays_live}
use Rattle.laws_images.proofs.LeftBehind.{formatted_behind}
use Rattle.laws_images.proofs.PathsBehind.{cut_off_behind}
use Rattle.laws_images.specs.Moments.{IsLostAlong}
use Rattle.laws_images.specs.MomentsBehind.{begun_behind}
use Rattle.laws_images.specs.StandsBehind.{StandsForBehind, anchored_by}
use Rattle.laws_orders.proofs.Stays.{stays_in_order}
use Rattle.shore_format.specs.Pairs.{AreFormatted}
use Rattle.shore_world.specs.Crashes.{AreLeft}
use Rattle.shore_world.specs.Lives.{HaveLived}
use Rattle.shore_world.specs.Managers.{AreFound, AreLeftInThreads, AreRunsOf, AreStays, IsInThreads, IsManager, IsRunOf, IsThreadedRunOf, Manager, Shared, Stay, Threads, Tried, Up, runs_among}
use Rattle.shore_world.specs.Opens.{LeftByOpen, OpenWay}
use Rattle.shore_world.proofs.StayLemmas.{at_its_lengths, stayed, stayed_in_threads}

-- ---- lists of stays, from their end

-- the opening that they leave to the next
abbrev pub opening_behind : Opening → List LogRecord → List CheckpointedStay → Opening
opening_behind o rs [] = o
opening_behind o rs (CutOff c ∷ over) = opening_behind o (left_by_cut c) over
opening_behind o rs (WasUp r ∷ over) = opening_behind (next_opening o (span_of_up rs r)) (left_by_up r) over

-- .. is the one behind all their spans
same_opening : (o : Opening) (rs : List LogRecord) (over : List CheckpointedStay) → opening_behind o rs over ≡ opening_after o (spans_of_stays rs over)
same_opening o rs [] = refl
same_opening o rs (CutOff c ∷ over) = same_opening o (left_by_cut c) over
same_opening o rs (WasUp r ∷ over) = same_opening (next_opening o (span_of_up rs r)) (left_by_up r) over

stays_on : (g : Geometry) (bytes : ℕ) (o : Opening) (a : Anchored) (rs : List LogRecord) (pages : LoggedPages) (over more : List CheckpointedStay) (b : Anchored) (mid : List LogRecord)
    (mid_pages : LoggedPages) (end : Anchored) (last : List LogRecord) (last_pages : LoggedPages) → AreCheckpointedStays g bytes o a rs pages over b mid mid_pages
    → AreCheckpointedStays g bytes (opening_behind o rs over) b mid mid_pages more end last last_pages → AreCheckpointedStays g bytes o a rs pages (over ++ more) end last last_pages
stays_on g bytes o a rs pages [] more b mid mid_pages end last last_pages are later =
    subst (λ (x : Anchored). AreCheckpointedStays g bytes o x rs pages more end last last_pages) are.0
    (subst (λ (l : List LogRecord). AreCheckpointedStays g bytes o b l pages more end last last_pages) are.1
    (subst (λ (p : LoggedPages). AreCheckpointedStays g bytes o b mid p more end last last_pages) are.2 later))
stays_on g bytes o a rs pages (CutOff c ∷ over) more b mid mid_pages end last last_pages are later =
    (are.0, stays_on g bytes o a (left_by_cut c) c.pages over more b mid mid_pages end last last_pages are.1 later)
stays_on g bytes o a rs pages (WasUp r ∷ over) more b mid mid_pages end last last_pages are later =
    (are.0, stays_on g bytes (next_opening o (span_of_up rs r)) r.anchor (left_by_up r) r.pages over more b mid mid_pages end last last_pages are.1 later)

-- an open that lost power adds no run, a manager adds its own
runs_behind_cut : (over : List CheckpointedStay) (c : CheckpointedCut) → runs_among (over ++ CutOff c ∷ []) ≡ runs_among over
runs_behind_cut [] c = refl
runs_behind_cut (CutOff d ∷ over) c = runs_behind_cut over c
runs_behind_cut (WasUp r ∷ over) c = ap (λ (l : List CheckpointedRun). r ∷ l) (runs_behind_cut over c)

runs_behind_up : (over : List CheckpointedStay) (r : CheckpointedRun) → runs_among (over ++ WasUp r ∷ []) ≡ runs_among over ++ r ∷ []
runs_behind_up [] r = refl
runs_behind_up (CutOff c ∷ over) r = runs_behind_up over r
runs_behind_up (WasUp q ∷ over) r = ap (λ (l : List CheckpointedRun). q ∷ l) (runs_behind_up over r)

-- the opening that stays leave is what the log says that they leave
opens_behind : (g : Geometry) (bytes : ℕ) (over : List CheckpointedStay) (a : Anchored) (end : List LogRecord) (end_pages : LoggedPages) → MayBeOpenedBehind g bytes not_anchored [] (λ p. empty_page)
    → AreCheckpointedStays g bytes (opening_with (slot_limit g.version) empty) not_anchored [] (λ p. empty_page) over a end end_pages → IsOpeningOf end (opening_behind (opening_with (slot_limit g.version) empty) [] over)
opens_behind g bytes over a end end_pages may are =
    subst (IsOpeningOf end) (sym (same_opening (opening_with (slot_limit g.version) empty) [] over))
    (stays_leave g bytes (opening_with (slot_limit g.version) empty) not_anchored [] (λ p. empty_page) may (format_opens (slot_limit g.version)) over a end end_pages are).1

module _ {L V : Type 0} {G : Ghosts L} {H : Ghosts V} where
  tried_adds_none : (stays : List (Stay L V G H)) (runs : List CheckpointedRun) (log volume : DeviceHistory) → AreRunsOf stays runs → AreRunsOf (stays ++ Tried log volume ∷ []) runs
  tried_adds_none [] [] log volume are = tt
  tried_adds_none [] (run ∷ runs) log volume are = absurd are
  tried_adds_none (Tried l v ∷ stays) runs log volume are = tried_adds_none stays runs log volume are
  tried_adds_none (Up m ∷ stays) [] log volume are = absurd are
  tried_adds_none (Up m ∷ stays) (run ∷ runs) log volume are = (are.0, tried_adds_none stays runs log volume are.1)
  tried_adds_none (Shared t ∷ stays) [] log volume are = absurd are
  tried_adds_none (Shared t ∷ stays) (run ∷ runs) log volume are = (are.0, tried_adds_none stays runs log volume are.1)

  manager_adds_its_run : (stays : List (Stay L V G H)) (runs : List CheckpointedRun) (m : Manager L V G H) (run : CheckpointedRun) → AreRunsOf stays runs → IsRunOf m run
      → AreRunsOf (stays ++ Up m ∷ []) (runs ++ run ∷ [])
  manager_adds_its_run [] [] m run are is = (is, tt)
  manager_adds_its_run [] (r ∷ runs) m run are is = absurd are
  manager_adds_its_run (Tried l v ∷ stays) runs m run are is = manager_adds_its_run stays runs m run are is
  manager_adds_its_run (Up n ∷ stays) [] m run are is = absurd are
  manager_adds_its_run (Up n ∷ stays) (r ∷ runs) m run are is = (are.0, manager_adds_its_run stays runs m run are.1 is)
  manager_adds_its_run (Shared t ∷ stays) [] m run are is = absurd are
  manager_adds_its_run (Shared t ∷ stays) (r ∷ runs) m run are is = (are.0, manager_adds_its_run stays runs m run are.1 is)

  threads_add_their_run : (stays : List (Stay L V G H)) (runs : List CheckpointedRun) (t : Threads L V G H) (run : CheckpointedRun) → AreRunsOf stays runs → IsThreadedRunOf t run
      → AreRunsOf (stays ++ Shared t ∷ []) (runs ++ run ∷ [])
  threads_add_their_run [] [] t run are is = (is, tt)
  threads_add_their_run [] (r ∷ runs) t run are is = absurd are
  threads_add_their_run (Tried l v ∷ stays) runs t run are is = threads_add_their_run stays runs t run are is
  threads_add_their_run (Up n ∷ stays) [] t run are is = absurd are
  threads_add_their_run (Up n ∷ stays) (r ∷ runs) t run are is = (are.0, threads_add_their_run stays runs t run are.1 is)
  threads_add_their_run (Shared u ∷ stays) [] t run are is = absurd are
  threads_add_their_run (Shared u ∷ stays) (r ∷ runs) t run are is = (are.0, threads_add_their_run stays runs t run are.1 is)

-- each open finds the bound of slots of the first
after_sized : (o : Opening) (spans : List Span) → (opening_after o spans).slots ≡ o.slots
after_sized o [] = refl
after_sized o (span ∷ spans) = after_sized (next_opening o span) spans

behind_sized : (slots : ℕ) (over : List CheckpointedStay) → (opening_behind (opening_with slots empty) [] over).slots ≡ slots
behind_sized slots over =
    ap (λ (o : Opening). o.slots) (same_opening (opening_with slots empty) [] over) ∙ after_sized (opening_with slots empty) (spans_of_stays [] over)

module _ {L V : Type 0} {G : Ghosts L} {H : Ghosts V} (g : Geometry) (log_bytes volume_bytes : ℕ) where
  -- ---- any number of stays, from a format

  -- the stays over plain data, and what the last one may leave
  pub record HaveStayed (stays : List (Stay L V G H)) (log_left volume_left : List ℕ) : Type 0 where
    pub opened : MayBeOpenedBehind g (log_bytes - LOG_FRONT_BYTES) not_anchored [] (λ p. empty_page)
    pub over : List CheckpointedStay
    pub anchor : Anchor
    pub last : List LogRecord
    pub last_pages : LoggedPages
    pub are : AreCheckpointedStays g (log_bytes - LOG_FRONT_BYTES) (opening_with (slot_limit g.version) empty) not_anchored [] (λ p. empty_page) over (anchored_by anchor) last last_pages
    pub of : AreRunsOf stays (runs_among over)
    pub stands : StandsForBehind g log_bytes volume_bytes anchor last last_pages log_left volume_left

  -- each pair of images that may be left then
  abbrev pub EachHasStayed : List (Stay L V G H) → (List ℕ → List ℕ → Type 0) → Type 0
  EachHasStayed stays left = (c d : List ℕ) → left c d → ∥ HaveStayed stays c d ∥₁

  formatted_has : EachHasStayed [] (AreFormatted g log_bytes volume_bytes)
  formatted_has c d formatted = ∣ record {
    opened = (formatted_behind g log_bytes volume_bytes c d formatted).opened;
    over = [];
    anchor = first_anchor;
    last = [];
    last_pages = λ p. empty_page;
    are = (refl, refl, refl);
    of = tt;
    stands = formatted_behind g log_bytes volume_bytes c d formatted;
  } ∣₁

  module _ (before : List (Stay L V G H)) (left : List ℕ → List ℕ → Type 0) (has : EachHasStayed before left) (log volume : DeviceHistory)
      (found : AreFound log_bytes volume_bytes left log volume) where
    -- what is read is among what may be left
    pub as_read : ∥ HaveStayed before (seen log) (seen volume) ∥₁
    as_read = has (seen log) (seen volume) (found.among (seen log) (seen volume) (seen_left log.first log.calls) (seen_left volume.first volume.calls))

    tried_has : EachHasStayed (before ++ Tried log volume ∷ []) (LeftByOpen log volume)
    tried_has c d left_by =
        ∥∥₁_elim as_read ∥∥₁_prop (λ so_far.
        ⊎_elim (λ early. early_has c d early) (λ later. ∣ later_has so_far c d later.0 later.1 ∣₁)
        (left_by g so_far.anchor so_far.last so_far.last_pages
        (at_its_lengths g log_bytes volume_bytes log volume found.lengths so_far.anchor so_far.last so_far.last_pages (seen log) (seen volume) so_far.stands)))
      where
        early_has : (c d : List ℕ) → may_leave log c × may_leave volume d → ∥ HaveStayed (before ++ Tried log volume ∷ []) c d ∥₁
        early_has c d early =
            ∥∥₁_map (has c d (found.among c d early.0 early.1)) (λ so_far.
            record {
              opened = so_far.opened;
              over = so_far.over;
              anchor = so_far.anchor;
              last = so_far.last;
              last_pages = so_far.last_pages;
              are = so_far.are;
              of = tried_adds_none before (runs_among so_far.over) log volume so_far.of;
              stands = so_far.stands;
            })

        later_has : (so_far : HaveStayed before (seen log) (seen volume)) (c d : List ℕ) (way : OpenWay g so_far.anchor log volume so_far.last so_far.last_pages)
            → IsLostAlong (begun_behind way.log_behind way.volume_behind so_far.anchor so_far.last so_far.last_pages) way.moments c d → HaveStayed (before ++ Tried log volume ∷ []) c d
        later_has so_far c d way lost =
            let one = cut_off_behind g log_bytes volume_bytes so_far.anchor so_far.last so_far.last_pages (seen log) (seen volume) so_far.stands way.log_behind way.volume_behind way.moments way.last
            way.path c d lost in
            let after = left_by_cut one.cut in
            record {
              opened = so_far.opened;
              over = so_far.over ++ CutOff one.cut ∷ [];
              anchor = so_far.anchor;
              last = after;
              last_pages = one.cut.pages;
              are = stays_on g (log_bytes - LOG_FRONT_BYTES) (opening_with (slot_limit g.version) empty) not_anchored [] (λ p. empty_page) so_far.over (CutOff one.cut ∷ []) (anchored_by so_far.anchor) so_far.last
                  so_far.last_pages (anchored_by so_far.anchor) after one.cut.pages so_far.are (one.is_cut, (refl, refl, refl));
              of = subst (AreRunsOf (before ++ Tried log volume ∷ [])) (sym (runs_behind_cut so_far.over one.cut))
                  (tried_adds_none before (runs_among so_far.over) log volume so_far.of);
              stands = one.stands;
            }

  manager_has : (before : List (Stay L V G H)) (left : List ℕ → List ℕ → Type 0) → EachHasStayed before left → (m : Manager L V G H)
      → AreFound log_bytes volume_bytes left m.log m.volume → IsManager m → EachHasStayed (before ++ Up m ∷ []) (AreLeft m.ended)
  manager_has before left has m found is c d crash =
      ∥∥₁_elim (as_read before left has m.log m.volume found) ∥∥₁_prop (λ so_far.
      let o = opening_behind (opening_with (slot_limit g.version) empty) [] so_far.over in
      let opening = opens_behind g (log_bytes - LOG_FRONT_BYTES) so_far.over (anchored_by so_far.anchor) so_far.last so_far.last_pages so_far.opened so_far.are in
      let sized = behind_sized (slot_limit g.version) so_far.over in
      ∥∥₁_map (stayed g log_bytes volume_bytes o so_far.anchor so_far.last so_far.last_pages m opening sized found.lengths so_far.stands is c d crash) (λ one.
      let after = left_by_up one.run in
      record {
        opened = so_far.opened;
        over = so_far.over ++ WasUp one.run ∷ [];
        anchor = one.behind;
        last = after;
        last_pages = one.run.pages;
        are = stays_on g (log_bytes - LOG_FRONT_BYTES) (opening_with (slot_limit g.version) empty) not_anchored [] (λ p. empty_page) so_far.over (WasUp one.run ∷ []) (anchored_by so_far.anchor) so_far.last
            so_far.last_pages (anchored_by one.behind) after one.run.pages so_far.are (one.up, (sym one.same, refl, refl));
        of = subst (AreRunsOf (before ++ Up m ∷ [])) (sym (runs_behind_up so_far.over one.run))
            (manager_adds_its_run before (runs_among so_far.over) m one.run so_far.of one.of);
        stands = one.stands;
      }))

  threads_have : (before : List (Stay L V G H)) (left : List ℕ → List ℕ → Type 0) → EachHasStayed before left → (t : Threads L V G H)
      → AreFound log_bytes volume_bytes left t.log t.volume → IsInThreads t → EachHasStayed (before ++ Shared t ∷ []) (AreLeftInThreads t)
  threads_have before left has t found is c d crash =
      ∥∥₁_elim (as_read before left has t.log t.volume found) ∥∥₁_prop (λ so_far.
      let o = opening_behind (opening_with (slot_limit g.version) empty) [] so_far.over in
      let opening = opens_behind g (log_bytes - LOG_FRONT_BYTES) so_far.over (anchored_by so_far.anchor) so_far.last so_far.last_pages so_far.opened so_far.are in
      let sized = behind_sized (slot_limit g.version) so_far.over in
      ∥∥₁_map (stayed_in_threads g log_bytes volume_bytes o so_far.anchor so_far.last so_far.last_pages t opening sized found.lengths so_far.stands is c d crash) (λ one.
      let after = left_by_up one.run in
      record {
        opened = so_far.opened;
        over = so_far.over ++ WasUp one.run ∷ [];
        anchor = one.behind;
        last = after;
        last_pages = one.run.pages;
        are = stays_on g (log_bytes - LOG_FRONT_BYTES) (opening_with (slot_limit g.version) empty) not_anchored [] (λ p. empty_page) so_far.over (WasUp one.run ∷ []) (anchored_by so_far.anchor) so_far.last
            so_far.last_pages (anchored_by one.behind) after one.run.pages so_far.are (one.up, (sym one.same, refl, refl));
        of = subst (AreRunsOf (before ++ Shared t ∷ [])) (sym (runs_behind_up so_far.over one.run))
            (threads_add_their_run before (runs_among so_far.over) t one.run so_far.of one.of);
        stands = one.stands;
      }))

  stays_have : (before : List (Stay L V G H)) (left : List ℕ → List ℕ → Type 0) → EachHasStayed before left → (stays : List (Stay L V G H)) (log_last volume_last : DeviceHistory)
      → AreStays log_bytes volume_bytes left stays log_last volume_last
      → EachHasStayed (before ++ stays) (λ c d. may_leave log_last c × may_leave volume_last d) × ((size log_last ≡ log_bytes) × (size volume_last ≡ volume_bytes))
  stays_have before left has [] log_last volume_last found = (
    λ c d may. subst (λ (l : List (Stay L V G H)). ∥ HaveStayed l c d ∥₁) (sym (append-nil before)) (has c d (found.among c d may.0 may.1)),
    found.lengths,
  )
  stays_have before left has (Tried log volume ∷ stays) log_last volume_last are =
      subst (λ (l : List (Stay L V G H)). EachHasStayed l (λ c d. may_leave log_last c × may_leave volume_last d) × ((size log_last ≡ log_bytes) × (size volume_last ≡ volume_bytes)))
      (append_assoc before (Tried log volume ∷ []) stays)
      (stays_have (before ++ Tried log volume ∷ []) (LeftByOpen log volume) (tried_has before left has log volume are.0) stays log_last volume_last are.1)
  stays_have before left has (Up m ∷ stays) log_last volume_last are =
      subst (λ (l : List (Stay L V G H)). EachHasStayed l (λ c d. may_leave log_last c × may_leave volume_last d) × ((size log_last ≡ log_bytes) × (size volume_last ≡ volume_bytes)))
      (append_assoc before (Up m ∷ []) stays)
      (stays_have (before ++ Up m ∷ []) (AreLeft m.ended) (manager_has before left has m are.0 are.1) stays log_last volume_last are.2)
  stays_have before left has (Shared t ∷ stays) log_last volume_last are =
      subst (λ (l : List (Stay L V G H)). EachHasStayed l (λ c d. may_leave log_last c × may_leave volume_last d) × ((size log_last ≡ log_bytes) × (size volume_last ≡ volume_bytes)))
      (append_assoc before (Shared t ∷ []) stays)
      (stays_have (before ++ Shared t ∷ []) (AreLeftInThreads t) (threads_have before left has t are.0 are.1) stays log_last volume_last are.2)

  -- from a format to the devices that are found in the end
  pub have_stayed : (stays : List (Stay L V G H)) (log_last volume_last : DeviceHistory) → AreStays log_bytes volume_bytes (AreFormatted g log_bytes volume_bytes) stays log_last volume_last
      → EachHasStayed stays (λ c d. may_leave log_last c × may_leave volume_last d) × ((size log_last ≡ log_bytes) × (size volume_last ≡ volume_bytes))
  have_stayed stays log_last volume_last are = stays_have [] (AreFormatted g log_bytes volume_bytes) formatted_has stays log_last volume_last are

-- ---- as a life

module _ {L V : Type 0} {G : Ghosts L} {H : Ghosts V} (g : Geometry) (log_bytes volume_bytes : ℕ) (stays : List (Stay L V G H)) (log_left volume_left : List ℕ)
    (stayed : HaveStayed g log_bytes volume_bytes stays log_left volume_left) where
  -- the opening that they have come to
  abbrev pub last_opening : Opening
  last_opening = opening_after (opening_with (slot_limit g.version) empty) (spans_of_stays [] stayed.over)

  pub last_sized : last_opening.slots ≡ slot_limit g.version
  last_sized = after_sized (opening_with (slot_limit g.version) empty) (spans_of_stays [] stayed.over)

  pub is_last_opening : IsOpeningOf stayed.last last_opening
  is_last_opening =
      (stays_leave g (log_bytes - LOG_FRONT_BYTES) (opening_with (slot_limit g.version) empty) not_anchored [] (λ p. empty_page) stayed.opened (format_opens (slot_limit g.version)) stayed.over (anchored_by stayed.anchor) stayed.last
      stayed.last_pages stayed.are).1

  pub have_lived : HaveLived g (log_bytes - LOG_FRONT_BYTES) stays last_opening (anchored_by stayed.anchor) stayed.last stayed.last_pages
  have_lived =
      let live =
      stays_live g (log_bytes - LOG_FRONT_BYTES) (opening_with (slot_limit g.version) empty) not_anchored [] (λ p. empty_page) stayed.opened (format_opens (slot_limit g.version)) stayed.over (anchored_by stayed.anchor) stayed.last
      stayed.last_pages stayed.are in
      record {
        over = stayed.over;
        of = stayed.of;
        are = stayed.are;
        life = live.0;
        in_order = stays_in_order g (log_bytes - LOG_FRONT_BYTES) (opening_with (slot_limit g.version) empty) not_anchored [] (λ p. empty_page) stayed.opened (format_opens (slot_limit g.version)) stayed.over (anchored_by stayed.anchor)
            stayed.last stayed.last_pages stayed.are;
        opening = is_last_opening;
        shown = live.1;
        fixed = stays_fixed g (log_bytes - LOG_FRONT_BYTES) (opening_with (slot_limit g.version) empty) not_anchored [] (λ p. empty_page) stayed.opened (format_opens (slot_limit g.version)) stayed.over (anchored_by stayed.anchor)
            stayed.last stayed.last_pages stayed.are;
      }
