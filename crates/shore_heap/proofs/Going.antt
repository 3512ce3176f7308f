-- One call that fetches pages after another.
use Rattle.std.proofs.Common.{◌≡◌, ◌⊎◌, ◌≤◌, ℕ, List, Option, Some, None, IsSomeAnd, IsErrAnd, OnOk, Result, Ok, Err, MatchResult, refl, sym, ap, subst, ◌∙◌, inl, inr, arith}
use Rattle.shore_disk.specs.Cause.{HasCause}
use Rattle.shore_disk.specs.Device.{DeviceHistory, LeavesOnly, size}
use Rattle.shore_disk.specs.declared.device.Disk.{Ghosts}
use Rattle.shore_disk.proofs.Moments.{joined, widened}
use Rattle.shore_types.specs.declared.faults.Device.TheVariants as Device
use Rattle.shore_types.specs.declared.faults.Fault.{Fault}
use Rattle.shore_types.specs.declared.ids.PageId.{PageId}
use Rattle.shore_types.specs.declared.layout.Geometry.{Geometry}
use Rattle.shore_types.specs.Images.{Image}
use Rattle.shore_types.specs.Layout.{HasPage}
use Rattle.shore_types.specs.declared.versions.Version.{Version}
use Rattle.shore_dwrite.specs.Shown.{ShowsBehind}
use Rattle.shore_dwrite.specs.Volumes.{HasNoPage, page_number, page_offset}
use Rattle.shore_dwrite.proofs.Moves.{stands_still}
use Rattle.shore_dwrite.proofs.Numbers.{one_page}
use Rattle.shore_page.specs.Slots.{Slot}
use Rattle.shore_page.specs.Text.{IsPageText, images_of}
use Rattle.shore_pool.specs.declared.frame.Frame.{Frame}
use Rattle.shore_pool.specs.declared.pool.Pool.{Pool}
use Rattle.shore_pool.specs.Pages as pages
use Rattle.shore_pool.specs.Pages.{AreInOrder, IsPage, IsTextOf, SamePages, StayUnwritten}
use Rattle.shore_pool.specs.Pools as pools
use Rattle.shore_pool.specs.Pools.{PoolHolds, NeedsForce}
use Rattle.shore_pool.proofs.Same.{pages_on, pages_stay}
use Rattle.shore_pool.proofs.UnderWay.{is_shown}
use Rattle.shore_pool.proofs.Unwritten.{unwritten_on}
use Rattle.shore_heap.specs.declared.heap.Heap.{Heap}
use Rattle.shore_heap.specs.Contents.{AreBounds, AreKept, ClaimsOfPages}
use Rattle.shore_heap.specs.Heaps.{AsksForForce, KeepsSlots, LeavesPages, MayBeLeft, ReadsPages, RefusesPage, Shows, StayInPlace, WroteBack, faults_of, frame_at, geometry_of, history_of}
use Rattle.shore_heap.specs.Places.{IsRefusedAmong}
use Rattle.shore_heap.proofs.Showing.{shows_by}

-- ---- pages that may have been written

module _ (g : Geometry) (at : ℕ → Option Frame) (durable : ℕ) (disk : ℕ → List ℕ) where
  abbrev pub MayBe : (ℕ → List ℕ) → Type 0
  MayBe left = (id : PageId) → HasPage g id → (left (page_number g id) ≡ disk (page_number g id))
      ⊎ ((number : ℕ) × (images : List Image) × IsPage g.version (at (page_number g id)) (disk (page_number g id)) id number images × (number ≤ durable) × IsPageText g.version (left (page_number g id)) id number images)

  -- what the pool says of frames
  pub may_be : AreInOrder at g → (left : ℕ → List ℕ) → pages.MayBeLeft at durable disk left → MayBe left
  may_be order left may id has = elim (may (page_number g id)) [
    | inl same ↦ inl same
    | inr written ↦ inr (each (at (page_number g id)) (λ f is. order (page_number g id) f is) written)
  ]
    where
      each : (o : Option Frame) → ((f : Frame) → o ≡ Some f → HasPage g f.page.id × (page_number g f.page.id ≡ page_number g id) × (f.page.version ≡ g.version)) → IsSomeAnd o (λ f. (f.page.number ≤ durable) × IsTextOf f (left (page_number g id)))
          → (number : ℕ) × (images : List Image) × IsPage g.version o (disk (page_number g id)) id number images × (number ≤ durable) × IsPageText g.version (left (page_number g id)) id number images
      each None its is = absurd is
      each (Some f) its is =
          let one : f.page.id ≡ id = one_page g f.page.id id (its f refl).0 has (its f refl).1 in (
            f.page.number,
            images_of f.page.slots,
            (one, refl, refl),
            is.0,
            subst (λ (p : PageId). IsPageText g.version (left (page_number g id)) p f.page.number (images_of f.page.slots)) one
                (subst (λ (v : Version). IsPageText v (left (page_number g id)) f.page.id f.page.number (images_of f.page.slots)) (its f refl).2 is.1),
          )

  pub may_then : (mid : ℕ → Option Frame) (between left : ℕ → List ℕ) → MayBe between → SamePages g.version at disk mid between
      → ((id : PageId) → HasPage g id → (left (page_number g id) ≡ between (page_number g id)) ⊎ ((number : ℕ) × (images : List Image) × IsPage g.version (mid (page_number g id)) (between (page_number g id)) id number images × (number ≤ durable) × IsPageText g.version (left (page_number g id)) id number images))
      → MayBe left
  may_then mid between left one same two id has = elim (two id has) [
    | inl stays ↦ elim (one id has) [
      | inl old ↦ inl (stays ∙ old)
      | inr w ↦ inr (w.0, w.1, w.2, w.3, subst (λ (text : List ℕ). IsPageText g.version text id w.0 w.1) (sym stays) w.4)
    ]
    | inr w ↦ inr (w.0, w.1, (same (page_number g id) id w.0 w.1).1 w.2, w.3, w.4)
  ]

  -- a text that is refused for its number was there before
  pub none_there : (left : ℕ → List ℕ) (id : PageId) (last : ℕ) → HasPage g id → durable ≤ last → MayBe left → HasNoPage g.version (left (page_number g id)) id last → HasNoPage g.version (disk (page_number g id)) id last
  none_there left id last has up_to may none = elim (may id has) [
    | inl same ↦ subst (λ (text : List ℕ). HasNoPage g.version text id last) same none
    | inr w ↦ let above = none w.0 w.1 w.4 in absurd (omega (arith, above, w.3, up_to))
  ]

-- ---- one call

pub ok_same : {T : Type 0} (x : T) (old new : ℕ) → HasCause (Ok x) old new → new ≡ old
ok_same x old new cause = cause.unreported (λ is. let clash : Ok x ≡ Err Fault.Device = is in cc)

pub ok_cause : {T : Type 0} (x : T) (old new : ℕ) → new ≡ old → HasCause (Ok x) old new
ok_cause x old new same = record {
  no_lower = omega (arith, same);
  reported = λ is. let clash : Ok x ≡ Err Fault.Device = is in absurd cc;
  unreported = λ other. same;
}

module _ {D : Type 0} {G : Ghosts D} (K : ClaimsOfPages) (durable : ℕ) where
  -- what some calls have left that answered Ok
  abbrev pub Goes : Heap D G → Heap D G → Type 0
  Goes old new = ReadsPages {T = Unit {0}} K old new durable (Ok tt)

  -- nothing was called
  pub goes_nowhere : (heap : Heap D G) → Goes heap heap
  goes_nowhere heap = record {
    kept = λ front disk S shows are. (disk, shows, record { may = λ id has. inl refl; same = pages_stay (geometry_of heap).version (frame_at heap) (frame_at heap) disk (λ k. refl); unwritten = λ k f is dirty. (is, refl) });
    wrote = λ front disk holds. (disk, holds, record { may = λ id has. inl refl; same = pages_stay (geometry_of heap).version (frame_at heap) (frame_at heap) disk (λ k. refl); unwritten = λ k f is dirty. (is, refl) });
    any_moment = λ front disk holds.
        let s = is_shown heap.pool.device front disk (pools.batch_of heap.pool) (pools.batch_texts_of heap.pool) heap.pool.amid holds.settled in
        stands_still (history_of heap) s.image (LeavesPages heap durable front disk) s.stands (disk, s.shows, λ id has. inl refl);
    dirty = λ front disk holds k f is dirty. is;
    forced = λ front disk holds number needs. needs;
    honest = refl;
    size = refl;
    geometry = refl;
    limit = refl;
    cause = ok_cause tt (faults_of heap) (faults_of heap) refl;
  }

  -- another value is answered
  pub answers : {T U : Type 0} (x : T) (y : U) (old new : Heap D G) → ReadsPages K old new durable (Ok x) → ReadsPages K old new durable (Ok y)
  answers x y old new one = record {
    kept = one.kept;
    wrote = one.wrote;
    any_moment = one.any_moment;
    dirty = one.dirty;
    forced = one.forced;
    honest = one.honest;
    size = one.size;
    geometry = one.geometry;
    limit = one.limit;
    cause = ok_cause y (faults_of old) (faults_of new) (ok_same x (faults_of old) (faults_of new) one.cause);
  }

  -- .. or an allocation fails behind it
  pub lacks_memory : {T U : Type 0} (x : T) (old new : Heap D G) (r : Result U Fault) → IsErrAnd r (λ e. e ≡ Fault.Memory) → ReadsPages K old new durable (Ok x) → ReadsPages K old new durable r
  lacks_memory x old new (Ok y) is one = absurd is
  lacks_memory x old new (Err e) is one = record {
    kept = λ front disk S shows are. inr (one.kept front disk S shows are);
    wrote = λ front disk holds. inr (one.wrote front disk holds);
    any_moment = one.any_moment;
    dirty = one.dirty;
    forced = λ front disk holds. tt;
    honest = one.honest;
    size = one.size;
    geometry = one.geometry;
    limit = one.limit;
    cause = record {
      no_lower = one.cause.no_lower;
      reported = λ fails. let clash : Err Fault.Memory ≡ Err Fault.Device = ap Err (sym is) ∙ fails in absurd cc;
      unreported = λ other. ok_same x (faults_of old) (faults_of new) one.cause;
    };
  }

  -- an error is handed on
  module _ {T U : Type 0} (old new : Heap D G) where
    its_cause : (e : Fault) (before after : ℕ) → HasCause {T = T} (Err e) before after → HasCause {T = U} (Err e) before after
    its_cause e before after cause = record {
      no_lower = cause.no_lower;
      reported = λ fails. let same : e ≡ Fault.Device = cc in cause.reported (ap Err same);
      unreported = λ other. cause.unreported (λ fails. let same : e ≡ Fault.Device = cc in other (ap Err same));
    }

    pub hands_on : (r : Result U Fault) (it : Fault) → IsErrAnd r (λ e. e ≡ it) → ReadsPages {T = T} K old new durable (Err it) → ReadsPages K old new durable r
    hands_on (Ok y) it is one = absurd is
    hands_on (Err e) it is one =
        let its : ReadsPages {T = T} K old new durable (Err e) = subst (λ (f : Fault). ReadsPages {T = T} K old new durable (Err f)) (sym is) one in
        record {
          kept = its.kept;
          wrote = its.wrote;
          any_moment = its.any_moment;
          dirty = its.dirty;
          forced = λ front disk holds. tt;
          honest = its.honest;
          size = its.size;
          geometry = its.geometry;
          limit = its.limit;
          cause = its_cause e (faults_of old) (faults_of new) its.cause;
        }

  -- the same pool, of which the maps have learned
  module _ {T : Type 0} (x : T) (old mid new : Heap D G) (same : new.pool ≡ mid.pool) where
    stay_on : (disk left : ℕ → List ℕ) → StayInPlace old mid durable disk left → StayInPlace old new durable disk left
    stay_on disk left stay = record { may = stay.may; same = subst (λ (p : Pool D G). SamePages (geometry_of old).version (frame_at old) disk (pools.frame_at p) left) (sym same) stay.same; unwritten = subst (λ (p : Pool D G). StayUnwritten (frame_at old) disk (pools.frame_at p) left) (sym same) stay.unwritten }

    pub learns : {U : Type 0} (y : U) → ReadsPages K old mid durable (Ok x)
        → ((front : List ℕ) (disk : ℕ → List ℕ) (S : PageId → List Slot) → Shows K mid front disk S → AreBounds (geometry_of mid) new.free.items S) → ReadsPages K old new durable (Ok y)
    learns y one bounds = record {
      kept = λ front disk S shows are.
          let kept = one.kept front disk S shows are in
          (kept.0, shows_by mid.pool new (geometry_of mid) K front kept.0 S same refl kept.1.holds kept.1.pages (bounds front kept.0 S kept.1), stay_on disk kept.0 kept.2);
      wrote = λ front disk holds. let w = one.wrote front disk holds in (w.0, subst (λ (p : Pool D G). PoolHolds p front w.0) (sym same) w.1, stay_on disk w.0 w.2);
      any_moment = λ front disk holds. subst (λ (h : DeviceHistory). LeavesOnly (history_of old) h (LeavesPages old durable front disk)) (sym (ap pools.history_of same)) (one.any_moment front disk holds);
      dirty = λ front disk holds k f is. one.dirty front disk holds k f (subst (λ (p : Pool D G). pools.frame_at p k ≡ Some f) same is);
      forced = λ front disk holds number needs. one.forced front disk holds number (subst (λ (p : Pool D G). NeedsForce p durable number) same needs);
      honest = ap pools.honesty_of same ∙ one.honest;
      size = ap (λ (p : Pool D G). size (pools.history_of p)) same ∙ one.size;
      geometry = ap pools.geometry_of same ∙ one.geometry;
      limit = ap pools.limit_of same ∙ one.limit;
      cause = ok_cause y (faults_of old) (faults_of new) (ap pools.faults_of same ∙ ok_same x (faults_of old) (faults_of mid) one.cause);
    }

  -- ---- one after another

  module _ {T : Type 0} (x : T) (old mid new : Heap D G) (one : ReadsPages K old mid durable (Ok x)) where
    kept_mid : (S : PageId → List Slot) → AreKept (geometry_of old) K S → AreKept (geometry_of mid) K S
    kept_mid S are = subst (λ (g : Geometry). AreKept g K S) (sym one.geometry) are

    -- the slots that are shown
    pub shown_mid : (front : List ℕ) (disk : ℕ → List ℕ) (S : PageId → List Slot) → Shows K old front disk S → AreKept (geometry_of old) K S
        → (left : ℕ → List ℕ) × Shows K mid front left S × AreKept (geometry_of mid) K S
    shown_mid front disk S shows are = let kept = one.kept front disk S shows are in (kept.0, kept.1, kept_mid S are)

    may_mid : (between left : ℕ → List ℕ) → MayBeLeft mid durable between left → MayBe (geometry_of old) (frame_at mid) durable between left
    may_mid between left may = subst (λ (g : Geometry). MayBe g (frame_at mid) durable between left) one.geometry may

    stay_then : (disk between left : ℕ → List ℕ) → StayInPlace old mid durable disk between → StayInPlace mid new durable between left → StayInPlace old new durable disk left
    stay_then disk between left first second = record {
      may = may_then (geometry_of old) (frame_at old) durable disk (frame_at mid) between left first.may first.same (may_mid between left second.may);
      same = pages_on (geometry_of old).version (frame_at old) (frame_at mid) (frame_at new) disk between left first.same
          (subst (λ (g : Geometry). SamePages g.version (frame_at mid) between (frame_at new) left) one.geometry second.same);
      unwritten = unwritten_on (frame_at old) (frame_at mid) (frame_at new) disk between left first.unwritten second.unwritten;
    }

    kept_then : {U : Type 0} (r : Result U Fault) (front : List ℕ) (disk : ℕ → List ℕ) (S : PageId → List Slot) (first : KeepsSlots K old mid durable front disk S)
        → MatchResult r (λ _. KeepsSlots K mid new durable front first.0 S) (λ it. (it ≡ Fault.Device) ⊎ KeepsSlots K mid new durable front first.0 S)
        → MatchResult r (λ _. KeepsSlots K old new durable front disk S) (λ it. (it ≡ Fault.Device) ⊎ KeepsSlots K old new durable front disk S)
    kept_then (Ok y) front disk S first two = (two.0, two.1, stay_then disk first.0 two.0 first.2 two.2)
    kept_then (Err e) front disk S first (inl device) = inl device
    kept_then (Err e) front disk S first (inr two) = inr (two.0, two.1, stay_then disk first.0 two.0 first.2 two.2)

    wrote_then : {U : Type 0} (r : Result U Fault) (front : List ℕ) (disk : ℕ → List ℕ) (first : WroteBack old mid durable front disk)
        → MatchResult r (λ _. WroteBack mid new durable front first.0) (λ it. (it ≡ Fault.Device) ⊎ WroteBack mid new durable front first.0)
        → MatchResult r (λ _. WroteBack old new durable front disk) (λ it. (it ≡ Fault.Device) ⊎ WroteBack old new durable front disk)
    wrote_then (Ok y) front disk first two = (two.0, two.1, stay_then disk first.0 two.0 first.2 two.2)
    wrote_then (Err e) front disk first (inl device) = inl device
    wrote_then (Err e) front disk first (inr two) = inr (two.0, two.1, stay_then disk first.0 two.0 first.2 two.2)

    moment_then : ((front : List ℕ) (disk : ℕ → List ℕ) → PoolHolds mid.pool front disk → LeavesOnly (history_of mid) (history_of new) (LeavesPages mid durable front disk))
        → (front : List ℕ) (disk : ℕ → List ℕ) → PoolHolds old.pool front disk → LeavesOnly (history_of old) (history_of new) (LeavesPages old durable front disk)
    moment_then two front disk holds =
        let first = one.wrote front disk holds in
        joined (history_of old) (history_of mid) (history_of new) (LeavesPages old durable front disk) (one.any_moment front disk holds)
        (widened (history_of mid) (history_of new) (LeavesPages mid durable front first.0) (LeavesPages old durable front disk) (two front first.0 first.1) (λ image leaves. (
          leaves.0,
          subst (λ (g : Geometry). ShowsBehind g front leaves.0 image) one.geometry leaves.1,
          may_then (geometry_of old) (frame_at old) durable disk (frame_at mid) first.0 leaves.0 first.2.may first.2.same (may_mid first.0 leaves.0 leaves.2),
        )))

    on_ok : {U : Type 0} (A B : Type 0) (r : Result U Fault) → (A → B) → OnOk r A → OnOk r B
    on_ok A B (Ok y) to a = to a
    on_ok A B (Err e) to a = tt

    pub reads_then : {U : Type 0} (r : Result U Fault) → ReadsPages K mid new durable r → ReadsPages K old new durable r
    reads_then r two = record {
      kept = λ front disk S shows are. let first = one.kept front disk S shows are in kept_then r front disk S first (two.kept front first.0 S first.1 (kept_mid S are));
      wrote = λ front disk holds. let first = one.wrote front disk holds in wrote_then r front disk first (two.wrote front first.0 first.1);
      any_moment = moment_then two.any_moment;
      dirty = λ front disk holds k f is dirty. let first = one.wrote front disk holds in one.dirty front disk holds k f (two.dirty front first.0 first.1 k f is dirty) dirty;
      forced = λ front disk holds.
          let first = one.wrote front disk holds in
          on_ok ((number : ℕ) → NeedsForce new.pool durable number → NeedsForce mid.pool durable number) ((number : ℕ) → NeedsForce new.pool durable number → NeedsForce old.pool durable number) r
          (λ before number needs. one.forced front disk holds number (before number needs)) (two.forced front first.0 first.1);
      honest = two.honest ∙ one.honest;
      size = two.size ∙ one.size;
      geometry = two.geometry ∙ one.geometry;
      limit = two.limit ∙ one.limit;
      cause = subst (λ (n : ℕ). HasCause r n (faults_of new)) (ok_same x (faults_of old) (faults_of mid) one.cause) two.cause;
    }

    damaged_then : (it : Fault) (disk left : ℕ → List ℕ) (id : PageId) (last : ℕ) → (HasNoPage (geometry_of old).version (left (page_number (geometry_of old) id)) id last → HasNoPage (geometry_of old).version (disk (page_number (geometry_of old) id)) id last)
        → (it ≡ Fault.Damaged Device.Volume (page_offset (geometry_of mid).version (page_number (geometry_of mid) id))) × HasNoPage (geometry_of mid).version (left (page_number (geometry_of mid) id)) id last
        → (it ≡ Fault.Damaged Device.Volume (page_offset (geometry_of old).version (page_number (geometry_of old) id))) × HasNoPage (geometry_of old).version (disk (page_number (geometry_of old) id)) id last
    damaged_then it disk left id last there damaged =
        let at = subst (λ (g : Geometry). (it ≡ Fault.Damaged Device.Volume (page_offset g.version (page_number g id))) × HasNoPage g.version (left (page_number g id)) id last) one.geometry damaged in
        (at.0, there at.1)

    -- a page is refused
    pub refused_then : (it : Fault) (id : PageId) (last : ℕ) (IsFetched : PageId → Type 0) → IsFetched id → HasPage (geometry_of old) id → durable ≤ last → (front : List ℕ) (disk : ℕ → List ℕ) (holds : PoolHolds old.pool front disk)
        → RefusesPage mid (one.wrote front disk holds).0 id (record { last = last; durable = durable }) it → IsRefusedAmong (geometry_of old) disk IsFetched last it ⊎ AsksForForce old durable it
    refused_then it id last IsFetched fetched has up_to front disk holds (inl device) = inl (inl device)
    refused_then it id last IsFetched fetched has up_to front disk holds (inr (inl memory)) = inl (inr (inl memory))
    refused_then it id last IsFetched fetched has up_to front disk holds (inr (inr (inl damaged))) =
        let first = one.wrote front disk holds in
        let at = damaged_then it disk first.0 id last (none_there (geometry_of old) (frame_at old) durable disk first.0 id last has up_to first.2.may) damaged in
        inl (inr (inr (id, has, fetched, at.0, at.1)))
    refused_then it id last IsFetched fetched has up_to front disk holds (inr (inr (inr force))) = inr (force.0, force.1, one.forced front disk holds force.0 force.2)
