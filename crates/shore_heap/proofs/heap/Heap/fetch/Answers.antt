use Rattle.std.proofs.Common.{◌≡◌, Option, inl, inr, refl, sym, ap, subst, ◌∙◌, List, Some}
use Rattle.std.specs.Prelude.{IsSomeAnd}
use Rattle.shore_types.specs.declared.layout.Geometry.{Geometry}
use Rattle.shore_pool.specs.declared.frame.Frame.{Frame}
use Rattle.shore_disk.specs.Device.{DeviceHistory, LeavesOnly, size}
use Rattle.std.proofs.lemmas.Bool.{cases_eq}
use Rattle.shore_dwrite.proofs.Moves.{if_err}
use Rattle.shore_pool.specs.Pools as pools
use Rattle.shore_pool.proofs.Same.{pages_stay}
use Rattle.shore_pool.proofs.Steps.{alike, force_from}
use Rattle.shore_heap.specs.Heaps.{IsFreshFrame, LeavesPages, claims_in, faults_of, frame_at, geometry_of, history_of, frame_of}
use Rattle.shore_heap.proofs.Fetched.{as_read, came_by, clean_by, dirty_of, faults_by, forced_of, geometry_by, history_by, honest_by, kept_of, moment_of, number_is, others_by, there_before, was_there, were_kept, wrote_of}
use Rattle.shore_dwrite.specs.Volumes.{page_number}
use Rattle.shore_heap.proofs.Going.{hands_on, ok_cause, ok_same}
use Rattle.shore_heap.specs.Contents.{FitIn, KeepWhatFits, claimed_frame, with_page_slots}
use Rattle.shore_page.specs.Slots.{Slot}
use Rattle.shore_pool.specs.Pages.{SamePages}
use Rattle.shore_heap.proofs.heap.Heap.fetch.Goals as goal

pub returns-in_err-fetch-clause-reads : goal.returns-in_err-fetch-clause-reads
returns-in_err-fetch-clause-reads g c =
    let old = c.args.self.now in
    let mid = c.fetch.new.self in
    let K = claims_in g.C.Claims c.args.claims.now in
    hands_on K c.args.ends.now.durable old _ c.from_residual.result _ c.from_residual.ensures.1 (record {
      kept = λ front disk S shows are. elim (c.in_err-fetch.ensures.kept front disk shows.holds) [
        | inl device ↦ inl device
        | inr w ↦ inr (kept_of old mid c.args.ends.now.durable c.args.page K c.args.ends.now.last c.requires _ c.fetch.ensures.geometry refl (λ k apart. c.in_err-fetch.ensures.stay k) (inl (c.in_err-fetch.ensures.stay _)) front disk S shows are w (w.holds, pages_stay (geometry_of c.args.self.now).version _ _ _ (λ k. refl)) (λ k f is dirty. is))
      ];
      wrote = λ front disk holds. elim (c.in_err-fetch.ensures.kept front disk holds) [
        | inl device ↦ inl device
        | inr w ↦ inr (wrote_of old mid c.args.ends.now.durable _ front disk w (w.holds, pages_stay (geometry_of c.args.self.now).version _ _ _ (λ k. refl)) (λ k f is dirty. is))
      ];
      any_moment = λ front disk holds. moment_of old mid c.args.ends.now.durable _ front disk (c.fetch.ensures.any_moment front disk holds);
      dirty = λ front disk holds k f is dirty. there_before _ _ f (c.in_err-fetch.ensures.stay k) is dirty;
      forced = λ front disk holds. tt;
      honest = c.fetch.ensures.honest;
      size = c.fetch.ensures.size;
      geometry = c.fetch.ensures.geometry;
      limit = c.fetch.ensures.limit;
      cause = c.in_err-fetch.ensures.cause;
    })

pub returns-in_err-fetch-clause-refused : goal.returns-in_err-fetch-clause-refused
returns-in_err-fetch-clause-refused g c front disk holds =
    if_err c.from_residual.result c.from_residual.ensures.1 (λ fault is. elim (c.in_err-fetch.ensures.refused front disk holds) [
      | inl device ↦ inl (is ∙ device)
      | inr other ↦ elim other [
        | inl memory ↦ inr (inl (is ∙ memory))
        | inr last ↦ elim last [
          | inl damaged ↦ inr (inr (inl (is ∙ damaged.0, damaged.1)))
          | inr force ↦ inr (inr (inr (force.0, is ∙ force.1, force.2)))
        ]
      ]
    ])

pub returns-in_err-fetch-clause-unmoved : goal.returns-in_err-fetch-clause-unmoved
returns-in_err-fetch-clause-unmoved g c front disk holds = if_err c.from_residual.result c.from_residual.ensures.1 (λ fault is number forced. c.in_err-fetch.ensures.unmoved front disk holds number (sym is ∙ forced))

pub returns-in-Held-clause-reads : goal.returns-in-Held-clause-reads
returns-in-Held-clause-reads g c =
    let old = c.args.self.now in
    let mid = c.fetch.new.self in
    let K = claims_in g.C.Claims c.args.claims.now in
    let all = c.in_ok-fetch.ensures.all c.in-Held.is in
    record {
      kept = λ front disk S shows are.
          let w = c.in_ok-fetch.ensures.kept front disk shows.holds in
          kept_of old mid c.args.ends.now.durable c.args.page K c.args.ends.now.last c.requires _ c.fetch.ensures.geometry refl (λ k apart. inl (all k)) (inl (inl (all _))) front disk S shows are w (w.holds, pages_stay (geometry_of c.args.self.now).version _ _ _ (λ k. refl)) (λ k f is dirty. is);
      wrote = λ front disk holds.
          let w = c.in_ok-fetch.ensures.kept front disk holds in
          wrote_of old mid c.args.ends.now.durable _ front disk w (w.holds, pages_stay (geometry_of c.args.self.now).version _ _ _ (λ k. refl)) (λ k f is dirty. is);
      any_moment = λ front disk holds. moment_of old mid c.args.ends.now.durable _ front disk (c.fetch.ensures.any_moment front disk holds);
      dirty = λ front disk holds k f is dirty. there_before _ _ f (inl (all k)) is dirty;
      forced = λ front disk holds number needs. force_from old.pool mid (alike (pools.frame_at old.pool) (pools.frame_at mid) all) c.args.ends.now.durable number needs;
      honest = c.fetch.ensures.honest;
      size = c.fetch.ensures.size;
      geometry = c.fetch.ensures.geometry;
      limit = c.fetch.ensures.limit;
      cause = ok_cause _ (faults_of old) (pools.faults_of mid) (ok_same _ (faults_of old) (pools.faults_of mid) c.in_ok-fetch.ensures.cause);
    }

pub returns-in-Read-clause-reads : goal.returns-in-Read-clause-reads
returns-in-Read-clause-reads g c =
    let old = c.args.self.now in
    let mid = c.fetch.new.self in
    let new = c.keep_claims.new.self in
    let id = c.args.page in
    let K = claims_in g.C.Claims c.args.claims.now in
    let device = c.keep_claims.ensures.device in
    let geometry = geometry_by new mid device ∙ c.fetch.ensures.geometry in
    let number = number_is mid id c.fetch.ensures.geometry in
    let others = others_by old mid new id number c.fetch.ensures.others c.keep_claims.ensures.others in
    record {
      kept = λ front disk S shows are.
          let w = c.in_ok-fetch.ensures.kept front disk shows.holds in
          let read = c.in_ok-fetch.ensures.read front disk shows.holds c.in-Read.is in
          let come = came_by (geometry_of c.args.self.now).version old mid new id K c.args.ends.now.last number read
          (subst (λ (it : Geometry). (f : Frame) → pools.frame_of mid id ≡ Some f → FitIn it.version (K id) f.page.slots → frame_of new id ≡ Some (claimed_frame (K id) f)) c.fetch.ensures.geometry c.keep_claims.ensures.here) (geometry_by new mid device) in
          let were = were_kept (geometry_of c.args.self.now).version old mid new id number c.keep_claims.ensures.others (clean_by (geometry_of c.args.self.now).version old mid id c.args.ends.now.last number read) (c.keep_claims.ensures.dirt _) in
          kept_of old mid c.args.ends.now.durable id K c.args.ends.now.last c.requires new geometry c.keep_claims.ensures.bounds others (inr come) front disk S shows are w
          (let more = c.keep_claims.ensures.kept front w.left w.holds in (more.0, subst (λ (it : Geometry). SamePages it.version (pools.frame_at mid) w.left (frame_at new) w.left) c.fetch.ensures.geometry more.1)) were;
      wrote = λ front disk holds.
          let w = c.in_ok-fetch.ensures.kept front disk holds in
          let read = c.in_ok-fetch.ensures.read front disk holds c.in-Read.is in
          let were = were_kept (geometry_of c.args.self.now).version old mid new id number c.keep_claims.ensures.others (clean_by (geometry_of c.args.self.now).version old mid id c.args.ends.now.last number read) (c.keep_claims.ensures.dirt _) in
          wrote_of old mid c.args.ends.now.durable new front disk w
          (let more = c.keep_claims.ensures.kept front w.left w.holds in (more.0, subst (λ (it : Geometry). SamePages it.version (pools.frame_at mid) w.left (frame_at new) w.left) c.fetch.ensures.geometry more.1)) were;
      any_moment = λ front disk holds. subst (λ (h : DeviceHistory). LeavesOnly (history_of old) h (LeavesPages old c.args.ends.now.durable front disk)) (sym (history_by new mid device))
          (moment_of old mid c.args.ends.now.durable (pools.history_of mid) front disk (c.fetch.ensures.any_moment front disk holds));
      dirty = λ front disk holds.
          let read = c.in_ok-fetch.ensures.read front disk holds c.in-Read.is in
          let clean = clean_by (geometry_of c.args.self.now).version old mid id c.args.ends.now.last number read in
          dirty_of old mid c.args.ends.now.durable id K c.args.ends.now.last c.requires new geometry c.keep_claims.ensures.bounds others clean (c.keep_claims.ensures.dirt _);
      forced = λ front disk holds number needs.
          let read = c.in_ok-fetch.ensures.read front disk holds c.in-Read.is in
          let clean = clean_by (geometry_of c.args.self.now).version old mid id c.args.ends.now.last (number_is mid id c.fetch.ensures.geometry) read in
          absurd (forced_of old mid c.args.ends.now.durable id K c.args.ends.now.last c.requires new geometry c.keep_claims.ensures.bounds clean (c.keep_claims.ensures.dirt _) number needs);
      honest = honest_by new mid device ∙ c.fetch.ensures.honest;
      size = ap size (history_by new mid device) ∙ c.fetch.ensures.size;
      geometry = geometry;
      limit = c.keep_claims.ensures.limit ∙ c.fetch.ensures.limit;
      cause = ok_cause _ (faults_of old) (faults_of new) (faults_by new mid device ∙ ok_same _ (faults_of old) (pools.faults_of mid) c.in_ok-fetch.ensures.cause);
    }

pub returns-in_err-fetch-clause-framed : goal.returns-in_err-fetch-clause-framed
returns-in_err-fetch-clause-framed g c front disk holds k f is = inl (was_there _ _ f (c.in_err-fetch.ensures.stay k) is)

pub returns-in-Held-clause-framed : goal.returns-in-Held-clause-framed
returns-in-Held-clause-framed g c front disk holds k f is = inl (was_there _ _ f (inl (c.in_ok-fetch.ensures.all c.in-Held.is k)) is)

pub returns-in-Read-clause-framed : goal.returns-in-Read-clause-framed
returns-in-Read-clause-framed g c front disk holds k f is =
    let old = c.args.self.now in
    let mid = c.fetch.new.self in
    let new = c.keep_claims.new.self in
    let id = c.args.page in
    let number = number_is mid id c.fetch.ensures.geometry in
    let geometry : geometry_of new ≡ geometry_of old = geometry_by new mid c.keep_claims.ensures.device ∙ c.fetch.ensures.geometry in
    let read = c.in_ok-fetch.ensures.read front disk holds c.in-Read.is in
    elim (cases_eq k (page_number (geometry_of old) id)) [
      | inl same ↦ inr (
        same,
        ap (frame_at old) same ∙ read.0,
        subst (λ (o : Option Frame). IsSomeAnd o (IsFreshFrame (claims_in g.C.Claims c.args.claims.now id) c.args.ends.now.last))
            (ap (λ (x : Geometry). frame_at new (page_number x id)) geometry ∙ ap (frame_at new) (sym same) ∙ is)
            (as_read (geometry_of c.args.self.now).version id c.args.ends.now.last (claims_in g.C.Claims c.args.claims.now id) _ _ read.1
            (subst (λ (it : Geometry). (f : Frame) → pools.frame_of mid id ≡ Some f → (slots : List Slot) × KeepWhatFits it.version (claims_in g.C.Claims c.args.claims.now id) f.page.slots slots × (frame_of new id ≡ Some (with_page_slots slots f)))
            c.fetch.ensures.geometry c.keep_claims.ensures.fitting)),
      )
      | inr apart ↦ inl (was_there _ _ f (others_by old mid new id number c.fetch.ensures.others c.keep_claims.ensures.others k apart) is)
    ]
