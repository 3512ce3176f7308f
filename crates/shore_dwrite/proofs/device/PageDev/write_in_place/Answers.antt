use Rattle.std.proofs.Common.{◌≡◌, ◌+◌, ◌*◌, ◌<◌, ℕ, List, All, IsTrue, OnOk, length, refl, sym, ap, subst, ◌∙◌}
use Rattle.std.proofs.lemmas.Option.{slice_get-get_or}
use Rattle.shore_types.specs.declared.versions.Version.{Version}
use Rattle.shore_types.specs.Versions.{page_bytes, pages_begin}
use Rattle.shore_disk.specs.Device.{LeavesOnly, Stands}
use Rattle.shore_dwrite.specs.Differences.{DiffersInPages, HasPages}
use Rattle.shore_dwrite.specs.Shown.{RiseFrom}
use Rattle.shore_dwrite.specs.Volumes.{page_count}
use Rattle.shore_dwrite.proofs.InPlace.{wrote_none, wrote_torn, wrote_more, wrote_and_synced, page_fits, text_is, length-text}
use Rattle.shore_dwrite.proofs.Moves.{sync_more}
use Rattle.shore_dwrite.proofs.SyncLemmas.{failed_before, sync_once, write_none}
use Rattle.shore_dwrite.proofs.device.PageDev.write_in_place.Goals as goal

pub loop-i-init : goal.loop-i-init
loop-i-init g c = record {
  honest = refl;
  size = refl;
  faults = refl;
  geometry = refl;
  none = λ honest. refl;
  wrote = λ honest base stands. wrote_none c.args.self.now.geometry.version _ _ _ base stands;
}

pub returns-in_err-write_at-clause-any_moment : goal.returns-in_err-write_at-clause-any_moment
returns-in_err-write_at-clause-any_moment g c base honest stands =
    let numbers = c.numbers-numbers.result.now in
    let is : numbers ≡ c.args.images.now.numbers.items = c.numbers-numbers.ensures in
    let i = c.loop-i.i in
    let on_volume : All (λ k. k < page_count c.args.self.now.geometry) numbers = subst (All (λ k. k < page_count c.args.self.now.geometry)) (sym is) c.requires.numbers.on_volume in
    let long : length base ≡ pages_begin c.args.self.now.geometry.version + page_bytes c.args.self.now.geometry.version * page_count c.args.self.now.geometry = sym (ap length stands.read) ∙ g.met.D.Disk.keeps_length c.args.self.now.device honest ∙ c.args.self.now.as_long in
    let fits = page_fits c.args.self.now.geometry.version numbers base i (page_count c.args.self.now.geometry) c.loop-i-test.true on_volume long in
    let texts_long : length c.bytes-bytes.result.now ≡ page_bytes c.args.self.now.geometry.version * length numbers = c.bytes-bytes.ensures.len ∙ ap (λ (v : Version). page_bytes v * length c.args.images.now.numbers.items) c.requires.version ∙ ap (λ (l : List ℕ). page_bytes c.args.self.now.geometry.version * length l) (sym is) in
    subst (λ (l : List ℕ). LeavesOnly (g.D.Disk.history c.args.self.now.device) (g.D.Disk.history c.write_at.new.self) (DiffersInPages c.args.self.now.geometry.version l base)) is
    (wrote_torn c.args.self.now.geometry.version _ _ _ _ _ base _ i _ _ _ (c.loop-i.invariant.wrote honest base stands) (slice_get-get_or _ i 0 c.loop-i-test.true) fits (length-text c.args.self.now.geometry.version _ c.page_bytes-size.ensures.is _ i (length numbers) texts_long c.loop-i-test.true) c.page_offset.ensures
    (c.write_at.ensures.written (subst IsTrue (sym c.loop-i.invariant.honest) honest)))

pub loop-i-preserved : goal.loop-i-preserved
loop-i-preserved g c = record {
  honest = c.write_at.ensures.honest ∙ c.loop-i.invariant.honest;
  size = c.write_at.ensures.size ∙ c.loop-i.invariant.size;
  faults = c.in_ok-write_at.ensures.cause ∙ c.loop-i.invariant.faults;
  geometry = c.loop-i.invariant.geometry;
  none = λ honest. write_none _ _ c.write_at.result (g.D.Disk.history c.loop-i.self.device) (g.D.Disk.history c.write_at.new.self) (c.write_at.ensures.written (subst IsTrue (sym c.loop-i.invariant.honest) honest)) ∙ c.loop-i.invariant.none honest;
  wrote = λ honest base stands.
      let numbers = c.numbers-numbers.result.now in
      let is : numbers ≡ c.args.images.now.numbers.items = c.numbers-numbers.ensures in
      let i = c.loop-i.i in
      let rise : RiseFrom 0 numbers = subst (RiseFrom 0) (sym is) c.requires.numbers.rise in
      let on_volume : All (λ k. k < page_count c.args.self.now.geometry) numbers = subst (All (λ k. k < page_count c.args.self.now.geometry)) (sym is) c.requires.numbers.on_volume in
      let long : length base ≡ pages_begin c.args.self.now.geometry.version + page_bytes c.args.self.now.geometry.version * page_count c.args.self.now.geometry = sym (ap length stands.read) ∙ g.met.D.Disk.keeps_length c.args.self.now.device honest ∙ c.args.self.now.as_long in
      let texts_long : length c.bytes-bytes.result.now ≡ page_bytes c.args.self.now.geometry.version * length numbers = c.bytes-bytes.ensures.len ∙ ap (λ (v : Version). page_bytes v * length c.args.images.now.numbers.items) c.requires.version ∙ ap (λ (l : List ℕ). page_bytes c.args.self.now.geometry.version * length l) (sym is) in
      wrote_more c.args.self.now.geometry.version _ _ _ _ _ base _ i _ _ (c.loop-i.invariant.wrote honest base stands) (slice_get-get_or _ i 0 c.loop-i-test.true) rise
      (page_fits c.args.self.now.geometry.version numbers base i (page_count c.args.self.now.geometry) c.loop-i-test.true on_volume long) (length-text c.args.self.now.geometry.version _ c.page_bytes-size.ensures.is _ i (length numbers) texts_long c.loop-i-test.true) (text_is c.args.self.now.geometry.version _ c.page_bytes-size.ensures.is _ i)
      c.page_offset.ensures (c.in_ok-write_at.ensures.written (subst IsTrue (sym c.loop-i.invariant.honest) honest));
}

pub returns-clause-done : goal.returns-clause-done
returns-clause-done g c base honest stands =
    let numbers = c.numbers-numbers.result.now in
    let texts = c.bytes-bytes.result.now in
    let syncs = c.sync.ensures.synced (subst IsTrue (sym c.loop-i.invariant.honest) honest) in
    let ns : numbers ≡ c.args.images.now.numbers.items = c.numbers-numbers.ensures in
    let ts : texts ≡ c.args.images.now.bytes.items = c.bytes-bytes.ensures.texts in
    subst (λ (l : List ℕ). OnOk c.sync.result ((image : List ℕ) × Stands (g.D.Disk.history c.sync.new.self) image × HasPages c.args.self.now.geometry.version base image l c.args.images.now.bytes.items)) ns
    (subst (λ (l : List ℕ). OnOk c.sync.result ((image : List ℕ) × Stands (g.D.Disk.history c.sync.new.self) image × HasPages c.args.self.now.geometry.version base image numbers l)) ts
    (wrote_and_synced c.args.self.now.geometry.version _ _ _ numbers texts base c.loop-i.i c.sync.result c.loop-i-test.false (c.loop-i.invariant.wrote honest base stands) syncs))

pub returns-clause-any_moment : goal.returns-clause-any_moment
returns-clause-any_moment g c base honest stands =
    subst (λ (l : List ℕ). LeavesOnly (g.D.Disk.history c.args.self.now.device) (g.D.Disk.history c.sync.new.self) (DiffersInPages c.args.self.now.geometry.version l base)) c.numbers-numbers.ensures
    (sync_more _ _ _ _ c.sync.result (c.loop-i.invariant.wrote honest base stands).moments (c.sync.ensures.synced (subst IsTrue (sym c.loop-i.invariant.honest) honest)))

pub returns-in_err-write_at-clause-syncs : goal.returns-in_err-write_at-clause-syncs
returns-in_err-write_at-clause-syncs g c honest =
    let wrote = g.D.Disk.history c.write_at.new.self in
    failed_before _ c.from_residual.result (g.D.Disk.history c.args.self.now.device) wrote c.from_residual.ensures.1
    (write_none _ _ c.write_at.result (g.D.Disk.history c.loop-i.self.device) wrote (c.write_at.ensures.written (subst IsTrue (sym c.loop-i.invariant.honest) honest)) ∙ c.loop-i.invariant.none honest)

pub returns-clause-syncs : goal.returns-clause-syncs
returns-clause-syncs g c honest = sync_once c.sync.result (g.D.Disk.history c.args.self.now.device) (g.D.Disk.history c.loop-i.self.device) (g.D.Disk.history c.sync.new.self) (c.loop-i.invariant.none honest) (c.sync.ensures.synced (subst IsTrue (sym c.loop-i.invariant.honest) honest))
