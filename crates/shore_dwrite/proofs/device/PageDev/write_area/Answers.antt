use Rattle.std.proofs.Common.{◌≡◌, ◌+◌, ◌*◌, ◌≤◌, ℕ, List, IsTrue, OnOk, length, sym, ap, subst, ◌∙◌, arith}
use Rattle.std.proofs.Math.Nat.{mul-le-mul_left}
use Rattle.shore_types.specs.declared.versions.Version.{Version}
use Rattle.shore_types.specs.Versions.{page_bytes, page_bytes-least, pages_begin, pages_begin-is}
use Rattle.shore_disk.specs.Device.{Stands}
use Rattle.shore_dwrite.specs.Differences.{HasImages}
use Rattle.shore_dwrite.specs.Tables.{IsTable}
use Rattle.shore_dwrite.specs.Volumes.{page_count}
use Rattle.shore_dwrite.proofs.AreaWrites.{moments_none, moments_more, area_written}
use Rattle.shore_dwrite.proofs.Moves.{sync_more}
use Rattle.shore_dwrite.proofs.SyncLemmas.{failed_before, sync_once, write_none}
use Rattle.shore_dwrite.proofs.device.PageDev.write_area.Goals as goal

pub returns-in_err-write_at-clause-any_moment : goal.returns-in_err-write_at-clause-any_moment
returns-in_err-write_at-clause-any_moment g c base honest stands =
    let old = c.args.self.now in
    let long : length base ≡ pages_begin c.args.self.now.geometry.version + page_bytes c.args.self.now.geometry.version * page_count old.geometry = sym (ap length stands.read) ∙ g.met.D.Disk.keeps_length old.device honest ∙ old.as_long in
    let begin : pages_begin c.args.self.now.geometry.version ≡ 8192 + 32 * page_bytes c.args.self.now.geometry.version = pages_begin-is c.args.self.now.geometry.version in
    moments_more c.args.self.now.geometry.version _ base stands (omega arith) _ _ _ _ _ (omega arith) (omega (arith, begin, c.table_of.ensures.whole)) (moments_none c.args.self.now.geometry.version _ base stands (omega arith)) (c.write_at.ensures.written honest)

pub returns-in_err-write_at-2-clause-any_moment : goal.returns-in_err-write_at-2-clause-any_moment
returns-in_err-write_at-2-clause-any_moment g c base honest stands =
    let old = c.args.self.now in
    let long : length base ≡ pages_begin c.args.self.now.geometry.version + page_bytes c.args.self.now.geometry.version * page_count old.geometry = sym (ap length stands.read) ∙ g.met.D.Disk.keeps_length old.device honest ∙ old.as_long in
    let begin : pages_begin c.args.self.now.geometry.version ≡ 8192 + 32 * page_bytes c.args.self.now.geometry.version = pages_begin-is c.args.self.now.geometry.version in
    let len : length c.bytes.result.now ≡ page_bytes c.args.self.now.geometry.version * length c.args.images.now.numbers.items = c.bytes.ensures.len ∙ ap (λ (v : Version). page_bytes v * length c.args.images.now.numbers.items) c.requires.version in
    let most : page_bytes c.args.self.now.geometry.version * length c.args.images.now.numbers.items ≤ page_bytes c.args.self.now.geometry.version * 32 = mul-le-mul_left (page_bytes c.args.self.now.geometry.version) c.requires.batch.most in
    let short : length c.bytes.result.now ≤ 32 * page_bytes c.args.self.now.geometry.version = omega (arith, len, most) in
    moments_more c.args.self.now.geometry.version _ base stands (omega arith) _ _ _ _ c.write_at-2.result (omega arith) (omega (arith, begin, short))
    (moments_more c.args.self.now.geometry.version _ base stands (omega arith) _ _ _ _ c.write_at.result (omega arith) (omega (arith, begin, c.table_of.ensures.whole)) (moments_none c.args.self.now.geometry.version _ base stands (omega arith)) (c.write_at.ensures.written honest))
    (c.write_at-2.ensures.written (subst IsTrue (sym c.write_at.ensures.honest) honest))

pub returns-clause-done : goal.returns-clause-done
returns-clause-done g c base honest stands =
    let old = c.args.self.now in
    let long : length base ≡ pages_begin c.args.self.now.geometry.version + page_bytes c.args.self.now.geometry.version * page_count old.geometry = sym (ap length stands.read) ∙ g.met.D.Disk.keeps_length old.device honest ∙ old.as_long in
    let begin : pages_begin c.args.self.now.geometry.version ≡ 8192 + 32 * page_bytes c.args.self.now.geometry.version = pages_begin-is c.args.self.now.geometry.version in
    let len : length c.bytes.result.now ≡ page_bytes c.args.self.now.geometry.version * length c.args.images.now.numbers.items = c.bytes.ensures.len ∙ ap (λ (v : Version). page_bytes v * length c.args.images.now.numbers.items) c.requires.version in
    let most : page_bytes c.args.self.now.geometry.version * length c.args.images.now.numbers.items ≤ page_bytes c.args.self.now.geometry.version * 32 = mul-le-mul_left (page_bytes c.args.self.now.geometry.version) c.requires.batch.most in
    let short : length c.bytes.result.now ≤ 32 * page_bytes c.args.self.now.geometry.version = omega (arith, len, most) in
    let still : IsTrue (g.D.Disk.is_honest c.write_at.new.self) = subst IsTrue (sym c.write_at.ensures.honest) honest in
    let still_so : IsTrue (g.D.Disk.is_honest c.write_at-2.new.self) = subst IsTrue (sym c.write_at-2.ensures.honest) still in
    let is_table = subst (IsTable c.table_of.result) c.numbers.ensures c.table_of.ensures in
    subst (λ (l : List ℕ). OnOk c.sync.result ((image : List ℕ) × Stands (g.D.Disk.history c.sync.new.self) image × HasImages c.args.self.now.geometry.version base image c.args.images.now.numbers.items l)) c.bytes.ensures.texts
    (area_written c.args.self.now.geometry.version _ base stands (omega arith) _ _ _ c.table_of.result c.args.images.now.numbers.items c.bytes.result.now c.sync.result is_table short
    (c.in_ok-write_at.ensures.written honest) (c.in_ok-write_at-2.ensures.written still) (c.sync.ensures.synced still_so))

pub returns-clause-any_moment : goal.returns-clause-any_moment
returns-clause-any_moment g c base honest stands =
    let old = c.args.self.now in
    let long : length base ≡ pages_begin c.args.self.now.geometry.version + page_bytes c.args.self.now.geometry.version * page_count old.geometry = sym (ap length stands.read) ∙ g.met.D.Disk.keeps_length old.device honest ∙ old.as_long in
    let begin : pages_begin c.args.self.now.geometry.version ≡ 8192 + 32 * page_bytes c.args.self.now.geometry.version = pages_begin-is c.args.self.now.geometry.version in
    let len : length c.bytes.result.now ≡ page_bytes c.args.self.now.geometry.version * length c.args.images.now.numbers.items = c.bytes.ensures.len ∙ ap (λ (v : Version). page_bytes v * length c.args.images.now.numbers.items) c.requires.version in
    let most : page_bytes c.args.self.now.geometry.version * length c.args.images.now.numbers.items ≤ page_bytes c.args.self.now.geometry.version * 32 = mul-le-mul_left (page_bytes c.args.self.now.geometry.version) c.requires.batch.most in
    let short : length c.bytes.result.now ≤ 32 * page_bytes c.args.self.now.geometry.version = omega (arith, len, most) in
    let still : IsTrue (g.D.Disk.is_honest c.write_at.new.self) = subst IsTrue (sym c.write_at.ensures.honest) honest in
    let still_so : IsTrue (g.D.Disk.is_honest c.write_at-2.new.self) = subst IsTrue (sym c.write_at-2.ensures.honest) still in
    sync_more _ _ _ _ c.sync.result
    (moments_more c.args.self.now.geometry.version _ base stands (omega arith) _ _ _ _ c.write_at-2.result (omega arith) (omega (arith, begin, short))
    (moments_more c.args.self.now.geometry.version _ base stands (omega arith) _ _ _ _ c.write_at.result (omega arith) (omega (arith, begin, c.table_of.ensures.whole)) (moments_none c.args.self.now.geometry.version _ base stands (omega arith)) (c.write_at.ensures.written honest))
    (c.write_at-2.ensures.written still))
    (c.sync.ensures.synced still_so)

pub returns-in_err-write_at-clause-syncs : goal.returns-in_err-write_at-clause-syncs
returns-in_err-write_at-clause-syncs g c honest =
    let before = g.D.Disk.history c.args.self.now.device in
    let wrote = g.D.Disk.history c.write_at.new.self in
    failed_before _ c.from_residual.result before wrote c.from_residual.ensures.1 (write_none _ _ c.write_at.result before wrote (c.write_at.ensures.written honest))

pub returns-in_err-write_at-2-clause-syncs : goal.returns-in_err-write_at-2-clause-syncs
returns-in_err-write_at-2-clause-syncs g c honest =
    let still : IsTrue (g.D.Disk.is_honest c.write_at.new.self) = subst IsTrue (sym c.write_at.ensures.honest) honest in
    let before = g.D.Disk.history c.args.self.now.device in
    let wrote = g.D.Disk.history c.write_at.new.self in
    let wrote_both = g.D.Disk.history c.write_at-2.new.self in
    failed_before _ c.from_residual-in_err-write_at-2.result before wrote_both c.from_residual-in_err-write_at-2.ensures.1
    (write_none _ _ c.write_at-2.result wrote wrote_both (c.write_at-2.ensures.written still) ∙ write_none _ _ c.write_at.result before wrote (c.write_at.ensures.written honest))

pub returns-clause-syncs : goal.returns-clause-syncs
returns-clause-syncs g c honest =
    let still : IsTrue (g.D.Disk.is_honest c.write_at.new.self) = subst IsTrue (sym c.write_at.ensures.honest) honest in
    let still_so : IsTrue (g.D.Disk.is_honest c.write_at-2.new.self) = subst IsTrue (sym c.write_at-2.ensures.honest) still in
    let before = g.D.Disk.history c.args.self.now.device in
    let wrote = g.D.Disk.history c.write_at.new.self in
    let wrote_both = g.D.Disk.history c.write_at-2.new.self in
    sync_once c.sync.result before wrote_both (g.D.Disk.history c.sync.new.self)
    (write_none _ _ c.write_at-2.result wrote wrote_both (c.write_at-2.ensures.written still) ∙ write_none _ _ c.write_at.result before wrote (c.write_at.ensures.written honest)) (c.sync.ensures.synced still_so)

pub write_at-requires : goal.write_at-requires
write_at-requires g c = omega (arith, c.args.self.now.as_long, pages_begin-is c.args.self.now.geometry.version, page_bytes-least c.args.self.now.geometry.version, c.table_of.ensures.whole)

pub write_at-requires-2 : goal.write_at-requires-2
write_at-requires-2 g c =
    let most : page_bytes c.args.self.now.geometry.version * length c.args.images.now.numbers.items ≤ page_bytes c.args.self.now.geometry.version * 32 = mul-le-mul_left (page_bytes c.args.self.now.geometry.version) c.requires.batch.most in
    let len : length c.bytes.result.now ≡ page_bytes c.args.self.now.geometry.version * length c.args.images.now.numbers.items = c.bytes.ensures.len ∙ ap (λ (v : Version). page_bytes v * length c.args.images.now.numbers.items) c.requires.version in
    omega (arith, c.args.self.now.as_long, pages_begin-is c.args.self.now.geometry.version, len, most, c.write_at.ensures.size)
