use Rattle.std.proofs.Common.{◌≤◌, All, List, arith, length, map, sym, subst}
use Rattle.std.specs.List.Sorted.{IsStrictlySortedBy}
use Rattle.shore_model.specs.declared.log_records.DirtyPage.{DirtyPage}
use Rattle.shore_types.specs.Ids.{page_cmp}
use Rattle.shore_dwrite.specs.Settled as settled_device
use Rattle.shore_pool.specs.FrameMaps as maps
use Rattle.shore_types.specs.declared.layout.TheConstants.{MAX_POOL_FRAMES}
use Rattle.shore_pool.proofs.Counts.{no_more_dirty}
use Rattle.shore_pool.proofs.Dirty.{all_listed, answer_says, each_listed, rising}
use Rattle.shore_pool.proofs.Indexes.{frame_within}
use Rattle.shore_pool.proofs.pool.Pool.dirty_pages.Goals as goal

pub returns-clause-listed : goal.returns-clause-listed
returns-clause-listed g c =
    let frames = c.args.self.now.frames in
    answer_says c.dirty_pages.result (λ list is. subst (All (maps.IsDirtyPage frames)) (sym is) (all_listed (maps.frame_at frames) (maps.pages_of frames))) c.dirty_pages.ensures

pub returns-clause-all : goal.returns-clause-all
returns-clause-all g c =
    let frames = c.args.self.now.frames in
    answer_says c.dirty_pages.result
    (λ list is. subst (maps.HasDirty frames) (sym is)
    (λ k f recovery there dirty. each_listed (maps.frame_at frames) (maps.pages_of frames) k f recovery (frame_within frames.slots frames.table.items k f there) there dirty))
    c.dirty_pages.ensures

pub returns-clause-rising : goal.returns-clause-rising
returns-clause-rising g c =
    let old = c.args.self.now in
    answer_says c.dirty_pages.result
    (λ list is. subst (λ (es : List DirtyPage). IsStrictlySortedBy page_cmp (map (λ (d : DirtyPage). d.page) es)) (sym is)
    (rising (maps.frame_at old.frames) (settled_device.geometry_of old.device) old.in_order (maps.pages_of old.frames)))
    c.dirty_pages.ensures

pub returns-clause-few : goal.returns-clause-few
returns-clause-few g c =
    let old = c.args.self.now in
    let frames = old.frames in
    let most = no_more_dirty frames.slots frames.table.items frames.indexed (maps.pages_of frames) in
    answer_says c.dirty_pages.result
    (λ list is. subst (λ (es : List DirtyPage). length es ≤ MAX_POOL_FRAMES) (sym is) (omega (arith, most, frames.within, old.few)))
    c.dirty_pages.ensures
