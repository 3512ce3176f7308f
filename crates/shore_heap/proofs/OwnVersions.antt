-- A page in a frame is of the volume's version.
use Rattle.std.proofs.Common.{◌≡◌, ◌↔◌, List, Option, None, Some, IsSomeAnd, IsTrue, Bool, true, false, is_some, option_map, refl, sym, ap, subst, ◌∙◌}
use Rattle.shore_disk.specs.declared.device.Disk.{Ghosts}
use Rattle.shore_types.specs.declared.ids.PageId.{PageId}
use Rattle.shore_types.specs.declared.versions.Version.{Version}
use Rattle.shore_dwrite.specs.Volumes.{page_number}
use Rattle.shore_page.specs.Slots.{PageState, Slot}
use Rattle.shore_pool.specs.declared.frame.Frame.{Frame}
use Rattle.shore_pool.specs.declared.pool.Pool.{Pool}
use Rattle.shore_pool.specs.Pools as pools

module _ {D : Type 0} {G : Ghosts D} (pool : Pool D G) (id : PageId) where
  own : (f : Frame) → pools.frame_of pool id ≡ Some f → f.page.version ≡ (pools.geometry_of pool).version
  own f is = (pool.in_order (page_number (pools.geometry_of pool) id) f is).2

  -- one that was lent
  pub own_version : (page : PageState) → Some page ≡ option_map (λ f. f.page) (pools.frame_of pool id) → page.version ≡ (pools.geometry_of pool).version
  own_version page is = each (pools.frame_of pool id) own is
    where
      each : (o : Option Frame) → ((f : Frame) → o ≡ Some f → f.page.version ≡ (pools.geometry_of pool).version) → Some page ≡ option_map (λ f. f.page) o → page.version ≡ (pools.geometry_of pool).version
      each None own is = cc
      each (Some f) own is = let same : page ≡ f.page = cc in ap (λ (p : PageState). p.version) same ∙ own f refl

  -- what holds by the volume's version holds by the page's own
  pub by_own : (P : Version → List Slot → Type 0) → IsSomeAnd (pools.frame_of pool id) (λ f. P (pools.geometry_of pool).version f.page.slots) → IsSomeAnd (pools.frame_of pool id) (λ f. P f.page.version f.page.slots)
  by_own P is = each (pools.frame_of pool id) own is
    where
      each : (o : Option Frame) → ((f : Frame) → o ≡ Some f → f.page.version ≡ (pools.geometry_of pool).version) → IsSomeAnd o (λ f. P (pools.geometry_of pool).version f.page.slots) → IsSomeAnd o (λ f. P f.page.version f.page.slots)
      each None own is = is
      each (Some f) own is = subst (λ (v : Version). P v f.page.slots) (sym (own f refl)) is

-- what is told of a page that was lent is told of its frame
pub lent_tells : (r : Bool) (P : List Slot → Type 0) (o : Option Frame) (page : PageState) → Some page ≡ option_map (λ f. f.page) o → IsTrue r ↔ P page.slots → IsTrue r ↔ IsSomeAnd o (λ f. P f.page.slots)
lent_tells r P None page is tells = cc
lent_tells r P (Some f) page is tells = let same : page ≡ f.page = cc in subst (λ (p : PageState). IsTrue r ↔ P p.slots) same tells

-- .. and what holds of some frame weaker
pub some_to : (P Q : Frame → Type 0) → ((f : Frame) → P f → Q f) → (o : Option Frame) → IsSomeAnd o P → IsSomeAnd o Q
some_to P Q to None is = is
some_to P Q to (Some f) is = to f is
