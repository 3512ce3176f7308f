-- What amid a batch holds of one device, and of another with the same calls.
use Rattle.std.proofs.Common.{◌≡◌, inl, inr, ℕ, List, [], ◌∷◌, Bool, IsTrue, sym, subst, ◌*◌, length}
use Rattle.shore_types.specs.Versions.{page_bytes}
use Rattle.shore_disk.specs.Device.{DeviceHistory, Stands}
use Rattle.shore_disk.specs.declared.device.Disk.{Ghosts}
use Rattle.shore_types.specs.declared.layout.Geometry.{Geometry}
use Rattle.shore_dwrite.specs.declared.device.PageDev.{PageDev}
use Rattle.shore_dwrite.specs.Settled.{IsSettled}
use Rattle.shore_dwrite.specs.Shown.{AreInPlace, IsBatch, overlaid}
use Rattle.shore_dwrite.specs.UnderWay.{IsLaid, IsOpened, IsPlaced, IsWritten}

-- until its gate is opened a batch is nothing
pub written_settled : {D : Type 0} {G : Ghosts D} (dev : PageDev D G) (front : List ℕ) (pages : ℕ → List ℕ) (numbers texts : List ℕ) → IsWritten dev front pages numbers texts → IsSettled dev front pages
written_settled dev front pages numbers texts is = record {
  honest = is.honest;
  image = is.image;
  stands = is.stands;
  front_is = is.laid.front_is;
  shut = is.shut;
  in_place = is.in_place;
}

module _ {D : Type 0} {G : Ghosts D} (old new : PageDev D G) (history : G.history new.device ≡ G.history old.device) (honest : G.is_honest new.device ≡ G.is_honest old.device)
    (geometry : new.geometry ≡ old.geometry) (front : List ℕ) (pages : ℕ → List ℕ) where
  honest_now : IsTrue (G.is_honest old.device) → IsTrue (G.is_honest new.device)
  honest_now is = subst IsTrue (sym honest) is

  stands_now : (image : List ℕ) → Stands (G.history old.device) image → Stands (G.history new.device) image
  stands_now image is = subst (λ (h : DeviceHistory). Stands h image) (sym history) is

  pub settled_stays : IsSettled old front pages → IsSettled new front pages
  settled_stays is = record {
    honest = honest_now is.honest;
    image = is.image;
    stands = stands_now is.image is.stands;
    front_is = is.front_is;
    shut = is.shut;
    in_place = subst (λ (g : Geometry). AreInPlace g is.image pages) (sym geometry) is.in_place;
  }

  module _ (numbers texts : List ℕ) where
    pub written_stays : IsWritten old front pages numbers texts → IsWritten new front pages numbers texts
    written_stays is = record {
      honest = honest_now is.honest;
      batch = subst (λ (g : Geometry). IsBatch g numbers texts) (sym geometry) is.batch;
      long = subst (λ (g : Geometry). length texts ≡ page_bytes g.version * length numbers) (sym geometry) is.long;
      image = is.image;
      stands = stands_now is.image is.stands;
      laid = subst (λ (g : Geometry). IsLaid g front pages numbers texts is.image) (sym geometry) is.laid;
      shut = is.shut;
      in_place = subst (λ (g : Geometry). AreInPlace g is.image pages) (sym geometry) is.in_place;
    }

    pub opened_stays : IsOpened old front pages numbers texts → IsOpened new front pages numbers texts
    opened_stays is = record {
      honest = honest_now is.honest;
      batch = subst (λ (g : Geometry). IsBatch g numbers texts) (sym geometry) is.batch;
      long = subst (λ (g : Geometry). length texts ≡ page_bytes g.version * length numbers) (sym geometry) is.long;
      image = is.image;
      stands = stands_now is.image is.stands;
      laid = subst (λ (g : Geometry). IsLaid g front pages numbers texts is.image) (sym geometry) is.laid;
      is_open = is.is_open;
    }

    pub placed_stays : IsPlaced old front pages numbers texts → IsPlaced new front pages numbers texts
    unfolding opened_stays
    placed_stays is = record {
      opened = opened_stays is.opened;
      in_place = subst (λ (g : Geometry). AreInPlace g is.opened.image (overlaid g.version numbers texts pages)) (sym geometry) is.in_place;
    }
