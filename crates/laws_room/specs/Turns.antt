-- Rollbacks of several transactions, in steps that take turns.
use Rattle.std.specs.Prelude.{◌≡◌, ℕ, List, Option, [], ◌∷◌, ◌++◌}
use Rattle.shore_types.specs.Images.{Image, image_len}
use Rattle.shore_types.specs.declared.ids.Rid.{Rid}
use Rattle.shore_types.specs.declared.versions.Version.{Version}
use Rattle.shore_model.specs.Records.{Records, put_image}
use Rattle.shore_page.specs.Room.{Fits}
use Rattle.shore_model.specs.declared.rollbacks.Rollback.{Rollback}
use Rattle.laws_lives.specs.Sessions.{SessionTxn, with_undo}
use Rattle.laws_lives.specs.Views.{IsAmong}
use Rattle.laws_room.specs.Claims.{SlotCounts, slots_of}

-- Each turn puts back the newest image of its transaction, if one is left, whatever savepoints it has then and whatever rollback is
-- under way: the image fits its page, and so do those of the turns behind it.
abbrev pub TurnsFit : Version → Records → List SessionTxn → SlotCounts → List ℕ → Type 0
TurnsFit v R undos counts [] = Unit {0}
TurnsFit v R undos counts (t ∷ turns) = (a : SessionTxn) (kept : List (Rid × Image)) (e : Rid × Image) (marks : List ℕ) (rolling : Option Rollback)
    → IsAmong a undos → a.txn ≡ t → a.undo.images ≡ kept ++ e ∷ []
    → Fits v (slots_of R undos e.0.page (counts e.0.page)) e.0.slot (image_len e.1)
    × TurnsFit v (put_image R e.0 e.1) (with_undo t record { images = kept; marks = marks; rolling = rolling } undos) counts turns
