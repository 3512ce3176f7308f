-- What is in place once transactions are rolled back, page by page.
use Rattle.std.specs.Prelude.{ℕ, List, [], ◌∷◌}
use Rattle.std.specs.FinMap.{get}
use Rattle.shore_types.specs.Images.{Image}
use Rattle.shore_types.specs.declared.ids.PageId.{PageId}
use Rattle.shore_model.specs.Records.{Records}
use Rattle.laws_lives.specs.Sessions.{SessionTxn}
use Rattle.laws_lives.specs.UndoLists.{rolled_back}
use Rattle.laws_room.specs.Claims.{each_from, rid_on}

-- the records once all of these transactions are rolled back
abbrev pub all_rolled_back : Records → List SessionTxn → Records
all_rolled_back R [] = R
all_rolled_back R (a ∷ undos) = all_rolled_back (rolled_back R a.undo.images) undos

-- what the first n slots of a page have
abbrev pub images_on : Records → PageId → ℕ → List Image
images_on R p n = each_from (λ i. get R (rid_on p i)) 0 n
