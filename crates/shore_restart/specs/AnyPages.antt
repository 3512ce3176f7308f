-- Redo and undo on one page, whatever its text is: what they make of the page, and which record finds no room on it.
use Rattle.std.specs.Prelude.{◌≡◌, ◌⊎◌, ◌+◌, ◌-◌, ◌<◌, ◌&&◌, ◌++◌, ℕ, List, [], ◌∷◌, Bool, false, Option, None, Some, IsSomeAnd, length, map, nat_le, nat_lt, replicate, slice_get, take, if◌then◌else◌}
use Rattle.std.specs.Ordering.{eq_by_cmp}
use Rattle.shore_types.specs.Ids.{page_cmp}
use Rattle.shore_types.specs.Images.{Image, image_len}
use Rattle.shore_types.specs.declared.ids.PageId.{PageId}
use Rattle.shore_types.specs.declared.ids.Rid.{Rid}
use Rattle.shore_types.specs.declared.layout.Geometry.{Geometry}
use Rattle.shore_model.specs.declared.log_records.LogRecord.{LogRecord}
use Rattle.shore_model.specs.declared.log_records.Payload.{Payload}
use Rattle.shore_model.specs.Logs.{image_in, unanswered, undo_next_of}
use Rattle.shore_types.specs.Layout.{HasPage}
use Rattle.shore_types.specs.declared.versions.Version.{Version}
use Rattle.shore_model.specs.declared.unanswered_changes.UnansweredChange.{UnansweredChange}
use Rattle.shore_page.specs.Claims.{FitIn, claimed_by}
use Rattle.shore_heap.specs.Contents.{CanKeep}
use Rattle.shore_page.specs.Room.{Fits}
use Rattle.shore_page.specs.Slots.{settled, with_change}
use Rattle.shore_page.specs.Text.{IsPageText}
use Rattle.shore_dwrite.specs.Volumes.{page_number}
use Rattle.laws_lives.specs.Undo.{HasNoLosers, IsLoser, undo_record}
use Rattle.laws_lives.specs.Views.{IsAmong}
use Rattle.shore_analysis.specs.declared.kept_tables.RedoTable.{RedoTable}
use Rattle.shore_analysis.specs.KeptTables.{redo_table}
use Rattle.shore_analysis.specs.Losers.{IsNextToUndo}
use Rattle.shore_analysis.specs.Padded.{blank, padded}
use Rattle.laws_checkpoints.specs.Checkpoints.{end_among}
use Rattle.laws_lives.specs.DirtyPages.{surely_on_page}
use Rattle.shore_restart.specs.Doubts.{IsRefusedBy, IsTaken, changes_in_doubt, claims_of}
use Rattle.shore_restart.specs.Turns.{IsUndoneSoFar, gone_on}

-- ---- one page

-- what a text says of its page: the number of its last change, and what is in its slots
pub record ReadPage : Type 0 where
  pub number : ℕ
  pub images : List Image

-- the bytes are a text of this page that says so
abbrev pub IsReadAs : Version → List ℕ → PageId → ReadPage → Type 0
IsReadAs v text p page = IsPageText v text p page.number page.images

-- the image in a slot, which is new behind the last, or farther on
abbrev pub with_image_at : List Image → ℕ → Image → List Image
with_image_at images slot image = with_change (λ _. image) (images ++ replicate (slot + 1 - length images) None) slot

-- the page after redo of record n, whose image this is: unless it is of this page, and the page has a lower number, it changes nothing
abbrev pub redone_read : ℕ → Option (Rid × Image) → PageId → ReadPage → ReadPage
redone_read n None p page = page
redone_read n (Some e) p page = if eq_by_cmp page_cmp p e.0.page && nat_lt page.number n then record { number = n; images = with_image_at page.images e.0.slot e.1 } else page

-- .. after redo of these records, behind so many others
abbrev pub redone_from : ℕ → List LogRecord → PageId → ReadPage → ReadPage
redone_from n [] p page = page
redone_from n (r ∷ rs) p page = redone_from (n + 1) rs p (redone_read (n + 1) (image_in r.payload) p page)

-- .. of the records of a log, from the first
abbrev pub redone_by : List LogRecord → PageId → ReadPage → ReadPage
redone_by log p page = redone_from 0 log p page

-- the page is what redo of these records makes of one with this text
pub record IsMadeOf (v : Version) (text : List ℕ) (log : List LogRecord) (p : PageId) (page : ReadPage) : Type 0 where
  pub was : ReadPage
  pub read : IsReadAs v text p was
  pub redone : page ≡ redone_by log p was

-- ---- the records that are due

-- by this table the page of record n, if it has an image, has it already
abbrev pub is_passed_over : RedoTable → ℕ → Option (Rid × Image) → Bool
is_passed_over table n None = false
is_passed_over table n (Some e) = nat_le n (surely_on_page table.begin table.dirty e.0.page)

-- record n, or one of nobody if it is passed over
abbrev pub due_record : RedoTable → ℕ → LogRecord → LogRecord
due_record table n r = if is_passed_over table n (image_in r.payload) then blank else r

-- the records behind so many
abbrev pub due_behind : RedoTable → ℕ → List LogRecord → List LogRecord
due_behind table n [] = []
due_behind table n (r ∷ rs) = due_record table (n + 1) r ∷ due_behind table (n + 1) rs

-- .. with one of nobody in the place of each that is cut off
abbrev pub due_seen : RedoTable → ℕ → List LogRecord → List LogRecord
due_seen table cut kept = padded cut (due_behind table cut kept)

-- ---- the pages that are read

-- the record has an image on this page
abbrev pub IsOnPage : LogRecord → PageId → Type 0
IsOnPage r p = IsSomeAnd (image_in r.payload) (λ e. p ≡ e.0.page)

-- .. and so has one of these
abbrev pub AreOnPage : List LogRecord → PageId → Type 0
AreOnPage rs p = (r : LogRecord) × IsAmong r rs × IsOnPage r p

-- .. the one that undoes a Change of a loser next
abbrev pub IsUndoneOnPage : List LogRecord → PageId → Type 0
IsUndoneOnPage log p = (t : ℕ) × IsLoser log t × IsNextToUndo log t × IsOnPage (undo_record log t) p

-- .. some turns of undo later
abbrev pub MayBeUndoneOnPage : List LogRecord → PageId → Type 0
MayBeUndoneOnPage log p = (so_far : List LogRecord) × IsUndoneSoFar log so_far × IsUndoneOnPage so_far p

-- a Change of one in doubt, which no Compensation has answered, is of this page
abbrev pub IsInDoubtOnPage : List LogRecord → PageId → Type 0
IsInDoubtOnPage log p = (c : UnansweredChange) × IsAmong c (changes_in_doubt log) × (p ≡ c.id.page)

-- A restart on the records that are kept behind so many, with this checkpoint, may read this page: a record that is due is of it; or one of undo; or a Change of one in doubt.
-- So it reads no page for a record that is passed over.
abbrev pub MayRead : ℕ → ℕ → List LogRecord → PageId → Type 0
MayRead cut checkpoint kept p = AreOnPage (due_seen (redo_table (end_among checkpoint kept)) cut kept) p ⊎ MayBeUndoneOnPage (padded cut kept) p ⊎ IsInDoubtOnPage (padded cut kept) p

-- ---- the record that is named

module _ (g : Geometry) (texts : ℕ → List ℕ) where
  -- Record n, behind these, finds no room: its page, as they make it of its text, has a number below n, and no room at the slot for the record's image
  -- beside what the other slots take.
  pub record FindsNoRoom (before : List LogRecord) (n : ℕ) (payload : Payload) : Type 0 where
    pub id : Rid
    pub image : Image
    pub changes : image_in payload ≡ Some (id, image)
    pub page : ReadPage
    pub made : IsMadeOf g.version (texts (page_number g id.page)) before id.page page
    pub lacks : page.number < n
    pub no_room : Fits g.version (map settled page.images) id.slot (image_len image) → ⊥

  -- so does record n of a log, behind those before it
  abbrev pub IsMisfitAt : List LogRecord → ℕ → Type 0
  IsMisfitAt log n = (0 < n) × ((r : LogRecord) × (slice_get log (n - 1) ≡ Some r) × FindsNoRoom (take (n - 1) log) n r.payload)

  -- .. and none before it
  abbrev pub IsFirstMisfit : List LogRecord → ℕ → Type 0
  IsFirstMisfit log n = IsMisfitAt log n × ((m : ℕ) → m < n → IsMisfitAt log m → ⊥)

  -- each record of the log finds room
  abbrev pub AllFindRoom : List LogRecord → Type 0
  AllFindRoom log = (n : ℕ) → IsMisfitAt log n → ⊥

  -- the Change of this number is to be undone next, and the record that undoes it finds no room on its page, as the records that are due make that
  abbrev pub FindsNoRoomToUndo : List LogRecord → List LogRecord → ℕ → Type 0
  FindsNoRoomToUndo log due n = (t : ℕ) × IsLoser log t × IsNextToUndo log t × (n ≡ undo_next_of (unanswered t log)) × FindsNoRoom due (length log + 1) (undo_record log t).payload

  -- The Change of this number is the first of those in doubt whose image before finds no room on its page, as the records that are due make that of its text, beside
  -- what is kept there for those before it.
  pub record IsUnkeptOn (log due : List LogRecord) (n : ℕ) : Type 0 where
    pub kept : List UnansweredChange
    pub change : UnansweredChange
    pub later : List UnansweredChange
    pub order : changes_in_doubt log ≡ kept ++ change ∷ later
    pub number : n ≡ change.number
    pub first : (p : PageId) (page : ReadPage) → HasPage g p → IsMadeOf g.version (texts (page_number g p)) due p page → FitIn g.version (claims_of p kept) (map settled page.images)
    pub page : ReadPage
    pub made : IsMadeOf g.version (texts (page_number g change.id.page)) due change.id.page page
    pub no_room : CanKeep g.version (claimed_by (claims_of change.id.page kept) (map settled page.images)) change.id.slot (image_len change.before) → ⊥

  -- It is the first that finds no room; or all of the log do, and all records of undo so far, and the next one, which undoes the Change of this number, does not; or,
  -- with nobody left to be undone, the Change of this number is not kept.
  abbrev pub IsMisfitOn : List LogRecord → List LogRecord → ℕ → Type 0
  IsMisfitOn log due n = IsFirstMisfit due n
      ⊎ ((so_far : List LogRecord) × IsUndoneSoFar log so_far × AllFindRoom (gone_on due log so_far)
      × (FindsNoRoomToUndo so_far (gone_on due log so_far) n ⊎ (HasNoLosers so_far × IsUnkeptOn so_far (gone_on due log so_far) n)))

  -- what those in doubt by this log may put back has room on each page, as the records that are due make that of its text
  abbrev pub AreKeptOn : List LogRecord → List LogRecord → Type 0
  AreKeptOn log due = (p : PageId) (page : ReadPage) → HasPage g p → IsMadeOf g.version (texts (page_number g p)) due p page → FitIn g.version (claims_of p (changes_in_doubt log)) (map settled page.images)

  -- None is such a misfit, and the log has become this later one by turns of undo: each record that is due finds room; behind them so does each of undo; and behind
  -- all what those in doubt may put back.
  pub record NoneMisfitsOn (log due later : List LogRecord) : Type 0 where
    pub fit : AllFindRoom due
    pub undo_fits : AllFindRoom (gone_on due log later)
    pub kept : AreKeptOn later (gone_on due log later)

  -- what is kept behind so many is refused by this record for what it says of itself; or it is not, and the record is such a misfit
  abbrev pub IsBadOn : ℕ → ℕ → List LogRecord → ℕ → Type 0
  IsBadOn cut checkpoint kept n = IsRefusedBy g cut checkpoint kept n ⊎ (IsTaken g cut checkpoint kept × IsMisfitOn (padded cut kept) (due_seen (redo_table (end_among checkpoint kept)) cut kept) n)
