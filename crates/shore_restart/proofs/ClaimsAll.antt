-- The changes of a table, the newest first, and what pages keep for all of them.
use Rattle.std.proofs.Common.{◌≡◌, ◌<◌, ◌+◌, ◌++◌, ◌∷◌, [], ℕ, zero, suc, List, Option, None, Some, Ok, inl, inr, refl, sym, ap, subst, ◌∙◌, length, reverse, take, drop, arith}
use Rattle.std.specs.Prelude.{slice_get}
use Rattle.std.proofs.lemmas.List.{append-nil, append_assoc, reverse-append}
use Rattle.shore_types.specs.Layout.{HasPage}
use Rattle.shore_types.specs.declared.ids.PageId.{PageId}
use Rattle.shore_types.specs.declared.layout.Geometry.{Geometry}
use Rattle.shore_types.specs.declared.versions.Version.{Version}
use Rattle.shore_disk.specs.Device.{may_leave}
use Rattle.shore_disk.specs.declared.device.Disk.{Ghosts}
use Rattle.shore_disk.proofs.Moments.{started}
use Rattle.shore_dwrite.specs.Volumes.{page_number}
use Rattle.shore_page.specs.Slots.{Slot}
use Rattle.shore_pool.specs.declared.frame.Frame.{Frame}
use Rattle.shore_heap.specs.declared.heap.Heap.{Heap}
use Rattle.shore_heap.specs.Contents.{ClaimsOfPages, FitIn, HasSlots, TakesNone, claimed_by}
use Rattle.shore_heap.specs.Heaps.{frame_of, geometry_of, history_of}
use Rattle.shore_heap.proofs.Claimed.{all_kept, takes_none}
use Rattle.laws_heaps.proofs.AllPages.{has_or_not}
use Rattle.laws_images.specs.Moments.{ShowsLeft}
use Rattle.laws_lives.specs.Recovery.{RecoveryState}
use Rattle.laws_lives.specs.Views.{IsAmong}
use Rattle.shore_txn.specs.ActiveTxns.{all_changes}
use Rattle.shore_txn.specs.Txns.{entries_of}
use Rattle.shore_txn.specs.UndoEntries.{claims_on}
use Rattle.shore_txn.specs.declared.txn.Txn.{Txn}
use Rattle.shore_txn.specs.declared.undo.UndoEntry.{UndoEntry}
use Rattle.shore_restart.specs.GivenBack.{ClaimsSoFar, HaveRoom, Keeps, StandsSoFar, StandsWith}
use Rattle.shore_restart.specs.Standing.{Stands}
use Rattle.shore_restart.proofs.Noting.{notes_none}
use Rattle.shore_restart.proofs.ClaimsKept.{claims_there}
use Rattle.shore_restart.proofs.DoubtsNamed.{split_here}
use Rattle.shore_restart.proofs.Standing.{stands_kept}

-- ---- their order

-- those of the oldest transaction first
abbrev pub flat : List Txn → List UndoEntry
flat [] = []
flat (t ∷ newer) = entries_of t ++ flat newer

flat_append : (xs ys : List Txn) → flat (xs ++ ys) ≡ flat xs ++ flat ys
flat_append [] ys = refl
flat_append (t ∷ xs) ys = ap (λ l. entries_of t ++ l) (flat_append xs ys) ∙ sym (append_assoc (entries_of t) (flat xs) (flat ys))

pub all_flat : (ts : List Txn) → all_changes ts ≡ flat (reverse ts)
all_flat [] = refl
all_flat (t ∷ older) =
    (λ i. all_flat older i ++ sym (append-nil (entries_of t)) i) ∙ sym (flat_append (reverse older) (t ∷ [])) ∙ ap flat (sym (reverse-append (t ∷ []) older))

-- those of one transaction stand between those of the older ones and of the newer ones
pub flat_here : (rs : List Txn) (i : ℕ) (t : Txn) → slice_get rs i ≡ Some t → flat rs ≡ flat (take i rs) ++ (entries_of t ++ flat (drop (i + 1) rs))
flat_here rs i t at = ap flat (split_here rs i t at) ∙ flat_append (take i rs) (t ∷ drop (i + 1) rs)

-- .. and one of its changes between its older and its newer ones
pub in_place_of : (all older changes newer : List UndoEntry) (i : ℕ) (e : UndoEntry) → slice_get changes i ≡ Some e → all ≡ older ++ (changes ++ newer)
    → all ≡ (older ++ take i changes) ++ e ∷ (drop (i + 1) changes ++ newer)
in_place_of all older changes newer i e at order =
    order ∙ ap (λ l. older ++ (l ++ newer)) (split_here changes i e at) ∙ ap (λ l. older ++ l) (append_assoc (take i changes) (e ∷ drop (i + 1) changes) newer)
    ∙ sym (append_assoc older (take i changes) (e ∷ (drop (i + 1) changes ++ newer)))

pub some_at : {A : Type 0} (xs : List A) (i : ℕ) → i < length xs → (x : A) × (slice_get xs i ≡ Some x)
some_at [] i within = absurd (omega (arith, within))
some_at (x ∷ xs) zero within = (x, refl)
some_at (x ∷ xs) (suc i) within = some_at xs i (omega (arith, within))

-- ---- pages that are not there

none_there : (g : Geometry) (p : PageId) (es : List UndoEntry) → (HasPage g p → ⊥) → ((e : UndoEntry) → IsAmong e es → HasPage g e.id.page) → claims_on p es ≡ []
none_there g p [] absent there = refl
none_there g p (e ∷ es) absent there =
    claims_there p e es (λ same. absent (subst (HasPage g) (sym same) (there e (inl refl)))) ∙ none_there g p es absent (λ x among. there x (inr among))

pub fit_everywhere : (g : Geometry) (es : List UndoEntry) (slots : PageId → List Slot) → ((e : UndoEntry) → IsAmong e es → HasPage g e.id.page) → ((p : PageId) → HasPage g p → HaveRoom g.version (claims_on p es) (slots p))
    → (p : PageId) → FitIn g.version (claims_on p es) (slots p)
fit_everywhere g es slots there room p = elim (has_or_not g p) [
  | inl has ↦ (room p has).fit
  | inr absent ↦ subst (λ (l : List (ℕ × ℕ)). FitIn g.version l (slots p)) (sym (none_there g p es absent there)) tt
]

-- ---- the first, and all

-- claims that have room leave no less room to take a record
takes_none_beside : (v : Version) (kept : List (ℕ × ℕ)) (slots : List Slot) → FitIn v kept slots → (bytes : ℕ) → TakesNone v slots bytes → TakesNone v (claimed_by kept slots) bytes
takes_none_beside v [] slots fit bytes none = none
takes_none_beside v (c ∷ kept) slots fit bytes none =
    takes_none v (claimed_by kept slots) c.0 c.1 (fit.0, fit.1) bytes (takes_none_beside v kept slots fit.2 bytes none)

slots_with : (v : Version) (o : Option Frame) (text : List ℕ) (p : PageId) (all : List (ℕ × ℕ)) (slots : List Slot) → FitIn v all slots → ClaimsSoFar v o text p all all slots → HasSlots v o text p all (claimed_by all slots)
slots_with v (Some f) text p all slots fit (inl is) = is
slots_with v (Some f) text p all slots fit (inr keeps) = all_kept v all slots f.page.slots fit keeps
slots_with v None text p all slots fit (number, images, is, settled_is) = (number, images, is, ap (claimed_by all) settled_is, subst (FitIn v all) settled_is fit)

slots_without : (v : Version) (o : Option Frame) (text : List ℕ) (p : PageId) (all : List (ℕ × ℕ)) (slots : List Slot) → HasSlots v o text p [] slots → ClaimsSoFar v o text p all [] slots
slots_without v (Some f) text p all slots is = inl is
slots_without v None text p all slots (number, images, is, settled_is, fit) = (number, images, is, settled_is)

module _ {V : Type 0} {H : Ghosts V} where
  pub none_so_far : (all : ClaimsOfPages) (front : List ℕ) (disk : ℕ → List ℕ) (heap : Heap V H) (s : RecoveryState) (stands : Stands front disk heap s) → StandsSoFar all (λ p. []) stands.slots front disk heap s
  none_so_far all front disk heap s stands = record {
    store = stands.store;
    recoverable = stands.recoverable;
    holds = stands.shows.holds;
    bounds = stands.shows.bounds;
    room = λ p has. record { bare = (stands_kept front disk heap s stands p has).0; fit = tt };
    pages = λ p has. slots_without (geometry_of heap).version (frame_of heap p) (disk (page_number (geometry_of heap) p)) p (all p) (stands.slots p) (stands.shows.pages p has);
  }

  pub all_so_far : (all : ClaimsOfPages) (slots : PageId → List Slot) (front : List ℕ) (disk : ℕ → List ℕ) (heap : Heap V H) (s : RecoveryState) → StandsSoFar all all slots front disk heap s → StandsWith all front disk heap s
  all_so_far all slots front disk heap s st = record {
    store = st.store;
    recoverable = st.recoverable;
    slots = slots;
    room = st.room;
    shows = record {
      holds = st.holds;
      pages = λ p has. slots_with (geometry_of heap).version (frame_of heap p) (disk (page_number (geometry_of heap) p)) p (all p) (slots p) (st.room p has).fit (st.pages p has);
      bounds = λ p bytes has up_to. takes_none_beside (geometry_of heap).version (all p) (slots p) (st.room p has).fit bytes (st.bounds p bytes has up_to);
    };
  }

  -- nothing was done yet
  pub keeps_none : (front : List ℕ) (disk : ℕ → List ℕ) (heap : Heap V H) (s : RecoveryState) {Stand : (ℕ → List ℕ) → RecoveryState → Type 0} → ((c : List ℕ) → may_leave (history_of heap) c → ShowsLeft (geometry_of heap) front s c) → Stand disk s → Keeps (Ok tt) front heap heap s Stand
  keeps_none front disk heap s left stand = record {
    later = s;
    work = record { works = []; work = refl; loses_none = tt; volume = started (history_of heap) (ShowsLeft (geometry_of heap) front s) left; left = left };
    same = record { log = refl; durable = refl; redone = refl; in_place = refl };
    volume = λ p. inl refl;
    stands = (disk, stand);
    notes = notes_none heap s;
  }
