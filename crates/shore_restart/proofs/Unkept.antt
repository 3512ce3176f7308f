-- The changes of those in doubt, by the table and by the log: which they are, where they lie, and which of them finds no room.
use Rattle.std.proofs.Common.{◌≡◌, ◌⊎◌, inl, inr, ⊎_elim, ◌+◌, ◌-◌, ◌<◌, ◌≤◌, ℕ, max, List, [], ◌∷◌, ◌++◌, Bool, true, false, cond, Option, None, Some, refl, sym, ap, subst, ◌∙◌, length, map, arith}
use Rattle.std.specs.Prelude.{reverse, slice_get}
use Rattle.std.specs.Ordering.{eq_by_cmp}
use Rattle.std.proofs.lemmas.List.{append_assoc, map-append, reverse-append}
use Rattle.std.proofs.lemmas.Map.Views.{tells_apart}
use Rattle.std.proofs.lemmas.Option.{slice_get_within}
use Rattle.shore_types.specs.Ids.{exact_pages, page_cmp}
use Rattle.shore_types.specs.Images.{Image, image_len}
use Rattle.shore_types.specs.Layout.{HasPage, HasSlot}
use Rattle.shore_types.specs.declared.ids.PageId.{PageId}
use Rattle.shore_types.specs.declared.ids.Rid.{Rid}
use Rattle.shore_types.specs.declared.layout.Geometry.{Geometry}
use Rattle.shore_types.specs.declared.versions.Version.{Version}
use Rattle.shore_model.specs.declared.log_records.LogRecord.{LogRecord}
use Rattle.shore_model.specs.declared.unanswered_changes.UnansweredChange.{UnansweredChange}
use Rattle.shore_model.specs.Logs.{id_in, image_in, unanswered}
use Rattle.shore_page.specs.Claims.{FitIn, claimed_by}
use Rattle.shore_page.specs.Slots.{Slot, settled}
use Rattle.shore_heap.specs.Contents.{CanKeep}
use Rattle.laws_lives.specs.Doubts.{LoggedDoubt}
use Rattle.shore_analysis.specs.Doubts.{doubts_left}
use Rattle.laws_lives.specs.Undo.{IsUndoneTo}
use Rattle.laws_lives.specs.Views.{IsAmong}
use Rattle.laws_lives.proofs.Lists.{among_append, among_left, among_right, mapped_one}
use Rattle.laws_lives.proofs.OneMore.{by_push}
use Rattle.laws_lives.proofs.UndoChains.{unanswered_chain}
use Rattle.laws_room.proofs.Leaving.{AreOn}
use Rattle.laws_runs.specs.SlotCounts.{slot_count, slots_behind, slots_left}
use Rattle.laws_runs.proofs.SlotCounts.{behind_here, slot_count-push}
use Rattle.shore_analysis.proofs.MeantLogs.{own_or_last}
use Rattle.shore_sessions.specs.Standing.{as_change}
use Rattle.shore_txn.specs.ActiveTxns.{all_changes}
use Rattle.shore_txn.specs.Transactions.{txns_in}
use Rattle.shore_txn.specs.Txns.{entries_of}
use Rattle.shore_txn.specs.UndoEntries.{claims_on, images_of}
use Rattle.shore_txn.specs.declared.transactions.Transactions.{Transactions}
use Rattle.shore_txn.specs.declared.txn.Txn.{Txn}
use Rattle.shore_txn.specs.declared.undo.UndoEntry.{UndoEntry}
use Rattle.shore_restart.specs.AnyPages.{AreKeptOn, IsInDoubtOnPage, IsUnkeptOn}
use Rattle.shore_restart.specs.Doubts.{IsUnkept, changes_in_doubt, changes_of, claims_of}
use Rattle.shore_restart.specs.GivenBack.{AreGivenBack, AreOfPage, CanKeepOn, CannotKeep, CannotKeepOn, HasDoubts}
use Rattle.shore_restart.proofs.ChangesBack.{IsLoggedChange, logged_in}
use Rattle.shore_restart.proofs.DoubtsKept.{same_changes}
use Rattle.shore_restart.proofs.KeptReads.{le_or_lt, read_none}
use Rattle.shore_analysis.specs.Padded.{padded}

-- ---- lists

turned_push : (e : UndoEntry) (es : List UndoEntry) → reverse (map as_change (e ∷ es)) ≡ reverse (map as_change es) ++ as_change e ∷ []
turned_push e es = reverse-append (as_change e ∷ []) (map as_change es)

turned_append : (xs ys : List UndoEntry) → reverse (map as_change (xs ++ ys)) ≡ reverse (map as_change ys) ++ reverse (map as_change xs)
turned_append xs ys = ap reverse (map-append as_change xs ys) ∙ reverse-append (map as_change xs) (map as_change ys)

among_turned : (c : UnansweredChange) (es : List UndoEntry) → IsAmong c (reverse (map as_change es)) → (e : UndoEntry) × IsAmong e es × (as_change e ≡ c)
among_turned c [] among = absurd among
among_turned c (e ∷ es) among = ⊎_elim
    (λ later. let at = among_turned c es later in (at.0, inr at.1, at.2))
    (λ last. ⊎_elim (λ here. (e, inl refl, here)) (λ none. absurd none) last)
    (among_append c (reverse (map as_change es)) (as_change e ∷ []) (subst (IsAmong c) (turned_push e es) among))

turned_among : (e : UndoEntry) (es : List UndoEntry) → IsAmong e es → IsAmong (as_change e) (reverse (map as_change es))
turned_among e [] among = absurd among
turned_among e (x ∷ es) among = subst (IsAmong (as_change e)) (sym (turned_push x es)) (⊎_elim
    (λ here. among_right (as_change e) (reverse (map as_change es)) (as_change x ∷ []) (inl (ap as_change here)))
    (λ later. among_left (as_change e) (reverse (map as_change es)) (as_change x ∷ []) (turned_among e es later)) among)

-- ---- what a page keeps for them

abbrev claim : UnansweredChange → ℕ × ℕ
claim c = (c.id.slot, image_len c.before)

abbrev claim_if : PageId → UnansweredChange → List (ℕ × ℕ)
claim_if p c = cond (eq_by_cmp page_cmp p c.id.page) (claim c ∷ []) []

claims_push : (p : PageId) (cs : List UnansweredChange) (c : UnansweredChange) → claims_of p (cs ++ c ∷ []) ≡ cond (eq_by_cmp page_cmp p c.id.page) (claim c ∷ claims_of p cs) (claims_of p cs)
claims_push p [] c = refl
claims_push p (x ∷ cs) c = ap (λ (kept : List (ℕ × ℕ)). kept ++ claim_if p x) (claims_push p cs c) ∙ by (eq_by_cmp page_cmp p c.id.page)
  where
    by : (b : Bool) → cond b (claim c ∷ claims_of p cs) (claims_of p cs) ++ claim_if p x ≡ cond b (claim c ∷ (claims_of p cs ++ claim_if p x)) (claims_of p cs ++ claim_if p x)
    by true = refl
    by false = refl

claims_same : (p : PageId) (es : List UndoEntry) → claims_of p (reverse (map as_change es)) ≡ claims_on p es
claims_same p [] = refl
claims_same p (e ∷ es) =
    ap (claims_of p) (turned_push e es) ∙ claims_push p (reverse (map as_change es)) (as_change e)
    ∙ ap (λ (kept : List (ℕ × ℕ)). cond (eq_by_cmp page_cmp p e.id.page) (claim (as_change e) ∷ kept) kept) (claims_same p es)

-- ---- the log's changes

changes_same : (log : List LogRecord) (ds : List LoggedDoubt) (ts : List Txn) → AreGivenBack log ds ts → changes_of log ds ≡ reverse (map as_change (all_changes ts))
changes_same log [] [] back = refl
changes_same log [] (t ∷ ts) back = absurd back
changes_same log (d ∷ ds) [] back = absurd back
changes_same log (d ∷ ds) (t ∷ ts) back =
    ap (λ (cs : List UnansweredChange). cs ++ changes_of log ds) back.0.entries.changes
    ∙ ap (λ (cs : List UnansweredChange). reverse (map as_change (entries_of t)) ++ cs) (changes_same log ds ts back.1)
    ∙ sym (turned_append (all_changes ts) (entries_of t))

-- each is a Change of the log
are_logged : (log : List LogRecord) (ds : List LoggedDoubt) (c : UnansweredChange) → IsAmong c (changes_of log ds) → IsLoggedChange log c
are_logged log [] c among = absurd among
are_logged log (d ∷ ds) c among = ⊎_elim
    (λ own. logged_in log d.txn (unanswered d.txn log) (unanswered_chain log d.txn) c own)
    (λ later. are_logged log ds c later)
    (among_append c (unanswered d.txn log) (changes_of log ds) among)

-- a page has the slots that records of the log change
behind_more : (p : PageId) (o : Option (Rid × Image)) (n : ℕ) → n ≤ slots_behind p o n
behind_more p None n = omega arith
behind_more p (Some e) n = by (eq_by_cmp page_cmp p e.0.page)
  where
    by : (b : Bool) → n ≤ cond b (max n (e.0.slot + 1)) n
    by true = omega arith
    by false = omega arith

counted : (log : List LogRecord) (k : ℕ) (r : LogRecord) (e : Rid × Image) → slice_get log k ≡ Some r → image_in r.payload ≡ Some e → e.0.slot < slot_count log e.0.page
counted = by_push (λ log. (k : ℕ) (r : LogRecord) (e : Rid × Image) → slice_get log k ≡ Some r → image_in r.payload ≡ Some e → e.0.slot < slot_count log e.0.page) (λ k r e at is. cc) one_more
  where
    one_more : (log : List LogRecord) (last : LogRecord) → ((k : ℕ) (r : LogRecord) (e : Rid × Image) → slice_get log k ≡ Some r → image_in r.payload ≡ Some e → e.0.slot < slot_count log e.0.page)
        → (k : ℕ) (r : LogRecord) (e : Rid × Image) → slice_get (log ++ last ∷ []) k ≡ Some r → image_in r.payload ≡ Some e → e.0.slot < slot_count (log ++ last ∷ []) e.0.page
    one_more log last known k r e at is = ⊎_elim
        (λ old.
        let less = known k r e old is in
        let more = behind_more e.0.page (image_in last.payload) (slot_count log e.0.page) in
        let whole = slot_count-push log last e.0.page in
        omega (arith, less, more, whole))
        (λ new.
        let here = slot_count-push log last e.0.page ∙ ap (λ (o : Option (Rid × Image)). slots_behind e.0.page o (slot_count log e.0.page)) (ap (λ (x : LogRecord). image_in x.payload) new.1 ∙ is)
        ∙ behind_here e (slot_count log e.0.page) in
        omega (arith, here))
        (own_or_last log last r k at)

-- what the records of a log change lies in the geometry
abbrev pub AreIn : Geometry → List LogRecord → Type 0
AreIn g log = (n : ℕ) (r : LogRecord) (id : Rid) → slice_get log n ≡ Some r → id_in r.payload ≡ Some id → HasSlot g id

-- the table has the log's changes of those in doubt
abbrev pub IsTold : List LogRecord → Transactions → Type 0
IsTold log txns = changes_in_doubt log ≡ reverse (map as_change (all_changes (txns_in txns)))

pub are_told : (log : List LogRecord) (txns : Transactions) → HasDoubts log txns → IsTold log txns
are_told log txns back = changes_same log (doubts_left log) (txns_in txns) back

-- .. also behind turns of undo
pub still_told : (log : List LogRecord) (turns : List ℕ) (last : List LogRecord) (txns : Transactions) → IsUndoneTo log turns last → IsTold log txns → IsTold last txns
still_told log turns last txns undone told = same_changes log turns last undone ∙ told

module _ (v : Version) (log : List LogRecord) (txns : Transactions) (told : IsTold log txns) where
  abbrev changes : List UndoEntry
  changes = all_changes (txns_in txns)

  entry_logged : (e : UndoEntry) → IsAmong e changes → IsLoggedChange log (as_change e)
  entry_logged e among = are_logged log (doubts_left log) (as_change e) (subst (IsAmong (as_change e)) (sym told) (turned_among e changes among))

  -- its page is there
  pub entry_there : (g : Geometry) → AreIn g log → (e : UndoEntry) → IsAmong e changes → HasPage g e.id.page
  entry_there g meant e among = let is = entry_logged e among in (meant (e.lsn - 1) is.found e.id is.here (ap id_in is.says)).0

  -- its number is one of the log's
  pub entry_within : (n : ℕ) → IsAmong n (map (λ (e : UndoEntry). e.lsn) changes) → (0 < n) × (n ≤ length log)
  entry_within n among =
      let at = mapped_one (λ (e : UndoEntry). e.lsn) n changes among in
      let is = entry_logged at.0 at.1 in
      let within = slice_get_within log (at.0.lsn - 1) is.found is.here in
      let same = at.2 in
      let one = is.some in
      (omega (arith, same, one), omega (arith, same, one, within))

  -- it is a Change of one in doubt
  pub entry_in_doubt : (p : PageId) → AreOfPage changes p → IsInDoubtOnPage log p
  entry_in_doubt p (e, among, is) = (as_change e, subst (IsAmong (as_change e)) (sym told) (turned_among e changes among), is)

  -- .. and of one that is kept
  pub entry_behind : (cut : ℕ) (kept : List LogRecord) → log ≡ padded cut kept → (n : ℕ) → IsAmong n (map (λ (e : UndoEntry). e.lsn) changes) → cut < n
  entry_behind cut kept same n among =
      let at = mapped_one (λ (e : UndoEntry). e.lsn) n changes among in
      let is = entry_logged at.0 at.1 in
      let number = at.2 in
      ⊎_elim
      (λ le. absurd (read_none cut kept at.0.lsn (λ lt. absurd (omega (arith, lt, le, number))) at.0.id at.0.before
      (is.some, (is.found, is.after, ap (λ (l : List LogRecord). slice_get l (at.0.lsn - 1)) (sym same) ∙ is.here, is.says))))
      (λ lt. lt)
      (le_or_lt n cut)

  -- .. and its slot one that the log has given the page
  pub entries_on : (p : PageId) → AreOn p (slot_count log p) (images_of changes)
  entries_on p = each changes (λ e among. entry_logged e among)
    where
      each : (es : List UndoEntry) → ((e : UndoEntry) → IsAmong e es → IsLoggedChange log (as_change e)) → AreOn p (slot_count log p) (images_of es)
      each [] are = tt
      each (e ∷ es) are = (
        λ here. let is = are e (inl refl) in subst (λ (q : PageId). e.id.slot < slot_count log q) (sym here) (counted log (e.lsn - 1) is.found (e.id, is.after) is.here (ap image_in is.says)),
        each es (λ x later. are x (inr later)),
      )

  -- ---- the first that finds no room

  -- on pages as records make them of their texts
  pub unkept_on : (g : Geometry) (texts : ℕ → List ℕ) (due : List LogRecord) (n : ℕ) → CannotKeepOn g txns texts due n → IsUnkeptOn g texts log due n
  unkept_on g texts due n none =
      let newer = reverse (map as_change none.newer) in
      let older = reverse (map as_change none.older) in
      let p = none.entry.id.page in
      record {
        kept = newer;
        change = as_change none.entry;
        later = older;
        order = told ∙ ap (λ (es : List UndoEntry). reverse (map as_change es)) none.order ∙ turned_append none.older (none.entry ∷ none.newer)
            ∙ ap (λ (cs : List UnansweredChange). cs ++ older) (turned_push none.entry none.newer) ∙ append_assoc newer (as_change none.entry ∷ []) older;
        number = none.number;
        first = λ q page has made. subst (λ (kept : List (ℕ × ℕ)). FitIn g.version kept (map settled page.images)) (sym (claims_same q none.newer)) (none.first q page has made);
        page = none.page;
        made = none.made;
        no_room = λ can. none.no_room (subst (λ (kept : List (ℕ × ℕ)). CanKeep g.version (claimed_by kept (map settled none.page.images)) none.entry.id.slot (image_len none.entry.before)) (claims_same p none.newer) can);
      }

  -- .. and if none is, what they may put back has room
  pub kept_on : (g : Geometry) (texts : ℕ → List ℕ) (due : List LogRecord) → CanKeepOn g txns texts due → AreKeptOn g texts log due
  kept_on g texts due can p page has made =
      subst (λ (kept : List (ℕ × ℕ)). FitIn g.version kept (map settled page.images)) (sym (ap (claims_of p) told ∙ claims_same p changes)) (can p page has made)

  -- .. as the log leaves them

  module _ (g : Geometry) (slots : PageId → List Slot) (within : (e : UndoEntry) → IsAmong e changes → HasPage g e.id.page) (left : (p : PageId) → HasPage g p → slots p ≡ slots_left log p) where
    fit_same : (p : PageId) (es : List UndoEntry) → ((e : UndoEntry) → IsAmong e es → HasPage g e.id.page) → FitIn v (claims_on p es) (slots p) → FitIn v (claims_on p es) (slots_left log p)
    fit_same p es there fit = ⊎_elim
        (λ none. subst (λ (kept : List (ℕ × ℕ)). FitIn v kept (slots_left log p)) (sym none) tt)
        (λ has. subst (FitIn v (claims_on p es)) (left p has) fit)
        (none_or_there p es there)
      where
        none_or_there : (p : PageId) (es : List UndoEntry) → ((e : UndoEntry) → IsAmong e es → HasPage g e.id.page) → (claims_on p es ≡ []) ⊎ HasPage g p
        none_or_there p [] there = inl refl
        none_or_there p (e ∷ es) there = by (eq_by_cmp page_cmp p e.id.page) refl (none_or_there p es (λ x later. there x (inr later)))
          where
            by : (b : Bool) → eq_by_cmp page_cmp p e.id.page ≡ b → (claims_on p es ≡ []) ⊎ HasPage g p → (cond b (claim (as_change e) ∷ claims_on p es) (claims_on p es) ≡ []) ⊎ HasPage g p
            by true is rest = inr (subst (HasPage g) (sym (tells_apart exact_pages p e.id.page is)) (there e (inl refl)))
            by false is rest = rest

    pub unkept : (n : ℕ) → CannotKeep v txns slots n → IsUnkept v log n
    unkept n none =
        let newer = reverse (map as_change none.newer) in
        let older = reverse (map as_change none.older) in
        let p = none.entry.id.page in
        let there : (e : UndoEntry) → IsAmong e (none.entry ∷ none.newer) → HasPage g e.id.page = λ e among.
        within e (subst (IsAmong e) (sym none.order) (among_right e none.older (none.entry ∷ none.newer) among)) in
        let same : claimed_by (claims_of p newer) (slots_left log p) ≡ claimed_by (claims_on p none.newer) (slots p) =
        ap (λ (kept : List (ℕ × ℕ)). claimed_by kept (slots_left log p)) (claims_same p none.newer) ∙ ap (claimed_by (claims_on p none.newer)) (sym (left p (there none.entry (inl refl)))) in
        record {
          kept = newer;
          change = as_change none.entry;
          later = older;
          order = told ∙ ap (λ (es : List UndoEntry). reverse (map as_change es)) none.order ∙ turned_append none.older (none.entry ∷ none.newer)
              ∙ ap (λ (cs : List UnansweredChange). cs ++ older) (turned_push none.entry none.newer) ∙ append_assoc newer (as_change none.entry ∷ []) older;
          number = none.number;
          first = λ q. subst (λ (kept : List (ℕ × ℕ)). FitIn v kept (slots_left log q)) (sym (claims_same q none.newer)) (fit_same q none.newer (λ e among. there e (inr among)) (none.first q));
          no_room = λ can. none.no_room (subst (λ (s : List Slot). CanKeep v s none.entry.id.slot (image_len none.entry.before)) same can);
        }
