-- The work of a step can be made so that a loss of power behind the step leaves the pages that one in its midst leaves: those that were in place before it are written back first.
use Rattle.std.proofs.Common.{◌≡◌, ◌⊎◌, inl, inr, ⊎_elim, ◌≤◌, ◌+◌, ◌++◌, ℕ, List, [], ◌∷◌, true, false, cond, Option, Some, None, refl, sym, ap, subst, ◌∙◌, length, arith}
use Rattle.std.specs.Prelude.{◌&&◌, nat_lt}
use Rattle.std.specs.Cmp.{eq_by_cmp_equiv}
use Rattle.std.specs.List.{AllByRecursion}
use Rattle.std.specs.Ordering.{eq_by_cmp}
use Rattle.std.proofs.lemmas.Bool.{true≢false}
use Rattle.shore_types.specs.Ids.{page_cmp, pages_total}
use Rattle.shore_types.specs.Images.{Image}
use Rattle.shore_types.specs.declared.ids.PageId.{PageId}
use Rattle.shore_types.specs.declared.ids.Rid.{Rid}
use Rattle.shore_model.specs.declared.log_records.LogRecord.{LogRecord}
use Rattle.shore_model.specs.Logs.{image_in}
use Rattle.laws_lives.proofs.Invariant.{equal_pages}
use Rattle.laws_lives.specs.ManagerSteps.{IsWork, WorksTo}
use Rattle.laws_lives.specs.Pages.{LoggedPage, LoggedPages, redone_on, slots_with}
use Rattle.laws_lives.specs.Recovery.{AppendRecord, CrashMayLeave, FlushPage, ForceLog, LeadsTo, LosePower, RecoveryEvent, RecoveryState, RedoRecord, after_append, after_flush, after_force}
use Rattle.laws_checkpoints.specs.CheckpointedStores.{CheckpointedStore}
use Rattle.laws_checkpoints.specs.RecoveryNumbers.{recovery_after}
use Rattle.laws_runs.proofs.PlainWorks.{works_are_work}
use Rattle.laws_runs.specs.CheckpointSteps.{StoreWorks}

page_itself : (p : PageId) → eq_by_cmp page_cmp p p ≡ true
page_itself p = (eq_by_cmp_equiv pages_total).refl p

abbrev after_work : CheckpointedStore → RecoveryEvent → RecoveryState → CheckpointedStore
after_work s e next = record s { store = next; recovery = recovery_after s.store e s.recovery }

none_some : {e : Rid × Image} → ◌≡◌ {A = Option (Rid × Image)} None (Some e) → ⊥
none_some e = cc

unwrap : {x y : Rid × Image} → Some x ≡ Some y → x ≡ y
unwrap e = cc

module _ (left : LoggedPages) where
  -- ---- a store of whose volume a crash leaves these pages

  module _ (s : RecoveryState) (leaves : CrashMayLeave s left) where
    -- a record is appended, whose page the volume has so already
    appended : (r : LogRecord) → ((e : Rid × Image) → image_in r.payload ≡ Some e → left e.0.page ≡ s.volume e.0.page) → CrashMayLeave (after_append s r) left
    appended r has p = by_image (image_in r.payload) refl
      where
        by_image : (o : Option (Rid × Image)) → image_in r.payload ≡ o
            → (left p ≡ s.volume p) ⊎ ((left p ≡ redone_on (s.redone + 1) o p (s.in_place p)) × ((redone_on (s.redone + 1) o p (s.in_place p)).number ≤ s.durable))
        by_image None is = leaves p
        by_image (Some e) is =
            let page : LoggedPage = s.in_place p in
            let done : LoggedPage = record { number = s.redone + 1; slots = slots_with p page.slots e.0 e.1 } in
            elim (eq_by_cmp page_cmp p e.0.page) as (λ b. eq_by_cmp page_cmp p e.0.page ≡ b
            → (left p ≡ s.volume p) ⊎ ((left p ≡ cond (b && nat_lt page.number (s.redone + 1)) done page) × ((cond (b && nat_lt page.number (s.redone + 1)) done page).number ≤ s.durable))) [
              | true ↦ λ yes. inl (subst (λ (x : PageId). left x ≡ s.volume x) (sym (equal_pages p e.0.page yes)) (has e is))
              | false ↦ λ no. leaves p
            ] refl

    -- a page is written back, which is left as it is in place
    flushed : (q : PageId) → left q ≡ s.in_place q → CrashMayLeave (after_flush s q) left
    flushed q same p = elim (eq_by_cmp page_cmp p q) as (λ b. eq_by_cmp page_cmp p q ≡ b
        → (left p ≡ cond b (s.in_place q) (s.volume p)) ⊎ ((left p ≡ s.in_place p) × ((s.in_place p).number ≤ s.durable))) [
          | true ↦ λ yes. inl (ap left (equal_pages p q yes) ∙ same)
          | false ↦ λ no. leaves p
        ] refl

    has_it : (q : PageId) → left q ≡ s.in_place q → left q ≡ (after_flush s q).volume q
    has_it q same = elim (eq_by_cmp page_cmp q q) as (λ b. eq_by_cmp page_cmp q q ≡ b → left q ≡ cond b (s.in_place q) (s.volume q)) [
      | true ↦ λ yes. same
      | false ↦ λ no. absurd (true≢false (sym (page_itself q) ∙ no))
    ] refl

    forced : (n : ℕ) → s.durable ≤ n → CrashMayLeave (after_force s n) left
    forced n more p = ⊎_elim (λ old. inl old) (λ new. let low = new.1 in inr (new.0, omega (arith, low, more))) (leaves p)

  -- ---- the work of a step, and other work

  -- One store beside another: all is the same but the volume, of which a crash leaves these pages.
  pub record IsBeside (s b : CheckpointedStore) : Type 0 where
    pub log : b.store.log ≡ s.store.log
    pub durable : b.store.durable ≡ s.store.durable
    pub redone : b.store.redone ≡ s.store.redone
    pub in_place : b.store.in_place ≡ s.store.in_place
    pub stage : b.stage ≡ s.stage
    pub anchored : b.anchored ≡ s.anchored
    pub leaves : CrashMayLeave b.store left

  -- other work leads from the one beside to one beside
  pub record IsReached (b last : CheckpointedStore) : Type 0 where
    pub others : List RecoveryEvent
    pub end : CheckpointedStore
    pub are : AllByRecursion IsWork others
    pub works : StoreWorks b others end
    pub beside : IsBeside last end

  -- one step of work before
  before : (b : CheckpointedStore) (e : RecoveryEvent) (next : RecoveryState) (last : CheckpointedStore) → IsWork e → LeadsTo b.store e next → IsReached (after_work b e next) last → IsReached b last
  before b e next last work leads r = record { others = e ∷ r.others; end = r.end; are = (work, r.are); works = (next, leads, r.works); beside = r.beside }

  -- a record is appended: the page that it changes is written back before, if it is left as it is in place
  append_reached : (s b : CheckpointedStore) → IsBeside s b → (r : LogRecord) (last : CheckpointedStore) (next : RecoveryState) → LeadsTo s.store (AppendRecord r) next
      → ((c : CheckpointedStore) → IsBeside (after_work s (AppendRecord r) next) c → IsReached c last) → IsReached b last
  append_reached s b beside r last to leads rest = by_image (image_in r.payload) refl
    where
      whole : (c : RecoveryState) → c.log ≡ b.store.log → c.redone ≡ b.store.redone → c.redone ≡ length c.log
      whole c log redone = redone ∙ beside.redone ∙ leads.0 ∙ ap length (sym beside.log ∙ sym log)

      -- .. of a store beside that has the record's page so already
      on : (c : CheckpointedStore) → IsBeside s c → ((e : Rid × Image) → image_in r.payload ≡ Some e → left e.0.page ≡ c.store.volume e.0.page) → c.store.redone ≡ length c.store.log → IsReached c last
      on c now has all =
          let is = leads.1 in
          let after = after_append c.store r in
          before c (AppendRecord r) after last tt (all, refl)
          (rest (after_work c (AppendRecord r) after) (record {
            log = ap (λ l. l ++ r ∷ []) now.log ∙ sym (ap (λ (x : RecoveryState). x.log) is);
            durable = now.durable ∙ sym (ap (λ (x : RecoveryState). x.durable) is);
            redone = ap (λ n. n + 1) now.redone ∙ sym (ap (λ (x : RecoveryState). x.redone) is);
            in_place = (λ i p. redone_on (now.redone i + 1) (image_in r.payload) p (now.in_place i p)) ∙ sym (ap (λ (x : RecoveryState). x.in_place) is);
            stage = now.stage;
            anchored = now.anchored;
            leaves = appended c.store now.leaves r has;
          }))

      by_image : (o : Option (Rid × Image)) → image_in r.payload ≡ o → IsReached b last
      by_image None is = on b beside (λ e some. absurd (none_some (sym is ∙ some))) (whole b.store refl refl)
      by_image (Some e) is = ⊎_elim
          (λ old. on b beside (λ f some. subst (λ (x : Rid × Image). left x.0.page ≡ b.store.volume x.0.page) (unwrap (sym is ∙ some)) old) (whole b.store refl refl))
          (λ new.
          let q = e.0.page in
          let next = after_flush b.store q in
          let flush = after_work b (FlushPage q) next in
          before b (FlushPage q) next last tt (new.1, refl)
          (on flush (record {
            log = beside.log;
            durable = beside.durable;
            redone = beside.redone;
            in_place = beside.in_place;
            stage = beside.stage;
            anchored = beside.anchored;
            leaves = flushed b.store beside.leaves q new.0;
          }) (λ f some. subst (λ (x : Rid × Image). left x.0.page ≡ next.volume x.0.page) (unwrap (sym is ∙ some)) (has_it b.store beside.leaves q new.0)) (whole next refl refl)))
          (beside.leaves e.0.page)

  pub reached : (s b : CheckpointedStore) → IsBeside s b → (works : List RecoveryEvent) (last : CheckpointedStore) → AllByRecursion IsWork works → StoreWorks s works last → IsReached b last
  reached s b beside [] last are h = record { others = []; end = b; are = tt; works = refl; beside = subst (λ (x : CheckpointedStore). IsBeside x b) (sym h) beside }
  reached s b beside (ForceLog n ∷ works) last are h =
      let to = h.1.2 in
      let more : b.store.durable ≤ n = let low = h.1.0 in omega (arith, low, beside.durable) in
      let next = after_force b.store n in
      before b (ForceLog n) next last tt (more, (let most = h.1.1 in omega (arith, most, ap length beside.log)), refl)
      (reached (after_work s (ForceLog n) h.0) (after_work b (ForceLog n) next) (record {
        log = beside.log ∙ sym (ap (λ (x : RecoveryState). x.log) to);
        durable = sym (ap (λ (x : RecoveryState). x.durable) to);
        redone = beside.redone ∙ sym (ap (λ (x : RecoveryState). x.redone) to);
        in_place = beside.in_place ∙ sym (ap (λ (x : RecoveryState). x.in_place) to);
        stage = beside.stage;
        anchored = beside.anchored;
        leaves = forced b.store beside.leaves n more;
      }) works last are.1 h.2)
  reached s b beside (FlushPage p ∷ works) last are h =
      let to = h.1.1 in
      reached (after_work s (FlushPage p) h.0) b (record {
        log = beside.log ∙ sym (ap (λ (x : RecoveryState). x.log) to);
        durable = beside.durable ∙ sym (ap (λ (x : RecoveryState). x.durable) to);
        redone = beside.redone ∙ sym (ap (λ (x : RecoveryState). x.redone) to);
        in_place = beside.in_place ∙ sym (ap (λ (x : RecoveryState). x.in_place) to);
        stage = beside.stage;
        anchored = beside.anchored;
        leaves = beside.leaves;
      }) works last are.1 h.2
  reached s b beside (AppendRecord r ∷ works) last are h =
      append_reached s b beside r last h.0 h.1 (λ c now. reached (after_work s (AppendRecord r) h.0) c now works last are.1 h.2)
  reached s b beside (RedoRecord ∷ works) last are h = absurd are.0
  reached s b beside (LosePower n gone begin ∷ works) last are h = absurd are.0

  -- from one store on
  pub otherwise : (s : CheckpointedStore) → CrashMayLeave s.store left → (works : List RecoveryEvent) (last : CheckpointedStore) → WorksTo s.store works last.store → StoreWorks s works last → IsReached s last
  otherwise s leaves works last are h =
      reached s s (record { log = refl; durable = refl; redone = refl; in_place = refl; stage = refl; anchored = refl; leaves = leaves }) works last (works_are_work s.store works last.store are) h
