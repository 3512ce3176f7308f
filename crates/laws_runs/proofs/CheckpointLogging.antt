-- Begin, End and Anchor record of a checkpoint have their room, and leave a manager under way.
use Rattle.std.proofs.Common.{◌≡◌, ⊎_elim, ◌+◌, ◌<◌, ◌≤◌, ℕ, List, [], ◌∷◌, true, refl, sym, ap, subst, ◌∙◌, length, arith, length-append}
use Rattle.std.specs.Prelude.{All}
use Rattle.std.proofs.lemmas.List.{length-take, take-append-le}
use Rattle.shore_types.specs.declared.layout.Geometry.{Geometry}
use Rattle.shore_types.specs.declared.layout.TheConstants.{ENDING_COST, GREATEST_CHECKPOINT, LAST_OPENED, LAST_TXN, LONGEST_FRAME, MAX_TRANSACTIONS}
use Rattle.shore_model.specs.declared.histories.Entry.{Entry}
use Rattle.shore_model.specs.declared.histories.Opening.{Opening}
use Rattle.shore_model.specs.declared.log_records.LogRecord.{LogRecord}
use Rattle.shore_model.specs.declared.log_records.Payload.TheVariants.{Anchor, CheckpointBegin}
use Rattle.shore_model.specs.Logs.{IsTable, MayFollow, is_of_checkpoint}
use Rattle.shore_logrec.specs.Text.{cost_of}
use Rattle.shore_analysis.specs.Meant.{IsInBounds, ListsInBounds, next_in}
use Rattle.laws_lives.proofs.Lists.{within_or_beyond}
use Rattle.laws_lives.specs.Recovery.{after_append}
use Rattle.laws_calls.proofs.Rooms.{cost_pushed}
use Rattle.laws_calls.specs.States.{cost_of_log, log_room, next_number}
use Rattle.laws_checkpoints.proofs.CheckpointSteps.{cut_now}
use Rattle.laws_checkpoints.proofs.Orders.{order_kept}
use Rattle.laws_checkpoints.proofs.StoreEvents.{anchored_durable}
use Rattle.laws_checkpoints.proofs.RingEvents.{anchor_bytes, end_bytes}
use Rattle.laws_checkpoints.specs.Checkpoints.{Checkpoint, cut_of, cut_point, end_payload, of_checkpoint}
use Rattle.laws_checkpoints.specs.CheckpointedStores.{AnchorLogged, BeginCheckpoint, BeginLogged, CheckpointStage, CheckpointedEvent, CheckpointedLeadsTo, EndCheckpoint, EndLogged, NameCheckpoint, NoCheckpoint, begun_now}
use Rattle.laws_checkpoints.specs.RingRooms.{HasRingRoom}
use Rattle.laws_checkpoints.specs.StoresInOrder.{IsInOrder}
use Rattle.laws_runs.proofs.NotedStates.{HasItsRoom, noted_under_way}
use Rattle.laws_runs.proofs.Prefixes.{whole_placed}
use Rattle.laws_runs.proofs.RoomyEnds.{last_in_bounds}
use Rattle.laws_runs.proofs.Running.{last_follows}
use Rattle.laws_runs.specs.CheckpointSteps.{CheckpointedState, IsAdmitted, IsCheckpointNow, noted, owed_to, ring_room, stored_in}
use Rattle.laws_runs.specs.CheckpointedStates.{BeganBehind, IsAtCheckpoints, NamesNextInBounds}
use Rattle.laws_runs.specs.RoomyLogs.{IsPlacedLog}

-- the sums of a ring with a record more, and with so much owed
pub record HasLogged (m : CheckpointedState) (r : LogRecord) (owed : ℕ) : Type 0 where
  pub fits : cost_of_log m.state.log + cost_of r.payload + (log_room m.state).reserved + owed + LONGEST_FRAME ≤ m.state.stream_bytes
  pub numbers : length m.state.log + 1 + (log_room m.state).reserved + owed < LAST_OPENED
  pub most : owed + ENDING_COST ≤ GREATEST_CHECKPOINT

module _ (g : Geometry) (ring_bytes : ℕ) (o : Opening) (found : List LogRecord) (es : List Entry) (m : CheckpointedState) (k : IsAtCheckpoints g ring_bytes o found es m) where
  pub cut_within : cut_of m.store.anchored ≤ length m.state.log
  cut_within = let within = (cut_now m.store k.in_order).within in let long = ap length k.under_way.stored.log in omega (arith, within, long)

  -- the anchored checkpoint began in the log
  anchored_before : m.store.anchored.checkpoint ≤ length m.state.log
  anchored_before = ⊎_elim
      (λ none. let zero : m.store.anchored.checkpoint ≡ 0 = ap (λ a. a.checkpoint) none in omega (arith, zero))
      (λ at.
      let h = at.1 in
      let s = m.store.store in
      let begun = anchored_durable s.log k.in_order.lawful s.durable s.volume s.in_place m.store.anchored at.0 h in
      let its = h.is_its in
      let some = h.some in
      let short = length-take s.durable s.log in
      let long = ap length k.under_way.stored.log in
      omega (arith, begun, its, some, short, long))
      k.in_order.anchor

  -- the event logs this record, which has its room
  module _ (r : LogRecord) (stage : CheckpointStage) (its : is_of_checkpoint r.payload ≡ true) (e : CheckpointedEvent) (leads : CheckpointedLeadsTo m.store e (noted m r stage).store)
      (has : HasLogged m r (owed_to stage)) (next : next_in r.payload ≤ LAST_TXN) (names : NamesNextInBounds stage) (later : BeganBehind m.store.anchored.checkpoint stage) where
    in_order : IsInOrder (noted m r stage).store
    in_order = order_kept m.store e (noted m r stage).store k.in_order leads

    follows : MayFollow m.state.log r
    follows = subst (λ rs. MayFollow rs r) k.under_way.stored.log (last_follows m.store.store.log r in_order.lawful)

    its_room : HasItsRoom m.state r
    its_room = let fits = has.fits in let numbers = has.numbers in record { fits = omega (arith, fits); number = omega (arith, numbers) }

    lists : ListsInBounds g r.payload
    lists =
        let is = k.under_way.stored.log in
        let placed = whole_placed g m.state.stream_bytes m.state.durable m.state.log k.under_way.leaves.prefixes in
        last_in_bounds g m.store.store.log r (subst (All (IsInBounds g)) (sym is) placed.inside) in_order.ends

    whole : (after_append m.store.store r).redone ≡ length (after_append m.store.store r).log
    whole = let done = k.under_way.redone in let long = length-append m.store.store.log (r ∷ []) in omega (arith, done, long)

    ring_stays : HasRingRoom (ring_room (noted m r stage))
    ring_stays =
        let cost = cost_pushed m.state.log r in
        let long = length-append m.state.log (r ∷ []) in
        let fits = has.fits in
        let numbers = has.numbers in
        let short = k.room.short in
        record { fits = omega (arith, fits, cost); numbers = omega (arith, numbers, long); short = omega (arith, short, cost); most = has.most }

    pub logged : IsAtCheckpoints g ring_bytes o found es (noted m r stage)
    logged = record {
      under_way = noted_under_way g m.state.stream_bytes o found es (stored_in m) k.under_way r follows its its_room next lists (after_append m.store.store r) refl in_order.recoverable whole;
      in_order = in_order;
      room = ring_stays;
      limit = k.limit ∙ ap (λ rs. ring_bytes + cost_of_log rs) (sym (take-append-le (cut_of m.store.anchored) m.state.log (r ∷ []) cut_within));
      short = k.short;
      next = names;
      later = later;
    }

  -- ---- the begin

  module _ (c : Checkpoint) (kept_from : ℕ) (none : m.store.stage ≡ NoCheckpoint) (now : IsCheckpointNow m c kept_from) (admitted : IsAdmitted m c kept_from) where
    few_txns : length c.txns ≤ MAX_TRANSACTIONS
    few_txns = ⊎_elim (λ few. few) (λ many. absurd (placed.few (c.txns, table, many))) (within_or_beyond (length c.txns) MAX_TRANSACTIONS)
      where
        table : IsTable m.state.log c.txns
        table = subst (λ rs. IsTable rs c.txns) k.under_way.stored.log now.tables.txns_now

        placed : IsPlacedLog g m.state.log
        placed = whole_placed g m.state.stream_bytes m.state.durable m.state.log k.under_way.leaves.prefixes

    is_fresh : begun_now m.store.store c.next c.txns c.dirty ≡ c
    is_fresh =
        let begin = now.begin in
        let long = ap length k.under_way.stored.log in
        let same : length m.store.store.log + 1 ≡ c.begin = omega (arith, begin, long) in
        ap (λ b. record { begin = b; next = c.next; txns = c.txns; dirty = c.dirty }) same

    begin_leads : CheckpointedLeadsTo m.store (BeginCheckpoint c.next c.txns c.dirty) (noted m (of_checkpoint CheckpointBegin) (BeginLogged c)).store
    begin_leads = (
      none,
      k.under_way.redone,
      now.tables,
      ap (λ x. record m.store { store = after_append m.store.store (of_checkpoint CheckpointBegin); stage = BeginLogged x }) (sym is_fresh),
    )

    begin_has : HasLogged m (of_checkpoint CheckpointBegin) (owed_to (BeginLogged c))
    begin_has =
        let fits = admitted.fits in
        let numbers = admitted.numbers in
        let short = k.room.short in
        let few = few_txns in
        let pages = now.fits.few_pages in
        let one : cost_of CheckpointBegin ≡ ENDING_COST = refl in
        record { fits = omega (arith, fits, one); numbers = omega (arith, numbers, fits, short); most = omega (arith, few, pages) }

    pub begun : IsAtCheckpoints g ring_bytes o found es (noted m (of_checkpoint CheckpointBegin) (BeginLogged c))
    begun =
        let next = now.next in
        let txns = k.under_way.leaves.txns in
        logged (of_checkpoint CheckpointBegin) (BeginLogged c) refl (BeginCheckpoint c.next c.txns c.dirty) begin_leads begin_has (omega arith) (omega (arith, next, txns)) (let begin = now.begin in let old = anchored_before in omega (arith, begin, old))

  -- ---- its End

  module _ (c : Checkpoint) (at : m.store.stage ≡ BeginLogged c) where
    owed_end : HasRingRoom (record { room = log_room m.state; to_log = owed_to (BeginLogged c) })
    owed_end = subst (λ st. HasRingRoom (record { room = log_room m.state; to_log = owed_to st })) at k.room

    pub end_has : HasLogged m (of_checkpoint (end_payload c)) (owed_to (EndLogged c (next_number m.state)))
    end_has =
        let cost = end_bytes c.begin c.next c.txns c.dirty in
        let fits = owed_end.fits in
        let numbers = owed_end.numbers in
        let most = owed_end.most in
        record { fits = omega (arith, cost, fits); numbers = omega (arith, numbers); most = omega (arith, most) }

    its_number : length m.store.store.log + 1 ≡ next_number m.state
    its_number = let long = ap length k.under_way.stored.log in omega (arith, long)

    pub ended : IsAtCheckpoints g ring_bytes o found es (noted m (of_checkpoint (end_payload c)) (EndLogged c (next_number m.state)))
    ended =
        logged (of_checkpoint (end_payload c)) (EndLogged c (next_number m.state)) refl EndCheckpoint (
          c,
          at,
          k.under_way.redone,
          ap (λ n. record m.store { store = after_append m.store.store (of_checkpoint (end_payload c)); stage = EndLogged c n }) (sym its_number),
        ) end_has (subst NamesNextInBounds at k.next) tt (subst (BeganBehind m.store.anchored.checkpoint) at k.later)

  -- ---- its Anchor record

  module _ (c : Checkpoint) (n : ℕ) (at : m.store.stage ≡ EndLogged c n) (forced : n ≤ m.state.durable) where
    owed_anchor : HasRingRoom (record { room = log_room m.state; to_log = owed_to (EndLogged c n) })
    owed_anchor = subst (λ st. HasRingRoom (record { room = log_room m.state; to_log = owed_to st })) at k.room

    pub anchor_has : HasLogged m (of_checkpoint (Anchor c.begin (cut_point c))) (owed_to (AnchorLogged c (next_number m.state)))
    anchor_has =
        let cost = anchor_bytes c.begin (cut_point c) in
        let fits = owed_anchor.fits in
        let numbers = owed_anchor.numbers in
        let most = owed_anchor.most in
        record { fits = omega (arith, cost, fits); numbers = omega (arith, numbers); most = omega (arith, most) }

    number_is : length m.store.store.log + 1 ≡ next_number m.state
    number_is = let long = ap length k.under_way.stored.log in omega (arith, long)

    pub named : IsAtCheckpoints g ring_bytes o found es (noted m (of_checkpoint (Anchor c.begin (cut_point c))) (AnchorLogged c (next_number m.state)))
    named =
        let told = k.under_way.stored.durable in
        logged (of_checkpoint (Anchor c.begin (cut_point c))) (AnchorLogged c (next_number m.state)) refl NameCheckpoint (
          c,
          n,
          at,
          omega (arith, forced, told),
          k.under_way.redone,
          ap (λ i. record m.store { store = after_append m.store.store (of_checkpoint (Anchor c.begin (cut_point c))); stage = AnchorLogged c i }) (sym number_is),
        ) anchor_has (omega arith) tt (subst (BeganBehind m.store.anchored.checkpoint) at k.later)
