-- Legs of a manager are moves over plain data, one leg behind another.
use Rattle.std.proofs.Common.{All, take, ◌≡◌, ◌≤◌, true, ℕ, ◌-◌, List, [], ◌∷◌, ◌++◌, refl, sym, ◌∙◌, ap, subst, append_assoc, append-nil}
use Rattle.std.proofs.Math.Logic.{∥∥₁_map, ∥∥₁_elim, ∥∥₁_prop}
use Rattle.std.specs.Prelude.{}
use Rattle.std.proofs.lemmas.List.Elements.{recursion_from_All}
use Rattle.shore_types.specs.declared.layout.Geometry.{Geometry}
use Rattle.shore_types.specs.declared.layout.TheConstants.{LOG_FRONT_BYTES}
use Rattle.shore_disk.specs.Device.{size}
use Rattle.shore_disk.specs.declared.device.Disk.{Ghosts}
use Rattle.shore_model.specs.declared.calls.Call.{Call}
use Rattle.shore_model.specs.declared.histories.Entry.{Entry}
use Rattle.shore_model.specs.declared.histories.Opening.{Opening}
use Rattle.shore_model.specs.declared.log_records.LogRecord.{LogRecord}
use Rattle.laws_calls.specs.Events.{TicketAsked}
use Rattle.laws_threads.proofs.Asks.{asked}
use Rattle.laws_threads.specs.Amid.{asks_of, entries_of_asks}
use Rattle.laws_runs.proofs.Checkpointing.{moves_go}
use Rattle.laws_runs.specs.CheckpointSteps.{CheckpointedMoves, CheckpointedState}
use Rattle.laws_runs.specs.CheckpointedStates.{IsAtCheckpoints}
use Rattle.shore_world.specs.declared.world.World.{World}
use Rattle.shore_world.specs.Events.{IsServedEvent}
use Rattle.shore_world.specs.EventMoves.{OfManager, PlainMove, moves_among}
use Rattle.shore_world.specs.Exchanges.{OfTicket, Telling, tellings_of, told_by_move, told_in, waited_after, waited_behind_move, waited_in}
use Rattle.shore_world.specs.Labels.{IsLogFront, IsVolumeFront}
use Rattle.shore_world.specs.Legs.{AreLegs, ByEvents, ByThreads, IsLedTo, IsUpIn, Leg, NoForceIsFullIn, ThreadsLead, moves_of_asks, moves_of_legs, tellings_of_asks, tellings_of_legs}
use Rattle.shore_world.specs.Worlds.{durable_in, geometry_in, history_in, stream_bytes_in}
use Rattle.shore_world.proofs.ExchangeLemmas.{runs_told, runs_wait}
use Rattle.shore_world.proofs.LabelLemmas.{as_long, log_front_stays}
use Rattle.shore_world.proofs.StoredLemmas.{HasRun, IsUpAt, run_never_full, run_on, run_run}

-- ---- what is told

-- of moves one behind another
told_join : (ws : List (ℕ × Call)) (moves later : List PlainMove) → told_in ws (moves ++ later) ≡ told_in ws moves ++ told_in (waited_in ws moves) later
told_join ws [] later = refl
told_join ws (e ∷ moves) later =
    ap (λ (l : List Telling). told_by_move ws e ++ l) (told_join (waited_behind_move ws e) moves later)
    ∙ sym (append_assoc (told_by_move ws e) (told_in (waited_behind_move ws e) moves) (told_in (waited_in (waited_behind_move ws e) moves) later))

pub waited_join : (ws : List (ℕ × Call)) (moves later : List PlainMove) → waited_in ws (moves ++ later) ≡ waited_in (waited_in ws moves) later
waited_join ws [] later = refl
waited_join ws (e ∷ moves) later = waited_join (waited_behind_move ws e) moves later

-- asks of tickets tell of these, and nobody waits by them
told_of_asks : (ws : List (ℕ × Call)) (tickets : List ℕ) → told_in ws (moves_of_asks tickets) ≡ tellings_of_asks tickets
told_of_asks ws [] = refl
told_of_asks ws (ticket ∷ tickets) = ap (λ (l : List Telling). OfTicket ticket true ∷ l) (told_of_asks ws tickets)

waited_by_asks : (ws : List (ℕ × Call)) (tickets : List ℕ) → waited_in ws (moves_of_asks tickets) ≡ ws
waited_by_asks ws [] = refl
waited_by_asks ws (ticket ∷ tickets) = waited_by_asks ws tickets

asks_among : (tickets : List ℕ) → moves_among (asks_of tickets) ≡ moves_of_asks tickets
asks_among [] = refl
asks_among (ticket ∷ tickets) = ap (λ (l : List PlainMove). OfManager (TicketAsked ticket true) ∷ l) (asks_among tickets)

module _ {L V : Type 0} {G : Ghosts L} {H : Ghosts V} where
  -- what legs tell is what their moves tell
  pub legs_told : (ws : List (ℕ × Call)) (old : World L V G H) (legs : List (Leg L V G H)) (new : World L V G H) → AreLegs old legs new → told_in ws (moves_of_legs legs) ≡ tellings_of_legs ws legs
  legs_told ws old [] new are = refl
  legs_told ws old (ByEvents events steps moves mid ∷ legs) new are =
      told_join ws moves (moves_of_legs legs)
      ∙ (λ i. runs_told old ws events steps moves mid are.0.1 i ++ ap (λ (l : List (ℕ × Call)). told_in l (moves_of_legs legs)) (runs_wait old ws events steps moves mid are.0.1) i)
      ∙ ap (λ (l : List Telling). tellings_of ws events steps ++ l) (legs_told (waited_after ws events steps) mid legs new are.1)
  legs_told ws old (ByThreads trail tickets mid ∷ legs) new are =
      told_join ws trail (moves_of_asks tickets ++ moves_of_legs legs)
      ∙ ap (λ (l : List Telling). told_in ws trail ++ l)
      (told_join (waited_in ws trail) (moves_of_asks tickets) (moves_of_legs legs)
      ∙ (λ i. told_of_asks (waited_in ws trail) tickets i ++ ap (λ (l : List (ℕ × Call)). told_in l (moves_of_legs legs)) (waited_by_asks (waited_in ws trail) tickets) i)
      ∙ ap (λ (l : List Telling). tellings_of_asks tickets ++ l) (legs_told (waited_in ws trail) mid legs new are.1))

-- ---- where they lead

module _ {L V : Type 0} {G : Ghosts L} {H : Ghosts V} (g : Geometry) (log_bytes : ℕ) (o : Opening) (found : List LogRecord) (first_front front : List ℕ) (of_log : IsLogFront g log_bytes first_front)
    (of_volume : IsVolumeFront g front) where
  abbrev Run : List Entry → CheckpointedState → List PlainMove → World L V G H → Type 0
  Run = HasRun g (log_bytes - LOG_FRONT_BYTES) o found (take 512 first_front) front

  abbrev At : List Entry → World L V G H → CheckpointedState → Type 0
  At = IsUpAt g (log_bytes - LOG_FRONT_BYTES) o found (take 512 first_front) front

  stays_up : (es : List Entry) (w : World L V G H) (m : CheckpointedState) → At es w m → Run es m [] w
  stays_up es w m up = record {
    plain = [];
    last = m;
    made = [];
    stored = (refl, refl);
    same = refl;
    up = subst (λ (l : List Entry). At l w m) (sym (append-nil es)) up;
  }

  -- with its labels
  abbrev pub up_in : (es : List Entry) (w : World L V G H) (m : CheckpointedState) → At es w m → IsUpIn w o found es
  up_in es w m up = record {
    log_front = up.log_front;
    front = front;
    disk = up.disk;
    last = m;
    at = up.at;
    log_labelled = log_front_stays g (geometry_in w) log_bytes (size (history_in w)) first_front up.log_front up.geometry (as_long _ log_bytes (size (history_in w)) of_log.long up.long) up.labelled of_log;
    volume_labelled = subst (λ (x : Geometry). IsVolumeFront x front) (sym up.geometry) of_volume;
    under_way = subst (λ (x : Geometry × ℕ). IsAtCheckpoints x.0 x.1 o found es m) (λ i. (sym up.geometry i, sym up.long i)) up.under_way;
  }

  -- a state that the world was at is led on by threads
  led_on : (es : List Entry) (old : World L V G H) (m : CheckpointedState) (up : At es old m) (trail : List PlainMove) (new : World L V G H) → IsLedTo (up_in es old m up) trail new → Run es m trail new
  led_on es old m up trail new led =
      let moves : CheckpointedMoves g m led.plain led.last led.made = subst (λ (x : Geometry). CheckpointedMoves x m led.plain led.last led.made) up.geometry led.moves in
      record {
        plain = led.plain;
        last = led.last;
        made = led.made;
        stored = moves;
        same = led.are;
        up = record {
          log_front = led.last_front;
          labelled = led.label ∙ up.labelled;
          disk = led.disk;
          at = led.at;
          geometry = led.geometry ∙ up.geometry;
          long = ap (λ n. n - LOG_FRONT_BYTES) led.long ∙ up.long;
          under_way = moves_go g (log_bytes - LOG_FRONT_BYTES) o found es m up.under_way led.plain led.last led.made moves;
        };
      }

  threads_run : (es : List Entry) (old : World L V G H) (m : CheckpointedState) → At es old m → (trail : List PlainMove) (new : World L V G H) → ThreadsLead old trail new → ∥ Run es m trail new ∥₁
  threads_run es old m up trail new lead = ∥∥₁_map (lead o found es (up_in es old m up)) (led_on es old m up trail new)

  -- tickets that are durable may be asked then
  asks_run : (es : List Entry) (w : World L V G H) (m : CheckpointedState) → At es w m → (tickets : List ℕ) → All (λ n. n ≤ durable_in w) tickets → Run es m (moves_of_asks tickets) w
  asks_run es w m up tickets durable =
      let known : All (λ n. n ≤ m.state.durable) tickets = subst (λ d. All (λ n. n ≤ d) tickets) (sym up.at.is_in.beside.parts.durable_is) durable in
      let moves = asked g m up.under_way.under_way.stored tickets (recursion_from_All (λ n. n ≤ m.state.durable) tickets known) in
      record {
        plain = asks_of tickets;
        last = m;
        made = entries_of_asks tickets;
        stored = moves;
        same = asks_among tickets;
        up = record {
          log_front = up.log_front;
          labelled = up.labelled;
          disk = up.disk;
          at = up.at;
          geometry = up.geometry;
          long = up.long;
          under_way = moves_go g (log_bytes - LOG_FRONT_BYTES) o found es m up.under_way (asks_of tickets) m (entries_of_asks tickets) moves;
        };
      }

  pub legs_run : (es : List Entry) (old : World L V G H) (m : CheckpointedState) → At es old m → (legs : List (Leg L V G H)) (new : World L V G H) → AreLegs old legs new
      → ∥ Run es m (moves_of_legs legs) new ∥₁
  legs_run es old m up [] new same = ∣ subst (Run es m []) (sym same) (stays_up es old m up) ∣₁
  legs_run es old m up (ByEvents events steps moves mid ∷ legs) new are =
      let one = run_run g (log_bytes - LOG_FRONT_BYTES) o found (take 512 first_front) front es old m up events steps moves mid (recursion_from_All IsServedEvent events are.0.0) are.0.1 in
      ∥∥₁_map (legs_run (es ++ one.made) mid one.last one.up legs new are.1)
      (λ two. run_on g (log_bytes - LOG_FRONT_BYTES) o found (take 512 first_front) front es m moves (moves_of_legs legs) mid new one two)
  legs_run es old m up (ByThreads trail tickets mid ∷ legs) new are =
      ∥∥₁_elim (threads_run es old m up trail mid are.0.0) ∥∥₁_prop (λ one.
      let asks = asks_run (es ++ one.made) mid one.last one.up tickets are.0.1 in
      ∥∥₁_map (legs_run ((es ++ one.made) ++ asks.made) mid asks.last asks.up legs new are.1)
      (λ two. run_on g (log_bytes - LOG_FRONT_BYTES) o found (take 512 first_front) front es m trail (moves_of_asks tickets ++ moves_of_legs legs) mid new one
      (run_on g (log_bytes - LOG_FRONT_BYTES) o found (take 512 first_front) front (es ++ one.made) one.last (moves_of_asks tickets) (moves_of_legs legs) mid new asks two)))

  -- no force among their events is refused for room
  pub legs_never_full : (es : List Entry) (old : World L V G H) (m : CheckpointedState) → At es old m → (legs : List (Leg L V G H)) (new : World L V G H) → AreLegs old legs new
      → ∥ NoForceIsFullIn legs ∥₁
  legs_never_full es old m up [] new same = ∣ tt ∣₁
  legs_never_full es old m up (ByEvents events steps moves mid ∷ legs) new are =
      let served = recursion_from_All IsServedEvent events are.0.0 in
      let one = run_run g (log_bytes - LOG_FRONT_BYTES) o found (take 512 first_front) front es old m up events steps moves mid served are.0.1 in
      ∥∥₁_map (legs_never_full (es ++ one.made) mid one.last one.up legs new are.1)
      (λ rest. (run_never_full g (log_bytes - LOG_FRONT_BYTES) o found (take 512 first_front) front es old m up events steps moves mid served are.0.1, rest))
  legs_never_full es old m up (ByThreads trail tickets mid ∷ legs) new are =
      ∥∥₁_elim (threads_run es old m up trail mid are.0.0) ∥∥₁_prop (λ one. legs_never_full (es ++ one.made) mid one.last one.up legs new are.1)
