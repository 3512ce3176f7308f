-- A world in which nothing has changed is the manager that it was.
use Rattle.std.proofs.Common.{◌≡◌, ◌-◌, ℕ, List, [], refl, sym, ◌∙◌, ap, subst}
use Rattle.shore_types.specs.declared.layout.Geometry.{Geometry}
use Rattle.shore_types.specs.declared.layout.TheConstants.{LOG_FRONT_BYTES}
use Rattle.shore_disk.specs.Device.{size}
use Rattle.shore_disk.specs.declared.device.Disk.{Ghosts}
use Rattle.shore_pool.specs.declared.pool.Pool.{Pool}
use Rattle.shore_pool.specs.Pools as pools
use Rattle.shore_model.specs.declared.calls.Call.{Call}
use Rattle.shore_model.specs.declared.histories.Entry.{Entry}
use Rattle.shore_model.specs.declared.histories.Opening.{Opening}
use Rattle.shore_model.specs.declared.log_records.LogRecord.{LogRecord}
use Rattle.laws_runs.specs.CheckpointedStates.{IsAtCheckpoints}
use Rattle.shore_world.specs.declared.world.World.{World}
use Rattle.shore_world.specs.Labels.{IsLogFront, IsVolumeFront}
use Rattle.shore_world.specs.Legs.{IsLedTo, IsUpIn}
use Rattle.shore_world.specs.Promises.{IsManagerOf}
use Rattle.shore_world.specs.Worlds.{IsUnchanged, geometry_in, history_in, stream_bytes_in}

module _ {L V : Type 0} {G : Ghosts L} {H : Ghosts V} (old w : World L V G H) (same : IsUnchanged old w) where
  geometry : geometry_in w ≡ geometry_in old
  geometry = ap (λ (p : Pool V H). pools.geometry_of p) same.pool

  long : size (history_in w) ≡ size (history_in old)
  long = ap (λ (d : L). size (G.history d)) same.device

  log_labelled : (front : List ℕ) → IsLogFront (geometry_in old) (size (history_in old)) front → IsLogFront (geometry_in w) (size (history_in w)) front
  log_labelled front is = subst (λ (x : Geometry × ℕ). IsLogFront x.0 x.1 front) (λ i. (sym geometry i, sym long i)) is

  under_way : (o : Opening) (found : List LogRecord) (es : List Entry) (k : IsUpIn old o found es) → IsAtCheckpoints (geometry_in w) (stream_bytes_in w) o found es k.last
  under_way o found es k = subst (λ (x : Geometry × ℕ). IsAtCheckpoints x.0 (x.1 - LOG_FRONT_BYTES) o found es k.last) (λ i. (sym geometry i, sym long i)) k.under_way

  pub still_up : (o : Opening) (found : List LogRecord) (es : List Entry) (up : IsUpIn old o found es) → (on : IsUpIn w o found es) × (on.last ≡ up.last)
  still_up o found es up = (
    record {
      log_front = up.log_front;
      front = up.front;
      disk = up.disk;
      last = up.last;
      at = same.at up.log_front up.front up.disk up.last.state up.last.store up.at;
      log_labelled = log_labelled up.log_front up.log_labelled;
      volume_labelled = subst (λ (g : Geometry). IsVolumeFront g up.front) (sym geometry) up.volume_labelled;
      under_way = under_way o found es up;
    },
    refl,
  )

  pub led_nowhere : (o : Opening) (found : List LogRecord) (es : List Entry) (up : IsUpIn old o found es) → IsLedTo up [] w
  led_nowhere o found es up = record {
    geometry = geometry;
    long = long;
    plain = [];
    last = up.last;
    made = [];
    moves = (refl, refl);
    are = refl;
    last_front = up.log_front;
    disk = up.disk;
    at = same.at up.log_front up.front up.disk up.last.state up.last.store up.at;
    label = refl;
  }

  pub still_manager : (o : Opening) (es : List Entry) (ws : List (ℕ × Call)) (k : IsManagerOf old o es ws) → (on : IsManagerOf w o es ws) × (on.now ≡ k.now)
  still_manager o es ws k = (
    record {
      found = k.found;
      opening = k.opening;
      log_front = k.log_front;
      front = k.front;
      disk = k.disk;
      now = k.now;
      at = same.at k.log_front k.front k.disk k.now.state k.now.store k.at;
      log_labelled = log_labelled k.log_front k.log_labelled;
      volume_labelled = subst (λ (g : Geometry). IsVolumeFront g k.front) (sym geometry) k.volume_labelled;
      limit = k.limit ∙ ap (λ (g : Geometry). g.max_locks) (sym geometry);
      under_way = subst (λ (x : Geometry × ℕ). IsAtCheckpoints x.0 (x.1 - LOG_FRONT_BYTES) o k.found es k.now) (λ i. (sym geometry i, sym long i)) k.under_way;
      waited = k.waited;
      there = k.there;
      firsts = k.firsts;
      in_order = k.in_order;
    },
    refl,
  )
