use Rattle.shore_shared.proofs.laws.managers_are_up.Goals as goal

pub returns : goal.returns
returns g c w o es ws k = record {
  log_front = k.log_front;
  front = k.front;
  disk = k.disk;
  last = k.now;
  at = k.at;
  log_labelled = k.log_labelled;
  volume_labelled = k.volume_labelled;
  under_way = k.under_way;
}
