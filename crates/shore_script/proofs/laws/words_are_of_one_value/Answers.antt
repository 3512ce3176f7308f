use Rattle.shore_script.proofs.OneValue.{bytes_once, granule_once, number_once, record_once}
use Rattle.shore_script.proofs.laws.words_are_of_one_value.Goals as goal

pub returns : goal.returns
returns c = record {
  number = number_once;
  id = record_once;
  granule = granule_once;
  bytes = bytes_once;
}
