-- Records of which only proofs know.
use Rattle.std.specs.Prelude.{List, [], ◌∷◌, ◌++◌}
use Rattle.std.specs.Global.{Vec}
use Rattle.http_server.specs.declared.log.Log.{Log}
use Rattle.shore_model.specs.declared.log_records.LogRecord.{LogRecord}

-- one by one
abbrev pub listed : List (LogRecord × Unit {0}) → List LogRecord
listed [] = []
listed (x ∷ xs) = x.0 ∷ listed xs

-- list by list
abbrev pub all_listed : List (Log LogRecord (Unit {0}) × Unit {0}) → List LogRecord
all_listed [] = []
all_listed (x ∷ xs) = listed x.0.items ++ all_listed xs

abbrev pub vecs_in : List (Vec LogRecord × Unit {0}) → List LogRecord
vecs_in [] = []
vecs_in (x ∷ xs) = x.0.items ++ vecs_in xs

-- what was found, and what came since
abbrev pub all_in : List (Vec LogRecord × Unit {0}) → List (Log LogRecord (Unit {0}) × Unit {0}) → List LogRecord
all_in found later = vecs_in found ++ all_listed later
