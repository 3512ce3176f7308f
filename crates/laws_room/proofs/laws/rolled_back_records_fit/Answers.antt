use Rattle.std.proofs.Common.{[]}
use Rattle.laws_room.proofs.RolledBack.{rolled_bytes, rolled_claimed, rolled_room}
use Rattle.laws_room.proofs.laws.rolled_back_records_fit.Goals as goal

pub returns-clause-room : goal.returns-clause-room
returns-clause-room c v R undos some counts p n k each le = rolled_room v R undos some counts k each p n le

pub returns-clause-bytes : goal.returns-clause-bytes
returns-clause-bytes c v R undos some counts p n k each le = rolled_bytes v R undos some counts k each p n le

pub returns-clause-claimed : goal.returns-clause-claimed
returns-clause-claimed c v R undos some counts k each = rolled_claimed v R undos some counts k each

pub returns-clause-in_place : goal.returns-clause-in_place
returns-clause-in_place c v R undos counts p n k le =
    (rolled_room v R undos [] counts k (λ a none. absurd none) p n le, rolled_bytes v R undos [] counts k (λ a none. absurd none) p n le)
