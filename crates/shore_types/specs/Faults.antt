-- The numbers, the names and the texts of faults.
use Rattle.std.specs.Prelude.{ℕ, List, [], ◌++◌, codes}
use Rattle.std.specs.Fmt.{decimal}
use Rattle.std.specs.List.{flat_map}
use Rattle.shore_types.specs.declared.faults.Fault.{Fault}
use Rattle.shore_types.specs.declared.faults.Fault.TheVariants as fault
use Rattle.shore_types.specs.Config.{place_text}
use Rattle.shore_types.specs.Names.{device_name}

abbrev pub number_of : Fault → ℕ
number_of fault.NoTransaction = 1
number_of fault.AlreadyActive = 2
number_of fault.TooManyTransactions = 3
number_of fault.NoStore = 4
number_of fault.NoPage = 5
number_of fault.NoRecord = 6
number_of fault.TooLong = 7
number_of fault.StoreFull = 8
number_of fault.LogFull = 9
number_of fault.LockTableFull = 10
number_of fault.BadMode = 11
number_of (fault.Deadlock cycle) = 12
number_of fault.MustAbort = 13
number_of fault.Busy = 14
number_of fault.NoSavepoint = 15
number_of fault.TooManySavepoints = 16
number_of fault.IsPrepared = 17
number_of fault.BadGlobalId = 18
number_of fault.GlobalIdInUse = 19
number_of fault.NoGlobalId = 20
number_of (fault.WouldBlock holder) = 21
number_of (fault.NeedForce number) = 22
number_of fault.Device = 23
number_of fault.Failed = 24
number_of (fault.Damaged device place) = 25
number_of fault.WrongVersion = 26
number_of fault.Memory = 27
number_of fault.NotQuiet = 28
number_of fault.NotFormatted = 29
number_of fault.WrongPair = 30
number_of (fault.BadConfig place) = 31

-- the name, in ASCII
abbrev pub name_of : Fault → List ℕ
name_of fault.NoTransaction = codes "NoTransaction"
name_of fault.AlreadyActive = codes "AlreadyActive"
name_of fault.TooManyTransactions = codes "TooManyTransactions"
name_of fault.NoStore = codes "NoStore"
name_of fault.NoPage = codes "NoPage"
name_of fault.NoRecord = codes "NoRecord"
name_of fault.TooLong = codes "TooLong"
name_of fault.StoreFull = codes "StoreFull"
name_of fault.LogFull = codes "LogFull"
name_of fault.LockTableFull = codes "LockTableFull"
name_of fault.BadMode = codes "BadMode"
name_of (fault.Deadlock cycle) = codes "Deadlock"
name_of fault.MustAbort = codes "MustAbort"
name_of fault.Busy = codes "Busy"
name_of fault.NoSavepoint = codes "NoSavepoint"
name_of fault.TooManySavepoints = codes "TooManySavepoints"
name_of fault.IsPrepared = codes "IsPrepared"
name_of fault.BadGlobalId = codes "BadGlobalId"
name_of fault.GlobalIdInUse = codes "GlobalIdInUse"
name_of fault.NoGlobalId = codes "NoGlobalId"
name_of (fault.WouldBlock holder) = codes "WouldBlock"
name_of (fault.NeedForce number) = codes "NeedForce"
name_of fault.Device = codes "Device"
name_of fault.Failed = codes "Failed"
name_of (fault.Damaged device place) = codes "Damaged"
name_of fault.WrongVersion = codes "WrongVersion"
name_of fault.Memory = codes "Memory"
name_of fault.NotQuiet = codes "NotQuiet"
name_of fault.NotFormatted = codes "NotFormatted"
name_of fault.WrongPair = codes "WrongPair"
name_of (fault.BadConfig place) = codes "BadConfig"

-- a space and a number for each transaction
abbrev pub cycle_text : List ℕ → List ℕ
cycle_text cycle = flat_map (λ txn. codes " " ++ decimal txn) cycle

-- what a fault says beside its name, each part after a space
abbrev pub data_text : Fault → List ℕ
data_text (fault.Deadlock cycle) = cycle_text cycle
data_text (fault.WouldBlock holder) = codes " " ++ decimal holder
data_text (fault.NeedForce number) = codes " " ++ decimal number
data_text (fault.Damaged device place) = codes " " ++ device_name device ++ codes " " ++ decimal place
data_text (fault.BadConfig place) = codes " " ++ place_text place
data_text _ = []

-- the number, the name and the data, as the script prints them
abbrev pub text_of : Fault → List ℕ
text_of fault = decimal (number_of fault) ++ codes " " ++ name_of fault ++ data_text fault
