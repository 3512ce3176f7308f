-- What a crash leaves over some writes and a sync.
use Rattle.std.proofs.Common.{◌≡◌, ℕ, List, length, Result, Ok, Err, OnOk, IfErr, IsErrAnd, refl, sym, subst}
use Rattle.shore_disk.specs.Device.{DeviceHistory, Torn, seen, noted, synced, Writes, Syncs, LeavesOnly, Stands}
use Rattle.shore_disk.proofs.Moments.{joined, write_leaves, sync_leaves, at_end, started}

-- one write more, which keeps what holds of each image
pub write_more : {E : Type 0} (old now new : DeviceHistory) (P : List ℕ → Type 0) (at : ℕ) (bytes : List ℕ) (r : Result Unit E) → LeavesOnly old now P → Writes at bytes r now new
    → ((c d : List ℕ) → P d → Torn at (length bytes) d c → P c) → LeavesOnly old new P
write_more old now new P at bytes r so_far writes keeps =
    joined old now new P so_far (write_leaves at bytes r now new P writes (λ c d left torn. keeps c d (at_end old now P so_far d left) torn))

pub sync_more : {E : Type 0} (old now new : DeviceHistory) (P : List ℕ → Type 0) (r : Result Unit E) → LeavesOnly old now P → Syncs r now new → LeavesOnly old new P
sync_more old now new P r so_far syncs = joined old now new P so_far (sync_leaves r now new P syncs (at_end old now P so_far))

-- what stands is all that a crash leaves before the first call
pub stands_still : (h : DeviceHistory) (base : List ℕ) (P : List ℕ → Type 0) → Stands h base → P base → LeavesOnly h h P
stands_still h base P stands holds = started h P (λ c left. subst P (sym (stands.only c left)) holds)

-- after a sync the bytes as read stand
pub synced_stands : (now new : DeviceHistory) → new ≡ noted now synced → Stands new (seen now)
synced_stands now new is = subst (λ (h : DeviceHistory). Stands h (seen now)) (sym is) (record { read = refl; only = λ c left. left })

-- what follows from what an Ok says
pub on_ok : {E : Type 0} {A B : Type 0} (r : Result Unit E) → OnOk r A → (A → B) → OnOk r B
on_ok (Ok u) a to = to a
on_ok (Err e) a to = tt

-- .. and from what an Err says
pub on_err : {T E : Type 0} {P Q : E → Type 0} (r : Result T E) → IfErr r P → ((e : E) → P e → Q e) → IfErr r Q
on_err (Ok u) holds to = tt
on_err (Err e) holds to = to e holds

pub if_err : {T E : Type 0} {P Q : E → Type 0} (r : Result T E) → IsErrAnd r P → ((e : E) → P e → Q e) → IfErr r Q
if_err (Ok u) holds to = tt
if_err (Err e) holds to = to e holds
