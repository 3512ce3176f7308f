-- What the marks of a control say of its calls that wait.
use Rattle.std.proofs.Common.{◌≡◌, ◌<◌, ◌+◌, ◌∷◌, [], ⊎_elim, ℕ, zero, suc, List, Some, true, false, length, refl, ap, sym, ◌∙◌, arith}
use Rattle.std.specs.Prelude.{◌==◌, nat_lt, slice_get}
use Rattle.std.proofs.lemmas.Bool.{ltb-true, ltb-false}
use Rattle.std.proofs.lemmas.Bool.Decides.{Decides-eqb}
use Rattle.shore_locks.proofs.Members.{either}
use Rattle.shore_sessions.specs.Controls.{IsLetThrough, NoneLetThrough, waits_in}
use Rattle.shore_sessions.specs.Waits.{IsNoneMarked}
use Rattle.shore_sessions.specs.declared.control.Control.{Control}
use Rattle.shore_sessions.specs.declared.waits.WaitingCall.{WaitingCall}

-- the call at a place
pub call_at : (calls : List WaitingCall) (place : ℕ) → place < length calls → (w : WaitingCall) × (slice_get calls place ≡ Some w)
call_at [] place small = absurd (omega (arith, small))
call_at (w ∷ calls) zero small = (w, refl)
call_at (w ∷ calls) (suc place) small = call_at calls place (omega (arith, small))

-- where none is marked, none is let through
pub none_up_to : (control : Control) (from next upto : ℕ) → NoneLetThrough control from next → IsNoneMarked control.waits next upto → NoneLetThrough control from upto
none_up_to control from next upto none unmarked n w low high at through =
    ⊎_elim
    (λ before. none n w low (ltb-true n next before) at through)
    (λ later. unmarked n (ltb-false n next later) high (control.marked n w at through.0 through.1))
    (either (nat_lt n next))

-- .. nor past one that is not
pub none_past_it : (control : Control) (from place : ℕ) → NoneLetThrough control from place → ((w : WaitingCall) → slice_get (waits_in control) place ≡ Some w → IsLetThrough control w → ⊥) → NoneLetThrough control from (place + 1)
none_past_it control from place none not_it n w low high at through =
    ⊎_elim
    (λ same. let is = (Decides-eqb n place).0 same in not_it w (sym (ap (slice_get (waits_in control)) is) ∙ at) through)
    (λ other. ⊎_elim
    (λ before. none n w low (ltb-true n place before) at through)
    (λ later. let most = ltb-false n place later in
    let is : n ≡ place = omega (arith, high, most) in
    let f : true ≡ false = sym ((Decides-eqb n place).1 is) ∙ other in cc)
    (either (nat_lt n place)))
    (either (n == place))
