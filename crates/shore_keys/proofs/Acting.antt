-- The acts of a transaction, from what its calls have said.
use Rattle.std.proofs.Common.{◌≡◌, ◌≢◌, ℕ, List, [], ◌∷◌, ◌++◌, Bool, Option, Some, Result, Ok, Err, refl, sym, ap, subst, ◌∙◌}
use Rattle.std.specs.FinMap.{empty, len-empty, len-entries}
use Rattle.std.proofs.lemmas.List.{nil_from_length}
use Rattle.shore_types.specs.Ids.{rid_cmp}
use Rattle.shore_types.specs.Images.{Image}
use Rattle.shore_model.specs.declared.calls.Exchange.{Exchange}
use Rattle.shore_model.specs.declared.progress.Progress.{Progress}
use Rattle.shore_model.specs.Alone.{MayReplyAll, after, after_reply, start}
use Rattle.shore_model.specs.Records.{Records, laid_over, overlay}
use Rattle.shore_keys.specs.declared.maps.KeyMap.{KeyMap}
use Rattle.shore_keys.specs.declared.refusals.Refusal.{Refusal}
use Rattle.shore_keys.specs.Exchanges.{AtItsTurn, GoesOn, Spares, seen}
use Rattle.shore_keys.specs.Joined.{Act, Acts, AreRight, Found, IsRightAct, Leaves, PutIn, TakenOut, after_act, after_acts}
use Rattle.shore_keys.specs.Maps.{Finds, IsFound, IsPut, IsTaken, Map, Mends, Puts, Represents, Stays, Takes, with_at}
use Rattle.shore_keys.proofs.Turns.{after-append, goes-as, replies-split}

-- nothing written, nothing changed
overlay-empty : (R : Records) → overlay R empty ≡ R
overlay-empty R = ap (laid_over R) (nil_from_length _ (sym (len-entries (empty {X = Image} {R = rid_cmp})) ∙ len-empty rid_cmp Image))

pub acts-none : (k : KeyMap) → Acts k [] []
acts-none k most R m rep may = (tt, subst (λ R. Represents R k m) (sym (overlay-empty R)) rep)

right-more : (xs : List Act) (a : Act) (m : Map) → AreRight xs m → IsRightAct a (after_acts xs m) → AreRight (xs ++ a ∷ []) m
right-more [] a m h r = (r, tt)
right-more (x ∷ xs) a m h r = (h.0, right-more xs a (after_act x m) h.1 r)

after-more : (xs : List Act) (a : Act) (m : Map) → after_acts (xs ++ a ∷ []) m ≡ after_act a (after_acts xs m)
after-more [] a m = refl
after-more (x ∷ xs) a m = after-more xs a (after_act x m)

module _ (k : KeyMap) (es more : List Exchange) (acts : List Act) (before : Acts k es acts) (P : Records → Progress → Progress → Type 0) (x : GoesOn (AtItsTurn P) es more) where
  -- where the transaction stood, and where it stands
  came : (most : ℕ) (R : Records) (m : Map) → Represents R k m → MayReplyAll most R start more
      → AreRight acts m × Represents (seen R (after start es)) k (after_acts acts m) × P R (after start es) (after start more)
  came most R m rep may =
      let parts = replies-split most R start es x.made (subst (MayReplyAll most R start) x.on may) in
      let was = before most R m rep parts.0 in
      (was.0, was.1, subst (P R (after start es)) (sym (ap (after start) x.on ∙ after-append start es x.made)) (x.holds most R (after start es) parts.1))

  pub acts-more : (a : Act) → ((R : Records) (p q : Progress) (m : Map) → P R p q → Represents (seen R p) k m → IsRightAct a m × Represents (seen R q) k (after_act a m)) → Acts k more (acts ++ a ∷ [])
  acts-more a f most R m rep may =
      let c = came most R m rep may in
      let now = f R (after start es) (after start more) (after_acts acts m) c.2 c.1 in
      (right-more acts a m c.0 now.0, subst (Represents (seen R (after start more)) k) (sym (after-more acts a m)) now.1)

  pub acts-same : ((R : Records) (p q : Progress) (m : Map) → P R p q → Represents (seen R p) k m → Represents (seen R q) k m) → Acts k more acts
  acts-same f most R m rep may =
      let c = came most R m rep may in
      (c.0, f R (after start es) (after start more) (after_acts acts m) c.2 c.1)

abbrev Finding : KeyMap → List ℕ → Result (Option (List ℕ)) Refusal → Records → Progress → Progress → Type 0
Finding k key s R p q = (m : Map) → Represents (seen R p) k m → (q ≡ p) × IsFound (m key) s

abbrev Putting : KeyMap → List ℕ → List ℕ → Result (Unit {0}) Refusal → Records → Progress → Progress → Type 0
Putting k key value s R p q = (m : Map) → Represents (seen R p) k m → Spares k.root.page.store k.values R p q × IsPut (seen R q) k m key (Some value) s

abbrev Taking : KeyMap → List ℕ → Result Bool Refusal → Records → Progress → Progress → Type 0
Taking k key s R p q = (m : Map) → Represents (seen R p) k m → Spares k.root.page.store k.values R p q × IsTaken (seen R q) k m key s

abbrev Mending : KeyMap → Result (Unit {0}) Refusal → Records → Progress → Progress → Type 0
Mending k s R p q = (m : Map) → Represents (seen R p) k m → Stays k m R p q s

abbrev Leaving : KeyMap → Records → Progress → Progress → Type 0
Leaving k R p q = (m : Map) → Represents (seen R p) k m → Represents (seen R q) k m

pub acts-found : (k : KeyMap) (es more : List Exchange) (acts : List Act) (key : List ℕ) (value : Option (List ℕ)) → Acts k es acts → GoesOn (Finds k key (Ok value)) es more → Acts k more (acts ++ Found key value ∷ [])
acts-found k es more acts key value before x =
    acts-more k es more acts before (Finding k key (Ok value)) x (Found key value)
    (λ R p q m h rep. let now = h m rep in (now.1, subst (λ q. Represents (seen R q) k m) (sym now.0) rep))

pub acts-put : (k : KeyMap) (es more : List Exchange) (acts : List Act) (key value : List ℕ) → Acts k es acts → GoesOn (Puts {A = Unit {0}} k key value (Ok tt)) es more → Acts k more (acts ++ PutIn key value ∷ [])
acts-put k es more acts key value before x =
    acts-more k es more acts before (Putting k key value (Ok tt)) x (PutIn key value) (λ R p q m h rep. (tt, (h m rep).1))

pub acts-taken : (k : KeyMap) (es more : List Exchange) (acts : List Act) (key : List ℕ) (was : Bool) → Acts k es acts → GoesOn (Takes k key (Ok was)) es more → Acts k more (acts ++ TakenOut key was ∷ [])
acts-taken k es more acts key was before x =
    acts-more k es more acts before (Taking k key (Ok was)) x (TakenOut key was) (λ R p q m h rep. let now = (h m rep).1 in (now.0, now.1))

pub acts-left : (k : KeyMap) (es more : List Exchange) (acts : List Act) → Acts k es acts → GoesOn (Leaves k) es more → Acts k more acts
acts-left k es more acts before x = acts-same k es more acts before (Leaving k) x (λ R p q m h rep. h m rep)

pub find-leaves : (k : KeyMap) (es more : List Exchange) (key : List ℕ) (f : Refusal) → GoesOn (Finds k key (Err f)) es more → GoesOn (Leaves k) es more
find-leaves k es more key f x = goes-as (Finding k key (Err f)) (Leaving k) es more x (λ R p q h m rep. subst (λ q. Represents (seen R q) k m) (sym (h m rep).0) rep)

pub put-leaves : (k : KeyMap) (es more : List Exchange) (key value : List ℕ) (f : Refusal) → GoesOn (Puts {A = Unit {0}} k key value (Err f)) es more → GoesOn (Leaves k) es more
put-leaves k es more key value f x = goes-as (Putting k key value (Err f)) (Leaving k) es more x (λ R p q h m rep. (h m rep).1.1)

pub take-leaves : (k : KeyMap) (es more : List Exchange) (key : List ℕ) (f : Refusal) → GoesOn (Takes k key (Err f)) es more → GoesOn (Leaves k) es more
take-leaves k es more key f x = goes-as (Taking k key (Err f)) (Leaving k) es more x (λ R p q h m rep. (h m rep).1.1)

pub mend-leaves : (k : KeyMap) (es more : List Exchange) (s : Result (Unit {0}) Refusal) → GoesOn (Mends k s) es more → GoesOn (Leaves k) es more
mend-leaves k es more s x = goes-as (Mending k s) (Leaving k) es more x (λ R p q h m rep. (h m rep).1)

pub other-leaves : (k : KeyMap) (es : List Exchange) (e : Exchange) → ((p : Progress) → after_reply p e.call e.reply ≡ p) → GoesOn (Leaves k) es (es ++ e ∷ [])
other-leaves k es e same = record { made = e ∷ []; on = refl; holds = λ most R p may m rep. subst (λ q. Represents (seen R q) k m) (sym (same p)) rep }
