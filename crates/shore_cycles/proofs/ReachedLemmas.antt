-- What the reached transactions are, and what stays of them as they grow.
use Rattle.std.proofs.Common.{◌≡◌, ◌<◌, ◌≤◌, ◌+◌, ◌++◌, inl, inr, ⊎_elim, ℕ, List, [], ◌∷◌, Bool, true, false, refl, ap, sym, subst, ◌∙◌, length, arith, below_more}
use Rattle.std.specs.Prelude.{◌==◌, ◌||◌, filter, not}
use Rattle.std.specs.List.{list_any}
use Rattle.std.proofs.Math.ListN.{get_or-append}
use Rattle.std.proofs.Math.Seq.{get_or-append_seam}
use Rattle.std.proofs.lemmas.Bool.Decides.{Decides-eqb}
use Rattle.std.proofs.lemmas.List.{get_or_default, length_push}
use Rattle.shore_model.specs.declared.requests.Request.{Request}
use Rattle.shore_model.specs.Requests.{WaitsFor}
use Rattle.shore_locks.proofs.Members.{In, Contains-In, In-left, In-right, either}
use Rattle.shore_locks.proofs.Fits.{any_of, found_any}
use Rattle.shore_cycles.specs.declared.reached.Step.{Step}
use Rattle.shore_cycles.specs.declared.victims.Victim.{Victim}
use Rattle.shore_cycles.specs.Blockers.{is_victim}
use Rattle.shore_cycles.specs.Marks.{is_marked}
use Rattle.shore_cycles.specs.Reached.{LeadsBack, Seen, extended, is_reached, reached_from, step_at, txn_at}
use Rattle.shore_cycles.specs.Searching.{IsSound, IsTrail}
use Rattle.shore_cycles.proofs.Fewer.{fewer}
use Rattle.shore_cycles.proofs.Edges.{clash, edge_of}

-- ---- reading among more reached transactions

abbrev nowhere : Step
nowhere = record { txn = 0; parent = 0 }

pub step_before : (reached : List Step) (s : Step) (k : ℕ) → k < length reached → step_at (reached ++ s ∷ []) k ≡ step_at reached k
step_before reached s k within = get_or-append reached (s ∷ []) nowhere k within

pub step_last : (reached : List Step) (s : Step) → step_at (reached ++ s ∷ []) (length reached) ≡ s
step_last reached s = get_or-append_seam reached s [] nowhere

-- what holds at each index of the reached ones and of one step more
each_index : (P : ℕ → Type 0) (reached : List Step) (s : Step) → ((k : ℕ) → k < length reached → P k) → P (length reached) → (k : ℕ) → k < length (reached ++ s ∷ []) → P k
each_index P reached s before last k within =
    let more = length_push reached s in let below : k < length reached + 1 = omega arith in below_more P (length reached) before last k below

pub step_in : (reached : List Step) (k : ℕ) → k < length reached → In (step_at reached k) reached
step_in reached k within = Contains-In reached (step_at reached k) (k, within, get_or_default reached k (step_at reached k) nowhere within)

pub reached_at : (reached : List Step) (k : ℕ) → k < length reached → is_reached reached (txn_at reached k) ≡ true
reached_at reached k within = any_of (λ s. s.txn == txn_at reached k) reached (step_at reached k) (step_in reached k within) ((Decides-eqb (txn_at reached k) (txn_at reached k)).1 refl)

-- ---- the trail

module _ (rs : List Request) (t : ℕ) (reached : List Step) (is : IsTrail rs t reached) (from u : ℕ) (here : from < length reached)
    (waits : WaitsFor rs (txn_at reached from) u) (new : is_reached reached u ≡ false) where
  abbrev step : Step
  step = record { txn = u; parent = from }

  abbrev longer : List Step
  longer = reached ++ step ∷ []

  old : (k : ℕ) → k < length reached → step_at longer k ≡ step_at reached k
  old = step_before reached step

  last : step_at longer (length reached) ≡ step
  last = step_last reached step

  leads_back : LeadsBack longer
  leads_back k later within =
      each_index (λ k. 0 < k → (step_at longer k).parent < k) reached step
      (λ k below after. subst (λ (s : Step). s.parent < k) (sym (old k below)) (is.leads k after below))
      (λ after. subst (λ (s : Step). s.parent < length reached) (sym last) here) k within later

  all_wait : (k : ℕ) → 0 < k → k < length longer → WaitsFor rs (txn_at longer (step_at longer k).parent) (txn_at longer k)
  all_wait k later within =
      each_index (λ k. 0 < k → WaitsFor rs (txn_at longer (step_at longer k).parent) (txn_at longer k)) reached step
      (λ k below after.
      let back = is.leads k after below in
      let parent_within : (step_at reached k).parent < length reached = omega arith in
      subst (λ (s : Step). WaitsFor rs (txn_at longer s.parent) s.txn) (sym (old k below))
      (subst (λ (s : Step). WaitsFor rs s.txn (txn_at reached k)) (sym (old (step_at reached k).parent parent_within)) (is.waits k after below)))
      (λ after.
      subst (λ (s : Step). WaitsFor rs (txn_at longer s.parent) s.txn) (sym last)
      (subst (λ (s : Step). WaitsFor rs s.txn u) (sym (old from here)) waits)) k within later

  all_apart : (j k : ℕ) → j < k → k < length longer → txn_at longer j ≡ txn_at longer k → ⊥
  all_apart j k before within =
      each_index (λ k. j < k → txn_at longer j ≡ txn_at longer k → ⊥) reached step
      (λ k below before same.
      let j_below : j < length reached = omega arith in
      is.apart j k before below (ap (λ (s : Step). s.txn) (sym (old j j_below)) ∙ same ∙ ap (λ (s : Step). s.txn) (old k below)))
      (λ j_below same.
      let is_u : txn_at reached j ≡ u = ap (λ (s : Step). s.txn) (sym (old j j_below)) ∙ same ∙ ap (λ (s : Step). s.txn) last in
      let seen : is_reached reached u ≡ true = subst (λ v. is_reached reached v ≡ true) is_u (reached_at reached j j_below) in
      let unseen = new in
      clash seen unseen) k within before

  pub reached_longer : IsTrail rs t longer
  reached_longer = record {
    some = let more = length_push reached step in omega arith;
    first = ap (λ (s : Step). s.txn) (old 0 is.some) ∙ is.first;
    leads = leads_back;
    waits = all_wait;
    apart = all_apart;
  }

-- ---- what more reached transactions have of fewer

pub record Grows (old new : List Step) : Type 0 where
  pub no_shorter : length old ≤ length new
  pub alike : (k : ℕ) → k < length old → txn_at new k ≡ txn_at old k
  pub kept : (u : ℕ) → is_reached old u ≡ true → is_reached new u ≡ true

pub grows_not : (reached : List Step) → Grows reached reached
grows_not reached = record { no_shorter = omega arith; alike = λ k h. refl; kept = λ u h. h }

pub grows_on : (a b c : List Step) → Grows a b → Grows b c → Grows a c
grows_on a b c g h = record {
  no_shorter = let x = g.no_shorter in let y = h.no_shorter in omega arith;
  alike = λ k below. let x = g.no_shorter in let further : k < length b = omega arith in h.alike k further ∙ g.alike k below;
  kept = λ u yes. h.kept u (g.kept u yes);
}

pub grows_pushed : (reached : List Step) (s : Step) → Grows reached (reached ++ s ∷ [])
grows_pushed reached s = record {
  no_shorter = let more = length_push reached s in omega arith;
  alike = λ k below. ap (λ (x : Step). x.txn) (step_before reached s k below);
  kept = λ u yes. let f = found_any (λ (x : Step). x.txn == u) reached yes in any_of (λ x. x.txn == u) (reached ++ s ∷ []) f.0 (In-left reached (s ∷ []) f.0 f.1) f.2;
}

-- ---- one more, beside victims

pub any-append : {A : Type 0} (p : A → Bool) (xs : List A) (y : A) → list_any p (xs ++ y ∷ []) ≡ (list_any p xs || p y)
any-append p [] y = ⊎_elim (λ yes. rw yes refl) (λ no. rw no refl) (either (p y))
any-append p (x ∷ xs) y = ⊎_elim (λ yes. rw yes refl) (λ no. let rest = any-append p xs y in rw no rest) (either (p x))

or_swap : (a b e : Bool) → ((a || b) || e) ≡ ((a || e) || b)
or_swap true b e = refl
or_swap false true true = refl
or_swap false true false = refl
or_swap false false true = refl
or_swap false false false = refl

pub neither : (a b : Bool) → (a || b) ≡ false → (a ≡ false) × (b ≡ false)
neither true b h = absurd (clash refl h)
neither false b h = (refl, h)

abbrev with_step : ℕ → ℕ → Seen → Seen
with_step from u seen = record { steps = seen.steps ++ record { txn = u; parent = from } ∷ []; marks = seen.marks ++ u ∷ [] }

seen_again : (from u : ℕ) (seen : Seen) → is_marked seen.marks u ≡ true → reached_from from u seen ≡ seen
seen_again from u seen there = rw there refl

seen_new : (from u : ℕ) (seen : Seen) → is_marked seen.marks u ≡ false → reached_from from u seen ≡ with_step from u seen
seen_new from u seen fresh = rw fresh refl

-- requests of transactions that are not reached
abbrev pub unreached : List Request → List Step → ℕ
unreached rs reached = length (filter (λ (r : Request). not (is_reached reached r.txn)) rs)

left_before : (old new : List Step) → Grows old new → (u : ℕ) → not (is_reached new u) ≡ true → not (is_reached old u) ≡ true
left_before old new g u h =
    ⊎_elim (λ yes. absurd (let gone : not (is_reached new u) ≡ false = ap not (g.kept u yes) in clash h gone)) (λ no. ap not no) (either (is_reached old u))

pushed_there : (steps : List Step) (s : Step) → is_reached (steps ++ s ∷ []) s.txn ≡ true
pushed_there steps s = any_of (λ x. x.txn == s.txn) (steps ++ s ∷ []) s (In-right steps (s ∷ []) s (inl refl)) ((Decides-eqb s.txn s.txn).1 refl)

-- what more reached ones have of fewer, beside victims: no more is left than was
pub record Extends (rs : List Request) (victims : List Victim) (t leading from : ℕ) (old new : Seen) : Type 0 where
  pub sound : IsSound rs victims t new leading from
  pub grows : Grows old.steps new.steps
  pub fewer_left : unreached rs new.steps + length new.steps ≤ unreached rs old.steps + length old.steps
  pub kept : (u : ℕ) → is_marked old.marks u ≡ true → is_marked new.marks u ≡ true

extends_not : (rs : List Request) (victims : List Victim) (t leading from : ℕ) (seen : Seen) → IsSound rs victims t seen leading from → Extends rs victims t leading from seen seen
extends_not rs victims t leading from seen sound = record { sound = sound; grows = grows_not seen.steps; fewer_left = omega arith; kept = λ u h. h }

module _ (rs : List Request) (victims : List Victim) (t leading from at u : ℕ) (seen : Seen) (sound : IsSound rs victims t seen leading from) (led : at < leading) (here : at < length seen.steps)
    (spared : is_victim victims (txn_at seen.steps at) ≡ false) (waits : WaitsFor rs (txn_at seen.steps at) u) where
  abbrev one_more : Step
  one_more = record { txn = u; parent = at }

  module _ (fresh : is_marked seen.marks u ≡ false) where
    both : (is_reached seen.steps u ≡ false) × (is_victim victims u ≡ false)
    both = neither (is_reached seen.steps u) (is_victim victims u) (sym (sound.marked u) ∙ fresh)

    before : (k : ℕ) → k < length seen.steps → step_at (seen.steps ++ one_more ∷ []) k ≡ step_at seen.steps k
    before = step_before seen.steps one_more

    newest : step_at (seen.steps ++ one_more ∷ []) (length seen.steps) ≡ one_more
    newest = step_last seen.steps one_more

    marked_more : (v : ℕ) → is_marked (seen.marks ++ u ∷ []) v ≡ (is_reached (seen.steps ++ one_more ∷ []) v || is_victim victims v)
    marked_more v =
        any-append (λ x. x == v) seen.marks u
        ∙ ap (λ b. b || (u == v)) (sound.marked v)
        ∙ or_swap (is_reached seen.steps v) (is_victim victims v) (u == v)
        ∙ ap (λ b. b || is_victim victims v) (sym (any-append (λ (s : Step). s.txn == v) seen.steps one_more))

    parents_more : (k : ℕ) → 0 < k → k < length (seen.steps ++ one_more ∷ [])
        → ((step_at (seen.steps ++ one_more ∷ []) k).parent < leading) × (is_victim victims (txn_at (seen.steps ++ one_more ∷ []) (step_at (seen.steps ++ one_more ∷ []) k).parent) ≡ false)
    parents_more k later within =
        each_index (λ k. 0 < k → ((step_at (seen.steps ++ one_more ∷ []) k).parent < leading) × (is_victim victims (txn_at (seen.steps ++ one_more ∷ []) (step_at (seen.steps ++ one_more ∷ []) k).parent) ≡ false))
        seen.steps one_more
        (λ k below after.
        let p = sound.parents k after below in
        let back = sound.trail.leads k after below in
        let inside : (step_at seen.steps k).parent < length seen.steps = omega arith in
        subst (λ (s : Step). (s.parent < leading) × (is_victim victims (txn_at (seen.steps ++ one_more ∷ []) s.parent) ≡ false)) (sym (before k below))
        (p.0, subst (λ (s : Step). is_victim victims s.txn ≡ false) (sym (before (step_at seen.steps k).parent inside)) p.1))
        (λ after.
        subst (λ (s : Step). (s.parent < leading) × (is_victim victims (txn_at (seen.steps ++ one_more ∷ []) s.parent) ≡ false)) (sym newest)
        (led, subst (λ (s : Step). is_victim victims s.txn ≡ false) (sym (before at here)) spared))
        k within later

    sound_more : IsSound rs victims t (with_step at u seen) leading from
    sound_more = record {
      trail = reached_longer rs t seen.steps sound.trail at u here waits both.0;
      marked = marked_more;
      start = sound.start;
      spared = λ k past within.
          each_index (λ k. from ≤ k → is_victim victims (txn_at (seen.steps ++ one_more ∷ []) k) ≡ false) seen.steps one_more
          (λ k below past. subst (λ (s : Step). is_victim victims s.txn ≡ false) (sym (before k below)) (sound.spared k past below))
          (λ past. subst (λ (s : Step). is_victim victims s.txn ≡ false) (sym newest) both.1) k within past;
      parents = parents_more;
    }

    extends_new : Extends rs victims t leading from seen (with_step at u seen)
    extends_new =
        let e = edge_of rs (txn_at seen.steps at) u waits in
        let grows = grows_pushed seen.steps one_more in
        record {
          sound = sound_more;
          grows = grows;
          fewer_left =
              let longer = length_push seen.steps one_more in
              let less = fewer (λ (q : Request). not (is_reached seen.steps q.txn)) (λ (q : Request). not (is_reached (seen.steps ++ one_more ∷ []) q.txn))
              (λ q. left_before seen.steps (seen.steps ++ one_more ∷ []) grows q.txn) rs e.other e.other_in
              (ap not (subst (λ x. is_reached seen.steps x ≡ false) (sym e.upon) both.0)) (ap not (subst (λ x. is_reached (seen.steps ++ one_more ∷ []) x ≡ true) (sym e.upon) (pushed_there seen.steps one_more))) in
              omega arith;
          kept = λ v yes. any-append (λ x. x == v) seen.marks u ∙ ap (λ b. b || (u == v)) yes;
        }

  pub extends_one : Extends rs victims t leading from seen (reached_from at u seen)
  extends_one =
      ⊎_elim
      (λ yes. subst (Extends rs victims t leading from seen) (sym (seen_again at u seen yes)) (extends_not rs victims t leading from seen sound))
      (λ no. subst (Extends rs victims t leading from seen) (sym (seen_new at u seen no)) (extends_new no))
      (either (is_marked seen.marks u))

extends_on : (rs : List Request) (victims : List Victim) (t leading from : ℕ) (a b d : Seen) → Extends rs victims t leading from a b → Extends rs victims t leading from b d → Extends rs victims t leading from a d
extends_on rs victims t leading from a b d g h = record {
  sound = h.sound;
  grows = grows_on a.steps b.steps d.steps g.grows h.grows;
  fewer_left = let x = g.fewer_left in let y = h.fewer_left in omega arith;
  kept = λ u yes. h.kept u (g.kept u yes);
}

pub extends_all : (rs : List Request) (victims : List Victim) (t leading from at : ℕ) (found : List ℕ) (seen : Seen) → IsSound rs victims t seen leading from → at < leading → at < length seen.steps
    → is_victim victims (txn_at seen.steps at) ≡ false → ((u : ℕ) → In u found → WaitsFor rs (txn_at seen.steps at) u) → Extends rs victims t leading from seen (extended at found seen)
extends_all rs victims t leading from at [] seen sound led here spared waits = extends_not rs victims t leading from seen sound
extends_all rs victims t leading from at (u ∷ us) seen sound led here spared waits =
    let one = extends_one rs victims t leading from at u seen sound led here spared (waits u (inl refl)) in
    let alike = one.grows.alike at here in
    let more = one.grows.no_shorter in
    extends_on rs victims t leading from seen (reached_from at u seen) (extended at us (reached_from at u seen)) one
    (extends_all rs victims t leading from at us (reached_from at u seen) one.sound led (omega arith)
    (subst (λ x. is_victim victims x ≡ false) (sym alike) spared) (λ v h. subst (λ x. WaitsFor rs x v) (sym alike) (waits v (inr h))))

marked_one : (at u : ℕ) (seen : Seen) → is_marked (reached_from at u seen).marks u ≡ true
marked_one at u seen =
    ⊎_elim
    (λ yes. ap (λ (s : Seen). is_marked s.marks u) (seen_again at u seen yes) ∙ yes)
    (λ no. ap (λ (s : Seen). is_marked s.marks u) (seen_new at u seen no) ∙ any_of (λ x. x == u) (seen.marks ++ u ∷ []) u (In-right seen.marks (u ∷ []) u (inl refl)) ((Decides-eqb u u).1 refl))
    (either (is_marked seen.marks u))

kept_one : (at u v : ℕ) (seen : Seen) → is_marked seen.marks v ≡ true → is_marked (reached_from at u seen).marks v ≡ true
kept_one at u v seen there =
    ⊎_elim
    (λ yes. ap (λ (s : Seen). is_marked s.marks v) (seen_again at u seen yes) ∙ there)
    (λ no. ap (λ (s : Seen). is_marked s.marks v) (seen_new at u seen no) ∙ any-append (λ x. x == v) seen.marks u ∙ ap (λ b. b || (u == v)) there)
    (either (is_marked seen.marks u))

kept_all : (at : ℕ) (found : List ℕ) (v : ℕ) (seen : Seen) → is_marked seen.marks v ≡ true → is_marked (extended at found seen).marks v ≡ true
kept_all at [] v seen there = there
kept_all at (u ∷ us) v seen there = kept_all at us v (reached_from at u seen) (kept_one at u v seen there)

-- all that were found are marked
pub found_marked : (at : ℕ) (found : List ℕ) (seen : Seen) (u : ℕ) → In u found → is_marked (extended at found seen).marks u ≡ true
found_marked at [] seen u h = absurd h
found_marked at (v ∷ vs) seen u h =
    ⊎_elim
    (λ same. kept_all at vs u (reached_from at v seen) (subst (λ x. is_marked (reached_from at v seen).marks x ≡ true) same (marked_one at v seen)))
    (λ later. found_marked at vs (reached_from at v seen) u later) h
