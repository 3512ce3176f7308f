-- Each step keeps the rule of the words.
use Rattle.std.proofs.Common.{◌≡◌, ◌≢◌, ℕ, zero, suc, ◌≤◌, ◌==◌, Bool, true, false, true≢false, List, [], ◌∷◌, ◌++◌, length, max, refl, sym, ap, ◌∙◌, subst, ⊎_elim, arith, slice_set, slice_index}
use mathlib.Core.Option.{some, some-injective, some-ne-none}
use mathlib.Core.Logic.{dite}
use native.Mathlib.Decide.{ℕ_discrete}
use Rattle.std.proofs.lemmas.Bool.Decides.{nat_tests}
use lib.ListN.{get_elem?}
use Rattle.atomic_table.specs.Table.{Me, State, Allows, Splits, Joins, keeps, step}
use Rattle.atomic_table.proofs.Lists.{at_set, at_snoc, set_else, at_longer}
use Rattle.shore_words.specs.declared.rule.Known.{Known}
use Rattle.shore_words.specs.declared.rule.View.{View}
use Rattle.shore_words.specs.Words.{heard_of, keeper, known, looker, no_anchor, teller, with_anchor, word_of, Book, Knows, KnowsHeard, HasAsked, IsTold, Tells, Looks, Asks, Stops, Compares, MovesCheckpoint, MovesTail, AimsCheckpoint, AimsTail, TellsFailure, LooksForFailure}

abbrev pub All : (ℕ → View → Type 0) → List View → Type 0
All F views = (seat : ℕ) (v : View) → get_elem? views seat ≡ some v → F seat v

pub all_set : (F : ℕ → View → Type 0) (views : List View) (seat : ℕ) (w : View) → F seat w → ((j : ℕ) (u : View) → j ≢ seat → get_elem? views j ≡ some u → F j u) → All F (slice_set views seat w)
all_set F views seat w mine others j u e =
    ⊎_elim (λ (x : (j ≡ seat) × (w ≡ u)). subst (λ (y : ℕ × View). F y.0 y.1) (λ i. (sym x.0 i, x.1 i)) mine)
    (λ (x : (j ≢ seat) × (get_elem? views j ≡ some u)). others j u x.0 x.1) (at_set views seat j w u e)

-- one more seat
pub all_more : (F : ℕ → View → Type 0) (views : List View) (w : View) → All F views → ((j : ℕ) → F j w) → All F (views ++ w ∷ [])
all_more F views w are more j u e = ⊎_elim (λ was. are j u was) (λ (is : w ≡ u). subst (F j) is (more j)) (at_snoc views w u j e)

pub set_at : (views : List View) (seat : ℕ) (v w : View) → get_elem? views seat ≡ some v → get_elem? (slice_set views seat w) seat ≡ some w
set_at [] seat v w at = absurd (some-ne-none v (sym at))
set_at (x ∷ xs) zero v w at = refl
set_at (x ∷ xs) (suc seat) v w at = set_at xs seat v w at

-- who asked has asked behind a step that forgets it of none
pub asked_set : (views : List View) (seat : ℕ) (v w : View) → get_elem? views seat ≡ some v → (v.asked ≡ true → w.asked ≡ true) → HasAsked views → HasAsked (slice_set views seat w)
asked_set views seat v w at still had =
    dite (ℕ_discrete had.0 seat)
    (λ e. (seat, w, set_at views seat v w at, still (ap (λ (u : View). u.asked) (some-injective v had.1 (sym at ∙ ap (λ (j : ℕ). get_elem? views j) (sym e) ∙ had.2)) ∙ had.3)))
    (λ other. (had.0, had.1, set_else views seat had.0 w other ∙ had.2, had.3))

pub asked_more : (views : List View) (w : View) → HasAsked views → HasAsked (views ++ w ∷ [])
asked_more views w had = (had.0, had.1, at_longer views (w ∷ []) had.0 had.1 had.2, had.3)

pub off : {A : Type 0} → false ≡ true → A
off p = absurd (true≢false (sym p))

is_one : (n : ℕ) → (n == 1) ≡ true → n ≡ 1
is_one n p = grind (arith, nat_tests)

-- who looks knows what it has seen
pub looks_so : (number stop : ℕ) (anchor : Known) (tells_at keeps_at seat seen : ℕ) → seen ≤ number → Knows number stop anchor tells_at keeps_at seat (looker seen)
looks_so number stop anchor tells_at keeps_at seat seen most = record { seen = most; tells = λ p. off p; keeps = λ p. off p; asked = λ p. off p; stopped = λ p. off p }

-- who knows nothing of a session
pub hears_none : (b : Book) (failed : Bool) (seat seen : ℕ) → KnowsHeard b failed seat (looker seen)
hears_none b failed seat seen = record { notes = λ p. off p; heard = (heard_of 0 b.noted, refl); within = omega arith; listens = λ p. off p; numbered = λ p. off p; failing = λ p. off p; failed = λ p. off p }

pub opens : (number stop checkpoint tail : ℕ) → stop ≡ 0 → IsTold record { words = number ∷ stop ∷ tail ∷ checkpoint ∷ 0 ∷ []; homes = []; views = teller number (known checkpoint tail) ∷ [] }
opens number stop checkpoint tail none = record {
  number = number;
  stop = stop;
  anchor = known checkpoint tail;
  moved = (checkpoint, tail);
  tells_at = 0;
  keeps_at = 0;
  failed = false;
  words = refl;
  bit = omega (arith, none);
  by = λ p. absurd (omega (arith, none, p));
  each = one;
  book = start;
  hears = alone;
}
  where
    first : Knows number stop (known checkpoint tail) 0 0 0 (teller number (known checkpoint tail))
    first = record { seen = omega arith; tells = λ _. (refl, refl, refl); keeps = λ _. (refl, refl); asked = λ p. off p; stopped = λ p. off p }

    one : (seat : ℕ) (v : View) → get_elem? (teller number (known checkpoint tail) ∷ []) seat ≡ some v → Knows number stop (known checkpoint tail) 0 0 seat v
    one zero v e = subst (Knows number stop (known checkpoint tail) 0 0 0) (some-injective _ _ e) first
    one (suc seat) v e = absurd (some-ne-none v (sym e))

    -- nobody has heard anything
    start : Book
    start = record { notes_at = 0; seat_of = λ session. 0; noted = []; made = 0; by = tt }

    silent : KnowsHeard start false 0 (teller number (known checkpoint tail))
    silent = record { notes = λ _. (refl, refl, refl); heard = ([], refl); within = omega arith; listens = λ p. off p; numbered = λ p. off p; failing = λ _. refl; failed = λ p. off p }

    alone : (seat : ℕ) (v : View) → get_elem? (teller number (known checkpoint tail) ∷ []) seat ≡ some v → KnowsHeard start false seat v
    alone zero v e = subst (KnowsHeard start false 0) (some-injective _ _ e) silent
    alone (suc seat) v e = absurd (some-ne-none v (sym e))

-- a store by the seat that tells
pub tells : (slots seat : ℕ) (me : Me ℕ View) (number : ℕ) (x : _) → me.0.tells ≡ true → me.0.told ≤ number
    → Allows IsTold slots seat me 0 (λ _. number) (λ _. Tells (step slots 0 number 0 x) me number)
tells slots seat me number x may higher s h homes at fits =
    let mine = h.each seat me.0 at in
    let known = h.hears seat me.0 at in
    let own = mine.tells may in
    let told : me.0.told ≡ h.number = own.1 in
    let F = Knows number h.stop h.anchor h.tells_at h.keeps_at in
    let w : View = record me.0 { tells = true; told = number } in
    let now : F seat w = record { seen = omega (arith, mine.seen, told, higher); tells = λ _. (own.0, refl, own.2); keeps = mine.keeps; asked = mine.asked; stopped = mine.stopped } in
    let others : (j : ℕ) (u : View) → j ≢ seat → get_elem? s.views j ≡ some u → F j u = λ j u other e. let k = h.each j u e in record {
      seen = omega (arith, k.seen, told, higher);
      tells = λ p. absurd (other ((k.tells p).0 ∙ sym own.0));
      keeps = k.keeps;
      asked = k.asked;
      stopped = k.stopped;
    } in (
      w,
      keeps,
      tt,
      record {
        number = number;
        stop = h.stop;
        anchor = h.anchor;
        moved = h.moved;
        tells_at = h.tells_at;
        keeps_at = h.keeps_at;
        failed = h.failed;
        words = ap (λ (words : List ℕ). slice_set words 0 number) h.words;
        bit = h.bit;
        by = λ p. asked_set s.views seat me.0 w at (λ q. q) (h.by p);
        each = all_set F s.views seat w now others;
        book = h.book;
        hears = all_set (KnowsHeard h.book h.failed) s.views seat w (record { notes = known.notes; heard = known.heard; within = known.within; listens = known.listens; numbered = known.numbered; failing = known.failing; failed = known.failed }) (λ j u other e. h.hears j u e);
      },
      refl,
    )

-- a load of the number by any seat
pub looks : (slots seat : ℕ) (me : Me ℕ View) (x : _) → Allows IsTold slots seat me 0 (λ n. n) (Looks (step slots 0 0 0 x) me)
looks slots seat me x s h homes at fits =
    let mine = h.each seat me.0 at in
    let known = h.hears seat me.0 at in
    let found : slice_index s.words 0 ≡ h.number = ap (λ (words : List ℕ). slice_index words 0) h.words in
    let F = Knows h.number h.stop h.anchor h.tells_at h.keeps_at in
    let w : View = record me.0 { seen = slice_index s.words 0 } in
    let now : F seat w = record { seen = omega (arith, found); tells = mine.tells; keeps = mine.keeps; asked = mine.asked; stopped = mine.stopped } in (
      w,
      keeps,
      tt,
      record {
        number = h.number;
        stop = h.stop;
        anchor = h.anchor;
        moved = h.moved;
        tells_at = h.tells_at;
        keeps_at = h.keeps_at;
        failed = h.failed;
        words = λ i. slice_set (h.words i) 0 (found i);
        bit = h.bit;
        by = λ p. asked_set s.views seat me.0 w at (λ q. q) (h.by p);
        each = all_set F s.views seat w now (λ j u other e. h.each j u e);
        book = h.book;
        hears = all_set (KnowsHeard h.book h.failed) s.views seat w (record { notes = known.notes; heard = known.heard; within = known.within; listens = known.listens; numbered = known.numbered; failing = known.failing; failed = known.failed }) (λ j u other e. h.hears j u e);
      },
      (refl, omega (arith, found, mine.seen), (λ p. found ∙ sym (mine.tells p).1)),
    )

-- the stop word is set
pub asks : (slots seat : ℕ) (me : Me ℕ View) (set : ℕ) (x : _) → set ≡ 1 → Allows IsTold slots seat me 1 (λ _. set) (λ _. Asks (step slots 1 set 0 x) me set)
asks slots seat me set x one s h homes at fits =
    let mine = h.each seat me.0 at in
    let known = h.hears seat me.0 at in
    let F = Knows h.number set h.anchor h.tells_at h.keeps_at in
    let w : View = record me.0 { asked = true } in
    let now : F seat w = record { seen = mine.seen; tells = mine.tells; keeps = mine.keeps; asked = λ _. one; stopped = λ _. one } in
    let others : (j : ℕ) (u : View) → j ≢ seat → get_elem? s.views j ≡ some u → F j u = λ j u other e. let k = h.each j u e in record {
      seen = k.seen;
      tells = k.tells;
      keeps = k.keeps;
      asked = λ _. one;
      stopped = λ _. one;
    } in (
      w,
      keeps,
      tt,
      record {
        number = h.number;
        stop = set;
        anchor = h.anchor;
        moved = h.moved;
        tells_at = h.tells_at;
        keeps_at = h.keeps_at;
        failed = h.failed;
        words = ap (λ (words : List ℕ). slice_set words 1 set) h.words;
        bit = omega (arith, one);
        by = λ _. (seat, w, set_at s.views seat me.0 w at, refl);
        each = all_set F s.views seat w now others;
        book = h.book;
        hears = all_set (KnowsHeard h.book h.failed) s.views seat w (record { notes = known.notes; heard = known.heard; within = known.within; listens = known.listens; numbered = known.numbered; failing = known.failing; failed = known.failed }) (λ j u other e. h.hears j u e);
      },
      refl,
    )

-- the stop word is read
pub stops : (slots seat : ℕ) (me : Me ℕ View) (x : _) → Allows IsTold slots seat me 1 (λ n. n) (Stops (step slots 1 0 0 x) me)
stops slots seat me x s h homes at fits =
    let mine = h.each seat me.0 at in
    let known = h.hears seat me.0 at in
    let found : slice_index s.words 1 ≡ h.stop = ap (λ (words : List ℕ). slice_index words 1) h.words in
    let F = Knows h.number h.stop h.anchor h.tells_at h.keeps_at in
    let w : View = record me.0 { stopped = slice_index s.words 1 == 1 } in
    let now : F seat w = record { seen = mine.seen; tells = mine.tells; keeps = mine.keeps; asked = mine.asked; stopped = λ p. sym found ∙ is_one _ p } in (
      w,
      keeps,
      tt,
      record {
        number = h.number;
        stop = h.stop;
        anchor = h.anchor;
        moved = h.moved;
        tells_at = h.tells_at;
        keeps_at = h.keeps_at;
        failed = h.failed;
        words = λ i. slice_set (h.words i) 1 (found i);
        bit = h.bit;
        by = λ p. asked_set s.views seat me.0 w at (λ q. q) (h.by p);
        each = all_set F s.views seat w now (λ j u other e. h.each j u e);
        book = h.book;
        hears = all_set (KnowsHeard h.book h.failed) s.views seat w (record { notes = known.notes; heard = known.heard; within = known.within; listens = known.listens; numbered = known.numbered; failing = known.failing; failed = known.failed }) (λ j u other e. h.hears j u e);
      },
      (refl, (λ p. found ∙ mine.asked p), (λ p. found ∙ mine.stopped p)),
    )

-- it is told that a device has failed, by who notes
pub tells_failure : (slots seat : ℕ) (me : Me ℕ View) (set : ℕ) (x : _) → set ≡ 1 → me.0.notes ≡ true → Allows IsTold slots seat me 4 (λ _. set) (λ _. TellsFailure (step slots 4 set 0 x) me set)
tells_failure slots seat me set x one may s h homes at fits =
    let mine = h.each seat me.0 at in
    let known = h.hears seat me.0 at in
    let own = known.notes may in
    let F = Knows h.number h.stop h.anchor h.tells_at h.keeps_at in
    let w : View = record me.0 { failing = true } in
    let others : (j : ℕ) (u : View) → j ≢ seat → get_elem? s.views j ≡ some u → KnowsHeard h.book true j u = λ j u other e. let k = h.hears j u e in record {
      notes = k.notes;
      heard = k.heard;
      within = k.within;
      listens = k.listens;
      numbered = k.numbered;
      failing = λ p. absurd (other ((k.notes p).0 ∙ sym own.0));
      failed = λ _. refl;
    } in (
      w,
      keeps,
      tt,
      record {
        number = h.number;
        stop = h.stop;
        anchor = h.anchor;
        moved = h.moved;
        tells_at = h.tells_at;
        keeps_at = h.keeps_at;
        failed = true;
        words = ap (λ (words : List ℕ). slice_set words 4 set) h.words ∙ ap (λ n. h.number ∷ h.stop ∷ h.moved.1 ∷ h.moved.0 ∷ n ∷ []) one;
        bit = h.bit;
        by = λ p. asked_set s.views seat me.0 w at (λ q. q) (h.by p);
        each = all_set F s.views seat w (record { seen = mine.seen; tells = mine.tells; keeps = mine.keeps; asked = mine.asked; stopped = mine.stopped }) (λ j u other e. h.each j u e);
        book = h.book;
        hears = all_set (KnowsHeard h.book true) s.views seat w (record { notes = known.notes; heard = known.heard; within = known.within; listens = known.listens; numbered = known.numbered; failing = λ _. refl; failed = λ _. refl }) others;
      },
      refl,
    )

was_told : (failed : Bool) → word_of failed ≡ 1 → failed ≡ true
was_told true p = refl
was_told false p = absurd (omega (arith, p))

-- .. and looked for
pub looks_for_failure : (slots seat : ℕ) (me : Me ℕ View) (x : _) → Allows IsTold slots seat me 4 (λ n. n) (LooksForFailure (step slots 4 0 0 x) me)
looks_for_failure slots seat me x s h homes at fits =
    let mine = h.each seat me.0 at in
    let known = h.hears seat me.0 at in
    let found : slice_index s.words 4 ≡ word_of h.failed = ap (λ (words : List ℕ). slice_index words 4) h.words in
    let F = Knows h.number h.stop h.anchor h.tells_at h.keeps_at in
    let w : View = record me.0 { failed = slice_index s.words 4 == 1 } in
    let now : KnowsHeard h.book h.failed seat w = record {
      notes = known.notes;
      heard = known.heard;
      within = known.within;
      listens = known.listens;
      numbered = known.numbered;
      failing = known.failing;
      failed = λ p. was_told h.failed (sym found ∙ is_one _ p);
    } in (
      w,
      keeps,
      tt,
      record {
        number = h.number;
        stop = h.stop;
        anchor = h.anchor;
        moved = h.moved;
        tells_at = h.tells_at;
        keeps_at = h.keeps_at;
        failed = h.failed;
        words = λ i. slice_set (h.words i) 4 (found i);
        bit = h.bit;
        by = λ p. asked_set s.views seat me.0 w at (λ q. q) (h.by p);
        each = all_set F s.views seat w (record { seen = mine.seen; tells = mine.tells; keeps = mine.keeps; asked = mine.asked; stopped = mine.stopped }) (λ j u other e. h.each j u e);
        book = h.book;
        hears = all_set (KnowsHeard h.book h.failed) s.views seat w now (λ j u other e. h.hears j u e);
      },
      (refl, λ p. found ∙ ap word_of (known.failed p)),
    )

-- the two anchors are compared
pub compares : (slots seat : ℕ) (me : Me ℕ View) (x : _) → Allows IsTold slots seat me 2 (λ n. n) (Compares (step slots 2 0 0 x) me)
compares slots seat me x s h homes at fits =
    let mine = h.each seat me.0 at in
    let known = h.hears seat me.0 at in
    let found : slice_index s.words 2 ≡ h.moved.1 = ap (λ (words : List ℕ). slice_index words 2) h.words in
    let F = Knows h.number h.stop h.anchor h.tells_at h.keeps_at in (
      me.0,
      keeps,
      tt,
      record {
        number = h.number;
        stop = h.stop;
        anchor = h.anchor;
        moved = h.moved;
        tells_at = h.tells_at;
        keeps_at = h.keeps_at;
        failed = h.failed;
        words = λ i. slice_set (h.words i) 2 (found i);
        bit = h.bit;
        by = λ p. asked_set s.views seat me.0 me.0 at (λ q. q) (h.by p);
        each = all_set F s.views seat me.0 mine (λ j u other e. h.each j u e);
        book = h.book;
        hears = all_set (KnowsHeard h.book h.failed) s.views seat me.0 (record { notes = known.notes; heard = known.heard; within = known.within; listens = known.listens; numbered = known.numbered; failing = known.failing; failed = known.failed }) (λ j u other e. h.hears j u e);
      },
      (refl, (λ p q. (mine.keeps q).1 ∙ sym (mine.tells p).2)),
    )

-- a seat that tells and keeps knows another anchor, and so do all
moved_to : (s : State ℕ View) (h : IsTold s) (seat : ℕ) (v : View) → get_elem? s.views seat ≡ some v → v.tells ≡ true → v.keeps ≡ true → (to : Known) (moved : ℕ × ℕ) (words : List ℕ)
    → words ≡ h.number ∷ h.stop ∷ moved.1 ∷ moved.0 ∷ word_of h.failed ∷ [] → IsTold record { words = words; homes = s.homes; views = slice_set s.views seat (with_anchor v to) }
moved_to s h seat v at tells keeps_it to moved words are =
    let mine = h.each seat v at in
    let known = h.hears seat v at in
    let own = mine.tells tells in
    let keep = mine.keeps keeps_it in
    let F = Knows h.number h.stop to h.tells_at h.keeps_at in
    let now : F seat (with_anchor v to) = record { seen = mine.seen; tells = λ _. (own.0, own.1, refl); keeps = λ _. (keep.0, refl); asked = mine.asked; stopped = mine.stopped } in
    let others : (j : ℕ) (u : View) → j ≢ seat → get_elem? s.views j ≡ some u → F j u = λ j u other e. let k = h.each j u e in record {
      seen = k.seen;
      tells = λ p. absurd (other ((k.tells p).0 ∙ sym own.0));
      keeps = λ p. absurd (other ((k.keeps p).0 ∙ sym keep.0));
      asked = k.asked;
      stopped = k.stopped;
    } in record {
      number = h.number;
      stop = h.stop;
      anchor = to;
      moved = moved;
      tells_at = h.tells_at;
      keeps_at = h.keeps_at;
      failed = h.failed;
      words = are;
      bit = h.bit;
      by = λ p. asked_set s.views seat v (with_anchor v to) at (λ q. q) (h.by p);
      each = all_set F s.views seat (with_anchor v to) now others;
      book = h.book;
      hears = all_set (KnowsHeard h.book h.failed) s.views seat (with_anchor v to) (record { notes = known.notes; heard = known.heard; within = known.within; listens = known.listens; numbered = known.numbered; failing = known.failing; failed = known.failed }) (λ j u other e. h.hears j u e);
    }

-- the tail is moved
pub moves_tail : (slots seat : ℕ) (me : Me ℕ View) (tail : ℕ) (x : _) → me.0.tells ≡ true → me.0.keeps ≡ true
    → Allows IsTold slots seat me 2 (λ _. tail) (λ _. MovesTail (step slots 2 tail 0 x) me tail)
moves_tail slots seat me tail x tells keeps_it s h homes at fits =
    let to : Known = record me.0.anchor { tail = tail } in
    (with_anchor me.0 to, keeps, tt, moved_to s h seat me.0 at tells keeps_it to (h.moved.0, tail) (slice_set s.words 2 tail) (ap (λ (words : List ℕ). slice_set words 2 tail) h.words), refl)

-- the checkpoint is moved
pub moves_checkpoint : (slots seat : ℕ) (me : Me ℕ View) (checkpoint : ℕ) (x : _) → me.0.tells ≡ true → me.0.keeps ≡ true
    → Allows IsTold slots seat me 3 (λ _. checkpoint) (λ _. MovesCheckpoint (step slots 3 checkpoint 0 x) me checkpoint)
moves_checkpoint slots seat me checkpoint x tells keeps_it s h homes at fits =
    let to : Known = record me.0.anchor { checkpoint = checkpoint } in
    (with_anchor me.0 to, keeps, tt, moved_to s h seat me.0 at tells keeps_it to (checkpoint, h.moved.1) (slice_set s.words 3 checkpoint) (ap (λ (words : List ℕ). slice_set words 3 checkpoint) h.words), refl)

-- the tail of a move that has failed
pub aims_tail : (slots seat : ℕ) (me : Me ℕ View) (tail : ℕ) (x : _) → me.0.tells ≡ true → me.0.keeps ≡ true
    → Allows IsTold slots seat me 2 (λ _. tail) (λ _. AimsTail (step slots 2 tail 0 x) me tail)
aims_tail slots seat me tail x tells keeps_it s h homes at fits =
    let to : Known = record me.0.anchor { aim = (me.0.anchor.aim.0, tail) } in
    (with_anchor me.0 to, keeps, tt, moved_to s h seat me.0 at tells keeps_it to (h.moved.0, tail) (slice_set s.words 2 tail) (ap (λ (words : List ℕ). slice_set words 2 tail) h.words), refl)

-- .. and its checkpoint
pub aims_checkpoint : (slots seat : ℕ) (me : Me ℕ View) (checkpoint : ℕ) (x : _) → me.0.tells ≡ true → me.0.keeps ≡ true
    → Allows IsTold slots seat me 3 (λ _. checkpoint) (λ _. AimsCheckpoint (step slots 3 checkpoint 0 x) me checkpoint)
aims_checkpoint slots seat me checkpoint x tells keeps_it s h homes at fits =
    let to : Known = record me.0.anchor { aim = (checkpoint, me.0.anchor.aim.1) } in
    (with_anchor me.0 to, keeps, tt, moved_to s h seat me.0 at tells keeps_it to (checkpoint, h.moved.1) (slice_set s.words 3 checkpoint) (ap (λ (words : List ℕ). slice_set words 3 checkpoint) h.words), refl)

-- a new seat that looks
pub splits : (seat : ℕ) (v : View) → Splits IsTold seat v v (looker v.seen)
splits seat v s h at =
    let F = Knows h.number h.stop h.anchor h.tells_at h.keeps_at in
    let mine = h.each seat v at in
    let same : All F (slice_set s.views seat v) = all_set F s.views seat v mine (λ j u other e. h.each j u e) in record {
      number = h.number;
      stop = h.stop;
      anchor = h.anchor;
      moved = h.moved;
      tells_at = h.tells_at;
      keeps_at = h.keeps_at;
      failed = h.failed;
      words = h.words;
      bit = h.bit;
      by = λ p. asked_more (slice_set s.views seat v) (looker v.seen) (asked_set s.views seat v v at (λ q. q) (h.by p));
      each = all_more F (slice_set s.views seat v) (looker v.seen) same (λ j. looks_so h.number h.stop h.anchor h.tells_at h.keeps_at j v.seen mine.seen);
      book = h.book;
      hears = all_more (KnowsHeard h.book h.failed) (slice_set s.views seat v) (looker v.seen) (all_set (KnowsHeard h.book h.failed) s.views seat v (h.hears seat v at) (λ j u other e. h.hears j u e)) (λ j. hears_none h.book h.failed j v.seen);
    }

at_end : (l : List View) (a b : View) (j : ℕ) → get_elem? l j ≢ some b → get_elem? (l ++ a ∷ []) j ≡ some b → j ≡ length l
at_end [] a b zero n e = refl
at_end [] a b (suc j) n e = absurd (some-ne-none b (sym e))
at_end (x ∷ xs) a b zero n e = absurd (n e)
at_end (x ∷ xs) a b (suc j) n e = ap suc (at_end xs a b j n e)

-- the right to keep goes to a new seat
pub hands_on : (seat : ℕ) (v : View) → v.keeps ≡ true → Splits IsTold seat v (record v { keeps = false; kept = no_anchor }) (keeper v.seen v.kept)
hands_on seat v may s h at =
    let left : View = record v { keeps = false; kept = no_anchor } in
    let right : View = keeper v.seen v.kept in
    let mine = h.each seat v at in
    let known = h.hears seat v at in
    let own = mine.keeps may in
    let vs : List View = slice_set s.views seat left in
    let F = Knows h.number h.stop h.anchor h.tells_at (length vs) in
    let Old : ℕ → View → Type 0 = λ j u. F j u × (u.keeps ≢ true) in
    let rest : Old seat left = (record { seen = mine.seen; tells = mine.tells; keeps = λ p. off p; asked = mine.asked; stopped = mine.stopped }, λ p. true≢false (sym p)) in
    let others : (j : ℕ) (u : View) → j ≢ seat → get_elem? s.views j ≡ some u → Old j u = λ j u other e.
    let k = h.each j u e in
    let never : u.keeps ≢ true = λ p. other ((k.keeps p).0 ∙ sym own.0) in
    (record { seen = k.seen; tells = k.tells; keeps = λ p. absurd (never p); asked = k.asked; stopped = k.stopped }, never) in
    let old : All Old vs = all_set Old s.views seat left rest others in record {
      number = h.number;
      stop = h.stop;
      anchor = h.anchor;
      moved = h.moved;
      tells_at = h.tells_at;
      keeps_at = length vs;
      failed = h.failed;
      words = h.words;
      bit = h.bit;
      by = λ p. asked_more vs right (asked_set s.views seat v left at (λ q. q) (h.by p));
      each = λ j u e. ⊎_elim (λ x. (old j u x).0)
          (λ (is : right ≡ u). subst (F j) is (record {
            seen = mine.seen;
            tells = λ p. off p;
            keeps = λ _. (at_end vs right u j (λ x. (old j u x).1 (ap (λ (y : View). y.keeps) (sym is))) e, own.1);
            asked = λ p. off p;
            stopped = λ p. off p;
          }))
          (at_snoc vs right u j e);
      book = h.book;
      hears = all_more (KnowsHeard h.book h.failed) vs right (all_set (KnowsHeard h.book h.failed) s.views seat left (record { notes = known.notes; heard = known.heard; within = known.within; listens = known.listens; numbered = known.numbered; failing = known.failing; failed = known.failed }) (λ j u other e. h.hears j u e))
          (λ j. record { notes = λ p. off p; heard = (heard_of 0 h.book.noted, refl); within = omega arith; listens = λ p. off p; numbered = λ p. off p; failing = λ p. off p; failed = λ p. off p });
    }

-- what another has seen is taken over
pub claims : (seat : ℕ) (v : View) (other : ℕ) (w : View) → w.asked ≡ false → Joins IsTold seat v other w (record v { seen = max v.seen w.seen }) (looker 0)
claims seat v other w never s h at apart at' =
    let F = Knows h.number h.stop h.anchor h.tells_at h.keeps_at in
    let both : View = record v { seen = max v.seen w.seen } in
    let known = h.hears seat v at in
    let hearing : KnowsHeard h.book h.failed seat both = record { notes = known.notes; heard = known.heard; within = known.within; listens = known.listens; numbered = known.numbered; failing = known.failing; failed = known.failed } in
    let mine = h.each seat v at in
    let was : get_elem? s.views other ≡ some w = ⊎_elim (λ (x : (other ≡ seat) × (both ≡ w)). absurd (apart x.0)) (λ (x : (other ≢ seat) × (get_elem? s.views other ≡ some w)). x.1) (at_set s.views seat other both w at') in
    let theirs = h.each other w was in
    let joint : F seat both = record { seen = omega (arith, mine.seen, theirs.seen); tells = mine.tells; keeps = mine.keeps; asked = mine.asked; stopped = mine.stopped } in
    let one : All F (slice_set s.views seat both) = all_set F s.views seat both joint (λ j u _ e. h.each j u e) in record {
      number = h.number;
      stop = h.stop;
      anchor = h.anchor;
      moved = h.moved;
      tells_at = h.tells_at;
      keeps_at = h.keeps_at;
      failed = h.failed;
      words = h.words;
      bit = h.bit;
      by = λ p. asked_set (slice_set s.views seat both) other w (looker 0) at' (λ q. absurd (true≢false (sym q ∙ never))) (asked_set s.views seat v both at (λ q. q) (h.by p));
      each = all_set F (slice_set s.views seat both) other (looker 0) (looks_so h.number h.stop h.anchor h.tells_at h.keeps_at other 0 (omega arith)) (λ j u _ e. one j u e);
      book = h.book;
      hears = all_set (KnowsHeard h.book h.failed) (slice_set s.views seat both) other (looker 0) (hears_none h.book h.failed other 0) (λ j u _ e. all_set (KnowsHeard h.book h.failed) s.views seat both hearing (λ j u _ e. h.hears j u e) j u e);
    }

-- .. and the right to keep
pub takes_anchor : (seat : ℕ) (v : View) (other : ℕ) (w : View) → w.keeps ≡ true → w.asked ≡ false → Joins IsTold seat v other w (record v { seen = max v.seen w.seen; keeps = true; kept = w.kept }) (looker 0)
takes_anchor seat v other w may never s h at apart at' =
    let F = Knows h.number h.stop h.anchor h.tells_at seat in
    let both : View = record v { seen = max v.seen w.seen; keeps = true; kept = w.kept } in
    let known = h.hears seat v at in
    let hearing : KnowsHeard h.book h.failed seat both = record { notes = known.notes; heard = known.heard; within = known.within; listens = known.listens; numbered = known.numbered; failing = known.failing; failed = known.failed } in
    let mine = h.each seat v at in
    let was : get_elem? s.views other ≡ some w = ⊎_elim (λ (x : (other ≡ seat) × (both ≡ w)). absurd (apart x.0)) (λ (x : (other ≢ seat) × (get_elem? s.views other ≡ some w)). x.1) (at_set s.views seat other both w at') in
    let theirs = h.each other w was in
    let own = theirs.keeps may in
    let Now : ℕ → View → Type 0 = λ j y. j ≢ other → F j y in
    let joint : Now seat both = λ _. record { seen = omega (arith, mine.seen, theirs.seen); tells = mine.tells; keeps = λ _. (refl, own.1); asked = mine.asked; stopped = mine.stopped } in
    let now : All Now (slice_set s.views seat both) = all_set Now s.views seat both joint (λ j u _ e apart.
    let k = h.each j u e in record { seen = k.seen; tells = k.tells; keeps = λ p. absurd (apart ((k.keeps p).0 ∙ sym own.0)); asked = k.asked; stopped = k.stopped }) in record {
      number = h.number;
      stop = h.stop;
      anchor = h.anchor;
      moved = h.moved;
      tells_at = h.tells_at;
      keeps_at = seat;
      failed = h.failed;
      words = h.words;
      bit = h.bit;
      by = λ p. asked_set (slice_set s.views seat both) other w (looker 0) at' (λ q. absurd (true≢false (sym q ∙ never))) (asked_set s.views seat v both at (λ q. q) (h.by p));
      each = all_set F (slice_set s.views seat both) other (looker 0) (looks_so h.number h.stop h.anchor h.tells_at seat other 0 (omega arith)) (λ j u apart e. now j u e apart);
      book = h.book;
      hears = all_set (KnowsHeard h.book h.failed) (slice_set s.views seat both) other (looker 0) (hears_none h.book h.failed other 0) (λ j u _ e. all_set (KnowsHeard h.book h.failed) s.views seat both hearing (λ j u _ e. h.hears j u e) j u e);
    }
