-- Each step that says what sessions heard keeps the rule of the words.
use Rattle.std.proofs.Common.{◌≡◌, ◌≢◌, ℕ, zero, suc, ◌+◌, ◌≤◌, ◌<◌, ◌==◌, ◌⊎◌, Bool, true, false, true≢false, if◌then◌else◌, List, [], ◌∷◌, ◌++◌, length, append_assoc, append-nil, refl, sym, ap, ◌∙◌, subst, inl, inr, ⊎_elim, eq-eqb, ne_eqb, arith, slice_set, slice_index}
use mathlib.Core.Option.{some, some-injective, some-ne-none}
use lib.ListN.{get_elem?}
use Rattle.atomic_table.specs.Table.{Me, Allows, Splits, Joins, keeps, step}
use Rattle.atomic_table.proofs.Lists.{at_set}
use Rattle.shore_words.specs.declared.rule.Heard.{Heard}
use Rattle.shore_words.specs.declared.rule.Known.{Known}
use Rattle.shore_words.specs.declared.rule.Noted.{Noted}
use Rattle.shore_words.specs.declared.rule.View.{View}
use Rattle.shore_words.specs.Words.{heard_of, listener, looker, scribe, AreBy, Book, HasHeard, IsTold, Knows, KnowsHeard, ShowsHeard}
use Rattle.shore_words.proofs.Keeps.{All, all_set, asked_more, asked_set, hears_none, looks_so, off}

-- ---- what is noted of a session

by_test : (h : Heard) (b : Bool) (all first more : List Heard) → all ≡ first ++ more → (if b then h ∷ all else all) ≡ (if b then h ∷ first else first) ++ more
by_test h true all first more same = ap (λ hs. h ∷ hs) same
by_test h false all first more same = same

heard_append : (session : ℕ) (ns ms : List Noted) → heard_of session (ns ++ ms) ≡ heard_of session ns ++ heard_of session ms
heard_append session [] ms = refl
heard_append session (n ∷ ns) ms = by_test n.heard (n.session == session) (heard_of session (ns ++ ms)) (heard_of session ns) (heard_of session ms) (heard_append session ns ms)

pub heard_own : (session : ℕ) (ns : List Noted) (e : Heard) → heard_of session (ns ++ record { session = session; heard = e } ∷ []) ≡ heard_of session ns ++ e ∷ []
heard_own session ns e = heard_append session ns (record { session = session; heard = e } ∷ []) ∙ (λ i. heard_of session ns ++ (if eq-eqb session session refl i then e ∷ [] else []))

pub heard_other : (session other : ℕ) (ns : List Noted) (e : Heard) → other ≢ session → heard_of session (ns ++ record { session = other; heard = e } ∷ []) ≡ heard_of session ns
heard_other session other ns e apart =
    heard_append session ns (record { session = other; heard = e } ∷ []) ∙ (λ i. heard_of session ns ++ (if ne_eqb other session apart i then e ∷ [] else [])) ∙ append-nil (heard_of session ns)

more_heard : (session : ℕ) (ns ms : List Noted) (heard : List Heard) → HasHeard ns session heard → HasHeard (ns ++ ms) session heard
more_heard session ns ms heard h = (h.0 ++ heard_of session ms, heard_append session ns ms ∙ ap (λ hs. hs ++ heard_of session ms) h.1 ∙ append_assoc heard h.0 (heard_of session ms))

-- ---- by whom what is noted was heard

pub by_more : (made most : ℕ) (ns : List Noted) → made ≤ most → AreBy made ns → AreBy most ns
by_more made most [] more are = tt
by_more made most (n ∷ ns) more (real, within, others) = (real, omega (arith, within, more), by_more made most ns more others)

by_one_more : (made : ℕ) (ns : List Noted) (n : Noted) → 0 < n.session → n.session ≤ made → AreBy made ns → AreBy made (ns ++ n ∷ [])
by_one_more made [] n real within are = (real, within, tt)
by_one_more made (x ∷ ns) n real within (one, low, others) = (one, low, by_one_more made ns n real within others)

unmade : (made session : ℕ) (ns : List Noted) → made < session → AreBy made ns → heard_of session ns ≡ []
unmade made session [] more are = refl
unmade made session (n ∷ ns) more (real, within, others) =
    (λ i. if ne_eqb n.session session (λ e. absurd (omega (arith, e, within, more))) i then n.heard ∷ heard_of session ns else heard_of session ns) ∙ unmade made session ns more others

-- ---- lists of views

at_new : (l : List View) (a b : View) (j : ℕ) → get_elem? (l ++ a ∷ []) j ≡ some b → (get_elem? l j ≡ some b) ⊎ ((j ≡ length l) × (a ≡ b))
at_new [] a b zero e = inr (refl, some-injective a b e)
at_new [] a b (suc j) e = absurd (some-ne-none b (sym e))
at_new (x ∷ xs) a b zero e = inl e
at_new (x ∷ xs) a b (suc j) e = ⊎_elim (λ was. inl was) (λ (is : (j ≡ length xs) × (a ≡ b)). inr (ap suc is.0, is.1)) (at_new xs a b j e)

all_new : (F : ℕ → View → Type 0) (views : List View) (w : View) → All F views → F (length views) w → All F (views ++ w ∷ [])
all_new F views w are new j u e =
    ⊎_elim (λ was. are j u was) (λ (is : (j ≡ length views) × (w ≡ u)). subst (λ (y : ℕ × View). F y.0 y.1) (λ i. (sym is.0 i, is.1 i)) new) (at_new views w u j e)

-- ---- a seat with another place in a book

-- of one session it is another seat
abbrev moved_to : ℕ → ℕ → (ℕ → ℕ) → ℕ → ℕ
moved_to session seat seat_of k = if k == session then seat else seat_of k

moved_here : (session seat : ℕ) (seat_of : ℕ → ℕ) → moved_to session seat seat_of session ≡ seat
moved_here session seat seat_of = λ i. if eq-eqb session session refl i then seat else seat_of session

moved_else : (session seat : ℕ) (seat_of : ℕ → ℕ) (k : ℕ) → k ≢ session → moved_to session seat seat_of k ≡ seat_of k
moved_else session seat seat_of k apart = λ i. if ne_eqb k session apart i then seat else seat_of k

-- The other seats know what they knew.
abbrev Still : Book → Book → Bool → (ℕ → Type 0) → Type 0
Still b new failed Apart = (j : ℕ) (u : View) → Apart j → KnowsHeard b failed j u → KnowsHeard new failed j u

-- A seat is cut in two, and what is known of sessions goes to either.
split_book : (seat : ℕ) (v left right : View)
    → ((number stop : ℕ) (anchor : Known) (tells_at keeps_at : ℕ) → Knows number stop anchor tells_at keeps_at seat v → Knows number stop anchor tells_at keeps_at seat left)
    → (v.asked ≡ true → left.asked ≡ true)
    → ((number stop : ℕ) (anchor : Known) (tells_at keeps_at j : ℕ) → v.seen ≤ number → Knows number stop anchor tells_at keeps_at j right)
    → ((b : Book) (failed : Bool) (n : ℕ) → KnowsHeard b failed seat v → (new : Book) × Still b new failed (λ j. j ≢ seat) × KnowsHeard new failed seat left × KnowsHeard new failed n right)
    → Splits IsTold seat v left right
split_book seat v left right alike asks quiet turn s h at =
    let vs : List View = slice_set s.views seat left in
    let F = Knows h.number h.stop h.anchor h.tells_at h.keeps_at in
    let mine = h.each seat v at in
    let to = turn h.book h.failed (length vs) (h.hears seat v at) in record {
      number = h.number;
      stop = h.stop;
      anchor = h.anchor;
      moved = h.moved;
      tells_at = h.tells_at;
      keeps_at = h.keeps_at;
      failed = h.failed;
      words = h.words;
      bit = h.bit;
      by = λ p. asked_more vs right (asked_set s.views seat v left at asks (h.by p));
      each = all_new F vs right (all_set F s.views seat left (alike _ _ _ _ _ mine) (λ j u other e. h.each j u e)) (quiet _ _ _ _ _ _ mine.seen);
      book = to.0;
      hears = all_new (KnowsHeard to.0 h.failed) vs right (all_set (KnowsHeard to.0 h.failed) s.views seat left to.2 (λ j u other e. to.1 j u other (h.hears j u e))) to.3;
    }

-- .. and two are joined.
join_book : (seat : ℕ) (v : View) (other : ℕ) (w both : View)
    → ((number stop : ℕ) (anchor : Known) (tells_at keeps_at : ℕ) → Knows number stop anchor tells_at keeps_at seat v → Knows number stop anchor tells_at keeps_at seat both)
    → (v.asked ≡ true → both.asked ≡ true) → w.asked ≡ false
    → ((b : Book) (failed : Bool) → KnowsHeard b failed seat v → KnowsHeard b failed other w → (new : Book) × Still b new failed (λ j. (j ≢ seat) × (j ≢ other)) × KnowsHeard new failed seat both)
    → Joins IsTold seat v other w both (looker 0)
join_book seat v other w both alike asks never turn s h at apart at' =
    let F = Knows h.number h.stop h.anchor h.tells_at h.keeps_at in
    let was : get_elem? s.views other ≡ some w = ⊎_elim (λ (x : (other ≡ seat) × (both ≡ w)). absurd (apart x.0)) (λ (x : (other ≢ seat) × (get_elem? s.views other ≡ some w)). x.1) (at_set s.views seat other both w at') in
    let to = turn h.book h.failed (h.hears seat v at) (h.hears other w was) in
    let one : All F (slice_set s.views seat both) = all_set F s.views seat both (alike _ _ _ _ _ (h.each seat v at)) (λ j u _ e. h.each j u e) in record {
      number = h.number;
      stop = h.stop;
      anchor = h.anchor;
      moved = h.moved;
      tells_at = h.tells_at;
      keeps_at = h.keeps_at;
      failed = h.failed;
      words = h.words;
      bit = h.bit;
      by = λ p. asked_set (slice_set s.views seat both) other w (looker 0) at' (λ q. absurd (true≢false (sym q ∙ never))) (asked_set s.views seat v both at asks (h.by p));
      each = all_set F (slice_set s.views seat both) other (looker 0) (looks_so _ _ _ _ _ other 0 (omega arith)) (λ j u _ e. one j u e);
      book = to.0;
      hears = all_set (KnowsHeard to.0 h.failed) (slice_set s.views seat both) other (looker 0) (hears_none to.0 h.failed other 0) (λ j u apart e.
          ⊎_elim (λ (x : (j ≡ seat) × (both ≡ u)). subst (λ (y : ℕ × View). KnowsHeard to.0 h.failed y.0 y.1) (λ i. (sym x.0 i, x.1 i)) to.2)
          (λ (x : (j ≢ seat) × (get_elem? s.views j ≡ some u)). to.1 j u (x.0, apart) (h.hears j u x.1)) (at_set s.views seat j both u e));
    }

-- ---- who notes

-- the right to note goes to a new seat
pub notes_on : (seat : ℕ) (v : View) → v.notes ≡ true → Splits IsTold seat v (record v { notes = false; noted = []; made = 0; failing = false }) (scribe v.seen v.noted v.made v.failing)
notes_on seat v may = split_book seat v (record v { notes = false; noted = []; made = 0; failing = false }) (scribe v.seen v.noted v.made v.failing)
    (λ number stop anchor t k m. record { seen = m.seen; tells = m.tells; keeps = m.keeps; asked = m.asked; stopped = m.stopped }) (λ p. p)
    (λ number stop anchor t k j most. record { seen = most; tells = λ p. off p; keeps = λ p. off p; asked = λ p. off p; stopped = λ p. off p })
    (λ b failed n known. let own = known.notes may in (
      record { notes_at = n; seat_of = b.seat_of; noted = b.noted; made = b.made; by = b.by },
      (λ j u apart k. record { notes = λ p. absurd (apart ((k.notes p).0 ∙ sym own.0)); heard = k.heard; within = k.within; listens = k.listens; numbered = k.numbered; failing = k.failing; failed = k.failed }),
      record { notes = λ p. off p; heard = known.heard; within = known.within; listens = known.listens; numbered = known.numbered; failing = λ p. off p; failed = known.failed },
      record { notes = λ _. (refl, own.1, own.2); heard = (heard_of 0 b.noted, refl); within = omega arith; listens = λ p. off p; numbered = λ p. off p; failing = λ _. known.failing may; failed = λ p. off p },
    ))

-- a new session
pub begins : (seat : ℕ) (v : View) → v.notes ≡ true → Splits IsTold seat v (record v { made = v.made + 1 }) (listener v.seen (v.made + 1) [])
begins seat v may = split_book seat v (record v { made = v.made + 1 }) (listener v.seen (v.made + 1) [])
    (λ number stop anchor t k m. record { seen = m.seen; tells = m.tells; keeps = m.keeps; asked = m.asked; stopped = m.stopped }) (λ p. p)
    (λ number stop anchor t k j most. record { seen = most; tells = λ p. off p; keeps = λ p. off p; asked = λ p. off p; stopped = λ p. off p })
    (λ b failed n known. let own = known.notes may in
    let number : ℕ = v.made + 1 in
    let others : (j : ℕ) (u : View) → KnowsHeard b failed j u → u.listens ≡ true → (j ≡ moved_to number n b.seat_of u.session) × (u.heard ≡ heard_of u.session b.noted) = λ j u k p.
    ((k.listens p).0 ∙ sym (moved_else number n b.seat_of u.session (λ e. absurd (omega (arith, e, k.within, own.2)))), (k.listens p).1) in (
      record { notes_at = b.notes_at; seat_of = moved_to number n b.seat_of; noted = b.noted; made = b.made + 1; by = by_more b.made (b.made + 1) b.noted (omega arith) b.by },
      (λ j u apart k. record { notes = λ p. absurd (apart ((k.notes p).0 ∙ sym own.0)); heard = k.heard; within = omega (arith, k.within); listens = others j u k; numbered = k.numbered; failing = k.failing; failed = k.failed }),
      record { notes = λ p. (own.0, own.1, ap (λ m. m + 1) own.2); heard = known.heard; within = omega (arith, known.within); listens = others seat v known; numbered = known.numbered; failing = known.failing; failed = known.failed },
      record {
        notes = λ p. off p;
        heard = (heard_of number b.noted, refl);
        within = omega (arith, own.2);
        listens = λ _. (sym (moved_here number n b.seat_of), sym (unmade b.made number b.noted (omega (arith, own.2)) b.by));
        numbered = λ _. omega arith;
        failing = λ p. off p;
        failed = λ p. off p;
      },
    ))

-- ---- a session's seat in another place

either_way : (b : Bool) → (b ≡ true) ⊎ (b ≡ false)
either_way true = inl refl
either_way false = inr refl

-- where the one at this place was its seat it is the one at that place now
abbrev Goes : Book → Bool → ℕ → ℕ → View → Type 0
Goes b failed from to v = (new : Book) × (new.notes_at ≡ b.notes_at) × (new.noted ≡ b.noted) × (new.made ≡ b.made)
    × (v.listens ≡ true → (to ≡ new.seat_of v.session) × (v.heard ≡ heard_of v.session b.noted))
    × ((j : ℕ) (u : View) → j ≢ from → KnowsHeard b failed j u → KnowsHeard new failed j u)

goes : (b : Book) (failed : Bool) (from to : ℕ) (v : View) → KnowsHeard b failed from v → Goes b failed from to v
goes b failed from to v known = ⊎_elim
    (λ listens. let own = known.listens listens in (
      record { notes_at = b.notes_at; seat_of = moved_to v.session to b.seat_of; noted = b.noted; made = b.made; by = b.by },
      refl,
      refl,
      refl,
      (λ p. (sym (moved_here v.session to b.seat_of), own.1)),
      (λ j u apart k. record {
        notes = k.notes;
        heard = k.heard;
        within = k.within;
        listens = λ p. ((k.listens p).0 ∙ sym (moved_else v.session to b.seat_of u.session (λ e. apart ((k.listens p).0 ∙ ap b.seat_of e ∙ sym own.0))), (k.listens p).1);
        numbered = k.numbered;
        failing = k.failing;
        failed = k.failed;
      }),
    ))
    (λ not. (b, refl, refl, refl, (λ p. absurd (true≢false (sym p ∙ not))), (λ j u apart k. k)))
    (either_way v.listens)

-- all that a seat knows of a session goes to a new one
pub gives_own : (seat : ℕ) (v : View) → Splits IsTold seat v (record v { session = 0; listens = false; heard = [] }) (record (listener v.seen v.session v.heard) { listens = v.listens; failed = v.failed })
gives_own seat v = split_book seat v (record v { session = 0; listens = false; heard = [] }) (record (listener v.seen v.session v.heard) { listens = v.listens; failed = v.failed })
    (λ number stop anchor t k m. record { seen = m.seen; tells = m.tells; keeps = m.keeps; asked = m.asked; stopped = m.stopped }) (λ p. p)
    (λ number stop anchor t k j most. record { seen = most; tells = λ p. off p; keeps = λ p. off p; asked = λ p. off p; stopped = λ p. off p })
    (λ b failed n known. let g = goes b failed seat n v known in
    let same : g.0.noted ≡ b.noted = g.2 in (
      g.0,
      (λ j u apart k. g.5 j u apart k),
      record { notes = λ p. ((known.notes p).0 ∙ sym g.1, (known.notes p).1 ∙ sym g.2, (known.notes p).2 ∙ sym g.3); heard = (heard_of 0 g.0.noted, refl); within = omega arith; listens = λ p. off p; numbered = λ p. off p; failing = known.failing; failed = known.failed },
      record {
        notes = λ p. off p;
        heard = subst (λ ns. HasHeard ns v.session v.heard) (sym same) known.heard;
        within = omega (arith, known.within, g.3);
        listens = λ p. ((g.4 p).0, (g.4 p).1 ∙ ap (heard_of v.session) (sym same));
        numbered = known.numbered;
        failing = λ p. off p;
        failed = known.failed;
      },
    ))

-- .. and is taken over
pub becomes : (seat : ℕ) (v : View) (other : ℕ) (w : View) → w.asked ≡ false → Joins IsTold seat v other w (record v { session = w.session; listens = w.listens; heard = w.heard; failed = w.failed }) (looker 0)
becomes seat v other w never = join_book seat v other w (record v { session = w.session; listens = w.listens; heard = w.heard; failed = w.failed })
    (λ number stop anchor t k m. record { seen = m.seen; tells = m.tells; keeps = m.keeps; asked = m.asked; stopped = m.stopped }) (λ p. p) never
    (λ b failed known theirs. let g = goes b failed other seat w theirs in
    let same : g.0.noted ≡ b.noted = g.2 in (
      g.0,
      (λ j u apart k. g.5 j u apart.1 k),
      record {
        notes = λ p. ((known.notes p).0 ∙ sym g.1, (known.notes p).1 ∙ sym g.2, (known.notes p).2 ∙ sym g.3);
        heard = subst (λ ns. HasHeard ns w.session w.heard) (sym same) theirs.heard;
        within = omega (arith, theirs.within, g.3);
        listens = λ p. ((g.4 p).0, (g.4 p).1 ∙ ap (heard_of w.session) (sym same));
        numbered = theirs.numbered;
        failing = known.failing;
        failed = theirs.failed;
      },
    ))

-- ---- a session hears, and that is noted

pub is_noted : (entry : Heard) (seat : ℕ) (v : View) (other : ℕ) (w : View) → v.listens ≡ true → w.notes ≡ true → w.asked ≡ false
    → Joins IsTold seat v other w (record v { heard = v.heard ++ entry ∷ []; notes = true; noted = w.noted ++ record { session = v.session; heard = entry } ∷ []; made = w.made; failing = w.failing }) (looker 0)
is_noted entry seat v other w listens may never =
    let x : Noted = record { session = v.session; heard = entry } in
    join_book seat v other w (record v { heard = v.heard ++ entry ∷ []; notes = true; noted = w.noted ++ x ∷ []; made = w.made; failing = w.failing })
    (λ number stop anchor t k m. record { seen = m.seen; tells = m.tells; keeps = m.keeps; asked = m.asked; stopped = m.stopped }) (λ p. p) never
    (λ b failed known theirs. let own = known.listens listens in let book = theirs.notes may in
    let heard : v.heard ++ entry ∷ [] ≡ heard_of v.session (b.noted ++ x ∷ []) = ap (λ hs. hs ++ entry ∷ []) own.1 ∙ sym (heard_own v.session b.noted entry) in (
      record {
        notes_at = seat;
        seat_of = b.seat_of;
        noted = b.noted ++ x ∷ [];
        made = b.made;
        by = by_one_more b.made b.noted x (known.numbered listens) known.within b.by;
      },
      (λ j u apart k. record {
        notes = λ p. absurd (apart.1 ((k.notes p).0 ∙ sym book.0));
        heard = more_heard u.session b.noted (x ∷ []) u.heard k.heard;
        within = k.within;
        listens = λ p. ((k.listens p).0, (k.listens p).1 ∙ sym (heard_other u.session v.session b.noted entry (λ e. apart.0 ((k.listens p).0 ∙ ap b.seat_of (sym e) ∙ sym own.0))));
        numbered = k.numbered;
        failing = k.failing;
        failed = k.failed;
      }),
      record {
        notes = λ _. (refl, ap (λ ns. ns ++ x ∷ []) book.1, book.2);
        heard = ([], sym heard ∙ sym (append-nil (v.heard ++ entry ∷ [])));
        within = known.within;
        listens = λ _. (own.0, heard);
        numbered = λ _. known.numbered listens;
        failing = λ _. theirs.failing may;
        failed = known.failed;
      },
    ))

-- what a seat knows of a session is shown to who notes
pub shows : (slots seat : ℕ) (me : Me ℕ View) (x : _) → Allows IsTold slots seat me 0 (λ n. n) (ShowsHeard (step slots 0 0 0 x) me)
shows slots seat me x s h homes at fits =
    let mine = h.each seat me.0 at in
    let known = h.hears seat me.0 at in
    let found : slice_index s.words 0 ≡ h.number = ap (λ (words : List ℕ). slice_index words 0) h.words in
    let F = Knows h.number h.stop h.anchor h.tells_at h.keeps_at in
    let w : View = record me.0 { session = 0; listens = false; heard = []; failed = false } in
    let now : F seat w = record { seen = mine.seen; tells = mine.tells; keeps = mine.keeps; asked = mine.asked; stopped = mine.stopped } in (
      w,
      keeps,
      tt,
      record {
        number = h.number;
        stop = h.stop;
        anchor = h.anchor;
        moved = h.moved;
        tells_at = h.tells_at;
        keeps_at = h.keeps_at;
        failed = h.failed;
        words = λ i. slice_set (h.words i) 0 (found i);
        bit = h.bit;
        by = λ p. asked_set s.views seat me.0 w at (λ q. q) (h.by p);
        each = all_set F s.views seat w now (λ j u other e. h.each j u e);
        book = h.book;
        hears = all_set (KnowsHeard h.book h.failed) s.views seat w (record { notes = known.notes; heard = (heard_of 0 h.book.noted, refl); within = omega arith; listens = λ p. off p; numbered = λ p. off p; failing = known.failing; failed = λ p. off p }) (λ j u other e. h.hears j u e);
      },
      (
        refl,
        (λ p. let noted = (known.notes p).1 in (
          subst (λ ns. HasHeard ns me.0.session me.0.heard) (sym noted) known.heard,
          omega (arith, known.within, (known.notes p).2),
          (λ q. ap (heard_of me.0.session) noted ∙ sym (known.listens q).1),
          subst (λ (x : ℕ × List Noted). AreBy x.0 x.1) (λ i. (sym (known.notes p).2 i, sym noted i)) h.book.by,
          (λ q. known.failing p ∙ known.failed q),
        )),
      ),
    )
