-- The loop of a walk that changes nothing: it is at the granule, and with the nodes left, at which an acquire would be.
use Rattle.std.proofs.Common.{◌≡◌, ◌≢◌, ◌<◌, ◌≤◌, ◌+◌, ℕ, suc, List, [], ◌∷◌, Bool, Option, true, false, inl, inr, ⊎_elim, refl, ap, sym, subst, ◌∙◌, length, take, drop, get_or, arith, drop-cons, reverse}
use Rattle.std.specs.Prelude.{◌&&◌, not, Ok}
use Rattle.std.specs.Option.{option_and_then}
use Rattle.shore_types.specs.declared.locking.Granule.{Granule}
use Rattle.shore_types.specs.declared.locking.Granule.TheVariants.{Volume, Store, Page, Record}
use Rattle.shore_types.specs.declared.locking.Mode.{Mode}
use Rattle.shore_types.specs.Locking.{same_granule}
use Rattle.shore_model.specs.declared.requests.Request.{Request}
use Rattle.shore_model.specs.Locks.{path}
use Rattle.shore_model.specs.Requests.{AreRequests, requests_at}
use Rattle.shore_locks.specs.declared.answers.Tried.{Tried}
use Rattle.shore_locks.specs.Grants.{after_try, answer_to_try}
use Rattle.shore_locks.specs.Tables.{Table, request_for}
use Rattle.shore_locks.proofs.Members.{In}
use Rattle.shore_path.specs.declared.answers.Acquired.TheVariants as acquire
use Rattle.shore_path.specs.declared.answers.OnConflict.TheVariants.{Refuse}
use Rattle.shore_path.specs.Judging.{IsAlike}
use Rattle.shore_path.specs.Walks.{asked_of, is_covered, is_spared, of_try}
use Rattle.shore_path.proofs.JudgedGranules.{elsewhere_after_try, grew_after_try, held_same, one_after_try}
use Rattle.shore_path.proofs.Walking.{Through, walk_on}
use Rattle.shore_path.proofs.WalkLoops.{ends_spared, ends_told, ends_whole, goes_on}

-- no granule comes twice
abbrev pub Differ : List Granule → Type 0
Differ [] = Unit {0}
Differ (g ∷ below) = (In g below → ⊥) × Differ below

other_than : (g h : Granule) (below : List Granule) → (g ≢ h) → (In g below → ⊥) → In g (h ∷ below) → ⊥
other_than g h below apart rest i = ⊎_elim (λ e. apart (sym e)) (λ t. rest t) i

pub differ_path : (target : Granule) → Differ (reverse (path target))
differ_path Volume = (λ i. i, tt)
differ_path (Store s) = (other_than Volume (Store s) [] (λ e. cc) (λ i. i), (λ i. i, tt))
differ_path (Page p) = (
  other_than Volume (Store p.store) (Page p ∷ []) (λ e. cc) (other_than Volume (Page p) [] (λ e. cc) (λ i. i)),
  (other_than (Store p.store) (Page p) [] (λ e. cc) (λ i. i), (λ i. i, tt)),
)
differ_path (Record r) = (
  other_than Volume (Store r.page.store) (Page r.page ∷ Record r ∷ []) (λ e. cc)
      (other_than Volume (Page r.page) (Record r ∷ []) (λ e. cc) (other_than Volume (Record r) [] (λ e. cc) (λ i. i))),
  (
    other_than (Store r.page.store) (Page r.page) (Record r ∷ []) (λ e. cc) (other_than (Store r.page.store) (Record r) [] (λ e. cc) (λ i. i)),
    (other_than (Page r.page) (Record r) [] (λ e. cc) (λ i. i), (λ i. i, tt)),
  ),
)

-- an acquire that came so far would have these requests, which are those in the table at each granule to come, and so many nodes left
pub record Judged (t : ℕ) (target : Granule) (mode : Mode) (limit left : ℕ) (walked below : List Granule) (rs : List Request) : Type 0 where
  pub mid : List Request
  pub through : Through Refuse t target mode limit walked rs mid
  pub one : AreRequests mid
  pub alike : (g : Granule) → In g below → requests_at g mid ≡ requests_at g rs
  pub differ : Differ below
  pub grew : length rs ≤ length mid
  pub room : left + length mid ≡ limit

pub none_judged : (t : ℕ) (target : Granule) (mode : Mode) (limit left : ℕ) (way : List Granule) (rs : List Request) → AreRequests rs → Differ way → left + length rs ≡ limit → Judged t target mode limit left [] way rs
none_judged t target mode limit left way rs one differ room = record {
  mid = rs;
  through = refl;
  one = one;
  alike = λ g i. refl;
  differ = differ;
  grew = omega arith;
  room = room;
}

module _ (t : ℕ) (target : Granule) (mode : Mode) (old : Table) (way : List Granule) (i left : ℕ) (judged : Judged t target mode old.limit left (take i way) (drop i way) old.requests)
    (g : Granule) (within : i < length way) (is : g ≡ get_or way i g) where
  abbrev asked : Mode
  asked = asked_of target mode g

  abbrev mid : Table
  mid = record { limit = old.limit; requests = judged.mid }

  ahead : drop i way ≡ g ∷ drop (suc i) way
  ahead = drop-cons way i g within ∙ ap (λ h. h ∷ drop (suc i) way) (sym is)

  here : requests_at g judged.mid ≡ requests_at g old.requests
  here = judged.alike g (subst (In g) (sym ahead) (inl refl))

  like_here : IsAlike g old.limit left old.requests judged.mid
  like_here = record { one = judged.one; same = here; grew = judged.grew; room = judged.room }

  -- what the transaction has at the granule, as it was read, and whether it spares the rest
  module _ (own : Option Request) (found : own ≡ request_for t g old.requests) (b : Bool)
      (spares : b ≡ (not (same_granule g target) && is_covered mode (option_and_then (λ (r : Request). r.held) own))) where
    spared_there : is_spared t target mode g judged.mid ≡ b
    spared_there =
        ap (λ held. not (same_granule g target) && is_covered mode held) (held_same t g mode old.requests judged.mid here)
        ∙ ap (λ o. not (same_granule g target) && is_covered mode (option_and_then (λ (r : Request). r.held) o)) (sym found) ∙ sym spares

    pub judged_spared : b ≡ true → Ok acquire.Done ≡ (walk_on Refuse t target mode old.limit way old.requests).answer
    judged_spared sure = (ends_spared Refuse t target mode old mid way i refl judged.through g within is (spared_there ∙ sure)).0

    -- what is answered there
    module _ (free : b ≡ false) (m : Mode) (asks : m ≡ asked) (tried : Tried)
        (answers : (new : List Request) → IsAlike g old.limit left old.requests new → tried ≡ answer_to_try (record { limit = old.limit; requests = new }) t g m) where
      told : tried ≡ answer_to_try mid t g asked
      told = answers judged.mid like_here ∙ ap (answer_to_try mid t g) asks

      pub judged_told : (of_try tried ≡ Ok acquire.Done → ⊥) → of_try tried ≡ (walk_on Refuse t target mode old.limit way old.requests).answer
      judged_told other =
          (ends_told Refuse t target mode old mid way i refl judged.through g (of_try tried) (record { limit = old.limit; requests = after_try mid t g asked }) within is (spared_there ∙ free)
          (ap of_try told) other refl).0

      -- .. and behind a granule that would be granted it goes on
      pub judged_on : (rest : ℕ) → of_try tried ≡ Ok acquire.Done
          → ((new : List Request) → IsAlike g old.limit left old.requests new → rest + length (after_try (record { limit = old.limit; requests = new }) t g m) ≡ old.limit)
          → Judged t target mode old.limit rest (take (i + 1) way) (drop (i + 1) way) old.requests
      judged_on rest done room =
          let more = goes_on Refuse t target mode old mid way i refl judged.through g (record { limit = old.limit; requests = after_try mid t g asked }) within is
          (record { needed = spared_there ∙ free; done = sym (ap of_try told) ∙ done; left = refl }) in
          let parts : Differ (g ∷ drop (suc i) way) = subst Differ ahead judged.differ in
          let plus : suc i ≡ i + 1 = omega arith in
          let next : drop (suc i) way ≡ drop (i + 1) way = ap (λ n. drop n way) plus in
          let grew = grew_after_try t g asked old.limit judged.mid judged.one in
          let before = judged.grew in
          record {
            mid = after_try mid t g asked;
            through = more.0;
            one = one_after_try t g asked old.limit judged.mid judged.one;
            alike = λ h in_rest.
                let there : In h (drop (suc i) way) = subst (In h) (sym next) in_rest in
                elsewhere_after_try t g asked old.limit judged.mid judged.one h (λ e. parts.0 (subst (λ k. In k (drop (suc i) way)) (sym e) there))
                ∙ judged.alike h (subst (In h) (sym ahead) (inr there));
            differ = subst Differ next parts.1;
            grew = omega (arith, grew, before);
            room = ap (λ k. rest + length (after_try mid t g k)) (sym asks) ∙ room judged.mid like_here;
          }

pub judged_whole : (t : ℕ) (target : Granule) (mode : Mode) (old : Table) (way : List Granule) (i left : ℕ) → Judged t target mode old.limit left (take i way) (drop i way) old.requests
    → length way ≤ i → Ok acquire.Done ≡ (walk_on Refuse t target mode old.limit way old.requests).answer
judged_whole t target mode old way i left judged past =
    (ends_whole Refuse t target mode old (record { limit = old.limit; requests = judged.mid }) way i refl judged.through past).0
