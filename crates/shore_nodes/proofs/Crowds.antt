-- The requests for granules of a head: what a change makes of them, and of those of other heads.
use Rattle.std.proofs.Common.{◌≡◌, ◌++◌, ◌<◌, inl, inr, ⊎_elim, ℕ, zero, suc, List, [], ◌∷◌, Bool, true, false, Option, None, Some, refl, ap, sym, subst, ◌∙◌, map}
use Rattle.std.specs.Prelude.{filter, not, ◌&&◌, ◌||◌, ◌==◌, is_some, find, MatchBool}
use Rattle.std.specs.List.{list_any}
use Rattle.std.proofs.lemmas.List.{append-nil, nil_from_length}
use Rattle.std.proofs.lemmas.List.Elements.{filter-append}
use Rattle.std.proofs.lemmas.Bool.Decides.{Decides-eqb}
use Rattle.slab.specs.Slab.{Slab, slab_len}
use Rattle.shore_types.specs.declared.locking.Granule.{Granule}
use Rattle.shore_types.specs.declared.locking.Mode.{Mode}
use Rattle.shore_model.specs.declared.requests.Request.{Request}
use Rattle.shore_model.specs.Requests.{are_alike, is_conversion, placed_last, requests_at, is_in_group}
use Rattle.shore_types.specs.Locking.{same_granule}
use Rattle.shore_model.specs.declared.requests.Group.TheVariants.{Conversions, NewWaiters}
use Rattle.shore_rings.specs.declared.ring.Link.{Link}
use Rattle.shore_rings.specs.Rings.{after_at}
use Rattle.shore_nodes.specs.Grants.{is_refused, is_stopped_by, obstacle, granted, granted_in_turn, removed, replaced, can_be_granted}
use Rattle.shore_nodes.specs.Nodes.{IsLinked, in_bucket, pairs_from, queue_head, queue_of, request_at, requests_in}
use Rattle.shore_nodes.specs.Tallies.{Counts, count_in, crowd, how_many, is_just, mode_number}
use Rattle.shore_nodes.specs.declared.tallies.Tally.{Tally}
use Rattle.shore_nodes.specs.Tables.{waiters_at}
use Rattle.shore_nodes.proofs.Entering.{find_step}
use Rattle.shore_nodes.proofs.AlikeNodes.{filter_mapped}
use Rattle.shore_nodes.proofs.Keys.{same_granule-Decides, alike-Decides, in_place-keys}
use Rattle.shore_nodes.proofs.Members.{In, either, filter-no, filter-yes, filter-swap, In-filter, filter-In, filter-none}
use Rattle.shore_nodes.proofs.NodeLemmas.{queue_walk, seconds}
use Rattle.shore_nodes.proofs.Others.{removed_none, replaced_none}
use Rattle.shore_nodes.proofs.Passes.{filter_by_key}

-- the nodes of a head's ring have them
pub crowd_requests : (heads : ℕ) (slots : Slab Request) (queues lists owners : List Link) (ks : List ℕ) (b : ℕ) → IsLinked heads slots queues lists owners ks → b < heads
    → map (λ (p : ℕ × Request). p.1) (pairs_from (slab_len slots) slots queues heads b (after_at queues b)) ≡ crowd heads b (requests_in slots ks)
crowd_requests heads slots queues lists owners ks b are_linked small =
    ap (map (λ (p : ℕ × Request). p.1)) (queue_walk heads slots queues lists owners ks b are_linked small)
    ∙ seconds heads slots (in_bucket (queue_of heads slots) b ks)
    ∙ sym (filter_mapped (λ r. queue_head heads r.granule == b) (request_at slots) (λ k. queue_of heads slots k == b) ks (λ k h. refl))

no_pairs : (n : ℕ) (slots : Slab Request) (links : List Link) (heads head node : ℕ) → node ≡ head → pairs_from n slots links heads head node ≡ []
no_pairs zero slots links heads head node e = refl
no_pairs (suc n) slots links heads head node e = let same = (Decides-eqb node head).1 e in rw same refl

-- a ring that ends where it begins has none
pub nobody_stands : (heads : ℕ) (slots : Slab Request) (queues lists owners : List Link) (ks : List ℕ) (b : ℕ) → IsLinked heads slots queues lists owners ks → b < heads → after_at queues b ≡ b → crowd heads b (requests_in slots ks) ≡ []
nobody_stands heads slots queues lists owners ks b are_linked small ends =
    sym (crowd_requests heads slots queues lists owners ks b are_linked small) ∙ ap (map (λ (p : ℕ × Request). p.1)) (no_pairs (slab_len slots) slots queues heads b (after_at queues b) ends)

-- a change for a granule of one head leaves the others as they were
not_that : (heads b : ℕ) (g : Granule) → (queue_head heads g ≡ b → ⊥) → (queue_head heads g == b) ≡ false
not_that heads b g other = ⊎_elim (λ yes. absurd (other ((Decides-eqb (queue_head heads g) b).0 yes))) (λ none. none) (either (queue_head heads g == b))

apart_in : (heads b : ℕ) (r : Request) (rs : List Request) → (queue_head heads r.granule ≡ b → ⊥) → (q : Request) → In q (crowd heads b rs) → are_alike q r ≡ false
apart_in heads b r rs other q h =
    let at = (Decides-eqb (queue_head heads q.granule) b).0 (In-filter (λ x. queue_head heads x.granule == b) rs q h).1 in
    ⊎_elim (λ yes. absurd (other (ap (queue_head heads) (sym ((alike-Decides q r).0 yes).1) ∙ at))) (λ none. none) (either (are_alike q r))

pub crowd_removed : (heads b : ℕ) (r : Request) (rs : List Request) → crowd heads b (removed r rs) ≡ removed r (crowd heads b rs)
crowd_removed heads b r rs = filter-swap (λ q. queue_head heads q.granule == b) (λ q. not (are_alike q r)) rs

pub crowd_replaced : (heads b : ℕ) (r : Request) (rs : List Request) → crowd heads b (replaced r rs) ≡ replaced r (crowd heads b rs)
crowd_replaced heads b r rs = filter_by_key (λ q. queue_head heads q.granule == b) r (λ q. ap (λ g. queue_head heads g == b) ((in_place-keys r q).1)) rs

pub other_removed : (heads b : ℕ) (r : Request) (rs : List Request) → (queue_head heads r.granule ≡ b → ⊥) → crowd heads b (removed r rs) ≡ crowd heads b rs
other_removed heads b r rs other = crowd_removed heads b r rs ∙ removed_none r (crowd heads b rs) (apart_in heads b r rs other)

pub other_replaced : (heads b : ℕ) (r : Request) (rs : List Request) → (queue_head heads r.granule ≡ b → ⊥) → crowd heads b (replaced r rs) ≡ crowd heads b rs
other_replaced heads b r rs other = crowd_replaced heads b r rs ∙ replaced_none r (crowd heads b rs) (apart_in heads b r rs other)

pub other_pushed : (heads b : ℕ) (r : Request) (rs : List Request) → (queue_head heads r.granule ≡ b → ⊥) → crowd heads b (rs ++ r ∷ []) ≡ crowd heads b rs
other_pushed heads b r rs other =
    filter-append (λ q. queue_head heads q.granule == b) rs (r ∷ [])
    ∙ ap (λ xs. crowd heads b rs ++ xs) (filter-no (λ q. queue_head heads q.granule == b) r [] (not_that heads b r.granule other))
    ∙ append-nil (crowd heads b rs)

pub own_pushed : (heads b : ℕ) (r : Request) (rs : List Request) → queue_head heads r.granule ≡ b → crowd heads b (rs ++ r ∷ []) ≡ crowd heads b rs ++ r ∷ []
own_pushed heads b r rs at =
    filter-append (λ q. queue_head heads q.granule == b) rs (r ∷ [])
    ∙ ap (λ xs. crowd heads b rs ++ xs) (filter-yes (λ q. queue_head heads q.granule == b) r [] ((Decides-eqb (queue_head heads r.granule) b).1 at))

pub other_placed : (heads b : ℕ) (r : Request) (rs : List Request) → (queue_head heads r.granule ≡ b → ⊥) → crowd heads b (placed_last r rs) ≡ crowd heads b rs
other_placed heads b r rs other = other_pushed heads b r (removed r rs) other ∙ other_removed heads b r rs other

pub own_placed : (heads b : ℕ) (r : Request) (rs : List Request) → queue_head heads r.granule ≡ b → crowd heads b (placed_last r rs) ≡ placed_last r (crowd heads b rs)
own_placed heads b r rs at = own_pushed heads b r (removed r rs) at ∙ ap (λ xs. xs ++ r ∷ []) (crowd_removed heads b r rs)

pub other_granted : (heads b : ℕ) (g : Granule) → (queue_head heads g ≡ b → ⊥) → (ws rs : List Request) → ((w : Request) → In w ws → w.granule ≡ g) → crowd heads b (granted_in_turn ws rs) ≡ crowd heads b rs
other_granted heads b g other [] rs at = refl
other_granted heads b g other (w ∷ ws) rs at =
    ⊎_elim
    (λ yes. rw yes (other_granted heads b g other ws (replaced (granted w) rs) (λ x h. at x (inr h)) ∙ other_replaced heads b (granted w) rs (λ e. other (ap (queue_head heads) (sym (at w (inl refl))) ∙ e))))
    (λ none. rw none refl)
    (either (can_be_granted w (requests_at w.granule rs)))

pub others_moved : (heads b : ℕ) (r : Request) (rs new : List Request) (there : Bool) → (queue_head heads r.granule ≡ b → ⊥)
    → MatchBool there ((list_any (λ q. are_alike q r) rs ≡ true) × (new ≡ placed_last r rs)) ((list_any (λ q. are_alike q r) rs ≡ false) × (new ≡ rs)) → crowd heads b new ≡ crowd heads b rs
others_moved heads b r rs new true other moves = ap (crowd heads b) moves.1 ∙ other_placed heads b r rs other
others_moved heads b r rs new false other moves = ap (crowd heads b) moves.1

-- nobody is counted, so nobody is there
pub none_counted : (p : Request → Bool) (rs : List Request) → how_many p rs ≡ 0 → (q : Request) → In q rs → p q ≡ false
none_counted p rs none q h =
    ⊎_elim
    (λ yes. absurd (let there = subst (In q) (nil_from_length (filter p rs) none) (filter-In p rs q h yes) in there))
    (λ bars. bars)
    (either (p q))

in_crowd_of : (heads head : ℕ) (g : Granule) (rs : List Request) (q : Request) → head ≡ queue_head heads g → In q (requests_at g rs) → In q (crowd heads head rs)
in_crowd_of heads head g rs q at h =
    let x = In-filter (λ r. same_granule r.granule g) rs q h in
    filter-In (λ r. queue_head heads r.granule == head) rs q x.0
    ((Decides-eqb (queue_head heads q.granule) head).1 (ap (queue_head heads) ((same_granule-Decides q.granule g).0 x.1) ∙ sym at))

-- no node stands at the head, so none is for the granule
pub nobody_at : (heads head : ℕ) (g : Granule) (rs : List Request) → head ≡ queue_head heads g → crowd heads head rs ≡ [] → requests_at g rs ≡ []
nobody_at heads head g rs at none =
    filter-none (λ r. same_granule r.granule g) rs (λ q h.
    ⊎_elim
    (λ here. absurd (subst (In q) none (in_crowd_of heads head g rs q at (filter-In (λ r. same_granule r.granule g) rs q h here))))
    (λ apart. apart)
    (either (same_granule q.granule g)))

none_waits_here : (wanted held : Option Mode) → is_some wanted ≡ false → (is_some held && is_some wanted) ≡ false
none_waits_here None None e = refl
none_waits_here None (Some h) e = refl
none_waits_here (Some w) held e = cc

pub none_new_here : (wanted held : Option Mode) → is_some wanted ≡ false → (not (is_some held) && is_some wanted) ≡ false
none_new_here None None e = refl
none_new_here None (Some h) e = refl
none_new_here (Some w) held e = cc

pub nobody_waits : (heads head : ℕ) (tally : Tally) (g : Granule) (rs : List Request) → head ≡ queue_head heads g → Counts tally (crowd heads head rs) → tally.waiting ≡ 0 → waiters_at g rs ≡ []
nobody_waits heads head tally g rs at counts none =
    let quiet : (q : Request) → In q (requests_at g rs) → is_some q.wanted ≡ false = λ q h.
    none_counted (λ r. is_some r.wanted) (crowd heads head rs) (sym counts.waiting ∙ none) q (in_crowd_of heads head g rs q at h) in
    ap (λ xs. xs ++ filter (is_in_group NewWaiters) (requests_at g rs)) (filter-none (is_in_group Conversions) (requests_at g rs) (λ q h. none_waits_here q.wanted q.held (quiet q h)))
    ∙ filter-none (is_in_group NewWaiters) (requests_at g rs) (λ q h. none_new_here q.wanted q.held (quiet q h))

pub nobody_converts : (heads head : ℕ) (tally : Tally) (g : Granule) (rs : List Request) → head ≡ queue_head heads g → Counts tally (crowd heads head rs) → tally.converting ≡ 0 → filter (is_in_group Conversions) (requests_at g rs) ≡ []
nobody_converts heads head tally g rs at counts none =
    filter-none (is_in_group Conversions) (requests_at g rs) (λ q h. none_counted is_conversion (crowd heads head rs) (sym counts.converting ∙ none) q (in_crowd_of heads head g rs q at h))

pub find_none : (p : Request → Bool) (xs : List Request) → ((q : Request) → In q xs → p q ≡ false) → find p xs ≡ None
find_none p [] none = refl
find_none p (x ∷ xs) none = find_step p x xs (none x (inl refl)) ∙ find_none p xs (λ q h. none q (inr h))

mild : (apart : Bool) (refused : Bool) (wanted held mine : Option Mode) → refused ≡ false → is_some wanted ≡ false → (not apart && (refused || (is_some wanted && (is_some held || not (is_some mine))))) ≡ false
mild true refused wanted held mine e f = refl
mild false false None held mine e f = refl
mild false true wanted held mine e f = cc
mild false false (Some w) held mine e f = cc

pub not_refused : (asked : Mode) (held : Option Mode) → ((m : Mode) → is_refused (Some asked) (Some m) ≡ true → is_just m held ≡ false) → is_refused (Some asked) held ≡ false
not_refused asked None none = refl
not_refused asked (Some h) none =
    ⊎_elim
    (λ yes. absurd (let f = none h yes in let t : is_just h (Some h) ≡ true = (Decides-eqb (mode_number h) (mode_number h)).1 refl in let g : true ≡ false = sym t ∙ f in cc))
    (λ bars. bars)
    (either (is_refused (Some asked) (Some h)))

pub nobody_in_the_way : (heads head : ℕ) (tally : Tally) (r : Request) (asked : Mode) (rs : List Request) → head ≡ queue_head heads r.granule → Counts tally (crowd heads head rs) → r.wanted ≡ Some asked
    → tally.waiting ≡ 0 → ((m : Mode) → is_refused (Some asked) (Some m) ≡ true → count_in tally m ≡ 0) → obstacle r rs ≡ None
nobody_in_the_way heads head tally r asked rs at counts wants none free =
    find_none (is_stopped_by r) (requests_at r.granule rs) (λ q h.
    let here = in_crowd_of heads head r.granule rs q at h in
    mild (q.txn == r.txn) (is_refused r.wanted q.held) q.wanted q.held r.held
    (ap (λ w. is_refused w q.held) wants ∙ not_refused asked q.held (λ m bars. none_counted (λ x. is_just m x.held) (crowd heads head rs) (sym (counts.holding m) ∙ free m bars) q here))
    (none_counted (λ x. is_some x.wanted) (crowd heads head rs) (sym counts.waiting ∙ none) q here))
