-- The table of frames, as frames come, go and change.
use Rattle.std.proofs.Common.{◌≡◌, ◌≢◌, ◌<◌, ◌+◌, ℕ, zero, suc, List, [], ◌∷◌, Option, Some, None, cond, count_by, length, slice_index_or, slice_set, option_map, is_some, true, refl, sym, ap, subst, ◌∙◌, inl, inr, arith}
use Rattle.std.proofs.lemmas.Bool.{cases_eq, cases_lt}
use Rattle.std.proofs.lemmas.List.{get_or_past, get_or-set_same, get_or-set_other}
use Rattle.std.proofs.lemmas.List.Sums.{sum_by-cons}
use Rattle.std.specs.Option.{option_and_then}
use Rattle.slab.specs.Slab.{Slab, Updates, get}
use Rattle.slab.proofs.SlabLemmas.{ContainsKey-within}
use Rattle.shore_pool.specs.declared.frame.Frame.{Frame}
use Rattle.shore_pool.specs.Frames.{IsIndexed, frame_in, key_at, number_in}

abbrev number_of : Option Frame → Option ℕ
number_of slot = option_map (λ f. f.number) slot

module _ (slots new : Slab Frame) (table : List (Option ℕ)) (n key : ℕ) (within : n < length table) where
  set_here : (e : Option ℕ) → key_at (slice_set table n e) n ≡ e
  set_here e = get_or-set_same table n e None within

  set_there : (e : Option ℕ) (k : ℕ) → k ≢ n → key_at (slice_set table n e) k ≡ key_at table k
  set_there e k other = get_or-set_other table n k e None other

  -- a frame whose key is not the one under which something changes stays
  pub other_stays : (slot : Option Frame) → Updates slots new key slot → (other : List (Option ℕ)) (k : ℕ) → key_at other k ≡ key_at table k → ((j : ℕ) → key_at table k ≡ Some j → j ≢ key) → frame_in new other k ≡ frame_in slots table k
  other_stays slot updates other k same apart = ap (option_and_then (get new)) same ∙ each (key_at table k) apart
    where
      each : (at : Option ℕ) → ((j : ℕ) → at ≡ Some j → j ≢ key) → option_and_then (get new) at ≡ option_and_then (get slots) at
      each None apart = refl
      each (Some j) apart = updates.others j (apart j refl)

  -- the key of another page is another
  apart_from : IsIndexed slots table → (k : ℕ) → k ≢ n → number_in slots key ≡ Some n → (j : ℕ) → key_at table k ≡ Some j → j ≢ key
  apart_from indexed k other is j at same =
      let named : number_in slots key ≡ Some k = subst (λ (i : ℕ). number_in slots i ≡ Some k) same (indexed.there j k at) in
      let clash : Some n ≡ Some k = sym is ∙ named in
      other (sym (cc))

  pub none_where : IsIndexed slots table → frame_in slots table n ≡ None → key_at table n ≡ None
  none_where indexed none = each (key_at table n) refl
    where
      each : (at : Option ℕ) → key_at table n ≡ at → key_at table n ≡ None
      each None is = is
      each (Some j) is =
          let named : number_in slots j ≡ Some n = indexed.there j n is in
          let empty : get slots j ≡ None = ap (option_and_then (get slots)) (sym is) ∙ none in
          let clash : None ≡ Some n = sym (ap number_of empty) ∙ named in
          cc

  -- a page gets a frame
  module _ (f : Frame) (updates : Updates slots new key (Some f)) (named : f.number ≡ n) where
    now_there : number_in new key ≡ Some n
    now_there = ap number_of updates.changed ∙ ap Some named

    pub added : IsIndexed slots table → get slots key ≡ None → frame_in slots table n ≡ None → IsIndexed new (slice_set table n (Some key))
    added indexed vacant none = record {
      listed = λ j k is. elim (cases_eq j key) [
        | inl same ↦
            let both : Some n ≡ Some k = sym now_there ∙ ap (number_in new) (sym same) ∙ is in
            let k_is : n ≡ k = cc in
            subst (λ (i : ℕ). key_at (slice_set table n (Some key)) i ≡ Some j) k_is (set_here (Some key) ∙ ap Some (sym same))
        | inr other ↦
            let old : number_in slots j ≡ Some k = ap number_of (sym (updates.others j other)) ∙ is in
            let at : key_at table k ≡ Some j = indexed.listed j k old in
            let apart : k ≢ n = λ same. let clash : None ≡ Some j = sym (none_where indexed none) ∙ ap (key_at table) (sym same) ∙ at in cc in
            set_there (Some key) k apart ∙ at
      ];
      there = λ j k at. elim (cases_eq k n) [
        | inl same ↦
            let both : Some key ≡ Some j = sym (set_here (Some key)) ∙ ap (key_at (slice_set table n (Some key))) (sym same) ∙ at in
            let j_is : key ≡ j = cc in
            subst (λ (i : ℕ). number_in new i ≡ Some k) j_is (now_there ∙ ap Some (sym same))
        | inr other ↦
            let old : number_in slots j ≡ Some k = indexed.there j k (sym (set_there (Some key) k other) ∙ at) in
            let apart : j ≢ key = λ same. let clash : None ≡ Some k = sym (ap number_of vacant) ∙ ap (number_in slots) (sym same) ∙ old in cc in
            ap number_of (updates.others j apart) ∙ old
      ];
    }

    pub added_others : IsIndexed slots table → get slots key ≡ None → (k : ℕ) → k ≢ n → frame_in new (slice_set table n (Some key)) k ≡ frame_in slots table k
    added_others indexed vacant k other =
        other_stays (Some f) updates (slice_set table n (Some key)) k (set_there (Some key) k other) (λ j at same.
        let named : number_in slots key ≡ Some k = subst (λ (i : ℕ). number_in slots i ≡ Some k) same (indexed.there j k at) in
        let clash : None ≡ Some k = sym (ap number_of vacant) ∙ named in
        cc)

    -- a page's frame changes
    pub replaced : IsIndexed slots table → key_at table n ≡ Some key → IsIndexed new table
    replaced indexed where_is = record {
      listed = λ j k is. elim (cases_eq j key) [
        | inl same ↦
            let both : Some n ≡ Some k = sym now_there ∙ ap (number_in new) (sym same) ∙ is in
            let k_is : n ≡ k = cc in
            subst (λ (i : ℕ). key_at table i ≡ Some j) k_is (where_is ∙ ap Some (sym same))
        | inr other ↦ indexed.listed j k (ap number_of (sym (updates.others j other)) ∙ is)
      ];
      there = λ j k at. elim (cases_eq j key) [
        | inl same ↦
            let was : number_in slots key ≡ Some k = subst (λ (i : ℕ). number_in slots i ≡ Some k) same (indexed.there j k at) in
            let both : Some n ≡ Some k = sym (indexed.there key n where_is) ∙ was in
            ap (number_in new) same ∙ now_there ∙ both
        | inr other ↦ ap number_of (updates.others j other) ∙ indexed.there j k at
      ];
    }

    pub replaced_here : key_at table n ≡ Some key → frame_in new table n ≡ Some f
    replaced_here where_is = ap (option_and_then (get new)) where_is ∙ updates.changed

    pub replaced_others : IsIndexed slots table → key_at table n ≡ Some key → (k : ℕ) → k ≢ n → frame_in new table k ≡ frame_in slots table k
    replaced_others indexed where_is k other = other_stays (Some f) updates table k refl (apart_from indexed k other (indexed.there key n where_is))

  -- a page's frame goes
  pub removed : IsIndexed slots table → key_at table n ≡ Some key → Updates slots new key None → IsIndexed new (slice_set table n None)
  removed indexed where_is updates = record {
    listed = λ j k is. elim (cases_eq j key) [
      | inl same ↦ let clash : None ≡ Some k = sym (ap number_of updates.changed) ∙ ap (number_in new) (sym same) ∙ is in cc
      | inr other ↦
          let at : key_at table k ≡ Some j = indexed.listed j k (ap number_of (sym (updates.others j other)) ∙ is) in
          let apart : k ≢ n = λ same. let both : Some key ≡ Some j = sym where_is ∙ ap (key_at table) (sym same) ∙ at in other (sym (cc)) in
          set_there None k apart ∙ at
    ];
    there = λ j k at. elim (cases_eq k n) [
      | inl same ↦ let clash : None ≡ Some j = sym (set_here None) ∙ ap (key_at (slice_set table n None)) (sym same) ∙ at in cc
      | inr other ↦
          let old : number_in slots j ≡ Some k = indexed.there j k (sym (set_there None k other) ∙ at) in
          ap number_of (updates.others j (apart_from indexed k other (indexed.there key n where_is) j (sym (set_there None k other) ∙ at))) ∙ old
    ];
  }

  pub removed_others : IsIndexed slots table → key_at table n ≡ Some key → Updates slots new key None → (k : ℕ) → k ≢ n → frame_in new (slice_set table n None) k ≡ frame_in slots table k
  removed_others indexed where_is updates k other = other_stays None updates (slice_set table n None) k (set_there None k other) (apart_from indexed k other (indexed.there key n where_is))

-- what the table names has a frame
pub frame_there : (slots : Slab Frame) (table : List (Option ℕ)) → IsIndexed slots table → (n key : ℕ) → key_at table n ≡ Some key → is_some (frame_in slots table n) ≡ true
frame_there slots table indexed n key at = ap (λ (e : Option ℕ). is_some (option_and_then (get slots) e)) at ∙ each (get slots key) (indexed.there key n at)
  where
    each : (slot : Option Frame) → number_of slot ≡ Some n → is_some slot ≡ true
    each None clash = cc
    each (Some f) is = refl

-- the frame that the table names is that of the page
pub same_number : (slots : Slab Frame) (table : List (Option ℕ)) → IsIndexed slots table → (n key : ℕ) → key_at table n ≡ Some key → (f : Frame) → get slots key ≡ Some f → f.number ≡ n
same_number slots table indexed n key at f is =
    let both : Some f.number ≡ Some n = sym (ap number_of is) ∙ indexed.there key n at in
    cc

-- as many are kept when one changes
pub same_count : (slots : List (Option Frame)) (key : ℕ) (f : Frame) → is_some (slice_index_or slots key None) ≡ true → count_by is_some (slice_set slots key (Some f)) ≡ count_by is_some slots
same_count [] key f there = refl
same_count (None ∷ slots) zero f there = cc
same_count (Some x ∷ slots) zero f there = refl
same_count (x ∷ slots) (suc key) f there =
    sum_by-cons weight x (slice_set slots key (Some f)) ∙ ap (λ (n : ℕ). weight x + n) (same_count slots key f there) ∙ sym (sum_by-cons weight x slots)
  where
    weight : Option Frame → ℕ
    weight slot = cond (is_some slot) 1 0

-- each frame is that of its page
pub frame_of_key : (slots : Slab Frame) (table : List (Option ℕ)) → IsIndexed slots table → (key : ℕ) (f : Frame) → get slots key ≡ Some f → frame_in slots table f.number ≡ Some f
frame_of_key slots table indexed key f is = ap (option_and_then (get slots)) (indexed.listed key f.number (ap number_of is)) ∙ is

-- the key of a frame
pub key_of_frame : (slots : Slab Frame) (table : List (Option ℕ)) (k : ℕ) (f : Frame) → frame_in slots table k ≡ Some f → (key : ℕ) × (key_at table k ≡ Some key) × (get slots key ≡ Some f) × (key < length slots.slots)
key_of_frame slots table k f is = each (key_at table k) refl
  where
    each : (at : Option ℕ) → key_at table k ≡ at → (key : ℕ) × (key_at table k ≡ Some key) × (get slots key ≡ Some f) × (key < length slots.slots)
    each None at = let clash : None ≡ Some f = ap (option_and_then (get slots)) (sym at) ∙ is in absurd (cc)
    each (Some key) at =
        let got : get slots key ≡ Some f = ap (option_and_then (get slots)) (sym at) ∙ is in
        (key, at, got, ContainsKey-within slots key (ap is_some got))

-- if the frame of a page's key has a number, it is that page's
pub numbered : (slots : Slab Frame) (table : List (Option ℕ)) → IsIndexed slots table → (n key number : ℕ) → key_at table n ≡ Some key → ((f : Frame) → get slots key ≡ Some f → f.number ≡ number) → number ≡ n
numbered slots table indexed n key number at is = each (get slots key) refl
  where
    there : number_in slots key ≡ Some n
    there = indexed.there key n at

    each : (slot : Option Frame) → get slots key ≡ slot → number ≡ n
    each None none =
        let clash : None ≡ Some n = sym (ap number_of none) ∙ there in
        absurd cc
    each (Some f) some =
        let both : Some f.number ≡ Some n = sym (ap number_of some) ∙ there in
        let named : f.number ≡ number = is f some in
        cc

-- a page with a frame is in the table
pub frame_within : (slots : Slab Frame) (table : List (Option ℕ)) (k : ℕ) (f : Frame) → frame_in slots table k ≡ Some f → k < length table
frame_within slots table k f is = elim (cases_lt k (length table)) [
  | inl within ↦ within
  | inr past ↦
      let at = key_of_frame slots table k f is in
      let clash : None ≡ Some at.0 = sym (get_or_past table k None past) ∙ at.1 in
      absurd cc
]

-- a slab with nothing at any key has nothing
pub none_kept : (slots : List (Option Frame)) → ((key : ℕ) → key < length slots → slice_index_or slots key None ≡ None) → count_by is_some slots ≡ 0
none_kept [] none = refl
none_kept (x ∷ slots) none =
    let here : x ≡ None = none 0 (omega arith) in
    sum_by-cons weight x slots ∙ ap (λ (n : ℕ). weight x + n) (none_kept slots (λ key inside. none (suc key) (omega arith))) ∙ ap (λ (o : Option Frame). weight o + 0) here
  where
    weight : Option Frame → ℕ
    weight slot = cond (is_some slot) 1 0
