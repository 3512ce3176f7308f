-- A node's text with a key more is read as the node with the key more.
use Rattle.std.proofs.Common.{◌≡◌, ◌≢◌, ◌⊎◌, inl, inr, ℕ, zero, suc, ◌+◌, ◌-◌, ◌^◌, ◌<◌, ◌≤◌, List, [], ◌∷◌, ◌++◌, length, take, drop, Option, Some, None, refl, sym, ap, subst, ◌∙◌, append_assoc, arith}
use Rattle.std.proofs.lemmas.List.{append-nil, drop_at, length-append, length-drop, take_at}
use Rattle.byteorder.specs.Endian.{little_bytes}
use Rattle.shore_keys.specs.Cuts.{IsBehind, IsCutAt, Spells, TailOf, parts, place, with_entry}
use Rattle.shore_keys.specs.Nodes.{Entry, Fits, Front, Node, entries_at, entry_text, front_at, node_at}
use Rattle.shore_keys.specs.Trees.{Spot}
use Rattle.shore_keys.proofs.Fronts.{FrontText, front-text, node-text}
use Rattle.shore_keys.proofs.Spelling.{count-is, spelled, spells-entry, spells-join}
use Rattle.shore_keys.proofs.Walks.{front_is}

-- those of the entries and what is behind them
abbrev entries_part : List ℕ → List ℕ → Spot → List ℕ → List ℕ → List ℕ
entries_part first key spot middle tail = first ++ (entry_text (key, spot.0, spot.1) ++ (middle ++ tail))

regroup : (first key : List ℕ) (spot : Spot) (middle tail : List ℕ) → (first ++ (entry_text (key, spot.0, spot.1) ++ middle)) ++ tail ≡ entries_part first key spot middle tail
regroup first key spot middle tail =
    append_assoc first (entry_text (key, spot.0, spot.1) ++ middle) tail ∙ ap (λ (r : List ℕ). first ++ r) (append_assoc (entry_text (key, spot.0, spot.1)) middle tail)

pub entry-length : (key : List ℕ) (spot : Spot) → length (entry_text (key, spot.0, spot.1)) ≡ length key + 7
unfolding entry_text
entry-length key spot =
    let a = length-append key (little_bytes 4 spot.0 ++ little_bytes 2 spot.1) in
    let b : length (little_bytes 4 spot.0 ++ little_bytes 2 spot.1) ≡ 6 = refl in
    omega arith

module _ (bytes key rest tail : List ℕ) (f : Front) (node : Node) (spot : Spot) (reads : node_at bytes ≡ Some node) (front : front_at bytes ≡ Some f) (at : ℕ) (cut : IsCutAt f.count f.body key node.entries at rest)
    (behind : IsBehind cut.above rest (Some tail)) where
  abbrev pub entry : Entry
  entry = (key, spot.0, spot.1)

  is : FrontText bytes f
  is = front-text bytes f front

  abbrev new : List Entry
  new = cut.below ++ entry ∷ cut.above

  one-more : length new ≡ f.count + 1
  one-more =
      let a = length-append cut.below (entry ∷ cut.above) in
      let b = length-append cut.below cut.above in
      let c : length node.entries ≡ f.count = count-is f.count f.body node.entries (front_is bytes node f reads front).entries in
      let d = ap length cut.all in
      let e : length (entry ∷ cut.above) ≡ suc (length cut.above) = refl in
      omega arith

  entries-read : Fits entry → (more : List ℕ) → entries_at (f.count + 1) (entries_part cut.front key spot behind.0 more) ≡ Some (place key spot node.entries)
  entries-read fits more =
      let joined = spells-join cut.front (entry_text entry ++ behind.0) cut.below ((entry ∷ []) ++ cut.above) cut.spelled (spells-join (entry_text entry) behind.0 (entry ∷ []) cut.above (spells-entry entry fits) behind.2) in
      ap (λ (n : ℕ). entries_at n (entries_part cut.front key spot behind.0 more)) (sym one-more)
      ∙ ap (λ (r : List ℕ). entries_at (length new) r) (sym (regroup cut.front key spot behind.0 more))
      ∙ spelled (cut.front ++ (entry_text entry ++ behind.0)) new more joined
      ∙ ap (λ (es : List Entry). Some es) (sym (cut.placed spot))

  abbrev head : List ℕ
  head = f.level ∷ is.has ∷ (is.count ++ is.right)

  -- all that stands behind the entries
  pub tail-of : TailOf bytes node
  tail-of = record {
    front = f;
    is = front;
    tail = tail;
    behind = (
      cut.front ++ behind.0,
      cut.bytes ∙ ap (λ (r : List ℕ). cut.front ++ r) behind.1 ∙ sym (append_assoc cut.front behind.0 tail),
      subst (Spells (cut.front ++ behind.0)) (sym cut.all) (spells-join cut.front behind.0 cut.below cut.above cut.spelled behind.2),
    );
  }

  pub no-room : (length tail < length key + 7) ⊎ (f.count ≡ 65535) → (t : TailOf bytes node) × ((length t.tail < length key + 7) ⊎ (length node.entries ≡ 65535))
  unfolding tail-of
  no-room (inl short) = (tail-of, inl short)
  no-room (inr most) = (tail-of, inr (count-is f.count f.body node.entries (front_is bytes node f reads front).entries ∙ most))

  head-is : bytes ≡ head ++ f.body
  head-is = is.is ∙ ap (λ (r : List ℕ). f.level ∷ is.has ∷ r) (sym (append_assoc is.count is.right f.body))

  right-is : drop 4 head ≡ is.right
  right-is = drop_at is.count is.right 2 is.two

  abbrev text : List ℕ → List ℕ
  text more = f.level ∷ is.has ∷ (little_bytes 2 (f.count + 1) ++ (is.right ++ entries_part cut.front key spot behind.0 more))

  text-is : (more : List ℕ) → parts head (f.count + 1) cut.front key spot behind.0 more ≡ text more
  text-is more = ap (λ (r : List ℕ). f.level ∷ is.has ∷ (little_bytes 2 (f.count + 1) ++ (r ++ entries_part cut.front key spot behind.0 more))) right-is

  text-read : Fits entry → f.count + 1 < 2 ^ 16 → (more : List ℕ) → node_at (text more) ≡ Some (with_entry key spot node)
  text-read fits small more =
      let of = front_is bytes node f reads front in
      let now : Front = record f { count = f.count + 1; body = entries_part cut.front key spot behind.0 more } in
      node-text (text more) now (place key spot node.entries) (is.again (f.count + 1) (entries_part cut.front key spot behind.0 more) small) (entries-read fits more)
      ∙ ap (λ (l : ℕ). Some (record { level = l; right = f.right; entries = place key spot node.entries })) (sym of.level)
      ∙ ap (λ (r : Option Entry). Some (record { level = node.level; right = r; entries = place key spot node.entries })) (sym of.right)

  long : length key + 7 ≤ length tail → length (text (drop (length key + 7) tail)) ≡ length bytes
  long room =
      let more : List ℕ = drop (length key + 7) tail in
      let a = ap length is.is in
      let b = length-append is.count (is.right ++ f.body) in
      let c = length-append is.right f.body in
      let d = ap length cut.bytes ∙ length-append cut.front rest in
      let e = ap length behind.1 ∙ length-append behind.0 tail in
      let g = length-append is.right (entries_part cut.front key spot behind.0 more) in
      let h = length-append cut.front (entry_text (key, spot.0, spot.1) ++ (behind.0 ++ more)) in
      let i = length-append (entry_text (key, spot.0, spot.1)) (behind.0 ++ more) in
      let sized = entry-length key spot in
      let j = length-append behind.0 more in
      let k = length-drop (length key + 7) tail in
      let two = is.two in
      let first : length (text more) ≡ 4 + length (is.right ++ entries_part cut.front key spot behind.0 more) = omega arith in
      let fourth : length (f.level ∷ is.has ∷ (is.count ++ (is.right ++ f.body))) ≡ 2 + length (is.count ++ (is.right ++ f.body)) = omega arith in
      omega arith

  -- what was cut out is what stands before the rest
  pub written : (head_now first middle it : List ℕ) → ((front : List ℕ) → bytes ≡ front ++ f.body → head_now ≡ front) → ((front : List ℕ) → f.body ≡ front ++ rest → first ≡ front)
      → ((front : List ℕ) → rest ≡ front ++ tail → middle ≡ front) → Fits entry → f.count + 1 < 2 ^ 16 → length key + 7 ≤ length tail
      → it ≡ parts head_now (f.count + 1) first key spot middle (drop (length key + 7) tail) → (node_at it ≡ Some (with_entry key spot node)) × (length it ≡ length bytes)
  written head_now first middle it cuts_head cuts_first cuts_middle fits small room made =
      let more : List ℕ = drop (length key + 7) tail in
      let same : it ≡ text more =
      made ∙ ap (λ (r : List ℕ). parts r (f.count + 1) first key spot middle more) (cuts_head head head-is) ∙ ap (λ (r : List ℕ). parts head (f.count + 1) r key spot middle more) (cuts_first cut.front cut.bytes)
      ∙ ap (λ (r : List ℕ). parts head (f.count + 1) cut.front key spot r more) (cuts_middle behind.0 behind.1) ∙ text-is more in
      (ap node_at same ∙ text-read fits small more, ap length same ∙ long room)
