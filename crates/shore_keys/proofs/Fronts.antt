-- The front of a node's text, with another number of entries and other bytes behind it.
use Rattle.std.proofs.Common.{◌≡◌, ◌≢◌, ℕ, zero, suc, ◌+◌, ◌-◌, ◌^◌, ◌<◌, ◌≤◌, List, [], ◌∷◌, ◌++◌, length, take, drop, Bool, true, false, cond, Option, Some, None, refl, sym, ap, subst, ◌∙◌, append_assoc, arith}
use Rattle.std.specs.Prelude.{nat_eq, nat_lt, option_map}
use Rattle.std.proofs.lemmas.Bool.{le-ltb}
use Rattle.std.proofs.lemmas.List.{drop_at, length-append, take_at}
use Rattle.std.proofs.lemmas.Option.{same_Some, none-some}
use Rattle.byteorder.specs.Endian.{little_bytes, little_number}
use Rattle.byteorder.specs.Numbers.{little_number-reads_back}
use Rattle.shore_keys.specs.Nodes.{◌>>=◌, Entry, Front, Node, as_right, entries_at, entry_at, front_at, node_at, number_at, right_at}
use Rattle.shore_keys.proofs.Locals.{Local, bound, kept, local-entry, local-number}

-- level, whether there is a right neighbour, the number of entries, and that neighbour
pub record FrontText (bytes : List ℕ) (f : Front) : Type 0 where
  pub has : ℕ
  pub count : List ℕ
  pub right : List ℕ
  pub is : bytes ≡ f.level ∷ has ∷ (count ++ (right ++ f.body))
  pub two : length count ≡ 2
  pub again : (n : ℕ) (other : List ℕ) → n < 2 ^ 16 → front_at (f.level ∷ has ∷ (little_bytes 2 n ++ (right ++ other))) ≡ Some (record f { count = n; body = other })

local-right : (has : ℕ) (bytes : List ℕ) (right : Option Entry) (rest : List ℕ) → right_at has bytes ≡ Some (right, rest) → Local (right_at has) bytes right rest
unfolding right_at
local-right has bytes right rest e = of (nat_eq has 0) refl
  where
    of : (b : Bool) → nat_eq has 0 ≡ b → Local (right_at has) bytes right rest
    of true none =
        let same = same_Some (None, bytes) (right, rest) (sym (ap (λ b. cond b (Some (None, bytes)) (option_map as_right (entry_at bytes))) none) ∙ e) in
        record {
          raw = [];
          is = ap (λ (y : Option Entry × List ℕ). y.1) same;
          again = λ other. ap (λ b. cond b (Some (None, other)) (option_map as_right (entry_at other))) none ∙ ap (λ (r : Option Entry). Some (r, other)) (ap (λ (y : Option Entry × List ℕ). y.0) same);
        }
    of false some = one (entry_at bytes) refl (sym (ap (λ b. cond b (Some (None, bytes)) (option_map as_right (entry_at bytes))) some) ∙ e)
      where
        one : (o : Option (Entry × List ℕ)) → entry_at bytes ≡ o → option_map as_right (entry_at bytes) ≡ Some (right, rest) → Local (right_at has) bytes right rest
        one None none e = absurd (none-some (right, rest) (sym (ap (option_map as_right) none) ∙ e))
        one (Some x) it e =
            let same = same_Some (Some x.0, x.1) (right, rest) (sym (ap (option_map as_right) it) ∙ e) in
            let l = local-entry bytes x.0 x.1 it in
            record {
              raw = l.raw;
              is = l.is ∙ ap (λ (r : List ℕ). l.raw ++ r) (ap (λ (y : Option Entry × List ℕ). y.1) same);
              again = λ other.
                  ap (λ b. cond b (Some (None, l.raw ++ other)) (option_map as_right (entry_at (l.raw ++ other)))) some
                  ∙ ap (option_map as_right) (l.again other) ∙ ap (λ (r : Option Entry). Some (r, other)) (ap (λ (y : Option Entry × List ℕ). y.0) same);
            }

pub number-again : (n : ℕ) (other : List ℕ) → n < 2 ^ 16 → number_at 2 (little_bytes 2 n ++ other) ≡ Some (n, other)
unfolding number_at
number-again n other small =
    let long : nat_lt (length (little_bytes 2 n ++ other)) 2 ≡ false = le-ltb _ _ (let l = length-append (little_bytes 2 n) other in omega arith) in
    rw (long, little_number-reads_back 2 n other small) refl

-- a number of two bytes is read from two bytes
two-bytes : (bytes : List ℕ) (x : ℕ) (rest : List ℕ) → number_at 2 bytes ≡ Some (x, rest) → (raw : List ℕ) × (bytes ≡ raw ++ rest) × (length raw ≡ 2)
unfolding number_at
two-bytes [] x rest e = absurd cc
two-bytes (a ∷ []) x rest e = absurd cc
two-bytes (a ∷ b ∷ bytes) x rest e =
    let k = kept (nat_lt (length (a ∷ b ∷ bytes)) 2) (little_number 2 (a ∷ b ∷ bytes), bytes) (x, rest) e in
    (a ∷ b ∷ [], ap (λ (r : List ℕ). a ∷ b ∷ r) (ap (λ (y : ℕ × List ℕ). y.1) k.1), refl)

pub front-text : (bytes : List ℕ) (f : Front) → front_at bytes ≡ Some f → FrontText bytes f
unfolding front_at
front-text [] f e = absurd (none-some f e)
front-text (level ∷ []) f e = absurd (none-some f e)
front-text (level ∷ has ∷ bytes) f e =
    let n = bound (number_at 2 bytes) (λ n. option_map (λ x. record { level = level; right = x.0; count = n.0; body = x.1 }) (right_at has n.1)) f e in
    of n.0.0 n.0.1 (two-bytes bytes n.0.0 n.0.1 n.1) (right_at has n.0.1) refl n.2
  where
    of : (n : ℕ) (rest : List ℕ) → ((raw : List ℕ) × (bytes ≡ raw ++ rest) × (length raw ≡ 2)) → (o : Option (Option Entry × List ℕ)) → right_at has rest ≡ o
        → option_map (λ x. record { level = level; right = x.0; count = n; body = x.1 }) (right_at has rest) ≡ Some f → FrontText (level ∷ has ∷ bytes) f
    of n rest raw None none e = absurd (none-some f (sym (ap (option_map (λ (x : Option Entry × List ℕ). record { level = level; right = x.0; count = n; body = x.1 })) none) ∙ e))
    of n rest raw (Some x) it e =
        let made : Front = record { level = level; right = x.0; count = n; body = x.1 } in
        let same : made ≡ f = same_Some made f (sym (ap (option_map (λ (x : Option Entry × List ℕ). record { level = level; right = x.0; count = n; body = x.1 })) it) ∙ e) in
        let l = local-right has rest x.0 x.1 it in
        subst (λ (f : Front). FrontText (level ∷ has ∷ bytes) f) same (record {
          has = has;
          count = raw.0;
          right = l.raw;
          is = ap (λ (r : List ℕ). level ∷ has ∷ r) (raw.1 ∙ ap (λ (r : List ℕ). raw.0 ++ r) l.is);
          two = raw.2;
          again = λ m other small. again m other small l.raw x.0 n (l.again other);
        })
      where
        again : (m : ℕ) (other : List ℕ) → m < 2 ^ 16 → (raw : List ℕ) (right : Option Entry) (n : ℕ) → right_at has (raw ++ other) ≡ Some (right, other)
            → front_at (level ∷ has ∷ (little_bytes 2 m ++ (raw ++ other))) ≡ Some (record { level = level; right = right; count = m; body = other })
        again m other small raw right n is =
            ap (λ (o : Option (ℕ × List ℕ)). o >>= λ n. option_map (λ x. record { level = level; right = x.0; count = n.0; body = x.1 }) (right_at has n.1)) (number-again m (raw ++ other) small)
            ∙ ap (option_map (λ (x : Option Entry × List ℕ). record { level = level; right = x.0; count = m; body = x.1 })) is

pub node-text : (bytes : List ℕ) (f : Front) (es : List Entry) → front_at bytes ≡ Some f → entries_at f.count f.body ≡ Some es → node_at bytes ≡ Some (record { level = f.level; right = f.right; entries = es })
unfolding node_at
node-text bytes f es front entries =
    ap (λ (o : Option Front). o >>= λ f. option_map (λ (es : List Entry). record { level = f.level; right = f.right; entries = es }) (entries_at f.count f.body)) front
    ∙ ap (option_map (λ (es : List Entry). record { level = f.level; right = f.right; entries = es })) entries
