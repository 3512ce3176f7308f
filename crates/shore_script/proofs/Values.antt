-- Values of a TOML text, by what is read of them.
use Rattle.std.proofs.Common.{◌≡◌, ℕ, suc, ◌<◌, List, [], ◌∷◌, ◌++◌, map, length, take, get_or, refl, sym, ap, ◌∙◌, Option, Some, unwrap_or}
use Rattle.std.proofs.Math.Seq.{take-suc}
use Rattle.toml.specs.Data.{Data, Items, array, as_array, boolean, datetime, float, integer, item, push_item, string, table}
use Rattle.toml.specs.View.{items_of, items_view, view}
use Rattle.toml.specs.declared.value.Value.{Value}
use Rattle.shore_script.specs.Keys.{whole}

pub array-is : (d : Data) (items : Items) → as_array d ≡ Some items → d ≡ array items
array-is (string r) items h = cc h
array-is (integer y) items h = cc h
array-is (float x) items h = cc h
array-is (boolean c) items h = cc h
array-is (datetime t) items h = cc h
array-is (array ds) items h = ap array (ap (λ (o : Option Items). unwrap_or o ds) h)
array-is (table ms) items h = cc h

items-push : {A : Type 0} (f : A → Data) (xs : List A) (x : A) → items_of (map f (xs ++ (x ∷ []))) ≡ push_item (items_of (map f xs)) (f x)
items-push f [] x = refl
items-push f (y ∷ xs) x = ap (item (f y)) (items-push f xs x)

-- one number more
pub wholes-more : (values : List Value) (i : ℕ) (value : Value) (stores : List ℕ) (n : ℕ) → i < length values → value ≡ get_or values i value → view value ≡ whole n
    → items_view (take i values) ≡ items_of (map whole stores) → items_view (take (suc i) values) ≡ items_of (map whole (stores ++ (n ∷ [])))
wholes-more values i value stores n lt at is so_far =
    ap (λ (vs : List Value). items_view vs) (take-suc values i value lt ∙ ap (λ (v : Value). take i values ++ (v ∷ [])) (sym at))
    ∙ items-push view (take i values) value
    ∙ ap (λ (items : Items). push_item items (view value)) so_far
    ∙ ap (push_item (items_of (map whole stores))) is
    ∙ sym (items-push whole stores n)
