-- What a list tells after one record more.
use Rattle.std.proofs.Common.{◌≡◌, ℕ, List, [], ◌∷◌, ◌++◌, Bool, true, false, cond, None, map, refl, sym, ap, ◌∙◌, append-nil}
use Rattle.std.specs.Prelude.{filter, reverse, ◌==◌, ◌&&◌, ◌||◌, not}
use Rattle.std.specs.List.{filter_map, cons_option}
use Rattle.std.specs.FinMap.{empty, from_entries}
use Rattle.std.proofs.lemmas.List.Elements.{filter-append, filter_map-append}
use Rattle.std.proofs.lemmas.List.Folds.{list_any-append}
use Rattle.shore_types.specs.declared.ids.Rid.{Rid}
use Rattle.shore_model.specs.declared.log_records.LogRecord.{LogRecord}
use Rattle.shore_model.specs.declared.log_records.Payload.{Payload}
use Rattle.shore_model.specs.declared.log_records.Payload.TheVariants.{Commit}
use Rattle.shore_model.specs.Records.{WriteSet, overlay, overlays}
use Rattle.shore_types.specs.Images.{Image}
use Rattle.shore_model.proofs.Overlays.{overlays-append}
use Rattle.shore_model.specs.Logs.{image_in, logged_writes, has, is_commit, is_prepare, is_rollback, is_in_doubt, committed_in, commit_of, in_doubt_in, prepare_of, records_told}

abbrev images_in : List LogRecord → List (Rid × Image)
images_in rs = filter_map (λ r. image_in r.payload) rs

none_left : (b : Bool) (r : LogRecord) → image_in r.payload ≡ None → images_in (cond b (r ∷ []) []) ≡ []
none_left true r e = ap (λ o. cons_option o []) e
none_left false r e = refl

images_of_push : (p : LogRecord → Bool) (rs : List LogRecord) (r : LogRecord) → image_in r.payload ≡ None → images_in (filter p (rs ++ r ∷ [])) ≡ images_in (filter p rs)
images_of_push p rs r e =
    ap images_in (filter-append p rs (r ∷ [])) ∙ filter_map-append (λ r. image_in r.payload) (filter p rs) (filter p (r ∷ []))
    ∙ ap (λ xs. images_in (filter p rs) ++ xs) (none_left (p r) r e) ∙ append-nil (images_in (filter p rs))

-- a record that leaves no image leaves each transaction's writes
pub logged_writes-push : (rs : List LogRecord) (r : LogRecord) → image_in r.payload ≡ None → (t : ℕ) → logged_writes (rs ++ r ∷ []) t ≡ logged_writes rs t
logged_writes-push rs r e t = ap (λ xs. from_entries (reverse xs)) (images_of_push (λ r. r.txn == t) rs r e)

doubt_less : (p c r b : Bool) → (p && not c && not r) ≡ false → ((p || ((b && false) || false)) && not (c || ((b && true) || false)) && not (r || ((b && false) || false))) ≡ false
doubt_less true true r b h = refl
doubt_less true false true true h = refl
doubt_less true false true false h = refl
doubt_less true false false b h = cc
doubt_less false c r true h = refl
doubt_less false c r false h = refl

abbrev commit_record : ℕ → ℕ → LogRecord
commit_record t p = record { txn = t; previous = p; payload = Commit }

has-commit : (q : Payload → Bool) (u : ℕ) (rs : List LogRecord) (t p : ℕ) → has q u (rs ++ commit_record t p ∷ []) ≡ (has q u rs || (((t == u) && q Commit) || false))
has-commit q u rs t p = list_any-append (λ r. (r.txn == u) && q r.payload) rs (commit_record t p ∷ [])

-- after a Commit nobody is in doubt who was not
not_in_doubt : (rs : List LogRecord) (t p u : ℕ) → is_in_doubt u rs ≡ false → is_in_doubt u (rs ++ commit_record t p ∷ []) ≡ false
not_in_doubt rs t p u h =
    let after = rs ++ commit_record t p ∷ [] in
    ap (λ b. b && not (has is_commit u after) && not (has is_rollback u after)) (has-commit is_prepare u rs t p)
    ∙ ap (λ b. (has is_prepare u rs || (((t == u) && false) || false)) && not b && not (has is_rollback u after)) (has-commit is_commit u rs t p)
    ∙ ap (λ b. (has is_prepare u rs || (((t == u) && false) || false)) && not (has is_commit u rs || (((t == u) && true) || false)) && not b) (has-commit is_rollback u rs t p)
    ∙ doubt_less (has is_prepare u rs) (has is_commit u rs) (has is_rollback u rs) (t == u) h

filter_none : (p q : ℕ → Bool) → ((x : ℕ) → p x ≡ false → q x ≡ false) → (xs : List ℕ) → filter p xs ≡ [] → filter q xs ≡ []
filter_none p q f [] h = refl
filter_none p q f (x ∷ xs) h =
    elim (p x) as (λ b. p x ≡ b → cond b (x ∷ filter p xs) (filter p xs) ≡ [] → cond (q x) (x ∷ filter q xs) (filter q xs) ≡ []) [
      | true ↦ λ e h. cc
      | false ↦ λ e h. ap (λ b. cond b (x ∷ filter q xs) (filter q xs)) (f x e) ∙ filter_none p q f xs h
    ] refl h

none_in_doubt : (rs : List LogRecord) (t p : ℕ) → in_doubt_in rs ≡ [] → in_doubt_in (rs ++ commit_record t p ∷ []) ≡ []
none_in_doubt rs t p h =
    let after = rs ++ commit_record t p ∷ [] in
    ap (filter (λ u. is_in_doubt u after)) (filter_map-append prepare_of rs (commit_record t p ∷ []) ∙ append-nil (filter_map prepare_of rs))
    ∙ filter_none (λ u. is_in_doubt u rs) (λ u. is_in_doubt u after) (not_in_doubt rs t p) (filter_map prepare_of rs) h

pub map_push : (f : ℕ → WriteSet) (xs : List ℕ) (x : ℕ) → map f (xs ++ x ∷ []) ≡ map f xs ++ f x ∷ []
map_push f [] x = refl
map_push f (y ∷ ys) x = ap (λ zs. f y ∷ zs) (map_push f ys x)

pub records_after_commit : (rs : List LogRecord) (t p : ℕ) → in_doubt_in rs ≡ [] → records_told (rs ++ commit_record t p ∷ []) ≡ overlay (records_told rs) (logged_writes rs t)
records_after_commit rs t p h =
    let after = rs ++ commit_record t p ∷ [] in
    let same : logged_writes after ≡ logged_writes rs = λ i u. logged_writes-push rs (commit_record t p) refl u i in
    ap (λ us. overlays (overlays empty (map (logged_writes after) (committed_in after))) (map (logged_writes after) us)) (none_in_doubt rs t p h)
    ∙ ap (λ us. overlays empty (map (logged_writes after) us)) (filter_map-append commit_of rs (commit_record t p ∷ []))
    ∙ ap (λ f. overlays empty (map f (committed_in rs ++ t ∷ []))) same
    ∙ ap (overlays empty) (map_push (logged_writes rs) (committed_in rs) t)
    ∙ overlays-append empty (map (logged_writes rs) (committed_in rs)) (logged_writes rs t ∷ [])
    ∙ ap (λ us. overlay (overlays (overlays empty (map (logged_writes rs) (committed_in rs))) (map (logged_writes rs) us)) (logged_writes rs t)) (sym h)
