-- Who is in doubt in a log is among those in doubt.
use Rattle.std.proofs.Common.{◌≡◌, inl, inr, ⊎_elim, ℕ, List, [], ◌∷◌, Bool, true, false, cond, refl, sym, ap, ◌∙◌}
use Rattle.std.specs.Prelude.{◌==◌, ◌&&◌, ◌||◌, filter}
use Rattle.std.specs.List.{cons_option, filter_map}
use Rattle.std.proofs.lemmas.Bool.{cases_Bool, eqb-true, true≢false}
use Rattle.shore_model.specs.declared.log_records.LogRecord.{LogRecord}
use Rattle.shore_model.specs.declared.log_records.Payload.{Payload}
use Rattle.shore_model.specs.declared.log_records.Payload.TheVariants.{Prepare}
use Rattle.shore_model.specs.Logs.{has, is_commit, is_in_doubt, is_prepare, is_rollback}
use Rattle.laws_lives.specs.Doubts.{LoggedDoubt, doubt_by, doubt_of, doubts_in}
use Rattle.laws_lives.specs.Views.{IsAmong}
use Rattle.laws_lives.proofs.WritersTold.{in_doubt_parts}

filter_among : {A : Type 0} (f : A → Bool) (x : A) (xs : List A) → IsAmong x xs → f x ≡ true → IsAmong x (filter f xs)
filter_among f x [] a h = absurd a
filter_among f x (y ∷ xs) a h =
    elim (f y) as (λ b. f y ≡ b → IsAmong x (cond b (y ∷ filter f xs) (filter f xs))) [
      | true ↦ λ e. ⊎_elim (λ same. inl same) (λ later. inr (filter_among f x xs later h)) a
      | false ↦ λ e. ⊎_elim (λ same. absurd (true≢false (sym h ∙ ap f (sym same) ∙ e))) (λ later. filter_among f x xs later h) a
    ] refl

module _ (t : ℕ) where
  abbrev There : List LoggedDoubt → Type 0
  There ds = (d : LoggedDoubt) × IsAmong d ds × (d.txn ≡ t)

  only_later : (a b : Bool) → ((a && false) || b) ≡ true → b ≡ true
  only_later true b h = h
  only_later false b h = h

  more_there : (d : LoggedDoubt) (ds : List LoggedDoubt) → There ds → There (d ∷ ds)
  more_there d ds h = (h.0, inr h.1, h.2)

  here_or_later : (u : ℕ) (p : Payload) (ds : List LoggedDoubt) (later : Bool) → (((u == t) && is_prepare p) || later) ≡ true → (later ≡ true → There ds)
      → There (cons_option (doubt_by u p) ds)
  here_or_later u (Prepare global granules) ds later h rest = ⊎_elim
      (λ own. (record { txn = u; global = global; granules = granules }, inl refl, eqb-true u t own))
      (λ other. more_there (record { txn = u; global = global; granules = granules }) ds (rest (sym (ap (λ b. (b && true) || later) other) ∙ h)))
      (cases_Bool (u == t))
  here_or_later u _ ds later h rest = rest (only_later (u == t) later h)

  prepare_there : (log : List LogRecord) → has is_prepare t log ≡ true → There (filter_map doubt_of log)
  prepare_there [] h = cc
  prepare_there (r ∷ log) h = here_or_later r.txn r.payload (filter_map doubt_of log) (has is_prepare t log) h (prepare_there log)

  pub doubt_there : (log : List LogRecord) → is_in_doubt t log ≡ true → (d : LoggedDoubt) × IsAmong d (doubts_in log) × (d.txn ≡ t)
  doubt_there log doubt =
      let d = prepare_there log (in_doubt_parts (has is_prepare t log) (has is_commit t log) (has is_rollback t log) doubt).0 in
      (d.0, filter_among (λ (d : LoggedDoubt). is_in_doubt d.txn log) d.0 (filter_map doubt_of log) d.1 (ap (λ u. is_in_doubt u log) d.2 ∙ doubt), d.2)
