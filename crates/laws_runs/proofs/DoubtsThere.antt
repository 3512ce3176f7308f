-- Who is in doubt in a log is among those in doubt, with what its Prepare says, and has a record.
use Rattle.std.proofs.Common.{◌≡◌, inl, inr, ⊎_elim, ◌++◌, ◌<◌, ℕ, List, [], ◌∷◌, Bool, true, false, refl, sym, ap, subst, ◌∙◌, arith}
use Rattle.std.specs.Prelude.{◌==◌, ◌&&◌, ◌||◌}
use Rattle.std.specs.List.{cons_option, filter_map}
use Rattle.std.proofs.lemmas.Bool.{cases_Bool, eqb-true}
use Rattle.shore_model.specs.declared.log_records.LogRecord.{LogRecord}
use Rattle.shore_model.specs.declared.log_records.Payload.{Payload}
use Rattle.shore_model.specs.declared.log_records.Payload.TheVariants.{Prepare}
use Rattle.shore_model.specs.Logs.{first_number, has, is_in_doubt, is_prepare, last_of}
use Rattle.shore_analysis.proofs.InOrder.{filter_among}
use Rattle.shore_analysis.proofs.MeantLogs.{in_doubt_prepared}
use Rattle.laws_lives.proofs.Numbers.{last_own, newest_other}
use Rattle.laws_lives.proofs.OneMore.{by_push, has-not_its}
use Rattle.laws_lives.proofs.Writers.{same_or_not}
use Rattle.laws_lives.specs.Doubts.{LoggedDoubt, doubt_by, doubt_of, doubts_in}
use Rattle.laws_lives.specs.Views.{IsAmong}

module _ (t : ℕ) where
  abbrev There : List LoggedDoubt → Type 0
  There ds = (d : LoggedDoubt) × IsAmong d ds × (d.txn ≡ t)

  only_later : (a b : Bool) → ((a && false) || b) ≡ true → b ≡ true
  only_later true b h = h
  only_later false b h = h

  more_there : (d : LoggedDoubt) (ds : List LoggedDoubt) → There ds → There (d ∷ ds)
  more_there d ds h = (h.0, inr h.1, h.2)

  here_or_later : (u : ℕ) (p : Payload) (ds : List LoggedDoubt) (later : Bool) → (((u == t) && is_prepare p) || later) ≡ true → (later ≡ true → There ds)
      → There (cons_option (doubt_by u p) ds)
  here_or_later u (Prepare global granules) ds later h rest = ⊎_elim
      (λ own. (record { txn = u; global = global; granules = granules }, inl refl, eqb-true u t own))
      (λ other. more_there (record { txn = u; global = global; granules = granules }) ds (rest (sym (ap (λ b. (b && true) || later) other) ∙ h)))
      (cases_Bool (u == t))
  here_or_later u _ ds later h rest = rest (only_later (u == t) later h)

  prepare_there : (log : List LogRecord) → has is_prepare t log ≡ true → There (filter_map doubt_of log)
  prepare_there [] h = cc
  prepare_there (r ∷ log) h = here_or_later r.txn r.payload (filter_map doubt_of log) (has is_prepare t log) h (prepare_there log)

  pub doubt_there : (log : List LogRecord) → is_in_doubt t log ≡ true → (d : LoggedDoubt) × IsAmong d (doubts_in log) × (d.txn ≡ t)
  doubt_there log doubt =
      let d = prepare_there log (in_doubt_prepared t log doubt) in
      (d.0, filter_among (λ (d : LoggedDoubt). is_in_doubt d.txn log) d.0 (filter_map doubt_of log) d.1 (ap (λ u. is_in_doubt u log) d.2 ∙ doubt), d.2)

  -- who has a record of some kind has a last one
  has_known : (p : Payload → Bool) (log : List LogRecord) → has p t log ≡ true → 0 < last_of t log
  has_known p = by_push (λ log. has p t log ≡ true → 0 < last_of t log) (λ h. cc)
      (λ log r known h. ⊎_elim
      (λ own. subst (λ u. 0 < last_of u (log ++ r ∷ [])) own (let number = last_own log r in omega arith))
      (λ other. subst (λ es. 0 < first_number es) (sym (newest_other log r t other)) (known (sym (has-not_its log r p t other) ∙ h)))
      (same_or_not r.txn t))

  pub doubt_known : (log : List LogRecord) → is_in_doubt t log ≡ true → 0 < last_of t log
  doubt_known log doubt = has_known is_prepare log (in_doubt_prepared t log doubt)
