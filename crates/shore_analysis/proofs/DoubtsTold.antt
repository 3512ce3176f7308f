-- What the log says of those in doubt stands under the numbers of their Prepares.
use Rattle.std.proofs.Common.{◌≡◌, ⊎_elim, ◌+◌, ◌-◌, ◌<◌, ℕ, List, [], ◌∷◌, ◌++◌, Bool, true, false, cond, Option, Some, None, map, refl, sym, ap, subst, ◌∙◌, length, arith}
use Rattle.std.specs.Prelude.{filter, option_and_then, slice_get}
use Rattle.std.specs.List.{AllByRecursion, cons_option, filter_map}
use Rattle.std.proofs.lemmas.Bool.{cases_Bool, ne_eqb}
use Rattle.std.proofs.lemmas.List.{append-nil, map-append}
use Rattle.std.proofs.lemmas.List.Elements.{filter_map-append}
use Rattle.shore_types.specs.declared.layout.Geometry.{Geometry}
use Rattle.shore_model.specs.declared.log_records.LogRecord.{LogRecord}
use Rattle.shore_model.specs.declared.log_records.Payload.{Payload}
use Rattle.shore_model.specs.declared.log_records.Payload.TheVariants.{Change, Compensation, Commit, End, Prepare, RollbackDecided, CheckpointBegin, CheckpointEnd, Anchor}
use Rattle.shore_model.specs.Logs.{in_doubt_in, is_in_doubt, is_prepare, prepare_number}
use Rattle.laws_lives.specs.Doubts.{LoggedDoubt, doubt_by, doubt_of, doubts_in}
use Rattle.laws_lives.proofs.Redo.{slice_get_last}
use Rattle.shore_analysis.specs.Doubts.{doubt_at}
use Rattle.shore_analysis.specs.Meant.{AreMeant}
use Rattle.shore_analysis.proofs.InOrder.{PrepareOnce, PreparesOnce, meant_once, number_kept, number_once, once_rise, prepare_is, prepares, prepares-push}
use Rattle.shore_analysis.proofs.MeantLogs.{by_each, longer_get}

-- ---- what a Prepare says

one_told : (t : ℕ) (p : Payload) → is_prepare p ≡ true → (d : LoggedDoubt) × (doubt_by t p ≡ Some d)
one_told t (Prepare global granules) e = (record { txn = t; global = global; granules = granules }, refl)
one_told t (Change id before image) e = cc
one_told t (Compensation id image undo_next) e = cc
one_told t Commit e = cc
one_told t End e = cc
one_told t RollbackDecided e = cc
one_told t CheckpointBegin e = cc
one_told t (CheckpointEnd begin next txns dirty) e = cc
one_told t (Anchor checkpoint tail) e = cc

none_told : (t : ℕ) (p : Payload) → is_prepare p ≡ false → doubt_by t p ≡ None
none_told t (Prepare global granules) e = cc
none_told t _ e = refl

told_txn : (t : ℕ) (p : Payload) (d : LoggedDoubt) → doubt_by t p ≡ Some d → d.txn ≡ t
told_txn t (Prepare global granules) d e = ap (txn_or t) (sym e)
  where
    txn_or : ℕ → Option LoggedDoubt → ℕ
    txn_or t None = t
    txn_or t (Some d) = d.txn
told_txn t (Change id before image) d e = cc
told_txn t (Compensation id image undo_next) d e = cc
told_txn t Commit d e = cc
told_txn t End d e = cc
told_txn t RollbackDecided d e = cc
told_txn t CheckpointBegin d e = cc
told_txn t (CheckpointEnd begin next txns dirty) d e = cc
told_txn t (Anchor checkpoint tail) d e = cc

-- ---- under its number

pub doubt_there : (log : List LogRecord) (n : ℕ) (r : LogRecord) → 0 < n → slice_get log (n - 1) ≡ Some r → doubt_at log n ≡ doubt_of r
doubt_there log n r some here =
    ap (λ b. cond b None (option_and_then doubt_of (slice_get log (n - 1)))) (ne_eqb n 0 (λ e. omega (arith, e, some))) ∙ ap (option_and_then doubt_of) here

abbrev pub told : List LogRecord → ℕ → Option LoggedDoubt
told log t = doubt_at log (prepare_number t log)

abbrev pub some_doubt : LoggedDoubt → Option LoggedDoubt
some_doubt d = Some d

-- the Prepares of the log say, in their order, what is told under their numbers
abbrev pub AreTold : List LogRecord → Type 0
AreTold log = map some_doubt (filter_map doubt_of log) ≡ map (told log) (prepares log)

pub are_told : (log : List LogRecord) → PrepareOnce log → AreTold log
are_told log once = (by_each PreparesOnce (λ log. AreTold log × AllByRecursion (λ t. 0 < prepare_number t log) (prepares log)) (refl, tt) one_more log once).0
  where
    kept : (log : List LogRecord) (r : LogRecord) (ts : List ℕ) → AllByRecursion (λ t. 0 < prepare_number t log) ts → map (told (log ++ r ∷ [])) ts ≡ map (told log) ts
    kept log r [] h = refl
    kept log r (t ∷ ts) h =
        let one = prepare_is t log h.0 in
        let number = number_kept t log r h.0 in
        let here : told (log ++ r ∷ []) t ≡ told log t =
        ap (doubt_at (log ++ r ∷ [])) number ∙ doubt_there (log ++ r ∷ []) (prepare_number t log) one.found h.0 (longer_get log (r ∷ []) (prepare_number t log - 1) one.found one.here)
        ∙ sym (doubt_there log (prepare_number t log) one.found h.0 one.here) in
        (λ i. here i ∷ kept log r ts h.1 i)

    still : (log : List LogRecord) (r : LogRecord) (ts : List ℕ) → AllByRecursion (λ t. 0 < prepare_number t log) ts → AllByRecursion (λ t. 0 < prepare_number t (log ++ r ∷ [])) ts
    still log r [] h = tt
    still log r (t ∷ ts) h = (subst (λ n. 0 < n) (sym (number_kept t log r h.0)) h.0, still log r ts h.1)

    push : (P : ℕ → Type 0) (ts : List ℕ) (t : ℕ) → AllByRecursion P ts → P t → AllByRecursion P (ts ++ t ∷ [])
    push P [] t h last = (last, tt)
    push P (u ∷ ts) t h last = (h.0, push P ts t h.1 last)

    one_more : (log : List LogRecord) (r : LogRecord) → PreparesOnce log r → AreTold log × AllByRecursion (λ t. 0 < prepare_number t log) (prepares log)
        → AreTold (log ++ r ∷ []) × AllByRecursion (λ t. 0 < prepare_number t (log ++ r ∷ [])) (prepares (log ++ r ∷ []))
    one_more log r once known = ⊎_elim
        (λ is.
        let one = one_told r.txn r.payload is in
        let number : prepare_number r.txn (log ++ r ∷ []) ≡ 1 + length log = number_once log r (once is) is in
        let at : prepare_number r.txn (log ++ r ∷ []) - 1 ≡ length log = omega (arith, number) in
        let last : told (log ++ r ∷ []) r.txn ≡ Some one.0 =
        doubt_there (log ++ r ∷ []) (prepare_number r.txn (log ++ r ∷ [])) r (omega (arith, number)) (ap (slice_get (log ++ r ∷ [])) at ∙ slice_get_last log r) ∙ one.1 in
        let ts : prepares (log ++ r ∷ []) ≡ prepares log ++ r.txn ∷ [] = prepares-push log r ∙ ap (λ b. prepares log ++ cond b (r.txn ∷ []) []) is in
        let ds : filter_map doubt_of (log ++ r ∷ []) ≡ filter_map doubt_of log ++ one.0 ∷ [] = filter_map-append doubt_of log (r ∷ []) ∙ ap (λ o. filter_map doubt_of log ++ cons_option o []) one.1 in
        let same : map some_doubt (filter_map doubt_of log) ++ Some one.0 ∷ [] ≡ map (told (log ++ r ∷ [])) (prepares log) ++ told (log ++ r ∷ []) r.txn ∷ [] =
        (λ i. (known.0 ∙ sym (kept log r (prepares log) known.1)) i ++ sym last i ∷ []) in (
          ap (map some_doubt) ds ∙ map-append some_doubt (filter_map doubt_of log) (one.0 ∷ []) ∙ same
              ∙ sym (map-append (told (log ++ r ∷ [])) (prepares log) (r.txn ∷ [])) ∙ ap (map (told (log ++ r ∷ []))) (sym ts),
          subst (AllByRecursion (λ t. 0 < prepare_number t (log ++ r ∷ []))) (sym ts)
              (push (λ t. 0 < prepare_number t (log ++ r ∷ [])) (prepares log) r.txn (still log r (prepares log) known.1) (omega (arith, number))),
        ))
        (λ no.
        let ts : prepares (log ++ r ∷ []) ≡ prepares log = prepares-push log r ∙ ap (λ b. prepares log ++ cond b (r.txn ∷ []) []) no ∙ append-nil (prepares log) in
        let ds : filter_map doubt_of (log ++ r ∷ []) ≡ filter_map doubt_of log =
        filter_map-append doubt_of log (r ∷ []) ∙ ap (λ o. filter_map doubt_of log ++ cons_option o []) (none_told r.txn r.payload no) ∙ append-nil (filter_map doubt_of log) in (
          ap (map some_doubt) ds ∙ known.0 ∙ sym (kept log r (prepares log) known.1) ∙ ap (map (told (log ++ r ∷ []))) (sym ts),
          subst (AllByRecursion (λ t. 0 < prepare_number t (log ++ r ∷ []))) (sym ts) (still log r (prepares log) known.1),
        ))
        (cases_Bool (is_prepare r.payload))

-- those that pass a test of their transactions
picked_told : (q : ℕ → Bool) (f : ℕ → Option LoggedDoubt) (ds : List LoggedDoubt) (ts : List ℕ) → AllByRecursion (λ t. (d : LoggedDoubt) → f t ≡ Some d → d.txn ≡ t) ts
    → map some_doubt ds ≡ map f ts → map some_doubt (filter (λ d. q d.txn) ds) ≡ map f (filter q ts)
picked_told q f [] [] own same = refl
picked_told q f [] (t ∷ ts) own same = cc
picked_told q f (d ∷ ds) [] own same = cc
picked_told q f (d ∷ ds) (t ∷ ts) own same =
    let head : Some d ≡ f t = ap (head_or None) same in
    let tail : map some_doubt ds ≡ map f ts = ap tail_of same in
    by (q d.txn) (q t) (ap q (own.0 d (sym head))) head (picked_told q f ds ts own.1 tail)
  where
    head_or : Option LoggedDoubt → List (Option LoggedDoubt) → Option LoggedDoubt
    head_or o [] = o
    head_or o (x ∷ xs) = x

    tail_of : List (Option LoggedDoubt) → List (Option LoggedDoubt)
    tail_of [] = []
    tail_of (x ∷ xs) = xs

    by : (b c : Bool) → b ≡ c → Some d ≡ f t → map some_doubt (filter (λ d. q d.txn) ds) ≡ map f (filter q ts)
        → map some_doubt (cond b (d ∷ filter (λ d. q d.txn) ds) (filter (λ d. q d.txn) ds)) ≡ map f (cond c (t ∷ filter q ts) (filter q ts))
    by true true e head rest = (λ i. head i ∷ rest i)
    by false false e head rest = rest
    by true false e head rest = cc
    by false true e head rest = cc

-- what the log says of those in doubt is told under the numbers of their Prepares
pub once_told : (log : List LogRecord) → PrepareOnce log → map (λ t. doubt_at log (prepare_number t log)) (in_doubt_in log) ≡ map (λ d. Some d) (doubts_in log)
once_told log once = sym (picked_told (λ t. is_in_doubt t log) (told log) (filter_map doubt_of log) (prepares log) (own (prepares log) (once_rise log once).some) (are_told log once))
  where
    own : (ts : List ℕ) → AllByRecursion (λ t. 0 < prepare_number t log) ts → AllByRecursion (λ t. (d : LoggedDoubt) → told log t ≡ Some d → d.txn ≡ t) ts
    own [] h = tt
    own (t ∷ ts) h =
        let one = prepare_is t log h.0 in
        (λ d is. told_txn one.found.txn one.found.payload d (sym (doubt_there log (prepare_number t log) one.found h.0 one.here) ∙ is) ∙ one.own, own ts h.1)

pub doubts_told : (g : Geometry) (log : List LogRecord) → AreMeant g log → map (λ t. doubt_at log (prepare_number t log)) (in_doubt_in log) ≡ map (λ d. Some d) (doubts_in log)
doubts_told g log meant = once_told log (meant_once g log meant)
