-- A request for a granule of which nobody has anything.
use Rattle.std.proofs.Common.{◌≡◌, ◌++◌, ◌<◌, ⊎_elim, ℕ, List, [], ◌∷◌, Bool, true, false, None, Some, refl, ap, subst, ◌∙◌, length}
use Rattle.std.specs.Prelude.{filter, find, is_some, nat_lt, not, ◌==◌, ◌&&◌}
use Rattle.std.specs.List.{list_any}
use Rattle.std.specs.Option.{option_and_then}
use Rattle.std.proofs.lemmas.Bool.{lt-ltb}
use Rattle.std.proofs.lemmas.List.Elements.{filter-append}
use Rattle.shore_types.specs.declared.locking.Granule.{Granule}
use Rattle.shore_types.specs.declared.locking.Mode.{Mode}
use Rattle.shore_types.specs.Locking.{same_granule}
use Rattle.shore_model.specs.declared.requests.Request.{Request}
use Rattle.shore_model.specs.declared.requests.Group.TheVariants.{Conversions, NewWaiters}
use Rattle.shore_model.specs.Requests.{are_alike, is_in_group, requests_at}
use Rattle.shore_locks.specs.declared.answers.Requested.TheVariants.{Granted}
use Rattle.shore_locks.specs.declared.answers.Tried.TheVariants.{Granted as TryGranted}
use Rattle.shore_locks.specs.Grants.{after_grant, after_request, after_try, answer_to, answer_to_try, asking, blocked_by, first_hold, granted, granted_in_turn, is_enough, is_full, is_stopped_by, obstacle, passed, put, wanted_mode}
use Rattle.shore_nodes.specs.Orderly.{IsOrderlyWithin}
use Rattle.shore_nodes.specs.Tables.{Table, is_for, is_waiting, mode_held, request_for}
use Rattle.shore_nodes.proofs.Crowds.{find_none}
use Rattle.shore_nodes.proofs.Keys.{same_granule-Decides}
use Rattle.shore_nodes.proofs.Members.{In, either, filter-In, filter-yes}
use Rattle.shore_nodes.proofs.NodeSteps.{none_of_any}
use Rattle.shore_nodes.proofs.Others.{put_last}
use Rattle.shore_locks.proofs.Tables.{cond_false, kept_granted}

abbrev waiters_among : List Request → List Request
waiters_among queue = filter (is_in_group Conversions) queue ++ filter (is_in_group NewWaiters) queue

module _ (table : Table) (t : ℕ) (g : Granule) (mode : Mode) (alone : requests_at g table.requests ≡ []) where
  apart : (q : Request) → In q table.requests → same_granule q.granule g ≡ false
  apart q h =
      ⊎_elim
      (λ here. absurd (subst (In q) alone (filter-In (λ r. same_granule r.granule g) table.requests q h here)))
      (λ other. other)
      (either (same_granule q.granule g))

  not_both : (b c : Bool) → c ≡ false → (b && c) ≡ false
  not_both true c e = e
  not_both false c e = refl

  no_request : request_for t g table.requests ≡ None
  no_request = find_none (is_for t g) table.requests (λ q h. not_both (q.txn == t) (same_granule q.granule g) (apart q h))

  nothing_held : mode_held t g table.requests ≡ None
  nothing_held = ap (option_and_then (λ (r : Request). r.held)) no_request

  little : is_enough mode (mode_held t g table.requests) ≡ false
  little = ap (is_enough mode) nothing_held

  pub alone_free : obstacle (asking t g mode table.requests) table.requests ≡ None
  alone_free = ap (find (is_stopped_by (asking t g mode table.requests))) alone

  nobody_alike : list_any (λ q. are_alike q (first_hold t g mode)) table.requests ≡ false
  nobody_alike = none_of_any (λ q. are_alike q (first_hold t g mode)) table.requests (λ q h. not_both (q.txn == t) (same_granule q.granule g) (apart q h))

  held_then : granted (asking t g mode table.requests) ≡ first_hold t g mode
  held_then = ap (λ held. record { txn = t; granule = g; held = Some (wanted_mode held mode); wanted = None }) nothing_held

  first_there : requests_at g (table.requests ++ first_hold t g mode ∷ []) ≡ first_hold t g mode ∷ []
  first_there =
      filter-append (λ r. same_granule r.granule g) table.requests (first_hold t g mode ∷ [])
      ∙ ap (λ xs. xs ++ requests_at g (first_hold t g mode ∷ [])) alone
      ∙ filter-yes (λ r. same_granule r.granule g) (first_hold t g mode) [] ((same_granule-Decides g g).1 refl)

  pub alone_after : after_grant t g mode table.requests ≡ table.requests ++ first_hold t g mode ∷ []
  alone_after =
      ap (λ r. passed g (put r table.requests)) held_then
      ∙ ap (passed g) (put_last (first_hold t g mode) table.requests nobody_alike)
      ∙ ap (λ ws. granted_in_turn ws (table.requests ++ first_hold t g mode ∷ [])) (ap waiters_among first_there)

  module _ (few : length table.requests < table.limit) where
    pub alone_room : is_full table t g ≡ false
    alone_room = ap (λ known. not (is_some known) && not (nat_lt (length table.requests) table.limit)) no_request ∙ ap not (lt-ltb (length table.requests) table.limit few)

    pub alone_answer : answer_to table t g mode ≡ Granted
    alone_answer = cond_false _ _ _ little ∙ cond_false _ _ _ alone_room ∙ cond_false _ _ _ (ap is_some alone_free)

    pub alone_try : answer_to_try table t g mode ≡ TryGranted
    alone_try = cond_false _ _ _ little ∙ cond_false _ _ _ alone_room ∙ ap blocked_by alone_free

    pub alone_request_leaves : after_request table t g mode ≡ table.requests ++ first_hold t g mode ∷ []
    alone_request_leaves = cond_false _ _ _ little ∙ cond_false _ _ _ alone_room ∙ cond_false _ _ _ (ap is_some alone_free) ∙ alone_after

    pub alone_try_leaves : after_try table t g mode ≡ table.requests ++ first_hold t g mode ∷ []
    alone_try_leaves = cond_false _ _ _ little ∙ cond_false _ _ _ alone_room ∙ cond_false _ _ _ (ap is_some alone_free) ∙ alone_after

    pub alone_kept : IsOrderlyWithin table.limit table.requests → is_waiting t table.requests ≡ false → IsOrderlyWithin table.limit (table.requests ++ first_hold t g mode ∷ [])
    alone_kept kept quiet = subst (IsOrderlyWithin table.limit) alone_after (kept_granted table.limit t g mode table.requests kept quiet alone_room alone_free)
