-- What stands in place while nobody is under way but those in doubt.
use Rattle.std.proofs.Common.{◌≡◌, ℕ, List, sym, ap, subst, ◌∙◌, map}
use Rattle.shore_model.specs.declared.histories.Entry.{Entry}
use Rattle.shore_model.specs.declared.histories.Opening.{Opening}
use Rattle.shore_model.specs.Histories.{decisions, in_doubt, shown}
use Rattle.shore_model.specs.Records.{overlays}
use Rattle.laws_lives.proofs.InPlace.{is_overlaid}
use Rattle.laws_lives.proofs.Members.{txn_of_one}
use Rattle.laws_lives.proofs.SessionsAgree.{pair_txn}
use Rattle.laws_lives.specs.Sessions.{Sessions, in_doubt_of, txns_of}
use Rattle.laws_lives.specs.Soundness.{IsSoundAfter, SessionsAgree, history_from, serial_after, written_by}
use Rattle.laws_lives.specs.Views.{IsAmong}
use Rattle.laws_orders.proofs.Apart.{same_laid}
use Rattle.laws_orders.proofs.Doubts.{doubt_locked, locked_apart}
use Rattle.laws_orders.proofs.OneByOne.{written}
use Rattle.laws_orders.proofs.Ordered.{map_same}
use Rattle.laws_orders.proofs.Steps.{pairs_txns}

module _ {o : Opening} {es : List Entry} {s : Sessions} (k : IsSoundAfter o es s) (agree : SessionsAgree o es s)
    (all : (t : ℕ) → IsAmong t (txns_of s.active) → (global : List ℕ) × IsAmong (t, global) (in_doubt o.in_doubt (decisions es))) where
  is_doubt : (t : ℕ) → IsAmong t (txns_of s.active) → IsAmong t (in_doubt_of s)
  is_doubt t active = let pair = all t active in pair_txn (t, pair.0) s.prepared (subst (IsAmong (t, pair.0)) agree.in_doubt pair.1)

  stands : (t : ℕ) → IsAmong t (txns_of s.active) → k.standing t ≡ written_by o es t
  stands t active =
      let one = txn_of_one t s.active active in
      subst (λ u. k.standing u ≡ written_by o es u) one.2
      ((k.stands_for one.0 one.1).written (agree.unrolled one.0 one.1 (subst (λ u. IsAmong u (in_doubt_of s)) (sym one.2) (is_doubt t active))))

  doubts_written : overlays (serial_after o es) (map (written_by o es) (in_doubt_of s)) ≡ shown (history_from o es) (decisions es)
  doubts_written =
      ap (λ ts. overlays (serial_after o es) (map (written_by o es) ts)) (sym (ap (map (λ (p : ℕ × List ℕ). p.0)) agree.in_doubt ∙ pairs_txns s.prepared))
      ∙ ap (overlays (serial_after o es)) (written (history_from o es) (in_doubt o.in_doubt (decisions es)))

  pub in_place_is_shown : s.records ≡ shown (history_from o es) (decisions es)
  in_place_is_shown =
      is_overlaid k.stand
      ∙ ap (overlays (serial_after o es)) (map_same k.standing (written_by o es) (txns_of s.active) stands)
      ∙ same_laid (written_by o es) (serial_after o es) (txns_of s.active) (in_doubt_of s)
      (locked_apart k agree (txns_of s.active) (λ t active. doubt_locked k agree t (is_doubt t active))) is_doubt agree.under_way
      ∙ doubts_written
