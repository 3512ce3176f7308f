-- A transaction begins, and the history stays sound.
use Rattle.std.proofs.Common.{◌≡◌, ◌≢◌, ⊎_elim, ◌++◌, ◌<◌, ◌+◌, ℕ, List, [], ◌∷◌, None, Ok, refl, sym, ap, subst, ◌∙◌, arith}
use Rattle.std.specs.FinMap.{get, get-empty}
use Rattle.std.specs.List.{AllByRecursion}
use Rattle.std.proofs.lemmas.List.Elements.{All-contains, All-weaker}
use Rattle.shore_types.specs.Ids.{rid_cmp}
use Rattle.shore_types.specs.declared.ids.Rid.{Rid}
use Rattle.shore_model.specs.declared.histories.Opening.{Opening}
use Rattle.shore_model.specs.declared.calls.Answer.TheVariants.{Began}
use Rattle.shore_model.specs.declared.calls.Call.TheVariants as call
use Rattle.shore_model.specs.declared.calls.Exchange.{Exchange}
use Rattle.shore_model.specs.declared.histories.Entry.{Entry}
use Rattle.shore_model.specs.declared.histories.Entry.TheVariants.{Exchanged}
use Rattle.shore_model.specs.declared.holds.Hold.{Hold}
use Rattle.shore_model.specs.Alone.{start, after, writes_of}
use Rattle.shore_model.specs.Histories.{calls_of, decisions, serial, writes_given}
use Rattle.shore_model.specs.Locks.{MayRead}
use Rattle.shore_model.specs.Records.{Records, WriteSet}
use Rattle.laws_lives.proofs.Entries.{calls-other, calls-own, decisions-exchanged}
use Rattle.laws_lives.proofs.Lists.{recursion-weaker}
use Rattle.laws_lives.proofs.Members.{txn_among}
use Rattle.laws_lives.proofs.Soundness.{sound_stays}
use Rattle.laws_lives.proofs.Standing.{stands_on, stands_whole, standing_its, standing_others, with_standing}
use Rattle.laws_lives.proofs.Turns.{AreKept, KeepsTurn, kept_by_other, own_progress, own_writes, serial-kept}
use Rattle.laws_lives.proofs.UndoLists.{begin_undoes}
use Rattle.laws_lives.proofs.Views.{one_begins}
use Rattle.laws_lives.specs.SessionSteps.{exchange}
use Rattle.laws_lives.specs.Sessions.{SessionTxn, Sessions, txn_begun, txns_of}
use Rattle.laws_lives.specs.Soundness.{IsSoundAfter, IsWriteSetOf, decided_txn, progress_from, progress_in, serial_after, written_by}
use Rattle.laws_lives.specs.UndoLists.{CanUndo, nothing_to_undo}
use Rattle.laws_lives.specs.Views.{IsAmong, Stand, StayRight}

module _ {o : Opening} {es : List Entry} {s : Sessions} (k : IsSoundAfter o es s) where
  abbrev now : Records
  now = serial_after o es

  module _ (session : ℕ) where
    abbrev pub began : Exchange
    began = exchange call.Begin (Ok (Began s.next_txn))

    abbrev pub with_begin : List Entry
    with_begin = es ++ Exchanged session s.next_txn began ∷ []

    -- no lock and no call has its number yet
    holds_none : (id : Rid) → MayRead s.held s.next_txn id → ⊥
    holds_none id r =
        let less : r.1.txn < s.next_txn = All-contains (λ (h : Hold). h.txn < s.next_txn) s.held r.1 k.unheld (r.0, r.2, r.3) in
        let same : r.1.txn ≡ s.next_txn = r.4.0 in
        omega arith

    pub not_yet : IsAmong s.next_txn (txns_of s.active) → ⊥
    not_yet b = let less : s.next_txn < s.next_txn = k.below s.next_txn b in omega arith

    pub begin_called : calls_of s.next_txn with_begin ≡ began ∷ []
    begin_called = calls-own es s.next_txn session began ∙ ap (λ xs. xs ++ began ∷ []) (k.uncalled s.next_txn (omega arith))

    pub begin_others : (u : ℕ) → u ≢ s.next_txn → calls_of u with_begin ≡ calls_of u es
    begin_others u other = calls-other es u s.next_txn session began (λ same. other (sym same))

    pub begin_kept : AreKept o es with_begin (decisions es)
    begin_kept =
        recursion-weaker (λ d. decided_txn d < s.next_txn) (λ d. KeepsTurn o es with_begin (decided_txn d))
        (λ d less. kept_by_other o es (decided_txn d) s.next_txn session began (λ same. omega arith))
        (decisions es) k.decided

    pub begin_now : serial_after o with_begin ≡ now
    begin_now = ap (serial (written_by o with_begin) o.records) (decisions-exchanged es s.next_txn session began) ∙ serial-kept o es with_begin (decisions es) begin_kept

    begin_undecided : AllByRecursion (λ d. decided_txn d ≢ s.next_txn) (decisions es)
    begin_undecided = recursion-weaker (λ d. decided_txn d < s.next_txn) (λ d. decided_txn d ≢ s.next_txn) (λ d less same. omega arith) (decisions es) k.decided

    differs : (u : ℕ) → IsAmong u (txns_of s.active) → u ≢ s.next_txn
    differs u b same = not_yet (subst (λ v. IsAmong v (txns_of s.active)) same b)

    -- what stands for each then
    abbrev standing' : ℕ → WriteSet
    standing' = with_standing k.standing s.next_txn (written_by o with_begin s.next_txn)

    begun_for : (a : SessionTxn) → IsAmong a (txn_begun s session).active → IsWriteSetOf o with_begin a (standing' a.txn)
    begun_for a m = ⊎_elim
        (λ same. subst (λ (a : SessionTxn). IsWriteSetOf o with_begin a (standing' a.txn)) same
        (stands_whole o with_begin record { session = session; txn = s.next_txn; undo = nothing_to_undo } (standing' s.next_txn) refl
        (standing_its k.standing s.next_txn (written_by o with_begin s.next_txn))))
        (λ later.
        let other : a.txn ≢ s.next_txn = differs a.txn (txn_among a s.active later) in
        subst (IsWriteSetOf o with_begin a) (sym (standing_others k.standing s.next_txn (written_by o with_begin s.next_txn) a.txn other))
        (stands_on o es with_begin a (k.standing a.txn) (ap (λ xs. (progress_from (writes_given o.in_doubt a.txn) xs).writes) (begin_others a.txn other)) (k.stands_for a later)))
        m

    pub begin_stays_sound : IsSoundAfter o with_begin (txn_begun s session)
    begin_stays_sound = record {
      sound = sound_stays o es with_begin (decisions-exchanged es s.next_txn session began) begin_kept k.sound;
      standing = standing';
      stands_for = begun_for;
      stand =
          subst (λ now. Stand s.held now s.records (s.next_txn ∷ txns_of s.active) standing') (sym begin_now)
          (one_begins k.stand s.next_txn standing' (λ u other. standing_others k.standing s.next_txn (written_by o with_begin s.next_txn) u other) holds_none
          (λ id. ap (λ W. get W id) (standing_its k.standing s.next_txn (written_by o with_begin s.next_txn)) ∙ ap (λ W. get W id) (own_writes (writes_given o.in_doubt s.next_txn) (calls_of s.next_txn with_begin) (k.found_below s.next_txn (omega arith))) ∙ ap (λ xs. get (writes_of xs) id) begin_called ∙ get-empty rid_cmp id) not_yet);
      replies = λ u b. subst (λ now. StayRight o.slots s.held u now (calls_of u with_begin)) (sym begin_now)
          (⊎_elim
          (λ same. subst (λ v. StayRight o.slots s.held v now (calls_of v with_begin)) same (subst (StayRight o.slots s.held s.next_txn now) (sym begin_called) (λ S agree. ((s.next_txn, refl), tt))))
          (λ later. subst (StayRight o.slots s.held u now) (sym (begin_others u (differs u later))) (k.replies u later))
          b);
      undoes = λ a m. subst (λ now. CanUndo s.held now s.records a.txn a.undo (progress_in o with_begin a.txn)) (sym begin_now)
          (⊎_elim
          (λ same. subst (λ (a : SessionTxn). CanUndo s.held now s.records a.txn a.undo (progress_in o with_begin a.txn)) same
          (subst (CanUndo s.held now s.records s.next_txn nothing_to_undo) (sym (own_progress (writes_given o.in_doubt s.next_txn) (calls_of s.next_txn with_begin) (k.found_below s.next_txn (omega arith)) ∙ ap (after start) begin_called)) (begin_undoes s.held now s.records s.next_txn holds_none)))
          (λ later. subst (λ xs. CanUndo s.held now s.records a.txn a.undo (progress_from (writes_given o.in_doubt a.txn) xs)) (sym (begin_others a.txn (differs a.txn (txn_among a s.active later)))) (k.undoes a later))
          m);
      undecided = λ u b is_free. subst (AllByRecursion (λ d. decided_txn d ≢ u)) (sym (decisions-exchanged es s.next_txn session began))
          (⊎_elim (λ same. subst (λ v. AllByRecursion (λ d. decided_txn d ≢ v) (decisions es)) same begin_undecided) (λ later. k.undecided u later is_free) b);
      below = λ u b. ⊎_elim (λ same. omega arith) (λ later. let less : u < s.next_txn = k.below u later in omega arith) b;
      decided = subst (AllByRecursion (λ d. decided_txn d < s.next_txn + 1)) (sym (decisions-exchanged es s.next_txn session began))
          (recursion-weaker (λ d. decided_txn d < s.next_txn) (λ d. decided_txn d < s.next_txn + 1) (λ d less. omega arith) (decisions es) k.decided);
      uncalled = λ u le. begin_others u (λ same. omega arith) ∙ k.uncalled u (omega arith);
      unheld = All-weaker (λ (h : Hold). h.txn < s.next_txn) (λ (h : Hold). h.txn < s.next_txn + 1) (λ h less. omega arith) s.held k.unheld;
      own = λ u b is_free. ⊎_elim (λ same. subst (λ v. writes_given o.in_doubt v ≡ None) same (k.found_below s.next_txn (omega arith))) (λ later. k.own u later is_free) b;
      found_below = λ u le. k.found_below u (omega arith);
    }
