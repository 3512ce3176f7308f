-- A transaction under way gets a reply, and the history stays sound.
use Rattle.std.proofs.Common.{◌≡◌, ◌≢◌, ◌⊎◌, ⊎_elim, ◌++◌, ◌≤◌, ◌<◌, ℕ, List, [], ◌∷◌, true, false, None, Result, refl, sym, ap, subst, ◌∙◌, length, arith}
use Rattle.std.specs.Prelude.{◌==◌}
use Rattle.std.specs.FinMap.{get}
use Rattle.std.specs.List.{AllByRecursion}
use Rattle.std.proofs.lemmas.Bool.{eqb-true, eqb-false}
use Rattle.shore_types.specs.declared.faults.Fault.{Fault}
use Rattle.shore_types.specs.declared.ids.Rid.{Rid}
use Rattle.shore_model.specs.declared.histories.Opening.{Opening}
use Rattle.shore_model.specs.declared.calls.Call.{Call}
use Rattle.shore_model.specs.declared.calls.Answer.{Answer}
use Rattle.shore_model.specs.declared.calls.Exchange.{Exchange}
use Rattle.shore_model.specs.declared.histories.Entry.{Entry}
use Rattle.shore_model.specs.declared.histories.Entry.TheVariants.{Exchanged}
use Rattle.shore_model.specs.Alone.{start, after, writes_of}
use Rattle.shore_model.specs.Histories.{Sound, calls_of, decisions, serial, writes_given}
use Rattle.shore_model.specs.Locks.{MayRead, MayWrite}
use Rattle.shore_model.specs.Records.{Records, WriteSet}
use Rattle.laws_lives.proofs.Entries.{calls-other, calls-own, decisions-exchanged}
use Rattle.laws_lives.proofs.Lists.{recursion-weaker}
use Rattle.laws_lives.proofs.Members.{HasNewUndo, among_with, txn_among, txns_with}
use Rattle.laws_lives.proofs.Replies.{LeavesAll, leaves_all, none_rolls}
use Rattle.laws_lives.proofs.Soundness.{sound_stays}
use Rattle.laws_lives.proofs.Turns.{AreKept, KeepsTurn, kept_by_other, own_progress, own_writes, serial-kept}
use Rattle.laws_lives.proofs.Standing.{stands_on, stands_whole, standing_its, standing_others, with_standing}
use Rattle.laws_lives.proofs.UndoLists.{undo_kept_by_others}
use Rattle.laws_lives.proofs.Views.{one_writes, writer_excludes}
use Rattle.laws_lives.specs.RepliesInPlace.{MayReplyInPlace}
use Rattle.laws_lives.specs.SessionSteps.{exchange}
use Rattle.laws_lives.specs.Sessions.{IsFree, SessionTxn, Sessions, reply_given, txns_of}
use Rattle.laws_lives.specs.Soundness.{IsSoundAfter, IsWriteSetOf, decided_txn, history_from, progress_from, progress_in, serial_after, written_by}
use Rattle.laws_lives.specs.UndoLists.{CanUndo, MayGiveReply, UndoList, in_place_after, undo_after}
use Rattle.laws_lives.specs.Views.{IsAmong, Sees, Stand, StayRight}

module _ {o : Opening} {es : List Entry} {s : Sessions} (k : IsSoundAfter o es s) where
  abbrev now : Records
  now = serial_after o es

  -- a reply, or the answer to an abort: the other transactions come no further, and none is decided
  module _ (a : SessionTxn) (mem : IsAmong a s.active) (is_free : IsFree s a.txn) (x : Exchange) where
    abbrev pub t : ℕ
    t = a.txn

    abbrev pub with_reply : List Entry
    with_reply = es ++ Exchanged a.session t x ∷ []

    pub txn_in : IsAmong t (txns_of s.active)
    txn_in = txn_among a s.active mem

    pub others_called : (u : ℕ) → u ≢ t → calls_of u with_reply ≡ calls_of u es
    others_called u other = calls-other es u t a.session x (λ same. other (sym same))

    pub own_called : calls_of t with_reply ≡ calls_of t es ++ x ∷ []
    own_called = calls-own es t a.session x

    pub decided_kept : AreKept o es with_reply (decisions es)
    decided_kept =
        recursion-weaker (λ d. decided_txn d ≢ t) (λ d. KeepsTurn o es with_reply (decided_txn d)) (λ d other. kept_by_other o es (decided_txn d) t a.session x (λ same. other (sym same)))
        (decisions es) (k.undecided t txn_in is_free)

    pub reply_now : serial_after o with_reply ≡ now
    reply_now = ap (serial (written_by o with_reply) o.records) (decisions-exchanged es t a.session x) ∙ serial-kept o es with_reply (decisions es) decided_kept

    pub reply_sound : Sound (history_from o with_reply)
    reply_sound = sound_stays o es with_reply (decisions-exchanged es t a.session x) decided_kept k.sound

    pub t_below : t < s.next_txn
    t_below = k.below t txn_in

    pub reply_uncalled : (u : ℕ) → s.next_txn ≤ u → calls_of u with_reply ≡ []
    reply_uncalled u le = let less = t_below in others_called u (λ same. omega arith) ∙ k.uncalled u le

    pub reply_undecided : (u : ℕ) → IsAmong u (txns_of s.active) → IsFree s u → AllByRecursion (λ d. decided_txn d ≢ u) (decisions with_reply)
    reply_undecided u b free = subst (AllByRecursion (λ d. decided_txn d ≢ u)) (sym (decisions-exchanged es t a.session x)) (k.undecided u b free)

    pub reply_decided : AllByRecursion (λ d. decided_txn d < s.next_txn) (decisions with_reply)
    reply_decided = subst (AllByRecursion (λ d. decided_txn d < s.next_txn)) (sym (decisions-exchanged es t a.session x)) k.decided

    -- what it may write nobody else may read
    pub others_see : (R' : Records) → ((id : Rid) → (get R' id ≡ get s.records id) ⊎ MayWrite s.held t id) → (u : ℕ) → u ≢ t → (id : Rid)
        → MayRead s.held u id → get R' id ≡ get s.records id
    others_see R' changes u other id r = ⊎_elim (λ kept. kept) (λ w. absurd (writer_excludes k.stand t u id (λ same. other (sym same)) w r)) (changes id)

  -- a reply, judged on the records in place
  module _ (a : SessionTxn) (mem : IsAmong a s.active) (is_free : IsFree s a.txn) (c : Call) (reply : Result Answer Fault) (served : MayReplyInPlace o.slots s.held a.txn s.records (length a.undo.marks) c reply) (may : MayGiveReply a.undo c reply) where
    abbrev pub x : Exchange
    x = exchange c reply

    abbrev pub more : List Entry
    more = with_reply a mem is_free x

    abbrev pub own : List Exchange
    own = calls_of a.txn es

    abbrev pub R' : Records
    R' = in_place_after s.records a.undo c reply

    abbrev pub undo' : UndoList
    undo' = undo_after s.records a.undo c reply

    -- it was not found in doubt
    pub not_found : writes_given o.in_doubt a.txn ≡ None
    not_found = k.own a.txn (txn_among a s.active mem) is_free

    pub own_can : CanUndo s.held now s.records a.txn a.undo (after start own)
    own_can = subst (CanUndo s.held now s.records a.txn a.undo) (own_progress (writes_given o.in_doubt a.txn) own not_found) (k.undoes a mem)

    pub own_written : a.undo.rolling ≡ None → k.standing a.txn ≡ writes_of own
    own_written none = (k.stands_for a mem).written none ∙ own_writes (writes_given o.in_doubt a.txn) own not_found

    -- what it leaves of its own transaction
    pub reply_leaves_all : LeavesAll o.slots s.held now s.records a.txn own a.undo c reply
    reply_leaves_all =
        leaves_all o.slots s.held now s.records a.txn own a.undo own_can (k.replies a.txn (txn_in a mem is_free x))
        (k.standing a.txn) (k.stand.each a.txn (txn_in a mem is_free x)) own_written c reply may served

    -- what stands for each then
    abbrev pub standing' : ℕ → WriteSet
    standing' = with_standing k.standing a.txn (written_by o more a.txn)

    moved_stands : (b : SessionTxn) → HasNewUndo a.txn undo' s.active b → IsWriteSetOf o more b (standing' b.txn)
    moved_stands b one =
        ⊎_elim
        (λ it.
        stands_whole o more b (standing' b.txn) (ap (λ (undo : UndoList). undo.rolling) it.1 ∙ none_rolls o.slots s.held now s.records a.txn own a.undo c reply may)
        (subst (λ u. standing' u ≡ written_by o more u) (sym it.0) (standing_its k.standing a.txn (written_by o more a.txn))))
        (λ other.
        subst (IsWriteSetOf o more b) (sym (standing_others k.standing a.txn (written_by o more a.txn) b.txn other.0))
        (stands_on o es more b (k.standing b.txn) (ap (λ xs. (progress_from (writes_given o.in_doubt b.txn) xs).writes) (others_called a mem is_free x b.txn other.0))
        (k.stands_for b (subst (λ y. IsAmong y s.active) (sym other.1) one.there))))
        one.one

    moved_undoes : (b : SessionTxn) → HasNewUndo a.txn undo' s.active b → CanUndo s.held now R' b.txn b.undo (progress_in o more b.txn)
    moved_undoes b one =
        ⊎_elim
        (λ it. subst (λ u. CanUndo s.held now R' u b.undo (progress_in o more u)) (sym it.0)
        (subst (λ tr. CanUndo s.held now R' a.txn tr (progress_in o more a.txn)) (sym it.1)
        (subst (CanUndo s.held now R' a.txn undo') (sym (own_progress (writes_given o.in_doubt a.txn) (calls_of a.txn more) not_found ∙ ap (after start) (own_called a mem is_free x))) reply_leaves_all.undoes)))
        (λ other. subst (λ xs. CanUndo s.held now R' b.txn b.undo (progress_from (writes_given o.in_doubt b.txn) xs)) (sym (others_called a mem is_free x b.txn other.0))
        (undo_kept_by_others (k.undoes b (subst (λ y. IsAmong y s.active) (sym other.1) one.there)) now R'
        (λ id r. (others_see a mem is_free x R' reply_leaves_all.changes b.txn other.0 id r, refl))))
        one.one

    pub reply_stays_sound : IsSoundAfter o more (reply_given s a c reply)
    reply_stays_sound = record {
      sound = reply_sound a mem is_free x;
      standing = standing';
      stands_for = λ b in_with. moved_stands b (among_with a.txn undo' b s.active in_with);
      stand =
          subst (λ ts. Stand s.held (serial_after o more) R' ts standing') (sym (txns_with a.txn undo' s.active))
          (subst (λ now. Stand s.held now R' (txns_of s.active) standing') (sym (reply_now a mem is_free x))
          (one_writes k.stand a.txn (txn_in a mem is_free x) R' standing' (λ u other. standing_others k.standing a.txn (written_by o more a.txn) u other)
          reply_leaves_all.changes
          (subst (Sees s.held now R' a.txn) (sym (standing_its k.standing a.txn (written_by o more a.txn)))
          (subst (Sees s.held now R' a.txn) (sym (own_writes (writes_given o.in_doubt a.txn) (calls_of a.txn more) not_found ∙ ap writes_of (own_called a mem is_free x))) reply_leaves_all.sees))));
      replies = λ u b. subst (λ now. StayRight o.slots s.held u now (calls_of u more)) (sym (reply_now a mem is_free x))
          (elim (u == a.txn) as (λ b. (u == a.txn) ≡ b → StayRight o.slots s.held u now (calls_of u more)) [
            | true ↦ λ e. subst (λ v. StayRight o.slots s.held v now (calls_of v more)) (sym (eqb-true u a.txn e))
                (subst (StayRight o.slots s.held a.txn now) (sym (own_called a mem is_free x)) reply_leaves_all.right)
            | false ↦ λ e. subst (StayRight o.slots s.held u now) (sym (others_called a mem is_free x u (eqb-false u a.txn e)))
                (k.replies u (subst (IsAmong u) (txns_with a.txn undo' s.active) b))
          ] refl);
      undoes = λ b in_with. subst (λ now. CanUndo s.held now R' b.txn b.undo (progress_in o more b.txn)) (sym (reply_now a mem is_free x)) (moved_undoes b (among_with a.txn undo' b s.active in_with));
      undecided = λ u b free. reply_undecided a mem is_free x u (subst (IsAmong u) (txns_with a.txn undo' s.active) b) free;
      below = λ u b. k.below u (subst (IsAmong u) (txns_with a.txn undo' s.active) b);
      decided = reply_decided a mem is_free x;
      uncalled = reply_uncalled a mem is_free x;
      unheld = k.unheld;
      own = λ u b free. k.own u (subst (IsAmong u) (txns_with a.txn undo' s.active) b) free;
      found_below = k.found_below;
    }
