-- A record of a checkpoint changes nothing that the log tells: neither of records nor of transactions, nor what ties it to the sessions.
use Rattle.std.proofs.Common.{◌≡◌, ◌≢◌, ◌<◌, ℕ, List, [], ◌∷◌, ◌++◌, Bool, true, false, None, refl, sym, ap, subst, ◌∙◌, length, map, take_all, arith}
use Rattle.std.specs.Prelude.{◌&&◌, not, reverse, IsSome}
use Rattle.std.specs.FinMap.{empty, get}
use Rattle.std.specs.List.{AllByRecursion}
use Rattle.std.proofs.lemmas.Bool.{eqb-true}
use Rattle.std.proofs.lemmas.List.{length-append, reverse-reverse}
use Rattle.shore_types.specs.declared.ids.Rid.{Rid}
use Rattle.shore_model.specs.declared.histories.Entry.{Entry}
use Rattle.shore_model.specs.declared.histories.Opening.{Opening}
use Rattle.shore_model.specs.declared.log_records.LogRecord.{LogRecord}
use Rattle.shore_model.specs.declared.log_records.Payload.{Payload}
use Rattle.shore_model.specs.declared.log_records.Payload.TheVariants.{CheckpointBegin, CheckpointEnd, Anchor}
use Rattle.shore_model.specs.Logs.{Lawful, MayFollow, committed_in, first_number, has, id_in, image_in, image_of_record, in_doubt_in, is_commit, is_decision, is_end, is_in_doubt, is_of_checkpoint, is_over, is_prepare, is_rollback, logged_writes, records_of, records_told}
use Rattle.shore_model.specs.Records.{overlays}
use Rattle.laws_lives.specs.Doubts.{TracksDoubts, doubts_in, pair_logged}
use Rattle.laws_lives.specs.LogPrefixes.{LogDecides, TellsItsDecisions}
use Rattle.laws_lives.specs.LogTells.{HasLogged, IsLogAfter, records_committed}
use Rattle.laws_lives.specs.Sessions.{SessionTxn, Sessions}
use Rattle.laws_lives.specs.Soundness.{written_by}
use Rattle.laws_lives.specs.Undo.{IsLoser}
use Rattle.laws_lives.specs.Views.{IsAmong}
use Rattle.laws_lives.specs.WholeLogs.{IsWholeLog}
use Rattle.laws_lives.specs.Writers.{changes_id, is_this_id}
use Rattle.laws_lives.proofs.Booleans.{or_none}
use Rattle.laws_lives.proofs.CommittedRecords.{uncommitted_apart}
use Rattle.laws_lives.proofs.DoubtRecords.{doubts_same}
use Rattle.laws_lives.proofs.EndedTxns.{over_same}
use Rattle.laws_lives.proofs.Lists.{among_map, recursion-push}
use Rattle.laws_lives.proofs.LogPrefixes.{decisions_same, prefixes_more, tells_on}
use Rattle.laws_lives.proofs.LogTells.{committed_same, logged_imageless}
use Rattle.laws_lives.proofs.Numbers.{newest_other}
use Rattle.laws_lives.proofs.OneMore.{has-not_this}
use Rattle.laws_lives.proofs.RecordsTold.{in_doubt_same_after}
use Rattle.laws_lives.proofs.Redo.{image_of_record-push, or_image}
use Rattle.laws_lives.proofs.UnansweredChanges.{unanswered_other}
use Rattle.laws_lives.proofs.UndoRecords.{lawful_next}
use Rattle.laws_lives.proofs.Writers.{never_true}
use Rattle.laws_lives.proofs.WritersTold.{in_doubt_parts}
use Rattle.laws_lives.proofs.LawfulPrepares.{doubts_stand, prepared_is_one}

-- what the payload is not
pub record IsPlain (p : Payload) : Type 0 where
  pub decides : is_decision p ≡ false
  pub commit : is_commit p ≡ false
  pub ends : is_end p ≡ false
  pub prepare : is_prepare p ≡ false
  pub rollback : is_rollback p ≡ false
  pub image : image_in p ≡ None
  pub id : id_in p ≡ None

pub plain_of : (p : Payload) → is_of_checkpoint p ≡ true → IsPlain p
plain_of CheckpointBegin h = record { decides = refl; commit = refl; ends = refl; prepare = refl; rollback = refl; image = refl; id = refl }
plain_of (CheckpointEnd begin next txns dirty) h = record { decides = refl; commit = refl; ends = refl; prepare = refl; rollback = refl; image = refl; id = refl }
plain_of (Anchor checkpoint tail) h = record { decides = refl; commit = refl; ends = refl; prepare = refl; rollback = refl; image = refl; id = refl }
plain_of _ h = cc

module _ (log : List LogRecord) (r : LogRecord) (its : is_of_checkpoint r.payload ≡ true) where
  abbrev after : List LogRecord
  after = log ++ r ∷ []

  plain : IsPlain r.payload
  plain = plain_of r.payload its

  -- ---- what is told

  writes_are : logged_writes after ≡ logged_writes log
  writes_are = λ i t. logged_imageless log r plain.image t i

  pub committed_are : records_committed after ≡ records_committed log
  committed_are = ap (λ ts. overlays empty (map (logged_writes after) ts)) (committed_same log r plain.commit) ∙ ap (λ w. overlays empty (map w (committed_in log))) writes_are

  pub doubts_are : doubts_in after ≡ doubts_in log
  doubts_are = doubts_same log r plain.decides

  pub told_are : records_told after ≡ records_told log
  told_are =
      ap (λ R. overlays R (map (logged_writes after) (in_doubt_in after))) committed_are
      ∙ ap (λ ts. overlays (records_committed log) (map (logged_writes after) ts)) (in_doubt_same_after log r plain.decides)
      ∙ ap (λ w. overlays (records_committed log) (map w (in_doubt_in log))) writes_are

  pub image_is : (id : Rid) → image_of_record after id ≡ image_of_record log id
  image_is id = image_of_record-push log r id ∙ ap (λ o. or_image o id (image_of_record log id)) plain.image

  -- ---- transactions

  pub over_is : (t : ℕ) → is_over t after ≡ is_over t log
  over_is t = over_same log r plain.commit plain.ends t

  pub in_doubt_is : (t : ℕ) → is_in_doubt t after ≡ is_in_doubt t log
  in_doubt_is t = three (has-not_this log r is_prepare t plain.prepare) (has-not_this log r is_commit t plain.commit) (has-not_this log r is_rollback t plain.rollback)
    where
      three : {a b c d e f : Bool} → a ≡ b → c ≡ d → e ≡ f → (a && not c && not e) ≡ (b && not d && not f)
      three p q s = cc

  module _ (none : r.txn ≡ 0) (t : ℕ) (one : 0 < t) where
    other : r.txn ≢ t
    other = λ same. omega arith

    pub records_are : records_of t after ≡ records_of t log
    records_are = sym (reverse-reverse (records_of t after)) ∙ ap reverse (newest_other log r t other) ∙ reverse-reverse (records_of t log)

    pub loser_stays : IsLoser after t → IsLoser log t
    loser_stays l = record {
      is_one = one;
      known = subst (λ es. 0 < first_number es) (newest_other log r t other) l.known;
      not_over = sym (over_is t) ∙ l.not_over;
      not_in_doubt = sym (in_doubt_is t) ∙ l.not_in_doubt;
    }

    pub loser_was : IsLoser log t → IsLoser after t
    loser_was l = record {
      is_one = one;
      known = subst (λ es. 0 < first_number es) (sym (newest_other log r t other)) l.known;
      not_over = over_is t ∙ l.not_over;
      not_in_doubt = in_doubt_is t ∙ l.not_in_doubt;
    }

  -- ---- beside the sessions

  module _ (lawful : Lawful log) (follows : MayFollow log r) where
    pub no_one : r.txn ≡ 0
    no_one = eqb-true r.txn 0 (sym follows.of ∙ its)

    pub stays_whole : (s : Sessions) → IsWholeLog log s → IsWholeLog after s
    stays_whole s k = record {
      lawful = lawful_next log r lawful follows;
      writers = λ t id changed runs.
          let was = has-not_this log r (changes_id id) t (ap (is_this_id id) plain.id) in
          k.writers t id (sym was ∙ changed) (sym (over_is t) ∙ runs);
      unended = λ t among. over_is t ∙ k.unended t among;
      above = k.above;
      undo_lists = λ a among.
          let one = k.above a.txn (among_map (λ (x : SessionTxn). x.txn) a s.active among) in
          ap (map (λ c. (c.id, c.before))) (unanswered_other a.txn log r (other no_one a.txn one)) ∙ k.undo_lists a among;
      some = k.some;
    }

    logged_is : (t : ℕ) → logged_writes after t ≡ logged_writes log t
    logged_is t = logged_imageless log r plain.image t

    pub stays_after : (o : Opening) (es : List Entry) (s : Sessions) → 0 < s.next_txn → IsLogAfter o es s log → IsLogAfter o es s after
    stays_after o es s some k = record {
      tells_serial = record {
        tells = committed_are ∙ k.tells_serial.tells;
        uncommitted = λ t among. subst (AllByRecursion (λ u. u ≢ t)) (sym (committed_same log r plain.commit)) (k.tells_serial.uncommitted t among);
        each = λ t among. subst (HasLogged s.held s.records t _) (sym (logged_is t)) (k.tells_serial.each t among);
      };
      undo_logged = λ a among. subst (λ L. AllByRecursion (λ e. IsSome (get L e.0)) a.undo.images) (sym (logged_is a.txn)) (k.undo_logged a among);
      below = recursion-push (λ x. x.txn < s.next_txn) log r k.below (let z = no_one in omega arith);
    }

    not_committed : has is_commit r.txn log ≡ false
    not_committed = (or_none (has is_commit r.txn log) (has is_end r.txn log) follows.not_over).0

    not_doubtful : is_in_doubt r.txn log ≡ false
    not_doubtful = never_true (is_in_doubt r.txn log) (λ doubt.
        let prepared = (in_doubt_parts (has is_prepare r.txn log) (has is_commit r.txn log) (has is_rollback r.txn log) doubt).0 in
        let one = prepared_is_one log lawful r.txn prepared in
        let z = no_one in
        omega arith)

    pub stays_decided : (base : ℕ) (o : Opening) (es : List Entry) → LogDecides base o es log → LogDecides base o es after
    stays_decided base o es k =
        let long = k.long in
        let more = length-append log (r ∷ []) in
        let now = subst (TellsItsDecisions base o (written_by o es)) (take_all (length log) log (omega arith)) (k.prefixes (length log) long (omega arith)) in
        record {
          long = omega arith;
          all = k.all ∙ sym (decisions_same base log r long plain.decides);
          prefixes = prefixes_more base o (written_by o es) log r
              (tells_on base o (written_by o es) log r long plain.decides (uncommitted_apart r.txn log not_committed) not_doubtful now) k.prefixes;
        }

    pub stays_tracked : (s : Sessions) → TracksDoubts log s → TracksDoubts after s
    stays_tracked s k = record {
      in_doubt = ap (map pair_logged) doubts_are ∙ k.in_doubt;
      hold = λ d g among. k.hold d g (subst (IsAmong d) doubts_are among);
      free = λ t among frees.
          let was = k.free t among frees in
          (has-not_this log r is_prepare t plain.prepare ∙ was.0, has-not_this log r is_rollback t plain.rollback ∙ was.1);
      rolled = λ t among rolls. let was = k.rolled t among rolls in (has-not_this log r is_rollback t plain.rollback ∙ was.0, was.1);
      stand = doubts_stand log after (sym doubts_are) k.stand;
    }
