use Rattle.std.proofs.Common.{◌≡◌, ◌∷◌, ℕ, Result, true, false, refl, sym, subst, ◌∙◌}
use Rattle.std.specs.Prelude.{IsSomeAnd, option_map}
use Rattle.shore_types.specs.Images.{image_len}
use Rattle.shore_types.specs.Layout.{HasPage}
use Rattle.shore_types.specs.declared.faults.Fault.{Fault}
use Rattle.shore_types.specs.declared.layout.Geometry.{Geometry}
use Rattle.shore_dwrite.proofs.Moves.{if_err}
use Rattle.shore_page.specs.Room.{raised}
use Rattle.shore_pool.specs.Changes.{reclaimed}
use Rattle.shore_heap.specs.Contents.{CanKeep, claimed_by}
use Rattle.shore_heap.specs.Heaps.{faults_of, frame_of, geometry_of}
use Rattle.shore_txn.specs.ActiveTxns.{all_changes}
use Rattle.shore_txn.specs.Transactions.{kept_in, txns_in}
use Rattle.shore_txn.specs.UndoEntries.{claims_on}
use Rattle.shore_restart.specs.declared.errors.RestartError.{RestartError}
use Rattle.shore_restart.specs.declared.errors.RestartError.TheVariants.{BadRecord, Page}
use Rattle.shore_restart.specs.GivenBack.{CannotKeepOn, Keeps, StandsSoFar}
use Rattle.shore_restart.specs.Held.{KeepsHeld}
use Rattle.shore_restart.proofs.ClaimsKept.{noted_on, worked_on}
use Rattle.shore_restart.proofs.ClaimsMore.{claimed_more, has_place}
use Rattle.shore_restart.proofs.AnyClaims.{claim_keeps, lacks_room}
use Rattle.shore_restart.proofs.PageErrors.{err_with, passed_cause}
use Rattle.shore_restart.proofs.Putting.{same_geometry}
use Rattle.shore_restart.proofs.claims.keep_claim.Goals as goal

-- ---- the page was not fetched

pub returns-in_err-fetch_claimed-clause-keeps : goal.returns-in_err-fetch_claimed-clause-keeps
returns-in_err-fetch_claimed-clause-keeps g c older newer slots front disk s order stands low =
    let kept = c.in_err-fetch_claimed.ensures.keeps (λ p. claims_on p newer) slots front disk s stands low in
    subst
    (λ (result : Result (Unit {0}) RestartError). Keeps result front c.args.heap.now c.fetch_claimed.new.heap s (λ left later. StandsSoFar (kept_in c.args.txns.now) (λ p. claims_on p (c.args.entry.now ∷ newer)) slots front left c.fetch_claimed.new.heap later))
    (sym (err_with c.from_residual.result c.in_err-fetch_claimed.field-0.0 c.from_residual.ensures.1)) (record { later = kept.later; work = kept.work; same = kept.same; volume = kept.volume; stands = tt; notes = tt })

pub returns-in_err-fetch_claimed-clause-bad : goal.returns-in_err-fetch_claimed-clause-bad
returns-in_err-fetch_claimed-clause-bad g c older newer slots front disk s order stands low =
    if_err c.from_residual.result c.from_residual.ensures.1 (λ error same n is can. c.in_err-fetch_claimed.ensures.others.1 n (sym same ∙ is))

pub returns-in_err-fetch_claimed-clause-device : goal.returns-in_err-fetch_claimed-clause-device
returns-in_err-fetch_claimed-clause-device g c so_far slots front disk s stands long low =
    if_err c.from_residual.result c.from_residual.ensures.1 (λ error same f is. c.in_err-fetch_claimed.ensures.device so_far slots front disk s stands long low f (sym same ∙ is))

pub returns-in_err-fetch_claimed-clause-bad_number : goal.returns-in_err-fetch_claimed-clause-bad_number
returns-in_err-fetch_claimed-clause-bad_number g c =
    if_err c.from_residual.result c.from_residual.ensures.1 (λ error same n is. absurd (c.in_err-fetch_claimed.ensures.others.1 n (sym same ∙ is)))

pub returns-in_err-fetch_claimed-clause-any_pages : goal.returns-in_err-fetch_claimed-clause-any_pages
returns-in_err-fetch_claimed-clause-any_pages g c older newer front first disk done order held =
    let kept = c.in_err-fetch_claimed.ensures.any_pages (λ p. claims_on p newer) front first disk done held in
    subst
    (λ (result : Result (Unit {0}) RestartError). KeepsHeld result (λ p. p ≡ c.args.entry.now.id.page) (kept_in c.args.txns.now) (λ p. claims_on p (c.args.entry.now ∷ newer)) front first disk c.args.heap.now c.fetch_claimed.new.heap done c.args.last)
    (sym (err_with c.from_residual.result c.in_err-fetch_claimed.field-0.0 c.from_residual.ensures.1)) (record { named = kept.named; stays = tt })

pub returns-in_err-fetch_claimed-clause-any_bad : goal.returns-in_err-fetch_claimed-clause-any_bad
returns-in_err-fetch_claimed-clause-any_bad g c older newer front first disk done order held =
    if_err c.from_residual.result c.from_residual.ensures.1 (λ error same n is. absurd (c.in_err-fetch_claimed.ensures.others.1 n (sym same ∙ is)))

pub returns-in_err-fetch_claimed-clause-others : goal.returns-in_err-fetch_claimed-clause-others
returns-in_err-fetch_claimed-clause-others g c =
    let others = c.in_err-fetch_claimed.ensures.others in
    if_err c.from_residual.result c.from_residual.ensures.1 (λ error same. (λ is. others.0 (sym same ∙ is), λ f is. others.2 f (sym same ∙ is), λ is. others.3 (sym same ∙ is)))

pub returns-in_err-fetch_claimed-clause-cause : goal.returns-in_err-fetch_claimed-clause-cause
returns-in_err-fetch_claimed-clause-cause g c =
    passed_cause (Unit {0}) (Unit {0}) c.from_residual.result c.in_err-fetch_claimed.field-0.0 (faults_of c.args.heap.now) (faults_of c.args.heap.now) (faults_of c.fetch_claimed.new.heap) refl c.from_residual.ensures.1
    c.in_err-fetch_claimed.ensures.cause

-- ---- it has no room

pub returns-then-not-keep_claim-clause-keeps : goal.returns-then-not-keep_claim-clause-keeps
returns-then-not-keep_claim-clause-keeps g c older newer slots front disk s order stands low =
    let kept = c.in_ok-fetch_claimed.ensures.keeps (λ p. claims_on p newer) slots front disk s stands low in
    record {
      later = kept.later;
      work = worked_on front c.args.heap.now c.fetch_claimed.new.heap c.keep_claim.new.self s kept.later (c.keep_claim.ensures.untouched front kept.stands.0 kept.stands.1.holds).1 kept.work;
      same = kept.same;
      volume = kept.volume;
      stands = tt;
      notes = tt;
    }

pub returns-then-not-keep_claim-clause-bad : goal.returns-then-not-keep_claim-clause-bad
returns-then-not-keep_claim-clause-bad g c older newer slots front disk s order stands low n is can =
    let entry = c.args.entry.now in
    let mid = c.fetch_claimed.new.heap in
    let kept = c.in_ok-fetch_claimed.ensures.keeps (λ p. claims_on p newer) slots front disk s stands low in
    let st = kept.stands.1 in
    let there : HasPage (geometry_of mid) entry.id.page = subst (λ (k : Geometry). HasPage k entry.id.page) (sym c.fetch_claimed.ensures.volume.geometry) c.requires.there in
    let can_there = subst (λ (k : Geometry). CanKeep k.version (claimed_by (claims_on entry.id.page newer) (slots entry.id.page)) entry.id.slot (image_len entry.before)) (sym c.fetch_claimed.ensures.volume.geometry) can in
    let place = has_place kept.stands.0 mid (all_changes (txns_in c.args.txns.now)) older newer entry order slots there st.room st.pages c.in_ok-fetch_claimed.ensures.held can_there in
    let yes : c.keep_claim.result ≡ true = c.keep_claim.ensures.kept.1 (subst (λ (bytes : ℕ). IsSomeAnd (frame_of mid entry.id.page) (λ f. CanKeep (geometry_of mid).version f.page.slots entry.id.slot bytes)) (sym c.image_len.ensures) place) in
    let clash : true ≡ false = sym yes ∙ c.if-not-keep_claim.true in
    cc

pub returns-then-not-keep_claim-clause-any_pages : goal.returns-then-not-keep_claim-clause-any_pages
returns-then-not-keep_claim-clause-any_pages g c older newer front first disk done order held = record { named = λ f is. absurd (of_no_page c.args.entry.now.lsn f is); stays = tt }
  where
    of_no_page : (n : ℕ) (f : Fault) → BadRecord n ≡ Page f → ⊥
    of_no_page n f is = cc

pub returns-then-not-keep_claim-clause-any_bad : goal.returns-then-not-keep_claim-clause-any_bad
returns-then-not-keep_claim-clause-any_bad g c older newer front first disk done order held n is =
    let entry = c.args.entry.now in
    let mid = c.fetch_claimed.new.heap in
    let kept = (c.in_ok-fetch_claimed.ensures.any_pages (λ p. claims_on p newer) front first disk done held).stays in
    let there : HasPage (geometry_of mid) entry.id.page = subst (λ (k : Geometry). HasPage k entry.id.page) (sym c.fetch_claimed.ensures.volume.geometry) c.requires.there in
    let lacks = lacks_room front first kept.left done c.args.last mid (all_changes (txns_in c.args.txns.now)) older newer entry order there kept.held c.args.txns.now refl c.in_ok-fetch_claimed.ensures.held (λ can.
    let yes : c.keep_claim.result ≡ true = c.keep_claim.ensures.kept.1 (subst (λ (bytes : ℕ). IsSomeAnd (frame_of mid entry.id.page) (λ f. CanKeep (geometry_of mid).version f.page.slots entry.id.slot bytes)) (sym c.image_len.ensures) can) in
    let clash : true ≡ false = sym yes ∙ c.if-not-keep_claim.true in
    cc) in
    subst (λ (k : ℕ). CannotKeepOn (geometry_of c.args.heap.now) c.args.txns.now first done k) (one_number entry.lsn n is)
    (subst (λ (k : Geometry). CannotKeepOn k c.args.txns.now first done entry.lsn) c.fetch_claimed.ensures.volume.geometry lacks)
  where
    one_number : (m n : ℕ) → BadRecord m ≡ BadRecord n → m ≡ n
    one_number m n is = cc

-- ---- it keeps the claim

pub returns-clause-keeps : goal.returns-clause-keeps
returns-clause-keeps g c older newer slots front disk s order stands low =
    let entry = c.args.entry.now in
    let old = c.args.heap.now in
    let mid = c.fetch_claimed.new.heap in
    let new = c.keep_claim.new.self in
    let kept = c.in_ok-fetch_claimed.ensures.keeps (λ p. claims_on p newer) slots front disk s stands low in
    let left = kept.stands.0 in
    let st = kept.stands.1 in
    let there : HasPage (geometry_of mid) entry.id.page = subst (λ (k : Geometry). HasPage k entry.id.page) (sym c.fetch_claimed.ensures.volume.geometry) c.requires.there in
    let yes = c.if-not-keep_claim.false in
    let untouched = c.keep_claim.ensures.untouched front left st.holds in
    let can = subst (λ (bytes : ℕ). IsSomeAnd (frame_of mid entry.id.page) (λ f. CanKeep (geometry_of mid).version f.page.slots entry.id.slot bytes)) c.image_len.ensures (c.keep_claim.ensures.kept.0 yes) in
    let here = subst (λ (bytes : ℕ). frame_of new entry.id.page ≡ option_map (reclaimed (raised bytes) entry.id.slot) (frame_of mid entry.id.page)) c.image_len.ensures (c.keep_claim.ensures.here yes) in
    record {
      later = kept.later;
      work = worked_on front old mid new s kept.later untouched.1 kept.work;
      same = kept.same;
      volume = kept.volume;
      stands = (
        left,
        claimed_more front left mid new kept.later (all_changes (txns_in c.args.txns.now)) older newer entry order slots there st can c.keep_claim.ensures.device c.keep_claim.ensures.bounds untouched.0 (c.keep_claim.ensures.same left) here
            c.keep_claim.ensures.others,
      );
      notes = noted_on old mid new s kept.later c.keep_claim.ensures.dirt (same_geometry mid new c.keep_claim.ensures.device) kept.notes;
    }

pub returns-clause-any_pages : goal.returns-clause-any_pages
returns-clause-any_pages g c older newer front first disk done order held =
    let entry = c.args.entry.now in
    let mid = c.fetch_claimed.new.heap in
    let new = c.keep_claim.new.self in
    let kept = (c.in_ok-fetch_claimed.ensures.any_pages (λ p. claims_on p newer) front first disk done held).stays in
    let there : HasPage (geometry_of mid) entry.id.page = subst (λ (k : Geometry). HasPage k entry.id.page) (sym c.fetch_claimed.ensures.volume.geometry) c.requires.there in
    let yes = c.if-not-keep_claim.false in
    let can = subst (λ (bytes : ℕ). IsSomeAnd (frame_of mid entry.id.page) (λ f. CanKeep (geometry_of mid).version f.page.slots entry.id.slot bytes)) c.image_len.ensures (c.keep_claim.ensures.kept.0 yes) in
    let here = subst (λ (bytes : ℕ). frame_of new entry.id.page ≡ option_map (reclaimed (raised bytes) entry.id.slot) (frame_of mid entry.id.page)) c.image_len.ensures (c.keep_claim.ensures.here yes) in
    record {
      named = tt;
      stays = record {
        left = kept.left;
        held = claim_keeps front first kept.left done c.args.last mid (all_changes (txns_in c.args.txns.now)) older newer entry order there kept.held new c.keep_claim.ensures.device can here c.keep_claim.ensures.others
            (c.keep_claim.ensures.untouched front kept.left kept.held.holds).0 (c.keep_claim.ensures.same kept.left);
        bad = kept.bad;
      };
    }
