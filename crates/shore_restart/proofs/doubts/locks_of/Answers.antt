use Rattle.std.proofs.Common.{◌≡◌, ◌<◌, ◌+◌, ◌++◌, ◌∷◌, ℕ, List, Option, None, Some, true, false, inl, inr, refl, sym, ap, subst, ◌∙◌, length, map, take, take_all, drop, arith}
use Rattle.std.specs.Prelude.{option_map, slice_get}
use Rattle.std.proofs.lemmas.Option.{slice_get_read}
use Rattle.shore_types.specs.declared.locking.Granule.{Granule}
use Rattle.shore_model.specs.Requests.{held_by_all}
use Rattle.shore_dwrite.proofs.Moves.{if_err}
use Rattle.laws_lives.specs.Doubts.{LoggedDoubt}
use Rattle.laws_lives.specs.Sessions.{EachOnce}
use Rattle.laws_lives.specs.Views.{IsAmong}
use Rattle.laws_lives.proofs.Lists.{map-push, mapped_one}
use Rattle.shore_restart.specs.Doubts.{AreLocksOf, HasNoPlace}
use Rattle.shore_restart.proofs.DoubtsHeld.{can_hold, never_again, once_push}
use Rattle.shore_restart.proofs.DoubtsNamed.{kept_said, as_many, doubt_of_entry, doubts_once, one_later, says_alike, split_here, unused, used}
use Rattle.shore_restart.proofs.DoubtsRefused.{refused_here}
use Rattle.shore_analysis.specs.Padded.{padded}
use Rattle.shore_analysis.specs.Doubts.{doubts_left}
use Rattle.shore_restart.proofs.doubts.locks_of.Goals as goal

pub restore_locks-requires : goal.restore_locks-requires
restore_locks-requires c = c.loop-index.invariant.nobody

pub loop-index-preserved : goal.loop-index-preserved
loop-index-preserved c =
    let g = c.args.geometry.now in
    let cut = c.args.cut in
    let kept = c.args.kept.now in
    let log = padded cut kept in
    let es = c.args.doubts.now in
    let ds = doubts_left log in
    let i = c.loop-index.index in
    let e = c.index-doubts-index.result in
    let within : i < length es = omega arith in
    let here : slice_get es i ≡ Some e = slice_get_read es (length es) i e refl within c.index-doubts-index.is in
    let its = doubt_of_entry g cut kept c.requires.meant es c.requires.doubts i e here in
    let d = its.doubt in
    let so = c.loop-index.invariant in
    let says : ◌≡◌ {A = Option (List ℕ × List Granule)} (Some (c.in-Some.global.now, c.in-Some.granules.now)) (Some (d.global, d.granules)) = c.in-Some.ensures ∙ kept_said c.args.cut c.args.kept.now e.prepare ∙ ap (option_map (λ (x : LoggedDoubt). (x.global, x.granules))) its.told_by in
    let alike = says_alike c.in-Some.global.now d.global c.in-Some.granules.now d.granules says in
    let global : d.global ≡ c.in-Some.global.now = sym alike.global_is in
    let granules : d.granules ≡ c.in-Some.granules.now = sym alike.granules_are in
    let order : ds ≡ take i ds ++ d ∷ drop (i + 1) ds = split_here ds i d its.at in
    let apart : IsAmong d.txn (map (λ (x : LoggedDoubt). x.txn) (take i ds)) → ⊥ = λ there.
    let (x, among, same) = mapped_one (λ (x : LoggedDoubt). x.txn) d.txn (take i ds) there in
    never_again (λ (x : LoggedDoubt). x.txn) ds (take i ds) (drop (i + 1) ds) d x (doubts_once g cut kept c.requires.meant) order among same in
    let new_name : IsAmong d.global (map (λ (x : LoggedDoubt). x.global) (take i ds)) → ⊥ =
    subst (λ (n : List ℕ). IsAmong n (map (λ (x : LoggedDoubt). x.global) (take i ds)) → ⊥) (sym global) (unused g cut kept c.requires.meant es c.requires.doubts i c.in-Some.global.now (λ any. let yes = c.is_used.ensures.1 any in let clash : true ≡ false = sym yes ∙ c.if-is_used.false in cc)) in
    record {
      limit = c.restore_locks.ensures.keeps.limit ∙ so.limit;
      nobody = c.restore_locks.ensures.keeps.nobody;
      rooted = c.restore_locks.ensures.keeps.rooted so.rooted;
      held = subst (λ (xs : List LoggedDoubt). AreLocksOf xs (held_by_all c.restore_locks.new.locks.requests)) (sym (one_later ds i d its.at)) (c.in_ok-restore_locks.ensures.taken (take i ds) d so.held apart its.txn granules);
      names = subst (λ (xs : List LoggedDoubt). EachOnce (map (λ (x : LoggedDoubt). x.global) xs)) (sym (one_later ds i d its.at))
          (subst EachOnce (sym (map-push (λ (x : LoggedDoubt). x.global) (take i ds) d)) (once_push (map (λ (x : LoggedDoubt). x.global) (take i ds)) d.global so.names new_name));
    }

pub returns-in_default-clause-refused : goal.returns-in_default-clause-refused
returns-in_default-clause-refused c =
    let es = c.args.doubts.now in
    let i = c.loop-index.index in
    let e = c.index-doubts-index.result in
    let within : i < length es = omega arith in
    let here : slice_get es i ≡ Some e = slice_get_read es (length es) i e refl within c.index-doubts-index.is in
    let its = doubt_of_entry c.args.geometry.now c.args.cut c.args.kept.now c.requires.meant es c.requires.doubts i e here in
    let clash : ◌≡◌ {A = Option (List ℕ × List Granule)} None (Some (its.doubt.global, its.doubt.granules)) =
    c.in_default.ensures ∙ kept_said c.args.cut c.args.kept.now e.prepare ∙ ap (option_map (λ (x : LoggedDoubt). (x.global, x.granules))) its.told_by in
    cc

pub returns-then-is_used-clause-refused : goal.returns-then-is_used-clause-refused
returns-then-is_used-clause-refused c =
    let g = c.args.geometry.now in
    let cut = c.args.cut in
    let kept = c.args.kept.now in
    let log = padded cut kept in
    let es = c.args.doubts.now in
    let ds = doubts_left log in
    let i = c.loop-index.index in
    let e = c.index-doubts-index.result in
    let within : i < length es = omega arith in
    let here : slice_get es i ≡ Some e = slice_get_read es (length es) i e refl within c.index-doubts-index.is in
    let its = doubt_of_entry g cut kept c.requires.meant es c.requires.doubts i e here in
    let so = c.loop-index.invariant in
    let says : ◌≡◌ {A = Option (List ℕ × List Granule)} (Some (c.in-Some.global.now, c.in-Some.granules.now)) (Some (its.doubt.global, its.doubt.granules)) = c.in-Some.ensures ∙ kept_said c.args.cut c.args.kept.now e.prepare ∙ ap (option_map (λ (x : LoggedDoubt). (x.global, x.granules))) its.told_by in
    let global : c.in-Some.global.now ≡ its.doubt.global = (says_alike c.in-Some.global.now its.doubt.global c.in-Some.granules.now its.doubt.granules says).global_is in
    let (x, among, same) = used g cut kept c.requires.meant es c.requires.doubts i c.in-Some.global.now (c.is_used.ensures.0 c.if-is_used.true) in
    inr (
      e.prepare,
      refl,
      refused_here g cut kept c.requires.meant es c.requires.doubts c.loop-index.locks.requests i e here g.max_locks c.is_orderly.ensures.orderly (let most = c.is_orderly.ensures.within in let limit = so.limit in omega (arith, most, limit)) so.held so.names
          (inl (x, among, inl (same ∙ global))),
    )

pub returns-in_err-restore_locks-clause-refused : goal.returns-in_err-restore_locks-clause-refused
returns-in_err-restore_locks-clause-refused c =
    let g = c.args.geometry.now in
    let cut = c.args.cut in
    let kept = c.args.kept.now in
    let log = padded cut kept in
    let es = c.args.doubts.now in
    let ds = doubts_left log in
    let i = c.loop-index.index in
    let e = c.index-doubts-index.result in
    let within : i < length es = omega arith in
    let here : slice_get es i ≡ Some e = slice_get_read es (length es) i e refl within c.index-doubts-index.is in
    let its = doubt_of_entry g cut kept c.requires.meant es c.requires.doubts i e here in
    let d = its.doubt in
    let so = c.loop-index.invariant in
    let says : ◌≡◌ {A = Option (List ℕ × List Granule)} (Some (c.in-Some.global.now, c.in-Some.granules.now)) (Some (d.global, d.granules)) = c.in-Some.ensures ∙ kept_said c.args.cut c.args.kept.now e.prepare ∙ ap (option_map (λ (x : LoggedDoubt). (x.global, x.granules))) its.told_by in
    let granules : d.granules ≡ c.in-Some.granules.now = sym (says_alike c.in-Some.global.now d.global c.in-Some.granules.now d.granules says).granules_are in
    let apart : IsAmong d.txn (map (λ (x : LoggedDoubt). x.txn) (take i ds)) → ⊥ = λ there.
    let (x, among, same) = mapped_one (λ (x : LoggedDoubt). x.txn) d.txn (take i ds) there in
    never_again (λ (x : LoggedDoubt). x.txn) ds (take i ds) (drop (i + 1) ds) d x (doubts_once g cut kept c.requires.meant) (split_here ds i d its.at) among same in
    let refused = c.in_err-restore_locks.ensures.refused (take i ds) d so.held apart its.txn granules in
    let no_place : HasNoPlace g.max_locks (take i ds) d = subst (λ (limit : ℕ). HasNoPlace limit (take i ds) d) so.limit refused.1 in
    if_err c.from_residual-in_err-restore_locks.result c.from_residual-in_err-restore_locks.ensures.1 (λ error same.
    inr (
      e.prepare,
      same ∙ refused.0,
      refused_here g cut kept c.requires.meant es c.requires.doubts c.loop-index.locks.requests i e here g.max_locks c.is_orderly.ensures.orderly (let most = c.is_orderly.ensures.within in let limit = so.limit in omega (arith, most, limit)) so.held so.names no_place,
    ))

pub returns-clause-back : goal.returns-clause-back
returns-clause-back c =
    let ds = doubts_left (padded c.args.cut c.args.kept.now) in
    let i = c.loop-index.index in
    let so = c.loop-index.invariant in
    let long = as_many c.args.geometry.now c.args.cut c.args.kept.now c.requires.meant c.args.doubts.now c.requires.doubts in
    let end = c.loop-index-test.false in
    let whole : take i ds ≡ ds = take_all i ds (omega (arith, long, end)) in
    let all : AreLocksOf ds (held_by_all c.loop-index.locks.requests) = subst (λ (xs : List LoggedDoubt). AreLocksOf xs (held_by_all c.loop-index.locks.requests)) whole so.held in
    record {
      limit_is = so.limit;
      restored = record { each = all.each; all = all.all; above = all.above };
      nobody_waits = so.nobody;
      rooted = so.rooted;
      orderly = c.is_orderly-2.ensures.orderly;
    }

pub returns-clause-hold : goal.returns-clause-hold
returns-clause-hold c =
    let g = c.args.geometry.now in
    let cut = c.args.cut in
    let kept = c.args.kept.now in
    let log = padded cut kept in
    let ds = doubts_left log in
    let i = c.loop-index.index in
    let so = c.loop-index.invariant in
    let long = as_many g cut kept c.requires.meant c.args.doubts.now c.requires.doubts in
    let end = c.loop-index-test.false in
    let most = c.is_orderly-2.ensures.within in
    let limit = so.limit in
    let whole : take i ds ≡ ds = take_all i ds (omega (arith, long, end)) in
    can_hold ds c.loop-index.locks.requests (subst (λ (xs : List LoggedDoubt). AreLocksOf xs (held_by_all c.loop-index.locks.requests)) whole so.held) c.is_orderly-2.ensures.orderly g.max_locks (omega (arith, most, limit))
    (doubts_once g cut kept c.requires.meant) (subst (λ (xs : List LoggedDoubt). EachOnce (map (λ (x : LoggedDoubt). x.global) xs)) whole so.names)
