use Rattle.std.proofs.Common.{◌≡◌, ◌*◌, ◌+◌, ◌∷◌, ◌++◌, [], ℕ, Option, Some, None, IsSomeAnd, List, take, get_or, length, sym, ap, subst, ◌∙◌}
use Rattle.std.proofs.lemmas.List.{take_more}
use Rattle.std.proofs.lemmas.List.Elements.{All-get_or}
use Rattle.shore_types.specs.declared.versions.Version.{Version}
use Rattle.shore_types.specs.Versions.{page_bytes}
use Rattle.shore_types.specs.declared.layout.TheConstants.{MAX_BATCH_PAGES}
use Rattle.shore_dwrite.specs.Images.{numbers_of, texts_of, version_of}
use Rattle.shore_dwrite.specs.Shown.{AreTexts}
use Rattle.shore_dwrite.proofs.Growing.{texts_on}
use Rattle.shore_pool.specs.FrameMaps.{frame_at}
use Rattle.shore_pool.specs.Pages.{HasText, IsTextOf}
use Rattle.shore_pool.specs.declared.frame.Frame.{Frame}
use Rattle.shore_pool.proofs.gathering.gather.Goals as goal

pub loop-i-init : goal.loop-i-init
loop-i-init c = (c.clear.ensures.numbers, tt, c.clear.ensures.room MAX_BATCH_PAGES c.requires.room, c.clear.ensures.version)

pub push_page-requires-clause-there : goal.push_page-requires-clause-there
push_page-requires-clause-there c =
    let at = frame_at c.args.frames.now in
    let ns = c.args.numbers.now in
    subst (λ (v : Version). IsSomeAnd (at (get_or ns c.loop-i.i 0)) (λ f. f.page.version ≡ v)) (sym c.loop-i.invariant.3)
    (All-get_or (λ k. IsSomeAnd (at k) (λ f. f.page.version ≡ version_of c.args.batch.now)) ns c.loop-i.i 0 c.loop-i-test.true c.requires.there)

pub loop-i-preserved : goal.loop-i-preserved
loop-i-preserved c =
    let at = frame_at c.args.frames.now in
    let ns = c.args.numbers.now in
    let i = c.loop-i.i in
    let n = get_or ns i 0 in
    let old = c.loop-i.batch in
    let new = c.push_page.new.batch in
    let pushed = c.push_page.ensures.text in
    let here = subst (λ (v : Version). IsSomeAnd (at n) (λ f. f.page.version ≡ v)) (sym c.loop-i.invariant.3)
    (All-get_or (λ k. IsSomeAnd (at k) (λ f. f.page.version ≡ version_of c.args.batch.now)) ns i 0 c.loop-i-test.true c.requires.there) in
    let longer : take (i + 1) ns ≡ take i ns ++ n ∷ [] = take_more ns i 0 c.loop-i-test.true in
    let numbers_are : numbers_of new ≡ take (i + 1) ns = c.push_page.ensures.number ∙ ap (λ (l : List ℕ). l ++ n ∷ []) c.loop-i.invariant.0 ∙ sym longer in
    let long : length (texts_of old) ≡ page_bytes (version_of old) * length (take i ns) = old.as_many ∙ ap (λ (l : List ℕ). page_bytes (version_of old) * length l) c.loop-i.invariant.0 in
    let texts = texts_on (version_of old) (HasText at) (take i ns) (texts_of old) n pushed.0 long (whole (version_of old) pushed.0 (at n) pushed.2 here) c.loop-i.invariant.1 pushed.2 in (
      numbers_are,
      subst (λ (v : Version). AreTexts v (HasText at) (take (i + 1) ns) (texts_of new)) (sym c.push_page.ensures.version)
          (subst (λ (l : List ℕ). AreTexts (version_of old) (HasText at) l (texts_of new)) (sym longer) (subst (AreTexts (version_of old) (HasText at) (take i ns ++ n ∷ [])) (sym pushed.1) texts)),
      c.push_page.ensures.room,
      c.push_page.ensures.version ∙ c.loop-i.invariant.3,
    )
  where
    whole : (v : Version) (text : List ℕ) (slot : Option Frame) → IsSomeAnd slot (λ f. IsTextOf f text) → IsSomeAnd slot (λ f. f.page.version ≡ v) → length text ≡ page_bytes v
    whole v text None has own = absurd has
    whole v text (Some f) has own = has.whole ∙ ap page_bytes own
