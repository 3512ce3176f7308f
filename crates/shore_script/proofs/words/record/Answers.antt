use Rattle.std.proofs.Common.{◌^◌, sym, subst, ◌∙◌, arith}
use Rattle.shore_script.specs.Reading.{Reads}
use Rattle.shore_types.specs.declared.ids.Rid.{Rid}
use Rattle.shore_script.specs.Ids.{IsNumber, IsRecord}
use Rattle.shore_script.proofs.Cuts.{lacks_at, cuts_at}
use Rattle.shore_script.proofs.Digits.{fits_short}
use Rattle.shore_script.proofs.Names.{record_needs_a_dot, record_needs_two_dots, record_words, words_of_record}
use Rattle.shore_script.proofs.words.record.Goals as goal

pub returns-in_err-store_word : goal.returns-in_err-store_word
returns-in_err-store_word c =
    let word = c.args.word.now in
    let lacks = lacks_at 46 word c.split_once.result c.split_once.ensures.cases (omega arith) c.in_err-store_word.was in
    rw c.from_residual.ensures (record_needs_a_dot word lacks)

pub returns-in_err-page_word : goal.returns-in_err-page_word
returns-in_err-page_word c =
    let word = c.args.word.now in
    let parts = c.in_ok-store_word in
    let cut = cuts_at 46 word c.split_once.result c.split_once.ensures.cases (omega arith) parts.store_word parts.rest parts.was in
    let lacks = lacks_at 46 parts.rest.now c.split_once-2.result c.split_once-2.ensures.cases (omega arith) c.in_err-page_word.was in
    rw c.from_residual-in_err-page_word.ensures (record_needs_two_dots word parts.store_word.now parts.rest.now cut.0 cut.1 lacks)

pub returns-in_err-page : goal.returns-in_err-page
returns-in_err-page c =
    let word = c.args.word.now in
    let parts = c.in_ok-store_word in
    let more = c.in_ok-page_word in
    let cut = cuts_at 46 word c.split_once.result c.split_once.ensures.cases (omega arith) parts.store_word parts.rest parts.was in
    let again = cuts_at 46 parts.rest.now c.split_once-2.result c.split_once-2.ensures.cases (omega arith) more.page_word more.slot_word more.was in
    let words : (id : Rid) → IsRecord word id → _ = record_words word parts.store_word.now parts.rest.now more.page_word.now more.slot_word.now cut.0 cut.1 again.0 again.1 in
    rw c.from_residual-in_err-page.ensures (λ id h. c.in_err-page.ensures id.page (words id h).0)

pub returns-in_err-number : goal.returns-in_err-number
returns-in_err-number c =
    let word = c.args.word.now in
    let parts = c.in_ok-store_word in
    let more = c.in_ok-page_word in
    let cut = cuts_at 46 word c.split_once.result c.split_once.ensures.cases (omega arith) parts.store_word parts.rest parts.was in
    let again = cuts_at 46 parts.rest.now c.split_once-2.result c.split_once-2.ensures.cases (omega arith) more.page_word more.slot_word more.was in
    rw c.from_residual-in_err-number.ensures (λ id h.
    let slot = (record_words word parts.store_word.now parts.rest.now more.page_word.now more.slot_word.now cut.0 cut.1 again.0 again.1 id h).1 in
    let small = slot.1 in
    c.in_err-number.ensures id.slot (slot.0, omega arith))

pub returns-in_err-slot : goal.returns-in_err-slot
returns-in_err-slot c =
    let word = c.args.word.now in
    let parts = c.in_ok-store_word in
    let more = c.in_ok-page_word in
    let cut = cuts_at 46 word c.split_once.result c.split_once.ensures.cases (omega arith) parts.store_word parts.rest parts.was in
    let again = cuts_at 46 parts.rest.now c.split_once-2.result c.split_once-2.ensures.cases (omega arith) more.page_word more.slot_word more.was in
    let short = fits_short (2 ^ 16) (omega arith) more.slot_word.now c.in_ok-number.field-0 c.try_from.result c.in_ok-number.ensures c.try_from.ensures in
    let none = subst (Reads (IsNumber (2 ^ 16) more.slot_word.now)) (sym c.ok.ensures.value ∙ c.in_err-slot.was) short in
    rw c.from_residual-in_err-slot.ensures (λ id h.
    none id.slot (record_words word parts.store_word.now parts.rest.now more.page_word.now more.slot_word.now cut.0 cut.1 again.0 again.1 id h).1)

pub returns : goal.returns
returns c =
    let word = c.args.word.now in
    let parts = c.in_ok-store_word in
    let more = c.in_ok-page_word in
    let cut = cuts_at 46 word c.split_once.result c.split_once.ensures.cases (omega arith) parts.store_word parts.rest parts.was in
    let again = cuts_at 46 parts.rest.now c.split_once-2.result c.split_once-2.ensures.cases (omega arith) more.page_word more.slot_word more.was in
    let page = c.in_ok-page.ensures in
    let short = fits_short (2 ^ 16) (omega arith) more.slot_word.now c.in_ok-number.field-0 c.try_from.result c.in_ok-number.ensures c.try_from.ensures in
    let slot = subst (Reads (IsNumber (2 ^ 16) more.slot_word.now)) (sym c.ok.ensures.value ∙ c.in_ok-slot.was) short in
    words_of_record word parts.store_word.now parts.rest.now more.page_word.now more.slot_word.now cut.0 again.0 _ page slot
