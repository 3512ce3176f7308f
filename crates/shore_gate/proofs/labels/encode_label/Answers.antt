use Rattle.std.proofs.Common.{List, ℕ, length, replicate, ap, ◌∙◌, ◌++◌, ◌-◌, ◌*◌, arith, vec_len}
use Rattle.std.specs.List.{flat_map}
use Rattle.byteorder.specs.Endian.{little_bytes}
use Rattle.shore_gate.specs.Label.{label_bytes, label_head}
use Rattle.shore_gate.proofs.LabelLemmas.{padded}
use Rattle.shore_gate.proofs.labels.encode_label.Goals as goal

pub returns-clause-text : goal.returns-clause-text
unfolding label_bytes
returns-clause-text c =
    let stores = c.args.label.now.stores in
    let zeros = replicate {A = ℕ} (480 - 4 * length stores) 0 in
    let len = ap (λ (s : List ℕ). length s) c.as_slice.ensures in
    let written = c.in_ok-push_stores.ensures.text
    ∙ ap (λ (h : List ℕ). h ++ flat_map (little_bytes 4) c.as_slice.result.now) c.in_ok-bytes.ensures.text
    ∙ ap (λ (s : List ℕ). label_head c.args.device c.args.label.now ++ flat_map (little_bytes 4) s) c.as_slice.ensures in
    c.in_ok-resize.ensures.items ∙ padded c.push_stores.new.bytes.items (vec_len c.push_stores.new.bytes) (length stores) (omega (arith, c.in_ok-push_stores.ensures.len, c.in_ok-bytes.ensures.len)) (omega (arith, c.in_ok-push_stores.ensures.len, c.in_ok-bytes.ensures.len)) c.requires
    ∙ ap (λ (b : List ℕ). b ++ zeros) written
