use Rattle.std.proofs.Common.{◌≡◌, ◌<◌, inl, inr, ℕ, List, take, drop, ap, subst, ◌∙◌, length, replicate, arith}
use Rattle.std.proofs.lemmas.List.{length-replicate, length-take-le}
use Rattle.shore_types.specs.declared.faults.Device.TheVariants as Device
use Rattle.shore_types.specs.declared.faults.Fault.TheVariants as Fault
use Rattle.shore_types.specs.Versions.{page_bytes}
use Rattle.shore_dwrite.specs.Volumes.{HasNoPage, page_at, page_count, page_number, page_offset}
use Rattle.shore_dwrite.proofs.Moves.{on_err}
use Rattle.shore_dwrite.proofs.device.PageDev.read_page.Goals as goal

pub returns-clause-refused : goal.returns-clause-refused
returns-clause-refused g c front pages s =
    let k = page_number c.args.self.now.geometry c.args.id in
    let bytes = c.read_at.new.out in
    let long : length (take c.page_bytes.result (replicate {A = ℕ} 16384 0)) ≡ page_bytes c.args.self.now.geometry.version =
    length-take-le c.page_bytes.result (replicate {A = ℕ} 16384 0) (omega (arith, c.page_bytes.ensures.most, length-replicate {A = ℕ} 16384 0)) ∙ c.page_bytes.ensures.is in
    let at_is : c.page_offset-at.result ≡ page_offset c.args.self.now.geometry.version k = c.page_offset-at.ensures ∙ ap (page_offset c.args.self.now.geometry.version) c.number.ensures.number in
    let within : k < page_count c.args.self.now.geometry = subst (λ (n : ℕ). n < page_count c.args.self.now.geometry) c.number.ensures.number c.number.ensures.within in
    let read : bytes ≡ pages k =
    c.in_ok-read_at.ensures.read s.honest ∙ ap (λ (l : List ℕ). take (length (take c.page_bytes.result (replicate {A = ℕ} 16384 0))) (drop c.page_offset-at.result l)) s.stands.read ∙ ap (λ (n : ℕ). take n (drop c.page_offset-at.result s.image)) long ∙ ap (λ (n : ℕ). take (page_bytes c.args.self.now.geometry.version) (drop n s.image)) at_is ∙ s.in_place k within in
    on_err c.find_page.result c.find_page.ensures.refused (λ fault cause. elim cause [
      | inl memory ↦ inl (inr memory)
      | inr damaged ↦ inr (damaged.0 ∙ ap (Fault.Damaged Device.Volume) at_is, subst (λ (l : List ℕ). HasNoPage c.args.self.now.geometry.version l c.args.id c.args.last) read damaged.1)
    ])

pub returns-clause-refused_at : goal.returns-clause-refused_at
returns-clause-refused_at g c image honest stands =
    let k = page_number c.args.self.now.geometry c.args.id in
    let bytes = c.read_at.new.out in
    let long : length (take c.page_bytes.result (replicate {A = ℕ} 16384 0)) ≡ page_bytes c.args.self.now.geometry.version =
    length-take-le c.page_bytes.result (replicate {A = ℕ} 16384 0) (omega (arith, c.page_bytes.ensures.most, length-replicate {A = ℕ} 16384 0)) ∙ c.page_bytes.ensures.is in
    let at_is : c.page_offset-at.result ≡ page_offset c.args.self.now.geometry.version k = c.page_offset-at.ensures ∙ ap (page_offset c.args.self.now.geometry.version) c.number.ensures.number in
    let read : bytes ≡ page_at c.args.self.now.geometry.version image k =
    c.in_ok-read_at.ensures.read honest ∙ ap (λ (l : List ℕ). take (length (take c.page_bytes.result (replicate {A = ℕ} 16384 0))) (drop c.page_offset-at.result l)) stands.read ∙ ap (λ (n : ℕ). take n (drop c.page_offset-at.result image)) long ∙ ap (λ (n : ℕ). take (page_bytes c.args.self.now.geometry.version) (drop n image)) at_is in
    on_err c.find_page.result c.find_page.ensures.refused (λ fault cause. elim cause [
      | inl memory ↦ inl (inr memory)
      | inr damaged ↦ inr (damaged.0 ∙ ap (Fault.Damaged Device.Volume) at_is, subst (λ (l : List ℕ). HasNoPage c.args.self.now.geometry.version l c.args.id c.args.last) read damaged.1)
    ])
