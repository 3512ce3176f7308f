use Rattle.std.proofs.Common.{◌≡◌, ◌*◌, inl, inr, ℕ, List, take, drop, IsTrue, Ok, length, sym, ap, subst, ◌∙◌, ◌≤◌, arith}
use Rattle.std.proofs.Math.Nat.{mul-le-mul_left}
use Rattle.std.proofs.lemmas.List.{take_at}
use Rattle.shore_types.specs.Versions.{page_bytes, page_bytes-least, pages_begin-is}
use Rattle.shore_disk.specs.Device.{seen}
use Rattle.shore_dwrite.specs.Checks.{IsFirstBad, table_verdict}
use Rattle.shore_dwrite.specs.Tables.{IsTable}
use Rattle.shore_dwrite.specs.Volumes.{page_count, part}
use Rattle.shore_dwrite.proofs.Moves.{if_err}
use Rattle.shore_dwrite.proofs.Overlays.{bad_alike}
use Rattle.shore_dwrite.proofs.device.PageDev.read_area.Goals as goal

pub returns-in_err-check_images-clause-refused : goal.returns-in_err-check_images-clause-refused
returns-in_err-check_images-clause-refused g c image honest stands =
    let geometry = c.args.self.now.geometry in
    let numbers = c.in_ok-numbers.numbers.items in
    let table = c.read_at.new.out in
    let texts = c.read_at-2.new.out in
    let numbers_are : c.deref.result.now ≡ numbers = c.deref.ensures.value in
    let texts_are : c.deref-2.result.now ≡ texts = c.deref-2.ensures.value ∙ take_at texts _ _ (c.read_at-2.auto.out ∙ c.deref_mut.ensures.len) in
    let still : IsTrue (g.D.Disk.is_honest c.read_at.new.self) = subst IsTrue (sym c.read_at.ensures.honest) honest in
    let table_is : table ≡ part 4100 132 image = c.in_ok-read_at.ensures.read honest ∙ ap (λ (l : List ℕ). take 132 (drop 4100 l)) stands.read in
    let long : length c.deref_mut.result.now ≡ page_bytes c.args.self.now.geometry.version * length numbers = c.deref_mut.ensures.len ∙ c.in_ok-bytes.ensures.len ∙ ap (λ (n : ℕ). n * c.len.result) c.page_bytes.ensures.is ∙ ap (λ (n : ℕ). page_bytes c.args.self.now.geometry.version * n) (c.len.ensures ∙ c.in_ok-numbers.numbers.ok.0) in
    let read : take (page_bytes c.args.self.now.geometry.version * length numbers) (drop 8192 image) ≡ texts =
    ap (λ (n : ℕ). take n (drop 8192 image)) (sym long) ∙ ap (λ (l : List ℕ). take (length c.deref_mut.result.now) (drop 8192 l)) (sym (ap seen (c.in_ok-read_at.ensures.same honest) ∙ stands.read)) ∙ sym (c.in_ok-read_at-2.ensures.read still) in
    if_err c.from_residual-in_err-check_images.result c.from_residual-in_err-check_images.ensures.1 (λ fault is. elim c.in_err-check_images.ensures.refused [
      | inl memory ↦ inl (inr (is ∙ memory))
      | inr bad ↦ inr (inr (
        numbers,
        bad.0,
        subst (λ (t : List ℕ). IsTable t numbers) table_is c.in_ok-numbers.ensures.passed,
        subst (λ (t : List ℕ). table_verdict (page_count geometry) t ≡ Ok tt) table_is (subst (λ (n : ℕ). table_verdict n table ≡ Ok tt) c.page_count.ensures c.in_ok-numbers.ensures.verdict),
        bad_alike geometry numbers (drop 8192 image) texts bad.0 read (subst (λ (l : List ℕ). IsFirstBad geometry numbers l bad.0) texts_are (subst (λ (l : List ℕ). IsFirstBad geometry l c.deref-2.result.now bad.0) numbers_are bad.1)),
        is ∙ bad.2,
      ))
    ])

pub read_at-requires : goal.read_at-requires
read_at-requires g c = omega (arith, c.args.self.now.as_long, pages_begin-is c.args.self.now.geometry.version, page_bytes-least c.args.self.now.geometry.version)

pub read_at-requires-2 : goal.read_at-requires-2
read_at-requires-2 g c =
    let few : c.len.result ≤ 32 = omega (arith, c.len.ensures, c.in_ok-numbers.numbers.ok.0, c.in_ok-numbers.ensures.count.1) in
    let most : page_bytes c.args.self.now.geometry.version * c.len.result ≤ page_bytes c.args.self.now.geometry.version * 32 = mul-le-mul_left (page_bytes c.args.self.now.geometry.version) few in
    let len : length c.deref_mut.result.now ≡ page_bytes c.args.self.now.geometry.version * c.len.result = c.deref_mut.ensures.len ∙ c.in_ok-bytes.ensures.len ∙ ap (λ (n : ℕ). n * c.len.result) c.page_bytes.ensures.is in
    omega (arith, c.args.self.now.as_long, pages_begin-is c.args.self.now.geometry.version, len, most, c.read_at.ensures.size)
