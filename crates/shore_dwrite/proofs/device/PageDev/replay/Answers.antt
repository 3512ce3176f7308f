use Rattle.std.proofs.Common.{◌≡◌, ◌+◌, ◌*◌, inl, inr, [], ◌∷◌, ℕ, List, true, false, IsTrue, length, take, drop, refl, sym, ap, subst, ◌∙◌, arith}
use Rattle.shore_disk.specs.Device.{DeviceHistory, overwritten, LeavesOnly, Stands}
use Rattle.shore_gate.specs.declared.gates.TheConstants.{OPEN, CLOSED}
use Rattle.shore_types.specs.declared.layout.Geometry.{Geometry}
use Rattle.shore_types.specs.declared.versions.Version.{Version}
use Rattle.shore_types.specs.Versions.{page_bytes, pages_begin, pages_begin-is}
use Rattle.shore_gate.specs.Checks.{IsFromOutside}
use Rattle.shore_dwrite.specs.Checks.{RefusesArea}
use Rattle.shore_dwrite.specs.Differences.{DiffersInPages, HasPages}
use Rattle.shore_dwrite.specs.Shown.{AreInPlace, IsShut, ShowsBehind, overlaid}
use Rattle.shore_dwrite.specs.Volumes.{page_at, page_count, part}
use Rattle.shore_dwrite.proofs.Moves.{if_err, stands_still}
use Rattle.shore_dwrite.proofs.ReplayMoments.{while_replayed, while_shut, replayed, shut_in_place, area_of, area_read, gate_read, gate_shut}
use Rattle.shore_dwrite.proofs.device.PageDev.replay.Goals as goal

pub returns-in_err-read_at-clause-any_moment : goal.returns-in_err-read_at-clause-any_moment
returns-in_err-read_at-clause-any_moment g c front pages s =
    let old = c.args.self.now in
    let start = g.D.Disk.history old.device in
    let shown : ShowsBehind old.geometry front pages s.image = (s.front_is, s.shows) in
    let one = c.read_at.ensures.same s.honest in
    subst (λ (h : DeviceHistory). LeavesOnly start h (ShowsBehind old.geometry front pages)) (sym (one)) (stands_still start s.image (ShowsBehind old.geometry front pages) s.stands shown)

pub returns-then-not-is_open-clause-any_moment : goal.returns-then-not-is_open-clause-any_moment
returns-then-not-is_open-clause-any_moment g c front pages s =
    let old = c.args.self.now in
    let start = g.D.Disk.history old.device in
    let shown : ShowsBehind old.geometry front pages s.image = (s.front_is, s.shows) in
    let one = c.read_at.ensures.same s.honest in
    subst (λ (h : DeviceHistory). LeavesOnly start h (ShowsBehind old.geometry front pages)) (sym (one)) (stands_still start s.image (ShowsBehind old.geometry front pages) s.stands shown)

pub returns-in_err-images-clause-any_moment : goal.returns-in_err-images-clause-any_moment
returns-in_err-images-clause-any_moment g c front pages s =
    let old = c.args.self.now in
    let start = g.D.Disk.history old.device in
    let shown : ShowsBehind old.geometry front pages s.image = (s.front_is, s.shows) in
    let one = c.read_at.ensures.same s.honest in
    let honest_one : IsTrue (g.D.Disk.is_honest c.read_at.new.self) = subst IsTrue (sym c.read_at.ensures.honest) s.honest in
    let stands_one : Stands (g.D.Disk.history c.read_at.new.self) s.image = subst (λ (h : DeviceHistory). Stands h s.image) (sym one) s.stands in
    let two : g.D.Disk.history c.read_area.new.self.device ≡ start = c.read_area.ensures.same honest_one ∙ one in
    subst (λ (h : DeviceHistory). LeavesOnly start h (ShowsBehind old.geometry front pages)) (sym (two)) (stands_still start s.image (ShowsBehind old.geometry front pages) s.stands shown)

pub returns-in_err-write_in_place-clause-any_moment : goal.returns-in_err-write_in_place-clause-any_moment
returns-in_err-write_in_place-clause-any_moment g c front pages s =
    let old = c.args.self.now in
    let start = g.D.Disk.history old.device in
    let shown : ShowsBehind old.geometry front pages s.image = (s.front_is, s.shows) in
    let one = c.read_at.ensures.same s.honest in
    let gate : part 4096 1 s.image ≡ c.read_at.new.out = sym (c.in_ok-read_at.ensures.read s.honest ∙ ap (λ (l : List ℕ). take 1 (drop 4096 l)) s.stands.read) in
    let opened : part 4096 1 s.image ≡ OPEN ∷ [] = gate ∙ gate_read c.read_at.new.out c.read_at.auto.out ∙ ap (λ (b : ℕ). b ∷ []) (c.is_open.ensures.0 c.if-not-is_open.false) in
    let area = area_of old.geometry s.image pages s.shows opened in
    let honest_one : IsTrue (g.D.Disk.is_honest c.read_at.new.self) = subst IsTrue (sym c.read_at.ensures.honest) s.honest in
    let stands_one : Stands (g.D.Disk.history c.read_at.new.self) s.image = subst (λ (h : DeviceHistory). Stands h s.image) (sym one) s.stands in
    let two : g.D.Disk.history c.read_area.new.self.device ≡ start = c.read_area.ensures.same honest_one ∙ one in
    let images = c.in_ok-images.images in
    let numbers = images.numbers.items in
    let texts = images.bytes.items in
    let batch = c.in_ok-images.ensures.batch in
    let many : length texts ≡ page_bytes c.args.self.now.geometry.version * length numbers = images.as_many ∙ ap (λ (v : Version). page_bytes v * length numbers) c.in_ok-images.ensures.version in
    let read = c.in_ok-images.ensures.found s.image honest_one stands_one in
    let honest_two : IsTrue (g.D.Disk.is_honest c.read_area.new.self.device) = subst IsTrue (sym c.read_area.ensures.honest) honest_one in
    let stands_two : Stands (g.D.Disk.history c.read_area.new.self.device) s.image = subst (λ (h : DeviceHistory). Stands h s.image) (sym two) s.stands in
    let length_is : length s.image ≡ pages_begin c.args.self.now.geometry.version + page_bytes c.args.self.now.geometry.version * page_count old.geometry = sym (ap length s.stands.read) ∙ g.met.D.Disk.keeps_length old.device s.honest ∙ old.as_long in
    let moments : LeavesOnly start (g.D.Disk.history c.write_in_place.new.self.device) (DiffersInPages c.args.self.now.geometry.version numbers s.image) =
    subst (λ (h : DeviceHistory). LeavesOnly h (g.D.Disk.history c.write_in_place.new.self.device) (DiffersInPages c.args.self.now.geometry.version numbers s.image)) two (subst (λ (it : Geometry). LeavesOnly (g.D.Disk.history c.read_area.new.self.device) (g.D.Disk.history c.write_in_place.new.self.device) (DiffersInPages it.version numbers s.image)) c.read_area.ensures.geometry
    (c.write_in_place.ensures.any_moment s.image honest_two stands_two)) in
    let three = while_replayed old.geometry front pages numbers texts batch many start s.image s.front_is (omega arith) read area.0 area.1 area.2 _ moments in
    three

pub returns-in_err-close_gate-clause-any_moment : goal.returns-in_err-close_gate-clause-any_moment
returns-in_err-close_gate-clause-any_moment g c front pages s =
    let old = c.args.self.now in
    let start = g.D.Disk.history old.device in
    let shown : ShowsBehind old.geometry front pages s.image = (s.front_is, s.shows) in
    let one = c.read_at.ensures.same s.honest in
    let gate : part 4096 1 s.image ≡ c.read_at.new.out = sym (c.in_ok-read_at.ensures.read s.honest ∙ ap (λ (l : List ℕ). take 1 (drop 4096 l)) s.stands.read) in
    let opened : part 4096 1 s.image ≡ OPEN ∷ [] = gate ∙ gate_read c.read_at.new.out c.read_at.auto.out ∙ ap (λ (b : ℕ). b ∷ []) (c.is_open.ensures.0 c.if-not-is_open.false) in
    let area = area_of old.geometry s.image pages s.shows opened in
    let honest_one : IsTrue (g.D.Disk.is_honest c.read_at.new.self) = subst IsTrue (sym c.read_at.ensures.honest) s.honest in
    let stands_one : Stands (g.D.Disk.history c.read_at.new.self) s.image = subst (λ (h : DeviceHistory). Stands h s.image) (sym one) s.stands in
    let two : g.D.Disk.history c.read_area.new.self.device ≡ start = c.read_area.ensures.same honest_one ∙ one in
    let images = c.in_ok-images.images in
    let numbers = images.numbers.items in
    let texts = images.bytes.items in
    let batch = c.in_ok-images.ensures.batch in
    let many : length texts ≡ page_bytes c.args.self.now.geometry.version * length numbers = images.as_many ∙ ap (λ (v : Version). page_bytes v * length numbers) c.in_ok-images.ensures.version in
    let read = c.in_ok-images.ensures.found s.image honest_one stands_one in
    let honest_two : IsTrue (g.D.Disk.is_honest c.read_area.new.self.device) = subst IsTrue (sym c.read_area.ensures.honest) honest_one in
    let stands_two : Stands (g.D.Disk.history c.read_area.new.self.device) s.image = subst (λ (h : DeviceHistory). Stands h s.image) (sym two) s.stands in
    let length_is : length s.image ≡ pages_begin c.args.self.now.geometry.version + page_bytes c.args.self.now.geometry.version * page_count old.geometry = sym (ap length s.stands.read) ∙ g.met.D.Disk.keeps_length old.device s.honest ∙ old.as_long in
    let moments : LeavesOnly start (g.D.Disk.history c.write_in_place.new.self.device) (DiffersInPages c.args.self.now.geometry.version numbers s.image) =
    subst (λ (h : DeviceHistory). LeavesOnly h (g.D.Disk.history c.write_in_place.new.self.device) (DiffersInPages c.args.self.now.geometry.version numbers s.image)) two (subst (λ (it : Geometry). LeavesOnly (g.D.Disk.history c.read_area.new.self.device) (g.D.Disk.history c.write_in_place.new.self.device) (DiffersInPages it.version numbers s.image)) c.read_area.ensures.geometry
    (c.write_in_place.ensures.any_moment s.image honest_two stands_two)) in
    let three = while_replayed old.geometry front pages numbers texts batch many start s.image s.front_is (omega arith) read area.0 area.1 area.2 _ moments in
    let placed = subst (λ (it : Geometry). (new : List ℕ) × Stands (g.D.Disk.history c.write_in_place.new.self.device) new × HasPages it.version s.image new numbers texts) c.read_area.ensures.geometry
    (c.in_ok-write_in_place.ensures.done s.image honest_two stands_two) in
    let honest_three : IsTrue (g.D.Disk.is_honest c.write_in_place.new.self.device) = subst IsTrue (sym c.write_in_place.ensures.honest) honest_two in
    let four = while_shut old.geometry front pages numbers texts batch many start s.image s.front_is (omega arith) read area.0 area.1 area.2 placed.0 placed.2 _ _ three placed.1 (c.close_gate.ensures.any_moment honest_three) in
    four

pub returns-clause-any_moment : goal.returns-clause-any_moment
returns-clause-any_moment g c front pages s =
    let old = c.args.self.now in
    let start = g.D.Disk.history old.device in
    let shown : ShowsBehind old.geometry front pages s.image = (s.front_is, s.shows) in
    let one = c.read_at.ensures.same s.honest in
    let gate : part 4096 1 s.image ≡ c.read_at.new.out = sym (c.in_ok-read_at.ensures.read s.honest ∙ ap (λ (l : List ℕ). take 1 (drop 4096 l)) s.stands.read) in
    let opened : part 4096 1 s.image ≡ OPEN ∷ [] = gate ∙ gate_read c.read_at.new.out c.read_at.auto.out ∙ ap (λ (b : ℕ). b ∷ []) (c.is_open.ensures.0 c.if-not-is_open.false) in
    let area = area_of old.geometry s.image pages s.shows opened in
    let honest_one : IsTrue (g.D.Disk.is_honest c.read_at.new.self) = subst IsTrue (sym c.read_at.ensures.honest) s.honest in
    let stands_one : Stands (g.D.Disk.history c.read_at.new.self) s.image = subst (λ (h : DeviceHistory). Stands h s.image) (sym one) s.stands in
    let two : g.D.Disk.history c.read_area.new.self.device ≡ start = c.read_area.ensures.same honest_one ∙ one in
    let images = c.in_ok-images.images in
    let numbers = images.numbers.items in
    let texts = images.bytes.items in
    let batch = c.in_ok-images.ensures.batch in
    let many : length texts ≡ page_bytes c.args.self.now.geometry.version * length numbers = images.as_many ∙ ap (λ (v : Version). page_bytes v * length numbers) c.in_ok-images.ensures.version in
    let read = c.in_ok-images.ensures.found s.image honest_one stands_one in
    let honest_two : IsTrue (g.D.Disk.is_honest c.read_area.new.self.device) = subst IsTrue (sym c.read_area.ensures.honest) honest_one in
    let stands_two : Stands (g.D.Disk.history c.read_area.new.self.device) s.image = subst (λ (h : DeviceHistory). Stands h s.image) (sym two) s.stands in
    let length_is : length s.image ≡ pages_begin c.args.self.now.geometry.version + page_bytes c.args.self.now.geometry.version * page_count old.geometry = sym (ap length s.stands.read) ∙ g.met.D.Disk.keeps_length old.device s.honest ∙ old.as_long in
    let moments : LeavesOnly start (g.D.Disk.history c.write_in_place.new.self.device) (DiffersInPages c.args.self.now.geometry.version numbers s.image) =
    subst (λ (h : DeviceHistory). LeavesOnly h (g.D.Disk.history c.write_in_place.new.self.device) (DiffersInPages c.args.self.now.geometry.version numbers s.image)) two (subst (λ (it : Geometry). LeavesOnly (g.D.Disk.history c.read_area.new.self.device) (g.D.Disk.history c.write_in_place.new.self.device) (DiffersInPages it.version numbers s.image)) c.read_area.ensures.geometry
    (c.write_in_place.ensures.any_moment s.image honest_two stands_two)) in
    let three = while_replayed old.geometry front pages numbers texts batch many start s.image s.front_is (omega arith) read area.0 area.1 area.2 _ moments in
    let placed = subst (λ (it : Geometry). (new : List ℕ) × Stands (g.D.Disk.history c.write_in_place.new.self.device) new × HasPages it.version s.image new numbers texts) c.read_area.ensures.geometry
    (c.in_ok-write_in_place.ensures.done s.image honest_two stands_two) in
    let honest_three : IsTrue (g.D.Disk.is_honest c.write_in_place.new.self.device) = subst IsTrue (sym c.write_in_place.ensures.honest) honest_two in
    let four = while_shut old.geometry front pages numbers texts batch many start s.image s.front_is (omega arith) read area.0 area.1 area.2 placed.0 placed.2 _ _ three placed.1 (c.close_gate.ensures.any_moment honest_three) in
    four

pub returns-then-not-is_open-clause-replayed : goal.returns-then-not-is_open-clause-replayed
returns-then-not-is_open-clause-replayed g c front pages s =
    let old = c.args.self.now in
    let start = g.D.Disk.history old.device in
    let shown : ShowsBehind old.geometry front pages s.image = (s.front_is, s.shows) in
    let one = c.read_at.ensures.same s.honest in
    let gate : part 4096 1 s.image ≡ c.read_at.new.out = sym (c.in_ok-read_at.ensures.read s.honest ∙ ap (λ (l : List ℕ). take 1 (drop 4096 l)) s.stands.read) in
    let shut : IsShut s.image = λ is. gate_shut c.read_at.new.out (λ opened. let clash : true ≡ false = sym (c.is_open.ensures.1 opened) ∙ c.if-not-is_open.true in absurd cc) (sym gate ∙ is) in
    record {
      honest = subst IsTrue (sym c.read_at.ensures.honest) s.honest;
      image = s.image;
      stands = subst (λ (h : DeviceHistory). Stands h s.image) (sym one) s.stands;
      front_is = s.front_is;
      shut = shut;
      in_place = shut_in_place old.geometry s.image pages s.shows shut;
    }

pub returns-clause-replayed : goal.returns-clause-replayed
returns-clause-replayed g c front pages s =
    let old = c.args.self.now in
    let start = g.D.Disk.history old.device in
    let shown : ShowsBehind old.geometry front pages s.image = (s.front_is, s.shows) in
    let one = c.read_at.ensures.same s.honest in
    let gate : part 4096 1 s.image ≡ c.read_at.new.out = sym (c.in_ok-read_at.ensures.read s.honest ∙ ap (λ (l : List ℕ). take 1 (drop 4096 l)) s.stands.read) in
    let opened : part 4096 1 s.image ≡ OPEN ∷ [] = gate ∙ gate_read c.read_at.new.out c.read_at.auto.out ∙ ap (λ (b : ℕ). b ∷ []) (c.is_open.ensures.0 c.if-not-is_open.false) in
    let area = area_of old.geometry s.image pages s.shows opened in
    let honest_one : IsTrue (g.D.Disk.is_honest c.read_at.new.self) = subst IsTrue (sym c.read_at.ensures.honest) s.honest in
    let stands_one : Stands (g.D.Disk.history c.read_at.new.self) s.image = subst (λ (h : DeviceHistory). Stands h s.image) (sym one) s.stands in
    let two : g.D.Disk.history c.read_area.new.self.device ≡ start = c.read_area.ensures.same honest_one ∙ one in
    let images = c.in_ok-images.images in
    let numbers = images.numbers.items in
    let texts = images.bytes.items in
    let batch = c.in_ok-images.ensures.batch in
    let many : length texts ≡ page_bytes c.args.self.now.geometry.version * length numbers = images.as_many ∙ ap (λ (v : Version). page_bytes v * length numbers) c.in_ok-images.ensures.version in
    let read = c.in_ok-images.ensures.found s.image honest_one stands_one in
    let honest_two : IsTrue (g.D.Disk.is_honest c.read_area.new.self.device) = subst IsTrue (sym c.read_area.ensures.honest) honest_one in
    let stands_two : Stands (g.D.Disk.history c.read_area.new.self.device) s.image = subst (λ (h : DeviceHistory). Stands h s.image) (sym two) s.stands in
    let length_is : length s.image ≡ pages_begin c.args.self.now.geometry.version + page_bytes c.args.self.now.geometry.version * page_count old.geometry = sym (ap length s.stands.read) ∙ g.met.D.Disk.keeps_length old.device s.honest ∙ old.as_long in
    let moments : LeavesOnly start (g.D.Disk.history c.write_in_place.new.self.device) (DiffersInPages c.args.self.now.geometry.version numbers s.image) =
    subst (λ (h : DeviceHistory). LeavesOnly h (g.D.Disk.history c.write_in_place.new.self.device) (DiffersInPages c.args.self.now.geometry.version numbers s.image)) two (subst (λ (it : Geometry). LeavesOnly (g.D.Disk.history c.read_area.new.self.device) (g.D.Disk.history c.write_in_place.new.self.device) (DiffersInPages it.version numbers s.image)) c.read_area.ensures.geometry
    (c.write_in_place.ensures.any_moment s.image honest_two stands_two)) in
    let three = while_replayed old.geometry front pages numbers texts batch many start s.image s.front_is (omega arith) read area.0 area.1 area.2 _ moments in
    let placed = subst (λ (it : Geometry). (new : List ℕ) × Stands (g.D.Disk.history c.write_in_place.new.self.device) new × HasPages it.version s.image new numbers texts) c.read_area.ensures.geometry
    (c.in_ok-write_in_place.ensures.done s.image honest_two stands_two) in
    let honest_three : IsTrue (g.D.Disk.is_honest c.write_in_place.new.self.device) = subst IsTrue (sym c.write_in_place.ensures.honest) honest_two in
    let closed = overwritten placed.0 4096 (CLOSED ∷ []) in
    let has = replayed old.geometry front pages numbers texts batch many start s.image s.front_is (omega arith) read area.0 area.1 area.2 placed.0 placed.2 in
    let same : c.write_in_place.new.self.geometry ≡ old.geometry = c.write_in_place.ensures.geometry ∙ c.read_area.ensures.geometry in
    record {
      honest = subst IsTrue (sym c.close_gate.ensures.honest) honest_three;
      image = closed;
      stands = subst (λ (l : List ℕ). Stands (g.D.Disk.history c.close_gate.new.disk) (overwritten l 4096 (CLOSED ∷ []))) placed.1.read (c.in_ok-close_gate.ensures.closed honest_three);
      front_is = has.0;
      shut = has.1;
      in_place = subst (λ (it : Geometry). AreInPlace it closed pages) (sym same) has.2;
    }

pub returns-then-not-is_open-clause-in_order : goal.returns-then-not-is_open-clause-in_order
returns-then-not-is_open-clause-in_order g c image honest stands =
    let gate : part 4096 1 image ≡ c.read_at.new.out = sym (c.in_ok-read_at.ensures.read honest ∙ ap (λ (l : List ℕ). take 1 (drop 4096 l)) stands.read) in
    let shut : IsShut image = λ is. gate_shut c.read_at.new.out (λ opened. let clash : true ≡ false = sym (c.is_open.ensures.1 opened) ∙ c.if-not-is_open.true in absurd cc) (sym gate ∙ is) in
    (page_at c.args.self.now.geometry.version image, inl (shut, λ k within. refl))

pub returns-clause-in_order : goal.returns-clause-in_order
returns-clause-in_order g c image honest stands =
    let gate : part 4096 1 image ≡ c.read_at.new.out = sym (c.in_ok-read_at.ensures.read honest ∙ ap (λ (l : List ℕ). take 1 (drop 4096 l)) stands.read) in
    let opened : part 4096 1 image ≡ OPEN ∷ [] = gate ∙ gate_read c.read_at.new.out c.read_at.auto.out ∙ ap (λ (b : ℕ). b ∷ []) (c.is_open.ensures.0 c.if-not-is_open.false) in
    let honest_one : IsTrue (g.D.Disk.is_honest c.read_at.new.self) = subst IsTrue (sym c.read_at.ensures.honest) honest in
    let stands_one : Stands (g.D.Disk.history c.read_at.new.self) image = subst (λ (h : DeviceHistory). Stands h image) (sym (c.read_at.ensures.same honest)) stands in
    let images = c.in_ok-images.images in
    let numbers = images.numbers.items in
    let texts = images.bytes.items in
    let read = c.in_ok-images.ensures.found image honest_one stands_one in
    let many : length texts ≡ page_bytes c.args.self.now.geometry.version * length numbers = images.as_many ∙ ap (λ (v : Version). page_bytes v * length numbers) c.in_ok-images.ensures.version in
    let area = area_read c.args.self.now.geometry numbers texts image c.in_ok-images.ensures.batch many read opened in
    (overlaid c.args.self.now.geometry.version numbers (drop 8192 image) (page_at c.args.self.now.geometry.version image), inr (numbers, area, λ k within. refl))

pub returns-in_err-images-clause-refused : goal.returns-in_err-images-clause-refused
returns-in_err-images-clause-refused g c image honest stands =
    let gate : part 4096 1 image ≡ c.read_at.new.out = sym (c.in_ok-read_at.ensures.read honest ∙ ap (λ (l : List ℕ). take 1 (drop 4096 l)) stands.read) in
    let opened : part 4096 1 image ≡ OPEN ∷ [] = gate ∙ gate_read c.read_at.new.out c.read_at.auto.out ∙ ap (λ (b : ℕ). b ∷ []) (c.is_open.ensures.0 c.if-not-is_open.false) in
    let honest_one : IsTrue (g.D.Disk.is_honest c.read_at.new.self) = subst IsTrue (sym c.read_at.ensures.honest) honest in
    let stands_one : Stands (g.D.Disk.history c.read_at.new.self) image = subst (λ (h : DeviceHistory). Stands h image) (sym (c.read_at.ensures.same honest)) stands in
    if_err c.from_residual-in_err-images.result c.from_residual-in_err-images.ensures.1 (λ fault is. elim (c.in_err-images.ensures.refused image honest_one stands_one) [
      | inl outside ↦ inl (subst IsFromOutside (sym is) outside)
      | inr refuses ↦ inr (opened, subst (RefusesArea c.args.self.now.geometry image) (sym is) refuses)
    ])

pub read_at-requires : goal.read_at-requires
read_at-requires g c = omega (arith, c.args.self.now.as_long, pages_begin-is c.args.self.now.geometry.version)

pub close_gate-requires : goal.close_gate-requires
close_gate-requires g c = omega (arith, c.args.self.now.as_long, pages_begin-is c.args.self.now.geometry.version, c.read_at.ensures.size, c.read_area.ensures.size, c.write_in_place.ensures.size)
