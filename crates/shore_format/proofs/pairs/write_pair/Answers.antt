use Rattle.std.proofs.Common.{◌<◌, ◌^◌, ℕ, List, [], ◌∙◌, ap, ◌∷◌, IsTrue, subst, sym, arith}
use Rattle.shore_types.specs.Versions.{least_log-least, pages_begin-is}
use Rattle.shore_disk.specs.Device.{size, overwritten}
use Rattle.shore_gate.specs.declared.gates.TheConstants.{OPEN}
use Rattle.shore_gate.specs.declared.labels.Label.{Label}
use Rattle.shore_format.specs.Fronts.{LogStandsFor}
use Rattle.shore_format.specs.Volumes.{IsEmptyVolume}
use Rattle.shore_format.proofs.FrontLemmas.{untouched, closing, opening, made}
use Rattle.shore_format.proofs.PairLemmas.{both, closing_pair, log_on, opening_pair, shut_way, volume_on}
use Rattle.shore_format.proofs.VolumeLemmas.{made_volume}
use Rattle.shore_format.proofs.pairs.write_pair.Goals as goal

pub close_gate-requires : goal.close_gate-requires
close_gate-requires g c = omega (arith, c.requires.log_length.0, least_log-least c.args.geometry.now.version)

pub close_gate-requires-2 : goal.close_gate-requires-2
close_gate-requires-2 g c = omega (arith, c.requires.volume_length, pages_begin-is c.args.geometry.now.version)

pub write_log-requires-clause-size : goal.write_log-requires-clause-size
write_log-requires-clause-size g c = omega (arith, c.requires.log_length.0, c.close_gate.ensures.size, least_log-least c.args.geometry.now.version)

pub open_gate-requires : goal.open_gate-requires
open_gate-requires g c = omega (arith, c.requires.volume_length, c.close_gate-2.ensures.size, c.write_volume.ensures.size, pages_begin-is c.args.geometry.now.version)

pub open_gate-requires-2 : goal.open_gate-requires-2
open_gate-requires-2 g c = omega (arith, c.requires.log_length.0, c.close_gate.ensures.size, c.write_log.ensures.size, least_log-least c.args.geometry.now.version)

pub returns-in_err-close_gate-clause-any_volume : goal.returns-in_err-close_gate-clause-any_volume
returns-in_err-close_gate-clause-any_volume g c honest = untouched (IsEmptyVolume c.args.geometry.now (size (g.V.Disk.history c.args.volume.now))) (g.V.Disk.history c.args.volume.now)

pub returns-in_err-write_log-clause-any_log : goal.returns-in_err-write_log-clause-any_log
returns-in_err-write_log-clause-any_log g c honest =
    let log_later = subst IsTrue (sym c.close_gate.ensures.honest) honest in
    let closed = closing (LogStandsFor c.args.geometry.now (size (g.L.Disk.history c.args.log.now)) []) _ _ _ (c.close_gate.ensures.any_moment honest) (c.write_log.ensures.any_moment log_later _ (c.in_ok-close_gate.ensures.closed honest)) in
    closed

pub returns-in_err-write_volume-clause-any_log : goal.returns-in_err-write_volume-clause-any_log
returns-in_err-write_volume-clause-any_log g c honest =
    let log_later = subst IsTrue (sym c.close_gate.ensures.honest) honest in
    let closed = closing (LogStandsFor c.args.geometry.now (size (g.L.Disk.history c.args.log.now)) []) _ _ _ (c.close_gate.ensures.any_moment honest) (c.write_log.ensures.any_moment log_later _ (c.in_ok-close_gate.ensures.closed honest)) in
    closed

pub returns-in_err-open_gate-clause-any_log : goal.returns-in_err-open_gate-clause-any_log
returns-in_err-open_gate-clause-any_log g c honest =
    let log_later = subst IsTrue (sym c.close_gate.ensures.honest) honest in
    let closed = closing (LogStandsFor c.args.geometry.now (size (g.L.Disk.history c.args.log.now)) []) _ _ _ (c.close_gate.ensures.any_moment honest) (c.write_log.ensures.any_moment log_later _ (c.in_ok-close_gate.ensures.closed honest)) in
    closed

pub returns-in_err-write_volume-clause-any_volume : goal.returns-in_err-write_volume-clause-any_volume
returns-in_err-write_volume-clause-any_volume g c honest =
    let volume_later = subst IsTrue (sym c.close_gate-2.ensures.honest) honest in
    let closed = closing (IsEmptyVolume c.args.geometry.now (size (g.V.Disk.history c.args.volume.now))) _ _ _ (c.close_gate-2.ensures.any_moment honest) (c.write_volume.ensures.any_moment volume_later _ (c.in_ok-close_gate-2.ensures.closed honest)) in
    closed

pub returns-in_err-open_gate-2-clause-any_log : goal.returns-in_err-open_gate-2-clause-any_log
returns-in_err-open_gate-2-clause-any_log g c honest =
    let log_later = subst IsTrue (sym c.close_gate.ensures.honest) honest in
    let closed = closing (LogStandsFor c.args.geometry.now (size (g.L.Disk.history c.args.log.now)) []) _ _ _ (c.close_gate.ensures.any_moment honest) (c.write_log.ensures.any_moment log_later _ (c.in_ok-close_gate.ensures.closed honest)) in
    let last = subst IsTrue (sym c.write_log.ensures.honest) log_later in
    let stood = c.in_ok-write_log.ensures.stands log_later _ (c.in_ok-close_gate.ensures.closed honest) in
    let label = c.args.of_log.now in
    let made_log = made c.args.geometry.now _ label _ c.requires.of_log (subst (λ (l : Label). l.pair < 2 ^ 64) (sym c.requires.of_log) c.requires.pair) c.requires.log_length c.requires.limits in
    opening (LogStandsFor c.args.geometry.now (size (g.L.Disk.history c.args.log.now)) []) _ _ _ _ closed stood made_log (c.open_gate-2.ensures.any_moment last)

pub returns-clause-any_log : goal.returns-clause-any_log
returns-clause-any_log g c honest =
    let log_later = subst IsTrue (sym c.close_gate.ensures.honest) honest in
    let closed = closing (LogStandsFor c.args.geometry.now (size (g.L.Disk.history c.args.log.now)) []) _ _ _ (c.close_gate.ensures.any_moment honest) (c.write_log.ensures.any_moment log_later _ (c.in_ok-close_gate.ensures.closed honest)) in
    let last = subst IsTrue (sym c.write_log.ensures.honest) log_later in
    let stood = c.in_ok-write_log.ensures.stands log_later _ (c.in_ok-close_gate.ensures.closed honest) in
    let label = c.args.of_log.now in
    let made_log = made c.args.geometry.now _ label _ c.requires.of_log (subst (λ (l : Label). l.pair < 2 ^ 64) (sym c.requires.of_log) c.requires.pair) c.requires.log_length c.requires.limits in
    opening (LogStandsFor c.args.geometry.now (size (g.L.Disk.history c.args.log.now)) []) _ _ _ _ closed stood made_log (c.open_gate-2.ensures.any_moment last)

pub returns-in_err-open_gate-clause-any_volume : goal.returns-in_err-open_gate-clause-any_volume
returns-in_err-open_gate-clause-any_volume g c honest =
    let volume_later = subst IsTrue (sym c.close_gate-2.ensures.honest) honest in
    let closed = closing (IsEmptyVolume c.args.geometry.now (size (g.V.Disk.history c.args.volume.now))) _ _ _ (c.close_gate-2.ensures.any_moment honest) (c.write_volume.ensures.any_moment volume_later _ (c.in_ok-close_gate-2.ensures.closed honest)) in
    let last = subst IsTrue (sym c.write_volume.ensures.honest) volume_later in
    let stood = c.in_ok-write_volume.ensures.stands volume_later _ (c.in_ok-close_gate-2.ensures.closed honest) in
    let made_one = made_volume c.args.geometry.now _ stood.0 c.requires.limits c.requires.pair c.requires.volume_length stood.2 in
    opening (IsEmptyVolume c.args.geometry.now (size (g.V.Disk.history c.args.volume.now))) _ _ _ stood.0 closed stood.1 made_one (c.open_gate.ensures.any_moment last)

pub returns-in_err-open_gate-2-clause-any_volume : goal.returns-in_err-open_gate-2-clause-any_volume
returns-in_err-open_gate-2-clause-any_volume g c honest =
    let volume_later = subst IsTrue (sym c.close_gate-2.ensures.honest) honest in
    let closed = closing (IsEmptyVolume c.args.geometry.now (size (g.V.Disk.history c.args.volume.now))) _ _ _ (c.close_gate-2.ensures.any_moment honest) (c.write_volume.ensures.any_moment volume_later _ (c.in_ok-close_gate-2.ensures.closed honest)) in
    let last = subst IsTrue (sym c.write_volume.ensures.honest) volume_later in
    let stood = c.in_ok-write_volume.ensures.stands volume_later _ (c.in_ok-close_gate-2.ensures.closed honest) in
    let made_one = made_volume c.args.geometry.now _ stood.0 c.requires.limits c.requires.pair c.requires.volume_length stood.2 in
    opening (IsEmptyVolume c.args.geometry.now (size (g.V.Disk.history c.args.volume.now))) _ _ _ stood.0 closed stood.1 made_one (c.open_gate.ensures.any_moment last)

pub returns-clause-any_volume : goal.returns-clause-any_volume
returns-clause-any_volume g c honest =
    let volume_later = subst IsTrue (sym c.close_gate-2.ensures.honest) honest in
    let closed = closing (IsEmptyVolume c.args.geometry.now (size (g.V.Disk.history c.args.volume.now))) _ _ _ (c.close_gate-2.ensures.any_moment honest) (c.write_volume.ensures.any_moment volume_later _ (c.in_ok-close_gate-2.ensures.closed honest)) in
    let last = subst IsTrue (sym c.write_volume.ensures.honest) volume_later in
    let stood = c.in_ok-write_volume.ensures.stands volume_later _ (c.in_ok-close_gate-2.ensures.closed honest) in
    let made_one = made_volume c.args.geometry.now _ stood.0 c.requires.limits c.requires.pair c.requires.volume_length stood.2 in
    opening (IsEmptyVolume c.args.geometry.now (size (g.V.Disk.history c.args.volume.now))) _ _ _ stood.0 closed stood.1 made_one (c.open_gate.ensures.any_moment last)

pub returns-clause-formatted : goal.returns-clause-formatted
returns-clause-formatted g c of_log of_volume log_image volume_image log_left volume_left =
    let geometry = c.args.geometry.now in
    let limits = c.requires.limits in
    let log_later = subst IsTrue (sym c.close_gate.ensures.honest) of_log in
    let log_last = subst IsTrue (sym c.write_log.ensures.honest) log_later in
    let log_stood = c.in_ok-write_log.ensures.stands log_later _ (c.in_ok-close_gate.ensures.closed of_log) in
    let log_opened = c.in_ok-open_gate-2.ensures.open log_last in
    let of = c.args.of_log.now in
    let made_log = made geometry _ of _ c.requires.of_log (subst (λ (l : Label). l.pair < 2 ^ 64) (sym c.requires.of_log) c.requires.pair) c.requires.log_length limits in
    let volume_later = subst IsTrue (sym c.close_gate-2.ensures.honest) of_volume in
    let volume_last = subst IsTrue (sym c.write_volume.ensures.honest) volume_later in
    let stood = c.in_ok-write_volume.ensures.stands volume_later _ (c.in_ok-close_gate-2.ensures.closed of_volume) in
    let volume_opened = c.in_ok-open_gate.ensures.open volume_last in
    record {
      log = subst (LogStandsFor geometry (size (g.L.Disk.history c.args.log.now)) []) (sym (log_opened.only log_image log_left ∙ ap (λ (i : List ℕ). overwritten i 0 (OPEN ∷ [])) log_stood.read)) made_log;
      volume = subst (IsEmptyVolume geometry (size (g.V.Disk.history c.args.volume.now))) (sym (volume_opened.only volume_image volume_left ∙ ap (λ (i : List ℕ). overwritten i 0 (OPEN ∷ [])) stood.1.read)) (made_volume geometry _ stood.0 limits c.requires.pair c.requires.volume_length stood.2);
    }

pub returns-in_err-close_gate-clause-any_moment : goal.returns-in_err-close_gate-clause-any_moment
returns-in_err-close_gate-clause-any_moment g c of_log of_volume =
    let first = both (g.L.Disk.history c.args.log.now) (g.V.Disk.history c.args.volume.now) in
    closing_pair c.args.geometry.now first _ (c.close_gate.ensures.any_moment of_log)

pub returns-in_err-close_gate-2-clause-any_moment : goal.returns-in_err-close_gate-2-clause-any_moment
returns-in_err-close_gate-2-clause-any_moment g c of_log of_volume =
    let first = both (g.L.Disk.history c.args.log.now) (g.V.Disk.history c.args.volume.now) in
    let log_closed = shut_way c.args.geometry.now first _ _ (c.close_gate.ensures.any_moment of_log) (c.in_ok-close_gate.ensures.closed of_log) in
    let closed = volume_on c.args.geometry.now first _ log_closed _ (c.close_gate-2.ensures.any_moment of_volume).later in
    closed.way

pub returns-in_err-write_log-clause-any_moment : goal.returns-in_err-write_log-clause-any_moment
returns-in_err-write_log-clause-any_moment g c of_log of_volume =
    let first = both (g.L.Disk.history c.args.log.now) (g.V.Disk.history c.args.volume.now) in
    let log_closed = shut_way c.args.geometry.now first _ _ (c.close_gate.ensures.any_moment of_log) (c.in_ok-close_gate.ensures.closed of_log) in
    let closed = volume_on c.args.geometry.now first _ log_closed _ (c.close_gate-2.ensures.any_moment of_volume).later in
    let log_later = subst IsTrue (sym c.close_gate.ensures.honest) of_log in
    let log_written = log_on c.args.geometry.now first _ closed _ (c.write_log.ensures.any_moment log_later _ (c.in_ok-close_gate.ensures.closed of_log)) in
    log_written.way

pub returns-in_err-write_volume-clause-any_moment : goal.returns-in_err-write_volume-clause-any_moment
returns-in_err-write_volume-clause-any_moment g c of_log of_volume =
    let first = both (g.L.Disk.history c.args.log.now) (g.V.Disk.history c.args.volume.now) in
    let log_closed = shut_way c.args.geometry.now first _ _ (c.close_gate.ensures.any_moment of_log) (c.in_ok-close_gate.ensures.closed of_log) in
    let closed = volume_on c.args.geometry.now first _ log_closed _ (c.close_gate-2.ensures.any_moment of_volume).later in
    let log_later = subst IsTrue (sym c.close_gate.ensures.honest) of_log in
    let log_written = log_on c.args.geometry.now first _ closed _ (c.write_log.ensures.any_moment log_later _ (c.in_ok-close_gate.ensures.closed of_log)) in
    let volume_later = subst IsTrue (sym c.close_gate-2.ensures.honest) of_volume in
    let written = volume_on c.args.geometry.now first _ log_written _ (c.write_volume.ensures.any_moment volume_later _ (c.in_ok-close_gate-2.ensures.closed of_volume)).later in
    written.way

pub returns-in_err-open_gate-clause-any_moment : goal.returns-in_err-open_gate-clause-any_moment
returns-in_err-open_gate-clause-any_moment g c of_log of_volume =
    let first = both (g.L.Disk.history c.args.log.now) (g.V.Disk.history c.args.volume.now) in
    let log_closed = shut_way c.args.geometry.now first _ _ (c.close_gate.ensures.any_moment of_log) (c.in_ok-close_gate.ensures.closed of_log) in
    let closed = volume_on c.args.geometry.now first _ log_closed _ (c.close_gate-2.ensures.any_moment of_volume).later in
    let log_later = subst IsTrue (sym c.close_gate.ensures.honest) of_log in
    let log_written = log_on c.args.geometry.now first _ closed _ (c.write_log.ensures.any_moment log_later _ (c.in_ok-close_gate.ensures.closed of_log)) in
    let volume_later = subst IsTrue (sym c.close_gate-2.ensures.honest) of_volume in
    let written = volume_on c.args.geometry.now first _ log_written _ (c.write_volume.ensures.any_moment volume_later _ (c.in_ok-close_gate-2.ensures.closed of_volume)).later in
    let volume_last = subst IsTrue (sym c.write_volume.ensures.honest) volume_later in
    let volume_open = volume_on c.args.geometry.now first _ written _ (c.open_gate.ensures.any_moment volume_last).later in
    volume_open.way

pub returns-in_err-open_gate-2-clause-any_moment : goal.returns-in_err-open_gate-2-clause-any_moment
returns-in_err-open_gate-2-clause-any_moment g c of_log of_volume =
    let first = both (g.L.Disk.history c.args.log.now) (g.V.Disk.history c.args.volume.now) in
    let log_closed = shut_way c.args.geometry.now first _ _ (c.close_gate.ensures.any_moment of_log) (c.in_ok-close_gate.ensures.closed of_log) in
    let closed = volume_on c.args.geometry.now first _ log_closed _ (c.close_gate-2.ensures.any_moment of_volume).later in
    let log_later = subst IsTrue (sym c.close_gate.ensures.honest) of_log in
    let log_written = log_on c.args.geometry.now first _ closed _ (c.write_log.ensures.any_moment log_later _ (c.in_ok-close_gate.ensures.closed of_log)) in
    let volume_later = subst IsTrue (sym c.close_gate-2.ensures.honest) of_volume in
    let written = volume_on c.args.geometry.now first _ log_written _ (c.write_volume.ensures.any_moment volume_later _ (c.in_ok-close_gate-2.ensures.closed of_volume)).later in
    let volume_last = subst IsTrue (sym c.write_volume.ensures.honest) volume_later in
    let volume_open = volume_on c.args.geometry.now first _ written _ (c.open_gate.ensures.any_moment volume_last).later in
    let log_last = subst IsTrue (sym c.write_log.ensures.honest) log_later in
    let log_stood = c.in_ok-write_log.ensures.stands log_later _ (c.in_ok-close_gate.ensures.closed of_log) in
    let of = c.args.of_log.now in
    let made_log = made c.args.geometry.now _ of _ c.requires.of_log (subst (λ (l : Label). l.pair < 2 ^ 64) (sym c.requires.of_log) c.requires.pair) c.requires.log_length c.requires.limits in
    let stood = c.in_ok-write_volume.ensures.stands volume_later _ (c.in_ok-close_gate-2.ensures.closed of_volume) in
    let volume_opened = c.in_ok-open_gate.ensures.open volume_last in
    let made_one = made_volume c.args.geometry.now _ stood.0 c.requires.limits c.requires.pair c.requires.volume_length stood.2 in
    opening_pair c.args.geometry.now first _ _ made_log
    (λ image left. subst (IsEmptyVolume c.args.geometry.now (size (g.V.Disk.history c.args.volume.now))) (sym (volume_opened.only image left ∙ ap (λ (i : List ℕ). overwritten i 0 (OPEN ∷ [])) stood.1.read)) made_one)
    volume_open log_stood _ (c.open_gate-2.ensures.any_moment log_last)

pub returns-clause-any_moment : goal.returns-clause-any_moment
returns-clause-any_moment g c of_log of_volume =
    let first = both (g.L.Disk.history c.args.log.now) (g.V.Disk.history c.args.volume.now) in
    let log_closed = shut_way c.args.geometry.now first _ _ (c.close_gate.ensures.any_moment of_log) (c.in_ok-close_gate.ensures.closed of_log) in
    let closed = volume_on c.args.geometry.now first _ log_closed _ (c.close_gate-2.ensures.any_moment of_volume).later in
    let log_later = subst IsTrue (sym c.close_gate.ensures.honest) of_log in
    let log_written = log_on c.args.geometry.now first _ closed _ (c.write_log.ensures.any_moment log_later _ (c.in_ok-close_gate.ensures.closed of_log)) in
    let volume_later = subst IsTrue (sym c.close_gate-2.ensures.honest) of_volume in
    let written = volume_on c.args.geometry.now first _ log_written _ (c.write_volume.ensures.any_moment volume_later _ (c.in_ok-close_gate-2.ensures.closed of_volume)).later in
    let volume_last = subst IsTrue (sym c.write_volume.ensures.honest) volume_later in
    let volume_open = volume_on c.args.geometry.now first _ written _ (c.open_gate.ensures.any_moment volume_last).later in
    let log_last = subst IsTrue (sym c.write_log.ensures.honest) log_later in
    let log_stood = c.in_ok-write_log.ensures.stands log_later _ (c.in_ok-close_gate.ensures.closed of_log) in
    let of = c.args.of_log.now in
    let made_log = made c.args.geometry.now _ of _ c.requires.of_log (subst (λ (l : Label). l.pair < 2 ^ 64) (sym c.requires.of_log) c.requires.pair) c.requires.log_length c.requires.limits in
    let stood = c.in_ok-write_volume.ensures.stands volume_later _ (c.in_ok-close_gate-2.ensures.closed of_volume) in
    let volume_opened = c.in_ok-open_gate.ensures.open volume_last in
    let made_one = made_volume c.args.geometry.now _ stood.0 c.requires.limits c.requires.pair c.requires.volume_length stood.2 in
    opening_pair c.args.geometry.now first _ _ made_log
    (λ image left. subst (IsEmptyVolume c.args.geometry.now (size (g.V.Disk.history c.args.volume.now))) (sym (volume_opened.only image left ∙ ap (λ (i : List ℕ). overwritten i 0 (OPEN ∷ [])) stood.1.read)) made_one)
    volume_open log_stood _ (c.open_gate-2.ensures.any_moment log_last)
