-- The moments of a format, one call after another.
use Rattle.std.proofs.Common.{◌≡◌, ◌≢◌, inl, inr, ℕ, List, [], ◌∷◌, ◌++◌, refl, sym, ◌∙◌, ap, subst}
use Rattle.std.proofs.lemmas.Bool.{cases_eq}
use Rattle.shore_types.specs.declared.layout.Geometry.{Geometry}
use Rattle.shore_disk.specs.Device.{DeviceHistory, IsLater, LeavesOnly, Stands, Torn, TornFrom, left_since, may_leave, moment, overwritten, size}
use Rattle.shore_disk.proofs.Moments.{at_end, started}
use Rattle.shore_gate.specs.declared.gates.TheConstants.{OPEN, CLOSED}
use Rattle.shore_format.specs.Fronts.{IsShut, LogStandsFor}
use Rattle.shore_format.specs.Pairs.{AreFormatted, FormatGoesOn, FormatMoment, FormatPath, FormatWay, PairLeftByFormat}
use Rattle.shore_format.specs.Volumes.{IsEmptyVolume}
use Rattle.shore_format.proofs.FrontLemmas.{one_byte, shut}

abbrev pub both : DeviceHistory → DeviceHistory → FormatMoment
both log volume = record { log = log; volume = volume }

no_later : (h : DeviceHistory) → IsLater h h
no_later h = ([], refl)

-- now is one of the moments since another, and the one moment since now
now_left : (old new : DeviceHistory) → IsLater old new → (c : List ℕ) → may_leave new c → left_since new (moment old) c
now_left old new later = at_end old new (left_since new (moment old)) (record { later = later; each = λ c left. left })

left_now : (h : DeviceHistory) (c : List ℕ) → left_since h (moment h) c → may_leave h c
left_now h = (started h (may_leave h) (λ c left. left)).each

-- one step more
path_on : (P : List ℕ → List ℕ → Type 0) (first mid next : FormatMoment) (moments : List FormatMoment) → FormatPath P first moments mid → FormatGoesOn P mid next
    → FormatPath P first (moments ++ next ∷ []) next
path_on P first mid next [] path step = (
  subst (λ (m : FormatMoment). FormatGoesOn P m next) path.0 step,
  (refl, (λ l w l_left w_left. step.each l w (now_left mid.log next.log step.later.0 l l_left) (now_left mid.volume next.volume step.later.1 w w_left))),
)
path_on P first mid next (m ∷ moments) path step = (path.0, path_on P m mid next moments path.1 step)

module _ (g : Geometry) (first : FormatMoment) where
  abbrev P : List ℕ → List ℕ → Type 0
  P = PairLeftByFormat g first

  -- before the first call
  first_path : FormatPath P first [] first
  first_path = (refl, (λ l w l_left w_left. inr (inr ((l, l_left, inl refl), w_left))))

  pub at_first : FormatWay g first first
  at_first = record { moments = []; path = first_path }

  -- the gate of the log's label is being closed
  pub closing_pair : (log : DeviceHistory) → LeavesOnly first.log log (TornFrom 0 1 first.log) → FormatWay g first (both log first.volume)
  closing_pair log closes = record {
    moments = both log first.volume ∷ [];
    path = path_on P first first (both log first.volume) [] first_path (record {
      later = (closes.later, no_later first.volume);
      one = inr refl;
      each = λ l w l_left w_left. inr (inr (closes.each l l_left, left_now first.volume w w_left));
    });
  }

  -- the way to a moment at which it is closed
  pub record ShutWay (now : FormatMoment) : Type 0 where
    pub way : FormatWay g first now
    pub shut : (c : List ℕ) → may_leave now.log c → IsShut c

  pub shut_way : (log : DeviceHistory) (rest : List ℕ) → LeavesOnly first.log log (TornFrom 0 1 first.log) → Stands log (CLOSED ∷ rest) → ShutWay (both log first.volume)
  shut_way log rest closes stands = record { way = closing_pair log closes; shut = λ c left. shut c rest (stands.only c left) }

  -- the log is called behind it
  pub log_on : (now : FormatMoment) → ShutWay now → (log : DeviceHistory) → LeavesOnly now.log log IsShut → ShutWay (both log now.volume)
  log_on now before log leaves = record {
    way = record {
      moments = before.way.moments ++ both log now.volume ∷ [];
      path = path_on P first now (both log now.volume) before.way.moments before.way.path (record {
        later = (leaves.later, no_later now.volume);
        one = inr refl;
        each = λ l w l_left w_left. inl (leaves.each l l_left);
      });
    };
    shut = at_end now.log log IsShut leaves;
  }

  -- the volume is called while it is closed
  pub volume_on : (now : FormatMoment) → ShutWay now → (volume : DeviceHistory) → IsLater now.volume volume → ShutWay (both now.log volume)
  volume_on now before volume later = record {
    way = record {
      moments = before.way.moments ++ both now.log volume ∷ [];
      path = path_on P first now (both now.log volume) before.way.moments before.way.path (record {
        later = (no_later now.log, later);
        one = inl refl;
        each = λ l w l_left w_left. inl (before.shut l (left_now now.log l l_left));
      });
    };
    shut = before.shut;
  }

  -- it is being opened, the last call
  module _ (now : FormatMoment) (rest : List ℕ) (made : LogStandsFor g (size first.log) [] (OPEN ∷ rest))
      (empty : (c : List ℕ) → may_leave now.volume c → IsEmptyVolume g (size first.volume) c) where
    any_gate : (gate : ℕ) (w : List ℕ) → may_leave now.volume w → P (gate ∷ rest) w
    any_gate gate w left = elim (cases_eq gate OPEN) [
      | inl is_open ↦ inr (inl (record { log = subst (λ (b : ℕ). LogStandsFor g (size first.log) [] (b ∷ rest)) (sym is_open) made; volume = empty w left }))
      | inr other ↦ inl (gate, rest, other, refl)
    ]

    gate_torn : (l w : List ℕ) → Torn 0 1 (CLOSED ∷ rest) l → may_leave now.volume w → P l w
    gate_torn l w (inl same) left = subst (λ (i : List ℕ). P i w) (sym same) (any_gate CLOSED w left)
    gate_torn l w (inr torn) left =
        let b = one_byte torn.0 torn.1 in
        let is : l ≡ b.0 ∷ rest = torn.2 ∙ ap (λ (i : List ℕ). overwritten (CLOSED ∷ rest) 0 i) b.1 in
        subst (λ (i : List ℕ). P i w) (sym is) (any_gate b.0 w left)

    pub opening_pair : ShutWay now → Stands now.log (CLOSED ∷ rest) → (log : DeviceHistory) → LeavesOnly now.log log (TornFrom 0 1 now.log) → FormatWay g first (both log now.volume)
    opening_pair before stands log opens = record {
      moments = before.way.moments ++ both log now.volume ∷ [];
      path = path_on P first now (both log now.volume) before.way.moments before.way.path (record {
        later = (opens.later, no_later now.volume);
        one = inr refl;
        each = λ l w l_left w_left.
            let torn = opens.each l l_left in
            gate_torn l w (subst (λ (d : List ℕ). Torn 0 1 d l) (stands.only torn.0 torn.1) torn.2) (left_now now.volume w w_left);
      });
    }
