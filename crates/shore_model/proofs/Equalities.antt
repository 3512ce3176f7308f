-- What `==` of values says.
use Rattle.std.proofs.Common.{◌≡◌, ℕ, List, Bool, true, false, Option, None, Some, refl, ap}
use Rattle.std.specs.Option.{option_eq}
use Rattle.std.specs.Prelude.{◌&&◌, ◌==◌, nat_eq}
use Rattle.std.specs.Bool.{Decides}
use Rattle.std.specs.Cmp.Lexicographic.{pointwise}
use Rattle.std.proofs.lemmas.Bool.Decides.{Decides-eqb}
use Rattle.std.proofs.lemmas.Slice.Eq.{bytes_eq-Decides}
use Rattle.shore_types.proofs.Equalities.{Decides-and, Decides-same, rid_eq-Decides}
use Rattle.shore_types.specs.declared.ids.PageId.{PageId}
use Rattle.shore_types.specs.declared.ids.Rid.{Rid}
use Rattle.shore_types.specs.declared.locking.Granule.{Granule}
use Rattle.shore_types.specs.declared.locking.Granule.TheVariants.{Volume, Store, Page, Record}
use Rattle.shore_types.specs.declared.locking.Mode.{Mode}
use Rattle.shore_types.specs.declared.locking.Mode.TheVariants.{IS, IX, SH, SIX, EX, UD}
use Rattle.shore_types.specs.contracts.locking.GranulePartialEq.TheImpl as granule
use Rattle.shore_types.specs.contracts.locking.ModePartialEq.TheImpl as mode
use Rattle.shore_model.specs.declared.requests.Request.{Request}
use Rattle.shore_model.specs.contracts.requests.RequestPartialEq.TheImpl as request
use Rattle.shore_model.specs.declared.histories.Decision.{Decision}
use Rattle.shore_model.specs.declared.histories.Decision.TheVariants.{Commit, Prepare, RollBack}
use Rattle.shore_model.specs.contracts.histories.DecisionPartialEq.TheImpl.{eq-value}

pub decision_eq-Decides : (a b : Decision) → Decides (eq-value.it a b) (a ≡ b)
decision_eq-Decides (Commit t) (Commit u) = Decides-same (Decides-eqb t u) (ap Commit) (λ e. cc)
decision_eq-Decides (Prepare t g) (Prepare u k) =
    Decides-same (Decides-and _ _ (Decides-eqb t u) (bytes_eq-Decides g k)) (λ h i. Prepare (h.0 i) (h.1 i)) (λ e. (cc, cc))
decision_eq-Decides (RollBack t) (RollBack u) = Decides-same (Decides-eqb t u) (ap RollBack) (λ e. cc)
decision_eq-Decides _ _ = (λ h. cc, λ e. cc)

mode_eq-Decides : (a b : Mode) → Decides (mode.eq-value.it a b) (a ≡ b)
mode_eq-Decides IS IS = (λ h. refl, λ e. refl)
mode_eq-Decides IX IX = (λ h. refl, λ e. refl)
mode_eq-Decides SH SH = (λ h. refl, λ e. refl)
mode_eq-Decides SIX SIX = (λ h. refl, λ e. refl)
mode_eq-Decides EX EX = (λ h. refl, λ e. refl)
mode_eq-Decides UD UD = (λ h. refl, λ e. refl)
mode_eq-Decides _ _ = (λ h. cc, λ e. cc)

maybe_eq-Decides : (a b : Option Mode) → Decides (option_eq mode.eq-value.it a b) (a ≡ b)
maybe_eq-Decides None None = (λ h. refl, λ e. refl)
maybe_eq-Decides (Some a) (Some b) = Decides-same (mode_eq-Decides a b) (ap Some) (λ e. cc)
maybe_eq-Decides _ _ = (λ h. cc, λ e. cc)

page_eq-Decides : (a b : PageId) → Decides ((a.store == b.store) && (a.page == b.page)) (a ≡ b)
page_eq-Decides a b =
    Decides-same (Decides-and _ _ (Decides-eqb a.store b.store) (Decides-eqb a.page b.page))
    (λ h i. record { store = h.0 i; page = h.1 i })
    (λ e. (ap (λ (p : PageId). p.store) e, ap (λ (p : PageId). p.page) e))

granule_eq-Decides : (a b : Granule) → Decides (granule.eq-value.it a b) (a ≡ b)
granule_eq-Decides Volume Volume = (λ h. refl, λ e. refl)
granule_eq-Decides (Store s) (Store t) = Decides-same (Decides-eqb s t) (ap Store) (λ e. cc)
granule_eq-Decides (Page p) (Page q) = Decides-same (page_eq-Decides p q) (ap Page) (λ e. cc)
granule_eq-Decides (Record r) (Record q) = Decides-same (rid_eq-Decides r q) (ap Record) (λ e. cc)
granule_eq-Decides _ _ = (λ h. cc, λ e. cc)

pub request_eq-Decides : (a b : Request) → Decides (request.eq-value.it a b) (a ≡ b)
request_eq-Decides a b =
    Decides-same
    (Decides-and _ _ (Decides-eqb a.txn b.txn) (Decides-and _ _ (granule_eq-Decides a.granule b.granule)
    (Decides-and _ _ (maybe_eq-Decides a.held b.held) (maybe_eq-Decides a.wanted b.wanted))))
    (λ h i. record { txn = h.0 i; granule = h.1.0 i; held = h.1.1.0 i; wanted = h.1.1.1 i })
    (λ e. (ap (λ (r : Request). r.txn) e, (ap (λ (r : Request). r.granule) e, (ap (λ (r : Request). r.held) e, ap (λ (r : Request). r.wanted) e))))
