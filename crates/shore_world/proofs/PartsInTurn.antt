-- Parts that a world answers behind one another are the records of the store.
use Rattle.std.proofs.Common.{◌≡◌, ◌≤◌, ℕ, List, [], ◌∷◌, ◌++◌, None, flat_map, sym, ap, subst, ◌∙◌, arith}
use Rattle.shore_types.specs.declared.ids.Rid.{Rid}
use Rattle.shore_types.specs.declared.layout.Geometry.{Geometry}
use Rattle.shore_disk.specs.declared.device.Disk.{Ghosts}
use Rattle.shore_model.specs.Records.{Records, part_of, scan_of}
use Rattle.shore_heap.specs.Scans.{part_end}
use Rattle.laws_calls.specs.States.{State}
use Rattle.laws_checkpoints.specs.CheckpointedStores.{CheckpointedStore}
use Rattle.shore_core.specs.Cores.{IsSafe}
use Rattle.shore_world.specs.declared.world.World.{World}
use Rattle.shore_world.specs.Parts.{ArePartsFrom}
use Rattle.shore_world.specs.Worlds.{IsAt, geometry_in}
use Rattle.shore_world.proofs.PartsJoined.{no_part, parts_joined, whole_part}

abbrev Part : Type 0
Part = List (Rid × List ℕ)

module _ {L V : Type 0} {G : Ghosts L} {H : Ghosts V} (store : ℕ) where
  abbrev end_in : World L V G H → ℕ
  end_in w = part_end (geometry_in w) store None

  -- no part goes on behind the store
  before_end : (parts : List Part) (w : World L V G H) (from : ℕ) → ArePartsFrom w store from parts → from ≤ end_in w
  before_end [] w from are = omega (arith, are)
  before_end (part ∷ parts) w from are =
      let last : are.0 ≤ end_in are.1 = before_end parts are.1 are.0 are.5 in
      let here : are.0 ≤ end_in w = subst (λ (g : Geometry). are.0 ≤ part_end g store None) are.4.geometry last in
      omega (arith, here, are.2)

  -- the state stays from world to world, and so do its records
  in_turn : (parts : List Part) (w : World L V G H) (from : ℕ) (log_front front : List ℕ) (disk : ℕ → List ℕ) (s : State) (kept : CheckpointedStore) → IsAt w log_front front disk s kept
      → IsSafe (geometry_in w) s → ArePartsFrom w store from parts → flat_map (λ (part : Part). part) parts ≡ part_of store from (end_in w) s.sessions.records
  in_turn [] w from log_front front disk s kept at safe are = sym (ap (λ (n : ℕ). part_of store from n s.sessions.records) (sym are) ∙ no_part store from s.sessions.records)
  in_turn (part ∷ parts) w from log_front front disk s kept at safe are =
      let R : Records = s.sessions.records in
      let next : ℕ = are.0 in
      let later : World L V G H = are.1 in
      let like = are.4 in
      let comes = like.state log_front front disk s kept at safe in
      let ends : end_in later ≡ end_in w = ap (λ (g : Geometry). part_end g store None) like.geometry in
      let here : part ≡ part_of store from next R = are.3 front disk s kept at.is_in safe at.over in
      let rest : flat_map (λ (part : Part). part) parts ≡ part_of store next (end_in later) R =
      in_turn parts later next log_front front comes.left s comes.after comes.at (subst (λ (g : Geometry). IsSafe g s) (sym like.geometry) safe) are.5 in
      let inside : next ≤ end_in w = subst (λ (n : ℕ). next ≤ n) ends (before_end parts later next are.5) in
      ap (λ (l : Part). l ++ flat_map (λ (part : Part). part) parts) here ∙ ap (λ (l : Part). part_of store from next R ++ l) rest
      ∙ ap (λ (n : ℕ). part_of store from next R ++ part_of store next n R) ends ∙ parts_joined store from next (end_in w) are.2 inside R

  pub all_in_turn : (parts : List Part) (w : World L V G H) (log_front front : List ℕ) (disk : ℕ → List ℕ) (s : State) (kept : CheckpointedStore) → IsAt w log_front front disk s kept
      → IsSafe (geometry_in w) s → ArePartsFrom w store 0 parts → flat_map (λ (part : Part). part) parts ≡ scan_of store s.sessions.records
  all_in_turn parts w log_front front disk s kept at safe are =
      in_turn parts w 0 log_front front disk s kept at safe are ∙ whole_part (geometry_in w) store s.sessions.records safe.inside
