-- The stats' cut of an accepted division is twice its cut links. Assumes nothing.
use Prim.Native.Nat.{ℕ, ◌*◌, ◌/◌}
use mathlib.Core.Path.{◌≡◌, ap, ◌∙◌}
use mathlib.Core.List.{List}
use native.Mathlib.Omega.{arith}
use Rattle.links.specs.Graph.{links_cut}
use Rattle.links.specs.declared.options.AbtmMultilevelStats.{AbtmMultilevelStats}
use Rattle.links.proofs.CutLaws.{cut_twice}
use Rattle.multilevel.specs.Causes.{Call}
use Rattle.multilevel.specs.Division.{divided, stats_of, division}
use Rattle.multilevel.specs.Demand3.{site_rows}
use Rattle.multilevel.proofs.DivisionLaws.{tested}
use Rattle.multilevel.proofs.Demand3Laws.{trace, divided-by}

module _ (c : Call) (owners : List ℕ) (s : AbtmMultilevelStats) (e : (division c).outcome ≡ divided owners s) where
  pub cut-told : s.final_cut_nnz ≡ 2 * links_cut (site_rows c) owners
  unfolding stats_of
  cut-told =
      let d = divided-by c owners s e in
      let sound = (tested c d.0).lists.sound in
      ap (λ (x : AbtmMultilevelStats). x.final_cut_nnz) d.2 ∙ rw d.1 (cut_twice (site_rows c) sound (trace c).owners)

  -- "that the half is whole": it is "the number of links whose ends have different owners"
  pub half-told : s.final_cut_nnz / 2 ≡ links_cut (site_rows c) owners
  half-told = omega (arith, cut-told)
