-- Paths to an outlet of a terrain at no more than a level.
use Rattle.border_graph.proofs.Prelude.{IsFilledLevel, List, ℤ, end_of, int_max, max-le, subst, sym, ≤ℤ_antisym, ≤ℤ_same, ≤ℤ_trans, ◌≤ℤ◌}
use Rattle.lattice.specs.Terrain.{Terrain, IsPath, crest, LeadsOut, IsLawful}
use Rattle.labelling.proofs.Parts.{go_on, go_back}

module _ {P : Type 0} (t : Terrain P) where
  -- water leaves from the point at no more than the level
  pub record WayOut (level : ℤ) (x : P) : Type 0 where
    pub rest : List P
    pub out : LeadsOut t x rest
    pub below : crest t x rest ≤ℤ level

  pub along : (level : ℤ) (x : P) (rest : List P) → IsPath t x rest → crest t x rest ≤ℤ level → WayOut level (end_of t x rest) → WayOut level x
  along level x rest path low way =
      let on = go_on t x rest way.rest path way.out in
      record {
        rest = on.0;
        out = on.1.0;
        below = ≤ℤ_trans (crest t x on.0) (int_max (crest t x rest) (crest t (end_of t x rest) way.rest)) level on.1.1 (max-le (crest t x rest) (crest t (end_of t x rest) way.rest) level low way.below);
      }

  pub back : (law : IsLawful t) (level : ℤ) (x : P) (rest : List P) → IsPath t x rest → crest t x rest ≤ℤ level → WayOut level x → WayOut level (end_of t x rest)
  back law level x rest path low way =
      let on = go_back t law x rest way.rest path way.out in
      record {
        rest = on.0;
        out = on.1.0;
        below = ≤ℤ_trans (crest t (end_of t x rest) on.0) (int_max (crest t x rest) (crest t x way.rest)) level on.1.1 (max-le (crest t x rest) (crest t x way.rest) level low way.below);
      }

  -- a filled level is the level of a path, and the least level of paths is the filled level
  pub way_of_level : (x : P) (level : ℤ) → IsFilledLevel t x level → WayOut level x
  way_of_level x level fill = record { rest = fill.reached.0; out = fill.reached.1.0; below = subst (λ v. v ≤ℤ level) (sym fill.reached.1.1) (≤ℤ_same level) }

  pub level_of_ways : (x : P) (level : ℤ) → WayOut level x → ((lower : ℤ) → WayOut lower x → level ≤ℤ lower) → IsFilledLevel t x level
  level_of_ways x level way least = record {
    reached = (way.rest, (way.out, ≤ℤ_antisym (crest t x way.rest) level way.below (least (crest t x way.rest) (record { rest = way.rest; out = way.out; below = ≤ℤ_same (crest t x way.rest) }))));
    least = λ rest out. least (crest t x rest) (record { rest = rest; out = out; below = ≤ℤ_same (crest t x rest) });
  }
